-- What one node has of its cluster: what its fronts have seen, and what it sent and took.
use Rattle.std.specs.Prelude.{List}
use Rattle.rt_deep.specs.declared.deep_put.DeepPut.{DeepPut}
use Rattle.rt_front.specs.Histories.{Known}
use Rattle.rt_ground.specs.Histories.{whats}
use Rattle.rt_ground.specs.StoreCalls.{seen_by as store_seen}
use Rattle.rt_ground.specs.StreamCalls.{seen_by as stream_seen}
use Rattle.rt_ground.specs.declared.appended.Appended.{Appended}
use Rattle.rt_model.specs.declared.node.Seen.{Seen}
use Rattle.rt_model.specs.declared.sent.Sent.{Sent}
use Rattle.rt_model.specs.declared.setup.Setup.{Setup}
use Rattle.rt_past.specs.Past.{Past}
use Rattle.rt_store.specs.Contents.{starting_of}

abbrev pub view_of : Setup → Known Seen → Known DeepPut → Known Appended → List Sent → Past
view_of setup store deep stream sent = record {
  log = stream_seen setup.partitions stream;
  history = store_seen (starting_of setup) store;
  files = whats deep.seen;
  sent = sent;
}
