-- What a node has of its cluster grows with what its fronts have seen.
use Rattle.std.proofs.Common.{List}
use Rattle.rt_deep.specs.Files.{AreOnce}
use Rattle.rt_deep.specs.declared.deep_put.DeepPut.{DeepPut}
use Rattle.rt_front.specs.Histories.{Known}
use Rattle.rt_ground.specs.Histories.{whats}
use Rattle.rt_ground.specs.Lawfulness.{IsLawfulStore}
use Rattle.rt_ground.specs.declared.appended.Appended.{Appended}
use Rattle.rt_ground.proofs.Entries.{whats_front}
use Rattle.rt_ground.proofs.Stores.{opened_front}
use Rattle.rt_ground.proofs.Streams.{grows_front, length_log}
use Rattle.rt_lists.specs.Members.{Has, IsFront}
use Rattle.rt_live_names.specs.Views.{view_of}
use Rattle.rt_model.specs.declared.node.Seen.{Seen}
use Rattle.rt_model.specs.declared.sent.Sent.{Sent}
use Rattle.rt_model.specs.declared.setup.Setup.{Setup}
use Rattle.rt_past.specs.View.{IsView, Within}
use Rattle.rt_store.specs.Contents.{starting_of}

pub view_grows : (setup : Setup) (store1 store2 : Known Seen) (deep1 deep2 : Known DeepPut) (stream1 stream2 : Known Appended) (sent1 sent2 : List Sent)
    → IsFront store1.seen store2.seen → IsFront deep1.seen deep2.seen → IsFront stream1.seen stream2.seen → ((m : Sent) → Has sent1 m → Has sent2 m)
    → Within (view_of setup store1 deep1 stream1 sent1) (view_of setup store2 deep2 stream2 sent2)
view_grows setup store1 store2 deep1 deep2 stream1 stream2 sent1 sent2 store deep stream sent = record {
  log = grows_front setup.partitions stream1.seen stream2.seen stream;
  history = opened_front (starting_of setup) store1.seen store2.seen store;
  files = whats_front deep1.seen deep2.seen deep;
  sent = sent;
}

pub is_view : (setup : Setup) (store : Known Seen) (deep : Known DeepPut) (stream : Known Appended) (sent : List Sent)
    → IsLawfulStore (starting_of setup) store.seen → AreOnce (whats deep.seen) → IsView setup (view_of setup store deep stream sent)
is_view setup store deep stream sent lawful once = record {
  partitions = length_log setup.partitions (whats stream.seen);
  lawful = lawful.entries.history;
  once = once;
}
