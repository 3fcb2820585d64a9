-- Replicas that have dropped their rows, and segments of which an instance has nothing to consume.
use Rattle.std.specs.Prelude.{◌≡◌, ◌⊎◌, false, List, Some, slice_get}
use Rattle.rt_base.specs.declared.numbers.Instance.{Instance}
use Rattle.rt_base.specs.declared.numbers.Offset.{Offset}
use Rattle.rt_base.specs.declared.numbers.Partition.{Partition}
use Rattle.rt_base.specs.declared.numbers.Sequence.{Sequence}
use Rattle.rt_consumer.specs.declared.consumer.Consumer.{Consumer}
use Rattle.rt_consumer.specs.declared.phase.Phase.{Phase}
use Rattle.rt_consumer.specs.declared.phase.Phase.TheVariants as phase
use Rattle.rt_lists.specs.Members.{Has}
use Rattle.rt_model.specs.Entries.{entries_of}
use Rattle.rt_model.specs.Metadata.{BecameFinal}
use Rattle.rt_model.specs.declared.ideal_state.IdealEntry.{IdealEntry}
use Rattle.rt_model.specs.declared.ideal_state.Mode.TheVariants.{Consuming}
use Rattle.rt_model.specs.declared.node.Seen.{Seen}
use Rattle.rt_model.specs.declared.reply.Reply.{Reply}
use Rattle.rt_model.specs.declared.reply.ReplyStatus.{ReplyStatus}
use Rattle.rt_model.specs.declared.reply.ReplyStatus.TheVariants as status
use Rattle.rt_model.specs.declared.request.Request.{Request}
use Rattle.rt_model.specs.declared.request.RequestKind.TheVariants as kind
use Rattle.rt_model.specs.declared.sent.Sent.TheVariants as sent
use Rattle.rt_model.specs.declared.setup.Setup.{Setup}
use Rattle.rt_nodes.specs.declared.server_node.ServerNode.{ServerNode}
use Rattle.rt_past.specs.Past.{Past}
use Rattle.rt_server.specs.Table.{replica_of}
use Rattle.rt_state.specs.declared.state.State.{State}
use Rattle.rt_heal.specs.Reachable.{ComesTo}

-- the instance has no CONSUMING entry of the segment
abbrev pub NoneConsumes : List IdealEntry → Partition → Sequence → Instance → Type 0
NoneConsumes es p q i =
    (e : IdealEntry) → Has es e → e.partition ≡ p → e.sequence ≡ q → e.instance ≡ i → e.mode ≡ Consuming → ⊥

-- the segment has ended, or the instance has nothing of it to consume
abbrev pub IsOut : List Seen → Partition → Sequence → Instance → Type 0
IsOut h p q i = BecameFinal h p q.0 ⊎ NoneConsumes (entries_of h) p q i

-- ---- answers

-- what goes with CATCH_UP, with DISCARD, and with PROCESSED
abbrev pub GoesWith : (Offset → Type 0) → Type 0 → Type 0 → ReplyStatus → Type 0
GoesWith catches discard processed (status.CatchUp offset) = catches offset
GoesWith catches discard processed status.Discard = discard
GoesWith catches discard processed status.Processed = processed
GoesWith catches discard processed status.Hold = Unit {0}
GoesWith catches discard processed (status.Commit offset) = Unit {0}
GoesWith catches discard processed (status.Keep seen) = Unit {0}
GoesWith catches discard processed status.NotLeader = Unit {0}
GoesWith catches discard processed status.CommitContinue = Unit {0}
GoesWith catches discard processed (status.UploadSuccess path) = Unit {0}
GoesWith catches discard processed (status.CommitSuccess seen) = Unit {0}
GoesWith catches discard processed (status.Failed cause) = Unit {0}

-- a request is answered by CATCH_UP to an offset that a replica can come to, by DISCARD where its segment has ended, and a stop by
-- PROCESSED where its sender is out
abbrev pub IsToldSo : Setup → Past → Request → ReplyStatus → Type 0
IsToldSo setup a q s =
    GoesWith (ComesTo setup a q.partition q.sequence) (BecameFinal a.history q.partition q.sequence.0)
    (q.kind ≡ kind.Stopped → IsOut a.history q.partition q.sequence q.number.instance) s

-- so it is of each reply, and the request that it answers
abbrev pub AreToldSo : Setup → Past → Type 0
AreToldSo setup a =
    (q : Request) (r : Reply) → Has a.sent (sent.Request q) → Has a.sent (sent.Reply r) → q.number ≡ r.number → IsToldSo setup a q r.status

-- ---- replicas

-- a replica dropped its rows by an answer, or by a stop that was processed
abbrev pub IsDropped : Phase → Type 0
IsDropped (phase.Discarded d) = d.stopped ≡ false
IsDropped (phase.Unsealed o) = ⊥
IsDropped (phase.Retained kept) = ⊥
IsDropped (phase.Committed kept) = ⊥

-- the segment of each such replica has ended, or its instance has nothing of it to consume
abbrev pub AreDroppedOut : State → Type 0
AreDroppedOut w =
    (i : Instance) (n : ServerNode) → slice_get w.servers i.0 ≡ Some n → (p : Partition) (q : Sequence) (r : Consumer)
    → replica_of n.server.table p q ≡ Some r → IsDropped r.phase → IsOut w.store.writes p q i
