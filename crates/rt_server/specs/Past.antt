-- What a server's caller has seen of the store's history.
use Rattle.std.specs.Prelude.{◌≡◌, ◌<◌, Option, Some, None}
use Rattle.rt_base.specs.declared.numbers.Offset.{Offset}
use Rattle.rt_base.specs.declared.numbers.Partition.{Partition}
use Rattle.rt_base.specs.declared.numbers.Sequence.{Sequence}
use Rattle.rt_lists.specs.Members.{IsFront}
use Rattle.rt_model.specs.declared.seg_meta.SeenMeta.{SeenMeta}
use Rattle.rt_model.specs.Lawful.{IsLawfulHistory}
use Rattle.rt_model.specs.Metadata.{HasNode}
use Rattle.rt_model.specs.Starting.{Starting}
use Rattle.rt_past.specs.Segments.{OpensAt}
use Rattle.rt_store.specs.Contents.{starting_of}
use Rattle.rt_store.specs.Meaning.{Meaning}
use Rattle.rt_consumer.specs.declared.consumer.Consumer.{Consumer}
use Rattle.rt_consumer.specs.Consumer.{end_of}
use Rattle.rt_server.specs.Table.{Segments, ServerState, replica_of}

-- the store's history begins with the cluster's starting contents, and is lawful
abbrev pub HasHistory : ServerState → Meaning → Type 0
HasHistory s m = IsLawfulHistory (starting_of s.setup) m.seen

-- the segment's replica, where there is one, starts where its node was created
abbrev pub StartsWithItsNode : ServerState → Meaning → Partition → Sequence → Type 0
StartsWithItsNode s m p q =
    (r : Consumer) → replica_of s.table p q ≡ Some r → (p.0 < s.setup.partitions) × HasNode m.seen p q.0 (OpensAt r.start)

-- a committed segment ends past the start of the replica
abbrev pub MayLearnOf : Segments → Partition → Sequence → SeenMeta → Type 0
MayLearnOf t p q seen =
    (r : Consumer) (end : Offset) → replica_of t p q ≡ Some r → end_of seen ≡ Some end → r.start.0 < end.0

abbrev pub MayLearn : Segments → Partition → Sequence → Option SeenMeta → Type 0
MayLearn t p q None = Unit {0}
MayLearn t p q (Some seen) = MayLearnOf t p q seen

-- a call that reads keeps its server's setup, and what its caller has seen grows lawfully
pub record SeesLawfully (s : Starting) (before after : Meaning) (old new : ServerState) : Type 0 where
  pub setup : new.setup ≡ old.setup
  pub grows : IsFront before.seen after.seen
  pub lawful : IsLawfulHistory s before.seen → IsLawfulHistory s after.seen
