-- Segments that can be consumed.
use Rattle.std.specs.Prelude.{◌≡◌, ◌⊎◌, List}
use Rattle.rt_base.specs.declared.numbers.Partition.{Partition}
use Rattle.rt_base.specs.declared.numbers.Sequence.{Sequence}
use Rattle.rt_lists.specs.Members.{Has}
use Rattle.rt_model.specs.Metadata.{metadata_of, IsDoneStatus, IsInProgress}
use Rattle.rt_model.specs.declared.node.Listed.{Listed}
use Rattle.rt_model.specs.declared.node.Seen.{Seen}

-- the segment is listed, in progress or committed: it isn't given up, nor deleted
pub record IsConsumable (h : List Seen) (p : Partition) (q : Sequence) : Type 0 where
  pub listed : Listed
  pub has : Has (metadata_of h p) listed
  pub is : listed.sequence ≡ q
  pub goes : IsInProgress listed.seen.meta.status ⊎ IsDoneStatus listed.seen.meta.status
