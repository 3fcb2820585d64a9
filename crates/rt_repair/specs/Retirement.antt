-- What a retirement keeps, and what it writes.
use Rattle.std.specs.Prelude.{ℕ, Bool, true, false, length, Option, Some, None}
use Rattle.rt_base.specs.declared.numbers.Moment.{Moment}
use Rattle.rt_base.specs.declared.numbers.Partition.{Partition}
use Rattle.rt_base.specs.declared.numbers.Sequence.{Sequence}
use Rattle.rt_model.specs.declared.node.Node.TheVariants as node
use Rattle.rt_model.specs.declared.node.Seen.{Seen}
use Rattle.rt_model.specs.Entries.{entries_by}
use Rattle.rt_model.specs.Ideal.{remove_segment_of}
use Rattle.rt_model.specs.Lawful.{Write, set, delete}
use Rattle.rt_repair.specs.declared.read_node.ReadNode.{ReadNode}
use Rattle.rt_repair.specs.declared.retirement.RetireStage.{RetireStage}
use Rattle.rt_repair.specs.declared.retirement.RetireStage.TheVariants.{Listing, Reading, Writing, Ended}
use Rattle.rt_repair.specs.declared.retiring.Retiring.{Retiring}
use Rattle.rt_repair.specs.declared.retiring.Retiring.TheVariants.{Nothing, Remove, Delete}
use Rattle.rt_repair.specs.ReadNode.{listed_again}
use Rattle.rt_repair.specs.Retired.{retire_by}

-- a retirement: its partition, how long a segment is kept, and how far it is
pub record Retirement : Type 0 where
  pub partition : Partition
  pub keep : ℕ
  pub stage : RetireStage

abbrev pub beginning : Partition → ℕ → Retirement
beginning p keep = record { partition = p; keep = keep; stage = Listing }

abbrev pub is_ended : RetireStage → Bool
is_ended Listing = false
is_ended (Reading lowest) = false
is_ended (Writing lowest ideal) = false
is_ended Ended = true

abbrev pub IsUnended : RetireStage → Type 0
IsUnended Listing = Unit {0}
IsUnended (Reading lowest) = Unit {0}
IsUnended (Writing lowest ideal) = Unit {0}
IsUnended Ended = ⊥

abbrev pub goes : Retirement → RetireStage → Retirement
goes r stage = record r { stage = stage }

-- what is decided by what was read
abbrev pub retiring_at : Retirement → Moment → Option ReadNode → Seen → Retiring
retiring_at r now lowest ideal = retire_by r.partition (entries_by ideal.node) now r.keep (listed_again lowest)

-- the segment leaves the ideal state
abbrev pub remove_write : Retirement → Sequence → Seen → Write
remove_write r s ideal =
    set ideal (node.Ideal (record { entries = remove_segment_of (entries_by ideal.node) r.partition s }))

-- the lowest node is deleted, as it was listed
abbrev pub delete_write : Option ReadNode → Option Write
delete_write None = None
delete_write (Some lowest) = Some (delete lowest.seen)

-- the number of entries that what is decided sets
abbrev pub set_by : Retirement → Seen → Retiring → Option ℕ
set_by r ideal Nothing = None
set_by r ideal (Remove s) = Some (length (remove_segment_of (entries_by ideal.node) r.partition s))
set_by r ideal (Delete s) = None

abbrev pub set_at : Retirement → Moment → RetireStage → Option ℕ
set_at r now Listing = None
set_at r now (Reading lowest) = None
set_at r now (Writing lowest ideal) = set_by r ideal (retiring_at r now lowest ideal)
set_at r now Ended = None

-- the number of entries of the ideal state that the next step at this moment sets
abbrev pub set_entries : Retirement → Moment → Option ℕ
set_entries r now = set_at r now r.stage
