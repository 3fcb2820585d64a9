-- What a repair keeps, and what it writes.
use Rattle.std.specs.Prelude.{ℕ, Bool, true, false, ◌-◌, ◌&&◌, nat_lt, if◌then◌else◌, List, length, Option, Some, None}
use Rattle.rt_base.specs.declared.numbers.Instance.{Instance}
use Rattle.rt_base.specs.declared.numbers.Moment.{Moment}
use Rattle.rt_base.specs.declared.numbers.Offset.{Offset}
use Rattle.rt_base.specs.declared.numbers.Partition.{Partition}
use Rattle.rt_base.specs.declared.numbers.Sequence.{Sequence}
use Rattle.rt_model.specs.declared.decision.Decision.{Decision}
use Rattle.rt_model.specs.declared.decision.Decision.TheVariants.{Nothing, Create, AddToIdeal, Abandon}
use Rattle.rt_model.specs.declared.ideal_state.IdealEntry.{IdealEntry}
use Rattle.rt_model.specs.declared.node.Key.TheVariants as key
use Rattle.rt_model.specs.declared.node.Node.{Node}
use Rattle.rt_model.specs.declared.node.Node.TheVariants as node
use Rattle.rt_model.specs.declared.node.Seen.{Seen}
use Rattle.rt_model.specs.declared.setup.Setup.{Setup}
use Rattle.rt_model.specs.Entries.{entries_by}
use Rattle.rt_model.specs.Ideal.{goes_on, commit_step_of, add_consuming_of}
use Rattle.rt_model.specs.Lawful.{Write, create, set, create_after}
use Rattle.rt_model.specs.Repair.{decide_last}
use Rattle.rt_assign.specs.Placement.{replicas_of}
use Rattle.rt_meta.specs.Lives.{first_of, abandoned_of}
use Rattle.rt_repair.specs.declared.read_node.ReadNode.{ReadNode}
use Rattle.rt_repair.specs.declared.repair.RepairStage.{RepairStage}
use Rattle.rt_repair.specs.declared.repair.RepairStage.TheVariants.{Listing, Reading, Writing, Ended}
use Rattle.rt_repair.specs.ReadNode.{listed_again}

-- a repair: its partition, the table's name, the instances of the partition, the grace, and how far it is
pub record Repairing : Type 0 where
  pub partition : Partition
  pub table : List ℕ
  pub instances : List Instance
  pub grace : ℕ
  pub stage : RepairStage

abbrev pub beginning : Partition → Setup → Repairing
beginning p setup =
    record {
      partition = p;
      table = setup.table.name;
      instances = replicas_of p setup.table.replication setup.servers;
      grace = setup.grace;
      stage = Listing;
    }

abbrev pub is_ended : RepairStage → Bool
is_ended Listing = false
is_ended (Reading last follows) = false
is_ended (Writing last follows ideal) = false
is_ended Ended = true

abbrev pub IsUnended : RepairStage → Type 0
IsUnended Listing = Unit {0}
IsUnended (Reading last follows) = Unit {0}
IsUnended (Writing last follows ideal) = Unit {0}
IsUnended Ended = ⊥

abbrev pub goes : Repairing → RepairStage → Repairing
goes r stage = record r { stage = stage }

-- what is decided by what was read
abbrev pub decision_at : Repairing → Moment → Option ReadNode → Seen → Decision
decision_at r now last ideal = decide_last r.partition (entries_by ideal.node) now r.grace (listed_again last)

-- a segment is created after the last one, or as the first one
abbrev pub create_write : Repairing → Moment → Sequence → Offset → Option ReadNode → Write
create_write r now s start None = create (key.Meta r.partition s) (node.Meta (first_of r.table r.partition s start now))
create_write r now s start (Some last) =
    create_after (key.Meta r.partition s) (node.Meta (first_of r.table r.partition s start now)) last.seen

abbrev pub abandon_by : Moment → Seen → Node → Option Write
abandon_by now from (node.Meta meta) = Some (set from (node.Meta (abandoned_of meta now)))
abandon_by now from (node.Ideal i) = None
abandon_by now from node.Boot = None
abandon_by now from node.Gone = None

-- the last segment is given up
abbrev pub abandon_write : Moment → Option ReadNode → Option Write
abandon_write now None = None
abandon_write now (Some last) = abandon_by now last.seen last.seen.node

-- the entries with those of the segment: by the commit of the one before it, where that is Done
abbrev pub added_entries : Repairing → Sequence → Bool → List IdealEntry → List IdealEntry
added_entries r s follows es =
    if follows && nat_lt 0 s.0
    then commit_step_of es r.partition (record { 0 = s.0 - 1 }) r.instances
    else add_consuming_of es r.partition s r.instances

-- the segment gets its entries, where the partition goes on with it: otherwise nothing would change
abbrev pub ideal_write : Repairing → Sequence → Bool → Seen → Option Write
ideal_write r s follows ideal =
    if goes_on (entries_by ideal.node) r.partition s.0
    then Some (set ideal (node.Ideal (record { entries = added_entries r s follows (entries_by ideal.node) })))
    else None

-- the number of entries that what is decided sets
abbrev pub set_by : Repairing → Bool → Seen → Decision → Option ℕ
set_by r follows ideal Nothing = None
set_by r follows ideal (Create s start) = None
set_by r follows ideal (AddToIdeal s) =
    let es = entries_by ideal.node in
    if goes_on es r.partition s.0 then Some (length (added_entries r s follows es)) else None
set_by r follows ideal (Abandon s) = None

abbrev pub set_at : Repairing → Moment → RepairStage → Option ℕ
set_at r now Listing = None
set_at r now (Reading last follows) = None
set_at r now (Writing last follows ideal) = set_by r follows ideal (decision_at r now last ideal)
set_at r now Ended = None

-- the number of entries of the ideal state that the next step at this moment sets
abbrev pub set_entries : Repairing → Moment → Option ℕ
set_entries r now = set_at r now r.stage
