-- The write of a step, and the entries of the ideal state that it sets.
use Rattle.std.specs.Prelude.{Bool, List, Option, Some, None}
use Rattle.rt_base.specs.declared.numbers.Moment.{Moment}
use Rattle.rt_model.specs.declared.decision.Decision.{Decision}
use Rattle.rt_model.specs.declared.decision.Decision.TheVariants as decision
use Rattle.rt_model.specs.declared.ideal_state.IdealEntry.{IdealEntry}
use Rattle.rt_model.specs.declared.node.Node.{Node}
use Rattle.rt_model.specs.declared.node.Node.TheVariants as node
use Rattle.rt_model.specs.declared.node.Seen.{Seen}
use Rattle.rt_model.specs.Lawful.{Write, create, set, delete, create_after, bump}
use Rattle.rt_store.specs.Answers.{after_call}
use Rattle.rt_store.specs.Calls.{told_on}
use Rattle.rt_store.specs.Meaning.{Told}
use Rattle.rt_repair.specs.declared.read_node.ReadNode.{ReadNode}
use Rattle.rt_repair.specs.declared.repair.RepairStage.{RepairStage}
use Rattle.rt_repair.specs.declared.repair.RepairStage.TheVariants as repair
use Rattle.rt_repair.specs.declared.retirement.RetireStage.{RetireStage}
use Rattle.rt_repair.specs.declared.retirement.RetireStage.TheVariants as retirement
use Rattle.rt_repair.specs.declared.retiring.Retiring.{Retiring}
use Rattle.rt_repair.specs.declared.retiring.Retiring.TheVariants as retiring
use Rattle.rt_repair.specs.Repairing.{Repairing, decision_at, create_write, abandon_write, ideal_write}
use Rattle.rt_repair.specs.Retirement.{Retirement, retiring_at, remove_write, delete_write}

-- ---- the write of a step, where it makes one

abbrev pub repair_write_by : Repairing → Moment → Option ReadNode → Bool → Seen → Decision → Option Write
repair_write_by r now last follows ideal decision.Nothing = None
repair_write_by r now last follows ideal (decision.Create s start) = Some (create_write r now s start last)
repair_write_by r now last follows ideal (decision.AddToIdeal s) = ideal_write r s follows ideal
repair_write_by r now last follows ideal (decision.Abandon s) = abandon_write now last

abbrev pub repair_write_at : Repairing → Moment → RepairStage → Option Write
repair_write_at r now repair.Listing = None
repair_write_at r now (repair.Reading last follows) = None
repair_write_at r now (repair.Writing last follows ideal) =
    repair_write_by r now last follows ideal (decision_at r now last ideal)
repair_write_at r now repair.Ended = None

abbrev pub repair_write : Repairing → Moment → Option Write
repair_write r now = repair_write_at r now r.stage

abbrev pub retire_write_by : Retirement → Option ReadNode → Seen → Retiring → Option Write
retire_write_by r lowest ideal retiring.Nothing = None
retire_write_by r lowest ideal (retiring.Remove s) = Some (remove_write r s ideal)
retire_write_by r lowest ideal (retiring.Delete s) = delete_write lowest

abbrev pub retire_write_at : Retirement → Moment → RetireStage → Option Write
retire_write_at r now retirement.Listing = None
retire_write_at r now (retirement.Reading lowest) = None
retire_write_at r now (retirement.Writing lowest ideal) = retire_write_by r lowest ideal (retiring_at r now lowest ideal)
retire_write_at r now retirement.Ended = None

abbrev pub retire_write : Retirement → Moment → Option Write
retire_write r now = retire_write_at r now r.stage

-- ---- what a write leaves

-- the writes that a store tells after this write, or after none
abbrev pub writes_after : Told → Option Write → List Seen
writes_after t None = t.writes
writes_after t (Some call) = (told_on t (after_call call)).writes

abbrev pub entries_put : Node → Option (List IdealEntry)
entries_put (node.Ideal i) = Some i.entries
entries_put (node.Meta m) = None
entries_put node.Boot = None
entries_put node.Gone = None

abbrev pub entries_written : Write → Option (List IdealEntry)
entries_written (create k n) = entries_put n
entries_written (set from n) = entries_put n
entries_written (delete from) = None
entries_written (create_after k n prior) = entries_put n
entries_written (bump i) = None

-- the entries of the ideal state that a write sets, if it sets one
abbrev pub entries_set : Option Write → Option (List IdealEntry)
entries_set None = None
entries_set (Some call) = entries_written call
