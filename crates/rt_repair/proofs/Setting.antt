-- The number that a step is said to set is that of the entries of its write.
use Rattle.std.proofs.Common.{◌≡◌, ℕ, Bool, true, false, cond, List, length, Option, Some, None, option_map, Result, refl}
use Rattle.rt_base.specs.declared.numbers.Moment.{Moment}
use Rattle.rt_base.specs.declared.numbers.Offset.{Offset}
use Rattle.rt_base.specs.declared.numbers.Sequence.{Sequence}
use Rattle.rt_model.specs.declared.decision.Decision.{Decision}
use Rattle.rt_model.specs.declared.decision.Decision.TheVariants as decision
use Rattle.rt_model.specs.declared.ideal_state.IdealEntry.{IdealEntry}
use Rattle.rt_model.specs.declared.node.Node.{Node}
use Rattle.rt_model.specs.declared.node.Node.TheVariants as node
use Rattle.rt_model.specs.declared.node.Seen.{Seen}
use Rattle.rt_model.specs.Entries.{entries_by}
use Rattle.rt_model.specs.Ideal.{goes_on}
use Rattle.rt_model.specs.Lawful.{Write, set}
use Rattle.rt_store.specs.declared.refused.StoreRefused.{StoreRefused}
use Rattle.rt_store.specs.Meaning.{Told}
use Rattle.rt_store.proofs.Told.{read_same}
use Rattle.rt_repair.specs.declared.read_node.ReadNode.{ReadNode}
use Rattle.rt_repair.specs.declared.repair.RepairStage.{RepairStage}
use Rattle.rt_repair.specs.declared.repair.RepairStage.TheVariants as repair
use Rattle.rt_repair.specs.declared.repair_step.RepairStep.{RepairStep}
use Rattle.rt_repair.specs.declared.retirement.RetireStage.{RetireStage}
use Rattle.rt_repair.specs.declared.retirement.RetireStage.TheVariants as retirement
use Rattle.rt_repair.specs.declared.retiring.RetireStep.{RetireStep}
use Rattle.rt_repair.specs.declared.retiring.Retiring.{Retiring}
use Rattle.rt_repair.specs.declared.retiring.Retiring.TheVariants as retiring
use Rattle.rt_repair.specs.Repairing.{Repairing, added_entries, decision_at, create_write, abandon_by, abandon_write, ideal_write}
use Rattle.rt_repair.specs.Repairing as repairs
use Rattle.rt_repair.specs.RepairSteps as of_repair
use Rattle.rt_repair.specs.Retirement.{Retirement, retiring_at, delete_write}
use Rattle.rt_repair.specs.Retirement as retirements
use Rattle.rt_repair.specs.RetireSteps as of_retire
use Rattle.rt_repair.specs.Setting.{repair_write_by, repair_write_at, repair_write, retire_write_by, retire_write_at, retire_write, writes_after, entries_set}
use Rattle.rt_repair.specs.Told.{repair_set, repair_done, repair_at, repair_stepped, retire_deleted, retire_done, retire_at, retire_stepped}

abbrev sized : Option (List IdealEntry) → Option ℕ
sized o = option_map (λ es. length es) o

-- ---- a repair

none_created : (r : Repairing) (now : Moment) (s : Sequence) (start : Offset) (last : Option ReadNode) → None ≡ sized (entries_set (Some (create_write r now s start last)))
none_created r now s start None = refl
none_created r now s start (Some last) = refl

none_by : (now : Moment) (from : Seen) (n : Node) → None ≡ sized (entries_set (abandon_by now from n))
none_by now from (node.Meta m) = refl
none_by now from (node.Ideal i) = refl
none_by now from node.Boot = refl
none_by now from node.Gone = refl

none_abandoned : (now : Moment) (last : Option ReadNode) → None ≡ sized (entries_set (abandon_write now last))
none_abandoned now None = refl
none_abandoned now (Some last) = none_by now last.seen last.seen.node

some_added : (b : Bool) (ideal : Seen) (es : List IdealEntry)
    → cond b (Some (length es)) None ≡ sized (entries_set (cond b (Some (set ideal (node.Ideal (record { entries = es })))) None))
some_added true ideal es = refl
some_added false ideal es = refl

sets_by : (r : Repairing) (now : Moment) (last : Option ReadNode) (follows : Bool) (ideal : Seen) (d : Decision)
    → repairs.set_by r follows ideal d ≡ sized (entries_set (repair_write_by r now last follows ideal d))
sets_by r now last follows ideal decision.Nothing = refl
sets_by r now last follows ideal (decision.Create s start) = none_created r now s start last
sets_by r now last follows ideal (decision.AddToIdeal s) =
    some_added (goes_on (entries_by ideal.node) r.partition s.0) ideal (added_entries r s follows (entries_by ideal.node))
sets_by r now last follows ideal (decision.Abandon s) = none_abandoned now last

sets_at : (r : Repairing) (now : Moment) (stage : RepairStage)
    → repairs.set_at r now stage ≡ sized (entries_set (repair_write_at r now stage))
sets_at r now repair.Listing = refl
sets_at r now (repair.Reading last follows) = refl
sets_at r now (repair.Writing last follows ideal) = sets_by r now last follows ideal (decision_at r now last ideal)
sets_at r now repair.Ended = refl

pub repair_sets : (r : Repairing) (now : Moment) → repairs.set_entries r now ≡ sized (entries_set (repair_write r now))
repair_sets r now = sets_at r now r.stage

set_leaves : (t : Told) (r : Repairing) (tell : Result ℕ StoreRefused → Option RepairStep) (call : Option Write)
    → (repair_set t r tell call).told.writes ≡ writes_after t call
set_leaves t r tell None = refl
set_leaves t r tell (Some call) = refl

done_leaves : (t : Told) (r : Repairing) (now : Moment) (last : Option ReadNode) (follows : Bool) (ideal : Seen) (d : Decision)
    → (repair_done t r now last follows ideal d).told.writes ≡ writes_after t (repair_write_by r now last follows ideal d)
done_leaves t r now last follows ideal decision.Nothing = refl
done_leaves t r now last follows ideal (decision.Create s start) = refl
done_leaves t r now last follows ideal (decision.AddToIdeal s) = set_leaves t r of_repair.ideal_set (ideal_write r s follows ideal)
done_leaves t r now last follows ideal (decision.Abandon s) = set_leaves t r (of_repair.abandoned s) (abandon_write now last)

leaves_at : (t : Told) (r : Repairing) (now : Moment) (stage : RepairStage)
    → (repair_at t r now stage).told.writes ≡ writes_after t (repair_write_at r now stage)
leaves_at t r now repair.Listing = read_same t
leaves_at t r now (repair.Reading last follows) = read_same t
leaves_at t r now (repair.Writing last follows ideal) = done_leaves t r now last follows ideal (decision_at r now last ideal)
leaves_at t r now repair.Ended = refl

pub repair_leaves : (t : Told) (r : Repairing) (now : Moment) → (repair_stepped t r now).told.writes ≡ writes_after t (repair_write r now)
repair_leaves t r now = leaves_at t r now r.stage

-- ---- a retirement

none_deleted : (lowest : Option ReadNode) → None ≡ sized (entries_set (delete_write lowest))
none_deleted None = refl
none_deleted (Some lowest) = refl

retires_by : (r : Retirement) (lowest : Option ReadNode) (ideal : Seen) (d : Retiring)
    → retirements.set_by r ideal d ≡ sized (entries_set (retire_write_by r lowest ideal d))
retires_by r lowest ideal retiring.Nothing = refl
retires_by r lowest ideal (retiring.Remove s) = refl
retires_by r lowest ideal (retiring.Delete s) = none_deleted lowest

retires_at : (r : Retirement) (now : Moment) (stage : RetireStage)
    → retirements.set_at r now stage ≡ sized (entries_set (retire_write_at r now stage))
retires_at r now retirement.Listing = refl
retires_at r now (retirement.Reading lowest) = refl
retires_at r now (retirement.Writing lowest ideal) = retires_by r lowest ideal (retiring_at r now lowest ideal)
retires_at r now retirement.Ended = refl

pub retire_sets : (r : Retirement) (now : Moment) → retirements.set_entries r now ≡ sized (entries_set (retire_write r now))
retire_sets r now = retires_at r now r.stage

deleted_leaves : (t : Told) (r : Retirement) (tell : Result (Unit {0}) StoreRefused → Option RetireStep) (call : Option Write)
    → (retire_deleted t r tell call).told.writes ≡ writes_after t call
deleted_leaves t r tell None = refl
deleted_leaves t r tell (Some call) = refl

retired_leaves : (t : Told) (r : Retirement) (lowest : Option ReadNode) (ideal : Seen) (d : Retiring)
    → (retire_done t r lowest ideal d).told.writes ≡ writes_after t (retire_write_by r lowest ideal d)
retired_leaves t r lowest ideal retiring.Nothing = refl
retired_leaves t r lowest ideal (retiring.Remove s) = refl
retired_leaves t r lowest ideal (retiring.Delete s) = deleted_leaves t r (of_retire.deleted s) (delete_write lowest)

retire_leaves_at : (t : Told) (r : Retirement) (now : Moment) (stage : RetireStage)
    → (retire_at t r now stage).told.writes ≡ writes_after t (retire_write_at r now stage)
retire_leaves_at t r now retirement.Listing = read_same t
retire_leaves_at t r now (retirement.Reading lowest) = read_same t
retire_leaves_at t r now (retirement.Writing lowest ideal) = retired_leaves t r lowest ideal (retiring_at r now lowest ideal)
retire_leaves_at t r now retirement.Ended = refl

pub retire_leaves : (t : Told) (r : Retirement) (now : Moment) → (retire_stepped t r now).told.writes ≡ writes_after t (retire_write r now)
retire_leaves t r now = retire_leaves_at t r now r.stage
