-- A step of a repair, and one of a retirement, writes once at most.
use Rattle.std.proofs.Common.{ℕ, ◌+◌, ◌≤◌, Bool, List, Result, Option, Some, None, ap, length, arith}
use Rattle.rt_base.specs.declared.numbers.Moment.{Moment}
use Rattle.rt_model.specs.declared.decision.Decision.{Decision}
use Rattle.rt_model.specs.declared.decision.Decision.TheVariants as decision
use Rattle.rt_model.specs.declared.node.Seen.{Seen}
use Rattle.rt_model.specs.Lawful.{Write}
use Rattle.rt_repair.specs.declared.read_node.ReadNode.{ReadNode}
use Rattle.rt_repair.specs.declared.repair.RepairStage.{RepairStage}
use Rattle.rt_repair.specs.declared.repair.RepairStage.TheVariants as repair
use Rattle.rt_repair.specs.declared.repair_step.RepairStep.{RepairStep}
use Rattle.rt_repair.specs.declared.retirement.RetireStage.{RetireStage}
use Rattle.rt_repair.specs.declared.retirement.RetireStage.TheVariants as retirement
use Rattle.rt_repair.specs.declared.retiring.RetireStep.{RetireStep}
use Rattle.rt_repair.specs.declared.retiring.Retiring.{Retiring}
use Rattle.rt_repair.specs.declared.retiring.Retiring.TheVariants as decided
use Rattle.rt_repair.specs.RepairSteps as of_repair
use Rattle.rt_repair.specs.RetireSteps as of_retire
use Rattle.rt_repair.specs.Repairing.{Repairing, decision_at, create_write, ideal_write, abandon_write}
use Rattle.rt_repair.specs.Retirement.{Retirement, retiring_at, remove_write, delete_write}
use Rattle.rt_repair.specs.Told.{repair_set, repair_done, repair_at, retire_deleted, retire_done, retire_at}
use Rattle.rt_store.specs.Answers.{after_call}
use Rattle.rt_store.specs.Calls.{told_on}
use Rattle.rt_store.specs.Meaning.{Told}
use Rattle.rt_store.specs.declared.refused.StoreRefused.{StoreRefused}
use Rattle.rt_store.proofs.Told.{leaves_on, read_same}
use Rattle.rt_world.proofs.Stores.{one_more}

read_few : (t : Told) → length (told_on t (λ base. base)).writes ≤ length t.writes + 1
read_few t = omega (arith, ap (λ (h : List Seen). length h) (read_same t))

called_few : (t : Told) (call : Write) → length (told_on t (after_call call)).writes ≤ length t.writes + 1
called_few t call = one_more call t.writes (told_on t (after_call call)).writes (leaves_on t call)

set_few : (t : Told) (r : Repairing) (tell : Result ℕ StoreRefused → Option RepairStep) (call : Option Write)
    → length (repair_set t r tell call).told.writes ≤ length t.writes + 1
set_few t r tell None = omega arith
set_few t r tell (Some call) = called_few t call

done_few : (t : Told) (r : Repairing) (now : Moment) (last : Option ReadNode) (follows : Bool) (ideal : Seen) (d : Decision)
    → length (repair_done t r now last follows ideal d).told.writes ≤ length t.writes + 1
done_few t r now last follows ideal decision.Nothing = omega arith
done_few t r now last follows ideal (decision.Create s start) = called_few t (create_write r now s start last)
done_few t r now last follows ideal (decision.AddToIdeal s) = set_few t r of_repair.ideal_set (ideal_write r s follows ideal)
done_few t r now last follows ideal (decision.Abandon s) = set_few t r (of_repair.abandoned s) (abandon_write now last)

pub repair_few : (t : Told) (r : Repairing) (now : Moment) (stage : RepairStage) → length (repair_at t r now stage).told.writes ≤ length t.writes + 1
repair_few t r now repair.Listing = read_few t
repair_few t r now (repair.Reading last follows) = read_few t
repair_few t r now (repair.Writing last follows ideal) = done_few t r now last follows ideal (decision_at r now last ideal)
repair_few t r now repair.Ended = omega arith

deleted_few : (t : Told) (r : Retirement) (tell : Result (Unit {0}) StoreRefused → Option RetireStep) (call : Option Write)
    → length (retire_deleted t r tell call).told.writes ≤ length t.writes + 1
deleted_few t r tell None = omega arith
deleted_few t r tell (Some call) = called_few t call

retired_few : (t : Told) (r : Retirement) (lowest : Option ReadNode) (ideal : Seen) (d : Retiring)
    → length (retire_done t r lowest ideal d).told.writes ≤ length t.writes + 1
retired_few t r lowest ideal decided.Nothing = omega arith
retired_few t r lowest ideal (decided.Remove s) = called_few t (remove_write r s ideal)
retired_few t r lowest ideal (decided.Delete s) = deleted_few t r (of_retire.deleted s) (delete_write lowest)

pub retire_few : (t : Told) (r : Retirement) (now : Moment) (stage : RetireStage) → length (retire_at t r now stage).told.writes ≤ length t.writes + 1
retire_few t r now retirement.Listing = read_few t
retire_few t r now (retirement.Reading lowest) = read_few t
retire_few t r now (retirement.Writing lowest ideal) = retired_few t r lowest ideal (retiring_at r now lowest ideal)
retire_few t r now retirement.Ended = omega arith
