-- How many entries of the ideal state a controller's step writes: as many as the step sets, where it writes.
use Rattle.std.proofs.Common.{◌≡◌, ◌⊎◌, inl, inr, ℕ, Bool, true, false, cond, List, [], ◌∷◌, ◌++◌, Option, Some, None, refl, slice_get}
use Rattle.std.specs.Prelude.{length, unwrap_or}
use Rattle.rt_base.specs.declared.numbers.Moment.{Moment}
use Rattle.rt_base.specs.declared.numbers.Offset.{Offset}
use Rattle.rt_base.specs.declared.numbers.Sequence.{Sequence}
use Rattle.rt_commit.specs.Assignment.{Assigned}
use Rattle.rt_commit.specs.Job as of_job
use Rattle.rt_commit.specs.Told.{store_after}
use Rattle.rt_commit.specs.declared.job.Job.{Job}
use Rattle.rt_commit.specs.declared.job.JobStage.{JobStage}
use Rattle.rt_commit.specs.declared.job.JobStage.TheVariants as stage
use Rattle.rt_controller.specs.Controller.{Controlling}
use Rattle.rt_controller.specs.Working.{job_place, sets_next, sets_of, sets_on, work_call, work_call_at, work_call_on}
use Rattle.rt_meta.specs.Lives.{abandoned_of}
use Rattle.rt_model.specs.Entries.{entries_by}
use Rattle.rt_model.specs.Ideal.{goes_on, remove_segment_of}
use Rattle.rt_model.specs.Lawful.{create_after, delete, set, Write, written_by}
use Rattle.rt_model.specs.declared.asked.Asked.{Asked}
use Rattle.rt_model.specs.declared.decision.Decision.{Decision}
use Rattle.rt_model.specs.declared.decision.Decision.TheVariants as decision
use Rattle.rt_model.specs.declared.ideal_state.IdealEntry.{IdealEntry}
use Rattle.rt_model.specs.declared.node.Node.{Node}
use Rattle.rt_model.specs.declared.node.Node.TheVariants as node
use Rattle.rt_model.specs.declared.node.Seen.{Seen}
use Rattle.rt_repair.specs.Repairing as repairs
use Rattle.rt_repair.specs.Repairing.{abandon_by, abandon_write, added_entries, create_write, decision_at, ideal_write, Repairing}
use Rattle.rt_repair.specs.RepairSteps as of_repair
use Rattle.rt_repair.specs.RetireSteps as of_retire
use Rattle.rt_repair.specs.Retirement as retirements
use Rattle.rt_repair.specs.Retirement.{delete_write, remove_write, Retirement, retiring_at}
use Rattle.rt_repair.specs.Told.{repair_at, repair_done, repair_set, retire_at, retire_deleted, retire_done}
use Rattle.rt_repair.specs.declared.read_node.ReadNode.{ReadNode}
use Rattle.rt_repair.specs.declared.repair.RepairStage.{RepairStage}
use Rattle.rt_repair.specs.declared.repair.RepairStage.TheVariants as repair
use Rattle.rt_repair.specs.declared.retirement.RetireStage.{RetireStage}
use Rattle.rt_repair.specs.declared.retirement.RetireStage.TheVariants as retirement
use Rattle.rt_repair.specs.declared.retiring.Retiring.{Retiring}
use Rattle.rt_repair.specs.declared.retiring.Retiring.TheVariants as retiring
use Rattle.rt_safety.specs.Counted.{entries_of}
use Rattle.rt_store.proofs.Told.{leaves_on, read_same}
use Rattle.rt_store.specs.Answers.{after_call, Leaves}
use Rattle.rt_store.specs.Calls.{told_on}
use Rattle.rt_store.specs.Meaning.{Told}

-- the history stays, or has one write more, of so many entries
abbrev pub Sets : ℕ → List Seen → List Seen → Type 0
Sets n h now = (now ≡ h) ⊎ ((v : Seen) × (now ≡ h ++ v ∷ []) × (entries_of v.node ≡ n))

pub leaves_sets : (n : ℕ) (call : Write) (h now : List Seen) → entries_of (written_by h call).node ≡ n → Leaves call h now → Sets n h now
leaves_sets n call h now is (inl same) = inl same
leaves_sets n call h now is (inr (free, more)) = inr (written_by h call, more, is)

writes_set : (n : ℕ) (t : Told) (call : Write) → entries_of (written_by t.writes call).node ≡ n → Sets n t.writes (told_on t (after_call call)).writes
writes_set n t call is = leaves_sets n call t.writes (told_on t (after_call call)).writes is (leaves_on t call)

-- so many, where there are any
abbrev pub count_of : Option ℕ → ℕ
count_of entries = unwrap_or entries 0

-- ---- a job

stage_sets : (t : Told) (a : Assigned) (q : Asked) (now : Moment) (s : JobStage)
    → Sets (count_of (of_job.sets_at a q s)) t.writes (store_after t (of_job.call_at a q now s)).writes
stage_sets t a q now (stage.Check from end path) = inl refl
stage_sets t a q now (stage.Done from commit) = writes_set 0 t (set from (of_job.done_node from commit now)) refl
stage_sets t a q now (stage.Next done) = writes_set 0 t (create_after (of_job.next_key q) (of_job.next_node a q now done) done) refl
stage_sets t a q now (stage.IdealRead w found) = inl (read_same t)
stage_sets t a q now (stage.IdealSet w found ideal) =
    writes_set (of_job.set_count a q w (entries_by ideal.node)) t (set ideal (of_job.ideal_node a q w ideal)) refl
stage_sets t a q now stage.Ended = inl refl

slot_sets : (t : Told) (c : Controlling) (now : Moment) (o : Option Job) → Sets (count_of (sets_of c o)) t.writes (store_after t (work_call_at c now o)).writes
slot_sets t c now None = inl refl
slot_sets t c now (Some j) = stage_sets t c.assigned j.asked now j.stage

place_sets : (t : Told) (c : Controlling) (now : Moment) (o : Option ℕ) → Sets (count_of (sets_on c o)) t.writes (store_after t (work_call_on c now o)).writes
place_sets t c now None = inl refl
place_sets t c now (Some place) = slot_sets t c now (slice_get c.jobs place)

pub job_sets : (t : Told) (c : Controlling) (n : ℕ) (now : Moment) → Sets (count_of (sets_next c n)) t.writes (store_after t (work_call c n now)).writes
job_sets t c n now = place_sets t c now (job_place c.jobs n)

-- ---- a repair

creates : (t : Told) (r : Repairing) (now : Moment) (s : Sequence) (start : Offset) (last : Option ReadNode)
    → Sets 0 t.writes (told_on t (after_call (create_write r now s start last))).writes
creates t r now s start None = writes_set 0 t (create_write r now s start None) refl
creates t r now s start (Some last) = writes_set 0 t (create_write r now s start (Some last)) refl

ideal_sets : (t : Told) (r : Repairing) (s : Sequence) (follows : Bool) (ideal : Seen)
    → Sets (count_of (repairs.set_by r follows ideal (decision.AddToIdeal s))) t.writes (repair_set t r of_repair.ideal_set (ideal_write r s follows ideal)).told.writes
ideal_sets t r s follows ideal = by_test (goes_on (entries_by ideal.node) r.partition s.0)
  where
    es : List IdealEntry
    es = added_entries r s follows (entries_by ideal.node)

    by_test : (b : Bool) → Sets (count_of (cond b (Some (length es)) None)) t.writes
        (repair_set t r of_repair.ideal_set (cond b (Some (set ideal (node.Ideal (record { entries = es })))) None)).told.writes
    by_test true = writes_set (length es) t (set ideal (node.Ideal (record { entries = es }))) refl
    by_test false = inl refl

abandons_by : (t : Told) (r : Repairing) (s : Sequence) (now : Moment) (from : Seen) (n : Node)
    → Sets 0 t.writes (repair_set t r (of_repair.abandoned s) (abandon_by now from n)).told.writes
abandons_by t r s now from (node.Meta meta) = writes_set 0 t (set from (node.Meta (abandoned_of meta now))) refl
abandons_by t r s now from (node.Ideal i) = inl refl
abandons_by t r s now from node.Boot = inl refl
abandons_by t r s now from node.Gone = inl refl

abandons : (t : Told) (r : Repairing) (s : Sequence) (now : Moment) (last : Option ReadNode)
    → Sets 0 t.writes (repair_set t r (of_repair.abandoned s) (abandon_write now last)).told.writes
abandons t r s now None = inl refl
abandons t r s now (Some last) = abandons_by t r s now last.seen last.seen.node

done_sets : (t : Told) (r : Repairing) (now : Moment) (last : Option ReadNode) (follows : Bool) (ideal : Seen) (d : Decision)
    → Sets (count_of (repairs.set_by r follows ideal d)) t.writes (repair_done t r now last follows ideal d).told.writes
done_sets t r now last follows ideal decision.Nothing = inl refl
done_sets t r now last follows ideal (decision.Create s start) = creates t r now s start last
done_sets t r now last follows ideal (decision.AddToIdeal s) = ideal_sets t r s follows ideal
done_sets t r now last follows ideal (decision.Abandon s) = abandons t r s now last

pub repair_sets : (t : Told) (r : Repairing) (now : Moment) (s : RepairStage) → Sets (count_of (repairs.set_at r now s)) t.writes (repair_at t r now s).told.writes
repair_sets t r now repair.Listing = inl (read_same t)
repair_sets t r now (repair.Reading last follows) = inl (read_same t)
repair_sets t r now (repair.Writing last follows ideal) = done_sets t r now last follows ideal (decision_at r now last ideal)
repair_sets t r now repair.Ended = inl refl

-- ---- a retirement

deletes : (t : Told) (r : Retirement) (s : Sequence) (lowest : Option ReadNode)
    → Sets 0 t.writes (retire_deleted t r (of_retire.deleted s) (delete_write lowest)).told.writes
deletes t r s None = inl refl
deletes t r s (Some lowest) = writes_set 0 t (delete lowest.seen) refl

retire_does : (t : Told) (r : Retirement) (lowest : Option ReadNode) (ideal : Seen) (d : Retiring)
    → Sets (count_of (retirements.set_by r ideal d)) t.writes (retire_done t r lowest ideal d).told.writes
retire_does t r lowest ideal retiring.Nothing = inl refl
retire_does t r lowest ideal (retiring.Remove s) = writes_set (length (remove_segment_of (entries_by ideal.node) r.partition s)) t (remove_write r s ideal) refl
retire_does t r lowest ideal (retiring.Delete s) = deletes t r s lowest

pub retire_sets : (t : Told) (r : Retirement) (now : Moment) (s : RetireStage) → Sets (count_of (retirements.set_at r now s)) t.writes (retire_at t r now s).told.writes
retire_sets t r now retirement.Listing = inl (read_same t)
retire_sets t r now (retirement.Reading lowest) = inl (read_same t)
retire_sets t r now (retirement.Writing lowest ideal) = retire_does t r lowest ideal (retiring_at r now lowest ideal)
retire_sets t r now retirement.Ended = inl refl
