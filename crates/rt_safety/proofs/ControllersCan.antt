-- A controller's step that is due can be made over stores that tell everything.
use Rattle.std.proofs.Common.{◌≡◌, ◌<◌, ℕ, zero, suc, Bool, true, false, cond, List, [], ◌∷◌, length, Option, Some, None, Result, refl, sym, subst, slice_get, nat_lt, is_some, not, nat_le, arith}
use Rattle.std.specs.List.{position}
use Rattle.std.proofs.lemmas.List.Quantifiers.{position-Some}
use Rattle.std.proofs.lemmas.Option.{none-some}
use Rattle.rt_base.specs.declared.header.Header.{Header}
use Rattle.rt_base.specs.declared.numbers.Moment.{Moment}
use Rattle.rt_base.specs.declared.numbers.Offset.{Offset}
use Rattle.rt_commit.specs.IsJob.{IsAt}
use Rattle.rt_commit.specs.Job as of_job
use Rattle.rt_commit.specs.Told.{answer_to}
use Rattle.rt_commit.specs.declared.job.Job.{Job}
use Rattle.rt_commit.specs.declared.job.JobStage.{JobStage}
use Rattle.rt_commit.specs.declared.job.JobStage.TheVariants as stage
use Rattle.rt_commit.specs.declared.work.Work.{Work}
use Rattle.rt_controller.specs.Answers.{after_put}
use Rattle.rt_controller.specs.Controller.{Controlling, is_of, machine_place}
use Rattle.rt_controller.specs.Requests as of_request
use Rattle.rt_controller.specs.Requests.{at_machine, by_place, call_of, handled_at, has_machine, has_none, kind_turn, not_assigned, not_leading, past_last, Turn, turn_of, uploads}
use Rattle.rt_controller.specs.Told.{handled_on, worked_on}
use Rattle.rt_controller.specs.Working.{has_number, job_place, work_at, work_call_at, work_on, work_call_on}
use Rattle.rt_controller.specs.declared.segment_machine.SegmentMachine.{SegmentMachine}
use Rattle.rt_deep.specs.Meaning.{Told as ToldDeep}
use Rattle.rt_deep.specs.declared.refused.DeepRefused.{DeepRefused}
use Rattle.rt_model.specs.Entries.{entries_by}
use Rattle.rt_model.specs.Lawful.{create_after, set}
use Rattle.rt_model.specs.declared.asked.Asked.{Asked}
use Rattle.rt_model.specs.declared.completion.Ask.{Ask}
use Rattle.rt_model.specs.declared.node.Key.TheVariants as key
use Rattle.rt_model.specs.declared.node.Seen.{Seen}
use Rattle.rt_model.specs.declared.request.Request.{Request}
use Rattle.rt_repair.specs.RepairSteps as of_repair
use Rattle.rt_repair.specs.Repairing.{abandon_write, create_write, decision_at, ideal_write, IsUnended, Repairing}
use Rattle.rt_repair.specs.RetireSteps as of_retire
use Rattle.rt_repair.specs.Retirement as retirements
use Rattle.rt_repair.specs.Retirement.{delete_write, remove_write, Retirement, retiring_at}
use Rattle.rt_repair.specs.Told.{repair_at, repair_done, repair_ended, repair_set, retire_at, retire_deleted, retire_done, retire_ended}
use Rattle.rt_base.specs.declared.limits.TheConstants.{LAST_NUMBER}
use Rattle.rt_base.specs.declared.numbers.Sequence.{Sequence}
use Rattle.rt_commit.specs.Assignment.{Assigned, is_replica}
use Rattle.rt_commit.specs.Job.{Stepping}
use Rattle.rt_model.specs.Lawful.{Write}
use Rattle.rt_model.specs.declared.commit.Commit.{Commit}
use Rattle.rt_model.specs.declared.completion.Ask.TheVariants as ask
use Rattle.rt_model.specs.declared.decision.Decision.{Decision}
use Rattle.rt_model.specs.declared.decision.Decision.TheVariants as decision
use Rattle.rt_model.specs.declared.node.Listed.{Listed}
use Rattle.rt_model.specs.declared.request.RequestKind.{RequestKind}
use Rattle.rt_model.specs.declared.request.RequestKind.TheVariants as kind
use Rattle.rt_past.specs.Files.{header_in}
use Rattle.rt_repair.specs.declared.read_node.ReadNode.{ReadNode}
use Rattle.rt_repair.specs.declared.repair.RepairStage.{RepairStage}
use Rattle.rt_repair.specs.declared.repair.RepairStage.TheVariants as repair
use Rattle.rt_repair.specs.declared.repair_step.RepairStep.{RepairStep}
use Rattle.rt_repair.specs.declared.retirement.RetireStage.{RetireStage}
use Rattle.rt_repair.specs.declared.retirement.RetireStage.TheVariants as retirement
use Rattle.rt_repair.specs.declared.retiring.RetireStep.{RetireStep}
use Rattle.rt_repair.specs.declared.retiring.Retiring.{Retiring}
use Rattle.rt_repair.specs.declared.retiring.Retiring.TheVariants as retiring
use Rattle.rt_znodes.specs.Znodes.{meta_in}
use Rattle.rt_controller.specs.Working.{worked}
use Rattle.rt_safety.proofs.Given.{get_given, given_deep_gives, given_gives, Gives, IsGiven, IsGivenDeep, list_given, put_given, read_given, write_given}
use Rattle.rt_store.specs.Meaning.{Told}
use Rattle.rt_store.specs.declared.refused.StoreRefused.{StoreRefused}

-- ---- what stands at a place

pub stands_at : {X : Type 0} (xs : List X) (i : ℕ) → i < length xs → (x : X) × (slice_get xs i ≡ Some x)
stands_at [] i within = absurd (omega (arith, within))
stands_at (x ∷ xs) zero within = (x, refl)
stands_at (x ∷ xs) (suc i) within = stands_at xs i (omega (arith, within))

found_at : {X : Type 0} (test : X → Bool) (xs : List X) (i : ℕ) → position test xs ≡ Some i → (x : X) × (slice_get xs i ≡ Some x)
found_at test [] i e = absurd (none-some i e)
found_at test (x ∷ xs) i e = stands_at (x ∷ xs) i (position-Some test (x ∷ xs) i x e).0

choose : {X : Type 0} (b : Bool) (o p : Option X) → Gives o → Gives p → Gives (cond b o p)
choose true o p g h = g
choose false o p g h = h

-- ---- a request

put_gives : (c : Controlling) (r : Request) (path : List ℕ) (answer : Result (Unit {0}) DeepRefused) → IsGivenDeep answer → Gives (after_put c r path answer)
put_gives c r path = given_deep_gives (after_put c r path) (λ u. (_, refl)) (_, refl) (λ kept offered. (_, refl)) (_, refl)

node_gives : (c : Controlling) (r : Request) (now : Moment) (what : Ask) (answer : Result Seen StoreRefused) → IsGiven answer
    → Gives (of_request.after_read c r now what answer)
node_gives c r now what = given_gives (of_request.after_read c r now what) (λ w. (_, refl)) (_, refl) (λ found. (_, refl)) (λ expected found. (_, refl)) (_, refl)

machine_gives : (c : Controlling) (r : Request) (now : Moment) (place : ℕ) (what : Ask) (m : SegmentMachine) → slice_get c.machines place ≡ Some m
    → Gives (at_machine c r now place what (slice_get c.machines place))
machine_gives c r now place what m at = subst (λ o. Gives (at_machine c r now place what o)) (sym at) (_, refl)

-- the machine of a turn stands at its place
abbrev HasPlace : Controlling → Turn → Type 0
HasPlace c (has_machine place what) = (m : SegmentMachine) × (slice_get c.machines place ≡ Some m)
HasPlace c turn = Unit {0}

place_there : (c : Controlling) (r : Request) (what : Ask) (o : Option ℕ) → machine_place c.machines r.partition r.sequence ≡ o → HasPlace c (by_place o what)
place_there c r what None e = tt
place_there c r what (Some place) e = found_at (is_of r.partition r.sequence) c.machines place e

choose_place : (c : Controlling) (b : Bool) (turn other : Turn) → HasPlace c turn → HasPlace c other → HasPlace c (cond b turn other)
choose_place c true turn other g h = g
choose_place c false turn other g h = h

asked_place : (c : Controlling) (r : Request) (what : Ask) → HasPlace c (of_request.asked_turn c r what)
asked_place c r what =
    let o = machine_place c.machines r.partition r.sequence in
    choose_place c (not (is_replica c.assigned r.partition r.number.instance)) not_assigned (cond (nat_le LAST_NUMBER r.sequence.0) past_last (by_place o what)) tt
    (choose_place c (nat_le LAST_NUMBER r.sequence.0) past_last (by_place o what) tt (place_there c r what o refl))

kind_place : (c : Controlling) (r : Request) (k : RequestKind) → HasPlace c (kind_turn c r k)
kind_place c r (kind.Upload path bytes) = tt
kind_place c r (kind.Consumed reason) = asked_place c r (ask.Consumed r.offset reason)
kind_place c r kind.Stopped = asked_place c r ask.Stopped
kind_place c r kind.CommitStart = asked_place c r (ask.CommitStart r.offset)
kind_place c r (kind.CommitEnd path) = asked_place c r (ask.CommitEnd r.offset)
kind_place c r (kind.Extend millis) = asked_place c r (ask.Extend millis)

turn_gives : (t : Told) (d : ToldDeep) (c : Controlling) (r : Request) (now : Moment) (turn : Turn) → HasPlace c turn
    → Gives (handled_at c r now turn (answer_to t d (call_of r turn)))
turn_gives t d c r now not_leading k = (_, refl)
turn_gives t d c r now (uploads path bytes) k = put_gives c r path _ (put_given d path bytes)
turn_gives t d c r now not_assigned k = (_, refl)
turn_gives t d c r now past_last k = (_, refl)
turn_gives t d c r now (has_machine place what) k = machine_gives c r now place what k.0 k.1
turn_gives t d c r now (has_none what) k = node_gives c r now what _ (read_given t (key.Meta r.partition r.sequence))

pub request_gives : (t : Told) (d : ToldDeep) (c : Controlling) (r : Request) (now : Moment) → Gives (handled_on t d c r now)
request_gives t d c r now =
    turn_gives t d c r now (turn_of c r) (choose_place c c.leads (kind_turn c r r.kind) not_leading (kind_place c r r.kind) tt)

-- ---- a step of a job

check_gives : (q : Asked) (from : Seen) (end : Offset) (path : List ℕ) (h : Option Header) → Gives (of_job.checked q from end path h)
check_gives q from end path None = (_, refl)
check_gives q from end path (Some h) = choose (of_job.is_wanted q (meta_in from.node).start end h) _ _ (_, refl) (_, refl)

get_gives : (q : Asked) (from : Seen) (end : Offset) (path : List ℕ) (answer : Result (List ℕ) DeepRefused) → IsGivenDeep answer
    → Gives (of_job.after_get q from end path answer)
get_gives q from end path =
    given_deep_gives (of_job.after_get q from end path) (λ bytes. check_gives q from end path (header_in bytes)) (_, refl) (λ kept offered. (_, refl)) (_, refl)

done_gives : (from : Seen) (commit : Commit) (now : Moment) (answer : Result ℕ StoreRefused) → IsGiven answer → Gives (of_job.after_done from commit now answer)
done_gives from commit now =
    given_gives (of_job.after_done from commit now) (λ version. (_, refl)) (_, refl) (λ found. (_, refl)) (λ expected found. (_, refl)) (_, refl)

next_gives : (done : Seen) (answer : Result (Unit {0}) StoreRefused) → IsGiven answer → Gives (of_job.after_next done answer)
next_gives done = given_gives (of_job.after_next done) (λ u. (_, refl)) (_, refl) (λ found. (_, refl)) (λ expected found. (_, refl)) (_, refl)

ideal_gives : (q : Asked) (w : Work) (found : List ℕ) (answer : Result Seen StoreRefused) → IsGiven answer → Gives (of_job.after_read q w found answer)
ideal_gives q w found =
    given_gives (of_job.after_read q w found) (λ ideal. choose (of_job.changes q w (entries_by ideal.node)) _ _ (_, refl) (_, refl)) (_, refl)
    (λ version. (_, refl)) (λ expected version. (_, refl)) (_, refl)

set_gives : (w : Work) (found : List ℕ) (answer : Result ℕ StoreRefused) → IsGiven answer → Gives (of_job.after_set w found answer)
set_gives w found =
    given_gives (of_job.after_set w found) (λ version. (_, refl)) (_, refl) (λ version. (_, refl))
    (λ expected version. choose (nat_lt (length found) 9) _ _ (_, refl) (_, refl)) (_, refl)

stage_gives : (t : Told) (d : ToldDeep) (seen : List Seen) (a : Assigned) (q : Asked) (now : Moment) (s : JobStage) → IsAt seen q s
    → Gives (of_job.step_at q now s (answer_to t d (of_job.call_at a q now s)))
stage_gives t d seen a q now (stage.Check from end path) at = get_gives q from end path _ (get_given d path)
stage_gives t d seen a q now (stage.Done from commit) at = done_gives from commit now _ (write_given t (λ w. w.version) (set from (of_job.done_node from commit now)))
stage_gives t d seen a q now (stage.Next done) at =
    next_gives done _ (write_given t (λ w. tt) (create_after (of_job.next_key q) (of_job.next_node a q now done) done))
stage_gives t d seen a q now (stage.IdealRead w found) at = ideal_gives q w found _ (read_given t key.Ideal)
stage_gives t d seen a q now (stage.IdealSet w found ideal) at = set_gives w found _ (write_given t (λ v. v.version) (set ideal (of_job.ideal_node a q w ideal)))
stage_gives t d seen a q now stage.Ended at = absurd at

worked_gives : (c : Controlling) (place : ℕ) (j : Job) (o : Option Stepping) → Gives o → Gives (worked c place j o)
worked_gives c place j o (x, is) = subst (λ (p : Option Stepping). Gives (worked c place j p)) (sym is) (_, refl)

slot_gives : (t : Told) (d : ToldDeep) (seen : List Seen) (c : Controlling) (now : Moment) (place : ℕ) (o : Option Job) → (j : Job) → o ≡ Some j
    → IsAt seen j.asked j.stage → Gives (work_at c now (answer_to t d (work_call_at c now o)) place o)
slot_gives t d seen c now place o j is at =
    subst (λ p. Gives (work_at c now (answer_to t d (work_call_at c now p)) place p)) (sym is)
    (worked_gives c place j _ (stage_gives t d seen c.assigned j.asked now j.stage at))

place_gives : (t : Told) (d : ToldDeep) (seen : List Seen) (c : Controlling) (n : ℕ) (now : Moment) (o : Option ℕ) → job_place c.jobs n ≡ o → is_some o ≡ true
    → ((place : ℕ) (j : Job) → slice_get c.jobs place ≡ Some j → IsAt seen j.asked j.stage)
    → Gives (work_on c now (answer_to t d (work_call_on c now o)) o)
place_gives t d seen c n now None e is at = absurd (cc)
place_gives t d seen c n now (Some place) e is at =
    let there = found_at (has_number n) c.jobs place e in
    slot_gives t d seen c now place (slice_get c.jobs place) there.0 there.1 (at place there.0 there.1)

pub work_gives : (t : Told) (d : ToldDeep) (seen : List Seen) (c : Controlling) (n : ℕ) (now : Moment) → is_some (job_place c.jobs n) ≡ true
    → ((place : ℕ) (j : Job) → slice_get c.jobs place ≡ Some j → IsAt seen j.asked j.stage) → Gives (worked_on t d c n now)
work_gives t d seen c n now is at = place_gives t d seen c n now (job_place c.jobs n) refl is at

-- ---- a repair

repair_lists : (r : Repairing) (answer : Result (List Listed) StoreRefused) → IsGiven answer → Gives (of_repair.after_list r answer)
repair_lists r = given_gives (of_repair.after_list r) (λ nodes. (_, refl)) (_, refl) (λ found. (_, refl)) (λ expected found. (_, refl)) (_, refl)

repair_reads : (r : Repairing) (answer : Result Seen StoreRefused) → IsGiven answer → Gives (of_repair.after_read r answer)
repair_reads r = given_gives (of_repair.after_read r) (λ ideal. (_, refl)) (_, refl) (λ found. (_, refl)) (λ expected found. (_, refl)) (_, refl)

repair_ends : (r : Repairing) (o : Option RepairStep) → Gives o → Gives (repair_ended r o)
repair_ends r o (x, is) = subst (λ (p : Option RepairStep). Gives (repair_ended r p)) (sym is) (_, refl)

repair_sets : (t : Told) (r : Repairing) (tell : Result ℕ StoreRefused → Option RepairStep)
    → ((answer : Result ℕ StoreRefused) → IsGiven answer → Gives (tell answer)) → (call : Option Write) → Gives (repair_set t r tell call).stepped
repair_sets t r tell gives None = (_, refl)
repair_sets t r tell gives (Some call) = repair_ends r _ (gives _ (write_given t (λ w. w.version) call))

repair_does : (t : Told) (r : Repairing) (now : Moment) (last : Option ReadNode) (follows : Bool) (ideal : Seen) (d : Decision)
    → Gives (repair_done t r now last follows ideal d).stepped
repair_does t r now last follows ideal decision.Nothing = (_, refl)
repair_does t r now last follows ideal (decision.Create s start) =
    repair_ends r _
    (given_gives (of_repair.created s last) (λ u. (_, refl)) (_, refl) (λ found. (_, refl)) (λ expected found. (_, refl)) (_, refl) _
    (write_given t (λ w. tt) (create_write r now s start last)))
repair_does t r now last follows ideal (decision.AddToIdeal s) =
    repair_sets t r of_repair.ideal_set
    (given_gives of_repair.ideal_set (λ version. (_, refl)) (_, refl) (λ found. (_, refl)) (λ expected found. (_, refl)) (_, refl)) (ideal_write r s follows ideal)
repair_does t r now last follows ideal (decision.Abandon s) =
    repair_sets t r (of_repair.abandoned s)
    (given_gives (of_repair.abandoned s) (λ version. (_, refl)) (_, refl) (λ found. (_, refl)) (λ expected found. (_, refl)) (_, refl)) (abandon_write now last)

pub repair_gives : (t : Told) (r : Repairing) (now : Moment) (s : RepairStage) → IsUnended s → Gives (repair_at t r now s).stepped
repair_gives t r now repair.Listing on = repair_lists r _ (list_given t r.partition)
repair_gives t r now (repair.Reading last follows) on = repair_reads r _ (read_given t key.Ideal)
repair_gives t r now (repair.Writing last follows ideal) on = repair_does t r now last follows ideal (decision_at r now last ideal)
repair_gives t r now repair.Ended on = absurd on

-- ---- a retirement

retire_lists : (r : Retirement) (answer : Result (List Listed) StoreRefused) → IsGiven answer → Gives (of_retire.after_list r answer)
retire_lists r = given_gives (of_retire.after_list r) (λ nodes. (_, refl)) (_, refl) (λ found. (_, refl)) (λ expected found. (_, refl)) (_, refl)

retire_reads : (r : Retirement) (answer : Result Seen StoreRefused) → IsGiven answer → Gives (of_retire.after_read r answer)
retire_reads r = given_gives (of_retire.after_read r) (λ ideal. (_, refl)) (_, refl) (λ found. (_, refl)) (λ expected found. (_, refl)) (_, refl)

retire_ends : (r : Retirement) (o : Option RetireStep) → Gives o → Gives (retire_ended r o)
retire_ends r o (x, is) = subst (λ (p : Option RetireStep). Gives (retire_ended r p)) (sym is) (_, refl)

retire_deletes : (t : Told) (r : Retirement) (s : Sequence) (call : Option Write) → Gives (retire_deleted t r (of_retire.deleted s) call).stepped
retire_deletes t r s None = (_, refl)
retire_deletes t r s (Some call) =
    retire_ends r _
    (given_gives (of_retire.deleted s) (λ u. (_, refl)) (_, refl) (λ found. (_, refl)) (λ expected found. (_, refl)) (_, refl) _ (write_given t (λ w. tt) call))

retire_does : (t : Told) (r : Retirement) (lowest : Option ReadNode) (ideal : Seen) (d : Retiring) → Gives (retire_done t r lowest ideal d).stepped
retire_does t r lowest ideal retiring.Nothing = (_, refl)
retire_does t r lowest ideal (retiring.Remove s) =
    retire_ends r _
    (given_gives (of_retire.removed s) (λ version. (_, refl)) (_, refl) (λ found. (_, refl)) (λ expected found. (_, refl)) (_, refl) _
    (write_given t (λ w. w.version) (remove_write r s ideal)))
retire_does t r lowest ideal (retiring.Delete s) = retire_deletes t r s (delete_write lowest)

pub retire_gives : (t : Told) (r : Retirement) (now : Moment) (s : RetireStage) → retirements.IsUnended s → Gives (retire_at t r now s).stepped
retire_gives t r now retirement.Listing on = retire_lists r _ (list_given t r.partition)
retire_gives t r now (retirement.Reading lowest) on = retire_reads r _ (read_given t key.Ideal)
retire_gives t r now (retirement.Writing lowest ideal) on = retire_does t r lowest ideal (retiring_at r now lowest ideal)
retire_gives t r now retirement.Ended on = absurd on
