-- A step of a job ends it with FAILED 4 exactly where it is to make its segment Done, and the node is found to be absent.
use Rattle.std.proofs.Common.{◌≡◌, ℕ, ◌==◌, Bool, true, false, cond, nat_lt, List, [], ◌∷◌, ◌++◌, length, Option, Some, None, Result, Ok, Err, refl, sym, ◌∙◌, ap, subst}
use Rattle.std.proofs.lemmas.Option.{none-some, same_Some}
use Rattle.rt_base.specs.Faults.{answer_under, fault_of}
use Rattle.rt_base.specs.declared.fault.Fault.{Fault}
use Rattle.rt_base.specs.declared.fault.Fault.TheVariants.{Nothing, Lost, Kept}
use Rattle.rt_base.specs.declared.numbers.Moment.{Moment}
use Rattle.rt_base.specs.declared.numbers.Offset.{Offset}
use Rattle.rt_deep.specs.declared.refused.DeepRefused.{DeepRefused}
use Rattle.rt_deep.specs.declared.refused.DeepRefused.TheVariants as deep
use Rattle.rt_model.specs.History.{value_of}
use Rattle.rt_model.specs.Lawful.{set, written_by}
use Rattle.rt_model.specs.declared.asked.Asked.{Asked}
use Rattle.rt_model.specs.declared.commit.Commit.{Commit}
use Rattle.rt_base.specs.declared.header.Header.{Header}
use Rattle.rt_model.specs.declared.job_step.StepName.{StepName}
use Rattle.rt_model.specs.declared.job_step.StepName.TheVariants as name
use Rattle.rt_model.specs.declared.job_step.StepOutcome.{StepOutcome}
use Rattle.rt_model.specs.declared.job_step.StepOutcome.TheVariants as outcome
use Rattle.rt_model.specs.declared.node.Seen.{Seen}
use Rattle.rt_model.specs.declared.reply.FailCause.TheVariants as cause
use Rattle.rt_model.specs.declared.reply.Reply.{Reply}
use Rattle.rt_model.specs.declared.reply.ReplyStatus.{ReplyStatus}
use Rattle.rt_model.specs.declared.reply.ReplyStatus.TheVariants as status
use Rattle.rt_store.specs.Answers.{answer_by, change_in}
use Rattle.rt_store.specs.Meaning.{Told}
use Rattle.rt_store.specs.declared.refused.StoreRefused.{StoreRefused}
use Rattle.rt_store.specs.declared.refused.StoreRefused.TheVariants.{NoNode, Exists, VersionChanged, Failed, Memory}
use Rattle.rt_past.specs.Files.{header_in}
use Rattle.rt_commit.specs.Assignment.{Assigned}
use Rattle.rt_controller.specs.Working.{Working, job_place, settled, with_stage, work_at, work_call_at, work_call_on, work_on, worked}
use Rattle.rt_controller.specs.Controller.{Controlling, reply_to}
use Rattle.rt_znodes.specs.Znodes.{meta_in, seen_meta_of}
use Rattle.rt_commit.specs.Job.{Stepping, after_done, after_get, after_next, after_read, after_set, bad, call_at, checked, commits, done_node, ends, fails, goes, is_wanted, step_at, success, tries_again}
use Rattle.rt_controller.specs.Right.{job_at, job_of}
use Rattle.rt_commit.specs.Told.{ToldDeep, answer_to}
use Rattle.rt_controller.specs.Told.{worked_on}
use Rattle.rt_commit.specs.declared.job.Job.{Job}
use Rattle.rt_commit.specs.declared.job.JobStage.{JobStage}
use Rattle.rt_commit.specs.declared.job.JobStage.TheVariants as stage
use Rattle.rt_commit.specs.declared.stepped.Stepped.{Stepped}
use Rattle.rt_commit.specs.declared.work.Work.{Work}
use Rattle.rt_commit.specs.declared.work.Work.TheVariants as of_work
use Rattle.rt_safety.specs.Absent.{EndsNoSegment, IsNoSegment}

-- the status with which a step ends its job
abbrev Ends : Stepping → Type 0
Ends s = s.did.status ≡ Some (status.Failed cause.NoSegment)

-- what is made of an answer doesn't end so
abbrev Never : Option Stepping → Type 0
Never o = (s : Stepping) → o ≡ Some s → Ends s → ⊥

abbrev some_step : Stepping → Option Stepping
some_step s = Some s

none_never : Never None
none_never s e h = absurd (cc)

goes_never : (st : JobStage) (n : StepName) (o : StepOutcome) → Never (goes st n o)
goes_never st n o s e h =
    none-some (status.Failed cause.NoSegment) (ap (λ (z : Stepping). z.did.status) (same_Some (record { stage = st; did = record { step = n; outcome = o; status = None } }) s e) ∙ h)

ends_as : (n : StepName) (o : StepOutcome) (r : ReplyStatus) (s : Stepping) → ends n o r ≡ Some s → Some r ≡ s.did.status
ends_as n o r s e =
    ap (λ (z : Stepping). z.did.status) (same_Some (record { stage = stage.Ended; did = record { step = n; outcome = o; status = Some r } }) s e)

ends_never : (n : StepName) (o : StepOutcome) (r : ReplyStatus) → (IsNoSegment r → ⊥) → Never (ends n o r)
ends_never n o r other s e h = other (same_Some r (status.Failed cause.NoSegment) (ends_as n o r s e ∙ h))

fails_never : (n : StepName) → Never (fails n)
fails_never n = ends_never n outcome.Failed (status.Failed cause.StoreFault) (λ e. cc)

either_never : (b : Bool) (x y : Option Stepping) → Never x → Never y → Never (cond b x y)
either_never true x y h k = h
either_never false x y h k = k

-- ---- check

bad_never : (q : Asked) (from : Seen) (end : Offset) (found : Option Header) → Never (bad q from end found)
bad_never q from end found = ends_never name.Check outcome.Bad _ (λ e. cc)

checked_never : (q : Asked) (from : Seen) (end : Offset) (path : List ℕ) (o : Option Header) → Never (checked q from end path o)
checked_never q from end path None = bad_never q from end None
checked_never q from end path (Some h) =
    either_never (is_wanted q (meta_in from.node).start end h) _ _ (goes_never _ name.Check outcome.Fine) (bad_never q from end (Some h))

get_never : (q : Asked) (from : Seen) (end : Offset) (path : List ℕ) (answer : Result (List ℕ) DeepRefused) → Never (after_get q from end path answer)
get_never q from end path (Ok bytes) = checked_never q from end path (header_in bytes)
get_never q from end path (Err deep.Absent) = bad_never q from end None
get_never q from end path (Err (deep.OtherBytes kept offered)) = fails_never name.Check
get_never q from end path (Err deep.Failed) = fails_never name.Check
get_never q from end path (Err deep.Memory) = none_never

-- ---- next

next_never : (done : Seen) (answer : Result (Unit {0}) StoreRefused) → Never (after_next done answer)
next_never done (Ok u) = goes_never _ name.Next outcome.Fine
next_never done (Err NoNode) = ends_never name.Next outcome.Gone (status.CommitSuccess (seen_meta_of done)) (λ e. cc)
next_never done (Err (Exists found)) = goes_never _ name.Next outcome.Exists
next_never done (Err (VersionChanged expected found)) = ends_never name.Next (outcome.Changed expected found) (status.Failed (cause.VersionChanged expected found)) (λ e. cc)
next_never done (Err Failed) = fails_never name.Next
next_never done (Err Memory) = none_never

-- ---- the ideal state

success_never : (w : Work) → IsNoSegment (success w) → ⊥
success_never (of_work.Commit done) = λ e. cc
success_never of_work.Offline = λ e. cc

read_never : (q : Asked) (w : Work) (found : List ℕ) (answer : Result Seen StoreRefused) → Never (after_read q w found answer)
read_never q w found (Ok ideal) = either_never _ _ _ (goes_never _ name.IdealRead outcome.Fine) (ends_never name.IdealRead outcome.Same (success w) (success_never w))
read_never q w found (Err NoNode) = fails_never name.IdealRead
read_never q w found (Err (Exists version)) = fails_never name.IdealRead
read_never q w found (Err (VersionChanged expected version)) = fails_never name.IdealRead
read_never q w found (Err Failed) = fails_never name.IdealRead
read_never q w found (Err Memory) = none_never

tries_never : (w : Work) (found : List ℕ) (expected version : ℕ) → Never (tries_again w found expected version)
tries_never w found expected version =
    either_never (nat_lt (length found) 9) _ _ (goes_never _ name.IdealSet (outcome.Changed expected version))
    (ends_never name.IdealSet (outcome.Changed expected version) (status.Failed (cause.IdealChanged (found ++ version ∷ []))) (λ e. cc))

set_never : (w : Work) (found : List ℕ) (answer : Result ℕ StoreRefused) → Never (after_set w found answer)
set_never w found (Ok version) = ends_never name.IdealSet outcome.Fine (success w) (success_never w)
set_never w found (Err NoNode) = fails_never name.IdealSet
set_never w found (Err (Exists version)) = fails_never name.IdealSet
set_never w found (Err (VersionChanged expected version)) = tries_never w found expected version
set_never w found (Err Failed) = fails_never name.IdealSet
set_never w found (Err Memory) = none_never

-- ---- done

-- what the segment's node has become is not there, and no fault is met
abbrev pub DoneFindsNone : Told → JobStage → Type 0
DoneFindsNone t (stage.Check from end path) = ⊥
DoneFindsNone t (stage.Done from commit) = (fault_of t.faults.plan ≡ Nothing) × (value_of t.writes from.key ≡ None)
DoneFindsNone t (stage.Next done) = ⊥
DoneFindsNone t (stage.IdealRead w found) = ⊥
DoneFindsNone t (stage.IdealSet w found ideal) = ⊥
DoneFindsNone t stage.Ended = ⊥

module _ (t : Told) (from : Seen) (commit : Commit) (now : Moment) where
  abbrev version : ℕ
  version = (written_by t.writes (set from (done_node from commit now))).version

  -- the answer to the set, by the fault that it meets and by what stands
  abbrev answered : Fault → Option Seen → Result ℕ StoreRefused
  answered f o = answer_under Failed f (answer_by (change_in from.version o) version)

  present_never : (b : Bool) (found : ℕ) → Never (after_done from commit now (answer_by (cond b None (Some (VersionChanged from.version found))) version))
  present_never true found = goes_never _ name.Done outcome.Fine
  present_never false found = ends_never name.Done (outcome.Changed from.version found) (status.Failed (cause.VersionChanged from.version found)) (λ e. cc)

  by_value : (o : Option Seen) (s : Stepping) → value_of t.writes from.key ≡ o → after_done from commit now (answered Nothing o) ≡ Some s → Ends s
      → value_of t.writes from.key ≡ None
  by_value None s is e h = is
  by_value (Some w) s is e h = absurd (present_never (w.version == from.version) w.version s e h)

  by_fault : (f : Fault) (s : Stepping) → fault_of t.faults.plan ≡ f → after_done from commit now (answered f (value_of t.writes from.key)) ≡ Some s → Ends s
      → DoneFindsNone t (stage.Done from commit)
  by_fault Nothing s is e h = (is, by_value (value_of t.writes from.key) s refl e h)
  by_fault Lost s is e h = absurd (fails_never name.Done s e h)
  by_fault Kept s is e h = absurd (fails_never name.Done s e h)

  done_ends : (s : Stepping) → DoneFindsNone t (stage.Done from commit) → after_done from commit now (answered (fault_of t.faults.plan) (value_of t.writes from.key)) ≡ Some s
      → Ends s
  done_ends s (faultless, none) e =
      let is : answered (fault_of t.faults.plan) (value_of t.writes from.key) ≡ Err NoNode =
      ap (λ f. answered f (value_of t.writes from.key)) faultless ∙ ap (answered Nothing) none in
      sym (ends_as name.Done outcome.NoNode (status.Failed cause.NoSegment) s (sym (ap (after_done from commit now) is) ∙ e))

-- ---- a step

module _ (t : Told) (d : ToldDeep) (a : Assigned) (q : Asked) (now : Moment) where
  abbrev made : JobStage → Option Stepping
  made st = step_at q now st (answer_to t d (call_at a q now st))

  step_none : (st : JobStage) (s : Stepping) → made st ≡ Some s → Ends s → DoneFindsNone t st
  step_none (stage.Check from end path) s e h = get_never q from end path _ s e h
  step_none (stage.Done from commit) s e h = by_fault t from commit now (fault_of t.faults.plan) s refl e h
  step_none (stage.Next done) s e h = next_never done _ s e h
  step_none (stage.IdealRead w found) s e h = read_never q w found _ s e h
  step_none (stage.IdealSet w found ideal) s e h = set_never w found _ s e h
  step_none stage.Ended s e h = none_never s e h

  none_step : (st : JobStage) (s : Stepping) → made st ≡ Some s → DoneFindsNone t st → Ends s
  none_step (stage.Check from end path) s e k = absurd k
  none_step (stage.Done from commit) s e k = done_ends t from commit now s k e
  none_step (stage.Next done) s e k = absurd k
  none_step (stage.IdealRead w found) s e k = absurd k
  none_step (stage.IdealSet w found ideal) s e k = absurd k
  none_step stage.Ended s e k = absurd k

-- ---- the job of a number

abbrev reply_by : Asked → Option ReplyStatus → Option Reply
reply_by a None = None
reply_by a (Some s) = Some (reply_to a s)

settled_reply : (c : Controlling) (place : ℕ) (a : Asked) (commit : Bool) (did : Stepped) (o : Option ReplyStatus) → (settled c place a commit did o).step.reply ≡ reply_by a o
settled_reply c place a commit did None = refl
settled_reply c place a commit did (Some s) = refl

reply_is : (a : Asked) (o : Option ReplyStatus) (r : Reply) → reply_by a o ≡ Some r → o ≡ Some r.status
reply_is a None r e = absurd (cc)
reply_is a (Some s) r e = ap (λ (z : Reply). Some z.status) (same_Some (reply_to a s) r e)

-- what a step did, and the reply that it ended its job with
record Did (c : Controlling) (j : Job) (t : Told) (d : ToldDeep) (now : Moment) (x : Working) : Type 0 where
  pub stepping : Stepping
  pub stepped : made t d c.assigned j.asked now j.stage ≡ Some stepping
  pub reply : x.step.reply ≡ reply_by j.asked stepping.did.status

module _ (t : Told) (d : ToldDeep) (c : Controlling) (n : ℕ) (now : Moment) (j : Job) (x : Working) where
  did_at : (place : ℕ) (o : Option Stepping) → made t d c.assigned j.asked now j.stage ≡ o → worked c place j o ≡ Some x → Did c j t d now x
  did_at place None is e = absurd (cc)
  did_at place (Some s) is e =
      record {
        stepping = s;
        stepped = is;
        reply =
            ap (λ (z : Working). z.step.reply) (sym (same_Some (settled (with_stage c place j s.stage) place j.asked (commits j.stage) s.did s.did.status) x e))
            ∙ settled_reply (with_stage c place j s.stage) place j.asked (commits j.stage) s.did s.did.status;
      }

  did_on : (o : Option ℕ) → job_at c.jobs o ≡ Some j → work_on c now (answer_to t d (work_call_on c now o)) o ≡ Some x → Did c j t d now x
  did_on None at e = absurd (cc)
  did_on (Some place) at e =
      did_at place (made t d c.assigned j.asked now j.stage) refl
      (subst (λ (s : Option Job). work_at c now (answer_to t d (work_call_at c now s)) place s ≡ Some x) at e)

  did : job_of c n ≡ Some j → worked_on t d c n now ≡ Some x → Did c j t d now x
  did at e = did_on (job_place c.jobs n) at e

  pub worked_none : job_of c n ≡ Some j → worked_on t d c n now ≡ Some x → EndsNoSegment x.step → DoneFindsNone t j.stage
  worked_none at e (r, replied, none_there) =
      let k = did at e in
      let s = reply_is j.asked k.stepping.did.status r (sym k.reply ∙ replied) in
      step_none t d c.assigned j.asked now j.stage k.stepping k.stepped (s ∙ ap Some none_there)

  pub none_worked : job_of c n ≡ Some j → worked_on t d c n now ≡ Some x → DoneFindsNone t j.stage → EndsNoSegment x.step
  none_worked at e finds =
      let k = did at e in
      let s = none_step t d c.assigned j.asked now j.stage k.stepping k.stepped finds in
      (reply_to j.asked (status.Failed cause.NoSegment), k.reply ∙ ap (reply_by j.asked) s, refl)
