-- The commit job: it starts in time, and only once.
use Rattle.std.proofs.Common.{◌≡◌, ◌≤◌, ◌+◌, ℕ, Bool, true, false, cond, ◌&&◌, ◌==◌, nat_lt, List, [], ◌∷◌, refl, sym, ◌∙◌, subst, arith, count_by}
use Rattle.std.proofs.lemmas.Bool.{ltb-false}
use Rattle.std.proofs.lemmas.List.Sums.{sum_by-cons}
use Rattle.rt_base.specs.declared.numbers.Instance.{Instance}
use Rattle.rt_base.specs.declared.numbers.Offset.{Offset}
use Rattle.rt_base.specs.declared.numbers.Moment.{Moment}
use Rattle.rt_model.specs.declared.seg_meta.SeenMeta.{SeenMeta}
use Rattle.rt_model.specs.declared.request.Reason.{Reason}
use Rattle.rt_model.specs.declared.machine_state.MachineState.{MachineState}
use Rattle.rt_model.specs.declared.machine_state.MachineState.TheVariants.{PartialConsuming, Holding, CommitterDecided, CommitterNotified, CommitterUploading, Committing, Committed, Aborted}
use Rattle.rt_model.specs.declared.completion.Ask.{Ask}
use Rattle.rt_model.specs.declared.completion.Ask.TheVariants.{Consumed, CommitStart, CommitEnd, Stopped, Extend}
use Rattle.rt_model.specs.declared.completion.Reaction.{Reaction}
use Rattle.rt_model.specs.declared.completion.Said.{Said}
use Rattle.rt_model.specs.declared.completion.Said.TheVariants.{Hold, CatchUp, Commit}
use Rattle.rt_model.specs.declared.completion.Reaction.TheVariants.{Answer, StartCommit, StartOffline}
use Rattle.rt_model.specs.Completion.{Completion, first, react, is_late, has_deadline, by_table, consumed_in, commit_start_in, commit_end_in, stopped_in, extend_in, gathers, decided, picks, with_pick, with_note, catches_up, loses, goes}
use Rattle.rt_fsm.specs.Life.{Message, Step, step, steps, life}
use Rattle.rt_fsm.specs.Laws.{StartsInTime, HasNoLateJob, HasOneJobAtMost, is_commit_job}
use Rattle.rt_fsm.proofs.Table.{by_test, by_react, each_step}

-- the states from the start of the commit job on
abbrev IsPastJob : MachineState → Type 0
IsPastJob PartialConsuming = ⊥
IsPastJob Holding = ⊥
IsPastJob CommitterDecided = ⊥
IsPastJob CommitterNotified = ⊥
IsPastJob CommitterUploading = ⊥
IsPastJob Committing = Unit {0}
IsPastJob Committed = Unit {0}
IsPastJob Aborted = Unit {0}

-- what a commit job that starts owes, and what another reaction owes
abbrev StartsWell : Completion → Moment → Reaction × Completion → Type 0
StartsWell m now (Answer said, n) = IsPastJob m.state → IsPastJob n.state
StartsWell m now (StartCommit x, n) = (now.0 ≤ m.deadline.0) × (IsPastJob m.state → ⊥) × IsPastJob n.state
StartsWell m now (StartOffline, n) = IsPastJob m.state → IsPastJob n.state

-- the same as a record, so that its arguments are found
record Well (m : Completion) (now : Moment) (y : Reaction × Completion) : Type 0 where
  holds : StartsWell m now y

either : (m : Completion) (now : Moment) (b : Bool) (x y : Reaction × Completion) → Well m now x → Well m now y → Well m now (cond b x y)
either m now b x y p q = by_test (Well m now) b x y (λ _. p) (λ _. q)

-- the machine stays as it is
kept : (m : Completion) (now : Moment) (said : Said) → Well m now (Answer said, m)
kept m now said = record { holds = λ q. q }

-- the machine ends
ends : (m : Completion) (now : Moment) (said : Said) → Well m now (Answer said, goes m Aborted)
ends m now said = record { holds = λ q. tt }

-- a machine that isn't past its job may go anywhere without one
early : (m : Completion) (now : Moment) (s : MachineState) → m.state ≡ s → (IsPastJob s → ⊥) → (said : Said) (n : Completion) → Well m now (Answer said, n)
early m now s e before said n = record { holds = λ q. absurd (before (subst IsPastJob e q)) }

catching_up : (m : Completion) (x : Offset) (now : Moment) → Well m now (catches_up m x)
catching_up m x now = either m now (nat_lt x.0 m.offset.0) _ _ (kept m now _) (kept m now _)

offline : (m : Completion) (now : Moment) (n : Completion) → (IsPastJob m.state → IsPastJob n.state) → Well m now (StartOffline, n)
offline m now n p = record { holds = p }

losing : (m : Completion) (i : Instance) (now : Moment) → Well m now (loses m i)
losing m i now = either m now (i.0 == m.winner.0) _ _ (offline m now _ (λ q. tt)) (offline m now _ (λ q. q))

deciding : (s : MachineState) (m n : Completion) (i : Instance) (x : Offset) (now : Moment) → m.state ≡ s → (IsPastJob s → ⊥) → Well m now (decided n i x)
deciding s m n i x now e before =
    let to : (said : Said) (t : MachineState) → Well m now (Answer said, goes n t) = λ said t. early m now s e before said (goes n t) in
    either m now (i.0 == n.winner.0) (Answer (Commit n.offset), goes n CommitterNotified) _ (to (Commit n.offset) CommitterNotified)
    (either m now (x.0 == n.offset.0) (Answer Hold, goes n CommitterDecided) (Answer (CatchUp n.offset), goes n CommitterDecided)
    (to Hold CommitterDecided) (to (CatchUp n.offset) CommitterDecided))

gathering : (s : MachineState) (m n : Completion) (i : Instance) (x : Offset) (r : Reason) (now : Moment) → m.state ≡ s → (IsPastJob s → ⊥) → Well m now (gathers n i x r now)
gathering s m n i x r now e before =
    either m now (picks n i r now) (decided (with_pick n i x now) i x) (Answer Hold, goes n Holding)
    (deciding s m (with_pick n i x now) i x now e before) (early m now s e before Hold (goes n Holding))

consumed : (s : MachineState) (m : Completion) (i : Instance) (x : Offset) (r : Reason) (now : Moment) → m.state ≡ s → Well m now (consumed_in s m i x r now)
consumed PartialConsuming m i x r now e = gathering PartialConsuming m (with_note m i x) i x r now e absurd
consumed Holding m i x r now e = gathering Holding m (with_note m i x) i x r now e absurd
consumed CommitterDecided m i x r now e = either m now (nat_lt m.offset.0 x.0) _ _ (ends m now _) (either m now ((i.0 == m.winner.0) && (x.0 == m.offset.0)) _ _ (early m now CommitterDecided e absurd _ _) (catching_up m x now))
consumed CommitterNotified m i x r now e = either m now (nat_lt m.offset.0 x.0) _ _ (ends m now _) (either m now (i.0 == m.winner.0) _ _ (either m now (x.0 == m.offset.0) _ _ (kept m now _) (ends m now _)) (catching_up m x now))
consumed CommitterUploading m i x r now e = either m now (i.0 == m.winner.0) _ _ (ends m now _) (catching_up m x now)
consumed Committing m i x r now e = catching_up m x now
consumed Committed m i x r now e = kept m now _
consumed Aborted m i x r now e = kept m now _

commit_start : (s : MachineState) (m : Completion) (i : Instance) (x : Offset) (now : Moment) → m.state ≡ s → Well m now (commit_start_in s m i x)
commit_start PartialConsuming m i x now e = kept m now _
commit_start Holding m i x now e = kept m now _
commit_start CommitterDecided m i x now e = kept m now _
commit_start CommitterNotified m i x now e = either m now (i.0 == m.winner.0) _ _ (either m now (x.0 == m.offset.0) _ _ (early m now CommitterNotified e absurd _ _) (ends m now _)) (kept m now _)
commit_start CommitterUploading m i x now e = kept m now _
commit_start Committing m i x now e = kept m now _
commit_start Committed m i x now e = kept m now _
commit_start Aborted m i x now e = kept m now _

pub in_time : (m : Completion) (now : Moment) → m.state ≡ CommitterUploading → is_late m now ≡ false → now.0 ≤ m.deadline.0
in_time m now e late = ltb-false m.deadline.0 now.0 (subst (λ s. (has_deadline s && nat_lt m.deadline.0 now.0) ≡ false) e late)

starting : (m : Completion) (now : Moment) (x : Offset) → m.state ≡ CommitterUploading → is_late m now ≡ false → Well m now (StartCommit x, goes m Committing)
starting m now x e late = record { holds = (in_time m now e late, (λ q. subst IsPastJob e q), tt) }

commit_end : (s : MachineState) (m : Completion) (i : Instance) (x : Offset) (now : Moment) → m.state ≡ s → is_late m now ≡ false → Well m now (commit_end_in s m i x)
commit_end PartialConsuming m i x now e late = kept m now _
commit_end Holding m i x now e late = kept m now _
commit_end CommitterDecided m i x now e late = kept m now _
commit_end CommitterNotified m i x now e late = kept m now _
commit_end CommitterUploading m i x now e late = either m now (i.0 == m.winner.0) _ _ (either m now (x.0 == m.offset.0) _ _ (starting m now _ e late) (ends m now _)) (kept m now _)
commit_end Committing m i x now e late = kept m now _
commit_end Committed m i x now e late = kept m now _
commit_end Aborted m i x now e late = kept m now _

stopped : (s : MachineState) (m : Completion) (i : Instance) (now : Moment) → m.state ≡ s → Well m now (stopped_in s m i)
stopped PartialConsuming m i now e = offline m now _ (λ q. q)
stopped Holding m i now e = offline m now _ (λ q. q)
stopped CommitterDecided m i now e = losing m i now
stopped CommitterNotified m i now e = losing m i now
stopped CommitterUploading m i now e = losing m i now
stopped Committing m i now e = offline m now _ (λ q. q)
stopped Committed m i now e = kept m now _
stopped Aborted m i now e = kept m now _

extend : (s : MachineState) (m : Completion) (i : Instance) (millis : ℕ) (now : Moment) → m.state ≡ s → Well m now (extend_in s m i millis now)
extend PartialConsuming m i millis now e = kept m now _
extend Holding m i millis now e = kept m now _
extend CommitterDecided m i millis now e = kept m now _
extend CommitterNotified m i millis now e = either m now (i.0 == m.winner.0) _ _ (early m now CommitterNotified e absurd _ _) (kept m now _)
extend CommitterUploading m i millis now e = kept m now _
extend Committing m i millis now e = kept m now _
extend Committed m i millis now e = kept m now _
extend Aborted m i millis now e = kept m now _

by_ask : (m : Completion) (i : Instance) (ask : Ask) (now : Moment) → is_late m now ≡ false → Well m now (by_table m i ask now)
by_ask m i (Consumed x r) now late = consumed m.state m i x r now refl
by_ask m i (CommitStart x) now late = commit_start m.state m i x now refl
by_ask m i (CommitEnd x) now late = commit_end m.state m i x now refl late
by_ask m i Stopped now late = stopped m.state m i now refl
by_ask m i (Extend millis) now late = extend m.state m i millis now refl

starts_well : (m : Completion) (i : Instance) (ask : Ask) (now : Moment) → StartsWell m now (react m i ask now)
starts_well m i ask now = (by_react (Well m now) m i ask now (λ _. ends m now _) (λ x kept_at. kept m now _) (λ late past. by_ask m i ask now late)).holds

-- The laws.

starts_in_time : (m : Completion) (now : Moment) (r : Reaction) (n : Completion) → StartsWell m now (r, n) → StartsInTime r now m.deadline
starts_in_time m now (Answer said) n p = tt
starts_in_time m now (StartCommit x) n p = p.0
starts_in_time m now StartOffline n p = tt

pub no_late_job : (seen : SeenMeta) (replicas : List Instance) (state : MachineState) (made : Moment) (messages : List Message)
    → HasNoLateJob (life seen replicas state made messages)
no_late_job seen replicas state made messages =
    each_step (λ m. Unit {0}) (λ s. StartsInTime s.reaction s.message.now s.before.deadline)
    (λ m message _. (starts_in_time m message.now _ (step m message).after (starts_well m message.sender message.ask message.now), tt))
    (first seen replicas state made) messages tt

abbrev jobs : List Step → ℕ
jobs ss = count_by (λ s. is_commit_job s.reaction) ss

abbrev job_of : Step → ℕ
job_of s = cond (is_commit_job s.reaction) 1 0

-- no job starts past the job
none_past : (m : Completion) (now : Moment) (r : Reaction) (n : Completion) → StartsWell m now (r, n) → IsPastJob m.state → (is_commit_job r ≡ false) × IsPastJob n.state
none_past m now (Answer said) n p q = (refl, p q)
none_past m now (StartCommit x) n p q = absurd (p.1 q)
none_past m now StartOffline n p q = (refl, p q)

no_more : (b : Bool) (rest : ℕ) → b ≡ false → rest ≡ 0 → cond b 1 0 + rest ≡ 0
no_more true rest e none = cc
no_more false rest e none = omega arith

jobs_past : (m : Completion) (messages : List Message) → IsPastJob m.state → jobs (steps m messages) ≡ 0
jobs_past m [] q = refl
jobs_past m (message ∷ messages) q =
    let here = none_past m message.now (step m message).reaction (step m message).after (starts_well m message.sender message.ask message.now) q in
    sum_by-cons job_of (step m message) (steps (step m message).after messages)
    ∙ no_more (is_commit_job (step m message).reaction) (jobs (steps (step m message).after messages)) here.0 (jobs_past (step m message).after messages here.1)

-- a reaction is no job, or the machine is past its job after it
one_or_none : (m : Completion) (now : Moment) (r : Reaction) (n : Completion) (rest : ℕ) → StartsWell m now (r, n) → rest ≤ 1 → (IsPastJob n.state → rest ≡ 0) → cond (is_commit_job r) 1 0 + rest ≤ 1
one_or_none m now (Answer said) n rest p few none = omega arith
one_or_none m now (StartCommit x) n rest p few none = let e : rest ≡ 0 = none p.2 in omega arith
one_or_none m now StartOffline n rest p few none = omega arith

few_jobs : (m : Completion) (messages : List Message) → jobs (steps m messages) ≤ 1
few_jobs m [] = omega arith
few_jobs m (message ∷ messages) =
    subst (λ n. n ≤ 1) (sym (sum_by-cons job_of (step m message) (steps (step m message).after messages)))
    (one_or_none m message.now (step m message).reaction (step m message).after (jobs (steps (step m message).after messages)) (starts_well m message.sender message.ask message.now) (few_jobs (step m message).after messages) (jobs_past (step m message).after messages))

pub one_job : (seen : SeenMeta) (replicas : List Instance) (state : MachineState) (made : Moment) (messages : List Message)
    → HasOneJobAtMost (life seen replicas state made messages)
one_job seen replicas state made messages = few_jobs (first seen replicas state made) messages
