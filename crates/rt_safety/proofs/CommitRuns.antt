-- Along the turns of a run a commit job goes on, until it ends as a commit ends.
use Rattle.std.proofs.Common.{◌≡◌, ◌⊎◌, inl, inr, ℕ, ◌+◌, ◌≤◌, ◌==◌, ◌&&◌, Bool, true, false, List, [], ◌∷◌, Ok, Option, Some, None, refl, sym, ◌∙◌, ap, subst, slice_get, length, arith, ⊎_elim}
use Rattle.std.proofs.lemmas.Bool.{and_parts, cases_eq, eq-eqb, eqb-true, false≢true}
use Rattle.std.proofs.lemmas.Option.{same_Some}
use Rattle.rt_base.specs.declared.numbers.ControllerId.{ControllerId}
use Rattle.rt_base.specs.declared.numbers.Offset.{Offset}
use Rattle.rt_commit.specs.declared.job.Job.{Job}
use Rattle.rt_commit.specs.Job.{commits}
use Rattle.rt_commit.specs.Lasting.{commit_end}
use Rattle.rt_commit.specs.Laws.{steps_left}
use Rattle.rt_commit.specs.Right.{EndsSo, HasChanged, MetFault, StatusSo}
use Rattle.rt_controller.specs.Right.{LeavesJob, WorksOver, job_of}
use Rattle.rt_controller.proofs.CallsOver.{works_over}
use Rattle.rt_commit.proofs.CommitEnds.{end_commits}
use Rattle.rt_controller.proofs.Paired.{one_if}
use Rattle.rt_events.specs.declared.event.Event.{Event}
use Rattle.rt_events.specs.declared.event.Event.TheVariants as event
use Rattle.rt_events.specs.declared.outcome.Outcome.{Outcome}
use Rattle.rt_model.specs.declared.asked.Asked.{Asked}
use Rattle.rt_model.specs.declared.job_step.JobStep.{JobStep}
use Rattle.rt_model.specs.Metadata.{IsDoneStatus}
use Rattle.rt_model.specs.declared.job_step.StepName.{StepName}
use Rattle.rt_model.specs.declared.node.Seen.{Seen}
use Rattle.rt_model.specs.declared.reply.FailCause.TheVariants as cause
use Rattle.rt_model.specs.declared.reply.Reply.{Reply}
use Rattle.rt_model.specs.declared.reply.ReplyStatus.{ReplyStatus}
use Rattle.rt_model.specs.declared.reply.ReplyStatus.TheVariants as status
use Rattle.rt_model.specs.declared.seg_meta.SeenMeta.{SeenMeta}
use Rattle.rt_base.specs.declared.numbers.Partition.{Partition}
use Rattle.rt_base.specs.declared.numbers.Sequence.{Sequence}
use Rattle.rt_controller.specs.Steps.{Works}
use Rattle.rt_deep.specs.Memory.{means as deep_means}
use Rattle.rt_store.specs.Memory.{means}
use Rattle.rt_safety.proofs.ChangedEnds.{changed_wrote_nothing}
use Rattle.rt_safety.proofs.SuccessEnds.{success_ends}
use Rattle.rt_deep.specs.Meaning.{Told as ToldDeep}
use Rattle.rt_store.specs.Meaning.{Told}
use Rattle.rt_controller.specs.Controller.{Controlling}
use Rattle.rt_state.specs.Applying.{Next}
use Rattle.rt_safety.specs.Runs.{Turn, happens, passes, TurnsTo}
use Rattle.rt_safety.specs.CommitRun.{EndsIn, GoesSo, IsOpen, GoesWithoutCrash, is_crash, job_in, open_job, steps_in}
use Rattle.rt_state.specs.IsSafe.{past_of}
use Rattle.rt_state.specs.IsSafeWorld.{IsSafeWorld}
use Rattle.rt_state.specs.Jobs.{JobSteps, JobStepsAt, noted_set, stepped, stepped_by}
use Rattle.rt_state.specs.Messages.{after_step}
use Rattle.rt_world.specs.Step.{Steps, way_of}
use Rattle.rt_nodes.specs.declared.controller_node.ControllerNode.{ControllerNode}
use Rattle.rt_state.specs.declared.cost.Cost.{Cost}
use Rattle.rt_state.specs.declared.state.State.{State}
use Rattle.rt_safety.proofs.JobsOn.{KeepsJob, Stays, believing_stays, controllers_stay, goes_stays, own_slot, slot_stays}
use Rattle.rt_safety.proofs.Runs.{leads_safe}
use Rattle.rt_safety.proofs.Ways.{is_free, leaving}

-- ---- what an event leaves of the job

abbrev GoesOn : State → ControllerId → ℕ → Asked → Offset → ℕ → Turn → State → Type 0
GoesOn w c n a end left turn y = EndsIn w c n a end turn y ⊎ ((k : ℕ) × (k + steps_in c n turn ≤ left) × IsOpen y c n a end k)

abbrev GoesBy : State → ControllerId → ℕ → Asked → Offset → ℕ → Event → State → Outcome → Type 0
GoesBy w c n a end left e y outcome = GoesOn w c n a end left (happens e outcome) y

still_open : (w y : State) (c : ControllerId) (n : ℕ) (a : Asked) (end : Offset) (left : ℕ) (o : IsOpen w c n a end left) → Stays w y c n o.job
    → IsOpen y c n a end left
still_open w y c n a end left o stays =
    record { job = o.job; there = stays o.there; asked = o.asked; ends_at = o.ends_at; few = o.few }

-- a turn that isn't a step of the job
goes_on : (w y : State) (c : ControllerId) (n : ℕ) (a : Asked) (end : Offset) (left : ℕ) (turn : Turn) (o : IsOpen w c n a end left) → steps_in c n turn ≡ 0
    → Stays w y c n o.job → GoesOn w c n a end left turn y
goes_on w y c n a end left turn o none stays = inr (left, omega (arith, none), still_open w y c n a end left o stays)

-- ---- a step of a job

-- a Done write is told of a commit that succeeds
done_so : (h : List Seen) (p : Partition) (q : Sequence) (rose : Type 0) (b : Bool) (n : StepName) (r : ReplyStatus) (seen : SeenMeta) → r ≡ status.CommitSuccess seen
    → StatusSo h p q rose b n r → IsDoneStatus seen.meta.status
done_so h p q rose b n r seen is so = let success = subst (λ x. StatusSo h p q rose b n x) is so in success.1.1

stepped_controllers : (w : State) (cost : Cost) (step : JobStep) (o : Option Reply) → (stepped_by w cost step o).0.controllers ≡ w.controllers
stepped_controllers w cost step None = refl
stepped_controllers w cost step (Some r) = refl

abbrev after_job : State → ControllerId → ControllerNode → Controlling → Told → ToldDeep → Cost → State
after_job w d node new store deep cost = noted_set (after_step w d node new store deep) cost (length w.store.writes)

same_controller : (c d : ControllerId) → c.0 ≡ d.0 → c ≡ d
same_controller c d e = let id : ℕ → ControllerId = λ n. record { 0 = n } in ap id e

step_counts : (c d : ControllerId) (n m : ℕ) (outcome : Outcome) → ((c.0 ≡ d.0) → (n ≡ m) → ⊥) → steps_in c n (happens (event.Job d m) outcome) ≡ 0
step_counts c d n m outcome other = by_test ((d.0 == c.0) && (m == n)) refl
  where
    by_test : (b : Bool) → ((d.0 == c.0) && (m == n)) ≡ b → one_if b ≡ 0
    by_test true e = let parts = and_parts (d.0 == c.0) (m == n) e in absurd (other (sym (eqb-true d.0 c.0 parts.0)) (sym (eqb-true m n parts.1)))
    by_test false e = refl

one_step : (c : ControllerId) (n : ℕ) (outcome : Outcome) → steps_in c n (happens (event.Job c n) outcome) ≤ 1
one_step c n outcome = by_test ((c.0 == c.0) && (n == n))
  where
    by_test : (b : Bool) → one_if b ≤ 1
    by_test true = omega arith
    by_test false = omega arith

module _ (w : State) (c : ControllerId) (n : ℕ) (a : Asked) (end : Offset) (left : ℕ) (s : IsSafeWorld w) (o : IsOpen w c n a end left) where
  module _ (node : ControllerNode) (at : slice_get w.controllers c.0 ≡ Some node) (new : Controlling) (step : JobStep) (store : Told) (deep : ToldDeep) (cost : Cost)
      (k : WorksOver w.setup (past_of w) w.store store w.deep deep node.controller new n step)
      (works : Works (means w.store) (means store) (deep_means w.deep) (deep_means deep) node.controller n w.moment new (Ok step)) where
    its_job : k.job ≡ o.job
    its_job = same_Some k.job o.job (sym k.open_job ∙ sym (ap (λ (x : Option ControllerNode). job_in x n) at) ∙ o.there)

    asked_is : k.job.asked ≡ a
    asked_is = ap (λ (x : Job). x.asked) its_job ∙ o.asked

    end_is : commit_end k.job.stage ≡ Some end
    end_is = ap (λ (x : Job). commit_end x.stage) its_job ∙ o.ends_at

    commits_is : commits k.job.stage ≡ true
    commits_is = end_commits k.job.stage end end_is

    few_left : steps_left k.job.stage ≤ left
    few_left = subst (λ (x : Job). steps_left x.stage ≤ left) (sym its_job) o.few

    abbrev y : Option Reply → State
    y r = (stepped_by (after_job w c node new store deep cost) cost step r).0

    opened : (r : Option Reply) → open_job (y r) c n ≡ job_of new n
    opened r =
        ap (λ (l : List ControllerNode). job_in (slice_get l c.0) n) (stepped_controllers (after_job w c node new store deep cost) cost step r)
        ∙ ap (λ (x : Option ControllerNode). job_in x n) (own_slot w.controllers c.0 node (record node { controller = new }) at)

    -- how it ends, by what is known of the job
    its_own : (reply : Reply)
        → StatusSo store.writes k.job.asked.partition k.job.asked.sequence (MetFault w.store store w.deep deep) (commits k.job.stage) step.step reply.status
        → StatusSo store.writes a.partition a.sequence (MetFault w.store store w.deep deep) true step.step reply.status
    its_own reply so =
        subst (λ (b : Bool). StatusSo store.writes a.partition a.sequence (MetFault w.store store w.deep deep) b step.step reply.status) commits_is
        (subst (λ (x : Asked). StatusSo store.writes x.partition x.sequence (MetFault w.store store w.deep deep) (commits k.job.stage) step.step reply.status) asked_is so)

    changed : (reply : Reply) (expected found : ℕ) → step.reply ≡ Some reply → reply.status ≡ status.Failed (cause.VersionChanged expected found)
        → StatusSo store.writes a.partition a.sequence (MetFault w.store store w.deep deep) true step.step reply.status
        → HasChanged w.store.writes a.partition a.sequence expected found
    changed reply expected found e is so =
        subst (λ (h : List Seen). HasChanged h a.partition a.sequence expected found)
        (changed_wrote_nothing w.store store (deep_means w.deep) (deep_means deep) node.controller new n w.moment step reply expected found works e is)
        (subst (λ (s : ReplyStatus). StatusSo store.writes a.partition a.sequence (MetFault w.store store w.deep deep) true step.step s) is so).1

    by_reply : (r : Option Reply) → step.reply ≡ r → LeavesJob k.job r (job_of new n)
        → EndsSo store.writes k.job.asked.partition k.job.asked.sequence (MetFault w.store store w.deep deep) (commits k.job.stage) step.step r
        → GoesBy w c n a end left (event.Job c n) (y r) (stepped_by (after_job w c node new store deep cost) cost step r).1
    by_reply None e (next, there, number, asked, same_end, less) so =
        inr (
          steps_left next.stage,
          omega (arith, less, few_left, one_step c n (stepped_by (after_job w c node new store deep cost) cost step None).1),
          record {
            job = next;
            there = opened None ∙ there;
            asked = asked ∙ asked_is;
            ends_at = same_end ∙ end_is;
            few = omega arith;
          },
        )
    by_reply (Some reply) e (gone, number, partition, sequence) so =
        inl
        (record {
          step = step;
          reply = reply;
          own = refl;
          told_so = e;
          was_sent = refl;
          number = number ∙ ap (λ (x : Asked). x.number) asked_is;
          partition = partition ∙ ap (λ (x : Asked). x.partition) asked_is;
          sequence = sequence ∙ ap (λ (x : Asked). x.sequence) asked_is;
          so = its_own reply so;
          success =
              λ seen is. success_ends w.setup (past_of w) (means w.store) (means store) (deep_means w.deep) (deep_means deep) node.controller n w.moment
              (record { controller = new; step = step }) o.job end reply seen (s.safe.controllers c.0 node at).over works
              (sym (ap (λ (x : Option ControllerNode). job_in x n) at) ∙ o.there) o.ends_at e is
              (done_so store.writes k.job.asked.partition k.job.asked.sequence (MetFault w.store store w.deep deep) (commits k.job.stage) step.step reply.status seen is so);
          changed_before = λ expected found is. changed reply expected found e is (its_own reply so);
          gone = opened (Some reply) ∙ gone;
        })

    own_goes : GoesBy w c n a end left (event.Job c n) (y step.reply) (stepped (after_job w c node new store deep cost) cost step).1
    own_goes = by_reply step.reply refl k.leaves k.ends

  own_at : (d : ControllerId) (m : ℕ) (node : ControllerNode) → slice_get w.controllers d.0 ≡ Some node → (new : Controlling) (step : JobStep) (store : Told)
      (deep : ToldDeep) (cost : Cost) → WorksOver w.setup (past_of w) w.store store w.deep deep node.controller new m step
      → Works (means w.store) (means store) (deep_means w.deep) (deep_means deep) node.controller m w.moment new (Ok step) → c.0 ≡ d.0 → n ≡ m
      → GoesBy w c n a end left (event.Job d m) (stepped (after_job w d node new store deep cost) cost step).0 (stepped (after_job w d node new store deep cost) cost step).1
  own_at d m node at new step store deep cost k works i f =
      let Q : ControllerId → ℕ → Type 0 = λ d m. slice_get w.controllers d.0 ≡ Some node
      → WorksOver w.setup (past_of w) w.store store w.deep deep node.controller new m step
      → Works (means w.store) (means store) (deep_means w.deep) (deep_means deep) node.controller m w.moment new (Ok step)
      → GoesBy w c n a end left (event.Job d m) (stepped (after_job w d node new store deep cost) cost step).0 (stepped (after_job w d node new store deep cost) cost step).1 in
      subst (λ (b : ControllerId). Q b m) (same_controller c d i)
      (subst (λ (b : ℕ). Q c b) f (λ at k works. own_goes node at new step store deep cost k works)) at k works

  -- the step of any job
  pub job_goes : (d : ControllerId) (m : ℕ) (cost : Cost) (x : Next) → JobSteps w d m cost x → GoesBy w c n a end left (event.Job d m) x.0 x.1
  job_goes d m cost x h = by_node (slice_get w.controllers d.0) refl h
    where
      by_node : (p : Option ControllerNode) → slice_get w.controllers d.0 ≡ p → JobStepsAt p w d m cost x → GoesBy w c n a end left (event.Job d m) x.0 x.1
      by_node None at h = absurd h
      by_node (Some node) at (new, step, store, deep, works, is) =
          let k = works_over w.setup (past_of w) w.store store w.deep deep node.controller new m w.moment step s.safe.setup s.safe.past refl refl
          (s.safe.controllers d.0 node at).over works in
          let z = stepped (after_job w d node new store deep cost) cost step in
          let G : Next → Type 0 = λ v. GoesBy w c n a end left (event.Job d m) v.0 v.1 in
          let same = stepped_controllers (after_job w d node new store deep cost) cost step step.reply in
          let other : ((c.0 ≡ d.0) → (n ≡ m) → ⊥) → G z = λ apart.
          goes_on w z.0 c n a end left (happens (event.Job d m) z.1) o (step_counts c d n m z.1 apart)
          (slot_stays w z.0 c d n o.job node (record node { controller = new }) at same (λ i e. k.stay n o.job (λ f. apart i f) e)) in
          subst G (sym is)
          (⊎_elim
          (λ i. ⊎_elim (λ f. own_at d m node at new step store deep cost k works i f) (λ ne. other (λ i f. ne f)) (cases_eq n m))
          (λ ne. other (λ i f. ne i)) (cases_eq c.0 d.0))

-- ---- an event

module _ (w : State) (c : ControllerId) (n : ℕ) (a : Asked) (end : Offset) (left : ℕ) (s : IsSafeWorld w) (o : IsOpen w c n a end left) where
  -- one that is no step of the job
  other_goes : (e : Event) (y : State) (outcome : Outcome) → steps_in c n (happens e outcome) ≡ 0 → KeepsJob (way_of w e) c n o.job → Steps w e y (Ok outcome)
      → GoesBy w c n a end left e y outcome
  other_goes e y outcome none keeps (cost, due, h) =
      goes_on w y c n a end left (happens e outcome) o none (goes_stays w (way_of w e) c n o.job cost (y, outcome) s keeps (is_free w e cost due) (leaving w e cost due) h)

  pub event_goes : (e : Event) (y : State) (outcome : Outcome) → is_crash c (happens e outcome) ≡ false → Steps w e y (Ok outcome) → GoesBy w c n a end left e y outcome
  event_goes (event.Job d m) y outcome calm h = job_goes w c n a end left s o d m h.0 (y, outcome) h.2
  event_goes (event.Lead d on) y outcome calm h = other_goes (event.Lead d on) y outcome refl (λ old i. believing_stays old on n o.job) h
  event_goes (event.CrashController d) y outcome calm h =
      other_goes (event.CrashController d) y outcome refl (λ old i. absurd (false≢true (sym calm ∙ eq-eqb d.0 c.0 (sym i)))) h
  event_goes (event.RestartController d) y outcome calm h = other_goes (event.RestartController d) y outcome refl (λ old i e. e) h
  event_goes e y outcome calm h = other_goes e y outcome refl tt h

  pub turn_goes : (turn : Turn) (y : State) → is_crash c turn ≡ false → TurnsTo w turn y → GoesOn w c n a end left turn y
  turn_goes (happens e outcome) y calm (fits, steps) = event_goes e y outcome calm steps
  turn_goes passes y calm (cost, due, is) =
      goes_on w y c n a end left passes o refl (controllers_stay w y c n o.job (ap (λ (z : State). z.controllers) is))

-- ---- turns, one after the other

pub commit_runs : (c : ControllerId) (n : ℕ) (a : Asked) (end : Offset) (left : ℕ) (w : State) (turns : List Turn) (x : State) (r : GoesWithoutCrash c w turns x)
    → IsSafeWorld w → IsOpen w c n a end left → GoesSo c n a end left w turns x r
commit_runs c n a end left w [] x r s o = o
commit_runs c n a end left w (turn ∷ turns) x (y, t, calm, rest) s o =
    ⊎_elim (λ ends. inl ends)
    (λ g. inr (g.0, g.1, commit_runs c n a end g.0 y turns x rest (leads_safe w (turn ∷ []) y s (y, t, refl)) g.2))
    (turn_goes w c n a end left s o turn y calm t)
