-- In each world of a run each CATCH_UP names an offset that a replica can come to, and a replica was told to drop its rows only where its
-- segment has ended, or where its instance has nothing of it to consume.
use Rattle.std.proofs.Common.{◌≡◌, ℕ, ◌⊎◌, inl, inr, false, List, [], ◌∷◌, ◌++◌, Option, Some, None, Ok, refl, sym, ◌∙◌, ap, subst, slice_get, length}
use Rattle.std.proofs.lemmas.Option.{none-some}
use Rattle.rt_base.specs.declared.numbers.ControllerId.{ControllerId}
use Rattle.rt_base.specs.declared.numbers.Instance.{Instance}
use Rattle.rt_base.specs.declared.numbers.Partition.{Partition}
use Rattle.rt_base.specs.declared.numbers.Sequence.{Sequence}
use Rattle.rt_commit.specs.Job.{commits}
use Rattle.rt_commit.specs.Lasting.{IsJobOver}
use Rattle.rt_commit.specs.Right.{EndsSo, MetFault, StatusSo}
use Rattle.rt_commit.specs.Told.{ToldDeep}
use Rattle.rt_commit.specs.declared.job.Job.{Job}
use Rattle.rt_controller.specs.Answers.{Handling}
use Rattle.rt_controller.specs.Controller.{Controlling}
use Rattle.rt_controller.specs.Lasting.{IsControllerOver}
use Rattle.rt_controller.specs.Right.{job_at, job_of, LeavesJob, WorksOver}
use Rattle.rt_controller.specs.Steps.{Works}
use Rattle.rt_controller.specs.Working.{job_place}
use Rattle.rt_controller.specs.declared.handled.Handled.{Handled}
use Rattle.rt_controller.specs.declared.handled.Handled.TheVariants as handled
use Rattle.rt_controller.proofs.CallsOver.{works_over}
use Rattle.rt_controller.proofs.Telling.{told_request}
use Rattle.rt_deep.specs.Memory.{means as deep_means}
use Rattle.rt_events.specs.declared.outcome.Outcome.{Outcome}
use Rattle.rt_lists.specs.Members.{Has, IsFront}
use Rattle.rt_lists.proofs.Lists.{All-found}
use Rattle.rt_lists.proofs.Members.{Has-front, Has-push_cases}
use Rattle.rt_model.specs.Entries.{entries_of}
use Rattle.rt_model.specs.Metadata.{BecameFinal}
use Rattle.rt_model.specs.Messages.{asked_of}
use Rattle.rt_model.specs.declared.asked.Asked.{Asked}
use Rattle.rt_model.specs.declared.job_step.JobStep.{JobStep}
use Rattle.rt_model.specs.declared.job_step.StepName.{StepName}
use Rattle.rt_model.specs.declared.node.Seen.{Seen}
use Rattle.rt_model.specs.declared.reply.Reply.{Reply}
use Rattle.rt_model.specs.declared.reply.ReplyStatus.{ReplyStatus}
use Rattle.rt_model.specs.declared.reply.ReplyStatus.TheVariants as status
use Rattle.rt_model.specs.declared.request.Request.{Request}
use Rattle.rt_model.specs.declared.request.RequestKind.TheVariants as kind
use Rattle.rt_model.specs.declared.sent.Sent.{Sent}
use Rattle.rt_model.specs.declared.sent.Sent.TheVariants as sent
use Rattle.rt_model.specs.declared.setup.Setup.{Setup}
use Rattle.rt_nodes.specs.declared.chore.Chore.{Chore}
use Rattle.rt_nodes.specs.declared.controller_node.ControllerNode.{ControllerNode}
use Rattle.rt_nodes.specs.declared.upkeep.Upkeep.{Upkeep}
use Rattle.rt_past.specs.IsPast.{IsPast}
use Rattle.rt_past.specs.Past.{Grows, Past}
use Rattle.rt_past.specs.Requests.{IsRequest}
use Rattle.rt_past.specs.Segments.{HadEntry}
use Rattle.rt_past.proofs.Ways.{no_reply, no_request, one_reply}
use Rattle.rt_safety.proofs.Spares.{spares, Spares}
use Rattle.rt_safety.proofs.Ways.{is_free, leaving, IsFree, Leaving}
use Rattle.rt_safety.specs.Counted.{bytes_of}
use Rattle.rt_safety.specs.Runs.{happens, passes, Turn, TurnsTo}
use Rattle.rt_state.specs.Applying.{Next}
use Rattle.rt_state.specs.Finding.{request_at}
use Rattle.rt_state.specs.IsSafe.{past_of}
use Rattle.rt_state.specs.IsSafeWorld.{IsSafeWorld}
use Rattle.rt_state.specs.Jobs.{JobSteps, JobStepsAt, noted_set, stepped_by}
use Rattle.rt_state.specs.Messages.{after_step, handed, Delivers, DeliversAt}
use Rattle.rt_state.specs.Nodes.{ControllerDoes, ControllerDoesAt}
use Rattle.rt_state.specs.Repairs.{upkeep_at, Keeps, KeepsAt}
use Rattle.rt_state.specs.declared.cost.Cost.{Cost}
use Rattle.rt_state.specs.declared.state.State.{State}
use Rattle.rt_store.specs.Contents.{starting_of}
use Rattle.rt_store.specs.Meaning.{Told}
use Rattle.rt_store.specs.Memory.{means}
use Rattle.rt_world.proofs.KeepsMessages.{request_sent}
use Rattle.rt_world.specs.Step.{way_of}
use Rattle.rt_world.specs.Way.{Goes, Way}
use Rattle.rt_world.specs.Way as way
use Rattle.rt_heal.specs.Dropped.{AreToldSo, IsOut, IsToldSo, NoneConsumes}
use Rattle.rt_heal.specs.Reachable.{ComesTo}
use Rattle.rt_heal.proofs.Answered.{goes_weaker, goes_with, IsAnswered, IsHandedOut, request_answers}
use Rattle.rt_heal.proofs.MachineRuns.{AllNodesReach, AreAskedSo}
use Rattle.rt_heal.proofs.Processed.{stop_processed}
use Rattle.rt_heal.proofs.Reaching.{comes_grows}
use Rattle.rt_heal.proofs.Stopping.{stays_none}
use Rattle.rt_heal.proofs.TurnedRuns.{stepped_writes}

-- ---- a past that grows

final_grows : (h k : List Seen) (p : Partition) (q : ℕ) → IsFront h k → BecameFinal h p q → BecameFinal k p q
final_grows h k p q front (w, has, at, final) = (w, Has-front h k w front has, at, final)

module _ (setup : Setup) (a b : Past) (right : IsPast setup a) (after : IsPast setup b) (grows : Grows a b) where
  -- an instance that is out stays so
  pub out_grows : (p : Partition) (q : Sequence) (i : Instance) → HadEntry a.history p q → IsOut a.history p q i → IsOut b.history p q i
  out_grows p q i had (inl final) = inl (final_grows a.history b.history p q.0 grows.history final)
  out_grows p q i had (inr none) =
      inr (stays_none (starting_of setup) a.history b.history p q i grows.history right.lawful after.lawful had none)

  told_grows : (q : Request) (s : ReplyStatus) → Has a.sent (sent.Request q) → IsToldSo setup a q s → IsToldSo setup b q s
  told_grows q s has told =
      goes_weaker (ComesTo setup a q.partition q.sequence) (BecameFinal a.history q.partition q.sequence.0)
      (q.kind ≡ kind.Stopped → IsOut a.history q.partition q.sequence q.number.instance)
      (ComesTo setup b q.partition q.sequence) (BecameFinal b.history q.partition q.sequence.0)
      (q.kind ≡ kind.Stopped → IsOut b.history q.partition q.sequence q.number.instance) s
      (λ x. comes_grows setup a b q.partition q.sequence x grows) (final_grows a.history b.history q.partition q.sequence.0 grows.history)
      (λ out k. out_grows q.partition q.sequence q.number.instance (right.requests q has).entered (out k)) told

  -- what is answered at once is so, since what has ended has
  answered_told : (q : Request) (is : IsRequest setup a q) (s : ReplyStatus) → IsAnswered setup a q is s → IsToldSo setup b q s
  answered_told q is s answered =
      let on = final_grows a.history b.history q.partition q.sequence.0 grows.history in
      goes_weaker (ComesTo setup a q.partition q.sequence) (BecameFinal a.history q.partition q.sequence.0)
      (q.kind ≡ kind.Stopped → BecameFinal a.history q.partition q.sequence.0)
      (ComesTo setup b q.partition q.sequence) (BecameFinal b.history q.partition q.sequence.0)
      (q.kind ≡ kind.Stopped → IsOut b.history q.partition q.sequence q.number.instance) s
      (λ x. comes_grows setup a b q.partition q.sequence x grows) on (λ final k. inl (on (final k))) answered

  -- the request that was answered was sent before
  asked_before : (q : Request) (r : Reply) → Has a.sent (sent.Reply r) → Has b.sent (sent.Request q) → q.number ≡ r.number → Has a.sent (sent.Request q)
  asked_before q r has asked same =
      let y = right.replies r has in
      let number : y.request.number ≡ r.number = ap (λ (x : Asked). x.number) y.answers in
      let one = after.unique y.request q (Has-front a.sent b.sent (sent.Request y.request) grows.sent y.was_sent) asked (number ∙ sym same) in
      subst (λ (x : Request). Has a.sent (sent.Request x)) one y.was_sent

  old_told : AreToldSo setup a → (q : Request) (r : Reply) → Has b.sent (sent.Request q) → Has a.sent (sent.Reply r) → q.number ≡ r.number
      → IsToldSo setup b q r.status
  old_told all q r asked has same =
      let before = asked_before q r has asked same in told_grows q r.status before (all q r before has same)

-- ---- a job's end, and its place

abbrev EndsIn : List Seen → Job → Type 0 → StepName → ReplyStatus → Type 0
EndsIn h job rose n how = StatusSo h job.asked.partition job.asked.sequence rose (commits job.stage) n how

place_of : (c : Controlling) (j : ℕ) (job : Job) → job_of c j ≡ Some job → (place : ℕ) × (slice_get c.jobs place ≡ Some job)
place_of c j job e = by_place (job_place c.jobs j) e
  where
    by_place : (o : Option ℕ) → job_at c.jobs o ≡ Some job → (place : ℕ) × (slice_get c.jobs place ≡ Some job)
    by_place None found = absurd (none-some job found)
    by_place (Some place) found = (place, found)

-- ---- worlds

module _ (w : State) (x : Next) (s : IsSafeWorld w) (after : IsSafeWorld x.0) (setup : x.0.setup ≡ w.setup) (grows : Grows (past_of w) (past_of x.0))
    (all : AreToldSo w.setup (past_of w)) (requests : AreAskedSo w.setup (past_of w)) (reach : AllNodesReach w.setup (past_of w) w.controllers) where
  abbrev AllTold : Type 0
  AllTold = AreToldSo w.setup (past_of x.0)

  right : IsPast w.setup (past_of x.0)
  right = subst (λ (z : Setup). IsPast z (past_of x.0)) setup after.safe.past

  old : (q : Request) (r : Reply) → Has x.0.sent (sent.Request q) → Has w.sent (sent.Reply r) → q.number ≡ r.number → IsToldSo w.setup (past_of x.0) q r.status
  old q r asked has same = old_told w.setup (past_of w) (past_of x.0) s.safe.past right grows all q r asked has same

  -- no reply is sent
  still_told : x.0.sent ≡ w.sent → AllTold
  still_told quiet q r asked has same = old q r asked (subst (λ (ms : List Sent). Has ms (sent.Reply r)) quiet has) same

  asked_told : (y : Request) → x.0.sent ≡ w.sent ++ sent.Request y ∷ [] → AllTold
  asked_told y more q r asked has same =
      old q r asked
      (no_reply w.sent y r (Has-push_cases w.sent (sent.Request y) (sent.Reply r) (subst (λ (ms : List Sent). Has ms (sent.Reply r)) more has))) same

  -- a reply is sent, to a request that was sent before
  replied_told : (y : Reply) → x.0.sent ≡ w.sent ++ sent.Reply y ∷ []
      → ((q : Request) → Has w.sent (sent.Request q) → q.number ≡ y.number → IsToldSo w.setup (past_of x.0) q y.status) → AllTold
  replied_told y more own q r asked has same =
      by_place (Has-push_cases w.sent (sent.Reply y) (sent.Reply r) (subst (λ (ms : List Sent). Has ms (sent.Reply r)) more has))
    where
      before : Has w.sent (sent.Request q)
      before =
          no_request w.sent y q (Has-push_cases w.sent (sent.Reply y) (sent.Request q) (subst (λ (ms : List Sent). Has ms (sent.Request q)) more asked))

      by_place : Has w.sent (sent.Reply r) ⊎ (sent.Reply y ≡ sent.Reply r) → IsToldSo w.setup (past_of x.0) q r.status
      by_place (inl there) = old q r asked there same
      by_place (inr new) =
          let is = one_reply y r new in
          subst (λ (z : Reply). IsToldSo w.setup (past_of x.0) q z.status) is (own q before (same ∙ ap (λ (z : Reply). z.number) (sym is)))

  spares_told : (cost : Cost) → Spares w cost x.0 → AllTold
  spares_told cost left = by_sent left.sent
    where
      by_sent : ((x.0.sent ≡ w.sent) × (cost.uploads ≡ 0)) ⊎ ((q : Request) × (x.0.sent ≡ w.sent ++ sent.Request q ∷ []) × (bytes_of q.kind ≡ cost.uploads))
          → AllTold
      by_sent (inl (same, free)) = still_told same
      by_sent (inr (q, more, bytes)) = asked_told q more

  controller_told : (c : ControllerId) (does : ControllerNode → ControllerNode) (o : Outcome) (cost : Cost) → ControllerDoes w c does o cost x → AllTold
  controller_told c does o cost h = by_node (slice_get w.controllers c.0) h
    where
      by_node : (n : Option ControllerNode) → ControllerDoesAt n w c does o cost x → AllTold
      by_node None h = absurd h
      by_node (Some n) is = still_told (ap (λ (z : Next). z.0.sent) is)

  -- ---- a request

  handed_told : (z : State) (cost : Cost) (r : Request) (own : IsRequest w.setup (past_of w) r) (what : Handled) → Has w.sent (sent.Request r)
      → z.sent ≡ w.sent → x ≡ handed z cost what → IsHandedOut w.setup (past_of w) r own what → AllTold
  handed_told z cost r own (handled.Reply y) has same is ends =
      replied_told y (ap (λ (n : Next). n.0.sent) is ∙ ap (λ (ms : List Sent). ms ++ sent.Reply y ∷ []) same)
      (λ q asked number.
      let one = s.safe.past.unique r q has asked (sym ends.0 ∙ sym number) in
      subst (λ (a : Request). IsToldSo w.setup (past_of x.0) a y.status) one
      (answered_told w.setup (past_of w) (past_of x.0) s.safe.past right grows r own y.status ends.1))
  handed_told z cost r own (handled.Job j) has same is ends = still_told (ap (λ (n : Next). n.0.sent) is ∙ same)

  deliver_told : (m : ℕ) (c : ControllerId) (cost : Cost) → Delivers w m c cost x → AllTold
  deliver_told m c cost h = by_found (request_at w m) refl (slice_get w.controllers c.0) refl h
    where
      by_found : (o : Option Request) → request_at w m ≡ o → (n : Option ControllerNode) → slice_get w.controllers c.0 ≡ n → DeliversAt o n w c cost x → AllTold
      by_found None at n there h = absurd h
      by_found (Some r) at None there h = absurd h
      by_found (Some r) at (Some n) there (new, what, store, deep, handles, is) =
          let y : Handling = record { controller = new; handled = what } in
          let left = told_request w.store store w.deep deep n.controller r w.moment y handles in
          let has = request_sent w m r at in
          let own = s.safe.past.requests r has in
          let right = request_answers w.setup (past_of w) r own (requests r has) n.controller (s.safe.controllers c.0 n there).over.assigned
          (reach c.0 n there) w.moment w.store w.deep y refl left.made in
          handed_told (after_step w c n new store deep) cost r own what has refl is right.0

  -- ---- a job

  stepped_told : (z : State) (cost : Cost) (step : JobStep) (o : Option Reply) → z.sent ≡ w.sent → x ≡ stepped_by z cost step o
      → ((y : Reply) → o ≡ Some y → (q : Request) → Has w.sent (sent.Request q) → q.number ≡ y.number → IsToldSo w.setup (past_of x.0) q y.status) → AllTold
  stepped_told z cost step None same is own = still_told (ap (λ (n : Next). n.0.sent) is ∙ same)
  stepped_told z cost step (Some y) same is own =
      replied_told y (ap (λ (n : Next). n.0.sent) is ∙ ap (λ (ms : List Sent). ms ++ sent.Reply y ∷ []) same) (own y refl)

  -- a job ends with CATCH_UP and DISCARD never, and with PROCESSED where its instance is out
  ended_told : (c : ControllerId) (n : ControllerNode) (j : ℕ) (new : Controlling) (step : JobStep) (store : Told) (deep : ToldDeep)
      → slice_get w.controllers c.0 ≡ Some n → x.0.store.writes ≡ store.writes
      → Works (means w.store) (means store) (deep_means w.deep) (deep_means deep) n.controller j w.moment new (Ok step)
      → (y : Reply) → step.reply ≡ Some y → (q : Request) → Has w.sent (sent.Request q) → q.number ≡ y.number → IsToldSo w.setup (past_of x.0) q y.status
  ended_told c n j new step store deep there written works y replied q asked number =
      goes_with (ComesTo w.setup (past_of x.0) q.partition q.sequence) (BecameFinal x.0.store.writes q.partition q.sequence.0)
      (q.kind ≡ kind.Stopped → IsOut x.0.store.writes q.partition q.sequence q.number.instance) y.status
      (λ o e. absurd (subst (EndsIn store.writes k.job (MetFault w.store store w.deep deep) step.step) e ends))
      (λ e. absurd (subst (EndsIn store.writes k.job (MetFault w.store store w.deep deep) step.step) e ends))
      (λ e stop. inr (none e (subst (EndsIn store.writes k.job (MetFault w.store store w.deep deep) step.step) e ends)))
    where
      over : IsControllerOver w.setup (past_of w) n.controller
      over = (s.safe.controllers c.0 n there).over

      k : WorksOver w.setup (past_of w) w.store store w.deep deep n.controller new j step
      k = works_over w.setup (past_of w) w.store store w.deep deep n.controller new j w.moment step s.safe.setup s.safe.past refl refl over works

      ends : EndsIn store.writes k.job (MetFault w.store store w.deep deep) step.step y.status
      ends =
          subst (EndsSo store.writes k.job.asked.partition k.job.asked.sequence (MetFault w.store store w.deep deep) (commits k.job.stage) step.step)
          replied k.ends

      -- the request that it answers
      own : asked_of q ≡ k.job.asked
      own =
          let job = place_of n.controller j k.job k.open_job in
          let sent_by = (All-found (IsJobOver w.setup (past_of w)) n.controller.jobs job.0 k.job over.jobs job.1).asked in
          let leaves = subst (λ (o : Option Reply). LeavesJob k.job o (job_of new j)) replied k.leaves in
          let one = s.safe.past.unique sent_by.request q sent_by.was_sent asked
          (ap (λ (a : Asked). a.number) sent_by.answers ∙ sym leaves.1 ∙ sym number) in
          ap asked_of (sym one) ∙ sent_by.answers

      none : y.status ≡ status.Processed → commits k.job.stage ≡ false → NoneConsumes (entries_of x.0.store.writes) q.partition q.sequence q.number.instance
      none e idle =
          subst (λ (h : List Seen). NoneConsumes (entries_of h) q.partition q.sequence q.number.instance) (sym written)
          (subst (λ (a : Asked). NoneConsumes (entries_of store.writes) a.partition a.sequence a.number.instance) (sym own)
          (stop_processed w.setup (past_of w) w.store store w.deep deep n.controller new j k.job w.moment step y refl over works k.open_job idle replied e))

  job_told : (c : ControllerId) (j : ℕ) (cost : Cost) → JobSteps w c j cost x → AllTold
  job_told c j cost h = by_node (slice_get w.controllers c.0) refl h
    where
      by_node : (o : Option ControllerNode) → slice_get w.controllers c.0 ≡ o → JobStepsAt o w c j cost x → AllTold
      by_node None there h = absurd h
      by_node (Some n) there (new, step, store, deep, works, is) =
          let z = noted_set (after_step w c n new store deep) cost (length w.store.writes) in
          stepped_told z cost step step.reply refl is
          (ended_told c n j new step store deep there (ap (λ (v : Next). v.0.store.writes) is ∙ stepped_writes z cost step step.reply) works)

  chore_told : (c : ControllerId) (p : Partition) (chore : Chore) (cost : Cost) → Keeps w c p chore cost x → AllTold
  chore_told c p chore cost h = by_found (slice_get w.controllers c.0) (upkeep_at w c p) h
    where
      by_found : (o : Option ControllerNode) (u : Option Upkeep) → KeepsAt o u w c p chore cost x → AllTold
      by_found None u h = absurd h
      by_found (Some n) None h = absurd h
      by_found (Some n) (Some old) (new, store, steps, is) = still_told (ap (λ (z : State). z.sent) is)

  goes_told : (y : Way) (cost : Cost) → IsFree cost y → Leaving w cost y → Goes w y cost x → AllTold
  goes_told (way.turns c does told) cost free left h = controller_told c does told cost h
  goes_told (way.handles m c) cost free left h = deliver_told m c cost h
  goes_told (way.works c j) cost free left h = job_told c j cost h
  goes_told (way.keeps c p chore) cost free left h = chore_told c p chore cost h
  goes_told y cost free left h = spares_told cost (spares w cost x y tt free left h)

-- ---- a turn

pub turn_told : (w : State) (turn : Turn) (new : State) → IsSafeWorld w → IsSafeWorld new → new.setup ≡ w.setup → Grows (past_of w) (past_of new)
    → AreToldSo w.setup (past_of w) → AreAskedSo w.setup (past_of w) → AllNodesReach w.setup (past_of w) w.controllers → TurnsTo w turn new
    → AreToldSo w.setup (past_of new)
turn_told w (happens e o) new s after setup grows all asked reach (fits, (cost, due, h)) =
    goes_told w (new, o) s after setup grows all asked reach (way_of w e) cost (is_free w e cost due) (leaving w e cost due) h
turn_told w passes new s after setup grows all asked reach (cost, due, is) = subst (λ (x : State). AreToldSo w.setup (past_of x)) (sym is) all
