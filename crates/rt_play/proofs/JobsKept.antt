-- A known job goes on through what steps no job but those that it starts itself: an exchange, and a settle.
use Rattle.std.proofs.Common.{◌≡◌, ◌<◌, ◌==◌, ◌||◌, ◌++◌, ℕ, zero, suc, Bool, true, false, List, [], ◌∷◌, length, Option, Some, None, Result, Ok, Err, nat_lt, refl, sym, ◌∙◌, ap, subst, slice_get, arith}
use Rattle.std.proofs.lemmas.Option.{get_or_from_slice_get, slice_get_within}
use Rattle.rt_base.specs.declared.gate.NodeId.TheVariants.{Server}
use Rattle.rt_base.specs.declared.numbers.ControllerId.{ControllerId}
use Rattle.rt_base.specs.declared.numbers.Instance.{Instance}
use Rattle.rt_base.specs.declared.numbers.Partition.{Partition}
use Rattle.rt_base.specs.declared.numbers.Sequence.{Sequence}
use Rattle.rt_commit.specs.declared.job.Job.{Job}
use Rattle.rt_controller.proofs.CallsOver.{handles_over}
use Rattle.rt_controller.proofs.JobsStay.{job_found}
use Rattle.rt_controller.specs.Controller.{Controlling}
use Rattle.rt_controller.specs.Lasting.{AreNumbered}
use Rattle.rt_controller.specs.Steps.{Handles as HandlesCall}
use Rattle.rt_controller.specs.Working.{job_place}
use Rattle.rt_controller.specs.declared.handled.Handled.{Handled}
use Rattle.rt_controller.specs.declared.handled.Handled.TheVariants as handled
use Rattle.rt_deep.specs.Meaning.{Told as ToldDeep}
use Rattle.rt_deep.specs.Memory.{means as deep_means}
use Rattle.rt_events.specs.Fits.{Fits}
use Rattle.rt_events.specs.declared.event.Event.{Event}
use Rattle.rt_events.specs.declared.event.Event.TheVariants as event
use Rattle.rt_events.specs.declared.outcome.Outcome.{Outcome}
use Rattle.rt_events.specs.declared.refusal.Refusal.{Refusal}
use Rattle.rt_events.specs.declared.refusal.Refusal.TheVariants.{NoSuchMessage, NoSuchNode, NodeDown, NothingToDo, Limit, Memory}
use Rattle.rt_lists.proofs.Members.{Has-place, slice_get-append, slice_get-push}
use Rattle.rt_lists.specs.Members.{Has}
use Rattle.rt_macros.specs.Doing.{Act, Attempted, Further, Gives, Happens, HappensBy, Passed, PassesBy, PassesOver, Reached}
use Rattle.rt_macros.specs.Exchanging.{AfterDelivery, AfterReply, AfterReport, AfterSending, AfterStep, EndsJob, ExchangeTold, Exchanges, Handles, IfDue, MakesStep, ReportsAndFinishes, TakesAnswer, exchange_due}
use Rattle.rt_macros.specs.Outcomes.{delivered_in, ended_in, sent_in, state_in}
use Rattle.rt_macros.specs.Settling.{AfterRequest, AfterRound, BuildAndExchange, BuildTurn, ConsumeTurn, DownloadTurn, Downloads, ExchangeTurn, ReplicaTurn, ReplicasOfAll, ReplicasTurn, Round, SegmentAt, ServerTurn, ServersTurn, SettleTold, Settles, SettlesIn, TransitTurn, Transits, TransitsAndDownloads, WithLeader, may_consume}
use Rattle.rt_macros.specs.declared.outcomes.Delivered.{Delivered}
use Rattle.rt_macros.specs.declared.outcomes.Delivered.TheVariants as delivered
use Rattle.rt_macros.specs.declared.outcomes.Replied.{Replied}
use Rattle.rt_macros.specs.declared.settling.TheConstants.{BATCH, MOST_ROUNDS}
use Rattle.rt_model.specs.declared.replica_state.ReplicaState.{ReplicaState}
use Rattle.rt_model.specs.declared.request.Request.{Request}
use Rattle.rt_nodes.specs.declared.controller_node.ControllerNode.{ControllerNode}
use Rattle.rt_play.proofs.Keeping.{Keeps, attempted_keeps, choose_keeps, each_from_keeps, each_keeps, happens_keeps, passed_keeps, stay_keeps, then_keeps, tries_keeps}
use Rattle.rt_play.proofs.Noted.{IsAtWork, job_kept, job_stays}
use Rattle.rt_play.specs.Ledger.{Working}
use Rattle.rt_safety.proofs.Later.{leads_on}
use Rattle.rt_safety.proofs.Runs.{leads_safe}
use Rattle.rt_safety.specs.CommitRun.{is_crash, job_in}
use Rattle.rt_safety.specs.Runs.{Leads, happens, passes}
use Rattle.rt_state.proofs.Bounds.{few_writes}
use Rattle.rt_state.specs.Applying.{Next}
use Rattle.rt_state.specs.Finding.{request_at}
use Rattle.rt_state.specs.IsSafe.{past_of}
use Rattle.rt_state.specs.IsSafeWorld.{IsSafeWorld}
use Rattle.rt_state.specs.Messages.{DeliversAt, after_step, handed}
use Rattle.rt_state.specs.Room.{Found}
use Rattle.rt_state.specs.declared.state.State.{State}
use Rattle.rt_store.specs.Meaning.{Told}
use Rattle.rt_store.specs.Memory.{means}
use Rattle.rt_unrefused.proofs.StartedJobs.{job_started}
use Rattle.rt_world.proofs.KeepsMessages.{request_sent}
use Rattle.rt_world.specs.Reading.{due_transits_of, events_left_in, held_in, leader_in, up_in, wanted_in}
use Rattle.rt_world.specs.Step.{Steps}

-- ---- numbers of jobs

-- a job that comes behind others has a higher number
higher_number : (js : List Job) (job k : Job) (started : ℕ) → AreNumbered (js ++ job ∷ []) started → Has js k → k.number < job.number
higher_number js job k started numbered has =
    let at = Has-place js k has in
    let there = slice_get-push js job in
    let first = get_or_from_slice_get (js ++ job ∷ []) at.0 k k (slice_get-append js (job ∷ []) at.0 k at.1) in
    let last = get_or_from_slice_get (js ++ job ∷ []) (length js) job k there in
    let rise = numbered.rising at.0 (length js) k (slice_get_within js at.0 k at.1) (slice_get_within (js ++ job ∷ []) (length js) job there) in
    omega (arith, rise, ap (λ (j : Job). j.number) first, ap (λ (j : Job). j.number) last)

same_controller : (a b : ControllerId) (n m : ℕ) → event.Job a n ≡ event.Job b m → a ≡ b
same_controller a b n m e = cc

same_number : (a b : ControllerId) (n m : ℕ) → event.Job a n ≡ event.Job b m → n ≡ m
same_number a b n m e = cc

same_started : (i j : ℕ) → delivered.Started i ≡ delivered.Started j → i ≡ j
same_started i j e = cc

not_replied : (y : Replied) (j : ℕ) → delivered.Replied y ≡ delivered.Started j → ⊥
not_replied y j e = cc

module _ (x : Working) where
  -- a safe world in which the job goes on
  pub record Works (u : State) : Type 0 where
    pub safe : IsSafeWorld u
    pub at : IsAtWork u x

  -- a job that is started is another one
  is_other : (w v : State) (m : ℕ) (c : ControllerId) (o : Outcome) (j : ℕ) → Works w → Steps w (event.Deliver m c) v (Ok o) → delivered_in o ≡ delivered.Started j
      → event.Job c j ≡ event.Job x.controller x.job → ⊥
  is_other w v m c o j k (cost, due, h) told same = by_node (request_at w m) (slice_get w.controllers c.0) refl refl h
    where
      by_what : (q : Request) (n : ControllerNode) (new : Controlling) (store : Told) (deep : ToldDeep) (what : Handled) → request_at w m ≡ Some q
          → slice_get w.controllers c.0 ≡ Some n
          → HandlesCall {E = Unit {0}} (means w.store) (means store) (deep_means w.deep) (deep_means deep) n.controller q w.moment new (Ok what)
          → (v, o) ≡ handed (after_step w c n new store deep) cost what → ⊥
      by_what q n new store deep (handled.Reply r) asks at h is = not_replied _ j (sym (ap (λ (z : Next). delivered_in z.1) is) ∙ told)
      by_what q n new store deep (handled.Job i) asks at h is =
          let its = job_started n.controller q w.moment (means w.store) (means store) (deep_means w.deep) (deep_means deep) new i h in
          let over = handles_over w.setup (past_of w) w.store store w.deep deep n.controller new q w.moment (handled.Job i) k.safe.safe.setup k.safe.safe.past
          (few_writes w k.safe) refl refl (request_sent w m q asks) (k.safe.safe.controllers c.0 n at).over h in
          let own = subst (λ (d : ControllerId). job_in (slice_get w.controllers d.0) x.job ≡ Some k.at.its.job) (sym (same_controller c x.controller j x.job same))
          k.at.its.there in
          let found = job_found n.controller.jobs x.job (job_place n.controller.jobs x.job) k.at.its.job refl
          (sym (ap (λ (p : Option ControllerNode). job_in p x.job) at) ∙ own) in
          let higher = higher_number n.controller.jobs its.job k.at.its.job new.started (subst (λ (js : List Job). AreNumbered js new.started) its.jobs over.over.numbered)
          found.0 in
          let number : i ≡ j = same_started i j (sym (ap (λ (z : Next). delivered_in z.1) is) ∙ told) in
          omega (arith, higher, found.1, its.number, number, same_number c x.controller j x.job same)

      by_node : (r : Option Request) (n : Option ControllerNode) → request_at w m ≡ r → slice_get w.controllers c.0 ≡ n → DeliversAt r n w c cost (v, o) → ⊥
      by_node None n asks at h = h
      by_node (Some q) None asks at h = h
      by_node (Some q) (Some n) asks at (new, what, store, deep, h, is) = by_what q n new store deep what asks at h is

  -- ---- an event

  -- one that may be handed to any world, and is neither a crash of the job's controller nor its own step
  abbrev Spares : Event → Type 0
  Spares e = ((u : State) → Fits u.setup.schema e) × ((o : Outcome) → is_crash x.controller (happens e o) ≡ false) × (e ≡ event.Job x.controller x.job → ⊥)

  event_works : (e : Event) → Spares e → (w v : State) (o : Outcome) → Works w → Steps w e v (Ok o) → Works v
  event_works e (fits, calm, other) w v o k steps =
      let led : Leads w (happens e o ∷ []) v = (v, (fits w, steps), refl) in
      record {
        safe = leads_safe w (happens e o ∷ []) v k.safe led;
        at = job_stays w v x e o k.safe (leads_on w (happens e o ∷ []) v k.safe led) steps (calm o) other k.at;
      }

  happens_works : (e : Event) → Spares e → Keeps Works (Happens e)
  happens_works e spares = happens_keeps Works e (event_works e spares)

  attempts_work : (e : Event) (busy : Bool) → Spares e → Keeps Works (Attempted e busy)
  attempts_work e busy spares = attempted_keeps Works e busy (event_works e spares)

  -- a line that is no event
  pub passing_works : Keeps Works PassesOver
  passing_works w v r k h = by_told r h.by
    where
      by_told : (told : Result (Unit {0}) Refusal) → PassesBy w v told → Works v.world
      by_told (Ok done) (steps, is) =
          let led : Leads w (passes ∷ []) v.world = (v.world, steps, refl) in
          let goes = leads_on w (passes ∷ []) v.world k.safe led in
          record {
            safe = leads_safe w (passes ∷ []) v.world k.safe led;
            at = job_kept w v.world x goes (ap (λ (z : State). z.controllers) steps.2) k.at;
          }
      by_told (Err refusal) (due, is) = stay_keeps Works w v k is

  pub force_works : (i : Instance) (p : Partition) (q : Sequence) → Keeps Works (Happens (event.Force i p q))
  force_works i p q = happens_works (event.Force i p q) (λ u. tt, λ o. refl, λ f. cc)

  -- ---- an exchange

  step_works : (c : ControllerId) (j : ℕ) → (event.Job c j ≡ event.Job x.controller x.job → ⊥) → Keeps Works (MakesStep c j)
  step_works c j other w v r k h =
      then_keeps Works (Happens (event.Job c j)) (λ outcome. Gives (ended_in outcome)) (happens_works (event.Job c j) (λ u. tt, λ o. refl, other))
      (λ o y z s l g. stay_keeps Works y z l g.0) w v r k h

  after_step_works : (further : Act Replied) (o : Option Replied) → Keeps Works further → Keeps Works (AfterStep further o)
  after_step_works further None f w v r k h = f w v r k h
  after_step_works further (Some y) f w v r k h = stay_keeps Works w v k h.0

  ends_works : (c : ControllerId) (j left : ℕ) → (event.Job c j ≡ event.Job x.controller x.job → ⊥) → Keeps Works (EndsJob c j left)
  ends_works c j zero other w v r k h = stay_keeps Works w v k h.0
  ends_works c j (suc left) other w v r k h =
      then_keeps Works (MakesStep c j) (AfterStep (EndsJob c j left)) (step_works c j other) (λ o. after_step_works (EndsJob c j left) o (ends_works c j left other)) w v r k h

  after_delivery_works : (c : ControllerId) (d : Delivered) → ((j : ℕ) → d ≡ delivered.Started j → event.Job c j ≡ event.Job x.controller x.job → ⊥)
      → Keeps Works (AfterDelivery c d)
  after_delivery_works c (delivered.Replied y) other w v r k h = stay_keeps Works w v k h.0
  after_delivery_works c (delivered.Started j) other w v r k h = ends_works c j (events_left_in w) (other j refl) w v r k h
  after_delivery_works c delivered.Neither other w v r k h = stay_keeps Works w v k h.0

  handles_works : (c : ControllerId) (m : ℕ) → Keeps Works (Handles c m)
  handles_works c m w v r k t = subst (λ (z : Reached). Works z.world) (sym t.whole) (by_told t.told t.came.by t.further)
    where
      by_told : (told : Result Outcome Refusal) → HappensBy (event.Deliver m c) w t.between told
          → Further (λ outcome. AfterDelivery c (delivered_in outcome)) t.between.world t.last told r → Works t.last.world
      by_told (Ok o) (steps, is) h =
          after_delivery_works c (delivered_in o) (λ j e. is_other w t.between.world m c o j k steps e) t.between.world t.last r
          (event_works (event.Deliver m c) (λ u. tt, λ s. refl, λ f. cc) w t.between.world o k steps) h
      by_told (Err refusal) (due, is) h = stay_keeps Works t.between.world t.last (stay_keeps Works w t.between k is) h.0

  after_reply_works : (request : ℕ) (y : Replied) (o : Option ReplicaState) → Keeps Works (AfterReply request y o)
  after_reply_works request y (Some stands) w v r k h = stay_keeps Works w v k h.0
  after_reply_works request y None w v r k h = stay_keeps Works w v k h.0

  takes_works : (request : ℕ) (y : Replied) → Keeps Works (TakesAnswer request y)
  takes_works request y w v r k h =
      then_keeps Works (Happens (event.Reply y.message)) (λ outcome. AfterReply request y (state_in outcome))
      (happens_works (event.Reply y.message) (λ u. tt, λ o. refl, λ f. cc)) (λ o. after_reply_works request y (state_in o)) w v r k h

  after_sending_works : (c : ControllerId) (o : Option ℕ) → Keeps Works (AfterSending c o)
  after_sending_works c (Some m) w v r k h = then_keeps Works (Handles c m) (TakesAnswer m) (handles_works c m) (takes_works m) w v r k h
  after_sending_works c None w v r k h = stay_keeps Works w v k h.0

  report_spares : (i : Instance) (p : Partition) (q : Sequence) → Spares (event.Report i p q)
  report_spares i p q = (λ u. tt, λ o. refl, λ f. cc)

  finishes_works : (i : Instance) (p : Partition) (q : Sequence) (c : ControllerId) → Keeps Works (ReportsAndFinishes (event.Report i p q) c)
  finishes_works i p q c w v r k h =
      then_keeps Works (Happens (event.Report i p q)) (AfterReport c) (happens_works (event.Report i p q) (report_spares i p q)) (λ o. after_sending_works c (sent_in o)) w v r k h

  if_due_works : (due : Found) (i : Instance) (p : Partition) (q : Sequence) (c : ControllerId) → Keeps Works (IfDue due (ReportsAndFinishes (event.Report i p q) c))
  if_due_works (Ok u) i p q c w v r k h = finishes_works i p q c w v r k h
  if_due_works (Err refusal) i p q c w v r k h = stay_keeps Works w v k h.0

  pub exchange_works : (i : Instance) (p : Partition) (q : Sequence) (c : ControllerId) → Keeps Works (ExchangeTold i p q c)
  exchange_works i p q c w v r k h =
      then_keeps Works (Exchanges i p q c) (λ y. Gives _) (λ u. if_due_works (exchange_due u (event.Report i p q) c) i p q c u)
      (λ y u z s l g. stay_keeps Works u z l g.0) w v r k h

  -- ---- a settle

  transits_work : (i : Instance) (busy : Bool) → Keeps Works (Transits i busy)
  transits_work i busy w v r k h =
      each_keeps Works (TransitTurn i) (due_transits_of w i) busy (λ s b. attempts_work (event.Transit i s.0 s.1) b (λ u. tt, λ o. refl, λ f. cc)) w v r k h

  downloads_work : (i : Instance) (busy : Bool) → Keeps Works (Downloads i busy)
  downloads_work i busy w v r k h =
      each_keeps Works (DownloadTurn i) (wanted_in w i) busy (λ s b. attempts_work (event.Download i s.0 s.1) b (λ u. tt, λ o. refl, λ f. cc)) w v r k h

  server_works : (at : ℕ) (busy : Bool) → Keeps Works (ServerTurn at busy)
  server_works at busy w v r k h =
      let i : Instance = record { 0 = at } in
      choose_keeps Works w (up_in w (Server i)) _ _
      (λ y s g.
      then_keeps Works (Passed (event.See i)) (λ done. TransitsAndDownloads i busy)
      (passed_keeps Works (event.See i) (event_works (event.See i) (λ u. tt, λ o. refl, λ f. cc)))
      (λ done. then_keeps Works (Transits i busy) (Downloads i) (transits_work i busy) (downloads_work i)) w y s k g)
      (λ y s g. stay_keeps Works w y k g.0) v r h

  consume_works : (paused : Bool) (i : Instance) (s : SegmentAt) (busy : Bool) → Keeps Works (ConsumeTurn paused i s busy)
  consume_works paused i s busy w v r k h =
      choose_keeps Works w (may_consume paused w i s) _ _
      (λ y t g. attempts_work (event.Consume i s.0 s.1 BATCH) busy (λ u. tt, λ o. refl, λ f. cc) w y t k g) (λ y t g. stay_keeps Works w y k g.0) v r h

  after_request_works : (c : ControllerId) (busy : Bool) (told : Result Outcome Refusal) → Keeps Works (AfterRequest c busy told)
  after_request_works c busy (Ok o) w v r k h =
      then_keeps Works (AfterReport c o) (λ exchanged. Gives true) (after_sending_works c (sent_in o)) (λ y u z s l g. stay_keeps Works u z l g.0) w v r k h
  after_request_works c busy (Err NothingToDo) w v r k h = stay_keeps Works w v k h.0
  after_request_works c busy (Err NoSuchMessage) w v r k h = stay_keeps Works w v k h.0
  after_request_works c busy (Err NoSuchNode) w v r k h = stay_keeps Works w v k h.0
  after_request_works c busy (Err NodeDown) w v r k h = stay_keeps Works w v k h.0
  after_request_works c busy (Err (Limit which)) w v r k h = stay_keeps Works w v k h.0
  after_request_works c busy (Err Memory) w v r k h = stay_keeps Works w v k h.0

  with_leader_works : (i : Instance) (s : SegmentAt) (c : Option ControllerId) (busy : Bool) → Keeps Works (WithLeader i s c busy)
  with_leader_works i s (Some c) busy w v r k h =
      tries_keeps Works (Happens (event.Report i s.0 s.1)) (AfterRequest c busy) (happens_works (event.Report i s.0 s.1) (report_spares i s.0 s.1))
      (after_request_works c busy) w v r k h
  with_leader_works i s None busy w v r k h = stay_keeps Works w v k h.0

  replica_works : (paused : Bool) (i : Instance) (s : SegmentAt) (busy : Bool) → Keeps Works (ReplicaTurn paused i s busy)
  replica_works paused i s busy w v r k h =
      then_keeps Works (ConsumeTurn paused i s busy) (BuildAndExchange i s) (consume_works paused i s busy)
      (λ b.
      then_keeps Works (BuildTurn i s b) (ExchangeTurn i s) (attempts_work (event.Build i s.0 s.1) b (λ u. tt, λ o. refl, λ f. cc))
      (λ d u. with_leader_works i s (leader_in u) d u))
      w v r k h

  replicas_work : (paused : Bool) (at : ℕ) (busy : Bool) → Keeps Works (ReplicasTurn paused at busy)
  replicas_work paused at busy w v r k h =
      let i : Instance = record { 0 = at } in
      choose_keeps Works w (up_in w (Server i)) _ _
      (λ y s g. each_keeps Works (ReplicaTurn paused i) (held_in w i) busy (replica_works paused i) w y s k g) (λ y s g. stay_keeps Works w y k g.0) v r h

  round_works : (paused : Bool) → Keeps Works (Round paused)
  round_works paused w v r k h =
      then_keeps Works (ServersTurn false) (ReplicasOfAll paused) (λ u. each_from_keeps Works ServerTurn 0 u.setup.servers false server_works u)
      (λ b u. each_from_keeps Works (ReplicasTurn paused) 0 u.setup.servers b (replicas_work paused) u) w v r k h

  after_round_works : (further : Act Bool) (b : Bool) → Keeps Works further → Keeps Works (AfterRound further b)
  after_round_works further true f w v r k h = f w v r k h
  after_round_works further false f w v r k h = stay_keeps Works w v k h.0

  rounds_work : (paused : Bool) (rounds : ℕ) → Keeps Works (SettlesIn paused rounds)
  rounds_work paused zero w v r k h = stay_keeps Works w v k h.0
  rounds_work paused (suc rounds) w v r k h =
      then_keeps Works (Round paused) (AfterRound (SettlesIn paused rounds)) (round_works paused)
      (λ b. after_round_works (SettlesIn paused rounds) b (rounds_work paused rounds)) w v r k h

  pub settle_works : (paused : Bool) (rounds : ℕ) → Keeps Works (SettleTold paused rounds)
  settle_works paused rounds w v r k h =
      then_keeps Works (Settles paused rounds) (λ quiet. Gives _)
      (λ u y s l g.
      choose_keeps Works u ((rounds == 0) || nat_lt MOST_ROUNDS rounds) _ _ (λ z t f. stay_keeps Works u z l f.0) (λ z t f. rounds_work paused rounds u z t l f) y s g)
      (λ quiet u y s l g. stay_keeps Works u y l g.0) w v r k h
