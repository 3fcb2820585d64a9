-- An exchange puts its replica off, or leaves less ahead.
use Rattle.std.proofs.Common.{◌≡◌, ◌⊎◌, inl, inr, ℕ, zero, suc, ◌+◌, ◌<◌, ◌≤◌, ◌==◌, ◌&&◌, Bool, true, false, cond, List, length, Option, Some, None, Ok, refl, sym, ◌∙◌, ap, subst, arith, slice_get}
use Rattle.std.specs.List.{Contains}
use Rattle.std.specs.Prelude.{slice_set}
use Rattle.std.proofs.lemmas.Bool.{eq-eqb, true≢false}
use Rattle.std.proofs.lemmas.Option.{none-some, same_Some}
use Rattle.rt_assign.specs.Placement.{replicas_of}
use Rattle.rt_base.specs.declared.numbers.ControllerId.{ControllerId}
use Rattle.rt_base.specs.declared.numbers.Instance.{Instance}
use Rattle.rt_base.specs.declared.numbers.Offset.{Offset}
use Rattle.rt_base.specs.declared.numbers.Partition.{Partition}
use Rattle.rt_base.specs.declared.numbers.Sequence.{Sequence}
use Rattle.rt_base.specs.declared.which.Which.TheVariants.{Events}
use Rattle.rt_commit.specs.Assignment.{replicas_in, Assigned}
use Rattle.rt_commit.specs.declared.job.Job.{Job}
use Rattle.rt_consumer.specs.Consumer.{cur, state_at, state_of}
use Rattle.rt_consumer.specs.Replies.{answered, replied as answered_by, turned}
use Rattle.rt_consumer.specs.Requests.{kind_at, kind_in, Requests as AsksItself}
use Rattle.rt_consumer.specs.declared.consumer.Consumer.{Consumer}
use Rattle.rt_consumer.specs.declared.phase.Phase.{Phase}
use Rattle.rt_consumer.specs.declared.phase.Phase.TheVariants as phase
use Rattle.rt_consumer.specs.declared.stage.Stage.{Stage}
use Rattle.rt_consumer.specs.declared.stage.Stage.TheVariants.{Building, CatchingUp, ConsumingToOnline, Ending, Holding, InitialConsuming, Retaining, Starting, Uploading}
use Rattle.rt_consumer.specs.declared.waited.Waited.TheVariants.{Step}
use Rattle.rt_controller.specs.Controller.{Controlling}
use Rattle.rt_controller.specs.Lasting.{IsControllerOver, IsMachineOver}
use Rattle.rt_controller.specs.Steps.{Handles as HandlesIt}
use Rattle.rt_controller.specs.declared.handled.Handled.{Handled}
use Rattle.rt_controller.specs.declared.handled.Handled.TheVariants as handled
use Rattle.rt_controller.specs.declared.segment_machine.SegmentMachine.{SegmentMachine}
use Rattle.rt_controller.proofs.CallsOver.{handles_over}
use Rattle.rt_controller.proofs.JobsStay.{found_job}
use Rattle.rt_deep.specs.Meaning.{Told as ToldDeep}
use Rattle.rt_deep.specs.Memory.{means as deep_means}
use Rattle.rt_entry.specs.Transition.{is_open}
use Rattle.rt_entry.specs.declared.entry.Entry.{Entry}
use Rattle.rt_entry.specs.declared.entry.Entry.TheVariants.{Replica}
use Rattle.rt_entry.specs.declared.refused.ServerRefused.TheVariants.{NotDue}
use Rattle.rt_events.specs.declared.event.Event.{Event}
use Rattle.rt_events.specs.declared.event.Event.TheVariants as event
use Rattle.rt_events.specs.declared.outcome.Outcome.{Outcome}
use Rattle.rt_events.specs.declared.outcome.Outcome.TheVariants as came
use Rattle.rt_events.specs.declared.refusal.Refusal.TheVariants.{Limit, NothingToDo}
use Rattle.rt_lists.specs.Members.{Has}
use Rattle.rt_lists.proofs.Lists.{contains_found, All-found}
use Rattle.rt_lists.proofs.Members.{Has-append_left, Has-append_right, Has-place, Has-push}
use Rattle.rt_macros.specs.Doing.{after, stays, Gives, Happens, Reached}
use Rattle.rt_macros.specs.Exchanging.{AfterDelivery, AfterReply, AfterReport, AfterStep, EndsJob, Handles, MakesStep, TakesAnswer}
use Rattle.rt_macros.specs.Outcomes.{delivered_in, ended_in, state_in}
use Rattle.rt_macros.specs.declared.exchanging.Exchanged.{Exchanged}
use Rattle.rt_macros.specs.declared.outcomes.Delivered.{Delivered}
use Rattle.rt_macros.specs.declared.outcomes.Delivered.TheVariants as delivered
use Rattle.rt_macros.specs.declared.outcomes.Replied.{Replied}
use Rattle.rt_model.specs.Completion.{Completion}
use Rattle.rt_model.specs.Messages.{asked_of, same_number}
use Rattle.rt_model.specs.declared.node.Seen.{Seen}
use Rattle.rt_model.specs.declared.replica_state.ReplicaState.{ReplicaState}
use Rattle.rt_model.specs.declared.reply.Reply.{Reply}
use Rattle.rt_model.specs.declared.reply.ReplyStatus.{ReplyStatus}
use Rattle.rt_model.specs.declared.reply.ReplyStatus.TheVariants as status
use Rattle.rt_model.specs.declared.request.Request.{Request}
use Rattle.rt_model.specs.declared.request.RequestKind.{RequestKind}
use Rattle.rt_model.specs.declared.request.RequestKind.TheVariants as kind
use Rattle.rt_model.specs.declared.request.RequestNumber.{RequestNumber}
use Rattle.rt_model.specs.declared.setup.Setup.{Setup}
use Rattle.rt_msgs.specs.Numbered.{number_at, upload_path, Numbered}
use Rattle.rt_nodes.specs.Messages.{node_took}
use Rattle.rt_nodes.specs.Requests.{NodeAsks}
use Rattle.rt_nodes.specs.declared.controller_node.ControllerNode.{ControllerNode}
use Rattle.rt_nodes.specs.declared.server_node.ServerNode.{ServerNode}
use Rattle.rt_past.specs.Segments.{IsAssignedTo}
use Rattle.rt_safety.specs.CommitRun.{job_in, open_job}
use Rattle.rt_safety.specs.Runs.{happens, Turn}
use Rattle.rt_safety.proofs.JobsOn.{own_slot}
use Rattle.rt_segment.specs.Spelling.{file_of}
use Rattle.rt_server.specs.Calls.{replied_at, ThroughAt}
use Rattle.rt_server.specs.Table.{put_back, replica_of, Segments}
use Rattle.rt_server.proofs.LastingAsks.{answered_ok, no_answer}
use Rattle.rt_state.specs.Applying.{Next}
use Rattle.rt_state.specs.Finding.{reply_at, request_at}
use Rattle.rt_state.specs.IsSafe.{past_of}
use Rattle.rt_state.specs.IsSafeWorld.{IsSafeWorld}
use Rattle.rt_state.specs.Messages.{after_step, handed, DeliversAt, RepliesAt}
use Rattle.rt_state.specs.Nodes.{ServerDoesAt}
use Rattle.rt_state.specs.Requests.{SendsAt}
use Rattle.rt_state.specs.declared.state.State.{State}
use Rattle.rt_state.proofs.Bounds.{few_writes}
use Rattle.rt_store.specs.Meaning.{Told}
use Rattle.rt_store.specs.Memory.{means}
use Rattle.rt_stream.specs.Log.{Log}
use Rattle.rt_unrefused.proofs.Answered.{delivers, delivery_leaves, job_leaves, Delivers, IsAnswer}
use Rattle.rt_unrefused.proofs.Requested.{replica_put, requested, IsRequested}
use Rattle.rt_world.specs.Reading.{events_left_in, leader_in}
use Rattle.rt_world.specs.Step.{Steps}
use Rattle.rt_world.proofs.KeepsMessages.{request_sent}
use Rattle.rt_heal.proofs.LessWorld.{put_calm, put_up, IsPut}
use Rattle.rt_heal.proofs.Quiet.{then_parts, told_not, told_same, IsThen}
use Rattle.rt_calm.specs.Again.{again_entry, again_servers, ahead_still, asked_machines, machine_of, machines_by, machines_in, spent_again, stray_again, IsLeading}
use Rattle.rt_calm.specs.Ahead.{ahead_in_world, ahead_of, ahead_servers}
use Rattle.rt_calm.specs.Off.{IsPutOff, IsSuccess, IsTold, PutsOff, Succeeds, Waits}
use Rattle.rt_calm.specs.Spent.{Spends}
use Rattle.rt_calm.proofs.Answering.{answer_again, IsWaiting}
use Rattle.rt_calm.proofs.Controlled.{asking_on, delivery_fetches, delivery_leads, delivery_log, delivery_plan, delivery_writes, job_fetches, job_keeps_leads, job_log, job_plan, IsAsking}
use Rattle.rt_calm.proofs.Delivered.{IsMoved, IsReadable, StatusTells}
use Rattle.rt_calm.proofs.Ending.{step_behind, step_pays, Behind, IsOpenFor, IsPaying, FailedOrSuccess, PaysBehind}
use Rattle.rt_calm.proofs.Fitting.{hands_out, Fits, HandsOut}
use Rattle.rt_calm.proofs.Keeping.{goes_on, keeps_still, keeps_then, step_keeps, IsGoing, KeepsOn}
use Rattle.rt_calm.proofs.Leading.{leader_leads, leads_in, leads_still}
use Rattle.rt_calm.proofs.Machines.{still_turned}
use Rattle.rt_calm.proofs.Moving.{delivery_moves, machines_at, DeliveryMoves, IsPlain, MovedSo}
use Rattle.rt_calm.proofs.Paying.{first_pays, IsFirst}
use Rattle.rt_calm.proofs.Settling.{settling_reads, IsSettling}
use Rattle.rt_calm.proofs.Sharing.{servers_put}
use Rattle.rt_calm.proofs.Standing.{answer_falls}
use Rattle.rt_calm.proofs.Sums.{put_falls, put_still, put_sum}

-- ---- the request

-- a replica that has sent a request, and else stands as it stood
pub record HasAsked (w u : State) (i : Instance) (p : Partition) (q : Sequence) (request : Request) : Type 0 where
  pub old : ServerNode
  pub at : slice_get w.servers i.0 ≡ Some old
  pub replica : Consumer
  pub found : replica_of old.server.table p q ≡ Some replica
  pub kind : kind_in replica.name request.number replica.phase ≡ Some request.kind
  pub offset : request.offset ≡ cur replica
  pub new : ServerNode
  pub servers : u.servers ≡ slice_set w.servers i.0 new
  pub table : new.server.table ≡ put_back old.server.table p q (Replica (record replica { waited = Some (Step request.number) }))
  pub instance : new.server.numbers.instance ≡ old.server.numbers.instance
  pub up : new.up ≡ old.up
  pub log : u.log ≡ w.log
  pub store : u.store ≡ w.store
  pub deep : u.deep ≡ w.deep
  pub controllers : u.controllers ≡ w.controllers
  pub setup : u.setup ≡ w.setup
  pub moment : u.moment ≡ w.moment

abbrev pub came_sent : ℕ → Request → Outcome
came_sent m request = came.Sent m request

same_sent : (m n : ℕ) (q r : Request) → came_sent m q ≡ came_sent n r → q ≡ r
same_sent m n q r e = cc

pub has_asked : (w u : State) (i : Instance) (p : Partition) (q : Sequence) (request : Request) → Steps w (event.Report i p q) u (Ok (came.Sent (length w.sent) request))
    → HasAsked w u i p q request
has_asked w u i p q request (cost, due, h) = by_server (slice_get w.servers i.0) refl h
  where
    by_server : (n : Option ServerNode) → slice_get w.servers i.0 ≡ n → SendsAt n w i (NodeAsks p q) cost (u, came.Sent (length w.sent) request)
        → HasAsked w u i p q request
    by_server None at h = absurd h
    by_server (Some old) at (new, sent_one, does, is) = by_replica (replica_of old.server.table p q) refl does.0
      where
        own : sent_one ≡ request
        own = same_sent (length w.sent) (length w.sent) sent_one request (sym (ap (λ (x : Next). x.1) is))

        by_replica : (o : Option Consumer) → replica_of old.server.table p q ≡ o
            → ThroughAt o (new.server.numbers ≡ old.server.numbers)
            (λ r next answer. AsksItself r next old.server.numbers new.server.numbers answer) old.server.table new.server.table p q (Ok sent_one)
            → HasAsked w u i p q request
        by_replica None found through = absurd (no_answer NotDue sent_one through.1)
        by_replica (Some r) found through =
            let c : AsksItself r through.0 old.server.numbers new.server.numbers (Ok sent_one) =
            subst (AsksItself r through.0 old.server.numbers new.server.numbers) (answered_ok through.1 sent_one through.3) through.2 in
            let number : number_at old.server.numbers old.server.numbers.made ≡ request.number =
            sym (ap (λ (x : Request). x.number) c.1) ∙ ap (λ (x : Request). x.number) own in
            record {
              old = old;
              at = at;
              replica = r;
              found = found;
              kind =
                  ap (λ (n : RequestNumber). kind_in r.name n r.phase) (sym number) ∙ c.0
                  ∙ ap (λ (x : Request). some_kind x.kind) own;
              offset = ap (λ (x : Request). x.offset) (sym own) ∙ ap (λ (x : Request). x.offset) c.1;
              new = new;
              servers = ap (λ (x : Next). x.0.servers) is;
              table =
                  through.4
                  ∙ ap (λ (x : Consumer). put_back old.server.table p q (Replica x))
                  (c.2 ∙ ap (λ (n : RequestNumber). record r { waited = Some (Step n) }) number);
              instance = ap (λ (x : Numbered). x.instance) c.3;
              up = does.2;
              log = ap (λ (x : Next). x.0.log) is;
              store = ap (λ (x : Next). x.0.store) is;
              deep = ap (λ (x : Next). x.0.deep) is;
              controllers = ap (λ (x : Next). x.0.controllers) is;
              setup = ap (λ (x : Next). x.0.setup) is;
              moment = ap (λ (x : Next). x.0.moment) is;
            }
          where
            some_kind : RequestKind → Option RequestKind
            some_kind k = Some k

-- ---- a delivery

-- it is answered so, or a job is open for it
abbrev pub DeliversSo : State → ControllerId → Request → Delivered → Type 0
DeliversSo v c q (delivered.Replied r) = IsAnswer v (asked_of q) r × Fits q.offset q.kind r.status
DeliversSo v c q (delivered.Started j) = (is : IsOpenFor v c j q) × IsFirst is.job.stage
DeliversSo v c q delivered.Neither = Unit {0}

module _ (w v : State) (m : ℕ) (c : ControllerId) (q : Request) (o : Outcome) (safe : IsSafeWorld w) (asks : request_at w m ≡ Some q)
    (steps : Steps w (event.Deliver m c) v (Ok o)) where
  abbrev replicas : Partition → List Instance
  replicas p = replicas_of p w.setup.table.replication w.setup.servers

  -- the sender is one of the segment's replicas
  sender : (p : Partition) → p ≡ q.partition → Contains (replicas p) q.number.instance
  sender p e =
      let has = subst (λ (x : Partition). IsAssignedTo w.setup x q.number.instance) (sym e) (safe.safe.past.requests q (request_sent w m q asks)).assigned in
      let place = Has-place (replicas p) q.number.instance has in
      contains_found (replicas p) place.0 q.number.instance place.1

  pub delivery_so : DeliversSo v c q (delivered_in o)
  delivery_so =
      by_node (slice_get w.controllers c.0) refl
      (subst (λ (r : Option Request). DeliversAt r (slice_get w.controllers c.0) w c steps.0 (v, o)) asks steps.2)
    where
      by_what : (n : ControllerNode) (new : Controlling) (store : Told) (deep : ToldDeep) (what : Handled) → slice_get w.controllers c.0 ≡ Some n
          → HandlesIt {E = Unit {0}} (means w.store) (means store) (deep_means w.deep) (deep_means deep) n.controller q w.moment new (Ok what)
          → HandsOut n.controller q new what → (v, o) ≡ handed (after_step w c n new store deep) steps.0 what → DeliversSo v c q (delivered_in o)
      by_what n new store deep (handled.Reply y) at h so is =
          let told : o ≡ came.Replied (length w.sent) y = ap (λ (x : Next). x.1) is in
          subst (λ (x : Outcome). DeliversSo v c q (delivered_in x)) (sym told)
          (subst (λ (x : Outcome). Delivers v c q (delivered_in x)) told (delivers w v m c q o safe asks steps), so)
      by_what n new store deep (handled.Job j) at h so is =
          let told : o ≡ came.Started j = ap (λ (x : Next). x.1) is in
          let k = handles_over w.setup (past_of w) w.store store w.deep deep n.controller new q w.moment (handled.Job j) safe.safe.setup safe.safe.past
          (few_writes w safe) refl refl (request_sent w m q asks) (safe.safe.controllers c.0 n at).over h in
          let has : Has new.jobs so.job = subst (λ (js : List Job). Has js so.job) (sym so.jobs) (Has-push n.controller.jobs so.job) in
          let there : open_job v c j ≡ Some so.job =
          ap (λ (z : Next). job_in (slice_get z.0.controllers c.0) j) is
          ∙ ap (λ (x : Option ControllerNode). job_in x j) (own_slot w.controllers c.0 n (record n { controller = new }) at)
          ∙ found_job new.jobs new.started j so.job k.over.numbered has so.number in
          subst (λ (x : Outcome). DeliversSo v c q (delivered_in x)) (sym told) (record { job = so.job; there = there; asked = so.asked; starts = so.starts }, so.first)

      by_node : (n : Option ControllerNode) → slice_get w.controllers c.0 ≡ n → DeliversAt (Some q) n w c steps.0 (v, o) → DeliversSo v c q (delivered_in o)
      by_node None at h = absurd h
      by_node (Some n) at (new, what, store, deep, h, is) =
          let k : IsControllerOver w.setup (past_of w) n.controller = (safe.safe.controllers c.0 n at).over in
          by_what n new store deep what at h
          (hands_out n.controller q w.moment
          (λ g has of_p.
          let place = Has-place n.controller.machines g has in
          let over = All-found (IsMachineOver w.setup (past_of w)) n.controller.machines place.0 g k.machines place.1 in
          subst (λ (is : List Instance). Contains is q.number.instance) (sym over.replicas) (sender g.partition of_p))
          (subst (λ (is : List Instance). Contains is q.number.instance)
          (sym (ap (λ (x : Assigned). replicas_in x q.partition) k.assigned)) (sender q.partition refl))
          (means w.store) (means store) (deep_means w.deep) (deep_means deep) new what h) is

-- ---- the answer

-- among some turns is one by which this was answered
pub record Tells (b : Reached) (r : Replied) : Type 0 where
  pub event : Event
  pub outcome : Outcome
  pub has : Has b.turns (happens event outcome)
  pub told : (delivered_in outcome ≡ delivered.Replied r) ⊎ (ended_in outcome ≡ Some r)

tells_first : (b l v : Reached) (r : Replied) → v ≡ after b.turns l → Tells b r → Tells v r
tells_first b l v r whole t =
    record {
      event = t.event;
      outcome = t.outcome;
      has =
          subst (λ (x : Reached). Has x.turns (happens t.event t.outcome)) (sym whole)
          (Has-append_left b.turns l.turns (happens t.event t.outcome) t.has);
      told = t.told;
    }

tells_behind : (b l v : Reached) (r : Replied) → v ≡ after b.turns l → Tells l r → Tells v r
tells_behind b l v r whole t =
    record {
      event = t.event;
      outcome = t.outcome;
      has =
          subst (λ (x : Reached). Has x.turns (happens t.event t.outcome)) (sym whole)
          (Has-append_right b.turns l.turns (happens t.event t.outcome) t.has);
      told = t.told;
    }

-- the request is answered so, in these turns
pub record HasAnswered (u : State) (c : ControllerId) (q : Request) (v : Reached) (r : Replied) : Type 0 where
  pub asking : IsAsking u v.world
  pub answer : IsAnswer v.world (asked_of q) r
  pub fits : Fits q.offset q.kind r.status
  pub wrote : (v.world.store.writes ≡ u.store.writes) ⊎ FailedOrSuccess r.status
  pub spends : Spends u.setup u.log u.store.writes v.world.store.writes
  pub moves : IsPlain u q → v.world.store.writes ≡ u.store.writes → MovedSo u v.world c q r.status
  pub tells : Tells v r

module _ (u : State) (c : ControllerId) (q : Request) where
  abbrev IsAnswered : Reached → Replied → Type 0
  IsAnswered v r = HasAnswered u c q v r

  answered_behind : (b l v : Reached) (r : Replied) → v ≡ after b.turns l → IsAnswered l r → IsAnswered v r
  answered_behind b l v r whole k =
      let at : v.world ≡ l.world = ap (λ (x : Reached). x.world) whole in
      record {
        asking = subst (IsAsking u) (sym at) k.asking;
        answer = subst (λ (x : State). IsAnswer x (asked_of q) r) (sym at) k.answer;
        fits = k.fits;
        wrote = subst (λ (x : State). (x.store.writes ≡ u.store.writes) ⊎ FailedOrSuccess r.status) (sym at) k.wrote;
        spends = subst (λ (x : State). Spends u.setup u.log u.store.writes x.store.writes) (sym at) k.spends;
        moves = subst (λ (x : State). IsPlain u q → x.store.writes ≡ u.store.writes → MovedSo u x c q r.status) (sym at) k.moves;
        tells = tells_behind b l v r whole k.tells;
      }

  ends_job : (j left : ℕ) (z : State) (v : Reached) (r : Replied) → IsAsking u z → IsOpenFor z c j q → IsPaying u z c j q
      → EndsJob c j left z v (Ok r) → IsAnswered v r
  ends_job j zero z v r k is pay h = absurd (told_not r (Limit Events) h.1)
  ends_job j (suc left) z v r k is pay h =
      by_step t.told t.last (step_behind z s.between.world c j q s.told k.keeps.going.safe is s.came.by.0)
      (step_pays u z s.between.world c j q s.told k.keeps on_step.keeps is pay s.came.by.0) made t.further t.whole
      (λ l goes paying further. ends_job j left t.between.world l r on goes paying further)
    where
      t : IsThen (MakesStep c j) (AfterStep (EndsJob c j left)) z v r
      t = then_parts (MakesStep c j) (AfterStep (EndsJob c j left)) z v r h

      s : IsThen (Happens (event.Job c j)) (λ outcome. Gives (ended_in outcome)) z t.between t.told
      s = then_parts (Happens (event.Job c j)) (λ outcome. Gives (ended_in outcome)) z t.between t.told t.came

      made : t.told ≡ ended_in s.told
      made = told_same t.told (ended_in s.told) s.further.1

      at : t.between.world ≡ s.between.world
      at = ap (λ (x : Reached). x.world) s.whole ∙ ap (λ (x : Reached). x.world) s.further.0

      on_step : IsAsking u s.between.world
      on_step =
          asking_on u z s.between.world (event.Job c j) s.told k tt s.came.by.0 (job_leaves z s.between.world c j s.told s.came.by.0).servers
          (job_log z s.between.world c j s.told s.came.by.0) (job_keeps_leads z s.between.world c j s.told s.came.by.0) (λ none. job_plan z s.between.world c j s.told s.came.by.0 none)
          (λ none. job_fetches z s.between.world c j s.told s.came.by.0 none)

      on : IsAsking u t.between.world
      on = subst (IsAsking u) (sym at) on_step

      by_step : (o : Option Replied) (l : Reached) → Behind s.between.world c j q (ended_in s.told) → PaysBehind u s.between.world c j q (ended_in s.told)
          → o ≡ ended_in s.told → AfterStep (EndsJob c j left) o t.between.world l (Ok r) → v ≡ after t.between.turns l
          → ((l : Reached) → IsOpenFor t.between.world c j q → IsPaying u t.between.world c j q → EndsJob c j left t.between.world l (Ok r)
          → IsAnswered l r)
          → IsAnswered v r
      by_step None l behind pays same further whole more =
          answered_behind t.between l v r whole
          (more l (subst (λ (x : State). IsOpenFor x c j q) (sym at) (subst (Behind s.between.world c j q) (sym same) behind))
          (subst (λ (x : State). IsPaying u x c j q) (sym at) (subst (PaysBehind u s.between.world c j q) (sym same) pays)) further)
      by_step (Some x) l behind pays same further whole more =
          let own = subst (Behind s.between.world c j q) (sym same) behind in
          let paid = subst (PaysBehind u s.between.world c j q) (sym same) pays in
          let is_r : x ≡ r = sym (told_same r x further.1) in
          let end : v.world ≡ t.between.world = ap (λ (y : Reached). y.world) whole ∙ ap (λ (y : Reached). y.world) further.0 in
          let in_turn : Tells s.between x =
          record {
            event = event.Job c j;
            outcome = s.told;
            has = subst (λ (turns : List Turn). Has turns (happens (event.Job c j) s.told)) (sym s.came.by.1) (inl refl);
            told = inr (sym same);
          } in
          subst (IsAnswered v) is_r
          (record {
            asking = subst (IsAsking u) (sym end) on;
            answer = subst (λ (y : State). IsAnswer y (asked_of q) x) (sym (end ∙ at)) own.0;
            fits = own.1;
            wrote = inr own.2;
            spends = subst (λ (y : State). Spends u.setup u.log u.store.writes y.store.writes) (sym (end ∙ at)) paid.0;
            moves =
                subst (λ (y : State). IsPlain u q → y.store.writes ≡ u.store.writes → MovedSo u y c q x.status) (sym (end ∙ at))
                (λ plain unwritten. inr (inr (paid.1 plain unwritten)));
            tells = tells_first t.between l v x whole (tells_first s.between s.last t.between x s.whole in_turn);
          })

  handles : (m : ℕ) (v : Reached) (r : Replied) → IsGoing u → request_at u m ≡ Some q → Handles c m u v (Ok r) → IsAnswered v r
  handles m v r going asks h =
      by_delivered (delivered_in t.told) refl (delivery_so u t.between.world m c q t.told going.safe asks t.came.by.0) t.last t.further t.whole
    where
      t : IsThen (Happens (event.Deliver m c)) (λ outcome. AfterDelivery c (delivered_in outcome)) u v r
      t = then_parts (Happens (event.Deliver m c)) (λ outcome. AfterDelivery c (delivered_in outcome)) u v r h

      on : IsAsking u t.between.world
      on =
          asking_on u u t.between.world (event.Deliver m c) t.told
          (record { keeps = keeps_still u going; servers = refl }) tt t.came.by.0
          (delivery_leaves u t.between.world m c t.told t.came.by.0).servers (delivery_log u t.between.world m c t.told t.came.by.0)
          (delivery_leads u t.between.world m c t.told t.came.by.0)
          (λ none. delivery_plan u t.between.world m c t.told t.came.by.0 none) (λ none. delivery_fetches u t.between.world m c t.told t.came.by.0 none)

      moved : IsPlain u q → DeliveryMoves u t.between.world c q (delivered_in t.told)
      moved plain = delivery_moves u t.between.world m c q t.told going.safe asks t.came.by.0 plain

      by_delivered : (d : Delivered) → delivered_in t.told ≡ d → DeliversSo t.between.world c q d → (l : Reached) → AfterDelivery c d t.between.world l (Ok r)
          → v ≡ after t.between.turns l → IsAnswered v r
      by_delivered (delivered.Replied x) same so l further whole =
          let is_r : x ≡ r = sym (told_same r x further.1) in
          let end : v.world ≡ t.between.world = ap (λ (y : Reached). y.world) whole ∙ ap (λ (y : Reached). y.world) further.0 in
          subst (IsAnswered v) is_r
          (record {
            asking = subst (IsAsking u) (sym end) on;
            answer = subst (λ (y : State). IsAnswer y (asked_of q) x) (sym end) so.0;
            fits = so.1;
            wrote = inl (ap (λ (y : State). y.store.writes) end ∙ delivery_writes u t.between.world m c t.told t.came.by.0);
            spends = inl (ap (λ (y : State). y.store.writes) end ∙ delivery_writes u t.between.world m c t.told t.came.by.0);
            moves =
                subst (λ (y : State). IsPlain u q → y.store.writes ≡ u.store.writes → MovedSo u y c q x.status) (sym end)
                (λ plain unwritten. subst (DeliveryMoves u t.between.world c q) same (moved plain));
            tells =
                tells_first t.between l v x whole
                (record {
                  event = event.Deliver m c;
                  outcome = t.told;
                  has = subst (λ (turns : List Turn). Has turns (happens (event.Deliver m c) t.told)) (sym t.came.by.1) (inl refl);
                  told = inl same;
                });
          })
      by_delivered (delivered.Started j) same so l further whole =
          answered_behind t.between l v r whole (ends_job j (events_left_in t.between.world) t.between.world l r on so.0
          (record {
            job = so.0.job;
            there = so.0.there;
            pays =
                first_pays u.setup u.log u.store.writes t.between.world.store.writes so.0.job.asked so.0.job.stage so.1
                (delivery_writes u t.between.world m c t.told t.came.by.0);
            started = λ plain. subst (DeliveryMoves u t.between.world c q) same (moved plain);
          }) further)
      by_delivered delivered.Neither same so l further whole = absurd (told_not r NothingToDo further.1)

-- ---- the answer is taken

number_is : (n : RequestNumber) → same_number n n ≡ true
number_is n =
    ap (λ b. b && (n.incarnation == n.incarnation) && (n.count == n.count)) (eq-eqb n.instance.0 n.instance.0 refl)
    ∙ ap (λ b. b && (n.count == n.count)) (eq-eqb n.incarnation n.incarnation refl)
    ∙ eq-eqb n.count n.count refl

-- the servers with the answer taken: the replica puts it in its place
pub record HasTaken (z y : State) (i : Instance) (p : Partition) (q : Sequence) (node : ServerNode) (r : Consumer) (reply : Reply) : Type 0 where
  pub new : ServerNode
  pub servers : y.servers ≡ slice_set z.servers i.0 new
  pub table : new.server.table ≡ put_back node.server.table p q (Replica (answered_by r reply))
  pub instance : new.server.numbers.instance ≡ node.server.numbers.instance
  pub up : new.up ≡ node.up
  pub log : y.log ≡ z.log
  pub store : y.store ≡ z.store
  pub deep : y.deep ≡ z.deep
  pub controllers : y.controllers ≡ z.controllers
  pub moment : y.moment ≡ z.moment

takes : (z y : State) (m : ℕ) (o : Outcome) (i : Instance) (p : Partition) (q : Sequence) (node : ServerNode) (r : Consumer) (reply : Reply)
    → reply_at z m ≡ Some reply → reply.number.instance.0 ≡ i.0 → reply.partition ≡ p → reply.sequence ≡ q → slice_get z.servers i.0 ≡ Some node
    → replica_of node.server.table p q ≡ Some r → Steps z (event.Reply m) y (Ok o) → HasTaken z y i p q node r reply
takes z y m o i p q node r reply there place of_p of_q stands found (cost, due, h) =
    by_server (slice_get z.servers reply.number.instance.0) refl (subst (λ (x : Option Reply). RepliesAt x z cost (y, o)) there h)
  where
    by_server : (n : Option ServerNode) → slice_get z.servers reply.number.instance.0 ≡ n
        → ServerDoesAt n z reply.number.instance (λ old new outcome. (outcome, new) ≡ node_took old reply) cost (y, o) → HasTaken z y i p q node r reply
    by_server None at h = absurd h
    by_server (Some old) at (new, step, is) =
        let same : old ≡ node = same_Some old node (sym at ∙ ap (slice_get z.servers) place ∙ stands) in
        let its : replica_of node.server.table reply.partition reply.sequence ≡ Some r =
        ap (λ (x : Partition). replica_of node.server.table x reply.sequence) of_p ∙ ap (replica_of node.server.table p) of_q ∙ found in
        record {
          new = new;
          servers = ap (λ (x : State). x.servers) is ∙ ap (λ (k : ℕ). slice_set z.servers k new) place;
          table =
              ap (λ (x : Outcome × ServerNode). x.1.server.table) step
              ∙ ap (λ (x : ServerNode). (node_took x reply).1.server.table) same
              ∙ ap (λ (x : Option Consumer). (replied_at x node.server.table reply).1) its
              ∙ ap (λ (x : Partition). put_back node.server.table x reply.sequence (Replica (answered_by r reply))) of_p
              ∙ ap (λ (x : Sequence). put_back node.server.table p x (Replica (answered_by r reply))) of_q;
          instance =
              ap (λ (x : Outcome × ServerNode). x.1.server.numbers.instance) step ∙ ap (λ (x : ServerNode). x.server.numbers.instance) same;
          up = ap (λ (x : Outcome × ServerNode). x.1.up) step ∙ ap (λ (x : ServerNode). x.up) same;
          log = ap (λ (x : State). x.log) is;
          store = ap (λ (x : State). x.store) is;
          deep = ap (λ (x : State). x.deep) is;
          controllers = ap (λ (x : State). x.controllers) is;
          moment = ap (λ (x : State). x.moment) is;
        }

-- ---- an exchange

-- it puts its replica off, or leaves less ahead
abbrev pub OffOrLess : State → Reached → Type 0
OffOrLess w v = PutsOff v ⊎ (ahead_in_world v.world < ahead_in_world w)

pub told_first : (P : ReplyStatus → Type 0) (b l v : Reached) → v ≡ after b.turns l → IsTold P b → IsTold P v
told_first P b l v whole x =
    let t = tells_first b l v x.answer whole (record { event = x.event; outcome = x.outcome; has = x.has; told = x.told }) in
    record { event = t.event; outcome = t.outcome; has = t.has; answer = x.answer; told = t.told; so = x.so }

pub told_behind : (P : ReplyStatus → Type 0) (b l v : Reached) → v ≡ after b.turns l → IsTold P l → IsTold P v
told_behind P b l v whole x =
    let t = tells_behind b l v x.answer whole (record { event = x.event; outcome = x.outcome; has = x.has; told = x.told }) in
    record { event = t.event; outcome = t.outcome; has = t.has; answer = x.answer; told = t.told; so = x.so }

-- nothing was written, or the answer is one of a job
abbrev pub Wrote : State → Reached → Type 0
Wrote w v = (v.world.store.writes ≡ w.store.writes) ⊎ PutsOff v ⊎ Succeeds v

-- HOLD is told, or NOT_LEADER where no controller that is up believes that it leads
abbrev pub MakesWait : State → ReplyStatus → Type 0
MakesWait w s = (s ≡ status.Hold) ⊎ ((s ≡ status.NotLeader) × (IsLeading w → ⊥))

-- where it writes nothing, and nobody is told HOLD or NOT_LEADER, less lies ahead and may lie ahead again
abbrev pub WaitsOrLess : State → Reached → Type 0
WaitsOrLess w v = IsSettling w → v.world.store.writes ≡ w.store.writes → Waits w v ⊎ (ahead_still v.world < ahead_still w)

-- and the run goes on
pub record HasExchanged (w : State) (v : Reached) : Type 0 where
  pub on : KeepsOn w v.world
  pub less : OffOrLess w v
  pub wrote : Wrote w v
  pub spends : Spends w.setup w.log w.store.writes v.world.store.writes
  pub still : WaitsOrLess w v

-- the answer is taken, and the run goes on so
pub record HasTakenAnswer (w : State) (b : Reached) (i : Instance) (p : Partition) (q : Sequence) (node : ServerNode) (r : Consumer) (reply : Reply) (v : Reached) : Type 0 where
  pub exchanged : HasExchanged w v
  pub taken : HasTaken b.world v.world i p q node r reply
  pub still : IsSettling w → v.world.store.writes ≡ w.store.writes → MakesWait w reply.status ⊎ (ahead_still v.world < ahead_still w)

pub waits_behind : (w m : State) (b l v : Reached) → (IsLeading w → IsLeading m) → v ≡ after b.turns l → Waits m l → Waits w v
waits_behind w m b l v leading whole (inl held) = inl (told_behind (λ s. s ≡ status.Hold) b l v whole held)
waits_behind w m b l v leading whole (inr (away, none)) =
    inr (told_behind (λ s. s ≡ status.NotLeader) b l v whole away, λ k. none (leading k))

pub waits_first : (w : State) (b l v : Reached) → v ≡ after b.turns l → Waits w b → Waits w v
waits_first w b l v whole (inl held) = inl (told_first (λ s. s ≡ status.Hold) b l v whole held)
waits_first w b l v whole (inr (away, none)) = inr (told_first (λ s. s ≡ status.NotLeader) b l v whole away, none)

-- the same in these turns and others
exchanged_as : (w : State) (l v : Reached) → v.world ≡ l.world → ((P : ReplyStatus → Type 0) → IsTold P l → IsTold P v) → HasExchanged w l → HasExchanged w v
exchanged_as w l v at told x =
    record {
      on = subst (KeepsOn w) (sym at) x.on;
      less = by_less x.less;
      wrote = by_wrote x.wrote;
      spends = subst (λ (y : State). Spends w.setup w.log w.store.writes y.store.writes) (sym at) x.spends;
      still = λ settling same. by_still (x.still settling (ap (λ (y : State). y.store.writes) (sym at) ∙ same));
    }
  where
    by_less : OffOrLess w l → OffOrLess w v
    by_less (inl off) = inl (told IsPutOff off)
    by_less (inr less) = inr (subst (λ (y : State). ahead_in_world y < ahead_in_world w) (sym at) less)

    by_wrote : Wrote w l → Wrote w v
    by_wrote (inl same) = inl (ap (λ (y : State). y.store.writes) at ∙ same)
    by_wrote (inr (inl off)) = inr (inl (told IsPutOff off))
    by_wrote (inr (inr done)) = inr (inr (told IsSuccess done))

    by_still : Waits w l ⊎ (ahead_still l.world < ahead_still w) → Waits w v ⊎ (ahead_still v.world < ahead_still w)
    by_still (inl (inl held)) = inl (inl (told (λ s. s ≡ status.Hold) held))
    by_still (inl (inr (away, none))) = inl (inr (told (λ s. s ≡ status.NotLeader) away, none))
    by_still (inr less) = inr (subst (λ (y : State). ahead_still y < ahead_still w) (sym at) less)

pub exchanged_behind : (w : State) (b l v : Reached) → v ≡ after b.turns l → HasExchanged w l → HasExchanged w v
exchanged_behind w b l v whole x = exchanged_as w l v (ap (λ (y : Reached). y.world) whole) (λ P told. told_behind P b l v whole told) x

-- nothing comes behind it
pub exchanged_before : (w : State) (b l : Reached) → l ≡ after b.turns (stays b.world) → HasExchanged w b → HasExchanged w l
exchanged_before w b l whole x =
    exchanged_as w b l (ap (λ (y : Reached). y.world) whole) (λ P told. told_first P b (stays b.world) l whole told) x

-- a replica that asks isn't told of a commit yet
asks_open_at : (name : List ℕ) (number : RequestNumber) (stage : Stage) (k : RequestKind) → kind_at name number stage ≡ Some k
    → is_open (state_at stage) ≡ true
asks_open_at name number (Holding reason) k asks = refl
asks_open_at name number (Starting reason built) k asks = refl
asks_open_at name number (Uploading reason built) k asks = refl
asks_open_at name number (Ending reason built path) k asks = refl
asks_open_at name number InitialConsuming k asks = absurd (none-some k asks)
asks_open_at name number (CatchingUp target reason) k asks = absurd (none-some k asks)
asks_open_at name number (ConsumingToOnline end done) k asks = absurd (none-some k asks)
asks_open_at name number (Retaining done) k asks = absurd (none-some k asks)
asks_open_at name number (Building reason) k asks = absurd (none-some k asks)

asks_open : (name : List ℕ) (number : RequestNumber) (ph : Phase) (k : RequestKind) → kind_in name number ph ≡ Some k → is_open (state_of ph) ≡ true
asks_open name number (phase.Unsealed o) k asks = asks_open_at name number o.stage k asks
asks_open name number (phase.Discarded d) k asks = refl
asks_open name number (phase.Retained kept) k asks = absurd (none-some k asks)
asks_open name number (phase.Committed kept) k asks = absurd (none-some k asks)

-- it asks for no more time
not_extended : (k l : RequestKind) (millis : ℕ) → Some k ≡ Some l → (k ≡ kind.Extend millis → ⊥) → l ≡ kind.Extend millis → ⊥
not_extended k l millis same other is = other (same_Some k l same ∙ is)

asks_no_time_at : (name : List ℕ) (number : RequestNumber) (stage : Stage) (k : RequestKind) (millis : ℕ) → kind_at name number stage ≡ Some k
    → k ≡ kind.Extend millis → ⊥
asks_no_time_at name number (Holding reason) k millis asks is = not_extended (kind.Consumed reason) k millis asks (λ e. cc) is
asks_no_time_at name number (Starting reason built) k millis asks is = not_extended kind.CommitStart k millis asks (λ e. cc) is
asks_no_time_at name number (Uploading reason built) k millis asks is = not_extended (kind.Upload (upload_path name number) (file_of built)) k millis asks (λ e. cc) is
asks_no_time_at name number (Ending reason built path) k millis asks is = not_extended (kind.CommitEnd path) k millis asks (λ e. cc) is
asks_no_time_at name number InitialConsuming k millis asks is = none-some k asks
asks_no_time_at name number (CatchingUp target reason) k millis asks is = none-some k asks
asks_no_time_at name number (ConsumingToOnline end done) k millis asks is = none-some k asks
asks_no_time_at name number (Retaining done) k millis asks is = none-some k asks
asks_no_time_at name number (Building reason) k millis asks is = none-some k asks

asks_no_time : (name : List ℕ) (number : RequestNumber) (ph : Phase) (k : RequestKind) (millis : ℕ) → kind_in name number ph ≡ Some k
    → k ≡ kind.Extend millis → ⊥
asks_no_time name number (phase.Unsealed o) k millis asks is = asks_no_time_at name number o.stage k millis asks is
asks_no_time name number (phase.Discarded d) k millis asks is = by_stop d.stopped asks
  where
    by_stop : (b : Bool) → cond b (Some kind.Stopped) None ≡ Some k → ⊥
    by_stop true e = not_extended kind.Stopped k millis e (λ f. cc) is
    by_stop false e = none-some k e
asks_no_time name number (phase.Retained kept) k millis asks is = none-some k asks
asks_no_time name number (phase.Committed kept) k millis asks is = none-some k asks

module _ (w u : State) (i : Instance) (p : Partition) (q : Sequence) (request : Request) (asked : HasAsked w u i p q request)
    (segment : (request.partition ≡ p) × (request.sequence ≡ q)) (own : request.number.instance.0 ≡ i.0) (c : ControllerId) (led : leader_in w ≡ Some c)
    (going : IsGoing w) (within : request.partition.0 < w.setup.partitions) where
  abbrev waiting : Consumer
  waiting = record asked.replica { waited = Some (Step request.number) }

  -- no more lies ahead of it than before
  asked_still : ahead_in_world u ≡ ahead_in_world w
  asked_still =
      put_still w u i.0 asked.old asked.new p q asked.replica waiting
      (record { there = asked.at; found = asked.found; table = asked.table; servers = asked.servers; log = asked.log }) refl

  asked_keeps : (o : Outcome) → Steps w (event.Report i p q) u (Ok o) → KeepsOn w u
  asked_keeps o steps =
      let put : IsPut w u i.0 asked.old asked.new p q asked.replica waiting =
      record {
        there = asked.at;
        found = asked.found;
        table = asked.table;
        instance = asked.instance;
        up = asked.up;
        servers = asked.servers;
        log = asked.log;
        shut = λ shut. shut;
      } in
      step_keeps w u (event.Report i p q) o going tt steps asked.log (leads_still w u asked.controllers) (λ none. ap (λ (t : Told). t.faults.plan) asked.store ∙ none)
      (λ none. ap (λ (d : ToldDeep). d.faults.plan) asked.deep ∙ none)
      (put_up w u i.0 asked.old asked.new p q asked.replica waiting put)
      (λ same. put_calm w u i.0 asked.old asked.new p q asked.replica waiting put asked.store)

  waits_there : replica_of asked.new.server.table p q ≡ Some waiting
  waits_there =
      ap (λ (t : Segments). replica_of t p q) asked.table ∙ replica_put asked.old.server.table p q asked.replica waiting asked.found

  -- ---- what may lie ahead again

  abbrev h : List Seen
  h = w.store.writes

  -- the replica by its request's segment
  found_own : replica_of asked.old.server.table request.partition request.sequence ≡ Some asked.replica
  found_own =
      ap (λ (x : Partition). replica_of asked.old.server.table x request.sequence) segment.0
      ∙ ap (λ (x : Sequence). replica_of asked.old.server.table p x) segment.1 ∙ asked.found

  put_own : (t : Segments) (e : Entry) → put_back t p q e ≡ put_back t request.partition request.sequence e
  put_own t e =
      ap (λ (x : Partition). put_back t x q e) (sym segment.0) ∙ ap (λ (x : Sequence). put_back t request.partition x e) (sym segment.1)

  -- the request leaves no more
  asked_again : (ms : List SegmentMachine) → again_servers h ms 0 u.servers ≤ again_servers h ms 0 w.servers
  asked_again ms =
      let put =
      servers_put h ms ms request.number.instance request.partition request.sequence
      (record {
        machine = machine_of ms request.partition request.sequence;
        left = machine_of ms request.partition request.sequence;
        turned = still_turned ms request.partition request.sequence;
        waits = λ j stage x other is. is;
        spent = omega arith;
      })
      0 i.0 w.servers asked.old asked.new asked.replica waiting (omega (arith, own)) asked.at (going.safe.safe.servers i.0 asked.old asked.at).over.kept.ascending
      found_own (asked.table ∙ put_own asked.old.server.table (Replica waiting)) in
      omega (arith, put, ap (again_servers h ms 0) asked.servers)

  settling_plain : IsSettling w → IsPlain u request
  settling_plain s =
      record {
        within = subst (λ (x : Setup). request.partition.0 < x.partitions) (sym asked.setup) within;
        readable =
            subst (λ (t : Told). IsReadable t u.deep request.partition request.sequence) (sym asked.store)
            (subst (λ (d : ToldDeep). IsReadable w.store d request.partition request.sequence) (sym asked.deep)
            (settling_reads w s i asked.old request.partition request.sequence asked.replica asked.at found_own
            (asks_open asked.replica.name request.number asked.replica.phase request.kind asked.kind) within));
        unextended = λ millis is. asks_no_time asked.replica.name request.number asked.replica.phase request.kind millis asked.kind is;
      }

  module _ (b : Reached) (r : Replied) (k : HasAnswered u c request b r) where
    stands : slice_get b.world.servers i.0 ≡ Some asked.new
    stands =
        ap (λ (ns : List ServerNode). slice_get ns i.0) (k.asking.servers ∙ asked.servers)
        ∙ own_slot w.servers i.0 asked.old asked.new asked.at

    before : ahead_in_world b.world ≡ ahead_in_world w
    before =
        ap (λ (ns : List ServerNode). ahead_servers b.world.log ns) k.asking.servers
        ∙ ap (λ (l : Log). ahead_servers l u.servers) k.asking.keeps.log
        ∙ asked_still

    pub turns_so : answered_by waiting k.answer.reply ≡ turned waiting (answered waiting.phase k.answer.reply.status)
    turns_so =
        ap (λ (x : Bool). cond x (turned waiting (answered waiting.phase k.answer.reply.status)) waiting)
        (subst (λ (n : RequestNumber). same_number request.number n ≡ true) (sym k.answer.number) (number_is request.number))

    falls : IsPutOff k.answer.reply.status
        ⊎ (ahead_of b.world.log (turned waiting (answered waiting.phase k.answer.reply.status)) < ahead_of b.world.log waiting)
    falls =
        answer_falls b.world.log waiting request.number request.kind k.answer.reply.status asked.kind
        (subst (λ (x : Offset). Fits x request.kind k.answer.reply.status) asked.offset
        (subst (λ (s : ReplyStatus). Fits request.offset request.kind s) k.answer.status k.fits))

    module _ (y : State) (o : Outcome) (steps : Steps b.world (event.Reply r.message) y (Ok o)) where
      taken : HasTaken b.world y i p q asked.new waiting k.answer.reply
      taken =
          takes b.world y r.message o i p q asked.new waiting k.answer.reply k.answer.there
          (ap (λ (n : RequestNumber). n.instance.0) k.answer.number ∙ own) (k.answer.partition ∙ segment.0) (k.answer.sequence ∙ segment.1) stands waits_there steps

      -- the machine that has moved leaves less ahead, now and again
      module _ (settling : IsSettling w) (same : b.world.store.writes ≡ u.store.writes)
          (moved : IsMoved u.store.writes (machines_at u c) (machines_at b.world c) request r.status) where
        abbrev ms : List SegmentMachine
        ms = machines_at u c

        abbrev ns : List SegmentMachine
        ns = machines_at b.world c

        abbrev next : Consumer
        next = turned waiting (answered waiting.phase k.answer.reply.status)

        abbrev again_of : List SegmentMachine → Consumer → ℕ
        again_of ls x = again_entry u.store.writes ls request.number.instance.0 (request.partition, request.sequence) (Replica x)

        -- of the replica itself
        own_less : IsWaiting r.status ⊎ (ahead_of b.world.log next + again_of ns next < ahead_of b.world.log waiting + again_of ms waiting)
        own_less =
            by_way (answer_again u.store.writes request moved.moved.machine moved.moved.left moved.moved.spent b.world.log waiting request.number asked.kind asked.offset
            k.answer.reply.status (subst (λ (s : ReplyStatus). Fits (cur asked.replica) request.kind s) k.answer.status (subst (λ (x : Offset). Fits x request.kind r.status) asked.offset k.fits))
            (subst (StatusTells u.store.writes request moved.moved.machine moved.moved.left) k.answer.status moved.tells))
          where
            again_by_machine : Option Completion → Consumer → ℕ
            again_by_machine m x =
                spent_again u.store.writes request.partition request.sequence m + stray_again m request.number.instance.0 x.phase

            by_way : IsWaiting k.answer.reply.status
                ⊎ (ahead_of b.world.log next + again_by_machine moved.moved.left next < ahead_of b.world.log waiting + again_by_machine moved.moved.machine waiting)
                → IsWaiting r.status ⊎ (ahead_of b.world.log next + again_of ns next < ahead_of b.world.log waiting + again_of ms waiting)
            by_way (inl off) = inl (subst IsWaiting (sym k.answer.status) off)
            by_way (inr less) =
                inr (omega (
                  arith,
                  less,
                  ap (λ (m : Option Completion). again_by_machine m next) moved.moved.turned.behind,
                  ap (λ (m : Option Completion). again_by_machine m waiting) moved.moved.turned.before,
                ))

        moved_less : IsWaiting r.status ⊎ (ahead_in_world y + again_servers u.store.writes ns 0 y.servers < ahead_in_world w + again_servers u.store.writes ms 0 w.servers)
        moved_less = by_own own_less
          where
            by_own : IsWaiting r.status ⊎ (ahead_of b.world.log next + again_of ns next < ahead_of b.world.log waiting + again_of ms waiting)
                → IsWaiting r.status
                ⊎ (ahead_in_world y + again_servers u.store.writes ns 0 y.servers < ahead_in_world w + again_servers u.store.writes ms 0 w.servers)
            by_own (inl off) = inl off
            by_own (inr less) =
                let table = subst (λ (x : Consumer). taken.new.server.table ≡ put_back asked.new.server.table request.partition request.sequence (Replica x)) turns_so
                (taken.table ∙ put_own asked.new.server.table (Replica (answered_by waiting k.answer.reply))) in
                let waits_own : replica_of asked.new.server.table request.partition request.sequence ≡ Some waiting =
                ap (λ (x : Partition). replica_of asked.new.server.table x request.sequence) segment.0
                ∙ ap (λ (x : Sequence). replica_of asked.new.server.table p x) segment.1 ∙ waits_there in
                let put =
                servers_put u.store.writes ms ns request.number.instance request.partition request.sequence moved.moved 0 i.0 b.world.servers asked.new taken.new waiting next
                (omega (arith, own)) stands (k.asking.keeps.going.safe.safe.servers i.0 asked.new stands).over.kept.ascending waits_own table in
                let sum =
                put_sum b.world y i.0 asked.new taken.new p q waiting next
                (record {
                  there = stands;
                  found = waits_there;
                  table = subst (λ (x : Consumer). taken.new.server.table ≡ put_back asked.new.server.table p q (Replica x)) turns_so taken.table;
                  servers = taken.servers;
                  log = taken.log;
                }) in
                inr (omega (
                  arith,
                  less,
                  put,
                  sum,
                  before,
                  ap (again_servers u.store.writes ns 0) taken.servers,
                  ap (again_servers u.store.writes ms 0) k.asking.servers,
                  subst (λ (g : List Seen). again_servers g ms 0 u.servers ≤ again_servers g ms 0 w.servers) (sym (ap (λ (t : Told). t.writes) asked.store)) (asked_again ms),
                ))

      taken_less : IsPutOff r.status ⊎ (ahead_in_world y < ahead_in_world w)
      taken_less = by_way falls
        where
          by_way : IsPutOff k.answer.reply.status
              ⊎ (ahead_of b.world.log (turned waiting (answered waiting.phase k.answer.reply.status)) < ahead_of b.world.log waiting)
              → IsPutOff r.status ⊎ (ahead_in_world y < ahead_in_world w)
          by_way (inl off) = inl (subst IsPutOff (sym k.answer.status) off)
          by_way (inr less) =
              let lt = put_falls b.world y i.0 asked.new taken.new p q waiting (answered_by waiting k.answer.reply)
              (record { there = stands; found = waits_there; table = taken.table; servers = taken.servers; log = taken.log })
              (subst (λ (x : Consumer). ahead_of b.world.log x < ahead_of b.world.log waiting) (sym turns_so) less) in
              inr (omega (arith, lt, before))

      taken_keeps : KeepsOn b.world y
      taken_keeps =
          let put : IsPut b.world y i.0 asked.new taken.new p q waiting (answered_by waiting k.answer.reply) =
          record {
            there = stands;
            found = waits_there;
            table = taken.table;
            instance = taken.instance;
            up = taken.up;
            servers = taken.servers;
            log = taken.log;
            shut = λ shut. absurd (true≢false (sym (asks_open waiting.name request.number waiting.phase request.kind asked.kind) ∙ shut));
          } in
          step_keeps b.world y (event.Reply r.message) o k.asking.keeps.going tt steps taken.log (leads_still b.world y taken.controllers) (λ none. ap (λ (t : Told). t.faults.plan) taken.store ∙ none)
          (λ none. ap (λ (d : ToldDeep). d.faults.plan) taken.deep ∙ none)
          (put_up b.world y i.0 asked.new taken.new p q waiting (answered_by waiting k.answer.reply) put)
          (λ same. put_calm b.world y i.0 asked.new taken.new p q waiting (answered_by waiting k.answer.reply) put taken.store)

    takes_answer : (m : ℕ) (l v : Reached) (x : Exchanged) → KeepsOn w u → v ≡ after b.turns l → TakesAnswer m r b.world l (Ok x)
        → HasTakenAnswer w b i p q asked.new waiting k.answer.reply v
    takes_answer m l v x first whole h = by_state (state_in t.told) t.further
      where
        t : IsThen (Happens (event.Reply r.message)) (λ outcome. AfterReply m r (state_in outcome)) b.world l x
        t = then_parts (Happens (event.Reply r.message)) (λ outcome. AfterReply m r (state_in outcome)) b.world l x h

        -- so it is told among all the turns
        is_told : (P : ReplyStatus → Type 0) → P r.status → IsTold P v
        is_told P so =
            let told = tells_first b l v r whole k.tells in
            record { event = told.event; outcome = told.outcome; has = told.has; answer = r; told = told.told; so = so }

        wrote_so : (b.world.store.writes ≡ u.store.writes) ⊎ FailedOrSuccess r.status → v.world ≡ t.between.world → Wrote w v
        wrote_so (inl same) e =
            inl
            (ap (λ (y : State). y.store.writes) e
            ∙ ap (λ (y : Told). y.writes) (taken t.between.world t.told t.came.by.0).store ∙ same ∙ ap (λ (y : Told). y.writes) asked.store)
        wrote_so (inr (inl failed)) e = inr (inl (is_told IsPutOff (subst IsPutOff (sym failed.1) tt)))
        wrote_so (inr (inr done)) e = inr (inr (is_told IsSuccess done))

        spent_so : Spends u.setup u.log u.store.writes b.world.store.writes → v.world ≡ t.between.world
            → Spends w.setup w.log w.store.writes v.world.store.writes
        spent_so spent e =
            let now : v.world.store.writes ≡ b.world.store.writes =
            ap (λ (y : State). y.store.writes) e ∙ ap (λ (y : Told). y.writes) (taken t.between.world t.told t.came.by.0).store in
            (subst (λ (h : List Seen). Spends w.setup w.log w.store.writes h) (sym now)
            (subst (λ (h : List Seen). Spends w.setup w.log h b.world.store.writes) (ap (λ (y : Told). y.writes) asked.store)
            (subst (λ (l : Log). Spends w.setup l u.store.writes b.world.store.writes) asked.log
            (subst (λ (s : Setup). Spends s u.log u.store.writes b.world.store.writes) first.setup spent))))

        still_so : KeepsOn w v.world → v.world ≡ t.between.world → IsSettling w → v.world.store.writes ≡ w.store.writes
            → MakesWait w r.status ⊎ (ahead_still v.world < ahead_still w)
        still_so on e settling unwritten =
            by_moved (k.moves (settling_plain settling) (sym at ∙ unwritten ∙ sym (ap (λ (y : Told). y.writes) asked.store)))
          where
            at : v.world.store.writes ≡ b.world.store.writes
            at = ap (λ (y : State). y.store.writes) e ∙ ap (λ (y : Told). y.writes) (taken t.between.world t.told t.came.by.0).store

            waits : IsWaiting r.status → (r.status ≡ status.NotLeader → IsLeading w → ⊥) → MakesWait w r.status
            waits (inl hold) none = inl hold
            waits (inr away) none = inr (away, none away)

            -- the machines of the controller that is asked
            machines_now : asked_machines v.world ≡ machines_at b.world c
            machines_now =
                ap (machines_by v.world.controllers) (on.leads.leader ∙ led)
                ∙ ap (λ (y : State). machines_at y c) e
                ∙ ap (λ (cs : List ControllerNode). machines_in (slice_get cs c.0)) (taken t.between.world t.told t.came.by.0).controllers

            machines_then : asked_machines w ≡ machines_at u c
            machines_then =
                ap (machines_by w.controllers) led ∙ ap (λ (cs : List ControllerNode). machines_in (slice_get cs c.0)) (sym asked.controllers)

            writes_now : v.world.store.writes ≡ u.store.writes
            writes_now = unwritten ∙ sym (ap (λ (y : Told). y.writes) asked.store)

            still_now : ahead_still v.world
                ≡ ahead_in_world t.between.world + again_servers u.store.writes (machines_at b.world c) 0 t.between.world.servers
            still_now =
                ap (λ (g : List Seen). ahead_in_world v.world + again_servers g (asked_machines v.world) 0 v.world.servers) writes_now
                ∙ ap (λ (ls : List SegmentMachine). ahead_in_world v.world + again_servers u.store.writes ls 0 v.world.servers) machines_now
                ∙ ap (λ (y : State). ahead_in_world y + again_servers u.store.writes (machines_at b.world c) 0 y.servers) e

            still_then : ahead_still w ≡ ahead_in_world w + again_servers u.store.writes (machines_at u c) 0 w.servers
            still_then =
                ap (λ (g : List Seen). ahead_in_world w + again_servers g (asked_machines w) 0 w.servers) (sym (ap (λ (y : Told). y.writes) asked.store))
                ∙ ap (λ (ls : List SegmentMachine). ahead_in_world w + again_servers u.store.writes ls 0 w.servers) machines_then

            by_less : (r.status ≡ status.NotLeader → IsLeading w → ⊥)
                → IsWaiting r.status ⊎ (ahead_in_world t.between.world + again_servers u.store.writes (machines_at b.world c) 0 t.between.world.servers < ahead_in_world w + again_servers u.store.writes (machines_at u c) 0 w.servers)
                → MakesWait w r.status ⊎ (ahead_still v.world < ahead_still w)
            by_less none (inl off) = inl (waits off none)
            by_less none (inr less) = inr (omega (arith, less, still_now, still_then))

            by_moved : MovedSo u b.world c request r.status → MakesWait w r.status ⊎ (ahead_still v.world < ahead_still w)
            by_moved (inl hold) = inl (inl hold)
            by_moved (inr (inl (away, apart))) =
                inl (inr (
                  away,
                  λ leading. true≢false
                      (sym (leader_leads w leading c led) ∙ ap (λ (cs : List ControllerNode). leads_in (slice_get cs c.0)) (sym asked.controllers) ∙ apart),
                ))
            by_moved (inr (inr moved)) =
                by_less (λ away. absurd (subst (StatusTells u.store.writes request moved.moved.machine moved.moved.left) away moved.tells))
                (moved_less t.between.world t.told t.came.by.0 settling (sym at ∙ writes_now) moved)

        told_still : MakesWait w r.status ⊎ (ahead_still v.world < ahead_still w) → Waits w v ⊎ (ahead_still v.world < ahead_still w)
        told_still (inl (inl hold)) = inl (inl (is_told (λ s. s ≡ status.Hold) hold))
        told_still (inl (inr (away, none))) = inl (inr (is_told (λ s. s ≡ status.NotLeader) away, none))
        told_still (inr less) = inr less

        by_less : (y : State) → IsPutOff r.status ⊎ (ahead_in_world t.between.world < ahead_in_world w) → y ≡ t.between.world
            → PutsOff v ⊎ (ahead_in_world y < ahead_in_world w)
        by_less y (inl off) e = inl (is_told IsPutOff off)
        by_less y (inr less) e = inr (subst (λ (z : State). ahead_in_world z < ahead_in_world w) (sym e) less)

        by_state : (o : Option ReplicaState) → AfterReply m r o t.between.world t.last (Ok x)
            → HasTakenAnswer w b i p q asked.new waiting k.answer.reply v
        by_state None g = absurd (told_not x NothingToDo g.1)
        by_state (Some s) g =
            let end : v.world ≡ t.between.world =
            ap (λ (z : Reached). z.world) whole ∙ ap (λ (z : Reached). z.world) t.whole ∙ ap (λ (z : Reached). z.world) g.0 in
            let kept = keeps_then w b.world t.between.world (keeps_then w u b.world first k.asking.keeps)
            (taken_keeps t.between.world t.told t.came.by.0) in
            let on = subst (KeepsOn w) (sym end) kept in
            record {
              exchanged = record {
                on = on;
                less = by_less v.world (taken_less t.between.world t.told t.came.by.0) end;
                wrote = wrote_so k.wrote end;
                spends = spent_so k.spends end;
                still = λ settling unwritten. told_still (still_so on end settling unwritten);
              };
              taken =
                  subst (λ (y : State). HasTaken b.world y i p q asked.new waiting k.answer.reply) (sym end)
                  (taken t.between.world t.told t.came.by.0);
              still =
                  λ settling unwritten. subst (λ (x : ReplyStatus). MakesWait w x ⊎ (ahead_still v.world < ahead_still w)) k.answer.status (still_so on end settling unwritten);
            }

-- a request that was sent is answered, and the answer taken
pub record HasFinished (w u : State) (i : Instance) (p : Partition) (q : Sequence) (c : ControllerId) (o : Outcome) (v : Reached) : Type 0 where
  pub its : IsRequested w u i p q o
  pub asked : HasAsked w u i p q its.request
  pub within : its.request.partition.0 < w.setup.partitions
  pub between : Reached
  pub answer : Replied
  pub came : Handles c (length w.sent) u between (Ok answer)
  pub answered : HasAnswered u c its.request between answer
  pub taken : HasTakenAnswer w between i p q asked.new (record asked.replica { waited = Some (Step its.request.number) }) answered.answer.reply v

pub finishes : (w u : State) (i : Instance) (p : Partition) (q : Sequence) (c : ControllerId) (o : Outcome) (v : Reached) (x : Exchanged) → IsGoing w
    → leader_in w ≡ Some c → Steps w (event.Report i p q) u (Ok o) → AfterReport c o u v (Ok x) → HasFinished w u i p q c o v
finishes w u i p q c o v x going led steps h =
    let sent_so = then_parts (Handles c m) (TakesAnswer m) u v x (subst (λ (y : Outcome). AfterReport c y u v (Ok x)) its.told h) in
    let answered = handles u c its.request m sent_so.between sent_so.told going_on its.there sent_so.came in
    record {
      its = its;
      asked = asked;
      within = within;
      between = sent_so.between;
      answer = sent_so.told;
      came = sent_so.came;
      answered = answered;
      taken =
          takes_answer w u i p q its.request asked its.segment its.instance c led going within sent_so.between sent_so.told answered m sent_so.last v x
          (asked_keeps w u i p q its.request asked its.segment its.instance c led going within o steps) sent_so.whole sent_so.further;
    }
  where
    its : IsRequested w u i p q o
    its = requested w u i p q o going.safe steps

    m : ℕ
    m = length w.sent

    asked : HasAsked w u i p q its.request
    asked = has_asked w u i p q its.request (subst (λ (y : Outcome). Steps w (event.Report i p q) u (Ok y)) its.told steps)

    going_on : IsGoing u
    going_on = goes_on w u (event.Report i p q) o going tt steps

    within : its.request.partition.0 < w.setup.partitions
    within =
        subst (λ (x : Setup). its.request.partition.0 < x.partitions) asked.setup
        (going_on.safe.safe.past.requests its.request (request_sent u m its.request its.there)).partition
