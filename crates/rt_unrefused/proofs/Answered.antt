-- What a controller answers to a request, at once or by a job.
use Rattle.std.proofs.Common.{◌≡◌, ◌++◌, ◌∷◌, [], inl, ℕ, List, length, Option, Some, None, Ok, refl, sym, ◌∙◌, ap, subst, slice_get, ⊎_elim}
use Rattle.rt_base.specs.declared.numbers.ControllerId.{ControllerId}
use Rattle.rt_commit.specs.declared.job.Job.{Job}
use Rattle.rt_controller.proofs.CallsOver.{handles_over}
use Rattle.rt_controller.proofs.JobsStay.{found_job}
use Rattle.rt_controller.proofs.OwnAnswers.{request_answers}
use Rattle.rt_controller.specs.Controller.{Controlling}
use Rattle.rt_controller.specs.Right.{LeavesJob, WorksOver, job_of}
use Rattle.rt_controller.specs.Steps.{Handles}
use Rattle.rt_controller.specs.declared.handled.Handled.{Handled}
use Rattle.rt_controller.specs.declared.handled.Handled.TheVariants as handled
use Rattle.rt_deep.specs.Meaning.{Told as ToldDeep}
use Rattle.rt_deep.specs.Memory.{means as deep_means}
use Rattle.rt_events.specs.declared.event.Event.TheVariants as event
use Rattle.rt_events.specs.declared.outcome.Outcome.{Outcome}
use Rattle.rt_events.specs.declared.outcome.Outcome.TheVariants as came
use Rattle.rt_lists.proofs.Members.{Has-push, slice_get-push}
use Rattle.rt_lists.specs.Members.{Has}
use Rattle.rt_macros.specs.Outcomes.{delivered_in, ended_in, ending, replied}
use Rattle.rt_macros.specs.declared.outcomes.Delivered.{Delivered}
use Rattle.rt_macros.specs.declared.outcomes.Delivered.TheVariants as delivered
use Rattle.rt_macros.specs.declared.outcomes.Replied.{Replied}
use Rattle.rt_model.specs.Messages.{asked_of}
use Rattle.rt_model.specs.declared.asked.Asked.{Asked}
use Rattle.rt_model.specs.declared.reply.Reply.{Reply}
use Rattle.rt_model.specs.declared.request.Request.{Request}
use Rattle.rt_model.specs.declared.sent.Sent.{Sent}
use Rattle.rt_model.specs.declared.sent.Sent.TheVariants as sent
use Rattle.rt_nodes.specs.declared.controller_node.ControllerNode.{ControllerNode}
use Rattle.rt_past.specs.Past.{Past}
use Rattle.rt_past.specs.Replies.{IsReply}
use Rattle.rt_safety.proofs.JobsOn.{handed_same, own_slot}
use Rattle.rt_safety.specs.CommitRun.{job_in, open_job}
use Rattle.rt_state.proofs.Bounds.{few_writes}
use Rattle.rt_state.specs.Applying.{Next}
use Rattle.rt_state.specs.Finding.{reply_at, reply_in, request_at}
use Rattle.rt_state.specs.IsSafe.{past_of}
use Rattle.rt_state.specs.IsSafeWorld.{IsSafeWorld}
use Rattle.rt_state.specs.Messages.{DeliversAt, after_step, handed}
use Rattle.rt_state.specs.declared.cost.Cost.{Cost}
use Rattle.rt_state.specs.declared.state.State.{State}
use Rattle.rt_store.specs.Meaning.{Told}
use Rattle.rt_store.specs.Memory.{means}
use Rattle.rt_unrefused.proofs.JobSteps.{OwnStep, SendsIts, is_open_job, over, own_step, there_then}
use Rattle.rt_unrefused.proofs.StartedJobs.{job_started}
use Rattle.rt_world.proofs.KeepsMessages.{request_sent}
use Rattle.rt_world.specs.Step.{Steps}

-- ---- a reply

-- the message of this number is a reply to the request that was asked
pub record IsAnswer (v : State) (a : Asked) (r : Replied) : Type 0 where
  pub reply : Reply
  pub there : reply_at v r.message ≡ Some reply
  pub number : reply.number ≡ a.number
  pub partition : reply.partition ≡ a.partition
  pub sequence : reply.sequence ≡ a.sequence
  pub status : r.status ≡ reply.status

-- one that is sent behind all others
sent_last : (v : State) (before : List Sent) (reply : Reply) (a : Asked) → v.sent ≡ before ++ sent.Reply reply ∷ [] → reply.number ≡ a.number
    → reply.partition ≡ a.partition → reply.sequence ≡ a.sequence → IsAnswer v a (replied (length before) reply)
sent_last v before reply a same number of at = record {
  reply = reply;
  there = ap (λ l. reply_in (slice_get l (length before))) same ∙ ap reply_in (slice_get-push before (sent.Reply reply));
  number = number;
  partition = of;
  sequence = at;
  status = refl;
}

-- ---- a job

-- a job that is open answers this request
pub record IsFor (w : State) (c : ControllerId) (j : ℕ) (a : Asked) : Type 0 where
  pub job : Job
  pub there : open_job w c j ≡ Some job
  pub asked : job.asked ≡ a

-- behind a step it goes on, or it has answered
abbrev pub Behind : State → ControllerId → ℕ → Asked → Option Replied → Type 0
Behind v c j a None = IsFor v c j a
Behind v c j a (Some r) = IsAnswer v a r

no_ending : (message : Option ℕ) → ending message None ≡ None
no_ending None = refl
no_ending (Some m) = refl

pub job_steps : (w v : State) (c : ControllerId) (j : ℕ) (a : Asked) (o : Outcome) → IsSafeWorld w → IsFor w c j a → Steps w (event.Job c j) v (Ok o)
    → Behind v c j a (ended_in o)
job_steps w v c j a o safe is steps =
    subst (λ (x : Outcome). Behind v c j a (ended_in x)) (sym did.told.1) (by_reply did.did.reply did.sends its.leaves)
  where
    did : OwnStep w v c j o
    did = own_step w v c j o steps

    its : WorksOver w.setup (past_of w) w.store did.store w.deep did.deep did.node.controller did.new j did.did
    its = over w v c j o safe did

    asked : its.job.asked ≡ a
    asked = ap (λ (x : Job). x.asked) (is_open_job w v c j o safe did is.job is.there) ∙ is.asked

    by_reply : (r : Option Reply) → SendsIts w.sent v did.told.0 r → LeavesJob its.job r (job_of did.new j) → Behind v c j a (ending did.told.0 r)
    by_reply None sends l =
        subst (Behind v c j a) (sym (no_ending did.told.0)) (record { job = l.0; there = there_then w v c j o safe did ∙ l.1; asked = l.3 ∙ asked })
    by_reply (Some reply) sends l =
        subst (λ (m : Option ℕ). Behind v c j a (ending m (Some reply))) (sym sends.0)
        (sent_last v w.sent reply a sends.1 (l.1 ∙ ap (λ (x : Asked). x.number) asked) (l.2 ∙ ap (λ (x : Asked). x.partition) asked)
        (l.3 ∙ ap (λ (x : Asked). x.sequence) asked))

-- ---- a delivery

same_request : (q x : Request) → sent.Request q ≡ sent.Request x → q ≡ x
same_request q x e = cc

-- a reply that is given at once is to the request
own_reply : (w : State) (store : Told) (deep : ToldDeep) (c new : Controlling) (q : Request) (r : Reply)
    → Handles {E = Unit {0}} (means w.store) (means store) (deep_means w.deep) (deep_means deep) c q w.moment new (Ok (handled.Reply r))
    → asked_of q ≡ record { number = r.number; partition = r.partition; sequence = r.sequence }
own_reply w store deep c new q r h =
    let view : Past = record { log = w.log; history = store.writes; files = deep.files; sent = sent.Request q ∷ [] } in
    let k : IsReply view r = request_answers view (means w.store) (means store) (deep_means w.deep) (deep_means deep) c new q w.moment (handled.Reply r)
    (record { history = refl; files = refl }) (inl refl) h in
    let same : q ≡ k.request = ⊎_elim (λ e. same_request q k.request e) (λ none. absurd none) k.was_sent in
    ap (λ (x : Request). asked_of x) same ∙ k.answers

-- it is answered, or a job is open for it
abbrev pub Delivers : State → ControllerId → Request → Delivered → Type 0
Delivers v c q (delivered.Replied r) = IsAnswer v (asked_of q) r
Delivers v c q (delivered.Started j) = IsFor v c j (asked_of q)
Delivers v c q delivered.Neither = ⊥

pub delivers : (w v : State) (m : ℕ) (c : ControllerId) (q : Request) (o : Outcome) → IsSafeWorld w → request_at w m ≡ Some q → Steps w (event.Deliver m c) v (Ok o)
    → Delivers v c q (delivered_in o)
delivers w v m c q o safe asks steps =
    by_node (slice_get w.controllers c.0) refl
    (subst (λ (r : Option Request). DeliversAt r (slice_get w.controllers c.0) w c steps.0 (v, o)) asks steps.2)
  where
    by_what : (n : ControllerNode) (new : Controlling) (store : Told) (deep : ToldDeep) (what : Handled) → slice_get w.controllers c.0 ≡ Some n
        → Handles {E = Unit {0}} (means w.store) (means store) (deep_means w.deep) (deep_means deep) n.controller q w.moment new (Ok what)
        → (v, o) ≡ handed (after_step w c n new store deep) steps.0 what → Delivers v c q (delivered_in o)
    by_what n new store deep (handled.Reply r) at h is =
        let told : o ≡ came.Replied (length w.sent) r = ap (λ (x : Next). x.1) is in
        let same : v.sent ≡ w.sent ++ sent.Reply r ∷ [] = ap (λ (x : Next). x.0.sent) is in
        let own = sym (own_reply w store deep n.controller new q r h) in
        subst (λ (x : Outcome). Delivers v c q (delivered_in x)) (sym told)
        (sent_last v w.sent r (asked_of q) same (ap (λ (a : Asked). a.number) own) (ap (λ (a : Asked). a.partition) own) (ap (λ (a : Asked). a.sequence) own))
    by_what n new store deep (handled.Job j) at h is =
        let told : o ≡ came.Started j = ap (λ (x : Next). x.1) is in
        let its = job_started n.controller q w.moment (means w.store) (means store) (deep_means w.deep) (deep_means deep) new j h in
        let k = handles_over w.setup (past_of w) w.store store w.deep deep n.controller new q w.moment (handled.Job j) safe.safe.setup safe.safe.past (few_writes w safe) refl refl
        (request_sent w m q asks) (safe.safe.controllers c.0 n at).over h in
        let has : Has new.jobs its.job = subst (λ (js : List Job). Has js its.job) (sym its.jobs) (Has-push n.controller.jobs its.job) in
        let there : open_job v c j ≡ Some its.job =
        ap (λ (z : Next). job_in (slice_get z.0.controllers c.0) j) is
        ∙ ap (λ (x : Option ControllerNode). job_in x j) (own_slot w.controllers c.0 n (record n { controller = new }) at)
        ∙ found_job new.jobs new.started j its.job k.over.numbered has its.number in
        subst (λ (x : Outcome). Delivers v c q (delivered_in x)) (sym told) (record { job = its.job; there = there; asked = its.asked })

    by_node : (n : Option ControllerNode) → slice_get w.controllers c.0 ≡ n → DeliversAt (Some q) n w c steps.0 (v, o) → Delivers v c q (delivered_in o)
    by_node None at h = absurd h
    by_node (Some n) at (new, what, store, deep, h, is) = by_what n new store deep what at h is

-- servers stay as they are, and controllers that are up stay so
pub record LeavesNodes (w v : State) (c : ControllerId) : Type 0 where
  pub servers : v.servers ≡ w.servers
  pub old : ControllerNode
  pub at : slice_get w.controllers c.0 ≡ Some old
  pub new : ControllerNode
  pub now : slice_get v.controllers c.0 ≡ Some new
  pub up : new.up ≡ old.up

handed_servers : (w : State) (cost : Cost) (what : Handled) → (handed w cost what).0.servers ≡ w.servers
handed_servers w cost (handled.Reply r) = refl
handed_servers w cost (handled.Job j) = refl

pub delivery_leaves : (w v : State) (m : ℕ) (c : ControllerId) (o : Outcome) → Steps w (event.Deliver m c) v (Ok o) → LeavesNodes w v c
delivery_leaves w v m c o (cost, due, h) = by_node (request_at w m) (slice_get w.controllers c.0) refl h
  where
    by_node : (q : Option Request) (n : Option ControllerNode) → slice_get w.controllers c.0 ≡ n → DeliversAt q n w c cost (v, o) → LeavesNodes w v c
    by_node None n at h = absurd h
    by_node (Some q) None at h = absurd h
    by_node (Some q) (Some n) at (new, what, store, deep, h, is) =
        let z = after_step w c n new store deep in
        record {
          servers = ap (λ (x : Next). x.0.servers) is ∙ handed_servers z cost what;
          old = n;
          at = at;
          new = record n { controller = new };
          now =
              ap (λ (x : Next). slice_get x.0.controllers c.0) is ∙ ap (λ (cs : List ControllerNode). slice_get cs c.0) (handed_same z cost what)
              ∙ own_slot w.controllers c.0 n (record n { controller = new }) at;
          up = refl;
        }

pub job_leaves : (w v : State) (c : ControllerId) (j : ℕ) (o : Outcome) → Steps w (event.Job c j) v (Ok o) → LeavesNodes w v c
job_leaves w v c j o steps =
    let did = own_step w v c j o steps in
    record {
      servers = did.servers;
      old = did.node;
      at = did.at;
      new = record did.node { controller = did.new };
      now =
          ap (λ (cs : List ControllerNode). slice_get cs c.0) did.controllers
          ∙ own_slot w.controllers c.0 did.node (record did.node { controller = did.new }) did.at;
      up = refl;
    }
