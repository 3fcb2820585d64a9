-- An exchange is refused by a limit alone, once its request is due and its controller up.
use Rattle.std.proofs.Common.{◌≡◌, ◌⊎◌, inl, inr, ◌∷◌, [], ℕ, zero, suc, Bool, true, false, cond, Option, Some, None, Ok, Err, is_some, length, nat_lt, refl, sym, ◌∙◌, ap, subst, slice_get}
use Rattle.std.proofs.lemmas.Option.{none-some}
use Rattle.rt_base.specs.declared.gate.NodeId.TheVariants.{Controller}
use Rattle.rt_base.specs.declared.numbers.ControllerId.{ControllerId}
use Rattle.rt_base.specs.declared.numbers.Instance.{Instance}
use Rattle.rt_base.specs.declared.numbers.Partition.{Partition}
use Rattle.rt_base.specs.declared.numbers.Sequence.{Sequence}
use Rattle.rt_base.specs.declared.which.Which.TheVariants.{Events}
use Rattle.rt_commit.specs.declared.job.Job.{Job}
use Rattle.rt_consumer.specs.Consumer.{state_of}
use Rattle.rt_consumer.specs.Replies.{replied}
use Rattle.rt_controller.specs.Right.{job_at}
use Rattle.rt_controller.specs.Working.{job_place}
use Rattle.rt_events.specs.Fits.{Fits}
use Rattle.rt_events.specs.declared.event.Event.{Event}
use Rattle.rt_events.specs.declared.event.Event.TheVariants as event
use Rattle.rt_events.specs.declared.outcome.Outcome.{Outcome}
use Rattle.rt_events.specs.declared.refusal.Refusal.{Refusal}
use Rattle.rt_events.specs.declared.refusal.Refusal.TheVariants.{NoSuchMessage, NoSuchNode, NodeDown, NothingToDo, Limit, Memory}
use Rattle.rt_macros.specs.Doing.{Gives, Happens, Reached}
use Rattle.rt_macros.specs.Exchanging.{AfterDelivery, AfterReply, AfterReport, AfterStep, EndsJob, Exchanges, Handles, IfDue, MakesStep, ReportsAndFinishes, TakesAnswer, down_due, exchange_due}
use Rattle.rt_macros.specs.Outcomes.{delivered_in, ended_in, state_in}
use Rattle.rt_macros.specs.declared.exchanging.Exchanged.{Exchanged}
use Rattle.rt_macros.specs.declared.outcomes.Delivered.{Delivered}
use Rattle.rt_macros.specs.declared.outcomes.Delivered.TheVariants as delivered
use Rattle.rt_macros.specs.declared.outcomes.Replied.{Replied}
use Rattle.rt_model.specs.Messages.{asked_of}
use Rattle.rt_model.specs.declared.asked.Asked.{Asked}
use Rattle.rt_model.specs.declared.replica_state.ReplicaState.{ReplicaState}
use Rattle.rt_model.specs.declared.reply.Reply.{Reply}
use Rattle.rt_model.specs.declared.request.Request.{Request}
use Rattle.rt_model.specs.declared.request.RequestNumber.{RequestNumber}
use Rattle.rt_model.specs.declared.setup.Setup.{Setup}
use Rattle.rt_nodes.specs.Messages.{node_took}
use Rattle.rt_nodes.specs.declared.controller_node.ControllerNode.{ControllerNode}
use Rattle.rt_nodes.specs.declared.server_node.ServerNode.{ServerNode}
use Rattle.rt_safety.proofs.JobsOn.{own_slot}
use Rattle.rt_safety.proofs.Later.{leads_on}
use Rattle.rt_safety.proofs.Runs.{leads_safe}
use Rattle.rt_safety.specs.CommitRun.{job_in}
use Rattle.rt_safety.specs.Runs.{happens}
use Rattle.rt_state.specs.Finding.{has_controller, is_controller_up, is_server_up, is_up, is_up_controller, reply_at, request_at}
use Rattle.rt_state.specs.IsSafeWorld.{IsSafeWorld}
use Rattle.rt_state.specs.Jobs.{has_job, has_job_in, sets_of_job}
use Rattle.rt_state.specs.Messages.{RepliesAt, reply_by}
use Rattle.rt_state.specs.Nodes.{ServerDoesAt}
use Rattle.rt_state.specs.Room.{Found, no_cost, only_if, priced, set_cost}
use Rattle.rt_state.specs.declared.state.State.{State}
use Rattle.rt_unrefused.proofs.Answered.{Behind, Delivers, IsAnswer, IsFor, LeavesNodes, delivers, delivery_leaves, job_leaves, job_steps}
use Rattle.rt_unrefused.proofs.Goes.{GoesTo, gives_to, happens_to, refuses_to, then_to}
use Rattle.rt_unrefused.proofs.Only.{Only, given, not_given, only_dropped, only_met, only_priced, refused, same_refusal}
use Rattle.rt_unrefused.proofs.Requested.{IsRequested, IsWaiting, requested, takes_it}
use Rattle.rt_unrefused.proofs.Up.{controller_is}
use Rattle.rt_unrefused.specs.Refused.{IsLimit}
use Rattle.rt_world.specs.Reading.{events_left_in, up_in}
use Rattle.rt_world.specs.Step.{Steps, due_of}

-- a safe world of the cluster
pub record IsIn (s : Setup) (u : State) : Type 0 where
  pub safe : IsSafeWorld u
  pub setup : u.setup ≡ s

pub then_in : (s : Setup) (u v : State) (e : Event) (o : Outcome) → IsIn s u → Fits u.setup.schema e → Steps u e v (Ok o) → IsIn s v
then_in s u v e o k fits steps = record {
  safe = leads_safe u (happens e o ∷ []) v k.safe (v, (fits, steps), refl);
  setup = (leads_on u (happens e o ∷ []) v k.safe (v, (fits, steps), refl)).setup ∙ k.setup;
}

-- ---- while it goes on

-- the controller is up, and the replica waits for the answer to its request, at its server, which is up
record IsOn (s : Setup) (u : State) (c : ControllerId) (i : Instance) (p : Partition) (q : Sequence) (number : RequestNumber) : Type 0 where
  world : IsIn s u
  controller : is_controller_up u c ≡ true
  node : ServerNode
  stands : slice_get u.servers i.0 ≡ Some node
  up : node.up ≡ true
  waits : IsWaiting node p q number

stays_on : (s : Setup) (u v : State) (c : ControllerId) (i : Instance) (p : Partition) (q : Sequence) (number : RequestNumber) → IsOn s u c i p q number → IsIn s v
    → LeavesNodes u v c → IsOn s v c i p q number
stays_on s u v c i p q number k world leaves = record {
  world = world;
  controller =
      ap is_up_controller leaves.now ∙ leaves.up ∙ ap is_up_controller (sym leaves.at) ∙ k.controller;
  node = k.node;
  stands = ap (λ ns. slice_get ns i.0) leaves.servers ∙ k.stands;
  up = k.up;
  waits = k.waits;
}

module _ (s : Setup) (c : ControllerId) (i : Instance) (p : Partition) (q : Sequence) (a : Asked) where
  abbrev On : State → Type 0
  On u = IsOn s u c i p q a.number

  -- the request is answered
  abbrev HasAnswer : Replied → State → Type 0
  HasAnswer r u = On u × IsAnswer u a r

  -- ---- a job

  abbrev some_job : Job → Option Job
  some_job j = Some j

  is_open_so : (n : Option ControllerNode) (j : ℕ) (job : Job) → job_in n j ≡ some_job job → has_job_in n j ≡ true
  is_open_so None j job e = absurd (none-some job e)
  is_open_so (Some n) j job e = by_place (job_place n.controller.jobs j) e
    where
      by_place : (o : Option ℕ) → job_at n.controller.jobs o ≡ some_job job → is_some o ≡ true
      by_place None e = absurd (none-some job e)
      by_place (Some place) e = refl

  job_goes : (j : ℕ) (u : State) → On u → IsFor u c j a → Only IsLimit (due_of u (event.Job c j))
  job_goes j u on is =
      let price = priced u (set_cost (sets_of_job u c j)) in
      let up = only_if (is_controller_up u c) NodeDown price in
      only_dropped IsLimit (only_if (has_controller u c) NoSuchNode (only_if (has_job u c j) NoSuchMessage up))
      (only_met IsLimit (has_controller u c) NoSuchNode (only_if (has_job u c j) NoSuchMessage up) (controller_is u c on.controller)
      (only_met IsLimit (has_job u c j) NoSuchMessage up (is_open_so (slice_get u.controllers c.0) j is.job is.there)
      (only_met IsLimit (is_controller_up u c) NodeDown price on.controller (only_priced u (set_cost (sets_of_job u c j))))))

  abbrev Stepped : ℕ → Option Replied → State → Type 0
  Stepped j o u = On u × Behind u c j a o

  makes_step : (j : ℕ) (u : State) → On u → IsFor u c j a → GoesTo (Stepped j) (MakesStep c j u)
  makes_step j u on is =
      then_to (λ o. Stepped j (ended_in o)) (Stepped j) (Happens (event.Job c j)) (λ outcome. Gives (ended_in outcome)) u
      (happens_to (λ o. Stepped j (ended_in o)) (event.Job c j) u (job_goes j u on is)
      (λ v o steps. (
        stays_on s u v c i p q a.number on (then_in s u v (event.Job c j) o on.world tt steps) (job_leaves u v c j o steps),
        job_steps u v c j a o on.world.safe is steps,
      )))
      (λ o v k. gives_to (Stepped j) (ended_in o) v k)

  step_on : (j left : ℕ) → ((u : State) → On u → IsFor u c j a → GoesTo HasAnswer (EndsJob c j left u)) → (o : Option Replied) (u : State) → Stepped j o u
      → GoesTo HasAnswer (AfterStep (EndsJob c j left) o u)
  step_on j left further None u k = further u k.0 k.1
  step_on j left further (Some r) u k = gives_to HasAnswer r u k

  ends_job : (j left : ℕ) (u : State) → On u → IsFor u c j a → GoesTo HasAnswer (EndsJob c j left u)
  ends_job j zero u on is = refuses_to HasAnswer (Limit Events) u tt
  ends_job j (suc left) u on is =
      then_to (Stepped j) HasAnswer (MakesStep c j) (AfterStep (EndsJob c j left)) u (makes_step j u on is)
      (λ o v k. step_on j left (λ x l m. ends_job j left x l m) o v k)

-- ---- a delivery

abbrev some_request : Request → Option Request
some_request q = Some q

is_there : (o : Option Request) (q : Request) → o ≡ some_request q → is_some o ≡ true
is_there None q e = absurd (none-some q e)
is_there (Some x) q e = refl

module _ (s : Setup) (c : ControllerId) (i : Instance) (p : Partition) (q : Sequence) (m : ℕ) (request : Request) where
  abbrev Asks : State → Type 0
  Asks u = IsOn s u c i p q request.number

  abbrev Answers : Replied → State → Type 0
  Answers r u = HasAnswer s c i p q (asked_of request) r u

  deliver_goes : (u : State) → Asks u → request_at u m ≡ Some request → Only IsLimit (due_of u (event.Deliver m c))
  deliver_goes u on there =
      let up = only_if (is_controller_up u c) NodeDown (priced u no_cost) in
      only_dropped IsLimit (only_if (has_controller u c) NoSuchNode (only_if (is_some (request_at u m)) NoSuchMessage up))
      (only_met IsLimit (has_controller u c) NoSuchNode (only_if (is_some (request_at u m)) NoSuchMessage up) (controller_is u c on.controller)
      (only_met IsLimit (is_some (request_at u m)) NoSuchMessage up (is_there (request_at u m) request there)
      (only_met IsLimit (is_controller_up u c) NodeDown (priced u no_cost) on.controller (only_priced u no_cost))))

  delivered_on : (d : Delivered) (u : State) → Asks u → Delivers u c request d → GoesTo Answers (AfterDelivery c d u)
  delivered_on (delivered.Replied r) u on is = gives_to Answers r u (on, is)
  delivered_on (delivered.Started j) u on is = ends_job s c i p q (asked_of request) j (events_left_in u) u on is
  delivered_on delivered.Neither u on is = absurd is

  handles : (u : State) → Asks u → request_at u m ≡ Some request → GoesTo Answers (Handles c m u)
  handles u on there =
      then_to (λ o v. Asks v × Delivers v c request (delivered_in o)) Answers (Happens (event.Deliver m c)) (λ outcome. AfterDelivery c (delivered_in outcome)) u
      (happens_to (λ o v. Asks v × Delivers v c request (delivered_in o)) (event.Deliver m c) u (deliver_goes u on there)
      (λ v o steps. (
        stays_on s u v c i p q request.number on (then_in s u v (event.Deliver m c) o on.world tt steps) (delivery_leaves u v m c o steps),
        delivers u v m c request o on.world.safe there steps,
      )))
      (λ o v k. delivered_on (delivered_in o) v k.0 k.1)

-- ---- the answer is taken

-- the server is still up
abbrev pub Done : Setup → Instance → Exchanged → State → Type 0
Done s i x u = IsIn s u × (is_server_up u i ≡ true)

record HasTaken (s : Setup) (i : Instance) (v : State) (o : Outcome) : Type 0 where
  world : IsIn s v
  up : is_server_up v i ≡ true
  stands : ReplicaState
  told : state_in o ≡ Some stands

module _ (s : Setup) (c : ControllerId) (i : Instance) (p : Partition) (q : Sequence) (a : Asked) (same : (a.partition ≡ p) × (a.sequence ≡ q)) (at : a.number.instance.0 ≡ i.0) where
  module _ (r : Replied) (u : State) (k : HasAnswer s c i p q a r u) where
    its : IsAnswer u a r
    its = k.1

    -- the server of the reply is the one that asked
    place : its.reply.number.instance.0 ≡ i.0
    place = ap (λ (n : RequestNumber). n.instance.0) its.number ∙ at

    stands : slice_get u.servers its.reply.number.instance.0 ≡ Some k.0.node
    stands = ap (slice_get u.servers) place ∙ k.0.stands

    waits : IsWaiting k.0.node its.reply.partition its.reply.sequence its.reply.number
    waits =
        subst (λ (n : RequestNumber). IsWaiting k.0.node its.reply.partition its.reply.sequence n) (sym its.number)
        (subst (λ (s : Sequence). IsWaiting k.0.node its.reply.partition s a.number) (sym (its.sequence ∙ same.1))
        (subst (λ (s : Partition). IsWaiting k.0.node s q a.number) (sym (its.partition ∙ same.0)) k.0.waits))

    reply_goes : Only IsLimit (due_of u (event.Reply r.message))
    reply_goes =
        let i = its.reply.number.instance in
        only_dropped IsLimit (reply_by u (reply_at u r.message))
        (subst (λ (o : Option Reply). Only IsLimit (reply_by u o)) (sym its.there)
        (only_met IsLimit (is_server_up u i) NodeDown (priced u no_cost) (ap is_up stands ∙ k.0.up) (only_priced u no_cost)))

    takes : (v : State) (o : Outcome) → Steps u (event.Reply r.message) v (Ok o) → HasTaken s i v o
    takes v o steps =
        by_server (slice_get u.servers its.reply.number.instance.0) refl
        (subst (λ (x : Option Reply). RepliesAt x u steps.0 (v, o)) its.there steps.2)
      where
        by_server : (n : Option ServerNode) → slice_get u.servers its.reply.number.instance.0 ≡ n
            → ServerDoesAt n u its.reply.number.instance (λ old new outcome. (outcome, new) ≡ node_took old its.reply) steps.0 (v, o) → HasTaken s i v o
        by_server None found h = absurd h
        by_server (Some old) found (new, step, is) =
            let same : old ≡ k.0.node = same_some old k.0.node (sym found ∙ stands) in
            record {
              world = then_in s u v (event.Reply r.message) o k.0.world tt steps;
              up =
                  ap (λ (x : ℕ). is_up (slice_get v.servers x)) (sym place)
                  ∙ ap (λ (x : State). is_up (slice_get x.servers its.reply.number.instance.0)) is
                  ∙ ap is_up (own_slot u.servers its.reply.number.instance.0 old new found)
                  ∙ ap (λ (z : Outcome × ServerNode). z.1.up) step ∙ ap (λ (n : ServerNode). n.up) same ∙ k.0.up;
              stands = state_of (replied waits.replica its.reply).phase;
              told =
                  ap (λ (z : Outcome × ServerNode). state_in z.0) step ∙ ap (λ (n : ServerNode). state_in (node_took n its.reply).0) same
                  ∙ takes_it k.0.node its.reply waits;
            }
          where
            same_some : (x y : ServerNode) → (let some : ServerNode → Option ServerNode = λ z. Some z in some x ≡ some y) → x ≡ y
            same_some x y e = cc

  abbrev some_state : ReplicaState → Option ReplicaState
  some_state s = Some s

  replied_on : (request : ℕ) (r : Replied) (o : Option ReplicaState) (x : ReplicaState) (v : State) → IsIn s v → is_server_up v i ≡ true → o ≡ some_state x
      → GoesTo (Done s i) (AfterReply request r o v)
  replied_on request r None x v world up e = absurd (none-some x e)
  replied_on request r (Some y) x v world up e =
      gives_to (Done s i) (record { request = request; reply = r.message; status = r.status; state = y }) v (world, up)

  takes_answer : (request : ℕ) (r : Replied) (u : State) → HasAnswer s c i p q a r u → GoesTo (Done s i) (TakesAnswer request r u)
  takes_answer request r u k =
      then_to (λ o v. HasTaken s i v o) (Done s i) (Happens (event.Reply r.message)) (λ outcome. AfterReply request r (state_in outcome)) u
      (happens_to (λ o v. HasTaken s i v o) (event.Reply r.message) u (reply_goes r u k) (λ v o steps. takes r u k v o steps))
      (λ o v t. replied_on request r (state_in o) t.stands v t.world t.up t.told)

-- ---- an exchange

-- a request that was sent is answered, and the answer taken
pub finishes : (s : Setup) (w u : State) (i : Instance) (p : Partition) (q : Sequence) (c : ControllerId) (o : Outcome) → IsIn s w → is_controller_up w c ≡ true
    → Steps w (event.Report i p q) u (Ok o) → GoesTo (Done s i) (AfterReport c o u)
finishes s w u i p q c o world up steps =
    subst (λ (x : Outcome). GoesTo (Done s i) (AfterReport c x u)) (sym its.told)
    (then_to (HasAnswer s c i p q a) (Done s i) (Handles c m) (TakesAnswer m) u (handles s c i p q m its.request u on its.there)
    (λ r v k. takes_answer s c i p q a its.segment its.instance m r v k))
  where
    its : IsRequested w u i p q o
    its = requested w u i p q o world.safe steps

    m : ℕ
    m = length w.sent

    a : Asked
    a = asked_of its.request

    on : IsOn s u c i p q its.request.number
    on = record {
      world = then_in s w u (event.Report i p q) o world tt steps;
      controller = ap (λ cs. is_up_controller (slice_get cs c.0)) its.controllers ∙ up;
      node = its.node;
      stands = its.stands;
      up = its.up;
      waits = its.waits;
    }

-- what an exchange is refused for is found before its request is sent, or is a limit
reports_to : (i : Instance) (p : Partition) (q : Sequence) (c : ControllerId) (w : State) → IsSafeWorld w → is_controller_up w c ≡ true
    → Only IsLimit (due_of w (event.Report i p q)) → GoesTo (Done w.setup i) (ReportsAndFinishes (event.Report i p q) c w)
reports_to i p q c w safe up due =
    then_to (λ o u. Steps w (event.Report i p q) u (Ok o)) (Done w.setup i) (Happens (event.Report i p q)) (AfterReport c) w
    (happens_to (λ o u. Steps w (event.Report i p q) u (Ok o)) (event.Report i p q) w due (λ u o steps. steps))
    (λ o u steps. finishes w.setup w u i p q c o (record { safe = safe; setup = refl }) up steps)

-- one that is found to be due has a controller that is up, and a request that is due
due_so : (b up : Bool) (due : Found) → cond b (cond up due (down_due due)) (Err NoSuchNode) ≡ given tt → (up ≡ true) × (due ≡ given tt)
due_so false up due e = absurd (not_given tt NoSuchNode (sym e))
due_so true true due e = (refl, e)
due_so true false due e = absurd (never_down due e)
  where
    never_down : (due : Found) → down_due due ≡ given tt → ⊥
    never_down (Ok u) e = not_given tt _ (sym e)
    never_down (Err NoSuchMessage) e = not_given tt _ (sym e)
    never_down (Err NoSuchNode) e = not_given tt _ (sym e)
    never_down (Err NodeDown) e = not_given tt _ (sym e)
    never_down (Err NothingToDo) e = not_given tt _ (sym e)
    never_down (Err (Limit which)) e = not_given tt _ (sym e)
    never_down (Err Memory) e = not_given tt _ (sym e)

none_refused : (due : Found) → due ≡ given tt → Only IsLimit due
none_refused due is e f = absurd (not_given tt e (sym is ∙ f))

pub exchange_refused : (i : Instance) (p : Partition) (q : Sequence) (c : ControllerId) (w : State) (v : Reached) (refusal : Refusal) → IsSafeWorld w
    → Exchanges i p q c w v (Err refusal) → IsLimit refusal ⊎ (exchange_due w (event.Report i p q) c ≡ Err refusal)
exchange_refused i p q c w v refusal safe h = by_due (exchange_due w (event.Report i p q) c) refl h
  where
    by_due : (f : Found) → exchange_due w (event.Report i p q) c ≡ f → IfDue f (ReportsAndFinishes (event.Report i p q) c) w v (Err refusal)
        → IsLimit refusal ⊎ (f ≡ Err refusal)
    by_due (Ok u) is h =
        let met = due_so (nat_lt c.0 w.setup.controllers) (up_in w (Controller c)) (due_of w (event.Report i p q)) is in
        inl (reports_to i p q c w safe met.0 (none_refused (due_of w (event.Report i p q)) met.1) v (Err refusal) h)
    by_due (Err e) is h = inr (ap refused (sym (same_refusal {X = Exchanged} refusal e h.1)))
