-- `exchange` has one outcome.
use Rattle.std.proofs.Common.{◌≡◌, ℕ, zero, suc, Option, Some, None, Ok, Err, ◌∙◌, nat_lt, refl, ap, subst, if◌then◌else◌}
use Rattle.rt_base.specs.declared.gate.NodeId.TheVariants.{Controller}
use Rattle.rt_base.specs.declared.numbers.ControllerId.{ControllerId}
use Rattle.rt_base.specs.declared.numbers.Instance.{Instance}
use Rattle.rt_base.specs.declared.numbers.Partition.{Partition}
use Rattle.rt_base.specs.declared.numbers.Sequence.{Sequence}
use Rattle.rt_base.specs.declared.which.Which.TheVariants.{Events}
use Rattle.rt_events.specs.declared.event.Event.{Event}
use Rattle.rt_events.specs.declared.event.Event.TheVariants as event
use Rattle.rt_events.specs.declared.refusal.Refusal.TheVariants.{NoSuchNode, NothingToDo, Limit}
use Rattle.rt_model.specs.declared.replica_state.ReplicaState.{ReplicaState}
use Rattle.rt_model.specs.declared.setup.Setup.{Setup}
use Rattle.rt_macros.specs.Doing.{Act, Gives, Happens}
use Rattle.rt_macros.specs.Exchanging.{AfterDelivery, AfterReply, AfterReport, AfterSending, AfterStep, EndsJob, ExchangeTold, Exchanges, Handles, IfDue, MakesStep, ReportsAndFinishes, TakesAnswer, down_due, exchange_due, exchange_text}
use Rattle.rt_macros.specs.Outcomes.{delivered_in, ended_in, sent_in, state_in}
use Rattle.rt_macros.specs.declared.exchanging.Exchanged.{Exchanged}
use Rattle.rt_macros.specs.declared.outcomes.Delivered.{Delivered}
use Rattle.rt_macros.specs.declared.outcomes.Delivered.TheVariants as delivered
use Rattle.rt_macros.specs.declared.outcomes.Replied.{Replied}
use Rattle.rt_world.specs.Reading.{events_left_in, up_in}
use Rattle.rt_state.specs.Room.{Found}
use Rattle.rt_world.specs.Step.{due_of}
use Rattle.rt_state.specs.declared.state.State.{State}
use Rattle.rt_exact.specs.Acts.{AreOne, ReachedAlike}
use Rattle.rt_exact.specs.Alike.{AreAlike}
use Rattle.rt_exact.proofs.Acts.{gives_one, happens_one, refuses_one, then_one}
use Rattle.rt_exact.proofs.Dues.{due_alike}
use Rattle.rt_exact.proofs.Macros.{reads, setups}

after_step_one : (further : Act Replied) (o : Option Replied) (w v : State) → AreAlike w v
    → ((u t : State) → AreAlike u t → AreOne (further u) (further t)) → AreOne (AfterStep further o w) (AfterStep further o v)
after_step_one further (Some replied) w v k f = gives_one replied replied w v k refl
after_step_one further None w v k f = f w v k

ends_job_one : (c : ControllerId) (job left : ℕ) (w v : State) → AreAlike w v → AreOne (EndsJob c job left w) (EndsJob c job left v)
ends_job_one c job zero w v k = refuses_one (Limit Events) w v k
ends_job_one c job (suc left) w v k =
    then_one (MakesStep c job) (MakesStep c job) (AfterStep (EndsJob c job left)) (AfterStep (EndsJob c job left)) w v
    (then_one (Happens (event.Job c job)) (Happens (event.Job c job)) (λ outcome. Gives (ended_in outcome)) (λ outcome. Gives (ended_in outcome)) w v
    (happens_one (event.Job c job) w v k tt) (λ outcome u t l. gives_one (ended_in outcome) (ended_in outcome) u t l refl))
    (λ ended u t l. after_step_one (EndsJob c job left) ended u t l (λ a b m. ends_job_one c job left a b m))

makes_job_one : (c : ControllerId) (job : ℕ) (w v : State) → AreAlike w v → AreOne (EndsJob c job (events_left_in w) w) (EndsJob c job (events_left_in v) v)
makes_job_one c job w v k x y r s h g =
    ends_job_one c job (events_left_in v) w v k x y r s (subst (λ n. EndsJob c job n w x r) (reads w v k).events_left h) g

after_delivery_one : (c : ControllerId) (d : Delivered) (w v : State) → AreAlike w v → AreOne (AfterDelivery c d w) (AfterDelivery c d v)
after_delivery_one c (delivered.Replied replied) w v k = gives_one replied replied w v k refl
after_delivery_one c (delivered.Started job) w v k = makes_job_one c job w v k
after_delivery_one c delivered.Neither w v k = refuses_one NothingToDo w v k

after_reply_one : (request : ℕ) (replied : Replied) (o : Option ReplicaState) (w v : State) → AreAlike w v → AreOne (AfterReply request replied o w) (AfterReply request replied o v)
after_reply_one request replied (Some state) w v k =
    let told : Exchanged = record { request = request; reply = replied.message; status = replied.status; state = state } in
    gives_one told told w v k refl
after_reply_one request replied None w v k = refuses_one NothingToDo w v k

handles_one : (c : ControllerId) (request : ℕ) (w v : State) → AreAlike w v → AreOne (Handles c request w) (Handles c request v)
handles_one c request w v k =
    then_one (Happens (event.Deliver request c)) (Happens (event.Deliver request c)) (λ outcome. AfterDelivery c (delivered_in outcome))
    (λ outcome. AfterDelivery c (delivered_in outcome)) w v (happens_one (event.Deliver request c) w v k tt)
    (λ outcome u t l. after_delivery_one c (delivered_in outcome) u t l)

takes_one : (request : ℕ) (replied : Replied) (w v : State) → AreAlike w v → AreOne (TakesAnswer request replied w) (TakesAnswer request replied v)
takes_one request replied w v k =
    then_one (Happens (event.Reply replied.message)) (Happens (event.Reply replied.message)) (λ outcome. AfterReply request replied (state_in outcome))
    (λ outcome. AfterReply request replied (state_in outcome)) w v (happens_one (event.Reply replied.message) w v k tt)
    (λ outcome u t l. after_reply_one request replied (state_in outcome) u t l)

pub after_sending_one : (c : ControllerId) (o : Option ℕ) (w v : State) → AreAlike w v → AreOne (AfterSending c o w) (AfterSending c o v)
after_sending_one c (Some request) w v k =
    then_one (Handles c request) (Handles c request) (TakesAnswer request) (TakesAnswer request) w v (handles_one c request w v k)
    (λ replied u t l. takes_one request replied u t l)
after_sending_one c None w v k = refuses_one NothingToDo w v k

exchange_due_one : (w v : State) (report : Event) (c : ControllerId) → AreAlike w v → exchange_due w report c ≡ exchange_due v report c
exchange_due_one w v report c k =
    let due = due_alike w v report k.same in
    let up = (reads w v k).up (Controller c) in
    ap (λ (s : Setup). if nat_lt c.0 s.controllers then (if up_in w (Controller c) then due_of w report else down_due (due_of w report)) else Err NoSuchNode) (setups w v k)
    ∙ ap (λ b. if nat_lt c.0 v.setup.controllers then (if b then due_of w report else down_due (due_of w report)) else Err NoSuchNode) up
    ∙ ap (λ d. if nat_lt c.0 v.setup.controllers then (if up_in v (Controller c) then d else down_due d) else Err NoSuchNode) due

if_due_one : (found other : Found) (act : Act Exchanged) (w v : State) → AreAlike w v → found ≡ other → AreOne (act w) (act v) → AreOne (IfDue found act w) (IfDue other act v)
if_due_one found other act w v k same f x y r s h g = by_found other (subst (λ d. IfDue d act w x r) same h) g
  where
    by_found : (d : Found) → IfDue d act w x r → IfDue d act v y s → (r ≡ s) × ReachedAlike x y
    by_found (Ok u) p q = f x y r s p q
    by_found (Err refusal) p q = refuses_one refusal w v k x y r s p q

pub exchange_one : (i : Instance) (p : Partition) (q : Sequence) (c : ControllerId) (w v : State) → AreAlike w v → AreOne (ExchangeTold i p q c w) (ExchangeTold i p q c v)
exchange_one i p q c w v k =
    let report = event.Report i p q in
    then_one (Exchanges i p q c) (Exchanges i p q c) (λ e. Gives (exchange_text e)) (λ e. Gives (exchange_text e)) w v
    (if_due_one (exchange_due w report c) (exchange_due v report c) (ReportsAndFinishes report c) w v k (exchange_due_one w v report c k)
    (then_one (Happens report) (Happens report) (AfterReport c) (AfterReport c) w v (happens_one report w v k tt)
    (λ outcome u t l. after_sending_one c (sent_in outcome) u t l)))
    (λ e u t l. gives_one (exchange_text e) (exchange_text e) u t l refl)
