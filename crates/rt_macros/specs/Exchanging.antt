-- `exchange sK P/Q cJ`: a replica's request goes to a controller, which answers it or makes the steps of a job that it
-- starts, and the answer goes back.
use Rattle.std.specs.Prelude.{ℕ, zero, suc, List, Option, None, Some, Ok, Err, nat_lt, if◌then◌else◌}
use Rattle.rt_base.specs.declared.gate.NodeId.TheVariants.{Controller}
use Rattle.rt_base.specs.declared.numbers.ControllerId.{ControllerId}
use Rattle.rt_base.specs.declared.numbers.Instance.{Instance}
use Rattle.rt_base.specs.declared.numbers.Partition.{Partition}
use Rattle.rt_base.specs.declared.numbers.Sequence.{Sequence}
use Rattle.rt_base.specs.declared.which.Which.TheVariants.{Events}
use Rattle.rt_events.specs.declared.event.Event.{Event}
use Rattle.rt_events.specs.declared.event.Event.TheVariants.{Report, Deliver, Job, Reply}
use Rattle.rt_events.specs.declared.outcome.Outcome.{Outcome}
use Rattle.rt_events.specs.declared.refusal.Refusal.TheVariants.{NoSuchMessage, NoSuchNode, NodeDown, NothingToDo, Limit, Memory}
use Rattle.rt_model.specs.declared.replica_state.ReplicaState.{ReplicaState}
use Rattle.rt_macros.specs.Doing.{Act, Gives, Happens, Refuses, Then}
use Rattle.rt_macros.specs.Outcomes.{delivered_in, ended_in, sent_in, state_in}
use Rattle.rt_macros.specs.declared.exchanging.Exchanged.{Exchanged}
use Rattle.rt_macros.specs.declared.outcomes.Delivered.{Delivered}
use Rattle.rt_macros.specs.declared.outcomes.Delivered.TheVariants as delivered
use Rattle.rt_macros.specs.declared.outcomes.Replied.{Replied}
use Rattle.rt_report.specs.MacroTexts.{exchanged_text}
use Rattle.rt_world.specs.Reading.{events_left_in, up_in}
use Rattle.rt_state.specs.Room.{Found}
use Rattle.rt_world.specs.Step.{due_of}
use Rattle.rt_state.specs.declared.state.State.{State}

-- a controller that is down comes behind a node that isn't there, and before all else
abbrev pub down_due : Found → Found
down_due (Err NoSuchNode) = Err NoSuchNode
down_due (Err NodeDown) = Err NodeDown
down_due (Err NothingToDo) = Err NodeDown
down_due (Err NoSuchMessage) = Err NodeDown
down_due (Err (Limit which)) = Err NodeDown
down_due (Err Memory) = Err NodeDown
down_due (Ok u) = Err NodeDown

abbrev pub exchange_due : State → Event → ControllerId → Found
exchange_due w report controller =
    if nat_lt controller.0 w.setup.controllers
    then (if up_in w (Controller controller) then due_of w report else down_due (due_of w report))
    else Err NoSuchNode

-- the steps of a job until it has ended, as many as there are events left
abbrev pub AfterStep : Act Replied → Option Replied → Act Replied
AfterStep further (Some replied) w = Gives replied w
AfterStep further None w = further w

-- a step tells the job's answer, where it ended
abbrev pub MakesStep : ControllerId → ℕ → Act (Option Replied)
MakesStep controller job w = Then (Happens (Job controller job)) (λ outcome. Gives (ended_in outcome)) w

abbrev pub EndsJob : ControllerId → ℕ → ℕ → Act Replied
EndsJob controller job zero w = Refuses (Limit Events) w
EndsJob controller job (suc left) w =
    Then (MakesStep controller job) (AfterStep (EndsJob controller job left)) w

abbrev pub MakesJob : ControllerId → ℕ → Act Replied
MakesJob controller job w = EndsJob controller job (events_left_in w) w

abbrev pub AfterDelivery : ControllerId → Delivered → Act Replied
AfterDelivery controller (delivered.Replied replied) w = Gives replied w
AfterDelivery controller (delivered.Started job) w = MakesJob controller job w
AfterDelivery controller delivered.Neither w = Refuses NothingToDo w

-- what a controller answers to a request
abbrev pub Handles : ControllerId → ℕ → Act Replied
Handles controller request w = Then (Happens (Deliver request controller)) (λ outcome. AfterDelivery controller (delivered_in outcome)) w

abbrev pub AfterReply : ℕ → Replied → Option ReplicaState → Act Exchanged
AfterReply request replied (Some state) w =
    Gives (record { request = request; reply = replied.message; status = replied.status; state = state }) w
AfterReply request replied None w = Refuses NothingToDo w

-- the answer goes back
abbrev pub TakesAnswer : ℕ → Replied → Act Exchanged
TakesAnswer request replied w =
    Then (Happens (Reply replied.message)) (λ outcome. AfterReply request replied (state_in outcome)) w

abbrev pub SendsAndTakes : ControllerId → ℕ → Act Exchanged
SendsAndTakes controller request w = Then (Handles controller request) (TakesAnswer request) w

abbrev pub AfterSending : ControllerId → Option ℕ → Act Exchanged
AfterSending controller (Some request) w = SendsAndTakes controller request w
AfterSending controller None w = Refuses NothingToDo w

abbrev pub AfterReport : ControllerId → Outcome → Act Exchanged
AfterReport controller outcome w = AfterSending controller (sent_in outcome) w

abbrev pub IfDue : Found → Act Exchanged → Act Exchanged
IfDue (Ok u) act w = act w
IfDue (Err refusal) act w = Refuses refusal w

abbrev pub ReportsAndFinishes : Event → ControllerId → Act Exchanged
ReportsAndFinishes report controller w = Then (Happens report) (AfterReport controller) w

abbrev pub ExchangesBy : Event → ControllerId → Act Exchanged
ExchangesBy report controller w =
    IfDue (exchange_due w report controller) (ReportsAndFinishes report controller) w

abbrev pub Exchanges : Instance → Partition → Sequence → ControllerId → Act Exchanged
Exchanges instance partition sequence controller w = ExchangesBy (Report instance partition sequence) controller w

abbrev pub exchange_text : Exchanged → List ℕ
exchange_text x = exchanged_text x.request x.reply x.status x.state

-- the line that is reported
abbrev pub ExchangeTold : Instance → Partition → Sequence → ControllerId → Act (List ℕ)
ExchangeTold instance partition sequence controller w =
    Then (Exchanges instance partition sequence controller) (λ x. Gives (exchange_text x)) w
