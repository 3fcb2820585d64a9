-- No macro is refused by the limit of the input.
use Rattle.std.proofs.Common.{ℕ, zero, suc, Bool, true, false, Option, Some, None, Result, Ok, Err, cond, ◌==◌, nat_lt, ◌||◌}
use Rattle.rt_base.specs.declared.gate.NodeId.TheVariants.{Controller, Server}
use Rattle.rt_base.specs.declared.numbers.ControllerId.{ControllerId}
use Rattle.rt_base.specs.declared.numbers.Instance.{Instance}
use Rattle.rt_base.specs.declared.numbers.Partition.{Partition}
use Rattle.rt_base.specs.declared.numbers.Sequence.{Sequence}
use Rattle.rt_base.specs.declared.which.Which.TheVariants.{Events}
use Rattle.rt_assign.specs.Placement.{replica_of}
use Rattle.rt_desk.proofs.DueLimits.{due_never}
use Rattle.rt_desk.proofs.Limits.{Never, Unlimited, attempted_never, choose_never, down_other, each_from_never, each_never, event_never, events_other, gives_never, is_other, limit_other, memory_other, no_message_other, no_node_other, nothing_other, passed_never, refused_so, refuses_never, then_never, tries_never}
use Rattle.rt_events.specs.declared.event.Event.{Event}
use Rattle.rt_events.specs.declared.event.Event.TheVariants as event
use Rattle.rt_events.specs.declared.outcome.Outcome.{Outcome}
use Rattle.rt_events.specs.declared.refusal.Refusal.{Refusal}
use Rattle.rt_events.specs.declared.refusal.Refusal.TheVariants.{NoSuchMessage, NoSuchNode, NodeDown, NothingToDo, Limit, Memory}
use Rattle.rt_model.specs.declared.answer.Answer.{Answer}
use Rattle.rt_model.specs.declared.piece.Piece.{Piece}
use Rattle.rt_model.specs.declared.query.Query.{Query}
use Rattle.rt_model.specs.declared.replica_state.ReplicaState.{ReplicaState}
use Rattle.rt_macros.specs.Doing.{Act, EachFrom, Gives, Happens, Reached, Then}
use Rattle.rt_macros.specs.Exchanging.{AfterDelivery, AfterReply, AfterReport, AfterSending, AfterStep, EndsJob, ExchangeTold, Exchanges, Handles, IfDue, MakesStep, TakesAnswer, down_due, exchange_due, exchange_text}
use Rattle.rt_macros.specs.Filling.{FillTold, Fills, FillsOne, TellsLength, numbered_text}
use Rattle.rt_macros.specs.Outcomes.{answer_in, asked_in, delivered_in, ended_in, is_served, sent_in, state_in}
use Rattle.rt_macros.specs.Querying.{AfterAsking, AnswersNow, AsksAll, AsksAndAnswers, AsksOne, AsksPartition, AsksPiece, AsksReplicas, ByNumber, GivesAnswer, Queries, QueryTold, RoutesAll, RoutesOne, TellsServed}
use Rattle.rt_macros.specs.Settling.{AfterRequest, AfterRound, BuildAndExchange, BuildTurn, ConsumeTurn, DownloadTurn, Downloads, ExchangeTurn, ReplicaTurn, ReplicasOfAll, ReplicasTurn, Requests, Round, SegmentAt, ServerTurn, ServersTurn, SettleTold, Settles, SettlesIn, TransitTurn, Transits, TransitsAndDownloads, WithLeader, may_consume}
use Rattle.rt_macros.specs.declared.exchanging.Exchanged.{Exchanged}
use Rattle.rt_macros.specs.declared.outcomes.Delivered.{Delivered}
use Rattle.rt_macros.specs.declared.outcomes.Delivered.TheVariants as delivered
use Rattle.rt_macros.specs.declared.outcomes.Replied.{Replied}
use Rattle.rt_macros.specs.declared.settling.TheConstants.{MOST_ROUNDS}
use Rattle.rt_report.specs.BrokerTexts.{answer_line}
use Rattle.rt_report.specs.MacroTexts.{filled_text, settled_text}
use Rattle.rt_world.specs.Reading.{due_transits_of, events_left_in, held_in, leader_in, length_of, pieces_of, up_in, wanted_in}
use Rattle.rt_state.specs.Room.{Found}
use Rattle.rt_world.specs.Step.{due_of}
use Rattle.rt_state.specs.declared.state.State.{State}

-- ---- fill

pub fill_never : (p : Partition) (count : ℕ) (w : State) → Never (FillTold p count w)
fill_never p count w =
    then_never (Fills p count) (λ length. Gives (filled_text p length)) w
    (choose_never (nat_lt p.0 w.setup.partitions) _ _
    (choose_never (count == 0) _ _ (refuses_never NothingToDo w nothing_other)
    (then_never (EachFrom (FillsOne p) 0 count tt) (TellsLength p) w
    (each_from_never (FillsOne p) 0 count tt w (λ n d u. passed_never (event.Produce p (numbered_text (length_of u p))) u))
    (λ d u. gives_never (length_of u p) u)))
    (refuses_never NoSuchNode w no_node_other))
    (λ length u. gives_never (filled_text p length) u)

-- ---- query

asks_one_never : (number : ℕ) (piece : Piece) (k : ℕ) (served : Bool) (w : State) → Never (AsksOne number piece k served w)
asks_one_never number piece k true w = gives_never true w
asks_one_never number piece k false w =
    let e = event.Piece number piece.partition piece.sequence (replica_of piece.partition w.setup.table.replication w.setup.servers k) in
    then_never (Happens e) TellsServed w (event_never e w) (λ outcome u. gives_never (is_served outcome) u)

asks_piece_never : (number : ℕ) (piece : Piece) (done : Unit {0}) (w : State) → Never (AsksPiece number piece done w)
asks_piece_never number piece done w =
    then_never (AsksReplicas number piece) (λ served. Gives tt) w
    (each_from_never (AsksOne number piece) 0 w.setup.table.replication false w (λ k served u. asks_one_never number piece k served u))
    (λ served u. gives_never tt u)

asks_all_never : (number : ℕ) (w : State) → Never (AsksAll number w)
asks_all_never number w =
    each_from_never (AsksPartition number) 0 w.setup.partitions tt w
    (λ at done u. each_never (AsksPiece number) (pieces_of u number (record { 0 = at })) done u (λ piece d x. asks_piece_never number piece d x))

gives_answer_never : (o : Option Answer) (w : State) → Never (GivesAnswer o w)
gives_answer_never (Some answer) w = gives_never answer w
gives_answer_never None w = refuses_never NothingToDo w nothing_other

answers_never : (number : ℕ) (w : State) → Never (AnswersNow number w)
answers_never number w =
    then_never (Happens (event.Answer number)) (λ outcome. GivesAnswer (answer_in outcome)) w (event_never (event.Answer number) w)
    (λ outcome u. gives_answer_never (answer_in outcome) u)

after_asking_never : (number : ℕ) (w : State) → Never (AfterAsking number w)
after_asking_never number w =
    then_never (RoutesAll number) (λ done. AsksAndAnswers number) w
    (each_from_never (RoutesOne number) 0 w.setup.partitions tt w (λ at done u. passed_never (event.Route number (record { 0 = at })) u))
    (λ done u. then_never (AsksAll number) (λ d. AnswersNow number) u (asks_all_never number u) (λ d x. answers_never number x))

by_number_never : (o : Option ℕ) (w : State) → Never (ByNumber o w)
by_number_never (Some number) w = after_asking_never number w
by_number_never None w = refuses_never NothingToDo w nothing_other

pub query_never : (query : Query) (w : State) → Never (QueryTold query w)
query_never query w =
    then_never (Queries query) (λ answer. Gives (answer_line answer)) w
    (then_never (Happens (event.Ask query)) (λ outcome. ByNumber (asked_in outcome)) w (event_never (event.Ask query) w)
    (λ outcome u. by_number_never (asked_in outcome) u))
    (λ answer u. gives_never (answer_line answer) u)

-- ---- exchange

after_step_never : (further : Act Replied) (o : Option Replied) (w : State) → ((u : State) → Never (further u)) → Never (AfterStep further o w)
after_step_never further (Some replied) w f = gives_never replied w
after_step_never further None w f = f w

ends_job_never : (c : ControllerId) (job left : ℕ) (w : State) → Never (EndsJob c job left w)
ends_job_never c job zero w = refuses_never (Limit Events) w events_other
ends_job_never c job (suc left) w =
    then_never (MakesStep c job) (AfterStep (EndsJob c job left)) w
    (then_never (Happens (event.Job c job)) (λ outcome. Gives (ended_in outcome)) w (event_never (event.Job c job) w)
    (λ outcome u. gives_never (ended_in outcome) u))
    (λ ended u. after_step_never (EndsJob c job left) ended u (λ x. ends_job_never c job left x))

after_delivery_never : (c : ControllerId) (d : Delivered) (w : State) → Never (AfterDelivery c d w)
after_delivery_never c (delivered.Replied replied) w = gives_never replied w
after_delivery_never c (delivered.Started job) w = ends_job_never c job (events_left_in w) w
after_delivery_never c delivered.Neither w = refuses_never NothingToDo w nothing_other

after_reply_never : (request : ℕ) (replied : Replied) (o : Option ReplicaState) (w : State) → Never (AfterReply request replied o w)
after_reply_never request replied (Some state) w = gives_never _ w
after_reply_never request replied None w = refuses_never NothingToDo w nothing_other

after_sending_never : (c : ControllerId) (o : Option ℕ) (w : State) → Never (AfterSending c o w)
after_sending_never c (Some request) w =
    then_never (Handles c request) (TakesAnswer request) w
    (then_never (Happens (event.Deliver request c)) (λ outcome. AfterDelivery c (delivered_in outcome)) w (event_never (event.Deliver request c) w)
    (λ outcome u. after_delivery_never c (delivered_in outcome) u))
    (λ replied u.
    then_never (Happens (event.Reply replied.message)) (λ outcome. AfterReply request replied (state_in outcome)) u (event_never (event.Reply replied.message) u)
    (λ outcome x. after_reply_never request replied (state_in outcome) x))
after_sending_never c None w = refuses_never NothingToDo w nothing_other

after_report_never : (c : ControllerId) (outcome : Outcome) (w : State) → Never (AfterReport c outcome w)
after_report_never c outcome w = after_sending_never c (sent_in outcome) w

-- a controller that is down hides each limit
down_never : (found : Found) → Unlimited (down_due found)
down_never (Ok u) e = refused_so NodeDown down_other e
down_never (Err NoSuchMessage) e = refused_so NodeDown down_other e
down_never (Err NoSuchNode) e = refused_so NoSuchNode no_node_other e
down_never (Err NodeDown) e = refused_so NodeDown down_other e
down_never (Err NothingToDo) e = refused_so NodeDown down_other e
down_never (Err (Limit which)) e = refused_so NodeDown down_other e
down_never (Err Memory) e = refused_so NodeDown down_other e

exchange_by : (b up : Bool) (due : Found) → Unlimited due → Unlimited (cond b (cond up due (down_due due)) (Err NoSuchNode))
exchange_by false up due f e = refused_so NoSuchNode no_node_other e
exchange_by true true due f e = f e
exchange_by true false due f e = down_never due e

exchange_due_never : (report : Event) (c : ControllerId) (w : State) → Unlimited (exchange_due w report c)
exchange_due_never report c w = exchange_by (nat_lt c.0 w.setup.controllers) (up_in w (Controller c)) (due_of w report) (due_never w report)

if_due_never : (found : Found) (act : Act Exchanged) (w : State) → Unlimited found → Never (act w) → Never (IfDue found act w)
if_due_never (Ok u) act w other f = f
if_due_never (Err refusal) act w other f = refuses_never refusal w (is_other refusal other)

pub exchange_never : (i : Instance) (p : Partition) (q : Sequence) (c : ControllerId) (w : State) → Never (ExchangeTold i p q c w)
exchange_never i p q c w =
    then_never (Exchanges i p q c) (λ x. Gives (exchange_text x)) w
    (if_due_never (exchange_due w (event.Report i p q) c) (Then (Happens (event.Report i p q)) (AfterReport c)) w (exchange_due_never (event.Report i p q) c w)
    (then_never (Happens (event.Report i p q)) (AfterReport c) w (event_never (event.Report i p q) w) (λ outcome u. after_report_never c outcome u)))
    (λ x u. gives_never (exchange_text x) u)

-- ---- settle

server_never : (at : ℕ) (busy : Bool) (w : State) → Never (ServerTurn at busy w)
server_never at busy w =
    let i : Instance = record { 0 = at } in
    choose_never (up_in w (Server i)) _ _
    (then_never _ (λ done. TransitsAndDownloads i busy) w (passed_never (event.See i) w)
    (λ done u. then_never (Transits i busy) (Downloads i) u
    (each_never (TransitTurn i) (due_transits_of u i) busy u (λ segment b x. attempted_never (event.Transit i segment.0 segment.1) b x))
    (λ b x. each_never (DownloadTurn i) (wanted_in x i) b x (λ segment d y. attempted_never (event.Download i segment.0 segment.1) d y))))
    (gives_never busy w)

after_request_never : (i : Instance) (segment : SegmentAt) (c : ControllerId) (busy : Bool) (w : State) → Never (Requests i segment c busy w)
after_request_never i segment c busy w = tries_never (Happens e) (AfterRequest c busy) w by_told
  where
    e : Event
    e = event.Report i segment.0 segment.1

    by_told : (told : Result Outcome Refusal) (u : Reached) → Happens e w u told → Never (AfterRequest c busy told u.world)
    by_told (Ok outcome) u came =
        then_never (AfterReport c outcome) (λ exchanged. Gives true) u.world (after_report_never c outcome u.world) (λ x z. gives_never true z)
    by_told (Err NothingToDo) u came = gives_never busy u.world
    by_told (Err NoSuchMessage) u came = refuses_never NoSuchMessage u.world no_message_other
    by_told (Err NoSuchNode) u came = refuses_never NoSuchNode u.world no_node_other
    by_told (Err NodeDown) u came = refuses_never NodeDown u.world down_other
    by_told (Err (Limit which)) u came = refuses_never (Limit which) u.world (limit_other (Limit which) (Happens e) w u (event_never e w) came)
    by_told (Err Memory) u came = refuses_never Memory u.world memory_other

with_leader_never : (i : Instance) (segment : SegmentAt) (o : Option ControllerId) (busy : Bool) (w : State) → Never (WithLeader i segment o busy w)
with_leader_never i segment (Some c) busy w = after_request_never i segment c busy w
with_leader_never i segment None busy w = gives_never busy w

replica_never : (paused : Bool) (i : Instance) (segment : SegmentAt) (busy : Bool) (w : State) → Never (ReplicaTurn paused i segment busy w)
replica_never paused i segment busy w =
    then_never (ConsumeTurn paused i segment busy) (BuildAndExchange i segment) w
    (choose_never (may_consume paused w i segment) _ _
    (attempted_never _ busy w)
    (gives_never busy w))
    (λ b u. then_never (BuildTurn i segment b) (ExchangeTurn i segment) u (attempted_never (event.Build i segment.0 segment.1) b u)
    (λ d x. with_leader_never i segment (leader_in x) d x))

replicas_never : (paused : Bool) (at : ℕ) (busy : Bool) (w : State) → Never (ReplicasTurn paused at busy w)
replicas_never paused at busy w =
    let i : Instance = record { 0 = at } in
    choose_never (up_in w (Server i)) _ _ (each_never (ReplicaTurn paused i) (held_in w i) busy w (λ segment b u. replica_never paused i segment b u)) (gives_never busy w)

round_never : (paused : Bool) (w : State) → Never (Round paused w)
round_never paused w =
    then_never (ServersTurn false) (ReplicasOfAll paused) w (each_from_never ServerTurn 0 w.setup.servers false w (λ at b u. server_never at b u))
    (λ b u. each_from_never (ReplicasTurn paused) 0 u.setup.servers b u (λ at d x. replicas_never paused at d x))

after_round_never : (further : Act Bool) (busy : Bool) (w : State) → ((u : State) → Never (further u)) → Never (AfterRound further busy w)
after_round_never further true w f = f w
after_round_never further false w f = gives_never true w

settles_in_never : (paused : Bool) (rounds : ℕ) (w : State) → Never (SettlesIn paused rounds w)
settles_in_never paused zero w = gives_never false w
settles_in_never paused (suc rounds) w =
    then_never (Round paused) (AfterRound (SettlesIn paused rounds)) w (round_never paused w) (λ busy u. after_round_never (SettlesIn paused rounds) busy u (λ x. settles_in_never paused rounds x))

pub settles_never : (paused : Bool) (rounds : ℕ) (w : State) → Never (Settles paused rounds w)
settles_never paused rounds w =
    choose_never ((rounds == 0) || nat_lt MOST_ROUNDS rounds) _ _ (refuses_never NothingToDo w nothing_other) (settles_in_never paused rounds w)

pub settle_never : (paused : Bool) (rounds : ℕ) (w : State) → Never (SettleTold paused rounds w)
settle_never paused rounds w = then_never (Settles paused rounds) (λ quiet. Gives (settled_text quiet)) w (settles_never paused rounds w) (λ quiet u. gives_never (settled_text quiet) u)
