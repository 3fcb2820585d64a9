-- Something comes of each macro in a world that a run of a cluster comes to.
use Rattle.std.proofs.Common.{ℕ, zero, suc, Bool, true, false, Option, Some, None, Result, Ok, Err, ◌==◌, nat_lt, ◌||◌}
use Rattle.rt_base.specs.declared.gate.NodeId.TheVariants.{Server}
use Rattle.rt_base.specs.declared.numbers.ControllerId.{ControllerId}
use Rattle.rt_base.specs.declared.numbers.Instance.{Instance}
use Rattle.rt_base.specs.declared.numbers.Partition.{Partition}
use Rattle.rt_base.specs.declared.numbers.Sequence.{Sequence}
use Rattle.rt_base.specs.declared.which.Which.TheVariants.{Events}
use Rattle.rt_assign.specs.Placement.{replica_of}
use Rattle.rt_play.proofs.Coming.{Comes, attempted_comes, choose_comes, each_comes, each_from_comes, event_comes, gives_comes, passed_comes, refuses_comes, then_comes, tries_comes}
use Rattle.rt_events.specs.declared.event.Event.TheVariants as event
use Rattle.rt_events.specs.declared.outcome.Outcome.{Outcome}
use Rattle.rt_events.specs.declared.refusal.Refusal.{Refusal}
use Rattle.rt_events.specs.declared.refusal.Refusal.TheVariants.{NoSuchMessage, NoSuchNode, NodeDown, NothingToDo, Limit, Memory}
use Rattle.rt_model.specs.Checked.{IsQuery}
use Rattle.rt_model.specs.declared.answer.Answer.{Answer}
use Rattle.rt_model.specs.declared.piece.Piece.{Piece}
use Rattle.rt_model.specs.declared.query.Query.{Query}
use Rattle.rt_model.specs.declared.replica_state.ReplicaState.{ReplicaState}
use Rattle.rt_macros.specs.Doing.{Act, EachFrom, Gives, Happens, Then}
use Rattle.rt_macros.specs.Exchanging.{AfterDelivery, AfterReply, AfterReport, AfterSending, AfterStep, EndsJob, ExchangeTold, Exchanges, Handles, IfDue, MakesStep, TakesAnswer, exchange_due, exchange_text}
use Rattle.rt_macros.specs.Filling.{FillTold, Fills, FillsOne, TellsLength, numbered_text}
use Rattle.rt_macros.specs.Outcomes.{answer_in, asked_in, delivered_in, ended_in, is_served, sent_in, state_in}
use Rattle.rt_macros.specs.Querying.{AfterAsking, AnswersNow, AsksAll, AsksAndAnswers, AsksOne, AsksPartition, AsksPiece, AsksReplicas, ByNumber, GivesAnswer, Queries, QueryTold, RoutesAll, RoutesOne, TellsServed}
use Rattle.rt_macros.specs.Settling.{AfterRequest, AfterRound, BuildAndExchange, BuildTurn, ConsumeTurn, DownloadTurn, Downloads, ExchangeTurn, ReplicaTurn, ReplicasOfAll, ReplicasTurn, Requests, Round, SegmentAt, ServerTurn, ServersTurn, SettleTold, Settles, SettlesIn, TransitTurn, Transits, TransitsAndDownloads, WithLeader, may_consume}
use Rattle.rt_macros.specs.declared.exchanging.Exchanged.{Exchanged}
use Rattle.rt_macros.specs.declared.outcomes.Delivered.{Delivered}
use Rattle.rt_macros.specs.declared.outcomes.Delivered.TheVariants as delivered
use Rattle.rt_macros.specs.declared.outcomes.Replied.{Replied}
use Rattle.rt_macros.specs.declared.settling.TheConstants.{MOST_ROUNDS}
use Rattle.rt_report.specs.BrokerTexts.{answer_line}
use Rattle.rt_report.specs.MacroTexts.{filled_text, settled_text}
use Rattle.rt_world.specs.Reading.{due_transits_of, events_left_in, held_in, leader_in, length_of, pieces_of, up_in, wanted_in}
use Rattle.rt_state.specs.Room.{Found}
use Rattle.rt_state.specs.declared.state.State.{State}

-- ---- fill

pub fill_comes : (p : Partition) (count : ℕ) (w : State) → Comes w (FillTold p count w)
fill_comes p count w =
    then_comes (Fills p count) (λ length. Gives (filled_text p length)) w
    (choose_comes (nat_lt p.0 w.setup.partitions) _ _ w
    (choose_comes (count == 0) _ _ w (refuses_comes NothingToDo w)
    (then_comes (EachFrom (FillsOne p) 0 count tt) (TellsLength p) w
    (each_from_comes (FillsOne p) 0 count tt w (λ n d u. passed_comes (event.Produce p (numbered_text (length_of u p))) u tt))
    (λ d u. gives_comes (length_of u p) u)))
    (refuses_comes NoSuchNode w))
    (λ length u. gives_comes (filled_text p length) u)

-- ---- query

asks_one_comes : (number : ℕ) (piece : Piece) (n : ℕ) (served : Bool) (w : State) → Comes w (AsksOne number piece n served w)
asks_one_comes number piece n true w = gives_comes true w
asks_one_comes number piece n false w =
    let e = event.Piece number piece.partition piece.sequence (replica_of piece.partition w.setup.table.replication w.setup.servers n) in
    then_comes (Happens e) TellsServed w (event_comes e w tt) (λ outcome u. gives_comes (is_served outcome) u)

asks_piece_comes : (number : ℕ) (piece : Piece) (done : Unit {0}) (w : State) → Comes w (AsksPiece number piece done w)
asks_piece_comes number piece done w =
    then_comes (AsksReplicas number piece) (λ served. Gives tt) w
    (each_from_comes (AsksOne number piece) 0 w.setup.table.replication false w (λ n served u. asks_one_comes number piece n served u))
    (λ served u. gives_comes tt u)

pub asks_all_comes : (number : ℕ) (w : State) → Comes w (AsksAll number w)
asks_all_comes number w =
    each_from_comes (AsksPartition number) 0 w.setup.partitions tt w
    (λ at done u. each_comes (AsksPiece number) (pieces_of u number (record { 0 = at })) done u (λ piece d x. asks_piece_comes number piece d x))

gives_answer_comes : (o : Option Answer) (w : State) → Comes w (GivesAnswer o w)
gives_answer_comes (Some answer) w = gives_comes answer w
gives_answer_comes None w = refuses_comes NothingToDo w

answers_comes : (number : ℕ) (w : State) → Comes w (AnswersNow number w)
answers_comes number w =
    then_comes (Happens (event.Answer number)) (λ outcome. GivesAnswer (answer_in outcome)) w (event_comes (event.Answer number) w tt)
    (λ outcome u. gives_answer_comes (answer_in outcome) u)

after_asking_comes : (number : ℕ) (w : State) → Comes w (AfterAsking number w)
after_asking_comes number w =
    then_comes (RoutesAll number) (λ done. AsksAndAnswers number) w
    (each_from_comes (RoutesOne number) 0 w.setup.partitions tt w (λ at done u. passed_comes (event.Route number (record { 0 = at })) u tt))
    (λ done u. then_comes (AsksAll number) (λ d. AnswersNow number) u (asks_all_comes number u) (λ d x. answers_comes number x))

by_number_comes : (o : Option ℕ) (w : State) → Comes w (ByNumber o w)
by_number_comes (Some number) w = after_asking_comes number w
by_number_comes None w = refuses_comes NothingToDo w

pub query_comes : (query : Query) (w : State) → IsQuery w.setup.schema query → Comes w (QueryTold query w)
query_comes query w fits =
    then_comes (Queries query) (λ answer. Gives (answer_line answer)) w
    (then_comes (Happens (event.Ask query)) (λ outcome. ByNumber (asked_in outcome)) w (event_comes (event.Ask query) w fits)
    (λ outcome u. by_number_comes (asked_in outcome) u))
    (λ answer u. gives_comes (answer_line answer) u)

-- ---- exchange

after_step_comes : (further : Act Replied) (o : Option Replied) (w : State) → ((u : State) → Comes u (further u)) → Comes w (AfterStep further o w)
after_step_comes further (Some replied) w f = gives_comes replied w
after_step_comes further None w f = f w

ends_job_comes : (c : ControllerId) (job left : ℕ) (w : State) → Comes w (EndsJob c job left w)
ends_job_comes c job zero w = refuses_comes (Limit Events) w
ends_job_comes c job (suc left) w =
    then_comes (MakesStep c job) (AfterStep (EndsJob c job left)) w
    (then_comes (Happens (event.Job c job)) (λ outcome. Gives (ended_in outcome)) w (event_comes (event.Job c job) w tt)
    (λ outcome u. gives_comes (ended_in outcome) u))
    (λ ended u. after_step_comes (EndsJob c job left) ended u (λ x. ends_job_comes c job left x))

after_delivery_comes : (c : ControllerId) (d : Delivered) (w : State) → Comes w (AfterDelivery c d w)
after_delivery_comes c (delivered.Replied replied) w = gives_comes replied w
after_delivery_comes c (delivered.Started job) w = ends_job_comes c job (events_left_in w) w
after_delivery_comes c delivered.Neither w = refuses_comes NothingToDo w

after_reply_comes : (request : ℕ) (replied : Replied) (o : Option ReplicaState) (w : State) → Comes w (AfterReply request replied o w)
after_reply_comes request replied (Some state) w = gives_comes _ w
after_reply_comes request replied None w = refuses_comes NothingToDo w

after_sending_comes : (c : ControllerId) (o : Option ℕ) (w : State) → Comes w (AfterSending c o w)
after_sending_comes c (Some request) w =
    then_comes (Handles c request) (TakesAnswer request) w
    (then_comes (Happens (event.Deliver request c)) (λ outcome. AfterDelivery c (delivered_in outcome)) w (event_comes (event.Deliver request c) w tt)
    (λ outcome u. after_delivery_comes c (delivered_in outcome) u))
    (λ replied u.
    then_comes (Happens (event.Reply replied.message)) (λ outcome. AfterReply request replied (state_in outcome)) u (event_comes (event.Reply replied.message) u tt)
    (λ outcome x. after_reply_comes request replied (state_in outcome) x))
after_sending_comes c None w = refuses_comes NothingToDo w

after_report_comes : (c : ControllerId) (outcome : Outcome) (w : State) → Comes w (AfterReport c outcome w)
after_report_comes c outcome w = after_sending_comes c (sent_in outcome) w

if_due_comes : (found : Found) (act : Act Exchanged) (w : State) → Comes w (act w) → Comes w (IfDue found act w)
if_due_comes (Ok u) act w f = f
if_due_comes (Err refusal) act w f = refuses_comes refusal w

pub exchange_comes : (i : Instance) (p : Partition) (q : Sequence) (c : ControllerId) (w : State) → Comes w (ExchangeTold i p q c w)
exchange_comes i p q c w =
    then_comes (Exchanges i p q c) (λ x. Gives (exchange_text x)) w
    (if_due_comes (exchange_due w (event.Report i p q) c) (Then (Happens (event.Report i p q)) (AfterReport c)) w
    (then_comes (Happens (event.Report i p q)) (AfterReport c) w (event_comes (event.Report i p q) w tt) (λ outcome u. after_report_comes c outcome u)))
    (λ x u. gives_comes (exchange_text x) u)

-- ---- settle

server_comes : (at : ℕ) (busy : Bool) (w : State) → Comes w (ServerTurn at busy w)
server_comes at busy w =
    let i : Instance = record { 0 = at } in
    choose_comes (up_in w (Server i)) _ _ w
    (then_comes _ (λ done. TransitsAndDownloads i busy) w (passed_comes (event.See i) w tt)
    (λ done u. then_comes (Transits i busy) (Downloads i) u
    (each_comes (TransitTurn i) (due_transits_of u i) busy u (λ segment b x. attempted_comes (event.Transit i segment.0 segment.1) b x tt))
    (λ b x. each_comes (DownloadTurn i) (wanted_in x i) b x (λ segment d y. attempted_comes (event.Download i segment.0 segment.1) d y tt))))
    (gives_comes busy w)

after_request_comes : (c : ControllerId) (busy : Bool) (told : Result Outcome Refusal) (w : State) → Comes w (AfterRequest c busy told w)
after_request_comes c busy (Ok outcome) w =
    then_comes (AfterReport c outcome) (λ exchanged. Gives true) w (after_report_comes c outcome w) (λ x u. gives_comes true u)
after_request_comes c busy (Err NothingToDo) w = gives_comes busy w
after_request_comes c busy (Err NoSuchMessage) w = refuses_comes NoSuchMessage w
after_request_comes c busy (Err NoSuchNode) w = refuses_comes NoSuchNode w
after_request_comes c busy (Err NodeDown) w = refuses_comes NodeDown w
after_request_comes c busy (Err (Limit which)) w = refuses_comes (Limit which) w
after_request_comes c busy (Err Memory) w = refuses_comes Memory w

requests_comes : (i : Instance) (segment : SegmentAt) (c : ControllerId) (busy : Bool) (w : State) → Comes w (Requests i segment c busy w)
requests_comes i segment c busy w =
    let e = event.Report i segment.0 segment.1 in
    tries_comes (Happens e) (AfterRequest c busy) w (event_comes e w tt) (λ told u. after_request_comes c busy told u)

with_leader_comes : (i : Instance) (segment : SegmentAt) (o : Option ControllerId) (busy : Bool) (w : State) → Comes w (WithLeader i segment o busy w)
with_leader_comes i segment (Some c) busy w = requests_comes i segment c busy w
with_leader_comes i segment None busy w = gives_comes busy w

replica_comes : (paused : Bool) (i : Instance) (segment : SegmentAt) (busy : Bool) (w : State) → Comes w (ReplicaTurn paused i segment busy w)
replica_comes paused i segment busy w =
    then_comes (ConsumeTurn paused i segment busy) (BuildAndExchange i segment) w
    (choose_comes (may_consume paused w i segment) _ _ w
    (attempted_comes _ busy w tt)
    (gives_comes busy w))
    (λ b u. then_comes (BuildTurn i segment b) (ExchangeTurn i segment) u
    (attempted_comes (event.Build i segment.0 segment.1) b u tt)
    (λ d x. with_leader_comes i segment (leader_in x) d x))

replicas_comes : (paused : Bool) (at : ℕ) (busy : Bool) (w : State) → Comes w (ReplicasTurn paused at busy w)
replicas_comes paused at busy w =
    let i : Instance = record { 0 = at } in
    choose_comes (up_in w (Server i)) _ _ w (each_comes (ReplicaTurn paused i) (held_in w i) busy w (λ segment b u. replica_comes paused i segment b u)) (gives_comes busy w)

round_comes : (paused : Bool) (w : State) → Comes w (Round paused w)
round_comes paused w =
    then_comes (ServersTurn false) (ReplicasOfAll paused) w (each_from_comes ServerTurn 0 w.setup.servers false w (λ at b u. server_comes at b u))
    (λ b u. each_from_comes (ReplicasTurn paused) 0 u.setup.servers b u (λ at d x. replicas_comes paused at d x))

after_round_comes : (further : Act Bool) (busy : Bool) (w : State) → ((u : State) → Comes u (further u)) → Comes w (AfterRound further busy w)
after_round_comes further true w f = f w
after_round_comes further false w f = gives_comes true w

settles_in_comes : (paused : Bool) (rounds : ℕ) (w : State) → Comes w (SettlesIn paused rounds w)
settles_in_comes paused zero w = gives_comes false w
settles_in_comes paused (suc rounds) w =
    then_comes (Round paused) (AfterRound (SettlesIn paused rounds)) w (round_comes paused w)
    (λ busy u. after_round_comes (SettlesIn paused rounds) busy u (λ x. settles_in_comes paused rounds x))

pub settles_comes : (paused : Bool) (rounds : ℕ) (w : State) → Comes w (Settles paused rounds w)
settles_comes paused rounds w =
    choose_comes ((rounds == 0) || nat_lt MOST_ROUNDS rounds) _ _ w (refuses_comes NothingToDo w) (settles_in_comes paused rounds w)

pub settle_comes : (paused : Bool) (rounds : ℕ) (w : State) → Comes w (SettleTold paused rounds w)
settle_comes paused rounds w =
    then_comes (Settles paused rounds) (λ quiet. Gives (settled_text quiet)) w (settles_comes paused rounds w) (λ quiet u. gives_comes (settled_text quiet) u)
