-- Each macro is reached by turns of the cluster.
use Rattle.std.proofs.Common.{◌≡◌, ℕ, List, zero, suc, Bool, true, false, Option, Some, None, Result, Ok, Err, ◌==◌, nat_lt, ◌||◌}
use Rattle.rt_base.specs.declared.gate.NodeId.TheVariants.{Server}
use Rattle.rt_base.specs.declared.numbers.ControllerId.{ControllerId}
use Rattle.rt_base.specs.declared.numbers.Instance.{Instance}
use Rattle.rt_base.specs.declared.numbers.Partition.{Partition}
use Rattle.rt_base.specs.declared.numbers.Sequence.{Sequence}
use Rattle.rt_base.specs.declared.which.Which.TheVariants.{Events}
use Rattle.rt_assign.specs.Placement.{replica_of}
use Rattle.rt_desk.proofs.Reaching.{Allowance, Goes, MayCome, attempted_goes, choose_goes, choose_goes_if, each_from_goes, each_goes, event_goes, gives_goes, passed_goes, refuses_goes, then_goes, tries_goes}
use Rattle.rt_events.specs.declared.event.Event.TheVariants as event
use Rattle.rt_events.specs.declared.outcome.Outcome.{Outcome}
use Rattle.rt_events.specs.declared.refusal.Refusal.{Refusal}
use Rattle.rt_events.specs.declared.refusal.Refusal.TheVariants.{NoSuchMessage, NoSuchNode, NodeDown, NothingToDo, Limit, Memory}
use Rattle.rt_model.specs.Checked.{IsQuery}
use Rattle.rt_model.specs.declared.answer.Answer.{Answer}
use Rattle.rt_model.specs.declared.piece.Piece.{Piece}
use Rattle.rt_model.specs.declared.query.Query.{Query}
use Rattle.rt_model.specs.declared.replica_state.ReplicaState.{ReplicaState}
use Rattle.rt_macros.specs.Doing.{Act, EachFrom, Gives, Happens, Then}
use Rattle.rt_macros.specs.Exchanging.{AfterDelivery, AfterReply, AfterReport, AfterSending, AfterStep, EndsJob, ExchangeTold, Exchanges, Handles, IfDue, MakesStep, TakesAnswer, exchange_due, exchange_text}
use Rattle.rt_macros.specs.Filling.{FillTold, Fills, FillsOne, TellsLength, numbered_text}
use Rattle.rt_macros.specs.Outcomes.{answer_in, asked_in, delivered_in, ended_in, is_served, sent_in, state_in}
use Rattle.rt_macros.specs.Querying.{AfterAsking, AnswersNow, AsksAll, AsksAndAnswers, AsksOne, AsksPartition, AsksPiece, AsksReplicas, ByNumber, GivesAnswer, Queries, QueryTold, RoutesAll, RoutesOne, TellsServed}
use Rattle.rt_macros.specs.Settling.{AfterRequest, AfterRound, BuildAndExchange, BuildTurn, ConsumeTurn, DownloadTurn, Downloads, ExchangeTurn, ReplicaTurn, ReplicasOfAll, ReplicasTurn, Requests, Round, SegmentAt, ServerTurn, ServersTurn, SettleTold, Settles, SettlesIn, TransitTurn, Transits, TransitsAndDownloads, WithLeader, may_consume}
use Rattle.rt_macros.specs.declared.exchanging.Exchanged.{Exchanged}
use Rattle.rt_macros.specs.declared.outcomes.Delivered.{Delivered}
use Rattle.rt_macros.specs.declared.outcomes.Delivered.TheVariants as delivered
use Rattle.rt_macros.specs.declared.outcomes.Replied.{Replied}
use Rattle.rt_macros.specs.declared.settling.TheConstants.{MOST_ROUNDS}
use Rattle.rt_report.specs.BrokerTexts.{answer_line}
use Rattle.rt_report.specs.MacroTexts.{filled_text, settled_text}
use Rattle.rt_world.specs.Reading.{due_transits_of, events_left_in, held_in, leader_in, length_of, pieces_of, up_in, wanted_in}
use Rattle.rt_state.specs.Room.{Found}
use Rattle.rt_state.specs.declared.state.State.{State}

-- ---- fill

pub fill_goes : (k : Allowance) (p : Partition) (count : ℕ) (w : State) → ((u : State) (message : List ℕ) → MayCome k u (event.Produce p message)) → Goes k w (FillTold p count w)
fill_goes k p count w may =
    then_goes k (Fills p count) (λ length. Gives (filled_text p length)) w
    (choose_goes k (nat_lt p.0 w.setup.partitions) _ _ w
    (choose_goes k (count == 0) _ _ w (refuses_goes k NothingToDo w)
    (then_goes k (EachFrom (FillsOne p) 0 count tt) (TellsLength p) w
    (each_from_goes k (FillsOne p) 0 count tt w (λ n d u. passed_goes k (event.Produce p (numbered_text (length_of u p))) u tt (may u (numbered_text (length_of u p)))))
    (λ d u. gives_goes k (length_of u p) u)))
    (refuses_goes k NoSuchNode w))
    (λ length u. gives_goes k (filled_text p length) u)

-- ---- query

asks_one_goes : (k : Allowance) (number : ℕ) (piece : Piece) (n : ℕ) (served : Bool) (w : State) → Goes k w (AsksOne number piece n served w)
asks_one_goes k number piece n true w = gives_goes k true w
asks_one_goes k number piece n false w =
    let e = event.Piece number piece.partition piece.sequence (replica_of piece.partition w.setup.table.replication w.setup.servers n) in
    then_goes k (Happens e) TellsServed w (event_goes k e w tt (λ o. k.calm w e o tt)) (λ outcome u. gives_goes k (is_served outcome) u)

asks_piece_goes : (k : Allowance) (number : ℕ) (piece : Piece) (done : Unit {0}) (w : State) → Goes k w (AsksPiece number piece done w)
asks_piece_goes k number piece done w =
    then_goes k (AsksReplicas number piece) (λ served. Gives tt) w
    (each_from_goes k (AsksOne number piece) 0 w.setup.table.replication false w (λ n served u. asks_one_goes k number piece n served u))
    (λ served u. gives_goes k tt u)

pub asks_all_goes : (k : Allowance) (number : ℕ) (w : State) → Goes k w (AsksAll number w)
asks_all_goes k number w =
    each_from_goes k (AsksPartition number) 0 w.setup.partitions tt w
    (λ at done u. each_goes k (AsksPiece number) (pieces_of u number (record { 0 = at })) done u (λ piece d x. asks_piece_goes k number piece d x))

gives_answer_goes : (k : Allowance) (o : Option Answer) (w : State) → Goes k w (GivesAnswer o w)
gives_answer_goes k (Some answer) w = gives_goes k answer w
gives_answer_goes k None w = refuses_goes k NothingToDo w

answers_goes : (k : Allowance) (number : ℕ) (w : State) → Goes k w (AnswersNow number w)
answers_goes k number w =
    then_goes k (Happens (event.Answer number)) (λ outcome. GivesAnswer (answer_in outcome)) w (event_goes k (event.Answer number) w tt (λ o. k.calm w (event.Answer number) o tt))
    (λ outcome u. gives_answer_goes k (answer_in outcome) u)

after_asking_goes : (k : Allowance) (number : ℕ) (w : State) → Goes k w (AfterAsking number w)
after_asking_goes k number w =
    then_goes k (RoutesAll number) (λ done. AsksAndAnswers number) w
    (each_from_goes k (RoutesOne number) 0 w.setup.partitions tt w (λ at done u. passed_goes k (event.Route number (record { 0 = at })) u tt (λ o. k.calm u (event.Route number (record { 0 = at })) o tt)))
    (λ done u. then_goes k (AsksAll number) (λ d. AnswersNow number) u (asks_all_goes k number u) (λ d x. answers_goes k number x))

by_number_goes : (k : Allowance) (o : Option ℕ) (w : State) → Goes k w (ByNumber o w)
by_number_goes k (Some number) w = after_asking_goes k number w
by_number_goes k None w = refuses_goes k NothingToDo w

pub query_goes : (k : Allowance) (query : Query) (w : State) → IsQuery w.setup.schema query → MayCome k w (event.Ask query) → Goes k w (QueryTold query w)
query_goes k query w fits may =
    then_goes k (Queries query) (λ answer. Gives (answer_line answer)) w
    (then_goes k (Happens (event.Ask query)) (λ outcome. ByNumber (asked_in outcome)) w (event_goes k (event.Ask query) w fits may)
    (λ outcome u. by_number_goes k (asked_in outcome) u))
    (λ answer u. gives_goes k (answer_line answer) u)

-- ---- exchange

after_step_goes : (k : Allowance) (further : Act Replied) (o : Option Replied) (w : State) → ((u : State) → Goes k u (further u)) → Goes k w (AfterStep further o w)
after_step_goes k further (Some replied) w f = gives_goes k replied w
after_step_goes k further None w f = f w

ends_job_goes : (k : Allowance) (c : ControllerId) (job left : ℕ) (w : State) → Goes k w (EndsJob c job left w)
ends_job_goes k c job zero w = refuses_goes k (Limit Events) w
ends_job_goes k c job (suc left) w =
    then_goes k (MakesStep c job) (AfterStep (EndsJob c job left)) w
    (then_goes k (Happens (event.Job c job)) (λ outcome. Gives (ended_in outcome)) w (event_goes k (event.Job c job) w tt (λ o. k.calm w (event.Job c job) o tt))
    (λ outcome u. gives_goes k (ended_in outcome) u))
    (λ ended u. after_step_goes k (EndsJob c job left) ended u (λ x. ends_job_goes k c job left x))

after_delivery_goes : (k : Allowance) (c : ControllerId) (d : Delivered) (w : State) → Goes k w (AfterDelivery c d w)
after_delivery_goes k c (delivered.Replied replied) w = gives_goes k replied w
after_delivery_goes k c (delivered.Started job) w = ends_job_goes k c job (events_left_in w) w
after_delivery_goes k c delivered.Neither w = refuses_goes k NothingToDo w

after_reply_goes : (k : Allowance) (request : ℕ) (replied : Replied) (o : Option ReplicaState) (w : State) → Goes k w (AfterReply request replied o w)
after_reply_goes k request replied (Some state) w = gives_goes k _ w
after_reply_goes k request replied None w = refuses_goes k NothingToDo w

after_sending_goes : (k : Allowance) (c : ControllerId) (o : Option ℕ) (w : State) → Goes k w (AfterSending c o w)
after_sending_goes k c (Some request) w =
    then_goes k (Handles c request) (TakesAnswer request) w
    (then_goes k (Happens (event.Deliver request c)) (λ outcome. AfterDelivery c (delivered_in outcome)) w (event_goes k (event.Deliver request c) w tt (λ o. k.calm w (event.Deliver request c) o tt))
    (λ outcome u. after_delivery_goes k c (delivered_in outcome) u))
    (λ replied u.
    then_goes k (Happens (event.Reply replied.message)) (λ outcome. AfterReply request replied (state_in outcome)) u (event_goes k (event.Reply replied.message) u tt (λ o. k.calm u (event.Reply replied.message) o tt))
    (λ outcome x. after_reply_goes k request replied (state_in outcome) x))
after_sending_goes k c None w = refuses_goes k NothingToDo w

after_report_goes : (k : Allowance) (c : ControllerId) (outcome : Outcome) (w : State) → Goes k w (AfterReport c outcome w)
after_report_goes k c outcome w = after_sending_goes k c (sent_in outcome) w

if_due_goes : (k : Allowance) (found : Found) (act : Act Exchanged) (w : State) → Goes k w (act w) → Goes k w (IfDue found act w)
if_due_goes k (Ok u) act w f = f
if_due_goes k (Err refusal) act w f = refuses_goes k refusal w

pub exchange_goes : (k : Allowance) (i : Instance) (p : Partition) (q : Sequence) (c : ControllerId) (w : State) → Goes k w (ExchangeTold i p q c w)
exchange_goes k i p q c w =
    then_goes k (Exchanges i p q c) (λ x. Gives (exchange_text x)) w
    (if_due_goes k (exchange_due w (event.Report i p q) c) (Then (Happens (event.Report i p q)) (AfterReport c)) w
    (then_goes k (Happens (event.Report i p q)) (AfterReport c) w (event_goes k (event.Report i p q) w tt (λ o. k.calm w (event.Report i p q) o tt)) (λ outcome u. after_report_goes k c outcome u)))
    (λ x u. gives_goes k (exchange_text x) u)

-- ---- settle

server_goes : (k : Allowance) (at : ℕ) (busy : Bool) (w : State) → Goes k w (ServerTurn at busy w)
server_goes k at busy w =
    let i : Instance = record { 0 = at } in
    choose_goes k (up_in w (Server i)) _ _ w
    (then_goes k _ (λ done. TransitsAndDownloads i busy) w (passed_goes k (event.See i) w tt (λ o. k.calm w (event.See i) o tt))
    (λ done u. then_goes k (Transits i busy) (Downloads i) u
    (each_goes k (TransitTurn i) (due_transits_of u i) busy u (λ segment b x. attempted_goes k (event.Transit i segment.0 segment.1) b x tt (λ o. k.calm x (event.Transit i segment.0 segment.1) o tt)))
    (λ b x. each_goes k (DownloadTurn i) (wanted_in x i) b x (λ segment d y. attempted_goes k (event.Download i segment.0 segment.1) d y tt (λ o. k.calm y (event.Download i segment.0 segment.1) o tt)))))
    (gives_goes k busy w)

after_request_goes : (k : Allowance) (c : ControllerId) (busy : Bool) (told : Result Outcome Refusal) (w : State) → Goes k w (AfterRequest c busy told w)
after_request_goes k c busy (Ok outcome) w =
    then_goes k (AfterReport c outcome) (λ exchanged. Gives true) w (after_report_goes k c outcome w) (λ x u. gives_goes k true u)
after_request_goes k c busy (Err NothingToDo) w = gives_goes k busy w
after_request_goes k c busy (Err NoSuchMessage) w = refuses_goes k NoSuchMessage w
after_request_goes k c busy (Err NoSuchNode) w = refuses_goes k NoSuchNode w
after_request_goes k c busy (Err NodeDown) w = refuses_goes k NodeDown w
after_request_goes k c busy (Err (Limit which)) w = refuses_goes k (Limit which) w
after_request_goes k c busy (Err Memory) w = refuses_goes k Memory w

requests_goes : (k : Allowance) (i : Instance) (segment : SegmentAt) (c : ControllerId) (busy : Bool) (w : State) → Goes k w (Requests i segment c busy w)
requests_goes k i segment c busy w =
    let e = event.Report i segment.0 segment.1 in
    tries_goes k (Happens e) (AfterRequest c busy) w (event_goes k e w tt (λ o. k.calm w e o tt)) (λ told u. after_request_goes k c busy told u)

with_leader_goes : (k : Allowance) (i : Instance) (segment : SegmentAt) (o : Option ControllerId) (busy : Bool) (w : State) → Goes k w (WithLeader i segment o busy w)
with_leader_goes k i segment (Some c) busy w = requests_goes k i segment c busy w
with_leader_goes k i segment None busy w = gives_goes k busy w

-- where a replica may consume it is allowed
abbrev pub MayConsume : Allowance → Bool → Type 0
MayConsume k paused = (i : Instance) (segment : SegmentAt) (max : ℕ) (w : State) → may_consume paused w i segment ≡ true → MayCome k w (event.Consume i segment.0 segment.1 max)

replica_goes : (k : Allowance) (paused : Bool) (i : Instance) (segment : SegmentAt) (busy : Bool) (w : State) → MayConsume k paused → Goes k w (ReplicaTurn paused i segment busy w)
replica_goes k paused i segment busy w may =
    then_goes k (ConsumeTurn paused i segment busy) (BuildAndExchange i segment) w
    (choose_goes_if k (may_consume paused w i segment) _ _ w
    (λ ready. attempted_goes k _ busy w tt (may i segment _ w ready))
    (gives_goes k busy w))
    (λ b u. then_goes k (BuildTurn i segment b) (ExchangeTurn i segment) u
    (attempted_goes k (event.Build i segment.0 segment.1) b u tt (λ o. k.calm u (event.Build i segment.0 segment.1) o tt))
    (λ d x. with_leader_goes k i segment (leader_in x) d x))

replicas_goes : (k : Allowance) (paused : Bool) (at : ℕ) (busy : Bool) (w : State) → MayConsume k paused → Goes k w (ReplicasTurn paused at busy w)
replicas_goes k paused at busy w may =
    let i : Instance = record { 0 = at } in
    choose_goes k (up_in w (Server i)) _ _ w (each_goes k (ReplicaTurn paused i) (held_in w i) busy w (λ segment b u. replica_goes k paused i segment b u may)) (gives_goes k busy w)

round_goes : (k : Allowance) (paused : Bool) (w : State) → MayConsume k paused → Goes k w (Round paused w)
round_goes k paused w may =
    then_goes k (ServersTurn false) (ReplicasOfAll paused) w (each_from_goes k ServerTurn 0 w.setup.servers false w (λ at b u. server_goes k at b u))
    (λ b u. each_from_goes k (ReplicasTurn paused) 0 u.setup.servers b u (λ at d x. replicas_goes k paused at d x may))

after_round_goes : (k : Allowance) (further : Act Bool) (busy : Bool) (w : State) → ((u : State) → Goes k u (further u)) → Goes k w (AfterRound further busy w)
after_round_goes k further true w f = f w
after_round_goes k further false w f = gives_goes k true w

settles_in_goes : (k : Allowance) (paused : Bool) (rounds : ℕ) (w : State) → MayConsume k paused → Goes k w (SettlesIn paused rounds w)
settles_in_goes k paused zero w may = gives_goes k false w
settles_in_goes k paused (suc rounds) w may =
    then_goes k (Round paused) (AfterRound (SettlesIn paused rounds)) w (round_goes k paused w may)
    (λ busy u. after_round_goes k (SettlesIn paused rounds) busy u (λ x. settles_in_goes k paused rounds x may))

pub settles_goes : (k : Allowance) (paused : Bool) (rounds : ℕ) (w : State) → MayConsume k paused → Goes k w (Settles paused rounds w)
settles_goes k paused rounds w may =
    choose_goes k ((rounds == 0) || nat_lt MOST_ROUNDS rounds) _ _ w (refuses_goes k NothingToDo w) (settles_in_goes k paused rounds w may)

pub settle_goes : (k : Allowance) (paused : Bool) (rounds : ℕ) (w : State) → MayConsume k paused → Goes k w (SettleTold paused rounds w)
settle_goes k paused rounds w may =
    then_goes k (Settles paused rounds) (λ quiet. Gives (settled_text quiet)) w (settles_goes k paused rounds w may) (λ quiet u. gives_goes k (settled_text quiet) u)
