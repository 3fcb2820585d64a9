-- `settle` has one outcome.
use Rattle.std.proofs.Common.{◌≡◌, ℕ, zero, suc, Bool, true, false, Option, Some, None, Result, Ok, Err, ◌==◌, nat_lt, ◌||◌, refl, ap, subst}
use Rattle.rt_base.specs.declared.gate.NodeId.TheVariants.{Server}
use Rattle.rt_base.specs.declared.numbers.ControllerId.{ControllerId}
use Rattle.rt_base.specs.declared.numbers.Instance.{Instance}
use Rattle.rt_events.specs.declared.event.Event.TheVariants as event
use Rattle.rt_events.specs.declared.outcome.Outcome.{Outcome}
use Rattle.rt_events.specs.declared.refusal.Refusal.{Refusal}
use Rattle.rt_events.specs.declared.refusal.Refusal.TheVariants.{NoSuchMessage, NoSuchNode, NodeDown, NothingToDo, Limit, Memory}
use Rattle.rt_model.specs.declared.setup.Setup.{Setup}
use Rattle.rt_macros.specs.Doing.{Act, Attempted, Choose, Gives, Happens, Passed}
use Rattle.rt_macros.specs.Exchanging.{AfterReport}
use Rattle.rt_macros.specs.Outcomes.{sent_in}
use Rattle.rt_macros.specs.Settling.{AfterRequest, AfterRound, BuildAndExchange, BuildTurn, ConsumeTurn, DownloadTurn, Downloads, ExchangeTurn, FinishesTurn, ReplicaTurn, ReplicasOfAll, ReplicasTurn, Requests, Round, SegmentAt, ServerTurn, ServersTurn, SettleTold, Settles, SettlesIn, TransitTurn, Transits, TransitsAndDownloads, WithLeader, may_consume}
use Rattle.rt_macros.specs.declared.settling.TheConstants.{MOST_ROUNDS}
use Rattle.rt_report.specs.MacroTexts.{settled_text}
use Rattle.rt_world.specs.Reading.{due_transits_of, held_in, leader_in, up_in, wanted_in}
use Rattle.rt_state.specs.declared.state.State.{State}
use Rattle.rt_exact.specs.Acts.{AreOne}
use Rattle.rt_exact.specs.Alike.{AreAlike}
use Rattle.rt_exact.proofs.Acts.{attempted_one, choose_one, each_from_one, each_one, gives_one, happens_one, passed_one, refuses_one, then_one, tries_one}
use Rattle.rt_exact.proofs.Exchanges.{after_sending_one}
use Rattle.rt_exact.proofs.Macros.{reads, setups}

transits_one : (i : Instance) (busy : Bool) (w v : State) → AreAlike w v → AreOne (Transits i busy w) (Transits i busy v)
transits_one i busy w v k =
    each_one (TransitTurn i) (TransitTurn i) (due_transits_of w i) (due_transits_of v i) busy w v k ((reads w v k).transits i)
    (λ segment b u t l. attempted_one (event.Transit i segment.0 segment.1) b u t l tt)

downloads_one : (i : Instance) (busy : Bool) (w v : State) → AreAlike w v → AreOne (Downloads i busy w) (Downloads i busy v)
downloads_one i busy w v k =
    each_one (DownloadTurn i) (DownloadTurn i) (wanted_in w i) (wanted_in v i) busy w v k ((reads w v k).wanted i)
    (λ segment b u t l. attempted_one (event.Download i segment.0 segment.1) b u t l tt)

server_one : (at : ℕ) (busy : Bool) (w v : State) → AreAlike w v → AreOne (ServerTurn at busy w) (ServerTurn at busy v)
server_one at busy w v k =
    let i : Instance = record { 0 = at } in
    choose_one (up_in w (Server i)) (up_in v (Server i)) _ _ _ _ ((reads w v k).up (Server i))
    (then_one (Passed (event.See i)) (Passed (event.See i)) (λ done. TransitsAndDownloads i busy) (λ done. TransitsAndDownloads i busy) w v
    (passed_one (event.See i) w v k tt)
    (λ done u t l. then_one (Transits i busy) (Transits i busy) (Downloads i) (Downloads i) u t (transits_one i busy u t l) (λ b a d m. downloads_one i b a d m)))
    (gives_one busy busy w v k refl)

finishes_one : (c : ControllerId) (outcome : Outcome) (w v : State) → AreAlike w v → AreOne (FinishesTurn c outcome w) (FinishesTurn c outcome v)
finishes_one c outcome w v k =
    then_one (AfterReport c outcome) (AfterReport c outcome) (λ exchanged. Gives true) (λ exchanged. Gives true) w v
    (after_sending_one c (sent_in outcome) w v k) (λ e u t l. gives_one true true u t l refl)

after_request_one : (c : ControllerId) (busy : Bool) (told : Result Outcome Refusal) (w v : State) → AreAlike w v
    → AreOne (AfterRequest c busy told w) (AfterRequest c busy told v)
after_request_one c busy (Ok outcome) w v k = finishes_one c outcome w v k
after_request_one c busy (Err NothingToDo) w v k = gives_one busy busy w v k refl
after_request_one c busy (Err NoSuchMessage) w v k = refuses_one NoSuchMessage w v k
after_request_one c busy (Err NoSuchNode) w v k = refuses_one NoSuchNode w v k
after_request_one c busy (Err NodeDown) w v k = refuses_one NodeDown w v k
after_request_one c busy (Err (Limit which)) w v k = refuses_one (Limit which) w v k
after_request_one c busy (Err Memory) w v k = refuses_one Memory w v k

requests_one : (i : Instance) (segment : SegmentAt) (c : ControllerId) (busy : Bool) (w v : State) → AreAlike w v → AreOne (Requests i segment c busy w) (Requests i segment c busy v)
requests_one i segment c busy w v k =
    let report = event.Report i segment.0 segment.1 in
    tries_one (Happens report) (Happens report) (AfterRequest c busy) (AfterRequest c busy) w v (happens_one report w v k tt)
    (λ told u t l. after_request_one c busy told u t l)

with_leader_one : (i : Instance) (segment : SegmentAt) (o : Option ControllerId) (busy : Bool) (w v : State) → AreAlike w v
    → AreOne (WithLeader i segment o busy w) (WithLeader i segment o busy v)
with_leader_one i segment (Some c) busy w v k = requests_one i segment c busy w v k
with_leader_one i segment None busy w v k = gives_one busy busy w v k refl

exchange_turn_one : (i : Instance) (segment : SegmentAt) (busy : Bool) (w v : State) → AreAlike w v → AreOne (ExchangeTurn i segment busy w) (ExchangeTurn i segment busy v)
exchange_turn_one i segment busy w v k x y r s h g =
    with_leader_one i segment (leader_in v) busy w v k x y r s (subst (λ o. WithLeader i segment o busy w x r) (reads w v k).leader h) g

may_consume_one : (paused : Bool) (i : Instance) (segment : SegmentAt) (w v : State) → AreAlike w v → may_consume paused w i segment ≡ may_consume paused v i segment
may_consume_one paused i segment w v k = ap (λ u. may_consume paused u i segment) k.same

consume_at : (max : ℕ) (b c : Bool) (i : Instance) (segment : SegmentAt) (busy : Bool) (w v : State) → AreAlike w v → b ≡ c
    → AreOne (Choose b (Attempted (event.Consume i segment.0 segment.1 max) busy w) (Gives busy w)) (Choose c (Attempted (event.Consume i segment.0 segment.1 max) busy v) (Gives busy v))
consume_at max b c i segment busy w v k same =
    choose_one b c _ _ _ _ same (attempted_one (event.Consume i segment.0 segment.1 max) busy w v k tt) (gives_one busy busy w v k refl)

consume_one : (paused : Bool) (i : Instance) (segment : SegmentAt) (busy : Bool) (w v : State) → AreAlike w v
    → AreOne (ConsumeTurn paused i segment busy w) (ConsumeTurn paused i segment busy v)
consume_one paused i segment busy w v k =
    consume_at _ (may_consume paused w i segment) (may_consume paused v i segment) i segment busy w v k (may_consume_one paused i segment w v k)

replica_one : (paused : Bool) (i : Instance) (segment : SegmentAt) (busy : Bool) (w v : State) → AreAlike w v
    → AreOne (ReplicaTurn paused i segment busy w) (ReplicaTurn paused i segment busy v)
replica_one paused i segment busy w v k =
    then_one (ConsumeTurn paused i segment busy) (ConsumeTurn paused i segment busy) (BuildAndExchange i segment) (BuildAndExchange i segment) w v
    (consume_one paused i segment busy w v k)
    (λ b u t l. then_one (BuildTurn i segment b) (BuildTurn i segment b) (ExchangeTurn i segment) (ExchangeTurn i segment) u t
    (attempted_one (event.Build i segment.0 segment.1) b u t l tt) (λ d a e m. exchange_turn_one i segment d a e m))

replicas_one : (paused : Bool) (at : ℕ) (busy : Bool) (w v : State) → AreAlike w v → AreOne (ReplicasTurn paused at busy w) (ReplicasTurn paused at busy v)
replicas_one paused at busy w v k =
    let i : Instance = record { 0 = at } in
    choose_one (up_in w (Server i)) (up_in v (Server i)) _ _ _ _ ((reads w v k).up (Server i))
    (each_one (ReplicaTurn paused i) (ReplicaTurn paused i) (held_in w i) (held_in v i) busy w v k ((reads w v k).held i)
    (λ segment b u t l. replica_one paused i segment b u t l))
    (gives_one busy busy w v k refl)

round_one : (paused : Bool) (w v : State) → AreAlike w v → AreOne (Round paused w) (Round paused v)
round_one paused w v k =
    then_one (ServersTurn false) (ServersTurn false) (ReplicasOfAll paused) (ReplicasOfAll paused) w v
    (each_from_one ServerTurn ServerTurn 0 w.setup.servers v.setup.servers false w v k (ap (λ (s : Setup). s.servers) (setups w v k)) (λ at b u t l. server_one at b u t l))
    (λ b u t l.
    each_from_one (ReplicasTurn paused) (ReplicasTurn paused) 0 u.setup.servers t.setup.servers b u t l (ap (λ (s : Setup). s.servers) (setups u t l))
    (λ at d a e m. replicas_one paused at d a e m))

after_round_one : (further : Act Bool) (busy : Bool) (w v : State) → AreAlike w v → ((u t : State) → AreAlike u t → AreOne (further u) (further t))
    → AreOne (AfterRound further busy w) (AfterRound further busy v)
after_round_one further true w v k f = f w v k
after_round_one further false w v k f = gives_one true true w v k refl

settles_in_one : (paused : Bool) (rounds : ℕ) (w v : State) → AreAlike w v → AreOne (SettlesIn paused rounds w) (SettlesIn paused rounds v)
settles_in_one paused zero w v k = gives_one false false w v k refl
settles_in_one paused (suc rounds) w v k =
    then_one (Round paused) (Round paused) (AfterRound (SettlesIn paused rounds)) (AfterRound (SettlesIn paused rounds)) w v (round_one paused w v k)
    (λ busy u t l. after_round_one (SettlesIn paused rounds) busy u t l (λ a b m. settles_in_one paused rounds a b m))

pub settles_one : (paused : Bool) (rounds : ℕ) (w v : State) → AreAlike w v → AreOne (Settles paused rounds w) (Settles paused rounds v)
settles_one paused rounds w v k =
    choose_one ((rounds == 0) || nat_lt MOST_ROUNDS rounds) ((rounds == 0) || nat_lt MOST_ROUNDS rounds) _ _ _ _ refl
    (refuses_one NothingToDo w v k) (settles_in_one paused rounds w v k)

pub settle_one : (paused : Bool) (rounds : ℕ) (w v : State) → AreAlike w v → AreOne (SettleTold paused rounds w) (SettleTold paused rounds v)
settle_one paused rounds w v k =
    then_one (Settles paused rounds) (Settles paused rounds) (λ quiet. Gives (settled_text quiet)) (λ quiet. Gives (settled_text quiet)) w v
    (settles_one paused rounds w v k) (λ quiet u t l. gives_one (settled_text quiet) (settled_text quiet) u t l refl)
