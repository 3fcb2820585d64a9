-- `settle N`: at most N rounds, up to the first that is quiet. A round goes twice through the servers that are up, ascending.
-- First each reads the ideal state, makes each transition that is due and gets each file that it wants. Then the replicas of
-- each, as they stood when its turn came, consume, build and exchange, each where it is due. A round is quiet where
-- nothing happened in it but that servers read the ideal state. While the run is paused a replica that hasn't begun to consume
-- is left out when it would consume.
use Rattle.std.specs.Prelude.{ℕ, zero, suc, Bool, true, false, List, Option, None, Some, Result, Ok, Err, ◌==◌, nat_lt, ◌&&◌, ◌||◌, not}
use Rattle.rt_base.specs.declared.gate.NodeId.TheVariants.{Server}
use Rattle.rt_base.specs.declared.numbers.ControllerId.{ControllerId}
use Rattle.rt_base.specs.declared.numbers.Instance.{Instance}
use Rattle.rt_base.specs.declared.numbers.Partition.{Partition}
use Rattle.rt_base.specs.declared.numbers.Sequence.{Sequence}
use Rattle.rt_events.specs.declared.event.Event.TheVariants.{See, Transit, Download, Consume, Build, Report}
use Rattle.rt_events.specs.declared.outcome.Outcome.{Outcome}
use Rattle.rt_events.specs.declared.refusal.Refusal.{Refusal}
use Rattle.rt_events.specs.declared.refusal.Refusal.TheVariants.{NoSuchMessage, NoSuchNode, NodeDown, NothingToDo, Limit, Memory}
use Rattle.rt_macros.specs.Doing.{Act, Attempted, Choose, Each, EachFrom, Gives, Happens, Passed, Refuses, Then, Tries}
use Rattle.rt_macros.specs.Exchanging.{AfterReport}
use Rattle.rt_macros.specs.declared.settling.TheConstants.{BATCH, MOST_ROUNDS}
use Rattle.rt_model.specs.declared.replica_state.ReplicaState.{ReplicaState}
use Rattle.rt_pause.specs.Paused.{allows}
use Rattle.rt_report.specs.MacroTexts.{settled_text}
use Rattle.rt_world.specs.Reading.{due_transits_of, held_in, is_ready_at, leader_in, stage_at, up_in, wanted_in}
use Rattle.rt_state.specs.declared.state.State.{State}

abbrev pub SegmentAt : Type 0
SegmentAt = Partition × Sequence

abbrev pub TransitTurn : Instance → SegmentAt → Bool → Act Bool
TransitTurn instance segment busy w = Attempted (Transit instance segment.0 segment.1) busy w

abbrev pub Transits : Instance → Bool → Act Bool
Transits instance busy w = Each (TransitTurn instance) (due_transits_of w instance) busy w

abbrev pub DownloadTurn : Instance → SegmentAt → Bool → Act Bool
DownloadTurn instance segment busy w = Attempted (Download instance segment.0 segment.1) busy w

abbrev pub Downloads : Instance → Bool → Act Bool
Downloads instance busy w = Each (DownloadTurn instance) (wanted_in w instance) busy w

abbrev pub TransitsAndDownloads : Instance → Bool → Act Bool
TransitsAndDownloads instance busy w = Then (Transits instance busy) (Downloads instance) w

-- the first part of a round, for one server
abbrev pub ServerTurn : ℕ → Bool → Act Bool
ServerTurn at busy w =
    Choose (up_in w (Server (record { 0 = at })))
    (Then (Passed (See (record { 0 = at }))) (λ done. TransitsAndDownloads (record { 0 = at }) busy) w)
    (Gives busy w)

-- whether a replica, if there is one, waits for the run to be resumed
abbrev pub waits_at : Bool → Option ReplicaState → Bool
waits_at paused None = false
waits_at paused (Some stage) = not (allows paused stage)

abbrev pub waits_in : State → Bool → Instance → Partition → Sequence → Bool
waits_in w paused instance partition sequence = waits_at paused (stage_at w instance partition sequence)

abbrev pub may_consume : Bool → State → Instance → SegmentAt → Bool
may_consume paused w instance segment =
    is_ready_at w instance segment.0 segment.1 && not (waits_in w paused instance segment.0 segment.1)

abbrev pub ConsumeTurn : Bool → Instance → SegmentAt → Bool → Act Bool
ConsumeTurn paused instance segment busy w =
    Choose (may_consume paused w instance segment) (Attempted (Consume instance segment.0 segment.1 BATCH) busy w) (Gives busy w)

abbrev pub BuildTurn : Instance → SegmentAt → Bool → Act Bool
BuildTurn instance segment busy w = Attempted (Build instance segment.0 segment.1) busy w

abbrev pub FinishesTurn : ControllerId → Outcome → Act Bool
FinishesTurn controller outcome w = Then (AfterReport controller outcome) (λ exchanged. Gives true) w

-- an exchange takes place where there is a request
abbrev pub AfterRequest : ControllerId → Bool → Result Outcome Refusal → Act Bool
AfterRequest controller busy (Ok outcome) w = FinishesTurn controller outcome w
AfterRequest controller busy (Err NothingToDo) w = Gives busy w
AfterRequest controller busy (Err NoSuchMessage) w = Refuses NoSuchMessage w
AfterRequest controller busy (Err NoSuchNode) w = Refuses NoSuchNode w
AfterRequest controller busy (Err NodeDown) w = Refuses NodeDown w
AfterRequest controller busy (Err (Limit which)) w = Refuses (Limit which) w
AfterRequest controller busy (Err Memory) w = Refuses Memory w

abbrev pub Requests : Instance → SegmentAt → ControllerId → Bool → Act Bool
Requests instance segment controller busy w = Tries (Happens (Report instance segment.0 segment.1)) (AfterRequest controller busy) w

abbrev pub WithLeader : Instance → SegmentAt → Option ControllerId → Bool → Act Bool
WithLeader instance segment (Some controller) busy w = Requests instance segment controller busy w
WithLeader instance segment None busy w = Gives busy w

abbrev pub ExchangeTurn : Instance → SegmentAt → Bool → Act Bool
ExchangeTurn instance segment busy w = WithLeader instance segment (leader_in w) busy w

abbrev pub BuildAndExchange : Instance → SegmentAt → Bool → Act Bool
BuildAndExchange instance segment busy w = Then (BuildTurn instance segment busy) (ExchangeTurn instance segment) w

abbrev pub ReplicaTurn : Bool → Instance → SegmentAt → Bool → Act Bool
ReplicaTurn paused instance segment busy w = Then (ConsumeTurn paused instance segment busy) (BuildAndExchange instance segment) w

abbrev pub ReplicasHeld : Bool → Instance → Bool → Act Bool
ReplicasHeld paused instance busy w = Each (ReplicaTurn paused instance) (held_in w instance) busy w

-- the second part of a round, for one server
abbrev pub ReplicasTurn : Bool → ℕ → Bool → Act Bool
ReplicasTurn paused at busy w =
    Choose (up_in w (Server (record { 0 = at })))
    (ReplicasHeld paused (record { 0 = at }) busy w)
    (Gives busy w)

abbrev pub ServersTurn : Bool → Act Bool
ServersTurn busy w = EachFrom ServerTurn 0 w.setup.servers busy w

abbrev pub ReplicasOfAll : Bool → Bool → Act Bool
ReplicasOfAll paused busy w = EachFrom (ReplicasTurn paused) 0 w.setup.servers busy w

abbrev pub Round : Bool → Act Bool
Round paused w = Then (ServersTurn false) (ReplicasOfAll paused) w

abbrev pub AfterRound : Act Bool → Bool → Act Bool
AfterRound further true w = further w
AfterRound further false w = Gives true w

-- whether the last of so many rounds was quiet
abbrev pub SettlesIn : Bool → ℕ → Act Bool
SettlesIn paused zero w = Gives false w
SettlesIn paused (suc rounds) w = Then (Round paused) (AfterRound (SettlesIn paused rounds)) w

abbrev pub Settles : Bool → ℕ → Act Bool
Settles paused rounds w = Choose ((rounds == 0) || nat_lt MOST_ROUNDS rounds) (Refuses NothingToDo w) (SettlesIn paused rounds w)

-- the line that is reported
abbrev pub SettleTold : Bool → ℕ → Act (List ℕ)
SettleTold paused rounds w = Then (Settles paused rounds) (λ quiet. Gives (settled_text quiet)) w
