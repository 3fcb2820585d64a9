-- What comes of a round in which nothing happens but that servers see the ideal state.
use Rattle.std.proofs.Common.{◌≡◌, ℕ, zero, suc, ◌+◌, ◌<◌, ◌≤◌, ◌⊎◌, inl, inr, Bool, true, false, ◌&&◌, not, List, [], ◌∷◌, Option, Some, None, Result, Ok, Err, refl, sym, ◌∙◌, ap, subst, arith, nat_lt, slice_get}
use Rattle.std.specs.Prelude.{is_some}
use Rattle.std.proofs.lemmas.Bool.{and_cases, and_from, and_parts, cases_lt, false_from_ne_true, false≢true, lt-ltb, true≢false}
use Rattle.std.proofs.lemmas.Option.{none-some, same_Some, slice_get_within}
use Rattle.rt_base.specs.declared.numbers.ControllerId.{ControllerId}
use Rattle.rt_base.specs.declared.numbers.Instance.{Instance}
use Rattle.rt_base.specs.declared.numbers.Partition.{Partition}
use Rattle.rt_base.specs.declared.numbers.Sequence.{Sequence}
use Rattle.rt_broker.proofs.Lasting.{got_of_set}
use Rattle.rt_consumer.specs.Consumer.{IsConsumer, state_of}
use Rattle.rt_consumer.specs.Next.{takes_in}
use Rattle.rt_consumer.specs.Requests.{is_ready, size_in}
use Rattle.rt_consumer.specs.declared.consumer.Consumer.{Consumer}
use Rattle.rt_events.specs.declared.event.Event.{Event}
use Rattle.rt_events.specs.declared.event.Event.TheVariants.{See, Transit, Download, Consume, Build, Report}
use Rattle.rt_events.specs.declared.outcome.Outcome.{Outcome}
use Rattle.rt_events.specs.declared.refusal.Refusal.{Refusal}
use Rattle.rt_events.specs.declared.refusal.Refusal.TheVariants.{NoSuchMessage, NoSuchNode, NodeDown, NothingToDo, Limit, Memory}
use Rattle.rt_lists.specs.Members.{Has}
use Rattle.rt_macros.specs.Doing.{Act, Attempted, AttemptedBy, Choose, Each, EachFrom, Further, Gives, Happens, HappensBy, Passed, Reached, Then, after, stays}
use Rattle.rt_macros.specs.Settling.{AfterRequest, BuildAndExchange, BuildTurn, ConsumeTurn, DownloadTurn, Downloads, ExchangeTurn, ReplicaTurn, ReplicasHeld, ReplicasOfAll, ReplicasTurn, Requests, Round, SegmentAt, ServerTurn, ServersTurn, TransitTurn, Transits, TransitsAndDownloads, WithLeader, may_consume, waits_at}
use Rattle.rt_macros.specs.Exchanging.{AfterReport}
use Rattle.rt_macros.specs.declared.settling.TheConstants.{BATCH}
use Rattle.rt_model.specs.Entries.{entries_of}
use Rattle.rt_model.specs.declared.node.Seen.{Seen}
use Rattle.rt_model.specs.declared.replica_state.ReplicaState.{ReplicaState}
use Rattle.rt_model.specs.declared.setup.Setup.{Setup}
use Rattle.rt_nodes.specs.Replicas.{builds_now, passes, takes_now}
use Rattle.rt_nodes.specs.Requests.{asks_due}
use Rattle.rt_nodes.specs.declared.server_node.ServerNode.{ServerNode}
use Rattle.rt_replica.specs.Lasting.{IsReplica}
use Rattle.rt_server.specs.Calls.{targets_of, with_targets}
use Rattle.rt_server.specs.Due.{held_of}
use Rattle.rt_server.specs.Table.{Segment, ServerState, replica_of, segment_of}
use Rattle.rt_server.proofs.LastingEntries.{replica_held, segment}
use Rattle.rt_server.proofs.Listed.{held_has}
use Rattle.rt_state.specs.Finding.{find_server, is_server_up, is_up, replica_at, replica_in}
use Rattle.rt_state.specs.IsSafe.{past_of}
use Rattle.rt_state.specs.IsSafeWorld.{IsSafeWorld}
use Rattle.rt_state.specs.Requests.{report_by}
use Rattle.rt_state.specs.Room.{dropped, no_cost, then_due, upload_cost}
use Rattle.rt_state.specs.declared.state.State.{State}
use Rattle.rt_stream.specs.Log.{end_of, messages_of}
use Rattle.rt_world.specs.Reading.{due_transits_of, held_in, is_ready_at, is_ready_by, leader_in, listed_by, stage_at, wanted_in}
use Rattle.rt_world.specs.Step.{Steps, due_of}
use Rattle.rt_heal.specs.AtRest.{AreUp, IsAtRest}
use Rattle.rt_heal.specs.Calm.{IsCalm}
use Rattle.rt_heal.specs.Led.{IsLed}
use Rattle.rt_heal.specs.Resting.{IsIdle}
use Rattle.rt_safety.proofs.JobsOn.{own_slot}
use Rattle.rt_safety.specs.Runs.{Leads, Turn}
use Rattle.rt_heal.proofs.Nothing.{fails_test, nothing, transits_none, wanted_none}
use Rattle.rt_heal.proofs.Seeing.{HasSeen, IsHealthy, same_leader, see_healthy, see_told}

-- ---- what was told, and what was refused

abbrev told_so : {A : Type 0} → A → Result A Refusal
told_so x = Ok x

abbrev refused_so : {A : Type 0} → Refusal → Result A Refusal
refused_so e = Err e

pub told_not : {A : Type 0} (x : A) (e : Refusal) → told_so x ≡ refused_so e → ⊥
told_not x e h = cc

pub told_same : {A : Type 0} (x y : A) → told_so x ≡ told_so y → x ≡ y
told_same x y h = cc

-- ---- several things, of which the last told something

pub record IsThen {A B : Type 0} (first : Act A) (behind : A → Act B) (w : State) (v : Reached) (x : B) : Type 0 where
  pub between : Reached
  pub told : A
  pub last : Reached
  pub came : first w between (Ok told)
  pub further : behind told between.world last (Ok x)
  pub whole : v ≡ after between.turns last

pub then_parts : {A B : Type 0} (first : Act A) (behind : A → Act B) (w : State) (v : Reached) (x : B) → Then first behind w v (Ok x) → IsThen first behind w v x
then_parts {A} {B} first behind w v x t = by_told t.between t.told t.last t.came t.further t.whole
  where
    by_told : (b : Reached) (r : Result A Refusal) (l : Reached) → first w b r → Further behind b.world l r (Ok x) → v ≡ after b.turns l → IsThen first behind w v x
    by_told b (Ok a) l came further whole =
        record { between = b; told = a; last = l; came = came; further = further; whole = whole }
    by_told b (Err e) l came further whole = absurd (told_not x e further.1)

-- by no turn, and then by none
stays_both : (w : State) (b l v : Reached) → b ≡ stays w → l ≡ stays b.world → v ≡ after b.turns l → v ≡ stays w
stays_both w b l v first second whole =
    whole ∙ ap (after b.turns) second ∙ ap (λ (x : Reached). after x.turns (stays x.world)) first

-- ---- an event that had nothing to do

record IsNothing (event : Event) (busy : Bool) (w : State) (v : Reached) : Type 0 where
  same : v ≡ stays w
  unbusy : busy ≡ false
  refused : due_of w event ≡ nothing

attempt_quiet : (event : Event) (busy : Bool) (w : State) (v : Reached) → Attempted event busy w v (Ok false) → IsNothing event busy w v
attempt_quiet event busy w v t = by_told t.between t.told t.last t.came.by t.further t.whole
  where
    by_told : (b : Reached) (r : Result Outcome Refusal) (l : Reached) → HappensBy event w b r → AttemptedBy busy r b.world l (Ok false)
        → v ≡ after b.turns l → IsNothing event busy w v
    by_told b (Ok outcome) l by further whole = absurd (false≢true (told_same false true further.1))
    by_told b (Err NothingToDo) l by further whole =
        record { same = stays_both w b l v by.1 further.0 whole; unbusy = sym (told_same false busy further.1); refused = by.0 }
    by_told b (Err NoSuchMessage) l by further whole = absurd (told_not false NoSuchMessage further.1)
    by_told b (Err NoSuchNode) l by further whole = absurd (told_not false NoSuchNode further.1)
    by_told b (Err NodeDown) l by further whole = absurd (told_not false NodeDown further.1)
    by_told b (Err (Limit which)) l by further whole = absurd (told_not false (Limit which) further.1)
    by_told b (Err Memory) l by further whole = absurd (told_not false Memory further.1)

-- ---- turns in which nothing happened

record IsQuiet (F : State → Type 0) (busy : Bool) (w : State) (v : Reached) : Type 0 where
  same : v ≡ stays w
  unbusy : busy ≡ false
  so : F w

abbrev Quiets : {X : Type 0} → (X → Bool → Act Bool) → (X → State → Type 0) → Type 0
Quiets {X} act F = (x : X) (busy : Bool) (w : State) (v : Reached) → act x busy w v (Ok false) → IsQuiet (F x) busy w v

each_quiet : {X : Type 0} (act : X → Bool → Act Bool) (F : X → State → Type 0) → Quiets act F → (xs : List X) (busy : Bool) (w : State) (v : Reached)
    → Each act xs busy w v (Ok false) → IsQuiet (λ u. (x : X) → Has xs x → F x u) busy w v
each_quiet act F quiet [] busy w v h =
    record { same = h.0; unbusy = sym (told_same false busy h.1); so = λ x has. absurd has }
each_quiet {X} act F quiet (x ∷ xs) busy w v h =
    let t = then_parts (act x busy) (Each act xs) w v false h in
    let rest = each_quiet act F quiet xs t.told t.between.world t.last t.further in
    let here = quiet x busy w t.between (subst (λ (b : Bool). act x busy w t.between (Ok b)) rest.unbusy t.came) in
    record { same = stays_both w t.between t.last v here.same rest.same t.whole; unbusy = here.unbusy; so = all here.so here.same rest.so }
  where
    all : {b : Reached} → F x w → b ≡ stays w → ((y : X) → Has xs y → F y b.world) → (y : X) → Has (x ∷ xs) y → F y w
    all {b} first same later y (inl is) = subst (λ (z : X). F z w) is first
    all {b} first same later y (inr has) = subst (λ (u : Reached). F y u.world) same (later y has)

from_quiet : (act : ℕ → Bool → Act Bool) (F : ℕ → State → Type 0) → Quiets act F → (first count : ℕ) (busy : Bool) (w : State) (v : Reached)
    → EachFrom act first count busy w v (Ok false) → IsQuiet (λ u. (i : ℕ) → first ≤ i → i < first + count → F i u) busy w v
from_quiet act F quiet first zero busy w v h =
    record { same = h.0; unbusy = sym (told_same false busy h.1); so = λ i least most. absurd (omega (arith, least, most)) }
from_quiet act F quiet first (suc count) busy w v h =
    let t = then_parts (act first busy) (EachFrom act (first + 1) count) w v false h in
    let rest = from_quiet act F quiet (first + 1) count t.told t.between.world t.last t.further in
    let here = quiet first busy w t.between (subst (λ (b : Bool). act first busy w t.between (Ok b)) rest.unbusy t.came) in
    record { same = stays_both w t.between t.last v here.same rest.same t.whole; unbusy = here.unbusy; so = all here.so here.same rest.so }
  where
    by_place : {b : Reached} → F first w → b ≡ stays w → ((i : ℕ) → first + 1 ≤ i → i < (first + 1) + count → F i b.world)
        → (i : ℕ) → first ≤ i → i < first + suc count → (first < i) ⊎ (i ≤ first) → F i w
    by_place {b} here same later i least most (inl lt) = subst (λ (u : Reached). F i u.world) same (later i (omega (arith, lt)) (omega (arith, most)))
    by_place {b} here same later i least most (inr le) = let is : first ≡ i = omega (arith, least, le) in subst (λ (j : ℕ). F j w) is here

    all : {b : Reached} → F first w → b ≡ stays w → ((i : ℕ) → first + 1 ≤ i → i < (first + 1) + count → F i b.world)
        → (i : ℕ) → first ≤ i → i < first + suc count → F i w
    all {b} here same later i least most = by_place here same later i least most (cases_lt first i)

-- ---- the turn of a replica

pub record HasNothing (i : Instance) (s : SegmentAt) (w : State) : Type 0 where
  pub consume : may_consume false w i s ≡ true → due_of w (Consume i s.0 s.1 BATCH) ≡ nothing
  pub build : due_of w (Build i s.0 s.1) ≡ nothing
  pub report : due_of w (Report i s.0 s.1) ≡ nothing

consume_quiet : (i : Instance) (s : SegmentAt) (busy : Bool) (w : State) (v : Reached) → ConsumeTurn false i s busy w v (Ok false)
    → IsQuiet (λ u. may_consume false u i s ≡ true → due_of u (Consume i s.0 s.1 BATCH) ≡ nothing) busy w v
consume_quiet i s busy w v h = by_test (may_consume false w i s) refl h
  where
    by_test : (b : Bool) → may_consume false w i s ≡ b → Choose b (Attempted (Consume i s.0 s.1 BATCH) busy w) (Gives busy w) v (Ok false)
        → IsQuiet (λ u. may_consume false u i s ≡ true → due_of u (Consume i s.0 s.1 BATCH) ≡ nothing) busy w v
    by_test true e t =
        let a = attempt_quiet (Consume i s.0 s.1 BATCH) busy w v t in record { same = a.same; unbusy = a.unbusy; so = λ may. a.refused }
    by_test false e t =
        record { same = t.0; unbusy = sym (told_same false busy t.1); so = λ may. absurd (true≢false (sym may ∙ e)) }

report_quiet : (i : Instance) (s : SegmentAt) (c : ControllerId) (busy : Bool) (w : State) (v : Reached) → Requests i s c busy w v (Ok false)
    → IsNothing (Report i s.0 s.1) busy w v
report_quiet i s c busy w v t = by_told t.between t.told t.last t.came.by t.further t.whole
  where
    by_told : (b : Reached) (r : Result Outcome Refusal) (l : Reached) → HappensBy (Report i s.0 s.1) w b r → AfterRequest c busy r b.world l (Ok false)
        → v ≡ after b.turns l → IsNothing (Report i s.0 s.1) busy w v
    by_told b (Ok outcome) l by further whole =
        let t = then_parts (AfterReport c outcome) (λ exchanged. Gives true) b.world l false further in
        absurd (false≢true (told_same false true t.further.1))
    by_told b (Err NothingToDo) l by further whole =
        record { same = stays_both w b l v by.1 further.0 whole; unbusy = sym (told_same false busy further.1); refused = by.0 }
    by_told b (Err NoSuchMessage) l by further whole = absurd (told_not false NoSuchMessage further.1)
    by_told b (Err NoSuchNode) l by further whole = absurd (told_not false NoSuchNode further.1)
    by_told b (Err NodeDown) l by further whole = absurd (told_not false NodeDown further.1)
    by_told b (Err (Limit which)) l by further whole = absurd (told_not false (Limit which) further.1)
    by_told b (Err Memory) l by further whole = absurd (told_not false Memory further.1)

-- where there is a controller to ask
abbrev IfLed : (State → Type 0) → State → Type 0
IfLed F w = IsLed w → F w

exchange_quiet : (i : Instance) (s : SegmentAt) (busy : Bool) (w : State) (v : Reached) → ExchangeTurn i s busy w v (Ok false)
    → IsQuiet (IfLed (λ u. due_of u (Report i s.0 s.1) ≡ nothing)) busy w v
exchange_quiet i s busy w v h = by_leader (leader_in w) refl h
  where
    by_leader : (o : Option ControllerId) → leader_in w ≡ o → WithLeader i s o busy w v (Ok false)
        → IsQuiet (IfLed (λ u. due_of u (Report i s.0 s.1) ≡ nothing)) busy w v
    by_leader (Some c) e t = let a = report_quiet i s c busy w v t in record { same = a.same; unbusy = a.unbusy; so = λ led. a.refused }
    by_leader None e t =
        record { same = t.0; unbusy = sym (told_same false busy t.1); so = λ led. absurd (none-some led.0 (sym e ∙ led.1)) }

replica_quiet : (i : Instance) → Quiets (ReplicaTurn false i) (λ s. IfLed (HasNothing i s))
replica_quiet i s busy w v h =
    let t = then_parts (ConsumeTurn false i s busy) (BuildAndExchange i s) w v false h in
    let u = then_parts (BuildTurn i s t.told) (ExchangeTurn i s) t.between.world t.last false t.further in
    let third = exchange_quiet i s u.told u.between.world u.last u.further in
    let second = attempt_quiet (Build i s.0 s.1) t.told t.between.world u.between
    (subst (λ (b : Bool). BuildTurn i s t.told t.between.world u.between (Ok b)) third.unbusy u.came) in
    let first = consume_quiet i s busy w t.between (subst (λ (b : Bool). ConsumeTurn false i s busy w t.between (Ok b)) second.unbusy t.came) in
    let back = ap (λ (x : Reached). x.world) second.same in
    let start = ap (λ (x : Reached). x.world) first.same in
    record {
      same = stays_both w t.between t.last v first.same (stays_both t.between.world u.between u.last t.last second.same third.same u.whole) t.whole;
      unbusy = first.unbusy;
      so = λ led. record {
        consume = first.so;
        build = subst (λ (x : State). due_of x (Build i s.0 s.1) ≡ nothing) start second.refused;
        report =
            subst (λ (x : State). due_of x (Report i s.0 s.1) ≡ nothing) (back ∙ start)
            (third.so (subst IsLed (sym (back ∙ start)) led));
      };
    }

held_quiet : Quiets (λ i. ReplicasTurn false i) (λ i u. IsLed u → is_server_up u (record { 0 = i }) ≡ true
    → (s : SegmentAt) → Has (held_in u (record { 0 = i })) s → HasNothing (record { 0 = i }) s u)
held_quiet i busy w v h = by_up (is_server_up w (record { 0 = i })) refl h
  where
    by_up : (b : Bool) → is_server_up w (record { 0 = i }) ≡ b
        → Choose b (ReplicasHeld false (record { 0 = i }) busy w) (Gives busy w) v (Ok false)
        → IsQuiet (λ u. IsLed u → is_server_up u (record { 0 = i }) ≡ true
        → (s : SegmentAt) → Has (held_in u (record { 0 = i })) s → HasNothing (record { 0 = i }) s u) busy w v
    by_up true e t =
        let q = each_quiet (ReplicaTurn false (record { 0 = i })) (λ s. IfLed (HasNothing (record { 0 = i }) s)) (replica_quiet (record { 0 = i }))
        (held_in w (record { 0 = i })) busy w v t in
        record { same = q.same; unbusy = q.unbusy; so = λ led up s has. q.so s has led }
    by_up false e t =
        record { same = t.0; unbusy = sym (told_same false busy t.1); so = λ led up s has. absurd (true≢false (sym up ∙ e)) }

-- ---- the first part of a round

transit_quiet : (i : Instance) → Quiets (TransitTurn i) (λ s x. due_of x (Transit i s.0 s.1) ≡ nothing)
transit_quiet i s busy w v h =
    let a = attempt_quiet (Transit i s.0 s.1) busy w v h in record { same = a.same; unbusy = a.unbusy; so = a.refused }

download_quiet : (i : Instance) → Quiets (DownloadTurn i) (λ s x. due_of x (Download i s.0 s.1) ≡ nothing)
download_quiet i s busy w v h =
    let a = attempt_quiet (Download i s.0 s.1) busy w v h in record { same = a.same; unbusy = a.unbusy; so = a.refused }

-- servers below a number are calm
abbrev pub AreCalm : ℕ → State → Type 0
AreCalm first w = (i : ℕ) (n : ServerNode) → slice_get w.servers i ≡ Some n → i < first → IsCalm w.store.writes n

record IsCalmUpTo (from : State) (first : ℕ) (y : State) : Type 0 where
  healthy : IsHealthy from y
  calm : AreCalm first y

abbrev pub GoesOn : ℕ → Bool → Act Bool
GoesOn i busy x = Then (Passed (See (record { 0 = i }))) (λ done. TransitsAndDownloads (record { 0 = i }) busy) x

-- the turn of a server that is up: it saw the ideal state, and had nothing else to do
record HasTurned (i : ℕ) (busy : Bool) (w : State) (v : Reached) : Type 0 where
  outcome : Outcome
  now : State
  step : Steps w (See (record { 0 = i })) now (Ok outcome)
  end : v.world ≡ now
  unbusy : busy ≡ false
  moves : (s : SegmentAt) → Has (due_transits_of now (record { 0 = i })) s → due_of now (Transit (record { 0 = i }) s.0 s.1) ≡ nothing
  loads : (s : SegmentAt) → Has (wanted_in now (record { 0 = i })) s → due_of now (Download (record { 0 = i }) s.0 s.1) ≡ nothing

turn_parts : (i : ℕ) (busy : Bool) (w : State) (v : Reached) → GoesOn i busy w v (Ok false) → HasTurned i busy w v
turn_parts i busy w v g =
    let at : Instance = record { 0 = i } in
    let t = then_parts (Passed (See at)) (λ done. TransitsAndDownloads at busy) w v false g in
    let u = then_parts (Happens (See at)) (λ outcome. Gives tt) w t.between t.told t.came in
    let d = then_parts (Transits at busy) (Downloads at) t.between.world t.last false t.further in
    let at_now : t.between.world ≡ u.between.world = ap (λ (x : Reached). x.world) u.whole ∙ ap (λ (x : Reached). x.world) u.further.0 in
    let loads = each_quiet (DownloadTurn at) (λ s x. due_of x (Download at s.0 s.1) ≡ nothing) (download_quiet at)
    (wanted_in d.between.world at) d.told d.between.world d.last d.further in
    let moves = each_quiet (TransitTurn at) (λ s x. due_of x (Transit at s.0 s.1) ≡ nothing) (transit_quiet at)
    (due_transits_of t.between.world at) busy t.between.world d.between
    (subst (λ (b : Bool). Transits at busy t.between.world d.between (Ok b)) loads.unbusy d.came) in
    let last = stays_both t.between.world d.between d.last t.last moves.same loads.same d.whole in
    let back : d.between.world ≡ u.between.world = ap (λ (x : Reached). x.world) moves.same ∙ at_now in
    record {
      outcome = u.told;
      now = u.between.world;
      step = u.came.by.0;
      end = ap (λ (x : Reached). x.world) t.whole ∙ ap (λ (x : Reached). x.world) last ∙ at_now;
      unbusy = moves.unbusy;
      moves = subst (λ (x : State). (s : SegmentAt) → Has (due_transits_of x at) s → due_of x (Transit at s.0 s.1) ≡ nothing) at_now moves.so;
      loads = subst (λ (x : State). (s : SegmentAt) → Has (wanted_in x at) s → due_of x (Download at s.0 s.1) ≡ nothing) back loads.so;
    }

-- a turn before which something happened doesn't tell that nothing did
server_unbusy : (i : ℕ) (busy : Bool) (w : State) (v : Reached) → ServerTurn i busy w v (Ok false) → busy ≡ false
server_unbusy i busy w v h = by_up (is_server_up w (record { 0 = i })) h
  where
    by_up : (b : Bool) → Choose b (GoesOn i busy w) (Gives busy w) v (Ok false) → busy ≡ false
    by_up true g = (turn_parts i busy w v g).unbusy
    by_up false g = sym (told_same false busy g.1)

servers_unbusy : (first count : ℕ) (busy : Bool) (w : State) (v : Reached) → EachFrom ServerTurn first count busy w v (Ok false) → busy ≡ false
servers_unbusy first zero busy w v h = sym (told_same false busy h.1)
servers_unbusy first (suc count) busy w v h =
    let t = then_parts (ServerTurn first busy) (EachFrom ServerTurn (first + 1) count) w v false h in
    let rest = servers_unbusy (first + 1) count t.told t.between.world t.last t.further in
    server_unbusy first busy w t.between (subst (λ (b : Bool). ServerTurn first busy w t.between (Ok b)) rest t.came)

module _ (from : State) (i : ℕ) (w : State) (n : ServerNode) (k : IsHealthy from w) (calm : AreCalm i w) (there : slice_get w.servers i ≡ Some n) where
  -- the server is calm behind its turn
  calm_here : (busy : Bool) (v : Reached) (t : HasTurned i busy w v) → HasSeen w (record { 0 = i }) n t.now → IsHealthy from t.now
      → (m : ServerNode) → slice_get t.now.servers i ≡ Some m → IsCalm t.now.store.writes m
  calm_here busy v t seen healthy m here =
      let new : slice_get t.now.servers i ≡ Some seen.new =
      ap (λ (x : State). slice_get x.servers i) seen.is ∙ own_slot w.servers i n seen.new there in
      let writes : t.now.store.writes ≡ w.store.writes = ap (λ (x : State). x.store.writes) seen.is ∙ seen.writes in
      let server : m.server ≡ with_targets n.server (targets_of n.server.numbers.instance (entries_of w.store.writes)) =
      ap (λ (x : ServerNode). x.server) (same_Some m seen.new (sym here ∙ new)) ∙ seen.server in
      record {
        seen =
            ap (λ (x : ServerState). x.table.targets) server
            ∙ ap (λ (x : ServerState). targets_of x.numbers.instance (entries_of w.store.writes)) (sym server)
            ∙ ap (λ (g : List Seen). targets_of m.server.numbers.instance (entries_of g)) (sym writes);
        moved = transits_none t.now (record { 0 = i }) m here t.moves;
        loaded = wanted_none t.now (record { 0 = i }) m here (healthy.safe.safe.servers i m here).over.kept.ascending t.loads;
      }

  calm_others : (busy : Bool) (v : Reached) (t : HasTurned i busy w v) → HasSeen w (record { 0 = i }) n t.now
      → (j : ℕ) (m : ServerNode) → slice_get t.now.servers j ≡ Some m → j < i → IsCalm t.now.store.writes m
  calm_others busy v t seen j m found lt =
      by_old (got_of_set w.servers i j seen.new m (ap (λ (x : State). slice_get x.servers j) (sym seen.is) ∙ found))
    where
      writes : t.now.store.writes ≡ w.store.writes
      writes = ap (λ (x : State). x.store.writes) seen.is ∙ seen.writes

      by_old : ((j ≡ i) × (m ≡ seen.new)) ⊎ (slice_get w.servers j ≡ Some m) → IsCalm t.now.store.writes m
      by_old (inl same) = absurd (omega (arith, lt, same.0))
      by_old (inr old) = subst (λ (g : List Seen). IsCalm g m) (sym writes) (calm j m old lt)

  turn_calms : (busy : Bool) (v : Reached) → GoesOn i busy w v (Ok false) → IsCalmUpTo from (i + 1) v.world
  turn_calms busy v g =
      let t = turn_parts i busy w v g in
      let seen = see_told from w (record { 0 = i }) n t.now t.outcome k there t.step in
      let healthy = see_healthy from w (record { 0 = i }) n t.now t.outcome k there t.step seen in
      subst (IsCalmUpTo from (i + 1)) (sym t.end)
      (record { healthy = healthy; calm = λ j m found below. by_place t seen healthy j m found below (cases_lt j i) })
    where
      by_place : (t : HasTurned i busy w v) → HasSeen w (record { 0 = i }) n t.now → IsHealthy from t.now → (j : ℕ) (m : ServerNode)
          → slice_get t.now.servers j ≡ Some m → j < i + 1 → (j < i) ⊎ (i ≤ j) → IsCalm t.now.store.writes m
      by_place t seen healthy j m found below (inl lt) = calm_others busy v t seen j m found lt
      by_place t seen healthy j m found below (inr le) =
          let is : j ≡ i = omega (arith, le, below) in
          calm_here busy v t seen healthy m (ap (slice_get t.now.servers) (sym is) ∙ found)

server_quiet : (from : State) (i : ℕ) (busy : Bool) (w : State) (v : Reached) → IsHealthy from w → AreCalm i w → ServerTurn i busy w v (Ok false)
    → IsCalmUpTo from (i + 1) v.world
server_quiet from i busy w v k calm h = by_node (slice_get w.servers i) refl h
  where
    none_more : slice_get w.servers i ≡ None → (j : ℕ) (m : ServerNode) → slice_get w.servers j ≡ Some m → j < i + 1 → (j < i) ⊎ (i ≤ j) → IsCalm w.store.writes m
    none_more none j m found below (inl lt) = calm j m found lt
    none_more none j m found below (inr le) =
        let is : j ≡ i = omega (arith, le, below) in absurd (none-some m (sym none ∙ ap (slice_get w.servers) (sym is) ∙ found))

    by_node : (o : Option ServerNode) → slice_get w.servers i ≡ o → Choose (is_up o) (GoesOn i busy w) (Gives busy w) v (Ok false)
        → IsCalmUpTo from (i + 1) v.world
    by_node None none g =
        subst (λ (x : Reached). IsCalmUpTo from (i + 1) x.world) (sym g.0)
        (record { healthy = k; calm = λ j m found below. none_more none j m found below (cases_lt j i) })
    by_node (Some n) there g =
        turn_calms from i w n k calm there busy v (subst (λ (b : Bool). Choose b (GoesOn i busy w) (Gives busy w) v (Ok false)) (k.up i n there) g)

servers_quiet : (from : State) (first count : ℕ) (busy : Bool) (w : State) (v : Reached) → IsHealthy from w → AreCalm first w
    → EachFrom ServerTurn first count busy w v (Ok false) → IsCalmUpTo from (first + count) v.world
servers_quiet from first zero busy w v k calm h =
    subst (λ (x : Reached). IsCalmUpTo from (first + 0) x.world) (sym h.0)
    (record { healthy = k; calm = λ j m found below. calm j m found (omega (arith, below)) })
servers_quiet from first (suc count) busy w v k calm h =
    let t = then_parts (ServerTurn first busy) (EachFrom ServerTurn (first + 1) count) w v false h in
    let unbusy = servers_unbusy (first + 1) count t.told t.between.world t.last t.further in
    let here = server_quiet from first busy w t.between k calm (subst (λ (b : Bool). ServerTurn first busy w t.between (Ok b)) unbusy t.came) in
    let rest = servers_quiet from (first + 1) count t.told t.between.world t.last here.healthy here.calm t.further in
    subst (IsCalmUpTo from (first + suc count)) (sym (ap (λ (x : Reached). x.world) t.whole))
    (record { healthy = rest.healthy; calm = λ j m found below. rest.calm j m found (omega (arith, below)) })

-- ---- a replica that had nothing to do

module _ (w : State) (i : ℕ) (n : ServerNode) (s : IsSafeWorld w) (there : slice_get w.servers i ≡ Some n) (p : Partition) (q : Sequence) (r : Consumer)
    (found : replica_of n.server.table p q ≡ Some r) (none : HasNothing (record { 0 = i }) (p, q) w) where
  at_server : replica_at w (record { 0 = i }) p q ≡ Some r
  at_server = ap (λ (o : Option ServerNode). replica_in o p q) there ∙ found

  over : (segment_of r ≡ segment p q) × IsConsumer r × IsReplica w.setup (past_of w) n.server.numbers.instance n.server.numbers.incarnation r
  over = replica_held w.setup (past_of w) n.server (s.safe.servers i n there).over p q r found

  of_partition : r.partition ≡ p
  of_partition = ap (λ (x : Segment). x.0) over.0

  abbrev ready : Bool
  ready = is_ready r (end_of (messages_of w.log r.partition)) w.moment

  waits_not : (o : Option ReplicaState) → not (waits_at false o) ≡ true
  waits_not None = refl
  waits_not (Some stage) = refl

  -- one that is ready may consume
  may : ready ≡ true → may_consume false w (record { 0 = i }) (p, q) ≡ true
  may is =
      let within : nat_lt p.0 w.setup.partitions ≡ true =
      lt-ltb p.0 w.setup.partitions (subst (λ (x : Partition). x.0 < w.setup.partitions) of_partition over.2.partition) in
      let now : is_ready_by w p (replica_at w (record { 0 = i }) p q) ≡ true =
      ap (is_ready_by w p) at_server ∙ ap (λ (x : Partition). is_ready r (end_of (messages_of w.log x)) w.moment) (sym of_partition) ∙ is in
      and_from (is_ready_at w (record { 0 = i }) p q) (not (waits_at false (stage_at w (record { 0 = i }) p q)))
      (and_from (nat_lt p.0 w.setup.partitions) (is_ready_by w p (replica_at w (record { 0 = i }) p q)) within now)
      (waits_not (stage_at w (record { 0 = i }) p q))

  takes_none : ready ≡ true → takes_in (state_of r.phase) ≡ false
  takes_none is =
      let fails = fails_test w (record { 0 = i }) p (passes (takes_now BATCH) (replica_at w (record { 0 = i }) p q)) no_cost (none.consume (may is)) in
      by_both (and_cases (takes_in (state_of r.phase)) (nat_lt 0 BATCH) (ap (passes (takes_now BATCH)) (sym at_server) ∙ fails))
    where
      by_both : (takes_in (state_of r.phase) ≡ false) ⊎ (nat_lt 0 BATCH ≡ false) → takes_in (state_of r.phase) ≡ false
      by_both (inl none) = none
      by_both (inr empty) = absurd (true≢false empty)

  pub is_idle : IsIdle w.log w.moment r
  is_idle =
      record {
        taken = false_from_ne_true (takes_in (state_of r.phase) && ready)
            (λ both. let parts = and_parts (takes_in (state_of r.phase)) ready both in true≢false (sym parts.0 ∙ takes_none parts.1));
        built =
            ap (passes builds_now) (sym at_server)
            ∙ fails_test w (record { 0 = i }) p (passes builds_now (replica_at w (record { 0 = i }) p q)) no_cost none.build;
        asked =
            fails_test w (record { 0 = i }) p (asks_due r) (upload_cost (size_in r.phase))
            (subst (λ (o : Option Consumer). dropped (then_due (find_server w (record { 0 = i }) p) (report_by w o)) ≡ nothing) at_server none.report);
      }

-- ---- a round

-- what a quiet round leaves
pub record HasRested (from w : State) : Type 0 where
  pub safe : IsSafeWorld w
  pub reached : (turns : List Turn) × Leads from turns w
  pub unplanned : w.store.faults.plan ≡ []
  pub rest : IsAtRest w

pub round_leaves : (w : State) (v : Reached) → IsSafeWorld w → AreUp w → w.store.faults.plan ≡ [] → IsLed w → Round false w v (Ok false)
    → HasRested w v.world
round_leaves w v safe up unplanned led h =
    let t = then_parts (ServersTurn false) (ReplicasOfAll false) w v false h in
    let y = t.between.world in
    let q = from_quiet (ReplicasTurn false)
    (λ i u. IsLed u → is_server_up u (record { 0 = i }) ≡ true → (s : SegmentAt) → Has (held_in u (record { 0 = i })) s → HasNothing (record { 0 = i }) s u)
    held_quiet 0 y.setup.servers t.told y t.last t.further in
    let k : IsHealthy w w = record { safe = safe; same = refl; log = refl; written = refl; up = up; unplanned = unplanned; controllers = refl; reached = ([], refl) } in
    let calm = servers_quiet w 0 w.setup.servers false w t.between k (λ i n found below. absurd (omega (arith, below)))
    (subst (λ (b : Bool). ServersTurn false w t.between (Ok b)) q.unbusy t.came) in
    let end : v.world ≡ y = ap (λ (x : Reached). x.world) t.whole ∙ ap (λ (x : Reached). x.world) q.same in
    subst (HasRested w) (sym end)
    (record {
      safe = calm.healthy.safe;
      reached = calm.healthy.reached;
      unplanned = calm.healthy.unplanned;
      rest = all y calm q.so;
    })
  where
    all : (y : State) → IsCalmUpTo w (0 + w.setup.servers) y
        → ((i : ℕ) → 0 ≤ i → i < 0 + y.setup.servers → IsLed y → is_server_up y (record { 0 = i }) ≡ true
        → (s : SegmentAt) → Has (held_in y (record { 0 = i })) s → HasNothing (record { 0 = i }) s y)
        → IsAtRest y
    all y c replicas i n there =
        let safe = c.healthy.safe in
        let within = slice_get_within y.servers i n there in
        let count = safe.safe.all_servers in
        let same : y.setup.servers ≡ w.setup.servers = ap (λ (x : Setup). x.servers) c.healthy.same in
        let calm = c.calm i n there (omega (arith, within, count, same)) in
        let up : is_server_up y (record { 0 = i }) ≡ true = ap is_up there ∙ c.healthy.up i n there in
        let kept = (safe.safe.servers i n there).over.kept in
        record {
          up = c.healthy.up i n there;
          rests = record {
            seen = calm.seen;
            moved = calm.moved;
            loaded = calm.loaded;
            replicas = λ p q r found.
                let H : Option ServerNode → Type 0 = λ o. Has (listed_by held_of o) (p, q) in
                let has = subst H (sym there) ((held_has n.server.table p q kept.ascending).1 (ap is_some found)) in
                is_idle y i n safe there p q r found (replicas i (omega arith) (omega (arith, within, count)) (led.0, same_leader y w c.healthy.controllers ∙ led.1) up (p, q) has);
          };
        }

pub round_quiet : (w : State) (v : Reached) → IsSafeWorld w → AreUp w → w.store.faults.plan ≡ [] → IsLed w → Round false w v (Ok false)
    → IsAtRest v.world
round_quiet w v safe up unplanned led h = (round_leaves w v safe up unplanned led h).rest
