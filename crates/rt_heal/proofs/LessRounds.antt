-- A round in which no replica asks leaves less to do if anything happened in it, and so `settle` ends.
use Rattle.std.proofs.Common.{◌≡◌, ℕ, zero, suc, ◌+◌, ◌<◌, ◌≤◌, ◌⊎◌, inl, inr, Bool, true, false, not, List, [], ◌∷◌, Option, Some, None, map, Result, Ok, Err, refl, sym, ◌∙◌, ap, subst, arith}
use Rattle.std.specs.Prelude.{◌==◌, ◌||◌, nat_lt, slice_get, slice_set}
use Rattle.std.proofs.lemmas.Option.{none-some, same_Some}
use Rattle.std.proofs.lemmas.Bool.{and_parts, false≢true, true≢false}
use Rattle.rt_base.specs.declared.numbers.ControllerId.{ControllerId}
use Rattle.rt_base.specs.declared.numbers.Instance.{Instance}
use Rattle.rt_base.specs.declared.numbers.Partition.{Partition}
use Rattle.rt_base.specs.declared.numbers.Sequence.{Sequence}
use Rattle.rt_broker.proofs.Lasting.{got_of_set}
use Rattle.rt_events.specs.declared.event.Event.{Event}
use Rattle.rt_events.specs.declared.event.Event.TheVariants.{Build, Consume, Report, See}
use Rattle.rt_events.specs.declared.outcome.Outcome.{Outcome}
use Rattle.rt_events.specs.declared.refusal.Refusal.{Refusal}
use Rattle.rt_events.specs.declared.refusal.Refusal.TheVariants.{NoSuchMessage, NoSuchNode, NodeDown, NothingToDo, Limit, Memory}
use Rattle.rt_macros.specs.Doing.{Act, Attempted, AttemptedBy, Choose, Each, EachFrom, Gives, Happens, HappensBy, Passed, Reached, Refuses, Then, after, stays}
use Rattle.rt_macros.specs.Settling.{AfterRequest, AfterRound, BuildAndExchange, BuildTurn, ConsumeTurn, DownloadTurn, Downloads, ExchangeTurn, ReplicaTurn, ReplicasHeld, ReplicasOfAll, ReplicasTurn, Requests, Round, SegmentAt, ServerTurn, ServersTurn, Settles, SettlesIn, TransitTurn, Transits, TransitsAndDownloads, WithLeader, may_consume, waits_in}
use Rattle.rt_macros.specs.declared.settling.TheConstants.{BATCH, MOST_ROUNDS}
use Rattle.rt_lists.specs.Members.{Has}
use Rattle.rt_lists.proofs.Members.{Has-append_left, Has-append_right}
use Rattle.rt_model.specs.Entries.{entries_of}
use Rattle.rt_model.specs.declared.ideal_state.Mode.{Mode}
use Rattle.rt_model.specs.declared.node.Seen.{Seen}
use Rattle.rt_nodes.specs.declared.server_node.ServerNode.{ServerNode}
use Rattle.rt_safety.proofs.JobsOn.{own_slot}
use Rattle.rt_safety.specs.Runs.{happens, Turn}
use Rattle.rt_server.specs.Calls.{targets_of, with_targets}
use Rattle.rt_server.specs.Due.{due_of as due_segments, wanted_of}
use Rattle.rt_server.specs.Table.{entry_of, wants_at, Segment, ServerState}
use Rattle.rt_server.specs.Transition.{transit_due}
use Rattle.rt_server.proofs.Listed.{due_has, wanted_has}
use Rattle.rt_state.specs.Finding.{is_server_up, is_up}
use Rattle.rt_state.specs.IsSafeWorld.{IsSafeWorld}
use Rattle.rt_state.specs.declared.state.State.{State}
use Rattle.rt_store.specs.Meaning.{Told}
use Rattle.rt_stream.specs.Log.{Log}
use Rattle.rt_world.proofs.SafeSteps.{steps_keep}
use Rattle.rt_world.specs.Reading.{due_transits_of, held_in, is_ready_at, leader_in, listed_by, wanted_in}
use Rattle.rt_world.specs.Step.{Steps}
use Rattle.rt_heal.specs.Asks.{Asks}
use Rattle.rt_heal.specs.AtRest.{AreUp}
use Rattle.rt_heal.specs.Calm.{AreAllCalm, IsCalm}
use Rattle.rt_heal.specs.Left.{left_entries, left_in_world, left_server, left_servers, CanAllFollow, CanFollowEntry}
use Rattle.rt_heal.proofs.Dropped.{leads_told, IsToldRightly}
use Rattle.rt_heal.proofs.LessWorld.{builds_less, consumes_less, LeavesLess}
use Rattle.rt_heal.proofs.Quiet.{IsThen, then_parts, told_not, told_same}
use Rattle.rt_heal.proofs.Seeing.{HasSeen, IsHealthy, same_leader, see_healthy, see_told}

-- a world in which all servers are up and have nothing to move, no fault of the store is planned, and each replica that is sent to a
-- target can come to it
pub record IsSteady (w : State) : Type 0 where
  pub safe : IsSafeWorld w
  pub unplanned : w.store.faults.plan ≡ []
  pub up : AreUp w
  pub calm : AreAllCalm w
  pub follow : CanAllFollow w

-- no more is left, and less if it is told that something happened and wasn't before
pub record HasLeft (w : State) (busy : Bool) (v : State) (told : Bool) : Type 0 where
  pub steady : IsSteady v
  pub controllers : v.controllers ≡ w.controllers
  pub log : v.log ≡ w.log
  pub written : v.store.writes ≡ w.store.writes
  pub most : left_in_world v ≤ left_in_world w
  pub less : told ≡ true → (busy ≡ true) ⊎ (left_in_world v < left_in_world w)

left_still : (w : State) (busy : Bool) (v : Reached) (told : Bool) → IsSteady w → v ≡ stays w → told ≡ busy → HasLeft w busy v.world told
left_still w busy v told k stayed same =
    subst (λ (x : Reached). HasLeft w busy x.world told) (sym stayed) (record { steady = k; controllers = refl; log = refl; written = refl; most = omega arith; less = λ e. inl (sym same ∙ e) })

left_then : (w m v : State) (busy between told : Bool) → HasLeft w busy m between → HasLeft m between v told → HasLeft w busy v told
left_then w m v busy between told x y =
    record {
      steady = y.steady;
      controllers = y.controllers ∙ x.controllers;
      log = y.log ∙ x.log;
      written = y.written ∙ x.written;
      most = omega (arith, x.most, y.most);
      less = λ e. by_last (y.less e);
    }
  where
    by_first : (busy ≡ true) ⊎ (left_in_world m < left_in_world w) → (busy ≡ true) ⊎ (left_in_world v < left_in_world w)
    by_first (inl e) = inl e
    by_first (inr lt) = inr (omega (arith, lt, y.most))

    by_last : (between ≡ true) ⊎ (left_in_world v < left_in_world m) → (busy ≡ true) ⊎ (left_in_world v < left_in_world w)
    by_last (inl e) = by_first (x.less e)
    by_last (inr lt) = inr (omega (arith, lt, x.most))

-- ---- an event

pub still_steady : (w y : State) → IsSteady w → IsSafeWorld y → LeavesLess w y → IsSteady y
still_steady w y k safe l =
    record {
      safe = safe;
      unplanned = ap (λ (t : Told). t.faults.plan) l.store ∙ k.unplanned;
      up = l.up k.up;
      calm = l.calm k.calm;
      follow = l.follow k.follow;
    }

event_left : (event : Event) (busy : Bool) (w : State) (v : Reached) (told : Bool) → IsSteady w
    → ((y : State) (outcome : Outcome) → Steps w event y (Ok outcome) → IsSafeWorld y × LeavesLess w y) → Attempted event busy w v (Ok told)
    → HasLeft w busy v.world told
event_left event busy w v told k steps t = by_told t.between t.told t.last t.came.by t.further t.whole
  where
    by_told : (b : Reached) (r : Result Outcome Refusal) (l : Reached) → HappensBy event w b r → AttemptedBy busy r b.world l (Ok told)
        → v ≡ after b.turns l → HasLeft w busy v.world told
    by_told b (Ok outcome) l by further whole =
        let x = steps b.world outcome by.0 in
        let end : v.world ≡ b.world = ap (λ (z : Reached). z.world) whole ∙ ap (λ (z : Reached). z.world) further.0 in
        subst (λ (z : State). HasLeft w busy z told) (sym end)
        (record {
          steady = still_steady w b.world k x.0 x.1;
          controllers = x.1.controllers;
          log = x.1.log;
          written = ap (λ (t : Told). t.writes) x.1.store;
          most = omega (arith, x.1.less);
          less = λ e. inr x.1.less;
        })
    by_told b (Err NothingToDo) l by further whole =
        let end : v.world ≡ w =
        ap (λ (z : Reached). z.world) whole ∙ ap (λ (z : Reached). z.world) further.0 ∙ ap (λ (z : Reached). z.world) by.1 in
        subst (λ (z : State). HasLeft w busy z told) (sym end) (left_still w busy (stays w) told k refl (told_same told busy further.1))
    by_told b (Err NoSuchMessage) l by further whole = absurd (told_not told NoSuchMessage further.1)
    by_told b (Err NoSuchNode) l by further whole = absurd (told_not told NoSuchNode further.1)
    by_told b (Err NodeDown) l by further whole = absurd (told_not told NodeDown further.1)
    by_told b (Err (Limit which)) l by further whole = absurd (told_not told (Limit which) further.1)
    by_told b (Err Memory) l by further whole = absurd (told_not told Memory further.1)

-- ---- several things

-- a replica asks, or no more is left
abbrev pub AsksOrLeaves : State → Bool → Reached → Bool → Type 0
AsksOrLeaves w busy v told = Asks w v ⊎ HasLeft w busy v.world told

still : (w : State) (busy : Bool) (v : Reached) (told : Bool) → IsSteady w → v ≡ stays w → told ≡ busy → AsksOrLeaves w busy v told
still w busy v told k same e = inr (left_still w busy v told k same e)

pub asks_first : (w : State) (b l v : Reached) → v ≡ after b.turns l → Asks w b → Asks w v
asks_first w b l v whole a =
    record {
      led = a.led;
      instance = a.instance;
      partition = a.partition;
      sequence = a.sequence;
      outcome = a.outcome;
      asks =
          subst (λ (x : Reached). Has x.turns (happens (Report a.instance a.partition a.sequence) a.outcome)) (sym whole)
          (Has-append_left b.turns l.turns (happens (Report a.instance a.partition a.sequence) a.outcome) a.asks);
    }

pub asks_behind : (w : State) (b l v : Reached) → v ≡ after b.turns l → b.world.controllers ≡ w.controllers → Asks b.world l → Asks w v
asks_behind w b l v whole same a =
    record {
      led = (a.led.0, sym (same_leader b.world w same) ∙ a.led.1);
      instance = a.instance;
      partition = a.partition;
      sequence = a.sequence;
      outcome = a.outcome;
      asks =
          subst (λ (x : Reached). Has x.turns (happens (Report a.instance a.partition a.sequence) a.outcome)) (sym whole)
          (Has-append_right b.turns l.turns (happens (Report a.instance a.partition a.sequence) a.outcome) a.asks);
    }

both : (w : State) (b l v : Reached) (busy mid told : Bool) → v ≡ after b.turns l → AsksOrLeaves w busy b mid
    → (IsSteady b.world → AsksOrLeaves b.world mid l told) → AsksOrLeaves w busy v told
both w b l v busy mid told whole (inl a) further = inl (asks_first w b l v whole a)
both w b l v busy mid told whole (inr x) further = by_last (further x.steady)
  where
    by_last : AsksOrLeaves b.world mid l told → AsksOrLeaves w busy v told
    by_last (inl a) = inl (asks_behind w b l v whole x.controllers a)
    by_last (inr y) =
        inr (subst (λ (z : State). HasLeft w busy z told) (sym (ap (λ (z : Reached). z.world) whole)) (left_then w b.world l.world busy mid told x y))

-- whatever it tells
abbrev pub Lowers : (Bool → Act Bool) → Type 0
Lowers act = (busy : Bool) (w : State) (v : Reached) (told : Bool) → IsSteady w → act busy w v (Ok told) → AsksOrLeaves w busy v told

then_lowers : (first behind act : Bool → Act Bool) → Lowers first → Lowers behind
    → ((busy : Bool) (w : State) (v : Reached) (told : Bool) → act busy w v (Ok told) → IsThen (first busy) behind w v told) → Lowers act
then_lowers first behind act f g parts busy w v told k h =
    let t = parts busy w v told h in
    both w t.between t.last v busy t.told told t.whole (f busy w t.between t.told k t.came)
    (λ m. g t.told t.between.world t.last told m t.further)

each_lowers : {X : Type 0} (act : X → Bool → Act Bool) → ((x : X) → Lowers (act x)) → (xs : List X) → Lowers (Each act xs)
each_lowers act each [] busy w v told k h = still w busy v told k h.0 (told_same told busy h.1)
each_lowers act each (x ∷ xs) busy w v told k h =
    then_lowers (act x) (Each act xs) (Each act (x ∷ xs)) (each x) (each_lowers act each xs)
    (λ b u z r g. then_parts (act x b) (Each act xs) u z r g) busy w v told k h

from_lowers : (act : ℕ → Bool → Act Bool) → ((i : ℕ) → Lowers (act i)) → (first count : ℕ) → Lowers (EachFrom act first count)
from_lowers act each first zero busy w v told k h = still w busy v told k h.0 (told_same told busy h.1)
from_lowers act each first (suc count) busy w v told k h =
    then_lowers (act first) (EachFrom act (first + 1) count) (EachFrom act first (suc count)) (each first) (from_lowers act each (first + 1) count)
    (λ b u z r g. then_parts (act first b) (EachFrom act (first + 1) count) u z r g) busy w v told k h

-- ---- the turn of a replica

consume_lowers : (paused : Bool) (i : Instance) (s : SegmentAt) → Lowers (ConsumeTurn paused i s)
consume_lowers paused i s busy w v told k h = by_test (may_consume paused w i s) refl h
  where
    by_test : (b : Bool) → may_consume paused w i s ≡ b → Choose b (Attempted (Consume i s.0 s.1 BATCH) busy w) (Gives busy w) v (Ok told)
        → AsksOrLeaves w busy v told
    by_test false e g = still w busy v told k g.0 (told_same told busy g.1)
    by_test true e t =
        let ready = (and_parts (is_ready_at w i s.0 s.1) (not (waits_in w paused i s.0 s.1)) e).0 in
        inr (event_left (Consume i s.0 s.1 BATCH) busy w v told k
        (λ y outcome step. (
          steps_keep w (Consume i s.0 s.1 BATCH) y (Ok outcome) (λ g. cc) tt k.safe step,
          consumes_less w y i s.0 s.1 outcome k.safe k.follow BATCH (omega arith) ready step,
        )) t)

build_lowers : (i : Instance) (s : SegmentAt) → Lowers (BuildTurn i s)
build_lowers i s busy w v told k t =
    inr (event_left (Build i s.0 s.1) busy w v told k
    (λ y outcome step. (
      steps_keep w (Build i s.0 s.1) y (Ok outcome) (λ g. cc) tt k.safe step,
      builds_less w y i s.0 s.1 outcome k.safe k.follow step,
    )) t)

requests_lower : (i : Instance) (s : SegmentAt) (c : ControllerId) (busy : Bool) (w : State) (v : Reached) (told : Bool) → IsSteady w → leader_in w ≡ Some c
    → Requests i s c busy w v (Ok told) → AsksOrLeaves w busy v told
requests_lower i s c busy w v told k led t = by_told t.between t.told t.last t.came.by t.further t.whole
  where
    by_told : (b : Reached) (r : Result Outcome Refusal) (l : Reached) → HappensBy (Report i s.0 s.1) w b r → AfterRequest c busy r b.world l (Ok told)
        → v ≡ after b.turns l → AsksOrLeaves w busy v told
    by_told b (Ok outcome) l by further whole =
        inl (asks_first w b l v whole
        (record {
          led = (c, led);
          instance = i;
          partition = s.0;
          sequence = s.1;
          outcome = outcome;
          asks = subst (λ (turns : List Turn). Has turns (happens (Report i s.0 s.1) outcome)) (sym by.1) (inl refl);
        }))
    by_told b (Err NothingToDo) l by further whole =
        let end : v.world ≡ w =
        ap (λ (z : Reached). z.world) whole ∙ ap (λ (z : Reached). z.world) further.0 ∙ ap (λ (z : Reached). z.world) by.1 in
        inr (subst (λ (z : State). HasLeft w busy z told) (sym end) (left_still w busy (stays w) told k refl (told_same told busy further.1)))
    by_told b (Err NoSuchMessage) l by further whole = absurd (told_not told NoSuchMessage further.1)
    by_told b (Err NoSuchNode) l by further whole = absurd (told_not told NoSuchNode further.1)
    by_told b (Err NodeDown) l by further whole = absurd (told_not told NodeDown further.1)
    by_told b (Err (Limit which)) l by further whole = absurd (told_not told (Limit which) further.1)
    by_told b (Err Memory) l by further whole = absurd (told_not told Memory further.1)

exchange_lowers : (i : Instance) (s : SegmentAt) → Lowers (ExchangeTurn i s)
exchange_lowers i s busy w v told k h = by_leader (leader_in w) refl h
  where
    by_leader : (o : Option ControllerId) → leader_in w ≡ o → WithLeader i s o busy w v (Ok told) → AsksOrLeaves w busy v told
    by_leader None e g = still w busy v told k g.0 (told_same told busy g.1)
    by_leader (Some c) e g = requests_lower i s c busy w v told k e g

replica_lowers : (paused : Bool) (i : Instance) (s : SegmentAt) → Lowers (ReplicaTurn paused i s)
replica_lowers paused i s =
    then_lowers (ConsumeTurn paused i s) (BuildAndExchange i s) (ReplicaTurn paused i s) (consume_lowers paused i s)
    (then_lowers (BuildTurn i s) (ExchangeTurn i s) (BuildAndExchange i s) (build_lowers i s) (exchange_lowers i s)
    (λ busy w v told h. then_parts (BuildTurn i s busy) (ExchangeTurn i s) w v told h))
    (λ busy w v told h. then_parts (ConsumeTurn paused i s busy) (BuildAndExchange i s) w v told h)

held_lowers : (paused : Bool) (i : ℕ) → Lowers (ReplicasTurn paused i)
held_lowers paused i busy w v told k h = by_up (is_server_up w (record { 0 = i })) h
  where
    by_up : (b : Bool) → Choose b (ReplicasHeld paused (record { 0 = i }) busy w) (Gives busy w) v (Ok told) → AsksOrLeaves w busy v told
    by_up true g =
        each_lowers (ReplicaTurn paused (record { 0 = i })) (replica_lowers paused (record { 0 = i })) (held_in w (record { 0 = i })) busy w v told k g
    by_up false g = still w busy v told k g.0 (told_same told busy g.1)

pub replicas_lower : (paused : Bool) (count : ℕ) → Lowers (EachFrom (ReplicasTurn paused) 0 count)
replicas_lower paused count = from_lowers (ReplicasTurn paused) (held_lowers paused) 0 count

-- ---- the first part of a round

none_in : {X : Type 0} (xs : List X) → ((x : X) → Has xs x → ⊥) → xs ≡ []
none_in [] none = refl
none_in (x ∷ xs) none = absurd (none x (inl refl))

each_none : {X : Type 0} (act : X → Bool → Act Bool) (xs : List X) (busy : Bool) (w : State) (v : Reached) (told : Bool) → xs ≡ []
    → Each act xs busy w v (Ok told) → (v.world ≡ w) × (told ≡ busy)
each_none act xs busy w v told none h =
    let g = subst (λ ys. Each act ys busy w v (Ok told)) none h in (ap (λ (x : Reached). x.world) g.0, told_same told busy g.1)

-- what servers are, but for whether they are up
abbrev pub states : List ServerNode → List ServerState
states ns = map (λ n. n.server) ns

slot_alike : (ns : List ServerNode) (i : ℕ) (old new : ServerNode) → slice_get ns i ≡ Some old → new.server ≡ old.server
    → states (slice_set ns i new) ≡ states ns
slot_alike [] i old new there same = absurd (none-some old there)
slot_alike (n ∷ ns) zero old new there same =
    ap (λ (x : ServerState). x ∷ states ns) (same ∙ ap (λ (x : ServerNode). x.server) (sym (same_Some n old there)))
slot_alike (n ∷ ns) (suc i) old new there same = ap (λ (xs : List ServerState). n.server ∷ xs) (slot_alike ns i old new there same)

-- the servers of a steady world rest: each is as it was, and nothing happened
pub record HasRested (w : State) (busy : Bool) (v : State) (told : Bool) : Type 0 where
  pub steady : IsSteady v
  pub controllers : v.controllers ≡ w.controllers
  pub log : v.log ≡ w.log
  pub written : v.store.writes ≡ w.store.writes
  pub servers : states v.servers ≡ states w.servers
  pub idle : told ≡ busy
  pub right : IsToldRightly w → IsToldRightly v

rested_still : (w : State) (busy : Bool) (v : Reached) (told : Bool) → IsSteady w → v ≡ stays w → told ≡ busy → HasRested w busy v.world told
rested_still w busy v told k same e =
    subst (λ (x : Reached). HasRested w busy x.world told) (sym same)
    (record { steady = k; controllers = refl; log = refl; written = refl; servers = refl; idle = e; right = λ told_so. told_so })

module _ (w : State) (i : ℕ) (n : ServerNode) (k : IsSteady w) (there : slice_get w.servers i ≡ Some n) where
  healthy : IsHealthy w w
  healthy =
      record { safe = k.safe; same = refl; log = refl; written = refl; up = k.up; unplanned = k.unplanned; controllers = refl; reached = ([], refl) }

  -- a server that saw the ideal state again is as it was
  module _ (y : State) (seen : HasSeen w (record { 0 = i }) n y) (safe : IsSafeWorld y) (after : IsHealthy w y) where
    as_before : seen.new.server ≡ n.server
    as_before =
        seen.server ∙ ap (λ (targets : List (Segment × Mode)). with_targets n.server targets) (sym (k.calm i n there).seen)

    seen_cases : (j : ℕ) (m : ServerNode) → slice_get y.servers j ≡ Some m → ((j ≡ i) × (m ≡ seen.new)) ⊎ (slice_get w.servers j ≡ Some m)
    seen_cases j m at = got_of_set w.servers i j seen.new m (ap (λ (x : State). slice_get x.servers j) (sym seen.is) ∙ at)

    seen_log : y.log ≡ w.log
    seen_log = ap (λ (x : State). x.log) seen.is

    seen_follow : CanAllFollow y
    seen_follow j m at x has = subst (λ (l : Log). CanFollowEntry l x.1) (sym seen_log) (by_place (seen_cases j m at))
      where
        by_place : ((j ≡ i) × (m ≡ seen.new)) ⊎ (slice_get w.servers j ≡ Some m) → CanFollowEntry w.log x.1
        by_place (inl (here, is)) =
            k.follow i n there x
            (subst (λ (z : ServerState). Has z.table.entries x) as_before (subst (λ (z : ServerNode). Has z.server.table.entries x) is has))
        by_place (inr old) = k.follow j m old x has

    seen_calm : AreAllCalm y
    seen_calm j m at = subst (λ (h : List Seen). IsCalm h m) (sym after.written) (by_place (seen_cases j m at))
      where
        by_place : ((j ≡ i) × (m ≡ seen.new)) ⊎ (slice_get w.servers j ≡ Some m) → IsCalm w.store.writes m
        by_place (inl (here, is)) =
            let server : m.server ≡ n.server = ap (λ (z : ServerNode). z.server) is ∙ as_before in
            let c = k.calm i n there in
            record {
              seen = subst (λ (z : ServerState). z.table.targets ≡ targets_of z.numbers.instance (entries_of w.store.writes)) (sym server) c.seen;
              moved = subst (λ (z : ServerState). (p : Partition) (q : Sequence) → transit_due z.table p q ≡ false) (sym server) c.moved;
              loaded = subst (λ (z : ServerState). (p : Partition) (q : Sequence) → wants_at (entry_of z.table p q) ≡ false) (sym server) c.loaded;
            }
        by_place (inr old) = k.calm j m old

    seen_steady : IsSteady y
    seen_steady =
        record {
          safe = safe;
          unplanned = after.unplanned;
          up = after.up;
          calm = seen_calm;
          follow = seen_follow;
        }

    -- nothing is due for it
    own_server : slice_get y.servers i ≡ Some seen.new
    own_server = ap (λ (x : State). slice_get x.servers i) seen.is ∙ own_slot w.servers i n seen.new there

    no_transit : due_transits_of y (record { 0 = i }) ≡ []
    no_transit =
        ap (listed_by due_segments) own_server
        ∙ none_in (due_segments seen.new.server.table) (λ x has.
        true≢false (sym ((due_has seen.new.server.table x.0 x.1).0 has) ∙ (seen_calm i seen.new own_server).moved x.0 x.1))

    no_download : wanted_in y (record { 0 = i }) ≡ []
    no_download =
        ap (listed_by wanted_of) own_server
        ∙ none_in (wanted_of seen.new.server.table) (λ x has.
        true≢false
        (sym ((wanted_has seen.new.server.table x.0 x.1 (safe.safe.servers i seen.new own_server).over.kept.ascending).0 has)
        ∙ (seen_calm i seen.new own_server).loaded x.0 x.1))

  turn_rests : (busy : Bool) (v : Reached) (told : Bool)
      → Then (Passed (See (record { 0 = i }))) (λ done. TransitsAndDownloads (record { 0 = i }) busy) w v (Ok told) → HasRested w busy v.world told
  turn_rests busy v told g =
      let at : Instance = record { 0 = i } in
      let t = then_parts (Passed (See at)) (λ done. TransitsAndDownloads at busy) w v told g in
      let u = then_parts (Happens (See at)) (λ outcome. Gives tt) w t.between t.told t.came in
      let y = u.between.world in
      let step : Steps w (See at) y (Ok u.told) = u.came.by.0 in
      let seen = see_told w w at n y u.told healthy there step in
      let after = see_healthy w w at n y u.told healthy there step seen in
      let now : t.between.world ≡ y = ap (λ (x : Reached). x.world) u.whole ∙ ap (λ (x : Reached). x.world) u.further.0 in
      let d = then_parts (Transits at busy) (Downloads at) t.between.world t.last told t.further in
      let moved = each_none (TransitTurn at) (due_transits_of t.between.world at) busy t.between.world d.between d.told
      (ap (λ (x : State). due_transits_of x at) now ∙ no_transit y seen after.safe after) d.came in
      let mid : d.between.world ≡ y = moved.0 ∙ now in
      let loaded = each_none (DownloadTurn at) (wanted_in d.between.world at) d.told d.between.world d.last told
      (ap (λ (x : State). wanted_in x at) mid ∙ no_download y seen after.safe after) d.further in
      let end : v.world ≡ y =
      ap (λ (x : Reached). x.world) t.whole ∙ ap (λ (x : Reached). x.world) d.whole ∙ loaded.0 ∙ mid in
      subst (λ (x : State). HasRested w busy x told) (sym end)
      (record {
        steady = seen_steady y seen after.safe after;
        controllers = after.controllers;
        log = after.log;
        written = after.written;
        servers =
            ap (λ (x : State). states x.servers) seen.is ∙ slot_alike w.servers i n seen.new there (as_before y seen after.safe after);
        idle = loaded.1 ∙ moved.1;
        right = λ told_so. leads_told w after.reached.0 y k.safe told_so after.reached.1;
      })

server_rests : (i : ℕ) (busy : Bool) (w : State) (v : Reached) (told : Bool) → IsSteady w → ServerTurn i busy w v (Ok told) → HasRested w busy v.world told
server_rests i busy w v told k h = by_node (slice_get w.servers i) refl h
  where
    by_node : (o : Option ServerNode) → slice_get w.servers i ≡ o
        → Choose (is_up o) (Then (Passed (See (record { 0 = i }))) (λ done. TransitsAndDownloads (record { 0 = i }) busy) w) (Gives busy w) v (Ok told)
        → HasRested w busy v.world told
    by_node None there g = rested_still w busy v told k g.0 (told_same told busy g.1)
    by_node (Some n) there g =
        turn_rests w i n k there busy v told
        (subst (λ (b : Bool). Choose b (Then (Passed (See (record { 0 = i }))) (λ done. TransitsAndDownloads (record { 0 = i }) busy) w) (Gives busy w) v (Ok told))
        (k.up i n there) g)

pub servers_rest : (first count : ℕ) (busy : Bool) (w : State) (v : Reached) (told : Bool) → IsSteady w → EachFrom ServerTurn first count busy w v (Ok told)
    → HasRested w busy v.world told
servers_rest first zero busy w v told k h = rested_still w busy v told k h.0 (told_same told busy h.1)
servers_rest first (suc count) busy w v told k h =
    let t = then_parts (ServerTurn first busy) (EachFrom ServerTurn (first + 1) count) w v told h in
    let x = server_rests first busy w t.between t.told k t.came in
    let y = servers_rest (first + 1) count t.told t.between.world t.last told x.steady t.further in
    subst (λ (z : State). HasRested w busy z told) (sym (ap (λ (z : Reached). z.world) t.whole))
    (record {
      steady = y.steady;
      controllers = y.controllers ∙ x.controllers;
      log = y.log ∙ x.log;
      written = y.written ∙ x.written;
      servers = y.servers ∙ x.servers;
      idle = y.idle ∙ x.idle;
      right = λ told_so. y.right (x.right told_so);
    })

-- so as much is left
abbrev states_left : Log → List ServerState → ℕ
states_left log [] = 0
states_left log (s ∷ ss) = left_entries log s.table.entries + states_left log ss

left_states : (log : Log) (ns : List ServerNode) → left_servers log ns ≡ states_left log (states ns)
left_states log [] = refl
left_states log (n ∷ ns) = ap (λ (x : ℕ). left_server log n + x) (left_states log ns)

servers_lower : (count : ℕ) → Lowers (EachFrom ServerTurn 0 count)
servers_lower count busy w v told k h =
    let x = servers_rest 0 count busy w v told k h in
    let same : left_in_world v.world ≡ left_in_world w =
    ap (λ (l : Log). left_servers l v.world.servers) x.log ∙ left_states w.log v.world.servers ∙ ap (states_left w.log) x.servers
    ∙ sym (left_states w.log w.servers) in
    inr (record {
      steady = x.steady;
      controllers = x.controllers;
      log = x.log;
      written = x.written;
      most = omega (arith, same);
      less = λ e. inl (sym x.idle ∙ e);
    })

-- ---- rounds

round_lowers : (paused : Bool) (w : State) (v : Reached) (told : Bool) → IsSteady w → Round paused w v (Ok told) → AsksOrLeaves w false v told
round_lowers paused w v told k h =
    let t = then_parts (ServersTurn false) (ReplicasOfAll paused) w v told h in
    both w t.between t.last v false t.told told t.whole (servers_lower w.setup.servers false w t.between t.told k t.came)
    (λ m. replicas_lower paused t.between.world.setup.servers t.told t.between.world t.last told m t.further)

less_told : (w v : State) → HasLeft w false v true → left_in_world v < left_in_world w
less_told w v x = by_less (x.less refl)
  where
    by_less : (false ≡ true) ⊎ (left_in_world v < left_in_world w) → left_in_world v < left_in_world w
    by_less (inl e) = absurd (false≢true e)
    by_less (inr lt) = lt

-- a round in which anything happened and no replica asked leaves less to do
pub round_less : (paused : Bool) (w : State) (v : Reached) → IsSafeWorld w → AreUp w → w.store.faults.plan ≡ [] → AreAllCalm w → CanAllFollow w
    → Round paused w v (Ok true) → Asks w v ⊎ (left_in_world v.world < left_in_world w)
round_less paused w v safe up unplanned calm follow h =
    by_way (round_lowers paused w v true (record { safe = safe; unplanned = unplanned; up = up; calm = calm; follow = follow }) h)
  where
    by_way : AsksOrLeaves w false v true → Asks w v ⊎ (left_in_world v.world < left_in_world w)
    by_way (inl a) = inl a
    by_way (inr x) = inr (less_told w v.world x)

-- and so many rounds come to one in which nothing happens
pub settles_in : (paused : Bool) (rounds : ℕ) (w : State) (v : Reached) (settled : Bool) → IsSteady w → left_in_world w < rounds
    → SettlesIn paused rounds w v (Ok settled) → Asks w v ⊎ (settled ≡ true)
settles_in paused zero w v settled k few h = absurd (omega (arith, few))
settles_in paused (suc rounds) w v settled k few h =
    let t = then_parts (Round paused) (AfterRound (SettlesIn paused rounds)) w v settled h in
    by_told t.between t.last t.told t.came t.further t.whole (λ x l steady less rest. settles_in paused rounds x l settled steady less rest)
  where
    by_told : (b l : Reached) (told : Bool) → Round paused w b (Ok told) → AfterRound (SettlesIn paused rounds) told b.world l (Ok settled)
        → v ≡ after b.turns l
        → ((x : State) (y : Reached) → IsSteady x → left_in_world x < rounds → SettlesIn paused rounds x y (Ok settled) → Asks x y ⊎ (settled ≡ true))
        → Asks w v ⊎ (settled ≡ true)
    by_told b l false came further whole more = inr (told_same settled true further.1)
    by_told b l true came further whole more = by_way (round_lowers paused w b true k came)
      where
        by_rest : HasLeft w false b.world true → Asks b.world l ⊎ (settled ≡ true) → Asks w v ⊎ (settled ≡ true)
        by_rest x (inl a) = inl (asks_behind w b l v whole x.controllers a)
        by_rest x (inr e) = inr e

        by_way : AsksOrLeaves w false b true → Asks w v ⊎ (settled ≡ true)
        by_way (inl a) = inl (asks_first w b l v whole a)
        by_way (inr x) = by_rest x (more b.world l x.steady (omega (arith, few, less_told w b.world x)) further)

pub settle_ends : (paused : Bool) (rounds : ℕ) (w : State) (v : Reached) (settled : Bool) → IsSafeWorld w → AreUp w → w.store.faults.plan ≡ []
    → AreAllCalm w → CanAllFollow w → left_in_world w < rounds → Settles paused rounds w v (Ok settled) → Asks w v ⊎ (settled ≡ true)
settle_ends paused rounds w v settled safe up unplanned calm follow few h = by_test ((rounds == 0) || nat_lt MOST_ROUNDS rounds) h
  where
    by_test : (b : Bool) → Choose b (Refuses NothingToDo w) (SettlesIn paused rounds w) v (Ok settled) → Asks w v ⊎ (settled ≡ true)
    by_test true g = absurd (told_not settled NothingToDo g.1)
    by_test false g =
        settles_in paused rounds w v settled (record { safe = safe; unplanned = unplanned; up = up; calm = calm; follow = follow }) few g
