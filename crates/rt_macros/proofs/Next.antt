-- The turn of a replica goes by what it has to do next. Any other event of it isn't tried, or is refused for want of something to
-- do, whatever the run has room for, and so comes to nothing; where its server is down, or isn't there, the turn is refused for that.
use Rattle.std.proofs.Common.{◌≡◌, ◌&&◌, ℕ, Bool, true, false, cond, Option, Some, None, Ok, Err, Result, nat_lt, not, refl, sym, ◌∙◌, ap, subst}
use Rattle.std.proofs.lemmas.Bool.{and_from, and_left, and_parts, false≢true, not_from_false, true≢false}
use Rattle.rt_base.specs.declared.numbers.ControllerId.{ControllerId}
use Rattle.rt_base.specs.declared.numbers.Instance.{Instance}
use Rattle.rt_base.specs.declared.numbers.Partition.{Partition}
use Rattle.rt_base.specs.declared.numbers.Sequence.{Sequence}
use Rattle.rt_consumer.specs.Consumer.{asks_at, state_at, state_of}
use Rattle.rt_consumer.specs.Next.{takes_in}
use Rattle.rt_consumer.specs.Requests.{asks_now, builds_at, builds_in, is_ready, size_in}
use Rattle.rt_consumer.specs.declared.consumer.Consumer.{Consumer}
use Rattle.rt_consumer.specs.declared.next.ReplicaDue.{ReplicaDue}
use Rattle.rt_consumer.specs.declared.next.ReplicaDue.TheVariants as due
use Rattle.rt_consumer.specs.declared.phase.Phase.{Phase}
use Rattle.rt_consumer.specs.declared.phase.Phase.TheVariants as phase
use Rattle.rt_consumer.specs.declared.stage.Stage.{Stage}
use Rattle.rt_consumer.specs.declared.stage.Stage.TheVariants.{InitialConsuming, CatchingUp, Holding, ConsumingToOnline, Retaining, Building, Starting, Uploading, Ending}
use Rattle.rt_events.specs.declared.event.Event.{Event}
use Rattle.rt_events.specs.declared.event.Event.TheVariants.{Consume, Build, Report}
use Rattle.rt_events.specs.declared.refusal.Refusal.{Refusal}
use Rattle.rt_events.specs.declared.refusal.Refusal.TheVariants.{NoSuchMessage, NoSuchNode, NodeDown, NothingToDo, Limit, Memory}
use Rattle.rt_macros.proofs.Doing.{behind_nothing, does_nothing, then_behind, then_refused}
use Rattle.rt_macros.specs.Doing.{Attempted, Choose, Does, DoesFrom, Gives, stays}
use Rattle.rt_macros.specs.Settling.{BuildAndExchange, BuildTurn, ConsumeTurn, ExchangeTurn, ReplicaTurn, SegmentAt, WithLeader, may_consume, waits_in}
use Rattle.rt_macros.specs.declared.settling.TheConstants.{BATCH}
use Rattle.rt_nodes.specs.Replicas.{builds_now, passes, takes_now}
use Rattle.rt_nodes.specs.Requests.{asks_due}
use Rattle.rt_state.specs.Finding.{find_server, has_partition, has_server, is_server_up, replica_at}
use Rattle.rt_state.specs.Requests.{report_by}
use Rattle.rt_state.specs.Room.{Due, Found, dropped, no_cost, only_if, priced, then_due, upload_cost}
use Rattle.rt_state.specs.declared.state.State.{State}
use Rattle.rt_world.specs.Kept.{Kept}
use Rattle.rt_world.specs.Reading.{is_ready_at, is_ready_by, is_ready_in, leader_in, length_of, next_at, next_by, next_found, next_in}
use Rattle.rt_world.specs.Step.{due_of}

-- ---- what a replica does, by what is next

abbrev pub this : ReplicaDue → Option ReplicaDue
this d = Some d

abbrev consumes : Option ReplicaDue → Bool
consumes None = false
consumes (Some due.Consume) = true
consumes (Some due.Build) = false
consumes (Some due.Ask) = false

abbrev builds : Option ReplicaDue → Bool
builds None = false
builds (Some due.Consume) = false
builds (Some due.Build) = true
builds (Some due.Ask) = false

-- builds or asks
abbrev acts : Option ReplicaDue → Bool
acts None = false
acts (Some due.Consume) = false
acts (Some due.Build) = true
acts (Some due.Ask) = true

-- what is next, where it is known whether a replica takes messages, has something to consume, builds and asks
abbrev pub next_with : Bool → Bool → Bool → Bool → Option ReplicaDue
next_with takes ready builds asks = cond takes (cond ready (this due.Consume) None) (cond builds (this due.Build) (cond asks (this due.Ask) None))

ready_with : (t y b a : Bool) → consumes (next_with t y b a) ≡ true → y ≡ true
ready_with true true b a e = refl
ready_with true false b a e = absurd (false≢true e)
ready_with false y true a e = absurd (false≢true e)
ready_with false y false true e = absurd (false≢true e)
ready_with false y false false e = absurd (false≢true e)

takes_with : (t y b a : Bool) → y ≡ true → consumes (next_with t y b a) ≡ false → t ≡ false
takes_with true true b a ready e = absurd (true≢false e)
takes_with true false b a ready e = absurd (false≢true ready)
takes_with false y b a ready e = refl

builds_with : (t y b a : Bool) → (t ≡ true → b ≡ false) → b ≡ builds (next_with t y b a)
builds_with true true b a idle = idle refl
builds_with true false b a idle = idle refl
builds_with false y true a idle = refl
builds_with false y false true idle = refl
builds_with false y false false idle = refl

acts_with : (t y b a : Bool) → (t ≡ true → (b ≡ false) × (a ≡ false)) → acts (next_with t y b a) ≡ false → (b ≡ false) × (a ≡ false)
acts_with true y b a idle e = idle refl
acts_with false y true a idle e = absurd (true≢false e)
acts_with false y false true idle e = absurd (true≢false e)
acts_with false y false false idle e = (refl, refl)

-- neither builds nor asks
abbrev pub IsIdle : Phase → Type 0
IsIdle p = (builds_in p ≡ false) × (asks_now p ≡ false)

takes_idle_at : (s : Stage) → takes_in (state_at s) ≡ true → (builds_at s ≡ false) × (asks_at s ≡ false)
takes_idle_at InitialConsuming h = (refl, refl)
takes_idle_at (CatchingUp target reason) h = (refl, refl)
takes_idle_at (ConsumingToOnline end done) h = (refl, refl)
takes_idle_at (Holding reason) h = absurd (cc)
takes_idle_at (Retaining done) h = absurd (cc)
takes_idle_at (Building reason) h = absurd (cc)
takes_idle_at (Starting reason built) h = absurd (cc)
takes_idle_at (Uploading reason built) h = absurd (cc)
takes_idle_at (Ending reason built path) h = absurd (cc)

-- one that takes messages
takes_idle : (p : Phase) → takes_in (state_of p) ≡ true → IsIdle p
takes_idle (phase.Unsealed o) h = takes_idle_at o.stage h
takes_idle (phase.Retained kept) h = absurd (cc)
takes_idle (phase.Committed kept) h = absurd (cc)
takes_idle (phase.Discarded d) h = absurd (cc)

module _ (w : State) (p : Partition) where
  ready_by : (o : Option Consumer) → consumes (next_by w p o) ≡ true → is_ready_by w p o ≡ true
  ready_by None e = absurd (false≢true e)
  ready_by (Some r) e = ready_with (takes_in (state_of r.phase)) (is_ready r (length_of w p) w.moment) (builds_in r.phase) (asks_now r.phase) e

  takes_by : (o : Option Consumer) (max : ℕ) → is_ready_by w p o ≡ true → consumes (next_by w p o) ≡ false → passes (takes_now max) o ≡ false
  takes_by None max ready e = refl
  takes_by (Some r) max ready e =
      and_left (takes_in (state_of r.phase)) (nat_lt 0 max)
      (takes_with (takes_in (state_of r.phase)) (is_ready r (length_of w p) w.moment) (builds_in r.phase) (asks_now r.phase) ready e)

  builds_by : (o : Option Consumer) → passes builds_now o ≡ builds (next_by w p o)
  builds_by None = refl
  builds_by (Some r) =
      builds_with (takes_in (state_of r.phase)) (is_ready r (length_of w p) w.moment) (builds_in r.phase) (asks_now r.phase) (λ h. (takes_idle r.phase h).0)

  acts_by : (o : Option Consumer) → acts (next_by w p o) ≡ false → (passes builds_now o ≡ false) × (passes asks_due o ≡ false)
  acts_by None e = (refl, refl)
  acts_by (Some r) e = acts_with (takes_in (state_of r.phase)) (is_ready r (length_of w p) w.moment) (builds_in r.phase) (asks_now r.phase) (takes_idle r.phase) e

-- ---- who is found

abbrev pub found_it : Found
found_it = Ok tt

abbrev nothing : Found
nothing = Err NothingToDo

abbrev away : Refusal → Found
away e = Err e

abbrev pub is_next : Option ReplicaDue → Result (Option ReplicaDue) Refusal
is_next d = Ok d

found_next : (found : Found) (next other : Option ReplicaDue) → next_found found next ≡ Ok other → (found ≡ found_it) × (next ≡ other)
found_next (Ok u) next other e = (refl, cc)
found_next (Err x) next other e = absurd (cc)

away_next : (found : Found) (next : Option ReplicaDue) (x : Refusal) → next_found found next ≡ Err x → found ≡ away x
away_next (Ok u) next x e = absurd (cc)
away_next (Err y) next x e = let same : y ≡ x = cc in ap away same

known : (server partition up : Bool) → only_if (server && partition) NoSuchNode (only_if up NodeDown found_it) ≡ found_it → partition ≡ true
known true true up e = refl
known true false up e = absurd (cc)
known false partition up e = absurd (cc)

abbrev IsAway : Refusal → Type 0
IsAway NoSuchNode = Unit {0}
IsAway NodeDown = Unit {0}
IsAway NoSuchMessage = ⊥
IsAway NothingToDo = ⊥
IsAway (Limit which) = ⊥
IsAway Memory = ⊥

is_away : (there up : Bool) (x : Refusal) → only_if there NoSuchNode (only_if up NodeDown found_it) ≡ away x → IsAway x
is_away true true x e = absurd (cc)
is_away true false x e = let same : NodeDown ≡ x = cc in subst IsAway same tt
is_away false up x e = let same : NoSuchNode ≡ x = cc in subst IsAway same tt

-- ---- an event of it is refused

refused_so : (found : Found) (passed : Bool) (rest : Due) → found ≡ found_it → passed ≡ false
    → dropped (then_due found (only_if passed NothingToDo rest)) ≡ nothing
refused_so (Ok u) false rest e f = refl
refused_so (Ok u) true rest e f = absurd (cc)
refused_so (Err x) passed rest e f = absurd (cc)

away_so : (found : Found) (rest : Due) (x : Refusal) → found ≡ away x → dropped (then_due found rest) ≡ away x
away_so (Ok u) rest x e = absurd (cc)
away_so (Err y) rest x e = e

report_so : (w : State) (found : Found) (o : Option Consumer) → found ≡ found_it → passes asks_due o ≡ false → dropped (then_due found (report_by w o)) ≡ nothing
report_so w (Ok u) None e f = refl
report_so w (Err x) None e f = absurd (cc)
report_so w found (Some r) e f = refused_so found (asks_due r) (priced w (upload_cost (size_in r.phase))) e f

-- ---- so nothing comes of it

attempt_refused : (event : Event) (busy : Bool) (w : State) → due_of w event ≡ nothing → Attempted event busy w (stays w) (Ok busy)
attempt_refused event busy w e =
    record { between = stays w; told = Err NothingToDo; last = stays w; came = record { by = (e, refl) }; further = (refl, refl); whole = refl }

attempt_away : (event : Event) (busy : Bool) (w : State) (x : Refusal) → IsAway x → due_of w event ≡ away x → Attempted event busy w (stays w) (Err x)
attempt_away event busy w NoSuchNode h e =
    record { between = stays w; told = Err NoSuchNode; last = stays w; came = record { by = (e, refl) }; further = (refl, refl); whole = refl }
attempt_away event busy w NodeDown h e =
    record { between = stays w; told = Err NodeDown; last = stays w; came = record { by = (e, refl) }; further = (refl, refl); whole = refl }
attempt_away event busy w NoSuchMessage h e = absurd h
attempt_away event busy w NothingToDo h e = absurd h
attempt_away event busy w (Limit which) h e = absurd h
attempt_away event busy w Memory h e = absurd h

no_request : (i : Instance) (segment : SegmentAt) (leader : Option ControllerId) (busy : Bool) (w : State)
    → due_of w (Report i segment.0 segment.1) ≡ nothing → WithLeader i segment leader busy w (stays w) (Ok busy)
no_request i segment None busy w e = (refl, refl)
no_request i segment (Some controller) busy w e =
    record { between = stays w; told = Err NothingToDo; last = stays w; came = record { by = (e, refl) }; further = (refl, refl); whole = refl }

chosen : (may : Bool) (event : Event) (busy : Bool) (w : State) → (may ≡ true → due_of w event ≡ nothing)
    → Choose may (Attempted event busy w) (Gives busy w) (stays w) (Ok busy)
chosen true event busy w e = attempt_refused event busy w (e refl)
chosen false event busy w e = (refl, refl)

-- ---- the parts of a turn

module _ (i : Instance) (p : Partition) (q : Sequence) (busy : Bool) (w : State) where
  abbrev found : Found
  found = find_server w i p

  abbrev next : Option ReplicaDue
  next = next_in w i p q

  abbrev replica : Option Consumer
  replica = replica_at w i p q

  build_passed : (other : Option ReplicaDue) → next_at w i p q ≡ Ok other → builds other ≡ false → BuildTurn i (p, q) busy w (stays w) (Ok busy)
  build_passed other e apart =
      let at = found_next found next other e in
      attempt_refused (Build i p q) busy w (refused_so found (passes builds_now replica) (priced w no_cost) at.0 (builds_by w p replica ∙ ap builds at.1 ∙ apart))

  -- neither a build nor a request is next
  rest_passed : (other : Option ReplicaDue) → next_at w i p q ≡ Ok other → acts other ≡ false → BuildAndExchange i (p, q) busy w (stays w) (Ok busy)
  rest_passed other e apart =
      let at = found_next found next other e in
      let idle = acts_by w p replica (ap acts at.1 ∙ apart) in
      then_behind (BuildTurn i (p, q) busy) (ExchangeTurn i (p, q)) w (stays w) (stays w) busy (Ok busy)
      (attempt_refused (Build i p q) busy w (refused_so found (passes builds_now replica) (priced w no_cost) at.0 idle.0))
      (no_request i (p, q) (leader_in w) busy w (report_so w found replica at.0 idle.1))

  rest_away : (x : Refusal) → next_at w i p q ≡ Err x → BuildAndExchange i (p, q) busy w (stays w) (Err x)
  rest_away x e =
      let gone = away_next found next x e in
      then_refused (BuildTurn i (p, q) busy) (ExchangeTurn i (p, q)) w (stays w) x
      (attempt_away (Build i p q) busy w x (is_away (has_server w i && has_partition w p) (is_server_up w i) x gone)
      (away_so found (only_if (passes builds_now replica) NothingToDo (priced w no_cost)) x gone))

  ready_next : next_at w i p q ≡ Ok (Some due.Consume) → is_ready_at w i p q ≡ true
  ready_next e =
      let at = found_next found next (Some due.Consume) e in
      and_from (has_partition w p) (is_ready_in w i p q) (known (has_server w i) (has_partition w p) (is_server_up w i) at.0)
      (ready_by w p replica (ap consumes at.1))

  module _ (paused : Bool) where
    abbrev may : Bool
    may = may_consume paused w i (p, q)

    abbrev waits : Bool
    waits = waits_in w paused i p q

    consume_passed : (other : Option ReplicaDue) → next_at w i p q ≡ Ok other → consumes other ≡ false → ConsumeTurn paused i (p, q) busy w (stays w) (Ok busy)
    consume_passed other e apart =
        let at = found_next found next other e in
        chosen may (Consume i p q BATCH) busy w
        (λ h.
        let ready = (and_parts (has_partition w p) (is_ready_in w i p q) (and_parts (is_ready_at w i p q) (not waits) h).0).1 in
        refused_so found (passes (takes_now BATCH) replica) (priced w no_cost) at.0 (takes_by w p replica BATCH ready (ap consumes at.1 ∙ apart)))

    turn_away : (x : Refusal) → next_at w i p q ≡ Err x → ReplicaTurn paused i (p, q) busy w (stays w) (Err x)
    turn_away x e = by may refl
      where
        attempt : Attempted (Consume i p q BATCH) busy w (stays w) (Err x)
        attempt =
            let gone = away_next found next x e in
            attempt_away (Consume i p q BATCH) busy w x (is_away (has_server w i && has_partition w p) (is_server_up w i) x gone)
            (away_so found (only_if (passes (takes_now BATCH) replica) NothingToDo (priced w no_cost)) x gone)

        by : (m : Bool) → may ≡ m → ReplicaTurn paused i (p, q) busy w (stays w) (Err x)
        by true is =
            then_refused (ConsumeTurn paused i (p, q) busy) (BuildAndExchange i (p, q)) w (stays w) x
            (subst (λ m. Choose m (Attempted (Consume i p q BATCH) busy w) (Gives busy w) (stays w) (Err x)) (sym is) attempt)
        by false is =
            then_behind (ConsumeTurn paused i (p, q) busy) (BuildAndExchange i (p, q)) w (stays w) (stays w) busy (Err x)
            (chosen may (Consume i p q BATCH) busy w (λ e. absurd (false≢true (sym is ∙ e)))) (rest_away x e)

    -- nothing is next
    pub turn_passed : next_at w i p q ≡ Ok None → ReplicaTurn paused i (p, q) busy w (stays w) (Ok busy)
    turn_passed e =
        then_behind (ConsumeTurn paused i (p, q) busy) (BuildAndExchange i (p, q)) w (stays w) (stays w) busy (Ok busy)
        (consume_passed None e refl) (rest_passed None e refl)

-- ---- what a call does

module _ (i : Instance) (p : Partition) (q : Sequence) (busy : Bool) (old : Kept) (unspent : old.spent ≡ false) where
  pub rest_refused : (x : Refusal) → next_at old.state i p q ≡ Err x → Does (BuildAndExchange i (p, q) busy) old.state old (Err x)
  rest_refused x e = does_nothing (BuildAndExchange i (p, q) busy) old (Err x) unspent (rest_away i p q busy old.state x e)

  pub rest_consumes : next_at old.state i p q ≡ Ok (Some due.Consume) → Does (BuildAndExchange i (p, q) busy) old.state old (Ok busy)
  rest_consumes e = does_nothing (BuildAndExchange i (p, q) busy) old (Ok busy) unspent (rest_passed i p q busy old.state (Some due.Consume) e refl)

  pub rest_waits : next_at old.state i p q ≡ Ok None → Does (BuildAndExchange i (p, q) busy) old.state old (Ok busy)
  rest_waits e = does_nothing (BuildAndExchange i (p, q) busy) old (Ok busy) unspent (rest_passed i p q busy old.state None e refl)

  pub rest_asks : (new : Kept) (result : Result Bool Refusal) → next_at old.state i p q ≡ Ok (Some due.Ask)
      → Does (ExchangeTurn i (p, q) busy) old.state new result → Does (BuildAndExchange i (p, q) busy) old.state new result
  rest_asks new result e asks =
      behind_nothing (BuildTurn i (p, q) busy) (ExchangeTurn i (p, q)) old new busy result unspent (build_passed i p q busy old.state (Some due.Ask) e refl) asks

  module _ (paused : Bool) where
    pub turn_refused : (x : Refusal) → next_at old.state i p q ≡ Err x → Does (ReplicaTurn paused i (p, q) busy) old.state old (Err x)
    turn_refused x e = does_nothing (ReplicaTurn paused i (p, q) busy) old (Err x) unspent (turn_away i p q busy old.state paused x e)

    pub turn_waits : next_at old.state i p q ≡ Ok None → Does (ReplicaTurn paused i (p, q) busy) old.state old (Ok busy)
    turn_waits e = does_nothing (ReplicaTurn paused i (p, q) busy) old (Ok busy) unspent (turn_passed i p q busy old.state paused e)

    pub turn_builds : (new : Kept) (result : Result Bool Refusal) → next_at old.state i p q ≡ Ok (Some due.Build)
        → Does (BuildAndExchange i (p, q) busy) old.state new result → Does (ReplicaTurn paused i (p, q) busy) old.state new result
    turn_builds new result e rest =
        behind_nothing (ConsumeTurn paused i (p, q) busy) (BuildAndExchange i (p, q)) old new busy result unspent
        (consume_passed i p q busy old.state paused (Some due.Build) e refl) rest

    pub turn_asks : (new : Kept) (result : Result Bool Refusal) → next_at old.state i p q ≡ Ok (Some due.Ask)
        → Does (ExchangeTurn i (p, q) busy) old.state new result → Does (ReplicaTurn paused i (p, q) busy) old.state new result
    turn_asks new result e asks =
        behind_nothing (ConsumeTurn paused i (p, q) busy) (BuildAndExchange i (p, q)) old new busy result unspent
        (consume_passed i p q busy old.state paused (Some due.Ask) e refl) (rest_asks new result e asks)

    pub consuming : (new : Kept) (result : Result Bool Refusal) → next_at old.state i p q ≡ Ok (Some due.Consume) → waits_in old.state paused i p q ≡ false
        → Does (Attempted (Consume i p q BATCH) busy) old.state new result → Does (ConsumeTurn paused i (p, q) busy) old.state new result
    consuming new result e h attempt =
        let w = old.state in
        let may = and_from (is_ready_at w i p q) (not (waits_in w paused i p q)) (ready_next i p q busy w e) (not_from_false (waits_in w paused i p q) h) in
        subst (λ m. DoesFrom (Choose m (Attempted (Consume i p q BATCH) busy w) (Gives busy w)) w new result) (sym may) attempt
