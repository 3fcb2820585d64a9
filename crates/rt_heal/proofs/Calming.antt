-- A round in which no replica asks leaves all servers calm: each sees the present ideal state, and makes and gets what is due.
use Rattle.std.proofs.Common.{◌≡◌, ℕ, zero, suc, ◌+◌, ◌<◌, ◌≤◌, ◌⊎◌, inl, inr, Bool, true, false, List, [], ◌∷◌, ◌++◌, Option, Some, None, Result, Ok, Err, refl, sym, ◌∙◌, ap, subst, arith, slice_get}
use Rattle.std.specs.Prelude.{◌==◌, ◌||◌, nat_lt, slice_set}
use Rattle.std.proofs.lemmas.Bool.{cases_lt, false_from_ne_true, true≢false}
use Rattle.std.proofs.lemmas.Option.{none-some, same_Some, slice_get_within}
use Rattle.rt_base.specs.declared.numbers.Instance.{Instance}
use Rattle.rt_broker.proofs.Lasting.{got_of_set}
use Rattle.rt_deep.specs.Meaning.{Told as ToldDeep}
use Rattle.rt_events.specs.Fits.{Fits}
use Rattle.rt_events.specs.declared.event.Event.{Event}
use Rattle.rt_events.specs.declared.event.Event.TheVariants.{Download, See, Transit}
use Rattle.rt_events.specs.declared.outcome.Outcome.{Outcome}
use Rattle.rt_events.specs.declared.refusal.Refusal.{Refusal}
use Rattle.rt_events.specs.declared.refusal.Refusal.TheVariants.{NoSuchMessage, NoSuchNode, NodeDown, NothingToDo, Limit, Memory}
use Rattle.rt_lists.specs.Members.{Has}
use Rattle.rt_macros.specs.Doing.{Act, Attempted, AttemptedBy, Choose, Each, EachFrom, Gives, Happens, HappensBy, Passed, Reached, Refuses, after}
use Rattle.rt_macros.specs.Settling.{AfterRound, Downloads, ReplicasOfAll, Round, SegmentAt, ServerTurn, ServersTurn, Settles, SettlesIn, Transits, TransitsAndDownloads}
use Rattle.rt_macros.specs.declared.settling.TheConstants.{MOST_ROUNDS}
use Rattle.rt_model.specs.Entries.{entries_of}
use Rattle.rt_model.specs.Setup.{IsSetup}
use Rattle.rt_model.specs.declared.ideal_state.IdealEntry.{IdealEntry}
use Rattle.rt_model.specs.declared.ideal_state.Mode.TheVariants.{Consuming}
use Rattle.rt_model.specs.declared.node.Seen.{Seen}
use Rattle.rt_model.specs.declared.setup.Setup.{Setup}
use Rattle.rt_msgs.specs.Numbered.{Numbered}
use Rattle.rt_nodes.proofs.Looks.{downloads_looks, transits_looks, unwritten}
use Rattle.rt_nodes.specs.Refused.{OnlyGot, OnlyRead}
use Rattle.rt_nodes.specs.Servers.{NodeLoads, NodeMoves}
use Rattle.rt_nodes.specs.declared.server_node.ServerNode.{ServerNode}
use Rattle.rt_safety.proofs.JobsOn.{own_slot}
use Rattle.rt_safety.proofs.Later.{runs_are_safe}
use Rattle.rt_safety.specs.Runs.{happens, Runs, Turn}
use Rattle.rt_server.proofs.Listed.{due_has, wanted_has}
use Rattle.rt_server.specs.Calls.{targets_of}
use Rattle.rt_server.specs.Due.{due_of as due_segments, wanted_of}
use Rattle.rt_server.specs.Table.{ServerState}
use Rattle.rt_state.specs.Finding.{is_up}
use Rattle.rt_state.specs.IsSafeWorld.{IsSafeWorld}
use Rattle.rt_state.specs.Places.{AreAt}
use Rattle.rt_state.specs.Nodes.{ServerCallsAt, ServerGetsAt}
use Rattle.rt_state.specs.Room.{counted, no_cost}
use Rattle.rt_state.specs.Servers.{moves_in, wants_in}
use Rattle.rt_state.specs.declared.cost.Cost.{Cost}
use Rattle.rt_state.specs.declared.state.State.{State}
use Rattle.rt_store.specs.Meaning.{Told}
use Rattle.rt_store.specs.Memory.{means}
use Rattle.rt_world.proofs.Places.{at_set}
use Rattle.rt_world.proofs.SafeSteps.{steps_keep}
use Rattle.rt_world.specs.Reading.{due_transits_of, listed_by, wanted_in}
use Rattle.rt_world.specs.Step.{due_of, Steps}
use Rattle.rt_stream.specs.Log.{Log}
use Rattle.rt_heal.specs.Asks.{Asks}
use Rattle.rt_heal.specs.AtRest.{AreUp, IsUp}
use Rattle.rt_heal.specs.Calm.{AreAllCalm, IsCalm}
use Rattle.rt_heal.specs.GivenUp.{IsConsumable}
use Rattle.rt_heal.specs.Left.{left_in_world, most_entries, most_left}
use Rattle.rt_heal.proofs.Clearing.{downloads_loaded, loaded_due, loaded_here, loaded_targets, loaded_wants, transits_due, HasLoaded, IsLessDue}
use Rattle.rt_heal.proofs.Dropped.{leads_told, runs_told, IsToldRightly}
use Rattle.rt_heal.proofs.Following.{all_follow}
use Rattle.rt_heal.proofs.GivenUp.{consumable}
use Rattle.rt_heal.proofs.LessRounds.{asks_behind, asks_first, replicas_lower, settles_in, AsksOrLeaves, IsSteady}
use Rattle.rt_heal.proofs.Most.{calm_most}
use Rattle.rt_heal.proofs.Moving.{event_shut}
use Rattle.rt_heal.proofs.Nothing.{fails_test, nothing}
use Rattle.rt_heal.proofs.Quiet.{then_parts, told_not, told_same, AreCalm, GoesOn, IsThen}
use Rattle.rt_heal.proofs.Seeing.{leads_more, plan_met, see_healthy, see_told, HasSeen, IsHealthy}

-- ---- events for the segments of a list

-- an event for a segment that has come to an end, or had nothing to do
record HasCleared (I : State → Type 0) (D : SegmentAt → State → Bool) (s : SegmentAt) (w v : State) : Type 0 where
  so : I v
  own : D s v ≡ false
  fewer : (x : SegmentAt) → D x v ≡ true → D x w ≡ true

-- so are those of a list
record HasClearedAll (I : State → Type 0) (D : SegmentAt → State → Bool) (xs : List SegmentAt) (w v : State) : Type 0 where
  so : I v
  own : (s : SegmentAt) → Has xs s → D s v ≡ false
  fewer : (s : SegmentAt) → D s v ≡ true → D s w ≡ true

module _ (event : SegmentAt → Event) (I : State → Type 0) (D : SegmentAt → State → Bool)
    (step : (s : SegmentAt) (w y : State) (o : Outcome) → I w → Steps w (event s) y (Ok o) → HasCleared I D s w y)
    (idle : (s : SegmentAt) (w : State) → I w → due_of w (event s) ≡ nothing → D s w ≡ false) where
  abbrev Clears : SegmentAt → Bool → Act Bool
  Clears s busy w = Attempted (event s) busy w

  attempt_clears : (s : SegmentAt) (busy : Bool) (w : State) (v : Reached) (told : Bool) → I w → Clears s busy w v (Ok told) → HasCleared I D s w v.world
  attempt_clears s busy w v told k t = by_told t.between t.told t.last t.came.by t.further t.whole
    where
      by_told : (b : Reached) (r : Result Outcome Refusal) (l : Reached) → HappensBy (event s) w b r → AttemptedBy busy r b.world l (Ok told)
          → v ≡ after b.turns l → HasCleared I D s w v.world
      by_told b (Ok outcome) l by further whole =
          let end : v.world ≡ b.world = ap (λ (z : Reached). z.world) whole ∙ ap (λ (z : Reached). z.world) further.0 in
          subst (HasCleared I D s w) (sym end) (step s w b.world outcome k by.0)
      by_told b (Err NothingToDo) l by further whole =
          let end : v.world ≡ w =
          ap (λ (z : Reached). z.world) whole ∙ ap (λ (z : Reached). z.world) further.0 ∙ ap (λ (z : Reached). z.world) by.1 in
          subst (HasCleared I D s w) (sym end) (record { so = k; own = idle s w k by.0; fewer = λ x due. due })
      by_told b (Err NoSuchMessage) l by further whole = absurd (told_not told NoSuchMessage further.1)
      by_told b (Err NoSuchNode) l by further whole = absurd (told_not told NoSuchNode further.1)
      by_told b (Err NodeDown) l by further whole = absurd (told_not told NodeDown further.1)
      by_told b (Err (Limit which)) l by further whole = absurd (told_not told (Limit which) further.1)
      by_told b (Err Memory) l by further whole = absurd (told_not told Memory further.1)

  abbrev AllCleared : List SegmentAt → State → State → Type 0
  AllCleared xs w v = HasClearedAll I D xs w v

  each_clears : (xs : List SegmentAt) (busy : Bool) (w : State) (v : Reached) (told : Bool) → I w → Each Clears xs busy w v (Ok told) → AllCleared xs w v.world
  each_clears [] busy w v told k h =
      subst (λ (x : Reached). AllCleared [] w x.world) (sym h.0) (record { so = k; own = λ s has. absurd has; fewer = λ s due. due })
  each_clears (x ∷ xs) busy w v told k h =
      let t = then_parts (Clears x busy) (Each Clears xs) w v told h in
      let here = attempt_clears x busy w t.between t.told k t.came in
      let rest = each_clears xs t.told t.between.world t.last told here.so t.further in
      subst (AllCleared (x ∷ xs) w) (sym (ap (λ (z : Reached). z.world) t.whole))
      (record {
        so = rest.so;
        own = λ s has. by_place here rest s has;
        fewer = λ s due. here.fewer s (rest.fewer s due);
      })
    where
      by_place : {b l : State} → HasCleared I D x w b → AllCleared xs b l → (s : SegmentAt) → Has (x ∷ xs) s → D s l ≡ false
      by_place {b} {l} here rest s (inr has) = rest.own s has
      by_place {b} {l} here rest s (inl is) =
          false_from_ne_true (D s l) (λ due. true≢false (sym (rest.fewer s due) ∙ ap (λ (y : SegmentAt). D y b) (sym is) ∙ here.own))

  -- where each one due is in the list, none is due any more
  none_left : (xs : List SegmentAt) (w v : State) → ((s : SegmentAt) → D s w ≡ true → Has xs s) → AllCleared xs w v → (s : SegmentAt) → D s v ≡ false
  none_left xs w v all k s = false_from_ne_true (D s v) (λ due. true≢false (sym due ∙ k.own s (all s (k.fewer s due))))

-- ---- a server's part

-- a server that has seen the present ideal state, where those below it are calm
record IsMoving (from : State) (i : ℕ) (y : State) : Type 0 where
  healthy : IsHealthy from y
  fetches : y.deep.faults.plan ≡ []
  calm : AreCalm i y
  node : ServerNode
  there : slice_get y.servers i ≡ Some node
  seen : node.server.table.targets ≡ targets_of node.server.numbers.instance (entries_of y.store.writes)

abbrev at : ℕ → Instance
at i = record { 0 = i }

-- what is due at a server, and what it wants
abbrev due_at : ℕ → SegmentAt → State → Bool
due_at i s y = moves_in (slice_get y.servers i) s.0 s.1

abbrev wanted_at : ℕ → SegmentAt → State → Bool
wanted_at i s y = wants_in (slice_get y.servers i) s.0 s.1

-- a store that was only looked at has no fault planned after it, either
read_unplanned : (t u : Told) → OnlyRead t u → t.faults.plan ≡ [] → u.faults.plan ≡ []
read_unplanned t u (inl same) e = ap (λ (x : Told). x.faults.plan) same ∙ e
read_unplanned t u (inr met) e = ap (λ (x : Told). x.faults.plan) met ∙ plan_met t.faults e

got_unplanned : (t u : ToldDeep) → OnlyGot t u → t.faults.plan ≡ [] → u.faults.plan ≡ []
got_unplanned t u (inl same) e = ap (λ (x : ToldDeep). x.faults.plan) same ∙ e
got_unplanned t u (inr met) e = ap (λ (x : ToldDeep). x.faults.plan) met ∙ plan_met t.faults e

-- what the step of one server leaves
record HasStepped (from : State) (i : ℕ) (y : State) (old new : ServerNode) (z : State) : Type 0 where
  servers : z.servers ≡ slice_set y.servers i new
  log : z.log ≡ y.log
  written : z.store.writes ≡ y.store.writes
  unplanned : z.store.faults.plan ≡ []
  fetches : z.deep.faults.plan ≡ []
  setup : z.setup ≡ y.setup
  controllers : z.controllers ≡ y.controllers
  up : new.up ≡ old.up
  targets : new.server.table.targets ≡ old.server.table.targets
  numbers : new.server.numbers ≡ old.server.numbers

module _ (from : State) (i : ℕ) (y : State) (k : IsMoving from i y) (event : Event) (outcome : Outcome) (z : State) (new : ServerNode)
    (fits : Fits y.setup.schema event) (step : Steps y event z (Ok outcome)) (st : HasStepped from i y k.node new z) where
  stepped_healthy : IsHealthy from z
  stepped_healthy =
      record {
        safe = steps_keep y event z (Ok outcome) (λ h. cc) fits k.healthy.safe step;
        same = st.setup ∙ k.healthy.same;
        log = st.log ∙ k.healthy.log;
        written = st.written ∙ k.healthy.written;
        up = subst (AreAt IsUp) (sym st.servers) (at_set IsUp y.servers i new (st.up ∙ k.healthy.up i k.node k.there) k.healthy.up);
        unplanned = st.unplanned;
        controllers = st.controllers ∙ k.healthy.controllers;
        reached = (
          k.healthy.reached.0 ++ happens event outcome ∷ [],
          leads_more from k.healthy.reached.0 y z (happens event outcome) k.healthy.reached.1 (fits, step),
        );
      }

  -- the others are as they were
  stepped_calm : AreCalm i z
  stepped_calm j m found below = by_place (got_of_set y.servers i j new m (ap (λ (ns : List ServerNode). slice_get ns j) (sym st.servers) ∙ found))
    where
      by_place : ((j ≡ i) × (m ≡ new)) ⊎ (slice_get y.servers j ≡ Some m) → IsCalm z.store.writes m
      by_place (inl here) = absurd (omega (arith, below, here.0))
      by_place (inr old) = subst (λ (h : List Seen). IsCalm h m) (sym st.written) (k.calm j m old below)

  stepped_there : slice_get z.servers i ≡ Some new
  stepped_there = ap (λ (ns : List ServerNode). slice_get ns i) st.servers ∙ own_slot y.servers i k.node new k.there

  stepped_moving : IsMoving from i z
  stepped_moving =
      record {
        healthy = stepped_healthy;
        fetches = st.fetches;
        calm = stepped_calm;
        node = new;
        there = stepped_there;
        seen =
            st.targets ∙ k.seen ∙ ap (λ (x : Numbered). targets_of x.instance (entries_of y.store.writes)) (sym st.numbers)
            ∙ ap (λ (h : List Seen). targets_of new.server.numbers.instance (entries_of h)) (sym st.written);
      }

  -- what isn't due at the server before isn't behind it
  fewer_at : (test : Option ServerNode → Bool) → (test (Some new) ≡ true → test (Some k.node) ≡ true) → test (slice_get z.servers i) ≡ true
      → test (slice_get y.servers i) ≡ true
  fewer_at test less due = ap test k.there ∙ less (ap test (sym stepped_there) ∙ due)

-- ---- a transition

module _ (from : State) (i : ℕ) (consumes : (e : IdealEntry) → Has (entries_of from.store.writes) e → e.mode ≡ Consuming
    → IsConsumable from.store.writes e.partition e.sequence) where
  module _ (s : SegmentAt) (y z : State) (o : Outcome) (k : IsMoving from i y) (step : Steps y (Transit (at i) s.0 s.1) z (Ok o)) where
    moves_by : (cost : Cost) (new : ServerNode) (u : Told) → NodeMoves s.0 s.1 y.moment y.store u k.node new o
        → z ≡ counted (record y { servers = slice_set y.servers i new; store = u }) cost → HasCleared (IsMoving from i) (due_at i) s y z
    moves_by cost new u (result, h, told_it, up) is =
        let old = k.node in
        let kept = (k.healthy.safe.safe.servers i old k.there).over.kept in
        let looks = transits_looks y.store u old.server new.server s.0 s.1 y.moment result h in
        let less : IsLessDue old.server new.server = transits_due (means y.store) (means u) old.server new.server s.0 s.1 y.moment kept.ascending result h in
        let st : HasStepped from i y old new z =
        record {
          servers = ap (λ (x : State). x.servers) is;
          log = ap (λ (x : State). x.log) is;
          written = ap (λ (x : State). x.store.writes) is ∙ unwritten y.store u looks;
          unplanned = ap (λ (x : State). x.store.faults.plan) is ∙ read_unplanned y.store u looks k.healthy.unplanned;
          fetches = ap (λ (x : State). x.deep.faults.plan) is ∙ k.fetches;
          setup = ap (λ (x : State). x.setup) is;
          controllers = ap (λ (x : State). x.controllers) is;
          up = up;
          targets = less.targets;
          numbers = less.numbers;
        } in
        let there = stepped_there from i y k (Transit (at i) s.0 s.1) o z new tt step st in
        let shut = event_shut y k.healthy.safe (at i) old k.there k.healthy.unplanned k.seen present s.0 s.1 z o step new there in
        record {
          so = stepped_moving from i y k (Transit (at i) s.0 s.1) o z new tt step st;
          own = ap (λ (n : Option ServerNode). moves_in n s.0 s.1) there ∙ shut;
          fewer =
              λ x. fewer_at from i y k (Transit (at i) s.0 s.1) o z new tt step st (λ (n : Option ServerNode). moves_in n x.0 x.1) (less.due x.0 x.1);
        }
      where
        present : (e : IdealEntry) → Has (entries_of y.store.writes) e → e.mode ≡ Consuming → IsConsumable y.store.writes e.partition e.sequence
        present e has is_consumed =
            subst (λ (h : List Seen). IsConsumable h e.partition e.sequence) (sym k.healthy.written)
            (consumes e (subst (λ (h : List Seen). Has (entries_of h) e) k.healthy.written has) is_consumed)

    transit_clears : HasCleared (IsMoving from i) (due_at i) s y z
    transit_clears = by_step step
      where
        by_step : Steps y (Transit (at i) s.0 s.1) z (Ok o) → HasCleared (IsMoving from i) (due_at i) s y z
        by_step (cost, due, h) =
            let g = subst (λ (n : Option ServerNode). ServerCallsAt n y (at i) (NodeMoves s.0 s.1 y.moment) cost (z, o)) k.there h in
            moves_by cost g.0 g.1 g.2 g.3

  transit_idle : (s : SegmentAt) (y : State) → IsMoving from i y → due_of y (Transit (at i) s.0 s.1) ≡ nothing → due_at i s y ≡ false
  transit_idle s y k none = fails_test y (at i) s.0 (moves_in (slice_get y.servers i) s.0 s.1) no_cost none

-- ---- a download

-- and none of its transitions is due
record IsLoading (from : State) (i : ℕ) (y : State) : Type 0 where
  moving : IsMoving from i y
  moved : (s : SegmentAt) → due_at i s y ≡ false

module _ (from : State) (i : ℕ) where
  module _ (s : SegmentAt) (y z : State) (o : Outcome) (l : IsLoading from i y) (step : Steps y (Download (at i) s.0 s.1) z (Ok o)) where
    abbrev k : IsMoving from i y
    k = l.moving

    loads_by : (cost : Cost) (new : ServerNode) (u : ToldDeep) → NodeLoads s.0 s.1 y.deep u k.node new o
        → z ≡ counted (record y { servers = slice_set y.servers i new; deep = u }) cost → HasCleared (IsLoading from i) (wanted_at i) s y z
    loads_by cost new u (result, h, within, told_it, up) is =
        let old = k.node in
        let looks = downloads_looks y.deep u old.server.setup.schema old.server.table new.server.table s.0 s.1 result h in
        let has : HasLoaded old.server.table new.server.table s.0 s.1 =
        downloads_loaded y.deep u k.fetches old.server.setup.schema s.0 s.1 o old.server.table new.server.table result h told_it in
        let st : HasStepped from i y old new z =
        record {
          servers = ap (λ (x : State). x.servers) is;
          log = ap (λ (x : State). x.log) is;
          written = ap (λ (x : State). x.store.writes) is;
          unplanned = ap (λ (x : State). x.store.faults.plan) is ∙ k.healthy.unplanned;
          fetches = ap (λ (x : State). x.deep.faults.plan) is ∙ got_unplanned y.deep u looks k.fetches;
          setup = ap (λ (x : State). x.setup) is;
          controllers = ap (λ (x : State). x.controllers) is;
          up = up;
          targets = loaded_targets old.server.table new.server.table s.0 s.1 has;
          numbers = within.1;
        } in
        let there = stepped_there from i y k (Download (at i) s.0 s.1) o z new tt step st in
        let fewer = fewer_at from i y k (Download (at i) s.0 s.1) o z new tt step st in
        record {
          so = record {
            moving = stepped_moving from i y k (Download (at i) s.0 s.1) o z new tt step st;
            moved =
                λ x.
                false_from_ne_true (due_at i x z)
                (λ due.
                true≢false
                (sym (fewer (λ (n : Option ServerNode). moves_in n x.0 x.1) (loaded_due old.server.table new.server.table s.0 s.1 has x.0 x.1) due) ∙ l.moved x));
          };
          own = ap (λ (n : Option ServerNode). wants_in n s.0 s.1) there ∙ loaded_here old.server.table new.server.table s.0 s.1 has;
          fewer = λ x. fewer (λ (n : Option ServerNode). wants_in n x.0 x.1) (loaded_wants old.server.table new.server.table s.0 s.1 has x.0 x.1);
        }

    download_clears : HasCleared (IsLoading from i) (wanted_at i) s y z
    download_clears = by_step step
      where
        by_step : Steps y (Download (at i) s.0 s.1) z (Ok o) → HasCleared (IsLoading from i) (wanted_at i) s y z
        by_step (cost, due, h) =
            let g = subst (λ (n : Option ServerNode). ServerGetsAt n y (at i) (NodeLoads s.0 s.1) cost (z, o)) k.there h in
            loads_by cost g.0 g.1 g.2 g.3

  download_idle : (s : SegmentAt) (y : State) → IsLoading from i y → due_of y (Download (at i) s.0 s.1) ≡ nothing → wanted_at i s y ≡ false
  download_idle s y l none = fails_test y (at i) s.0 (wants_in (slice_get y.servers i) s.0 s.1) no_cost none

-- ---- the turn of a server

-- all servers below a number are calm
record AreCalmUpTo (from : State) (first : ℕ) (y : State) : Type 0 where
  healthy : IsHealthy from y
  fetches : y.deep.faults.plan ≡ []
  calm : AreCalm first y

module _ (from : State) (consumes : (e : IdealEntry) → Has (entries_of from.store.writes) e → e.mode ≡ Consuming
    → IsConsumable from.store.writes e.partition e.sequence) where
  module _ (i : ℕ) (w : State) (n : ServerNode) (k : AreCalmUpTo from i w) (there : slice_get w.servers i ≡ Some n) where
    -- it has seen the ideal state
    saw : (y : State) (o : Outcome) → Steps w (See (at i)) y (Ok o) → IsMoving from i y
    saw y o step =
        let seen = see_told from w (at i) n y o k.healthy there step in
        let now : slice_get y.servers i ≡ Some seen.new =
        ap (λ (x : State). slice_get x.servers i) seen.is ∙ own_slot w.servers i n seen.new there in
        let writes : y.store.writes ≡ w.store.writes = ap (λ (x : State). x.store.writes) seen.is ∙ seen.writes in
        record {
          healthy = see_healthy from w (at i) n y o k.healthy there step seen;
          fetches = ap (λ (x : State). x.deep.faults.plan) seen.is ∙ k.fetches;
          calm = λ j m found below. others seen writes j m found below;
          node = seen.new;
          there = now;
          seen =
              ap (λ (x : ServerState). x.table.targets) seen.server
              ∙ ap (λ (x : ServerState). targets_of x.numbers.instance (entries_of w.store.writes)) (sym seen.server)
              ∙ ap (λ (h : List Seen). targets_of seen.new.server.numbers.instance (entries_of h)) (sym writes);
        }
      where
        others : (seen : HasSeen w (at i) n y) → y.store.writes ≡ w.store.writes → AreCalm i y
        others seen writes j m found below =
            by_place (got_of_set w.servers i j seen.new m (ap (λ (x : State). slice_get x.servers j) (sym seen.is) ∙ found))
          where
            by_place : ((j ≡ i) × (m ≡ seen.new)) ⊎ (slice_get w.servers j ≡ Some m) → IsCalm y.store.writes m
            by_place (inl here) = absurd (omega (arith, below, here.0))
            by_place (inr old) = subst (λ (h : List Seen). IsCalm h m) (sym writes) (k.calm j m old below)

    -- each transition that is due is in the list, and each file that is wanted
    all_due : (y : State) → IsMoving from i y → (s : SegmentAt) → due_at i s y ≡ true → Has (due_transits_of y (at i)) s
    all_due y m s due =
        subst (λ (o : Option ServerNode). Has (listed_by due_segments o) s) (sym m.there)
        ((due_has m.node.server.table s.0 s.1).1 (ap (λ (o : Option ServerNode). moves_in o s.0 s.1) (sym m.there) ∙ due))

    all_wanted : (y : State) → IsMoving from i y → (s : SegmentAt) → wanted_at i s y ≡ true → Has (wanted_in y (at i)) s
    all_wanted y m s wanted =
        subst (λ (o : Option ServerNode). Has (listed_by wanted_of o) s) (sym m.there)
        ((wanted_has m.node.server.table s.0 s.1 (m.healthy.safe.safe.servers i m.node m.there).over.kept.ascending).1
        (ap (λ (o : Option ServerNode). wants_in o s.0 s.1) (sym m.there) ∙ wanted))

    turn_calms : (busy : Bool) (v : Reached) (told : Bool) → GoesOn i busy w v (Ok told) → AreCalmUpTo from (i + 1) v.world
    turn_calms busy v told g =
        let t = then_parts (Passed (See (at i))) (λ done. TransitsAndDownloads (at i) busy) w v told g in
        let u = then_parts (Happens (See (at i))) (λ outcome. Gives tt) w t.between t.told t.came in
        let d = then_parts (Transits (at i) busy) (Downloads (at i)) t.between.world t.last told t.further in
        let at_now : t.between.world ≡ u.between.world = ap (λ (x : Reached). x.world) u.whole ∙ ap (λ (x : Reached). x.world) u.further.0 in
        let first : IsMoving from i t.between.world = subst (IsMoving from i) (sym at_now) (saw u.between.world u.told u.came.by.0) in
        let moved = each_clears (λ (s : SegmentAt). Transit (at i) s.0 s.1) (IsMoving from i) (due_at i)
        (λ s x y o m step. transit_clears from i consumes s x y o m step) (λ s x m none. transit_idle from i consumes s x m none)
        (due_transits_of t.between.world (at i)) busy t.between.world d.between d.told first d.came in
        let none = none_left (λ (s : SegmentAt). Transit (at i) s.0 s.1) (IsMoving from i) (due_at i)
        (λ s x y o m step. transit_clears from i consumes s x y o m step) (λ s x m none. transit_idle from i consumes s x m none)
        (due_transits_of t.between.world (at i)) t.between.world d.between.world (all_due t.between.world first) moved in
        let second : IsLoading from i d.between.world = record { moving = moved.so; moved = none } in
        let loaded = each_clears (λ (s : SegmentAt). Download (at i) s.0 s.1) (IsLoading from i) (wanted_at i)
        (λ s x y o m step. download_clears from i s x y o m step) (λ s x m none. download_idle from i s x m none)
        (wanted_in d.between.world (at i)) d.told d.between.world d.last told second d.further in
        let empty = none_left (λ (s : SegmentAt). Download (at i) s.0 s.1) (IsLoading from i) (wanted_at i)
        (λ s x y o m step. download_clears from i s x y o m step) (λ s x m none. download_idle from i s x m none)
        (wanted_in d.between.world (at i)) d.between.world d.last.world (all_wanted d.between.world moved.so) loaded in
        let end : v.world ≡ d.last.world = ap (λ (x : Reached). x.world) t.whole ∙ ap (λ (x : Reached). x.world) d.whole in
        subst (AreCalmUpTo from (i + 1)) (sym end)
        (record {
          healthy = loaded.so.moving.healthy;
          fetches = loaded.so.moving.fetches;
          calm = λ j m found below. by_place d.last.world loaded.so empty j m found below (cases_lt j i);
        })
      where
        by_place : (y : State) → IsLoading from i y → ((s : SegmentAt) → wanted_at i s y ≡ false) → (j : ℕ) (m : ServerNode) → slice_get y.servers j ≡ Some m
            → j < i + 1 → (j < i) ⊎ (i ≤ j) → IsCalm y.store.writes m
        by_place y l empty j m found below (inl lt) = l.moving.calm j m found lt
        by_place y l empty j m found below (inr le) =
            let is : j ≡ i = omega (arith, le, below) in
            let same : l.moving.node ≡ m = same_Some l.moving.node m (sym l.moving.there ∙ ap (slice_get y.servers) (sym is) ∙ found) in
            subst (IsCalm y.store.writes) same
            (record {
              seen = l.moving.seen;
              moved = λ p q. ap (λ (o : Option ServerNode). moves_in o p q) (sym l.moving.there) ∙ l.moved (p, q);
              loaded = λ p q. ap (λ (o : Option ServerNode). wants_in o p q) (sym l.moving.there) ∙ empty (p, q);
            })

  server_calms : (i : ℕ) (busy : Bool) (w : State) (v : Reached) (told : Bool) → AreCalmUpTo from i w → ServerTurn i busy w v (Ok told)
      → AreCalmUpTo from (i + 1) v.world
  server_calms i busy w v told k h = by_node (slice_get w.servers i) refl h
    where
      none_more : slice_get w.servers i ≡ None → (j : ℕ) (m : ServerNode) → slice_get w.servers j ≡ Some m → j < i + 1 → (j < i) ⊎ (i ≤ j) → IsCalm w.store.writes m
      none_more none j m found below (inl lt) = k.calm j m found lt
      none_more none j m found below (inr le) =
          let is : j ≡ i = omega (arith, le, below) in absurd (none-some m (sym none ∙ ap (slice_get w.servers) (sym is) ∙ found))

      by_node : (o : Option ServerNode) → slice_get w.servers i ≡ o → Choose (is_up o) (GoesOn i busy w) (Gives busy w) v (Ok told)
          → AreCalmUpTo from (i + 1) v.world
      by_node None none g =
          subst (λ (x : Reached). AreCalmUpTo from (i + 1) x.world) (sym g.0)
          (record { healthy = k.healthy; fetches = k.fetches; calm = λ j m found below. none_more none j m found below (cases_lt j i) })
      by_node (Some n) there g =
          turn_calms i w n k there busy v told
          (subst (λ (b : Bool). Choose b (GoesOn i busy w) (Gives busy w) v (Ok told)) (k.healthy.up i n there) g)

  servers_calm : (first count : ℕ) (busy : Bool) (w : State) (v : Reached) (told : Bool) → AreCalmUpTo from first w
      → EachFrom ServerTurn first count busy w v (Ok told) → AreCalmUpTo from (first + count) v.world
  servers_calm first zero busy w v told k h =
      subst (λ (x : Reached). AreCalmUpTo from (first + 0) x.world) (sym h.0)
      (record { healthy = k.healthy; fetches = k.fetches; calm = λ j m found below. k.calm j m found (omega (arith, below)) })
  servers_calm first (suc count) busy w v told k h =
      let t = then_parts (ServerTurn first busy) (EachFrom ServerTurn (first + 1) count) w v told h in
      let here = server_calms first busy w t.between t.told k t.came in
      let rest = servers_calm (first + 1) count t.told t.between.world t.last told here t.further in
      subst (AreCalmUpTo from (first + suc count)) (sym (ap (λ (x : Reached). x.world) t.whole))
      (record { healthy = rest.healthy; fetches = rest.fetches; calm = λ j m found below. rest.calm j m found (omega (arith, below)) })

-- ---- a round

-- the servers' part leaves all calm, and writes nothing
pub record HasCalmed (w v : State) : Type 0 where
  pub steady : IsSteady v
  pub right : IsToldRightly v
  pub controllers : v.controllers ≡ w.controllers
  pub log : v.log ≡ w.log
  pub written : v.store.writes ≡ w.store.writes

module _ (setup : Setup) (turns : List Turn) (w : State) (b : Reached) (mid : Bool) (is : IsSetup setup) (run : Runs setup turns w) (up : AreUp w)
    (unplanned : w.store.faults.plan ≡ []) (fetches : w.deep.faults.plan ≡ []) (came : ServersTurn false w b (Ok mid)) where
  safe : IsSafeWorld w
  safe = runs_are_safe setup turns w is run

  between_calm : AreCalmUpTo w (0 + w.setup.servers) b.world
  between_calm =
      servers_calm w (λ e has consumes. consumable setup turns w e is run has consumes) 0 w.setup.servers false w b mid
      (record {
        healthy = record { safe = safe; same = refl; log = refl; written = refl; up = up; unplanned = unplanned; controllers = refl; reached = ([], refl) };
        fetches = fetches;
        calm = λ i n found below. absurd (omega (arith, below));
      }) came

  pub servers_calmed : HasCalmed w b.world
  servers_calmed =
      let k = between_calm.healthy in
      let told_so = leads_told w k.reached.0 b.world safe (runs_told setup turns w is run) k.reached.1 in
      record {
        steady = record {
          safe = k.safe;
          unplanned = k.unplanned;
          up = k.up;
          calm = λ i n there. between_calm.calm i n there (within i n there);
          follow = λ i n there. all_follow b.world k.safe told_so i n there;
        };
        right = told_so;
        controllers = k.controllers;
        log = k.log;
        written = k.written;
      }
    where
      within : (i : ℕ) (n : ServerNode) → slice_get b.world.servers i ≡ Some n → i < 0 + w.setup.servers
      within i n there =
          let inside = slice_get_within b.world.servers i n there in
          let count = between_calm.healthy.safe.safe.all_servers in
          let same : b.world.setup.servers ≡ w.setup.servers = ap (λ (x : Setup). x.servers) between_calm.healthy.same in
          omega (arith, inside, count, same)

module _ (setup : Setup) (turns : List Turn) (paused : Bool) (w : State) (v : Reached) (told : Bool) (is : IsSetup setup) (run : Runs setup turns w) (up : AreUp w)
    (unplanned : w.store.faults.plan ≡ []) (fetches : w.deep.faults.plan ≡ []) (h : Round paused w v (Ok told)) where
  abbrev t : IsThen (ServersTurn false) (ReplicasOfAll paused) w v told
  t = then_parts (ServersTurn false) (ReplicasOfAll paused) w v told h

  calmed : HasCalmed w t.between.world
  calmed = servers_calmed setup turns w t.between t.told is run up unplanned fetches t.came

  -- and in the replicas' part one asks, or all stay so
  abbrev pub AsksOrSteadies : Type 0
  AsksOrSteadies =
      Asks w v
      ⊎ (IsSteady v.world × (v.world.controllers ≡ w.controllers) × (v.world.log ≡ w.log) × (v.world.store.writes ≡ w.store.writes))

  pub round_steadies : AsksOrSteadies
  round_steadies =
      by_way (replicas_lower paused t.between.world.setup.servers t.told t.between.world t.last told calmed.steady t.further)
    where
      end : v.world ≡ t.last.world
      end = ap (λ (x : Reached). x.world) t.whole

      by_way : AsksOrLeaves t.between.world t.told t.last told → AsksOrSteadies
      by_way (inl a) = inl (asks_behind w t.between t.last v t.whole calmed.controllers a)
      by_way (inr x) =
          inr (
            subst IsSteady (sym end) x.steady,
            ap (λ (y : State). y.controllers) end ∙ x.controllers ∙ calmed.controllers,
            ap (λ (y : State). y.log) end ∙ x.log ∙ calmed.log,
            ap (λ (y : State). y.store.writes) end ∙ x.written ∙ calmed.written,
          )

  -- so no more is left than the ideal state asks for
  pub steady_most : IsSteady v.world × (v.world.controllers ≡ w.controllers) × (v.world.log ≡ w.log) × (v.world.store.writes ≡ w.store.writes)
      → left_in_world v.world ≤ most_left w
  steady_most k =
      let log = ap (λ (l : Log). most_entries l (entries_of v.world.store.writes)) k.2 in
      let writes = ap (λ (h : List Seen). most_entries w.log (entries_of h)) k.3 in
      omega (arith, calm_most v.world k.0.safe k.0.calm k.0.follow, log, writes)

module _ (setup : Setup) (turns : List Turn) (paused : Bool) (w : State) (v : Reached) (told : Bool) (is : IsSetup setup) (run : Runs setup turns w) (up : AreUp w)
    (unplanned : w.store.faults.plan ≡ []) (fetches : w.deep.faults.plan ≡ []) (h : Round paused w v (Ok told)) where
  abbrev steadied : AsksOrSteadies setup turns paused w v told is run up unplanned fetches h
  steadied = round_steadies setup turns paused w v told is run up unplanned fetches h

  pub round_calms : Asks w v ⊎ AreAllCalm v.world
  round_calms = by_way steadied
    where
      by_way : AsksOrSteadies setup turns paused w v told is run up unplanned fetches h → Asks w v ⊎ AreAllCalm v.world
      by_way (inl a) = inl a
      by_way (inr k) = inr k.0.calm

  pub round_most : Asks w v ⊎ (left_in_world v.world ≤ most_left w)
  round_most = by_way steadied
    where
      by_way : AsksOrSteadies setup turns paused w v told is run up unplanned fetches h → Asks w v ⊎ (left_in_world v.world ≤ most_left w)
      by_way (inl a) = inl a
      by_way (inr k) = inr (steady_most setup turns paused w v told is run up unplanned fetches h k)

-- ---- settle

-- so settle ends, where it has two rounds more than that
module _ (setup : Setup) (turns : List Turn) (paused : Bool) (w : State) (settled : Bool) (is : IsSetup setup) (run : Runs setup turns w) (up : AreUp w)
    (unplanned : w.store.faults.plan ≡ []) (fetches : w.deep.faults.plan ≡ []) where
  settles_in_run : (rounds : ℕ) (u : Reached) → most_left w + 1 < rounds → SettlesIn paused rounds w u (Ok settled) → Asks w u ⊎ (settled ≡ true)
  settles_in_run zero u few h = absurd (omega (arith, few))
  settles_in_run (suc rounds) u few h =
      let t = then_parts (Round paused) (AfterRound (SettlesIn paused rounds)) w u settled h in
      by_told t.between t.last t.told t.came t.further t.whole
    where
      by_told : (b l : Reached) (told : Bool) → Round paused w b (Ok told) → AfterRound (SettlesIn paused rounds) told b.world l (Ok settled)
          → u ≡ after b.turns l → Asks w u ⊎ (settled ≡ true)
      by_told b l false came further whole = inr (told_same settled true further.1)
      by_told b l true came further whole = by_way (round_steadies setup turns paused w b true is run up unplanned fetches came)
        where
          by_rest : b.world.controllers ≡ w.controllers → Asks b.world l ⊎ (settled ≡ true) → Asks w u ⊎ (settled ≡ true)
          by_rest same (inl a) = inl (asks_behind w b l u whole same a)
          by_rest same (inr e) = inr e

          by_way : AsksOrSteadies setup turns paused w b true is run up unplanned fetches came → Asks w u ⊎ (settled ≡ true)
          by_way (inl a) = inl (asks_first w b l u whole a)
          by_way (inr k) =
              let most = steady_most setup turns paused w b true is run up unplanned fetches came k in
              by_rest k.1 (settles_in paused rounds b.world l settled k.0 (omega (arith, few, most)) further)

  pub settle_ends_in_run : (rounds : ℕ) (u : Reached) → most_left w + 1 < rounds → Settles paused rounds w u (Ok settled) → Asks w u ⊎ (settled ≡ true)
  settle_ends_in_run rounds u few h = by_test ((rounds == 0) || nat_lt MOST_ROUNDS rounds) h
    where
      by_test : (b : Bool) → Choose b (Refuses NothingToDo w) (SettlesIn paused rounds w) u (Ok settled) → Asks w u ⊎ (settled ≡ true)
      by_test true g = absurd (told_not settled NothingToDo g.1)
      by_test false g = settles_in_run rounds u few g
