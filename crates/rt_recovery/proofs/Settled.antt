-- From a fresh start on `settle` ends: each round that writes nothing leaves less, even where replicas are told to hold in it. And what it
-- leaves: a world that goes on so, and the last round was quiet.
use Rattle.std.proofs.Common.{◌≡◌, ◌⊎◌, inl, inr, ℕ, zero, suc, ◌+◌, ◌*◌, ◌<◌, ◌≤◌, Bool, true, false, List, [], Ok, refl, sym, ◌∙◌, ap, subst, arith}
use Rattle.std.proofs.Math.Nat.{suc-mul}
use Rattle.std.proofs.lemmas.Bool.{false≢true, true≢false}
use Rattle.rt_macros.specs.Doing.{after, Gives, Reached}
use Rattle.rt_macros.specs.Settling.{AfterRound, ReplicasOfAll, Round, ServersTurn, Settles, SettlesIn}
use Rattle.rt_model.specs.Setup.{IsSetup}
use Rattle.rt_model.specs.declared.setup.Setup.{Setup}
use Rattle.rt_safety.specs.Runs.{Runs, Turn}
use Rattle.rt_safety.proofs.Later.{runs_are_safe}
use Rattle.rt_safety.proofs.Runs.{leads_add}
use Rattle.rt_state.specs.Start.{start}
use Rattle.rt_state.specs.declared.state.State.{State}
use Rattle.rt_world.proofs.StartSafe.{start_safe}
use Rattle.rt_heal.proofs.Dropped.{runs_told}
use Rattle.rt_heal.proofs.LessRounds.{HasRested, IsSteady}
use Rattle.rt_heal.proofs.Quiet.{then_parts, told_same, IsThen}
use Rattle.rt_calm.specs.Again.{ahead_still, IsLeading}
use Rattle.rt_calm.specs.Spent.{rounds_in_all}
use Rattle.rt_calm.proofs.Leading.{leads_still}
use Rattle.rt_calm.proofs.Rounds.{rested_still}
use Rattle.rt_calm.proofs.Settled.{by_rounds, calmed, going, middle, parts, rested, served, settles_further, settling, still_most, turned, AreEnough, HasTurned, IsReady}
use Rattle.rt_recovery.specs.ByRows.{IsByRows}
use Rattle.rt_recovery.specs.Fresh.{IsFresh}
use Rattle.rt_recovery.specs.GoingOn.{AllGoOn}
use Rattle.rt_recovery.specs.Often.{AfterSettle, SettlesOften}
use Rattle.rt_recovery.proofs.GoingOn.{same_goes_on}
use Rattle.rt_recovery.proofs.Recovering.{IsRecovering}
use Rattle.rt_recovery.proofs.Serving.{servers_by_rows}
use Rattle.rt_recovery.proofs.Starting.{fresh_by_rows}
use Rattle.rt_recovery.proofs.Walking.{replicas_walk, walk_less}

-- what each round hands on to the next
record GoesByRows (w : State) : Type 0 where
  by_rows : IsByRows w
  leading : IsLeading w
  millis : 1 ≤ w.setup.table.millis

-- the last round to this world was quiet
record EndsQuietly (paused : Bool) (u : State) : Type 0 where
  before : State
  stands : IsRecovering before
  last : Reached
  quiet : Round paused before last (Ok false)
  end : u ≡ last.world

-- what `settle` leaves, where it settled: behind a quiet round a world of a run that recovers, in which partitions that go on do so
pub record HasSettled (setup : Setup) (paused : Bool) (w u : State) : Type 0 where
  pub before : State
  pub stands : IsRecovering before
  pub last : Reached
  pub quiet : Round paused before last (Ok false)
  pub end : u ≡ last.world
  pub run : (turns : List Turn) × Runs setup turns u
  pub recovering : IsRecovering u
  pub goes_on : AllGoOn w → AllGoOn u

module _ (setup : Setup) (is : IsSetup setup) where
  recovers : (w : State) → IsReady setup is w → GoesByRows w → IsRecovering w
  recovers w k by =
      record {
        going = record { safe = runs_are_safe setup k.turns w is k.run; told = runs_told setup k.turns w is k.run };
        by_rows = by.by_rows;
        up = k.up;
        unplanned = k.unplanned;
        fetches = k.fetches;
        leading = by.leading;
        millis = by.millis;
      }

  -- a round leaves less where it writes nothing, hands that on, and partitions that go on do so
  record TurnsByRows (w v : State) (told : Bool) : Type 0 where
    turned : HasTurned setup is ahead_still w v told
    by : GoesByRows v
    goes_on : AllGoOn w → AllGoOn v

  module _ (paused : Bool) (w : State) (v : Reached) (told : Bool) (k : IsReady setup is w) (by : GoesByRows w) (h : Round paused w v (Ok told)) where
    abbrev halves : IsThen (ServersTurn false) (ReplicasOfAll paused) w v told
    halves = parts setup is paused w v told k h

    abbrev between : State
    between = middle setup is paused w v told k h

    recovering : IsRecovering between
    recovering =
        let c = calmed setup is paused w v told k h in
        let s = served setup is paused w v told k h in
        record {
          going = going setup is paused w v told k h;
          by_rows = servers_by_rows setup k.turns w halves.between halves.told is k.run k.up k.unplanned by.by_rows halves.came;
          up = c.steady.up;
          unplanned = c.steady.unplanned;
          fetches = s.fetches k.fetches;
          leading = (leads_still w between c.controllers).leading by.leading;
          millis = subst (λ (x : Setup). 1 ≤ x.table.millis) (sym s.setup) by.millis;
        }

    less : halves.last.world.store.writes ≡ w.store.writes → IsSteady w → told ≡ true → ahead_still halves.last.world < ahead_still w
    less same steady busy =
        let r : HasRested w false between halves.told = rested setup is paused w v told k h steady in
        let further : ReplicasOfAll paused false between halves.last (Ok true) =
        subst (λ (b : Bool). ReplicasOfAll paused b between halves.last (Ok true)) r.idle
        (subst (λ (b : Bool). ReplicasOfAll paused halves.told between halves.last (Ok b)) busy halves.further) in
        let fell = walk_less paused between halves.last recovering (settling setup is paused w v told k h) further
        (same ∙ sym (calmed setup is paused w v told k h).written) in
        omega (arith, fell, rested_still w false between halves.told r)

    round_turns : TurnsByRows w v.world told
    round_turns =
        let end : v.world ≡ halves.last.world = ap (λ (z : Reached). z.world) halves.whole in
        let x = turned setup is paused w v told k h ahead_still less in
        let walked = replicas_walk paused halves.told between halves.last told recovering halves.further in
        let first = same_goes_on w between (served setup is paused w v told k h).setup (calmed setup is paused w v told k h).written in
        record {
          turned = x;
          by = record {
            by_rows = subst IsByRows (sym end) walked.by_rows;
            leading = x.leading by.leading;
            millis = subst (λ (y : Setup). 1 ≤ y.table.millis) (sym x.same) by.millis;
          };
          goes_on = λ all. subst AllGoOn (sym end) (walked.goes_on (first all));
        }

  -- ---- all rounds

  module _ (paused : Bool) where
    -- what they leave; and where they settled, the last was quiet
    record RoundsLeave (w u : State) (settled : Bool) : Type 0 where
      ready : IsReady setup is u
      by : GoesByRows u
      goes_on : AllGoOn w → AllGoOn u
      quietly : settled ≡ true → EndsQuietly paused u

    none_leave : (w : State) (u : Reached) (settled : Bool) → IsReady setup is w → GoesByRows w → Gives false w u (Ok settled) → RoundsLeave w u.world settled
    none_leave w u settled k by h =
        subst (λ (x : State). RoundsLeave w x settled) (sym (ap (λ (z : Reached). z.world) h.0))
        (record { ready = k; by = by; goes_on = λ all. all; quietly = λ e. absurd (true≢false (sym e ∙ told_same settled false h.1)) })

    leave_then : (w m u : State) (mid settled : Bool) → RoundsLeave w m mid → RoundsLeave m u settled → RoundsLeave w u settled
    leave_then w m u mid settled x y =
        record { ready = y.ready; by = y.by; goes_on = λ all. y.goes_on (x.goes_on all); quietly = y.quietly }

    settles_leave : (rounds : ℕ) (w : State) (u : Reached) (settled : Bool) → IsReady setup is w → GoesByRows w → SettlesIn paused rounds w u (Ok settled)
        → RoundsLeave w u.world settled
    settles_leave zero w u settled k by h = none_leave w u settled k by h
    settles_leave (suc rounds) w u settled k by h =
        by_told t.between t.last t.told t.came t.further t.whole (λ x l ready also further. settles_leave rounds x l settled ready also further)
      where
        t : IsThen (Round paused) (AfterRound (SettlesIn paused rounds)) w u settled
        t = then_parts (Round paused) (AfterRound (SettlesIn paused rounds)) w u settled h

        by_told : (b l : Reached) (told : Bool) → Round paused w b (Ok told) → AfterRound (SettlesIn paused rounds) told b.world l (Ok settled)
            → u ≡ after b.turns l
            → ((x : State) (y : Reached) → IsReady setup is x → GoesByRows x → SettlesIn paused rounds x y (Ok settled) → RoundsLeave x y.world settled)
            → RoundsLeave w u.world settled
        by_told b l false came further whole go =
            let x = round_turns paused w b false k by came in
            subst (λ (z : State). RoundsLeave w z settled) (sym (ap (λ (z : Reached). z.world) whole ∙ ap (λ (z : Reached). z.world) further.0))
            (record {
              ready = x.turned.ready;
              by = x.by;
              goes_on = x.goes_on;
              quietly = λ e. record { before = w; stands = recovers w k by; last = b; quiet = came; end = refl };
            })
        by_told b l true came further whole go =
            let x = round_turns paused w b true k by came in
            let y = go b.world l x.turned.ready x.by further in
            subst (λ (z : State). RoundsLeave w z settled) (sym (ap (λ (z : Reached). z.world) whole))
            (record { ready = y.ready; by = y.by; goes_on = λ all. y.goes_on (x.goes_on all); quietly = y.quietly })

    one_leaves : (rounds : ℕ) (w : State) (u : Reached) (settled : Bool) → IsReady setup is w → GoesByRows w → Settles paused rounds w u (Ok settled)
        → RoundsLeave w u.world settled
    one_leaves rounds w u settled k by h =
        by_rounds setup k.turns paused rounds w u settled is k.run k.up k.unplanned k.fetches (RoundsLeave w u.world settled)
        (λ g. settles_leave rounds w u settled k by g) h

    often_leave : (rounds times : ℕ) (w : State) (u : Reached) (settled : Bool) → IsReady setup is w → GoesByRows w → SettlesOften paused rounds times w u (Ok settled)
        → RoundsLeave w u.world settled
    often_leave rounds zero w u settled k by h = none_leave w u settled k by h
    often_leave rounds (suc times) w u settled k by h =
        by_told t.between t.last t.told t.came t.further t.whole (λ x l ready also further. often_leave rounds times x l settled ready also further)
      where
        t : IsThen (Settles paused rounds) (AfterSettle (SettlesOften paused rounds times)) w u settled
        t = then_parts (Settles paused rounds) (AfterSettle (SettlesOften paused rounds times)) w u settled h

        by_told : (b l : Reached) (told : Bool) → Settles paused rounds w b (Ok told)
            → AfterSettle (SettlesOften paused rounds times) told b.world l (Ok settled) → u ≡ after b.turns l
            → ((x : State) (y : Reached) → IsReady setup is x → GoesByRows x → SettlesOften paused rounds times x y (Ok settled) → RoundsLeave x y.world settled)
            → RoundsLeave w u.world settled
        by_told b l true came further whole go =
            let x = one_leaves rounds w b true k by came in
            subst (λ (z : State). RoundsLeave w z settled) (sym (ap (λ (z : Reached). z.world) whole ∙ ap (λ (z : Reached). z.world) further.0))
            (record { ready = x.ready; by = x.by; goes_on = x.goes_on; quietly = λ e. x.quietly refl })
        by_told b l false came further whole go =
            let x = one_leaves rounds w b false k by came in
            subst (λ (z : State). RoundsLeave w z settled) (sym (ap (λ (z : Reached). z.world) whole))
            (leave_then w b.world l.world false settled x (go b.world l x.ready x.by further))

    -- ---- so many rounds are enough

    turns_on : (x : State) (y : Reached) (told : Bool) → IsReady setup is x → GoesByRows x → Round paused x y (Ok told)
        → ⊥ ⊎ (HasTurned setup is ahead_still x y.world told × GoesByRows y.world)
    turns_on x y told k by h = let z = round_turns paused x y told k by h in inr (z.turned, z.by)

    abbrev Enough : ℕ → State → Type 0
    Enough rounds w =
        AreEnough setup is paused (λ x y. ⊥) GoesByRows ahead_still 3 (λ x b l y whole off. off) (λ x m b l y leads whole off. off) still_most turns_on rounds w

    more_enough : (some others : ℕ) (w : State) → some ≤ others → Enough some w → Enough others w
    more_enough some others w fits (inl few) = inl (omega (arith, few, fits))
    more_enough some others w fits (inr (steady, few)) = inr (steady, omega (arith, few, fits))

    -- one `settle` settles, or so many rounds more are enough
    one_goes : (rounds more : ℕ) (w : State) (u : Reached) (settled : Bool) → IsReady setup is w → GoesByRows w → Enough (rounds + more) w
        → Settles paused rounds w u (Ok settled) → (settled ≡ true) ⊎ (IsReady setup is u.world × GoesByRows u.world × Enough more u.world)
    one_goes rounds more w u settled k by enough h =
        by_rounds setup k.turns paused rounds w u settled is k.run k.up k.unplanned k.fetches
        ((settled ≡ true) ⊎ (IsReady setup is u.world × GoesByRows u.world × Enough more u.world))
        (λ g. by_way
        (settles_further setup is paused (λ x y. ⊥) GoesByRows ahead_still 3 (λ x b l y whole off. off) (λ x m b l y leads whole off. off) still_most turns_on rounds more
        w u settled k by enough g)) h
      where
        by_way : ⊥ ⊎ (settled ≡ true) ⊎ (IsReady setup is u.world × GoesByRows u.world × Enough more u.world)
            → (settled ≡ true) ⊎ (IsReady setup is u.world × GoesByRows u.world × Enough more u.world)
        by_way (inl off) = absurd off
        by_way (inr other) = other

    often_settles : (rounds times : ℕ) (w : State) (u : Reached) (settled : Bool) → IsReady setup is w → GoesByRows w → Enough (times * rounds) w
        → SettlesOften paused rounds times w u (Ok settled) → settled ≡ true
    often_settles rounds zero w u settled k by enough h = absurd (none enough)
      where
        none : Enough (zero * rounds) w → ⊥
        none (inl few) = omega (arith, few)
        none (inr (steady, few)) = omega (arith, few)
    often_settles rounds (suc times) w u settled k by enough h =
        by_told t.between t.last t.told t.came t.further (λ x l ready also more further. often_settles rounds times x l settled ready also more further)
      where
        t : IsThen (Settles paused rounds) (AfterSettle (SettlesOften paused rounds times)) w u settled
        t = then_parts (Settles paused rounds) (AfterSettle (SettlesOften paused rounds times)) w u settled h

        enough_now : Enough (rounds + times * rounds) w
        enough_now =
            more_enough (suc times * rounds) (rounds + times * rounds) w (omega (arith, suc-mul times rounds)) enough

        by_told : (b l : Reached) (told : Bool) → Settles paused rounds w b (Ok told)
            → AfterSettle (SettlesOften paused rounds times) told b.world l (Ok settled)
            → ((x : State) (y : Reached) → IsReady setup is x → GoesByRows x → Enough (times * rounds) x → SettlesOften paused rounds times x y (Ok settled)
            → settled ≡ true)
            → settled ≡ true
        by_told b l true came further go = told_same settled true further.1
        by_told b l false came further go = by_way (one_goes rounds (times * rounds) w b false k by enough_now came)
          where
            by_way : (false ≡ true) ⊎ (IsReady setup is b.world × GoesByRows b.world × Enough (times * rounds) b.world) → settled ≡ true
            by_way (inl e) = absurd (false≢true e)
            by_way (inr x) = go b.world l x.0 x.1 x.2 further

  has_settled : (paused : Bool) (w u : State) → RoundsLeave paused w u true → HasSettled setup paused w u
  has_settled paused w u x =
      let q = x.quietly refl in
      record {
        before = q.before;
        stands = q.stands;
        last = q.last;
        quiet = q.quiet;
        end = q.end;
        run = (x.ready.turns, x.ready.run);
        recovering = recovers u x.ready x.by;
        goes_on = x.goes_on;
      }

-- ---- from a fresh start on

module _ (setup : Setup) (turns : List Turn) (w : State) (is : IsSetup setup) (run : Runs setup turns w) (fresh : IsFresh w) (unplanned : w.store.faults.plan ≡ [])
    (fetches : w.deep.faults.plan ≡ []) (leading : IsLeading w) (millis : 1 ≤ setup.table.millis) where
  fresh_ready : IsReady setup is w
  fresh_ready = record { turns = turns; run = run; up = λ i n there. (fresh.servers i n there).up; unplanned = unplanned; fetches = fetches }

  fresh_goes : GoesByRows w
  fresh_goes =
      let same : w.setup ≡ setup = (leads_add (start setup) turns w (start_safe setup is) run).goes.setup in
      record {
        by_rows = fresh_by_rows w fresh;
        leading = leading;
        millis = subst (λ (x : Setup). 1 ≤ x.table.millis) (sym same) millis;
      }

  settles_once : (paused : Bool) (rounds : ℕ) (u : Reached) (settled : Bool) → rounds_in_all w.setup w.log w.store.writes < rounds
      → Settles paused rounds w u (Ok settled) → settled ≡ true
  settles_once paused rounds u settled few h =
      by_way (one_goes setup is paused rounds 0 w u settled fresh_ready fresh_goes (more_enough setup is paused rounds (rounds + 0) w (omega arith) (inl few)) h)
    where
      none : Enough setup is paused 0 u.world → ⊥
      none (inl few) = omega (arith, few)
      none (inr (steady, few)) = omega (arith, few)

      by_way : (settled ≡ true) ⊎ (IsReady setup is u.world × GoesByRows u.world × Enough setup is paused 0 u.world) → settled ≡ true
      by_way (inl quiet) = quiet
      by_way (inr x) = absurd (none x.2)

pub settles_from_fresh : (setup : Setup) (turns : List Turn) (paused : Bool) (rounds : ℕ) (w : State) (u : Reached) (settled : Bool) → IsSetup setup
    → Runs setup turns w → IsFresh w → w.store.faults.plan ≡ [] → w.deep.faults.plan ≡ [] → IsLeading w → 1 ≤ setup.table.millis
    → rounds_in_all w.setup w.log w.store.writes < rounds → Settles paused rounds w u (Ok settled) → settled ≡ true
settles_from_fresh setup turns paused rounds w u settled is run fresh unplanned fetches leading millis few h =
    settles_once setup turns w is run fresh unplanned fetches leading millis paused rounds u settled few h

pub settles_often : (setup : Setup) (turns : List Turn) (paused : Bool) (rounds times : ℕ) (w : State) (u : Reached) (settled : Bool) → IsSetup setup
    → Runs setup turns w → IsFresh w → w.store.faults.plan ≡ [] → w.deep.faults.plan ≡ [] → IsLeading w → 1 ≤ setup.table.millis
    → rounds_in_all w.setup w.log w.store.writes < times * rounds → SettlesOften paused rounds times w u (Ok settled) → settled ≡ true
settles_often setup turns paused rounds times w u settled is run fresh unplanned fetches leading millis few h =
    often_settles setup is paused rounds times w u settled (fresh_ready setup turns w is run fresh unplanned fetches leading millis)
    (fresh_goes setup turns w is run fresh unplanned fetches leading millis) (inl few) h

pub fresh_leaves : (setup : Setup) (turns : List Turn) (paused : Bool) (rounds : ℕ) (w : State) (u : Reached) → IsSetup setup → Runs setup turns w → IsFresh w
    → w.store.faults.plan ≡ [] → w.deep.faults.plan ≡ [] → IsLeading w → 1 ≤ setup.table.millis → Settles paused rounds w u (Ok true)
    → HasSettled setup paused w u.world
fresh_leaves setup turns paused rounds w u is run fresh unplanned fetches leading millis h =
    has_settled setup is paused w u.world
    (one_leaves setup is paused rounds w u true (fresh_ready setup turns w is run fresh unplanned fetches leading millis)
    (fresh_goes setup turns w is run fresh unplanned fetches leading millis) h)

pub often_leaves : (setup : Setup) (turns : List Turn) (paused : Bool) (rounds times : ℕ) (w : State) (u : Reached) → IsSetup setup → Runs setup turns w → IsFresh w
    → w.store.faults.plan ≡ [] → w.deep.faults.plan ≡ [] → IsLeading w → 1 ≤ setup.table.millis → SettlesOften paused rounds times w u (Ok true)
    → HasSettled setup paused w u.world
often_leaves setup turns paused rounds times w u is run fresh unplanned fetches leading millis h =
    has_settled setup is paused w u.world
    (often_leave setup is paused rounds times w u true (fresh_ready setup turns w is run fresh unplanned fetches leading millis)
    (fresh_goes setup turns w is run fresh unplanned fetches leading millis) h)
