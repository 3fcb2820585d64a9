-- Rounds of `settle` come to their end, where nobody is put off: each that writes leaves fewer writes, and between two such ones less lies
-- ahead with each round.
use Rattle.std.proofs.Common.{◌≡◌, ◌⊎◌, inl, inr, ℕ, zero, suc, ◌+◌, ◌*◌, ◌<◌, ◌≤◌, Bool, true, false, List, [], ◌++◌, Ok, refl, sym, ◌∙◌, ap, subst, arith}
use Rattle.std.specs.Prelude.{◌==◌, ◌&&◌, ◌||◌, not, nat_lt, Option, Some, None, ◌∷◌}
use Rattle.std.proofs.Math.Nat.{suc-mul}
use Rattle.std.proofs.lemmas.Bool.{false≢true}
use Rattle.std.proofs.lemmas.Nat.{mul-le}
use Rattle.rt_base.specs.declared.numbers.Partition.{Partition}
use Rattle.rt_base.specs.declared.numbers.Sequence.{Sequence}
use Rattle.rt_consumer.specs.declared.phase.Phase.{Phase}
use Rattle.rt_consumer.specs.declared.phase.Phase.TheVariants as phase
use Rattle.rt_controller.specs.declared.segment_machine.SegmentMachine.{SegmentMachine}
use Rattle.rt_entry.specs.declared.entry.Entry.{Entry}
use Rattle.rt_entry.specs.declared.entry.Entry.TheVariants.{Committed, Replica}
use Rattle.rt_events.specs.declared.refusal.Refusal.TheVariants.{NothingToDo}
use Rattle.rt_macros.specs.Doing.{after, Choose, Reached, Refuses}
use Rattle.rt_macros.specs.Settling.{AfterRound, ReplicasOfAll, Round, ServersTurn, Settles, SettlesIn}
use Rattle.rt_macros.specs.declared.settling.TheConstants.{MOST_ROUNDS}
use Rattle.rt_model.specs.Completion.{Completion}
use Rattle.rt_model.specs.Entries.{entries_of}
use Rattle.rt_model.specs.Setup.{IsSetup}
use Rattle.rt_model.specs.declared.ideal_state.IdealEntry.{IdealEntry}
use Rattle.rt_model.specs.declared.node.Seen.{Seen}
use Rattle.rt_model.specs.declared.setup.Setup.{Setup}
use Rattle.rt_nodes.specs.declared.server_node.ServerNode.{ServerNode}
use Rattle.rt_safety.specs.Runs.{Runs, Turn}
use Rattle.rt_safety.proofs.Later.{runs_are_safe}
use Rattle.rt_server.specs.Table.{Segment}
use Rattle.rt_state.specs.IsSafeWorld.{IsSafeWorld}
use Rattle.rt_state.specs.Start.{start}
use Rattle.rt_state.specs.declared.state.State.{State}
use Rattle.rt_stream.specs.Log.{Log}
use Rattle.rt_heal.specs.AtRest.{AreUp}
use Rattle.rt_heal.proofs.Calming.{servers_calmed, HasCalmed}
use Rattle.rt_heal.proofs.GivenUp.{consumable}
use Rattle.rt_heal.proofs.LessRounds.{servers_rest, HasRested, IsSteady}
use Rattle.rt_heal.proofs.Most.{asked_sum, calm_sum, servers_sum, table_sum}
use Rattle.rt_heal.proofs.Quiet.{then_parts, told_not, told_same, IsThen}
use Rattle.rt_calm.specs.Again.{again_entry, again_servers, again_table, ahead_still, asked_machines, awaits, commits_at, is_spent, machine_of, spent_again, steps_if, stray_again, IsLeading}
use Rattle.rt_calm.specs.Ahead.{ahead_in_world, most_ahead, most_ahead_of}
use Rattle.rt_calm.specs.Off.{IsHeld, IsPutOff, IsTurnedAway, PutsOff, Waits}
use Rattle.rt_calm.specs.Spent.{most_yet, rounds_in_all, rounds_yet, writes_left, Spends}
use Rattle.rt_calm.proofs.Exchanged.{told_behind, told_first, waits_behind, waits_first}
use Rattle.rt_calm.proofs.Keeping.{leads_then, IsGoing}
use Rattle.rt_calm.proofs.Leading.{leads_still}
use Rattle.rt_calm.proofs.Rounds.{calm_ahead, replicas_go, rested_ahead, rested_still, spends_then, HasGone, Lessens}
use Rattle.rt_calm.proofs.Serving.{servers_serve, HasServed}
use Rattle.rt_calm.proofs.Settling.{AreConsumable, IsSettling}

times_less : (a b c d : ℕ) → a < b → c ≤ d → a * c + d ≤ b * d
times_less a b c d less most =
    omega (arith, mul-le a c a d (omega arith) most, suc-mul a d, mul-le (suc a) d b d (omega (arith, less)) (omega arith))

abbrev left_of : State → ℕ
left_of w = writes_left w.setup w.log w.store.writes

abbrev yet_of : State → ℕ
yet_of w = most_yet w.setup w.log w.store.writes

module _ (setup : Setup) (is : IsSetup setup) where
  -- a world of a run, in which all servers are up and no fault is planned
  pub record IsReady (w : State) : Type 0 where
    pub turns : List Turn
    pub run : Runs setup turns w
    pub up : AreUp w
    pub unplanned : w.store.faults.plan ≡ []
    pub fetches : w.deep.faults.plan ≡ []

  -- a round leaves such a world, in which fewer writes are left, or nothing was written and all servers are calm; and then less of what
  -- is counted
  pub record HasTurned (count : State → ℕ) (w v : State) (told : Bool) : Type 0 where
    pub ready : IsReady v
    pub same : v.setup ≡ w.setup
    pub log : v.log ≡ w.log
    pub leading : IsLeading w → IsLeading v
    pub spends : Spends w.setup w.log w.store.writes v.store.writes
    pub steady : v.store.writes ≡ w.store.writes → IsSteady v
    pub less : v.store.writes ≡ w.store.writes → IsSteady w → told ≡ true → count v < count w

  -- ---- a round

  module _ (paused : Bool) (w : State) (v : Reached) (told : Bool) (k : IsReady w) (h : Round paused w v (Ok told)) where
    -- the servers' part, and the replicas'
    abbrev pub parts : IsThen (ServersTurn false) (ReplicasOfAll paused) w v told
    parts = then_parts (ServersTurn false) (ReplicasOfAll paused) w v told h

    abbrev pub middle : State
    middle = parts.between.world

    safe : IsSafeWorld w
    safe = runs_are_safe setup k.turns w is k.run

    pub calmed : HasCalmed w middle
    calmed = servers_calmed setup k.turns w parts.between parts.told is k.run k.up k.unplanned k.fetches parts.came

    pub served : HasServed w middle
    served = servers_serve w parts.between parts.told safe parts.came

    pub going : IsGoing middle
    going = record { safe = calmed.steady.safe; told = calmed.right }

    pub settling : IsSettling middle
    settling =
        record {
          steady = calmed.steady;
          fetches = served.fetches k.fetches;
          consumable = subst AreConsumable (sym calmed.written) (λ e has mode. consumable setup k.turns w e is k.run has mode);
        }

    gone : HasGone middle parts.told parts.last told
    gone = replicas_go paused parts.told middle parts.last told going parts.further

    pub rested : IsSteady w → HasRested w false middle parts.told
    rested steady = servers_rest 0 w.setup.servers false w parts.between parts.told steady parts.came

    counts_less : (count : State → ℕ) → (HasRested w false middle parts.told → count middle ≡ count w)
        → Lessens count middle parts.told parts.last.world told → IsSteady w → told ≡ true → count parts.last.world < count w
    counts_less count still less steady busy = by_less (less.1 busy)
      where
        by_less : (parts.told ≡ true) ⊎ (count parts.last.world < count middle) → count parts.last.world < count w
        by_less (inl moved) = absurd (false≢true (sym (rested steady).idle ∙ moved))
        by_less (inr lt) = omega (arith, lt, still (rested steady))

    pub turned : (count : State → ℕ)
        → (parts.last.world.store.writes ≡ w.store.writes → IsSteady w → told ≡ true → count parts.last.world < count w)
        → HasTurned count w v.world told
    turned count less =
        subst (λ (y : State). HasTurned count w y told) (sym (ap (λ (y : Reached). y.world) parts.whole))
        (record {
          ready = record {
            turns = k.turns ++ (served.led.0 ++ gone.on.led.0);
            run =
                leads_then (start setup) w parts.last.world k.turns (served.led.0 ++ gone.on.led.0) k.run
                (leads_then w middle parts.last.world served.led.0 gone.on.led.0 served.led.1 gone.on.led.1);
            up = gone.on.up calmed.steady.up;
            unplanned = gone.on.unplanned calmed.steady.unplanned;
            fetches = gone.on.fetches (served.fetches k.fetches);
          };
          same = gone.on.setup ∙ served.setup;
          log = gone.on.log ∙ calmed.log;
          leading = λ leads. gone.on.leads.leading ((leads_still w middle calmed.controllers).leading leads);
          spends = spends_then w middle parts.last.world served.setup calmed.log (inl calmed.written) gone.spends;
          steady = λ same. gone.on.steady (same ∙ sym calmed.written) calmed.steady;
          less = less;
        })

    -- a replica is put off, or less lies ahead
    off_or_turned : PutsOff v ⊎ HasTurned ahead_in_world w v.world told
    off_or_turned = by_less gone.less
      where
        by_less : PutsOff parts.last ⊎ Lessens ahead_in_world middle parts.told parts.last.world told → PutsOff v ⊎ HasTurned ahead_in_world w v.world told
        by_less (inl off) = inl (told_behind IsPutOff parts.between parts.last v parts.whole off)
        by_less (inr less) =
            inr (turned ahead_in_world (λ same steady busy. counts_less ahead_in_world (λ x. rested_ahead w false middle parts.told x) less steady busy))

    -- one is told HOLD or NOT_LEADER, or less lies ahead and may lie ahead again
    waits_or_turned : Waits w v ⊎ HasTurned ahead_still w v.world told
    waits_or_turned = by_spends gone.spends
      where
        by_still : Waits middle parts.last ⊎ Lessens ahead_still middle parts.told parts.last.world told → Waits w v ⊎ HasTurned ahead_still w v.world told
        by_still (inl waits) =
            inl (waits_behind w middle parts.between parts.last v (leads_still w middle calmed.controllers).leading parts.whole waits)
        by_still (inr less) =
            inr (turned ahead_still (λ same steady busy. counts_less ahead_still (λ x. rested_still w false middle parts.told x) less steady busy))

        by_spends : Spends middle.setup middle.log middle.store.writes parts.last.world.store.writes → Waits w v ⊎ HasTurned ahead_still w v.world told
        by_spends (inl same) = by_still (gone.still settling same)
        by_spends (inr fewer) =
            inr (turned ahead_still (λ same steady busy. absurd (omega (arith, fewer.0, ap (writes_left middle.setup middle.log) (same ∙ sym calmed.written)))))

  -- ---- rounds

  -- what ends them, what each hands on to the next, or a round does so; and what is counted is at most so many times what can lie ahead
  module _ (paused : Bool) (Off : State → Reached → Type 0) (Keeps : State → Type 0) (count : State → ℕ) (weight : ℕ)
      (first : (w : State) (b l u : Reached) → u ≡ after b.turns l → Off w b → Off w u)
      (behind : (w m : State) (b l u : Reached) → (IsLeading w → IsLeading m) → u ≡ after b.turns l → Off m l → Off w u)
      (most : (w : State) → IsSteady w → count w ≤ weight * most_ahead w)
      (turns : (w : State) (v : Reached) (told : Bool) → IsReady w → Keeps w → Round paused w v (Ok told)
      → Off w v ⊎ (HasTurned count w v.world told × Keeps v.world)) where
    abbrev bound : State → ℕ
    bound w = weight * yet_of w

    -- so many rounds are enough: for all writes that are left and all that can lie ahead, or in a steady world for what does
    abbrev pub AreEnough : ℕ → State → Type 0
    AreEnough rounds w =
        (left_of w * (bound w + 2) + (bound w + 1) < rounds) ⊎ (IsSteady w × (left_of w * (bound w + 2) + count w < rounds))

    pub as_many : (some others : ℕ) (w : State) → some ≤ others → AreEnough some w → AreEnough others w
    as_many some others w fits (inl few) = inl (omega (arith, few, fits))
    as_many some others w fits (inr (steady, few)) = inr (steady, omega (arith, few, fits))

    enough_then : (rounds : ℕ) (w b : State) → HasTurned count w b true → AreEnough (suc rounds) w → AreEnough rounds b
    enough_then rounds w b x enough = by_spends x.spends
      where
        left : left_of b ≡ writes_left w.setup w.log b.store.writes
        left =
            ap (λ (s : Setup). writes_left s b.log b.store.writes) x.same ∙ ap (λ (l : Log). writes_left w.setup l b.store.writes) x.log

        yet : yet_of b ≡ most_yet w.setup w.log b.store.writes
        yet = ap (λ (s : Setup). most_yet s b.log b.store.writes) x.same ∙ ap (λ (l : Log). most_yet w.setup l b.store.writes) x.log

        still : b.store.writes ≡ w.store.writes → AreEnough (suc rounds) w → AreEnough rounds b
        still same enough = by_enough enough
          where
            steady : IsSteady b
            steady = x.steady same

            same_bound : bound b ≡ bound w
            same_bound = ap (λ (n : ℕ). weight * n) (yet ∙ ap (most_yet w.setup w.log) same)

            same_both : left_of b * (bound b + 2) ≡ left_of w * (bound w + 2)
            same_both =
                ap (λ (n : ℕ). n * (bound b + 2)) (left ∙ ap (writes_left w.setup w.log) same) ∙ ap (λ (n : ℕ). left_of w * (n + 2)) same_bound

            few_ahead : count b ≤ bound b
            few_ahead = omega (arith, most b steady, mul-le weight (most_ahead b) weight (yet_of b) (omega arith) (omega arith))

            by_enough : AreEnough (suc rounds) w → AreEnough rounds b
            by_enough (inl few) = inr (steady, omega (arith, few, same_both, same_bound, few_ahead))
            by_enough (inr (was, few)) = inr (steady, omega (arith, few, same_both, x.less same was refl))

        fewer : left_of b < left_of w → bound b ≤ bound w → AreEnough (suc rounds) w → AreEnough rounds b
        fewer less fits (inl few) =
            inl (omega (arith, few, fits, times_less (left_of b) (left_of w) (bound b + 2) (bound w + 2) less (omega (arith, fits))))
        fewer less fits (inr (was, few)) =
            inl (omega (arith, few, fits, times_less (left_of b) (left_of w) (bound b + 2) (bound w + 2) less (omega (arith, fits))))

        by_spends : Spends w.setup w.log w.store.writes b.store.writes → AreEnough rounds b
        by_spends (inl same) = still same enough
        by_spends (inr less) =
            fewer (omega (arith, less.0, left)) (mul-le weight (yet_of b) weight (yet_of w) (omega arith) (omega (arith, less.1, yet))) enough

    -- a replica is put off so, or it has settled, or so many rounds more are enough
    abbrev pub EndsOrGoesOn : ℕ → State → Reached → Bool → Type 0
    EndsOrGoesOn more w u settled = Off w u ⊎ (settled ≡ true) ⊎ (IsReady u.world × Keeps u.world × AreEnough more u.world)

    pub settles_further : (rounds more : ℕ) (w : State) (u : Reached) (settled : Bool) → IsReady w → Keeps w → AreEnough (rounds + more) w
        → SettlesIn paused rounds w u (Ok settled) → EndsOrGoesOn more w u settled
    settles_further zero more w u settled ready kept enough h =
        let same : u.world ≡ w = ap (λ (x : Reached). x.world) h.0 in
        inr (inr (subst IsReady (sym same) ready, subst Keeps (sym same) kept, subst (AreEnough more) (sym same) (as_many (zero + more) more w (omega arith) enough)))
    settles_further (suc rounds) more w u settled ready kept enough h =
        by_told t.between t.last t.told t.came t.further t.whole (λ x l k also e further. settles_further rounds more x l settled k also e further)
      where
        t : IsThen (Round paused) (AfterRound (SettlesIn paused rounds)) w u settled
        t = then_parts (Round paused) (AfterRound (SettlesIn paused rounds)) w u settled h

        by_told : (b l : Reached) (told : Bool) → Round paused w b (Ok told) → AfterRound (SettlesIn paused rounds) told b.world l (Ok settled)
            → u ≡ after b.turns l
            → ((x : State) (y : Reached) → IsReady x → Keeps x → AreEnough (rounds + more) x → SettlesIn paused rounds x y (Ok settled)
            → EndsOrGoesOn more x y settled)
            → EndsOrGoesOn more w u settled
        by_told b l false came further whole go = inr (inl (told_same settled true further.1))
        by_told b l true came further whole go = by_way (turns w b true ready kept came)
          where
            end : u.world ≡ l.world
            end = ap (λ (x : Reached). x.world) whole

            enough_now : HasTurned count w b.world true → AreEnough (rounds + more) b.world
            enough_now x =
                enough_then (rounds + more) w b.world x (as_many (suc rounds + more) (suc (rounds + more)) w (omega arith) enough)

            by_rest : (IsLeading w → IsLeading b.world) → EndsOrGoesOn more b.world l settled → EndsOrGoesOn more w u settled
            by_rest leading (inl off) = inl (behind w b.world b l u leading whole off)
            by_rest leading (inr (inl quiet)) = inr (inl quiet)
            by_rest leading (inr (inr x)) =
                inr (inr (subst IsReady (sym end) x.0, subst Keeps (sym end) x.1, subst (AreEnough more) (sym end) x.2))

            by_way : Off w b ⊎ (HasTurned count w b.world true × Keeps b.world) → EndsOrGoesOn more w u settled
            by_way (inl off) = inl (first w b l u whole off)
            by_way (inr (x, also)) = by_rest x.leading (go b.world l x.ready also (enough_now x) further)

    -- a replica is put off so, or it has settled
    pub settles_on : (rounds : ℕ) (w : State) (u : Reached) (settled : Bool) → IsReady w → Keeps w → AreEnough rounds w → SettlesIn paused rounds w u (Ok settled)
        → Off w u ⊎ (settled ≡ true)
    settles_on rounds w u settled ready kept enough h =
        by_way (settles_further rounds 0 w u settled ready kept (as_many rounds (rounds + 0) w (omega arith) enough) h)
      where
        none : AreEnough 0 u.world → ⊥
        none (inl few) = omega (arith, few)
        none (inr (steady, few)) = omega (arith, few)

        by_way : EndsOrGoesOn 0 w u settled → Off w u ⊎ (settled ≡ true)
        by_way (inl off) = inl off
        by_way (inr (inl quiet)) = inr quiet
        by_way (inr (inr x)) = absurd (none x.2)

-- ---- what may lie ahead again at most

steps_most : (b : Bool) → steps_if b ≤ 6
steps_most true = omega arith
steps_most false = omega arith

spent_most : (h : List Seen) (p : Partition) (q : Sequence) (m : Option Completion) → spent_again h p q m ≤ 6
spent_most h p q None = omega arith
spent_most h p q (Some m) = steps_most (is_spent h p q m)

stray_most : (m : Option Completion) (i : ℕ) (ph : Phase) → stray_again m i ph ≤ 6
stray_most m i (phase.Unsealed o) = steps_most (commits_at o.stage && not (awaits m i o.stage o.rows.end))
stray_most m i (phase.Retained kept) = omega arith
stray_most m i (phase.Committed kept) = omega arith
stray_most m i (phase.Discarded d) = omega arith

entry_most : (h : List Seen) (ms : List SegmentMachine) (i : ℕ) (s : Segment) (e : Entry) → again_entry h ms i s e ≤ 12
entry_most h ms i s (Replica r) =
    omega (arith, spent_most h s.0 s.1 (machine_of ms s.0 s.1), stray_most (machine_of ms s.0 s.1) i r.phase)
entry_most h ms i s (Committed c) = omega arith

table_most : (h : List Seen) (ms : List SegmentMachine) (i : ℕ) (es : List (Segment × Entry)) → again_table h ms i es ≤ table_sum (λ e. 12) es
table_most h ms i [] = omega arith
table_most h ms i (e ∷ es) = omega (arith, entry_most h ms i e.0 e.1, table_most h ms i es)

servers_most : (h : List Seen) (ms : List SegmentMachine) (i : ℕ) (ns : List ServerNode) → again_servers h ms i ns ≤ servers_sum (λ e. 12) ns
servers_most h ms i [] = omega arith
servers_most h ms i (n ∷ ns) = omega (arith, table_most h ms i n.server.table.entries, servers_most h ms (suc i) ns)

asked_most : (log : Log) (es : List IdealEntry) → asked_sum (λ p. 12) es ≤ most_ahead_of log es + most_ahead_of log es
asked_most log [] = omega arith
asked_most log (e ∷ es) = omega (arith, asked_most log es)

pub still_most : (w : State) → IsSteady w → ahead_still w ≤ 3 * most_ahead w
still_most w k =
    omega (
      arith,
      calm_ahead w k,
      servers_most w.store.writes (asked_machines w) 0 w.servers,
      calm_sum w k.safe k.calm (λ e. 12) (λ p. 12) (λ i n there x has. omega arith),
      asked_most w.log (entries_of w.store.writes),
    )

-- ---- in a run

-- where nothing more is handed on
nothing_more : {A B : Type 0} → A ⊎ B → A ⊎ (B × Unit {0})
nothing_more (inl off) = inl off
nothing_more (inr turned) = inr (turned, tt)

module _ (setup : Setup) (turns : List Turn) (paused : Bool) (rounds : ℕ) (w : State) (u : Reached) (settled : Bool) (is : IsSetup setup) (run : Runs setup turns w)
    (up : AreUp w) (unplanned : w.store.faults.plan ≡ []) (fetches : w.deep.faults.plan ≡ []) where
  pub ready : IsReady setup is w
  ready = record { turns = turns; run = run; up = up; unplanned = unplanned; fetches = fetches }

  -- its rounds are those of `settle`
  pub by_rounds : (P : Type 0) → (SettlesIn paused rounds w u (Ok settled) → P) → Settles paused rounds w u (Ok settled) → P
  by_rounds P f h = by_test ((rounds == 0) || nat_lt MOST_ROUNDS rounds) h
    where
      by_test : (b : Bool) → Choose b (Refuses NothingToDo w) (SettlesIn paused rounds w) u (Ok settled) → P
      by_test true g = absurd (told_not settled NothingToDo g.1)
      by_test false g = f g

  pub settles_all : rounds_yet w.setup w.log w.store.writes < rounds → Settles paused rounds w u (Ok settled) → PutsOff u ⊎ (settled ≡ true)
  settles_all few h =
      by_rounds (PutsOff u ⊎ (settled ≡ true))
      (λ g. settles_on setup is paused (λ w v. PutsOff v) (λ w. Unit {0}) ahead_in_world 1 (λ w b l u whole off. told_first IsPutOff b l u whole off)
      (λ w m b l u leading whole off. told_behind IsPutOff b l u whole off) (λ w k. omega (arith, calm_ahead w k))
      (λ w v told k also h. nothing_more (off_or_turned setup is paused w v told k h)) rounds w u settled ready tt (inl once) g) h
    where
      same : 1 * yet_of w ≡ yet_of w
      same = omega arith

      once : left_of w * (1 * yet_of w + 2) + (1 * yet_of w + 1) < rounds
      once = subst (λ (n : ℕ). left_of w * (n + 2) + (n + 1) < rounds) (sym same) few

  pub settles_unless_waiting : rounds_in_all w.setup w.log w.store.writes < rounds → Settles paused rounds w u (Ok settled) → Waits w u ⊎ (settled ≡ true)
  settles_unless_waiting few h =
      by_rounds (Waits w u ⊎ (settled ≡ true))
      (λ g. settles_on setup is paused Waits (λ w. Unit {0}) ahead_still 3 waits_first waits_behind still_most
      (λ w v told k also h. nothing_more (waits_or_turned setup is paused w v told k h)) rounds w u settled ready tt (inl few) g) h

  pub settles_unless_told : rounds_in_all w.setup w.log w.store.writes < rounds → Settles paused rounds w u (Ok settled)
      → IsHeld u ⊎ IsTurnedAway u ⊎ (settled ≡ true)
  settles_unless_told few h = by_way (settles_unless_waiting few h)
    where
      by_way : Waits w u ⊎ (settled ≡ true) → IsHeld u ⊎ IsTurnedAway u ⊎ (settled ≡ true)
      by_way (inl (inl held)) = inl held
      by_way (inl (inr (away, none))) = inr (inl away)
      by_way (inr quiet) = inr (inr quiet)

  pub settles_where_led : IsLeading w → rounds_in_all w.setup w.log w.store.writes < rounds → Settles paused rounds w u (Ok settled)
      → IsHeld u ⊎ (settled ≡ true)
  settles_where_led leading few h = by_way (settles_unless_waiting few h)
    where
      by_way : Waits w u ⊎ (settled ≡ true) → IsHeld u ⊎ (settled ≡ true)
      by_way (inl (inl held)) = inl held
      by_way (inl (inr (away, none))) = absurd (none leading)
      by_way (inr quiet) = inr quiet
