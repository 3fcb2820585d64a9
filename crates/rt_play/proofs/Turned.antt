-- A settle leaves no server out that is up.
use Rattle.std.proofs.Common.{◌≡◌, ◌<◌, ◌≤◌, ◌+◌, ◌==◌, ◌||◌, inl, ℕ, zero, suc, Bool, true, false, List, [], ◌∷◌, ◌++◌, Option, Some, None, Ok, nat_lt, refl, sym, ◌∙◌, ap, subst, slice_get, slice_set, arith, ⊎_elim}
use Rattle.std.proofs.lemmas.Bool.{cases_eq, false≢true}
use Rattle.rt_base.specs.declared.gate.NodeId.TheVariants.{Server}
use Rattle.rt_base.specs.declared.numbers.Instance.{Instance}
use Rattle.rt_events.specs.declared.event.Event.TheVariants as event
use Rattle.rt_events.specs.declared.outcome.Outcome.{Outcome}
use Rattle.rt_events.specs.declared.refusal.Refusal.TheVariants.{NothingToDo}
use Rattle.rt_lists.proofs.Members.{Has-append_left, Has-append_right}
use Rattle.rt_lists.specs.Members.{Has}
use Rattle.rt_macros.specs.Doing.{Choose, EachFrom, Gives, Happens, Passed, Reached, Refuses, Then}
use Rattle.rt_macros.specs.Settling.{AfterRound, DownloadTurn, Downloads, ReplicasOfAll, Round, SegmentAt, ServerTurn, ServersTurn, SettleTold, Settles, SettlesIn, TransitTurn, Transits, TransitsAndDownloads}
use Rattle.rt_macros.specs.declared.settling.TheConstants.{MOST_ROUNDS}
use Rattle.rt_nodes.specs.declared.server_node.ServerNode.{ServerNode}
use Rattle.rt_play.proofs.Keeping.{Keeps, attempted_keeps, choose_keeps, each_keeps, passed_keeps, stay_keeps, then_keeps}
use Rattle.rt_play.proofs.LineReads.{told_or, was_then}
use Rattle.rt_play.specs.Turned.{LeaveNoneOut}
use Rattle.rt_report.specs.MacroTexts.{settled_text}
use Rattle.rt_safety.proofs.JobsOn.{other_slot, own_slot}
use Rattle.rt_safety.specs.Runs.{Turn, happens}
use Rattle.rt_state.specs.Finding.{is_server_up, is_up}
use Rattle.rt_state.specs.Nodes.{ServerCallsAt, ServerGetsAt}
use Rattle.rt_state.specs.Servers.{NodeLoads, NodeMoves, NodeSees}
use Rattle.rt_state.specs.declared.state.State.{State}
use Rattle.rt_world.specs.Reading.{due_transits_of, up_in, wanted_in}
use Rattle.rt_world.specs.Step.{Steps}

-- ---- a server that is up stays so

-- a node takes the place of one that is up as it is
slot_up : (ns : List ServerNode) (j i : ℕ) (old new : ServerNode) → slice_get ns j ≡ Some old → new.up ≡ old.up → is_up (slice_get ns i) ≡ true
    → is_up (slice_get (slice_set ns j new) i) ≡ true
slot_up ns j i old new at same up = ⊎_elim here (λ apart. there apart (slice_get ns i) refl up) (cases_eq i j)
  where
    here : i ≡ j → is_up (slice_get (slice_set ns j new) i) ≡ true
    here e =
        ap (λ k. is_up (slice_get (slice_set ns j new) k)) e ∙ ap is_up (own_slot ns j old new at) ∙ same
        ∙ ap is_up (sym at ∙ ap (slice_get ns) (sym e)) ∙ up

    there : (i ≡ j → ⊥) → (o : Option ServerNode) → slice_get ns i ≡ o → is_up o ≡ true → is_up (slice_get (slice_set ns j new) i) ≡ true
    there apart None e k = absurd (false≢true k)
    there apart (Some n) e k = ap is_up (other_slot ns j i new n apart e) ∙ k

module _ (i : Instance) where
  abbrev IsUp : State → Type 0
  IsUp w = is_server_up w i ≡ true

  see_up : (j : Instance) (w v : State) (o : Outcome) → IsUp w → Steps w (event.See j) v (Ok o) → IsUp v
  see_up j w v o up (cost, due, h) = by_server (slice_get w.servers j.0) refl h
    where
      by_server : (n : Option ServerNode) → slice_get w.servers j.0 ≡ n → ServerCallsAt n w j NodeSees cost (v, o) → IsUp v
      by_server None at h = absurd h
      by_server (Some old) at (new, store, step, is) =
          ap (λ (x : State). is_server_up x i) is ∙ slot_up w.servers j.0 i.0 old new at step.3 up

  transit_up : (j : Instance) (segment : SegmentAt) (w v : State) (o : Outcome) → IsUp w → Steps w (event.Transit j segment.0 segment.1) v (Ok o) → IsUp v
  transit_up j segment w v o up (cost, due, h) = by_server (slice_get w.servers j.0) refl h
    where
      by_server : (n : Option ServerNode) → slice_get w.servers j.0 ≡ n → ServerCallsAt n w j (NodeMoves segment.0 segment.1 w.moment) cost (v, o) → IsUp v
      by_server None at h = absurd h
      by_server (Some old) at (new, store, step, is) =
          ap (λ (x : State). is_server_up x i) is ∙ slot_up w.servers j.0 i.0 old new at step.3 up

  download_up : (j : Instance) (segment : SegmentAt) (w v : State) (o : Outcome) → IsUp w → Steps w (event.Download j segment.0 segment.1) v (Ok o) → IsUp v
  download_up j segment w v o up (cost, due, h) = by_server (slice_get w.servers j.0) refl h
    where
      by_server : (n : Option ServerNode) → slice_get w.servers j.0 ≡ n → ServerGetsAt n w j (NodeLoads segment.0 segment.1) cost (v, o) → IsUp v
      by_server None at h = absurd h
      by_server (Some old) at (new, deep, step, is) =
          ap (λ (x : State). is_server_up x i) is ∙ slot_up w.servers j.0 i.0 old new at step.4 up

  abbrev server : ℕ → Instance
  server n = record { 0 = n }

  turn_up : (n : ℕ) (busy : Bool) → Keeps IsUp (ServerTurn n busy)
  turn_up n busy w v r k h =
      choose_keeps IsUp w (up_in w (Server (server n))) _ _
      (λ y q g.
      then_keeps IsUp (Passed (event.See (server n))) (λ done. TransitsAndDownloads (server n) busy) (passed_keeps IsUp (event.See (server n)) (see_up (server n)))
      (λ done.
      then_keeps IsUp (Transits (server n) busy) (Downloads (server n))
      (λ x z t at f.
      each_keeps IsUp (TransitTurn (server n)) (due_transits_of x (server n)) busy
      (λ segment b. attempted_keeps IsUp (event.Transit (server n) segment.0 segment.1) b (transit_up (server n) segment)) x z t at f)
      (λ b x z t at f.
      each_keeps IsUp (DownloadTurn (server n)) (wanted_in x (server n)) b
      (λ segment d. attempted_keeps IsUp (event.Download (server n) segment.0 segment.1) d (download_up (server n) segment)) x z t at f))
      w y q k g)
      (λ y q g. stay_keeps IsUp w y k g.0)
      v r h

  -- ---- its turn

  abbrev Sees : List Turn → Type 0
  Sees turns = (outcome : Outcome) × Has turns (happens (event.See i) outcome)

  front_sees : (xs ys : List Turn) → Sees xs → Sees (xs ++ ys)
  front_sees xs ys (o, has) = (o, Has-append_left xs ys (happens (event.See i) o) has)

  rest_sees : (xs ys : List Turn) → Sees ys → Sees (xs ++ ys)
  rest_sees xs ys (o, has) = (o, Has-append_right xs ys (happens (event.See i) o) has)

  of_turns : (v : Reached) (turns : List Turn) → v.turns ≡ turns → Sees turns → Sees v.turns
  of_turns v turns e s = subst Sees (sym e) s

  own_turn : (busy : Bool) (w : State) (v : Reached) (b told : Bool) → b ≡ true
      → Choose b (Then (Passed (event.See i)) (λ done. TransitsAndDownloads i busy) w) (Gives busy w) v (Ok told) → Sees v.turns
  own_turn busy w v false told up h = absurd (false≢true up)
  own_turn busy w v true told up h =
      let t = was_then (Passed (event.See i)) (λ done. TransitsAndDownloads i busy) w v told h in
      let s = was_then (Happens (event.See i)) (λ outcome. Gives tt) w t.between t.told t.came in
      of_turns v (t.between.turns ++ t.last.turns) (ap (λ (x : Reached). x.turns) t.whole)
      (front_sees t.between.turns t.last.turns
      (of_turns t.between (s.between.turns ++ s.last.turns) (ap (λ (x : Reached). x.turns) s.whole)
      (front_sees s.between.turns s.last.turns (of_turns s.between (happens (event.See i) s.told ∷ []) s.came.by.1 (s.told, inl refl)))))

  turns_see : (first count : ℕ) (busy : Bool) (w : State) (v : Reached) (told : Bool) → first ≤ i.0 → i.0 < first + count → IsUp w
      → EachFrom ServerTurn first count busy w v (Ok told) → Sees v.turns
  turns_see first zero busy w v told low high up h = absurd (omega (arith, low, high))
  turns_see first (suc count) busy w v told low high up h =
      let t = was_then (ServerTurn first busy) (EachFrom ServerTurn (first + 1) count) w v told h in
      of_turns v (t.between.turns ++ t.last.turns) (ap (λ (x : Reached). x.turns) t.whole)
      (⊎_elim
      (λ (same : first ≡ i.0).
      front_sees t.between.turns t.last.turns
      (own_turn busy w t.between (up_in w (Server i)) t.told up (subst (λ n. ServerTurn n busy w t.between (Ok t.told)) same t.came)))
      (λ apart.
      rest_sees t.between.turns t.last.turns
      (turns_see (first + 1) count t.told t.between.world t.last told (omega (arith, low, apart)) (omega (arith, high))
      (turn_up first busy w t.between (Ok t.told) up t.came) t.further))
      (cases_eq first i.0))

  round_sees : (paused : Bool) (w : State) (v : Reached) (told : Bool) → i.0 < w.setup.servers → IsUp w → Round paused w v (Ok told) → Sees v.turns
  round_sees paused w v told within up h =
      let t = was_then (ServersTurn false) (ReplicasOfAll paused) w v told h in
      of_turns v (t.between.turns ++ t.last.turns) (ap (λ (x : Reached). x.turns) t.whole)
      (front_sees t.between.turns t.last.turns (turns_see 0 w.setup.servers false w t.between t.told (omega arith) (omega (arith, within)) up t.came))

  rounds_see : (paused : Bool) (rounds : ℕ) (w : State) (v : Reached) (told : Bool) → 0 < rounds → i.0 < w.setup.servers → IsUp w
      → SettlesIn paused rounds w v (Ok told) → Sees v.turns
  rounds_see paused zero w v told some within up h = absurd (omega (arith, some))
  rounds_see paused (suc rounds) w v told some within up h =
      let t = was_then (Round paused) (AfterRound (SettlesIn paused rounds)) w v told h in
      of_turns v (t.between.turns ++ t.last.turns) (ap (λ (x : Reached). x.turns) t.whole)
      (front_sees t.between.turns t.last.turns (round_sees paused w t.between t.told within up t.came))

  settles_see : (paused : Bool) (rounds : ℕ) (w : State) (v : Reached) (told b : Bool) → ((rounds == 0) || nat_lt MOST_ROUNDS rounds) ≡ b
      → i.0 < w.setup.servers → IsUp w → Choose b (Refuses NothingToDo w) (SettlesIn paused rounds w) v (Ok told) → Sees v.turns
  settles_see paused rounds w v told true e within up h = absurd (told_or told NothingToDo h.1)
  settles_see paused zero w v told false e within up h = absurd (false≢true (sym e))
  settles_see paused (suc rounds) w v told false e within up h = rounds_see paused (suc rounds) w v told (omega arith) within up h

pub settle_turns : (paused : Bool) (rounds : ℕ) (w : State) (v : Reached) (text : List ℕ) → SettleTold paused rounds w v (Ok text) → LeaveNoneOut w v.turns
settle_turns paused rounds w v text h i within up =
    let t = was_then (Settles paused rounds) (λ quiet. Gives (settled_text quiet)) w v text h in
    of_turns i v (t.between.turns ++ t.last.turns) (ap (λ (x : Reached). x.turns) t.whole)
    (front_sees i t.between.turns t.last.turns
    (settles_see i paused rounds w t.between t.told ((rounds == 0) || nat_lt MOST_ROUNDS rounds) refl within up t.came))
