-- A machine goes on waiting for its committer whatever another replica asks, unless that one is told HOLD; and what its answers tell of it.
use Rattle.std.proofs.Common.{◌≡◌, ◌⊎◌, inl, inr, ℕ, ◌==◌, ◌&&◌, nat_le, nat_lt, Bool, true, false, cond, Option, Some, None, refl, sym, ◌∙◌, subst}
use Rattle.std.proofs.lemmas.Bool.{and_parts, cond-false, eq-eqb, eqb-true, false_from_ne_true, false≢true, lt-leb, true≢false}
use Rattle.rt_base.specs.declared.numbers.Instance.{Instance}
use Rattle.rt_base.specs.declared.numbers.Moment.{Moment}
use Rattle.rt_base.specs.declared.numbers.Offset.{Offset}
use Rattle.rt_consumer.specs.declared.stage.Stage.{Stage}
use Rattle.rt_consumer.specs.declared.stage.Stage.TheVariants.{Building, CatchingUp, ConsumingToOnline, Ending, Holding, InitialConsuming, Retaining, Starting, Uploading}
use Rattle.rt_controller.specs.Controller.{has_ended}
use Rattle.rt_fsm.proofs.Table.{and_true, by_react, by_test, same_instance, same_offset, IsPastStart}
use Rattle.rt_model.specs.Completion.{aborts, asked_offset, by_table, catches_up, commit_end_in, commit_start_in, consumed_in, decided, extend_in, gathers, goes, has_deadline, is_late, loses, not_committer, past_start, picks, react, stopped_in, with_note, with_pick, wrong_offset, Completion}
use Rattle.rt_model.specs.declared.completion.Ask.{Ask}
use Rattle.rt_model.specs.declared.completion.Ask.TheVariants as ask
use Rattle.rt_model.specs.declared.completion.Reaction.{Reaction}
use Rattle.rt_model.specs.declared.completion.Reaction.TheVariants as reaction
use Rattle.rt_model.specs.declared.completion.Said.TheVariants as said
use Rattle.rt_model.specs.declared.machine_state.MachineState.{MachineState}
use Rattle.rt_model.specs.declared.machine_state.MachineState.TheVariants as machine
use Rattle.rt_model.specs.declared.reply.FailCause.TheVariants.{WrongOffset}
use Rattle.rt_model.specs.declared.request.Reason.{Reason}
use Rattle.rt_calm.specs.Again.{awaits, is_notified, is_uploading, waits_at}
use Rattle.rt_calm.specs.Waiting.{HoldsOrStays, WaitsFor}
use Rattle.rt_calm.proofs.Waiting.{others_stay}

-- ---- other replicas

-- for whom a machine waited it waits on, but for one instance
abbrev pub WaitsOn : Instance → Option Completion → Option Completion → Type 0
WaitsOn i m n = (j : ℕ) (stage : Stage) (x : Offset) → (j ≡ i.0 → ⊥) → awaits m j stage x ≡ true → awaits n j stage x ≡ true

-- the machine that is left
abbrev pub unless_ended : Completion → Option Completion
unless_ended n = cond (has_ended n.state) None (Some n)

abbrev pub WaitsOrNot : MachineState → Type 0
WaitsOrNot s = WaitsFor s ⊎ ((stage : Stage) → waits_at stage s ≡ false)

waits_never : (s : MachineState) → is_notified s ≡ false → is_uploading s ≡ false → (stage : Stage) → waits_at stage s ≡ false
waits_never s notified uploading (Building reason) = notified
waits_never s notified uploading (Starting reason built) = notified
waits_never s notified uploading (Uploading reason built) = uploading
waits_never s notified uploading (Ending reason built path) = uploading
waits_never s notified uploading InitialConsuming = refl
waits_never s notified uploading (CatchingUp target reason) = refl
waits_never s notified uploading (Holding reason) = refl
waits_never s notified uploading (ConsumingToOnline end done) = refl
waits_never s notified uploading (Retaining done) = refl

pub waits_or_not : (s : MachineState) → WaitsOrNot s
waits_or_not machine.CommitterNotified = inl tt
waits_or_not machine.CommitterUploading = inl tt
waits_or_not machine.Committing = inl tt
waits_or_not machine.PartialConsuming = inr (waits_never machine.PartialConsuming refl refl)
waits_or_not machine.Holding = inr (waits_never machine.Holding refl refl)
waits_or_not machine.CommitterDecided = inr (waits_never machine.CommitterDecided refl refl)
waits_or_not machine.Committed = inr (waits_never machine.Committed refl refl)
waits_or_not machine.Aborted = inr (waits_never machine.Aborted refl refl)

ended_never : (s : MachineState) → has_ended s ≡ true → (stage : Stage) → waits_at stage s ≡ false
ended_never machine.Committed e = waits_never machine.Committed refl refl
ended_never machine.Aborted e = waits_never machine.Aborted refl refl
ended_never machine.PartialConsuming e = absurd (false≢true e)
ended_never machine.Holding e = absurd (false≢true e)
ended_never machine.CommitterDecided e = absurd (false≢true e)
ended_never machine.CommitterNotified e = absurd (false≢true e)
ended_never machine.CommitterUploading e = absurd (false≢true e)
ended_never machine.Committing e = absurd (false≢true e)

-- the parts of it
pub awaits_parts : (m : Completion) (j : ℕ) (stage : Stage) (x : Offset) → awaits (Some m) j stage x ≡ true
    → (waits_at stage m.state ≡ true) × (m.winner.0 ≡ j) × (m.offset.0 ≡ x.0)
awaits_parts m j stage x is =
    let parts = and_parts (waits_at stage m.state) ((m.winner.0 == j) && (m.offset.0 == x.0)) is in
    let own = and_parts (m.winner.0 == j) (m.offset.0 == x.0) parts.1 in
    (parts.0, eqb-true m.winner.0 j own.0, eqb-true m.offset.0 x.0 own.1)

-- a machine that waits for one instance waits for no other
pub waits_for_one : (m : Completion) (i : Instance) (n : Option Completion) → i.0 ≡ m.winner.0 → WaitsOn i (Some m) n
waits_for_one m i n own j stage x other is = absurd (other (sym (awaits_parts m j stage x is).1 ∙ sym own))

-- one that waits hasn't ended
kept_waits : (m : Completion) (i : Instance) → WaitsOn i (Some m) (unless_ended m)
kept_waits m i j stage x other is = by_end (has_ended m.state) refl
  where
    by_end : (b : Bool) → has_ended m.state ≡ b → awaits (cond b None (Some m)) j stage x ≡ true
    by_end true ended = absurd (true≢false (sym (awaits_parts m j stage x is).0 ∙ ended_never m.state ended stage))
    by_end false going = is

pub react_waits : (m : Completion) (i : Instance) (what : Ask) (now : Moment)
    → ((react m i what now).0 ≡ reaction.Answer said.Hold) ⊎ WaitsOn i (Some m) (unless_ended (react m i what now).1)
react_waits m i what now = by_own (i.0 == m.winner.0) refl
  where
    by_kept : HoldsOrStays m (react m i what now)
        → ((react m i what now).0 ≡ reaction.Answer said.Hold) ⊎ WaitsOn i (Some m) (unless_ended (react m i what now).1)
    by_kept (inl hold) = inl hold
    by_kept (inr same) = inr (subst (λ (n : Completion). WaitsOn i (Some m) (unless_ended n)) (sym same) (kept_waits m i))

    by_waits : (i.0 ≡ m.winner.0 → ⊥) → WaitsOrNot m.state
        → ((react m i what now).0 ≡ reaction.Answer said.Hold) ⊎ WaitsOn i (Some m) (unless_ended (react m i what now).1)
    by_waits apart (inl waits) = by_kept (others_stay m i what now waits apart)
    by_waits apart (inr never) =
        inr (λ j stage x other is. absurd (true≢false (sym (awaits_parts m j stage x is).0 ∙ never stage)))

    by_own : (b : Bool) → (i.0 == m.winner.0) ≡ b
        → ((react m i what now).0 ≡ reaction.Answer said.Hold) ⊎ WaitsOn i (Some m) (unless_ended (react m i what now).1)
    by_own true e = inr (waits_for_one m i (unless_ended (react m i what now).1) (eqb-true i.0 m.winner.0 e))
    by_own false e = by_waits (λ same. true≢false (sym (eq-eqb i.0 m.winner.0 same) ∙ e)) (waits_or_not m.state)

-- ---- a machine that has ended stays as it is

ended_timeless : (s : MachineState) → has_ended s ≡ true → has_deadline s ≡ false
ended_timeless machine.Committed e = refl
ended_timeless machine.Aborted e = refl
ended_timeless machine.PartialConsuming e = refl
ended_timeless machine.Holding e = refl
ended_timeless machine.CommitterDecided e = absurd (false≢true e)
ended_timeless machine.CommitterNotified e = absurd (false≢true e)
ended_timeless machine.CommitterUploading e = absurd (false≢true e)
ended_timeless machine.Committing e = refl

module _ (m : Completion) (i : Instance) (now : Moment) where
  abbrev Still : MachineState → Type 0
  Still s =
      ((x : Offset) (r : Reason) → (consumed_in s m i x r now).1 ≡ m) × ((x : Offset) → (commit_start_in s m i x).1 ≡ m)
      × ((x : Offset) → (commit_end_in s m i x).1 ≡ m) × ((stopped_in s m i).1 ≡ m) × ((millis : ℕ) → (extend_in s m i millis now).1 ≡ m)

  table_still : (s : MachineState) (what : Ask) → has_ended s ≡ true → m.state ≡ s → (by_table m i what now).1 ≡ m
  table_still s what e is = by_ask what (by_state s e)
    where
      by_state : (s : MachineState) → has_ended s ≡ true → Still s
      by_state machine.Committed e = (λ x r. refl, λ x. refl, λ x. refl, refl, λ millis. refl)
      by_state machine.Aborted e = (λ x r. refl, λ x. refl, λ x. refl, refl, λ millis. refl)
      by_state machine.PartialConsuming e = absurd (false≢true e)
      by_state machine.Holding e = absurd (false≢true e)
      by_state machine.CommitterDecided e = absurd (false≢true e)
      by_state machine.CommitterNotified e = absurd (false≢true e)
      by_state machine.CommitterUploading e = absurd (false≢true e)
      by_state machine.Committing e = absurd (false≢true e)

      by_ask : (what : Ask) → Still s → (by_table m i what now).1 ≡ m
      by_ask (ask.Consumed x r) k = subst (λ (t : MachineState). (consumed_in t m i x r now).1 ≡ m) (sym is) (k.0 x r)
      by_ask (ask.CommitStart x) k = subst (λ (t : MachineState). (commit_start_in t m i x).1 ≡ m) (sym is) (k.1 x)
      by_ask (ask.CommitEnd x) k = subst (λ (t : MachineState). (commit_end_in t m i x).1 ≡ m) (sym is) (k.2 x)
      by_ask ask.Stopped k = subst (λ (t : MachineState). (stopped_in t m i).1 ≡ m) (sym is) k.3
      by_ask (ask.Extend millis) k = subst (λ (t : MachineState). (extend_in t m i millis now).1 ≡ m) (sym is) (k.4 millis)

  pub ended_still : (what : Ask) → has_ended m.state ≡ true → (react m i what now).1 ≡ m
  ended_still what e =
      by_react (λ (y : Reaction × Completion). y.1 ≡ m) m i what now
      (λ late. absurd (true≢false (sym (and_parts (has_deadline m.state) (nat_lt m.deadline.0 now.0) late).0 ∙ ended_timeless m.state e)))
      (λ x kept. refl) (λ early past. table_still m.state what e refl)

-- ---- the answers to a replica

module _ (m : Completion) (i : Instance) where
  -- the machine in this state, with the sender as its committer up to this offset
  abbrev pub IsFor : MachineState → Offset → Completion → Type 0
  IsFor s o n = (n.state ≡ s) × (n.winner ≡ i) × (n.offset ≡ o)

  abbrev pub HasEnded : MachineState → Type 0
  HasEnded s = has_ended s ≡ true

  -- it waits for the sender at this offset
  abbrev pub is_its : Offset → Bool
  is_its x = (m.winner.0 == i.0) && (m.offset.0 == x.0)

  abbrev pub ConsumedSo : MachineState → Reaction → Completion → Type 0
  ConsumedSo s (reaction.Answer (said.Commit o)) n = IsFor machine.CommitterNotified o n
  ConsumedSo s (reaction.Answer (said.Failed cause)) n = HasEnded s
  ConsumedSo s (reaction.Answer (said.CatchUp t)) n = Unit {0}
  ConsumedSo s (reaction.Answer said.Hold) n = Unit {0}
  ConsumedSo s (reaction.Answer said.CommitContinue) n = ⊥
  ConsumedSo s (reaction.Answer said.Processed) n = ⊥
  ConsumedSo s (reaction.StartCommit end) n = ⊥
  ConsumedSo s reaction.StartOffline n = ⊥

  abbrev pub StartSo : Offset → MachineState → Reaction → Completion → Type 0
  StartSo x s (reaction.Answer said.CommitContinue) n = IsFor machine.CommitterUploading x n
  StartSo x s (reaction.Answer (said.Failed cause)) n = HasEnded s ⊎ ((is_notified s && is_its x) ≡ false)
  StartSo x s (reaction.Answer (said.Commit o)) n = ⊥
  StartSo x s (reaction.Answer (said.CatchUp t)) n = ⊥
  StartSo x s (reaction.Answer said.Hold) n = Unit {0}
  StartSo x s (reaction.Answer said.Processed) n = ⊥
  StartSo x s (reaction.StartCommit end) n = ⊥
  StartSo x s reaction.StartOffline n = ⊥

  abbrev pub EndSo : Offset → MachineState → Reaction → Completion → Type 0
  EndSo x s (reaction.StartCommit end) n = (i.0 ≡ m.winner.0) × (is_uploading s ≡ true)
  EndSo x s (reaction.Answer (said.Failed cause)) n = HasEnded s ⊎ ((is_uploading s && is_its x) ≡ false)
  EndSo x s (reaction.Answer (said.Commit o)) n = ⊥
  EndSo x s (reaction.Answer (said.CatchUp t)) n = ⊥
  EndSo x s (reaction.Answer said.CommitContinue) n = ⊥
  EndSo x s (reaction.Answer said.Hold) n = Unit {0}
  EndSo x s (reaction.Answer said.Processed) n = ⊥
  EndSo x s reaction.StartOffline n = ⊥

  abbrev pub StopSo : MachineState → Reaction → Completion → Type 0
  StopSo s (reaction.Answer (said.Failed cause)) n = HasEnded s
  StopSo s (reaction.Answer (said.Commit o)) n = ⊥
  StopSo s (reaction.Answer (said.CatchUp t)) n = ⊥
  StopSo s (reaction.Answer said.CommitContinue) n = ⊥
  StopSo s (reaction.Answer said.Hold) n = Unit {0}
  StopSo s (reaction.Answer said.Processed) n = ⊥
  StopSo s (reaction.StartCommit end) n = ⊥
  StopSo s reaction.StartOffline n = Unit {0}

  abbrev pub AskedSo : Ask → MachineState → Reaction × Completion → Type 0
  AskedSo (ask.Consumed x r) s y = ConsumedSo s y.0 y.1
  AskedSo (ask.CommitStart x) s y = StartSo x s y.0 y.1
  AskedSo (ask.CommitEnd x) s y = EndSo x s y.0 y.1
  AskedSo ask.Stopped s y = StopSo s y.0 y.1
  AskedSo (ask.Extend millis) s y = Unit {0}

  decided_so : (s : MachineState) (n : Completion) (x : Offset) → ConsumedSo s (decided n i x).0 (decided n i x).1
  decided_so s n x =
      by_test (λ (y : Reaction × Completion). ConsumedSo s y.0 y.1) (i.0 == n.winner.0)
      (reaction.Answer (said.Commit n.offset), goes n machine.CommitterNotified) _
      (λ own. (refl, sym (same_instance i n.winner own), refl))
      (λ other. by_test (λ (y : Reaction × Completion). ConsumedSo s y.0 y.1) (x.0 == n.offset.0) (reaction.Answer said.Hold, goes n machine.CommitterDecided)
      (reaction.Answer (said.CatchUp n.offset), goes n machine.CommitterDecided) (λ level. tt) (λ apart. tt))

  gathers_so : (s : MachineState) (n : Completion) (x : Offset) (r : Reason) (now : Moment) → ConsumedSo s (gathers n i x r now).0 (gathers n i x r now).1
  gathers_so s n x r now =
      by_test (λ (y : Reaction × Completion). ConsumedSo s y.0 y.1) (picks n i r now) (decided (with_pick n i x now) i x) (reaction.Answer said.Hold, goes n machine.Holding)
      (λ picked. decided_so s (with_pick n i x now) x) (λ early. tt)

  catches_so : (s : MachineState) (x : Offset) → ConsumedSo s (catches_up m x).0 (catches_up m x).1
  catches_so s x =
      by_test (λ (y : Reaction × Completion). ConsumedSo s y.0 y.1) (nat_lt x.0 m.offset.0) (reaction.Answer (said.CatchUp m.offset), m) (reaction.Answer said.Hold, m)
      (λ below. tt) (λ above. tt)

  consumed_so : (s : MachineState) (x : Offset) (r : Reason) (now : Moment) → m.state ≡ s
      → ConsumedSo s (consumed_in s m i x r now).0 (consumed_in s m i x r now).1
  consumed_so machine.PartialConsuming x r now is = gathers_so machine.PartialConsuming (with_note m i x) x r now
  consumed_so machine.Holding x r now is = gathers_so machine.Holding (with_note m i x) x r now
  consumed_so machine.CommitterDecided x r now is =
      by_test (λ (y : Reaction × Completion). ConsumedSo machine.CommitterDecided y.0 y.1) (nat_lt m.offset.0 x.0) (reaction.Answer said.Hold, goes m machine.Aborted) _ (λ past. tt)
      (λ within. by_test (λ (y : Reaction × Completion). ConsumedSo machine.CommitterDecided y.0 y.1) ((i.0 == m.winner.0) && (x.0 == m.offset.0))
      (reaction.Answer (said.Commit m.offset), goes m machine.CommitterNotified) (catches_up m x)
      (λ own. (refl, sym (same_instance i m.winner (and_true (i.0 == m.winner.0) (x.0 == m.offset.0) own).0), refl))
      (λ other. catches_so machine.CommitterDecided x))
  consumed_so machine.CommitterNotified x r now is =
      by_test (λ (y : Reaction × Completion). ConsumedSo machine.CommitterNotified y.0 y.1) (nat_lt m.offset.0 x.0) (reaction.Answer said.Hold, goes m machine.Aborted) _ (λ past. tt)
      (λ within. by_test (λ (y : Reaction × Completion). ConsumedSo machine.CommitterNotified y.0 y.1) (i.0 == m.winner.0) _ (catches_up m x)
      (λ own. by_test (λ (y : Reaction × Completion). ConsumedSo machine.CommitterNotified y.0 y.1) (x.0 == m.offset.0) (reaction.Answer (said.Commit m.offset), m)
      (reaction.Answer said.Hold, goes m machine.Aborted) (λ level. (is, sym (same_instance i m.winner own), refl)) (λ apart. tt))
      (λ other. catches_so machine.CommitterNotified x))
  consumed_so machine.CommitterUploading x r now is =
      by_test (λ (y : Reaction × Completion). ConsumedSo machine.CommitterUploading y.0 y.1) (i.0 == m.winner.0) (reaction.Answer said.Hold, goes m machine.Aborted) (catches_up m x)
      (λ own. tt) (λ other. catches_so machine.CommitterUploading x)
  consumed_so machine.Committing x r now is = catches_so machine.Committing x
  consumed_so machine.Committed x r now is = refl
  consumed_so machine.Aborted x r now is = refl

  -- the offset or the sender is another one
  not_its : (x : Offset) → (x.0 == m.offset.0) ≡ false → is_its x ≡ false
  not_its x apart =
      false_from_ne_true (is_its x)
      (λ e. true≢false (sym (eq-eqb x.0 m.offset.0 (sym (eqb-true m.offset.0 x.0 (and_parts (m.winner.0 == i.0) (m.offset.0 == x.0) e).1))) ∙ apart))

  not_own : (x : Offset) → (i.0 == m.winner.0) ≡ false → is_its x ≡ false
  not_own x other =
      false_from_ne_true (is_its x)
      (λ e. true≢false (sym (eq-eqb i.0 m.winner.0 (sym (eqb-true m.winner.0 i.0 (and_parts (m.winner.0 == i.0) (m.offset.0 == x.0) e).0))) ∙ other))

  start_so : (s : MachineState) (x : Offset) → StartSo x s (commit_start_in s m i x).0 (commit_start_in s m i x).1
  start_so machine.CommitterNotified x =
      by_test (λ (y : Reaction × Completion). StartSo x machine.CommitterNotified y.0 y.1) (i.0 == m.winner.0) _ (reaction.Answer said.Hold, m)
      (λ own. by_test (λ (y : Reaction × Completion). StartSo x machine.CommitterNotified y.0 y.1) (x.0 == m.offset.0)
      (reaction.Answer said.CommitContinue, goes m machine.CommitterUploading) (wrong_offset m x)
      (λ level. (refl, sym (same_instance i m.winner own), sym (same_offset x m.offset level))) (λ apart. inr (not_its x apart)))
      (λ other. tt)
  start_so machine.PartialConsuming x = tt
  start_so machine.Holding x = tt
  start_so machine.CommitterDecided x = tt
  start_so machine.CommitterUploading x = tt
  start_so machine.Committing x = tt
  start_so machine.Committed x = inl refl
  start_so machine.Aborted x = inl refl

  end_so : (s : MachineState) (x : Offset) → EndSo x s (commit_end_in s m i x).0 (commit_end_in s m i x).1
  end_so machine.CommitterUploading x =
      by_test (λ (y : Reaction × Completion). EndSo x machine.CommitterUploading y.0 y.1) (i.0 == m.winner.0) _ (not_committer m)
      (λ own. by_test (λ (y : Reaction × Completion). EndSo x machine.CommitterUploading y.0 y.1) (x.0 == m.offset.0)
      (reaction.StartCommit m.offset, goes m machine.Committing) (wrong_offset m x) (λ level. (eqb-true i.0 m.winner.0 own, refl)) (λ apart. inr (not_its x apart)))
      (λ other. inr (not_own x other))
  end_so machine.PartialConsuming x = inr refl
  end_so machine.Holding x = inr refl
  end_so machine.CommitterDecided x = inr refl
  end_so machine.CommitterNotified x = inr refl
  end_so machine.Committing x = inr refl
  end_so machine.Committed x = inl refl
  end_so machine.Aborted x = inl refl

  loses_so : (s : MachineState) → StopSo s (loses m i).0 (loses m i).1
  loses_so s = by_test (λ (y : Reaction × Completion). StopSo s y.0 y.1) (i.0 == m.winner.0) (reaction.StartOffline, goes m machine.Aborted) (reaction.StartOffline, m) (λ own. tt) (λ other. tt)

  stop_so : (s : MachineState) → StopSo s (stopped_in s m i).0 (stopped_in s m i).1
  stop_so machine.PartialConsuming = tt
  stop_so machine.Holding = tt
  stop_so machine.CommitterDecided = loses_so machine.CommitterDecided
  stop_so machine.CommitterNotified = loses_so machine.CommitterNotified
  stop_so machine.CommitterUploading = loses_so machine.CommitterUploading
  stop_so machine.Committing = tt
  stop_so machine.Committed = refl
  stop_so machine.Aborted = refl

  table_so : (what : Ask) (now : Moment) → AskedSo what m.state (by_table m i what now)
  table_so (ask.Consumed x r) now = consumed_so m.state x r now refl
  table_so (ask.CommitStart x) now = start_so m.state x
  table_so (ask.CommitEnd x) now = end_so m.state x
  table_so ask.Stopped now = stop_so m.state
  table_so (ask.Extend millis) now = tt

  -- past the segment's start
  pub react_so : (what : Ask) (now : Moment) → IsPastStart m (asked_offset what) → AskedSo what m.state (react m i what now)
  react_so what now beyond =
      by_test (AskedSo what m.state) (is_late m now) (aborts m said.Hold) (past_start m (asked_offset what) (by_table m i what now)) (λ late. late_so what)
      (λ early. subst (AskedSo what m.state) (sym (passed (asked_offset what) beyond)) (table_so what now))
    where
      late_so : (what : Ask) → AskedSo what m.state (aborts m said.Hold)
      late_so (ask.Consumed x r) = tt
      late_so (ask.CommitStart x) = tt
      late_so (ask.CommitEnd x) = tt
      late_so ask.Stopped = tt
      late_so (ask.Extend millis) = tt

      passed : (o : Option Offset) → IsPastStart m o → past_start m o (by_table m i what now) ≡ by_table m i what now
      passed None beyond = refl
      passed (Some x) beyond =
          cond-false (nat_le x.0 m.seen.meta.start.0) (reaction.Answer (said.Failed (WrongOffset x m.seen.meta.start)), m) (by_table m i what now)
          (lt-leb x.0 m.seen.meta.start.0 beyond)
