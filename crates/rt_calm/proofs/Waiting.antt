-- A machine that waits for its committer stays as it is whatever another replica asks, unless that is told HOLD.
use Rattle.std.proofs.Common.{◌≡◌, inl, inr, ℕ, ◌==◌, true, false, nat_lt, refl, sym, ◌∙◌, ◌<◌, Some, ap, arith, cond}
use Rattle.std.proofs.lemmas.Bool.{eqb-true, false_from_ne_true, true≢false, cond-false, cond-true, eq-eqb, leb-true}
use Rattle.rt_base.specs.declared.numbers.Instance.{Instance}
use Rattle.rt_base.specs.declared.numbers.Moment.{Moment}
use Rattle.rt_base.specs.declared.numbers.Offset.{Offset}
use Rattle.rt_fsm.proofs.Table.{by_react, by_test}
use Rattle.rt_model.specs.Completion.{by_table, catches_up, commit_end_in, commit_start_in, consumed_in, extend_in, goes, loses, not_committer, react, stopped_in, Completion, aborts, is_late, past_start, wrong_offset}
use Rattle.rt_model.specs.declared.completion.Ask.{Ask}
use Rattle.rt_model.specs.declared.completion.Ask.TheVariants as ask
use Rattle.rt_model.specs.declared.completion.Reaction.{Reaction}
use Rattle.rt_model.specs.declared.completion.Reaction.TheVariants as reaction
use Rattle.rt_model.specs.declared.completion.Said.TheVariants as said
use Rattle.rt_model.specs.declared.machine_state.MachineState.{MachineState}
use Rattle.rt_model.specs.declared.machine_state.MachineState.TheVariants as machine
use Rattle.rt_model.specs.declared.request.Reason.{Reason}
use Rattle.std.specs.Prelude.{nat_le}
use Rattle.rt_model.specs.declared.reply.FailCause.TheVariants.{WrongOffset}
use Rattle.rt_calm.specs.Waiting.{HoldsOrStays, WaitsFor}

module _ (m : Completion) (i : Instance) (other : (i.0 == m.winner.0) ≡ false) where
  abbrev Stays : Reaction × Completion → Type 0
  Stays y = HoldsOrStays m y

  -- none of this is of the committer
  own : {X : Type 0} → (i.0 == m.winner.0) ≡ true → X
  own e = absurd (true≢false (sym e ∙ other))

  catches : (x : Offset) → Stays (catches_up m x)
  catches x = by_test Stays (nat_lt x.0 m.offset.0) (reaction.Answer (said.CatchUp m.offset), m) (reaction.Answer said.Hold, m) (λ b. inr refl) (λ b. inr refl)

  consumed_stays : (s : MachineState) (x : Offset) (r : Reason) (now : Moment) → WaitsFor s → Stays (consumed_in s m i x r now)
  consumed_stays machine.CommitterNotified x r now waits =
      by_test Stays (nat_lt m.offset.0 x.0) (reaction.Answer said.Hold, goes m machine.Aborted) _ (λ past. inl refl)
      (λ within. by_test Stays (i.0 == m.winner.0) _ (catches_up m x) (λ e. own e) (λ e. catches x))
  consumed_stays machine.CommitterUploading x r now waits =
      by_test Stays (i.0 == m.winner.0) (reaction.Answer said.Hold, goes m machine.Aborted) (catches_up m x) (λ e. own e) (λ e. catches x)
  consumed_stays machine.Committing x r now waits = catches x
  consumed_stays machine.PartialConsuming x r now waits = absurd waits
  consumed_stays machine.Holding x r now waits = absurd waits
  consumed_stays machine.CommitterDecided x r now waits = absurd waits
  consumed_stays machine.Committed x r now waits = absurd waits
  consumed_stays machine.Aborted x r now waits = absurd waits

  start_stays : (s : MachineState) (x : Offset) → WaitsFor s → Stays (commit_start_in s m i x)
  start_stays machine.CommitterNotified x waits =
      by_test Stays (i.0 == m.winner.0) _ (reaction.Answer said.Hold, m) (λ e. own e) (λ e. inl refl)
  start_stays machine.CommitterUploading x waits = inl refl
  start_stays machine.Committing x waits = inl refl
  start_stays machine.PartialConsuming x waits = absurd waits
  start_stays machine.Holding x waits = absurd waits
  start_stays machine.CommitterDecided x waits = absurd waits
  start_stays machine.Committed x waits = absurd waits
  start_stays machine.Aborted x waits = absurd waits

  end_stays : (s : MachineState) (x : Offset) → WaitsFor s → Stays (commit_end_in s m i x)
  end_stays machine.CommitterUploading x waits = by_test Stays (i.0 == m.winner.0) _ (not_committer m) (λ e. own e) (λ e. inr refl)
  end_stays machine.CommitterNotified x waits = inr refl
  end_stays machine.Committing x waits = inr refl
  end_stays machine.PartialConsuming x waits = absurd waits
  end_stays machine.Holding x waits = absurd waits
  end_stays machine.CommitterDecided x waits = absurd waits
  end_stays machine.Committed x waits = absurd waits
  end_stays machine.Aborted x waits = absurd waits

  loses_stays : Stays (loses m i)
  loses_stays = by_test Stays (i.0 == m.winner.0) (reaction.StartOffline, goes m machine.Aborted) (reaction.StartOffline, m) (λ e. own e) (λ e. inr refl)

  stop_stays : (s : MachineState) → WaitsFor s → Stays (stopped_in s m i)
  stop_stays machine.CommitterNotified waits = loses_stays
  stop_stays machine.CommitterUploading waits = loses_stays
  stop_stays machine.Committing waits = inr refl
  stop_stays machine.PartialConsuming waits = absurd waits
  stop_stays machine.Holding waits = absurd waits
  stop_stays machine.CommitterDecided waits = absurd waits
  stop_stays machine.Committed waits = absurd waits
  stop_stays machine.Aborted waits = absurd waits

  extend_stays : (s : MachineState) (millis : ℕ) (now : Moment) → WaitsFor s → Stays (extend_in s m i millis now)
  extend_stays machine.CommitterNotified millis now waits = by_test Stays (i.0 == m.winner.0) _ (not_committer m) (λ e. own e) (λ e. inr refl)
  extend_stays machine.CommitterUploading millis now waits = inr refl
  extend_stays machine.Committing millis now waits = inr refl
  extend_stays machine.PartialConsuming millis now waits = absurd waits
  extend_stays machine.Holding millis now waits = absurd waits
  extend_stays machine.CommitterDecided millis now waits = absurd waits
  extend_stays machine.Committed millis now waits = absurd waits
  extend_stays machine.Aborted millis now waits = absurd waits

  table_stays : (what : Ask) (now : Moment) → WaitsFor m.state → Stays (by_table m i what now)
  table_stays (ask.Consumed x r) now waits = consumed_stays m.state x r now waits
  table_stays (ask.CommitStart x) now waits = start_stays m.state x waits
  table_stays (ask.CommitEnd x) now waits = end_stays m.state x waits
  table_stays ask.Stopped now waits = stop_stays m.state waits
  table_stays (ask.Extend millis) now waits = extend_stays m.state millis now waits

pub others_stay : (m : Completion) (i : Instance) (what : Ask) (now : Moment) → WaitsFor m.state → (i.0 ≡ m.winner.0 → ⊥) → HoldsOrStays m (react m i what now)
others_stay m i what now waits apart =
    by_react (λ (y : Reaction × Completion). HoldsOrStays m y) m i what now (λ late. inl refl) (λ x kept. inr refl)
    (λ early past. table_stays m i (false_from_ne_true (i.0 == m.winner.0) (λ e. apart (eqb-true i.0 m.winner.0 e))) what now waits)

-- the committer's CommitStart at its offset, in time
pub own_starts : (m : Completion) (now : Moment) → m.state ≡ machine.CommitterNotified → is_late m now ≡ false → m.seen.meta.start.0 < m.offset.0
    → react m m.winner (ask.CommitStart m.offset) now ≡ (reaction.Answer said.CommitContinue, goes m machine.CommitterUploading)
own_starts m now notified early beyond =
    cond-false (is_late m now) (aborts m said.Hold) (past_start m (Some m.offset) (by_table m m.winner (ask.CommitStart m.offset) now)) early
    ∙ cond-false (nat_le m.offset.0 m.seen.meta.start.0) (reaction.Answer (said.Failed (WrongOffset m.offset m.seen.meta.start)), m)
    (by_table m m.winner (ask.CommitStart m.offset) now)
    (false_from_ne_true (nat_le m.offset.0 m.seen.meta.start.0) (λ e. omega (arith, leb-true m.offset.0 m.seen.meta.start.0 e, beyond)))
    ∙ ap (λ (s : MachineState). commit_start_in s m m.winner m.offset) notified
    ∙ cond-true (m.winner.0 == m.winner.0)
    (cond (m.offset.0 == m.offset.0) (reaction.Answer said.CommitContinue, goes m machine.CommitterUploading) (wrong_offset m m.offset))
    (reaction.Answer said.Hold, m) (eq-eqb m.winner.0 m.winner.0 refl)
    ∙ cond-true (m.offset.0 == m.offset.0) (reaction.Answer said.CommitContinue, goes m machine.CommitterUploading) (wrong_offset m m.offset)
    (eq-eqb m.offset.0 m.offset.0 refl)
