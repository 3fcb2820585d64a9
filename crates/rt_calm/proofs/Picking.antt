-- A machine past its deadline ends, and one that has waited long enough for reports picks at the next one.
use Rattle.std.proofs.Common.{◌≡◌, inl, inr, ◌+◌, ◌<◌, ◌==◌, nat_le, nat_lt, Bool, true, false, List, map, Some, refl, sym, ◌∙◌, ap, subst, arith}
use Rattle.std.specs.List.{Contains}
use Rattle.std.specs.Prelude.{◌&&◌, ◌||◌, unwrap_or}
use Rattle.std.proofs.lemmas.Bool.{cond-false, cond-true, eq-eqb, lt-leb, lt-ltb, true≢false}
use Rattle.rt_base.specs.declared.numbers.Instance.{Instance}
use Rattle.rt_base.specs.declared.numbers.Moment.{Moment}
use Rattle.rt_base.specs.declared.numbers.Offset.{Offset}
use Rattle.rt_fsm.proofs.Notes.{instances}
use Rattle.rt_fsm.proofs.Table.{by_test, same_instance}
use Rattle.rt_model.specs.Completion.{aborts, all_reported, by_table, consumed_in, decided, gathers, goes, has_deadline, is_late, is_only_note, is_row_limit, largest_note, noted, past_start, patience, picks, react, smallest_at, winner_of, with_note, with_pick, Completion, IsBeforePick}
use Rattle.rt_model.specs.declared.completion.Ask.{Ask}
use Rattle.rt_model.specs.declared.completion.Ask.TheVariants as ask
use Rattle.rt_model.specs.declared.completion.Reaction.{Reaction}
use Rattle.rt_model.specs.declared.completion.Reaction.TheVariants as reaction
use Rattle.rt_model.specs.declared.completion.Said.TheVariants as said
use Rattle.rt_model.specs.declared.machine_state.MachineState.{MachineState}
use Rattle.rt_model.specs.declared.machine_state.MachineState.TheVariants as machine
use Rattle.rt_model.specs.declared.reply.FailCause.TheVariants.{WrongOffset}
use Rattle.rt_model.specs.declared.reporter.Reporter.{Reporter}
use Rattle.rt_model.specs.declared.request.Reason.{Reason}
use Rattle.rt_calm.specs.Waiting.{GoesOn}
use Rattle.rt_calm.proofs.Fitting.{behind, picked_own}

pub late_ends : (m : Completion) (i : Instance) (what : Ask) (now : Moment) → is_late m now ≡ true
    → react m i what now ≡ (reaction.Answer said.Hold, goes m machine.Aborted)
late_ends m i what now late = cond-true (is_late m now) (aborts m said.Hold) _ late

-- one of three is enough
middle_true : (a b c : Bool) → b ≡ true → (a || (b || c)) ≡ true
middle_true true b c e = refl
middle_true false true c e = refl
middle_true false false c e = absurd (true≢false (sym e))

module _ (m : Completion) (i : Instance) (x : Offset) (now : Moment) (beyond : 0 < x.0) (there : Contains (instances m.reporters) i) where
  abbrev rs : List Reporter
  rs = map (noted i x) m.reporters

  abbrev n : Completion
  n = with_pick (with_note m i x) i x now

  -- a sender that is level with the largest note is picked
  level_own : (x.0 == largest_note rs) ≡ true → winner_of rs i x ≡ i
  level_own level = cond-true (x.0 == largest_note rs) i (record { 0 = unwrap_or (smallest_at (largest_note rs) rs) i.0 }) level

  decided_on : GoesOn x (decided n i x).0
  decided_on =
      by_test (λ (y : Reaction × Completion). GoesOn x y.0) (i.0 == n.winner.0) (reaction.Answer (said.Commit n.offset), goes n machine.CommitterNotified) _
      (λ own. inl (ap (λ (o : Offset). reaction.Answer (said.Commit o)) (picked_own i x m now beyond there (same_instance i n.winner own))))
      (λ other. by_test (λ (y : Reaction × Completion). GoesOn x y.0) (x.0 == n.offset.0) (reaction.Answer said.Hold, goes n machine.CommitterDecided)
      (reaction.Answer (said.CatchUp n.offset), goes n machine.CommitterDecided)
      (λ level. absurd (true≢false (sym (eq-eqb i.0 n.winner.0 (ap (λ (j : Instance). j.0) (sym (level_own level)))) ∙ other)))
      (λ apart. inr (n.offset, behind i x m now beyond there apart, refl)))

  module _ (reason : Reason) (waited : m.made.0 + patience < now.0) where
    picks_now : picks (with_note m i x) i reason now ≡ true
    picks_now =
        middle_true (all_reported rs) (nat_lt (m.made.0 + patience) now.0) (is_row_limit reason && is_only_note i rs)
        (lt-ltb (m.made.0 + patience) now.0 waited)

    gathers_on : GoesOn x (gathers (with_note m i x) i x reason now).0
    gathers_on =
        subst (λ (y : Reaction × Completion). GoesOn x y.0)
        (sym (cond-true (picks (with_note m i x) i reason now) (decided n i x) (reaction.Answer said.Hold, goes (with_note m i x) machine.Holding) picks_now)) decided_on

    consumed_on : (s : MachineState) → IsBeforePick s → GoesOn x (consumed_in s m i x reason now).0
    consumed_on machine.PartialConsuming before = gathers_on
    consumed_on machine.Holding before = gathers_on
    consumed_on machine.CommitterDecided before = absurd before
    consumed_on machine.CommitterNotified before = absurd before
    consumed_on machine.CommitterUploading before = absurd before
    consumed_on machine.Committing before = absurd before
    consumed_on machine.Committed before = absurd before
    consumed_on machine.Aborted before = absurd before

    timeless : (s : MachineState) → IsBeforePick s → has_deadline s ≡ false
    timeless machine.PartialConsuming before = refl
    timeless machine.Holding before = refl
    timeless machine.CommitterDecided before = absurd before
    timeless machine.CommitterNotified before = absurd before
    timeless machine.CommitterUploading before = absurd before
    timeless machine.Committing before = absurd before
    timeless machine.Committed before = absurd before
    timeless machine.Aborted before = absurd before

pub waited_picks : (m : Completion) (i : Instance) (x : Offset) (reason : Reason) (now : Moment) → IsBeforePick m.state → m.made.0 + patience < now.0
    → m.seen.meta.start.0 < x.0 → Contains (instances m.reporters) i → GoesOn x (react m i (ask.Consumed x reason) now).0
waited_picks m i x reason now before waited past there =
    subst (λ (y : Reaction × Completion). GoesOn x y.0) (sym same) (consumed_on m i x now (omega (arith, past)) there reason waited m.state before)
  where
    early : is_late m now ≡ false
    early =
        ap (λ (b : Bool). b && nat_lt m.deadline.0 now.0) (timeless m i x now (omega (arith, past)) there reason waited m.state before)

    same : react m i (ask.Consumed x reason) now ≡ consumed_in m.state m i x reason now
    same =
        cond-false (is_late m now) (aborts m said.Hold) (past_start m (Some x) (by_table m i (ask.Consumed x reason) now)) early
        ∙ cond-false (nat_le x.0 m.seen.meta.start.0) (reaction.Answer (said.Failed (WrongOffset x m.seen.meta.start)), m)
        (by_table m i (ask.Consumed x reason) now) (lt-leb x.0 m.seen.meta.start.0 past)
