-- How a machine reacts where segments end by the row limit alone: the first report picks its sender, each other one is told HOLD, and the
-- committer goes on.
use Rattle.std.proofs.Common.{◌≡◌, ℕ, ◌<◌, ◌≤◌, ◌==◌, ◌||◌, nat_le, nat_lt, max, true, false, cond, List, [], ◌∷◌, map, Some, refl, sym, ◌∙◌, ap, subst, arith}
use Rattle.std.specs.List.{Contains}
use Rattle.std.specs.Prelude.{is_none}
use Rattle.std.proofs.lemmas.Bool.{and_from, cond-false, cond-true, eq-eqb, le-ltb, lt-leb, or_left, or_right}
use Rattle.rt_base.specs.declared.numbers.Instance.{Instance}
use Rattle.rt_base.specs.declared.numbers.Moment.{Moment}
use Rattle.rt_base.specs.declared.numbers.Offset.{Offset}
use Rattle.rt_fsm.proofs.Notes.{largest_above, noted_some}
use Rattle.rt_fsm.proofs.Pick.{fresh_instances}
use Rattle.rt_fsm.proofs.Table.{by_test, offset_of}
use Rattle.rt_model.specs.Completion.{aborts, asked_offset, by_table, catches_up, commit_end_in, commit_start_in, commit_time, consumed_in, decided, first, fresh, goes, is_late, is_only_note, largest_note, noted, offset_or_zero, past_start, picks, react, with_note, with_pick, wrong_offset, Completion}
use Rattle.rt_model.specs.Moments.{later}
use Rattle.rt_model.specs.declared.completion.Ask.{Ask}
use Rattle.rt_model.specs.declared.completion.Ask.TheVariants as ask
use Rattle.rt_model.specs.declared.completion.Reaction.{Reaction}
use Rattle.rt_model.specs.declared.completion.Reaction.TheVariants as reaction
use Rattle.rt_model.specs.declared.completion.Said.TheVariants as said
use Rattle.rt_model.specs.declared.machine_state.MachineState.{MachineState}
use Rattle.rt_model.specs.declared.machine_state.MachineState.TheVariants as machine
use Rattle.rt_model.specs.declared.reply.FailCause.TheVariants.{WrongOffset}
use Rattle.rt_model.specs.declared.reporter.Reporter.{Reporter}
use Rattle.rt_model.specs.declared.request.Reason.{Reason}
use Rattle.rt_model.specs.declared.request.Reason.TheVariants.{RowLimit}
use Rattle.rt_model.specs.declared.seg_meta.SeenMeta.{SeenMeta}
use Rattle.rt_calm.specs.Waiting.{WaitsFor}

-- ---- a machine that isn't late, and what is asked past its segment's start

module _ (m : Completion) (i : Instance) (x : Offset) (now : Moment) (early : is_late m now ≡ false) (past : m.seen.meta.start.0 < x.0) where
  tabled : (what : Ask) → asked_offset what ≡ Some x → react m i what now ≡ by_table m i what now
  tabled what at =
      cond-false (is_late m now) (aborts m said.Hold) (past_start m (asked_offset what) (by_table m i what now)) early
      ∙ ap (λ o. past_start m o (by_table m i what now)) at
      ∙ cond-false (nat_le x.0 m.seen.meta.start.0) (reaction.Answer (said.Failed (WrongOffset x m.seen.meta.start)), m) (by_table m i what now)
      (lt-leb x.0 m.seen.meta.start.0 past)

  -- another replica, which is level with the committer
  module _ (reason : Reason) (other : (i.0 == m.winner.0) ≡ false) (level : m.offset.0 ≡ x.0) where
    abbrev holds : Reaction × Completion
    holds = (reaction.Answer said.Hold, m)

    catches : catches_up m x ≡ holds
    catches = cond-false (nat_lt x.0 m.offset.0) (reaction.Answer (said.CatchUp m.offset), m) holds (le-ltb x.0 m.offset.0 (omega (arith, level)))

    held_in : (s : MachineState) → WaitsFor s → consumed_in s m i x reason now ≡ holds
    held_in machine.CommitterNotified waits =
        cond-false (nat_lt m.offset.0 x.0) (aborts m said.Hold) _ (le-ltb m.offset.0 x.0 (omega (arith, level)))
        ∙ cond-false (i.0 == m.winner.0) (cond (x.0 == m.offset.0) (reaction.Answer (said.Commit m.offset), m) (aborts m said.Hold)) (catches_up m x) other
        ∙ catches
    held_in machine.CommitterUploading waits = cond-false (i.0 == m.winner.0) (aborts m said.Hold) (catches_up m x) other ∙ catches
    held_in machine.Committing waits = catches
    held_in machine.PartialConsuming waits = absurd waits
    held_in machine.Holding waits = absurd waits
    held_in machine.CommitterDecided waits = absurd waits
    held_in machine.Committed waits = absurd waits
    held_in machine.Aborted waits = absurd waits

    pub level_holds : WaitsFor m.state → react m i (ask.Consumed x reason) now ≡ holds
    level_holds waits = tabled (ask.Consumed x reason) refl ∙ held_in m.state waits

  -- the committer itself
  module _ (own : m.winner.0 ≡ i.0) (level : m.offset.0 ≡ x.0) where
    pub own_starts : m.state ≡ machine.CommitterNotified
        → react m i (ask.CommitStart x) now ≡ (reaction.Answer said.CommitContinue, goes m machine.CommitterUploading)
    own_starts notified =
        tabled (ask.CommitStart x) refl ∙ ap (λ s. commit_start_in s m i x) notified
        ∙ cond-true (i.0 == m.winner.0) (cond (x.0 == m.offset.0) (reaction.Answer said.CommitContinue, goes m machine.CommitterUploading) (wrong_offset m x))
        (reaction.Answer said.Hold, m) (eq-eqb i.0 m.winner.0 (sym own))
        ∙ cond-true (x.0 == m.offset.0) (reaction.Answer said.CommitContinue, goes m machine.CommitterUploading) (wrong_offset m x)
        (eq-eqb x.0 m.offset.0 (sym level))

    pub own_ends : m.state ≡ machine.CommitterUploading → react m i (ask.CommitEnd x) now ≡ (reaction.StartCommit m.offset, goes m machine.Committing)
    own_ends uploading =
        tabled (ask.CommitEnd x) refl ∙ ap (λ s. commit_end_in s m i x) uploading
        ∙ cond-true (i.0 == m.winner.0) (cond (x.0 == m.offset.0) (reaction.StartCommit m.offset, goes m machine.Committing) (wrong_offset m x)) _
        (eq-eqb i.0 m.winner.0 (sym own))
        ∙ cond-true (x.0 == m.offset.0) (reaction.StartCommit m.offset, goes m machine.Committing) (wrong_offset m x) (eq-eqb x.0 m.offset.0 (sym level))

-- ---- the first report to a machine that is made

module _ (i : Instance) (x : Offset) where
  -- of replicas of which none had reported
  abbrev notes : List Instance → List Reporter
  notes rs = map (noted i x) (map fresh rs)

  one_only : (j : Instance) → ((noted i x (fresh j)).instance.0 == i.0) || is_none (noted i x (fresh j)).note ≡ true
  one_only j =
      by_test (λ (r : Reporter). ((r.instance.0 == i.0) || is_none r.note) ≡ true) (j.0 == i.0) (record { instance = j; note = Some x; excluded = false }) (fresh j)
      (λ own. or_left (j.0 == i.0) false own) (λ apart. or_right (j.0 == i.0) true refl)

  only : (rs : List Instance) → is_only_note i (notes rs) ≡ true
  only [] = refl
  only (j ∷ rs) =
      and_from (((noted i x (fresh j)).instance.0 == i.0) || is_none (noted i x (fresh j)).note) (is_only_note i (notes rs)) (one_only j) (only rs)

  one_most : (j : Instance) → offset_or_zero (noted i x (fresh j)).note ≤ x.0
  one_most j =
      by_test (λ (r : Reporter). offset_or_zero r.note ≤ x.0) (j.0 == i.0) (record { instance = j; note = Some x; excluded = false }) (fresh j)
      (λ own. omega arith) (λ apart. omega arith)

  most : (rs : List Instance) → largest_note (notes rs) ≤ x.0
  most [] = omega arith
  most (j ∷ rs) =
      by_max (offset_or_zero (noted i x (fresh j)).note) (largest_note (notes rs)) (one_most j) (most rs)
    where
      by_max : (a b : ℕ) → a ≤ x.0 → b ≤ x.0 → max a b ≤ x.0
      by_max a b le me = omega (arith, le, me)

  module _ (rs : List Instance) (there : Contains rs i) where
    top : largest_note (notes rs) ≡ x.0
    top =
        omega (
          arith,
          most rs,
          largest_above i x (notes rs)
              (noted_some i x (map fresh rs) (subst (λ (is : List Instance). Contains is i) (sym (fresh_instances rs)) there)),
        )

    module _ (seen : SeenMeta) (now : Moment) where
      abbrev pub made : Completion
      made = first seen rs machine.Holding now

      abbrev pub chosen : Completion
      chosen = with_pick (with_note made i x) i x now

      pub chosen_winner : chosen.winner ≡ i
      chosen_winner = cond-true (x.0 == largest_note (notes rs)) i _ (eq-eqb x.0 (largest_note (notes rs)) (sym top))

      pub chosen_offset : chosen.offset ≡ x
      chosen_offset = ap offset_of top

      picks_now : picks (with_note made i x) i RowLimit now ≡ true
      picks_now = or_right _ _ (or_right _ _ (only rs))

      -- it is told to commit
      pub first_commits : seen.meta.start.0 < x.0
          → react made i (ask.Consumed x RowLimit) now ≡ (reaction.Answer (said.Commit chosen.offset), goes chosen machine.CommitterNotified)
      first_commits past =
          tabled made i x now refl past (ask.Consumed x RowLimit) refl
          ∙ cond-true (picks (with_note made i x) i RowLimit now) (decided chosen i x) (reaction.Answer said.Hold, goes (with_note made i x) machine.Holding) picks_now
          ∙ cond-true (i.0 == chosen.winner.0) (reaction.Answer (said.Commit chosen.offset), goes chosen machine.CommitterNotified) _
          (eq-eqb i.0 chosen.winner.0 (ap (λ (j : Instance). j.0) (sym chosen_winner)))

      -- and has time
      pub chosen_early : now.0 ≤ 18446744073709551615 → is_late (goes chosen machine.CommitterNotified) now ≡ false
      chosen_early counted = le-ltb (later now commit_time).0 now.0 (omega (arith, counted))
