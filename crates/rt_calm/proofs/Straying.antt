-- A batch and a build leave no more that may lie ahead again: a batch makes no committer, and a build leaves one as it was.
use Rattle.std.proofs.Common.{◌≡◌, ℕ, ◌≤◌, ◌&&◌, not, nat_le, Bool, true, false, cond, Option, Some, None, List, length, Ok, refl, sym, ap, subst, arith}
use Rattle.std.specs.Prelude.{option_map}
use Rattle.std.proofs.lemmas.Bool.{cond_both, false≢true}
use Rattle.std.proofs.lemmas.Option.{none-some, same_Some}
use Rattle.rt_base.specs.declared.numbers.Moment.{Moment}
use Rattle.rt_base.specs.declared.numbers.Offset.{Offset}
use Rattle.rt_consumer.specs.Batch.{after_batch, asked_at, asked_in, consumed, is_timed_out, messages_from, taken_at, taken_in}
use Rattle.rt_consumer.specs.Consumer.{at, cur}
use Rattle.rt_consumer.specs.Requests.{builds_at, builds_in, filed, filed_at, Builds}
use Rattle.rt_consumer.specs.declared.consumer.Consumer.{Consumer}
use Rattle.rt_consumer.specs.declared.phase.Phase.{Phase}
use Rattle.rt_consumer.specs.declared.phase.Phase.TheVariants as phase
use Rattle.rt_consumer.specs.declared.settings.Settings.{Settings}
use Rattle.rt_consumer.specs.declared.stage.Stage.{Stage}
use Rattle.rt_consumer.specs.declared.stage.Stage.TheVariants.{Building, CatchingUp, ConsumingToOnline, Ending, Holding, InitialConsuming, Retaining, Starting, Uploading}
use Rattle.rt_model.specs.Completion.{Completion}
use Rattle.rt_model.specs.declared.request.Reason.{Reason}
use Rattle.rt_model.specs.declared.request.Reason.TheVariants.{RowLimit, TimeLimit}
use Rattle.rt_mutable.specs.Consuming.{Consuming}
use Rattle.rt_segment.specs.Segment.{SealedSegment}
use Rattle.rt_stream.specs.Log.{Log}
use Rattle.rt_calm.specs.Again.{awaits, commits_at, steps_if, stray_again}

-- ---- a batch

commits_none : (settings : Settings) (began now : Moment) (rows : Consuming) (stage : Stage) (x : Offset) (max n : ℕ) → asked_at stage x max ≡ Some n
    → commits_at (after_batch settings began now rows stage) ≡ false
commits_none settings began now rows InitialConsuming x max n asks =
    cond_both (nat_le settings.rows (length rows.rows)) (Holding RowLimit)
    (cond (is_timed_out settings.millis began now rows.start rows.end) (Holding TimeLimit) InitialConsuming) (λ (s : Stage). commits_at s ≡ false) (λ full. refl)
    (λ few. cond_both (is_timed_out settings.millis began now rows.start rows.end) (Holding TimeLimit) InitialConsuming (λ (s : Stage). commits_at s ≡ false)
    (λ late. refl) (λ early. refl))
commits_none settings began now rows (CatchingUp target reason) x max n asks =
    cond_both (nat_le target.0 rows.end.0) (Holding reason) (CatchingUp target reason) (λ (s : Stage). commits_at s ≡ false) (λ there. refl) (λ ahead. refl)
commits_none settings began now rows (ConsumingToOnline end done) x max n asks =
    cond_both (nat_le end.0 rows.end.0) (Retaining done) (ConsumingToOnline end done) (λ (s : Stage). commits_at s ≡ false) (λ there. refl) (λ ahead. refl)
commits_none settings began now rows (Holding reason) x max n asks = refl
commits_none settings began now rows (Retaining done) x max n asks = refl
commits_none settings began now rows (Building reason) x max n asks = absurd (none-some n asks)
commits_none settings began now rows (Starting reason built) x max n asks = absurd (none-some n asks)
commits_none settings began now rows (Uploading reason built) x max n asks = absurd (none-some n asks)
commits_none settings began now rows (Ending reason built path) x max n asks = absurd (none-some n asks)

module _ (m : Option Completion) (i : ℕ) where
  rows_stray : (rows : Consuming) (stage : Stage) → commits_at stage ≡ false → stray_again m i (at rows stage) ≡ 0
  rows_stray rows stage none = ap (λ (b : Bool). steps_if (b && not (awaits m i stage rows.end))) none

  taken_stray : (r : Consumer) (ph : Phase) (now : Moment) (ms : List (List ℕ)) (max n : ℕ) → asked_in ph max ≡ Some n → stray_again m i (taken_in r ph now ms).phase ≡ 0
  taken_stray r (phase.Unsealed o) now ms max n asks =
      let new = taken_at r.settings r.started now o ms in
      rows_stray new.rows new.stage (commits_none r.settings r.started now new.rows o.stage o.rows.end max n asks)
  taken_stray r (phase.Retained kept) now ms max n asks = absurd (none-some n asks)
  taken_stray r (phase.Committed kept) now ms max n asks = absurd (none-some n asks)
  taken_stray r (phase.Discarded d) now ms max n asks = absurd (none-some n asks)

  pub batch_stray : (r new : Consumer) (max : ℕ) (now : Moment) (log : Log) → consumed r max now log ≡ Some new → stray_again m i new.phase ≡ 0
  batch_stray r new max now log e = by_count (asked_in r.phase max) refl e
    where
      by_count : (o : Option ℕ) → asked_in r.phase max ≡ o
          → option_map (λ n. taken_in r r.phase now (messages_from log r.partition (cur r) n)) o ≡ Some new → stray_again m i new.phase ≡ 0
      by_count None asks h = absurd (none-some new h)
      by_count (Some n) asks h =
          subst (λ (x : Consumer). stray_again m i x.phase ≡ 0) (same_Some _ new h)
          (taken_stray r r.phase now (messages_from log r.partition (cur r) n) max n asks)

  -- ---- a build

  building_alike : (k : Option Completion) (rows : Consuming) (reason : Reason) (file : SealedSegment)
      → stray_again k i (at rows (Starting reason file)) ≡ stray_again k i (at rows (Building reason))
  building_alike None rows reason file = refl
  building_alike (Some c) rows reason file = refl

  filed_stray : (rows : Consuming) (stage : Stage) (file : SealedSegment) → builds_at stage ≡ true
      → stray_again m i (filed_at rows stage file) ≤ stray_again m i (at rows stage)
  filed_stray rows (Retaining done) file builds = omega arith
  filed_stray rows (Building reason) file builds = omega (arith, building_alike m rows reason file)
  filed_stray rows InitialConsuming file builds = absurd (false≢true builds)
  filed_stray rows (CatchingUp target reason) file builds = absurd (false≢true builds)
  filed_stray rows (Holding reason) file builds = absurd (false≢true builds)
  filed_stray rows (ConsumingToOnline end done) file builds = absurd (false≢true builds)
  filed_stray rows (Starting reason built) file builds = absurd (false≢true builds)
  filed_stray rows (Uploading reason built) file builds = absurd (false≢true builds)
  filed_stray rows (Ending reason built path) file builds = absurd (false≢true builds)

  built_stray : (ph : Phase) (file : SealedSegment) → builds_in ph ≡ true → stray_again m i (filed ph file) ≤ stray_again m i ph
  built_stray (phase.Unsealed o) file builds = filed_stray o.rows o.stage file builds
  built_stray (phase.Retained kept) file builds = absurd (false≢true builds)
  built_stray (phase.Committed kept) file builds = absurd (false≢true builds)
  built_stray (phase.Discarded d) file builds = absurd (false≢true builds)

  pub build_stray : (r new : Consumer) → Builds r new (Ok tt) → stray_again m i new.phase ≤ stray_again m i r.phase
  build_stray r new (builds, (file, seals, is)) =
      subst (λ (x : Consumer). stray_again m i x.phase ≤ stray_again m i r.phase) (sym is) (built_stray r.phase file builds)
