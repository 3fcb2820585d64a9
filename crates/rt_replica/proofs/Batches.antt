-- The rows after a batch, and what stays true of them.
use Rattle.std.proofs.Common.{◌≡◌, ◌+◌, ◌-◌, ◌<◌, ◌≤◌, ◌&&◌, ℕ, Bool, true, false, cond, min, nat_le, nat_lt, List, [], ◌∷◌, length, Option, Some, None, refl, ap, ◌∙◌, arith}
use Rattle.std.proofs.lemmas.Bool.{leb-true, leb-false, ltb-true, false≢true}
use Rattle.std.proofs.lemmas.List.{length_push}
use Rattle.rt_base.specs.declared.numbers.Moment.{Moment}
use Rattle.rt_base.specs.declared.numbers.Offset.{Offset}
use Rattle.rt_base.specs.declared.numbers.Partition.{Partition}
use Rattle.rt_base.specs.declared.numbers.Sequence.{Sequence}
use Rattle.rt_schema.specs.declared.row.Row.{Row}
use Rattle.rt_schema.specs.declared.schema.Schema.{Schema}
use Rattle.rt_schema.specs.Row.{row_of}
use Rattle.rt_mutable.specs.Consuming.{Consuming, after_message}
use Rattle.rt_consumer.specs.declared.settings.Settings.{Settings}
use Rattle.rt_consumer.specs.declared.stage.Stage.{Stage}
use Rattle.rt_consumer.specs.declared.stage.Stage.TheVariants.{InitialConsuming, CatchingUp, Holding, ConsumingToOnline, Retaining, Building, Starting, Uploading, Ending}
use Rattle.rt_consumer.specs.Consumer.{AreSettings, AreRows, IsStage}
use Rattle.rt_consumer.specs.Batch.{asked_at, filled, is_timed_out, after_batch}

-- a message changes neither the columns nor the start, and moves the end by one
pub same_columns : (rows : Consuming) (row : Option Row) → (after_message rows row).columns ≡ rows.columns
same_columns rows None = refl
same_columns rows (Some row) = refl

pub same_start : (rows : Consuming) (row : Option Row) → (after_message rows row).start ≡ rows.start
same_start rows None = refl
same_start rows (Some row) = refl

pub one_further : (rows : Consuming) (row : Option Row) → (after_message rows row).end.0 ≡ rows.end.0 + 1
one_further rows None = refl
one_further rows (Some row) = refl

pub one_row : (rows : Consuming) (row : Option Row) → length (after_message rows row).rows ≤ length rows.rows + 1
one_row rows None = omega arith
one_row rows (Some row) = omega (arith, length_push rows.rows (record { offset = rows.end; row = row }))

-- what a batch leaves as it was, and how far it goes
pub record Further (rows new : Consuming) (count : ℕ) : Type 0 where
  pub columns : new.columns ≡ rows.columns
  pub start : new.start ≡ rows.start
  pub onward : rows.end.0 ≤ new.end.0
  pub most : new.end.0 ≤ rows.end.0 + count
  pub few : rows.end.0 + length new.rows ≤ new.end.0 + length rows.rows

further_at : (b : Bool) (rows next last : Consuming) (n : ℕ) → next.columns ≡ rows.columns → next.start ≡ rows.start → next.end.0 ≡ rows.end.0 + 1
    → length next.rows ≤ length rows.rows + 1 → Further next last n → Further rows (cond b last rows) (n + 1)
further_at true rows next last n c s e l f = record {
  columns = f.columns ∙ c;
  start = f.start ∙ s;
  onward = omega (arith, f.onward, e);
  most = omega (arith, f.most, e);
  few = omega (arith, f.few, e, l);
}
further_at false rows next last n c s e l f = record { columns = refl; start = refl; onward = omega arith; most = omega arith; few = omega arith }

pub filled_further : (schema : Schema) (limit : ℕ) (rows : Consuming) (ms : List (List ℕ)) → Further rows (filled schema limit rows ms) (length ms)
filled_further schema limit rows [] = record { columns = refl; start = refl; onward = omega arith; most = omega arith; few = omega arith }
filled_further schema limit rows (m ∷ ms) =
    let next = after_message rows (row_of schema m) in
    let f = further_at (nat_lt (length rows.rows) limit) rows next (filled schema limit next ms) (length ms)
    (same_columns rows (row_of schema m)) (same_start rows (row_of schema m)) (one_further rows (row_of schema m)) (one_row rows (row_of schema m))
    (filled_further schema limit next ms) in
    record { columns = f.columns; start = f.start; onward = f.onward; most = omega (arith, f.most); few = f.few }

pub rows_kept : (settings : Settings) (start : Offset) (rows new : Consuming) (count : ℕ) → AreRows settings start rows → Further rows new count → AreRows settings start new
rows_kept settings start rows new count h f = record {
  columns = f.columns ∙ h.columns;
  first = f.start ∙ h.first;
  few = omega (arith, h.few, f.few, ap (λ x. x.0) f.start);
}

both_true : (a b : Bool) → (a && b) ≡ true → b ≡ true
both_true true b e = e
both_true false b e = absurd (false≢true e)

stage_by : (P : Stage → Type 0) (b : Bool) (x y : Stage) → (b ≡ true → P x) → (b ≡ false → P y) → P (cond b x y)
stage_by P true x y h k = h refl
stage_by P false x y h k = k refl

abbrev given : ℕ → Option ℕ
given n = Some n

some_same : (m n : ℕ) → given m ≡ given n → m ≡ n
some_same m n e = cc

abbrev none : Option ℕ
none = None

none_some : (n : ℕ) → none ≡ given n → ⊥
none_some n e = cc

module _ (settings : Settings) (p : Partition) (q : Sequence) (began now : Moment) (s : AreSettings settings) where
  timed_past : (rows : Consuming) → is_timed_out settings.millis began now rows.start rows.end ≡ true → rows.start.0 < rows.end.0
  timed_past rows e = ltb-true _ _ (both_true (nat_le settings.millis (now.0 - began.0)) (nat_lt rows.start.0 rows.end.0) e)

  -- the stage after a batch of at most so many messages
  pub stage_is : (start : Offset) (rows new : Consuming) (stage : Stage) (max count : ℕ) → asked_at stage rows.end max ≡ Some count
      → AreRows settings start rows → IsStage settings p q rows stage → Further rows new count → IsStage settings p q new (after_batch settings began now new stage)
  stage_is start rows new InitialConsuming max count e h k f =
      stage_by (IsStage settings p q new) (nat_le settings.rows (length new.rows)) _ _
      (λ full. omega (arith, s.rows.0, leb-true _ _ full, h.few, f.few, ap (λ x. x.0) f.start))
      (λ more. stage_by (IsStage settings p q new) (is_timed_out settings.millis began now new.start new.end) _ _ (timed_past new) (λ early. tt))
  stage_is start rows new (CatchingUp target reason) max count e h k f =
      let past : new.start.0 < new.end.0 = omega (arith, k.0, f.onward, ap (λ x. x.0) f.start) in
      stage_by (IsStage settings p q new) (nat_le target.0 new.end.0) _ _ (λ there. past) (λ short. (past, leb-false _ _ short))
  stage_is start rows new (ConsumingToOnline end done) max count e h k f =
      let asked : min max (end.0 - rows.end.0) ≡ count = some_same _ _ e in
      stage_by (IsStage settings p q new) (nat_le end.0 new.end.0) _ _
      (λ there.
      let same : end.0 ≡ new.end.0 = omega (arith, leb-true _ _ there, f.most, asked, k.0) in
      (omega (arith, k.0, same, h.few, ap (λ x. x.0) f.start), k.1 ∙ ap (λ n. Some (record { 0 = n })) same))
      (λ short. (leb-false _ _ short, k.1))
  stage_is start rows new (Holding reason) max count e h k f = absurd (none_some count e)
  stage_is start rows new (Retaining done) max count e h k f = absurd (none_some count e)
  stage_is start rows new (Building reason) max count e h k f = absurd (none_some count e)
  stage_is start rows new (Starting reason built) max count e h k f = absurd (none_some count e)
  stage_is start rows new (Uploading reason built) max count e h k f = absurd (none_some count e)
  stage_is start rows new (Ending reason built path) max count e h k f = absurd (none_some count e)
