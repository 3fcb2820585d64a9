-- Rows of a sequence taken out one by one: what is left, and how many these were.
use Rattle.std.proofs.Common.{◌≡◌, ℕ, ◌+◌, ◌<◌, ◌≤◌, List, length, filter, Some, None, sym, ap, ◌∙◌, subst, arith}
use Rattle.rt_base.specs.declared.numbers.Sequence.{Sequence}
use Rattle.rt_upsert.specs.declared.place.Place.{Place}
use Rattle.rt_upsert.specs.Changes.{without_row, left, IsNext}
use Rattle.rt_upsert.specs.Placed.{Placed, PlacedRows, is_out}
use Rattle.rt_upsert.proofs.Changing.{stays_without, out_without, shorter, none_out}

module _ (sequence : Sequence) (from : ℕ) (old s new : PlacedRows) (place : Place) (next : IsNext s.rows sequence from (Some place)) (is : new ≡ without_row place s) where
  pub left_more : left sequence from s ≡ left sequence from old → left sequence from new ≡ left sequence from old
  left_more kept =
      ap (left sequence from) is
      ∙ ap (λ (rows : List Placed). record s { rows = rows }) (stays_without sequence from place next.1 s.rows)
      ∙ kept

  counted : length (filter (is_out sequence from) new.rows) + 1 ≡ length (filter (is_out sequence from) s.rows)
  counted =
      ap (λ (held : PlacedRows). length (filter (is_out sequence from) held.rows) + 1) is ∙ out_without sequence from place next.1 s.rows next.0

  pub count_more : (count : ℕ) → count + length (filter (is_out sequence from) s.rows) ≡ length (filter (is_out sequence from) old.rows)
      → (count + 1) + length (filter (is_out sequence from) new.rows) ≡ length (filter (is_out sequence from) old.rows)
  count_more count e = omega (arith, e, counted)

  pub shorter_more : length new.rows < length s.rows
  shorter_more = let fewer = shorter place s.rows next.0 in subst (λ (held : PlacedRows). length held.rows < length s.rows) (sym is) fewer

pub count_fits : (sequence : Sequence) (from : ℕ) (s : PlacedRows) (place : Place) (count most : ℕ) → IsNext s.rows sequence from (Some place)
    → count + length (filter (is_out sequence from) s.rows) ≡ most → most ≤ 4294967295 → count + 1 ≤ 4294967295
count_fits sequence from s place count most next e few =
    let one = out_without sequence from place next.1 s.rows next.0 in
    omega (arith, one, e, few)

module _ (sequence : Sequence) (from : ℕ) (old s : PlacedRows) (next : IsNext s.rows sequence from None) where
  pub left_all : left sequence from s ≡ left sequence from old → s ≡ left sequence from old
  left_all kept = ap (λ (rows : List Placed). record s { rows = rows }) (sym (none_out sequence from s.rows next)) ∙ kept

  pub count_all : (count : ℕ) → count + length (filter (is_out sequence from) s.rows) ≡ length (filter (is_out sequence from) old.rows) → count ≡ length (filter (is_out sequence from) old.rows)
  count_all count e = let none : length (filter (is_out sequence from) s.rows) ≡ 0 = ap length next in omega (arith, e, none)
