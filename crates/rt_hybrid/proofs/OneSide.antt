-- A time lies on exactly one side of the boundary.
use Rattle.std.proofs.Common.{◌≡◌, ℕ, ℤ, pos, negsuc, Bool, true, false, cond, not, Option, Some, None, refl, arith}
use Rattle.std.specs.Prelude.{int_le, int_lt, nat_le, nat_lt}
use Rattle.std.specs.Ordering.{int_cmp, is_le}
use Rattle.std.specs.declared.cmp.Ordering.TheVariants.{Less, Equal, Greater}
use Rattle.std.proofs.lemmas.Bool.{leb-false, leb-true, ltb-false, ltb-true}
use Rattle.std.proofs.lemmas.Int.{ints}
use Rattle.rt_schema.specs.declared.row.Row.{Row}
use Rattle.rt_hybrid.specs.Sides.{is_before, is_past, is_offline_row, is_realtime_row}
use Rattle.rt_hybrid.specs.Table.{OfflineTable, boundary_of, time_of}

below : (a b : ℕ) → nat_lt a b ≡ not (nat_le b a)
below a b = by (nat_lt a b) (nat_le b a) refl refl
  where
    by : (x y : Bool) → nat_lt a b ≡ x → nat_le b a ≡ y → x ≡ not y
    by true false e f = refl
    by false true e f = refl
    by true true e f = absurd (omega (arith, ltb-true a b e, leb-true b a f))
    by false false e f = absurd (omega (arith, ltb-false a b e, leb-false b a f))

pub other_of : (boundary : Option ℤ) (time : ℤ) → is_past boundary time ≡ not (is_before boundary time)
other_of None time = refl
other_of (Some (pos a)) (pos b) = below a b
other_of (Some (pos a)) (negsuc b) = refl
other_of (Some (negsuc a)) (pos b) = refl
other_of (Some (negsuc a)) (negsuc b) = below b a

pub other_side : (table : OfflineTable) (row : Row) → is_realtime_row table row ≡ not (is_offline_row table row)
other_side table row = other_of (boundary_of table) (time_of table.time row)

-- a comparison that is at most is the test
pub at_most : (z b : ℤ) → is_le (int_cmp z b) ≡ int_le z b
at_most z b = by (int_lt z b) (int_lt b z) (int_le z b) refl refl refl
  where
    by : (x y w : Bool) → int_lt z b ≡ x → int_lt b z ≡ y → int_le z b ≡ w → is_le (cond x Less (cond y Greater Equal)) ≡ w
    by true y true e f g = refl
    by true y false e f g = absurd (grind (arith, ints))
    by false true true e f g = absurd (grind (arith, ints))
    by false true false e f g = refl
    by false false true e f g = refl
    by false false false e f g = absurd (grind (arith, ints))
