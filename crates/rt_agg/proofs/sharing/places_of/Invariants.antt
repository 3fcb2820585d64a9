use Rattle.std.proofs.Common.{◌≡◌, ℕ, Some, length, slice_get}
use Rattle.rt_agg.specs.Sharing.{IsFirst}
use Rattle.rt_agg.proofs.sharing.places_of.Given as goal

abbrev pub invariant-loop-i : goal.invariant-loop-i
invariant-loop-i l = record {
  long : length l.places.items ≡ l.i;
  each : (i place : ℕ) → slice_get l.places.items i ≡ Some place → IsFirst l.items i place;
}
