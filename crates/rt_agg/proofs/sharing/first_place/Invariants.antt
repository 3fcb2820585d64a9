use Rattle.std.proofs.Common.{◌≡◌, ◌<◌, ℕ, slice_get}
use Rattle.rt_agg.proofs.sharing.first_place.Given as goal

-- none before this place is the same
abbrev pub invariant-loop-place : goal.invariant-loop-place
invariant-loop-place l = (j : ℕ) → j < l.place → slice_get l.items j ≡ slice_get l.items l.i → ⊥
