-- The views of one partition more.
use Rattle.std.proofs.Common.{◌≡◌, ℕ, ◌+◌, [], ◌∷◌, ◌++◌, map, arith}
use Rattle.std.specs.List.{range_with_len}
use Rattle.std.proofs.lemmas.List.FromFn.{map-range_with_len_more}
use Rattle.rt_views.specs.Views.{view_each, view_whole}
use Rattle.rt_state.specs.declared.state.State.{State}

pub each_more : (w : State) (k : ℕ) → map (view_each w) (range_with_len 0 (k + 1)) ≡ map (view_each w) (range_with_len 0 k) ++ view_each w k ∷ []
each_more w k = map-range_with_len_more (view_each w) 0 k k (omega arith)

pub whole_more : (w : State) (k : ℕ) → map (view_whole w) (range_with_len 0 (k + 1)) ≡ map (view_whole w) (range_with_len 0 k) ++ view_whole w k ∷ []
whole_more w k = map-range_with_len_more (view_whole w) 0 k k (omega arith)
