-- How far the first segment of some entries goes.
use Rattle.std.specs.Prelude.{ℕ, suc, List, [], ◌∷◌, if◌then◌else◌}
use Rattle.rt_model.specs.declared.ideal_state.IdealEntry.{IdealEntry}
use Rattle.rt_rebalance.specs.Segments.{is_beside}

abbrev pub run_of : IdealEntry → List IdealEntry → ℕ
run_of e [] = 0
run_of e (f ∷ fs) = if is_beside e f then suc (run_of e fs) else 0
