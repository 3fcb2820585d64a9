use Rattle.std.proofs.Common.{◌≡◌, ℕ, Option, Some, None, drop}
use Rattle.std.specs.Prelude.{option_map}
use Rattle.rt_model.specs.Completion.{smallest_at, least}
use Rattle.rt_fsm.proofs.reporters.smallest_at.Given as goal

-- the smaller of two, where there are two
abbrev pub less_of : Option ℕ → Option ℕ → Option ℕ
less_of None b = b
less_of (Some a) b = Some (least a b)

abbrev pub invariant-loop-reporter : goal.invariant-loop-reporter
invariant-loop-reporter l =
    less_of (option_map (λ i. i.0) l.smallest) (smallest_at l.offset.0 (drop l.reporter-index l.reporters)) ≡ smallest_at l.offset.0 l.reporters
