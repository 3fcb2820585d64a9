use Rattle.std.proofs.Common.{◌≡◌, ◌≤◌, [], ◌∷◌, map, vec_len, vec_capacity}
use Rattle.std.specs.List.{range_with_len}
use Rattle.rt_front.specs.Histories.{history, known}
use Rattle.rt_front.proofs.blank.found.Given as goal

-- the fronts so far have the numbers so far
abbrev pub invariant-loop-number : goal.invariant-loop-number
invariant-loop-number g l = record {
  chronicle : l.chronicle ≡ l.fn.blank;
  keeper : l.keeper ≡ history l.fn.blank [] l.number;
  fronts : l.made.items ≡ map (λ k. known l.fn.blank [] (k ∷ [])) (range_with_len 0 l.number);
  count : vec_len l.made ≡ l.number;
  room : l.fronts ≤ vec_capacity l.made;
}
