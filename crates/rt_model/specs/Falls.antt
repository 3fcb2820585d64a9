-- Each part of a condition has fewer nodes than the condition.
use Rattle.std.specs.Prelude.{◌+◌, ◌≤◌, max, List, [], ◌∷◌}
use Rattle.std.proofs.Common.{arith}
use denote.Param.Weighed.{most}
use Rattle.rt_model.specs.declared.predicate.Condition.{Condition}
use Rattle.rt_model.specs.declared.predicate.Condition.TheVariants as condition
use Rattle.rt_model.specs.declared.predicate.Predicate.TheDeep.{deep-Condition}
use Rattle.rt_model.specs.Condition.{tree_of}
use Rattle.rt_model.specs.Tree.{Tree, trees, nodes, list_nodes}

-- no part has more nodes than all parts together
pub most_within : (ts : List Tree) → most (λ t. nodes t + 1) ts ≤ list_nodes (trees ts) + 1
most_within [] = omega arith
most_within (t ∷ ts) = omega (arith, most_within ts)

pub falls : (c : Condition) → max (deep-Condition c) 0 ≤ nodes (tree_of c)
falls (condition.Compare x o l) = omega arith
falls (condition.Between x l h) = omega arith
falls (condition.OneOf x ls) = omega arith
falls (condition.NoneOf x ls) = omega arith
falls (condition.Not t) = omega arith
falls (condition.And ts) = omega (arith, most_within ts.items)
falls (condition.Or ts) = omega (arith, most_within ts.items)
