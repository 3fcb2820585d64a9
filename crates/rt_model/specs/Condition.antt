-- What a condition means: its tree.
use Rattle.rt_model.specs.declared.predicate.Condition.{Condition}
use Rattle.rt_model.specs.declared.predicate.Condition.TheVariants as condition
use Rattle.rt_model.specs.Tree.{Tree, Compare, Between, OneOf, NoneOf, Not, And, Or, trees}

abbrev pub tree_of : Condition → Tree
tree_of (condition.Compare column comparison literal) = Compare column comparison literal
tree_of (condition.Between column low high) = Between column low high
tree_of (condition.OneOf column literals) = OneOf column literals
tree_of (condition.NoneOf column literals) = NoneOf column literals
tree_of (condition.Not part) = Not part.value
tree_of (condition.And parts) = And (trees parts.items)
tree_of (condition.Or parts) = Or (trees parts.items)
