-- Whether a row meets a predicate: truth by cases.
use Rattle.std.specs.Prelude.{Bool, true, false, not, ◌&&◌, ◌||◌, List, [], ◌∷◌, Option, Some, None, slice_get, slice_index_or}
use Rattle.std.specs.declared.cmp.Ordering.{Ordering}
use Rattle.std.specs.Ordering.{is_eq, is_ne, is_lt, is_le, is_gt, is_ge}
use Rattle.rt_schema.specs.declared.row.Row.{Row}
use Rattle.rt_schema.specs.declared.value.Value.{Value}
use Rattle.rt_schema.specs.declared.value.Value.TheVariants.{Bool as Truth}
use Rattle.rt_model.specs.declared.query_parts.ColumnAt.{ColumnAt}
use Rattle.rt_model.specs.declared.query_parts.Comparison.{Comparison}
use Rattle.rt_model.specs.declared.query_parts.Comparison.TheVariants.{Equal, NotEqual, Less, AtMost, Greater, AtLeast}
use Rattle.rt_model.specs.declared.query_parts.Literal.{Literal}
use Rattle.rt_model.specs.Tree.{Tree, Trees, Compare, Between, OneOf, NoneOf, Not, And, Or, End, Then}
use Rattle.rt_model.specs.Values.{against}

-- the value of a column in a row, which has one at the column's place
abbrev pub value_in : Row → ColumnAt → Value
value_in row column = slice_index_or row.values column.place (Truth false)

abbrev pub accepts : Comparison → Ordering → Bool
accepts Equal o = is_eq o
accepts NotEqual o = is_ne o
accepts Less o = is_lt o
accepts AtMost o = is_le o
accepts Greater o = is_gt o
accepts AtLeast o = is_ge o

abbrev pub accepted : Comparison → Option Ordering → Bool
accepted comparison None = false
accepted comparison (Some o) = accepts comparison o

-- a value compares so with a literal
abbrev pub compares : Comparison → Value → Literal → Bool
compares comparison v l = accepted comparison (against v l)

-- both ends are included
abbrev pub lies_between : Value → Literal → Literal → Bool
lies_between v low high = compares AtLeast v low && compares AtMost v high

abbrev pub is_one_of : Value → List Literal → Bool
is_one_of v [] = false
is_one_of v (l ∷ ls) = compares Equal v l || is_one_of v ls

-- a row has a value at the column's place that passes a test
abbrev pub meets : (Value → Bool) → Option Value → Bool
meets test None = false
meets test (Some v) = test v

abbrev pub value_at : Row → ColumnAt → Option Value
value_at row column = slice_get row.values column.place

abbrev mutual
  pub matches : Tree → Row → Bool
  matches (Compare column comparison l) row = meets (λ v. compares comparison v l) (value_at row column)
  matches (Between column low high) row = meets (λ v. lies_between v low high) (value_at row column)
  matches (OneOf column ls) row = meets (λ v. is_one_of v ls) (value_at row column)
  matches (NoneOf column ls) row = meets (λ v. not (is_one_of v ls)) (value_at row column)
  matches (Not t) row = not (matches t row)
  matches (And ts) row = matches_all ts row
  matches (Or ts) row = matches_any ts row

  pub matches_all : Trees → Row → Bool
  matches_all End row = true
  matches_all (Then t ts) row = matches t row && matches_all ts row

  pub matches_any : Trees → Row → Bool
  matches_any End row = false
  matches_any (Then t ts) row = matches t row || matches_any ts row

-- every row meets a filter that is absent
abbrev pub passes : Option Tree → Row → Bool
passes None row = true
passes (Some t) row = matches t row
