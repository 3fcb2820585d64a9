-- Which segments no row of which can meet a filter, by the least and the greatest values of their columns.
use Rattle.std.specs.Prelude.{ℕ, ◌-◌, Bool, true, false, not, ◌&&◌, ◌||◌, List, [], ◌∷◌, Option, Some, None, nat_eq, slice_get, bytes_eq, if◌then◌else◌}
use Rattle.std.specs.declared.cmp.Ordering.{Ordering}
use Rattle.std.specs.Ordering.{is_eq, is_lt, is_le, is_gt, is_ge}
use Rattle.rt_schema.specs.declared.value.Value.{Value}
use Rattle.rt_model.specs.declared.query_parts.Comparison.{Comparison}
use Rattle.rt_model.specs.declared.query_parts.Comparison.TheVariants.{Equal, NotEqual, Less, AtMost, Greater, AtLeast}
use Rattle.rt_model.specs.declared.query_parts.Literal.{Literal}
use Rattle.rt_model.specs.declared.query_parts.Literal.TheVariants as literal
use Rattle.rt_model.specs.Match.{accepted}
use Rattle.rt_model.specs.Tree.{Tree, Trees, Compare, Between, OneOf, NoneOf, Not, And, Or, End, Then}
use Rattle.rt_model.specs.Values.{against, number_against, text_against, truth_against}
use Rattle.rt_segment.specs.declared.dictionary.Dictionary.{Dictionary}
use Rattle.rt_segment.specs.Column.{SealedColumn, values_in, count_in}
use Rattle.rt_segment.specs.Segment.{SealedSegment}
use Rattle.rt_scan.specs.declared.standing.Standing.{Standing}

-- how a value, where there is one, stands to a literal
abbrev pub against_if : Option Value → Literal → Option Ordering
against_if None l = None
against_if (Some v) l = against v l

abbrev pub standing_by : Option Ordering → Option Ordering → Option Standing
standing_by None greatest = None
standing_by (Some least) None = None
standing_by (Some least) (Some greatest) = Some (record { least = least; greatest = greatest })

-- how the least and the greatest value stand to a literal; none where it isn't of their kind, or where there are no values
abbrev pub standing_in : Dictionary → Literal → Option Standing
standing_in d l = standing_by (against_if (slice_get (values_in d) 0) l) (against_if (slice_get (values_in d) (count_in d - 1)) l)

-- the same of the column of a name; none where there is no such column
abbrev pub standing_of : List SealedColumn → List ℕ → Literal → Option Standing
standing_of [] name l = None
standing_of (column ∷ columns) name l = if bytes_eq column.name name then standing_in column.dictionary l else standing_of columns name l

-- whether a value from the least to the greatest can compare so with the literal
abbrev pub reaches : Comparison → Standing → Bool
reaches Equal s = is_le s.least && is_ge s.greatest
reaches NotEqual s = not (is_eq s.least && is_eq s.greatest)
reaches Less s = is_lt s.least
reaches AtMost s = is_le s.least
reaches Greater s = is_gt s.greatest
reaches AtLeast s = is_ge s.greatest

abbrev pub can_compare : Comparison → Option Standing → Bool
can_compare comparison None = true
can_compare comparison (Some s) = reaches comparison s

-- whether the first literal is greater than the second
abbrev pub is_above : Literal → Literal → Bool
is_above (literal.Int a) l = accepted Greater (number_against a l)
is_above (literal.Text a) l = accepted Greater (text_against a l)
is_above (literal.Bool a) l = accepted Greater (truth_against a l)

-- whether a value can lie between a low and a high literal, by how the values stand to each, and whether low is above high
abbrev pub can_lie : Option Standing → Option Standing → Bool → Bool
can_lie None high above = true
can_lie (Some low) None above = true
can_lie (Some low) (Some high) above = not above && (reaches AtLeast low && reaches AtMost high)

-- whether a value of the column of a name can equal one of the literals
abbrev pub can_be_one : List SealedColumn → List ℕ → List Literal → Bool
can_be_one columns name [] = false
can_be_one columns name (l ∷ ls) = can_compare Equal (standing_of columns name l) || can_be_one columns name ls

-- whether a row can meet a predicate
abbrev mutual
  pub can_match : List SealedColumn → Tree → Bool
  can_match columns (Compare column comparison l) = can_compare comparison (standing_of columns column.name l)
  can_match columns (Between column low high) = can_lie (standing_of columns column.name low) (standing_of columns column.name high) (is_above low high)
  can_match columns (OneOf column ls) = can_be_one columns column.name ls
  can_match columns (NoneOf column ls) = true
  can_match columns (Not t) = true
  can_match columns (And ts) = can_match_all columns ts
  can_match columns (Or ts) = can_match_any columns ts

  pub can_match_all : List SealedColumn → Trees → Bool
  can_match_all columns End = true
  can_match_all columns (Then t ts) = can_match columns t && can_match_all columns ts

  pub can_match_any : List SealedColumn → Trees → Bool
  can_match_any columns End = false
  can_match_any columns (Then t ts) = can_match columns t || can_match_any columns ts

abbrev pub can_pass : List SealedColumn → Option Tree → Bool
can_pass columns None = true
can_pass columns (Some t) = can_match columns t

-- a segment of format 2 that has no rows, or whose values rule the filter out
abbrev pub skips_of : Option Tree → SealedSegment → Bool
skips_of filter sealed = nat_eq sealed.format 2 && (nat_eq sealed.rows 0 || not (can_pass sealed.columns filter))
