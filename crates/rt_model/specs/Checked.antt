-- Which predicates and queries fit a schema.
use Rattle.std.specs.Prelude.{◌≡◌, ◌≢◌, ◌≤◌, ◌⊎◌, ℕ, Bool, true, false, not, ◌&&◌, ◌||◌, List, [], ◌∷◌, Option, Some, None, slice_get, bytes_eq, if◌then◌else◌, All, Contains}
use Rattle.rt_schema.specs.declared.column.Column.{Column}
use Rattle.rt_schema.specs.declared.column.Kind.{Kind}
use Rattle.rt_schema.specs.declared.schema.Schema.{Schema}
use Rattle.rt_model.specs.declared.query.Query.{Query}
use Rattle.rt_model.specs.declared.query_parts.Aggregate.{Aggregate}
use Rattle.rt_model.specs.declared.query_parts.Aggregate.TheVariants.{Count, Sum, Min, Max}
use Rattle.rt_model.specs.declared.query_parts.ColumnAt.{ColumnAt}
use Rattle.rt_model.specs.declared.query_parts.Comparison.{Comparison}
use Rattle.rt_model.specs.declared.query_parts.Comparison.TheVariants.{Equal, NotEqual, Less, AtMost, Greater, AtLeast}
use Rattle.rt_model.specs.declared.query_parts.Item.{Item}
use Rattle.rt_model.specs.declared.query_parts.Item.TheVariants as item
use Rattle.rt_model.specs.declared.query_parts.Literal.{Literal}
use Rattle.rt_model.specs.declared.query_parts.Literal.TheVariants as literal
use Rattle.rt_model.specs.declared.query_parts.OrderKey.{OrderKey}
use Rattle.rt_model.specs.Tree.{Tree, Trees, Compare, Between, OneOf, NoneOf, Not, And, Or, End, Then}

-- why a predicate doesn't fit a schema
pub data Fault : Type 0 where
  NoColumn : Fault
  WrongType : Fault

abbrev pub kind_if : List ℕ → Option Column → Option Kind
kind_if name None = None
kind_if name (Some column) = if bytes_eq column.name name then Some column.kind else None

-- the kind of the schema's column of that name at that place
abbrev pub kind_at : Schema → ColumnAt → Option Kind
kind_at schema column = kind_if column.name (slice_get schema.columns column.place)

abbrev pub is_integer : Literal → Bool
is_integer (literal.Int l) = true
is_integer (literal.Text l) = false
is_integer (literal.Bool l) = false

abbrev pub is_text : Literal → Bool
is_text (literal.Int l) = false
is_text (literal.Text l) = true
is_text (literal.Bool l) = false

abbrev pub is_truth : Literal → Bool
is_truth (literal.Int l) = false
is_truth (literal.Text l) = false
is_truth (literal.Bool l) = true

-- an integer for INT, LONG and TIMESTAMP, a text for STRING, true or false for BOOLEAN
abbrev pub suits : Kind → Literal → Bool
suits Kind.Int l = is_integer l
suits Kind.Long l = is_integer l
suits Kind.Text l = is_text l
suits Kind.Bool l = is_truth l
suits Kind.Time l = is_integer l

abbrev pub all_suit : Kind → List Literal → Bool
all_suit kind [] = true
all_suit kind (l ∷ ls) = suits kind l && all_suit kind ls

abbrev pub has_order : Kind → Bool
has_order Kind.Int = true
has_order Kind.Long = true
has_order Kind.Text = true
has_order Kind.Bool = false
has_order Kind.Time = true

abbrev pub asks_order : Comparison → Bool
asks_order Equal = false
asks_order NotEqual = false
asks_order Less = true
asks_order AtMost = true
asks_order Greater = true
asks_order AtLeast = true

abbrev pub fault_if : Bool → Option Fault
fault_if true = None
fault_if false = Some WrongType

-- the fault of a test on a column, which may ask for an order
abbrev pub test_fault : Option Kind → Bool → List Literal → Option Fault
test_fault None ordered ls = Some NoColumn
test_fault (Some kind) ordered ls = fault_if ((has_order kind || not ordered) && all_suit kind ls)

abbrev pub first_fault : Option Fault → Option Fault → Option Fault
first_fault None f = f
first_fault (Some e) f = Some e

-- the leftmost fault of a predicate
abbrev mutual
  pub fault_of : Schema → Tree → Option Fault
  fault_of schema (Compare column comparison l) = test_fault (kind_at schema column) (asks_order comparison) (l ∷ [])
  fault_of schema (Between column low high) = test_fault (kind_at schema column) true (low ∷ (high ∷ []))
  fault_of schema (OneOf column ls) = test_fault (kind_at schema column) false ls
  fault_of schema (NoneOf column ls) = test_fault (kind_at schema column) false ls
  fault_of schema (Not t) = fault_of schema t
  fault_of schema (And ts) = list_fault schema ts
  fault_of schema (Or ts) = list_fault schema ts

  pub list_fault : Schema → Trees → Option Fault
  list_fault schema End = None
  list_fault schema (Then t ts) = first_fault (fault_of schema t) (list_fault schema ts)

abbrev pub IsChecked : Schema → Tree → Type 0
IsChecked schema t = fault_of schema t ≡ None

abbrev pub has_sum : Kind → Bool
has_sum Kind.Int = true
has_sum Kind.Long = true
has_sum Kind.Text = false
has_sum Kind.Bool = false
has_sum Kind.Time = false

abbrev pub has_extremes : Kind → Bool
has_extremes Kind.Int = true
has_extremes Kind.Long = true
has_extremes Kind.Text = false
has_extremes Kind.Bool = false
has_extremes Kind.Time = true

abbrev pub IfColumn : (Kind → Bool) → Option Kind → Type 0
IfColumn f None = ⊥
IfColumn f (Some kind) = f kind ≡ true

-- a column of the schema whose kind passes a test
abbrev pub IsColumn : Schema → (Kind → Bool) → ColumnAt → Type 0
IsColumn schema f column = IfColumn f (kind_at schema column)

abbrev pub any_kind : Kind → Bool
any_kind kind = true

-- SUM takes INT and LONG, MIN and MAX take TIMESTAMP as well
abbrev pub IsAggregate : Schema → Aggregate → Type 0
IsAggregate schema Count = Unit {0}
IsAggregate schema (Sum column) = IsColumn schema has_sum column
IsAggregate schema (Min column) = IsColumn schema has_extremes column
IsAggregate schema (Max column) = IsColumn schema has_extremes column

-- a column among the items stands in GROUP BY
abbrev pub IsItem : Schema → List ColumnAt → Item → Type 0
IsItem schema groups (item.Column column) = Contains groups column
IsItem schema groups (item.Aggregate a) = IsAggregate schema a

abbrev pub IsFilter : Schema → Option Tree → Type 0
IsFilter schema None = Unit {0}
IsFilter schema (Some t) = IsChecked schema t

abbrev pub IsGroupItem : List ColumnAt → Item → Type 0
IsGroupItem groups (item.Column column) = Contains groups column
IsGroupItem groups (item.Aggregate a) = ⊥

-- an order key stands among the items or is a column of GROUP BY
abbrev pub IsOrderKey : Query → OrderKey → Type 0
IsOrderKey query key = Contains query.items key.item ⊎ IsGroupItem query.groups key.item

abbrev pub is_aggregate : Item → Bool
is_aggregate (item.Column column) = false
is_aggregate (item.Aggregate a) = true

abbrev pub has_aggregate : List Item → Bool
has_aggregate [] = false
has_aggregate (i ∷ is) = is_aggregate i || has_aggregate is

-- no column comes twice
abbrev pub AreApart : List ColumnAt → Type 0
AreApart [] = Unit {0}
AreApart (c ∷ cs) = All (λ d. d.place ≢ c.place) cs × AreApart cs

-- a query that can be read from a text over the schema
pub record IsQuery (schema : Schema) (query : Query) : Type 0 where
  pub aggregate : has_aggregate query.items ≡ true
  pub items : All (IsItem schema query.groups) query.items
  pub filter : IsFilter schema query.filter
  pub groups : All (IsColumn schema any_kind) query.groups
  pub apart : AreApart query.groups
  pub order : All (IsOrderKey query) query.order
  pub limit : query.limit ≤ 1000000
