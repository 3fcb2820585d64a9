-- Which columns a schema has.
use Rattle.std.specs.Prelude.{◌≡◌, ℕ, ◌≤◌, ◌&&◌, List, [], ◌∷◌, Bool, true, false, map, length, nat_le}
use Rattle.rt_base.specs.declared.limits.TheConstants.{LONGEST_NAME, MOST_COLUMNS}
pub use Rattle.rt_lists.specs.Names.{is_among, are_distinct}
use Rattle.rt_schema.specs.declared.column.Column.{Column}
use Rattle.rt_schema.specs.declared.column.Kind.{Kind}
use Rattle.rt_schema.specs.declared.column.Kind.TheVariants.{Int, Long, Text, Bool as Truth, Time}
use Rattle.rt_schema.specs.declared.column.Role.{Role}
use Rattle.rt_schema.specs.declared.column.Role.TheVariants.{Dimension, Metric, Moment}
use Rattle.rt_schema.specs.declared.schema.Schema.{Schema}

abbrev pub names_of : List Column → List (List ℕ)
names_of columns = map (λ column. column.name) columns

-- the kinds that a role has
abbrev pub is_taken : Kind → Role → Bool
is_taken Int role = true
is_taken Long role = true
is_taken Text Dimension = true
is_taken Text Metric = false
is_taken Text Moment = true
is_taken Truth Dimension = true
is_taken Truth Metric = false
is_taken Truth Moment = false
is_taken Time Dimension = true
is_taken Time Metric = false
is_taken Time Moment = true

abbrev pub are_taken : List Column → Bool
are_taken [] = true
are_taken (column ∷ columns) = is_taken column.kind column.role && are_taken columns

-- a column name has at least one byte, and no more than a name has
abbrev pub are_named : List Column → Bool
are_named [] = true
are_named (column ∷ columns) = nat_le 1 (length column.name) && nat_le (length column.name) LONGEST_NAME && are_named columns

-- a schema as `read_schema` gives it
pub record IsSchema (schema : Schema) : Type 0 where
  pub few : (1 ≤ length schema.columns) × (length schema.columns ≤ MOST_COLUMNS)
  pub named : are_named schema.columns ≡ true
  pub distinct : are_distinct (names_of schema.columns) ≡ true
  pub taken : are_taken schema.columns ≡ true
