-- The columns that a query names.
use Rattle.std.specs.Prelude.{ℕ, suc, List, [], ◌∷◌, if◌then◌else◌}
use Rattle.std.specs.Str.{bytes_eq}
use Rattle.rt_schema.specs.declared.column.Column.{Column}
use Rattle.rt_schema.specs.declared.schema.Schema.{Schema}
use Rattle.rt_model.specs.declared.query_parts.ColumnAt.{ColumnAt}

-- the place of the first column of a name; their number, where there is none
abbrev pub place_of : List ℕ → List Column → ℕ
place_of name [] = 0
place_of name (column ∷ columns) = if bytes_eq name column.name then 0 else suc (place_of name columns)

-- a name and its place in a schema
abbrev pub column_at : Schema → List ℕ → ColumnAt
column_at schema name = record { name = name; place = place_of name schema.columns }
