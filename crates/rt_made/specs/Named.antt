-- Columns whose names are texts.
use Rattle.std.specs.List.{AllByRecursion}
use Rattle.std.specs.Str.{IsUtf8}
use Rattle.rt_schema.specs.declared.column.Column.{Column}
use Rattle.rt_schema.specs.declared.schema.Schema.{Schema}

-- each name is UTF-8
abbrev pub HasTextNames : Schema → Type 0
HasTextNames schema = AllByRecursion (λ (column : Column). IsUtf8 column.name) schema.columns
