-- The schema that a text is, or the first refusal that applies.
use Rattle.std.specs.Prelude.{◌≡◌, ℕ, ◌&&◌, List, [], ◌∷◌, length, nat_le, codes, Option, Some, None, option_and_then, Result, Ok, Err, if◌then◌else◌}
use Rattle.serde_json.specs.Data.{Data}
use Rattle.serde_json.specs.Read.{read}
use Rattle.rt_base.specs.declared.limits.TheConstants.{MOST_COLUMNS}
use Rattle.rt_schema.specs.Json.{map_all, if_object, text_at}
use Rattle.rt_schema.specs.Schema.{names_of, are_distinct, are_named}
use Rattle.rt_schema.specs.Field.{all_fields, column_of}
use Rattle.rt_schema.specs.declared.column.Column.{Column}
use Rattle.rt_schema.specs.declared.field.Field.{Field}
use Rattle.rt_schema.specs.declared.schema.Schema.{Schema}
use Rattle.rt_schema.specs.declared.schema_refused.SchemaRefused.{SchemaRefused}
use Rattle.rt_schema.specs.declared.schema_refused.SchemaRefused.TheVariants.{NotJson, MissingField, UnknownType, DuplicateColumn, Limit, Memory}

-- the answer is this one, unless memory ran out
abbrev pub Answers : {T : Type 0} → Result T SchemaRefused → Result T SchemaRefused → Type 0
Answers wanted (Ok x) = Ok x ≡ wanted
Answers wanted (Err NotJson) = Err NotJson ≡ wanted
Answers wanted (Err MissingField) = Err MissingField ≡ wanted
Answers wanted (Err UnknownType) = Err UnknownType ≡ wanted
Answers wanted (Err DuplicateColumn) = Err DuplicateColumn ≡ wanted
Answers wanted (Err Limit) = Err Limit ≡ wanted
Answers wanted (Err Memory) = Unit {0}

-- what f gives at a value that is there, and else a refusal
abbrev pub where_given : {A B : Type 0} → SchemaRefused → Option A → (A → Result B SchemaRefused) → Result B SchemaRefused
where_given refused None f = Err refused
where_given refused (Some a) f = f a

-- columns of distinct names, within the limits
abbrev pub schema_with : List ℕ → List Column → Result Schema SchemaRefused
schema_with name columns =
    if are_distinct (names_of columns) then
    (if nat_le (length columns) MOST_COLUMNS && are_named columns then Ok (record { name = name; columns = columns }) else Err Limit)
    else Err DuplicateColumn

-- at least one field, and each of a type that is taken
abbrev pub schema_from : List ℕ → List Field → Result Schema SchemaRefused
schema_from name [] = Err MissingField
schema_from name (field ∷ fields) = where_given UnknownType (map_all column_of (field ∷ fields)) (schema_with name)

-- the schema of an object
abbrev pub schema_in : Data → Result Schema SchemaRefused
schema_in d = where_given MissingField (text_at (codes "schemaName") d) (λ name. where_given MissingField (all_fields d) (schema_from name))

-- the schema of a text
abbrev pub schema_of : List ℕ → Result Schema SchemaRefused
schema_of text = where_given NotJson (option_and_then if_object (read text)) schema_in
