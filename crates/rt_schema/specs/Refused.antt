-- The numbers by which refusals of schema and table texts are reported.
use Rattle.std.specs.Prelude.{ℕ, Option, Some, None}
use Rattle.rt_schema.specs.declared.schema_refused.SchemaRefused.{SchemaRefused}
use Rattle.rt_schema.specs.declared.schema_refused.SchemaRefused.TheVariants.{NotJson, MissingField, UnknownType, DuplicateColumn, Limit, Memory}

abbrev pub number_of : SchemaRefused → Option ℕ
number_of NotJson = Some 1
number_of MissingField = Some 2
number_of UnknownType = Some 3
number_of DuplicateColumn = Some 4
number_of Limit = Some 5
number_of Memory = None
