-- What a schema text says of its fields.
use Rattle.std.specs.Prelude.{ℕ, ◌&&◌, ◌++◌, List, [], Bool, not, codes, Option, Some, None, option_map, option_and_then, if◌then◌else◌}
use Rattle.std.specs.Str.{bytes_eq}
use Rattle.serde_json.specs.Data.{Data, null, boolean, number, string, array, object}
use Rattle.serde_json.specs.Find.{get}
use Rattle.rt_schema.specs.Json.{map_all, items_of, text_at, is_given, is_false}
use Rattle.rt_schema.specs.Schema.{is_taken}
use Rattle.rt_schema.specs.declared.column.Column.{Column}
use Rattle.rt_schema.specs.declared.column.Kind.{Kind}
use Rattle.rt_schema.specs.declared.column.Kind.TheVariants.{Int, Long, Text, Bool as Truth, Time}
use Rattle.rt_schema.specs.declared.column.Role.{Role}
use Rattle.rt_schema.specs.declared.column.Role.TheVariants.{Dimension, Metric, Moment}
use Rattle.rt_schema.specs.declared.field.Field.{Field}

-- a field with a default value, a transformation or several values is of no taken type
abbrev pub is_plain : Data → Bool
is_plain d = not (is_given (get (codes "defaultNullValue") d)) && not (is_given (get (codes "transformFunction") d)) && not (is_false (get (codes "singleValueField") d))

-- the kind that a data type names
abbrev pub kind_named : List ℕ → Option Kind
kind_named name =
    if bytes_eq name (codes "INT") then Some Int
    else (if bytes_eq name (codes "LONG") then Some Long
    else (if bytes_eq name (codes "STRING") then Some Text
    else (if bytes_eq name (codes "BOOLEAN") then Some Truth
    else (if bytes_eq name (codes "TIMESTAMP") then Some Time else None))))

abbrev pub taken_by : Role → Kind → Option Kind
taken_by role kind = if is_taken kind role then Some kind else None

-- the kind of a field, where its type is taken
abbrev pub kind_in : Role → Data → List ℕ → Option Kind
kind_in role d type = if is_plain d then option_and_then (taken_by role) (kind_named type) else None

-- a field, where it has a name and a type
abbrev pub field_of : Role → Data → Option Field
field_of role d = option_and_then (λ name. option_map (λ type. record { name = name; kind = kind_in role d type; role = role }) (text_at (codes "dataType") d)) (text_at (codes "name") d)

-- the fields at a key that has an array of them, or is absent or null
abbrev pub fields_at : Role → Option Data → Option (List Field)
fields_at role None = Some []
fields_at role (Some null) = Some []
fields_at role (Some (boolean b)) = None
fields_at role (Some (number n)) = None
fields_at role (Some (string s)) = None
fields_at role (Some (array ds)) = map_all (field_of role) (items_of ds)
fields_at role (Some (object ms)) = None

-- those fields behind others
abbrev pub fields_after : Role → Option Data → List Field → Option (List Field)
fields_after role found before = option_map (λ fields. before ++ fields) (fields_at role found)

-- all fields of a schema text, in the order of the columns
abbrev pub all_fields : Data → Option (List Field)
all_fields d = option_and_then (fields_after Moment (get (codes "dateTimeFieldSpecs") d)) (option_and_then (fields_after Metric (get (codes "metricFieldSpecs") d)) (fields_after Dimension (get (codes "dimensionFieldSpecs") d) []))

-- the column of a field whose type is taken
abbrev pub column_of : Field → Option Column
column_of field = option_map (λ kind. record { name = field.name; kind = kind; role = field.role }) field.kind
