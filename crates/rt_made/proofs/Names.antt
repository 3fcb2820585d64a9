-- The names of the columns of a schema that was read are UTF-8.
use Rattle.std.proofs.Common.{◌≡◌, ◌&&◌, ◌++◌, ℕ, List, [], ◌∷◌, length, Option, Some, None, Result, Ok, Err, option_map, option_and_then, IsUtf8, codes, subst}
use Rattle.std.specs.Prelude.{IfSome, nat_le}
use Rattle.std.specs.List.{AllByRecursion}
use Rattle.serde_json.specs.Data.{Data, null, boolean, number, string, array, object, Items, no_items, item}
use Rattle.serde_json.specs.Find.{as_str, get}
use Rattle.serde_json.specs.Read.{read}
use Rattle.rt_base.specs.declared.limits.TheConstants.{MOST_COLUMNS}
use Rattle.rt_schema.specs.Field.{all_fields, column_of, field_of, fields_after, fields_at}
use Rattle.rt_schema.specs.Json.{if_object, items_of, map_all, text_at}
use Rattle.rt_schema.specs.Schema.{are_distinct, are_named, names_of}
use Rattle.rt_schema.specs.SchemaText.{schema_from, schema_in, schema_of, schema_with, where_given}
use Rattle.rt_schema.specs.declared.column.Column.{Column}
use Rattle.rt_schema.specs.declared.column.Role.{Role}
use Rattle.rt_schema.specs.declared.column.Role.TheVariants.{Dimension, Metric, Moment}
use Rattle.rt_schema.specs.declared.schema.Schema.{Schema}
use Rattle.rt_schema.specs.declared.schema_refused.SchemaRefused.{SchemaRefused}
use Rattle.rt_schema.specs.declared.schema_refused.SchemaRefused.TheVariants.{NotJson, MissingField, UnknownType}
use Rattle.rt_made.proofs.Contents.{if_so}
use Rattle.rt_made.specs.Named.{HasTextNames}
use Rattle.rt_made.proofs.Jsons.{AreDatas, IsData, Whatever, any, get_data, map_some, read_texts, str_utf8, then_some}

-- what a function takes
abbrev pub domain : {A B : Type 0} → (A → B) → Type 0
domain {A} {B} f = A

-- a field, as a column is made of it
abbrev Field : Type 0
Field = domain column_of

abbrev IsNamed : Field → Type 0
IsNamed field = IsUtf8 field.name

abbrev AreNamed : List Field → Type 0
AreNamed = AllByRecursion IsNamed

abbrev IsColumnNamed : Column → Type 0
IsColumnNamed column = IsUtf8 column.name

all_of : {A B : Type 0} (P : A → Type 0) (Q : B → Type 0) (f : A → Option B) → ((x : A) → P x → IfSome (f x) Q) → (xs : List A) → AllByRecursion P xs
    → IfSome (map_all f xs) (AllByRecursion Q)
all_of P Q f g [] h = tt
all_of P Q f g (x ∷ xs) h =
    then_some Q (AllByRecursion Q) (λ y. option_map (λ ys. y ∷ ys) (map_all f xs)) (f x)
    (λ y is. map_some (AllByRecursion Q) (AllByRecursion Q) (λ ys. y ∷ ys) (map_all f xs) (λ ys are. (is, are)) (all_of P Q f g xs h.1)) (g x h.0)

all_append : {A : Type 0} (P : A → Type 0) (xs ys : List A) → AllByRecursion P xs → AllByRecursion P ys → AllByRecursion P (xs ++ ys)
all_append P [] ys h k = k
all_append P (x ∷ xs) ys h k = (h.0, all_append P xs ys h.1 k)

items_data : (ds : Items) → AreDatas ds → AllByRecursion IsData (items_of ds)
items_data no_items h = tt
items_data (item d ds) h = (h.0, items_data ds h.1)

text_utf8 : (key : List ℕ) (d : Data) → IsData d → IfSome (text_at key d) IsUtf8
text_utf8 key d h = then_some IsData IsUtf8 as_str (get key d) str_utf8 (get_data key d h)

field_named : (role : Role) (d : Data) → IsData d → IfSome (field_of role d) IsNamed
field_named role d h =
    then_some IsUtf8 IsNamed _ (text_at (codes "name") d)
    (λ name u. map_some Whatever IsNamed _ (text_at (codes "dataType") d) (λ type _. u)
    (any (text_at (codes "dataType") d))) (text_utf8 (codes "name") d h)

fields_named : (role : Role) (o : Option Data) → IfSome o IsData → IfSome (fields_at role o) AreNamed
fields_named role None h = tt
fields_named role (Some null) h = tt
fields_named role (Some (boolean b)) h = tt
fields_named role (Some (number n)) h = tt
fields_named role (Some (string s)) h = tt
fields_named role (Some (array ds)) h = all_of IsData IsNamed (field_of role) (field_named role) (items_of ds) (items_data ds h)
fields_named role (Some (object ms)) h = tt

after_named : (role : Role) (o : Option Data) (before : List Field) → IfSome o IsData → AreNamed before → IfSome (fields_after role o before) AreNamed
after_named role o before h k = map_some AreNamed AreNamed (λ fields. before ++ fields) (fields_at role o) (λ fields are. all_append IsNamed before fields k are) (fields_named role o h)

all_named : (d : Data) → IsData d → IfSome (all_fields d) AreNamed
all_named d h =
    let at : (key : List ℕ) → IfSome (get key d) IsData = λ key. get_data key d h in
    let first = after_named Dimension (get (codes "dimensionFieldSpecs") d) [] (at (codes "dimensionFieldSpecs")) tt in
    let second =
    then_some AreNamed AreNamed (fields_after Metric (get (codes "metricFieldSpecs") d)) (fields_after Dimension (get (codes "dimensionFieldSpecs") d) [])
    (λ before k. after_named Metric (get (codes "metricFieldSpecs") d) before (at (codes "metricFieldSpecs")) k) first in
    then_some AreNamed AreNamed (fields_after Moment (get (codes "dateTimeFieldSpecs") d))
    (option_and_then (fields_after Metric (get (codes "metricFieldSpecs") d)) (fields_after Dimension (get (codes "dimensionFieldSpecs") d) []))
    (λ before k. after_named Moment (get (codes "dateTimeFieldSpecs") d) before (at (codes "dateTimeFieldSpecs")) k) second

column_named : (field : Field) → IsNamed field → IfSome (column_of field) IsColumnNamed
column_named field h = map_some Whatever IsColumnNamed _ field.kind (λ kind _. h) (any field.kind)

-- a schema, where one was read
abbrev IsRead : Result Schema SchemaRefused → Type 0
IsRead (Ok schema) = AllByRecursion IsColumnNamed schema.columns
IsRead (Err e) = Unit {0}

given : {A : Type 0} (P : A → Type 0) (e : SchemaRefused) (o : Option A) (f : A → Result Schema SchemaRefused) → IfSome o P → ((x : A) → P x → IsRead (f x)) → IsRead (where_given e o f)
given P e None f h g = tt
given P e (Some x) f h g = g x h

with_named : (name : List ℕ) (columns : List Column) → AllByRecursion IsColumnNamed columns → IsRead (schema_with name columns)
with_named name columns h =
    if_so IsRead (are_distinct (names_of columns)) _ _ (λ _. if_so IsRead (nat_le (length columns) MOST_COLUMNS && are_named columns) _ _ (λ _. h) (λ _. tt)) (λ _. tt)

from_named : (name : List ℕ) (fields : List Field) → AreNamed fields → IsRead (schema_from name fields)
from_named name [] h = tt
from_named name (field ∷ fields) h =
    given (AllByRecursion IsColumnNamed) UnknownType (map_all column_of (field ∷ fields)) (schema_with name)
    (all_of IsNamed IsColumnNamed column_of column_named (field ∷ fields) h) (λ columns are. with_named name columns are)

in_named : (d : Data) → IsData d → IsRead (schema_in d)
in_named d h =
    given Whatever MissingField (text_at (codes "schemaName") d) _ (any (text_at (codes "schemaName") d))
    (λ name _. given AreNamed MissingField (all_fields d) (schema_from name) (all_named d h) (λ fields are. from_named name fields are))

object_data : (d : Data) → IsData d → IfSome (if_object d) IsData
object_data null h = tt
object_data (boolean b) h = tt
object_data (number n) h = tt
object_data (string s) h = tt
object_data (array ds) h = tt
object_data (object ms) h = h

read_named : (text : List ℕ) → IsUtf8 text → IsRead (schema_of text)
read_named text u =
    given IsData NotJson (option_and_then if_object (read text)) schema_in (then_some IsData IsData if_object (read text) object_data (read_texts text u)) in_named

pub schema_named : (text : List ℕ) (schema : Schema) → IsUtf8 text → schema_of text ≡ Ok schema → HasTextNames schema
schema_named text schema u e = subst IsRead e (read_named text u)
