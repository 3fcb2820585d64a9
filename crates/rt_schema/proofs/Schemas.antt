-- What is read is a schema.
use Rattle.std.proofs.Common.{◌≡◌, ℕ, ◌≤◌, ◌&&◌, List, [], ◌∷◌, ◌++◌, length, leb, Bool, true, false, cond, Option, Some, None, option_map, option_and_then, Result, Ok, Err, IfOk, IfSome, codes, arith, refl, sym, subst}
use Rattle.std.proofs.lemmas.Bool.{leb-true, and_from}
use Rattle.serde_json.specs.Data.{Data, null, boolean, number, string, array, object}
use Rattle.serde_json.specs.Find.{get}
use Rattle.serde_json.specs.Read.{read}
use Rattle.rt_base.specs.declared.limits.TheConstants.{MOST_COLUMNS}
use Rattle.rt_schema.specs.Json.{map_all, items_of, if_object, text_at}
use Rattle.rt_schema.specs.Schema.{names_of, are_distinct, is_taken, are_taken, are_named, IsSchema}
use Rattle.rt_schema.specs.Field.{is_plain, kind_named, taken_by, kind_in, field_of, fields_at, fields_after, all_fields, column_of}
use Rattle.rt_schema.specs.SchemaText.{Answers, where_given, schema_with, schema_from, schema_in, schema_of}
use Rattle.rt_schema.specs.declared.column.Column.{Column}
use Rattle.rt_schema.specs.declared.column.Kind.{Kind}
use Rattle.rt_schema.specs.declared.column.Role.{Role}
use Rattle.rt_schema.specs.declared.column.Role.TheVariants.{Dimension, Metric, Moment}
use Rattle.rt_schema.specs.declared.field.Field.{Field}
use Rattle.rt_schema.specs.declared.schema.Schema.{Schema}
use Rattle.rt_schema.specs.declared.schema_refused.SchemaRefused.{SchemaRefused}
use Rattle.rt_schema.specs.declared.schema_refused.SchemaRefused.TheVariants.{NotJson, MissingField, UnknownType, DuplicateColumn, Limit}

-- P holds of each
abbrev Each : {A : Type 0} → (A → Type 0) → List A → Type 0
Each P [] = Unit {0}
Each P (x ∷ xs) = P x × Each P xs

each_append : {A : Type 0} (P : A → Type 0) (xs ys : List A) → Each P xs → Each P ys → Each P (xs ++ ys)
each_append P [] ys h k = k
each_append P (x ∷ xs) ys h k = (h.0, each_append P xs ys h.1 k)

each_more : {B : Type 0} (P : B → Type 0) (o : Option B) (rest : Option (List B)) → IfSome o P → IfSome rest (Each P) → IfSome (option_and_then (λ y. option_map (λ ys. y ∷ ys) rest) o) (Each P)
each_more P None rest h k = tt
each_more P (Some y) None h k = tt
each_more P (Some y) (Some ys) h k = (h, k)

map_all_each : {A B : Type 0} (f : A → Option B) (P : B → Type 0) → ((x : A) → IfSome (f x) P) → (xs : List A) → IfSome (map_all f xs) (Each P)
map_all_each f P h [] = tt
map_all_each f P h (x ∷ xs) = each_more P (f x) (map_all f xs) (h x) (map_all_each f P h xs)

-- a field's kind is one that its role has
abbrev IsTakenField : Field → Type 0
IsTakenField field = IfSome field.kind (λ kind. is_taken kind field.role ≡ true)

taken_at : (kind : Kind) (role : Role) (b : Bool) → is_taken kind role ≡ b → IfSome (cond b (Some kind) None) (λ k. is_taken k role ≡ true)
taken_at kind role true e = e
taken_at kind role false e = tt

taken_named : (role : Role) (o : Option Kind) → IfSome (option_and_then (taken_by role) o) (λ k. is_taken k role ≡ true)
taken_named role None = tt
taken_named role (Some kind) = taken_at kind role _ refl

taken_plain : (role : Role) (b : Bool) (o : Option Kind) → IfSome (cond b (option_and_then (taken_by role) o) None) (λ k. is_taken k role ≡ true)
taken_plain role true o = taken_named role o
taken_plain role false o = tt

field_at : (role : Role) (d : Data) (name type : Option (List ℕ)) → IfSome (option_and_then (λ n. option_map (λ t. record { name = n; kind = kind_in role d t; role = role }) type) name) IsTakenField
field_at role d None type = tt
field_at role d (Some n) None = tt
field_at role d (Some n) (Some t) = taken_plain role (is_plain d) (kind_named t)

field_taken : (role : Role) (d : Data) → IfSome (field_of role d) IsTakenField
field_taken role d = field_at role d (text_at (codes "name") d) (text_at (codes "dataType") d)

fields_taken : (role : Role) (found : Option Data) → IfSome (fields_at role found) (Each IsTakenField)
fields_taken role None = tt
fields_taken role (Some null) = tt
fields_taken role (Some (boolean b)) = tt
fields_taken role (Some (number n)) = tt
fields_taken role (Some (string s)) = tt
fields_taken role (Some (array ds)) = map_all_each (field_of role) IsTakenField (field_taken role) (items_of ds)
fields_taken role (Some (object ms)) = tt

after_taken : (before : List Field) (o : Option (List Field)) → Each IsTakenField before → IfSome o (Each IsTakenField) → IfSome (option_map (λ fields. before ++ fields) o) (Each IsTakenField)
after_taken before None h k = tt
after_taken before (Some fields) h k = each_append IsTakenField before fields h k

then_taken : (role : Role) (found : Option Data) (o : Option (List Field)) → IfSome o (Each IsTakenField) → IfSome (option_and_then (fields_after role found) o) (Each IsTakenField)
then_taken role found None h = tt
then_taken role found (Some before) h = after_taken before (fields_at role found) h (fields_taken role found)

all_taken : (d : Data) → IfSome (all_fields d) (Each IsTakenField)
all_taken d =
    then_taken Moment (get (codes "dateTimeFieldSpecs") d) _
    (then_taken Metric (get (codes "metricFieldSpecs") d) _ (after_taken [] (fields_at Dimension (get (codes "dimensionFieldSpecs") d)) tt (fields_taken Dimension (get (codes "dimensionFieldSpecs") d))))

column_taken : (field : Field) (o : Option Kind) (rest : Option (List Column)) → IfSome o (λ kind. is_taken kind field.role ≡ true) → IfSome rest (λ cs. are_taken cs ≡ true)
    → IfSome (option_and_then (λ c. option_map (λ cs. c ∷ cs) rest) (option_map (λ kind. record { name = field.name; kind = kind; role = field.role }) o)) (λ cs. (are_taken cs ≡ true) × (1 ≤ length cs))
column_taken field None rest h k = tt
column_taken field (Some kind) None h k = tt
column_taken field (Some kind) (Some cs) h k = (and_from _ _ h k, omega arith)

first_part : (o : Option (List Column)) → IfSome o (λ cs. (are_taken cs ≡ true) × (1 ≤ length cs)) → IfSome o (λ cs. are_taken cs ≡ true)
first_part None h = tt
first_part (Some cs) h = h.0

columns_taken : (fields : List Field) → Each IsTakenField fields → IfSome (map_all column_of fields) (λ cs. are_taken cs ≡ true)
columns_taken [] h = refl
columns_taken (field ∷ fields) h = first_part _ (column_taken field field.kind (map_all column_of fields) h.0 (columns_taken fields h.1))

schema_at : (name : List ℕ) (columns : List Column) (d l n : Bool) → are_distinct (names_of columns) ≡ d → leb (length columns) MOST_COLUMNS ≡ l → are_named columns ≡ n → (are_taken columns ≡ true) × (1 ≤ length columns)
    → IfOk (cond d (cond (l && n) (Ok (record { name = name; columns = columns })) (Err Limit)) (Err DuplicateColumn)) IsSchema
schema_at name columns true true true d l n h = record { few = (h.1, leb-true _ _ l); named = n; distinct = d; taken = h.0 }
schema_at name columns true true false d l n h = tt
schema_at name columns true false n' d l n h = tt
schema_at name columns false l' n' d l n h = tt

with_columns : (name : List ℕ) (o : Option (List Column)) → IfSome o (λ cs. (are_taken cs ≡ true) × (1 ≤ length cs)) → IfOk (where_given UnknownType o (schema_with name)) IsSchema
with_columns name None h = tt
with_columns name (Some columns) h = schema_at name columns _ _ _ refl refl refl h

from_fields : (name : List ℕ) (fields : List Field) → Each IsTakenField fields → IfOk (schema_from name fields) IsSchema
from_fields name [] h = tt
from_fields name (field ∷ fields) h = with_columns name _ (column_taken field field.kind (map_all column_of fields) h.0 (columns_taken fields h.1))

with_fields : (name : List ℕ) (o : Option (List Field)) → IfSome o (Each IsTakenField) → IfOk (where_given MissingField o (schema_from name)) IsSchema
with_fields name None h = tt
with_fields name (Some fields) h = from_fields name fields h

with_name : (d : Data) (o : Option (List ℕ)) → IfOk (where_given MissingField o (λ name. where_given MissingField (all_fields d) (schema_from name))) IsSchema
with_name d None = tt
with_name d (Some name) = with_fields name (all_fields d) (all_taken d)

with_object : (o : Option Data) → IfOk (where_given NotJson o schema_in) IsSchema
with_object None = tt
with_object (Some d) = with_name d (text_at (codes "schemaName") d)

-- what is answered has what the wanted answer has
pub answered_has : {T : Type 0} (P : T → Type 0) (wanted result : Result T SchemaRefused) → IfOk wanted P → Answers wanted result → IfOk result P
answered_has P wanted (Ok x) h a = subst (λ r. IfOk r P) (sym a) h
answered_has P wanted (Err e) h a = tt

pub answered_is_schema : (text : List ℕ) (result : Result Schema SchemaRefused) → Answers (schema_of text) result → IfOk result IsSchema
answered_is_schema text result a = answered_has IsSchema (schema_of text) result (with_object (option_and_then if_object (read text))) a
