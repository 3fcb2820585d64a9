-- The fields in an array.
use Rattle.std.proofs.Common.{◌≡◌, List, [], ◌∷◌, ◌++◌, true, Option, Some, option_map, option_and_then, Vec, Global, refl, sym, ap, ◌∙◌}
use Rattle.serde_json.specs.Data.{Data}
use Rattle.serde_json.specs.View.{view, items_view}
use Rattle.serde_json.specs.declared.value.Value.{Value, Array}
use Rattle.serde_json.proofs.Views.{view-Array}
use Rattle.rt_schema.specs.Json.{map_all, items_of, is_given}
use Rattle.serde_json.specs.Find.{as_str, as_array}
use Rattle.rt_schema.specs.Field.{field_of, fields_after}
use Rattle.rt_schema.specs.TableText.{texts_at}
use Rattle.std.proofs.lemmas.Bool.{cond-true}
use Rattle.rt_schema.specs.declared.column.Role.{Role}
use Rattle.rt_schema.specs.declared.field.Field.{Field}

-- the items of a viewed list, under a function
pub map_all_items : {B : Type 0} (f : Data → Option B) (vs : List Value) → map_all (λ v. f (view v)) vs ≡ map_all f (items_of (items_view vs))
map_all_items f [] = refl
map_all_items f (v ∷ vs) = ap (λ rest. option_and_then (λ y. option_map (λ ys. y ∷ ys) rest) (f (view v))) (map_all_items f vs)

-- the fields of an array that was found
pub fields_after_array : (role : Role) (found : Option Data) (value : Value) (v : Vec Value Global) (items : List Value) (before : List Field)
    → Some (view value) ≡ found → value ≡ Array v → items ≡ v.items → option_map (λ later. before ++ later) (map_all (λ item. field_of role (view item)) items) ≡ fields_after role found before
fields_after_array role found value v items before is array same =
    ap (λ xs. option_map (λ later. before ++ later) (map_all (λ item. field_of role (view item)) xs)) same
    ∙ ap (option_map (λ later. before ++ later)) (map_all_items (field_of role) v.items)
    ∙ ap (λ d. fields_after role d before) (sym (ap Some (view-Array v)) ∙ sym (ap (λ x. Some (view x)) array) ∙ is)

-- the texts of an array that was found
pub texts_at_array : (found : Option Data) (vs items : List Value) → is_given found ≡ true → Some (items_view vs) ≡ option_and_then as_array found → items ≡ vs
    → map_all (λ item. as_str (view item)) items ≡ texts_at found
texts_at_array found vs items given is same =
    ap (map_all (λ item. as_str (view item))) same ∙ map_all_items as_str vs ∙ ap (option_and_then (λ ds. map_all as_str (items_of ds))) is ∙ sym (cond-true _ _ _ given)
