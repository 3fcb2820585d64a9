-- The items of a JSON array.
use Rattle.std.proofs.Common.{◌≡◌, Bool, true, false, cond, List, [], ◌∷◌, length, map, Option, Some, None, option_and_then, refl, ap, sym, ◌∙◌}
use Rattle.std.proofs.lemmas.List.{length-map}
use Rattle.serde_json.specs.Data.{Data, null, boolean, number, string, array, object}
use Rattle.serde_json.specs.Find.{as_array}
use Rattle.serde_json.specs.View.{view, items_view, items_of as made_of}
use Rattle.serde_json.specs.declared.value.Value.{Value}
use Rattle.rt_schema.specs.Json.{items_of}
use Rattle.rt_hybrid.specs.Batch.{are_few, array_in, if_few}

made_back : (ds : List Data) → items_of (made_of ds) ≡ ds
made_back [] = refl
made_back (d ∷ ds) = ap (λ rest. d ∷ rest) (made_back ds)

-- an array has these items
pub array_is : (d : Data) (vs : List Value) → Some (items_view vs) ≡ as_array d → array_in d ≡ Some (map view vs)
array_is null vs e = absurd (cc)
array_is (boolean b) vs e = absurd (cc)
array_is (number n) vs e = absurd (cc)
array_is (string s) vs e = absurd (cc)
array_is (array ds) vs e = let same : ds ≡ items_view vs = cc in ap (λ items. Some (items_of items)) same ∙ ap Some (made_back (map view vs))
array_is (object ms) vs e = absurd (cc)

-- what is no array has none
pub no_array : (d : Data) → None ≡ as_array d → array_in d ≡ None
no_array null e = refl
no_array (boolean b) e = refl
no_array (number n) e = refl
no_array (string s) e = refl
no_array (array ds) e = absurd (cc)
no_array (object ms) e = refl

by_count : (o : Option (List Data)) (vs ws : List Value) (b : Bool) → o ≡ Some (map view vs) → ws ≡ vs → are_few (length ws) ≡ b → option_and_then if_few o ≡ cond b (Some (map view ws)) None
by_count o vs ws b at same few =
    ap (option_and_then if_few) (at ∙ ap (λ (xs : List Value). Some (map view xs)) (sym same))
    ∙ ap (λ c. cond c (Some (map view ws)) None) (ap are_few (length-map ws view) ∙ few)

-- the items, where there are as many as a push takes
pub few_are : (o : Option (List Data)) (vs ws : List Value) → o ≡ Some (map view vs) → ws ≡ vs → are_few (length ws) ≡ true → Some (map view ws) ≡ option_and_then if_few o
few_are o vs ws at same few = sym (by_count o vs ws true at same few)

pub none_are : (o : Option (List Data)) (vs ws : List Value) → o ≡ Some (map view vs) → ws ≡ vs → are_few (length ws) ≡ false → None ≡ option_and_then if_few o
none_are o vs ws at same few = sym (by_count o vs ws false at same few)
