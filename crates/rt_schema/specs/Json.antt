-- Looking into JSON values.
use Rattle.std.specs.Prelude.{ℕ, List, [], ◌∷◌, Bool, true, false, not, Option, Some, None, option_map, option_and_then}
use Rattle.serde_json.specs.Data.{Data, null, boolean, number, string, array, object, Items, no_items, item}
use Rattle.serde_json.specs.Find.{get, as_str}

-- the values that f gives, where it gives one for each x
abbrev pub map_all : {A B : Type 0} → (A → Option B) → List A → Option (List B)
map_all f [] = Some []
map_all f (x ∷ xs) = option_and_then (λ y. option_map (λ ys. y ∷ ys) (map_all f xs)) (f x)

-- the items of an array
abbrev pub items_of : Items → List Data
items_of no_items = []
items_of (item d ds) = d ∷ items_of ds

-- a value that is an object
abbrev pub if_object : Data → Option Data
if_object null = None
if_object (boolean b) = None
if_object (number n) = None
if_object (string s) = None
if_object (array ds) = None
if_object (object ms) = Some (object ms)

-- the text at a key
abbrev pub text_at : List ℕ → Data → Option (List ℕ)
text_at key d = option_and_then as_str (get key d)

-- whether a value is there and isn't null
abbrev pub is_given : Option Data → Bool
is_given None = false
is_given (Some null) = false
is_given (Some (boolean b)) = true
is_given (Some (number n)) = true
is_given (Some (string s)) = true
is_given (Some (array ds)) = true
is_given (Some (object ms)) = true

abbrev pub is_false : Option Data → Bool
is_false None = false
is_false (Some null) = false
is_false (Some (boolean b)) = not b
is_false (Some (number n)) = false
is_false (Some (string s)) = false
is_false (Some (array ds)) = false
is_false (Some (object ms)) = false
