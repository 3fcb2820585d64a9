-- A function mapped over a list item by item, and tests of lists.
use Rattle.std.proofs.Common.{◌≡◌, ℕ, suc, ◌+◌, ◌<◌, List, [], ◌∷◌, ◌++◌, length, get_or, drop, Option, Some, None, option_map, option_and_then, refl, sym, ap, ◌∙◌, append_assoc, add-one, drop-cons}
use Rattle.rt_schema.specs.Json.{map_all}

module _ {A : Type 0} where
  -- an item at its place, and those after it
  pub drop_next : (xs : List A) (i : ℕ) (x : A) → i < length xs → x ≡ get_or xs i x → drop i xs ≡ x ∷ drop (i + 1) xs
  drop_next xs i x within is = rw add-one (drop-cons xs i x within ∙ ap (λ y. y ∷ drop (suc i) xs) (sym is))

module _ {B : Type 0} where
  behind : (y : B) (ys : List B) (rest : Option (List B)) → option_map (λ later. ys ++ later) (option_map (λ zs. y ∷ zs) rest) ≡ option_map (λ later. (ys ++ y ∷ []) ++ later) rest
  behind y ys None = refl
  behind y ys (Some zs) = ap Some (sym (append_assoc ys (y ∷ []) zs))

module _ {A B : Type 0} where
  -- what an item and the later ones give
  abbrev next_of : (A → Option B) → List A → Option B → Option (List B)
  next_of f later o = option_and_then (λ y. option_map (λ ys. y ∷ ys) (map_all f later)) o

  map_all_next : (f : A → Option B) (xs : List A) (i : ℕ) (x : A) (o : Option B) → i < length xs → x ≡ get_or xs i x → o ≡ f x → map_all f (drop i xs) ≡ next_of f (drop (i + 1) xs) o
  map_all_next f xs i x o within is gives = ap (map_all f) (drop_next xs i x within is) ∙ ap (next_of f (drop (i + 1) xs)) (sym gives)

  -- one item more is done
  pub map_all_more : (f : A → Option B) (xs : List A) (i : ℕ) (x : A) (y : B) (ys : List B) (before : Option (List B)) → i < length xs → x ≡ get_or xs i x → Some y ≡ f x
      → before ≡ option_map (λ later. ys ++ later) (map_all f (drop i xs)) → before ≡ option_map (λ later. (ys ++ y ∷ []) ++ later) (map_all f (drop (i + 1) xs))
  map_all_more f xs i x y ys before within is gives was =
      was ∙ ap (option_map (λ later. ys ++ later)) (map_all_next f xs i x (Some y) within is gives) ∙ behind y ys (map_all f (drop (i + 1) xs))

  -- an item gives nothing, so nothing is given
  pub map_all_none : (f : A → Option B) (xs : List A) (i : ℕ) (x : A) (ys : List B) (before : Option (List B)) → i < length xs → x ≡ get_or xs i x → None ≡ f x
      → before ≡ option_map (λ later. ys ++ later) (map_all f (drop i xs)) → None ≡ before
  map_all_none f xs i x ys before within is gives was = sym (was ∙ ap (option_map (λ later. ys ++ later)) (map_all_next f xs i x None within is gives))
