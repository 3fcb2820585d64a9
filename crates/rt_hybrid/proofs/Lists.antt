-- Facts on lists and options.
use Rattle.std.proofs.Common.{◌≡◌, Bool, true, false, cond, ◌&&◌, ◌||◌, List, [], ◌∷◌, map, filter, Option, Some, None, option_map, option_and_then, true≢false, refl, sym, ap, ◌∙◌, inl, inr}
use Rattle.std.specs.List.{list_any, list_all}
use Rattle.std.proofs.lemmas.Bool.{and_parts, or_parts}
use Rattle.rt_lists.specs.Members.{Has}
use Rattle.rt_schema.specs.Json.{map_all}

module _ {A B : Type 0} (f : A → Option B) (p : A → Bool) (g : A → B) (form : (a : A) → f a ≡ cond (p a) (Some (g a)) None) where
  map_step : (x : A) (xs : List A) (b c : Bool)
      → option_and_then (λ y. option_map (λ ys. y ∷ ys) (cond c (Some (map g xs)) None)) (cond b (Some (g x)) None) ≡ cond (b && c) (Some (g x ∷ map g xs)) None
  map_step x xs true true = refl
  map_step x xs true false = refl
  map_step x xs false c = refl

  -- what `map_all` gives, where each value is told by a test
  pub map_all_form : (xs : List A) → map_all f xs ≡ cond (list_all p xs) (Some (map g xs)) None
  map_all_form [] = refl
  map_all_form (x ∷ xs) =
      ap (λ rest. option_and_then (λ y. option_map (λ ys. y ∷ ys) rest) (f x)) (map_all_form xs)
      ∙ ap (λ first. option_and_then (λ y. option_map (λ ys. y ∷ ys) (cond (list_all p xs) (Some (map g xs)) None)) first) (form x)
      ∙ map_step x xs (p x) (list_all p xs)

and_same : (a b c d : Bool) → a ≡ c → b ≡ d → (a && b) ≡ (c && d)
and_same a b c d e f = ap (λ x. x && b) e ∙ ap (λ y. c && y) f

module _ {A : Type 0} where
  -- tests that agree on a list
  pub all_same : (p q : A → Bool) (xs : List A) → ((x : A) → Has xs x → p x ≡ q x) → list_all p xs ≡ list_all q xs
  all_same p q [] h = refl
  all_same p q (x ∷ xs) h = and_same (p x) (list_all p xs) (q x) (list_all q xs) (h x (inl refl)) (all_same p q xs (λ y at. h y (inr at)))

  kept_at : (p : A → Bool) (x : A) (rest kept : List A) (b : Bool) → (b ≡ false → p x ≡ true) → list_all p kept ≡ list_all p rest → list_all p (cond b (x ∷ kept) kept) ≡ (p x && list_all p rest)
  kept_at p x rest kept true h ih = ap (λ y. p x && y) ih
  kept_at p x rest kept false h ih = ih ∙ ap (λ y. y && list_all p rest) (sym (h refl))

  -- what a filter leaves out may pass
  pub kept_all : (p q : A → Bool) (xs : List A) → ((x : A) → q x ≡ false → p x ≡ true) → list_all p (filter q xs) ≡ list_all p xs
  kept_all p q [] h = refl
  kept_all p q (x ∷ xs) h = kept_at p x xs (filter q xs) (q x) (h x) (kept_all p q xs h)

  -- a test that all pass, at one that is there
  pub all_at : (p : A → Bool) (xs : List A) (x : A) → list_all p xs ≡ true → Has xs x → p x ≡ true
  all_at p [] x e h = absurd h
  all_at p (y ∷ xs) x e (inl same) = ap p (sym same) ∙ (and_parts (p y) (list_all p xs) e).0
  all_at p (y ∷ xs) x e (inr h) = all_at p xs x (and_parts (p y) (list_all p xs) e).1 h

  -- a test that none passes, at one that is there
  pub none_at : (p : A → Bool) (xs : List A) (x : A) → list_any p xs ≡ false → Has xs x → p x ≡ false
  none_at p [] x e h = absurd h
  none_at p (y ∷ xs) x e (inl same) = ap p (sym same) ∙ (or_parts (p y) (list_any p xs) e).0
  none_at p (y ∷ xs) x e (inr h) = none_at p xs x (or_parts (p y) (list_any p xs) e).1 h

  found_by : (p : A → Bool) (y : A) (xs : List A) (b : Bool) → p y ≡ b → (list_any p xs ≡ true → (x : A) × Has xs x × (p x ≡ true)) → (b || list_any p xs) ≡ true → (x : A) × Has (y ∷ xs) x × (p x ≡ true)
  found_by p y xs true is ih e = (y, inl refl, is)
  found_by p y xs false is ih e = let later = ih e in (later.0, inr later.1, later.2)

  -- one that passes is there
  pub any_at : (p : A → Bool) (xs : List A) → list_any p xs ≡ true → (x : A) × Has xs x × (p x ≡ true)
  any_at p [] e = absurd (true≢false (sym e))
  any_at p (y ∷ xs) e = found_by p y xs (p y) refl (any_at p xs) e
