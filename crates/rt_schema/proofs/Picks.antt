-- The names that are picked from a list of names.
use Rattle.std.proofs.Common.{◌≡◌, ℕ, zero, suc, ◌<◌, arith, List, [], ◌∷◌, length, get_or, Bool, true, false, not, cond, ◌&&◌, ◌||◌, bytes_eq, Option, Some, None, option_and_then, refl, sym, ap, ◌∙◌}
use Rattle.std.specs.Prelude.{IfSome, All, IsTrue}
use Rattle.std.specs.List.{filter}
use Rattle.std.proofs.lemmas.List.Elements.{All-filter}
use Rattle.std.proofs.lemmas.Bool.{and_parts, and_from, or_left, or_right, not-true, not_from_false}
use Rattle.std.proofs.lemmas.Slice.Eq.{bytes_eq-Decides}
use Rattle.rt_schema.specs.Schema.{is_among, are_distinct}
use Rattle.rt_schema.specs.TableText.{all_among, chosen_of}

and_no : (b : Bool) → false ≡ (b && false)
and_no true = refl
and_no false = refl

and_yes : (b : Bool) → (b && true) ≡ b
and_yes true = refl
and_yes false = refl

same_passes : (f : List ℕ → Bool) (x y : List ℕ) (b : Bool) → bytes_eq x y ≡ b → b ≡ true → f y ≡ f x
same_passes f x y b e t = ap f (sym ((bytes_eq-Decides x y).0 (e ∙ t)))

-- a name that passes, before the later ones
among_kept_at : (f : List ℕ → Bool) (x y : List ℕ) (ys : List (List ℕ)) (passes same : Bool) → f y ≡ passes → bytes_eq x y ≡ same
    → is_among x (filter f ys) ≡ (f x && is_among x ys) → is_among x (cond passes (y ∷ filter f ys) (filter f ys)) ≡ (f x && (same || is_among x ys))
among_kept_at f x y ys true true e s later =
    ap (λ b. b || is_among x (filter f ys)) s ∙ sym (ap (λ b. b && true) (sym (same_passes f x y true s refl) ∙ e))
among_kept_at f x y ys true false e s later = ap (λ b. b || is_among x (filter f ys)) s ∙ later
among_kept_at f x y ys false true e s later =
    let fails : f x ≡ false = sym (same_passes f x y true s refl) ∙ e in
    later ∙ ap (λ b. b && is_among x ys) fails ∙ sym (ap (λ b. b && true) fails)
among_kept_at f x y ys false false e s later = later

-- which names are among those that pass
among_kept : (f : List ℕ → Bool) (x : List ℕ) (xs : List (List ℕ)) → is_among x (filter f xs) ≡ (f x && is_among x xs)
among_kept f x [] = and_no (f x)
among_kept f x (y ∷ ys) = among_kept_at f x y ys (f y) (bytes_eq x y) refl refl (among_kept f x ys)

-- two tests that agree on the names of a list
filter_same_at : (y : List ℕ) (ys zs : List (List ℕ)) (p q : Bool) → p ≡ q → ys ≡ zs → cond p (y ∷ ys) ys ≡ cond q (y ∷ zs) zs
filter_same_at y ys zs p q same later = ap (λ b. cond b (y ∷ ys) ys) same ∙ ap (λ xs. cond q (y ∷ xs) xs) later

filter_same : (p q : List ℕ → Bool) (xs : List (List ℕ)) → ((x : List ℕ) → is_among x xs ≡ true → p x ≡ q x) → filter p xs ≡ filter q xs
filter_same p q [] h = refl
filter_same p q (y ∷ ys) h =
    filter_same_at y (filter p ys) (filter q ys) (p y) (q y) (h y (or_left _ _ ((bytes_eq-Decides y y).1 refl)))
    (filter_same p q ys (λ x among. h x (or_right _ _ among)))

-- the names that pass are those among the names that pass
pub picked : (f : List ℕ → Bool) (names : List (List ℕ)) → filter f names ≡ filter (λ name. is_among name (filter f names)) names
picked f names = filter_same f (λ name. is_among name (filter f names)) names (λ x among. sym (among_kept f x names ∙ ap (λ b. f x && b) among ∙ and_yes (f x)))

among_at : (xs : List (List ℕ)) (i : ℕ) (d : List ℕ) → i < length xs → is_among (get_or xs i d) xs ≡ true
among_at [] i d within = let none : ⊥ = omega arith in absurd none
among_at (x ∷ xs) zero d within = or_left _ _ ((bytes_eq-Decides x x).1 refl)
among_at (x ∷ xs) (suc i) d within = or_right _ _ (among_at xs i d (omega arith))

-- what is known of the picked names: each is a name, and they stand as the names do
abbrev pub IsPick : List (List ℕ) → List (List ℕ) → Type 0
IsPick names chosen = All (λ name. IsTrue (is_among name names)) chosen × (chosen ≡ filter (λ name. is_among name chosen) names)

pick_kept : (f : List ℕ → Bool) (names : List (List ℕ)) → IsPick names (filter f names)
pick_kept f names = (All-filter f (λ name. IsTrue (is_among name names)) names (λ i d within. among_at names i d within), picked f names)

chosen_at : (names asked : List (List ℕ)) (b : Bool) → IfSome (cond b (Some (filter (λ name. is_among name asked) names)) None) (IsPick names)
chosen_at names asked true = pick_kept (λ name. is_among name asked) names
chosen_at names asked false = tt

pub indexed_picked : (names : List (List ℕ)) (o : Option (List (List ℕ))) → IfSome (option_and_then (chosen_of names) o) (IsPick names)
indexed_picked names None = tt
indexed_picked names (Some asked) = chosen_at names asked (all_among asked names)

once_at : (f : List ℕ → Bool) (y : List ℕ) (ys : List (List ℕ)) (passes : Bool) → is_among y ys ≡ false → are_distinct (filter f ys) ≡ true → are_distinct (cond passes (y ∷ filter f ys) (filter f ys)) ≡ true
once_at f y ys true apart later = and_from _ _ (not_from_false _ (among_kept f y ys ∙ ap (λ b. f y && b) apart ∙ sym (and_no (f y)))) later
once_at f y ys false apart later = later

-- of names that come once, the picked ones come once
once_kept : (f : List ℕ → Bool) (xs : List (List ℕ)) → are_distinct xs ≡ true → are_distinct (filter f xs) ≡ true
once_kept f [] distinct = refl
once_kept f (y ∷ ys) distinct =
    let parts = and_parts (not (is_among y ys)) (are_distinct ys) distinct in
    once_at f y ys (f y) (not-true _ parts.0) (once_kept f ys parts.1)
