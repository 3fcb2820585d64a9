-- Facts on what a list has, and on lists that grow.
use Rattle.std.proofs.Common.{◌≡◌, ℕ, zero, suc, ◌+◌, ◌<◌, Bool, true, false, cond, ◌⊎◌, inl, inr, List, [], ◌∷◌, ◌++◌, length, Some, refl, sym, ◌∙◌, ap, subst, arith, append_assoc, slice_get}
use Rattle.std.specs.Prelude.{map}
use Rattle.std.specs.List.{filter}
use Rattle.std.proofs.lemmas.Bool.{both_ways}
use Rattle.std.proofs.lemmas.List.{append-nil}
use Rattle.std.proofs.lemmas.Option.{same_Some, none-some}
use Rattle.rt_lists.specs.Members.{Has, IsFront}

-- ---- two lists, one behind the other

pub Has-append_left : {X : Type 0} (xs ys : List X) (x : X) → Has xs x → Has (xs ++ ys) x
Has-append_left [] ys x h = absurd h
Has-append_left (z ∷ xs) ys x (inl e) = inl e
Has-append_left (z ∷ xs) ys x (inr h) = inr (Has-append_left xs ys x h)

pub Has-append_right : {X : Type 0} (xs ys : List X) (x : X) → Has ys x → Has (xs ++ ys) x
Has-append_right [] ys x h = h
Has-append_right (z ∷ xs) ys x h = inr (Has-append_right xs ys x h)

pub Has-append_cases : {X : Type 0} (xs ys : List X) (x : X) → Has (xs ++ ys) x → Has xs x ⊎ Has ys x
Has-append_cases [] ys x h = inr h
Has-append_cases (z ∷ xs) ys x (inl e) = inl (inl e)
Has-append_cases (z ∷ xs) ys x (inr h) = further z xs ys x (Has-append_cases xs ys x h)
  where
    further : {X : Type 0} (z : X) (xs ys : List X) (x : X) → Has xs x ⊎ Has ys x → Has (z ∷ xs) x ⊎ Has ys x
    further z xs ys x (inl h) = inl (inr h)
    further z xs ys x (inr h) = inr h

-- ---- one item more

pub Has-push : {X : Type 0} (xs : List X) (x : X) → Has (xs ++ x ∷ []) x
Has-push xs x = Has-append_right xs (x ∷ []) x (inl refl)

one : {X : Type 0} (P : Type 0) (x y : X) → P ⊎ Has (y ∷ []) x → P ⊎ (y ≡ x)
one P x y (inl p) = inl p
one P x y (inr (inl e)) = inr e
one P x y (inr (inr h)) = absurd h

pub Has-push_cases : {X : Type 0} (xs : List X) (y x : X) → Has (xs ++ y ∷ []) x → Has xs x ⊎ (y ≡ x)
Has-push_cases xs y x h = one (Has xs x) x y (Has-append_cases xs (y ∷ []) x h)

-- ---- places

-- an item stands at some place
pub Has-place : {X : Type 0} (xs : List X) (x : X) → Has xs x → (i : ℕ) × (slice_get xs i ≡ Some x)
Has-place [] x h = absurd h
Has-place (y ∷ xs) x (inl e) = (0, ap Some e)
Has-place (y ∷ xs) x (inr h) = let r = Has-place xs x h in (suc r.0, r.1)

pub place-Has : {X : Type 0} (xs : List X) (i : ℕ) (x : X) → slice_get xs i ≡ Some x → Has xs x
place-Has [] i x e = absurd (none-some x e)
place-Has (y ∷ xs) zero x e = inl (same_Some y x e)
place-Has (y ∷ xs) (suc i) x e = inr (place-Has xs i x e)

-- a list that has an item isn't empty
pub Has-length : {X : Type 0} (xs : List X) (x : X) → Has xs x → 0 < length xs
Has-length [] x h = absurd h
Has-length (y ∷ xs) x h = omega arith

pub Has-same : {X : Type 0} (xs ys : List X) (x : X) → xs ≡ ys → Has xs x → Has ys x
Has-same {X = X} xs ys x e h = let P : List X → Type 0 = λ zs. Has zs x in subst P e h

-- ---- images and choices

pub Has-map :
    {X Y : Type 0} (f : X → Y) (xs : List X) (y : Y) → Has (map f xs) y → (x : X) × Has xs x × (f x ≡ y)
Has-map f [] y h = absurd h
Has-map f (x ∷ xs) y (inl e) = (x, inl refl, e)
Has-map f (x ∷ xs) y (inr h) = let r = Has-map f xs y h in (r.0, inr r.1, r.2)

pub map-Has : {X Y : Type 0} (f : X → Y) (xs : List X) (x : X) → Has xs x → Has (map f xs) (f x)
map-Has f [] x h = absurd h
map-Has f (y ∷ xs) x (inl e) = inl (ap f e)
map-Has f (y ∷ xs) x (inr h) = inr (map-Has f xs x h)

filter_at :
    {X : Type 0} (f : X → Bool) (y : X) (xs : List X) (x : X) (b : Bool) → f y ≡ b
    → (Has (filter f xs) x → Has xs x × (f x ≡ true))
    → Has (cond b (y ∷ filter f xs) (filter f xs)) x → Has (y ∷ xs) x × (f x ≡ true)
filter_at f y xs x false t further h = let r = further h in (inr r.0, r.1)
filter_at f y xs x true t further (inl e) = (inl e, ap f (sym e) ∙ t)
filter_at f y xs x true t further (inr h) = let r = further h in (inr r.0, r.1)

at_filter :
    {X : Type 0} (f : X → Bool) (y : X) (xs : List X) (x : X) (b : Bool) → f y ≡ b → f x ≡ true
    → (Has xs x → Has (filter f xs) x) → Has (y ∷ xs) x → Has (cond b (y ∷ filter f xs) (filter f xs)) x
at_filter f y xs x true t passes further (inl e) = inl e
at_filter f y xs x true t passes further (inr h) = inr (further h)
at_filter f y xs x false t passes further (inl e) = absurd (both_ways (f y) t (ap f e ∙ passes))
at_filter f y xs x false t passes further (inr h) = further h

pub Has-filter :
    {X : Type 0} (f : X → Bool) (xs : List X) (x : X) → Has (filter f xs) x → Has xs x × (f x ≡ true)
Has-filter f [] x h = absurd h
Has-filter f (y ∷ xs) x h = filter_at f y xs x (f y) refl (Has-filter f xs x) h

pub filter-Has :
    {X : Type 0} (f : X → Bool) (xs : List X) (x : X) → Has xs x → f x ≡ true → Has (filter f xs) x
filter-Has f [] x h t = absurd h
filter-Has f (y ∷ xs) x h t = at_filter f y xs x (f y) refl t (λ g. filter-Has f xs x g t) h

-- ---- growth

pub front_same : {X : Type 0} (xs : List X) → IsFront xs xs
front_same xs = ([], sym (append-nil xs))

pub front_push : {X : Type 0} (xs : List X) (x : X) → IsFront xs (xs ++ x ∷ [])
front_push xs x = (x ∷ [], refl)

pub front_then : {X : Type 0} (xs ys zs : List X) → IsFront xs ys → IsFront ys zs → IsFront xs zs
front_then {X = X} xs ys zs f g =
    (f.0 ++ g.0, g.1 ∙ ap (λ (l : List X). l ++ g.0) f.1 ∙ append_assoc xs f.0 g.0)

-- what a list has, a later one has
pub Has-front : {X : Type 0} (xs ys : List X) (x : X) → IsFront xs ys → Has xs x → Has ys x
Has-front xs ys x f h = Has-same (xs ++ f.0) ys x (sym f.1) (Has-append_left xs f.0 x h)

-- and at the same place
pub slice_get-append : {X : Type 0} (xs ys : List X) (i : ℕ) (x : X) → slice_get xs i ≡ Some x → slice_get (xs ++ ys) i ≡ Some x
slice_get-append [] ys i x e = absurd (none-some x e)
slice_get-append (y ∷ xs) ys zero x e = e
slice_get-append (y ∷ xs) ys (suc i) x e = slice_get-append xs ys i x e

pub slice_get-push : {X : Type 0} (xs : List X) (x : X) → slice_get (xs ++ x ∷ []) (length xs) ≡ Some x
slice_get-push [] x = refl
slice_get-push (y ∷ xs) x = slice_get-push xs x
