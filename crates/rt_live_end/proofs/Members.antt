-- What lists have, where all of one is known or where one is chosen from another.
use Rattle.std.proofs.Common.{◌≡◌, ℕ, zero, suc, ◌<◌, Bool, true, false, cond, ◌⊎◌, inl, inr, List, [], ◌∷◌, length, Option, Some, None, refl, sym, ap, ◌∙◌, subst, arith, true≢false, slice_get, filter_map}
use Rattle.std.specs.Prelude.{All}
use Rattle.std.specs.List.{cons_option, filter, flat_map}
use Rattle.rt_lists.specs.Members.{Has}
use Rattle.rt_lists.proofs.Lists.{All-found}
use Rattle.rt_lists.proofs.Members.{Has-append_cases, Has-append_left, Has-append_right, Has-place}

pub all_has : {X : Type 0} (P : X → Type 0) (xs : List X) (x : X) → All P xs → Has xs x → P x
all_has P xs x all has = let at = Has-place xs x has in All-found P xs at.0 x all at.1

-- an item that was chosen comes of one
pub chosen : {X Y : Type 0} (f : X → Option Y) (xs : List X) (y : Y) → Has (filter_map f xs) y → (x : X) × Has xs x × (f x ≡ Some y)
chosen f [] y has = absurd has
chosen {X} {Y} f (x ∷ xs) y has = by_choice (f x) refl (λ k. chosen f xs y k) has
  where
    by_choice : (o : Option Y) → f x ≡ o → (Has (filter_map f xs) y → (z : X) × Has xs z × (f z ≡ Some y)) → Has (cons_option o (filter_map f xs)) y
        → (z : X) × Has (x ∷ xs) z × (f z ≡ Some y)
    by_choice None e further k = let r = further k in (r.0, inr r.1, r.2)
    by_choice (Some z) e further (inl same) = (x, inl refl, e ∙ ap (λ (w : Y). Some w) same)
    by_choice (Some z) e further (inr k) = let r = further k in (r.0, inr r.1, r.2)

-- and one that a choice takes is chosen
pub choice : {X Y : Type 0} (f : X → Option Y) (xs : List X) (x : X) (y : Y) → Has xs x → f x ≡ Some y → Has (filter_map f xs) y
choice f [] x y has is = absurd has
choice {X} {Y} f (z ∷ xs) x y has is = by_place has (λ k. choice f xs x y k is)
  where
    more : (o : Option Y) → Has (filter_map f xs) y → Has (cons_option o (filter_map f xs)) y
    more None k = k
    more (Some w) k = inr k

    by_place : (z ≡ x) ⊎ Has xs x → (Has xs x → Has (filter_map f xs) y) → Has (cons_option (f z) (filter_map f xs)) y
    by_place (inl same) further = subst (λ (o : Option Y). Has (cons_option o (filter_map f xs)) y) (sym (ap f same ∙ is)) (inl refl)
    by_place (inr k) further = more (f z) (further k)

-- ---- what passes two tests, of which one is the weaker

twice_at : {X : Type 0} (p q : X → Bool) (x : X) (xs : List X) (b c : Bool) → p x ≡ c → (c ≡ true → b ≡ true)
    → filter p (filter q xs) ≡ filter p xs → filter p (cond b (x ∷ filter q xs) (filter q xs)) ≡ cond c (x ∷ filter p xs) (filter p xs)
twice_at {X} p q x xs true c e weaker same =
    ap (λ t. cond t (x ∷ filter p (filter q xs)) (filter p (filter q xs))) e ∙ ap (λ (l : List X). cond c (x ∷ l) l) same
twice_at p q x xs false true e weaker same = absurd (true≢false (sym (weaker refl)))
twice_at p q x xs false false e weaker same = same

pub filter_twice : {X : Type 0} (p q : X → Bool) (xs : List X) → ((x : X) → p x ≡ true → q x ≡ true) → filter p (filter q xs) ≡ filter p xs
filter_twice p q [] weaker = refl
filter_twice p q (x ∷ xs) weaker = twice_at p q x xs (q x) (p x) refl (weaker x) (filter_twice p q xs weaker)

-- where all pass a test, it keeps all
pub filter_whole : {X : Type 0} (p : X → Bool) (xs : List X) → ((x : X) → Has xs x → p x ≡ true) → filter p xs ≡ xs
filter_whole p [] each = refl
filter_whole {X} p (x ∷ xs) each =
    ap (λ t. cond t (x ∷ filter p xs) (filter p xs)) (each x (inl refl)) ∙ ap (λ (l : List X). x ∷ l) (filter_whole p xs (λ y has. each y (inr has)))

-- a list has an item at each place below its length
pub some_at : {X : Type 0} (xs : List X) (k : ℕ) → k < length xs → (x : X) × (slice_get xs k ≡ Some x)
some_at [] k lt = absurd (omega (arith, lt))
some_at (x ∷ xs) zero lt = (x, refl)
some_at (x ∷ xs) (suc k) lt = some_at xs k (omega (arith, lt))

-- ---- what several lists have together

pub flat_has : {A X : Type 0} (f : A → List X) (items : List A) (a : A) (x : X) → Has items a → Has (f a) x → Has (flat_map f items) x
flat_has f [] a x has own = absurd has
flat_has {A} f (b ∷ items) a x (inl same) own =
    Has-append_left (f b) (flat_map f items) x (subst (λ (c : A). Has (f c) x) (sym same) own)
flat_has f (b ∷ items) a x (inr has) own = Has-append_right (f b) (flat_map f items) x (flat_has f items a x has own)

pub has_flat : {A X : Type 0} (f : A → List X) (items : List A) (x : X) → Has (flat_map f items) x → (a : A) × Has items a × Has (f a) x
has_flat f [] x has = absurd has
has_flat {A} f (b ∷ items) x has = by_place (Has-append_cases (f b) (flat_map f items) x has) (has_flat f items x)
  where
    by_place : Has (f b) x ⊎ Has (flat_map f items) x → (Has (flat_map f items) x → (a : A) × Has items a × Has (f a) x)
        → (a : A) × Has (b ∷ items) a × Has (f a) x
    by_place (inl here) further = (b, inl refl, here)
    by_place (inr there) further = let r = further there in (r.0, inr r.1, r.2)
