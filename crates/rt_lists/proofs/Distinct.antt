-- Names that come once.
use Rattle.std.proofs.Common.{◌≡◌, ℕ, List, [], ◌∷◌, ◌++◌, Bool, true, false, not, ◌||◌, bytes_eq, true≢false, refl, sym, ap, subst, ◌∙◌}
use Rattle.std.proofs.lemmas.Bool.{and_parts, and_from, and_left, and_right, or_parts, or_left, or_right, not-true, not_from_true, not_from_false, false_from_ne_true, false≢true}
use Rattle.std.proofs.lemmas.Slice.Eq.{bytes_eq-Decides}
use Rattle.rt_lists.specs.Names.{is_among, are_distinct}

or_false : (b : Bool) → (b || false) ≡ (false || b)
or_false true = refl
or_false false = refl

or_comm : (a b : Bool) → (a || b) ≡ (b || a)
or_comm true true = refl
or_comm true false = refl
or_comm false true = refl
or_comm false false = refl

or_assoc : (a b c : Bool) → (a || (b || c)) ≡ ((a || b) || c)
or_assoc true b c = refl
or_assoc false b c = refl

or_twice : (b c : Bool) → (b || c) ≡ (b || (b || c))
or_twice true c = refl
or_twice false c = refl

or_swap : (a b c : Bool) → (a || (b || c)) ≡ (b || (a || c))
or_swap true true c = refl
or_swap true false c = refl
or_swap false b c = refl

bytes_eq_same : (xs : List ℕ) → bytes_eq xs xs ≡ true
bytes_eq_same xs = (bytes_eq-Decides xs xs).1 refl

bytes_eq_other : (xs ys : List ℕ) → bytes_eq xs ys ≡ false → bytes_eq ys xs ≡ false
bytes_eq_other xs ys e = false_from_ne_true _ (λ t. true≢false (sym ((bytes_eq-Decides xs ys).1 (sym ((bytes_eq-Decides ys xs).0 t))) ∙ e))

-- one name more
pub is_among_push : (q : List ℕ) (xs : List (List ℕ)) (x : List ℕ) → is_among q (xs ++ x ∷ []) ≡ (is_among q xs || bytes_eq q x)
is_among_push q [] x = or_false (bytes_eq q x)
is_among_push q (y ∷ ys) x = ap (λ b. bytes_eq q y || b) (is_among_push q ys x) ∙ or_assoc (bytes_eq q y) (is_among q ys) (bytes_eq q x)

is_among_here : (x : List ℕ) (xs rest : List (List ℕ)) → is_among x (xs ++ x ∷ rest) ≡ true
is_among_here x [] rest = or_left _ _ (bytes_eq_same x)
is_among_here x (y ∷ ys) rest = or_right _ _ (is_among_here x ys rest)

-- a name that isn't among distinct ones
pub are_distinct_push : (xs : List (List ℕ)) (x : List ℕ) → are_distinct xs ≡ true → is_among x xs ≡ false → are_distinct (xs ++ x ∷ []) ≡ true
are_distinct_push [] x distinct apart = refl
are_distinct_push (y ∷ ys) x distinct apart =
    let here = and_parts (not (is_among y ys)) (are_distinct ys) distinct in
    let parts = or_parts (bytes_eq x y) (is_among x ys) apart in
    let other : is_among y (ys ++ x ∷ []) ≡ false = is_among_push y ys x ∙ ap (λ b. b || bytes_eq y x) (not-true _ here.0) ∙ bytes_eq_other x y parts.0 in
    and_from _ _ (not_from_false _ other) (are_distinct_push ys x here.1 parts.1)

not_distinct_at : (b : Bool) (x y : List ℕ) (ys rest : List (List ℕ)) → bytes_eq x y ≡ b → (b || is_among x ys) ≡ true → (is_among x ys ≡ true → are_distinct (ys ++ x ∷ rest) ≡ false)
    → are_distinct (y ∷ (ys ++ x ∷ rest)) ≡ false
not_distinct_at true x y ys rest is here later =
    let same : x ≡ y = (bytes_eq-Decides x y).0 is in
    and_left _ _ (not_from_true _ (subst (λ (z : List ℕ). is_among z (ys ++ x ∷ rest) ≡ true) same (is_among_here x ys rest)))
not_distinct_at false x y ys rest is here later = and_right _ _ (later here)

-- a name that comes again
pub not_distinct : (xs : List (List ℕ)) (x : List ℕ) (rest : List (List ℕ)) → is_among x xs ≡ true → are_distinct (xs ++ x ∷ rest) ≡ false
not_distinct [] x rest here = absurd (false≢true here)
not_distinct (y ∷ ys) x rest here = not_distinct_at (bytes_eq x y) x y ys rest refl here (not_distinct ys x rest)
