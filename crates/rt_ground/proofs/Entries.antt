-- Histories with an entry more, whatever their entries are.
use Rattle.std.proofs.Common.{◌≡◌, ℕ, zero, suc, ◌+◌, ◌-◌, ◌<◌, ◌≤◌, ◌⊎◌, List, [], ◌∷◌, ◌++◌, length, take, slice_get, Option, Some, None, refl, sym, ap, ◌∙◌, inl, inr, ⊎_elim, subst, arith, length-append, take_all}
use lib.Seq.{take-append-le}
use Rattle.rt_lists.specs.Members.{IsFront}
use Rattle.rt_lists.proofs.Members.{slice_get-push}
use Rattle.rt_front.specs.declared.entry.Entry.{Entry}
use Rattle.rt_ground.specs.Histories.{whats, AreOfCallers}

pub whats_append : {T : Type 0} (xs ys : List (Entry T)) → whats (xs ++ ys) ≡ whats xs ++ whats ys
whats_append [] ys = refl
whats_append (x ∷ xs) ys = ap (λ l. x.what ∷ l) (whats_append xs ys)

pub whats_front : {T : Type 0} (seen log : List (Entry T)) → IsFront seen log → IsFront (whats seen) (whats log)
whats_front seen log f = (whats f.0, ap whats f.1 ∙ whats_append seen f.0)

-- a fact of two values, carried over to values that are the same
pub forth : {A B : Type 0} (P : A → B → Type 0) (a c : A) (b d : B) → a ≡ c → b ≡ d → P a b → P c d
forth P a c b d e f x = subst (λ z. P c z) f (subst (λ y. P y b) e x)

pub back : {A B : Type 0} (P : A → B → Type 0) (a c : A) (b d : B) → a ≡ c → b ≡ d → P c d → P a b
back P a c b d e f x = subst (λ y. P y b) (sym e) (subst (λ z. P c z) (sym f) x)

-- the callers of a register are those of its ground
pub callers_told : {T : Type 0} (made callers : ℕ) (log v : List (Entry T)) → made ≡ callers → log ≡ v → AreOfCallers made log → AreOfCallers callers v
callers_told {T} made callers log v is view below =
    let P : ℕ → List (Entry T) → Type 0 = λ m l. AreOfCallers m l in
    forth P made callers log v is view below

some_same : {X : Type 0} (x y : X) (o p : Option X) → o ≡ Some x → p ≡ Some y → o ≡ p → x ≡ y
some_same x y o p e f g = cc

none_some : {X : Type 0} (x : X) (o p : Option X) → o ≡ None → p ≡ Some x → o ≡ p → ⊥
none_some x o p e f g = cc

-- the last of a list with an item more
pub last_some : {X : Type 0} (h : List X) (w : X) → slice_get (h ++ w ∷ []) (length (h ++ w ∷ []) - 1) ≡ Some w
last_some h w =
    let place : length (h ++ w ∷ []) - 1 ≡ length h = (let n = length-append h (w ∷ []) in omega (arith, n)) in
    ap (slice_get (h ++ w ∷ [])) place ∙ slice_get-push h w

-- an item of a list with an item more: one from before, or the last
pub pushed_cases : {X : Type 0} (xs : List X) (y : X) (k : ℕ) (x : X) → slice_get (xs ++ y ∷ []) k ≡ Some x → ((slice_get xs k ≡ Some x) × (k < length xs)) ⊎ ((k ≡ length xs) × (y ≡ x))
pushed_cases [] y zero x e = inr (refl, some_same y x _ _ refl e refl)
pushed_cases [] y (suc k) x e = absurd (none_some x _ _ refl e refl)
pushed_cases (z ∷ xs) y zero x e = inl (e, omega arith)
pushed_cases (z ∷ xs) y (suc k) x e =
    ⊎_elim (λ h. inl (h.0, (let lt = h.1 in omega (arith, lt)))) (λ h. inr (ap suc h.0, h.1)) (pushed_cases xs y k x e)

pub front_length : {X : Type 0} (xs ys : List X) → IsFront xs ys → length xs ≤ length ys
front_length xs ys f = let n : length ys ≡ length xs + length f.0 = ap length f.1 ∙ length-append xs f.0 in omega (arith, n)

pub take_front : {X : Type 0} (xs ys : List X) → IsFront xs ys → take (length xs) ys ≡ xs
take_front xs ys f =
    ap (take (length xs)) f.1 ∙ take-append-le (length xs) xs f.0 (omega arith) ∙ take_all (length xs) xs (omega arith)

pub take_more : {X : Type 0} (k : ℕ) (xs : List X) (y : X) → k ≤ length xs → take k (xs ++ y ∷ []) ≡ take k xs
take_more k xs y le = take-append-le k xs (y ∷ []) le

pub take_whole : {X : Type 0} (xs : List X) → take (length xs) xs ≡ xs
take_whole xs = take_all (length xs) xs (omega arith)
