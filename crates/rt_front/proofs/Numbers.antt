-- Entries that carry a number, and beginnings of one list.
use Rattle.std.proofs.Common.{◌≡◌, ◌≢◌, ℕ, ◌+◌, ◌≤◌, max, ◌⊎◌, ◌==◌, ◌||◌, Bool, true, false, cond, true≢false, List, [], ◌∷◌, ◌++◌, length, map, get_or, drop, sym, refl, ap, ◌∙◌, inl, inr, ⊎_elim, arith, append-nil, eq-eqb, leb-true, leb-false, All}
use Rattle.std.proofs.lemmas.List.Elements.{filter-append, All-nil, All-cons}
use Rattle.std.proofs.lemmas.List.Folds.{list_any-append}
use Rattle.std.specs.List.{range_with_len}
use Rattle.std.proofs.lemmas.List.FromFn.{map-range_with_len_more}
use Rattle.atomic_table.specs.Seated.{TableId}
use Rattle.rt_front.specs.declared.entry.Entry.{Entry}
use Rattle.rt_front.specs.Histories.{Known, known, stands, ShareNone, first_of, mine}
use Rattle.rt_front.specs.Rules.{NoneOf, has_none, longer}

-- ---- tests

pub by_test : (P : Bool → Type 0) (b : Bool) → (b ≡ true → P true) → (b ≡ false → P false) → P b
by_test P true is is_not = is refl
by_test P false is is_not = is_not refl

pub either_way : (b : Bool) → (b ≡ true) ⊎ (b ≡ false)
either_way true = inl refl
either_way false = inr refl

pub or_left : (a b : Bool) → a ≡ true → (a || b) ≡ true
or_left a b e = ap (λ x. x || b) e

pub or_right : (a b : Bool) → b ≡ true → (a || b) ≡ true
or_right true b e = refl
or_right false b e = e

pub or_first : (a b : Bool) → b ≡ false → (a || b) ≡ true → a ≡ true
or_first true b e o = refl
or_first false b e o = absurd (true≢false (sym o ∙ e))

pub or_cases : (a b : Bool) → (a || b) ≡ true → (a ≡ true) ⊎ (b ≡ true)
or_cases true b o = inl refl
or_cases false b o = inr o

or_none : (a b : Bool) → a ≡ false → b ≡ false → (a || b) ≡ false
or_none a b e f = ap (λ x. x || b) e ∙ f

-- ---- numbers

pub stands_first : (numbers : List ℕ) → has_none numbers ≡ false → stands (first_of numbers) numbers ≡ true
stands_first [] e = absurd (true≢false e)
stands_first (n ∷ numbers) e = ap (λ b. b || stands n numbers) (eq-eqb n n refl)

pub stands_nowhere : (n : ℕ) (numbers : List ℕ) → has_none numbers ≡ true → stands n numbers ≡ false
stands_nowhere n [] e = refl
stands_nowhere n (m ∷ numbers) e = absurd (true≢false (sym e))

pub stands_append : (n : ℕ) (ns ms : List ℕ) → stands n (ns ++ ms) ≡ (stands n ns || stands n ms)
stands_append n ns ms = list_any-append (λ m. m == n) ns ms

-- what holds of each number that stands in a list holds of all of it
pub all_standing : (P : ℕ → Type 0) (numbers : List ℕ) → ((n : ℕ) → stands n numbers ≡ true → P n) → All P numbers
all_standing P [] each = All-nil P
all_standing P (m ∷ numbers) each =
    All-cons P m numbers (each m (or_left (m == m) (stands m numbers) (eq-eqb m m refl)))
    (all_standing P numbers (λ n e. each n (or_right (m == n) (stands n numbers) e)))

-- lists whose numbers are at two places share none
pub share_none : (home : ℕ → ℕ) (j k : ℕ) (ns ms : List ℕ) → j ≢ k → ((n : ℕ) → stands n ns ≡ true → home n ≡ j) → ((n : ℕ) → stands n ms ≡ true → home n ≡ k) → ShareNone ns ms
share_none home j k ns ms apart here there =
    all_standing (λ n. stands n ms ≡ false) ns
    (λ n e. ⊎_elim (λ (t : stands n ms ≡ true). absurd (apart (sym (here n e) ∙ there n t))) (λ t. t) (either_way (stands n ms)))

pub share_with_none : (ns : List ℕ) → ShareNone ns []
share_with_none ns = all_standing (λ n. false ≡ false) ns (λ n e. refl)

pub none_shares : (ms : List ℕ) → ShareNone [] ms
none_shares ms = All-nil (λ n. stands n ms ≡ false)

pub has_none_left : (ns ms : List ℕ) → has_none ns ≡ false → has_none (ns ++ ms) ≡ false
has_none_left [] ms e = absurd (true≢false e)
has_none_left (a ∷ ns) ms e = refl

pub first_left : (ns ms : List ℕ) → has_none ns ≡ false → first_of (ns ++ ms) ≡ first_of ns
first_left [] ms e = absurd (true≢false e)
first_left (a ∷ ns) ms e = refl

pub none_of_none : {T : Type 0} (xs : List (Entry T)) → NoneOf [] xs
none_of_none [] = tt
none_of_none (x ∷ xs) = (refl, none_of_none xs)

pub none_push : {T : Type 0} (numbers : List ℕ) (xs : List (Entry T)) (e : Entry T) → NoneOf numbers xs → stands e.front numbers ≡ false → NoneOf numbers (xs ++ e ∷ [])
none_push numbers [] e none not_e = (not_e, tt)
none_push numbers (x ∷ xs) e none not_e = (none.0, none_push numbers xs e none.1 not_e)

pub none_left : {T : Type 0} (numbers : List ℕ) (xs ys : List (Entry T)) → NoneOf numbers (xs ++ ys) → NoneOf numbers xs
none_left numbers [] ys none = tt
none_left numbers (x ∷ xs) ys none = (none.0, none_left numbers xs ys none.1)

pub none_right : {T : Type 0} (numbers : List ℕ) (xs ys : List (Entry T)) → NoneOf numbers (xs ++ ys) → NoneOf numbers ys
none_right numbers [] ys none = none
none_right numbers (x ∷ xs) ys none = none_right numbers xs ys none.1

pub none_of_both : {T : Type 0} (ns ms : List ℕ) (xs : List (Entry T)) → NoneOf ns xs → NoneOf ms xs → NoneOf (ns ++ ms) xs
none_of_both ns ms [] a b = tt
none_of_both ns ms (x ∷ xs) a b = (stands_append x.front ns ms ∙ or_none _ _ a.0 b.0, none_of_both ns ms xs a.1 b.1)

none_mine : {T : Type 0} (numbers : List ℕ) (xs : List (Entry T)) → NoneOf numbers xs → mine numbers xs ≡ []
none_mine numbers [] none = refl
none_mine numbers (x ∷ xs) none = ap (λ b. cond b (x ∷ mine numbers xs) (mine numbers xs)) none.0 ∙ none_mine numbers xs none.1

-- what carries a number stands in the beginning behind which none does
pub mine_seen : {T : Type 0} (numbers : List ℕ) (log seen rest : List (Entry T)) → log ≡ seen ++ rest → NoneOf numbers rest → mine numbers log ≡ mine numbers seen
mine_seen numbers log seen rest e none =
    ap (mine numbers) e
    ∙ filter-append (λ x. stands x.front numbers) seen rest
    ∙ ap (λ l. mine numbers seen ++ l) (none_mine numbers rest none)
    ∙ append-nil (mine numbers seen)

-- ---- two beginnings of one list

abbrev IsBetween : {X : Type 0} → List X → List X → List X → List X → Type 0
IsBetween {X} a b ra rb = (m : List X) × (b ≡ a ++ m) × (ra ≡ m ++ rb)

between_more : {X : Type 0} (x y : X) (a b ra rb : List X) → x ≡ y → IsBetween a b ra rb → IsBetween (x ∷ a) (y ∷ b) ra rb
between_more x y a b ra rb e i = (i.0, (ap (λ z. z ∷ b) (sym e) ∙ ap (λ l. x ∷ l) i.1), i.2)

pub between : {X : Type 0} (a b ra rb : List X) → a ++ ra ≡ b ++ rb → length a ≤ length b → IsBetween a b ra rb
between [] b ra rb e h = (b, refl, e)
between (x ∷ a) [] ra rb e h = absurd (omega arith)
between (x ∷ a) (y ∷ b) ra rb e h =
    between_more x y a b ra rb (ap (λ l. get_or l 0 x) e) (between a b ra rb (ap (λ l. drop 1 l) e) (omega arith))

pub by_longer : {T : Type 0} (P : List (Entry T) → Type 0) (a b : List (Entry T)) → (length a ≤ length b → P b) → (length b ≤ length a → P a) → P (longer a b)
by_longer P a b p q =
    by_test (λ t. P (cond t b a)) _ (λ t. p (leb-true (length a) (length b) t))
    (λ t. q (let more = leb-false (length a) (length b) t in omega (arith, more)))

pub length_longer : {T : Type 0} (a b : List (Entry T)) → max (length a) (length b) ≡ length (longer a b)
length_longer a b = by_longer (λ l. max (length a) (length b) ≡ length l) a b (λ h. omega (arith, h)) (λ h. omega (arith, h))

abbrev new_fronts : {T : Type 0} → TableId → ℕ → List (Known T)
new_fronts name n = map (λ k. known name [] (k ∷ [])) (range_with_len 0 n)

-- a front more of an empty history
pub fronts_more : {T : Type 0} (name : TableId) (n : ℕ) (before after : List (Known T)) (x : Known T) → x ≡ known name [] (n ∷ []) → after ≡ before ++ x ∷ [] → before ≡ new_fronts name n → after ≡ new_fronts name (n + 1)
fronts_more name n before after x is pushed so_far =
    pushed
    ∙ ap (λ l. l ++ x ∷ []) so_far
    ∙ ap (λ y. new_fronts name n ++ y ∷ []) is
    ∙ sym (map-range_with_len_more (λ k. known name [] (k ∷ [])) 0 n n (omega arith))
