-- Sets of rows by the rows of ids.
use Rattle.std.proofs.Common.{◌≡◌, ℕ, zero, suc, ◌+◌, ◌<◌, ◌≤◌, Bool, true, false, List, [], ◌∷◌, cond, length, map, replicate, get_or, set, filter, refl, ap, sym, ◌∙◌, inl, inr, arith}
use Rattle.std.specs.Prelude.{◌||◌, ◌&&◌, ◌==◌, nat_lt}
use Rattle.std.specs.List.{range_with_len}
use Rattle.std.proofs.Math.ListN.{get_or-map}
use Rattle.std.proofs.lemmas.Bool.{cases_eq, cases_order, cases_lt, lt-ltb, le-ltb, eq-eqb, ne_eqb, or_right, or_left}
use Rattle.std.proofs.lemmas.List.{length-map, length-set, get_or-set_same, get_or-set_other, get_or_default, get_or_past, same_lists}
use Rattle.rt_postings.specs.Postings.{rows_of}
use Rattle.rt_seek.specs.RowSets.{truth_at, with_rows, noted_id}
use Rattle.rt_seek.proofs.Sets.{map_agree, map_constant, or_false, or_assoc}

-- whether a row is among some
abbrev pub among : ℕ → List ℕ → Bool
among r [] = false
among r (x ∷ xs) = (x == r) || among r xs

pub length_with_rows : (s : List Bool) (rs : List ℕ) → length (with_rows s rs) ≡ length s
length_with_rows s [] = refl
length_with_rows s (x ∷ rs) = length_with_rows (set s x true) rs ∙ length-set s x true

set_bit : (s : List Bool) (x r : ℕ) → r < length s → get_or (set s x true) r false ≡ (get_or s r false || (x == r))
set_bit s x r h = elim (cases_eq r x) [
  | inl same ↦ ap (λ k. get_or (set s x true) k false) same ∙ get_or-set_same s x true false (omega (arith, same, h)) ∙ sym (or_right (get_or s r false) (x == r) (eq-eqb x r (sym same)))
  | inr apart ↦ get_or-set_other s x r true false apart ∙ sym (ap (λ b. get_or s r false || b) (ne_eqb x r (λ e. apart (sym e))) ∙ or_false (get_or s r false))
]

pub get_with_rows : (s : List Bool) (rs : List ℕ) (r : ℕ) → r < length s → get_or (with_rows s rs) r false ≡ (get_or s r false || among r rs)
get_with_rows s [] r h = sym (or_false (get_or s r false))
get_with_rows s (x ∷ rs) r h =
    get_with_rows (set s x true) rs r (omega (arith, h, length-set s x true))
    ∙ ap (λ b. b || among r rs) (set_bit s x r h)
    ∙ or_assoc (get_or s r false) (x == r) (among r rs)

pub kept_below : (b : Bool) (a : ℕ) (rest : List ℕ) (r : ℕ) → r < a → among r rest ≡ false → among r (cond b (a ∷ rest) rest) ≡ false
kept_below true a rest r h none = ap (λ b. b || among r rest) (ne_eqb a r (λ e. omega arith)) ∙ none
kept_below false a rest r h none = none

pub kept_first : (q : ℕ → Bool) (b : Bool) (a : ℕ) (rest : List ℕ) (r : ℕ) → q a ≡ b → a ≡ r → among r rest ≡ false → among r (cond b (a ∷ rest) rest) ≡ q r
kept_first q true a rest r e same none = or_left (a == r) (among r rest) (eq-eqb a r same) ∙ sym e ∙ ap q same
kept_first q false a rest r e same none = none ∙ sym e ∙ ap q same

pub kept_later : (q : ℕ → Bool) (b : Bool) (a : ℕ) (rest : List ℕ) (r : ℕ) → (a ≡ r → ⊥) → among r rest ≡ q r → among r (cond b (a ∷ rest) rest) ≡ q r
kept_later q true a rest r apart is = ap (λ b. b || among r rest) (ne_eqb a r apart) ∙ is
kept_later q false a rest r apart is = is

-- no row below a range is in what is kept of it
below_range : (q : ℕ → Bool) (a n r : ℕ) → r < a → among r (filter q (range_with_len a n)) ≡ false
below_range q a zero r h = refl
below_range q a (suc n) r h = kept_below (q a) a (filter q (range_with_len (a + 1) n)) r h (below_range q (a + 1) n r (omega arith))

-- and one of the range is there where it is kept
pub in_range : (q : ℕ → Bool) (a n r : ℕ) → a ≤ r → r < a + n → among r (filter q (range_with_len a n)) ≡ q r
in_range q a zero r low high = absurd (omega arith)
in_range q a (suc n) r low high = elim (cases_eq a r) [
  | inl same ↦ kept_first q (q a) a (filter q (range_with_len (a + 1) n)) r refl same (below_range q (a + 1) n r (omega arith))
  | inr apart ↦ kept_later q (q a) a (filter q (range_with_len (a + 1) n)) r apart (in_range q (a + 1) n r (omega arith) (omega arith))
]

-- ids that pass and come before one, and that one
step_true : (t : ℕ → Bool) (k id : ℕ) → t k ≡ true → ((nat_lt id k && t id) || (id == k)) ≡ (nat_lt id (k + 1) && t id)
step_true t k id holds = elim (cases_order id k) [
  | inl same ↦ or_right (nat_lt id k && t id) (id == k) (eq-eqb id k same) ∙ sym (ap (λ b. b && t id) (lt-ltb id (k + 1) (omega arith)) ∙ ap t same ∙ holds)
  | inr apart ↦ elim apart [
    | inl less ↦ ap (λ b. (b && t id) || (id == k)) (lt-ltb id k less) ∙ ap (λ b. t id || b) (ne_eqb id k (λ e. omega arith)) ∙ or_false (t id) ∙ sym (ap (λ b. b && t id) (lt-ltb id (k + 1) (omega arith)))
    | inr more ↦ ap (λ b. (b && t id) || (id == k)) (le-ltb id k (omega arith)) ∙ ne_eqb id k (λ e. omega arith) ∙ sym (ap (λ b. b && t id) (le-ltb id (k + 1) (omega arith)))
  ]
]

step_false : (t : ℕ → Bool) (k id : ℕ) → t k ≡ false → (nat_lt id k && t id) ≡ (nat_lt id (k + 1) && t id)
step_false t k id fails = elim (cases_order id k) [
  | inl same ↦ ap (λ b. b && t id) (le-ltb id k (omega arith)) ∙ sym (ap (λ b. b && t id) (lt-ltb id (k + 1) (omega arith)) ∙ ap t same ∙ fails)
  | inr apart ↦ elim apart [
    | inl less ↦ ap (λ b. b && t id) (lt-ltb id k less) ∙ sym (ap (λ b. b && t id) (lt-ltb id (k + 1) (omega arith)))
    | inr more ↦ ap (λ b. b && t id) (le-ltb id k (omega arith)) ∙ sym (ap (λ b. b && t id) (le-ltb id (k + 1) (omega arith)))
  ]
]

module _ (truths : List Bool) (ids : List ℕ) where
  abbrev pub passes_below : ℕ → ℕ → Bool
  passes_below k id = nat_lt id k && truth_at truths id

  pub posted_start : replicate (length ids) false ≡ map (passes_below 0) ids
  posted_start = sym (map_constant (passes_below 0) false ids (λ id. ap (λ b. b && truth_at truths id) (le-ltb id 0 (omega arith))))

  with_id : (k : ℕ) → truth_at truths k ≡ true → with_rows (map (passes_below k) ids) (rows_of ids k) ≡ map (passes_below (k + 1)) ids
  with_id k holds =
      let before = map (passes_below k) ids in
      let count : length before ≡ length ids = length-map ids (passes_below k) in
      same_lists _ _ (length_with_rows before (rows_of ids k) ∙ count ∙ sym (length-map ids (passes_below (k + 1)))) (λ r d h.
      let inside : r < length ids = omega (arith, h, length_with_rows before (rows_of ids k), count) in
      get_or_default (with_rows before (rows_of ids k)) r d false h
      ∙ get_with_rows before (rows_of ids k) r (omega (arith, inside, count))
      ∙ ap (λ b. b || among r (rows_of ids k)) (get_or_default before r false (passes_below k 0) (omega (arith, inside, count)) ∙ get_or-map (passes_below k) ids r 0)
      ∙ ap (λ b. passes_below k (get_or ids r 0) || b) (in_range (λ x. get_or ids x 0 == k) 0 (length ids) r (omega arith) (omega (arith, inside)))
      ∙ step_true (truth_at truths) k (get_or ids r 0) holds
      ∙ sym (get_or_default (map (passes_below (k + 1)) ids) r d (passes_below (k + 1) 0) (omega (arith, inside, length-map ids (passes_below (k + 1)))) ∙ get_or-map (passes_below (k + 1)) ids r 0))

  pub posted_more : (k : ℕ) (b : Bool) (before new : List Bool) → truth_at truths k ≡ b → before ≡ map (passes_below k) ids → new ≡ noted_id ids k before b → new ≡ map (passes_below (k + 1)) ids
  posted_more k true before new t e is = is ∙ ap (λ s. with_rows s (rows_of ids k)) e ∙ with_id k t
  posted_more k false before new t e is = is ∙ e ∙ map_agree (passes_below k) (passes_below (k + 1)) (λ id. step_false (truth_at truths) k id t) ids

  pub posted_end : (n : ℕ) → length truths ≤ n → map (passes_below n) ids ≡ map (truth_at truths) ids
  posted_end n past = map_agree (passes_below n) (truth_at truths) (λ id. elim (cases_lt id n) [
    | inl less ↦ ap (λ b. b && truth_at truths id) (lt-ltb id n less)
    | inr more ↦ ap (λ b. b && truth_at truths id) (le-ltb id n more) ∙ sym (get_or_past truths id false (omega arith))
  ]) ids
