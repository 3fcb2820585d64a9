-- Looking for the next bit, and turning bits round.
use Rattle.std.proofs.Common.{◌≡◌, ℕ, ◌+◌, ◌*◌, ◌-◌, ◌/◌, ◌%◌, ◌^◌, ◌<◌, ◌≤◌, Bool, false, not, Option, Some, None, List, length, get_or, set, arith, sym, ◌∙◌, ap, subst, ⊎_elim, bit_and, min}
use Rattle.std.proofs.lemmas.List.{get_or-set_same, get_or-set_other, get_or_past}
use Rattle.std.proofs.lemmas.Nat.{one_shl}
use Rattle.std.proofs.lemmas.Nat.Bits.{bit_at-zero, bit_at-lt, bit_at_and, ones_shl, bit_at_mask_inside, bit_at_mask_below, bit_at-trailing_zeros}
use Rattle.std.proofs.lemmas.Bool.{cases_eq, cases_lt}
use Rattle.std.specs.Prelude.{◌==◌, IfNone}
use Rattle.std.specs.Int.{bit_at, bit_not, w64, trailing_zeros}
use Rattle.rt_postings.specs.DocSet.{HasNoneFrom, IsNextFrom}
use Rattle.rt_postings.specs.Words.{marked, marks_of, NoneMarkedFrom, IsMarkedNext}
use Rattle.rt_postings.proofs.InPlace.{IsDone}
use Rattle.rt_postings.proofs.Marks.{has_is, marked_turned, marked_kept, marked_cleared}

-- ---- the next bit

-- the lowest bit of a word is the row that comes next, if the rows before it have none
pub found_here : (words : List ℕ) (start k : ℕ) → start ≤ 64 * k + 63 → (get_or words k 0 ≡ 0 → ⊥) → get_or words k 0 < 2 ^ 64 →
    ((r : ℕ) → start ≤ r → r < 64 * k → marked words r ≡ false) → start ≤ 64 * k → IsMarkedNext words start (k * 64 + trailing_zeros w64 (get_or words k 0))
found_here words start k near some fits before above =
    let word = get_or words k 0 in
    let positive : 0 < word = omega arith in
    let low = bit_at-trailing_zeros w64 word positive fits in
    let t = trailing_zeros w64 word in
    let inside : t < 64 = low.0 in
    let place : (k * 64 + t) / 64 ≡ k = omega arith in
    let bit : (k * 64 + t) % 64 ≡ t = omega arith in
    record {
      reached = omega arith;
      set = ap (λ i. bit_at (get_or words i 0) ((k * 64 + t) % 64) == 1) place ∙ ap (λ i. bit_at word i == 1) bit ∙ ap (λ b. b == 1) low.1;
      first = λ r from below. ⊎_elim
          (λ earlier. before r from earlier)
          (λ here. let same : r / 64 ≡ k = omega arith in
          ap (λ i. bit_at (get_or words i 0) (r % 64) == 1) same ∙ ap (λ b. b == 1) (low.2 (r % 64) (omega arith)))
          (cases_lt r (64 * k));
    }

-- a word without the bits below a place
pub front_cut : (w k i : ℕ) → k < 64 → k ≤ i → i < 64 → bit_at (bit_and w (18446744073709551615 * 2 ^ k % 2 ^ 64)) i ≡ bit_at w i
front_cut w k i few above below =
    ap (λ m. bit_at (bit_and w m) i) (ones_shl 64 k (omega arith))
    ∙ bit_at_and w (2 ^ 64 - 2 ^ k) i
    ∙ ap (λ b. min (bit_at w i) b) (bit_at_mask_inside k 64 i above below)
    ∙ omega (arith, bit_at-lt w i)

pub front_gone : (w k i : ℕ) → k < 64 → i < k → bit_at (bit_and w (18446744073709551615 * 2 ^ k % 2 ^ 64)) i ≡ 0
front_gone w k i few below =
    ap (λ m. bit_at (bit_and w m) i) (ones_shl 64 k (omega arith))
    ∙ bit_at_and w (2 ^ 64 - 2 ^ k) i
    ∙ ap (λ b. min (bit_at w i) b) (bit_at_mask_below k 64 i below)
    ∙ omega arith

-- the next row, where it is in the word of the row
pub found_first : (words : List ℕ) (row first : ℕ) → first ≡ bit_and (get_or words (row / 64) 0) (18446744073709551615 * 2 ^ (row % 64) % 2 ^ 64) →
    (first ≡ 0 → ⊥) → first < 2 ^ 64 → IsMarkedNext words row (row / 64 * 64 + trailing_zeros w64 first)
found_first words row first e some fits =
    let k = row / 64 in
    let word = get_or words k 0 in
    let positive : 0 < first = omega arith in
    let low = bit_at-trailing_zeros w64 first positive fits in
    let t = trailing_zeros w64 first in
    let inside : t < 64 = low.0 in
    let above : row % 64 ≤ t = ⊎_elim
    (λ below. absurd (let gone : bit_at first t ≡ 0 = ap (λ w. bit_at w t) e ∙ front_gone word (row % 64) t (omega arith) below in omega (arith, low.1)))
    (λ ok. ok)
    (cases_lt t (row % 64)) in
    let place : (k * 64 + t) / 64 ≡ k = omega arith in
    let bit : (k * 64 + t) % 64 ≡ t = omega arith in
    let same : bit_at first t ≡ bit_at word t = ap (λ w. bit_at w t) e ∙ front_cut word (row % 64) t (omega arith) above inside in
    record {
      reached = omega arith;
      set = ap (λ i. bit_at (get_or words i 0) ((k * 64 + t) % 64) == 1) place ∙ ap (λ i. bit_at word i == 1) bit ∙ ap (λ b. b == 1) (sym same ∙ low.1);
      first = λ r from below.
          let here : r / 64 ≡ k = omega arith in
          let cut : bit_at first (r % 64) ≡ bit_at word (r % 64) = ap (λ w. bit_at w (r % 64)) e ∙ front_cut word (row % 64) (r % 64) (omega arith) (omega arith) (omega arith) in
          ap (λ i. bit_at (get_or words i 0) (r % 64) == 1) here ∙ ap (λ b. b == 1) (sym cut ∙ low.2 (r % 64) (omega arith));
    }

-- the word of the row has no row from there on
pub none_first : (words : List ℕ) (row first r : ℕ) → first ≡ bit_and (get_or words (row / 64) 0) (18446744073709551615 * 2 ^ (row % 64) % 2 ^ 64) →
    first ≡ 0 → row ≤ r → r < 64 * (row / 64 + 1) → marked words r ≡ false
none_first words row first r e none from below =
    let here : r / 64 ≡ row / 64 = omega arith in
    ap (λ i. bit_at (get_or words i 0) (r % 64) == 1) here
    ∙ ap (λ b. b == 1) (sym (front_cut (get_or words (row / 64) 0) (row % 64) (r % 64) (omega arith) (omega arith) (omega arith))
    ∙ ap (λ w. bit_at w (r % 64)) (sym e ∙ none) ∙ bit_at-zero (r % 64))

-- the next row of the words behind that of the row
pub found_later : (words : List ℕ) (row first found : ℕ) → first ≡ bit_and (get_or words (row / 64) 0) (18446744073709551615 * 2 ^ (row % 64) % 2 ^ 64) →
    first ≡ 0 → IsMarkedNext words (64 * (row / 64 + 1)) found → IsMarkedNext words row found
found_later words row first found e none next = record {
  reached = omega (arith, next.reached);
  set = next.set;
  first = λ r from below. ⊎_elim (λ near. none_first words row first r e none from near) (λ far. next.first r far below) (cases_lt r (64 * (row / 64 + 1)));
}

pub none_later : (words : List ℕ) (row first : ℕ) → first ≡ bit_and (get_or words (row / 64) 0) (18446744073709551615 * 2 ^ (row % 64) % 2 ^ 64) →
    first ≡ 0 → NoneMarkedFrom words (64 * (row / 64 + 1)) → NoneMarkedFrom words row
none_later words row first e none later r from = ⊎_elim (λ near. none_first words row first r e none from near) (λ far. later r far) (cases_lt r (64 * (row / 64 + 1)))

-- as sets
pub next_is : (rows : ℕ) (words : List ℕ) (set : List Bool) (row found : ℕ) → NoneMarkedFrom words rows → marks_of rows words ≡ set → IsMarkedNext words row found → IsNextFrom set row found
next_is rows words set row found clear view next = subst (λ s. IsNextFrom s row found) view (record {
  reached = next.reached;
  within = has_is rows words found clear ∙ next.set;
  first = λ r from below. has_is rows words r clear ∙ next.first r from below;
})

pub none_is : (rows : ℕ) (words : List ℕ) (set : List Bool) (row : ℕ) → NoneMarkedFrom words rows → marks_of rows words ≡ set → NoneMarkedFrom words row → HasNoneFrom set row
none_is rows words set row clear view none = subst (λ s. HasNoneFrom s row) view (λ r from. has_is rows words r clear ∙ none r from)

-- ---- turned round

pub turned : (xs ys : List ℕ) (rows i row : ℕ) → length xs ≡ (rows + 63) / 64 → length xs ≤ i → IsDone (λ k. bit_not w64 (get_or xs k 0)) xs ys i → row < rows →
    get_or xs (row / 64) 0 < 2 ^ 64 → marked ys row ≡ not (marked xs row)
turned xs ys rows i row len past h below fits = marked_turned xs row (get_or ys (row / 64) 0) fits (h.done (row / 64) (omega arith))

pub masked_within : (ys : List ℕ) (rows row : ℕ) → length ys ≡ (rows + 63) / 64 → 0 < rows % 64 → row < rows →
    marked (set ys (rows / 64) (bit_and (get_or ys (rows / 64) 0) (1 * 2 ^ (rows % 64) % 2 ^ 64 - 1))) row ≡ marked ys row
masked_within ys rows row len some below =
    let last = rows / 64 in
    let w = bit_and (get_or ys last 0) (1 * 2 ^ (rows % 64) % 2 ^ 64 - 1) in
    let mask : 1 * 2 ^ (rows % 64) % 2 ^ 64 ≡ 2 ^ (rows % 64) = one_shl (rows % 64) 64 (omega arith) in
    ⊎_elim
    (λ same. let within : last < length ys = omega arith in
    ap (λ x. bit_at x (row % 64) == 1) (ap (λ i. get_or (set ys last w) i 0) same ∙ get_or-set_same ys last w 0 within)
    ∙ ap (λ m. bit_at (bit_and (get_or ys last 0) (m - 1)) (row % 64) == 1) mask
    ∙ ap (λ b. b == 1) (marked_kept (get_or ys last 0) (rows % 64) (row % 64) (omega arith))
    ∙ ap (λ i. bit_at (get_or ys i 0) (row % 64) == 1) (sym same))
    (λ other. ap (λ x. bit_at x (row % 64) == 1) (get_or-set_other ys last (row / 64) w 0 other))
    (cases_eq (row / 64) last)

pub masked_beyond : (ys : List ℕ) (rows : ℕ) → length ys ≡ (rows + 63) / 64 → 0 < rows % 64 →
    NoneMarkedFrom (set ys (rows / 64) (bit_and (get_or ys (rows / 64) 0) (1 * 2 ^ (rows % 64) % 2 ^ 64 - 1))) rows
masked_beyond ys rows len some r from =
    let last = rows / 64 in
    let w = bit_and (get_or ys last 0) (1 * 2 ^ (rows % 64) % 2 ^ 64 - 1) in
    let mask : 1 * 2 ^ (rows % 64) % 2 ^ 64 ≡ 2 ^ (rows % 64) = one_shl (rows % 64) 64 (omega arith) in
    ⊎_elim
    (λ same. let within : last < length ys = omega arith in
    ap (λ x. bit_at x (r % 64) == 1) (ap (λ i. get_or (set ys last w) i 0) same ∙ get_or-set_same ys last w 0 within)
    ∙ ap (λ m. bit_at (bit_and (get_or ys last 0) (m - 1)) (r % 64) == 1) mask
    ∙ ap (λ b. b == 1) (marked_cleared (get_or ys last 0) (rows % 64) (r % 64) (omega arith)))
    (λ other.
    ap (λ x. bit_at x (r % 64) == 1) (get_or-set_other ys last (r / 64) w 0 other ∙ get_or_past ys (r / 64) 0 (omega arith))
    ∙ ap (λ b. b == 1) (bit_at-zero (r % 64)))
    (cases_eq (r / 64) last)

-- what follows where there is no value
pub none_then : {T P Q : Type 0} (o : Option T) → (P → Q) → IfNone o P → IfNone o Q
none_then None f p = f p
none_then (Some x) f p = p
