-- The bits of words as marks of rows.
use Rattle.std.proofs.Common.{◌≡◌, ℕ, zero, suc, ◌*◌, ◌-◌, ◌/◌, ◌%◌, ◌^◌, ◌<◌, ◌≤◌, Bool, true, false, not, ◌&&◌, ◌||◌, List, [], ◌∷◌, length, get_or, set, map, replicate, arith, sym, ◌∙◌, refl, ap, ⊎_elim, bit_and, bit_or, min, max}
use Rattle.std.proofs.lemmas.List.{get_or-set_same, get_or-set_other, get_or_past, length-set, get_or-replicate, length-replicate}
use Rattle.std.proofs.lemmas.List.FromFn.{fill_by_all, length-map-range_with_len, get_or-map-range_with_len}
use Rattle.std.proofs.lemmas.Nat.Bits.{bit_at-zero, bit_at-lt, bit_at_and, bit_at_or, bit_at_not, bit_at_ones, bit_at_ones_above, bit_at_set_same, bit_at_set_other}
use Rattle.std.proofs.lemmas.Simd.{map-map}
use Rattle.std.proofs.lemmas.Bool.{cases_eq, cases_lt, and_left}
use Rattle.std.specs.Prelude.{slice_index, EachIndex, ◌==◌}
use Rattle.std.specs.Int.{bit_at, bit_not, w64}
use Rattle.std.specs.List.{range_with_len}
use Rattle.rt_postings.specs.DocSet.{has_row, both, either}
use Rattle.rt_postings.specs.Words.{marked, marks_of, NoneMarkedFrom}
use Rattle.rt_postings.proofs.InPlace.{map_same}

-- ---- marks and the set

pub length_marks : (rows : ℕ) (words : List ℕ) → length (marks_of rows words) ≡ rows
length_marks rows words = length-map-range_with_len (marked words) 0 rows

-- a row is in the set where its bit is set
pub has_is : (rows : ℕ) (words : List ℕ) (row : ℕ) → NoneMarkedFrom words rows → has_row (marks_of rows words) row ≡ marked words row
has_is rows words row clear = ⊎_elim
    (λ below. get_or-map-range_with_len (marked words) 0 rows row row false below (omega arith))
    (λ above. get_or_past (marks_of rows words) row false (omega (arith, length_marks rows words)) ∙ sym (clear row above))
    (cases_lt row rows)

get_or_zeros : (n k : ℕ) → get_or (replicate {A = ℕ} n 0) k 0 ≡ 0
get_or_zeros n k = ⊎_elim
    (λ below. get_or-replicate n k 0 0 below)
    (λ above. get_or_past (replicate n 0) k 0 (omega (arith, length-replicate {A = ℕ} n 0)))
    (cases_lt k n)

-- words of zeros have no row
pub marked_zeros : (n row : ℕ) → marked (replicate n 0) row ≡ false
marked_zeros n row =
    ap (λ w. bit_at w (row % 64) == 1) (get_or_zeros n (row / 64)) ∙ ap (λ b. b == 1) (bit_at-zero (row % 64))

pub marks_zeros : (rows n : ℕ) → marks_of rows (replicate n 0) ≡ replicate rows false
marks_zeros rows n = sym (fill_by_all (marked (replicate n 0)) (replicate rows false) rows false (length-replicate rows false)
    (λ k l. get_or-replicate rows k false false l ∙ sym (marked_zeros n k)))

-- ---- one row more

pub marked_added : (words : List ℕ) (row k w : ℕ) → k ≡ row / 64 → k < length words →
    w ≡ bit_or (get_or words k 0) (1 * 2 ^ (row % 64) % 2 ^ 64) → marked (set words k w) row ≡ true
marked_added words row k w e within is =
    ap (λ x. bit_at x (row % 64) == 1) (ap (λ i. get_or (set words k w) i 0) (sym e) ∙ get_or-set_same words k w 0 within ∙ is)
    ∙ ap (λ b. b == 1) (bit_at_set_same w64 (get_or words k 0) (row % 64) (omega arith))

pub marked_others : (words : List ℕ) (row k w r : ℕ) → k ≡ row / 64 → k < length words →
    w ≡ bit_or (get_or words k 0) (1 * 2 ^ (row % 64) % 2 ^ 64) → (r ≡ row → ⊥) → marked (set words k w) r ≡ marked words r
marked_others words row k w r e within is other = ⊎_elim
    (λ same. let apart : r % 64 ≡ row % 64 → ⊥ = omega arith in
    ap (λ x. bit_at x (r % 64) == 1) (ap (λ i. get_or (set words k w) i 0) same ∙ get_or-set_same words k w 0 within ∙ is)
    ∙ ap (λ b. b == 1) (bit_at_set_other w64 (get_or words k 0) (row % 64) (omega arith) (r % 64) apart)
    ∙ ap (λ i. bit_at (get_or words i 0) (r % 64) == 1) (sym same))
    (λ elsewhere. ap (λ x. bit_at x (r % 64) == 1) (get_or-set_other words k (r / 64) w 0 elsewhere))
    (cases_eq (r / 64) k)

pub marks_added : (rows : ℕ) (words : List ℕ) (row k w : ℕ) → row < rows → k ≡ row / 64 → k < length words →
    w ≡ bit_or (get_or words k 0) (1 * 2 ^ (row % 64) % 2 ^ 64) → marks_of rows (set words k w) ≡ set (marks_of rows words) row true
marks_added rows words row k w below e within is =
    let old = marks_of rows words in
    sym (fill_by_all (marked (set words k w)) (set old row true) rows false (length-set old row true ∙ length_marks rows words)
    (λ j l. ⊎_elim
    (λ same. ap (λ i. get_or (set old row true) i false) same ∙ get_or-set_same old row true false (omega (arith, length_marks rows words))
    ∙ sym (ap (marked (set words k w)) same ∙ marked_added words row k w e within is))
    (λ other. get_or-set_other old row j true false other
    ∙ get_or-map-range_with_len (marked words) 0 rows j j false l (omega arith)
    ∙ sym (marked_others words row k w j e within is other))
    (cases_eq j row)))

pub clear_added : (rows : ℕ) (words : List ℕ) (row k w : ℕ) → row < rows → k ≡ row / 64 → k < length words →
    w ≡ bit_or (get_or words k 0) (1 * 2 ^ (row % 64) % 2 ^ 64) → NoneMarkedFrom words rows → NoneMarkedFrom (set words k w) rows
clear_added rows words row k w below e within is clear r l =
    let other : r ≡ row → ⊥ = omega arith in marked_others words row k w r e within is other ∙ clear r l

-- ---- two sets

and_test : (a b : ℕ) → a < 2 → b < 2 → (min a b == 1) ≡ ((a == 1) && (b == 1))
and_test zero zero h l = refl
and_test zero (suc zero) h l = refl
and_test (suc zero) zero h l = refl
and_test (suc zero) (suc zero) h l = refl
and_test zero (suc (suc b)) h l = absurd (omega arith)
and_test (suc zero) (suc (suc b)) h l = absurd (omega arith)
and_test (suc (suc a)) b h l = absurd (omega arith)

or_test : (a b : ℕ) → a < 2 → b < 2 → (max a b == 1) ≡ ((a == 1) || (b == 1))
or_test zero zero h l = refl
or_test zero (suc zero) h l = refl
or_test (suc zero) zero h l = refl
or_test (suc zero) (suc zero) h l = refl
or_test zero (suc (suc b)) h l = absurd (omega arith)
or_test (suc zero) (suc (suc b)) h l = absurd (omega arith)
or_test (suc (suc a)) b h l = absurd (omega arith)

not_test : (a : ℕ) → a < 2 → (1 - a == 1) ≡ not (a == 1)
not_test zero h = refl
not_test (suc zero) h = refl
not_test (suc (suc a)) h = absurd (omega arith)

-- a word by word operation on lists of one length, also past their end
by_words : (f : ℕ → ℕ → ℕ) (a b c : List ℕ) → f 0 0 ≡ 0 → length c ≡ length a → length a ≡ length b →
    EachIndex c (λ k. slice_index c k ≡ f (slice_index a k) (slice_index b k)) → (k : ℕ) → get_or c k 0 ≡ f (get_or a k 0) (get_or b k 0)
by_words f a b c zeros same length_same each k = ⊎_elim
    (λ within. each k within)
    (λ past. get_or_past c k 0 past ∙ sym zeros
    ∙ sym (ap (λ x. f x (get_or b k 0)) (get_or_past a k 0 (omega arith)) ∙ ap (λ y. f 0 y) (get_or_past b k 0 (omega arith))))
    (cases_lt k (length c))

pub marked_and : (a b c : List ℕ) → length c ≡ length a → length a ≡ length b →
    EachIndex c (λ k. slice_index c k ≡ bit_and (slice_index a k) (slice_index b k)) → (r : ℕ) → marked c r ≡ (marked a r && marked b r)
marked_and a b c same length_same each r =
    ap (λ w. bit_at w (r % 64) == 1) (by_words bit_and a b c refl same length_same each (r / 64))
    ∙ ap (λ n. n == 1) (bit_at_and (get_or a (r / 64) 0) (get_or b (r / 64) 0) (r % 64))
    ∙ and_test (bit_at (get_or a (r / 64) 0) (r % 64)) (bit_at (get_or b (r / 64) 0) (r % 64)) (bit_at-lt (get_or a (r / 64) 0) (r % 64)) (bit_at-lt (get_or b (r / 64) 0) (r % 64))

pub marked_or : (a b c : List ℕ) → length c ≡ length a → length a ≡ length b →
    EachIndex c (λ k. slice_index c k ≡ bit_or (slice_index a k) (slice_index b k)) → (r : ℕ) → marked c r ≡ (marked a r || marked b r)
marked_or a b c same length_same each r =
    ap (λ w. bit_at w (r % 64) == 1) (by_words bit_or a b c refl same length_same each (r / 64))
    ∙ ap (λ n. n == 1) (bit_at_or (get_or a (r / 64) 0) (get_or b (r / 64) 0) (r % 64))
    ∙ or_test (bit_at (get_or a (r / 64) 0) (r % 64)) (bit_at (get_or b (r / 64) 0) (r % 64)) (bit_at-lt (get_or a (r / 64) 0) (r % 64)) (bit_at-lt (get_or b (r / 64) 0) (r % 64))

both_map : (f g : ℕ → Bool) (xs : List ℕ) → both (map f xs) (map g xs) ≡ map (λ x. f x && g x) xs
both_map f g [] = refl
both_map f g (x ∷ xs) = ap (λ bs. (f x && g x) ∷ bs) (both_map f g xs)

either_map : (f g : ℕ → Bool) (xs : List ℕ) → either (map f xs) (map g xs) ≡ map (λ x. f x || g x) xs
either_map f g [] = refl
either_map f g (x ∷ xs) = ap (λ bs. (f x || g x) ∷ bs) (either_map f g xs)

pub marks_and : (rows : ℕ) (a b c : List ℕ) → ((r : ℕ) → marked c r ≡ (marked a r && marked b r)) → marks_of rows c ≡ both (marks_of rows a) (marks_of rows b)
marks_and rows a b c h = map_same (marked c) (λ r. marked a r && marked b r) rows false (λ r l. h r) ∙ sym (both_map (marked a) (marked b) (range_with_len 0 rows))

pub marks_or : (rows : ℕ) (a b c : List ℕ) → ((r : ℕ) → marked c r ≡ (marked a r || marked b r)) → marks_of rows c ≡ either (marks_of rows a) (marks_of rows b)
marks_or rows a b c h = map_same (marked c) (λ r. marked a r || marked b r) rows false (λ r l. h r) ∙ sym (either_map (marked a) (marked b) (range_with_len 0 rows))

pub marks_not : (rows : ℕ) (a c : List ℕ) → ((r : ℕ) → r < rows → marked c r ≡ not (marked a r)) → marks_of rows c ≡ map not (marks_of rows a)
marks_not rows a c h = map_same (marked c) (λ r. not (marked a r)) rows false h ∙ sym (map-map not (marked a) (range_with_len 0 rows))

-- ---- the rows that are not in a set

-- a row of a word that was turned round
pub marked_turned : (words : List ℕ) (r w : ℕ) → get_or words (r / 64) 0 < 2 ^ 64 → w ≡ bit_not w64 (get_or words (r / 64) 0) → (bit_at w (r % 64) == 1) ≡ not (marked words r)
marked_turned words r w fits e =
    ap (λ x. bit_at x (r % 64) == 1) e
    ∙ ap (λ b. b == 1) (bit_at_not w64 (get_or words (r / 64) 0) (r % 64) fits (omega arith))
    ∙ not_test (bit_at (get_or words (r / 64) 0) (r % 64)) (bit_at-lt (get_or words (r / 64) 0) (r % 64))

-- the rows of the last word that a mask keeps, and those that it clears
pub marked_kept : (w filled i : ℕ) → i < filled → bit_at (bit_and w (2 ^ filled - 1)) i ≡ bit_at w i
marked_kept w filled i h = bit_at_and w (2 ^ filled - 1) i ∙ ap (λ b. min (bit_at w i) b) (bit_at_ones filled i h) ∙ omega (arith, bit_at-lt w i)

pub marked_cleared : (w filled i : ℕ) → filled ≤ i → bit_at (bit_and w (2 ^ filled - 1)) i ≡ 0
marked_cleared w filled i h = bit_at_and w (2 ^ filled - 1) i ∙ ap (λ b. min (bit_at w i) b) (bit_at_ones_above filled i h) ∙ omega arith

-- past the row count the bits stay 0
pub clear_and : (rows : ℕ) (a b c : List ℕ) → NoneMarkedFrom a rows → ((r : ℕ) → marked c r ≡ (marked a r && marked b r)) → NoneMarkedFrom c rows
clear_and rows a b c clear h r l = h r ∙ and_left (marked a r) (marked b r) (clear r l)

pub clear_or : (rows : ℕ) (a b c : List ℕ) → NoneMarkedFrom a rows → NoneMarkedFrom b rows → ((r : ℕ) → marked c r ≡ (marked a r || marked b r)) → NoneMarkedFrom c rows
clear_or rows a b c clear clear_b h r l = h r ∙ ap (λ x. x || marked b r) (clear r l) ∙ clear_b r l
