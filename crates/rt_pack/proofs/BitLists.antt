-- Numbers and their bits.
use Rattle.std.proofs.Common.{◌≡◌, ℕ, zero, suc, ◌+◌, ◌*◌, ◌/◌, ◌%◌, ◌^◌, ◌<◌, ◌≤◌, List, [], ◌∷◌, ◌++◌, length, get_or, drop, arith, sym, ◌∙◌, refl, ap, subst, zero-add}
use Rattle.std.proofs.lemmas.Nat.{mod-pow-add, pow-add, pow_pos, mul-le, shr-shr, div-add-mod', div-mul-add}
use Rattle.std.proofs.lemmas.Nat.Bits.{bit_at_cat_low, bit_at-zero}
use Rattle.std.proofs.lemmas.List.{length-append, get_or-drop, same_lists, get_or_default}
use Rattle.std.proofs.Math.Nat.{mod-lt, pow-suc, mod-eq_of_lt}
use Rattle.std.specs.Prelude.{All}
use Rattle.std.specs.Int.{bit_at}
use Rattle.rt_pack.specs.Bits.{bits_of, all_bits, number_of, numbers_of}

-- each element is a bit
abbrev pub AreBits : List ℕ → Type 0
AreBits bits = (i : ℕ) → get_or bits i 0 < 2

-- each number has `width` bits
abbrev pub AllFit : ℕ → List ℕ → Type 0
AllFit width ns = All (λ n. n < 2 ^ width) ns

pub AllFit_head : (width n : ℕ) (ns : List ℕ) → AllFit width (n ∷ ns) → n < 2 ^ width
AllFit_head width n ns h = h 0 0 (omega arith)

pub AllFit_tail : (width n : ℕ) (ns : List ℕ) → AllFit width (n ∷ ns) → AllFit width ns
AllFit_tail width n ns h k d l = h (suc k) d (omega (arith, l))

-- ---- lengths

pub length_bits_of : (width n : ℕ) → length (bits_of width n) ≡ width
length_bits_of zero n = refl
length_bits_of (suc width) n = ap suc (length_bits_of width n)

pub length_all_bits : (width : ℕ) (ns : List ℕ) → length (all_bits width ns) ≡ length ns * width
length_all_bits width [] = omega arith
length_all_bits width (n ∷ ns) = omega (arith, length-append (bits_of width n) (all_bits width ns), length_bits_of width n, length_all_bits width ns)

pub length_numbers_of : (width count : ℕ) (bits : List ℕ) → length (numbers_of width count bits) ≡ count
length_numbers_of width zero bits = refl
length_numbers_of width (suc count) bits = ap suc (length_numbers_of width count (drop width bits))

-- ---- the number of bits

pub number_of_nil : (width : ℕ) → number_of width [] ≡ 0
number_of_nil zero = refl
number_of_nil (suc width) = refl

mod_pow_suc : (n width : ℕ) → n % 2 ^ suc width ≡ bit_at n width * 2 ^ width + n % 2 ^ width
mod_pow_suc n width = let one : 1 + width ≡ suc width = omega arith in subst (λ k. n % 2 ^ k ≡ bit_at n width * 2 ^ width + n % 2 ^ width) one (mod-pow-add n 1 width)

-- the bits of a number, read back
pub number_of_bits : (width n : ℕ) (rest : List ℕ) → number_of width (bits_of width n ++ rest) ≡ n % 2 ^ width
number_of_bits zero n rest = omega arith
number_of_bits (suc width) n rest = omega (arith, number_of_bits width n rest, mod_pow_suc n width)

-- a number is its first bits and its last ones
pub number_of_add : (i j : ℕ) (bits : List ℕ) → number_of (i + j) bits ≡ number_of i bits * 2 ^ j + number_of j (drop i bits)
number_of_add zero j bits = ap (λ k. number_of k bits) (zero-add j) ∙ omega arith
number_of_add (suc i) j [] = omega (arith, number_of_nil (suc i + j), number_of_nil j)
number_of_add (suc i) j (bit ∷ bits) =
    let shape : suc i + j ≡ suc (i + j) = omega arith in
    ap (λ k. number_of k (bit ∷ bits)) shape ∙ omega (arith, number_of_add i j bits, ap (λ p. bit * p) (pow-add 2 i j))

-- only the bits count, and those past the end are 0
pub number_of_same : (width : ℕ) (xs ys : List ℕ) → ((i : ℕ) → i < width → get_or xs i 0 ≡ get_or ys i 0) → number_of width xs ≡ number_of width ys
number_of_same zero xs ys h = refl
number_of_same (suc width) [] [] h = refl
number_of_same (suc width) [] (y ∷ ys) h =
    let first : 0 ≡ y = h 0 (omega arith) in
    let rest : number_of width [] ≡ number_of width ys = number_of_same width [] ys (λ i l. h (suc i) (omega (arith, l))) in
    omega (arith, number_of_nil width, ap (λ b. b * 2 ^ width) first)
number_of_same (suc width) (x ∷ xs) [] h =
    let first : x ≡ 0 = h 0 (omega arith) in
    let rest : number_of width xs ≡ number_of width [] = number_of_same width xs [] (λ i l. h (suc i) (omega (arith, l))) in
    omega (arith, number_of_nil width, ap (λ b. b * 2 ^ width) first)
number_of_same (suc width) (x ∷ xs) (y ∷ ys) h =
    let first : x ≡ y = h 0 (omega arith) in
    let rest : number_of width xs ≡ number_of width ys = number_of_same width xs ys (λ i l. h (suc i) (omega (arith, l))) in
    omega (arith, ap (λ b. b * 2 ^ width) first)

pub AreBits_bits_of : (width n : ℕ) (rest : List ℕ) → AreBits rest → AreBits (bits_of width n ++ rest)
AreBits_bits_of zero n rest h i = h i
AreBits_bits_of (suc width) n rest h zero = mod-lt (n / 2 ^ width) (omega arith)
AreBits_bits_of (suc width) n rest h (suc i) = AreBits_bits_of width n rest h i

pub AreBits_all_bits : (width : ℕ) (ns : List ℕ) → AreBits (all_bits width ns)
AreBits_all_bits width [] i = omega arith
AreBits_all_bits width (n ∷ ns) i = AreBits_bits_of width n (all_bits width ns) (AreBits_all_bits width ns) i

pub AreBits_drop : (n : ℕ) (bits : List ℕ) → AreBits bits → AreBits (drop n bits)
AreBits_drop n bits h i = subst (λ b. b < 2) (sym (get_or-drop n bits i 0)) (h (n + i))

pub number_of_below : (width : ℕ) (bits : List ℕ) → AreBits bits → number_of width bits < 2 ^ width
number_of_below zero bits h = omega arith
number_of_below (suc width) [] h = pow_pos (suc width)
number_of_below (suc width) (bit ∷ bits) h =
    let first : bit < 2 = h 0 in
    omega (arith, number_of_below width bits (λ i. h (suc i)), mul-le bit (2 ^ width) 1 (2 ^ width) (omega arith) (omega arith), pow-suc 2 width)

-- ---- the bits of a number

-- a number's low bits are those of what is left of it
pub bits_of_low : (width a k b : ℕ) → width ≤ k → bits_of width (a * 2 ^ k + b) ≡ bits_of width b
bits_of_low zero a k b h = refl
bits_of_low (suc width) a k b h =
    ap (λ bit. bit ∷ bits_of width (a * 2 ^ k + b)) (bit_at_cat_low a k b width (omega arith))
    ∙ ap (λ rest. bit_at b width ∷ rest) (bits_of_low width a k b (omega arith))

pub bits_of_mod : (width n : ℕ) → bits_of width (n % 2 ^ width) ≡ bits_of width n
bits_of_mod width n =
    sym (bits_of_low width (n / 2 ^ width) width (n % 2 ^ width) (omega arith)) ∙ ap (λ m. bits_of width m) (div-add-mod' n (2 ^ width))

-- a number's bits are those of its quotient and those of its remainder
pub bits_of_split : (c width n : ℕ) → bits_of (c + width) n ≡ bits_of c (n / 2 ^ width) ++ bits_of width n
bits_of_split zero width n = ap (λ k. bits_of k n) (zero-add width)
bits_of_split (suc c) width n =
    let shape : suc c + width ≡ suc (c + width) = omega arith in
    let order : width + c ≡ c + width = omega arith in
    let top : bit_at n (c + width) ≡ bit_at (n / 2 ^ width) c = ap (λ q. q % 2) (sym (shr-shr n width c ∙ ap (λ k. n / 2 ^ k) order)) in
    ap (λ k. bits_of k n) shape
    ∙ ap (λ bit. bit ∷ bits_of (c + width) n) top
    ∙ ap (λ rest. bit_at (n / 2 ^ width) c ∷ rest) (bits_of_split c width n)

-- a number behind another
pub bits_of_cat : (c width a b : ℕ) → b < 2 ^ width → bits_of (c + width) (a * 2 ^ width + b) ≡ bits_of c a ++ bits_of width b
bits_of_cat c width a b h =
    bits_of_split c width (a * 2 ^ width + b)
    ∙ ap (λ q. bits_of c q ++ bits_of width (a * 2 ^ width + b)) (div-mul-add a (2 ^ width) b h)
    ∙ ap (λ rest. bits_of c a ++ rest) (bits_of_low width a width b (omega arith))

pub get_or_bits_of_zero : (width i : ℕ) → get_or (bits_of width 0) i 0 ≡ 0
get_or_bits_of_zero zero i = refl
get_or_bits_of_zero (suc width) zero = bit_at-zero width
get_or_bits_of_zero (suc width) (suc i) = get_or_bits_of_zero width i

-- bits are those of their number
pub get_or_bits_of : (width : ℕ) (bits : List ℕ) (i : ℕ) → AreBits bits → i < width → get_or (bits_of width (number_of width bits)) i 0 ≡ get_or bits i 0
get_or_bits_of zero bits i h l = absurd (omega arith)
get_or_bits_of (suc width) [] i h l = get_or_bits_of_zero (suc width) i
get_or_bits_of (suc width) (bit ∷ bits) zero h l =
    let below : number_of width bits < 2 ^ width = number_of_below width bits (λ i. h (suc i)) in
    ap (λ q. q % 2) (div-mul-add bit (2 ^ width) (number_of width bits) below) ∙ mod-eq_of_lt (h 0)
get_or_bits_of (suc width) (bit ∷ bits) (suc i) h l =
    ap (λ bs. get_or bs i 0) (bits_of_low width bit width (number_of width bits) (omega arith))
    ∙ get_or_bits_of width bits i (λ i. h (suc i)) (omega arith)

pub bits_of_number_of : (width : ℕ) (bits : List ℕ) → AreBits bits → length bits ≡ width → bits_of width (number_of width bits) ≡ bits
bits_of_number_of width bits h e = same_lists _ _ (length_bits_of width (number_of width bits) ∙ sym e)
    (λ k d l. let within : k < width = omega (arith, l, length_bits_of width (number_of width bits)) in
    get_or_default (bits_of width (number_of width bits)) k d 0 l ∙ get_or_bits_of width bits k h within ∙ get_or_default bits k 0 d (omega arith))
