-- Laws of the packed form.
use Rattle.std.proofs.Common.{◌≡◌, ℕ, zero, suc, ◌+◌, ◌*◌, ◌-◌, ◌%◌, ◌^◌, ◌<◌, ◌⊎◌, ◌↔◌, List, [], ◌∷◌, length, get_or, drop, arith, sym, ◌∙◌, refl, ap, subst, inl, inr, ⊎_elim}
use Rattle.std.proofs.lemmas.List.{get_or_past, get_or-drop, length-drop, drop-drop, get_or_default}
use Rattle.std.proofs.lemmas.Nat.{pow_pos, mul-le, mod-mul-add}
use Rattle.std.proofs.Math.Pow.{mod-mod-pow}
use Rattle.std.proofs.lemmas.Bool.{cases_lt}
use Rattle.std.specs.Prelude.{All, slice_index}
use Rattle.rt_pack.specs.Bits.{all_bits, number_of, numbers_of}
use Rattle.rt_pack.specs.Packed.{bytes_for, packed, unpacked, id_at, spare_bits}
use Rattle.rt_pack.proofs.BitLists.{AreBits, AllFit, length_all_bits, length_numbers_of, number_of_add, number_of_below, AreBits_all_bits, AreBits_drop}
use Rattle.rt_pack.proofs.Groups.{number_of_row, numbers_of_same, numbers_of_all, AllFit_numbers_of, get_or_all_bits, get_or_numbers_of}

pub length_packed : (width : ℕ) (ids : List ℕ) → length (packed width ids) ≡ bytes_for width (length ids)
length_packed width ids = length_numbers_of 8 (bytes_for width (length ids)) (all_bits width ids)

pub length_unpacked : (width rows : ℕ) (bytes : List ℕ) → length (unpacked width rows bytes) ≡ rows
length_unpacked width rows bytes = length_numbers_of width rows (all_bits 8 bytes)

pub AllFit_packed : (width : ℕ) (ids : List ℕ) → AllFit 8 (packed width ids)
AllFit_packed width ids = AllFit_numbers_of 8 (bytes_for width (length ids)) (all_bits width ids) (AreBits_all_bits width ids)

pub AllFit_unpacked : (width rows : ℕ) (bytes : List ℕ) → AllFit width (unpacked width rows bytes)
AllFit_unpacked width rows bytes = AllFit_numbers_of width rows (all_bits 8 bytes) (AreBits_all_bits 8 bytes)

-- each bit of the bytes is that of the ids, and 0 behind them
bit_of_packed : (width : ℕ) (ids : List ℕ) (i : ℕ) → get_or (all_bits 8 (packed width ids)) i 0 ≡ get_or (all_bits width ids) i 0
bit_of_packed width ids i =
    let count = bytes_for width (length ids) in
    ⊎_elim
    (λ below. get_or_all_bits 8 count (all_bits width ids) i (AreBits_all_bits width ids) below)
    (λ above. get_or_past (all_bits 8 (packed width ids)) i 0 (omega (arith, length_all_bits 8 (packed width ids), length_packed width ids))
    ∙ sym (get_or_past (all_bits width ids) i 0 (omega (arith, length_all_bits width ids))))
    (cases_lt i (count * 8))

-- the spare bits of packed ids are 0
pub packed_spare : (width : ℕ) (ids : List ℕ) → All (λ bit. bit ≡ 0) (spare_bits width (length ids) (packed width ids))
packed_spare width ids k d l =
    get_or_default (spare_bits width (length ids) (packed width ids)) k d 0 l
    ∙ get_or-drop (length ids * width) (all_bits 8 (packed width ids)) k 0
    ∙ bit_of_packed width ids (length ids * width + k)
    ∙ get_or_past (all_bits width ids) (length ids * width + k) 0 (omega (arith, length_all_bits width ids))

-- packed ids are read back
pub unpacked_packed : (width : ℕ) (ids : List ℕ) → AllFit width ids → unpacked width (length ids) (packed width ids) ≡ ids
unpacked_packed width ids h =
    numbers_of_same width (length ids) (all_bits 8 (packed width ids)) (all_bits width ids) (λ i l. bit_of_packed width ids i)
    ∙ numbers_of_all width ids h

pub id_at_packed : (width : ℕ) (ids : List ℕ) (row : ℕ) → AllFit width ids → row < length ids → id_at width (packed width ids) row ≡ slice_index ids row
id_at_packed width ids row h l =
    sym (get_or_numbers_of width (length ids) (all_bits 8 (packed width ids)) row 0 l)
    ∙ ap (λ ns. get_or ns row 0) (unpacked_packed width ids h)

-- each bit of what was unpacked and packed again
bit_again : (width rows : ℕ) (bytes : List ℕ) (i : ℕ) → length bytes ≡ bytes_for width rows → i < rows * width →
    get_or (all_bits width (unpacked width rows bytes)) i 0 ≡ get_or (all_bits 8 bytes) i 0
bit_again width rows bytes i len l = get_or_all_bits width rows (all_bits 8 bytes) i (AreBits_all_bits 8 bytes) l

-- bytes with no spare bit set are those of their ids
pub packed_unpacked : (width rows : ℕ) (bytes : List ℕ) → AllFit 8 bytes → length bytes ≡ bytes_for width rows →
    All (λ bit. bit ≡ 0) (spare_bits width rows bytes) → packed width (unpacked width rows bytes) ≡ bytes
packed_unpacked width rows bytes fit len spare =
    let ids = unpacked width rows bytes in
    let count : bytes_for width (length ids) ≡ length bytes = ap (λ n. bytes_for width n) (length_unpacked width rows bytes) ∙ sym len in
    ap (λ n. numbers_of 8 n (all_bits width ids)) count
    ∙ numbers_of_same 8 (length bytes) (all_bits width ids) (all_bits 8 bytes) (λ i l. ⊎_elim
    (λ below. bit_again width rows bytes i len below)
    (λ above. let place : rows * width + (i - rows * width) ≡ i = omega arith in
    get_or_past (all_bits width ids) i 0 (omega (arith, length_all_bits width ids, ap (λ n. n * width) (length_unpacked width rows bytes)))
    ∙ sym (ap (λ n. get_or (all_bits 8 bytes) n 0) (sym place)
    ∙ sym (get_or-drop (rows * width) (all_bits 8 bytes) (i - rows * width) 0)
    ∙ spare (i - rows * width) 0 (omega (arith, length-drop (rows * width) (all_bits 8 bytes), length_all_bits 8 bytes))))
    (cases_lt i (rows * width)))
    ∙ numbers_of_all 8 bytes fit

-- bytes that are those of their ids have no spare bit set
pub spare_of_packed : (width rows : ℕ) (bytes : List ℕ) → packed width (unpacked width rows bytes) ≡ bytes → All (λ bit. bit ≡ 0) (spare_bits width rows bytes)
spare_of_packed width rows bytes e =
    let ids = unpacked width rows bytes in
    subst (λ n. All (λ bit. bit ≡ 0) (spare_bits width n bytes)) (length_unpacked width rows bytes)
    (subst (λ bs. All (λ bit. bit ≡ 0) (spare_bits width (length ids) bs)) e (packed_spare width ids))

-- ---- the spare bits as a number

cases_zero : (n : ℕ) → (n ≡ 0) ⊎ (0 < n)
cases_zero zero = inl refl
cases_zero (suc n) = inr (omega arith)

number_clear : (width : ℕ) (bits : List ℕ) → AreBits bits → length bits ≡ width → number_of width bits ≡ 0 → All (λ bit. bit ≡ 0) bits
number_clear zero bits h e none k d l = absurd (omega arith)
number_clear (suc width) [] h e none k d l = absurd (omega (arith, l))
number_clear (suc width) (bit ∷ bits) h e none zero d l =
    ⊎_elim
    (λ clear. clear)
    (λ set. absurd (omega (arith, pow_pos width, mul-le 1 (2 ^ width) bit (2 ^ width) (omega arith) (omega arith))))
    (cases_zero bit)
number_clear (suc width) (bit ∷ bits) h e none (suc k) d l = number_clear width bits (λ i. h (suc i)) (omega (arith, e)) (omega arith) k d (omega (arith, l))

clear_number : (width : ℕ) (bits : List ℕ) → length bits ≡ width → All (λ bit. bit ≡ 0) bits → number_of width bits ≡ 0
clear_number zero bits e h = refl
clear_number (suc width) [] e h = refl
clear_number (suc width) (bit ∷ bits) e h =
    omega (arith, ap (λ b. b * 2 ^ width) (h 0 0 (omega arith)), clear_number width bits (omega (arith, e)) (λ k d l. h (suc k) d (omega (arith, l))))

-- the spare bits are the low bits of the last byte
pub spare_number : (width rows : ℕ) (bytes : List ℕ) → length bytes ≡ bytes_for width rows →
    number_of (8 * length bytes - rows * width) (spare_bits width rows bytes) ≡ get_or bytes (length bytes - 1) 0 % 2 ^ (8 * length bytes - rows * width)
spare_number width rows bytes len = ⊎_elim
    (λ whole. ap (λ n. number_of n (spare_bits width rows bytes)) whole ∙ omega (arith, ap (λ n. get_or bytes (length bytes - 1) 0 % 2 ^ n) whole))
    (λ some.
    let spare = 8 * length bytes - rows * width in
    let last = length bytes - 1 in
    let bits = drop (last * 8) (all_bits 8 bytes) in
    let there : last < length bytes = omega arith in
    let used : (8 - spare) + spare ≡ 8 = omega arith in
    let place : last * 8 + (8 - spare) ≡ rows * width = omega arith in
    let rest : drop (8 - spare) bits ≡ spare_bits width rows bytes = drop-drop (8 - spare) (last * 8) (all_bits 8 bytes) ∙ ap (λ n. drop n (all_bits 8 bytes)) place in
    let small : number_of spare (drop (8 - spare) bits) < 2 ^ spare =
    number_of_below spare (drop (8 - spare) bits) (AreBits_drop (8 - spare) bits (AreBits_drop (last * 8) (all_bits 8 bytes) (AreBits_all_bits 8 bytes))) in
    let byte : number_of 8 bits ≡ get_or bytes last 0 % 2 ^ 8 = number_of_row 8 last bytes there in
    let parts : number_of 8 bits ≡ number_of (8 - spare) bits * 2 ^ spare + number_of spare (drop (8 - spare) bits) = ap (λ n. number_of n bits) (sym used) ∙ number_of_add (8 - spare) spare bits in
    let low : number_of 8 bits % 2 ^ spare ≡ number_of spare (drop (8 - spare) bits) = ap (λ n. n % 2 ^ spare) parts ∙ mod-mul-add (number_of (8 - spare) bits) (2 ^ spare) (number_of spare (drop (8 - spare) bits)) small in
    ap (λ bs. number_of spare bs) (sym rest) ∙ sym low ∙ ap (λ n. n % 2 ^ spare) byte
    ∙ ap (λ n. get_or bytes last 0 % 2 ^ n % 2 ^ spare) (sym used) ∙ mod-mod-pow (get_or bytes last 0) (8 - spare) spare)
    (cases_zero (8 * length bytes - rows * width))

-- the spare bits are 0 exactly where the low bits of the last byte are
pub spare_is_clear : (width rows : ℕ) (bytes : List ℕ) → length bytes ≡ bytes_for width rows →
    All (λ bit. bit ≡ 0) (spare_bits width rows bytes) ↔ (get_or bytes (length bytes - 1) 0 % 2 ^ (8 * length bytes - rows * width) ≡ 0)
spare_is_clear width rows bytes len =
    let spare = 8 * length bytes - rows * width in
    let size : length (spare_bits width rows bytes) ≡ spare = omega (arith, length-drop (rows * width) (all_bits 8 bytes), length_all_bits 8 bytes) in (
      (λ h. sym (spare_number width rows bytes len) ∙ clear_number spare (spare_bits width rows bytes) size h),
      (λ h. number_clear spare (spare_bits width rows bytes) (AreBits_drop (rows * width) (all_bits 8 bytes) (AreBits_all_bits 8 bytes)) size (spare_number width rows bytes len ∙ h)),
    )
