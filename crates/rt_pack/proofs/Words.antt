-- What the shifts of a word do to its bits.
use Rattle.std.proofs.Common.{◌≡◌, ℕ, ◌+◌, ◌*◌, ◌-◌, ◌/◌, ◌%◌, ◌^◌, ◌<◌, ◌≤◌, List, [], ◌∷◌, ◌++◌, length, get_or, take, drop, arith, sym, ◌∙◌, ap, subst, append_assoc, bit_or, bit_and, min}
use Rattle.std.proofs.lemmas.Nat.{pow-add, or_shifted, and_mask, shl_below, one_shl, shr_below, mul-add-lt}
use Rattle.std.proofs.lemmas.List.{drop_at, length-append, get_or_append_left, append-nil, take_more, length-take-le, length-drop, drop-drop, take-append-drop}
use Rattle.std.proofs.Math.Nat.{mod-eq_of_lt, pow-le-pow_right}
use Rattle.std.specs.Int.{to_be_bytes, w32}
use Rattle.rt_pack.specs.Bits.{bits_of, all_bits, number_of}
use Rattle.rt_pack.proofs.BitLists.{length_bits_of, length_all_bits, number_of_bits, number_of_add, number_of_same, AreBits_all_bits, number_of_below, bits_of_split, bits_of_mod, bits_of_cat, bits_of_number_of}
use Rattle.rt_pack.proofs.Groups.{all_bits_append}

-- the number of bits before others, and of those others
pub number_of_append : (n j : ℕ) (xs ys : List ℕ) → length xs ≡ n → number_of (n + j) (xs ++ ys) ≡ number_of n xs * 2 ^ j + number_of j ys
number_of_append n j xs ys e =
    number_of_add n j (xs ++ ys)
    ∙ ap (λ a. a * 2 ^ j + number_of j (drop n (xs ++ ys)))
    (number_of_same n (xs ++ ys) xs (λ i l. let within : i < length xs = omega arith in get_or_append_left xs ys 0 i within))
    ∙ ap (λ bits. number_of n xs * 2 ^ j + number_of j bits) (drop_at xs ys n e)

-- a shift and an `or` put a number behind another
pub put_behind : (a c k b : ℕ) → a < 2 ^ c → c + k ≤ 64 → b < 2 ^ k → bit_or (a * 2 ^ k % 2 ^ 64) b ≡ a * 2 ^ k + b
put_behind a c k b small room fits =
    let below : a * 2 ^ k < 2 ^ (c + k) = shl_below a c k small in
    let high : 2 ^ (c + k) ≤ 2 ^ 64 = pow-le-pow_right {n = 2} (omega arith) {i = c + k} {j = 64} room in
    let fit : a * 2 ^ k < 2 ^ 64 = omega arith in
    ap (λ n. bit_or n b) (mod-eq_of_lt fit) ∙ or_shifted a k b fits

pub behind_below : (a c k b : ℕ) → a < 2 ^ c → b < 2 ^ k → a * 2 ^ k + b < 2 ^ (c + k)
behind_below a c k b small fits = omega (arith, mul-add-lt a (2 ^ k) b (2 ^ c) small fits, pow-add 2 c k)

-- one byte more
pub byte_behind : (bytes : List ℕ) (i byte : ℕ) → i < length bytes → i < 8 → byte ≡ get_or bytes i 0 → byte < 2 ^ 8 →
    bit_or (number_of (8 * i) (all_bits 8 (take i bytes)) * 2 ^ 8 % 2 ^ 64) byte ≡ number_of (8 * (i + 1)) (all_bits 8 (take (i + 1) bytes))
byte_behind bytes i byte within few e fits =
    let front = all_bits 8 (take i bytes) in
    let len : length front ≡ 8 * i = omega (arith, length_all_bits 8 (take i bytes), length-take-le i bytes (omega arith)) in
    let shape : 8 * (i + 1) ≡ 8 * i + 8 = omega arith in
    let last : number_of 8 (bits_of 8 byte ++ []) ≡ byte = number_of_bits 8 byte [] ∙ mod-eq_of_lt fits in
    let longer : all_bits 8 (take (i + 1) bytes) ≡ front ++ (bits_of 8 byte ++ []) =
    ap (λ bs. all_bits 8 bs) (take_more bytes i 0 within ∙ ap (λ b. take i bytes ++ b ∷ []) (sym e)) ∙ all_bits_append 8 (take i bytes) (byte ∷ []) in
    put_behind (number_of (8 * i) front) (8 * i) 8 byte (number_of_below (8 * i) front (AreBits_all_bits 8 (take i bytes))) (omega arith) fits
    ∙ sym (ap (λ n. number_of n (all_bits 8 (take (i + 1) bytes))) shape
    ∙ ap (λ bits. number_of (8 * i + 8) bits) longer
    ∙ number_of_append (8 * i) 8 front (bits_of 8 byte ++ []) len
    ∙ ap (λ n. number_of (8 * i) front * 2 ^ 8 + n) last)

-- the high bits of a number, and its low ones
split_before : (c width n : ℕ) (rest : List ℕ) → bits_of (c + width) n ++ rest ≡ bits_of c (n / 2 ^ width) ++ (bits_of width n ++ rest)
split_before c width n rest = ap (λ bits. bits ++ rest) (bits_of_split c width n) ∙ append_assoc (bits_of c (n / 2 ^ width)) (bits_of width n) rest

pub number_of_high : (c width n : ℕ) (rest : List ℕ) → n < 2 ^ (c + width) → number_of c (bits_of (c + width) n ++ rest) ≡ n / 2 ^ width
number_of_high c width n rest fits =
    ap (λ bits. number_of c bits) (split_before c width n rest)
    ∙ number_of_bits c (n / 2 ^ width) (bits_of width n ++ rest)
    ∙ mod-eq_of_lt (shr_below n c width fits)

pub drop_high : (c width n : ℕ) (rest : List ℕ) → drop c (bits_of (c + width) n ++ rest) ≡ bits_of width (n % 2 ^ width) ++ rest
drop_high c width n rest =
    ap (λ bits. drop c bits) (split_before c width n rest)
    ∙ drop_at (bits_of c (n / 2 ^ width)) (bits_of width n ++ rest) c (length_bits_of c (n / 2 ^ width))
    ∙ ap (λ bits. bits ++ rest) (sym (bits_of_mod width n))

-- a mask keeps the low bits
pub low_bits : (n k : ℕ) → k < 64 → bit_and n (1 * 2 ^ k % 2 ^ 64 - 1) ≡ n % 2 ^ k
low_bits n k h = ap (λ m. bit_and n (m - 1)) (one_shl k 64 h) ∙ and_mask n k

-- the bytes of a word have the word's bits
pub all_bits_word : (n : ℕ) → all_bits 8 (to_be_bytes w32 n) ≡ bits_of 32 n
all_bits_word n =
    let first : bits_of 8 (n / 2 ^ 24 % 2 ^ 8) ++ bits_of 24 n ≡ bits_of 32 n = ap (λ b. b ++ bits_of 24 n) (bits_of_mod 8 (n / 2 ^ 24)) ∙ sym (bits_of_split 8 24 n) in
    let second : bits_of 8 (n / 2 ^ 16 % 2 ^ 8) ++ bits_of 16 n ≡ bits_of 24 n = ap (λ b. b ++ bits_of 16 n) (bits_of_mod 8 (n / 2 ^ 16)) ∙ sym (bits_of_split 8 16 n) in
    let third : bits_of 8 (n / 2 ^ 8 % 2 ^ 8) ++ bits_of 8 n ≡ bits_of 16 n = ap (λ b. b ++ bits_of 8 n) (bits_of_mod 8 (n / 2 ^ 8)) ∙ sym (bits_of_split 8 8 n) in
    let last : bits_of 8 (n % 2 ^ 8) ++ [] ≡ bits_of 8 n = append-nil (bits_of 8 (n % 2 ^ 8)) ∙ bits_of_mod 8 n in
    ap (λ b. bits_of 8 (n / 2 ^ 24 % 2 ^ 8) ++ b)
    (ap (λ b. bits_of 8 (n / 2 ^ 16 % 2 ^ 8) ++ b) (ap (λ b. bits_of 8 (n / 2 ^ 8 % 2 ^ 8) ++ b) last ∙ third) ∙ second)
    ∙ first

-- ---- a reader with enough bits in hand

-- the bits in hand are at least `width`, and with those of the bytes left they are all bits left
pub record IsReady (width : ℕ) (left bytes : List ℕ) (at held count : ℕ) : Type 0 where
  pub enough : width ≤ count
  pub few : count < 64
  pub below : held < 2 ^ count
  pub bits : bits_of count held ++ all_bits 8 (drop at bytes) ≡ left

-- bits in hand and those of a number behind them
cat_behind : (count held : ℕ) (word rest : List ℕ) → held < 2 ^ count → count + 8 * length word ≤ 64 →
    bits_of (count + 8 * length word) (bit_or (held * 2 ^ (8 * length word) % 2 ^ 64) (number_of (8 * length word) (all_bits 8 word))) ++ rest ≡ bits_of count held ++ (all_bits 8 word ++ rest)
cat_behind count held word rest below room =
    let n = number_of (8 * length word) (all_bits 8 word) in
    let len : length (all_bits 8 word) ≡ 8 * length word = omega (arith, length_all_bits 8 word) in
    let fits : n < 2 ^ (8 * length word) = number_of_below (8 * length word) (all_bits 8 word) (AreBits_all_bits 8 word) in
    ap (λ m. bits_of (count + 8 * length word) m ++ rest) (put_behind held count (8 * length word) n below room fits)
    ∙ ap (λ bits. bits ++ rest) (bits_of_cat count (8 * length word) held n fits)
    ∙ ap (λ bits. (bits_of count held ++ bits) ++ rest) (bits_of_number_of (8 * length word) (all_bits 8 word) (AreBits_all_bits 8 word) len)
    ∙ append_assoc (bits_of count held) (all_bits 8 word) rest

-- after up to four bytes more
pub filled : (width : ℕ) (left bytes : List ℕ) (at held count end number : ℕ) →
    width ≤ 32 → width ≤ length left → at ≤ length bytes → count < 32 → held < 2 ^ count →
    bits_of count held ++ all_bits 8 (drop at bytes) ≡ left →
    end ≡ min (length bytes) (at + 4) →
    number ≡ number_of (8 * length (take (end - at) (drop at bytes))) (all_bits 8 (take (end - at) (drop at bytes))) →
    IsReady width left bytes end (bit_or (held * 2 ^ (8 * length (take (end - at) (drop at bytes))) % 2 ^ 64) number) (count + 8 * length (take (end - at) (drop at bytes)))
filled width left bytes at held count end number narrow there within few below bits e n =
    let word = take (end - at) (drop at bytes) in
    let len : length word ≡ end - at = omega (arith, length-take-le (end - at) (drop at bytes) (omega (arith, length-drop at bytes))) in
    let here : end - at ≤ 4 = omega arith in
    let size : length left ≡ count + 8 * (length bytes - at) = omega (arith, ap length bits, length-append (bits_of count held) (all_bits 8 (drop at bytes)), length_bits_of count held, length_all_bits 8 (drop at bytes), length-drop at bytes) in
    let past : at + (end - at) ≡ end = omega arith in
    let whole : all_bits 8 word ++ all_bits 8 (drop end bytes) ≡ all_bits 8 (drop at bytes) =
    sym (all_bits_append 8 word (drop end bytes))
    ∙ ap (λ rest. all_bits 8 (word ++ rest)) (ap (λ k. drop k bytes) (sym past) ∙ sym (drop-drop (end - at) at bytes))
    ∙ ap (λ bs. all_bits 8 bs) (take-append-drop (end - at) (drop at bytes)) in
    let fits : number < 2 ^ (8 * length word) = subst (λ m. m < 2 ^ (8 * length word)) (sym n) (number_of_below (8 * length word) (all_bits 8 word) (AreBits_all_bits 8 word)) in
    let behind : bit_or (held * 2 ^ (8 * length word) % 2 ^ 64) number ≡ held * 2 ^ (8 * length word) + number = put_behind held count (8 * length word) number below (omega arith) fits in
    let joined : bits_of (count + 8 * length word) (bit_or (held * 2 ^ (8 * length word) % 2 ^ 64) number) ++ all_bits 8 (drop end bytes) ≡ left =
    ap (λ m. bits_of (count + 8 * length word) (bit_or (held * 2 ^ (8 * length word) % 2 ^ 64) m) ++ all_bits 8 (drop end bytes)) n
    ∙ cat_behind count held word (all_bits 8 (drop end bytes)) below (omega arith)
    ∙ ap (λ rest. bits_of count held ++ rest) whole
    ∙ bits in
    record {
      enough = omega arith;
      few = omega arith;
      below = subst (λ m. m < 2 ^ (count + 8 * length word)) (sym behind) (behind_below held count (8 * length word) number below fits);
      bits = joined;
    }

-- taking the first bits leaves the others
pub taken : (width : ℕ) (left bytes : List ℕ) (at held count : ℕ) → IsReady width left bytes at held count →
    (held / 2 ^ (count - width) ≡ number_of width left)
    × (bits_of (count - width) (bit_and held (1 * 2 ^ (count - width) % 2 ^ 64 - 1)) ++ all_bits 8 (drop at bytes) ≡ drop width left)
taken width left bytes at held count ready =
    let rest = all_bits 8 (drop at bytes) in
    let shape : width + (count - width) ≡ count = omega (arith, ready.enough) in
    let whole : bits_of (width + (count - width)) held ++ rest ≡ left = ap (λ n. bits_of n held ++ rest) shape ∙ ready.bits in
    let below : held < 2 ^ (width + (count - width)) = subst (λ n. held < 2 ^ n) (sym shape) ready.below in (
      sym (number_of_high width (count - width) held rest below) ∙ ap (λ bits. number_of width bits) whole,
      ap (λ n. bits_of (count - width) n ++ rest) (low_bits held (count - width) (omega (arith, ready.few)))
          ∙ sym (drop_high width (count - width) held rest) ∙ ap (λ bits. drop width bits) whole,
    )

-- the first bits are a number of a word
pub ready_number : (width : ℕ) (left bytes : List ℕ) (at held count : ℕ) → width ≤ 32 → IsReady width left bytes at held count → held / 2 ^ (count - width) < 2 ^ 32
ready_number width left bytes at held count narrow ready =
    let shape : width + (count - width) ≡ count = omega (arith, ready.enough) in
    let below : held < 2 ^ (width + (count - width)) = subst (λ n. held < 2 ^ n) (sym shape) ready.below in
    let high : 2 ^ width ≤ 2 ^ 32 = pow-le-pow_right {n = 2} (omega arith) {i = width} {j = 32} narrow in
    omega (arith, shr_below held width (count - width) below)
