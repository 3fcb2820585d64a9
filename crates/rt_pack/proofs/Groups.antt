-- Lists of numbers of one width, and their bits.
use Rattle.std.proofs.Common.{◌≡◌, ℕ, zero-mul, zero, suc, ◌+◌, ◌*◌, ◌-◌, ◌%◌, ◌^◌, ◌<◌, ◌≤◌, List, [], ◌∷◌, ◌++◌, length, get_or, take, drop, arith, sym, ◌∙◌, refl, ap, subst, zero-add, append_assoc, ⊎_elim}
use Rattle.std.proofs.lemmas.List.{drop-drop, drop_at, get_or-drop, get_or_append_left, get_or-append_right, append-nil, drop_more, drop_all}
use Rattle.std.proofs.lemmas.Bool.{cases_lt}
use Rattle.std.proofs.Math.Nat.{mod-eq_of_lt}
use Rattle.rt_pack.specs.Bits.{bits_of, all_bits, number_of, numbers_of}
use Rattle.rt_pack.proofs.BitLists.{AreBits, AllFit, AllFit_head, AllFit_tail, length_bits_of, length_numbers_of, number_of_bits, number_of_same, AreBits_drop, number_of_below, get_or_bits_of}

pub all_bits_append : (width : ℕ) (xs ys : List ℕ) → all_bits width (xs ++ ys) ≡ all_bits width xs ++ all_bits width ys
all_bits_append width [] ys = refl
all_bits_append width (x ∷ xs) ys = ap (λ rest. bits_of width x ++ rest) (all_bits_append width xs ys) ∙ sym (append_assoc (bits_of width x) (all_bits width xs) (all_bits width ys))

pub drop_all_bits : (width k : ℕ) (ns : List ℕ) → drop (k * width) (all_bits width ns) ≡ all_bits width (drop k ns)
drop_all_bits width zero ns = ap (λ n. drop n (all_bits width ns)) (zero-mul width)
drop_all_bits width (suc k) [] = drop_all (suc k * width) [] (omega arith)
drop_all_bits width (suc k) (n ∷ ns) =
    let shape : suc k * width ≡ width + k * width = omega arith in
    ap (λ m. drop m (bits_of width n ++ all_bits width ns)) shape
    ∙ sym (drop-drop (k * width) width (bits_of width n ++ all_bits width ns))
    ∙ ap (λ bits. drop (k * width) bits) (drop_at (bits_of width n) (all_bits width ns) width (length_bits_of width n))
    ∙ drop_all_bits width k ns

-- a group of the bits is the number there
pub number_of_row : (width row : ℕ) (ns : List ℕ) → row < length ns → number_of width (drop (row * width) (all_bits width ns)) ≡ get_or ns row 0 % 2 ^ width
number_of_row width row ns h =
    ap (λ bits. number_of width bits) (drop_all_bits width row ns ∙ ap (λ rest. all_bits width rest) (drop_more ns row 0 h))
    ∙ number_of_bits width (get_or ns row 0) (all_bits width (drop (row + 1) ns))

-- ---- reading

pub get_or_numbers_of : (width count : ℕ) (bits : List ℕ) (row d : ℕ) → row < count → get_or (numbers_of width count bits) row d ≡ number_of width (drop (row * width) bits)
get_or_numbers_of width zero bits row d h = absurd (omega arith)
get_or_numbers_of width (suc count) bits zero d h = ap (λ n. number_of width (drop n bits)) (sym (zero-mul width))
get_or_numbers_of width (suc count) bits (suc row) d h =
    let shape : width + row * width ≡ suc row * width = omega arith in
    get_or_numbers_of width count (drop width bits) row d (omega arith)
    ∙ ap (λ bs. number_of width bs) (drop-drop (row * width) width bits ∙ ap (λ n. drop n bits) shape)

-- one number more
pub numbers_of_more : (width count : ℕ) (bits : List ℕ) → numbers_of width (count + 1) bits ≡ numbers_of width count bits ++ number_of width (drop (count * width) bits) ∷ []
numbers_of_more width zero bits = ap (λ n. number_of width (drop n bits) ∷ []) (sym (zero-mul width))
numbers_of_more width (suc count) bits =
    let shape : suc count + 1 ≡ suc (count + 1) = omega arith in
    let place : width + count * width ≡ suc count * width = omega arith in
    ap (λ n. numbers_of width n bits) shape
    ∙ ap (λ rest. number_of width bits ∷ rest) (numbers_of_more width count (drop width bits))
    ∙ ap (λ n. number_of width bits ∷ (numbers_of width count (drop width bits) ++ number_of width n ∷ [])) (drop-drop (count * width) width bits ∙ ap (λ n. drop n bits) place)

pub numbers_of_same : (width count : ℕ) (xs ys : List ℕ) → ((i : ℕ) → i < count * width → get_or xs i 0 ≡ get_or ys i 0) → numbers_of width count xs ≡ numbers_of width count ys
numbers_of_same width zero xs ys h = refl
numbers_of_same width (suc count) xs ys h =
    let shape : suc count * width ≡ width + count * width = omega arith in
    let first : number_of width xs ≡ number_of width ys = number_of_same width xs ys (λ i l. h i (omega arith)) in
    let rest : numbers_of width count (drop width xs) ≡ numbers_of width count (drop width ys) =
    numbers_of_same width count (drop width xs) (drop width ys) (λ i l. get_or-drop width xs i 0 ∙ h (width + i) (omega arith) ∙ sym (get_or-drop width ys i 0)) in
    ap (λ n. n ∷ numbers_of width count (drop width xs)) first ∙ ap (λ ns. number_of width ys ∷ ns) rest

-- the numbers of their own bits, and of what follows
pub numbers_of_append : (width count : ℕ) (ns rest : List ℕ) → AllFit width ns → numbers_of width (length ns + count) (all_bits width ns ++ rest) ≡ ns ++ numbers_of width count rest
numbers_of_append width count [] rest h = ap (λ n. numbers_of width n rest) (zero-add count)
numbers_of_append width count (n ∷ ns) rest h =
    let shape : length (n ∷ ns) + count ≡ suc (length ns + count) = omega arith in
    let whole : (bits_of width n ++ all_bits width ns) ++ rest ≡ bits_of width n ++ (all_bits width ns ++ rest) = append_assoc (bits_of width n) (all_bits width ns) rest in
    let first : number_of width (bits_of width n ++ (all_bits width ns ++ rest)) ≡ n = number_of_bits width n (all_bits width ns ++ rest) ∙ mod-eq_of_lt (AllFit_head width n ns h) in
    let left : drop width (bits_of width n ++ (all_bits width ns ++ rest)) ≡ all_bits width ns ++ rest = drop_at (bits_of width n) (all_bits width ns ++ rest) width (length_bits_of width n) in
    ap (λ k. numbers_of width k ((bits_of width n ++ all_bits width ns) ++ rest)) shape
    ∙ ap (λ bits. numbers_of width (suc (length ns + count)) bits) whole
    ∙ ap (λ m. m ∷ numbers_of width (length ns + count) (drop width (bits_of width n ++ (all_bits width ns ++ rest)))) first
    ∙ ap (λ bits. n ∷ numbers_of width (length ns + count) bits) left
    ∙ ap (λ ms. n ∷ ms) (numbers_of_append width count ns rest (AllFit_tail width n ns h))

pub numbers_of_all : (width : ℕ) (ns : List ℕ) → AllFit width ns → numbers_of width (length ns) (all_bits width ns) ≡ ns
numbers_of_all width ns h =
    let shape : length ns ≡ length ns + 0 = omega arith in
    ap (λ k. numbers_of width k (all_bits width ns)) shape
    ∙ ap (λ bits. numbers_of width (length ns + 0) bits) (sym (append-nil (all_bits width ns)))
    ∙ numbers_of_append width 0 ns [] h
    ∙ append-nil ns

pub AllFit_numbers_of : (width count : ℕ) (bits : List ℕ) → AreBits bits → AllFit width (numbers_of width count bits)
AllFit_numbers_of width count bits h k d l =
    let within : k < count = omega (arith, l, length_numbers_of width count bits) in
    subst (λ n. n < 2 ^ width) (sym (get_or_numbers_of width count bits k d within)) (number_of_below width (drop (k * width) bits) (AreBits_drop (k * width) bits h))

-- bits in groups are the bits of the groups' numbers
pub get_or_all_bits : (width count : ℕ) (bits : List ℕ) (i : ℕ) → AreBits bits → i < count * width → get_or (all_bits width (numbers_of width count bits)) i 0 ≡ get_or bits i 0
get_or_all_bits width zero bits i h l = absurd (omega arith)
get_or_all_bits width (suc count) bits i h l =
    let first = bits_of width (number_of width bits) in
    let rest = all_bits width (numbers_of width count (drop width bits)) in
    let len : length first ≡ width = length_bits_of width (number_of width bits) in
    ⊎_elim
    (λ below. let inside : i < length first = omega arith in
    get_or_append_left first rest 0 i inside ∙ get_or_bits_of width bits i h below)
    (λ above. let place : width + (i - width) ≡ i = omega arith in
    get_or-append_right first rest width i 0 len above
    ∙ get_or_all_bits width count (drop width bits) (i - width) (AreBits_drop width bits h) (omega arith)
    ∙ get_or-drop width bits (i - width) 0
    ∙ ap (λ k. get_or bits k 0) place)
    (cases_lt i width)

pub take_numbers_of : (width k count : ℕ) (bits : List ℕ) → k ≤ count → take k (numbers_of width count bits) ≡ numbers_of width k bits
take_numbers_of width zero count bits h = refl
take_numbers_of width (suc k) zero bits h = absurd (omega arith)
take_numbers_of width (suc k) (suc count) bits h = ap (λ ns. number_of width bits ∷ ns) (take_numbers_of width k count (drop width bits) (omega arith))

-- the first numbers of their own bits
pub numbers_of_front : (width k : ℕ) (ns : List ℕ) → AllFit width ns → k ≤ length ns → numbers_of width k (all_bits width ns) ≡ take k ns
numbers_of_front width k ns h l = sym (take_numbers_of width k (length ns) (all_bits width ns) l) ∙ ap (λ ms. take k ms) (numbers_of_all width ns h)
