-- What a writer's steps do to its bits.
use Rattle.std.proofs.Common.{◌≡◌, ℕ, zero, suc, ◌+◌, ◌*◌, ◌-◌, ◌/◌, ◌%◌, ◌^◌, ◌<◌, ◌≤◌, List, [], ◌∷◌, ◌++◌, length, get_or, take, drop, arith, sym, ◌∙◌, ap, subst, append_assoc, ⊎_elim, bit_or, bit_and}
use Rattle.std.proofs.lemmas.Nat.{pow_pos, div-mul-add, mod-mul-add, shr_below, shl_below, mul-le}
use Rattle.std.proofs.lemmas.List.{length-append, get_or_append_left, get_or-append_right, get_or_past, drop-drop, take-append-drop, length-take-le, length-drop, append-nil, take_more, take_all}
use Rattle.std.proofs.lemmas.Bool.{cases_lt}
use Rattle.std.proofs.lemmas.List.Elements.{All-append}
use Rattle.std.proofs.Math.Nat.{mod-lt, mod-eq_of_lt}
use Rattle.std.specs.Int.{to_be_bytes, w32}
use Rattle.rt_pack.specs.Bits.{bits_of, all_bits, number_of, numbers_of}
use Rattle.rt_pack.specs.Packed.{bytes_for, packed}
use Rattle.rt_pack.proofs.BitLists.{AreBits, AllFit, length_bits_of, length_all_bits, number_of_add, number_of_same, AreBits_all_bits, AreBits_drop, number_of_below, bits_of_split, bits_of_mod, bits_of_cat, get_or_bits_of_zero}
use Rattle.rt_pack.proofs.Groups.{all_bits_append, drop_all_bits, numbers_of_more, numbers_of_append, numbers_of_same, numbers_of_front}
use Rattle.rt_pack.proofs.Words.{put_behind, behind_below, low_bits, all_bits_word}

-- ---- a number behind the bits that are held

pub joined_below : (held count number width n : ℕ) → held < 2 ^ count → count + width ≤ 64 → number < 2 ^ width → n ≡ number → bit_or (held * 2 ^ width % 2 ^ 64) n < 2 ^ (count + width)
joined_below held count number width n below room fits e =
    subst (λ m. m < 2 ^ (count + width)) (sym (ap (λ m. bit_or (held * 2 ^ width % 2 ^ 64) m) e ∙ put_behind held count width number below room fits))
    (behind_below held count width number below fits)

pub joined_bits : (held count number width n : ℕ) → held < 2 ^ count → count + width ≤ 64 → number < 2 ^ width → n ≡ number →
    bits_of (count + width) (bit_or (held * 2 ^ width % 2 ^ 64) n) ≡ bits_of count held ++ bits_of width number
joined_bits held count number width n below room fits e =
    ap (λ m. bits_of (count + width) m) (ap (λ m. bit_or (held * 2 ^ width % 2 ^ 64) m) e ∙ put_behind held count width number below room fits)
    ∙ bits_of_cat count width held number fits

-- the bits so far and those of a number
pub joined_view : (bytes now : List ℕ) (held count number width n : ℕ) → held < 2 ^ count → count + width ≤ 64 → number < 2 ^ width → n ≡ number →
    all_bits 8 bytes ++ bits_of count held ≡ now →
    all_bits 8 bytes ++ bits_of (count + width) (bit_or (held * 2 ^ width % 2 ^ 64) n) ≡ now ++ bits_of width number
joined_view bytes now held count number width n below room fits e view =
    ap (λ bits. all_bits 8 bytes ++ bits) (joined_bits held count number width n below room fits e)
    ∙ sym (append_assoc (all_bits 8 bytes) (bits_of count held) (bits_of width number))
    ∙ ap (λ bits. bits ++ bits_of width number) view

-- the first 32 bits are a word
pub word_below : (held count : ℕ) → held < 2 ^ count → 32 ≤ count → held / 2 ^ (count - 32) < 2 ^ 32
word_below held count below enough =
    let shape : 32 + (count - 32) ≡ count = omega arith in
    shr_below held 32 (count - 32) (subst (λ n. held < 2 ^ n) (sym shape) below)

-- a word that is written leaves the bits as they are
pub word_written : (bytes news : List ℕ) (held count : ℕ) → 32 ≤ count → count < 64 →
    news ≡ bytes ++ to_be_bytes w32 (held / 2 ^ (count - 32)) →
    all_bits 8 news ++ bits_of (count - 32) (bit_and held (1 * 2 ^ (count - 32) % 2 ^ 64 - 1)) ≡ all_bits 8 bytes ++ bits_of count held
word_written bytes news held count enough few e =
    let left = count - 32 in
    let word = held / 2 ^ left in
    let shape : 32 + left ≡ count = omega arith in
    ap (λ bs. all_bits 8 bs ++ bits_of left (bit_and held (1 * 2 ^ left % 2 ^ 64 - 1))) e
    ∙ ap (λ bits. bits ++ bits_of left (bit_and held (1 * 2 ^ left % 2 ^ 64 - 1))) (all_bits_append 8 bytes (to_be_bytes w32 word) ∙ ap (λ bits. all_bits 8 bytes ++ bits) (all_bits_word word))
    ∙ ap (λ bits. (all_bits 8 bytes ++ bits_of 32 word) ++ bits) (ap (λ n. bits_of left n) (low_bits held left (omega arith)) ∙ bits_of_mod left held)
    ∙ append_assoc (all_bits 8 bytes) (bits_of 32 word) (bits_of left held)
    ∙ ap (λ bits. all_bits 8 bytes ++ bits) (sym (bits_of_split 32 left held) ∙ ap (λ n. bits_of n held) shape)

-- ---- the last bytes

pub AllFit_word : (n : ℕ) → AllFit 8 (to_be_bytes w32 n)
AllFit_word n zero d l = mod-lt (n / 2 ^ 24) (omega arith)
AllFit_word n (suc zero) d l = mod-lt (n / 2 ^ 16) (omega arith)
AllFit_word n (suc (suc zero)) d l = mod-lt (n / 2 ^ 8) (omega arith)
AllFit_word n (suc (suc (suc zero))) d l = mod-lt n (omega arith)
AllFit_word n (suc (suc (suc (suc k)))) d l = absurd (omega arith)

-- the bits that are held, moved to the front of a word, have zeros behind them
held_first : (held count i : ℕ) → count < 32 → get_or (bits_of 32 (held * 2 ^ (32 - count))) i 0 ≡ get_or (bits_of count held) i 0
held_first held count i few =
    let r = 32 - count in
    let shape : count + r ≡ 32 = omega arith in
    let none : held * 2 ^ r ≡ held * 2 ^ r + 0 = omega arith in
    let whole : bits_of 32 (held * 2 ^ r) ≡ bits_of count held ++ bits_of r 0 =
    ap (λ n. bits_of 32 n) none ∙ ap (λ n. bits_of n (held * 2 ^ r + 0)) (sym shape) ∙ bits_of_cat count r held 0 (pow_pos r) in
    ap (λ bits. get_or bits i 0) whole
    ∙ ⊎_elim
    (λ below. let within : i < length (bits_of count held) = omega (arith, length_bits_of count held) in get_or_append_left (bits_of count held) (bits_of r 0) 0 i within)
    (λ above. get_or-append_right (bits_of count held) (bits_of r 0) count i 0 (length_bits_of count held) above
    ∙ get_or_bits_of_zero r (i - count)
    ∙ sym (get_or_past (bits_of count held) i 0 (omega (arith, length_bits_of count held))))
    (cases_lt i count)

pub last_word_below : (held count : ℕ) → held < 2 ^ count → count < 32 → held * 2 ^ (32 - count) % 2 ^ 64 < 2 ^ 32
last_word_below held count below few =
    let shape : count + (32 - count) ≡ 32 = omega arith in
    let fits : held * 2 ^ (32 - count) < 2 ^ 32 = subst (λ n. held * 2 ^ (32 - count) < 2 ^ n) shape (shl_below held count (32 - count) below) in
    let same : held * 2 ^ (32 - count) % 2 ^ 64 ≡ held * 2 ^ (32 - count) = mod-eq_of_lt (omega arith) in
    omega arith

-- the bytes of all bits
pub finished : (bytes news now : List ℕ) (held count filled : ℕ) → AllFit 8 bytes → count < 32 → held < 2 ^ count →
    filled ≡ (count + 7) / 8 →
    news ≡ bytes ++ take filled (to_be_bytes w32 (held * 2 ^ (32 - count) % 2 ^ 64)) →
    all_bits 8 bytes ++ bits_of count held ≡ now →
    news ≡ numbers_of 8 ((length now + 7) / 8) now
finished bytes news now held count filled fit few below f e view =
    let shape : count + (32 - count) ≡ 32 = omega arith in
    let fits : held * 2 ^ (32 - count) < 2 ^ 32 = subst (λ n. held * 2 ^ (32 - count) < 2 ^ n) shape (shl_below held count (32 - count) below) in
    let word : held * 2 ^ (32 - count) % 2 ^ 64 ≡ held * 2 ^ (32 - count) = mod-eq_of_lt (omega arith) in
    let last = to_be_bytes w32 (held * 2 ^ (32 - count)) in
    let size : length now ≡ length bytes * 8 + count = omega (arith, ap length view, length-append (all_bits 8 bytes) (bits_of count held), length_all_bits 8 bytes, length_bits_of count held) in
    let number : (length now + 7) / 8 ≡ length bytes + filled = omega arith in
    let tail : numbers_of 8 filled (bits_of count held) ≡ take filled last =
    numbers_of_same 8 filled (bits_of count held) (bits_of 32 (held * 2 ^ (32 - count))) (λ i l. sym (held_first held count i few))
    ∙ ap (λ bits. numbers_of 8 filled bits) (sym (all_bits_word (held * 2 ^ (32 - count))))
    ∙ numbers_of_front 8 filled last (AllFit_word (held * 2 ^ (32 - count))) (omega arith) in
    e
    ∙ ap (λ n. bytes ++ take filled (to_be_bytes w32 n)) word
    ∙ ap (λ bs. bytes ++ bs) (sym tail)
    ∙ sym (numbers_of_append 8 filled bytes (bits_of count held) fit)
    ∙ ap (λ bits. numbers_of 8 (length bytes + filled) bits) view
    ∙ ap (λ n. numbers_of 8 n now) (sym number)

-- ---- one row of packed bytes

-- a number from the middle of bits
number_within : (skipped width spare : ℕ) (bits : List ℕ) → AreBits bits → number_of (skipped + width + spare) bits / 2 ^ spare % 2 ^ width ≡ number_of width (drop skipped bits)
number_within skipped width spare bits h =
    let low : number_of spare (drop (skipped + width) bits) < 2 ^ spare = number_of_below spare (drop (skipped + width) bits) (AreBits_drop (skipped + width) bits h) in
    let middle : number_of width (drop skipped bits) < 2 ^ width = number_of_below width (drop skipped bits) (AreBits_drop skipped bits h) in
    ap (λ n. n / 2 ^ spare % 2 ^ width) (number_of_add (skipped + width) spare bits)
    ∙ ap (λ n. n % 2 ^ width) (div-mul-add (number_of (skipped + width) bits) (2 ^ spare) (number_of spare (drop (skipped + width) bits)) low)
    ∙ ap (λ n. n % 2 ^ width) (number_of_add skipped width bits)
    ∙ mod-mul-add (number_of skipped bits) (2 ^ width) (number_of width (drop skipped bits)) middle

-- the bytes that have the bits are enough
pub got : (bytes : List ℕ) (start width last window : ℕ) → width ≤ 32 → start + width ≤ 8 * length bytes →
    last ≡ (start + width + 7) / 8 →
    window ≡ number_of (8 * length (take (last - start / 8) (drop (start / 8) bytes))) (all_bits 8 (take (last - start / 8) (drop (start / 8) bytes))) →
    bit_and (window / 2 ^ (last * 8 - (start + width))) (1 * 2 ^ width % 2 ^ 64 - 1) ≡ number_of width (drop start (all_bits 8 bytes))
got bytes start width last window narrow there e w =
    let first = start / 8 in
    let bits = drop (first * 8) (all_bits 8 bytes) in
    let skipped = start - first * 8 in
    let spare = last * 8 - (start + width) in
    let piece = take (last - first) (drop first bytes) in
    let behind = drop (last - first) (drop first bytes) in
    let begins : first * 8 + skipped ≡ start = omega arith in
    let len : length piece ≡ last - first = length-take-le (last - first) (drop first bytes) (omega (arith, length-drop first bytes)) in
    let shape : 8 * length piece ≡ skipped + width + spare = omega arith in
    let whole : bits ≡ all_bits 8 piece ++ all_bits 8 behind =
    drop_all_bits 8 first bytes ∙ ap (λ bs. all_bits 8 bs) (sym (take-append-drop (last - first) (drop first bytes))) ∙ all_bits_append 8 piece behind in
    let same : number_of (8 * length piece) (all_bits 8 piece) ≡ number_of (skipped + width + spare) bits =
    number_of_same (8 * length piece) (all_bits 8 piece) bits (λ i l. sym (ap (λ bs. get_or bs i 0) whole
    ∙ (let within : i < length (all_bits 8 piece) = omega (arith, length_all_bits 8 piece) in get_or_append_left (all_bits 8 piece) (all_bits 8 behind) 0 i within)))
    ∙ ap (λ n. number_of n bits) shape in
    low_bits (window / 2 ^ spare) width (omega arith)
    ∙ ap (λ n. n / 2 ^ spare % 2 ^ width) (w ∙ same)
    ∙ number_within skipped width spare bits (AreBits_drop (first * 8) (all_bits 8 bytes) (AreBits_all_bits 8 bytes))
    ∙ ap (λ bs. number_of width bs) (drop-drop skipped (first * 8) (all_bits 8 bytes) ∙ ap (λ n. drop n (all_bits 8 bytes)) begins)

-- the bytes of a word beside others
pub AllFit_written : (bytes news : List ℕ) (n : ℕ) → AllFit 8 bytes → news ≡ bytes ++ to_be_bytes w32 n → AllFit 8 news
AllFit_written bytes news n fit e = subst (AllFit 8) (sym e) (All-append (λ b. b < 2 ^ 8) bytes (to_be_bytes w32 n) fit (AllFit_word n))

pub masked_below : (held count : ℕ) → count < 64 → bit_and held (1 * 2 ^ count % 2 ^ 64 - 1) < 2 ^ count
masked_below held count few = subst (λ n. n < 2 ^ count) (sym (low_bits held count few)) (mod-lt held (pow_pos count))

-- ---- the ids one after another

pub pack_more : (width i id : ℕ) (ids old new : List ℕ) → i < length ids → id ≡ get_or ids i 0 → old ≡ all_bits width (take i ids) → new ≡ old ++ bits_of width id → new ≡ all_bits width (take (i + 1) ids)
pack_more width i id ids old new within e was is =
    is
    ∙ ap (λ bits. bits ++ bits_of width id) was
    ∙ ap (λ bits. all_bits width (take i ids) ++ bits) (sym (append-nil (bits_of width id)))
    ∙ sym (all_bits_append width (take i ids) (id ∷ []))
    ∙ ap (λ n. all_bits width (take i ids ++ n ∷ [])) e
    ∙ ap (λ ns. all_bits width ns) (sym (take_more ids i 0 within))

pub packed_from : (width i : ℕ) (ids bits bytes : List ℕ) → length ids ≤ i → bits ≡ all_bits width (take i ids) → bytes ≡ numbers_of 8 ((length bits + 7) / 8) bits → bytes ≡ packed width ids
packed_from width i ids bits bytes past was is =
    let whole : bits ≡ all_bits width ids = was ∙ ap (λ ns. all_bits width ns) (take_all i ids past) in
    let size : length bits ≡ length ids * width = ap length whole ∙ length_all_bits width ids in
    is ∙ ap (λ n. numbers_of 8 ((n + 7) / 8) bits) size ∙ ap (λ bs. numbers_of 8 (bytes_for width (length ids)) bs) whole

pub unpack_more : (width row : ℕ) (bits old new : List ℕ) (id : ℕ) → old ≡ numbers_of width row bits → id ≡ number_of width (drop (row * width) bits) → new ≡ old ++ id ∷ [] → new ≡ numbers_of width (row + 1) bits
unpack_more width row bits old new id was e is =
    is ∙ ap (λ ns. ns ++ id ∷ []) was ∙ ap (λ n. numbers_of width row bits ++ n ∷ []) e ∙ sym (numbers_of_more width row bits)

pub left_more : (width row : ℕ) (bits old new : List ℕ) → old ≡ drop (row * width) bits → new ≡ drop width old → new ≡ drop ((row + 1) * width) bits
left_more width row bits old new was is =
    let shape : row * width + width ≡ (row + 1) * width = omega arith in
    is ∙ ap (λ bs. drop width bs) was ∙ drop-drop width (row * width) bits ∙ ap (λ n. drop n bits) shape

pub left_enough : (width row rows : ℕ) (bytes left : List ℕ) → rows * width ≤ 8 * length bytes → row < rows → left ≡ drop (row * width) (all_bits 8 bytes) → width ≤ length left
left_enough width row rows bytes left there below e =
    omega (arith, ap length e, length-drop (row * width) (all_bits 8 bytes), length_all_bits 8 bytes, mul-le (row + 1) width rows width (omega arith) (omega arith))
