-- The parts of a line: its words, the numbers that they write, and what stands between.
use Rattle.std.proofs.Common.{◌≡◌, suc, ℕ, ◌+◌, ◌<◌, ◌≤◌, ◌==◌, ◌&&◌, Bool, true, false, if◌then◌else◌, List, [], ◌∷◌, ◌++◌, length, take, drop, Option, Some, None, refl, sym, ap, subst, ◌∙◌, arith, append_assoc}
use Rattle.std.specs.Prelude.{nat_eq, nat_le, nat_lt}
use Rattle.std.specs.Char.{is_ascii_digit}
use Rattle.std.specs.List.{list_all, starts_with}
use Rattle.std.specs.Str.Parse.{digits_value}
use Rattle.std.proofs.lemmas.Bool.{and_parts, and_from, cond-true, cond-false, eq-eqb, eqb-true, le-leb, leb-true, le-ltb, lt-ltb, ltb-true}
use Rattle.std.proofs.lemmas.Bool.Decides.{Decides-eqb}
use Rattle.std.proofs.lemmas.Grind.{common_steps}
use Rattle.std.proofs.lemmas.List.{length-append}
use Rattle.std.proofs.lemmas.Slice.Eq.{starts_is}
use Rattle.rt_lines.specs.Cluster.{next_field}
use Rattle.rt_lines.specs.ClusterLine.{Spells}
use Rattle.rt_lines.specs.Words.{field_of, after_prefix, is_numeral, number_of, parted_at, place_in, then_some}

pub same_some : {A : Type 0} (x y : A) → Some x ≡ Some y → x ≡ y
same_some x y e = cc

pub some_if : {A : Type 0} (b : Bool) (x y : A) → (if b then Some x else None) ≡ Some y → (b ≡ true) × (x ≡ y)
some_if true x y e = (refl, same_some x y e)
some_if false x y e = cc

pub then_found : {A B : Type 0} (o : Option A) (f : A → Option B) (y : B) → then_some o f ≡ Some y → (x : A) × (o ≡ Some x) × (f x ≡ Some y)
then_found None f y e = cc
then_found (Some x) f y e = (x, refl, e)

-- no byte of a text is this one
abbrev pub lacks : ℕ → List ℕ → Bool
lacks byte [] = true
lacks byte (b ∷ bs) = if b == byte then false else lacks byte bs

not_both : (test rest : Bool) → (if test then false else rest) ≡ true → (test ≡ false) × (rest ≡ true)
not_both true rest e = cc
not_both false rest e = (refl, e)

pub lacks_joined : (byte : ℕ) (a b : List ℕ) → lacks byte a ≡ true → lacks byte b ≡ true → lacks byte (a ++ b) ≡ true
lacks_joined byte [] b h k = k
lacks_joined byte (x ∷ a) b h k =
    let parts = not_both (x == byte) (lacks byte a) h in
    cond-false _ _ _ parts.0 ∙ lacks_joined byte a b parts.1 k

differs : (byte d : ℕ) (same : Bool) → (d == byte) ≡ same → is_ascii_digit byte ≡ false → is_ascii_digit d ≡ true → same ≡ false
differs byte d false is not_digit digit = refl
differs byte d true is not_digit digit =
    let both : is_ascii_digit byte ≡ true = subst (λ x. is_ascii_digit x ≡ true) (eqb-true d byte is) digit in
    sym both ∙ not_digit

digits_lack : (byte : ℕ) (ds : List ℕ) → is_ascii_digit byte ≡ false → list_all is_ascii_digit ds ≡ true → lacks byte ds ≡ true
digits_lack byte [] apart h = refl
digits_lack byte (d ∷ ds) apart h =
    let parts = and_parts (is_ascii_digit d) (list_all is_ascii_digit ds) h in
    cond-false _ _ _ (differs byte d (d == byte) refl apart parts.0) ∙ digits_lack byte ds apart parts.1

-- a number has no byte that is no digit
pub numeral_lacks : (byte : ℕ) (word : List ℕ) → is_ascii_digit byte ≡ false → is_numeral word ≡ true → lacks byte word ≡ true
numeral_lacks byte [] apart h = refl
numeral_lacks byte (b ∷ []) apart h = cond-false _ _ _ (differs byte b (b == byte) refl apart h)
numeral_lacks byte (b ∷ c ∷ bs) apart h = digits_lack byte (b ∷ c ∷ bs) apart (not_both (b == 48) (list_all is_ascii_digit (b ∷ c ∷ bs)) h).1

-- numbers
pub number_spells : (word : List ℕ) (n : ℕ) → number_of word ≡ Some n → Spells word n
number_spells word n e =
    let found = some_if (is_numeral word && nat_le (digits_value 10 word) 18446744073709551615) (digits_value 10 word) n e in
    let parts = and_parts (is_numeral word) (nat_le (digits_value 10 word) 18446744073709551615) found.0 in
    record { numeral = parts.0; value = sym found.1; fits = subst (λ k. k ≤ 18446744073709551615) found.1 (leb-true _ _ parts.1) }

pub spelled_number : (word : List ℕ) (n : ℕ) → Spells word n → number_of word ≡ Some n
spelled_number word n k =
    cond-true _ _ _ (and_from _ _ k.numeral (le-leb (digits_value 10 word) 18446744073709551615 (subst (λ m. m ≤ 18446744073709551615) k.value k.fits)))
    ∙ ap Some (sym k.value)

-- prefixes
pub prefix_said : (prefix text rest : List ℕ) → after_prefix prefix text ≡ Some rest → text ≡ prefix ++ rest
prefix_said prefix text rest e =
    let found = some_if (starts_with nat_eq text prefix) (drop (length prefix) text) rest e in
    (starts_is Decides-eqb text prefix (starts_with nat_eq text prefix) refl).0 found.0 ∙ ap (λ xs. prefix ++ xs) found.1

prefix_dropped : (prefix text : List ℕ) → drop (length prefix) (prefix ++ text) ≡ text
prefix_dropped [] text = refl
prefix_dropped (b ∷ bs) text = prefix_dropped bs text

pub prefix_read : (prefix text : List ℕ) → after_prefix prefix (prefix ++ text) ≡ Some text
prefix_read prefix text =
    cond-true _ _ _ ((starts_is Decides-eqb (prefix ++ text) prefix (starts_with nat_eq (prefix ++ text) prefix) refl).1 text refl)
    ∙ ap Some (prefix_dropped prefix text)

-- the word before the first of these bytes
abbrev IsSplit : ℕ → List ℕ → ℕ → Type 0
IsSplit byte bs n = bs ≡ take n bs ++ byte ∷ drop (n + 1) bs

taken_next : (n b : ℕ) (bs : List ℕ) → take (n + 1) (b ∷ bs) ≡ b ∷ take n bs
taken_next n b bs = let next : n + 1 ≡ suc n = omega arith in ap (λ k. take k (b ∷ bs)) next

dropped_next : (n b : ℕ) (bs : List ℕ) → drop (n + 1 + 1) (b ∷ bs) ≡ drop (n + 1) bs
dropped_next n b bs = let next : n + 1 + 1 ≡ suc (n + 1) = omega arith in ap (λ k. drop k (b ∷ bs)) next

split_next : (byte b : ℕ) (bs : List ℕ) (n : ℕ) (test : Bool) → (b == byte) ≡ test → (if test then 0 else n + 1) < length (b ∷ bs) → (n < length bs → IsSplit byte bs n)
    → IsSplit byte (b ∷ bs) (if test then 0 else n + 1)
split_next byte b bs n true is h more = ap (λ x. x ∷ bs) (eqb-true b byte is)
split_next byte b bs n false is h more =
    ap (λ xs. b ∷ xs) (more (omega arith))
    ∙ ap (λ xs. xs ++ byte ∷ drop (n + 1) bs) (sym (taken_next n b bs))
    ∙ ap (λ xs. take (n + 1) (b ∷ bs) ++ byte ∷ xs) (sym (dropped_next n b bs))

split_at : (byte : ℕ) (bs : List ℕ) → place_in byte bs < length bs → IsSplit byte bs (place_in byte bs)
split_at byte [] h = let bad : ⊥ = omega (arith, h) in absurd bad
split_at byte (b ∷ bs) h = split_next byte b bs (place_in byte bs) (b == byte) refl h (split_at byte bs)

pub parted_said : (byte : ℕ) (text : List ℕ) (parts : List ℕ × List ℕ) → parted_at byte text ≡ Some parts → text ≡ parts.0 ++ byte ∷ parts.1
parted_said byte text parts e =
    let found = some_if (nat_lt (place_in byte text) (length text)) (take (place_in byte text) text, drop (place_in byte text + 1) text) parts e in
    subst (λ p. text ≡ p.0 ++ byte ∷ p.1) found.1 (split_at byte text (ltb-true _ _ found.0))

place_before : (byte : ℕ) (word rest : List ℕ) → lacks byte word ≡ true → place_in byte (word ++ byte ∷ rest) ≡ length word
place_before byte [] rest h = cond-true _ _ _ (eq-eqb byte byte refl)
place_before byte (b ∷ bs) rest h =
    let parts = not_both (b == byte) (lacks byte bs) h in
    let behind = place_before byte bs rest parts.1 in
    cond-false _ _ _ parts.0 ∙ omega (arith, behind)

place_nowhere : (byte : ℕ) (word : List ℕ) → lacks byte word ≡ true → place_in byte word ≡ length word
place_nowhere byte [] h = refl
place_nowhere byte (b ∷ bs) h =
    let parts = not_both (b == byte) (lacks byte bs) h in
    let behind = place_nowhere byte bs parts.1 in
    cond-false _ _ _ parts.0 ∙ omega (arith, behind)

abbrev cut_at : List ℕ → ℕ → Option (List ℕ × List ℕ)
cut_at text k = if nat_lt k (length text) then Some (take k text, drop (k + 1) text) else None

taken : (byte : ℕ) (word rest : List ℕ) → take (length word) (word ++ byte ∷ rest) ≡ word
taken byte word rest = grind (arith, common_steps)

dropped_by : (byte : ℕ) (word rest : List ℕ) → drop (suc (length word)) (word ++ byte ∷ rest) ≡ rest
dropped_by byte [] rest = refl
dropped_by byte (b ∷ bs) rest = dropped_by byte bs rest

dropped : (byte : ℕ) (word rest : List ℕ) → drop (length word + 1) (word ++ byte ∷ rest) ≡ rest
dropped byte word rest =
    let next : length word + 1 ≡ suc (length word) = omega arith in
    ap (λ n. drop n (word ++ byte ∷ rest)) next ∙ dropped_by byte word rest

pub parted_read : (byte : ℕ) (word rest : List ℕ) → lacks byte word ≡ true → parted_at byte (word ++ byte ∷ rest) ≡ Some (word, rest)
parted_read byte word rest h =
    let text = word ++ byte ∷ rest in
    ap (cut_at text) (place_before byte word rest h)
    ∙ cond-true _ _ _ (lt-ltb (length word) (length text) (omega (arith, length-append word (byte ∷ rest))))
    ∙ ap (λ xs. Some (xs, drop (length word + 1) text)) (taken byte word rest)
    ∙ ap (λ xs. Some (word, xs)) (dropped byte word rest)

pub parted_none : (byte : ℕ) (word : List ℕ) → lacks byte word ≡ true → parted_at byte word ≡ None
parted_none byte word h =
    ap (cut_at word) (place_nowhere byte word h) ∙ cond-false _ _ _ (le-ltb (length word) (length word) (omega arith))

-- `KEY=N`
pub field_said : (key word : List ℕ) (n : ℕ) → field_of key word ≡ Some n → (digits : List ℕ) × (word ≡ key ++ digits) × Spells digits n
field_said key word n e =
    let found = then_found (after_prefix key word) number_of n e in
    (found.0, prefix_said key word found.0 found.1, number_spells found.0 n found.2)

pub field_read : (key word : List ℕ) (n : ℕ) → Spells word n → field_of key (key ++ word) ≡ Some n
field_read key word n k = ap (λ o. then_some o number_of) (prefix_read key word) ∙ spelled_number word n k

-- `KEY=N` and a space
abbrev pub counted : ℕ → List ℕ → ℕ × List ℕ
counted n rest = (n, rest)

abbrev with_parts : List ℕ → List ℕ × List ℕ → Option (ℕ × List ℕ)
with_parts key parts = then_some (field_of key parts.0) (λ n. Some (counted n parts.1))

pub record IsNext (key text : List ℕ) (found : ℕ × List ℕ) : Type 0 where
  pub word : List ℕ
  pub whole : text ≡ key ++ (word ++ 32 ∷ found.1)
  pub says : Spells word found.0

pub next_said : (key text : List ℕ) (found : ℕ × List ℕ) → next_field key text ≡ Some found → IsNext key text found
next_said key text found e =
    let (parts, apart, rest) = then_found (parted_at 32 text) (with_parts key) found e in
    let (n, is, same) = then_found (field_of key parts.0) (λ n. Some (counted n parts.1)) found rest in
    let (digits, whole, says) = field_said key parts.0 n is in
    let made : IsNext key text (counted n parts.1) =
    record {
      word = digits;
      whole = parted_said 32 text parts apart ∙ ap (λ xs. xs ++ 32 ∷ parts.1) whole ∙ append_assoc key digits (32 ∷ parts.1);
      says = says;
    } in
    subst (IsNext key text) (same_some (counted n parts.1) found same) made

pub next_read : (key word rest : List ℕ) (n : ℕ) → lacks 32 key ≡ true → Spells word n → next_field key (key ++ (word ++ 32 ∷ rest)) ≡ Some (counted n rest)
next_read key word rest n h k =
    ap (next_field key) (sym (append_assoc key word (32 ∷ rest)))
    ∙ ap (λ o. then_some o (with_parts key)) (parted_read 32 (key ++ word) rest (lacks_joined 32 key word h (numeral_lacks 32 word refl k.numeral)))
    ∙ ap (λ o. then_some o (λ n. Some (counted n rest))) (field_read key word n k)
