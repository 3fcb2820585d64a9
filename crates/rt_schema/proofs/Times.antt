-- The texts that are read as times are those that spell them.
use Rattle.std.proofs.Common.{◌≡◌, ◌⊎◌, inl, inr, suc, ℕ, ◌+◌, ◌-◌, ◌*◌, ◌<◌, ◌≤◌, ◌==◌, ◌&&◌, Bool, true, false, cond, if◌then◌else◌, List, [], ◌∷◌, ◌++◌, length, take, drop, get_or, Option, Some, None, option_map, option_and_then, refl, sym, ap, subst, ◌∙◌, arith, append_assoc}
use Rattle.std.specs.Prelude.{◌↔◌, nat_le, slice_index}
use Rattle.std.specs.Char.{is_ascii_digit, digit_value}
use Rattle.std.specs.List.{prefix_len}
use Rattle.std.specs.Str.{all_ascii_digits}
use Rattle.std.specs.Str.Parse.{digits_value_after}
use Rattle.std.proofs.Math.ListN.{get_or-eq_default}
use Rattle.std.proofs.Math.Seq.{get_or-append_seam}
use Rattle.std.proofs.lemmas.Bool.{and_parts, and_from, and_left, and_right, cond-true, cond-false, eqb-true, leb-true, le-leb}
use Rattle.std.proofs.lemmas.Bool.Decides.{nat_tests}
use Rattle.std.proofs.lemmas.Grind.{common_steps}
use Rattle.std.proofs.lemmas.List.{append-nil, take_more, take-append-drop}
use Rattle.std.proofs.lemmas.List.Sums.{prefix_len-le-length}
use Rattle.rt_schema.specs.Setting.{Part, digit_count, digits_of, if_ended, part_of, parts_of, read_digits, time_from, time_of_text}
use Rattle.rt_schema.specs.Spelling.{IsSum, SaysUnit, Spells, Writes}

digit_known : (d : ℕ) → is_ascii_digit d ≡ true → digit_value d ≡ d - 48
digit_known d h = grind (arith, nat_tests)

-- the number of digits, behind one that was written
digits_read : (n : ℕ) (ds : List ℕ) → all_ascii_digits ds ≡ true → read_digits n ds ≡ digits_value_after 10 n ds
digits_read n [] h = refl
digits_read n (d ∷ ds) h =
    let parts = and_parts (is_ascii_digit d) (all_ascii_digits ds) h in
    digits_read (10 * n + (d - 48)) ds parts.1 ∙ ap (λ k. digits_value_after 10 k ds) (omega (arith, digit_known d parts.0))

some_if : {A : Type 0} (b : Bool) (x y : A) → (if b then Some x else None) ≡ Some y → (b ≡ true) × (Some x ≡ Some y)
some_if true x y e = (refl, e)
some_if false x y e = cc

same_some : {A : Type 0} (x y : A) → Some x ≡ Some y → x ≡ y
same_some x y e = cc

digits_sound : (most : ℕ) (text : List ℕ) (n : ℕ) → digits_of most text ≡ Some n → Writes most text n
digits_sound most text n e =
    let found = some_if (all_ascii_digits text && nat_le 1 (length text) && nat_le (length text) most) (read_digits 0 text) n e in
    let sizes = and_parts (all_ascii_digits text && nat_le 1 (length text)) (nat_le (length text) most) found.0 in
    let digits = and_parts (all_ascii_digits text) (nat_le 1 (length text)) sizes.0 in
    record {
      digits = digits.0;
      some = leb-true 1 (length text) digits.1;
      few = leb-true (length text) most sizes.1;
      value = sym (same_some (read_digits 0 text) n found.1) ∙ digits_read 0 text digits.0;
    }

digits_complete : (most : ℕ) (text : List ℕ) (n : ℕ) → Writes most text n → digits_of most text ≡ Some n
digits_complete most text n w =
    cond-true _ _ _ (and_from _ _ (and_from _ _ w.digits (le-leb 1 (length text) w.some)) (le-leb (length text) most w.few))
    ∙ ap Some (digits_read 0 text w.digits ∙ sym w.value)

then_found : {A B : Type 0} (o : Option A) (f : A → Option B) (y : B) → option_and_then f o ≡ Some y → (x : A) × (o ≡ Some x) × (f x ≡ Some y)
then_found None f y e = cc
then_found (Some x) f y e = (x, refl, e)

map_found : {A B : Type 0} (o : Option A) (f : A → B) (y : B) → option_map f o ≡ Some y → (x : A) × (o ≡ Some x) × (f x ≡ y)
map_found None f y e = cc
map_found (Some x) f y e = (x, refl, same_some (f x) y e)

-- what stands behind the digits that a text begins with
abbrev stop_of : List ℕ → ℕ
stop_of text = slice_index text (digit_count text)

abbrev seen : ℕ → List ℕ → Part
seen count rest = record { count = count; rest = rest }

-- a part at a place
abbrev part_at : ℕ → ℕ → List ℕ → Option Part
part_at letter k text = if slice_index text k == letter then option_map (λ count. seen count (drop (k + 1) text)) (digits_of 9 (take k text)) else Some (seen 0 text)

pub record IsPart (letter : ℕ) (text : List ℕ) (part : Part) : Type 0 where
  pub front : List ℕ
  pub whole : text ≡ front ++ part.rest
  pub says : SaysUnit letter front part.count

letter_within : (letter : ℕ) (text : List ℕ) → 0 < letter → stop_of text ≡ letter → digit_count text < length text
letter_within letter text some e = by_size (digit_count text) (prefix_len-le-length is_ascii_digit text) e
  where
    by_size : (k : ℕ) → k ≤ length text → slice_index text k ≡ letter → k < length text
    by_size k most is = grind (arith, get_or-eq_default text 0)

part_said : (letter : ℕ) (text : List ℕ) (part : Part) (b : Bool) → 0 < letter → (stop_of text == letter) ≡ b →
    (if b then option_map (λ count. seen count (drop (digit_count text + 1) text)) (digits_of 9 (take (digit_count text) text)) else Some (seen 0 text)) ≡ Some part → IsPart letter text part
part_said letter text part true some is e =
    let k = digit_count text in
    let found = map_found (digits_of 9 (take k text)) (λ count. seen count (drop (k + 1) text)) part e in
    let there : get_or text k letter ≡ letter = by_default text k letter (letter_within letter text some (eqb-true _ _ is)) (eqb-true _ _ is) in
    record {
      front = take k text ++ letter ∷ [];
      whole = sym (take-append-drop (k + 1) text) ∙ ap (λ xs. xs ++ drop (k + 1) text) (take_more text k letter (letter_within letter text some (eqb-true _ _ is)) ∙ ap (λ c. take k text ++ c ∷ []) there) ∙ ap (λ p. (take k text ++ letter ∷ []) ++ p.rest) found.2;
      says = inr (take k text, refl, subst (λ p. Writes 9 (take k text) p.count) found.2 (digits_sound 9 (take k text) found.0 found.1));
    }
  where
    by_default : (xs : List ℕ) (i x : ℕ) → i < length xs → get_or xs i 0 ≡ x → get_or xs i x ≡ x
    by_default xs i x within e = grind (arith, common_steps)
part_said letter text part false some is e =
    let same : seen 0 text ≡ part = same_some _ _ e in
    record { front = []; whole = ap (λ p. p.rest) same; says = inl (refl, sym (ap (λ p. p.count) same)) }

part_sound : (letter : ℕ) (text : List ℕ) (part : Part) → 0 < letter → part_of letter text ≡ Some part → IsPart letter text part
part_sound letter text part some e = part_said letter text part (stop_of text == letter) some refl e

-- how many digits stand before a letter
count_before : (digits rest : List ℕ) (letter : ℕ) → all_ascii_digits digits ≡ true → is_ascii_digit letter ≡ false → digit_count (digits ++ letter ∷ rest) ≡ length digits
count_before [] rest letter h other = ap (λ b. cond b (1 + prefix_len is_ascii_digit rest) 0) other
count_before (d ∷ ds) rest letter h other =
    let parts = and_parts (is_ascii_digit d) (all_ascii_digits ds) h in
    ap (λ b. cond b (1 + prefix_len is_ascii_digit (ds ++ letter ∷ rest)) 0) parts.0 ∙ ap (λ n. 1 + n) (count_before ds rest letter parts.1 other) ∙ omega arith

joined : (digits rest : List ℕ) (letter : ℕ) → (digits ++ letter ∷ []) ++ rest ≡ digits ++ letter ∷ rest
joined digits rest letter = append_assoc digits (letter ∷ []) rest

taken : (digits rest : List ℕ) (letter : ℕ) → take (length digits) (digits ++ letter ∷ rest) ≡ digits
taken digits rest letter = grind (arith, common_steps)

dropped_next : (digits rest : List ℕ) (letter : ℕ) → drop (suc (length digits)) (digits ++ letter ∷ rest) ≡ rest
dropped_next [] rest letter = refl
dropped_next (d ∷ ds) rest letter = dropped_next ds rest letter

dropped : (digits rest : List ℕ) (letter : ℕ) → drop (length digits + 1) (digits ++ letter ∷ rest) ≡ rest
dropped digits rest letter = let next : length digits + 1 ≡ suc (length digits) = omega arith in ap (λ n. drop n (digits ++ letter ∷ rest)) next ∙ dropped_next digits rest letter

stop_behind : (digits rest : List ℕ) (letter : ℕ) → all_ascii_digits digits ≡ true → is_ascii_digit letter ≡ false → stop_of (digits ++ letter ∷ rest) ≡ letter
stop_behind digits rest letter h other = ap (slice_index (digits ++ letter ∷ rest)) (count_before digits rest letter h other) ∙ get_or-append_seam digits letter rest 0

same_letter : (letter : ℕ) → (letter == letter) ≡ true
same_letter letter = grind (arith, nat_tests)

part_there : (letter : ℕ) (digits rest : List ℕ) (n : ℕ) → is_ascii_digit letter ≡ false → Writes 9 digits n → part_of letter (digits ++ letter ∷ rest) ≡ Some (seen n rest)
part_there letter digits rest n other w =
    let text = digits ++ letter ∷ rest in
    ap (λ k. part_at letter k text) (count_before digits rest letter w.digits other)
    ∙ cond-true _ _ _ (ap (λ b. b == letter) (get_or-append_seam digits letter rest 0) ∙ same_letter letter)
    ∙ ap (λ xs. option_map (λ count. seen count (drop (length digits + 1) text)) (digits_of 9 xs)) (taken digits rest letter)
    ∙ ap (option_map (λ count. seen count (drop (length digits + 1) text))) (digits_complete 9 digits n w)
    ∙ ap (λ xs. Some (seen n xs)) (dropped digits rest letter)

-- a text begins with no part of a unit
abbrev Lacks : ℕ → List ℕ → Type 0
Lacks letter text = (stop_of text == letter) ≡ false

lacks_behind : (letter other : ℕ) (piece rest : List ℕ) (n : ℕ) → (other == letter) ≡ false → is_ascii_digit other ≡ false → SaysUnit other piece n → Lacks letter rest → Lacks letter (piece ++ rest)
lacks_behind letter other piece rest n apart digit (inl none) h = subst (λ p. Lacks letter (p ++ rest)) (sym none.0) h
lacks_behind letter other piece rest n apart digit (inr (digits, is, w)) h =
    let at : stop_of (piece ++ rest) ≡ other = ap (λ p. stop_of (p ++ rest)) is ∙ ap stop_of (joined digits rest other) ∙ stop_behind digits rest other w.digits digit in
    ap (λ b. b == letter) at ∙ apart

part_read : (letter : ℕ) (piece rest : List ℕ) (n : ℕ) → is_ascii_digit letter ≡ false → SaysUnit letter piece n → Lacks letter rest → part_of letter (piece ++ rest) ≡ Some (seen n rest)
part_read letter piece rest n digit (inl none) lacks =
    ap (λ p. part_of letter (p ++ rest)) none.0 ∙ cond-false _ _ _ lacks ∙ ap (λ count. Some (seen count rest)) (sym none.1)
part_read letter piece rest n digit (inr (digits, is, w)) lacks =
    ap (λ p. part_of letter (p ++ rest)) is ∙ ap (part_of letter) (joined digits rest letter) ∙ part_there letter digits rest n digit w

abbrev with_seconds : ℕ → ℕ → ℕ → Part → Option ℕ
with_seconds d h m p = if_ended p.rest (86400000 * d + 3600000 * h + 60000 * m + 1000 * p.count)

abbrev with_minutes : ℕ → ℕ → Part → Option ℕ
with_minutes d h p = option_and_then (with_seconds d h p.count) (part_of 115 p.rest)

abbrev with_hours : ℕ → Part → Option ℕ
with_hours d p = option_and_then (with_minutes d p.count) (part_of 109 p.rest)

abbrev with_days : Part → Option ℕ
with_days p = option_and_then (with_hours p.count) (part_of 104 p.rest)

sum_read : (text : List ℕ) (millis : ℕ) → IsSum text millis → parts_of text ≡ Some millis
sum_read text millis k =
    let last = k.seconds ++ [] in
    let later = k.minutes ++ last in
    let behind = k.hours ++ later in
    let whole : text ≡ k.days ++ behind = k.whole ∙ ap (λ xs. k.days ++ (k.hours ++ (k.minutes ++ xs))) (sym (append-nil k.seconds)) in
    let no_minutes : Lacks 109 last = lacks_behind 109 115 k.seconds [] k.s refl refl k.says_seconds refl in
    let no_hours : Lacks 104 later = lacks_behind 104 109 k.minutes last k.m refl refl k.says_minutes (lacks_behind 104 115 k.seconds [] k.s refl refl k.says_seconds refl) in
    let no_days : Lacks 100 behind =
    lacks_behind 100 104 k.hours later k.h refl refl k.says_hours (lacks_behind 100 109 k.minutes last k.m refl refl k.says_minutes (lacks_behind 100 115 k.seconds [] k.s refl refl k.says_seconds refl)) in
    ap parts_of whole
    ∙ ap (option_and_then with_days) (part_read 100 k.days behind k.d refl k.says_days no_days)
    ∙ ap (option_and_then (with_hours k.d)) (part_read 104 k.hours later k.h refl k.says_hours no_hours)
    ∙ ap (option_and_then (with_minutes k.d k.h)) (part_read 109 k.minutes last k.m refl k.says_minutes no_minutes)
    ∙ ap (option_and_then (with_seconds k.d k.h k.m)) (part_read 115 k.seconds [] k.s refl k.says_seconds refl)
    ∙ ap Some (sym k.sum)

-- a text that is empty, or isn't digits alone
abbrev IsMixed : List ℕ → Type 0
IsMixed text = (text ≡ []) ⊎ (all_ascii_digits text ≡ false)

letter_mixes : (letter : ℕ) (digits rest : List ℕ) → is_ascii_digit letter ≡ false → all_ascii_digits (digits ++ letter ∷ rest) ≡ false
letter_mixes letter [] rest other = and_left _ _ other
letter_mixes letter (d ∷ ds) rest other = and_right _ _ (letter_mixes letter ds rest other)

piece_mixes : (letter : ℕ) (piece rest : List ℕ) (n : ℕ) → is_ascii_digit letter ≡ false → SaysUnit letter piece n → IsMixed rest → IsMixed (piece ++ rest)
piece_mixes letter piece rest n other (inl none) h = subst (λ p. IsMixed (p ++ rest)) (sym none.0) h
piece_mixes letter piece rest n other (inr (digits, is, w)) h =
    inr (ap (λ p. all_ascii_digits (p ++ rest)) is ∙ ap all_ascii_digits (joined digits rest letter) ∙ letter_mixes letter digits rest other)

no_digits : (text : List ℕ) → 1 ≤ length text → IsMixed text → digits_of 18 text ≡ None
no_digits text some (inl none) = let size : length text ≡ 0 = ap length none in let bad : ⊥ = omega (arith, size, some) in absurd bad
no_digits text some (inr other) = cond-false _ _ _ (and_left _ _ (and_left _ _ other))

sum_mixed : (text : List ℕ) (millis : ℕ) → IsSum text millis → IsMixed text
sum_mixed text millis k =
    subst IsMixed (sym (k.whole ∙ ap (λ xs. k.days ++ (k.hours ++ (k.minutes ++ xs))) (sym (append-nil k.seconds))))
    (piece_mixes 100 k.days _ k.d refl k.says_days (piece_mixes 104 k.hours _ k.h refl k.says_hours (piece_mixes 109 k.minutes _ k.m refl k.says_minutes (piece_mixes 115 k.seconds [] k.s refl k.says_seconds (inl refl)))))

from_parts : (text : List ℕ) → 1 ≤ length text → time_from None text ≡ parts_of text
from_parts [] some = let bad : ⊥ = omega (arith, some) in absurd bad
from_parts (b ∷ bs) some = refl

spelled_read : (text : List ℕ) (millis : ℕ) → Spells text millis → time_of_text text ≡ Some millis
spelled_read text millis (inl w) = ap (λ o. time_from o text) (digits_complete 18 text millis w)
spelled_read text millis (inr k) = ap (λ o. time_from o text) (no_digits text k.some (sum_mixed text millis k)) ∙ from_parts text k.some ∙ sum_read text millis k

ended : (rest : List ℕ) (total millis : ℕ) → if_ended rest total ≡ Some millis → (rest ≡ []) × (total ≡ millis)
ended [] total millis e = (refl, same_some total millis e)
ended (b ∷ bs) total millis e = cc

whole_sum : (text days a hours b minutes c seconds d : List ℕ) → text ≡ days ++ a → a ≡ hours ++ b → b ≡ minutes ++ c → c ≡ seconds ++ d → d ≡ [] → text ≡ days ++ (hours ++ (minutes ++ seconds))
whole_sum text days a hours b minutes c seconds d e f g h k =
    e ∙ ap (λ xs. days ++ xs) (f ∙ ap (λ xs. hours ++ xs) (g ∙ ap (λ xs. minutes ++ xs) (h ∙ ap (λ xs. seconds ++ xs) k ∙ append-nil seconds)))

parts_sound : (text : List ℕ) (millis : ℕ) → 1 ≤ length text → parts_of text ≡ Some millis → IsSum text millis
parts_sound text millis some e =
    let a = then_found (part_of 100 text) with_days millis e in
    let b = then_found (part_of 104 a.0.rest) (with_hours a.0.count) millis a.2 in
    let c = then_found (part_of 109 b.0.rest) (with_minutes a.0.count b.0.count) millis b.2 in
    let f = then_found (part_of 115 c.0.rest) (with_seconds a.0.count b.0.count c.0.count) millis c.2 in
    let days = part_sound 100 text a.0 (omega arith) a.1 in
    let hours = part_sound 104 a.0.rest b.0 (omega arith) b.1 in
    let minutes = part_sound 109 b.0.rest c.0 (omega arith) c.1 in
    let seconds = part_sound 115 c.0.rest f.0 (omega arith) f.1 in
    let end = ended f.0.rest _ millis f.2 in
    record {
      days = days.front;
      hours = hours.front;
      minutes = minutes.front;
      seconds = seconds.front;
      d = a.0.count;
      h = b.0.count;
      m = c.0.count;
      s = f.0.count;
      whole = whole_sum text days.front a.0.rest hours.front b.0.rest minutes.front c.0.rest seconds.front f.0.rest days.whole hours.whole minutes.whole seconds.whole end.0;
      some = some;
      says_days = days.says;
      says_hours = hours.says;
      says_minutes = minutes.says;
      says_seconds = seconds.says;
      sum = sym end.1;
    }

read_spelled_by : (text : List ℕ) (millis : ℕ) (o : Option ℕ) → digits_of 18 text ≡ o → time_from o text ≡ Some millis → Spells text millis
read_spelled_by text millis (Some n) is e = inl (digits_sound 18 text millis (is ∙ e))
read_spelled_by [] millis None is e = cc
read_spelled_by (b ∷ bs) millis None is e = inr (parts_sound (b ∷ bs) millis (omega arith) e)

pub times_spelled : (text : List ℕ) (millis : ℕ) → (time_of_text text ≡ Some millis) ↔ Spells text millis
times_spelled text millis = (read_spelled_by text millis (digits_of 18 text) refl, spelled_read text millis)
