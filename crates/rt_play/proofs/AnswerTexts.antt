-- The text of an answer tells which ranges it names, what it misses, and its rows.
use Rattle.std.proofs.Common.{◌≡◌, ◌<◌, ◌⊎◌, inl, inr, ℕ, ℤ, true, false, List, [], ◌∷◌, ◌++◌, flat_map, map, Option, Some, None, refl, sym, ◌∙◌, ap, arith, append_assoc}
use Rattle.std.specs.Prelude.{IfSome, codes, decimal}
use Rattle.std.specs.Fmt.{signed_decimal}
use Rattle.std.proofs.lemmas.Fmt.{decimal_injective}
use Rattle.std.proofs.lemmas.List.{append_cancel_left}
use Rattle.std.proofs.lemmas.Option.{none-some, same_Some}
use Rattle.rt_base.specs.declared.numbers.Partition.{Partition}
use Rattle.rt_base.specs.declared.numbers.Sequence.{Sequence}
use Rattle.rt_base.specs.declared.range.Range.{Range}
use Rattle.rt_lines.specs.Answer.{array_of, cell_text, escaped, json_text, missing_field, missing_text, range_text, ranges_field, row_text, rows_field, truth_text}
use Rattle.rt_model.proofs.Histories.{same_partition}
use Rattle.rt_model.specs.declared.answer.Answer.{Answer}
use Rattle.rt_model.specs.declared.answer.Cell.{Cell}
use Rattle.rt_model.specs.declared.answer.Cell.TheVariants as cell
use Rattle.rt_model.specs.declared.answer.ResultRow.{ResultRow}
use Rattle.rt_play.proofs.AllHave.{all_has}
use Rattle.rt_play.proofs.ToldItems.{array_onto, bracket, comma, onto, same_items, same_told}
use Rattle.rt_play.proofs.ToldNumbers.{IsItem, NoDigit, heads, no_decimal, no_signed, same_decimal, same_signed, signed_first, tails}
use Rattle.rt_play.proofs.ToldStrings.{same_json}
use Rattle.rt_play.specs.AnswerTexts.{AreWords, CellTold, IsWord, cell_told, nothing, number, row_told, string, truth}
use Rattle.rt_report.specs.BrokerTexts.{answer_line}
use Rattle.rt_schema.specs.declared.value.Value.TheVariants as value

-- ---- ranges

abbrev Named : Type 0
Named = Partition × Range

abbrev NamedTold : Type 0
NamedTold = List ℕ × List ℕ × List ℕ

-- the digits of its numbers
abbrev range_told : Named → NamedTold
range_told r = (decimal r.0.0, decimal r.1.start.0, decimal r.1.end.0)

abbrev FitsRange : Named → Type 0
FitsRange r = IsWord r.0.0 × IsWord r.1.start.0 × IsWord r.1.end.0

-- a range's text, and what stands behind it
range_onto : (r : Named) (xs : List ℕ) → range_text r ++ xs ≡ 91 ∷ (decimal r.0.0 ++ 44 ∷ (decimal r.1.start.0 ++ 44 ∷ (decimal r.1.end.0 ++ 93 ∷ xs)))
range_onto r xs =
    let end = decimal r.1.end.0 ++ codes "]" in
    let start = decimal r.1.start.0 ++ (codes "," ++ end) in
    ap (λ t. 91 ∷ t)
    (append_assoc (decimal r.0.0) (codes "," ++ start) xs
    ∙ ap (λ t. decimal r.0.0 ++ 44 ∷ t)
    (append_assoc (decimal r.1.start.0) (codes "," ++ end) xs
    ∙ ap (λ t. decimal r.1.start.0 ++ 44 ∷ t) (append_assoc (decimal r.1.end.0) (codes "]") xs)))

same_range : (r s : Named) (xs ys : List ℕ) → NoDigit xs → NoDigit ys → range_text r ++ xs ≡ range_text s ++ ys → (range_told r ≡ range_told s) × (xs ≡ ys)
same_range r s xs ys k l e =
    let f = sym (range_onto r xs) ∙ e ∙ range_onto s ys in
    let p = same_decimal r.0.0 s.0.0 _ _ comma comma (tails 91 91 _ _ f) in
    let a = same_decimal r.1.start.0 s.1.start.0 _ _ comma comma (tails 44 44 _ _ p.1) in
    let b = same_decimal r.1.end.0 s.1.end.0 _ _ bracket bracket (tails 44 44 _ _ a.1) in
    let one : List ℕ → NamedTold = λ ds. (ds, decimal r.1.start.0, decimal r.1.end.0) in
    let two : List ℕ → NamedTold = λ ds. (decimal s.0.0, ds, decimal r.1.end.0) in
    let three : List ℕ → NamedTold = λ ds. (decimal s.0.0, decimal s.1.start.0, ds) in
    (ap one p.0 ∙ ap two a.0 ∙ ap three b.0, tails 93 93 xs ys b.1)

range_begins : (r : Named) → IsItem (range_text r)
range_begins r = λ e. omega (arith, e)

one_range : (r s : Named) → FitsRange r → FitsRange s → range_told r ≡ range_told s → r ≡ s
one_range r s k l e =
    let one : ℕ → Named = λ n. (record { 0 = n }, r.1) in
    let two : ℕ → Named = λ n. (s.0, record { start = record { 0 = n }; end = r.1.end }) in
    let three : ℕ → Named = λ n. (s.0, record { start = s.1.start; end = record { 0 = n } }) in
    ap one (decimal_injective r.0.0 s.0.0 k.0 l.0 (ap (λ (t : NamedTold). t.0) e))
    ∙ ap two (decimal_injective r.1.start.0 s.1.start.0 k.1 l.1 (ap (λ (t : NamedTold). t.1) e))
    ∙ ap three (decimal_injective r.1.end.0 s.1.end.0 k.2 l.2 (ap (λ (t : NamedTold). t.2) e))

-- ---- what is missing

abbrev Missed : Type 0
Missed = Partition × Option Sequence

abbrev MissedTold : Type 0
MissedTold = List ℕ × Option (List ℕ)

-- the digits of its numbers
abbrev missed_told : Missed → MissedTold
missed_told (p, None) = (decimal p.0, None)
missed_told (p, Some s) = (decimal p.0, Some (decimal s.0))

abbrev FitsMissed : Missed → Type 0
FitsMissed m = IsWord m.0.0 × IfSome m.1 (λ s. IsWord s.0)

missed_onto : (p : Partition) (s : Sequence) (xs : List ℕ) → missing_text (p, Some s) ++ xs ≡ 91 ∷ (decimal p.0 ++ 44 ∷ (decimal s.0 ++ 93 ∷ xs))
missed_onto p s xs =
    ap (λ t. 91 ∷ t)
    (append_assoc (decimal p.0) (codes "," ++ (decimal s.0 ++ codes "]")) xs ∙ ap (λ t. decimal p.0 ++ 44 ∷ t) (append_assoc (decimal s.0) (codes "]") xs))

lost_onto : (p : Partition) (xs : List ℕ) → missing_text (p, None) ++ xs ≡ 91 ∷ (decimal p.0 ++ (codes ",null]" ++ xs))
lost_onto p xs = ap (λ t. 91 ∷ t) (append_assoc (decimal p.0) (codes ",null]") xs)

-- a number isn't `null`
no_null : 110 < 48 ⊎ 57 < 110
no_null = inr (omega arith)

same_missed : (m n : Missed) (xs ys : List ℕ) → NoDigit xs → NoDigit ys → missing_text m ++ xs ≡ missing_text n ++ ys → (missed_told m ≡ missed_told n) × (xs ≡ ys)
same_missed (p, None) (q, None) xs ys k l e =
    let f = sym (lost_onto p xs) ∙ e ∙ lost_onto q ys in
    let a = same_decimal p.0 q.0 _ _ comma comma (tails 91 91 _ _ f) in
    let one : List ℕ → MissedTold = λ ds. (ds, None) in
    (ap one a.0, append_cancel_left (codes ",null]") xs ys a.1)
same_missed (p, None) (q, Some t) xs ys k l e =
    let f = sym (lost_onto p xs) ∙ e ∙ missed_onto q t ys in
    let a = same_decimal p.0 q.0 _ _ comma comma (tails 91 91 _ _ f) in
    absurd (no_decimal t.0 110 (93 ∷ ys) (codes "ull]" ++ xs) no_null (sym (tails 44 44 _ _ a.1)))
same_missed (p, Some s) (q, None) xs ys k l e =
    let f = sym (missed_onto p s xs) ∙ e ∙ lost_onto q ys in
    let a = same_decimal p.0 q.0 _ _ comma comma (tails 91 91 _ _ f) in
    absurd (no_decimal s.0 110 (93 ∷ xs) (codes "ull]" ++ ys) no_null (tails 44 44 _ _ a.1))
same_missed (p, Some s) (q, Some t) xs ys k l e =
    let f = sym (missed_onto p s xs) ∙ e ∙ missed_onto q t ys in
    let a = same_decimal p.0 q.0 _ _ comma comma (tails 91 91 _ _ f) in
    let b = same_decimal s.0 t.0 _ _ bracket bracket (tails 44 44 _ _ a.1) in
    let one : List ℕ → MissedTold = λ ds. (ds, Some (decimal s.0)) in
    let two : List ℕ → MissedTold = λ ds. (decimal q.0, Some ds) in
    (ap one a.0 ∙ ap two b.0, tails 93 93 xs ys b.1)

missed_begins : (m : Missed) → IsItem (missing_text m)
missed_begins (p, None) = λ e. omega (arith, e)
missed_begins (p, Some s) = λ e. omega (arith, e)

one_missed : (m n : Missed) → FitsMissed m → FitsMissed n → missed_told m ≡ missed_told n → m ≡ n
one_missed (p, None) (q, None) k l e =
    let one : Partition → Missed = λ r. (r, None) in
    ap one (same_partition p q (decimal_injective p.0 q.0 k.0 l.0 (ap (λ (t : MissedTold). t.0) e)))
one_missed (p, None) (q, Some t) k l e = absurd (none-some (decimal t.0) (ap (λ (t : MissedTold). t.1) e))
one_missed (p, Some s) (q, None) k l e = absurd (none-some (decimal s.0) (sym (ap (λ (t : MissedTold). t.1) e)))
one_missed (p, Some s) (q, Some t) k l e =
    let one : Partition → Missed = λ r. (r, Some s) in
    let two : ℕ → Missed = λ n. (q, Some (record { 0 = n })) in
    ap one (same_partition p q (decimal_injective p.0 q.0 k.0 l.0 (ap (λ (u : MissedTold). u.0) e)))
    ∙ ap two (decimal_injective s.0 t.0 k.1 l.1 (same_Some (decimal s.0) (decimal t.0) (ap (λ (u : MissedTold). u.1) e)))

-- ---- rows

-- the text of a cell, from what it tells
abbrev told_text : CellTold → List ℕ
told_text (number ds) = ds
told_text (string s) = json_text s
told_text (truth b) = truth_text b
told_text nothing = codes "null"

-- the digits are those of a number
abbrev IsOfCell : CellTold → Type 0
IsOfCell (number ds) = (z : ℤ) × (ds ≡ signed_decimal z)
IsOfCell (string s) = Unit {0}
IsOfCell (truth b) = Unit {0}
IsOfCell nothing = Unit {0}

cell_spelled : (c : Cell) → cell_text c ≡ told_text (cell_told c)
cell_spelled (cell.Value (value.Int n)) = refl
cell_spelled (cell.Value (value.Long n)) = refl
cell_spelled (cell.Value (value.Text s)) = refl
cell_spelled (cell.Value (value.Bool b)) = refl
cell_spelled (cell.Value (value.Time n)) = refl
cell_spelled (cell.Whole n) = refl
cell_spelled cell.Null = refl

cell_numbers : (c : Cell) → IsOfCell (cell_told c)
cell_numbers (cell.Value (value.Int n)) = (n, refl)
cell_numbers (cell.Value (value.Long n)) = (n, refl)
cell_numbers (cell.Value (value.Text s)) = tt
cell_numbers (cell.Value (value.Bool b)) = tt
cell_numbers (cell.Value (value.Time n)) = (n, refl)
cell_numbers (cell.Whole n) = (n, refl)
cell_numbers cell.Null = tt

no_number : (ds : List ℕ) (c : ℕ) (xs ys : List ℕ) → IsOfCell (number ds) → c < 45 ⊎ 57 < c → ds ++ xs ≡ c ∷ ys → ⊥
no_number ds c xs ys (z, is) other e = no_signed z c xs ys other (ap (λ t. t ++ xs) (sym is) ∙ e)

-- a quote, and the first letters of `true`, `false` and `null` begin no number
quote : 34 < 45 ⊎ 57 < 34
quote = inl (omega arith)

letter_t : 116 < 45 ⊎ 57 < 116
letter_t = inr (omega arith)

letter_f : 102 < 45 ⊎ 57 < 102
letter_f = inr (omega arith)

letter_n : 110 < 45 ⊎ 57 < 110
letter_n = inr (omega arith)

-- behind a text's quote
abbrev json_rest : List ℕ → List ℕ → List ℕ
json_rest s xs = (flat_map escaped s ++ 34 ∷ []) ++ xs

apart : (b c : ℕ) (xs ys : List ℕ) → (b ≡ c → ⊥) → b ∷ xs ≡ c ∷ ys → ⊥
apart b c xs ys differ e = differ (heads b c xs ys e)

same_told_text : (c d : CellTold) (xs ys : List ℕ) → IsOfCell c → IsOfCell d → NoDigit xs → NoDigit ys → told_text c ++ xs ≡ told_text d ++ ys → (c ≡ d) × (xs ≡ ys)
same_told_text (number ds) (number es) xs ys (y, is) (z, at) p q e =
    let r = same_signed y z xs ys p q (ap (λ t. t ++ xs) (sym is) ∙ e ∙ ap (λ t. t ++ ys) at) in
    (ap (λ t. number t) (is ∙ r.0 ∙ sym at), r.1)
same_told_text (number ds) (string t) xs ys k l p q e = absurd (no_number ds 34 xs (json_rest t ys) k quote e)
same_told_text (number ds) (truth true) xs ys k l p q e = absurd (no_number ds 116 xs (codes "rue" ++ ys) k letter_t e)
same_told_text (number ds) (truth false) xs ys k l p q e = absurd (no_number ds 102 xs (codes "alse" ++ ys) k letter_f e)
same_told_text (number ds) nothing xs ys k l p q e = absurd (no_number ds 110 xs (codes "ull" ++ ys) k letter_n e)
same_told_text (string s) (number es) xs ys k l p q e = absurd (no_number es 34 ys (json_rest s xs) l quote (sym e))
same_told_text (string s) (string t) xs ys k l p q e = let r = same_json s t xs ys e in (ap (λ u. string u) r.0, r.1)
same_told_text (string s) (truth true) xs ys k l p q e = absurd (apart 34 116 (json_rest s xs) (codes "rue" ++ ys) (λ f. omega (arith, f)) e)
same_told_text (string s) (truth false) xs ys k l p q e = absurd (apart 34 102 (json_rest s xs) (codes "alse" ++ ys) (λ f. omega (arith, f)) e)
same_told_text (string s) nothing xs ys k l p q e = absurd (apart 34 110 (json_rest s xs) (codes "ull" ++ ys) (λ f. omega (arith, f)) e)
same_told_text (truth true) (number es) xs ys k l p q e = absurd (no_number es 116 ys (codes "rue" ++ xs) l letter_t (sym e))
same_told_text (truth true) (string t) xs ys k l p q e = absurd (apart 116 34 (codes "rue" ++ xs) (json_rest t ys) (λ f. omega (arith, f)) e)
same_told_text (truth true) (truth true) xs ys k l p q e = (refl, append_cancel_left (codes "true") xs ys e)
same_told_text (truth true) (truth false) xs ys k l p q e = absurd (apart 116 102 (codes "rue" ++ xs) (codes "alse" ++ ys) (λ f. omega (arith, f)) e)
same_told_text (truth true) nothing xs ys k l p q e = absurd (apart 116 110 (codes "rue" ++ xs) (codes "ull" ++ ys) (λ f. omega (arith, f)) e)
same_told_text (truth false) (number es) xs ys k l p q e = absurd (no_number es 102 ys (codes "alse" ++ xs) l letter_f (sym e))
same_told_text (truth false) (string t) xs ys k l p q e = absurd (apart 102 34 (codes "alse" ++ xs) (json_rest t ys) (λ f. omega (arith, f)) e)
same_told_text (truth false) (truth true) xs ys k l p q e = absurd (apart 102 116 (codes "alse" ++ xs) (codes "rue" ++ ys) (λ f. omega (arith, f)) e)
same_told_text (truth false) (truth false) xs ys k l p q e = (refl, append_cancel_left (codes "false") xs ys e)
same_told_text (truth false) nothing xs ys k l p q e = absurd (apart 102 110 (codes "alse" ++ xs) (codes "ull" ++ ys) (λ f. omega (arith, f)) e)
same_told_text nothing (number es) xs ys k l p q e = absurd (no_number es 110 ys (codes "ull" ++ xs) l letter_n (sym e))
same_told_text nothing (string t) xs ys k l p q e = absurd (apart 110 34 (codes "ull" ++ xs) (json_rest t ys) (λ f. omega (arith, f)) e)
same_told_text nothing (truth true) xs ys k l p q e = absurd (apart 110 116 (codes "ull" ++ xs) (codes "rue" ++ ys) (λ f. omega (arith, f)) e)
same_told_text nothing (truth false) xs ys k l p q e = absurd (apart 110 102 (codes "ull" ++ xs) (codes "alse" ++ ys) (λ f. omega (arith, f)) e)
same_told_text nothing nothing xs ys k l p q e = (refl, append_cancel_left (codes "null") xs ys e)

same_cell : (c d : Cell) (xs ys : List ℕ) → NoDigit xs → NoDigit ys → cell_text c ++ xs ≡ cell_text d ++ ys → (cell_told c ≡ cell_told d) × (xs ≡ ys)
same_cell c d xs ys p q e =
    same_told_text (cell_told c) (cell_told d) xs ys (cell_numbers c) (cell_numbers d) p q
    (ap (λ t. t ++ xs) (sym (cell_spelled c)) ∙ e ∙ ap (λ t. t ++ ys) (cell_spelled d))

cell_begins : (c : Cell) → IsItem (cell_text c)
cell_begins (cell.Value (value.Int n)) = signed_first n
cell_begins (cell.Value (value.Long n)) = signed_first n
cell_begins (cell.Value (value.Text s)) = λ e. omega (arith, e)
cell_begins (cell.Value (value.Bool true)) = λ e. omega (arith, e)
cell_begins (cell.Value (value.Bool false)) = λ e. omega (arith, e)
cell_begins (cell.Value (value.Time n)) = signed_first n
cell_begins (cell.Whole n) = signed_first n
cell_begins cell.Null = λ e. omega (arith, e)

same_row : (r s : ResultRow) (xs ys : List ℕ) → NoDigit xs → NoDigit ys → row_text r ++ xs ≡ row_text s ++ ys → (row_told r ≡ row_told s) × (xs ≡ ys)
same_row r s xs ys p q e =
    same_items cell_text cell_told same_cell cell_begins r.cells s.cells xs ys
    (tails 91 91 _ _ (sym (array_onto (map cell_text r.cells) xs) ∙ e ∙ array_onto (map cell_text s.cells) ys))

row_begins : (r : ResultRow) → IsItem (row_text r)
row_begins r = λ e. omega (arith, e)

-- ---- an answer

-- the end of the line, behind the rows
abbrev end : List ℕ
end = codes "}" ++ codes "\n"

rows_onto : (a : Answer) → (rows_field a.rows ++ codes "}") ++ codes "\n" ≡ codes ",\"rows\":" ++ 91 ∷ onto row_text a.rows end
rows_onto a =
    append_assoc (rows_field a.rows) (codes "}") (codes "\n")
    ∙ append_assoc (codes ",\"rows\":") (array_of (map row_text a.rows)) end
    ∙ ap (λ t. codes ",\"rows\":" ++ t) (array_onto (map row_text a.rows) end)

-- the line from the missing pieces on
abbrev missing_on : Answer → List ℕ
missing_on a = codes ",\"missing\":" ++ 91 ∷ onto missing_text a.missing (codes ",\"rows\":" ++ 91 ∷ onto row_text a.rows end)

missing_onto : (a : Answer) → (missing_field a.missing ++ (rows_field a.rows ++ codes "}")) ++ codes "\n" ≡ missing_on a
missing_onto a =
    append_assoc (missing_field a.missing) (rows_field a.rows ++ codes "}") (codes "\n")
    ∙ append_assoc (codes ",\"missing\":") (array_of (map missing_text a.missing)) ((rows_field a.rows ++ codes "}") ++ codes "\n")
    ∙ ap (λ t. codes ",\"missing\":" ++ t)
    (array_onto (map missing_text a.missing) ((rows_field a.rows ++ codes "}") ++ codes "\n") ∙ ap (λ t. 91 ∷ onto missing_text a.missing t) (rows_onto a))

line_onto : (a : Answer) → answer_line a ≡ codes "answer " ++ (codes "{\"ranges\":" ++ 91 ∷ onto range_text a.ranges (missing_on a))
line_onto a =
    let behind = missing_field a.missing ++ (rows_field a.rows ++ codes "}") in
    ap (λ t. codes "answer " ++ t)
    (append_assoc (ranges_field a.ranges) behind (codes "\n")
    ∙ append_assoc (codes "{\"ranges\":") (array_of (map range_text a.ranges)) (behind ++ codes "\n")
    ∙ ap (λ t. codes "{\"ranges\":" ++ t)
    (array_onto (map range_text a.ranges) (behind ++ codes "\n") ∙ ap (λ t. 91 ∷ onto range_text a.ranges t) (missing_onto a)))

-- what a text tells of an answer: the digits of its ranges and of what it misses, and its rows
record IsToldAs (a b : Answer) : Type 0 where
  ranges : map range_told a.ranges ≡ map range_told b.ranges
  missing : map missed_told a.missing ≡ map missed_told b.missing
  rows : map row_told a.rows ≡ map row_told b.rows

told_as : (a b : Answer) → answer_line a ≡ answer_line b → IsToldAs a b
told_as a b e =
    let whole = append_cancel_left (codes "{\"ranges\":") _ _ (append_cancel_left (codes "answer ") _ _ (sym (line_onto a) ∙ e ∙ line_onto b)) in
    let ranges = same_items range_text range_told same_range range_begins a.ranges b.ranges (missing_on a) (missing_on b) (tails 91 91 _ _ whole) in
    let behind = append_cancel_left (codes ",\"missing\":") _ _ ranges.1 in
    let missing = same_items missing_text missed_told same_missed missed_begins a.missing b.missing _ _ (tails 91 91 _ _ behind) in
    let last = append_cancel_left (codes ",\"rows\":") _ _ missing.1 in
    let rows = same_items row_text row_told same_row row_begins a.rows b.rows end end (tails 91 91 _ _ last) in
    record { ranges = ranges.0; missing = missing.0; rows = rows.0 }

pub text_tells : (a b : Answer) → AreWords a → AreWords b → answer_line a ≡ answer_line b → (a.ranges ≡ b.ranges) × (a.missing ≡ b.missing)
text_tells a b k l e =
    let told = told_as a b e in (
      same_told range_told FitsRange one_range a.ranges b.ranges (λ r has. all_has FitsRange a.ranges r k.ranges has)
          (λ r has. all_has FitsRange b.ranges r l.ranges has) told.ranges,
      same_told missed_told FitsMissed one_missed a.missing b.missing (λ m has. all_has FitsMissed a.missing m k.missing has)
          (λ m has. all_has FitsMissed b.missing m l.missing has) told.missing,
    )

pub text_tells_rows : (a b : Answer) → answer_line a ≡ answer_line b → map row_told a.rows ≡ map row_told b.rows
text_tells_rows a b e = (told_as a b e).rows
