use Rattle.std.specs.Prelude.{ℕ, ◌/◌, ◌%◌, Bool, true, false, List, [], ◌∷◌, ◌++◌, map, flat_map, Option, None, Some, codes, decimal, ◌==◌, nat_lt, if◌then◌else◌}
use Rattle.std.specs.Fmt.{signed_decimal, digit_glyph}
use Rattle.std.specs.List.{join_with_byte}
use Rattle.rt_base.specs.declared.numbers.Partition.{Partition}
use Rattle.rt_base.specs.declared.numbers.Sequence.{Sequence}
use Rattle.rt_base.specs.declared.range.Range.{Range}
use Rattle.rt_schema.specs.declared.value.Value.{Value}
use Rattle.rt_schema.specs.declared.value.Value.TheVariants as value
use Rattle.rt_model.specs.declared.answer.Answer.{Answer}
use Rattle.rt_model.specs.declared.answer.Cell.{Cell}
use Rattle.rt_model.specs.declared.answer.Cell.TheVariants as cell
use Rattle.rt_model.specs.declared.answer.ResultRow.{ResultRow}

-- what stands before the item of this place in a JSON array
abbrev pub comma_before : ℕ → List ℕ
comma_before place = if place == 0 then [] else 44 ∷ []

-- a JSON array of items that are written already
abbrev pub array_of : List (List ℕ) → List ℕ
array_of items = 91 ∷ (join_with_byte 44 items ++ 93 ∷ [])

-- the escape of a control character: two hexadecimal digits, in lower case
abbrev pub control_text : ℕ → List ℕ
control_text code = codes "\\u00" ++ (digit_glyph false (code / 16) ∷ digit_glyph false (code % 16) ∷ [])

-- a byte of a JSON text: the quote, the backslash and the control characters are escaped
abbrev pub escaped : ℕ → List ℕ
escaped b =
    if b == 34 then codes "\\\"" else
    (if b == 92 then codes "\\\\" else
    (if b == 8 then codes "\\b" else
    (if b == 9 then codes "\\t" else
    (if b == 10 then codes "\\n" else
    (if b == 12 then codes "\\f" else
    (if b == 13 then codes "\\r" else
    (if nat_lt b 32 then control_text b else
    b ∷ [])))))))

-- a JSON text
abbrev pub json_text : List ℕ → List ℕ
json_text text = 34 ∷ (flat_map escaped text ++ 34 ∷ [])

abbrev pub truth_text : Bool → List ℕ
truth_text true = codes "true"
truth_text false = codes "false"

-- a value of a row in JSON
abbrev pub value_text : Value → List ℕ
value_text (value.Int number) = signed_decimal number
value_text (value.Long number) = signed_decimal number
value_text (value.Text text) = json_text text
value_text (value.Bool truth) = truth_text truth
value_text (value.Time millis) = signed_decimal millis

-- a cell in JSON
abbrev pub cell_text : Cell → List ℕ
cell_text (cell.Value v) = value_text v
cell_text (cell.Whole number) = signed_decimal number
cell_text cell.Null = codes "null"

abbrev pub row_text : ResultRow → List ℕ
row_text row = array_of (map cell_text row.cells)

-- a partition's range, as its start and its end
abbrev pub range_text : Partition × Range → List ℕ
range_text (partition, range) = codes "[" ++ (decimal partition.0 ++ (codes "," ++ (decimal range.start.0 ++ (codes "," ++ (decimal range.end.0 ++ codes "]")))))

-- a segment that is missing, or a whole partition
abbrev pub missing_text : Partition × Option Sequence → List ℕ
missing_text (partition, None) = codes "[" ++ (decimal partition.0 ++ codes ",null]")
missing_text (partition, Some sequence) = codes "[" ++ (decimal partition.0 ++ (codes "," ++ (decimal sequence.0 ++ codes "]")))

abbrev pub ranges_field : List (Partition × Range) → List ℕ
ranges_field ranges = codes "{\"ranges\":" ++ array_of (map range_text ranges)

abbrev pub missing_field : List (Partition × Option Sequence) → List ℕ
missing_field missing = codes ",\"missing\":" ++ array_of (map missing_text missing)

abbrev pub rows_field : List ResultRow → List ℕ
rows_field rows = codes ",\"rows\":" ++ array_of (map row_text rows)

-- an answer as a JSON object, with no space
abbrev pub answer_bytes : Answer → List ℕ
answer_bytes answer = ranges_field answer.ranges ++ (missing_field answer.missing ++ (rows_field answer.rows ++ codes "}"))
