-- The file of a sealed segment.
use Rattle.std.specs.Prelude.{ℕ, ◌-◌, min, ℤ, Bool, true, false, ◌&&◌, ◌==◌, List, [], ◌∷◌, ◌++◌, length, codes, nat_lt, Option, Some, None, slice_get, if◌then◌else◌}
use Rattle.std.specs.Int.{w16, w32, w64, to_be_bytes, cast_unsigned}
use Rattle.std.specs.List.{flat_map}
use Rattle.sha2.specs.Sha256.{sha256}
use Rattle.rt_pack.specs.Packed.{packed}
use Rattle.rt_pack.specs.Width.{width_of}
use Rattle.rt_postings.specs.Postings.{postings_of}
use Rattle.rt_base.specs.declared.header.Header.{Header}
use Rattle.rt_schema.specs.declared.column.Kind.{Kind}
use Rattle.rt_schema.specs.declared.column.Kind.TheVariants as kinds
use Rattle.rt_segment.specs.declared.dictionary.Dictionary.{Dictionary}
use Rattle.rt_segment.specs.declared.dictionary.Dictionary.TheVariants.{Int, Long, Text, Bool as Truth, Time}
use Rattle.rt_segment.specs.Column.{SealedColumn, kind_in, count_in}
use Rattle.rt_segment.specs.Segment.{SealedSegment}

abbrev pub word : ℕ → List ℕ
word n = to_be_bytes w32 n

-- ---- values

abbrev pub int_bytes : ℤ → List ℕ
int_bytes z = word (cast_unsigned w32 z)

abbrev pub long_bytes : ℤ → List ℕ
long_bytes z = to_be_bytes w64 (cast_unsigned w64 z)

abbrev pub text_bytes : List ℕ → List ℕ
text_bytes t = word (length t) ++ t

abbrev pub bool_bytes : Bool → List ℕ
bool_bytes b = (if b then 1 else 0) ∷ []

abbrev pub spelled_if : {K : Type 0} → (K → List ℕ) → Option K → List ℕ
spelled_if spelled None = []
spelled_if spelled (Some v) = spelled v

-- the first and the last value
abbrev pub extremes_spelled : {K : Type 0} → (K → List ℕ) → List K → List ℕ
extremes_spelled spelled vs = spelled_if spelled (slice_get vs 0) ++ spelled_if spelled (slice_get vs (length vs - 1))

-- the values, and in format 2 the first and the last of those of a file with rows once more
abbrev pub values_spelled : {K : Type 0} → (K → List ℕ) → Bool → List K → List ℕ
values_spelled spelled extremes vs = flat_map spelled vs
    ++ (if extremes then extremes_spelled spelled vs else [])

abbrev pub dictionary_bytes : Bool → Dictionary → List ℕ
dictionary_bytes extremes (Int zs) = values_spelled int_bytes extremes zs
dictionary_bytes extremes (Long zs) = values_spelled long_bytes extremes zs
dictionary_bytes extremes (Text ts) = values_spelled text_bytes extremes ts
dictionary_bytes extremes (Truth bs) = values_spelled bool_bytes extremes bs
dictionary_bytes extremes (Time zs) = values_spelled long_bytes extremes zs

-- a number of bytes, or the greatest number of 64 bits
abbrev pub capped : ℕ → ℕ
capped n = min n 18446744073709551615

-- ---- columns

abbrev pub kind_byte : Kind → ℕ
kind_byte kinds.Int = 1
kind_byte kinds.Long = 2
kind_byte kinds.Text = 3
kind_byte kinds.Bool = 4
kind_byte kinds.Time = 5

-- for each id the number of its rows, and they themselves
abbrev pub posting_numbers : List ℕ → ℕ → List ℕ
posting_numbers ids cardinality = flat_map (λ rows. length rows ∷ rows) (postings_of ids cardinality)

abbrev pub postings_bytes : Bool → List ℕ → ℕ → List ℕ
postings_bytes true ids cardinality = flat_map word (posting_numbers ids cardinality)
postings_bytes false ids cardinality = []

-- whether a file of this format and so many rows has the extremes of its columns
abbrev pub has_extremes : ℕ → ℕ → Bool
has_extremes format rows = format == 2 && nat_lt 0 rows

-- the name, the kind, the flag and the cardinality
abbrev pub column_head : SealedColumn → List ℕ
column_head column =
    to_be_bytes w16 (length column.name) ++ (column.name ++ (kind_byte (kind_in column.dictionary) ∷ (bool_bytes column.indexed ++ word (count_in column.dictionary))))

abbrev pub packed_ids : SealedColumn → List ℕ
packed_ids column = packed (width_of (count_in column.dictionary)) column.ids

abbrev pub column_bytes : ℕ → SealedColumn → List ℕ
column_bytes format column =
    column_head column
    ++ (dictionary_bytes (has_extremes format (length column.ids)) column.dictionary
    ++ (packed_ids column
    ++ postings_bytes column.indexed column.ids (count_in column.dictionary)))

-- ---- the file

abbrev pub magic : ℕ → List ℕ
magic format = if format == 1 then codes "PNRTSEG1" else codes "PNRTSEG2"

abbrev pub head_bytes : SealedSegment → List ℕ
head_bytes s =
    magic s.format ++ (word s.partition.0 ++ (word s.sequence.0 ++ (to_be_bytes w64 s.range.start.0 ++ (to_be_bytes w64 s.range.end.0
    ++ (word s.rows ++ to_be_bytes w16 (length s.columns))))))

-- all before the digest
abbrev pub body_of : SealedSegment → List ℕ
body_of s = head_bytes s ++ flat_map (column_bytes s.format) s.columns

-- the one file of a segment
abbrev pub file_of : SealedSegment → List ℕ
file_of s = body_of s ++ sha256 (body_of s)

abbrev pub header_of : SealedSegment → Header
header_of s = record { partition = s.partition; sequence = s.sequence; range = s.range; rows = s.rows; digest = sha256 (body_of s) }
