-- The segment that bytes are the file of, or the first fault in them.
use Rattle.std.specs.Prelude.{ℕ, zero, suc, ◌+◌, ◌-◌, ◌*◌, ◌/◌, ℤ, int_lt, Bool, true, false, not, ◌&&◌, ◌||◌, ◌==◌, nat_lt, List, [], ◌∷◌, ◌++◌, length, take, codes, Option, Some, None, slice_get, Result, Ok, Err, if◌then◌else◌}
use Rattle.std.specs.Int.{w16, w32, w64, cast_signed}
use Rattle.std.specs.Str.{bytes_eq, is_utf8}
use Rattle.sha2.specs.Sha256.{sha256}
use Rattle.rt_dict.specs.Order.{bool_below, text_below}
use Rattle.rt_dict.specs.Values.{is_past}
use Rattle.rt_pack.specs.Packed.{bytes_for, unpacked, spare_bits}
use Rattle.rt_pack.specs.Width.{width_of}
use Rattle.rt_base.specs.declared.range.Range.{Range}
use Rattle.rt_schema.specs.Schema.{is_among}
use Rattle.rt_schema.specs.declared.column.Kind.{Kind}
use Rattle.rt_schema.specs.declared.column.Kind.TheVariants as kinds
use Rattle.rt_segment.specs.declared.segment_refused.SegmentRefused.{SegmentRefused}
use Rattle.rt_segment.specs.declared.segment_refused.SegmentRefused.TheVariants.{Magic, NotCanonical, Digest, Limit}
use Rattle.rt_segment.specs.declared.dictionary.Dictionary.{Dictionary}
use Rattle.rt_segment.specs.declared.dictionary.Dictionary.TheVariants.{Int, Long, Text, Bool as Truth, Time}
use Rattle.rt_segment.specs.Column.{SealedColumn}
use Rattle.rt_segment.specs.Cursor.{Cursor, Read, ◌>>=◌, breach, bytes_at, number_at, byte_in}
use Rattle.rt_segment.specs.Segment.{SealedSegment}
use Rattle.rt_segment.specs.Spelling.{posting_numbers, has_extremes}

-- ---- the header

abbrev pub format_of : List ℕ → Result ℕ SegmentRefused
format_of magic = if bytes_eq magic (codes "PNRTSEG1") then Ok 1 else (if bytes_eq magic (codes "PNRTSEG2") then Ok 2 else Err Magic)

unfoldable pub format_at : Cursor → Read ℕ
format_at c = do
  magic ← bytes_at 8 c
  format ← format_of magic.0
  Ok (format, magic.1)

unfoldable pub range_at : Cursor → Read Range
range_at c = do
  start ← number_at w64 c
  end ← number_at w64 start.1
  if nat_lt start.0 end.0 then Ok (record { start = record { 0 = start.0 }; end = record { 0 = end.0 } }, end.1) else breach start.1

unfoldable pub rows_at : Range → Cursor → Read ℕ
rows_at range c = do
  rows ← number_at w32 c
  if nat_lt 1000000 rows.0 then Err Limit else (if nat_lt (range.end.0 - range.start.0) rows.0 then breach c else Ok rows)

unfoldable pub column_count_at : Cursor → Read ℕ
column_count_at c = do
  count ← number_at w16 c
  if nat_lt 256 count.0 then Err Limit else (if count.0 == 0 then breach c else Ok count)

-- ---- values

abbrev pub int_at : Cursor → Read ℤ
int_at c = number_at w32 c >>= λ n. Ok (cast_signed w32 n.0, n.1)

abbrev pub long_at : Cursor → Read ℤ
long_at c = number_at w64 c >>= λ n. Ok (cast_signed w64 n.0, n.1)

unfoldable pub bool_at : Cursor → Read Bool
bool_at c = do
  b ← byte_in c
  if b.0 == 0 then Ok (false, b.1) else (if b.0 == 1 then Ok (true, b.1) else breach c)

unfoldable pub text_at : Cursor → Read (List ℕ)
text_at c = do
  n ← number_at w32 c
  if nat_lt 65536 n.0 then Err Limit else (do
    b ← bytes_at n.0 n.1
    if is_utf8 b.0 then Ok b else breach c)

-- so many values, each past the one before
unfoldable pub values_at : {K : Type 0} → (K → K → Bool) → (Cursor → Read K) → ℕ → Option K → Cursor → Read (List K)
values_at below at zero last c = Ok ([], c)
values_at below at (suc n) last c = do
  v ← at c
  if is_past below last v.0 then (do
    vs ← values_at below at n (Some v.0) v.1
    Ok (v.0 ∷ vs.0, vs.1)) else breach c

-- a value once more
unfoldable pub again_at : {K : Type 0} → (K → K → Bool) → (Cursor → Read K) → Option K → Cursor → Read (Unit {0})
again_at below at None c = Ok (tt, c)
again_at below at (Some v) c = do
  w ← at c
  if not (below v w.0) && not (below w.0 v) then Ok (tt, w.1) else breach c

-- the least and the greatest value
unfoldable pub extremes_at : {K : Type 0} → (K → K → Bool) → (Cursor → Read K) → List K → Cursor → Read (Unit {0})
extremes_at below at vs c = do
  least ← again_at below at (slice_get vs 0) c
  again_at below at (slice_get vs (length vs - 1)) least.1

unfoldable pub dictionary_of : {K : Type 0} → (K → K → Bool) → (Cursor → Read K) → Bool → ℕ → Cursor → Read (List K)
dictionary_of below at extremes count c = do
  vs ← values_at below at count None c
  if extremes then (do
    ends ← extremes_at below at vs.0 vs.1
    Ok (vs.0, ends.1)) else Ok vs

unfoldable pub dictionary_at : Kind → Bool → ℕ → Cursor → Read Dictionary
dictionary_at kinds.Int extremes count c = dictionary_of int_lt int_at extremes count c >>= λ vs. Ok (Int vs.0, vs.1)
dictionary_at kinds.Long extremes count c = dictionary_of int_lt long_at extremes count c >>= λ vs. Ok (Long vs.0, vs.1)
dictionary_at kinds.Text extremes count c = dictionary_of text_below text_at extremes count c >>= λ vs. Ok (Text vs.0, vs.1)
dictionary_at kinds.Bool extremes count c = dictionary_of bool_below bool_at extremes count c >>= λ vs. Ok (Truth vs.0, vs.1)
dictionary_at kinds.Time extremes count c = dictionary_of int_lt long_at extremes count c >>= λ vs. Ok (Time vs.0, vs.1)

-- ---- ids

-- the first row, counted on from `row`, whose id isn't below a cardinality
abbrev pub first_past : ℕ → ℕ → List ℕ → Option ℕ
first_past cardinality row [] = None
first_past cardinality row (id ∷ ids) = if nat_lt id cardinality then first_past cardinality (row + 1) ids else Some row

abbrev pub are_clear : List ℕ → Bool
are_clear [] = true
are_clear (bit ∷ bits) = bit == 0 && are_clear bits

-- ids in bytes that begin at a place: each below the cardinality, and no spare bit set
abbrev pub checked_ids : ℕ → ℕ → ℕ → List ℕ → Option ℕ → List ℕ → Result (List ℕ) SegmentRefused
checked_ids width rows place bytes (Some row) ids = Err (NotCanonical (place + row * width / 8))
checked_ids width rows place bytes None ids = if are_clear (spare_bits width rows bytes) then Ok ids else Err (NotCanonical (place + length bytes - 1))

abbrev pub ids_in : ℕ → ℕ → ℕ → ℕ → List ℕ → Result (List ℕ) SegmentRefused
ids_in width cardinality rows place bytes =
    checked_ids width rows place bytes (first_past cardinality 0 (unpacked width rows bytes)) (unpacked width rows bytes)

unfoldable pub ids_at : ℕ → ℕ → Cursor → Read (List ℕ)
ids_at rows cardinality c = do
  bytes ← bytes_at (bytes_for (width_of cardinality) rows) c
  ids ← ids_in (width_of cardinality) cardinality rows c.place bytes.0
  Ok (ids, bytes.1)

abbrev pub has_id : ℕ → List ℕ → Bool
has_id id [] = false
has_id id (other ∷ ids) = other == id || has_id id ids

-- the first of so many ids from `id` on that no row has
abbrev pub first_unused : ℕ → ℕ → List ℕ → Option ℕ
first_unused zero id ids = None
first_unused (suc more) id ids = if has_id id ids then first_unused more (id + 1) ids else Some id

-- an unused value is a fault at its first byte, behind the values before it
abbrev pub without : Option ℕ → Kind → Cursor → Result (Unit {0}) SegmentRefused
without None kind values = Ok tt
without (Some id) kind values = dictionary_at kind false id values >>= λ before. breach before.1

-- ---- columns

unfoldable pub name_at : List (List ℕ) → Cursor → Read (List ℕ)
name_at before c = do
  n ← number_at w16 c
  if nat_lt 128 n.0 then Err Limit else (if n.0 == 0 then breach c else (do
    name ← bytes_at n.0 n.1
    if is_utf8 name.0 && not (is_among name.0 before) then Ok name else breach c))

unfoldable pub kind_at : Cursor → Read Kind
kind_at c = do
  b ← byte_in c
  if b.0 == 1 then Ok (kinds.Int, b.1) else (if b.0 == 2 then Ok (kinds.Long, b.1) else (if b.0 == 3 then Ok (kinds.Text, b.1)
      else (if b.0 == 4 then Ok (kinds.Bool, b.1) else (if b.0 == 5 then Ok (kinds.Time, b.1) else breach c))))

unfoldable pub cardinality_at : ℕ → Cursor → Read ℕ
cardinality_at rows c = do
  n ← number_at w32 c
  if n.0 == 0 && nat_lt 0 rows then breach c else Ok n

-- this number, and no other
abbrev pub this_number : ℕ → Cursor → Read (Unit {0})
this_number n c = number_at w32 c >>= λ m. if m.0 == n then Ok (tt, m.1) else breach c

-- these numbers, and no others
unfoldable pub numbers_at : List ℕ → Cursor → Read (Unit {0})
numbers_at [] c = Ok (tt, c)
numbers_at (n ∷ ns) c = this_number n c >>= λ this. numbers_at ns this.1

unfoldable pub postings_at : Bool → List ℕ → ℕ → Cursor → Read (Unit {0})
postings_at true ids cardinality c = numbers_at (posting_numbers ids cardinality) c
postings_at false ids cardinality c = Ok (tt, c)

unfoldable pub column_at : ℕ → ℕ → List (List ℕ) → Cursor → Read SealedColumn
column_at format rows before c = do
  name ← name_at before c
  kind ← kind_at name.1
  indexed ← bool_at kind.1
  cardinality ← cardinality_at rows indexed.1
  dictionary ← dictionary_at kind.0 (has_extremes format rows) cardinality.0 cardinality.1
  ids ← ids_at rows cardinality.0 dictionary.1
  used ← without (first_unused cardinality.0 0 ids.0) kind.0 cardinality.1
  postings ← postings_at indexed.0 ids.0 cardinality.0 ids.1
  Ok (record { name = name.0; dictionary = dictionary.0; ids = ids.0; indexed = indexed.0 }, postings.1)

-- so many columns, with these names before them
unfoldable pub columns_at : ℕ → ℕ → ℕ → List (List ℕ) → Cursor → Read (List SealedColumn)
columns_at format rows zero before c = Ok ([], c)
columns_at format rows (suc n) before c = do
  first ← column_at format rows before c
  others ← columns_at format rows n (before ++ first.0.name ∷ []) first.1
  Ok (first.0 ∷ others.0, others.1)

-- ---- the file

-- all before the digest
unfoldable pub body_at : Cursor → Read SealedSegment
body_at c = do
  format ← format_at c
  partition ← number_at w32 format.1
  sequence ← number_at w32 partition.1
  range ← range_at sequence.1
  rows ← rows_at range.0 range.1
  count ← column_count_at rows.1
  columns ← columns_at format.0 rows.0 count.0 [] count.1
  Ok (record { format = format.0; partition = record { 0 = partition.0 }; sequence = record { 0 = sequence.0 }; range = range.0; rows = rows.0; columns = columns.0 }, columns.1)

unfoldable pub read_file : List ℕ → Result SealedSegment SegmentRefused
read_file bytes = do
  body ← body_at (record { place = 0; left = bytes })
  digest ← bytes_at 32 body.1
  if bytes_eq digest.0 (sha256 (take body.1.place bytes)) then (if length digest.1.left == 0 then Ok body.0 else breach digest.1) else Err Digest
