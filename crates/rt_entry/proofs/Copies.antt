-- Rows are copied one by one.
use Rattle.std.proofs.Common.{◌≡◌, ℕ, ◌+◌, ◌≤◌, List, [], ◌∷◌, ◌++◌, length, map, take, Some, slice_get, ap, ◌∙◌, arith}
use Rattle.std.specs.List.{count_by, filter, take-map}
use Rattle.std.proofs.lemmas.List.{take_all, take_more}
use Rattle.std.proofs.lemmas.List.FromFn.{length-map-range_with_len}
use Rattle.std.proofs.lemmas.List.Sums.{count_by-le-length}
use Rattle.std.proofs.lemmas.Option.{get_or_from_slice_get, slice_get_within}
use Rattle.rt_base.specs.declared.numbers.Offset.{Offset}
use Rattle.rt_schema.specs.declared.row.Row.{Row}
use Rattle.rt_mutable.specs.Consuming.{Consuming, Placed, is_before}
use Rattle.rt_mutable.specs.Consuming as consuming
use Rattle.rt_segment.specs.Segment.{SealedSegment, row_in}
use Rattle.rt_segment.specs.Segment as segment
use Rattle.rt_scan.specs.Scanned.{rows_before}

-- one row more
pub take_next : (rows : List Row) (number : ℕ) (row : Row) → slice_get rows number ≡ Some row → take (number + 1) rows ≡ take number rows ++ row ∷ []
take_next rows number row found =
    take_more rows number row (slice_get_within rows number row found) ∙ ap (λ r. take number rows ++ r ∷ []) (get_or_from_slice_get rows number row row found)

-- the rows of earlier offsets are among the rows
pub before_within : (end : Offset) (count : ℕ) (rows : List Placed) → count ≡ count_by (is_before end) rows → count ≤ length rows
before_within end count rows e = omega (arith, e, count_by-le-length (is_before end) rows)

-- and are the first ones
pub before_taken : (end : Offset) (held : Consuming) (count : ℕ) → take count held.rows ≡ filter (is_before end) held.rows
    → take count (consuming.rows_of held) ≡ rows_before end held
before_taken end held count e = take-map (λ (placed : Placed). placed.row) count held.rows ∙ ap (map (λ (placed : Placed). placed.row)) e

-- as many rows as the file has are all
pub file_taken : (file : SealedSegment) (number : ℕ) → file.rows ≤ number → take number (segment.rows_of file) ≡ segment.rows_of file
file_taken file number within =
    take_all number (segment.rows_of file) (omega (arith, within, length-map-range_with_len (row_in file.columns) 0 file.rows))
