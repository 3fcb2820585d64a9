-- Tables of columns, column by column.
use Rattle.std.proofs.Common.{◌≡◌, ℕ, suc, ◌+◌, ◌<◌, ◌≤◌, Bool, true, false, List, [], ◌∷◌, length, get_or, slice_get, Some, drop, refl, sym, ap, ◌∙◌, arith}
use Rattle.std.specs.Prelude.{◌&&◌}
use Rattle.std.proofs.lemmas.List.{drop_more, drop_all}
use Rattle.rt_schema.specs.declared.column.Column.{Column}
use Rattle.rt_segment.specs.Column.{SealedColumn}
use Rattle.std.proofs.lemmas.List.FromFn.{length-map-range_with_len, get_or-map-range_with_len}
use Rattle.std.proofs.lemmas.Option.{slice_get-get_or}
use Rattle.rt_schema.specs.declared.row.Row.{Row}
use Rattle.rt_segment.specs.Segment.{SealedSegment, is_column, are_columns, row_in, rows_of}

pub unlike : (stored : List SealedColumn) (columns : List Column) → (length stored ≡ length columns → ⊥) → are_columns stored columns ≡ false
unlike [] [] apart = absurd (apart refl)
unlike [] (column ∷ columns) apart = refl
unlike (s ∷ stored) [] apart = refl
unlike (s ∷ stored) (column ∷ columns) apart = ap (λ b. is_column s column && b) (unlike stored columns (λ e. apart (ap suc e))) ∙ and_end (is_column s column)
  where
    and_end : (b : Bool) → (b && false) ≡ false
    and_end true = refl
    and_end false = refl

pub like_more : (stored : List SealedColumn) (columns : List Column) (i : ℕ) (s : SealedColumn) (column : Column) → i < length stored → i < length columns →
    are_columns (drop i stored) (drop i columns) ≡ (is_column (get_or stored i s) (get_or columns i column) && are_columns (drop (i + 1) stored) (drop (i + 1) columns))
like_more stored columns i s column a b =
    ap (λ ss. are_columns ss (drop i columns)) (drop_more stored i s a) ∙ ap (λ cs. are_columns (get_or stored i s ∷ drop (i + 1) stored) cs) (drop_more columns i column b)

pub like_end : (stored : List SealedColumn) (columns : List Column) (i : ℕ) → length stored ≤ i → length columns ≤ i → are_columns (drop i stored) (drop i columns) ≡ true
like_end stored columns i a b = ap (λ ss. are_columns ss (drop i columns)) (drop_all i stored a) ∙ ap (are_columns []) (drop_all i columns b)

-- the row of a number among all
pub row_at : (segment : SealedSegment) (number : ℕ) (row : Row) → number < segment.rows → row ≡ row_in segment.columns number → slice_get (rows_of segment) number ≡ Some row
row_at segment number row lt told =
    let size = length-map-range_with_len (row_in segment.columns) 0 segment.rows in
    slice_get-get_or (rows_of segment) number row (omega (arith, size, lt)) ∙ ap Some (get_or-map-range_with_len (row_in segment.columns) 0 segment.rows number number row lt (omega arith) ∙ sym told)
