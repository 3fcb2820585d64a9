-- Columns that are read one after another.
use Rattle.std.proofs.Common.{◌≡◌, ℕ, suc, ◌+◌, ◌-◌, ◌<◌, ◌≤◌, List, [], ◌∷◌, ◌++◌, map, Ok, refl, sym, ap, ◌∙◌, arith}
use Rattle.std.proofs.lemmas.List.{append-nil, map_push}
use Rattle.rt_segment.specs.declared.segment_refused.SegmentRefused.{SegmentRefused}
use Rattle.rt_segment.specs.Column.{SealedColumn}
use Rattle.rt_segment.specs.Cursor.{Cursor, Read, Refuses}
use Rattle.rt_segment.specs.Reading.{column_at, columns_at}
use Rattle.rt_segment.proofs.Loops.{with_front, regroup, refused}

abbrev pub names : List SealedColumn → List (List ℕ)
names columns = map (λ column. column.name) columns

module _ (format rows : ℕ) where
  abbrev left : List SealedColumn → ℕ → Cursor → Read (List SealedColumn)
  left front n c = with_front front (columns_at format rows n (names front) c)

  pub column_taken : (front : List SealedColumn) (count i : ℕ) (c : Cursor) (column : SealedColumn) (d : Cursor) (all : Read (List SealedColumn)) → i < count → column_at format rows (names front) c ≡ Ok (column, d)
      → left front (count - i) c ≡ all → left (front ++ column ∷ []) (count - (i + 1)) d ≡ all
  unfolding columns_at
  column_taken front count i c column d all lt h so_far =
      let k : count - i ≡ suc (count - (i + 1)) = omega arith in
      let named : names (front ++ column ∷ []) ≡ names front ++ column.name ∷ [] = map_push (λ (x : SealedColumn). x.name) front column in
      let one : left front (count - i) c ≡ with_front (front ++ column ∷ []) (columns_at format rows (count - (i + 1)) (names front ++ column.name ∷ []) d) = rw (k, h) (regroup front column (columns_at format rows (count - (i + 1)) (names front ++ column.name ∷ []) d)) in
      ap (λ ns. with_front (front ++ column ∷ []) (columns_at format rows (count - (i + 1)) ns d)) named ∙ sym one ∙ so_far

  pub column_refused : (front : List SealedColumn) (count i : ℕ) (c : Cursor) (e : SegmentRefused) (all : Read (List SealedColumn)) → i < count → Refuses e (column_at format rows (names front) c)
      → left front (count - i) c ≡ all → Refuses e all
  unfolding columns_at
  column_refused front count i c e all lt h so_far =
      let k : count - i ≡ suc (count - (i + 1)) = omega arith in
      refused e (column_at format rows (names front) c) all h (λ f told. sym so_far ∙ rw (k, told) refl)

  pub columns_done : (front : List SealedColumn) (count i : ℕ) (c : Cursor) (all : Read (List SealedColumn)) → count ≤ i → left front (count - i) c ≡ all → all ≡ Ok (front, c)
  unfolding columns_at
  columns_done front count i c all le so_far =
      let k : count - i ≡ 0 = omega arith in
      let one : left front (count - i) c ≡ Ok (front, c) = rw k (ap (λ xs. Ok (xs, c)) (append-nil front)) in
      sym so_far ∙ one
