-- A range of a log has one file by the settings of a table and a format.
use Rattle.std.proofs.Common.{◌≡◌, ℕ, ◌<◌, Bool, true, false, List, [], ◌∷◌, length, map, get_or, bytes_eq, refl, sym, ap, subst, ◌∙◌, arith}
use Rattle.std.specs.List.{All}
use Rattle.std.proofs.lemmas.Bool.{and_parts}
use Rattle.std.proofs.lemmas.List.{length-map, get_or_default, same_lists}
use Rattle.std.proofs.lemmas.List.Elements.{All-head, All-tail}
use Rattle.std.proofs.lemmas.List.FromFn.{get_or-map-range_with_len, length-map-range_with_len}
use Rattle.std.proofs.lemmas.Slice.Eq.{bytes_eq-Decides}
use Rattle.rt_base.specs.declared.header.Header.{Header}
use Rattle.rt_base.specs.declared.numbers.Partition.{Partition}
use Rattle.rt_base.specs.declared.numbers.Sequence.{Sequence}
use Rattle.rt_base.specs.declared.range.Range.{Range}
use Rattle.rt_schema.specs.Schema.{is_among}
use Rattle.rt_schema.specs.declared.column.Column.{Column}
use Rattle.rt_schema.specs.declared.column.Kind.{Kind}
use Rattle.rt_schema.specs.declared.column.Kind.TheVariants as kinds
use Rattle.rt_schema.specs.declared.row.Row.{Row}
use Rattle.rt_schema.specs.declared.value.Value.{Value}
use Rattle.rt_schema.specs.declared.value.Value.TheVariants as value
use Rattle.rt_model.specs.declared.setup.Setup.{Setup}
use Rattle.rt_segment.specs.Column.{SealedColumn, IsColumn, kind_in, values_in, values_of}
use Rattle.rt_segment.specs.Segment.{SealedSegment, IsColumnOf, are_columns, cell_in, is_column, kind_eq, row_in, rows_of}
use Rattle.rt_segment.specs.Spelling.{file_of}
use Rattle.rt_segment.proofs.OneTable.{one_column}
use Rattle.rt_peer.specs.RightPeer.{IsBuilt, IsIndexed}

abbrev none : Value
none = value.Bool false

kind_same : (a b : Kind) → kind_eq a b ≡ true → a ≡ b
kind_same kinds.Int kinds.Int e = refl
kind_same kinds.Long kinds.Long e = refl
kind_same kinds.Text kinds.Text e = refl
kind_same kinds.Bool kinds.Bool e = refl
kind_same kinds.Time kinds.Time e = refl
kind_same a b e = absurd (cc)

-- ---- columns

-- a column of a schema with so many rows, indexed by the settings
record IsOf (names : List (List ℕ)) (rows : ℕ) (column : Column) (x : SealedColumn) : Type 0 where
  right : IsColumn x
  counted : IsColumnOf rows x
  indexed : IsIndexed names x
  fits : is_column x column ≡ true

abbrev cells_same : ℕ → SealedColumn → SealedColumn → Type 0
cells_same rows x y = (r : ℕ) → r < rows → cell_in r x ≡ cell_in r y

cell : SealedColumn → ℕ → Value
cell x id = get_or (values_in x.dictionary) id none

count_is : (x : SealedColumn) (rows : ℕ) → IsColumnOf rows x → length (values_of x) ≡ rows
count_is x rows counted = length-map x.ids (λ id. get_or (values_in x.dictionary) id none) ∙ counted.rows

one : (names : List (List ℕ)) (rows : ℕ) (column : Column) (x y : SealedColumn) → IsOf names rows column x → IsOf names rows column y → cells_same rows x y → x ≡ y
one names rows column x y a b same =
    let at = and_parts (bytes_eq x.name column.name) (kind_eq (kind_in x.dictionary) column.kind) a.fits in
    let bt = and_parts (bytes_eq y.name column.name) (kind_eq (kind_in y.dictionary) column.kind) b.fits in
    let name : x.name ≡ y.name = (bytes_eq-Decides x.name column.name).0 at.0 ∙ sym ((bytes_eq-Decides y.name column.name).0 bt.0) in
    let kind : kind_in x.dictionary ≡ kind_in y.dictionary = kind_same (kind_in x.dictionary) column.kind at.1 ∙ sym (kind_same (kind_in y.dictionary) column.kind bt.1) in
    let indexed : x.indexed ≡ y.indexed = a.indexed ∙ ap (λ n. is_among n names) name ∙ sym b.indexed in
    let many : length (values_of x) ≡ length (values_of y) = count_is x rows a.counted ∙ sym (count_is y rows b.counted) in
    let values : values_of x ≡ values_of y =
    same_lists (values_of x) (values_of y) many
    (λ (r : ℕ) (d : Value) (within : r < length (values_of x)).
    get_or_default (values_of x) r d none within
    ∙ same r (omega (arith, within, count_is x rows a.counted))
    ∙ get_or_default (values_of y) r none d (omega (arith, within, many))) in
    one_column x y a.right b.right name kind indexed values

-- columns of a schema
record AreOf (names : List (List ℕ)) (rows : ℕ) (columns : List Column) (xs : List SealedColumn) : Type 0 where
  right : All IsColumn xs
  counted : All (IsColumnOf rows) xs
  indexed : All (IsIndexed names) xs
  fits : are_columns xs columns ≡ true

first_of_all : (names : List (List ℕ)) (rows : ℕ) (column : Column) (columns : List Column) (x : SealedColumn) (xs : List SealedColumn)
    → AreOf names rows (column ∷ columns) (x ∷ xs) → IsOf names rows column x × AreOf names rows columns xs
first_of_all names rows column columns x xs all =
    let fits = and_parts (is_column x column) (are_columns xs columns) all.fits in (
      record {
        right = All-head IsColumn x xs all.right;
        counted = All-head (IsColumnOf rows) x xs all.counted;
        indexed = All-head (IsIndexed names) x xs all.indexed;
        fits = fits.0;
      },
      record {
        right = All-tail IsColumn x xs all.right;
        counted = All-tail (IsColumnOf rows) x xs all.counted;
        indexed = All-tail (IsIndexed names) x xs all.indexed;
        fits = fits.1;
      },
    )

abbrev rows_same : ℕ → List SealedColumn → List SealedColumn → Type 0
rows_same rows xs ys = (r : ℕ) → r < rows → map (cell_in r) xs ≡ map (cell_in r) ys

heads : (a b : Value) (us vs : List Value) → a ∷ us ≡ b ∷ vs → (a ≡ b) × (us ≡ vs)
heads a b us vs e = (cc, cc)

columns_same : (names : List (List ℕ)) (rows : ℕ) (columns : List Column) (xs ys : List SealedColumn)
    → AreOf names rows columns xs → AreOf names rows columns ys → rows_same rows xs ys → xs ≡ ys
columns_same names rows [] [] [] a b same = refl
columns_same names rows [] [] (y ∷ ys) a b same = absurd (let e : false ≡ true = b.fits in cc)
columns_same names rows [] (x ∷ xs) ys a b same = absurd (let e : false ≡ true = a.fits in cc)
columns_same names rows (column ∷ columns) [] ys a b same = absurd (let e : false ≡ true = a.fits in cc)
columns_same names rows (column ∷ columns) (x ∷ xs) [] a b same = absurd (let e : false ≡ true = b.fits in cc)
columns_same names rows (column ∷ columns) (x ∷ xs) (y ∷ ys) a b same =
    let us = first_of_all names rows column columns x xs a in
    let vs = first_of_all names rows column columns y ys b in
    let first : x ≡ y = one names rows column x y us.0 vs.0 (λ r lt. (heads _ _ _ _ (same r lt)).0) in
    let others : xs ≡ ys = columns_same names rows columns xs ys us.1 vs.1 (λ r lt. (heads _ _ _ _ (same r lt)).1) in
    ap (λ (z : SealedColumn). z ∷ xs) first ∙ ap (λ (zs : List SealedColumn). y ∷ zs) others

-- ---- segments

abbrev made : ℕ → Partition → Sequence → Range → ℕ → List SealedColumn → SealedSegment
made format p s range rows columns =
    record { format = format; partition = p; sequence = s; range = range; rows = rows; columns = columns }

row_values : (a b : Row) → a ≡ b → a.values ≡ b.values
row_values a b e = ap (λ (row : Row). row.values) e

-- rows that are the same in number and each
rows_are : (s t : SealedSegment) → rows_of s ≡ rows_of t → (s.rows ≡ t.rows) × rows_same s.rows s.columns t.columns
rows_are s t same =
    let many : s.rows ≡ t.rows =
    sym (length-map-range_with_len (row_in s.columns) 0 s.rows) ∙ ap length same ∙ length-map-range_with_len (row_in t.columns) 0 t.rows in (
      many,
      λ (r : ℕ) (lt : r < s.rows).
          let d : Row = record { values = [] } in
          row_values (row_in s.columns r) (row_in t.columns r)
          (sym (get_or-map-range_with_len (row_in s.columns) 0 s.rows r r d lt (omega arith))
          ∙ ap (λ (rows : List Row). get_or rows r d) same
          ∙ get_or-map-range_with_len (row_in t.columns) 0 t.rows r r d (omega (arith, lt, many)) (omega arith)),
    )

pub one_segment : (setup : Setup) (messages : List (List ℕ)) (wanted : Header) (a b : List ℕ)
    (x : IsBuilt setup messages wanted a) (y : IsBuilt setup messages wanted b) → x.file.segment ≡ y.file.segment
one_segment setup messages wanted a b x y =
    let s : SealedSegment = x.file.segment in
    let t : SealedSegment = y.file.segment in
    let rows = rows_are s t (x.file.rows ∙ sym y.file.rows) in
    let columns : s.columns ≡ t.columns =
    columns_same setup.table.indexed s.rows setup.schema.columns s.columns t.columns
    (record { right = x.file.sealed.columns; counted = x.file.sealed.sealable.columns; indexed = x.indexed; fits = x.file.columns })
    (record {
      right = y.file.sealed.columns;
      counted = subst (λ (n : ℕ). All (IsColumnOf n) t.columns) (sym rows.0) y.file.sealed.sealable.columns;
      indexed = y.indexed;
      fits = y.file.columns;
    })
    rows.1 in
    ap (λ f. made f s.partition s.sequence s.range s.rows s.columns) (x.format ∙ sym y.format)
    ∙ ap (λ p. made t.format p s.sequence s.range s.rows s.columns) (x.file.header.0 ∙ sym y.file.header.0)
    ∙ ap (λ q. made t.format t.partition q s.range s.rows s.columns) (x.file.header.1 ∙ sym y.file.header.1)
    ∙ ap (λ r. made t.format t.partition t.sequence r s.rows s.columns) (x.file.header.2 ∙ sym y.file.header.2)
    ∙ ap (λ n. made t.format t.partition t.sequence t.range n s.columns) rows.0
    ∙ ap (made t.format t.partition t.sequence t.range t.rows) columns

-- so there is one file
pub one_file : (setup : Setup) (messages : List (List ℕ)) (wanted : Header) (a b : List ℕ)
    → IsBuilt setup messages wanted a → IsBuilt setup messages wanted b → a ≡ b
one_file setup messages wanted a b x y =
    x.file.spelled ∙ ap file_of (one_segment setup messages wanted a b x y) ∙ sym y.file.spelled
