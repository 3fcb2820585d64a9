-- Rows that are sealed have one file.
use Rattle.std.proofs.Common.{◌≡◌, ◌+◌, ℕ, ◌<◌, false, List, [], ◌∷◌, length, get_or, map, refl, sym, ap, subst, ◌∙◌, arith}
use Rattle.std.specs.List.{AllByRecursion}
use Rattle.std.proofs.lemmas.List.{get_or_default, length-map, same_lists}
use Rattle.std.proofs.lemmas.List.Elements.{recursion_from_All}
use Rattle.std.proofs.lemmas.List.FromFn.{get_or-map-range_with_len, length-map-range_with_len}
use Rattle.rt_base.specs.declared.numbers.Offset.{Offset}
use Rattle.rt_base.specs.declared.numbers.Partition.{Partition}
use Rattle.rt_base.specs.declared.numbers.Sequence.{Sequence}
use Rattle.rt_build.specs.Sealing.{IsSealOf, shape_in}
use Rattle.rt_mutable.specs.Column.{Shape}
use Rattle.rt_mutable.specs.Consuming.{Consuming}
use Rattle.rt_consumer.specs.Consumer.{IsBuilt}
use Rattle.rt_consumer.specs.declared.settings.Settings.{Settings}
use Rattle.rt_schema.specs.declared.row.Row.{Row}
use Rattle.rt_schema.specs.declared.value.Value.{Value}
use Rattle.rt_schema.specs.declared.value.Value.TheVariants as value
use Rattle.rt_segment.specs.Column.{IsColumn, SealedColumn, values_of}
use Rattle.rt_segment.specs.Segment.{IsColumnOf, IsSealed, SealedSegment, cell_in, row_in, rows_of}
use Rattle.rt_segment.proofs.OneTable.{one_column}

abbrev none : Value
none = value.Bool false

-- ---- one column, by its cells

-- a column that a file of so many rows has
pub record IsWhole (count : ℕ) (c : SealedColumn) : Type 0 where
  pub column : IsColumn c
  pub of : IsColumnOf count c

count_values : (count : ℕ) (a : SealedColumn) → IsWhole count a → length (values_of a) ≡ count
count_values count a x = length-map a.ids _ ∙ x.of.rows

same_values : (count : ℕ) (a b : SealedColumn) → IsWhole count a → IsWhole count b → ((r : ℕ) → r < count → cell_in r a ≡ cell_in r b) → values_of a ≡ values_of b
same_values count a b x y same =
    same_lists (values_of a) (values_of b) (count_values count a x ∙ sym (count_values count b y))
    (λ k d lt.
    let left = count_values count a x in
    let right = count_values count b y in
    let within : k < count = omega (arith, left, lt) in
    let there : k < length (values_of b) = omega (arith, right, within) in
    get_or_default (values_of a) k d none lt ∙ same k within ∙ get_or_default (values_of b) k none d there)

one_by_cells : (count : ℕ) (a b : SealedColumn) → IsWhole count a → IsWhole count b → shape_in a ≡ shape_in b
    → ((r : ℕ) → r < count → cell_in r a ≡ cell_in r b) → a ≡ b
one_by_cells count a b x y shape same =
    one_column a b x.column y.column (ap (λ (s : Shape). s.name) shape) (ap (λ (s : Shape). s.kind) shape) (ap (λ (s : Shape). s.indexed) shape)
    (same_values count a b x y same)

-- ---- all columns

abbrev join : {X : Type 0} → X → List X → List X
join x xs = x ∷ xs

same_join : {X : Type 0} (x y : X) (xs ys : List X) → join x xs ≡ join y ys → (x ≡ y) × (xs ≡ ys)
same_join x y xs ys e = (cc, cc)

never_joined : {X : Type 0} (x : X) (xs : List X) → [] ≡ join x xs → ⊥
never_joined x xs e = cc

one_by_rows : (count : ℕ) (cs ds : List SealedColumn) → AllByRecursion (IsWhole count) cs → AllByRecursion (IsWhole count) ds
    → map shape_in cs ≡ map shape_in ds → ((r : ℕ) → r < count → map (cell_in r) cs ≡ map (cell_in r) ds) → cs ≡ ds
one_by_rows count [] [] x y shapes cells = refl
one_by_rows count [] (b ∷ ds) x y shapes cells = absurd (never_joined (shape_in b) (map shape_in ds) shapes)
one_by_rows count (a ∷ cs) [] x y shapes cells = absurd (never_joined (shape_in a) (map shape_in cs) (sym shapes))
one_by_rows count (a ∷ cs) (b ∷ ds) x y shapes cells =
    let shape = same_join (shape_in a) (shape_in b) (map shape_in cs) (map shape_in ds) shapes in
    let cell = λ (r : ℕ) (lt : r < count). same_join (cell_in r a) (cell_in r b) (map (cell_in r) cs) (map (cell_in r) ds) (cells r lt) in
    let first = one_by_cells count a b x.0 y.0 shape.0 (λ r lt. (cell r lt).0) in
    let others = one_by_rows count cs ds x.1 y.1 shape.1 (λ r lt. (cell r lt).1) in
    λ t. first t ∷ others t

-- ---- the file

module _ (version : ℕ) (p : Partition) (q : Sequence) (end : Offset) (indexed : List (List ℕ)) (rows : Consuming) (f g : SealedSegment) (x : IsSealed f) (y : IsSealed g)
    (a : IsSealOf version p q end indexed rows f) (b : IsSealOf version p q end indexed rows g) where
  same_rows : rows_of f ≡ rows_of g
  same_rows = a.rows ∙ sym b.rows

  same_count : f.rows ≡ g.rows
  same_count =
      sym (length-map-range_with_len (row_in f.columns) 0 f.rows) ∙ ap (λ (rs : List Row). length rs) same_rows
      ∙ length-map-range_with_len (row_in g.columns) 0 g.rows

  cells : (r : ℕ) → r < f.rows → map (cell_in r) f.columns ≡ map (cell_in r) g.columns
  cells r lt =
      let d : Row = record { values = [] } in
      let there : r < g.rows = omega (arith, lt, same_count) in
      let at : 0 + r ≡ r = omega arith in
      ap (λ (row : Row). row.values)
      (sym (get_or-map-range_with_len (row_in f.columns) 0 f.rows r r d lt at) ∙ ap (λ rs. get_or rs r d) same_rows
      ∙ get_or-map-range_with_len (row_in g.columns) 0 g.rows r r d there at)

  whole : (s : SealedSegment) → IsSealed s → s.rows ≡ f.rows → AllByRecursion (IsWhole f.rows) s.columns
  whole s z same =
      recursion_from_All (IsWhole f.rows) s.columns
      (λ k d lt. record { column = z.columns k d lt; of = subst (λ n. IsColumnOf n (get_or s.columns k d)) same (z.sealable.columns k d lt) })

  columns : f.columns ≡ g.columns
  columns = one_by_rows f.rows f.columns g.columns (whole f x refl) (whole g y (sym same_count)) (a.columns ∙ sym b.columns) cells

  one_file : f ≡ g
  one_file = λ t.
      record {
        format = (a.format ∙ sym b.format) t;
        partition = (a.partition ∙ sym b.partition) t;
        sequence = (a.sequence ∙ sym b.sequence) t;
        range = (a.range ∙ sym b.range) t;
        rows = same_count t;
        columns = columns t;
      }

pub one_built : (settings : Settings) (p : Partition) (q : Sequence) (rows : Consuming) (f g : SealedSegment) → IsBuilt settings p q rows f → IsBuilt settings p q rows g → f ≡ g
one_built settings p q rows f g x y = one_file settings.format p q rows.end settings.indexed rows f g x.whole y.whole x.seals y.seals
