-- A test of a column tells which rows a filter takes.
use Rattle.std.proofs.Common.{◌≡◌, ℕ, ◌<◌, Bool, false, List, [], ◌∷◌, length, map, Option, get_or, sym, ap, subst, ◌∙◌, arith}
use Rattle.std.specs.List.{AllByRecursion, range_with_len}
use Rattle.std.proofs.lemmas.List.{length-map}
use Rattle.std.proofs.lemmas.List.Elements.{All-from_recursion}
use Rattle.std.proofs.lemmas.Option.{slice_get-get_or}
use Rattle.rt_schema.specs.declared.row.Row.{Row}
use Rattle.rt_schema.specs.declared.value.Value.TheVariants.{Bool as Truth}
use Rattle.rt_model.specs.declared.query.Query.{Query}
use Rattle.rt_model.specs.declared.query_parts.ColumnAt.{ColumnAt}
use Rattle.rt_model.specs.Aggregate.{key_of, taken}
use Rattle.rt_model.specs.Match.{compares, meets, passes, value_in}
use Rattle.rt_model.specs.Tree.{Tree}
use Rattle.rt_segment.specs.Segment.{SealedSegment, cell_in, row_in, rows_of}
use Rattle.rt_agg.specs.Grouped.{Grouped, Holds, keys_in_order}
use Rattle.rt_agg.specs.Picking.{Picks}
use Rattle.rt_scan.specs.declared.key_test.KeyTest.{KeyTest}
use Rattle.rt_scan.specs.declared.key_test.KeyTest.TheVariants.{Any, Compare}
use Rattle.rt_scan.specs.Summaries.{IsSummary, IsTestOf, passes_key}

-- a row with a value at the column's place
test_tells : (filter : Option Tree) (column : ColumnAt) (test : KeyTest) (row : Row) → IsTestOf filter column test → column.place < length row.values
    → passes filter row ≡ passes_key test (value_in row column ∷ [])
test_tells filter column Any row is inside = ap (λ f. passes f row) is
test_tells filter column (Compare comparison l) row is inside =
    ap (λ f. passes f row) is ∙ ap (meets (λ v. compares comparison v l.now)) (slice_get-get_or row.values column.place (Truth false) inside)

mapped : {X Y : Type 0} (P : Y → Type 0) (f : X → Y) (xs : List X) → ((x : X) → P (f x)) → AllByRecursion P (map f xs)
mapped P f [] each = tt
mapped P f (x ∷ xs) each = (each x, mapped P f xs each)

module _ (file : SealedSegment) (column : ColumnAt) (inside : column.place < length file.columns) (test : KeyTest) where
  rows_tell : (filter : Option Tree) → IsTestOf filter column test → AllByRecursion (λ row. passes filter row ≡ passes_key test (key_of (column ∷ []) row)) (rows_of file)
  rows_tell filter is =
      mapped (λ row. passes filter row ≡ passes_key test (key_of (column ∷ []) row)) (row_in file.columns) (range_with_len 0 file.rows)
      (λ n. test_tells filter column test (row_in file.columns n) is (omega (arith, inside, length-map file.columns (cell_in n))))

  -- groups that are picked from a summary hold the rows that the query takes
  pub picked_hold : (query : Query) (summary groups : Grouped) (marks : List Bool) → IsSummary file summary → summary.columns ≡ column ∷ [] → IsTestOf query.filter column test
      → marks ≡ map (passes_key test) (keys_in_order summary) → Picks query marks summary groups → Holds query (taken query (rows_of file)) groups
  picked_hold query summary groups marks is columns tests marked picks =
      let over = is.0 in
      let by : over.groups ≡ column ∷ [] = sym is.1.columns ∙ columns in
      picks over (rows_of file) (passes_key test) is.1 marked
      (subst (λ (gs : List ColumnAt). AllByRecursion (λ row. passes query.filter row ≡ passes_key test (key_of gs row)) (rows_of file)) (sym by) (rows_tell query.filter tests))

-- what is true of each of a list is true of an item that is read of it
pub each_read : {X : Type 0} (P : X → Type 0) (xs ys : List X) (i : ℕ) (x : X) → AllByRecursion P xs → ys ≡ xs → i < length ys → x ≡ get_or ys i x → P x
each_read {X} P xs ys i x all same within is =
    subst P (sym is) (subst (λ (zs : List X). P (get_or zs i x)) (sym same) (All-from_recursion P xs all i x (subst (λ (zs : List X). i < length zs) same within)))
