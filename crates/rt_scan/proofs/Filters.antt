-- Predicates over lists of rows, part by part.
use Rattle.std.proofs.Common.{◌≡◌, ℕ, ◌+◌, ◌<◌, ◌≤◌, Bool, true, false, not, List, ◌∷◌, length, map, drop, replicate, get_or, slice_get, Some, None, ap, sym, ◌∙◌, arith}
use Rattle.std.specs.Prelude.{option_map}
use Rattle.std.specs.List.{range_with_len}
use Rattle.std.proofs.Math.ListN.{get_or-map}
use Rattle.std.proofs.lemmas.List.{drop_more, drop_all, length-map, get_or_default}
use Rattle.std.proofs.lemmas.List.FromFn.{length-range_with_len, length-map-range_with_len, fill_by_all}
use Rattle.std.proofs.lemmas.Option.{slice_get-map}
use Rattle.rt_schema.specs.declared.row.Row.{Row}
use Rattle.rt_schema.specs.declared.value.Value.{Value}
use Rattle.rt_schema.specs.declared.value.Value.TheVariants.{Bool as Truth}
use Rattle.rt_postings.specs.DocSet.{both, either}
use Rattle.rt_model.specs.declared.query_parts.ColumnAt.{ColumnAt}
use Rattle.rt_model.specs.Match.{matches, matches_all, matches_any, meets, value_at}
use Rattle.rt_model.specs.Tree.{Tree, And, Or, Not, trees}
use Rattle.rt_seek.specs.Table.{cell_at, row_at, rows_by}
use Rattle.rt_seek.proofs.Sets.{map_agree, map_map, map_constant, both_assoc, both_maps, both_all, all_both, either_assoc, either_maps, either_none, none_either}

module _ (rows : List Row) where
  pub all_start : (ts : List Tree) (set : List Bool) → set ≡ replicate (length rows) true → both set (map (matches_all (trees ts)) rows) ≡ map (matches_all (trees ts)) rows
  all_start ts set e = ap (λ s. both s (map (matches_all (trees ts)) rows)) e ∙ all_both (matches_all (trees ts)) rows

  -- one part more
  pub all_step : (set others new whole : List Bool) (ts : List Tree) (i : ℕ) (t : Tree) → new ≡ both set others → others ≡ map (matches t) rows → i < length ts → t ≡ get_or ts i t →
      both set (map (matches_all (trees (drop i ts))) rows) ≡ whole → both new (map (matches_all (trees (drop (i + 1) ts))) rows) ≡ whole
  all_step set others new whole ts i t is matched h here before =
      let rest = map (matches_all (trees (drop (i + 1) ts))) rows in
      ap (λ s. both s rest) (is ∙ ap (both set) matched)
      ∙ both_assoc set (map (matches t) rows) rest
      ∙ ap (both set) (both_maps (matches t) (matches_all (trees (drop (i + 1) ts))) rows)
      ∙ ap (λ us. both set (map (matches_all (trees us)) rows)) (ap (λ u. u ∷ drop (i + 1) ts) here ∙ sym (drop_more ts i t h))
      ∙ before

  pub all_end : (p : Tree) (set : List Bool) (ts : List Tree) (i : ℕ) → And (trees ts) ≡ p → length set ≡ length rows → length ts ≤ i →
      both set (map (matches_all (trees (drop i ts))) rows) ≡ map (matches_all (trees ts)) rows → set ≡ map (matches p) rows
  all_end p set ts i is len past before =
      sym (both_all set rows len) ∙ ap (λ us. both set (map (matches_all (trees us)) rows)) (sym (drop_all i ts past)) ∙ before
      ∙ map_agree (matches_all (trees ts)) (matches p) (λ row. ap (λ q. matches q row) is) rows

  pub any_start : (ts : List Tree) (set : List Bool) → set ≡ replicate (length rows) false → either set (map (matches_any (trees ts)) rows) ≡ map (matches_any (trees ts)) rows
  any_start ts set e = ap (λ s. either s (map (matches_any (trees ts)) rows)) e ∙ none_either (matches_any (trees ts)) rows

  pub any_step : (set others new whole : List Bool) (ts : List Tree) (i : ℕ) (t : Tree) → new ≡ either set others → others ≡ map (matches t) rows → i < length ts → t ≡ get_or ts i t →
      either set (map (matches_any (trees (drop i ts))) rows) ≡ whole → either new (map (matches_any (trees (drop (i + 1) ts))) rows) ≡ whole
  any_step set others new whole ts i t is matched h here before =
      let rest = map (matches_any (trees (drop (i + 1) ts))) rows in
      ap (λ s. either s rest) (is ∙ ap (either set) matched)
      ∙ either_assoc set (map (matches t) rows) rest
      ∙ ap (either set) (either_maps (matches t) (matches_any (trees (drop (i + 1) ts))) rows)
      ∙ ap (λ us. either set (map (matches_any (trees us)) rows)) (ap (λ u. u ∷ drop (i + 1) ts) here ∙ sym (drop_more ts i t h))
      ∙ before

  pub any_end : (p : Tree) (set : List Bool) (ts : List Tree) (i : ℕ) → Or (trees ts) ≡ p → length set ≡ length rows → length ts ≤ i →
      either set (map (matches_any (trees (drop i ts))) rows) ≡ map (matches_any (trees ts)) rows → set ≡ map (matches p) rows
  any_end p set ts i is len past before =
      sym (either_none set rows len) ∙ ap (λ us. either set (map (matches_any (trees us)) rows)) (sym (drop_all i ts past)) ∙ before
      ∙ map_agree (matches_any (trees ts)) (matches p) (λ row. ap (λ q. matches q row) is) rows

  pub not_end : (p t : Tree) (set new : List Bool) → Not t ≡ p → set ≡ map (matches t) rows → new ≡ map not set → new ≡ map (matches p) rows
  not_end p t set new is matched turned =
      turned ∙ ap (map not) matched ∙ map_map not (matches t) rows
      ∙ map_agree (λ row. not (matches t row)) (matches p) (λ row. ap (λ q. matches q row) is) rows

-- a test on a column of a table
module _ {C : Type 0} (values : C → List Value) (columns : List C) (n : ℕ) where
  pub length_rows : length (rows_by values columns n) ≡ n
  length_rows = length-map-range_with_len (row_at values columns) 0 n

  pub test_rows : (test : Value → Bool) (column : ColumnAt) (c : C) → slice_get columns column.place ≡ Some c → length (values c) ≡ n →
      map test (values c) ≡ map (λ row. meets test (value_at row column)) (rows_by values columns n)
  test_rows test column c found full =
      let f = λ (r : ℕ). test (cell_at values r c) in
      fill_by_all f (map test (values c)) n false (length-map (values c) test ∙ full) (λ k below. at_row k below)
      ∙ map_agree f (λ r. meets test (value_at (row_at values columns r) column)) (λ r. sym (ap (meets test) (slice_get-map (cell_at values r) columns column.place ∙ ap (λ o. option_map (cell_at values r) o) found))) (range_with_len 0 n)
      ∙ sym (map_map (λ row. meets test (value_at row column)) (row_at values columns) (range_with_len 0 n))
    where
      at_row : (k : ℕ) → k < n → get_or (map test (values c)) k false ≡ test (cell_at values k c)
      at_row k below =
          get_or_default (map test (values c)) k false (test (Truth false)) (omega (arith, below, length-map (values c) test, full))
          ∙ get_or-map test (values c) k (Truth false)

  pub no_rows : (test : Value → Bool) (column : ColumnAt) → slice_get columns column.place ≡ None →
      replicate n false ≡ map (λ row. meets test (value_at row column)) (rows_by values columns n)
  no_rows test column none =
      ap (λ m. replicate m false) (sym (length-range_with_len 0 n))
      ∙ sym (map_constant (λ r. meets test (value_at (row_at values columns r) column)) false (range_with_len 0 n) (λ r. ap (meets test) (slice_get-map (cell_at values r) columns column.place ∙ ap (λ o. option_map (cell_at values r) o) none)))
      ∙ sym (map_map (λ row. meets test (value_at row column)) (row_at values columns) (range_with_len 0 n))
