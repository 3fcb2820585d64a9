-- The first rows of a consuming segment.
use Rattle.std.proofs.Common.{◌≡◌, ℕ, ◌+◌, ◌<◌, ◌≤◌, false, List, [], ◌∷◌, ◌++◌, length, map, take, get_or, slice_get, Some, refl, ap, sym, subst, ◌∙◌, arith, All}
use Rattle.std.specs.List.{range_with_len}
use Rattle.std.proofs.Math.ListN.{get_or-map}
use Rattle.std.proofs.lemmas.List.{length-map, length-take-le, get_or_default, get_or-take, map-append}
use Rattle.std.proofs.lemmas.List.Elements.{All-map}
use Rattle.std.proofs.lemmas.List.FromFn.{fill_by_all}
use Rattle.std.proofs.lemmas.Option.{get_or_from_slice_get}
use Rattle.rt_schema.specs.declared.row.Row.{Row}
use Rattle.rt_schema.specs.declared.schema.Schema.{Schema}
use Rattle.rt_schema.specs.declared.value.Value.{Value}
use Rattle.rt_schema.specs.declared.value.Value.TheVariants as value
use Rattle.rt_schema.specs.Row.{IsRowOf}
use Rattle.rt_schema.specs.Value.{kind_of}
use Rattle.rt_mutable.specs.Consuming.{Consuming, Placed, IsConsuming, FitsColumns, value_at, values_at}
use Rattle.rt_seek.specs.Table.{item_at, cell_at, row_at, rows_by}
use Rattle.rt_seek.proofs.Keys.{item}
use Rattle.rt_seek.proofs.Sets.{map_agree, map_map, map_range_more}
use Rattle.rt_scan.specs.Scanned.{first_at}

-- a column more
pub pushed_more : {X Y : Type 0} (f : X → Y) (g : ℕ → Y) (xs us : List X) (x : X) (n : ℕ) → us ≡ xs ++ x ∷ [] → map f xs ≡ map g (range_with_len 0 n) → f x ≡ g n → map f us ≡ map g (range_with_len 0 (n + 1))
pushed_more f g xs us x n pushed before here =
    ap (map f) pushed ∙ map-append f xs (x ∷ []) ∙ ap (λ ys. ys ++ f x ∷ []) before ∙ ap (λ y. map g (range_with_len 0 n) ++ y ∷ []) here ∙ sym (map_range_more g n)

module _ (segment : Consuming) (right : IsConsuming segment) where
  width : (k : ℕ) (p : Placed) → slice_get segment.rows k ≡ Some p → k < length segment.rows → FitsColumns segment.columns p.row
  width k p at h = subst (λ (q : Placed). FitsColumns segment.columns q.row) (get_or_from_slice_get segment.rows k p p at) (right.fit k p h)

  -- a row has a value in each column
  cells : (row : Row) → FitsColumns segment.columns row → map (λ place. value_at place row) (range_with_len 0 (length segment.columns)) ≡ row.values
  cells row fits = sym (fill_by_all (λ place. value_at place row) row.values (length segment.columns) (value.Bool false) (sym (length-map row.values kind_of) ∙ ap length fits ∙ length-map segment.columns (λ shape. shape.kind)) (λ k below. refl))

  module _ {C : Type 0} (f : C → List Value) (cs : List C) (n : ℕ) (within : n ≤ length segment.rows) (is : map f cs ≡ map (first_at n segment.rows) (range_with_len 0 (length segment.columns))) where
    first_cell : (k : ℕ) (p : Placed) → slice_get segment.rows k ≡ Some p → k < n → (place : ℕ) → item_at (first_at n segment.rows place) k ≡ value_at place p.row
    first_cell k p at below place =
        let vs = values_at place segment.rows in
        get_or-take n vs k (value.Bool false) below
        ∙ get_or_default vs k (value.Bool false) (value_at place p.row) (omega (arith, below, within, length-map segment.rows (λ (q : Placed). value_at place q.row)))
        ∙ get_or-map (λ (q : Placed). value_at place q.row) segment.rows k p ∙ ap (λ (q : Placed). value_at place q.row) (get_or_from_slice_get segment.rows k p p at)

    pub row_is : (k : ℕ) (p : Placed) → slice_get segment.rows k ≡ Some p → k < n → row_at f cs k ≡ p.row
    row_is k p at below =
        let values : map (cell_at f k) cs ≡ p.row.values =
        sym (map_map (λ vs. item_at vs k) f cs) ∙ ap (map (λ vs. item_at vs k)) is
        ∙ map_map (λ vs. item_at vs k) (first_at n segment.rows) (range_with_len 0 (length segment.columns))
        ∙ map_agree (λ place. item_at (first_at n segment.rows place) k) (λ place. value_at place p.row) (first_cell k p at below) (range_with_len 0 (length segment.columns))
        ∙ cells p.row (width k p at (omega (arith, below, within))) in
        ap (λ vs. record { values = vs }) values

    pub first_rows_are : rows_by f cs n ≡ map (λ placed. placed.row) (take n segment.rows)
    first_rows_are =
        let g = λ (q : Placed). q.row in
        sym (fill_by_all (row_at f cs) (map g (take n segment.rows)) n (row_at f cs 0) (length-map (take n segment.rows) g ∙ length-take-le n segment.rows within) (λ k below.
        let p = item segment.rows k (omega (arith, below, within)) in
        get_or_default (map g (take n segment.rows)) k (row_at f cs 0) p.0.row (omega (arith, below, length-map (take n segment.rows) g, length-take-le n segment.rows within))
        ∙ get_or-map g (take n segment.rows) k p.0 ∙ ap g (get_or-take n segment.rows k p.0 below ∙ get_or_from_slice_get segment.rows k p.0 p.0 p.1)
        ∙ sym (row_is k p.0 p.1 below)))

    pub first_full : All (λ vs. length vs ≡ n) (map f cs)
    first_full = subst (All (λ (vs : List Value). length vs ≡ n)) (sym is) (All-map (λ vs. length vs ≡ n) (first_at n segment.rows) (range_with_len 0 (length segment.columns)) (λ k d h.
        length-take-le n (values_at (get_or (range_with_len 0 (length segment.columns)) k d) segment.rows) (omega (arith, within, length-map segment.rows (λ (q : Placed). value_at (get_or (range_with_len 0 (length segment.columns)) k d) q.row)))))

    pub first_kinds : (schema : Schema) → map (λ shape. shape.kind) segment.columns ≡ map (λ column. column.kind) schema.columns → (k : ℕ) → k < n → IsRowOf schema (row_at f cs k)
    first_kinds schema kinds k below =
        let p = item segment.rows k (omega (arith, below, within)) in
        subst (IsRowOf schema) (sym (row_is k p.0 p.1 below)) (width k p.0 p.1 (omega (arith, below, within)) ∙ kinds)
