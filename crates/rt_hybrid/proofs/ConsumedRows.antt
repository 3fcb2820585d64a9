-- A consuming segment that takes the rows of a push, and what is sealed of it.
use Rattle.std.proofs.Common.{◌≡◌, ℕ, zero, suc, ◌+◌, ◌<◌, ◌≤◌, Bool, true, cond, List, [], ◌∷◌, ◌++◌, length, map, filter, take, get_or, Some, All, subst, refl, sym, ap, ◌∙◌, arith}
use Rattle.std.proofs.lemmas.Bool.{lt-ltb}
use Rattle.std.proofs.lemmas.List.{length_push, take_more}
use Rattle.rt_schema.specs.declared.column.Column.{Column}
use Rattle.rt_schema.specs.declared.row.Row.{Row}
use Rattle.rt_schema.specs.Row.{IsRowOf}
use Rattle.rt_schema.specs.declared.schema.Schema.{Schema}
use Rattle.rt_mutable.specs.Column.{Shape}
use Rattle.rt_mutable.specs.Consuming.{Consuming, FitsColumns, Placed, after_message, is_before}
use Rattle.rt_mutable.proofs.ForCallers.{rows_fit}
use Rattle.rt_hybrid.specs.Sealing.{consuming_of, placed_from}

placed_more : (from : ℕ) (rows : List Row) (row : Row) → placed_from from (rows ++ row ∷ []) ≡ placed_from from rows ++ record { offset = record { 0 = from + length rows }; row = row } ∷ []
placed_more from [] row =
    let e : from ≡ from + 0 = omega arith in
    (λ j. record { offset = record { 0 = e j }; row = row } ∷ [])
placed_more from (r ∷ rows) row =
    let e : (from + 1) + length rows ≡ from + length (r ∷ rows) = omega arith in
    ap (λ (ps : List Placed). record { offset = record { 0 = from }; row = r } ∷ ps)
    (placed_more (from + 1) rows row ∙ ap (λ n. placed_from (from + 1) rows ++ record { offset = record { 0 = n }; row = row } ∷ []) e)

-- one row more
after_one : (columns : List Column) (rows : List Row) (row : Row) → after_message (consuming_of columns rows) (Some row) ≡ consuming_of columns (rows ++ row ∷ [])
after_one columns rows row =
    let place : 0 + length rows ≡ length rows = omega arith in
    let placed : placed_from 0 rows ++ record { offset = record { 0 = length rows }; row = row } ∷ [] ≡ placed_from 0 (rows ++ row ∷ []) =
    sym (placed_more 0 rows row ∙ ap (λ n. placed_from 0 rows ++ record { offset = record { 0 = n }; row = row } ∷ []) place) in
    let end : length rows + 1 ≡ length (rows ++ row ∷ []) = sym (length_push rows row) in
    (λ j. record (consuming_of columns rows) { rows = placed j; end = record { 0 = end j } })

pub consumed_more : (columns : List Column) (rows : List Row) (i : ℕ) (row : Row) → i < length rows → row ≡ get_or rows i row
    → after_message (consuming_of columns (take i rows)) (Some row) ≡ consuming_of columns (take (i + 1) rows)
consumed_more columns rows i row within is =
    after_one columns (take i rows) row ∙ ap (consuming_of columns) (ap (λ r. take i rows ++ r ∷ []) is ∙ sym (take_more rows i row within))

pub length_placed : (from : ℕ) (rows : List Row) → length (placed_from from rows) ≡ length rows
length_placed from [] = refl
length_placed from (r ∷ rows) = ap suc (length_placed (from + 1) rows)

before_at : (from end : ℕ) (row : Row) (rows : List Row) (b : Bool) → b ≡ true
    → map (λ (p : Placed). p.row) (filter (is_before (record { 0 = end })) (placed_from (from + 1) rows)) ≡ rows
    → map (λ (p : Placed). p.row) (cond b (record { offset = record { 0 = from }; row = row } ∷ filter (is_before (record { 0 = end })) (placed_from (from + 1) rows)) (filter (is_before (record { 0 = end })) (placed_from (from + 1) rows))) ≡ row ∷ rows
before_at from end row rows b e rest =
    ap (λ c. map (λ (p : Placed). p.row) (cond c (record { offset = record { 0 = from }; row = row } ∷ filter (is_before (record { 0 = end })) (placed_from (from + 1) rows)) (filter (is_before (record { 0 = end })) (placed_from (from + 1) rows)))) e
    ∙ ap (λ (rs : List Row). row ∷ rs) rest

-- all rows lie before the end
pub all_before : (from end : ℕ) (rows : List Row) → from + length rows ≤ end → map (λ (p : Placed). p.row) (filter (is_before (record { 0 = end })) (placed_from from rows)) ≡ rows
all_before from end [] h = refl
all_before from end (row ∷ rows) h = before_at from end row rows _ (lt-ltb from end (omega (arith, h))) (all_before (from + 1) end rows (omega (arith, h)))

-- ---- what the next row asks

take_short : {X : Type 0} (i : ℕ) (xs : List X) → length (take i xs) ≤ length xs
take_short zero xs = omega arith
take_short (suc i) [] = omega arith
take_short (suc i) (x ∷ xs) = omega (arith, take_short i xs)

pub few_consumed : (segment : Consuming) (columns : List Column) (rows : List Row) (i : ℕ) → segment ≡ consuming_of columns (take i rows) → length rows ≤ 10000 → length segment.rows < 1000000
few_consumed segment columns rows i e h = omega (arith, ap (λ (s : Consuming). length s.rows) e, length_placed 0 (take i rows), take_short i rows, h)

pub fits_consumed : (schema : Schema) (segment : Consuming) (rows : List Row) (i : ℕ) (row : Row) → segment ≡ consuming_of schema.columns (take i rows) → i < length rows → row ≡ get_or rows i row
    → All (IsRowOf schema) rows → FitsColumns segment.columns row
fits_consumed schema segment rows i row e within is all =
    rows_fit schema [] row (subst (IsRowOf schema) (sym is) (all i row within)) ∙ ap (λ (s : Consuming). map (λ (shape : Shape). shape.kind) s.columns) (sym e)
