-- What holders have of a group after it is started, after one more row, and after it is merged with others.
use Rattle.std.proofs.Common.{◌≡◌, ◌≢◌, ℕ, zero, suc, ◌<◌, ◌≤◌, List, [], ◌∷◌, ◌++◌, length, map, take, drop, get_or, Some, refl, sym, ap, ◌∙◌, subst, inl, inr, arith, slice_get}
use Rattle.std.specs.Prelude.{None, Option, slice_set, unwrap_or}
use Rattle.std.specs.List.{AllByRecursion}
use Rattle.std.proofs.lemmas.List.{get_or-set_same, get_or-set_other, length-set}
use Rattle.std.proofs.lemmas.Option.{slice_get_read, slice_get_within}
use Rattle.rt_schema.specs.declared.row.Row.{Row}
use Rattle.rt_schema.specs.declared.value.Value.{Value}
use Rattle.rt_model.specs.declared.query_parts.ColumnAt.{ColumnAt}
use Rattle.rt_agg.specs.Accumulator.{Count, Sum, Min, Max}
use Rattle.rt_agg.specs.Accumulators.{all_merged, greatest_with, known_of, least_with, merged, with_row}
use Rattle.rt_agg.specs.GroupTable.{MayStart, StartsFront, StartsSome, all_merged_in}
use Rattle.rt_agg.specs.Paging.{fed}
use Rattle.rt_agg.specs.Reading.{scalar_at}
use Rattle.rt_agg.specs.ResultHolder.{HasStarted, counted_at, greater_at, held_of, item_of, join_at, lesser_at, merged_in, no_rows, put_at, started_in, summed_at, with_other, with_page_in, with_row_in}
use Rattle.rt_agg.specs.Summed.{Summed}
use Rattle.rt_agg.specs.declared.placed_row.PlacedRow.{PlacedRow}
use Rattle.rt_agg.specs.declared.result_holder.ResultHolder.{ResultHolder}
use Rattle.rt_agg.specs.declared.result_holder.ResultHolder.TheVariants.{Key, Counts, Sums, Least, Greatest}
use Rattle.rt_agg.specs.declared.scalar.Scalar.{Scalar}
use Rattle.rt_agg.specs.Totals.{counted, joined}

-- ---- lists

put_here : {X : Type 0} (at : ℕ) (x d : X) (xs : List X) → at ≤ length xs → get_or (put_at at x xs) at d ≡ x
put_here zero x d xs le = refl
put_here (suc at) x d [] le = absurd (omega (arith, le))
put_here (suc at) x d (y ∷ xs) le = put_here at x d xs (omega (arith, le))

put_before : {X : Type 0} (at j : ℕ) (x d : X) (xs : List X) → at ≤ length xs → j < at → get_or (put_at at x xs) j d ≡ get_or xs j d
put_before zero j x d xs le lt = absurd (omega (arith, lt))
put_before (suc at) j x d [] le lt = absurd (omega (arith, le))
put_before (suc at) zero x d (y ∷ xs) le lt = refl
put_before (suc at) (suc j) x d (y ∷ xs) le lt = put_before at j x d xs (omega (arith, le)) (omega (arith, lt))

put_long : {X : Type 0} (at : ℕ) (x : X) (xs : List X) → at ≤ length xs → suc at ≤ length (put_at at x xs)
put_long zero x xs le = omega arith
put_long (suc at) x [] le = absurd (omega (arith, le))
put_long (suc at) x (y ∷ xs) le = omega (arith, put_long at x xs (omega (arith, le)))

set_long : {X : Type 0} (n : ℕ) (xs : List X) (i : ℕ) (x : X) → n ≤ length xs → n ≤ length (slice_set xs i x)
set_long n xs i x le = omega (arith, le, length-set xs i x)

join_here : {X : Type 0} (join : X → X → X) (none : X) (group : ℕ) (xs : List X) (from : ℕ) (ys : List X) → group < length xs → from < length ys
    → get_or (join_at join none group xs from ys) group none ≡ join (get_or xs group none) (get_or ys from none)
join_here join none group xs from ys lt there =
    get_or-set_same xs group (with_other join (get_or xs group none) (slice_get ys from)) none lt
    ∙ ap (with_other join (get_or xs group none)) (slice_get_read ys (length ys) from (get_or ys from none) refl there (read_again ys from none there))
  where
    read_again : {X : Type 0} (zs : List X) (i : ℕ) (d : X) → i < length zs → get_or zs i d ≡ get_or zs i (get_or zs i d)
    read_again [] i d l = absurd (omega (arith, l))
    read_again (z ∷ zs) zero d l = refl
    read_again (z ∷ zs) (suc i) d l = read_again zs i d (omega (arith, l))

-- ---- one holder

module _ (columns : List ColumnAt) (key : List Value) where
  row_here : (row : Row) (group : ℕ) (h : ResultHolder) → HasStarted (suc group) h → held_of columns key group (with_row_in row group h) ≡ with_row row (held_of columns key group h)
  row_here row group (Key column) s = refl
  row_here row group (Counts counts) s = ap Count (get_or-set_same counts group _ 0 (omega (arith, s)))
  row_here row group (Sums column totals) s = ap (Sum column.place) (get_or-set_same totals group _ no_rows (omega (arith, s)))
  row_here row group (Least column scalars) s = ap (Min column.place) (get_or-set_same scalars group _ None (omega (arith, s)))
  row_here row group (Greatest column scalars) s = ap (Max column.place) (get_or-set_same scalars group _ None (omega (arith, s)))

  row_other : (row : Row) (group j : ℕ) (h : ResultHolder) → j ≢ group → held_of columns key j (with_row_in row group h) ≡ held_of columns key j h
  row_other row group j (Key column) n = refl
  row_other row group j (Counts counts) n = ap Count (get_or-set_other counts group j _ 0 n)
  row_other row group j (Sums column totals) n = ap (Sum column.place) (get_or-set_other totals group j _ no_rows n)
  row_other row group j (Least column scalars) n = ap (Min column.place) (get_or-set_other scalars group j _ None n)
  row_other row group j (Greatest column scalars) n = ap (Max column.place) (get_or-set_other scalars group j _ None n)

  merge_here : (others_columns : List ColumnAt) (others_key : List Value) (group from : ℕ) (h o : ResultHolder) → HasStarted (suc group) h → HasStarted (suc from) o
      → held_of columns key group (merged_in group from h o) ≡ merged (held_of columns key group h) (held_of others_columns others_key from o)
  merge_here cs k group from (Key column) o s t = refl
  merge_here cs k group from (Counts counts) (Counts others) s t = ap Count (join_here counted 0 group counts from others (omega (arith, s)) (omega (arith, t)))
  merge_here cs k group from (Counts counts) (Key column) s t = refl
  merge_here cs k group from (Counts counts) (Sums column totals) s t = refl
  merge_here cs k group from (Counts counts) (Least column scalars) s t = refl
  merge_here cs k group from (Counts counts) (Greatest column scalars) s t = refl
  merge_here cs k group from (Sums column totals) (Sums other others) s t = ap (Sum column.place) (join_here joined no_rows group totals from others (omega (arith, s)) (omega (arith, t)))
  merge_here cs k group from (Sums column totals) (Key other) s t = refl
  merge_here cs k group from (Sums column totals) (Counts others) s t = refl
  merge_here cs k group from (Sums column totals) (Least other others) s t = refl
  merge_here cs k group from (Sums column totals) (Greatest other others) s t = refl
  merge_here cs k group from (Least column scalars) (Least other others) s t = ap (Min column.place) (join_here least_with None group scalars from others (omega (arith, s)) (omega (arith, t)))
  merge_here cs k group from (Least column scalars) (Key other) s t = refl
  merge_here cs k group from (Least column scalars) (Counts others) s t = refl
  merge_here cs k group from (Least column scalars) (Sums other others) s t = refl
  merge_here cs k group from (Least column scalars) (Greatest other others) s t = refl
  merge_here cs k group from (Greatest column scalars) (Greatest other others) s t = ap (Max column.place) (join_here greatest_with None group scalars from others (omega (arith, s)) (omega (arith, t)))
  merge_here cs k group from (Greatest column scalars) (Key other) s t = refl
  merge_here cs k group from (Greatest column scalars) (Counts others) s t = refl
  merge_here cs k group from (Greatest column scalars) (Sums other others) s t = refl
  merge_here cs k group from (Greatest column scalars) (Least other others) s t = refl

  merge_other : (group from j : ℕ) (h o : ResultHolder) → j ≢ group → held_of columns key j (merged_in group from h o) ≡ held_of columns key j h
  merge_other group from j (Key column) o n = refl
  merge_other group from j (Counts counts) (Counts others) n = ap Count (get_or-set_other counts group j _ 0 n)
  merge_other group from j (Counts counts) (Key column) n = refl
  merge_other group from j (Counts counts) (Sums column totals) n = refl
  merge_other group from j (Counts counts) (Least column scalars) n = refl
  merge_other group from j (Counts counts) (Greatest column scalars) n = refl
  merge_other group from j (Sums column totals) (Sums other others) n = ap (Sum column.place) (get_or-set_other totals group j _ no_rows n)
  merge_other group from j (Sums column totals) (Key other) n = refl
  merge_other group from j (Sums column totals) (Counts others) n = refl
  merge_other group from j (Sums column totals) (Least other others) n = refl
  merge_other group from j (Sums column totals) (Greatest other others) n = refl
  merge_other group from j (Least column scalars) (Least other others) n = ap (Min column.place) (get_or-set_other scalars group j _ None n)
  merge_other group from j (Least column scalars) (Key other) n = refl
  merge_other group from j (Least column scalars) (Counts others) n = refl
  merge_other group from j (Least column scalars) (Sums other others) n = refl
  merge_other group from j (Least column scalars) (Greatest other others) n = refl
  merge_other group from j (Greatest column scalars) (Greatest other others) n = ap (Max column.place) (get_or-set_other scalars group j _ None n)
  merge_other group from j (Greatest column scalars) (Key other) n = refl
  merge_other group from j (Greatest column scalars) (Counts others) n = refl
  merge_other group from j (Greatest column scalars) (Sums other others) n = refl
  merge_other group from j (Greatest column scalars) (Least other others) n = refl

  start_here : (group : ℕ) (h : ResultHolder) → HasStarted group h → held_of columns key group (started_in group h) ≡ known_of columns key [] (item_of h)
  start_here group (Key column) s = refl
  start_here group (Counts counts) s = ap Count (put_here group 0 0 counts s)
  start_here group (Sums column totals) s = ap (Sum column.place) (put_here group no_rows no_rows totals s)
  start_here group (Least column scalars) s = ap (Min column.place) (put_here group None None scalars s)
  start_here group (Greatest column scalars) s = ap (Max column.place) (put_here group None None scalars s)

  start_before : (group j : ℕ) (h : ResultHolder) → HasStarted group h → j < group → held_of columns key j (started_in group h) ≡ held_of columns key j h
  start_before group j (Key column) s lt = refl
  start_before group j (Counts counts) s lt = ap Count (put_before group j 0 0 counts s lt)
  start_before group j (Sums column totals) s lt = ap (Sum column.place) (put_before group j no_rows no_rows totals s lt)
  start_before group j (Least column scalars) s lt = ap (Min column.place) (put_before group j None None scalars s lt)
  start_before group j (Greatest column scalars) s lt = ap (Max column.place) (put_before group j None None scalars s lt)

-- the item stays
row_item : (row : Row) (group : ℕ) (h : ResultHolder) → item_of (with_row_in row group h) ≡ item_of h
row_item row group (Key column) = refl
row_item row group (Counts counts) = refl
row_item row group (Sums column totals) = refl
row_item row group (Least column scalars) = refl
row_item row group (Greatest column scalars) = refl

start_item : (group : ℕ) (h : ResultHolder) → item_of (started_in group h) ≡ item_of h
start_item group (Key column) = refl
start_item group (Counts counts) = refl
start_item group (Sums column totals) = refl
start_item group (Least column scalars) = refl
start_item group (Greatest column scalars) = refl

merge_item : (group from : ℕ) (h o : ResultHolder) → item_of (merged_in group from h o) ≡ item_of h
merge_item group from (Key column) o = refl
merge_item group from (Counts counts) (Counts others) = refl
merge_item group from (Counts counts) (Key column) = refl
merge_item group from (Counts counts) (Sums column totals) = refl
merge_item group from (Counts counts) (Least column scalars) = refl
merge_item group from (Counts counts) (Greatest column scalars) = refl
merge_item group from (Sums column totals) (Sums other others) = refl
merge_item group from (Sums column totals) (Key other) = refl
merge_item group from (Sums column totals) (Counts others) = refl
merge_item group from (Sums column totals) (Least other others) = refl
merge_item group from (Sums column totals) (Greatest other others) = refl
merge_item group from (Least column scalars) (Least other others) = refl
merge_item group from (Least column scalars) (Key other) = refl
merge_item group from (Least column scalars) (Counts others) = refl
merge_item group from (Least column scalars) (Sums other others) = refl
merge_item group from (Least column scalars) (Greatest other others) = refl
merge_item group from (Greatest column scalars) (Greatest other others) = refl
merge_item group from (Greatest column scalars) (Key other) = refl
merge_item group from (Greatest column scalars) (Counts others) = refl
merge_item group from (Greatest column scalars) (Sums other others) = refl
merge_item group from (Greatest column scalars) (Least other others) = refl

-- groups that were started stay so
pub fewer_started : (m n : ℕ) (h : ResultHolder) → n ≤ m → HasStarted m h → HasStarted n h
fewer_started m n (Key column) le s = tt
fewer_started m n (Counts counts) le s = omega (arith, le, s)
fewer_started m n (Sums column totals) le s = omega (arith, le, s)
fewer_started m n (Least column scalars) le s = omega (arith, le, s)
fewer_started m n (Greatest column scalars) le s = omega (arith, le, s)

row_started : (n : ℕ) (row : Row) (group : ℕ) (h : ResultHolder) → HasStarted n h → HasStarted n (with_row_in row group h)
row_started n row group (Key column) s = tt
row_started n row group (Counts counts) s = set_long n counts group _ s
row_started n row group (Sums column totals) s = set_long n totals group _ s
row_started n row group (Least column scalars) s = set_long n scalars group _ s
row_started n row group (Greatest column scalars) s = set_long n scalars group _ s

merge_started : (n group from : ℕ) (h o : ResultHolder) → HasStarted n h → HasStarted n (merged_in group from h o)
merge_started n group from (Key column) o s = tt
merge_started n group from (Counts counts) (Counts others) s = set_long n counts group _ s
merge_started n group from (Counts counts) (Key column) s = s
merge_started n group from (Counts counts) (Sums column totals) s = s
merge_started n group from (Counts counts) (Least column scalars) s = s
merge_started n group from (Counts counts) (Greatest column scalars) s = s
merge_started n group from (Sums column totals) (Sums other others) s = set_long n totals group _ s
merge_started n group from (Sums column totals) (Key other) s = s
merge_started n group from (Sums column totals) (Counts others) s = s
merge_started n group from (Sums column totals) (Least other others) s = s
merge_started n group from (Sums column totals) (Greatest other others) s = s
merge_started n group from (Least column scalars) (Least other others) s = set_long n scalars group _ s
merge_started n group from (Least column scalars) (Key other) s = s
merge_started n group from (Least column scalars) (Counts others) s = s
merge_started n group from (Least column scalars) (Sums other others) s = s
merge_started n group from (Least column scalars) (Greatest other others) s = s
merge_started n group from (Greatest column scalars) (Greatest other others) s = set_long n scalars group _ s
merge_started n group from (Greatest column scalars) (Key other) s = s
merge_started n group from (Greatest column scalars) (Counts others) s = s
merge_started n group from (Greatest column scalars) (Sums other others) s = s
merge_started n group from (Greatest column scalars) (Least other others) s = s

start_started : (group : ℕ) (h : ResultHolder) → HasStarted group h → HasStarted (suc group) (started_in group h)
start_started group (Key column) s = tt
start_started group (Counts counts) s = put_long group 0 counts s
start_started group (Sums column totals) s = put_long group no_rows totals s
start_started group (Least column scalars) s = put_long group None scalars s
start_started group (Greatest column scalars) s = put_long group None scalars s

-- ---- all holders

abbrev pub Started : ℕ → List ResultHolder → Type 0
Started n hs = AllByRecursion (HasStarted n) hs

pub all_fewer : (m n : ℕ) (hs : List ResultHolder) → n ≤ m → Started m hs → Started n hs
all_fewer m n [] le s = tt
all_fewer m n (h ∷ hs) le s = (fewer_started m n h le s.0, all_fewer m n hs le s.1)

module _ (row : Row) (group : ℕ) where
  pub rows_here : (columns : List ColumnAt) (key : List Value) (hs : List ResultHolder) → Started (suc group) hs
      → map (held_of columns key group) (map (with_row_in row group) hs) ≡ map (with_row row) (map (held_of columns key group) hs)
  rows_here columns key [] s = refl
  rows_here columns key (h ∷ hs) s = λ j. row_here columns key row group h s.0 j ∷ rows_here columns key hs s.1 j

  pub rows_other : (j : ℕ) → j ≢ group → (columns : List ColumnAt) (key : List Value) (hs : List ResultHolder)
      → map (held_of columns key j) (map (with_row_in row group) hs) ≡ map (held_of columns key j) hs
  rows_other j n columns key [] = refl
  rows_other j n columns key (h ∷ hs) = λ i. row_other columns key row group j h n i ∷ rows_other j n columns key hs i

  pub rows_items : (hs : List ResultHolder) → map item_of (map (with_row_in row group) hs) ≡ map item_of hs
  rows_items [] = refl
  rows_items (h ∷ hs) = λ j. row_item row group h j ∷ rows_items hs j

  pub rows_started : (n : ℕ) (hs : List ResultHolder) → Started n hs → Started n (map (with_row_in row group) hs)
  rows_started n [] s = tt
  rows_started n (h ∷ hs) s = (row_started n row group h s.0, rows_started n hs s.1)

-- ---- the rows of a page

module _ (row_of : ℕ → Row) where
  page_item : (page : List PlacedRow) (h : ResultHolder) → item_of (with_page_in row_of page h) ≡ item_of h
  page_item [] h = refl
  page_item (p ∷ page) h = page_item page (with_row_in (row_of p.row) p.group h) ∙ row_item (row_of p.row) p.group h

  page_started : (n : ℕ) (page : List PlacedRow) (h : ResultHolder) → HasStarted n h → HasStarted n (with_page_in row_of page h)
  page_started n [] h s = s
  page_started n (p ∷ page) h s = page_started n page (with_row_in (row_of p.row) p.group h) (row_started n (row_of p.row) p.group h s)

  pub page_items : (page : List PlacedRow) (hs : List ResultHolder) → map item_of (map (with_page_in row_of page) hs) ≡ map item_of hs
  page_items page [] = refl
  page_items page (h ∷ hs) = λ j. page_item page h j ∷ page_items page hs j

  pub all_page_started : (n : ℕ) (page : List PlacedRow) (hs : List ResultHolder) → Started n hs → Started n (map (with_page_in row_of page) hs)
  all_page_started n page [] s = tt
  all_page_started n page (h ∷ hs) s = (page_started n page h s.0, all_page_started n page hs s.1)

  pub page_none : (hs : List ResultHolder) → map (with_page_in row_of []) hs ≡ hs
  page_none [] = refl
  page_none (h ∷ hs) = ap (λ t. h ∷ t) (page_none hs)

  pub page_first : (p : PlacedRow) (page : List PlacedRow) (hs : List ResultHolder) → map (with_page_in row_of (p ∷ page)) hs ≡ map (with_page_in row_of page) (map (with_row_in (row_of p.row) p.group) hs)
  page_first p page [] = refl
  page_first p page (h ∷ hs) = ap (λ t. with_page_in row_of page (with_row_in (row_of p.row) p.group h) ∷ t) (page_first p page hs)

  -- ---- what is handed on to a holder

  pub page_keys : (column : ColumnAt) (page : List PlacedRow) → with_page_in row_of page (Key column) ≡ Key column
  page_keys column [] = refl
  page_keys column (p ∷ page) = page_keys column page

  pub page_counts : (page : List PlacedRow) (counts : List ℕ) → with_page_in row_of page (Counts counts) ≡ Counts (fed (λ (counts : List ℕ) (group : ℕ) (scalar : Option Scalar). counted_at counts group) (λ number. None) page counts)
  page_counts [] counts = refl
  page_counts (p ∷ page) counts = page_counts page (counted_at counts p.group)

  module _ (column : ColumnAt) where
    abbrev its_scalar : ℕ → Option Scalar
    its_scalar number = scalar_at (row_of number) column.place

    pub page_sums : (page : List PlacedRow) (totals : List Summed) → with_page_in row_of page (Sums column totals) ≡ Sums column (fed summed_at its_scalar page totals)
    page_sums [] totals = refl
    page_sums (p ∷ page) totals = page_sums page (summed_at totals p.group (its_scalar p.row))

    pub page_least : (page : List PlacedRow) (scalars : List (Option Scalar)) → with_page_in row_of page (Least column scalars) ≡ Least column (fed lesser_at its_scalar page scalars)
    page_least [] scalars = refl
    page_least (p ∷ page) scalars = page_least page (lesser_at scalars p.group (its_scalar p.row))

    pub page_greatest : (page : List PlacedRow) (scalars : List (Option Scalar)) → with_page_in row_of page (Greatest column scalars) ≡ Greatest column (fed greater_at its_scalar page scalars)
    page_greatest [] scalars = refl
    page_greatest (p ∷ page) scalars = page_greatest page (greater_at scalars p.group (its_scalar p.row))

module _ (group from : ℕ) where
  pub merges_here : (columns others_columns : List ColumnAt) (key others_key : List Value) (hs os : List ResultHolder) → Started (suc group) hs → Started (suc from) os
      → map (held_of columns key group) (all_merged_in group from hs os) ≡ all_merged (map (held_of columns key group) hs) (map (held_of others_columns others_key from) os)
  merges_here c d k l [] os s t = refl
  merges_here c d k l (h ∷ hs) [] s t = refl
  merges_here c d k l (h ∷ hs) (o ∷ os) s t = λ j. merge_here c k d l group from h o s.0 t.0 j ∷ merges_here c d k l hs os s.1 t.1 j

  pub merges_other : (j : ℕ) → j ≢ group → (columns : List ColumnAt) (key : List Value) (hs os : List ResultHolder)
      → map (held_of columns key j) (all_merged_in group from hs os) ≡ map (held_of columns key j) hs
  merges_other j n columns key [] os = refl
  merges_other j n columns key (h ∷ hs) [] = refl
  merges_other j n columns key (h ∷ hs) (o ∷ os) = λ i. merge_other columns key group from j h o n i ∷ merges_other j n columns key hs os i

  pub merges_items : (hs os : List ResultHolder) → map item_of (all_merged_in group from hs os) ≡ map item_of hs
  merges_items [] os = refl
  merges_items (h ∷ hs) [] = refl
  merges_items (h ∷ hs) (o ∷ os) = λ j. merge_item group from h o j ∷ merges_items hs os j

  pub merges_started : (n : ℕ) (hs os : List ResultHolder) → Started n hs → Started n (all_merged_in group from hs os)
  merges_started n [] os s = tt
  merges_started n (h ∷ hs) [] s = s
  merges_started n (h ∷ hs) (o ∷ os) s = (merge_started n group from h o s.0, merges_started n hs os s.1)

module _ (group : ℕ) where
  pub starts_here : (columns : List ColumnAt) (key : List Value) (hs : List ResultHolder) → Started group hs
      → map (held_of columns key group) (map (started_in group) hs) ≡ map (known_of columns key []) (map item_of hs)
  starts_here columns key [] s = refl
  starts_here columns key (h ∷ hs) s = λ j. start_here columns key group h s.0 j ∷ starts_here columns key hs s.1 j

  pub starts_started : (hs : List ResultHolder) → Started group hs → Started (suc group) (map (started_in group) hs)
  starts_started [] s = tt
  starts_started (h ∷ hs) s = (start_started group h s.0, starts_started hs s.1)

  may_before : (columns : List ColumnAt) (key : List Value) (j : ℕ) (h n : ResultHolder) → j < group → HasStarted group h → MayStart group h n → held_of columns key j n ≡ held_of columns key j h
  may_before columns key j h n lt s m = elim m [
    | inl same ↦ ap (held_of columns key j) same
    | inr started ↦ ap (held_of columns key j) started ∙ start_before columns key group j h s lt
  ]

  may_item : (h n : ResultHolder) → MayStart group h n → item_of n ≡ item_of h
  may_item h n m = elim m [
    | inl same ↦ ap item_of same
    | inr started ↦ ap item_of started ∙ start_item group h
  ]

  may_kept : (h n : ResultHolder) → HasStarted group h → MayStart group h n → HasStarted group n
  may_kept h n s m = elim m [
    | inl same ↦ subst (HasStarted group) (sym same) s
    | inr started ↦ subst (HasStarted group) (sym started) (fewer_started (suc group) group (started_in group h) (omega arith) (start_started group h s))
  ]

  pub some_before : (j : ℕ) → j < group → (columns : List ColumnAt) (key : List Value) (hs ns : List ResultHolder) → Started group hs → StartsSome group hs ns
      → map (held_of columns key j) ns ≡ map (held_of columns key j) hs
  some_before j lt columns key [] [] s m = refl
  some_before j lt columns key [] (n ∷ ns) s m = absurd m
  some_before j lt columns key (h ∷ hs) [] s m = absurd m
  some_before j lt columns key (h ∷ hs) (n ∷ ns) s m = λ i. may_before columns key j h n lt s.0 m.0 i ∷ some_before j lt columns key hs ns s.1 m.1 i

  pub some_items : (hs ns : List ResultHolder) → StartsSome group hs ns → map item_of ns ≡ map item_of hs
  some_items [] [] m = refl
  some_items [] (n ∷ ns) m = absurd m
  some_items (h ∷ hs) [] m = absurd m
  some_items (h ∷ hs) (n ∷ ns) m = λ j. may_item h n m.0 j ∷ some_items hs ns m.1 j

  pub some_kept : (hs ns : List ResultHolder) → Started group hs → StartsSome group hs ns → Started group ns
  some_kept [] [] s m = tt
  some_kept [] (n ∷ ns) s m = absurd m
  some_kept (h ∷ hs) [] s m = absurd m
  some_kept (h ∷ hs) (n ∷ ns) s m = (may_kept h n s.0 m.0, some_kept hs ns s.1 m.1)

  -- where the first have started it, some have
  none_new : (hs : List ResultHolder) → StartsSome group hs hs
  none_new [] = tt
  none_new (h ∷ hs) = (inl refl, none_new hs)

  front_some : (count : ℕ) (hs : List ResultHolder) → StartsSome group hs (map (started_in group) (take count hs) ++ drop count hs)
  front_some zero hs = none_new hs
  front_some (suc count) [] = tt
  front_some (suc count) (h ∷ hs) = (inr refl, front_some count hs)

  pub some_front : (hs ns : List ResultHolder) → StartsFront group hs ns → StartsSome group hs ns
  some_front hs ns front = subst (StartsSome group hs) (sym front.1) (front_some front.0 hs)

-- ---- a holder that hasn't started the group yet, among those that have

pub none_started : (hs : List ResultHolder) → Started 0 hs
none_started [] = tt
none_started (h ∷ hs) = (by h, none_started hs)
  where
    by : (h : ResultHolder) → HasStarted 0 h
    by (Key column) = tt
    by (Counts counts) = omega arith
    by (Sums column totals) = omega arith
    by (Least column scalars) = omega arith
    by (Greatest column scalars) = omega arith

pub start_step : (group i : ℕ) (hs : List ResultHolder) (h : ResultHolder) → slice_get (map (started_in group) (take i hs) ++ drop i hs) i ≡ Some h
    → slice_set (map (started_in group) (take i hs) ++ drop i hs) i (started_in group h) ≡ map (started_in group) (take (suc i) hs) ++ drop (suc i) hs
start_step group zero [] h at = absurd (omega (arith, slice_get_within {A = ResultHolder} [] 0 h at))
start_step group (suc i) [] h at = absurd (omega (arith, slice_get_within {A = ResultHolder} [] (suc i) h at))
start_step group zero (x ∷ hs) h at = ap (λ o. started_in group (unwrap_or o h) ∷ hs) (sym at)
start_step group (suc i) (x ∷ hs) h at = ap (λ t. started_in group x ∷ t) (start_step group i hs h at)

pub set_read : {X : Type 0} (xs : List X) (i : ℕ) (x : X) → slice_get xs i ≡ Some x → slice_set xs i x ≡ xs
set_read {X} [] i x at = absurd (omega (arith, slice_get_within {A = X} [] i x at))
set_read (y ∷ xs) zero x at = ap (λ o. unwrap_or o x ∷ xs) (sym at)
set_read (y ∷ xs) (suc i) x at = ap (λ t. y ∷ t) (set_read xs i x at)
