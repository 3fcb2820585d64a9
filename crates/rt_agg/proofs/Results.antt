-- The sorted results of groups that hold some rows are the ordered results of these rows.
use Rattle.std.proofs.Common.{◌≡◌, ℕ, zero, suc, ◌+◌, ◌-◌, ◌<◌, min, All, Bool, true, false, inl, inr, List, [], ◌∷◌, ◌++◌, length, map, take, drop, get_or, Option, Some, None, refl, sym, ap, ◌∙◌, subst, true≢false, arith, Contains}
use Rattle.std.specs.Prelude.{if◌then◌else◌, is_some, option_and_then, option_map}
use Rattle.std.proofs.lemmas.Cmp.{tied_itself}
use Rattle.std.proofs.lemmas.List.{drop-map, take-map, length-map, same_lists}
use Rattle.std.proofs.lemmas.List.Elements.{All-head, All-tail}
use Rattle.std.proofs.lemmas.List.FromFn.{get_or-map-range_with_len, length-map-range_with_len}
use Rattle.std.proofs.lemmas.List.Sorted.{IsPermutation-map, IsPermutation-sym, Contains-permutation}
use Rattle.std.proofs.lemmas.Map.Keys.{IsDistinct-IsPermutation}
use Rattle.std.proofs.lemmas.Map.Views.{lookup-from_Contains, Contains-from_lookup}
use Rattle.std.specs.List.{AllByRecursion, IsDistinct, range_with_len}
use Rattle.std.specs.List.Sorted.{IsPermutation, IsSortedBy}
use Rattle.std.specs.Map.{keys_of}
use Rattle.std.specs.declared.cmp.Ordering.{Ordering}
use Rattle.std.specs.declared.cmp.Ordering.TheVariants.{Less, Equal, Greater}
use Rattle.std.specs.Ordering.{is_eq, is_lt}
use Rattle.rt_schema.specs.declared.row.Row.{Row}
use Rattle.rt_schema.specs.declared.value.Value.{Value}
use Rattle.rt_model.specs.declared.answer.Cell.{Cell}
use Rattle.rt_model.specs.declared.answer.ResultRow.{ResultRow}
use Rattle.rt_model.specs.declared.query.Query.{Query}
use Rattle.rt_model.specs.declared.query_parts.Aggregate.TheVariants as kind
use Rattle.rt_model.specs.declared.query_parts.ColumnAt.{ColumnAt}
use Rattle.rt_model.specs.declared.query_parts.Item.{Item}
use Rattle.rt_model.specs.declared.query_parts.Item.TheVariants as item
use Rattle.rt_model.specs.declared.query_parts.OrderKey.{OrderKey}
use Rattle.rt_model.specs.Aggregate.{Result, cell_of, cell_if, group_of, keys_of as row_keys, result_of, results_of, result_cmp, ordered, least_of, greatest_of}
use Rattle.rt_model.specs.Values.{key_cmp}
use Rattle.rt_agg.specs.Accumulator.{Accumulator}
use Rattle.rt_agg.specs.declared.scalar.Scalar.{Scalar}
use Rattle.rt_agg.specs.Accumulators.{cell_in, known_of, scalar_cell, ordering_items, all_known_of}
use Rattle.rt_agg.specs.Grouped.{Grouped, Finishes, Holds, FitsItem, Fits, same_key, known_at, makes_group}
use Rattle.rt_agg.specs.Ranking.{ranked_at, ranked_within, result_at}
use Rattle.rt_agg.specs.Reading.{scalar_of, value_from}
use Rattle.rt_agg.proofs.Appends.{Reads, back_to, least_scalar, greatest_scalar, least_read, greatest_read, heads}
use Rattle.rt_agg.proofs.Finishing.{row_keys_ascend, row_keys_has, row_keys_makes, ordered_ascends, has_ordered, ordered_has}
use Rattle.rt_agg.proofs.Holding.{keys_equiv, same_is, fit_filter, from_if, slots}
use Rattle.rt_agg.proofs.Orders.{result_total, result_key_same}
use Rattle.rt_agg.proofs.Sorting.{Has, Ascends, Apart, has_contains, contains_has, ascending_same, sorted_ascends}

-- ---- the cells of what is known

scalar_shown : (t : Option Scalar) → scalar_cell t ≡ cell_if (option_map value_from t)
scalar_shown None = refl
scalar_shown (Some s) = refl

least_cell : (column : ColumnAt) (rows : List Row) → AllByRecursion (Reads column) rows → scalar_cell (option_and_then scalar_of (least_of column rows)) ≡ cell_if (least_of column rows)
least_cell column rows all =
    let read = least_read column rows all in
    (λ j. scalar_cell (option_and_then scalar_of (read j))) ∙ ap scalar_cell (back_to (least_scalar column rows)) ∙ scalar_shown (least_scalar column rows) ∙ sym (ap cell_if read)

greatest_cell : (column : ColumnAt) (rows : List Row) → AllByRecursion (Reads column) rows → scalar_cell (option_and_then scalar_of (greatest_of column rows)) ≡ cell_if (greatest_of column rows)
greatest_cell column rows all =
    let read = greatest_read column rows all in
    (λ j. scalar_cell (option_and_then scalar_of (read j))) ∙ ap scalar_cell (back_to (greatest_scalar column rows)) ∙ scalar_shown (greatest_scalar column rows) ∙ sym (ap cell_if read)

cell_known : (columns : List ColumnAt) (key : List Value) (rows : List Row) (i : Item) → AllByRecursion (λ r. FitsItem r i) rows → cell_in (known_of columns key rows i) ≡ cell_of columns key rows i
cell_known columns key rows (item.Column column) f = refl
cell_known columns key rows (item.Aggregate kind.Count) f = refl
cell_known columns key rows (item.Aggregate (kind.Sum column)) f = refl
cell_known columns key rows (item.Aggregate (kind.Min column)) f = least_cell column rows f
cell_known columns key rows (item.Aggregate (kind.Max column)) f = greatest_cell column rows f

cells_known : (columns : List ColumnAt) (key : List Value) (rows : List Row) (is : List Item) → AllByRecursion (λ r. AllByRecursion (FitsItem r) is) rows
    → map cell_in (map (known_of columns key rows) is) ≡ map (cell_of columns key rows) is
cells_known columns key rows [] f = refl
cells_known columns key rows (i ∷ is) f =
    let parts = heads i is rows f in
    λ j. cell_known columns key rows i parts.0 j ∷ cells_known columns key rows is parts.1 j

drop_first : {X Y : Type 0} (f : X → Y) (xs ys : List X) → drop (length xs) (map f (xs ++ ys)) ≡ map f ys
drop_first f [] ys = refl
drop_first f (x ∷ xs) ys = drop_first f xs ys

take_first : {X Y : Type 0} (f : X → Y) (xs ys : List X) → take (length xs) (map f (xs ++ ys)) ≡ map f xs
take_first f [] [] = refl
take_first f [] (y ∷ ys) = refl
take_first f (x ∷ xs) ys = ap (λ t. f x ∷ t) (take_first f xs ys)

order_cells : (f : Item → Cell) (order : List OrderKey) → map f (ordering_items order) ≡ map (λ k. f k.item) order
order_cells f [] = refl
order_cells f (k ∷ ks) = ap (λ t. f k.item ∷ t) (order_cells f ks)

-- ---- lists of results

map_has : {X Y : Type 0} (f : X → Y) (xs : List X) (x : X) → Has xs x → Has (map f xs) (f x)
map_has f [] x h = absurd h
map_has f (y ∷ xs) x (inl e) = inl (ap f e)
map_has f (y ∷ xs) x (inr h) = inr (map_has f xs x h)

has_map : {X Y : Type 0} (f : X → Y) (xs : List X) (z : Y) → Has (map f xs) z → (x : X) × (Has xs x) × (f x ≡ z)
has_map f [] z h = absurd h
has_map f (x ∷ xs) z (inl e) = (x, inl refl, e)
has_map f (x ∷ xs) z (inr h) =
    let rest = has_map f xs z h in
    (rest.0, inr rest.1, rest.2)

module _ (order : List OrderKey) where
  unlike : (r s : Result) → same_key r.key s.key ≡ false → is_eq (result_cmp order r s) ≡ false
  unlike r s f = by (result_cmp order r s) refl
    where
      by : (o : Ordering) → result_cmp order r s ≡ o → is_eq o ≡ false
      by Less e = refl
      by Greater e = refl
      by Equal e = absurd (true≢false (sym (keys_equiv.refl r.key) ∙ ap (same_key r.key) (result_key_same order r s e) ∙ f))

  all_unlike : (r : Result) (ss : List Result) → AllByRecursion (λ k. same_key r.key k ≡ false) (map (λ s. s.key) ss) → AllByRecursion (λ s. is_eq (result_cmp order r s) ≡ false) ss
  all_unlike r [] all = tt
  all_unlike r (s ∷ ss) all = (unlike r s all.0, all_unlike r ss all.1)

  distinct_apart : (rs : List Result) → IsDistinct same_key (map (λ r. r.key) rs) → Apart (result_cmp order) (result_total order) rs
  unfolding IsDistinct
  distinct_apart [] d = tt
  distinct_apart (r ∷ rs) d = (all_unlike r rs d.0, distinct_apart rs d.1)

  ascending_apart : (f : List Value → Result) → ((k : List Value) → (f k).key ≡ k) → (ks : List (List Value)) → Ascends key_cmp ks → Apart (result_cmp order) (result_total order) (map f ks)
  ascending_apart f keyed [] a = tt
  ascending_apart f keyed (k ∷ ks) a = (all ks a.0, ascending_apart f keyed ks a.1)
    where
      all : (ls : List (List Value)) → AllByRecursion (λ l. key_cmp k l ≡ Less) ls → AllByRecursion (λ s. is_eq (result_cmp order (f k) s) ≡ false) (map f ls)
      all [] b = tt
      all (l ∷ ls) b = (unlike (f k) (f l) ((λ j. same_key (keyed k j) (keyed l j)) ∙ ap is_eq b.0), all ls b.1)

get_map : {X Y : Type 0} (f : X → Y) (xs : List X) (i : ℕ) (x : X) (d : Y) → i < length xs → get_or (map f xs) i d ≡ f (get_or xs i x)
get_map f [] i x d lt = absurd (omega arith)
get_map f (y ∷ xs) zero x d lt = refl
get_map f (y ∷ xs) (suc i) x d lt = get_map f xs i x d (omega (arith, lt))

sorted_map : {X Y : Type 0} (f : X → Y) (lt : Y → Y → Bool) (xs : List X) → IsSortedBy (λ a b. lt (f a) (f b)) xs → IsSortedBy lt (map f xs)
sorted_map f lt [] s k d le within = absurd (omega arith)
sorted_map f lt (x ∷ xs) s k d le within =
    let inside : k + 1 < length (x ∷ xs) = omega (arith, within, length-map (x ∷ xs) f) in
    (λ j. lt (get_map f (x ∷ xs) (k + 1) x d inside j) (get_map f (x ∷ xs) k x d (omega (arith, inside)) j)) ∙ s k x le inside

keys_of_results : (width : ℕ) (es : List (List Value × List Accumulator)) → map (λ r. r.key) (map (result_at width) es) ≡ keys_of es
keys_of_results width [] = refl
keys_of_results width (e ∷ es) = ap (λ t. e.0 ∷ t) (keys_of_results width es)

-- ---- the results of groups that hold rows

module _ (query : Query) (rows : List Row) (g : Grouped) (h : Holds query rows g) where
  abbrev width : ℕ
  width = length g.items

  abbrev its_rows : List Value → List Row
  its_rows key = group_of query.groups key rows

  abbrev its_known : List Value → List Accumulator
  its_known key = all_known_of query.groups query.items query.order key (its_rows key)

  its_cells : (key : List Value) → map cell_in (its_known key) ≡ map (cell_of query.groups key (its_rows key)) (slots query)
  its_cells key = cells_known query.groups key (its_rows key) (slots query) (fit_filter (Fits query) _ rows h.fits)

  known_result : (key : List Value) → result_at width (key, its_known key) ≡ result_of query rows key
  known_result key =
      let f : Item → Cell = cell_of query.groups key (its_rows key) in
      let long : width ≡ length query.items = ap length h.items in
      let order_is : map cell_in (drop width (its_known key)) ≡ map (λ k. f k.item) query.order =
      sym (drop-map cell_in width (its_known key)) ∙ ap (drop width) (its_cells key) ∙ ap (λ n. drop n (map f (slots query))) long
      ∙ drop_first f query.items (ordering_items query.order) ∙ order_cells f query.order in
      let row_is : map cell_in (take width (its_known key)) ≡ map f query.items =
      sym (take-map cell_in width (its_known key)) ∙ ap (take width) (its_cells key) ∙ ap (λ n. take n (map f (slots query))) long
      ∙ take_first f query.items (ordering_items query.order) in
      λ j. record { key = key; order = order_is j; row = record { cells = row_is j } }

  made : (b : Bool) (x known : List Accumulator) → Some known ≡ (if b then Some x else None) → b ≡ true
  made true x known e = refl
  made false x known e = absurd (true≢false (ap is_some e))

  -- what an entry gives is the result of its key
  entry_given : (key : List Value) (known : List Accumulator) → Contains g.groups (key, known) → (result_at width (key, known) ≡ result_of query rows key) × (makes_group query.groups rows key ≡ true)
  entry_given key known there =
      let found = lookup-from_Contains keys_equiv key known g.groups h.apart there in
      let is = sym found ∙ h.known key in (
        ap (λ k. result_at width (key, k)) (from_if (makes_group query.groups rows key) (its_known key) known is) ∙ known_result key,
        made (makes_group query.groups rows key) (its_known key) known is,
      )

  to_results : (z : Result) → Has (map (result_at width) g.groups) z → Has (results_of query rows) z
  to_results z has =
      let e = has_map (result_at width) g.groups z has in
      let given = entry_given e.0.0 e.0.1 (contains_has g.groups e.0 e.1) in
      subst (Has (results_of query rows)) (sym given.0 ∙ e.2) (map_has (result_of query rows) (row_keys query.groups rows) e.0.0 (row_keys_has query.groups rows e.0.0 given.1))

  from_results : (z : Result) → Has (results_of query rows) z → Has (map (result_at width) g.groups) z
  from_results z has =
      let k = has_map (result_of query rows) (row_keys query.groups rows) z has in
      let makes = row_keys_makes query.groups rows k.0 k.1 in
      let found : known_at g k.0 ≡ Some (its_known k.0) = h.known k.0 ∙ ap (λ b. if b then Some (its_known k.0) else None) makes in
      let there = Contains-from_lookup same_is k.0 (its_known k.0) g.groups found in
      subst (Has (map (result_at width) g.groups)) (known_result k.0 ∙ k.2)
      (map_has (result_at width) g.groups (k.0, its_known k.0) (has_contains g.groups there.0 (k.0, its_known k.0) there.1 there.2))

  pub results_same : {X : Type 0} (shown : X → Result) (first sorted : List X) → map shown first ≡ map (result_at width) g.groups → IsPermutation first sorted
      → IsSortedBy (λ a b. is_lt (result_cmp g.order (shown a) (shown b))) sorted
      → map shown sorted ≡ ordered query.order (results_of query rows)
  results_same shown first sorted all moved up =
      let moved' : IsPermutation (map (result_at width) g.groups) (map shown sorted) =
      subst (λ rs. IsPermutation rs (map shown sorted)) all (IsPermutation-map shown first sorted moved) in
      let cmp = result_cmp query.order in
      let up' : IsSortedBy (λ a b. is_lt (result_cmp query.order a b)) (map shown sorted) =
      subst (λ o. IsSortedBy (λ a b. is_lt (result_cmp o a b)) (map shown sorted)) h.order
      (sorted_map shown (λ a b. is_lt (result_cmp g.order a b)) sorted up) in
      let distinct : IsDistinct same_key (map (λ r. r.key) (map shown sorted)) =
      IsDistinct-IsPermutation same_key keys_equiv.symm (map (λ r. r.key) (map (result_at width) g.groups)) (map (λ r. r.key) (map shown sorted))
      (IsPermutation-map (λ r. r.key) (map (result_at width) g.groups) (map shown sorted) moved')
      (subst (IsDistinct same_key) (sym (keys_of_results width g.groups)) h.apart) in
      ascending_same cmp (result_total query.order) (map shown sorted) (ordered query.order (results_of query rows))
      (sorted_ascends cmp (result_total query.order) (map shown sorted) up' (distinct_apart query.order (map shown sorted) distinct))
      (ordered_ascends query.order (results_of query rows) (ascending_apart query.order (result_of query rows) (λ k. refl) (row_keys query.groups rows) (row_keys_ascend query.groups rows)))
      (λ z has.
      let c = Contains-permutation (map shown sorted) (map (result_at width) g.groups) z (IsPermutation-sym (map (result_at width) g.groups) (map shown sorted) moved') (contains_has (map shown sorted) z has) in
      ordered_has query.order (results_of query rows) z (to_results z (has_contains (map (result_at width) g.groups) c.0 z c.1 c.2)))
      (λ z has.
      let there = from_results z (has_ordered query.order (results_of query rows) z has) in
      let c = Contains-permutation (map (result_at width) g.groups) (map shown sorted) z moved' (contains_has (map (result_at width) g.groups) z there) in
      has_contains (map shown sorted) c.0 z c.1 c.2)

  -- so are the ordered results of the entries
  pub results_ordered : ordered query.order (map (result_at width) g.groups) ≡ ordered query.order (results_of query rows)
  results_ordered =
      let given = map (result_at width) g.groups in
      let wanted = results_of query rows in
      ascending_same (result_cmp query.order) (result_total query.order) (ordered query.order given) (ordered query.order wanted)
      (ordered_ascends query.order given (distinct_apart query.order given (subst (IsDistinct same_key) (sym (keys_of_results width g.groups)) h.apart)))
      (ordered_ascends query.order wanted (ascending_apart query.order (result_of query rows) (λ k. refl) (row_keys query.groups rows) (row_keys_ascend query.groups rows)))
      (λ z has. ordered_has query.order wanted z (to_results z (has_ordered query.order given z has)))
      (λ z has. ordered_has query.order given z (from_results z (has_ordered query.order wanted z has)))

module _ {X : Type 0} (shown : X → Result) where
  shown_rows : (all : List X) → map (λ x. (shown x).row) all ≡ map (λ r. r.row) (map shown all)
  shown_rows [] = refl
  shown_rows (x ∷ all) = ap (λ t. (shown x).row ∷ t) (shown_rows all)

  -- the rows of the first of the sorted results are the answer
  pub finishes_from : (g : Grouped) (first sorted : List X) (result : List ResultRow) → map shown first ≡ map (result_at (length g.items)) g.groups → IsPermutation first sorted
      → IsSortedBy (λ a b. is_lt (result_cmp g.order (shown a) (shown b))) sorted
      → result ≡ map (λ x. (shown x).row) (take g.limit sorted)
      → Finishes g result
  finishes_from g first sorted result all moved up is query rows h =
      is ∙ shown_rows (take g.limit sorted) ∙ ap (map (λ r. r.row)) (sym (take-map shown g.limit sorted))
      ∙ (λ j. map (λ r. r.row) (take (h.limit j) (results_same query rows g h shown first sorted all moved up j)))

-- so are the rows of the first of the ordered results
pub finishes_first : (g : Grouped) (result : List ResultRow) → result ≡ map (λ r. r.row) (take g.limit (ordered g.order (map (result_at (length g.items)) g.groups))) → Finishes g result
finishes_first g result is query rows h =
    is ∙ (λ j. map (λ r. r.row) (take (h.limit j) (ordered (h.order j) (map (result_at (length g.items)) g.groups))))
    ∙ ap (λ rs. map (λ r. r.row) (take query.limit rs)) (results_ordered query rows g h)

-- the results of entries whose keys are apart
pub entries_apart : (order : List OrderKey) (width : ℕ) (es : List (List Value × List Accumulator)) → IsDistinct same_key (keys_of es) → Ascends (result_cmp order) (ordered order (map (result_at width) es))
entries_apart order width es apart =
    let given = map (result_at width) es in
    ordered_ascends order given (distinct_apart order given (subst (IsDistinct same_key) (sym (keys_of_results width es)) apart))

-- ---- the results of the groups at places

module _ (wide : ℕ) (es : List (List Value × List Accumulator)) where
  within : (p : ℕ) → p < length es → ranked_within wide es p ≡ ranked_at wide es p
  within p lt =
      let same : min p (length es - 1) ≡ p = omega (arith, lt) in
      ap (ranked_at wide es) same

  abbrev all_places : List ℕ
  all_places = map (λ p. p) (range_with_len 0 (length es))

  -- all places give the results of all entries
  pub ranks_all : map (ranked_within wide es) all_places ≡ map (result_at wide) es
  ranks_all = same_lists (map (ranked_within wide es) all_places) (map (result_at wide) es)
      (length-map all_places (ranked_within wide es) ∙ long ∙ sym (length-map es (result_at wide)))
      (λ k d inside. here k d (omega (arith, inside, length-map all_places (ranked_within wide es), long)))
    where
      long : length all_places ≡ length es
      long = length-map-range_with_len (λ p. p) 0 (length es)

      here : (k : ℕ) (d : Result) → k < length es → get_or (map (ranked_within wide es) all_places) k d ≡ get_or (map (result_at wide) es) k d
      here k d lt =
          get_map (ranked_within wide es) all_places k 0 d (omega (arith, lt, long))
          ∙ ap (ranked_within wide es) (get_or-map-range_with_len (λ p. p) 0 (length es) k k 0 lt (omega arith))
          ∙ within k lt ∙ sym (get_map (result_at wide) es k ([], []) d lt)

  pub places_within : All (λ p. p < length es) all_places
  places_within k d inside =
      let lt : k < length es = omega (arith, inside, length-map-range_with_len (λ p. p) 0 (length es)) in
      subst (λ p. p < length es) (sym (get_or-map-range_with_len (λ p. p) 0 (length es) k k d lt (omega arith))) lt

  pub rows_within : (ps : List ℕ) → All (λ p. p < length es) ps → map (λ p. (ranked_at wide es p).row) ps ≡ map (λ p. (ranked_within wide es p).row) ps
  rows_within [] all = refl
  rows_within (p ∷ ps) all =
      λ j. (sym (within p (All-head (λ q. q < length es) p ps all)) j).row ∷ rows_within ps (All-tail (λ q. q < length es) p ps all) j

  pub level_none : (order : List OrderKey) (one other : ℕ) → length es ≡ 0 → Equal ≡ result_cmp order (ranked_within wide es one) (ranked_within wide es other)
  level_none order one other none =
      let first : min one (length es - 1) ≡ 0 = omega (arith, none) in
      let second : min other (length es - 1) ≡ 0 = omega (arith, none) in
      sym ((λ j. result_cmp order (ranked_at wide es (first j)) (ranked_at wide es (second j))) ∙ tied_itself (result_total order) (ranked_at wide es 0))
