-- The rows of a segment fit the query of its summaries.
use Rattle.std.proofs.Common.{◌≡◌, ℕ, ◌+◌, ◌<◌, All, arith, true, length, List, [], ◌∷◌, ◌++◌, filter, None, Some, refl, sym, ap, subst, ◌∙◌, slice_get}
use Rattle.std.specs.Prelude.{IsSome, option_and_then, option_map}
use Rattle.std.specs.List.{AllByRecursion}
use Rattle.std.proofs.lemmas.Bool.{false≢true}
use Rattle.std.proofs.lemmas.Option.{get_or_from_slice_get, slice_get-map, slice_get_within}
use Rattle.rt_schema.specs.declared.row.Row.{Row}
use Rattle.rt_schema.specs.declared.value.Value.{Value}
use Rattle.rt_schema.specs.declared.value.Value.TheVariants.{Int, Long, Text, Bool as Truth, Time}
use Rattle.rt_schema.specs.Value.{kind_of}
use Rattle.rt_model.specs.declared.query.Query.{Query}
use Rattle.rt_model.specs.declared.query_parts.Aggregate.TheVariants as kind
use Rattle.rt_model.specs.declared.query_parts.Item.{Item}
use Rattle.rt_model.specs.declared.query_parts.Item.TheVariants as item
use Rattle.rt_model.specs.declared.query_parts.OrderKey.{OrderKey}
use Rattle.rt_model.specs.Aggregate.{taken}
use Rattle.rt_model.specs.Match.{passes}
use Rattle.rt_segment.specs.Column.{IsColumn, values_of}
use Rattle.rt_segment.specs.Segment.{SealedSegment, IsSealed, IsColumnOf, cell_in}
use Rattle.rt_agg.specs.Accumulators.{ordering_items}
use Rattle.rt_agg.specs.Grouped.{Fits, FitsItem, Grouped}
use Rattle.rt_agg.specs.Reading.{scalar_at, scalar_of}
use Rattle.rt_agg.proofs.Appends.{both_fit}
use Rattle.rt_seek.specs.Table.{row_at}
use Rattle.rt_scan.specs.Summaries.{HasNumbers, IsFitting, aggregates_in, is_number}
use Rattle.rt_scan.proofs.SealedRows.{kind_of_cell}

-- a value of a kind of whole numbers is a scalar
scalar_by_kind : (v : Value) → is_number (kind_of v) ≡ true → IsSome (scalar_of v)
scalar_by_kind (Int n) h = refl
scalar_by_kind (Long n) h = refl
scalar_by_kind (Text t) h = absurd (false≢true h)
scalar_by_kind (Truth t) h = absurd (false≢true h)
scalar_by_kind (Time n) h = refl

found_in : {X : Type 0} (P : X → Type 0) (xs : List X) (i : ℕ) (x : X) → All P xs → slice_get xs i ≡ Some x → P x
found_in P xs i x all at = subst P (get_or_from_slice_get xs i x x at) (all i x (slice_get_within xs i x at))

module _ (sealed : SealedSegment) (is : IsSealed sealed) (r : ℕ) (inside : r < sealed.rows) where
  abbrev row : Row
  row = row_at values_of sealed.columns r

  scalar_there : (place : ℕ) → HasNumbers sealed.columns place → IsSome (scalar_at row place)
  scalar_there place has =
      let column = has.0 in
      let at : slice_get row.values place ≡ Some (cell_in r column) = slice_get-map (cell_in r) sealed.columns place ∙ ap (option_map (cell_in r)) has.1 in
      let long = (found_in (IsColumnOf sealed.rows) sealed.columns place column is.sealable.columns has.1).rows in
      let kinds = kind_of_cell column r (found_in IsColumn sealed.columns place column is.columns has.1) (subst (λ n. r < n) (sym long) inside) in
      subst (λ o. IsSome (option_and_then scalar_of o)) (sym at) (scalar_by_kind (cell_in r column) (ap is_number kinds ∙ has.2))

  item_fits : (i : Item) → IsFitting sealed.columns i → FitsItem row i
  item_fits (item.Column column) has = tt
  item_fits (item.Aggregate kind.Count) has = tt
  item_fits (item.Aggregate (kind.Sum column)) has = scalar_there column.place has
  item_fits (item.Aggregate (kind.Min column)) has = scalar_there column.place has
  item_fits (item.Aggregate (kind.Max column)) has = scalar_there column.place has

  items_fit : (is : List Item) → AllByRecursion (IsFitting sealed.columns) is → AllByRecursion (FitsItem row) is
  items_fit [] all = tt
  items_fit (i ∷ is) all = (item_fits i all.0, items_fit is all.1)

  pub query_fits : (query : Query) → AllByRecursion (IsFitting sealed.columns) query.items → query.order ≡ [] → Fits query row
  query_fits query all none =
      subst (λ (order : List OrderKey). AllByRecursion (FitsItem row) (query.items ++ ordering_items order)) (sym none)
      (both_fit (FitsItem row) query.items [] (items_fit query.items all) tt)

-- a query without a filter takes all rows
pub all_taken : (query : Query) (rows : List Row) → query.filter ≡ None → taken query rows ≡ rows
all_taken query rows none = (λ j. filter (passes (none j)) rows) ∙ by rows
  where
    by : (rs : List Row) → filter (passes None) rs ≡ rs
    by [] = refl
    by (r ∷ rs) = ap (λ t. r ∷ t) (by rs)

-- three items more
pub three_more : {X : Type 0} (P : X → Type 0) (xs one two three : List X) (a b c : X) → AllByRecursion P xs → P a → P b → P c
    → one ≡ xs ++ a ∷ [] → two ≡ one ++ b ∷ [] → three ≡ two ++ c ∷ [] → AllByRecursion P three
three_more P xs one two three a b c all pa pb pc first second third =
    let with_one = subst (AllByRecursion P) (sym first) (both_fit P xs (a ∷ []) all (pa, tt)) in
    let with_two = subst (AllByRecursion P) (sym second) (both_fit P one (b ∷ []) with_one (pb, tt)) in
    subst (AllByRecursion P) (sym third) (both_fit P two (c ∷ []) with_two (pc, tt))

-- the aggregates of groups, and of one summary more
pub aggregates_more : (gs now : List Grouped) (g : Grouped) → now ≡ gs ++ g ∷ [] → aggregates_in now ≡ aggregates_in gs + length g.items
aggregates_more gs now g is = ap aggregates_in is ∙ by gs
  where
    by : (hs : List Grouped) → aggregates_in (hs ++ g ∷ []) ≡ aggregates_in hs + length g.items
    by [] = omega arith
    by (h ∷ hs) = omega (arith, by hs)
