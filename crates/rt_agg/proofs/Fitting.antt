-- Rows of a schema fit the queries over it.
use Rattle.std.proofs.Common.{◌≡◌, ℕ, suc, Bool, true, false, inl, inr, List, [], ◌∷◌, get_or, Option, Some, None, refl, sym, ap, ◌∙◌, subst, true≢false, arith, All, slice_get}
use Rattle.std.specs.Prelude.{is_some, IsSome, option_and_then, option_map, unwrap_or, bytes_eq, if◌then◌else◌}
use Rattle.std.specs.List.{AllByRecursion}
use Rattle.std.proofs.lemmas.Option.{slice_get-map}
use Rattle.rt_schema.specs.declared.column.Column.{Column}
use Rattle.rt_schema.specs.declared.column.Kind.{Kind}
use Rattle.rt_schema.specs.declared.row.Row.{Row}
use Rattle.rt_schema.specs.declared.schema.Schema.{Schema}
use Rattle.rt_schema.specs.declared.value.Value.{Value}
use Rattle.rt_schema.specs.declared.value.Value.TheVariants.{Int, Long, Text, Bool as Truth, Time}
use Rattle.rt_schema.specs.Row.{IsRowOf}
use Rattle.rt_schema.specs.Value.{kind_of}
use Rattle.rt_model.specs.declared.query.Query.{Query}
use Rattle.rt_model.specs.declared.query_parts.Aggregate.TheVariants as kind
use Rattle.rt_model.specs.declared.query_parts.ColumnAt.{ColumnAt}
use Rattle.rt_model.specs.declared.query_parts.Item.{Item}
use Rattle.rt_model.specs.declared.query_parts.Item.TheVariants as item
use Rattle.rt_model.specs.declared.query_parts.OrderKey.{OrderKey}
use Rattle.rt_model.specs.Checked.{IsQuery, IsItem, IsColumn, IfColumn, IsOrderKey, IsGroupItem, kind_if, has_sum, has_extremes}
use Rattle.rt_agg.specs.Accumulators.{ordering_items}
use Rattle.rt_agg.specs.Grouped.{FitsItem, Fits}
use Rattle.rt_agg.specs.Reading.{scalar_of, scalar_at}
use Rattle.rt_agg.proofs.Appends.{both_fit}

-- a value whose kind has a sum or extremes is a scalar
scalar_by : (f : Kind → Bool) → f Kind.Text ≡ false → f Kind.Bool ≡ false → (v : Value) → f (kind_of v) ≡ true → IsSome (scalar_of v)
scalar_by f text truth (Int n) h = refl
scalar_by f text truth (Long n) h = refl
scalar_by f text truth (Text t) h = absurd (true≢false (sym h ∙ text))
scalar_by f text truth (Truth t) h = absurd (true≢false (sym h ∙ truth))
scalar_by f text truth (Time n) h = refl

module _ (schema : Schema) (row : Row) (of : IsRowOf schema row) where
  module _ (f : Kind → Bool) (text : f Kind.Text ≡ false) (truth : f Kind.Bool ≡ false) where
    in_row : (o : Option Value) (p : Option Column) (name : List ℕ) → option_map kind_of o ≡ option_map (λ c. c.kind) p → IfColumn f (kind_if name p) → IsSome (option_and_then scalar_of o)
    in_row o None name same h = absurd h
    in_row None (Some c) name same h = absurd (true≢false (sym (ap is_some same)))
    in_row (Some v) (Some c) name same h = by (bytes_eq c.name name) h
      where
        by : (b : Bool) → IfColumn f (if b then Some c.kind else None) → IsSome (scalar_of v)
        by true g = scalar_by f text truth v (ap (λ k. f (unwrap_or k c.kind)) same ∙ g)
        by false g = absurd g

    reads : (column : ColumnAt) → IsColumn schema f column → IsSome (scalar_at row column.place)
    reads column h =
        in_row (slice_get row.values column.place) (slice_get schema.columns column.place) column.name
        (sym (slice_get-map kind_of row.values column.place) ∙ ap (λ ks. slice_get ks column.place) of ∙ slice_get-map (λ c. c.kind) schema.columns column.place)
        h

  item_fits : (groups : List ColumnAt) (i : Item) → IsItem schema groups i → FitsItem row i
  item_fits groups (item.Column column) h = tt
  item_fits groups (item.Aggregate kind.Count) h = tt
  item_fits groups (item.Aggregate (kind.Sum column)) h = reads has_sum refl refl column h
  item_fits groups (item.Aggregate (kind.Min column)) h = reads has_extremes refl refl column h
  item_fits groups (item.Aggregate (kind.Max column)) h = reads has_extremes refl refl column h

  group_fits : (groups : List ColumnAt) (i : Item) → IsGroupItem groups i → FitsItem row i
  group_fits groups (item.Column column) h = tt
  group_fits groups (item.Aggregate a) h = absurd h

  all_fit : (P Q : Item → Type 0) → ((i : Item) → P i → Q i) → (is : List Item) → All P is → AllByRecursion Q is
  all_fit P Q f [] all = tt
  all_fit P Q f (i ∷ is) all = (f i (all 0 i (omega arith)), all_fit P Q f is (λ k d lt. all (suc k) d (omega (arith, lt))))

  module _ (query : Query) (is_query : IsQuery schema query) where
    order_fit : (ks : List OrderKey) → All (IsOrderKey query) ks → AllByRecursion (FitsItem row) (ordering_items ks)
    order_fit [] all = tt
    order_fit (k ∷ ks) all = (by (all 0 k (omega arith)), order_fit ks (λ i d lt. all (suc i) d (omega (arith, lt))))
      where
        by : IsOrderKey query k → FitsItem row k.item
        by (inl there) = subst (FitsItem row) there.2 (item_fits query.groups (get_or query.items there.0 k.item) (is_query.items there.0 k.item there.1))
        by (inr group) = group_fits query.groups k.item group

    pub rows_fit : Fits query row
    rows_fit =
        both_fit (FitsItem row) query.items (ordering_items query.order)
        (all_fit (IsItem schema query.groups) (FitsItem row) (item_fits query.groups) query.items is_query.items)
        (order_fit query.order is_query.order)
