-- The rows that a query takes with its time at most the boundary.
use Rattle.std.proofs.Common.{◌≡◌, ℤ, Bool, true, false, cond, ◌&&◌, List, [], ◌∷◌, filter, slice_get, Option, Some, None, option_map, All, true≢false, refl, sym, ap, ◌∙◌}
use Rattle.std.specs.Prelude.{int_le}
use Rattle.std.proofs.lemmas.Option.{get_or_from_slice_get, none-some, same_Some, slice_get-map}
use Rattle.std.proofs.lemmas.List.Elements.{All-head, All-tail}
use Rattle.std.proofs.lemmas.Slice.Eq.{bytes_eq-Decides}
use Rattle.rt_schema.specs.Row.{IsRowOf}
use Rattle.rt_schema.specs.Value.{kind_of}
use Rattle.rt_schema.specs.declared.column.Column.{Column}
use Rattle.rt_schema.specs.declared.column.Kind.{Kind}
use Rattle.rt_schema.specs.declared.column.Kind.TheVariants as kinds
use Rattle.rt_schema.specs.declared.row.Row.{Row}
use Rattle.rt_schema.specs.declared.schema.Schema.{Schema}
use Rattle.rt_schema.specs.declared.value.Value.{Value}
use Rattle.rt_schema.specs.declared.value.Value.TheVariants.{Int, Long, Text, Bool as Truth, Time}
use Rattle.rt_model.specs.declared.query.Query.{Query}
use Rattle.rt_model.specs.declared.query_parts.ColumnAt.{ColumnAt}
use Rattle.rt_model.specs.declared.query_parts.Comparison.TheVariants.{AtMost}
use Rattle.rt_model.specs.declared.query_parts.Literal.TheVariants as literal
use Rattle.rt_model.specs.Aggregate.{taken}
use Rattle.rt_model.specs.Checked.{IsFilter, IsQuery, fault_of, first_fault, kind_at, kind_if, test_fault}
use Rattle.rt_model.specs.Match.{compares, matches, meets, passes}
use Rattle.rt_model.specs.Tree.{Tree}
use Rattle.rt_model.specs.Values.{number_of}
use Rattle.rt_agg.specs.Grouped.{Grouped, Holds}
use Rattle.rt_hybrid.specs.Sides.{is_before}
use Rattle.rt_hybrid.specs.Table.{is_time, time_of}
use Rattle.rt_hybrid.specs.Timed.{and_time, time_at_most, timed}
use Rattle.rt_hybrid.proofs.OneSide.{at_most}

-- ---- the test on the time

compared : (v : Value) (b : ℤ) → is_time (kind_of v) ≡ true → compares AtMost v (literal.Int b) ≡ int_le (number_of v) b
compared (Int z) b e = absurd (true≢false (sym e))
compared (Long z) b e = at_most z b
compared (Text t) b e = absurd (true≢false (sym e))
compared (Truth t) b e = absurd (true≢false (sym e))
compared (Time z) b e = at_most z b

value_there : (o : Option Value) (k : Kind) → option_map kind_of o ≡ Some k → (v : Value) × (o ≡ Some v) × (kind_of v ≡ k)
value_there None k e = absurd (none-some k e)
value_there (Some v) k e = (v, refl, same_Some (kind_of v) k e)

module _ (schema : Schema) (column : ColumnAt) (boundary : ℤ) (time : Column) (at : slice_get schema.columns column.place ≡ Some time) (is : is_time time.kind ≡ true) where
  tested : (row : Row) → IsRowOf schema row → matches (time_at_most column boundary) row ≡ is_before (Some boundary) (time_of column.place row)
  tested row of =
      let v = value_there (slice_get row.values column.place) time.kind
      (sym (slice_get-map kind_of row.values column.place) ∙ ap (λ ks. slice_get ks column.place) of ∙ slice_get-map (λ (c : Column). c.kind) schema.columns column.place ∙ ap (option_map (λ (c : Column). c.kind)) at) in
      ap (meets (λ w. compares AtMost w (literal.Int boundary))) v.1
      ∙ compared v.0 boundary (ap is_time v.2 ∙ is)
      ∙ ap (λ z. int_le (number_of z) boundary) (sym (get_or_from_slice_get row.values column.place v.0 (Truth false) v.1))

  and_true : (b : Bool) → (b && true) ≡ b
  and_true true = refl
  and_true false = refl

  both_tested : (filter : Option Tree) (row : Row) → passes (Some (and_time filter (time_at_most column boundary))) row ≡ (matches (time_at_most column boundary) row && passes filter row)
  both_tested None row = sym (and_true (matches (time_at_most column boundary) row))
  both_tested (Some t) row = ap (λ b. matches (time_at_most column boundary) row && b) (and_true (matches t row))

  one_taken : (filter : Option Tree) (row : Row) → IsRowOf schema row → passes (Some (and_time filter (time_at_most column boundary))) row ≡ (is_before (Some boundary) (time_of column.place row) && passes filter row)
  one_taken filter row of = both_tested filter row ∙ ap (λ b. b && passes filter row) (tested row of)

  taken_at : (p : Row → Bool) (row : Row) (rest some : List Row) (a b : Bool) → a ≡ b → cond (a && p row) (row ∷ filter p rest) (filter p rest) ≡ filter p (cond b (row ∷ rest) rest)
  taken_at p row rest some true b e = ap (λ c. filter p (cond c (row ∷ rest) rest)) e
  taken_at p row rest some false b e = ap (λ c. filter p (cond c (row ∷ rest) rest)) e

  -- the query with its time takes the rows that are before the boundary and that the query takes
  pub taken_timed : (query : Query) (rows : List Row) → All (IsRowOf schema) rows
      → taken (timed query column boundary) rows ≡ taken query (filter (λ (row : Row). is_before (Some boundary) (time_of column.place row)) rows)
  taken_timed query [] all = refl
  taken_timed query (row ∷ rows) all =
      ap (λ b. cond b (row ∷ taken (timed query column boundary) rows) (taken (timed query column boundary) rows)) (one_taken query.filter row (All-head (IsRowOf schema) row rows all))
      ∙ ap (λ (rest : List Row). cond (is_before (Some boundary) (time_of column.place row) && passes query.filter row) (row ∷ rest) rest) (taken_timed query rows (All-tail (IsRowOf schema) row rows all))
      ∙ taken_at (passes query.filter) row (filter (λ (r : Row). is_before (Some boundary) (time_of column.place r)) rows) [] (is_before (Some boundary) (time_of column.place row)) (is_before (Some boundary) (time_of column.place row)) refl

  -- ---- it is a query of the schema

  module _ (named : time.name ≡ column.name) where
    kind_here : kind_at schema column ≡ Some time.kind
    kind_here = ap (kind_if column.name) at ∙ ap (λ b. cond b (Some time.kind) None) ((bytes_eq-Decides time.name column.name).1 named)

    of_kind : (k : Kind) → is_time k ≡ true → test_fault (Some k) true (literal.Int boundary ∷ []) ≡ None
    of_kind kinds.Int e = absurd (true≢false (sym e))
    of_kind kinds.Long e = refl
    of_kind kinds.Text e = absurd (true≢false (sym e))
    of_kind kinds.Bool e = absurd (true≢false (sym e))
    of_kind kinds.Time e = refl

    no_fault : fault_of schema (time_at_most column boundary) ≡ None
    no_fault = ap (λ o. test_fault o true (literal.Int boundary ∷ [])) kind_here ∙ of_kind time.kind is

    checked : (filter : Option Tree) → IsFilter schema filter → fault_of schema (and_time filter (time_at_most column boundary)) ≡ None
    checked None h = no_fault
    checked (Some t) h = ap (λ f. first_fault f (first_fault (fault_of schema t) None)) no_fault ∙ ap (λ f. first_fault f None) h

    pub timed_query : (query : Query) → IsQuery schema query → IsQuery schema (timed query column boundary)
    timed_query query q = record {
      aggregate = q.aggregate;
      items = q.items;
      filter = checked query.filter q.filter;
      groups = q.groups;
      apart = q.apart;
      order = q.order;
      limit = q.limit;
    }

-- groups hold rows whatever the filter
pub holds_timed : (query : Query) (column : ColumnAt) (boundary : ℤ) (rows : List Row) (g : Grouped) → Holds (timed query column boundary) rows g → Holds query rows g
holds_timed query column boundary rows g h = record {
  columns = h.columns;
  items = h.items;
  order = h.order;
  limit = h.limit;
  apart = h.apart;
  known = h.known;
  fits = h.fits;
  few = h.few;
}
