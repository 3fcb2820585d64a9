-- There are groups that hold the rows that a query takes, where these fit it.
use Rattle.std.proofs.Common.{◌≡◌, ℕ, ◌<◌, ◌≤◌, Bool, true, false, cond, ◌||◌, List, [], ◌∷◌, length, map, filter, Option, Some, None, refl, sym, ap, ◌∙◌, subst, arith}
use Rattle.std.specs.Prelude.{if◌then◌else◌, filter_map, IfSome}
use Rattle.std.specs.List.{AllByRecursion, IsDistinct, cons_option, list_any}
use Rattle.std.specs.List.Sorted.{IsStrictlySortedBy}
use Rattle.std.specs.Map.{lookup, keys_of}
use Rattle.std.specs.Ordering.{match_ordering}
use Rattle.std.specs.declared.cmp.Ordering.{Ordering}
use Rattle.std.specs.declared.cmp.Ordering.TheVariants.{Less, Equal, Greater}
use Rattle.std.proofs.lemmas.Map.Keys.{IsDistinct-from_sorted}
use Rattle.rt_agg.specs.Accumulators.{all_known_of}
use Rattle.rt_agg.specs.Grouped.{Fits, Grouped, Holds, keys_in_order, known_at, makes_group, same_key}
use Rattle.rt_agg.specs.Ranking.{Ascends}
use Rattle.rt_agg.specs.Accumulator.{Accumulator}
use Rattle.rt_agg.proofs.Finishing.{row_keys_ascend}
use Rattle.rt_agg.proofs.Fitting.{rows_fit}
use Rattle.rt_agg.proofs.Holding.{few_filter, fit_filter, keys_equiv, same_is}
use Rattle.rt_agg.proofs.Orders.{key_same}
use Rattle.rt_model.specs.Aggregate.{group_of, has_key, key_of, keys_in, keys_of as row_keys, with_key}
use Rattle.rt_model.specs.Checked.{IsQuery}
use Rattle.rt_model.specs.Values.{key_cmp}
use Rattle.rt_model.specs.declared.query.Query.{Query}
use Rattle.rt_model.specs.declared.query_parts.ColumnAt.{ColumnAt}
use Rattle.rt_schema.specs.Row.{IsRowOf, row_of}
use Rattle.rt_schema.proofs.Rows.{row_of_kinds}
use Rattle.rt_schema.specs.declared.row.Row.{Row}
use Rattle.rt_schema.specs.declared.schema.Schema.{Schema}
use Rattle.rt_schema.specs.declared.value.Value.{Value}

abbrev pub Key : Type 0
Key = List Value

-- ---- the keys of rows are those of which the rows make a group

keys_strict : (ks : List Key) → Ascends key_cmp ks → IsStrictlySortedBy key_cmp ks
unfolding IsStrictlySortedBy
keys_strict [] up = tt
keys_strict (k ∷ ks) up = (up.0, keys_strict ks up.1)

abbrev among : List Key → Key → Bool
among ks q = list_any (same_key q) ks

or_swap : (a b d : Bool) → (a || (b || d)) ≡ (b || (a || d))
or_swap true true d = refl
or_swap true false d = refl
or_swap false b d = refl

or_twice : (a d : Bool) → (a || d) ≡ (a || (a || d))
or_twice true d = refl
or_twice false d = refl

put_among : (k : Key) (ks : List Key) (q : Key) → among (with_key k ks) q ≡ (same_key q k || among ks q)
put_among k [] q = refl
put_among k (l ∷ ks) q = by (key_cmp k l) refl (put_among k ks q)
  where
    by : (o : Ordering) → key_cmp k l ≡ o → among (with_key k ks) q ≡ (same_key q k || among ks q)
        → among (match_ordering o (k ∷ (l ∷ ks)) (l ∷ ks) (l ∷ with_key k ks)) q ≡ (same_key q k || (same_key q l || among ks q))
    by Less e rest = refl
    by Equal e rest = or_twice (same_key q l) (among ks q) ∙ ap (λ m. same_key q m || (same_key q l || among ks q)) (sym (key_same k l e))
    by Greater e rest = ap (λ b. same_key q l || b) rest ∙ or_swap (same_key q l) (same_key q k) (among ks q)

keys_among : (columns : List ColumnAt) (rows : List Row) (q : Key) → among (keys_in columns rows) q ≡ list_any (has_key columns q) rows
keys_among columns [] q = refl
keys_among columns (r ∷ rs) q =
    put_among (key_of columns r) (keys_in columns rs) q
    ∙ (λ j. keys_equiv.symm q (key_of columns r) j || keys_among columns rs q j)

or_no : (b : Bool) → (b || false) ≡ b
or_no true = refl
or_no false = refl

row_keys_among : (columns : List ColumnAt) (rows : List Row) (q : Key) → among (row_keys columns rows) q ≡ makes_group columns rows q
row_keys_among [] rows q = or_no (same_key q [])
row_keys_among (c ∷ cs) rows q = keys_among (c ∷ cs) rows q

-- ---- a group for each key

module _ (known : Key → List Accumulator) where
  abbrev entry : Key → Key × List Accumulator
  entry k = (k, known k)

  entry_at : (ks : List Key) (q : Key) → lookup (same_key q) (map entry ks) ≡ cond (among ks q) (Some (known q)) None
  entry_at [] q = refl
  entry_at (k ∷ ks) q = by (same_key q k) refl (entry_at ks q)
    where
      by : (b : Bool) → same_key q k ≡ b → lookup (same_key q) (map entry ks) ≡ cond (among ks q) (Some (known q)) None
          → cond b (Some (known k)) (lookup (same_key q) (map entry ks)) ≡ cond (b || among ks q) (Some (known q)) None
      by true e rest = ap (λ l. Some (known l)) (sym (same_is q k e))
      by false e rest = rest

  entry_keys : (ks : List Key) → keys_of (map entry ks) ≡ ks
  entry_keys [] = refl
  entry_keys (k ∷ ks) = ap (λ t. k ∷ t) (entry_keys ks)

-- the groups of a query over rows, with what is known at each key
abbrev pub grouped : Query → List Row → (Key → List Accumulator) → Grouped
grouped query rows known =
    record { columns = query.groups; items = query.items; order = query.order; limit = query.limit; groups = map (entry known) (row_keys query.groups rows) }

pub grouped_apart : (query : Query) (rows : List Row) (known : Key → List Accumulator) → IsDistinct same_key (keys_in_order (grouped query rows known))
grouped_apart query rows known =
    let ks = row_keys query.groups rows in
    subst (IsDistinct same_key) (sym (entry_keys known ks)) (IsDistinct-from_sorted key_cmp ks (keys_strict ks (row_keys_ascend query.groups rows)))

pub grouped_known : (query : Query) (rows : List Row) (known : Key → List Accumulator) (key : Key)
    → known_at (grouped query rows known) key ≡ (if makes_group query.groups rows key then Some (known key) else None)
grouped_known query rows known key =
    entry_at known (row_keys query.groups rows) key ∙ (λ j. if row_keys_among query.groups rows key j then Some (known key) else None)

groups_of_rows : (query : Query) (rows : List Row) → AllByRecursion (Fits query) rows → length rows < 9223372036854775808 → (g : Grouped) × Holds query rows g
groups_of_rows query rows fits few =
    let known : Key → List Accumulator = λ key. all_known_of query.groups query.items query.order key (group_of query.groups key rows) in (
      grouped query rows known,
      record {
        columns = refl;
        items = refl;
        order = refl;
        limit = refl;
        apart = grouped_apart query rows known;
        known = grouped_known query rows known;
        fits = fits;
        few = few;
      },
    )

pub groups_of_none : (query : Query) → (g : Grouped) × Holds query [] g
groups_of_none query = groups_of_rows query [] tt (omega arith)

-- ---- the rows of messages fit a query over their schema

module _ (schema : Schema) (query : Query) (is_query : IsQuery schema query) where
  messages_fit : (ms : List (List ℕ)) → AllByRecursion (Fits query) (filter_map (row_of schema) ms) × (length (filter_map (row_of schema) ms) ≤ length ms)
  messages_fit [] = (tt, omega arith)
  messages_fit (m ∷ ms) = by (row_of schema m) (row_of_kinds schema m) (messages_fit ms)
    where
      rows : List Row
      rows = filter_map (row_of schema) ms

      by : (o : Option Row) → IfSome o (IsRowOf schema) → AllByRecursion (Fits query) rows × (length rows ≤ length ms)
          → AllByRecursion (Fits query) (cons_option o rows) × (length (cons_option o rows) ≤ length (m ∷ ms))
      by None of rest = (rest.0, omega (arith, rest.1))
      by (Some r) of rest = ((rows_fit schema r of query is_query, rest.0), omega (arith, rest.1))

  -- so there are groups of those of them that pass a test
  pub groups_of_messages : (test : Row → Bool) (ms : List (List ℕ)) → length ms < 9223372036854775808
      → (g : Grouped) × Holds query (filter test (filter_map (row_of schema) ms)) g
  groups_of_messages test ms few =
      let rows = filter_map (row_of schema) ms in
      let fit = messages_fit ms in
      groups_of_rows query (filter test rows) (fit_filter (Fits query) test rows fit.0) (omega (arith, few_filter test rows, fit.1, few))
