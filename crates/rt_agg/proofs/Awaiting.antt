-- Groups that await rows: the groups of a page's rows are started before the rows are added.
use Rattle.std.proofs.Common.{◌≡◌, ℕ, ◌+◌, ◌<◌, Bool, true, false, cond, ◌||◌, List, [], ◌∷◌, ◌++◌, length, map, filter, Some, None, refl, sym, ap, ◌∙◌, subst, true≢false, arith, length-append, slice_get}
use Rattle.std.specs.Prelude.{if◌then◌else◌, is_some}
use Rattle.std.proofs.lemmas.List.{append_assoc, append-nil}
use Rattle.std.proofs.lemmas.List.Elements.{filter-append}
use Rattle.std.proofs.lemmas.List.Folds.{list_any-append}
use Rattle.std.specs.List.{AllByRecursion, IsDistinct, list_any}
use Rattle.std.specs.Map.{lookup}
use Rattle.rt_schema.specs.declared.row.Row.{Row}
use Rattle.rt_schema.specs.declared.value.Value.{Value}
use Rattle.rt_model.specs.declared.query.Query.{Query}
use Rattle.rt_model.specs.declared.query_parts.ColumnAt.{ColumnAt}
use Rattle.rt_model.specs.declared.query_parts.Item.{Item}
use Rattle.rt_model.specs.declared.query_parts.OrderKey.{OrderKey}
use Rattle.rt_model.specs.Aggregate.{group_of, has_key, key_of}
use Rattle.rt_agg.specs.Accumulator.{Accumulator}
use Rattle.rt_agg.specs.Accumulators.{all_known_of, known_of, with_row}
use Rattle.rt_agg.specs.declared.placed_row.PlacedRow.{PlacedRow}
use Rattle.rt_agg.specs.Grouped.{Awaits, AwaitsOne, Fits, FitsItem, Grouped, Holds, IsPlaced, keys_in_order, known_at, known_before, makes_group, same_key}
use Rattle.rt_agg.specs.GroupTable.{AddsRows, Tabled}
use Rattle.rt_agg.specs.Paging.{rows_on}
use Rattle.rt_agg.proofs.Appends.{all_with_row, both_fit, items_append}
use Rattle.rt_agg.proofs.Holding.{entry_of_key, few_filter, fit_filter, from_if, keys_equiv, known_of_entry, lookup_last, lookup_new, no_rows, same_is, slots}

-- ---- lists with one more at the end

module _ {X : Type 0} (test : X → Bool) (xs : List X) (x : X) where
  kept_last : test x ≡ true → filter test (xs ++ x ∷ []) ≡ filter test xs ++ x ∷ []
  kept_last e = filter-append test xs (x ∷ []) ∙ (λ j. filter test xs ++ cond (e j) (x ∷ []) [])

  left_last : test x ≡ false → filter test (xs ++ x ∷ []) ≡ filter test xs
  left_last e = filter-append test xs (x ∷ []) ∙ (λ j. filter test xs ++ cond (e j) (x ∷ []) []) ∙ append-nil (filter test xs)

  any_last : test x ≡ true → list_any test (xs ++ x ∷ []) ≡ true
  any_last e = list_any-append test xs (x ∷ []) ∙ (λ j. list_any test xs || (e j || false)) ∙ by (list_any test xs)
    where
      by : (b : Bool) → (b || true) ≡ true
      by true = refl
      by false = refl

  any_before : test x ≡ false → list_any test (xs ++ x ∷ []) ≡ list_any test xs
  any_before e = list_any-append test xs (x ∷ []) ∙ (λ j. list_any test xs || (e j || false)) ∙ by (list_any test xs)
    where
      by : (b : Bool) → (b || false) ≡ b
      by true = refl
      by false = refl

none_in_front : {X : Type 0} (test : X → Bool) (xs ys : List X) → list_any test (xs ++ ys) ≡ false → list_any test xs ≡ false
none_in_front test xs ys none = by (list_any test xs) (list_any test ys) (sym (list_any-append test xs ys) ∙ none)
  where
    by : (a b : Bool) → (a || b) ≡ false → a ≡ false
    by true b e = e
    by false b e = refl

-- ---- the groups that rows make

makes_last : (columns : List ColumnAt) (rs : List Row) (row : Row) → makes_group columns (rs ++ row ∷ []) (key_of columns row) ≡ true
makes_last [] rs row = keys_equiv.refl []
makes_last (c ∷ cs) rs row = any_last (has_key (c ∷ cs) (key_of (c ∷ cs) row)) rs row (keys_equiv.refl (key_of (c ∷ cs) row))

makes_other : (columns : List ColumnAt) (rs : List Row) (row : Row) (q : List Value) → same_key (key_of columns row) q ≡ false → makes_group columns (rs ++ row ∷ []) q ≡ makes_group columns rs q
makes_other [] rs row q apart = refl
makes_other (c ∷ cs) rs row q apart = any_before (has_key (c ∷ cs) q) rs row apart

-- a row of a group that is there makes no other
makes_no_more : (columns : List ColumnAt) (rs : List Row) (row : Row) (q : List Value) → makes_group columns rs (key_of columns row) ≡ true → makes_group columns (rs ++ row ∷ []) q ≡ makes_group columns rs q
makes_no_more columns rs row q made = by (same_key (key_of columns row) q) refl
  where
    by : (b : Bool) → same_key (key_of columns row) q ≡ b → makes_group columns (rs ++ row ∷ []) q ≡ makes_group columns rs q
    by true e = subst (λ k. makes_group columns (rs ++ row ∷ []) k ≡ makes_group columns rs k) (same_is (key_of columns row) q e) (makes_last columns rs row ∙ sym made)
    by false e = makes_other columns rs row q e

-- no row is of a group that isn't there
none_grouped : (columns : List ColumnAt) (rs later : List Row) (row : Row) → makes_group columns (rs ++ later) (key_of columns row) ≡ false → group_of columns (key_of columns row) rs ≡ []
none_grouped [] rs later row none = absurd (true≢false (sym (keys_equiv.refl []) ∙ none))
none_grouped (c ∷ cs) rs later row none =
    let test = has_key (c ∷ cs) (key_of (c ∷ cs) row) in
    no_rows test rs (none_in_front test rs later none)

unmade : (b : Bool) (x : List Accumulator) → (if b then Some x else None) ≡ None → b ≡ false
unmade true x e = absurd (true≢false (ap is_some e))
unmade false x e = refl

made : (b : Bool) (x known : List Accumulator) → Some known ≡ (if b then Some x else None) → b ≡ true
made true x known e = refl
made false x known e = absurd (true≢false (ap is_some e))

-- ---- before and after

pub awaits_none : (query : Query) (rows : List Row) (g : Grouped) → Holds query rows g → Awaits query rows [] g
awaits_none query rows g h = record {
  columns = h.columns;
  items = h.items;
  order = h.order;
  limit = h.limit;
  apart = h.apart;
  known = λ key. h.known key ∙ (λ j. if makes_group query.groups (sym (append-nil rows) j) key then Some (all_known_of query.groups query.items query.order key (group_of query.groups key rows)) else None);
  fits = h.fits;
  later_fit = tt;
  few = omega (arith, h.few);
}

holds_all : (query : Query) (rows : List Row) (g : Grouped) → Awaits query rows [] g → Holds query rows g
holds_all query rows g h = record {
  columns = h.columns;
  items = h.items;
  order = h.order;
  limit = h.limit;
  apart = h.apart;
  known = λ key. h.known key ∙ (λ j. if makes_group query.groups (append-nil rows j) key then Some (all_known_of query.groups query.items query.order key (group_of query.groups key rows)) else None);
  fits = h.fits;
  few = omega (arith, h.few);
}

-- ---- one row

module _ (query : Query) (rows later : List Row) (row : Row) (g : Grouped) where
  abbrev its_key : List Value
  its_key = key_of query.groups row

  abbrev all_known : List Value → List Row → List Accumulator
  all_known key rs = all_known_of query.groups query.items query.order key (group_of query.groups key rs)

  -- a row of a group that is there is awaited
  pub awaits_known : (i : ℕ) → Awaits query rows later g → slice_get (keys_in_order g) i ≡ Some its_key → Fits query row
      → length rows + length later + 1 < 9223372036854775808 → Awaits query rows (later ++ row ∷ []) g
  awaits_known i h at fits few =
      let there = entry_of_key g.groups i its_key at in
      let found = made (makes_group query.groups (rows ++ later) its_key) (all_known its_key rows) there.0 (sym (known_of_entry g.groups i its_key there.0 h.apart there.1) ∙ h.known its_key) in
      record {
        columns = h.columns;
        items = h.items;
        order = h.order;
        limit = h.limit;
        apart = h.apart;
        known = λ q. h.known q ∙ (λ j. if (sym (makes_no_more query.groups (rows ++ later) row q found) ∙ ap (λ rs. makes_group query.groups rs q) (append_assoc rows later (row ∷ []))) j then Some (all_known q rows) else None);
        fits = h.fits;
        later_fit = both_fit (Fits query) later (row ∷ []) h.later_fit (fits, tt);
        few = omega (arith, few, length-append later (row ∷ []));
      }

  -- and one whose group was started for it
  pub awaits_started : (new : Grouped) → Awaits query rows later g → known_at g its_key ≡ None
      → new.groups ≡ g.groups ++ (its_key, all_known_of g.columns g.items g.order its_key []) ∷ []
      → new.columns ≡ g.columns → new.items ≡ g.items → new.order ≡ g.order → new.limit ≡ g.limit → IsDistinct same_key (keys_in_order new)
      → Fits query row → length rows + length later + 1 < 9223372036854775808 → Awaits query rows (later ++ row ∷ []) new
  awaits_started new h none added columns items order limit apart fits few = record {
    columns = columns ∙ h.columns;
    items = items ∙ h.items;
    order = order ∙ h.order;
    limit = limit ∙ h.limit;
    apart = apart;
    known = λ q. ap (lookup (same_key q)) added ∙ by q (same_key its_key q) refl;
    fits = h.fits;
    later_fit = both_fit (Fits query) later (row ∷ []) h.later_fit (fits, tt);
    few = omega (arith, few, length-append later (row ∷ []));
  }
    where
      start : List Accumulator
      start = all_known_of g.columns g.items g.order its_key []

      more : (q : List Value) → makes_group query.groups ((rows ++ later) ++ row ∷ []) q ≡ makes_group query.groups (rows ++ (later ++ row ∷ [])) q
      more q = ap (λ rs. makes_group query.groups rs q) (append_assoc rows later (row ∷ []))

      here : lookup (same_key its_key) (g.groups ++ (its_key, start) ∷ []) ≡ known_before query rows (later ++ row ∷ []) its_key
      here =
          let empty = none_grouped query.groups rows later row (unmade (makes_group query.groups (rows ++ later) its_key) (all_known its_key rows) (sym (h.known its_key) ∙ none)) in
          lookup_new (same_key its_key) g.groups its_key start (keys_equiv.refl its_key) none
          ∙ (λ j. Some (all_known_of (h.columns j) (h.items j) (h.order j) its_key (sym empty j)))
          ∙ (λ j. if (sym (makes_last query.groups (rows ++ later) row) ∙ more its_key) j then Some (all_known its_key rows) else None)

      by : (q : List Value) (b : Bool) → same_key its_key q ≡ b → lookup (same_key q) (g.groups ++ (its_key, start) ∷ []) ≡ known_before query rows (later ++ row ∷ []) q
      by q true e = subst (λ k. lookup (same_key k) (g.groups ++ (its_key, start) ∷ []) ≡ known_before query rows (later ++ row ∷ []) k) (same_is its_key q e) here
      by q false e =
          lookup_last (same_key q) g.groups its_key start (keys_equiv.symm q its_key ∙ e) ∙ h.known q
          ∙ (λ j. if (sym (makes_other query.groups (rows ++ later) row q e) ∙ more q) j then Some (all_known q rows) else None)

  -- a row that was awaited is added to its group
  pub awaits_added : (new : Grouped) (i : ℕ) → Awaits query rows (row ∷ later) g → slice_get (keys_in_order g) i ≡ Some its_key
      → ((k : List Value) (known : List Accumulator) → slice_get g.groups i ≡ Some (k, known) → (q : List Value) → known_at new q ≡ cond (same_key k q) (Some (map (with_row row) known)) (known_at g q))
      → new.columns ≡ g.columns → new.items ≡ g.items → new.order ≡ g.order → new.limit ≡ g.limit → keys_in_order new ≡ keys_in_order g
      → Awaits query (rows ++ row ∷ []) later new
  awaits_added new i h at now columns items order limit keys = record {
    columns = columns ∙ h.columns;
    items = items ∙ h.items;
    order = order ∙ h.order;
    limit = limit ∙ h.limit;
    apart = subst (IsDistinct same_key) (sym keys) h.apart;
    known = λ q. by q (same_key its_key q) refl;
    fits = both_fit (Fits query) rows (row ∷ []) h.fits (h.later_fit.0, tt);
    later_fit = h.later_fit.1;
    few = omega (arith, h.few, length-append rows (row ∷ []));
  }
    where
      there : (v : List Accumulator) × (slice_get g.groups i ≡ Some (its_key, v))
      there = entry_of_key g.groups i its_key at

      held : Some there.0 ≡ known_before query rows (row ∷ later) its_key
      held = sym (known_of_entry g.groups i its_key there.0 h.apart there.1) ∙ h.known its_key

      same_rows : (q : List Value) → makes_group query.groups (rows ++ row ∷ later) q ≡ makes_group query.groups ((rows ++ row ∷ []) ++ later) q
      same_rows q = ap (λ rs. makes_group query.groups rs q) (sym (append_assoc rows (row ∷ []) later))

      one_more : map (with_row row) (all_known its_key rows) ≡ all_known its_key (rows ++ row ∷ [])
      one_more =
          let test = has_key query.groups its_key in
          let group = group_of query.groups its_key rows in
          all_with_row query.groups its_key group row (slots query) h.later_fit.0
          ∙ sym (items_append query.groups its_key group (row ∷ []) (slots query) (fit_filter (λ r. AllByRecursion (FitsItem r) (slots query)) test rows h.fits) (h.later_fit.0, tt) (omega (arith, h.few, few_filter test rows)))
          ∙ ap (λ rs. map (known_of query.groups its_key rs) (slots query)) (sym (kept_last test rows row (keys_equiv.refl its_key)))

      here : known_at new its_key ≡ known_before query (rows ++ row ∷ []) later its_key
      here =
          let found = made (makes_group query.groups (rows ++ row ∷ later) its_key) (all_known its_key rows) there.0 held in
          now its_key there.0 there.1 its_key
          ∙ (λ j. cond (keys_equiv.refl its_key j) (Some (map (with_row row) there.0)) (known_at g its_key))
          ∙ ap (λ k. Some (map (with_row row) k)) (from_if (makes_group query.groups (rows ++ row ∷ later) its_key) (all_known its_key rows) there.0 held)
          ∙ ap Some one_more
          ∙ (λ j. if (sym found ∙ same_rows its_key) j then Some (all_known its_key (rows ++ row ∷ [])) else None)

      by : (q : List Value) (b : Bool) → same_key its_key q ≡ b → known_at new q ≡ known_before query (rows ++ row ∷ []) later q
      by q true e = subst (λ k. known_at new k ≡ known_before query (rows ++ row ∷ []) later k) (same_is its_key q e) here
      by q false e =
          now its_key there.0 there.1 q ∙ (λ j. cond (e j) (Some (map (with_row row) there.0)) (known_at g q)) ∙ h.known q
          ∙ (λ j. if same_rows q j then Some (map (known_of query.groups q (sym (left_last (has_key query.groups q) rows row e) j)) (slots query)) else None)

-- ---- the calls

pub awaits_one_more : (key : List Value) (g new : Grouped) → known_at g key ≡ None
    → new.groups ≡ g.groups ++ (key, all_known_of g.columns g.items g.order key []) ∷ []
    → new.columns ≡ g.columns → new.items ≡ g.items → new.order ≡ g.order → new.limit ≡ g.limit → IsDistinct same_key (keys_in_order new)
    → AwaitsOne key g new
awaits_one_more key g new none added columns items order limit apart query rows later row h is fits few =
    awaits_started query rows later row g new h (ap (known_at g) (sym is) ∙ none)
    (added ∙ (λ j. g.groups ++ (is j, all_known_of g.columns g.items g.order (is j) []) ∷ []))
    columns items order limit apart fits few

pub awaits_one_there : (key : List Value) (g : Grouped) (i : ℕ) → slice_get (keys_in_order g) i ≡ Some key → AwaitsOne key g g
awaits_one_there key g i at query rows later row h is fits few = awaits_known query rows later row g i h (at ∙ ap Some is) fits few

-- what a table shows for a query
abbrev pub shown : List Item → List OrderKey → ℕ → Tabled → Grouped
shown items order limit t = record { columns = t.columns; items = items; order = order; limit = limit; groups = t.entries }

module _ (items : List Item) (order : List OrderKey) (limit : ℕ) (row_of : ℕ → Row) (query : Query) where
  -- the rows of a page that was awaited are added
  pub page_added : (page : List PlacedRow) (t u : Tabled) (rows : List Row) → AddsRows row_of page t u → Awaits query rows (rows_on row_of page) (shown items order limit t)
      → AllByRecursion (IsPlaced query.groups row_of (shown items order limit t)) page → Holds query (rows ++ rows_on row_of page) (shown items order limit u)
  page_added [] t u rows adds h placed =
      subst (λ rs. Holds query rs (shown items order limit u)) (sym (append-nil rows))
      (subst (λ s. Holds query rows (shown items order limit s)) (sym adds) (holds_all query rows (shown items order limit t) h))
  page_added (p ∷ page) t u rows adds h placed =
      let row = row_of p.row in
      let mid = adds.0 in
      subst (λ rs. Holds query rs (shown items order limit u)) (append_assoc rows (row ∷ []) (rows_on row_of page))
      (page_added page mid u (rows ++ row ∷ []) adds.2
      (awaits_added query rows (rows_on row_of page) row (shown items order limit t) (shown items order limit mid) p.group h placed.0 adds.1.known adds.1.same.0 refl refl refl adds.1.keys)
      (subst (λ (ks : List (List Value)). AllByRecursion (λ q. slice_get ks q.group ≡ Some (key_of query.groups (row_of q.row))) page) (sym adds.1.keys) placed.1))
