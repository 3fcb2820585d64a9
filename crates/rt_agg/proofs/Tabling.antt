-- Tables whose holders and keys change.
use Rattle.std.proofs.Common.{◌≡◌, ℕ, zero, suc, ◌<◌, ◌≤◌, cond, List, [], ◌∷◌, ◌++◌, length, map, take, Some, None, Option, refl, sym, ap, ◌∙◌, subst, arith, slice_get, length-append, is_some, inl, inr, true≢false}
use Rattle.std.proofs.lemmas.Option.{slice_get_cases, slice_get_within}
use Rattle.std.specs.List.{AllByRecursion, IsDistinct}
use Rattle.std.specs.Map.{lookup}
use Rattle.rt_schema.specs.declared.row.Row.{Row}
use Rattle.rt_schema.specs.declared.value.Value.{Value}
use Rattle.rt_model.specs.declared.query_parts.ColumnAt.{ColumnAt}
use Rattle.rt_agg.specs.Accumulator.{Accumulator}
use Rattle.rt_agg.specs.Accumulators.{all_merged, known_of, with_row}
use Rattle.rt_agg.specs.Grouped.{same_key}
use Rattle.rt_agg.specs.GroupTable.{AddsRow, AddsRows, IsTable, StartsSome, Tabled, all_merged_in, entries_from}
use Rattle.rt_agg.specs.ResultHolder.{held_of, item_of, started_in, with_page_in, with_row_in}
use Rattle.rt_agg.specs.declared.placed_row.PlacedRow.{PlacedRow}
use Rattle.rt_agg.specs.declared.result_holder.ResultHolder.{ResultHolder}
use Rattle.rt_agg.proofs.Entries.{entries_long, entries_more, entries_same, entry_changed, entry_of, keys_are, known_by}
use Rattle.rt_agg.proofs.Holders.{Started, all_fewer, all_page_started, merges_here, merges_other, page_first, page_none, rows_here, rows_items, rows_other, rows_started, some_before, some_items, some_kept, starts_here, starts_started}

abbrev Keys : Type 0
Keys = List (List Value)

-- what columns, holders and keys show
abbrev pub table_of : List ColumnAt → List ResultHolder → Keys → Tabled
table_of columns holders keys = record { columns = columns; items = map item_of holders; entries = entries_from columns holders 0 keys }

abbrev entry_key : List Value → Option (List Value × List Accumulator) → List Value
entry_key k None = k
entry_key k (Some e) = e.0

abbrev entry_known : List Accumulator → Option (List Value × List Accumulator) → List Accumulator
entry_known a None = a
entry_known a (Some e) = e.1

module _ (columns : List ColumnAt) (hs : List ResultHolder) (ks : Keys) where
  -- the key of an entry is the key of its number
  pub key_of_entry : (i : ℕ) (k : List Value) (known : List Accumulator) → slice_get (entries_from columns hs 0 ks) i ≡ Some (k, known) → slice_get ks i ≡ Some k
  key_of_entry i k known at =
      let lt : i < length ks = subst (λ n. i < n) (long 0 ks) (slice_get_within (entries_from columns hs 0 ks) i (k, known) at) in
      let found = read ks i lt in
      found.1 ∙ ap Some (ap (entry_key k) (sym (entry_of columns hs i ks found.0 found.1) ∙ at))
    where
      long : (n : ℕ) (ls : Keys) → length (entries_from columns hs n ls) ≡ length ls
      long n [] = refl
      long n (l ∷ ls) = ap suc (long (suc n) ls)

      read : (ls : Keys) (j : ℕ) → j < length ls → (l : List Value) × (slice_get ls j ≡ Some l)
      read [] j lt = absurd (omega (arith, lt))
      read (l ∷ ls) zero lt = (l, refl)
      read (l ∷ ls) (suc j) lt = read ls j (omega (arith, lt))

  pub known_at_entry : (i : ℕ) (k : List Value) (known : List Accumulator) → slice_get (entries_from columns hs 0 ks) i ≡ Some (k, known) → known_by columns hs i k ≡ known
  known_at_entry i k known at = ap (entry_known known) (sym (entry_of columns hs i ks k (key_of_entry i k known at)) ∙ at)

  -- ---- a group is started

  module _ (t : IsTable hs ks) (now : List ResultHolder) where
    pub some_view : StartsSome (length ks) hs now → table_of columns now ks ≡ table_of columns hs ks
    some_view some =
        λ j. record {
          columns = columns;
          items = some_items (length ks) hs now some j;
          entries = entries_same columns hs now 0 ks (λ i le lt key. some_before (length ks) i (omega (arith, lt)) columns key hs now t.started some) j;
        }

    pub some_table : StartsSome (length ks) hs now → IsTable now ks
    some_table some = record { apart = t.apart; started = some_kept (length ks) hs now t.started some }

    module _ (some : StartsSome (length ks) hs now) (all : now ≡ map (started_in (length ks)) hs) (k : List Value) where
      pub more_entries : entries_from columns now 0 (ks ++ k ∷ []) ≡ entries_from columns hs 0 ks ++ (k, map (known_of columns k []) (map item_of hs)) ∷ []
      more_entries =
          entries_more columns now ks k
          ∙ (λ j. ap (λ (s : Tabled). s.entries) (some_view some) j ++ (k, (ap (map (held_of columns k (length ks))) all ∙ starts_here (length ks) columns k hs t.started) j) ∷ [])

      pub more_table : IsDistinct same_key (ks ++ k ∷ []) → IsTable now (ks ++ k ∷ [])
      more_table apart =
          let more : suc (length ks) ≡ length (ks ++ k ∷ []) = omega (arith, length-append ks (k ∷ [])) in
          record { apart = apart; started = subst (λ n. Started n now) more (subst (Started (suc (length ks))) (sym all) (starts_started (length ks) hs t.started)) }

  -- ---- a row is added to a group

  module _ (t : IsTable hs ks) (row : Row) (group : ℕ) where
    abbrev added : List ResultHolder
    added = map (with_row_in row group) hs

    pub row_table : IsTable added ks
    row_table = record { apart = t.apart; started = rows_started row group (length ks) hs t.started }

    pub row_known : (k : List Value) (known : List Accumulator) → slice_get (entries_from columns hs 0 ks) group ≡ Some (k, known)
        → (q : List Value) → lookup (same_key q) (entries_from columns added 0 ks) ≡ cond (same_key k q) (Some (map (with_row row) known)) (lookup (same_key q) (entries_from columns hs 0 ks))
    row_known k known at q =
        let here = key_of_entry group k known at in
        entry_changed columns hs added group (λ j n key. rows_other row group j n columns key hs) (map (with_row row) known) k q ks t.apart here
        (rows_here row group columns k hs (all_fewer (length ks) (suc group) hs (omega (arith, slice_get_within ks group k here)) t.started)
        ∙ ap (map (with_row row)) (known_at_entry group k known at))

    row_past : slice_get (entries_from columns hs 0 ks) group ≡ None → table_of columns added ks ≡ table_of columns hs ks
    row_past none j = record {
      columns = columns;
      items = rows_items row group hs j;
      entries = entries_same columns hs added 0 ks (λ i le lt key. rows_other row group i (λ same. omega (arith, lt, same, none_behind none)) columns key hs) j;
    }
      where
        none_behind : slice_get (entries_from columns hs 0 ks) group ≡ None → length ks ≤ group
        none_behind none = elim (slice_get_cases (entries_from columns hs 0 ks) group).1 [
          | inl some ↦ absurd (true≢false (ap is_some (sym some.2 ∙ none)))
          | inr behind ↦ subst (λ n. n ≤ group) (entries_long columns hs 0 ks) behind.0
        ]

    pub row_added : AddsRow row group (table_of columns hs ks) (table_of columns added ks)
    row_added = record {
      known = row_known;
      past = row_past;
      keys = keys_are columns added 0 ks ∙ sym (keys_are columns hs 0 ks);
      same = (refl, rows_items row group hs);
    }

  -- ---- the rows of a page are added, each to its group

  pub page_table : IsTable hs ks → (row_of : ℕ → Row) (page : List PlacedRow) → IsTable (map (with_page_in row_of page) hs) ks
  page_table t row_of page = record { apart = t.apart; started = all_page_started row_of (length ks) page hs t.started }

  -- ---- a group is merged with one of others

  pub take_table : (m : ℕ) → IsTable hs ks → IsDistinct same_key (take m ks) → IsTable hs (take m ks)
  take_table m t apart = record { apart = apart; started = all_fewer (length ks) (length (take m ks)) hs (fewer m ks) t.started }
    where
      fewer : (n : ℕ) (ls : Keys) → length (take n ls) ≤ length ls
      fewer zero ls = omega arith
      fewer (suc n) [] = omega arith
      fewer (suc n) (l ∷ ls) = omega (arith, fewer n ls)

pub rows_added : (columns : List ColumnAt) (ks : Keys) (row_of : ℕ → Row) (page : List PlacedRow) (hs : List ResultHolder) → IsTable hs ks
    → AddsRows row_of page (table_of columns hs ks) (table_of columns (map (with_page_in row_of page) hs) ks)
rows_added columns ks row_of [] hs t = ap (λ now. table_of columns now ks) (page_none row_of hs)
rows_added columns ks row_of (p ∷ page) hs t =
    let row = row_of p.row in
    let mid = map (with_row_in row p.group) hs in (
      table_of columns mid ks,
      row_added columns hs ks t row p.group,
      subst (λ (now : List ResultHolder). AddsRows row_of page (table_of columns mid ks) (table_of columns now ks)) (sym (page_first row_of p page hs)) (rows_added columns ks row_of page mid (row_table columns hs ks t row p.group)),
    )

-- rows whose groups aren't there
pub none_added : (row_of : ℕ → Row) (page : List PlacedRow) (t u : Tabled) → AddsRows row_of page t u → AllByRecursion (λ placed. slice_get t.entries placed.group ≡ None) page → u ≡ t
none_added row_of [] t u adds past = adds
none_added row_of (p ∷ page) t u (mid, first, rest) past =
    let same : mid ≡ t = first.past past.0 in
    none_added row_of page mid u rest (subst (λ (m : Tabled). AllByRecursion (λ placed. slice_get m.entries placed.group ≡ None) page) (sym same) past.1) ∙ same

module _ (columns others_columns : List ColumnAt) (hs os : List ResultHolder) (ks ls : Keys) (t : IsTable hs ks) (u : IsTable os ls) (group from : ℕ) where
  pub merge_known : (k : List Value) (known : List Accumulator) → slice_get (entries_from columns hs 0 ks) group ≡ Some (k, known)
      → (o : List Value) (others : List Accumulator) → slice_get (entries_from others_columns os 0 ls) from ≡ Some (o, others)
      → (q : List Value) → lookup (same_key q) (entries_from columns (all_merged_in group from hs os) 0 ks) ≡ cond (same_key k q) (Some (all_merged known others)) (lookup (same_key q) (entries_from columns hs 0 ks))
  merge_known k known at o others there q =
      let here = key_of_entry columns hs ks group k known at in
      let beside = key_of_entry others_columns os ls from o others there in
      entry_changed columns hs (all_merged_in group from hs os) group (λ j n key. merges_other group from j n columns key hs os) (all_merged known others) k q ks t.apart here
      (merges_here group from columns others_columns k o hs os
      (all_fewer (length ks) (suc group) hs (omega (arith, slice_get_within ks group k here)) t.started)
      (all_fewer (length ls) (suc from) os (omega (arith, slice_get_within ls from o beside)) u.started)
      ∙ (λ j. all_merged (known_at_entry columns hs ks group k known at j) (known_at_entry others_columns os ls from o others there j)))
