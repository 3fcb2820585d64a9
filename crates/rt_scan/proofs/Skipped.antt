-- No row of a segment that is skipped passes the filter.
use Rattle.std.proofs.Common.{◌≡◌, ℕ, zero, suc, ◌<◌, Bool, true, false, not, cond, List, [], ◌∷◌, ◌++◌, length, map, filter, get_or, slice_get, Option, Some, None, All, refl, sym, ap, subst, ◌∙◌, inl, inr, arith}
use Rattle.std.specs.Prelude.{◌&&◌, ◌||◌, bytes_eq, nat_eq, option_map}
use Rattle.std.specs.List.{AllByRecursion}
use Rattle.std.specs.declared.cmp.Ordering.{Ordering}
use Rattle.std.proofs.Math.ListN.{get_or-map}
use Rattle.std.proofs.lemmas.Bool.{and_from, and_parts, or_cases, or_left, or_right, or_parts, not-true, eqb-true, false_from_ne_true, true≢false}
use Rattle.std.proofs.lemmas.List.{length-map, get_or_default}
use Rattle.std.proofs.lemmas.List.Elements.{All-head, All-tail}
use Rattle.std.proofs.lemmas.List.FromFn.{length-map-range_with_len, get_or-map-range_with_len}
use Rattle.std.proofs.lemmas.Option.{slice_get-map, slice_get_within, get_or_from_slice_get, none-some, same_Some}
use Rattle.std.proofs.lemmas.Slice.Eq.{bytes_eq-Decides}
use Rattle.rt_schema.specs.declared.column.Column.{Column}
use Rattle.rt_schema.specs.declared.row.Row.{Row}
use Rattle.rt_schema.specs.declared.schema.Schema.{Schema}
use Rattle.rt_schema.specs.declared.value.Value.{Value}
use Rattle.rt_schema.specs.declared.value.Value.TheVariants as value
use Rattle.rt_lists.specs.Names.{is_among}
use Rattle.rt_lists.proofs.Distinct.{is_among_push}
use Rattle.rt_model.specs.declared.query.Query.{Query}
use Rattle.rt_model.specs.declared.query_parts.ColumnAt.{ColumnAt}
use Rattle.rt_model.specs.declared.query_parts.Comparison.TheVariants as comparison
use Rattle.rt_model.specs.declared.query_parts.Literal.{Literal}
use Rattle.rt_model.specs.Aggregate.{taken}
use Rattle.rt_model.specs.Checked.{Fault, IsFilter, IsQuery, kind_at, kind_if, asks_order, test_fault, first_fault, fault_of, list_fault}
use Rattle.rt_model.specs.Match.{compares, lies_between, is_one_of, meets, value_at, matches, matches_all, matches_any, passes}
use Rattle.rt_model.specs.Tree.{Tree, Trees, Compare, Between, OneOf, NoneOf, Not, And, Or, End, Then}
use Rattle.rt_model.specs.Values.{against}
use Rattle.rt_segment.specs.Column.{SealedColumn, IsColumn, values_in}
use Rattle.rt_segment.specs.Segment.{SealedSegment, IsSealed, AreNew, cell_in, row_in, rows_of, is_column, are_columns}
use Rattle.rt_seek.specs.Table.{item_at, row_at}
use Rattle.rt_scan.specs.declared.standing.Standing.{Standing}
use Rattle.rt_scan.specs.Filled.{HasKindOf, HasKinds, stored_as, values_or, values_as, rows_as}
use Rattle.rt_scan.specs.Scanned.{FitsSealed}
use Rattle.rt_scan.specs.Skips.{standing_in, standing_of, can_be_one, can_match, can_match_all, can_match_any, can_pass, skips_of}
use Rattle.rt_scan.proofs.Edges.{Framed, compared, lain, framed_in, not_above}
use Rattle.rt_scan.proofs.SealedRows.{column_at_place}

bytes_eq_same : (xs : List ℕ) → bytes_eq xs xs ≡ true
bytes_eq_same xs = (bytes_eq-Decides xs xs).1 refl

bytes_eq_other : (xs ys : List ℕ) → bytes_eq xs ys ≡ false → bytes_eq ys xs ≡ false
bytes_eq_other xs ys e = false_from_ne_true _ (λ t. true≢false (sym ((bytes_eq-Decides xs ys).1 (sym ((bytes_eq-Decides ys xs).0 t))) ∙ e))

-- a column's name isn't among those before it
not_before : (before : List (List ℕ)) (cs : List SealedColumn) → AreNew before cs → (place : ℕ) (s : SealedColumn) → slice_get cs place ≡ Some s → is_among s.name before ≡ false
not_before before [] new place s at = absurd (none-some _ at)
not_before before (c ∷ cs) new zero s at = subst (λ (t : SealedColumn). is_among t.name before ≡ false) (same_Some c s at) new.0
not_before before (c ∷ cs) new (suc place) s at =
    (or_parts _ _ (sym (is_among_push s.name before c.name) ∙ not_before (before ++ c.name ∷ []) cs new.1 place s at)).0

-- so the column of its name is the column itself
named_so : (before : List (List ℕ)) (cs : List SealedColumn) → AreNew before cs → (place : ℕ) (s : SealedColumn) → slice_get cs place ≡ Some s → (l : Literal) → standing_of cs s.name l ≡ standing_in s.dictionary l
named_so before [] new place s at l = absurd (none-some _ at)
named_so before (c ∷ cs) new zero s at l =
    subst (λ (t : SealedColumn). standing_of (c ∷ cs) t.name l ≡ standing_in t.dictionary l) (same_Some c s at) (ap (λ b. cond b (standing_in c.dictionary l) (standing_of cs c.name l)) (bytes_eq_same c.name))
named_so before (c ∷ cs) new (suc place) s at l =
    let apart : bytes_eq s.name c.name ≡ false = (or_parts _ _ (sym (is_among_push s.name before c.name) ∙ not_before (before ++ c.name ∷ []) cs new.1 place s at)).1 in
    ap (λ b. cond b (standing_in c.dictionary l) (standing_of cs s.name l)) (bytes_eq_other s.name c.name apart) ∙ named_so (before ++ c.name ∷ []) cs new.1 place s at l

no_faults : (a b : Option Fault) → first_fault a b ≡ None → (a ≡ None) × (b ≡ None)
no_faults None b e = (refl, e)
no_faults (Some f) b e = absurd (none-some _ (sym e))

-- a row's value of a column, which the column's least and greatest values frame
record Cell (stored : List SealedColumn) (row : Row) (column : ColumnAt) : Type 0 where
  value : Value
  at : value_at row column ≡ Some value
  framed : (l : Literal) → Framed (standing_of stored column.name l) (against value l)

-- the value of a file's column in a row
held_value : (s : SealedColumn) (r : ℕ) → r < length s.ids → item_at (map (λ id. item_at (values_in s.dictionary) id) s.ids) r ≡ item_at (values_in s.dictionary) (get_or s.ids r 0)
held_value s r h =
    let f = λ (id : ℕ). item_at (values_in s.dictionary) id in
    get_or_default (map f s.ids) r (value.Bool false) (f 0) (omega (arith, h, length-map s.ids f)) ∙ get_or-map f s.ids r 0

held_framed : (sealed : SealedSegment) → IsSealed sealed → (place : ℕ) (s : SealedColumn) → slice_get sealed.columns place ≡ Some s → (name : List ℕ) → s.name ≡ name → (r : ℕ) → r < sealed.rows → (l : Literal) →
    Framed (standing_of sealed.columns name l) (against (item_at (map (λ id. item_at (values_in s.dictionary) id) s.ids) r) l)
held_framed sealed is place s at name same r h l =
    let inside : place < length sealed.columns = slice_get_within sealed.columns place s at in
    let here : get_or sealed.columns place s ≡ s = get_or_from_slice_get sealed.columns place s s at in
    let right : IsColumn s = subst IsColumn here (is.columns place s inside) in
    let rows : length s.ids ≡ sealed.rows = ap (λ (t : SealedColumn). length t.ids) (sym here) ∙ (is.sealable.columns place s inside).rows in
    let f = λ (id : ℕ). item_at (values_in s.dictionary) id in
    subst (λ (v : Value). Framed (standing_of sealed.columns name l) (against v l)) (sym (held_value s r (omega (arith, h, rows))))
    (subst (λ n. Framed (standing_of sealed.columns n l) (against (f (get_or s.ids r 0)) l)) same
    (subst (λ t. Framed t (against (f (get_or s.ids r 0)) l)) (sym (named_so [] sealed.columns is.sealable.distinct place s at l))
    (framed_in s.dictionary right.dictionary (get_or s.ids r 0) (right.known r 0 (omega (arith, h, rows))) l)))

-- a test without a fault is on a column of its name
named_column : (schema : Schema) (column : ColumnAt) (ordered : Bool) (ls : List Literal) → test_fault (kind_at schema column) ordered ls ≡ None →
    (c : Column) × (slice_get schema.columns column.place ≡ Some c) × (c.name ≡ column.name)
named_column schema column ordered ls ok = found (slice_get schema.columns column.place) refl ok
  where
    named : (b : Bool) (c : Column) → bytes_eq c.name column.name ≡ b → slice_get schema.columns column.place ≡ Some c → test_fault (cond b (Some c.kind) None) ordered ls ≡ None →
        (d : Column) × (slice_get schema.columns column.place ≡ Some d) × (d.name ≡ column.name)
    named true c same place ok = (c, place, (bytes_eq-Decides c.name column.name).0 same)
    named false c same place ok = absurd (none-some _ (sym ok))

    found : (o : Option Column) → slice_get schema.columns column.place ≡ o → test_fault (kind_if column.name o) ordered ls ≡ None → (d : Column) × (slice_get schema.columns column.place ≡ Some d) × (d.name ≡ column.name)
    found None place ok = absurd (none-some _ (sym ok))
    found (Some c) place ok = named (bytes_eq c.name column.name) c refl place ok

module _ (schema : Schema) (stored : List SealedColumn) (row : Row) (cell : (column : ColumnAt) (ordered : Bool) (ls : List Literal) → test_fault (kind_at schema column) ordered ls ≡ None → Cell stored row column) where
  one : (column : ColumnAt) (x : Cell stored row column) (ls : List Literal) → is_one_of x.value ls ≡ true → can_be_one stored column.name ls ≡ true
  one column x [] m = m
  one column x (l ∷ ls) m = elim (or_cases _ _ m) [
    | inl this ↦ or_left _ _ (compared comparison.Equal _ _ (x.framed l) this)
    | inr rest ↦ or_right _ _ (one column x ls rest)
  ]

  -- what the row meets can be met
  mutual
    can : (t : Tree) → fault_of schema t ≡ None → matches t row ≡ true → can_match stored t ≡ true
    can (Compare column c l) ok m =
        let x = cell column (asks_order c) (l ∷ []) ok in
        compared c _ _ (x.framed l) (sym (ap (meets (λ v. compares c v l)) x.at) ∙ m)
    can (Between column low high) ok m =
        let x = cell column true (low ∷ (high ∷ [])) ok in
        let ends = and_parts (compares comparison.AtLeast x.value low) (compares comparison.AtMost x.value high) (sym (ap (meets (λ v. lies_between v low high)) x.at) ∙ m) in
        lain _ _ _ _ _ (x.framed low) (x.framed high) ends.0 ends.1 (not_above x.value low high ends.0 ends.1)
    can (OneOf column ls) ok m =
        let x = cell column false ls ok in
        one column x ls (sym (ap (meets (λ v. is_one_of v ls)) x.at) ∙ m)
    can (NoneOf column ls) ok m = refl
    can (Not t) ok m = refl
    can (And ts) ok m = can_all ts ok m
    can (Or ts) ok m = can_any ts ok m

    can_all : (ts : Trees) → list_fault schema ts ≡ None → matches_all ts row ≡ true → can_match_all stored ts ≡ true
    can_all End ok m = refl
    can_all (Then t ts) ok m =
        let f = no_faults (fault_of schema t) (list_fault schema ts) ok in
        let p = and_parts _ _ m in
        and_from _ _ (can t f.0 p.0) (can_all ts f.1 p.1)

    can_any : (ts : Trees) → list_fault schema ts ≡ None → matches_any ts row ≡ true → can_match_any stored ts ≡ true
    can_any End ok m = m
    can_any (Then t ts) ok m =
        let f = no_faults (fault_of schema t) (list_fault schema ts) ok in
        elim (or_cases _ _ m) [
          | inl first ↦ or_left _ _ (can t f.0 first)
          | inr rest ↦ or_right _ _ (can_any ts f.1 rest)
        ]

  fails : (filter : Option Tree) → IsFilter schema filter → can_pass stored filter ≡ false → passes filter row ≡ false
  fails None ok ruled = ruled
  fails (Some t) ok ruled = false_from_ne_true _ (λ m. true≢false (sym (can t ok m) ∙ ruled))

  fails_so : (filter : Option Tree) (format rows : ℕ) → 0 < rows → IsFilter schema filter → (nat_eq format 2 && (nat_eq rows 0 || not (can_pass stored filter))) ≡ true → passes filter row ≡ false
  fails_so filter format rows some ok e = elim (or_cases (nat_eq rows 0) (not (can_pass stored filter)) (and_parts (nat_eq format 2) _ e).1) [
    | inl none ↦ absurd (omega (arith, some, eqb-true rows 0 none))
    | inr ruled ↦ fails filter ok (not-true _ ruled)
  ]

-- The rows of a segment that has all columns

module _ (schema : Schema) (sealed : SealedSegment) (is : IsSealed sealed) (columns : are_columns sealed.columns schema.columns ≡ true) (r : ℕ) (h : r < sealed.rows) where
  cell_of : (column : ColumnAt) (c : Column) → slice_get schema.columns column.place ≡ Some c → c.name ≡ column.name → Cell sealed.columns (row_in sealed.columns r) column
  cell_of column c place named =
      let s = column_at_place sealed.columns schema.columns columns column.place c place in
      record {
        value = cell_in r s.0;
        at = slice_get-map (cell_in r) sealed.columns column.place ∙ ap (option_map (cell_in r)) s.1;
        framed = held_framed sealed is column.place s.0 s.1 column.name ((bytes_eq-Decides s.0.name c.name).0 s.3 ∙ named) r h;
      }

  cell : (column : ColumnAt) (ordered : Bool) (ls : List Literal) → test_fault (kind_at schema column) ordered ls ≡ None → Cell sealed.columns (row_in sealed.columns r) column
  cell column ordered ls ok = let c = named_column schema column ordered ls ok in cell_of column c.0 c.1 c.2

pub none_passes : (query : Query) (sealed : SealedSegment) → IsSealed sealed → FitsSealed query sealed → skips_of query.filter sealed ≡ true → All (λ row. passes query.filter row ≡ false) (rows_of sealed)
none_passes query sealed is fits e k d h =
    let inside : k < sealed.rows = omega (arith, h, length-map-range_with_len (row_in sealed.columns) 0 sealed.rows) in
    subst (λ row. passes query.filter row ≡ false) (sym (get_or-map-range_with_len (row_in sealed.columns) 0 sealed.rows k k d inside (omega arith)))
    (fails_so fits.schema sealed.columns (row_in sealed.columns k) (cell fits.schema sealed is fits.columns k inside) query.filter sealed.format sealed.rows (omega (arith, inside)) fits.parsed.filter e)

-- The rows of a segment that lacks columns

-- a column that isn't found by name and kind isn't there by its name
none_standing : (c : Column) (stored : List SealedColumn) → AllByRecursion (HasKindOf c) stored → stored_as c stored ≡ None → (l : Literal) → standing_of stored c.name l ≡ None
none_standing c [] all none l = refl
none_standing c (s ∷ stored) (kinds, all) none l = by (is_column s c) refl (bytes_eq s.name c.name) refl none (λ e. none_standing c stored all e l)
  where
    by : (b : Bool) → is_column s c ≡ b → (n : Bool) → bytes_eq s.name c.name ≡ n → cond b (Some s) (stored_as c stored) ≡ None → (stored_as c stored ≡ None → standing_of stored c.name l ≡ None) →
        cond n (standing_in s.dictionary l) (standing_of stored c.name l) ≡ None
    by true found n same none ih = absurd (none-some s (sym none))
    by false found true same none ih = absurd (true≢false (sym (kinds same) ∙ found))
    by false found false same none ih = ih none

-- one that is found stands somewhere
found_at : (c : Column) (stored : List SealedColumn) (s : SealedColumn) → stored_as c stored ≡ Some s → (place : ℕ) × (slice_get stored place ≡ Some s) × (s.name ≡ c.name)
found_at c [] s e = absurd (none-some s e)
found_at c (t ∷ stored) s e = by (is_column t c) refl e (λ f. found_at c stored s f)
  where
    by : (b : Bool) → is_column t c ≡ b → cond b (Some t) (stored_as c stored) ≡ Some s → (stored_as c stored ≡ Some s → (place : ℕ) × (slice_get stored place ≡ Some s) × (s.name ≡ c.name)) →
        (place : ℕ) × (slice_get (t ∷ stored) place ≡ Some s) × (s.name ≡ c.name)
    by true found e ih = (0, e, ap (λ (x : SealedColumn). x.name) (sym (same_Some t s e)) ∙ (bytes_eq-Decides t.name c.name).0 (and_parts (bytes_eq t.name c.name) _ found).0)
    by false found e ih = let later = ih e in (suc later.0, later.1, later.2)

unframed : (o : Option Standing) (x : Option Ordering) → o ≡ None → Framed o x
unframed None x e = tt
unframed (Some s) x e = absurd (none-some s (sym e))

filled_framed : (sealed : SealedSegment) → IsSealed sealed → (c : Column) → AllByRecursion (HasKindOf c) sealed.columns → (o : Option SealedColumn) → stored_as c sealed.columns ≡ o →
    (r : ℕ) → r < sealed.rows → (l : Literal) → Framed (standing_of sealed.columns c.name l) (against (item_at (values_or c sealed.rows o) r) l)
filled_framed sealed is c kinds None e r h l = unframed (standing_of sealed.columns c.name l) _ (none_standing c sealed.columns kinds e l)
filled_framed sealed is c kinds (Some s) e r h l = let found = found_at c sealed.columns s e in held_framed sealed is found.0 s found.1 c.name found.2 r h l

kinds_at : (stored : List SealedColumn) (columns : List Column) → AllByRecursion (λ (c : Column). AllByRecursion (HasKindOf c) stored) columns →
    (place : ℕ) (c : Column) → slice_get columns place ≡ Some c → AllByRecursion (HasKindOf c) stored
kinds_at stored [] all place c e = absurd (none-some c e)
kinds_at stored (d ∷ columns) (first, rest) zero c e = subst (λ (x : Column). AllByRecursion (HasKindOf x) stored) (same_Some d c e) first
kinds_at stored (d ∷ columns) (first, rest) (suc place) c e = kinds_at stored columns rest place c e

module _ (schema : Schema) (sealed : SealedSegment) (is : IsSealed sealed) (kinds : HasKinds schema sealed) (r : ℕ) (h : r < sealed.rows) where
  filled_of : (column : ColumnAt) (c : Column) → slice_get schema.columns column.place ≡ Some c → c.name ≡ column.name →
      Cell sealed.columns (row_at (values_as sealed.columns sealed.rows) schema.columns r) column
  filled_of column c place named =
      let cell = λ (d : Column). item_at (values_as sealed.columns sealed.rows d) r in
      record {
        value = cell c;
        at = slice_get-map cell schema.columns column.place ∙ ap (option_map cell) place;
        framed = λ l. subst (λ n. Framed (standing_of sealed.columns n l) (against (cell c) l)) named
            (filled_framed sealed is c (kinds_at sealed.columns schema.columns kinds column.place c place) (stored_as c sealed.columns) refl r h l);
      }

  filled : (column : ColumnAt) (ordered : Bool) (ls : List Literal) → test_fault (kind_at schema column) ordered ls ≡ None →
      Cell sealed.columns (row_at (values_as sealed.columns sealed.rows) schema.columns r) column
  filled column ordered ls ok = let c = named_column schema column ordered ls ok in filled_of column c.0 c.1 c.2

pub none_filled_passes : (query : Query) (schema : Schema) (sealed : SealedSegment) → IsSealed sealed → IsQuery schema query → HasKinds schema sealed → skips_of query.filter sealed ≡ true →
    All (λ row. passes query.filter row ≡ false) (rows_as schema sealed)
none_filled_passes query schema sealed is parsed kinds e k d h =
    let row = row_at (values_as sealed.columns sealed.rows) schema.columns in
    let inside : k < sealed.rows = omega (arith, h, length-map-range_with_len row 0 sealed.rows) in
    subst (λ x. passes query.filter x ≡ false) (sym (get_or-map-range_with_len row 0 sealed.rows k k d inside (omega arith)))
    (fails_so schema sealed.columns (row k) (filled schema sealed is kinds k inside) query.filter sealed.format sealed.rows (omega (arith, inside)) parsed.filter e)

without : {X : Type 0} (p : X → Bool) (xs : List X) → All (λ x. p x ≡ false) xs → filter p xs ≡ []
without p [] all = refl
without p (x ∷ xs) all = ap (λ b. cond b (x ∷ filter p xs) (filter p xs)) (All-head (λ x. p x ≡ false) x xs all) ∙ without p xs (All-tail (λ x. p x ≡ false) x xs all)

pub none_taken : (query : Query) (sealed : SealedSegment) → IsSealed sealed → FitsSealed query sealed → skips_of query.filter sealed ≡ true → taken query (rows_of sealed) ≡ []
none_taken query sealed is fits e = without (passes query.filter) (rows_of sealed) (none_passes query sealed is fits e)
