-- An object whose members are taken out one after another.
use Rattle.std.proofs.Common.{◌≡◌, ℕ, List, [], ◌∷◌, ◌++◌, Option, Some, None, option_map, String, Global, string_bytes, nat_cmp, cond, Bool, true, false, not, bytes_eq, true≢false, option_and_then, ◌+◌, ◌<◌, get_or, drop, length, refl, sym, ap, ◌∙◌}
use Rattle.std.proofs.lemmas.Bool.{or_parts, and_parts, not-true}
use Rattle.std.proofs.lemmas.Map.Text.{is_eq-slice_cmp}
use Rattle.std.proofs.lemmas.Slice.Eq.{bytes_eq-Decides}
use Rattle.std.specs.Cmp.Lexicographic.{slice_cmp}
use Rattle.std.specs.Map.{lookup, remove_entry}
use Rattle.std.specs.Ordering.{match_ordering}
use Rattle.std.specs.BTreeMap.{is_at}
use Rattle.serde_json.specs.Data.{Members}
use Rattle.serde_json.specs.Find.{get_member}
use Rattle.serde_json.specs.View.{view, members_view}
use Rattle.serde_json.specs.declared.value.Value.{Value}
use Rattle.serde_json.proofs.Views.{member_here, member_later}
use Rattle.rt_schema.proofs.Lists.{drop_next, map_all_more, map_all_none}
use Rattle.rt_schema.specs.Schema.{is_among, names_of, are_distinct}
use Rattle.rt_schema.specs.Value.{cell_of}
use Rattle.rt_schema.specs.Row.{cells_of}
use Rattle.rt_schema.specs.declared.column.Column.{Column}
use Rattle.rt_schema.specs.declared.value.Value.{Value as Cell}

abbrev pub Entry : Type 0
Entry = String Global × Value

-- whether an entry stands at a name
abbrev pub at_name : List ℕ → String Global → Bool
at_name name = is_at (λ key. slice_cmp nat_cmp name (string_bytes key))

at_name_is : (name : List ℕ) (key : String Global) → at_name name key ≡ bytes_eq name (string_bytes key)
at_name_is name key = is_eq-slice_cmp name (string_bytes key)

same_name : (xs ys : List ℕ) (b : Bool) → bytes_eq xs ys ≡ b → b ≡ true → xs ≡ ys
same_name xs ys b e t = (bytes_eq-Decides xs ys).0 (e ∙ t)

other_name : (xs ys : List ℕ) → bytes_eq xs ys ≡ false → xs ≡ ys → ⊥
other_name xs ys e same = true≢false (sym ((bytes_eq-Decides xs ys).1 same) ∙ e)

lookup_at : (name : List ℕ) (e : Entry) (es : List Entry) (b : Bool) → at_name name e.0 ≡ b
    → option_map view (lookup (at_name name) es) ≡ get_member name (members_view es)
    → option_map view (cond b (Some e.1) (lookup (at_name name) es)) ≡ get_member name (members_view (e ∷ es))
lookup_at name e es true is later = sym (member_here name e es (same_name name (string_bytes e.0) true (sym (at_name_is name e.0) ∙ is) refl))
lookup_at name e es false is later = later ∙ sym (member_later name e es (other_name name (string_bytes e.0) (sym (at_name_is name e.0) ∙ is)))

-- what is looked up at a name is the member of that name
pub lookup_is_member : (name : List ℕ) (es : List Entry) → option_map view (lookup (at_name name) es) ≡ get_member name (members_view es)
lookup_is_member name [] = refl
lookup_is_member name (e ∷ es) = lookup_at name e es _ refl (lookup_is_member name es)

other_by : (q name key : List ℕ) → bytes_eq name q ≡ false → bytes_eq name key ≡ true → q ≡ key → ⊥
other_by q name key apart is same = true≢false (sym is ∙ ap (bytes_eq name) (sym same) ∙ apart)

member_kept_at : (q name : List ℕ) (e : Entry) (es : List Entry) (b : Bool) → bytes_eq name q ≡ false → at_name name e.0 ≡ b
    → get_member q (members_view (remove_entry (at_name name) es)) ≡ get_member q (members_view es)
    → get_member q (members_view (cond b es (e ∷ remove_entry (at_name name) es))) ≡ get_member q (members_view (e ∷ es))
member_kept_at q name e es true apart is later = sym (member_later q e es (other_by q name (string_bytes e.0) apart (sym (at_name_is name e.0) ∙ is)))
member_kept_at q name e es false apart is later = ap (λ found. match_ordering (slice_cmp nat_cmp q (string_bytes e.0)) found (Some (view e.1)) found) later

-- the members of other names stay when one is removed
pub member_kept : (q name : List ℕ) (es : List Entry) → bytes_eq name q ≡ false → get_member q (members_view (remove_entry (at_name name) es)) ≡ get_member q (members_view es)
member_kept q name [] apart = refl
member_kept q name (e ∷ es) apart = member_kept_at q name e es _ apart refl (member_kept q name es apart)

-- a column's cell in an object
abbrev pub cell_in : Members → Column → Option Cell
cell_in ms column = cell_of column (get_member column.name ms)

cells_kept_at : (column : Column) (columns : List Column) (name : List ℕ) (es : List Entry) → bytes_eq name column.name ≡ false
    → cells_of columns (members_view (remove_entry (at_name name) es)) ≡ cells_of columns (members_view es)
    → cells_of (column ∷ columns) (members_view (remove_entry (at_name name) es)) ≡ cells_of (column ∷ columns) (members_view es)
cells_kept_at column columns name es apart later =
    ap (λ found. option_and_then (λ v. option_map (λ vs. v ∷ vs) (cells_of columns (members_view (remove_entry (at_name name) es)))) (cell_of column found)) (member_kept column.name name es apart)
    ∙ ap (λ rest. option_and_then (λ v. option_map (λ vs. v ∷ vs) rest) (cell_in (members_view es) column)) later

-- columns of other names find what they found before
pub cells_kept : (columns : List Column) (name : List ℕ) (es : List Entry) → is_among name (names_of columns) ≡ false → cells_of columns (members_view (remove_entry (at_name name) es)) ≡ cells_of columns (members_view es)
cells_kept [] name es apart = refl
cells_kept (column ∷ columns) name es apart =
    let parts = or_parts (bytes_eq name column.name) (is_among name (names_of columns)) apart in
    cells_kept_at column columns name es parts.0 (cells_kept columns name es parts.1)

-- the names that are left stay distinct, and the column's own is not among them
pub distinct_next : (columns : List Column) (i : ℕ) (column : Column) → i < length columns → column ≡ get_or columns i column → are_distinct (names_of (drop i columns)) ≡ true
    → (is_among column.name (names_of (drop (i + 1) columns)) ≡ false) × (are_distinct (names_of (drop (i + 1) columns)) ≡ true)
distinct_next columns i column within is distinct =
    let here = drop_next columns i column within is in
    let parts = and_parts (not (is_among column.name (names_of (drop (i + 1) columns)))) (are_distinct (names_of (drop (i + 1) columns))) (sym (ap (λ cs. are_distinct (names_of cs)) here) ∙ distinct) in
    (not-true _ parts.0, parts.1)

found_in : (column : Column) (name : List ℕ) (ms : Members) (cell : Option Cell) → name ≡ column.name → cell ≡ cell_of column (get_member name ms) → cell ≡ cell_in ms column
found_in column name ms cell named found = found ∙ ap (λ n. cell_of column (get_member n ms)) named

-- one column read: its cell goes behind those before it
pub cells_more : (columns : List Column) (i : ℕ) (column : Column) (name : List ℕ) (v : Cell) (values : List Cell) (before : Option (List Cell)) (old new : List Entry)
    → i < length columns → column ≡ get_or columns i column → name ≡ column.name → new ≡ remove_entry (at_name name) old
    → are_distinct (names_of (drop i columns)) ≡ true → Some v ≡ cell_of column (get_member name (members_view old))
    → before ≡ option_map (λ vs. values ++ vs) (cells_of (drop i columns) (members_view old))
    → before ≡ option_map (λ vs. (values ++ v ∷ []) ++ vs) (cells_of (drop (i + 1) columns) (members_view new))
cells_more columns i column name v values before old new within is named removed distinct cell was =
    let later : List Column = drop (i + 1) columns in
    let apart : is_among name (names_of later) ≡ false = ap (λ n. is_among n (names_of later)) named ∙ (distinct_next columns i column within is distinct).0 in
    let kept : cells_of later (members_view new) ≡ cells_of later (members_view old) = ap (λ es. cells_of later (members_view es)) removed ∙ cells_kept later name old apart in
    map_all_more (cell_in (members_view old)) columns i column v values before within is (found_in column name (members_view old) (Some v) named cell) was
    ∙ ap (option_map (λ vs. (values ++ v ∷ []) ++ vs)) (sym kept)

-- a column that gets no value leaves no row
pub cells_none : (columns : List Column) (i : ℕ) (column : Column) (name : List ℕ) (values : List Cell) (before : Option (List Cell)) (old : List Entry)
    → i < length columns → column ≡ get_or columns i column → name ≡ column.name → None ≡ cell_of column (get_member name (members_view old))
    → before ≡ option_map (λ vs. values ++ vs) (cells_of (drop i columns) (members_view old)) → before ≡ None
cells_none columns i column name values before old within is named cell was =
    sym (map_all_none (cell_in (members_view old)) columns i column values before within is (found_in column name (members_view old) None named cell) was)
