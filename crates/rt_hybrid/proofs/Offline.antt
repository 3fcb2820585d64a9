-- What is read of the files of a table.
use Rattle.std.proofs.Common.{◌≡◌, ℤ, ◌<◌, ◌≤◌, Bool, true, false, cond, List, [], ◌∷◌, length, map, filter, All, Option, Some, None, refl, sym, ap, subst, ◌∙◌, length-append, arith}
use Rattle.std.proofs.lemmas.List.{length-map}
use Rattle.std.proofs.lemmas.List.Elements.{All-append, All-head, All-nil, All-tail}
use Rattle.rt_schema.specs.Row.{IsRowOf}
use Rattle.rt_schema.specs.declared.row.Row.{Row}
use Rattle.rt_schema.specs.declared.schema.Schema.{Schema}
use Rattle.rt_model.specs.declared.query.Query.{Query}
use Rattle.rt_model.specs.declared.query_parts.ColumnAt.{ColumnAt}
use Rattle.rt_model.specs.Aggregate.{taken}
use Rattle.rt_model.specs.Checked.{IsQuery}
use Rattle.rt_model.specs.Match.{passes}
use Rattle.rt_segment.specs.Segment.{SealedSegment}
use Rattle.rt_scan.specs.Filled.{rows_as}
use Rattle.rt_agg.specs.Grouped.{Fits, Grouped, Holds}
use Rattle.rt_agg.proofs.Fitting.{rows_fit}
use Rattle.rt_hybrid.specs.Adding.{AddsRows}
use Rattle.rt_hybrid.specs.Pushes.{IsOffline, IsPushed, IsTimeAt}
use Rattle.rt_hybrid.specs.Sides.{is_before, offline_side}
use Rattle.rt_hybrid.specs.Table.{OfflineTable, boundary_of, offline_rows, rows_of_files, time_of}
use Rattle.rt_hybrid.specs.Timed.{timed}
use Rattle.rt_hybrid.proofs.Greatest.{none_greatest}
use Rattle.rt_hybrid.proofs.Pushed.{file_count, rows_few}
use Rattle.rt_hybrid.proofs.TimedRows.{holds_timed, taken_timed, timed_query}

-- ---- the rows

pub rows_of_schema : (schema : Schema) (files : List SealedSegment) → All (IsPushed schema) files → All (IsRowOf schema) (rows_of_files schema files)
rows_of_schema schema [] all = All-nil (IsRowOf schema)
rows_of_schema schema (file ∷ files) all =
    All-append (IsRowOf schema) (rows_as schema file) (rows_of_files schema files) (All-head (IsPushed schema) file files all).fit (rows_of_schema schema files (All-tail (IsPushed schema) file files all))

pub few_rows : (table : OfflineTable) (latest : Option ℤ) → IsOffline table latest → length (offline_rows table) ≤ 42949672950000
few_rows table latest is = omega (arith, rows_few table.schema table.files is.pushed, is.few)

filter_few : {X : Type 0} (p : X → Bool) (xs : List X) → length (filter p xs) ≤ length xs
filter_few p [] = omega arith
filter_few p (x ∷ xs) = by (p x) (filter_few p xs)
  where
    by : (b : Bool) → length (filter p xs) ≤ length xs → length (cond b (x ∷ filter p xs) (filter p xs)) ≤ length (x ∷ xs)
    by true h = omega (arith, h)
    by false h = omega (arith, h)

pub taken_few : (query : Query) (rows : List Row) → length (taken query rows) ≤ length rows
taken_few query rows = filter_few (passes query.filter) rows

pub side_few : (query : Query) (p : Row → Bool) (rows : List Row) → length (taken query (filter p rows)) ≤ length rows
side_few query p rows = omega (arith, filter_few (passes query.filter) (filter p rows), filter_few p rows)

-- ---- the boundary

nothing : (schema : Schema) (files : List SealedSegment) → All (IsPushed schema) files → length (rows_of_files schema files) ≡ 0 → files ≡ []
nothing schema [] all e = refl
nothing schema (file ∷ files) all e =
    let some = (All-head (IsPushed schema) file files all).rows.0 in
    absurd (omega (arith, e, some, file_count schema file, length-append (rows_as schema file) (rows_of_files schema files)))

-- without a greatest time nothing was pushed
pub nothing_pushed : (table : OfflineTable) (latest : Option ℤ) → IsOffline table latest → latest ≡ None → table.files ≡ []
nothing_pushed table latest is e =
    let times : map (time_of table.time) (offline_rows table) ≡ [] = (none_greatest (map (time_of table.time) (offline_rows table))).0 (sym is.greatest ∙ e) in
    nothing table.schema table.files is.pushed (sym (length-map (offline_rows table) (time_of table.time)) ∙ ap length times)

pub none_before : (table : OfflineTable) → boundary_of table ≡ None → offline_side table ≡ []
none_before table e = ap (λ b. filter (λ (row : Row). is_before b (time_of table.time row)) (offline_rows table)) e ∙ none (offline_rows table)
  where
    none : (rows : List Row) → filter (λ (row : Row). false) rows ≡ []
    none [] = refl
    none (row ∷ rows) = none rows

-- ---- the groups

-- groups of the query with its time hold the offline side
pub holds_side : (table : OfflineTable) (query : Query) (at : ColumnAt) (boundary : ℤ) (g : Grouped) → All (IsPushed table.schema) table.files → IsTimeAt table at → boundary_of table ≡ Some boundary
    → Holds (timed query at boundary) (taken (timed query at boundary) (offline_rows table)) g → Holds query (taken query (offline_side table)) g
holds_side table query at boundary g pushed time e h =
    subst (λ (rows : List Row). Holds query rows g)
    (taken_timed table.schema at boundary time.column time.there time.kind query (offline_rows table) (rows_of_schema table.schema table.files pushed)
    ∙ ap (λ b. taken query (filter (λ (row : Row). is_before b (time_of at.place row)) (offline_rows table))) (sym e)
    ∙ ap (λ p. taken query (filter (λ (row : Row). is_before (boundary_of table) (time_of p row)) (offline_rows table))) time.place)
    (holds_timed query at boundary (taken (timed query at boundary) (offline_rows table)) g h)

pub asks : (table : OfflineTable) (query : Query) (at : ColumnAt) (boundary : ℤ) → IsTimeAt table at → IsQuery table.schema query → IsQuery table.schema (timed query at boundary)
asks table query at boundary time q = timed_query table.schema at boundary time.column time.there time.kind time.name query q

-- all rows that were added to the first groups
pub all_added : (query : Query) (more : List Row) (a b : Grouped) → Holds query [] a → AddsRows query more a b → length more < 9223372036854775808 → Holds query more b
all_added query more a b h adds few = adds [] h (omega (arith, few))

-- rows of the schema fit the query
pub all_fit : (schema : Schema) (query : Query) (rows : List Row) → IsQuery schema query → All (IsRowOf schema) rows → All (Fits query) rows
all_fit schema query rows q all k d h = rows_fit schema _ (all k d h) query q
