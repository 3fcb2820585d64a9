-- A push: its file, and the table behind it.
use Rattle.std.proofs.Common.{◌≡◌, ℕ, ℤ, ◌*◌, ◌<◌, ◌≤◌, true, false, List, [], ◌∷◌, ◌++◌, length, map, fold, slice_get, Option, Some, None, option_map, option_and_then, Ok, Err, All, refl, sym, ap, subst, ◌∙◌, append_assoc, length-append, arith}
use Rattle.std.specs.Prelude.{unwrap_or}
use Rattle.std.specs.List.{list_all}
use Rattle.std.proofs.lemmas.Bool.{and_parts, leb-true}
use Rattle.std.proofs.lemmas.List.{append-nil, length_push, length-map, map-append}
use Rattle.std.proofs.lemmas.List.FromFn.{length-map-range_with_len}
use Rattle.std.proofs.lemmas.List.Sums.{fold-append}
use Rattle.std.proofs.lemmas.List.Elements.{All-append, All-cons, All-head, All-nil, All-tail}
use Rattle.std.proofs.lemmas.Option.{cond_some, get_or_from_slice_get, none-some, slice_get-map}
use Rattle.serde_json.specs.Data.{Data}
use Rattle.serde_json.specs.Read.{read}
use Rattle.rt_schema.specs.Row.{IsRowOf}
use Rattle.rt_schema.specs.Schema.{IsSchema}
use Rattle.rt_schema.specs.declared.column.Column.{Column}
use Rattle.rt_schema.specs.declared.row.Row.{Row}
use Rattle.rt_schema.specs.declared.schema.Schema.{Schema}
use Rattle.rt_schema.specs.declared.value.Value.TheVariants.{Bool as Truth}
use Rattle.rt_model.specs.Values.{number_of}
use Rattle.rt_mutable.specs.Consuming.{IsShort}
use Rattle.rt_segment.specs.Segment.{SealedSegment, are_columns, rows_of}
use Rattle.rt_build.specs.Sealing.{IsSealOf}
use Rattle.rt_seek.specs.Table.{row_at as row_by}
use Rattle.rt_scan.specs.Filled.{rows_as, values_as}
use Rattle.rt_hybrid.specs.Batch.{are_few, columns_kept, columns_pushed, if_few, items_pushed, rows_in, rows_pushed, array_in}
use Rattle.rt_hybrid.specs.Cells.{time_in, value_in}
use Rattle.rt_hybrid.specs.Files.{IsFileOf}
use Rattle.rt_hybrid.specs.Pushes.{IsOffline, IsPushed, Pushes}
use Rattle.rt_hybrid.specs.Reads.{IsBatch, Reads, ReadsIf}
use Rattle.rt_hybrid.specs.Sealing.{consuming_of}
use Rattle.rt_hybrid.specs.Table.{OfflineTable, greater_of, greatest_of, rows_of_files, time_of}
use Rattle.rt_hybrid.specs.declared.batch.Batch.{Batch}
use Rattle.rt_hybrid.specs.declared.hybrid_refused.HybridRefused.{HybridRefused}
use Rattle.rt_hybrid.specs.declared.hybrid_refused.HybridRefused.TheVariants.{NoTime, NotRows, Memory}
use Rattle.rt_hybrid.proofs.Columns.{kept_schema}
use Rattle.rt_hybrid.proofs.ConsumedRows.{all_before}
use Rattle.rt_hybrid.proofs.FileRows.{kinds_are, rows_are_as, rows_count, shapes_are, shapes_plain}
use Rattle.rt_hybrid.proofs.ObjectRows.{is_good, none_kept, row_at, some_kept, some_rows}
use Rattle.rt_hybrid.proofs.ValueKinds.{rows_are, rows_short}

-- the rows of one file more
pub files_more : (schema : Schema) (files : List SealedSegment) (file : SealedSegment) → rows_of_files schema (files ++ file ∷ []) ≡ rows_of_files schema files ++ rows_as schema file
files_more schema [] file = append-nil (rows_as schema file)
files_more schema (f ∷ files) file =
    ap (λ (r : List Row). rows_as schema f ++ r) (files_more schema files file) ∙ sym (append_assoc (rows_as schema f) (rows_of_files schema files) (rows_as schema file))

-- ---- what was read

ok_if : (schema : Schema) (time : Column) (before : Option ℤ) (o : Option (List Data)) (batch : Batch) → ReadsIf schema time before o (Ok batch) → (items : List Data) × (o ≡ Some items) × IsBatch schema time before items batch
ok_if schema time before None batch h = absurd h
ok_if schema time before (Some items) batch h = (items, refl, h)

-- of a text that was read, its objects
pub ok_of : (schema : Schema) (time : Column) (before : Option ℤ) (text : List ℕ) (batch : Batch) → Reads schema time before text (Ok batch)
    → (items : List Data) × (items_pushed text ≡ Some items) × IsBatch schema time before items batch
ok_of schema time before text batch h = ok_if schema time before (items_pushed text) batch h

refused_if : (schema : Schema) (time : Column) (before : Option ℤ) (o : Option (List Data)) → ReadsIf schema time before o (Err NotRows) → option_and_then (rows_in schema.columns) o ≡ None
refused_if schema time before None h = refl
refused_if schema time before (Some items) h = none_kept schema.columns items h

pub refused_of : (schema : Schema) (time : Column) (before : Option ℤ) (text : List ℕ) → Reads schema time before text (Err NotRows) → rows_pushed schema text ≡ None
refused_of schema time before text h = refused_if schema time before (items_pushed text) h

never_if : (schema : Schema) (time : Column) (before : Option ℤ) (o : Option (List Data)) → ReadsIf schema time before o (Err NoTime) → ⊥
never_if schema time before None h = h
never_if schema time before (Some items) h = h

pub never_of : (schema : Schema) (time : Column) (before : Option ℤ) (text : List ℕ) → Reads schema time before text (Err NoTime) → ⊥
never_of schema time before text h = never_if schema time before (items_pushed text) h

few_if : (o : Option (List Data)) (items : List Data) → option_and_then if_few o ≡ Some items → are_few (length items) ≡ true
few_if None items e = absurd (none-some items e)
few_if (Some found) items e =
    let both = cond_some (are_few (length found)) found items e in
    ap (λ (xs : List Data). are_few (length xs)) (sym both.1) ∙ both.0

pub few_items : (text : List ℕ) (items : List Data) → items_pushed text ≡ Some items → (1 ≤ length items) × (length items ≤ 10000)
few_items text items e =
    let parts = and_parts _ _ (few_if (option_and_then array_in (read text)) items e) in
    (leb-true 1 (length items) parts.0, leb-true (length items) 10000 parts.1)

-- ---- its rows, in the columns that are kept

module _ (schema : Schema) (time : Column) (before : Option ℤ) (text : List ℕ) (is : IsSchema schema) (items : List Data) (some : items_pushed text ≡ Some items) (batch : Batch) (of : IsBatch schema time before items batch) where
  rows_kept : (list_all (is_good (columns_kept schema.columns items)) items ≡ true) × (batch.rows ≡ map (row_at (columns_kept schema.columns items)) items)
  rows_kept = some_rows (columns_kept schema.columns items) items batch.rows (ap (λ cs. rows_in cs items) (sym of.columns) ∙ of.rows)

  pub batch_schema : (name : List ℕ) → IsSchema (record { name = name; columns = batch.columns })
  batch_schema name = subst (λ cs. IsSchema (record { name = name; columns = cs })) (sym of.columns) (kept_schema schema items name is)

  pub batch_rows : (name : List ℕ) → All (IsRowOf (record { name = name; columns = batch.columns })) batch.rows
  batch_rows name =
      subst (λ (rows : List Row). All (IsRowOf (record { name = name; columns = batch.columns })) rows) (sym rows_kept.1)
      (subst (λ cs. All (IsRowOf (record { name = name; columns = cs })) (map (row_at (columns_kept schema.columns items)) items)) (sym of.columns)
      (rows_are (record { name = name; columns = columns_kept schema.columns items }) items))

  pub batch_short : All (λ (row : Row). All IsShort row.values) batch.rows
  batch_short = subst (λ (rows : List Row). All (λ (row : Row). All IsShort row.values) rows) (sym rows_kept.1) (rows_short (columns_kept schema.columns items) items rows_kept.0)

  count_is : length batch.rows ≡ length items
  count_is = ap length rows_kept.1 ∙ length-map items (row_at (columns_kept schema.columns items))

  pub batch_few : (1 ≤ length batch.rows) × (length batch.rows ≤ 10000)
  batch_few = let few = few_items text items some in (omega (arith, few.0, count_is), omega (arith, few.1, count_is))

  -- the rows of the text
  all_rows : List Row
  all_rows = map (row_at schema.columns) items

  module _ (number : ℕ) (file : SealedSegment) (sealed : IsSealOf 2 (record { 0 = 0 }) (record { 0 = number }) (record { 0 = length batch.rows }) [] (consuming_of batch.columns batch.rows) file) where
    same : are_columns file.columns (columns_kept schema.columns items) ≡ true
    same = subst (λ cs. are_columns file.columns cs ≡ true) of.columns (shapes_are file.columns batch.columns sealed.columns)

    rows_of_file : rows_of file ≡ map (row_at (columns_kept schema.columns items)) items
    rows_of_file = sealed.rows ∙ all_before 0 (length batch.rows) batch.rows (omega arith) ∙ rows_kept.1

    as_rows : rows_as schema file ≡ map (row_at schema.columns) items
    as_rows = rows_are_as schema is items file same rows_of_file

    pub is_file : IsFileOf schema number (columns_pushed schema text) (map (row_at schema.columns) items) file
    is_file =
        let end : length batch.rows ≡ length (map (row_at schema.columns) items) = count_is ∙ sym (length-map items (row_at schema.columns)) in
        record {
          format = sealed.format;
          partition = sealed.partition;
          sequence = sealed.sequence;
          range = sealed.range ∙ (λ j. record { start = record { 0 = 0 }; end = record { 0 = end j } });
          columns = subst (λ o. are_columns file.columns (columns_kept schema.columns (unwrap_or o [])) ≡ true) (sym some) same;
          plain = shapes_plain file.columns batch.columns sealed.columns;
          rows = as_rows;
        }

    pub is_pushed : IsPushed schema file
    is_pushed =
        let few = few_items text items some in
        let count : file.rows ≡ length items = rows_count schema is items file same rows_of_file in
        record {
          rows = (omega (arith, few.0, count), omega (arith, few.1, count));
          kinds = kinds_are schema is items file same rows_of_file;
          fit = subst (λ (rows : List Row). All (IsRowOf schema) rows) (sym as_rows) (rows_are schema items);
        }

    pub rows_some : rows_pushed schema text ≡ Some (map (row_at schema.columns) items)
    rows_some = ap (option_and_then (rows_in schema.columns)) some ∙ some_kept schema.columns items batch.rows (ap (λ cs. rows_in cs items) (sym of.columns) ∙ of.rows)

    pub count_rows : length batch.rows ≡ length (map (row_at schema.columns) items)
    count_rows = count_is ∙ sym (length-map items (row_at schema.columns))

    -- ---- times

    time_at : (place : ℕ) → slice_get schema.columns place ≡ Some time → (d : Data) → time_of place (row_at schema.columns d) ≡ time_in time d
    time_at place at d =
        ap number_of (get_or_from_slice_get (map (value_in d) schema.columns) place (value_in d time) (Truth false)
        (slice_get-map (value_in d) schema.columns place ∙ ap (option_map (value_in d)) at))

    times_at : (place : ℕ) → slice_get schema.columns place ≡ Some time → (ds : List Data) → map (time_of place) (map (row_at schema.columns) ds) ≡ map (time_in time) ds
    times_at place at [] = refl
    times_at place at (d ∷ ds) = (λ j. time_at place at d j ∷ times_at place at ds j)

    pub greatest_now : (place : ℕ) (files : List SealedSegment) → slice_get schema.columns place ≡ Some time → before ≡ greatest_of (map (time_of place) (rows_of_files schema files))
        → batch.greatest ≡ greatest_of (map (time_of place) (rows_of_files schema (files ++ file ∷ [])))
    greatest_now place files at was =
        of.greatest ∙ ap (λ b. fold greater_of b (map (time_in time) items)) was
        ∙ ap (fold greater_of (greatest_of (map (time_of place) (rows_of_files schema files)))) (sym (times_at place at items) ∙ ap (map (time_of place)) (sym as_rows))
        ∙ sym (fold-append greater_of None (map (time_of place) (rows_of_files schema files)) (map (time_of place) (rows_as schema file)))
        ∙ ap greatest_of (sym (map-append (time_of place) (rows_of_files schema files) (rows_as schema file)))
        ∙ ap (λ rows. greatest_of (map (time_of place) rows)) (sym (files_more schema files file))

-- ---- how many rows there are

pub file_count : (schema : Schema) (file : SealedSegment) → length (rows_as schema file) ≡ file.rows
file_count schema file = length-map-range_with_len (row_by (values_as file.columns file.rows) schema.columns) 0 file.rows

file_few : (schema : Schema) (file : SealedSegment) → IsPushed schema file → length (rows_as schema file) ≤ 10000
file_few schema file is = omega (arith, is.rows.1, file_count schema file)

pub rows_few : (schema : Schema) (files : List SealedSegment) → All (IsPushed schema) files → length (rows_of_files schema files) ≤ 10000 * length files
rows_few schema [] all = omega arith
rows_few schema (file ∷ files) all =
    let first = file_few schema file (All-head (IsPushed schema) file files all) in
    let rest = rows_few schema files (All-tail (IsPushed schema) file files all) in
    let both = length-append (rows_as schema file) (rows_of_files schema files) in
    omega (arith, first, rest, both)

-- ---- the table behind a push

pub refused_pushes : (table : OfflineTable) (time : Column) (before : Option ℤ) (text : List ℕ) (refused : HybridRefused) → Reads table.schema time before text (Err refused) → Pushes text table table (Err refused)
refused_pushes table time before text NoTime h = never_of table.schema time before text h
refused_pushes table time before text NotRows h = (refused_of table.schema time before text h, refl)
refused_pushes table time before text Memory h = refl

module _ (table : OfflineTable) (time : Column) (before : Option ℤ) (text : List ℕ) (batch : Batch) (is : IsOffline table before) (reads : Reads table.schema time before text (Ok batch)) where
  was_read : (items : List Data) × (items_pushed text ≡ Some items) × IsBatch table.schema time before items batch
  was_read = ok_of table.schema time before text batch reads

  pub asks_schema : IsSchema (record { name = []; columns = batch.columns })
  asks_schema = batch_schema table.schema time before text is.schema was_read.0 was_read.1 batch was_read.2 []

  pub asks_few : (1 ≤ length batch.rows) × (length batch.rows ≤ 10000)
  asks_few = batch_few table.schema time before text is.schema was_read.0 was_read.1 batch was_read.2

  pub asks_rows : All (IsRowOf (record { name = []; columns = batch.columns })) batch.rows
  asks_rows = batch_rows table.schema time before text is.schema was_read.0 was_read.1 batch was_read.2 []

  pub asks_short : All (λ (row : Row). All IsShort row.values) batch.rows
  asks_short = batch_short table.schema time before text is.schema was_read.0 was_read.1 batch was_read.2

  module _ (number : ℕ) (file : SealedSegment) (sealed : IsSealOf 2 (record { 0 = 0 }) (record { 0 = number }) (record { 0 = length batch.rows }) [] (consuming_of batch.columns batch.rows) file) where
    pub now_offline : length table.files < 4294967295 → slice_get table.schema.columns table.time ≡ Some time → IsOffline (record table { files = table.files ++ file ∷ [] }) batch.greatest
    now_offline few at = record {
      schema = is.schema;
      timed = is.timed;
      few = omega (arith, few, length_push table.files file);
      pushed = All-append (IsPushed table.schema) table.files (file ∷ []) is.pushed
          (All-cons (IsPushed table.schema) file [] (is_pushed table.schema time before text is.schema was_read.0 was_read.1 batch was_read.2 number file sealed) (All-nil (IsPushed table.schema)));
      greatest = greatest_now table.schema time before text is.schema was_read.0 was_read.1 batch was_read.2 number file sealed table.time table.files at is.greatest;
    }

    pub now_pushes : number ≡ length table.files → Pushes text table (record table { files = table.files ++ file ∷ [] }) (Ok (length batch.rows))
    now_pushes same =
        let rows : List Row = map (row_at table.schema.columns) was_read.0 in (
          rows,
          rows_some table.schema time before text is.schema was_read.0 was_read.1 batch was_read.2 number file sealed,
          count_rows table.schema time before text is.schema was_read.0 was_read.1 batch was_read.2 number file sealed,
          record {
            file = file;
            is_file = subst (λ n. IsFileOf table.schema n (columns_pushed table.schema text) rows file) same (is_file table.schema time before text is.schema was_read.0 was_read.1 batch was_read.2 number file sealed);
            behind = refl;
          },
        )
