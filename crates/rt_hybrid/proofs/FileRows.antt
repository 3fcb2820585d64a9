-- The rows of a file as rows of the schema are those of the objects.
use Rattle.std.proofs.Common.{◌≡◌, ℕ, zero, suc, ◌+◌, ◌<◌, ◌≤◌, Bool, true, false, cond, List, [], ◌∷◌, length, map, replicate, Some, None, bytes_eq, true≢false, ◌⊎◌, inl, inr, refl, sym, ap, subst, ◌∙◌, arith}
use Rattle.std.specs.List.{AllByRecursion, list_any, range_with_len}
use Rattle.std.proofs.lemmas.Bool.{and_parts, and_from, false≢true}
use Rattle.std.proofs.lemmas.List.{length-map}
use Rattle.std.proofs.lemmas.List.FromFn.{length-map-range_with_len}
use Rattle.std.proofs.lemmas.Slice.Eq.{bytes_eq-Decides}
use Rattle.serde_json.specs.Data.{Data}
use Rattle.rt_lists.specs.Members.{Has}
use Rattle.rt_schema.specs.Schema.{are_distinct, names_of, IsSchema}
use Rattle.rt_schema.specs.Value.{missing_of}
use Rattle.rt_schema.specs.declared.column.Column.{Column}
use Rattle.rt_schema.specs.declared.column.Kind.{Kind}
use Rattle.rt_schema.specs.declared.column.Kind.TheVariants as kinds
use Rattle.rt_schema.specs.declared.row.Row.{Row}
use Rattle.rt_schema.specs.declared.schema.Schema.{Schema}
use Rattle.rt_schema.specs.declared.value.Value.{Value}
use Rattle.rt_mutable.specs.Column.{Shape}
use Rattle.rt_mutable.specs.Consuming.{shape_of}
use Rattle.rt_segment.specs.Column.{SealedColumn}
use Rattle.rt_segment.specs.Segment.{SealedSegment, are_columns, cell_in, is_column, kind_eq, row_in, rows_of}
use Rattle.rt_build.specs.Sealing.{marked, shape_in}
use Rattle.rt_seek.specs.Table.{item_at, row_at as row_by}
use Rattle.rt_scan.specs.Filled.{HasKindOf, HasKinds, rows_as, stored_as, values_as, values_or}
use Rattle.rt_hybrid.specs.Batch.{columns_kept, is_named}
use Rattle.rt_hybrid.specs.Cells.{value_in}
use Rattle.rt_hybrid.specs.Files.{IsPlain}
use Rattle.rt_hybrid.proofs.Columns.{apart, kept_distinct, kept_has, kept_sub, later_distinct, same_column}
use Rattle.rt_hybrid.proofs.Lists.{any_at, none_at}
use Rattle.rt_hybrid.proofs.ObjectRows.{missing_value, row_at, unnamed}

head_of : {X : Type 0} (x y : X) (xs ys : List X) → x ∷ xs ≡ y ∷ ys → x ≡ y
head_of x y xs ys e = cc

tail_of : {X : Type 0} (x y : X) (xs ys : List X) → x ∷ xs ≡ y ∷ ys → xs ≡ ys
tail_of x y xs ys e = cc

-- ---- the columns by their shapes

kind_same : (k : Kind) → kind_eq k k ≡ true
kind_same kinds.Int = refl
kind_same kinds.Long = refl
kind_same kinds.Text = refl
kind_same kinds.Bool = refl
kind_same kinds.Time = refl

shaped : (s : SealedColumn) (c : Column) → shape_in s ≡ marked [] (shape_of [] c) → is_column s c ≡ true
shaped s c e =
    and_from _ _ ((bytes_eq-Decides s.name c.name).1 (ap (λ (x : Shape). x.name) e))
    (subst (λ k. kind_eq k c.kind ≡ true) (sym (ap (λ (x : Shape). x.kind) e)) (kind_same c.kind))

pub shapes_are : (ss : List SealedColumn) (ks : List Column) → map shape_in ss ≡ map (marked []) (map (shape_of []) ks) → are_columns ss ks ≡ true
shapes_are [] [] e = refl
shapes_are [] (k ∷ ks) e = absurd (cc)
shapes_are (s ∷ ss) [] e = absurd (cc)
shapes_are (s ∷ ss) (k ∷ ks) e =
    and_from _ _ (shaped s k (head_of (shape_in s) (marked [] (shape_of [] k)) (map shape_in ss) (map (marked []) (map (shape_of []) ks)) e))
    (shapes_are ss ks (tail_of (shape_in s) (marked [] (shape_of [] k)) (map shape_in ss) (map (marked []) (map (shape_of []) ks)) e))

pub shapes_plain : (ss : List SealedColumn) (ks : List Column) → map shape_in ss ≡ map (marked []) (map (shape_of []) ks) → AllByRecursion IsPlain ss
shapes_plain [] ks e = tt
shapes_plain (s ∷ ss) [] e = absurd (cc)
shapes_plain (s ∷ ss) (k ∷ ks) e = (
  ap (λ (x : Shape). x.indexed) (head_of (shape_in s) (marked [] (shape_of [] k)) (map shape_in ss) (map (marked []) (map (shape_of []) ks)) e),
  shapes_plain ss ks (tail_of (shape_in s) (marked [] (shape_of [] k)) (map shape_in ss) (map (marked []) (map (shape_of []) ks)) e),
)

named_as : (s : SealedColumn) (c : Column) → is_column s c ≡ true → s.name ≡ c.name
named_as s c e = (bytes_eq-Decides s.name c.name).0 (and_parts (bytes_eq s.name c.name) _ e).0

-- ---- the values of the schema's columns

module _ (i n : ℕ) (V : Column → Value) where
  -- a column that is kept has its values
  found_cell : (ss : List SealedColumn) (ks : List Column) → are_columns ss ks ≡ true → map (cell_in i) ss ≡ map V ks → are_distinct (names_of ks) ≡ true
      → (c : Column) → Has ks c → item_at (values_as ss n c) i ≡ V c
  found_cell [] [] e m distinct c h = absurd h
  found_cell [] (k ∷ ks) e m distinct c h = absurd (false≢true e)
  found_cell (s ∷ ss) [] e m distinct c h = absurd h
  found_cell (s ∷ ss) (k ∷ ks) e m distinct c h =
      by (is_column s c) refl h (and_parts (is_column s k) (are_columns ss ks) e) (λ g. found_cell ss ks (and_parts (is_column s k) (are_columns ss ks) e).1
      (tail_of (cell_in i s) (V k) (map (cell_in i) ss) (map V ks) m) (later_distinct k ks distinct) c g)
    where
      by : (b : Bool) → is_column s c ≡ b → (k ≡ c) ⊎ Has ks c → (is_column s k ≡ true) × (are_columns ss ks ≡ true) → (Has ks c → item_at (values_as ss n c) i ≡ V c)
          → item_at (values_or c n (cond b (Some s) (stored_as c ss))) i ≡ V c
      by true is (inl p) parts later = head_of (cell_in i s) (V k) (map (cell_in i) ss) (map V ks) m ∙ ap V p
      by true is (inr g) parts later = absurd (apart k ks c distinct g (sym (named_as s k parts.0) ∙ named_as s c is))
      by false is (inl p) parts later = absurd (false≢true (sym is ∙ subst (λ (x : Column). is_column s x ≡ true) p parts.0))
      by false is (inr g) parts later = later g

-- no column has another's name
none_stored : (ss : List SealedColumn) (ks : List Column) → are_columns ss ks ≡ true → (c : Column) → ((k : Column) → Has ks k → k.name ≡ c.name → ⊥) → stored_as c ss ≡ None
none_stored [] ks e c other = refl
none_stored (s ∷ ss) [] e c other = absurd (false≢true e)
none_stored (s ∷ ss) (k ∷ ks) e c other =
    by (is_column s c) refl (and_parts (is_column s k) (are_columns ss ks) e) (none_stored ss ks (and_parts (is_column s k) (are_columns ss ks) e).1 c (λ x at. other x (inr at)))
  where
    by : (b : Bool) → is_column s c ≡ b → (is_column s k ≡ true) × (are_columns ss ks ≡ true) → stored_as c ss ≡ None → cond b (Some s) (stored_as c ss) ≡ None
    by true is parts later = absurd (other k (inl refl) (sym (named_as s k parts.0) ∙ named_as s c is))
    by false is parts later = later

item_replicate : (n row : ℕ) (v : Value) → row < n → item_at (replicate n v) row ≡ v
item_replicate zero row v h = absurd (omega (arith, h))
item_replicate (suc n) zero v h = refl
item_replicate (suc n) (suc row) v h = item_replicate n row v (omega (arith, h))

module _ (schema : Schema) (is : IsSchema schema) (items : List Data) (ss : List SealedColumn) (same : are_columns ss (columns_kept schema.columns items) ≡ true) where
  module _ (i n : ℕ) (within : i < n) (d : Data) (at : Has items d) (cells : map (cell_in i) ss ≡ map (value_in d) (columns_kept schema.columns items)) where
    found_value : (c : Column) → Has (columns_kept schema.columns items) c → item_at (values_as ss n c) i ≡ value_in d c
    found_value c h = found_cell i n (value_in d) ss (columns_kept schema.columns items) same cells (kept_distinct schema items is) c h

    absent_value : (c : Column) → stored_as c ss ≡ None → is_named items c ≡ false → item_at (values_as ss n c) i ≡ value_in d c
    absent_value c none e =
        ap (λ o. item_at (values_or c n o) i) none ∙ item_replicate n i (missing_of c.kind c.role) within ∙ sym (missing_value c d (unnamed items c d at e))

    unnamed_value : (c : Column) → Has schema.columns c → is_named items c ≡ false → (b : Bool) → list_any (λ (k : Column). bytes_eq k.name c.name) (columns_kept schema.columns items) ≡ b → item_at (values_as ss n c) i ≡ value_in d c
    unnamed_value c h e true is_there =
        let k = any_at (λ (k : Column). bytes_eq k.name c.name) (columns_kept schema.columns items) is_there in
        let one : k.0 ≡ c = same_column schema.columns is.distinct k.0 c (kept_sub schema.columns items k.0 k.1) h ((bytes_eq-Decides k.0.name c.name).0 k.2) in
        found_value c (subst (λ (x : Column). Has (columns_kept schema.columns items) x) one k.1)
    unnamed_value c h e false none =
        absent_value c (none_stored ss (columns_kept schema.columns items) same c (λ k g named.
        true≢false (sym ((bytes_eq-Decides k.name c.name).1 named) ∙ none_at (λ (x : Column). bytes_eq x.name c.name) (columns_kept schema.columns items) k none g))) e

    value_at : (c : Column) → Has schema.columns c → (b : Bool) → is_named items c ≡ b → item_at (values_as ss n c) i ≡ value_in d c
    value_at c h true e = found_value c (kept_has schema.columns items c h e)
    value_at c h false e = unnamed_value c h e (list_any (λ (k : Column). bytes_eq k.name c.name) (columns_kept schema.columns items)) refl

    values_at : (columns : List Column) → ((c : Column) → Has columns c → Has schema.columns c) → map (λ (c : Column). item_at (values_as ss n c) i) columns ≡ map (value_in d) columns
    values_at [] sub = refl
    values_at (c ∷ columns) sub = (λ j. value_at c (sub c (inl refl)) (is_named items c) refl j ∷ values_at columns (λ x h. sub x (inr h)) j)

    -- the row of a number as a row of the schema
    row_as : row_by (values_as ss n) schema.columns i ≡ row_at schema.columns d
    row_as = ap (λ vs. record { values = vs }) (values_at schema.columns (λ c h. h))

  -- a column of a schema's name has its kind
  has_kind : (c : Column) → Has schema.columns c → (ts : List SealedColumn) (ks : List Column) → are_columns ts ks ≡ true → ((k : Column) → Has ks k → Has schema.columns k) → AllByRecursion (HasKindOf c) ts
  has_kind c h [] ks e sub = tt
  has_kind c h (t ∷ ts) [] e sub = absurd (false≢true e)
  has_kind c h (t ∷ ts) (k ∷ ks) e sub =
      let parts = and_parts (is_column t k) (are_columns ts ks) e in (
        (λ named. subst (λ (x : Column). is_column t x ≡ true)
            (same_column schema.columns is.distinct k c (sub k (inl refl)) h (sym (named_as t k parts.0) ∙ (bytes_eq-Decides t.name c.name).0 named)) parts.0),
        has_kind c h ts ks parts.1 (λ x g. sub x (inr g)),
      )

  all_kinds : (columns : List Column) → ((c : Column) → Has columns c → Has schema.columns c) → AllByRecursion (λ (c : Column). AllByRecursion (HasKindOf c) ss) columns
  all_kinds [] sub = tt
  all_kinds (c ∷ columns) sub =
      (has_kind c (sub c (inl refl)) ss (columns_kept schema.columns items) same (λ k g. kept_sub schema.columns items k g), all_kinds columns (λ x h. sub x (inr h)))

-- ---- all rows

module _ (F G : ℕ → Row) (f g : Data → Row) (items : List Data) (n : ℕ) (step : (i : ℕ) (d : Data) → i < n → Has items d → F i ≡ f d → G i ≡ g d) where
  pub rows_by_rows : (ds : List Data) (from len : ℕ) → from + len ≤ n → ((d : Data) → Has ds d → Has items d) → map F (range_with_len from len) ≡ map f ds → map G (range_with_len from len) ≡ map g ds
  rows_by_rows [] from zero h sub e = refl
  rows_by_rows [] from (suc len) h sub e = absurd (cc)
  rows_by_rows (d ∷ ds) from zero h sub e = absurd (cc)
  rows_by_rows (d ∷ ds) from (suc len) h sub e =
      let first : G from ≡ g d = step from d (omega (arith, h)) (sub d (inl refl)) (head_of (F from) (f d) (map F (range_with_len (from + 1) len)) (map f ds) e) in
      let rest : map G (range_with_len (from + 1) len) ≡ map g ds =
      rows_by_rows ds (from + 1) len (omega (arith, h)) (λ x at. sub x (inr at)) (tail_of (F from) (f d) (map F (range_with_len (from + 1) len)) (map f ds) e) in
      (λ j. first j ∷ rest j)

module _ (schema : Schema) (is : IsSchema schema) (items : List Data) (file : SealedSegment) (same : are_columns file.columns (columns_kept schema.columns items) ≡ true)
    (rows : rows_of file ≡ map (row_at (columns_kept schema.columns items)) items) where
  -- a file whose rows are those of the objects in the kept columns has their rows in all columns
  pub rows_are_as : rows_as schema file ≡ map (row_at schema.columns) items
  rows_are_as =
      rows_by_rows (row_in file.columns) (row_by (values_as file.columns file.rows) schema.columns) (row_at (columns_kept schema.columns items)) (row_at schema.columns) items file.rows
      (λ i d within at e. row_as schema is items file.columns same i file.rows within d at (ap (λ (row : Row). row.values) e)) items 0 file.rows (omega arith) (λ d h. h) rows

  pub rows_count : file.rows ≡ length items
  rows_count = sym (length-map-range_with_len (row_in file.columns) 0 file.rows) ∙ ap length rows ∙ length-map items (row_at (columns_kept schema.columns items))

  pub kinds_are : HasKinds schema file
  kinds_are = all_kinds schema is items file.columns same schema.columns (λ c h. h)
