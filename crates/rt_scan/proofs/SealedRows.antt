-- The rows of a sealed segment, and the kinds of their values.
use Rattle.std.proofs.Common.{◌≡◌, ℕ, zero, suc, ◌<◌, true, false, List, [], ◌∷◌, length, map, get_or, slice_get, Some, refl, ap, sym, subst, ◌∙◌, arith, All}
use Rattle.std.specs.Prelude.{bytes_eq}
use Rattle.std.specs.List.{range_with_len}
use Rattle.std.proofs.Math.ListN.{get_or-map}
use Rattle.std.proofs.lemmas.Bool.{and_parts, false≢true}
use Rattle.std.proofs.lemmas.List.{length-map, get_or_default}
use Rattle.std.proofs.lemmas.List.Elements.{All-weaker, All-head, All-tail}
use Rattle.std.proofs.lemmas.Option.{none-some, same_Some}
use Rattle.rt_schema.specs.declared.column.Column.{Column}
use Rattle.rt_schema.specs.declared.column.Kind.{Kind}
use Rattle.rt_schema.specs.declared.column.Kind.TheVariants as kinds
use Rattle.rt_schema.specs.declared.schema.Schema.{Schema}
use Rattle.rt_schema.specs.declared.value.Value.{Value}
use Rattle.rt_schema.specs.declared.value.Value.TheVariants as value
use Rattle.rt_schema.specs.Row.{IsRowOf}
use Rattle.rt_schema.specs.Value.{kind_of}
use Rattle.rt_segment.specs.declared.dictionary.Dictionary.{Dictionary}
use Rattle.rt_segment.specs.declared.dictionary.Dictionary.TheVariants.{Int, Long, Text, Bool as Truth, Time}
use Rattle.rt_segment.specs.Column.{SealedColumn, IsColumn, kind_in, count_in, values_in, values_of}
use Rattle.rt_segment.specs.Segment.{SealedSegment, IsSealed, IsColumnOf, cell_in, row_in, kind_eq, are_columns}
use Rattle.rt_seek.specs.Table.{item_at, cell_at, row_at, rows_by}
use Rattle.rt_seek.proofs.Sets.{map_agree, map_map}

-- rows come from the values of the columns alone
pub same_row : {C D : Type 0} (f : C → List Value) (g : D → List Value) (cs : List C) (ds : List D) → map f cs ≡ map g ds → (r : ℕ) → row_at f cs r ≡ row_at g ds r
same_row f g cs ds e r =
    let values : map (cell_at f r) cs ≡ map (cell_at g r) ds = sym (map_map (λ vs. item_at vs r) f cs) ∙ ap (map (λ vs. item_at vs r)) e ∙ map_map (λ vs. item_at vs r) g ds in
    ap (λ vs. record { values = vs }) values

pub same_rows : {C D : Type 0} (f : C → List Value) (g : D → List Value) (cs : List C) (ds : List D) → map f cs ≡ map g ds → (n : ℕ) → rows_by f cs n ≡ rows_by g ds n
same_rows f g cs ds e n = map_agree (row_at f cs) (row_at g ds) (same_row f g cs ds e) (range_with_len 0 n)

pub unmapped : {X Y : Type 0} (P : Y → Type 0) (f : X → Y) (xs : List X) → All P (map f xs) → All (λ x. P (f x)) xs
unmapped P f xs all k d h = subst P (get_or-map f xs k d) (all k (f d) (omega (arith, h, length-map xs f)))

pub kind_same : (a b : Kind) → kind_eq a b ≡ true → a ≡ b
kind_same kinds.Int kinds.Int e = refl
kind_same kinds.Int kinds.Long e = absurd (false≢true e)
kind_same kinds.Int kinds.Text e = absurd (false≢true e)
kind_same kinds.Int kinds.Bool e = absurd (false≢true e)
kind_same kinds.Int kinds.Time e = absurd (false≢true e)
kind_same kinds.Long kinds.Int e = absurd (false≢true e)
kind_same kinds.Long kinds.Long e = refl
kind_same kinds.Long kinds.Text e = absurd (false≢true e)
kind_same kinds.Long kinds.Bool e = absurd (false≢true e)
kind_same kinds.Long kinds.Time e = absurd (false≢true e)
kind_same kinds.Text kinds.Int e = absurd (false≢true e)
kind_same kinds.Text kinds.Long e = absurd (false≢true e)
kind_same kinds.Text kinds.Text e = refl
kind_same kinds.Text kinds.Bool e = absurd (false≢true e)
kind_same kinds.Text kinds.Time e = absurd (false≢true e)
kind_same kinds.Bool kinds.Int e = absurd (false≢true e)
kind_same kinds.Bool kinds.Long e = absurd (false≢true e)
kind_same kinds.Bool kinds.Text e = absurd (false≢true e)
kind_same kinds.Bool kinds.Bool e = refl
kind_same kinds.Bool kinds.Time e = absurd (false≢true e)
kind_same kinds.Time kinds.Int e = absurd (false≢true e)
kind_same kinds.Time kinds.Long e = absurd (false≢true e)
kind_same kinds.Time kinds.Text e = absurd (false≢true e)
kind_same kinds.Time kinds.Bool e = absurd (false≢true e)
kind_same kinds.Time kinds.Time e = refl

kind_mapped : {K : Type 0} (f : K → Value) (kind : Kind) → ((x : K) → kind_of (f x) ≡ kind) → (xs : List K) (id : ℕ) → id < length xs → kind_of (item_at (map f xs) id) ≡ kind
kind_mapped f kind is [] id h = absurd (omega (arith, h))
kind_mapped f kind is (x ∷ xs) zero h = is x
kind_mapped f kind is (x ∷ xs) (suc id) h = kind_mapped f kind is xs id (omega (arith, h))

kind_item : (d : Dictionary) (id : ℕ) → id < count_in d → kind_of (item_at (values_in d) id) ≡ kind_in d
kind_item (Int zs) id h = kind_mapped value.Int kinds.Int (λ z. refl) zs id h
kind_item (Long zs) id h = kind_mapped value.Long kinds.Long (λ z. refl) zs id h
kind_item (Text zs) id h = kind_mapped value.Text kinds.Text (λ z. refl) zs id h
kind_item (Truth zs) id h = kind_mapped value.Bool kinds.Bool (λ z. refl) zs id h
kind_item (Time zs) id h = kind_mapped value.Time kinds.Time (λ z. refl) zs id h

pub kind_of_cell : (column : SealedColumn) (r : ℕ) → IsColumn column → r < length column.ids → kind_of (cell_in r column) ≡ kind_in column.dictionary
kind_of_cell column r is h =
    let f = λ (id : ℕ). item_at (values_in column.dictionary) id in
    ap kind_of (get_or_default (map f column.ids) r (value.Bool false) (f 0) (omega (arith, h, length-map column.ids f)) ∙ get_or-map f column.ids r 0)
    ∙ kind_item column.dictionary (get_or column.ids r 0) (is.known r 0 h)

-- the segment's column at the place of a schema's
pub column_at_place : (stored : List SealedColumn) (cs : List Column) → are_columns stored cs ≡ true → (place : ℕ) (column : Column) → slice_get cs place ≡ Some column →
    (s : SealedColumn) × (slice_get stored place ≡ Some s) × (kind_in s.dictionary ≡ column.kind) × (bytes_eq s.name column.name ≡ true)
column_at_place [] [] e place column at = absurd (none-some _ at)
column_at_place [] (c ∷ cs) e place column at = absurd (false≢true e)
column_at_place (s ∷ stored) [] e place column at = absurd (none-some _ at)
column_at_place (s ∷ stored) (c ∷ cs) e zero column at =
    let p = and_parts _ _ e in
    let q = and_parts _ _ p.0 in
    let same : c ≡ column = same_Some _ _ at in
    (s, refl, kind_same _ _ q.1 ∙ ap (λ x. x.kind) same, subst (λ (x : Column). bytes_eq s.name x.name ≡ true) same q.0)
column_at_place (s ∷ stored) (c ∷ cs) e (suc place) column at = column_at_place stored cs (and_parts _ _ e).1 place column at

-- columns that are a schema's have cells of the schema's kinds
kinds_of_cells : (r : ℕ) (stored : List SealedColumn) (cs : List Column) → are_columns stored cs ≡ true → All (λ s. kind_of (cell_in r s) ≡ kind_in s.dictionary) stored →
    map kind_of (map (cell_in r) stored) ≡ map (λ column. column.kind) cs
kinds_of_cells r [] [] e all = refl
kinds_of_cells r [] (c ∷ cs) e all = absurd (false≢true e)
kinds_of_cells r (s ∷ stored) [] e all = absurd (false≢true e)
kinds_of_cells r (s ∷ stored) (c ∷ cs) e all =
    let P = λ (x : SealedColumn). kind_of (cell_in r x) ≡ kind_in x.dictionary in
    let p = and_parts _ _ e in
    ap (λ k. k ∷ map kind_of (map (cell_in r) stored)) (All-head P s stored all ∙ kind_same _ _ (and_parts _ _ p.0).1)
    ∙ ap (λ ks. c.kind ∷ ks) (kinds_of_cells r stored cs p.1 (All-tail P s stored all))

module _ (schema : Schema) (sealed : SealedSegment) (is : IsSealed sealed) (columns : are_columns sealed.columns schema.columns ≡ true) where
  pub row_of_schema : (r : ℕ) → r < sealed.rows → IsRowOf schema (row_in sealed.columns r)
  row_of_schema r h = kinds_of_cells r sealed.columns schema.columns columns (λ k d inside.
      kind_of_cell (get_or sealed.columns k d) r (is.columns k d inside) (omega (arith, h, (is.sealable.columns k d inside).rows)))

pub full_columns : (sealed : SealedSegment) → IsSealed sealed → All (λ column. length (values_of column) ≡ sealed.rows) sealed.columns
full_columns sealed is = All-weaker (IsColumnOf sealed.rows) (λ column. length (values_of column) ≡ sealed.rows) (λ column c. length-map column.ids (λ id. item_at (values_in column.dictionary) id) ∙ c.rows) sealed.columns is.sealable.columns
