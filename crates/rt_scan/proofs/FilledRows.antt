-- The rows of a file as rows of a schema have the schema's kinds.
use Rattle.std.proofs.Common.{◌≡◌, ℕ, zero, suc, ◌<◌, Bool, true, false, List, [], ◌∷◌, length, replicate, get_or, Option, Some, refl, ap, ◌∙◌, arith, All}
use Rattle.std.specs.Prelude.{if◌then◌else◌}
use Rattle.std.proofs.lemmas.Bool.{and_parts}
use Rattle.std.proofs.lemmas.List.{length-map, length-replicate}
use Rattle.rt_schema.specs.declared.column.Column.{Column}
use Rattle.rt_schema.specs.declared.column.Kind.{Kind}
use Rattle.rt_schema.specs.declared.column.Kind.TheVariants as kinds
use Rattle.rt_schema.specs.declared.column.Role.{Role}
use Rattle.rt_schema.specs.declared.column.Role.TheVariants.{Dimension, Metric, Moment}
use Rattle.rt_schema.specs.declared.schema.Schema.{Schema}
use Rattle.rt_schema.specs.declared.value.Value.{Value}
use Rattle.rt_schema.specs.Row.{IsRowOf}
use Rattle.rt_schema.specs.Value.{kind_of, missing_of}
use Rattle.rt_segment.specs.Column.{SealedColumn, IsColumn, values_in}
use Rattle.rt_segment.specs.Segment.{SealedSegment, IsSealed, is_column}
use Rattle.rt_seek.specs.Table.{item_at, cell_at, row_at}
use Rattle.rt_seek.proofs.Sets.{map_agree, map_map}
use Rattle.rt_scan.specs.Filled.{stored_as, values_or, values_as}
use Rattle.rt_scan.proofs.SealedRows.{kind_same, kind_of_cell}

missing_kind : (kind : Kind) (role : Role) → kind_of (missing_of kind role) ≡ kind
missing_kind kinds.Int Dimension = refl
missing_kind kinds.Int Metric = refl
missing_kind kinds.Int Moment = refl
missing_kind kinds.Long Dimension = refl
missing_kind kinds.Long Metric = refl
missing_kind kinds.Long Moment = refl
missing_kind kinds.Text role = refl
missing_kind kinds.Bool role = refl
missing_kind kinds.Time role = refl

item_replicate : (n row : ℕ) (v : Value) → row < n → item_at (replicate n v) row ≡ v
item_replicate zero row v h = absurd (omega (arith, h))
item_replicate (suc n) zero v h = refl
item_replicate (suc n) (suc row) v h = item_replicate n row v (omega (arith, h))

-- a column of a file of so many rows
abbrev pub IsStored : ℕ → SealedColumn → Type 0
IsStored n s = IsColumn s × (length s.ids ≡ n)

-- the values of a column as one of a schema: as many as there are rows, each of the column's kind
pub record IsFull (n : ℕ) (column : Column) (values : List Value) : Type 0 where
  pub count : length values ≡ n
  pub kinds : (row : ℕ) → row < n → kind_of (item_at values row) ≡ column.kind

full_by : (n : ℕ) (column : Column) (s : SealedColumn) (rest : Option SealedColumn) (b : Bool) → is_column s column ≡ b → IsStored n s →
    IsFull n column (values_or column n rest) → IsFull n column (values_or column n (if b then Some s else rest))
full_by n column s rest true e is others = record {
  count = length-map s.ids (λ id. item_at (values_in s.dictionary) id) ∙ is.1;
  kinds = λ row h. kind_of_cell s row is.0 (omega (arith, h, is.1)) ∙ kind_same _ _ (and_parts _ _ e).1;
}
full_by n column s rest false e is others = others

full_stored : (n : ℕ) (column : Column) (stored : List SealedColumn) → All (IsStored n) stored → IsFull n column (values_as stored n column)
full_stored n column [] all = record {
  count = length-replicate n (missing_of column.kind column.role);
  kinds = λ row h. ap kind_of (item_replicate n row (missing_of column.kind column.role) h) ∙ missing_kind column.kind column.role;
}
full_stored n column (s ∷ stored) all =
    full_by n column s (stored_as column stored) (is_column s column) refl (all 0 s (omega arith))
    (full_stored n column stored (λ k d h. all (suc k) d (omega (arith, h))))

stored_all : (sealed : SealedSegment) → IsSealed sealed → All (IsStored sealed.rows) sealed.columns
stored_all sealed is k d h = (is.columns k d h, (is.sealable.columns k d h).rows)

module _ (schema : Schema) (sealed : SealedSegment) (is : IsSealed sealed) where
  pub full_columns_as : (columns : List Column) → All (λ column. length (values_as sealed.columns sealed.rows column) ≡ sealed.rows) columns
  full_columns_as columns k d h = (full_stored sealed.rows (get_or columns k d) sealed.columns (stored_all sealed is)).count

  pub row_of_schema_as : (r : ℕ) → r < sealed.rows → IsRowOf schema (row_at (values_as sealed.columns sealed.rows) schema.columns r)
  row_of_schema_as r h =
      map_map kind_of (cell_at (values_as sealed.columns sealed.rows) r) schema.columns
      ∙ map_agree _ _ (λ column. (full_stored sealed.rows column sealed.columns (stored_all sealed is)).kinds r h) schema.columns
