-- The rows of a stream are rows of its schema.
use Rattle.std.proofs.Common.{◌≡◌, ℕ, ◌-◌, Bool, true, List, [], ◌∷◌, map, take, drop, Option, Some, None, IfSome, refl, ap, ◌∙◌}
use Rattle.std.specs.Prelude.{◌&&◌, filter_map}
use Rattle.std.specs.List.{cons_option, list_all}
use Rattle.rt_schema.specs.Row.{IsRowOf, row_of, rows_in}
use Rattle.rt_schema.specs.Value.{kind_of}
use Rattle.rt_schema.specs.declared.column.Column.{Column}
use Rattle.rt_schema.specs.declared.column.Kind.{Kind}
use Rattle.rt_schema.specs.declared.column.Kind.TheVariants as kinds
use Rattle.rt_schema.specs.declared.row.Row.{Row}
use Rattle.rt_schema.specs.declared.schema.Schema.{Schema}
use Rattle.rt_schema.specs.declared.value.Value.{Value}
use Rattle.rt_schema.proofs.Rows.{row_of_kinds}
use Rattle.rt_segment.specs.Segment.{kind_eq}
use Rattle.rt_views.specs.Views.{are_of, is_row_of}

kind_same : (k : Kind) → kind_eq k k ≡ true
kind_same kinds.Int = refl
kind_same kinds.Long = refl
kind_same kinds.Text = refl
kind_same kinds.Bool = refl
kind_same kinds.Time = refl

kinds_match : (values : List Value) (columns : List Column) → map kind_of values ≡ map (λ (c : Column). c.kind) columns → are_of values columns ≡ true
kinds_match [] [] e = refl
kinds_match [] (c ∷ columns) e = absurd (cc)
kinds_match (v ∷ values) [] e = absurd (cc)
kinds_match (v ∷ values) (c ∷ columns) e =
    let first : kind_of v ≡ c.kind = cc in
    let rest : map kind_of values ≡ map (λ (d : Column). d.kind) columns = cc in
    ap (λ (k : Kind). kind_eq k c.kind && are_of values columns) first
    ∙ ap (λ (b : Bool). b && are_of values columns) (kind_same c.kind)
    ∙ kinds_match values columns rest

one_more : (schema : Schema) (o : Option Row) (rows : List Row) → IfSome o (IsRowOf schema) → list_all (is_row_of schema) rows ≡ true
    → list_all (is_row_of schema) (cons_option o rows) ≡ true
one_more schema None rows is all = all
one_more schema (Some row) rows is all =
    ap (λ (b : Bool). b && list_all (is_row_of schema) rows) (kinds_match row.values schema.columns is) ∙ all

decoded_are : (schema : Schema) (messages : List (List ℕ)) → list_all (is_row_of schema) (filter_map (row_of schema) messages) ≡ true
decoded_are schema [] = refl
decoded_are schema (m ∷ messages) =
    one_more schema (row_of schema m) (filter_map (row_of schema) messages) (row_of_kinds schema m) (decoded_are schema messages)

pub stream_rows_are : (schema : Schema) (messages : List (List ℕ)) (start end : ℕ) → list_all (is_row_of schema) (rows_in schema messages start end) ≡ true
stream_rows_are schema messages start end = decoded_are schema (take (end - start) (drop start messages))
