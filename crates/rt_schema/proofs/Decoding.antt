-- The row of a message from what `serde_json` reads.
use Rattle.std.proofs.Common.{◌≡◌, ℕ, List, Bool, true, false, cond, Some, None, option_and_then, refl, sym, ap, ap₂, ◌∙◌}
use Rattle.std.specs.Str.{IsUtf8, is_utf8}
use Rattle.std.proofs.lemmas.Str.{IsUtf8-from_is_utf8, is_utf8-from_IsUtf8}
use Rattle.serde_json.specs.Data.{Data}
use Rattle.serde_json.specs.Read.{read}
use Rattle.rt_schema.specs.Row.{row_in, row_of}
use Rattle.rt_schema.specs.declared.schema.Schema.{Schema}
use Rattle.rt_schema.specs.declared.row.Row.{Row}
use Rattle.rt_schema.specs.declared.column.Column.{Column}

-- a text's row is that of its JSON value
pub row_of_text : (schema : Schema) (columns : List Column) (message : List ℕ) (d : Data) → columns ≡ schema.columns → IsUtf8 message → read message ≡ Some d → row_in columns d ≡ row_of schema message
row_of_text schema columns message d same utf8 reads =
    ap (λ cs. row_in cs d) same
    ∙ sym (ap (λ b. cond b (option_and_then (row_in schema.columns) (read message)) None) (is_utf8-from_IsUtf8 message utf8) ∙ ap (option_and_then (row_in schema.columns)) reads)

no_row_at : (schema : Schema) (message : List ℕ) (b : Bool) → (b ≡ true → read message ≡ None) → None ≡ cond b (option_and_then (row_in schema.columns) (read message)) None
no_row_at schema message true none = sym (ap (option_and_then (row_in schema.columns)) (none refl))
no_row_at schema message false none = refl

-- bytes that are no text, or a text that is no JSON, have no row
pub no_row : (schema : Schema) (message : List ℕ) → (IsUtf8 message → read message ≡ None) → None ≡ row_of schema message
no_row schema message none = no_row_at schema message (is_utf8 message) (λ e. none (IsUtf8-from_is_utf8 message e))

-- the row that was found in a flat text is the message's
pub row_of_flat : (schema : Schema) (columns : List Column) (text message : List ℕ) (row : Row) → columns ≡ schema.columns → text ≡ message → IsUtf8 message
    → option_and_then (row_in columns) (read text) ≡ Some row → Some row ≡ row_of schema message
row_of_flat schema columns text message row same reads utf8 e =
    sym e ∙ ap₂ (λ cs t. option_and_then (row_in cs) (read t)) same reads
    ∙ sym (ap (λ b. cond b (option_and_then (row_in schema.columns) (read message)) None) (is_utf8-from_IsUtf8 message utf8))
