-- What a text is among the queries.
use Rattle.std.proofs.Common.{◌≡◌, ℕ, true, false, if◌then◌else◌, List, Some, None, Bool, Result, refl, ap, sym, ◌∙◌}
use Rattle.std.specs.Str.{IsUtf8, is_utf8}
use Rattle.std.proofs.lemmas.Str.{IsUtf8-from_is_utf8, is_utf8-from_IsUtf8}
use Rattle.rt_model.specs.declared.query.Query.{Query}
use Rattle.rt_schema.specs.declared.schema.Schema.{Schema}
use Rattle.rt_script.specs.QueryTexts.{text_of, text_read}
use Rattle.rt_script.specs.declared.query_text.QueryText.{QueryText}
use Rattle.rt_sql.specs.Parsing.{query_of as query_in}
use Rattle.rt_grammar.specs.declared.sql_refused.SqlRefused.{SqlRefused}

pub read_as : (answer wanted : Result Query SqlRefused) → answer ≡ wanted → text_read answer ≡ text_read wanted
read_as answer wanted e = ap text_read e

pub text_asked :
    (schema : Schema) (table text found : List ℕ) (said : QueryText) → found ≡ text → is_utf8 text ≡ true →
    said ≡ text_read (query_in schema table found) → Some said ≡ text_of schema table text
text_asked schema table text found said same e is =
    ap Some (is ∙ ap (λ t. text_read (query_in schema table t)) same)
    ∙ sym (ap (λ b. if b then Some (text_read (query_in schema table text)) else None) e)

pub bytes_refused : (schema : Schema) (table text : List ℕ) → is_utf8 text ≡ false → None ≡ text_of schema table text
bytes_refused schema table text e = sym (ap (λ b. if b then Some (text_read (query_in schema table text)) else None) e)

pub is_text : (text : List ℕ) → IsUtf8 text → is_utf8 text ≡ true
is_text text utf8 = is_utf8-from_IsUtf8 text utf8

no_text_at : (text : List ℕ) (b : Bool) → is_utf8 text ≡ b → (IsUtf8 text → ⊥) → is_utf8 text ≡ false
no_text_at text true e bad = absurd (bad (IsUtf8-from_is_utf8 text e))
no_text_at text false e bad = e

pub is_no_text : (text : List ℕ) → (IsUtf8 text → ⊥) → is_utf8 text ≡ false
is_no_text text bad = no_text_at text (is_utf8 text) refl bad
