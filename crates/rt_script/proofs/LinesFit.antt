-- Whatever a line says fits the table that it is read for.
use Rattle.std.proofs.Common.{◌≡◌, ℕ, List, Option, Some, None, Result, Ok, Err, refl, sym}
use Rattle.std.specs.Prelude.{IfSome, option_map, codes, bytes_eq}
use Rattle.rt_events.specs.Fits.{Fits}
use Rattle.rt_lines.specs.Words.{parted_at}
use Rattle.rt_model.specs.declared.query.Query.{Query}
use Rattle.rt_schema.specs.declared.schema.Schema.{Schema}
use Rattle.rt_script.specs.Command.{command_of}
use Rattle.rt_script.specs.Line.{FitsLine, ask_line, hybrid_line, latest_line, line_by, line_from, line_of, query_line}
use Rattle.rt_script.specs.OutsideLines.{produce_of}
use Rattle.rt_script.specs.QueryTexts.{FitsText, text_of, text_read}
use Rattle.rt_script.specs.Words.{partition_of}
use Rattle.rt_script.specs.declared.query_text.QueryText.{QueryText}
use Rattle.rt_script.specs.declared.query_text.QueryText.TheVariants as text
use Rattle.rt_script.proofs.Fitting.{all_some, bare_fits, either_fits, events_fit, furthers_fit, offline_fits, plain_fits}
use Rattle.rt_sql.specs.Parsing.{query_of as query_in}
use Rattle.rt_grammar.specs.declared.sql_refused.SqlRefused.{SqlRefused}
use Rattle.rt_sql.proofs.Fitting.{answered_fits}

produce_fits : (schema : Schema) (text : List ℕ) → IfSome (produce_of text) (Fits schema)
produce_fits schema text = all_some (Fits schema) (parted_at 32 text) _ (λ parts. all_some (Fits schema) (partition_of parts.0) _ (λ p. tt))

query_fits : (schema : Schema) (table text : List ℕ) (r : Result Query SqlRefused) → query_in schema table text ≡ r → FitsText schema (text_read r)
query_fits schema table text (Ok query) e = answered_fits schema table text (Ok query) (sym e)
query_fits schema table text (Err why) e = tt

text_fits : (schema : Schema) (table text : List ℕ) → IfSome (text_of schema table text) (FitsText schema)
text_fits schema table text =
    either_fits (FitsText schema) _ (Some (text_read (query_in schema table text))) None (query_fits schema table text (query_in schema table text) refl) tt

ask_fits : (schema : Schema) (o : Option QueryText) → IfSome o (FitsText schema) → IfSome (option_map ask_line o) (FitsLine schema)
ask_fits schema None fits = tt
ask_fits schema (Some (text.Query query)) fits = fits
ask_fits schema (Some (text.Refused number)) fits = tt

asked_fits : (schema : Schema) (o : Option QueryText) → IfSome o (FitsText schema) → IfSome (option_map query_line o) (FitsLine schema)
asked_fits schema None fits = tt
asked_fits schema (Some (text.Query query)) fits = fits
asked_fits schema (Some (text.Refused number)) fits = tt

latest_fits : (schema : Schema) (o : Option QueryText) → IfSome o (FitsText schema) → IfSome (option_map latest_line o) (FitsLine schema)
latest_fits schema None fits = tt
latest_fits schema (Some asked) fits = fits

hybrid_fits : (schema : Schema) (o : Option QueryText) → IfSome o (FitsText schema) → IfSome (option_map hybrid_line o) (FitsLine schema)
hybrid_fits schema None fits = tt
hybrid_fits schema (Some asked) fits = fits

word_fits : (schema : Schema) (table word text : List ℕ) → IfSome (line_by schema table word text) (FitsLine schema)
word_fits schema table word text =
    either_fits (FitsLine schema) (bytes_eq word (codes "produce")) _ _
    (events_fit schema _ (produce_fits schema text))
    (either_fits (FitsLine schema) (bytes_eq word (codes "ask")) _ _ (ask_fits schema _ (text_fits schema table text))
    (either_fits (FitsLine schema) (bytes_eq word (codes "query")) _ _ (asked_fits schema _ (text_fits schema table text))
    (either_fits (FitsLine schema) (bytes_eq word (codes "latest")) _ _ (latest_fits schema _ (text_fits schema table text))
    (either_fits (FitsLine schema) (bytes_eq word (codes "hybrid")) _ _ (hybrid_fits schema _ (text_fits schema table text))
    (either_fits (FitsLine schema) (bytes_eq word (codes "offline")) _ _ (furthers_fit schema _ (offline_fits schema text))
    (all_some (FitsLine schema) (command_of word) _ (λ command. plain_fits schema command text)))))))

from_fits : (schema : Schema) (table text : List ℕ) (o : Option (List ℕ × List ℕ)) → IfSome (line_from schema table text o) (FitsLine schema)
from_fits schema table text None = furthers_fit schema _ (bare_fits schema text)
from_fits schema table text (Some parts) = word_fits schema table parts.0 parts.1

pub line_fits : (schema : Schema) (table line : List ℕ) → IfSome (line_of schema table line) (FitsLine schema)
line_fits schema table line = from_fits schema table line (parted_at 32 line)
