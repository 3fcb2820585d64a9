-- The lines that are read as rows and queries are those that spell them.
use Rattle.std.proofs.Common.{◌≡◌, ℕ, Bool, true, false, if◌then◌else◌, List, ◌∷◌, ◌++◌, length, Option, Some, None, Result, Ok, Err, refl, sym, ap, subst, ◌∙◌, arith}
use Rattle.std.specs.Prelude.{codes, nat_le, nat_lt}
use Rattle.std.specs.Str.{is_utf8}
use Rattle.std.proofs.lemmas.Bool.{leb-true, leb-false, ltb-true, ltb-false}
use Rattle.rt_base.specs.declared.which.Which.TheVariants.{Message}
use Rattle.rt_grammar.specs.declared.sql_refused.SqlRefused.{SqlRefused}
use Rattle.rt_ground.specs.declared.appended.Appended.{Appended}
use Rattle.rt_lines.specs.Header.{NumberedLine, if_well_formed}
use Rattle.rt_lines.specs.Words.{after_prefix, number_up_to, parted_at, then_some}
use Rattle.rt_lines.specs.declared.line_reason.LineReason.TheVariants as reason
use Rattle.rt_lines.specs.declared.play_fault.PlayFault.{PlayFault}
use Rattle.rt_lines.specs.declared.play_fault.PlayFault.TheVariants.{Limit, Refused}
use Rattle.rt_lines.proofs.PartsOfLines.{numeral_lacks, parted_read, parted_said, prefix_read, prefix_said, same_some, then_found}
use Rattle.rt_live_input.proofs.Chaoses.{bounded_spells, spelled_bounded}
use Rattle.rt_live_input.specs.Entries.{asked_at, entry_at, entry_by, placed_row, row_of, row_parts}
use Rattle.rt_live_input.specs.Input.{GivesQuery, GivesRow, Refuses}
use Rattle.rt_live_input.specs.Lines.{IsQueryLine, IsRowLine}
use Rattle.rt_live_input.specs.declared.entry.Entry.{Entry}
use Rattle.rt_live_input.specs.declared.entry.Entry.TheVariants as entry
use Rattle.rt_model.specs.declared.query.Query.{Query}
use Rattle.rt_model.specs.declared.setup.Setup.{Setup}
use Rattle.rt_script.specs.QueryTexts.{text_read}
use Rattle.rt_script.specs.declared.query_text.QueryText.{QueryText}
use Rattle.rt_script.specs.declared.query_text.QueryText.TheVariants as text
use Rattle.rt_sql.specs.Parsing.{query_of as query_in}

abbrev paired : ℕ → List ℕ → ℕ × List ℕ
paired number text = (number, text)

-- what a row line says
pub row_said : (line behind : List ℕ) (parts : ℕ × List ℕ) → after_prefix (codes "row ") line ≡ Some behind → row_parts behind ≡ Some parts → IsRowLine line (row_of parts.0 parts.1)
row_said line behind parts begins e =
    let (words, apart, counted) = then_found (parted_at 32 behind) (λ words. then_some (number_up_to 4294967294 words.0) (λ p. Some (paired p words.1))) parts e in
    let (number, read, same) = then_found (number_up_to 4294967294 words.0) (λ p. Some (paired p words.1)) parts counted in
    let spelled = bounded_spells 4294967294 words.0 number (omega arith) read in
    let made : IsRowLine line (row_of number words.1) =
    record {
      partition = words.0;
      whole = prefix_said (codes "row ") line behind begins ∙ ap (λ xs. codes "row " ++ xs) (parted_said 32 behind words apart);
      says = spelled.0;
      last = spelled.1;
    } in
    subst (λ (x : ℕ × List ℕ). IsRowLine line (row_of x.0 x.1)) (same_some (paired number words.1) parts same) made

abbrev parts_in : List ℕ → Option (ℕ × List ℕ)
parts_in line = then_some (after_prefix (codes "row ") line) row_parts

row_read : (line : List ℕ) (row : Appended) → IsRowLine line row → parts_in line ≡ Some (paired row.partition.0 row.message)
row_read line row k =
    let behind = k.partition ++ 32 ∷ row.message in
    ap parts_in k.whole
    ∙ ap (λ o. then_some o row_parts) (prefix_read (codes "row ") behind)
    ∙ ap (λ o. then_some o (λ words. then_some (number_up_to 4294967294 words.0) (λ p. Some (paired p words.1)))) (parted_read 32 k.partition row.message (numeral_lacks 32 k.partition refl k.says.numeral))
    ∙ ap (λ o. then_some o (λ p. Some (paired p row.message))) (spelled_bounded 4294967294 k.partition row.partition.0 k.says k.last)

-- a line that doesn't begin so is none of that kind
no_row_begins : (line : List ℕ) → after_prefix (codes "row ") line ≡ None → (row : Appended) → IsRowLine line row → ⊥
no_row_begins line e row k =
    let read : None ≡ Some (paired row.partition.0 row.message) = sym (ap (λ o. then_some o row_parts) e) ∙ row_read line row k in
    cc

no_row_parts : (line behind : List ℕ) → after_prefix (codes "row ") line ≡ Some behind → row_parts behind ≡ None → (row : Appended) → IsRowLine line row → ⊥
no_row_parts line behind begins e row k =
    let read : None ≡ Some (paired row.partition.0 row.message) = sym e ∙ sym (ap (λ o. then_some o row_parts) begins) ∙ row_read line row k in
    cc

query_begins : (line asked : List ℕ) → IsQueryLine line asked → after_prefix (codes "query ") line ≡ Some asked
query_begins line asked k = ap (after_prefix (codes "query ")) k.whole ∙ prefix_read (codes "query ") asked

no_query_begins : (line : List ℕ) → after_prefix (codes "query ") line ≡ None → (asked : List ℕ) → IsQueryLine line asked → ⊥
no_query_begins line e asked k = let read : None ≡ Some asked = sym e ∙ query_begins line asked k in cc

row_is_no_query : (line behind : List ℕ) → after_prefix (codes "row ") line ≡ Some behind → (asked : List ℕ) → IsQueryLine line asked → ⊥
row_is_no_query line behind e asked k =
    let read : None ≡ Some behind = ap (after_prefix (codes "row ")) (sym k.whole) ∙ e in
    cc

no_text : (line behind : List ℕ) → after_prefix (codes "query ") line ≡ Some behind → is_utf8 behind ≡ false → (asked : List ℕ) → IsQueryLine line asked → ⊥
no_text line behind begins bad_bytes asked k =
    let same : asked ≡ behind = same_some asked behind (sym (query_begins line asked k) ∙ begins) in
    let clash : true ≡ false = sym k.utf8 ∙ ap is_utf8 same ∙ bad_bytes in
    cc

-- what an entry is of its line
abbrev pub IsEntry : Setup → List ℕ → Entry → Type 0
IsEntry setup line (entry.Row row) = GivesRow setup line row
IsEntry setup line (entry.Query query) = GivesQuery setup line query

-- what a line gives, or why it is refused
abbrev pub Reads : Setup → NumberedLine → Result Entry PlayFault → Type 0
Reads setup line (Ok found) = IsEntry setup line.1 found
Reads setup line (Err fault) = Refuses setup line fault

placed_reads : (setup : Setup) (line : NumberedLine) (parts : ℕ × List ℕ) (there short : Bool) → IsRowLine line.1 (row_of parts.0 parts.1)
    → nat_lt parts.0 setup.partitions ≡ there → nat_le (length parts.1) 65536 ≡ short
    → Reads setup line (if there then (if short then Ok (entry.Row (row_of parts.0 parts.1)) else Err (Limit Message)) else Err (Refused line.0 reason.NoSuchNode))
placed_reads setup line parts true true k there short = record { is = k; partition = ltb-true _ _ there; short = leb-true _ _ short }
placed_reads setup line parts true false k there short =
    (refl, record { row = row_of parts.0 parts.1; is = k; partition = ltb-true _ _ there; long = leb-false _ _ short })
placed_reads setup line parts false short k there long = (refl, record { row = row_of parts.0 parts.1; is = k; astray = ltb-false _ _ there })

row_reads : (setup : Setup) (line : NumberedLine) (behind : List ℕ) (parts : Option (ℕ × List ℕ)) → after_prefix (codes "row ") line.1 ≡ Some behind → row_parts behind ≡ parts
    → Reads setup line (if_well_formed line.0 parts (placed_row setup.partitions line.0))
row_reads setup line behind (Some parts) begins e =
    placed_reads setup line parts (nat_lt parts.0 setup.partitions) (nat_le (length parts.1) 65536) (row_said line.1 behind parts begins e) refl refl
row_reads setup line behind None begins e = (refl, record { no_row = no_row_parts line.1 behind begins e; no_query = row_is_no_query line.1 behind begins })

is_query_line : (line behind : List ℕ) → after_prefix (codes "query ") line ≡ Some behind → is_utf8 behind ≡ true → IsQueryLine line behind
is_query_line line behind begins utf8 = record { whole = prefix_said (codes "query ") line behind begins; utf8 = utf8 }

asked_reads : (setup : Setup) (line : NumberedLine) (behind : List ℕ) (answer : Result Query SqlRefused) → IsQueryLine line.1 behind → query_in setup.schema setup.table.name behind ≡ answer
    → Reads setup line (asked_at line.0 (text_read answer))
asked_reads setup line behind (Ok query) k e = record { text = behind; is = k; read = e }
asked_reads setup line behind (Err why) k e = (refl, record { text = behind; is = k; why = why; refused = e; number_is = refl })

query_reads : (setup : Setup) (line : NumberedLine) (behind : List ℕ) (utf8 : Bool) → after_prefix (codes "row ") line.1 ≡ None → after_prefix (codes "query ") line.1 ≡ Some behind → is_utf8 behind ≡ utf8
    → Reads setup line (if_well_formed line.0 (if utf8 then Some (text_read (query_in setup.schema setup.table.name behind)) else None) (asked_at line.0))
query_reads setup line behind true other begins utf8 = asked_reads setup line behind (query_in setup.schema setup.table.name behind) (is_query_line line.1 behind begins utf8) refl
query_reads setup line behind false other begins utf8 = (refl, record { no_row = no_row_begins line.1 other; no_query = no_text line.1 behind begins utf8 })

by_reads : (setup : Setup) (line : NumberedLine) (row query : Option (List ℕ)) → after_prefix (codes "row ") line.1 ≡ row → after_prefix (codes "query ") line.1 ≡ query
    → Reads setup line (entry_by setup line.0 row query)
by_reads setup line (Some behind) query begins e = row_reads setup line behind (row_parts behind) begins refl
by_reads setup line None (Some behind) other begins = query_reads setup line behind (is_utf8 behind) other begins refl
by_reads setup line None None other none = (refl, record { no_row = no_row_begins line.1 other; no_query = no_query_begins line.1 none })

pub entry_reads : (setup : Setup) (line : NumberedLine) → Reads setup line (entry_at setup line)
entry_reads setup line = by_reads setup line (after_prefix (codes "row ") line.1) (after_prefix (codes "query ") line.1) refl refl
