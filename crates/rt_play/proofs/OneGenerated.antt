-- A generated run has one report.
use Rattle.std.proofs.Common.{◌≡◌, ℕ, zero, suc, ◌+◌, ◌%◌, Bool, true, false, List, [], ◌∷◌, ◌++◌, Option, Some, None, Result, Ok, Err, if◌then◌else◌, nat_le, ◌&&◌, refl, sym, ◌∙◌, ap, subst}
use Rattle.std.specs.Prelude.{IfOk, IfSome}
use Rattle.std.proofs.lemmas.Option.{none-some, same_Some}
use Rattle.rt_base.specs.declared.limits.TheConstants.{MOST_PARTITIONS, MOST_ROWS}
use Rattle.rt_base.specs.declared.which.Which.TheVariants.{Partitions, Rows}
use Rattle.rt_events.specs.declared.event.Event.TheVariants as event
use Rattle.rt_events.specs.declared.refusal.Refusal.{Refusal}
use Rattle.rt_events.specs.declared.refusal.Refusal.TheVariants.{NothingToDo}
use Rattle.rt_exact.specs.Acts.{AreOne}
use Rattle.rt_exact.specs.Alike.{AreAlike}
use Rattle.rt_exact.specs.Shown.{shown}
use Rattle.rt_exact.proofs.Acts.{each_from_one, gives_one, passed_one, refuses_one, then_one}
use Rattle.rt_exact.proofs.Macros.{query_one}
use Rattle.rt_exact.proofs.Settles.{settles_one}
use Rattle.rt_lines.specs.Header.{NumberedLine, header_of}
use Rattle.rt_lines.specs.Lines.{script_lines}
use Rattle.rt_lines.specs.declared.play_fault.PlayFault.{PlayFault}
use Rattle.rt_lines.specs.declared.play_fault.PlayFault.TheVariants.{Limit}
use Rattle.rt_lines.proofs.Headers.{header_taken}
use Rattle.rt_macros.specs.Doing.{Gives, Passed, Then}
use Rattle.rt_macros.specs.Settling.{Settles}
use Rattle.rt_macros.specs.declared.settling.TheConstants.{MOST_ROUNDS}
use Rattle.rt_made.proofs.Headers.{header_named}
use Rattle.rt_made.specs.Named.{HasTextNames}
use Rattle.rt_model.specs.Checked.{IsQuery}
use Rattle.rt_model.specs.Setup.{IsSetup}
use Rattle.rt_model.specs.declared.query.Query.{Query}
use Rattle.rt_model.specs.declared.setup.Setup.{Setup}
use Rattle.rt_play.specs.Generating.{Asks, AsksQuery, IsGenerated, IsGeneratedBy, IsGeneratedFrom, ProducesRow, ProducesRows, RunsGenerated, end_texts, generated_query, generated_setup, header_text, next_number, query_said, report_by, row_text, setup_read}
use Rattle.rt_play.specs.Report.{Report}
use Rattle.rt_play.specs.declared.generating.Generated.{Generated}
use Rattle.rt_report.specs.MacroTexts.{end_text}
use Rattle.rt_schema.specs.declared.schema.Schema.{Schema}
use Rattle.rt_script.specs.Line.{FitsLine, line_in}
use Rattle.rt_script.specs.declared.line.Line.{Line}
use Rattle.rt_script.specs.declared.line.Line.TheVariants as line
use Rattle.rt_script.specs.declared.line.Macro.TheVariants as macro
use Rattle.rt_script.proofs.LinesFit.{line_fits}
use Rattle.rt_world.specs.Reading.{end_in}
use Rattle.rt_state.specs.Start.{start}
use Rattle.rt_state.specs.declared.state.State.{State}
use Rattle.rt_world.proofs.StartSafe.{start_safe}

-- ---- the rows

row_one : (partitions at x : ℕ) (w v : State) → AreAlike w v → AreOne (ProducesRow partitions at x w) (ProducesRow partitions at x v)
row_one partitions at x w v k =
    let comes = event.Produce (record { 0 = at % partitions }) (row_text (next_number x)) in
    then_one (Passed comes) (Passed comes) (λ done. Gives (next_number x)) (λ done. Gives (next_number x)) w v
    (passed_one comes w v k tt) (λ done u t l. gives_one (next_number x) (next_number x) u t l refl)

rows_one : (asked : Generated) (w v : State) → AreAlike w v → AreOne (ProducesRows asked w) (ProducesRows asked v)
rows_one asked w v k =
    each_from_one (ProducesRow asked.partitions) (ProducesRow asked.partitions) 0 asked.rows asked.rows asked.seed w v k refl
    (λ at x u t l. row_one asked.partitions at x u t l)

-- ---- the query

-- a query that a line says is one of the table
pub said_fits : (schema : Schema) (o : Option Line) (query : Query) → IfSome o (FitsLine schema) → query_said o ≡ Some query → IsQuery schema query
said_fits schema None query fits e = absurd (none-some query e)
said_fits schema (Some (line.Macro (macro.Query other))) query fits e = subst (IsQuery schema) (same_Some other query e) fits
said_fits schema (Some (line.Macro (macro.Fill p n))) query fits e = absurd (none-some query e)
said_fits schema (Some (line.Macro (macro.Exchange i p q c))) query fits e = absurd (none-some query e)
said_fits schema (Some (line.Macro (macro.Settle rounds))) query fits e = absurd (none-some query e)
said_fits schema (Some (line.Event happens)) query fits e = absurd (none-some query e)
said_fits schema (Some (line.NoQuery number)) query fits e = absurd (none-some query e)
said_fits schema (Some (line.Further said)) query fits e = absurd (none-some query e)

asks_by : (o : Option Query) (w v : State) → AreAlike w v → ((query : Query) → o ≡ Some query → IsQuery w.setup.schema query) → AreOne (AsksQuery o w) (AsksQuery o v)
asks_by None w v k fits = refuses_one NothingToDo w v k
asks_by (Some query) w v k fits = query_one query w v k (fits query refl)

asks_at : (text : List ℕ) (w v : State) → AreAlike w v
    → AreOne (AsksQuery (query_said (line_in w.setup text)) w) (AsksQuery (query_said (line_in v.setup text)) v)
asks_at text w v k x y r s h g =
    let said : State → Option Query = λ u. query_said (line_in u.setup text) in
    asks_by (said w) w v k
    (λ query e. said_fits w.setup.schema (line_in w.setup text) query (line_fits w.setup.schema w.setup.table.name text) e) x y r s h
    (subst (λ o. AsksQuery o v y s) (sym (ap said k.same)) g)

asks_one : (w v : State) → AreAlike w v → AreOne (Asks w) (Asks v)
asks_one w v k = asks_at generated_query w v k

-- ---- the run

runs_in : (rounds : ℕ) (asked : Generated) (w v : State) → AreAlike w v
    → AreOne (Then (ProducesRows asked) (λ x. Then (Settles false rounds) (λ quiet. Asks)) w)
    (Then (ProducesRows asked) (λ x. Then (Settles false rounds) (λ quiet. Asks)) v)
runs_in rounds asked w v k =
    then_one (ProducesRows asked) (ProducesRows asked) (λ x. Then (Settles false rounds) (λ quiet. Asks))
    (λ x. Then (Settles false rounds) (λ quiet. Asks)) w v (rows_one asked w v k)
    (λ x u t l.
    then_one (Settles false rounds) (Settles false rounds) (λ quiet. Asks) (λ quiet. Asks) u t (settles_one false rounds u t l)
    (λ quiet a b m. asks_one a b m))

run_one : (asked : Generated) (w v : State) → AreAlike w v → AreOne (RunsGenerated asked w) (RunsGenerated asked v)
run_one asked w v k = runs_in MOST_ROUNDS asked w v k

-- ---- its cluster

abbrev HeaderRead : Type 0
HeaderRead = Result (Setup × List NumberedLine) PlayFault

-- what a setup has that a header says, that of a generated run has
module _ (P : Setup → Type 0) where
  read_has : (r : HeaderRead) → ((setup : Setup) (lines : List NumberedLine) → r ≡ Ok (setup, lines) → P setup) → IfOk (setup_read r) P
  read_has (Ok (setup, lines)) has = has setup lines refl
  read_has (Err why) has = tt

  within_has : (few short : Bool) (r : HeaderRead) → IfOk (setup_read r) P
      → IfOk (if few then (if short then setup_read r else Err (Limit Rows)) else Err (Limit Partitions)) P
  within_has true true r has = has
  within_has true false r has = tt
  within_has false short r has = tt

  generated_has : (asked : Generated) → ((setup : Setup) (lines : List NumberedLine) → header_of (script_lines (header_text asked.partitions)) ≡ Ok (setup, lines) → P setup)
      → IfOk (generated_setup asked) P
  generated_has asked has =
      let read = header_of (script_lines (header_text asked.partitions)) in
      within_has (nat_le 1 asked.partitions && nat_le asked.partitions MOST_PARTITIONS) (nat_le asked.rows MOST_ROWS) read (read_has read has)

pub setup_has : (asked : Generated) → IfOk (generated_setup asked) IsSetup
setup_has asked = generated_has IsSetup asked (header_taken (script_lines (header_text asked.partitions)))

pub setup_named : (asked : Generated) → IfOk (generated_setup asked) (λ setup. HasTextNames setup.schema)
setup_named asked = generated_has (λ setup. HasTextNames setup.schema) asked (header_named (script_lines (header_text asked.partitions)))

-- ---- its report

texts_shown : (w : State) (count at : ℕ) → end_texts w at count ≡ end_texts (shown w) at count
texts_shown w zero at = refl
texts_shown w (suc count) at = λ i. end_text (record { 0 = at }) (end_in w (record { 0 = at })) ∷ texts_shown w count (at + 1) i

report_shown : (partitions : ℕ) (w : State) (told : Result (List ℕ) Refusal) → report_by partitions w told ≡ report_by partitions (shown w) told
report_shown partitions w (Ok answer) = λ i. record { texts = texts_shown w partitions 0 i ++ answer ∷ []; stop = None }
report_shown partitions w (Err refusal) = refl

from_setup : (asked : Generated) (setup : Setup) → IsSetup setup → (a b : Report) → IsGeneratedFrom asked setup a → IsGeneratedFrom asked setup b → a ≡ b
from_setup asked setup is a b h g =
    let safe = start_safe setup is in
    let z = run_one asked (start setup) (start setup) (record { left = safe; right = safe; same = refl }) h.last g.last h.told g.told h.run g.run in
    h.same ∙ report_shown asked.partitions h.last.world h.told ∙ ap (λ u. report_by asked.partitions u h.told) z.1.worlds.same
    ∙ sym (report_shown asked.partitions g.last.world h.told) ∙ ap (λ t. report_by asked.partitions g.last.world t) z.0 ∙ sym g.same

by_setup : (asked : Generated) (s : Result Setup PlayFault) → IfOk s IsSetup → (a b : Report) → IsGeneratedBy asked s a → IsGeneratedBy asked s b → a ≡ b
by_setup asked (Ok setup) has a b p q = from_setup asked setup has a b p q
by_setup asked (Err why) has a b p q = p ∙ sym q

pub generated_one : (asked : Generated) (a b : Report) → IsGenerated asked a → IsGenerated asked b → a ≡ b
generated_one asked a b p q = by_setup asked (generated_setup asked) (setup_has asked) a b p q
