-- What is read of a report.
use Rattle.std.proofs.Common.{◌≡◌, ℕ, List, [], ◌∷◌, ◌++◌, map, Option, Some, None, Result, Ok, Err, refl, sym, ◌∙◌, ap, subst}
use Rattle.std.specs.Prelude.{IfSome}
use Rattle.std.proofs.lemmas.Option.{none-some}
use Rattle.rt_lines.proofs.Headers.{header_taken}
use Rattle.rt_lines.specs.Header.{NumberedLine, header_of}
use Rattle.rt_lines.specs.Lines.{script_lines}
use Rattle.rt_lines.specs.declared.play_fault.PlayFault.{PlayFault}
use Rattle.rt_macros.specs.Doing.{reached}
use Rattle.rt_model.specs.Setup.{IsSetup}
use Rattle.rt_model.specs.declared.query.Query.{Query}
use Rattle.rt_model.specs.declared.setup.Setup.{Setup}
use Rattle.rt_play.proofs.Beginnings.{beginning_taken}
use Rattle.rt_play.proofs.Commits.{front_commits, none_told}
use Rattle.rt_play.proofs.LineAnswers.{AnswersHere, answers_so, asked_behind, produced_behind}
use Rattle.rt_play.proofs.LineReads.{line_reads}
use Rattle.rt_play.proofs.ScriptRuns.{line_keeps}
use Rattle.rt_play.specs.Beginning.{beginning_of, going_from}
use Rattle.rt_play.specs.Going.{Going}
use Rattle.rt_play.specs.Ledger.{CommitsStay}
use Rattle.rt_play.specs.Reader.{AllAnswerSo, AnswersCount}
use Rattle.rt_play.specs.Report.{FrontRuns, IsFrontBehind, IsFrontOfReport, IsReport, IsReportBehind, Report, RunAll, Runs}
use Rattle.rt_play.proofs.ShownStays.{front_stays, none_shown}
use Rattle.rt_play.specs.Shown.{EndedStays}
use Rattle.rt_play.specs.declared.beginning.Beginning.{Beginning}
use Rattle.rt_safety.specs.Produced.{AreAsked}
use Rattle.rt_safety.specs.Runs.{Turn}
use Rattle.rt_script.proofs.LinesFit.{line_fits}
use Rattle.rt_script.specs.Line.{FitsLine, line_in}
use Rattle.rt_script.specs.declared.line.Line.{Line}
use Rattle.rt_state.specs.IsSafeWorld.{IsSafeWorld}
use Rattle.rt_state.specs.Start.{start}
use Rattle.rt_state.specs.declared.state.State.{State}
use Rattle.rt_stream.specs.Log.{Log}
use Rattle.rt_world.proofs.StartSafe.{start_safe}

-- what is read of a line that may be none
record SaidReads (o : Option Line) (w v : State) (text : List ℕ) : Type 0 where
  log : v.log ≡ produced_behind o w.log
  queries : (queries : List Query) → AreAsked w queries → AreAsked v (asked_behind o queries)
  answers : (queries : List Query) → AreAsked w queries → AnswersHere w.setup.schema o text w.log queries

said_reads : (o : Option Line) (g : Going) (turns : List Turn) (h : Going) (text : List ℕ) → IsSafeWorld g.world → IfSome o (FitsLine g.world.setup.schema) → Runs o g turns h text
    → SaidReads o g.world h.world text
said_reads None g turns h text safe fits run = absurd run
said_reads (Some said) g turns h text safe fits run =
    let reads = line_reads said g.desk h.desk g.world (reached turns h.world) text safe fits run in
    record { log = reads.log; queries = reads.queries; answers = reads.answers }

abbrev said_in : Setup → NumberedLine → Option Line
said_in setup line = line_in setup line.1

-- the lines that ran, and those behind them
lines_read : (lines rest : List NumberedLine) (g : Going) (turns : List Turn) (h : Going) (texts : List (List ℕ)) (queries : List Query) → IsSafeWorld g.world
    → AreAsked g.world queries → RunAll lines g turns h texts
    → AllAnswerSo g.world.setup.schema (map (said_in g.world.setup) (lines ++ rest)) texts g.world.log queries
lines_read [] rest g turns h texts queries safe k run =
    subst (λ (ts : List (List ℕ)). AllAnswerSo g.world.setup.schema (map (said_in g.world.setup) rest) ts g.world.log queries) (sym run.2) tt
lines_read (line ∷ lines) rest g turns h texts queries safe k run =
    let setup = g.world.setup in
    let said = line_in setup line.1 in
    let reads = said_reads said g run.own run.between run.text safe (line_fits setup.schema setup.table.name line.1) run.first in
    let keeps = line_keeps line g run.own run.between run.text safe run.first in
    let others = lines_read lines rest run.between run.more h run.others (asked_behind said queries) keeps.0 (reads.queries queries k) run.then_others in
    let Rest : Setup → List (List ℕ) → Log → List Query → Type 0 = λ s. AllAnswerSo s.schema (map (said_in s) (lines ++ rest)) in
    subst (λ (ts : List (List ℕ)). AllAnswerSo setup.schema (said ∷ map (said_in setup) (lines ++ rest)) ts g.world.log queries) (sym run.whole)
    (answers_so setup.schema said run.text g.world.log queries (λ more asked. Rest setup run.others more asked) (reads.answers queries k)
    (subst (λ (s : Setup). Rest s run.others (produced_behind said g.world.log) (asked_behind said queries)) keeps.1
    (subst (λ (l : Log). Rest run.between.world.setup run.others l (asked_behind said queries)) reads.log others)))

none_asked : (setup : Setup) → AreAsked (start setup) []
none_asked setup = record { count = refl; same = λ q a at. absurd (none-some (Some a) at) }

front_reads : (beginning : Beginning) (lines : List NumberedLine) (texts : List (List ℕ)) → IsSetup beginning.setup
    → FrontRuns lines (going_from beginning) texts → AnswersCount beginning.setup lines texts
front_reads beginning lines texts is front =
    subst (λ ls. AnswersCount beginning.setup ls texts) (sym front.whole)
    (lines_read front.front front.rest (going_from beginning) front.turns front.last texts [] (start_safe beginning.setup is) (none_asked beginning.setup) front.run)

front_shows : (beginning : Beginning) (lines : List NumberedLine) (texts : List (List ℕ)) → IsSetup beginning.setup
    → FrontRuns lines (going_from beginning) texts → EndedStays beginning.setup lines texts
front_shows beginning lines texts is front = front_stays beginning lines texts (start_safe beginning.setup is) front

no_text : (setup : Setup) (lines : List NumberedLine) (texts : List (List ℕ)) → texts ≡ [] → AnswersCount setup lines texts
no_text setup lines texts e = subst (AnswersCount setup lines) (sym e) tt

abbrev Read : Type 0
Read = Result (Beginning × List NumberedLine) PlayFault

abbrev read : Setup × List NumberedLine → Result (Setup × List NumberedLine) PlayFault
read x = Ok x

abbrev header : Setup → List NumberedLine → Result (Setup × List NumberedLine) PlayFault
header setup lines = Ok (setup, lines)

same_header : (x y : Setup × List NumberedLine) → read x ≡ read y → x ≡ y
same_header x y f = cc

same_setup : (a b : Setup) (xs ys : List NumberedLine) → header a xs ≡ header b ys → a ≡ b
same_setup a b xs ys f = ap (λ (z : Setup × List NumberedLine). z.0) (same_header (a, xs) (b, ys) f)

same_rest : (a b : Setup) (xs ys : List NumberedLine) → header a xs ≡ header b ys → xs ≡ ys
same_rest a b xs ys f = ap (λ (z : Setup × List NumberedLine). z.1) (same_header (a, xs) (b, ys) f)

-- what is read of each front that ran behind a header, and of no text, is read of each report and of each front of one
module _ (Law : Setup → List NumberedLine → List (List ℕ) → Type 0)
    (reads : (beginning : Beginning) (lines : List NumberedLine) (texts : List (List ℕ)) → IsSetup beginning.setup → FrontRuns lines (going_from beginning) texts
    → Law beginning.setup lines texts) (none : (setup : Setup) (lines : List NumberedLine) (texts : List (List ℕ)) → texts ≡ [] → Law setup lines texts)
    (input : List ℕ) (setup : Setup) (lines : List NumberedLine) (e : header_of (script_lines input) ≡ Ok (setup, lines)) where
  taken_reads : (x : Beginning × List NumberedLine) (texts : List (List ℕ)) → beginning_of (script_lines input) ≡ Ok x → FrontRuns x.1 (going_from x.0) texts
      → Law setup lines texts
  taken_reads x texts b front =
      let begun = beginning_taken (script_lines input) x.0 x.1 b in
      let one : header x.0.setup x.1 ≡ header setup lines = sym begun ∙ e in
      subst (λ (s : Setup). Law s lines texts) (same_setup x.0.setup setup x.1 lines one)
      (subst (λ ls. Law x.0.setup ls texts) (same_rest x.0.setup setup x.1 lines one)
      (reads x.0 x.1 texts (header_taken (script_lines input) x.0.setup x.1 begun) front))

  report_by : (read : Read) (report : Report) → beginning_of (script_lines input) ≡ read → IsReportBehind read report → Law setup lines report.texts
  report_by (Ok x) report b is = taken_reads x report.texts b is.runs
  report_by (Err why) report b is = none setup lines report.texts (ap (λ (r : Report). r.texts) is)

  front_by : (read : Read) (texts : List (List ℕ)) → beginning_of (script_lines input) ≡ read → IsFrontBehind read texts → Law setup lines texts
  front_by (Ok x) texts b front = taken_reads x texts b front
  front_by (Err why) texts b h = none setup lines texts h

pub report_reads : (input : List ℕ) (report : Report) (setup : Setup) (lines : List NumberedLine) → IsReport input report → header_of (script_lines input) ≡ Ok (setup, lines)
    → AnswersCount setup lines report.texts
report_reads input report setup lines is e = report_by AnswersCount front_reads no_text input setup lines e (beginning_of (script_lines input)) report refl is

pub front_of_report_reads : (input : List ℕ) (texts : List (List ℕ)) (setup : Setup) (lines : List NumberedLine) → IsFrontOfReport input texts
    → header_of (script_lines input) ≡ Ok (setup, lines) → AnswersCount setup lines texts
front_of_report_reads input texts setup lines is e = front_by AnswersCount front_reads no_text input setup lines e (beginning_of (script_lines input)) texts refl is

pub report_stays : (input : List ℕ) (report : Report) (setup : Setup) (lines : List NumberedLine) → IsReport input report → header_of (script_lines input) ≡ Ok (setup, lines)
    → EndedStays setup lines report.texts
report_stays input report setup lines is e = report_by EndedStays front_shows none_shown input setup lines e (beginning_of (script_lines input)) report refl is

pub front_of_report_stays : (input : List ℕ) (texts : List (List ℕ)) (setup : Setup) (lines : List NumberedLine) → IsFrontOfReport input texts
    → header_of (script_lines input) ≡ Ok (setup, lines) → EndedStays setup lines texts
front_of_report_stays input texts setup lines is e = front_by EndedStays front_shows none_shown input setup lines e (beginning_of (script_lines input)) texts refl is

pub report_commits : (input : List ℕ) (report : Report) (setup : Setup) (lines : List NumberedLine) → IsReport input report → header_of (script_lines input) ≡ Ok (setup, lines)
    → CommitsStay setup lines report.texts
report_commits input report setup lines is e = report_by CommitsStay front_commits none_told input setup lines e (beginning_of (script_lines input)) report refl is

pub front_of_report_commits : (input : List ℕ) (texts : List (List ℕ)) (setup : Setup) (lines : List NumberedLine) → IsFrontOfReport input texts
    → header_of (script_lines input) ≡ Ok (setup, lines) → CommitsStay setup lines texts
front_of_report_commits input texts setup lines is e =
    front_by CommitsStay front_commits none_told input setup lines e (beginning_of (script_lines input)) texts refl is
