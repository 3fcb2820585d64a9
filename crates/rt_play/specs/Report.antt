-- What is reported of a script: a text for each of its lines that runs, and why the run stops, where it stops.
use Rattle.std.specs.Prelude.{◌≡◌, ℕ, List, [], ◌∷◌, ◌++◌, Option, None, Some, Result, Ok, Err}
use Rattle.rt_desk.specs.Saying.{LineTold}
use Rattle.rt_desk.specs.Telling.{told}
use Rattle.rt_events.specs.declared.refusal.Refusal.{Refusal}
use Rattle.rt_events.specs.declared.refusal.Refusal.TheVariants.{NoSuchMessage, NoSuchNode, NodeDown, NothingToDo, Limit, Memory}
use Rattle.rt_lines.specs.Header.{NumberedLine}
use Rattle.rt_lines.specs.Lines.{script_lines}
use Rattle.rt_lines.specs.declared.line_reason.LineReason.TheVariants as reason
use Rattle.rt_lines.specs.declared.play_fault.PlayFault.{PlayFault}
use Rattle.rt_lines.specs.declared.play_fault.PlayFault.TheVariants as fault
use Rattle.rt_play.specs.Beginning.{beginning_of, going_from}
use Rattle.rt_play.specs.Going.{Going}
use Rattle.rt_play.specs.declared.beginning.Beginning.{Beginning}
use Rattle.rt_macros.specs.Doing.{Reached, after, reached, stays}
use Rattle.rt_safety.specs.Runs.{Turn}
use Rattle.rt_script.specs.Line.{line_in}
use Rattle.rt_script.specs.declared.line.Line.{Line}

pub record Report : Type 0 where
  pub texts : List (List ℕ)
  pub stop : Option PlayFault

-- why a refused event stops the run at its line
abbrev pub fault_at : ℕ → Refusal → PlayFault
fault_at line NoSuchMessage = fault.Refused line reason.NoSuchMessage
fault_at line NoSuchNode = fault.Refused line reason.NoSuchNode
fault_at line NodeDown = fault.Refused line reason.NodeDown
fault_at line NothingToDo = fault.Refused line reason.NothingToDo
fault_at line (Limit which) = fault.Limit which
fault_at line Memory = fault.Memory

-- what a line says runs by these turns from one world and desk to others, and this is its text
abbrev pub Runs : Option Line → Going → List Turn → Going → List ℕ → Type 0
Runs None g turns h text = ⊥
Runs (Some said) g turns h text = LineTold said g.desk g.world (reached turns h.world) (Ok (told h.desk text))

-- what a line says stops the run, for this reason; by then these turns had happened
abbrev pub Stops : ℕ → Option Line → Going → Reached → PlayFault → Type 0
Stops number None g v why = (v ≡ stays g.world) × (why ≡ fault.Refused number reason.BadLine)
Stops number (Some said) g v why = (refusal : Refusal) × LineTold said g.desk g.world v (Err refusal) × (why ≡ fault_at number refusal)

abbrev pub said_at : Going → NumberedLine → Option Line
said_at g line = line_in g.world.setup line.1

-- a line runs, and then others
pub record RunsFirst (line : NumberedLine) (later : Going → List Turn → List (List ℕ) → Type 0) (g : Going) (turns : List Turn) (texts : List (List ℕ)) : Type 0 where
  pub own : List Turn
  pub between : Going
  pub text : List ℕ
  pub more : List Turn
  pub others : List (List ℕ)
  pub first : Runs (said_at g line) g own between text
  pub then_others : later between more others
  pub taken : turns ≡ own ++ more
  pub whole : texts ≡ text ∷ others

-- these lines run, one after the other: these are their turns and their texts
abbrev pub RunAll : List NumberedLine → Going → List Turn → Going → List (List ℕ) → Type 0
RunAll [] g turns h texts = (h ≡ g) × (turns ≡ []) × (texts ≡ [])
RunAll (line ∷ lines) g turns h texts = RunsFirst line (λ x more others. RunAll lines x more h others) g turns texts

-- the run is at its end, or the next line stops it, behind these turns
abbrev pub IsStop : List NumberedLine → Going → Reached → Option PlayFault → Type 0
IsStop [] g v stop = (v ≡ stays g.world) × (stop ≡ None)
IsStop (line ∷ lines) g v stop = (why : PlayFault) × Stops line.0 (said_at g line) g v why × (stop ≡ Some why)

-- the first of these lines that run, with their turns, those that are left, and what stands between
pub record FrontRuns (lines : List NumberedLine) (g : Going) (texts : List (List ℕ)) : Type 0 where
  pub front : List NumberedLine
  pub rest : List NumberedLine
  pub turns : List Turn
  pub last : Going
  pub whole : lines ≡ front ++ rest
  pub run : RunAll front g turns last texts

-- the report of lines, from a world and a desk on
pub record IsReportFrom (lines : List NumberedLine) (g : Going) (report : Report) : Type 0 where
  pub runs : FrontRuns lines g report.texts
  pub stopped_by : Reached
  pub stops : IsStop runs.rest runs.last stopped_by report.stop

-- the turns of all lines, also of the one that stops, and the world behind them
abbrev pub end_of : {lines : List NumberedLine} {g : Going} {report : Report} → IsReportFrom lines g report → Reached
end_of is = after is.runs.turns is.stopped_by

abbrev pub stopped : PlayFault → Report
stopped why = record { texts = []; stop = Some why }

abbrev pub IsReportBehind : Result (Beginning × List NumberedLine) PlayFault → Report → Type 0
IsReportBehind (Ok x) report = IsReportFrom x.1 (going_from x.0) report
IsReportBehind (Err why) report = report ≡ stopped why

-- the report of a script
abbrev pub IsReport : List ℕ → Report → Type 0
IsReport input report = IsReportBehind (beginning_of (script_lines input)) report

-- the first lines of a report, where memory ran out behind them
abbrev pub IsFrontBehind : Result (Beginning × List NumberedLine) PlayFault → List (List ℕ) → Type 0
IsFrontBehind (Ok x) texts = FrontRuns x.1 (going_from x.0) texts
IsFrontBehind (Err why) texts = texts ≡ []

abbrev pub IsFrontOfReport : List ℕ → List (List ℕ) → Type 0
IsFrontOfReport input texts = IsFrontBehind (beginning_of (script_lines input)) texts
