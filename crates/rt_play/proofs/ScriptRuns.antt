-- The turns of a script's lines are a run of their cluster.
use Rattle.std.proofs.Common.{◌≡◌, ℕ, List, [], ◌∷◌, Option, Some, None, Ok, Err, refl, ap, sym, subst}
use Rattle.std.specs.Prelude.{IfSome}
use Rattle.rt_desk.proofs.Reaching.{leads_by}
use Rattle.rt_desk.proofs.ReachingLines.{line_pauses}
use Rattle.rt_desk.specs.Paused.{Allowed}
use Rattle.rt_desk.specs.Saying.{LineTold}
use Rattle.rt_desk.specs.Telling.{Told}
use Rattle.rt_events.specs.declared.refusal.Refusal.{Refusal}
use Rattle.rt_lines.specs.Header.{NumberedLine}
use Rattle.rt_lines.specs.Lines.{script_lines}
use Rattle.rt_lines.specs.declared.play_fault.PlayFault.{PlayFault}
use Rattle.rt_lines.proofs.Headers.{header_taken}
use Rattle.rt_macros.specs.Doing.{Reached, reached}
use Rattle.rt_play.specs.Beginning.{beginning_of, going_from}
use Rattle.rt_play.specs.Going.{Going}
use Rattle.rt_play.specs.Report.{FrontRuns, IsReportFrom, IsStop, Report, RunAll, Runs, Stops, end_of, said_at}
use Rattle.rt_play.specs.declared.beginning.Beginning.{Beginning}
use Rattle.rt_play.proofs.Beginnings.{beginning_taken}
use Rattle.rt_play.proofs.Leading.{leads_then}
use Rattle.rt_safety.specs.Runs.{Turn, Leads}
use Rattle.rt_safety.proofs.Later.{leads_on, runs_are_safe}
use Rattle.rt_safety.proofs.Runs.{leads_safe}
use Rattle.rt_script.specs.Line.{FitsLine}
use Rattle.rt_script.specs.declared.line.Line.{Line}
use Rattle.rt_script.proofs.LinesFit.{line_fits}
use Rattle.rt_state.specs.IsSafeWorld.{IsSafeWorld}
use Rattle.rt_state.specs.Start.{start}
use Rattle.std.specs.Prelude.{Result}

-- ---- a line

told_leads : (said : Line) (g : Going) (v : Reached) (r : Result Told Refusal) → FitsLine g.world.setup.schema said → LineTold said g.desk g.world v r
    → Leads g.world v.turns v.world
told_leads said g v r fits told = leads_by (Allowed g.desk.pause) v.turns g.world v.world (line_pauses said g.desk g.world fits v r told)

said_leads : (o : Option Line) (g : Going) (turns : List Turn) (h : Going) (text : List ℕ) → IfSome o (FitsLine g.world.setup.schema) → Runs o g turns h text
    → Leads g.world turns h.world
said_leads None g turns h text fits run = absurd run
said_leads (Some said) g turns h text fits run = told_leads said g (reached turns h.world) _ fits run

pub line_leads : (line : NumberedLine) (g : Going) (turns : List Turn) (h : Going) (text : List ℕ) → Runs (said_at g line) g turns h text → Leads g.world turns h.world
line_leads line g turns h text run =
    said_leads (said_at g line) g turns h text (line_fits g.world.setup.schema g.world.setup.table.name line.1) run

said_stops : (number : ℕ) (o : Option Line) (g : Going) (v : Reached) (why : PlayFault) → IfSome o (FitsLine g.world.setup.schema) → Stops number o g v why
    → Leads g.world v.turns v.world
said_stops number None g v why fits (same, is) = subst (λ (x : Reached). Leads g.world x.turns x.world) (sym same) refl
said_stops number (Some said) g v why fits (refusal, told, is) = told_leads said g v (Err refusal) fits told

stop_leads : (lines : List NumberedLine) (g : Going) (v : Reached) (stop : Option PlayFault) → IsStop lines g v stop → Leads g.world v.turns v.world
stop_leads [] g v stop (same, is) = subst (λ (x : Reached). Leads g.world x.turns x.world) (sym same) refl
stop_leads (line ∷ lines) g v stop (why, stops, is) =
    said_stops line.0 (said_at g line) g v why (line_fits g.world.setup.schema g.world.setup.table.name line.1) stops

-- what a line keeps: the world is safe, and of the same cluster
pub line_keeps : (line : NumberedLine) (g : Going) (turns : List Turn) (h : Going) (text : List ℕ) → IsSafeWorld g.world → Runs (said_at g line) g turns h text
    → IsSafeWorld h.world × (h.world.setup ≡ g.world.setup)
line_keeps line g turns h text safe run =
    let led = line_leads line g turns h text run in
    (leads_safe g.world turns h.world safe led, (leads_on g.world turns h.world safe led).setup)

-- ---- all lines

pub lines_lead : (lines : List NumberedLine) (g : Going) (turns : List Turn) (h : Going) (texts : List (List ℕ)) → RunAll lines g turns h texts
    → Leads g.world turns h.world
lines_lead [] g turns h texts run = subst (λ ts. Leads g.world ts h.world) (sym run.1) (ap (λ (x : Going). x.world) run.0)
lines_lead (first ∷ lines) g turns h texts run =
    subst (λ ts. Leads g.world ts h.world) (sym run.taken)
    (leads_then run.own run.more g.world run.between.world h.world (line_leads first g run.own run.between run.text run.first)
    (lines_lead lines run.between run.more h run.others run.then_others))

pub front_leads : (input : List ℕ) (beginning : Beginning) (lines : List NumberedLine) (texts : List (List ℕ)) (front : FrontRuns lines (going_from beginning) texts)
    → beginning_of (script_lines input) ≡ Ok (beginning, lines) → Leads (start beginning.setup) front.turns front.last.world × IsSafeWorld front.last.world
front_leads input beginning lines texts front e =
    let led = lines_lead front.front (going_from beginning) front.turns front.last texts front.run in
    (led, runs_are_safe beginning.setup front.turns front.last.world (header_taken (script_lines input) beginning.setup lines (beginning_taken (script_lines input) beginning lines e)) led)

pub report_leads : (beginning : Beginning) (lines : List NumberedLine) (report : Report) (is : IsReportFrom lines (going_from beginning) report)
    → Leads (start beginning.setup) (end_of is).turns (end_of is).world
report_leads beginning lines report is =
    leads_then is.runs.turns is.stopped_by.turns (start beginning.setup) is.runs.last.world is.stopped_by.world
    (lines_lead is.runs.front (going_from beginning) is.runs.turns is.runs.last report.texts is.runs.run)
    (stop_leads is.runs.rest is.runs.last is.stopped_by report.stop is.stops)
