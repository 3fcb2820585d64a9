-- Every report comes with the run of its lines, in which every world is right.
use Rattle.std.proofs.Common.{◌≡◌, inl, inr, ℕ, List, Result, Ok, Err, refl}
use Rattle.std.specs.Prelude.{IfOk}
use Rattle.rt_base.specs.declared.which.Which.TheVariants.{Input, Partitions, Servers, Controllers, Replication, Message, Events, Sent, Queries, Stored, Moment, Rows}
use Rattle.rt_base.specs.Sink.{SinkMeaning}
use Rattle.rt_base.specs.Source.{SourceMeaning}
use Rattle.rt_lines.specs.Header.{NumberedLine}
use Rattle.rt_lines.specs.Lines.{script_lines}
use Rattle.rt_lines.specs.declared.play_fault.PlayFault.{PlayFault}
use Rattle.rt_lines.specs.declared.play_fault.PlayFault.TheVariants.{Usage, Refused, ReadFault, WriteFault, Memory, Limit}
use Rattle.rt_lines.proofs.Headers.{header_taken}
use Rattle.rt_model.specs.Setup.{IsSetup}
use Rattle.rt_play.specs.Beginning.{beginning_of, going_from}
use Rattle.rt_macros.specs.Doing.{reached}
use Rattle.rt_model.specs.declared.setup.Setup.{Setup}
use Rattle.rt_play.specs.Generating.{FrontBy, IsGenerated, IsGeneratedBy, TellsGenerated, generated_setup}
use Rattle.rt_play.specs.Headline.{IsRightFront, IsRightFrontBehind, IsRightGenerated, IsRightGeneratedBy, IsRightReport, IsRightReportBehind, PlaysRightly, RunsRightly, TellsRightly}
use Rattle.rt_play.specs.Plays.{PlaysAllBy, PlaysBy, PlaysInput, Tells}
use Rattle.rt_play.specs.Report.{FrontRuns, IsFrontBehind, IsFrontOfReport, IsReport, IsReportBehind, IsReportFrom, Report, end_of}
use Rattle.rt_play.specs.declared.beginning.Beginning.{Beginning}
use Rattle.rt_play.specs.declared.generating.Generated.{Generated}
use Rattle.rt_play.specs.declared.play_end.PlayEnd.{PlayEnd}
use Rattle.rt_play.proofs.Beginnings.{beginning_taken}
use Rattle.rt_play.proofs.GeneratedRuns.{generated_leads}
use Rattle.rt_play.proofs.OneGenerated.{setup_has}
use Rattle.rt_play.proofs.Rights.{runs_rightly}
use Rattle.rt_play.proofs.ScriptRuns.{lines_lead, report_leads}

-- ---- of one sense of a report to another

module _ (All More : Report → Type 0) (Front Longer : List (List ℕ) → Type 0) (f : (report : Report) → All report → More report)
    (g : (texts : List (List ℕ)) → Front texts → Longer texts) where
  tells_more : (result : Result PlayEnd PlayFault) (old new : SinkMeaning) → Tells All Front old new result → Tells More Longer old new result
  tells_more (Ok end) old new h = (record { report = h.0.report; is = f h.0.report h.0.is; stop = h.0.stop; puts = h.0.puts }, h.1)
  tells_more (Err (Refused line reason)) old new h = record { report = h.report; is = f h.report h.is; stop = h.stop; puts = h.puts }
  tells_more (Err (Limit which)) old new h = record { report = h.report; is = f h.report h.is; stop = h.stop; puts = h.puts }
  tells_more (Err WriteFault) old new h = record { texts = h.texts; is = g h.texts h.is; fails = h.fails }
  tells_more (Err Memory) old new h = record { texts = h.texts; is = g h.texts h.is; puts = h.puts }
  tells_more (Err Usage) old new h = absurd h
  tells_more (Err ReadFault) old new h = absurd h

module _ (All More : List ℕ → Report → Type 0) (Front Longer : List ℕ → List (List ℕ) → Type 0) (f : (input : List ℕ) (report : Report) → All input report → More input report)
    (g : (input : List ℕ) (texts : List (List ℕ)) → Front input texts → Longer input texts) where
  all_more : (result : Result PlayEnd PlayFault) (from to : SourceMeaning) (old new : SinkMeaning) → PlaysAllBy All Front from to old new result → PlaysAllBy More Longer from to old new result
  all_more result from to old new h = record { input = h.input; reads = h.reads; tells = tells_more (All h.input) (More h.input) (Front h.input) (Longer h.input) (f h.input) (g h.input) result old new h.tells }

  plays_more : (result : Result PlayEnd PlayFault) (from to : SourceMeaning) (old new : SinkMeaning) → PlaysBy All Front from to old new result → PlaysBy More Longer from to old new result
  plays_more (Ok end) from to old new h = all_more (Ok end) from to old new h
  plays_more (Err Usage) from to old new h = absurd h
  plays_more (Err ReadFault) from to old new h = h
  plays_more (Err Memory) from to old new h =
      record { input = h.input; taken = h.taken; lines = record { texts = h.lines.texts; is = g h.input h.lines.texts h.lines.is; puts = h.lines.puts }; ended = h.ended }
  plays_more (Err WriteFault) from to old new h = all_more (Err WriteFault) from to old new h
  plays_more (Err (Refused line reason)) from to old new h = all_more (Err (Refused line reason)) from to old new h
  plays_more (Err (Limit Input)) from to old new h = h
  plays_more (Err (Limit Partitions)) from to old new h = all_more (Err (Limit Partitions)) from to old new h
  plays_more (Err (Limit Servers)) from to old new h = all_more (Err (Limit Servers)) from to old new h
  plays_more (Err (Limit Controllers)) from to old new h = all_more (Err (Limit Controllers)) from to old new h
  plays_more (Err (Limit Replication)) from to old new h = all_more (Err (Limit Replication)) from to old new h
  plays_more (Err (Limit Message)) from to old new h = all_more (Err (Limit Message)) from to old new h
  plays_more (Err (Limit Events)) from to old new h = all_more (Err (Limit Events)) from to old new h
  plays_more (Err (Limit Sent)) from to old new h = all_more (Err (Limit Sent)) from to old new h
  plays_more (Err (Limit Queries)) from to old new h = all_more (Err (Limit Queries)) from to old new h
  plays_more (Err (Limit Stored)) from to old new h = all_more (Err (Limit Stored)) from to old new h
  plays_more (Err (Limit Moment)) from to old new h = all_more (Err (Limit Moment)) from to old new h
  plays_more (Err (Limit Rows)) from to old new h = all_more (Err (Limit Rows)) from to old new h

-- ---- the run of a report

front_runs : (beginning : Beginning) (lines : List NumberedLine) (texts : List (List ℕ)) → IsSetup beginning.setup → (front : FrontRuns lines (going_from beginning) texts)
    → RunsRightly beginning.setup (reached front.turns front.last.world)
front_runs beginning lines texts is front =
    runs_rightly beginning.setup (reached front.turns front.last.world) is
    (lines_lead front.front (going_from beginning) front.turns front.last texts front.run)

report_runs : (beginning : Beginning) (lines : List NumberedLine) (report : Report) → IsSetup beginning.setup → (is : IsReportFrom lines (going_from beginning) report)
    → RunsRightly beginning.setup (end_of is)
report_runs beginning lines report setup is = runs_rightly beginning.setup (end_of is) setup (report_leads beginning lines report is)

taken : (input : List ℕ) (x : Beginning × List NumberedLine) → beginning_of (script_lines input) ≡ Ok x → IsSetup x.0.setup
taken input x e = header_taken (script_lines input) x.0.setup x.1 (beginning_taken (script_lines input) x.0 x.1 e)

report_behind : (input : List ℕ) (read : Result (Beginning × List NumberedLine) PlayFault) (report : Report) → beginning_of (script_lines input) ≡ read → IsReportBehind read report
    → IsRightReportBehind read report
report_behind input (Ok x) report e is = (is, report_runs x.0 x.1 report (taken input x e) is)
report_behind input (Err why) report e is = is

front_behind : (input : List ℕ) (read : Result (Beginning × List NumberedLine) PlayFault) (texts : List (List ℕ)) → beginning_of (script_lines input) ≡ read → IsFrontBehind read texts
    → IsRightFrontBehind read texts
front_behind input (Ok x) texts e front = (front, front_runs x.0 x.1 texts (taken input x e) front)
front_behind input (Err why) texts e is = is

pub plays_rightly : (result : Result PlayEnd PlayFault) (from to : SourceMeaning) (old new : SinkMeaning) → PlaysInput from to old new result → PlaysRightly from to old new result
plays_rightly result from to old new plays =
    plays_more IsReport IsRightReport IsFrontOfReport IsRightFront
    (λ input report is. report_behind input (beginning_of (script_lines input)) report refl is)
    (λ input texts is. front_behind input (beginning_of (script_lines input)) texts refl is)
    result from to old new plays

-- ---- the run of a generated one

generated_by : (asked : Generated) (s : Result Setup PlayFault) (report : Report) → IfOk s IsSetup → IsGeneratedBy asked s report → IsRightGeneratedBy asked s report
generated_by asked (Ok setup) report has is = (is, runs_rightly setup is.last has (generated_leads asked setup is.last is.told is.run))
generated_by asked (Err why) report has is = is

generated_right : (asked : Generated) (report : Report) → IsGenerated asked report → IsRightGenerated asked report
generated_right asked report is = generated_by asked (generated_setup asked) report (setup_has asked) is

front_right : (asked : Generated) (texts : List (List ℕ)) → FrontBy (IsGenerated asked) texts → FrontBy (IsRightGenerated asked) texts
front_right asked texts (inl none) = inl none
front_right asked texts (inr b) = inr (record { report = b.report; rest = b.rest; is = generated_right asked b.report b.is; whole = b.whole })

pub tells_rightly : (asked : Generated) (result : Result PlayEnd PlayFault) (old new : SinkMeaning) → TellsGenerated asked old new result → TellsRightly asked old new result
tells_rightly asked result old new tells =
    tells_more (IsGenerated asked) (IsRightGenerated asked) (FrontBy (IsGenerated asked)) (FrontBy (IsRightGenerated asked)) (generated_right asked) (front_right asked) result old new tells
