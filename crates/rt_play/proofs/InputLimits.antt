-- No report stops at the limit of the input.
use Rattle.std.proofs.Common.{◌≡◌, ℕ, List, [], ◌∷◌, Option, Some, None, Result, Ok, Err, ap, sym, ◌∙◌, subst}
use Rattle.rt_base.specs.declared.which.Which.{Which}
use Rattle.rt_base.specs.declared.which.Which.TheVariants.{Input}
use Rattle.rt_desk.specs.Saying.{LineTold}
use Rattle.rt_desk.proofs.LineLimits.{line_never}
use Rattle.rt_events.specs.declared.refusal.Refusal.{Refusal}
use Rattle.rt_events.specs.declared.refusal.Refusal.TheVariants as refusal
use Rattle.rt_lines.specs.Header.{NumberedLine}
use Rattle.rt_lines.specs.Lines.{script_lines}
use Rattle.rt_lines.specs.declared.line_reason.LineReason.{LineReason}
use Rattle.rt_lines.specs.declared.line_reason.LineReason.TheVariants as reason
use Rattle.rt_lines.specs.declared.play_fault.PlayFault.{PlayFault}
use Rattle.rt_lines.specs.declared.play_fault.PlayFault.TheVariants.{Limit, Memory, Refused}
use Rattle.rt_lines.proofs.HeaderLimits.{IsOther, IsWithin, is_other}
use Rattle.rt_play.proofs.HeaderLimits.{beginning_within}
use Rattle.rt_play.specs.Beginning.{beginning_of}
use Rattle.rt_macros.specs.Doing.{Reached}
use Rattle.rt_play.specs.Going.{Going}
use Rattle.rt_play.specs.Report.{IsReport, IsReportBehind, IsStop, Report, Stops, fault_at, said_at, stopped}
use Rattle.rt_play.specs.declared.beginning.Beginning.{Beginning}
use Rattle.rt_script.specs.declared.line.Line.{Line}

refused_other : (line : ℕ) (why : LineReason) → Refused line why ≡ Limit Input → ⊥
refused_other line why e = cc

memory_other : Memory ≡ Limit Input → ⊥
memory_other e = cc

same_limit : (a b : Which) → Limit a ≡ Limit b → a ≡ b
same_limit a b e = cc

abbrev pub some_fault : PlayFault → Option PlayFault
some_fault why = Some why

pub same_stop : (a b : PlayFault) → some_fault a ≡ some_fault b → a ≡ b
same_stop a b e = cc

pub no_stop : (why : PlayFault) → None ≡ some_fault why → ⊥
no_stop why e = cc

-- a line stops there only where its event is refused so
pub limit_refused : (line : ℕ) (r : Refusal) → fault_at line r ≡ Limit Input → r ≡ refusal.Limit Input
limit_refused line refusal.NoSuchMessage e = absurd (refused_other line reason.NoSuchMessage e)
limit_refused line refusal.NoSuchNode e = absurd (refused_other line reason.NoSuchNode e)
limit_refused line refusal.NodeDown e = absurd (refused_other line reason.NodeDown e)
limit_refused line refusal.NothingToDo e = absurd (refused_other line reason.NothingToDo e)
limit_refused line (refusal.Limit which) e = ap refusal.Limit (same_limit which Input e)
limit_refused line refusal.Memory e = absurd (memory_other e)

stops_never : (number : ℕ) (o : Option Line) (g : Going) (v : Reached) (why : PlayFault) → Stops number o g v why → why ≡ Limit Input → ⊥
stops_never number None g v why h e = refused_other number reason.BadLine (sym h.1 ∙ e)
stops_never number (Some said) g v why (r, tells, is) e =
    line_never said g.desk g.world v (subst (λ x. LineTold said g.desk g.world v (Err x)) (limit_refused number r (sym is ∙ e)) tells)

stop_never : (lines : List NumberedLine) (g : Going) (v : Reached) (stop : Option PlayFault) → IsStop lines g v stop → stop ≡ Some (Limit Input) → ⊥
stop_never [] g v stop h e = no_stop (Limit Input) (sym h.1 ∙ e)
stop_never (line ∷ lines) g v stop (why, stops, so) e = stops_never line.0 (said_at g line) g v why stops (same_stop why (Limit Input) (sym so ∙ e))

-- what stops at once does so for its own reason
pub stopped_never : (why : PlayFault) (report : Report) → IsOther why → report ≡ stopped why → report.stop ≡ Some (Limit Input) → ⊥
stopped_never why report other h e = other (same_stop why (Limit Input) (sym (ap (λ (r : Report). r.stop) h) ∙ e))

behind_never : (read : Result (Beginning × List NumberedLine) PlayFault) (report : Report) → IsWithin read → IsReportBehind read report → report.stop ≡ Some (Limit Input) → ⊥
behind_never (Ok x) report within h e = stop_never h.runs.rest h.runs.last h.stopped_by report.stop h.stops e
behind_never (Err why) report within h e = stopped_never why report (is_other why within) h e

pub report_never : (input : List ℕ) (report : Report) → IsReport input report → report.stop ≡ Some (Limit Input) → ⊥
report_never input report is e = behind_never (beginning_of (script_lines input)) report (beginning_within (script_lines input)) is e
