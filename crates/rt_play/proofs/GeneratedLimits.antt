-- No generated run stops at the limit of the input.
use Rattle.std.proofs.Common.{◌≡◌, ℕ, Bool, true, false, List, Option, Some, None, Result, Ok, Err, cond, nat_le, ◌%◌, ◌&&◌, ap, sym, ◌∙◌, subst}
use Rattle.rt_base.specs.Sink.{SinkMeaning}
use Rattle.rt_base.specs.declared.limits.TheConstants.{MOST_PARTITIONS, MOST_ROWS}
use Rattle.rt_base.specs.declared.which.Which.TheVariants.{Input, Partitions, Rows}
use Rattle.rt_desk.proofs.LimitMacros.{query_never, settles_never}
use Rattle.rt_desk.proofs.Limits.{Never, Unlimited, each_from_never, gives_never, nothing_other, passed_never, refuses_never, then_never}
use Rattle.rt_events.specs.declared.event.Event.TheVariants.{Produce}
use Rattle.rt_events.specs.declared.refusal.Refusal.{Refusal}
use Rattle.rt_events.specs.declared.refusal.Refusal.TheVariants as refusal
use Rattle.rt_lines.specs.Header.{NumberedLine, header_of}
use Rattle.rt_lines.specs.Lines.{script_lines}
use Rattle.rt_lines.specs.declared.play_fault.PlayFault.{PlayFault}
use Rattle.rt_lines.specs.declared.play_fault.PlayFault.TheVariants.{Limit}
use Rattle.rt_macros.specs.Doing.{Gives, Passed, Then}
use Rattle.rt_macros.specs.Settling.{Settles}
use Rattle.rt_macros.specs.declared.settling.TheConstants.{MOST_ROUNDS}
use Rattle.rt_model.specs.declared.query.Query.{Query}
use Rattle.rt_model.specs.declared.setup.Setup.{Setup}
use Rattle.rt_lines.proofs.HeaderLimits.{IsOther, IsWithin, header_within, is_other, read_within, stopped_within}
use Rattle.rt_play.proofs.InputLimits.{limit_refused, no_stop, same_stop, stopped_never}
use Rattle.rt_play.specs.Generating.{Asks, AsksQuery, IsGenerated, IsGeneratedBy, ProducesRow, ProducesRows, RunsGenerated, TellsGenerated, generated_query, generated_setup, header_text, next_number, query_said, report_by, row_text, setup_read}
use Rattle.rt_play.specs.Report.{Report, fault_at}
use Rattle.rt_play.specs.declared.generating.Generated.{Generated}
use Rattle.rt_play.specs.declared.play_end.PlayEnd.{PlayEnd}
use Rattle.rt_script.specs.Line.{line_in}
use Rattle.rt_state.specs.Start.{start}
use Rattle.rt_state.specs.declared.state.State.{State}

-- ---- the run

row_never : (partitions at x : ℕ) (w : State) → Never (ProducesRow partitions at x w)
row_never partitions at x w =
    let comes = Produce (record { 0 = at % partitions }) (row_text (next_number x)) in
    then_never (Passed comes) (λ done. Gives (next_number x)) w (passed_never comes w) (λ done u. gives_never (next_number x) u)

rows_never : (asked : Generated) (w : State) → Never (ProducesRows asked w)
rows_never asked w = each_from_never (ProducesRow asked.partitions) 0 asked.rows asked.seed w (λ at x u. row_never asked.partitions at x u)

asks_query_never : (o : Option Query) (w : State) → Never (AsksQuery o w)
asks_query_never (Some query) w = query_never query w
asks_query_never None w = refuses_never refusal.NothingToDo w nothing_other

asks_never : (w : State) → Never (Asks w)
asks_never w = asks_query_never (query_said (line_in w.setup generated_query)) w

runs_in : (rounds : ℕ) (asked : Generated) (w : State) → Never (Then (ProducesRows asked) (λ x. Then (Settles false rounds) (λ quiet. Asks)) w)
runs_in rounds asked w =
    then_never (ProducesRows asked) (λ x. Then (Settles false rounds) (λ quiet. Asks)) w (rows_never asked w)
    (λ x u. then_never (Settles false rounds) (λ quiet. Asks) u (settles_never false rounds u) (λ quiet v. asks_never v))

run_never : (asked : Generated) (w : State) → Never (RunsGenerated asked w)
run_never asked w = runs_in MOST_ROUNDS asked w

-- ---- its cluster

rows_other : IsOther (Limit Rows)
rows_other e = cc

partitions_other : IsOther (Limit Partitions)
partitions_other e = cc

setup_read_within : (r : Result (Setup × List NumberedLine) PlayFault) → IsWithin r → IsWithin (setup_read r)
setup_read_within (Ok x) f = read_within x.0
setup_read_within (Err why) f = stopped_within why (is_other why f)

chosen_within : (few short : Bool) (r : Result Setup PlayFault) → IsWithin r → IsWithin (cond few (cond short r (Err (Limit Rows))) (Err (Limit Partitions)))
chosen_within true true r f = f
chosen_within true false r f = stopped_within (Limit Rows) rows_other
chosen_within false short r f = stopped_within (Limit Partitions) partitions_other

setup_within : (asked : Generated) → IsWithin (generated_setup asked)
setup_within asked =
    let script = script_lines (header_text asked.partitions) in
    chosen_within (nat_le 1 asked.partitions && nat_le asked.partitions MOST_PARTITIONS) (nat_le asked.rows MOST_ROWS) (setup_read (header_of script))
    (setup_read_within (header_of script) (header_within script))

-- ---- its report

told_never : (partitions : ℕ) (w : State) (told : Result (List ℕ) Refusal) (report : Report) → Unlimited told → report ≡ report_by partitions w told → report.stop ≡ Some (Limit Input) → ⊥
told_never partitions w (Ok answer) report f h e = no_stop (Limit Input) (sym (ap (λ (r : Report). r.stop) h) ∙ e)
told_never partitions w (Err why) report f h e =
    f (ap told_so (limit_refused 0 why (same_stop (fault_at 0 why) (Limit Input) (sym (ap (λ (r : Report). r.stop) h) ∙ e))))
  where
    told_so : Refusal → Result (List ℕ) Refusal
    told_so r = Err r

by_setup : (asked : Generated) (s : Result Setup PlayFault) (report : Report) → IsWithin s → IsGeneratedBy asked s report → report.stop ≡ Some (Limit Input) → ⊥
by_setup asked (Ok setup) report within h e =
    told_never asked.partitions h.last.world h.told report
    (λ is. run_never asked (start setup) h.last (subst (λ t. RunsGenerated asked (start setup) h.last t) is h.run)) h.same e
by_setup asked (Err why) report within h e = stopped_never why report (is_other why within) h e

pub generated_never : (asked : Generated) (report : Report) → IsGenerated asked report → report.stop ≡ Some (Limit Input) → ⊥
generated_never asked report is e = by_setup asked (generated_setup asked) report (setup_within asked) is e

-- whatever is written of one
pub unlimited_alone : (asked : Generated) (result : Result PlayEnd PlayFault) (old new : SinkMeaning) → TellsGenerated asked old new result → result ≡ Err (Limit Input) → ⊥
unlimited_alone asked result old new tells is =
    let all = subst (TellsGenerated asked old new) is tells in
    generated_never asked all.report all.is all.stop
