-- A script is paused from a `pause` line to the next `resume` line, and then no replica begins to consume.
use Rattle.std.proofs.Common.{◌≡◌, ℕ, Bool, true, false, List, [], ◌∷◌, length, Option, Some, None, Result, Ok, Err, refl, sym, ◌∙◌, ap, subst}
use Rattle.std.specs.Prelude.{◌↔◌, IfOk, IfSome}
use Rattle.rt_desk.proofs.Reaching.{pausing, stay_by}
use Rattle.rt_desk.proofs.ReachingLines.{line_pauses}
use Rattle.rt_desk.specs.Forcing.{ForceCommitTold, ForcesAll, PauseTold, ResumeTold}
use Rattle.rt_desk.specs.Hybrid.{PushLine}
use Rattle.rt_desk.specs.IsDesk.{first_desk}
use Rattle.rt_desk.specs.Paused.{Allowed, LeadsBy}
use Rattle.rt_desk.specs.Rehearsing.{LoadedTold, RehearseTold, StepTold}
use Rattle.rt_desk.specs.Saying.{FurtherTold, LineTold, OfflineTold, with_plan}
use Rattle.rt_desk.specs.Telling.{Changed, Told, changed, told}
use Rattle.rt_desk.specs.declared.desk.Desk.{Desk}
use Rattle.rt_events.specs.declared.refusal.Refusal.{Refusal}
use Rattle.rt_hybrid.specs.Table.{OfflineTable}
use Rattle.rt_lines.proofs.Headers.{header_taken}
use Rattle.rt_lines.specs.Header.{NumberedLine, TableSaid, setup_in, tables_of, then_ok}
use Rattle.rt_lines.specs.Lines.{ScriptLines, script_lines}
use Rattle.rt_lines.specs.declared.play_fault.PlayFault.{PlayFault}
use Rattle.rt_macros.specs.Doing.{Gives, PassesOver, Reached, reached}
use Rattle.rt_model.specs.declared.setup.Setup.{Setup}
use Rattle.rt_pause.proofs.Pauses.{paused_is}
use Rattle.rt_pause.specs.Paused.{IsPaused, Turn as Pausing, neither, paused_after, pauses, resumes}
use Rattle.rt_play.proofs.Beginnings.{beginning_taken}
use Rattle.rt_play.proofs.Desks.{beside_desk, puts_desk}
use Rattle.rt_play.proofs.LineReads.{same_told, was_then}
use Rattle.rt_play.proofs.ScriptRuns.{line_keeps}
use Rattle.rt_play.specs.Beginning.{beginning_behind, beginning_of, desk_by, going_from, hybrid_by, with_desk}
use Rattle.rt_play.specs.Going.{Going}
use Rattle.rt_play.specs.Pausing.{HoldsBack, pausing_of, pausings_of}
use Rattle.rt_play.specs.Report.{FrontRuns, RunAll, Runs, Stops, said_at}
use Rattle.rt_play.specs.declared.beginning.Beginning.{Beginning}
use Rattle.rt_report.specs.FurtherTexts.{paused_text, resumed_text}
use Rattle.rt_safety.specs.Runs.{Turn}
use Rattle.rt_script.proofs.LinesFit.{line_fits}
use Rattle.rt_script.specs.Line.{FitsLine, line_in}
use Rattle.rt_script.specs.declared.further.Further.{Further}
use Rattle.rt_script.specs.declared.further.Further.TheVariants as further
use Rattle.rt_script.specs.declared.line.Line.{Line}
use Rattle.rt_script.specs.declared.line.Line.TheVariants as line
use Rattle.rt_state.specs.IsSafeWorld.{IsSafeWorld}
use Rattle.rt_state.specs.declared.state.State.{State}
use Rattle.rt_upconf.specs.Upsert.{time_column_of, upsert_of}
use Rattle.rt_upconf.specs.declared.upsert_config.UpsertConfig.{UpsertConfig}
use Rattle.rt_upconf.specs.declared.upsert_refused.UpsertRefused.{UpsertRefused}
use Rattle.rt_world.proofs.StartSafe.{start_safe}

-- ---- what a line leaves of the pause

same_pause : (desk after : Desk) → after ≡ desk → after.pause ≡ desk.pause
same_pause desk after e = ap (λ (d : Desk). d.pause) e

pause_told : (w : State) (v : Reached) (x : Changed Bool) → PauseTold w v (Ok x) → x.part ≡ true
pause_told w v x h =
    let t = was_then ForcesAll (λ forced. Gives (changed true (paused_text (length forced)))) w v x h in
    ap (λ (c : Changed Bool). c.part) (same_told x (changed true (paused_text (length t.told))) t.further.1)

resume_told : (w : State) (v : Reached) (x : Changed Bool) → ResumeTold w v (Ok x) → x.part ≡ false
resume_told w v x h =
    let t = was_then PassesOver (λ done. Gives (changed false resumed_text)) w v x h in
    ap (λ (c : Changed Bool). c.part) (same_told x (changed false resumed_text) t.further.1)

offline_leaves : (rows : List ℕ) (desk after : Desk) (table : Option OfflineTable) (w : State) (v : Reached) (text : List ℕ)
    → OfflineTold rows desk table w v (Ok (told after text)) → after.pause ≡ desk.pause
offline_leaves rows desk after None w v text h = same_pause desk after (beside_desk desk after _ w v text h)
offline_leaves rows desk after (Some table) w v text h =
    let p = puts_desk (λ new. record desk { hybrid = Some new }) after (PushLine rows table) w v text h in
    same_pause (record desk { hybrid = Some p.part.part }) after p.same

further_leaves : (said : Further) (desk after : Desk) (w : State) (v : Reached) (text : List ℕ) → FurtherTold said desk w v (Ok (told after text))
    → after.pause ≡ paused_after desk.pause (pausing_of (Some (line.Further said)) ∷ [])
further_leaves (further.Latest asked) desk after w v text h = same_pause desk after (beside_desk desk after _ w v text h)
further_leaves (further.Offline rows) desk after w v text h = offline_leaves rows desk after desk.hybrid w v text h
further_leaves (further.Hybrid asked) desk after w v text h = same_pause desk after (beside_desk desk after _ w v text h)
further_leaves further.Pause desk after w v text h =
    let p = puts_desk (λ on. record desk { pause = on }) after PauseTold w v text h in
    same_pause (record desk { pause = p.part.part }) after p.same ∙ pause_told w p.between p.part p.came
further_leaves further.Resume desk after w v text h =
    let p = puts_desk (λ on. record desk { pause = on }) after ResumeTold w v text h in
    same_pause (record desk { pause = p.part.part }) after p.same ∙ resume_told w p.between p.part p.came
further_leaves further.ForceCommit desk after w v text h =
    let p = puts_desk (λ jobs. record desk { jobs = jobs }) after (ForceCommitTold desk.jobs) w v text h in
    same_pause (record desk { jobs = p.part.part }) after p.same
further_leaves (further.ForceStatus job) desk after w v text h = same_pause desk after (beside_desk desk after _ w v text h)
further_leaves (further.Peer i p q) desk after w v text h = same_pause desk after (beside_desk desk after _ w v text h)
further_leaves (further.Rehearse servers keep) desk after w v text h =
    let p = puts_desk (with_plan desk) after (RehearseTold servers keep desk.rehearsing) w v text h in
    same_pause (with_plan desk p.part.part) after p.same
further_leaves (further.Loaded i p q) desk after w v text h =
    let put = puts_desk (with_plan desk) after (LoadedTold i p q desk.rehearsing) w v text h in
    same_pause (with_plan desk put.part.part) after put.same
further_leaves further.Step desk after w v text h =
    let p = puts_desk (with_plan desk) after (StepTold desk.rehearsing) w v text h in
    same_pause (with_plan desk p.part.part) after p.same

line_leaves : (said : Line) (desk after : Desk) (w : State) (v : Reached) (text : List ℕ) → LineTold said desk w v (Ok (told after text))
    → after.pause ≡ paused_after desk.pause (pausing_of (Some said) ∷ [])
line_leaves (line.Event e) desk after w v text h = same_pause desk after (beside_desk desk after _ w v text h)
line_leaves (line.Macro m) desk after w v text h = same_pause desk after (beside_desk desk after _ w v text h)
line_leaves (line.NoQuery number) desk after w v text h = same_pause desk after (beside_desk desk after _ w v text h)
line_leaves (line.Further said) desk after w v text h = further_leaves said desk after w v text h

said_leaves : (o : Option Line) (g : Going) (turns : List Turn) (h : Going) (text : List ℕ) → Runs o g turns h text
    → h.desk.pause ≡ paused_after g.desk.pause (pausing_of o ∷ [])
said_leaves None g turns h text run = absurd run
said_leaves (Some said) g turns h text run = line_leaves said g.desk h.desk g.world (reached turns h.world) text run

-- ---- what lines leave

then_after : (first : Pausing) (others : List Pausing) (b : Bool) → paused_after (paused_after b (first ∷ [])) others ≡ paused_after b (first ∷ others)
then_after pauses others b = refl
then_after resumes others b = refl
then_after neither others b = refl

lines_leave : (lines : List NumberedLine) (g : Going) (turns : List Turn) (h : Going) (texts : List (List ℕ)) → IsSafeWorld g.world → RunAll lines g turns h texts
    → h.desk.pause ≡ paused_after g.desk.pause (pausings_of g.world.setup lines)
lines_leave [] g turns h texts safe run = ap (λ (x : Going). x.desk.pause) run.0
lines_leave (line ∷ lines) g turns h texts safe run =
    let said = line_in g.world.setup line.1 in
    let keeps = line_keeps line g run.own run.between run.text safe run.first in
    lines_leave lines run.between run.more h run.others keeps.0 run.then_others
    ∙ ap (λ (s : Setup). paused_after run.between.desk.pause (pausings_of s lines)) keeps.1
    ∙ ap (λ (b : Bool). paused_after b (pausings_of g.world.setup lines)) (said_leaves said g run.own run.between run.text run.first)
    ∙ then_after (pausing_of said) (pausings_of g.world.setup lines) g.desk.pause

-- ---- the beginning

abbrev BeginsUnpaused : Result (Beginning × List NumberedLine) PlayFault → Type 0
BeginsUnpaused r = IfOk r (λ x. x.0.desk.pause ≡ false)

first_unpaused : (upsert : Option UpsertConfig) (table : Option OfflineTable) (r : Result (Setup × List NumberedLine) PlayFault)
    → BeginsUnpaused (with_desk (first_desk upsert table) r)
first_unpaused upsert table (Ok x) = refl
first_unpaused upsert table (Err why) = tt

desk_unpaused : (said : TableSaid) (upsert : Result (Option UpsertConfig) UpsertRefused) (r : Result (Setup × List NumberedLine) PlayFault)
    → BeginsUnpaused (then_ok (desk_by said upsert) (λ desk. with_desk desk r))
desk_unpaused said (Ok upsert) r = first_unpaused upsert (hybrid_by said.schema (time_column_of said.table_text)) r
desk_unpaused said (Err why) r = tt

tables_unpaused : (after : ℕ) (t : Result (TableSaid × List NumberedLine) PlayFault)
    → BeginsUnpaused (then_ok t (λ said. beginning_behind said.0 (record { lines = said.1; after = after })))
tables_unpaused after (Ok said) =
    desk_unpaused said.0 (upsert_of said.0.schema said.0.schema_text said.0.table_text) (setup_in said.0 (record { lines = said.1; after = after }))
tables_unpaused after (Err why) = tt

begins_unpaused : (script : ScriptLines) (beginning : Beginning) (lines : List NumberedLine) → beginning_of script ≡ Ok (beginning, lines)
    → beginning.desk.pause ≡ false
begins_unpaused script beginning lines e = subst BeginsUnpaused e (tables_unpaused script.after (tables_of script))

-- ---- what is held back

told_holds : (said : Line) (g : Going) (v : Reached) (r : Result Told Refusal) → g.desk.pause ≡ true → FitsLine g.world.setup.schema said
    → LineTold said g.desk g.world v r → LeadsBy (Allowed true) g.world v.turns v.world
told_holds said g v r on fits told = subst (λ b. LeadsBy (Allowed b) g.world v.turns v.world) on (line_pauses said g.desk g.world fits v r told)

run_holds : (o : Option Line) (g : Going) (turns : List Turn) (h : Going) (text : List ℕ) → g.desk.pause ≡ true → IfSome o (FitsLine g.world.setup.schema)
    → Runs o g turns h text → LeadsBy (Allowed true) g.world turns h.world
run_holds None g turns h text on fits run = absurd run
run_holds (Some said) g turns h text on fits run = told_holds said g (reached turns h.world) _ on fits run

stop_holds : (number : ℕ) (o : Option Line) (g : Going) (v : Reached) (why : PlayFault) → g.desk.pause ≡ true → IfSome o (FitsLine g.world.setup.schema)
    → Stops number o g v why → LeadsBy (Allowed true) g.world v.turns v.world
stop_holds number None g v why on fits (same, is) = stay_by (pausing true) g.world v same
stop_holds number (Some said) g v why on fits (refusal, told, is) = told_holds said g v (Err refusal) on fits told

holds : (line : NumberedLine) (g : Going) → g.desk.pause ≡ true → HoldsBack line g
holds line g on =
    let fits = line_fits g.world.setup.schema g.world.setup.table.name line.1 in
    record {
      runs = λ turns h text run. run_holds (said_at g line) g turns h text on fits run;
      stops = λ v why stops. stop_holds line.0 (said_at g line) g v why on fits stops;
    }

-- ---- a script

module _ (input : List ℕ) (beginning : Beginning) (lines : List NumberedLine) (texts : List (List ℕ)) (front : FrontRuns lines (going_from beginning) texts)
    (e : beginning_of (script_lines input) ≡ Ok (beginning, lines)) where
  front_leaves : front.last.desk.pause ≡ paused_after false (pausings_of beginning.setup front.front)
  front_leaves =
      let taken = beginning_taken (script_lines input) beginning lines e in
      let safe = start_safe beginning.setup (header_taken (script_lines input) beginning.setup lines taken) in
      lines_leave front.front (going_from beginning) front.turns front.last texts safe front.run
      ∙ ap (λ (b : Bool). paused_after b (pausings_of beginning.setup front.front)) (begins_unpaused (script_lines input) beginning lines e)

  pub front_paused : (front.last.desk.pause ≡ true) ↔ IsPaused (pausings_of beginning.setup front.front)
  front_paused =
      let is = paused_is (pausings_of beginning.setup front.front) in
      (λ on. is.0 (sym front_leaves ∙ on), λ paused. front_leaves ∙ is.1 paused)

  pub front_holds : IsPaused (pausings_of beginning.setup front.front) → (line : NumberedLine) → HoldsBack line front.last
  front_holds paused line = holds line front.last (front_paused.1 paused)
