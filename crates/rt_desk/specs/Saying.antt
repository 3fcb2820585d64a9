-- What is reported of a line, from a world and a desk on: a text, and the world and the desk behind it.
use Rattle.std.specs.Prelude.{ℕ, Bool, true, false, ◌&&◌, List, Option, None, Some, Ok, Err, if◌then◌else◌}
use Rattle.rt_base.specs.declared.numbers.Instance.{Instance}
use Rattle.rt_base.specs.declared.numbers.Partition.{Partition}
use Rattle.rt_base.specs.declared.numbers.Sequence.{Sequence}
use Rattle.rt_desk.specs.Forcing.{ForceCommitTold, ForceStatusTold, PauseTold, ResumeTold}
use Rattle.rt_desk.specs.Hybrid.{HybridTold, PushLine}
use Rattle.rt_desk.specs.Latest.{LatestTold}
use Rattle.rt_desk.specs.Rehearsing.{LoadedTold, PeerTold, RehearseTold, StepTold}
use Rattle.rt_desk.specs.Telling.{Beside, Counts, Puts, Telling}
use Rattle.rt_desk.specs.declared.desk.Desk.{Desk}
use Rattle.rt_dryrun.specs.Rehearsing.{Going as Plan}
use Rattle.rt_events.specs.declared.event.Event.{Event}
use Rattle.rt_events.specs.declared.event.Event.TheVariants.{Consume}
use Rattle.rt_hybrid.specs.Table.{OfflineTable}
use Rattle.rt_macros.specs.Doing.{Act, Gives, Happens, Then}
use Rattle.rt_macros.specs.Exchanging.{ExchangeTold}
use Rattle.rt_macros.specs.Filling.{FillTold}
use Rattle.rt_macros.specs.Querying.{QueryTold}
use Rattle.rt_macros.specs.Settling.{SettleTold, waits_in}
use Rattle.rt_report.specs.BrokerTexts.{noquery_text}
use Rattle.rt_report.specs.FurtherTexts.{held_text, nooffline_text}
use Rattle.rt_report.specs.Outcome.{outcome_text}
use Rattle.rt_script.specs.declared.further.Further.{Further}
use Rattle.rt_script.specs.declared.further.Further.TheVariants as further
use Rattle.rt_script.specs.declared.line.Line.{Line}
use Rattle.rt_script.specs.declared.line.Line.TheVariants as line
use Rattle.rt_script.specs.declared.line.Macro.{Macro}
use Rattle.rt_script.specs.declared.line.Macro.TheVariants as macro
use Rattle.rt_state.specs.Room.{Found}
use Rattle.rt_world.specs.Step.{due_of}
use Rattle.rt_state.specs.declared.state.State.{State}

-- ---- macros

abbrev pub MacroTold : Bool → Macro → Act (List ℕ)
MacroTold paused (macro.Fill partition count) w = FillTold partition count w
MacroTold paused (macro.Query query) w = QueryTold query w
MacroTold paused (macro.Exchange instance partition sequence controller) w = ExchangeTold instance partition sequence controller w
MacroTold paused (macro.Settle rounds) w = SettleTold paused rounds w

-- ---- events

abbrev pub EventTold : Event → Act (List ℕ)
EventTold event w = Then (Happens event) (λ outcome. Gives (outcome_text event outcome)) w

abbrev pub is_due : Found → Bool
is_due (Ok u) = true
is_due (Err refusal) = false

-- a replica that would begin to consume, but waits for the run to be resumed
abbrev pub held_by : State → Bool → Event → Option (Instance × Partition × Sequence)
held_by w paused (Consume instance partition sequence max) =
    if waits_in w paused instance partition sequence && is_due (due_of w (Consume instance partition sequence max))
    then Some (instance, partition, sequence)
    else None
held_by w paused other = None

-- while the run is paused such an event doesn't happen, which is told; it counts as none
abbrev pub UnlessHeld : Option (Instance × Partition × Sequence) → Event → Act (List ℕ)
UnlessHeld None event w = EventTold event w
UnlessHeld (Some at) event w = Gives (held_text at.0 at.1 at.2) w

abbrev pub EventLineTold : Bool → Event → Act (List ℕ)
EventLineTold paused event w = UnlessHeld (held_by w paused event) event w

-- ---- lines that stand beside the events

-- rows are pushed into the table, where there is one
abbrev pub OfflineTold : List ℕ → Desk → Option OfflineTable → Telling
OfflineTold rows desk None w = Beside desk (Counts (nooffline_text 1)) w
OfflineTold rows desk (Some table) w = Puts (λ new. record desk { hybrid = Some new }) (PushLine rows table) w

abbrev pub with_plan : Desk → Option Plan → Desk
with_plan desk plan = record desk { rehearsing = plan }

abbrev pub FurtherTold : Further → Desk → Telling
FurtherTold (further.Latest asked) desk w = Beside desk (LatestTold desk.upsert asked) w
FurtherTold (further.Offline rows) desk w = OfflineTold rows desk desk.hybrid w
FurtherTold (further.Hybrid asked) desk w = Beside desk (HybridTold desk.hybrid asked) w
FurtherTold further.Pause desk w = Puts (λ paused. record desk { pause = paused }) PauseTold w
FurtherTold further.Resume desk w = Puts (λ paused. record desk { pause = paused }) ResumeTold w
FurtherTold further.ForceCommit desk w = Puts (λ jobs. record desk { jobs = jobs }) (ForceCommitTold desk.jobs) w
FurtherTold (further.ForceStatus job) desk w = Beside desk (ForceStatusTold desk.jobs job) w
FurtherTold (further.Peer instance partition sequence) desk w = Beside desk (PeerTold instance partition sequence) w
FurtherTold (further.Rehearse servers keep) desk w = Puts (with_plan desk) (RehearseTold servers keep desk.rehearsing) w
FurtherTold (further.Loaded instance partition sequence) desk w = Puts (with_plan desk) (LoadedTold instance partition sequence desk.rehearsing) w
FurtherTold further.Step desk w = Puts (with_plan desk) (StepTold desk.rehearsing) w

-- ---- lines

-- a text that is no query counts as an event, and changes nothing else
abbrev pub LineTold : Line → Desk → Telling
LineTold (line.Event event) desk w = Beside desk (EventLineTold desk.pause event) w
LineTold (line.Macro macro) desk w = Beside desk (MacroTold desk.pause macro) w
LineTold (line.NoQuery number) desk w = Beside desk (Counts (noquery_text number)) w
LineTold (line.Further further) desk w = FurtherTold further desk w
