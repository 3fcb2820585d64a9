-- A line tells one thing.
use Rattle.std.proofs.Common.{◌≡◌, ℕ, Bool, ◌&&◌, if◌then◌else◌, List, Option, Some, None, refl, ◌∙◌, ap, subst}
use Rattle.rt_base.specs.declared.numbers.Instance.{Instance}
use Rattle.rt_base.specs.declared.numbers.Partition.{Partition}
use Rattle.rt_base.specs.declared.numbers.Sequence.{Sequence}
use Rattle.rt_desk.specs.Forcing.{ForceCommitTold, ForceStatusTold, Jobs, PauseTold, ResumeTold}
use Rattle.rt_desk.specs.Hybrid.{HybridTold, PushLine}
use Rattle.rt_desk.specs.Latest.{LatestTold}
use Rattle.rt_desk.specs.Rehearsing.{LoadedTold, PeerTold, RehearseTold, StepTold}
use Rattle.rt_desk.specs.Saying.{EventLineTold, FurtherTold, LineTold, MacroTold, OfflineTold, UnlessHeld, held_by, is_due, with_plan}
use Rattle.rt_desk.specs.Telling.{Beside, Counts, Puts}
use Rattle.rt_desk.specs.declared.desk.Desk.{Desk}
use Rattle.rt_desk.proofs.OneForce.{force_commit_one, force_status_one, pause_one, resume_one}
use Rattle.rt_desk.proofs.OneHybrid.{hybrid_one, latest_one, push_line_one}
use Rattle.rt_desk.proofs.OneRehearsal.{loaded_one, peer_one, rehearse_one, step_one}
use Rattle.rt_desk.proofs.OneTelling.{Coming, Equal, OneBy, SameDesk, SameRows, SameTable, TellOne, beside_one, counts_one, puts_one}
use Rattle.rt_events.specs.Fits.{Fits}
use Rattle.rt_events.specs.declared.event.Event.{Event}
use Rattle.rt_events.specs.declared.event.Event.TheVariants as event
use Rattle.rt_exact.specs.Acts.{AreOne}
use Rattle.rt_exact.specs.Alike.{AreAlike}
use Rattle.rt_exact.proofs.Acts.{gives_one, happens_one, then_one}
use Rattle.rt_exact.proofs.Dues.{due_alike}
use Rattle.rt_exact.proofs.Exchanges.{exchange_one}
use Rattle.rt_exact.proofs.Macros.{fill_one, query_one}
use Rattle.rt_exact.proofs.Settles.{settle_one}
use Rattle.rt_macros.specs.Doing.{Act, Gives, Happens}
use Rattle.rt_macros.specs.Settling.{waits_in}
use Rattle.rt_dryrun.specs.Rehearsing.{Going as Plan}
use Rattle.rt_hybrid.specs.Table.{OfflineTable}
use Rattle.rt_report.specs.BrokerTexts.{noquery_text}
use Rattle.rt_report.specs.FurtherTexts.{held_text, nooffline_text}
use Rattle.rt_report.specs.Outcome.{outcome_text}
use Rattle.rt_script.specs.Line.{FitsLine, FitsMacro}
use Rattle.rt_script.specs.declared.further.Further.{Further}
use Rattle.rt_script.specs.declared.further.Further.TheVariants as further
use Rattle.rt_script.specs.declared.line.Line.{Line}
use Rattle.rt_script.specs.declared.line.Line.TheVariants as line
use Rattle.rt_script.specs.declared.line.Macro.{Macro}
use Rattle.rt_script.specs.declared.line.Macro.TheVariants as macro
use Rattle.rt_upconf.specs.declared.upsert_config.UpsertConfig.{UpsertConfig}
use Rattle.rt_state.specs.Room.{Found}
use Rattle.rt_state.specs.declared.state.State.{State}

-- ---- macros

macro_one : (paused : Bool) (said : Macro) (w v : State) → AreAlike w v → FitsMacro w.setup.schema said → AreOne (MacroTold paused said w) (MacroTold paused said v)
macro_one paused (macro.Fill p n) w v k fits = fill_one p n w v k
macro_one paused (macro.Query query) w v k fits = query_one query w v k fits
macro_one paused (macro.Exchange i p q c) w v k fits = exchange_one i p q c w v k
macro_one paused (macro.Settle rounds) w v k fits = settle_one paused rounds w v k

-- ---- events

abbrev Held : Type 0
Held = Option (Instance × Partition × Sequence)

held_alike : (e : Event) (a b : Bool) (w v : State) → AreAlike w v → a ≡ b → held_by w a e ≡ held_by v b e
held_alike (event.Consume i p q max) a b w v k same =
    let waits = ap (λ u. waits_in u a i p q) k.same ∙ ap (λ c. waits_in v c i p q) same in
    let due = ap (λ (f : Found). is_due f) (due_alike w v (event.Consume i p q max) k.same) in
    λ t. if waits t && due t then Some (i, p, q) else None
held_alike e a b w v k same = refl

unless_held : (o : Held) (e : Event) (w v : State) → AreAlike w v → Fits w.setup.schema e → AreOne (UnlessHeld o e w) (UnlessHeld o e v)
unless_held None e w v k fits =
    then_one (Happens e) (Happens e) (λ outcome. Gives (outcome_text e outcome)) (λ outcome. Gives (outcome_text e outcome)) w v
    (happens_one e w v k fits) (λ outcome u t l. gives_one (outcome_text e outcome) (outcome_text e outcome) u t l refl)
unless_held (Some at) e w v k fits = gives_one (held_text at.0 at.1 at.2) (held_text at.0 at.1 at.2) w v k refl

event_one : (e : Event) (a b : Bool) (w v : State) → AreAlike w v → a ≡ b → Fits w.setup.schema e → AreOne (EventLineTold a e w) (EventLineTold b e v)
event_one e a b w v k same fits x y r s h g =
    unless_held (held_by v b e) e w v k fits x y r s (subst (λ (o : Held). UnlessHeld o e w x r) (held_alike e a b w v k same) h) g

-- ---- lines that stand beside the events

with_table : (d e : Desk) (a b : OfflineTable) → SameDesk d e → SameRows a b → SameDesk (record d { hybrid = Some a }) (record e { hybrid = Some b })
with_table d e a b desks same =
    record { upsert = desks.upsert; hybrid = same; pause = desks.pause; jobs = desks.jobs; rehearsing = desks.rehearsing }

with_pause : (d e : Desk) (a b : Bool) → SameDesk d e → a ≡ b → SameDesk (record d { pause = a }) (record e { pause = b })
with_pause d e a b desks same =
    record { upsert = desks.upsert; hybrid = desks.hybrid; pause = same; jobs = desks.jobs; rehearsing = desks.rehearsing }

with_jobs : (d e : Desk) (a b : Jobs) → SameDesk d e → a ≡ b → SameDesk (record d { jobs = a }) (record e { jobs = b })
with_jobs d e a b desks same =
    record { upsert = desks.upsert; hybrid = desks.hybrid; pause = desks.pause; jobs = same; rehearsing = desks.rehearsing }

planned_desk : (d e : Desk) (a b : Option Plan) → SameDesk d e → a ≡ b → SameDesk (with_plan d a) (with_plan e b)
planned_desk d e a b desks same =
    record { upsert = desks.upsert; hybrid = desks.hybrid; pause = desks.pause; jobs = desks.jobs; rehearsing = same }

offline_told : (rows : List ℕ) (o p : Option OfflineTable) (d e : Desk) (w v : State) → AreAlike w v → SameDesk d e → SameTable o p
    → TellOne (OfflineTold rows d o w) (OfflineTold rows e p v)
offline_told rows None None d e w v k desks same = beside_one (Counts (nooffline_text 1)) (Counts (nooffline_text 1)) d e w v desks (counts_one (nooffline_text 1) w v k)
offline_told rows None (Some b) d e w v k desks same = absurd same
offline_told rows (Some a) None d e w v k desks same = absurd same
offline_told rows (Some a) (Some b) d e w v k desks same =
    puts_one SameRows (λ new. record d { hybrid = Some new }) (λ new. record e { hybrid = Some new }) (PushLine rows a) (PushLine rows b) w v
    (push_line_one rows a b w v k same) (λ x y rows. with_table d e x y desks rows)

-- by the parts of the one desk
pause_told : (d e : Desk) (act : State → Coming Bool) (w v : State) → SameDesk d e → OneBy Equal (act w) (act v)
    → TellOne (Puts (λ paused. record d { pause = paused }) act w) (Puts (λ paused. record e { pause = paused }) act v)
pause_told d e act w v desks one =
    puts_one Equal (λ paused. record d { pause = paused }) (λ paused. record e { pause = paused }) act act w v one (λ a b same. with_pause d e a b desks same)

jobs_told : (d e : Desk) (w v : State) → AreAlike w v → SameDesk d e
    → TellOne (Puts (λ jobs. record d { jobs = jobs }) (ForceCommitTold d.jobs) w) (Puts (λ jobs. record e { jobs = jobs }) (ForceCommitTold e.jobs) v)
jobs_told d e w v k desks x y r s h g =
    puts_one Equal (λ jobs. record d { jobs = jobs }) (λ jobs. record e { jobs = jobs }) (ForceCommitTold e.jobs) (ForceCommitTold e.jobs) w v
    (force_commit_one e.jobs w v k) (λ a b same. with_jobs d e a b desks same) x y r s
    (subst (λ (jobs : Jobs). Puts (λ more. record d { jobs = more }) (ForceCommitTold jobs) w x r) desks.jobs h) g

plan_told : (d e : Desk) (act : Option Plan → State → Coming (Option Plan)) (w v : State) → SameDesk d e
    → ((old : Option Plan) → OneBy Equal (act old w) (act old v)) → TellOne (Puts (with_plan d) (act d.rehearsing) w) (Puts (with_plan e) (act e.rehearsing) v)
plan_told d e act w v desks one x y r s h g =
    puts_one Equal (with_plan d) (with_plan e) (act e.rehearsing) (act e.rehearsing) w v (one e.rehearsing) (λ a b same. planned_desk d e a b desks same) x y r s
    (subst (λ (old : Option Plan). Puts (with_plan d) (act old) w x r) desks.rehearsing h) g

-- a line that leaves the desk, by a part of it
part_told : {P : Type 0} (d e : Desk) (act : P → Act (List ℕ)) (a b : P) (w v : State) → SameDesk d e → a ≡ b
    → AreOne (act b w) (act b v) → TellOne (Beside d (act a) w) (Beside e (act b) v)
part_told {P} d e act a b w v desks same one x y r s h g =
    beside_one (act b) (act b) d e w v desks one x y r s (subst (λ (p : P). Beside d (act p) w x r) same h) g

further_told : (said : Further) (d e : Desk) (w v : State) → AreAlike w v → SameDesk d e → TellOne (FurtherTold said d w) (FurtherTold said e v)
further_told (further.Latest asked) d e w v k desks =
    part_told d e (λ (o : Option UpsertConfig). LatestTold o asked) d.upsert e.upsert w v desks desks.upsert (latest_one e.upsert asked w v k)
further_told (further.Offline rows) d e w v k desks = offline_told rows d.hybrid e.hybrid d e w v k desks desks.hybrid
further_told (further.Hybrid asked) d e w v k desks =
    beside_one (HybridTold d.hybrid asked) (HybridTold e.hybrid asked) d e w v desks (hybrid_one d.hybrid e.hybrid asked w v k desks.hybrid)
further_told further.Pause d e w v k desks = pause_told d e PauseTold w v desks (pause_one w v k)
further_told further.Resume d e w v k desks = pause_told d e ResumeTold w v desks (resume_one w v k)
further_told further.ForceCommit d e w v k desks = jobs_told d e w v k desks
further_told (further.ForceStatus job) d e w v k desks =
    part_told d e (λ (jobs : Jobs). ForceStatusTold jobs job) d.jobs e.jobs w v desks desks.jobs (force_status_one e.jobs job w v k)
further_told (further.Peer i p q) d e w v k desks = beside_one (PeerTold i p q) (PeerTold i p q) d e w v desks (peer_one i p q w v k)
further_told (further.Rehearse servers keep) d e w v k desks = plan_told d e (RehearseTold servers keep) w v desks (λ old. rehearse_one servers keep old w v k)
further_told (further.Loaded i p q) d e w v k desks = plan_told d e (LoadedTold i p q) w v desks (λ old. loaded_one i p q old w v k)
further_told further.Step d e w v k desks = plan_told d e StepTold w v desks (λ old. step_one old w v k)

-- ---- any line

pub line_told : (said : Line) (d e : Desk) (w v : State) → AreAlike w v → SameDesk d e → FitsLine w.setup.schema said → TellOne (LineTold said d w) (LineTold said e v)
line_told (line.Event event) d e w v k desks fits =
    beside_one (EventLineTold d.pause event) (EventLineTold e.pause event) d e w v desks (event_one event d.pause e.pause w v k desks.pause fits)
line_told (line.Macro said) d e w v k desks fits =
    part_told d e (λ (paused : Bool). MacroTold paused said) d.pause e.pause w v desks desks.pause (macro_one e.pause said w v k fits)
line_told (line.NoQuery number) d e w v k desks fits =
    beside_one (Counts (noquery_text number)) (Counts (noquery_text number)) d e w v desks (counts_one (noquery_text number) w v k)
line_told (line.Further said) d e w v k desks fits = further_told said d e w v k desks
