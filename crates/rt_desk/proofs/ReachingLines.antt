-- Each line is reached by its turns, and by none of them a replica of a paused run begins to consume.
use Rattle.std.proofs.Common.{◌≡◌, ℕ, Bool, true, false, ◌&&◌, List, Option, Some, None, Result, Ok, Err, cond, not, [], ◌∷◌, ◌++◌, ap, refl, subst, ◌∙◌}
use Rattle.rt_base.specs.declared.numbers.Instance.{Instance}
use Rattle.rt_base.specs.declared.numbers.Partition.{Partition}
use Rattle.rt_base.specs.declared.numbers.Sequence.{Sequence}
use Rattle.rt_base.specs.declared.which.Which.TheVariants.{Events}
use Rattle.rt_desk.specs.Forcing.{AfterForce, ForceCommitTold, ForceStatusTold, ForcesAll, ForcesOne, GivesPending, Noted, PauseTold, ResumeTold, StatusBy, with_job}
use Rattle.rt_desk.specs.Hybrid.{GivesHybrid, HybridTold, PushLine, PushTold}
use Rattle.rt_desk.specs.Latest.{GivesLatest, LatestTold}
use Rattle.rt_desk.specs.Paused.{Allowed}
use Rattle.rt_desk.specs.Rehearsing.{LoadedTold, PeerBy, PeerTold, PlanTold, RehearseTold, StepTold, found_text, planned_text, stepped_text}
use Rattle.rt_desk.specs.Saying.{EventLineTold, EventTold, FurtherTold, LineTold, MacroTold, OfflineTold, UnlessHeld, held_by, is_due, with_plan}
use Rattle.rt_desk.specs.Telling.{Beside, Changed, Counts, CountsAs, Puts, changed, told}
use Rattle.rt_desk.specs.declared.desk.Desk.{Desk}
use Rattle.rt_desk.proofs.Due.{consume_was_due}
use Rattle.rt_desk.proofs.Reaching.{Allowance, Goes, MayCome, choose_goes, each_goes, event_goes, event_goes_so, gives_goes, line_passes, pausing, refuses_goes, then_goes, tries_goes}
use Rattle.rt_desk.proofs.ReachingMacros.{MayConsume, exchange_goes, fill_goes, query_goes, settle_goes}
use Rattle.rt_dryrun.specs.Peers.{peer_of}
use Rattle.rt_dryrun.specs.Rehearsing.{Going as Plan, after_loaded, loaded_of}
use Rattle.rt_dryrun.specs.declared.peer_file.PeerFile.{PeerFile}
use Rattle.rt_events.specs.Fits.{Fits}
use Rattle.rt_events.specs.declared.event.Event.{Event}
use Rattle.rt_events.specs.declared.event.Event.TheVariants.{Ask, Consume, Force, Produce}
use Rattle.rt_events.specs.declared.outcome.Outcome.{Outcome}
use Rattle.rt_events.specs.declared.refusal.Refusal.{Refusal}
use Rattle.rt_events.specs.declared.refusal.Refusal.TheVariants.{NoSuchMessage, NoSuchNode, NodeDown, NothingToDo, Limit, Memory}
use Rattle.rt_hybrid.specs.Table.{OfflineTable}
use Rattle.rt_macros.specs.Doing.{Act, Gives, Happens, PassesOver, Reached}
use Rattle.rt_macros.specs.Settling.{waits_at, waits_in}
use Rattle.rt_model.specs.declared.replica_state.ReplicaState.{ReplicaState}
use Rattle.rt_model.specs.declared.replica_state.ReplicaState.TheVariants.{InitialConsuming}
use Rattle.rt_pause.specs.Forced.{Segment, segments_of}
use Rattle.rt_pause.specs.declared.replica_seen.ReplicaSeen.{ReplicaSeen}
use Rattle.rt_report.specs.BrokerTexts.{noquery_text}
use Rattle.rt_report.specs.FurtherTexts.{nooffline_text, paused_text, rehearsed_text, resumed_text}
use Rattle.rt_report.specs.Outcome.{outcome_text}
use Rattle.rt_safety.specs.Runs.{happens}
use Rattle.rt_script.specs.Line.{FitsLine, FitsMacro}
use Rattle.rt_script.specs.declared.further.Further.{Further}
use Rattle.rt_script.specs.declared.further.Further.TheVariants as further
use Rattle.rt_script.specs.declared.line.Line.{Line}
use Rattle.rt_script.specs.declared.line.Line.TheVariants as line
use Rattle.rt_script.specs.declared.line.Macro.{Macro}
use Rattle.rt_script.specs.declared.line.Macro.TheVariants as macro
use Rattle.rt_script.specs.declared.query_text.QueryText.{QueryText}
use Rattle.rt_script.specs.declared.query_text.QueryText.TheVariants as asked
use Rattle.rt_upconf.specs.declared.upsert_config.UpsertConfig.{UpsertConfig}
use Rattle.rt_world.specs.Reading.{is_ready_at, replicas_seen, stage_at}
use Rattle.rt_world.specs.Step.{due_of}
use Rattle.rt_state.specs.declared.state.State.{State}
use Rattle.std.specs.Prelude.{slice_get, nat_lt, length}
use Rattle.rt_base.specs.declared.limits.TheConstants.{MOST_EVENTS}

-- ---- what counts as an event

counts_goes : (k : Allowance) (text : List ℕ) (w : State) → Goes k w (Counts text w)
counts_goes k text w = then_goes k PassesOver (λ done. Gives text) w (line_passes k w) (λ done u. gives_goes k text u)

counts_as_goes : {Part : Type 0} (k : Allowance) (part : Part) (text : List ℕ) (w : State) → Goes k w (CountsAs part text w)
counts_as_goes k part text w = then_goes k PassesOver (λ done. Gives (changed part text)) w (line_passes k w) (λ done u. gives_goes k (changed part text) u)

-- ---- the desk

beside_goes : (k : Allowance) (desk : Desk) (act : Act (List ℕ)) (w : State) → Goes k w (act w) → Goes k w (Beside desk act w)
beside_goes k desk act w f = then_goes k act (λ text. Gives (told desk text)) w f (λ text u. gives_goes k (told desk text) u)

puts_goes : {Part : Type 0} (k : Allowance) (put : Part → Desk) (act : Act (Changed Part)) (w : State) → Goes k w (act w) → Goes k w (Puts put act w)
puts_goes k put act w f = then_goes k act (λ x. Gives (told (put x.part) x.text)) w f (λ x u. gives_goes k (told (put x.part) x.text) u)

-- ---- latest, offline and hybrid

latest_goes : (k : Allowance) (config : Option UpsertConfig) (text : QueryText) (w : State) → Goes k w (LatestTold config text w)
latest_goes k None text w = refuses_goes k NothingToDo w
latest_goes k (Some config) (asked.Query query) w =
    then_goes k PassesOver (GivesLatest config query) w (line_passes k w) (λ done u. gives_goes k _ u)
latest_goes k (Some config) (asked.Refused number) w = counts_goes k (noquery_text number) w

push_goes : (k : Allowance) (rows : List ℕ) (table : OfflineTable) (done : Unit {0}) (w : State) → Goes k w (PushTold rows table done w)
push_goes k rows table done w v y h = gives_goes k (changed h.new h.text) w v y h.tells

push_line_goes : (k : Allowance) (rows : List ℕ) (table : OfflineTable) (w : State) → Goes k w (PushLine rows table w)
push_line_goes k rows table w =
    choose_goes k (nat_lt (length table.files) MOST_EVENTS) _ _ w
    (then_goes k PassesOver (PushTold rows table) w (line_passes k w) (λ done u. push_goes k rows table done u))
    (refuses_goes k (Limit Events) w)

offline_goes : (k : Allowance) (rows : List ℕ) (desk : Desk) (table : Option OfflineTable) (w : State) → Goes k w (OfflineTold rows desk table w)
offline_goes k rows desk None w = beside_goes k desk (Counts (nooffline_text 1)) w (counts_goes k (nooffline_text 1) w)
offline_goes k rows desk (Some table) w = puts_goes k (λ new. record desk { hybrid = Some new }) (PushLine rows table) w (push_line_goes k rows table w)

hybrid_goes : (k : Allowance) (table : Option OfflineTable) (text : QueryText) (w : State) → Goes k w (HybridTold table text w)
hybrid_goes k None text w = counts_goes k (nooffline_text 1) w
hybrid_goes k (Some table) (asked.Query query) w =
    then_goes k PassesOver (GivesHybrid table query) w (line_passes k w) (λ done u. gives_goes k _ u)
hybrid_goes k (Some table) (asked.Refused number) w = counts_goes k (noquery_text number) w

-- ---- forces

after_force_goes : (k : Allowance) (replica : ReplicaSeen) (noted : Noted) (told : Result Outcome Refusal) (w : State) → Goes k w (AfterForce replica noted told w)
after_force_goes k replica noted (Ok outcome) w = gives_goes k (noted ++ replica ∷ []) w
after_force_goes k replica noted (Err NothingToDo) w = gives_goes k noted w
after_force_goes k replica noted (Err NoSuchMessage) w = refuses_goes k NoSuchMessage w
after_force_goes k replica noted (Err NoSuchNode) w = refuses_goes k NoSuchNode w
after_force_goes k replica noted (Err NodeDown) w = refuses_goes k NodeDown w
after_force_goes k replica noted (Err (Limit which)) w = refuses_goes k (Limit which) w
after_force_goes k replica noted (Err Memory) w = refuses_goes k Memory w

force_goes : (k : Allowance) (replica : ReplicaSeen) (noted : Noted) (w : State) → Goes k w (ForcesOne replica noted w)
force_goes k replica noted w =
    let e = Force replica.instance replica.partition replica.sequence in
    tries_goes k (Happens e) (AfterForce replica noted) w (event_goes k e w tt (λ o. k.calm w e o tt)) (λ told u. after_force_goes k replica noted told u)

forces_goes : (k : Allowance) (w : State) → Goes k w (ForcesAll w)
forces_goes k w = each_goes k ForcesOne (replicas_seen w) [] w (λ replica noted u. force_goes k replica noted u)

status_goes : (k : Allowance) (job : ℕ) (segments : Option (List Segment)) (w : State) → Goes k w (StatusBy job segments w)
status_goes k job None w = refuses_goes k NoSuchMessage w
status_goes k job (Some segments) w =
    then_goes k PassesOver (GivesPending job segments) w (line_passes k w) (λ done u. gives_goes k _ u)

-- ---- peer and rehearse

peer_goes : (k : Allowance) (i : Instance) (p : Partition) (q : Sequence) (found : Result (Option PeerFile) Refusal) (w : State) → Goes k w (PeerBy i p q found w)
peer_goes k i p q (Ok file) w = counts_goes k (found_text i p q file) w
peer_goes k i p q (Err refusal) w = refuses_goes k refusal w

plan_goes : {A : Type 0} (k : Allowance) (text : A → List ℕ) (plan : Option Plan) (found : Result A Refusal) (w : State) → Goes k w (PlanTold text plan found w)
plan_goes k text plan (Ok x) w = counts_as_goes k plan (text x) w
plan_goes k text plan (Err refusal) w = refuses_goes k refusal w

rehearse_goes : (k : Allowance) (servers keep : ℕ) (old : Option Plan) (w : State) → Goes k w (RehearseTold servers keep old w)
rehearse_goes k servers keep old w v y h = plan_goes k planned_text h.plan h.found w v y h.tells

step_goes : (k : Allowance) (old : Option Plan) (w : State) → Goes k w (StepTold old w)
step_goes k old w v y h = plan_goes k stepped_text h.plan h.found w v y h.tells

-- ---- a line

further_goes : (said : Further) (k : Allowance) (desk : Desk) (w : State) → Goes k w (FurtherTold said desk w)
further_goes (further.Latest text) k desk w = beside_goes k desk (LatestTold desk.upsert text) w (latest_goes k desk.upsert text w)
further_goes (further.Offline rows) k desk w = offline_goes k rows desk desk.hybrid w
further_goes (further.Hybrid text) k desk w = beside_goes k desk (HybridTold desk.hybrid text) w (hybrid_goes k desk.hybrid text w)
further_goes further.Pause k desk w =
    puts_goes k (λ on. record desk { pause = on }) PauseTold w (then_goes k ForcesAll (λ forced. Gives (changed true (paused_text (length forced)))) w (forces_goes k w) (λ forced u. gives_goes k _ u))
further_goes further.Resume k desk w = puts_goes k (λ on. record desk { pause = on }) ResumeTold w (counts_as_goes k false resumed_text w)
further_goes further.ForceCommit k desk w =
    puts_goes k (λ jobs. record desk { jobs = jobs }) (ForceCommitTold desk.jobs) w
    (then_goes k ForcesAll (λ forced. Gives (with_job desk.jobs (segments_of forced))) w (forces_goes k w) (λ forced u. gives_goes k _ u))
further_goes (further.ForceStatus job) k desk w = beside_goes k desk (ForceStatusTold desk.jobs job) w (status_goes k job (slice_get desk.jobs job) w)
further_goes (further.Peer instance partition sequence) k desk w =
    beside_goes k desk (PeerTold instance partition sequence) w (peer_goes k instance partition sequence (peer_of w instance partition sequence) w)
further_goes (further.Rehearse servers keep) k desk w = puts_goes k (with_plan desk) (RehearseTold servers keep desk.rehearsing) w (rehearse_goes k servers keep desk.rehearsing w)
further_goes (further.Loaded instance partition sequence) k desk w =
    puts_goes k (with_plan desk) (LoadedTold instance partition sequence desk.rehearsing) w
    (plan_goes k rehearsed_text (after_loaded w desk.rehearsing instance partition sequence) (loaded_of w desk.rehearsing instance partition sequence) w)
further_goes further.Step k desk w = puts_goes k (with_plan desk) (StepTold desk.rehearsing) w (step_goes k desk.rehearsing w)

-- the events that a line may make, but for calm ones, are allowed
abbrev pub MayLine : Allowance → Bool → State → Line → Type 0
MayLine k paused w (line.Event event) = held_by w paused event ≡ None → (v : Reached) (outcome : Outcome) → Happens event w v (Ok outcome) → k.turn w (happens event outcome)
MayLine k paused w (line.Macro (macro.Fill partition count)) = (u : State) (message : List ℕ) → MayCome k u (Produce partition message)
MayLine k paused w (line.Macro (macro.Query query)) = MayCome k w (Ask query)
MayLine k paused w (line.Macro (macro.Exchange instance partition sequence controller)) = Unit {0}
MayLine k paused w (line.Macro (macro.Settle rounds)) = MayConsume k paused
MayLine k paused w (line.NoQuery number) = Unit {0}
MayLine k paused w (line.Further said) = Unit {0}

event_told_goes : (event : Event) (k : Allowance) (w : State) → Fits w.setup.schema event
    → ((v : Reached) (outcome : Outcome) → Happens event w v (Ok outcome) → k.turn w (happens event outcome)) → Goes k w (EventTold event w)
event_told_goes event k w fits may =
    then_goes k (Happens event) (λ outcome. Gives (outcome_text event outcome)) w
    (λ v r came. event_goes_so k event w v r fits (λ outcome e. may v outcome (subst (Happens event w v) e came)) came)
    (λ outcome u. gives_goes k (outcome_text event outcome) u)

unless_goes : (held : Option (Instance × Partition × Sequence)) (event : Event) (k : Allowance) (paused : Bool) (w : State) → held_by w paused event ≡ held
    → Fits w.setup.schema event → MayLine k paused w (line.Event event) → Goes k w (UnlessHeld held event w)
unless_goes None event k paused w e fits may = event_told_goes event k w fits (may e)
unless_goes (Some at) event k paused w e fits may = gives_goes k _ w

macro_goes : (said : Macro) (k : Allowance) (paused : Bool) (w : State) → FitsMacro w.setup.schema said → MayLine k paused w (line.Macro said) → Goes k w (MacroTold paused said w)
macro_goes (macro.Fill partition count) k paused w fits may = fill_goes k partition count w may
macro_goes (macro.Query query) k paused w fits may = query_goes k query w fits may
macro_goes (macro.Exchange instance partition sequence controller) k paused w fits may = exchange_goes k instance partition sequence controller w
macro_goes (macro.Settle rounds) k paused w fits may = settle_goes k paused rounds w may

pub line_goes : (said : Line) (desk : Desk) (k : Allowance) (w : State) → FitsLine w.setup.schema said → MayLine k desk.pause w said → Goes k w (LineTold said desk w)
line_goes (line.Event event) desk k w fits may =
    beside_goes k desk (EventLineTold desk.pause event) w (unless_goes (held_by w desk.pause event) event k desk.pause w refl fits may)
line_goes (line.Macro said) desk k w fits may = beside_goes k desk (MacroTold desk.pause said) w (macro_goes said k desk.pause w fits may)
line_goes (line.NoQuery number) desk k w fits may = beside_goes k desk (Counts (noquery_text number)) w (counts_goes k (noquery_text number) w)
line_goes (line.Further said) desk k w fits may = further_goes said k desk w

-- ---- a paused run

-- one that is held would have been told so
held_none : (b : Bool) (at : Instance × Partition × Sequence) → b ≡ true → cond b (Some at) None ≡ None → ⊥
held_none true at e none = cc
held_none false at e none = cc

both : (a b : Bool) → a ≡ true → b ≡ true → (a && b) ≡ true
both true true e f = refl
both true false e f = f
both false b e f = e

waits_so : (paused : Bool) (o : Option ReplicaState) → paused ≡ true → o ≡ Some InitialConsuming → waits_at paused o ≡ true
waits_so paused o on e = ap (λ x. waits_at x o) on ∙ ap (λ x. waits_at true x) e

may_come : (event : Event) (paused : Bool) (w : State) (v : Reached) (outcome : Outcome) → held_by w paused event ≡ None → Happens event w v (Ok outcome)
    → Allowed paused w (happens event outcome)
may_come (Consume i p q max) paused w v outcome none came = λ on begins.
    held_none (waits_in w paused i p q && is_due (due_of w (Consume i p q max))) (i, p, q)
    (both (waits_in w paused i p q) (is_due (due_of w (Consume i p q max))) (waits_so paused (stage_at w i p q) on begins) (consume_was_due i p q max w v outcome came)) none
may_come other paused w v outcome none came = λ on begins. begins

-- where a replica may consume in a paused run, it has begun
and_false : (a : Bool) → (a && false) ≡ true → ⊥
and_false true e = cc
and_false false e = cc

begun : (paused a : Bool) (o : Option ReplicaState) → (a && not (waits_at paused o)) ≡ true → paused ≡ true → o ≡ Some InitialConsuming → ⊥
begun paused a o may on e =
    and_false a (subst (λ x. (a && not (waits_at true x)) ≡ true) e (subst (λ x. (a && not (waits_at x o)) ≡ true) on may))

may_pausing : (said : Line) (paused : Bool) (w : State) → MayLine (pausing paused) paused w said
may_pausing (line.Event event) paused w = λ none v outcome came. may_come event paused w v outcome none came
may_pausing (line.Macro (macro.Fill partition count)) paused w = λ u message outcome on begins. begins
may_pausing (line.Macro (macro.Query query)) paused w = λ outcome on begins. begins
may_pausing (line.Macro (macro.Exchange instance partition sequence controller)) paused w = tt
may_pausing (line.Macro (macro.Settle rounds)) paused w =
    λ i segment max u ready outcome on begins. begun paused (is_ready_at u i segment.0 segment.1) (stage_at u i segment.0 segment.1) ready on begins
may_pausing (line.NoQuery number) paused w = tt
may_pausing (line.Further said) paused w = tt

-- each line is reached by its turns, and by none of them a replica of a paused run begins to consume
pub line_pauses : (said : Line) (desk : Desk) (w : State) → FitsLine w.setup.schema said → Goes (pausing desk.pause) w (LineTold said desk w)
line_pauses said desk w fits = line_goes said desk (pausing desk.pause) w fits (may_pausing said desk.pause w)
