-- No line is refused by the limit of the input.
use Rattle.std.proofs.Common.{◌≡◌, ℕ, Bool, true, false, List, [], ◌∷◌, ◌++◌, Option, Some, None, Result, Ok, Err, sym, ◌∙◌}
use Rattle.std.specs.Prelude.{length, nat_lt, slice_get, ◌&&◌}
use Rattle.rt_base.specs.declared.limits.TheConstants.{MOST_EVENTS}
use Rattle.rt_base.specs.declared.numbers.Instance.{Instance}
use Rattle.rt_base.specs.declared.numbers.Partition.{Partition}
use Rattle.rt_base.specs.declared.numbers.Sequence.{Sequence}
use Rattle.rt_base.specs.declared.which.Which.TheVariants.{Events}
use Rattle.rt_desk.specs.Forcing.{AfterForce, ForceCommitTold, ForceStatusTold, ForcesAll, ForcesOne, GivesPending, Noted, PauseTold, ResumeTold, StatusBy, with_job}
use Rattle.rt_desk.specs.Hybrid.{GivesHybrid, HybridTold, PushLine, PushTold}
use Rattle.rt_desk.specs.Latest.{GivesLatest, LatestTold}
use Rattle.rt_desk.specs.Rehearsing.{LoadedTold, PeerBy, PeerTold, PlanTold, RehearseTold, StepTold, found_text, planned_text, stepped_text}
use Rattle.rt_desk.specs.Saying.{EventLineTold, FurtherTold, LineTold, MacroTold, OfflineTold, UnlessHeld, held_by, with_plan}
use Rattle.rt_desk.specs.Telling.{Beside, Changed, Counts, CountsAs, Puts, changed, told}
use Rattle.rt_desk.specs.declared.desk.Desk.{Desk}
use Rattle.rt_desk.proofs.LimitMacros.{exchange_never, fill_never, query_never, settle_never}
use Rattle.rt_desk.proofs.Limits.{Never, Unlimited, down_other, each_never, event_never, events_other, choose_never, found_so, gives_never, is_other, limit_other, memory_other, no_message_other, no_node_other, nothing_other, passes_never, refused_so, refuses_never, then_never, tries_never}
use Rattle.rt_dryrun.specs.Peers.{file_at, file_by, has_server, others_of, meta_in, peer_of}
use Rattle.rt_dryrun.specs.Rehearsing.{Going as Plan, PlansBy, PlansIf, StepsGoing, StepsOn, after_loaded, capped, is_among, is_fit, loaded_by, loaded_of}
use Rattle.rt_dryrun.specs.declared.peer_file.PeerFile.{PeerFile}
use Rattle.rt_dryrun.specs.declared.planned.Planned.{Planned}
use Rattle.rt_dryrun.specs.declared.stepped.Stepped.{Stepped}
use Rattle.rt_events.specs.declared.event.Event.{Event}
use Rattle.rt_events.specs.declared.event.Event.TheVariants.{Force}
use Rattle.rt_events.specs.declared.outcome.Outcome.{Outcome}
use Rattle.rt_events.specs.declared.refusal.Refusal.{Refusal}
use Rattle.rt_events.specs.declared.refusal.Refusal.TheVariants.{NoSuchMessage, NoSuchNode, NodeDown, NothingToDo, Limit, Memory}
use Rattle.rt_hybrid.specs.Table.{OfflineTable}
use Rattle.rt_macros.specs.Doing.{Act, Gives, Happens, PassesOver, Reached}
use Rattle.rt_model.specs.Metadata.{metadata_of}
use Rattle.rt_model.specs.declared.seg_meta.SegMeta.{SegMeta}
use Rattle.rt_model.specs.declared.status.Status.{Status}
use Rattle.rt_model.specs.declared.status.Status.TheVariants.{InProgress, Done, Abandoned}
use Rattle.rt_pause.specs.Forced.{Segment, segments_of}
use Rattle.rt_pause.specs.declared.replica_seen.ReplicaSeen.{ReplicaSeen}
use Rattle.rt_report.specs.BrokerTexts.{noquery_text}
use Rattle.rt_report.specs.FurtherTexts.{nooffline_text, paused_text, rehearsed_text, resumed_text}
use Rattle.rt_report.specs.Outcome.{outcome_text}
use Rattle.rt_script.specs.declared.further.Further.{Further}
use Rattle.rt_script.specs.declared.further.Further.TheVariants as further
use Rattle.rt_script.specs.declared.line.Line.{Line}
use Rattle.rt_script.specs.declared.line.Line.TheVariants as line
use Rattle.rt_script.specs.declared.line.Macro.{Macro}
use Rattle.rt_script.specs.declared.line.Macro.TheVariants as macro
use Rattle.rt_script.specs.declared.query_text.QueryText.{QueryText}
use Rattle.rt_script.specs.declared.query_text.QueryText.TheVariants as asked
use Rattle.rt_upconf.specs.declared.upsert_config.UpsertConfig.{UpsertConfig}
use Rattle.rt_state.specs.Finding.{has_partition, is_server_up}
use Rattle.rt_world.specs.Reading.{replicas_seen}
use Rattle.rt_state.specs.Room.{only_if}
use Rattle.rt_state.specs.declared.state.State.{State}

-- ---- what counts as an event

counts_never : (text : List ℕ) (w : State) → Never (Counts text w)
counts_never text w = then_never PassesOver (λ done. Gives text) w (passes_never w) (λ done u. gives_never text u)

counts_as_never : {Part : Type 0} (part : Part) (text : List ℕ) (w : State) → Never (CountsAs part text w)
counts_as_never part text w = then_never PassesOver (λ done. Gives (changed part text)) w (passes_never w) (λ done u. gives_never (changed part text) u)

-- ---- the desk

beside_never : (desk : Desk) (act : Act (List ℕ)) (w : State) → Never (act w) → Never (Beside desk act w)
beside_never desk act w f = then_never act (λ text. Gives (told desk text)) w f (λ text u. gives_never (told desk text) u)

puts_never : {Part : Type 0} (put : Part → Desk) (act : Act (Changed Part)) (w : State) → Never (act w) → Never (Puts put act w)
puts_never put act w f = then_never act (λ x. Gives (told (put x.part) x.text)) w f (λ x u. gives_never (told (put x.part) x.text) u)

-- ---- events and macros

unless_never : (held : Option (Instance × Partition × Sequence)) (event : Event) (w : State) → Never (UnlessHeld held event w)
unless_never None event w =
    then_never (Happens event) (λ outcome. Gives (outcome_text event outcome)) w (event_never event w) (λ outcome u. gives_never (outcome_text event outcome) u)
unless_never (Some at) event w = gives_never _ w

macro_never : (said : Macro) (paused : Bool) (w : State) → Never (MacroTold paused said w)
macro_never (macro.Fill partition count) paused w = fill_never partition count w
macro_never (macro.Query query) paused w = query_never query w
macro_never (macro.Exchange instance partition sequence controller) paused w = exchange_never instance partition sequence controller w
macro_never (macro.Settle rounds) paused w = settle_never paused rounds w

-- ---- latest, offline and hybrid

latest_never : (config : Option UpsertConfig) (text : QueryText) (w : State) → Never (LatestTold config text w)
latest_never None text w = refuses_never NothingToDo w nothing_other
latest_never (Some config) (asked.Query query) w = then_never PassesOver (GivesLatest config query) w (passes_never w) (λ done u. gives_never _ u)
latest_never (Some config) (asked.Refused number) w = counts_never (noquery_text number) w

push_never : (rows : List ℕ) (table : OfflineTable) (done : Unit {0}) (w : State) → Never (PushTold rows table done w)
push_never rows table done w v h = gives_never (changed h.new h.text) w v h.tells

push_line_never : (rows : List ℕ) (table : OfflineTable) (w : State) → Never (PushLine rows table w)
push_line_never rows table w =
    choose_never (nat_lt (length table.files) MOST_EVENTS) _ _
    (then_never PassesOver (PushTold rows table) w (passes_never w) (λ done u. push_never rows table done u))
    (refuses_never (Limit Events) w events_other)

offline_never : (rows : List ℕ) (desk : Desk) (table : Option OfflineTable) (w : State) → Never (OfflineTold rows desk table w)
offline_never rows desk None w = beside_never desk (Counts (nooffline_text 1)) w (counts_never (nooffline_text 1) w)
offline_never rows desk (Some table) w = puts_never (λ new. record desk { hybrid = Some new }) (PushLine rows table) w (push_line_never rows table w)

hybrid_never : (table : Option OfflineTable) (text : QueryText) (w : State) → Never (HybridTold table text w)
hybrid_never None text w = counts_never (nooffline_text 1) w
hybrid_never (Some table) (asked.Query query) w = then_never PassesOver (GivesHybrid table query) w (passes_never w) (λ done u. gives_never _ u)
hybrid_never (Some table) (asked.Refused number) w = counts_never (noquery_text number) w

-- ---- forces

force_never : (replica : ReplicaSeen) (noted : Noted) (w : State) → Never (ForcesOne replica noted w)
force_never replica noted w = tries_never (Happens e) (AfterForce replica noted) w by_told
  where
    e : Event
    e = Force replica.instance replica.partition replica.sequence

    by_told : (told : Result Outcome Refusal) (u : Reached) → Happens e w u told → Never (AfterForce replica noted told u.world)
    by_told (Ok outcome) u came = gives_never (noted ++ replica ∷ []) u.world
    by_told (Err NothingToDo) u came = gives_never noted u.world
    by_told (Err NoSuchMessage) u came = refuses_never NoSuchMessage u.world no_message_other
    by_told (Err NoSuchNode) u came = refuses_never NoSuchNode u.world no_node_other
    by_told (Err NodeDown) u came = refuses_never NodeDown u.world down_other
    by_told (Err (Limit which)) u came = refuses_never (Limit which) u.world (limit_other (Limit which) (Happens e) w u (event_never e w) came)
    by_told (Err Memory) u came = refuses_never Memory u.world memory_other

forces_never : (w : State) → Never (ForcesAll w)
forces_never w = each_never ForcesOne (replicas_seen w) [] w (λ replica noted u. force_never replica noted u)

status_never : (job : ℕ) (segments : Option (List Segment)) (w : State) → Never (StatusBy job segments w)
status_never job None w = refuses_never NoSuchMessage w no_message_other
status_never job (Some segments) w = then_never PassesOver (GivesPending job segments) w (passes_never w) (λ done u. gives_never _ u)

-- ---- peer and rehearse

only_never : {A : Type 0} (b : Bool) (refusal : Refusal) (found : Result A Refusal) → Unlimited {A = A} (Err refusal) → Unlimited found → Unlimited (only_if b refusal found)
only_never true refusal found f g = g
only_never false refusal found f g = f

file_by_never : (status : Status) (w : State) (p : Partition) (q : Sequence) (meta : SegMeta) (others : List Instance) → Unlimited (file_by status w p q meta others)
file_by_never InProgress w p q meta others = refused_so NothingToDo nothing_other
file_by_never (Done commit) w p q meta others = found_so _
file_by_never Abandoned w p q meta others = refused_so NothingToDo nothing_other

file_never : (meta : Option SegMeta) (w : State) (i : Instance) (p : Partition) (q : Sequence) → Unlimited (file_at meta w i p q)
file_never None w i p q = refused_so NothingToDo nothing_other
file_never (Some meta) w i p q = file_by_never meta.status w p q meta (others_of w i)

peer_never : (w : State) (i : Instance) (p : Partition) (q : Sequence) → Unlimited (peer_of w i p q)
peer_never w i p q =
    only_never (has_server w i && has_partition w p) NoSuchNode _ (refused_so NoSuchNode no_node_other)
    (only_never (is_server_up w i) NodeDown _ (refused_so NodeDown down_other) (file_never (meta_in (metadata_of w.store.writes p) q) w i p q))

peer_line_never : (i : Instance) (p : Partition) (q : Sequence) (found : Result (Option PeerFile) Refusal) (w : State) → Unlimited found → Never (PeerBy i p q found w)
peer_line_never i p q (Ok file) w f = counts_never (found_text i p q file) w
peer_line_never i p q (Err refusal) w f = refuses_never refusal w (is_other refusal f)

plan_never : {A : Type 0} (text : A → List ℕ) (plan : Option Plan) (found : Result A Refusal) (w : State) → Unlimited found → Never (PlanTold text plan found w)
plan_never text plan (Ok x) w f = counts_as_never plan (text x) w
plan_never text plan (Err refusal) w f = refuses_never refusal w (is_other refusal f)

plans_by : (w : State) (servers keep : ℕ) (old new : Option Plan) (found : Result Planned Refusal) → PlansBy w servers keep old new found → Unlimited found
plans_by w servers keep old new (Ok planned) h = found_so planned
plans_by w servers keep old new (Err Memory) h = refused_so Memory memory_other
plans_by w servers keep old new (Err NoSuchMessage) h = absurd h
plans_by w servers keep old new (Err NoSuchNode) h = absurd h
plans_by w servers keep old new (Err NodeDown) h = absurd h
plans_by w servers keep old new (Err NothingToDo) h = absurd h
plans_by w servers keep old new (Err (Limit which)) h = absurd h

nothing_found : {A : Type 0} (found : Result A Refusal) → found ≡ Err NothingToDo → Unlimited found
nothing_found {A} found is e = refused_so {A = A} NothingToDo nothing_other (sym is ∙ e)

plans_if : (b : Bool) (w : State) (servers keep : ℕ) (old new : Option Plan) (found : Result Planned Refusal) → PlansIf b w servers keep old new found → Unlimited found
plans_if true w servers keep old new found h = plans_by w servers keep old new found h
plans_if false w servers keep old new found h = nothing_found found h.0

rehearse_never : (servers keep : ℕ) (old : Option Plan) (w : State) → Never (RehearseTold servers keep old w)
rehearse_never servers keep old w v h =
    plan_never planned_text h.plan h.found w (plans_if (is_fit w servers) w servers (capped keep) old h.plan h.found h.made) v h.tells

steps_going : (old new : Plan) (found : Result Stepped Refusal) → StepsGoing old new found → Unlimited found
steps_going old new (Ok stepped) h = found_so stepped
steps_going old new (Err Memory) h = refused_so Memory memory_other
steps_going old new (Err NoSuchMessage) h = absurd h
steps_going old new (Err NoSuchNode) h = absurd h
steps_going old new (Err NodeDown) h = absurd h
steps_going old new (Err NothingToDo) h = absurd h
steps_going old new (Err (Limit which)) h = absurd h

steps_on : (old new : Option Plan) (found : Result Stepped Refusal) → StepsOn old new found → Unlimited found
steps_on None new found h = nothing_found found h.0
steps_on (Some old) None found h = absurd h
steps_on (Some old) (Some new) found h = steps_going old new found h

step_never : (old : Option Plan) (w : State) → Never (StepTold old w)
step_never old w v h = plan_never stepped_text h.plan h.found w (steps_on old h.plan h.found h.made) v h.tells

loaded_by_never : (old : Option Plan) (i : Instance) (p : Partition) (q : Sequence) → Unlimited (loaded_by old i p q)
loaded_by_never None i p q = refused_so NothingToDo nothing_other
loaded_by_never (Some plan) i p q = only_never (is_among plan i) NoSuchNode _ (refused_so NoSuchNode no_node_other) (found_so _)

loaded_never : (w : State) (old : Option Plan) (i : Instance) (p : Partition) (q : Sequence) → Unlimited (loaded_of w old i p q)
loaded_never w old i p q = only_never (has_partition w p) NoSuchNode (loaded_by old i p q) (refused_so NoSuchNode no_node_other) (loaded_by_never old i p q)

-- ---- a line

further_never : (said : Further) (desk : Desk) (w : State) → Never (FurtherTold said desk w)
further_never (further.Latest text) desk w = beside_never desk (LatestTold desk.upsert text) w (latest_never desk.upsert text w)
further_never (further.Offline rows) desk w = offline_never rows desk desk.hybrid w
further_never (further.Hybrid text) desk w = beside_never desk (HybridTold desk.hybrid text) w (hybrid_never desk.hybrid text w)
further_never further.Pause desk w =
    puts_never (λ on. record desk { pause = on }) PauseTold w
    (then_never ForcesAll (λ forced. Gives (changed true (paused_text (length forced)))) w (forces_never w) (λ forced u. gives_never _ u))
further_never further.Resume desk w = puts_never (λ on. record desk { pause = on }) ResumeTold w (counts_as_never false resumed_text w)
further_never further.ForceCommit desk w =
    puts_never (λ jobs. record desk { jobs = jobs }) (ForceCommitTold desk.jobs) w
    (then_never ForcesAll (λ forced. Gives (with_job desk.jobs (segments_of forced))) w (forces_never w) (λ forced u. gives_never _ u))
further_never (further.ForceStatus job) desk w = beside_never desk (ForceStatusTold desk.jobs job) w (status_never job (slice_get desk.jobs job) w)
further_never (further.Peer instance partition sequence) desk w =
    beside_never desk (PeerTold instance partition sequence) w
    (peer_line_never instance partition sequence (peer_of w instance partition sequence) w (peer_never w instance partition sequence))
further_never (further.Rehearse servers keep) desk w = puts_never (with_plan desk) (RehearseTold servers keep desk.rehearsing) w (rehearse_never servers keep desk.rehearsing w)
further_never (further.Loaded instance partition sequence) desk w =
    puts_never (with_plan desk) (LoadedTold instance partition sequence desk.rehearsing) w
    (plan_never rehearsed_text (after_loaded w desk.rehearsing instance partition sequence) (loaded_of w desk.rehearsing instance partition sequence) w
    (loaded_never w desk.rehearsing instance partition sequence))
further_never further.Step desk w = puts_never (with_plan desk) (StepTold desk.rehearsing) w (step_never desk.rehearsing w)

pub line_never : (said : Line) (desk : Desk) (w : State) → Never (LineTold said desk w)
line_never (line.Event event) desk w = beside_never desk (EventLineTold desk.pause event) w (unless_never (held_by w desk.pause event) event w)
line_never (line.Macro said) desk w = beside_never desk (MacroTold desk.pause said) w (macro_never said desk.pause w)
line_never (line.NoQuery number) desk w = beside_never desk (Counts (noquery_text number)) w (counts_never (noquery_text number) w)
line_never (line.Further said) desk w = further_never said desk w
