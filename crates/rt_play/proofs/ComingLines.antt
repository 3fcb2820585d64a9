-- Something comes of each line in a world that a run of a cluster comes to.
use Rattle.std.proofs.Common.{◌≡◌, ℕ, Bool, true, false, List, [], ◌∷◌, ◌++◌, length, Option, Some, None, Result, Ok, Err, nat_lt, refl, sym, subst, slice_get}
use Rattle.std.specs.Prelude.{IfSome}
use Rattle.rt_base.specs.declared.limits.TheConstants.{MOST_EVENTS}
use Rattle.rt_base.specs.declared.numbers.Instance.{Instance}
use Rattle.rt_base.specs.declared.numbers.Partition.{Partition}
use Rattle.rt_base.specs.declared.numbers.Sequence.{Sequence}
use Rattle.rt_base.specs.declared.which.Which.TheVariants.{Events}
use Rattle.rt_desk.specs.Forcing.{AfterForce, ForceCommitTold, ForceStatusTold, ForcesAll, ForcesOne, GivesPending, Noted, PauseTold, ResumeTold, StatusBy, with_job}
use Rattle.rt_desk.specs.Hybrid.{GivesHybrid, HybridTold, PushLine, PushTold, pushed_text}
use Rattle.rt_desk.specs.Latest.{GivesLatest, LatestTold}
use Rattle.rt_desk.specs.Rehearsing.{IsNamed, LoadedTold, PeerBy, PeerTold, PlanTold, RehearseTold, StepTold, found_text, planned_text, stepped_text}
use Rattle.rt_desk.specs.Saying.{EventLineTold, EventTold, FurtherTold, LineTold, MacroTold, OfflineTold, UnlessHeld, held_by, with_plan}
use Rattle.rt_desk.specs.Telling.{Beside, Changed, Counts, CountsAs, Puts, changed, told}
use Rattle.rt_desk.specs.declared.desk.Desk.{Desk}
use Rattle.rt_dryrun.specs.Peers.{peer_of}
use Rattle.rt_dryrun.specs.Rehearsing.{Going as Plan, Plans, PlansIf, after_loaded, capped, entries_now, goal_of, going_on, is_fit, loaded_of, moves_of, plan_in, planned_as, stepped_as, stepped_on}
use Rattle.rt_dryrun.specs.declared.peer_file.PeerFile.{PeerFile}
use Rattle.rt_dryrun.specs.declared.planned.Planned.{Planned}
use Rattle.rt_dryrun.specs.declared.stepped.Stepped.{Stepped}
use Rattle.rt_events.specs.Fits.{Fits}
use Rattle.rt_events.specs.declared.event.Event.{Event}
use Rattle.rt_events.specs.declared.event.Event.TheVariants.{Force}
use Rattle.rt_events.specs.declared.outcome.Outcome.{Outcome}
use Rattle.rt_events.specs.declared.refusal.Refusal.{Refusal}
use Rattle.rt_events.specs.declared.refusal.Refusal.TheVariants.{Limit, Memory, NoSuchMessage, NoSuchNode, NodeDown, NothingToDo}
use Rattle.rt_hybrid.specs.Batch.{rows_pushed}
use Rattle.rt_hybrid.specs.Table.{OfflineTable}
use Rattle.rt_macros.specs.Doing.{Act, Gives, Happens, PassesOver, Refuses, Then, stays}
use Rattle.rt_pause.specs.Forced.{Segment, segments_of}
use Rattle.rt_pause.specs.declared.replica_seen.ReplicaSeen.{ReplicaSeen}
use Rattle.rt_made.proofs.Files.{push_filed}
use Rattle.rt_play.proofs.Coming.{Comes, IsPossible, choose_comes, each_comes, event_comes, gives_comes, line_comes, refuses_comes, then_comes, tries_comes}
use Rattle.rt_play.proofs.ComingMacros.{exchange_comes, fill_comes, query_comes, settle_comes}
use Rattle.rt_rebalance.specs.Rehearsed.{step}
use Rattle.rt_report.specs.BrokerTexts.{noquery_text}
use Rattle.rt_report.specs.FurtherTexts.{nooffline_text, paused_text, rehearsed_text, resumed_text}
use Rattle.rt_report.specs.Outcome.{outcome_text}
use Rattle.rt_schema.specs.Schema.{IsSchema}
use Rattle.rt_schema.specs.declared.row.Row.{Row}
use Rattle.rt_script.specs.Line.{FitsLine, FitsMacro}
use Rattle.rt_script.specs.declared.further.Further.{Further}
use Rattle.rt_script.specs.declared.further.Further.TheVariants as further
use Rattle.rt_script.specs.declared.line.Line.{Line}
use Rattle.rt_script.specs.declared.line.Line.TheVariants as line
use Rattle.rt_script.specs.declared.line.Macro.{Macro}
use Rattle.rt_script.specs.declared.line.Macro.TheVariants as macro
use Rattle.rt_script.specs.declared.query_text.QueryText.{QueryText}
use Rattle.rt_script.specs.declared.query_text.QueryText.TheVariants as asked
use Rattle.rt_upconf.specs.declared.upsert_config.UpsertConfig.{UpsertConfig}
use Rattle.rt_world.specs.Reading.{replicas_seen}
use Rattle.rt_state.specs.declared.state.State.{State}

-- ---- what counts as an event

counts_comes : (text : List ℕ) (w : State) → Comes w (Counts text w)
counts_comes text w = then_comes PassesOver (λ done. Gives text) w (line_comes w) (λ done u. gives_comes text u)

counts_as_comes : {Part : Type 0} (part : Part) (text : List ℕ) (w : State) → Comes w (CountsAs part text w)
counts_as_comes part text w = then_comes PassesOver (λ done. Gives (changed part text)) w (line_comes w) (λ done u. gives_comes (changed part text) u)

-- ---- the desk

beside_comes : (desk : Desk) (act : Act (List ℕ)) (w : State) → Comes w (act w) → Comes w (Beside desk act w)
beside_comes desk act w f = then_comes act (λ text. Gives (told desk text)) w f (λ text u. gives_comes (told desk text) u)

puts_comes : {Part : Type 0} (put : Part → Desk) (act : Act (Changed Part)) (w : State) → Comes w (act w) → Comes w (Puts put act w)
puts_comes put act w f = then_comes act (λ x. Gives (told (put x.part) x.text)) w f (λ x u. gives_comes (told (put x.part) x.text) u)

-- ---- latest, offline and hybrid

latest_comes : (config : Option UpsertConfig) (text : QueryText) (w : State) → Comes w (LatestTold config text w)
latest_comes None text w = refuses_comes NothingToDo w
latest_comes (Some config) (asked.Query query) w =
    then_comes PassesOver (GivesLatest config query) w (line_comes w) (λ done u. gives_comes _ u)
latest_comes (Some config) (asked.Refused number) w = counts_comes (noquery_text number) w

push_comes : (rows : List ℕ) (table : OfflineTable) (done : Unit {0}) (w : State) → IsSchema table.schema → Comes w (PushTold rows table done w)
push_comes rows table done w schema safe = by_rows (rows_pushed table.schema rows) refl
  where
    by_rows : (pushed : Option (List Row)) → rows_pushed table.schema rows ≡ pushed → IsPossible (PushTold rows table done w)
    by_rows None e = record {
      last = stays w;
      told = Ok (changed table (pushed_text None));
      came = record { new = table; text = pushed_text None; pushed = record { count = None; pushes = (e, refl); told = refl }; tells = (refl, refl) };
      safe = safe;
    }
    by_rows (Some pushed) e =
        let file = push_filed table.schema (length table.files) rows pushed schema e in
        let new : OfflineTable = record table { files = table.files ++ file.0 ∷ [] } in
        record {
          last = stays w;
          told = Ok (changed new (pushed_text (Some (length pushed))));
          came = record {
            new = new;
            text = pushed_text (Some (length pushed));
            pushed = record {
              count = Some (length pushed);
              pushes = (pushed, e, refl, record { file = file.0; is_file = file.1; behind = refl });
              told = refl;
            };
            tells = (refl, refl);
          };
          safe = safe;
        }

push_line_comes : (rows : List ℕ) (table : OfflineTable) (w : State) → IsSchema table.schema → Comes w (PushLine rows table w)
push_line_comes rows table w schema =
    choose_comes (nat_lt (length table.files) MOST_EVENTS) (Then PassesOver (PushTold rows table) w) (Refuses (Limit Events) w) w
    (then_comes PassesOver (PushTold rows table) w (line_comes w) (λ done u. push_comes rows table done u schema)) (refuses_comes (Limit Events) w)

offline_comes : (rows : List ℕ) (desk : Desk) (table : Option OfflineTable) (w : State) → IfSome table (λ t. IsSchema t.schema)
    → Comes w (OfflineTold rows desk table w)
offline_comes rows desk None w schema = beside_comes desk (Counts (nooffline_text 1)) w (counts_comes (nooffline_text 1) w)
offline_comes rows desk (Some table) w schema =
    puts_comes (λ new. record desk { hybrid = Some new }) (PushLine rows table) w (push_line_comes rows table w schema)

hybrid_comes : (table : Option OfflineTable) (text : QueryText) (w : State) → Comes w (HybridTold table text w)
hybrid_comes None text w = counts_comes (nooffline_text 1) w
hybrid_comes (Some table) (asked.Query query) w =
    then_comes PassesOver (GivesHybrid table query) w (line_comes w) (λ done u. gives_comes _ u)
hybrid_comes (Some table) (asked.Refused number) w = counts_comes (noquery_text number) w

-- ---- forces

after_force_comes : (replica : ReplicaSeen) (noted : Noted) (told : Result Outcome Refusal) (w : State) → Comes w (AfterForce replica noted told w)
after_force_comes replica noted (Ok outcome) w = gives_comes (noted ++ replica ∷ []) w
after_force_comes replica noted (Err NothingToDo) w = gives_comes noted w
after_force_comes replica noted (Err NoSuchMessage) w = refuses_comes NoSuchMessage w
after_force_comes replica noted (Err NoSuchNode) w = refuses_comes NoSuchNode w
after_force_comes replica noted (Err NodeDown) w = refuses_comes NodeDown w
after_force_comes replica noted (Err (Limit which)) w = refuses_comes (Limit which) w
after_force_comes replica noted (Err Memory) w = refuses_comes Memory w

force_comes : (replica : ReplicaSeen) (noted : Noted) (w : State) → Comes w (ForcesOne replica noted w)
force_comes replica noted w =
    let e = Force replica.instance replica.partition replica.sequence in
    tries_comes (Happens e) (AfterForce replica noted) w (event_comes e w tt) (λ told u. after_force_comes replica noted told u)

forces_comes : (w : State) → Comes w (ForcesAll w)
forces_comes w = each_comes ForcesOne (replicas_seen w) [] w (λ replica noted u. force_comes replica noted u)

status_comes : (job : ℕ) (segments : Option (List Segment)) (w : State) → Comes w (StatusBy job segments w)
status_comes job None w = refuses_comes NoSuchMessage w
status_comes job (Some segments) w =
    then_comes PassesOver (GivesPending job segments) w (line_comes w) (λ done u. gives_comes _ u)

-- ---- peer and rehearse

peer_comes : (i : Instance) (p : Partition) (q : Sequence) (found : Result (Option PeerFile) Refusal) (w : State) → Comes w (PeerBy i p q found w)
peer_comes i p q (Ok file) w = counts_comes (found_text i p q file) w
peer_comes i p q (Err refusal) w = refuses_comes refusal w

plan_comes : {A : Type 0} (text : A → List ℕ) (plan : Option Plan) (found : Result A Refusal) (w : State) → Comes w (PlanTold text plan found w)
plan_comes text plan (Ok x) w = counts_as_comes plan (text x) w
plan_comes text plan (Err refusal) w = refuses_comes refusal w

rehearse_comes : (servers keep : ℕ) (old : Option Plan) (w : State) → Comes w (RehearseTold servers keep old w)
rehearse_comes servers keep old w safe = by_fit (is_fit w servers) refl
  where
    told_so : (plan : Option Plan) (found : Result Planned Refusal) → IsNamed found → Plans w servers keep old plan found → IsPossible (RehearseTold servers keep old w)
    told_so plan found named made =
        let x = plan_comes planned_text plan found w safe in
        record { last = x.last; told = x.told; came = record { plan = plan; found = found; named = named; made = made; tells = x.came }; safe = x.safe }

    by_fit : (b : Bool) → is_fit w servers ≡ b → IsPossible (RehearseTold servers keep old w)
    by_fit true e =
        told_so (going_on servers old (plan_in w servers (capped keep)))
        (Ok (planned_as (moves_of (entries_now w) (goal_of w servers)) (plan_in w servers (capped keep)))) tt
        (subst (λ b. PlansIf b w servers (capped keep) old (going_on servers old (plan_in w servers (capped keep)))
        (Ok (planned_as (moves_of (entries_now w) (goal_of w servers)) (plan_in w servers (capped keep))))) (sym e) (refl, refl))
    by_fit false e = told_so old (Err NothingToDo) tt (subst (λ b. PlansIf b w servers (capped keep) old old (Err NothingToDo)) (sym e) (refl, refl))

step_comes : (old : Option Plan) (w : State) → Comes w (StepTold old w)
step_comes None w safe = let x = plan_comes {A = Stepped} stepped_text None (Err NothingToDo) w safe in
    record { last = x.last; told = x.told; came = record { plan = None; found = Err NothingToDo; named = tt; made = (refl, refl); tells = x.came }; safe = x.safe }
step_comes (Some old) w safe =
    let plan = Some (stepped_on old (step old.rehearsed)) in
    let found : Result Stepped Refusal = Ok (stepped_as old.steps (step old.rehearsed)) in
    let x = plan_comes stepped_text plan found w safe in
    record { last = x.last; told = x.told; came = record { plan = plan; found = found; named = tt; made = (refl, refl); tells = x.came }; safe = x.safe }

-- ---- a line

-- a hybrid table of the cluster's schema
its_schema : (table : Option OfflineTable) (w : State) → IsSchema w.setup.schema → IfSome table (λ t. t.schema ≡ w.setup.schema) → IfSome table (λ t. IsSchema t.schema)
its_schema None w schema fits = tt
its_schema (Some table) w schema fits = subst IsSchema (sym fits) schema

further_comes : (said : Further) (desk : Desk) (w : State) → IsSchema w.setup.schema → IfSome desk.hybrid (λ table. table.schema ≡ w.setup.schema) → Comes w (FurtherTold said desk w)
further_comes (further.Latest text) desk w schema fits = beside_comes desk (LatestTold desk.upsert text) w (latest_comes desk.upsert text w)
further_comes (further.Offline rows) desk w schema fits = offline_comes rows desk desk.hybrid w (its_schema desk.hybrid w schema fits)
further_comes (further.Hybrid text) desk w schema fits = beside_comes desk (HybridTold desk.hybrid text) w (hybrid_comes desk.hybrid text w)
further_comes further.Pause desk w schema fits =
    puts_comes (λ on. record desk { pause = on }) PauseTold w (then_comes ForcesAll (λ forced. Gives (changed true (paused_text (length forced)))) w (forces_comes w) (λ forced u. gives_comes _ u))
further_comes further.Resume desk w schema fits = puts_comes (λ on. record desk { pause = on }) ResumeTold w (counts_as_comes false resumed_text w)
further_comes further.ForceCommit desk w schema fits =
    puts_comes (λ jobs. record desk { jobs = jobs }) (ForceCommitTold desk.jobs) w
    (then_comes ForcesAll (λ forced. Gives (with_job desk.jobs (segments_of forced))) w (forces_comes w) (λ forced u. gives_comes _ u))
further_comes (further.ForceStatus job) desk w schema fits = beside_comes desk (ForceStatusTold desk.jobs job) w (status_comes job (slice_get desk.jobs job) w)
further_comes (further.Peer instance partition sequence) desk w schema fits =
    beside_comes desk (PeerTold instance partition sequence) w (peer_comes instance partition sequence (peer_of w instance partition sequence) w)
further_comes (further.Rehearse servers keep) desk w schema fits = puts_comes (with_plan desk) (RehearseTold servers keep desk.rehearsing) w (rehearse_comes servers keep desk.rehearsing w)
further_comes (further.Loaded instance partition sequence) desk w schema fits =
    puts_comes (with_plan desk) (LoadedTold instance partition sequence desk.rehearsing) w
    (plan_comes rehearsed_text (after_loaded w desk.rehearsing instance partition sequence) (loaded_of w desk.rehearsing instance partition sequence) w)
further_comes further.Step desk w schema fits = puts_comes (with_plan desk) (StepTold desk.rehearsing) w (step_comes desk.rehearsing w)

event_told_comes : (event : Event) (w : State) → Fits w.setup.schema event → Comes w (EventTold event w)
event_told_comes event w fits =
    then_comes (Happens event) (λ outcome. Gives (outcome_text event outcome)) w (event_comes event w fits) (λ outcome u. gives_comes (outcome_text event outcome) u)

unless_comes : (held : Option (Instance × Partition × Sequence)) (event : Event) (w : State) → Fits w.setup.schema event → Comes w (UnlessHeld held event w)
unless_comes None event w fits = event_told_comes event w fits
unless_comes (Some at) event w fits = gives_comes _ w

macro_comes : (said : Macro) (paused : Bool) (w : State) → FitsMacro w.setup.schema said → Comes w (MacroTold paused said w)
macro_comes (macro.Fill partition count) paused w fits = fill_comes partition count w
macro_comes (macro.Query query) paused w fits = query_comes query w fits
macro_comes (macro.Exchange instance partition sequence controller) paused w fits = exchange_comes instance partition sequence controller w
macro_comes (macro.Settle rounds) paused w fits = settle_comes paused rounds w

pub line_told_comes : (said : Line) (desk : Desk) (w : State) → FitsLine w.setup.schema said → IsSchema w.setup.schema
    → IfSome desk.hybrid (λ table. table.schema ≡ w.setup.schema) → Comes w (LineTold said desk w)
line_told_comes (line.Event event) desk w fits schema table =
    beside_comes desk (EventLineTold desk.pause event) w (unless_comes (held_by w desk.pause event) event w fits)
line_told_comes (line.Macro said) desk w fits schema table = beside_comes desk (MacroTold desk.pause said) w (macro_comes said desk.pause w fits)
line_told_comes (line.NoQuery number) desk w fits schema table = beside_comes desk (Counts (noquery_text number)) w (counts_comes (noquery_text number) w)
line_told_comes (line.Further said) desk w fits schema table = further_comes said desk w schema table
