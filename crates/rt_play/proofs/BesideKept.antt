-- What each force keeps, and each line that is no event, is kept by the lines that stand beside the events.
use Rattle.std.proofs.Common.{ℕ, List, [], length, Option, Some, None, Result, Ok, Err, true, false, nat_lt, slice_get}
use Rattle.rt_base.specs.declared.limits.TheConstants.{MOST_EVENTS}
use Rattle.rt_base.specs.declared.numbers.Instance.{Instance}
use Rattle.rt_base.specs.declared.numbers.Partition.{Partition}
use Rattle.rt_base.specs.declared.numbers.Sequence.{Sequence}
use Rattle.rt_desk.specs.Forcing.{AfterForce, ForceCommitTold, ForceStatusTold, ForcesAll, ForcesOne, GivesPending, Noted, PauseTold, ResumeTold, StatusBy, with_job}
use Rattle.rt_desk.specs.Hybrid.{GivesHybrid, HybridTold, PushLine, PushTold}
use Rattle.rt_desk.specs.Latest.{GivesLatest, LatestTold}
use Rattle.rt_desk.specs.Rehearsing.{LoadedTold, PeerBy, PeerTold, PlanTold, RehearseTold, StepTold, found_text, planned_text, stepped_text}
use Rattle.rt_desk.specs.Saying.{FurtherTold, OfflineTold, with_plan}
use Rattle.rt_desk.specs.Telling.{Beside, Changed, Counts, CountsAs, Puts, changed, told}
use Rattle.rt_desk.specs.declared.desk.Desk.{Desk}
use Rattle.rt_dryrun.specs.Peers.{peer_of}
use Rattle.rt_dryrun.specs.Rehearsing.{Going as Plan, after_loaded, loaded_of}
use Rattle.rt_dryrun.specs.declared.peer_file.PeerFile.{PeerFile}
use Rattle.rt_events.specs.declared.event.Event.TheVariants.{Force}
use Rattle.rt_events.specs.declared.outcome.Outcome.{Outcome}
use Rattle.rt_events.specs.declared.refusal.Refusal.{Refusal}
use Rattle.rt_events.specs.declared.refusal.Refusal.TheVariants.{Limit, Memory, NoSuchMessage, NoSuchNode, NodeDown, NothingToDo}
use Rattle.rt_hybrid.specs.Table.{OfflineTable}
use Rattle.rt_macros.specs.Doing.{Act, Gives, Happens, PassesOver}
use Rattle.rt_pause.specs.Forced.{Segment, segments_of}
use Rattle.rt_pause.specs.declared.replica_seen.ReplicaSeen.{ReplicaSeen}
use Rattle.rt_play.proofs.Keeping.{Keeps, choose_keeps, each_keeps, stay_keeps, then_keeps, tries_keeps}
use Rattle.rt_report.specs.BrokerTexts.{noquery_text}
use Rattle.rt_report.specs.FurtherTexts.{nooffline_text, paused_text, rehearsed_text, resumed_text}
use Rattle.rt_script.specs.declared.further.Further.{Further}
use Rattle.rt_script.specs.declared.further.Further.TheVariants as further
use Rattle.rt_script.specs.declared.query_text.QueryText.{QueryText}
use Rattle.rt_script.specs.declared.query_text.QueryText.TheVariants as asked
use Rattle.rt_state.specs.declared.state.State.{State}
use Rattle.rt_upconf.specs.declared.upsert_config.UpsertConfig.{UpsertConfig}
use Rattle.rt_world.specs.Reading.{replicas_seen}

module _ (P : State → Type 0) where
  -- ---- what is told

  pub beside_keeps : (desk : Desk) (act : Act (List ℕ)) → Keeps P act → Keeps P (Beside desk act)
  beside_keeps desk act f w v r k h = then_keeps P act (λ text. Gives (told desk text)) f (λ text u y s l g. stay_keeps P u y l g.0) w v r k h

  puts_keeps : {Part : Type 0} (put : Part → Desk) (act : Act (Changed Part)) → Keeps P act → Keeps P (Puts put act)
  puts_keeps put act f w v r k h = then_keeps P act (λ x. Gives (told (put x.part) x.text)) f (λ x u y s l g. stay_keeps P u y l g.0) w v r k h

  module _ (passes : Keeps P PassesOver) where
    pub counts_keeps : (text : List ℕ) → Keeps P (Counts text)
    counts_keeps text w v r k h = then_keeps P PassesOver (λ done. Gives text) passes (λ done u y s l g. stay_keeps P u y l g.0) w v r k h

    counts_as_keeps : {Part : Type 0} (part : Part) (text : List ℕ) → Keeps P (CountsAs part text)
    counts_as_keeps part text w v r k h = then_keeps P PassesOver (λ done. Gives (changed part text)) passes (λ done u y s l g. stay_keeps P u y l g.0) w v r k h

    -- ---- latest, offline and hybrid

    latest_keeps : (config : Option UpsertConfig) (text : QueryText) → Keeps P (LatestTold config text)
    latest_keeps None text w v r k h = stay_keeps P w v k h.0
    latest_keeps (Some config) (asked.Query query) w v r k h =
        then_keeps P PassesOver (GivesLatest config query) passes (λ done u y s l g. stay_keeps P u y l g.0) w v r k h
    latest_keeps (Some config) (asked.Refused number) w v r k h = counts_keeps (noquery_text number) w v r k h

    push_keeps : (rows : List ℕ) (table : OfflineTable) → Keeps P (PushLine rows table)
    push_keeps rows table w v r k h =
        choose_keeps P w (nat_lt (length table.files) MOST_EVENTS) _ _
        (λ y s g. then_keeps P PassesOver (PushTold rows table) passes (λ done u z t l f. stay_keeps P u z l f.tells.0) w y s k g)
        (λ y s g. stay_keeps P w y k g.0) v r h

    offline_keeps : (rows : List ℕ) (desk : Desk) (table : Option OfflineTable) → Keeps P (OfflineTold rows desk table)
    offline_keeps rows desk None w v r k h = beside_keeps desk (Counts (nooffline_text 1)) (counts_keeps (nooffline_text 1)) w v r k h
    offline_keeps rows desk (Some table) w v r k h =
        puts_keeps (λ new. record desk { hybrid = Some new }) (PushLine rows table) (push_keeps rows table) w v r k h

    hybrid_keeps : (table : Option OfflineTable) (text : QueryText) → Keeps P (HybridTold table text)
    hybrid_keeps None text w v r k h = counts_keeps (nooffline_text 1) w v r k h
    hybrid_keeps (Some table) (asked.Query query) w v r k h =
        then_keeps P PassesOver (GivesHybrid table query) passes (λ done u y s l g. stay_keeps P u y l g.0) w v r k h
    hybrid_keeps (Some table) (asked.Refused number) w v r k h = counts_keeps (noquery_text number) w v r k h

    -- ---- peer and rehearse

    peer_keeps : (i : Instance) (p : Partition) (q : Sequence) (found : Result (Option PeerFile) Refusal) → Keeps P (PeerBy i p q found)
    peer_keeps i p q (Ok file) w v r k h = counts_keeps (found_text i p q file) w v r k h
    peer_keeps i p q (Err refusal) w v r k h = stay_keeps P w v k h.0

    plan_keeps : {A : Type 0} (text : A → List ℕ) (plan : Option Plan) (found : Result A Refusal) → Keeps P (PlanTold text plan found)
    plan_keeps text plan (Ok x) w v r k h = counts_as_keeps plan (text x) w v r k h
    plan_keeps text plan (Err refusal) w v r k h = stay_keeps P w v k h.0

    status_keeps : (job : ℕ) (segments : Option (List Segment)) → Keeps P (StatusBy job segments)
    status_keeps job None w v r k h = stay_keeps P w v k h.0
    status_keeps job (Some segments) w v r k h =
        then_keeps P PassesOver (GivesPending job segments) passes (λ done u y s l g. stay_keeps P u y l g.0) w v r k h

    module _ (forces : (i : Instance) (p : Partition) (q : Sequence) → Keeps P (Happens (Force i p q))) where
      -- ---- forces

      after_force_keeps : (replica : ReplicaSeen) (noted : Noted) (came : Result Outcome Refusal) → Keeps P (AfterForce replica noted came)
      after_force_keeps replica noted (Ok outcome) w v r k h = stay_keeps P w v k h.0
      after_force_keeps replica noted (Err NothingToDo) w v r k h = stay_keeps P w v k h.0
      after_force_keeps replica noted (Err NoSuchMessage) w v r k h = stay_keeps P w v k h.0
      after_force_keeps replica noted (Err NoSuchNode) w v r k h = stay_keeps P w v k h.0
      after_force_keeps replica noted (Err NodeDown) w v r k h = stay_keeps P w v k h.0
      after_force_keeps replica noted (Err (Limit which)) w v r k h = stay_keeps P w v k h.0
      after_force_keeps replica noted (Err Memory) w v r k h = stay_keeps P w v k h.0

      force_keeps : (replica : ReplicaSeen) (noted : Noted) → Keeps P (ForcesOne replica noted)
      force_keeps replica noted w v r k h =
          tries_keeps P (Happens (Force replica.instance replica.partition replica.sequence)) (AfterForce replica noted)
          (forces replica.instance replica.partition replica.sequence) (after_force_keeps replica noted) w v r k h

      forces_keep : Keeps P ForcesAll
      forces_keep w v r k h = each_keeps P ForcesOne (replicas_seen w) [] force_keeps w v r k h

      -- ---- a line

      pub further_keeps : (said : Further) (desk : Desk) → Keeps P (FurtherTold said desk)
      further_keeps (further.Latest text) desk w v r k h = beside_keeps desk (LatestTold desk.upsert text) (latest_keeps desk.upsert text) w v r k h
      further_keeps (further.Offline rows) desk w v r k h = offline_keeps rows desk desk.hybrid w v r k h
      further_keeps (further.Hybrid text) desk w v r k h = beside_keeps desk (HybridTold desk.hybrid text) (hybrid_keeps desk.hybrid text) w v r k h
      further_keeps further.Pause desk w v r k h =
          puts_keeps (λ on. record desk { pause = on }) PauseTold
          (then_keeps P ForcesAll (λ forced. Gives (changed true (paused_text (length forced)))) forces_keep (λ forced u y s l g. stay_keeps P u y l g.0)) w v r k h
      further_keeps further.Resume desk w v r k h =
          puts_keeps (λ on. record desk { pause = on }) ResumeTold (counts_as_keeps false resumed_text) w v r k h
      further_keeps further.ForceCommit desk w v r k h =
          puts_keeps (λ jobs. record desk { jobs = jobs }) (ForceCommitTold desk.jobs)
          (then_keeps P ForcesAll (λ forced. Gives (with_job desk.jobs (segments_of forced))) forces_keep (λ forced u y s l g. stay_keeps P u y l g.0)) w v r k h
      further_keeps (further.ForceStatus job) desk w v r k h =
          beside_keeps desk (ForceStatusTold desk.jobs job) (status_keeps job (slice_get desk.jobs job)) w v r k h
      further_keeps (further.Peer i p q) desk w v r k h = beside_keeps desk (PeerTold i p q) (λ u. peer_keeps i p q (peer_of u i p q) u) w v r k h
      further_keeps (further.Rehearse servers keep) desk w v r k h =
          puts_keeps (with_plan desk) (RehearseTold servers keep desk.rehearsing)
          (λ u y s l g. plan_keeps planned_text g.plan g.found u y s l g.tells) w v r k h
      further_keeps (further.Loaded i p q) desk w v r k h =
          puts_keeps (with_plan desk) (LoadedTold i p q desk.rehearsing)
          (λ u. plan_keeps rehearsed_text (after_loaded u desk.rehearsing i p q) (loaded_of u desk.rehearsing i p q) u) w v r k h
      further_keeps further.Step desk w v r k h =
          puts_keeps (with_plan desk) (StepTold desk.rehearsing) (λ u y s l g. plan_keeps stepped_text g.plan g.found u y s l g.tells) w v r k h
