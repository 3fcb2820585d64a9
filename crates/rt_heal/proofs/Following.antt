-- In each world of a run each replica that is sent to a target can come to it.
use Rattle.std.proofs.Common.{◌≡◌, ◌<◌, ◌≤◌, ◌⊎◌, inl, inr, ℕ, zero, suc, Bool, true, List, [], ◌∷◌, Some, Result, Ok, sym, ◌∙◌, ap, subst, arith, length, slice_get}
use Rattle.std.specs.Map.{values_of}
use Rattle.std.proofs.lemmas.Bool.{cases_lt}
use Rattle.std.proofs.lemmas.Option.{none-some, same_Some}
use Rattle.rt_base.specs.declared.numbers.Instance.{Instance}
use Rattle.rt_base.specs.declared.numbers.Offset.{Offset}
use Rattle.rt_base.specs.declared.numbers.Partition.{Partition}
use Rattle.rt_base.specs.declared.numbers.Sequence.{Sequence}
use Rattle.rt_base.specs.declared.range.Range.{Range}
use Rattle.rt_consumer.specs.Consumer.{end_in, end_of, AreRows, IsPhase, IsStage}
use Rattle.rt_consumer.specs.declared.consumer.Consumer.{Consumer}
use Rattle.rt_consumer.specs.declared.phase.Phase.{Phase}
use Rattle.rt_consumer.specs.declared.phase.Phase.TheVariants as phase
use Rattle.rt_consumer.specs.declared.settings.Settings.{Settings}
use Rattle.rt_consumer.specs.declared.stage.Stage.{Stage}
use Rattle.rt_consumer.specs.declared.stage.Stage.TheVariants.{InitialConsuming, CatchingUp, Holding, ConsumingToOnline, Retaining, Building, Starting, Uploading, Ending}
use Rattle.rt_deep.specs.declared.deep_put.DeepPut.{DeepPut}
use Rattle.rt_entry.specs.declared.entry.Entry.{Entry}
use Rattle.rt_entry.specs.declared.entry.Entry.TheVariants.{Replica, Committed}
use Rattle.rt_entry.specs.Entry.{IsEntry}
use Rattle.rt_lists.specs.Members.{Has}
use Rattle.rt_lists.proofs.Lists.{All-found}
use Rattle.rt_lists.proofs.Members.{Has-place}
use Rattle.rt_macros.specs.Doing.{Reached}
use Rattle.rt_macros.specs.Settling.{Round, Settles}
use Rattle.rt_model.specs.declared.asked.Asked.{Asked}
use Rattle.rt_model.specs.declared.reply.Reply.{Reply}
use Rattle.rt_model.specs.declared.reply.ReplyStatus.TheVariants as status
use Rattle.rt_model.specs.declared.sent.Sent.TheVariants as sent
use Rattle.rt_model.specs.Setup.{IsSetup}
use Rattle.rt_model.specs.declared.seg_meta.SeenMeta.{SeenMeta}
use Rattle.rt_model.specs.declared.setup.Setup.{Setup}
use Rattle.rt_model.specs.declared.status.Status.{Status}
use Rattle.rt_mutable.specs.Consuming.{Consuming}
use Rattle.rt_nodes.specs.declared.server_node.ServerNode.{ServerNode}
use Rattle.rt_past.specs.IsPast.{IsPast}
use Rattle.rt_past.specs.Past.{Past}
use Rattle.rt_past.specs.Segments.{WasDone}
use Rattle.rt_past.proofs.Uploads.{found_file, right_upload}
use Rattle.rt_replica.specs.Lasting.{HasUploaded, IsReplica, ToldAt, ToldIn}
use Rattle.rt_replica.specs.Held.{HoldsIn}
use Rattle.rt_replica.proofs.Answered.{one_start}
use Rattle.rt_replica.proofs.Begins.{begun_within}
use Rattle.rt_safety.proofs.Later.{runs_are_safe}
use Rattle.rt_safety.specs.Runs.{Runs, Turn}
use Rattle.rt_segment.specs.Reading.{read_file}
use Rattle.rt_segment.specs.Segment.{SealedSegment, IsSealed}
use Rattle.rt_segment.specs.Spelling.{file_of}
use Rattle.rt_segment.specs.declared.segment_refused.SegmentRefused.{SegmentRefused}
use Rattle.rt_segment.proofs.FileLaws.{spelled_read}
use Rattle.rt_server.proofs.LastingTargets.{done_stored}
use Rattle.rt_server.specs.Lasting.{IsEntryOver}
use Rattle.rt_server.specs.Table.{Segment}
use Rattle.rt_state.specs.IsSafe.{past_of}
use Rattle.rt_state.specs.IsSafeWorld.{IsSafeWorld}
use Rattle.rt_state.specs.declared.state.State.{State}
use Rattle.rt_stream.specs.Log.{messages_of}
use Rattle.rt_heal.specs.Asks.{Asks}
use Rattle.rt_heal.specs.AtRest.{AreUp}
use Rattle.rt_heal.specs.Calm.{AreAllCalm}
use Rattle.rt_heal.specs.Dropped.{IsOut, IsToldSo}
use Rattle.rt_heal.specs.Left.{left_in_world, CanAllFollow, CanFollowAt, CanFollowEntry, CanFollowIn}
use Rattle.rt_heal.specs.Reachable.{ComesTo, IsReachable}
use Rattle.rt_heal.proofs.AskedRuns.{instance, EntryIn}
use Rattle.rt_heal.proofs.Dropped.{runs_told, IsToldRightly}
use Rattle.rt_heal.proofs.LessRounds.{round_less, settle_ends}
use Rattle.rt_heal.proofs.MachineRuns.{AreAskedSo}
use Rattle.rt_heal.proofs.Phases.{PhaseSo, StageSo}

value_at : (es : List (Segment × Entry)) (k : ℕ) (x : Segment × Entry) → slice_get es k ≡ Some x → slice_get (values_of es) k ≡ Some x.1
value_at [] k x e = absurd (none-some x e)
value_at (y ∷ es) zero x e = ap (λ (z : Segment × Entry). Some z.1) (same_Some y x e)
value_at (y ∷ es) (suc k) x e = value_at es k x e

-- ---- the end of a commit

abbrev file_read : SealedSegment → Result SealedSegment SegmentRefused
file_read x = Ok x

same_read : (x y : SealedSegment) → file_read x ≡ file_read y → x ≡ y
same_read x y e = cc

-- one file is spelled in one way
same_file : (x y : SealedSegment) (bytes : List ℕ) → IsSealed x → IsSealed y → bytes ≡ file_of x → bytes ≡ file_of y → x ≡ y
same_file x y bytes is also first second =
    same_read x y
    (sym (spelled_read x is) ∙ ap read_file (sym first) ∙ ap read_file second ∙ spelled_read y also)

module _ (setup : Setup) (past : Past) (right : IsPast setup past) (asked : AreAskedSo setup past) where
  -- a replica could come to it: the one that uploaded the file
  end_comes : (p : Partition) (q : Sequence) (done : SeenMeta) (end : Offset) → WasDone past.history p q done → end_of done ≡ Some end → ComesTo setup past p q end
  end_comes p q done end was told =
      let k = done_stored setup past p q done right was in
      let same : k.commit.end ≡ end = same_Some k.commit.end end (ap (λ (st : Status). end_in st) (sym k.status) ∙ told) in
      let file : DeepPut = record { path = k.commit.path; bytes = k.stored.bytes } in
      let put = right_upload setup past file right (found_file past.files k.commit.path file k.stored.stands).0 in
      let own = k.stored.right.file in
      let up = put.right.file in
      let one = same_file own.segment up.segment k.stored.bytes own.«sealed» up.«sealed» own.spelled up.spelled in
      let at_p : put.request.partition ≡ p = sym up.header.0 ∙ ap (λ (x : SealedSegment). x.partition) (sym one) ∙ own.header.0 in
      let at_q : put.request.sequence ≡ q = sym up.header.1 ∙ ap (λ (x : SealedSegment). x.sequence) (sym one) ∙ own.header.1 in
      let at_end : put.request.offset ≡ end =
      ap (λ (x : Range). x.end) (sym up.header.2 ∙ ap (λ (x : SealedSegment). x.range) (sym one) ∙ own.header.2) ∙ same in
      subst (λ (x : Partition). ComesTo setup past x q end) at_p
      (subst (λ (y : Sequence). ComesTo setup past put.request.partition y end) at_q
      (subst (λ (o : Offset). ComesTo setup past put.request.partition put.request.sequence o) at_end (asked put.request put.was_sent)))

  -- ---- a replica

  module _ (i : Instance) (incarnation : ℕ) (r : Consumer) (is : IsReplica setup past i incarnation r) where
    abbrev Reaches : Offset → Type 0
    Reaches = IsReachable r.settings.schema (messages_of past.log r.partition) r.start

    -- from where it starts
    reaches_from : (x : Offset) → r.start.0 < x.0 → ComesTo setup past r.partition r.sequence x → Reaches x
    reaches_from x beyond k =
        let same : k.start ≡ r.start = one_start setup past r.partition r.sequence k.start r.start right is.partition k.begun is.begun in
        let there = k.reaches (subst (λ (o : Offset). o.0 < x.0) (sym same) beyond) in
        subst (λ (z : Settings). IsReachable z.schema (messages_of past.log r.partition) r.start x) (sym is.settings)
        (subst (λ (o : Offset). IsReachable setup.schema (messages_of past.log r.partition) o x) same there)

    stage_follows : (rows : Consuming) (stage : Stage) (Up : Offset → SealedSegment → List ℕ → Type 0) → AreRows r.settings r.start rows → r.start.0 ≤ rows.end.0
        → IsStage r.settings r.partition r.sequence rows stage → StageSo (ComesTo setup past r.partition r.sequence) stage
        → ToldAt (WasDone past.history r.partition r.sequence) Up rows.end stage → CanFollowAt Reaches stage
    stage_follows rows (CatchingUp target reason) Up k on stage so told = reaches_from target (omega (arith, on, stage.1)) so
    stage_follows rows (ConsumingToOnline end done) Up k on stage so told =
        reaches_from end (omega (arith, on, stage.0)) (end_comes r.partition r.sequence done end told stage.1)
    stage_follows rows InitialConsuming Up k on stage so told = tt
    stage_follows rows (Holding reason) Up k on stage so told = tt
    stage_follows rows (Retaining done) Up k on stage so told = tt
    stage_follows rows (Building reason) Up k on stage so told = tt
    stage_follows rows (Starting reason built) Up k on stage so told = tt
    stage_follows rows (Uploading reason built) Up k on stage so told = tt
    stage_follows rows (Ending reason built path) Up k on stage so told = tt

    -- by its phase, whatever else is told of it
    phase_follows : (ph : Phase) (O : Type 0) (Up : Offset → SealedSegment → List ℕ → Type 0) → PhaseSo (ComesTo setup past r.partition r.sequence) O ph
        → IsPhase r.settings r.partition r.sequence r.start ph → HoldsIn r.settings.schema (messages_of past.log r.partition) r.start ph
        → ToldIn (WasDone past.history r.partition r.sequence) Up ph → CanFollowIn Reaches ph
    phase_follows (phase.Unsealed o) O Up so own held told = stage_follows o.rows o.stage Up own.0 held.ordered own.1 so.1 told
    phase_follows (phase.Retained kept) O Up so own held told = tt
    phase_follows (phase.Committed kept) O Up so own held told = tt
    phase_follows (phase.Discarded d) O Up so own held told = tt

-- ---- a world

module _ (w : State) (s : IsSafeWorld w) (k : IsToldRightly w) (i : ℕ) (n : ServerNode) (there : slice_get w.servers i ≡ Some n) where
  entry_follows : (x : Segment) (e : Entry) → IsEntry n.server.setup e → IsEntryOver w.setup (past_of w) n.server.numbers.instance n.server.numbers.incarnation x e
      → EntryIn w.setup (past_of w) (instance i) x e → CanFollowEntry w.log e
  entry_follows x (Replica r) is over so =
      phase_follows w.setup (past_of w) s.safe.past k.asked n.server.numbers.instance n.server.numbers.incarnation r over.1 r.phase
      (IsOut w.store.writes x.0 x.1 (instance i))
      (HasUploaded w.setup (past_of w) n.server.numbers.instance n.server.numbers.incarnation r.partition r.sequence r.start)
      (subst (λ (y : Segment). PhaseSo (ComesTo w.setup (past_of w) y.0 y.1) (IsOut w.store.writes x.0 x.1 (instance i)) r.phase) (sym over.0) so)
      is.0.phase over.1.held over.1.told
  entry_follows x (Committed c) is over so = tt

  pub all_follow : (x : Segment × Entry) → Has n.server.table.entries x → CanFollowEntry w.log x.1
  all_follow x has =
      let over = (s.safe.servers i n there).over in
      let place = Has-place n.server.table.entries x has in
      entry_follows x.0 x.1
      (All-found (IsEntry n.server.setup) (values_of n.server.table.entries) place.0 x.1 over.kept.entries (value_at n.server.table.entries place.0 x place.1))
      (over.entries x has) (k.replicas i n there x has)

pub follows : (setup : Setup) (turns : List Turn) (w : State) → IsSetup setup → Runs setup turns w → CanAllFollow w
follows setup turns w is run i n there = all_follow w (runs_are_safe setup turns w is run) (runs_told setup turns w is run) i n there

-- CATCH_UP names an offset that a replica can come to, and so within the log
pub catches_comes : (setup : Setup) (turns : List Turn) (w : State) (r : Reply) (x : Offset) → IsSetup setup → Runs setup turns w → Has w.sent (sent.Reply r)
    → r.status ≡ status.CatchUp x → ComesTo w.setup (past_of w) r.partition r.sequence x
catches_comes setup turns w r x is run has catches =
    let y = (runs_are_safe setup turns w is run).safe.past.replies r has in
    let so = (runs_told setup turns w is run).told y.request r y.was_sent has (ap (λ (a : Asked). a.number) y.answers) in
    subst (λ (a : Asked). ComesTo w.setup (past_of w) a.partition a.sequence x) y.answers
    (subst (IsToldSo w.setup (past_of w) y.request) catches so)

pub catches_within : (setup : Setup) (turns : List Turn) (w : State) (r : Reply) (x : Offset) → IsSetup setup → Runs setup turns w → Has w.sent (sent.Reply r)
    → r.status ≡ status.CatchUp x → x.0 ≤ length (messages_of w.log r.partition)
catches_within setup turns w r x is run has catches = by_place (cases_lt k.start.0 x.0)
  where
    k : ComesTo w.setup (past_of w) r.partition r.sequence x
    k = catches_comes setup turns w r x is run has catches

    s : IsSafeWorld w
    s = runs_are_safe setup turns w is run

    inside : r.partition.0 < w.setup.partitions
    inside =
        let y = s.safe.past.replies r has in
        subst (λ (a : Asked). a.partition.0 < w.setup.partitions) y.answers (s.safe.past.requests y.request y.was_sent).partition

    by_place : (k.start.0 < x.0) ⊎ (x.0 ≤ k.start.0) → x.0 ≤ length (messages_of w.log r.partition)
    by_place (inl beyond) = (k.reaches beyond).within
    by_place (inr before) = omega (arith, before, begun_within w.setup (past_of w) r.partition s.safe.past inside r.sequence k.start k.begun)

-- ---- so settle ends, where no replica asks

pub round_less_in_runs : (setup : Setup) (turns : List Turn) (paused : Bool) (w : State) (v : Reached) → IsSetup setup → Runs setup turns w → AreUp w
    → w.store.faults.plan ≡ [] → AreAllCalm w → Round paused w v (Ok true) → Asks w v ⊎ (left_in_world v.world < left_in_world w)
round_less_in_runs setup turns paused w v is run up unplanned calm h =
    round_less paused w v (runs_are_safe setup turns w is run) up unplanned calm (follows setup turns w is run) h

pub settle_ends_in_runs : (setup : Setup) (turns : List Turn) (paused : Bool) (rounds : ℕ) (w : State) (v : Reached) (settled : Bool) → IsSetup setup
    → Runs setup turns w → AreUp w → w.store.faults.plan ≡ [] → AreAllCalm w → left_in_world w < rounds
    → Settles paused rounds w v (Ok settled) → Asks w v ⊎ (settled ≡ true)
settle_ends_in_runs setup turns paused rounds w v settled is run up unplanned calm few h =
    settle_ends paused rounds w v settled (runs_are_safe setup turns w is run) up unplanned calm (follows setup turns w is run) few h
