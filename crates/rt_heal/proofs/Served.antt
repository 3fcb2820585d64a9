-- What a server at rest serves of a segment that it is to have.
use Rattle.std.proofs.Common.{◌≡◌, ℕ, ◌<◌, ◌≤◌, ◌⊎◌, inl, inr, Bool, true, false, ◌&&◌, ◌||◌, length, Option, Some, None, refl, sym, ◌∙◌, ap, subst, arith}
use Rattle.std.specs.Prelude.{nat_lt, is_some, IfSome, Result, Ok, Err}
use Rattle.std.specs.Map.{lookup}
use Rattle.std.proofs.lemmas.Bool.{and_cases, eq-eqb, lt-ltb, ltb-false, or_parts, true≢false}
use Rattle.std.proofs.lemmas.Option.{same_Some}
use Rattle.rt_base.specs.declared.numbers.Moment.{Moment}
use Rattle.rt_base.specs.declared.numbers.Offset.{Offset}
use Rattle.rt_base.specs.declared.numbers.Partition.{Partition}
use Rattle.rt_base.specs.declared.numbers.Sequence.{Sequence}
use Rattle.rt_consumer.specs.Batch.{is_timed_out}
use Rattle.rt_consumer.specs.Consumer.{IsConsumer, IsKept, IsPhase, at, cur, cur_in, end_in, end_of as done_end, state_at, state_of}
use Rattle.rt_consumer.specs.Next.{takes_in}
use Rattle.rt_consumer.specs.Requests.{asks_now, builds_in, is_below_target, is_ready}
use Rattle.rt_consumer.specs.declared.consumer.Consumer.{Consumer}
use Rattle.rt_consumer.specs.declared.phase.CommittedFile.{CommittedFile}
use Rattle.rt_consumer.specs.declared.phase.Phase.{Phase}
use Rattle.rt_consumer.specs.declared.phase.Phase.TheVariants as phase
use Rattle.rt_consumer.specs.declared.stage.Stage.{Stage}
use Rattle.rt_consumer.specs.declared.stage.Stage.TheVariants.{InitialConsuming, CatchingUp, Holding, ConsumingToOnline, Retaining, Building, Starting, Uploading, Ending}
use Rattle.rt_entry.specs.Entry.{wanted_by}
use Rattle.rt_entry.specs.Serving.{serve_file, serve_loaded, serve_phase, serve_rows}
use Rattle.rt_entry.specs.Transition.{is_due, is_open}
use Rattle.rt_entry.specs.declared.entry.Entry.{Entry}
use Rattle.rt_entry.specs.declared.entry.Entry.TheVariants.{Replica, Committed}
use Rattle.rt_entry.specs.declared.entry.CommittedSegment.{CommittedSegment}
use Rattle.rt_entry.specs.declared.refused.ServeRefused.{ServeRefused}
use Rattle.rt_entry.specs.declared.refused.ServeRefused.TheVariants.{NotServed}
use Rattle.rt_entry.specs.declared.served_rows.ServedRows.{ServedRows}
use Rattle.rt_lists.specs.Members.{Has}
use Rattle.rt_model.proofs.Chains.{IsDone-final}
use Rattle.rt_model.specs.Entries.{entries_of}
use Rattle.rt_model.specs.Ideal.{mode_of}
use Rattle.rt_model.proofs.Lawful.{has_chains}
use Rattle.rt_model.proofs.Listings.{listed_has}
use Rattle.rt_model.specs.Metadata.{metadata_of, listed_write, node_key, IsDoneStatus, IsEndFrom, IsInProgress}
use Rattle.rt_model.specs.Setup.{IsSetup}
use Rattle.rt_model.specs.declared.replica_state.ReplicaState.TheVariants as state
use Rattle.rt_model.specs.Plan.{piece_of}
use Rattle.rt_model.specs.declared.commit.Commit.{Commit}
use Rattle.rt_model.specs.declared.ideal_state.Mode.{Mode}
use Rattle.rt_model.specs.declared.ideal_state.Mode.TheVariants as mode
use Rattle.rt_model.specs.declared.node.Listed.{Listed}
use Rattle.rt_model.specs.declared.node.Node.TheVariants as node
use Rattle.rt_model.specs.declared.node.Seen.{Seen}
use Rattle.rt_model.specs.declared.piece.Piece.{Piece}
use Rattle.rt_model.specs.declared.seg_meta.SeenMeta.{SeenMeta}
use Rattle.rt_model.specs.declared.seg_meta.SegMeta.{SegMeta}
use Rattle.rt_model.specs.declared.setup.Setup.{Setup}
use Rattle.rt_model.specs.declared.status.Status.{Status}
use Rattle.rt_model.specs.declared.status.Status.TheVariants.{InProgress, Done, Abandoned}
use Rattle.rt_past.specs.Files.{range_to}
use Rattle.rt_past.specs.IsPast.{IsPast}
use Rattle.rt_past.specs.Past.{Past}
use Rattle.rt_past.specs.Segments.{IsBegun, WasDone}
use Rattle.rt_mutable.specs.Consuming.{Consuming}
use Rattle.rt_replica.specs.Held.{HoldsIn}
use Rattle.rt_replica.specs.Lasting.{IsReplica, IsToldIn}
use Rattle.rt_scan.specs.Scanned.{rows_before}
use Rattle.rt_segment.specs.Segment.{SealedSegment, rows_of}
use Rattle.rt_server.specs.Lasting.{IsCommittedOver, IsLoaded, IsServerOver}
use Rattle.rt_server.specs.Serving.{serve, serve_at}
use Rattle.rt_server.specs.Table.{Segment, ServerState, segment_of, entry_of, is_segment, replica_at, target_of, wants_at}
use Rattle.rt_server.proofs.Kept.{replica_found}
use Rattle.rt_server.proofs.LastingEntries.{found_over, replica_held, segment}
use Rattle.rt_server.proofs.LastingServes.{serves_right}
use Rattle.rt_server.proofs.LastingTargets.{done_stored}
use Rattle.rt_server.proofs.Listed.{targets_tell}
use Rattle.rt_store.specs.Contents.{starting_of}
use Rattle.rt_stream.specs.Log.{end_of, messages_of}
use Rattle.rt_heal.specs.Resting.{HasDropped, HasTakenAll, IsIdle, RestsOver, ServesOver}
use Rattle.rt_heal.proofs.Asked.{mode_asked}
use Rattle.rt_heal.proofs.Listed.{created_start, ended_once, start_is}
use Rattle.rt_heal.proofs.Mended.{open_unended, present_grounded}

abbrev done_of : Commit → Status
done_of commit = Done commit

same_commit : (a b : Commit) → done_of a ≡ done_of b → a ≡ b
same_commit a b e = cc

same_meta : (a b : SegMeta) → node.Meta a ≡ node.Meta b → a ≡ b
same_meta a b e = cc

same_offset : (a b : Offset) → a.0 ≡ b.0 → a ≡ b
same_offset a b e = let f : ℕ → Offset = λ n. record { 0 = n } in ap f e

abbrev served_as : ServedRows → Result ServedRows ServeRefused
served_as x = Ok x

abbrev refused_as : ServeRefused → Result ServedRows ServeRefused
refused_as e = Err e

refused_not : (x : ServedRows) (e : ServeRefused) → served_as x ≡ refused_as e → ⊥
refused_not x e h = cc

served_same : (x y : ServedRows) → served_as x ≡ served_as y → x ≡ y
served_same x y h = cc

pub stage_not : (stage : Stage) → state_at stage ≡ state.Discarded → ⊥
stage_not InitialConsuming e = cc
stage_not (CatchingUp target reason) e = cc
stage_not (Holding reason) e = cc
stage_not (ConsumingToOnline end done) e = cc
stage_not (Retaining done) e = cc
stage_not (Building reason) e = cc
stage_not (Starting reason built) e = cc
stage_not (Uploading reason built) e = cc
stage_not (Ending reason built path) e = cc

-- one that has dropped its rows serves nothing
dropped_gives : (served : ServedRows) (piece : Piece) (ph : Phase) → state_of ph ≡ state.Discarded → served_as served ≡ serve_phase piece ph → ⊥
dropped_gives served piece (phase.Unsealed o) dropped gives = stage_not o.stage dropped
dropped_gives served piece (phase.Retained kept) dropped gives = absurd (cc)
dropped_gives served piece (phase.Committed kept) dropped gives = absurd (cc)
dropped_gives served piece (phase.Discarded x) dropped gives = refused_not served (NotServed None) gives

-- ---- a replica that has no message to take

not_ready : (a b : ℕ) (below timed : Bool) → (nat_lt a b && below) || timed ≡ false → below ≡ true → b ≤ a
not_ready a b below timed h is = by_both (and_cases (nat_lt a b) below (or_parts (nat_lt a b && below) timed h).0)
  where
    by_both : (nat_lt a b ≡ false) ⊎ (below ≡ false) → b ≤ a
    by_both (inl less) = ltb-false a b less
    by_both (inr other) = absurd (true≢false (sym is ∙ other))

-- ---- what is sealed

file_serves : (piece : Piece) (file : SealedSegment) (end : Offset) → piece.end ≡ Some end → end ≡ file.range.end → piece.start ≡ file.range.start
    → serve_file piece file ≡ Ok (record { range = range_to piece.start end; rows = rows_of file })
file_serves piece file end told last first =
    let ends = eq-eqb end.0 file.range.end.0 (ap (λ (x : Offset). x.0) last) in
    let starts = eq-eqb piece.start.0 file.range.start.0 (ap (λ (x : Offset). x.0) first) in
    rw (told, ends, starts)

-- rows by column are served as far as they go
open_serves : (piece : Piece) (rows : Consuming) → piece.end ≡ None → piece.start ≡ rows.start
    → serve_rows piece rows ≡ Ok (record { range = range_to piece.start rows.end; rows = rows_before rows.end rows })
open_serves piece rows told first =
    let starts = eq-eqb piece.start.0 rows.start.0 (ap (λ (x : Offset). x.0) first) in rw (told, starts)

module _ (setup : Setup) (past : Past) (now : Moment) (p : Partition) (l : Listed) (right : IsPast setup past) (within : p.0 < setup.partitions)
    (has : Has (metadata_of past.history p) l) where
  -- a commit of the segment is the one that is listed
  done_listed : (done : SeenMeta) → WasDone past.history p l.sequence done → done.meta ≡ l.seen.meta
  done_listed done was =
      let written = listed_write p (record { sequence = l.sequence; seen = done }) in
      let same =
      ended_once (starting_of setup) past.history p right.lawful within l written has
      (record { has = was.0; is_of = refl; final = IsDone-final (node.Meta done.meta) was.1 }) in
      same_meta done.meta l.seen.meta (ap (λ (w : Seen). w.node) same)

  -- its end is told
  end_listed : (commit : Commit) (done : SeenMeta) (end : Offset) → l.seen.meta.status ≡ Done commit → WasDone past.history p l.sequence done → done_end done ≡ Some end
      → commit.end ≡ end
  end_listed commit done end status was told =
      same_Some commit.end end (sym (ap (λ (m : SegMeta). end_in m.status) (done_listed done was) ∙ ap end_in status) ∙ told)

  -- none of a segment in progress was written
  not_done : (done : SeenMeta) → IsInProgress l.seen.meta.status → WasDone past.history p l.sequence done → ⊥
  not_done done going was = open_undone l.seen.meta.status going (subst (λ (m : SegMeta). IsDoneStatus m.status) (done_listed done was) was.1)
    where
      open_undone : (st : Status) → IsInProgress st → IsDoneStatus st → ⊥
      open_undone InProgress o d = d
      open_undone (Done commit) o d = o
      open_undone Abandoned o d = o

  -- it was begun where it is listed to start
  begun_start : (x : Offset) → IsBegun past.history p l.sequence x → x ≡ l.seen.meta.start
  begun_start x begun =
      let made = created_start (starting_of setup) past.history p right.lawful within l begun.0 has
      (record { has = begun.1; is_of = begun.2; starts = begun.3.0 }) in
      same_offset x l.seen.meta.start (sym begun.3.1 ∙ start_is l.seen.meta.start begun.0.node made)

  -- a commit ends past its start
  pub past_start : (commit : Commit) → l.seen.meta.status ≡ Done commit → l.seen.meta.start.0 < commit.end.0
  past_start commit status =
      let done : IsDoneStatus l.seen.meta.status = subst IsDoneStatus (sym status) tt in
      subst (IsEndFrom l.seen.meta.start) status
      ((has_chains (starting_of setup) past.history right.lawful p within).past_start l.sequence.0 (listed_write p l) (listed_has past.history p l has) refl done)

  -- the stream has all messages of a commit
  end_within : (done : SeenMeta) (end : Offset) → WasDone past.history p l.sequence done → done_end done ≡ Some end → end.0 ≤ length (messages_of past.log p)
  end_within done end was told =
      let d = done_stored setup past p l.sequence done right was in
      let same : d.commit.end ≡ end = same_Some d.commit.end end (sym (ap end_in d.status) ∙ told) in
      subst (λ (x : Offset). x.0 ≤ length (messages_of past.log p)) same d.stored.right.file.within.1

  module _ (s : ServerState) (k : IsServerOver setup past s) (rest : RestsOver past now s) where
    serves_over : (piece : Piece) (served : ServedRows) → IfSome piece.end (λ end. piece.start.0 ≤ end.0) → serve s.table piece ≡ Ok served
        → ServesOver setup past s.table piece served.range
    serves_over piece served order e = record { served = served; gives = e; whole = refl; rows = (serves_right setup past s k piece served order e).rows }

    abbrev TakesAll : Type 0
    TakesAll =
        HasTakenAll past s.table p l.sequence
        × ServesOver setup past s.table (piece_of p l None) (range_to l.seen.meta.start (end_of (messages_of past.log p)))

    -- the target is what the ideal state asks
    due_is : (m : Mode) → mode_of (entries_of past.history) p l.sequence s.numbers.instance ≡ Some m → is_due (Some m) (entry_of s.table p l.sequence) ≡ false
    due_is m e =
        let target : target_of s.table p l.sequence ≡ Some m =
        ap (lookup (is_segment p l.sequence)) rest.seen ∙ targets_tell s.numbers.instance (entries_of past.history) p l.sequence ∙ e in
        ap (λ (t : Option Mode). is_due t (entry_of s.table p l.sequence)) (sym target) ∙ rest.moved p l.sequence

    -- ---- a replica of the segment

    module _ (r : Consumer) (found : entry_of s.table p l.sequence ≡ Some (Replica r)) where
      held : (segment_of r ≡ segment p l.sequence) × IsConsumer r × IsReplica setup past s.numbers.instance s.numbers.incarnation r
      held = replica_held setup past s k p l.sequence r (ap replica_at found)

      idle : IsIdle past.log now r
      idle = rest.replicas p l.sequence r (ap replica_at found)

      of_partition : r.partition ≡ p
      of_partition = ap (λ (x : Segment). x.0) held.0

      phase_is : (ph : Phase) → r.phase ≡ ph → IsPhase r.settings r.partition r.sequence r.start ph
      phase_is ph e = subst (IsPhase r.settings r.partition r.sequence r.start) e held.1.phase

      holds : (ph : Phase) → r.phase ≡ ph → HoldsIn r.settings.schema (messages_of past.log r.partition) r.start ph
      holds ph e = subst (HoldsIn r.settings.schema (messages_of past.log r.partition) r.start) e held.2.held

      told_is : (ph : Phase) → r.phase ≡ ph → IsToldIn setup past s.numbers.instance s.numbers.incarnation r.partition r.sequence r.start ph
      told_is ph e = subst (IsToldIn setup past s.numbers.instance s.numbers.incarnation r.partition r.sequence r.start) e held.2.told

      was_done : (done : SeenMeta) → WasDone past.history r.partition r.sequence done → WasDone past.history p l.sequence done
      was_done done was = subst (λ (x : Segment). WasDone past.history x.0 x.1 done) held.0 was

      start_listed : r.start ≡ l.seen.meta.start
      start_listed = begun_start r.start (subst (λ (x : Segment). IsBegun past.history x.0 x.1 r.start) held.0 held.2.begun)

      serves_as : (piece : Piece) (ph : Phase) → piece.partition ≡ p → piece.sequence ≡ l.sequence → r.phase ≡ ph → serve s.table piece ≡ serve_phase piece ph
      serves_as piece ph of at e =
          ap (λ (x : Segment). serve_at piece (entry_of s.table x.0 x.1)) (ap (λ q. segment piece.partition q) at ∙ ap (λ o. segment o l.sequence) of)
          ∙ ap (serve_at piece) found ∙ ap (serve_phase piece) e

      unready : (ph : Phase) → r.phase ≡ ph → takes_in (state_of ph) ≡ true → is_ready r (end_of (messages_of past.log r.partition)) now ≡ false
      unready ph e takes = by_both (and_cases (takes_in (state_of r.phase)) (is_ready r (end_of (messages_of past.log r.partition)) now) idle.taken)
        where
          by_both : (takes_in (state_of r.phase) ≡ false) ⊎ (is_ready r (end_of (messages_of past.log r.partition)) now ≡ false)
              → is_ready r (end_of (messages_of past.log r.partition)) now ≡ false
          by_both (inl none) = absurd (true≢false (sym takes ∙ ap (λ (x : Phase). takes_in (state_of x)) (sym e) ∙ none))
          by_both (inr ready) = ready

      -- one that takes messages has none left
      none_left : (ph : Phase) → r.phase ≡ ph → takes_in (state_of ph) ≡ true → is_below_target ph ≡ true → length (messages_of past.log p) ≤ (cur_in ph).0
      none_left ph e takes below =
          let none =
          not_ready (cur r).0 (length (messages_of past.log r.partition)) (is_below_target r.phase) (is_timed_out r.settings.millis r.started now r.start (cur r))
          (unready ph e takes) (ap is_below_target e ∙ below) in
          subst (λ (x : Phase). length (messages_of past.log p) ≤ (cur_in x).0) e
          (subst (λ (o : Partition). length (messages_of past.log o) ≤ (cur r).0) of_partition none)

      no_asking : (ph : Phase) → r.phase ≡ ph → asks_now ph ≡ true → ⊥
      no_asking ph e asks = true≢false (sym asks ∙ ap asks_now (sym e) ∙ idle.asked)

      no_building : (ph : Phase) → r.phase ≡ ph → builds_in ph ≡ true → ⊥
      no_building ph e builds = true≢false (sym builds ∙ ap builds_in (sym e) ∙ idle.built)

      -- none is on its way to the end of a commit
      none_going : (rows : Consuming) (end : Offset) (done : SeenMeta) → r.phase ≡ at rows (ConsumingToOnline end done) → ⊥
      none_going rows end done e =
          let ph = at rows (ConsumingToOnline end done) in
          let is = (phase_is ph e).1 in
          let most = end_within done end (was_done done (told_is ph e)) is.1 in
          let least = none_left ph e refl (lt-ltb rows.end.0 end.0 is.0) in
          omega (arith, is.0, most, least)

      sealed_serves : (commit : Commit) (kept : CommittedFile) → l.seen.meta.status ≡ Done commit → WasDone past.history p l.sequence kept.done
          → IsKept r.settings.schema r.partition r.sequence r.start kept
          → serve s.table (piece_of p l (Some commit.end)) ≡ serve_file (piece_of p l (Some commit.end)) kept.file
          → ServesOver setup past s.table (piece_of p l (Some commit.end)) (range_to l.seen.meta.start commit.end)
      sealed_serves commit kept status was is e =
          let order = past_start commit status in
          serves_over (piece_of p l (Some commit.end)) (record { range = range_to l.seen.meta.start commit.end; rows = rows_of kept.file }) (omega (arith, order))
          (e
          ∙ file_serves (piece_of p l (Some commit.end)) kept.file commit.end refl (end_listed commit kept.done kept.file.range.end status was is.told)
          (sym (is.first ∙ start_listed)))

      replica_serves : (commit : Commit) → l.seen.meta.status ≡ Done commit → is_open (state_of r.phase) ≡ false
          → ServesOver setup past s.table (piece_of p l (Some commit.end)) (range_to l.seen.meta.start commit.end)
      replica_serves commit status closed = by_phase r.phase refl
        where
          no_open : (ph : Phase) → r.phase ≡ ph → is_open (state_of ph) ≡ true → ⊥
          no_open ph e going = true≢false (sym going ∙ ap (λ (x : Phase). is_open (state_of x)) (sym e) ∙ closed)

          by_stage : (rows : Consuming) (stage : Stage) → r.phase ≡ at rows stage → ⊥
          by_stage rows InitialConsuming e = no_open (at rows InitialConsuming) e refl
          by_stage rows (CatchingUp target reason) e = no_open (at rows (CatchingUp target reason)) e refl
          by_stage rows (Holding reason) e = no_open (at rows (Holding reason)) e refl
          by_stage rows (ConsumingToOnline end done) e = none_going rows end done e
          by_stage rows (Retaining done) e = no_building (at rows (Retaining done)) e refl
          by_stage rows (Building reason) e = no_open (at rows (Building reason)) e refl
          by_stage rows (Starting reason built) e = no_open (at rows (Starting reason built)) e refl
          by_stage rows (Uploading reason built) e = no_open (at rows (Uploading reason built)) e refl
          by_stage rows (Ending reason built path) e = no_open (at rows (Ending reason built path)) e refl

          by_phase : (ph : Phase) → r.phase ≡ ph
              → ServesOver setup past s.table (piece_of p l (Some commit.end)) (range_to l.seen.meta.start commit.end)
          by_phase (phase.Unsealed o) e = absurd (by_stage o.rows o.stage e)
          by_phase (phase.Retained kept) e =
              sealed_serves commit kept status (was_done kept.done (told_is (phase.Retained kept) e)) (phase_is (phase.Retained kept) e)
              (serves_as (piece_of p l (Some commit.end)) (phase.Retained kept) refl refl e)
          by_phase (phase.Committed kept) e =
              sealed_serves commit kept status (was_done kept.done (told_is (phase.Committed kept) e)) (phase_is (phase.Committed kept) e)
              (serves_as (piece_of p l (Some commit.end)) (phase.Committed kept) refl refl e)
          by_phase (phase.Discarded d) e = absurd (no_open (phase.Discarded d) e refl)

      -- one that takes messages has taken all, and serves them
      takes_all : (rows : Consuming) (stage : Stage) → r.phase ≡ at rows stage → takes_in (state_at stage) ≡ true → is_below_target (at rows stage) ≡ true
          → TakesAll
      takes_all rows stage e takes below =
          let least = none_left (at rows stage) e takes below in
          let most = subst (λ (o : Partition). rows.end.0 ≤ length (messages_of past.log o)) of_partition (holds (at rows stage) e).within in
          let end : rows.end ≡ end_of (messages_of past.log p) = same_offset rows.end (end_of (messages_of past.log p)) (omega (arith, least, most)) in
          let first : l.seen.meta.start ≡ rows.start = sym ((phase_is (at rows stage) e).0.first ∙ start_listed) in
          let order = (holds (at rows stage) e).ordered in (
            record { replica = r; there = ap replica_at found; takes = ap (λ (x : Phase). takes_in (state_of x)) e ∙ takes; all = ap cur_in e ∙ end },
            subst (λ (x : Offset). ServesOver setup past s.table (piece_of p l None) (range_to l.seen.meta.start x)) end
                (serves_over (piece_of p l None) (record { range = range_to l.seen.meta.start rows.end; rows = rows_before rows.end rows }) tt
                (serves_as (piece_of p l None) (at rows stage) refl refl e ∙ open_serves (piece_of p l None) rows refl first)),
          )

      replica_takes : IsInProgress l.seen.meta.status → TakesAll ⊎ HasDropped s.table p l.sequence
      replica_takes going = by_phase r.phase refl
        where
          by_stage : (rows : Consuming) (stage : Stage) → r.phase ≡ at rows stage → TakesAll
          by_stage rows InitialConsuming e = takes_all rows InitialConsuming e refl refl
          by_stage rows (CatchingUp target reason) e =
              takes_all rows (CatchingUp target reason) e refl (lt-ltb rows.end.0 target.0 (phase_is (at rows (CatchingUp target reason)) e).1.1)
          by_stage rows (Holding reason) e = absurd (no_asking (at rows (Holding reason)) e refl)
          by_stage rows (ConsumingToOnline end done) e = absurd (none_going rows end done e)
          by_stage rows (Retaining done) e = absurd (no_building (at rows (Retaining done)) e refl)
          by_stage rows (Building reason) e = absurd (no_building (at rows (Building reason)) e refl)
          by_stage rows (Starting reason built) e = absurd (no_asking (at rows (Starting reason built)) e refl)
          by_stage rows (Uploading reason built) e = absurd (no_asking (at rows (Uploading reason built)) e refl)
          by_stage rows (Ending reason built path) e = absurd (no_asking (at rows (Ending reason built path)) e refl)

          by_phase : (ph : Phase) → r.phase ≡ ph → TakesAll ⊎ HasDropped s.table p l.sequence
          by_phase (phase.Unsealed o) e = inl (by_stage o.rows o.stage e)
          by_phase (phase.Retained kept) e = absurd (not_done kept.done going (was_done kept.done (told_is (phase.Retained kept) e)))
          by_phase (phase.Committed kept) e = absurd (not_done kept.done going (was_done kept.done (told_is (phase.Committed kept) e)))
          by_phase (phase.Discarded d) e = inr (record { replica = r; there = ap replica_at found; dropped = ap state_of e })

    -- ---- a committed segment

    module _ (c : CommittedSegment) (found : entry_of s.table p l.sequence ≡ Some (Committed c)) where
      over : IsCommittedOver setup past s.numbers.instance p l.sequence c
      over = found_over setup past s k p l.sequence (Committed c) found

      file_there : (o : Option SealedSegment) → c.file ≡ o → (file : SealedSegment) × (c.file ≡ Some file)
      file_there (Some file) e = (file, e)
      file_there None e = absurd (wanted c.done.meta.status over.done.1 (ap (λ o. is_some (wanted_by o c.done.meta.status)) (sym e) ∙ loaded))
        where
          loaded : is_some (wanted_by c.file c.done.meta.status) ≡ false
          loaded = sym (ap wants_at found) ∙ rest.loaded p l.sequence

          wanted : (status : Status) → IsDoneStatus status → is_some (wanted_by None status) ≡ false → ⊥
          wanted InProgress done w = done
          wanted (Done commit) done w = true≢false w
          wanted Abandoned done w = done

      loaded_serves : (commit : Commit) → l.seen.meta.status ≡ Done commit
          → ServesOver setup past s.table (piece_of p l (Some commit.end)) (range_to l.seen.meta.start commit.end)
      loaded_serves commit status =
          let file = file_there c.file refl in
          let loaded = subst (λ (o : Option SealedSegment). IfSome o (IsLoaded setup past p l.sequence c.done)) file.1 over.loaded in
          let order = past_start commit status in
          let piece = piece_of p l (Some commit.end) in
          let start : l.seen.meta.start ≡ file.0.range.start = sym (loaded.kept.first ∙ ap (λ (m : SegMeta). m.start) (done_listed c.done over.done)) in
          serves_over piece (record { range = range_to l.seen.meta.start commit.end; rows = rows_of file.0 }) (omega (arith, order))
          (ap (serve_at piece) found ∙ ap (serve_loaded piece) file.1
          ∙ file_serves piece file.0 commit.end refl (end_listed commit c.done file.0.range.end status over.done loaded.kept.told) start)

    -- ---- what it is to have

    -- an ONLINE segment is served whole
    pub online_serves : (commit : Commit) → l.seen.meta.status ≡ Done commit
        → mode_of (entries_of past.history) p l.sequence s.numbers.instance ≡ Some mode.Online
        → ServesOver setup past s.table (piece_of p l (Some commit.end)) (range_to l.seen.meta.start commit.end)
    online_serves commit status e = by_entry (entry_of s.table p l.sequence) refl (due_is mode.Online e)
      where
        by_entry : (o : Option Entry) → entry_of s.table p l.sequence ≡ o → is_due (Some mode.Online) o ≡ false
            → ServesOver setup past s.table (piece_of p l (Some commit.end)) (range_to l.seen.meta.start commit.end)
        by_entry None found due = absurd (true≢false due)
        by_entry (Some (Replica r)) found due = replica_serves r found commit status due
        by_entry (Some (Committed c)) found due = loaded_serves c found commit status

    -- one that it is to consume is taken up to its end, or was dropped
    pub consuming_takes : IsInProgress l.seen.meta.status → mode_of (entries_of past.history) p l.sequence s.numbers.instance ≡ Some mode.Consuming
        → TakesAll ⊎ HasDropped s.table p l.sequence
    consuming_takes going e = by_entry (entry_of s.table p l.sequence) refl (due_is mode.Consuming e)
      where
        by_entry : (o : Option Entry) → entry_of s.table p l.sequence ≡ o → is_due (Some mode.Consuming) o ≡ false → TakesAll ⊎ HasDropped s.table p l.sequence
        by_entry None found due = absurd (true≢false due)
        by_entry (Some (Replica r)) found due = replica_takes r found going
        by_entry (Some (Committed c)) found due = absurd (not_done c.done going (over c found).done)

    -- whoever serves it serves it up to the stream's end
    pub going_served : IsSetup setup → IsInProgress l.seen.meta.status → (served : ServedRows) → serve s.table (piece_of p l None) ≡ Ok served
        → served.range ≡ range_to l.seen.meta.start (end_of (messages_of past.log p))
    going_served is going served e = by_mode (mode_of (entries_of past.history) p l.sequence s.numbers.instance) refl
      where
        target : target_of s.table p l.sequence ≡ mode_of (entries_of past.history) p l.sequence s.numbers.instance
        target = ap (lookup (is_segment p l.sequence)) rest.seen ∙ targets_tell s.numbers.instance (entries_of past.history) p l.sequence

        not_due : (o : Option Mode) → mode_of (entries_of past.history) p l.sequence s.numbers.instance ≡ o → is_due o (entry_of s.table p l.sequence) ≡ false
        not_due o m = ap (λ (t : Option Mode). is_due t (entry_of s.table p l.sequence)) (sym (target ∙ m)) ∙ rest.moved p l.sequence

        -- it has an entry, of which a transition would be due
        by_entry : (x : Option Entry) → entry_of s.table p l.sequence ≡ x → (o : Option Mode) → is_due o x ≡ false → ((y : Entry) → is_due o (Some y) ≡ true) → ⊥
        by_entry None found o due always = refused_not served (NotServed None) (sym e ∙ ap (serve_at (piece_of p l None)) found)
        by_entry (Some y) found o due always = true≢false (sym (always y) ∙ due)

        dropped_not : HasDropped s.table p l.sequence → ⊥
        dropped_not d =
            let there = replica_found (entry_of s.table p l.sequence) d.replica d.there in
            dropped_gives served (piece_of p l None) d.replica.phase d.dropped (sym e ∙ ap (serve_at (piece_of p l None)) there)

        by_takes : TakesAll ⊎ HasDropped s.table p l.sequence → served.range ≡ range_to l.seen.meta.start (end_of (messages_of past.log p))
        by_takes (inl takes) =
            ap (λ (x : ServedRows). x.range) (served_same served takes.1.served (sym e ∙ takes.1.gives)) ∙ takes.1.whole
        by_takes (inr dropped) = absurd (dropped_not dropped)

        by_online : mode_of (entries_of past.history) p l.sequence s.numbers.instance ≡ Some mode.Online → ⊥
        by_online m =
            let a = mode_asked (entries_of past.history) p l.sequence s.numbers.instance mode.Online m in
            let done = (present_grounded (starting_of setup) past.history right.lawful a.entry a.there).done a.mode in
            let of_key : node_key a.entry.partition a.entry.sequence.0 ≡ node_key p l.sequence.0 =
            ap (λ x. node_key x a.entry.sequence.0) a.partition ∙ ap (λ (x : Sequence). node_key p x.0) a.sequence in
            open_unended setup past now p is right within l has going (done.0, done.1, done.2 ∙ of_key, IsDone-final done.0.node done.3)

        by_mode : (o : Option Mode) → mode_of (entries_of past.history) p l.sequence s.numbers.instance ≡ o
            → served.range ≡ range_to l.seen.meta.start (end_of (messages_of past.log p))
        by_mode None m = absurd (by_entry (entry_of s.table p l.sequence) refl None (not_due None m) (λ y. refl))
        by_mode (Some mode.Consuming) m = by_takes (consuming_takes going m)
        by_mode (Some mode.Online) m = absurd (by_online m)
        by_mode (Some mode.Offline) m = absurd (by_entry (entry_of s.table p l.sequence) refl (Some mode.Offline) (not_due (Some mode.Offline) m) (λ y. refl))
