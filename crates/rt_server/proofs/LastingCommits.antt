-- What a server has of committed segments are the stream's rows, and what a replica was told was written.
use Rattle.std.proofs.Common.{◌≡◌, ◌≤◌, ◌<◌, ℕ, length, map, Option, Some, None, IfSome, refl, sym, ap, subst, ◌∙◌, arith}
use Rattle.rt_base.specs.declared.numbers.Instance.{Instance}
use Rattle.rt_base.specs.declared.numbers.Offset.{Offset}
use Rattle.rt_base.specs.declared.numbers.Partition.{Partition}
use Rattle.rt_base.specs.declared.numbers.Sequence.{Sequence}
use Rattle.rt_schema.specs.Row.{rows_in}
use Rattle.rt_schema.specs.declared.schema.Schema.{Schema}
use Rattle.rt_mutable.specs.Consuming.{Consuming, Placed}
use Rattle.rt_mutable.specs.Consuming as consuming
use Rattle.rt_segment.specs.Segment.{SealedSegment}
use Rattle.rt_stream.specs.Log.{messages_of}
use Rattle.rt_model.specs.declared.replica_state.ReplicaState.TheVariants as state
use Rattle.rt_model.specs.declared.seg_meta.SeenMeta.{SeenMeta}
use Rattle.rt_model.specs.declared.setup.Setup.{Setup}
use Rattle.rt_model.specs.Lawful.{IsLawfulHistory}
use Rattle.rt_store.specs.Contents.{starting_of}
use Rattle.rt_past.specs.Past.{Past}
use Rattle.rt_past.specs.IsPast.{IsPast}
use Rattle.rt_past.specs.Segments.{IsBegun, WasDone}
use Rattle.rt_past.specs.View.{IsSound}
use Rattle.rt_consumer.specs.declared.consumer.Consumer.{Consumer}
use Rattle.rt_consumer.specs.declared.phase.Phase.{Phase}
use Rattle.rt_consumer.specs.declared.phase.Phase.TheVariants as phase
use Rattle.rt_consumer.specs.declared.settings.Settings.{Settings}
use Rattle.rt_consumer.specs.declared.stage.Stage.{Stage}
use Rattle.rt_consumer.specs.declared.stage.Stage.TheVariants.{InitialConsuming, CatchingUp, Holding, ConsumingToOnline, Retaining, Building, Starting, Uploading, Ending}
use Rattle.rt_consumer.specs.Consumer.{IsConsumer, IsPhase, IsStage, cur, cur_in, end_of, state_at, state_of}
use Rattle.rt_replica.specs.Held.{HoldsFile, HoldsIn, HoldsRows, messages_between}
use Rattle.rt_replica.specs.Lasting.{IsReplica, ToldAt, ToldIn}
use Rattle.rt_consumer.specs.Serving.{told_at, told_in}
use Rattle.rt_replica.proofs.Places.{rows_placed}
use Rattle.rt_entry.specs.declared.entry.Entry.{Entry}
use Rattle.rt_entry.specs.declared.entry.Entry.TheVariants.{Replica, Committed}
use Rattle.rt_entry.specs.Entry.{IsEntry}
use Rattle.rt_server.specs.Kept.{IsServer}
use Rattle.rt_server.specs.Lasting.{IsLoaded, IsServerOver}
use Rattle.rt_server.specs.LastingRows.{CommittedRows, IsRightCommitted, IsToldOf, committed_rows, file_rows, phase_rows, sealed_rows, stage_rows}
use Rattle.rt_server.specs.Own.{IsOwnServer}
use Rattle.rt_server.specs.Table.{Segment, ServerState, entry_of}
use Rattle.rt_server.proofs.Kept.{found_is}
use Rattle.rt_server.proofs.LastingEntries.{found_over}
use Rattle.rt_server.proofs.LastingTargets.{commit_past}
use Rattle.rt_server.proofs.OwnPuts.{found_own}
use Rattle.rt_server.proofs.Trues.{AnyUp, IsTrueEntry, IsTrueReplica, entry_true, own_true, replica_true}

abbrev some_rows : CommittedRows → Option CommittedRows
some_rows c = Some c

same_rows : (a b : CommittedRows) → some_rows a ≡ some_rows b → a ≡ b
same_rows a b e = cc

no_rows : (a : CommittedRows) → None ≡ some_rows a → ⊥
no_rows a e = cc

-- the rows of a range, and the commit that they are of
record IsRowsOf (schema : Schema) (past : Past) (p : Partition) (start : Offset) (c : CommittedRows) : Type 0 where
  end : Offset
  told : end_of c.done ≡ Some end
  within : end.0 ≤ length (messages_of past.log p)
  rows : c.rows ≡ rows_in schema (messages_of past.log p) start.0 end.0

-- rows up to the end of a commit that was written are right
right_by : (setup : Setup) (past : Past) (p : Partition) (q : Sequence) (start : Offset) (c : CommittedRows) → IsLawfulHistory (starting_of setup) past.history → p.0 < setup.partitions
    → IsBegun past.history p q start → WasDone past.history p q c.done → IsRowsOf setup.schema past p start c → IsRightCommitted setup past p q c
right_by setup past p q start c lawful within begun was k =
    let from = commit_past setup past p q c.done start k.end lawful within was begun k.told in
    record {
      done = was;
      end = k.end;
      told = k.told;
      ordered = omega (arith, from.1, ap (λ (x : Offset). x.0) from.0);
      within = k.within;
      rows = k.rows ∙ ap (λ (x : Offset). rows_in setup.schema (messages_of past.log p) x.0 k.end.0) (sym from.0);
    }

-- ---- a replica

module _ (schema : Schema) (past : Past) (p : Partition) (start : Offset) (c : CommittedRows) where
  rows_of_file : (done : SeenMeta) (file : SealedSegment) → end_of done ≡ Some file.range.end → HoldsFile schema (messages_of past.log p) start file
      → sealed_rows done file ≡ c → IsRowsOf schema past p start c
  rows_of_file done file told h same =
      subst (IsRowsOf schema past p start) same (record { end = file.range.end; told = told; within = h.within; rows = h.rows })

  rows_at_stage : (settings : Settings) (q : Sequence) (rows : Consuming) (stage : Stage) → IsStage settings p q rows stage → HoldsRows schema (messages_of past.log p) start rows
      → stage_rows rows stage ≡ some_rows c → IsRowsOf schema past p start c
  rows_at_stage settings q rows (Retaining done) is h e =
      subst (IsRowsOf schema past p start) (same_rows (record { done = done; rows = consuming.rows_of rows }) c e)
      (record {
        end = rows.end;
        told = is.1;
        within = h.within;
        rows = ap (map (λ (placed : Placed). placed.row)) h.all ∙ rows_placed schema start.0 (messages_between (messages_of past.log p) start.0 rows.end.0);
      })
  rows_at_stage settings q rows InitialConsuming is h e = absurd (no_rows c e)
  rows_at_stage settings q rows (CatchingUp target reason) is h e = absurd (no_rows c e)
  rows_at_stage settings q rows (Holding reason) is h e = absurd (no_rows c e)
  rows_at_stage settings q rows (ConsumingToOnline end done) is h e = absurd (no_rows c e)
  rows_at_stage settings q rows (Building reason) is h e = absurd (no_rows c e)
  rows_at_stage settings q rows (Starting reason built) is h e = absurd (no_rows c e)
  rows_at_stage settings q rows (Uploading reason built) is h e = absurd (no_rows c e)
  rows_at_stage settings q rows (Ending reason built path) is h e = absurd (no_rows c e)

  rows_in_phase : (settings : Settings) (q : Sequence) (ph : Phase) → IsPhase settings p q start ph → HoldsIn schema (messages_of past.log p) start ph
      → phase_rows ph ≡ some_rows c → IsRowsOf schema past p start c
  rows_in_phase settings q (phase.Unsealed o) is h e = rows_at_stage settings q o.rows o.stage is.1 h e
  rows_in_phase settings q (phase.Retained kept) is h e = rows_of_file kept.done kept.file is.told h (same_rows (sealed_rows kept.done kept.file) c e)
  rows_in_phase settings q (phase.Committed kept) is h e = rows_of_file kept.done kept.file is.told h (same_rows (sealed_rows kept.done kept.file) c e)
  rows_in_phase settings q (phase.Discarded d) is h e = absurd (no_rows c e)

module _ (past : Past) (p : Partition) (q : Sequence) (c : CommittedRows) where
  abbrev Was : SeenMeta → Type 0
  Was done = WasDone past.history p q done

  done_of : (done : SeenMeta) (rows : CommittedRows) → rows.done ≡ done → some_rows rows ≡ some_rows c → Was done → Was c.done
  done_of done rows is e was = subst Was (sym is ∙ ap (λ (x : CommittedRows). x.done) (same_rows rows c e)) was

  done_at_stage : (rows : Consuming) (stage : Stage) → ToldAt Was AnyUp rows.end stage → stage_rows rows stage ≡ some_rows c → Was c.done
  done_at_stage rows (Retaining done) t e = done_of done (record { done = done; rows = consuming.rows_of rows }) refl e t
  done_at_stage rows InitialConsuming t e = absurd (no_rows c e)
  done_at_stage rows (CatchingUp target reason) t e = absurd (no_rows c e)
  done_at_stage rows (Holding reason) t e = absurd (no_rows c e)
  done_at_stage rows (ConsumingToOnline end done) t e = absurd (no_rows c e)
  done_at_stage rows (Building reason) t e = absurd (no_rows c e)
  done_at_stage rows (Starting reason built) t e = absurd (no_rows c e)
  done_at_stage rows (Uploading reason built) t e = absurd (no_rows c e)
  done_at_stage rows (Ending reason built path) t e = absurd (no_rows c e)

  done_in_phase : (ph : Phase) → ToldIn Was AnyUp ph → phase_rows ph ≡ some_rows c → Was c.done
  done_in_phase (phase.Unsealed o) t e = done_at_stage o.rows o.stage t e
  done_in_phase (phase.Retained kept) t e = done_of kept.done (sealed_rows kept.done kept.file) refl e t
  done_in_phase (phase.Committed kept) t e = done_of kept.done (sealed_rows kept.done kept.file) refl e t
  done_in_phase (phase.Discarded d) t e = absurd (no_rows c e)

replica_right : (setup : Setup) (past : Past) (r : Consumer) (c : CommittedRows) → IsLawfulHistory (starting_of setup) past.history → IsConsumer r → IsTrueReplica setup past r
    → phase_rows r.phase ≡ some_rows c → IsRightCommitted setup past r.partition r.sequence c
replica_right setup past r c lawful is k e =
    right_by setup past r.partition r.sequence r.start c lawful k.partition k.begun
    (done_in_phase past r.partition r.sequence c r.phase k.told e)
    (subst (λ (y : Settings). IsRowsOf y.schema past r.partition r.start c) k.settings
    (rows_in_phase r.settings.schema past r.partition r.start c r.settings r.sequence r.phase is.phase k.held e))

-- ---- an entry

loaded_right : (setup : Setup) (past : Past) (p : Partition) (q : Sequence) (done : SeenMeta) (file : SealedSegment) → WasDone past.history p q done
    → IsLoaded setup past p q done file → IsRightCommitted setup past p q (sealed_rows done file)
loaded_right setup past p q done file was l =
    record {
      done = was;
      end = file.range.end;
      told = l.kept.told;
      ordered = omega (arith, l.kept.whole.sealable.range, ap (λ (x : Offset). x.0) l.kept.first);
      within = l.held.within;
      rows = l.held.rows;
    }

file_right : (setup : Setup) (past : Past) (p : Partition) (q : Sequence) (done : SeenMeta) (o : Option SealedSegment) (c : CommittedRows) → WasDone past.history p q done
    → IfSome o (IsLoaded setup past p q done) → file_rows done o ≡ some_rows c → IsRightCommitted setup past p q c
file_right setup past p q done None c was l e = absurd (no_rows c e)
file_right setup past p q done (Some file) c was l e =
    subst (IsRightCommitted setup past p q) (same_rows (sealed_rows done file) c e) (loaded_right setup past p q done file was l)

-- an entry of a server by its rules
pub of_setup_entry : (setup : Setup) (s : ServerState) (p : Partition) (q : Sequence) (e : Entry) → s.setup ≡ setup → IsServer s.setup s.table → entry_of s.table p q ≡ Some e → IsEntry setup e
of_setup_entry setup s p q e of kept found = subst (λ (x : Setup). IsEntry x e) of (found_is s.setup s.table p q e kept found)

entry_right : (setup : Setup) (past : Past) (p : Partition) (q : Sequence) (e : Entry) (c : CommittedRows) → IsLawfulHistory (starting_of setup) past.history → IsEntry setup e
    → IsTrueEntry setup past (p, q) e → committed_rows e ≡ some_rows c → IsRightCommitted setup past p q c
entry_right setup past p q (Replica r) c lawful own k e =
    subst (λ (y : Segment). IsRightCommitted setup past y.0 y.1 c) k.0 (replica_right setup past r c lawful own.0 k.1 e)
entry_right setup past p q (Committed d) c lawful own k e = file_right setup past p q d.done d.file c k.done k.loaded e

-- what a committed entry has are the stream's rows of the committed range
pub commits_right : (setup : Setup) (past : Past) (s : ServerState) (p : Partition) (q : Sequence) (e : Entry) (c : CommittedRows) → IsPast setup past → IsServerOver setup past s
    → entry_of s.table p q ≡ Some e → committed_rows e ≡ some_rows c → IsRightCommitted setup past p q c
commits_right setup past s p q e c right k found is =
    entry_right setup past p q e c right.lawful (of_setup_entry setup s p q e k.of_setup k.kept found)
    (entry_true setup past s.numbers.instance s.numbers.incarnation (p, q) e (found_over setup past s k p q e found)) is

-- so they are of what is its own, over a sound past
pub commits_sound : (setup : Setup) (past : Past) (s : ServerState) (p : Partition) (q : Sequence) (e : Entry) (c : CommittedRows) → IsSound setup past → IsOwnServer setup past s
    → entry_of s.table p q ≡ Some e → committed_rows e ≡ some_rows c → IsRightCommitted setup past p q c
commits_sound setup past s p q e c sound k found is =
    entry_right setup past p q e c sound.view.lawful (of_setup_entry setup s p q e k.of_setup k.kept found)
    (own_true setup past sound s.numbers.instance s.numbers.incarnation (p, q) e (found_own setup past s k p q e found)) is

-- ---- what a replica was told

abbrev a_meta : SeenMeta → Option SeenMeta
a_meta m = Some m

same_meta : (a b : SeenMeta) → a_meta a ≡ a_meta b → a ≡ b
same_meta a b e = cc

no_meta : (a : SeenMeta) → None ≡ a_meta a → ⊥
no_meta a e = cc

retaining : state.Retaining ≡ state.ConsumingToOnline → ⊥
retaining e = cc

retained : state.Retained ≡ state.ConsumingToOnline → ⊥
retained e = cc

committed : state.Committed ≡ state.ConsumingToOnline → ⊥
committed e = cc

module _ (past : Past) (p : Partition) (q : Sequence) (start : Offset) (done : SeenMeta) where
  stage_told : (settings : Settings) (rows : Consuming) (stage : Stage) → IsStage settings p q rows stage → ToldAt (WasDone past.history p q) AnyUp rows.end stage → told_at stage ≡ a_meta done
      → IsToldOf past p q (state_at stage) rows.end done
  stage_told settings rows (ConsumingToOnline end m) is t e =
      subst (IsToldOf past p q state.ConsumingToOnline rows.end) (same_meta m done e)
      (record { was = t; end = end; told = is.1; ahead = λ here. is.0; reached = λ other. absurd (other refl) })
  stage_told settings rows (Retaining m) is t e =
      subst (IsToldOf past p q state.Retaining rows.end) (same_meta m done e)
      (record { was = t; end = rows.end; told = is.1; ahead = λ here. absurd (retaining here); reached = λ other. refl })
  stage_told settings rows InitialConsuming is t e = absurd (no_meta done e)
  stage_told settings rows (CatchingUp target reason) is t e = absurd (no_meta done e)
  stage_told settings rows (Holding reason) is t e = absurd (no_meta done e)
  stage_told settings rows (Building reason) is t e = absurd (no_meta done e)
  stage_told settings rows (Starting reason built) is t e = absurd (no_meta done e)
  stage_told settings rows (Uploading reason built) is t e = absurd (no_meta done e)
  stage_told settings rows (Ending reason built path) is t e = absurd (no_meta done e)

  phase_told : (settings : Settings) (ph : Phase) → IsPhase settings p q start ph → ToldIn (WasDone past.history p q) AnyUp ph → told_in ph ≡ a_meta done
      → IsToldOf past p q (state_of ph) (cur_in ph) done
  phase_told settings (phase.Unsealed o) is t e = stage_told settings o.rows o.stage is.1 t e
  phase_told settings (phase.Retained kept) is t e =
      subst (IsToldOf past p q state.Retained kept.file.range.end) (same_meta kept.done done e)
      (record { was = t; end = kept.file.range.end; told = is.told; ahead = λ here. absurd (retained here); reached = λ other. refl })
  phase_told settings (phase.Committed kept) is t e =
      subst (IsToldOf past p q state.Committed kept.file.range.end) (same_meta kept.done done e)
      (record { was = t; end = kept.file.range.end; told = is.told; ahead = λ here. absurd (committed here); reached = λ other. refl })
  phase_told settings (phase.Discarded d) is t e = absurd (no_meta done e)

pub told_right : (setup : Setup) (past : Past) (i : Instance) (incarnation : ℕ) (r : Consumer) (done : SeenMeta) → IsConsumer r → IsReplica setup past i incarnation r
    → told_in r.phase ≡ Some done → IsToldOf past r.partition r.sequence (state_of r.phase) (cur r) done
told_right setup past i incarnation r done is k e =
    phase_told past r.partition r.sequence r.start done r.settings r.phase is.phase (replica_true setup past i incarnation r k).told e
