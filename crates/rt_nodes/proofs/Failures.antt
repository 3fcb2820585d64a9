-- A server's call that is due fails for a store's fault or want of memory alone, where the files are right.
use Rattle.std.proofs.Common.{◌≡◌, ℕ, Bool, true, false, is_some, List, Option, Some, None, Result, Ok, Err, refl, subst}
use Rattle.rt_base.specs.declared.header.Header.{Header}
use Rattle.rt_base.specs.declared.numbers.Moment.{Moment}
use Rattle.rt_base.specs.declared.numbers.Partition.{Partition}
use Rattle.rt_base.specs.declared.numbers.Sequence.{Sequence}
use Rattle.rt_deep.specs.Meaning.{Told as ToldDeep}
use Rattle.rt_deep.specs.Memory.{means as deep_means}
use Rattle.rt_deep.specs.declared.refused.DeepRefused.{DeepRefused}
use Rattle.rt_deep.specs.declared.refused.DeepRefused.TheVariants as deep
use Rattle.rt_entry.specs.Calls.{Comes, Step}
use Rattle.rt_entry.specs.Download.{LoadsOf, checked, got, header_by, is_right, loaded_by}
use Rattle.rt_entry.specs.Entry.{wanted_by}
use Rattle.rt_entry.specs.Transition.{metadata_in}
use Rattle.rt_entry.specs.declared.entry.CommittedSegment.{CommittedSegment}
use Rattle.rt_entry.specs.declared.entry.Entry.{Entry}
use Rattle.rt_entry.specs.declared.entry.Entry.TheVariants.{Replica, Committed}
use Rattle.rt_entry.specs.declared.refused.ServerRefused.{ServerRefused}
use Rattle.rt_entry.specs.declared.refused.ServerRefused.TheVariants.{NotDue, StoreFault, BadFile, Memory}
use Rattle.rt_model.specs.declared.commit.Commit.{Commit}
use Rattle.rt_model.specs.declared.ideal_state.Mode.{Mode}
use Rattle.rt_model.specs.declared.node.Seen.{Seen}
use Rattle.rt_model.specs.declared.replica_state.ReplicaState.{ReplicaState}
use Rattle.rt_model.specs.declared.replica_state.ReplicaState.TheVariants as state
use Rattle.rt_model.specs.declared.seg_meta.SeenMeta.{SeenMeta}
use Rattle.rt_schema.specs.declared.schema.Schema.{Schema}
use Rattle.rt_segment.specs.Reading.{read_file}
use Rattle.rt_segment.specs.Segment.{SealedSegment}
use Rattle.rt_segment.specs.declared.segment_refused.SegmentRefused.{SegmentRefused}
use Rattle.rt_server.specs.Calls.{Restarts, SeesIdeal, Transits, TransitsIf, TransitsTo, answered_by, restarted_in, seen_in, stepped_by}
use Rattle.rt_server.specs.Download.{Downloads, DownloadsAt, committed_at}
use Rattle.rt_server.specs.Table.{Segments, ServerState, entry_of, target_of, wants_at}
use Rattle.rt_server.specs.Transition.{moved_if, transit_due, transited}
use Rattle.rt_store.specs.Meaning.{Meaning}
use Rattle.rt_store.specs.declared.refused.StoreRefused.{StoreRefused}
use Rattle.rt_store.specs.declared.refused.StoreRefused.TheVariants as store
use Rattle.rt_nodes.proofs.Standing.{not_refused}
use Rattle.rt_nodes.specs.Refused.{IsFailure}
use Rattle.rt_nodes.specs.Servers.{FindsItsFile}

-- an answer that, where it is a refusal, is a failure
abbrev Fails : {X : Type 0} → Result X ServerRefused → Type 0
Fails (Ok x) = Unit {0}
Fails (Err e) = IsFailure e

-- so does a call that comes to it
comes_fails : {S X : Type 0} (step : Step S X) (old new : S) (e : ServerRefused) → Fails step → Comes step old new (Err e) → IsFailure e
comes_fails step old new NotDue f h = subst Fails h.0 f
comes_fails step old new StoreFault f h = tt
comes_fails step old new (BadFile wanted found) f h = subst Fails h.0 f
comes_fails step old new Memory f h = tt

answered_fails : {X : Type 0} (a : Result X StoreRefused) → Fails (answered_by a)
answered_fails (Ok x) = tt
answered_fails (Err store.NoNode) = tt
answered_fails (Err (store.Exists found)) = tt
answered_fails (Err (store.VersionChanged expected found)) = tt
answered_fails (Err store.Failed) = tt
answered_fails (Err store.Memory) = tt

-- ---- the ideal state is seen

seen_fails : (s : ServerState) (m : Result Seen ServerRefused) → Fails m → Fails (seen_in s m)
seen_fails s (Ok seen) f = tt
seen_fails s (Err e) f = f

pub sees_fail : (before after : Meaning) (old new : ServerState) (e : ServerRefused) → SeesIdeal before after old new (Err e) → IsFailure e
sees_fail before after old new e h =
    comes_fails (seen_in old (answered_by h.0)) old new e (seen_fails old (answered_by h.0) (answered_fails h.0)) h.2

-- ---- a restart

restarted_fails : (s : ServerState) (m : Result ℕ ServerRefused) → Fails m → Fails (restarted_in s m)
restarted_fails s (Ok version) f = tt
restarted_fails s (Err e) f = f

pub restarts_fail : (before after : Meaning) (old new : ServerState) (e : ServerRefused) → Restarts before after old new (Err e) → IsFailure e
restarts_fail before after old new e h =
    comes_fails (restarted_in old (answered_by h.0)) old new e (restarted_fails old (answered_by h.0) (answered_fails h.0)) h.2

-- ---- a transition

metadata_fails : (a : Result Seen StoreRefused) → Fails (metadata_in a)
metadata_fails (Ok seen) = tt
metadata_fails (Err store.NoNode) = tt
metadata_fails (Err (store.Exists found)) = tt
metadata_fails (Err (store.VersionChanged expected found)) = tt
metadata_fails (Err store.Failed) = tt
metadata_fails (Err store.Memory) = tt

module _ (before after : Meaning) (old new : ServerState) (p : Partition) (q : Sequence) (now : Moment) (e : ServerRefused) where
  moved_fails : (mode : Mode) (m : Result (Option SeenMeta) ServerRefused) → Fails m → Fails (stepped_by old (moved_if old.setup old.table p q now mode m))
  moved_fails mode (Ok seen) f = tt
  moved_fails mode (Err x) f = f

  to_fails : (o : Option Mode) → TransitsTo o before after old new p q now (Err e) → IsFailure e
  to_fails None h = absurd (not_refused ReplicaState e state.Discarded h.1)
  to_fails (Some mode) h =
      comes_fails (stepped_by old (transited old.setup old.table p q now mode h.0)) old new e
      (moved_fails mode (metadata_in h.0) (metadata_fails h.0)) h.2

  pub transits_fail : transit_due old.table p q ≡ true → Transits before after old new p q now (Err e) → IsFailure e
  transits_fail due h = to_fails (target_of old.table p q) (subst (λ b. TransitsIf b before after old new p q now (Err e)) due h)

-- ---- a download

-- an answer that isn't that the call isn't due
abbrev IsDue : {X : Type 0} → Result X ServerRefused → Type 0
IsDue (Ok x) = Unit {0}
IsDue (Err NotDue) = ⊥
IsDue (Err StoreFault) = Unit {0}
IsDue (Err (BadFile wanted found)) = Unit {0}
IsDue (Err Memory) = Unit {0}

right_due : (schema : Schema) (wanted : Header) (file : SealedSegment) (b : Bool) → is_right schema wanted file ≡ b → IsDue (checked schema wanted (Ok file))
right_due schema wanted file true e = rw e tt
right_due schema wanted file false e = rw e tt

checked_due : (schema : Schema) (wanted : Header) (r : Result SealedSegment SegmentRefused) → IsDue (checked schema wanted r)
checked_due schema wanted (Ok file) = right_due schema wanted file (is_right schema wanted file) refl
checked_due schema wanted (Err e) = tt

got_due : (schema : Schema) (wanted : Header) (r : Result (List ℕ) DeepRefused) → IsDue (got schema wanted r)
got_due schema wanted (Ok bytes) = checked_due schema wanted (read_file bytes)
got_due schema wanted (Err deep.Absent) = tt
got_due schema wanted (Err (deep.OtherBytes kept offered)) = tt
got_due schema wanted (Err deep.Failed) = tt
got_due schema wanted (Err deep.Memory) = tt

loaded_due : (c : CommittedSegment) (g : Result SealedSegment ServerRefused) → IsDue g → IsDue (loaded_by c g)
loaded_due c (Ok file) d = tt
loaded_due c (Err NotDue) d = d
loaded_due c (Err StoreFault) d = tt
loaded_due c (Err (BadFile wanted found)) d = tt
loaded_due c (Err Memory) d = tt

-- no other file than the one that is wanted is met
abbrev IsRight : ServerRefused → Type 0
IsRight e = (wanted : Header) (found : Option Header) → e ≡ BadFile wanted found → ⊥

-- a call that is due, and doesn't meet another file than the one that is wanted
fails_if : {S X : Type 0} (step : Step S X) (old new : S) (e : ServerRefused) → IsDue step → Comes step old new (Err e)
    → IsRight e → IsFailure e
fails_if step old new NotDue d h right = subst IsDue h.0 d
fails_if step old new StoreFault d h right = tt
fails_if step old new (BadFile wanted found) d h right = right wanted found refl
fails_if step old new Memory d h right = tt

module _ (before after : ToldDeep) (schema : Schema) (p : Partition) (q : Sequence) (e : ServerRefused) (right : IsRight e) where
  of_fails : (c next : CommittedSegment) (o : Option Commit) → is_some o ≡ true
      → LoadsOf o (deep_means before) (deep_means after) schema p q c next (Err e) → IsFailure e
  of_fails c next None wants h = absurd (cc)
  of_fails c next (Some commit) wants h =
      let g = got schema (header_by p q c.done commit) h.0 in
      fails_if (loaded_by c g) c next e (loaded_due c g (got_due schema (header_by p q c.done commit) h.0)) h.2 right

  at_fails : (old new : Segments) (o : Option Entry) → wants_at o ≡ true
      → DownloadsAt (committed_at o) (deep_means before) (deep_means after) schema old new p q (Err e) → IsFailure e
  at_fails old new None wants h = absurd (cc)
  at_fails old new (Some (Replica r)) wants h = absurd (cc)
  at_fails old new (Some (Committed c)) wants h = of_fails c h.0 (wanted_by c.file c.done.meta.status) wants h.1

pub downloads_fail : (before after : ToldDeep) (s : ServerState) (t : Segments) (p : Partition) (q : Sequence) (e : ServerRefused)
    → wants_at (entry_of s.table p q) ≡ true → FindsItsFile before s p q
    → Downloads (deep_means before) (deep_means after) s.setup.schema s.table t p q (Err e) → IsFailure e
downloads_fail before after s t p q e wants finds h =
    at_fails before after s.setup.schema p q e
    (λ wanted found same. finds after t wanted found
    (subst (λ (x : ServerRefused). Downloads (deep_means before) (deep_means after) s.setup.schema s.table t p q (Err x)) same h))
    s.table t (entry_of s.table p q) wants h
