-- A transition keeps what a server has of its own, over a view whose history its store has shown.
use Rattle.std.proofs.Common.{◌≡◌, ◌<◌, inl, Bool, true, false, cond, List, Option, Some, None, Result, refl, sym, subst}
use Rattle.rt_base.specs.declared.numbers.Moment.{Moment}
use Rattle.rt_base.specs.declared.numbers.Offset.{Offset}
use Rattle.rt_base.specs.declared.numbers.Partition.{Partition}
use Rattle.rt_base.specs.declared.numbers.Sequence.{Sequence}
use Rattle.rt_model.specs.declared.ideal_state.Mode.{Mode}
use Rattle.rt_model.specs.declared.ideal_state.Mode.TheVariants.{Consuming, Online, Offline}
use Rattle.rt_model.specs.declared.node.Seen.{Seen}
use Rattle.rt_model.specs.declared.replica_state.ReplicaState.{ReplicaState}
use Rattle.rt_model.specs.declared.seg_meta.SeenMeta.{SeenMeta}
use Rattle.rt_model.specs.declared.setup.Setup.{Setup}
use Rattle.rt_model.specs.declared.status.Status.{Status}
use Rattle.rt_model.specs.declared.status.Status.TheVariants.{InProgress, Done, Abandoned}
use Rattle.rt_model.specs.Metadata.{IsDoneStatus, IsInProgress, listed_write}
use Rattle.rt_store.specs.Meaning.{Meaning}
use Rattle.rt_past.specs.Past.{Past}
use Rattle.rt_past.specs.Segments.{IsBegun, IsBegunAs, WasDone, WasMeta}
use Rattle.rt_past.specs.View.{IsView}
use Rattle.rt_consumer.specs.declared.consumer.Consumer.{Consumer}
use Rattle.rt_consumer.specs.Consumer.{started_of}
use Rattle.rt_replica.specs.Own.{HadPlace, IsOwnReplica}
use Rattle.rt_entry.specs.declared.entry.Entry.{Entry}
use Rattle.rt_entry.specs.declared.entry.Entry.TheVariants.{Replica, Committed}
use Rattle.rt_entry.specs.declared.refused.ServerRefused.{ServerRefused}
use Rattle.rt_entry.specs.Entry.{wanting}
use Rattle.rt_entry.specs.Transition.{goes_on, gone_on, metadata_in, told}
use Rattle.rt_server.specs.Calls.{Transits, TransitsIf, TransitsTo, stepped_by}
use Rattle.rt_server.specs.Kept.{IsServer}
use Rattle.rt_server.specs.Own.{IsOwnEntry, IsOwnServer}
use Rattle.rt_server.specs.Past.{MayLearn, MayLearnOf}
use Rattle.rt_server.specs.Table.{ServerState, entry_of, segment_of, target_of, with_table}
use Rattle.rt_server.specs.Transition.{committed, moved_by, moved_to, opened, transit_due, transited, transition}
use Rattle.rt_server.proofs.Kept.{transited_is, without_is}
use Rattle.rt_server.proofs.LastingEntries.{at_segment, segment}
use Rattle.rt_server.proofs.LastingTargets.{target_had}
use Rattle.rt_server.proofs.OwnPuts.{add_own, found_own, leave_own, put_own, replica_own}
use Rattle.rt_replica.proofs.KeepsOwn.{started_own}
use Rattle.rt_server.proofs.OwnReplicas.{learned_entry}
use Rattle.rt_server.proofs.Past.{meta_past}
use Rattle.rt_server.proofs.Stepped.{WasRead, comes_keep, stepped, was_read}

-- what is its own is kept, and no number is made
abbrev pub KeepsOwn : Setup → Past → ServerState → ServerState → Type 0
KeepsOwn setup view old new = IsOwnServer setup view new × (new.numbers ≡ old.numbers)

module _ (setup : Setup) (view : Past) (s : ServerState) (is : IsView setup view) (k : IsOwnServer setup view s) (p : Partition) (q : Sequence) (within : p.0 < setup.partitions) where
  begun_at : (r : Consumer) → segment_of r ≡ (p, q) → IsOwnReplica setup view s.numbers.instance s.numbers.incarnation r → IsBegun view.history p q r.start
  begun_at r of own = at_segment (λ a b. IsBegun view.history a b r.start) (segment_of r) (segment p q) of own.begun

  may_learn_some : (seen : SeenMeta) → WasMeta view.history p q seen → MayLearnOf s.table p q seen
  may_learn_some seen was r end found e =
      let held = replica_own setup view s k p q r found in
      (meta_past setup view.history p q r.start end (listed_write p (record { sequence = q; seen = seen })) seen is.lawful within (begun_at r held.0 held.2) was refl refl e).1

  may_learn : (seen : Option SeenMeta) → WasRead view.history p q seen → MayLearn s.table p q seen
  may_learn None was = tt
  may_learn (Some seen) was = may_learn_some seen was

  module _ (now : Moment) (place : HadPlace view.history s.numbers.instance p q) where
    abbrev Own : Entry → Type 0
    Own e = IsOwnEntry setup view s.numbers.instance s.numbers.incarnation (segment p q) e

    opened_own : (seen : SeenMeta) → WasMeta view.history p q seen → IsInProgress seen.meta.status → (o : Option Entry) → IsServer s.setup (opened s.setup s.table p q now seen o).1
        → IsOwnServer setup view (with_table s (opened s.setup s.table p q now seen o).1)
    opened_own seen was open_now None kept =
        let begun : IsBegun view.history p q seen.meta.start = (listed_write p (record { sequence = q; seen = seen }), was, refl, (open_now, refl)) in
        let named : IsBegunAs view.history p q seen.meta.name = (listed_write p (record { sequence = q; seen = seen }), was, refl, (open_now, refl)) in
        let started = started_own setup view s.numbers.instance s.numbers.incarnation p q seen.meta now within (inl place) begun named in
        add_own setup view s k p q (Replica (started_of s.setup p q seen.meta now)) kept
        (refl, subst (λ (x : Setup). IsOwnReplica setup view s.numbers.instance s.numbers.incarnation (started_of x p q seen.meta now)) (sym k.of_setup) started)
    opened_own seen was open_now (Some e) kept = k

    wanted_own : (done : SeenMeta) → WasDone view.history p q done → Own (wanting done)
    wanted_own done was = record { partition = within; placed = inl place; done = inl was; had = tt }

    told_if : (e : Entry) (done : SeenMeta) (end : Offset) (b : Bool) → goes_on e end ≡ b → WasDone view.history p q done → Own e → Own (cond b (gone_on e done end) (wanting done))
    told_if (Replica r) done end true goes was own =
        learned_entry setup view s.numbers.instance s.numbers.incarnation r own.1 (segment p q) own.0 done end
        (at_segment (λ a b. WasDone view.history a b done) (segment p q) (segment_of r) (sym own.0) was)
    told_if (Committed c) done end true goes was own = own
    told_if e done end false goes was own = wanted_own done was

    committed_own : (done : SeenMeta) (end : Offset) (o : Option Entry) → entry_of s.table p q ≡ o → WasDone view.history p q done
        → IsServer s.setup (committed s.table p q done end o).1 → IsOwnServer setup view (with_table s (committed s.table p q done end o).1)
    committed_own done end None found was kept = add_own setup view s k p q (wanting done) kept (wanted_own done was)
    committed_own done end (Some e) found was kept =
        put_own setup view s k p q (told e done end) kept (told_if e done end (goes_on e end) refl was (found_own setup view s k p q e found))

    moved_own : (seen : SeenMeta) (status : Status) → seen.meta.status ≡ status → WasMeta view.history p q seen
        → IsServer s.setup (moved_by s.setup s.table p q now seen status).1 → IsOwnServer setup view (with_table s (moved_by s.setup s.table p q now seen status).1)
    moved_own seen InProgress at was kept = opened_own seen was (subst IsInProgress (sym at) tt) (entry_of s.table p q) kept
    moved_own seen (Done commit) at was kept = committed_own seen commit.end (entry_of s.table p q) refl (was, subst IsDoneStatus (sym at) tt) kept
    moved_own seen Abandoned at was kept = leave_own setup view s k p q kept

    moved_to_own : (seen : Option SeenMeta) → WasRead view.history p q seen
        → IsServer s.setup (moved_to s.setup s.table p q now seen).1 → IsOwnServer setup view (with_table s (moved_to s.setup s.table p q now seen).1)
    moved_to_own None was kept = leave_own setup view s k p q kept
    moved_to_own (Some seen) was kept = moved_own seen seen.meta.status refl was kept

    transition_own : (mode : Mode) (seen : Option SeenMeta) → WasRead view.history p q seen
        → IsServer s.setup (transition s.setup s.table p q now mode seen).1 → IsOwnServer setup view (with_table s (transition s.setup s.table p q now mode seen).1)
    transition_own Offline seen was kept = leave_own setup view s k p q kept
    transition_own Consuming seen was kept = moved_to_own seen was kept
    transition_own Online seen was kept = moved_to_own seen was kept

-- ---- the call

module _ (setup : Setup) (view : Past) (before after : Meaning) (old new : ServerState) (p : Partition) (q : Sequence) (now : Moment) (result : Result ReplicaState ServerRefused)
    (shown : view.history ≡ after.seen) (is : IsView setup view) (within : (mode : Mode) → target_of old.table p q ≡ Some mode → p.0 < setup.partitions) (k : IsOwnServer setup view old) where
  moves : (mode : Mode) → target_of old.table p q ≡ Some mode → (seen : Option SeenMeta) → WasRead after.seen p q seen
      → new ≡ with_table old (transition old.setup old.table p q now mode seen).1 → KeepsOwn setup view old new
  moves mode target seen was to_this =
      let here : WasRead view.history p q seen = subst (λ (h : List Seen). WasRead h p q seen) (sym shown) was in
      let to = transition old.setup old.table p q now mode seen in
      let known = within mode target in
      let kept = transited_is old.setup old.table to.1 p q now mode seen to.0 refl (may_learn setup view old is k p q known seen here) k.kept in
      let place = target_had view.history old.numbers.instance old.table.targets p q mode k.targets target in
      subst (KeepsOwn setup view old) (sym to_this) (transition_own setup view old is k p q known now place mode seen here kept, refl)

  to_own : (o : Option Mode) → target_of old.table p q ≡ o → TransitsTo o before after old new p q now result → KeepsOwn setup view old new
  to_own None target h = subst (KeepsOwn setup view old) (sym h.2) (leave_own setup view old k p q (without_is old.setup old.table p q k.kept), refl)
  to_own (Some mode) target h =
      comes_keep (KeepsOwn setup view old) old new (stepped_by old (transited old.setup old.table p q now mode h.0)) result (k, refl)
      (λ x step. let m = stepped old new p q now mode (metadata_in h.0) x step in moves mode target m.0 (was_read before after p q h.0 m.0 h.1 m.1) m.2) h.2

  if_own : (b : Bool) → TransitsIf b before after old new p q now result → KeepsOwn setup view old new
  if_own true h = to_own (target_of old.table p q) refl h
  if_own false h = subst (KeepsOwn setup view old) (sym h.2) (k, refl)

  pub transits_own : Transits before after old new p q now result → KeepsOwn setup view old new
  transits_own h = if_own (transit_due old.table p q) h
