-- No replica of a server ever has more than a million rows, whatever the server does.
use Rattle.std.proofs.Common.{◌≡◌, ℕ, Bool, true, false, cond, Option, Some, None, Result, refl, sym, subst, arith}
use Rattle.rt_base.specs.declared.numbers.Moment.{Moment}
use Rattle.rt_base.specs.declared.numbers.Offset.{Offset}
use Rattle.rt_base.specs.declared.numbers.Partition.{Partition}
use Rattle.rt_base.specs.declared.numbers.Sequence.{Sequence}
use Rattle.rt_consumer.specs.Batch.{Consumes}
use Rattle.rt_consumer.specs.Consumer.{IsConsumer, started_of}
use Rattle.rt_consumer.specs.Requests.{Builds, Does, Extends, Requests, forced, stopped}
use Rattle.rt_consumer.specs.declared.consumer.Consumer.{Consumer}
use Rattle.rt_consumer.specs.declared.refused.ReplicaRefused.{ReplicaRefused}
use Rattle.rt_deep.specs.Meaning.{Meaning as DeepMeaning}
use Rattle.rt_entry.specs.Calls.{ReplicaCall}
use Rattle.rt_entry.specs.Entry.{IsEntry, wanting}
use Rattle.rt_entry.specs.Transition.{gone_on, goes_on, metadata_in, told}
use Rattle.rt_entry.specs.declared.entry.CommittedSegment.{CommittedSegment}
use Rattle.rt_entry.specs.declared.entry.Entry.{Entry}
use Rattle.rt_entry.specs.declared.entry.Entry.TheVariants.{Replica, Committed}
use Rattle.rt_entry.specs.declared.refused.ServerRefused.{ServerRefused}
use Rattle.rt_model.specs.declared.ideal_state.Mode.{Mode}
use Rattle.rt_model.specs.declared.ideal_state.Mode.TheVariants.{Consuming, Online, Offline}
use Rattle.rt_model.specs.declared.replica_state.ReplicaState.{ReplicaState}
use Rattle.rt_model.specs.declared.reply.Reply.{Reply}
use Rattle.rt_model.specs.declared.request.Request.{Request}
use Rattle.rt_model.specs.declared.seg_meta.SeenMeta.{SeenMeta}
use Rattle.rt_model.specs.declared.setup.Setup.{Setup}
use Rattle.rt_model.specs.declared.status.Status.{Status}
use Rattle.rt_model.specs.declared.status.Status.TheVariants.{InProgress, Done, Abandoned}
use Rattle.rt_msgs.specs.Numbered.{Numbered}
use Rattle.rt_schema.specs.declared.schema.Schema.{Schema}
use Rattle.rt_server.proofs.EachEntry.{Each, add_each, found_each, leave_each, put_each}
use Rattle.rt_server.proofs.Kept.{found_is, replica_found}
use Rattle.rt_server.proofs.Stepped.{came, comes_keep, saw, stepped}
use Rattle.rt_server.specs.Calls.{Asks, AsksFor, Forces, Restarts, Seals, SeesIdeal, Stops, Takes, ThroughAt, Transits, TransitsIf, TransitsTo, answered_by, replied_at, replied_in, restarted_by, seen_by, stepped_by}
use Rattle.rt_server.specs.Download.{Downloads, DownloadsAt, committed_at}
use Rattle.rt_server.specs.Kept.{IsServer}
use Rattle.rt_server.specs.Table.{Segment, Segments, ServerState, entry_of, put_back, replica_of, target_of}
use Rattle.rt_server.specs.Transition.{committed, moved_by, moved_to, opened, transit_due, transited, transition}
use Rattle.rt_store.specs.Meaning.{Meaning}
use Rattle.rt_stream.specs.Feed.{FeedMeaning}
use Rattle.rt_made.proofs.Few.{HasFew, builds_few, consumes_few, extends_few, forces_few, learned_few, replied_few, requests_few, stops_few}

abbrev pub IsFewEntry : Segment → Entry → Type 0
IsFewEntry s (Replica r) = HasFew r.phase
IsFewEntry s (Committed c) = Unit {0}

abbrev pub AreFew : Segments → Type 0
AreFew t = Each IsFewEntry t.entries

same_few : (old new : Segments) → new ≡ old → AreFew old → AreFew new
same_few old new e h = subst AreFew (sym e) h

put_few : (t : Segments) (p : Partition) (q : Sequence) (e : Entry) → AreFew t → IsFewEntry (p, q) e → AreFew (put_back t p q e)
put_few t p q e h new = put_each IsFewEntry t.entries p q e h new

-- ---- calls of a replica

module _ (setup : Setup) (old new : Segments) (p : Partition) (q : Sequence) (kept : IsServer setup old) (h : AreFew old) where
  found_few : (r : Consumer) → replica_of old p q ≡ Some r → IsConsumer r × HasFew r.phase
  found_few r found =
      let there = replica_found (entry_of old p q) r found in
      let is : IsEntry setup (Replica r) = found_is setup old p q (Replica r) kept there in
      (is.0, found_each IsFewEntry old.entries p q (Replica r) h there)

  through_few : {X : Type 0} (quiet : Type 0) (call : ReplicaCall X) (result : Result X ServerRefused) (o : Option Consumer) → replica_of old p q ≡ o
      → ((r next : Consumer) (answer : Result X ReplicaRefused) → IsConsumer r → HasFew r.phase → call r next answer → HasFew next.phase)
      → ThroughAt o quiet call old new p q result → AreFew new
  through_few quiet call result None found keeps t = same_few old new t.2 h
  through_few quiet call result (Some r) found keeps t =
      let own = found_few r found in
      same_few (put_back old p q (Replica t.0)) new t.4 (put_few old p q (Replica t.0) h (keeps r t.0 t.1 own.0 own.1 t.2))

  pub takes_few : (before after : FeedMeaning) (max : ℕ) (now : Moment) (result : Result (Unit {0}) ServerRefused) → Takes before after old new p q max now result → AreFew new
  takes_few before after max now result t =
      through_few (after ≡ before) (λ r next answer. Consumes before after r next max now answer) result (replica_of old p q) refl
      (λ r next answer is few c. consumes_few before after r next max now answer (omega (arith, is.settings.rows.1)) few c) t

  pub forces_few_in : (result : Result (Unit {0}) ServerRefused) → Forces old new p q result → AreFew new
  forces_few_in result t =
      through_few (Unit {0}) (λ r next answer. Does (forced r.phase) r next answer) result (replica_of old p q) refl (λ r next answer is few c. forces_few r next answer few c) t

  pub stops_few_in : (result : Result (Unit {0}) ServerRefused) → Stops old new p q result → AreFew new
  stops_few_in result t =
      through_few (Unit {0}) (λ r next answer. Does (stopped r.phase) r next answer) result (replica_of old p q) refl (λ r next answer is few c. stops_few r next answer few c) t

  pub seals_few : (result : Result (Unit {0}) ServerRefused) → Seals old new p q result → AreFew new
  seals_few result t =
      through_few (Unit {0}) (λ r next answer. Builds r next answer) result (replica_of old p q) refl (λ r next answer is few c. builds_few r next answer few c) t

  pub asks_few : (before after : Numbered) (result : Result Request ServerRefused) → Asks before after old new p q result → AreFew new
  asks_few before after result t =
      through_few (after ≡ before) (λ r next answer. Requests r next before after answer) result (replica_of old p q) refl
      (λ r next answer is few c. requests_few r next before after answer few c) t

  pub asks_for_few : (before after : Numbered) (millis : ℕ) (result : Result Request ServerRefused) → AsksFor before after millis old new p q result → AreFew new
  asks_for_few before after millis result t =
      through_few (after ≡ before) (λ r next answer. Extends r next before after millis answer) result (replica_of old p q) refl
      (λ r next answer is few c. extends_few r next before after millis answer few c) t

replied_at_few : (t : Segments) (reply : Reply) (o : Option Consumer) → replica_of t reply.partition reply.sequence ≡ o → AreFew t → AreFew (replied_at o t reply).1
replied_at_few t reply None found h = h
replied_at_few t reply (Some r) found h =
    put_few t reply.partition reply.sequence _ h
    (replied_few r reply (found_each IsFewEntry t.entries reply.partition reply.sequence (Replica r) h (replica_found (entry_of t reply.partition reply.sequence) r found)))

pub replied_in_few : (t : Segments) (reply : Reply) → AreFew t → AreFew (replied_in t reply).1
replied_in_few t reply h = replied_at_few t reply (replica_of t reply.partition reply.sequence) refl h

-- ---- transitions

module _ (setup : Setup) (t : Segments) (p : Partition) (q : Sequence) (now : Moment) (h : AreFew t) where
  gone_few : (e : Entry) (done : SeenMeta) (end : Offset) (b : Bool) → IsFewEntry (p, q) e → IsFewEntry (p, q) (cond b (gone_on e done end) (wanting done))
  gone_few (Replica r) done end true few = learned_few r done end few
  gone_few (Committed c) done end true few = tt
  gone_few e done end false few = tt

  opened_few : (seen : SeenMeta) (o : Option Entry) → AreFew (opened setup t p q now seen o).1
  opened_few seen None = add_each IsFewEntry t.entries p q (Replica (started_of setup p q seen.meta now)) h (omega arith)
  opened_few seen (Some e) = h

  committed_few : (done : SeenMeta) (end : Offset) (o : Option Entry) → entry_of t p q ≡ o → AreFew (committed t p q done end o).1
  committed_few done end None found = add_each IsFewEntry t.entries p q (wanting done) h tt
  committed_few done end (Some e) found = put_few t p q (told e done end) h (gone_few e done end (goes_on e end) (found_each IsFewEntry t.entries p q e h found))

  moved_few : (seen : SeenMeta) (status : Status) → AreFew (moved_by setup t p q now seen status).1
  moved_few seen InProgress = opened_few seen (entry_of t p q)
  moved_few seen (Done commit) = committed_few seen commit.end (entry_of t p q) refl
  moved_few seen Abandoned = leave_each IsFewEntry t.entries p q h

  moved_to_few : (seen : Option SeenMeta) → AreFew (moved_to setup t p q now seen).1
  moved_to_few None = leave_each IsFewEntry t.entries p q h
  moved_to_few (Some seen) = moved_few seen seen.meta.status

  transition_few : (mode : Mode) (seen : Option SeenMeta) → AreFew (transition setup t p q now mode seen).1
  transition_few Offline seen = leave_each IsFewEntry t.entries p q h
  transition_few Consuming seen = moved_to_few seen
  transition_few Online seen = moved_to_few seen

abbrev IsFewServer : ServerState → Type 0
IsFewServer s = AreFew s.table

module _ (before after : Meaning) (old new : ServerState) (h : AreFew old.table) where
  module _ (p : Partition) (q : Sequence) (now : Moment) (result : Result ReplicaState ServerRefused) where
    to_few : (o : Option Mode) → TransitsTo o before after old new p q now result → AreFew new.table
    to_few None t = subst IsFewServer (sym t.2) (leave_each IsFewEntry old.table.entries p q h)
    to_few (Some mode) t =
        comes_keep IsFewServer old new (stepped_by old (transited old.setup old.table p q now mode t.0)) result h
        (λ x step.
        let m = stepped old new p q now mode (metadata_in t.0) x step in
        subst IsFewServer (sym m.2) (transition_few old.setup old.table p q now h mode m.0)) t.2

    if_few : (b : Bool) → TransitsIf b before after old new p q now result → AreFew new.table
    if_few true t = to_few (target_of old.table p q) t
    if_few false t = subst IsFewServer (sym t.2) h

    pub transits_few : Transits before after old new p q now result → AreFew new.table
    transits_few t = if_few (transit_due old.table p q) t

  pub sees_few : (result : Result ℕ ServerRefused) → SeesIdeal before after old new result → AreFew new.table
  sees_few result t =
      comes_keep IsFewServer old new (seen_by old t.0) result h
      (λ version step. let s = saw old new (answered_by t.0) version step in subst IsFewServer (sym s.2) h) t.2

  pub restarts_few : (result : Result ℕ ServerRefused) → Restarts before after old new result → AreFew new.table
  restarts_few result t =
      comes_keep IsFewServer old new (restarted_by old t.0) result h
      (λ version step. let s = came old new (answered_by t.0) version step in subst IsFewServer (sym s.3) h) t.2

-- ---- downloads

downloads_at_few : (before after : DeepMeaning) (schema : Schema) (old new : Segments) (p : Partition) (q : Sequence) (result : Result ℕ ServerRefused) (o : Option CommittedSegment)
    → AreFew old → DownloadsAt o before after schema old new p q result → AreFew new
downloads_at_few before after schema old new p q result None h d = same_few old new d.2 h
downloads_at_few before after schema old new p q result (Some c) h d =
    same_few (put_back old p q (Committed d.0)) new d.2 (put_few old p q (Committed d.0) h tt)

pub downloads_few : (before after : DeepMeaning) (schema : Schema) (old new : Segments) (p : Partition) (q : Sequence) (result : Result ℕ ServerRefused) → AreFew old
    → Downloads before after schema old new p q result → AreFew new
downloads_few before after schema old new p q result h d = downloads_at_few before after schema old new p q result (committed_at (entry_of old p q)) h d
