-- From where a server's replicas come: each was there, took a step of its own, or was started.
use Rattle.std.proofs.Common.{◌≡◌, ℕ, Bool, true, false, cond, List, Option, Some, None, Result, Ok, Err, refl, sym, subst}
use Rattle.rt_base.specs.declared.numbers.Moment.{Moment}
use Rattle.rt_base.specs.declared.numbers.Offset.{Offset}
use Rattle.rt_base.specs.declared.numbers.Partition.{Partition}
use Rattle.rt_base.specs.declared.numbers.Sequence.{Sequence}
use Rattle.rt_consumer.specs.Batch.{consumed}
use Rattle.rt_consumer.specs.Consumer.{started_of}
use Rattle.rt_consumer.specs.Replies.{replied}
use Rattle.rt_consumer.specs.Requests.{Builds, Does, Extends, Requests, forced, learned, stopped}
use Rattle.rt_consumer.specs.declared.consumer.Consumer.{Consumer}
use Rattle.rt_consumer.specs.declared.refused.ReplicaRefused.{ReplicaRefused}
use Rattle.rt_deep.specs.Meaning.{Meaning as DeepMeaning}
use Rattle.rt_entry.specs.Calls.{answered_as, ReplicaCall}
use Rattle.rt_entry.specs.Entry.{wanting}
use Rattle.rt_entry.specs.Transition.{gone_on, goes_on, metadata_in, told}
use Rattle.rt_entry.specs.declared.entry.CommittedSegment.{CommittedSegment}
use Rattle.rt_entry.specs.declared.entry.Entry.{Entry}
use Rattle.rt_entry.specs.declared.entry.Entry.TheVariants.{Replica, Committed}
use Rattle.rt_entry.specs.declared.refused.ServerRefused.{ServerRefused}
use Rattle.rt_lists.specs.Members.{Has}
use Rattle.rt_model.specs.declared.ideal_state.Mode.{Mode}
use Rattle.rt_model.specs.declared.ideal_state.Mode.TheVariants as mode
use Rattle.rt_model.specs.declared.replica_state.ReplicaState.{ReplicaState}
use Rattle.rt_model.specs.declared.reply.Reply.{Reply}
use Rattle.rt_model.specs.declared.request.Request.{Request}
use Rattle.rt_model.specs.declared.seg_meta.SeenMeta.{SeenMeta}
use Rattle.rt_model.specs.declared.seg_meta.SegMeta.{SegMeta}
use Rattle.rt_model.specs.declared.sent.Sent.{Sent}
use Rattle.rt_model.specs.declared.sent.Sent.TheVariants as sent
use Rattle.rt_model.specs.declared.setup.Setup.{Setup}
use Rattle.rt_model.specs.declared.status.Status.{Status}
use Rattle.rt_model.specs.declared.status.Status.TheVariants.{InProgress, Done, Abandoned}
use Rattle.rt_msgs.specs.Numbered.{Numbered}
use Rattle.rt_schema.specs.declared.schema.Schema.{Schema}
use Rattle.rt_server.proofs.EachEntry.{add_each, Each, leave_each, put_each}
use Rattle.rt_server.proofs.Kept.{replica_found}
use Rattle.rt_server.proofs.LastingTables.{at, lookup-Has, segment_exact}
use Rattle.rt_server.proofs.Stepped.{came, come, comes_keep, saw, stepped}
use Rattle.rt_server.specs.Calls.{answered_by, replied_at, replied_in, Restarts, restarted_by, seen_by, SeesIdeal, stepped_by, Through, ThroughAt, Transits, TransitsIf, TransitsTo}
use Rattle.rt_server.specs.Download.{committed_at, Downloads, DownloadsAt}
use Rattle.rt_server.specs.Table.{entry_of, put_back, replica_of, Segment, segment_cmp, Segments, ServerState, target_of, without}
use Rattle.rt_server.specs.Transition.{committed, moved_by, moved_to, opened, transit_due, transited, transition}
use Rattle.rt_store.specs.Meaning.{Meaning}
use Rattle.rt_stream.specs.Log.{Log}

-- ---- a replica's own step, in a world with this log, of which these messages were sent

-- it takes messages, builds, asks, is forced or stopped, takes an answer to the segment, or is told of a commit
pub data Goes (ms : List Sent) (log : Log) (s : Segment) (r next : Consumer) : Type 0 where
  consumes : (max : ℕ) (now : Moment) → consumed r max now log ≡ Some next → Goes ms log s r next
  forces : Does (forced r.phase) r next (Ok tt) → Goes ms log s r next
  stops : Does (stopped r.phase) r next (Ok tt) → Goes ms log s r next
  builds : Builds r next (Ok tt) → Goes ms log s r next
  asks : (before after : Numbered) (request : Request) → Requests r next before after (Ok request) → Goes ms log s r next
  extends : (before after : Numbered) (millis : ℕ) (request : Request) → Extends r next before after millis (Ok request) → Goes ms log s r next
  takes : (y : Reply) → Has ms (sent.Reply y) → y.partition ≡ s.0 → y.sequence ≡ s.1 → next ≡ replied r y → Goes ms log s r next
  learns : (done : SeenMeta) (end : Offset) → next ≡ learned r r.phase done end → Goes ms log s r next

-- it was there, has taken a step, or was started
pub data Came (ms : List Sent) (log : Log) (t : Segments) (s : Segment) (next : Consumer) : Type 0 where
  stays : Has t.entries (at s (Replica next)) → Came ms log t s next
  steps : (r : Consumer) → Has t.entries (at s (Replica r)) → Goes ms log s r next → Came ms log t s next
  starts : (setup : Setup) (meta : SegMeta) (now : Moment) → next ≡ started_of setup s.0 s.1 meta now → Came ms log t s next

module _ (ms : List Sent) (log : Log) (t : Segments) where
  abbrev pub CameEntry : Segment → Entry → Type 0
  CameEntry s (Replica next) = Came ms log t s next
  CameEntry s (Committed c) = Unit {0}

  -- so it is of each replica of a table
  abbrev pub AllCame : Segments → Type 0
  AllCame new = Each CameEntry new.entries

  pub all_stay : AllCame t
  all_stay (s, Replica r) has = stays has
  all_stay (s, Committed c) has = tt

  none_else : (new : Segments) → new ≡ t → AllCame new
  none_else new e = subst AllCame (sym e) all_stay

  there : (p : Partition) (q : Sequence) (e : Entry) → entry_of t p q ≡ Some e → Has t.entries (at (p, q) e)
  there p q e found = lookup-Has segment_cmp segment_exact t.entries (p, q) e found

  put_came : (p : Partition) (q : Sequence) (e : Entry) → CameEntry (p, q) e → AllCame (put_back t p q e)
  put_came p q e own = put_each CameEntry t.entries p q e all_stay own

  -- ---- a replica's call

  pub through_came : (X : Type 0) (x : X) (quiet : Type 0) (call : ReplicaCall X) (new : Segments) (p : Partition) (q : Sequence)
      → ((r next : Consumer) → call r next (Ok x) → Goes ms log (p, q) r next) → Through quiet call t new p q (come X x) → AllCame new
  through_came X x quiet call new p q own h = by_replica (replica_of t p q) refl h
    where
      same_come : (y : X) → come X x ≡ come X y → y ≡ x
      same_come y e = cc

      not_come : (e : ServerRefused) → come X x ≡ Err e → ⊥
      not_come e is = cc

      by_answer : (r next : Consumer) (answer : Result X ReplicaRefused) → call r next answer → come X x ≡ answered_as answer → Goes ms log (p, q) r next
      by_answer r next (Ok y) does told = own r next (subst (λ (z : X). call r next (Ok z)) (same_come y told) does)
      by_answer r next (Err e) does told = absurd (not_come _ told)

      by_replica : (o : Option Consumer) → replica_of t p q ≡ o → ThroughAt o quiet call t new p q (come X x) → AllCame new
      by_replica None found (still, told, same) = absurd (not_come _ told)
      by_replica (Some r) found (next, answer, does, told, put) =
          subst AllCame (sym put) (put_came p q (Replica next) (steps r (there p q (Replica r) (replica_found (entry_of t p q) r found)) (by_answer r next answer does told)))

  -- ---- an answer

  pub reply_came : (y : Reply) → Has ms (sent.Reply y) → AllCame (replied_in t y).1
  reply_came y sent_it = by_replica (replica_of t y.partition y.sequence) refl
    where
      by_replica : (o : Option Consumer) → replica_of t y.partition y.sequence ≡ o → AllCame (replied_at o t y).1
      by_replica None found = all_stay
      by_replica (Some r) found =
          put_came y.partition y.sequence (Replica (replied r y))
          (steps r (there y.partition y.sequence (Replica r) (replica_found (entry_of t y.partition y.sequence) r found)) (takes y sent_it refl refl refl))

  -- ---- a transition

  module _ (setup : Setup) (p : Partition) (q : Sequence) (now : Moment) where
    told_came : (done : SeenMeta) (end : Offset) (e : Entry) → Has t.entries (at (p, q) e) → CameEntry (p, q) (told e done end)
    told_came done end (Replica r) has = by_test (goes_on (Replica r) end)
      where
        by_test : (b : Bool) → CameEntry (p, q) (cond b (gone_on (Replica r) done end) (wanting done))
        by_test true = steps r has (learns done end refl)
        by_test false = tt
    told_came done end (Committed c) has = tt

    opened_came : (seen : SeenMeta) (o : Option Entry) → AllCame (opened setup t p q now seen o).1
    opened_came seen None = add_each CameEntry t.entries p q (Replica (started_of setup p q seen.meta now)) all_stay (starts setup seen.meta now refl)
    opened_came seen (Some e) = all_stay

    committed_came : (done : SeenMeta) (end : Offset) (o : Option Entry) → entry_of t p q ≡ o → AllCame (committed t p q done end o).1
    committed_came done end None found = add_each CameEntry t.entries p q (wanting done) all_stay tt
    committed_came done end (Some e) found = put_came p q (told e done end) (told_came done end e (there p q e found))

    left_came : AllCame (without t p q)
    left_came = leave_each CameEntry t.entries p q all_stay

    moved_came : (seen : SeenMeta) (status : Status) → AllCame (moved_by setup t p q now seen status).1
    moved_came seen InProgress = opened_came seen (entry_of t p q)
    moved_came seen (Done commit) = committed_came seen commit.end (entry_of t p q) refl
    moved_came seen Abandoned = left_came

    to_came : (seen : Option SeenMeta) → AllCame (moved_to setup t p q now seen).1
    to_came None = left_came
    to_came (Some seen) = moved_came seen seen.meta.status

    transition_came : (m : Mode) (seen : Option SeenMeta) → AllCame (transition setup t p q now m seen).1
    transition_came mode.Offline seen = left_came
    transition_came mode.Consuming seen = to_came seen
    transition_came mode.Online seen = to_came seen

-- ---- a call of a server

module _ (ms : List Sent) (log : Log) (before after : Meaning) (old new : ServerState) where
  abbrev ServerCame : ServerState → Type 0
  ServerCame s = AllCame ms log old.table s.table

  pub transits_came : (p : Partition) (q : Sequence) (now : Moment) (result : Result ReplicaState ServerRefused) → Transits before after old new p q now result
      → ServerCame new
  transits_came p q now result h = by_due (transit_due old.table p q) h
    where
      by_target : (o : Option Mode) → TransitsTo o before after old new p q now result → ServerCame new
      by_target None k = subst ServerCame (sym k.2) (left_came ms log old.table old.setup p q now)
      by_target (Some m) k =
          comes_keep ServerCame old new (stepped_by old (transited old.setup old.table p q now m k.0)) result (all_stay ms log old.table)
          (λ x step.
          let moves = stepped old new p q now m (metadata_in k.0) x step in
          subst ServerCame (sym moves.2) (transition_came ms log old.table old.setup p q now m moves.0)) k.2

      by_due : (b : Bool) → TransitsIf b before after old new p q now result → ServerCame new
      by_due true k = by_target (target_of old.table p q) k
      by_due false k = subst ServerCame (sym k.2) (all_stay ms log old.table)

  pub sees_came : (result : Result ℕ ServerRefused) → SeesIdeal before after old new result → ServerCame new
  sees_came result h =
      comes_keep ServerCame old new (seen_by old h.0) result (all_stay ms log old.table)
      (λ version step. let k = saw old new (answered_by h.0) version step in subst ServerCame (sym k.2) (all_stay ms log old.table)) h.2

  pub restarts_came : (result : Result ℕ ServerRefused) → Restarts before after old new result → ServerCame new
  restarts_came result h =
      comes_keep ServerCame old new (restarted_by old h.0) result (all_stay ms log old.table)
      (λ version step. let k = came old new (answered_by h.0) version step in subst ServerCame (sym k.3) (all_stay ms log old.table)) h.2

pub downloads_came : (ms : List Sent) (log : Log) (before after : DeepMeaning) (schema : Schema) (old new : Segments) (p : Partition) (q : Sequence) (result : Result ℕ ServerRefused)
    → Downloads before after schema old new p q result → AllCame ms log old new
downloads_came ms log before after schema old new p q result h = by_entry (committed_at (entry_of old p q)) h
  where
    by_entry : (o : Option CommittedSegment) → DownloadsAt o before after schema old new p q result → AllCame ms log old new
    by_entry None k = none_else ms log old new k.2
    by_entry (Some c) k = subst (AllCame ms log old) (sym k.2) (put_came ms log old p q (Committed k.0) tt)
