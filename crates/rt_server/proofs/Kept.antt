-- What is true of every server stays true.
use Rattle.std.proofs.Common.{◌≡◌, ◌==◌, ℕ, zero, suc, ◌<◌, Bool, true, false, cond, List, [], ◌∷◌, Option, Some, None, Result, IfSome, refl, sym, ap, subst, ◌∙◌}
use Rattle.std.specs.BTreeMap.{insert_entry}
use Rattle.std.specs.List.Sorted.{IsStrictlySortedBy}
use Rattle.std.specs.Map.{keys_of}
use Rattle.std.proofs.lemmas.List.Elements.{All-nil}
use Rattle.std.proofs.lemmas.Map.{keys-set_value}
use Rattle.std.proofs.lemmas.Map.Views.{All-map-remove_entry, All-values-insert_entry, All-values-set_value, IfSome-lookup_from_All}
use Rattle.rt_base.specs.declared.numbers.Instance.{Instance}
use Rattle.rt_base.specs.declared.numbers.Moment.{Moment}
use Rattle.rt_base.specs.declared.numbers.Offset.{Offset}
use Rattle.rt_base.specs.declared.numbers.Partition.{Partition}
use Rattle.rt_base.specs.declared.numbers.Sequence.{Sequence}
use Rattle.rt_stream.specs.Feed.{FeedMeaning}
use Rattle.rt_model.specs.declared.ideal_state.IdealEntry.{IdealEntry}
use Rattle.rt_model.specs.declared.ideal_state.Mode.{Mode}
use Rattle.rt_model.specs.declared.ideal_state.Mode.TheVariants.{Consuming, Online, Offline}
use Rattle.rt_model.specs.declared.replica_state.ReplicaState.{ReplicaState}
use Rattle.rt_model.specs.declared.reply.Reply.{Reply}
use Rattle.rt_model.specs.declared.request.Request.{Request}
use Rattle.rt_model.specs.declared.seg_meta.SeenMeta.{SeenMeta}
use Rattle.rt_model.specs.declared.setup.Setup.{Setup}
use Rattle.rt_model.specs.declared.status.Status.{Status}
use Rattle.rt_model.specs.declared.status.Status.TheVariants.{InProgress, Done, Abandoned}
use Rattle.rt_model.specs.Setup.{IsSetup}
use Rattle.rt_msgs.specs.Numbered.{Numbered}
use Rattle.rt_consumer.specs.declared.consumer.Consumer.{Consumer}
use Rattle.rt_consumer.specs.declared.refused.ReplicaRefused.{ReplicaRefused}
use Rattle.rt_consumer.specs.Batch.{Consumes}
use Rattle.rt_consumer.specs.Consumer.{IsConsumer, end_in, end_of, started_of}
use Rattle.rt_consumer.specs.Replies.{replied}
use Rattle.rt_consumer.specs.Requests.{Builds, Does, Extends, Requests, forced, stopped}
use Rattle.rt_replica.proofs.Keeps.{builds_is, consumes_is, extends_is, forces_is, replies_is, requests_is, started_is, stops_is}
use Rattle.rt_entry.specs.declared.entry.Entry.{Entry}
use Rattle.rt_entry.specs.declared.entry.Entry.TheVariants.{Replica, Committed}
use Rattle.rt_entry.specs.declared.refused.ServerRefused.{ServerRefused}
use Rattle.rt_server.specs.Calls.{Asks, AsksFor, Forces, Seals, Stops, Takes, ThroughAt, replied_at, replied_in, targets_of}
use Rattle.rt_entry.specs.Calls.{ReplicaCall}
use Rattle.rt_server.specs.Fresh.{first_meta, first_replica, first_segments, first_sequence, is_assigned, with_first}
use Rattle.rt_entry.specs.Entry.{IsEntry, wanting}
use Rattle.rt_server.specs.Kept.{IsOfSegment, IsServer}
use Rattle.rt_server.specs.Past.{MayLearn, MayLearnOf}
use Rattle.rt_server.specs.Table.{Segment, Segments, entry_of, is_segment, put_back, replica_at, replica_of, segment_cmp, segment_of, with_entry, without}
use Rattle.rt_server.specs.Transition.{Moved, committed, moved_by, moved_to, opened, transition}
use Rattle.rt_entry.specs.Transition.{goes_on, gone_on, told}
use Rattle.rt_entry.proofs.Settings.{builds_keep, consumes_keep, does_keep, extends_keep, replied_keeps, requests_keep}
use Rattle.rt_entry.proofs.Learning.{told_is}
use Rattle.rt_server.proofs.EachEntry.{add_each, found_each, leave_each, put_each}
use Rattle.rt_server.proofs.LastingTables.{none_sorted, segment_total, sorted-insert_entry, sorted-remove_entry}
use Rattle.rt_server.proofs.SameSegment.{builds_segment, consumes_segment, does_segment, extends_segment, learned_segment, replies_segment, requests_segment}

-- ---- entries

abbrev the_entry : Entry → Option Entry
the_entry e = Some e

abbrev the_replica : Consumer → Option Consumer
the_replica r = Some r

pub with_entry_is : (setup : Setup) (t : Segments) (p : Partition) (q : Sequence) (e : Entry) → IsServer setup t → IsEntry setup e → IsOfSegment (p, q) e
    → IsServer setup (with_entry t p q e)
with_entry_is setup t p q e s is of =
    record {
      cluster = s.cluster;
      entries = All-values-insert_entry segment_cmp (p, q) e (IsEntry setup) t.entries s.entries is;
      targets = s.targets;
      ascending = sorted-insert_entry segment_cmp segment_total t.entries (p, q) e s.ascending;
      segments = add_each IsOfSegment t.entries p q e s.segments of;
    }

pub put_back_is : (setup : Setup) (t : Segments) (p : Partition) (q : Sequence) (e : Entry) → IsServer setup t → IsEntry setup e → IsOfSegment (p, q) e
    → IsServer setup (put_back t p q e)
put_back_is setup t p q e s is of =
    record {
      cluster = s.cluster;
      entries = All-values-set_value (is_segment p q) (IsEntry setup) t.entries e s.entries is;
      targets = s.targets;
      ascending = subst (IsStrictlySortedBy segment_cmp) (sym (keys-set_value (is_segment p q) t.entries e)) s.ascending;
      segments = put_each IsOfSegment t.entries p q e s.segments of;
    }

pub without_is : (setup : Setup) (t : Segments) (p : Partition) (q : Sequence) → IsServer setup t → IsServer setup (without t p q)
without_is setup t p q s =
    record {
      cluster = s.cluster;
      entries = All-map-remove_entry (is_segment p q) (λ e. e.1) (IsEntry setup) t.entries s.entries;
      targets = s.targets;
      ascending = sorted-remove_entry segment_cmp (is_segment p q) t.entries s.ascending;
      segments = leave_each IsOfSegment t.entries p q s.segments;
    }

targets_if : (b : Bool) (ts : List (Segment × Mode)) (k : Segment) (mode : Mode) → IsStrictlySortedBy segment_cmp (keys_of ts)
    → IsStrictlySortedBy segment_cmp (keys_of (cond b (insert_entry segment_cmp ts k mode) ts))
targets_if true ts k mode up = sorted-insert_entry segment_cmp segment_total ts k mode up
targets_if false ts k mode up = up

-- the targets of an instance ascend
pub targets_ascend : (i : Instance) (es : List IdealEntry) → IsStrictlySortedBy segment_cmp (keys_of (targets_of i es))
targets_ascend i [] = none_sorted segment_cmp
targets_ascend i (e ∷ es) = targets_if (e.instance.0 == i.0) (targets_of i es) (e.partition, e.sequence) e.mode (targets_ascend i es)

pub targets_are : (setup : Setup) (t : Segments) (i : Instance) (es : List IdealEntry) → IsServer setup t → IsServer setup (record t { targets = targets_of i es })
targets_are setup t i es s =
    record {
      cluster = s.cluster;
      entries = s.entries;
      targets = targets_ascend i es;
      ascending = s.ascending;
      segments = s.segments;
    }

pub found_is : (setup : Setup) (t : Segments) (p : Partition) (q : Sequence) (e : Entry) → IsServer setup t → entry_of t p q ≡ the_entry e → IsEntry setup e
found_is setup t p q e s found =
    subst (λ o. IfSome o (IsEntry setup)) found (IfSome-lookup_from_All (IsEntry setup) (is_segment p q) t.entries s.entries)

pub found_of : (setup : Setup) (t : Segments) (p : Partition) (q : Sequence) (e : Entry) → IsServer setup t → entry_of t p q ≡ the_entry e → IsOfSegment (p, q) e
found_of setup t p q e s found = found_each IsOfSegment t.entries p q e s.segments found

pub replica_found : (o : Option Entry) (r : Consumer) → replica_at o ≡ the_replica r → o ≡ the_entry (Replica r)
replica_found None r e = absurd (cc)
replica_found (Some (Replica s)) r e = ap (λ (x : Consumer). the_entry (Replica x)) (unwrapped s r e)
  where
    unwrapped : (a b : Consumer) → the_replica a ≡ the_replica b → a ≡ b
    unwrapped a b e = cc
replica_found (Some (Committed c)) r e = absurd (cc)

pub no_entries : (setup : Setup) → IsSetup setup → IsServer setup (record { targets = []; entries = [] })
no_entries setup s =
    record {
      cluster = s;
      entries = All-nil (IsEntry setup);
      targets = none_sorted segment_cmp;
      ascending = none_sorted segment_cmp;
      segments = λ x has. absurd has;
    }

pub crashed_is : (setup : Setup) (t : Segments) → IsServer setup t → IsServer setup (record { targets = []; entries = [] })
crashed_is setup t s = no_entries setup s.cluster

-- ---- a fresh server

first_is : (setup : Setup) (p : Partition) (t : Segments) → IsServer setup t → IsServer setup (with_first setup p t)
first_is setup p t s =
    let r = first_replica setup p in
    let first = with_entry_is setup t p first_sequence (Replica r) s (started_is setup p first_sequence (first_meta setup p) setup.start s.cluster, refl) refl in
    record {
      cluster = s.cluster;
      entries = first.entries;
      targets = sorted-insert_entry segment_cmp segment_total t.targets (p, first_sequence) Consuming s.targets;
      ascending = first.ascending;
      segments = first.segments;
    }

first_if : (setup : Setup) (p : Partition) (t : Segments) (b : Bool) → IsServer setup t → IsServer setup (cond b (with_first setup p t) t)
first_if setup p t true s = first_is setup p t s
first_if setup p t false s = s

pub fresh_is : (setup : Setup) (i : Instance) (count : ℕ) → IsSetup setup → IsServer setup (first_segments setup i count)
fresh_is setup i zero s = no_entries setup s
fresh_is setup i (suc p) s =
    first_if setup (record { 0 = p }) (first_segments setup i p) (is_assigned setup (record { 0 = p }) i) (fresh_is setup i p s)

-- a table that was made of a setup, beside a copy of that
pub made_is : (setup copy : Setup) (i : Instance) (t : Segments) → IsSetup setup → copy ≡ setup → t ≡ first_segments setup i setup.partitions → IsServer copy t
made_is setup copy i t s same is =
    subst (λ c. IsServer c t) (sym same) (subst (IsServer setup) (sym is) (fresh_is setup i setup.partitions s))

-- ---- a transition

opened_is : (setup : Setup) (t : Segments) (p : Partition) (q : Sequence) (now : Moment) (seen : SeenMeta) (o : Option Entry)
    → IsServer setup t → IsServer setup (opened setup t p q now seen o).1
opened_is setup t p q now seen None s =
    with_entry_is setup t p q (Replica (started_of setup p q seen.meta now)) s (started_is setup p q seen.meta now s.cluster, refl) refl
opened_is setup t p q now seen (Some e) s = s

-- the replica that was found starts before the end that is told
pub may_learn_entry : (t : Segments) (p : Partition) (q : Sequence) (done : SeenMeta) (end : Offset) (x : Entry) → entry_of t p q ≡ Some x
    → end_of done ≡ Some end → MayLearnOf t p q done → (r : Consumer) → x ≡ Replica r → r.start.0 < end.0
may_learn_entry t p q done end x found e may r is = may r end (ap replica_at found ∙ ap (λ y. replica_at (the_entry y)) is) e

-- an entry that is told of a commit is of its segment still
told_of_if : (s : Segment) (x : Entry) (done : SeenMeta) (end : Offset) (b : Bool) → IsOfSegment s x → IsOfSegment s (cond b (gone_on x done end) (wanting done))
told_of_if s (Replica r) done end true of = learned_segment r r.phase done end ∙ of
told_of_if s (Committed c) done end true of = tt
told_of_if s x done end false of = tt

told_of : (s : Segment) (x : Entry) (done : SeenMeta) (end : Offset) → IsOfSegment s x → IsOfSegment s (told x done end)
told_of s x done end of = told_of_if s x done end (goes_on x end) of

committed_is : (setup : Setup) (t : Segments) (p : Partition) (q : Sequence) (done : SeenMeta) (end : Offset) (o : Option Entry)
    → entry_of t p q ≡ o → end_of done ≡ Some end → MayLearnOf t p q done → IsServer setup t → IsServer setup (committed t p q done end o).1
committed_is setup t p q done end None found e may s = with_entry_is setup t p q (wanting done) s tt tt
committed_is setup t p q done end (Some x) found e may s =
    put_back_is setup t p q (told x done end) s
    (told_is setup x done end (found_is setup t p q x s found) e (may_learn_entry t p q done end x found e may))
    (told_of (p, q) x done end (found_of setup t p q x s found))

moved_is : (setup : Setup) (t : Segments) (p : Partition) (q : Sequence) (now : Moment) (seen : SeenMeta) (status : Status)
    → seen.meta.status ≡ status → MayLearnOf t p q seen → IsServer setup t → IsServer setup (moved_by setup t p q now seen status).1
moved_is setup t p q now seen InProgress is may s = opened_is setup t p q now seen (entry_of t p q) s
moved_is setup t p q now seen (Done commit) is may s = committed_is setup t p q seen commit.end (entry_of t p q) refl (ap end_in is) may s
moved_is setup t p q now seen Abandoned is may s = without_is setup t p q s

moved_to_is : (setup : Setup) (t : Segments) (p : Partition) (q : Sequence) (now : Moment) (seen : Option SeenMeta)
    → MayLearn t p q seen → IsServer setup t → IsServer setup (moved_to setup t p q now seen).1
moved_to_is setup t p q now None may s = without_is setup t p q s
moved_to_is setup t p q now (Some seen) may s = moved_is setup t p q now seen seen.meta.status refl may s

transition_is : (setup : Setup) (t : Segments) (p : Partition) (q : Sequence) (now : Moment) (mode : Mode) (seen : Option SeenMeta)
    → MayLearn t p q seen → IsServer setup t → IsServer setup (transition setup t p q now mode seen).1
transition_is setup t p q now Offline seen may s = without_is setup t p q s
transition_is setup t p q now Consuming seen may s = moved_to_is setup t p q now seen may s
transition_is setup t p q now Online seen may s = moved_to_is setup t p q now seen may s

pub transited_is : (setup : Setup) (t new : Segments) (p : Partition) (q : Sequence) (now : Moment) (mode : Mode) (seen : Option SeenMeta) (state : ReplicaState)
    → (state, new) ≡ transition setup t p q now mode seen → MayLearn t p q seen → IsServer setup t → IsServer setup new
transited_is setup t new p q now mode seen state e may s =
    subst (IsServer setup) (sym (ap (λ (m : Moved). m.1) e)) (transition_is setup t p q now mode seen may s)

abbrev moved : ReplicaState → Segments → Moved
moved state t = (state, t)

pub left_is : (setup : Setup) (t new : Segments) (p : Partition) (q : Sequence) (state last : ReplicaState)
    → moved state new ≡ moved last (without t p q) → IsServer setup t → IsServer setup new
left_is setup t new p q state last e s = subst (IsServer setup) (sym (ap (λ (m : Moved). m.1) e)) (without_is setup t p q s)

-- ---- the replicas' calls

-- a replica by its rules, with the settings and of the segment that it had
record Stays (old new : Consumer) : Type 0 where
  is : IsConsumer new
  settings : new.settings ≡ old.settings
  segment : segment_of new ≡ segment_of old

through_is : {X : Type 0} (setup : Setup) (quiet : Type 0) (call : ReplicaCall X) (old new : Segments) (p : Partition) (q : Sequence) (result : Result X ServerRefused) (o : Option Consumer)
    → replica_of old p q ≡ o → ((r next : Consumer) (answer : Result X ReplicaRefused) → call r next answer → IsConsumer r → Stays r next)
    → ThroughAt o quiet call old new p q result → IsServer setup old → IsServer setup new
through_is setup quiet call old new p q result None found keeps h s = subst (IsServer setup) (sym h.2) s
through_is setup quiet call old new p q result (Some r) found keeps h s =
    let is : IsEntry setup (Replica r) = found_is setup old p q (Replica r) s (replica_found (entry_of old p q) r found) in
    let of : IsOfSegment (p, q) (Replica r) = found_of setup old p q (Replica r) s (replica_found (entry_of old p q) r found) in
    let next = keeps r h.0 h.1 h.2 is.0 in
    subst (IsServer setup) (sym h.4) (put_back_is setup old p q (Replica h.0) s (next.is, next.settings ∙ is.1) (next.segment ∙ of))

pub takes_keep : (setup : Setup) (before after : FeedMeaning) (old new : Segments) (p : Partition) (q : Sequence) (max : ℕ) (now : Moment) (result : Result (Unit {0}) ServerRefused)
    → Takes before after old new p q max now result → IsServer setup old → IsServer setup new
takes_keep setup before after old new p q max now result h s =
    through_is setup (after ≡ before) (λ r next answer. Consumes before after r next max now answer) old new p q result (replica_of old p q) refl
    (λ r next answer c is. record { is = consumes_is before after r next max now answer c is; settings = consumes_keep before after r next max now answer c; segment = consumes_segment before after r next max now answer c }) h s

pub forces_keep : (setup : Setup) (old new : Segments) (p : Partition) (q : Sequence) (result : Result (Unit {0}) ServerRefused)
    → Forces old new p q result → IsServer setup old → IsServer setup new
forces_keep setup old new p q result h s =
    through_is setup (Unit {0}) (λ r next answer. Does (forced r.phase) r next answer) old new p q result (replica_of old p q) refl
    (λ r next answer c is. record { is = forces_is r next answer c is; settings = does_keep (forced r.phase) r next answer c; segment = does_segment (forced r.phase) r next answer c }) h s

pub stops_keep : (setup : Setup) (old new : Segments) (p : Partition) (q : Sequence) (result : Result (Unit {0}) ServerRefused)
    → Stops old new p q result → IsServer setup old → IsServer setup new
stops_keep setup old new p q result h s =
    through_is setup (Unit {0}) (λ r next answer. Does (stopped r.phase) r next answer) old new p q result (replica_of old p q) refl
    (λ r next answer c is. record { is = stops_is r next answer c is; settings = does_keep (stopped r.phase) r next answer c; segment = does_segment (stopped r.phase) r next answer c }) h s

pub seals_keep : (setup : Setup) (old new : Segments) (p : Partition) (q : Sequence) (result : Result (Unit {0}) ServerRefused)
    → Seals old new p q result → IsServer setup old → IsServer setup new
seals_keep setup old new p q result h s =
    through_is setup (Unit {0}) (λ r next answer. Builds r next answer) old new p q result (replica_of old p q) refl
    (λ r next answer c is. record { is = builds_is r next answer c is; settings = builds_keep r next answer c; segment = builds_segment r next answer c }) h s

pub asks_keep : (setup : Setup) (before after : Numbered) (old new : Segments) (p : Partition) (q : Sequence) (result : Result Request ServerRefused)
    → Asks before after old new p q result → IsServer setup old → IsServer setup new
asks_keep setup before after old new p q result h s =
    through_is setup (after ≡ before) (λ r next answer. Requests r next before after answer) old new p q result (replica_of old p q) refl
    (λ r next answer c is. record { is = requests_is r next before after answer c is; settings = requests_keep r next before after answer c; segment = requests_segment r next before after answer c }) h s

pub asks_for_keep : (setup : Setup) (before after : Numbered) (millis : ℕ) (old new : Segments) (p : Partition) (q : Sequence) (result : Result Request ServerRefused)
    → AsksFor before after millis old new p q result → IsServer setup old → IsServer setup new
asks_for_keep setup before after millis old new p q result h s =
    through_is setup (after ≡ before) (λ r next answer. Extends r next before after millis answer) old new p q result (replica_of old p q) refl
    (λ r next answer c is. record { is = extends_is r next before after millis answer c is; settings = extends_keep r next before after millis answer c; segment = extends_segment r next before after millis answer c }) h s

replied_is : (setup : Setup) (t : Segments) (reply : Reply) (o : Option Consumer) → replica_of t reply.partition reply.sequence ≡ o
    → IsServer setup t → IsServer setup (replied_at o t reply).1
replied_is setup t reply None found s = s
replied_is setup t reply (Some r) found s =
    let is : IsEntry setup (Replica r) =
    found_is setup t reply.partition reply.sequence (Replica r) s (replica_found (entry_of t reply.partition reply.sequence) r found) in
    let of : IsOfSegment (reply.partition, reply.sequence) (Replica r) =
    found_of setup t reply.partition reply.sequence (Replica r) s (replica_found (entry_of t reply.partition reply.sequence) r found) in
    put_back_is setup t reply.partition reply.sequence (Replica (replied r reply)) s
    (replies_is r (replied r reply) reply refl is.0, replied_keeps r reply ∙ is.1) (replies_segment r reply ∙ of)

pub replies_keep : (setup : Setup) (old new : Segments) (reply : Reply) (result : Bool) → (result, new) ≡ replied_in old reply → IsServer setup old → IsServer setup new
replies_keep setup old new reply result e s =
    subst (IsServer setup) (sym (ap (λ (x : Bool × Segments). x.1) e))
    (replied_is setup old reply (replica_of old reply.partition reply.sequence) refl s)
