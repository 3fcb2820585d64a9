-- A refused call leaves a server as it was.
use Rattle.std.proofs.Common.{◌≡◌, ℕ, Bool, true, false, Option, Some, None, Result, Ok, Err, refl, ap, subst, ◌∙◌}
use Rattle.rt_base.specs.declared.numbers.Moment.{Moment}
use Rattle.rt_base.specs.declared.numbers.Partition.{Partition}
use Rattle.rt_base.specs.declared.numbers.Sequence.{Sequence}
use Rattle.rt_schema.specs.declared.schema.Schema.{Schema}
use Rattle.rt_stream.specs.Feed.{FeedMeaning}
use Rattle.rt_model.specs.declared.commit.Commit.{Commit}
use Rattle.rt_model.specs.declared.ideal_state.Mode.{Mode}
use Rattle.rt_model.specs.declared.replica_state.ReplicaState.{ReplicaState}
use Rattle.rt_model.specs.declared.replica_state.ReplicaState.TheVariants as state
use Rattle.rt_store.specs.Meaning.{Meaning}
use Rattle.rt_deep.specs.Meaning as deep
use Rattle.rt_msgs.specs.Numbered.{Numbered}
use Rattle.rt_consumer.specs.declared.consumer.Consumer.{Consumer}
use Rattle.rt_consumer.specs.declared.phase.Phase.{Phase}
use Rattle.rt_consumer.specs.declared.refused.ReplicaRefused.{ReplicaRefused}
use Rattle.rt_consumer.specs.declared.refused.ReplicaRefused.TheVariants.{NotDue, Memory}
use Rattle.rt_consumer.specs.Batch.{Consumes}
use Rattle.rt_consumer.specs.Requests.{Builds, Does, Extends, Requests, forced, stopped}
use Rattle.rt_entry.specs.declared.entry.CommittedSegment.{CommittedSegment}
use Rattle.rt_entry.specs.declared.entry.Entry.TheVariants.{Committed, Replica}
use Rattle.rt_entry.specs.Download.{LoadsOf}
use Rattle.rt_entry.specs.Entry.{wanted_by}
use Rattle.rt_entry.specs.declared.refused.ServerRefused.{ServerRefused}
use Rattle.rt_entry.specs.declared.refused.ServerRefused.TheVariants as server
use Rattle.rt_server.specs.Calls.{Asks, AsksFor, Forces, RanOut, Restarts, Seals, SeesIdeal, Stops, Takes, ThroughAt, Transits, TransitsIf, TransitsTo, WroteNothing}
use Rattle.rt_entry.specs.Calls.{Comes, ReplicaCall, Step, answered_as}
use Rattle.rt_server.specs.Table.{Segments, ServerState, entry_of, put_back, replica_of, target_of}
use Rattle.rt_server.specs.Transition.{transit_due}
use Rattle.rt_server.specs.Download.{Downloads, DownloadsAt, committed_at}
use Rattle.rt_server.proofs.Kept.{replica_found}
use Rattle.rt_server.proofs.Loaded.{committed_found}
use Rattle.rt_server.proofs.Through.{put_same}

abbrev refuse : (X : Type 0) → ServerRefused → Result X ServerRefused
refuse X e = Err e

answered_err : (X : Type 0) (answer : Result X ReplicaRefused) (e : ServerRefused) → refuse X e ≡ answered_as answer → (x : ReplicaRefused) × (answer ≡ Err x)
answered_err X (Ok x) e is = absurd (cc)
answered_err X (Err x) e is = (x, refl)

through_refused : {X : Type 0} (quiet : Type 0) (call : ReplicaCall X) (old new : Segments) (p : Partition) (q : Sequence) (e : ServerRefused) (o : Option Consumer)
    → replica_of old p q ≡ o → ((r next : Consumer) (x : ReplicaRefused) → call r next (Err x) → next ≡ r)
    → ThroughAt o quiet call old new p q (Err e) → new ≡ old
through_refused quiet call old new p q e None found stays h = h.2
through_refused {X} quiet call old new p q e (Some r) found stays h =
    let a = answered_err X h.1 e h.3 in
    let same : h.0 ≡ r = stays r h.0 a.0 (subst (call r h.0) a.1 h.2) in
    h.4 ∙ ap (λ n. put_back old p q (Replica n)) same ∙ put_same old p q (Replica r) (replica_found (entry_of old p q) r found)

does_stay : (to : Option Phase) (old new : Consumer) (x : ReplicaRefused) → Does to old new (Err x) → new ≡ old
does_stay to old new NotDue h = h.1
does_stay to old new Memory h = absurd h

consumes_stay : (before after : FeedMeaning) (old new : Consumer) (max : ℕ) (now : Moment) (x : ReplicaRefused) → Consumes before after old new max now (Err x) → new ≡ old
consumes_stay before after old new max now NotDue h = h.1
consumes_stay before after old new max now Memory h = h.1

builds_stay : (old new : Consumer) (x : ReplicaRefused) → Builds old new (Err x) → new ≡ old
builds_stay old new NotDue h = h.1
builds_stay old new Memory h = h.1

requests_stay : (old new : Consumer) (before after : Numbered) (x : ReplicaRefused) → Requests old new before after (Err x) → new ≡ old
requests_stay old new before after NotDue h = h.1
requests_stay old new before after Memory h = h.1

extends_stay : (old new : Consumer) (before after : Numbered) (millis : ℕ) (x : ReplicaRefused) → Extends old new before after millis (Err x) → new ≡ old
extends_stay old new before after millis NotDue h = h.1
extends_stay old new before after millis Memory h = absurd h

pub takes_stay : (before after : FeedMeaning) (old new : Segments) (p : Partition) (q : Sequence) (max : ℕ) (now : Moment) (e : ServerRefused)
    → Takes before after old new p q max now (Err e) → new ≡ old
takes_stay before after old new p q max now e h =
    through_refused (after ≡ before) (λ r next answer. Consumes before after r next max now answer) old new p q e (replica_of old p q) refl
    (λ r next x c. consumes_stay before after r next max now x c) h

pub forces_stay : (old new : Segments) (p : Partition) (q : Sequence) (e : ServerRefused) → Forces old new p q (Err e) → new ≡ old
forces_stay old new p q e h =
    through_refused (Unit {0}) (λ r next answer. Does (forced r.phase) r next answer) old new p q e (replica_of old p q) refl
    (λ r next x c. does_stay (forced r.phase) r next x c) h

pub stops_stay : (old new : Segments) (p : Partition) (q : Sequence) (e : ServerRefused) → Stops old new p q (Err e) → new ≡ old
stops_stay old new p q e h =
    through_refused (Unit {0}) (λ r next answer. Does (stopped r.phase) r next answer) old new p q e (replica_of old p q) refl
    (λ r next x c. does_stay (stopped r.phase) r next x c) h

pub seals_stay : (old new : Segments) (p : Partition) (q : Sequence) (e : ServerRefused) → Seals old new p q (Err e) → new ≡ old
seals_stay old new p q e h =
    through_refused (Unit {0}) (λ r next answer. Builds r next answer) old new p q e (replica_of old p q) refl
    (λ r next x c. builds_stay r next x c) h

pub asks_stay : (before after : Numbered) (old new : Segments) (p : Partition) (q : Sequence) (e : ServerRefused) → Asks before after old new p q (Err e) → new ≡ old
asks_stay before after old new p q e h =
    through_refused (after ≡ before) (λ r next answer. Requests r next before after answer) old new p q e (replica_of old p q) refl
    (λ r next x c. requests_stay r next before after x c) h

pub asks_for_stay : (before after : Numbered) (millis : ℕ) (old new : Segments) (p : Partition) (q : Sequence) (e : ServerRefused) → AsksFor before after millis old new p q (Err e) → new ≡ old
asks_for_stay before after millis old new p q e h =
    through_refused (after ≡ before) (λ r next answer. Extends r next before after millis answer) old new p q e (replica_of old p q) refl
    (λ r next x c. extends_stay r next before after millis x c) h

-- ---- the calls of a store

comes_refused : {S X : Type 0} (step : Step S X) (old new : S) (e : ServerRefused) → Comes step old new (refuse X e) → new ≡ old
comes_refused step old new server.NotDue h = h.1
comes_refused step old new server.StoreFault h = h.1
comes_refused step old new (server.BadFile wanted found) h = h.1
comes_refused step old new server.Memory h = h.1

pub sees_stay : (before after : Meaning) (old new : ServerState) (e : ServerRefused) → SeesIdeal before after old new (Err e) → new ≡ old
sees_stay before after old new e h = comes_refused _ old new e h.2

not_told : (e : ServerRefused) → refuse ReplicaState e ≡ Ok state.Discarded → ⊥
not_told e h = cc

to_stay : (o : Option Mode) (before after : Meaning) (old new : ServerState) (p : Partition) (q : Sequence) (now : Moment) (e : ServerRefused)
    → TransitsTo o before after old new p q now (Err e) → new ≡ old
to_stay None before after old new p q now e h = absurd (not_told e h.1)
to_stay (Some mode) before after old new p q now e h = comes_refused _ old new e h.2

if_stay : (b : Bool) (before after : Meaning) (old new : ServerState) (p : Partition) (q : Sequence) (now : Moment) (e : ServerRefused)
    → TransitsIf b before after old new p q now (Err e) → new ≡ old
if_stay true before after old new p q now e h = to_stay (target_of old.table p q) before after old new p q now e h
if_stay false before after old new p q now e h = h.2

pub transits_stay : (before after : Meaning) (old new : ServerState) (p : Partition) (q : Sequence) (now : Moment) (e : ServerRefused)
    → Transits before after old new p q now (Err e) → new ≡ old
transits_stay before after old new p q now e h = if_stay (transit_due old.table p q) before after old new p q now e h

pub restarts_stay : (before after : Meaning) (old new : ServerState) (e : ServerRefused) → Restarts before after old new (Err e)
    → (new ≡ old) × (e ≡ server.Memory → RanOut before after)
restarts_stay before after old new e h = (comes_refused _ old new e h.2, λ out. subst (λ x. WroteNothing before after (refuse ℕ x)) out h.3)

-- ---- a download

file_stays : (o : Option Commit) (before after : deep.Meaning) (schema : Schema) (p : Partition) (q : Sequence) (old new : CommittedSegment) (e : ServerRefused)
    → LoadsOf o before after schema p q old new (refuse ℕ e) → new ≡ old
file_stays None before after schema p q old new e h = h.2
file_stays (Some commit) before after schema p q old new e h = comes_refused _ old new e h.2

committed_stays : (o : Option CommittedSegment) (before after : deep.Meaning) (schema : Schema) (old new : Segments) (p : Partition) (q : Sequence) (e : ServerRefused)
    → committed_at (entry_of old p q) ≡ o → DownloadsAt o before after schema old new p q (refuse ℕ e) → new ≡ old
committed_stays None before after schema old new p q e found h = h.2
committed_stays (Some c) before after schema old new p q e found h =
    let same : h.0 ≡ c = file_stays (wanted_by c.file c.done.meta.status) before after schema p q c h.0 e h.1 in
    h.2 ∙ ap (λ n. put_back old p q (Committed n)) same ∙ put_same old p q (Committed c) (committed_found (entry_of old p q) c found)

pub downloads_stay : (before after : deep.Meaning) (schema : Schema) (old new : Segments) (p : Partition) (q : Sequence) (e : ServerRefused)
    → Downloads before after schema old new p q (refuse ℕ e) → new ≡ old
downloads_stay before after schema old new p q e h = committed_stays (committed_at (entry_of old p q)) before after schema old new p q e refl h
