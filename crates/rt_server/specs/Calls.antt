-- The calls of a server, by the answers of the calls that they make.
use Rattle.std.specs.Prelude.{◌≡◌, ◌⊎◌, ℕ, Bool, true, false, List, [], ◌∷◌, ◌==◌, if◌then◌else◌, Option, Some, None, Result, Ok, Err}
use Rattle.std.specs.BTreeMap.{insert_entry}
use Rattle.rt_base.specs.declared.numbers.Instance.{Instance}
use Rattle.rt_base.specs.declared.numbers.Moment.{Moment}
use Rattle.rt_base.specs.declared.numbers.Partition.{Partition}
use Rattle.rt_base.specs.declared.numbers.Sequence.{Sequence}
use Rattle.rt_model.specs.declared.ideal_state.IdealEntry.{IdealEntry}
use Rattle.rt_model.specs.declared.ideal_state.Mode.{Mode}
use Rattle.rt_model.specs.declared.node.Key.TheVariants as key
use Rattle.rt_model.specs.declared.node.Seen.{Seen}
use Rattle.rt_model.specs.declared.replica_state.ReplicaState.{ReplicaState}
use Rattle.rt_model.specs.declared.replica_state.ReplicaState.TheVariants as state
use Rattle.rt_model.specs.declared.reply.Reply.{Reply}
use Rattle.rt_model.specs.declared.request.Request.{Request}
use Rattle.rt_model.specs.Entries.{entries_by}
use Rattle.rt_msgs.specs.Numbered.{Numbered}
use Rattle.rt_stream.specs.Feed.{FeedMeaning}
use Rattle.rt_store.specs.declared.refused.StoreRefused.{StoreRefused}
use Rattle.rt_store.specs.declared.refused.StoreRefused.TheVariants as store
use Rattle.rt_store.specs.Meaning.{Meaning}
use Rattle.rt_store.specs.Calls.{Reads, Bumps, Sees, Stays}
use Rattle.rt_consumer.specs.declared.consumer.Consumer.{Consumer}
use Rattle.rt_consumer.specs.declared.refused.ReplicaRefused.{ReplicaRefused}
use Rattle.rt_consumer.specs.Batch.{Consumes}
use Rattle.rt_consumer.specs.Replies.{is_answer, replied}
use Rattle.rt_consumer.specs.Requests.{Builds, Does, Extends, Requests, forced, stopped}
use Rattle.rt_entry.specs.declared.entry.Entry.TheVariants.{Replica}
use Rattle.rt_entry.specs.declared.refused.ServerRefused.{ServerRefused}
use Rattle.rt_entry.specs.declared.refused.ServerRefused.TheVariants.{NotDue, StoreFault, BadFile, Memory}
use Rattle.rt_server.specs.Table.{Segment, Segments, ServerState, segment_cmp, with_table, target_of, without, put_back, replica_of}
use Rattle.rt_server.specs.Transition.{Moved, transit_due, transited}
use Rattle.rt_entry.specs.Calls.{Step, Comes, answered_as, ReplicaCall}

-- the answer of a call that is refused by a fault alone
abbrev pub answered_by : {X : Type 0} → Result X StoreRefused → Result X ServerRefused
answered_by (Ok x) = Ok x
answered_by (Err store.NoNode) = Err StoreFault
answered_by (Err (store.Exists found)) = Err StoreFault
answered_by (Err (store.VersionChanged expected found)) = Err StoreFault
answered_by (Err store.Failed) = Err StoreFault
answered_by (Err store.Memory) = Err Memory

-- ---- the ideal state is seen

-- the targets of an instance
abbrev pub targets_of : Instance → List IdealEntry → List (Segment × Mode)
targets_of i [] = []
targets_of i (e ∷ es) =
    if e.instance.0 == i.0 then insert_entry segment_cmp (targets_of i es) (e.partition, e.sequence) e.mode else targets_of i es

abbrev pub with_targets : ServerState → List (Segment × Mode) → ServerState
with_targets s targets = record s { table = record s.table { targets = targets } }

-- by the answer of a read of the ideal state, which is always there
abbrev pub seen_in : ServerState → Result Seen ServerRefused → Step ServerState ℕ
seen_in s (Ok seen) = Ok (seen.version, with_targets s (targets_of s.numbers.instance (entries_by seen.node)))
seen_in s (Err e) = Err e

abbrev pub seen_by : ServerState → Result Seen StoreRefused → Step ServerState ℕ
seen_by s answer = seen_in s (answered_by answer)

abbrev pub SeesIdeal : Meaning → Meaning → ServerState → ServerState → Result ℕ ServerRefused → Type 0
SeesIdeal before after old new result =
    (answer : Result Seen StoreRefused) × Reads before after key.Ideal answer × Comes (seen_by old answer) old new result

-- ---- crash and restart

-- neither entries nor targets
abbrev pub crashed : ServerState → ServerState
crashed s = record s { table = record { targets = []; entries = [] } }

abbrev pub in_incarnation : ServerState → ℕ → ServerState
in_incarnation s version =
    record s { numbers = record { instance = s.numbers.instance; incarnation = version; made = 0 } }

-- by the answer of a bump of the boot node, which is always taken
abbrev pub restarted_in : ServerState → Result ℕ ServerRefused → Step ServerState ℕ
restarted_in s (Ok version) = Ok (version, in_incarnation s version)
restarted_in s (Err e) = Err e

abbrev pub restarted_by : ServerState → Result ℕ StoreRefused → Step ServerState ℕ
restarted_by s answer = restarted_in s (answered_by answer)

-- memory ran out, before the store was called or in its call: nothing was written
abbrev pub RanOut : Meaning → Meaning → Type 0
RanOut before after = (after ≡ before) ⊎ ((base : List Seen) × Sees before base × Stays before after base)

-- a call that answers want of memory has written nothing
abbrev pub WroteNothing : {X : Type 0} → Meaning → Meaning → Result X ServerRefused → Type 0
WroteNothing before after (Ok x) = Unit {0}
WroteNothing before after (Err NotDue) = Unit {0}
WroteNothing before after (Err StoreFault) = Unit {0}
WroteNothing before after (Err (BadFile wanted found)) = Unit {0}
WroteNothing before after (Err Memory) = RanOut before after

abbrev pub Restarts : Meaning → Meaning → ServerState → ServerState → Result ℕ ServerRefused → Type 0
Restarts before after old new result =
    (answer : Result ℕ StoreRefused) × Bumps before after old.numbers.instance answer
    × Comes (restarted_by old answer) old new result × WroteNothing before after result

-- ---- a transition

abbrev pub stepped_by : ServerState → Result Moved ServerRefused → Step ServerState ReplicaState
stepped_by s (Ok moved) = Ok (moved.0, with_table s moved.1)
stepped_by s (Err e) = Err e

-- without a target nothing is read, and the entry goes
abbrev pub TransitsTo : Option Mode → Meaning → Meaning → ServerState → ServerState → Partition → Sequence → Moment → Result ReplicaState ServerRefused → Type 0
TransitsTo None before after old new p q now result =
    (after ≡ before) × (result ≡ Ok state.Discarded) × (new ≡ with_table old (without old.table p q))
TransitsTo (Some mode) before after old new p q now result =
    (answer : Result Seen StoreRefused) × Reads before after (key.Meta p q) answer
    × Comes (stepped_by old (transited old.setup old.table p q now mode answer)) old new result

abbrev pub TransitsIf : Bool → Meaning → Meaning → ServerState → ServerState → Partition → Sequence → Moment → Result ReplicaState ServerRefused → Type 0
TransitsIf false before after old new p q now result = (after ≡ before) × (result ≡ Err NotDue) × (new ≡ old)
TransitsIf true before after old new p q now result = TransitsTo (target_of old.table p q) before after old new p q now result

abbrev pub Transits : Meaning → Meaning → ServerState → ServerState → Partition → Sequence → Moment → Result ReplicaState ServerRefused → Type 0
Transits before after old new p q now result =
    TransitsIf (transit_due old.table p q) before after old new p q now result

-- ---- a replica's own call

-- the call of the segment's replica, and all other entries stay; without a replica it isn't due, and nothing else is done
abbrev pub ThroughAt : {X : Type 0} → Option Consumer → Type 0 → ReplicaCall X → Segments → Segments → Partition → Sequence → Result X ServerRefused → Type 0
ThroughAt None quiet call old new p q result = quiet × (result ≡ Err NotDue) × (new ≡ old)
ThroughAt {X} (Some r) quiet call old new p q result =
    (next : Consumer) × (answer : Result X ReplicaRefused)
    × call r next answer × (result ≡ answered_as answer) × (new ≡ put_back old p q (Replica next))

abbrev pub Through : {X : Type 0} → Type 0 → ReplicaCall X → Segments → Segments → Partition → Sequence → Result X ServerRefused → Type 0
Through quiet call old new p q result = ThroughAt (replica_of old p q) quiet call old new p q result

abbrev pub Forces : Segments → Segments → Partition → Sequence → Result (Unit {0}) ServerRefused → Type 0
Forces old new p q result = Through (Unit {0}) (λ r next answer. Does (forced r.phase) r next answer) old new p q result

abbrev pub Stops : Segments → Segments → Partition → Sequence → Result (Unit {0}) ServerRefused → Type 0
Stops old new p q result = Through (Unit {0}) (λ r next answer. Does (stopped r.phase) r next answer) old new p q result

abbrev pub Seals : Segments → Segments → Partition → Sequence → Result (Unit {0}) ServerRefused → Type 0
Seals old new p q result = Through (Unit {0}) (λ r next answer. Builds r next answer) old new p q result

abbrev pub Takes : FeedMeaning → FeedMeaning → Segments → Segments → Partition → Sequence → ℕ → Moment → Result (Unit {0}) ServerRefused → Type 0
Takes before after old new p q max now result =
    Through (after ≡ before) (λ r next answer. Consumes before after r next max now answer) old new p q result

-- a request has the next number of the server's incarnation
abbrev pub Asks : Numbered → Numbered → Segments → Segments → Partition → Sequence → Result Request ServerRefused → Type 0
Asks before after old new p q result =
    Through (after ≡ before) (λ r next answer. Requests r next before after answer) old new p q result

abbrev pub AsksFor : Numbered → Numbered → ℕ → Segments → Segments → Partition → Sequence → Result Request ServerRefused → Type 0
AsksFor before after millis old new p q result =
    Through (after ≡ before) (λ r next answer. Extends r next before after millis answer) old new p q result

-- an answer to a request, for the replica of the segment that it names
abbrev pub replied_at : Option Consumer → Segments → Reply → Bool × Segments
replied_at None t reply = (false, t)
replied_at (Some r) t reply =
    (is_answer r.waited reply, put_back t reply.partition reply.sequence (Replica (replied r reply)))

abbrev pub replied_in : Segments → Reply → Bool × Segments
replied_in t reply = replied_at (replica_of t reply.partition reply.sequence) t reply

-- the table alone has changed
abbrev pub InTable : ServerState → ServerState → Type 0
InTable old new = (new.setup ≡ old.setup) × (new.numbers ≡ old.numbers)
