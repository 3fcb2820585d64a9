-- A server answers a fault of a store only where the store's count of faults rose.
use Rattle.std.proofs.Common.{◌≡◌, ℕ, ◌<◌, Bool, true, false, List, Option, Some, None, Result, Ok, Err, sym, ap, ◌∙◌}
use Rattle.rt_base.specs.declared.fault.Fault.{Fault}
use Rattle.rt_base.specs.declared.fault.Fault.TheVariants as fault
use Rattle.rt_base.specs.declared.numbers.Moment.{Moment}
use Rattle.rt_base.specs.declared.numbers.Partition.{Partition}
use Rattle.rt_base.specs.declared.numbers.Sequence.{Sequence}
use Rattle.rt_base.specs.Faults.{answer_under}
use Rattle.rt_model.specs.declared.ideal_state.Mode.{Mode}
use Rattle.rt_model.specs.declared.node.Key.TheVariants as key
use Rattle.rt_model.specs.declared.node.Seen.{Seen}
use Rattle.rt_model.specs.declared.replica_state.ReplicaState.{ReplicaState}
use Rattle.rt_model.specs.History.{value_of}
use Rattle.rt_model.specs.Lawful.{bump}
use Rattle.rt_model.proofs.Lawful.{has_ideal_state}
use Rattle.rt_store.specs.declared.refused.StoreRefused.{StoreRefused}
use Rattle.rt_store.specs.declared.refused.StoreRefused.TheVariants as store
use Rattle.rt_store.specs.Answers.{found_in, reading}
use Rattle.rt_store.specs.Calls.{Bumps, Goes, Reads}
use Rattle.rt_store.specs.Contents.{starting_of}
use Rattle.rt_store.specs.Meaning.{Meaning}
use Rattle.rt_deep.specs.Meaning as deep
use Rattle.rt_schema.specs.declared.schema.Schema.{Schema}
use Rattle.rt_entry.specs.declared.entry.CommittedSegment.{CommittedSegment}
use Rattle.rt_entry.proofs.Faults.{loads_rose}
use Rattle.rt_server.specs.Download.{Downloads, DownloadsAt, committed_at}
use Rattle.rt_store.proofs.Told.{read_rose, write_rose}
use Rattle.rt_entry.specs.declared.refused.ServerRefused.{ServerRefused}
use Rattle.rt_entry.specs.declared.refused.ServerRefused.TheVariants.{NotDue, StoreFault, Memory}
use Rattle.rt_server.specs.Calls.{Restarts, SeesIdeal, Transits, TransitsIf, TransitsTo, restarted_by, seen_by, stepped_by}
use Rattle.rt_server.specs.Past.{HasHistory}
use Rattle.rt_server.specs.Table.{Segments, ServerState, entry_of, target_of}
use Rattle.rt_server.specs.Transition.{transit_due, transited}

abbrev refused : (X : Type 0) → StoreRefused → Result X StoreRefused
refused X e = Err e

abbrev answered : (X : Type 0) → X → Result X StoreRefused
answered X x = Ok x

not_ok : (X : Type 0) (x : X) (e : StoreRefused) → refused X e ≡ answered X x → ⊥
not_ok X x e h = cc

-- where a call without a fault is answered, a refusal is one
only_failed : (X : Type 0) (f : Fault) (x : X) (e : StoreRefused) → refused X e ≡ answer_under store.Failed f (answered X x) → refused X e ≡ refused X store.Failed
only_failed X fault.Nothing x e h = absurd (not_ok X x e h)
only_failed X fault.Lost x e h = h
only_failed X fault.Kept x e h = h

no_node : (X : Type 0) → refused X store.NoNode ≡ refused X store.Failed → ⊥
no_node X h = cc

no_exists : (X : Type 0) (found : ℕ) → refused X (store.Exists found) ≡ refused X store.Failed → ⊥
no_exists X found h = cc

no_change : (X : Type 0) (expected found : ℕ) → refused X (store.VersionChanged expected found) ≡ refused X store.Failed → ⊥
no_change X expected found h = cc

abbrev to_server : (X : Type 0) → ServerRefused → Result X ServerRefused
to_server X e = Err e

abbrev come : (X : Type 0) → X → Result X ServerRefused
come X x = Ok x

no_come : (X : Type 0) (x : X) (e : ServerRefused) → come X x ≡ to_server X e → ⊥
no_come X x e h = cc

memory_is_none : (X : Type 0) → to_server X Memory ≡ to_server X StoreFault → ⊥
memory_is_none X h = cc

due_is_none : (X : Type 0) → to_server X StoreFault ≡ to_server X NotDue → ⊥
due_is_none X h = cc

-- ---- a transition

answer_rose : (before after : Meaning) (s : ServerState) (p : Partition) (q : Sequence) (mode : Mode) (now : Moment) (answer : Result Seen StoreRefused)
    → Reads before after (key.Meta p q) answer
    → stepped_by s (transited s.setup s.table p q now mode answer) ≡ to_server (ReplicaState × ServerState) StoreFault
    → before.faults < after.faults
answer_rose before after s p q mode now (Ok w) reads e = absurd (no_come (ReplicaState × ServerState) _ StoreFault e)
answer_rose before after s p q mode now (Err store.NoNode) reads e = absurd (no_come (ReplicaState × ServerState) _ StoreFault e)
answer_rose before after s p q mode now (Err (store.Exists found)) reads e = absurd (no_come (ReplicaState × ServerState) _ StoreFault e)
answer_rose before after s p q mode now (Err (store.VersionChanged expected found)) reads e = absurd (no_come (ReplicaState × ServerState) _ StoreFault e)
answer_rose before after s p q mode now (Err store.Failed) reads e = read_rose before after (key.Meta p q) reads
answer_rose before after s p q mode now (Err store.Memory) reads e = absurd (memory_is_none (ReplicaState × ServerState) e)

transit_rose : (before after : Meaning) (old new : ServerState) (p : Partition) (q : Sequence) (now : Moment) (o : Option Mode)
    → TransitsTo o before after old new p q now (Err StoreFault) → before.faults < after.faults
transit_rose before after old new p q now None h = absurd (no_come ReplicaState _ StoreFault (sym h.1))
transit_rose before after old new p q now (Some mode) h = answer_rose before after old p q mode now h.0 h.1 h.2.0

if_rose : (before after : Meaning) (old new : ServerState) (p : Partition) (q : Sequence) (now : Moment) (b : Bool)
    → TransitsIf b before after old new p q now (Err StoreFault) → before.faults < after.faults
if_rose before after old new p q now true h = transit_rose before after old new p q now (target_of old.table p q) h
if_rose before after old new p q now false h = absurd (due_is_none ReplicaState h.1)

pub transits_rose : (before after : Meaning) (old new : ServerState) (p : Partition) (q : Sequence) (now : Moment)
    → Transits before after old new p q now (Err StoreFault) → before.faults < after.faults
transits_rose before after old new p q now h = if_rose before after old new p q now (transit_due old.table p q) h

-- ---- the ideal state

found_there : (o : Option Seen) (w : Seen) → o ≡ Some w → found_in o ≡ answered Seen w
found_there o w e = ap found_in e

ideal_failed : (before after : Meaning) (f : Fault) (base : List Seen) (w : Seen) (e : StoreRefused) → value_of base key.Ideal ≡ Some w
    → Goes before after f base base (reading key.Ideal base) (refused Seen e) → refused Seen e ≡ refused Seen store.Failed
ideal_failed before after f base w e there g =
    only_failed Seen f w e (g.answered ∙ ap (answer_under store.Failed f) (found_there (value_of base key.Ideal) w there))

seen_rose : (before after : Meaning) (s : ServerState) (answer : Result Seen StoreRefused) → HasHistory s before → Reads before after key.Ideal answer
    → seen_by s answer ≡ to_server (ℕ × ServerState) StoreFault → before.faults < after.faults
seen_rose before after s (Ok w) history c e = absurd (no_come (ℕ × ServerState) _ StoreFault e)
seen_rose before after s (Err store.NoNode) history c e =
    let there = has_ideal_state (starting_of s.setup) c.base (c.sees.lawful (starting_of s.setup) history) in
    absurd (no_node Seen (ideal_failed before after c.fault c.base there.0 store.NoNode there.2 c.goes))
seen_rose before after s (Err (store.Exists found)) history c e =
    let there = has_ideal_state (starting_of s.setup) c.base (c.sees.lawful (starting_of s.setup) history) in
    absurd (no_exists Seen found (ideal_failed before after c.fault c.base there.0 (store.Exists found) there.2 c.goes))
seen_rose before after s (Err (store.VersionChanged expected found)) history c e =
    let there = has_ideal_state (starting_of s.setup) c.base (c.sees.lawful (starting_of s.setup) history) in
    absurd (no_change Seen expected found (ideal_failed before after c.fault c.base there.0 (store.VersionChanged expected found) there.2 c.goes))
seen_rose before after s (Err store.Failed) history c e = read_rose before after key.Ideal c
seen_rose before after s (Err store.Memory) history c e = absurd (memory_is_none (ℕ × ServerState) e)

pub sees_rose : (before after : Meaning) (old new : ServerState) → HasHistory old before → SeesIdeal before after old new (Err StoreFault) → before.faults < after.faults
sees_rose before after old new history h = seen_rose before after old h.0 history h.1 h.2.0

-- ---- a restart

bump_rose : (before after : Meaning) (s : ServerState) (answer : Result ℕ StoreRefused) → Bumps before after s.numbers.instance answer
    → restarted_by s answer ≡ to_server (ℕ × ServerState) StoreFault → before.faults < after.faults
bump_rose before after s (Ok version) c e = absurd (no_come (ℕ × ServerState) _ StoreFault e)
bump_rose before after s (Err store.NoNode) c e = absurd (no_node ℕ (only_failed ℕ c.fault _ store.NoNode c.goes.answered))
bump_rose before after s (Err (store.Exists found)) c e = absurd (no_exists ℕ found (only_failed ℕ c.fault _ (store.Exists found) c.goes.answered))
bump_rose before after s (Err (store.VersionChanged expected found)) c e =
    absurd (no_change ℕ expected found (only_failed ℕ c.fault _ (store.VersionChanged expected found) c.goes.answered))
bump_rose before after s (Err store.Failed) c e = write_rose (λ w. w.version) before after (bump s.numbers.instance) c
bump_rose before after s (Err store.Memory) c e = absurd (memory_is_none (ℕ × ServerState) e)

pub restarts_rose : (before after : Meaning) (old new : ServerState) → Restarts before after old new (Err StoreFault) → before.faults < after.faults
restarts_rose before after old new h = bump_rose before after old h.0 h.1 h.2.0

-- ---- a download

downloads_by : (before after : deep.Meaning) (schema : Schema) (old new : Segments) (p : Partition) (q : Sequence) (o : Option CommittedSegment)
    → DownloadsAt o before after schema old new p q (to_server ℕ StoreFault) → before.faults < after.faults
downloads_by before after schema old new p q None h = absurd (due_is_none ℕ h.1)
downloads_by before after schema old new p q (Some c) h = loads_rose before after schema p q c h.0 h.1

pub downloads_rose : (before after : deep.Meaning) (schema : Schema) (old new : Segments) (p : Partition) (q : Sequence)
    → Downloads before after schema old new p q (Err StoreFault) → before.faults < after.faults
downloads_rose before after schema old new p q h = downloads_by before after schema old new p q (committed_at (entry_of old p q)) h
