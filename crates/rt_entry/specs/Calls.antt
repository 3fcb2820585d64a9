-- The calls of an entry: what each comes to.
use Rattle.std.specs.Prelude.{◌≡◌, ◌<◌, Bool, false, length, Result, Ok, Err, ◌≤◌}
use Rattle.rt_model.specs.declared.reply.Reply.{Reply}
use Rattle.rt_consumer.specs.declared.consumer.Consumer.{Consumer}
use Rattle.rt_consumer.specs.declared.refused.ReplicaRefused.{ReplicaRefused}
use Rattle.rt_consumer.specs.declared.refused.ReplicaRefused.TheVariants as replica
use Rattle.rt_consumer.specs.Replies.{is_answer, replied}
use Rattle.rt_entry.specs.declared.entry.Entry.{Entry}
use Rattle.rt_entry.specs.declared.entry.Entry.TheVariants.{Replica, Committed}
use Rattle.rt_entry.specs.declared.refused.ServerRefused.{ServerRefused}
use Rattle.rt_entry.specs.declared.refused.ServerRefused.TheVariants.{NotDue, StoreFault, BadFile, Memory}
use Rattle.rt_stream.specs.Log.{Log, messages_of}
use Rattle.rt_consumer.specs.Consumer.{cur}

-- what a call comes to: what it answers, and what it leaves
abbrev pub Step : Type 0 → Type 0 → Type 0
Step S X = Result (X × S) ServerRefused

-- what a call comes to where memory may run out before it is answered so; a fault of a store is answered at once
abbrev pub MayRunOut : {X : Type 0} → Result X ServerRefused → Type 0
MayRunOut (Ok x) = Unit {0}
MayRunOut (Err NotDue) = ⊥
MayRunOut (Err StoreFault) = ⊥
MayRunOut (Err (BadFile wanted found)) = Unit {0}
MayRunOut (Err Memory) = Unit {0}

-- the call comes to this, but that memory may run out; a refused call changes nothing
abbrev pub Comes : {S X : Type 0} → Step S X → S → S → Result X ServerRefused → Type 0
Comes step old new (Ok x) = step ≡ Ok (x, new)
Comes step old new (Err Memory) = MayRunOut step × (new ≡ old)
Comes step old new (Err NotDue) = (step ≡ Err NotDue) × (new ≡ old)
Comes step old new (Err StoreFault) = (step ≡ Err StoreFault) × (new ≡ old)
Comes step old new (Err (BadFile wanted found)) = (step ≡ Err (BadFile wanted found)) × (new ≡ old)

-- a replica's answer, as its server gives it
abbrev pub refused_as : ReplicaRefused → ServerRefused
refused_as replica.NotDue = NotDue
refused_as replica.Memory = Memory

abbrev pub answered_as : {X : Type 0} → Result X ReplicaRefused → Result X ServerRefused
answered_as (Ok x) = Ok x
answered_as (Err e) = Err (refused_as e)

-- a call of a replica, by what the replica is before it and after it, and by its answer
abbrev pub ReplicaCall : Type 0 → Type 1
ReplicaCall X = Consumer → Consumer → Result X ReplicaRefused → Type 0

-- the call of an entry's replica; a committed segment has none, and then nothing else is done
abbrev pub EntryCall : {X : Type 0} → Type 0 → ReplicaCall X → Entry → Entry → Result X ServerRefused → Type 0
EntryCall {X} quiet call (Replica r) new result =
    (next : Consumer) × (answer : Result X ReplicaRefused) × call r next answer × (result ≡ answered_as answer) × (new ≡ Replica next)
EntryCall quiet call (Committed c) new result = quiet × (result ≡ Err NotDue) × (new ≡ Committed c)

-- an answer to a request of the replica
abbrev pub entry_replied : Entry → Reply → Bool × Entry
entry_replied (Replica r) reply = (is_answer r.waited reply, Replica (replied r reply))
entry_replied (Committed c) reply = (false, Committed c)

-- the log has the replica's partition with all messages that it took
abbrev pub TakesFrom : Log → Entry → Type 0
TakesFrom log (Replica r) = (r.partition.0 < length log) × ((cur r).0 ≤ length (messages_of log r.partition))
TakesFrom log (Committed c) = Unit {0}
