-- The calls of the store behind its lock, and of those who share it.
use Rattle.std.specs.Prelude.{◌≡◌, ◌-◌, List, [], length, slice_get, Option, Some, None, Result, Ok, Err, ⊤}
use Rattle.rt_model.specs.declared.node.Seen.{Seen}
use Rattle.rt_model.specs.Starting.{Starting}
use Rattle.rt_model.specs.Lawful.{Write, written_by}
use Rattle.rt_store.specs.declared.refused.StoreRefused.{StoreRefused}
use Rattle.rt_store.specs.declared.refused.StoreRefused.TheVariants.{NoNode, Exists, VersionChanged, Failed, Memory}
use Rattle.rt_store.specs.Meaning.{Told, Own, Meaning}
use Rattle.rt_store.specs.Answers.{refusal_of}
use Rattle.rt_front.specs.declared.entry.Entry.{Entry}
use Rattle.rt_front.specs.Histories.{Known, mine}
use Rattle.rt_ground.specs.Histories.{whats, Notes, Tells, SeesMore}
use Rattle.rt_ground.specs.Lawfulness.{opened, IsLawfulStore}

-- all writes
abbrev pub history_of : Starting → List (Entry Seen) → List Seen
history_of s log = opened s (whats log)

-- the writes that a front has seen
abbrev pub seen_by : Starting → Known Seen → List Seen
seen_by s front = opened s (whats front.seen)

-- the numbers of a front, and its own writes
abbrev pub own_by : Known Seen → Own
own_by front = record { numbers = front.numbers; writes = whats (mine front.numbers front.seen) }

-- what the store means to one who shares it
abbrev pub shared_meaning : Starting → Known Seen → Meaning
shared_meaning s front = record { told = None; seen = seen_by s front; own = Some (own_by front); faults = 0 }

-- the memory store that holds a history
abbrev pub held : Starting → List (Entry Seen) → Told
held s log = record { writes = history_of s log; faults = record { plan = []; met = 0 } }

-- the last write, if there is one, is noted
abbrev pub NotesLast : Option Seen → List (Entry Seen) → List (Entry Seen) → Known Seen → Known Seen → Type 0
NotesLast None old new before after = ⊤
NotesLast (Some w) old new before after = Notes old new before after w

-- what became of a call's answer: a write that was carried out is noted, a refusal is told, and want of memory leaves all
abbrev pub SettledBy : {X : Type 0} → List Seen → List (Entry Seen) → List (Entry Seen) → Known Seen → Known Seen → Result X StoreRefused → Type 0
SettledBy writes old new before after (Ok x) = NotesLast (slice_get writes (length writes - 1)) old new before after
SettledBy writes old new before after (Err Memory) = (new ≡ old) × (after ≡ before)
SettledBy writes old new before after (Err NoNode) = (new ≡ old) × Tells old before after
SettledBy writes old new before after (Err (Exists found)) = (new ≡ old) × Tells old before after
SettledBy writes old new before after (Err (VersionChanged expected found)) = (new ≡ old) × Tells old before after
SettledBy writes old new before after (Err Failed) = (new ≡ old) × Tells old before after

-- a write that was carried out: the history was lawful, and it is lawful with the write
pub record CarriesOut {X : Type 0} (tell : Seen → X) (call : Write) (s : Starting) (old new : List (Entry Seen)) (before after : Known Seen) (x : X) : Type 0 where
  pub free : refusal_of (history_of s old) call ≡ None
  pub answer : x ≡ tell (written_by (history_of s old) call)
  pub noted : Notes old new before after (written_by (history_of s old) call)
  pub lawful : IsLawfulStore s old
  pub lawful_after : IsLawfulStore s new

-- a write that was refused
pub record Refuses (call : Write) (s : Starting) (old new : List (Entry Seen)) (before after : Known Seen) (refused : StoreRefused) : Type 0 where
  pub same : new ≡ old
  pub cause : refusal_of (history_of s old) call ≡ Some refused
  pub told : Tells old before after
  pub lawful : IsLawfulStore s old

-- a write call
abbrev pub WritesOnce : {X : Type 0} → (Seen → X) → Write → Starting → List (Entry Seen) → List (Entry Seen) → Known Seen → Known Seen → Result X StoreRefused → Type 0
WritesOnce tell call s old new before after (Ok x) = CarriesOut tell call s old new before after x
WritesOnce tell call s old new before after (Err Memory) = (new ≡ old) × (after ≡ before)
WritesOnce tell call s old new before after (Err NoNode) = Refuses call s old new before after NoNode
WritesOnce tell call s old new before after (Err (Exists found)) = Refuses call s old new before after (Exists found)
WritesOnce tell call s old new before after (Err (VersionChanged expected found)) = Refuses call s old new before after (VersionChanged expected found)
WritesOnce tell call s old new before after (Err Failed) = Refuses call s old new before after Failed

-- the answer is this one, but that memory may run out
abbrev pub IsAnswer : {X : Type 0} → Result X StoreRefused → Result X StoreRefused → Type 0
IsAnswer wanted (Err Memory) = ⊤
IsAnswer wanted (Err NoNode) = wanted ≡ Err NoNode
IsAnswer wanted (Err (Exists found)) = wanted ≡ Err (Exists found)
IsAnswer wanted (Err (VersionChanged expected found)) = wanted ≡ Err (VersionChanged expected found)
IsAnswer wanted (Err Failed) = wanted ≡ Err Failed
IsAnswer wanted (Ok x) = wanted ≡ Ok x

-- a call that reads: it answers by the whole history, which the front has then seen
pub record Looks {X : Type 0} (answer : List Seen → Result X StoreRefused) (s : Starting) (old new : List (Entry Seen)) (before after : Known Seen) (result : Result X StoreRefused) : Type 0 where
  pub same : new ≡ old
  pub told : Tells old before after
  pub answered : IsAnswer (answer (history_of s old)) result
  pub lawful : IsLawfulStore s old

-- a shared call that wrote: of the front's own entries there is just one more, the last of the history, behind all that
-- the front had seen
pub record WritesMine (call : Write) (s : Starting) (before after : Known Seen) : Type 0 where
  pub log : List (Entry Seen)
  pub noted : Notes log after.seen before after (written_by (history_of s log) call)

abbrev pub SharesBy : {X : Type 0} → Write → Starting → Known Seen → Known Seen → Result X StoreRefused → Type 0
SharesBy call s before after (Ok x) = WritesMine call s before after
SharesBy call s before after (Err Memory) = after ≡ before
SharesBy call s before after (Err NoNode) = SeesMore before after
SharesBy call s before after (Err (Exists found)) = SeesMore before after
SharesBy call s before after (Err (VersionChanged expected found)) = SeesMore before after
SharesBy call s before after (Err Failed) = SeesMore before after

-- what the whole history is, at a moment of a call
pub record ShowsAll (s : Starting) (before after : Known Seen) (writes : List Seen) : Type 0 where
  pub sees : SeesMore before after
  pub whole : writes ≡ seen_by s after
  pub lawful : IsLawfulStore s after.seen
