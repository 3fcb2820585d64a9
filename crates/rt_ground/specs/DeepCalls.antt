-- The calls of the deep store behind its lock, and of those who share it.
use Rattle.std.specs.Prelude.{◌≡◌, ℕ, List, [], slice_get, Option, Some, None, Result, Ok, Err, ⊤}
use Rattle.rt_deep.specs.declared.deep_put.DeepPut.{DeepPut}
use Rattle.rt_deep.specs.declared.refused.DeepRefused.{DeepRefused}
use Rattle.rt_deep.specs.declared.refused.DeepRefused.TheVariants.{Absent, OtherBytes, Failed, Memory}
use Rattle.rt_deep.specs.Meaning.{Told, Own, Meaning}
use Rattle.rt_deep.specs.Files.{file_of, AreOnce}
use Rattle.rt_deep.specs.Answers.{getting, putting}
use Rattle.rt_front.specs.declared.entry.Entry.{Entry}
use Rattle.rt_front.specs.Histories.{Known, mine}
use Rattle.rt_ground.specs.Histories.{whats, Notes, Tells, SeesMore}

-- the numbers of a front, and its own files
abbrev pub own_by : Known DeepPut → Own
own_by front = record { numbers = front.numbers; files = whats (mine front.numbers front.seen) }

-- what the deep store means to one who shares it
abbrev pub shared_meaning : Known DeepPut → Meaning
shared_meaning front = record { told = None; seen = whats front.seen; own = Some (own_by front); faults = 0 }

-- the deep store in memory that holds a history
abbrev pub held : List (Entry DeepPut) → Told
held log = record { files = whats log; faults = record { plan = []; met = 0 } }

-- a file that was added is noted; where none was, the front is told
abbrev pub NotesAt : Option DeepPut → List (Entry DeepPut) → List (Entry DeepPut) → Known DeepPut → Known DeepPut → Type 0
NotesAt None old new before after = (new ≡ old) × Tells old before after
NotesAt (Some put) old new before after = Notes old new before after put

-- what became of a put's answer, over the files after it, of which there were so many before it
abbrev pub SettledBy : List DeepPut → ℕ → List (Entry DeepPut) → List (Entry DeepPut) → Known DeepPut → Known DeepPut → Result (Unit {0}) DeepRefused → Type 0
SettledBy files count old new before after (Ok x) = NotesAt (slice_get files count) old new before after
SettledBy files count old new before after (Err refused) = (new ≡ old) × Tells old before after

-- a put that found nothing at its path adds its file, and one that found the same bytes adds no entry
abbrev pub AddsBeside : Option DeepPut → List (Entry DeepPut) → List (Entry DeepPut) → Known DeepPut → Known DeepPut → DeepPut → Type 0
AddsBeside None old new before after put = Notes old new before after put
AddsBeside (Some file) old new before after put = (new ≡ old) × Tells old before after

-- a put that wasn't refused
pub record Puts (put : DeepPut) (old new : List (Entry DeepPut)) (before after : Known DeepPut) : Type 0 where
  pub answer : putting put (whats old) ≡ Ok tt
  pub adds : AddsBeside (file_of (whats old) put.path) old new before after put
  pub once : AreOnce (whats old)

-- a put that was refused
pub record Refuses (put : DeepPut) (old new : List (Entry DeepPut)) (before after : Known DeepPut) (refused : DeepRefused) : Type 0 where
  pub same : new ≡ old
  pub cause : putting put (whats old) ≡ Err refused
  pub told : Tells old before after
  pub once : AreOnce (whats old)

-- a put for which memory ran out
pub record Stays (old new : List (Entry DeepPut)) (before after : Known DeepPut) : Type 0 where
  pub same : new ≡ old
  pub told : Tells old before after
  pub once : AreOnce (whats old)

abbrev pub PutsOnce : DeepPut → List (Entry DeepPut) → List (Entry DeepPut) → Known DeepPut → Known DeepPut → Result (Unit {0}) DeepRefused → Type 0
PutsOnce put old new before after (Ok x) = Puts put old new before after
PutsOnce put old new before after (Err Memory) = Stays old new before after
PutsOnce put old new before after (Err Absent) = Refuses put old new before after Absent
PutsOnce put old new before after (Err (OtherBytes kept offered)) = Refuses put old new before after (OtherBytes kept offered)
PutsOnce put old new before after (Err Failed) = Refuses put old new before after Failed

-- the answer is this one, but that memory may run out
abbrev pub IsAnswer : Result (List ℕ) DeepRefused → Result (List ℕ) DeepRefused → Type 0
IsAnswer wanted (Err Memory) = ⊤
IsAnswer wanted (Err Absent) = wanted ≡ Err Absent
IsAnswer wanted (Err (OtherBytes kept offered)) = wanted ≡ Err (OtherBytes kept offered)
IsAnswer wanted (Err Failed) = wanted ≡ Err Failed
IsAnswer wanted (Ok bytes) = wanted ≡ Ok bytes

-- a get: it answers by all files, which the front has then seen
pub record GetsFrom (path : List ℕ) (old new : List (Entry DeepPut)) (before after : Known DeepPut) (result : Result (List ℕ) DeepRefused) : Type 0 where
  pub same : new ≡ old
  pub told : Tells old before after
  pub answered : IsAnswer (getting path (whats old)) result
  pub once : AreOnce (whats old)

-- a shared put: of the front's own entries there is one more, the last of the history, behind all that the front had
-- seen; but none where the same bytes stood at the path
pub record PutsMine (put : DeepPut) (before after : Known DeepPut) : Type 0 where
  pub log : List (Entry DeepPut)
  pub adds : AddsBeside (file_of (whats log) put.path) log after.seen before after put

abbrev pub SharesBy : DeepPut → Known DeepPut → Known DeepPut → Result (Unit {0}) DeepRefused → Type 0
SharesBy put before after (Ok x) = PutsMine put before after
SharesBy put before after (Err refused) = SeesMore before after
