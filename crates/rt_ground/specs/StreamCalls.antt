-- The calls of the stream behind its lock, and of those who share it.
use Rattle.std.specs.Prelude.{◌≡◌, ℕ, ◌<◌, ◌≤◌, List, [], fold, map, replicate, Some, None, Result, Ok, Err}
use Rattle.rt_base.specs.declared.numbers.Offset.{Offset}
use Rattle.rt_base.specs.declared.numbers.Partition.{Partition}
use Rattle.rt_stream.specs.declared.feed.FeedRefused.{FeedRefused}
use Rattle.rt_stream.specs.declared.feed.FeedRefused.TheVariants.{NoPartition, PastEnd, Memory}
use Rattle.rt_stream.specs.Log.{Log, messages_of, end_of, with_message}
use Rattle.rt_stream.specs.Feed.{FeedMeaning, FeedOwn, Grows}
use Rattle.rt_front.specs.declared.entry.Entry.{Entry}
use Rattle.rt_front.specs.Histories.{Known, mine}
use Rattle.rt_ground.specs.declared.appended.Appended.{Appended}
use Rattle.rt_ground.specs.Histories.{whats, Notes, Tells, SeesMore}

abbrev pub with_appended : Log → Appended → Log
with_appended log a = with_message log a.partition a.message

-- the log of so many partitions to which these messages were added, one after the other
abbrev pub log_of : ℕ → List Appended → Log
log_of partitions appended = fold with_appended (replicate partitions []) appended

-- all messages
abbrev pub messages : ℕ → List (Entry Appended) → Log
messages partitions log = log_of partitions (whats log)

-- the messages that a front has seen
abbrev pub seen_by : ℕ → Known Appended → Log
seen_by partitions front = log_of partitions (whats front.seen)

-- a message and where it went
abbrev pub sent_to : Appended → Partition × List ℕ
sent_to a = (a.partition, a.message)

-- the numbers of a front, and its own messages
abbrev pub own_by : Known Appended → FeedOwn
own_by front = record { numbers = front.numbers; messages = map sent_to (whats (mine front.numbers front.seen)) }

-- what the stream means to one who shares it
abbrev pub shared_meaning : ℕ → Known Appended → FeedMeaning
shared_meaning partitions front = record { told = None; seen = seen_by partitions front; own = Some (own_by front) }

-- what became of an append's answer: a message that was added is noted, a refusal is told, and want of memory leaves all
abbrev pub SettledBy : Appended → List (Entry Appended) → List (Entry Appended) → Known Appended → Known Appended → Result Offset FeedRefused → Type 0
SettledBy a old new before after (Ok offset) = Notes old new before after a
SettledBy a old new before after (Err Memory) = (new ≡ old) × (after ≡ before)
SettledBy a old new before after (Err NoPartition) = (new ≡ old) × Tells old before after
SettledBy a old new before after (Err (PastEnd from length)) = (new ≡ old) × Tells old before after

-- an append that was carried out: it answers the length that the partition had
pub record AppendsTo (partitions : ℕ) (old new : List (Entry Appended)) (before after : Known Appended) (a : Appended) (answer : Offset) : Type 0 where
  pub within : a.partition.0 < partitions
  pub offset : answer ≡ end_of (messages_of (messages partitions old) a.partition)
  pub noted : Notes old new before after a

abbrev pub AppendsOnce : ℕ → List (Entry Appended) → List (Entry Appended) → Known Appended → Known Appended → Appended → Result Offset FeedRefused → Type 0
AppendsOnce partitions old new before after a (Ok offset) = AppendsTo partitions old new before after a offset
AppendsOnce partitions old new before after a (Err Memory) = (new ≡ old) × (after ≡ before)
AppendsOnce partitions old new before after a (Err NoPartition) =
    (partitions ≤ a.partition.0) × (new ≡ old) × Tells old before after
AppendsOnce partitions old new before after a (Err (PastEnd from length)) = ⊥

-- a call that reads: the front has then seen all messages
pub record Looks (partitions : ℕ) (old new : List (Entry Appended)) (before after : Known Appended) : Type 0 where
  pub same : new ≡ old
  pub told : Tells old before after
  pub grows : Grows (seen_by partitions before) (messages partitions old)

-- a shared append: of the front's own entries there is just one more, the last of the history, behind all that the front
-- had seen, and it answers the length that its partition had
pub record AppendsMine (partitions : ℕ) (before after : Known Appended) (a : Appended) (answer : Offset) : Type 0 where
  pub log : List (Entry Appended)
  pub within : a.partition.0 < partitions
  pub offset : answer ≡ end_of (messages_of (messages partitions log) a.partition)
  pub noted : Notes log after.seen before after a

abbrev pub SharesBy : ℕ → Known Appended → Known Appended → Appended → Result Offset FeedRefused → Type 0
SharesBy partitions before after a (Ok offset) = AppendsMine partitions before after a offset
SharesBy partitions before after a (Err Memory) = after ≡ before
SharesBy partitions before after a (Err NoPartition) = (partitions ≤ a.partition.0) × SeesMore before after
SharesBy partitions before after a (Err (PastEnd from length)) = ⊥
