use Rattle.std.specs.Prelude.{
  ◌≡◌,
  ℕ,
  ◌<◌,
  ◌≤◌,
  List,
  [],
  ◌∷◌,
  ◌++◌,
  length,
  take,
  drop,
  Result,
  Ok,
  Err,
  nat_le,
  nat_lt,
  slice_index_or,
  slice_set,
  if◌then◌else◌,
}
use Rattle.rt_base.specs.declared.numbers.Partition.{Partition}
use Rattle.rt_base.specs.declared.numbers.Offset.{Offset}
use Rattle.rt_stream.specs.declared.feed.FeedRefused.{FeedRefused}
use Rattle.rt_stream.specs.declared.feed.FeedRefused.TheVariants.{NoPartition, PastEnd, Memory}

-- a log: for each partition, the list of its messages
abbrev pub Log : Type 0
Log = List (List (List ℕ))

-- the messages of a partition
abbrev pub messages_of : Log → Partition → List (List ℕ)
messages_of log partition = slice_index_or log partition.0 []

-- the offset after the last message
abbrev pub end_of : List (List ℕ) → Offset
end_of messages = record { 0 = length messages }

-- the messages from an offset on, at most this many
abbrev pub fetched_from : List (List ℕ) → Offset → ℕ → Result (List (List ℕ)) FeedRefused
fetched_from messages from max =
    if nat_le from.0 (length messages)
    then Ok (take max (drop from.0 messages))
    else Err (PastEnd from (end_of messages))

-- and those of one partition
abbrev pub fetched : Log → Partition → Offset → ℕ → Result (List (List ℕ)) FeedRefused
fetched log partition from max =
    if nat_lt partition.0 (length log)
    then fetched_from (messages_of log partition) from max
    else Err NoPartition

-- the length of a partition's log
abbrev pub measured : Log → Partition → Result Offset FeedRefused
measured log partition =
    if nat_lt partition.0 (length log)
    then Ok (end_of (messages_of log partition))
    else Err NoPartition

-- the log with a message more at the end of a partition
abbrev pub with_message : Log → Partition → List ℕ → Log
with_message log partition message =
    slice_set log partition.0 (messages_of log partition ++ message ∷ [])

-- an append answers the message's offset, the length that the partition's log had; a refused one changes
-- nothing
abbrev pub Appends : Log → Log → Partition → List ℕ → Result Offset FeedRefused → Type 0
Appends old new partition message (Ok offset) =
    (partition.0 < length old)
    × (offset ≡ end_of (messages_of old partition))
    × (new ≡ with_message old partition message)
Appends old new partition message (Err Memory) = (partition.0 < length old) × (new ≡ old)
Appends old new partition message (Err NoPartition) = (length old ≤ partition.0) × (new ≡ old)
Appends old new partition message (Err (PastEnd _ _)) = ⊥
