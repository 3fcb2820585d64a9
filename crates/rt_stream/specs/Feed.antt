use Rattle.std.specs.Prelude.{◌≡◌, ℕ, List, ◌++◌, length, Option, Some, None, Result, Ok, Err, IsOk}
use Rattle.rt_base.specs.declared.numbers.Partition.{Partition}
use Rattle.rt_base.specs.declared.numbers.Offset.{Offset}
use Rattle.rt_stream.specs.declared.feed.FeedRefused.{FeedRefused}
use Rattle.rt_stream.specs.declared.feed.FeedRefused.TheVariants.{NoPartition, PastEnd, Memory}
use Rattle.rt_stream.specs.Log.{Log, messages_of, fetched, measured}

-- a caller who is told apart from others: the numbers of its front, and the messages that it appended, in order
pub record FeedOwn : Type 0 where
  pub numbers : List ℕ
  pub messages : List (Partition × List ℕ)

-- what a feed means: the log, where it is told, the messages that its caller has seen, and the caller's own, where
-- callers are told apart
pub record FeedMeaning : Type 0 where
  pub told : Option Log
  pub seen : Log
  pub own : Option FeedOwn

-- a log has the messages of an earlier one, and maybe more behind them in each partition
pub record Grows (old new : Log) : Type 0 where
  pub partitions : length new ≡ length old
  pub messages : (partition : Partition) →
      (more : List (List ℕ)) × (messages_of new partition ≡ messages_of old partition ++ more)

-- the log that a call answers by, which its caller has then seen: the whole log, where that is told
abbrev pub Sees : Option Log → FeedMeaning → Type 0
Sees None new = new.told ≡ None
Sees (Some log) new = (new.told ≡ Some log) × (new.seen ≡ log)

-- the answer is this one; memory may run out where it is no refusal
abbrev pub answered : {X : Type 0} → Result X FeedRefused → Result X FeedRefused → Type 0
answered (Err Memory) wanted = IsOk wanted
answered (Err NoPartition) wanted = wanted ≡ Err NoPartition
answered (Err (PastEnd from length)) wanted = wanted ≡ Err (PastEnd from length)
answered (Ok x) wanted = wanted ≡ Ok x

-- a fetch answers by the log as it stands after the call
pub record Fetches (old new : FeedMeaning) (partition : Partition) (from : Offset) (max : ℕ)
    (result : Result (List (List ℕ)) FeedRefused) : Type 0 where
  pub sees : Sees old.told new
  pub grows : Grows old.seen new.seen
  pub answer : answered result (fetched new.seen partition from max)
  pub own : new.own ≡ old.own

-- and so does a look at the length, which takes no memory
pub record Measures (old new : FeedMeaning) (partition : Partition)
    (result : Result Offset FeedRefused) : Type 0 where
  pub sees : Sees old.told new
  pub grows : Grows old.seen new.seen
  pub answer : result ≡ measured new.seen partition
  pub own : new.own ≡ old.own

-- a log in memory tells everything, and its caller has seen it
abbrev pub log_meaning : Log → FeedMeaning
log_meaning log = record { told = Some log; seen = log; own = None }
