-- What the length of a partition's log tells.
use Rattle.std.proofs.Common.{◌≡◌, ◌<◌, ◌≤◌, Bool, true, false, length, nat_lt, Result, Ok, Err, arith, refl, ap, if◌then◌else◌}
use Rattle.std.proofs.lemmas.Bool.{ltb-true}
use Rattle.rt_base.specs.declared.numbers.Offset.{Offset}
use Rattle.rt_base.specs.declared.numbers.Partition.{Partition}
use Rattle.rt_stream.specs.declared.feed.FeedRefused.{FeedRefused}
use Rattle.rt_stream.specs.declared.feed.FeedRefused.TheVariants.{NoPartition}
use Rattle.rt_stream.specs.Log.{Log, end_of, measured, messages_of}

-- a partition that has a length is one of the log's
pub has_partition : (log : Log) (partition : Partition) (end : Offset) → measured log partition ≡ Ok end → partition.0 < length log
has_partition log partition end e = by (nat_lt partition.0 (length log)) refl e
  where
    answer : Bool → Result Offset FeedRefused
    answer b = if b then Ok (end_of (messages_of log partition)) else Err NoPartition

    by : (b : Bool) → nat_lt partition.0 (length log) ≡ b → answer b ≡ Ok end → partition.0 < length log
    by true h e = ltb-true _ _ h
    by false h e = absurd (cc)

-- and the length is that of its messages
pub has_messages : (log : Log) (partition : Partition) (end x : Offset) → measured log partition ≡ Ok end → x.0 ≤ end.0 → x.0 ≤ length (messages_of log partition)
has_messages log partition end x e within = by (nat_lt partition.0 (length log)) e
  where
    answer : Bool → Result Offset FeedRefused
    answer b = if b then Ok (end_of (messages_of log partition)) else Err NoPartition

    by : (b : Bool) → answer b ≡ Ok end → x.0 ≤ length (messages_of log partition)
    by true e =
        let same : end_of (messages_of log partition) ≡ end = cc in
        omega (arith, within, ap (λ (o : Offset). o.0) same)
    by false e = absurd (cc)
