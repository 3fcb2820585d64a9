-- What a feed gives where its caller knows that the messages are there.
use Rattle.std.proofs.Common.{◌≡◌, ◌+◌, ◌<◌, ◌≤◌, ℕ, List, length, Result, Ok, ap, sym, ◌∙◌, arith}
use Rattle.std.proofs.lemmas.Bool.{cond-true, lt-ltb, le-leb}
use Rattle.std.proofs.lemmas.List.{length-append}
use Rattle.rt_base.specs.declared.numbers.Offset.{Offset}
use Rattle.rt_base.specs.declared.numbers.Partition.{Partition}
use Rattle.rt_stream.specs.declared.feed.FeedRefused.{FeedRefused}
use Rattle.rt_stream.specs.Feed.{FeedMeaning, Fetches}
use Rattle.rt_stream.specs.Log.{messages_of, fetched, fetched_from}
use Rattle.rt_consumer.specs.Batch.{messages_from}

abbrev answer : List (List ℕ) → Result (List (List ℕ)) FeedRefused
answer messages = Ok messages

same_ok : (ms ns : List (List ℕ)) → answer ms ≡ answer ns → ms ≡ ns
same_ok ms ns e = cc

pub fetched_is : (before after : FeedMeaning) (partition : Partition) (from : Offset) (count : ℕ) (messages : List (List ℕ))
    → Fetches before after partition from count (Ok messages) → partition.0 < length before.seen → from.0 ≤ length (messages_of before.seen partition)
    → messages ≡ messages_from after.seen partition from count
fetched_is before after partition from count messages f there within =
    let grown = f.grows.messages partition in
    let size : length (messages_of after.seen partition) ≡ length (messages_of before.seen partition) + length grown.0 =
    ap length grown.1 ∙ length-append (messages_of before.seen partition) grown.0 in
    let there_after : partition.0 < length after.seen = omega (arith, there, f.grows.partitions) in
    let within_after : from.0 ≤ length (messages_of after.seen partition) = omega (arith, within, size) in
    let known : fetched after.seen partition from count ≡ fetched_from (messages_of after.seen partition) from count =
    cond-true _ _ _ (lt-ltb _ _ there_after) in
    let given : fetched_from (messages_of after.seen partition) from count ≡ Ok (messages_from after.seen partition from count) =
    cond-true _ _ _ (le-leb _ _ within_after) in
    same_ok _ _ (sym f.answer ∙ known ∙ given)
