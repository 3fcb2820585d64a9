-- What shared calls of the deep store and of the stream promise, as the contracts see it.
use Rattle.std.proofs.Common.{◌≡◌, ℕ, List, Result, subst}
use Rattle.rt_base.specs.declared.numbers.Offset.{Offset}
use Rattle.rt_base.specs.declared.numbers.Partition.{Partition}
use Rattle.rt_deep.specs.declared.deep_put.DeepPut.{DeepPut}
use Rattle.rt_deep.specs.declared.refused.DeepRefused.{DeepRefused}
use Rattle.rt_deep.specs.Calls.{PutsFile, Gets}
use Rattle.rt_stream.specs.declared.feed.FeedRefused.{FeedRefused}
use Rattle.rt_stream.specs.Log.{fetched, measured}
use Rattle.rt_stream.specs.Feed.{answered, Fetches, Measures}
use Rattle.rt_front.specs.declared.entry.Entry.{Entry}
use Rattle.rt_front.specs.Histories.{Known}
use Rattle.rt_ground.specs.declared.appended.Appended.{Appended}
use Rattle.rt_ground.specs.DeepCalls as deep
use Rattle.rt_ground.specs.StreamCalls as stream
use Rattle.rt_ground.proofs.Deeps.{shared_put, shared_get}
use Rattle.rt_ground.proofs.Streams.{shared_fetch, shared_length}

pub put_shared : (put : DeepPut) (v before after : Known DeepPut) (old new : List (Entry DeepPut)) (result : Result (Unit {0}) DeepRefused)
    → before ≡ v → deep.PutsOnce put old new before after result → PutsFile (deep.shared_meaning v) (deep.shared_meaning after) put result
put_shared put v before after old new result view w =
    subst (λ (b : Known DeepPut). PutsFile (deep.shared_meaning b) (deep.shared_meaning after) put result) view (shared_put put before after old new result w)

pub get_shared : (path : List ℕ) (v before after : Known DeepPut) (old new : List (Entry DeepPut)) (result : Result (List ℕ) DeepRefused)
    → before ≡ v → deep.GetsFrom path old new before after result → Gets (deep.shared_meaning v) (deep.shared_meaning after) path result
get_shared path v before after old new result view w =
    subst (λ (b : Known DeepPut). Gets (deep.shared_meaning b) (deep.shared_meaning after) path result) view (shared_get path before after old new result w)

pub fetch_shared : (n : ℕ) (v before after : Known Appended) (old new : List (Entry Appended)) (p : Partition) (from : Offset) (max : ℕ) (result : Result (List (List ℕ)) FeedRefused)
    → before ≡ v → stream.Looks n old new before after → answered result (fetched (stream.messages n old) p from max)
    → Fetches (stream.shared_meaning n v) (stream.shared_meaning n after) p from max result
fetch_shared n v before after old new p from max result view w a =
    subst (λ (b : Known Appended). Fetches (stream.shared_meaning n b) (stream.shared_meaning n after) p from max result) view
    (shared_fetch n before after old new p from max result w a)

pub length_shared : (n : ℕ) (v before after : Known Appended) (old new : List (Entry Appended)) (p : Partition) (result : Result Offset FeedRefused)
    → before ≡ v → stream.Looks n old new before after → result ≡ measured (stream.messages n old) p
    → Measures (stream.shared_meaning n v) (stream.shared_meaning n after) p result
length_shared n v before after old new p result view w a =
    subst (λ (b : Known Appended). Measures (stream.shared_meaning n b) (stream.shared_meaning n after) p result) view
    (shared_length n before after old new p result w a)
