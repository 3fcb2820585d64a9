-- What is held of a log at the start, by force, by a stop, and of a log that is told.
use Rattle.std.proofs.Common.{◌≡◌, ◌≤◌, ℕ, length, Some, None, Ok, subst}
use Rattle.rt_base.specs.declared.numbers.Moment.{Moment}
use Rattle.rt_base.specs.declared.numbers.Partition.{Partition}
use Rattle.rt_base.specs.declared.numbers.Sequence.{Sequence}
use Rattle.rt_stream.specs.Feed.{FeedMeaning, log_meaning}
use Rattle.rt_stream.specs.Log.{Log, messages_of}
use Rattle.rt_model.specs.declared.seg_meta.SegMeta.{SegMeta}
use Rattle.rt_model.specs.declared.setup.Setup.{Setup}
use Rattle.rt_consumer.specs.declared.phase.Phase.{Phase}
use Rattle.rt_consumer.specs.declared.consumer.Consumer.{Consumer}
use Rattle.rt_consumer.specs.Consumer.{started_of}
use Rattle.rt_consumer.specs.Batch.{consumed, Consumes}
use Rattle.rt_consumer.specs.Requests.{forced, stopped}
use Rattle.rt_replica.specs.Held.{IsHeld}
use Rattle.rt_replica.proofs.OthersSoFar as so_far
use Rattle.rt_replica.proofs.SoFar.{forget, back, starts}

pub started_held : (setup : Setup) (p : Partition) (q : Sequence) (meta : SegMeta) (now : Moment) (log : Log) → meta.start.0 ≤ length (messages_of log p)
    → IsHeld log (started_of setup p q meta now)
started_held setup p q meta now log le = back log (started_of setup p q meta now) le (so_far.started_held setup p q meta now log)

pub forced_held : (r : Consumer) (n : Phase) (log : Log) → forced r.phase ≡ Some n → IsHeld log r → IsHeld log (record r { phase = n; waited = None })
forced_held r n log e h = back log (record r { phase = n; waited = None }) (starts log r h) (so_far.forced_held r n log e (forget log r h))

pub stopped_held : (r : Consumer) (n : Phase) (log : Log) → stopped r.phase ≡ Some n → IsHeld log r → IsHeld log (record r { phase = n; waited = None })
stopped_held r n log e h = back log (record r { phase = n; waited = None }) (starts log r h) (so_far.stopped_held r n log e (forget log r h))

-- a log that is told has one answer
pub consumes_told : (log : Log) (after : FeedMeaning) (old new : Consumer) (max : ℕ) (now : Moment) (u : Unit {0})
    → Consumes (log_meaning log) after old new max now (Ok u) → (after ≡ log_meaning log) × (consumed old max now log ≡ Some new)
consumes_told log after old new max now u h =
    let told = h.0.sees.0 in
    let seen = h.0.sees.1 in
    let own = h.0.own in
    ((λ j. record { told = told j; seen = seen j; own = own j }), subst (λ l. consumed old max now l ≡ Some new) seen h.1)
