-- What is held of a log stays held: it is held so far, and no step moves the start.
use Rattle.std.proofs.Common.{◌≡◌, ◌≤◌, ℕ, Bool, true, false, cond, List, length, Option, Some, None, ap, arith}
use Rattle.std.proofs.lemmas.List.{length-append}
use Rattle.rt_base.specs.declared.numbers.Moment.{Moment}
use Rattle.rt_base.specs.declared.numbers.Offset.{Offset}
use Rattle.rt_segment.specs.Segment.{SealedSegment}
use Rattle.rt_stream.specs.Feed.{Grows}
use Rattle.rt_stream.specs.Log.{Log, messages_of}
use Rattle.rt_model.specs.Messages.{same_number}
use Rattle.rt_model.specs.declared.reply.Reply.{Reply}
use Rattle.rt_model.specs.declared.seg_meta.SeenMeta.{SeenMeta}
use Rattle.rt_consumer.specs.declared.phase.Phase.{Phase}
use Rattle.rt_consumer.specs.declared.phase.Phase.TheVariants as phase
use Rattle.rt_consumer.specs.declared.replies.Turn.{Turn}
use Rattle.rt_consumer.specs.declared.replies.Turn.TheVariants.{Stays, Goes}
use Rattle.rt_consumer.specs.declared.waited.Waited.{Waited}
use Rattle.rt_consumer.specs.declared.consumer.Consumer.{Consumer}
use Rattle.rt_consumer.specs.Consumer.{IsConsumer, cur, number_of}
use Rattle.rt_consumer.specs.Batch.{asked_in, messages_from, taken, taken_in, consumed as consuming}
use Rattle.rt_consumer.specs.Replies.{turned, turn_by, replied_to, replied}
use Rattle.rt_consumer.specs.Requests.{filed, IsSealedOf, learned}
use Rattle.rt_replica.specs.Held.{IsHeld}
use Rattle.rt_replica.proofs.HoldingSoFar as so_far
use Rattle.rt_replica.proofs.SoFar.{forget, back, starts}

-- a replica starts within the log
abbrev Starts : Log → Consumer → Type 0
Starts log r = r.start.0 ≤ length (messages_of log r.partition)

pub held_grows : (old new : Log) (r : Consumer) → Grows old new → IsHeld old r → IsHeld new r
held_grows old new r g h =
    let more = g.messages r.partition in
    back new r (omega (arith, starts old r h, ap length more.1, length-append (messages_of old r.partition) more.0)) (so_far.held_grows old new r g (forget old r h))

taken_starts : (r : Consumer) (p : Phase) (log : Log) (now : Moment) (ms : List (List ℕ)) → Starts log r → Starts log (taken_in r p now ms)
taken_starts r (phase.Unsealed o) log now ms h = h
taken_starts r (phase.Retained kept) log now ms h = h
taken_starts r (phase.Committed kept) log now ms h = h
taken_starts r (phase.Discarded d) log now ms h = h

pub taken_held : (r : Consumer) (log : Log) (count : ℕ) (now : Moment) → IsHeld log r → IsHeld log (taken r now (messages_from log r.partition (cur r) count))
taken_held r log count now h =
    let ms = messages_from log r.partition (cur r) count in
    back log (taken r now ms) (taken_starts r r.phase log now ms (starts log r h)) (so_far.taken_held r log count now (forget log r h))

either_starts : (log : Log) (b : Bool) (x y : Consumer) → Starts log x → Starts log y → Starts log (cond b x y)
either_starts log true x y h k = h
either_starts log false x y h k = k

turned_starts : (r : Consumer) (t : Turn) (log : Log) → Starts log r → Starts log (turned r t)
turned_starts r (Stays ph) log h = h
turned_starts r (Goes ph) log h = h

replied_starts : (r : Consumer) (w : Option Waited) (reply : Reply) (log : Log) → Starts log r → Starts log (replied_to r w reply)
replied_starts r None reply log h = h
replied_starts r (Some w) reply log h =
    either_starts log (same_number (number_of w) reply.number) (turned r (turn_by r.phase w reply.status)) r
    (turned_starts r (turn_by r.phase w reply.status) log h) h

pub replied_held : (r : Consumer) (reply : Reply) (log : Log) → IsConsumer r → IsHeld log r → IsHeld log (replied r reply)
replied_held r reply log c h =
    back log (replied r reply) (replied_starts r r.waited reply log (starts log r h)) (so_far.replied_held r reply log c (forget log r h))

pub built_held : (r : Consumer) (file : SealedSegment) (log : Log) → IsSealedOf r r.phase file → IsHeld log r → IsHeld log (record r { phase = filed r.phase file; waited = None })
built_held r file log b h = back log (record r { phase = filed r.phase file; waited = None }) (starts log r h) (so_far.built_held r file log b (forget log r h))

learned_starts : (r : Consumer) (p : Phase) (done : SeenMeta) (end : Offset) (log : Log) → Starts log r → Starts log (learned r p done end)
learned_starts r (phase.Unsealed o) done end log h = h
learned_starts r (phase.Discarded d) done end log h = h
learned_starts r (phase.Retained kept) done end log h = h
learned_starts r (phase.Committed kept) done end log h = h

pub learned_held : (r : Consumer) (done : SeenMeta) (end : Offset) (log : Log) → IsHeld log r → IsHeld log (learned r r.phase done end)
learned_held r done end log h = back log (learned r r.phase done end) (learned_starts r r.phase done end log (starts log r h)) (so_far.learned_held r done end log (forget log r h))

-- ---- a batch, from a log

pub batch_held : (r : Consumer) (max : ℕ) (now : Moment) (log : Log) (new : Consumer) → IsHeld log r → consuming r max now log ≡ Some new → IsHeld log new
batch_held r max now log new h e = so_far.some_kept IsHeld log (asked_in r.phase max) (λ count. taken r now (messages_from log r.partition (cur r) count)) new (λ count. taken_held r log count now h) e
