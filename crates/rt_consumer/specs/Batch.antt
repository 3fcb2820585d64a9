-- The messages that a replica takes.
use Rattle.std.specs.Prelude.{◌≡◌, ◌-◌, ◌&&◌, ℕ, Bool, List, [], ◌∷◌, length, take, drop, filter, min, nat_le, nat_lt, if◌then◌else◌, Option, Some, None, IsSome, option_map, Result, Ok, Err}
use Rattle.rt_base.specs.declared.limits.TheConstants.{MOST_ROWS}
use Rattle.rt_base.specs.declared.numbers.Moment.{Moment}
use Rattle.rt_base.specs.declared.numbers.Offset.{Offset}
use Rattle.rt_base.specs.declared.numbers.Partition.{Partition}
use Rattle.rt_schema.specs.declared.schema.Schema.{Schema}
use Rattle.rt_schema.specs.Row.{row_of}
use Rattle.rt_mutable.specs.Consuming.{Consuming, after_message, is_before}
use Rattle.rt_stream.specs.Feed.{FeedMeaning, Grows, Sees}
use Rattle.rt_stream.specs.Log.{Log, messages_of}
use Rattle.rt_model.specs.declared.request.Reason.TheVariants.{RowLimit, TimeLimit}
use Rattle.rt_consumer.specs.declared.unsealed.Unsealed.{Unsealed}
use Rattle.rt_consumer.specs.declared.phase.Phase.{Phase}
use Rattle.rt_consumer.specs.declared.phase.Phase.TheVariants as phase
use Rattle.rt_consumer.specs.declared.refused.ReplicaRefused.{ReplicaRefused}
use Rattle.rt_consumer.specs.declared.refused.ReplicaRefused.TheVariants.{NotDue, Memory}
use Rattle.rt_consumer.specs.declared.settings.Settings.{Settings}
use Rattle.rt_consumer.specs.declared.stage.Stage.{Stage}
use Rattle.rt_consumer.specs.declared.stage.Stage.TheVariants.{InitialConsuming, CatchingUp, Holding, ConsumingToOnline, Retaining, Building, Starting, Uploading, Ending}
use Rattle.rt_consumer.specs.declared.consumer.Consumer.{Consumer}
use Rattle.rt_consumer.specs.Consumer.{cur}

-- how many of at most so many messages a batch may have: up to the target, or up to the committed end; none where the
-- stage takes no messages
abbrev pub asked_at : Stage → Offset → ℕ → Option ℕ
asked_at InitialConsuming x max = Some max
asked_at (CatchingUp target reason) x max = Some (min max (target.0 - x.0))
asked_at (ConsumingToOnline end done) x max = Some (min max (end.0 - x.0))
asked_at (Holding reason) x max = None
asked_at (Retaining done) x max = None
asked_at (Building reason) x max = None
asked_at (Starting reason built) x max = None
asked_at (Uploading reason built) x max = None
asked_at (Ending reason built path) x max = None

abbrev pub asked_in : Phase → ℕ → Option ℕ
asked_in (phase.Unsealed o) max = asked_at o.stage o.rows.end max
asked_in (phase.Retained kept) max = None
asked_in (phase.Committed kept) max = None
asked_in (phase.Discarded d) max = None

-- a batch ends at the row limit of its stage
abbrev pub row_limit : Settings → Stage → ℕ
row_limit settings InitialConsuming = settings.rows
row_limit settings (CatchingUp target reason) = MOST_ROWS
row_limit settings (ConsumingToOnline end done) = MOST_ROWS
row_limit settings (Holding reason) = MOST_ROWS
row_limit settings (Retaining done) = MOST_ROWS
row_limit settings (Building reason) = MOST_ROWS
row_limit settings (Starting reason built) = MOST_ROWS
row_limit settings (Uploading reason built) = MOST_ROWS
row_limit settings (Ending reason built path) = MOST_ROWS

-- the rows with those of messages, one after the other, until so many rows are held
abbrev pub filled : Schema → ℕ → Consuming → List (List ℕ) → Consuming
filled schema limit rows [] = rows
filled schema limit rows (m ∷ ms) =
    if nat_lt (length rows.rows) limit then filled schema limit (after_message rows (row_of schema m)) ms else rows

-- rows without those of the messages from an offset on
abbrev pub without : Offset → Consuming → Consuming
without end rows = record rows { rows = filter (is_before end) rows.rows; end = end }

-- whether the time limit has passed, past the start
abbrev pub is_timed_out : ℕ → Moment → Moment → Offset → Offset → Bool
is_timed_out millis began now start x = nat_le millis (now.0 - began.0) && nat_lt start.0 x.0

-- the stage after a batch
abbrev pub after_batch : Settings → Moment → Moment → Consuming → Stage → Stage
after_batch settings began now rows InitialConsuming =
    if nat_le settings.rows (length rows.rows) then Holding RowLimit
    else if is_timed_out settings.millis began now rows.start rows.end then Holding TimeLimit else InitialConsuming
after_batch settings began now rows (CatchingUp target reason) =
    if nat_le target.0 rows.end.0 then Holding reason else CatchingUp target reason
after_batch settings began now rows (ConsumingToOnline end done) =
    if nat_le end.0 rows.end.0 then Retaining done else ConsumingToOnline end done
after_batch settings began now rows (Holding reason) = Holding reason
after_batch settings began now rows (Retaining done) = Retaining done
after_batch settings began now rows (Building reason) = Building reason
after_batch settings began now rows (Starting reason built) = Starting reason built
after_batch settings began now rows (Uploading reason built) = Uploading reason built
after_batch settings began now rows (Ending reason built path) = Ending reason built path

abbrev pub batched : Settings → Moment → Moment → Stage → Consuming → Unsealed
batched settings began now stage rows = record { rows = rows; stage = after_batch settings began now rows stage }

abbrev pub taken_at : Settings → Moment → Moment → Unsealed → List (List ℕ) → Unsealed
taken_at settings began now o messages =
    batched settings began now o.stage (filled settings.schema (row_limit settings o.stage) o.rows messages)

-- the messages of a partition from an offset on, at most so many
abbrev pub messages_from : Log → Partition → Offset → ℕ → List (List ℕ)
messages_from log partition from count = take count (drop from.0 (messages_of log partition))

abbrev pub taken_in : Consumer → Phase → Moment → List (List ℕ) → Consumer
taken_in r (phase.Unsealed o) now messages =
    record r { phase = phase.Unsealed (taken_at r.settings r.started now o messages); waited = None }
taken_in r (phase.Retained kept) now messages = r
taken_in r (phase.Committed kept) now messages = r
taken_in r (phase.Discarded d) now messages = r

-- a replica that has taken messages
abbrev pub taken : Consumer → Moment → List (List ℕ) → Consumer
taken r now messages = taken_in r r.phase now messages

-- a replica that consumed from a log; none where consuming isn't due
abbrev pub consumed : Consumer → ℕ → Moment → Log → Option Consumer
consumed r max now log =
    option_map (λ count. taken r now (messages_from log r.partition (cur r) count)) (asked_in r.phase max)

-- what a look at a feed makes of it
pub record Looks (old new : FeedMeaning) : Type 0 where
  pub sees : Sees old.told new
  pub grows : Grows old.seen new.seen
  pub own : new.own ≡ old.own

-- consuming takes from the log as its caller has seen it after the call; a refused call changes nothing
abbrev pub Consumes : FeedMeaning → FeedMeaning → Consumer → Consumer → ℕ → Moment → Result (Unit {0}) ReplicaRefused → Type 0
Consumes before after old new max now (Ok u) = Looks before after × (consumed old max now after.seen ≡ Some new)
Consumes before after old new max now (Err NotDue) = (asked_in old.phase max ≡ None) × (new ≡ old) × (after ≡ before)
Consumes before after old new max now (Err Memory) = IsSome (asked_in old.phase max) × (new ≡ old) × Looks before after
