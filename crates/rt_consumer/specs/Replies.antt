-- What becomes of a replica by an answer.
use Rattle.std.specs.Prelude.{◌==◌, Bool, true, false, nat_lt, if◌then◌else◌, Option, Some, None}
use Rattle.rt_mutable.specs.Consuming.{Consuming}
use Rattle.rt_segment.specs.Segment.{SealedSegment}
use Rattle.rt_model.specs.Messages.{same_number}
use Rattle.rt_model.specs.declared.reply.Reply.{Reply}
use Rattle.rt_model.specs.declared.reply.ReplyStatus.{ReplyStatus}
use Rattle.rt_model.specs.declared.reply.ReplyStatus.TheVariants.{Hold, CatchUp, Keep, Discard, Commit, NotLeader, CommitContinue, UploadSuccess, CommitSuccess, Processed, Failed}
use Rattle.rt_model.specs.declared.request.Reason.{Reason}
use Rattle.rt_model.specs.declared.seg_meta.SeenMeta.{SeenMeta}
use Rattle.rt_consumer.specs.declared.phase.Discarded.{Discarded}
use Rattle.rt_consumer.specs.declared.phase.Phase.{Phase}
use Rattle.rt_consumer.specs.declared.phase.Phase.TheVariants as phase
use Rattle.rt_consumer.specs.declared.replies.Turn.{Turn}
use Rattle.rt_consumer.specs.declared.replies.Turn.TheVariants.{Stays, Goes}
use Rattle.rt_consumer.specs.declared.stage.Stage.{Stage}
use Rattle.rt_consumer.specs.declared.stage.Stage.TheVariants.{InitialConsuming, CatchingUp, Holding, ConsumingToOnline, Retaining, Building, Starting, Uploading, Ending}
use Rattle.rt_consumer.specs.declared.waited.Waited.{Waited}
use Rattle.rt_consumer.specs.declared.waited.Waited.TheVariants.{Step, Extend}
use Rattle.rt_consumer.specs.declared.consumer.Consumer.{Consumer}
use Rattle.rt_consumer.specs.Consumer.{at, dropped_at, ends_at, number_of}

abbrev pub stays : Consuming → Stage → Turn
stays rows stage = Stays (at rows stage)

abbrev pub goes : Consuming → Stage → Turn
goes rows stage = Goes (at rows stage)

-- DISCARD: the rows are dropped
abbrev pub drops : Consuming → Turn
drops rows = Goes (dropped_at rows.end)

-- the answer to Consumed: catch up to an offset ahead, commit at `cur`, keep what was committed up to `cur`, or discard
abbrev pub consumed : Consuming → Reason → ReplyStatus → Turn
consumed rows reason (CatchUp t) = if nat_lt rows.end.0 t.0 then goes rows (CatchingUp t reason) else stays rows (Holding reason)
consumed rows reason (Commit x) = if x.0 == rows.end.0 then goes rows (Building reason) else stays rows (Holding reason)
consumed rows reason (Keep seen) = if ends_at rows.end seen then goes rows (Retaining seen) else stays rows (Holding reason)
consumed rows reason Discard = drops rows
consumed rows reason Hold = stays rows (Holding reason)
consumed rows reason NotLeader = stays rows (Holding reason)
consumed rows reason CommitContinue = stays rows (Holding reason)
consumed rows reason (UploadSuccess path) = stays rows (Holding reason)
consumed rows reason (CommitSuccess seen) = stays rows (Holding reason)
consumed rows reason Processed = stays rows (Holding reason)
consumed rows reason (Failed cause) = stays rows (Holding reason)

-- KEEP to a committer, whose built file is dropped
abbrev pub keeps : Consuming → Reason → SeenMeta → Turn
keeps rows reason seen = if ends_at rows.end seen then goes rows (Retaining seen) else goes rows (Holding reason)

-- the answer to CommitStart
abbrev pub continued : Consuming → Reason → SealedSegment → ReplyStatus → Turn
continued rows reason built (Keep seen) = keeps rows reason seen
continued rows reason built Discard = drops rows
continued rows reason built CommitContinue = goes rows (Uploading reason built)
continued rows reason built (CatchUp t) = goes rows (Holding reason)
continued rows reason built (Commit x) = goes rows (Holding reason)
continued rows reason built Hold = goes rows (Holding reason)
continued rows reason built NotLeader = goes rows (Holding reason)
continued rows reason built (UploadSuccess path) = goes rows (Holding reason)
continued rows reason built (CommitSuccess seen) = goes rows (Holding reason)
continued rows reason built Processed = goes rows (Holding reason)
continued rows reason built (Failed cause) = goes rows (Holding reason)

-- the answer to Upload
abbrev pub uploaded : Consuming → Reason → SealedSegment → ReplyStatus → Turn
uploaded rows reason built (UploadSuccess path) = goes rows (Ending reason built path)
uploaded rows reason built (Keep seen) = goes rows (Holding reason)
uploaded rows reason built Discard = goes rows (Holding reason)
uploaded rows reason built CommitContinue = goes rows (Holding reason)
uploaded rows reason built (CatchUp t) = goes rows (Holding reason)
uploaded rows reason built (Commit x) = goes rows (Holding reason)
uploaded rows reason built Hold = goes rows (Holding reason)
uploaded rows reason built NotLeader = goes rows (Holding reason)
uploaded rows reason built (CommitSuccess seen) = goes rows (Holding reason)
uploaded rows reason built Processed = goes rows (Holding reason)
uploaded rows reason built (Failed cause) = goes rows (Holding reason)

-- COMMIT_SUCCESS: the built file is served
abbrev pub commits : Consuming → Reason → SealedSegment → SeenMeta → Turn
commits rows reason built seen =
    if ends_at rows.end seen then Goes (phase.Committed (record { file = built; done = seen })) else goes rows (Holding reason)

-- the answer to CommitEnd
abbrev pub ended : Consuming → Reason → SealedSegment → ReplyStatus → Turn
ended rows reason built (Keep seen) = keeps rows reason seen
ended rows reason built Discard = drops rows
ended rows reason built (CommitSuccess seen) = commits rows reason built seen
ended rows reason built CommitContinue = goes rows (Holding reason)
ended rows reason built (CatchUp t) = goes rows (Holding reason)
ended rows reason built (Commit x) = goes rows (Holding reason)
ended rows reason built Hold = goes rows (Holding reason)
ended rows reason built NotLeader = goes rows (Holding reason)
ended rows reason built (UploadSuccess path) = goes rows (Holding reason)
ended rows reason built Processed = goes rows (Holding reason)
ended rows reason built (Failed cause) = goes rows (Holding reason)

-- the answer to the request of a stage
abbrev pub answered_at : Consuming → Stage → ReplyStatus → Turn
answered_at rows (Holding reason) status = consumed rows reason status
answered_at rows (Starting reason built) status = continued rows reason built status
answered_at rows (Uploading reason built) status = uploaded rows reason built status
answered_at rows (Ending reason built path) status = ended rows reason built status
answered_at rows InitialConsuming status = stays rows InitialConsuming
answered_at rows (CatchingUp target reason) status = stays rows (CatchingUp target reason)
answered_at rows (ConsumingToOnline end done) status = stays rows (ConsumingToOnline end done)
answered_at rows (Retaining done) status = stays rows (Retaining done)
answered_at rows (Building reason) status = stays rows (Building reason)

abbrev pub is_processed : ReplyStatus → Bool
is_processed Processed = true
is_processed (CatchUp t) = false
is_processed (Commit x) = false
is_processed (Keep seen) = false
is_processed Discard = false
is_processed Hold = false
is_processed NotLeader = false
is_processed CommitContinue = false
is_processed (UploadSuccess path) = false
is_processed (CommitSuccess seen) = false
is_processed (Failed cause) = false

-- the answer to Stopped
abbrev pub stop_answered : Discarded → ReplyStatus → Turn
stop_answered d status =
    if is_processed status then Stays (phase.Discarded (record d { stopped = false })) else Stays (phase.Discarded d)

abbrev pub answered : Phase → ReplyStatus → Turn
answered (phase.Unsealed o) status = answered_at o.rows o.stage status
answered (phase.Discarded d) status = stop_answered d status
answered (phase.Retained kept) status = Stays (phase.Retained kept)
answered (phase.Committed kept) status = Stays (phase.Committed kept)

-- the answer to Extend: anything but PROCESSED ends the commit
abbrev pub extended_at : Consuming → Stage → Bool → Turn
extended_at rows (Building reason) processed = if processed then stays rows (Building reason) else goes rows (Holding reason)
extended_at rows (Starting reason built) processed = if processed then stays rows (Starting reason built) else goes rows (Holding reason)
extended_at rows InitialConsuming processed = stays rows InitialConsuming
extended_at rows (CatchingUp target reason) processed = stays rows (CatchingUp target reason)
extended_at rows (Holding reason) processed = stays rows (Holding reason)
extended_at rows (ConsumingToOnline end done) processed = stays rows (ConsumingToOnline end done)
extended_at rows (Retaining done) processed = stays rows (Retaining done)
extended_at rows (Uploading reason built) processed = stays rows (Uploading reason built)
extended_at rows (Ending reason built path) processed = stays rows (Ending reason built path)

abbrev pub extended : Phase → ReplyStatus → Turn
extended (phase.Unsealed o) status = extended_at o.rows o.stage (is_processed status)
extended (phase.Discarded d) status = Stays (phase.Discarded d)
extended (phase.Retained kept) status = Stays (phase.Retained kept)
extended (phase.Committed kept) status = Stays (phase.Committed kept)

-- a change of state or stage ends the waiting
abbrev pub turned : Consumer → Turn → Consumer
turned r (Stays p) = record r { phase = p }
turned r (Goes p) = record r { phase = p; waited = None }

abbrev pub turn_by : Phase → Waited → ReplyStatus → Turn
turn_by p (Step number) status = answered p status
turn_by p (Extend number) status = extended p status

-- whether an answer is the one that is waited for
abbrev pub is_answer : Option Waited → Reply → Bool
is_answer None reply = false
is_answer (Some waited) reply = same_number (number_of waited) reply.number

abbrev pub replied_to : Consumer → Option Waited → Reply → Consumer
replied_to r None reply = r
replied_to r (Some waited) reply =
    if same_number (number_of waited) reply.number then turned r (turn_by r.phase waited reply.status) else r

abbrev pub replied : Consumer → Reply → Consumer
replied r reply = replied_to r r.waited reply
