-- The calls of a replica beside consuming and taking answers.
use Rattle.std.specs.Prelude.{◌≡◌, ◌+◌, ◌&&◌, ◌||◌, ℕ, List, Bool, true, false, length, nat_lt, if◌then◌else◌, Option, Some, None, IsSome, Result, Ok, Err}
use Rattle.rt_base.specs.declared.numbers.Moment.{Moment}
use Rattle.rt_base.specs.declared.numbers.Offset.{Offset}
use Rattle.rt_mutable.specs.Consuming.{Consuming}
use Rattle.rt_segment.specs.Segment.{SealedSegment}
use Rattle.rt_segment.specs.Spelling.{file_of}
use Rattle.rt_model.specs.declared.request.Reason.TheVariants.{Force}
use Rattle.rt_model.specs.declared.request.Request.{Request}
use Rattle.rt_model.specs.declared.request.RequestKind.{RequestKind}
use Rattle.rt_model.specs.declared.request.RequestKind.TheVariants as kind
use Rattle.rt_model.specs.declared.request.RequestNumber.{RequestNumber}
use Rattle.rt_model.specs.declared.seg_meta.SeenMeta.{SeenMeta}
use Rattle.rt_msgs.specs.Numbered.{Numbered, number_at, upload_path}
use Rattle.rt_consumer.specs.declared.phase.Phase.{Phase}
use Rattle.rt_consumer.specs.declared.phase.Phase.TheVariants as phase
use Rattle.rt_consumer.specs.declared.refused.ReplicaRefused.{ReplicaRefused}
use Rattle.rt_consumer.specs.declared.refused.ReplicaRefused.TheVariants.{NotDue, Memory}
use Rattle.rt_consumer.specs.declared.stage.Stage.{Stage}
use Rattle.rt_consumer.specs.declared.stage.Stage.TheVariants.{InitialConsuming, CatchingUp, Holding, ConsumingToOnline, Retaining, Building, Starting, Uploading, Ending}
use Rattle.rt_consumer.specs.declared.waited.Waited.{Waited}
use Rattle.rt_consumer.specs.declared.waited.Waited.TheVariants.{Step, Extend}
use Rattle.rt_consumer.specs.declared.consumer.Consumer.{Consumer}
use Rattle.rt_consumer.specs.Consumer.{at, asks_at, cur, extends_in, IsBuilt}
use Rattle.rt_consumer.specs.Batch.{is_timed_out}

-- a call without an answer of its own that takes no memory: done where it is due; a refused call changes nothing
abbrev pub Does : Option Phase → Consumer → Consumer → Result (Unit {0}) ReplicaRefused → Type 0
Does to old new (Ok u) = (to ≡ Some new.phase) × (new ≡ record old { phase = new.phase; waited = None })
Does to old new (Err NotDue) = (to ≡ None) × (new ≡ old)
Does to old new (Err Memory) = ⊥

-- ---- force: HOLDING with Force, from INITIAL_CONSUMING past the start

abbrev pub forced_at : Consuming → Stage → Option Phase
forced_at rows InitialConsuming = if nat_lt rows.start.0 rows.end.0 then Some (at rows (Holding Force)) else None
forced_at rows (CatchingUp target reason) = None
forced_at rows (Holding reason) = None
forced_at rows (ConsumingToOnline end done) = None
forced_at rows (Retaining done) = None
forced_at rows (Building reason) = None
forced_at rows (Starting reason built) = None
forced_at rows (Uploading reason built) = None
forced_at rows (Ending reason built path) = None

abbrev pub forced : Phase → Option Phase
forced (phase.Unsealed o) = forced_at o.rows o.stage
forced (phase.Retained kept) = None
forced (phase.Committed kept) = None
forced (phase.Discarded d) = None

-- ---- stop: the rows are dropped, and the stop isn't processed yet

abbrev pub stopped_at : Offset → Phase
stopped_at x = phase.Discarded (record { cur = x; stopped = true })

abbrev pub stops_at : Stage → Bool
stops_at InitialConsuming = true
stops_at (CatchingUp target reason) = true
stops_at (Holding reason) = true
stops_at (ConsumingToOnline end done) = true
stops_at (Retaining done) = false
stops_at (Building reason) = true
stops_at (Starting reason built) = true
stops_at (Uploading reason built) = true
stops_at (Ending reason built path) = true

abbrev pub stopped : Phase → Option Phase
stopped (phase.Unsealed o) = if stops_at o.stage then Some (stopped_at o.rows.end) else None
stopped (phase.Retained kept) = None
stopped (phase.Committed kept) = None
stopped (phase.Discarded d) = None

-- ---- build: a retaining replica seals its rows, a committer builds the file

abbrev pub filed_at : Consuming → Stage → SealedSegment → Phase
filed_at rows (Retaining done) file = phase.Retained (record { file = file; done = done })
filed_at rows (Building reason) file = at rows (Starting reason file)
filed_at rows InitialConsuming file = at rows InitialConsuming
filed_at rows (CatchingUp target reason) file = at rows (CatchingUp target reason)
filed_at rows (Holding reason) file = at rows (Holding reason)
filed_at rows (ConsumingToOnline end done) file = at rows (ConsumingToOnline end done)
filed_at rows (Starting reason built) file = at rows (Starting reason built)
filed_at rows (Uploading reason built) file = at rows (Uploading reason built)
filed_at rows (Ending reason built path) file = at rows (Ending reason built path)

abbrev pub filed : Phase → SealedSegment → Phase
filed (phase.Unsealed o) file = filed_at o.rows o.stage file
filed (phase.Retained kept) file = phase.Retained kept
filed (phase.Committed kept) file = phase.Committed kept
filed (phase.Discarded d) file = phase.Discarded d

abbrev pub builds_at : Stage → Bool
builds_at (Retaining done) = true
builds_at (Building reason) = true
builds_at InitialConsuming = false
builds_at (CatchingUp target reason) = false
builds_at (Holding reason) = false
builds_at (ConsumingToOnline end done) = false
builds_at (Starting reason built) = false
builds_at (Uploading reason built) = false
builds_at (Ending reason built path) = false

abbrev pub builds_in : Phase → Bool
builds_in (phase.Unsealed o) = builds_at o.stage
builds_in (phase.Retained kept) = false
builds_in (phase.Committed kept) = false
builds_in (phase.Discarded d) = false

-- the file of the rows that are held
abbrev pub IsSealedOf : Consumer → Phase → SealedSegment → Type 0
IsSealedOf r (phase.Unsealed o) file = IsBuilt r.settings r.partition r.sequence o.rows file
IsSealedOf r (phase.Retained kept) file = ⊥
IsSealedOf r (phase.Committed kept) file = ⊥
IsSealedOf r (phase.Discarded d) file = ⊥

abbrev pub Builds : Consumer → Consumer → Result (Unit {0}) ReplicaRefused → Type 0
Builds old new (Ok u) = (builds_in old.phase ≡ true)
    × ((file : SealedSegment) × IsSealedOf old old.phase file × (new ≡ record old { phase = filed old.phase file; waited = None }))
Builds old new (Err NotDue) = (builds_in old.phase ≡ false) × (new ≡ old)
Builds old new (Err Memory) = (builds_in old.phase ≡ true) × (new ≡ old)

-- ---- requests

abbrev pub kind_at : List ℕ → RequestNumber → Stage → Option RequestKind
kind_at name number (Holding reason) = Some (kind.Consumed reason)
kind_at name number (Starting reason built) = Some kind.CommitStart
kind_at name number (Uploading reason built) = Some (kind.Upload (upload_path name number) (file_of built))
kind_at name number (Ending reason built path) = Some (kind.CommitEnd path)
kind_at name number InitialConsuming = None
kind_at name number (CatchingUp target reason) = None
kind_at name number (ConsumingToOnline end done) = None
kind_at name number (Retaining done) = None
kind_at name number (Building reason) = None

-- what a replica is to ask
abbrev pub kind_in : List ℕ → RequestNumber → Phase → Option RequestKind
kind_in name number (phase.Unsealed o) = kind_at name number o.stage
kind_in name number (phase.Discarded d) = if d.stopped then Some kind.Stopped else None
kind_in name number (phase.Retained kept) = None
kind_in name number (phase.Committed kept) = None

abbrev pub request_with : Consumer → RequestNumber → RequestKind → Request
request_with r number k =
    record { number = number; partition = r.partition; sequence = r.sequence; offset = cur r; kind = k }

-- a request has the next number, which is then drawn and waited for; a refused call changes nothing and draws none
abbrev pub Asks : Option RequestKind → Waited → RequestNumber → Consumer → Consumer → Numbered → Numbered → Result Request ReplicaRefused → Type 0
Asks due waited number old new before after (Ok request) =
    (due ≡ Some request.kind) × (request ≡ request_with old number request.kind)
    × (new ≡ record old { waited = Some waited }) × (after ≡ record before { made = before.made + 1 })
Asks due waited number old new before after (Err NotDue) = (due ≡ None) × (new ≡ old) × (after ≡ before)
Asks due waited number old new before after (Err Memory) = IsSome due × (new ≡ old) × (after ≡ before)

abbrev pub Requests : Consumer → Consumer → Numbered → Numbered → Result Request ReplicaRefused → Type 0
Requests old new before after result =
    let number = number_at before before.made in
    Asks (kind_in old.name number old.phase) (Step number) number old new before after result

abbrev pub more_time : Phase → ℕ → Option RequestKind
more_time p millis = if extends_in p then Some (kind.Extend millis) else None

-- asking for more time takes no memory
abbrev pub Extends : Consumer → Consumer → Numbered → Numbered → ℕ → Result Request ReplicaRefused → Type 0
Extends old new before after millis (Ok request) =
    let number = number_at before before.made in
    Asks (more_time old.phase millis) (Extend number) number old new before after (Ok request)
Extends old new before after millis (Err NotDue) = (extends_in old.phase ≡ false) × (new ≡ old) × (after ≡ before)
Extends old new before after millis (Err Memory) = ⊥

-- ---- what is due

abbrev pub is_due : {X : Type 0} → Option X → Bool
is_due None = false
is_due (Some x) = true

-- whether a request is due
abbrev pub asks_now : Phase → Bool
asks_now (phase.Unsealed o) = asks_at o.stage
asks_now (phase.Discarded d) = d.stopped
asks_now (phase.Retained kept) = false
asks_now (phase.Committed kept) = false

-- the number of bytes of the upload that is due
abbrev pub size_at : Stage → ℕ
size_at (Uploading reason built) = length (file_of built)
size_at InitialConsuming = 0
size_at (CatchingUp target reason) = 0
size_at (Holding reason) = 0
size_at (ConsumingToOnline end done) = 0
size_at (Retaining done) = 0
size_at (Building reason) = 0
size_at (Starting reason built) = 0
size_at (Ending reason built path) = 0

abbrev pub size_in : Phase → ℕ
size_in (phase.Unsealed o) = size_at o.stage
size_in (phase.Retained kept) = 0
size_in (phase.Committed kept) = 0
size_in (phase.Discarded d) = 0

-- whether `cur` lies below a target, where there is one
abbrev pub is_below_target_at : Offset → Stage → Bool
is_below_target_at x (CatchingUp target reason) = nat_lt x.0 target.0
is_below_target_at x (ConsumingToOnline end done) = nat_lt x.0 end.0
is_below_target_at x InitialConsuming = true
is_below_target_at x (Holding reason) = true
is_below_target_at x (Retaining done) = true
is_below_target_at x (Building reason) = true
is_below_target_at x (Starting reason built) = true
is_below_target_at x (Uploading reason built) = true
is_below_target_at x (Ending reason built path) = true

abbrev pub is_below_target : Phase → Bool
is_below_target (phase.Unsealed o) = is_below_target_at o.rows.end o.stage
is_below_target (phase.Retained kept) = true
is_below_target (phase.Committed kept) = true
is_below_target (phase.Discarded d) = true

abbrev pub is_ready : Consumer → Offset → Moment → Bool
is_ready r size now =
    (nat_lt (cur r).0 size.0 && is_below_target r.phase) || is_timed_out r.settings.millis r.started now r.start (cur r)

-- the number of rows held
abbrev pub rows_in : Phase → ℕ
rows_in (phase.Unsealed o) = length o.rows.rows
rows_in (phase.Retained kept) = kept.file.rows
rows_in (phase.Committed kept) = kept.file.rows
rows_in (phase.Discarded d) = 0

-- ---- the metadata of a commit is told

abbrev pub learns_at : Stage → Bool
learns_at InitialConsuming = true
learns_at (CatchingUp target reason) = true
learns_at (Holding reason) = true
learns_at (Building reason) = true
learns_at (Starting reason built) = true
learns_at (Uploading reason built) = true
learns_at (Ending reason built path) = true
learns_at (ConsumingToOnline end done) = false
learns_at (Retaining done) = false

-- a replica of an uncommitted segment may be told of its commit, as long as it holds rows
abbrev pub learns_in : Phase → Bool
learns_in (phase.Unsealed o) = learns_at o.stage
learns_in (phase.Discarded d) = false
learns_in (phase.Retained kept) = false
learns_in (phase.Committed kept) = false

-- it goes on up to the committed end, or has all rows of the committed segment
abbrev pub learned_at : Consuming → SeenMeta → Offset → Phase
learned_at rows done end =
    if nat_lt rows.end.0 end.0 then at rows (ConsumingToOnline end done) else at rows (Retaining done)

abbrev pub learned : Consumer → Phase → SeenMeta → Offset → Consumer
learned r (phase.Unsealed o) done end = record r { phase = learned_at o.rows done end; waited = None }
learned r (phase.Discarded d) done end = r
learned r (phase.Retained kept) done end = r
learned r (phase.Committed kept) done end = r
