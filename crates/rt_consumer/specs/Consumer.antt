-- What a replica is.
use Rattle.std.specs.Prelude.{◌≡◌, ◌+◌, ◌<◌, ◌≤◌, ◌⊎◌, ◌==◌, Bool, true, false, length, All, IsTrue, map, Option, Some, None}
use Rattle.rt_base.specs.declared.numbers.Moment.{Moment}
use Rattle.rt_base.specs.declared.numbers.Offset.{Offset}
use Rattle.rt_base.specs.declared.numbers.Partition.{Partition}
use Rattle.rt_base.specs.declared.numbers.Sequence.{Sequence}
use Rattle.rt_base.specs.declared.limits.TheConstants.{MOST_ROWS}
use Rattle.rt_schema.specs.declared.schema.Schema.{Schema}
use Rattle.rt_schema.specs.Schema.{IsSchema, is_among, names_of}
use Rattle.rt_mutable.specs.Consuming.{Consuming, empty_segment, shape_of}
use Rattle.rt_segment.specs.Segment.{SealedSegment, IsSealed, are_columns}
use Rattle.rt_build.specs.Sealing.{IsSealOf}
use Rattle.rt_model.specs.declared.replica_state.ReplicaState.{ReplicaState}
use Rattle.rt_model.specs.declared.replica_state.ReplicaState.TheVariants as state
use Rattle.rt_model.specs.declared.request.RequestNumber.{RequestNumber}
use Rattle.rt_model.specs.declared.seg_meta.SeenMeta.{SeenMeta}
use Rattle.rt_model.specs.declared.seg_meta.SegMeta.{SegMeta}
use Rattle.rt_model.specs.declared.setup.Setup.{Setup}
use Rattle.rt_model.specs.declared.status.Status.{Status}
use Rattle.rt_model.specs.declared.status.Status.TheVariants.{InProgress, Done, Abandoned}
use Rattle.rt_consumer.specs.declared.consumer.Consumer.{Consumer}
use Rattle.rt_consumer.specs.declared.phase.CommittedFile.{CommittedFile}
use Rattle.rt_consumer.specs.declared.phase.Phase.{Phase}
use Rattle.rt_consumer.specs.declared.phase.Phase.TheVariants as phase
use Rattle.rt_consumer.specs.declared.settings.Settings.{Settings}
use Rattle.rt_consumer.specs.declared.stage.Stage.{Stage}
use Rattle.rt_consumer.specs.declared.stage.Stage.TheVariants.{InitialConsuming, CatchingUp, Holding, ConsumingToOnline, Retaining, Building, Starting, Uploading, Ending}
use Rattle.rt_consumer.specs.declared.waited.Waited.{Waited}
use Rattle.rt_consumer.specs.declared.waited.Waited.TheVariants.{Step, Extend}

abbrev pub settings_of : Setup → Settings
settings_of setup =
    record {
      schema = setup.schema;
      indexed = setup.table.indexed;
      rows = setup.table.rows;
      millis = setup.table.millis;
      format = setup.format;
    }

abbrev pub at : Consuming → Stage → Phase
at rows stage = phase.Unsealed (record { rows = rows; stage = stage })

-- a replica that has taken no message yet
abbrev pub started_of : Setup → Partition → Sequence → SegMeta → Moment → Consumer
started_of setup partition sequence meta now =
    record {
      settings = settings_of setup;
      partition = partition;
      sequence = sequence;
      name = meta.name;
      start = meta.start;
      started = now;
      phase = at (empty_segment setup.schema.columns meta.start setup.table.indexed) InitialConsuming;
      waited = None;
    }

-- ---- what it holds

abbrev pub state_at : Stage → ReplicaState
state_at InitialConsuming = state.InitialConsuming
state_at (CatchingUp target reason) = state.CatchingUp
state_at (Holding reason) = state.Holding
state_at (ConsumingToOnline end done) = state.ConsumingToOnline
state_at (Retaining done) = state.Retaining
state_at (Building reason) = state.Committing
state_at (Starting reason built) = state.Committing
state_at (Uploading reason built) = state.Committing
state_at (Ending reason built path) = state.Committing

abbrev pub state_of : Phase → ReplicaState
state_of (phase.Unsealed o) = state_at o.stage
state_of (phase.Retained kept) = state.Retained
state_of (phase.Committed kept) = state.Committed
state_of (phase.Discarded d) = state.Discarded

-- the offset of the next message
abbrev pub cur_in : Phase → Offset
cur_in (phase.Unsealed o) = o.rows.end
cur_in (phase.Retained kept) = kept.file.range.end
cur_in (phase.Committed kept) = kept.file.range.end
cur_in (phase.Discarded d) = d.cur

abbrev pub cur : Consumer → Offset
cur r = cur_in r.phase

-- a replica that dropped its rows, not by a stop
abbrev pub dropped_at : Offset → Phase
dropped_at x = phase.Discarded (record { cur = x; stopped = false })

abbrev pub number_of : Waited → RequestNumber
number_of (Step number) = number
number_of (Extend number) = number

-- the end of a commit that metadata tells of
abbrev pub end_in : Status → Option Offset
end_in InProgress = None
end_in (Done commit) = Some commit.end
end_in Abandoned = None

abbrev pub end_of : SeenMeta → Option Offset
end_of seen = end_in seen.meta.status

abbrev pub is_at : Offset → Option Offset → Bool
is_at x None = false
is_at x (Some end) = end.0 == x.0

-- whether metadata tells of a commit that ends at an offset
abbrev pub ends_at : Offset → SeenMeta → Bool
ends_at x seen = is_at x (end_of seen)

-- ---- what is true of every replica

pub record AreSettings (s : Settings) : Type 0 where
  pub schema : IsSchema s.schema
  pub indexed : All (λ name. IsTrue (is_among name (names_of s.schema.columns))) s.indexed
  pub rows : (1 ≤ s.rows) × (s.rows ≤ MOST_ROWS)
  pub format : (s.format ≡ 1) ⊎ (s.format ≡ 2)

-- rows have the schema's columns
abbrev pub HaveColumns : Settings → Consuming → Type 0
HaveColumns settings rows = rows.columns ≡ map (shape_of settings.indexed) settings.schema.columns

-- rows of the schema, from the segment's start on, no more than messages were taken
pub record AreRows (settings : Settings) (start : Offset) (rows : Consuming) : Type 0 where
  pub columns : HaveColumns settings rows
  pub first : rows.start ≡ start
  pub few : rows.start.0 + length rows.rows ≤ rows.end.0

-- the file of all rows that are held, with the schema's columns
pub record IsBuilt (settings : Settings) (partition : Partition) (sequence : Sequence) (rows : Consuming) (file : SealedSegment) : Type 0 where
  pub whole : IsSealed file
  pub seals : IsSealOf settings.format partition sequence rows.end settings.indexed rows file
  pub columns : are_columns file.columns settings.schema.columns ≡ true

-- past the start in all but the first state and on the way to the committed end; a target lies ahead, and a built file
-- is that of the rows
abbrev pub IsStage : Settings → Partition → Sequence → Consuming → Stage → Type 0
IsStage settings p q rows InitialConsuming = Unit {0}
IsStage settings p q rows (CatchingUp target reason) = (rows.start.0 < rows.end.0) × (rows.end.0 < target.0)
IsStage settings p q rows (Holding reason) = rows.start.0 < rows.end.0
IsStage settings p q rows (ConsumingToOnline end done) = (rows.end.0 < end.0) × (end_of done ≡ Some end)
IsStage settings p q rows (Retaining done) = (rows.start.0 < rows.end.0) × (end_of done ≡ Some rows.end)
IsStage settings p q rows (Building reason) = rows.start.0 < rows.end.0
IsStage settings p q rows (Starting reason built) = (rows.start.0 < rows.end.0) × IsBuilt settings p q rows built
IsStage settings p q rows (Uploading reason built) = (rows.start.0 < rows.end.0) × IsBuilt settings p q rows built
IsStage settings p q rows (Ending reason built path) = (rows.start.0 < rows.end.0) × IsBuilt settings p q rows built

-- a whole file of the segment, with the schema's columns, up to the committed end
pub record IsKept (schema : Schema) (partition : Partition) (sequence : Sequence) (start : Offset) (kept : CommittedFile) : Type 0 where
  pub whole : IsSealed kept.file
  pub columns : are_columns kept.file.columns schema.columns ≡ true
  pub segment : (kept.file.partition ≡ partition) × (kept.file.sequence ≡ sequence)
  pub first : kept.file.range.start ≡ start
  pub told : end_of kept.done ≡ Some kept.file.range.end

abbrev pub IsPhase : Settings → Partition → Sequence → Offset → Phase → Type 0
IsPhase settings p q start (phase.Unsealed o) = AreRows settings start o.rows × IsStage settings p q o.rows o.stage
IsPhase settings p q start (phase.Retained kept) = IsKept settings.schema p q start kept
IsPhase settings p q start (phase.Committed kept) = IsKept settings.schema p q start kept
IsPhase settings p q start (phase.Discarded d) = Unit {0}

-- a stage asks for something of its own in HOLDING, and from the built file on; a stop asks to be processed
abbrev pub asks_at : Stage → Bool
asks_at InitialConsuming = false
asks_at (CatchingUp target reason) = false
asks_at (Holding reason) = true
asks_at (ConsumingToOnline end done) = false
asks_at (Retaining done) = false
asks_at (Building reason) = false
asks_at (Starting reason built) = true
asks_at (Uploading reason built) = true
asks_at (Ending reason built path) = true

abbrev pub asks_in : Phase → Bool
asks_in (phase.Unsealed o) = asks_at o.stage
asks_in (phase.Retained kept) = false
asks_in (phase.Committed kept) = false
asks_in (phase.Discarded d) = true

abbrev pub extends_at : Stage → Bool
extends_at InitialConsuming = false
extends_at (CatchingUp target reason) = false
extends_at (Holding reason) = false
extends_at (ConsumingToOnline end done) = false
extends_at (Retaining done) = false
extends_at (Building reason) = true
extends_at (Starting reason built) = true
extends_at (Uploading reason built) = false
extends_at (Ending reason built path) = false

abbrev pub extends_in : Phase → Bool
extends_in (phase.Unsealed o) = extends_at o.stage
extends_in (phase.Retained kept) = false
extends_in (phase.Committed kept) = false
extends_in (phase.Discarded d) = false

-- what is waited for is what the stage asks for
abbrev pub IsWaited : Phase → Option Waited → Type 0
IsWaited p None = Unit {0}
IsWaited p (Some (Step number)) = asks_in p ≡ true
IsWaited p (Some (Extend number)) = extends_in p ≡ true

pub record IsConsumer (r : Consumer) : Type 0 where
  pub settings : AreSettings r.settings
  pub phase : IsPhase r.settings r.partition r.sequence r.start r.phase
  pub waited : IsWaited r.phase r.waited
