-- What a replica's server looks at.
use Rattle.std.specs.Prelude.{Option, Some, None}
use Rattle.rt_mutable.specs.Consuming.{Consuming}
use Rattle.rt_segment.specs.Segment.{SealedSegment}
use Rattle.rt_model.specs.declared.seg_meta.SeenMeta.{SeenMeta}
use Rattle.rt_consumer.specs.declared.phase.Phase.{Phase}
use Rattle.rt_consumer.specs.declared.phase.Phase.TheVariants as phase
use Rattle.rt_consumer.specs.declared.stage.Stage.{Stage}
use Rattle.rt_consumer.specs.declared.stage.Stage.TheVariants.{InitialConsuming, CatchingUp, Holding, ConsumingToOnline, Retaining, Building, Starting, Uploading, Ending}

-- the rows by column
abbrev pub held_in : Phase → Option Consuming
held_in (phase.Unsealed o) = Some o.rows
held_in (phase.Retained kept) = None
held_in (phase.Committed kept) = None
held_in (phase.Discarded d) = None

-- the sealed rows
abbrev pub file_in : Phase → Option SealedSegment
file_in (phase.Unsealed o) = None
file_in (phase.Retained kept) = Some kept.file
file_in (phase.Committed kept) = Some kept.file
file_in (phase.Discarded d) = None

abbrev pub told_at : Stage → Option SeenMeta
told_at (ConsumingToOnline end done) = Some done
told_at (Retaining done) = Some done
told_at InitialConsuming = None
told_at (CatchingUp target reason) = None
told_at (Holding reason) = None
told_at (Building reason) = None
told_at (Starting reason built) = None
told_at (Uploading reason built) = None
told_at (Ending reason built path) = None

-- the metadata of the commit that it was told of
abbrev pub told_in : Phase → Option SeenMeta
told_in (phase.Unsealed o) = told_at o.stage
told_in (phase.Retained kept) = Some kept.done
told_in (phase.Committed kept) = Some kept.done
told_in (phase.Discarded d) = None
