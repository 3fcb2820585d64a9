-- When there is nothing to mend of a partition, and how it goes on then.
use Rattle.std.specs.Prelude.{◌≡◌, List, Some}
use Rattle.rt_base.specs.declared.numbers.Moment.{Moment}
use Rattle.rt_base.specs.declared.numbers.Partition.{Partition}
use Rattle.rt_lists.specs.Members.{Has}
use Rattle.rt_model.specs.declared.decision.Decision.TheVariants.{Nothing}
use Rattle.rt_model.specs.declared.ideal_state.IdealEntry.{IdealEntry}
use Rattle.rt_model.specs.declared.ideal_state.Mode.TheVariants.{Consuming}
use Rattle.rt_model.specs.declared.node.Listed.{Listed}
use Rattle.rt_model.specs.declared.node.Seen.{Seen}
use Rattle.rt_model.specs.declared.setup.Setup.{Setup}
use Rattle.rt_model.specs.Entries.{entries_of}
use Rattle.rt_model.specs.Metadata.{metadata_of, IsInProgress}
use Rattle.rt_model.specs.Repair.{last_listed}
use Rattle.rt_model.specs.Tiled.{committed_of, mark_of, Tiles}
use Rattle.rt_repair.specs.Alone.{IsOverOf}
use Rattle.rt_repair.specs.Converging.{decided, standing_of}
use Rattle.rt_repair.specs.Repairing.{beginning}

-- a repair that begins finds nothing to do, and it isn't the grace of the last segment that holds it back
pub record NeedsNoRepair (setup : Setup) (h : List Seen) (now : Moment) (p : Partition) : Type 0 where
  pub over : IsOverOf (beginning p setup) now (standing_of h p)
  pub nothing : decided (beginning p setup) now (standing_of h p) ≡ Nothing

-- the last segment is in progress from the end of the committed ones on, which tile the offsets from the mark; and an
-- instance is to consume it
pub record GoesOn (h : List Seen) (p : Partition) : Type 0 where
  pub last : Listed
  pub is_last : last_listed (metadata_of h p) ≡ Some last
  pub consumes : IsInProgress last.seen.meta.status
  pub tiled : Tiles (mark_of h p) (committed_of h p) last.seen.meta.start.0
  pub entry : IdealEntry
  pub there : Has (entries_of h) entry
  pub is_of : (entry.partition ≡ p) × (entry.sequence ≡ last.sequence)
  pub to_consume : entry.mode ≡ Consuming
