-- What a repair remembers, of what its store's caller has seen.
use Rattle.std.specs.Prelude.{◌≡◌, ◌<◌, Bool, List, Option, Some}
use Rattle.rt_lists.specs.Members.{IsFront}
use Rattle.rt_base.specs.declared.numbers.Partition.{Partition}
use Rattle.rt_model.specs.declared.node.Key.TheVariants as key
use Rattle.rt_model.specs.declared.node.Seen.{Seen}
use Rattle.rt_model.specs.History.{value_of}
use Rattle.rt_model.specs.Lawful.{IsLawfulHistory}
use Rattle.rt_model.specs.Metadata.{metadata_of}
use Rattle.rt_model.specs.Order.{AreDistinct}
use Rattle.rt_model.specs.Starting.{Starting}
use Rattle.rt_names.specs.Table.{IsTableName}
use Rattle.rt_repair.specs.declared.read_node.ReadNode.{ReadNode}
use Rattle.rt_repair.specs.declared.repair.RepairStage.{RepairStage}
use Rattle.rt_repair.specs.declared.repair.RepairStage.TheVariants.{Listing, Reading, Writing, Ended}
use Rattle.rt_repair.specs.ReadNode.{last_node, last_follows}
use Rattle.rt_repair.specs.Repairing.{Repairing}

-- a lawful front of what was seen
pub record IsPast (s : Starting) (h seen : List Seen) : Type 0 where
  pub front : IsFront h seen
  pub lawful : IsLawfulHistory s h

-- what was listed is the metadata list of some front of what was seen
pub record HasListed (s : Starting) (seen : List Seen) (p : Partition) (node : Option ReadNode) (after_done : Bool) (h : List Seen) : Type 0 where
  pub past : IsPast s h seen
  pub last : node ≡ last_node p (metadata_of h p)
  pub follows : after_done ≡ last_follows (metadata_of h p)

-- the ideal state that was read is that of a front which is no shorter
pub record HasIdeal (s : Starting) (seen h : List Seen) (ideal : Seen) (g : List Seen) : Type 0 where
  pub past : IsPast s g seen
  pub longer : IsFront h g
  pub value : value_of g key.Ideal ≡ Some ideal

abbrev pub Remembers : Starting → List Seen → Partition → RepairStage → Type 0
Remembers s seen p Listing = Unit {0}
Remembers s seen p (Reading last follows) = (h : List Seen) × HasListed s seen p last follows h
Remembers s seen p (Writing last follows ideal) =
    (h : List Seen) × (g : List Seen) × HasListed s seen p last follows h × HasIdeal s seen h ideal g
Remembers s seen p Ended = Unit {0}

-- a repair of a partition of the setup, over a lawful history of which its store's caller has seen at least this
pub record IsRepair (s : Starting) (seen : List Seen) (r : Repairing) : Type 0 where
  pub lawful : IsLawfulHistory s seen
  pub within : r.partition.0 < s.partitions
  pub named : IsTableName r.table
  pub distinct : AreDistinct r.instances
  pub remembers : Remembers s seen r.partition r.stage
