-- What a retirement remembers, of what its store's caller has seen.
use Rattle.std.specs.Prelude.{◌≡◌, ◌<◌, List, Option}
use Rattle.rt_base.specs.declared.numbers.Partition.{Partition}
use Rattle.rt_model.specs.declared.node.Seen.{Seen}
use Rattle.rt_model.specs.Lawful.{IsLawfulHistory}
use Rattle.rt_model.specs.Metadata.{metadata_of}
use Rattle.rt_model.specs.Starting.{Starting, IsAssigned}
use Rattle.rt_repair.specs.declared.read_node.ReadNode.{ReadNode}
use Rattle.rt_repair.specs.declared.retirement.RetireStage.{RetireStage}
use Rattle.rt_repair.specs.declared.retirement.RetireStage.TheVariants.{Listing, Reading, Writing, Ended}
use Rattle.rt_repair.specs.IsRepair.{IsPast, HasIdeal}
use Rattle.rt_repair.specs.ReadNode.{lowest_node}
use Rattle.rt_repair.specs.Retirement.{Retirement}

-- what was listed is the metadata list of some front of what was seen
pub record HasListed (s : Starting) (seen : List Seen) (p : Partition) (node : Option ReadNode) (h : List Seen) : Type 0 where
  pub past : IsPast s h seen
  pub lowest : node ≡ lowest_node p (metadata_of h p)

abbrev pub Remembers : Starting → List Seen → Partition → RetireStage → Type 0
Remembers s seen p Listing = Unit {0}
Remembers s seen p (Reading lowest) = (h : List Seen) × HasListed s seen p lowest h
Remembers s seen p (Writing lowest ideal) =
    (h : List Seen) × (g : List Seen) × HasListed s seen p lowest h × HasIdeal s seen h ideal g
Remembers s seen p Ended = Unit {0}

-- a retirement of a partition of the setup, over a lawful history of which its store's caller has seen at least this
pub record IsRetire (s : Starting) (seen : List Seen) (r : Retirement) : Type 0 where
  pub assigned : IsAssigned s
  pub lawful : IsLawfulHistory s seen
  pub within : r.partition.0 < s.partitions
  pub remembers : Remembers s seen r.partition r.stage
