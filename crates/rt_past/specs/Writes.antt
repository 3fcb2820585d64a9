-- Which writes of the store are right, beside being lawful.
use Rattle.std.specs.Prelude.{◌≡◌, ◌<◌, List}
use Rattle.rt_base.specs.declared.numbers.Partition.{Partition}
use Rattle.rt_base.specs.declared.numbers.Sequence.{Sequence}
use Rattle.rt_lists.specs.Members.{Has}
use Rattle.rt_model.specs.declared.ideal_state.IdealEntry.{IdealEntry}
use Rattle.rt_model.specs.declared.node.Key.{Key}
use Rattle.rt_model.specs.declared.node.Key.TheVariants as key
use Rattle.rt_model.specs.declared.node.Node.{Node}
use Rattle.rt_model.specs.declared.node.Node.TheVariants as node
use Rattle.rt_model.specs.declared.node.Seen.{Seen}
use Rattle.rt_model.specs.declared.seg_meta.SegMeta.{SegMeta}
use Rattle.rt_model.specs.declared.setup.Setup.{Setup}
use Rattle.rt_model.specs.declared.status.Status.{Status}
use Rattle.rt_model.specs.declared.status.Status.TheVariants.{InProgress, Done, Abandoned}
use Rattle.rt_past.specs.Past.{Past}
use Rattle.rt_past.specs.Segments.{HadEntry, IsAssignedTo, name_at}
use Rattle.rt_past.specs.Files.{IsStored}

-- a segment is created under the name of its table, its place and the minute; one that ends had an entry, and the file of
-- one that is committed stands
abbrev pub IsRightStatus : Setup → Past → Partition → Sequence → SegMeta → Status → Type 0
IsRightStatus setup past p s m InProgress = m.name ≡ name_at setup p s m.written
IsRightStatus setup past p s m (Done commit) = HadEntry past.history p s × IsStored setup past p s m.start commit
IsRightStatus setup past p s m Abandoned = HadEntry past.history p s

abbrev pub IsRightMeta : Setup → Past → Key → SegMeta → Type 0
IsRightMeta setup past (key.Meta p s) m = IsRightStatus setup past p s m m.status
IsRightMeta setup past key.Ideal m = Unit {0}
IsRightMeta setup past (key.Boot i) m = Unit {0}

-- an entry is of a partition of the setup, and of an instance that is assigned to it
abbrev pub IsRightEntry : Setup → IdealEntry → Type 0
IsRightEntry setup e = (e.partition.0 < setup.partitions) × IsAssignedTo setup e.partition e.instance

abbrev pub AreRightEntries : Setup → List IdealEntry → Type 0
AreRightEntries setup es = (e : IdealEntry) → Has es e → IsRightEntry setup e

abbrev pub IsRightNode : Setup → Past → Key → Node → Type 0
IsRightNode setup past k (node.Meta m) = IsRightMeta setup past k m
IsRightNode setup past k (node.Ideal i) = AreRightEntries setup i.entries
IsRightNode setup past k node.Boot = Unit {0}
IsRightNode setup past k node.Gone = Unit {0}

abbrev pub IsRightWrite : Setup → Past → Seen → Type 0
IsRightWrite setup past w = IsRightNode setup past w.key w.node
