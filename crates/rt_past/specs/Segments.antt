-- What a history tells of a segment and of an instance. Each of these stays true as the history grows.
use Rattle.std.specs.Prelude.{◌≡◌, ◌<◌, ℕ, List}
use Rattle.rt_base.specs.declared.numbers.Instance.{Instance}
use Rattle.rt_base.specs.declared.numbers.Moment.{Moment}
use Rattle.rt_base.specs.declared.numbers.Offset.{Offset}
use Rattle.rt_base.specs.declared.numbers.Partition.{Partition}
use Rattle.rt_base.specs.declared.numbers.Sequence.{Sequence}
use Rattle.rt_lists.specs.Members.{Has}
use Rattle.rt_names.specs.Minute.{minute_text}
use Rattle.rt_names.specs.Name.{name_of, name_text}
use Rattle.rt_model.specs.declared.node.Key.TheVariants as key
use Rattle.rt_model.specs.declared.node.Node.{Node}
use Rattle.rt_model.specs.declared.node.Node.TheVariants as node
use Rattle.rt_model.specs.declared.node.Seen.{Seen}
use Rattle.rt_model.specs.declared.seg_meta.SeenMeta.{SeenMeta}
use Rattle.rt_model.specs.declared.setup.Setup.{Setup}
use Rattle.rt_model.specs.History.{next_version}
use Rattle.rt_model.specs.Metadata.{HasNode, IsDoneStatus, IsInProgress, IsOpen, listed_write}
use Rattle.rt_model.specs.Chain.{start_by}
use Rattle.rt_model.specs.Entries.{HasEntry, IsIdealWrite, entries_by}
use Rattle.rt_assign.specs.Placement.{replicas_of}

-- a node in progress from this offset
abbrev pub OpensAt : Offset → Node → Type 0
OpensAt start n = IsOpen n × (start_by n ≡ start.0)

-- the segment's node was created, from this offset
abbrev pub IsBegun : List Seen → Partition → Sequence → Offset → Type 0
IsBegun h p s start = HasNode h p s.0 (OpensAt start)

-- the name of a segment that is created at a moment: its table, its place, and the minute
abbrev pub name_at : Setup → Partition → Sequence → Moment → List ℕ
name_at setup p s moment = name_text (name_of setup.table.name p.0 s.0 (minute_text moment.0))

-- a node in progress of this name
abbrev pub OpensAs : List ℕ → Node → Type 0
OpensAs name (node.Meta m) = IsInProgress m.status × (m.name ≡ name)
OpensAs name (node.Ideal i) = ⊥
OpensAs name node.Boot = ⊥
OpensAs name node.Gone = ⊥

-- the segment's node was created under this name
abbrev pub IsBegunAs : List Seen → Partition → Sequence → List ℕ → Type 0
IsBegunAs h p s name = HasNode h p s.0 (OpensAs name)

-- the segment has an entry in some ideal state
abbrev pub HadEntry : List Seen → Partition → Sequence → Type 0
HadEntry h p s = (w : Seen) × IsIdealWrite h w × HasEntry (entries_by w.node) p s.0

-- the segment's metadata was this, at this version
abbrev pub WasMeta : List Seen → Partition → Sequence → SeenMeta → Type 0
WasMeta h p s seen = Has h (listed_write p (record { sequence = s; seen = seen }))

abbrev pub WasOpen : List Seen → Partition → Sequence → SeenMeta → Type 0
WasOpen h p s seen = WasMeta h p s seen × IsInProgress seen.meta.status

abbrev pub WasDone : List Seen → Partition → Sequence → SeenMeta → Type 0
WasDone h p s seen = WasMeta h p s seen × IsDoneStatus seen.meta.status

-- an incarnation of an instance: at most the version of its boot node
abbrev pub IsIncarnation : List Seen → Instance → ℕ → Type 0
IsIncarnation h i incarnation = incarnation < next_version h (key.Boot i)

-- the instance holds a replica of the partition
abbrev pub IsAssignedTo : Setup → Partition → Instance → Type 0
IsAssignedTo setup p i = Has (replicas_of p setup.table.replication setup.servers) i
