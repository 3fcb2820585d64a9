-- What becomes of one entry by its segment's target and metadata.
use Rattle.std.specs.Prelude.{ℕ, ◌&&◌, nat_le, Bool, true, false, if◌then◌else◌, Option, Some, None, Result, Ok, Err}
use Rattle.rt_base.specs.declared.numbers.Offset.{Offset}
use Rattle.rt_model.specs.declared.ideal_state.Mode.{Mode}
use Rattle.rt_model.specs.declared.ideal_state.Mode.TheVariants.{Consuming, Online, Offline}
use Rattle.rt_model.specs.declared.node.Node.{Node}
use Rattle.rt_model.specs.declared.node.Node.TheVariants as node
use Rattle.rt_model.specs.declared.node.Seen.{Seen}
use Rattle.rt_model.specs.declared.replica_state.ReplicaState.{ReplicaState}
use Rattle.rt_model.specs.declared.replica_state.ReplicaState.TheVariants as state
use Rattle.rt_model.specs.declared.seg_meta.SeenMeta.{SeenMeta}
use Rattle.rt_store.specs.declared.refused.StoreRefused.{StoreRefused}
use Rattle.rt_store.specs.declared.refused.StoreRefused.TheVariants.{NoNode, Exists, VersionChanged, Failed, Memory}
use Rattle.rt_consumer.specs.Consumer.{cur, state_of}
use Rattle.rt_consumer.specs.Requests.{learned, learns_in}
use Rattle.rt_entry.specs.declared.entry.Entry.{Entry}
use Rattle.rt_entry.specs.declared.entry.Entry.TheVariants.{Replica, Committed}
use Rattle.rt_entry.specs.declared.refused.ServerRefused.{ServerRefused}
use Rattle.rt_entry.specs.declared.refused.ServerRefused.TheVariants as refused
use Rattle.rt_entry.specs.Entry.{wanting}

-- ---- when it is due

-- the states that a replica of a segment that is to be served leaves
abbrev pub is_open : ReplicaState → Bool
is_open state.InitialConsuming = true
is_open state.CatchingUp = true
is_open state.Holding = true
is_open state.Committing = true
is_open state.Discarded = true
is_open state.ConsumingToOnline = false
is_open state.Retaining = false
is_open state.Retained = false
is_open state.Committed = false

abbrev pub is_open_entry : Entry → Bool
is_open_entry (Replica r) = is_open (state_of r.phase)
is_open_entry (Committed c) = false

-- by the target that was seen, and by what there is
abbrev pub is_due : Option Mode → Option Entry → Bool
is_due None None = false
is_due None (Some e) = true
is_due (Some Consuming) None = true
is_due (Some Consuming) (Some e) = false
is_due (Some Online) None = true
is_due (Some Online) (Some e) = is_open_entry e
is_due (Some Offline) None = false
is_due (Some Offline) (Some e) = true

-- ---- what a commit that ends at an offset makes of it

-- a replica with rows, none of them past the committed end
abbrev pub goes_on : Entry → Offset → Bool
goes_on (Replica r) end = learns_in r.phase && nat_le (cur r).0 end.0
goes_on (Committed c) end = false

abbrev pub gone_on : Entry → SeenMeta → Offset → Entry
gone_on (Replica r) done end = Replica (learned r r.phase done end)
gone_on (Committed c) done end = Committed c

-- it goes on with its rows; in any other case the file is wanted
abbrev pub told : Entry → SeenMeta → Offset → Entry
told e done end = if goes_on e end then gone_on e done end else wanting done

-- ---- what the store told

abbrev pub metadata_by : ℕ → Node → Option SeenMeta
metadata_by version (node.Meta meta) = Some (record { version = version; meta = meta })
metadata_by version (node.Ideal i) = None
metadata_by version node.Boot = None
metadata_by version node.Gone = None

-- the metadata, or that there is no node; a read is refused in no other way than for want of a node
abbrev pub metadata_in : Result Seen StoreRefused → Result (Option SeenMeta) ServerRefused
metadata_in (Ok seen) = Ok (metadata_by seen.version seen.node)
metadata_in (Err NoNode) = Ok None
metadata_in (Err (Exists found)) = Ok None
metadata_in (Err (VersionChanged expected found)) = Ok None
metadata_in (Err Failed) = Err refused.StoreFault
metadata_in (Err Memory) = Err refused.Memory
