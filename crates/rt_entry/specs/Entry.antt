-- What a server has of one segment: a replica, or a committed segment with its file or wanting it.
use Rattle.std.specs.Prelude.{Bool, Option, Some, None, is_some, ◌≡◌, true, IfSome}
use Rattle.rt_mutable.specs.Consuming.{Consuming}
use Rattle.rt_segment.specs.Segment.{SealedSegment, are_columns}
use Rattle.rt_model.specs.declared.commit.Commit.{Commit}
use Rattle.rt_model.specs.declared.replica_state.ReplicaState.{ReplicaState}
use Rattle.rt_model.specs.declared.replica_state.ReplicaState.TheVariants as state
use Rattle.rt_model.specs.declared.seg_meta.SeenMeta.{SeenMeta}
use Rattle.rt_model.specs.declared.setup.Setup.{Setup}
use Rattle.rt_model.specs.declared.status.Status.{Status}
use Rattle.rt_model.specs.declared.status.Status.TheVariants.{InProgress, Done, Abandoned}
use Rattle.rt_consumer.specs.declared.consumer.Consumer.{Consumer}
use Rattle.rt_consumer.specs.Consumer.{state_of, IsConsumer, settings_of}
use Rattle.rt_consumer.specs.Serving as replica
use Rattle.rt_entry.specs.declared.entry.Entry.{Entry}
use Rattle.rt_entry.specs.declared.entry.Entry.TheVariants.{Replica, Committed}

-- its replica
abbrev pub replica_in : Entry → Option Consumer
replica_in (Replica r) = Some r
replica_in (Committed c) = None

-- a committed segment whose file is wanted
abbrev pub wanting : SeenMeta → Entry
wanting done = Committed (record { done = done; file = None })

abbrev pub state_by : Option SealedSegment → ReplicaState
state_by (Some file) = state.Committed
state_by None = state.Discarded

-- the state of an entry; a committed segment without its file is as one that was dropped
abbrev pub state_in : Entry → ReplicaState
state_in (Replica r) = state_of r.phase
state_in (Committed c) = state_by c.file

abbrev pub commit_in : Status → Option Commit
commit_in InProgress = None
commit_in (Done commit) = Some commit
commit_in Abandoned = None

abbrev pub wanted_by : Option SealedSegment → Status → Option Commit
wanted_by (Some file) status = None
wanted_by None status = commit_in status

-- the commit whose file is wanted
abbrev pub wanted_in : Entry → Option Commit
wanted_in (Replica r) = None
wanted_in (Committed c) = wanted_by c.file c.done.meta.status

-- the rows by column of a replica
abbrev pub rows_in : Entry → Option Consuming
rows_in (Replica r) = replica.held_in r.phase
rows_in (Committed c) = None

-- the sealed rows of a committed entry
abbrev pub file_in : Entry → Option SealedSegment
file_in (Replica r) = replica.file_in r.phase
file_in (Committed c) = c.file

abbrev pub is_replica : Entry → Bool
is_replica e = is_some (replica_in e)

abbrev pub is_wanting : Entry → Bool
is_wanting e = is_some (wanted_in e)

-- replicas are of the setup, and loaded files have the schema's columns
abbrev pub IsEntry : Setup → Entry → Type 0
IsEntry setup (Replica r) = IsConsumer r × (r.settings ≡ settings_of setup)
IsEntry setup (Committed c) = IfSome c.file (λ file. are_columns file.columns setup.schema.columns ≡ true)
