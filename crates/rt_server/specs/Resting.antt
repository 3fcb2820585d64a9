-- Replicas at rest: they have the file of their committed segment, and neither take, build nor ask any more.
use Rattle.std.specs.Prelude.{Bool, true, false, List, Option, None, Some, All, ◌≡◌}
use Rattle.rt_consumer.specs.Consumer.{state_of}
use Rattle.rt_consumer.specs.declared.consumer.Consumer.{Consumer}
use Rattle.rt_entry.specs.declared.entry.Entry.{Entry}
use Rattle.rt_model.specs.declared.replica_state.ReplicaState.{ReplicaState}
use Rattle.rt_model.specs.declared.replica_state.ReplicaState.TheVariants as state
use Rattle.rt_server.specs.Table.{Segment, Segments, entry_of, replica_of}

-- the states in which a replica has the file of its committed segment
abbrev pub rests_in : ReplicaState → Bool
rests_in state.Retained = true
rests_in state.Committed = true
rests_in state.InitialConsuming = false
rests_in state.CatchingUp = false
rests_in state.Holding = false
rests_in state.ConsumingToOnline = false
rests_in state.Retaining = false
rests_in state.Committing = false
rests_in state.Discarded = false

-- where a replica stands, if there is one
abbrev pub stage_of : Option Consumer → Option ReplicaState
stage_of None = None
stage_of (Some r) = Some (state_of r.phase)

abbrev pub stands_so : (ReplicaState → Bool) → Option ReplicaState → Bool
stands_so test None = false
stands_so test (Some stage) = test stage

abbrev pub rests_by : Option Consumer → Bool
rests_by r = stands_so rests_in (stage_of r)

-- whether a segment has a replica at rest
abbrev pub rests_at : Segments → Segment → Bool
rests_at t s = rests_by (replica_of t s.0 s.1)

-- ---- a walk of a table

abbrev pub IsEntryOf : Segments → Segment × Entry → Type 0
IsEntryOf t e = entry_of t e.0.0 e.0.1 ≡ Some e.1

-- what is left of a walk stands in the table
abbrev pub IsWalk : Segments → List (Segment × Entry) → Type 0
IsWalk t walk = All (IsEntryOf t) walk
