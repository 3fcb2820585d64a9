-- Worlds whose replicas stand in the same phases and whose segments have the same machines: replicas that are told to hold leave such a one.
use Rattle.std.specs.Prelude.{◌≡◌, ℕ, true, List, [], ◌∷◌, Option, Some, None, slice_get}
use Rattle.rt_consumer.specs.declared.consumer.Consumer.{Consumer}
use Rattle.rt_consumer.specs.declared.phase.Phase.{Phase}
use Rattle.rt_consumer.specs.declared.phase.Phase.TheVariants as phase
use Rattle.rt_consumer.specs.declared.unsealed.Unsealed.{Unsealed}
use Rattle.rt_entry.specs.declared.entry.Entry.{Entry}
use Rattle.rt_entry.specs.declared.entry.Entry.TheVariants.{Committed, Replica}
use Rattle.rt_lists.specs.Members.{Has}
use Rattle.rt_nodes.specs.declared.server_node.ServerNode.{ServerNode}
use Rattle.rt_server.specs.Table.{Segment}
use Rattle.rt_state.specs.declared.state.State.{State}
use Rattle.rt_calm.specs.Again.{asked_machines, awaits, machine_of}

-- the phase of an entry's replica
abbrev pub phase_in : Entry → Option Phase
phase_in (Replica r) = Some r.phase
phase_in (Committed c) = None

-- of each entry of a table
abbrev pub phases_in : List (Segment × Entry) → List (Segment × Option Phase)
phases_in [] = []
phases_in (e ∷ es) = (e.0, phase_in e.1) ∷ phases_in es

-- of each server
abbrev pub phases_by : List ServerNode → List (List (Segment × Option Phase))
phases_by [] = []
phases_by (n ∷ ns) = phases_in n.server.table.entries ∷ phases_by ns

abbrev pub phases_of : State → List (List (Segment × Option Phase))
phases_of w = phases_by w.servers

pub record IsSame (w v : State) : Type 0 where
  pub phases : phases_of v ≡ phases_of w
  pub machines : (s : Segment) → machine_of (asked_machines v) s.0 s.1 ≡ machine_of (asked_machines w) s.0 s.1
  pub written : v.store.writes ≡ w.store.writes

-- a server's replica of a segment, for whose next step to a commit the segment's machine waits
pub record IsCommitter (w : State) (i : ℕ) (s : Segment) : Type 0 where
  pub node : ServerNode
  pub there : slice_get w.servers i ≡ Some node
  pub replica : Consumer
  pub has : Has node.server.table.entries (s, Replica replica)
  pub rows : Unsealed
  pub unsealed : replica.phase ≡ phase.Unsealed rows
  pub awaited : awaits (machine_of (asked_machines w) s.0 s.1) i rows.stage rows.rows.end ≡ true
