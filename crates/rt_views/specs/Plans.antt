-- What the servers of a world serve of its present plans.
use Rattle.std.specs.Prelude.{Bool, true, List, [], ◌∷◌, nat_le, Option, Some, None, slice_get, if◌then◌else◌}
use Rattle.rt_base.specs.declared.numbers.Instance.{Instance}
use Rattle.rt_base.specs.declared.numbers.Offset.{Offset}
use Rattle.rt_base.specs.declared.numbers.Partition.{Partition}
use Rattle.rt_assign.specs.Placement.{replicas_of}
use Rattle.rt_entry.specs.declared.served_rows.ServedRows.{ServedRows}
use Rattle.rt_model.specs.Metadata.{metadata_of}
use Rattle.rt_model.specs.Plan.{plan_of}
use Rattle.rt_model.specs.declared.piece.Piece.{Piece}
use Rattle.rt_world.specs.Reading.{rows_of_node}
use Rattle.rt_state.specs.declared.state.State.{State}

-- the present plan of a partition
abbrev pub pieces_now : State → Partition → List Piece
pieces_now w p = plan_of p (metadata_of w.store.writes p)

-- the servers of a partition, in assignment order
abbrev pub assigned_to : State → Partition → List Instance
assigned_to w p = replicas_of p w.setup.table.replication w.setup.servers

-- a piece doesn't end before it begins
abbrev pub ends_behind : Offset → Option Offset → Bool
ends_behind start None = true
ends_behind start (Some end) = nat_le start.0 end.0

-- what a server that is up serves of a piece
abbrev pub rows_from : State → Piece → Instance → Option ServedRows
rows_from w piece i = if ends_behind piece.start piece.end then rows_of_node (slice_get w.servers i.0) piece else None

abbrev pub or_else : {X : Type 0} → Option X → Option X → Option X
or_else None later = later
or_else (Some x) later = Some x

-- what the first of some servers that has something has
abbrev pub first_of : {X : Type 0} → (Instance → Option X) → List Instance → Option X
first_of f [] = None
first_of f (i ∷ is) = or_else (f i) (first_of f is)
