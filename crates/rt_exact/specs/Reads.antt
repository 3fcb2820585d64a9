-- What is read of a world.
use Rattle.std.specs.Prelude.{◌≡◌, ℕ, Option}
use Rattle.rt_base.specs.declared.gate.NodeId.{NodeId}
use Rattle.rt_base.specs.declared.numbers.Instance.{Instance}
use Rattle.rt_base.specs.declared.numbers.Partition.{Partition}
use Rattle.rt_base.specs.declared.numbers.Sequence.{Sequence}
use Rattle.rt_entry.specs.declared.served_rows.ServedRows.{ServedRows}
use Rattle.rt_model.specs.declared.piece.Piece.{Piece}
use Rattle.rt_world.specs.Reading.{copy_in, due_transits_of, end_in, events_left_in, held_in, ideal_in, is_ready_at, leader_in, length_of, next_at, pieces_of, replicas_seen, ServesRows, stage_at, up_in, wanted_in}
use Rattle.rt_state.specs.declared.state.State.{State}

-- each reading of two worlds gives the same
pub record ReadAlike (w v : State) : Type 0 where
  pub up : (node : NodeId) → up_in w node ≡ up_in v node
  pub leader : leader_in w ≡ leader_in v
  pub lengths : (p : Partition) → length_of w p ≡ length_of v p
  pub ends : (p : Partition) → end_in w p ≡ end_in v p
  pub ready : (i : Instance) (p : Partition) (q : Sequence) → is_ready_at w i p q ≡ is_ready_at v i p q
  pub next : (i : Instance) (p : Partition) (q : Sequence) → next_at w i p q ≡ next_at v i p q
  pub stages : (i : Instance) (p : Partition) (q : Sequence) → stage_at w i p q ≡ stage_at v i p q
  pub transits : (i : Instance) → due_transits_of w i ≡ due_transits_of v i
  pub wanted : (i : Instance) → wanted_in w i ≡ wanted_in v i
  pub held : (i : Instance) → held_in w i ≡ held_in v i
  pub pieces : (q : ℕ) (p : Partition) → pieces_of w q p ≡ pieces_of v q p
  pub rows : (i : Instance) (piece : Piece) (rows : Option ServedRows) → ServesRows w i piece rows → ServesRows v i piece rows
  pub replicas : replicas_seen w ≡ replicas_seen v
  pub copies : (i : Instance) (p : Partition) (q : Sequence) → copy_in w i p q ≡ copy_in v i p q
  pub ideal : ideal_in w ≡ ideal_in v
  pub events_left : events_left_in w ≡ events_left_in v
