-- A script as it goes on: its world, and the desk beside it, which has what its header says of further lines and what they left.
use Rattle.rt_desk.specs.declared.desk.Desk.{Desk}
use Rattle.rt_state.specs.declared.state.State.{State}

pub record Going : Type 0 where
  pub world : State
  pub desk : Desk
