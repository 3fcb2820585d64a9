-- A world of a round from a fresh start on: segments end by the row limit, all servers are up, no fault is planned, and one leads.
use Rattle.std.specs.Prelude.{◌≡◌, ◌≤◌, []}
use Rattle.rt_state.specs.declared.state.State.{State}
use Rattle.rt_heal.specs.AtRest.{AreUp}
use Rattle.rt_calm.specs.Again.{IsLeading}
use Rattle.rt_calm.proofs.Keeping.{IsGoing}
use Rattle.rt_recovery.specs.ByRows.{IsByRows}

pub record IsRecovering (w : State) : Type 0 where
  pub going : IsGoing w
  pub by_rows : IsByRows w
  pub up : AreUp w
  pub unplanned : w.store.faults.plan ≡ []
  pub fetches : w.deep.faults.plan ≡ []
  pub leading : IsLeading w
  pub millis : 1 ≤ w.setup.table.millis
