-- The script that heals a cluster, and the worlds between its parts: a fresh start, repairs and retirements of each partition at the first
-- controller, and `settle`s up to one that settles.
use Rattle.std.specs.Prelude.{ℕ, Bool, false, Ok}
use Rattle.rt_base.specs.declared.numbers.ControllerId.{ControllerId}
use Rattle.rt_macros.specs.Doing.{Reached}
use Rattle.rt_state.specs.declared.state.State.{State}
use Rattle.rt_calm.specs.Spent.{rounds_in_all}
use Rattle.rt_recovery.specs.Mending.{Mends}
use Rattle.rt_recovery.specs.Often.{SettlesOften}
use Rattle.rt_recovery.specs.Restarting.{StartsAnew}
use Rattle.rt_recovery.specs.Retiring.{Retires}

abbrev pub first_controller : ControllerId
first_controller = record { 0 = 0 }

-- so many retirements of a partition at most, up to one that finds nothing to do (told: whether it came, of each partition); and so many
-- `settle`s of so many rounds
pub record Heals (retirements lines rounds : ℕ) (w : State) (u : Reached) (settled : Bool) : Type 0 where
  pub anew : Reached
  pub starts : StartsAnew w anew (Ok tt)
  pub mended : Reached
  pub mends : Mends first_controller anew.world mended (Ok tt)
  pub retired : Reached
  pub nothing : Bool
  pub retires : Retires first_controller retirements mended.world retired (Ok nothing)
  pub settles : SettlesOften false rounds lines retired.world u (Ok settled)

-- the rounds that are enough for it, by what stands once each partition is mended
abbrev pub rounds_after : {retirements lines rounds : ℕ} {w : State} {u : Reached} {settled : Bool} → Heals retirements lines rounds w u settled → ℕ
rounds_after h = rounds_in_all h.retired.world.setup h.retired.world.log h.retired.world.store.writes
