-- What a later world keeps of an earlier one.
use Rattle.std.specs.Prelude.{◌≡◌}
use Rattle.rt_past.specs.Past.{Grows}
use Rattle.rt_state.specs.IsSafe.{past_of}
use Rattle.rt_state.specs.declared.state.State.{State}

-- the cluster is the same, and what was produced, written, put and sent is there still, with what came after it
pub record GoesOn (old new : State) : Type 0 where
  pub setup : new.setup ≡ old.setup
  pub past : Grows (past_of old) (past_of new)
