-- Worlds that are the same but for how the groups of their queries lie in memory.
use Rattle.std.specs.Prelude.{◌≡◌, Bool, true, false}
use Rattle.rt_events.specs.declared.event.Event.{Event}
use Rattle.rt_events.specs.declared.event.Event.TheVariants as event
use Rattle.rt_state.specs.IsSafeWorld.{IsSafeWorld}
use Rattle.rt_state.specs.declared.state.State.{State}
use Rattle.rt_exact.specs.Shown.{shown}

-- two safe worlds that show the same
pub record AreAlike (w v : State) : Type 0 where
  pub left : IsSafeWorld w
  pub right : IsSafeWorld v
  pub same : shown w ≡ shown v

-- the one event by which groups come into a world
abbrev pub is_piece : Event → Bool
is_piece (event.Piece q p s i) = true
is_piece other = false
