-- Replicas to which no turn comes: what they are in tells that they have nothing to do.
use Rattle.std.specs.Prelude.{Bool, None, if◌then◌else◌}
use Rattle.rt_base.specs.declared.numbers.Instance.{Instance}
use Rattle.rt_macros.specs.Settling.{SegmentAt}
use Rattle.rt_state.specs.Finding.{has_partition}
use Rattle.rt_state.specs.declared.state.State.{State}
use Rattle.rt_world.specs.Reading.{stage_at}
pub use Rattle.rt_server.specs.Resting.{rests_in, stands_so}

-- a replica that neither takes, builds nor asks any more, at a server that is up
abbrev pub rests_at : State → Instance → SegmentAt → Bool
rests_at w instance segment = stands_so rests_in (if has_partition w segment.0 then stage_at w instance segment.0 segment.1 else None)
