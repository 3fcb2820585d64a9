-- There is always an ideal state.
use Rattle.std.proofs.Common.{◌≡◌, Some, ap, ◌∙◌}
use Rattle.rt_model.proofs.Lawful.{has_ideal_state}
use Rattle.rt_model.specs.declared.ideal_state.IdealState.{IdealState}
use Rattle.rt_store.specs.Contents.{starting_of}
use Rattle.rt_state.specs.IsSafeWorld.{IsSafeWorld}
use Rattle.rt_world.specs.Reading.{ideal_by, ideal_in, ideal_seen}
use Rattle.rt_state.specs.declared.state.State.{State}

pub always_ideal : (w : State) → IsSafeWorld w → (state : IdealState) × (ideal_in w ≡ Some state)
always_ideal w s =
    let k = has_ideal_state (starting_of w.setup) w.store.writes s.safe.past.lawful in
    (k.1, ap ideal_seen k.2 ∙ ap ideal_by k.3)
