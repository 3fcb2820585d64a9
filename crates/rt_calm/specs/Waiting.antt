-- Machines that wait for their committer.
use Rattle.std.specs.Prelude.{◌≡◌, ◌⊎◌, ◌<◌}
use Rattle.rt_base.specs.declared.numbers.Offset.{Offset}
use Rattle.rt_model.specs.Completion.{Completion}
use Rattle.rt_model.specs.declared.completion.Reaction.{Reaction}
use Rattle.rt_model.specs.declared.completion.Reaction.TheVariants.{Answer}
use Rattle.rt_model.specs.declared.completion.Said.TheVariants.{CatchUp, Commit, Hold}
use Rattle.rt_model.specs.declared.machine_state.MachineState.{MachineState}
use Rattle.rt_model.specs.declared.machine_state.MachineState.TheVariants.{PartialConsuming, Holding, CommitterDecided, CommitterNotified, CommitterUploading, Committing, Committed, Aborted}

-- a committer was told to commit, and its job hasn't ended
abbrev pub WaitsFor : MachineState → Type 0
WaitsFor CommitterNotified = Unit {0}
WaitsFor CommitterUploading = Unit {0}
WaitsFor Committing = Unit {0}
WaitsFor PartialConsuming = ⊥
WaitsFor Holding = ⊥
WaitsFor CommitterDecided = ⊥
WaitsFor Committed = ⊥
WaitsFor Aborted = ⊥

-- HOLD is answered, or the machine stays as it is
abbrev pub HoldsOrStays : Completion → Reaction × Completion → Type 0
HoldsOrStays m y = (y.0 ≡ Answer Hold) ⊎ (y.1 ≡ m)

-- COMMIT is answered at the offset that was reported, or CATCH_UP to one ahead of it
abbrev pub GoesOn : Offset → Reaction → Type 0
GoesOn x y = (y ≡ Answer (Commit x)) ⊎ ((t : Offset) × (x.0 < t.0) × (y ≡ Answer (CatchUp t)))
