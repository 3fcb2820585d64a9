-- The states of a replica, as reports name them.
use Rattle.std.specs.Prelude.{ℕ, List, codes}
use Rattle.rt_model.specs.declared.replica_state.ReplicaState.{ReplicaState}
use Rattle.rt_model.specs.declared.replica_state.ReplicaState.TheVariants.{
  InitialConsuming,
  CatchingUp,
  Holding,
  ConsumingToOnline,
  Retaining,
  Retained,
  Committing,
  Committed,
  Discarded,
}

abbrev pub state_text : ReplicaState → List ℕ
state_text InitialConsuming = codes "INITIAL_CONSUMING"
state_text CatchingUp = codes "CATCHING_UP"
state_text Holding = codes "HOLDING"
state_text ConsumingToOnline = codes "CONSUMING_TO_ONLINE"
state_text Retaining = codes "RETAINING"
state_text Retained = codes "RETAINED"
state_text Committing = codes "COMMITTING"
state_text Committed = codes "COMMITTED"
state_text Discarded = codes "DISCARDED"
