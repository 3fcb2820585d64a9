-- When a run is paused, and what a pause holds back.
use Rattle.std.specs.Prelude.{◌≡◌, Bool, true, false, List, [], ◌∷◌, ◌++◌}
use Rattle.rt_lists.specs.Members.{Has}
use Rattle.rt_model.specs.declared.replica_state.ReplicaState.{ReplicaState}
use Rattle.rt_model.specs.declared.replica_state.ReplicaState.TheVariants.{InitialConsuming, CatchingUp, Holding, ConsumingToOnline, Retaining, Retained, Committing, Committed, Discarded}

-- a replica that has begun goes on; one that hasn't may begin unless the run is paused
abbrev pub allows : Bool → ReplicaState → Bool
allows true InitialConsuming = false
allows true CatchingUp = true
allows true Holding = true
allows true ConsumingToOnline = true
allows true Retaining = true
allows true Retained = true
allows true Committing = true
allows true Committed = true
allows true Discarded = true
allows false stage = true

-- what a line of a run does to the pause
pub data Turn : Type 0 where
  pauses : Turn
  resumes : Turn
  neither : Turn

-- whether a pause stands after these lines, by the last that pauses or resumes
abbrev pub paused_after : Bool → List Turn → Bool
paused_after paused [] = paused
paused_after paused (pauses ∷ turns) = paused_after true turns
paused_after paused (resumes ∷ turns) = paused_after false turns
paused_after paused (neither ∷ turns) = paused_after paused turns

-- a run is paused from a line that pauses to the next that resumes
pub record IsPaused (turns : List Turn) : Type 0 where
  pub before : List Turn
  pub after : List Turn
  pub paused : turns ≡ before ++ pauses ∷ after
  pub lasts : Has after resumes → ⊥
