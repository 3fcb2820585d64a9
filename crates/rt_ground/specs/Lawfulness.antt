-- The lawful history of the store.
use Rattle.std.specs.Prelude.{◌≡◌, ℕ, ◌≤◌, List, ◌++◌, length, take, slice_get, Some}
use Rattle.rt_model.specs.declared.node.Seen.{Seen}
use Rattle.rt_model.specs.Starting.{Starting, starting_contents}
use Rattle.rt_model.specs.Lawful.{Write, IsLawful, TakesEffect, written_by, IsLawfulHistory}
use Rattle.rt_model.specs.Laws.{HasChains}
use Rattle.rt_front.specs.declared.entry.Entry.{Entry}
use Rattle.rt_ground.specs.Histories.{whats}

-- the starting contents, and then these writes
abbrev pub opened : Starting → List Seen → List Seen
opened s writes = starting_contents s ++ writes

-- an entry after those of a history: it is a write that was lawful over the starting contents and the `told` later writes
-- that its writer's front had seen, and it took effect on all
pub record IsLawfulEntry (s : Starting) (log : List (Entry Seen)) (e : Entry Seen) : Type 0 where
  pub told : e.told ≤ length log
  pub write : Write
  pub lawful : IsLawful (opened s (whats (take e.told log))) write
  pub effect : TakesEffect (opened s (whats log)) write
  pub wrote : e.what ≡ written_by (opened s (whats log)) write

-- each entry is lawful after those before it, and so is the history
pub record IsLawfulLog (s : Starting) (log : List (Entry Seen)) : Type 0 where
  pub each : (k : ℕ) (e : Entry Seen) → slice_get log k ≡ Some e → IsLawfulEntry s (take k log) e
  pub history : IsLawfulHistory s (opened s (whats log))

-- and each partition has its chain
pub record IsLawfulStore (s : Starting) (log : List (Entry Seen)) : Type 0 where
  pub entries : IsLawfulLog s log
  pub chains : HasChains s (opened s (whats log))
