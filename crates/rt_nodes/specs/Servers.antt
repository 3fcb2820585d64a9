-- A server sees the ideal state, moves its segments, and loads files.
use Rattle.std.specs.Prelude.{◌≡◌, ℕ, Option, Some, Result, Err}
use Rattle.rt_base.specs.declared.header.Header.{Header}
use Rattle.rt_base.specs.declared.numbers.Moment.{Moment}
use Rattle.rt_base.specs.declared.numbers.Partition.{Partition}
use Rattle.rt_base.specs.declared.numbers.Sequence.{Sequence}
use Rattle.rt_deep.specs.Meaning.{Told as ToldDeep}
use Rattle.rt_deep.specs.Memory.{means as deep_means}
use Rattle.rt_model.specs.declared.replica_state.ReplicaState.{ReplicaState}
use Rattle.rt_server.specs.Calls.{SeesIdeal, Transits, InTable}
use Rattle.rt_server.specs.Download.{Downloads}
use Rattle.rt_server.specs.Table.{Segments, ServerState}
use Rattle.rt_entry.specs.declared.refused.ServerRefused.{ServerRefused}
use Rattle.rt_entry.specs.declared.refused.ServerRefused.TheVariants.{BadFile}
use Rattle.rt_store.specs.Meaning.{Told}
use Rattle.rt_store.specs.Memory.{means}
use Rattle.rt_nodes.specs.Steps.{ServerStep}
use Rattle.rt_nodes.specs.Refused.{outcome_by}
use Rattle.rt_events.specs.declared.outcome.Outcome.TheVariants as told

abbrev pub NodeSees : Told → Told → ServerStep
NodeSees before after old new outcome =
    (answer : Result ℕ ServerRefused) × SeesIdeal (means before) (means after) old.server new.server answer
    × (outcome_by told.SawIdeal answer ≡ Some outcome) × (new.up ≡ old.up)

abbrev pub NodeMoves : Partition → Sequence → Moment → Told → Told → ServerStep
NodeMoves p q now before after old new outcome =
    (answer : Result ReplicaState ServerRefused)
    × Transits (means before) (means after) old.server new.server p q now answer
    × (outcome_by told.Stands answer ≡ Some outcome) × (new.up ≡ old.up)

-- a download finds the file that its segment's commit names
abbrev pub FindsItsFile : ToldDeep → ServerState → Partition → Sequence → Type 0
FindsItsFile deep s p q =
    (after : ToldDeep) (t : Segments) (wanted : Header) (found : Option Header)
    → Downloads (deep_means deep) (deep_means after) s.setup.schema s.table t p q (Err (BadFile wanted found)) → ⊥

abbrev pub NodeLoads : Partition → Sequence → ToldDeep → ToldDeep → ServerStep
NodeLoads p q before after old new outcome =
    (answer : Result ℕ ServerRefused)
    × Downloads (deep_means before) (deep_means after) old.server.setup.schema old.server.table new.server.table p q answer
    × InTable old.server new.server × (outcome_by told.Loaded answer ≡ Some outcome) × (new.up ≡ old.up)
