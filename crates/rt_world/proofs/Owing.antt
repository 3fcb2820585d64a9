-- What a way owes for the world to stay safe: its price, and what a node's own step keeps.
use Rattle.std.proofs.Common.{◌≡◌, ℕ, true, slice_get, Some, Ok}
use Rattle.rt_base.specs.declared.numbers.Partition.{Partition}
use Rattle.rt_base.specs.declared.numbers.Sequence.{Sequence}
use Rattle.rt_deep.specs.Meaning.{Told as ToldDeep}
use Rattle.rt_events.specs.declared.outcome.Outcome.{Outcome}
use Rattle.rt_model.specs.declared.request.Request.{Request}
use Rattle.rt_nodes.specs.declared.controller_node.ControllerNode.{ControllerNode}
use Rattle.rt_nodes.specs.declared.server_node.ServerNode.{ServerNode}
use Rattle.rt_past.specs.Past.{Past, with_history}
use Rattle.rt_server.specs.Lasting.{SendsRight}
use Rattle.rt_state.specs.IsSafe.{HasDrawn, IsControllerAt, IsServerAt, past_of}
use Rattle.rt_state.specs.IsSafeWorld.{IsSafeWorld}
use Rattle.rt_state.specs.Jobs.{sets_of_job}
use Rattle.rt_state.specs.Repairs.{chore_due, upkeep_at}
use Rattle.rt_state.specs.Room.{no_cost, priced, set_cost, upload_cost}
use Rattle.rt_state.specs.declared.cost.Cost.{Cost}
use Rattle.rt_state.specs.declared.state.State.{State}
use Rattle.rt_store.specs.Meaning.{Told}
use Rattle.rt_stream.specs.Log.{Log}
use Rattle.rt_world.proofs.Stores.{WritesOn}
use Rattle.rt_world.specs.Step.{set_by}
use Rattle.rt_world.specs.Way.{Way}
use Rattle.rt_world.specs.Way as way

-- a server that is right over a past, and has drawn the numbers of its requests there
pub record IsServerOf (w : State) (a : Past) (i : ℕ) (n : ServerNode) : Type 0 where
  pub at : IsServerAt w.setup a i n
  pub drawn : HasDrawn a i n

-- what a server's call of the store leaves
pub record ServerWrites (w : State) (i : ℕ) (new : ServerNode) (store : Told) : Type 0 where
  pub past : WritesOn w.setup (past_of w) store.writes
  pub server : IsServerOf w (with_history (past_of w) store.writes) i new

-- what a node's own step is to keep, where its way leaves open which step that is
abbrev pub StepKeeps : State → Way → Type 0
StepKeeps w (way.alone i does) =
    (old new : ServerNode) (o : Outcome) → slice_get w.servers i.0 ≡ Some old → IsServerOf w (past_of w) i.0 old → does old new o → IsServerOf w (past_of w) i.0 new
StepKeeps w (way.looks i does) =
    (old new : ServerNode) (log : Log) (o : Outcome) → slice_get w.servers i.0 ≡ Some old → IsServerOf w (past_of w) i.0 old → does w.log log old new o
    → (log ≡ w.log) × IsServerOf w (past_of w) i.0 new
StepKeeps w (way.calls i does) =
    (old new : ServerNode) (store : Told) (o : Outcome) → slice_get w.servers i.0 ≡ Some old → IsServerOf w (past_of w) i.0 old → does w.store store old new o
    → ServerWrites w i.0 new store
StepKeeps w (way.gets i does) =
    (old new : ServerNode) (deep : ToldDeep) (o : Outcome) → slice_get w.servers i.0 ≡ Some old → IsServerOf w (past_of w) i.0 old → does w.deep deep old new o
    → (deep.files ≡ w.deep.files) × IsServerOf w (past_of w) i.0 new
StepKeeps w (way.sends i asks) =
    (old new : ServerNode) (request : Request) → slice_get w.servers i.0 ≡ Some old → asks old new request
    → (old.up ≡ true) × (new.up ≡ old.up) × (p : Partition) × (q : Sequence) × SendsRight w.setup (past_of w) old.server new.server p q request
StepKeeps w (way.turns c does told) =
    (n : ControllerNode) → IsControllerAt w.setup (past_of w) c.0 n
    → IsControllerAt w.setup (past_of w) c.0 (does n) × ((does n).controller.started ≡ n.controller.started)
StepKeeps w other = Unit {0}

abbrev pub Owes : State → Cost → Way → Type 0
Owes w cost (way.sends i asks) = (bytes : ℕ) × (priced w (upload_cost bytes) ≡ Ok cost) × StepKeeps w (way.sends i asks)
Owes w cost (way.works c j) = (priced w (set_cost (sets_of_job w c j)) ≡ Ok cost) × StepKeeps w (way.works c j)
Owes w cost (way.keeps c p chore) = (chore_due w c p chore ≡ Ok cost) × (priced w (set_cost (set_by chore (upkeep_at w c p) w.moment)) ≡ Ok cost)
Owes w cost (way.outside next) = IsSafeWorld (next cost).0
Owes w cost y = (priced w no_cost ≡ Ok cost) × StepKeeps w y
