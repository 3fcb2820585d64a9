-- A node in its place goes from one state to another, and all else stays.
use Rattle.std.specs.Prelude.{◌≡◌, slice_get, slice_set, Option, Some, None}
use Rattle.rt_base.specs.declared.numbers.ControllerId.{ControllerId}
use Rattle.rt_base.specs.declared.numbers.Instance.{Instance}
use Rattle.rt_deep.specs.Meaning.{Told as ToldDeep}
use Rattle.rt_events.specs.declared.outcome.Outcome.{Outcome}
use Rattle.rt_store.specs.Meaning.{Told}
use Rattle.rt_stream.specs.Log.{Log}
use Rattle.rt_state.specs.Applying.{Next}
use Rattle.rt_state.specs.Room.{counted}
use Rattle.rt_nodes.specs.declared.controller_node.ControllerNode.{ControllerNode}
use Rattle.rt_state.specs.declared.cost.Cost.{Cost}
use Rattle.rt_nodes.specs.declared.server_node.ServerNode.{ServerNode}
use Rattle.rt_state.specs.declared.state.State.{State}
pub use Rattle.rt_nodes.specs.Steps.{ServerStep}

abbrev pub with_server : State → Instance → ServerNode → State
with_server w i n = record w { servers = slice_set w.servers i.0 n }

abbrev pub with_controller : State → ControllerId → ControllerNode → State
with_controller w c n = record w { controllers = slice_set w.controllers c.0 n }

abbrev pub ServerDoesAt : Option ServerNode → State → Instance → ServerStep → Cost → Next → Type 0
ServerDoesAt None w i does cost x = ⊥
ServerDoesAt (Some old) w i does cost x =
    (new : ServerNode) × does old new x.1 × (x.0 ≡ counted (with_server w i new) cost)

-- the server of that number steps
abbrev pub ServerDoes : State → Instance → ServerStep → Cost → Next → Type 0
ServerDoes w i does cost x = ServerDoesAt (slice_get w.servers i.0) w i does cost x

-- the same with one call of the store
abbrev pub ServerCallsAt : Option ServerNode → State → Instance → (Told → Told → ServerStep) → Cost → Next → Type 0
ServerCallsAt None w i does cost x = ⊥
ServerCallsAt (Some old) w i does cost x =
    (new : ServerNode) × (store : Told) × does w.store store old new x.1
    × (x.0 ≡ counted (record w { servers = slice_set w.servers i.0 new; store = store }) cost)

abbrev pub ServerCalls : State → Instance → (Told → Told → ServerStep) → Cost → Next → Type 0
ServerCalls w i does cost x = ServerCallsAt (slice_get w.servers i.0) w i does cost x

-- the same with one call of the deep store
abbrev pub ServerGetsAt : Option ServerNode → State → Instance → (ToldDeep → ToldDeep → ServerStep) → Cost → Next → Type 0
ServerGetsAt None w i does cost x = ⊥
ServerGetsAt (Some old) w i does cost x =
    (new : ServerNode) × (deep : ToldDeep) × does w.deep deep old new x.1
    × (x.0 ≡ counted (record w { servers = slice_set w.servers i.0 new; deep = deep }) cost)

abbrev pub ServerGets : State → Instance → (ToldDeep → ToldDeep → ServerStep) → Cost → Next → Type 0
ServerGets w i does cost x = ServerGetsAt (slice_get w.servers i.0) w i does cost x

-- the same with one look at the stream
abbrev pub ServerFetchesAt : Option ServerNode → State → Instance → (Log → Log → ServerStep) → Cost → Next → Type 0
ServerFetchesAt None w i does cost x = ⊥
ServerFetchesAt (Some old) w i does cost x =
    (new : ServerNode) × (log : Log) × does w.log log old new x.1
    × (x.0 ≡ counted (record w { servers = slice_set w.servers i.0 new; log = log }) cost)

abbrev pub ServerFetches : State → Instance → (Log → Log → ServerStep) → Cost → Next → Type 0
ServerFetches w i does cost x = ServerFetchesAt (slice_get w.servers i.0) w i does cost x

-- a controller's own step that calls no store and tells nothing more
abbrev pub ControllerDoesAt : Option ControllerNode → State → ControllerId → (ControllerNode → ControllerNode) → Outcome → Cost → Next → Type 0
ControllerDoesAt None w c does told cost x = ⊥
ControllerDoesAt (Some old) w c does told cost x = x ≡ (counted (with_controller w c (does old)) cost, told)

abbrev pub ControllerDoes : State → ControllerId → (ControllerNode → ControllerNode) → Outcome → Cost → Next → Type 0
ControllerDoes w c does told cost x = ControllerDoesAt (slice_get w.controllers c.0) w c does told cost x
