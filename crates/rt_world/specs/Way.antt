-- The ways in which an event goes: who takes the step, and what it looks at or calls.
use Rattle.std.specs.Prelude.{ℕ}
use Rattle.rt_base.specs.declared.numbers.ControllerId.{ControllerId}
use Rattle.rt_base.specs.declared.numbers.Instance.{Instance}
use Rattle.rt_base.specs.declared.numbers.Partition.{Partition}
use Rattle.rt_base.specs.declared.numbers.Sequence.{Sequence}
use Rattle.rt_deep.specs.Meaning.{Told as ToldDeep}
use Rattle.rt_events.specs.declared.outcome.Outcome.{Outcome}
use Rattle.rt_nodes.specs.declared.chore.Chore.{Chore}
use Rattle.rt_nodes.specs.declared.controller_node.ControllerNode.{ControllerNode}
use Rattle.rt_state.specs.Applying.{Next, comes}
use Rattle.rt_state.specs.Jobs.{JobSteps}
use Rattle.rt_state.specs.Messages.{Delivers, Replies}
use Rattle.rt_state.specs.Nodes.{ControllerDoes, ServerCalls, ServerDoes, ServerFetches, ServerGets, ServerStep}
use Rattle.rt_state.specs.Queries.{Answers, Pieces, Routes}
use Rattle.rt_state.specs.Repairs.{Keeps}
use Rattle.rt_state.specs.Requests.{AskStep, SendsRequest}
use Rattle.rt_state.specs.declared.cost.Cost.{Cost}
use Rattle.rt_state.specs.declared.state.State.{State}
use Rattle.rt_store.specs.Meaning.{Told}
use Rattle.rt_stream.specs.Log.{Log}

pub data Way : Type 1 where
  -- a server alone, with a look at the stream, with a call of the store, and with one of the deep store
  alone : Instance → ServerStep → Way
  looks : Instance → (Log → Log → ServerStep) → Way
  calls : Instance → (Told → Told → ServerStep) → Way
  gets : Instance → (ToldDeep → ToldDeep → ServerStep) → Way
  -- a server sends a request, and takes the reply of a message's number
  sends : Instance → AskStep → Way
  takes : ℕ → Way
  -- a controller alone
  turns : ControllerId → (ControllerNode → ControllerNode) → Outcome → Way
  -- a controller with calls of the stores: for a message, for a job, and for a partition on its own
  handles : ℕ → ControllerId → Way
  works : ControllerId → ℕ → Way
  keeps : ControllerId → Partition → Chore → Way
  -- the broker, for a query: with a call of the store, with a server's answer, and alone
  routes : ℕ → Partition → Way
  serves : ℕ → Partition → Sequence → Instance → Way
  closes : ℕ → Way
  -- no node: the clock, the stream's producers, and who plans faults, asks or looks
  outside : (Cost → Next) → Way

-- where a way leads, at a cost
abbrev pub Goes : State → Way → Cost → Next → Type 0
Goes w (alone i does) = ServerDoes w i does
Goes w (looks i does) = ServerFetches w i does
Goes w (calls i does) = ServerCalls w i does
Goes w (gets i does) = ServerGets w i does
Goes w (sends i asks) = SendsRequest w i asks
Goes w (takes m) = Replies w m
Goes w (turns c does outcome) = ControllerDoes w c does outcome
Goes w (handles m c) = Delivers w m c
Goes w (works c j) = JobSteps w c j
Goes w (keeps c p chore) = Keeps w c p chore
Goes w (routes q p) = Routes w q p
Goes w (serves q p s i) = Pieces w q p s i
Goes w (closes q) = Answers w q
Goes w (outside next) = λ cost. comes (next cost)
