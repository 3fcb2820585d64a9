-- What is true of every world: it is safe, and what it holds is bounded by the events that it counts.
use Rattle.std.specs.Prelude.{◌≡◌, ◌≤◌, ◌+◌, ℕ, List, Option, length, is_some}
use Rattle.std.specs.List.{count_by}
use Rattle.rt_base.specs.declared.limits.TheConstants.{MOST_EVENTS, MOST_SENT, MOST_QUERIES, MOST_STORED, LAST_MOMENT}
use Rattle.rt_base.specs.declared.numbers.Moment.{Moment}
use Rattle.rt_broker.specs.Asking.{Asking}
use Rattle.rt_broker.specs.IsAsked.{messages_in}
use Rattle.rt_model.specs.declared.setup.Setup.{Setup}
use Rattle.rt_model.specs.Starting.{starting_contents}
use Rattle.rt_past.specs.Past.{Past}
use Rattle.rt_store.specs.Contents.{starting_of}
use Rattle.rt_state.specs.IsSafe.{IsSafe, past_of}
use Rattle.rt_state.specs.Places.{AreAt}
use Rattle.rt_nodes.specs.declared.controller_node.ControllerNode.{ControllerNode}
use Rattle.rt_state.specs.declared.counts.Counts.{Counts}
use Rattle.rt_state.specs.declared.state.State.{State}

-- the queries that aren't answered
abbrev pub open_in : List (Option Asking) → ℕ
open_in asked = count_by is_some asked

-- a controller has started no more jobs than so many
abbrev pub HasStarted : ℕ → ℕ → ControllerNode → Type 0
HasStarted events c n = n.controller.started ≤ events

-- an event writes, sends, appends, asks and starts a job once at most, and takes what it costs
pub record IsFewOver (s : Setup) (a : Past) (cs : List ControllerNode) (qs : List (Option Asking)) (k : Counts) (now : Moment) : Type 0 where
  pub events : k.events ≤ MOST_EVENTS
  pub written : length a.history ≤ length (starting_contents (starting_of s)) + k.events
  pub sent : length a.sent ≤ k.events
  pub appended : messages_in a.log ≤ k.events
  pub asked : length qs ≤ k.events
  pub started : AreAt (HasStarted k.events) cs
  pub unanswered : k.unanswered ≡ open_in qs
  pub few_unanswered : k.unanswered ≤ MOST_QUERIES
  pub uploads : k.uploads ≤ MOST_SENT
  pub stored : k.stored ≤ MOST_STORED
  pub moment : now.0 ≤ LAST_MOMENT

abbrev pub IsFew : State → Type 0
IsFew w = IsFewOver w.setup (past_of w) w.controllers w.queries w.counts w.moment

pub record IsSafeWorld (w : State) : Type 0 where
  pub safe : IsSafe w
  pub few : IsFew w
