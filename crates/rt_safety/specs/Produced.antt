-- What the turns of a run append to the stream, and which queries they ask.
use Rattle.std.specs.Prelude.{◌≡◌, ℕ, List, [], ◌∷◌, ◌++◌, length, Some, slice_get}
use Rattle.rt_broker.specs.Asking.{Asking}
use Rattle.rt_events.specs.declared.event.Event.TheVariants.{Ask, Produce}
use Rattle.rt_model.specs.declared.query.Query.{Query}
use Rattle.rt_safety.specs.Runs.{Turn, happens, passes}
use Rattle.rt_state.specs.declared.state.State.{State}
use Rattle.rt_stream.specs.Log.{Log, with_message}

-- a message that is produced is appended to its partition; nothing else is
abbrev pub log_after : Log → Turn → Log
log_after log (happens (Produce partition message) outcome) = with_message log partition message
log_after log (happens event outcome) = log
log_after log passes = log

-- the log behind some turns
abbrev pub appended : Log → List Turn → Log
appended log [] = log
appended log (turn ∷ turns) = appended (log_after log turn) turns

-- the queries that were asked, by number
abbrev pub queries_after : List Query → Turn → List Query
queries_after queries (happens (Ask query) outcome) = queries ++ query ∷ []
queries_after queries (happens event outcome) = queries
queries_after queries passes = queries

abbrev pub asked_in : List Query → List Turn → List Query
asked_in queries [] = queries
asked_in queries (turn ∷ turns) = asked_in (queries_after queries turn) turns

-- these are the queries that were asked: each that isn't answered yet is the one of its number
pub record AreAsked (w : State) (queries : List Query) : Type 0 where
  pub count : length w.queries ≡ length queries
  pub same : (q : ℕ) (a : Asking) → slice_get w.queries q ≡ Some (Some a) → slice_get queries q ≡ Some a.query
