-- What a run of a cluster comes to: what its nodes left and were joined to, that all of the input is committed and
-- answered and all queues are drained, and what is printed of it.
use Rattle.std.specs.Prelude.{◌≡◌, ℕ, Bool, true, false, List, length, Option, None, Some}
use Rattle.rt_base.specs.declared.numbers.Offset.{Offset}
use Rattle.rt_ground.specs.StoreCalls.{seen_by}
use Rattle.rt_live_end.specs.Headline.{EndsRightly}
use Rattle.rt_live_input.specs.declared.input.Input.{Input}
use Rattle.rt_live_join.specs.Joined.{HasJoined, JoinedNow}
use Rattle.rt_live_names.specs.Fronts.{Fronts}
use Rattle.rt_live_names.specs.Names.{Names}
use Rattle.rt_live_output.specs.declared.journal.Journal.{Journal}
use Rattle.rt_model.specs.declared.node.Seen.{Seen}
use Rattle.rt_store.specs.Contents.{starting_of}
use Rattle.rt_live.specs.Drained.{was_drained}
use Rattle.rt_live.specs.Printed.{printed}

-- what a journal shows, where one is asked for: the writes of the store, and what the nodes left
abbrev pub journal_of : Bool → List Seen → JoinedNow → Option Journal
journal_of true writes joined =
    Some (record {
      writes = writes;
      heard = joined.heard;
      to_controllers = joined.to_controllers;
      to_servers = joined.to_servers;
      mids = joined.mids;
    })
journal_of false writes joined = None

-- where a journal is asked for there is a first answer to each query
abbrev pub AnswersEachFirst : Bool → Names → JoinedNow → Type 0
AnswersEachFirst true n joined = length joined.mids ≡ length n.queries
AnswersEachFirst false n joined = Unit {0}

-- a run of the nodes of these names: `met` is what the one caller knows that met the callers of all of them
pub record HasRunBy (n : Names) (journal : Bool) (ends : List Offset) (met : Fronts) (text : List ℕ) : Type 0 where
  pub joined : JoinedNow
  pub has : HasJoined n (starting_of n.setup) journal joined
  pub shown : joined.met ≡ met
  -- these very nodes ended rightly
  pub rightly : EndsRightly n met joined.answers ends
  pub same : rightly.runs.ended ≡ has.ended
  pub first : AnswersEachFirst journal n joined
  -- all that they accepted of each other was taken
  pub drained : was_drained joined ≡ true
  -- and what is printed are their answers, their ends and their journal, with the whole history of the store
  pub prints : text ≡ printed joined.answers ends (journal_of journal (seen_by (starting_of n.setup) met.store) joined)

-- the nodes of these names run over this input
pub record IsOver (input : Input) (n : Names) : Type 0 where
  pub setup : n.setup ≡ input.setup
  pub rows : n.rows ≡ input.rows
  pub queries : n.queries ≡ input.queries

-- a run over an input, by nodes of some names
pub record HasRun (input : Input) (journal : Bool) (ends : List Offset) (met : Fronts) (text : List ℕ) : Type 0 where
  pub names : Names
  pub over : IsOver input names
  pub by : HasRunBy names journal ends met text

-- what is handed on of a run whose caller isn't
pub record HasToldRun (input : Input) (journal : Bool) (ends : List Offset) (text : List ℕ) : Type 0 where
  pub met : Fronts
  pub run : HasRun input journal ends met text
