-- What an event asks for before it happens, but for limits: tests in their order, each with its refusal.
use Rattle.std.specs.Prelude.{Bool, Result, Ok}
use Rattle.rt_events.specs.declared.refusal.Refusal.{Refusal}
use Rattle.rt_events.specs.declared.refusal.Refusal.TheVariants.{NoSuchNode, NoSuchMessage, NodeDown, NothingToDo}
use Rattle.rt_state.specs.Room.{only_if, then_due}

pub data Tests : Type 0 where
  -- nothing more
  none : Tests
  -- a node or a partition is there, a message, job or query is, a node is up, there is something to do
  there : Bool → Tests → Tests
  known : Bool → Tests → Tests
  up : Bool → Tests → Tests
  due : Bool → Tests → Tests
  -- some tests, and then more
  behind : Tests → Tests → Tests

-- the refusal of the first test that isn't met; else what comes behind the tests
abbrev pub met : {X : Type 0} → Tests → Result X Refusal → Result X Refusal
met none rest = rest
met (there b more) rest = only_if b NoSuchNode (met more rest)
met (known b more) rest = only_if b NoSuchMessage (met more rest)
met (up b more) rest = only_if b NodeDown (met more rest)
met (due b more) rest = only_if b NothingToDo (met more rest)
met (behind first more) rest = then_due (met first (Ok tt)) (met more rest)
