-- The events of a run, without what came of them.
use Rattle.std.specs.Prelude.{List, map, Option, Some, None}
use Rattle.rt_events.specs.declared.event.Event.{Event}
use Rattle.rt_safety.specs.Runs.{Turn, happens, passes}

-- a turn that is an event; none for a line that is no event
abbrev pub event_of : Turn → Option Event
event_of (happens event outcome) = Some event
event_of passes = None

abbrev pub events_of : List Turn → List (Option Event)
events_of turns = map event_of turns
