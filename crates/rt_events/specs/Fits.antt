-- Which events may be handed to a world: a query is one over the columns of the world's table.
use Rattle.rt_events.specs.declared.event.Event.{Event}
use Rattle.rt_events.specs.declared.event.Event.TheVariants.{
  Produce,
  Tick,
  Lead,
  Consume,
  Force,
  Stop,
  Build,
  Report,
  Extend,
  Deliver,
  Job,
  Reply,
  CrashServer,
  CrashController,
  RestartServer,
  RestartController,
  See,
  Transit,
  Download,
  Repair,
  Retain,
  FaultStore,
  FaultDeep,
  Ask,
  Route,
  Piece,
  Answer,
  ShowMeta,
  ShowIdeal,
}
use Rattle.rt_model.specs.Checked.{IsQuery}
use Rattle.rt_schema.specs.declared.schema.Schema.{Schema}

abbrev pub Fits : Schema → Event → Type 0
Fits schema (Produce partition message) = Unit {0}
Fits schema (Tick millis) = Unit {0}
Fits schema (Lead controller on) = Unit {0}
Fits schema (Consume instance partition sequence max) = Unit {0}
Fits schema (Force instance partition sequence) = Unit {0}
Fits schema (Stop instance partition sequence) = Unit {0}
Fits schema (Build instance partition sequence) = Unit {0}
Fits schema (Report instance partition sequence) = Unit {0}
Fits schema (Extend instance partition sequence millis) = Unit {0}
Fits schema (Deliver message controller) = Unit {0}
Fits schema (Job controller job) = Unit {0}
Fits schema (Reply message) = Unit {0}
Fits schema (CrashServer instance) = Unit {0}
Fits schema (CrashController controller) = Unit {0}
Fits schema (RestartServer instance) = Unit {0}
Fits schema (RestartController controller) = Unit {0}
Fits schema (See instance) = Unit {0}
Fits schema (Transit instance partition sequence) = Unit {0}
Fits schema (Download instance partition sequence) = Unit {0}
Fits schema (Repair controller partition) = Unit {0}
Fits schema (Retain controller partition) = Unit {0}
Fits schema (FaultStore kept) = Unit {0}
Fits schema (FaultDeep kept) = Unit {0}
Fits schema (Ask query) = IsQuery schema query
Fits schema (Route query partition) = Unit {0}
Fits schema (Piece query partition sequence instance) = Unit {0}
Fits schema (Answer query) = Unit {0}
Fits schema (ShowMeta partition sequence) = Unit {0}
Fits schema ShowIdeal = Unit {0}
