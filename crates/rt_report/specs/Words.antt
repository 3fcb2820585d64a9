-- The words by which reports name what happened.
use Rattle.std.specs.Prelude.{ℕ, List, codes}
use Rattle.rt_events.specs.declared.event.Event.{Event}
use Rattle.rt_events.specs.declared.event.Event.TheVariants.{
  Produce,
  Tick,
  Lead,
  Consume,
  Force,
  Stop,
  Build,
  Report,
  Extend,
  Deliver,
  Job,
  Reply,
  CrashServer,
  CrashController,
  RestartServer,
  RestartController,
  See,
  Transit,
  Download,
  Repair,
  Retain,
  FaultStore,
  FaultDeep,
  Ask,
  Route,
  Piece,
  Answer,
  ShowMeta,
  ShowIdeal,
}

-- the command of an event's line
abbrev pub command_text : Event → List ℕ
command_text (Produce partition message) = codes "produce"
command_text (Tick millis) = codes "tick"
command_text (Lead controller on) = codes "lead"
command_text (Consume instance partition sequence max) = codes "consume"
command_text (Force instance partition sequence) = codes "force"
command_text (Stop instance partition sequence) = codes "stop"
command_text (Build instance partition sequence) = codes "build"
command_text (Report instance partition sequence) = codes "report"
command_text (Extend instance partition sequence millis) = codes "extend"
command_text (Deliver message controller) = codes "deliver"
command_text (Job controller job) = codes "job"
command_text (Reply message) = codes "reply"
command_text (CrashServer instance) = codes "crash"
command_text (CrashController controller) = codes "crash"
command_text (RestartServer instance) = codes "restart"
command_text (RestartController controller) = codes "restart"
command_text (See instance) = codes "see"
command_text (Transit instance partition sequence) = codes "transit"
command_text (Download instance partition sequence) = codes "download"
command_text (Repair controller partition) = codes "repair"
command_text (Retain controller partition) = codes "retain"
command_text (FaultStore kept) = codes "fault"
command_text (FaultDeep kept) = codes "fault"
command_text (Ask query) = codes "ask"
command_text (Route query partition) = codes "route"
command_text (Piece query partition sequence instance) = codes "piece"
command_text (Answer query) = codes "answer"
command_text (ShowMeta partition sequence) = codes "show"
command_text ShowIdeal = codes "show"

-- the word with which the report of an event that happened begins
abbrev pub told_text : Event → List ℕ
told_text (Produce partition message) = codes "produced"
told_text (Tick millis) = codes "now"
told_text (Lead controller on) = codes "lead"
told_text (Consume instance partition sequence max) = codes "consumed"
told_text (Force instance partition sequence) = codes "forced"
told_text (Stop instance partition sequence) = codes "stopped"
told_text (Build instance partition sequence) = codes "built"
told_text (Report instance partition sequence) = codes "sent"
told_text (Extend instance partition sequence millis) = codes "sent"
told_text (Deliver message controller) = codes "reply"
told_text (Job controller job) = codes "step"
told_text (Reply message) = codes "took"
told_text (CrashServer instance) = codes "down"
told_text (CrashController controller) = codes "down"
told_text (RestartServer instance) = codes "up"
told_text (RestartController controller) = codes "up"
told_text (See instance) = codes "seen"
told_text (Transit instance partition sequence) = codes "moved"
told_text (Download instance partition sequence) = codes "loaded"
told_text (Repair controller partition) = codes "repair"
told_text (Retain controller partition) = codes "retain"
told_text (FaultStore kept) = codes "fault"
told_text (FaultDeep kept) = codes "fault"
told_text (Ask query) = codes "asked"
told_text (Route query partition) = codes "routed"
told_text (Piece query partition sequence instance) = codes "piece"
told_text (Answer query) = codes "answer"
told_text (ShowMeta partition sequence) = codes "node"
told_text ShowIdeal = codes "node"
