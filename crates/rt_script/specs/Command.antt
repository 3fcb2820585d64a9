-- The first word of a line whose further words have a grammar of their own.
use Rattle.std.specs.Prelude.{ℕ, List, Option, None, Some, codes, bytes_eq, if◌then◌else◌}
use Rattle.rt_script.specs.declared.command.Command.{Command}
use Rattle.rt_script.specs.declared.command.Command.TheVariants.{
  Tick,
  Lead,
  Fault,
  Show,
  Consume,
  Force,
  Stop,
  Build,
  Report,
  Extend,
  Transit,
  Download,
  Deliver,
  Job,
  Reply,
  Crash,
  Restart,
  See,
  Repair,
  Retain,
  Route,
  Piece,
  Answer,
  Fill,
  Exchange,
  Settle,
  ForceStatus,
  Peer,
  Rehearse,
}

-- what lies outside the nodes
abbrev pub outside_of : List ℕ → Option Command
outside_of word =
    if bytes_eq word (codes "tick") then Some Tick else
    (if bytes_eq word (codes "lead") then Some Lead else
    (if bytes_eq word (codes "fault") then Some Fault else
    (if bytes_eq word (codes "show") then Some Show else
    (if bytes_eq word (codes "fill") then Some Fill else
    (if bytes_eq word (codes "settle") then Some Settle else None)))))

-- what names a replica
abbrev pub replica_of : List ℕ → Option Command
replica_of word =
    if bytes_eq word (codes "consume") then Some Consume else
    (if bytes_eq word (codes "force") then Some Force else
    (if bytes_eq word (codes "stop") then Some Stop else
    (if bytes_eq word (codes "build") then Some Build else
    (if bytes_eq word (codes "report") then Some Report else
    (if bytes_eq word (codes "extend") then Some Extend else
    (if bytes_eq word (codes "transit") then Some Transit else
    (if bytes_eq word (codes "download") then Some Download else
    (if bytes_eq word (codes "exchange") then Some Exchange else None))))))))

-- what a node does beside its replicas
abbrev pub node_of : List ℕ → Option Command
node_of word =
    if bytes_eq word (codes "deliver") then Some Deliver else
    (if bytes_eq word (codes "job") then Some Job else
    (if bytes_eq word (codes "reply") then Some Reply else
    (if bytes_eq word (codes "crash") then Some Crash else
    (if bytes_eq word (codes "restart") then Some Restart else
    (if bytes_eq word (codes "see") then Some See else
    (if bytes_eq word (codes "repair") then Some Repair else
    (if bytes_eq word (codes "retain") then Some Retain else None)))))))

-- what the broker does
abbrev pub asking_of : List ℕ → Option Command
asking_of word =
    if bytes_eq word (codes "route") then Some Route else
    (if bytes_eq word (codes "piece") then Some Piece else
    (if bytes_eq word (codes "answer") then Some Answer else None))

-- what stands beside the events
abbrev pub further_of : List ℕ → Option Command
further_of word =
    if bytes_eq word (codes "forceStatus") then Some ForceStatus else
    (if bytes_eq word (codes "peer") then Some Peer else
    (if bytes_eq word (codes "rehearse") then Some Rehearse else None))

abbrev pub or_else : {A : Type 0} → Option A → Option A → Option A
or_else (Some x) other = Some x
or_else None other = other

abbrev pub command_of : List ℕ → Option Command
command_of word = or_else (outside_of word) (or_else (replica_of word) (or_else (node_of word) (or_else (asking_of word) (further_of word))))
