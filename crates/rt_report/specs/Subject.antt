-- What an event is about, as its report names it.
use Rattle.std.specs.Prelude.{ℕ, Bool, true, false, List, [], ◌++◌, codes, decimal}
use Rattle.rt_base.specs.declared.numbers.Instance.{Instance}
use Rattle.rt_base.specs.declared.numbers.Partition.{Partition}
use Rattle.rt_base.specs.declared.numbers.Sequence.{Sequence}
use Rattle.rt_events.specs.declared.event.Event.{Event}
use Rattle.rt_events.specs.declared.event.Event.TheVariants.{
  Produce,
  Tick,
  Lead,
  Consume,
  Force,
  Stop,
  Build,
  Report,
  Extend,
  Deliver,
  Job,
  Reply,
  CrashServer,
  CrashController,
  RestartServer,
  RestartController,
  See,
  Transit,
  Download,
  Repair,
  Retain,
  FaultStore,
  FaultDeep,
  Ask,
  Route,
  Piece,
  Answer,
  ShowMeta,
  ShowIdeal,
}

abbrev pub on_text : Bool → List ℕ
on_text true = codes " on"
on_text false = codes " off"

abbrev pub kept_text : Bool → List ℕ
kept_text true = codes "kept"
kept_text false = codes "lost"

-- `sK P/Q`
abbrev pub replica_text : Instance → Partition → Sequence → List ℕ
replica_text instance partition sequence =
    codes "s" ++ (decimal instance.0 ++ (codes " " ++ (decimal partition.0 ++ (codes "/" ++ decimal sequence.0))))

-- what lies outside the nodes
abbrev pub outside_subject : Event → List ℕ
outside_subject (Produce partition message) = decimal partition.0
outside_subject (FaultStore kept) = codes "store " ++ kept_text kept
outside_subject (FaultDeep kept) = codes "deep " ++ kept_text kept
outside_subject _ = []

-- a replica that does something; the report of a request names its message instead
abbrev pub replica_subject : Event → List ℕ
replica_subject (Consume instance partition sequence max) = replica_text instance partition sequence
replica_subject (Force instance partition sequence) = replica_text instance partition sequence
replica_subject (Stop instance partition sequence) = replica_text instance partition sequence
replica_subject (Build instance partition sequence) = replica_text instance partition sequence
replica_subject (Transit instance partition sequence) = replica_text instance partition sequence
replica_subject (Download instance partition sequence) = replica_text instance partition sequence
replica_subject _ = []

-- who takes a message or makes a step of a job, and which
abbrev pub message_subject : Event → List ℕ
message_subject (Deliver message controller) = codes "c" ++ decimal controller.0
message_subject (Job controller job) = codes "c" ++ (decimal controller.0 ++ (codes " j" ++ decimal job))
message_subject (Reply message) = codes "m" ++ decimal message
message_subject _ = []

-- a node, and the partition that it looks after
abbrev pub node_subject : Event → List ℕ
node_subject (Lead controller on) = codes "c" ++ (decimal controller.0 ++ on_text on)
node_subject (CrashServer instance) = codes "s" ++ decimal instance.0
node_subject (CrashController controller) = codes "c" ++ decimal controller.0
node_subject (RestartServer instance) = codes "s" ++ decimal instance.0
node_subject (RestartController controller) = codes "c" ++ decimal controller.0
node_subject (See instance) = codes "s" ++ decimal instance.0
node_subject (Repair controller partition) = codes "c" ++ (decimal controller.0 ++ (codes " " ++ decimal partition.0))
node_subject (Retain controller partition) = codes "c" ++ (decimal controller.0 ++ (codes " " ++ decimal partition.0))
node_subject _ = []

-- a query with what it asks of, and the node of the store that is shown
abbrev pub looking_subject : Event → List ℕ
looking_subject (Route query partition) = codes "q" ++ (decimal query ++ (codes " " ++ decimal partition.0))
looking_subject (Piece query partition sequence instance) = codes "q" ++ (decimal query ++ (codes " " ++ (decimal partition.0 ++ (codes "/" ++ decimal sequence.0))))
looking_subject (ShowMeta partition sequence) = codes "meta/" ++ (decimal partition.0 ++ (codes "/" ++ decimal sequence.0))
looking_subject ShowIdeal = codes "ideal"
looking_subject _ = []

-- what an event is about: something of one kind at most, and nothing of the others
abbrev pub subject_text : Event → List ℕ
subject_text event =
    outside_subject event ++ (replica_subject event ++ (message_subject event ++ (node_subject event ++ looking_subject event)))

-- the partition that an event is about; the first, where it is about none
abbrev pub partition_of : Event → Partition
partition_of (Produce partition message) = partition
partition_of (Tick millis) = record { 0 = 0 }
partition_of (Lead controller on) = record { 0 = 0 }
partition_of (Consume instance partition sequence max) = partition
partition_of (Force instance partition sequence) = partition
partition_of (Stop instance partition sequence) = partition
partition_of (Build instance partition sequence) = partition
partition_of (Report instance partition sequence) = partition
partition_of (Extend instance partition sequence millis) = partition
partition_of (Deliver message controller) = record { 0 = 0 }
partition_of (Job controller job) = record { 0 = 0 }
partition_of (Reply message) = record { 0 = 0 }
partition_of (CrashServer instance) = record { 0 = 0 }
partition_of (CrashController controller) = record { 0 = 0 }
partition_of (RestartServer instance) = record { 0 = 0 }
partition_of (RestartController controller) = record { 0 = 0 }
partition_of (See instance) = record { 0 = 0 }
partition_of (Transit instance partition sequence) = partition
partition_of (Download instance partition sequence) = partition
partition_of (Repair controller partition) = partition
partition_of (Retain controller partition) = partition
partition_of (FaultStore kept) = record { 0 = 0 }
partition_of (FaultDeep kept) = record { 0 = 0 }
partition_of (Ask query) = record { 0 = 0 }
partition_of (Route query partition) = partition
partition_of (Piece query partition sequence instance) = partition
partition_of (Answer query) = record { 0 = 0 }
partition_of (ShowMeta partition sequence) = partition
partition_of ShowIdeal = record { 0 = 0 }
