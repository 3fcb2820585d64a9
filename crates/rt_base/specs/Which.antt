use Rattle.std.specs.Prelude.{ℕ, List, codes}
use Rattle.rt_base.specs.declared.which.Which.{Which}
use Rattle.rt_base.specs.declared.which.Which.TheVariants.{
  Input,
  Partitions,
  Servers,
  Controllers,
  Replication,
  Message,
  Events,
  Sent,
  Queries,
  Stored,
  Moment,
  Rows,
}

-- the name of a limit, as a refusal prints it
abbrev pub name_of : Which → List ℕ
name_of Input = codes "input"
name_of Partitions = codes "partitions"
name_of Servers = codes "servers"
name_of Controllers = codes "controllers"
name_of Replication = codes "replication"
name_of Message = codes "message"
name_of Events = codes "events"
name_of Sent = codes "sent"
name_of Queries = codes "queries"
name_of Stored = codes "stored"
name_of Moment = codes "moment"
name_of Rows = codes "rows"
