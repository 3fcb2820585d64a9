-- What lasts of a repair and of a retirement, of all that was written, put and sent.
use Rattle.std.specs.Prelude.{◌≡◌, ◌<◌, Some}
use Rattle.rt_model.specs.declared.setup.Setup.{Setup}
use Rattle.rt_assign.specs.Placement.{replicas_of}
use Rattle.rt_store.specs.Contents.{starting_of}
use Rattle.rt_store.specs.Meaning.{Told}
use Rattle.rt_past.specs.Past.{Past, with_history}
use Rattle.rt_repair.specs.IsRepair as repairs
use Rattle.rt_repair.specs.IsRetire as retires
use Rattle.rt_repair.specs.Repairing.{Repairing}
use Rattle.rt_repair.specs.Retirement.{Retirement}

-- a repair of a partition of the setup, with its grace: it remembers what was listed at some front of the history, and what was read at
-- a front no shorter
pub record IsRepairOver (setup : Setup) (past : Past) (r : Repairing) : Type 0 where
  pub within : r.partition.0 < setup.partitions
  pub table : r.table ≡ setup.table.name
  pub instances : r.instances ≡ replicas_of r.partition setup.table.replication setup.servers
  pub grace : r.grace ≡ setup.grace
  pub remembers : repairs.Remembers (starting_of setup) past.history r.partition r.stage

-- a retirement of a partition of the setup, which keeps segments as long as the setup says, and remembers the same
pub record IsRetireOver (setup : Setup) (past : Past) (r : Retirement) : Type 0 where
  pub within : r.partition.0 < setup.partitions
  pub keep : Some r.keep ≡ setup.retention
  pub remembers : retires.Remembers (starting_of setup) past.history r.partition r.stage

-- what was written is now all that a store tells
abbrev pub told_past : Past → Told → Past
told_past past t = with_history past t.writes
