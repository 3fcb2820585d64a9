-- Which clusters there are.
use Rattle.std.specs.Prelude.{◌≤◌}
use Rattle.rt_base.specs.declared.limits.TheConstants.{MOST_SERVERS, MOST_CONTROLLERS, MOST_PARTITIONS, MOST_REPLICATION, LAST_MOMENT}
use Rattle.rt_schema.specs.Schema.{IsSchema}
use Rattle.rt_schema.specs.TableText.{IsTable}
use Rattle.rt_model.specs.declared.setup.Setup.{Setup}

-- a cluster within the limits, of a schema and a table that were read
pub record IsSetup (setup : Setup) : Type 0 where
  pub schema : IsSchema setup.schema
  pub table : IsTable setup.schema setup.table
  pub some_servers : 1 ≤ setup.servers
  pub few_servers : setup.servers ≤ MOST_SERVERS
  pub some_controllers : 1 ≤ setup.controllers
  pub few_controllers : setup.controllers ≤ MOST_CONTROLLERS
  pub some_partitions : 1 ≤ setup.partitions
  pub few_partitions : setup.partitions ≤ MOST_PARTITIONS
  pub some_replicas : 1 ≤ setup.table.replication
  pub few_replicas : setup.table.replication ≤ MOST_REPLICATION
  pub enough_servers : setup.table.replication ≤ setup.servers
  pub start : setup.start.0 ≤ LAST_MOMENT
  pub first_format : 1 ≤ setup.format
  pub last_format : setup.format ≤ 2
