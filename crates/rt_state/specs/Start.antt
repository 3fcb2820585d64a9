-- The first world of a cluster.
use Rattle.std.specs.Prelude.{◌*◌, [], ℕ, replicate}
use Rattle.rt_model.specs.declared.setup.Setup.{Setup}
use Rattle.rt_store.specs.Contents.{fresh as fresh_store}
use Rattle.rt_state.specs.declared.state.State.{State}
pub use Rattle.rt_nodes.specs.Fresh.{fresh_server, fresh_servers, fresh_upkeep, fresh_controlling, fresh_controller, fresh_controllers}

-- each partition has its replicas in the first ideal state
abbrev pub entries_at_first : Setup → ℕ
entries_at_first setup = setup.partitions * setup.table.replication

abbrev pub start : Setup → State
start setup =
    record {
      setup = setup;
      log = replicate setup.partitions [];
      store = fresh_store setup;
      deep = record { files = []; faults = record { plan = []; met = 0 } };
      sent = [];
      servers = fresh_servers setup setup.servers;
      controllers = fresh_controllers setup setup.controllers;
      queries = [];
      moment = setup.start;
      counts = record { events = 0; uploads = 0; unanswered = 0; stored = entries_at_first setup };
    }
