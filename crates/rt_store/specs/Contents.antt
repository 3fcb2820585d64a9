-- What the store of a fresh cluster holds.
use Rattle.std.specs.Prelude.{[]}
use Rattle.rt_model.specs.declared.setup.Setup.{Setup}
use Rattle.rt_model.specs.Starting.{Starting, starting_contents}
use Rattle.rt_meta.specs.Lives.{first_of}
use Rattle.rt_assign.specs.Placement.{replicas_of}
use Rattle.rt_store.specs.Meaning.{Told}

-- what the starting contents of a cluster are made of
abbrev pub starting_of : Setup → Starting
starting_of setup =
    record {
      servers = setup.servers;
      partitions = setup.partitions;
      moment = setup.start;
      name = λ p. (first_of setup.table.name p (record { 0 = 0 }) (record { 0 = 0 }) setup.start).name;
      instances = λ p. replicas_of p setup.table.replication setup.servers;
    }

-- a fresh store: the starting contents, and no planned fault
abbrev pub fresh : Setup → Told
fresh setup = record { writes = starting_contents (starting_of setup); faults = record { plan = []; met = 0 } }
