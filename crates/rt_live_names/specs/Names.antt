-- What all nodes of one running cluster have in common.
use Rattle.std.specs.Prelude.{ℕ, List, [], None}
use Rattle.atomic_table.specs.Seated.{TableId}
use Rattle.rt_front.specs.Rules.{no_chronicle}
use Rattle.rt_ground.specs.declared.appended.Appended.{Appended}
use Rattle.rt_model.specs.declared.query.Query.{Query}
use Rattle.rt_model.specs.declared.setup.Setup.{Setup}

pub record Names : Type 0 where
  pub setup : Setup
  -- the link of each node's inbox: of a server by its number, of a controller by its number behind the servers
  pub lines : ℕ → TableId
  -- of each server the history of what it was asked
  pub asked : ℕ → TableId
  -- the messages that come to the stream, and the queries that are asked
  pub rows : List Appended
  pub queries : List Query

abbrev pub no_setup : Setup
no_setup =
    record {
      schema = record { name = []; columns = [] };
      table = record { name = []; replication = 0; indexed = []; rows = 0; millis = 0 };
      servers = 0;
      controllers = 0;
      partitions = 0;
      start = record { 0 = 0 };
      grace = 0;
      retention = None;
      format = 0;
    }

-- the names of no cluster, where no caller has picked any
abbrev pub no_names : Names
no_names =
    record { setup = no_setup; lines = λ k. no_chronicle; asked = λ k. no_chronicle; rows = []; queries = [] }
