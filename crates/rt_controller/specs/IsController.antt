-- What a controller remembers, of what its store's caller has seen.
use Rattle.std.specs.Prelude.{◌<◌, List, All}
use Rattle.rt_base.specs.declared.limits.TheConstants.{LAST_NUMBER}
use Rattle.rt_model.specs.declared.node.Key.TheVariants as key
use Rattle.rt_model.specs.declared.node.Node.TheVariants as node
use Rattle.rt_model.specs.declared.node.Seen.{Seen}
use Rattle.rt_model.specs.Lawful.{IsLawfulHistory}
use Rattle.rt_model.specs.Starting.{Starting}
use Rattle.rt_commit.specs.Assignment.{IsAssigned}
use Rattle.rt_commit.specs.IsJob.{IsRead, IsJob}
use Rattle.rt_controller.specs.declared.segment_machine.SegmentMachine.{SegmentMachine}
use Rattle.rt_controller.specs.Controller.{Controlling}

-- the write that a machine was made of
abbrev pub machine_write : SegmentMachine → Seen
machine_write m =
    record {
      key = key.Meta m.partition m.sequence;
      version = m.machine.seen.version;
      node = node.Meta m.machine.seen.meta;
    }

pub record IsMachine (s : Starting) (seen : List Seen) (m : SegmentMachine) : Type 0 where
  pub within : m.partition.0 < s.partitions
  pub small : m.sequence.0 < LAST_NUMBER
  pub read : IsRead seen m.partition m.sequence (machine_write m)

-- a controller over a lawful history of which its store's caller has seen at least this
pub record IsController (s : Starting) (seen : List Seen) (c : Controlling) : Type 0 where
  pub assigned : IsAssigned c.assigned
  pub lawful : IsLawfulHistory s seen
  pub machines : All (IsMachine s seen) c.machines
  pub jobs : All (IsJob s seen) c.jobs
