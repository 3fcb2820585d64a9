-- What begins remembers nothing, and what is kept of a list decides as the list.
use Rattle.std.proofs.Common.{◌≡◌, ℕ, ◌<◌, List, ap}
use Rattle.rt_base.specs.declared.numbers.Moment.{Moment}
use Rattle.rt_base.specs.declared.numbers.Partition.{Partition}
use Rattle.rt_model.specs.declared.node.Listed.{Listed}
use Rattle.rt_model.specs.declared.node.Seen.{Seen}
use Rattle.rt_model.specs.declared.setup.Setup.{Setup}
use Rattle.rt_model.specs.Entries.{entries_by}
use Rattle.rt_model.specs.Lawful.{IsLawfulHistory}
use Rattle.rt_model.specs.Repair.{decide, decide_last}
use Rattle.rt_model.specs.Setup.{IsSetup}
use Rattle.rt_model.specs.Starting.{Starting, IsAssigned}
use Rattle.rt_assign.proofs.Ring.{setup_distinct}
use Rattle.rt_repair.specs.IsRepair.{IsRepair}
use Rattle.rt_repair.specs.IsRetire.{IsRetire}
use Rattle.rt_repair.specs.ReadNode.{last_node, lowest_node}
use Rattle.rt_repair.specs.Repairing.{Repairing, decision_at}
use Rattle.rt_repair.specs.Repairing as repairs
use Rattle.rt_repair.specs.Retired.{retire, retire_by}
use Rattle.rt_repair.specs.Retirement.{Retirement, retiring_at}
use Rattle.rt_repair.specs.Retirement as retirements
use Rattle.rt_repair.proofs.Lists.{last_again, lowest_again}

pub decides_alike :
    (r : Repairing) (now : Moment) (nodes : List Listed) (ideal : Seen)
    → decision_at r now (last_node r.partition nodes) ideal ≡ decide nodes r.partition (entries_by ideal.node) now r.grace
decides_alike r now nodes ideal =
    ap (decide_last r.partition (entries_by ideal.node) now r.grace) (last_again r.partition nodes)

pub retires_alike :
    (r : Retirement) (now : Moment) (nodes : List Listed) (ideal : Seen)
    → retiring_at r now (lowest_node r.partition nodes) ideal ≡ retire nodes r.partition (entries_by ideal.node) now r.keep
retires_alike r now nodes ideal =
    ap (retire_by r.partition (entries_by ideal.node) now r.keep) (lowest_again r.partition nodes)

pub repair_begins :
    (s : Starting) (seen : List Seen) (p : Partition) (setup : Setup) → IsSetup setup → IsLawfulHistory s seen
    → p.0 < s.partitions → IsRepair s seen (repairs.beginning p setup)
repair_begins s seen p setup k lawful within =
    record {
      lawful = lawful;
      within = within;
      named = k.table.named;
      distinct = setup_distinct setup p k;
      remembers = tt;
    }

pub retire_begins :
    (s : Starting) (seen : List Seen) (p : Partition) (keep : ℕ) → IsAssigned s → IsLawfulHistory s seen
    → p.0 < s.partitions → IsRetire s seen (retirements.beginning p keep)
retire_begins s seen p keep assigned lawful within =
    record { assigned = assigned; lawful = lawful; within = within; remembers = tt }
