use Rattle.std.proofs.Common.{◌≡◌, ◌++◌, drop}
use Rattle.rt_live_links.specs.Counted.{queues, queues_from}
use Rattle.rt_live_links.proofs.counting.count_queues.Given as goal

abbrev pub invariant-loop-number : goal.invariant-loop-number
invariant-loop-number l = l.counts ++ queues_from l.number (drop l.number l.senders) l.receivers
    ≡ queues l.senders l.receivers
