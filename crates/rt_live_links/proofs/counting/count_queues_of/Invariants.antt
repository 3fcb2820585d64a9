use Rattle.std.proofs.Common.{◌≡◌, ◌++◌, drop}
use Rattle.rt_live_links.specs.Counted.{queues_of}
use Rattle.rt_live_links.proofs.counting.count_queues_of.Given as goal

abbrev pub invariant-loop-receiver : goal.invariant-loop-receiver
invariant-loop-receiver l =
    l.counts ++ queues_of l.sender (drop l.receiver l.posts) (drop l.receiver l.receivers)
    ≡ queues_of l.sender l.posts l.receivers
