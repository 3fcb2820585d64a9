use Rattle.std.proofs.Common.{◌≡◌, ◌≤◌, ◌-◌, drop, length}
use Rattle.rt_server.specs.Seen.{are_seen}
use Rattle.rt_server.proofs.seen.are_seen.Given as goal

abbrev pub decreases-loop-place : goal.decreases-loop-place
decreases-loop-place l = length l.entries - l.place

abbrev pub invariant-loop-place : goal.invariant-loop-place
invariant-loop-place l =
    (l.place ≤ length l.entries) × (are_seen l.instance (drop l.place l.entries) l.left ≡ are_seen l.instance l.entries l.fn.modes.entries)
