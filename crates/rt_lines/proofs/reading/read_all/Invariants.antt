use Rattle.std.proofs.Common.{◌≡◌, ◌-◌, ◌≤◌, length}
use Rattle.rt_base.specs.Source.{put_back}
use Rattle.rt_lines.proofs.reading.read_all.Given as goal

abbrev pub invariant-pieces : goal.invariant-pieces
invariant-pieces g l =
    let start = g.S.Source.meaning l.initial.source in let now = g.S.Source.meaning l.source in
    record { size : length l.piece ≡ 8192; fits : length l.input ≤ 67108865; left : start.left ≡ put_back l.input now.left; counts : start.faults ≤ now.faults }

abbrev pub decreases-pieces : goal.decreases-pieces
decreases-pieces g l = 67108866 - length l.input
