use Rattle.std.proofs.Common.{◌≡◌, length}
use Rattle.rt_live.proofs.running.blanks_for.Given as goal

abbrev pub invariant-loop-server : goal.invariant-loop-server
invariant-loop-server l = length l.blanks.items ≡ l._server
