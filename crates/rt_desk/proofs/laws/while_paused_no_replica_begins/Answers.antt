use Rattle.std.proofs.Common.{subst}
use Rattle.rt_desk.specs.Paused.{Allowed, LeadsBy}
use Rattle.rt_desk.proofs.ReachingLines.{line_pauses}
use Rattle.rt_desk.proofs.laws.while_paused_no_replica_begins.Goals as goal

pub returns : goal.returns
returns c said desk w v result fits paused line =
    subst (λ b. LeadsBy (Allowed b) w v.turns v.world) paused (line_pauses said desk w fits v result line)
