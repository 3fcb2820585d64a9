use Rattle.std.proofs.Common.{string_bytes}
use Rattle.rt_live.proofs.Rightly.{over_input}
use Rattle.rt_live.proofs.named.run_named.Goals as goal
use Rattle.rt_live_join.specs.Left.{fronts_by}

pub returns : goal.returns
returns g c =
    over_input c.args.input c.args.links c.args.asked.items g.K.Cluster.names c.args.journal c.requires.names c.tell_founded.result (λ ran. ran.ends.items)
    (λ ran. fronts_by ran.caller) (λ ran. string_bytes ran.text) c.tell_founded.ensures
