use Rattle.rt_server.proofs.Kept.{made_is}
use Rattle.rt_server.proofs.server.Server.make.Goals as goal

pub invariant_of-result : goal.invariant_of-result
invariant_of-result c =
    made_is c.args.setup.now _ c.args.instance _ c.requires (c.in_ok-setup.ensures {u = tt}) (c.in_ok-table.ensures {u = tt})
