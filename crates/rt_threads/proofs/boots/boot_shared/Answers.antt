use Rattle.rt_threads.proofs.Owned.{boots_as_own_by}
use Rattle.rt_threads.proofs.boots.boot_shared.Goals as goal

pub returns : goal.returns
returns g c = boots_as_own_by g.J.Naming.starting _ _ c.args.partition c.args.instance c.boot.result c.boot.ensures
