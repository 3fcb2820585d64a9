use Rattle.std.proofs.Common.{sym}
use Rattle.rt_server.proofs.Loaded.{downloads}
use Rattle.rt_server.proofs.Through.{found_in, put_over}
use Rattle.rt_server.proofs.table.Table.download.Goals as goal

pub returns : goal.returns
returns g c =
    downloads _ _ c.args.schema.now c.args.self.now _ c.args.partition c.args.sequence c.in-Some.entry.now c.load.new.self c.load.result
    (found_in _ _ _ _ _ _ c.self.view_is (sym c.in-Some.ensures.value)) c.load.ensures
    (put_over _ _ _ _ _ _ _ c.self.view_is (c.get_mut.follows.holds c.load.new.self).0)
