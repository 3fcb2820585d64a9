use Rattle.std.proofs.Common.{sym}
use Rattle.rt_server.proofs.Through.{found_in, put_over, takes, takes_from}
use Rattle.rt_server.proofs.table.Table.consume.Goals as goal

pub returns : goal.returns
returns g c =
    takes _ _ c.args.max c.args.now c.args.self.now _ c.args.partition c.args.sequence c.in-Some.entry.now c.consume.new.self c.consume.result
    (found_in _ _ _ _ _ _ c.self.view_is (sym c.in-Some.ensures.value)) c.consume.ensures
    (put_over _ _ _ _ _ _ _ c.self.view_is (c.get_mut.follows.holds c.consume.new.self).0)

pub consume-requires : goal.consume-requires
consume-requires g c =
    takes_from _ c.args.self.now c.args.partition c.args.sequence c.in-Some.entry.now c.requires
    (found_in _ _ _ _ _ _ c.self.view_is (sym c.in-Some.ensures.value))
