use Rattle.std.proofs.Common.{sym}
use Rattle.rt_server.proofs.Through.{asks_for, found_in, put_over}
use Rattle.rt_server.proofs.table.Table.extend.Goals as goal

pub returns : goal.returns
returns c =
    asks_for c.args.numbers.now c.extend.new.numbers c.args.millis c.args.self.now _ c.args.partition c.args.sequence c.in-Some.entry.now c.extend.new.self c.extend.result
    (found_in _ _ _ _ _ _ c.self.view_is (sym c.in-Some.ensures.value)) c.extend.ensures
    (put_over _ _ _ _ _ _ _ c.self.view_is (c.get_mut.follows.holds c.extend.new.self).0)
