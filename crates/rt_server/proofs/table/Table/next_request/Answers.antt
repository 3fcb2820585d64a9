use Rattle.std.proofs.Common.{sym}
use Rattle.rt_server.proofs.Through.{asks, found_in, put_over}
use Rattle.rt_server.proofs.table.Table.next_request.Goals as goal

pub returns : goal.returns
returns c =
    asks c.args.numbers.now c.next_request.new.numbers c.args.self.now _ c.args.partition c.args.sequence c.in-Some.entry.now c.next_request.new.self c.next_request.result
    (found_in _ _ _ _ _ _ c.self.view_is (sym c.in-Some.ensures.value)) c.next_request.ensures
    (put_over _ _ _ _ _ _ _ c.self.view_is (c.get_mut.follows.holds c.next_request.new.self).0)
