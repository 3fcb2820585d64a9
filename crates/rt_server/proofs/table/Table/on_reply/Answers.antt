use Rattle.std.proofs.Common.{sym}
use Rattle.rt_server.proofs.Through.{replies, found_in, put_over}
use Rattle.rt_server.proofs.table.Table.on_reply.Goals as goal

pub returns : goal.returns
returns c =
    replies c.args.self.now _ c.args.reply c.in-Some.entry.now c.on_reply.new.self c.on_reply.result
    (found_in _ _ _ _ _ _ c.self.view_is (sym c.in-Some.ensures.value)) c.on_reply.ensures
    (put_over _ _ _ _ _ _ _ c.self.view_is (c.get_mut.follows.holds c.on_reply.new.self).0)
