use Rattle.std.proofs.Common.{sym}
use Rattle.rt_server.proofs.Kept.{may_learn_entry}
use Rattle.rt_server.proofs.Through.{commits, found_in, put_over}
use Rattle.rt_server.proofs.table.Table.commit.Goals as goal

pub learn-requires-clause-past : goal.learn-requires-clause-past
learn-requires-clause-past c =
    may_learn_entry c.args.self.now c.args.partition c.args.sequence c.args.done c.args.end c.in-Some.entry.now
    (found_in _ _ _ _ _ _ c.self.view_is (sym c.in-Some.ensures.value)) c.requires.end c.requires.past

pub returns-clause-ok : goal.returns-clause-ok
returns-clause-ok c =
    commits c.args.self.now _ c.args.partition c.args.sequence c.args.done c.args.end c.in-Some.entry.now c.learn.new.self c.learn.result
    (found_in _ _ _ _ _ _ c.self.view_is (sym c.in-Some.ensures.value)) c.learn.ensures.state c.learn.ensures.entry
    (put_over _ _ _ _ _ _ _ c.self.view_is (c.get_mut.follows.holds c.learn.new.self).0)
