use Rattle.rt_live_join.specs.Left.{fronts_by}
use Rattle.rt_live.proofs.AllMine.{same_fronts, sees_no_more, shows_whole}
use Rattle.rt_live.proofs.history.whole_history.Goals as goal

pub returns-clause-whole : goal.returns-clause-whole
returns-clause-whole g c =
    let same =
    sees_no_more g.J.Naming.callers c.args.caller.now.store c.history.new.caller.store c.requires.all c.requires.callers
    c.history.ensures.callers c.history.ensures.sees in
    shows_whole (λ writes. writes.items) g.J.Naming.starting c.args.caller.now.store c.history.new.caller.store c.history.result same
    c.history.ensures.whole

pub returns-clause-same : goal.returns-clause-same
returns-clause-same g c =
    let same =
    sees_no_more g.J.Naming.callers c.args.caller.now.store c.history.new.caller.store c.requires.all c.requires.callers
    c.history.ensures.callers c.history.ensures.sees in
    same_fronts (fronts_by c.args.caller.now) (fronts_by c.history.new.caller) same c.history.ensures.others.0 c.history.ensures.others.1
