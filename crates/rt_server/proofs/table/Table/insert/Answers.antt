use Rattle.rt_server.proofs.Through.{entry_over}
use Rattle.rt_server.proofs.table.Table.insert.Goals as goal

pub returns-clause-ok : goal.returns-clause-ok
returns-clause-ok c = entry_over _ _ _ _ _ _ _ c.self.view_is c.in_ok-insert.ensures.entries
