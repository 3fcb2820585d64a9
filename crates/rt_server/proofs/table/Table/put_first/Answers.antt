use Rattle.rt_server.proofs.Through.{first_over, when_ok}
use Rattle.rt_server.proofs.table.Table.put_first.Goals as goal

pub returns : goal.returns
returns c = when_ok _ _ _ (first_over _ _ _ _ _ _ _ c.self.view_is c.in_ok-insert.ensures.entries) c.insert-2.ensures.ok
