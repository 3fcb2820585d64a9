use Rattle.rt_server.proofs.Merge.{merged_ok}
use Rattle.rt_server.proofs.table.Table.due_transits.Goals as goal

pub returns : goal.returns
returns c = merged_ok _ _ _ _ c.self.view_is c.due_merged.ensures.ordered.0 c.due_merged.ensures.ordered.1 c.due_merged.ensures.merged
