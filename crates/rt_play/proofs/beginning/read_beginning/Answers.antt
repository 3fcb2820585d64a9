use Rattle.std.proofs.Common.{subst, sym}
use Rattle.rt_desk.specs.IsDesk.{IsDesk}
use Rattle.rt_play.proofs.Beginnings.{cluster_schema}
use Rattle.rt_play.proofs.beginning.read_beginning.Goals as goal

pub returns-in-Ok-read_cluster_line-clause-desk : goal.returns-in-Ok-read_cluster_line-clause-desk
returns-in-Ok-read_cluster_line-clause-desk c =
    subst (λ schema. IsDesk schema c.in-Ok-read_desk.desk) (sym (cluster_schema c.in-Ok.said c.read_tables.new.lines c.read_cluster_line.new.lines c.in-Ok-read_cluster_line.setup c.in-Ok-read_cluster_line.ensures.reads))
    c.in-Ok-read_desk.ensures.desk
