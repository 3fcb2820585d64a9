use Rattle.std.proofs.Common.{subst, sym}
use Rattle.rt_model.specs.Checked.{IsQuery}
use Rattle.rt_server.specs.Table.{ServerState}
use Rattle.rt_server.proofs.Scans.{table_fits}
use Rattle.rt_server.proofs.server.Server.serve.Goals as goal

pub serve-requires : goal.serve-requires
serve-requires c =
    table_fits c.args.query.now c.self.inside.setup c.self.inside.table c.args.piece.partition c.args.piece.sequence c.self.invariant
    (subst (λ (s : ServerState). IsQuery s.setup.schema c.args.query.now) (sym c.self.view_is) c.requires.query)
