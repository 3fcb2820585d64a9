use Rattle.rt_agg.proofs.Fitting.{rows_fit}
use Rattle.rt_agg.proofs.laws.rows_fit.Goals as goal

pub returns : goal.returns
returns c = rows_fit c.args._schema.now c.args._row.now c.requires.row c.args._query.now c.requires.query
