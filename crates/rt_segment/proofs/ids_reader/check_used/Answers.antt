use Rattle.std.proofs.Common.{sym, ◌∙◌}
use Rattle.rt_segment.proofs.Ids.{all_used}
use Rattle.rt_segment.proofs.ids_reader.check_used.Goals as goal

pub returns-in-None-clause-used : goal.returns-in-None-clause-used
returns-in-None-clause-used c = λ id lt. all_used c.args.cardinality c.args.ids.now (sym c.in_ok-unused.ensures ∙ c.in-None.is) id lt
