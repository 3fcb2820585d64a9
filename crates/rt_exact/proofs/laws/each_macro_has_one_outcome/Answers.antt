use Rattle.rt_exact.proofs.Exchanges.{exchange_one}
use Rattle.rt_exact.proofs.Macros.{fill_one, query_one}
use Rattle.rt_exact.proofs.Settles.{settle_one}
use Rattle.rt_exact.proofs.laws.each_macro_has_one_outcome.Goals as goal

pub returns-clause-fill : goal.returns-clause-fill
returns-clause-fill c = fill_one

pub returns-clause-query : goal.returns-clause-query
returns-clause-query c = query_one

pub returns-clause-exchange : goal.returns-clause-exchange
returns-clause-exchange c = exchange_one

pub returns-clause-settle : goal.returns-clause-settle
returns-clause-settle c = settle_one
