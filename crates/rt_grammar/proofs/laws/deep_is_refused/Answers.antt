use Rattle.rt_grammar.proofs.Viable.{refused_deep}
use Rattle.rt_grammar.proofs.Deepest.{deep_nests}
use Rattle.rt_grammar.proofs.laws.deep_is_refused.Goals as goal

pub returns : goal.returns
returns c s size ts = (λ nests. refused_deep s size ts nests, λ e. deep_nests s size ts e)
