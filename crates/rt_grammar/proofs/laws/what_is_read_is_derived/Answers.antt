use Rattle.std.proofs.Common.{arith}
use Rattle.rt_grammar.proofs.Sound.{sound}
use Rattle.rt_grammar.proofs.Forward.{complete}
use Rattle.rt_grammar.proofs.laws.what_is_read_is_derived.Goals as goal

pub returns : goal.returns
returns c s size ts q = (λ e. sound s size ts q e, λ h. complete s size 64 ts q h (omega arith))
