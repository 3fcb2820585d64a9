use Rattle.rt_grammar.proofs.Viable.{first_fault}
use Rattle.rt_grammar.proofs.laws.faults_are_first.Goals as goal

pub returns : goal.returns
returns c s size byte ts e = first_fault s size byte ts e
