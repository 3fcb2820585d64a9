use Rattle.rt_deep.proofs.Told.{refused_nothing, refused_nothing_told}
use Rattle.rt_deep.proofs.told_laws.a_refusal_puts_nothing.Goals as goal

pub returns : goal.returns
returns c = record { puts = refused_nothing; told = refused_nothing_told }
