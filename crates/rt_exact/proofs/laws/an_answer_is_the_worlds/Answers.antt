use Rattle.std.proofs.Common.{refl}
use Rattle.rt_events.specs.declared.outcome.Outcome.TheVariants as told
use Rattle.rt_exact.proofs.Answers.{answered_so}
use Rattle.rt_exact.proofs.laws.an_answer_is_the_worlds.Goals as goal

pub returns : goal.returns
returns c = λ w q x answer s h. answered_so w q h.0 (x, told.Answered answer) answer s h.2 refl
