use Rattle.rt_deep.specs.Answers.{getting, putting, after_put}
use Rattle.rt_deep.proofs.Seeing.{told_exact}
use Rattle.rt_deep.proofs.laws.calls_of_a_told_deep_store_are_exact.Goals as goal

pub returns : goal.returns
returns c =
    record {
      gets = λ t new path result. told_exact t new (getting path) (λ base. base) result;
      puts = λ t new put result. told_exact t new (putting put) (after_put put) result;
    }
