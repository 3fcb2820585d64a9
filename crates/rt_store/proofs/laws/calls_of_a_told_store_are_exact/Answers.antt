use Rattle.rt_store.specs.Answers.{reading, listing, answer_of, after_call}
use Rattle.rt_store.proofs.Seeing.{told_exact}
use Rattle.rt_store.proofs.laws.calls_of_a_told_store_are_exact.Goals as goal

pub returns : goal.returns
returns c =
    record {
      reads = λ t new k result. told_exact t new (reading k) (λ base. base) result;
      lists = λ t new p result. told_exact t new (listing p) (λ base. base) result;
      writes = λ t new call result. told_exact t new (answer_of (λ w. tt) call) (after_call call) result;
      writes_version =
          λ t new call result. told_exact t new (answer_of (λ w. w.version) call) (after_call call) result;
    }
