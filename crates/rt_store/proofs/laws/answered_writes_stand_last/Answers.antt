use Rattle.rt_store.proofs.Told.{answered_took}
use Rattle.rt_store.proofs.laws.answered_writes_stand_last.Goals as goal

pub returns : goal.returns
returns c = record {
  writes = λ old new call done c. let took = answered_took (λ w. tt) old new call done c in (took.0, took.1);
  writes_version = answered_took (λ w. w.version);
}
