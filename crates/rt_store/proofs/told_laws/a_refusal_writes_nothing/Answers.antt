use Rattle.rt_store.proofs.Told.{refused_nothing, refused_nothing_told}
use Rattle.rt_store.proofs.told_laws.a_refusal_writes_nothing.Goals as goal

pub returns : goal.returns
returns c = record {
  writes = refused_nothing (λ w. tt);
  writes_version = refused_nothing (λ w. w.version);
  told = refused_nothing_told (λ w. tt);
  told_version = refused_nothing_told (λ w. w.version);
}
