use Rattle.rt_store.proofs.Told.{read_rose, list_rose, write_rose}
use Rattle.rt_store.proofs.told_laws.a_fault_raises_the_count.Goals as goal

pub returns : goal.returns
returns c = record {
  reads = read_rose;
  lists = list_rose;
  writes = write_rose (λ w. tt);
  writes_version = write_rose (λ w. w.version);
}
