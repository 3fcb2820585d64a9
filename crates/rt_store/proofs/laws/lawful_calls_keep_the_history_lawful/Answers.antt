use Rattle.rt_store.proofs.Seeing.{read_lawful, list_lawful, write_lawful}
use Rattle.rt_store.proofs.laws.lawful_calls_keep_the_history_lawful.Goals as goal

pub returns : goal.returns
returns c = record {
  reads = read_lawful;
  lists = list_lawful;
  writes = write_lawful (λ w. tt);
  writes_version = write_lawful (λ w. w.version);
}
