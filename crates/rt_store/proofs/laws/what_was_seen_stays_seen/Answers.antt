use Rattle.rt_store.proofs.Seeing.{read_grows, list_grows, write_grows}
use Rattle.rt_store.proofs.laws.what_was_seen_stays_seen.Goals as goal

pub returns : goal.returns
returns c = record {
  reads = read_grows;
  lists = list_grows;
  writes = write_grows (λ w. tt);
  writes_version = write_grows (λ w. w.version);
}
