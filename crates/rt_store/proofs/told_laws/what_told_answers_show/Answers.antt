use Rattle.rt_store.proofs.Told.{answered_wrote, read_on, list_on, listed_on}
use Rattle.rt_store.proofs.told_laws.what_told_answers_show.Goals as goal

pub returns : goal.returns
returns c = record {
  writes = λ t call done. answered_wrote t call (λ w. tt) done;
  writes_version = λ t call version. answered_wrote t call (λ w. w.version) version;
  reads = read_on;
  lists = list_on;
  listed = listed_on;
}
