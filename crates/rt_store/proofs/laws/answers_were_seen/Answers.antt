use Rattle.rt_store.proofs.Seeing.{read_seen, list_seen}
use Rattle.rt_store.proofs.laws.answers_were_seen.Goals as goal

pub returns : goal.returns
returns c = record { reads = read_seen; lists = list_seen }
