use Rattle.rt_peer.proofs.Refusing.{passed_seen, passed_told}
use Rattle.rt_peer.proofs.laws.no_fetch_passes_the_deep_stores_file.Goals as goal

pub returns : goal.returns
returns c = record { seen = passed_seen; told = passed_told }
