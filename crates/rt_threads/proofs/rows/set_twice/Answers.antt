use Rattle.rt_lists.proofs.Members.{Has-front}
use Rattle.rt_store.proofs.Seeing.{read_seen}
use Rattle.rt_threads.proofs.rows.set_twice.Goals as goal

pub abandon-once-requires : goal.abandon-once-requires
abandon-once-requires g c = (read_seen _ _ _ _ c.in-Ok.ensures).0

pub abandon-twice-requires : goal.abandon-twice-requires
abandon-twice-requires g c = Has-front _ _ _ c.abandon-once.ensures (read_seen _ _ _ _ c.in-Ok.ensures).0
