use Rattle.rt_base.proofs.Exact.{reads_exactly}
use Rattle.rt_base.proofs.memory_source.MemorySourceSource.read.Goals as goal

pub returns-clause-source : goal.returns-clause-source
returns-clause-source c =
    reads_exactly _ _ c.args.into.now _ _ c.give.ensures.answer c.give.ensures.after c.give.ensures.piece
