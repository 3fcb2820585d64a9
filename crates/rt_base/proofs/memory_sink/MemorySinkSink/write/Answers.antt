use Rattle.rt_base.proofs.Exact.{writes_exactly}
use Rattle.rt_base.proofs.memory_sink.MemorySinkSink.write.Goals as goal

pub returns-clause-sink : goal.returns-clause-sink
returns-clause-sink c = writes_exactly _ _ _ _ c.take_in.ensures.answer c.take_in.ensures.after
