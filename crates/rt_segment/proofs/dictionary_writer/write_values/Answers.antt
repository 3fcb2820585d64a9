use Rattle.rt_segment.proofs.Rows.{written_more}
use Rattle.rt_segment.proofs.dictionary_writer.write_values.Goals as goal

pub loop-id-preserved : goal.loop-id-preserved
loop-id-preserved g c =
    written_more g.K.Stored.spelled c.args.out.now.items c.loop-id.out.items c.write.new.out.items c.args.dict.now c.loop-id.id c.value.result.now c.value.ensures c.loop-id.invariant c.in_ok-write.ensures
