use Rattle.std.proofs.Common.{arith, string_bytes}
use Rattle.rt_live_output.specs.Texts.{write_line}
use Rattle.rt_live_output.proofs.Told.{told_more}
use Rattle.rt_live_output.proofs.journal.write_writes.Goals as goal

pub loop-place-preserved : goal.loop-place-preserved
loop-place-preserved c =
    let item = c.index-writes-place.result in
    let told = string_bytes c.loop-place.out in
    let more = string_bytes c.write_write.new.out in
    told_more write_line c.args.writes.now c.loop-place.place item item (string_bytes c.args.out.now) told more
    (omega arith) (c.index-writes-place.is) c.loop-place.invariant c.in_ok-write_write.ensures
