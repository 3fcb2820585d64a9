use Rattle.std.proofs.Common.{arith, string_bytes}
use Rattle.rt_live_output.specs.Texts.{mid_line}
use Rattle.rt_live_output.proofs.Told.{told_more}
use Rattle.rt_live_output.proofs.journal.write_mids.Goals as goal

pub loop-place-preserved : goal.loop-place-preserved
loop-place-preserved c =
    let item = c.index-mids-place.result in
    let told = string_bytes c.loop-place.out in
    let more = string_bytes c.write_mid.new.out in
    told_more mid_line c.args.mids.now c.loop-place.place item item (string_bytes c.args.out.now) told more
    (omega arith) (c.index-mids-place.is) c.loop-place.invariant c.in_ok-write_mid.ensures
