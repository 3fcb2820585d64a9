use Rattle.std.proofs.Common.{arith, string_bytes}
use Rattle.rt_live_output.specs.Texts.{heard_line}
use Rattle.rt_live_output.proofs.Told.{told_more}
use Rattle.rt_live_output.proofs.lines.write_heard_of.Goals as goal

pub loop-place-preserved : goal.loop-place-preserved
loop-place-preserved c =
    let item = c.index-heard-place.result in
    let told = string_bytes c.loop-place.out in
    let more = string_bytes c.write_heard_one.new.out in
    told_more (heard_line c.args.controller) c.args.heard.now c.loop-place.place item item (string_bytes c.args.out.now) told more
    (omega arith) (c.index-heard-place.is) c.loop-place.invariant c.in_ok-write_heard_one.ensures
