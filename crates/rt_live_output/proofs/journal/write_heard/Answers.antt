use Rattle.std.proofs.Common.{arith, string_bytes}
use Rattle.rt_live_output.specs.Texts.{heard_line, texts}
use Rattle.rt_live_output.proofs.Told.{told_more}
use Rattle.rt_live_output.proofs.journal.write_heard.Goals as goal

pub loop-controller-preserved : goal.loop-controller-preserved
loop-controller-preserved c =
    let item = c.index-heard-controller.result in
    let told = string_bytes c.loop-controller.out in
    let more = string_bytes c.write_heard_of.new.out in
    told_more (λ k of. texts (heard_line k) of) c.args.heard.now c.loop-controller.controller item c.as_slice.result.now (string_bytes c.args.out.now) told more
    (omega arith) (cc) c.loop-controller.invariant c.in_ok-write_heard_of.ensures
