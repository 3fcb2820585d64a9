use Rattle.std.proofs.Common.{arith, string_bytes}
use Rattle.rt_live_output.specs.Texts.{numbered_answer}
use Rattle.rt_live_output.proofs.Told.{told_more}
use Rattle.rt_live_output.proofs.output.write_answers.Goals as goal

pub loop-answer-preserved : goal.loop-answer-preserved
loop-answer-preserved c =
    let item = c.answer-item.result in
    let told = string_bytes c.loop-answer.out in
    let more = string_bytes c.write_answer.new.out in
    told_more numbered_answer c.args.answers.now c.loop-answer.answer-index item item (string_bytes c.args.out.now) told more
    (omega arith) (c.answer-item.is) c.loop-answer.invariant c.in_ok-write_answer.ensures
