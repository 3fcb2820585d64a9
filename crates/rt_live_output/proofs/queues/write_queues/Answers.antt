use Rattle.std.proofs.Common.{arith, string_bytes}
use Rattle.rt_live_output.specs.Texts.{between, queue_line, texts}
use Rattle.rt_live_output.proofs.Told.{told_more}
use Rattle.rt_live_output.proofs.queues.write_queues.Goals as goal

pub loop-sender-preserved : goal.loop-sender-preserved
loop-sender-preserved c =
    let item = c.index-queues-sender.result in
    let told = string_bytes c.loop-sender.out in
    let more = string_bytes c.write_queues_of.new.out in
    told_more (λ k of. texts (queue_line (between c.args.from.now c.args.to.now) k) of) c.args.queues.now c.loop-sender.sender item c.as_slice.result.now (string_bytes c.args.out.now) told more
    (omega arith) (cc) c.loop-sender.invariant c.in_ok-write_queues_of.ensures
