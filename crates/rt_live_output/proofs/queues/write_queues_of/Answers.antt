use Rattle.std.proofs.Common.{arith, get_or, refl, string_bytes}
use Rattle.rt_live_output.specs.Texts.{between, queue_line}
use Rattle.rt_live_output.specs.declared.journal.Queue.{Queue}
use Rattle.rt_live_output.proofs.Told.{told_more}
use Rattle.rt_live_output.proofs.queues.write_queues_of.Goals as goal

-- what stands in place of a queue that isn't there
abbrev no_queue : Queue
no_queue = record { accepted = 0; taken = 0 }

pub loop-receiver-preserved : goal.loop-receiver-preserved
loop-receiver-preserved c =
    let item = get_or c.args.queues.now c.loop-receiver.receiver no_queue in
    let told = string_bytes c.loop-receiver.out in
    let more = string_bytes c.write_queue.new.out in
    told_more (queue_line (between c.args.from.now c.args.to.now) c.args.sender) c.args.queues.now c.loop-receiver.receiver no_queue item (string_bytes c.args.out.now) told more
    (omega arith) refl c.loop-receiver.invariant c.in_ok-write_queue.ensures
