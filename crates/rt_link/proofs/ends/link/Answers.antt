use Rattle.std.proofs.Common.{arith}
use Rattle.rt_link.proofs.Counts.{inbox_more, links_more}
use Rattle.rt_link.proofs.ends.link.Goals as goal

pub loop-number-preserved : goal.loop-number-preserved
loop-number-preserved c =
    let so_far = c.loop-number.invariant in
    let new = c.in_ok-new_post.ensures in
    let pushed = c.push_reserved.ensures in
    record {
      inbox = inbox_more c.args.capacity c.loop-number.number _ _ so_far.inbox new.inbox;
      posts = links_more c.args.capacity c.loop-number.number c.loop-number.inbox c.new_post.new.inbox _ _ c.in_ok-new_post.field-0 so_far.inbox new.inbox new.post pushed.items so_far.posts;
      count = omega (arith, pushed.len, so_far.count);
      room = omega (arith, pushed.capacity, so_far.room);
    }
