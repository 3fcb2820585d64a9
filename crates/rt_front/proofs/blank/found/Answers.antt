use Rattle.std.proofs.Common.{◌∙◌, ◌+◌, ap, arith, [], ◌∷◌}
use Rattle.rt_front.specs.Histories.{history, known}
use Rattle.rt_front.proofs.Numbers.{fronts_more}
use Rattle.rt_front.proofs.blank.found.Goals as goal

pub loop-number-preserved : goal.loop-number-preserved
loop-number-preserved g c =
    let so_far = c.loop-number.invariant in
    let new = c.new_front.ensures in
    let pushed = c.push_reserved.ensures in
    record {
      chronicle = so_far.chronicle;
      keeper = new.keeper ∙ ap (λ name. history name [] (c.loop-number.number + 1)) so_far.chronicle;
      fronts = fronts_more c.args.blank c.loop-number.number _ _ c.new_front.result
          (new.front ∙ ap (λ name. known name [] (c.loop-number.number ∷ [])) so_far.chronicle) pushed.items so_far.fronts;
      count = omega (arith, pushed.len, so_far.count);
      room = omega (arith, pushed.capacity, so_far.room);
    }
