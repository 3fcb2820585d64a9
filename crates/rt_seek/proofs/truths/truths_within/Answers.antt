use Rattle.std.proofs.Common.{◌∙◌, ap, map}
use Rattle.std.specs.List.{range_with_len}
use Rattle.rt_seek.specs.Keys.{is_between}
use Rattle.rt_seek.proofs.Sets.{ok_then}
use Rattle.rt_seek.proofs.Keys.{range_truths}
use Rattle.rt_seek.proofs.truths.truths_within.Goals as goal

pub returns : goal.returns
returns g c =
    let start = c.range_ids-start.result.0 in
    let end = c.range_ids-start.result.1 in
    ok_then c.truths_of_range.result _ _ c.truths_of_range.ensures (λ truths e.
    e ∙ ap (λ n. map (is_between start end) (range_with_len 0 n)) c.len.ensures.count
    ∙ range_truths g.K.Key.below c.args.low.now c.args.high.now c.args.dict.now start end c.range_ids-start.ensures.exact)
