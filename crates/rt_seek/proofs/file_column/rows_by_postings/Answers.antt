use Rattle.std.proofs.Common.{refl, ap, ◌∙◌, replicate, false, length}
use Rattle.rt_seek.proofs.Posted.{posted_start, posted_more, posted_end}
use Rattle.rt_seek.proofs.file_column.rows_by_postings.Goals as goal

pub loop-id-init : goal.loop-id-init
loop-id-init c =
    c.in_ok-set.ensures {u = tt} ∙ ap (λ ids. replicate (length ids) false) c.ids.ensures.ids ∙ posted_start c.args.truths.now c.args.column.now.ids

pub loop-id-preserved : goal.loop-id-preserved
loop-id-preserved c = posted_more c.args.truths.now c.args.column.now.ids c.loop-id.id _ c.loop-id.set c.note_id.new.set refl c.loop-id.invariant c.note_id.ensures

pub returns : goal.returns
returns c = c.loop-id.invariant ∙ posted_end c.args.truths.now c.args.column.now.ids c.loop-id.id c.loop-id-test.false
