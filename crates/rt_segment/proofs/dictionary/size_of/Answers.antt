use Rattle.std.proofs.Common.{length, take_all, ap, ◌∙◌, arith}
use Rattle.std.specs.List.{flat_map}
use Rattle.rt_segment.specs.Spelling.{capped}
use Rattle.rt_segment.proofs.Rows.{fits_more, fits_all}
use Rattle.rt_segment.proofs.Sizes.{size_more}
use Rattle.rt_segment.proofs.dictionary.size_of.Goals as goal

pub loop-id-preserved : goal.loop-id-preserved
loop-id-preserved g c = record {
  fits = fits_more g.K.Stored.fits c.args.dict.now c.loop-id.id c.value.result.now c.value.ensures c.loop-id.invariant.fits c.size.ensures.fits;
  size = c.saturating_add-size.ensures ∙ size_more g.K.Stored.spelled c.args.dict.now c.loop-id.id c.value.result.now c.loop-id.size c.size.result c.value.ensures c.loop-id.invariant.size c.size.ensures.size;
}

pub returns-clause-size : goal.returns-clause-size
returns-clause-size g c =
    c.loop-id.invariant.size ∙ ap (λ vs. capped (length (flat_map g.K.Stored.spelled vs))) (take_all c.loop-id.id c.args.dict.now (omega (arith, c.len-count.ensures.count, c.loop-id-test.false)))

pub returns-clause-values : goal.returns-clause-values
returns-clause-values g c =
    (omega (arith, c.len-count.ensures.count), c.len-count.ensures.ascending, fits_all g.K.Stored.fits c.args.dict.now c.loop-id.id (omega (arith, c.len-count.ensures.count, c.loop-id-test.false)) c.loop-id.invariant.fits)
