use Rattle.std.proofs.Common.{refl, arith}
use Rattle.rt_lines.proofs.Arrays.{written_more}
use Rattle.rt_report.specs.FurtherTexts.{pair_text}
use Rattle.rt_report.proofs.pending_texts.write_pairs.Goals as goal

pub loop-place-preserved : goal.loop-place-preserved
loop-place-preserved c =
    written_more pair_text c.args.segments.now c.loop-place.place _ _ _ _ _ _ (omega arith) refl c.loop-place.invariant c.in_ok-write_comma.ensures.ok c.in_ok-write_pair.ensures
