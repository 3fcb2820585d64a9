use Rattle.std.proofs.Common.{arith}
use Rattle.rt_lines.proofs.Arrays.{written_more}
use Rattle.rt_lines.proofs.json.write_array.Goals as goal

pub loop-place-preserved : goal.loop-place-preserved
loop-place-preserved g c =
    written_more g.T.Json.text c.args.items.now c.loop-place.place c.index-items-place.result _ _ _ _ _ (omega arith) c.index-items-place.is c.loop-place.invariant c.in_ok-write_comma.ensures.ok c.in_ok-write.ensures
