use Rattle.std.proofs.Common.{arith, map, [], ◌∙◌}
use Rattle.std.specs.Map.{lookup}
use Rattle.rt_agg.specs.Accumulators.{known_of}
use Rattle.rt_agg.specs.Grouped.{same_key}
use Rattle.rt_agg.specs.Merging.{started_at}
use Rattle.rt_agg.proofs.Holding.{entry_of_key}
use Rattle.rt_agg.proofs.Merges.{started_next, kept_through}
use Rattle.rt_agg.proofs.Places.{places_more}
use Rattle.rt_agg.proofs.merging.start_missing.Goals as goal

pub loop-i-preserved : goal.loop-i-preserved
loop-i-preserved c =
    let table = c.args.table.now in
    let others = c.args.others.now.entries in
    let key = c.key.result.now in
    let there = entry_of_key others c.loop-i.i key c.key.ensures in
    let same = c.loop-i.invariant.same in
    let one = c.start_one.ensures.same in
    record {
      known = λ q. started_next (map (known_of table.columns q []) table.items) q others c.loop-i.i key there.0 _ _ _
          there.1 (c.loop-i.invariant.known q)
          (c.in_ok-place.ensures.known q ∙ (λ j. started_at (map (known_of (same.0 j) q []) (same.1 j)) (lookup (same_key q) c.loop-i.table.entries) (same_key q key)));
      kept = kept_through table.entries c.loop-i.table.entries c.start_one.new.table.entries c.loop-i.invariant.grown c.loop-i.invariant.kept c.start_one.ensures.kept;
      grown = omega (arith, c.loop-i.invariant.grown, c.start_one.ensures.grown);
      places = places_more c.loop-i.table.entries c.start_one.new.table.entries others c.loop-i.i c.loop-i.places.items c.push.new.self.items c.in_ok-place.place key there.0
          c.start_one.ensures.kept c.loop-i.invariant.places there.1 c.in_ok-place.ensures.at c.in_ok-push.ensures.items;
      same = (one.0 ∙ same.0, one.1 ∙ same.1);
    }
