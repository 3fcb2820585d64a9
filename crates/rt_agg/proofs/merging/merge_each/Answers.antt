use Rattle.std.proofs.Common.{◌≡◌, Some, List, ◌<◌, length, slice_get, refl, ap, subst, ◌∙◌, arith}
use Rattle.std.specs.Prelude.{slice_index_or}
use Rattle.std.specs.List.{IsDistinct}
use Rattle.std.specs.Map.{lookup, keys_of}
use Rattle.rt_schema.specs.declared.value.Value.{Value}
use Rattle.rt_agg.specs.Grouped.{same_key}
use Rattle.rt_agg.proofs.First.{there}
use Rattle.rt_agg.proofs.Holding.{entry_of_key, key_at_entry, known_of_entry}
use Rattle.rt_agg.proofs.Merges.{merged_first, merged_found, merged_step}
use Rattle.rt_agg.proofs.Places.{keys_long, place_at, places_long, read_at}
use Rattle.rt_agg.proofs.merging.merge_each.Goals as goal

pub loop-i-init : goal.loop-i-init
loop-i-init c = record {
  known = λ alike q. merged_first (lookup (same_key q) c.args.table.now.entries);
  keys = refl;
  long = places_long (keys_of c.args.table.now.entries) c.args.places.now (keys_of c.args.others.now.entries) c.requires ∙ keys_long c.args.others.now.entries;
  same = (refl, refl);
}

pub loop-i-preserved : goal.loop-i-preserved
loop-i-preserved c =
    let i = c.loop-i.i in
    let others = c.args.others.now.entries in
    let entries = c.loop-i.table.entries in
    let place = slice_index_or c.args.places.now i 0 in
    let inside : i < length c.args.places.now = omega (arith, c.loop-i.invariant.long, c.loop-i-test.true, c.len-i-end.ensures.len) in
    let other = there others i (omega (arith, inside, c.loop-i.invariant.long)) in
    let key = other.0.0 in
    let known = other.0.1 in
    let at = other.1 in
    let wanted = key_at_entry others i key known at in
    let here : slice_get (keys_of entries) place ≡ Some key =
    ap (λ (ks : List (List Value)). slice_get ks place) c.loop-i.invariant.keys
    ∙ place_at (keys_of c.args.table.now.entries) c.args.places.now (keys_of others) i place key c.requires (read_at c.args.places.now i inside) wanted in
    let held = entry_of_key entries place key here in
    let apart = subst (IsDistinct same_key) c.merge.ensures.keys c.merge.ensures.apart in
    record {
      known = λ alike q. merged_step q others i key known _ _ _ c.len-i-end.ensures.apart at wanted (c.loop-i.invariant.known alike q)
          (merged_found entries q key held.0 known _ (known_of_entry entries place key held.0 apart held.1) (c.merge.ensures.known (c.loop-i.invariant.same.1 ∙ alike) key held.0 held.1 key known at q));
      keys = c.merge.ensures.keys ∙ c.loop-i.invariant.keys;
      long = c.loop-i.invariant.long;
      same = (c.merge.ensures.same.0 ∙ c.loop-i.invariant.same.0, c.merge.ensures.same.1 ∙ c.loop-i.invariant.same.1);
    }

pub returns-clause-apart : goal.returns-clause-apart
returns-clause-apart c = c.len.ensures.apart
