use Rattle.std.proofs.Common.{◌∙◌, Some, ap, arith, refl, sym}
use Rattle.std.proofs.lemmas.Bool.{both_ways}
use Rattle.std.proofs.lemmas.Option.{slice_get_read}
use Rattle.rt_agg.proofs.Spreading.{none_sooner, some_one}
use Rattle.rt_agg.proofs.sharing.first_place.Goals as goal

pub returns-then-is_same : goal.returns-then-is_same
returns-then-is_same c =
    let items = c.args.items.now in
    let there = slice_get_read items _ c.loop-place.place c.index-items-place.result refl (omega arith) c.index-items-place.is in
    let here = slice_get_read items _ c.args.i c.index-items-i.result refl c.requires c.index-items-i.is in
    record {
      within = omega arith;
      same = there ∙ ap Some (c.is_same.ensures.0 c.if-is_same.true) ∙ sym here;
      first = c.loop-place.invariant;
    }

pub loop-place-preserved : goal.loop-place-preserved
loop-place-preserved c =
    let items = c.args.items.now in
    let there = slice_get_read items _ c.loop-place.place c.index-items-place.result refl (omega arith) c.index-items-place.is in
    let here = slice_get_read items _ c.args.i c.index-items-i.result refl c.requires c.index-items-i.is in
    none_sooner items c.args.i c.loop-place.place c.loop-place.invariant
    (λ same. both_ways c.is_same.result c.if-is_same.false (c.is_same.ensures.1 (some_one (sym there ∙ same ∙ here))))

pub returns : goal.returns
returns c = record {
  within = omega arith;
  same = refl;
  first = λ j lt same. c.loop-place.invariant j (omega (arith, lt)) same;
}
