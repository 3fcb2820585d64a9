use Rattle.std.proofs.Common.{◌≡◌, false, replicate, map, length, List, Bool, ◌∙◌, ap, sym}
use Rattle.std.proofs.lemmas.List.{length-replicate}
use Rattle.rt_postings.specs.DocSet.{either}
use Rattle.rt_seek.specs.Keys.{equals_one}
use Rattle.rt_seek.proofs.Keys.{marks_start, marks_step, marks_count, marks_end}
use Rattle.rt_seek.proofs.truths.truths_one_of.Goals as goal
use Rattle.rt_seek.proofs.truths.truths_one_of.Goals.{In_ok-truths}

none_yet : (g : _) (c : In_ok-truths g) → c.in_ok-truths.truths.items ≡ replicate c.len.result false
none_yet g c = c.in_ok-truths.ensures.items_if_clones_equal (λ y e. e)

pub loop-literal-init : goal.loop-literal-init
loop-literal-init g c = record {
  marked =
      ap (λ (ts : List Bool). either ts (map (λ v. equals_one g.K.Comparable.against v c.args.literals.now) c.args.dict.now)) (none_yet g c)
      ∙ marks_start g.K.Comparable.against g.K.Key.below c.args.dict.now c.len.result c.args.literals.now c.len.ensures.count;
  count = ap length (none_yet g c) ∙ length-replicate c.len.result false ∙ c.len.ensures.count;
}

pub loop-literal-preserved : goal.loop-literal-preserved
loop-literal-preserved g c =
    let stands = g.met.K.Comparable.stands c.literal-item.result c.in-Some.key (sym (c.in_ok-key.ensures {u = tt}) ∙ c.in-Some.is) in
    record {
      marked = marks_step g.K.Comparable.against g.K.Key.below c.args.dict.now c.loop-literal.truths.items c.deref_mut.result.now c.mark_key.new.truths c.loop-literal.truths.len
          c.loop-literal.literal-index c.args.literals.now c.literal-item.result c.in-Some.key stands c.deref_mut.ensures.value c.deref_mut.ensures.len c.mark_key.auto.truths c.mark_key.ensures
          c.loop-literal-test.true c.literal-item.is c.loop-literal.invariant.marked;
      count = marks_count g.K.Comparable.against g.K.Key.below c.args.dict.now c.loop-literal.truths.items c.deref_mut.result.now c.mark_key.new.truths c.loop-literal.truths.len
          c.loop-literal.literal-index c.args.literals.now c.literal-item.result c.in-Some.key stands c.deref_mut.ensures.value c.deref_mut.ensures.len c.mark_key.auto.truths c.mark_key.ensures
          c.loop-literal.invariant.count;
    }

pub returns : goal.returns
returns g c = marks_end g.K.Comparable.against g.K.Key.below c.args.dict.now c.loop-literal.truths.items c.loop-literal.literal-index c.args.literals.now c.loop-literal-test.false c.loop-literal.invariant.count c.loop-literal.invariant.marked
