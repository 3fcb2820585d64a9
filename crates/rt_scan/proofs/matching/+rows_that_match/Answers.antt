use Rattle.std.proofs.Common.{◌≡◌, true, false, replicate, length, ◌∙◌, ap, sym}
use Rattle.std.proofs.lemmas.List.{length-replicate, length-map}
use Rattle.rt_model.specs.Condition.{tree_of}
use Rattle.rt_model.specs.Match.{matches}
use Rattle.rt_model.specs.Tree.{trees, And, Or, Not}
use Rattle.rt_seek.specs.Table.{rows_by}
use Rattle.rt_seek.proofs.Sets.{length_both, length_either}
use Rattle.rt_scan.proofs.Filters.{all_start, all_step, all_end, any_start, any_step, any_end, not_end, length_rows}
use Rattle.rt_scan.proofs.matching.+rows_that_match.Goals as goal

pub loop-part-init : goal.loop-part-init
loop-part-init g t c =
    let rows = rows_by g.C.ScanColumn.values c.args.columns.now c.args.rows in
    let count = length_rows g.C.ScanColumn.values c.args.columns.now c.args.rows in
    record {
      met = all_start rows c.deref-part-items.result.now c.in_ok-set-in-And.set (c.in_ok-set-in-And.ensures {u = tt} ∙ ap (λ n. replicate n true) (sym count));
      count = ap length (c.in_ok-set-in-And.ensures {u = tt}) ∙ length-replicate c.args.rows true;
    }

pub and-requires : goal.and-requires
and-requires g t c =
    c.loop-part.invariant.count
    ∙ sym (ap length (c.in_ok-others-in-And.ensures {u = tt}) ∙ length-map (rows_by g.C.ScanColumn.values c.args.columns.now c.args.rows) (matches c.part-item.result) ∙ length_rows g.C.ScanColumn.values c.args.columns.now c.args.rows)

pub loop-part-preserved : goal.loop-part-preserved
loop-part-preserved g t c =
    let rows = rows_by g.C.ScanColumn.values c.args.columns.now c.args.rows in
    let count = length_rows g.C.ScanColumn.values c.args.columns.now c.args.rows in
    let others : length c.in_ok-others-in-And.others ≡ c.args.rows = ap length (c.in_ok-others-in-And.ensures {u = tt}) ∙ length-map rows (matches c.part-item.result) ∙ count in
    record {
      met = all_step rows c.loop-part.set c.in_ok-others-in-And.others c.and.new.self _ c.deref-part-items.result.now c.loop-part.part-index c.part-item.result
          c.and.ensures (c.in_ok-others-in-And.ensures {u = tt}) c.loop-part-test.true c.part-item.is c.loop-part.invariant.met;
      count = ap length c.and.ensures ∙ length_both c.loop-part.set c.in_ok-others-in-And.others (c.loop-part.invariant.count ∙ sym others) ∙ c.loop-part.invariant.count;
    }

pub loop-part-2-init : goal.loop-part-2-init
loop-part-2-init g t c =
    let rows = rows_by g.C.ScanColumn.values c.args.columns.now c.args.rows in
    let count = length_rows g.C.ScanColumn.values c.args.columns.now c.args.rows in
    record {
      met = any_start rows c.deref-part-items-in-Or.result.now c.in_ok-set-in-Or.set (c.in_ok-set-in-Or.ensures {u = tt} ∙ ap (λ n. replicate n false) (sym count));
      count = ap length (c.in_ok-set-in-Or.ensures {u = tt}) ∙ length-replicate c.args.rows false;
    }

pub or-requires : goal.or-requires
or-requires g t c =
    c.loop-part-2.invariant.count
    ∙ sym (ap length (c.in_ok-others-in-Or.ensures {u = tt}) ∙ length-map (rows_by g.C.ScanColumn.values c.args.columns.now c.args.rows) (matches c.part-item-in-loop-part-2.result) ∙ length_rows g.C.ScanColumn.values c.args.columns.now c.args.rows)

pub loop-part-2-preserved : goal.loop-part-2-preserved
loop-part-2-preserved g t c =
    let rows = rows_by g.C.ScanColumn.values c.args.columns.now c.args.rows in
    let count = length_rows g.C.ScanColumn.values c.args.columns.now c.args.rows in
    let others : length c.in_ok-others-in-Or.others ≡ c.args.rows = ap length (c.in_ok-others-in-Or.ensures {u = tt}) ∙ length-map rows (matches c.part-item-in-loop-part-2.result) ∙ count in
    record {
      met = any_step rows c.loop-part-2.set c.in_ok-others-in-Or.others c.or.new.self _ c.deref-part-items-in-Or.result.now c.loop-part-2.part-index c.part-item-in-loop-part-2.result
          c.or.ensures (c.in_ok-others-in-Or.ensures {u = tt}) c.loop-part-2-test.true c.part-item-in-loop-part-2.is c.loop-part-2.invariant.met;
      count = ap length c.or.ensures ∙ length_either c.loop-part-2.set c.in_ok-others-in-Or.others (c.loop-part-2.invariant.count ∙ sym others) ∙ c.loop-part-2.invariant.count;
    }

pub returns-in_ok-set-in-Not : goal.returns-in_ok-set-in-Not
returns-in_ok-set-in-Not g t c =
    not_end (rows_by g.C.ScanColumn.values c.args.columns.now c.args.rows) c.args.predicate.now _ c.in_ok-set-in-Not.set c.not.new.self (ap Not c.deref.ensures ∙ ap tree_of (sym c.in-Not.is) ∙ c.condition.ensures) (c.in_ok-set-in-Not.ensures {u = tt}) c.not.ensures

pub returns-after-loop-part : goal.returns-after-loop-part
returns-after-loop-part g t c =
    all_end (rows_by g.C.ScanColumn.values c.args.columns.now c.args.rows) c.args.predicate.now c.loop-part.set c.deref-part-items.result.now c.loop-part.part-index
    (ap (λ ps. And (trees ps)) c.deref-part-items.ensures.value ∙ ap tree_of (sym c.in-And.is) ∙ c.condition.ensures)
    (c.loop-part.invariant.count ∙ sym (length_rows g.C.ScanColumn.values c.args.columns.now c.args.rows)) c.loop-part-test.false c.loop-part.invariant.met

pub returns-after-loop-part-2 : goal.returns-after-loop-part-2
returns-after-loop-part-2 g t c =
    any_end (rows_by g.C.ScanColumn.values c.args.columns.now c.args.rows) c.args.predicate.now c.loop-part-2.set c.deref-part-items-in-Or.result.now c.loop-part-2.part-index
    (ap (λ ps. Or (trees ps)) c.deref-part-items-in-Or.ensures.value ∙ ap tree_of (sym c.in-Or.is) ∙ c.condition.ensures)
    (c.loop-part-2.invariant.count ∙ sym (length_rows g.C.ScanColumn.values c.args.columns.now c.args.rows)) c.loop-part-2-test.false c.loop-part-2.invariant.met
