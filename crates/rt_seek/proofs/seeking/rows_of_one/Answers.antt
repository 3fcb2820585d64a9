use Rattle.std.proofs.Common.{◌≡◌, ◌+◌, List, length, map, take, false, Some, ap, sym, subst, ◌∙◌, arith}
use Rattle.std.proofs.lemmas.List.{length-take, length-replicate}
use Rattle.rt_schema.specs.declared.value.Value.{Value}
use Rattle.rt_model.specs.declared.query_parts.Comparison.TheVariants.{Equal}
use Rattle.rt_model.specs.Match.{compares}
use Rattle.rt_mutable.specs.Column.{same_value, kind_in}
use Rattle.rt_mutable.specs.RowLists.{numbers_where}
use Rattle.rt_seek.specs.RowSets.{with_rows}
use Rattle.rt_seek.specs.Sought.{value_sought}
use Rattle.rt_seek.proofs.Posted.{length_with_rows}
use Rattle.rt_seek.proofs.Sought.{found_with, found_start, found_more, found_end, equal_in, kind_sought}
use Rattle.rt_seek.proofs.seeking.rows_of_one.Goals as goal
use Rattle.rt_seek.proofs.seeking.rows_of_one.Goals.{In-Some}

-- the value is the one that the literal equals
is_sought : (c : In-Some) → value_sought (kind_in c.values-values.result.now) c.literal-item.result ≡ Some c.in-Some.value
is_sought c = ap (λ k. value_sought k c.literal-item.result) (sym c.kind.ensures) ∙ sym (c.in_ok-value.ensures {u = tt}) ∙ c.in-Some.is

pub docs_equal-requires-clause-kind : goal.docs_equal-requires-clause-kind
docs_equal-requires-clause-kind c = kind_sought (kind_in c.values-values.result.now) c.literal-item.result c.in-Some.value (is_sought (goal.at.docs_equal-requires-clause-kind c).In-Some) ∙ c.values-values.ensures.kind

pub loop-literal-init : goal.loop-literal-init
loop-literal-init c =
    let xs = c.args.column.now.values in
    let rows = c.args.rows in
    let count : c.min-count.result ≡ length (take rows xs) = omega (arith, c.min-count.ensures, c.rows.ensures, ap length c.values-values.ensures.values, length-take rows xs) in
    record {
      found = ap (found_with xs rows c.args.literals.now 0) (c.in_ok-set.ensures {u = tt}) ∙ found_start xs rows c.args.literals.now c.min-count.result count;
      size = ap length (c.in_ok-set.ensures {u = tt}) ∙ length-replicate c.min-count.result false ∙ count;
    }

pub loop-literal-preserved : goal.loop-literal-preserved
loop-literal-preserved c =
    let xs = c.args.column.now.values in
    let rows = c.args.rows in
    let s = c.loop-literal.set in
    let l = c.literal-item.result in
    let v = c.in-Some.value in
    let equal : map (same_value v) (take rows xs) ≡ map (λ x. compares Equal x l) (take rows xs) =
    subst (λ (ys : List Value). map (same_value v) (take rows ys) ≡ map (λ x. compares Equal x l) (take rows ys)) c.values-values.ensures.values (equal_in c.values-values.result.now l v rows (is_sought (goal.at.loop-literal-preserved c).In-Some)) in
    let new : c.add_rows.new.set ≡ with_rows s (numbers_where (same_value v) xs) = c.add_rows.ensures ∙ ap (with_rows s) c.docs_equal.ensures in
    record {
      found = ap (found_with xs rows c.args.literals.now (c.loop-literal.literal-index + 1)) new
          ∙ found_more xs rows c.args.literals.now s c.loop-literal.literal-index l v c.loop-literal.invariant.size c.loop-literal-test.true c.literal-item.is equal
          ∙ c.loop-literal.invariant.found;
      size = ap length new ∙ length_with_rows s (numbers_where (same_value v) xs) ∙ c.loop-literal.invariant.size;
    }

pub returns : goal.returns
returns c = found_end c.args.column.now.values c.args.rows c.args.literals.now c.loop-literal.set c.loop-literal.literal-index c.loop-literal.invariant.size c.loop-literal-test.false c.loop-literal.invariant.found
