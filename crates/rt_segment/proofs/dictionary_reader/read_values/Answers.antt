use Rattle.std.proofs.Common.{◌≡◌, true, false, [], ◌∷◌, ◌++◌, sym, ap, ◌∙◌, arith}
use Rattle.std.specs.Prelude.{if◌then◌else◌}
use Rattle.std.proofs.lemmas.List.{length_push}
use Rattle.std.proofs.lemmas.Result.{err_from_is_err_and}
use Rattle.rt_dict.specs.Values.{is_past_last}
use Rattle.rt_segment.proofs.Faults.{refuses_itself, breaks}
use Rattle.rt_segment.proofs.Loops.{value_taken, value_wrong, value_refused, values_done}
use Rattle.rt_segment.proofs.dictionary_reader.read_values.Goals as goal

pub returns-in_err-value-clause-read : goal.returns-in_err-value-clause-read
returns-in_err-value-clause-read g c =
    let p = err_from_is_err_and c.from_residual.result c.from_residual.ensures.1 in
    rw (p.1, p.2) (value_refused g.K.Key.below g.K.Stored.at c.loop-value.dict c.args.count c.loop-value._value c.loop-value.cursor _ _ c.loop-value-test.true c.in_err-value.ensures c.loop-value.invariant.so_far)

pub returns-then-not-branch-clause-read : goal.returns-then-not-branch-clause-read
returns-then-not-branch-clause-read g c =
    let told : c.in_ok-push.field-0 ≡ false = cc in
    let answer : is_past_last g.K.Key.below c.loop-value.dict c.in_ok-value.value ≡ false = sym c.in_ok-push.ensures.added ∙ told in
    refuses_itself c.breach-wrong.result _ (value_wrong g.K.Key.below g.K.Stored.at c.loop-value.dict c.args.count c.loop-value._value c.loop-value.cursor c.in_ok-value.value c.read.new.cursor _ c.loop-value-test.true c.in_ok-value.ensures answer c.loop-value.invariant.so_far ∙ breaks _ _ (sym c.breach-wrong.ensures))

pub loop-value-preserved : goal.loop-value-preserved
loop-value-preserved g c =
    let told : c.in_ok-push.field-0 ≡ true = cc in
    let answer : is_past_last g.K.Key.below c.loop-value.dict c.in_ok-value.value ≡ true = sym c.in_ok-push.ensures.added ∙ told in
    let items : c.push.new.self ≡ c.loop-value.dict ++ c.in_ok-value.value ∷ [] = c.in_ok-push.ensures.values ∙ ap (λ b. if b then c.loop-value.dict ++ c.in_ok-value.value ∷ [] else c.loop-value.dict) told in
    rw items (record {
      count = omega (arith, length_push c.loop-value.dict c.in_ok-value.value, c.loop-value.invariant.count);
      so_far = value_taken g.K.Key.below g.K.Stored.at c.loop-value.dict c.args.count c.loop-value._value c.loop-value.cursor c.in_ok-value.value c.read.new.cursor _ c.loop-value-test.true c.in_ok-value.ensures answer c.loop-value.invariant.so_far;
    })

pub returns-clause-read : goal.returns-clause-read
returns-clause-read g c = values_done g.K.Key.below g.K.Stored.at c.loop-value.dict c.args.count c.loop-value._value c.loop-value.cursor _ c.loop-value-test.false c.loop-value.invariant.so_far
