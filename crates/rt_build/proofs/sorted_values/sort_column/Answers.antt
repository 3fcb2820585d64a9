use Rattle.std.proofs.Common.{refl, sym, ◌∙◌, take}
use Rattle.std.proofs.lemmas.List.{take-map}
use Rattle.rt_schema.specs.declared.value.Value.TheVariants as value
use Rattle.rt_dict.specs.Order.{int_order, bool_order, text_order}
use Rattle.rt_build.proofs.Standing.{values_standing, known_standing, used_standing}
use Rattle.rt_build.proofs.sorted_values.sort_column.Goals as goal

pub returns-in_ok-sorted-in-Int : goal.returns-in_ok-sorted-in-Int
returns-in_ok-sorted-in-Int c =
    let s = c.in_ok-sorted-in-Int.sorted in
    rw c.in-Int.is (record {
      kind = refl;
      values = values_standing (λ x. value.Int x) s.dictionary s.ids (take c.args.rows c.in-Int.arrivals) c.in_ok-sorted-in-Int.ensures.identified
          ∙ sym (take-map (λ x. value.Int x) c.args.rows c.in-Int.arrivals);
      known = known_standing (λ x. value.Int x) s.dictionary s.ids (take c.args.rows c.in-Int.arrivals) c.in_ok-sorted-in-Int.ensures.identified;
      used = used_standing int_order (take c.args.rows c.in-Int.arrivals) s.dictionary s.ids c.in_ok-sorted-in-Int.ensures;
    })

pub returns-in_ok-sorted-in-Long : goal.returns-in_ok-sorted-in-Long
returns-in_ok-sorted-in-Long c =
    let s = c.in_ok-sorted-in-Long.sorted in
    rw c.in-Long.is (record {
      kind = refl;
      values = values_standing (λ x. value.Long x) s.dictionary s.ids (take c.args.rows c.in-Long.arrivals) c.in_ok-sorted-in-Long.ensures.identified
          ∙ sym (take-map (λ x. value.Long x) c.args.rows c.in-Long.arrivals);
      known = known_standing (λ x. value.Long x) s.dictionary s.ids (take c.args.rows c.in-Long.arrivals) c.in_ok-sorted-in-Long.ensures.identified;
      used = used_standing int_order (take c.args.rows c.in-Long.arrivals) s.dictionary s.ids c.in_ok-sorted-in-Long.ensures;
    })

pub returns-in_ok-sorted-in-Text : goal.returns-in_ok-sorted-in-Text
returns-in_ok-sorted-in-Text c =
    let s = c.in_ok-sorted-in-Text.sorted in
    rw c.in-Text.is (record {
      kind = refl;
      values = values_standing (λ x. value.Text x) s.dictionary s.ids (take c.args.rows c.in-Text.arrivals) c.in_ok-sorted-in-Text.ensures.identified
          ∙ sym (take-map (λ x. value.Text x) c.args.rows c.in-Text.arrivals);
      known = known_standing (λ x. value.Text x) s.dictionary s.ids (take c.args.rows c.in-Text.arrivals) c.in_ok-sorted-in-Text.ensures.identified;
      used = used_standing text_order (take c.args.rows c.in-Text.arrivals) s.dictionary s.ids c.in_ok-sorted-in-Text.ensures;
    })

pub returns-in_ok-sorted-in-Bool : goal.returns-in_ok-sorted-in-Bool
returns-in_ok-sorted-in-Bool c =
    let s = c.in_ok-sorted-in-Bool.sorted in
    rw c.in-Bool.is (record {
      kind = refl;
      values = values_standing (λ x. value.Bool x) s.dictionary s.ids (take c.args.rows c.in-Bool.arrivals) c.in_ok-sorted-in-Bool.ensures.identified
          ∙ sym (take-map (λ x. value.Bool x) c.args.rows c.in-Bool.arrivals);
      known = known_standing (λ x. value.Bool x) s.dictionary s.ids (take c.args.rows c.in-Bool.arrivals) c.in_ok-sorted-in-Bool.ensures.identified;
      used = used_standing bool_order (take c.args.rows c.in-Bool.arrivals) s.dictionary s.ids c.in_ok-sorted-in-Bool.ensures;
    })

pub returns-in_ok-sorted-in-Time : goal.returns-in_ok-sorted-in-Time
returns-in_ok-sorted-in-Time c =
    let s = c.in_ok-sorted-in-Time.sorted in
    rw c.in-Time.is (record {
      kind = refl;
      values = values_standing (λ x. value.Time x) s.dictionary s.ids (take c.args.rows c.in-Time.arrivals) c.in_ok-sorted-in-Time.ensures.identified
          ∙ sym (take-map (λ x. value.Time x) c.args.rows c.in-Time.arrivals);
      known = known_standing (λ x. value.Time x) s.dictionary s.ids (take c.args.rows c.in-Time.arrivals) c.in_ok-sorted-in-Time.ensures.identified;
      used = used_standing int_order (take c.args.rows c.in-Time.arrivals) s.dictionary s.ids c.in_ok-sorted-in-Time.ensures;
    })
