use Rattle.std.proofs.Common.{arith}
use Rattle.std.proofs.lemmas.List.{length-map}
use Rattle.std.proofs.lemmas.List.Sorted.{length_permutation}
use Rattle.std.proofs.lemmas.Result.{IfOk-weaker}
use Rattle.rt_dict.proofs.Distinct.{distinct_from_permutation}
use Rattle.rt_dict.proofs.Numbering.{are_ids, in_both}
use Rattle.rt_dict.proofs.dict.Dict.identify.Goals as goal

pub number-requires-clause-few : goal.number-requires-clause-few
number-requires-clause-few g c =
    let sorted = c.in_ok-sorted.sorted.items in
    omega (arith, c.requires, length_permutation _ _ c.in_ok-sorted.ensures.keys, length-map sorted (λ p. p.key))

pub returns-clause-distinct : goal.returns-clause-distinct
returns-clause-distinct g c =
    IfOk-weaker c.number.result _ _ (λ i. distinct_from_permutation g.K.Key.below c.args.values.now _ i.dictionary c.in_ok-sorted.ensures.keys) c.number.ensures.distinct

pub returns-clause-ids : goal.returns-clause-ids
returns-clause-ids g c =
    in_both _ _ _ (λ i size leads. are_ids (λ p. p.key) (λ p. p.place) c.args.values.now c.in_ok-sorted.sorted.items c.in_ok-sorted.ensures.beside c.in_ok-sorted.ensures.places i.dictionary i.ids size leads)
    c.number.result c.number.ensures.size c.number.ensures.ids
