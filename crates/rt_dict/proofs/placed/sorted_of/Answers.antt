use Rattle.std.proofs.Common.{map, subst, rules}
use Rattle.std.specs.List.Sorted.{IsPermutation}
use Rattle.std.proofs.lemmas.Fn.{always_returns_same}
use Rattle.std.proofs.lemmas.List.Sorted.{IsPermutation-map, All-permutation}
use Rattle.rt_dict.proofs.Distinct.{weak_order-by, sorted-map_by}
use Rattle.rt_dict.proofs.Numbering.{IsPlaced, came_placed}
use Rattle.rt_dict.proofs.placed.sorted_of.Goals as goal

pub returns-clause-sorted : goal.returns-clause-sorted
returns-clause-sorted g c =
    sorted-map_by g.met.K.Key.order (λ p. p.key) _ (c.sort_unstable_by.ensures.sorted _ (weak_order-by g.met.K.Key.order (λ p. p.key))
    (always_returns_same _ _ _ (λ a r f' k. search rules)))

pub returns-clause-keys : goal.returns-clause-keys
returns-clause-keys g c =
    subst (λ ks. IsPermutation ks (map (λ p. p.key) c.sort_unstable_by.new.self.items)) c.in_ok-sorted.ensures.keys (IsPermutation-map (λ p. p.key) _ _ c.sort_unstable_by.ensures.permutation)

pub returns-clause-places : goal.returns-clause-places
returns-clause-places g c =
    subst (λ ks. IsPermutation ks (map (λ p. p.place) c.sort_unstable_by.new.self.items)) c.in_ok-sorted.ensures.places (IsPermutation-map (λ p. p.place) _ _ c.sort_unstable_by.ensures.permutation)

pub returns-clause-beside : goal.returns-clause-beside
returns-clause-beside g c =
    All-permutation (IsPlaced (λ p. p.key) (λ p. p.place) c.args.keys.now) _ _ c.sort_unstable_by.ensures.permutation
    (came_placed (λ p. p.key) (λ p. p.place) c.args.keys.now _ c.in_ok-sorted.ensures.keys c.in_ok-sorted.ensures.places)
