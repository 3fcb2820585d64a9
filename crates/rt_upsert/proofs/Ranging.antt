-- What a range of ranks begins with.
use Rattle.std.proofs.Common.{◌≡◌, ◌≤◌, List, [], ◌∷◌, Bool, true, false, IsTrue, true≢false, Less, refl, sym, arith}
use Rattle.std.specs.Ordering.{int_cmp, ordering_then}
use Rattle.std.specs.declared.ops.Bound.TheVariants.{Excluded, Unbounded}
use Rattle.std.specs.BTreeSet.{BTreeSet, contains, IsKeyRangeOf}
use Rattle.rt_upsert.specs.declared.rank.Rank.{Rank}
use Rattle.rt_upsert.specs.Index.{rank_cmp}
use Rattle.rt_upsert.specs.Placed.{place_cmp}
use Rattle.rt_upsert.specs.Ranked.{HasLater, TellsLast}
use Rattle.rt_upsert.proofs.Orders.{up_from, below_is, not_so}

abbrev pub IsAbove : BTreeSet Rank → Rank → List Rank → Type 0
IsAbove ranks rank r = IsKeyRangeOf rank_cmp (Excluded rank) Unbounded ranks r

pub none_above : (ranks : BTreeSet Rank) (rank : Rank) → IsAbove ranks rank [] → TellsLast ranks rank true
none_above ranks rank above r same less = above.5 refl r (less, tt)

module _ (ranks : BTreeSet Rank) (rank next : Rank) (rest : List Rank) (above : IsAbove ranks rank (next ∷ rest)) where
  pub has_later : next.key ≡ rank.key → HasLater ranks rank
  has_later same = record { later = next; key = same; above = above.1.0.0; there = is_so (contains rank_cmp ranks next) above.1.1 }
    where
      is_so : (b : Bool) → IsTrue b → b ≡ true
      is_so true h = refl
      is_so false h = absurd (true≢false (sym h))

  pub no_later : (next.key ≡ rank.key → ⊥) → (r : Rank) → r.key ≡ rank.key → rank_cmp rank r ≡ Less → contains rank_cmp ranks r ≡ false
  no_later apart r same less = not_so (contains rank_cmp ranks r) clash
    where
      so : (b : Bool) → b ≡ true → IsTrue b
      so true h = refl
      so false h = absurd (true≢false (sym h))

      clash : contains rank_cmp ranks r ≡ true → ⊥
      clash there =
          let low : rank.key ≤ next.key = up_from rank.key next.key (ordering_then (int_cmp rank.compare next.compare) (place_cmp rank.place next.place)) (below_is (rank_cmp rank next) above.1.0.0) in
          let top : next.key ≤ r.key = up_from next.key r.key (ordering_then (int_cmp next.compare r.compare) (place_cmp next.place r.place)) (above.2 r (less, tt) (so (contains rank_cmp ranks r) there)) in
          let is : r.key ≡ rank.key = same in
          let number : next.key ≡ rank.key = omega (arith, low, top, is) in
          apart number

  pub tells : (b : Bool) → (b ≡ true → next.key ≡ rank.key → ⊥) → (b ≡ false → next.key ≡ rank.key) → TellsLast ranks rank b
  tells true apart same = no_later (apart refl)
  tells false apart same = has_later (same refl)
