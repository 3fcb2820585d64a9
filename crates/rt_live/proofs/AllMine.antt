-- Who has the numbers of all callers has every entry.
use Rattle.std.proofs.Common.{◌≡◌, ◌∙◌, ℕ, zero, suc, ◌+◌, ◌<◌, ◌≤◌, ◌||◌, ◌==◌, Bool, true, false, cond, IfOk, List, [], ◌∷◌, Result, Ok, Err, ap, refl, sym, arith}
use Rattle.std.specs.List.{range_with_len}
use Rattle.std.proofs.lemmas.Bool.{eqb-false}
use Rattle.std.proofs.lemmas.List.Elements.{All-rest}
use Rattle.rt_front.specs.Histories.{Known, known, mine, stands}
use Rattle.rt_front.specs.declared.entry.Entry.{Entry}
use Rattle.rt_ground.specs.Histories.{AreOfCallers, SeesMore}
use Rattle.rt_ground.specs.StoreCalls.{ShowsAll, seen_by}
use Rattle.rt_live_names.specs.Fronts.{Fronts, fronts}
use Rattle.rt_model.specs.Starting.{Starting}
use Rattle.rt_model.specs.declared.node.Seen.{Seen}

-- a number of a range stands in it
stands_in : (first count k : ℕ) → first ≤ k → k < first + count → stands k (range_with_len first count) ≡ true
stands_in first zero k low high = absurd (omega (arith, low, high))
stands_in first (suc count) k low high =
    found (first == k) first count k refl (λ other. stands_in (first + 1) count k (omega (arith, low, eqb-false first k other)) (omega (arith, high)))
  where
    found : (b : Bool) (first count k : ℕ) → (first == k) ≡ b → ((first == k) ≡ false → stands k (range_with_len (first + 1) count) ≡ true)
        → (b || stands k (range_with_len (first + 1) count)) ≡ true
    found true first count k same later = refl
    found false first count k other later = later other

module _ {T : Type 0} where
  pub all_mine : (n : ℕ) (log : List (Entry T)) → AreOfCallers n log → mine (range_with_len 0 n) log ≡ log
  all_mine n [] a = refl
  all_mine n (e ∷ es) a =
      let rest = mine (range_with_len 0 n) es in
      let low : e.front < n = a 0 e (omega arith) in
      ap (λ (b : Bool). cond b (e ∷ rest) rest) (stands_in 0 n e.front (omega arith) (omega (arith, low)))
      ∙ ap (λ (xs : List (Entry T)). e ∷ xs) (all_mine n es (All-rest (λ (e : Entry T). e.front < n) e es (e ∷ es) refl a))

  -- so it sees no more as it is told what there is
  pub sees_no_more : (n : ℕ) (old new : Known T) → old.numbers ≡ range_with_len 0 n → AreOfCallers n old.seen → AreOfCallers n new.seen → SeesMore old new → new ≡ old
  sees_no_more n old new numbers all all_new sees =
      let front = sees.told.front in
      let mine_new : mine new.numbers new.seen ≡ mine old.numbers old.seen = sees.told.mine in
      let same : new.seen ≡ old.seen =
      sym (all_mine n new.seen all_new)
      ∙ ap (λ (ns : List ℕ). mine ns new.seen) (sym (ap (λ (k : Known T). k.numbers) front ∙ numbers))
      ∙ mine_new
      ∙ ap (λ (ns : List ℕ). mine ns old.seen) numbers
      ∙ all_mine n old.seen all in
      front ∙ ap (λ (log : List (Entry T)). known old.chronicle log old.numbers) (sym (ap (λ (k : Known T). k.seen) front) ∙ same)

-- what it is then shown is what it knew before
pub shows_whole : {X E : Type 0} (items : X → List Seen) (s : Starting) (old new : Known Seen) (r : Result X E) → new ≡ old
    → IfOk r (λ x. ShowsAll s old new (items x)) → IfOk r (λ x. items x ≡ seen_by s old)
shows_whole items s old new (Ok x) same k = k.whole ∙ ap (seen_by s) same
shows_whole items s old new (Err e) same k = tt

pub same_fronts : (old new : Fronts) → new.store ≡ old.store → new.deep ≡ old.deep → new.stream ≡ old.stream → new ≡ old
same_fronts old new store deep stream =
    ap (λ (f : Known Seen). fronts f new.deep new.stream) store
    ∙ ap (λ f. fronts old.store f new.stream) deep
    ∙ ap (λ f. fronts old.store old.deep f) stream
