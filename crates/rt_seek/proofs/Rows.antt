-- Sets of rows, row by row.
use Rattle.std.proofs.Common.{◌≡◌, ℕ, zero, suc, ◌+◌, ◌-◌, ◌<◌, Bool, true, false, not, List, [], ◌∷◌, ◌++◌, length, map, take, replicate, get_or, refl, ap, sym, ◌∙◌, arith}
use Rattle.std.proofs.lemmas.List.{set_at, append_assoc, length-map, length-take-le}
use Rattle.rt_seek.specs.RowSets.{noted}
use Rattle.rt_seek.proofs.Sets.{map_take_more}

pub all_of : (n : ℕ) → map not (replicate n false) ≡ replicate n true
all_of zero = refl
all_of (suc n) = ap (λ bs. true ∷ bs) (all_of n)

-- a row at the place after those that are told
noted_at : (p : List Bool) (ys : List Bool) (i : ℕ) (b : Bool) → length p ≡ i → noted (p ++ false ∷ ys) i b ≡ p ++ b ∷ ys
noted_at p ys i true e = set_at p false ys true i e
noted_at p ys i false e = refl

rest_is : (n i : ℕ) → i < n → replicate (n - i) false ≡ false ∷ replicate (n - (i + 1)) false
rest_is n i h = let e : n - i ≡ suc (n - (i + 1)) = omega arith in ap (λ m. replicate m false) e

pub noted_more : (f : ℕ → Bool) (ids : List ℕ) (i id : ℕ) (set' : List Bool) → i < length ids → f (get_or ids i id) ≡ f id → set' ≡ map f (take i ids) ++ replicate (length ids - i) false →
    noted set' i (f id) ≡ map f (take (i + 1) ids) ++ replicate (length ids - (i + 1)) false
noted_more f ids i id set' h here so_far =
    let front : length (map f (take i ids)) ≡ i = length-map (take i ids) f ∙ length-take-le i ids (omega (arith, h)) in
    ap (λ s. noted s i (f id)) (so_far ∙ ap (λ r. map f (take i ids) ++ r) (rest_is (length ids) i h))
    ∙ noted_at (map f (take i ids)) (replicate (length ids - (i + 1)) false) i (f id) front
    ∙ sym (append_assoc (map f (take i ids)) (f id ∷ []) (replicate (length ids - (i + 1)) false))
    ∙ ap (λ s. s ++ replicate (length ids - (i + 1)) false) (ap (λ b. map f (take i ids) ++ b ∷ []) (sym here) ∙ sym (map_take_more f ids i id h))
