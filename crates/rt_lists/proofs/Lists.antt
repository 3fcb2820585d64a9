-- Facts on lists that the crates above share.
use Rattle.std.proofs.Common.{◌≡◌, ℕ, List, Some, All, Contains, slice_get, slice_set, ap, sym, ◌∙◌, subst}
use Rattle.std.proofs.lemmas.Option.{get_or_from_slice_get, slice_get_within}
use Rattle.std.proofs.lemmas.List.{set-get_or}

-- writing back what stood at a place changes nothing
pub set_same : {X : Type 0} (xs : List X) (i : ℕ) (x : X) → slice_get xs i ≡ Some x → slice_set xs i x ≡ xs
set_same xs i x h =
    ap (λ y. slice_set xs i y) (sym (get_or_from_slice_get xs i x x h)) ∙ set-get_or xs i x

-- what holds of all items holds of one that was found
pub All-found :
    {X : Type 0} (P : X → Type 0) (xs : List X) (i : ℕ) (x : X) → All P xs → slice_get xs i ≡ Some x → P x
All-found P xs i x a h =
    subst P (get_or_from_slice_get xs i x x h) (a i x (slice_get_within xs i x h))

-- a list contains an item that was found in it
pub contains_found : {X : Type 0} (xs : List X) (i : ℕ) (x : X) → slice_get xs i ≡ Some x → Contains xs x
contains_found xs i x h = (i, slice_get_within xs i x h, get_or_from_slice_get xs i x x h)
