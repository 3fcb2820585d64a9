-- Lists of which each item is as its place asks, and lists with the same images.
use Rattle.std.proofs.Common.{◌≡◌, ◌<◌, ◌⊎◌, inl, inr, ℕ, List, [], ◌∷◌, ◌++◌, length, map, Some, sym, ap, ◌∙◌}
use Rattle.std.proofs.Common.{subst, slice_get}
use Rattle.std.proofs.lemmas.List.{map-append}
use Rattle.rt_ground.proofs.Entries.{pushed_cases}
use Rattle.rt_lists.specs.Members.{Has}
use Rattle.rt_lists.proofs.Members.{Has-place}
use Rattle.rt_live_links.proofs.Places.{mapped, unmapped}
use Rattle.rt_live_join.specs.Left.{AreEach}

pub each_more : {X : Type 0} (Is : ℕ → X → Type 0) (xs : List X) (x : X) → AreEach Is xs → Is (length xs) x
    → AreEach Is (xs ++ x ∷ [])
each_more {X} Is xs x each is k y at = by_place (pushed_cases xs x k y at)
  where
    by_place : ((slice_get xs k ≡ Some y) × (k < length xs)) ⊎ ((k ≡ length xs) × (x ≡ y)) → Is k y
    by_place (inl earlier) = each k y earlier.0
    by_place (inr last) = subst (λ m. Is m y) (sym last.0) (subst (Is (length xs)) last.1 is)

-- what an image of a list has is the image of what stands somewhere in it
pub placed : {X Y : Type 0} (f : X → Y) (xs : List X) (y : Y) → Has (map f xs) y
    → (k : ℕ) × (x : X) × (slice_get xs k ≡ Some x) × (y ≡ f x)
placed f xs y has =
    let at = Has-place (map f xs) y has in
    let is = unmapped f xs at.0 y at.1 in
    (at.0, is.0, is.1, is.2)

-- ---- two lists with the same images

-- what stands in the other one at the same place
pub across : {X Y Z : Type 0} (f : X → Z) (g : Y → Z) (xs : List X) (ys : List Y) → map f xs ≡ map g ys
    → (k : ℕ) (x : X) → slice_get xs k ≡ Some x → (y : Y) × (slice_get ys k ≡ Some y) × (f x ≡ g y)
across {Z = Z} f g xs ys same k x at =
    unmapped g ys k (f x) (ap (λ (zs : List Z). slice_get zs k) (sym same) ∙ mapped f xs k x at)

-- one more image
pub image_more : {Y Z : Type 0} (g : Y → Z) (zs new : List Z) (ys : List Y) (z : Z) (y : Y) → zs ≡ map g ys
    → new ≡ zs ++ z ∷ [] → z ≡ g y → new ≡ map g (ys ++ y ∷ [])
image_more {Z = Z} g zs new ys z y same pushed one =
    pushed
    ∙ ap (λ (l : List Z). l ++ z ∷ []) same
    ∙ ap (λ (w : Z). map g ys ++ w ∷ []) one
    ∙ sym (map-append g ys (y ∷ []))

pub images_more : {X Y Z : Type 0} (f : X → Z) (g : Y → Z) (xs new : List X) (ys : List Y) (x : X) (y : Y)
    → map f xs ≡ map g ys → new ≡ xs ++ x ∷ [] → f x ≡ g y → map f new ≡ map g (ys ++ y ∷ [])
images_more f g xs new ys x y same pushed one =
    image_more g (map f xs) (map f new) ys (f x) y same (ap (map f) pushed ∙ map-append f xs (x ∷ [])) one
