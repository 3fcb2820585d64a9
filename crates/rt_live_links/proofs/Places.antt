-- Lists of which each item gets the one at its place in other lists.
use Rattle.std.proofs.Common.{◌≡◌, ℕ, zero, suc, ◌+◌, ◌<◌, ◌≤◌, List, [], ◌∷◌, ◌++◌, length, map, get_or, refl, sym, ap}
use Rattle.std.proofs.Common.{subst, ◌∙◌, arith, Some, slice_get, slice_set}
use Rattle.std.specs.List.{All, fold}
use Rattle.std.proofs.Math.Seq.{map-set_same}
use Rattle.std.proofs.lemmas.List.{map-append, append_assoc, length-map}
use Rattle.std.proofs.lemmas.List.Elements.{All-head, All-tail, All-weaker}
use Rattle.std.proofs.lemmas.Option.{get_or_from_slice_get, none-some, same_Some, slice_get-get_or, slice_get_within}
use Rattle.rt_lists.specs.Members.{IsFront}
use Rattle.rt_live_links.specs.Rows.{column, onto, onto_all, with_found}

-- ---- what stands at a place

-- something stands at each place of a list
pub stands : {X : Type 0} (xs : List X) (k : ℕ) → k < length xs → (x : X) × (slice_get xs k ≡ Some x)
stands [] k lt = absurd (omega (arith, lt))
stands (x ∷ xs) zero lt = (x, refl)
stands (x ∷ xs) (suc k) lt = stands xs k (omega (arith, lt))

-- what holds of each that stands somewhere holds of all
pub all_found : {X : Type 0} (P : X → Type 0) (xs : List X) → ((k : ℕ) (x : X) → slice_get xs k ≡ Some x → P x)
    → All P xs
all_found P xs each k d lt = each k (get_or xs k d) (slice_get-get_or xs k d lt)

pub mapped : {X Y : Type 0} (f : X → Y) (xs : List X) (k : ℕ) (x : X) → slice_get xs k ≡ Some x
    → slice_get (map f xs) k ≡ Some (f x)
mapped f [] k x at = absurd (none-some x at)
mapped f (y ∷ xs) zero x at = ap (λ z. Some (f z)) (same_Some y x at)
mapped f (y ∷ xs) (suc k) x at = mapped f xs k x at

-- of what an image that stands at a place is the image
pub unmapped : {X Y : Type 0} (f : X → Y) (xs : List X) (k : ℕ) (y : Y) → slice_get (map f xs) k ≡ Some y
    → (x : X) × (slice_get xs k ≡ Some x) × (y ≡ f x)
unmapped f [] k y at = absurd (none-some y at)
unmapped f (x ∷ xs) zero y at = (x, refl, sym (same_Some (f x) y at))
unmapped f (x ∷ xs) (suc k) y at = unmapped f xs k y at

-- two lists with the same images at each place
pub alike : {X Y Z : Type 0} (f : X → Z) (g : Y → Z) (xs : List X) (ys : List Y) → length xs ≡ length ys
    → ((k : ℕ) (x : X) (y : Y) → slice_get xs k ≡ Some x → slice_get ys k ≡ Some y → f x ≡ g y) → map f xs ≡ map g ys
alike f g [] [] same each = refl
alike f g [] (y ∷ ys) same each = absurd (omega (arith, same))
alike f g (x ∷ xs) [] same each = absurd (omega (arith, same))
alike f g (x ∷ xs) (y ∷ ys) same each =
    ap (λ z. z ∷ map f xs) (each 0 x y refl refl)
    ∙ ap (λ zs. g y ∷ zs) (alike f g xs ys (omega (arith, same)) (λ k a b at there. each (suc k) a b at there))

-- one item is replaced by one with the same image
pub replaced : {X Y : Type 0} (f : X → Y) (xs : List X) (k : ℕ) (x v : X) → slice_get xs k ≡ Some x → f v ≡ f x
    → map f (slice_set xs k v) ≡ map f xs
replaced f xs k x v at same = map-set_same f xs k v x (same ∙ ap f (sym (get_or_from_slice_get xs k x x at)))

-- what holds from a place on, where the item before it is replaced by one of which it holds
pub holds_from : {X : Type 0} (P : X → Type 0) (xs : List X) (n : ℕ) (v : X) → P v
    → ((k : ℕ) (x : X) → n + 1 ≤ k → slice_get xs k ≡ Some x → P x)
    → (k : ℕ) (x : X) → n ≤ k → slice_get (slice_set xs n v) k ≡ Some x → P x
holds_from P [] n v here later k x past at = absurd (none-some x at)
holds_from P (y ∷ xs) zero v here later zero x past at = subst P (same_Some v x at) here
holds_from P (y ∷ xs) zero v here later (suc k) x past at = later (suc k) x (omega arith) at
holds_from P (y ∷ xs) (suc n) v here later zero x past at = absurd (omega (arith, past))
holds_from P (y ∷ xs) (suc n) v here later (suc k) x past at =
    holds_from P xs n v here (λ j z le there. later (suc j) z (omega (arith, le)) there) k x (omega (arith, past)) at

-- ---- one row

-- the last item goes first: no other goes to its place
onto_last : {X Y : Type 0} (f : X → Y → X) (xs : List X) (ys : List Y) (x : X) (y : Y)
    → slice_get xs (length ys) ≡ Some x
    → onto f (slice_set xs (length ys) (f x y)) ys ≡ onto f xs (ys ++ y ∷ [])
onto_last f [] ys x y at = absurd (none-some x at)
onto_last f (z ∷ xs) [] x y at = ap (λ a. f a y ∷ xs) (sym (same_Some z x at))
onto_last f (z ∷ xs) (w ∷ ys) x y at = ap (λ l. f z w ∷ l) (onto_last f xs ys x y at)

pub onto_more : {X Y : Type 0} (f : X → Y → X) (xs : List X) (before after : List Y) (n : ℕ) (x v : X) (y : Y)
    → before ≡ after ++ y ∷ [] → n ≡ length after
    → slice_get xs n ≡ Some x → v ≡ f x y → onto f (slice_set xs n v) after ≡ onto f xs before
onto_more f xs before after n x v y popped is at made =
    ap (λ k. onto f (slice_set xs k v) after) is
    ∙ ap (λ u. onto f (slice_set xs (length after) u) after) made
    ∙ onto_last f xs after x y (ap (λ k. slice_get xs k) (sym is) ∙ at)
    ∙ ap (λ l. onto f xs l) (sym popped)

pub length-onto : {X Y : Type 0} (f : X → Y → X) (xs : List X) (ys : List Y) → length (onto f xs ys) ≡ length xs
length-onto f [] [] = refl
length-onto f [] (y ∷ ys) = refl
length-onto f (x ∷ xs) [] = refl
length-onto f (x ∷ xs) (y ∷ ys) = ap suc (length-onto f xs ys)

-- what no item changes stays as it is of all
pub onto_keeps : {X Y Z : Type 0} (f : X → Y → X) (g : X → Z) → ((x : X) (y : Y) → g (f x y) ≡ g x)
    → (xs : List X) (ys : List Y) → map g (onto f xs ys) ≡ map g xs
onto_keeps f g keeps [] [] = refl
onto_keeps f g keeps [] (y ∷ ys) = refl
onto_keeps f g keeps (x ∷ xs) [] = refl
onto_keeps f g keeps (x ∷ xs) (y ∷ ys) =
    ap (λ z. z ∷ map g (onto f xs ys)) (keeps x y) ∙ ap (λ zs. g x ∷ zs) (onto_keeps f g keeps xs ys)

pub record Got {X Y : Type 0} (f : X → Y → X) (xs : List X) (ys : List Y) (k : ℕ) (z : X) : Type 0 where
  pub old : X
  pub item : Y
  pub was : slice_get xs k ≡ Some old
  pub at : slice_get ys k ≡ Some item
  pub is : z ≡ f old item

pub got : {X Y : Type 0} (f : X → Y → X) (xs : List X) (ys : List Y) (k : ℕ) (z : X) → length ys ≡ length xs
    → slice_get (onto f xs ys) k ≡ Some z → Got f xs ys k z
got f [] [] k z same at = absurd (none-some z at)
got f [] (y ∷ ys) k z same at = absurd (none-some z at)
got f (x ∷ xs) [] k z same at = absurd (omega (arith, same))
got f (x ∷ xs) (y ∷ ys) zero z same at = record {
  old = x;
  item = y;
  was = refl;
  at = refl;
  is = sym
      (same_Some (f x y) z at);
}
got f (x ∷ xs) (y ∷ ys) (suc k) z same at =
    let rest = got f xs ys k z (omega (arith, same)) at in
    record { old = rest.old; item = rest.item; was = rest.was; at = rest.at; is = rest.is }

-- the images of a row are those at the same places of a list, also where the row has fewer items
pub record FitsLast {X Y Z : Type 0} (f : Y → Z) (g : X → Z) (after : List Y) (y : Y) (xs : List X) : Type 0 where
  pub front : IsFront (map f after) (map g xs)
  pub within : length after < length xs
  pub same : (x : X) → slice_get xs (length after) ≡ Some x → f y ≡ g x

behind : {Z : Type 0} (l m : List Z) (z : Z) → slice_get (l ++ z ∷ m) (length l) ≡ Some z
behind [] m z = refl
behind (w ∷ l) m z = behind l m z

pub fits_last : {X Y Z : Type 0} (f : Y → Z) (g : X → Z) (before after : List Y) (y : Y) (xs : List X)
    → before ≡ after ++ y ∷ []
    → IsFront (map f before) (map g xs) → FitsLast f g after y xs
fits_last {Z = Z} f g before after y xs popped front =
    let more : List Z = front.0 in
    let whole : map g xs ≡ map f after ++ f y ∷ more =
    front.1
    ∙ ap (λ l. map f l ++ more) popped
    ∙ ap (λ l. l ++ more) (map-append f after (y ∷ []))
    ∙ append_assoc (map f after) (f y ∷ []) more in
    let there : slice_get (map g xs) (length after) ≡ Some (f y) =
    ap (λ l. slice_get l (length after)) whole
    ∙ ap (λ n. slice_get (map f after ++ f y ∷ more) n) (sym (length-map after f))
    ∙ behind (map f after) more (f y) in
    record {
      front = (f y ∷ more, whole);
      within = omega (arith, slice_get_within (map g xs) (length after) (f y) there, length-map xs g);
      same = λ x at. same_Some (f y) (g x) (sym there ∙ mapped g xs (length after) x at);
    }

-- ---- all rows

pub length-onto_all : {X Y : Type 0} (f : X → Y → X) (xs : List X) (rows : List (List Y))
    → length (onto_all f xs rows) ≡ length xs
length-onto_all f xs [] = refl
length-onto_all f xs (row ∷ rows) = length-onto_all f (onto f xs row) rows ∙ length-onto f xs row

pub column_more : {Y : Type 0} (k : ℕ) (row : List Y) (rows : List (List Y)) (y : Y) → slice_get row k ≡ Some y
    → column k (row ∷ rows) ≡ y ∷ column k rows
column_more k row rows y at = ap (λ o. with_found o (column k rows)) at

pub record GotAll {X Y : Type 0} (f : X → Y → X) (xs : List X) (rows : List (List Y)) (k : ℕ) (z : X) : Type 0 where
  pub old : X
  pub was : slice_get xs k ≡ Some old
  pub is : z ≡ fold f old (column k rows)

-- an item that got that of one row, and then the others
got_then : {X Y : Type 0} (f : X → Y → X) (k : ℕ) (row : List Y) (rows : List (List Y)) (old one z : X) (y : Y)
    → slice_get row k ≡ Some y → one ≡ f old y
    → z ≡ fold f one (column k rows) → z ≡ fold f old (column k (row ∷ rows))
got_then f k row rows old one z y at first others =
    others ∙ ap (λ x. fold f x (column k rows)) first ∙ ap (λ ys. fold f old ys) (sym (column_more k row rows y at))

-- each item got the column of its place, in the order of the rows
pub got_all : {X Y : Type 0} (f : X → Y → X) (xs : List X) (rows : List (List Y)) (k : ℕ) (z : X)
    → All (λ row. length row ≡ length xs) rows
    → slice_get (onto_all f xs rows) k ≡ Some z → GotAll f xs rows k z
got_all f xs [] k z same at = record { old = z; was = at; is = refl }
got_all {Y = Y} f xs (row ∷ rows) k z same at =
    let rest = got_all f (onto f xs row) rows k z
    (All-weaker (λ (r : List Y). length r ≡ length xs) (λ r. length r ≡ length (onto f xs row))
    (λ r e. e ∙ sym (length-onto f xs row)) rows
    (All-tail (λ (r : List Y). length r ≡ length xs) row rows same))
    at in
    let one = got f xs row k rest.old (All-head (λ (r : List Y). length r ≡ length xs) row rows same) rest.was in
    record {
      old = one.old;
      was = one.was;
      is = got_then f k row rows one.old rest.old z one.item one.at one.is rest.is;
    }
