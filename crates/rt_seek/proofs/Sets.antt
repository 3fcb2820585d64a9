-- Lists of truths, place by place.
use Rattle.std.proofs.Common.{◌≡◌, ℕ, zero, suc, ◌+◌, ◌<◌, Bool, true, false, List, [], ◌∷◌, ◌++◌, length, map, take, replicate, get_or, refl, ap, ◌∙◌, arith}
use Rattle.std.specs.Prelude.{◌||◌, ◌&&◌, Result, Ok, Err, IfOk}
use Rattle.std.specs.List.{range_with_len}
use Rattle.std.proofs.lemmas.List.{take_more, map-append}
use Rattle.std.proofs.lemmas.List.FromFn.{map-range_with_len_more}
use Rattle.rt_postings.specs.DocSet.{both, either}

pub map_agree : {X Y : Type 0} (f g : X → Y) → ((x : X) → f x ≡ g x) → (xs : List X) → map f xs ≡ map g xs
map_agree f g same [] = refl
map_agree f g same (x ∷ xs) = ap (λ y. y ∷ map f xs) (same x) ∙ ap (λ ys. g x ∷ ys) (map_agree f g same xs)

pub map_map : {X Y Z : Type 0} (g : Y → Z) (f : X → Y) (xs : List X) → map g (map f xs) ≡ map (λ x. g (f x)) xs
map_map g f [] = refl
map_map g f (x ∷ xs) = ap (λ ys. g (f x) ∷ ys) (map_map g f xs)

-- a loop's step
pub map_range_more : {X : Type 0} (f : ℕ → X) (n : ℕ) → map f (range_with_len 0 (n + 1)) ≡ map f (range_with_len 0 n) ++ f n ∷ []
map_range_more f n = map-range_with_len_more f 0 n n (omega arith)

pub map_take_more : {X Y : Type 0} (f : X → Y) (xs : List X) (i : ℕ) (x : X) → i < length xs → map f (take (i + 1) xs) ≡ map f (take i xs) ++ f (get_or xs i x) ∷ []
map_take_more f xs i x h = ap (map f) (take_more xs i x h) ∙ map-append f (take i xs) (get_or xs i x ∷ [])

pub or_assoc : (a b c : Bool) → ((a || b) || c) ≡ (a || (b || c))
or_assoc true b c = refl
or_assoc false b c = refl

pub or_false : (a : Bool) → (a || false) ≡ a
or_false true = refl
or_false false = refl

and_true : (a : Bool) → (a && true) ≡ a
and_true true = refl
and_true false = refl

pub length_either : (xs ys : List Bool) → length xs ≡ length ys → length (either xs ys) ≡ length xs
length_either [] ys e = refl
length_either (x ∷ xs) [] e = absurd (omega (arith, e))
length_either (x ∷ xs) (y ∷ ys) e = let h : length xs ≡ length ys = omega (arith, e) in ap suc (length_either xs ys h)

pub get_or_either : (xs ys : List Bool) (k : ℕ) (d : Bool) → length xs ≡ length ys → k < length xs → get_or (either xs ys) k d ≡ (get_or xs k d || get_or ys k d)
get_or_either [] ys k d e h = absurd (omega (arith, h))
get_or_either (x ∷ xs) [] k d e h = absurd (omega (arith, e))
get_or_either (x ∷ xs) (y ∷ ys) zero d e h = refl
get_or_either (x ∷ xs) (y ∷ ys) (suc k) d e h = get_or_either xs ys k d (omega (arith, e)) (omega (arith, h))

pub either_assoc : (xs ys zs : List Bool) → either (either xs ys) zs ≡ either xs (either ys zs)
either_assoc [] ys zs = refl
either_assoc (x ∷ xs) [] zs = refl
either_assoc (x ∷ xs) (y ∷ ys) [] = refl
either_assoc (x ∷ xs) (y ∷ ys) (z ∷ zs) = ap (λ b. b ∷ either (either xs ys) zs) (or_assoc x y z) ∙ ap (λ bs. (x || (y || z)) ∷ bs) (either_assoc xs ys zs)

module _ {X : Type 0} where
  pub either_maps : (f g : X → Bool) (xs : List X) → either (map f xs) (map g xs) ≡ map (λ x. f x || g x) xs
  either_maps f g [] = refl
  either_maps f g (x ∷ xs) = ap (λ bs. (f x || g x) ∷ bs) (either_maps f g xs)

  pub both_maps : (f g : X → Bool) (xs : List X) → both (map f xs) (map g xs) ≡ map (λ x. f x && g x) xs
  both_maps f g [] = refl
  both_maps f g (x ∷ xs) = ap (λ bs. (f x && g x) ∷ bs) (both_maps f g xs)

  pub none_either : (f : X → Bool) (xs : List X) → either (replicate (length xs) false) (map f xs) ≡ map f xs
  none_either f [] = refl
  none_either f (x ∷ xs) = ap (λ bs. f x ∷ bs) (none_either f xs)

  pub either_none : (ts : List Bool) (xs : List X) → length ts ≡ length xs → either ts (map (λ x. false) xs) ≡ ts
  either_none [] xs e = refl
  either_none (t ∷ ts) [] e = absurd (omega (arith, e))
  either_none (t ∷ ts) (x ∷ xs) e = let h : length ts ≡ length xs = omega (arith, e) in
      ap (λ b. b ∷ either ts (map (λ y. false) xs)) (or_false t) ∙ ap (λ bs. t ∷ bs) (either_none ts xs h)

pub length_both : (xs ys : List Bool) → length xs ≡ length ys → length (both xs ys) ≡ length xs
length_both [] ys e = refl
length_both (x ∷ xs) [] e = absurd (omega (arith, e))
length_both (x ∷ xs) (y ∷ ys) e = let h : length xs ≡ length ys = omega (arith, e) in ap suc (length_both xs ys h)

and_assoc : (a b c : Bool) → ((a && b) && c) ≡ (a && (b && c))
and_assoc true b c = refl
and_assoc false b c = refl

pub both_assoc : (xs ys zs : List Bool) → both (both xs ys) zs ≡ both xs (both ys zs)
both_assoc [] ys zs = refl
both_assoc (x ∷ xs) [] zs = refl
both_assoc (x ∷ xs) (y ∷ ys) [] = refl
both_assoc (x ∷ xs) (y ∷ ys) (z ∷ zs) = ap (λ b. b ∷ both (both xs ys) zs) (and_assoc x y z) ∙ ap (λ bs. (x && (y && z)) ∷ bs) (both_assoc xs ys zs)

module _ {X : Type 0} where
  pub all_both : (f : X → Bool) (xs : List X) → both (replicate (length xs) true) (map f xs) ≡ map f xs
  all_both f [] = refl
  all_both f (x ∷ xs) = ap (λ bs. f x ∷ bs) (all_both f xs)

  pub both_all : (ts : List Bool) (xs : List X) → length ts ≡ length xs → both ts (map (λ x. true) xs) ≡ ts
  both_all [] xs e = refl
  both_all (t ∷ ts) [] e = absurd (omega (arith, e))
  both_all (t ∷ ts) (x ∷ xs) e = let h : length ts ≡ length xs = omega (arith, e) in
      ap (λ b. b ∷ both ts (map (λ y. true) xs)) (and_true t) ∙ ap (λ bs. t ∷ bs) (both_all ts xs h)

  pub map_constant : {Y : Type 0} (f : X → Y) (y : Y) (xs : List X) → ((x : X) → f x ≡ y) → map f xs ≡ replicate (length xs) y
  map_constant f y [] same = refl
  map_constant f y (x ∷ xs) same = ap (λ z. z ∷ map f xs) (same x) ∙ ap (λ zs. y ∷ zs) (map_constant f y xs same)

-- what follows where there is an answer
pub ok_then : {T E : Type 0} (r : Result T E) (P Q : T → Type 0) → IfOk r P → ((x : T) → P x → Q x) → IfOk r Q
ok_then (Ok x) P Q p f = f x p
ok_then (Err e) P Q p f = p
