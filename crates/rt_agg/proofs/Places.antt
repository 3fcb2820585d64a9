-- The places of keys.
use Rattle.std.proofs.Common.{◌≡◌, ℕ, zero, suc, ◌+◌, ◌<◌, List, [], ◌∷◌, ◌++◌, length, take, Option, Some, None, refl, sym, ap, ◌∙◌, subst, arith, slice_get}
use Rattle.std.specs.Map.{keys_of}
use Rattle.std.specs.Prelude.{unwrap_or, slice_index_or}
use Rattle.std.proofs.lemmas.Option.{slice_get_within}
use Rattle.rt_schema.specs.declared.value.Value.{Value}
use Rattle.rt_agg.specs.Accumulator.{Accumulator}
use Rattle.rt_agg.specs.Merging.{AreAt}

abbrev Entries : Type 0
Entries = List (List Value × List Accumulator)

keys_first : (n : ℕ) (es : Entries) → keys_of (take n es) ≡ take n (keys_of es)
keys_first zero es = refl
keys_first (suc n) [] = refl
keys_first (suc n) (e ∷ es) = ap (λ t. e.0 ∷ t) (keys_first n es)

from_first : {X : Type 0} (n : ℕ) (xs : List X) (i : ℕ) (x : X) → slice_get (take n xs) i ≡ Some x → slice_get xs i ≡ Some x
from_first {X} zero xs i x at = absurd (omega (arith, slice_get_within {A = X} [] i x at))
from_first {X} (suc n) [] i x at = absurd (omega (arith, slice_get_within {A = X} [] i x at))
from_first (suc n) (y ∷ xs) zero x at = at
from_first (suc n) (y ∷ xs) (suc i) x at = from_first n xs i x at

-- keys stay at their places where entries stay at theirs
pub key_stays : (old new : Entries) → take (length old) new ≡ old → (i : ℕ) (k : List Value) → slice_get (keys_of old) i ≡ Some k → slice_get (keys_of new) i ≡ Some k
key_stays old new kept i k at =
    from_first (length old) (keys_of new) i k
    (ap (λ (ks : List (List Value)). slice_get ks i) (sym (keys_first (length old) new) ∙ ap (λ (es : Entries). keys_of es) kept) ∙ at)

all_stay : (old new : Entries) → take (length old) new ≡ old → (ps : List ℕ) (ks : List (List Value)) → AreAt (keys_of old) ps ks → AreAt (keys_of new) ps ks
all_stay old new kept [] [] all = tt
all_stay old new kept [] (k ∷ ks) all = absurd all
all_stay old new kept (p ∷ ps) [] all = absurd all
all_stay old new kept (p ∷ ps) (k ∷ ks) all = (key_stays old new kept p k all.0, all_stay old new kept ps ks all.1)

one_last : (keys : List (List Value)) (ps : List ℕ) (ks : List (List Value)) (p : ℕ) (k : List Value) → AreAt keys ps ks → slice_get keys p ≡ Some k → AreAt keys (ps ++ p ∷ []) (ks ++ k ∷ [])
one_last keys [] [] p k all at = (at, tt)
one_last keys [] (l ∷ ks) p k all at = absurd all
one_last keys (q ∷ ps) [] p k all at = absurd all
one_last keys (q ∷ ps) (l ∷ ks) p k all at = (all.0, one_last keys ps ks p k all.1 at)

abbrev key_or : List Value → Option (List Value × List Accumulator) → List Value
key_or k None = k
key_or k (Some e) = e.0

keys_next : (es : Entries) (i : ℕ) (k : List Value) (v : List Accumulator) → slice_get es i ≡ Some (k, v) → keys_of (take (suc i) es) ≡ keys_of (take i es) ++ k ∷ []
keys_next [] i k v at = absurd (omega (arith, slice_get_within {A = List Value × List Accumulator} [] i (k, v) at))
keys_next (e ∷ es) zero k v at = ap (λ o. key_or k o ∷ []) at
keys_next (e ∷ es) (suc i) k v at = ap (λ t. e.0 ∷ t) (keys_next es i k v at)

-- one place more
pub places_more : (old new others : Entries) (i : ℕ) (ps now : List ℕ) (p : ℕ) (k : List Value) (v : List Accumulator) → take (length old) new ≡ old → AreAt (keys_of old) ps (keys_of (take i others))
    → slice_get others i ≡ Some (k, v) → slice_get (keys_of new) p ≡ Some k → now ≡ ps ++ p ∷ [] → AreAt (keys_of new) now (keys_of (take (i + 1) others))
places_more old new others i ps now p k v kept all at here pushed =
    let next : suc i ≡ i + 1 = omega arith in
    subst (AreAt (keys_of new) now) (sym (keys_next others i k v at) ∙ ap (λ n. keys_of (take n others)) next)
    (subst (λ qs. AreAt (keys_of new) qs (keys_of (take i others) ++ k ∷ [])) (sym pushed)
    (one_last (keys_of new) ps (keys_of (take i others)) p k (all_stay old new kept ps (keys_of (take i others)) all) here))

pub places_long : (keys : List (List Value)) (ps : List ℕ) (ks : List (List Value)) → AreAt keys ps ks → length ps ≡ length ks
places_long keys [] [] all = refl
places_long keys [] (k ∷ ks) all = absurd all
places_long keys (p ∷ ps) [] all = absurd all
places_long keys (p ∷ ps) (k ∷ ks) all = ap suc (places_long keys ps ks all.1)

pub place_at : (keys : List (List Value)) (ps : List ℕ) (ks : List (List Value)) (i p : ℕ) (k : List Value) → AreAt keys ps ks → slice_get ps i ≡ Some p → slice_get ks i ≡ Some k → slice_get keys p ≡ Some k
place_at keys [] ks i p k all at key = absurd (omega (arith, slice_get_within {A = ℕ} [] i p at))
place_at keys (q ∷ ps) [] i p k all at key = absurd all
place_at keys (q ∷ ps) (l ∷ ks) zero p k all at key = subst (λ n. slice_get keys n ≡ Some k) (ap (λ o. unwrap_or o q) at) (all.0 ∙ key)
place_at keys (q ∷ ps) (l ∷ ks) (suc i) p k all at key = place_at keys ps ks i p k all.1 at key

pub keys_long : (es : Entries) → length (keys_of es) ≡ length es
keys_long [] = refl
keys_long (e ∷ es) = ap suc (keys_long es)

pub read_at : (ps : List ℕ) (i : ℕ) → i < length ps → slice_get ps i ≡ Some (slice_index_or ps i 0)
read_at [] i lt = absurd (omega (arith, lt))
read_at (p ∷ ps) zero lt = refl
read_at (p ∷ ps) (suc i) lt = read_at ps i (omega (arith, lt))
