-- Lists of the items that are marked.
use Rattle.std.proofs.Common.{◌≡◌, ℕ, zero, suc, ◌+◌, ◌<◌, ◌≤◌, Bool, true, false, List, [], ◌∷◌, ◌++◌, length, drop, get_or, slice_get, Some, refl, sym, ap, ◌∙◌, arith}
use Rattle.std.specs.Prelude.{if◌then◌else◌}
use Rattle.std.specs.List.{AllByRecursion, IsDistinct}
use Rattle.std.specs.Map.{keys_of}
use Rattle.std.proofs.lemmas.Option.{get_or_from_slice_get, slice_get-get_or, slice_get_within}
use Rattle.rt_schema.specs.declared.value.Value.{Value}
use Rattle.rt_agg.specs.Accumulator.{Accumulator}
use Rattle.rt_agg.specs.Grouped.{same_key}
use Rattle.rt_agg.specs.Picking.{kept, with_marked}

-- ---- a walk over a list and its marks

module _ {X : Type 0} where
  kept_none : (ms : List Bool) → kept {X = X} ms [] ≡ []
  kept_none [] = refl
  kept_none (m ∷ ms) = refl

  append_none : (xs : List X) → xs ++ [] ≡ xs
  append_none [] = refl
  append_none (x ∷ xs) = ap (λ t. x ∷ t) (append_none xs)

  append_more : (xs ys zs : List X) → (xs ++ ys) ++ zs ≡ xs ++ (ys ++ zs)
  append_more [] ys zs = refl
  append_more (x ∷ xs) ys zs = ap (λ t. x ∷ t) (append_more xs ys zs)

  kept_here : (ms : List Bool) (xs : List X) (i : ℕ) (x : X) → i < length xs → x ≡ get_or xs i x
      → kept (drop i ms) (drop i xs) ≡ (if get_or ms i false then x ∷ kept (drop (suc i) ms) (drop (suc i) xs) else kept (drop (suc i) ms) (drop (suc i) xs))
  kept_here ms [] i x lt is = absurd (omega (arith, lt))
  kept_here [] (y ∷ xs) zero x lt is = refl
  kept_here (m ∷ ms) (y ∷ xs) zero x lt is = ap (λ z. if m then z ∷ kept ms xs else kept ms xs) (sym is)
  kept_here [] (y ∷ xs) (suc i) x lt is = refl
  kept_here (m ∷ ms) (y ∷ xs) (suc i) x lt is = kept_here ms xs i x (omega (arith, lt)) is

  -- one item more
  pub kept_next : (ms : List Bool) (xs items now : List X) (i : ℕ) (x : X) (mark : Bool) → i < length xs → x ≡ get_or xs i x → mark ≡ get_or ms i false → now ≡ with_marked mark x items
      → items ++ kept (drop i ms) (drop i xs) ≡ kept ms xs → now ++ kept (drop (i + 1) ms) (drop (i + 1) xs) ≡ kept ms xs
  kept_next ms xs items now i x mark lt is here step before =
      let more : i + 1 ≡ suc i = omega arith in
      let rest = kept (drop (suc i) ms) (drop (suc i) xs) in
      (λ j. step j ++ kept (drop (more j) ms) (drop (more j) xs))
      ∙ by mark rest
      ∙ ap (λ t. items ++ t) ((λ j. if here j then x ∷ rest else rest) ∙ sym (kept_here ms xs i x lt is))
      ∙ before
    where
      by : (m : Bool) (rest : List X) → with_marked m x items ++ rest ≡ items ++ (if m then x ∷ rest else rest)
      by true rest = append_more items (x ∷ []) rest
      by false rest = refl

  -- the last one was read
  pub kept_last : (ms : List Bool) (xs items : List X) (i : ℕ) → length xs ≤ i → items ++ kept (drop i ms) (drop i xs) ≡ kept ms xs → items ≡ kept ms xs
  kept_last ms xs items i le before =
      sym (append_none items) ∙ ap (λ t. items ++ t) (sym (kept_none (drop i ms)) ∙ ap (kept (drop i ms)) (sym (dropped xs i le))) ∙ before
    where
      dropped : (ys : List X) (n : ℕ) → length ys ≤ n → drop n ys ≡ []
      dropped [] zero le = refl
      dropped [] (suc n) le = refl
      dropped (y ∷ ys) zero le = absurd (omega (arith, le))
      dropped (y ∷ ys) (suc n) le = dropped ys n (omega (arith, le))

-- ---- what stands where

-- the place of the marked item of a number
abbrev pub place_of : List Bool → ℕ → ℕ
place_of [] i = 0
place_of (true ∷ ms) zero = 0
place_of (true ∷ ms) (suc i) = suc (place_of ms i)
place_of (false ∷ ms) i = suc (place_of ms i)

module _ {X : Type 0} where
  pub kept_at : (ms : List Bool) (xs : List X) (i : ℕ) (x : X) → slice_get (kept ms xs) i ≡ Some x → slice_get xs (place_of ms i) ≡ Some x
  kept_at [] xs i x at = absurd (omega (arith, slice_get_within {A = X} [] i x at))
  kept_at (m ∷ ms) [] i x at = absurd (omega (arith, slice_get_within {A = X} [] i x at))
  kept_at (true ∷ ms) (y ∷ xs) zero x at = at
  kept_at (true ∷ ms) (y ∷ xs) (suc i) x at = kept_at ms xs i x at
  kept_at (false ∷ ms) (y ∷ xs) i x at = kept_at ms xs i x at

  pub get_kept : (ms : List Bool) (xs : List X) (i : ℕ) (d : X) → i < length (kept ms xs) → get_or xs (place_of ms i) d ≡ get_or (kept ms xs) i d
  get_kept ms xs i d lt = get_or_from_slice_get xs (place_of ms i) (get_or (kept ms xs) i d) d (kept_at ms xs i (get_or (kept ms xs) i d) (slice_get-get_or (kept ms xs) i d lt))

  pub all_kept : (P : X → Type 0) (ms : List Bool) (xs : List X) → AllByRecursion P xs → AllByRecursion P (kept ms xs)
  all_kept P [] xs all = tt
  all_kept P (m ∷ ms) [] all = tt
  all_kept P (true ∷ ms) (x ∷ xs) all = (all.0, all_kept P ms xs all.1)
  all_kept P (false ∷ ms) (x ∷ xs) all = all_kept P ms xs all.1

-- of a list that is no shorter no fewer are marked
pub kept_long : {X Y : Type 0} (ms : List Bool) (xs : List X) (ys : List Y) → length xs ≤ length ys → length (kept ms xs) ≤ length (kept ms ys)
kept_long [] xs ys le = omega arith
kept_long (m ∷ ms) [] ys le = omega arith
kept_long (m ∷ ms) (x ∷ xs) [] le = absurd (omega (arith, le))
kept_long (true ∷ ms) (x ∷ xs) (y ∷ ys) le = omega (arith, kept_long ms xs ys (omega (arith, le)))
kept_long (false ∷ ms) (x ∷ xs) (y ∷ ys) le = kept_long ms xs ys (omega (arith, le))

-- ---- keys

pub keys_kept : (ms : List Bool) (es : List (List Value × List Accumulator)) → keys_of (kept ms es) ≡ kept ms (keys_of es)
keys_kept [] es = refl
keys_kept (m ∷ ms) [] = refl
keys_kept (true ∷ ms) (e ∷ es) = ap (λ t. e.0 ∷ t) (keys_kept ms es)
keys_kept (false ∷ ms) (e ∷ es) = keys_kept ms es

pub keys_long : (es : List (List Value × List Accumulator)) → length (keys_of es) ≡ length es
keys_long [] = refl
keys_long (e ∷ es) = ap suc (keys_long es)

pub kept_apart : (ms : List Bool) (ks : List (List Value)) → IsDistinct same_key ks → IsDistinct same_key (kept ms ks)
unfolding IsDistinct
kept_apart [] ks apart = tt
kept_apart (m ∷ ms) [] apart = tt
kept_apart (true ∷ ms) (k ∷ ks) apart = (all_kept (λ y. same_key k y ≡ false) ms ks apart.0, kept_apart ms ks apart.1)
kept_apart (false ∷ ms) (k ∷ ks) apart = kept_apart ms ks apart.1
