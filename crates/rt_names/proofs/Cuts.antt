-- Where the last `__` of a text is.
use Rattle.std.proofs.Common.{◌≡◌, ℕ, zero, suc, ◌+◌, ◌-◌, ◌<◌, List, [], ◌∷◌, ◌++◌, length, take, drop, Option, Some, None, MatchOption, Bor, length-append, sym, ap, inl, inr, ◌∙◌, arith}
use Rattle.std.specs.Option.{IsSomeAnd}
use Rattle.std.specs.Str.Pattern.{RFindsText, SplitsAroundMatch}
use Rattle.std.proofs.Math.Seq.{drop-append_seam, drop-append-add, take-append_seam}
use Rattle.std.proofs.lemmas.Bool.{cases_order}
use Rattle.rt_names.specs.Parts.{NoUnderscore}

no_underscore_at : (xs : List ℕ) (k : ℕ) (rest : List ℕ) → NoUnderscore xs → drop k xs ≡ 95 ∷ rest → ⊥
no_underscore_at [] zero rest none at = cc
no_underscore_at [] (suc k) rest none at = cc
no_underscore_at (x ∷ xs) zero rest none at = none.0 (cc)
no_underscore_at (x ∷ xs) (suc k) rest none at = no_underscore_at xs k rest none.1 at

-- past its first byte, `__` before a piece without `_` has no further `__`
none_later : (piece : List ℕ) (k : ℕ) (rest : List ℕ) → NoUnderscore piece → drop k (95 ∷ piece) ≡ 95 ∷ 95 ∷ rest → ⊥
none_later piece zero rest none at = no_underscore_at piece 0 rest none (cc)
none_later piece (suc k) rest none at = no_underscore_at piece k (95 ∷ rest) none at

module _ (text front piece : List ℕ) (none : NoUnderscore piece) (is : text ≡ front ++ 95 ∷ 95 ∷ piece) where
  seam : drop (length front) text ≡ 95 ∷ 95 ∷ piece
  seam = ap (drop (length front)) is ∙ drop-append_seam front (95 ∷ 95 ∷ piece)

  later : (i : ℕ) (rest : List ℕ) → length front < i → drop i text ≡ 95 ∷ 95 ∷ rest → ⊥
  later i rest past at =
      let k = i - length front - 1 in
      let place : i ≡ length front + suc k = omega arith in
      none_later piece k rest none (sym (drop-append-add front (95 ∷ 95 ∷ piece) (suc k)) ∙ ap (λ n. drop n (front ++ 95 ∷ 95 ∷ piece)) (sym place) ∙ ap (drop i) (sym is) ∙ at)

  pub cut_is_last : (r : Option (Bor (List ℕ) × Bor (List ℕ))) → MatchOption r (RFindsText (95 ∷ 95 ∷ []) text None) (λ x. SplitsAroundMatch (RFindsText (95 ∷ 95 ∷ [])) text x.0.now x.1.now) → IsSomeAnd r (λ x. (x.0.now ≡ front) × (x.1.now ≡ piece))
  cut_is_last None m = m (length front) (omega (arith, ap length is, length-append front (95 ∷ 95 ∷ piece))) piece seam
  cut_is_last (Some x) m =
      let i = m.0 in
      let place : i ≡ length front = elim (cases_order i (length front)) [
        | inl same ↦ same
        | inr apart ↦ elim apart [
          | inl before ↦ absurd (m.2.0 (length front) before (omega (arith, ap length is, length-append front (95 ∷ 95 ∷ piece))) piece seam)
          | inr past ↦ absurd (later i (drop m.1 text) past m.2.1.split)
        ]
      ] in
      let end : m.1 ≡ length front + 2 = omega (arith, m.2.1.ends, place) in (
        m.3 ∙ ap (λ n. take n text) place ∙ ap (take (length front)) is ∙ take-append_seam front (95 ∷ 95 ∷ piece),
        m.4 ∙ ap (λ n. drop n text) end ∙ ap (drop (length front + 2)) is ∙ drop-append-add front (95 ∷ 95 ∷ piece) 2,
      )
