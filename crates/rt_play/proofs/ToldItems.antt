-- An array tells its items.
use Rattle.std.proofs.Common.{◌≡◌, ◌<◌, ◌⊎◌, inl, inr, ℕ, List, [], ◌∷◌, ◌++◌, map, refl, sym, ◌∙◌, ap, arith, append_assoc}
use Rattle.std.specs.List.{join_with_byte}
use Rattle.rt_lines.specs.Answer.{array_of}
use Rattle.rt_lists.specs.Members.{Has}
use Rattle.rt_play.proofs.ToldNumbers.{IsItem, NoDigit, heads, tails}

-- a comma and a bracket are no digits
pub comma : 44 < 48 ⊎ 57 < 44
comma = inl (omega arith)

pub bracket : 93 < 48 ⊎ 57 < 93
bracket = inr (omega arith)

no_item : (item xs zs : List ℕ) → IsItem item → 93 ∷ xs ≡ item ++ zs → ⊥
no_item [] xs zs is e = is
no_item (b ∷ bs) xs zs is e = is (sym (heads 93 b xs (bs ++ zs) e))

-- the items, and what stands behind their array
abbrev pub onto : {A : Type 0} → (A → List ℕ) → List A → List ℕ → List ℕ
onto text items xs = join_with_byte 44 (map text items) ++ 93 ∷ xs

pub array_onto : (items : List (List ℕ)) (xs : List ℕ) → array_of items ++ xs ≡ 91 ∷ (join_with_byte 44 items ++ 93 ∷ xs)
array_onto items xs = ap (λ t. 91 ∷ t) (append_assoc (join_with_byte 44 items) (93 ∷ []) xs)

-- items whose texts tell something of them, up to what stands behind
module _ {A B : Type 0} (text : A → List ℕ) (told : A → B)
    (same : (a b : A) (xs ys : List ℕ) → NoDigit xs → NoDigit ys → text a ++ xs ≡ text b ++ ys → (told a ≡ told b) × (xs ≡ ys))
    (begins : (a : A) → IsItem (text a)) where
  -- what stands behind the first item
  abbrev behind : List A → List ℕ → List ℕ
  behind [] xs = 93 ∷ xs
  behind (b ∷ bs) xs = 44 ∷ onto text (b ∷ bs) xs

  behind_first : (items : List A) (xs : List ℕ) → NoDigit (behind items xs)
  behind_first [] xs = bracket
  behind_first (b ∷ bs) xs = comma

  first_item : (a : A) (items : List A) (xs : List ℕ) → onto text (a ∷ items) xs ≡ text a ++ behind items xs
  first_item a [] xs = refl
  first_item a (b ∷ bs) xs = append_assoc (text a) (44 ∷ join_with_byte 44 (map text (b ∷ bs))) (93 ∷ xs)

  pub same_items : (items bs : List A) (xs ys : List ℕ) → onto text items xs ≡ onto text bs ys → (map told items ≡ map told bs) × (xs ≡ ys)
  same_items [] [] xs ys e = (refl, tails 93 93 xs ys e)
  same_items [] (b ∷ bs) xs ys e = absurd (no_item (text b) xs (behind bs ys) (begins b) (e ∙ first_item b bs ys))
  same_items (a ∷ items) [] xs ys e = absurd (no_item (text a) ys (behind items xs) (begins a) (sym e ∙ first_item a items xs))
  same_items (a ∷ items) (b ∷ bs) xs ys e =
      let first = same a b (behind items xs) (behind bs ys) (behind_first items xs) (behind_first bs ys) (sym (first_item a items xs) ∙ e ∙ first_item b bs ys) in
      let rest = by_rest items bs first.1 (λ f. same_items items bs xs ys f) in
      (ap (λ x. x ∷ map told items) first.0 ∙ ap (λ zs. told b ∷ zs) rest.0, rest.1)
    where
      by_rest : (cs ds : List A) → behind cs xs ≡ behind ds ys → (onto text cs xs ≡ onto text ds ys → (map told cs ≡ map told ds) × (xs ≡ ys))
          → (map told cs ≡ map told ds) × (xs ≡ ys)
      by_rest [] [] f further = (refl, tails 93 93 xs ys f)
      by_rest [] (d ∷ ds) f further = absurd (omega (arith, heads 93 44 xs (onto text (d ∷ ds) ys) f))
      by_rest (c ∷ cs) [] f further = absurd (omega (arith, heads 44 93 (onto text (c ∷ cs) xs) ys f))
      by_rest (c ∷ cs) (d ∷ ds) f further = further (tails 44 44 (onto text (c ∷ cs) xs) (onto text (d ∷ ds) ys) f)

-- what is told of items tells the items, where it tells each that fits
pub same_told : {A B : Type 0} (told : A → B) (Fits : A → Type 0) → ((a b : A) → Fits a → Fits b → told a ≡ told b → a ≡ b) → (items bs : List A)
    → ((a : A) → Has items a → Fits a) → ((b : A) → Has bs b → Fits b) → map told items ≡ map told bs → items ≡ bs
same_told told Fits one [] [] k l e = refl
same_told told Fits one [] (b ∷ bs) k l e = absurd (cc)
same_told told Fits one (a ∷ items) [] k l e = absurd (cc)
same_told told Fits one (a ∷ items) (b ∷ bs) k l e =
    ap (λ x. x ∷ items) (one a b (k a (inl refl)) (l b (inl refl)) (heads (told a) (told b) (map told items) (map told bs) e))
    ∙ ap (λ zs. b ∷ zs)
    (same_told told Fits one items bs (λ x has. k x (inr has)) (λ x has. l x (inr has)) (tails (told a) (told b) (map told items) (map told bs) e))
