-- The parts of a text, joined by newlines, are the text.
use Rattle.std.proofs.Common.{◌≡◌, ◌==◌, ◌⊎◌, inl, inr, ℕ, Bool, true, false, cond, List, [], ◌∷◌, ◌++◌, refl, sym, ◌∙◌, ap, subst}
use Rattle.std.specs.List.{join_with_byte}
use Rattle.std.proofs.lemmas.Bool.{eq-eqb, eqb-true, false≢true}
use Rattle.rt_lines.specs.Lines.{parts_of, with_front}
use Rattle.rt_play.specs.TextLines.{ArePartsOf, HaveNoNewline}

abbrev Joined : List ℕ → List (List ℕ) → Type 0
Joined text parts = (text ≡ join_with_byte 10 parts) ⊎ (text ≡ join_with_byte 10 parts ++ 10 ∷ [])

-- a newline more at the front
newline_first : (bs : List ℕ) (parts : List (List ℕ)) → (parts ≡ [] → bs ≡ []) → Joined bs parts → Joined (10 ∷ bs) ([] ∷ parts)
newline_first bs [] none joined = inr (ap (λ xs. 10 ∷ xs) (none refl))
newline_first bs (p ∷ parts) none (inl e) = inl (ap (λ xs. 10 ∷ xs) e)
newline_first bs (p ∷ parts) none (inr e) = inr (ap (λ xs. 10 ∷ xs) e)

-- another byte more
byte_first : (b : ℕ) (bs : List ℕ) (parts : List (List ℕ)) → (parts ≡ [] → bs ≡ []) → Joined bs parts → Joined (b ∷ bs) (with_front b parts)
byte_first b bs [] none joined = inl (ap (λ xs. b ∷ xs) (none refl))
byte_first b bs (p ∷ []) none (inl e) = inl (ap (λ xs. b ∷ xs) e)
byte_first b bs (p ∷ []) none (inr e) = inr (ap (λ xs. b ∷ xs) e)
byte_first b bs (p ∷ q ∷ parts) none (inl e) = inl (ap (λ xs. b ∷ xs) e)
byte_first b bs (p ∷ q ∷ parts) none (inr e) = inr (ap (λ xs. b ∷ xs) e)

not_none : (b : ℕ) (bs : List ℕ) → parts_of (b ∷ bs) ≡ [] → ⊥
not_none b bs e = by_test (b == 10) (parts_of bs) e
  where
    by_test : (t : Bool) (parts : List (List ℕ)) → cond t ([] ∷ parts) (with_front b parts) ≡ [] → ⊥
    by_test true parts e = cc
    by_test false [] e = cc
    by_test false (p ∷ parts) e = cc

none_left : (bs : List ℕ) → parts_of bs ≡ [] → bs ≡ []
none_left [] e = refl
none_left (b ∷ bs) e = absurd (not_none b bs e)

parts_join : (text : List ℕ) → Joined text (parts_of text)
parts_join [] = inl refl
parts_join (b ∷ bs) = by_test (b == 10) refl (parts_join bs)
  where
    by_test : (t : Bool) → (b == 10) ≡ t → Joined bs (parts_of bs) → Joined (b ∷ bs) (cond t ([] ∷ parts_of bs) (with_front b (parts_of bs)))
    by_test true e further =
        subst (λ n. Joined (n ∷ bs) ([] ∷ parts_of bs)) (sym (eqb-true b 10 e)) (newline_first bs (parts_of bs) (none_left bs) further)
    by_test false e further = byte_first b bs (parts_of bs) (none_left bs) further

front_plain : (b : ℕ) (parts : List (List ℕ)) → (b ≡ 10 → ⊥) → HaveNoNewline parts → HaveNoNewline (with_front b parts)
front_plain b [] other plain = ((other, tt), tt)
front_plain b (p ∷ parts) other plain = ((other, plain.0), plain.1)

parts_plain : (text : List ℕ) → HaveNoNewline (parts_of text)
parts_plain [] = tt
parts_plain (b ∷ bs) = by_test (b == 10) refl (parts_plain bs)
  where
    by_test : (t : Bool) → (b == 10) ≡ t → HaveNoNewline (parts_of bs) → HaveNoNewline (cond t ([] ∷ parts_of bs) (with_front b (parts_of bs)))
    by_test true e further = (tt, further)
    by_test false e further = front_plain b (parts_of bs) (λ same. false≢true (sym e ∙ eq-eqb b 10 same)) further

pub are_parts : (text : List ℕ) → ArePartsOf text (parts_of text)
are_parts text = record { plain = parts_plain text; joined = parts_join text }
