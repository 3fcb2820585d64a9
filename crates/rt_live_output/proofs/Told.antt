-- The texts of the first of some, and of one more.
use Rattle.std.proofs.Common.{◌≡◌, ℕ, ◌+◌, ◌<◌, List, [], ◌∷◌, ◌++◌, length, take, get_or, ap, sym, ◌∙◌, arith, append_assoc}
use Rattle.std.proofs.lemmas.List.{append-nil, length-take-le, take_more}
use Rattle.rt_live_output.specs.Texts.{texts, texts_from}

-- one more behind the others
from_push : {X : Type 0} (text : ℕ → X → List ℕ) (n : ℕ) (xs : List X) (x : X) → texts_from text n (xs ++ x ∷ []) ≡ texts_from text n xs ++ text (n + length xs) x
from_push text n [] x = append-nil (text n x) ∙ ap (λ k. text k x) (omega arith)
from_push text n (y ∷ ys) x =
    let count : (n + 1) + length ys ≡ n + length (y ∷ ys) = omega arith in
    ap (λ rest. text n y ++ rest) (from_push text (n + 1) ys x)
    ∙ ap (λ k. text n y ++ (texts_from text (n + 1) ys ++ text k x)) count
    ∙ sym (append_assoc (text n y) (texts_from text (n + 1) ys) (text (n + length (y ∷ ys)) x))

-- what stands in a text behind so many, and behind one more
pub told_more : {X : Type 0} (text : ℕ → X → List ℕ) (xs : List X) (i : ℕ) (d x : X) (start now after : List ℕ) → i < length xs → x ≡ get_or xs i d
    → now ≡ start ++ texts text (take i xs) → after ≡ now ++ text i x → after ≡ start ++ texts text (take (i + 1) xs)
told_more text xs i d x start now after within is so more =
    let length_is : length (take i xs) ≡ i = length-take-le i xs (omega arith) in
    let count : 0 + length (take i xs) ≡ i = omega (arith, length_is) in
    let pushed : texts text (take (i + 1) xs) ≡ texts text (take i xs) ++ text i x =
    ap (texts text) (take_more xs i d within)
    ∙ ap (λ y. texts text (take i xs ++ y ∷ [])) (sym is)
    ∙ from_push text 0 (take i xs) x
    ∙ ap (λ k. texts text (take i xs) ++ text k x) count in
    more ∙ ap (λ t. t ++ text i x) so ∙ append_assoc start (texts text (take i xs)) (text i x) ∙ ap (λ t. start ++ t) (sym pushed)
