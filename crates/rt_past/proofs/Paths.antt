-- A path names one upload: it ends with the number of its request.
use Rattle.std.proofs.Common.{◌≡◌, ◌<◌, ◌^◌, ℕ, List, [], ◌∷◌, ◌++◌, refl, sym, ap, subst, ◌∙◌, arith}
use Rattle.std.specs.Prelude.{codes}
use Rattle.std.specs.Fmt.{decimal}
use Rattle.std.specs.Str.Parse.{AllDigits}
use Rattle.std.proofs.lemmas.Str.Parse.{digit_from_value}
use Rattle.std.proofs.lemmas.Fmt.{decimal_is_IsNumeral, decimal_injective}
use Rattle.rt_base.specs.declared.numbers.Instance.{Instance}
use Rattle.rt_model.specs.declared.request.RequestNumber.{RequestNumber}
use Rattle.rt_model.proofs.Histories.{same_instance}
use Rattle.rt_msgs.specs.Numbered.{upload_path}

-- ---- the last dot of a text

abbrev NoDot : List ℕ → Type 0
NoDot [] = Unit {0}
NoDot (b ∷ bs) = (b ≡ 46 → ⊥) × NoDot bs

digits_without : (ds : List ℕ) → AllDigits 10 ds → NoDot ds
digits_without [] d = tt
digits_without (c ∷ cs) d = (λ e. omega (arith, e, digit_from_value c d.0), digits_without cs d.1)

decimal_without : (n : ℕ) → n < 2 ^ 64 → NoDot (decimal n)
decimal_without n small = digits_without (decimal n) (decimal_is_IsNumeral n small).0.1

dot_inside : (ys es : List ℕ) → NoDot ((ys ++ 46 ∷ []) ++ es) → ⊥
dot_inside [] es n = n.0 refl
dot_inside (y ∷ ys) es n = dot_inside ys es n.1

tails : (x y : ℕ) (xs ys : List ℕ) → x ∷ xs ≡ y ∷ ys → xs ≡ ys
tails x y xs ys e = cc

conses : (x y : ℕ) (ds es xs ys : List ℕ) → x ∷ ds ≡ y ∷ es → xs ≡ ys → x ∷ xs ≡ y ∷ ys
conses x y ds es xs ys e f = cc

last_dot : (xs ys ds es : List ℕ) → NoDot ds → NoDot es → (xs ++ 46 ∷ []) ++ ds ≡ (ys ++ 46 ∷ []) ++ es → (xs ≡ ys) × (ds ≡ es)
last_dot [] [] ds es d e same = (refl, tails 46 46 ds es same)
last_dot [] (y ∷ ys) ds es d e same = absurd (dot_inside ys es (subst NoDot (tails 46 y ds ((ys ++ 46 ∷ []) ++ es) same) d))
last_dot (x ∷ xs) [] ds es d e same = absurd (dot_inside xs ds (subst NoDot (sym (tails x 46 ((xs ++ 46 ∷ []) ++ ds) es same)) e))
last_dot (x ∷ xs) (y ∷ ys) ds es d e same =
    let r = last_dot xs ys ds es d e (tails x y ((xs ++ 46 ∷ []) ++ ds) ((ys ++ 46 ∷ []) ++ es) same) in
    (conses x y ((xs ++ 46 ∷ []) ++ ds) ((ys ++ 46 ∷ []) ++ es) xs ys same r.0, r.1)

-- ---- numbers

abbrev number_of : Instance → ℕ → ℕ → RequestNumber
number_of instance incarnation count = record { instance = instance; incarnation = incarnation; count = count }

-- each part of a number fits a word
pub record IsWords (n : RequestNumber) : Type 0 where
  pub instance : n.instance.0 < 2 ^ 64
  pub incarnation : n.incarnation < 2 ^ 64
  pub count : n.count < 2 ^ 64

pub one_path : (name other : List ℕ) (n m : RequestNumber) → IsWords n → IsWords m → upload_path name n ≡ upload_path other m → n ≡ m
one_path name other n m k l e =
    let second : List ℕ → RequestNumber → List ℕ = λ t x. t ++ codes "." ++ decimal x.instance.0 in
    let third : List ℕ → RequestNumber → List ℕ = λ t x. second t x ++ codes "." ++ decimal x.incarnation in
    let a = last_dot (third name n) (third other m) (decimal n.count) (decimal m.count) (decimal_without n.count k.count) (decimal_without m.count l.count) e in
    let b = last_dot (second name n) (second other m) (decimal n.incarnation) (decimal m.incarnation)
    (decimal_without n.incarnation k.incarnation) (decimal_without m.incarnation l.incarnation) a.0 in
    let c = last_dot name other (decimal n.instance.0) (decimal m.instance.0)
    (decimal_without n.instance.0 k.instance) (decimal_without m.instance.0 l.instance) b.0 in
    ap (λ x. number_of x n.incarnation n.count)
    (same_instance n.instance m.instance (decimal_injective n.instance.0 m.instance.0 k.instance l.instance c.1))
    ∙ ap (λ x. number_of m.instance x n.count) (decimal_injective n.incarnation m.incarnation k.incarnation l.incarnation b.1)
    ∙ ap (λ x. number_of m.instance m.incarnation x) (decimal_injective n.count m.count k.count l.count a.1)
