-- The notes: which is the largest, and who has it.
use Rattle.std.proofs.Common.{◌≡◌, ◌<◌, ◌≤◌, ℕ, true, false, ◌==◌, nat_le, max, Option, Some, None, List, [], ◌∷◌, map, unwrap_or, ◌⊎◌, inl, inr, refl, ap, sym, ◌∙◌, subst, arith, suc}
use Rattle.std.specs.Prelude.{All, Any, Contains}
use Rattle.std.proofs.lemmas.Bool.{eqb-true, eq-eqb, leb-true, leb-false}
use Rattle.std.proofs.lemmas.List.Elements.{All-nil, All-cons, All-weaker, Contains-append_cases, Contains-push_cases}
use Rattle.rt_base.specs.declared.numbers.Instance.{Instance}
use Rattle.rt_base.specs.declared.numbers.Offset.{Offset}
use Rattle.rt_model.specs.declared.reporter.Reporter.{Reporter}
use Rattle.rt_model.specs.Completion.{noted, left_out, offset_or_zero, largest_note, is_at, least, smallest_at, winner_of}
use Rattle.rt_fsm.specs.Laws.{IsAtMost, IsLargestNote}
use Rattle.rt_fsm.proofs.Table.{by_test, instance_of, offset_of}

-- some element, by recursion
abbrev pub SomeOf : {X : Type 0} → (X → Type 0) → List X → Type 0
SomeOf P [] = ⊥
SomeOf P (x ∷ xs) = P x ⊎ SomeOf P xs

pub Any-here : {X : Type 0} (P : X → Type 0) (x : X) (xs : List X) → P x → Any P (x ∷ xs)
Any-here P x xs p = (0, x, omega arith, refl, p)

pub Any-later : {X : Type 0} (P : X → Type 0) (x : X) (xs : List X) → Any P xs → Any P (x ∷ xs)
Any-later P x xs a = (suc a.0, a.1, omega (arith, a.2), a.3, a.4)

pub Any-some : {X : Type 0} (P : X → Type 0) (xs : List X) → SomeOf P xs → Any P xs
Any-some P [] s = absurd s
Any-some P (x ∷ xs) s = elim s [ inl p ↦ Any-here P x xs p | inr q ↦ Any-later P x xs (Any-some P xs q) ]

pub SomeOf-weaker : {X : Type 0} (P Q : X → Type 0) → ((x : X) → P x → Q x) → (xs : List X) → SomeOf P xs → SomeOf Q xs
SomeOf-weaker P Q f [] s = s
SomeOf-weaker P Q f (x ∷ xs) s = elim s [ inl p ↦ inl (f x p) | inr q ↦ inr (SomeOf-weaker P Q f xs q) ]

pub contains_cases : {X : Type 0} (x y : X) (xs : List X) → Contains (x ∷ xs) y → (x ≡ y) ⊎ Contains xs y
contains_cases x y xs c =
    elim (Contains-append_cases (x ∷ []) xs y c) [
      | inl h ↦ elim (Contains-push_cases [] x y h) [ inl n ↦ absurd (omega (arith, n.1)) | inr e ↦ inl e ]
      | inr t ↦ inr t
    ]

abbrev pub instances : List Reporter → List Instance
instances rs = map (λ r. r.instance) rs

-- Which replicas there are doesn't change.

noted_instance : (i : Instance) (x : Offset) (r : Reporter) → (noted i x r).instance ≡ r.instance
noted_instance i x r = by_test (λ q. q.instance ≡ r.instance) (r.instance.0 == i.0) _ r (λ _. refl) (λ _. refl)

pub noted_instances : (i : Instance) (x : Offset) (rs : List Reporter) → instances (map (noted i x) rs) ≡ instances rs
noted_instances i x [] = refl
noted_instances i x (r ∷ rs) = let e = noted_instance i x r in let f = noted_instances i x rs in cc

left_out_instance : (i : Instance) (r : Reporter) → (left_out i r).instance ≡ r.instance
left_out_instance i r = by_test (λ q. q.instance ≡ r.instance) (r.instance.0 == i.0) _ r (λ _. refl) (λ _. refl)

pub left_out_instances : (i : Instance) (rs : List Reporter) → instances (map (left_out i) rs) ≡ instances rs
left_out_instances i [] = refl
left_out_instances i (r ∷ rs) = let e = left_out_instance i r in let f = left_out_instances i rs in cc

-- The sender's note.

abbrev pub Noted : Instance → Offset → Reporter → Type 0
Noted i x r = (r.instance ≡ i) × (r.note ≡ Some x)

noted_itself : (i : Instance) (x : Offset) (r : Reporter) → r.instance ≡ i → Noted i x (noted i x r)
noted_itself i x r e =
    by_test (Noted i x) (r.instance.0 == i.0) _ r (λ _. (e, refl))
    (λ h. let same : (r.instance.0 == i.0) ≡ true = eq-eqb r.instance.0 i.0 (ap (λ (v : Instance). v.0) e) in cc)

pub noted_some : (i : Instance) (x : Offset) (rs : List Reporter) → Contains (instances rs) i → SomeOf (Noted i x) (map (noted i x) rs)
noted_some i x [] c = omega (arith, c.1)
noted_some i x (r ∷ rs) c =
    elim (contains_cases r.instance i (instances rs) c) [
      | inl e ↦ inl (noted_itself i x r e)
      | inr t ↦ inr (noted_some i x rs t)
    ]

-- The largest note.

at_most : (o : Option Offset) (n : ℕ) → offset_or_zero o ≤ n → IsAtMost o (offset_of n)
at_most None n h = tt
at_most (Some x) n h = h

at_most_more : (o : Option Offset) (a b : Offset) → a.0 ≤ b.0 → IsAtMost o a → IsAtMost o b
at_most_more None a b h p = tt
at_most_more (Some x) a b h p = omega (arith, h, p)

pub largest_all : (rs : List Reporter) → All (λ r. IsAtMost r.note (offset_of (largest_note rs))) rs
largest_all [] = All-nil _
largest_all (r ∷ rs) =
    let top : ℕ = max (offset_or_zero r.note) (largest_note rs) in
    All-cons (λ q. IsAtMost q.note (offset_of top)) r rs
    (at_most r.note top (omega arith))
    (All-weaker (λ q. IsAtMost q.note (offset_of (largest_note rs))) (λ q. IsAtMost q.note (offset_of top))
    (λ q p. at_most_more q.note (offset_of (largest_note rs)) (offset_of top) (omega arith) p) rs (largest_all rs))

pub largest_above : (i : Instance) (x : Offset) (rs : List Reporter) → SomeOf (Noted i x) rs → x.0 ≤ largest_note rs
largest_above i x [] s = absurd s
largest_above i x (r ∷ rs) s =
    elim s [
      | inl p ↦ let e : offset_or_zero r.note ≡ x.0 = ap offset_or_zero p.1 in omega arith
      | inr t ↦ let h = largest_above i x rs t in omega (arith, h)
    ]

abbrev pub IsAt : ℕ → Reporter → Type 0
IsAt o r = is_at o r.note ≡ true

at_own : (o : Option Offset) (n : ℕ) → n ≡ offset_or_zero o → 0 < n → is_at n o ≡ true
at_own None n e h = absurd (omega (arith, e, h))
at_own (Some x) n e h = eq-eqb x.0 n (sym e)

pub attained : (rs : List Reporter) → 0 < largest_note rs → SomeOf (IsAt (largest_note rs)) rs
attained [] h = omega (arith, h)
attained (r ∷ rs) h =
    by_test (λ _. SomeOf (IsAt (max (offset_or_zero r.note) (largest_note rs))) (r ∷ rs)) (nat_le (largest_note rs) (offset_or_zero r.note)) true false
    (λ e. let l = leb-true (largest_note rs) (offset_or_zero r.note) e in
    inl (at_own r.note (max (offset_or_zero r.note) (largest_note rs)) (omega arith) h))
    (λ e. let l = leb-false (largest_note rs) (offset_or_zero r.note) e in
    let same : largest_note rs ≡ max (offset_or_zero r.note) (largest_note rs) = omega arith in
    inr (subst (λ n. SomeOf (IsAt n) rs) same (attained rs (omega arith))))

-- The smallest instance with a note.

pub smallest_found : (o : ℕ) (rs : List Reporter) → SomeOf (IsAt o) rs → (n : ℕ) × (smallest_at o rs ≡ Some n)
smallest_found o [] s = absurd s
smallest_found o (r ∷ rs) s =
    by_test (λ c. (n : ℕ) × (c ≡ Some n)) (is_at o r.note) (Some (least r.instance.0 (smallest_at o rs))) (smallest_at o rs)
    (λ _. (least r.instance.0 (smallest_at o rs), refl))
    (λ h. elim s [ inl p ↦ cc | inr t ↦ smallest_found o rs t ])

least_cases : (a : ℕ) (o : Option ℕ) (n : ℕ) → least a o ≡ n → (a ≡ n) ⊎ (o ≡ Some n)
least_cases a None n e = inl e
least_cases a (Some j) n e =
    by_test (λ _. (a ≡ n) ⊎ (Some j ≡ Some n)) (nat_le a j) true false
    (λ h. let l = leb-true a j h in inl (omega arith))
    (λ h. let l = leb-false a j h in let f : j ≡ n = omega arith in inr (ap Some f))

pub smallest_is : (o : ℕ) (rs : List Reporter) (n : ℕ) → smallest_at o rs ≡ Some n → SomeOf (λ r. (r.instance.0 ≡ n) × IsAt o r) rs
smallest_is o [] n = λ e. cc
smallest_is o (r ∷ rs) n =
    by_test (λ c. c ≡ Some n → SomeOf (λ q. (q.instance.0 ≡ n) × IsAt o q) (r ∷ rs)) (is_at o r.note) (Some (least r.instance.0 (smallest_at o rs))) (smallest_at o rs)
    (λ h e. let f : least r.instance.0 (smallest_at o rs) ≡ n = cc in
    elim (least_cases r.instance.0 (smallest_at o rs) n f) [ inl a ↦ inl (a, h) | inr b ↦ inr (smallest_is o rs n b) ])
    (λ h e. inr (smallest_is o rs n e))

-- The winner.

at_note : (o : Option Offset) (n : ℕ) → is_at n o ≡ true → o ≡ Some (offset_of n)
at_note None n e = cc
at_note (Some x) n e = ap (λ k. Some (offset_of k)) (eqb-true x.0 n e)

pub winner_noted : (rs : List Reporter) (i : Instance) (x : Offset) → 0 < x.0 → SomeOf (Noted i x) rs
    → SomeOf (Noted (winner_of rs i x) (offset_of (largest_note rs))) rs
winner_noted rs i x h s =
    by_test (λ w. SomeOf (Noted w (offset_of (largest_note rs))) rs) (x.0 == largest_note rs) i _
    (λ e. let f : x ≡ offset_of (largest_note rs) = ap offset_of (eqb-true x.0 (largest_note rs) e) in
    subst (λ o. SomeOf (Noted i o) rs) f s)
    (λ _. let above = largest_above i x rs s in
    let found = smallest_found (largest_note rs) rs (attained rs (omega arith)) in
    let e : found.0 ≡ unwrap_or (smallest_at (largest_note rs) rs) i.0 = sym (ap (λ c. unwrap_or c i.0) found.1) in
    SomeOf-weaker (λ r. (r.instance.0 ≡ found.0) × IsAt (largest_note rs) r) _
    (λ r p. (ap instance_of (p.0 ∙ e), at_note r.note (largest_note rs) p.1))
    rs (smallest_is (largest_note rs) rs found.0 found.1))

pub winner_largest : (rs : List Reporter) (i : Instance) (x : Offset) → 0 < x.0 → SomeOf (Noted i x) rs
    → IsLargestNote (winner_of rs i x) (offset_of (largest_note rs)) rs
winner_largest rs i x h s = record {
  noted = Any-some (Noted (winner_of rs i x) (offset_of (largest_note rs))) rs (winner_noted rs i x h s);
  largest = largest_all rs;
}
