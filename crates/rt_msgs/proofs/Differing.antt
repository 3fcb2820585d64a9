-- The numbers of one incarnation differ.
use Rattle.std.proofs.Common.{◌≡◌, ℕ, zero, suc, ◌+◌, ◌≤◌, ap, arith}
use Rattle.std.specs.List.{All, AllPairs}
use Rattle.std.proofs.lemmas.List.Elements.{All-nil, All-cons, All-weaker}
use Rattle.std.proofs.lemmas.List.Kept.{AllPairs-cons}
use Rattle.rt_model.specs.declared.request.RequestNumber.{RequestNumber}
use Rattle.rt_msgs.specs.Numbered.{Numbered, number_at, drawn}

abbrev Differ : RequestNumber → RequestNumber → Type 0
Differ a b = a ≡ b → ⊥

-- those that are drawn after one more
abbrev further : Numbered → Numbered
further n = record n { made = n.made + 1 }

-- what is drawn from here on has no earlier count
drawn_later :
    (n : Numbered) (first count : ℕ) → first ≤ n.made → All (λ b. first ≤ b.count) (drawn n count)
drawn_later n first zero e = All-nil (λ (b : RequestNumber). first ≤ b.count)
drawn_later n first (suc count) e =
    All-cons (λ (b : RequestNumber). first ≤ b.count) (number_at n n.made) (drawn (further n) count)
    e
    (drawn_later (further n) first count (omega (arith, e)))

later_differs : (n : Numbered) (b : RequestNumber) → n.made + 1 ≤ b.count → Differ (number_at n n.made) b
later_differs n b e same =
    let counts : n.made ≡ b.count = ap (λ (x : RequestNumber). x.count) same in absurd (omega (arith, e, counts))

pub drawn_differ : (n : Numbered) (count : ℕ) → AllPairs (λ a b. a ≡ b → ⊥) (drawn n count)
drawn_differ n zero = λ i j d lt within. absurd (omega (arith, within))
drawn_differ n (suc count) =
    AllPairs-cons Differ (number_at n n.made) (drawn (further n) count)
    (All-weaker (λ (b : RequestNumber). n.made + 1 ≤ b.count) (Differ (number_at n n.made))
    (later_differs n) (drawn (further n) count)
    (drawn_later (further n) (n.made + 1) count (omega arith)))
    (drawn_differ (further n) count)

-- a number tells by whom, in which incarnation and at which count it was drawn
pub drawn_apart :
    (n m : Numbered) (i j : ℕ) → number_at n i ≡ number_at m j
    → (n.instance ≡ m.instance) × (n.incarnation ≡ m.incarnation) × (i ≡ j)
drawn_apart n m i j e = (
  ap (λ (x : RequestNumber). x.instance) e,
  ap (λ (x : RequestNumber). x.incarnation) e,
  ap (λ (x : RequestNumber). x.count) e,
)
