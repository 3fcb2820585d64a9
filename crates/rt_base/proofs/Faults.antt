-- How the count of the planned faults goes with the calls.
use Rattle.std.proofs.Common.{
  ◌≡◌,
  ℕ,
  ◌+◌,
  ◌<◌,
  ◌≤◌,
  Bool,
  true,
  false,
  cond,
  eqb,
  List,
  [],
  ◌∷◌,
  Option,
  Some,
  None,
  refl,
  arith,
}
use Rattle.std.specs.Prelude.{◌==◌, count_by}
use Rattle.std.specs.List.{list_any}
use Rattle.std.proofs.lemmas.Bool.{eqb-true, cases_Bool, cond_both, ltb-true, lt-ltb, le-ltb}
use Rattle.std.proofs.lemmas.List.Sums.{sum_by-cons}
use Rattle.std.proofs.Common.{⊎_elim, ltb}
use Rattle.rt_base.specs.FaultPlan.{
  Plan,
  is_past,
  fails_at,
  fails_now,
  number_after,
  after_call,
  faults_of,
}

count_cons : (p : ℕ → Bool) (x : ℕ) (xs : List ℕ) → count_by p (x ∷ xs)
    ≡ cond (p x) 1 0 + count_by p xs
count_cons p x xs = sum_by-cons (λ y. cond (p y) 1 0) x xs

one_grows : (a b : Bool) → (a ≡ true → b ≡ true) → cond a 1 0 ≤ cond b 1 0
one_grows false b h = omega arith
one_grows true b h = rw (h refl) (omega arith)

-- what passes the one test passes the other
count_grows : (p q : ℕ → Bool) (xs : List ℕ) → ((x : ℕ) → p x ≡ true → q x ≡ true)
    → count_by p xs ≤ count_by q xs
count_grows p q [] h = omega arith
count_grows p q (x ∷ xs) h = omega (
  arith,
  count_cons p x xs,
  count_cons q x xs,
  one_grows (p x) (q x) (h x),
  count_grows p q xs h,
)

one_rises : (p q : ℕ → Bool) (x n : ℕ) → x ≡ n → p n ≡ false → q n ≡ true
    → cond (p x) 1 0 + 1 ≤ cond (q x) 1 0
one_rises p q x n same below above = rw (same, below, above) (omega arith)

-- and one of them passes the other alone
count_rises : (p q : ℕ → Bool) (n : ℕ) (xs : List ℕ) → ((x : ℕ) → p x ≡ true → q x ≡ true) → p n
    ≡ false → q n ≡ true
    → list_any (λ k. k == n) xs ≡ true → count_by p xs < count_by q xs
count_rises p q n [] h below above has = cc
count_rises p q n (x ∷ xs) h below above has =
    ⊎_elim
    (λ e. omega (
      arith,
      count_cons p x xs,
      count_cons q x xs,
      one_rises p q x n (eqb-true x n e) below above,
      count_grows p q xs h,
    ))
    (λ e. omega (
      arith,
      count_cons p x xs,
      count_cons q x xs,
      one_grows (p x) (q x) (h x),
      count_rises p q n xs h below above (rw e at has),
    ))
    (cases_Bool (eqb x n))

-- what lies behind stays behind
past_grows : (next : Option ℕ) (n : ℕ) → is_past next n ≡ true → is_past (number_after next) n
    ≡ true
past_grows None n h = refl
past_grows (Some number) n h =
    cond_both (ltb number 18446744073709551615) (Some (number + 1)) None (λ o. is_past o n ≡ true)
    (λ _. let below : n < number = ltb-true n number h in
    lt-ltb n (number + 1) (omega arith)) (λ _. refl)

past_this : (number : ℕ) → is_past (number_after (Some number)) number ≡ true
past_this number =
    cond_both (ltb number 18446744073709551615) (Some (number + 1)) None (λ o. is_past o number
    ≡ true)
    (λ _. lt-ltb number (number + 1) (omega arith)) (λ _. refl)

-- a call more never lowers the count
pub faults_grow : (plan : Plan) → faults_of plan ≤ faults_of (after_call plan)
faults_grow plan = count_grows (is_past plan.next) (is_past (number_after plan.next)) plan.fails
    (past_grows plan.next)

rises_at : (fails : List ℕ) (next : Option ℕ) → fails_at fails next ≡ true
    → count_by (is_past next) fails < count_by (is_past (number_after next)) fails
rises_at fails None h = cc
rises_at fails (Some number) h =
    count_rises (is_past (Some number)) (is_past (number_after (Some number))) number fails
    (past_grows (Some number)) (le-ltb number number (omega arith)) (past_this number) h

-- and a planned fault raises it
pub faults_rise : (plan : Plan) → fails_now plan ≡ true
    → faults_of plan < faults_of (after_call plan)
faults_rise plan h = rises_at plan.fails plan.next h
