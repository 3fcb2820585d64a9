-- The order of places and of ranks.
use Rattle.std.proofs.Common.{◌≡◌, ℕ, ℤ, ◌<◌, ◌≤◌, Bool, true, false, true≢false, Ordering, Less, Equal, Greater, nat_cmp, refl, sym, ap, ◌∙◌, arith}
use Rattle.std.specs.Ordering.{is_eq, is_gt, is_lt, ordering_then, int_cmp, MatchOrdering}
use Rattle.std.proofs.lemmas.Cmp.{nat_cmp_total, int_cmp_total, tied_itself, ranked, int_ranked}
use Rattle.rt_base.specs.declared.numbers.Sequence.{Sequence}
use Rattle.rt_upsert.specs.declared.place.Place.{Place}
use Rattle.rt_upsert.specs.declared.rank.Rank.{Rank}
use Rattle.rt_upsert.specs.Placed.{place_cmp}
use Rattle.rt_upsert.specs.Index.{rank_cmp}

pub equal_is : (o : Ordering) → is_eq o ≡ true → o ≡ Equal
equal_is Less e = absurd (true≢false (sym e))
equal_is Equal e = refl
equal_is Greater e = absurd (true≢false (sym e))

pub less_is : (o : Ordering) → is_lt o ≡ true → o ≡ Less
less_is Less e = refl
less_is Equal e = absurd (true≢false (sym e))
less_is Greater e = absurd (true≢false (sym e))

pub then_first : (a b : Ordering) → ordering_then a b ≡ Equal → a ≡ Equal
then_first Less b e = e
then_first Equal b e = refl
then_first Greater b e = e

pub then_second : (a b : Ordering) → ordering_then a b ≡ Equal → b ≡ Equal
then_second Less b e = absurd (cc)
then_second Equal b e = e
then_second Greater b e = absurd (cc)

pub then_equal : (a b : Ordering) → a ≡ Equal → ordering_then a b ≡ b
then_equal a b e = ap (λ o. ordering_then o b) e

pub nat_self : (n : ℕ) → nat_cmp n n ≡ Equal
nat_self n = tied_itself nat_cmp_total n

pub int_self : (n : ℤ) → int_cmp n n ≡ Equal
int_self n = tied_itself int_cmp_total n

nat_same : (m n : ℕ) → nat_cmp m n ≡ Equal → m ≡ n
nat_same m n e = ranked m n Equal (sym e)

pub int_same : (m n : ℤ) → int_cmp m n ≡ Equal → m ≡ n
int_same m n e = int_ranked m n Equal (sym e)

pub place_self : (p : Place) → place_cmp p p ≡ Equal
place_self p = then_equal (nat_cmp p.sequence.0 p.sequence.0) (nat_cmp p.row p.row) (nat_self p.sequence.0) ∙ nat_self p.row

pub place_same : (p q : Place) → is_eq (place_cmp p q) ≡ true → p ≡ q
place_same p q e =
    let tie = equal_is (place_cmp p q) e in
    let sequence : p.sequence.0 ≡ q.sequence.0 = nat_same p.sequence.0 q.sequence.0 (then_first (nat_cmp p.sequence.0 q.sequence.0) (nat_cmp p.row q.row) tie) in
    let row : p.row ≡ q.row = nat_same p.row q.row (then_second (nat_cmp p.sequence.0 q.sequence.0) (nat_cmp p.row q.row) tie) in
    λ i. record { sequence = record { 0 = sequence i }; row = row i }

pub rank_self : (a : Rank) → rank_cmp a a ≡ Equal
rank_self a =
    then_equal (nat_cmp a.key a.key) (ordering_then (int_cmp a.compare a.compare) (place_cmp a.place a.place)) (nat_self a.key)
    ∙ then_equal (int_cmp a.compare a.compare) (place_cmp a.place a.place) (int_self a.compare)
    ∙ place_self a.place

module _ (a b : Rank) (tie : is_eq (rank_cmp a b) ≡ true) where
  pub rank_key : a.key ≡ b.key
  rank_key = nat_same a.key b.key (then_first (nat_cmp a.key b.key) (ordering_then (int_cmp a.compare b.compare) (place_cmp a.place b.place)) (equal_is (rank_cmp a b) tie))

  rank_rest : ordering_then (int_cmp a.compare b.compare) (place_cmp a.place b.place) ≡ Equal
  rank_rest = then_second (nat_cmp a.key b.key) (ordering_then (int_cmp a.compare b.compare) (place_cmp a.place b.place)) (equal_is (rank_cmp a b) tie)

  pub rank_compare : a.compare ≡ b.compare
  rank_compare = int_same a.compare b.compare (then_first (int_cmp a.compare b.compare) (place_cmp a.place b.place) rank_rest)

  pub rank_place : is_eq (place_cmp a.place b.place) ≡ true
  rank_place = ap is_eq (then_second (int_cmp a.compare b.compare) (place_cmp a.place b.place) rank_rest)

pub rank_same : (a b : Rank) → is_eq (rank_cmp a b) ≡ true → a ≡ b
rank_same a b tie =
    let place = place_same a.place b.place (rank_place a b tie) in
    λ i. record { key = rank_key a b tie i; compare = rank_compare a b tie i; place = place i }

pub not_so : (b : Bool) → (b ≡ true → ⊥) → b ≡ false
not_so true h = absurd (h refl)
not_so false h = refl

-- ranks at other places are apart
pub ranks_apart : (a b : Rank) → is_eq (place_cmp a.place b.place) ≡ false → is_eq (rank_cmp a b) ≡ false
ranks_apart a b e = not_so (is_eq (rank_cmp a b)) (λ tie. true≢false (sym (rank_place a b tie) ∙ e))

-- not above in both parts: not greater in the first
pub up_from : (x y : ℕ) (o : Ordering) → is_gt (ordering_then (nat_cmp x y) o) ≡ false → x ≤ y
up_from x y o h = by_order (nat_cmp x y) (ranked x y (nat_cmp x y) refl) h
  where
    by_order : (c : Ordering) → MatchOrdering c (x < y) (x ≡ y) (y < x) → is_gt (ordering_then c o) ≡ false → x ≤ y
    by_order Less m g = omega (arith, m)
    by_order Equal m g = omega (arith, m)
    by_order Greater m g = absurd (true≢false g)

pub below_is : (o : Ordering) → o ≡ Less → is_gt o ≡ false
below_is o e = ap is_gt e

not_above : (x y : ℕ) → is_gt (nat_cmp x y) ≡ false → x ≤ y
not_above x y h = by_order (nat_cmp x y) (ranked x y (nat_cmp x y) refl) h
  where
    by_order : (c : Ordering) → MatchOrdering c (x < y) (x ≡ y) (y < x) → is_gt c ≡ false → x ≤ y
    by_order Less m g = omega (arith, m)
    by_order Equal m g = omega (arith, m)
    by_order Greater m g = absurd (true≢false g)

up_to : (x y : ℕ) → x ≤ y → is_gt (nat_cmp x y) ≡ false
up_to x y h = by_order (nat_cmp x y) (ranked x y (nat_cmp x y) refl)
  where
    by_order : (c : Ordering) → MatchOrdering c (x < y) (x ≡ y) (y < x) → is_gt c ≡ false
    by_order Less m = refl
    by_order Equal m = refl
    by_order Greater m = absurd (omega (arith, m, h))

-- places of one sequence stand as their rows do
pub row_from : (p q : Place) → p.sequence ≡ q.sequence → p.row ≤ q.row → is_gt (place_cmp p q) ≡ false
row_from p q same h =
    ap is_gt (then_equal (nat_cmp p.sequence.0 q.sequence.0) (nat_cmp p.row q.row) (ap (λ (s : Sequence). nat_cmp p.sequence.0 s.0) (sym same) ∙ nat_self p.sequence.0))
    ∙ up_to p.row q.row h
