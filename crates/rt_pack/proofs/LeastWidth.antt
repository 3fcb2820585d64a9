-- The least width whose ids reach a count.
use Rattle.std.proofs.Common.{◌≡◌, ℕ, zero, suc, ◌+◌, ◌*◌, ◌-◌, ◌^◌, ◌<◌, ◌≤◌, arith, sym, ap, subst, ⊎_elim}
use Rattle.std.proofs.lemmas.Bool.{cond_both, leb-true, leb-false, cases_eq, cases_lt}
use Rattle.std.proofs.lemmas.Nat.{leading_length, pow_pos}
use Rattle.std.proofs.Math.Nat.{pow-suc, pow-le-pow_right}
use Rattle.std.specs.Prelude.{nat_le}
use Rattle.std.specs.Int.{w32, leading_zeros}
use Rattle.rt_pack.specs.Width.{least_from, width_of}

-- a width is the least whose ids reach the count
pub record IsLeast (count width : ℕ) : Type 0 where
  pub enough : count ≤ 2 ^ width
  pub least : (w : ℕ) → count ≤ 2 ^ w → width ≤ w

-- a width whose ids do not reach the count is below one whose ids do
later : (width wanted count : ℕ) → width ≤ wanted → 2 ^ width < count → count ≤ 2 ^ wanted → suc width ≤ wanted
later width wanted count a b c = ⊎_elim
    (λ e. absurd (let same : 2 ^ width ≡ 2 ^ wanted = ap (λ n. 2 ^ n) e in omega arith))
    (λ n. omega arith)
    (cases_eq width wanted)

-- the search finds the least width, if none before it reaches the count
least_from-is : (more width count wanted : ℕ) → IsLeast count wanted → width ≤ wanted → wanted ≤ width + more → least_from more width count ≡ wanted
least_from-is zero width count wanted h above below = omega arith
least_from-is (suc more) width count wanted h above below =
    cond_both (nat_le count (2 ^ width)) width (least_from more (suc width) count) (λ w. w ≡ wanted)
    (λ t. omega (arith, h.least width (leb-true count (2 ^ width) t)))
    (λ t. least_from-is more (suc width) count wanted h (later width wanted count above (leb-false count (2 ^ width) t) h.enough) (omega arith))

-- a count of 32 bits has one least width
pub width_is : (count width : ℕ) → IsLeast count width → count < 2 ^ 32 → width ≡ width_of count
unfolding width_of
width_is count width h small = sym (least_from-is 32 0 count width h (omega arith) (omega (arith, h.least 32 (omega arith))))

-- no width below m reaches a count whose half is above 2 ^ (m - 1)
least_top : (count m : ℕ) → 2 ^ m ≤ 2 * (count - 1) + 1 → (w : ℕ) → count ≤ 2 ^ w → m ≤ w
least_top count m h w reaches = ⊎_elim
    (λ below. absurd (let twice : 2 ^ suc w ≤ 2 ^ m = pow-le-pow_right {n = 2} (omega arith) {i = suc w} {j = m} below in omega (arith, pow-suc 2 w, pow_pos w)))
    (λ above. above)
    (cases_lt w m)

-- what the leading zeros leave is the least width
pub leading_is : (count : ℕ) → count < 2 ^ 32 → IsLeast count (32 - leading_zeros w32 (count - 1))
leading_is count small =
    let top = leading_length 32 (count - 1) (omega arith) in
    let same : 32 - leading_zeros w32 (count - 1) ≡ top.0 = omega (arith, top.1) in
    subst (IsLeast count) (sym same) (record { enough = omega (arith, top.2); least = least_top count top.0 top.3 })

-- the same, where the number that the zeros are counted of has a name
pub width_is_least : (count under : ℕ) → count < 2 ^ 32 → under ≡ count - 1 → IsLeast count (32 - leading_zeros w32 under)
width_is_least count under small same = subst (λ n. IsLeast count (32 - leading_zeros w32 n)) (sym same) (leading_is count small)

-- the width of a count is the least whose ids reach it
pub width_of_is : (count : ℕ) → count < 2 ^ 32 → IsLeast count (width_of count)
width_of_is count small = subst (IsLeast count) (width_is count (32 - leading_zeros w32 (count - 1)) (leading_is count small) small) (leading_is count small)

pub width_of_narrow : (count : ℕ) → count < 2 ^ 32 → width_of count ≤ 32
width_of_narrow count small = (width_of_is count small).least 32 (omega arith)
