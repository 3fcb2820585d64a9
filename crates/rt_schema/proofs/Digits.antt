-- Numbers of few digits.
use Rattle.std.proofs.Common.{◌≡◌, ℕ, suc, ◌+◌, ◌*◌, ◌^◌, ◌<◌, ◌≤◌, arith}
use Rattle.std.proofs.Math.Nat.{pow-succ', pow-le-pow_right}

-- a number of fewer than 18 digits leaves room for one more
pub one_digit_more : (n i : ℕ) → n < 10 ^ i → i < 18 → 10 * n + 10 ≤ 10 ^ 18
one_digit_more n i small few =
    let more : 10 ^ suc i ≤ 10 ^ 18 = pow-le-pow_right {n = 10} (omega arith) {i = suc i} {j = 18} (omega arith) in
    let power : 10 ^ suc i ≡ 10 * 10 ^ i = pow-succ' 10 i in
    omega arith

pub fewer_digits : (n i most : ℕ) → n < 10 ^ i → i ≤ most → n < 10 ^ most
fewer_digits n i most small few =
    let more : 10 ^ i ≤ 10 ^ most = pow-le-pow_right {n = 10} (omega arith) {i = i} {j = most} few in
    omega arith
