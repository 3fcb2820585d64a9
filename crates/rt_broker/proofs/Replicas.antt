-- The servers of a partition, one after the other.
use Rattle.std.proofs.Common.{◌≡◌, ℕ, suc, ◌+◌, ◌-◌, ◌<◌, ◌≤◌, ◌==◌, ◌&&◌, ◌||◌, Bool, true, false, List, [], ◌∷◌, map, sym, ap, ◌∙◌, arith}
use Rattle.std.specs.List.{list_all, range_with_len}
use Rattle.rt_base.specs.declared.numbers.Instance.{Instance}
use Rattle.rt_base.specs.declared.numbers.Partition.{Partition}
use Rattle.rt_assign.specs.Placement.{replica_of}
use Rattle.rt_broker.specs.declared.piece_asked.PieceAnswer.{PieceAnswer}
use Rattle.rt_broker.specs.Asking.{is_one_of, was_asked}

-- a range of numbers begins with its first
range_next : (k n : ℕ) → k < n → range_with_len k (n - k) ≡ k ∷ range_with_len (k + 1) (n - (k + 1))
range_next k n lt =
    let more : n - k ≡ suc (n - (k + 1)) = omega (arith, lt) in
    ap (range_with_len k) more

range_done : (k n : ℕ) → n ≤ k → range_with_len k (n - k) ≡ []
range_done k n le =
    let none : n - k ≡ 0 = omega (arith, le) in
    ap (range_with_len k) none

-- the servers from this replica on
abbrev pub those_from : Partition → ℕ → ℕ → ℕ → List Instance
those_from p n servers k = map (replica_of p n servers) (range_with_len k (n - k))

next_one : (p : Partition) (n servers k : ℕ) → k < n → those_from p n servers k ≡ replica_of p n servers k ∷ those_from p n servers (k + 1)
next_one p n servers k lt = ap (map (replica_of p n servers)) (range_next k n lt)

no_one : (p : Partition) (n servers k : ℕ) → n ≤ k → those_from p n servers k ≡ []
no_one p n servers k le = ap (map (replica_of p n servers)) (range_done k n le)

module _ (p : Partition) (n servers k : ℕ) (i : Instance) (all : Bool) where
  -- another server, and so it is one of the rest
  pub one_later : k < n → ((replica_of p n servers k).0 == i.0) ≡ false → is_one_of (those_from p n servers k) i ≡ all → is_one_of (those_from p n servers (k + 1)) i ≡ all
  one_later lt other e =
      sym (ap (λ b. b || is_one_of (those_from p n servers (k + 1)) i) other)
      ∙ sym (ap (λ is. is_one_of is i) (next_one p n servers k lt))
      ∙ e

  pub one_here : k < n → ((replica_of p n servers k).0 == i.0) ≡ true → is_one_of (those_from p n servers k) i ≡ all → true ≡ all
  one_here lt same e =
      sym (ap (λ b. b || is_one_of (those_from p n servers (k + 1)) i) same)
      ∙ sym (ap (λ is. is_one_of is i) (next_one p n servers k lt))
      ∙ e

  pub one_nowhere : n ≤ k → is_one_of (those_from p n servers k) i ≡ all → false ≡ all
  one_nowhere le e = sym (ap (λ is. is_one_of is i) (no_one p n servers k le)) ∙ e

module _ (p : Partition) (n servers k : ℕ) (ys : List PieceAnswer) (all : Bool) where
  -- this one was asked, and so the rest decide
  pub asked_later : k < n → was_asked ys (replica_of p n servers k) ≡ true → list_all (was_asked ys) (those_from p n servers k) ≡ all
      → list_all (was_asked ys) (those_from p n servers (k + 1)) ≡ all
  asked_later lt asked e =
      sym (ap (λ b. b && list_all (was_asked ys) (those_from p n servers (k + 1))) asked)
      ∙ sym (ap (list_all (was_asked ys)) (next_one p n servers k lt))
      ∙ e

  pub asked_not : k < n → was_asked ys (replica_of p n servers k) ≡ false → list_all (was_asked ys) (those_from p n servers k) ≡ all → false ≡ all
  asked_not lt not_asked e =
      sym (ap (λ b. b && list_all (was_asked ys) (those_from p n servers (k + 1))) not_asked)
      ∙ sym (ap (list_all (was_asked ys)) (next_one p n servers k lt))
      ∙ e

  pub asked_all : n ≤ k → list_all (was_asked ys) (those_from p n servers k) ≡ all → true ≡ all
  asked_all le e = sym (ap (list_all (was_asked ys)) (no_one p n servers k le)) ∙ e
