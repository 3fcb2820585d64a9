-- Whether an instance is one of a partition's replicas, counted from replica 0 on.
use Rattle.std.proofs.Common.{◌≡◌, ℕ, ◌+◌, ◌<◌, ◌==◌, ◌||◌, Bool, true, false, [], ◌∷◌, map, ◌∙◌, ap, arith}
use Rattle.std.specs.List.{list_any, range_with_len}
use Rattle.std.proofs.lemmas.List.Folds.{list_any-append, list_any_at}
use Rattle.std.proofs.lemmas.List.FromFn.{length-map-range_with_len, get_or-map-range_with_len, map-range_with_len_more}
use Rattle.rt_base.specs.declared.numbers.Instance.{Instance}
use Rattle.rt_base.specs.declared.numbers.Partition.{Partition}
use Rattle.rt_assign.specs.Placement.{replica_of}

abbrev is_at : Instance → Instance → Bool
is_at i j = j.0 == i.0

pub replica_found :
    (p : Partition) (replication servers k : ℕ) (i : Instance) → k < replication
    → ((replica_of p replication servers k).0 == i.0) ≡ true
    → list_any (λ j. j.0 == i.0) (map (replica_of p replication servers) (range_with_len 0 replication)) ≡ true
replica_found p replication servers k i lt e =
    let f = replica_of p replication servers in
    list_any_at (is_at i) (map f (range_with_len 0 replication)) k i
    (omega (arith, lt, length-map-range_with_len f 0 replication))
    (ap (is_at i) (get_or-map-range_with_len f 0 replication k k i lt (omega arith)) ∙ e)

pub replica_not_found :
    (p : Partition) (replication servers k : ℕ) (i : Instance)
    → list_any (λ j. j.0 == i.0) (map (replica_of p replication servers) (range_with_len 0 k)) ≡ false
    → ((replica_of p replication servers k).0 == i.0) ≡ false
    → list_any (λ j. j.0 == i.0) (map (replica_of p replication servers) (range_with_len 0 (k + 1))) ≡ false
replica_not_found p replication servers k i before here =
    let f = replica_of p replication servers in
    let xs = map f (range_with_len 0 k) in
    ap (list_any (is_at i)) (map-range_with_len_more f 0 k k (omega arith))
    ∙ list_any-append (is_at i) xs (f k ∷ [])
    ∙ neither (list_any (is_at i) xs) (is_at i (f k)) before here
  where
    neither : (a b : Bool) → a ≡ false → b ≡ false → (a || (b || false)) ≡ false
    neither a b e f = ap (λ x. x || (b || false)) e ∙ ap (λ x. x || false) f
