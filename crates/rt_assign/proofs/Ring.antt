-- The replicas of one partition lie on different servers of the ring.
use Rattle.std.proofs.Common.{◌≡◌, ℕ, suc, ◌+◌, ◌*◌, ◌/◌, ◌%◌, ◌<◌, ◌≤◌, List, [], ◌∷◌, ◌++◌, map, length, arith, sym, ap, ◌∙◌, get_or, ⊎_elim}
use Rattle.std.specs.List.{AllPairs, range_with_len}
use Rattle.std.proofs.lemmas.List.FromFn.{length-map-range_with_len, get_or-map-range_with_len, map-range_with_len_more}
use Rattle.std.proofs.lemmas.Nat.{div-add-mod', mul-le, mod_below}
use Rattle.std.proofs.lemmas.Bool.{cases_lt}
use Rattle.rt_base.specs.declared.numbers.Partition.{Partition}
use Rattle.rt_base.specs.declared.numbers.Instance.{Instance}
use Rattle.rt_model.specs.declared.setup.Setup.{Setup}
use Rattle.rt_model.specs.Order.{IsNoneOf, AreDistinct}
use Rattle.rt_model.specs.Setup.{IsSetup}
use Rattle.rt_assign.specs.Placement.{replica_of, replicas_of, IsPlaced}

-- two places less than one round apart are different servers
places_differ : (a i j servers : ℕ) → i < j → j < i + servers → (a + i) % servers ≡ (a + j) % servers → ⊥
places_differ a i j servers after within same =
    let first : (a + i) / servers * servers + (a + i) % servers ≡ a + i = div-add-mod' (a + i) servers in
    let second : (a + j) / servers * servers + (a + j) % servers ≡ a + j = div-add-mod' (a + j) servers in
    ⊎_elim (λ on. absurd (omega (arith, mul-le ((a + i) / servers + 1) servers ((a + j) / servers) servers (omega (arith, on)) (omega arith))))
    (λ back. absurd (omega (arith, mul-le ((a + j) / servers) servers ((a + i) / servers) servers back (omega arith))))
    (cases_lt ((a + i) / servers) ((a + j) / servers))

replica_at : (p : Partition) (replication servers i : ℕ) (d : Instance) → i < replication → get_or (replicas_of p replication servers) i d ≡ replica_of p replication servers i
replica_at p replication servers i d h = get_or-map-range_with_len (replica_of p replication servers) 0 replication i i d h (omega arith)

pub replicas_placed : (p : Partition) (replication servers : ℕ) → 1 ≤ replication → replication ≤ servers → IsPlaced replication servers (replicas_of p replication servers)
replicas_placed p replication servers some enough =
    let count : length (replicas_of p replication servers) ≡ replication = length-map-range_with_len (replica_of p replication servers) 0 replication in
    record {
      count = count;
      exist = λ k d h. rw (replica_at p replication servers k d (omega arith)) (mod_below (p.0 * replication + k) servers (omega arith));
      differ = λ i j d after within same. places_differ (p.0 * replication) i j servers after (omega arith) (ap (λ (x : Instance). x.0) (sym (replica_at p replication servers i d (omega arith)) ∙ same ∙ replica_at p replication servers j d (omega arith)));
    }

-- one replica more
pub replicas_more : (p : Partition) (replication servers k : ℕ) → map (replica_of p replication servers) (range_with_len 0 (k + 1)) ≡ map (replica_of p replication servers) (range_with_len 0 k) ++ replica_of p replication servers k ∷ []
replicas_more p replication servers k = map-range_with_len_more (replica_of p replication servers) 0 k k (omega arith)

-- ---- distinct instances

none_at : (i : Instance) (is : List Instance) → ((k : ℕ) (d : Instance) → k < length is → i ≡ get_or is k d → ⊥) → IsNoneOf i is
none_at i [] h = tt
none_at i (j ∷ is) h = (h 0 j (omega arith), none_at i is (λ k d lt. h (suc k) d (omega arith)))

distinct : (is : List Instance) → AllPairs (λ i j. i ≡ j → ⊥) is → AreDistinct is
distinct [] h = tt
distinct (i ∷ is) h = (
  none_at i is (λ k d lt. h 0 (suc k) d (omega arith) (omega arith)),
  distinct is (λ a b d after within. h (suc a) (suc b) d (omega arith) (omega arith)),
)

pub replicas_distinct :
    (p : Partition) (replication servers : ℕ) → 1 ≤ replication → replication ≤ servers → AreDistinct (replicas_of p replication servers)
replicas_distinct p replication servers some enough =
    distinct (replicas_of p replication servers) (replicas_placed p replication servers some enough).differ

-- ---- a cluster within the limits

pub setup_placed :
    (setup : Setup) (p : Partition) → IsSetup setup
    → IsPlaced setup.table.replication setup.servers (replicas_of p setup.table.replication setup.servers)
setup_placed setup p k = replicas_placed p setup.table.replication setup.servers k.some_replicas k.enough_servers

pub setup_distinct :
    (setup : Setup) (p : Partition) → IsSetup setup → AreDistinct (replicas_of p setup.table.replication setup.servers)
setup_distinct setup p k = replicas_distinct p setup.table.replication setup.servers k.some_replicas k.enough_servers
