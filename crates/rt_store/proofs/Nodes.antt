-- The range of a set that has the metadata nodes of a partition, and its first key.
use Rattle.std.proofs.Common.{◌≡◌, ℕ, ◌+◌, ◌<◌, ◌≤◌, List, [], ◌∷◌, Bool, true, false, cond, eqb, true≢false, Ordering, Less, Equal, Greater, is_gt, nat_cmp, refl, sym, ap, ◌∙◌, subst, arith}
use Rattle.std.specs.Ordering.{ordering_then, MatchOrdering}
use Rattle.std.specs.declared.ops.Bound.{Bound}
use Rattle.std.specs.declared.ops.Bound.TheVariants.{Included, Excluded}
use Rattle.std.specs.BTreeMap.Range.{IsFromStart}
use Rattle.std.specs.BTreeSet.{BTreeSet, contains, IsKeyRangeOf}
use Rattle.std.specs.Cmp.{nat_cmp_total}
use Rattle.std.proofs.lemmas.Cmp.{tied_itself, ranked}
use Rattle.std.proofs.lemmas.Bool.{eqb-true, false_from_ne_true}
use Rattle.rt_base.specs.declared.numbers.Partition.{Partition}
use Rattle.rt_base.specs.declared.numbers.Sequence.{Sequence}
use Rattle.rt_model.specs.declared.node.Key.{Key}
use Rattle.rt_model.specs.declared.node.Key.TheVariants.{Meta, Ideal, Boot}
use Rattle.rt_model.specs.Metadata.{node_key}
use Rattle.rt_model.proofs.Histories.{same_partition}
use Rattle.rt_store.specs.Order.{key_cmp, past_nodes, sequence_in, IsSmall}
use Rattle.rt_store.specs.Index.{IsNext}

abbrev pub zeroth : Sequence
zeroth = record { 0 = 0 }

-- ---- the order of numbers, and of nodes

below_then : (a b : Ordering) → a ≡ Less → ordering_then a b ≡ Less
below_then a b e = rw e

nat_below : (x y : ℕ) → x < y → nat_cmp x y ≡ Less
nat_below x y h = by_order (nat_cmp x y) (ranked x y (nat_cmp x y) refl)
  where
    by_order : (o : Ordering) → MatchOrdering o (x < y) (x ≡ y) (y < x) → o ≡ Less
    by_order Less m = refl
    by_order Equal m = absurd (omega (arith, m, h))
    by_order Greater m = absurd (omega (arith, m, h))

nat_from_zero : (n : ℕ) → is_gt (nat_cmp 0 n) ≡ false
nat_from_zero n = by_order (nat_cmp 0 n) (ranked 0 n (nat_cmp 0 n) refl)
  where
    by_order : (o : Ordering) → MatchOrdering o (0 < n) (0 ≡ n) (n < 0) → is_gt o ≡ false
    by_order Less m = refl
    by_order Equal m = refl
    by_order Greater m = absurd (omega (arith, m))

up_from : (x y : ℕ) (o : Ordering) → is_gt (ordering_then (nat_cmp x y) o) ≡ false → x ≤ y
up_from x y o h = by_order (nat_cmp x y) (ranked x y (nat_cmp x y) refl) h
  where
    by_order : (c : Ordering) → MatchOrdering c (x < y) (x ≡ y) (y < x) → is_gt (ordering_then c o) ≡ false → x ≤ y
    by_order Less m g = omega (arith, m)
    by_order Equal m g = omega (arith, m)
    by_order Greater m g = absurd (true≢false g)

-- below in both parts: lower in the first, or the same there and lower in the second
up_past : (x y m n : ℕ) → ordering_then (nat_cmp x y) (nat_cmp m n) ≡ Less → y ≤ x → (y ≡ x) × (m < n)
up_past x y m n h low = by_order (nat_cmp x y) (ranked x y (nat_cmp x y) refl) h
  where
    below : nat_cmp m n ≡ Less → m < n
    below g = ranked m n Less (sym g)

    by_order : (c : Ordering) → MatchOrdering c (x < y) (x ≡ y) (y < x) → ordering_then c (nat_cmp m n) ≡ Less → (y ≡ x) × (m < n)
    by_order Less o g = absurd (omega (arith, o, low))
    by_order Equal o g = (sym o, below g)
    by_order Greater o g = absurd (cc)

up_to : (x y n : ℕ) → ordering_then (nat_cmp x y) (nat_cmp n 0) ≡ Less → x < y
up_to x y n h = by_order (nat_cmp x y) (ranked x y (nat_cmp x y) refl) h
  where
    none_below : nat_cmp n 0 ≡ Less → n < 0
    none_below g = ranked n 0 Less (sym g)

    by_order : (c : Ordering) → MatchOrdering c (x < y) (x ≡ y) (y < x) → ordering_then c (nat_cmp n 0) ≡ Less → x < y
    by_order Less m g = m
    by_order Equal m g = absurd (omega (arith, none_below g))
    by_order Greater m g = absurd (cc)

not_above : (x y : ℕ) → is_gt (nat_cmp x y) ≡ false → x ≤ y
not_above x y h = by_order (nat_cmp x y) (ranked x y (nat_cmp x y) refl) h
  where
    by_order : (c : Ordering) → MatchOrdering c (x < y) (x ≡ y) (y < x) → is_gt c ≡ false → x ≤ y
    by_order Less m g = omega (arith, m)
    by_order Equal m g = omega (arith, m)
    by_order Greater m g = absurd (true≢false g)

past_after_by : (b : Bool) (p : Partition) (s : Sequence) → key_cmp (Meta p s) (cond b Ideal (Meta (record { 0 = p.0 + 1 }) zeroth)) ≡ Less
past_after_by true p s = refl
past_after_by false p s = below_then (nat_cmp p.0 (p.0 + 1)) _ (nat_below p.0 (p.0 + 1) (omega arith))

-- a partition's nodes lie before the key past them
pub past_after : (p : Partition) (s : Sequence) → key_cmp (Meta p s) (past_nodes p) ≡ Less
past_after p s = past_after_by (eqb p.0 4294967295) p s

-- nodes of one partition are in the order of their sequences
among : (p : Partition) (s t : Sequence) → key_cmp (Meta p s) (Meta p t) ≡ nat_cmp s.0 t.0
among p s t = rw (tied_itself nat_cmp_total p.0)

below_past_by : (b : Bool) (p q : Partition) (s : Sequence) → eqb p.0 4294967295 ≡ b → q.0 ≤ 4294967295
    → key_cmp (Meta q s) (cond b Ideal (Meta (record { 0 = p.0 + 1 }) zeroth)) ≡ Less → q.0 ≤ p.0
below_past_by true p q s e small h = omega (arith, eqb-true p.0 4294967295 e, small)
below_past_by false p q s e small h = omega (arith, up_to q.0 (p.0 + 1) s.0 h)

not_past_ideal : (b : Bool) (p : Partition) → key_cmp Ideal (cond b Ideal (Meta (record { 0 = p.0 + 1 }) zeroth)) ≡ Less → ⊥
not_past_ideal true p h = cc
not_past_ideal false p h = cc

-- ---- where a range starts

-- it has the nodes of a partition from a sequence on, and of lower partitions none
abbrev pub Starts : Bound Key → Partition → ℕ → Type 0
Starts lo p from =
    ((t : ℕ) → from ≤ t → IsFromStart key_cmp lo (node_key p t))
    × ((q : Partition) (t : Sequence) → q.0 ≤ p.0 → IsFromStart key_cmp lo (Meta q t) → (q.0 ≡ p.0) × (from ≤ t.0))

pub starts_first : (p : Partition) → Starts (Included (Meta p zeroth)) p 0
starts_first p = (
  λ t le. rw (tied_itself nat_cmp_total p.0) (nat_from_zero t),
  λ q t low is. (omega (arith, low, up_from p.0 q.0 (nat_cmp 0 t.0) is), omega arith),
)

pub starts_after : (p : Partition) (s : Sequence) → Starts (Excluded (Meta p s)) p (s.0 + 1)
starts_after p s = (
  λ t le. rw (tied_itself nat_cmp_total p.0) (nat_below s.0 t (omega (arith, le))),
  λ q t low is. let up = up_past p.0 q.0 s.0 t.0 is low in (up.0, omega (arith, up.1)),
)

-- ---- the first key of the range

abbrev IsRangeOfNodes : BTreeSet Key → Partition → Bound Key → Key → List Key → Type 0
IsRangeOfNodes s p lo end r = IsKeyRangeOf key_cmp lo (Excluded end) s r

apart : (s : BTreeSet Key) (p : Partition) (lo : Bound Key) (from t : ℕ) (rest : List Key) (q : Partition) (next : Sequence)
    → Starts lo p from → IsRangeOfNodes s p lo (past_nodes p) (Meta q next ∷ rest) → q.0 ≡ p.0
    → from ≤ t → t < next.0 → contains key_cmp s (node_key p t) ≡ false
apart s p lo from t rest q next starts nodes same le lt =
    false_from_ne_true (contains key_cmp s (node_key p t)) (λ has.
    let first : is_gt (key_cmp (Meta q next) (node_key p t)) ≡ false =
    nodes.2 (node_key p t) (starts.0 t le, past_after p (record { 0 = t })) has in
    let order : key_cmp (Meta q next) (node_key p t) ≡ nat_cmp next.0 t =
    ap (λ (x : Partition). key_cmp (Meta x next) (node_key p t)) (same_partition q p same) ∙ among p next (record { 0 = t }) in
    omega (arith, lt, not_above next.0 t (ap is_gt (sym order) ∙ first)))

by_key : (s : BTreeSet Key) (p : Partition) (lo : Bound Key) (from : ℕ) (rest : List Key) (k : Key)
    → Starts lo p from → IsRangeOfNodes s p lo (past_nodes p) (k ∷ rest) → IsSmall k → IsNext s p from (sequence_in k)
by_key s p lo from rest (Meta q t) starts nodes small =
    let low : q.0 ≤ p.0 = below_past_by (eqb p.0 4294967295) p q t refl small nodes.1.0.1 in
    let up = starts.1 q t low nodes.1.0.0 in
    let there : contains key_cmp s (node_key p t.0) ≡ true =
    subst (λ (x : Partition). contains key_cmp s (Meta x t) ≡ true) (same_partition q p up.0) nodes.1.1 in
    (up.1, there, λ u le lt. apart s p lo from u rest q t starts nodes up.0 le lt)
by_key s p lo from rest Ideal starts nodes small = absurd (not_past_ideal (eqb p.0 4294967295) p nodes.1.0.1)
by_key s p lo from rest (Boot i) starts nodes small = absurd (boot_past (eqb p.0 4294967295) nodes.1.0.1)
  where
    boot_past : (b : Bool) → key_cmp (Boot i) (cond b Ideal (Meta (record { 0 = p.0 + 1 }) zeroth)) ≡ Less → ⊥
    boot_past true h = cc
    boot_past false h = cc

-- where the range has a first key, it is the next node
pub next_some :
    (s : BTreeSet Key) (p : Partition) (lo : Bound Key) (end : Key) (from : ℕ) (r rest : List Key) (k : Key)
    → Starts lo p from → end ≡ past_nodes p → IsKeyRangeOf key_cmp lo (Excluded end) s r → r ≡ k ∷ rest → IsSmall k
    → IsNext s p from (sequence_in k)
next_some s p lo end from r rest k starts is range first small =
    let P : Key → Type 0 = λ x. IsRangeOfNodes s p lo x r in
    let Q : List Key → Type 0 = λ x. IsRangeOfNodes s p lo (past_nodes p) x in
    by_key s p lo from rest k starts (subst Q first (subst P is range)) small
