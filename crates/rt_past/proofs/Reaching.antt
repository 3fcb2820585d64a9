-- The entries of the ideal state reach a partition's last segment, or the one before it.
use Rattle.std.proofs.Common.{◌≡◌, ◌+◌, ◌-◌, ◌<◌, ◌≤◌, ◌⊎◌, inl, inr, ℕ, zero, suc, List, [], ◌∷◌, length, refl, sym, ap, subst, ◌∙◌, arith}
use Rattle.std.proofs.lemmas.Bool.{cases_eq, cases_lt}
use Rattle.rt_base.specs.declared.numbers.Partition.{Partition}
use Rattle.rt_lists.specs.Members.{Has}
use Rattle.rt_model.specs.declared.node.Key.{Key}
use Rattle.rt_model.specs.declared.node.Node.{Node}
use Rattle.rt_model.specs.declared.node.Node.TheVariants as node
use Rattle.rt_model.specs.declared.node.Seen.{Seen}
use Rattle.rt_model.specs.declared.ideal_state.IdealEntry.{IdealEntry}
use Rattle.rt_model.specs.declared.seg_meta.SegMeta.{SegMeta}
use Rattle.rt_model.specs.declared.setup.Setup.{Setup}
use Rattle.rt_model.specs.declared.status.Status.{Status}
use Rattle.rt_model.specs.declared.status.Status.TheVariants.{InProgress, Done, Abandoned}
use Rattle.rt_model.specs.Chain.{InOrder, IsLife, IsLinked}
use Rattle.rt_model.specs.Entries.{HasEntry, entries_by, entries_of}
use Rattle.rt_model.specs.History.{last_of}
use Rattle.rt_model.specs.Metadata.{BecameFinal, IsFinal, IsFinalStatus, IsOpen, life_of, node_key, sequences_of}
use Rattle.rt_model.specs.Setup.{IsSetup}
use Rattle.rt_model.proofs.Chains.{InOrder-chain}
use Rattle.rt_model.proofs.Entries.{entry_names}
use Rattle.rt_model.proofs.Histories.{writes_of-Has}
use Rattle.rt_model.proofs.IdealStates.{has_every_partition}
use Rattle.rt_model.proofs.Kept.{lawful_kept, entries_of-last, present_is}
use Rattle.rt_model.proofs.Lawful.{has_rising_runs}
use Rattle.rt_model.proofs.Lives.{Ends-final, Follows-final}
use Rattle.rt_store.specs.Contents.{starting_of}
use Rattle.rt_store.proofs.Assigned.{setup_assigned}
use Rattle.rt_past.specs.Past.{Past}
use Rattle.rt_past.specs.Segments.{HadEntry}
use Rattle.rt_past.specs.Writes.{IsRightStatus, IsRightNode}
use Rattle.rt_past.specs.IsPast.{IsPast}
use Rattle.rt_past.specs.Reaching.{IsOpenNow, ReachesLast}

-- ---- a segment that ended had an entry

final_status : (setup : Setup) (a : Past) (p : Partition) (s : ℕ) (m : SegMeta) (t : Status) → IsFinalStatus t
    → IsRightStatus setup a p (record { 0 = s }) m t → HadEntry a.history p (record { 0 = s })
final_status setup a p s m InProgress f r = absurd f
final_status setup a p s m (Done commit) f r = r.0
final_status setup a p s m Abandoned f r = r

final_node : (setup : Setup) (a : Past) (p : Partition) (s : ℕ) (n : Node) → IsFinal n → IsRightNode setup a (node_key p s) n
    → HadEntry a.history p (record { 0 = s })
final_node setup a p s (node.Meta m) f r = final_status setup a p s m m.status f r
final_node setup a p s (node.Ideal i) f r = absurd f
final_node setup a p s node.Boot f r = absurd f
final_node setup a p s node.Gone f r = absurd f

pub ended_entered : (setup : Setup) (a : Past) (p : Partition) (s : ℕ) → IsPast setup a → BecameFinal a.history p s → HadEntry a.history p (record { 0 = s })
ended_entered setup a p s k (w, has, of, f) =
    final_node setup a p s w.node f (subst (λ (x : Key). IsRightNode setup a x w.node) of (k.writes w has))

-- ---- so the present entries reach it

abbrev HasAbove : List Seen → Partition → ℕ → Type 0
HasAbove h p s = (t : ℕ) × (s ≤ t) × HasEntry (entries_of h) p t

ended_above : (setup : Setup) (a : Past) (p : Partition) (s : ℕ) → IsPast setup a → BecameFinal a.history p s → HasAbove a.history p s
ended_above setup a p s k f =
    let e = ended_entered setup a p s k f in
    (has_rising_runs (starting_of setup) a.history k.lawful e.0 p e.1).highest s e.2

some_entry : (setup : Setup) (a : Past) (p : Partition) → IsSetup setup → IsPast setup a → p.0 < setup.partitions → HasAbove a.history p 0
some_entry setup a p s k within =
    let there = (lawful_kept (starting_of setup) a.history k.lawful).present in
    let one = has_every_partition (starting_of setup) a.history (setup_assigned setup s) k.lawful there.0 p (present_is a.history there.0 there.2) within in
    (one.0, omega arith, subst (λ (es : List IdealEntry). HasEntry es p one.0) (sym (entries_of-last a.history there.0 there.2)) one.1)

-- and no further than the last segment
entry_below : (setup : Setup) (a : Past) (p : Partition) (t : ℕ) → IsPast setup a → p.0 < setup.partitions → HasEntry (entries_of a.history) p t
    → (t < sequences_of a.history p) ⊎ (sequences_of a.history p ≤ t) → t < sequences_of a.history p
entry_below setup a p t k within has (inl lt) = lt
entry_below setup a p t k within has (inr le) =
    let kept = lawful_kept (starting_of setup) a.history k.lawful in
    let there = kept.present in
    let named = entry_names (entries_by there.0.node) p (record { 0 = t })
    (subst (λ (es : List IdealEntry). HasEntry es p t) (entries_of-last a.history there.0 there.2) has) in
    let created = (kept.grounded there.0 (present_is a.history there.0 there.2) named.0 named.1).created in
    let key_is : created.0.key ≡ node_key p t = created.2 ∙ ap (λ (x : Partition). node_key x named.0.sequence.0) named.2 ∙ ap (λ (x : ℕ). node_key p x) named.3 in
    absurd ((InOrder-chain a.history p (kept.order p within)).uncreated t created.0 le created.1 key_is)

-- ---- by the life of the last segment

ended_there : (h : List Seen) (p : Partition) (m : ℕ) (c d : Seen) (ws : List Seen) → life_of h p m ≡ c ∷ d ∷ ws → IsFinal d.node → BecameFinal h p m
ended_there h p m c d ws e f =
    let among : Has (life_of h p m) d = subst (λ (xs : List Seen). Has xs d) (sym e) (inr (inl refl)) in
    let has = writes_of-Has h d (node_key p m) among in
    (d, has.0, has.1, f)

at_ended : (setup : Setup) (a : Past) (p : Partition) (m : ℕ) → IsPast setup a → p.0 < setup.partitions → m + 1 ≡ sequences_of a.history p
    → BecameFinal a.history p m → ReachesLast a.history p
at_ended setup a p m k within n f =
    let above = ended_above setup a p m k f in
    let below = entry_below setup a p above.0 k within above.2 (cases_lt above.0 (sequences_of a.history p)) in
    record { at = above.0; entered = above.2; last = inl (omega (arith, above.1, below, n)) }

at_first : (setup : Setup) (a : Past) (p : Partition) → IsSetup setup → IsPast setup a → p.0 < setup.partitions → 1 ≡ sequences_of a.history p
    → ReachesLast a.history p
at_first setup a p s k within n =
    let above = some_entry setup a p s k within in
    let below = entry_below setup a p above.0 k within above.2 (cases_lt above.0 (sequences_of a.history p)) in
    record { at = above.0; entered = above.2; last = inl (omega (arith, below, n)) }

at_open : (setup : Setup) (a : Past) (p : Partition) (m : ℕ) → IsPast setup a → p.0 < setup.partitions → m + 2 ≡ sequences_of a.history p
    → BecameFinal a.history p m → IsOpenNow a.history p (m + 1) → ReachesLast a.history p
at_open setup a p m k within n f o =
    let above = ended_above setup a p m k f in
    let below = entry_below setup a p above.0 k within above.2 (cases_lt above.0 (sequences_of a.history p)) in
    record { at = above.0; entered = above.2; last = at_case above.0 above.1 below (cases_eq above.0 m) }
  where
    at_case : (t : ℕ) → m ≤ t → t < sequences_of a.history p → (t ≡ m) ⊎ (t ≡ m → ⊥)
        → (t + 1 ≡ sequences_of a.history p) ⊎ ((t + 2 ≡ sequences_of a.history p) × IsOpenNow a.history p (t + 1))
    at_case t low high (inl same) =
        inr (omega (arith, n, same), subst (λ (x : ℕ). IsOpenNow a.history p (x + 1)) (sym same) o)
    at_case t low high (inr other) = inl (by_order t low high other (cases_lt m t))
      where
        by_order : (t : ℕ) → m ≤ t → t < sequences_of a.history p → (t ≡ m → ⊥) → (m < t) ⊎ (t ≤ m) → t + 1 ≡ sequences_of a.history p
        by_order t low high other (inl lt) = omega (arith, n, high, lt)
        by_order t low high other (inr le) = absurd (other (omega (arith, low, le)))

linked_ended : (ws : List Seen) (c : Seen) → IsLinked ws (c ∷ []) → (x : Seen) × (y : Seen) × (rest : List Seen) × (ws ≡ x ∷ y ∷ rest) × IsFinal y.node
linked_ended [] c l = absurd l
linked_ended (x ∷ []) c l = absurd l
linked_ended (x ∷ y ∷ rest) c l = (x, y, rest, refl, Follows-final y.node c.node l)

in_progress : (setup : Setup) (a : Past) (p : Partition) (m : ℕ) (c : Seen) → IsSetup setup → IsPast setup a → p.0 < setup.partitions → InOrder a.history p
    → m + 1 ≡ sequences_of a.history p → life_of a.history p m ≡ c ∷ [] → IsOpen c.node → ReachesLast a.history p
in_progress setup a p zero c s k within o n e open_c = at_first setup a p s k within n
in_progress setup a p (suc m) c s k within o n e open_c =
    let next : suc m ≡ m + 1 = omega arith in
    let life : life_of a.history p (m + 1) ≡ c ∷ [] = subst (λ (x : ℕ). life_of a.history p x ≡ c ∷ []) next e in
    let before = linked_ended (life_of a.history p m) c (subst (λ (xs : List Seen). IsLinked (life_of a.history p m) xs) life (o.linked m)) in
    at_open setup a p m k within (omega (arith, n)) (ended_there a.history p m before.0 before.1 before.2 before.3 before.4) (c, ap last_of life, open_c)

by_life : (setup : Setup) (a : Past) (p : Partition) (m : ℕ) (ws : List Seen) → IsSetup setup → IsPast setup a → p.0 < setup.partitions → InOrder a.history p
    → m + 1 ≡ sequences_of a.history p → life_of a.history p m ≡ ws → IsLife ws → 0 < length ws → length ws < 3 → ReachesLast a.history p
by_life setup a p m [] s k within o n e life some few = absurd (omega (arith, some))
by_life setup a p m (c ∷ []) s k within o n e life some few = in_progress setup a p m c s k within o n e life
by_life setup a p m (c ∷ d ∷ []) s k within o n e life some few =
    at_ended setup a p m k within n (ended_there a.history p m c d [] e (Ends-final c.node d.node life.1))
by_life setup a p m (c ∷ d ∷ g ∷ ws) s k within o n e life some few = absurd (omega (arith, few))

pub reaches_last : (setup : Setup) (a : Past) (p : Partition) → IsSetup setup → IsPast setup a → p.0 < setup.partitions → ReachesLast a.history p
reaches_last setup a p s k within =
    let o = (lawful_kept (starting_of setup) a.history k.lawful).order p within in
    let m = sequences_of a.history p - 1 in
    let n : m + 1 ≡ sequences_of a.history p = omega (arith, o.some) in
    by_life setup a p m (life_of a.history p m) s k within o n refl (o.lives m) (o.begun m (omega (arith, n))) (o.present m (omega (arith, n, o.some)))
