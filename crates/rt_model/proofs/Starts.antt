-- The starting contents: their versions, and the first segments.
use Rattle.std.proofs.Common.{◌≡◌, ℕ, zero, suc, ◌+◌, ◌<◌, ◌≤◌, max, ◌⊎◌, inl, inr, List, [], ◌∷◌, ◌++◌, length, refl, sym, ◌∙◌, ap, subst, arith}
use Rattle.std.proofs.lemmas.Bool.{cases_eq, cases_lt}
use Rattle.std.proofs.lemmas.List.{append-nil, append_assoc}
use Rattle.std.proofs.lemmas.Option.{none-some}
use Rattle.rt_base.specs.declared.numbers.Partition.{Partition}
use Rattle.rt_model.specs.declared.node.Key.{Key}
use Rattle.rt_model.specs.declared.node.Key.TheVariants as key
use Rattle.rt_base.specs.declared.numbers.Sequence.{Sequence}
use Rattle.rt_base.specs.declared.numbers.Instance.{Instance}
use Rattle.rt_model.specs.declared.ideal_state.IdealEntry.{IdealEntry}
use Rattle.rt_model.specs.declared.ideal_state.IdealState.{IdealState}
use Rattle.rt_model.specs.declared.ideal_state.Mode.TheVariants.{Consuming}
use Rattle.rt_model.specs.declared.node.Node.{Node}
use Rattle.rt_model.specs.declared.node.Node.TheVariants as node
use Rattle.rt_model.specs.declared.node.Seen.{Seen}
use Rattle.rt_lists.specs.Members.{Has}
use Rattle.rt_model.specs.History.{writes_of, next_version, IsVersioned}
use Rattle.rt_model.specs.Metadata.{node_key, life_of, past_key, sequences_of, IsOpen, IsDone, IsCreated}
use Rattle.rt_model.specs.Chain.{IsLife, start_in, deletions_of}
use Rattle.rt_model.specs.Starting.{Starting, starting_boot, starting_meta, starting_ideal, starting_boots, starting_metas, starting_entries, starting_contents}
use Rattle.rt_lists.proofs.Members.{Has-append_left, Has-append_cases, Has-push, Has-push_cases, Has-length}
use Rattle.rt_model.proofs.Histories.{writes_of-more, writes_of-other, writes_of-append, writes_of-Has, Has-writes_of, IsVersioned-more}
use Rattle.rt_model.proofs.Lives.{gone_not_open, open_undone, either, IsLife-same, IsLinked-same, linked_to_none, length_same}
use Rattle.rt_model.proofs.Entries.{Has-with_consuming}
use Rattle.rt_model.proofs.Partitions.{InOrder, HasFirst, IsOrdered-same, sequence_by, partition_by, sequences_of-more, deletions_of-kept, past_other, past_same}

-- ---- which keys the starting contents have

abbrev boot_key : ℕ → Key
boot_key i = key.Boot (record { 0 = i })

abbrev first_key : ℕ → Key
first_key p = key.Meta (record { 0 = p }) (record { 0 = 0 })

boots_none :
    (n : ℕ) (k : Key) → ((i : ℕ) → i < n → boot_key i ≡ k → ⊥) → writes_of (starting_boots n) k ≡ []
boots_none zero k ne = refl
boots_none (suc n) k ne =
    writes_of-other (starting_boots n) (starting_boot n) k (ne n (omega arith))
    ∙ boots_none n k (λ i lt. ne i (omega arith))

metas_none :
    (s : Starting) (n : ℕ) (k : Key) → ((p : ℕ) → p < n → first_key p ≡ k → ⊥)
    → writes_of (starting_metas s n) k ≡ []
metas_none s zero k ne = refl
metas_none s (suc n) k ne =
    writes_of-other (starting_metas s n) (starting_meta s n) k (ne n (omega arith))
    ∙ metas_none s n k (λ p lt. ne p (omega arith))

abbrev instance_by : ℕ → Key → ℕ
instance_by other (key.Boot i) = i.0
instance_by other key.Ideal = other
instance_by other (key.Meta p s) = other

metas_here_at :
    (s : Starting) (n p : ℕ) → p < suc n
    → (p < n → writes_of (starting_metas s n) (first_key p) ≡ starting_meta s p ∷ [])
    → (n ≡ p) ⊎ (n ≡ p → ⊥) → writes_of (starting_metas s (suc n)) (first_key p) ≡ starting_meta s p ∷ []
metas_here_at s n p lt further (inl e) =
    writes_of-more (starting_metas s n) (starting_meta s n) (first_key p) (ap first_key e)
    ∙ ap
    (λ (ws : List Seen). ws ++ starting_meta s n ∷ [])
    (metas_none s n (first_key p) (λ q below same. absurd (omega (arith, ap (partition_by 0) same))))
    ∙ ap (λ q. starting_meta s q ∷ []) e
metas_here_at s n p lt further (inr ne) =
    writes_of-other (starting_metas s n) (starting_meta s n) (first_key p) (λ same. ne (ap (partition_by 0) same))
    ∙ further (omega arith)

-- the first segment's node of a partition is written once
metas_here :
    (s : Starting) (n p : ℕ) → p < n → writes_of (starting_metas s n) (first_key p) ≡ starting_meta s p ∷ []
metas_here s zero p lt = absurd (omega arith)
metas_here s (suc n) p lt = metas_here_at s n p lt (metas_here s n p) (cases_eq n p)

-- ---- versions

IsVersioned-first :
    (h : List Seen) (w : Seen) → IsVersioned h → w.version ≡ 0 → writes_of h w.key ≡ []
    → IsVersioned (h ++ w ∷ [])
IsVersioned-first h w v zero_version none =
    IsVersioned-more h w v (zero_version ∙ sym (length_same (writes_of h w.key) [] none))

IsVersioned-same : (g h : List Seen) → g ≡ h → IsVersioned g → IsVersioned h
IsVersioned-same g h e v = let P : List Seen → Type 0 = IsVersioned in subst P e v

IsVersioned-boots : (n : ℕ) → IsVersioned (starting_boots n)
IsVersioned-boots zero = λ k i w e. absurd (none-some w e)
IsVersioned-boots (suc n) =
    IsVersioned-first (starting_boots n) (starting_boot n) (IsVersioned-boots n) refl
    (boots_none n (boot_key n) (λ i lt same. absurd (omega (arith, ap (instance_by 0) same))))

two_none :
    (g h : List Seen) (k : Key) → writes_of g k ≡ [] → writes_of h k ≡ [] → writes_of (g ++ h) k ≡ []
two_none g h k e f =
    writes_of-append g h k ∙ ap (λ (ws : List Seen). ws ++ writes_of h k) e ∙ f

IsVersioned-metas : (s : Starting) (m n : ℕ) → IsVersioned (starting_boots m ++ starting_metas s n)
IsVersioned-metas s m zero =
    IsVersioned-same (starting_boots m) (starting_boots m ++ []) (sym (append-nil (starting_boots m))) (IsVersioned-boots m)
IsVersioned-metas s m (suc n) =
    IsVersioned-same
    ((starting_boots m ++ starting_metas s n) ++ starting_meta s n ∷ [])
    (starting_boots m ++ (starting_metas s n ++ starting_meta s n ∷ []))
    (append_assoc (starting_boots m) (starting_metas s n) (starting_meta s n ∷ []))
    (IsVersioned-first
    (starting_boots m ++ starting_metas s n) (starting_meta s n) (IsVersioned-metas s m n) refl
    (two_none (starting_boots m) (starting_metas s n) (first_key n)
    (boots_none m (first_key n) (λ i lt same. cc))
    (metas_none s n (first_key n) (λ p lt same. absurd (omega (arith, ap (partition_by 0) same))))))

abbrev before_ideal : Starting → List Seen
before_ideal s = starting_boots s.servers ++ starting_metas s s.partitions

no_ideal_before : (s : Starting) → writes_of (before_ideal s) key.Ideal ≡ []
no_ideal_before s =
    two_none (starting_boots s.servers) (starting_metas s s.partitions) key.Ideal
    (boots_none s.servers key.Ideal (λ i lt same. cc))
    (metas_none s s.partitions key.Ideal (λ p lt same. cc))

pub IsVersioned-start : (s : Starting) → IsVersioned (starting_contents s)
IsVersioned-start s =
    IsVersioned-first (before_ideal s) (starting_ideal s) (IsVersioned-metas s s.servers s.partitions) refl
    (no_ideal_before s)

-- the ideal state is written once
pub ideal_start : (s : Starting) → writes_of (starting_contents s) key.Ideal ≡ starting_ideal s ∷ []
ideal_start s =
    writes_of-more (before_ideal s) (starting_ideal s) key.Ideal refl
    ∙ ap (λ (ws : List Seen). ws ++ starting_ideal s ∷ []) (no_ideal_before s)

-- ---- the first segments

life_start :
    (s : Starting) (p : Partition) (t : ℕ)
    → life_of (starting_contents s) p t ≡ life_of (starting_metas s s.partitions) p t
life_start s p t =
    writes_of-other (before_ideal s) (starting_ideal s) (node_key p t) (λ same. cc)
    ∙ writes_of-append (starting_boots s.servers) (starting_metas s s.partitions) (node_key p t)
    ∙ ap
    (λ (ws : List Seen). ws ++ life_of (starting_metas s s.partitions) p t)
    (boots_none s.servers (node_key p t) (λ i lt same. cc))

life_first :
    (s : Starting) (p : Partition) → p.0 < s.partitions
    → life_of (starting_contents s) p 0 ≡ starting_meta s p.0 ∷ []
life_first s p lt = life_start s p 0 ∙ metas_here s s.partitions p.0 lt

life_later :
    (s : Starting) (p : Partition) (t : ℕ) → (t ≡ 0 → ⊥) → life_of (starting_contents s) p t ≡ []
life_later s p t ne =
    life_start s p t
    ∙ metas_none s s.partitions (node_key p t) (λ q lt same. ne (sym (ap sequence_by same)))

-- the first segment's node was created
pub IsCreated-start : (s : Starting) (p : Partition) → p.0 < s.partitions → IsCreated (starting_contents s) p 0
IsCreated-start s p lt =
    let P : List Seen → Type 0 = λ ws. Has ws (starting_meta s p.0) in
    let among : Has (life_of (starting_contents s) p 0) (starting_meta s p.0) =
    subst P (sym (life_first s p lt)) (inl refl) in
    let has = writes_of-Has (starting_contents s) (starting_meta s p.0) (node_key p 0) among in
    (starting_meta s p.0, has.0, has.1, tt)

pub HasFirst-start : (s : Starting) (p : Partition) → p.0 < s.partitions → HasFirst (starting_contents s) p
HasFirst-start s p lt = let r = IsCreated-start s p lt in (r.0, r.1, r.2)

-- ---- what no node of the starting contents is

boots_apart :
    (Q : Node → Type 0) → (Q node.Boot → ⊥) → (n : ℕ) (w : Seen) → Has (starting_boots n) w → Q w.node → ⊥
boots_apart Q never zero w has is = has
boots_apart Q never (suc n) w has is =
    at_case (Has-push_cases (starting_boots n) (starting_boot n) w has) (λ h. boots_apart Q never n w h is)
  where
    at_case : Has (starting_boots n) w ⊎ (starting_boot n ≡ w) → (Has (starting_boots n) w → ⊥) → ⊥
    at_case (inl h) further = further h
    at_case (inr e) further = never (subst Q (sym (ap (λ (x : Seen). x.node) e)) is)

metas_apart :
    (Q : Node → Type 0) (s : Starting) → ((n : Node) → IsOpen n → Q n → ⊥)
    → (n : ℕ) (w : Seen) → Has (starting_metas s n) w → Q w.node → ⊥
metas_apart Q s never zero w has is = has
metas_apart Q s never (suc n) w has is =
    at_case (Has-push_cases (starting_metas s n) (starting_meta s n) w has) (λ h. metas_apart Q s never n w h is)
  where
    at_case : Has (starting_metas s n) w ⊎ (starting_meta s n ≡ w) → (Has (starting_metas s n) w → ⊥) → ⊥
    at_case (inl h) further = further h
    at_case (inr e) further = never w.node (subst IsOpen (ap (λ (x : Seen). x.node) e) tt) is

pub start_apart :
    (Q : Node → Type 0) (s : Starting) → (Q node.Boot → ⊥) → ((n : Node) → IsOpen n → Q n → ⊥)
    → ((i : IdealState) → Q (node.Ideal i) → ⊥)
    → (w : Seen) → Has (starting_contents s) w → Q w.node → ⊥
start_apart Q s no_boot no_open no_ideal w has is =
    at_case (Has-push_cases (before_ideal s) (starting_ideal s) w has)
  where
    at_two : Has (starting_boots s.servers) w ⊎ Has (starting_metas s s.partitions) w → ⊥
    at_two (inl h) = boots_apart Q no_boot s.servers w h is
    at_two (inr h) = metas_apart Q s no_open s.partitions w h is

    at_case : Has (before_ideal s) w ⊎ (starting_ideal s ≡ w) → ⊥
    at_case (inl h) = at_two (Has-append_cases (starting_boots s.servers) (starting_metas s s.partitions) w h)
    at_case (inr e) =
        no_ideal (record { entries = starting_entries s s.partitions })
        (subst Q (sym (ap (λ (x : Seen). x.node) e)) is)

-- nothing is deleted yet
pub start_there : (s : Starting) (w : Seen) → Has (starting_contents s) w → w.node ≡ node.Gone → ⊥
start_there s w =
    start_apart (λ n. n ≡ node.Gone) s (λ e. cc) (λ n o e. gone_not_open n e o) (λ i e. cc) w

-- and nothing is committed
pub start_undone : (s : Starting) (w : Seen) → Has (starting_contents s) w → IsDone w.node → ⊥
start_undone s w = start_apart IsDone s (λ d. d) open_undone (λ i d. d) w

boots_here : (n i : ℕ) → i < n → Has (starting_boots n) (starting_boot i)
boots_here zero i lt = absurd (omega arith)
boots_here (suc n) i lt = at_case (boots_here n i) (cases_eq i n) (cases_lt i n)
  where
    at_case :
        (i < n → Has (starting_boots n) (starting_boot i)) → (i ≡ n) ⊎ (i ≡ n → ⊥) → (i < n) ⊎ (n ≤ i)
        → Has (starting_boots n ++ starting_boot n ∷ []) (starting_boot i)
    at_case further (inl e) place =
        let P : ℕ → Type 0 = λ x. Has (starting_boots n ++ starting_boot n ∷ []) (starting_boot x) in
        subst P (sym e) (Has-push (starting_boots n) (starting_boot n))
    at_case further (inr ne) (inl below) =
        Has-append_left (starting_boots n) (starting_boot n ∷ []) (starting_boot i) (further below)
    at_case further (inr ne) (inr le) = absurd (ne (omega arith))

-- each server has its boot node
pub boot_starts : (s : Starting) (i : Instance) → i.0 < s.servers → 0 < next_version (starting_contents s) (key.Boot i)
boot_starts s i lt =
    let boot = starting_boot i.0 in
    let has : Has (starting_contents s) boot =
    Has-append_left (before_ideal s) (starting_ideal s ∷ []) boot
    (Has-append_left (starting_boots s.servers) (starting_metas s s.partitions) boot (boots_here s.servers i.0 lt)) in
    Has-length (writes_of (starting_contents s) (key.Boot i)) boot
    (Has-writes_of (starting_contents s) boot (key.Boot i) has refl)

-- the starting entries are those of first segments
pub starting_entry :
    (s : Starting) (n : ℕ) (e : IdealEntry) → Has (starting_entries s n) e
    → (e.partition.0 < n) × (e.sequence.0 ≡ 0) × (e.mode ≡ Consuming)
starting_entry s zero e has = absurd has
starting_entry s (suc n) e has =
    at_case
    (λ h. starting_entry s n e h)
    (Has-with_consuming (starting_entries s n) (record { 0 = n }) (record { 0 = 0 }) (s.instances (record { 0 = n })) e has)
  where
    at_case :
        (Has (starting_entries s n) e → (e.partition.0 < n) × (e.sequence.0 ≡ 0) × (e.mode ≡ Consuming))
        → Has (starting_entries s n) e ⊎ ((e.partition ≡ record { 0 = n }) × (e.sequence ≡ record { 0 = 0 }) × (e.mode ≡ Consuming))
        → (e.partition.0 < suc n) × (e.sequence.0 ≡ 0) × (e.mode ≡ Consuming)
    at_case further (inl h) = let r = further h in (omega arith, r.1, r.2)
    at_case further (inr new) =
        let at_n : e.partition.0 ≡ n = ap (λ (x : Partition). x.0) new.0 in
        (omega arith, ap (λ (x : Sequence). x.0) new.1, new.2)

sequences_of-append :
    (g h : List Seen) (p : Partition) → sequences_of (g ++ h) p ≡ max (sequences_of g p) (sequences_of h p)
sequences_of-append [] h p = omega arith
sequences_of-append (w ∷ g) h p = omega (arith, sequences_of-append g h p)

sequences_boots : (n : ℕ) (p : Partition) → sequences_of (starting_boots n) p ≡ 0
sequences_boots zero p = refl
sequences_boots (suc n) p =
    sequences_of-more (starting_boots n) (starting_boot n) p ∙ omega (arith, sequences_boots n p)

sequences_metas_at :
    (s : Starting) (n : ℕ) (p : Partition) → sequences_of (starting_metas s n) p ≤ 1
    → (n ≡ p.0) ⊎ (n ≡ p.0 → ⊥)
    → (sequences_of (starting_metas s (suc n)) p ≤ 1)
    × ((sequences_of (starting_metas s n) p ≡ 1) ⊎ (n ≡ p.0) → sequences_of (starting_metas s (suc n)) p ≡ 1)
sequences_metas_at s n p few (inl e) =
    let more = sequences_of-more (starting_metas s n) (starting_meta s n) p in
    let past = past_same p (first_key n) 0 (ap first_key e) in
    (omega (arith, more, past.0, few), λ h. omega (arith, more, past.0, few))
sequences_metas_at s n p few (inr ne) =
    let more = sequences_of-more (starting_metas s n) (starting_meta s n) p in
    let past = past_other p (first_key n) (λ t same. ne (ap (partition_by 0) same)) in
    (omega (arith, more, past.0, few), at_case more past.0)
  where
    at_case :
        sequences_of (starting_metas s (suc n)) p
        ≡ max (sequences_of (starting_metas s n) p) (past_key p (first_key n))
        → past_key p (first_key n) ≡ 0
        → (sequences_of (starting_metas s n) p ≡ 1) ⊎ (n ≡ p.0)
        → sequences_of (starting_metas s (suc n)) p ≡ 1
    at_case more none (inl one) = omega (arith, more, none, one)
    at_case more none (inr e) = absurd (ne e)

sequences_few : (s : Starting) (n : ℕ) (p : Partition) → sequences_of (starting_metas s n) p ≤ 1
sequences_few s zero p = omega arith
sequences_few s (suc n) p =
    (sequences_metas_at s n p (sequences_few s n p) (cases_eq n p.0)).0

sequences_metas :
    (s : Starting) (n : ℕ) (p : Partition) → p.0 < n → sequences_of (starting_metas s n) p ≡ 1
sequences_metas s zero p lt = absurd (omega arith)
sequences_metas s (suc n) p lt =
    (sequences_metas_at s n p (sequences_few s n p) (cases_eq n p.0)).1
    (either n p.0 ((sequences_of (starting_metas s n) p ≡ 1) ⊎ (n ≡ p.0))
    (λ same. inr same)
    (λ ne. inl (sequences_metas s n p (omega arith))))

sequences_start : (s : Starting) (p : Partition) → p.0 < s.partitions → sequences_of (starting_contents s) p ≡ 1
sequences_start s p lt =
    sequences_of-more (before_ideal s) (starting_ideal s) p
    ∙ omega (
      arith,
      sequences_of-append (starting_boots s.servers) (starting_metas s s.partitions) p,
      sequences_boots s.servers p,
      sequences_metas s s.partitions p lt,
    )

deletions_boots : (n : ℕ) (p : Partition) → deletions_of (starting_boots n) p ≡ 0
deletions_boots zero p = refl
deletions_boots (suc n) p =
    deletions_of-kept (starting_boots n) (starting_boot n) p refl ∙ deletions_boots n p

deletions_metas : (s : Starting) (m n : ℕ) (p : Partition) → deletions_of (starting_boots m ++ starting_metas s n) p ≡ 0
deletions_metas s m zero p = ap (λ h. deletions_of h p) (append-nil (starting_boots m)) ∙ deletions_boots m p
deletions_metas s m (suc n) p =
    ap
    (λ h. deletions_of h p)
    (sym (append_assoc (starting_boots m) (starting_metas s n) (starting_meta s n ∷ [])))
    ∙ deletions_of-kept (starting_boots m ++ starting_metas s n) (starting_meta s n) p refl
    ∙ deletions_metas s m n p

deletions_start : (s : Starting) (p : Partition) → deletions_of (starting_contents s) p ≡ 0
deletions_start s p =
    deletions_of-kept (before_ideal s) (starting_ideal s) p refl ∙ deletions_metas s s.servers s.partitions p

pub InOrder-start : (s : Starting) (p : Partition) → p.0 < s.partitions → InOrder (starting_contents s) p
InOrder-start s p lt =
    let h = starting_contents s in
    let life = life_of h p in
    let first = life_first s p lt in
    let later = life_later s p in
    IsOrdered-same life life 0 1 (deletions_of h p) (sequences_of h p) (λ t. refl) (deletions_start s p) (sequences_start s p lt)
    (record {
      lives = λ t.
          either t 0 (IsLife (life t))
          (λ same. IsLife-same (life t) (starting_meta s p.0 ∷ []) (ap life same ∙ first) tt)
          (λ ne. IsLife-same (life t) [] (later t ne) tt);
      linked = λ t.
          IsLinked-same (life t) (life t) (life (t + 1)) [] refl (later (t + 1) (λ q. absurd (omega arith)))
          (linked_to_none (life t));
      begun = λ t below.
          omega (arith, length_same (life t) (starting_meta s p.0 ∷ []) (ap life (omega arith) ∙ first));
      ahead = λ t le. later t (λ q. absurd (omega arith));
      over = λ t below. absurd (omega arith);
      present = λ t le.
          either t 0 (length (life t) < 3)
          (λ same. omega (arith, length_same (life t) (starting_meta s p.0 ∷ []) (ap life same ∙ first)))
          (λ ne. omega (arith, length_same (life t) [] (later t ne)));
      some = omega arith;
      zero_start = ap start_in first;
    })
