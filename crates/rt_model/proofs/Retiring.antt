-- What a retirement has read makes what it writes lawful.
use Rattle.std.proofs.Common.{◌≡◌, ℕ, zero, suc, ◌+◌, ◌-◌, ◌<◌, ◌≤◌, ◌⊎◌, inl, inr, List, ◌∷◌, ◌++◌, map, length, Some, refl, sym, ◌∙◌, ap, subst, arith}
use Rattle.std.specs.Prelude.{IsTrue, IsFalse}
use Rattle.std.specs.List.{range_with_len}
use Rattle.std.proofs.lemmas.Bool.{both_ways, cases_eq, cases_lt}
use Rattle.std.proofs.lemmas.List.{length-map}
use Rattle.std.proofs.lemmas.List.FromFn.{length-range_with_len}
use Rattle.rt_base.specs.declared.numbers.Partition.{Partition}
use Rattle.rt_base.specs.declared.numbers.Sequence.{Sequence}
use Rattle.rt_lists.specs.Members.{Has}
use Rattle.rt_lists.proofs.Members.{Has-append_left}
use Rattle.rt_model.specs.declared.ideal_state.IdealEntry.{IdealEntry}
use Rattle.rt_model.specs.declared.ideal_state.IdealState.{IdealState}
use Rattle.rt_model.specs.declared.node.Key.TheVariants as key
use Rattle.rt_model.specs.declared.node.Listed.{Listed}
use Rattle.rt_model.specs.declared.node.Node.TheVariants as node
use Rattle.rt_model.specs.declared.node.Seen.{Seen}
use Rattle.rt_model.specs.Chain.{InOrder, deletions_of}
use Rattle.rt_model.specs.Entries.{entries_by, entries_of, HasEntry}
use Rattle.rt_model.specs.History.{last_write}
use Rattle.rt_model.specs.Ideal.{has_entry, next_sequence, remove_segment_of}
use Rattle.rt_model.specs.Lawful.{IsIdealStep, removes, IdealHasLeft, Retires, IsLawfulDelete, IsLawfulHistory}
use Rattle.rt_model.specs.Laws.{HasRead}
use Rattle.rt_model.specs.Metadata.{listed_write, metadata_of, sequences_of, IsOpen, IsCreated, IsDeleted}
use Rattle.rt_model.specs.Starting.{Starting, IsAssigned}
use Rattle.rt_model.proofs.Chains.{InOrder-chain}
use Rattle.rt_model.proofs.Histories.{value_of-last}
use Rattle.rt_model.proofs.IdealStates.{Covers, all_cover}
use Rattle.rt_model.proofs.Kept.{key_family, last_write-Has, lawful_kept, entries_of-last, present_is}
use Rattle.rt_model.proofs.Lawful.{prefix_is_lawful}
use Rattle.rt_model.proofs.Listings.{below_deleted, listed_has, InOrder-listing}
use Rattle.rt_model.proofs.Partitions.{HasNode-more}

-- the first number of a run, and how many there are
run_first : (x : ℕ) (xs : List ℕ) (a n : ℕ) → x ∷ xs ≡ range_with_len a n → x ≡ a
run_first x xs a zero e = absurd (cc)
run_first x xs a (suc n) e = cc

-- ---- what the list tells

-- the segment that was listed first is the lowest that isn't deleted, and the one after it was created
record IsLowest (h : List Seen) (p : Partition) (q : ℕ) : Type 0 where
  pub below : (t : ℕ) → t < q → IsDeleted h p t
  pub next : IsCreated h p (q + 1)

front_order : (s : Starting) (h more : List Seen) (p : Partition) (first : Listed) (rest : List Listed) (state : IdealState)
    → HasRead s h more p first rest state → InOrder h p
front_order s h more p first rest state r =
    (lawful_kept s h (prefix_is_lawful s h more r.begins r.lawful)).order p r.within

lowest_listed :
    (h : List Seen) (p : Partition) (first : Listed) (rest : List Listed) → InOrder h p
    → metadata_of h p ≡ first ∷ rest → 0 < length rest → IsLowest h p first.sequence.0
lowest_listed h p first rest o listed followed =
    let numbers : List Listed → List ℕ = λ ls. map (λ l. l.sequence.0) ls in
    let run : first.sequence.0 ∷ map (λ l. l.sequence.0) rest ≡ range_with_len (deletions_of h p) (sequences_of h p - deletions_of h p) =
    sym (ap numbers listed) ∙ (InOrder-listing h p o).run in
    let lowest : first.sequence.0 ≡ deletions_of h p =
    run_first first.sequence.0 (map (λ l. l.sequence.0) rest) (deletions_of h p) (sequences_of h p - deletions_of h p) run in
    let few = length-range_with_len (deletions_of h p) (sequences_of h p - deletions_of h p) in
    let same = length-map rest (λ (l : Listed). l.sequence.0) in
    let created = (InOrder-chain h p o).created (first.sequence.0 + 1) (omega (arith, lowest, ap length run, few, same, followed)) in
    record {
      below = λ t lt. below_deleted h p t o (omega (arith, lowest, lt));
      next = (created.0, created.1.has, created.1.is_of, created.1.starts);
    }

-- ---- what the ideal state tells

-- the entries that were read are those of the present ideal state of that front
record IsRead (s : Starting) (h : List Seen) (p : Partition) (es : List IdealEntry) : Type 0 where
  pub covered : Covers p es
  pub passed : (t u : ℕ) → IsDeleted h p t → HasEntry es p u → t < u

entries_read : (es fs : List IdealEntry) → es ≡ fs → (P : List IdealEntry → Type 0) → P es → P fs
entries_read es fs e P x = subst P e x

read_now :
    (s : Starting) (h : List Seen) (p : Partition) (state : IdealState) (w : Seen) → IsAssigned s
    → IsLawfulHistory s h → p.0 < s.partitions → last_write h key.Ideal ≡ Some w → w.node ≡ node.Ideal state
    → IsRead s h p state.entries
read_now s h p state w assigned l within last is =
    let by : entries_by w.node ≡ state.entries = ap entries_by is in
    let now : state.entries ≡ entries_of h = sym (entries_of-last h w last ∙ by) in
    record {
      covered = entries_read (entries_by w.node) state.entries by (Covers p) (all_cover s h p assigned l within w (present_is h w last));
      passed = λ t u deleted has.
          ((lawful_kept s h l).passed p t deleted).all u
          (entries_read state.entries (entries_of h) now (λ es. HasEntry es p u) has);
    }

-- entries that are all past some segments, and have none of the one after these, have one of a later segment
one_later :
    (es : List IdealEntry) (p : Partition) (q : ℕ) → Covers p es → ((t : ℕ) → t < q → HasEntry es p t → ⊥)
    → (HasEntry es p q → ⊥) → (t : ℕ) × (q < t) × HasEntry es p t
one_later es p q (t, has) below none = (t, above (cases_lt q t), has)
  where
    at_most : (t ≡ q) ⊎ (t ≡ q → ⊥) → t ≤ q → q < t
    at_most (inl e) le = let P : ℕ → Type 0 = λ x. HasEntry es p x in absurd (none (subst P e has))
    at_most (inr ne) le = absurd (below t (strict (cases_lt t q)) has)
      where
        strict : (t < q) ⊎ (q ≤ t) → t < q
        strict (inl lt) = lt
        strict (inr ge) = absurd (ne (omega arith))

    above : (q < t) ⊎ (t ≤ q) → q < t
    above (inl lt) = lt
    above (inr le) = at_most (cases_eq t q) le

-- ---- what it writes

deleted_by_then : (h more : List Seen) (p : Partition) (t : ℕ) → IsDeleted h p t → IsDeleted (h ++ more) p t
deleted_by_then h more p t d = HasNode-more h more p t (λ n. n ≡ node.Gone) d

seen_by_then : (h more later : List Seen) (w : Seen) → Has h w → Has ((h ++ more) ++ later) w
seen_by_then h more later w has = Has-append_left (h ++ more) later w (Has-append_left h more w has)

left_by_then :
    (s : Starting) (h more later : List Seen) (p : Partition) (first : Listed) (rest : List Listed) (state : IdealState)
    → IsAssigned s → HasRead s h more p first rest state → IsFalse (has_entry state.entries p first.sequence)
    → IsLowest h p first.sequence.0
    → IdealHasLeft ((h ++ more) ++ later) p first.sequence.0
left_by_then s h more later p first rest state assigned r none low =
    let w = r.read.0 in
    let last = (value_of-last (h ++ more) key.Ideal w r.read.1).0 in
    let has = last_write-Has (h ++ more) key.Ideal w last in
    let now = read_now s (h ++ more) p state w assigned r.lawful r.within last r.read.2 in
    let past = one_later state.entries p first.sequence.0 now.covered
    (λ t lt at_t.
    let above : t < t = now.passed t t (deleted_by_then h more p t (low.below t lt)) at_t in absurd (omega arith))
    (λ at_q. both_ways (has_entry state.entries p first.sequence) none at_q) in
    (w, state, Has-append_left (h ++ more) later w has.0, has.1, r.read.2, (none, past))

pub deletes_lawfully :
    (s : Starting) (h more later : List Seen) (p : Partition) (first : Listed) (rest : List Listed) (state : IdealState)
    → IsAssigned s → HasRead s h more p first rest state → IsFalse (has_entry state.entries p first.sequence)
    → IsLawfulDelete ((h ++ more) ++ later) (listed_write p first)
deletes_lawfully s h more later p first rest state assigned r none =
    let low = lowest_listed h p first rest (front_order s h more p first rest state r) r.listed r.followed in
    let among : Has (metadata_of h p) first =
    (let P : List Listed → Type 0 = λ ls. Has ls first in subst P (sym r.listed) (inl refl)) in (
      seen_by_then h more later (listed_write p first) (listed_has h p first among),
      (
        r.ended,
        HasNode-more (h ++ more) later p (first.sequence.0 + 1) IsOpen (HasNode-more h more p (first.sequence.0 + 1) IsOpen low.next),
        λ t lt. deleted_by_then (h ++ more) later p t (deleted_by_then h more p t (low.below t lt)),
        left_by_then s h more later p first rest state assigned r none low,
      ),
    )

pub removes_lawfully :
    (s : Starting) (h more later : List Seen) (p : Partition) (first : Listed) (rest : List Listed) (state : IdealState)
    → HasRead s h more p first rest state → IsTrue (has_entry state.entries p (next_sequence first.sequence))
    → IsIdealStep ((h ++ more) ++ later) state.entries (remove_segment_of state.entries p first.sequence)
removes_lawfully s h more later p first rest state r next =
    let low = lowest_listed h p first rest (front_order s h more p first rest state r) r.listed r.followed in
    let among : Has (metadata_of h p) first =
    (let P : List Listed → Type 0 = λ ls. Has ls first in subst P (sym r.listed) (inl refl)) in
    removes p first.sequence
    (listed_write p first, seen_by_then h more later (listed_write p first) (listed_has h p first among), refl, r.ended)
    (λ t lt. deleted_by_then (h ++ more) later p t (deleted_by_then h more p t (low.below t lt)))
    next
    refl

-- ---- what is no witness

pub no_witness :
    (seen : List Seen) (from : Seen) (p : Partition) (q : Sequence) → from.key ≡ key.Meta p q
    → ((w : Seen) (i : IdealState) → Has seen w → w.node ≡ node.Ideal i
    → HasEntry i.entries p q.0 ⊎ ((t : ℕ) → HasEntry i.entries p t → t < q.0))
    → IsLawfulDelete seen from → ⊥
no_witness seen from p q at all lawful = by_witness (key_family (λ k. Retires seen k from.node) from.key (key.Meta p q) at lawful.1).3
  where
    at_state :
        (i : IdealState) → IsFalse (has_entry i.entries p q) → (t : ℕ) → q.0 < t → HasEntry i.entries p t
        → HasEntry i.entries p q.0 ⊎ ((t : ℕ) → HasEntry i.entries p t → t < q.0) → ⊥
    at_state i none t lt has (inl there) = both_ways (has_entry i.entries p q) none there
    at_state i none t lt has (inr before) = omega (arith, before t has)

    by_witness : IdealHasLeft seen p q.0 → ⊥
    by_witness (w, i, has, ideal, made, (none, (t, lt, there))) = at_state i none t lt there (all w i has made)
