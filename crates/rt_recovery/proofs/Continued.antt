-- What the three writes of a commit leave of partitions that go on: the segment Done, the next one in progress, and its entries.
use Rattle.std.proofs.Common.{◌≡◌, ◌⊎◌, inl, inr, ℕ, zero, suc, ◌+◌, ◌<◌, ◌≤◌, Bool, true, false, cond, List, [], ◌∷◌, ◌++◌, length, map, Some, None, refl, sym, ◌∙◌, ap, subst, arith}
use Rattle.std.specs.Prelude.{option_to_list}
use Rattle.std.proofs.lemmas.Bool.{cases_lt, eq-eqb, false_from_ne_true, true≢false}
use Rattle.std.proofs.lemmas.Option.{same_Some}
use Rattle.rt_base.specs.declared.numbers.Instance.{Instance}
use Rattle.rt_base.specs.declared.numbers.Partition.{Partition}
use Rattle.rt_base.specs.declared.numbers.Sequence.{Sequence}
use Rattle.rt_ideal.specs.Setting.{consuming_on}
use Rattle.rt_ideal.proofs.Setting.{commit_consumes}
use Rattle.rt_lists.specs.Members.{Has}
use Rattle.rt_lists.proofs.Members.{map-Has, Has-append_left, Has-push_cases}
use Rattle.rt_model.specs.Chain.{deletions_of, InOrder, IsLinked}
use Rattle.rt_model.specs.Entries.{entries_by, entries_of, HasEntry}
use Rattle.rt_model.specs.History.{last_of, last_write, value_in, value_of}
use Rattle.rt_model.specs.Ideal.{commit_step_of, has_entry, is_of, next_sequence, turned_online, with_consuming}
use Rattle.rt_model.specs.Lawful.{IsLawfulHistory}
use Rattle.rt_model.specs.Metadata.{life_of, listed_in, listed_write, metadata_below, metadata_of, node_key, sequences_of, IsDone, IsDoneStatus, IsInProgress, IsOpen}
use Rattle.rt_model.specs.Repair.{last_listed}
use Rattle.rt_model.specs.Starting.{Starting}
use Rattle.rt_model.specs.declared.ideal_state.IdealEntry.{IdealEntry}
use Rattle.rt_model.specs.declared.ideal_state.Mode.TheVariants.{Consuming, Online}
use Rattle.rt_model.specs.declared.node.Key.TheVariants as key
use Rattle.rt_model.specs.declared.node.Listed.{Listed}
use Rattle.rt_model.specs.declared.node.Node.TheVariants as node
use Rattle.rt_model.specs.declared.node.Seen.{Seen}
use Rattle.rt_model.specs.declared.seg_meta.SegMeta.{SegMeta}
use Rattle.rt_model.proofs.Chains.{IsDone-final}
use Rattle.rt_model.proofs.Entries.{entry_names, is_of-true, names_entry, with_consuming-Has}
use Rattle.rt_model.proofs.Lawful.{has_chains, nodes_are_in_order}
use Rattle.rt_model.proofs.Listings.{listed_value}
use Rattle.rt_model.proofs.Lives.{length_same, life_open, linked_open, open_undone}
use Rattle.rt_model.proofs.Partitions.{begun_within}
use Rattle.rt_repair.proofs.LastSegment.{last_listed_has}
use Rattle.rt_repair.proofs.Lists.{last_of_pushed}
use Rattle.rt_repair.proofs.Settling.{last_sequence}
use Rattle.rt_repair.proofs.Standing.{entries_other, entries_written, listed_last, listed_other, unwritten}
use Rattle.rt_heal.specs.Turned.{NoneHalfRetired}
use Rattle.rt_heal.proofs.Asked.{mode_asked, IsAsked}
use Rattle.rt_heal.proofs.Listed.{ended_once, tiled_to_last}
use Rattle.rt_heal.proofs.Mended.{present_grounded}
use Rattle.rt_heal.proofs.Turning.{entry_created}
use Rattle.rt_recovery.specs.GoingOn.{GoesOnWhole}

-- ---- entries

-- an entry is there with its place, and is the same where it is one of another segment
record HasStayed (fs : List IdealEntry) (p : Partition) (q : Sequence) (e : IdealEntry) : Type 0 where
  entry : IdealEntry
  there : Has fs entry
  partition : entry.partition ≡ e.partition
  sequence : entry.sequence ≡ e.sequence
  same : is_of p q e ≡ false → entry ≡ e

stayed : (fs : List IdealEntry) (p : Partition) (q : Sequence) (e : IdealEntry) → Has fs e → HasStayed fs p q e
stayed fs p q e has = record { entry = e; there = has; partition = refl; sequence = refl; same = λ other. refl }

turned_stays : (fs : List IdealEntry) (p : Partition) (q : Sequence) (e : IdealEntry) → Has fs (turned_online p q e) → HasStayed fs p q e
turned_stays fs p q e has = by_own (is_of p q e) refl has
  where
    by_own : (b : Bool) → is_of p q e ≡ b → Has fs (cond b (record e { mode = Online }) e) → HasStayed fs p q e
    by_own false is there = stayed fs p q e there
    by_own true is there =
        record {
          entry = record e { mode = Online };
          there = there;
          partition = refl;
          sequence = refl;
          same = λ other. absurd (true≢false (sym is ∙ other));
        }

commit_stays : (es : List IdealEntry) (p : Partition) (q : Sequence) (next : List Instance) (e : IdealEntry) → Has es e
    → HasStayed (commit_step_of es p q next) p q e
commit_stays es p q next e has = by_tests (has_entry es p q) (has_entry es p (next_sequence q))
  where
    online : List IdealEntry
    online = map (turned_online p q) es

    turned : Has online (turned_online p q e)
    turned = map-Has (turned_online p q) es e has

    by_tests : (b c : Bool) → HasStayed (cond b (cond c online (with_consuming online p (next_sequence q) next)) es) p q e
    by_tests true true = turned_stays online p q e turned
    by_tests true false =
        turned_stays (with_consuming online p (next_sequence q) next) p q e
        (with_consuming-Has online p (next_sequence q) next (turned_online p q e) turned)
    by_tests false c = stayed es p q e has

-- each segment that has entries keeps some
commit_keeps : (es : List IdealEntry) (p : Partition) (q : Sequence) (next : List Instance) (o : Partition) (t : ℕ) → HasEntry es o t
    → HasEntry (commit_step_of es p q next) o t
commit_keeps es p q next o t has =
    let n = entry_names es o (record { 0 = t }) has in
    let x = commit_stays es p q next n.0 n.1 in
    names_entry (commit_step_of es p q next) o (record { 0 = t })
    (x.entry, x.there, x.partition ∙ n.2, ap (λ (s : Sequence). s.0) x.sequence ∙ n.3)

-- an entry of another partition is there as it was
pub commit_spares : (es : List IdealEntry) (p : Partition) (q : Sequence) (next : List Instance) (e : IdealEntry) → Has es e → (e.partition ≡ p → ⊥)
    → Has (commit_step_of es p q next) e
commit_spares es p q next e has other =
    let x = commit_stays es p q next e has in
    subst (Has (commit_step_of es p q next)) (x.same (false_from_ne_true (is_of p q e) (λ is. other (is_of-true p q e is).0))) x.there

-- some instance consumes what goes to some
first_consumes : (next : List Instance) → 0 < length next → (i : Instance) × (consuming_on next i ≡ Some Consuming)
first_consumes [] some = absurd (omega (arith, some))
first_consumes (i ∷ is) some = (i, ap (λ b. cond b (Some Consuming) (consuming_on is i)) (eq-eqb i.0 i.0 refl))

-- ---- segments

-- a partition's last segment is Done, and has entries; so has each committed one
pub record IsDoneLast (h : List Seen) (p : Partition) (q : Sequence) : Type 0 where
  pub last : Listed
  pub is_last : last_listed (metadata_of h p) ≡ Some last
  pub is : last.sequence ≡ q
  pub entered : has_entry (entries_of h) p q ≡ true
  pub whole : NoneHalfRetired h p

-- the next one is in progress, and has none yet
pub record IsNextLast (h : List Seen) (p : Partition) (q : Sequence) : Type 0 where
  pub last : Listed
  pub is_last : last_listed (metadata_of h p) ≡ Some last
  pub is : last.sequence ≡ next_sequence q
  pub consumes : IsInProgress last.seen.meta.status
  pub entered : has_entry (entries_of h) p q ≡ true
  pub unentered : has_entry (entries_of h) p (next_sequence q) ≡ false
  pub whole : NoneHalfRetired h p

-- a node that is written, as it is listed
abbrev listed_as : ℕ → ℕ → SegMeta → Listed
listed_as q version m = record { sequence = record { 0 = q }; seen = record { version = version; meta = m } }

node_apart : (p : Partition) (n : ℕ) → node_key p n ≡ key.Ideal → ⊥
node_apart p n e = cc

-- what is listed below a number is listed below a higher one
below_has : (h : List Seen) (p : Partition) (n k : ℕ) (l : Listed) → n ≤ k → Has (metadata_below h p n) l → Has (metadata_below h p k) l
below_has h p n zero l le has =
    let none : n ≡ 0 = omega (arith, le) in subst (λ (m : ℕ). Has (metadata_below h p m) l) none has
below_has h p n (suc k) l le has = by_place (cases_lt k n) (below_has h p n k l)
  where
    by_place : (k < n) ⊎ (n ≤ k) → (n ≤ k → Has (metadata_below h p n) l → Has (metadata_below h p k) l) → Has (metadata_below h p (suc k)) l
    by_place (inl lt) further =
        let same : n ≡ suc k = omega (arith, lt, le) in subst (λ (m : ℕ). Has (metadata_below h p m) l) same has
    by_place (inr within) further =
        Has-append_left (metadata_below h p k) (option_to_list (listed_in k (value_of h (node_key p k)))) l (further within has)

-- ---- a node is written

module _ (h : List Seen) (p : Partition) (n : ℕ) (w : Seen) (m : SegMeta) (is : w.key ≡ node_key p n) (meta : w.node ≡ node.Meta m) (few : sequences_of h p ≤ suc n) where
  abbrev g : List Seen
  g = h ++ w ∷ []

  -- the entries are as they were
  node_entries : entries_of g ≡ entries_of h
  node_entries = entries_other h w (λ e. node_apart p n (sym is ∙ e))

  -- it is the last one
  written_last : last_listed (metadata_of g p) ≡ Some (listed_as n w.version m)
  written_last = ap last_listed (listed_last h w p n m is meta few) ∙ last_of_pushed (metadata_below h p n) (listed_as n w.version m)

  still_whole : n ≤ sequences_of h p → NoneHalfRetired h p → (IsDoneStatus m.status → HasEntry (entries_of h) p n) → NoneHalfRetired g p
  still_whole least whole own l has done =
      by_place (Has-push_cases (metadata_below h p n) (listed_as n w.version m) l (subst (λ (ls : List Listed). Has ls l) (listed_last h w p n m is meta few) has))
    where
      kept : (t : ℕ) → HasEntry (entries_of h) p t → HasEntry (entries_of g) p t
      kept t k = subst (λ (es : List IdealEntry). HasEntry es p t) (sym node_entries) k

      by_place : Has (metadata_below h p n) l ⊎ (listed_as n w.version m ≡ l) → HasEntry (entries_of g) p l.sequence.0
      by_place (inl before) = kept l.sequence.0 (whole l (below_has h p n (sequences_of h p) l least before) done)
      by_place (inr same) =
          subst (λ (x : Listed). HasEntry (entries_of g) p x.sequence.0) same
          (kept n (own (subst (λ (x : Listed). IsDoneStatus x.seen.meta.status) (sym same) done)))

-- ---- of a partition

module _ (s : Starting) (h : List Seen) (p : Partition) (q : Sequence) (within : p.0 < s.partitions) (lawful : IsLawfulHistory s h) where
  -- a segment in progress that stands is the last one
  open_last : (from : Seen) → last_write h (node_key p q.0) ≡ Some from → IsOpen from.node → sequences_of h p ≡ q.0 + 1
  open_last from last opens = by_place (cases_lt (q.0 + 1) (sequences_of h p))
    where
      order : InOrder h p
      order = nodes_are_in_order s h lawful p within

      life : life_of h p q.0 ≡ from ∷ []
      life = life_open (life_of h p q.0) from (order.lives q.0) last opens

      begun : q.0 < sequences_of h p
      begun =
          begun_within (life_of h p) (deletions_of h p) (sequences_of h p) q.0 order
          (omega (arith, length_same (life_of h p q.0) (from ∷ []) life))

      none : life_of h p (q.0 + 1) ≡ []
      none =
          linked_open from (life_of h p (q.0 + 1))
          (subst (λ (ws : List Seen). IsLinked ws (life_of h p (q.0 + 1))) life (order.linked q.0))

      by_place : (q.0 + 1 < sequences_of h p) ⊎ (sequences_of h p ≤ q.0 + 1) → sequences_of h p ≡ q.0 + 1
      by_place (inl more) = absurd (omega (arith, order.begun (q.0 + 1) more, length_same (life_of h p (q.0 + 1)) [] none))
      by_place (inr least) = omega (arith, least, begun)

  -- the last one becomes Done
  pub done_last : (from w : Seen) (m : SegMeta) → last_write h (node_key p q.0) ≡ Some from → IsOpen from.node → w.key ≡ node_key p q.0
      → w.node ≡ node.Meta m → IsDoneStatus m.status → GoesOnWhole h p → IsDoneLast (h ++ w ∷ []) p q
  done_last from w m last opens is meta done goes =
      record {
        last = listed_as q.0 w.version m;
        is_last = written_last h p q.0 w m is meta few;
        is = refl;
        entered = subst (λ (es : List IdealEntry). has_entry es p q ≡ true) (sym (node_entries h p q.0 w m is meta few)) own;
        whole = still_whole h p q.0 w m is meta few (omega (arith, count)) goes.1 (λ so. own);
      }
    where
      count : sequences_of h p ≡ q.0 + 1
      count = open_last from last opens

      few : sequences_of h p ≤ suc q.0
      few = omega (arith, count)

      at : goes.0.last.sequence.0 ≡ q.0
      at = omega (arith, count, last_sequence s h p goes.0.last lawful within goes.0.is_last)

      own : has_entry (entries_of h) p q ≡ true
      own =
          names_entry (entries_of h) p q
          (goes.0.entry, goes.0.there, goes.0.is_of.0, ap (λ (x : Sequence). x.0) goes.0.is_of.1 ∙ at)

  module _ (k : IsDoneLast h p q) where
    done_count : sequences_of h p ≡ q.0 + 1
    done_count = omega (arith, last_sequence s h p k.last lawful within k.is_last, ap (λ (x : Sequence). x.0) k.is)

    -- what made it Done stands
    pub done_stands : (done : Seen) → Has h done → done.key ≡ node_key p q.0 → IsDone done.node → value_of h (node_key p q.0) ≡ Some done
    done_stands done has is so =
        let r = last_listed_has s h p lawful within in
        let listed : Has (metadata_of h p) k.last = subst (Has (metadata_of h p)) (same_Some r.0 k.last (sym r.1 ∙ k.is_last)) r.2 in
        let once : done ≡ listed_write p k.last =
        ended_once s h p lawful within k.last done listed
        (record { has = has; is_of = is ∙ ap (λ (x : Sequence). node_key p x.0) (sym k.is); final = IsDone-final done.node so }) in
        ap (λ (x : Sequence). value_of h (node_key p x.0)) (sym k.is) ∙ listed_value h p k.last listed ∙ ap (λ (x : Seen). Some x) (sym once)

    -- the next one was never written
    pub next_absent : value_of h (node_key p (q.0 + 1)) ≡ None
    next_absent =
        ap (λ (ws : List Seen). value_in (last_of ws))
        (unwritten h (node_key p (q.0 + 1))
        (λ w has at. (has_chains s h lawful p within).uncreated (q.0 + 1) w (omega (arith, done_count)) has at))

    next_unentered : has_entry (entries_of h) p (next_sequence q) ≡ false
    next_unentered =
        false_from_ne_true (has_entry (entries_of h) p (next_sequence q))
        (λ has.
        let made = entry_created h (entries_of h) p (q.0 + 1) (present_grounded s h lawful) has in
        (has_chains s h lawful p within).uncreated (q.0 + 1) made.0 (omega (arith, done_count)) made.1 made.2)

    -- the next one is created
    pub next_last : (w : Seen) (m : SegMeta) → w.key ≡ node_key p (q.0 + 1) → w.node ≡ node.Meta m → IsInProgress m.status
        → IsNextLast (h ++ w ∷ []) p q
    next_last w m is meta opens =
        let n = q.0 + 1 in
        let few : sequences_of h p ≤ suc n = omega (arith, done_count) in
        let entries = node_entries h p n w m is meta few in
        record {
          last = listed_as n w.version m;
          is_last = written_last h p n w m is meta few;
          is = refl;
          consumes = opens;
          entered = subst (λ (es : List IdealEntry). has_entry es p q ≡ true) (sym entries) k.entered;
          unentered = subst (λ (es : List IdealEntry). has_entry es p (next_sequence q) ≡ false) (sym entries) next_unentered;
          whole =
              still_whole h p n w m is meta few (omega (arith, done_count)) k.whole
              (λ done. absurd (open_undone (node.Meta m) opens done));
        }

  -- the next one gets its entries
  pub commit_goes_on : (w : Seen) (next : List Instance) → w.key ≡ key.Ideal → entries_by w.node ≡ commit_step_of (entries_of h) p q next → 0 < length next
      → IsLawfulHistory s (h ++ w ∷ []) → IsNextLast h p q → GoesOnWhole (h ++ w ∷ []) p
  commit_goes_on w next is step some after k = (
    record {
      last = k.last;
      is_last = is_last;
      consumes = k.consumes;
      tiled = tiled_to_last s (h ++ w ∷ []) p after within k.last is_last k.consumes;
      entry = asked.entry;
      there = subst (λ (es : List IdealEntry). Has es asked.entry) (sym entries) asked.there;
      is_of = (asked.partition, asked.sequence ∙ sym k.is);
      to_consume = asked.mode;
    },
    λ l has done.
        subst (λ (es : List IdealEntry). HasEntry es p l.sequence.0) (sym entries)
        (commit_keeps (entries_of h) p q next p l.sequence.0 (k.whole l (subst (λ (ls : List Listed). Has ls l) listed has) done)),
  )
    where
      entries : entries_of (h ++ w ∷ []) ≡ commit_step_of (entries_of h) p q next
      entries = entries_written h w is ∙ step

      listed : metadata_of (h ++ w ∷ []) p ≡ metadata_of h p
      listed = listed_other h w p (λ t e. node_apart p t (sym e ∙ is))

      is_last : last_listed (metadata_of (h ++ w ∷ []) p) ≡ Some k.last
      is_last = ap last_listed listed ∙ k.is_last

      first : (i : Instance) × (consuming_on next i ≡ Some Consuming)
      first = first_consumes next some

      asked : IsAsked (commit_step_of (entries_of h) p q next) p (next_sequence q) first.0 Consuming
      asked =
          mode_asked (commit_step_of (entries_of h) p q next) p (next_sequence q) first.0 Consuming
          (commit_consumes (entries_of h) p q next first.0 k.entered k.unentered ∙ first.1)

-- ---- of another partition

-- no node of it is written, and its entries stay
pub other_goes_on : (s : Starting) (h : List Seen) (w : Seen) (o : Partition) → o.0 < s.partitions → IsLawfulHistory s (h ++ w ∷ [])
    → ((t : ℕ) → w.key ≡ node_key o t → ⊥) → ((e : IdealEntry) → Has (entries_of h) e → e.partition ≡ o → Has (entries_of (h ++ w ∷ [])) e)
    → GoesOnWhole h o → GoesOnWhole (h ++ w ∷ []) o
other_goes_on s h w o within after apart keeps k = (
  record {
    last = k.0.last;
    is_last = is_last;
    consumes = k.0.consumes;
    tiled = tiled_to_last s (h ++ w ∷ []) o after within k.0.last is_last k.0.consumes;
    entry = k.0.entry;
    there = keeps k.0.entry k.0.there k.0.is_of.0;
    is_of = k.0.is_of;
    to_consume = k.0.to_consume;
  },
  λ l has done.
      let n = entry_names (entries_of h) o l.sequence (k.1 l (subst (λ (ls : List Listed). Has ls l) listed has) done) in
      names_entry (entries_of (h ++ w ∷ [])) o l.sequence (n.0, keeps n.0 n.1 n.2, n.2, n.3),
)
  where
    listed : metadata_of (h ++ w ∷ []) o ≡ metadata_of h o
    listed = listed_other h w o apart

    is_last : last_listed (metadata_of (h ++ w ∷ []) o) ≡ Some k.0.last
    is_last = ap last_listed listed ∙ k.0.is_last
