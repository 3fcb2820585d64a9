-- How much retirements of a partition have still to do: two steps for each listed segment, and less where the lowest has no entries.
use Rattle.std.proofs.Common.{◌≡◌, inl, inr, ℕ, ◌+◌, ◌-◌, ◌*◌, ◌<◌, ◌≤◌, Bool, true, false, cond, not, eqb, List, [], ◌∷◌, ◌++◌, Option, Some, None, refl, sym, ◌∙◌, ap, subst, arith, length}
use Rattle.std.specs.Prelude.{◌||◌}
use Rattle.std.proofs.lemmas.Bool.{and_from, cond-true, eq-eqb}
use Rattle.std.proofs.lemmas.List.{length-map}
use Rattle.std.proofs.lemmas.List.FromFn.{length-range_with_len}
use Rattle.rt_base.specs.declared.numbers.Moment.{Moment}
use Rattle.rt_base.specs.declared.numbers.Partition.{Partition}
use Rattle.rt_base.specs.declared.numbers.Sequence.{Sequence}
use Rattle.rt_lists.proofs.Members.{front_same}
use Rattle.rt_lists.specs.Members.{Has}
use Rattle.rt_model.proofs.Histories.{value_of-last}
use Rattle.rt_model.proofs.Lawful.{has_chains}
use Rattle.rt_model.proofs.Listings.{has_listings, listed_value}
use Rattle.rt_model.proofs.Partitions.{deletes, deletions_of-more, past_same, sequences_of-more}
use Rattle.rt_model.specs.Chain.{deletions_of, is_gone, is_node_of}
use Rattle.rt_model.specs.Entries.{entries_by, entries_in, entries_of}
use Rattle.rt_model.specs.History.{value_of}
use Rattle.rt_model.specs.Ideal.{has_entry, is_of, remove_segment_of}
use Rattle.rt_model.specs.Lawful.{delete, written_by, IsLawfulHistory}
use Rattle.rt_model.specs.Metadata.{listed_write, metadata_of, node_key, sequences_of}
use Rattle.rt_model.specs.Starting.{Starting}
use Rattle.rt_model.specs.declared.ideal_state.IdealEntry.{IdealEntry}
use Rattle.rt_model.specs.declared.node.Key.TheVariants as key
use Rattle.rt_model.specs.declared.node.Listed.{Listed}
use Rattle.rt_model.specs.declared.node.Node.TheVariants as node
use Rattle.rt_model.specs.declared.node.Seen.{Seen}
use Rattle.rt_repair.proofs.Standing.{entries_written, listed_other}
use Rattle.rt_repair.specs.ReadNode.{lowest_listed, read_by}
use Rattle.rt_repair.specs.Retired.{retire_by}
use Rattle.rt_repair.specs.Retirement.{remove_write, Retirement}
use Rattle.rt_repair.specs.Setting.{retire_write_by}
use Rattle.rt_repair.specs.declared.retiring.Retiring.{Retiring}
use Rattle.rt_repair.specs.declared.retiring.Retiring.TheVariants as decision
use Rattle.rt_store.specs.Answers.{change_in, refusal_of}
use Rattle.rt_store.specs.declared.refused.StoreRefused.{StoreRefused}
use Rattle.rt_store.specs.declared.refused.StoreRefused.TheVariants.{VersionChanged}
use Rattle.rt_recovery.proofs.Retired.{first_of, number, removes_its, was_lowest, HasRetired, Wrote}

-- ---- what is left

abbrev one_if : Bool → ℕ
one_if true = 1
one_if false = 0

-- whether there is a segment that can be retired, and has entries
abbrev lowest_entered : List IdealEntry → Partition → Option Listed → Bool
lowest_entered es p None = false
lowest_entered es p (Some l) = has_entry es p l.sequence

abbrev pub left_to_retire : List Seen → Partition → ℕ
left_to_retire h p = 2 * length (metadata_of h p) + one_if (lowest_entered (entries_of h) p (lowest_listed (metadata_of h p)))

one_at_most : (b : Bool) → one_if b ≤ 1
one_at_most true = omega arith
one_at_most false = omega arith

pub left_most : (h : List Seen) (p : Partition) → left_to_retire h p ≤ 2 * length (metadata_of h p) + 1
left_most h p = omega (arith, one_at_most (lowest_entered (entries_of h) p (lowest_listed (metadata_of h p))))

-- ---- how many are listed

pub counted : (s : Starting) (h : List Seen) (p : Partition) → IsLawfulHistory s h → p.0 < s.partitions → length (metadata_of h p) + deletions_of h p ≡ sequences_of h p
counted s h p lawful within =
    let run = ap (λ (xs : List ℕ). length xs) (has_listings s h lawful p within).run in
    omega (
      arith,
      length-map (metadata_of h p) number,
      run,
      length-range_with_len (deletions_of h p) (sequences_of h p - deletions_of h p),
      (has_chains s h lawful p within).some,
    )

-- where a node is deleted there is one less
one_less : (s : Starting) (h : List Seen) (w : Seen) (p : Partition) (q : ℕ) → IsLawfulHistory s h → IsLawfulHistory s (h ++ w ∷ []) → p.0 < s.partitions
    → w.key ≡ node_key p q → w.node ≡ node.Gone → q < sequences_of h p → length (metadata_of (h ++ w ∷ []) p) + 1 ≡ length (metadata_of h p)
one_less s h w p q lawful after within at gone below =
    let same = past_same p w.key q at in
    let test : deletes p w ≡ true = and_from (is_node_of p w.key) (is_gone w.node) same.1 (ap is_gone gone) in
    omega (
      arith,
      counted s h p lawful within,
      counted s (h ++ w ∷ []) p after within,
      sequences_of-more h w p,
      same.0,
      below,
      deletions_of-more h w p,
      ap {B = ℕ} (λ (b : Bool). cond b 1 0) test,
    )

-- no step of a retirement leaves more
pub no_more_listed : (s : Starting) (p : Partition) (now : Moment) (keep : ℕ) (h g : List Seen) → IsLawfulHistory s h → IsLawfulHistory s g → p.0 < s.partitions
    → HasRetired p now keep h g → length (metadata_of g p) ≤ length (metadata_of h p)
no_more_listed s p now keep h g lawful after within (inl same) = omega (arith, ap (λ (f : List Seen). length (metadata_of f p)) same)
no_more_listed s p now keep h g lawful after within (inr (w, more, inl r)) =
    let same = listed_other h w p (λ t e. meta_not_ideal p (record { 0 = t }) (sym e ∙ r.at)) in
    omega (arith, ap (λ (f : List Seen). length (metadata_of f p)) more, ap (λ (ls : List Listed). length ls) same)
  where
    meta_not_ideal : (o : Partition) (t : Sequence) → key.Meta o t ≡ key.Ideal → ⊥
    meta_not_ideal o t e = cc
no_more_listed s p now keep h g lawful after within (inr (w, more, inr d)) =
    let one = one_less s h w p d.segment.sequence.0 lawful (subst (IsLawfulHistory s) more after) within d.at d.is (omega (arith, d.lowest.followed)) in
    omega (arith, ap (λ (f : List Seen). length (metadata_of f p)) more, one)

-- ---- a retirement that decides something

removed_none : (es : List IdealEntry) (p : Partition) (s : Sequence) → has_entry (remove_segment_of es p s) p s ≡ false
removed_none [] p s = refl
removed_none (e ∷ es) p s = by_test (is_of p s e) refl (removed_none es p s)
  where
    by_test : (b : Bool) → is_of p s e ≡ b → has_entry (remove_segment_of es p s) p s ≡ false
        → has_entry (cond (not b) (e ∷ remove_segment_of es p s) (remove_segment_of es p s)) p s ≡ false
    by_test true own rest = rest
    by_test false other rest = ap (λ (b : Bool). b || has_entry (remove_segment_of es p s) p s) other ∙ rest

same_version : (w : Seen) → change_in w.version (Some w) ≡ None
same_version w =
    let changed : Option StoreRefused = Some (VersionChanged w.version w.version) in
    cond-true (eqb w.version w.version) None changed (eq-eqb w.version w.version refl)

module _ (s : Starting) (h g : List Seen) (r : Retirement) (now : Moment) (ideal : Seen) (lawful : IsLawfulHistory s h) (after : IsLawfulHistory s g)
    (within : r.partition.0 < s.partitions) (value : value_of h key.Ideal ≡ Some ideal) (is_ideal : ideal.key ≡ key.Ideal) where
  abbrev p : Partition
  p = r.partition

  entries : entries_of h ≡ entries_by ideal.node
  entries = ap entries_in (value_of-last h key.Ideal ideal value).0

  not_ideal : (t : Sequence) → key.Meta p t ≡ key.Ideal → ⊥
  not_ideal t e = cc

  -- the entries of the lowest one leave
  removal_lessens : (l : Listed) (at : Sequence) → lowest_listed (metadata_of h p) ≡ Some l → l.sequence ≡ at → has_entry (entries_by ideal.node) p l.sequence ≡ true
      → Wrote h g (Some (remove_write r at ideal)) → left_to_retire g p < left_to_retire h p
  removal_lessens l at lowest same has wrote =
      let free : refusal_of h (remove_write r at ideal) ≡ None =
      ap (change_in ideal.version) (ap (value_of h) is_ideal ∙ value) ∙ same_version ideal in
      let w = written_by h (remove_write r at ideal) in
      let more : g ≡ h ++ w ∷ [] = wrote free in
      let listed : metadata_of g p ≡ metadata_of h p =
      ap (λ (f : List Seen). metadata_of f p) more ∙ listed_other h w p (λ t e. not_ideal (record { 0 = t }) (sym e ∙ is_ideal)) in
      let new : entries_of g ≡ remove_segment_of (entries_by ideal.node) p at = ap entries_of more ∙ entries_written h w is_ideal in
      let before : lowest_entered (entries_of h) p (lowest_listed (metadata_of h p)) ≡ true =
      ap (lowest_entered (entries_of h) p) lowest ∙ ap (λ (es : List IdealEntry). has_entry es p l.sequence) entries ∙ has in
      let behind : lowest_entered (entries_of g) p (lowest_listed (metadata_of g p)) ≡ false =
      ap (λ (ls : List Listed). lowest_entered (entries_of g) p (lowest_listed ls)) listed
      ∙ ap (lowest_entered (entries_of g) p) lowest
      ∙ ap (λ (es : List IdealEntry). has_entry es p l.sequence) new
      ∙ ap (λ (x : Sequence). has_entry (remove_segment_of (entries_by ideal.node) p at) p x) same ∙ removed_none (entries_by ideal.node) p at in
      omega (arith, ap one_if before, ap one_if behind, ap (λ (ls : List Listed). length ls) listed)

  -- it is deleted
  deletion_lessens : (l : Listed) → lowest_listed (metadata_of h p) ≡ Some l → Wrote h g (Some (delete (listed_write p l))) → left_to_retire g p < left_to_retire h p
  deletion_lessens l lowest wrote =
      let k = first_of (metadata_of h p) l lowest in
      let has : Has (metadata_of h p) l = subst (λ (ls : List Listed). Has ls l) (sym k.is) (inl refl) in
      let w = written_by h (delete (listed_write p l)) in
      let free : refusal_of h (delete (listed_write p l)) ≡ None = ap (change_in l.seen.version) (listed_value h p l has) ∙ same_version (listed_write p l) in
      let more : g ≡ h ++ w ∷ [] = wrote free in
      let below = was_lowest s h h p l lawful lawful within (front_same h) lowest in
      let one = one_less s h w p l.sequence.0 lawful (subst (IsLawfulHistory s) more after) within refl refl (omega (arith, below.followed)) in
      omega (
        arith,
        ap (λ (f : List Seen). length (metadata_of f p)) more,
        one,
        one_at_most (lowest_entered (entries_of g) p (lowest_listed (metadata_of g p))),
      )

  pub decided_lessens : (d : Retiring) → retire_by p (entries_by ideal.node) now r.keep (lowest_listed (metadata_of h p)) ≡ d → (d ≡ decision.Nothing → ⊥)
      → Wrote h g (retire_write_by r (read_by p (lowest_listed (metadata_of h p))) ideal d) → left_to_retire g p < left_to_retire h p
  decided_lessens d is busy wrote = by_lowest (lowest_listed (metadata_of h p)) refl d is busy wrote
    where
      by_lowest : (o : Option Listed) → lowest_listed (metadata_of h p) ≡ o → (d : Retiring) → retire_by p (entries_by ideal.node) now r.keep o ≡ d
          → (d ≡ decision.Nothing → ⊥) → Wrote h g (retire_write_by r (read_by p o) ideal d) → left_to_retire g p < left_to_retire h p
      by_lowest None lowest d is busy wrote = absurd (busy (sym is))
      by_lowest (Some l) lowest decision.Nothing is busy wrote = absurd (busy refl)
      by_lowest (Some l) lowest (decision.Remove at) is busy wrote =
          let k = removes_its (entries_by ideal.node) p now r.keep at l is in removal_lessens l at lowest k.same k.has wrote
      by_lowest (Some l) lowest (decision.Delete at) is busy wrote = deletion_lessens l lowest wrote
