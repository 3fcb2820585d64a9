-- What is added to the ideal state for a partition leaves the entries of other partitions as they are.
use Rattle.std.proofs.Common.{◌≡◌, ◌-◌, Bool, true, false, not, nat_lt, eqb, List, [], ◌∷◌, refl, sym, ◌∙◌, ap}
use Rattle.std.specs.Prelude.{◌&&◌, ◌||◌, cond, map}
use Rattle.std.proofs.lemmas.Bool.{cond_both, ne_eqb}
use Rattle.rt_base.specs.declared.numbers.Instance.{Instance}
use Rattle.rt_base.specs.declared.numbers.Partition.{Partition}
use Rattle.rt_base.specs.declared.numbers.Sequence.{Sequence}
use Rattle.rt_model.specs.Ideal.{add_consuming_of, commit_step_of, consuming, goes_on, has_entry, is_before, is_of, next_sequence, turned_online, with_consuming, with_entry}
use Rattle.rt_model.specs.Repair.{are_offline, is_offline}
use Rattle.rt_model.specs.declared.ideal_state.IdealEntry.{IdealEntry}
use Rattle.rt_model.specs.declared.ideal_state.Mode.TheVariants.{Online}
use Rattle.rt_model.proofs.Entries.{is_of-true}
use Rattle.rt_repair.specs.Repairing.{added_entries, Repairing}

-- a segment has entries where it had, and they are OFFLINE where they were
pub record SameAt (o : Partition) (s : Sequence) (es fs : List IdealEntry) : Type 0 where
  pub has : has_entry fs o s ≡ has_entry es o s
  pub off : are_offline fs o s ≡ are_offline es o s

-- so it is of each segment of each other partition
abbrev pub IsApart : Partition → List IdealEntry → List IdealEntry → Type 0
IsApart p es fs = (o : Partition) → (o.0 ≡ p.0 → ⊥) → (s : Sequence) → SameAt o s es fs

pub apart_same : (p : Partition) (es : List IdealEntry) → IsApart p es es
apart_same p es o other s = record { has = refl; off = refl }

module _ (o : Partition) (s : Sequence) where
  then_same : (es fs gs : List IdealEntry) → SameAt o s es fs → SameAt o s fs gs → SameAt o s es gs
  then_same es fs gs x y = record { has = y.has ∙ x.has; off = y.off ∙ x.off }

  -- an entry of another segment
  with_other : (x : IdealEntry) (es : List IdealEntry) → is_of o s x ≡ false → SameAt o s es (x ∷ es)
  with_other x es none =
      record {
        has = ap (λ (b : Bool). b || has_entry es o s) none;
        off = ap (λ (b : Bool). (not b || is_offline x.mode) && are_offline es o s) none;
      }

  -- behind the same entry
  behind_same : (e : IdealEntry) (es fs : List IdealEntry) → SameAt o s es fs → SameAt o s (e ∷ es) (e ∷ fs)
  behind_same e es fs k =
      record {
        has = ap (λ (b : Bool). is_of o s e || b) k.has;
        off = ap (λ (b : Bool). (not (is_of o s e) || is_offline e.mode) && b) k.off;
      }

  placed_other : (x : IdealEntry) (es : List IdealEntry) → is_of o s x ≡ false → SameAt o s es (with_entry x es)
  placed_other x [] none = with_other x [] none
  placed_other x (e ∷ es) none =
      cond_both (is_before x e) (x ∷ e ∷ es) (e ∷ with_entry x es) (SameAt o s (e ∷ es)) (λ b. with_other x (e ∷ es) none)
      (λ b. behind_same e es (with_entry x es) (placed_other x es none))

  module _ (p : Partition) (other : o.0 ≡ p.0 → ⊥) where
    other_entry : (x : IdealEntry) → x.partition.0 ≡ p.0 → is_of o s x ≡ false
    other_entry x at = ap (λ (b : Bool). b && eqb x.sequence.0 s.0) (ne_eqb x.partition.0 o.0 (λ e. other (sym e ∙ at)))

    consuming_apart : (t : Sequence) (is : List Instance) (es : List IdealEntry) → SameAt o s es (with_consuming es p t is)
    consuming_apart t [] es = record { has = refl; off = refl }
    consuming_apart t (i ∷ is) es =
        then_same es (with_consuming es p t is) (with_consuming es p t (i ∷ is)) (consuming_apart t is es)
        (placed_other (consuming p t i) (with_consuming es p t is) (other_entry (consuming p t i) refl))

    turned_apart : (t : Sequence) (es : List IdealEntry) → SameAt o s es (map (turned_online p t) es)
    turned_apart t [] = record { has = refl; off = refl }
    turned_apart t (e ∷ es) = by_test (is_of p t e) refl (turned_apart t es)
      where
        by_test : (b : Bool) → is_of p t e ≡ b → SameAt o s es (map (turned_online p t) es)
            → SameAt o s (e ∷ es) (cond b (record e { mode = Online }) e ∷ map (turned_online p t) es)
        by_test false at rest = behind_same e es (map (turned_online p t) es) rest
        by_test true at rest =
            let part = ap (λ (q : Partition). q.0) (is_of-true p t e at).0 in
            let before = with_other e es (other_entry e part) in
            let after = with_other (record e { mode = Online }) (map (turned_online p t) es) (other_entry (record e { mode = Online }) part) in
            record { has = after.has ∙ rest.has ∙ sym before.has; off = after.off ∙ rest.off ∙ sym before.off }

    commit_apart : (t : Sequence) (next : List Instance) (es : List IdealEntry) → SameAt o s es (commit_step_of es p t next)
    commit_apart t next es =
        let turned = map (turned_online p t) es in
        let more = with_consuming turned p (next_sequence t) next in
        cond_both (has_entry es p t) (cond (has_entry es p (next_sequence t)) turned more) es (SameAt o s es)
        (λ b. cond_both (has_entry es p (next_sequence t)) turned more (SameAt o s es) (λ c. turned_apart t es)
        (λ c. then_same es turned more (turned_apart t es) (consuming_apart (next_sequence t) next turned)))
        (λ b. record { has = refl; off = refl })

    add_apart : (t : Sequence) (is : List Instance) (es : List IdealEntry) → SameAt o s es (add_consuming_of es p t is)
    add_apart t is es =
        cond_both (has_entry es p t) es (cond (goes_on es p t.0) (with_consuming es p t is) es) (SameAt o s es) (λ b. record { has = refl; off = refl })
        (λ b. cond_both (goes_on es p t.0) (with_consuming es p t is) es (SameAt o s es) (λ c. consuming_apart t is es)
        (λ c. record { has = refl; off = refl }))

-- what a repair adds
pub added_apart : (r : Repairing) (t : Sequence) (follows : Bool) (es : List IdealEntry) → IsApart r.partition es (added_entries r t follows es)
added_apart r t follows es o other s =
    cond_both (follows && nat_lt 0 t.0) (commit_step_of es r.partition (record { 0 = t.0 - 1 }) r.instances)
    (add_consuming_of es r.partition t r.instances) (SameAt o s es)
    (λ b. commit_apart o s r.partition other (record { 0 = t.0 - 1 }) r.instances es)
    (λ b. add_apart o s r.partition other t r.instances es)
