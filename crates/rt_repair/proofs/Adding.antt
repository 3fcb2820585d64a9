-- The entries that a repair adds.
use Rattle.std.proofs.Common.{◌≡◌, ℕ, ◌+◌, ◌-◌, ◌<◌, ◌&&◌, ◌||◌, not, nat_lt, eqb, Bool, true, false, cond, List, [], ◌∷◌, length, refl, sym, ◌∙◌, ap, subst, arith}
use Rattle.std.specs.Prelude.{map}
use Rattle.std.proofs.lemmas.Bool.{ltb-true, eq-eqb, ne_eqb, and_parts, cond_both, cond-false, both_ways, true≢false}
use Rattle.rt_base.specs.declared.numbers.Instance.{Instance}
use Rattle.rt_base.specs.declared.numbers.Partition.{Partition}
use Rattle.rt_base.specs.declared.numbers.Sequence.{Sequence}
use Rattle.rt_model.specs.declared.ideal_state.IdealEntry.{IdealEntry}
use Rattle.rt_model.specs.Ideal.{is_of, is_before, has_entry, has_partition, goes_on, with_entry, consuming, with_consuming, turned_online, next_sequence, commit_step_of, add_consuming_of}
use Rattle.rt_model.specs.Repair.{is_offline, are_offline}
use Rattle.rt_repair.specs.Repairing.{Repairing, added_entries}

abbrev sequence_at : ℕ → Sequence
sequence_at n = record { 0 = n }

-- ---- one entry more

swapped : (a b c : Bool) → (a && (b && c)) ≡ (b && (a && c))
swapped true b c = refl
swapped false true c = refl
swapped false false c = refl

-- the entry is OFFLINE where it is one of the segment's
abbrev passes : Partition → Sequence → IdealEntry → Bool
passes p s e = not (is_of p s e) || is_offline e.mode

offline_with : (p : Partition) (s : Sequence) (x : IdealEntry) (es : List IdealEntry)
    → are_offline (with_entry x es) p s ≡ (passes p s x && are_offline es p s)
offline_with p s x [] = refl
offline_with p s x (e ∷ es) =
    let P : List IdealEntry → Type 0 = λ fs. are_offline fs p s ≡ (passes p s x && are_offline (e ∷ es) p s) in
    cond_both (is_before x e) (x ∷ e ∷ es) (e ∷ with_entry x es) P
    (λ b. refl)
    (λ b. ap (λ c. passes p s e && c) (offline_with p s x es) ∙ swapped (passes p s e) (passes p s x) (are_offline es p s))

of_itself : (p : Partition) (s : Sequence) (i : Instance) → is_of p s (consuming p s i) ≡ true
of_itself p s i = rw (eq-eqb p.0 p.0 refl, eq-eqb s.0 s.0 refl)

-- a segment that consumes on some instance isn't OFFLINE
pub consuming_online : (p : Partition) (s : Sequence) (is : List Instance) (es : List IdealEntry) → 0 < length is
    → are_offline (with_consuming es p s is) p s ≡ false
consuming_online p s [] es some = absurd (omega arith)
consuming_online p s (i ∷ is) es some =
    offline_with p s (consuming p s i) (with_consuming es p s is)
    ∙ ap (λ b. (not b || false) && are_offline (with_consuming es p s is) p s) (of_itself p s i)

-- and a segment that isn't all OFFLINE has an entry
pub online_has : (p : Partition) (s : Sequence) (es : List IdealEntry) → are_offline es p s ≡ false → has_entry es p s ≡ true
online_has p s [] e = absurd (true≢false e)
online_has p s (x ∷ es) e = by_test (is_of p s x) e (online_has p s es)
  where
    by_test : (b : Bool) → ((not b || is_offline x.mode) && are_offline es p s) ≡ false
        → (are_offline es p s ≡ false → has_entry es p s ≡ true) → (b || has_entry es p s) ≡ true
    by_test true e further = refl
    by_test false e further = further e

-- ---- what is added

pub before_of : (es : List IdealEntry) (p : Partition) (s : ℕ) (b : Bool) → 0 < s → goes_on es p s ≡ b
    → has_entry es p (sequence_at (s - 1)) ≡ b
before_of es p s b past e =
    let other : eqb s 0 ≡ false = ne_eqb s 0 (λ z. omega (arith, z, past)) in
    sym (cond-false (eqb s 0) (not (has_partition es p)) (has_entry es p (sequence_at (s - 1))) other) ∙ e

pub same_next : (s : Sequence) → 0 < s.0 → next_sequence (sequence_at (s.0 - 1)) ≡ s
same_next s past = let n : (s.0 - 1) + 1 ≡ s.0 = omega (arith, past) in ap sequence_at n

-- where the entries go on with a segment that has none, it consumes
pub added_online : (r : Repairing) (s : Sequence) (follows : Bool) (es : List IdealEntry) → 0 < length r.instances
    → has_entry es r.partition s ≡ false → goes_on es r.partition s.0 ≡ true
    → are_offline (added_entries r s follows es) r.partition s ≡ false
added_online r s follows es some none on =
    let p = r.partition in
    let P : List IdealEntry → Type 0 = λ fs. are_offline fs p s ≡ false in
    cond_both (follows && nat_lt 0 s.0) (commit_step_of es p (sequence_at (s.0 - 1)) r.instances) (add_consuming_of es p s r.instances) P
    (λ b.
    let past : 0 < s.0 = ltb-true 0 s.0 (and_parts follows (nat_lt 0 s.0) b).1 in
    let there = before_of es p s.0 true past on in
    let next = same_next s past in
    let N : Sequence → Type 0 = λ t. P (cond (has_entry es p t) (map (turned_online p (sequence_at (s.0 - 1))) es) (with_consuming (map (turned_online p (sequence_at (s.0 - 1))) es) p t r.instances)) in
    rw there
    (subst N (sym next)
    (rw none (consuming_online p s r.instances (map (turned_online p (sequence_at (s.0 - 1))) es) some))))
    (λ b. rw (none, on) (consuming_online p s r.instances es some))

-- where they don't, nothing changes
pub added_same : (r : Repairing) (s : Sequence) (follows : Bool) (es : List IdealEntry)
    → has_entry es r.partition s ≡ false → goes_on es r.partition s.0 ≡ false → added_entries r s follows es ≡ es
added_same r s follows es none off =
    let p = r.partition in
    let P : List IdealEntry → Type 0 = λ fs. fs ≡ es in
    cond_both (follows && nat_lt 0 s.0) (commit_step_of es p (sequence_at (s.0 - 1)) r.instances) (add_consuming_of es p s r.instances) P
    (λ b.
    let past : 0 < s.0 = ltb-true 0 s.0 (and_parts follows (nat_lt 0 s.0) b).1 in
    rw (before_of es p s.0 false past off))
    (λ b. rw (none, off))

pub added_changes : (r : Repairing) (s : Sequence) (follows : Bool) (es : List IdealEntry) → 0 < length r.instances
    → has_entry es r.partition s ≡ false → goes_on es r.partition s.0 ≡ true → added_entries r s follows es ≡ es → ⊥
added_changes r s follows es some none on e =
    both_ways (has_entry es r.partition s) none
    (ap (λ fs. has_entry fs r.partition s) (sym e)
    ∙ online_has r.partition s (added_entries r s follows es) (added_online r s follows es some none on))
