-- The machine of a segment, as one is put back in its place, added or removed; those of other segments stay.
use Rattle.std.proofs.Common.{◌≡◌, inl, inr, ℕ, zero, suc, ◌+◌, ◌≤◌, ◌==◌, Bool, true, false, cond, List, [], ◌∷◌, ◌++◌, Option, Some, None, refl, sym, ◌∙◌, ap, subst, arith, get_or, slice_get}
use Rattle.std.specs.List.{count_by, remove}
use Rattle.std.specs.Prelude.{slice_set}
use Rattle.std.proofs.lemmas.Bool.{and_from, and_parts, cond-false, cond-true, eq-eqb, eqb-true, false_from_ne_true}
use Rattle.std.proofs.lemmas.List.Quantifiers.{position-Some}
use Rattle.std.proofs.lemmas.List.Sums.{sum_by-cons}
use Rattle.std.proofs.lemmas.Option.{none-some, same_Some, slice_get-get_or, slice_get_within}
use Rattle.rt_base.specs.declared.numbers.Instance.{Instance}
use Rattle.rt_base.specs.declared.numbers.Partition.{Partition}
use Rattle.rt_base.specs.declared.numbers.Sequence.{Sequence}
use Rattle.rt_controller.specs.Controller.{added, has_ended, is_of, machine_place, replaced, with_machine, without_at, without_machine}
use Rattle.rt_controller.specs.Lasting.{HaveOneMachine}
use Rattle.rt_controller.specs.declared.segment_machine.SegmentMachine.{SegmentMachine}
use Rattle.rt_controller.proofs.JobOf.{got_set}
use Rattle.rt_controller.proofs.KeepsRequests.{its_machine}
use Rattle.rt_controller.proofs.Paired.{count_push, count_remove, count_set, one_if, position_none, remove_set}
use Rattle.rt_lists.specs.Members.{Has}
use Rattle.rt_lists.proofs.Members.{place-Has, Has-push}
use Rattle.rt_model.specs.Completion.{Completion}
use Rattle.rt_model.specs.declared.asked.Asked.{Asked}
use Rattle.rt_model.specs.declared.node.Seen.{Seen}
use Rattle.rt_calm.specs.Again.{machine_of, spent_again}
use Rattle.rt_calm.proofs.Awaited.{unless_ended, WaitsOn}

abbrev found : SegmentMachine → Option Completion
found m = Some m.machine

-- ---- one that is there

module _ (p : Partition) (q : Sequence) where
  count_cons : (m : SegmentMachine) (ms : List SegmentMachine) → count_by (is_of p q) (m ∷ ms) ≡ one_if (is_of p q m) + count_by (is_of p q) ms
  count_cons m ms = sum_by-cons (λ x. one_if (is_of p q x)) m ms

  counts_it : (ms : List SegmentMachine) (m : SegmentMachine) → Has ms m → is_of p q m ≡ true → 1 ≤ count_by (is_of p q) ms
  counts_it [] m has is = absurd has
  counts_it (x ∷ xs) m (inl same) is = omega (arith, count_cons x xs, ap one_if (ap (is_of p q) same ∙ is))
  counts_it (x ∷ xs) m (inr has) is = omega (arith, count_cons x xs, counts_it xs m has is)

  found_one : (ms : List SegmentMachine) (m : SegmentMachine) → count_by (is_of p q) ms ≤ 1 → Has ms m → is_of p q m ≡ true
      → machine_of ms p q ≡ Some m.machine
  found_one [] m few has is = absurd has
  found_one (x ∷ xs) m few (inl same) is =
      cond-true (is_of p q x) (found x) (machine_of xs p q) (ap (is_of p q) same ∙ is) ∙ ap found same
  found_one (x ∷ xs) m few (inr has) is =
      by_test (is_of p q x) refl (found_one xs m (omega (arith, few, count_cons x xs)) has is)
    where
      by_test : (b : Bool) → is_of p q x ≡ b → machine_of xs p q ≡ Some m.machine → machine_of (x ∷ xs) p q ≡ Some m.machine
      by_test true e further = absurd (omega (arith, few, count_cons x xs, ap one_if e, counts_it xs m has is))
      by_test false e further = cond-false (is_of p q x) (found x) (machine_of xs p q) e ∙ further

  none_found : (ms : List SegmentMachine) → count_by (is_of p q) ms ≡ 0 → machine_of ms p q ≡ None
  none_found [] none = refl
  none_found (x ∷ xs) none = by_test (is_of p q x) refl (none_found xs (omega (arith, none, count_cons x xs)))
    where
      by_test : (b : Bool) → is_of p q x ≡ b → machine_of xs p q ≡ None → machine_of (x ∷ xs) p q ≡ None
      by_test true e further = absurd (omega (arith, none, count_cons x xs, ap one_if e))
      by_test false e further = cond-false (is_of p q x) (found x) (machine_of xs p q) e ∙ further

  -- ---- one of another segment

  push_other : (ms : List SegmentMachine) (m : SegmentMachine) → is_of p q m ≡ false → machine_of (ms ++ m ∷ []) p q ≡ machine_of ms p q
  push_other [] m other = cond-false (is_of p q m) (found m) None other
  push_other (x ∷ xs) m other = ap (λ (o : Option Completion). cond (is_of p q x) (found x) o) (push_other xs m other)

  set_other : (ms : List SegmentMachine) (i : ℕ) (m n : SegmentMachine) → slice_get ms i ≡ Some m → is_of p q m ≡ false → is_of p q n ≡ false
      → machine_of (slice_set ms i n) p q ≡ machine_of ms p q
  set_other [] i m n at old new = absurd (none-some m at)
  set_other (x ∷ xs) zero m n at old new =
      cond-false (is_of p q n) (found n) (machine_of xs p q) new
      ∙ sym (cond-false (is_of p q x) (found x) (machine_of xs p q) (ap (is_of p q) (same_Some x m at) ∙ old))
  set_other (x ∷ xs) (suc i) m n at old new = ap (λ (o : Option Completion). cond (is_of p q x) (found x) o) (set_other xs i m n at old new)

  remove_other : (ms : List SegmentMachine) (i : ℕ) (m : SegmentMachine) → slice_get ms i ≡ Some m → is_of p q m ≡ false
      → machine_of (remove ms i) p q ≡ machine_of ms p q
  remove_other [] i m at other = absurd (none-some m at)
  remove_other (x ∷ xs) zero m at other =
      sym (cond-false (is_of p q x) (found x) (machine_of xs p q) (ap (is_of p q) (same_Some x m at) ∙ other))
  remove_other (x ∷ xs) (suc i) m at other = ap (λ (o : Option Completion). cond (is_of p q x) (found x) o) (remove_other xs i m at other)

-- ---- the segments' machines

-- the machine of one segment was this and is that, and those of the others stay
pub record IsTurned (ms ns : List SegmentMachine) (p : Partition) (q : Sequence) (m n : Option Completion) : Type 0 where
  pub before : machine_of ms p q ≡ m
  pub behind : machine_of ns p q ≡ n
  pub others : (o : Partition) (s : Sequence) → (o.0 ≡ p.0 → s.0 ≡ q.0 → ⊥) → machine_of ns o s ≡ machine_of ms o s

pub still_turned : (ms : List SegmentMachine) (p : Partition) (q : Sequence) → IsTurned ms ms p q (machine_of ms p q) (machine_of ms p q)
still_turned ms p q = record { before = refl; behind = refl; others = λ o s apart. refl }

-- one after the other
pub then_turned : (ms ns ls : List SegmentMachine) (p : Partition) (q : Sequence) (m n l k : Option Completion) → IsTurned ms ns p q m n → IsTurned ns ls p q l k
    → IsTurned ms ls p q m k
then_turned ms ns ls p q m n l k first second =
    record { before = first.before; behind = second.behind; others = λ o s apart. second.others o s apart ∙ first.others o s apart }

own_of : (m : SegmentMachine) → is_of m.partition m.sequence m ≡ true
own_of m =
    and_from (m.partition.0 == m.partition.0) (m.sequence.0 == m.sequence.0) (eq-eqb m.partition.0 m.partition.0 refl)
    (eq-eqb m.sequence.0 m.sequence.0 refl)

not_of : (o : Partition) (s : Sequence) (m : SegmentMachine) → (o.0 ≡ m.partition.0 → s.0 ≡ m.sequence.0 → ⊥) → is_of o s m ≡ false
not_of o s m apart =
    false_from_ne_true (is_of o s m)
    (λ e. let parts = and_parts (m.partition.0 == o.0) (m.sequence.0 == s.0) e in
    apart (sym (eqb-true m.partition.0 o.0 parts.0)) (sym (eqb-true m.sequence.0 s.0 parts.1)))

-- the machines without the one at its place
removed_turned : (ms : List SegmentMachine) (place : ℕ) (m : SegmentMachine) → HaveOneMachine ms → slice_get ms place ≡ Some m
    → IsTurned ms (remove ms place) m.partition m.sequence (Some m.machine) None
removed_turned ms place m one at =
    record {
      before = found_one p q ms m (one p q) (place-Has ms place m at) (own_of m);
      behind = none_found p q (remove ms place) (omega (arith, count_remove (is_of p q) ms place m at, ap one_if (own_of m), one p q));
      others = λ o s apart. remove_other o s ms place m at (not_of o s m apart);
    }
  where
    p : Partition
    p = m.partition

    q : Sequence
    q = m.sequence

put_turned : (ms : List SegmentMachine) (place : ℕ) (m : SegmentMachine) (n : Completion) → HaveOneMachine ms → slice_get ms place ≡ Some m
    → IsTurned ms (slice_set ms place (with_machine m n)) m.partition m.sequence (Some m.machine) (Some n)
put_turned ms place m n one at =
    record {
      before = found_one p q ms m (one p q) (place-Has ms place m at) (own_of m);
      behind =
          found_one p q (slice_set ms place new) new
          (omega (arith, count_set (is_of p q) ms place m new at, ap one_if (own_of m), ap one_if (own_of new), one p q))
          (place-Has (slice_set ms place new) place new (got_set ms place new (slice_get_within ms place m at))) (own_of new);
      others = λ o s apart. set_other o s ms place m new at (not_of o s m apart) (not_of o s new apart);
    }
  where
    p : Partition
    p = m.partition

    q : Sequence
    q = m.sequence

    new : SegmentMachine
    new = with_machine m n

pub at_segment : (ms ns : List SegmentMachine) (p o : Partition) (q s : Sequence) (m n : Option Completion) → p ≡ o → q ≡ s → IsTurned ms ns p q m n
    → IsTurned ms ns o s m n
at_segment ms ns p o q s m n e f k =
    subst (λ (y : Sequence). IsTurned ms ns o y m n) f (subst (λ (x : Partition). IsTurned ms ns x q m n) e k)

-- the segment's machine has become this one
pub replaced_turned : (ms : List SegmentMachine) (p : Partition) (q : Sequence) (place : ℕ) (m : SegmentMachine) (n : Completion) → HaveOneMachine ms
    → machine_place ms p q ≡ Some place → slice_get ms place ≡ Some m
    → IsTurned ms (replaced ms place (with_machine m n)) p q (Some m.machine) (unless_ended n)
replaced_turned ms p q place m n one there at =
    let own = its_machine ms p q place m there at in
    at_segment ms (replaced ms place (with_machine m n)) m.partition p m.sequence q (Some m.machine) (unless_ended n) own.0 own.1 (by_end (has_ended n.state))
  where
    put : List SegmentMachine
    put = slice_set ms place (with_machine m n)

    by_end : (b : Bool) → IsTurned ms (cond b (remove put place) put) m.partition m.sequence (Some m.machine) (cond b None (Some n))
    by_end true =
        subst (λ (ns : List SegmentMachine). IsTurned ms ns m.partition m.sequence (Some m.machine) None) (sym (remove_set ms place (with_machine m n)))
        (removed_turned ms place m one at)
    by_end false = put_turned ms place m n one at

-- a segment that had none has this one
pub added_turned : (ms : List SegmentMachine) (m : SegmentMachine) → machine_place ms m.partition m.sequence ≡ None
    → IsTurned ms (added ms m) m.partition m.sequence None (unless_ended m.machine)
added_turned ms m none = by_end (has_ended m.machine.state)
  where
    p : Partition
    p = m.partition

    q : Sequence
    q = m.sequence

    uncounted : count_by (is_of p q) ms ≡ 0
    uncounted = position_none (is_of p q) ms m none

    by_end : (b : Bool) → IsTurned ms (cond b ms (ms ++ m ∷ [])) p q None (cond b None (Some m.machine))
    by_end true = record { before = none_found p q ms uncounted; behind = none_found p q ms uncounted; others = λ o s apart. refl }
    by_end false =
        record {
          before = none_found p q ms uncounted;
          behind =
              found_one p q (ms ++ m ∷ []) m (omega (arith, count_push (is_of p q) ms m, uncounted, ap one_if (own_of m)))
              (Has-push ms m) (own_of m);
          others = λ o s apart. push_other o s ms m (not_of o s m apart);
        }

-- a commit job's machine is gone with it
pub without_turned : (ms : List SegmentMachine) (a : Asked) → HaveOneMachine ms
    → IsTurned ms (without_machine ms a true) a.partition a.sequence (machine_of ms a.partition a.sequence) None
without_turned ms a one = by_place (machine_place ms p q) refl
  where
    p : Partition
    p = a.partition

    q : Sequence
    q = a.sequence

    none_by : (ls : List SegmentMachine) → machine_place ls p q ≡ None → machine_of ls p q ≡ None
    none_by [] none = refl
    none_by (x ∷ xs) none = none_found p q (x ∷ xs) (position_none (is_of p q) (x ∷ xs) x none)

    placed : (ls : List SegmentMachine) (place : ℕ) → machine_place ls p q ≡ Some place → (m : SegmentMachine) × (slice_get ls place ≡ Some m)
    placed [] place there = absurd (none-some place there)
    placed (x ∷ xs) place there =
        (get_or (x ∷ xs) place x, slice_get-get_or (x ∷ xs) place x (position-Some (is_of p q) (x ∷ xs) place x there).0)

    by_place : (o : Option ℕ) → machine_place ms p q ≡ o → IsTurned ms (without_at ms o) p q (machine_of ms p q) None
    by_place None none = record { before = refl; behind = none_by ms none; others = λ o s apart. refl }
    by_place (Some place) there =
        let at = placed ms place there in
        let own = its_machine ms p q place at.0 there at.1 in
        let k =
        at_segment ms (remove ms place) at.0.partition p at.0.sequence q (Some at.0.machine) None own.0 own.1 (removed_turned ms place at.0 one at.1) in
        record { before = refl; behind = k.behind; others = k.others }

-- ---- whom it waits for

-- the machine of a segment has moved: it waits for whom it waited, but for one instance, and is spent only where it was
pub record HasMoved (h : List Seen) (ms ns : List SegmentMachine) (i : Instance) (p : Partition) (q : Sequence) : Type 0 where
  pub machine : Option Completion
  pub left : Option Completion
  pub turned : IsTurned ms ns p q machine left
  pub waits : WaitsOn i machine left
  pub spent : spent_again h p q left ≤ spent_again h p q machine
