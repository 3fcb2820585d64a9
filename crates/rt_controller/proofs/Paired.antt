-- A segment has one machine at most, and its machine is COMMITTING exactly while there is a commit job.
use Rattle.std.proofs.Common.{◌≡◌, ℕ, suc, ◌+◌, ◌<◌, ◌≤◌, ◌==◌, ◌&&◌, Bool, true, false, cond, List, [], ◌∷◌, ◌++◌, take, drop, length, Option, Some, None, refl, sym, ◌∙◌, ap, subst, arith, get_or}
use Rattle.std.specs.Prelude.{slice_get, slice_set, nat_lt, All}
use Rattle.std.specs.List.{count_by, filter, remove, position, position_or_len}
use Rattle.std.proofs.lemmas.Bool.{and_parts, eqb-true, false≢true, ltb-false}
use Rattle.std.proofs.lemmas.List.{take-set, drop-set-lt}
use Rattle.std.proofs.lemmas.List.Elements.{All-from_get_or}
use Rattle.std.proofs.lemmas.List.Sums.{sum_by-cons, sum_by_push, sum_by-set, sum_by-remove, sum_by-le, fails_before_first}
use Rattle.std.proofs.lemmas.Option.{get_or_from_slice_get, slice_get_within}
use Rattle.rt_base.specs.declared.numbers.Offset.{Offset}
use Rattle.rt_base.specs.declared.numbers.Partition.{Partition}
use Rattle.rt_base.specs.declared.numbers.Sequence.{Sequence}
use Rattle.rt_model.specs.declared.machine_state.MachineState.{MachineState}
use Rattle.rt_model.specs.declared.machine_state.MachineState.TheVariants.{PartialConsuming, Holding, CommitterDecided, CommitterNotified, CommitterUploading, Committing, Committed, Aborted}
use Rattle.rt_model.specs.Completion.{Completion}
use Rattle.rt_controller.specs.declared.segment_machine.SegmentMachine.{SegmentMachine}
use Rattle.rt_controller.specs.Controller.{has_ended, is_of, machine_place, replaced, added, with_machine}
use Rattle.rt_controller.specs.Lasting.{end_at, machine_end, ends_at, machine_ends_at, HaveOneMachine}

-- ---- counts

abbrev pub one_if : Bool → ℕ
one_if b = cond b 1 0

abbrev one_of : {X : Type 0} → (X → Bool) → X → ℕ
one_of p x = one_if (p x)

pub count_push : {X : Type 0} (p : X → Bool) (xs : List X) (x : X) → count_by p (xs ++ x ∷ []) ≡ count_by p xs + one_if (p x)
count_push p xs x = sum_by_push (one_of p) xs x

pub count_set : {X : Type 0} (p : X → Bool) (xs : List X) (i : ℕ) (old new : X) → slice_get xs i ≡ Some old
    → count_by p (slice_set xs i new) + one_if (p old) ≡ count_by p xs + one_if (p new)
count_set p xs i old new at =
    let e = sum_by-set (one_of p) xs i new old (slice_get_within xs i old at) in
    subst (λ y. count_by p (slice_set xs i new) + one_if (p y) ≡ count_by p xs + one_if (p new)) (get_or_from_slice_get xs i old old at) e

pub count_remove : {X : Type 0} (p : X → Bool) (xs : List X) (i : ℕ) (old : X) → slice_get xs i ≡ Some old
    → count_by p (remove xs i) + one_if (p old) ≡ count_by p xs
count_remove p xs i old at =
    let e = sum_by-remove (one_of p) xs i old (slice_get_within xs i old at) in
    subst (λ y. count_by p (remove xs i) + one_if (p y) ≡ count_by p xs) (get_or_from_slice_get xs i old old at) e

-- what is set and then removed doesn't matter
pub remove_set : {X : Type 0} (xs : List X) (i : ℕ) (x : X) → remove (slice_set xs i x) i ≡ remove xs i
remove_set xs i x =
    ap (λ a. a ++ drop (suc i) (slice_set xs i x)) (take-set xs i x)
    ∙ ap (λ b. take i xs ++ b) (drop-set-lt (suc i) xs i x (omega arith))

none_counted : {X : Type 0} (p : X → Bool) (xs : List X) (d : X) → ((i : ℕ) → i < length xs → p (get_or xs i d) ≡ false) → count_by p xs ≡ 0
none_counted {X = X} p xs d never =
    let P : X → Type 0 = λ x. one_of p x ≤ 0 in
    let few : All P xs = All-from_get_or P xs d (λ i lt. subst (λ b. one_if b ≤ 0) (sym (never i lt)) (omega arith)) in
    omega (arith, sum_by-le (one_of p) 0 xs few)

-- where no place passes, none is counted
pub position_none : {X : Type 0} (p : X → Bool) (xs : List X) (d : X) → position p xs ≡ None → count_by p xs ≡ 0
position_none p xs d e = by_test (nat_lt (position_or_len p xs) (length xs)) refl e
  where
    by_test : (b : Bool) → nat_lt (position_or_len p xs) (length xs) ≡ b → cond b (Some (position_or_len p xs)) None ≡ None → count_by p xs ≡ 0
    by_test true is f = absurd (cc)
    by_test false is f =
        let past = ltb-false (position_or_len p xs) (length xs) is in
        none_counted p xs d (λ i lt. fails_before_first p xs i d (omega (arith, lt, past)))

pub one_and : (a b : Bool) → one_if (a && b) ≤ one_if a
one_and true true = omega arith
one_and true false = omega arith
one_and false b = omega arith

pub and_no : (a : Bool) → (a && false) ≡ false
and_no true = refl
and_no false = refl

count_cons : {X : Type 0} (p : X → Bool) (x : X) (xs : List X) → count_by p (x ∷ xs) ≡ one_if (p x) + count_by p xs
count_cons p x xs = sum_by-cons (one_of p) x xs

-- what is kept of a list has as many of those that are all kept
dropped : (a b : Bool) → (a ≡ true → b ≡ true) → b ≡ false → one_if a ≡ 0
dropped true b all e = absurd (false≢true (sym e ∙ all refl))
dropped false b all e = refl

kept_counts : {X : Type 0} (p q : X → Bool) (x : X) (xs kept : List X) (b : Bool) → (p x ≡ true → q x ≡ true) → q x ≡ b
    → count_by p kept ≡ count_by p xs → count_by p (cond b (x ∷ kept) kept) ≡ count_by p (x ∷ xs)
kept_counts p q x xs kept true all e rest = omega (arith, count_cons p x kept, count_cons p x xs, rest)
kept_counts p q x xs kept false all e rest = omega (arith, count_cons p x xs, rest, dropped (p x) (q x) all e)

pub filter_counts : {X : Type 0} (p q : X → Bool) (xs : List X) → ((x : X) → p x ≡ true → q x ≡ true)
    → count_by p (filter q xs) ≡ count_by p xs
filter_counts p q [] all = refl
filter_counts p q (x ∷ xs) all = kept_counts p q x xs (filter q xs) (q x) (all x) refl (filter_counts p q xs all)

kept_fewer : {X : Type 0} (p : X → Bool) (x : X) (xs kept : List X) (b : Bool) → count_by p kept ≤ count_by p xs
    → count_by p (cond b (x ∷ kept) kept) ≤ count_by p (x ∷ xs)
kept_fewer p x xs kept true rest = omega (arith, count_cons p x kept, count_cons p x xs, rest)
kept_fewer p x xs kept false rest = omega (arith, count_cons p x xs, rest)

pub filter_fewer : {X : Type 0} (p q : X → Bool) (xs : List X) → count_by p (filter q xs) ≤ count_by p xs
filter_fewer p q [] = omega arith
filter_fewer p q (x ∷ xs) = kept_fewer p x xs (filter q xs) (q x) (filter_fewer p q xs)

-- ---- the machines of a segment

ended_end : (s : MachineState) (x : Offset) → has_ended s ≡ true → end_at s x ≡ None
ended_end PartialConsuming x e = absurd (cc)
ended_end Holding x e = absurd (cc)
ended_end CommitterDecided x e = absurd (cc)
ended_end CommitterNotified x e = absurd (cc)
ended_end CommitterUploading x e = absurd (cc)
ended_end Committing x e = absurd (cc)
ended_end Committed x e = refl
ended_end Aborted x e = refl

-- the machines of a segment that commit it changed from the one end to the other
pub record Moves (ms ns : List SegmentMachine) (q : Partition) (t : Sequence) (old new : Option Offset) : Type 0 where
  pub moves :
      (p : Partition) (s : Sequence) (x : Offset)
      → count_by (machine_ends_at p s x) ns + one_if (ends_at p s x q t old)
      ≡ count_by (machine_ends_at p s x) ms + one_if (ends_at p s x q t new)

pub moves_at : (ms ns : List SegmentMachine) (p : Partition) (s : Sequence) (q : Partition) (t : Sequence) (old new : Option Offset) → p ≡ q → s ≡ t
    → Moves ms ns p s old new → Moves ms ns q t old new
moves_at ms ns p s q t old new e f k =
    subst (λ (y : Sequence). Moves ms ns q y old new) f (subst (λ (x : Partition). Moves ms ns x s old new) e k)

no_end_counts : (p : Partition) (s : Sequence) (x : Offset) (q : Partition) (t : Sequence) (end : Option Offset) → end ≡ None
    → one_if (ends_at p s x q t end) ≡ 0
no_end_counts p s x q t end e =
    ap (λ (o : Option Offset). one_if (ends_at p s x q t o)) e ∙ ap one_if (and_no ((q.0 == p.0) && (t.0 == s.0)))

pub replaced_moves : (ms : List SegmentMachine) (place : ℕ) (m : SegmentMachine) (n : Completion) → slice_get ms place ≡ Some m
    → Moves ms (replaced ms place (with_machine m n)) m.partition m.sequence (machine_end m.machine) (machine_end n)
replaced_moves ms place m n at = record { moves = λ p s x. by_end p s x (has_ended n.state) refl }
  where
    by_end :
        (p : Partition) (s : Sequence) (x : Offset) (b : Bool) → has_ended n.state ≡ b
        → count_by (machine_ends_at p s x)
        (cond b (remove (slice_set ms place (with_machine m n)) place) (slice_set ms place (with_machine m n)))
        + one_if (ends_at p s x m.partition m.sequence (machine_end m.machine))
        ≡ count_by (machine_ends_at p s x) ms + one_if (ends_at p s x m.partition m.sequence (machine_end n))
    by_end p s x true e =
        let gone = ap (count_by (machine_ends_at p s x)) (remove_set ms place (with_machine m n)) in
        let none = no_end_counts p s x m.partition m.sequence (machine_end n) (ended_end n.state n.offset e) in
        omega (arith, gone, none, count_remove (machine_ends_at p s x) ms place m at)
    by_end p s x false e = count_set (machine_ends_at p s x) ms place m (with_machine m n) at

pub added_moves : (ms : List SegmentMachine) (m : SegmentMachine)
    → Moves ms (added ms m) m.partition m.sequence None (machine_end m.machine)
added_moves ms m = record { moves = λ p s x. by_end p s x (has_ended m.machine.state) refl }
  where
    by_end :
        (p : Partition) (s : Sequence) (x : Offset) (b : Bool) → has_ended m.machine.state ≡ b
        → count_by (machine_ends_at p s x) (cond b ms (ms ++ m ∷ [])) + one_if (ends_at p s x m.partition m.sequence None)
        ≡ count_by (machine_ends_at p s x) ms + one_if (ends_at p s x m.partition m.sequence (machine_end m.machine))
    by_end p s x true e =
        let before = no_end_counts p s x m.partition m.sequence None refl in
        let none = no_end_counts p s x m.partition m.sequence (machine_end m.machine) (ended_end m.machine.state m.machine.offset e) in
        omega (arith, before, none)
    by_end p s x false e =
        let before = no_end_counts p s x m.partition m.sequence None refl in
        omega (arith, before, count_push (machine_ends_at p s x) ms m)

-- ---- one machine

fewer_removed : (p : Partition) (s : Sequence) (ms : List SegmentMachine) (place : ℕ) (m : SegmentMachine) → slice_get ms place ≡ Some m
    → count_by (is_of p s) (remove ms place) ≤ count_by (is_of p s) ms
fewer_removed p s ms place m at = omega (arith, count_remove (is_of p s) ms place m at)

pub replaced_one : (ms : List SegmentMachine) (place : ℕ) (m : SegmentMachine) (n : Completion) → slice_get ms place ≡ Some m
    → HaveOneMachine ms → HaveOneMachine (replaced ms place (with_machine m n))
replaced_one ms place m n at one p s = by_end (has_ended n.state)
  where
    by_end :
        (b : Bool)
        → count_by (is_of p s) (cond b (remove (slice_set ms place (with_machine m n)) place) (slice_set ms place (with_machine m n))) ≤ 1
    by_end true =
        let gone = ap (count_by (is_of p s)) (remove_set ms place (with_machine m n)) in
        omega (arith, gone, fewer_removed p s ms place m at, one p s)
    by_end false = omega (arith, count_set (is_of p s) ms place m (with_machine m n) at, one p s)

-- a machine is added for a segment that has none
pub added_one : (ms : List SegmentMachine) (m : SegmentMachine) → machine_place ms m.partition m.sequence ≡ None → HaveOneMachine ms
    → HaveOneMachine (added ms m)
added_one ms m none one p s = by_end (has_ended m.machine.state)
  where
    pushed : (b : Bool) → is_of p s m ≡ b → count_by (is_of p s) ms + one_if b ≤ 1
    pushed false e = omega (arith, one p s)
    pushed true e =
        let parts = and_parts (m.partition.0 == p.0) (m.sequence.0 == s.0) e in
        let P : ℕ → Type 0 = λ n. count_by (λ (k : SegmentMachine). (k.partition.0 == n) && (k.sequence.0 == m.sequence.0)) ms ≡ 0 in
        let Q : ℕ → Type 0 = λ n. count_by (λ (k : SegmentMachine). (k.partition.0 == p.0) && (k.sequence.0 == n)) ms ≡ 0 in
        let here = position_none (is_of m.partition m.sequence) ms m none in
        let there : count_by (is_of p s) ms ≡ 0 = subst Q (eqb-true m.sequence.0 s.0 parts.1) (subst P (eqb-true m.partition.0 p.0 parts.0) here) in
        omega (arith, there)

    by_end : (b : Bool) → count_by (is_of p s) (cond b ms (ms ++ m ∷ [])) ≤ 1
    by_end true = one p s
    by_end false = omega (arith, count_push (is_of p s) ms m, pushed (is_of p s m) refl)
