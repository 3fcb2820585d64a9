-- The entries of each segment of an ascending state ascend by instance.
use Rattle.std.proofs.Common.{◌≡◌, ◌<◌, Bool, true, false, cond, ◌==◌, nat_lt, List, [], ◌∷◌, sym, true≢false}
use Rattle.std.specs.List.{AllByRecursion}
use Rattle.std.proofs.lemmas.Bool.{ltb-true, eq-eqb}
use Rattle.rt_model.specs.declared.ideal_state.IdealEntry.{IdealEntry}
use Rattle.rt_model.specs.Ideal.{is_before}
use Rattle.rt_model.specs.Order.{IsBeforeAll, IsAscending}
use Rattle.rt_rebalance.specs.Segments.{Segment, is_beside, with_front, segments_of, IsBelow, AreAscending}
use Rattle.rt_rebalance.proofs.Grouping.{IsRun, AreParted, beside_numbers, segments_parted}

abbrev pub AllIn : (IdealEntry → Type 0) → List Segment → Type 0
AllIn P segments = AllByRecursion (AllByRecursion P) segments

pub front_all : (P : IdealEntry → Type 0) (e : IdealEntry) (segments : List Segment) → P e → AllIn P segments → AllIn P (with_front e segments)
front_all P e [] p h = ((p, tt), tt)
front_all P e ([] ∷ ss) p h = ((p, tt), h.1)
front_all P e ((f ∷ fs) ∷ ss) p h = by (is_beside e f)
  where
    by : (b : Bool) → AllIn P (cond b ((e ∷ (f ∷ fs)) ∷ ss) ((e ∷ []) ∷ ((f ∷ fs) ∷ ss)))
    by true = ((p, h.0), h.1)
    by false = ((p, tt), h)

abbrev pub IsAfter : IdealEntry → IdealEntry → Type 0
IsAfter e x = is_before e x ≡ true

pub all_after : (e : IdealEntry) (es : List IdealEntry) → IsBeforeAll e es → AllIn (IsAfter e) (segments_of es)
all_after e [] h = tt
all_after e (f ∷ fs) h = front_all (IsAfter e) f (segments_of fs) h.0 (all_after e fs h.1)

pub instance_less : (e f : IdealEntry) → is_beside e f ≡ true → is_before e f ≡ true → e.instance.0 < f.instance.0
instance_less e f beside before =
    let n = beside_numbers e f beside in
    ltb-true e.instance.0 f.instance.0
    (by (e.partition.0 == f.partition.0) (e.sequence.0 == f.sequence.0) (eq-eqb e.partition.0 f.partition.0 (sym n.0)) (eq-eqb e.sequence.0 f.sequence.0 (sym n.1)) before)
  where
    by : (b c : Bool) → b ≡ true → c ≡ true
        → cond b (cond c (nat_lt e.instance.0 f.instance.0) (nat_lt e.sequence.0 f.sequence.0)) (nat_lt e.partition.0 f.partition.0) ≡ true → nat_lt e.instance.0 f.instance.0 ≡ true
    by true true h k less = less
    by true false h k less = absurd (true≢false (sym k))
    by false c h k less = absurd (true≢false (sym h))

below : (e : IdealEntry) (es : Segment) → IsRun e es → AllByRecursion (IsAfter e) es → IsBelow e es
below e [] run after = tt
below e (f ∷ fs) run after = (instance_less e f run.0 after.0, below e fs run.1 after.1)

ordered_front : (e : IdealEntry) (segments : List Segment) → AreParted (with_front e segments) → AllIn (IsAfter e) segments → AllByRecursion AreAscending segments
    → AllByRecursion AreAscending (with_front e segments)
ordered_front e [] parted after h = ((tt, tt), tt)
ordered_front e ([] ∷ ss) parted after h = ((tt, tt), h.1)
ordered_front e ((f ∷ fs) ∷ ss) parted after h = by (is_beside e f) parted
  where
    by : (b : Bool) → AreParted (cond b ((e ∷ (f ∷ fs)) ∷ ss) ((e ∷ []) ∷ ((f ∷ fs) ∷ ss))) → AllByRecursion AreAscending (cond b ((e ∷ (f ∷ fs)) ∷ ss) ((e ∷ []) ∷ ((f ∷ fs) ∷ ss)))
    by true parted = ((below e (f ∷ fs) parted.0 after.0, h.0), h.1)
    by false parted = ((tt, tt), h)

pub segments_ascend : (es : List IdealEntry) → IsAscending es → AllByRecursion AreAscending (segments_of es)
segments_ascend [] h = tt
segments_ascend (e ∷ es) h = ordered_front e (segments_of es) (segments_parted (e ∷ es)) (all_after e es h.0) (segments_ascend es h.1)
