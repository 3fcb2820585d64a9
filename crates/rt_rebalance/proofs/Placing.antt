-- Where the segments are to be is a target.
use Rattle.std.proofs.Common.{◌≡◌, ℕ, suc, ◌<◌, ◌≤◌, Bool, true, false, cond, List, [], ◌∷◌, ◌++◌, map, length, refl, sym, ap, ◌∙◌, subst, arith}
use Rattle.std.specs.List.{AllByRecursion}
use Rattle.rt_base.specs.declared.numbers.Partition.{Partition}
use Rattle.rt_base.specs.declared.numbers.Sequence.{Sequence}
use Rattle.rt_base.specs.declared.numbers.Instance.{Instance}
use Rattle.rt_assign.specs.Placement.{replicas_of}
use Rattle.rt_assign.proofs.Ring.{replicas_placed, replicas_distinct}
use Rattle.rt_model.specs.declared.ideal_state.IdealEntry.{IdealEntry}
use Rattle.rt_model.specs.Ideal.{is_before, with_entry, consuming, with_consuming}
use Rattle.rt_model.specs.Order.{IsBeforeAll, IsAscending}
use Rattle.rt_model.proofs.Ascending.{consuming_ascends}
use Rattle.rt_rebalance.specs.Segments.{Segment, is_beside, segments_of, are_online, IsBelow, AreAscending}
use Rattle.rt_rebalance.specs.Target.{turned_online, placed, target_segment, target_segments, target_of, IsOnlineOrSame, IsGoal, AreGoals, IsTarget}
use Rattle.rt_rebalance.proofs.Grouping.{flat, IsRun, IsApart, AreParted, run_same, beside_self, beside_back, beside_same, beside_right, segments_parted, segments_flat}
use Rattle.rt_rebalance.proofs.Lines.{IsOnlineOf}
use Rattle.rt_rebalance.proofs.Orders.{instance_less, segments_ascend}
use Rattle.rt_rebalance.proofs.Stages.{online_beside, runs, are_so, self_goal}

-- ---- a segment's replicas

with_all : (P : IdealEntry → Type 0) (x : IdealEntry) (es : List IdealEntry) → P x → AllByRecursion P es → AllByRecursion P (with_entry x es)
with_all P x [] p h = (p, tt)
with_all P x (e ∷ es) p h = by (is_before x e) (with_all P x es p h.1)
  where
    by : (b : Bool) → AllByRecursion P (with_entry x es) → AllByRecursion P (cond b (x ∷ e ∷ es) (e ∷ with_entry x es))
    by true rest = (p, h)
    by false rest = (h.0, rest)

with_length : (x : IdealEntry) (es : List IdealEntry) → length (with_entry x es) ≡ suc (length es)
with_length x [] = refl
with_length x (e ∷ es) = by (is_before x e) (with_length x es)
  where
    by : (b : Bool) → length (with_entry x es) ≡ suc (length es) → length (cond b (x ∷ e ∷ es) (e ∷ with_entry x es)) ≡ suc (suc (length es))
    by true rest = refl
    by false rest = ap suc rest

abbrev IsOf : Partition → Sequence → IdealEntry → Type 0
IsOf p s e = (e.partition ≡ p) × (e.sequence ≡ s)

consuming_all : (p : Partition) (s : Sequence) (is : List Instance) → AllByRecursion (IsOf p s) (with_consuming [] p s is)
consuming_all p s [] = tt
consuming_all p s (i ∷ is) = with_all (IsOf p s) (consuming p s i) (with_consuming [] p s is) (refl, refl) (consuming_all p s is)

consuming_length : (p : Partition) (s : Sequence) (is : List Instance) → length (with_consuming [] p s is) ≡ length is
consuming_length p s [] = refl
consuming_length p s (i ∷ is) = with_length (consuming p s i) (with_consuming [] p s is) ∙ ap suc (consuming_length p s is)

turned_all : (p : Partition) (s : Sequence) (es : List IdealEntry) → AllByRecursion (IsOf p s) es → AllByRecursion (IsOnlineOf p s) (map turned_online es)
turned_all p s [] h = tt
turned_all p s (e ∷ es) h = ((h.0.0, h.0.1, refl), turned_all p s es h.1)

turned_length : (es : List IdealEntry) → length (map turned_online es) ≡ length es
turned_length [] = refl
turned_length (e ∷ es) = ap suc (turned_length es)

below_turned : (e : IdealEntry) (es : List IdealEntry) → IsRun e es → IsBeforeAll e es → IsBelow (turned_online e) (map turned_online es)
below_turned e [] run h = tt
below_turned e (f ∷ fs) run h = (instance_less e f run.0 h.0, below_turned e fs run.1 h.1)

all_beside : (p : Partition) (s : Sequence) (e : IdealEntry) (es : List IdealEntry) → IsOf p s e → AllByRecursion (IsOf p s) es → IsRun e es
all_beside p s e [] k h = tt
all_beside p s e (f ∷ fs) k h = (
  subst (λ (q : Partition). is_beside (record e { partition = q }) f ≡ true) (h.0.0 ∙ sym k.0) (subst (λ (t : Sequence). is_beside (record { partition = f.partition; sequence = t; instance = e.instance; mode = e.mode }) f ≡ true) (h.0.1 ∙ sym k.1) (beside_self f)),
  all_beside p s e fs k h.1,
)

turned_ascends : (p : Partition) (s : Sequence) (es : List IdealEntry) → AllByRecursion (IsOf p s) es → IsAscending es → AreAscending (map turned_online es)
turned_ascends p s [] h k = tt
turned_ascends p s (e ∷ es) h k = (below_turned e es (all_beside p s e es h.0 h.1) k.0, turned_ascends p s es h.1 k.1)

module _ (replication servers : ℕ) (some : 1 ≤ replication) (enough : replication ≤ servers) where
  placed_all : (e : IdealEntry) → AllByRecursion (IsOnlineOf e.partition e.sequence) (placed replication servers e)
  placed_all e =
      turned_all e.partition e.sequence (with_consuming [] e.partition e.sequence (replicas_of e.partition replication servers))
      (consuming_all e.partition e.sequence (replicas_of e.partition replication servers))

  placed_some : (e : IdealEntry) → 0 < length (placed replication servers e)
  placed_some e =
      let one = turned_length (with_consuming [] e.partition e.sequence (replicas_of e.partition replication servers)) in
      let two = consuming_length e.partition e.sequence (replicas_of e.partition replication servers) in
      let three = (replicas_placed e.partition replication servers some enough).count in
      omega (arith, one, two, three, some)

  placed_ascends : (e : IdealEntry) → AreAscending (placed replication servers e)
  placed_ascends e =
      turned_ascends e.partition e.sequence (with_consuming [] e.partition e.sequence (replicas_of e.partition replication servers))
      (consuming_all e.partition e.sequence (replicas_of e.partition replication servers))
      (consuming_ascends [] e.partition e.sequence (replicas_of e.partition replication servers) tt refl (replicas_distinct e.partition replication servers some enough))

  -- ---- one segment

  record IsGoalOf (e : IdealEntry) (es goal : Segment) : Type 0 where
    right : IsGoal (e ∷ es) goal
    run : IsRun e goal
    ascends : AreAscending goal

  placed_goal : (e : IdealEntry) (es stage : Segment) → are_online (e ∷ es) ≡ true → AllByRecursion (IsOnlineOf e.partition e.sequence) stage → 0 < length stage → AreAscending stage → IsGoalOf e es stage
  placed_goal e es [] online all some asc = absurd (omega (arith, some))
  placed_goal e es (f ∷ fs) online all some asc =
      record {
        right = (online_beside e f all.0, subst (λ b. IsOnlineOrSame b (e ∷ es) (f ∷ fs)) (sym online) (are_so e (f ∷ fs) all));
        run = runs e (f ∷ fs) all;
        ascends = asc;
      }

  one_goal : (e : IdealEntry) (es : Segment) → IsRun e es → AreAscending (e ∷ es) → IsGoalOf e es (target_segment replication servers (e ∷ es))
  one_goal e es run asc = by (are_online (e ∷ es)) refl
    where
      by : (b : Bool) → are_online (e ∷ es) ≡ b → IsGoalOf e es (cond b (placed replication servers e) (e ∷ es))
      by true online = placed_goal e es (placed replication servers e) online (placed_all e) (placed_some e) (placed_ascends e)
      by false online = record { right = self_goal e es; run = (beside_self e, run); ascends = asc }

  -- ---- all segments

  goals : List Segment → List Segment
  goals segments = map (target_segment replication servers) segments

  goals_flat : (segments : List Segment) → target_segments replication servers segments ≡ flat (map (target_segment replication servers) segments)
  goals_flat [] = refl
  goals_flat (segment ∷ segments) = ap (λ es. target_segment replication servers segment ++ es) (goals_flat segments)

  are_goals : (segments : List Segment) → AreParted segments → AllByRecursion AreAscending segments → AreGoals segments (map (target_segment replication servers) segments)
  are_goals [] p a = tt
  are_goals ([] ∷ segments) p a = absurd p
  are_goals ((e ∷ es) ∷ segments) p a = ((one_goal e es p.0 a.0).right, are_goals segments p.2 a.1)

  goals_ascend : (segments : List Segment) → AreParted segments → AllByRecursion AreAscending segments → AllByRecursion AreAscending (map (target_segment replication servers) segments)
  goals_ascend [] p a = tt
  goals_ascend ([] ∷ segments) p a = absurd p
  goals_ascend ((e ∷ es) ∷ segments) p a = ((one_goal e es p.0 a.0).ascends, goals_ascend segments p.2 a.1)

  apart_goal : (e g : IdealEntry) (segments : List Segment) → is_beside e g ≡ true → AreParted segments → AllByRecursion AreAscending segments → IsApart e segments → IsApart g (map (target_segment replication servers) segments)
  apart_goal e g [] same p a apart = tt
  apart_goal e g ([] ∷ segments) same p a apart = absurd apart
  apart_goal e g ((f ∷ fs) ∷ segments) same p a apart = by (target_segment replication servers (f ∷ fs)) (one_goal f fs p.0 a.0).right
    where
      by : (goal : Segment) → IsGoal (f ∷ fs) goal → IsApart g (goal ∷ map (target_segment replication servers) segments)
      by [] k = absurd k
      by (x ∷ xs) k = sym (beside_same e g x same) ∙ beside_right e f x k.0 ∙ apart

  goals_parted : (segments : List Segment) → AreParted segments → AllByRecursion AreAscending segments → AreParted (map (target_segment replication servers) segments)
  goals_parted [] p a = tt
  goals_parted ([] ∷ segments) p a = absurd p
  goals_parted ((e ∷ es) ∷ segments) p a = by (target_segment replication servers (e ∷ es)) (one_goal e es p.0 a.0) (goals_parted segments p.2 a.1)
    where
      by : (goal : Segment) → IsGoalOf e es goal → AreParted (map (target_segment replication servers) segments) → AreParted (goal ∷ map (target_segment replication servers) segments)
      by [] k rest = absurd k.right
      by (x ∷ xs) k rest = (run_same x e xs (beside_back e x k.run.0) k.run.1, apart_goal e x segments k.run.0 p.2 a.1 p.1, rest)

  pub is_target : (es goal : List IdealEntry) → goal ≡ target_of replication servers es → IsAscending es → IsTarget es goal
  is_target es goal is asc =
      let ordered = segments_ascend es asc in
      let parts = segments_parted es in
      let split : segments_of goal ≡ map (target_segment replication servers) (segments_of es) =
      ap segments_of (is ∙ goals_flat (segments_of es)) ∙ segments_flat (map (target_segment replication servers) (segments_of es)) (goals_parted (segments_of es) parts ordered) in
      record {
        now_ascends = asc;
        goal_ascends = subst (AllByRecursion AreAscending) (sym split) (goals_ascend (segments_of es) parts ordered);
        goals = subst (AreGoals (segments_of es)) (sym split) (are_goals (segments_of es) parts ordered);
      }
