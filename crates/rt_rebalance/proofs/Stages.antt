-- The states of a plan, segment by segment.
use Rattle.std.proofs.Common.{◌≡◌, ℕ, ◌+◌, ◌<◌, ◌≤◌, Bool, true, false, cond, not, ◌&&◌, ◌==◌, nat_le, List, [], ◌∷◌, length, Some, None, is_some, refl, sym, ap, ◌∙◌, subst, true≢false, arith}
use Rattle.std.specs.List.{AllByRecursion}
use Rattle.std.proofs.lemmas.Bool.{eqb-true, leb-false, and_parts, not-false}
use Rattle.rt_base.specs.declared.numbers.Partition.{Partition}
use Rattle.rt_base.specs.declared.numbers.Sequence.{Sequence}
use Rattle.rt_model.specs.declared.ideal_state.IdealEntry.{IdealEntry}
use Rattle.rt_model.specs.declared.ideal_state.Mode.{Mode}
use Rattle.rt_model.specs.declared.ideal_state.Mode.TheVariants.{Consuming, Online, Offline}
use Rattle.rt_rebalance.specs.declared.rebalance_refused.RebalanceRefused.{RebalanceRefused}
use Rattle.rt_rebalance.specs.declared.slot.Slot.{Slot}
use Rattle.rt_rebalance.specs.Plan.{IsStage, Keeps, KeepsOrStays}
use Rattle.rt_rebalance.specs.Planned.{entries_at, lined_up, pace_of, stays_in, slots_of_segment, steps_of}
use Rattle.rt_rebalance.specs.Refused.{refused_moved, refused_segment}
use Rattle.rt_rebalance.specs.Segments.{Segment, is_beside, is_online, are_online, same_instances, is_moved, AreAscending}
use Rattle.rt_rebalance.specs.Target.{IsGoal, IsOnlineOrSame}
use Rattle.rt_rebalance.proofs.Grouping.{IsRun, beside_self, beside_numbers, numbers_beside}
use Rattle.rt_rebalance.proofs.Lines.{IsOnlineOf, at_start, at_end, all_lined, all_at, lined_ascends, ascends_at, count_stays, most_stay}

-- ---- a segment whose entries are all ONLINE

online_is : (mode : Mode) → is_online mode ≡ true → mode ≡ Online
online_is Consuming h = absurd (true≢false (sym h))
online_is Online h = refl
online_is Offline h = absurd (true≢false (sym h))

is_online_of : (e f : IdealEntry) → is_beside e f ≡ true → is_online f.mode ≡ true → IsOnlineOf e.partition e.sequence f
is_online_of e f beside online =
    let n = beside_numbers e f beside in
    ((λ i. record { 0 = n.0 i }), (λ i. record { 0 = n.1 i }), online_is f.mode online)

all_online_of : (e : IdealEntry) (es : Segment) → IsRun e es → are_online es ≡ true → AllByRecursion (IsOnlineOf e.partition e.sequence) es
all_online_of e [] run h = tt
all_online_of e (f ∷ fs) run h =
    let both = and_parts (is_online f.mode) (are_online fs) h in
    (is_online_of e f run.0 both.0, all_online_of e fs run.1 both.1)

pub online_beside : (e f : IdealEntry) → IsOnlineOf e.partition e.sequence f → is_beside e f ≡ true
online_beside e f h = numbers_beside e f (ap (λ (p : Partition). p.0) h.0) (ap (λ (s : Sequence). s.0) h.1)

pub runs : (e : IdealEntry) (es : Segment) → AllByRecursion (IsOnlineOf e.partition e.sequence) es → IsRun e es
runs e [] h = tt
runs e (f ∷ fs) h = (online_beside e f h.0, runs e fs h.1)

pub are_so : (e : IdealEntry) (es : Segment) → AllByRecursion (IsOnlineOf e.partition e.sequence) es → are_online es ≡ true
are_so e [] h = refl
are_so e (f ∷ fs) h = ap (λ (m : Mode). is_online m && are_online fs) h.0.2 ∙ are_so e fs h.1

same_all : (p : Partition) (s : Sequence) (es fs : Segment) → AllByRecursion (IsOnlineOf p s) es → AllByRecursion (IsOnlineOf p s) fs → same_instances es fs ≡ true → fs ≡ es
same_all p s [] [] h k same = refl
same_all p s [] (f ∷ fs) h k same = absurd (true≢false (sym same))
same_all p s (e ∷ es) [] h k same = absurd (true≢false (sym same))
same_all p s (e ∷ es) (f ∷ fs) h k same =
    let both = and_parts (e.instance.0 == f.instance.0) (same_instances es fs) same in
    let n = eqb-true e.instance.0 f.instance.0 both.0 in
    λ i. record {
      partition = (k.0.0 ∙ sym h.0.0) i;
      sequence = (k.0.1 ∙ sym h.0.1) i;
      instance = record { 0 = sym n i };
      mode = (k.0.2 ∙ sym h.0.2) i;
    } ∷ same_all p s es fs h.1 k.1 both.1 i

-- ---- what is true of a segment in each state

-- the entries of a segment and of its goal, each once
pub record IsPair (e : IdealEntry) (es : Segment) (f : IdealEntry) (fs : Segment) : Type 0 where
  pub run : IsRun e es
  pub goal_run : IsRun e (f ∷ fs)
  pub goal : IsGoal (e ∷ es) (f ∷ fs)
  pub ascends : AreAscending (e ∷ es)
  pub goal_ascends : AreAscending (f ∷ fs)

pub record StageFacts (keep : ℕ) (e : IdealEntry) (now goal : Segment) (slots : List Slot) : Type 0 where
  pub start : entries_at 0 slots ≡ now
  pub end : (steps : ℕ) → steps_of slots ≤ steps → entries_at steps slots ≡ goal
  pub run : (steps : ℕ) → IsRun e (entries_at steps slots)
  pub stage : (steps : ℕ) → IsStage now (entries_at steps slots)
  pub keeps : (steps : ℕ) → Keeps keep now goal (entries_at steps slots) (entries_at (steps + 1) slots)

stays_at : (steps : ℕ) (now : Segment) → entries_at steps (stays_in now) ≡ now
stays_at steps [] = refl
stays_at steps (e ∷ es) = ap (λ xs. e ∷ xs) (stays_at steps es)

pub self_goal : (e : IdealEntry) (es : Segment) → IsGoal (e ∷ es) (e ∷ es)
self_goal e es = (beside_self e, by (are_online (e ∷ es)) refl)
  where
    by : (b : Bool) → are_online (e ∷ es) ≡ b → IsOnlineOrSame b (e ∷ es) (e ∷ es)
    by true h = h
    by false h = refl

online_goal : (e : IdealEntry) (es : Segment) (f : IdealEntry) (fs : Segment) → IsGoal (e ∷ es) (f ∷ fs) → are_online (e ∷ es) ≡ true → are_online (f ∷ fs) ≡ true
online_goal e es f fs g online = subst (λ b. IsOnlineOrSame b (e ∷ es) (f ∷ fs)) online g.1

-- a segment that isn't moved has its goal
goal_is : (e : IdealEntry) (es : Segment) (f : IdealEntry) (fs : Segment) → IsPair e es f fs → is_moved (e ∷ es) (f ∷ fs) ≡ false → (f ∷ fs) ≡ (e ∷ es)
goal_is e es f fs k still = by (are_online (e ∷ es)) refl still
  where
    by : (b : Bool) → are_online (e ∷ es) ≡ b → (b && not (same_instances (e ∷ es) (f ∷ fs))) ≡ false → (f ∷ fs) ≡ (e ∷ es)
    by true online same =
        same_all e.partition e.sequence (e ∷ es) (f ∷ fs) (all_online_of e (e ∷ es) (beside_self e, k.run) online)
        (all_online_of e (f ∷ fs) k.goal_run (online_goal e es f fs k.goal online)) (not-false (same_instances (e ∷ es) (f ∷ fs)) same)
    by false online same = subst (λ b. IsOnlineOrSame b (e ∷ es) (f ∷ fs)) online k.goal.1

still_facts : (keep : ℕ) (e : IdealEntry) (es : Segment) (f : IdealEntry) (fs : Segment) → IsPair e es f fs → is_moved (e ∷ es) (f ∷ fs) ≡ false
    → StageFacts keep e (e ∷ es) (f ∷ fs) (stays_in (e ∷ es))
still_facts keep e es f fs k still =
    record {
      start = stays_at 0 (e ∷ es);
      end = λ steps over. stays_at steps (e ∷ es) ∙ sym (goal_is e es f fs k still);
      run = λ steps. subst (IsRun e) (sym (stays_at steps (e ∷ es))) (beside_self e, k.run);
      stage = λ steps. subst (IsStage (e ∷ es)) (sym (stays_at steps (e ∷ es))) (self_goal e es, refl, k.ascends);
      keeps = λ steps.
          subst
          (λ b. KeepsOrStays b keep (entries_at steps (stays_in (e ∷ es))) (entries_at (steps + 1) (stays_in (e ∷ es))))
          (sym still) (stays_at (steps + 1) (e ∷ es) ∙ sym (stays_at steps (e ∷ es)));
    }

pub accepted : (b c : Bool) (x y : RebalanceRefused) → cond b (cond c (Some x) None) (Some y) ≡ None → (b ≡ true) × (c ≡ false)
accepted true true x y h = absurd (true≢false (ap is_some h))
accepted true false x y h = (refl, refl)
accepted false c x y h = absurd (true≢false (ap is_some h))

stage_goal : (e : IdealEntry) (es stage : Segment) → are_online (e ∷ es) ≡ true → AllByRecursion (IsOnlineOf e.partition e.sequence) stage → 0 < length stage → IsGoal (e ∷ es) stage
stage_goal e es [] online all some = absurd (omega (arith, some))
stage_goal e es (f ∷ fs) online all some =
    (online_beside e f all.0, subst (λ b. IsOnlineOrSame b (e ∷ es) (f ∷ fs)) (sym online) (are_so e (f ∷ fs) all))

moved_facts : (keep : ℕ) (e : IdealEntry) (es : Segment) (f : IdealEntry) (fs : Segment) → IsPair e es f fs → is_moved (e ∷ es) (f ∷ fs) ≡ true
    → refused_moved keep e (e ∷ es) (f ∷ fs) ≡ None → StageFacts keep e (e ∷ es) (f ∷ fs) (lined_up (pace_of keep (e ∷ es)) 0 0 (e ∷ es) (f ∷ fs))
moved_facts keep e es f fs k moved accept =
    let now = e ∷ es in
    let goal = f ∷ fs in
    let pace = pace_of keep (e ∷ es) in
    let slots = lined_up (pace_of keep (e ∷ es)) 0 0 (e ∷ es) (f ∷ fs) in
    let online : are_online (e ∷ es) ≡ true = (and_parts (are_online (e ∷ es)) (not (same_instances (e ∷ es) (f ∷ fs))) moved).0 in
    let all_now = all_online_of e (e ∷ es) (beside_self e, k.run) online in
    let all_goal = all_online_of e (f ∷ fs) k.goal_run (online_goal e es f fs k.goal online) in
    let both = accepted (length (e ∷ es) == length (f ∷ fs)) (nat_le (length (e ∷ es)) keep) _ _ accept in
    let same : length (e ∷ es) ≡ length (f ∷ fs) = eqb-true (length (e ∷ es)) (length (f ∷ fs)) both.0 in
    let more : keep < length (e ∷ es) = leb-false (length (e ∷ es)) keep both.1 in
    let some : 1 ≤ pace_of keep (e ∷ es) = omega arith in
    let all_stage : (steps : ℕ) → AllByRecursion (IsOnlineOf e.partition e.sequence) (entries_at steps (lined_up (pace_of keep (e ∷ es)) 0 0 (e ∷ es) (f ∷ fs))) =
    λ steps. all_at (IsOnlineOf e.partition e.sequence) steps (lined_up (pace_of keep (e ∷ es)) 0 0 (e ∷ es) (f ∷ fs)) (all_lined (IsOnlineOf e.partition e.sequence) (pace_of keep (e ∷ es)) 0 0 (e ∷ es) (f ∷ fs) all_now all_goal) in
    record {
      start = at_start pace 0 0 now goal;
      end = λ steps over. at_end e.partition e.sequence steps pace 0 0 now goal all_now all_goal over;
      run = λ steps. runs e (entries_at steps slots) (all_stage steps);
      stage = λ steps.
          let count = count_stays pace steps now goal some same in
          (stage_goal e es (entries_at steps slots) online (all_stage steps) (omega (arith, count, more)), count, ascends_at steps slots (lined_ascends pace 0 0 now goal k.ascends k.goal_ascends));
      keeps = λ steps.
          let most = most_stay pace steps now goal some same in
          subst
          (λ b. KeepsOrStays b keep (entries_at steps slots) (entries_at (steps + 1) slots))
          (sym moved) (omega (arith, most, more));
    }

pub segment_facts : (keep : ℕ) (e : IdealEntry) (es : Segment) (f : IdealEntry) (fs : Segment) → IsPair e es f fs → refused_segment keep (e ∷ es) (f ∷ fs) ≡ None
    → StageFacts keep e (e ∷ es) (f ∷ fs) (slots_of_segment keep (e ∷ es) (f ∷ fs))
segment_facts keep e es f fs k accept = by (is_moved (e ∷ es) (f ∷ fs)) refl accept
  where
    by : (b : Bool) → is_moved (e ∷ es) (f ∷ fs) ≡ b → cond b (refused_moved keep e (e ∷ es) (f ∷ fs)) None ≡ None
        → StageFacts keep e (e ∷ es) (f ∷ fs) (cond b (lined_up (pace_of keep (e ∷ es)) 0 0 (e ∷ es) (f ∷ fs)) (stays_in (e ∷ es)))
    by true moved accept = moved_facts keep e es f fs k moved accept
    by false still accept = still_facts keep e es f fs k still
