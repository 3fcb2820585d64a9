-- What is made is a plan.
use Rattle.std.proofs.Common.{◌≡◌, ℕ, zero, suc, ◌+◌, ◌≤◌, max, true, List, [], ◌∷◌, ◌++◌, map, filter, Option, Some, None, Result, Ok, Err, IfOk, is_some, refl, sym, ap, ◌∙◌, subst, true≢false, arith}
use Rattle.std.specs.List.{AllByRecursion, range_with_len}
use Rattle.std.proofs.lemmas.List.{map-append}
use Rattle.std.proofs.lemmas.List.Elements.{filter-append}
use Rattle.rt_model.specs.declared.ideal_state.IdealEntry.{IdealEntry}
use Rattle.rt_model.specs.declared.ideal_state.IdealState.{IdealState}
use Rattle.rt_rebalance.specs.declared.rebalance_refused.RebalanceRefused.{RebalanceRefused}
use Rattle.rt_rebalance.specs.declared.slot.Slot.{Slot}
use Rattle.rt_rebalance.specs.Plan.{AreStages, AllKeep, IsState, LeadsTo, IsRebalancePlan}
use Rattle.rt_rebalance.specs.Planned.{is_there, entries_at, steps_of, slots_of_segment, slots_of_segments, slots_of, state_at, plan_of, is_planned, Plans, planned}
use Rattle.rt_rebalance.specs.Refused.{refused_segment, first_refused, refused_segments, refused_of}
use Rattle.rt_rebalance.specs.Segments.{Segment, is_beside, segments_of, AreAscending}
use Rattle.rt_rebalance.specs.Target.{IsGoal, AreGoals, IsTarget}
use Rattle.rt_rebalance.proofs.Grouping.{flat, IsRun, IsApart, AreParted, run_same, beside_back, beside_same, beside_right, segments_parted, flat_segments, segments_flat}
use Rattle.rt_rebalance.proofs.Orders.{segments_ascend}
use Rattle.rt_rebalance.proofs.Stages.{StageFacts, segment_facts}

-- the segments after so many steps
stages : ℕ → ℕ → List Segment → List Segment → List Segment
stages steps keep [] goals = []
stages steps keep (now ∷ later) [] = []
stages steps keep (now ∷ later) (goal ∷ goals) = entries_at steps (slots_of_segment keep now goal) ∷ stages steps keep later goals

entries_append : (steps : ℕ) (xs ys : List Slot) → entries_at steps (xs ++ ys) ≡ entries_at steps xs ++ entries_at steps ys
entries_append steps xs ys =
    ap (map (λ (t : Slot). t.entry)) (filter-append (λ (t : Slot). is_there steps t.turn) xs ys)
    ∙ map-append (λ (t : Slot). t.entry) (filter (λ (t : Slot). is_there steps t.turn) xs) (filter (λ (t : Slot). is_there steps t.turn) ys)

staged : (steps keep : ℕ) (nows goals : List Segment) → entries_at steps (slots_of_segments keep nows goals) ≡ flat (stages steps keep nows goals)
unfolding stages
staged steps keep [] goals = refl
staged steps keep (now ∷ later) [] = refl
staged steps keep (now ∷ later) (goal ∷ goals) =
    entries_append steps (slots_of_segment keep now goal) (slots_of_segments keep later goals)
    ∙ ap (λ es. entries_at steps (slots_of_segment keep now goal) ++ es) (staged steps keep later goals)

-- ---- each segment by itself

AllFacts : ℕ → List Segment → List Segment → Type 0
AllFacts keep [] [] = Unit {0}
AllFacts keep [] (goal ∷ goals) = ⊥
AllFacts keep ([] ∷ later) goals = ⊥
AllFacts keep ((e ∷ es) ∷ later) [] = ⊥
AllFacts keep ((e ∷ es) ∷ later) (goal ∷ goals) = StageFacts keep e (e ∷ es) goal (slots_of_segment keep (e ∷ es) goal) × AllFacts keep later goals

pub both_none : (a b : Option RebalanceRefused) → first_refused a b ≡ None → (a ≡ None) × (b ≡ None)
both_none None b h = (refl, h)
both_none (Some a) b h = absurd (true≢false (ap is_some h))

all_facts : (keep : ℕ) (nows goals : List Segment) → AreGoals nows goals → AreParted nows → AreParted goals → AllByRecursion AreAscending nows → AllByRecursion AreAscending goals
    → refused_segments keep nows goals ≡ None → AllFacts keep nows goals
unfolding AllFacts
all_facts keep [] [] g p q a b none = tt
all_facts keep [] (goal ∷ goals) g p q a b none = absurd g
all_facts keep ([] ∷ later) goals g p q a b none = absurd p
all_facts keep ((e ∷ es) ∷ later) [] g p q a b none = absurd g
all_facts keep ((e ∷ es) ∷ later) ([] ∷ goals) g p q a b none = absurd q
all_facts keep ((e ∷ es) ∷ later) ((f ∷ fs) ∷ goals) g p q a b none =
    let both = both_none (refused_segment keep (e ∷ es) (f ∷ fs)) (refused_segments keep later goals) none in (
      segment_facts keep e es f fs
          (record { run = p.0; goal_run = (g.0.0, run_same e f fs g.0.0 q.0); goal = g.0; ascends = a.0; goal_ascends = b.0 }) both.0,
      all_facts keep later goals g.1 p.2 q.2 a.1 b.1 both.1,
    )

are_stages : (steps keep : ℕ) (nows goals : List Segment) → AllFacts keep nows goals → AreStages nows (stages steps keep nows goals)
unfolding AllFacts stages
are_stages steps keep [] [] h = tt
are_stages steps keep [] (goal ∷ goals) h = absurd h
are_stages steps keep ([] ∷ later) goals h = absurd h
are_stages steps keep ((e ∷ es) ∷ later) [] h = absurd h
are_stages steps keep ((e ∷ es) ∷ later) (goal ∷ goals) h = (h.0.stage steps, are_stages steps keep later goals h.1)

all_keep : (steps keep : ℕ) (nows goals : List Segment) → AllFacts keep nows goals → AllKeep keep nows goals (stages steps keep nows goals) (stages (steps + 1) keep nows goals)
unfolding AllFacts stages
all_keep steps keep [] [] h = tt
all_keep steps keep [] (goal ∷ goals) h = absurd h
all_keep steps keep ([] ∷ later) goals h = absurd h
all_keep steps keep ((e ∷ es) ∷ later) [] h = absurd h
all_keep steps keep ((e ∷ es) ∷ later) (goal ∷ goals) h = (h.0.keeps steps, all_keep steps keep later goals h.1)

first_stages : (keep : ℕ) (nows goals : List Segment) → AllFacts keep nows goals → flat (stages 0 keep nows goals) ≡ flat nows
unfolding AllFacts stages
first_stages keep [] [] h = refl
first_stages keep [] (goal ∷ goals) h = absurd h
first_stages keep ([] ∷ later) goals h = absurd h
first_stages keep ((e ∷ es) ∷ later) [] h = absurd h
first_stages keep ((e ∷ es) ∷ later) (goal ∷ goals) h = λ i. h.0.start i ++ first_stages keep later goals h.1 i

pub steps_append : (xs ys : List Slot) → steps_of (xs ++ ys) ≡ max (steps_of xs) (steps_of ys)
steps_append [] ys = omega arith
steps_append (x ∷ xs) ys = let rest = steps_append xs ys in omega (arith, rest)

last_stages : (steps keep : ℕ) (nows goals : List Segment) → AllFacts keep nows goals → steps_of (slots_of_segments keep nows goals) ≤ steps → flat (stages steps keep nows goals) ≡ flat goals
unfolding AllFacts stages
last_stages steps keep [] [] h over = refl
last_stages steps keep [] (goal ∷ goals) h over = absurd h
last_stages steps keep ([] ∷ later) goals h over = absurd h
last_stages steps keep ((e ∷ es) ∷ later) [] h over = absurd h
last_stages steps keep ((e ∷ es) ∷ later) (goal ∷ goals) h over =
    let both = steps_append (slots_of_segment keep (e ∷ es) goal) (slots_of_segments keep later goals) in
    let here : steps_of (slots_of_segment keep (e ∷ es) goal) ≤ steps = omega (arith, both, over) in
    let rest : steps_of (slots_of_segments keep later goals) ≤ steps = omega (arith, both, over) in
    λ i. h.0.end steps here i ++ last_stages steps keep later goals h.1 rest i

-- ---- the states fall into these segments

apart_stage : (steps keep : ℕ) (e g : IdealEntry) (nows goals : List Segment) → is_beside e g ≡ true → IsApart e nows → AllFacts keep nows goals → IsApart g (stages steps keep nows goals)
unfolding AllFacts stages
apart_stage steps keep e g [] [] same apart h = tt
apart_stage steps keep e g [] (goal ∷ goals) same apart h = absurd h
apart_stage steps keep e g ([] ∷ later) goals same apart h = absurd h
apart_stage steps keep e g ((f ∷ fs) ∷ later) [] same apart h = absurd h
apart_stage steps keep e g ((f ∷ fs) ∷ later) (goal ∷ goals) same apart h = by (entries_at steps (slots_of_segment keep (f ∷ fs) goal)) (h.0.stage steps).0
  where
    by : (stage : Segment) → IsGoal (f ∷ fs) stage → IsApart g (stage ∷ stages steps keep later goals)
    by [] k = absurd k
    by (x ∷ xs) k = sym (beside_same e g x same) ∙ beside_right e f x k.0 ∙ apart

parted : (steps keep : ℕ) (nows goals : List Segment) → AreParted nows → AllFacts keep nows goals → AreParted (stages steps keep nows goals)
unfolding AllFacts stages
parted steps keep [] [] p h = tt
parted steps keep [] (goal ∷ goals) p h = absurd h
parted steps keep ([] ∷ later) goals p h = absurd h
parted steps keep ((e ∷ es) ∷ later) [] p h = absurd h
parted steps keep ((e ∷ es) ∷ later) (goal ∷ goals) p h =
    by (entries_at steps (slots_of_segment keep (e ∷ es) goal)) (h.0.stage steps).0 (h.0.run steps) (parted steps keep later goals p.2 h.1)
  where
    by : (stage : Segment) → IsGoal (e ∷ es) stage → IsRun e stage → AreParted (stages steps keep later goals) → AreParted (stage ∷ stages steps keep later goals)
    by [] k run rest = absurd k
    by (x ∷ xs) k run rest = (run_same x e xs (beside_back e x run.0) run.1, apart_stage steps keep e x later goals run.0 p.1 h.1, rest)

module _ (keep : ℕ) (now goal : List IdealEntry) (target : IsTarget now goal) (accept : refused_of keep now goal ≡ None) where
  facts : AllFacts keep (segments_of now) (segments_of goal)
  facts =
      all_facts keep (segments_of now) (segments_of goal) target.goals (segments_parted now) (segments_parted goal)
      (segments_ascend now target.now_ascends) target.goal_ascends accept

  at : ℕ → List IdealEntry
  at steps = entries_at steps (slots_of keep now goal)

  segments_at : (steps : ℕ) → segments_of (entries_at steps (slots_of keep now goal)) ≡ stages steps keep (segments_of now) (segments_of goal)
  segments_at steps =
      ap segments_of (staged steps keep (segments_of now) (segments_of goal))
      ∙ segments_flat (stages steps keep (segments_of now) (segments_of goal)) (parted steps keep (segments_of now) (segments_of goal) (segments_parted now) facts)

  state : (steps : ℕ) → IsState now (entries_at steps (slots_of keep now goal))
  state steps = subst (AreStages (segments_of now)) (sym (segments_at steps)) (are_stages steps keep (segments_of now) (segments_of goal) facts)

  next : (steps : ℕ) → AllKeep keep (segments_of now) (segments_of goal) (segments_of (entries_at steps (slots_of keep now goal))) (segments_of (entries_at (steps + 1) (slots_of keep now goal)))
  next steps =
      subst (λ olds. AllKeep keep (segments_of now) (segments_of goal) olds (segments_of (entries_at (steps + 1) (slots_of keep now goal)))) (sym (segments_at steps))
      (subst (AllKeep keep (segments_of now) (segments_of goal) (stages steps keep (segments_of now) (segments_of goal))) (sym (segments_at (steps + 1)))
      (all_keep steps keep (segments_of now) (segments_of goal) facts))

  first : entries_at 0 (slots_of keep now goal) ≡ now
  first = staged 0 keep (segments_of now) (segments_of goal) ∙ first_stages keep (segments_of now) (segments_of goal) facts ∙ flat_segments now

  last : (steps : ℕ) → steps_of (slots_of keep now goal) ≤ steps → entries_at steps (slots_of keep now goal) ≡ goal
  last steps over = staged steps keep (segments_of now) (segments_of goal) ∙ last_stages steps keep (segments_of now) (segments_of goal) facts over ∙ flat_segments goal

  leads : (count steps : ℕ) → steps + count ≡ steps_of (slots_of keep now goal)
      → LeadsTo keep now goal (entries_at steps (slots_of keep now goal)) (map (state_at (slots_of keep now goal)) (range_with_len (steps + 1) count))
  leads zero steps is = last steps (omega (arith, is))
  leads (suc count) steps is = (state (steps + 1), next steps, leads count (steps + 1) (omega (arith, is)))

  is_plan : IsRebalancePlan keep now goal (plan_of keep now goal)
  is_plan = (
    first,
    subst (IsState now) first (state 0),
    subst (λ es. LeadsTo keep now goal es (map (state_at (slots_of keep now goal)) (range_with_len 1 (steps_of (slots_of keep now goal))))) first (leads (steps_of (slots_of keep now goal)) 0 (omega arith)),
  )

planned_is : (keep : ℕ) (now goal : List IdealEntry) → IsTarget now goal → (refused : Option RebalanceRefused) → refused_of keep now goal ≡ refused
    → IfOk (is_planned refused (plan_of keep now goal)) (IsRebalancePlan keep now goal)
planned_is keep now goal target None accept = is_plan keep now goal target accept
planned_is keep now goal target (Some refused) accept = tt

-- a plan that is answered is one
pub plans_are : (keep : ℕ) (now goal : List IdealEntry) (result : Result (List IdealState) RebalanceRefused) → Plans (planned keep now goal) result
    → IsTarget now goal → IfOk result (IsRebalancePlan keep now goal)
plans_are keep now goal (Ok states) answer target =
    subst (λ r. IfOk r (IsRebalancePlan keep now goal)) (sym answer) (planned_is keep now goal target (refused_of keep now goal) refl)
plans_are keep now goal (Err refused) answer target = tt
