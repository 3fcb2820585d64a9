-- Each plan has at least as many states as the one that is made.
use Rattle.std.proofs.Common.{◌≡◌, ℕ, suc, ◌+◌, ◌-◌, ◌*◌, ◌<◌, ◌≤◌, Bool, true, false, cond, ◌==◌, nat_le, List, [], ◌∷◌, length, Option, Some, None, Result, Ok, Err, IfOk, refl, sym, ap, ◌∙◌, subst, arith}
use Rattle.std.specs.List.{AllByRecursion}
use Rattle.std.proofs.lemmas.Bool.{eqb-true, leb-false}
use Rattle.std.proofs.lemmas.List.FromFn.{length-map-range_with_len}
use Rattle.rt_model.specs.declared.ideal_state.IdealEntry.{IdealEntry}
use Rattle.rt_model.specs.declared.ideal_state.IdealState.{IdealState}
use Rattle.rt_rebalance.specs.declared.rebalance_refused.RebalanceRefused.{RebalanceRefused}
use Rattle.rt_rebalance.specs.Plan.{KeepsOrStays, AreStages, AllKeep, IsState, LeadsTo, IsRebalancePlan}
use Rattle.rt_rebalance.specs.Planned.{lined_up, steps_of, pace_of, stays_in, slots_of_segment, slots_of_segments, slots_of, state_at, plan_of, is_planned, Plans, planned}
use Rattle.rt_rebalance.specs.Refused.{refused_moved, refused_segment, refused_segments, refused_of}
use Rattle.rt_rebalance.specs.Segments.{Segment, segments_of, is_moved, kept_in, AreAscending}
use Rattle.rt_rebalance.specs.Target.{IsTarget}
use Rattle.rt_rebalance.proofs.Fewest.{due, due_less, none_due, leaves_due, lined_steps}
use Rattle.rt_rebalance.proofs.Grouping.{AreParted, segments_parted}
use Rattle.rt_rebalance.proofs.Lines.{balanced, mul-more}
use Rattle.rt_rebalance.proofs.Orders.{segments_ascend}
use Rattle.rt_rebalance.proofs.Plans.{both_none, steps_append}
use Rattle.rt_rebalance.proofs.Stages.{accepted}

one_more : (n : ℕ) → suc n ≡ n + 1
one_more n = omega arith

-- a moved segment has as many instances as its goal, and more than are kept
fits : (keep : ℕ) (e : IdealEntry) (es goal : Segment) → refused_segment keep (e ∷ es) goal ≡ None → is_moved (e ∷ es) goal ≡ true
    → (length (e ∷ es) ≡ length goal) × (keep < length (e ∷ es))
fits keep e es goal none moved =
    let both = accepted (length (e ∷ es) == length goal) (nat_le (length (e ∷ es)) keep) _ _ (sym (ap (λ b. cond b (refused_moved keep e (e ∷ es) goal) None) moved) ∙ none) in
    (eqb-true (length (e ∷ es)) (length goal) both.0, leb-false (length (e ∷ es)) keep both.1)

-- of each moved segment no more have still to leave than may in so many steps
AllDue : ℕ → ℕ → List Segment → List Segment → List Segment → Type 0
AllDue keep steps [] goals stages = Unit {0}
AllDue keep steps (now ∷ later) [] stages = Unit {0}
AllDue keep steps (now ∷ later) (goal ∷ goals) [] = Unit {0}
AllDue keep steps (now ∷ later) (goal ∷ goals) (stage ∷ stages) = (is_moved now goal ≡ true → due goal stage ≤ steps * (length now - keep)) × AllDue keep steps later goals stages

all_none : (keep : ℕ) (nows goals : List Segment) → AllDue keep 0 nows goals goals
unfolding AllDue
all_none keep [] goals = tt
all_none keep (now ∷ later) [] = tt
all_none keep (now ∷ later) (goal ∷ goals) = ((λ moved. let none = none_due goal in omega (arith, none)), all_none keep later goals)

all_step : (keep steps : ℕ) (nows goals olds news : List Segment) → AreParted nows → refused_segments keep nows goals ≡ None → AreStages nows olds → AreStages nows news
    → AllKeep keep nows goals olds news → AllDue keep steps nows goals news → AllDue keep (suc steps) nows goals olds
unfolding AllDue
all_step keep steps [] goals olds news p none a b k d = tt
all_step keep steps (now ∷ later) [] olds news p none a b k d = tt
all_step keep steps (now ∷ later) (goal ∷ goals) [] news p none a b k d = tt
all_step keep steps (now ∷ later) (goal ∷ goals) (old ∷ olds) [] p none a b k d = absurd b
all_step keep steps ([] ∷ later) (goal ∷ goals) (old ∷ olds) (new ∷ news) p none a b k d = absurd p
all_step keep steps ((e ∷ es) ∷ later) (goal ∷ goals) (old ∷ olds) (new ∷ news) p none a b k d =
    let both = both_none (refused_segment keep (e ∷ es) goal) (refused_segments keep later goals) none in (
      (λ moved.
          let enough = fits keep e es goal both.0 moved in
          let kept : keep ≤ length (kept_in old new) = subst (λ b. KeepsOrStays b keep old new) moved k.0 in
          let same = a.0.1 in
          let more = enough.1 in
          let less = due_less keep goal old new a.0.2 b.0.2 kept (omega (arith, same, more)) in
          let before = d.0 moved in
          let product : suc steps * (length (e ∷ es) - keep) ≡ steps * (length (e ∷ es) - keep) + (length (e ∷ es) - keep) = (ap (λ n. n * (length (e ∷ es) - keep)) (one_more steps)) ∙ mul-more steps (length (e ∷ es) - keep) in
          omega (arith, less, before, product, same)),
      all_step keep steps later goals olds news p.2 both.1 a.1 b.1 k.1 d.1,
    )

leads_due : (keep : ℕ) (now goal state : List IdealEntry) (states : List IdealState) → refused_of keep now goal ≡ None → IsState now state → LeadsTo keep now goal state states
    → AllDue keep (length states) (segments_of now) (segments_of goal) (segments_of state)
leads_due keep now goal state [] none is leads =
    subst (λ es. AllDue keep 0 (segments_of now) (segments_of goal) (segments_of es)) (sym leads) (all_none keep (segments_of now) (segments_of goal))
leads_due keep now goal state (next ∷ states) none is leads =
    all_step keep (length states) (segments_of now) (segments_of goal) (segments_of state) (segments_of next.entries) (segments_parted now) none is leads.0 leads.1
    (leads_due keep now goal next.entries states none leads.0 leads.2)

no_steps : (now : Segment) → steps_of (stays_in now) ≡ 0
no_steps [] = refl
no_steps (e ∷ es) = let rest = no_steps es in omega (arith, rest)

segment_within : (keep steps : ℕ) (e : IdealEntry) (es goal : Segment) → refused_segment keep (e ∷ es) goal ≡ None → AreAscending (e ∷ es) → AreAscending goal
    → (is_moved (e ∷ es) goal ≡ true → due goal (e ∷ es) ≤ steps * (length (e ∷ es) - keep)) → steps_of (slots_of_segment keep (e ∷ es) goal) ≤ steps
segment_within keep steps e es goal none h k d = by (is_moved (e ∷ es) goal) refl
  where
    by : (b : Bool) → is_moved (e ∷ es) goal ≡ b → steps_of (cond b (lined_up (pace_of keep (e ∷ es)) 0 0 (e ∷ es) goal) (stays_in (e ∷ es))) ≤ steps
    by true moved =
        let enough = fits keep e es goal none moved in
        let same = enough.0 in
        let more = enough.1 in
        let pace : pace_of keep (e ∷ es) ≡ length (e ∷ es) - keep = omega (arith, more) in
        let product : steps * pace_of keep (e ∷ es) ≡ steps * (length (e ∷ es) - keep) = ap (λ n. steps * n) pace in
        let leaving = leaves_due (pace_of keep (e ∷ es)) 0 0 (e ∷ es) goal h k in
        let even = balanced (pace_of keep (e ∷ es)) 0 0 (e ∷ es) goal in
        let most = d moved in
        lined_steps steps (pace_of keep (e ∷ es)) 0 0 (e ∷ es) goal (omega arith) (omega (arith, leaving, most, product)) (omega (arith, leaving, most, product, even, same))
    by false still = let none = no_steps (e ∷ es) in omega (arith, none)

all_within : (keep steps : ℕ) (nows goals : List Segment) → AreParted nows → refused_segments keep nows goals ≡ None → AllByRecursion AreAscending nows → AllByRecursion AreAscending goals
    → AllDue keep steps nows goals nows → steps_of (slots_of_segments keep nows goals) ≤ steps
unfolding AllDue
all_within keep steps [] goals p none h k d = omega arith
all_within keep steps (now ∷ later) [] p none h k d = omega arith
all_within keep steps ([] ∷ later) (goal ∷ goals) p none h k d = absurd p
all_within keep steps ((e ∷ es) ∷ later) (goal ∷ goals) p none h k d =
    let both = both_none (refused_segment keep (e ∷ es) goal) (refused_segments keep later goals) none in
    let here = segment_within keep steps e es goal both.0 h.0 k.0 d.0 in
    let rest = all_within keep steps later goals p.2 both.1 h.1 k.1 d.1 in
    let all = steps_append (slots_of_segment keep (e ∷ es) goal) (slots_of_segments keep later goals) in
    omega (arith, here, rest, all)

plan_length : (keep : ℕ) (now goal : List IdealEntry) → length (plan_of keep now goal) ≡ suc (steps_of (slots_of keep now goal))
plan_length keep now goal = length-map-range_with_len (state_at (slots_of keep now goal)) 0 (suc (steps_of (slots_of keep now goal)))

plan_least : (keep : ℕ) (now goal : List IdealEntry) → IsTarget now goal → refused_of keep now goal ≡ None → (others : List IdealState) → IsRebalancePlan keep now goal others
    → length (plan_of keep now goal) ≤ length others
plan_least keep now goal target none [] plan = absurd plan
plan_least keep now goal target none (first ∷ states) plan =
    let within : steps_of (slots_of keep now goal) ≤ length states =
    all_within keep (length states) (segments_of now) (segments_of goal) (segments_parted now) none (segments_ascend now target.now_ascends) target.goal_ascends
    (leads_due keep now goal now states none plan.1 plan.2) in
    let count = plan_length keep now goal in
    omega (arith, within, count)

-- a list of states than which no plan has fewer
abbrev IsLeast : ℕ → List IdealEntry → List IdealEntry → List IdealState → Type 0
IsLeast keep now goal states = (others : List IdealState) → IsRebalancePlan keep now goal others → length states ≤ length others

planned_least : (keep : ℕ) (now goal : List IdealEntry) → IsTarget now goal → (refused : Option RebalanceRefused) → refused_of keep now goal ≡ refused
    → IfOk (is_planned refused (plan_of keep now goal)) (IsLeast keep now goal)
planned_least keep now goal target None none = plan_least keep now goal target none
planned_least keep now goal target (Some refused) none = tt

-- no plan has fewer states than the one that is answered
pub plans_are_least : (keep : ℕ) (now goal : List IdealEntry) (result : Result (List IdealState) RebalanceRefused) → Plans (planned keep now goal) result
    → IsTarget now goal → IfOk result (λ states. (others : List IdealState) → IsRebalancePlan keep now goal others → length states ≤ length others)
plans_are_least keep now goal (Ok states) answer target =
    subst (λ r. IfOk r (IsLeast keep now goal)) (sym answer) (planned_least keep now goal target (refused_of keep now goal) refl)
plans_are_least keep now goal (Err refused) answer target = tt
