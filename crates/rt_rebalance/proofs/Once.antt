-- In a plan from an ascending state no instance has a segment twice.
use Rattle.std.proofs.Common.{◌≡◌, ◌<◌, ℕ, zero, suc, Bool, true, false, cond, ◌&&◌, ◌||◌, ◌==◌, nat_lt, List, [], ◌∷◌, ◌++◌, refl, sym, ap, ◌∙◌, subst, arith}
use Rattle.std.specs.List.{AllByRecursion}
use Rattle.std.proofs.lemmas.Bool.Decides.{nat_tests}
use Rattle.rt_model.specs.declared.ideal_state.IdealEntry.{IdealEntry}
use Rattle.rt_model.specs.declared.ideal_state.IdealState.{IdealState}
use Rattle.rt_model.specs.Ideal.{is_of}
use Rattle.rt_model.specs.Order.{IsAscending}
use Rattle.rt_rebalance.specs.Available.{AreOnce, AreStatesOnce}
use Rattle.rt_rebalance.specs.Plan.{AreStages, IsState, LeadsTo, IsRebalancePlan}
use Rattle.rt_rebalance.specs.Rehearsed.{has_replica}
use Rattle.rt_rebalance.specs.Segments.{Segment, is_beside, with_front, segments_of, IsBelow, AreAscending}
use Rattle.rt_rebalance.proofs.Grouping.{flat, IsRun, AreParted, run_same, beside_numbers, beside_same, beside_right, segments_parted, flat_segments}
use Rattle.rt_rebalance.proofs.Orders.{AllIn, IsAfter, all_after}

-- ---- the order of segments

under : ℕ → ℕ → ℕ → ℕ → Bool
under p s q t = cond (p == q) (nat_lt s t) (nat_lt p q)

under_on : (p s q t r u : ℕ) → under p s q t ≡ true → under q t r u ≡ true → under p s r u ≡ true
unfolding under
under_on p s q t r u a b = grind (arith, nat_tests)

under_other : (p s q t : ℕ) → under p s q t ≡ true → ((q == p) && (t == s)) ≡ false
unfolding under
under_other p s q t a = grind (arith, nat_tests)

under_before : (p s i q t j : ℕ) → cond (p == q) (cond (s == t) (nat_lt i j) (nat_lt s t)) (nat_lt p q) ≡ true → ((q == p) && (t == s)) ≡ false → under p s q t ≡ true
unfolding under
under_before p s i q t j a b = grind (arith, nat_tests)

-- an entry's segment is below another's
IsUnder : IdealEntry → IdealEntry → Type 0
IsUnder e f = under e.partition.0 e.sequence.0 f.partition.0 f.sequence.0 ≡ true

under_same : (e f g : IdealEntry) → is_beside e f ≡ true → IsUnder f g → IsUnder e g
unfolding IsUnder
under_same e f g h k =
    let n = beside_numbers e f h in
    subst (λ p. under p e.sequence.0 g.partition.0 g.sequence.0 ≡ true) n.0 (subst (λ s. under f.partition.0 s g.partition.0 g.sequence.0 ≡ true) n.1 k)

-- ---- no segment comes twice

-- an entry's segment is below these
abbrev IsUnderAll : IdealEntry → List Segment → Type 0
IsUnderAll e [] = Unit {0}
IsUnderAll e ([] ∷ ss) = ⊥
IsUnderAll e ((f ∷ fs) ∷ ss) = IsUnder e f × IsUnderAll e ss

abbrev AreUnder : List Segment → Type 0
AreUnder [] = Unit {0}
AreUnder ([] ∷ ss) = ⊥
AreUnder ((e ∷ es) ∷ ss) = IsUnderAll e ss × AreUnder ss

all_same : (e f : IdealEntry) (ss : List Segment) → is_beside e f ≡ true → IsUnderAll f ss → IsUnderAll e ss
all_same e f [] h k = tt
all_same e f ([] ∷ ss) h k = k
all_same e f ((g ∷ gs) ∷ ss) h k = (under_same e f g h k.0, all_same e f ss h k.1)

all_on : (e f : IdealEntry) (ss : List Segment) → IsUnder e f → IsUnderAll f ss → IsUnderAll e ss
unfolding IsUnder
all_on e f [] h k = tt
all_on e f ([] ∷ ss) h k = k
all_on e f ((g ∷ gs) ∷ ss) h k =
    (under_on e.partition.0 e.sequence.0 f.partition.0 f.sequence.0 g.partition.0 g.sequence.0 h k.0, all_on e f ss h k.1)

under_front : (e : IdealEntry) (ss : List Segment) → AllIn (IsAfter e) ss → AreUnder ss → AreUnder (with_front e ss)
unfolding IsUnder
under_front e [] after h = (tt, tt)
under_front e ([] ∷ ss) after h = absurd h
under_front e ((f ∷ fs) ∷ ss) after h = by (is_beside e f) refl
  where
    by : (b : Bool) → is_beside e f ≡ b → AreUnder (cond b ((e ∷ (f ∷ fs)) ∷ ss) ((e ∷ []) ∷ ((f ∷ fs) ∷ ss)))
    by true k = (all_same e f ss k h.0, h.1)
    by false k =
        let first = under_before e.partition.0 e.sequence.0 e.instance.0 f.partition.0 f.sequence.0 f.instance.0 after.0.0 k in
        ((first, all_on e f ss first h.0), h)

segments_under : (es : List IdealEntry) → IsAscending es → AreUnder (segments_of es)
segments_under [] h = tt
segments_under (e ∷ es) h = under_front e (segments_of es) (all_after e es h.0) (segments_under es h.1)

-- ---- an entry of another segment or instance

none_apart : (e : IdealEntry) (segment : Segment) (rest : List IdealEntry) → AllByRecursion (λ f. is_beside e f ≡ false) segment → has_replica rest e ≡ false → has_replica (segment ++ rest) e ≡ false
none_apart e [] rest h k = k
none_apart e (f ∷ fs) rest h k = ap (λ b. (b && (f.instance.0 == e.instance.0)) || has_replica (fs ++ rest) e) h.0 ∙ none_apart e fs rest h.1 k

other_instance : (b c : Bool) (m n : ℕ) → m < n → c ≡ false → ((b && (n == m)) || c) ≡ false
other_instance b c m n h k = grind (arith, nat_tests)

none_below : (e : IdealEntry) (segment : Segment) (rest : List IdealEntry) → IsBelow e segment → has_replica rest e ≡ false → has_replica (segment ++ rest) e ≡ false
none_below e [] rest h k = k
none_below e (f ∷ fs) rest h k =
    other_instance (is_of e.partition e.sequence f) (has_replica (fs ++ rest) e) e.instance.0 f.instance.0 h.0 (none_below e fs rest h.1 k)

run_apart : (e f : IdealEntry) (segment : Segment) → is_beside e f ≡ false → IsRun f segment → AllByRecursion (λ g. is_beside e g ≡ false) segment
run_apart e f [] h run = tt
run_apart e f (g ∷ gs) h run = (beside_right e f g run.0 ∙ h, run_apart e f gs h run.1)

-- ---- the stages of segments of which none comes twice

-- an entry beside one whose segment is below these is of none of their stages
none_staged : (e g : IdealEntry) (nows stages : List Segment) → is_beside e g ≡ true → IsUnderAll e nows → AreStages nows stages → AreParted stages → has_replica (flat stages) g ≡ false
unfolding IsUnder
none_staged e g [] [] same under h p = refl
none_staged e g [] (stage ∷ stages) same under h p = absurd h
none_staged e g ([] ∷ later) stages same under h p = absurd under
none_staged e g ((f ∷ fs) ∷ later) [] same under h p = absurd h
none_staged e g ((f ∷ fs) ∷ later) ([] ∷ stages) same under h p = absurd p
none_staged e g ((f ∷ fs) ∷ later) ((x ∷ xs) ∷ stages) same under h p =
    let other = under_other e.partition.0 e.sequence.0 f.partition.0 f.sequence.0 under.0 in
    let apart : is_beside g x ≡ false = sym (beside_same e g x same) ∙ beside_right e f x h.0.0.0 ∙ other in
    none_apart g (x ∷ xs) (flat stages) (apart, run_apart g x xs apart p.0) (none_staged e g later stages same under.1 h.1 p.2)

once_front : (e : IdealEntry) (stage : Segment) (nows stages : List Segment) → IsRun e stage → AreAscending stage → IsUnderAll e nows → AreStages nows stages → AreParted stages → AreOnce (flat stages)
    → AreOnce (stage ++ flat stages)
once_front e [] nows stages run ascends under h p once = once
once_front e (g ∷ gs) nows stages run ascends under h p once = (
  none_below g gs (flat stages) ascends.0 (none_staged e g nows stages run.0 under h p),
  once_front e gs nows stages run.1 ascends.1 under h p once,
)

stages_once : (nows stages : List Segment) → AreUnder nows → AreStages nows stages → AreParted stages → AreOnce (flat stages)
stages_once [] [] under h p = tt
stages_once [] (stage ∷ stages) under h p = absurd h
stages_once ([] ∷ later) stages under h p = absurd under
stages_once ((e ∷ es) ∷ later) [] under h p = absurd h
stages_once ((e ∷ es) ∷ later) ([] ∷ stages) under h p = absurd p
stages_once ((e ∷ es) ∷ later) ((g ∷ gs) ∷ stages) under h p =
    once_front e (g ∷ gs) later stages (h.0.0.0, run_same e g gs h.0.0.0 p.0) h.0.2 under.0 h.1 p.2 (stages_once later stages under.1 h.1 p.2)

-- ---- the states of a plan

state_once : (now state : List IdealEntry) → IsAscending now → IsState now state → AreOnce state
state_once now state ascends h =
    subst AreOnce (flat_segments state) (stages_once (segments_of now) (segments_of state) (segments_under now ascends) h (segments_parted state))

later_once : (keep : ℕ) (now goal state : List IdealEntry) (states : List IdealState) → IsAscending now → LeadsTo keep now goal state states → AreStatesOnce states
later_once keep now goal state [] ascends leads n = tt
later_once keep now goal state (next ∷ states) ascends leads zero = state_once now next.entries ascends leads.0
later_once keep now goal state (next ∷ states) ascends leads (suc n) = later_once keep now goal next.entries states ascends leads.2 n

pub plan_once : (keep : ℕ) (now goal : List IdealEntry) (states : List IdealState) → IsAscending now → IsRebalancePlan keep now goal states → AreStatesOnce states
plan_once keep now goal [] ascends plan n = absurd plan
plan_once keep now goal (first ∷ states) ascends plan zero = subst AreOnce (sym plan.0) (state_once now now ascends plan.1)
plan_once keep now goal (first ∷ states) ascends plan (suc n) = later_once keep now goal now states ascends plan.2 n
