-- Where one of two lists of segments ends, and one state more.
use Rattle.std.proofs.Common.{◌≡◌, ℕ, suc, ◌+◌, ◌≤◌, length, List, [], ◌∷◌, ◌++◌, map, Some, None, Result, Err, refl, ap, ◌∙◌, arith, zero, ◌<◌, true, cond, take, drop, get_or, slice_get}
use Rattle.std.specs.List.{range_with_len}
use Rattle.std.proofs.lemmas.Option.{slice_get_within}
use Rattle.std.proofs.lemmas.List.FromFn.{map-range_with_len_more}
use Rattle.rt_rebalance.specs.declared.slot.Slot.{Slot}
use Rattle.std.specs.List.{remove}
use Rattle.rt_base.specs.declared.numbers.Partition.{Partition}
use Rattle.rt_base.specs.declared.numbers.Sequence.{Sequence}
use Rattle.rt_base.specs.declared.numbers.Instance.{Instance}
use Rattle.rt_model.specs.Ideal.{is_of_instance}
use Rattle.rt_rebalance.specs.Rehearsed.{without}
use Rattle.rt_model.specs.declared.ideal_state.IdealEntry.{IdealEntry}
use Rattle.rt_model.specs.declared.ideal_state.IdealState.{IdealState}
use Rattle.rt_rebalance.specs.declared.rebalance_refused.RebalanceRefused.{RebalanceRefused}
use Rattle.rt_rebalance.specs.declared.rebalance_refused.RebalanceRefused.TheVariants.{Replicas, Keep, NotLoaded, Ended, Memory}
use Rattle.rt_rebalance.specs.Planned.{slots_of_segments, slots_of, state_at, is_planned, plan_of, planned, Plans}
use Rattle.rt_rebalance.specs.Refused.{refused_segments, refused_of}
use Rattle.rt_rebalance.specs.Segments.{Segment, segments_of}

pub no_goals : (keep : ℕ) (nows : List Segment) → slots_of_segments keep nows [] ≡ []
no_goals keep [] = refl
no_goals keep (now ∷ later) = refl

pub none_refused : (keep : ℕ) (nows : List Segment) → refused_segments keep nows [] ≡ None
none_refused keep [] = refl
none_refused keep (now ∷ later) = refl

-- the states so far, and the last
pub states_last : (slots : List Slot) (k : ℕ) → map (state_at slots) (range_with_len 0 (suc k)) ≡ map (state_at slots) (range_with_len 0 k) ++ state_at slots k ∷ []
states_last slots k =
    let one : suc k ≡ k + 1 = omega arith in
    ap (λ n. map (state_at slots) (range_with_len 0 n)) one ∙ map-range_with_len_more (state_at slots) 0 k k (omega arith)

pub states_more : (slots : List Slot) (k : ℕ) → map (state_at slots) (range_with_len 0 (k + 1)) ≡ map (state_at slots) (range_with_len 0 k) ++ state_at slots k ∷ []
states_more slots k = map-range_with_len_more (state_at slots) 0 k k (omega arith)

-- a refusal is the stated answer
plans_err : (wanted : Result (List IdealState) RebalanceRefused) (refused : RebalanceRefused) → Err refused ≡ wanted → Plans wanted (Err refused)
plans_err wanted (Replicas p s) e = e
plans_err wanted (Keep p s) e = e
plans_err wanted (NotLoaded p s i) e = e
plans_err wanted Ended e = e
plans_err wanted Memory e = tt

pub plans_refused : (keep : ℕ) (now goal : List IdealEntry) (refused : RebalanceRefused) → Some refused ≡ refused_of keep now goal → Plans (planned keep now goal) (Err refused)
plans_refused keep now goal refused e = plans_err (planned keep now goal) refused (ap (λ o. is_planned o (plan_of keep now goal)) e)

pub short_refused : (keep : ℕ) (later goals : List IdealEntry) → length goals ≤ 0 → refused_of keep later goals ≡ None
short_refused keep later [] h = none_refused keep (segments_of later)
short_refused keep later (g ∷ gs) h = absurd (omega (arith, h))

pub short_slots : (keep : ℕ) (later goals : List IdealEntry) → length goals ≤ 0 → slots_of keep later goals ≡ []
short_slots keep later [] h = no_goals keep (segments_of later)
short_slots keep later (g ∷ gs) h = absurd (omega (arith, h))

-- ---- the first entry of an instance, taken out at its place

at_place : (p : Partition) (s : Sequence) (i : Instance) (es : List IdealEntry) (place : ℕ) (d : IdealEntry) → place < length es → is_of_instance p s i (get_or es place d) ≡ true
    → without p s i (drop place es) ≡ drop (suc place) es
at_place p s i [] place d h is = absurd (omega (arith, h))
at_place p s i (e ∷ es) zero d h is = ap (λ b. cond b es (e ∷ without p s i es)) is
at_place p s i (e ∷ es) (suc place) d h is = at_place p s i es place d (omega (arith, h)) is

pub removed : (p : Partition) (s : Sequence) (i : Instance) (es : List IdealEntry) (place : ℕ) (d : IdealEntry) → place < length es → is_of_instance p s i (get_or es place d) ≡ true
    → without p s i es ≡ take place es ++ without p s i (drop place es) → without p s i es ≡ remove es place
removed p s i es place d h is so_far = so_far ∙ ap (λ xs. take place es ++ xs) (at_place p s i es place d h is)

-- a state that is found is one of the list
pub next_within : (states : List IdealState) (at : ℕ) (next : IdealState) → slice_get states (at + 1) ≡ Some next → at + 1 ≤ length states
next_within states at next e = let h = slice_get_within states (at + 1) next e in omega (arith, h)
