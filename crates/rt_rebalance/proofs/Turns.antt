-- The lowest instances leave first, and the lowest come first.
use Rattle.std.proofs.Common.{ℕ, ◌+◌, ◌/◌, ◌<◌, ◌≤◌, Bool, true, false, cond, List, [], ◌∷◌, arith}
use Rattle.std.specs.List.{AllByRecursion}
use Rattle.std.proofs.lemmas.Nat.{le-div}
use Rattle.std.proofs.Math.Nat.{div-mul-le_self}
use Rattle.rt_model.specs.declared.ideal_state.IdealEntry.{IdealEntry}
use Rattle.rt_rebalance.specs.InTurn.{GoesFirst, IsLower, AreInTurn}
use Rattle.rt_rebalance.specs.Planned.{slot, step_of, lined_up, pace_of, stays_in, slots_of_segment}
use Rattle.rt_rebalance.specs.Segments.{Segment, is_moved, IsBelow, AreAscending}
use Rattle.rt_rebalance.specs.declared.slot.Slot.{Slot}
use Rattle.rt_rebalance.specs.declared.slot.Turn.{Turn}
use Rattle.rt_rebalance.specs.declared.slot.Turn.TheVariants.{Stays, Leaves, Comes}
use Rattle.rt_rebalance.proofs.Lines.{by_line}

step_later : (pace a b : ℕ) → 1 ≤ pace → a ≤ b → step_of pace a ≤ step_of pace b
step_later pace a b some h =
    let whole = div-mul-le_self a pace in
    let less = le-div (a / pace) b pace some (omega (arith, whole, h)) in
    omega (arith, less)

-- neither leaves nor comes before these steps
NotBefore : ℕ → ℕ → Turn → Type 0
NotBefore leave come Stays = Unit {0}
NotBefore leave come (Leaves step) = leave ≤ step
NotBefore leave come (Comes step) = come ≤ step

record Behind (d : IdealEntry) (leave come : ℕ) (t : Slot) : Type 0 where
  above : d.instance.0 < t.entry.instance.0
  turn : NotBefore leave come t.turn

IsUnder : IdealEntry → Segment → Type 0
IsUnder d es = AllByRecursion (λ (e : IdealEntry). d.instance.0 < e.instance.0) es

under : (d : IdealEntry) (es : Segment) → IsBelow d es → IsUnder d es
unfolding IsUnder
under d [] h = tt
under d (e ∷ es) h = (h.0, under d es h.1)

under_more : (d e : IdealEntry) (es : Segment) → d.instance.0 ≤ e.instance.0 → IsUnder e es → IsUnder d es
unfolding IsUnder
under_more d e [] low h = tt
under_more d e (f ∷ fs) low h = let here = h.0 in (omega (arith, low, here), under_more d e fs low h.1)

all_behind : (d : IdealEntry) (leave arrive pace left come : ℕ) (now goal : Segment) → 1 ≤ pace → leave ≤ step_of pace left → arrive ≤ step_of pace come → IsUnder d now → IsUnder d goal
    → AllByRecursion (Behind d leave arrive) (lined_up pace left come now goal)
unfolding IsUnder NotBefore
all_behind d leave arrive pace left come [] [] some l c h k = tt
all_behind d leave arrive pace left come [] (f ∷ fs) some l c h k =
    let more = step_later pace come (come + 1) some (omega arith) in
    (record { above = k.0; turn = c }, all_behind d leave arrive pace left (come + 1) [] fs some l (omega (arith, c, more)) tt k.1)
all_behind d leave arrive pace left come (e ∷ es) [] some l c h k =
    let more = step_later pace left (left + 1) some (omega arith) in
    (record { above = h.0; turn = l }, all_behind d leave arrive pace (left + 1) come es [] some (omega (arith, l, more)) c h.1 tt)
all_behind d leave arrive pace left come (e ∷ es) (f ∷ fs) some l c h k =
    let gone = step_later pace left (left + 1) some (omega arith) in
    let come_too = step_later pace come (come + 1) some (omega arith) in
    by_line (AllByRecursion (Behind d leave arrive)) pace left come e es f fs
    (λ same. (record { above = h.0; turn = tt }, all_behind d leave arrive pace left come es fs some l c h.1 k.1))
    (λ below. (record { above = h.0; turn = l }, all_behind d leave arrive pace (left + 1) come es (f ∷ fs) some (omega (arith, l, gone)) c h.1 k))
    (λ above. (record { above = k.0; turn = c }, all_behind d leave arrive pace left (come + 1) (e ∷ es) fs some l (omega (arith, c, come_too)) h k.1))

stays_first : (d : IdealEntry) (leave come : ℕ) (ss : List Slot) → AllByRecursion (Behind d leave come) ss → AllByRecursion (IsLower (slot d Stays)) ss
stays_first d leave come [] h = tt
stays_first d leave come (t ∷ ts) h = ((h.0.above, tt), stays_first d leave come ts h.1)

leaves_first : (d : IdealEntry) (leave come : ℕ) (ss : List Slot) → AllByRecursion (Behind d leave come) ss → AllByRecursion (IsLower (slot d (Leaves leave))) ss
unfolding NotBefore
leaves_first d leave come [] h = tt
leaves_first d leave come (t ∷ ts) h = ((h.0.above, by t.turn h.0.turn), leaves_first d leave come ts h.1)
  where
    by : (turn : Turn) → NotBefore leave come turn → GoesFirst (Leaves leave) turn
    by Stays n = tt
    by (Leaves step) n = n
    by (Comes step) n = tt

comes_first : (d : IdealEntry) (leave come : ℕ) (ss : List Slot) → AllByRecursion (Behind d leave come) ss → AllByRecursion (IsLower (slot d (Comes come))) ss
unfolding NotBefore
comes_first d leave come [] h = tt
comes_first d leave come (t ∷ ts) h = ((h.0.above, by t.turn h.0.turn), comes_first d leave come ts h.1)
  where
    by : (turn : Turn) → NotBefore leave come turn → GoesFirst (Comes come) turn
    by Stays n = tt
    by (Leaves step) n = tt
    by (Comes step) n = n

same_step : (n : ℕ) → n ≤ n
same_step n = omega arith

behind_now : (d : IdealEntry) (pace left come others mine : ℕ) (now goal : Segment) → 1 ≤ pace → left ≤ others → come ≤ mine → IsUnder d now → IsUnder d goal
    → AllByRecursion (Behind d (step_of pace left) (step_of pace come)) (lined_up pace others mine now goal)
behind_now d pace left come others mine now goal some l c h k =
    all_behind d (step_of pace left) (step_of pace come) pace others mine now goal some (step_later pace left others some l) (step_later pace come mine some c) h k

lined_in_turn : (pace left come : ℕ) (now goal : Segment) → 1 ≤ pace → AreAscending now → AreAscending goal → AreInTurn (lined_up pace left come now goal)
unfolding IsUnder
lined_in_turn pace left come [] [] some h k = tt
lined_in_turn pace left come [] (f ∷ fs) some h k = (
  comes_first f (step_of pace left) (step_of pace come) (lined_up pace left (come + 1) [] fs) (behind_now f pace left come left (come + 1) [] fs some (same_step left) (omega arith) tt (under f fs k.0)),
  lined_in_turn pace left (come + 1) [] fs some tt k.1,
)
lined_in_turn pace left come (e ∷ es) [] some h k = (
  leaves_first e (step_of pace left) (step_of pace come) (lined_up pace (left + 1) come es []) (behind_now e pace left come (left + 1) come es [] some (omega arith) (same_step come) (under e es h.0) tt),
  lined_in_turn pace (left + 1) come es [] some h.1 tt,
)
lined_in_turn pace left come (e ∷ es) (f ∷ fs) some h k =
    by_line AreInTurn pace left come e es f fs
    (λ same. (
      stays_first e (step_of pace left) (step_of pace come) (lined_up pace left come es fs)
          (behind_now e pace left come left come es fs some (same_step left) (same_step come) (under e es h.0) (under_more e f fs (omega (arith, same)) (under f fs k.0))),
      lined_in_turn pace left come es fs some h.1 k.1,
    ))
    (λ below. (
      leaves_first e (step_of pace left) (step_of pace come) (lined_up pace (left + 1) come es (f ∷ fs))
          (behind_now e pace left come (left + 1) come es (f ∷ fs) some (omega arith) (same_step come) (under e es h.0) (below, under_more e f fs (omega (arith, below)) (under f fs k.0))),
      lined_in_turn pace (left + 1) come es (f ∷ fs) some h.1 k,
    ))
    (λ above. (
      comes_first f (step_of pace left) (step_of pace come) (lined_up pace left (come + 1) (e ∷ es) fs)
          (behind_now f pace left come left (come + 1) (e ∷ es) fs some (same_step left) (omega arith) (above, under_more f e es (omega (arith, above)) (under e es h.0)) (under f fs k.0)),
      lined_in_turn pace left (come + 1) (e ∷ es) fs some h k.1,
    ))

stays_in_turn : (now : Segment) → AreAscending now → AreInTurn (stays_in now)
stays_in_turn [] h = tt
stays_in_turn (e ∷ es) h = (all e es h.0, stays_in_turn es h.1)
  where
    all : (e : IdealEntry) (es : Segment) → IsBelow e es → AllByRecursion (IsLower (slot e Stays)) (stays_in es)
    all e [] h = tt
    all e (f ∷ fs) h = ((h.0, tt), all e fs h.1)

pub slots_in_turn : (keep : ℕ) (now goal : Segment) → AreAscending now → AreAscending goal → AreInTurn (slots_of_segment keep now goal)
slots_in_turn keep now goal h k = by (is_moved now goal)
  where
    some : 1 ≤ pace_of keep now
    some = omega arith

    by : (b : Bool) → AreInTurn (cond b (lined_up (pace_of keep now) 0 0 now goal) (stays_in now))
    by true = lined_in_turn (pace_of keep now) 0 0 now goal some h k
    by false = stays_in_turn now h
