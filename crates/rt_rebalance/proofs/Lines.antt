-- The instances of a moved segment and of its goal in line: what is there after so many steps.
use Rattle.std.proofs.Common.{◌≡◌, ℕ, suc, ◌+◌, ◌-◌, ◌*◌, ◌<◌, ◌≤◌, min, max, Bool, true, false, cond, ◌&&◌, ◌==◌, nat_lt, nat_le, ◌⊎◌, inl, inr, List, [], ◌∷◌, map, filter, length, refl, sym, ap, ◌∙◌, true≢false, arith}
use Rattle.std.specs.List.{AllByRecursion}
use Rattle.std.proofs.lemmas.Bool.{eqb-true, eqb-false, eq-eqb, ltb-true, ltb-false, lt-ltb, le-ltb, le-leb, lt-leb, cases_lt, or_left, or_right}
use Rattle.std.proofs.lemmas.Nat.{le-div, div_below, mul-le}
use Rattle.rt_base.specs.declared.numbers.Partition.{Partition}
use Rattle.rt_base.specs.declared.numbers.Sequence.{Sequence}
use Rattle.rt_model.specs.declared.ideal_state.IdealEntry.{IdealEntry}
use Rattle.rt_model.specs.declared.ideal_state.Mode.TheVariants.{Online}
use Rattle.rt_rebalance.specs.declared.slot.Slot.{Slot}
use Rattle.rt_rebalance.specs.declared.slot.Turn.{Turn}
use Rattle.rt_rebalance.specs.declared.slot.Turn.TheVariants.{Stays, Leaves, Comes}
use Rattle.rt_rebalance.specs.Planned.{is_there, entries_at, slot, step_of, lined_up, steps_of}
use Rattle.rt_rebalance.specs.Segments.{Segment, has_instance, IsBelow, AreAscending, kept_in}

-- one more pair of instances in line, by their order
pub by_line : (P : List Slot → Type 0) (pace left come : ℕ) (e : IdealEntry) (es : Segment) (f : IdealEntry) (fs : Segment)
    → (e.instance.0 ≡ f.instance.0 → P (slot e Stays ∷ lined_up pace left come es fs))
    → (e.instance.0 < f.instance.0 → P (slot e (Leaves (step_of pace left)) ∷ lined_up pace (left + 1) come es (f ∷ fs)))
    → (f.instance.0 < e.instance.0 → P (slot f (Comes (step_of pace come)) ∷ lined_up pace left (come + 1) (e ∷ es) fs))
    → P (lined_up pace left come (e ∷ es) (f ∷ fs))
by_line P pace left come e es f fs same below above = by (e.instance.0 == f.instance.0) (nat_lt e.instance.0 f.instance.0) refl refl
  where
    by : (b c : Bool) → (e.instance.0 == f.instance.0) ≡ b → nat_lt e.instance.0 f.instance.0 ≡ c
        → P (cond b (slot e Stays ∷ lined_up pace left come es fs)
        (cond c (slot e (Leaves (step_of pace left)) ∷ lined_up pace (left + 1) come es (f ∷ fs)) (slot f (Comes (step_of pace come)) ∷ lined_up pace left (come + 1) (e ∷ es) fs)))
    by true c h k = same (eqb-true e.instance.0 f.instance.0 h)
    by false true h k = below (ltb-true e.instance.0 f.instance.0 k)
    by false false h k =
        let apart = eqb-false e.instance.0 f.instance.0 h in
        let low = ltb-false e.instance.0 f.instance.0 k in
        above (strict e.instance.0 f.instance.0 apart low)
      where
        strict : (m n : ℕ) → (m ≡ n → ⊥) → n ≤ m → n < m
        strict m n apart low = omega (arith, apart, low)

-- ---- when an instance is there

step_past : (pace earlier steps : ℕ) → 1 ≤ pace → steps * pace ≤ earlier → steps < step_of pace earlier
step_past pace earlier steps some h = let q = le-div steps earlier pace some h in omega (arith, q)

pub step_gone : (pace earlier steps : ℕ) → 1 ≤ pace → earlier < steps * pace → step_of pace earlier ≤ steps
step_gone pace earlier steps some h = let q = div_below earlier pace steps some h in omega (arith, q)

-- ---- before the first step, and after the last

entries_more : (steps : ℕ) (s : Slot) (ss : List Slot) (b : Bool) → is_there steps s.turn ≡ b → entries_at steps (s ∷ ss) ≡ cond b (s.entry ∷ entries_at steps ss) (entries_at steps ss)
entries_more steps s ss b e = ap (λ c. map (λ (t : Slot). t.entry) (cond c (s ∷ filter (λ t. is_there steps t.turn) ss) (filter (λ t. is_there steps t.turn) ss))) e ∙ by b
  where
    by : (c : Bool) → map (λ (t : Slot). t.entry) (cond c (s ∷ filter (λ t. is_there steps t.turn) ss) (filter (λ t. is_there steps t.turn) ss)) ≡ cond c (s.entry ∷ entries_at steps ss) (entries_at steps ss)
    by true = refl
    by false = refl

start_leaves : (pace left : ℕ) (e : IdealEntry) (ss : List Slot) (es : Segment) → entries_at 0 ss ≡ es → entries_at 0 (slot e (Leaves (step_of pace left)) ∷ ss) ≡ e ∷ es
start_leaves pace left e ss es h = entries_more 0 (slot e (Leaves (step_of pace left))) ss true (lt-ltb 0 (step_of pace left) (omega arith)) ∙ ap (λ xs. e ∷ xs) h

start_comes : (pace come : ℕ) (e : IdealEntry) (ss : List Slot) (es : Segment) → entries_at 0 ss ≡ es → entries_at 0 (slot e (Comes (step_of pace come)) ∷ ss) ≡ es
start_comes pace come e ss es h = entries_more 0 (slot e (Comes (step_of pace come))) ss false (lt-leb (step_of pace come) 0 (omega arith)) ∙ h

pub at_start : (pace left come : ℕ) (now goal : Segment) → entries_at 0 (lined_up pace left come now goal) ≡ now
at_start pace left come [] [] = refl
at_start pace left come [] (f ∷ fs) = start_comes pace come f (lined_up pace left (come + 1) [] fs) [] (at_start pace left (come + 1) [] fs)
at_start pace left come (e ∷ es) [] = start_leaves pace left e (lined_up pace (left + 1) come es []) es (at_start pace (left + 1) come es [])
at_start pace left come (e ∷ es) (f ∷ fs) =
    by_line (λ ss. entries_at 0 ss ≡ e ∷ es) pace left come e es f fs
    (λ same. ap (λ xs. e ∷ xs) (at_start pace left come es fs))
    (λ below. start_leaves pace left e (lined_up pace (left + 1) come es (f ∷ fs)) es (at_start pace (left + 1) come es (f ∷ fs)))
    (λ above. start_comes pace come f (lined_up pace left (come + 1) (e ∷ es) fs) (e ∷ es) (at_start pace left (come + 1) (e ∷ es) fs))

-- an ONLINE entry of a segment
abbrev pub IsOnlineOf : Partition → Sequence → IdealEntry → Type 0
IsOnlineOf p s e = (e.partition ≡ p) × (e.sequence ≡ s) × (e.mode ≡ Online)

same_entry : (p : Partition) (s : Sequence) (e f : IdealEntry) → IsOnlineOf p s e → IsOnlineOf p s f → e.instance.0 ≡ f.instance.0 → e ≡ f
same_entry p s e f h k same =
    λ i. record { partition = (h.0 ∙ sym k.0) i; sequence = (h.1 ∙ sym k.1) i; instance = record { 0 = same i }; mode = (h.2 ∙ sym k.2) i }

end_leaves : (steps step : ℕ) (e : IdealEntry) (ss : List Slot) (es : Segment) → step ≤ steps → entries_at steps ss ≡ es → entries_at steps (slot e (Leaves step) ∷ ss) ≡ es
end_leaves steps step e ss es over h = entries_more steps (slot e (Leaves step)) ss false (le-ltb steps step over) ∙ h

end_comes : (steps step : ℕ) (e : IdealEntry) (ss : List Slot) (es : Segment) → step ≤ steps → entries_at steps ss ≡ es → entries_at steps (slot e (Comes step) ∷ ss) ≡ e ∷ es
end_comes steps step e ss es over h = entries_more steps (slot e (Comes step)) ss true (le-leb step steps over) ∙ ap (λ xs. e ∷ xs) h

first_of : (m n steps : ℕ) → max m n ≤ steps → m ≤ steps
first_of m n steps h = omega (arith, h)

second_of : (m n steps : ℕ) → max m n ≤ steps → n ≤ steps
second_of m n steps h = omega (arith, h)

pub at_end : (p : Partition) (s : Sequence) (steps pace left come : ℕ) (now goal : Segment) → AllByRecursion (IsOnlineOf p s) now → AllByRecursion (IsOnlineOf p s) goal
    → steps_of (lined_up pace left come now goal) ≤ steps → entries_at steps (lined_up pace left come now goal) ≡ goal
at_end p s steps pace left come [] [] h k over = refl
at_end p s steps pace left come [] (f ∷ fs) h k over =
    end_comes steps (step_of pace come) f (lined_up pace left (come + 1) [] fs) fs (first_of (step_of pace come) (steps_of (lined_up pace left (come + 1) [] fs)) steps over)
    (at_end p s steps pace left (come + 1) [] fs h k.1 (second_of (step_of pace come) (steps_of (lined_up pace left (come + 1) [] fs)) steps over))
at_end p s steps pace left come (e ∷ es) [] h k over =
    end_leaves steps (step_of pace left) e (lined_up pace (left + 1) come es []) [] (first_of (step_of pace left) (steps_of (lined_up pace (left + 1) come es [])) steps over)
    (at_end p s steps pace (left + 1) come es [] h.1 k (second_of (step_of pace left) (steps_of (lined_up pace (left + 1) come es [])) steps over))
at_end p s steps pace left come (e ∷ es) (f ∷ fs) h k over =
    by_line (λ ss. steps_of ss ≤ steps → entries_at steps ss ≡ f ∷ fs) pace left come e es f fs
    (λ same less.
    (λ i. same_entry p s e f h.0 k.0 same i ∷ at_end p s steps pace left come es fs h.1 k.1 (second_of 0 (steps_of (lined_up pace left come es fs)) steps less) i))
    (λ below less.
    end_leaves steps (step_of pace left) e (lined_up pace (left + 1) come es (f ∷ fs)) (f ∷ fs) (first_of (step_of pace left) (steps_of (lined_up pace (left + 1) come es (f ∷ fs))) steps less)
    (at_end p s steps pace (left + 1) come es (f ∷ fs) h.1 k (second_of (step_of pace left) (steps_of (lined_up pace (left + 1) come es (f ∷ fs))) steps less)))
    (λ above less.
    end_comes steps (step_of pace come) f (lined_up pace left (come + 1) (e ∷ es) fs) fs (first_of (step_of pace come) (steps_of (lined_up pace left (come + 1) (e ∷ es) fs)) steps less)
    (at_end p s steps pace left (come + 1) (e ∷ es) fs h k.1 (second_of (step_of pace come) (steps_of (lined_up pace left (come + 1) (e ∷ es) fs)) steps less)))
    over

-- ---- how many are there in two states

abbrev pub one_if : Bool → ℕ
one_if true = 1
one_if false = 0

abbrev pub leaves_by : Turn → ℕ
leaves_by Stays = 0
leaves_by (Leaves step) = 1
leaves_by (Comes step) = 0

abbrev pub comes_by : Turn → ℕ
comes_by Stays = 0
comes_by (Leaves step) = 0
comes_by (Comes step) = 1

abbrev pub leaves_in : List Slot → ℕ
leaves_in [] = 0
leaves_in (s ∷ ss) = leaves_by s.turn + leaves_in ss

abbrev pub comes_in : List Slot → ℕ
comes_in [] = 0
comes_in (s ∷ ss) = comes_by s.turn + comes_in ss

abbrev pub count_at : ℕ → ℕ → List Slot → ℕ
count_at i j [] = 0
count_at i j (s ∷ ss) = one_if (is_there i s.turn && is_there j s.turn) + count_at i j ss

pub balanced : (pace left come : ℕ) (now goal : Segment)
    → length now + comes_in (lined_up pace left come now goal) ≡ length goal + leaves_in (lined_up pace left come now goal)
balanced pace left come [] [] = refl
balanced pace left come [] (f ∷ fs) = let rest = balanced pace left (come + 1) [] fs in omega (arith, rest)
balanced pace left come (e ∷ es) [] = let rest = balanced pace (left + 1) come es [] in omega (arith, rest)
balanced pace left come (e ∷ es) (f ∷ fs) =
    by_line (λ ss. length (e ∷ es) + comes_in ss ≡ length (f ∷ fs) + leaves_in ss) pace left come e es f fs
    (λ same. let rest = balanced pace left come es fs in omega (arith, rest))
    (λ below. let rest = balanced pace (left + 1) come es (f ∷ fs) in omega (arith, rest))
    (λ above. let rest = balanced pace left (come + 1) (e ∷ es) fs in omega (arith, rest))

module _ (pace i j : ℕ) (some : 1 ≤ pace) (order : i ≤ j) where
  abbrev pub both : Turn → ℕ
  both turn = one_if (is_there i turn && is_there j turn)

  ordered : i * pace ≤ j * pace
  ordered = mul-le i pace j pace order (omega arith)

  there : (b c : Bool) → b ≡ true → c ≡ true → one_if (b && c) ≡ 1
  there true true h k = refl
  there true false h k = absurd (true≢false (sym k))
  there false c h k = absurd (true≢false (sym h))

  not_first : (b c : Bool) → b ≡ false → one_if (b && c) ≡ 0
  not_first true c h = absurd (true≢false h)
  not_first false c h = refl

  not_second : (b c : Bool) → c ≡ false → one_if (b && c) ≡ 0
  not_second true true h = absurd (true≢false h)
  not_second true false h = refl
  not_second false c h = refl

  leave_cases : (left : ℕ) → ((both (Leaves (step_of pace left)) ≡ 1) × (j * pace ≤ left)) ⊎ ((both (Leaves (step_of pace left)) ≡ 0) × (left < j * pace))
  leave_cases left = by (cases_lt left (j * pace))
    where
      by : (left < j * pace) ⊎ (j * pace ≤ left) → ((both (Leaves (step_of pace left)) ≡ 1) × (j * pace ≤ left)) ⊎ ((both (Leaves (step_of pace left)) ≡ 0) × (left < j * pace))
      by (inl h) = inr (not_second (nat_lt i (step_of pace left)) (nat_lt j (step_of pace left)) (le-ltb j (step_of pace left) (step_gone pace left j some h)), h)
      by (inr h) =
          let low : i * pace ≤ left = omega (arith, ordered, h) in
          inl (there (nat_lt i (step_of pace left)) (nat_lt j (step_of pace left)) (lt-ltb i (step_of pace left) (step_past pace left i some low)) (lt-ltb j (step_of pace left) (step_past pace left j some h)), h)

  come_cases : (come : ℕ) → ((both (Comes (step_of pace come)) ≡ 1) × (come < i * pace)) ⊎ ((both (Comes (step_of pace come)) ≡ 0) × (i * pace ≤ come))
  come_cases come = by (cases_lt come (i * pace))
    where
      by : (come < i * pace) ⊎ (i * pace ≤ come) → ((both (Comes (step_of pace come)) ≡ 1) × (come < i * pace)) ⊎ ((both (Comes (step_of pace come)) ≡ 0) × (i * pace ≤ come))
      by (inl h) =
          let low : come < j * pace = omega (arith, ordered, h) in
          inl (there (nat_le (step_of pace come) i) (nat_le (step_of pace come) j) (le-leb (step_of pace come) i (step_gone pace come i some h)) (le-leb (step_of pace come) j (step_gone pace come j some low)), h)
      by (inr h) = inr (not_first (nat_le (step_of pace come) i) (nat_le (step_of pace come) j) (lt-leb (step_of pace come) i (step_past pace come i some h)), h)

  leave_step : (x y left c o l m r : ℕ) → ((o ≡ 1) × (y ≤ left)) ⊎ ((o ≡ 0) × (left < y)) → c + min l (y - (left + 1)) ≡ m + r → (o + c) + min (1 + l) (y - left) ≡ suc m + r
  leave_step x y left c o l m r (inl h) e = let p = h.0 in let q = h.1 in omega (arith, p, q, e)
  leave_step x y left c o l m r (inr h) e = let p = h.0 in let q = h.1 in omega (arith, p, q, e)

  come_step : (x come c o n l m : ℕ) → ((o ≡ 1) × (come < x)) ⊎ ((o ≡ 0) × (x ≤ come)) → c + l ≡ m + min n (x - (come + 1)) → (o + c) + l ≡ m + min (1 + n) (x - come)
  come_step x come c o n l m (inl h) e = let p = h.0 in let q = h.1 in omega (arith, p, q, e)
  come_step x come c o n l m (inr h) e = let p = h.0 in let q = h.1 in omega (arith, p, q, e)

  abbrev pub Counts : ℕ → ℕ → Segment → List Slot → Type 0
  Counts left come now ss = count_at i j ss + min (leaves_in ss) (j * pace - left) ≡ length now + min (comes_in ss) (i * pace - come)

  pub counted : (left come : ℕ) (now goal : Segment) → Counts left come now (lined_up pace left come now goal)
  counted left come [] [] = omega arith
  counted left come [] (f ∷ fs) =
      let ss = lined_up pace left (come + 1) [] fs in
      let more = come_step (i * pace) come (count_at i j ss) (both (Comes (step_of pace come))) (comes_in ss) (min (leaves_in ss) (j * pace - left)) 0 (come_cases come) (counted left (come + 1) [] fs) in
      omega (arith, more)
  counted left come (e ∷ es) [] =
      let ss = lined_up pace (left + 1) come es [] in
      let more = leave_step (i * pace) (j * pace) left (count_at i j ss) (both (Leaves (step_of pace left))) (leaves_in ss) (length es) (min (comes_in ss) (i * pace - come)) (leave_cases left) (counted (left + 1) come es []) in
      omega (arith, more)
  counted left come (e ∷ es) (f ∷ fs) =
      by_line (Counts left come (e ∷ es)) pace left come e es f fs
      (λ same. let rest = counted left come es fs in omega (arith, rest))
      (λ below.
      let ss = lined_up pace (left + 1) come es (f ∷ fs) in
      let more = leave_step (i * pace) (j * pace) left (count_at i j ss) (both (Leaves (step_of pace left))) (leaves_in ss) (length es) (min (comes_in ss) (i * pace - come)) (leave_cases left) (counted (left + 1) come es (f ∷ fs)) in
      omega (arith, more))
      (λ above.
      let ss = lined_up pace left (come + 1) (e ∷ es) fs in
      let more = come_step (i * pace) come (count_at i j ss) (both (Comes (step_of pace come))) (comes_in ss) (min (leaves_in ss) (j * pace - left)) (length (e ∷ es)) (come_cases come) (counted left (come + 1) (e ∷ es) fs) in
      omega (arith, more))

-- ---- what all entries in line have in common, and their order

pub all_lined : (P : IdealEntry → Type 0) (pace left come : ℕ) (now goal : Segment) → AllByRecursion P now → AllByRecursion P goal
    → AllByRecursion P (map (λ (t : Slot). t.entry) (lined_up pace left come now goal))
all_lined P pace left come [] [] h k = tt
all_lined P pace left come [] (f ∷ fs) h k = (k.0, all_lined P pace left (come + 1) [] fs h k.1)
all_lined P pace left come (e ∷ es) [] h k = (h.0, all_lined P pace (left + 1) come es [] h.1 k)
all_lined P pace left come (e ∷ es) (f ∷ fs) h k =
    by_line (λ ss. AllByRecursion P (map (λ (t : Slot). t.entry) ss)) pace left come e es f fs
    (λ same. (h.0, all_lined P pace left come es fs h.1 k.1))
    (λ below. (h.0, all_lined P pace (left + 1) come es (f ∷ fs) h.1 k))
    (λ above. (k.0, all_lined P pace left (come + 1) (e ∷ es) fs h k.1))

pub all_at : (P : IdealEntry → Type 0) (steps : ℕ) (ss : List Slot) → AllByRecursion P (map (λ (t : Slot). t.entry) ss) → AllByRecursion P (entries_at steps ss)
all_at P steps [] h = tt
all_at P steps (s ∷ ss) h = by (is_there steps s.turn) (all_at P steps ss h.1)
  where
    by : (b : Bool) → AllByRecursion P (entries_at steps ss) → AllByRecursion P (map (λ (t : Slot). t.entry) (cond b (s ∷ filter (λ t. is_there steps t.turn) ss) (filter (λ t. is_there steps t.turn) ss)))
    by true rest = (h.0, rest)
    by false rest = rest

abbrev IsAbove : IdealEntry → IdealEntry → Type 0
IsAbove d e = d.instance.0 < e.instance.0

below_all : (d : IdealEntry) (es : Segment) → IsBelow d es → AllByRecursion (IsAbove d) es
below_all d [] h = tt
below_all d (e ∷ es) h = (h.0, below_all d es h.1)

all_below : (d : IdealEntry) (es : Segment) → AllByRecursion (IsAbove d) es → IsBelow d es
all_below d [] h = tt
all_below d (e ∷ es) h = (h.0, all_below d es h.1)

lower : (d e : IdealEntry) (es : Segment) → d.instance.0 ≤ e.instance.0 → AllByRecursion (IsAbove e) es → AllByRecursion (IsAbove d) es
lower d e [] low h = tt
lower d e (f ∷ fs) low h = let here = h.0 in (omega (arith, low, here), lower d e fs low h.1)

lined_below : (d : IdealEntry) (pace left come : ℕ) (now goal : Segment) → AllByRecursion (IsAbove d) now → AllByRecursion (IsAbove d) goal
    → IsBelow d (map (λ (t : Slot). t.entry) (lined_up pace left come now goal))
lined_below d pace left come now goal h k = all_below d (map (λ (t : Slot). t.entry) (lined_up pace left come now goal)) (all_lined (IsAbove d) pace left come now goal h k)

pub lined_ascends : (pace left come : ℕ) (now goal : Segment) → AreAscending now → AreAscending goal → AreAscending (map (λ (t : Slot). t.entry) (lined_up pace left come now goal))
lined_ascends pace left come [] [] h k = tt
lined_ascends pace left come [] (f ∷ fs) h k = (lined_below f pace left (come + 1) [] fs tt (below_all f fs k.0), lined_ascends pace left (come + 1) [] fs tt k.1)
lined_ascends pace left come (e ∷ es) [] h k = (lined_below e pace (left + 1) come es [] (below_all e es h.0) tt, lined_ascends pace (left + 1) come es [] h.1 tt)
lined_ascends pace left come (e ∷ es) (f ∷ fs) h k =
    by_line (λ ss. AreAscending (map (λ (t : Slot). t.entry) ss)) pace left come e es f fs
    (λ same.
    (lined_below e pace left come es fs (below_all e es h.0) (lower e f fs (omega (arith, same)) (below_all f fs k.0)), lined_ascends pace left come es fs h.1 k.1))
    (λ below.
    (lined_below e pace (left + 1) come es (f ∷ fs) (below_all e es h.0) (below, lower e f fs (omega (arith, below)) (below_all f fs k.0)), lined_ascends pace (left + 1) come es (f ∷ fs) h.1 k))
    (λ above.
    (lined_below f pace left (come + 1) (e ∷ es) fs (above, lower f e es (omega (arith, above)) (below_all e es h.0)) (below_all f fs k.0), lined_ascends pace left (come + 1) (e ∷ es) fs h k.1))

pub ascends_at : (steps : ℕ) (ss : List Slot) → AreAscending (map (λ (t : Slot). t.entry) ss) → AreAscending (entries_at steps ss)
ascends_at steps [] h = tt
ascends_at steps (s ∷ ss) h = by (is_there steps s.turn) (ascends_at steps ss h.1)
  where
    below : IsBelow s.entry (entries_at steps ss)
    below = all_below s.entry (entries_at steps ss) (all_at (IsAbove s.entry) steps ss (below_all s.entry (map (λ (t : Slot). t.entry) ss) h.0))

    by : (b : Bool) → AreAscending (entries_at steps ss) → AreAscending (map (λ (t : Slot). t.entry) (cond b (s ∷ filter (λ t. is_there steps t.turn) ss) (filter (λ t. is_there steps t.turn) ss)))
    by true rest = (below, rest)
    by false rest = rest

-- ---- those that stay from one state to another

abbrev IsKeptAt : ℕ → Segment → Slot → Type 0
IsKeptAt j new s = is_there j s.turn ≡ true → has_instance new s.entry.instance ≡ true

has_more : (j : ℕ) (e : IdealEntry) (new : Segment) (ss : List Slot) → AllByRecursion (IsKeptAt j new) ss → AllByRecursion (IsKeptAt j (e ∷ new)) ss
has_more j e new [] h = tt
has_more j e new (s ∷ ss) h = ((λ there. or_right (e.instance.0 == s.entry.instance.0) (has_instance new s.entry.instance) (h.0 there)), has_more j e new ss h.1)

all_kept : (j : ℕ) (ss : List Slot) → AllByRecursion (IsKeptAt j (entries_at j ss)) ss
all_kept j [] = tt
all_kept j (s ∷ ss) = by (is_there j s.turn) refl (all_kept j ss)
  where
    by : (b : Bool) → is_there j s.turn ≡ b → AllByRecursion (IsKeptAt j (entries_at j ss)) ss
        → AllByRecursion (IsKeptAt j (map (λ (t : Slot). t.entry) (cond b (s ∷ filter (λ t. is_there j t.turn) ss) (filter (λ t. is_there j t.turn) ss)))) (s ∷ ss)
    by true is rest =
        ((λ there. or_left (s.entry.instance.0 == s.entry.instance.0) (has_instance (entries_at j ss) s.entry.instance) (eq-eqb s.entry.instance.0 s.entry.instance.0 refl)), has_more j s.entry (entries_at j ss) ss rest)
    by false is rest = ((λ there. absurd (true≢false (sym there ∙ is))), rest)

kept_counts : (i j : ℕ) (new : Segment) (ss : List Slot) → AllByRecursion (IsKeptAt j new) ss → count_at i j ss ≤ length (kept_in (entries_at i ss) new)
kept_counts i j new [] h = omega arith
kept_counts i j new (s ∷ ss) h = by (is_there i s.turn) (is_there j s.turn) refl (kept_counts i j new ss h.1)
  where
    kept : (b : Bool) → has_instance new s.entry.instance ≡ b → b ≡ true → (n : ℕ) → n ≤ length (kept_in (entries_at i ss) new) → 1 + n ≤ length (cond b (s.entry ∷ kept_in (entries_at i ss) new) (kept_in (entries_at i ss) new))
    kept true e is n le = omega (arith, le)
    kept false e is n le = absurd (true≢false (sym is))

    more : (b : Bool) (n : ℕ) → n ≤ length (kept_in (entries_at i ss) new) → n ≤ length (cond b (s.entry ∷ kept_in (entries_at i ss) new) (kept_in (entries_at i ss) new))
    more true n le = omega (arith, le)
    more false n le = le

    by : (b c : Bool) → is_there j s.turn ≡ c → count_at i j ss ≤ length (kept_in (entries_at i ss) new)
        → one_if (b && c) + count_at i j ss ≤ length (kept_in (map (λ (t : Slot). t.entry) (cond b (s ∷ filter (λ t. is_there i t.turn) ss) (filter (λ t. is_there i t.turn) ss))) new)
    by true true is le = kept (has_instance new s.entry.instance) refl (h.0 is) (count_at i j ss) le
    by true false is le = let rest = more (has_instance new s.entry.instance) (count_at i j ss) le in omega (arith, rest)
    by false c is le = omega (arith, le)

-- at least as many stay as are there in both states
pub kept_between : (i j : ℕ) (ss : List Slot) → count_at i j ss ≤ length (kept_in (entries_at i ss) (entries_at j ss))
kept_between i j ss = kept_counts i j (entries_at j ss) ss (all_kept j ss)

pub mul-more : (i pace : ℕ) → (i + 1) * pace ≡ i * pace + pace
mul-more i pace = grind arith

-- how many are there in one state
pub count_one : (i : ℕ) (ss : List Slot) → count_at i i ss ≡ length (entries_at i ss)
count_one i [] = refl
count_one i (s ∷ ss) = by (is_there i s.turn) (count_one i ss)
  where
    by : (b : Bool) → count_at i i ss ≡ length (entries_at i ss) → one_if (b && b) + count_at i i ss ≡ length (map (λ (t : Slot). t.entry) (cond b (s ∷ filter (λ t. is_there i t.turn) ss) (filter (λ t. is_there i t.turn) ss)))
    by true e = omega (arith, e)
    by false e = omega (arith, e)

-- as many instances as before are there in each state, where the goal has as many
pub count_stays : (pace i : ℕ) (now goal : Segment) → 1 ≤ pace → length now ≡ length goal → length (entries_at i (lined_up pace 0 0 now goal)) ≡ length now
count_stays pace i now goal some same =
    let ss = lined_up pace 0 0 now goal in
    let counts = counted pace i i some (omega arith) 0 0 now goal in
    let one = count_one i ss in
    let even = balanced pace 0 0 now goal in
    omega (arith, counts, one, even, same)

-- all but `pace` of them stay from one state to the next
pub most_stay : (pace i : ℕ) (now goal : Segment) → 1 ≤ pace → length now ≡ length goal
    → length now ≤ length (kept_in (entries_at i (lined_up pace 0 0 now goal)) (entries_at (i + 1) (lined_up pace 0 0 now goal))) + pace
most_stay pace i now goal some same =
    let ss = lined_up pace 0 0 now goal in
    let counts = counted pace i (i + 1) some (omega arith) 0 0 now goal in
    let kept = kept_between i (i + 1) ss in
    let even = balanced pace 0 0 now goal in
    let next : (i + 1) * pace ≡ i * pace + pace = mul-more i pace in
    omega (arith, counts, kept, even, same, next)
