-- No plan has fewer states.
use Rattle.std.proofs.Common.{◌≡◌, ℕ, ◌+◌, ◌-◌, ◌*◌, ◌<◌, ◌≤◌, Bool, true, false, cond, not, ◌&&◌, ◌||◌, ◌==◌, ◌⊎◌, inl, inr, [], ◌∷◌, length, refl, ap, ◌∙◌, true≢false, arith}
use Rattle.std.specs.List.{AllByRecursion}
use Rattle.std.proofs.lemmas.Bool.{ne_eqb, eq-eqb, cases_order}
use Rattle.rt_base.specs.declared.numbers.Instance.{Instance}
use Rattle.rt_model.specs.declared.ideal_state.IdealEntry.{IdealEntry}
use Rattle.rt_rebalance.specs.Planned.{lined_up, steps_of}
use Rattle.rt_rebalance.specs.Segments.{Segment, has_instance, kept_in, IsBelow, AreAscending}
use Rattle.rt_rebalance.proofs.Lines.{one_if, by_line, leaves_in, comes_in, step_gone}

-- those of a segment that a test takes
abbrev pub count : (IdealEntry → Bool) → Segment → ℕ
count test [] = 0
count test (e ∷ es) = one_if (test e) + count test es

-- an instance above all that are looked for changes nothing
abbrev Above : IdealEntry → Segment → Type 0
Above f es = AllByRecursion (λ (e : IdealEntry). f.instance.0 < e.instance.0) es

has_above : (f : IdealEntry) (fs : Segment) (e : IdealEntry) → f.instance.0 < e.instance.0 → has_instance (f ∷ fs) e.instance ≡ has_instance fs e.instance
has_above f fs e less = ap (λ b. b || has_instance fs e.instance) (ne_eqb f.instance.0 e.instance.0 (λ same. absurd (omega (arith, less, same))))

count_above : (P : IdealEntry → Bool → Bool) (f : IdealEntry) (fs es : Segment) → Above f es
    → count (λ e. P e (has_instance (f ∷ fs) e.instance)) es ≡ count (λ e. P e (has_instance fs e.instance)) es
count_above P f fs [] h = refl
count_above P f fs (e ∷ es) h =
    λ i. one_if (P e (has_above f fs e h.0 i)) + count_above P f fs es h.1 i

above_of : (e : IdealEntry) (es : Segment) → IsBelow e es → Above e es
above_of e [] h = tt
above_of e (f ∷ fs) h = (h.0, above_of e fs h.1)

above_lower : (d e : IdealEntry) (es : Segment) → d.instance.0 ≤ e.instance.0 → Above e es → Above d es
above_lower d e [] low h = tt
above_lower d e (f ∷ fs) low h = let here = h.0 in (omega (arith, low, here), above_lower d e fs low h.1)

none_below : (e : IdealEntry) (fs : Segment) → Above e fs → has_instance fs e.instance ≡ false
none_below e [] h = refl
none_below e (f ∷ fs) h =
    let here = h.0 in
    ap (λ b. b || has_instance fs e.instance) (ne_eqb f.instance.0 e.instance.0 (λ same. absurd (omega (arith, here, same)))) ∙ none_below e fs h.1

-- ---- of two segments, those of the first that the second has too are no more than those of the second

module _ (test : ℕ → Bool) where
  abbrev pub shared : Segment → Segment → ℕ
  shared old new = count (λ e. has_instance new e.instance && test e.instance.0) old

  abbrev pub passing : Segment → ℕ
  passing new = count (λ e. test e.instance.0) new

  pub shared_most : (old new : Segment) → AreAscending old → AreAscending new → shared old new ≤ passing new
  shared_most [] new h k = omega arith
  shared_most (e ∷ es) [] h k = none_at (e ∷ es)
    where
      none_at : (xs : Segment) → count (λ x. has_instance [] x.instance && test x.instance.0) xs ≤ 0
      none_at [] = omega arith
      none_at (x ∷ xs) = let rest = none_at xs in omega (arith, rest)
  shared_most (e ∷ es) (f ∷ fs) h k = by (cases_order e.instance.0 f.instance.0) (shared_most es fs h.1 k.1) (shared_most es (f ∷ fs) h.1 k) (shared_most (e ∷ es) fs h k.1)
    where
      by : (e.instance.0 ≡ f.instance.0) ⊎ ((e.instance.0 < f.instance.0) ⊎ (f.instance.0 < e.instance.0))
          → shared es fs ≤ passing fs → shared es (f ∷ fs) ≤ passing (f ∷ fs) → shared (e ∷ es) fs ≤ passing fs → shared (e ∷ es) (f ∷ fs) ≤ passing (f ∷ fs)
      by (inl same) both now goal =
          let rest = count_above (λ x b. b && test x.instance.0) f fs es (above_lower f e es (omega (arith, same)) (above_of e es h.0)) in
          let here : one_if (has_instance (f ∷ fs) e.instance && test e.instance.0) ≤ one_if (test f.instance.0) =
          most (has_instance (f ∷ fs) e.instance) (test e.instance.0) (test f.instance.0) (ap test same) in
          omega (arith, rest, both, here)
        where
          most : (a b c : Bool) → b ≡ c → one_if (a && b) ≤ one_if c
          most true true true is = omega arith
          most true false c is = omega arith
          most true true false is = absurd (true≢false is)
          most false b c is = omega arith
      by (inr (inl below)) both now goal =
          let none = none_below e (f ∷ fs) (below, above_lower e f fs (omega (arith, below)) (above_of f fs k.0)) in
          let here : one_if (has_instance (f ∷ fs) e.instance && test e.instance.0) ≡ 0 = ap (λ b. one_if (b && test e.instance.0)) none in
          omega (arith, here, now)
      by (inr (inr above)) both now goal =
          let rest = count_above (λ x b. b && test x.instance.0) f fs (e ∷ es) (above, above_lower f e es (omega (arith, above)) (above_of e es h.0)) in
          omega (arith, rest, goal)

-- ---- how many have still to leave

-- those of a segment that its goal hasn't
abbrev pub due : Segment → Segment → ℕ
due goal stage = count (λ e. not (has_instance goal e.instance)) stage

pub kept_counted : (new old : Segment) → length (kept_in old new) ≡ count (λ e. has_instance new e.instance) old
kept_counted new [] = refl
kept_counted new (e ∷ es) = by (has_instance new e.instance) (kept_counted new es)
  where
    by : (b : Bool) → length (kept_in es new) ≡ count (λ x. has_instance new x.instance) es → length (cond b (e ∷ kept_in es new) (kept_in es new)) ≡ one_if b + count (λ x. has_instance new x.instance) es
    by true rest = omega (arith, rest)
    by false rest = omega (arith, rest)

-- each is one that both have, or one that is not kept
parted_due : (goal new old : Segment)
    → due goal old + count (λ e. has_instance new e.instance) old ≤ length old + count (λ e. has_instance new e.instance && not (has_instance goal e.instance)) old
parted_due goal new [] = omega arith
parted_due goal new (e ∷ es) = by (has_instance new e.instance) (not (has_instance goal e.instance)) (parted_due goal new es)
  where
    by : (a b : Bool) → due goal es + count (λ x. has_instance new x.instance) es ≤ length es + count (λ x. has_instance new x.instance && not (has_instance goal x.instance)) es
        → (one_if b + due goal es) + (one_if a + count (λ x. has_instance new x.instance) es) ≤ length (e ∷ es) + (one_if (a && b) + count (λ x. has_instance new x.instance && not (has_instance goal x.instance)) es)
    by true true rest = omega (arith, rest)
    by true false rest = omega (arith, rest)
    by false true rest = omega (arith, rest)
    by false false rest = omega (arith, rest)

has_number : (goal : Segment) (i : Instance) → has_instance goal i ≡ has_instance goal (record { 0 = i.0 })
has_number goal i = refl

-- in one step no more leave than may
pub due_less : (keep : ℕ) (goal old new : Segment) → AreAscending old → AreAscending new → keep ≤ length (kept_in old new) → keep ≤ length old
    → due goal old ≤ due goal new + (length old - keep)
due_less keep goal old new h k kept some =
    let one = kept_counted new old in
    let two = parted_due goal new old in
    let three : count (λ e. has_instance new e.instance && not (has_instance goal e.instance)) old ≤ due goal new =
    shared_most (λ n. not (has_instance goal (record { 0 = n }))) old new h k in
    omega (arith, one, two, three, kept, some)

own_due : (goal es : Segment) → AllByRecursion (λ (e : IdealEntry). has_instance goal e.instance ≡ true) es → due goal es ≡ 0
own_due goal [] h = refl
own_due goal (e ∷ es) h = λ i. one_if (not (h.0 i)) + own_due goal es h.1 i

has_more : (f : IdealEntry) (goal es : Segment) → AllByRecursion (λ (e : IdealEntry). has_instance goal e.instance ≡ true) es → AllByRecursion (λ (e : IdealEntry). has_instance (f ∷ goal) e.instance ≡ true) es
has_more f goal [] h = tt
has_more f goal (e ∷ es) h = (either (f.instance.0 == e.instance.0) (has_instance goal e.instance) h.0, has_more f goal es h.1)
  where
    either : (a b : Bool) → b ≡ true → (a || b) ≡ true
    either true b is = refl
    either false b is = is

pub has_all : (es : Segment) → AllByRecursion (λ (e : IdealEntry). has_instance es e.instance ≡ true) es
has_all [] = tt
has_all (e ∷ es) = (ap (λ b. b || has_instance es e.instance) (eq-eqb e.instance.0 e.instance.0 refl), has_more e es es (has_all es))

-- at the goal none has to leave
pub none_due : (goal : Segment) → due goal goal ≡ 0
none_due goal = own_due goal goal (has_all goal)

-- ---- the line has no more leaving than are due

pub leaves_due : (pace left come : ℕ) (now goal : Segment) → AreAscending now → AreAscending goal → leaves_in (lined_up pace left come now goal) ≤ due goal now
leaves_due pace left come [] [] h k = omega arith
leaves_due pace left come [] (f ∷ fs) h k = let rest = leaves_due pace left (come + 1) [] fs h k.1 in omega (arith, rest)
leaves_due pace left come (e ∷ es) [] h k = let rest = leaves_due pace (left + 1) come es [] h.1 k in omega (arith, rest)
leaves_due pace left come (e ∷ es) (f ∷ fs) h k =
    by_line (λ ss. leaves_in ss ≤ due (f ∷ fs) (e ∷ es)) pace left come e es f fs
    (λ same.
    let same_due = count_above (λ x b. not b) f fs es (above_lower f e es (omega (arith, same)) (above_of e es h.0)) in
    let rest = leaves_due pace left come es fs h.1 k.1 in
    omega (arith, same_due, rest))
    (λ below.
    let none : one_if (not (has_instance (f ∷ fs) e.instance)) ≡ 1 = ap (λ b. one_if (not b)) (none_below e (f ∷ fs) (below, above_lower e f fs (omega (arith, below)) (above_of f fs k.0))) in
    let rest = leaves_due pace (left + 1) come es (f ∷ fs) h.1 k in
    omega (arith, none, rest))
    (λ above.
    let same_due = count_above (λ x b. not b) f fs (e ∷ es) (above, above_lower f e es (omega (arith, above)) (above_of e es h.0)) in
    let rest = leaves_due pace left (come + 1) (e ∷ es) fs h k.1 in
    omega (arith, same_due, rest))

-- ---- a line whose instances all leave and come within so many steps

pub lined_steps : (steps pace left come : ℕ) (now goal : Segment) → 1 ≤ pace
    → left + leaves_in (lined_up pace left come now goal) ≤ steps * pace → come + comes_in (lined_up pace left come now goal) ≤ steps * pace
    → steps_of (lined_up pace left come now goal) ≤ steps
lined_steps steps pace left come [] [] some l c = omega arith
lined_steps steps pace left come [] (f ∷ fs) some l c =
    let rest = lined_steps steps pace left (come + 1) [] fs some (omega (arith, l)) (omega (arith, c)) in
    let here = step_gone pace come steps some (omega (arith, c)) in
    omega (arith, rest, here)
lined_steps steps pace left come (e ∷ es) [] some l c =
    let rest = lined_steps steps pace (left + 1) come es [] some (omega (arith, l)) (omega (arith, c)) in
    let here = step_gone pace left steps some (omega (arith, l)) in
    omega (arith, rest, here)
lined_steps steps pace left come (e ∷ es) (f ∷ fs) some l c =
    by_line (λ ss. left + leaves_in ss ≤ steps * pace → come + comes_in ss ≤ steps * pace → steps_of ss ≤ steps) pace left come e es f fs
    (λ same l c. let rest = lined_steps steps pace left come es fs some (omega (arith, l)) (omega (arith, c)) in omega (arith, rest))
    (λ below l c.
    let rest = lined_steps steps pace (left + 1) come es (f ∷ fs) some (omega (arith, l)) (omega (arith, c)) in
    let here = step_gone pace left steps some (omega (arith, l)) in
    omega (arith, rest, here))
    (λ above l c.
    let rest = lined_steps steps pace left (come + 1) (e ∷ es) fs some (omega (arith, l)) (omega (arith, c)) in
    let here = step_gone pace come steps some (omega (arith, c)) in
    omega (arith, rest, here))
    l c
