-- While a plan is rehearsed each moved segment has enough available instances.
use Rattle.std.proofs.Common.{◌≡◌, ℕ, zero, suc, ◌+◌, ◌≤◌, Bool, true, false, cond, not, ◌&&◌, ◌||◌, ◌==◌, ◌⊎◌, inl, inr, List, [], ◌∷◌, filter, length, Option, Some, None, refl, sym, ap, ◌∙◌, subst, slice_get, true≢false, arith}
use Rattle.std.specs.List.{AllByRecursion, list_any}
use Rattle.std.proofs.lemmas.Bool.{eqb-true, eq-eqb, and_parts, and_from, or_left, or_right}
use Rattle.std.proofs.lemmas.Option.{same_Some, none-some}
use Rattle.rt_base.specs.declared.numbers.Partition.{Partition}
use Rattle.rt_base.specs.declared.numbers.Sequence.{Sequence}
use Rattle.rt_base.specs.declared.numbers.Instance.{Instance}
use Rattle.rt_model.specs.declared.ideal_state.IdealEntry.{IdealEntry}
use Rattle.rt_model.specs.declared.ideal_state.IdealState.{IdealState}
use Rattle.rt_model.specs.Ideal.{is_of, is_of_instance}
use Rattle.rt_rebalance.specs.Plan.{KeepsOrStays, AreStages, AllKeep, IsState, LeadsTo, IsRebalancePlan}
use Rattle.rt_rebalance.specs.Rehearsed.{Rehearsed, entries_in, entries_at, has_replica, start_of, without, is_online_at, coming, stepped, step_to, Call, loads, steps, after_step, called, after, is_waiting, available_of, AllAvailable, IsAvailable}
use Rattle.rt_rebalance.specs.Segments.{Segment, is_online, are_online, is_beside, has_instance, kept_in, same_instances, segments_of, AreAscending}
use Rattle.rt_rebalance.specs.Target.{IsOnlineOrSame, IsGoal}
use Rattle.rt_rebalance.proofs.Fewest.{count, shared_most, kept_counted, has_all}
use Rattle.rt_rebalance.proofs.Grouping.{IsRun, AreParted, run_same, beside_self, beside_numbers, segments_parted}
use Rattle.rt_rebalance.proofs.Lines.{one_if}
use Rattle.rt_rebalance.proofs.Orders.{front_all}

-- ---- those that both have, counted in either

kept_both : (old new es : Segment) → AllByRecursion (λ (e : IdealEntry). has_instance old e.instance ≡ true) es
    → count (λ e. has_instance new e.instance) es ≡ count (λ e. has_instance new e.instance && has_instance old (record { 0 = e.instance.0 })) es
kept_both old new [] h = refl
kept_both old new (e ∷ es) h = λ i. one_if (by (has_instance new e.instance) (has_instance old e.instance) h.0 i) + kept_both old new es h.1 i
  where
    by : (a b : Bool) → b ≡ true → a ≡ (a && b)
    by true b is = sym is
    by false b is = refl

kept_most : (old new : Segment) → AreAscending old → AreAscending new → length (kept_in old new) ≤ count (λ e. has_instance old e.instance) new
kept_most old new h k =
    let one = kept_counted new old in
    let two = kept_both old new old (has_all old) in
    let three = shared_most (λ n. has_instance old (record { 0 = n })) old new h k in
    omega (arith, one, two, three)

count_filter : (test other : IdealEntry → Bool) (es : Segment) → AllByRecursion (λ e. test e ≡ true → other e ≡ true) es → count test es ≤ length (filter other es)
count_filter test other [] h = omega arith
count_filter test other (e ∷ es) h = by (test e) (other e) h.0 (count_filter test other es h.1)
  where
    by : (a b : Bool) → (a ≡ true → b ≡ true) → count test es ≤ length (filter other es) → one_if a + count test es ≤ length (cond b (e ∷ filter other es) (filter other es))
    by true true f rest = omega (arith, rest)
    by true false f rest = absurd (true≢false (sym (f refl)))
    by false true f rest = omega (arith, rest)
    by false false f rest = omega (arith, rest)

-- ---- an entry of the same instance and segment

pub same_numbers : (p q : Partition) (s t : Sequence) (i j : Instance) (es : List IdealEntry) → p.0 ≡ q.0 → s.0 ≡ t.0 → i.0 ≡ j.0
    → list_any (is_of_instance p s i) es ≡ list_any (is_of_instance q t j) es
same_numbers p q s t i j es a b c = λ k. list_any (is_of_instance (record { 0 = a k }) (record { 0 = b k }) (record { 0 = c k })) es

pub replica_more : (e : IdealEntry) (es : List IdealEntry) (o : IdealEntry) → has_replica es o ≡ true → has_replica (e ∷ es) o ≡ true
replica_more e es o h = or_right (is_of_instance o.partition o.sequence o.instance e) (has_replica es o) h

all_more : (e : IdealEntry) (es : List IdealEntry) (segment : Segment) → AllByRecursion (λ o. has_replica es o ≡ true) segment → AllByRecursion (λ o. has_replica (e ∷ es) o ≡ true) segment
all_more e es [] h = tt
all_more e es (o ∷ os) h = (replica_more e es o h.0, all_more e es os h.1)

each_more : (e : IdealEntry) (es : List IdealEntry) (segments : List Segment) → AllByRecursion (AllByRecursion (λ o. has_replica es o ≡ true)) segments
    → AllByRecursion (AllByRecursion (λ o. has_replica (e ∷ es) o ≡ true)) segments
each_more e es [] h = tt
each_more e es (segment ∷ segments) h = (all_more e es segment h.0, each_more e es segments h.1)

pub own_replica : (e : IdealEntry) (es : List IdealEntry) → has_replica (e ∷ es) e ≡ true
own_replica e es =
    or_left (is_of_instance e.partition e.sequence e.instance e) (has_replica es e)
    (and_from (is_of e.partition e.sequence e) (e.instance.0 == e.instance.0) (beside_self e) (eq-eqb e.instance.0 e.instance.0 refl))

all_replicas : (es : List IdealEntry) → AllByRecursion (AllByRecursion (λ o. has_replica es o ≡ true)) (segments_of es)
all_replicas [] = tt
all_replicas (e ∷ es) = front_all (λ o. has_replica (e ∷ es) o ≡ true) e (segments_of es) (own_replica e es) (each_more e es (segments_of es) (all_replicas es))

-- an instance of a segment has it in the state
found : (prev : List IdealEntry) (e x : IdealEntry) (old : Segment) → IsRun e old → is_beside e x ≡ true → AllByRecursion (λ o. has_replica prev o ≡ true) old
    → has_instance old x.instance ≡ true → has_replica prev x ≡ true
found prev e x [] run beside all h = absurd (true≢false (sym h))
found prev e x (o ∷ os) run beside all h = by (o.instance.0 == x.instance.0) refl (found prev e x os run.1 beside all.1) h
  where
    by : (b : Bool) → (o.instance.0 == x.instance.0) ≡ b → (has_instance os x.instance ≡ true → has_replica prev x ≡ true) → (b || has_instance os x.instance) ≡ true → has_replica prev x ≡ true
    by true same rest g =
        let n = beside_numbers e o run.0 in
        let m = beside_numbers e x beside in
        same_numbers x.partition o.partition x.sequence o.sequence x.instance o.instance prev (m.0 ∙ sym n.0) (m.1 ∙ sym n.1) (sym (eqb-true o.instance.0 x.instance.0 same)) ∙ all.0
    by false same rest g = rest g

-- what the state before has doesn't wait
not_waiting : (prev : List IdealEntry) (waiting : List IdealEntry) (x : IdealEntry) → AllByRecursion (λ w. has_replica prev w ≡ false) waiting → has_replica prev x ≡ true → is_waiting waiting x ≡ false
not_waiting prev [] x h there = refl
not_waiting prev (w ∷ ws) x h there = by (is_of_instance x.partition x.sequence x.instance w) refl (not_waiting prev ws x h.1 there)
  where
    by : (b : Bool) → is_of_instance x.partition x.sequence x.instance w ≡ b → is_waiting ws x ≡ false → (b || is_waiting ws x) ≡ false
    by true same rest =
        let both = and_parts (is_of x.partition x.sequence w) (w.instance.0 == x.instance.0) same in
        let n = beside_numbers x w both.0 in
        absurd (true≢false (sym there ∙ same_numbers x.partition w.partition x.sequence w.sequence x.instance w.instance prev (sym n.0) (sym n.1) (sym (eqb-true w.instance.0 x.instance.0 both.1)) ∙ h.0))
    by false same rest = rest

-- ---- one segment

loaded_from : (prev waiting : List IdealEntry) (e : IdealEntry) (old new : Segment) → IsRun e old → IsRun e new → AllByRecursion (λ o. has_replica prev o ≡ true) old
    → AllByRecursion (λ w. has_replica prev w ≡ false) waiting → are_online new ≡ true
    → AllByRecursion (λ x. has_instance old x.instance ≡ true → (is_online x.mode && not (is_waiting waiting x)) ≡ true) new
loaded_from prev waiting e old [] r run all none online = tt
loaded_from prev waiting e old (x ∷ xs) r run all none online =
    let both = and_parts (is_online x.mode) (are_online xs) online in (
      (λ has. and_from (is_online x.mode) (not (is_waiting waiting x)) both.0 (ap not (not_waiting prev waiting x none (found prev e x old r run.0 all has)))),
      loaded_from prev waiting e old xs r run.1 all none both.1,
    )

online_stage : (now stage : Segment) → IsGoal now stage → are_online now ≡ true → are_online stage ≡ true
online_stage [] stage g h = absurd g
online_stage (e ∷ es) [] g h = absurd g
online_stage (e ∷ es) (f ∷ fs) g h = subst (λ b. IsOnlineOrSame b (e ∷ es) (f ∷ fs)) h g.1

head_run : (e f : IdealEntry) (fs : Segment) → is_beside e f ≡ true → IsRun f fs → IsRun e (f ∷ fs)
head_run e f fs h run = (h, run_same e f fs h run)

-- ---- all segments, after a step

after_a_step : (keep : ℕ) (prev waiting : List IdealEntry) (nows goals olds news : List Segment)
    → AreStages nows olds → AreStages nows news → AllKeep keep nows goals olds news → AreParted olds → AreParted news
    → AllByRecursion (AllByRecursion (λ o. has_replica prev o ≡ true)) olds → AllByRecursion (λ w. has_replica prev w ≡ false) waiting
    → AllAvailable keep waiting nows goals news
after_a_step keep prev waiting [] goals olds news a b k p q all none = tt
after_a_step keep prev waiting (now ∷ later) [] olds news a b k p q all none = tt
after_a_step keep prev waiting (now ∷ later) (goal ∷ goals) olds [] a b k p q all none = tt
after_a_step keep prev waiting (now ∷ later) (goal ∷ goals) [] (new ∷ news) a b k p q all none = absurd a
after_a_step keep prev waiting ([] ∷ later) (goal ∷ goals) (old ∷ olds) (new ∷ news) a b k p q all none = absurd a.0.0
after_a_step keep prev waiting ((e ∷ es) ∷ later) (goal ∷ goals) ([] ∷ olds) (new ∷ news) a b k p q all none = absurd p
after_a_step keep prev waiting ((e ∷ es) ∷ later) (goal ∷ goals) ((o ∷ os) ∷ olds) ([] ∷ news) a b k p q all none = absurd q
after_a_step keep prev waiting ((e ∷ es) ∷ later) (goal ∷ goals) ((o ∷ os) ∷ olds) ((x ∷ xs) ∷ news) a b k p q all none = (
  (λ moved.
      let kept : keep ≤ length (kept_in (o ∷ os) (x ∷ xs)) = subst (λ c. KeepsOrStays c keep (o ∷ os) (x ∷ xs)) moved k.0 in
      let most = kept_most (o ∷ os) (x ∷ xs) a.0.2 b.0.2 in
      let online = online_stage (e ∷ es) (x ∷ xs) b.0.0 (and_parts (are_online (e ∷ es)) (not (same_instances (e ∷ es) goal)) moved).0 in
      let some =
      count_filter (λ y. has_instance (o ∷ os) y.instance) (λ y. is_online y.mode && not (is_waiting waiting y)) (x ∷ xs)
      (loaded_from prev waiting e (o ∷ os) (x ∷ xs) (head_run e o os a.0.0.0 p.0) (head_run e x xs b.0.0.0 q.0) all.0 none online) in
      omega (arith, kept, most, some)),
  after_a_step keep prev waiting later goals olds news a.1 b.1 k.1 p.2 q.2 all.1 none,
)

-- ---- all segments, at the start

all_available : (es : Segment) → are_online es ≡ true → length (available_of [] es) ≡ length es
all_available [] h = refl
all_available (e ∷ es) h =
    let both = and_parts (is_online e.mode) (are_online es) h in
    by (is_online e.mode) both.0 (all_available es both.1)
  where
    by : (b : Bool) → b ≡ true → length (available_of [] es) ≡ length es → length (cond (b && true) (e ∷ available_of [] es) (available_of [] es)) ≡ suc (length es)
    by true is rest = ap suc rest
    by false is rest = absurd (true≢false (sym is))

kept_short : (old new : Segment) → length (kept_in old new) ≤ length old
kept_short [] new = omega arith
kept_short (e ∷ es) new = by (has_instance new e.instance) (kept_short es new)
  where
    by : (b : Bool) → length (kept_in es new) ≤ length es → length (cond b (e ∷ kept_in es new) (kept_in es new)) ≤ length (e ∷ es)
    by true rest = omega (arith, rest)
    by false rest = omega (arith, rest)

at_first : (keep : ℕ) (nows goals news : List Segment) → AllKeep keep nows goals nows news → AreStages nows news → AllAvailable keep [] nows goals nows
at_first keep [] goals news k b = tt
at_first keep (now ∷ later) [] news k b = tt
at_first keep (now ∷ later) (goal ∷ goals) [] k b = absurd b
at_first keep (now ∷ later) (goal ∷ goals) (new ∷ news) k b = (
  (λ moved.
      let kept : keep ≤ length (kept_in now new) = subst (λ c. KeepsOrStays c keep now new) moved k.0 in
      let short = kept_short now new in
      let all = all_available now (and_parts (are_online now) (not (same_instances now goal)) moved).0 in
      omega (arith, kept, short, all)),
  at_first keep later goals news k.1 b.1,
)

same_self : (es : Segment) → same_instances es es ≡ true
same_self [] = refl
same_self (e ∷ es) = and_from (e.instance.0 == e.instance.0) (same_instances es es) (eq-eqb e.instance.0 e.instance.0 refl) (same_self es)

-- where the first state is the target, none is moved
at_once : (keep : ℕ) (nows : List Segment) → AllAvailable keep [] nows nows nows
at_once keep [] = tt
at_once keep (now ∷ later) =
    ((λ moved. absurd (true≢false (sym ((and_parts (are_online now) (not (same_instances now now)) moved).1) ∙ ap not (same_self now)))), at_once keep later)

-- ---- two states that follow each other

record Follow (keep : ℕ) (now goal : List IdealEntry) (x y : IdealState) : Type 0 where
  old : AreStages (segments_of now) (segments_of x.entries)
  new : AreStages (segments_of now) (segments_of y.entries)
  keeps : AllKeep keep (segments_of now) (segments_of goal) (segments_of x.entries) (segments_of y.entries)

follows : (keep : ℕ) (now goal : List IdealEntry) (first : IdealState) (states : List IdealState) → IsState now first.entries → LeadsTo keep now goal first.entries states
    → (b : ℕ) (x y : IdealState) → slice_get (first ∷ states) b ≡ Some x → slice_get (first ∷ states) (suc b) ≡ Some y → Follow keep now goal x y
follows keep now goal first [] s leads b x y at next = absurd (none-some y next)
follows keep now goal first (second ∷ states) s leads zero x y at next =
    let one : first ≡ x = same_Some first x at in
    let two : second ≡ y = same_Some second y next in
    subst (λ z. Follow keep now goal z y) one (subst (λ z. Follow keep now goal first z) two (record { old = s; new = leads.0; keeps = leads.1 }))
follows keep now goal first (second ∷ states) s leads (suc b) x y at next = follows keep now goal second states leads.0 leads.2 b x y at next

-- ---- what stays true of a rehearsal

record Came (states : List IdealState) (r : Rehearsed) : Type 0 where
  before : ℕ
  at : r.at ≡ suc before
  none : AllByRecursion (λ w. has_replica (entries_at states before) w ≡ false) r.waiting

IsRight : List IdealState → Rehearsed → Type 0
IsRight states r = (r.states ≡ states) × (((r.at ≡ 0) × (r.waiting ≡ [])) ⊎ Came states r)

all_without : (P : IdealEntry → Type 0) (p : Partition) (s : Sequence) (i : Instance) (es : List IdealEntry) → AllByRecursion P es → AllByRecursion P (without p s i es)
all_without P p s i [] h = tt
all_without P p s i (e ∷ es) h = by (is_of_instance p s i e) (all_without P p s i es h.1)
  where
    by : (b : Bool) → AllByRecursion P (without p s i es) → AllByRecursion P (cond b es (e ∷ without p s i es))
    by true rest = h.1
    by false rest = (h.0, rest)

right_loaded : (states : List IdealState) (p : Partition) (s : Sequence) (i : Instance) (r : Rehearsed) (b : Bool) → IsRight states r
    → IsRight states (cond b (record r { waiting = without p s i r.waiting }) r)
unfolding IsRight
right_loaded states p s i r false k = k
right_loaded states p s i r true (same, inl k) = (same, inl (k.0, ap (without p s i) k.1))
right_loaded states p s i r true (same, inr k) = (same, inr (record { before = k.before; at = k.at; none = all_without (λ w. has_replica (entries_at states k.before) w ≡ false) p s i r.waiting k.none }))

none_coming : (old new : List IdealEntry) → AllByRecursion (λ w. has_replica old w ≡ false) (coming old new)
none_coming old [] = tt
none_coming old (e ∷ es) = by (is_online e.mode) (has_replica old e) refl (none_coming old es)
  where
    by : (a b : Bool) → has_replica old e ≡ b → AllByRecursion (λ w. has_replica old w ≡ false) (coming old es) → AllByRecursion (λ w. has_replica old w ≡ false) (cond (a && not b) (e ∷ coming old es) (coming old es))
    by true true is rest = rest
    by true false is rest = (is, rest)
    by false b is rest = rest

right_stepped : (states : List IdealState) (r : Rehearsed) (next : IdealState) → IsRight states r → IsRight states (stepped r next)
unfolding IsRight
right_stepped states r next (same, k) = (
  same,
  inr (record {
    before = r.at;
    at = one r.at;
    none = subst (λ all. AllByRecursion (λ w. has_replica (entries_at all r.at) w ≡ false) (coming (entries_at r.states r.at) next.entries)) same (none_coming (entries_at r.states r.at) next.entries);
  }),
)
  where
    one : (n : ℕ) → n + 1 ≡ suc n
    one n = omega arith

right_step : (states : List IdealState) (r : Rehearsed) (next : Option IdealState) (waiting : List IdealEntry) → r.waiting ≡ waiting → IsRight states r → IsRight states (after_step r (step_to (record r { waiting = waiting }) next))
right_step states r None waiting is k = k
right_step states r (Some next) [] is k = subst (λ ws. IsRight states (stepped (record r { waiting = ws }) next)) is (right_stepped states r next k)
right_step states r (Some next) (e ∷ es) is k = k

right_called : (states : List IdealState) (call : Call) (r : Rehearsed) → IsRight states r → IsRight states (called call r)
right_called states (loads p s i) r k = right_loaded states p s i r (is_online_at r p s i) k
right_called states steps r k = right_step states r (slice_get r.states (r.at + 1)) r.waiting refl k

right_after : (states : List IdealState) (calls : List Call) (r : Rehearsed) → IsRight states r → IsRight states (after calls r)
right_after states [] r k = k
right_after states (call ∷ calls) r k = right_after states calls (called call r) (right_called states call r k)

-- ---- so enough are available

at_start : (keep : ℕ) (now goal : List IdealEntry) (first : IdealState) (states : List IdealState) → IsRebalancePlan keep now goal (first ∷ states)
    → AllAvailable keep [] (segments_of now) (segments_of goal) (segments_of first.entries)
at_start keep now goal first [] plan =
    subst (λ es. AllAvailable keep [] (segments_of now) (segments_of es) (segments_of first.entries)) plan.2
    (subst (λ es. AllAvailable keep [] (segments_of now) (segments_of now) (segments_of es)) (sym plan.0) (at_once keep (segments_of now)))
at_start keep now goal first (second ∷ states) plan =
    subst (λ es. AllAvailable keep [] (segments_of now) (segments_of goal) (segments_of es)) (sym plan.0)
    (at_first keep (segments_of now) (segments_of goal) (segments_of second.entries) plan.2.1 plan.2.0)

none_left : (keep : ℕ) (waiting : List IdealEntry) (nows goals : List Segment) → AllAvailable keep waiting nows goals []
none_left keep waiting [] goals = tt
none_left keep waiting (now ∷ later) [] = tt
none_left keep waiting (now ∷ later) (goal ∷ goals) = tt

at_later : (keep : ℕ) (now goal : List IdealEntry) (first : IdealState) (states : List IdealState) → IsRebalancePlan keep now goal (first ∷ states)
    → (before : ℕ) (waiting : List IdealEntry) → AllByRecursion (λ w. has_replica (entries_at (first ∷ states) before) w ≡ false) waiting
    → (x y : Option IdealState) → slice_get (first ∷ states) before ≡ x → slice_get (first ∷ states) (suc before) ≡ y
    → AllAvailable keep waiting (segments_of now) (segments_of goal) (segments_of (entries_in y))
at_later keep now goal first states plan before waiting none x None at next = none_left keep waiting (segments_of now) (segments_of goal)
at_later keep now goal first states plan before waiting none None (Some y) at next = absurd (gap (first ∷ states) before y at next)
  where
    gap : (xs : List IdealState) (b : ℕ) (y : IdealState) → slice_get xs b ≡ None → slice_get xs (suc b) ≡ Some y → ⊥
    gap [] b y a n = none-some y n
    gap (z ∷ zs) zero y a n = none-some z (sym a)
    gap (z ∷ zs) (suc b) y a n = gap zs b y a n
at_later keep now goal first states plan before waiting none (Some x) (Some y) at next =
    let leads = subst (λ es. LeadsTo keep now goal es states) (sym plan.0) plan.2 in
    let state = subst (IsState now) (sym plan.0) plan.1 in
    let f = follows keep now goal first states state leads before x y at next in
    after_a_step keep x.entries waiting (segments_of now) (segments_of goal) (segments_of x.entries) (segments_of y.entries) f.old f.new f.keeps (segments_parted x.entries) (segments_parted y.entries)
    (all_replicas x.entries) (subst (λ o. AllByRecursion (λ w. has_replica (entries_in o) w ≡ false) waiting) at none)

available : (keep : ℕ) (now goal : List IdealEntry) (states : List IdealState) → IsRebalancePlan keep now goal states → (r : Rehearsed) → IsRight states r → IsAvailable keep now goal r
unfolding IsRight
available keep now goal [] plan r k = absurd plan
available keep now goal (first ∷ states) plan r (same, inl k) =
    subst (λ ws. AllAvailable keep ws (segments_of now) (segments_of goal) (segments_of (entries_at r.states r.at))) (sym k.1)
    (subst (λ n. AllAvailable keep [] (segments_of now) (segments_of goal) (segments_of (entries_at r.states n))) (sym k.0)
    (subst (λ all. AllAvailable keep [] (segments_of now) (segments_of goal) (segments_of (entries_at all 0))) (sym same) (at_start keep now goal first states plan)))
available keep now goal (first ∷ states) plan r (same, inr k) =
    subst (λ n. AllAvailable keep r.waiting (segments_of now) (segments_of goal) (segments_of (entries_at r.states n))) (sym k.at)
    (subst (λ all. AllAvailable keep r.waiting (segments_of now) (segments_of goal) (segments_of (entries_at all (suc k.before)))) (sym same)
    (at_later keep now goal first states plan k.before r.waiting k.none (slice_get (first ∷ states) k.before) (slice_get (first ∷ states) (suc k.before)) refl refl))

-- however a plan is rehearsed, each moved segment has enough available instances
pub enough_available : (keep : ℕ) (now goal : List IdealEntry) (states : List IdealState) (calls : List Call) → IsRebalancePlan keep now goal states → IsAvailable keep now goal (after calls (start_of states))
unfolding IsRight
enough_available keep now goal states calls plan =
    available keep now goal states plan (after calls (start_of states)) (right_after states calls (start_of states) (refl, inl (refl, refl)))
