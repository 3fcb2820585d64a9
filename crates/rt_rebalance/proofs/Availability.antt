-- What is available in a rehearsal, and what waits.
use Rattle.std.proofs.Common.{◌≡◌, ◌+◌, Bool, true, false, true≢false, cond, not, ◌&&◌, ◌||◌, ◌==◌, inl, inr, List, [], ◌∷◌, filter, Option, Some, None, Ok, refl, sym, ap, ◌∙◌, subst, slice_get}
use Rattle.std.specs.List.{list_any}
use Rattle.std.proofs.lemmas.Bool.{eqb-true, and_parts}
use Rattle.rt_base.specs.declared.numbers.Partition.{Partition}
use Rattle.rt_base.specs.declared.numbers.Sequence.{Sequence}
use Rattle.rt_base.specs.declared.numbers.Instance.{Instance}
use Rattle.rt_lists.specs.Members.{Has}
use Rattle.rt_model.specs.declared.ideal_state.IdealEntry.{IdealEntry}
use Rattle.rt_model.specs.declared.ideal_state.IdealState.{IdealState}
use Rattle.rt_model.specs.Ideal.{is_of, is_of_instance, mode_of}
use Rattle.rt_rebalance.specs.Available.{present, is_available, IsOnlineIn, AreOnce, AreStatesOnce}
use Rattle.rt_rebalance.specs.Rehearsed.{Rehearsed, entries_in, entries_at, is_online_mode, has_replica, start_of, without, is_online_at, loaded, coming, stepped, step_from, step_to, step, Call, loads, steps, after_step, called, after, is_waiting}
use Rattle.rt_rebalance.specs.Segments.{is_online}
use Rattle.rt_rebalance.proofs.Rehearsals.{same_numbers, replica_more, own_replica}

-- ---- tests

both_false : (a b : Bool) → (a || b) ≡ false → (a ≡ false) × (b ≡ false)
both_false true b h = absurd (true≢false h)
both_false false b h = (refl, h)

or_skip : (a b : Bool) → a ≡ false → (a || b) ≡ b
or_skip a b h = ap (λ c. c || b) h

-- ---- members

filter_same : (f g : IdealEntry → Bool) (es : List IdealEntry) → ((e : IdealEntry) → Has es e → f e ≡ g e) → filter f es ≡ filter g es
filter_same f g [] h = refl
filter_same f g (e ∷ es) h =
    ap (λ b. cond b (e ∷ filter f es) (filter f es)) (h e (inl refl)) ∙ ap (λ ds. cond (g e) (e ∷ ds) ds) (filter_same f g es (λ d has. h d (inr has)))

has_any : (es : List IdealEntry) (e : IdealEntry) → Has es e → has_replica es e ≡ true
has_any [] e h = absurd h
has_any (x ∷ xs) e (inl p) = subst (λ (y : IdealEntry). has_replica (y ∷ xs) e ≡ true) (sym p) (own_replica e xs)
has_any (x ∷ xs) e (inr h) = replica_more x xs e (has_any xs e h)

-- entries of one instance and segment are found alike
alike : (p : Partition) (s : Sequence) (i : Instance) (x : IdealEntry) (es : List IdealEntry) → is_of_instance p s i x ≡ true → list_any (is_of_instance p s i) es ≡ has_replica es x
alike p s i x es h =
    let both = and_parts (is_of p s x) (x.instance.0 == i.0) h in
    let n = and_parts (x.partition.0 == p.0) (x.sequence.0 == s.0) both.0 in
    same_numbers p x.partition s x.sequence i x.instance es (sym (eqb-true x.partition.0 p.0 n.0)) (sym (eqb-true x.sequence.0 s.0 n.1)) (sym (eqb-true x.instance.0 i.0 both.1))

-- the first is of none of the instances behind it
apart : (p : Partition) (s : Sequence) (i : Instance) (x : IdealEntry) (xs : List IdealEntry) (b : Bool) → is_of_instance p s i x ≡ b → has_replica xs x ≡ false → list_any (is_of_instance p s i) xs ≡ true → is_of_instance p s i x ≡ false
apart p s i x xs true is none some = absurd (true≢false (sym some ∙ alike p s i x xs is ∙ none))
apart p s i x xs false is none some = is

none_filtered : (f : IdealEntry → Bool) (es : List IdealEntry) (e : IdealEntry) → has_replica es e ≡ false → is_waiting (filter f es) e ≡ false
none_filtered f [] e h = refl
none_filtered f (x ∷ xs) e h =
    let parts = both_false (is_of_instance e.partition e.sequence e.instance x) (has_replica xs e) h in
    by (f x) parts.0 (none_filtered f xs e parts.1)
  where
    by : (b : Bool) → is_of_instance e.partition e.sequence e.instance x ≡ false → is_waiting (filter f xs) e ≡ false → is_waiting (cond b (x ∷ filter f xs) (filter f xs)) e ≡ false
    by true is rest = or_skip (is_of_instance e.partition e.sequence e.instance x) (is_waiting (filter f xs) e) is ∙ rest
    by false is rest = rest

-- of what was chosen from entries an entry is one exactly where it was chosen
chosen : (f : IdealEntry → Bool) (es : List IdealEntry) → AreOnce es → (e : IdealEntry) → Has es e → is_waiting (filter f es) e ≡ f e
chosen f [] once e h = absurd h
chosen f (x ∷ xs) once e (inl p) = subst (λ (y : IdealEntry). is_waiting (filter f (x ∷ xs)) y ≡ f y) p (by (f x))
  where
    by : (b : Bool) → is_waiting (cond b (x ∷ filter f xs) (filter f xs)) x ≡ b
    by true = own_replica x (filter f xs)
    by false = none_filtered f xs x once.0
chosen f (x ∷ xs) once e (inr h) =
    by (f x) (apart e.partition e.sequence e.instance x xs (is_of_instance e.partition e.sequence e.instance x) refl once.0 (has_any xs e h)) (chosen f xs once.1 e h)
  where
    by : (b : Bool) → is_of_instance e.partition e.sequence e.instance x ≡ false → is_waiting (filter f xs) e ≡ f e → is_waiting (cond b (x ∷ filter f xs) (filter f xs)) e ≡ f e
    by true is rest = or_skip (is_of_instance e.partition e.sequence e.instance x) (is_waiting (filter f xs) e) is ∙ rest
    by false is rest = rest

-- ---- one that is taken out

left_of : (IdealEntry → Bool) → Partition → Sequence → Instance → IdealEntry → Bool
left_of f p s i e = f e && not (is_of_instance p s i e)

none_left_out : (f : IdealEntry → Bool) (p : Partition) (s : Sequence) (i : Instance) (es : List IdealEntry) → list_any (is_of_instance p s i) es ≡ false → filter f es ≡ filter (left_of f p s i) es
unfolding left_of
none_left_out f p s i [] h = refl
none_left_out f p s i (x ∷ xs) h =
    let parts = both_false (is_of_instance p s i x) (list_any (is_of_instance p s i) xs) h in
    by (f x) (is_of_instance p s i x) parts.0 (none_left_out f p s i xs parts.1)
  where
    by : (b c : Bool) → c ≡ false → filter f xs ≡ filter (left_of f p s i) xs → cond b (x ∷ filter f xs) (filter f xs) ≡ cond (b && not c) (x ∷ filter (left_of f p s i) xs) (filter (left_of f p s i) xs)
    by b true is rest = absurd (true≢false is)
    by true false is rest = ap (λ ds. x ∷ ds) rest
    by false false is rest = rest

taken_out : (f : IdealEntry → Bool) (p : Partition) (s : Sequence) (i : Instance) (es : List IdealEntry) → AreOnce es → without p s i (filter f es) ≡ filter (left_of f p s i) es
unfolding left_of
taken_out f p s i [] once = refl
taken_out f p s i (x ∷ xs) once = by (f x) (is_of_instance p s i x) refl (taken_out f p s i xs once.1)
  where
    by : (b c : Bool) → is_of_instance p s i x ≡ c → without p s i (filter f xs) ≡ filter (left_of f p s i) xs
        → without p s i (cond b (x ∷ filter f xs) (filter f xs)) ≡ cond (b && not c) (x ∷ filter (left_of f p s i) xs) (filter (left_of f p s i) xs)
    by true true is rest =
        ap (λ t. cond t (filter f xs) (x ∷ without p s i (filter f xs))) is ∙ none_left_out f p s i xs (alike p s i x xs is ∙ once.0)
    by true false is rest = ap (λ t. cond t (filter f xs) (x ∷ without p s i (filter f xs))) is ∙ ap (λ ds. x ∷ ds) rest
    by false c is rest = rest

left_is : (f : IdealEntry → Bool) (p : Partition) (s : Sequence) (i : Instance) (es : List IdealEntry) → AreOnce es → (e : IdealEntry) → Has es e
    → is_waiting (filter (left_of f p s i) es) e ≡ (f e && not (is_of_instance p s i e))
unfolding left_of
left_is f p s i es once e has = chosen (left_of f p s i) es once e has

-- ---- what waits in a rehearsal

-- those that wait are chosen from the ONLINE entries of the present state
record Known (r : Rehearsed) : Type 0 where
  once : AreStatesOnce r.states
  test : IdealEntry → Bool
  is : r.waiting ≡ filter test (present r)
  online : (e : IdealEntry) → test e ≡ true → is_online e.mode ≡ true

none_at_first : (es : List IdealEntry) → [] ≡ filter (λ (e : IdealEntry). false) es
none_at_first [] = refl
none_at_first (e ∷ es) = none_at_first es

known_at_first : (states : List IdealState) → AreStatesOnce states → Known (start_of states)
known_at_first states once = record { once = once; test = λ e. false; is = none_at_first (entries_at states 0); online = λ e h. absurd (true≢false (sym h)) }

known_loaded : (p : Partition) (s : Sequence) (i : Instance) (r : Rehearsed) (b : Bool) → Known r → Known (cond b (record r { waiting = without p s i r.waiting }) r)
unfolding left_of
known_loaded p s i r false k = k
known_loaded p s i r true k = record {
  once = k.once;
  test = left_of k.test p s i;
  is = ap (without p s i) k.is ∙ taken_out k.test p s i (present r) (k.once r.at);
  online = λ e h. k.online e (and_parts (k.test e) (not (is_of_instance p s i e)) h).0;
}

known_stepped : (r : Rehearsed) (next : IdealState) → slice_get r.states (r.at + 1) ≡ Some next → Known r → Known (stepped r next)
known_stepped r next at k = record {
  once = k.once;
  test = λ e. is_online e.mode && not (has_replica (present r) e);
  is = ap (λ o. coming (present r) (entries_in o)) (sym at);
  online = λ e h. (and_parts (is_online e.mode) (not (has_replica (present r) e)) h).0;
}

known_from : (r : Rehearsed) (waiting : List IdealEntry) (next : IdealState) → slice_get r.states (r.at + 1) ≡ Some next → Known r → Known (after_step r (step_from r waiting next))
known_from r [] next at k = known_stepped r next at k
known_from r (e ∷ es) next at k = k

known_step : (r : Rehearsed) (next : Option IdealState) → slice_get r.states (r.at + 1) ≡ next → Known r → Known (after_step r (step_to r next))
known_step r None at k = k
known_step r (Some next) at k = known_from r r.waiting next at k

known_called : (call : Call) (r : Rehearsed) → Known r → Known (called call r)
known_called (loads p s i) r k = known_loaded p s i r (is_online_at r p s i) k
known_called steps r k = known_step r (slice_get r.states (r.at + 1)) refl k

known_after : (calls : List Call) (r : Rehearsed) → Known r → Known (after calls r)
known_after [] r k = k
known_after (call ∷ calls) r k = known_after calls (called call r) (known_called call r k)

known : (states : List IdealState) (calls : List Call) → AreStatesOnce states → Known (after calls (start_of states))
known states calls once = known_after calls (start_of states) (known_at_first states once)

waits_as : (r : Rehearsed) (k : Known r) (e : IdealEntry) → Has (present r) e → is_waiting r.waiting e ≡ k.test e
waits_as r k e has = ap (λ ws. is_waiting ws e) k.is ∙ chosen k.test (present r) (k.once r.at) e has

-- ---- the laws

pub waiting_in_order : (states : List IdealState) (calls : List Call) → AreStatesOnce states
    → (after calls (start_of states)).waiting ≡ filter (λ e. is_online e.mode && not (is_available (after calls (start_of states)) e)) (present (after calls (start_of states)))
waiting_in_order states calls once = ordered (after calls (start_of states)) (known states calls once)
  where
    by : (test online waits : Bool) → waits ≡ test → (test ≡ true → online ≡ true) → test ≡ (online && not (online && not waits))
    by true true waits is h = ap (λ w. true && not (true && not w)) (sym is)
    by true false waits is h = absurd (true≢false (sym (h refl)))
    by false true waits is h = ap (λ w. true && not (true && not w)) (sym is)
    by false false waits is h = refl

    ordered : (r : Rehearsed) → Known r → r.waiting ≡ filter (λ e. is_online e.mode && not (is_available r e)) (present r)
    ordered r k = k.is ∙ filter_same k.test (λ e. is_online e.mode && not (is_available r e)) (present r)
        (λ e has. by (k.test e) (is_online e.mode) (is_waiting r.waiting e) (waits_as r k e has) (k.online e))

-- before a step is taken nothing waits
record Taken (r : Rehearsed) (next : Rehearsed) : Type 0 where
  state : IdealState
  at : slice_get r.states (r.at + 1) ≡ Some state
  none : r.waiting ≡ []
  is : next ≡ stepped r state

taken_from : (r : Rehearsed) (waiting : List IdealEntry) (state : IdealState) (next : Rehearsed) → slice_get r.states (r.at + 1) ≡ Some state → r.waiting ≡ waiting → step_from r waiting state ≡ Ok next → Taken r next
taken_from r [] state next at none e = let same : stepped r state ≡ next = cc in record { state = state; at = at; none = none; is = sym same }
taken_from r (w ∷ ws) state next at none e = cc

taken_to : (r : Rehearsed) (found : Option IdealState) (next : Rehearsed) → slice_get r.states (r.at + 1) ≡ found → step_to r found ≡ Ok next → Taken r next
taken_to r None next at e = cc
taken_to r (Some state) next at e = taken_from r r.waiting state next at refl e

pub all_before_a_step : (r next : Rehearsed) (e : IdealEntry) → step r ≡ Ok next → IsOnlineIn r e → is_available r e ≡ true
all_before_a_step r next e taken (has, online) =
    let t = taken_to r (slice_get r.states (r.at + 1)) next refl taken in
    ap (λ b. b && not (is_waiting r.waiting e)) online ∙ ap (λ ws. not (is_waiting ws e)) t.none

not_not : (b : Bool) → not (not b) ≡ b
not_not true = refl
not_not false = refl

pub after_a_taken_step : (states : List IdealState) (calls : List Call) (next : Rehearsed) (e : IdealEntry) → AreStatesOnce states → step (after calls (start_of states)) ≡ Ok next → IsOnlineIn next e
    → is_available next e ≡ has_replica (present (after calls (start_of states))) e
after_a_taken_step states calls next e once taken here = from (after calls (start_of states)) (known states calls once) taken here
  where
    at_state : (r : Rehearsed) (state : IdealState) → Known (stepped r state) → Has (present (stepped r state)) e → is_online e.mode ≡ true → slice_get r.states (r.at + 1) ≡ Some state → AreStatesOnce r.states
        → is_available (stepped r state) e ≡ has_replica (present r) e
    at_state r state k has online at all =
        let entry : Has state.entries e = subst (λ (o : Option IdealState). Has (entries_in o) e) at has in
        let each : AreOnce state.entries = subst (λ (o : Option IdealState). AreOnce (entries_in o)) at (all (r.at + 1)) in
        let waits : is_waiting (coming (present r) state.entries) e ≡ (is_online e.mode && not (has_replica (present r) e)) = chosen (λ d. is_online d.mode && not (has_replica (present r) d)) state.entries each e entry in
        ap (λ b. b && not (is_waiting (coming (present r) state.entries) e)) online ∙ ap not waits ∙ ap (λ b. not (b && not (has_replica (present r) e))) online ∙ not_not (has_replica (present r) e)

    from : (r : Rehearsed) → Known r → step r ≡ Ok next → IsOnlineIn next e → is_available next e ≡ has_replica (present r) e
    from r k taken here =
        let t = taken_to r (slice_get r.states (r.at + 1)) next refl taken in
        let there : IsOnlineIn (stepped r t.state) e = subst (λ (x : Rehearsed). IsOnlineIn x e) t.is here in
        ap (λ (x : Rehearsed). is_available x e) t.is ∙ at_state r t.state (known_stepped r t.state t.at k) there.0 there.1 t.at k.once

-- the mode of an entry that its instance has
mode_there : (p : Partition) (s : Sequence) (i : Instance) (es : List IdealEntry) (e : IdealEntry) → AreOnce es → Has es e → is_of_instance p s i e ≡ true → mode_of es p s i ≡ Some e.mode
mode_there p s i [] e once h is = absurd h
mode_there p s i (x ∷ xs) e once (inl same) is =
    subst (λ (y : IdealEntry). mode_of (x ∷ xs) p s i ≡ Some y.mode) same (ap (λ b. cond b (Some x.mode) (mode_of xs p s i)) (subst (λ (y : IdealEntry). is_of_instance p s i y ≡ true) (sym same) is))
mode_there p s i (x ∷ xs) e once (inr h) is =
    ap (λ b. cond b (Some x.mode) (mode_of xs p s i)) (apart p s i x xs (is_of_instance p s i x) refl once.0 (alike p s i e xs is ∙ has_any xs e h)) ∙ mode_there p s i xs e once.1 h is

pub after_a_load : (states : List IdealState) (calls : List Call) (p : Partition) (s : Sequence) (i : Instance) (e : IdealEntry) → AreStatesOnce states → IsOnlineIn (after calls (start_of states)) e
    → is_available (loaded p s i (after calls (start_of states))) e ≡ (is_available (after calls (start_of states)) e || is_of_instance p s i e)
after_a_load states calls p s i e once here = from (after calls (start_of states)) (known states calls once) here
  where
    at_test : (r : Rehearsed) (k : Known r) (t c : Bool) → k.test e ≡ t → is_of_instance p s i e ≡ c → Has (present r) e → is_online e.mode ≡ true → not (k.test e && not (is_of_instance p s i e)) ≡ (not (k.test e) || is_of_instance p s i e)
    at_test r k true c is same has online = ap (λ b. not (b && not (is_of_instance p s i e))) is ∙ not_not (is_of_instance p s i e) ∙ ap (λ b. not b || is_of_instance p s i e) (sym is)
    at_test r k false c is same has online = ap (λ b. not (b && not (is_of_instance p s i e))) is ∙ ap (λ b. not b || is_of_instance p s i e) (sym is)

    or_true : (a b : Bool) → a ≡ true → a ≡ (a || b)
    or_true true b h = refl
    or_true false b h = absurd (true≢false (sym h))

    other : (r : Rehearsed) (c : Bool) → is_of_instance p s i e ≡ c → AreOnce (present r) → Has (present r) e → is_online e.mode ≡ true → is_online_at r p s i ≡ false → is_of_instance p s i e ≡ false
    other r true same each has online at = absurd (true≢false (sym online ∙ sym (ap is_online_mode (mode_there p s i (present r) e each has same)) ∙ at))
    other r false same each has online at = same

    or_false : (a b : Bool) → b ≡ false → a ≡ (a || b)
    or_false true b h = refl
    or_false false b h = sym h

    left_chosen : (r : Rehearsed) (k : Known r) → Has (present r) e → is_waiting (filter (left_of k.test p s i) (present r)) e ≡ (k.test e && not (is_of_instance p s i e))
    left_chosen r k has = left_is k.test p s i (present r) (k.once r.at) e has

    by : (r : Rehearsed) (k : Known r) (b : Bool) → is_online_at r p s i ≡ b → Has (present r) e → is_online e.mode ≡ true
        → is_available (cond b (record r { waiting = without p s i r.waiting }) r) e ≡ (is_available r e || is_of_instance p s i e)
    by r k false at has online = or_false (is_available r e) (is_of_instance p s i e) (other r (is_of_instance p s i e) refl (k.once r.at) has online at)
    by r k true at has online =
        let was : is_waiting r.waiting e ≡ k.test e = waits_as r k e has in
        let now : is_waiting (without p s i r.waiting) e ≡ (k.test e && not (is_of_instance p s i e)) =
        ap (λ ws. is_waiting (without p s i ws) e) k.is ∙ ap (λ ws. is_waiting ws e) (taken_out k.test p s i (present r) (k.once r.at)) ∙ left_chosen r k has in
        ap (λ b. b && not (is_waiting (without p s i r.waiting) e)) online ∙ ap not now ∙ at_test r k (k.test e) (is_of_instance p s i e) refl refl has online
        ∙ ap (λ w. not w || is_of_instance p s i e) (sym was) ∙ ap (λ b. (b && not (is_waiting r.waiting e)) || is_of_instance p s i e) (sym online)

    from : (r : Rehearsed) → Known r → IsOnlineIn r e → is_available (loaded p s i r) e ≡ (is_available r e || is_of_instance p s i e)
    from r k here = by r k (is_online_at r p s i) refl here.0 here.1
