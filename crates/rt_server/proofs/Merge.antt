-- The walk of targets and entries side by side finds what is due.
use Rattle.std.proofs.Common.{◌≡◌, ◌&&◌, ◌||◌, Bool, true, false, cond, List, [], ◌∷◌, Option, Some, None, Result, Ok, Err, refl, sym, ap, subst, ◌∙◌, true≢false}
use Rattle.std.specs.Prelude.{IfOk, if◌then◌else◌}
use Rattle.std.specs.Borrow.{Bor}
use Rattle.std.specs.declared.cmp.Ordering.{Ordering}
use Rattle.std.specs.declared.cmp.Ordering.TheVariants.{Less, Equal, Greater}
use Rattle.std.specs.BTreeSet.{insert_key}
use Rattle.std.specs.List.{AllByRecursion}
use Rattle.std.specs.List.Sorted.{IsStrictlySortedBy}
use Rattle.std.specs.Map.{keys_of, lookup}
use Rattle.std.specs.Map.Iter.{TakesFirst, deref_pair}
use Rattle.std.specs.Ordering.{is_eq, match_ordering, ordering_reverse}
use Rattle.std.proofs.lemmas.Cmp.{tied_itself}
use Rattle.rt_model.specs.declared.ideal_state.Mode.{Mode}
use Rattle.rt_entry.specs.declared.entry.Entry.{Entry}
use Rattle.rt_entry.specs.Transition.{is_due}
use Rattle.rt_server.specs.Due.{due_among, due_before, due_from, due_merged, due_of, left}
use Rattle.rt_server.specs.Table.{Segment, Segments, is_segment, segment_cmp}
use Rattle.rt_server.specs.Transition.{transit_due}
use Rattle.rt_server.proofs.LastingTables.{segment_exact, segment_total}

-- ---- one step of a walk

pub next_left : {K X : Type 0} (all later : List (K × X)) (next : Option (Bor K × Bor X)) → TakesFirst deref_pair all next later → left next later ≡ all
next_left all later None took = sym took.0
next_left all later (Some n) took = sym took

-- ---- ascending segments

abbrev pub Below : Segment → List Segment → Type 0
Below s ss = AllByRecursion (λ x. segment_cmp s x ≡ Less) ss

abbrev pub Ascending : List Segment → Type 0
Ascending ss = IsStrictlySortedBy segment_cmp ss

pub none_ascend : Ascending []
unfolding IsStrictlySortedBy
none_ascend = tt

pub first_below : (s : Segment) (ss : List Segment) → Ascending (s ∷ ss) → Below s ss
unfolding IsStrictlySortedBy
first_below s ss up = up.0

pub later_ascend : (s : Segment) (ss : List Segment) → Ascending (s ∷ ss) → Ascending ss
unfolding IsStrictlySortedBy
later_ascend s ss up = up.1

pub then_ascend : (s : Segment) (ss : List Segment) → Below s ss → Ascending ss → Ascending (s ∷ ss)
unfolding IsStrictlySortedBy
then_ascend s ss below up = (below, up)

over : (s t : Segment) → segment_cmp s t ≡ Greater → segment_cmp t s ≡ Less
over s t gt = segment_total.antisymm t s ∙ ap ordering_reverse gt

further : (s t : Segment) (ss : List Segment) → segment_cmp s t ≡ Less → Below t ss → Below s ss
further s t [] lt below = tt
further s t (x ∷ ss) lt below = (segment_total.trans s t x lt below.0, further s t ss lt below.1)

-- ---- whether a segment is among some

abbrev pub is_it : Segment → Segment → Bool
is_it s x = is_eq (segment_cmp s x)

abbrev pub has : List Segment → Segment → Bool
has [] s = false
has (x ∷ xs) s = is_it s x || has xs s

pub it_is : (s x : Segment) → is_it s x ≡ true → s ≡ x
it_is s x e = by (segment_cmp s x) refl e
  where
    by : (o : Ordering) → segment_cmp s x ≡ o → is_eq o ≡ true → s ≡ x
    by Less c h = absurd (cc)
    by Equal c h = segment_exact s x c
    by Greater c h = absurd (cc)

pub itself : (s : Segment) → is_it s s ≡ true
itself s = ap is_eq (tied_itself segment_total s)

below_none : (s : Segment) (xs : List Segment) → Below s xs → has xs s ≡ false
below_none s [] below = refl
below_none s (x ∷ xs) below = ap (λ o. is_eq o || has xs s) below.0 ∙ below_none s xs below.1

-- the first of two ascending lists of the same segments is the same
not_below : (x y : Segment) (xs ys : List Segment) → segment_cmp x y ≡ Less → Below y ys → ((s : Segment) → has (x ∷ xs) s ≡ has (y ∷ ys) s) → true ≡ false
not_below x y xs ys lt below alike =
    sym (ap (λ b. b || has xs x) (itself x)) ∙ alike x ∙ below_none x (y ∷ ys) (lt, further x y ys lt below)

pub alike_is : (xs ys : List Segment) → Ascending xs → Ascending ys → ((s : Segment) → has xs s ≡ has ys s) → xs ≡ ys
alike_is [] [] up vp alike = refl
alike_is [] (y ∷ ys) up vp alike = absurd (true≢false (sym (alike y ∙ ap (λ b. b || has ys y) (itself y))))
alike_is (x ∷ xs) [] up vp alike = absurd (true≢false (sym (ap (λ b. b || has xs x) (itself x)) ∙ alike x))
alike_is (x ∷ xs) (y ∷ ys) up vp alike = by (segment_cmp x y) refl (alike_is xs ys (later_ascend x xs up) (later_ascend y ys vp))
  where
    tail_at : x ≡ y → (s : Segment) (b : Bool) → is_it s x ≡ b → has xs s ≡ has ys s
    tail_at same s true c =
        below_none s xs (subst (λ z. Below z xs) (sym (it_is s x c)) (first_below x xs up))
        ∙ sym (below_none s ys (subst (λ z. Below z ys) (sym (it_is s x c ∙ same)) (first_below y ys vp)))
    tail_at same s false c =
        sym (ap (λ b. b || has xs s) c) ∙ alike s ∙ ap (λ z. is_it s z || has ys s) (sym same) ∙ ap (λ b. b || has ys s) c

    by : (o : Ordering) → segment_cmp x y ≡ o → (((s : Segment) → has xs s ≡ has ys s) → xs ≡ ys) → x ∷ xs ≡ y ∷ ys
    by Less c f = absurd (true≢false (not_below x y xs ys c (first_below y ys vp) alike))
    by Equal c f =
        let same = segment_exact x y c in
        ap (λ z. z ∷ xs) same ∙ ap (λ l. y ∷ l) (f (λ s. tail_at same s (is_it s x) refl))
    by Greater c f = absurd (true≢false (not_below y x ys xs (over x y c) (first_below x xs up) (λ s. sym (alike s))))

-- ---- what is found one after the other

insert_below : (s k : Segment) (ks : List Segment) → Below s ks → segment_cmp s k ≡ Less → Below s (insert_key segment_cmp ks k)
insert_below s k [] below lt = (lt, tt)
insert_below s k (x ∷ ks) below lt = by (segment_cmp k x) (insert_below s k ks below.1 lt)
  where
    by : (o : Ordering) → Below s (insert_key segment_cmp ks k) → Below s (match_ordering o (k ∷ x ∷ ks) (x ∷ ks) (x ∷ insert_key segment_cmp ks k))
    by Less f = (lt, below)
    by Equal f = below
    by Greater f = (below.0, f)

insert_ascends : (ks : List Segment) (k : Segment) → Ascending ks → Ascending (insert_key segment_cmp ks k)
insert_ascends [] k up = then_ascend k [] tt none_ascend
insert_ascends (x ∷ ks) k up = by (segment_cmp k x) refl (insert_ascends ks k (later_ascend x ks up))
  where
    by : (o : Ordering) → segment_cmp k x ≡ o → Ascending (insert_key segment_cmp ks k)
        → Ascending (match_ordering o (k ∷ x ∷ ks) (x ∷ ks) (x ∷ insert_key segment_cmp ks k))
    by Less c f = then_ascend k (x ∷ ks) (c, further k x ks c (first_below x ks up)) up
    by Equal c f = up
    by Greater c f = then_ascend x (insert_key segment_cmp ks k) (insert_below x k ks (first_below x ks up) (over k x c)) f

twice : (a b : Bool) → (a || b) ≡ (a || (a || b))
twice true b = refl
twice false b = refl

swapped : (a b c : Bool) → (a || (b || c)) ≡ (b || (a || c))
swapped true true c = refl
swapped true false c = refl
swapped false b c = refl

has_inserted : (ks : List Segment) (k s : Segment) → has (insert_key segment_cmp ks k) s ≡ (is_it s k || has ks s)
has_inserted [] k s = refl
has_inserted (x ∷ ks) k s = by (segment_cmp k x) refl (has_inserted ks k s)
  where
    by : (o : Ordering) → segment_cmp k x ≡ o → has (insert_key segment_cmp ks k) s ≡ (is_it s k || has ks s)
        → has (match_ordering o (k ∷ x ∷ ks) (x ∷ ks) (x ∷ insert_key segment_cmp ks k)) s ≡ (is_it s k || (is_it s x || has ks s))
    by Less c f = refl
    by Equal c f = twice (is_it s x) (has ks s) ∙ ap (λ z. is_it s z || (is_it s x || has ks s)) (sym (segment_exact k x c))
    by Greater c f = ap (λ b. is_it s x || b) f ∙ swapped (is_it s x) (is_it s k) (has ks s)

abbrev put_if : Bool → List Segment → Segment → List Segment
put_if b found s = if b then insert_key segment_cmp found s else found

put_if_ascends : (b : Bool) (found : List Segment) (s : Segment) → Ascending found → Ascending (put_if b found s)
put_if_ascends true found s up = insert_ascends found s up
put_if_ascends false found s up = up

abbrev due_at : Segments → Segment → Bool
due_at t s = transit_due t s.0 s.1

pub among_ascends : (t : Segments) (ss found : List Segment) → Ascending found → Ascending (due_among t ss found)
among_ascends t [] found up = up
among_ascends t (s ∷ ss) found up = among_ascends t ss (put_if (due_at t s) found s) (put_if_ascends (due_at t s) found s up)

first_due : (d h f : Bool) → d ≡ true → ((d && h) || true) ≡ ((d && true) || f)
first_due true true f e = refl
first_due true false f e = refl
first_due false h f e = absurd (true≢false (sym e))

first_not : (d h f : Bool) → d ≡ false → ((d && h) || f) ≡ ((d && true) || f)
first_not true h f e = absurd (true≢false e)
first_not false h f e = refl

-- whether it is the first, a later one that is due, or was found before
ordered : (e d h f b : Bool) (found : Bool) → (e ≡ true → d ≡ b) → found ≡ (if b then (e || f) else f)
    → ((d && h) || found) ≡ ((d && (e || h)) || f)
ordered true d h f true found same is = ap (λ z. (d && h) || z) is ∙ first_due d h f (same refl)
ordered true d h f false found same is = ap (λ z. (d && h) || z) is ∙ first_not d h f (same refl)
ordered false d h f true found same is = ap (λ z. (d && h) || z) is
ordered false d h f false found same is = ap (λ z. (d && h) || z) is

has_put_if : (b : Bool) (found : List Segment) (x s : Segment) → has (put_if b found x) s ≡ (if b then (is_it s x || has found s) else has found s)
has_put_if true found x s = has_inserted found x s
has_put_if false found x s = refl

pub has_among : (t : Segments) (ss found : List Segment) (s : Segment) → has (due_among t ss found) s ≡ ((due_at t s && has ss s) || has found s)
has_among t [] found s = by (due_at t s)
  where
    by : (d : Bool) → has found s ≡ ((d && false) || has found s)
    by true = refl
    by false = refl
has_among t (x ∷ ss) found s =
    has_among t ss (put_if (due_at t x) found x) s
    ∙ ordered (is_it s x) (due_at t s) (has ss s) (has found s) (due_at t x) (has (put_if (due_at t x) found x) s)
    (λ e. ap (due_at t) (it_is s x e)) (has_put_if (due_at t x) found x s)

-- ---- look-ups

abbrev pub is_there : {X : Type 0} → Option X → Bool
is_there None = false
is_there (Some x) = true

pub lookup_has : {X : Type 0} (es : List (Segment × X)) (s : Segment) → has (keys_of es) s ≡ is_there (lookup (is_segment s.0 s.1) es)
lookup_has [] s = refl
lookup_has (e ∷ es) s = by (is_it s e.0) (lookup_has es s)
  where
    by : (b : Bool) → has (keys_of es) s ≡ is_there (lookup (is_segment s.0 s.1) es)
        → (b || has (keys_of es) s) ≡ is_there (cond b (Some e.1) (lookup (is_segment s.0 s.1) es))
    by true f = refl
    by false f = f

pub lookup_below : {X : Type 0} (es : List (Segment × X)) (s : Segment) → Below s (keys_of es) → lookup (is_segment s.0 s.1) es ≡ None
lookup_below [] s below = refl
lookup_below (e ∷ es) s below = ap (λ o. cond (is_eq o) (Some e.1) (lookup (is_segment s.0 s.1) es)) below.0 ∙ lookup_below es s below.1

-- without a key below all others nothing else is found
lookup_skips : {X : Type 0} (es : List (Segment × X)) (k s : Segment) (b : Bool) → Below k (keys_of es) → is_it s k ≡ b
    → lookup (is_segment s.0 s.1) es ≡ cond b None (lookup (is_segment s.0 s.1) es)
lookup_skips es k s true below c = lookup_below es s (subst (λ z. Below z (keys_of es)) (sym (it_is s k c)) below)
lookup_skips es k s false below c = refl

-- ---- the walk

abbrev walked : List (Segment × Mode) → List (Segment × Entry) → List Segment
walked ts es = due_merged ts es

before_below : (b : Bool) (s k : Segment) (rest : List Segment) → segment_cmp s k ≡ Less → Below s rest → Below s (due_before b k rest)
before_below true s k rest lt below = (lt, below)
before_below false s k rest lt below = below

before_ascends : (b : Bool) (k : Segment) (rest : List Segment) → Below k rest → Ascending rest → Ascending (due_before b k rest)
before_ascends true k rest below up = then_ascend k rest below up
before_ascends false k rest below up = up

from_below : (t : Segment × Mode) (rest : List (Segment × Entry) → List Segment) (s : Segment) → segment_cmp s t.0 ≡ Less
    → ((es : List (Segment × Entry)) → Below s (keys_of es) → Below s (rest es))
    → (es : List (Segment × Entry)) → Below s (keys_of es) → Below s (due_from t rest es)
from_below t rest s lt f [] below = before_below (is_due (Some t.1) None) s t.0 (rest []) lt (f [] tt)
from_below t rest s lt f (e ∷ es) below = by (segment_cmp t.0 e.0) (from_below t rest s lt f es below.1)
  where
    by : (o : Ordering) → Below s (due_from t rest es)
        → Below s (match_ordering o (due_before (is_due (Some t.1) None) t.0 (rest (e ∷ es)))
        (due_before (is_due (Some t.1) (Some e.1)) t.0 (rest es)) (due_before (is_due None (Some e.1)) e.0 (due_from t rest es)))
    by Less g = before_below (is_due (Some t.1) None) s t.0 (rest (e ∷ es)) lt (f (e ∷ es) below)
    by Equal g = before_below (is_due (Some t.1) (Some e.1)) s t.0 (rest es) lt (f es below.1)
    by Greater g = before_below (is_due None (Some e.1)) s e.0 (due_from t rest es) below.0 g

walk_below : (s : Segment) (ts : List (Segment × Mode)) (es : List (Segment × Entry)) → Below s (keys_of ts) → Below s (keys_of es) → Below s (walked ts es)
walk_below s [] es below more = more
walk_below s (t ∷ ts) es below more = from_below t (due_merged ts) s below.0 (λ fs m. walk_below s ts fs below.1 m) es more

abbrev Steps : List (Segment × Mode) → Type 0
Steps ts = (es : List (Segment × Entry)) → Ascending (keys_of es) → Ascending (walked ts es)

from_ascends : (t : Segment × Mode) (ts : List (Segment × Mode)) → Below t.0 (keys_of ts) → Steps ts → Steps (t ∷ ts)
from_ascends t ts under onward [] vp = before_ascends (is_due (Some t.1) None) t.0 (walked ts []) (walk_below t.0 ts [] under tt) (onward [] vp)
from_ascends t ts under onward (e ∷ es) vp = by (segment_cmp t.0 e.0) refl (from_ascends t ts under onward es (later_ascend e.0 (keys_of es) vp))
  where
    above : Below e.0 (keys_of es)
    above = first_below e.0 (keys_of es) vp

    by : (o : Ordering) → segment_cmp t.0 e.0 ≡ o → Ascending (due_from t (due_merged ts) es)
        → Ascending (match_ordering o (due_before (is_due (Some t.1) None) t.0 (walked ts (e ∷ es)))
        (due_before (is_due (Some t.1) (Some e.1)) t.0 (walked ts es)) (due_before (is_due None (Some e.1)) e.0 (due_from t (due_merged ts) es)))
    by Less c g =
        before_ascends (is_due (Some t.1) None) t.0 (walked ts (e ∷ es))
        (walk_below t.0 ts (e ∷ es) under (c, further t.0 e.0 (keys_of es) c above)) (onward (e ∷ es) vp)
    by Equal c g =
        before_ascends (is_due (Some t.1) (Some e.1)) t.0 (walked ts es)
        (walk_below t.0 ts es under (subst (λ z. Below z (keys_of es)) (sym (segment_exact t.0 e.0 c)) above))
        (onward es (later_ascend e.0 (keys_of es) vp))
    by Greater c g =
        before_ascends (is_due None (Some e.1)) e.0 (due_from t (due_merged ts) es)
        (from_below t (due_merged ts) e.0 (over t.0 e.0 c)
        (λ gs m. walk_below e.0 ts gs (further e.0 t.0 (keys_of ts) (over t.0 e.0 c) under) m) es above)
        g

walk_ascends : (ts : List (Segment × Mode)) → Ascending (keys_of ts) → Steps ts
walk_ascends [] up es vp = vp
walk_ascends (t ∷ ts) up es vp = from_ascends t ts (first_below t.0 (keys_of ts) up) (walk_ascends ts (later_ascend t.0 (keys_of ts) up)) es vp

-- a step of the walk: the least segment, its target and its entry, and then the others
due_here : (s k : Segment) (rest : List Segment) (due : Bool) → is_it s k ≡ true → has rest s ≡ false → has (due_before due k rest) s ≡ due
due_here s k rest true c later = ap (λ z. z || has rest s) c
due_here s k rest false c later = later

due_later : (s k : Segment) (rest : List Segment) (due : Bool) → is_it s k ≡ false → has (due_before due k rest) s ≡ has rest s
due_later s k rest true c = ap (λ z. z || has rest s) c
due_later s k rest false c = refl

step_has : (s k : Segment) (b : Bool) (m o mode : Option Mode) (n p entry : Option Entry) (rest : List Segment) → is_it s k ≡ b
    → mode ≡ cond b m o → entry ≡ cond b n p → (b ≡ true → o ≡ None) → (b ≡ true → p ≡ None)
    → has rest s ≡ is_due o p → has (due_before (is_due m n) k rest) s ≡ is_due mode entry
step_has s k true m o mode n p entry rest c x y gone none f =
    due_here s k rest (is_due m n) c (f ∙ ap (λ z. is_due z p) (gone refl) ∙ ap (is_due None) (none refl))
    ∙ sym (ap (λ z. is_due z entry) x ∙ ap (is_due m) y)
step_has s k false m o mode n p entry rest c x y gone none f =
    due_later s k rest (is_due m n) c ∙ f ∙ sym (ap (λ z. is_due z entry) x ∙ ap (is_due o) y)

abbrev mode_at : Segment → List (Segment × Mode) → Option Mode
mode_at s ts = lookup (is_segment s.0 s.1) ts

abbrev entry_at : Segment → List (Segment × Entry) → Option Entry
entry_at s es = lookup (is_segment s.0 s.1) es

gone_at : {X : Type 0} (es : List (Segment × X)) (k s : Segment) → Below k (keys_of es) → is_it s k ≡ true → lookup (is_segment s.0 s.1) es ≡ None
gone_at es k s below c = lookup_below es s (subst (λ z. Below z (keys_of es)) (sym (it_is s k c)) below)

there_due : (o : Option Entry) → is_there o ≡ is_due None o
there_due None = refl
there_due (Some e) = refl

abbrev no_entries : List (Segment × Entry)
no_entries = []

abbrev Finds : Segment → List (Segment × Mode) → Type 0
Finds s ts = (es : List (Segment × Entry)) → Ascending (keys_of es) → has (walked ts es) s ≡ is_due (mode_at s ts) (entry_at s es)

from_has : (s : Segment) (t : Segment × Mode) (ts : List (Segment × Mode)) → Below t.0 (keys_of ts) → Finds s ts → Finds s (t ∷ ts)
from_has s t ts under onward [] vp =
    step_has s t.0 (is_it s t.0) (Some t.1) (mode_at s ts) (mode_at s (t ∷ ts)) None None None (walked ts []) refl refl
    (lookup_skips no_entries t.0 s (is_it s t.0) tt refl) (gone_at ts t.0 s under) (λ c. refl) (onward [] vp)
from_has s t ts under onward (e ∷ es) vp = by (segment_cmp t.0 e.0) refl (from_has s t ts under onward es (later_ascend e.0 (keys_of es) vp))
  where
    above : Below e.0 (keys_of es)
    above = first_below e.0 (keys_of es) vp

    by : (o : Ordering) → segment_cmp t.0 e.0 ≡ o → has (due_from t (due_merged ts) es) s ≡ is_due (mode_at s (t ∷ ts)) (entry_at s es)
        → has (match_ordering o (due_before (is_due (Some t.1) None) t.0 (walked ts (e ∷ es)))
        (due_before (is_due (Some t.1) (Some e.1)) t.0 (walked ts es)) (due_before (is_due None (Some e.1)) e.0 (due_from t (due_merged ts) es))) s
        ≡ is_due (mode_at s (t ∷ ts)) (entry_at s (e ∷ es))
    by Less c g =
        let all : Below t.0 (keys_of (e ∷ es)) = (c, further t.0 e.0 (keys_of es) c above) in
        step_has s t.0 (is_it s t.0) (Some t.1) (mode_at s ts) (mode_at s (t ∷ ts)) None (entry_at s (e ∷ es)) (entry_at s (e ∷ es)) (walked ts (e ∷ es)) refl refl
        (lookup_skips (e ∷ es) t.0 s (is_it s t.0) all refl) (gone_at ts t.0 s under) (gone_at (e ∷ es) t.0 s all) (onward (e ∷ es) vp)
    by Equal c g =
        let same : t.0 ≡ e.0 = segment_exact t.0 e.0 c in
        step_has s t.0 (is_it s t.0) (Some t.1) (mode_at s ts) (mode_at s (t ∷ ts)) (Some e.1) (entry_at s es) (entry_at s (e ∷ es)) (walked ts es) refl refl
        (ap (λ z. cond (is_it s z) (Some e.1) (entry_at s es)) (sym same))
        (gone_at ts t.0 s under) (gone_at es t.0 s (subst (λ z. Below z (keys_of es)) (sym same) above))
        (onward es (later_ascend e.0 (keys_of es) vp))
    by Greater c g =
        let lt : segment_cmp e.0 t.0 ≡ Less = over t.0 e.0 c in
        let all : Below e.0 (keys_of (t ∷ ts)) = (lt, further e.0 t.0 (keys_of ts) lt under) in
        step_has s e.0 (is_it s e.0) None (mode_at s (t ∷ ts)) (mode_at s (t ∷ ts)) (Some e.1) (entry_at s es) (entry_at s (e ∷ es)) (due_from t (due_merged ts) es) refl
        (lookup_skips (t ∷ ts) e.0 s (is_it s e.0) all refl) refl
        (gone_at (t ∷ ts) e.0 s all) (gone_at es e.0 s above) g

walk_has : (s : Segment) (ts : List (Segment × Mode)) → Ascending (keys_of ts) → Finds s ts
walk_has s [] up es vp = lookup_has es s ∙ there_due (entry_at s es)
walk_has s (t ∷ ts) up es vp = from_has s t ts (first_below t.0 (keys_of ts) up) (walk_has s ts (later_ascend t.0 (keys_of ts) up)) es vp

-- ---- both find the same

pub only_there : (m : Option Mode) (n : Option Entry) → is_due m n ≡ ((is_due m n && is_there m) || ((is_due m n && is_there n) || false))
only_there None None = refl
only_there None (Some e) = refl
only_there (Some mode) n = by (is_due (Some mode) n) (is_there n)
  where
    by : (b c : Bool) → b ≡ ((b && true) || ((b && c) || false))
    by true c = refl
    by false c = refl

abbrev segments : List (Segment × Mode) → List (Segment × Entry) → Segments
segments targets entries = record { targets = targets; entries = entries }

-- the list has what is due
pub has_due : (t : Segments) (s : Segment) → has (due_of t) s ≡ due_at t s
has_due t s =
    has_among t (keys_of t.targets) (due_among t (keys_of t.entries) []) s
    ∙ ap (λ b. (due_at t s && has (keys_of t.targets) s) || b) (has_among t (keys_of t.entries) [] s)
    ∙ ap (λ b. (due_at t s && b) || ((due_at t s && has (keys_of t.entries) s) || false)) (lookup_has t.targets s)
    ∙ ap (λ b. (due_at t s && is_there (mode_at s t.targets)) || ((due_at t s && b) || false)) (lookup_has t.entries s)
    ∙ sym (only_there (mode_at s t.targets) (entry_at s t.entries))

-- in order
pub due_ascends : (t : Segments) → Ascending (due_of t)
due_ascends t =
    among_ascends t (keys_of t.targets) (due_among t (keys_of t.entries) []) (among_ascends t (keys_of t.entries) [] none_ascend)

pub merged_is : (ts : List (Segment × Mode)) (es : List (Segment × Entry)) → Ascending (keys_of ts) → Ascending (keys_of es)
    → due_merged ts es ≡ due_of (segments ts es)
merged_is ts es up vp =
    alike_is (walked ts es) (due_of (segments ts es)) (walk_ascends ts up es vp) (due_ascends (segments ts es))
    (λ s. walk_has s ts up es vp ∙ sym (has_due (segments ts es) s))

-- of the table with these targets and entries
pub merged_ok : {E : Type 0} (t : Segments) (ts : List (Segment × Mode)) (es : List (Segment × Entry)) (result : Result (List Segment) E) → segments ts es ≡ t
    → Ascending (keys_of ts) → Ascending (keys_of es) → IfOk result (λ due. due ≡ due_merged ts es) → IfOk result (λ due. due ≡ due_of t)
merged_ok t ts es (Ok due) is up vp found = found ∙ merged_is ts es up vp ∙ ap due_of is
merged_ok t ts es (Err e) is up vp found = found
