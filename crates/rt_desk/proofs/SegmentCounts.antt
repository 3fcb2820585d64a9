-- How many segments some replicas have: one more for each replica whose segment none before it has.
use Rattle.std.proofs.Common.{◌≡◌, ℕ, ◌+◌, ◌<◌, Bool, true, false, cond, ◌&&◌, ◌||◌, eqb, ltb, List, [], ◌∷◌, ◌++◌, length, take, get_or, refl, ap, sym, ◌∙◌, arith, add-one}
use Rattle.std.specs.List.{list_any}
use Rattle.std.proofs.lemmas.Bool.Decides.{nat_tests}
use Rattle.std.proofs.lemmas.Bool.{eqb-true, and_parts}
use Rattle.std.proofs.Math.Seq.{take-suc}
use Rattle.rt_desk.specs.Forcing.{is_of}
use Rattle.rt_pause.proofs.Keeping.{segments_ascend}
use Rattle.rt_pause.specs.Forced.{IsAscending, IsBeforeAll, Segment, is_before, is_same, segment_of, segments_of, with_segment, with_segments}
use Rattle.rt_pause.specs.declared.replica_seen.ReplicaSeen.{ReplicaSeen}

-- ---- the order

before : ℕ → ℕ → ℕ → ℕ → Bool
before p q r s = cond (eqb p r) (ltb q s) (ltb p r)

before_differs : (p q r s : ℕ) → before p q r s ≡ true → (eqb p r && eqb q s) ≡ false
unfolding before
before_differs p q r s h = grind (arith, nat_tests)

before_trans : (p q r s t u : ℕ) → before p q r s ≡ true → before r s t u ≡ true → before p q t u ≡ true
unfolding before
before_trans p q r s t u a b = grind (arith, nat_tests)

segment_differs : (a b : Segment) → is_before a b ≡ true → is_same a b ≡ false
unfolding before
segment_differs a b h = before_differs a.0.0 a.1.0 b.0.0 b.1.0 h

segment_trans : (a b c : Segment) → is_before a b ≡ true → is_before b c ≡ true → is_before a c ≡ true
unfolding before
segment_trans a b c h k = before_trans a.0.0 a.1.0 b.0.0 b.1.0 c.0.0 c.1.0 h k

same_is : (a b : Segment) → is_same a b ≡ true → a ≡ b
same_is a b e =
    let both = and_parts (eqb a.0.0 b.0.0) (eqb a.1.0 b.1.0) e in
    let p : a.0.0 ≡ b.0.0 = eqb-true a.0.0 b.0.0 both.0 in
    let q : a.1.0 ≡ b.1.0 = eqb-true a.1.0 b.1.0 both.1 in
    λ i. (record { 0 = p i }, record { 0 = q i })

-- a segment is none of those that it comes before
none_same : (s t : Segment) (ts : List Segment) → is_before s t ≡ true → IsBeforeAll t ts → list_any (is_same s) ts ≡ false
none_same s t [] h k = refl
none_same s t (u ∷ us) h k =
    ap (λ b. b || list_any (is_same s) us) (segment_differs s u (segment_trans s t u h k.0)) ∙ none_same s t us h k.1

-- ---- one segment more

abbrev one_unless : Bool → ℕ
one_unless b = cond b 0 1

added_length : (s : Segment) (ts : List Segment) → IsAscending ts → length (with_segment s ts) ≡ length ts + one_unless (list_any (is_same s) ts)
added_length s [] k = refl
added_length s (t ∷ ts) k = by (is_before s t) (is_same s t) refl refl (added_length s ts k.1)
  where
    by : (b c : Bool) → is_before s t ≡ b → is_same s t ≡ c → length (with_segment s ts) ≡ length ts + one_unless (list_any (is_same s) ts)
        → length (cond b (s ∷ t ∷ ts) (cond c (t ∷ ts) (t ∷ with_segment s ts))) ≡ length (t ∷ ts) + one_unless (c || list_any (is_same s) ts)
    by true true e f rest = absurd (let bad : is_same s t ≡ false = segment_differs s t e in cc)
    by true false e f rest =
        let none : list_any (is_same s) ts ≡ false = none_same s t ts e k.0 in
        let last : length (t ∷ ts) + one_unless (list_any (is_same s) ts) ≡ length (t ∷ ts) + 1 = ap (λ b. length (t ∷ ts) + one_unless b) none in
        omega (arith, last)
    by false true e f rest = omega arith
    by false false e f rest = omega (arith, rest)

or_twice : (a b : Bool) → (a || (a || b)) ≡ (a || b)
or_twice true b = refl
or_twice false b = refl

or_over : (a b c : Bool) → (a || (b || c)) ≡ (b || (a || c))
or_over true true c = refl
or_over true false c = refl
or_over false b c = refl

or_groups : (a b c : Bool) → ((a || b) || c) ≡ (b || (a || c))
or_groups true true c = refl
or_groups true false c = refl
or_groups false b c = refl

-- which segments pass a test, with one segment more
added_any : (p : Segment → Bool) (s : Segment) (ts : List Segment) → list_any p (with_segment s ts) ≡ (p s || list_any p ts)
added_any p s [] = refl
added_any p s (t ∷ ts) = by (is_before s t) (is_same s t) refl (added_any p s ts)
  where
    by : (b c : Bool) → is_same s t ≡ c → list_any p (with_segment s ts) ≡ (p s || list_any p ts)
        → list_any p (cond b (s ∷ t ∷ ts) (cond c (t ∷ ts) (t ∷ with_segment s ts))) ≡ (p s || (p t || list_any p ts))
    by true c f rest = refl
    by false true f rest = sym (ap (λ x. p x || (p t || list_any p ts)) (same_is s t f) ∙ or_twice (p t) (list_any p ts))
    by false false f rest = ap (λ b. p t || b) rest ∙ or_over (p t) (p s) (list_any p ts)

all_any : (p : Segment → Bool) (segments : List Segment) (replicas : List ReplicaSeen) → list_any p (with_segments segments replicas) ≡ (list_any p segments || list_any (λ r. p (segment_of r)) replicas)
all_any p segments [] = or_none (list_any p segments)
  where
    or_none : (b : Bool) → b ≡ (b || false)
    or_none true = refl
    or_none false = refl
all_any p segments (replica ∷ replicas) =
    all_any p (with_segment (segment_of replica) segments) replicas
    ∙ ap (λ b. b || list_any (λ r. p (segment_of r)) replicas) (added_any p (segment_of replica) segments)
    ∙ or_groups (p (segment_of replica)) (list_any p segments) (list_any (λ r. p (segment_of r)) replicas)

-- ---- one replica more

all_more : (segments : List Segment) (replicas : List ReplicaSeen) (replica : ReplicaSeen) → with_segments segments (replicas ++ replica ∷ []) ≡ with_segment (segment_of replica) (with_segments segments replicas)
all_more segments [] replica = refl
all_more segments (r ∷ replicas) replica = all_more (with_segment (segment_of r) segments) replicas replica

count_more : (replicas : List ReplicaSeen) (replica : ReplicaSeen) → length (segments_of (replicas ++ replica ∷ [])) ≡ length (segments_of replicas) + one_unless (list_any (is_of replica) replicas)
count_more replicas replica =
    ap length (all_more [] replicas replica)
    ∙ added_length (segment_of replica) (segments_of replicas) (segments_ascend (segments_of replicas) replicas refl)
    ∙ ap (λ b. length (segments_of replicas) + one_unless b) (all_any (is_same (segment_of replica)) [] replicas)

-- the count of the first replicas, and of one more
pub counted : (replicas : List ReplicaSeen) (at : ℕ) (d : ReplicaSeen) (has : Bool) (count : ℕ) → at < length replicas → has ≡ list_any (is_of (get_or replicas at d)) (take at replicas)
    → count ≡ length (segments_of (take at replicas)) → count + one_unless has ≡ length (segments_of (take (at + 1) replicas))
counted replicas at d has count within e c =
    let more : length (segments_of (take (at + 1) replicas)) ≡ length (segments_of (take at replicas)) + one_unless (list_any (is_of (get_or replicas at d)) (take at replicas)) =
    ap (λ rs. length (segments_of rs)) (take_next replicas at d within) ∙ count_more (take at replicas) (get_or replicas at d) in
    ap (λ n. n + one_unless has) c ∙ ap (λ b. length (segments_of (take at replicas)) + one_unless b) e ∙ sym more
  where
    take_next : (rs : List ReplicaSeen) (j : ℕ) (x : ReplicaSeen) → j < length rs → take (j + 1) rs ≡ take j rs ++ (get_or rs j x ∷ [])
    take_next rs j x h = rw add-one (take-suc rs j x h)

-- a count that goes on by one where no replica before has the segment, and stays where one has
pub one_more : (has : Bool) (count now total : ℕ) → count + one_unless has ≡ total → has ≡ false → now ≡ count + 1 → now ≡ total
one_more true count now total e none c = cc
one_more false count now total e none c = c ∙ e

pub one_less : (has : Bool) (count now total : ℕ) → count + one_unless has ≡ total → has ≡ true → now ≡ count → now ≡ total
one_less true count now total e some c = omega (arith, c, e)
one_less false count now total e some c = cc
