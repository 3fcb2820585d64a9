-- The segments of some replicas ascend, and are those of the replicas.
use Rattle.std.proofs.Common.{◌≡◌, ℕ, Bool, true, false, cond, ◌&&◌, eqb, ltb, ◌⊎◌, inl, inr, List, [], ◌∷◌, refl, sym, ◌∙◌, subst, arith}
use Rattle.std.specs.Prelude.{◌↔◌}
use Rattle.std.proofs.lemmas.Bool.Decides.{nat_tests}
use Rattle.std.proofs.lemmas.Bool.{eqb-true, and_parts}
use Rattle.rt_lists.specs.Members.{Has}
use Rattle.rt_pause.specs.declared.replica_seen.ReplicaSeen.{ReplicaSeen}
use Rattle.rt_pause.specs.Forced.{Segment, segment_of, is_before, is_same, with_segment, with_segments, segments_of, IsBeforeAll, IsAscending, IsOfSome}

-- ---- the order

before : ℕ → ℕ → ℕ → ℕ → Bool
before p q r s = cond (eqb p r) (ltb q s) (ltb p r)

before_trans : (p q r s t u : ℕ) → before p q r s ≡ true → before r s t u ≡ true → before p q t u ≡ true
unfolding before
before_trans p q r s t u a b = grind (arith, nat_tests)

before_or_after : (p q r s : ℕ) → before p q r s ≡ false → (eqb p r && eqb q s) ≡ false → before r s p q ≡ true
unfolding before
before_or_after p q r s a b = grind (arith, nat_tests)

segment_trans : (a b c : Segment) → is_before a b ≡ true → is_before b c ≡ true → is_before a c ≡ true
unfolding before
segment_trans a b c h k = before_trans a.0.0 a.1.0 b.0.0 b.1.0 c.0.0 c.1.0 h k

segment_after : (a b : Segment) → is_before a b ≡ false → is_same a b ≡ false → is_before b a ≡ true
unfolding before
segment_after a b h k = before_or_after a.0.0 a.1.0 b.0.0 b.1.0 h k

all_after : (a b : Segment) (ts : List Segment) → is_before a b ≡ true → IsBeforeAll b ts → IsBeforeAll a ts
all_after a b [] h k = tt
all_after a b (t ∷ ts) h k = (segment_trans a b t h k.0, all_after a b ts h k.1)

-- ---- one segment more

before_added : (a s : Segment) (ts : List Segment) → is_before a s ≡ true → IsBeforeAll a ts → IsBeforeAll a (with_segment s ts)
before_added a s [] h k = (h, tt)
before_added a s (t ∷ ts) h k = by (is_before s t) (is_same s t) (before_added a s ts h k.1)
  where
    by : (b c : Bool) → IsBeforeAll a (with_segment s ts) → IsBeforeAll a (cond b (s ∷ t ∷ ts) (cond c (t ∷ ts) (t ∷ with_segment s ts)))
    by true c rest = (h, k)
    by false true rest = k
    by false false rest = (k.0, rest)

added_ascends : (s : Segment) (ts : List Segment) → IsAscending ts → IsAscending (with_segment s ts)
added_ascends s [] k = (tt, tt)
added_ascends s (t ∷ ts) k = by (is_before s t) (is_same s t) (added_ascends s ts k.1) refl refl
  where
    by : (b c : Bool) → IsAscending (with_segment s ts) → is_before s t ≡ b → is_same s t ≡ c → IsAscending (cond b (s ∷ t ∷ ts) (cond c (t ∷ ts) (t ∷ with_segment s ts)))
    by true c rest e f = ((e, all_after s t ts e k.0), k)
    by false true rest e f = k
    by false false rest e f = (before_added t s ts (segment_after s t e f) k.0, rest)

all_ascend : (segments : List Segment) (replicas : List ReplicaSeen) → IsAscending segments → IsAscending (with_segments segments replicas)
all_ascend segments [] k = k
all_ascend segments (replica ∷ replicas) k = all_ascend (with_segment (segment_of replica) segments) replicas (added_ascends (segment_of replica) segments k)

pub segments_ascend : (kept : List Segment) (replicas : List ReplicaSeen) → kept ≡ segments_of replicas → IsAscending kept
segments_ascend kept replicas is = subst IsAscending (sym is) (all_ascend [] replicas tt)

-- ---- which they are

same_is : (a b : Segment) → is_same a b ≡ true → b ≡ a
same_is a b e =
    let both = and_parts (eqb a.0.0 b.0.0) (eqb a.1.0 b.1.0) e in
    let p : a.0.0 ≡ b.0.0 = eqb-true a.0.0 b.0.0 both.0 in
    let q : a.1.0 ≡ b.1.0 = eqb-true a.1.0 b.1.0 both.1 in
    λ i. (record { 0 = sym p i }, record { 0 = sym q i })

Has-with : (s : Segment) (ts : List Segment) (x : Segment) → Has (with_segment s ts) x → (s ≡ x) ⊎ Has ts x
Has-with s [] x (inl e) = inl e
Has-with s [] x (inr h) = absurd h
Has-with s (t ∷ ts) x h = by (is_before s t) (is_same s t) (Has-with s ts x) h
  where
    past : (s ≡ x) ⊎ Has ts x → (s ≡ x) ⊎ Has (t ∷ ts) x
    past (inl e) = inl e
    past (inr h) = inr (inr h)

    by : (b c : Bool) → (Has (with_segment s ts) x → (s ≡ x) ⊎ Has ts x) → Has (cond b (s ∷ t ∷ ts) (cond c (t ∷ ts) (t ∷ with_segment s ts))) x → (s ≡ x) ⊎ Has (t ∷ ts) x
    by true c rest (inl e) = inl e
    by true c rest (inr h) = inr h
    by false true rest h = inr h
    by false false rest (inl e) = inr (inl e)
    by false false rest (inr h) = past (rest h)

with-Has : (s : Segment) (ts : List Segment) (x : Segment) → (s ≡ x) ⊎ Has ts x → Has (with_segment s ts) x
with-Has s [] x (inl e) = inl e
with-Has s [] x (inr h) = absurd h
with-Has s (t ∷ ts) x h = by (is_before s t) (is_same s t) (with-Has s ts x) refl h
  where
    by : (b c : Bool) → ((s ≡ x) ⊎ Has ts x → Has (with_segment s ts) x) → is_same s t ≡ c → (s ≡ x) ⊎ Has (t ∷ ts) x → Has (cond b (s ∷ t ∷ ts) (cond c (t ∷ ts) (t ∷ with_segment s ts))) x
    by true c rest f (inl e) = inl e
    by true c rest f (inr h) = inr h
    by false true rest f (inl e) = inl (same_is s t f ∙ e)
    by false true rest f (inr h) = h
    by false false rest f (inl e) = inr (rest (inl e))
    by false false rest f (inr (inl e)) = inl e
    by false false rest f (inr (inr h)) = inr (rest (inr h))

Has-all : (segments : List Segment) (replicas : List ReplicaSeen) (x : Segment) → Has (with_segments segments replicas) x → Has segments x ⊎ IsOfSome replicas x
Has-all segments [] x h = inl h
Has-all segments (replica ∷ replicas) x h = by (Has-all (with_segment (segment_of replica) segments) replicas x h)
  where
    first : (segment_of replica ≡ x) ⊎ Has segments x → Has segments x ⊎ IsOfSome (replica ∷ replicas) x
    first (inl e) = inr (inl e)
    first (inr h) = inl h

    by : Has (with_segment (segment_of replica) segments) x ⊎ IsOfSome replicas x → Has segments x ⊎ IsOfSome (replica ∷ replicas) x
    by (inl h) = first (Has-with (segment_of replica) segments x h)
    by (inr h) = inr (inr h)

all-Has : (segments : List Segment) (replicas : List ReplicaSeen) (x : Segment) → Has segments x ⊎ IsOfSome replicas x → Has (with_segments segments replicas) x
all-Has segments [] x (inl h) = h
all-Has segments [] x (inr h) = absurd h
all-Has segments (replica ∷ replicas) x h = all-Has (with_segment (segment_of replica) segments) replicas x (by h)
  where
    by : Has segments x ⊎ IsOfSome (replica ∷ replicas) x → Has (with_segment (segment_of replica) segments) x ⊎ IsOfSome replicas x
    by (inl h) = inl (with-Has (segment_of replica) segments x (inr h))
    by (inr (inl e)) = inl (with-Has (segment_of replica) segments x (inl e))
    by (inr (inr h)) = inr h

only : (replicas : List ReplicaSeen) (s : Segment) → Has [] s ⊎ IsOfSome replicas s → IsOfSome replicas s
only replicas s (inl h) = absurd h
only replicas s (inr h) = h

pub segments_are : (kept : List Segment) (replicas : List ReplicaSeen) → kept ≡ segments_of replicas → (s : Segment) → Has kept s ↔ IsOfSome replicas s
segments_are kept replicas is s =
    (λ h. only replicas s (Has-all [] replicas s (subst (λ segments. Has segments s) is h)), λ h. subst (λ segments. Has segments s) (sym is) (all-Has [] replicas s (inr h)))
