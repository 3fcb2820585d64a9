-- The ranges that an answer names are in order, within what was produced.
use Rattle.std.proofs.Common.{◌≡◌, ◌<◌, ◌≤◌, ◌+◌, ◌⊎◌, inl, inr, ◌==◌, ℕ, zero, suc, Bool, true, false, List, [], ◌∷◌, ◌++◌, length, map, All, cond, refl, sym, ◌∙◌, subst, arith}
use Rattle.std.specs.List.{range_with_len}
use Rattle.std.specs.Prelude.{AllPairs}
use Rattle.std.proofs.lemmas.Bool.{eqb-true, eq-eqb, false≢true}
use Rattle.std.proofs.lemmas.List.Elements.{All-cons, All-head, All-nil, All-tail}
use Rattle.std.proofs.lemmas.List.Kept.{AllPairs-cons}
use Rattle.rt_base.specs.declared.numbers.Partition.{Partition}
use Rattle.rt_base.specs.declared.range.Range.{Range}
use Rattle.rt_lists.specs.Members.{Has}
use Rattle.rt_model.specs.RightAnswer.{AreInOrder, IsServed, Routed, joined, merged, named_in, named_ranges, pieces_of, served_ranges}
use Rattle.rt_play.proofs.AllHave.{each_all}
use Rattle.rt_play.specs.Reader.{LiesBefore}
use Rattle.rt_stream.specs.Log.{Log, messages_of}

-- ---- of one partition

-- ranges from an offset on, in order, each with an offset and within a length
abbrev AreApart : ℕ → ℕ → List Range → Type 0
AreApart length from [] = Unit {0}
AreApart length from (r ∷ rest) = (from ≤ r.start.0) × (r.start.0 < r.end.0) × (r.end.0 ≤ length) × AreApart length r.end.0 rest

abbrev EndWithin : ℕ → Range → Type 0
EndWithin most r = r.end.0 ≤ most

apart_before : (most from other : ℕ) (rs : List Range) → other ≤ from → AreApart most from rs → AreApart most other rs
apart_before most from other [] le h = tt
apart_before most from other (r ∷ rs) le (first, more, within, rest) = (omega (arith, le, first), more, within, rest)

joins : (most from : ℕ) (r s : Range) (rest : List Range) (b : Bool) → (r.end.0 == s.start.0) ≡ b → from ≤ r.start.0 → r.start.0 < r.end.0 → r.end.0 ≤ most
    → AreApart most r.end.0 (s ∷ rest) → AreApart most from (cond b (record { start = r.start; end = s.end } ∷ rest) (r ∷ (s ∷ rest)))
joins most from r s rest true e first more within (after, some, inside, others) =
    (first, omega (arith, more, eqb-true r.end.0 s.start.0 e, some), inside, others)
joins most from r s rest false e first more within h = (first, more, within, h)

joined_apart : (most from : ℕ) (r : Range) (rs : List Range) → from ≤ r.start.0 → r.start.0 < r.end.0 → r.end.0 ≤ most → AreApart most r.end.0 rs
    → AreApart most from (joined r rs)
joined_apart most from r [] first more within h = (first, more, within, tt)
joined_apart most from r (s ∷ rest) first more within h = joins most from r s rest (r.end.0 == s.start.0) refl first more within h

unequal : (a b : ℕ) → (a == b) ≡ false → a ≤ b → a < b
unequal a b e le = omega (arith, le, λ (same : a ≡ b). false≢true (sym e ∙ eq-eqb a b same))

merges : (most from : ℕ) (r : Range) (rest : List Range) (b : Bool) → (r.start.0 == r.end.0) ≡ b → from ≤ r.start.0 → r.start.0 ≤ r.end.0 → r.end.0 ≤ most
    → AreApart most r.end.0 (merged rest) → AreApart most from (cond b (merged rest) (joined r (merged rest)))
merges most from r rest true e first le within h = apart_before most r.end.0 from (merged rest) (omega (arith, first, le)) h
merges most from r rest false e first le within h = joined_apart most from r (merged rest) first (unequal r.start.0 r.end.0 e le) within h

merged_apart : (most from : ℕ) (rs : List Range) → AreInOrder from rs → All (EndWithin most) rs → AreApart most from (merged rs)
merged_apart most from [] order all = tt
merged_apart most from (r ∷ rest) (first, le, order) all =
    merges most from r rest (r.start.0 == r.end.0) refl first le (All-head (EndWithin most) r rest all)
    (merged_apart most r.end.0 rest order (All-tail (EndWithin most) r rest all))

-- ---- of all partitions

-- ranges behind an offset of a partition, in order: each has an offset, ends within what was produced, and begins where the one before it
-- ends, further on, or in a later partition
abbrev pub AreProduced : Log → ℕ → ℕ → List (Partition × Range) → Type 0
AreProduced log partition from [] = Unit {0}
AreProduced log partition from (r ∷ rest) =
    ((partition < r.0.0) ⊎ ((partition ≡ r.0.0) × (from ≤ r.1.start.0)))
    × (r.1.start.0 < r.1.end.0)
    × (r.1.end.0 ≤ length (messages_of log r.0))
    × AreProduced log r.0.0 r.1.end.0 rest

-- those of a later partition come behind any offset of an earlier one
later_produced : (log : Log) (p q from : ℕ) (rs : List (Partition × Range)) → q < p → AreProduced log p 0 rs → AreProduced log q from rs
later_produced log p q from [] lt h = tt
later_produced log p q from (r ∷ rs) lt (place, more, within, rest) = (inl (by_place place), more, within, rest)
  where
    by_place : (p < r.0.0) ⊎ ((p ≡ r.0.0) × (0 ≤ r.1.start.0)) → q < r.0.0
    by_place (inl further) = omega (arith, lt, further)
    by_place (inr (same, any)) = omega (arith, lt, same)

-- the ranges of a partition, and those of later ones
here_produced : (log : Log) (p : Partition) (from : ℕ) (rs : List Range) (others : List (Partition × Range)) → AreApart (length (messages_of log p)) from rs
    → ((at : ℕ) → AreProduced log p.0 at others) → AreProduced log p.0 from (map (λ r. (p, r)) rs ++ others)
here_produced log p from [] others h rest = rest from
here_produced log p from (r ∷ rs) others (first, more, within, apart) rest =
    (inr (refl, first), more, within, here_produced log p r.end.0 rs others apart rest)

no_cons : {A : Type 0} (x : A) (xs : List A) → x ∷ xs ≡ [] → ⊥
no_cons x xs e = cc

same_head : (x y : ℕ) (xs ys : List ℕ) → x ∷ xs ≡ y ∷ ys → x ≡ y
same_head x y xs ys e = cc

same_tail : (x y : ℕ) (xs ys : List ℕ) → x ∷ xs ≡ y ∷ ys → xs ≡ ys
same_tail x y xs ys e = cc

named_from : (log : Log) (routed : List Routed) (k n : ℕ) → map (λ r. r.partition.0) routed ≡ range_with_len k n → All (IsServed log) routed
    → AreProduced log k 0 (named_ranges routed)
named_from log [] k n e all = tt
named_from log (r ∷ rest) k zero e all = absurd (no_cons r.partition.0 (map (λ x. x.partition.0) rest) e)
named_from log (r ∷ rest) k (suc n) e all =
    let ps = map (λ x. x.partition.0) rest in
    let here : r.partition.0 ≡ k = same_head r.partition.0 k ps (range_with_len (k + 1) n) e in
    let served = All-head (IsServed log) r rest all in
    let others = named_from log rest (k + 1) n (same_tail r.partition.0 k ps (range_with_len (k + 1) n) e) (All-tail (IsServed log) r rest all) in
    subst (λ (p : ℕ). AreProduced log p 0 (named_in r ++ named_ranges rest)) here
    (here_produced log r.partition 0 (merged (served_ranges (pieces_of r.pieces))) (named_ranges rest)
    (merged_apart (length (messages_of log r.partition)) 0 (served_ranges (pieces_of r.pieces)) served.in_order served.within)
    (λ at. later_produced log (k + 1) r.partition.0 at (named_ranges rest) (omega (arith, here)) others))

pub named_produced : (log : Log) (routed : List Routed) (n : ℕ) → map (λ r. r.partition.0) routed ≡ range_with_len 0 n → All (IsServed log) routed
    → AreProduced log 0 0 (named_ranges routed)
named_produced log routed n e all = named_from log routed 0 n e all

-- ---- each of them

abbrev IsBehind : ℕ → ℕ → Partition × Range → Type 0
IsBehind p from r = (p < r.0.0) ⊎ ((p ≡ r.0.0) × (from ≤ r.1.start.0))

behind : (log : Log) (p from : ℕ) (rs : List (Partition × Range)) (s : Partition × Range) → AreProduced log p from rs → Has rs s → IsBehind p from s
behind log p from [] s h has = absurd has
behind log p from (r ∷ rs) s (place, some, within, rest) (inl same) = subst (IsBehind p from) same place
behind log p from (r ∷ rs) s (place, some, within, rest) (inr has) = further place (behind log r.0.0 r.1.end.0 rs s rest has)
  where
    further : IsBehind p from r → IsBehind r.0.0 r.1.end.0 s → IsBehind p from s
    further (inl a) (inl b) = inl (omega (arith, a, b))
    further (inl a) (inr b) = inl (omega (arith, a, b.0))
    further (inr a) (inl b) = inl (omega (arith, a.0, b))
    further (inr a) (inr b) = inr (a.0 ∙ b.0, omega (arith, a.1, some, b.1))

-- each lies before each later one
pub produced_order : (log : Log) (p from : ℕ) (rs : List (Partition × Range)) → AreProduced log p from rs → AllPairs LiesBefore rs
produced_order log p from [] h = λ i j d lt within. absurd (omega (arith, within))
produced_order log p from (r ∷ rs) (place, some, within, rest) =
    AllPairs-cons LiesBefore r rs (each_all (LiesBefore r) rs (λ s has. behind log r.0.0 r.1.end.0 rs s rest has))
    (produced_order log r.0.0 r.1.end.0 rs rest)

-- each has an offset, within what was produced
abbrev IsProduced : Log → Partition × Range → Type 0
IsProduced log r = (r.1.start.0 < r.1.end.0) × (r.1.end.0 ≤ length (messages_of log r.0))

pub produced_within : (log : Log) (p from : ℕ) (rs : List (Partition × Range)) → AreProduced log p from rs → All (IsProduced log) rs
produced_within log p from [] h = All-nil (IsProduced log)
produced_within log p from (r ∷ rs) (place, some, within, rest) =
    All-cons (IsProduced log) r rs (some, within) (produced_within log r.0.0 r.1.end.0 rs rest)
