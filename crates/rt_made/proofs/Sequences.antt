-- A partition has no more sequences than its history has writes.
use Rattle.std.proofs.Common.{◌≡◌, ◌+◌, ◌<◌, ◌≤◌, ◌==◌, ◌&&◌, ◌⊎◌, inl, inr, ℕ, zero, suc, Bool, true, false, cond, List, [], ◌∷◌, length, refl, sym, ap, ◌∙◌, arith, eq-eqb, lt-ltb, true≢false}
use Rattle.std.specs.Prelude.{nat_lt}
use Rattle.std.proofs.lemmas.Bool.{cases_lt, ltb-true, and_parts}
use Rattle.rt_base.specs.declared.numbers.Offset.{Offset}
use Rattle.rt_base.specs.declared.numbers.Partition.{Partition}
use Rattle.rt_base.specs.declared.numbers.Sequence.{Sequence}
use Rattle.rt_lists.specs.Members.{Has}
use Rattle.rt_model.proofs.Lawful.{has_chains}
use Rattle.rt_model.specs.Chain.{IsChainOf, deletions_of}
use Rattle.rt_model.specs.Lawful.{IsLawfulHistory}
use Rattle.rt_model.specs.Metadata.{node_key, sequences_of}
use Rattle.rt_model.specs.declared.node.Key.{Key}
use Rattle.rt_model.specs.declared.node.Key.TheVariants as key
use Rattle.rt_model.specs.declared.node.Seen.{Seen}
use Rattle.rt_model.specs.Starting.{Starting}
use Rattle.rt_past.specs.Segments.{IsBegun}

-- whether a node is of a sequence below a count
abbrev is_below : Partition → ℕ → Key → Bool
is_below p n (key.Meta q s) = (q.0 == p.0) && nat_lt s.0 n
is_below p n key.Ideal = false
is_below p n (key.Boot i) = false

abbrev one : Bool → ℕ
one b = cond b 1 0

-- the number of writes of such nodes
abbrev written_below : Partition → ℕ → List Seen → ℕ
written_below p n [] = 0
written_below p n (w ∷ ws) = one (is_below p n w.key) + written_below p n ws

one_less : (b c : Bool) → (b ≡ true → c ≡ true) → one b ≤ one c
one_less false true f = omega arith
one_less false false f = omega arith
one_less true true f = omega arith
one_less true false f = absurd (true≢false (sym (f refl)))

below_more : (p : Partition) (n : ℕ) (k : Key) → is_below p n k ≡ true → is_below p (suc n) k ≡ true
below_more p n (key.Meta q s) e =
    let both = and_parts (q.0 == p.0) (nat_lt s.0 n) e in
    let lt = ltb-true s.0 n both.1 in
    (λ i. both.0 i && lt-ltb s.0 (suc n) (omega (arith, lt)) i)
below_more p n key.Ideal e = e
below_more p n (key.Boot i) e = e

count_more : (p : Partition) (n : ℕ) (ws : List Seen) → written_below p n ws ≤ written_below p (suc n) ws
count_more p n [] = omega arith
count_more p n (w ∷ ws) = omega (arith, one_less (is_below p n w.key) (is_below p (suc n) w.key) (below_more p n w.key), count_more p n ws)

not_below : (p : Partition) (n : ℕ) → is_below p n (node_key p n) ≡ false
not_below p n = last (p.0 == p.0) (nat_lt n n) (λ e. let lt = ltb-true n n e in omega arith)
  where
    last : (b c : Bool) → (c ≡ true → ⊥) → (b && c) ≡ false
    last true true f = absurd (f refl)
    last true false f = refl
    last false c f = refl

now_below : (p : Partition) (n : ℕ) → is_below p (suc n) (node_key p n) ≡ true
now_below p n = (λ i. eq-eqb p.0 p.0 refl i && lt-ltb n (suc n) (omega arith) i)

count_one : (p : Partition) (n : ℕ) (ws : List Seen) (w : Seen) → Has ws w → w.key ≡ node_key p n → written_below p n ws + 1 ≤ written_below p (suc n) ws
count_one p n [] w has of = absurd has
count_one p n (x ∷ ws) w (inl same) of =
    let key : x.key ≡ node_key p n = ap (λ (y : Seen). y.key) same ∙ of in
    let before : one (is_below p n x.key) ≡ 0 = ap (λ k. one (is_below p n k)) key ∙ ap one (not_below p n) in
    let now : one (is_below p (suc n) x.key) ≡ 1 = ap (λ k. one (is_below p (suc n) k)) key ∙ ap one (now_below p n) in
    omega (arith, before, now, count_more p n ws)
count_one p n (x ∷ ws) w (inr later) of = omega (arith, one_less (is_below p n x.key) (is_below p (suc n) x.key) (below_more p n x.key), count_one p n ws w later of)

count_all : (p : Partition) (ws : List Seen) (n : ℕ) → ((s : ℕ) → s < n → (w : Seen) × Has ws w × (w.key ≡ node_key p s)) → n ≤ written_below p n ws
count_all p ws zero f = omega arith
count_all p ws (suc n) f =
    let w = f n (omega arith) in
    omega (arith, count_all p ws n (λ s lt. f s (omega (arith, lt))), count_one p n ws w.0 w.1 w.2)

count_length : (p : Partition) (n : ℕ) (ws : List Seen) → written_below p n ws ≤ length ws
count_length p n [] = omega arith
count_length p n (w ∷ ws) = omega (arith, one_at_most (is_below p n w.key), count_length p n ws)
  where
    one_at_most : (b : Bool) → one b ≤ 1
    one_at_most true = omega arith
    one_at_most false = omega arith

chain_few : (h : List Seen) (p : Partition) (lowest count : ℕ) → IsChainOf h p lowest count → count ≤ length h
chain_few h p lowest count chain =
    omega (arith, count_all p h count (λ s lt. let w = chain.created s lt in (w.0, w.1.has, w.1.is_of)), count_length p count h)

-- a segment that began is one of them
pub begun_few : (s : Starting) (h : List Seen) (p : Partition) (q : Sequence) (start : Offset) → IsLawfulHistory s h → p.0 < s.partitions → IsBegun h p q start → q.0 < length h
begun_few s h p q start lawful within (w, has, of, opens) =
    by (cases_lt q.0 (sequences_of h p))
  where
    chain : IsChainOf h p (deletions_of h p) (sequences_of h p)
    chain = has_chains s h lawful p within

    by : (q.0 < sequences_of h p) ⊎ (sequences_of h p ≤ q.0) → q.0 < length h
    by (inl lt) = omega (arith, lt, chain_few h p (deletions_of h p) (sequences_of h p) chain)
    by (inr past) = absurd (chain.uncreated q.0 w past has of)
