-- The metadata list of a partition, one present node after another.
use Rattle.std.proofs.Common.{◌≡◌, ℕ, zero, suc, ◌+◌, ◌<◌, ◌≤◌, List, [], ◌∷◌, ◌++◌, Option, Some, None, is_some, option_to_list, Bool, true, false, true≢false, eq-eqb, leb, inl, inr, refl, sym, ap, ◌∙◌, arith, append-nil, add-one}
use Rattle.std.specs.BTreeSet.{BTreeSet}
use Rattle.std.proofs.lemmas.Bool.{cases_Bool, leb-true, leb-false}
use Rattle.std.specs.Prelude.{◌⊎◌}
use Rattle.rt_lists.specs.Members.{Has}
use Rattle.rt_lists.proofs.Members.{place-Has}
use Rattle.rt_base.specs.declared.numbers.Partition.{Partition}
use Rattle.rt_base.specs.declared.numbers.Sequence.{Sequence}
use Rattle.rt_model.specs.declared.node.Key.{Key}
use Rattle.rt_model.specs.declared.node.Seen.{Seen}
use Rattle.rt_model.specs.declared.node.Listed.{Listed}
use Rattle.rt_model.specs.History.{writes_of, value_of}
use Rattle.rt_model.specs.Metadata.{node_key, past_key, sequences_of, listed_in, metadata_below, metadata_of}
use Rattle.rt_model.proofs.Histories.{value_of-last, last_of-place, writes_of-Has}
use Rattle.rt_store.specs.Index.{ArePresent, IsNext}

-- ---- values that were written

-- a value is a write of its key
pub value_has : (h : List Seen) (k : Key) (w : Seen) → value_of h k ≡ Some w → Has h w × (w.key ≡ k)
value_has h k w e =
    let last = value_of-last h k w e in
    let at = last_of-place (writes_of h k) w last.0 in
    writes_of-Has h w k (place-Has (writes_of h k) at.0 w at.2)

reached : (h : List Seen) (p : Partition) (w : Seen) → Has h w → past_key p w.key ≤ sequences_of h p
reached [] p w has = absurd has
reached (v ∷ h) p w (inl e) =
    let same : past_key p v.key ≡ past_key p w.key = ap (λ (x : Seen). past_key p x.key) e in omega (arith, same)
reached (v ∷ h) p w (inr has) = omega (arith, reached h p w has)

past_of_node : (p : Partition) (s : ℕ) → past_key p (node_key p s) ≡ s + 1
past_of_node p s = rw (eq-eqb p.0 p.0 refl)

-- no node at or past the last sequence is there
never_written : (h : List Seen) (p : Partition) (t : ℕ) → sequences_of h p ≤ t → value_of h (node_key p t) ≡ None
never_written h p t le = by_value (value_of h (node_key p t)) refl
  where
    by_value : (o : Option Seen) → value_of h (node_key p t) ≡ o → value_of h (node_key p t) ≡ None
    by_value None e = e
    by_value (Some w) e =
        let has = value_has h (node_key p t) w e in
        let at : past_key p w.key ≡ t + 1 = ap (past_key p) has.1 ∙ past_of_node p t in
        absurd (omega (arith, le, at, reached h p w has.0))

-- ---- sequences of which no node is there

abbrev NoneFrom : List Seen → Partition → ℕ → ℕ → Type 0
NoneFrom h p n m = (t : ℕ) → n ≤ t → t < m → value_of h (node_key p t) ≡ None

-- they add nothing to the list
below_gap : (h : List Seen) (p : Partition) (n m : ℕ) → n ≤ m → NoneFrom h p n m → metadata_below h p m ≡ metadata_below h p n
below_gap h p n zero le none = let same : zero ≡ n = omega (arith, le) in ap (metadata_below h p) same
below_gap h p n (suc m) le none =
    by_place (cases_Bool (leb n m)) (λ low. below_gap h p n m low (λ t from to. none t from (omega (arith, to))))
  where
    by_place : (leb n m ≡ true) ⊎ (leb n m ≡ false) → (n ≤ m → metadata_below h p m ≡ metadata_below h p n) → metadata_below h p (suc m) ≡ metadata_below h p n
    by_place (inl e) further =
        let low : n ≤ m = leb-true n m e in
        ap (λ (o : Option Seen). metadata_below h p m ++ option_to_list (listed_in m o)) (none m low (omega arith))
        ∙ append-nil (metadata_below h p m)
        ∙ further low
    by_place (inr e) further =
        let same : suc m ≡ n = omega (arith, le, leb-false n m e) in ap (metadata_below h p) same

-- and where none is there from a sequence on, the list ends before it
below_all : (h : List Seen) (p : Partition) (n : ℕ) → ((t : ℕ) → n ≤ t → value_of h (node_key p t) ≡ None) → metadata_below h p n ≡ metadata_of h p
below_all h p n none = by_place (cases_Bool (leb n (sequences_of h p)))
  where
    by_place : (leb n (sequences_of h p) ≡ true) ⊎ (leb n (sequences_of h p) ≡ false) → metadata_below h p n ≡ metadata_of h p
    by_place (inl e) =
        sym (below_gap h p n (sequences_of h p) (leb-true n (sequences_of h p) e) (λ t from to. none t from))
    by_place (inr e) =
        let high : sequences_of h p ≤ n = omega (arith, leb-false n (sequences_of h p) e) in
        below_gap h p (sequences_of h p) n high (λ t from to. never_written h p t from)

-- ---- the list so far

-- what is listed before the next node, or all where there is none
abbrev pub ListedTo : List Seen → Partition → List Listed → Option Sequence → Type 0
ListedTo h p nodes None = nodes ≡ metadata_of h p
ListedTo h p nodes (Some next) = nodes ≡ metadata_below h p next.0

absent : (o : Option Seen) (b : Bool) → b ≡ is_some o → b ≡ false → o ≡ None
absent None b e f = refl
absent (Some w) b e f = absurd (true≢false (sym e ∙ f))

pub listed_on : (h : List Seen) (s : BTreeSet Key) (p : Partition) (from : ℕ) (nodes : List Listed) (next : Option Sequence)
    → ArePresent h s → IsNext s p from next → nodes ≡ metadata_below h p from → ListedTo h p nodes next
listed_on h s p from nodes None present none so_far =
    so_far ∙ below_all h p from (λ t le. absent (value_of h (node_key p t)) _ (present (node_key p t)) (none t le))
listed_on h s p from nodes (Some next) present at so_far =
    so_far
    ∙ sym (below_gap h p from next.0 at.0 (λ t le lt. absent (value_of h (node_key p t)) _ (present (node_key p t)) (at.2 t le lt)))

-- one node more
pub listed_more : (h : List Seen) (p : Partition) (s : ℕ) (nodes : List Listed)
    → nodes ≡ metadata_below h p s → nodes ++ option_to_list (listed_in s (value_of h (node_key p s))) ≡ metadata_below h p (s + 1)
listed_more h p s nodes e =
    ap (λ (ls : List Listed). ls ++ option_to_list (listed_in s (value_of h (node_key p s)))) e
    ∙ ap (metadata_below h p) (sym (add-one s))
