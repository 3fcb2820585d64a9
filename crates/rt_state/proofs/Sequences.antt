-- A partition has no more segments than the store has writes.
use Rattle.std.proofs.Common.{◌≡◌, ◌<◌, ◌≤◌, inl, inr, ℕ, ◌+◌, ◌-◌, Bool, true, false, eqb, List, [], ◌∷◌, length, map, refl, sym, ◌∙◌, ap, arith, ⊎_elim}
use Rattle.std.specs.List.{list_any}
use Rattle.std.specs.Prelude.{◌||◌}
use Rattle.std.proofs.lemmas.Bool.{cases_lt, cond-true, eq-eqb}
use Rattle.std.proofs.lemmas.List.{length-map}
use Rattle.std.proofs.lemmas.Map.Steps.{le-length_from_below}
use Rattle.rt_base.specs.declared.numbers.Partition.{Partition}
use Rattle.rt_lists.specs.Members.{Has}
use Rattle.rt_model.proofs.Lawful.{has_chains}
use Rattle.rt_model.specs.Lawful.{IsLawfulHistory}
use Rattle.rt_model.specs.Metadata.{node_key, past_key, sequences_of}
use Rattle.rt_model.specs.Starting.{Starting}
use Rattle.rt_model.specs.declared.node.Seen.{Seen}

abbrev number_in : Partition → Seen → ℕ
number_in p w = past_key p w.key - 1

key_number : (p : Partition) (q : ℕ) (w : Seen) → w.key ≡ node_key p q → q ≡ number_in p w
key_number p q w of = omega (arith, ap (past_key p) of, cond-true (eqb p.0 p.0) (q + 1) 0 (eq-eqb p.0 p.0 refl))

has_number : (p : Partition) (q : ℕ) (h : List Seen) (w : Seen) → Has h w → q ≡ number_in p w → list_any (eqb q) (map (number_in p) h) ≡ true
has_number p q [] w has e = absurd has
has_number p q (v ∷ h) w (inl same) e =
    ap (λ (b : Bool). b || list_any (eqb q) (map (number_in p) h)) (eq-eqb q (number_in p v) (e ∙ ap (number_in p) (sym same)))
has_number p q (v ∷ h) w (inr has) e = by_test (eqb q (number_in p v)) (has_number p q h w has e)
  where
    by_test : (b : Bool) → list_any (eqb q) (map (number_in p) h) ≡ true → (b || list_any (eqb q) (map (number_in p) h)) ≡ true
    by_test true further = refl
    by_test false further = further

-- each segment was written
pub few_segments : (s : Starting) (h : List Seen) (p : Partition) → IsLawfulHistory s h → p.0 < s.partitions → sequences_of h p ≤ length h
few_segments s h p lawful within =
    let chain = has_chains s h lawful p within in
    let few = le-length_from_below (map (number_in p) h) (sequences_of h p)
    (λ n below. let made = chain.created n below in has_number p n h made.0 made.1.has (key_number p n made.0 made.1.is_of)) in
    omega (arith, few, length-map h (number_in p))

-- so that a segment's number is less than the length of the history
pub number_within : (s : Starting) (h : List Seen) (p : Partition) (q : ℕ) (w : Seen) → IsLawfulHistory s h → p.0 < s.partitions → Has h w → w.key ≡ node_key p q
    → q < length h
number_within s h p q w lawful within has of =
    let chain = has_chains s h lawful p within in
    let lt : q < sequences_of h p = ⊎_elim (λ k. k) (λ k. absurd (chain.uncreated q w k has of)) (cases_lt q (sequences_of h p)) in
    omega (arith, lt, few_segments s h p lawful within)
