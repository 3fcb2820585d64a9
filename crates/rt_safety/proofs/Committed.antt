-- A committed range stays committed until it lies below the mark.
use Rattle.std.proofs.Common.{◌≡◌, ℕ, zero, suc, ◌<◌, ◌≤◌, ◌⊎◌, inl, inr, List, [], ◌∷◌, ◌++◌, sym, ◌∙◌, ap, subst, arith}
use Rattle.std.proofs.lemmas.Bool.{cases_lt}
use Rattle.std.proofs.lemmas.List.Elements.{filter_map-append}
use Rattle.rt_base.specs.declared.numbers.Partition.{Partition}
use Rattle.rt_base.specs.declared.range.Range.{Range}
use Rattle.rt_lists.specs.Members.{Has}
use Rattle.rt_lists.proofs.Members.{Has-append_left, Has-append_right, Has-append_cases, Has-same}
use Rattle.rt_model.specs.declared.node.Seen.{Seen}
use Rattle.rt_model.specs.Lawful.{IsLawfulHistory}
use Rattle.rt_model.specs.Metadata.{life_of, node_key, sequences_of}
use Rattle.rt_model.specs.Starting.{Starting}
use Rattle.rt_model.specs.Tiled.{Tiles, committed_of, done_range, done_ranges_below, done_ranges_in, done_ranges_of, mark_of}
use Rattle.rt_model.proofs.Histories.{writes_of-append}
use Rattle.rt_model.proofs.Lawful.{has_tiles, marks_rise}
use Rattle.rt_model.proofs.Tilings.{Tiles-le}
use Rattle.rt_safety.specs.Later.{KeepsCommitted}

-- ---- the ranges of all Done writes

sequences_grow : (h more : List Seen) (p : Partition) → sequences_of h p ≤ sequences_of (h ++ more) p
sequences_grow [] more p = omega arith
sequences_grow (w ∷ h) more p = omega (arith, sequences_grow h more p)

-- a range is that of some segment
of_segment : (h : List Seen) (p : Partition) (n : ℕ) (r : Range) → Has (done_ranges_below h p n) r → (s : ℕ) × (s < n) × Has (done_ranges_in (life_of h p s)) r
of_segment h p zero r has = absurd has
of_segment h p (suc n) r has =
    by_place (λ k. of_segment h p n r k) (Has-append_cases (done_ranges_below h p n) (done_ranges_in (life_of h p n)) r has)
  where
    by_place : (Has (done_ranges_below h p n) r → (s : ℕ) × (s < n) × Has (done_ranges_in (life_of h p s)) r)
        → Has (done_ranges_below h p n) r ⊎ Has (done_ranges_in (life_of h p n)) r → (s : ℕ) × (s < suc n) × Has (done_ranges_in (life_of h p s)) r
    by_place further (inl k) = let x = further k in (x.0, omega (arith, x.1), x.2)
    by_place further (inr k) = (n, omega arith, k)

-- and that of a segment is among all
pub among_all : (h : List Seen) (p : Partition) (n s : ℕ) (r : Range) → s < n → Has (done_ranges_in (life_of h p s)) r → Has (done_ranges_below h p n) r
among_all h p zero s r lt has = absurd (omega (arith, lt))
among_all h p (suc n) s r lt has = by_order (λ k. among_all h p n s r k has) (cases_lt s n)
  where
    by_order : (s < n → Has (done_ranges_below h p n) r) → (s < n) ⊎ (n ≤ s) → Has (done_ranges_below h p (suc n)) r
    by_order further (inl k) = Has-append_left (done_ranges_below h p n) (done_ranges_in (life_of h p n)) r (further k)
    by_order further (inr k) =
        let last : s ≡ n = omega (arith, lt, k) in
        Has-append_right (done_ranges_below h p n) (done_ranges_in (life_of h p n)) r (subst (λ m. Has (done_ranges_in (life_of h p m)) r) last has)

life_grows : (h more : List Seen) (p : Partition) (s : ℕ) (r : Range) → Has (done_ranges_in (life_of h p s)) r → Has (done_ranges_in (life_of (h ++ more) p s)) r
life_grows h more p s r has =
    Has-same (done_ranges_in (life_of h p s) ++ done_ranges_in (life_of more p s)) (done_ranges_in (life_of (h ++ more) p s)) r
    (sym (ap done_ranges_in (writes_of-append h more (node_key p s)) ∙ filter_map-append (λ (w : Seen). done_range w.node) (life_of h p s) (life_of more p s)))
    (Has-append_left (done_ranges_in (life_of h p s)) (done_ranges_in (life_of more p s)) r has)

ranges_grow : (h more : List Seen) (p : Partition) (r : Range) → Has (done_ranges_of h p) r → Has (done_ranges_of (h ++ more) p) r
ranges_grow h more p r has =
    let x = of_segment h p (sequences_of h p) r has in
    among_all (h ++ more) p (sequences_of (h ++ more) p) x.0 r (omega (arith, x.1, sequences_grow h more p)) (life_grows h more p x.0 r x.2)

-- ---- those below the mark

ends_before : (from to : ℕ) (rs : List Range) (r : Range) → Tiles from rs to → Has rs r → r.end.0 ≤ to
ends_before from to [] r t has = absurd has
ends_before from to (x ∷ rs) r t (inl same) = let le = Tiles-le x.end.0 to rs t.2 in omega (arith, le, ap (λ (y : Range). y.end.0) same)
ends_before from to (x ∷ rs) r t (inr has) = ends_before x.end.0 to rs r t.2 has

-- ---- as a history goes on

pub keeps_committed : (s : Starting) (h more : List Seen) (p : Partition) → p.0 < s.partitions → IsLawfulHistory s h → IsLawfulHistory s (h ++ more)
    → KeepsCommitted h (h ++ more) p
keeps_committed s h more p within lawful later =
    let k = h ++ more in
    let old = (has_tiles s h lawful p within).1 in
    let new = (has_tiles s k later p within).1 in
    record {
      mark = marks_rise s h more lawful later p within;
      ranges =
          λ r has. by_place r new.retired
          (Has-append_cases new.retired (committed_of k p) r
          (Has-same (done_ranges_of k p) (new.retired ++ committed_of k p) r new.suffix
          (ranges_grow h more p r
          (Has-same (old.retired ++ committed_of h p) (done_ranges_of h p) r (sym old.suffix) (Has-append_right old.retired (committed_of h p) r has)))))
          new.below_mark;
    }
  where
    by_place : (r : Range) → (retired : List Range) → Has retired r ⊎ Has (committed_of (h ++ more) p) r → Tiles 0 retired (mark_of (h ++ more) p)
        → Has (committed_of (h ++ more) p) r ⊎ (r.end.0 ≤ mark_of (h ++ more) p)
    by_place r retired (inl has) below = inr (ends_before 0 (mark_of (h ++ more) p) retired r below has)
    by_place r retired (inr has) below = inl has
