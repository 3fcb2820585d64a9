-- Which rows of a sequence there are, and that they are no more than their numbers.
use Rattle.std.proofs.Common.{◌≡◌, ℕ, ◌+◌, ◌<◌, ◌≤◌, Bool, true, false, cond, ◌&&◌, ◌==◌, [], ◌∷◌, length, map, filter, Option, Some, None, IfSome, true≢false, Ordering, Less, Equal, Greater, nat_le, nat_cmp, refl, sym, ap, ◌∙◌, subst, arith}
use Rattle.std.specs.Prelude.{is_some}
use Rattle.std.specs.List.{AllByRecursion}
use Rattle.std.specs.List.Sorted.{IsStrictlySortedBy}
use Rattle.std.specs.Map.{keys_of}
use Rattle.std.specs.BTreeMap.{BTreeMap, get, IsOrdered}
use Rattle.std.proofs.lemmas.Bool.{eqb-true, leb-true, eq-eqb, le-leb, and_from}
use Rattle.std.proofs.lemmas.List.Elements.{recursion_from_All}
use Rattle.std.proofs.lemmas.Map.Keys.{sorted_head, sorted_tail}
use Rattle.std.proofs.lemmas.Map.Views.{All-found}
use Rattle.std.proofs.lemmas.Cmp.{nat_cmp_total, on_total, then_total, ranked}
use Rattle.std.specs.Cmp.{IsTotalOrder}
use Rattle.std.specs.Ordering.{ordering_then, MatchOrdering}
use Rattle.rt_base.specs.declared.numbers.Sequence.{Sequence}
use Rattle.rt_upsert.specs.declared.held.Held.{Held}
use Rattle.rt_upsert.specs.declared.place.Place.{Place}
use Rattle.rt_upsert.specs.Changes.{IsNext}
use Rattle.rt_upsert.specs.Index.{placed}
use Rattle.rt_upsert.specs.Placed.{Placed, place_cmp, is_out}
use Rattle.rt_upsert.specs.Ranked.{Follows}
use Rattle.rt_upsert.proofs.Changing.{Entries, held_is}

pub place_total : IsTotalOrder place_cmp
place_total = then_total (on_total (λ (p : Place). p.sequence.0) nat_cmp_total) (on_total (λ (p : Place). p.row) nat_cmp_total)

-- what stands in the map is what a look-up finds
abbrev pub IsFound : BTreeMap Place Held → Place × Held → Type 0
IsFound rows e = get place_cmp rows e.0 ≡ Some e.1

pub all_found : (rows : BTreeMap Place Held) → IsOrdered place_cmp rows → AllByRecursion (IsFound rows) rows.entries
all_found rows o = recursion_from_All (IsFound rows) rows.entries (All-found place_total rows o)

first_part : (a b : Bool) → (a && b) ≡ true → a ≡ true
first_part true b h = refl
first_part false b h = h

second_part : (a b : Bool) → (a && b) ≡ true → b ≡ true
second_part true b h = h
second_part false b h = absurd (true≢false (sym h))

module _ (sequence : Sequence) (from : ℕ) where
  out_sequence : (x : Placed) → is_out sequence from x ≡ true → sequence.0 ≡ x.place.sequence.0
  out_sequence x h = eqb-true sequence.0 x.place.sequence.0 (first_part (sequence.0 == x.place.sequence.0) (nat_le from x.place.row) h)

  out_row : (x : Placed) → is_out sequence from x ≡ true → from ≤ x.place.row
  out_row x h = leb-true from x.place.row (second_part (sequence.0 == x.place.sequence.0) (nat_le from x.place.row) h)

  -- ---- the next row

  none_follows : (rows : BTreeMap Place Held) (es : Entries) → Follows rows sequence from None → AllByRecursion (IsFound rows) es → filter (is_out sequence from) (map placed es) ≡ []
  none_follows rows [] f h = refl
  none_follows rows (e ∷ es) f h = by (none_follows rows es f h.1) (is_out sequence from (placed e)) refl
    where
      lost : is_out sequence from (placed e) ≡ true → ⊥
      lost o = true≢false (ap is_some (sym h.0 ∙ f e.0 (λ i. record { 0 = sym (out_sequence (placed e) o) i }) (out_row (placed e) o)))

      by : filter (is_out sequence from) (map placed es) ≡ [] → (b : Bool) → is_out sequence from (placed e) ≡ b → cond b (placed e ∷ filter (is_out sequence from) (map placed es)) (filter (is_out sequence from) (map placed es)) ≡ []
      by rest true o = absurd (lost o)
      by rest false o = rest

  eq_self : (n : ℕ) → (n == n) ≡ true
  eq_self n = eq-eqb n n refl

  le_is : (m n : ℕ) → m ≤ n → nat_le m n ≡ true
  le_is m n h = le-leb m n h

  pub next_is : (rows : BTreeMap Place Held) (next : Option Place) → IsOrdered place_cmp rows → Follows rows sequence from next → IsNext (map placed rows.entries) sequence from next
  next_is rows None o f = none_follows rows rows.entries f (all_found rows o)
  next_is rows (Some place) o f = (
    held_is place rows.entries ∙ f.2,
    λ row. and_from (sequence.0 == place.sequence.0) (nat_le from place.row) (ap (λ (s : Sequence). sequence.0 == s.0) f.0 ∙ eq_self sequence.0) (le_is from place.row f.1),
  )

  -- ---- how many there are

  abbrev IsBelow : Place × Held → Type 0
  IsBelow e = e.0.row < 4294967295

  abbrev IsPast : ℕ → Place × Held → Type 0
  IsPast low e = is_out sequence from (placed e) ≡ true → low ≤ e.0.row

  few_from : (low : ℕ) (es : Entries) → low ≤ 4294967295 → AllByRecursion IsBelow es → AllByRecursion (IsPast low) es → IsStrictlySortedBy place_cmp (keys_of es)
      → length (filter (is_out sequence from) (map placed es)) + low ≤ 4294967295
  few_from low [] top below past o = omega arith
  few_from low (e ∷ es) top below past o =
      by (λ more limit above. few_from more es limit below.1 above (sorted_tail place_cmp e.0 (keys_of es) o)) (is_out sequence from (placed e)) refl
    where
      above : (p q : Place) → place_cmp p q ≡ Less → p.sequence.0 ≡ q.sequence.0 → p.row + 1 ≤ q.row
      above p q less same = by_row (nat_cmp p.sequence.0 q.sequence.0) (ranked p.sequence.0 q.sequence.0 _ refl) less
        where
          by_row : (c : Ordering) → MatchOrdering c (p.sequence.0 < q.sequence.0) (p.sequence.0 ≡ q.sequence.0) (q.sequence.0 < p.sequence.0) → ordering_then c (nat_cmp p.row q.row) ≡ Less → p.row + 1 ≤ q.row
          by_row Less m g = absurd (omega (arith, m, same))
          by_row Equal m g = let h : p.row < q.row = ranked p.row q.row Less (sym g) in omega (arith, h)
          by_row Greater m g = absurd (cc)

      later : (fs : Entries) → is_out sequence from (placed e) ≡ true → AllByRecursion (λ q. place_cmp e.0 q ≡ Less) (keys_of fs) → AllByRecursion (IsPast (e.0.row + 1)) fs
      later [] h a = tt
      later (f ∷ fs) h a = (λ g. above e.0 f.0 a.0 (sym (out_sequence (placed e) h) ∙ out_sequence (placed f) g), later fs h a.1)

      by : ((more : ℕ) → more ≤ 4294967295 → AllByRecursion (IsPast more) es → length (filter (is_out sequence from) (map placed es)) + more ≤ 4294967295)
          → (b : Bool) → is_out sequence from (placed e) ≡ b
          → length (cond b (placed e ∷ filter (is_out sequence from) (map placed es)) (filter (is_out sequence from) (map placed es))) + low ≤ 4294967295
      by count true h =
          let here : low ≤ e.0.row = past.0 h in
          let room : e.0.row < 4294967295 = below.0 in
          let rest : length (filter (is_out sequence from) (map placed es)) + (e.0.row + 1) ≤ 4294967295 =
          count (e.0.row + 1) (omega (arith, room)) (later es h (sorted_head place_cmp e.0 (keys_of es) o)) in
          omega (arith, here, rest)
      by count false h = count low top past.1

  all_past : (es : Entries) → AllByRecursion (IsPast 0) es
  all_past [] = tt
  all_past (e ∷ es) = ((λ h. omega arith), all_past es)

  all_below : (rows : BTreeMap Place Held) (es : Entries) → ((place : Place) → IfSome (get place_cmp rows place) (λ held. place.row < 4294967295)) → AllByRecursion (IsFound rows) es → AllByRecursion IsBelow es
  all_below rows [] small h = tt
  all_below rows (e ∷ es) small h = (subst (λ o. IfSome o (λ (held : Held). e.0.row < 4294967295)) h.0 (small e.0), all_below rows es small h.1)

  pub few_out : (rows : BTreeMap Place Held) → IsOrdered place_cmp rows → ((place : Place) → IfSome (get place_cmp rows place) (λ held. place.row < 4294967295))
      → length (filter (is_out sequence from) (map placed rows.entries)) ≤ 4294967295
  few_out rows o small =
      let all : length (filter (is_out sequence from) (map placed rows.entries)) + 0 ≤ 4294967295 =
      few_from 0 rows.entries (omega arith) (all_below rows rows.entries small (all_found rows o)) (all_past rows.entries) o in
      omega (arith, all)
