-- A walk of a table's entries, which meets those of some segments.
use Rattle.std.proofs.Common.{◌≡◌, ◌∙◌, ◌&&◌, Bool, true, false, nat_eq, List, ◌∷◌, Option, Some, None, refl, sym, ap, subst}
use Rattle.std.proofs.lemmas.Bool.{eqb-true}
use Rattle.std.specs.Borrow.{Bor}
use Rattle.std.specs.Map.Iter.{TakesFirst, deref_pair}
use Rattle.std.specs.BTreeMap.Range.{IsEntryInRange, IsRangeOf}
use Rattle.std.specs.BTreeMap.{BTreeMap}
use Rattle.std.specs.declared.ops.Bound.{Bound}
use Rattle.std.proofs.lemmas.List.Elements.{All-head, All-tail, All-weaker}
use Rattle.rt_model.specs.declared.ideal_state.Mode.{Mode}
use Rattle.rt_model.proofs.Histories.{same_partition, same_sequence}
use Rattle.rt_entry.specs.Entry.{replica_in}
use Rattle.rt_entry.specs.declared.entry.Entry.{Entry}
use Rattle.rt_server.specs.Resting.{IsEntryOf, IsWalk, rests_at, rests_by}
use Rattle.rt_server.specs.Table.{Segment, Segments, entry_of, replica_at, segment_cmp}

abbrev table : List (Segment × Mode) → BTreeMap Segment Entry → Segments
table targets m = record { targets = targets; entries = m.entries }

-- what lies in a range is a walk
pub range_walks : (targets : List (Segment × Mode)) (m : BTreeMap Segment Entry) (lo hi : Bound Segment) (r : List (Segment × Entry))
    → IsRangeOf segment_cmp lo hi m r → IsWalk (table targets m) r
range_walks targets m lo hi r is = All-weaker (IsEntryInRange segment_cmp lo hi m) (IsEntryOf (table targets m)) (λ e entry. entry.1) r is.0

-- so is what is left of a walk
pub goes_on : (t : Segments) (all later : List (Segment × Entry)) (next : Option (Bor Segment × Bor Entry))
    → TakesFirst deref_pair all next later → IsWalk t all → IsWalk t later
goes_on t all later None took is = subst (IsWalk t) (took.0 ∙ sym took.1) is
goes_on t all later (Some n) took is = All-tail (IsEntryOf t) (deref_pair n) later (subst (IsWalk t) took is)

both : (a b : Bool) → (a && b) ≡ true → (a ≡ true) × (b ≡ true)
both true true e = (refl, refl)
both true false e = absurd (cc)
both false b e = absurd (cc)

-- and where it came to the segment, the entry is the segment's
pub came_to : (t : Segments) (all later : List (Segment × Entry)) (found : Segment) (entry : Entry) (s : Segment)
    → (nat_eq found.0.0 s.0.0 && nat_eq found.1.0 s.1.0) ≡ true → all ≡ (found, entry) ∷ later → IsWalk t all → rests_by (replica_in entry) ≡ rests_at t s
came_to t all later found entry s e took is =
    let same = both (nat_eq found.0.0 s.0.0) (nat_eq found.1.0 s.1.0) e in
    let is_there : entry_of t found.0 found.1 ≡ Some entry = All-head (IsEntryOf t) (found, entry) later (subst (IsWalk t) took is) in
    ap (λ o. rests_by (replica_at o))
    (sym is_there
    ∙ ap (λ p. entry_of t p found.1) (same_partition found.0 s.0 (eqb-true found.0.0 s.0.0 same.0))
    ∙ ap (entry_of t s.0) (same_sequence found.1 s.1 (eqb-true found.1.0 s.1.0 same.1)))
