-- Targets that are those of a new ideal state stay.
use Rattle.std.proofs.Common.{◌≡◌, ◌==◌, ◌&&◌, Bool, true, false, cond, List, [], ◌∷◌, refl, sym, ap, ◌∙◌, true≢false}
use Rattle.std.specs.Prelude.{IsTrue, if◌then◌else◌}
use Rattle.std.specs.declared.cmp.Ordering.{Ordering}
use Rattle.std.specs.BTreeMap.{insert_entry}
use Rattle.std.specs.List.Sorted.{IsStrictlySortedBy}
use Rattle.std.specs.Map.{keys_of}
use Rattle.std.specs.Ordering.{match_ordering}
use Rattle.std.proofs.lemmas.Bool.{eqb-true}
use Rattle.std.proofs.lemmas.Map.Keys.{sorted_head, sorted_tail}
use Rattle.rt_base.specs.declared.numbers.Instance.{Instance}
use Rattle.rt_base.specs.declared.numbers.Partition.{Partition}
use Rattle.rt_base.specs.declared.numbers.Sequence.{Sequence}
use Rattle.rt_model.specs.declared.ideal_state.IdealEntry.{IdealEntry}
use Rattle.rt_model.specs.declared.ideal_state.Mode.{Mode}
use Rattle.rt_model.specs.declared.ideal_state.Mode.TheVariants.{Consuming, Online, Offline}
use Rattle.rt_model.proofs.Histories.{same_partition, same_sequence}
use Rattle.rt_entry.specs.declared.entry.Entry.{Entry}
use Rattle.rt_server.specs.Calls.{targets_of}
use Rattle.rt_server.specs.Seen.{after_first, are_seen, is_asked, is_first, same_mode}
use Rattle.rt_server.specs.Table.{Segment, Segments, segment_cmp}

-- what is put before all others stands first
pub put_least : {K X : Type 0} (cmp : K → K → Ordering) (k : K) (v : X) (es : List (K × X))
    → IsStrictlySortedBy cmp (k ∷ keys_of es) → insert_entry cmp es k v ≡ (k, v) ∷ es
put_least cmp k v [] s = refl
put_least cmp k v (e ∷ es) s =
    ap (λ o. match_ordering o ((k, v) ∷ e ∷ es) ((e.0, v) ∷ es) (e ∷ insert_entry cmp es k v)) (sorted_head cmp k (keys_of (e ∷ es)) s).0

abbrev put_if : Bool → List (Segment × Mode) → Segment → Mode → List (Segment × Mode)
put_if b ts s mode = cond b (insert_entry segment_cmp ts s mode) ts

abbrev at_segment : Partition → Sequence → Segment
at_segment p q = (p, q)

same_modes : (a b : Mode) → same_mode a b ≡ true → a ≡ b
same_modes Consuming Consuming e = refl
same_modes Consuming Online e = absurd (cc)
same_modes Consuming Offline e = absurd (cc)
same_modes Online Consuming e = absurd (cc)
same_modes Online Online e = refl
same_modes Online Offline e = absurd (cc)
same_modes Offline Consuming e = absurd (cc)
same_modes Offline Online e = absurd (cc)
same_modes Offline Offline e = refl

both_true : (a b : Bool) → (a && b) ≡ true → (a ≡ true) × (b ≡ true)
both_true true b e = (refl, e)
both_true false b e = absurd (cc)

abbrev Asks : IdealEntry → Segment → Mode → Type 0
Asks e s mode = (at_segment e.partition e.sequence ≡ s) × (e.mode ≡ mode)

asked_is : (e : IdealEntry) (s : Segment) (mode : Mode) → is_asked e s mode ≡ true → Asks e s mode
asked_is e s mode h =
    let first = both_true (e.partition.0 == s.0.0) ((e.sequence.0 == s.1.0) && same_mode e.mode mode) h in
    let second = both_true (e.sequence.0 == s.1.0) (same_mode e.mode mode) first.1 in (
      ap (λ p. at_segment p e.sequence) (same_partition e.partition s.0 (eqb-true e.partition.0 s.0.0 first.0))
          ∙ ap (at_segment s.0) (same_sequence e.sequence s.1 (eqb-true e.sequence.0 s.1.0 second.0)),
      same_modes e.mode mode second.1,
    )

abbrev Ascending : List (Segment × Mode) → Type 0
Ascending ts = IsStrictlySortedBy segment_cmp (keys_of ts)

abbrev Stays : Instance → List IdealEntry → Type 0
Stays i es = (ts : List (Segment × Mode)) → are_seen i es ts ≡ true → Ascending ts → targets_of i es ≡ ts

found : (i : Instance) (d : IdealEntry) (es : List IdealEntry) (b : Bool) (t : Segment × Mode) (ts : List (Segment × Mode)) → Stays i es → is_asked d t.0 t.1 ≡ b
    → (if b then are_seen i es ts else false) ≡ true → Ascending (t ∷ ts)
    → insert_entry segment_cmp (targets_of i es) (at_segment d.partition d.sequence) d.mode ≡ t ∷ ts
found i d es true t ts stays is later up =
    let asks = asked_is d t.0 t.1 is in
    ap (λ k. insert_entry segment_cmp (targets_of i es) k d.mode) asks.0
    ∙ ap (insert_entry segment_cmp (targets_of i es) t.0) asks.1
    ∙ ap (λ l. insert_entry segment_cmp l t.0 t.1) (stays ts later (sorted_tail segment_cmp t.0 (keys_of ts) up))
    ∙ put_least segment_cmp t.0 t.1 ts up
found i d es false t ts stays is later up = absurd (true≢false (sym later))

one_more : (i : Instance) (d : IdealEntry) (es : List IdealEntry) (b : Bool) (ts : List (Segment × Mode)) → Stays i es
    → (if (if b then is_first d ts else true) then are_seen i es (if b then after_first ts else ts) else false) ≡ true → Ascending ts
    → put_if b (targets_of i es) (at_segment d.partition d.sequence) d.mode ≡ ts
one_more i d es true [] stays h up = absurd (true≢false (sym h))
one_more i d es true (t ∷ ts) stays h up = found i d es (is_asked d t.0 t.1) t ts stays refl h up
one_more i d es false ts stays h up = stays ts h up

-- targets that an instance's entries are, in order, are those of the instance
pub seen_is : (i : Instance) (es : List IdealEntry) → Stays i es
seen_is i [] [] e up = refl
seen_is i [] (t ∷ ts) e up = absurd (true≢false (sym e))
seen_is i (d ∷ es) ts e up = one_more i d es (d.instance.0 == i.0) ts (seen_is i es) e up

pub seen_by : (i : Instance) (es : List IdealEntry) (ts : List (Segment × Mode)) (seen : Bool) → seen ≡ are_seen i es ts → Ascending ts → IsTrue seen → targets_of i es ≡ ts
seen_by i es ts seen is up same = seen_is i es ts (sym is ∙ same) up

abbrev segments : List (Segment × Mode) → List (Segment × Entry) → Segments
segments targets entries = record { targets = targets; entries = entries }

pub same_table : (old : Segments) (ts : List (Segment × Mode)) → ts ≡ old.targets → old ≡ record old { targets = ts }
same_table old ts same = ap (λ l. segments l old.entries) (sym same)
