-- The lists of segments have those that the single tests tell, and targets are what the ideal state asks.
use Rattle.std.proofs.Common.{◌≡◌, ◌==◌, ◌&&◌, ◌||◌, inl, inr, Bool, true, false, cond, List, [], ◌∷◌, Option, Some, None, is_some, refl, sym, ap, subst, ◌∙◌, true≢false}
use Rattle.std.specs.Prelude.{◌↔◌}
use Rattle.std.specs.declared.cmp.Ordering.{Ordering}
use Rattle.std.specs.declared.cmp.Ordering.TheVariants.{Less, Equal, Greater}
use Rattle.std.specs.BTreeMap.{insert_entry}
use Rattle.std.specs.List.{filter}
use Rattle.std.specs.Map.{keys_of, lookup}
use Rattle.std.specs.Ordering.{match_ordering}
use Rattle.std.proofs.lemmas.Bool.{eq-eqb, eqb-true}
use Rattle.std.proofs.lemmas.Cmp.{tied_itself}
use Rattle.rt_base.specs.declared.numbers.Instance.{Instance}
use Rattle.rt_base.specs.declared.numbers.Partition.{Partition}
use Rattle.rt_base.specs.declared.numbers.Sequence.{Sequence}
use Rattle.rt_lists.specs.Members.{Has}
use Rattle.rt_model.specs.declared.ideal_state.IdealEntry.{IdealEntry}
use Rattle.rt_model.specs.Ideal.{is_of, mode_of}
use Rattle.rt_model.proofs.Histories.{same_partition, same_sequence}
use Rattle.rt_entry.specs.declared.entry.Entry.{Entry}
use Rattle.rt_entry.specs.Entry.{is_replica, is_wanting}
use Rattle.rt_server.specs.Calls.{targets_of}
use Rattle.rt_server.specs.Due.{due_of, held_of, segments_where, wanted_of}
use Rattle.rt_server.specs.Table.{Segment, Segments, entry_of, is_segment, replica_at, replica_of, segment_cmp, wants_at}
use Rattle.rt_server.specs.Transition.{transit_due}
use Rattle.rt_server.proofs.LastingTables.{segment_exact, segment_total}
use Rattle.rt_server.proofs.Merge.{Ascending, Below, first_below, has, has_due, is_it, it_is, itself, later_ascend, lookup_below, none_ascend, then_ascend}

-- ---- what a list has

has_true : (xs : List Segment) (s : Segment) → has xs s ≡ true → Has xs s
has_true [] s e = absurd (true≢false (sym e))
has_true (x ∷ xs) s e = by (is_it s x) refl e (has_true xs s)
  where
    by : (b : Bool) → is_it s x ≡ b → (b || has xs s) ≡ true → (has xs s ≡ true → Has xs s) → Has (x ∷ xs) s
    by true c h further = inl (sym (it_is s x c))
    by false c h further = inr (further h)

or_true : (a : Bool) → (a || true) ≡ true
or_true true = refl
or_true false = refl

true_has : (xs : List Segment) (s : Segment) → Has xs s → has xs s ≡ true
true_has [] s h = absurd h
true_has (x ∷ xs) s (inl same) = ap (λ b. b || has xs s) (ap (is_it s) same ∙ itself s)
true_has (x ∷ xs) s (inr h) = ap (λ b. is_it s x || b) (true_has xs s h) ∙ or_true (is_it s x)

told_by : (xs : List Segment) (s : Segment) (b : Bool) → has xs s ≡ b → Has xs s ↔ (b ≡ true)
told_by xs s b e = (λ h. sym e ∙ true_has xs s h, λ h. has_true xs s (e ∙ h))

pub due_has : (t : Segments) (p : Partition) (q : Sequence) → Has (due_of t) (p, q) ↔ (transit_due t p q ≡ true)
due_has t p q = told_by (due_of t) (p, q) (transit_due t p q) (has_due t (p, q))

-- ---- segments whose entries are of some kind

abbrev told_at : (Entry → Bool) → Option Entry → Bool
told_at test None = false
told_at test (Some e) = test e

none_told : (test : Entry → Bool) (o : Option Entry) → o ≡ None → told_at test o ≡ false
none_told test o e = ap (told_at test) e

where_has : (test : Entry → Bool) (es : List (Segment × Entry)) (s : Segment) → Ascending (keys_of es)
    → has (segments_where test es) s ≡ told_at test (lookup (is_segment s.0 s.1) es)
where_has test [] s up = refl
where_has test (e ∷ es) s up = by (test e.1) (is_it s e.0) refl refl (where_has test es s (later_ascend e.0 (keys_of es) up))
  where
    gone : is_it s e.0 ≡ true → lookup (is_segment s.0 s.1) es ≡ None
    gone c = lookup_below es s (subst (λ z. Below z (keys_of es)) (sym (it_is s e.0 c)) (first_below e.0 (keys_of es) up))

    by : (b c : Bool) → test e.1 ≡ b → is_it s e.0 ≡ c → has (segments_where test es) s ≡ told_at test (lookup (is_segment s.0 s.1) es)
        → has (keys_of (cond b (e ∷ filter (λ x. test x.1) es) (filter (λ x. test x.1) es))) s
        ≡ told_at test (cond c (Some e.1) (lookup (is_segment s.0 s.1) es))
    by true true t c f = ap (λ z. z || has (segments_where test es) s) c ∙ sym t
    by true false t c f = ap (λ z. z || has (segments_where test es) s) c ∙ f
    by false true t c f = f ∙ none_told test (lookup (is_segment s.0 s.1) es) (gone c) ∙ sym t
    by false false t c f = f

where_below : (test : Entry → Bool) (es : List (Segment × Entry)) (s : Segment) → Below s (keys_of es) → Below s (segments_where test es)
where_below test [] s below = below
where_below test (e ∷ es) s below = by (test e.1) (where_below test es s below.1)
  where
    by : (b : Bool) → Below s (segments_where test es) → Below s (keys_of (cond b (e ∷ filter (λ x. test x.1) es) (filter (λ x. test x.1) es)))
    by true f = (below.0, f)
    by false f = f

pub where_ascends : (test : Entry → Bool) (es : List (Segment × Entry)) → Ascending (keys_of es) → Ascending (segments_where test es)
where_ascends test [] up = none_ascend
where_ascends test (e ∷ es) up = by (test e.1) (where_ascends test es (later_ascend e.0 (keys_of es) up))
  where
    by : (b : Bool) → Ascending (segments_where test es) → Ascending (keys_of (cond b (e ∷ filter (λ x. test x.1) es) (filter (λ x. test x.1) es)))
    by true f = then_ascend e.0 (segments_where test es) (where_below test es e.0 (first_below e.0 (keys_of es) up)) f
    by false f = f

wants_told : (o : Option Entry) → told_at is_wanting o ≡ wants_at o
wants_told None = refl
wants_told (Some e) = refl

holds_told : (o : Option Entry) → told_at is_replica o ≡ is_some (replica_at o)
holds_told None = refl
holds_told (Some e) = refl

pub wanted_has : (t : Segments) (p : Partition) (q : Sequence) → Ascending (keys_of t.entries) → Has (wanted_of t) (p, q) ↔ (wants_at (entry_of t p q) ≡ true)
wanted_has t p q up =
    told_by (wanted_of t) (p, q) (wants_at (entry_of t p q)) (where_has is_wanting t.entries (p, q) up ∙ wants_told (entry_of t p q))

pub held_has : (t : Segments) (p : Partition) (q : Sequence) → Ascending (keys_of t.entries) → Has (held_of t) (p, q) ↔ (is_some (replica_of t p q) ≡ true)
held_has t p q up =
    told_by (held_of t) (p, q) (is_some (replica_of t p q)) (where_has is_replica t.entries (p, q) up ∙ holds_told (entry_of t p q))

-- ---- a value that was put

equal_greater : Equal ≡ Greater → ⊥
equal_greater e = cc

pub lookup_put : {X : Type 0} (es : List (Segment × X)) (k s : Segment) (v : X)
    → lookup (is_segment s.0 s.1) (insert_entry segment_cmp es k v) ≡ cond (is_it s k) (Some v) (lookup (is_segment s.0 s.1) es)
lookup_put [] k s v = refl
lookup_put {X} (e ∷ es) k s v = by (segment_cmp k e.0) refl (lookup_put es k s v)
  where
    twice : (b : Bool) → cond b (Some v) (lookup (is_segment s.0 s.1) es) ≡ cond b (Some v) (cond b (Some e.1) (lookup (is_segment s.0 s.1) es))
    twice true = refl
    twice false = refl

    apart : k ≡ e.0 → segment_cmp k e.0 ≡ Greater → ⊥
    apart same gt = equal_greater (sym (ap (segment_cmp k) (sym same) ∙ tied_itself segment_total k) ∙ gt)

    swapped : (a b : Bool) → is_it s k ≡ a → is_it s e.0 ≡ b → segment_cmp k e.0 ≡ Greater
        → cond b (Some e.1) (cond a (Some v) (lookup (is_segment s.0 s.1) es)) ≡ cond a (Some v) (cond b (Some e.1) (lookup (is_segment s.0 s.1) es))
    swapped true true c d gt = absurd (apart (sym (it_is s k c) ∙ it_is s e.0 d) gt)
    swapped true false c d gt = refl
    swapped false b c d gt = refl

    by : (o : Ordering) → segment_cmp k e.0 ≡ o
        → lookup (is_segment s.0 s.1) (insert_entry segment_cmp es k v) ≡ cond (is_it s k) (Some v) (lookup (is_segment s.0 s.1) es)
        → lookup (is_segment s.0 s.1) (match_ordering o ((k, v) ∷ e ∷ es) ((e.0, v) ∷ es) (e ∷ insert_entry segment_cmp es k v))
        ≡ cond (is_it s k) (Some v) (cond (is_it s e.0) (Some e.1) (lookup (is_segment s.0 s.1) es))
    by Less c f = refl
    by Equal c f =
        twice (is_it s e.0) ∙ ap (λ z. cond (is_it s z) (Some v) (cond (is_it s e.0) (Some e.1) (lookup (is_segment s.0 s.1) es))) (sym (segment_exact k e.0 c))
    by Greater c f = ap (λ z. cond (is_it s e.0) (Some e.1) z) f ∙ swapped (is_it s k) (is_it s e.0) refl refl c

-- ---- the targets of an ideal state

both : (a b : Bool) → (a && b) ≡ true → (a ≡ true) × (b ≡ true)
both true b e = (refl, e)
both false b e = absurd (cc)

named : (p : Partition) (q : Sequence) (e : IdealEntry) → is_it (p, q) (e.partition, e.sequence) ≡ is_of p q e
named p q e = by (is_it (p, q) (e.partition, e.sequence)) (is_of p q e) refl refl
  where
    forth : is_it (p, q) (e.partition, e.sequence) ≡ true → is_of p q e ≡ true
    forth c =
        let same = it_is (p, q) (e.partition, e.sequence) c in
        rw (
          eq-eqb e.partition.0 p.0 (ap (λ (s : Segment). s.0.0) (sym same)),
          eq-eqb e.sequence.0 q.0 (ap (λ (s : Segment). s.1.0) (sym same)),
        ) refl

    back : is_of p q e ≡ true → is_it (p, q) (e.partition, e.sequence) ≡ true
    back c =
        let parts = both (e.partition.0 == p.0) (e.sequence.0 == q.0) c in
        ap (λ x. is_it (p, q) (x, e.sequence)) (same_partition e.partition p (eqb-true e.partition.0 p.0 parts.0))
        ∙ ap (λ y. is_it (p, q) (p, y)) (same_sequence e.sequence q (eqb-true e.sequence.0 q.0 parts.1))
        ∙ itself (p, q)

    by : (a b : Bool) → is_it (p, q) (e.partition, e.sequence) ≡ a → is_of p q e ≡ b → is_it (p, q) (e.partition, e.sequence) ≡ is_of p q e
    by true b c d = c ∙ sym (forth c)
    by false true c d = back d ∙ sym d
    by false false c d = c ∙ sym d

pub targets_tell : (i : Instance) (es : List IdealEntry) (p : Partition) (q : Sequence) → lookup (is_segment p q) (targets_of i es) ≡ mode_of es p q i
targets_tell i [] p q = refl
targets_tell i (e ∷ es) p q = by (e.instance.0 == i.0) (is_of p q e) refl (targets_tell i es p q)
  where
    by : (b c : Bool) → is_of p q e ≡ c → lookup (is_segment p q) (targets_of i es) ≡ mode_of es p q i
        → lookup (is_segment p q) (cond b (insert_entry segment_cmp (targets_of i es) (e.partition, e.sequence) e.mode) (targets_of i es))
        ≡ cond (c && b) (Some e.mode) (mode_of es p q i)
    by true true d f =
        lookup_put (targets_of i es) (e.partition, e.sequence) (p, q) e.mode
        ∙ ap (λ z. cond z (Some e.mode) (lookup (is_segment p q) (targets_of i es))) (named p q e ∙ d)
    by true false d f =
        lookup_put (targets_of i es) (e.partition, e.sequence) (p, q) e.mode
        ∙ ap (λ z. cond z (Some e.mode) (lookup (is_segment p q) (targets_of i es))) (named p q e ∙ d) ∙ f
    by false true d f = f
    by false false d f = f
