-- What each ideal state of a lawful history has: what the starting one has, and each lawful step keeps.
use Rattle.std.proofs.Common.{◌≡◌, ℕ, zero, suc, ◌+◌, ◌<◌, ◌≤◌, Bool, true, false, not, ◌⊎◌, inl, inr, List, [], ◌∷◌, ◌++◌, length, refl, sym, ◌∙◌, ap, subst, arith}
use Rattle.std.proofs.lemmas.Bool.{cases_eq, cases_lt, false_from_ne_true, not_from_false}
use Rattle.std.proofs.lemmas.List.{append-nil, append_assoc}
use Rattle.rt_base.specs.declared.numbers.Instance.{Instance}
use Rattle.rt_base.specs.declared.numbers.Partition.{Partition}
use Rattle.rt_base.specs.declared.numbers.Sequence.{Sequence}
use Rattle.rt_lists.specs.Members.{Has}
use Rattle.rt_lists.proofs.Members.{Has-append_left, Has-push_cases, filter-Has}
use Rattle.rt_model.specs.declared.ideal_state.IdealEntry.{IdealEntry}
use Rattle.rt_model.specs.declared.node.Key.TheVariants as key
use Rattle.rt_model.specs.declared.node.Node.{Node}
use Rattle.rt_model.specs.declared.node.Seen.{Seen}
use Rattle.rt_model.specs.Entries.{entries_by, IsIdealWrite, HasEntry}
use Rattle.rt_model.specs.Ideal.{is_of, has_entry, consuming, with_consuming, commit_step_of, add_consuming_of, set_offline_of, remove_segment_of}
use Rattle.rt_model.specs.Lawful.{Write, create, set, delete, create_after, bump, IsLawful, IsLawfulCreate, IsAfter, Sets, Retires, written_by, IsIdealStep, commits, adds, turns_offline, removes, IsLawfulStep, AreLawfulAfter, IsLawfulHistory}
use Rattle.rt_model.specs.Laws.{HasOrderedEntries, HasEveryPartition}
use Rattle.rt_model.specs.Order.{IsAscending}
use Rattle.rt_model.specs.Starting.{Starting, IsAssigned, starting_entries, starting_ideal, starting_contents}
use Rattle.rt_model.proofs.Ascending.{ascending_once, consuming_ascends, commit_ascends, add_ascends, offline_ascends, remove_ascends}
use Rattle.rt_model.proofs.Entries.{Names, entry_names, names_entry, is_of-true, with_entry-Has, with_consuming-Has, Moves, Moves-onwards}
use Rattle.rt_model.proofs.Histories.{same_partition}
use Rattle.rt_model.proofs.Kept.{ideal_nodes, key_family, not_after_ideal, start_ideal_is, same_by}
use Rattle.rt_model.proofs.Starts.{starting_entry}
use Rattle.rt_model.proofs.Steps.{commit_moves, add_moves, offline_moves, by_same}

-- ---- any fact on entries

abbrev pub AllIdeals : (List IdealEntry → Type 0) → List Seen → Type 0
AllIdeals P h = (w : Seen) → IsIdealWrite h w → P (entries_by w.node)

abbrev pub Keeps : (List IdealEntry → Type 0) → Type 0
Keeps P = (seen : List Seen) (old new : List IdealEntry) → IsIdealStep seen old new → P old → P new

entries_are : (P : List IdealEntry → Type 0) (n : Node) (es : List IdealEntry) → entries_by n ≡ es → P es → P (entries_by n)
entries_are P n es e x = subst P (sym e) x

are_entries : (P : List IdealEntry → Type 0) (n : Node) (es : List IdealEntry) → entries_by n ≡ es → P (entries_by n) → P es
are_entries P n es e x = subst P e x

AllIdeals-more :
    (P : List IdealEntry → Type 0) (h : List Seen) (w : Seen) → AllIdeals P h
    → (w.key ≡ key.Ideal → P (entries_by w.node)) → AllIdeals P (h ++ w ∷ [])
AllIdeals-more P h w all new v is = at_case (Has-push_cases h w v is.has)
  where
    at_case : Has h v ⊎ (w ≡ v) → P (entries_by v.node)
    at_case (inl has) = all v (record { has = has; is_ideal = is.is_ideal })
    at_case (inr same) =
        same_by w v same (λ x. P (entries_by x.node)) (new (ap (λ (x : Seen). x.key) same ∙ is.is_ideal))

-- what a lawful call writes of the ideal state has the fact, where all that its writer may have read have it
written_keeps :
    (P : List IdealEntry → Type 0) (seen unseen : List Seen) → Keeps P → AllIdeals P (seen ++ unseen)
    → (call : Write) → IsLawful seen call → (written_by (seen ++ unseen) call).key ≡ key.Ideal
    → P (entries_by (written_by (seen ++ unseen) call).node)
written_keeps P seen unseen keeps all (create k n) lawful e =
    absurd (key_family (λ x. IsLawfulCreate seen x n) k key.Ideal e lawful)
written_keeps P seen unseen keeps all (set from n) lawful e =
    let made = ideal_nodes seen from.node n (key_family (λ x. Sets seen x from.node n) from.key key.Ideal e lawful.1) in
    let old = all from (record { has = Has-append_left seen unseen from lawful.0; is_ideal = e }) in
    entries_are P n made.1.entries (ap entries_by made.3)
    (keeps seen made.0.entries made.1.entries made.4 (are_entries P from.node made.0.entries (ap entries_by made.2) old))
written_keeps P seen unseen keeps all (delete from) lawful e =
    absurd (key_family (λ x. Retires seen x from.node) from.key key.Ideal e lawful.1)
written_keeps P seen unseen keeps all (create_after k n prior) lawful e =
    absurd (not_after_ideal prior.key (key_family (λ x. IsAfter prior.key x) k key.Ideal e lawful.1))
written_keeps P seen unseen keeps all (bump i) lawful e = absurd (cc)

AllIdeals-step :
    (P : List IdealEntry → Type 0) (s : Starting) (h : List Seen) (w : Seen) → Keeps P → AllIdeals P h
    → IsLawfulStep s h w → AllIdeals P (h ++ w ∷ [])
AllIdeals-step P s h w keeps all step =
    let seen = starting_contents s ++ step.later in
    let A : List Seen → Type 0 = λ x. AllIdeals P x in
    let at_base = subst A step.has_seen all in
    let B : List Seen → Type 0 = λ x. AllIdeals P (x ++ written_by x step.write ∷ []) in
    let C : Seen → Type 0 = λ x. AllIdeals P (h ++ x ∷ []) in
    subst C (sym step.wrote)
    (subst B (sym step.has_seen)
    (AllIdeals-more P (seen ++ step.unseen) (written_by (seen ++ step.unseen) step.write) at_base
    (written_keeps P seen step.unseen keeps at_base step.write step.lawful)))

AllIdeals-after :
    (P : List IdealEntry → Type 0) (s : Starting) (before later : List Seen) → Keeps P → AllIdeals P before
    → AreLawfulAfter s before later → AllIdeals P (before ++ later)
AllIdeals-after P s before [] keeps all a =
    let A : List Seen → Type 0 = λ x. AllIdeals P x in subst A (sym (append-nil before)) all
AllIdeals-after P s before (w ∷ ws) keeps all a =
    let A : List Seen → Type 0 = λ x. AllIdeals P x in
    subst A (append_assoc before (w ∷ []) ws)
    (AllIdeals-after P s (before ++ w ∷ []) ws keeps (AllIdeals-step P s before w keeps all a.0) a.1)

-- each ideal state of a lawful history has it
pub every_ideal :
    (P : List IdealEntry → Type 0) (s : Starting) (h : List Seen) → Keeps P → P (starting_entries s s.partitions)
    → IsLawfulHistory s h → AllIdeals P h
every_ideal P s h keeps first l =
    let A : List Seen → Type 0 = λ x. AllIdeals P x in
    subst A (sym l.whole)
    (AllIdeals-after P s (starting_contents s) l.later keeps
    (λ w is. same_by (starting_ideal s) w (start_ideal_is s w is) (λ x. P (entries_by x.node)) first)
    l.lawful)

-- ---- the order of the entries

new_same : (P : List IdealEntry → Type 0) (new wanted : List IdealEntry) → wanted ≡ new → P new → P wanted
new_same P new wanted e x = subst P (sym e) x

pub keeps_order : Keeps IsAscending
keeps_order seen old new (commits p s next distinct done created e) a =
    new_same IsAscending (commit_step_of old p s next) new e (commit_ascends old p s next a distinct)
keeps_order seen old new (adds p s is distinct created e) a =
    new_same IsAscending (add_consuming_of old p s is) new e (add_ascends old p s is a distinct)
keeps_order seen old new (turns_offline p s i e) a =
    new_same IsAscending (set_offline_of old p s i) new e (offline_ascends old p s i a)
keeps_order seen old new (removes p s final deleted next e) a =
    new_same IsAscending (remove_segment_of old p s) new e (remove_ascends old p s a)

abbrev first_segment : Sequence
first_segment = record { 0 = 0 }

no_entry_yet : (s : Starting) (n : ℕ) → has_entry (starting_entries s n) (record { 0 = n }) first_segment ≡ false
no_entry_yet s n =
    false_from_ne_true (has_entry (starting_entries s n) (record { 0 = n }) first_segment)
    (λ h.
    let e = entry_names (starting_entries s n) (record { 0 = n }) first_segment h in
    let place = starting_entry s n e.0 e.1 in
    absurd (omega (arith, place.0, ap (λ (x : Partition). x.0) e.2)))

starting_order : (s : Starting) (n : ℕ) → IsAssigned s → n ≤ s.partitions → IsAscending (starting_entries s n)
starting_order s zero a le = tt
starting_order s (suc n) a le =
    consuming_ascends (starting_entries s n) (record { 0 = n }) first_segment (s.instances (record { 0 = n }))
    (starting_order s n a (omega arith)) (no_entry_yet s n) (a.distinct (record { 0 = n }) (omega arith))

pub all_ascend : (s : Starting) (h : List Seen) → IsAssigned s → IsLawfulHistory s h → AllIdeals IsAscending h
all_ascend s h a l =
    every_ideal IsAscending s h keeps_order (starting_order s s.partitions a (omega arith)) l

-- ---- each partition has an entry

abbrev pub Covers : Partition → List IdealEntry → Type 0
Covers q es = (t : ℕ) × HasEntry es q t

covers_moved : (q : Partition) (old new : List IdealEntry) → Moves (HasEntry old q) (HasEntry new q) → Covers q old → Covers q new
covers_moved q old new moves c =
    let r = (Moves-onwards (HasEntry old q) (HasEntry new q) moves).highest c.0 c.1 in (r.0, r.2)

-- an entry of another segment stays where a segment is removed
removed_other :
    (es : List IdealEntry) (p : Partition) (s : Sequence) (q : Partition) (t : ℕ)
    → (q ≡ p → t ≡ s.0 → ⊥) → HasEntry es q t → HasEntry (remove_segment_of es p s) q t
removed_other es p s q t other h = at_entry (entry_names es q (record { 0 = t }) h)
  where
    by_test : (e : IdealEntry) (b : Bool) → is_of p s e ≡ b → e.partition ≡ q → e.sequence.0 ≡ t → is_of p s e ≡ false
    by_test e true own same_q same_t =
        let place = is_of-true p s e own in absurd (other (sym same_q ∙ place.0) (sym same_t ∙ place.1))
    by_test e false own same_q same_t = own

    at_entry : Names es q t → HasEntry (remove_segment_of es p s) q t
    at_entry (e, has, same_q, same_t) =
        names_entry (remove_segment_of es p s) q (record { 0 = t }) (
          e,
          filter-Has (λ d. not (is_of p s d)) es e has (not_from_false (is_of p s e) (by_test e (is_of p s e) refl same_q same_t)),
          same_q,
          same_t,
        )

covers_removed :
    (q : Partition) (es : List IdealEntry) (p : Partition) (s : Sequence) → HasEntry es p (s.0 + 1) → Covers q es
    → Covers q (remove_segment_of es p s)
covers_removed q es p s next c =
    by_same q p (Covers q (remove_segment_of es p s))
    (λ same.
    let P : Partition → Type 0 = λ x. HasEntry es x (s.0 + 1) in
    (s.0 + 1, removed_other es p s q (s.0 + 1) (λ _ e. absurd (omega arith)) (subst P (sym same) next)))
    (λ ne. (c.0, removed_other es p s q c.0 (λ e _. ne e) c.1))

keeps_cover : (q : Partition) → Keeps (Covers q)
keeps_cover q seen old new (commits p s next distinct done created e) c =
    new_same (Covers q) (commit_step_of old p s next) new e (covers_moved q old (commit_step_of old p s next) (commit_moves old p s next q) c)
keeps_cover q seen old new (adds p s is distinct created e) c =
    new_same (Covers q) (add_consuming_of old p s is) new e (covers_moved q old (add_consuming_of old p s is) (add_moves old p s is q) c)
keeps_cover q seen old new (turns_offline p s i e) c =
    new_same (Covers q) (set_offline_of old p s i) new e (covers_moved q old (set_offline_of old p s i) (offline_moves old p s i q) c)
keeps_cover q seen old new (removes p s final deleted next e) c =
    new_same (Covers q) (remove_segment_of old p s) new e (covers_removed q old p s next c)

assigned_covers : (es : List IdealEntry) (p : Partition) (is : List Instance) → 0 < length is → Covers p (with_consuming es p first_segment is)
assigned_covers es p [] some = absurd (omega arith)
assigned_covers es p (i ∷ is) some =
    let e = consuming p first_segment i in (
      0,
      names_entry (with_consuming es p first_segment (i ∷ is)) p first_segment
          (e, with_entry-Has e (with_consuming es p first_segment is) e (inl refl), refl, refl),
    )

below_next : (q : Partition) (n : ℕ) → q.0 < suc n → (q ≡ record { 0 = n } → ⊥) → q.0 < n
below_next q n lt ne = at_case (cases_eq q.0 n)
  where
    other : (q.0 ≡ n → ⊥) → (q.0 < n) ⊎ (n ≤ q.0) → q.0 < n
    other ne (inl below) = below
    other ne (inr le) = absurd (ne (omega arith))

    at_case : (q.0 ≡ n) ⊎ (q.0 ≡ n → ⊥) → q.0 < n
    at_case (inl e) = absurd (ne (same_partition q (record { 0 = n }) e))
    at_case (inr apart) = other apart (cases_lt q.0 n)

starting_covers :
    (s : Starting) (q : Partition) (n : ℕ) → IsAssigned s → n ≤ s.partitions → q.0 < n → Covers q (starting_entries s n)
starting_covers s q zero a le lt = absurd (omega arith)
starting_covers s q (suc n) a le lt =
    by_same q (record { 0 = n }) (Covers q (starting_entries s (suc n)))
    (λ same.
    let P : Partition → Type 0 = λ x. Covers x (starting_entries s (suc n)) in
    subst P (sym same)
    (assigned_covers (starting_entries s n) (record { 0 = n }) (s.instances (record { 0 = n })) (a.some (record { 0 = n }) (omega arith))))
    (λ ne. further (starting_covers s q n a (omega arith) (below_next q n lt ne)))
  where
    further : Covers q (starting_entries s n) → Covers q (starting_entries s (suc n))
    further (t, h) =
        let e = entry_names (starting_entries s n) q (record { 0 = t }) h in (
          t,
          names_entry (starting_entries s (suc n)) q (record { 0 = t })
              (e.0, with_consuming-Has (starting_entries s n) (record { 0 = n }) first_segment (s.instances (record { 0 = n })) e.0 e.1, e.2, e.3),
        )

pub all_cover :
    (s : Starting) (h : List Seen) (q : Partition) → IsAssigned s → IsLawfulHistory s h → q.0 < s.partitions
    → AllIdeals (Covers q) h
all_cover s h q a l lt =
    every_ideal (Covers q) s h (keeps_cover q) (starting_covers s q s.partitions a (omega arith) lt) l

-- ---- the laws

pub has_ordered_entries : (s : Starting) (h : List Seen) → IsAssigned s → IsLawfulHistory s h → HasOrderedEntries h
has_ordered_entries s h a l w is =
    let ascends = all_ascend s h a l w is in (ascends, ascending_once (entries_by w.node) ascends)

pub has_every_partition : (s : Starting) (h : List Seen) → IsAssigned s → IsLawfulHistory s h → HasEveryPartition s h
has_every_partition s h a l w p is lt = all_cover s h p a l lt w is
