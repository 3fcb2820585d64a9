-- A present segment without entries that isn't the last one is the lowest.
use Rattle.std.proofs.Common.{◌≡◌, ◌+◌, ◌<◌, ◌≤◌, ◌⊎◌, inl, inr, ℕ, Bool, true, false, cond, not, List, [], ◌∷◌, ◌++◌, refl, sym, ap, subst, ◌∙◌, arith}
use Rattle.std.specs.Prelude.{map}
use Rattle.std.proofs.lemmas.Bool.{cases_lt, not_from_false}
use Rattle.std.proofs.lemmas.List.{append-nil, append_assoc}
use Rattle.rt_base.specs.declared.numbers.Instance.{Instance}
use Rattle.rt_base.specs.declared.numbers.Partition.{Partition}
use Rattle.rt_base.specs.declared.numbers.Sequence.{Sequence}
use Rattle.rt_lists.specs.Members.{Has, IsFront}
use Rattle.rt_lists.proofs.Members.{Has-append_left, Has-push_cases, filter-Has, front_same, front_then, map-Has}
use Rattle.rt_model.specs.declared.ideal_state.IdealEntry.{IdealEntry}
use Rattle.rt_model.specs.declared.ideal_state.Mode.TheVariants.{Online}
use Rattle.rt_model.specs.declared.node.Key.TheVariants as key
use Rattle.rt_model.specs.declared.node.Node.TheVariants as node
use Rattle.rt_model.specs.declared.node.Seen.{Seen}
use Rattle.rt_model.specs.declared.setup.Setup.{Setup}
use Rattle.rt_model.specs.Chain.{InOrder, IsPresent, deletions_of}
use Rattle.rt_model.specs.Entries.{HasEntry, IsIdealWrite, entries_by, entries_of}
use Rattle.rt_model.specs.Ideal.{add_consuming_of, commit_step_of, goes_on, has_entry, is_of, is_of_instance, next_sequence, offline_mode, remove_segment_of, set_offline_of, turned_offline, turned_online, with_consuming}
use Rattle.rt_model.specs.Lawful.{Write, create, set, delete, create_after, bump, AreLawfulAfter, IsAfter, IsIdealStep, IsLawful, IsLawfulCreate, IsLawfulHistory, IsLawfulStep, Retires, Sets, adds, commits, removes, turns_offline, written_by}
use Rattle.rt_model.specs.Metadata.{IsDeleted, sequences_of}
use Rattle.rt_model.specs.Setup.{IsSetup}
use Rattle.rt_model.specs.Starting.{IsAssigned, Starting, starting_contents, starting_entries}
use Rattle.rt_model.proofs.Chains.{InOrder-chain}
use Rattle.rt_model.proofs.Entries.{entry_names, is_of-true, names_entry, with_consuming-Has}
use Rattle.rt_model.proofs.IdealStates.{has_every_partition}
use Rattle.rt_model.proofs.Kept.{entries_of-last, ideal_nodes, key_family, lawful_kept, not_after_ideal, present_is, start_ideal_is}
use Rattle.rt_model.proofs.Lawful.{start_is_lawful}
use Rattle.rt_model.proofs.Partitions.{deleted_over}
use Rattle.rt_model.proofs.Starts.{starting_entry}
use Rattle.rt_model.proofs.Steps.{by_same}
use Rattle.rt_store.specs.Contents.{starting_of}
use Rattle.rt_store.proofs.Assigned.{setup_assigned}
use Rattle.rt_past.specs.Past.{Past}
use Rattle.rt_past.specs.IsPast.{IsPast}
use Rattle.rt_past.specs.Reaching.{IsOpenNow, ReachesLast}
use Rattle.rt_past.proofs.Growth.{node_grows}
use Rattle.rt_past.proofs.Reaching.{reaches_last}

-- ---- entries that stay

-- each entry has one of its segment in the other list
abbrev Into : List IdealEntry → List IdealEntry → Type 0
Into es fs = (e : IdealEntry) → Has es e → (f : IdealEntry) × Has fs f × (f.partition ≡ e.partition) × (f.sequence ≡ e.sequence)

into_same : (es : List IdealEntry) → Into es es
into_same es e has = (e, has, refl, refl)

into_if : (b : Bool) (es fs gs : List IdealEntry) → Into es fs → Into es gs → Into es (cond b fs gs)
into_if true es fs gs f g = f
into_if false es fs gs f g = g

into_consuming : (es fs : List IdealEntry) (p : Partition) (s : Sequence) (is : List Instance) → Into es fs → Into es (with_consuming fs p s is)
into_consuming es fs p s is into e has = let r = into e has in (r.0, with_consuming-Has fs p s is r.0 r.1, r.2, r.3)

online_place : (e : IdealEntry) (b : Bool) → ((cond b (record e { mode = Online }) e).partition ≡ e.partition) × ((cond b (record e { mode = Online }) e).sequence ≡ e.sequence)
online_place e true = (refl, refl)
online_place e false = (refl, refl)

into_online : (es : List IdealEntry) (p : Partition) (s : Sequence) → Into es (map (turned_online p s) es)
into_online es p s e has =
    let place = online_place e (is_of p s e) in
    (turned_online p s e, map-Has (turned_online p s) es e has, place.0, place.1)

offline_place : (e : IdealEntry) (b : Bool)
    → ((cond b (record e { mode = offline_mode e.mode }) e).partition ≡ e.partition) × ((cond b (record e { mode = offline_mode e.mode }) e).sequence ≡ e.sequence)
offline_place e true = (refl, refl)
offline_place e false = (refl, refl)

into_offline : (es : List IdealEntry) (p : Partition) (s : Sequence) (i : Instance) → Into es (set_offline_of es p s i)
into_offline es p s i e has =
    let place = offline_place e (is_of_instance p s i e) in
    (turned_offline p s i e, map-Has (turned_offline p s i) es e has, place.0, place.1)

into_commit : (es : List IdealEntry) (p : Partition) (s : Sequence) (next : List Instance) → Into es (commit_step_of es p s next)
into_commit es p s next =
    let online = map (turned_online p s) es in
    let new = with_consuming online p (next_sequence s) next in
    into_if (has_entry es p s) es (cond (has_entry es p (next_sequence s)) online new) es
    (into_if (has_entry es p (next_sequence s)) es online new (into_online es p s) (into_consuming es online p (next_sequence s) next (into_online es p s)))
    (into_same es)

into_add : (es : List IdealEntry) (p : Partition) (s : Sequence) (is : List Instance) → Into es (add_consuming_of es p s is)
into_add es p s is =
    let new = with_consuming es p s is in
    into_if (has_entry es p s) es es (cond (goes_on es p s.0) new es) (into_same es)
    (into_if (goes_on es p s.0) es new es (into_consuming es es p s is (into_same es)) (into_same es))

entry_into : (es fs : List IdealEntry) (q : Partition) (t : ℕ) → Into es fs → HasEntry es q t → HasEntry fs q t
entry_into es fs q t into h =
    let e = entry_names es q (record { 0 = t }) h in
    let f = into e.0 e.1 in
    names_entry fs q (record { 0 = t }) (f.0, f.1, f.2 ∙ e.2, ap (λ (x : Sequence). x.0) f.3 ∙ e.3)

-- an entry of another segment stays where a segment is removed
removed_other : (es : List IdealEntry) (p : Partition) (s : Sequence) (q : Partition) (t : ℕ) → (q ≡ p → t ≡ s.0 → ⊥) → HasEntry es q t
    → HasEntry (remove_segment_of es p s) q t
removed_other es p s q t other h =
    let e = entry_names es q (record { 0 = t }) h in
    names_entry (remove_segment_of es p s) q (record { 0 = t })
    (e.0, filter-Has (λ d. not (is_of p s d)) es e.0 e.1 (not_from_false (is_of p s e.0) (by_test e.0 (is_of p s e.0) refl e.2 e.3)), e.2, e.3)
  where
    by_test : (e : IdealEntry) (b : Bool) → is_of p s e ≡ b → e.partition ≡ q → e.sequence.0 ≡ t → is_of p s e ≡ false
    by_test e true own same_q same_t =
        let place = is_of-true p s e own in absurd (other (sym same_q ∙ place.0) (sym same_t ∙ place.1))
    by_test e false own same_q same_t = own

-- ---- what lies below all entries of a partition, but the segment right before them, is deleted

record IsLow (h : List Seen) (q : Partition) (es : List IdealEntry) : Type 0 where
  some : (t : ℕ) × HasEntry es q t
  deleted : (r : ℕ) → ((u : ℕ) → HasEntry es q u → r + 1 < u) → IsDeleted h q r

low_into : (h : List Seen) (q : Partition) (es fs : List IdealEntry) → Into es fs → IsLow h q es → IsLow h q fs
low_into h q es fs into k =
    record {
      some = (k.some.0, entry_into es fs q k.some.0 into k.some.1);
      deleted = λ r above. k.deleted r (λ u has. above u (entry_into es fs q u into has));
    }

low_removed : (h seen : List Seen) (q : Partition) (es : List IdealEntry) (p : Partition) (s : Sequence) → IsFront seen h
    → ((t : ℕ) → t < s.0 → IsDeleted seen p t) → HasEntry es p (s.0 + 1) → IsLow h q es → IsLow h q (remove_segment_of es p s)
low_removed h seen q es p s front below next k = by_same q p (IsLow h q (remove_segment_of es p s)) own others
  where
    own : q ≡ p → IsLow h q (remove_segment_of es p s)
    own same =
        let there : HasEntry es q (s.0 + 1) = subst (λ (x : Partition). HasEntry es x (s.0 + 1)) (sym same) next in
        let kept = removed_other es p s q (s.0 + 1) (λ a b. absurd (omega (arith, b))) there in
        record {
          some = (s.0 + 1, kept);
          deleted = λ r above.
              let lt : r < s.0 = omega (arith, above (s.0 + 1) kept) in
              subst (λ (x : Partition). IsDeleted h x r) (sym same) (node_grows seen h p r (λ n. n ≡ node.Gone) front (below r lt));
        }

    others : (q ≡ p → ⊥) → IsLow h q (remove_segment_of es p s)
    others ne =
        record {
          some = (k.some.0, removed_other es p s q k.some.0 (λ e t. ne e) k.some.1);
          deleted = λ r above. k.deleted r (λ u has. above u (removed_other es p s q u (λ e t. ne e) has));
        }

low_same : (h : List Seen) (q : Partition) (es fs : List IdealEntry) → fs ≡ es → IsLow h q es → IsLow h q fs
low_same h q es fs e k = subst (IsLow h q) (sym e) k

low_step : (h seen : List Seen) (q : Partition) (old new : List IdealEntry) → IsFront seen h → IsIdealStep seen old new → IsLow h q old → IsLow h q new
low_step h seen q old new front (commits p s next distinct done created e) k =
    low_same h q (commit_step_of old p s next) new e (low_into h q old (commit_step_of old p s next) (into_commit old p s next) k)
low_step h seen q old new front (adds p s is distinct created e) k =
    low_same h q (add_consuming_of old p s is) new e (low_into h q old (add_consuming_of old p s is) (into_add old p s is) k)
low_step h seen q old new front (turns_offline p s i e) k =
    low_same h q (set_offline_of old p s i) new e (low_into h q old (set_offline_of old p s i) (into_offline old p s i) k)
low_step h seen q old new front (removes p s final deleted next e) k =
    low_same h q (remove_segment_of old p s) new e (low_removed h seen q old p s front deleted next k)

-- ---- so it is of each ideal state

abbrev AllLow : List Seen → Partition → List Seen → Type 0
AllLow whole q h = (w : Seen) → IsIdealWrite h w → IsLow whole q (entries_by w.node)

low_written : (whole seen unseen : List Seen) (q : Partition) → IsFront seen whole → AllLow whole q (seen ++ unseen)
    → (call : Write) → IsLawful seen call → (written_by (seen ++ unseen) call).key ≡ key.Ideal
    → IsLow whole q (entries_by (written_by (seen ++ unseen) call).node)
low_written whole seen unseen q front all (create k n) lawful e =
    absurd (key_family (λ x. IsLawfulCreate seen x n) k key.Ideal e lawful)
low_written whole seen unseen q front all (set from n) lawful e =
    let made = ideal_nodes seen from.node n (key_family (λ x. Sets seen x from.node n) from.key key.Ideal e lawful.1) in
    let old = all from (record { has = Has-append_left seen unseen from lawful.0; is_ideal = e }) in
    low_same whole q made.1.entries (entries_by n) (ap entries_by made.3)
    (low_step whole seen q made.0.entries made.1.entries front made.4 (subst (IsLow whole q) (ap entries_by made.2) old))
low_written whole seen unseen q front all (delete from) lawful e =
    absurd (key_family (λ x. Retires seen x from.node) from.key key.Ideal e lawful.1)
low_written whole seen unseen q front all (create_after k n prior) lawful e =
    absurd (not_after_ideal prior.key (key_family (λ x. IsAfter prior.key x) k key.Ideal e lawful.1))
low_written whole seen unseen q front all (bump i) lawful e = absurd (cc)

low_more : (whole h : List Seen) (q : Partition) (w : Seen) → AllLow whole q h → (w.key ≡ key.Ideal → IsLow whole q (entries_by w.node))
    → AllLow whole q (h ++ w ∷ [])
low_more whole h q w all new v is = at_case (Has-push_cases h w v is.has)
  where
    at_case : Has h v ⊎ (w ≡ v) → IsLow whole q (entries_by v.node)
    at_case (inl has) = all v (record { has = has; is_ideal = is.is_ideal })
    at_case (inr same) =
        subst (λ (x : Seen). IsLow whole q (entries_by x.node)) same (new (ap (λ (x : Seen). x.key) same ∙ is.is_ideal))

low_next : (whole h : List Seen) (s : Starting) (q : Partition) (w : Seen) → IsFront h whole → AllLow whole q h → IsLawfulStep s h w
    → AllLow whole q (h ++ w ∷ [])
low_next whole h s q w front all step =
    let seen = starting_contents s ++ step.later in
    let base = subst (λ (x : List Seen). AllLow whole q x) step.has_seen all in
    let before = front_then seen h whole (step.unseen, step.has_seen) front in
    let B : List Seen → Type 0 = λ x. AllLow whole q (x ++ written_by x step.write ∷ []) in
    subst (λ (x : Seen). AllLow whole q (h ++ x ∷ [])) (sym step.wrote)
    (subst B (sym step.has_seen)
    (low_more whole (seen ++ step.unseen) q (written_by (seen ++ step.unseen) step.write) base
    (low_written whole seen step.unseen q before base step.write step.lawful)))

low_after : (whole before later : List Seen) (s : Starting) (q : Partition) → IsFront (before ++ later) whole → AllLow whole q before
    → AreLawfulAfter s before later → AllLow whole q (before ++ later)
low_after whole before [] s q front all a = subst (λ (x : List Seen). AllLow whole q x) (sym (append-nil before)) all
low_after whole before (w ∷ ws) s q front all a =
    let same = append_assoc before (w ∷ []) ws in
    let here = front_then before (before ++ w ∷ ws) whole (w ∷ ws, refl) front in
    subst (λ (x : List Seen). AllLow whole q x) same
    (low_after whole (before ++ w ∷ []) ws s q (subst (λ (x : List Seen). IsFront x whole) (sym same) front)
    (low_next whole before s q w here all a.0) a.1)

low_start : (whole : List Seen) (s : Starting) (q : Partition) → IsAssigned s → q.0 < s.partitions → AllLow whole q (starting_contents s)
low_start whole s q assigned within w is =
    let same = start_ideal_is s w is in
    let es = starting_entries s s.partitions in
    let some : (t : ℕ) × HasEntry es q t =
    subst (λ (x : Seen). (t : ℕ) × HasEntry (entries_by x.node) q t) (sym same)
    (has_every_partition s (starting_contents s) assigned (start_is_lawful s) w q is within) in
    let named = entry_names es q (record { 0 = some.0 }) some.1 in
    let first = (starting_entry s s.partitions named.0 named.1).1 in
    subst (λ (x : Seen). IsLow whole q (entries_by x.node)) same
    (record { some = some; deleted = λ r above. absurd (omega (arith, above some.0 some.1, first, named.3)) })

all_low : (h : List Seen) (s : Starting) (q : Partition) → IsAssigned s → q.0 < s.partitions → IsLawfulHistory s h → AllLow h q h
all_low h s q assigned within l =
    subst (λ (x : List Seen). AllLow h q x) (sym l.whole)
    (low_after h (starting_contents s) l.later s q
    (subst (λ (x : List Seen). IsFront x h) l.whole (front_same h))
    (low_start h s q assigned within) l.lawful)

-- ---- a segment without entries

pub without_entries : (setup : Setup) (a : Past) (p : Partition) (q : ℕ) → IsSetup setup → IsPast setup a → p.0 < setup.partitions
    → IsPresent a.history p q → (HasEntry (entries_of a.history) p q → ⊥) → q + 1 < sequences_of a.history p → q ≡ deletions_of a.history p
without_entries setup a p q s k within present none last =
    let kept = lawful_kept (starting_of setup) a.history k.lawful in
    let there = kept.present in
    let is = present_is a.history there.0 there.2 in
    let now = entries_of-last a.history there.0 there.2 in
    let low = subst (IsLow a.history p) (sym now) (all_low a.history (starting_of setup) p (setup_assigned setup s) within k.lawful there.0 is) in
    let whole : (x y z : ℕ) → x ≤ y → y ≤ z → HasEntry (entries_of a.history) p x → HasEntry (entries_of a.history) p z → HasEntry (entries_of a.history) p y =
    subst (λ (es : List IdealEntry). (x y z : ℕ) → x ≤ y → y ≤ z → HasEntry es p x → HasEntry es p z → HasEntry es p y) (sym now) (kept.unbroken there.0 is p) in
    let reach = reaches_last setup a p s k within in
    let above : (u : ℕ) → HasEntry (entries_of a.history) p u → q < u = λ u has. by_place whole reach u has (cases_lt q u) in
    let o = kept.order p within in
    let high = ((InOrder-chain a.history p o).present q).0 present in
    at_case o low above high.0 (cases_lt (deletions_of a.history p) q)
  where
    reached : (reach : ReachesLast a.history p) → (reach.at + 1 ≡ sequences_of a.history p) ⊎ ((reach.at + 2 ≡ sequences_of a.history p) × IsOpenNow a.history p (reach.at + 1))
        → q ≤ reach.at
    reached reach (inl e) = omega (arith, e, last)
    reached reach (inr e) = omega (arith, e.0, last)

    by_place : ((x y z : ℕ) → x ≤ y → y ≤ z → HasEntry (entries_of a.history) p x → HasEntry (entries_of a.history) p z → HasEntry (entries_of a.history) p y)
        → ReachesLast a.history p → (u : ℕ) → HasEntry (entries_of a.history) p u → (q < u) ⊎ (u ≤ q) → q < u
    by_place whole reach u has (inl lt) = lt
    by_place whole reach u has (inr le) = absurd (none (whole u q reach.at le (reached reach reach.last) has reach.entered))

    at_case : InOrder a.history p → IsLow a.history p (entries_of a.history) → ((u : ℕ) → HasEntry (entries_of a.history) p u → q < u)
        → deletions_of a.history p ≤ q → (deletions_of a.history p < q) ⊎ (q ≤ deletions_of a.history p) → q ≡ deletions_of a.history p
    at_case o low above high (inr le) = omega (arith, high, le)
    at_case o low above high (inl lt) =
        let gone = low.deleted (deletions_of a.history p) (λ u has. omega (arith, lt, above u has)) in
        absurd (omega (arith, deleted_over a.history p (deletions_of a.history p) o gone, o.present (deletions_of a.history p) (omega arith)))
