-- Each lawful step of the ideal state moves the sequences of each partition onwards, and keeps its entries grounded.
use Rattle.std.proofs.Common.{◌≡◌, ℕ, ◌+◌, ◌-◌, ◌<◌, Bool, true, false, cond, not, ◌==◌, ◌⊎◌, inl, inr, List, [], ◌∷◌, ◌++◌, map, refl, sym, ◌∙◌, ap, subst, arith}
use Rattle.std.proofs.lemmas.Bool.{eqb-true, eqb-false, eq-eqb, both_ways, cases_eq, or_left, or_right, not-true, not_from_false}
use Rattle.rt_base.specs.declared.numbers.Partition.{Partition}
use Rattle.rt_base.specs.declared.numbers.Sequence.{Sequence}
use Rattle.rt_base.specs.declared.numbers.Instance.{Instance}
use Rattle.rt_model.specs.declared.ideal_state.IdealEntry.{IdealEntry}
use Rattle.rt_model.specs.declared.ideal_state.Mode.{Mode}
use Rattle.rt_model.specs.declared.ideal_state.Mode.TheVariants.{Consuming, Online, Offline}
use Rattle.rt_model.specs.declared.node.Node.TheVariants as node
use Rattle.rt_model.specs.declared.node.Seen.{Seen}
use Rattle.rt_model.specs.Ideal.{is_of, is_of_instance, has_entry, has_partition, with_consuming, turned_online, commit_step_of, goes_on, add_consuming_of, offline_mode, turned_offline, set_offline_of, remove_segment_of, next_sequence}
use Rattle.rt_lists.specs.Members.{Has}
use Rattle.rt_model.specs.Metadata.{IsCreated, BecameDone, IsDeleted, IsOpen, IsDone}
use Rattle.rt_model.specs.Entries.{HasEntry, IsGrounded, AreGrounded}
use Rattle.rt_model.specs.Lawful.{IsIdealStep, commits, adds, turns_offline, removes}
use Rattle.rt_model.proofs.Partitions.{HasNode-more}
use Rattle.rt_model.proofs.Histories.{same_partition}
use Rattle.rt_lists.proofs.Members.{Has-map, map-Has, Has-filter, filter-Has}
use Rattle.rt_model.proofs.Entries.{Names, entry_names, names_entry, is_of-true, is_of-same, Has-with_consuming, with_consuming-Has, Moves, stays, extends, opens, leaves}

abbrev at : ℕ → Sequence
at t = record { 0 = t }

-- entries whose segments are among those of others
within :
    (es fs : List IdealEntry) (p : Partition)
    → ((e : IdealEntry) → Has es e → (d : IdealEntry) × Has fs d × (d.partition ≡ e.partition) × (d.sequence ≡ e.sequence))
    → (t : ℕ) → HasEntry es p t → HasEntry fs p t
within es fs p find t h =
    let n = entry_names es p (at t) h in
    let d = find n.0 n.1 in
    names_entry fs p (at t) (d.0, d.1, d.2 ∙ n.2, ap (λ (x : Sequence). x.0) d.3 ∙ n.3)

turned_online_place :
    (p : Partition) (s : Sequence) (e : IdealEntry)
    → ((turned_online p s e).partition ≡ e.partition) × ((turned_online p s e).sequence ≡ e.sequence)
turned_online_place p s e = by_test (is_of p s e)
  where
    by_test :
        (b : Bool)
        → ((cond b (record e { mode = Online }) e).partition ≡ e.partition)
        × ((cond b (record e { mode = Online }) e).sequence ≡ e.sequence)
    by_test true = (refl, refl)
    by_test false = (refl, refl)

turned_offline_place :
    (p : Partition) (s : Sequence) (i : Instance) (e : IdealEntry)
    → ((turned_offline p s i e).partition ≡ e.partition) × ((turned_offline p s i e).sequence ≡ e.sequence)
turned_offline_place p s i e = by_test (is_of_instance p s i e)
  where
    by_test :
        (b : Bool)
        → ((cond b (record e { mode = offline_mode e.mode }) e).partition ≡ e.partition)
        × ((cond b (record e { mode = offline_mode e.mode }) e).sequence ≡ e.sequence)
    by_test true = (refl, refl)
    by_test false = (refl, refl)

-- entries changed in place keep their segments
map_to :
    (f : IdealEntry → IdealEntry) (es : List IdealEntry) (p : Partition)
    → ((e : IdealEntry) → ((f e).partition ≡ e.partition) × ((f e).sequence ≡ e.sequence))
    → (t : ℕ) → HasEntry es p t → HasEntry (map f es) p t
map_to f es p place = within es (map f es) p (λ e has. let r = place e in (f e, map-Has f es e has, r.0, r.1))

map_from :
    (f : IdealEntry → IdealEntry) (es : List IdealEntry) (p : Partition)
    → ((e : IdealEntry) → ((f e).partition ≡ e.partition) × ((f e).sequence ≡ e.sequence))
    → (t : ℕ) → HasEntry (map f es) p t → HasEntry es p t
map_from f es p place =
    within (map f es) es p
    (λ e has.
    let d = Has-map f es e has in
    let r = place d.0 in
    (d.0, d.1, sym r.0 ∙ ap (λ (x : IdealEntry). x.partition) d.2, sym r.1 ∙ ap (λ (x : IdealEntry). x.sequence) d.2))

consuming_to :
    (es : List IdealEntry) (p : Partition) (s : Sequence) (is : List Instance) (q : Partition)
    → (t : ℕ) → HasEntry es q t → HasEntry (with_consuming es p s is) q t
consuming_to es p s is q =
    within es (with_consuming es p s is) q (λ e has. (e, with_consuming-Has es p s is e has, refl, refl))

consuming_from :
    (es : List IdealEntry) (p : Partition) (s : Sequence) (is : List Instance) (q : Partition)
    → (t : ℕ) → HasEntry (with_consuming es p s is) q t → HasEntry es q t ⊎ ((q ≡ p) × (t ≡ s.0))
consuming_from es p s is q t h =
    let n = entry_names (with_consuming es p s is) q (at t) h in
    at_case n.0 n.2 n.3 (Has-with_consuming es p s is n.0 n.1)
  where
    at_case :
        (e : IdealEntry) → e.partition ≡ q → e.sequence.0 ≡ t
        → Has es e ⊎ ((e.partition ≡ p) × (e.sequence ≡ s) × (e.mode ≡ Consuming))
        → HasEntry es q t ⊎ ((q ≡ p) × (t ≡ s.0))
    at_case e same_q same_t (inl has) = inl (names_entry es q (at t) (e, has, same_q, same_t))
    at_case e same_q same_t (inr new) =
        inr (sym same_q ∙ new.0, sym same_t ∙ ap (λ (x : Sequence). x.0) new.1)

same_moves : (es fs : List IdealEntry) (q : Partition) → fs ≡ es → Moves (HasEntry es q) (HasEntry fs q)
same_moves es fs q e =
    stays
    (λ t h. let P : List IdealEntry → Type 0 = λ x. HasEntry x q t in subst P (sym e) h)
    (λ t h. let P : List IdealEntry → Type 0 = λ x. HasEntry x q t in subst P e h)

-- a partition is this one, or another
pub by_same : (q p : Partition) (P : Type 0) → (q ≡ p → P) → ((q ≡ p → ⊥) → P) → P
by_same q p P same other = at_case (cases_eq q.0 p.0)
  where
    at_case : (q.0 ≡ p.0) ⊎ (q.0 ≡ p.0 → ⊥) → P
    at_case (inl e) = same (same_partition q p e)
    at_case (inr ne) = other (λ e. ne (ap (λ (x : Partition). x.0) e))

left_of : (A B : Type 0) → A ⊎ B → (B → ⊥) → A
left_of A B (inl a) none = a
left_of A B (inr b) none = absurd (none b)

right_of : (A B C : Type 0) → A ⊎ (B × C) → A ⊎ C
right_of A B C (inl a) = inl a
right_of A B C (inr b) = inr b.1

-- CONSUMING entries are added to a run right after its end
consuming_extends :
    (es fs : List IdealEntry) (p : Partition) (r : ℕ) (s : Sequence) (is : List Instance) (q : Partition)
    → s.0 ≡ r + 1 → HasEntry es p r
    → ((t : ℕ) → HasEntry es q t → HasEntry fs q t)
    → ((t : ℕ) → HasEntry fs q t → HasEntry es q t)
    → Moves (HasEntry es q) (HasEntry (with_consuming fs p s is) q)
consuming_extends es fs p r s is q next has to from =
    let new = with_consuming fs p s is in
    let keeps = λ (t : ℕ) (h : HasEntry es q t). consuming_to fs p s is q t (to t h) in
    by_same q p (Moves (HasEntry es q) (HasEntry new q))
    (λ same.
    let P : Partition → Type 0 = λ x. HasEntry es x r in
    extends r (subst P (sym same) has) keeps
    (λ t h. back t (consuming_from fs p s is q t h)))
    (λ other. stays keeps
    (λ t h.
    from t
    (left_of (HasEntry fs q t) ((q ≡ p) × (t ≡ s.0)) (consuming_from fs p s is q t h) (λ b. other b.0))))
  where
    back : (t : ℕ) → HasEntry fs q t ⊎ ((q ≡ p) × (t ≡ s.0)) → HasEntry es q t ⊎ (t ≡ r + 1)
    back t (inl h) = inl (from t h)
    back t (inr b) = inr (b.1 ∙ next)

pub commit_moves :
    (es : List IdealEntry) (p : Partition) (s : Sequence) (next : List Instance) (q : Partition)
    → Moves (HasEntry es q) (HasEntry (commit_step_of es p s next) q)
commit_moves es p s next q = by_tests (has_entry es p s) (has_entry es p (next_sequence s)) refl
  where
    by_tests :
        (b c : Bool) → has_entry es p s ≡ b
        → Moves (HasEntry es q)
        (HasEntry
        (cond b
        (cond c
        (map (turned_online p s) es)
        (with_consuming (map (turned_online p s) es) p (next_sequence s) next))
        es)
        q)
    by_tests false c e = same_moves es es q refl
    by_tests true true e =
        stays
        (map_to (turned_online p s) es q (turned_online_place p s))
        (map_from (turned_online p s) es q (turned_online_place p s))
    by_tests true false e =
        consuming_extends es (map (turned_online p s) es) p s.0 (next_sequence s) next q refl e
        (map_to (turned_online p s) es q (turned_online_place p s))
        (map_from (turned_online p s) es q (turned_online_place p s))

pub offline_moves :
    (es : List IdealEntry) (p : Partition) (s : Sequence) (i : Instance) (q : Partition)
    → Moves (HasEntry es q) (HasEntry (set_offline_of es p s i) q)
offline_moves es p s i q =
    stays
    (map_to (turned_offline p s i) es q (turned_offline_place p s i))
    (map_from (turned_offline p s i) es q (turned_offline_place p s i))

-- a partition with an entry is one that has an entry
has_partition-names :
    (es : List IdealEntry) (p : Partition) (t : ℕ) → Names es p t → has_partition es p ≡ true
has_partition-names [] p t (e, has, same_p, same_t) = absurd has
has_partition-names (d ∷ es) p t (e, inl same, same_p, same_t) =
    or_left (d.partition.0 == p.0) (has_partition es p)
    (eq-eqb d.partition.0 p.0
    (ap (λ (x : IdealEntry). x.partition.0) same ∙ ap (λ (x : Partition). x.0) same_p))
has_partition-names (d ∷ es) p t (e, inr has, same_p, same_t) =
    or_right (d.partition.0 == p.0) (has_partition es p) (has_partition-names es p t (e, has, same_p, same_t))

pub add_moves :
    (es : List IdealEntry) (p : Partition) (s : Sequence) (is : List Instance) (q : Partition)
    → Moves (HasEntry es q) (HasEntry (add_consuming_of es p s is) q)
add_moves es p s is q = by_tests (has_entry es p s) (goes_on es p s.0) refl
  where
    first : s.0 ≡ 0 → not (has_partition es p) ≡ true → Moves (HasEntry es q) (HasEntry (with_consuming es p s is) q)
    first z none =
        let no = not-true (has_partition es p) none in
        let empty = λ (t : ℕ) (h : HasEntry es p t).
        both_ways (has_partition es p) no (has_partition-names es p t (entry_names es p (at t) h)) in
        by_same q p (Moves (HasEntry es q) (HasEntry (with_consuming es p s is) q))
        (λ same.
        let P : Partition → Type 0 = λ x. (t : ℕ) → HasEntry es x t → ⊥ in
        let empty_q = subst P (sym same) empty in
        opens s.0 empty_q
        (λ t h. only t empty_q (consuming_from es p s is q t h)))
        (λ other. stays (consuming_to es p s is q)
        (λ t h. left_of (HasEntry es q t) ((q ≡ p) × (t ≡ s.0)) (consuming_from es p s is q t h) (λ b. other b.0)))
      where
        only : (t : ℕ) → ((t : ℕ) → HasEntry es q t → ⊥) → HasEntry es q t ⊎ ((q ≡ p) × (t ≡ s.0)) → t ≡ s.0
        only t empty (inl h) = absurd (empty t h)
        only t empty (inr b) = b.1

    by_zero :
        (z : Bool) → (s.0 == 0) ≡ z → cond z (not (has_partition es p)) (has_entry es p (at (s.0 - 1))) ≡ true
        → Moves (HasEntry es q) (HasEntry (with_consuming es p s is) q)
    by_zero true z t = first (eqb-true s.0 0 z) t
    by_zero false z t =
        let ne = eqb-false s.0 0 z in
        let next : s.0 ≡ (s.0 - 1) + 1 = omega arith in
        consuming_extends es es p (s.0 - 1) s is q next t (λ u h. h) (λ u h. h)

    by_tests :
        (b c : Bool) → goes_on es p s.0 ≡ c
        → Moves (HasEntry es q) (HasEntry (cond b es (cond c (with_consuming es p s is) es)) q)
    by_tests true c e = same_moves es es q refl
    by_tests false true e = by_zero (s.0 == 0) refl e
    by_tests false false e = same_moves es es q refl

remove_moves :
    (es : List IdealEntry) (p : Partition) (s : Sequence) (q : Partition)
    → HasEntry es p (s.0 + 1) → ((t : ℕ) → t < s.0 → HasEntry es p t → ⊥)
    → Moves (HasEntry es q) (HasEntry (remove_segment_of es p s) q)
remove_moves es p s q next below =
    by_same q p (Moves (HasEntry es q) (HasEntry (remove_segment_of es p s) q))
    (λ same.
    let P : Partition → Type 0 = λ x. HasEntry es x (s.0 + 1) in
    let Q : Partition → Type 0 = λ x. (t : ℕ) → t < s.0 → HasEntry es x t → ⊥ in
    leaves s.0 (subst P (sym same) next) (subst Q (sym same) below)
    (λ t h. (from t h, λ e. gone t same e h))
    (λ t h. to t h))
    (λ other. stays (λ t h. others t other h) from)
  where
    from : (t : ℕ) → HasEntry (remove_segment_of es p s) q t → HasEntry es q t
    from = within (remove_segment_of es p s) es q
        (λ e has. (e, (Has-filter (λ d. not (is_of p s d)) es e has).0, refl, refl))

    gone : (t : ℕ) → q ≡ p → t ≡ s.0 → HasEntry (remove_segment_of es p s) q t → ⊥
    gone t same_q same_t h =
        let n = entry_names (remove_segment_of es p s) q (at t) h in
        let r = Has-filter (λ d. not (is_of p s d)) es n.0 n.1 in
        both_ways (is_of p s n.0) (not-true (is_of p s n.0) r.1)
        (is_of-same p s n.0 (n.2 ∙ same_q) (n.3 ∙ same_t))

    keep : (t : ℕ) (e : IdealEntry) → Has es e → e.partition ≡ q → e.sequence.0 ≡ t → is_of p s e ≡ false
        → HasEntry (remove_segment_of es p s) q t
    keep t e has same_q same_t free =
        names_entry (remove_segment_of es p s) q (at t)
        (e, filter-Has (λ d. not (is_of p s d)) es e has (not_from_false (is_of p s e) free), same_q, same_t)

    to_at : (t : ℕ) (e : IdealEntry) (b : Bool) → is_of p s e ≡ b → Has es e → e.partition ≡ q → e.sequence.0 ≡ t
        → (t ≡ s.0) ⊎ HasEntry (remove_segment_of es p s) q t
    to_at t e true own has same_q same_t = inl (sym same_t ∙ (is_of-true p s e own).1)
    to_at t e false own has same_q same_t = inr (keep t e has same_q same_t own)

    to : (t : ℕ) → HasEntry es q t → (t ≡ s.0) ⊎ HasEntry (remove_segment_of es p s) q t
    to t h = let n = entry_names es q (at t) h in to_at t n.0 (is_of p s n.0) refl n.1 n.2 n.3

    others_at : (t : ℕ) (e : IdealEntry) (b : Bool) → is_of p s e ≡ b → (q ≡ p → ⊥) → Has es e → e.partition ≡ q
        → e.sequence.0 ≡ t → HasEntry (remove_segment_of es p s) q t
    others_at t e true own other has same_q same_t = absurd (other (sym same_q ∙ (is_of-true p s e own).0))
    others_at t e false own other has same_q same_t = keep t e has same_q same_t own

    others : (t : ℕ) → (q ≡ p → ⊥) → HasEntry es q t → HasEntry (remove_segment_of es p s) q t
    others t other h = let n = entry_names es q (at t) h in others_at t n.0 (is_of p s n.0) refl other n.1 n.2 n.3

-- ---- grounded entries

node_at :
    (h : List Seen) (P : List Seen → Partition → ℕ → Type 0) (p q : Partition) (s t : ℕ)
    → q ≡ p → t ≡ s → P h p s → P h q t
node_at h P p q s t same_p same_s x =
    let A : Partition → Type 0 = λ y. P h y s in
    let B : ℕ → Type 0 = λ y. P h q y in
    subst B (sym same_s) (subst A (sym same_p) x)

grounded_online :
    (h : List Seen) (p : Partition) (s : Sequence) (d : IdealEntry) → BecameDone h p s.0 → IsGrounded h d
    → IsGrounded h (turned_online p s d)
grounded_online h p s d done g = by_test (is_of p s d) refl
  where
    by_test : (b : Bool) → is_of p s d ≡ b → IsGrounded h (cond b (record d { mode = Online }) d)
    by_test true own =
        let place = is_of-true p s d own in
        record { created = g.created; done = λ online. node_at h BecameDone p d.partition s.0 d.sequence.0 place.0 place.1 done }
    by_test false other = g

online_before : (m : Mode) → offline_mode m ≡ Online → m ≡ Online
online_before Consuming e = cc
online_before Online e = refl
online_before Offline e = cc

grounded_offline :
    (h : List Seen) (p : Partition) (s : Sequence) (i : Instance) (d : IdealEntry) → IsGrounded h d
    → IsGrounded h (turned_offline p s i d)
grounded_offline h p s i d g = by_test (is_of_instance p s i d)
  where
    by_test : (b : Bool) → IsGrounded h (cond b (record d { mode = offline_mode d.mode }) d)
    by_test true = record { created = g.created; done = λ online. g.done (online_before d.mode online) }
    by_test false = g

grounded_same : (h : List Seen) (d e : IdealEntry) → d ≡ e → IsGrounded h d → IsGrounded h e
grounded_same h d e same g = let P : IdealEntry → Type 0 = IsGrounded h in subst P same g

grounded_map :
    (h : List Seen) (f : IdealEntry → IdealEntry) (es : List IdealEntry)
    → ((d : IdealEntry) → IsGrounded h d → IsGrounded h (f d)) → AreGrounded h es → AreGrounded h (map f es)
grounded_map h f es each all e has =
    let d = Has-map f es e has in
    grounded_same h (f d.0) e d.2 (each d.0 (all d.0 d.1))

grounded_consuming :
    (h : List Seen) (es : List IdealEntry) (p : Partition) (s : Sequence) (is : List Instance)
    → IsCreated h p s.0 → AreGrounded h es → AreGrounded h (with_consuming es p s is)
grounded_consuming h es p s is created all e has = at_case (Has-with_consuming es p s is e has)
  where
    at_case : Has es e ⊎ ((e.partition ≡ p) × (e.sequence ≡ s) × (e.mode ≡ Consuming)) → IsGrounded h e
    at_case (inl old) = all e old
    at_case (inr new) =
        record {
          created = node_at h IsCreated p e.partition s.0 e.sequence.0 new.0 (ap (λ (x : Sequence). x.0) new.1) created;
          done = λ online. let clash : Consuming ≡ Online = sym new.2 ∙ online in absurd (cc);
        }

grounded_commit :
    (h : List Seen) (es : List IdealEntry) (p : Partition) (s : Sequence) (next : List Instance)
    → BecameDone h p s.0 → IsCreated h p (s.0 + 1) → AreGrounded h es
    → AreGrounded h (commit_step_of es p s next)
grounded_commit h es p s next done created all =
    by_tests (has_entry es p s) (has_entry es p (next_sequence s))
  where
    turned : AreGrounded h (map (turned_online p s) es)
    turned = grounded_map h (turned_online p s) es (λ d g. grounded_online h p s d done g) all

    by_tests :
        (b c : Bool)
        → AreGrounded h
        (cond b
        (cond c
        (map (turned_online p s) es)
        (with_consuming (map (turned_online p s) es) p (next_sequence s) next))
        es)
    by_tests false c = all
    by_tests true true = turned
    by_tests true false =
        grounded_consuming h (map (turned_online p s) es) p (next_sequence s) next created turned

grounded_add :
    (h : List Seen) (es : List IdealEntry) (p : Partition) (s : Sequence) (is : List Instance)
    → IsCreated h p s.0 → AreGrounded h es → AreGrounded h (add_consuming_of es p s is)
grounded_add h es p s is created all = by_tests (has_entry es p s) (goes_on es p s.0)
  where
    by_tests : (b c : Bool) → AreGrounded h (cond b es (cond c (with_consuming es p s is) es))
    by_tests true c = all
    by_tests false true = grounded_consuming h es p s is created all
    by_tests false false = all

grounded_remove :
    (h : List Seen) (es : List IdealEntry) (p : Partition) (s : Sequence) → AreGrounded h es
    → AreGrounded h (remove_segment_of es p s)
grounded_remove h es p s all e has = all e (Has-filter (λ d. not (is_of p s d)) es e has).0

-- ---- a lawful step

-- what a step from some entries to others keeps, of the writes `h` that its writer has seen
pub record StepsOn (h : List Seen) (old new : List IdealEntry) : Type 0 where
  pub moves : (q : Partition) → Moves (HasEntry old q) (HasEntry new q)
  pub grounded : AreGrounded h old → AreGrounded h new

StepsOn-same :
    (h : List Seen) (old new wanted : List IdealEntry) → wanted ≡ new → StepsOn h old new → StepsOn h old wanted
StepsOn-same h old new wanted e s = let P : List IdealEntry → Type 0 = StepsOn h old in subst P (sym e) s

pub StepsOn-ideal :
    (seen unseen : List Seen) (old new : List IdealEntry)
    → ((p : Partition) (t u : ℕ) → IsDeleted (seen ++ unseen) p t → HasEntry old p u → t < u)
    → IsIdealStep seen old new → StepsOn (seen ++ unseen) old new
StepsOn-ideal seen unseen old new passed (commits p s next distinct done created e) =
    StepsOn-same (seen ++ unseen) old (commit_step_of old p s next) new e
    (record {
      moves = commit_moves old p s next;
      grounded = grounded_commit (seen ++ unseen) old p s next
          (HasNode-more seen unseen p s.0 IsDone done)
          (HasNode-more seen unseen p (s.0 + 1) IsOpen created);
    })
StepsOn-ideal seen unseen old new passed (adds p s is distinct created e) =
    StepsOn-same (seen ++ unseen) old (add_consuming_of old p s is) new e
    (record {
      moves = add_moves old p s is;
      grounded = grounded_add (seen ++ unseen) old p s is (HasNode-more seen unseen p s.0 IsOpen created);
    })
StepsOn-ideal seen unseen old new passed (turns_offline p s i e) =
    StepsOn-same (seen ++ unseen) old (set_offline_of old p s i) new e
    (record {
      moves = offline_moves old p s i;
      grounded = grounded_map (seen ++ unseen) (turned_offline p s i) old (λ d g. grounded_offline (seen ++ unseen) p s i d g);
    })
StepsOn-ideal seen unseen old new passed (removes p s final deleted next e) =
    StepsOn-same (seen ++ unseen) old (remove_segment_of old p s) new e
    (record {
      moves = λ q. remove_moves old p s q next
          (λ t lt h.
          let above : t < t = passed p t t (HasNode-more seen unseen p t (λ n. n ≡ node.Gone) (deleted t lt)) h in
          omega arith);
      grounded = grounded_remove (seen ++ unseen) old p s;
    })
