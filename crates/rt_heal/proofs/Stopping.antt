-- An instance that has nothing to consume of a segment never gets it again, once the segment had entries.
use Rattle.std.proofs.Common.{◌≡◌, ℕ, ◌-◌, ◌≤◌, ◌⊎◌, inl, inr, Bool, true, false, cond, not, List, [], ◌∷◌, ◌++◌, refl, sym, ◌∙◌, ap, subst, arith, map}
use Rattle.std.specs.Prelude.{◌==◌}
use Rattle.std.proofs.lemmas.Bool.{not-true, true≢false}
use Rattle.std.proofs.lemmas.List.{append-nil, append_assoc}
use Rattle.rt_base.specs.declared.numbers.Instance.{Instance}
use Rattle.rt_base.specs.declared.numbers.Partition.{Partition}
use Rattle.rt_base.specs.declared.numbers.Sequence.{Sequence}
use Rattle.rt_lists.specs.Members.{Has, IsFront}
use Rattle.rt_lists.proofs.Members.{front_push, Has-append_left, Has-filter, Has-map}
use Rattle.rt_model.specs.Entries.{entries_by, entries_in, entries_of, HasEntry, IsUnbroken}
use Rattle.rt_model.specs.History.{last_write}
use Rattle.rt_model.specs.Ideal.{add_consuming_of, commit_step_of, goes_on, has_entry, has_partition, is_of, is_of_instance, next_sequence, offline_mode, turned_offline, turned_online, with_consuming}
use Rattle.rt_model.specs.Lawful.{Write, create, set, delete, create_after, bump, written_by, TakesEffect, IsLawful, IsLawfulCreate, IsAfter, Sets, Retires, IsIdealStep, commits, adds, turns_offline, removes, IsLawfulStep, AreLawfulAfter, IsLawfulHistory}
use Rattle.rt_model.specs.Starting.{Starting, starting_contents}
use Rattle.rt_model.specs.declared.ideal_state.IdealEntry.{IdealEntry}
use Rattle.rt_model.specs.declared.ideal_state.Mode.{Mode}
use Rattle.rt_model.specs.declared.ideal_state.Mode.TheVariants.{Consuming, Online, Offline}
use Rattle.rt_model.specs.declared.node.Key.TheVariants as key
use Rattle.rt_model.specs.declared.node.Seen.{Seen}
use Rattle.rt_model.proofs.Entries.{entry_names, Has-with_consuming}
use Rattle.rt_model.proofs.Histories.{last_write-more, last_write-other, Stands-last}
use Rattle.rt_model.proofs.Kept.{ideal_nodes, key_family, not_after_ideal}
use Rattle.rt_model.proofs.Lawful.{has_rising_runs, has_unbroken_runs, step_is_lawful, versions_count_writes}
use Rattle.rt_past.specs.Segments.{HadEntry}
use Rattle.rt_past.proofs.Growth.{entry_grows}
use Rattle.rt_heal.specs.Dropped.{NoneConsumes}
use Rattle.rt_heal.proofs.Turned.{in_partition}
use Rattle.rt_heal.proofs.Turning.{by_ideal}

-- ---- entries

pub offline_not : (m : Mode) → offline_mode m ≡ Consuming → ⊥
offline_not Consuming e = cc
offline_not Online e = cc
offline_not Offline e = cc

-- an entry stays, or isn't CONSUMING
abbrev Leaves : (IdealEntry → IdealEntry) → Type 0
Leaves f = (x : IdealEntry) → (f x ≡ x) ⊎ ((f x).mode ≡ Consuming → ⊥)

online_leaves : (o : Partition) (s : Sequence) → Leaves (turned_online o s)
online_leaves o s x = by_test (is_of o s x)
  where
    by_test : (b : Bool) → (cond b (record x { mode = Online }) x ≡ x) ⊎ ((cond b (record x { mode = Online }) x).mode ≡ Consuming → ⊥)
    by_test true = inr (λ e. cc)
    by_test false = inl refl

offline_leaves : (o : Partition) (s : Sequence) (i : Instance) → Leaves (turned_offline o s i)
offline_leaves o s i x = by_test (is_of_instance o s i x)
  where
    by_test : (b : Bool)
        → (cond b (record x { mode = offline_mode x.mode }) x ≡ x) ⊎ ((cond b (record x { mode = offline_mode x.mode }) x).mode ≡ Consuming → ⊥)
    by_test true = inr (offline_not x.mode)
    by_test false = inl refl

-- the entries have no gap, and reach as far as this segment
abbrev Reaches : List IdealEntry → Partition → ℕ → Type 0
Reaches es p q = IsUnbroken es p × ((t : ℕ) × (q ≤ t) × HasEntry es p t)

reached : (es : List IdealEntry) (p : Partition) (q a : ℕ) → Reaches es p q → a ≤ q → HasEntry es p a → HasEntry es p q
reached es p q a (unbroken, (t, further, there)) before has = unbroken a q t before further has there

module _ (p : Partition) (q : Sequence) (i : Instance) where
  abbrev Spared : List IdealEntry → Type 0
  Spared es = NoneConsumes es p q i

  changed_none : (f : IdealEntry → IdealEntry) (es : List IdealEntry) → Leaves f → Spared es → Spared (map f es)
  changed_none f es leaves none e has a b c d = let x = Has-map f es e has in by_entry x.0 x.1 x.2 (leaves x.0)
    where
      by_entry : (x : IdealEntry) → Has es x → f x ≡ e → (f x ≡ x) ⊎ ((f x).mode ≡ Consuming → ⊥) → ⊥
      by_entry x there made (inl same) = none e (subst (Has es) (sym same ∙ made) there) a b c d
      by_entry x there made (inr other) = other (ap (λ (y : IdealEntry). y.mode) made ∙ d)

  -- another segment gets entries
  with_none : (es : List IdealEntry) (o : Partition) (s : Sequence) (is : List Instance) → (p ≡ o → q ≡ s → ⊥) → Spared es → Spared (with_consuming es o s is)
  with_none es o s is apart none e has a b c d = by_place (Has-with_consuming es o s is e has)
    where
      by_place : Has es e ⊎ ((e.partition ≡ o) × (e.sequence ≡ s) × (e.mode ≡ Consuming)) → ⊥
      by_place (inl there) = none e there a b c d
      by_place (inr new) = apart (sym a ∙ new.0) (sym b ∙ new.1)

  -- entries that were there aren't added
  had_already : (es : List IdealEntry) (o : Partition) (s : Sequence) (r : ℕ) → Reaches es p q.0 → r ≤ s.0 → HasEntry es o r → has_entry es o s ≡ false → p ≡ o
      → q ≡ s → ⊥
  had_already es o s r reaches before has absent same_p same_q =
      let here : HasEntry es p r = subst (λ (x : Partition). HasEntry es x r) (sym same_p) has in
      let all = reached es p q.0 r reaches (subst (λ (x : Sequence). r ≤ x.0) (sym same_q) before) here in
      let none : has_entry es p q ≡ false =
      ap (λ (x : Partition). has_entry es x q) same_p ∙ ap (λ (x : Sequence). has_entry es o x) same_q ∙ absent in
      true≢false (sym all ∙ none)

  commit_none : (es : List IdealEntry) (o : Partition) (s : Sequence) (next : List Instance) → Reaches es p q.0 → Spared es → Spared (commit_step_of es o s next)
  commit_none es o s next reaches none = by_tests (has_entry es o s) (has_entry es o (next_sequence s)) refl refl
    where
      turned : Spared (map (turned_online o s) es)
      turned = changed_none (turned_online o s) es (online_leaves o s) none

      by_tests : (b c : Bool) → has_entry es o s ≡ b → has_entry es o (next_sequence s) ≡ c
          → Spared (cond b (cond c (map (turned_online o s) es) (with_consuming (map (turned_online o s) es) o (next_sequence s) next)) es)
      by_tests false c here after = none
      by_tests true true here after = turned
      by_tests true false here after =
          with_none (map (turned_online o s) es) o (next_sequence s) next (had_already es o (next_sequence s) s.0 reaches (omega arith) here after) turned

  add_none : (es : List IdealEntry) (o : Partition) (s : Sequence) (is : List Instance) → Reaches es p q.0 → Spared es → Spared (add_consuming_of es o s is)
  add_none es o s is reaches none = by_tests (has_entry es o s) (goes_on es o s.0) refl refl
    where
      -- the partition has entries
      empty : not (has_partition es o) ≡ true → p ≡ o → ⊥
      empty alone same_p =
          let n = entry_names es p (record { 0 = reaches.1.0 }) reaches.1.2 in
          true≢false (sym (in_partition es o n.0 n.1 (n.2 ∙ same_p)) ∙ not-true (has_partition es o) alone)

      by_zero : (z : Bool) → (s.0 == 0) ≡ z → cond z (not (has_partition es o)) (has_entry es o (record { 0 = s.0 - 1 })) ≡ true → has_entry es o s ≡ false
          → p ≡ o → q ≡ s → ⊥
      by_zero true zero alone absent same_p same_q = empty alone same_p
      by_zero false more before absent same_p same_q =
          had_already es o s (s.0 - 1) reaches (omega arith) before absent same_p same_q

      by_tests : (b c : Bool) → has_entry es o s ≡ b → goes_on es o s.0 ≡ c → Spared (cond b es (cond c (with_consuming es o s is) es))
      by_tests true c here goes = none
      by_tests false true here goes = with_none es o s is (by_zero (s.0 == 0) refl goes here) none
      by_tests false false here goes = none

  step_none : (seen : List Seen) (old new : List IdealEntry) → IsIdealStep seen old new → Reaches old p q.0 → Spared old → Spared new
  step_none seen old new (commits o s next distinct done created e) reaches none = subst Spared (sym e) (commit_none old o s next reaches none)
  step_none seen old new (adds o s is distinct created e) reaches none = subst Spared (sym e) (add_none old o s is reaches none)
  step_none seen old new (turns_offline o s j e) reaches none =
      subst Spared (sym e) (changed_none (turned_offline o s j) old (offline_leaves o s j) none)
  step_none seen old new (removes o s final deleted next e) reaches none =
      subst Spared (sym e) (λ x has. none x (Has-filter (λ (y : IdealEntry). not (is_of o s y)) old x has).0)

  -- ---- a write

  module _ (s : Starting) (h : List Seen) (lawful : IsLawfulHistory s h) (had : HadEntry h p q) (none : Spared (entries_of h)) where
    reaches_by : (from : Seen) → Has h from → from.key ≡ key.Ideal → entries_of h ≡ entries_by from.node → Reaches (entries_by from.node) p q.0
    reaches_by from has is now =
        let high = (has_rising_runs s h lawful had.0 p had.1).highest q.0 had.2 in (
          has_unbroken_runs s h lawful from p (record { has = has; is_ideal = is }),
          (high.0, high.1, subst (λ (es : List IdealEntry). HasEntry es p high.0) now high.2),
        )

    written_none : (seen : List Seen) → ((w : Seen) → Has seen w → Has h w) → (call : Write) → IsLawful seen call → TakesEffect h call
        → (written_by h call).key ≡ key.Ideal → Spared (entries_by (written_by h call).node)
    written_none seen front (create k n) is effect e = absurd (key_family (λ x. IsLawfulCreate seen x n) k key.Ideal e is)
    written_none seen front (set from n) is effect e =
        let has = front from is.0 in
        let last = Stands-last h from (versions_count_writes s h lawful) has effect in
        let now : entries_of h ≡ entries_by from.node = ap entries_in (ap (last_write h) (sym e) ∙ last.0) in
        let made = ideal_nodes seen from.node n (key_family (λ x. Sets seen x from.node n) from.key key.Ideal e is.1) in
        let old : entries_by from.node ≡ made.0.entries = ap entries_by made.2 in
        let new : entries_by n ≡ made.1.entries = ap entries_by made.3 in
        subst Spared (sym new)
        (step_none seen made.0.entries made.1.entries made.4
        (subst (λ (es : List IdealEntry). Reaches es p q.0) old (reaches_by from has e now))
        (subst Spared (now ∙ old) none))
    written_none seen front (delete from) is effect e = absurd (key_family (λ x. Retires seen x from.node) from.key key.Ideal e is.1)
    written_none seen front (create_after k n prior) is effect e = absurd (not_after_ideal prior.key (key_family (λ x. IsAfter prior.key x) k key.Ideal e is.1))
    written_none seen front (bump j) is effect e = absurd (cc)

    wrote_none : (w : Seen) → IsLawfulStep s h w → Spared (entries_of (h ++ w ∷ []))
    wrote_none w step =
        by_ideal w.key (Spared (entries_of (h ++ w ∷ [])))
        (λ is. subst Spared (sym (ap entries_in (last_write-more h w key.Ideal is)))
        (subst (λ (x : Seen). Spared (entries_by x.node)) (sym step.wrote)
        (written_none (starting_contents s ++ step.later)
        (λ v has. subst (λ (x : List Seen). Has x v) (sym step.has_seen) (Has-append_left (starting_contents s ++ step.later) step.unseen v has))
        step.write step.lawful step.effect (ap (λ (x : Seen). x.key) (sym step.wrote) ∙ is))))
        (λ other. subst Spared (sym (ap entries_in (last_write-other h w key.Ideal other))) none)

  -- ---- a history that goes on

  later_none : (s : Starting) (h more : List Seen) → IsLawfulHistory s h → AreLawfulAfter s h more → HadEntry h p q → Spared (entries_of h)
      → Spared (entries_of (h ++ more))
  later_none s h [] lawful after had none = subst (λ (x : List Seen). Spared (entries_of x)) (sym (append-nil h)) none
  later_none s h (w ∷ ws) lawful after had none =
      subst (λ (x : List Seen). Spared (entries_of x)) (append_assoc h (w ∷ []) ws)
      (later_none s (h ++ w ∷ []) ws (step_is_lawful s h w lawful after.0) after.1
      (entry_grows h (h ++ w ∷ []) p q (front_push h w) had) (wrote_none s h lawful had none w after.0))

-- ---- two lawful histories, of which one goes on from the other

same_later : (xs ys zs : List Seen) → xs ++ ys ≡ xs ++ zs → ys ≡ zs
same_later [] ys zs e = e
same_later (x ∷ xs) ys zs e = same_later xs ys zs (cc)

lawful_after : (s : Starting) (before xs ys : List Seen) → AreLawfulAfter s before (xs ++ ys) → AreLawfulAfter s (before ++ xs) ys
lawful_after s before [] ys a = subst (λ (h : List Seen). AreLawfulAfter s h ys) (sym (append-nil before)) a
lawful_after s before (x ∷ xs) ys a =
    subst (λ (h : List Seen). AreLawfulAfter s h ys) (append_assoc before (x ∷ []) xs) (lawful_after s (before ++ x ∷ []) xs ys a.1)

pub stays_none : (s : Starting) (h k : List Seen) (p : Partition) (q : Sequence) (i : Instance) → IsFront h k → IsLawfulHistory s h → IsLawfulHistory s k
    → HadEntry h p q → NoneConsumes (entries_of h) p q i → NoneConsumes (entries_of k) p q i
stays_none s h k p q i front before after had none =
    let more = front.0 in
    let rest : before.later ++ more ≡ after.later =
    same_later (starting_contents s) (before.later ++ more) after.later
    (sym (append_assoc (starting_contents s) before.later more) ∙ ap (λ (x : List Seen). x ++ more) (sym before.whole) ∙ sym front.1 ∙ after.whole) in
    let lawful : AreLawfulAfter s (starting_contents s ++ before.later) more =
    lawful_after s (starting_contents s) before.later more (subst (AreLawfulAfter s (starting_contents s)) (sym rest) after.lawful) in
    subst (λ (x : List Seen). NoneConsumes (entries_of x) p q i) (sym front.1)
    (later_none p q i s h more before (subst (λ (x : List Seen). AreLawfulAfter s x more) (sym before.whole) lawful) had none)
