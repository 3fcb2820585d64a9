-- The steps of the ideal state keep the entries of committed segments turned ONLINE.
use Rattle.std.proofs.Common.{◌≡◌, ℕ, ◌+◌, ◌-◌, ◌⊎◌, inl, inr, Bool, true, false, cond, not, List, [], ◌∷◌, map, refl, sym, ◌∙◌, ap, subst, arith}
use Rattle.std.specs.Prelude.{◌==◌}
use Rattle.std.proofs.lemmas.Bool.{and_from, both_ways, eq-eqb, false≢true, not-true, or_left, or_right}
use Rattle.rt_base.specs.declared.numbers.Instance.{Instance}
use Rattle.rt_base.specs.declared.numbers.Partition.{Partition}
use Rattle.rt_base.specs.declared.numbers.Sequence.{Sequence}
use Rattle.rt_lists.specs.Members.{Has}
use Rattle.rt_lists.proofs.Members.{Has-filter, Has-map}
use Rattle.rt_model.specs.Entries.{HasEntry, IsUnbroken}
use Rattle.rt_model.specs.Ideal.{add_consuming_of, commit_step_of, goes_on, has_entry, has_partition, is_of, is_of_instance, next_sequence, offline_mode, remove_segment_of, set_offline_of, turned_offline, turned_online, with_consuming}
use Rattle.rt_model.specs.declared.ideal_state.IdealEntry.{IdealEntry}
use Rattle.rt_model.specs.declared.ideal_state.Mode.TheVariants.{Consuming, Online}
use Rattle.rt_model.proofs.Entries.{entry_names, names_entry, Has-with_consuming}
use Rattle.rt_heal.specs.Turned.{AreTurned}

-- ---- entries that keep their places

abbrev SamePlace : IdealEntry → IdealEntry → Type 0
SamePlace x y = (x.partition ≡ y.partition) × (x.sequence ≡ y.sequence)

-- whoever has an entry among changed ones had it
place_from : (f : IdealEntry → IdealEntry) → ((e : IdealEntry) → SamePlace (f e) e) → (es : List IdealEntry) (p : Partition) (t : ℕ)
    → HasEntry (map f es) p t → HasEntry es p t
place_from f same es p t h =
    let n = entry_names (map f es) p (record { 0 = t }) h in
    let x = Has-map f es n.0 n.1 in
    let place = same x.0 in
    names_entry es p (record { 0 = t }) (
      x.0,
      x.1,
      sym place.0 ∙ ap (λ (e : IdealEntry). e.partition) x.2 ∙ n.2,
      ap (λ (s : Sequence). s.0) (sym place.1) ∙ ap (λ (e : IdealEntry). e.sequence.0) x.2 ∙ n.3,
    )

online_place : (p : Partition) (s : Sequence) (e : IdealEntry) → SamePlace (turned_online p s e) e
online_place p s e = by_test (is_of p s e)
  where
    by_test : (b : Bool) → SamePlace (cond b (record e { mode = Online }) e) e
    by_test true = (refl, refl)
    by_test false = (refl, refl)

offline_place : (p : Partition) (s : Sequence) (i : Instance) (e : IdealEntry) → SamePlace (turned_offline p s i e) e
offline_place p s i e = by_test (is_of_instance p s i e)
  where
    by_test : (b : Bool) → SamePlace (cond b (record e { mode = offline_mode e.mode }) e) e
    by_test true = (refl, refl)
    by_test false = (refl, refl)

-- an entry that is ONLINE stays so
online_kept : (p : Partition) (s : Sequence) (e : IdealEntry) → e.mode ≡ Online → (turned_online p s e).mode ≡ Online
online_kept p s e is = by_test (is_of p s e)
  where
    by_test : (b : Bool) → (cond b (record e { mode = Online }) e).mode ≡ Online
    by_test true = refl
    by_test false = is

offline_kept : (p : Partition) (s : Sequence) (i : Instance) (e : IdealEntry) → e.mode ≡ Online → (turned_offline p s i e).mode ≡ Online
offline_kept p s i e is = by_test (is_of_instance p s i e)
  where
    by_test : (b : Bool) → (cond b (record e { mode = offline_mode e.mode }) e).mode ≡ Online
    by_test true = ap offline_mode is
    by_test false = is

own_segment : (p : Partition) (s : Sequence) (e : IdealEntry) → e.partition ≡ p → e.sequence.0 ≡ s.0 → is_of p s e ≡ true
own_segment p s e a b =
    and_from (e.partition.0 == p.0) (e.sequence.0 == s.0) (eq-eqb e.partition.0 p.0 (ap (λ (x : Partition). x.0) a)) (eq-eqb e.sequence.0 s.0 b)

-- one of the segment that is committed is ONLINE
turned_is : (p : Partition) (s : Sequence) (e : IdealEntry) → e.partition ≡ p → e.sequence.0 ≡ s.0 → (turned_online p s e).mode ≡ Online
turned_is p s e a b = by_test (is_of p s e) (own_segment p s e a b)
  where
    by_test : (b : Bool) → b ≡ true → (cond b (record e { mode = Online }) e).mode ≡ Online
    by_test true is = refl
    by_test false is = absurd (false≢true is)

pub in_partition : (ds : List IdealEntry) (p : Partition) (e : IdealEntry) → Has ds e → e.partition ≡ p → has_partition ds p ≡ true
in_partition [] p e has at = absurd has
in_partition (d ∷ ds) p e (inl same) at =
    or_left (d.partition.0 == p.0) (has_partition ds p)
    (eq-eqb d.partition.0 p.0 (ap (λ (x : IdealEntry). x.partition.0) same ∙ ap (λ (x : Partition). x.0) at))
in_partition (d ∷ ds) p e (inr has) at = or_right (d.partition.0 == p.0) (has_partition ds p) (in_partition ds p e has at)

module _ (IsDone : Partition → ℕ → Type 0) where
  -- ---- entries that are changed in their places

  changed_turned : (f : IdealEntry → IdealEntry) (es : List IdealEntry) → ((e : IdealEntry) → SamePlace (f e) e)
      → ((e : IdealEntry) → e.mode ≡ Online → (f e).mode ≡ Online) → AreTurned IsDone es → AreTurned IsDone (map f es)
  changed_turned f es same keeps k p q e next done has at_p at_q =
      let x = Has-map f es e has in
      let place = same x.0 in
      let old = k p q x.0 (place_from f same es p (q + 1) next) done x.1
      (sym place.0 ∙ ap (λ (y : IdealEntry). y.partition) x.2 ∙ at_p)
      (ap (λ (s : Sequence). s.0) (sym place.1) ∙ ap (λ (y : IdealEntry). y.sequence.0) x.2 ∙ at_q) in
      ap (λ (y : IdealEntry). y.mode) (sym x.2) ∙ keeps x.0 old

  pub offline_turned : (es : List IdealEntry) (p : Partition) (s : Sequence) (i : Instance) → AreTurned IsDone es → AreTurned IsDone (set_offline_of es p s i)
  offline_turned es p s i k = changed_turned (turned_offline p s i) es (offline_place p s i) (offline_kept p s i) k

  online_turned : (es : List IdealEntry) (p : Partition) (s : Sequence) → AreTurned IsDone es → AreTurned IsDone (map (turned_online p s) es)
  online_turned es p s k = changed_turned (turned_online p s) es (online_place p s) (online_kept p s) k

  pub remove_turned : (es : List IdealEntry) (p : Partition) (s : Sequence) → AreTurned IsDone es → AreTurned IsDone (remove_segment_of es p s)
  remove_turned es p s k o q e next done has at_p at_q =
      let n = entry_names (remove_segment_of es p s) o (record { 0 = q + 1 }) next in
      k o q e (names_entry es o (record { 0 = q + 1 }) (n.0, (Has-filter (λ (x : IdealEntry). not (is_of p s x)) es n.0 n.1).0, n.2, n.3)) done
      (Has-filter (λ (x : IdealEntry). not (is_of p s x)) es e has).0 at_p at_q

  -- ---- a segment gets entries

  -- the segment before it isn't Done, or its entries are ONLINE; the next one has no entries
  with_turned : (es : List IdealEntry) (p : Partition) (s : Sequence) (is : List Instance) → AreTurned IsDone es
      → ((e : IdealEntry) (q : ℕ) → q + 1 ≡ s.0 → IsDone p q → Has es e → e.partition ≡ p → e.sequence.0 ≡ q → e.mode ≡ Online)
      → (HasEntry es p (s.0 + 1) → ⊥) → AreTurned IsDone (with_consuming es p s is)
  with_turned es p s is k before after o q e next done has at_p at_q =
      by_both (Has-with_consuming es p s is n.0 n.1) (Has-with_consuming es p s is e has)
    where
      n : (x : IdealEntry) × Has (with_consuming es p s is) x × (x.partition ≡ o) × (x.sequence.0 ≡ q + 1)
      n = entry_names (with_consuming es p s is) o (record { 0 = q + 1 }) next

      by_both : Has es n.0 ⊎ ((n.0.partition ≡ p) × (n.0.sequence ≡ s) × (n.0.mode ≡ Consuming))
          → Has es e ⊎ ((e.partition ≡ p) × (e.sequence ≡ s) × (e.mode ≡ Consuming)) → e.mode ≡ Online
      by_both (inl old) (inl there) = k o q e (names_entry es o (record { 0 = q + 1 }) (n.0, old, n.2, n.3)) done there at_p at_q
      by_both (inr new) (inl there) =
          let same : o ≡ p = sym n.2 ∙ new.0 in
          let at : q + 1 ≡ s.0 = sym n.3 ∙ ap (λ (x : Sequence). x.0) new.1 in
          before e q at (subst (λ (x : Partition). IsDone x q) same done) there (at_p ∙ same) at_q
      by_both (inl old) (inr own) =
          let same : o ≡ p = sym at_p ∙ own.0 in
          let at : q + 1 ≡ s.0 + 1 = omega (arith, at_q, ap (λ (x : Sequence). x.0) own.1) in
          let has : HasEntry es o (q + 1) = names_entry es o (record { 0 = q + 1 }) (n.0, old, n.2, n.3) in
          absurd (after (subst (λ (x : Partition). HasEntry es x (s.0 + 1)) same (subst (HasEntry es o) at has)))
      by_both (inr new) (inr own) =
          absurd (omega (arith, at_q, ap (λ (x : Sequence). x.0) own.1, n.3, ap (λ (x : Sequence). x.0) new.1))

  pub commit_turned : (es : List IdealEntry) (p : Partition) (s : Sequence) (next : List Instance) → IsUnbroken es p → AreTurned IsDone es
      → AreTurned IsDone (commit_step_of es p s next)
  commit_turned es p s next whole k = by_tests (has_entry es p s) (has_entry es p (next_sequence s)) refl refl
    where
      own_online : (e : IdealEntry) (q : ℕ) → q + 1 ≡ s.0 + 1 → IsDone p q → Has (map (turned_online p s) es) e → e.partition ≡ p → e.sequence.0 ≡ q → e.mode ≡ Online
      own_online e q at done has at_p at_q =
          let x = Has-map (turned_online p s) es e has in
          let place = online_place p s x.0 in
          let here_p : x.0.partition ≡ p = sym place.0 ∙ ap (λ (y : IdealEntry). y.partition) x.2 ∙ at_p in
          let here_q : x.0.sequence.0 ≡ q = ap (λ (y : Sequence). y.0) (sym place.1) ∙ ap (λ (y : IdealEntry). y.sequence.0) x.2 ∙ at_q in
          ap (λ (y : IdealEntry). y.mode) (sym x.2) ∙ turned_is p s x.0 here_p (omega (arith, here_q, at))

      no_gap : has_entry es p s ≡ true → has_entry es p (next_sequence s) ≡ false → HasEntry (map (turned_online p s) es) p ((s.0 + 1) + 1) → ⊥
      no_gap here none far =
          let old = place_from (turned_online p s) (online_place p s) es p ((s.0 + 1) + 1) far in
          both_ways (has_entry es p (next_sequence s)) none (whole s.0 (s.0 + 1) ((s.0 + 1) + 1) (omega arith) (omega arith) here old)

      by_tests : (b c : Bool) → has_entry es p s ≡ b → has_entry es p (next_sequence s) ≡ c
          → AreTurned IsDone (cond b (cond c (map (turned_online p s) es) (with_consuming (map (turned_online p s) es) p (next_sequence s) next)) es)
      by_tests false c here there = k
      by_tests true true here there = online_turned es p s k
      by_tests true false here there =
          with_turned (map (turned_online p s) es) p (next_sequence s) next (online_turned es p s k) own_online (no_gap here there)

  -- a segment whose predecessor isn't Done
  pub add_turned : (es : List IdealEntry) (p : Partition) (s : Sequence) (is : List Instance) → IsUnbroken es p → AreTurned IsDone es
      → ((q : ℕ) → q + 1 ≡ s.0 → IsDone p q → ⊥) → AreTurned IsDone (add_consuming_of es p s is)
  add_turned es p s is whole k undone = by_tests (has_entry es p s) (goes_on es p s.0) refl refl
    where
      none_after : has_entry es p s ≡ false → goes_on es p s.0 ≡ true → HasEntry es p (s.0 + 1) → ⊥
      none_after none on far = by_first (s.0 == 0) refl on
        where
          by_first : (b : Bool) → (s.0 == 0) ≡ b → cond b (not (has_partition es p)) (has_entry es p (record { 0 = s.0 - 1 })) ≡ true → ⊥
          by_first true z empty =
              let n = entry_names es p (record { 0 = s.0 + 1 }) far in
              both_ways (has_partition es p) (not-true (has_partition es p) empty) (in_partition es p n.0 n.1 n.2)
          by_first false z before =
              both_ways (has_entry es p s) none (whole (s.0 - 1) s.0 (s.0 + 1) (omega arith) (omega arith) before far)

      by_tests : (b c : Bool) → has_entry es p s ≡ b → goes_on es p s.0 ≡ c → AreTurned IsDone (cond b es (cond c (with_consuming es p s is) es))
      by_tests true c here on = k
      by_tests false false here on = k
      by_tests false true here on =
          with_turned es p s is k (λ e q at done has at_p at_q. absurd (undone q at done)) (none_after here on)
