-- What the present ideal state asks: of whom, and of which segments.
use Rattle.std.proofs.Common.{◌≡◌, ℕ, zero, suc, ◌+◌, ◌-◌, ◌<◌, ◌≤◌, ◌⊎◌, inl, inr, Bool, true, false, cond, List, [], ◌∷◌, Option, Some, refl, sym, ◌∙◌, ap, subst, arith, map, slice_get}
use Rattle.std.specs.Prelude.{◌==◌, IsSome}
use Rattle.std.specs.List.{range_with_len}
use Rattle.std.proofs.lemmas.Bool.{and_from, and_parts, cases_lt, cond-true, cond-false, eq-eqb, eqb-true, true≢false}
use Rattle.std.proofs.lemmas.Option.{none-some, same_Some}
use Rattle.rt_base.specs.declared.numbers.Instance.{Instance}
use Rattle.rt_base.specs.declared.numbers.Partition.{Partition}
use Rattle.rt_base.specs.declared.numbers.Sequence.{Sequence}
use Rattle.rt_lists.specs.Members.{Has}
use Rattle.rt_lists.proofs.Members.{Has-place}
use Rattle.rt_model.specs.Chain.{deletions_of, IsPresent}
use Rattle.rt_model.specs.Entries.{entries_by, entries_in, entries_of}
use Rattle.rt_model.specs.History.{last_write, value_by, value_in}
use Rattle.rt_model.specs.Ideal.{has_entry, is_of, is_of_instance, mode_of}
use Rattle.rt_model.specs.Lawful.{IsLawfulHistory}
use Rattle.rt_model.specs.Laws.{IsGoneLast}
use Rattle.rt_model.specs.Metadata.{listed_write, metadata_of, node_key, sequences_of, IsDone, IsDoneStatus}
use Rattle.rt_model.specs.Order.{NamesOnce}
use Rattle.rt_model.specs.Setup.{IsSetup}
use Rattle.rt_model.specs.Starting.{Starting}
use Rattle.rt_model.specs.declared.ideal_state.IdealEntry.{IdealEntry}
use Rattle.rt_model.specs.declared.ideal_state.Mode.{Mode}
use Rattle.rt_model.specs.declared.ideal_state.Mode.TheVariants.{Online}
use Rattle.rt_model.specs.declared.node.Key.TheVariants as key
use Rattle.rt_model.specs.declared.node.Listed.{Listed}
use Rattle.rt_model.specs.declared.node.Node.{Node}
use Rattle.rt_model.specs.declared.node.Node.TheVariants as node
use Rattle.rt_model.specs.declared.node.Seen.{Seen}
use Rattle.rt_model.specs.declared.setup.Setup.{Setup}
use Rattle.rt_model.proofs.Chains.{IsDone-final}
use Rattle.rt_model.proofs.Entries.{is_of-true, names_entry}
use Rattle.rt_model.proofs.Histories.{same_instance, same_sequence, value_of-last}
use Rattle.rt_model.proofs.IdealStates.{has_ordered_entries}
use Rattle.rt_model.proofs.Kept.{last_write-Has}
use Rattle.rt_model.proofs.Lawful.{has_chains, has_endings, has_ideal_state, has_passed_deletions}
use Rattle.rt_model.proofs.Listings.{has_listings}
use Rattle.rt_past.specs.IsPast.{IsPast}
use Rattle.rt_past.specs.Past.{Past}
use Rattle.rt_past.specs.Writes.{AreRightEntries, IsRightNode}
use Rattle.rt_store.specs.Contents.{starting_of}
use Rattle.rt_store.proofs.Assigned.{setup_assigned}
use Rattle.rt_store.proofs.Listing.{value_has}
use Rattle.rt_heal.proofs.Mended.{present_grounded}

-- ---- an instance's mode

-- the entry that has it
pub record IsAsked (es : List IdealEntry) (p : Partition) (q : Sequence) (i : Instance) (m : Mode) : Type 0 where
  pub entry : IdealEntry
  pub there : Has es entry
  pub partition : entry.partition ≡ p
  pub sequence : entry.sequence ≡ q
  pub instance : entry.instance ≡ i
  pub mode : entry.mode ≡ m

abbrev some_mode : Mode → Option Mode
some_mode m = Some m

pub mode_asked : (es : List IdealEntry) (p : Partition) (q : Sequence) (i : Instance) (m : Mode) → mode_of es p q i ≡ Some m → IsAsked es p q i m
mode_asked [] p q i m h = absurd (none-some m h)
mode_asked (e ∷ es) p q i m h = by_test (is_of_instance p q i e) refl h (mode_asked es p q i m)
  where
    by_test : (b : Bool) → is_of_instance p q i e ≡ b → cond b (some_mode e.mode) (mode_of es p q i) ≡ Some m
        → (mode_of es p q i ≡ Some m → IsAsked es p q i m) → IsAsked (e ∷ es) p q i m
    by_test true is found further =
        let parts = and_parts (is_of p q e) (e.instance.0 == i.0) is in
        let at = is_of-true p q e parts.0 in
        record {
          entry = e;
          there = inl refl;
          partition = at.0;
          sequence = same_sequence e.sequence q at.1;
          instance = same_instance e.instance i (eqb-true e.instance.0 i.0 parts.1);
          mode = same_Some e.mode m found;
        }
    by_test false is found further =
        let a = further found in
        record { entry = a.entry; there = inr a.there; partition = a.partition; sequence = a.sequence; instance = a.instance; mode = a.mode }

itself : (e : IdealEntry) → is_of_instance e.partition e.sequence e.instance e ≡ true
itself e =
    and_from (is_of e.partition e.sequence e) (e.instance.0 == e.instance.0)
    (and_from (e.partition.0 == e.partition.0) (e.sequence.0 == e.sequence.0)
    (eq-eqb e.partition.0 e.partition.0 refl) (eq-eqb e.sequence.0 e.sequence.0 refl))
    (eq-eqb e.instance.0 e.instance.0 refl)

mode_there : (es : List IdealEntry) (p : Partition) (q : Sequence) (i : Instance) (e : IdealEntry) → is_of_instance p q i e ≡ true → Has es e
    → (m : Mode) × (mode_of es p q i ≡ Some m)
mode_there [] p q i e is has = absurd has
mode_there (x ∷ es) p q i e is has = by_test (is_of_instance p q i x) refl has (mode_there es p q i e is)
  where
    by_test : (b : Bool) → is_of_instance p q i x ≡ b → (x ≡ e) ⊎ Has es e → (Has es e → (m : Mode) × (mode_of es p q i ≡ Some m))
        → (m : Mode) × (mode_of (x ∷ es) p q i ≡ Some m)
    by_test true at has further = (x.mode, cond-true (is_of_instance p q i x) (some_mode x.mode) (mode_of es p q i) at)
    by_test false at (inl same) further = absurd (true≢false (sym is ∙ ap (is_of_instance p q i) (sym same) ∙ at))
    by_test false at (inr has) further =
        let f = further has in (f.0, cond-false (is_of_instance p q i x) (some_mode x.mode) (mode_of es p q i) at ∙ f.1)

-- an entry has its own mode, where no instance is named twice in a segment
pub entry_mode : (es : List IdealEntry) (e : IdealEntry) → NamesOnce es → Has es e → mode_of es e.partition e.sequence e.instance ≡ Some e.mode
entry_mode es e once has =
    let found = mode_there es e.partition e.sequence e.instance e (itself e) has in
    let a = mode_asked es e.partition e.sequence e.instance found.0 found.1 in
    let mine = Has-place es e has in
    let other = Has-place es a.entry a.there in
    let place = once mine.0 other.0 e a.entry mine.1 other.1 (sym a.partition) (sym a.sequence) (sym a.instance) in
    let same : a.entry ≡ e = same_Some a.entry e (sym other.1 ∙ ap (slice_get es) (sym place) ∙ mine.1) in
    found.1 ∙ ap some_mode (sym a.mode ∙ ap (λ (x : IdealEntry). x.mode) same)

-- ---- of a past

module _ (setup : Setup) (past : Past) (right : IsPast setup past) where
  -- the present entries are of partitions of the setup, and of instances that are assigned to them
  pub present_right : AreRightEntries setup (entries_of past.history)
  present_right =
      let there = has_ideal_state (starting_of setup) past.history right.lawful in
      let w = there.0 in
      let entries : entries_of past.history ≡ there.1.entries = ap entries_in (value_of-last past.history key.Ideal w there.2).0 ∙ ap entries_by there.3 in
      let good = right.writes w (value_has past.history key.Ideal w there.2).0 in
      subst (AreRightEntries setup) (sym entries) (subst (IsRightNode setup past w.key) there.3 good)

  -- and name no instance twice in a segment
  pub present_once : IsSetup setup → NamesOnce (entries_of past.history)
  present_once is =
      let there = has_ideal_state (starting_of setup) past.history right.lawful in
      let of_key = value_has past.history key.Ideal there.0 there.2 in
      let entries : entries_of past.history ≡ entries_by there.0.node = ap entries_in (value_of-last past.history key.Ideal there.0 there.2).0 in
      let once = (has_ordered_entries (starting_of setup) past.history (setup_assigned setup is) right.lawful there.0
      (record { has = of_key.0; is_ideal = of_key.1 })).1 in
      subst NamesOnce (sym entries) once

-- ---- a present segment is listed

abbrev number : Listed → ℕ
number l = l.sequence.0

numbers : (x y : ℕ) (xs ys : List ℕ) → x ∷ xs ≡ y ∷ ys → (x ≡ y) × (xs ≡ ys)
numbers x y xs ys e = (cc, cc)

in_run : (ls : List Listed) (a n s : ℕ) → map number ls ≡ range_with_len a n → a ≤ s → s < a + n → (l : Listed) × Has ls l × (l.sequence.0 ≡ s)
in_run ls a zero s run least most = absurd (omega (arith, least, most))
in_run [] a (suc n) s run least most = absurd (cc)
in_run (l ∷ ls) a (suc n) s run least most = by_place (cases_lt a s) (in_run ls (a + 1) n s both.1)
  where
    both : (l.sequence.0 ≡ a) × (map number ls ≡ range_with_len (a + 1) n)
    both = numbers l.sequence.0 a (map number ls) (range_with_len (a + 1) n) run

    by_place : (a < s) ⊎ (s ≤ a) → (a + 1 ≤ s → s < (a + 1) + n → (m : Listed) × Has ls m × (m.sequence.0 ≡ s))
        → (m : Listed) × Has (l ∷ ls) m × (m.sequence.0 ≡ s)
    by_place (inl lt) further = let f = further (omega (arith, lt)) (omega (arith, most)) in (f.0, inr f.1, f.2)
    by_place (inr le) further = (l, inl refl, omega (arith, le, least, both.0))

done_value : (n : Node) (w : Seen) → IsDone n → value_by n w ≡ Some w
done_value (node.Meta m) w d = refl
done_value (node.Ideal i) w d = absurd d
done_value node.Boot w d = absurd d
done_value node.Gone w d = absurd d

-- a listed node that is Done
pub record IsListedDone (h : List Seen) (p : Partition) (q : Sequence) : Type 0 where
  pub listed : Listed
  pub has : Has (metadata_of h p) listed
  pub is : listed.sequence ≡ q
  pub done : IsDoneStatus listed.seen.meta.status

module _ (s : Starting) (h : List Seen) (p : Partition) (q : Sequence) (lawful : IsLawfulHistory s h) (within : p.0 < s.partitions) where
  pub present_listed : IsPresent h p q.0 → (l : Listed) × Has (metadata_of h p) l × (l.sequence.0 ≡ q.0)
  present_listed there =
      let chain = has_chains s h lawful p within in
      let bounds = (chain.present q.0).0 there in
      in_run (metadata_of h p) (deletions_of h p) (sequences_of h p - deletions_of h p) q.0
      (has_listings s h lawful p within).run bounds.0 (omega (arith, bounds.0, bounds.1, chain.some))

  -- a segment is listed that is Done by the last write of its node
  pub done_listed : (w : Seen) → IsDone w.node → last_write h (node_key p q.0) ≡ Some w → IsListedDone h p q
  done_listed w done last =
      let value : value_in (last_write h (node_key p q.0)) ≡ Some w = ap value_in last ∙ done_value w.node w done in
      let P : Option Seen → Type 0 = λ o. IsSome o in
      let l = present_listed (subst P (sym value) refl) in
      let same : w ≡ listed_write p l.0 =
      same_Some w (listed_write p l.0)
      (sym value ∙ ap (λ (t : ℕ). value_in (last_write h (node_key p t))) (sym l.2) ∙ (has_listings s h lawful p within).values l.0 l.1) in
      record { listed = l.0; has = l.1; is = same_sequence l.0.sequence q l.2; done = subst (λ (v : Seen). IsDone v.node) same done }

module _ (setup : Setup) (past : Past) (right : IsPast setup past) (p : Partition) (q : Sequence) (within : p.0 < setup.partitions) where
  -- a segment that is ONLINE at an instance is there, and Done
  pub online_listed : (i : Instance) → mode_of (entries_of past.history) p q i ≡ Some Online → IsListedDone past.history p q
  online_listed i asked =
      let a = mode_asked (entries_of past.history) p q i Online asked in
      let done = (present_grounded (starting_of setup) past.history right.lawful a.entry a.there).done a.mode in
      let of_key : node_key a.entry.partition a.entry.sequence.0 ≡ node_key p q.0 =
      ap (λ x. node_key x a.entry.sequence.0) a.partition ∙ ap (λ (x : Sequence). node_key p x.0) a.sequence in
      by_end done.0 done.3
      ((has_endings (starting_of setup) past.history right.lawful p q.0 within).stays done.0
      (record { has = done.1; is_of = done.2 ∙ of_key; final = IsDone-final done.0.node done.3 }))
      (names_entry (entries_of past.history) p q (a.entry, a.there, a.partition, ap (λ (x : Sequence). x.0) a.sequence))
    where
      by_end : (w : Seen) → IsDone w.node → (last_write past.history (node_key p q.0) ≡ Some w) ⊎ IsGoneLast past.history p q.0
          → has_entry (entries_of past.history) p q ≡ true → IsListedDone past.history p q
      by_end w done (inr (g, last, gone)) entered =
          let written = last_write-Has past.history (node_key p q.0) g last in
          let passed = has_passed_deletions (starting_of setup) past.history right.lawful p q.0 q.0 (g, written.0, written.1, gone) entered in
          absurd (omega (arith, passed))
      by_end w done (inl last) entered = done_listed (starting_of setup) past.history p q right.lawful within w done last
