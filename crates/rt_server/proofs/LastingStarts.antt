-- What lasts is true of a fresh server.
use Rattle.std.proofs.Common.{◌≡◌, ◌==◌, ◌||◌, ◌<◌, ◌≤◌, ◌⊎◌, inl, inr, ℕ, zero, suc, Bool, true, false, cond, List, [], ◌∷◌, ◌++◌, Option, Some, None, refl, sym, ap, subst, ◌∙◌, arith}
use Rattle.std.specs.BTreeMap.{insert_entry}
use Rattle.std.specs.List.{list_any}
use Rattle.std.proofs.lemmas.Bool.{cases_eq, eqb-true}
use Rattle.rt_base.specs.declared.numbers.Instance.{Instance}
use Rattle.rt_base.specs.declared.numbers.Partition.{Partition}
use Rattle.rt_base.specs.declared.numbers.Sequence.{Sequence}
use Rattle.rt_lists.specs.Members.{Has}
use Rattle.rt_lists.proofs.Members.{Has-append_left, Has-append_right, Has-push}
use Rattle.rt_model.specs.declared.ideal_state.IdealEntry.{IdealEntry}
use Rattle.rt_model.specs.declared.ideal_state.Mode.{Mode}
use Rattle.rt_model.specs.declared.ideal_state.Mode.TheVariants.{Consuming}
use Rattle.rt_model.specs.declared.setup.Setup.{Setup}
use Rattle.rt_model.specs.Ideal.{consuming, is_before, with_consuming, with_entry}
use Rattle.rt_model.specs.Setup.{IsSetup}
use Rattle.rt_model.specs.Starting.{Starting, starting_boots, starting_entries, starting_ideal, starting_meta, starting_metas}
use Rattle.rt_model.proofs.Entries.{Has-with_consuming, names_entry, with_consuming-Has, with_entry-Has}
use Rattle.rt_model.proofs.Histories.{same_instance, same_partition}
use Rattle.rt_model.proofs.Lawful.{has_chains, start_is_lawful}
use Rattle.rt_model.proofs.Starts.{IsCreated-start, boot_starts, starting_entry}
use Rattle.rt_assign.specs.Placement.{replicas_of}
use Rattle.rt_store.specs.Contents.{starting_of}
use Rattle.rt_past.specs.Past.{Past}
use Rattle.rt_past.specs.IsPast.{fresh_past}
use Rattle.rt_past.specs.Segments.{HadEntry, IsAssignedTo, IsBegun, IsBegunAs}
use Rattle.rt_past.proofs.Starts.{past_starts}
use Rattle.rt_replica.proofs.KeepsOwn.{started_own}
use Rattle.rt_replica.proofs.ReadBack.{replica_back}
use Rattle.rt_entry.specs.declared.entry.Entry.{Entry}
use Rattle.rt_entry.specs.declared.entry.Entry.TheVariants.{Replica}
use Rattle.rt_server.specs.Calls.{targets_of}
use Rattle.rt_server.specs.Fresh.{IsFreshOf, first_meta, first_replica, first_segments, first_sequence, fresh, is_assigned, with_first}
use Rattle.rt_server.specs.Lasting.{AreEntriesOver, IsEntryOver, IsServerOver}
use Rattle.rt_server.specs.Table.{Segment, Segments, entry_of, segment_cmp, target_of}
use Rattle.rt_server.proofs.Kept.{fresh_is}
use Rattle.rt_server.proofs.EachEntry.{add_each}
use Rattle.rt_server.proofs.LastingEntries.{segment}
use Rattle.rt_server.proofs.Listed.{lookup_put}
use Rattle.rt_server.proofs.Merge.{is_it, it_is}
use Rattle.rt_server.proofs.LastingTables.{put_again, put_commutes, segment_exact, segment_total}

-- ---- the targets

abbrev put : List (Segment × Mode) → IdealEntry → List (Segment × Mode)
put ts e = insert_entry segment_cmp ts (segment e.partition e.sequence) e.mode

abbrev put_if : Bool → List (Segment × Mode) → IdealEntry → List (Segment × Mode)
put_if b ts e = cond b (put ts e) ts

abbrev is_mine : Instance → IdealEntry → Bool
is_mine i e = e.instance.0 == i.0

abbrev AllConsuming : List IdealEntry → Type 0
AllConsuming es = (e : IdealEntry) → Has es e → e.mode ≡ Consuming

swapped : (a b : Bool) (ts : List (Segment × Mode)) (x d : IdealEntry) → x.mode ≡ d.mode → put_if b (put_if a ts x) d ≡ put_if a (put_if b ts d) x
swapped true true ts x d same =
    put_commutes segment_cmp segment_total segment_exact ts (segment x.partition x.sequence) x.mode (segment d.partition d.sequence) d.mode (λ e. same)
swapped true false ts x d same = refl
swapped false b ts x d same = refl

-- an entry more in its place is a target more in its place
targets_with : (i : Instance) (x : IdealEntry) (es : List IdealEntry) → x.mode ≡ Consuming → AllConsuming es
    → targets_of i (with_entry x es) ≡ put_if (is_mine i x) (targets_of i es) x
targets_with i x [] mode all = refl
targets_with i x (d ∷ es) mode all = by (is_before x d) (targets_with i x es mode (λ e has. all e (inr has)))
  where
    by : (b : Bool) → targets_of i (with_entry x es) ≡ put_if (is_mine i x) (targets_of i es) x
        → targets_of i (cond b (x ∷ d ∷ es) (d ∷ with_entry x es)) ≡ put_if (is_mine i x) (targets_of i (d ∷ es)) x
    by true f = refl
    by false f =
        ap (λ ts. put_if (is_mine i d) ts d) f
        ∙ swapped (is_mine i x) (is_mine i d) (targets_of i es) x d (mode ∙ sym (all d (inl refl)))

consuming_all : (es : List IdealEntry) (p : Partition) (q : Sequence) (is : List Instance) → AllConsuming es → AllConsuming (with_consuming es p q is)
consuming_all es p q is all e has = by (Has-with_consuming es p q is e has)
  where
    by : Has es e ⊎ ((e.partition ≡ p) × (e.sequence ≡ q) × (e.mode ≡ Consuming)) → e.mode ≡ Consuming
    by (inl h) = all e h
    by (inr new) = new.2

again : (i : Instance) (p : Partition) (q : Sequence) (j : Instance) (a b : Bool) (ts : List (Segment × Mode))
    → put_if a (put_if b ts (consuming p q i)) (consuming p q j) ≡ put_if (a || b) ts (consuming p q i)
again i p q j true true ts = put_again segment_cmp segment_total segment_exact ts (segment p q) Consuming
again i p q j true false ts = refl
again i p q j false b ts = refl

-- a segment more on some instances is a target more, where the instance is one of them
targets_consuming : (i : Instance) (es : List IdealEntry) (p : Partition) (q : Sequence) (is : List Instance) → AllConsuming es
    → targets_of i (with_consuming es p q is) ≡ put_if (list_any (λ j. j.0 == i.0) is) (targets_of i es) (consuming p q i)
targets_consuming i es p q [] all = refl
targets_consuming i es p q (j ∷ is) all =
    targets_with i (consuming p q j) (with_consuming es p q is) refl (consuming_all es p q is all)
    ∙ ap (λ ts. put_if (is_mine i (consuming p q j)) ts (consuming p q j)) (targets_consuming i es p q is all)
    ∙ again i p q j (j.0 == i.0) (list_any (λ j. j.0 == i.0) is) (targets_of i es)

-- ---- the entries

any_has : (i : Instance) (is : List Instance) → list_any (λ j. j.0 == i.0) is ≡ true → Has is i
any_has i [] e = absurd (cc)
any_has i (j ∷ is) e = by (j.0 == i.0) refl e (λ h. any_has i is h)
  where
    by : (b : Bool) → (j.0 == i.0) ≡ b → (b || list_any (λ j. j.0 == i.0) is) ≡ true → (list_any (λ j. j.0 == i.0) is ≡ true → Has is i) → Has (j ∷ is) i
    by true same e further = inl (same_instance j i (eqb-true j.0 i.0 same))
    by false other e further = inr (further e)

consuming_has : (es : List IdealEntry) (p : Partition) (q : Sequence) (is : List Instance) (i : Instance) → Has is i → Has (with_consuming es p q is) (consuming p q i)
consuming_has es p q [] i has = absurd has
consuming_has es p q (j ∷ is) i (inl same) = with_entry-Has (consuming p q j) (with_consuming es p q is) (consuming p q i) (inl (ap (consuming p q) same))
consuming_has es p q (j ∷ is) i (inr has) = with_entry-Has (consuming p q j) (with_consuming es p q is) (consuming p q i) (inr (consuming_has es p q is i has))

-- a first segment has its entries
starting_has : (s : Starting) (n : ℕ) (p : Partition) (i : Instance) → p.0 < n → Has (s.instances p) i → Has (starting_entries s n) (consuming p first_sequence i)
starting_has s zero p i lt has = absurd (omega (arith, lt))
starting_has s (suc n) p i lt has = by (cases_eq p.0 n) (λ below. starting_has s n p i below has)
  where
    by : (p.0 ≡ n) ⊎ (p.0 ≡ n → ⊥) → (p.0 < n → Has (starting_entries s n) (consuming p first_sequence i)) → Has (starting_entries s (suc n)) (consuming p first_sequence i)
    by (inl same) further =
        let is : p ≡ record { 0 = n } = same_partition p (record { 0 = n }) same in
        subst (λ x. Has (starting_entries s (suc n)) (consuming x first_sequence i)) (sym is)
        (consuming_has (starting_entries s n) (record { 0 = n }) first_sequence (s.instances (record { 0 = n })) i (subst (λ x. Has (s.instances x) i) is has))
    by (inr other) further =
        with_consuming-Has (starting_entries s n) (record { 0 = n }) first_sequence (s.instances (record { 0 = n })) (consuming p first_sequence i)
        (further (omega (arith, lt, other)))

-- a first segment has its node
metas_has : (s : Starting) (n p : ℕ) → p < n → Has (starting_metas s n) (starting_meta s p)
metas_has s zero p lt = absurd (omega (arith, lt))
metas_has s (suc n) p lt = by (cases_eq p n) (λ below. metas_has s n p below)
  where
    by : (p ≡ n) ⊎ (p ≡ n → ⊥) → (p < n → Has (starting_metas s n) (starting_meta s p)) → Has (starting_metas s (suc n)) (starting_meta s p)
    by (inl same) further =
        subst (λ x. Has (starting_metas s n ++ starting_meta s n ∷ []) (starting_meta s x)) (sym same) (Has-push (starting_metas s n) (starting_meta s n))
    by (inr other) further = Has-append_left (starting_metas s n) (starting_meta s n ∷ []) (starting_meta s p) (further (omega (arith, lt, other)))

-- ---- the table, partition by partition

abbrev an_entry : Entry → Option Entry
an_entry e = Some e

abbrev a_mode : Mode → Option Mode
a_mode m = Some m

no_mode : (m : Mode) → None ≡ a_mode m → ⊥
no_mode m e = cc

same_mode : (m n : Mode) → a_mode m ≡ a_mode n → m ≡ n
same_mode m n e = cc

module _ (setup : Setup) (i : Instance) where
  abbrev start : Starting
  start = starting_of setup

  abbrev past : Past
  past = fresh_past setup

  first_begun : (p : Partition) → p.0 < setup.partitions → IsBegun past.history p first_sequence (first_meta setup p).start
  first_begun p lt =
      let c = IsCreated-start start p lt in
      let zeroth = (has_chains start past.history (start_is_lawful start) p lt).from_zero c.0 (record { has = c.1; is_of = c.2; starts = c.3 }) in
      (c.0, c.1, c.2, (c.3, zeroth))

  first_named : (p : Partition) → p.0 < setup.partitions → IsBegunAs past.history p first_sequence (first_meta setup p).name
  first_named p lt = (
    starting_meta start p.0,
    Has-append_left (starting_boots start.servers ++ starting_metas start start.partitions) (starting_ideal start ∷ []) (starting_meta start p.0)
        (Has-append_right (starting_boots start.servers) (starting_metas start start.partitions) (starting_meta start p.0) (metas_has start start.partitions p.0 lt)),
    refl,
    (tt, refl),
  )

  first_entered : (p : Partition) → p.0 < setup.partitions → IsAssignedTo setup p i → HadEntry past.history p first_sequence
  first_entered p lt assigned = (
    starting_ideal start,
    record { has = Has-push (starting_boots start.servers ++ starting_metas start start.partitions) (starting_ideal start); is_ideal = refl },
    names_entry (starting_entries start setup.partitions) p first_sequence (consuming p first_sequence i, starting_has start setup.partitions p i lt assigned, refl, refl),
  )

  first_over : (p : Partition) → p.0 < setup.partitions → is_assigned setup p i ≡ true → IsEntryOver setup past i 0 (segment p first_sequence) (Replica (first_replica setup p))
  first_over p lt mine =
      let assigned : IsAssignedTo setup p i = any_has i (replicas_of p setup.table.replication setup.servers) mine in
      let own = started_own setup past i 0 p first_sequence (first_meta setup p) setup.start lt (inr (assigned, first_entered p lt assigned)) (first_begun p lt) (first_named p lt) in
      (refl, replica_back setup past (past_starts setup) i 0 (first_replica setup p) own)

  record IsFirst (n : ℕ) (t : Segments) : Type 0 where
    targets : t.targets ≡ targets_of i (starting_entries start n)
    entries : AreEntriesOver setup past i 0 t.entries

  one_more : (n : ℕ) (t : Segments) (b : Bool) → n < setup.partitions → is_assigned setup (record { 0 = n }) i ≡ b → IsFirst n t → IsFirst (suc n) (cond b (with_first setup (record { 0 = n }) t) t)
  one_more n t true lt mine f =
      let p : Partition = record { 0 = n } in
      let es = starting_entries start n in
      let new = Replica (first_replica setup p) in
      record {
        targets =
            ap (λ ts. put ts (consuming p first_sequence i)) f.targets
            ∙ sym (targets_consuming i es p first_sequence (start.instances p) (λ e has. (starting_entry start n e has).2)
            ∙ ap (λ b. put_if b (targets_of i es) (consuming p first_sequence i)) mine);
        entries = add_each (IsEntryOver setup past i 0) t.entries p first_sequence new f.entries (first_over p lt mine);
      }
  one_more n t false lt mine f =
      let p : Partition = record { 0 = n } in
      let es = starting_entries start n in
      record {
        targets =
            f.targets
            ∙ sym (targets_consuming i es p first_sequence (start.instances p) (λ e has. (starting_entry start n e has).2)
            ∙ ap (λ b. put_if b (targets_of i es) (consuming p first_sequence i)) mine);
        entries = f.entries;
      }

  firsts : (n : ℕ) → n ≤ setup.partitions → IsFirst n (first_segments setup i n)
  firsts zero le = record { targets = refl; entries = λ x has. absurd has }
  firsts (suc n) le =
      one_more n (first_segments setup i n) (is_assigned setup (record { 0 = n }) i) (omega (arith, le)) refl (firsts n (omega (arith, le)))

  pub fresh_over : IsSetup setup → i.0 < setup.servers → IsServerOver setup past (fresh setup i)
  fresh_over is lt =
      let f = firsts setup.partitions (omega arith) in
      record {
        of_setup = refl;
        kept = fresh_is setup i setup.partitions is;
        exists = lt;
        incarnation = boot_starts start i lt;
        counted = omega arith;
        targets = inr (
          starting_ideal start,
          record { has = Has-push (starting_boots start.servers ++ starting_metas start start.partitions) (starting_ideal start); is_ideal = refl },
          f.targets,
        );
        entries = f.entries;
      }

  -- ---- what a fresh server has

  -- neither target nor entry, or the first segment's
  abbrev IsTied : Segments → Partition → Sequence → Type 0
  IsTied t p q =
      ((target_of t p q ≡ None) × (entry_of t p q ≡ None))
      ⊎ ((target_of t p q ≡ Some Consuming) × (q ≡ first_sequence) × (entry_of t p q ≡ Some (Replica (first_replica setup p))))

  tied_more : (n : Partition) (t : Segments) (b : Bool) (p : Partition) (q : Sequence) → IsTied t p q → IsTied (cond b (with_first setup n t) t) p q
  tied_more n t false p q tied = tied
  tied_more n t true p q tied = by (is_it (segment p q) (segment n first_sequence)) refl
    where
      target : target_of (with_first setup n t) p q ≡ cond (is_it (segment p q) (segment n first_sequence)) (Some Consuming) (target_of t p q)
      target = lookup_put t.targets (segment n first_sequence) (segment p q) Consuming

      entry : entry_of (with_first setup n t) p q ≡ cond (is_it (segment p q) (segment n first_sequence)) (Some (Replica (first_replica setup n))) (entry_of t p q)
      entry = lookup_put t.entries (segment n first_sequence) (segment p q) (Replica (first_replica setup n))

      here : (b : Bool) → is_it (segment p q) (segment n first_sequence) ≡ b → target_of (with_first setup n t) p q ≡ cond b (Some Consuming) (target_of t p q)
      here b c = target ∙ ap (λ z. cond z (Some Consuming) (target_of t p q)) c

      there : (b : Bool) → is_it (segment p q) (segment n first_sequence) ≡ b → entry_of (with_first setup n t) p q ≡ cond b (Some (Replica (first_replica setup n))) (entry_of t p q)
      there b c = entry ∙ ap (λ z. cond z (Some (Replica (first_replica setup n))) (entry_of t p q)) c

      stays : is_it (segment p q) (segment n first_sequence) ≡ false → IsTied t p q → IsTied (with_first setup n t) p q
      stays c (inl none) = inl (here false c ∙ none.0, there false c ∙ none.1)
      stays c (inr (mode, of, replica)) = inr (here false c ∙ mode, of, there false c ∙ replica)

      by : (b : Bool) → is_it (segment p q) (segment n first_sequence) ≡ b → IsTied (with_first setup n t) p q
      by true c =
          let same = it_is (segment p q) (segment n first_sequence) c in
          let at : n ≡ p = ap (λ (s : Segment). s.0) (sym same) in
          inr (here true c, ap (λ (s : Segment). s.1) same, there true c ∙ ap (λ x. an_entry (Replica (first_replica setup x))) at)
      by false c = stays c tied

  tied : (n : ℕ) (p : Partition) (q : Sequence) → IsTied (first_segments setup i n) p q
  tied zero p q = inl (refl, refl)
  tied (suc n) p q = tied_more (record { 0 = n }) (first_segments setup i n) (is_assigned setup (record { 0 = n }) i) p q (tied n p q)

  held_by : (t : Segments) (p : Partition) (q : Sequence) (mode : Mode) → IsTied t p q → target_of t p q ≡ Some mode
      → (mode ≡ Consuming) × (q ≡ first_sequence) × (entry_of t p q ≡ Some (Replica (first_replica setup p)))
  held_by t p q mode (inl none) e = absurd (no_mode mode (sym none.0 ∙ e))
  held_by t p q mode (inr (is, of, replica)) e = (same_mode mode Consuming (sym e ∙ is), of, replica)

  others_by : (t : Segments) (p : Partition) (q : Sequence) → IsTied t p q → target_of t p q ≡ None → entry_of t p q ≡ None
  others_by t p q (inl none) e = none.1
  others_by t p q (inr (is, of, replica)) e = absurd (no_mode Consuming (sym e ∙ is))

  pub fresh_is_of : IsFreshOf setup i (fresh setup i)
  fresh_is_of = record {
    of_setup = refl;
    numbers = refl;
    targets = (firsts setup.partitions (omega arith)).targets;
    held = λ p q mode e. held_by (first_segments setup i setup.partitions) p q mode (tied setup.partitions p q) e;
    others = λ p q e. others_by (first_segments setup i setup.partitions) p q (tied setup.partitions p q) e;
  }
