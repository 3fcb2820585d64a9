-- A step of a retirement: what it makes of the retirement, and of what was written.
use Rattle.std.proofs.Common.{◌≡◌, ◌⊎◌, inl, inr, ℕ, ◌+◌, ◌<◌, ◌≤◌, Bool, true, false, cond, not, nat_lt, List, [], ◌∷◌, ◌++◌, Option, Some, None, Result, Ok, Err, refl, sym, ◌∙◌, ap, subst, arith, length, get_or}
use Rattle.std.specs.List.{range_with_len}
use Rattle.std.specs.Prelude.{◌||◌, map}
use Rattle.std.proofs.lemmas.Bool.{cases_lt, false≢true}
use Rattle.std.proofs.lemmas.List.{length-map}
use Rattle.std.proofs.lemmas.List.FromFn.{get_or-range_with_len, length-range_with_len}
use Rattle.std.proofs.lemmas.Option.{none-some, same_Some}
use Rattle.rt_base.specs.Faults.{fault_of, left_under}
use Rattle.rt_base.specs.declared.numbers.Moment.{Moment}
use Rattle.rt_base.specs.declared.numbers.Partition.{Partition}
use Rattle.rt_base.specs.declared.numbers.Sequence.{Sequence}
use Rattle.rt_lists.proofs.Members.{Has-front}
use Rattle.rt_lists.specs.Members.{Has, IsFront}
use Rattle.rt_model.specs.Entries.{entries_by, entries_in, entries_of}
use Rattle.rt_model.specs.History.{last_write, value_of}
use Rattle.rt_model.specs.Ideal.{has_entry, next_sequence, remove_segment_of}
use Rattle.rt_model.specs.Lawful.{delete, set, written_by, IsLawfulHistory, Write}
use Rattle.rt_model.specs.Metadata.{listed_write, metadata_of, node_key, sequences_of}
use Rattle.rt_model.specs.Moments.{later}
use Rattle.rt_model.specs.Starting.{Starting}
use Rattle.rt_model.specs.declared.ideal_state.IdealEntry.{IdealEntry}
use Rattle.rt_model.specs.declared.ideal_state.IdealState.{IdealState}
use Rattle.rt_model.specs.declared.node.Key.TheVariants as key
use Rattle.rt_model.specs.declared.node.Listed.{Listed}
use Rattle.rt_model.specs.declared.node.Node.TheVariants as node
use Rattle.rt_model.specs.declared.node.Seen.{Seen}
use Rattle.rt_model.proofs.Histories.{Stands-last}
use Rattle.rt_model.proofs.Lawful.{has_chains, versions_count_writes}
use Rattle.rt_model.proofs.Listings.{has_listings, listed_has}
use Rattle.rt_repair.proofs.Lists.{lowest_again}
use Rattle.rt_repair.proofs.MayRepair.{state_read}
use Rattle.rt_repair.proofs.Setting.{retire_leaves}
use Rattle.rt_repair.specs.IsRepair.{HasIdeal}
use Rattle.rt_repair.specs.IsRetire.{Remembers}
use Rattle.rt_repair.specs.ReadNode.{listed_again, lowest_listed, lowest_node, read_by}
use Rattle.rt_repair.specs.RetireSteps.{after_list, after_read, deleted, removed, with_ideal, Stepped}
use Rattle.rt_repair.specs.Retired.{is_ended, retire_by, retire_node}
use Rattle.rt_repair.specs.Retirement.{delete_write, goes, remove_write, retiring_at, Retirement}
use Rattle.rt_repair.specs.Setting.{retire_write, retire_write_at, retire_write_by, writes_after}
use Rattle.rt_repair.specs.Told.{retire_at, retire_deleted, retire_done, retire_ended, retire_stepped}
use Rattle.rt_repair.specs.declared.read_node.ReadNode.{ReadNode}
use Rattle.rt_repair.specs.declared.retirement.RetireStage.{RetireStage}
use Rattle.rt_repair.specs.declared.retirement.RetireStage.TheVariants as stage
use Rattle.rt_repair.specs.declared.retiring.RetireStep.{RetireStep}
use Rattle.rt_repair.specs.declared.retiring.RetireStep.TheVariants as step
use Rattle.rt_repair.specs.declared.retiring.Retiring.{Retiring}
use Rattle.rt_repair.specs.declared.retiring.Retiring.TheVariants as decision
use Rattle.rt_store.proofs.Seeing.{effect_of}
use Rattle.rt_store.proofs.Told.{leaves_on, read_same}
use Rattle.rt_store.specs.Answers.{after_by, after_call, answer_of, found_in, listing, reading, refusal_of, Leaves}
use Rattle.rt_store.specs.Calls.{answer_on, told_on}
use Rattle.rt_store.specs.Meaning.{Told}
use Rattle.rt_store.specs.declared.refused.StoreRefused.{StoreRefused}
use Rattle.rt_store.specs.declared.refused.StoreRefused.TheVariants as store
use Rattle.rt_heal.proofs.Seeing.{plan_met}
use Rattle.rt_recovery.specs.Retiring.{goes_further, is_nothing}
use Rattle.rt_recovery.proofs.Stepping.{unfailing}

-- ---- what is decided of a node

-- it has ended, and was kept so long; and it has entries, or none
pub record Decides (es : List IdealEntry) (p : Partition) (now : Moment) (keep : ℕ) (l : Listed) (s : Sequence) (there : Bool) : Type 0 where
  pub same : l.sequence ≡ s
  pub ended : is_ended l.seen.meta.status ≡ true
  pub old : nat_lt now.0 (later l.seen.meta.written keep).0 ≡ false
  pub has : has_entry es p l.sequence ≡ there

abbrev pub by_tests : Bool → Bool → Bool → Bool → Sequence → Retiring
by_tests ended young there next q =
    cond (not ended || young) decision.Nothing (cond (not there) (decision.Delete q) (cond next (decision.Remove q) decision.Nothing))

removes_by : (ended young there next : Bool) (q s : Sequence) → by_tests ended young there next q ≡ decision.Remove s
    → (q ≡ s) × (ended ≡ true) × (young ≡ false) × (there ≡ true)
removes_by false young there next q s e = absurd (cc)
removes_by true true there next q s e = absurd (cc)
removes_by true false false next q s e = absurd (cc)
removes_by true false true true q s e = (cc, refl, refl, refl)
removes_by true false true false q s e = absurd (cc)

deletes_by : (ended young there next : Bool) (q s : Sequence) → by_tests ended young there next q ≡ decision.Delete s
    → (q ≡ s) × (ended ≡ true) × (young ≡ false) × (there ≡ false)
deletes_by false young there next q s e = absurd (cc)
deletes_by true true there next q s e = absurd (cc)
deletes_by true false false next q s e = (cc, refl, refl, refl)
deletes_by true false true true q s e = absurd (cc)
deletes_by true false true false q s e = absurd (cc)

module _ (es : List IdealEntry) (p : Partition) (now : Moment) (keep : ℕ) (s : Sequence) where
  pub removes_its : (l : Listed) → retire_node p l.sequence l.seen.meta es now keep ≡ decision.Remove s → Decides es p now keep l s true
  removes_its l e =
      let k = removes_by (is_ended l.seen.meta.status) (nat_lt now.0 (later l.seen.meta.written keep).0) (has_entry es p l.sequence)
      (has_entry es p (next_sequence l.sequence)) l.sequence s e in
      record { same = k.0; ended = k.1; old = k.2; has = k.3 }

  pub deletes_its : (l : Listed) → retire_node p l.sequence l.seen.meta es now keep ≡ decision.Delete s → Decides es p now keep l s false
  deletes_its l e =
      let k = deletes_by (is_ended l.seen.meta.status) (nat_lt now.0 (later l.seen.meta.written keep).0) (has_entry es p l.sequence)
      (has_entry es p (next_sequence l.sequence)) l.sequence s e in
      record { same = k.0; ended = k.1; old = k.2; has = k.3 }

-- ---- the lowest of several

-- the first of a list that has another one behind it
pub record IsFirst (ls : List Listed) (l : Listed) : Type 0 where
  pub second : Listed
  pub rest : List Listed
  pub is : ls ≡ l ∷ second ∷ rest

pub first_of : (ls : List Listed) (l : Listed) → lowest_listed ls ≡ Some l → IsFirst ls l
first_of [] l e = absurd (none-some l e)
first_of (a ∷ []) l e = absurd (none-some l e)
first_of (a ∷ b ∷ ls) l e =
    record { second = b; rest = ls; is = ap (λ (x : Listed). x ∷ b ∷ ls) (same_Some a l e) }

abbrev pub number : Listed → ℕ
number l = l.sequence.0

-- its number is the first of the run, and that of the one behind it comes next
run_starts : (l m : Listed) (ls : List Listed) (d n : ℕ) → map number (l ∷ m ∷ ls) ≡ range_with_len d n → (number l ≡ d) × (number m ≡ d + 1)
run_starts l m ls d n run =
    let many : length ls + 2 ≡ n = omega (arith, length-map (l ∷ m ∷ ls) number, ap (λ (xs : List ℕ). length xs) run, length-range_with_len d n) in
    let first : number l ≡ d + 0 = ap (λ (xs : List ℕ). get_or xs 0 0) run ∙ get_or-range_with_len d n 0 0 (omega (arith, many)) in
    let next : number m ≡ d + 1 = ap (λ (xs : List ℕ). get_or xs 1 0) run ∙ get_or-range_with_len d n 1 0 (omega (arith, many)) in
    (omega (arith, first), next)

-- the lowest segment that was listed at a front of a history: it was written, and isn't the last
pub record WasLowest (h : List Seen) (p : Partition) (l : Listed) : Type 0 where
  pub seen : Has h (listed_write p l)
  pub followed : l.sequence.0 + 1 < sequences_of h p

pub was_lowest : (s : Starting) (h first : List Seen) (p : Partition) (l : Listed) → IsLawfulHistory s h → IsLawfulHistory s first → p.0 < s.partitions
    → IsFront first h → lowest_listed (metadata_of first p) ≡ Some l → WasLowest h p l
was_lowest s h first p l lawful before within front lowest =
    let k = first_of (metadata_of first p) l lowest in
    let m = k.second in
    let run = (has_listings s first before p within).run in
    let numbers = run_starts l m k.rest _ _ (sym (ap (map number) k.is) ∙ run) in
    let has_l : Has (metadata_of first p) l = subst (λ (ls : List Listed). Has ls l) (sym k.is) (inl refl) in
    let has_m : Has (metadata_of first p) m = subst (λ (ls : List Listed). Has ls m) (sym k.is) (inr (inl refl)) in
    let there : Has h (listed_write p m) = Has-front first h (listed_write p m) front (listed_has first p m has_m) in
    record {
      seen = Has-front first h (listed_write p l) front (listed_has first p l has_l);
      followed = by_place m there (omega (arith, numbers.0, numbers.1)) (cases_lt m.sequence.0 (sequences_of h p));
    }
  where
    by_place : (m : Listed) → Has h (listed_write p m) → m.sequence.0 ≡ l.sequence.0 + 1 → (m.sequence.0 < sequences_of h p) ⊎ (sequences_of h p ≤ m.sequence.0)
        → l.sequence.0 + 1 < sequences_of h p
    by_place m there next (inl lt) = omega (arith, next, lt)
    by_place m there next (inr past) = absurd ((has_chains s h lawful p within).uncreated m.sequence.0 (listed_write p m) past there refl)

-- ---- what is written

-- the entries of a segment leave the ideal state, which has ended and was kept as long as that
pub record Removes (p : Partition) (now : Moment) (keep : ℕ) (h : List Seen) (w : Seen) : Type 0 where
  pub segment : Listed
  pub lowest : WasLowest h p segment
  pub ended : is_ended segment.seen.meta.status ≡ true
  pub old : nat_lt now.0 (later segment.seen.meta.written keep).0 ≡ false
  pub at : w.key ≡ key.Ideal
  pub state : IdealState
  pub is : w.node ≡ node.Ideal state
  pub left : state.entries ≡ remove_segment_of (entries_of h) p segment.sequence

-- its node is deleted
pub record Deletes (p : Partition) (h : List Seen) (w : Seen) : Type 0 where
  pub segment : Listed
  pub lowest : WasLowest h p segment
  pub at : w.key ≡ node_key p segment.sequence.0
  pub is : w.node ≡ node.Gone

abbrev pub RetiresFor : Partition → Moment → ℕ → List Seen → Seen → Type 0
RetiresFor p now keep h w = Removes p now keep h w ⊎ Deletes p h w

-- nothing, or one such write
abbrev pub HasRetired : Partition → Moment → ℕ → List Seen → List Seen → Type 0
HasRetired p now keep h g = (g ≡ h) ⊎ ((w : Seen) × (g ≡ h ++ w ∷ []) × RetiresFor p now keep h w)

-- a call that is carried out
abbrev CallsFor : Partition → Moment → ℕ → List Seen → Option Write → Type 0
CallsFor p now keep h None = Unit {0}
CallsFor p now keep h (Some call) = refusal_of h call ≡ None → RetiresFor p now keep h (written_by h call)

called : (t : Told) (p : Partition) (now : Moment) (keep : ℕ) (call : Option Write) → CallsFor p now keep t.writes call
    → HasRetired p now keep t.writes (writes_after t call)
called t p now keep None k = inl refl
called t p now keep (Some call) k = by_leaving (leaves_on t call)
  where
    by_leaving : Leaves call t.writes (told_on t (after_call call)).writes → HasRetired p now keep t.writes (told_on t (after_call call)).writes
    by_leaving (inl same) = inl same
    by_leaving (inr (free, more)) = inr (written_by t.writes call, more, k free)

-- a call that isn't refused writes its own
abbrev pub Wrote : List Seen → List Seen → Option Write → Type 0
Wrote h g None = g ≡ h
Wrote h g (Some call) = refusal_of h call ≡ None → g ≡ h ++ written_by h call ∷ []

wrote_so : (t : Told) (call : Option Write) → t.faults.plan ≡ [] → Wrote t.writes (writes_after t call) call
wrote_so t None none = refl
wrote_so t (Some call) none = λ free.
    ap (λ (ps : List Bool). left_under (fault_of ps) t.writes (after_call call t.writes)) none ∙ ap (λ o. after_by o t.writes (written_by t.writes call)) free

pub retire_wrote : (t : Told) (r : Retirement) (now : Moment) → t.faults.plan ≡ [] → Wrote t.writes (retire_stepped t r now).told.writes (retire_write r now)
retire_wrote t r now none =
    subst (λ (g : List Seen). Wrote t.writes g (retire_write r now)) (sym (retire_leaves t r now)) (wrote_so t (retire_write r now) none)

module _ (s : Starting) (h : List Seen) (lawful : IsLawfulHistory s h) (r : Retirement) (now : Moment) (within : r.partition.0 < s.partitions) where
  abbrev p : Partition
  p = r.partition

  -- the ideal state that was read still stands
  removes_for : (at : Sequence) (ideal : Seen) (first second : List Seen) (l : Listed) → HasIdeal s h first ideal second → WasLowest h p l
      → Decides (entries_by ideal.node) p now r.keep l at true → CallsFor p now r.keep h (Some (remove_write r at ideal))
  removes_for at ideal first second l read lowest k free =
      let new : IdealState = record { entries = remove_segment_of (entries_by ideal.node) p at } in
      let state = (state_read s h first second ideal read).1 in
      let stands = effect_of h (set ideal (node.Ideal new)) free in
      let last = Stands-last h ideal (versions_count_writes s h lawful) state.has stands in
      let own : entries_of h ≡ entries_by ideal.node = ap entries_in (ap (last_write h) (sym state.is_ideal) ∙ last.0) in
      inl (record {
        segment = l;
        lowest = lowest;
        ended = k.ended;
        old = k.old;
        at = state.is_ideal;
        state = new;
        is = refl;
        left =
            ap (λ (es : List IdealEntry). remove_segment_of es p at) (sym own)
            ∙ ap (λ (x : Sequence). remove_segment_of (entries_of h) p x) (sym k.same);
      })

  decides_for : (lowest : Option ReadNode) (ideal : Seen) (first second : List Seen) (o : Option Listed) → lowest ≡ read_by p o
      → ((l : Listed) → o ≡ Some l → WasLowest h p l) → HasIdeal s h first ideal second
      → (d : Retiring) → retire_by p (entries_by ideal.node) now r.keep o ≡ d → CallsFor p now r.keep h (retire_write_by r lowest ideal d)
  decides_for lowest ideal first second o e was read decision.Nothing is = tt
  decides_for lowest ideal first second None e was read (decision.Remove at) is = absurd (cc)
  decides_for lowest ideal first second (Some l) e was read (decision.Remove at) is =
      removes_for at ideal first second l read (was l refl) (removes_its (entries_by ideal.node) p now r.keep at l is)
  decides_for lowest ideal first second None e was read (decision.Delete at) is = absurd (cc)
  decides_for lowest ideal first second (Some l) e was read (decision.Delete at) is =
      subst (λ (x : Option ReadNode). CallsFor p now r.keep h (delete_write x)) (sym e)
      (λ free. inr (record { segment = l; lowest = was l refl; at = refl; is = refl }))

  stage_for : (at : RetireStage) → Remembers s h p at → CallsFor p now r.keep h (retire_write_at r now at)
  stage_for stage.Listing k = tt
  stage_for (stage.Reading lowest) k = tt
  stage_for (stage.Writing lowest ideal) (first, second, listed, read) =
      let o = lowest_listed (metadata_of first p) in
      let same : retiring_at r now lowest ideal ≡ retire_by p (entries_by ideal.node) now r.keep o =
      ap (λ (x : Option ReadNode). retire_by p (entries_by ideal.node) now r.keep (listed_again x)) listed.lowest
      ∙ ap (retire_by p (entries_by ideal.node) now r.keep) (lowest_again p (metadata_of first p)) in
      decides_for lowest ideal first second o listed.lowest
      (λ l e. was_lowest s h first p l lawful listed.past.lawful within listed.past.front e) read (retiring_at r now lowest ideal) (sym same)
  stage_for stage.Ended k = tt

-- a step of a retirement that remembers what was there
pub retire_writes_for : (s : Starting) (t : Told) (r : Retirement) (now : Moment) → IsLawfulHistory s t.writes → r.partition.0 < s.partitions
    → Remembers s t.writes r.partition r.stage → HasRetired r.partition now r.keep t.writes (retire_stepped t r now).told.writes
retire_writes_for s t r now lawful within k =
    subst (HasRetired r.partition now r.keep t.writes) (sym (retire_leaves t r now))
    (called t r.partition now r.keep (retire_write r now) (stage_for s t.writes lawful r now within r.stage k))

-- ---- what a step makes of a retirement, where no fault of the store is planned

abbrev pub stepped_to : Retirement → RetireStage → RetireStep → Stepped
stepped_to r at did = record { retire = goes r at; step = did }

pub lists : (t : Told) (r : Retirement) (now : Moment) → r.stage ≡ stage.Listing → t.faults.plan ≡ []
    → (retire_stepped t r now).stepped ≡ Some (stepped_to r (stage.Reading (lowest_node r.partition (metadata_of t.writes r.partition))) step.Listed)
lists t r now at none =
    ap (λ (s : RetireStage). (retire_at t r now s).stepped) at ∙ ap (after_list r) (unfailing t (listing r.partition) none)

pub reads : (t : Told) (r : Retirement) (now : Moment) (lowest : Option ReadNode) (ideal : Seen) → r.stage ≡ stage.Reading lowest
    → t.faults.plan ≡ [] → value_of t.writes key.Ideal ≡ Some ideal
    → (retire_stepped t r now).stepped ≡ Some (stepped_to r (stage.Writing lowest ideal) step.IdealRead)
reads t r now lowest ideal at none value =
    ap (λ (s : RetireStage). (retire_at t r now s).stepped) at
    ∙ ap (after_read r) (unfailing t (reading key.Ideal) none ∙ ap found_in value)
    ∙ ap (λ (s : RetireStage). Some (stepped_to r (with_ideal s ideal) step.IdealRead)) at

pub listing_writes : (t : Told) (r : Retirement) (now : Moment) → r.stage ≡ stage.Listing → (retire_stepped t r now).told.writes ≡ t.writes
listing_writes t r now at = ap (λ (s : RetireStage). (retire_at t r now s).told.writes) at ∙ read_same t

pub reading_writes : (t : Told) (r : Retirement) (now : Moment) (lowest : Option ReadNode) → r.stage ≡ stage.Reading lowest → (retire_stepped t r now).told.writes ≡ t.writes
reading_writes t r now lowest at = ap (λ (s : RetireStage). (retire_at t r now s).told.writes) at ∙ read_same t

-- it has ended, and tells no step behind which there is another; it tells `nothing` where that was decided
pub record HasEnded (t : Told) (r : Retirement) (x : Stepped) (left : Told) (d : Retiring) : Type 0 where
  pub ended : x.retire ≡ goes r stage.Ended
  pub tells : goes_further x.step ≡ false
  pub nothing : is_nothing x.step ≡ true → (d ≡ decision.Nothing) × (left.writes ≡ t.writes)
  pub quiet : d ≡ decision.Nothing → is_nothing x.step ≡ true

abbrev Ends : Option RetireStep → Type 0
Ends o = (did : RetireStep) → o ≡ Some did → (goes_further did ≡ false) × (is_nothing did ≡ false)

ends_so : (own : RetireStep) → goes_further own ≡ false → is_nothing own ≡ false → Ends (Some own)
ends_so own e f did same = (ap goes_further (sym (same_Some own did same)) ∙ e, ap is_nothing (sym (same_Some own did same)) ∙ f)

ends_none : Ends None
ends_none did e = absurd (none-some did e)

ended_by : (t : Told) (r : Retirement) (x : Stepped) (left : Told) (d : Retiring) (o : Option RetireStep) → (d ≡ decision.Nothing → ⊥) → Ends o
    → retire_ended r o ≡ Some x → HasEnded t r x left d
ended_by t r x left d None busy ends e = absurd (none-some x e)
ended_by t r x left d (Some did) busy ends e =
    let same = same_Some (stepped_to r stage.Ended did) x e in
    let k = ends did refl in
    record {
      ended = ap (λ (y : Stepped). y.retire) (sym same);
      tells = ap (λ (y : Stepped). goes_further y.step) (sym same) ∙ k.0;
      nothing = λ says. absurd (false≢true (sym k.1 ∙ ap (λ (y : Stepped). is_nothing y.step) same ∙ says));
      quiet = λ is. absurd (busy is);
    }

removed_ends : (s : Sequence) (answer : Result ℕ StoreRefused) → Ends (removed s answer)
removed_ends s (Ok version) = ends_so (step.Removed s version) refl refl
removed_ends s (Err store.NoNode) = ends_so step.Failed refl refl
removed_ends s (Err (store.Exists found)) = ends_so step.Failed refl refl
removed_ends s (Err (store.VersionChanged expected found)) = ends_so (step.Changed expected found) refl refl
removed_ends s (Err store.Failed) = ends_so step.Failed refl refl
removed_ends s (Err store.Memory) = ends_none

deleted_ends : (s : Sequence) (answer : Result (Unit {0}) StoreRefused) → Ends (deleted s answer)
deleted_ends s (Ok done) = ends_so (step.Deleted s) refl refl
deleted_ends s (Err store.NoNode) = ends_so (step.Gone s) refl refl
deleted_ends s (Err (store.Exists found)) = ends_so step.Failed refl refl
deleted_ends s (Err (store.VersionChanged expected found)) = ends_so (step.Changed expected found) refl refl
deleted_ends s (Err store.Failed) = ends_so step.Failed refl refl
deleted_ends s (Err store.Memory) = ends_none

-- nothing is done and told
nothing_ends : (t : Told) (r : Retirement) (x : Stepped) (d : Retiring) → d ≡ decision.Nothing → retire_ended r (Some step.Nothing) ≡ Some x → HasEnded t r x t d
nothing_ends t r x d is e =
    let same = same_Some (stepped_to r stage.Ended step.Nothing) x e in
    record {
      ended = ap (λ (y : Stepped). y.retire) (sym same);
      tells = ap (λ (y : Stepped). goes_further y.step) (sym same);
      nothing = λ says. (is, refl);
      quiet = λ same_decision. ap (λ (y : Stepped). is_nothing y.step) (sym same);
    }

-- there is a node to delete where that is decided
none_decided : (p : Partition) (es : List IdealEntry) (now : Moment) (keep : ℕ) (s : Sequence) (o : Option ReadNode) → delete_write o ≡ None
    → retire_by p es now keep (listed_again o) ≡ decision.Delete s → ⊥
none_decided p es now keep s None none e = cc
none_decided p es now keep s (Some n) none e = none-some (delete n.seen) (sym none)

done_ends : (t : Told) (r : Retirement) (now : Moment) (lowest : Option ReadNode) (ideal : Seen) (x : Stepped) (d : Retiring) → retiring_at r now lowest ideal ≡ d
    → (retire_done t r lowest ideal d).stepped ≡ Some x → HasEnded t r x (retire_done t r lowest ideal d).told d
done_ends t r now lowest ideal x decision.Nothing is e = nothing_ends t r x decision.Nothing refl e
done_ends t r now lowest ideal x (decision.Remove s) is e =
    let answer = answer_on t (answer_of (λ w. w.version) (remove_write r s ideal)) in
    ended_by t r x (retire_done t r lowest ideal (decision.Remove s)).told (decision.Remove s) (removed s answer) (λ other. cc) (removed_ends s answer) e
done_ends t r now lowest ideal x (decision.Delete s) is e = by_call (delete_write lowest) refl e
  where
    by_call : (o : Option Write) → delete_write lowest ≡ o → (retire_deleted t r (deleted s) o).stepped ≡ Some x
        → HasEnded t r x (retire_deleted t r (deleted s) o).told (decision.Delete s)
    by_call None none e = absurd (none_decided r.partition (entries_by ideal.node) now r.keep s lowest none is)
    by_call (Some call) there e =
        let answer = answer_on t (answer_of (λ w. tt) call) in
        ended_by t r x (retire_deleted t r (deleted s) (Some call)).told (decision.Delete s) (deleted s answer) (λ other. cc) (deleted_ends s answer) e

pub writing_ends : (t : Told) (r : Retirement) (now : Moment) (lowest : Option ReadNode) (ideal : Seen) (x : Stepped) → r.stage ≡ stage.Writing lowest ideal
    → (retire_stepped t r now).stepped ≡ Some x → HasEnded t r x (retire_stepped t r now).told (retiring_at r now lowest ideal)
writing_ends t r now lowest ideal x at e =
    subst (λ (left : Told). HasEnded t r x left (retiring_at r now lowest ideal)) (sym (ap (λ (s : RetireStage). (retire_at t r now s).told) at))
    (done_ends t r now lowest ideal x (retiring_at r now lowest ideal) refl (sym (ap (λ (s : RetireStage). (retire_at t r now s).stepped) at) ∙ e))

-- ---- no fault is planned

done_plan : (t : Told) (r : Retirement) (lowest : Option ReadNode) (ideal : Seen) (d : Retiring) → t.faults.plan ≡ [] → (retire_done t r lowest ideal d).told.faults.plan ≡ []
done_plan t r lowest ideal decision.Nothing none = none
done_plan t r lowest ideal (decision.Remove s) none = plan_met t.faults none
done_plan t r lowest ideal (decision.Delete s) none = by_call (delete_write lowest)
  where
    by_call : (o : Option Write) → (retire_deleted t r (deleted s) o).told.faults.plan ≡ []
    by_call None = none
    by_call (Some call) = plan_met t.faults none

pub unplanned_at : (t : Told) (r : Retirement) (now : Moment) (s : RetireStage) → t.faults.plan ≡ [] → (retire_at t r now s).told.faults.plan ≡ []
unplanned_at t r now stage.Listing none = plan_met t.faults none
unplanned_at t r now (stage.Reading lowest) none = plan_met t.faults none
unplanned_at t r now (stage.Writing lowest ideal) none = done_plan t r lowest ideal (retiring_at r now lowest ideal) none
unplanned_at t r now stage.Ended none = none
