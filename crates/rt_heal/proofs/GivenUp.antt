-- In each world of a run nobody is to consume a segment that was given up; so each CONSUMING entry is of a segment that is listed, in
-- progress or committed.
use Rattle.std.proofs.Common.{◌≡◌, ℕ, zero, suc, ◌<◌, ◌≤◌, ◌⊎◌, inl, inr, List, [], ◌∷◌, ◌++◌, refl, sym, ◌∙◌, ap, subst, arith}
use Rattle.std.proofs.lemmas.Bool.{cases_lt}
use Rattle.rt_base.specs.declared.numbers.Partition.{Partition}
use Rattle.rt_base.specs.declared.numbers.Sequence.{Sequence}
use Rattle.rt_lists.specs.Members.{Has, IsFront}
use Rattle.rt_lists.proofs.Members.{front_push, Has-append_cases, Has-push_cases}
use Rattle.rt_model.specs.Chain.{deletions_of}
use Rattle.rt_model.specs.Entries.{entries_of}
use Rattle.rt_model.specs.Lawful.{Write, create, set, delete, create_after, bump, written_by, IsLawfulHistory}
use Rattle.rt_model.specs.Metadata.{listed_write, metadata_of, node_key, sequences_of, HasNode, IsDoneStatus, IsInProgress}
use Rattle.rt_model.specs.Setup.{IsSetup}
use Rattle.rt_model.specs.Starting.{Starting, starting_boot, starting_boots, starting_contents, starting_ideal, starting_meta, starting_metas}
use Rattle.rt_model.specs.declared.ideal_state.IdealEntry.{IdealEntry}
use Rattle.rt_model.specs.declared.ideal_state.Mode.TheVariants.{Consuming}
use Rattle.rt_model.specs.declared.node.Listed.{Listed}
use Rattle.rt_model.specs.declared.node.Seen.{Seen}
use Rattle.rt_model.specs.declared.setup.Setup.{Setup}
use Rattle.rt_model.specs.declared.status.Status.{Status}
use Rattle.rt_model.specs.declared.status.Status.TheVariants.{InProgress, Done, Abandoned}
use Rattle.rt_model.proofs.Entries.{names_entry}
use Rattle.rt_model.proofs.Histories.{same_sequence}
use Rattle.rt_model.proofs.Lawful.{has_chains, has_passed_deletions}
use Rattle.rt_model.proofs.Listings.{has_listings, listed_has}
use Rattle.rt_past.proofs.Growth.{entry_grows}
use Rattle.rt_safety.proofs.Later.{runs_are_safe}
use Rattle.rt_safety.proofs.Runs.{leads_add, leads_safe}
use Rattle.rt_safety.specs.Runs.{Leads, Runs, Turn}
use Rattle.rt_state.specs.IsSafeWorld.{IsSafeWorld}
use Rattle.rt_state.specs.IsSafe.{past_of}
use Rattle.rt_state.specs.Start.{start}
use Rattle.rt_state.specs.declared.state.State.{State}
use Rattle.rt_store.specs.Answers.{Leaves}
use Rattle.rt_store.specs.Contents.{starting_of}
use Rattle.rt_heal.specs.GivenUp.{IsConsumable}
use Rattle.rt_heal.proofs.Asked.{present_listed, present_right}
use Rattle.rt_heal.proofs.Mended.{present_grounded}
use Rattle.rt_heal.proofs.Stopping.{stays_none}
use Rattle.rt_heal.proofs.TurnedRuns.{turn_writes, WroteSo}
use Rattle.rt_heal.proofs.Turning.{IsGivenUp, NobodyConsumes, Turns}

-- nobody is to consume a segment that was given up
abbrev GivenUpNow : Starting → List Seen → Type 0
GivenUpNow s h = (p : Partition) (q : ℕ) → p.0 < s.partitions → HasNode h p q IsGivenUp → NobodyConsumes h p q

nobody_later : (s : Starting) (h k : List Seen) (p : Partition) (q : ℕ) → IsFront h k → IsLawfulHistory s h → IsLawfulHistory s k → NobodyConsumes h p q
    → NobodyConsumes k p q
nobody_later s h k p q front before after (had, none) = (
  entry_grows h k p (record { 0 = q }) front had,
  λ i. stays_none s h k p (record { 0 = q }) i front before after had (none i),
)

-- ---- a write

module _ (s : Starting) (h : List Seen) (lawful : IsLawfulHistory s h) (given : GivenUpNow s h) where
  written_so : (call : Write) → Turns s h call → (p : Partition) (q : ℕ) → (written_by h call).key ≡ node_key p q → IsGivenUp (written_by h call).node
      → NobodyConsumes h p q
  written_so (create k n) turns p q at gone = absurd (turns.1 gone)
  written_so (set from n) turns p q at gone = turns.2 gone p q at
  written_so (delete from) turns p q at gone = absurd gone
  written_so (create_after k n prior) turns p q at gone = absurd (turns.1 gone)
  written_so (bump i) turns p q at gone = absurd gone

  leaves_given : (k : List Seen) (call : Write) → IsLawfulHistory s k → Leaves call h k → Turns s h call → GivenUpNow s k
  leaves_given k call after (inl same) turns = subst (GivenUpNow s) (sym same) given
  leaves_given k call after (inr (free, more)) turns =
      subst (GivenUpNow s) (sym more) (λ p q within (v, has, at, gone). by_place p q within v at gone (Has-push_cases h (written_by h call) v has))
    where
      new : List Seen
      new = h ++ written_by h call ∷ []

      on : (p : Partition) (q : ℕ) → NobodyConsumes h p q → NobodyConsumes new p q
      on p q nobody = nobody_later s h new p q (front_push h (written_by h call)) lawful (subst (IsLawfulHistory s) more after) nobody

      by_place : (p : Partition) (q : ℕ) → p.0 < s.partitions → (v : Seen) → v.key ≡ node_key p q → IsGivenUp v.node → Has h v ⊎ (written_by h call ≡ v)
          → NobodyConsumes new p q
      by_place p q within v at gone (inl there) = on p q (given p q within (v, there, at, gone))
      by_place p q within v at gone (inr same) =
          on p q
          (written_so call turns p q (ap (λ (x : Seen). x.key) same ∙ at) (subst (λ (x : Seen). IsGivenUp x.node) (sym same) gone))

-- ---- the first world

last_or : (P : Seen → Type 0) (ws : List Seen) (v w : Seen) → (Has ws w → P w) → P v → Has (ws ++ v ∷ []) w → P w
last_or P ws v w before last has = by_place (Has-push_cases ws v w has)
  where
    by_place : Has ws w ⊎ (v ≡ w) → P w
    by_place (inl there) = before there
    by_place (inr same) = subst P same last

module _ (s : Starting) (P : Seen → Type 0) (boot : (i : ℕ) → P (starting_boot i)) (meta : (p : ℕ) → P (starting_meta s p)) (ideal : P (starting_ideal s)) (w : Seen) where
  among_boots : (n : ℕ) → Has (starting_boots n) w → P w
  among_boots zero there = absurd there
  among_boots (suc n) there = last_or P (starting_boots n) (starting_boot n) w (among_boots n) (boot n) there

  among_metas : (n : ℕ) → Has (starting_metas s n) w → P w
  among_metas zero there = absurd there
  among_metas (suc n) there = last_or P (starting_metas s n) (starting_meta s n) w (among_metas n) (meta n) there

  start_each : Has (starting_contents s) w → P w
  start_each has =
      last_or P (starting_boots s.servers ++ starting_metas s s.partitions) (starting_ideal s) w
      (λ there. by_two (Has-append_cases (starting_boots s.servers) (starting_metas s s.partitions) w there)) ideal has
    where
      by_two : Has (starting_boots s.servers) w ⊎ Has (starting_metas s s.partitions) w → P w
      by_two (inl there) = among_boots s.servers there
      by_two (inr there) = among_metas s.partitions there

start_kept : (s : Starting) (w : Seen) → Has (starting_contents s) w → IsGivenUp w.node → ⊥
start_kept s w = start_each s (λ v. IsGivenUp v.node → ⊥) (λ i gone. gone) (λ p gone. cc) (λ gone. gone) w

-- ---- a run

abbrev IsGivenUpIn : State → Type 0
IsGivenUpIn w = GivenUpNow (starting_of w.setup) w.store.writes

leads_given : (from : State) (turns : List Turn) (to : State) → IsSafeWorld from → IsGivenUpIn from → Leads from turns to → IsGivenUpIn to
leads_given from [] to s given e = subst IsGivenUpIn (sym e) given
leads_given from (turn ∷ turns) to s given (next, t, rest) =
    let one : Leads from (turn ∷ []) next = (next, t, refl) in
    let after = leads_safe from (turn ∷ []) next s one in
    let setup = (leads_add from (turn ∷ []) next s one).goes.setup in
    let lawful = subst (λ (x : Setup). IsLawfulHistory (starting_of x) next.store.writes) setup after.safe.past.lawful in
    leads_given next turns to after
    (subst (λ (x : Setup). GivenUpNow (starting_of x) next.store.writes) (sym setup) (by_writes lawful (turn_writes from turn next s t))) rest
  where
    by_writes : IsLawfulHistory (starting_of from.setup) next.store.writes → WroteSo from next.store.writes → GivenUpNow (starting_of from.setup) next.store.writes
    by_writes lawful (inl same) = subst (GivenUpNow (starting_of from.setup)) (sym same) given
    by_writes lawful (inr (call, leaves, writes)) =
        leaves_given (starting_of from.setup) from.store.writes s.safe.past.lawful given next.store.writes call lawful leaves writes

runs_given : (setup : Setup) (turns : List Turn) (w : State) → IsSetup setup → Runs setup turns w → IsGivenUpIn w
runs_given setup turns w is run =
    leads_given (start setup) turns w (runs_are_safe setup [] (start setup) is refl)
    (λ p q within (v, has, at, gone). absurd (start_kept (starting_of setup) v has gone)) run

-- ---- a CONSUMING entry

module _ (w : State) (s : IsSafeWorld w) (given : IsGivenUpIn w) (e : IdealEntry) (has : Has (entries_of w.store.writes) e) (consumes : e.mode ≡ Consuming) where
  abbrev h : List Seen
  h = w.store.writes

  abbrev p : Partition
  p = e.partition

  abbrev q : Sequence
  q = e.sequence

  lawful : IsLawfulHistory (starting_of w.setup) h
  lawful = s.safe.past.lawful

  within : p.0 < w.setup.partitions
  within = (present_right w.setup (past_of w) s.safe.past e has).0

  -- it isn't deleted, since the entries have passed what is
  low : deletions_of h p ≤ q.0
  low = by_place (cases_lt q.0 (deletions_of h p))
    where
      by_place : (q.0 < deletions_of h p) ⊎ (deletions_of h p ≤ q.0) → deletions_of h p ≤ q.0
      by_place (inl lt) =
          let deleted = (has_listings (starting_of w.setup) h lawful p within).below q.0 lt in
          let passed = has_passed_deletions (starting_of w.setup) h lawful p q.0 q.0 deleted (names_entry (entries_of h) p q (e, has, refl, refl)) in
          absurd (omega (arith, passed))
      by_place (inr le) = le

  high : q.0 < sequences_of h p
  high = by_place (cases_lt q.0 (sequences_of h p))
    where
      by_place : (q.0 < sequences_of h p) ⊎ (sequences_of h p ≤ q.0) → q.0 < sequences_of h p
      by_place (inl lt) = lt
      by_place (inr le) =
          let c = (present_grounded (starting_of w.setup) h lawful e has).created in
          absurd ((has_chains (starting_of w.setup) h lawful p within).uncreated q.0 c.0 le c.1 c.2)

  listed : (l : Listed) × Has (metadata_of h p) l × (l.sequence.0 ≡ q.0)
  listed =
      present_listed (starting_of w.setup) h p q lawful within (((has_chains (starting_of w.setup) h lawful p within).present q.0).1 (low, high))

  -- nor given up, since nobody would consume it then
  status_goes : (st : Status) → listed.0.seen.meta.status ≡ st → IsInProgress st ⊎ IsDoneStatus st
  status_goes InProgress is = inl tt
  status_goes (Done commit) is = inr tt
  status_goes Abandoned is =
      let nobody = given p q.0 within (listed_write p listed.0, listed_has h p listed.0 listed.1, ap (node_key p) listed.2, is) in
      absurd (nobody.1 e.instance e has refl refl refl consumes)

  there : IsConsumable h p q
  there = record { listed = listed.0; has = listed.1; is = same_sequence listed.0.sequence q listed.2; goes = status_goes listed.0.seen.meta.status refl }

pub consumable : (setup : Setup) (turns : List Turn) (w : State) (e : IdealEntry) → IsSetup setup → Runs setup turns w → Has (entries_of w.store.writes) e
    → e.mode ≡ Consuming → IsConsumable w.store.writes e.partition e.sequence
consumable setup turns w e is run has consumes = there w (runs_are_safe setup turns w is run) (runs_given setup turns w is run) e has consumes
