-- The writes of jobs, repairs and retirements keep committed segments turned.
use Rattle.std.proofs.Common.{◌≡◌, ℕ, ◌+◌, ◌-◌, ◌<◌, ◌⊎◌, inl, inr, Bool, true, false, ◌&&◌, ◌||◌, not, nat_lt, cond, List, [], ◌∷◌, Option, Some, None, refl, sym, ◌∙◌, ap, subst, arith}
use Rattle.std.specs.Prelude.{◌==◌}
use Rattle.std.proofs.lemmas.Bool.{and_from, and_parts, cond_both, eq-eqb, lt-ltb, or_left, or_right, true≢false}
use Rattle.rt_base.specs.declared.limits.TheConstants.{LAST_NUMBER}
use Rattle.rt_base.specs.declared.numbers.Instance.{Instance}
use Rattle.rt_base.specs.declared.numbers.Moment.{Moment}
use Rattle.rt_base.specs.declared.numbers.Partition.{Partition}
use Rattle.rt_base.specs.declared.numbers.Sequence.{Sequence}
use Rattle.rt_commit.specs.Assignment.{Assigned, replicas_in}
use Rattle.rt_commit.specs.Calls.{Call, calls_nothing, puts, gets, reads, sets, creates}
use Rattle.rt_commit.specs.IsJob.{IsAt}
use Rattle.rt_commit.specs.Job.{call_at, changed_entries}
use Rattle.rt_commit.specs.declared.job.JobStage.{JobStage}
use Rattle.rt_commit.specs.declared.job.JobStage.TheVariants as stage
use Rattle.rt_commit.specs.declared.work.Work.{Work}
use Rattle.rt_commit.specs.declared.work.Work.TheVariants as work
use Rattle.rt_lists.specs.Members.{Has}
use Rattle.rt_lists.proofs.Members.{Has-front}
use Rattle.rt_model.specs.Entries.{entries_by, entries_in, entries_of, HasEntry, IsUnbroken}
use Rattle.rt_model.specs.History.{last_write}
use Rattle.rt_model.specs.Ideal.{add_consuming_of, commit_step_of, goes_on, has_entry, is_of}
use Rattle.rt_model.specs.Lawful.{set, create_after, IsLawfulHistory}
use Rattle.rt_model.specs.Laws.{IsEnding, IsGoneLast}
use Rattle.rt_model.specs.Metadata.{listed_write, metadata_of, node_key, IsCreated, IsDone, IsDoneStatus, IsInProgress}
use Rattle.rt_model.specs.Moments.{later}
use Rattle.rt_model.specs.Repair.{are_offline, is_offline, decide_by, decide_last, decide_open}
use Rattle.rt_model.specs.Starting.{Starting}
use Rattle.rt_model.specs.declared.asked.Asked.{Asked}
use Rattle.rt_model.specs.declared.commit.Commit.{Commit}
use Rattle.rt_model.specs.declared.decision.Decision.{Decision}
use Rattle.rt_model.specs.declared.decision.Decision.TheVariants.{Nothing, AddToIdeal, Abandon}
use Rattle.rt_model.specs.declared.ideal_state.IdealEntry.{IdealEntry}
use Rattle.rt_model.specs.declared.ideal_state.IdealState.{IdealState}
use Rattle.rt_model.specs.declared.node.Key.TheVariants as key
use Rattle.rt_model.specs.declared.node.Listed.{Listed}
use Rattle.rt_model.specs.declared.node.Node.TheVariants as node
use Rattle.rt_model.specs.declared.node.Seen.{Seen}
use Rattle.rt_model.specs.declared.status.Status.{Status}
use Rattle.rt_model.specs.declared.status.Status.TheVariants.{InProgress, Done, Abandoned}
use Rattle.rt_model.proofs.Chains.{IsDone-final}
use Rattle.rt_model.proofs.Entries.{is_of-same}
use Rattle.rt_model.proofs.Histories.{value_of-last}
use Rattle.rt_model.proofs.Kept.{last_write-Has}
use Rattle.rt_model.proofs.Lawful.{has_endings, has_passed_deletions, has_unbroken_runs}
use Rattle.rt_repair.specs.IsRepair.{HasIdeal, HasListed, Remembers}
use Rattle.rt_repair.specs.IsRetire as retires
use Rattle.rt_repair.specs.ReadNode.{follows_by, follows_done, is_done, lowest_listed, read_by, read_node}
use Rattle.rt_repair.specs.Repairing.{Repairing, added_entries, decision_at}
use Rattle.rt_repair.specs.Retirement.{Retirement, delete_write, retiring_at}
use Rattle.rt_repair.specs.Setting.{repair_write_at, repair_write_by, retire_write_at, retire_write_by}
use Rattle.rt_repair.specs.declared.read_node.ReadNode.{ReadNode}
use Rattle.rt_repair.specs.declared.repair.RepairStage.{RepairStage}
use Rattle.rt_repair.specs.declared.repair.RepairStage.TheVariants as repair
use Rattle.rt_repair.specs.declared.retirement.RetireStage.{RetireStage}
use Rattle.rt_repair.specs.declared.retirement.RetireStage.TheVariants as retirement
use Rattle.rt_repair.specs.declared.retiring.Retiring.{Retiring}
use Rattle.rt_repair.specs.declared.retiring.Retiring.TheVariants as retiring
use Rattle.rt_repair.proofs.Adding.{before_of}
use Rattle.rt_repair.proofs.LastSegment.{IsLast, last_segment}
use Rattle.rt_repair.proofs.MayRepair.{IsState, state_read}
use Rattle.rt_store.proofs.Listing.{value_has}
use Rattle.rt_heal.specs.Dropped.{NoneConsumes}
use Rattle.rt_heal.specs.Turned.{WasCommitted}
use Rattle.rt_heal.proofs.Stopping.{stays_none}
use Rattle.rt_heal.proofs.Asked.{done_listed}
use Rattle.rt_heal.proofs.Turned.{add_turned, commit_turned, offline_turned, remove_turned}
use Rattle.rt_heal.proofs.Turning.{created_ended, NobodyConsumes, Turned, Turns, TurnsSome}

-- no node of a segment is the ideal state
node_apart : (p : Partition) (q : ℕ) → node_key p q ≡ key.Ideal → ⊥
node_apart p q e = cc

-- the entries of each ideal state that was written have no gap
written_unbroken : (s : Starting) (h : List Seen) (ideal : Seen) (p : Partition) → IsLawfulHistory s h → Has h ideal → ideal.key ≡ key.Ideal
    → IsUnbroken (entries_by ideal.node) p
written_unbroken s h ideal p lawful has is = has_unbroken_runs s h lawful ideal p (record { has = has; is_ideal = is })

-- a segment that is committed or begun isn't given up
done_kept : (commit : Commit) → Done commit ≡ Abandoned → ⊥
done_kept commit e = cc

begun_kept : InProgress ≡ Abandoned → ⊥
begun_kept e = cc

-- ---- jobs

abbrev pub CallTurns : Starting → List Seen → Call → Type 0
CallTurns s h calls_nothing = Unit {0}
CallTurns s h (puts path bytes) = Unit {0}
CallTurns s h (gets path) = Unit {0}
CallTurns s h (reads k) = Unit {0}
CallTurns s h (sets from n) = Turns s h (set from n)
CallTurns s h (creates k n prior) = Turns s h (create_after k n prior)

module _ (s : Starting) (h : List Seen) (lawful : IsLawfulHistory s h) where
  work_turned : (a : Assigned) (q : Asked) (w : Work) (es : List IdealEntry) → IsUnbroken es q.partition → Turned s h es
      → Turned s h (changed_entries a q w es)
  work_turned a q (work.Commit done) es whole turned =
      commit_turned (WasCommitted s.partitions h) es q.partition q.sequence (replicas_in a q.partition) whole turned
  work_turned a q work.Offline es whole turned =
      offline_turned (WasCommitted s.partitions h) es q.partition q.sequence q.number.instance turned

  pub stage_turns : (a : Assigned) (q : Asked) (now : Moment) (at : JobStage) → IsAt h q at → CallTurns s h (call_at a q now at)
  stage_turns a q now (stage.Check from end path) k = tt
  stage_turns a q now (stage.Done from commit) k =
      (k.read.has, λ is turned. absurd (node_apart q.partition q.sequence.0 (sym k.read.of ∙ is)), λ gone p t e. absurd (done_kept commit gone))
  stage_turns a q now (stage.Next done) k = (λ e. cc, λ gone. begun_kept gone)
  stage_turns a q now (stage.IdealRead w found) k = tt
  stage_turns a q now (stage.IdealSet w found ideal) k =
      (k.has, λ is turned. work_turned a q w (entries_by ideal.node) (written_unbroken s h ideal q.partition lawful k.has is) turned, λ gone p t e. absurd gone)
  stage_turns a q now stage.Ended k = tt

-- ---- repairs

done_status : (status : Status) → IsDoneStatus status → is_done status ≡ true
done_status InProgress d = absurd d
done_status (Done commit) d = refl
done_status Abandoned d = absurd d

-- a Done node just below is one that is followed
follows_has : (ls : List Listed) (l : Listed) (q : Sequence) → Has ls l → l.sequence.0 + 1 ≡ q.0 → is_done l.seen.meta.status ≡ true
    → follows_done ls q ≡ true
follows_has [] l q has at done = absurd has
follows_has (x ∷ ls) l q (inl same) at done =
    or_left ((x.sequence.0 + 1 == q.0) && is_done x.seen.meta.status) (follows_done ls q)
    (subst (λ (y : Listed). ((y.sequence.0 + 1 == q.0) && is_done y.seen.meta.status) ≡ true) (sym same)
    (and_from (l.sequence.0 + 1 == q.0) (is_done l.seen.meta.status) (eq-eqb (l.sequence.0 + 1) q.0 at) done))
follows_has (x ∷ ls) l q (inr has) at done =
    or_right ((x.sequence.0 + 1 == q.0) && is_done x.seen.meta.status) (follows_done ls q) (follows_has ls l q has at done)

-- what a repair has read at two fronts of a history
record IsReadAt (s : Starting) (h first second : List Seen) (r : Repairing) (l : Listed) (follows : Bool) (ideal : Seen) : Type 0 where
  within : r.partition.0 < s.partitions
  lawful : IsLawfulHistory s h
  listed : HasListed s h r.partition (Some (read_node r.partition l)) follows first
  read : HasIdeal s h first ideal second
  last : IsLast first r.partition l

or_fails : (a b : Bool) → a ≡ true → b ≡ false → not a || b ≡ true → ⊥
or_fails true true is none e = true≢false none
or_fails true false is none e = true≢false (sym e)
or_fails false b is none e = true≢false (sym is)

-- entries that are all OFFLINE
offline_none : (es : List IdealEntry) (p : Partition) (q : Sequence) (i : Instance) → are_offline es p q ≡ true → NoneConsumes es p q i
offline_none [] p q i off e has a b c d = absurd has
offline_none (x ∷ es) p q i off e has a b c d = by_place has (λ there. offline_none es p q i parts.1 e there a b c d)
  where
    parts : (not (is_of p q x) || is_offline x.mode ≡ true) × (are_offline es p q ≡ true)
    parts = and_parts (not (is_of p q x) || is_offline x.mode) (are_offline es p q) off

    here : (y : IdealEntry) → (not (is_of p q y) || is_offline y.mode ≡ true) → e ≡ y → ⊥
    here y one same =
        or_fails (is_of p q y) (is_offline y.mode)
        (subst (λ (z : IdealEntry). is_of p q z ≡ true) same (is_of-same p q e a (ap (λ (z : Sequence). z.0) b)))
        (ap is_offline (ap (λ (z : IdealEntry). z.mode) (sym same) ∙ d)) one

    by_place : (x ≡ e) ⊎ Has es e → (Has es e → ⊥) → ⊥
    by_place (inl same) further = here x parts.0 (sym same)
    by_place (inr there) further = further there

same_place : (p o : Partition) (a b : Sequence) → key.Meta p a ≡ key.Meta o b → p ≡ o
same_place p o a b e = cc

same_number : (p o : Partition) (a b : Sequence) → key.Meta p a ≡ key.Meta o b → a ≡ b
same_number p o a b e = cc

same_node : (p o : Partition) (q t : ℕ) → node_key p q ≡ node_key o t → (p ≡ o) × (q ≡ t)
same_node p o q t e = (same_place p o (record { 0 = q }) (record { 0 = t }) e, ap (λ (x : Sequence). x.0) (same_number p o (record { 0 = q }) (record { 0 = t }) e))

not_false : (b : Bool) → not b ≡ false → b ≡ true
not_false true e = refl
not_false false e = absurd (true≢false e)

module _ (s : Starting) (h first second : List Seen) (r : Repairing) (l : Listed) (follows : Bool) (ideal : Seen)
    (k : IsReadAt s h first second r l follows ideal) where
  abbrev p : Partition
  p = r.partition

  abbrev es : List IdealEntry
  es = entries_by ideal.node

  -- the segment before the last one isn't committed, where it wasn't when it was listed and the entries go on behind it
  undone : IsInProgress l.seen.meta.status → follows_done (metadata_of first p) l.sequence ≡ false → goes_on es p l.sequence.0 ≡ true
      → (q : ℕ) → q + 1 ≡ l.sequence.0 → WasCommitted s.partitions h p q → ⊥
  undone goes none on q at (within, (w, has, is, done)) =
      by_end ((has_endings s first k.listed.past.lawful p q k.within).stays e.0 e.1)
    where
      created : IsCreated first p (q + 1)
      created = (listed_write p l, k.last.has, ap (node_key p) (sym at), goes)

      e : (v : Seen) × IsEnding first p q v
      e = created_ended s first p q k.listed.past.lawful k.within created

      same : e.0 ≡ w
      same =
          (has_endings s h k.lawful p q k.within).once e.0 w
          (record { has = Has-front first h e.0 k.listed.past.front e.1.has; is_of = e.1.is_of; final = e.1.final })
          (record { has = has; is_of = is; final = IsDone-final w.node done })

      entered : HasEntry (entries_of second) p q
      entered =
          let before = before_of es p l.sequence.0 true (omega (arith, at)) on in
          let number : l.sequence.0 - 1 ≡ q = omega (arith, at) in
          let now : entries_of second ≡ es = ap entries_in (value_of-last second key.Ideal ideal k.read.value).0 in
          subst (λ (fs : List IdealEntry). HasEntry fs p q) (sym now) (subst (HasEntry es p) number before)

      by_end : (last_write first (node_key p q) ≡ Some e.0) ⊎ IsGoneLast first p q → ⊥
      by_end (inl last) =
          let d = done_listed s first p (record { 0 = q }) k.listed.past.lawful k.within e.0
          (subst (λ (v : Seen). IsDone v.node) (sym same) done) last in
          true≢false
          (sym (follows_has (metadata_of first p) d.listed l.sequence d.has (ap (λ (x : Sequence). x.0 + 1) d.is ∙ at)
          (done_status d.listed.seen.meta.status d.done)) ∙ none)
      by_end (inr (g, last, gone)) =
          let there = last_write-Has first (node_key p q) g last in
          let passed = has_passed_deletions s second k.read.past.lawful p q q
          (g, Has-front first second g k.read.longer there.0, there.1, gone) entered in
          absurd (omega (arith, passed))

  added_turned : IsInProgress l.seen.meta.status → goes_on es p l.sequence.0 ≡ true → Has h ideal → ideal.key ≡ key.Ideal → Turned s h es
      → Turned s h (added_entries r l.sequence follows es)
  added_turned goes on has is turned =
      cond_both (follows && nat_lt 0 l.sequence.0) (commit_step_of es p (record { 0 = l.sequence.0 - 1 }) r.instances)
      (add_consuming_of es p l.sequence r.instances) (Turned s h)
      (λ b. commit_turned (WasCommitted s.partitions h) es p (record { 0 = l.sequence.0 - 1 }) r.instances
      (written_unbroken s h ideal p k.lawful has is) turned)
      (λ b. add_turned (WasCommitted s.partitions h) es p l.sequence r.instances (written_unbroken s h ideal p k.lawful has is) turned
      (λ q at done. undone goes (unfollowed q at b) on q at done))
    where
      unfollowed : (q : ℕ) → q + 1 ≡ l.sequence.0 → (follows && nat_lt 0 l.sequence.0) ≡ false → follows_done (metadata_of first p) l.sequence ≡ false
      unfollowed q at b = sym (k.listed.follows ∙ ap (follows_by (metadata_of first p)) k.last.last) ∙ by_test follows b
        where
          by_test : (f : Bool) → (f && nat_lt 0 l.sequence.0) ≡ false → f ≡ false
          by_test false c = refl
          by_test true c = absurd (true≢false (sym (lt-ltb 0 l.sequence.0 (omega (arith, at))) ∙ c))

  module _ (now : Moment) (i : IdealState) (state : IsState h ideal i) where
    -- all its entries were OFFLINE as they were read, and no instance gets it again
    given_up : are_offline es p l.sequence ≡ true → has_entry es p l.sequence ≡ true → (o : Partition) (t : ℕ) → node_key p l.sequence.0 ≡ node_key o t
        → NobodyConsumes h o t
    given_up off some o t e =
        let place = same_node p o l.sequence.0 t e in
        subst (λ (x : Partition). NobodyConsumes h x t) place.0
        (subst (λ (x : ℕ). NobodyConsumes h p x) place.1 (
          (ideal, record { has = state.has; is_ideal = state.is_ideal }, some),
          λ j.
              stays_none s second h p l.sequence j k.read.past.front k.read.past.lawful k.lawful
              (ideal, record { has = value_there; is_ideal = state.is_ideal }, some)
              (subst (λ (fs : List IdealEntry). NoneConsumes fs p l.sequence j) (sym now_read) (offline_none es p l.sequence j off)),
        ))
      where
        now_read : entries_of second ≡ es
        now_read = ap entries_in (value_of-last second key.Ideal ideal k.read.value).0

        value_there : Has second ideal
        value_there = (value_has second key.Ideal ideal k.read.value).0

    -- the call of what is decided
    abbrev Decides : Decision → Type 0
    Decides d = TurnsSome s h (repair_write_by r now (Some (read_node p l)) follows ideal d)

    open_turns : IsInProgress l.seen.meta.status → Decides (decide_open p l.sequence es)
    open_turns goes =
        cond_both (not (has_entry es p l.sequence)) (AddToIdeal l.sequence) (cond (are_offline es p l.sequence) (Abandon l.sequence) Nothing) Decides
        (λ none.
        cond_both (goes_on es p l.sequence.0) (Some (set ideal (node.Ideal (record { entries = added_entries r l.sequence follows es })))) None
        (TurnsSome s h) (λ on. (state.has, λ is turned. added_turned goes on state.has is turned, λ gone q t e. absurd gone)) (λ off. tt))
        (λ some.
        cond_both (are_offline es p l.sequence) (Abandon l.sequence) Nothing Decides
        (λ off. (
          Has-front first h (listed_write p l) k.listed.past.front k.last.has,
          λ is turned. absurd (node_apart p l.sequence.0 is),
          λ gone o t e. given_up off (not_false (has_entry es p l.sequence) some) o t e,
        ))
        (λ on. tt))

    status_turns : (status : Status) → l.seen.meta.status ≡ status → Decides (decide_by p l.sequence es l.seen.meta status)
    status_turns InProgress is = open_turns (subst IsInProgress (sym is) tt)
    status_turns (Done commit) is = (λ e. cc, λ gone. begun_kept gone)
    status_turns Abandoned is = (λ e. cc, λ gone. begun_kept gone)

    last_turns : Decides (decide_last p es now r.grace (Some l))
    last_turns =
        let by = decide_by p l.sequence es l.seen.meta l.seen.meta.status in
        let early = nat_lt now.0 (later l.seen.meta.written r.grace).0 in
        cond_both (not (nat_lt l.sequence.0 LAST_NUMBER)) Nothing (cond early Nothing by) Decides (λ x. tt)
        (λ x. cond_both early Nothing by Decides (λ y. tt) (λ y. status_turns l.seen.meta.status refl))

pub repair_turns : (s : Starting) (h : List Seen) (r : Repairing) (now : Moment) (at : RepairStage) → IsLawfulHistory s h → r.partition.0 < s.partitions
    → Remembers s h r.partition at → TurnsSome s h (repair_write_at r now at)
repair_turns s h r now repair.Listing lawful within m = tt
repair_turns s h r now (repair.Reading last follows) lawful within m = tt
repair_turns s h r now (repair.Writing last follows ideal) lawful within (first, second, listed, read) =
    let p = r.partition in
    let l = last_segment s first p listed.past.lawful within in
    let is : last ≡ Some (read_node p l.0) = listed.last ∙ ap (read_by p) l.1.last in
    let state = state_read s h first second ideal read in
    let k : IsReadAt s h first second r l.0 follows ideal =
    record {
      within = within;
      lawful = lawful;
      listed = subst (λ (o : Option ReadNode). HasListed s h p o follows first) is listed;
      read = read;
      last = l.1;
    } in
    subst (λ (o : Option ReadNode). TurnsSome s h (repair_write_by r now o follows ideal (decision_at r now o ideal))) (sym is)
    (last_turns s h first second r l.0 follows ideal k now state.0 state.1)
repair_turns s h r now repair.Ended lawful within m = tt

-- ---- retirements

deleted_turns : (s : Starting) (h : List Seen) (p : Partition) (o : Option Listed) → TurnsSome s h (delete_write (read_by p o))
deleted_turns s h p None = tt
deleted_turns s h p (Some l) = node_apart p l.sequence.0

retiring_turns : (s : Starting) (h : List Seen) (r : Retirement) (o : Option Listed) (ideal : Seen) (i : IdealState) (d : Retiring) → IsState h ideal i
    → TurnsSome s h (retire_write_by r (read_by r.partition o) ideal d)
retiring_turns s h r o ideal i retiring.Nothing state = tt
retiring_turns s h r o ideal i (retiring.Remove q) state =
    (state.has, λ is turned. remove_turned (WasCommitted s.partitions h) (entries_by ideal.node) r.partition q turned, λ gone o t e. absurd gone)
retiring_turns s h r o ideal i (retiring.Delete q) state = deleted_turns s h r.partition o

pub retire_turns : (s : Starting) (h : List Seen) (r : Retirement) (now : Moment) (at : RetireStage) → retires.Remembers s h r.partition at
    → TurnsSome s h (retire_write_at r now at)
retire_turns s h r now retirement.Listing m = tt
retire_turns s h r now (retirement.Reading lowest) m = tt
retire_turns s h r now (retirement.Writing lowest ideal) (first, second, listed, read) =
    let state = state_read s h first second ideal read in
    let o = lowest_listed (metadata_of first r.partition) in
    subst (λ (x : Option ReadNode). TurnsSome s h (retire_write_by r x ideal (retiring_at r now x ideal))) (sym listed.lowest)
    (retiring_turns s h r o ideal state.0 (retiring_at r now (read_by r.partition o) ideal) state.1)
retire_turns s h r now retirement.Ended m = tt
