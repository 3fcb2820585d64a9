-- In each world of a run the committed segments that are left without entries were kept as long as the setup says.
use Rattle.std.proofs.Common.{◌≡◌, ◌⊎◌, inl, inr, ℕ, ◌+◌, ◌-◌, ◌<◌, ◌≤◌, Bool, true, false, not, List, [], ◌∷◌, ◌++◌, Option, Some, None, refl, sym, ◌∙◌, ap, subst, arith, length, slice_get, get_or, map}
use Rattle.std.specs.List.{range_with_len}
use Rattle.std.specs.Prelude.{IfSome, IsNone, IsSome}
use Rattle.std.proofs.lemmas.Bool.{cases_lt, false≢true, ltb-false}
use Rattle.std.proofs.lemmas.List.{length-map}
use Rattle.std.proofs.lemmas.List.FromFn.{get_or-range_with_len, length-range_with_len}
use Rattle.std.proofs.lemmas.Option.{same_Some}
use Rattle.rt_base.specs.declared.numbers.ControllerId.{ControllerId}
use Rattle.rt_base.specs.declared.numbers.Instance.{Instance}
use Rattle.rt_base.specs.declared.numbers.Moment.{Moment}
use Rattle.rt_base.specs.declared.numbers.Partition.{Partition}
use Rattle.rt_base.specs.declared.numbers.Sequence.{Sequence}
use Rattle.rt_commit.specs.Assignment.{replicas_in, Assigned}
use Rattle.rt_commit.specs.Calls.{calls_nothing, creates, gets, puts, reads, sets, Call}
use Rattle.rt_commit.specs.IsJob.{IsAt}
use Rattle.rt_commit.specs.Job.{call_at, changed_entries}
use Rattle.rt_commit.specs.Lasting.{IsJobOver}
use Rattle.rt_commit.specs.Told.{store_after}
use Rattle.rt_commit.specs.declared.job.Job.{Job}
use Rattle.rt_commit.specs.declared.job.JobStage.{JobStage}
use Rattle.rt_commit.specs.declared.job.JobStage.TheVariants as stage
use Rattle.rt_commit.specs.declared.work.Work.{Work}
use Rattle.rt_commit.specs.declared.work.Work.TheVariants as work
use Rattle.rt_controller.proofs.Telling.{told_request, told_work}
use Rattle.rt_controller.specs.Answers.{Handling}
use Rattle.rt_controller.specs.Controller.{Controlling}
use Rattle.rt_controller.specs.Lasting.{IsControllerOver}
use Rattle.rt_controller.specs.Requests.{call_of, handle_call, has_machine, has_none, not_assigned, not_leading, past_last, turn_of, uploads, Turn as Rule}
use Rattle.rt_controller.specs.Working.{job_place, work_call, work_call_at, work_call_on, Working}
use Rattle.rt_controller.specs.declared.handled.Handled.{Handled}
use Rattle.rt_controller.specs.declared.handled.Handled.TheVariants as handled
use Rattle.rt_events.specs.declared.outcome.Outcome.{Outcome}
use Rattle.rt_lists.proofs.Lists.{All-found}
use Rattle.rt_lists.proofs.Members.{filter-Has, front_push, Has-front}
use Rattle.rt_lists.specs.Members.{Has, IsFront}
use Rattle.rt_model.proofs.Entries.{entry_names, is_of-true, names_entry}
use Rattle.rt_model.proofs.Histories.{value_of-last, Stands-last}
use Rattle.rt_model.proofs.Kept.{last_write-Has}
use Rattle.rt_model.proofs.Lawful.{has_chains, has_endings, nodes_are_in_order, versions_count_writes}
use Rattle.rt_model.proofs.Listings.{has_listings, listed_has, listed_value}
use Rattle.rt_model.proofs.Partitions.{deleted_over, sequences_of-more}
use Rattle.rt_model.proofs.Starts.{start_undone}
use Rattle.rt_model.specs.Chain.{deletions_of, IsPresent}
use Rattle.rt_model.specs.Entries.{entries_by, entries_in, entries_of, AreGrounded, HasEntry}
use Rattle.rt_model.specs.History.{last_write, value_in, value_of}
use Rattle.rt_model.specs.Ideal.{has_entry, is_of, remove_segment_of}
use Rattle.rt_model.specs.Lawful.{bump, create_after, set, written_by, IsLawfulHistory}
use Rattle.rt_model.specs.Laws.{IsEnding, IsGoneLast}
use Rattle.rt_model.specs.Metadata.{listed_by, listed_write, metadata_of, node_key, past_key, sequences_of, IsCreated, IsDoneStatus, IsFinalStatus, IsInProgress, IsOpen}
use Rattle.rt_model.specs.Moments.{later}
use Rattle.rt_model.specs.Setup.{IsSetup}
use Rattle.rt_model.specs.Starting.{starting_contents, Starting}
use Rattle.rt_model.specs.declared.asked.Asked.{Asked}
use Rattle.rt_model.specs.declared.ideal_state.IdealEntry.{IdealEntry}
use Rattle.rt_model.specs.declared.node.Key.TheVariants as key
use Rattle.rt_model.specs.declared.node.Listed.{Listed}
use Rattle.rt_model.specs.declared.node.Node.{Node}
use Rattle.rt_model.specs.declared.node.Node.TheVariants as node
use Rattle.rt_model.specs.declared.node.Seen.{Seen}
use Rattle.rt_model.specs.declared.request.Request.{Request}
use Rattle.rt_model.specs.declared.seg_meta.SegMeta.{SegMeta}
use Rattle.rt_model.specs.declared.setup.Setup.{Setup}
use Rattle.rt_model.specs.declared.status.Status.{Status}
use Rattle.rt_model.specs.declared.status.Status.TheVariants.{Abandoned, Done, InProgress}
use Rattle.rt_nodes.specs.Repairs.{begun, retiring}
use Rattle.rt_nodes.specs.declared.chore.Chore.{Chore}
use Rattle.rt_nodes.specs.declared.chore.Chore.TheVariants.{Repair, Retire}
use Rattle.rt_nodes.specs.declared.controller_node.ControllerNode.{ControllerNode}
use Rattle.rt_nodes.specs.declared.upkeep.Upkeep.{Upkeep}
use Rattle.rt_past.proofs.Lowest.{without_entries}
use Rattle.rt_past.proofs.Reaching.{reaches_last}
use Rattle.rt_past.specs.IsPast.{IsPast}
use Rattle.rt_past.specs.Past.{Past}
use Rattle.rt_past.specs.Reaching.{IsOpenNow, ReachesLast}
use Rattle.rt_repair.proofs.Growing.{retire_begins_over}
use Rattle.rt_repair.proofs.Standing.{entries_other, entries_written}
use Rattle.rt_repair.proofs.Telling.{told_repair, told_retire}
use Rattle.rt_repair.specs.IsRepair as repairs
use Rattle.rt_repair.specs.Lasting.{IsRepairOver, IsRetireOver}
use Rattle.rt_repair.specs.ReadNode.{lowest_listed}
use Rattle.rt_repair.specs.Repairing.{Repairing}
use Rattle.rt_repair.specs.Retired.{is_ended}
use Rattle.rt_repair.specs.Retirement.{Retirement}
use Rattle.rt_safety.proofs.Later.{runs_are_safe}
use Rattle.rt_safety.proofs.Runs.{leads_add, leads_safe}
use Rattle.rt_safety.proofs.Spares.{spares, Spares}
use Rattle.rt_safety.proofs.Ways.{is_free, leaving, BeginsRightly, IsFree, Leaving}
use Rattle.rt_safety.specs.Runs.{happens, passes, Leads, Runs, Turn, TurnsTo}
use Rattle.rt_state.proofs.NeedsNodes.{retention_kept}
use Rattle.rt_state.specs.Applying.{Next}
use Rattle.rt_state.specs.Finding.{request_at}
use Rattle.rt_state.specs.IsSafe.{past_of}
use Rattle.rt_state.specs.IsSafeWorld.{IsSafeWorld}
use Rattle.rt_state.specs.Jobs.{noted_set, JobSteps, JobStepsAt}
use Rattle.rt_state.specs.Messages.{after_step, handed, Delivers, DeliversAt}
use Rattle.rt_state.specs.Nodes.{ControllerDoes, ControllerDoesAt}
use Rattle.rt_state.specs.Repairs.{upkeep_at, Keeps, KeepsAt}
use Rattle.rt_state.specs.Start.{start}
use Rattle.rt_state.specs.declared.cost.Cost.{Cost}
use Rattle.rt_state.specs.declared.state.State.{State}
use Rattle.rt_store.proofs.Seeing.{effect_of}
use Rattle.rt_store.proofs.Told.{leaves_on, read_same}
use Rattle.rt_store.specs.Answers.{after_call, refusal_of, Leaves}
use Rattle.rt_store.specs.Calls.{told_on}
use Rattle.rt_store.specs.Contents.{starting_of}
use Rattle.rt_store.specs.Meaning.{Told}
use Rattle.rt_world.proofs.KeepsRepairs.{upkeep_there}
use Rattle.rt_world.specs.Step.{way_of}
use Rattle.rt_world.specs.Way.{Goes, Way}
use Rattle.rt_world.specs.Way as way
use Rattle.rt_heal.proofs.Asked.{done_listed}
use Rattle.rt_heal.proofs.Listed.{ended_once}
use Rattle.rt_heal.proofs.Mended.{present_grounded}
use Rattle.rt_heal.proofs.Turning.{by_ideal, created_ended, entry_created}
use Rattle.rt_heal.proofs.TurnedRuns.{stepped_writes, turn_writes, WroteSo}
use Rattle.rt_recovery.specs.Retiring.{IsLeft, IsOld, LeavesOldOnes}
use Rattle.rt_recovery.proofs.Entered.{commit_entered, offline_entered, Entered}
use Rattle.rt_recovery.proofs.Retired.{number, retire_writes_for, HasRetired}
use Rattle.rt_recovery.proofs.Stepping.{repair_writes_for, HasWritten}
use Rattle.rt_recovery.proofs.Written.{event_goes_on}

-- ---- a committed segment without entries is the lowest, and another one follows it

never_both : (st : Status) → IsDoneStatus st → IsInProgress st → ⊥
never_both InProgress done going = done
never_both (Done commit) done going = going
never_both Abandoned done going = done

-- two that are listed of one segment are one
pub same_listed : (p : Partition) (a b : Listed) → a.sequence.0 ≡ b.sequence.0 → listed_write p a ≡ listed_write p b → a ≡ b
same_listed p a b place writes =
    same_Some a b
    (ap (λ (q : ℕ). listed_by q a.seen.version (node.Meta a.seen.meta)) place ∙ ap (λ (w : Seen). listed_by b.sequence.0 w.version w.node) writes)

module _ (setup : Setup) (past : Past) (p : Partition) (is : IsSetup setup) (k : IsPast setup past) (within : p.0 < setup.partitions) where
  abbrev history : List Seen
  history = past.history

  -- what was created has a number below the count
  created_below : (q : ℕ) (w : Seen) → Has history w → w.key ≡ node_key p q → q < sequences_of history p
  created_below q w has at = by_place (cases_lt q (sequences_of history p))
    where
      by_place : (q < sequences_of history p) ⊎ (sequences_of history p ≤ q) → q < sequences_of history p
      by_place (inl lt) = lt
      by_place (inr over) = absurd ((has_chains (starting_of setup) history k.lawful p within).uncreated q w over has at)

  -- it isn't the last one
  pub left_followed : (l : Listed) → IsLeft history p l → l.sequence.0 + 1 < sequences_of history p
  left_followed l left = by_place (reaches_last setup past p is k within) (reaches_last setup past p is k within).last (cases_lt (l.sequence.0 + 1) (sequences_of history p))
    where
      below : l.sequence.0 < sequences_of history p
      below = created_below l.sequence.0 (listed_write p l) (listed_has history p l left.listed) refl

      never_open : (w : Seen) → last_write history (node_key p l.sequence.0) ≡ Some w → IsOpen w.node → ⊥
      never_open w last going =
          let value = (value_of-last history (node_key p l.sequence.0) (listed_write p l) (listed_value history p l left.listed)).0 in
          let own : w ≡ listed_write p l = same_Some w (listed_write p l) (sym last ∙ value) in
          never_both l.seen.meta.status left.done (subst (λ (x : Seen). IsOpen x.node) own going)

      by_place : (reach : ReachesLast history p) → (reach.at + 1 ≡ sequences_of history p) ⊎ ((reach.at + 2 ≡ sequences_of history p) × IsOpenNow history p (reach.at + 1))
          → (l.sequence.0 + 1 < sequences_of history p) ⊎ (sequences_of history p ≤ l.sequence.0 + 1) → l.sequence.0 + 1 < sequences_of history p
      by_place reach last (inl lt) = lt
      by_place reach (inl e) (inr over) =
          let same : reach.at ≡ l.sequence.0 = omega (arith, e, over, below) in
          absurd (left.none (subst (HasEntry (entries_of history) p) same reach.entered))
      by_place reach (inr (e, now)) (inr over) =
          let same : reach.at + 1 ≡ l.sequence.0 = omega (arith, e, over, below) in
          absurd (never_open now.0 (subst (λ (q : ℕ). last_write history (node_key p q) ≡ Some now.0) same now.1) now.2)

  -- it is the lowest
  pub left_lowest : (l : Listed) → IsLeft history p l → l.sequence.0 ≡ deletions_of history p
  left_lowest l left =
      let present : IsPresent history p l.sequence.0 = subst (λ (o : Option Seen). IsSome o) (sym (listed_value history p l left.listed)) refl in
      without_entries setup past p l.sequence.0 is k within present left.none (left_followed l left)

  -- so it is the one that a retirement decides of
  pub left_decided : (l : Listed) → IsLeft history p l → lowest_listed (metadata_of history p) ≡ Some l
  left_decided l left = by_list (metadata_of history p) refl
    where
      few : sequences_of history p - deletions_of history p ≡ (sequences_of history p - deletions_of history p - 2) + 2
      few = omega (arith, left_followed l left, left_lowest l left)

      numbers : (ls : List Listed) → metadata_of history p ≡ ls → map number ls ≡ range_with_len (deletions_of history p) (sequences_of history p - deletions_of history p)
      numbers ls same = ap (map number) (sym same) ∙ (has_listings (starting_of setup) history k.lawful p within).run

      counted : (ls : List Listed) → metadata_of history p ≡ ls → length ls ≡ sequences_of history p - deletions_of history p
      counted ls same =
          omega (
            arith,
            length-map ls number,
            ap (λ (xs : List ℕ). length xs) (numbers ls same),
            length-range_with_len (deletions_of history p) (sequences_of history p - deletions_of history p),
          )

      by_list : (ls : List Listed) → metadata_of history p ≡ ls → lowest_listed (metadata_of history p) ≡ Some l
      by_list [] same = absurd (omega (arith, counted [] same, few))
      by_list (a ∷ []) same = absurd (omega (arith, counted (a ∷ []) same, few))
      by_list (a ∷ b ∷ ls) same =
          let first : a.sequence.0 ≡ deletions_of history p + 0 =
          ap (λ (xs : List ℕ). get_or xs 0 0) (numbers (a ∷ b ∷ ls) same)
          ∙ get_or-range_with_len (deletions_of history p) (sequences_of history p - deletions_of history p) 0 0 (omega (arith, few)) in
          let own : a.sequence.0 ≡ l.sequence.0 = omega (arith, first, left_lowest l left) in
          let has : Has (metadata_of history p) a = subst (λ (xs : List Listed). Has xs a) (sym same) (inl refl) in
          let writes : listed_write p a ≡ listed_write p l =
          same_Some (listed_write p a) (listed_write p l)
          (sym (listed_value history p a has) ∙ ap (λ (q : ℕ). value_of history (node_key p q)) own ∙ listed_value history p l left.listed) in
          ap lowest_listed same ∙ ap (λ (x : Listed). Some x) (same_listed p a l own writes)

-- ---- an entry stays, or its segment is old

abbrev KeepsOrOld : Setup → Moment → List Seen → List Seen → Type 0
KeepsOrOld setup now h g =
    (p : Partition) (q : ℕ) → p.0 < setup.partitions → HasEntry (entries_of h) p q
    → HasEntry (entries_of g) p q ⊎ ((l : Listed) → Has (metadata_of g p) l → IsDoneStatus l.seen.meta.status → l.sequence.0 ≡ q → IsOld setup now l)

all_kept : (setup : Setup) (now : Moment) (h g : List Seen) → Entered (entries_of h) (entries_of g) → KeepsOrOld setup now h g
all_kept setup now h g entered p q within has = inl (entered p q has)

same_entries : (h g : List Seen) → entries_of g ≡ entries_of h → Entered (entries_of h) (entries_of g)
same_entries h g same p q has = subst (λ (es : List IdealEntry). HasEntry es p q) (sym same) has

-- ---- calls

abbrev CallKeeps : List Seen → Call → Type 0
CallKeeps h calls_nothing = Unit {0}
CallKeeps h (puts path bytes) = Unit {0}
CallKeeps h (gets path) = Unit {0}
CallKeeps h (reads k) = Unit {0}
CallKeeps h (sets from n) = from.key ≡ key.Ideal → Has h from × Entered (entries_by from.node) (entries_by n)
CallKeeps h (creates k n prior) = k ≡ key.Ideal → ⊥

set_entered : (s : Starting) (h : List Seen) (from : Seen) (n : Node) → IsLawfulHistory s h → CallKeeps h (sets from n) → refusal_of h (set from n) ≡ None
    → Entered (entries_of h) (entries_of (h ++ written_by h (set from n) ∷ []))
set_entered s h from n lawful k free =
    by_ideal from.key (Entered (entries_of h) (entries_of (h ++ w ∷ []))) (λ is.
    let both = k is in
    let last = Stands-last h from (versions_count_writes s h lawful) both.0 (effect_of h (set from n) free) in
    let own : entries_of h ≡ entries_by from.node = ap entries_in (ap (last_write h) (sym is) ∙ last.0) in
    let new : entries_of (h ++ w ∷ []) ≡ entries_by n = entries_written h w is in
    subst (λ (es : List IdealEntry). Entered es (entries_of (h ++ w ∷ []))) (sym own)
    (subst (Entered (entries_by from.node)) (sym new) both.1))
    (λ other. same_entries h (h ++ w ∷ []) (entries_other h w other))
  where
    w : Seen
    w = written_by h (set from n)

module _ (s : Starting) (t : Told) (lawful : IsLawfulHistory s t.writes) where
  call_entered : (call : Call) (writes : List Seen) → writes ≡ (store_after t call).writes → CallKeeps t.writes call → Entered (entries_of t.writes) (entries_of writes)
  call_entered calls_nothing writes same k = same_entries t.writes writes (ap entries_of same)
  call_entered (puts path bytes) writes same k = same_entries t.writes writes (ap entries_of same)
  call_entered (gets path) writes same k = same_entries t.writes writes (ap entries_of same)
  call_entered (reads j) writes same k = same_entries t.writes writes (ap entries_of (same ∙ read_same t))
  call_entered (sets from n) writes same k =
      subst (λ (g : List Seen). Entered (entries_of t.writes) (entries_of g)) (sym same) (by_leaving (leaves_on t (set from n)))
    where
      by_leaving : Leaves (set from n) t.writes (told_on t (after_call (set from n))).writes
          → Entered (entries_of t.writes) (entries_of (told_on t (after_call (set from n))).writes)
      by_leaving (inl unwritten) = same_entries t.writes (told_on t (after_call (set from n))).writes (ap entries_of unwritten)
      by_leaving (inr (free, more)) =
          subst (λ (g : List Seen). Entered (entries_of t.writes) (entries_of g)) (sym more) (set_entered s t.writes from n lawful k free)
  call_entered (creates j n prior) writes same k =
      subst (λ (g : List Seen). Entered (entries_of t.writes) (entries_of g)) (sym same) (by_leaving (leaves_on t (create_after j n prior)))
    where
      by_leaving : Leaves (create_after j n prior) t.writes (told_on t (after_call (create_after j n prior))).writes
          → Entered (entries_of t.writes) (entries_of (told_on t (after_call (create_after j n prior))).writes)
      by_leaving (inl unwritten) = same_entries t.writes (told_on t (after_call (create_after j n prior))).writes (ap entries_of unwritten)
      by_leaving (inr (free, more)) =
          same_entries t.writes (told_on t (after_call (create_after j n prior))).writes (ap entries_of more ∙ entries_other t.writes (written_by t.writes (create_after j n prior)) k)

-- ---- jobs and requests

work_entered : (a : Assigned) (q : Asked) (w : Work) (es : List IdealEntry) → Entered es (changed_entries a q w es)
work_entered a q (work.Commit done) es = commit_entered es q.partition q.sequence (replicas_in a q.partition)
work_entered a q work.Offline es = offline_entered es q.partition q.sequence q.number.instance

meta_not_ideal : (p : Partition) (q : Sequence) → key.Meta p q ≡ key.Ideal → ⊥
meta_not_ideal p q e = cc

stage_keeps : (h : List Seen) (a : Assigned) (q : Asked) (now : Moment) (at : JobStage) → IsAt h q at → CallKeeps h (call_at a q now at)
stage_keeps h a q now (stage.Check from end path) k = tt
stage_keeps h a q now (stage.Done from commit) k = λ is. absurd (meta_not_ideal q.partition (record { 0 = q.sequence.0 }) (sym k.read.of ∙ is))
stage_keeps h a q now (stage.Next done) k = λ e. cc
stage_keeps h a q now (stage.IdealRead w found) k = tt
stage_keeps h a q now (stage.IdealSet w found ideal) k = λ is. (k.has, work_entered a q w (entries_by ideal.node))
stage_keeps h a q now stage.Ended k = tt

job_keeps : (w : State) (c : Controlling) → IsControllerOver w.setup (past_of w) c → (o : Option ℕ) → CallKeeps w.store.writes (work_call_on c w.moment o)
job_keeps w c k None = tt
job_keeps w c k (Some place) = by_job (slice_get c.jobs place) refl
  where
    by_job : (o : Option Job) → slice_get c.jobs place ≡ o → CallKeeps w.store.writes (work_call_at c w.moment o)
    by_job None at = tt
    by_job (Some j) at =
        stage_keeps w.store.writes c.assigned j.asked w.moment j.stage (All-found (IsJobOver w.setup (past_of w)) c.jobs place j k.jobs at).job.at

request_keeps : (h : List Seen) (r : Request) (rule : Rule) → CallKeeps h (call_of r rule)
request_keeps h r not_leading = tt
request_keeps h r (uploads path bytes) = tt
request_keeps h r not_assigned = tt
request_keeps h r past_last = tt
request_keeps h r (has_machine place what) = tt
request_keeps h r (has_none what) = tt

handed_writes : (w : State) (cost : Cost) (what : Handled) → (handed w cost what).0.store.writes ≡ w.store.writes
handed_writes w cost (handled.Reply r) = refl
handed_writes w cost (handled.Job j) = refl

-- ---- repairs and retirements

repaired_entered : (p : Partition) (now : Moment) (h g : List Seen) → HasWritten p now h g → Entered (entries_of h) (entries_of g)
repaired_entered p now h g (inl same) = same_entries h g (ap entries_of same)
repaired_entered p now h g (inr (w, more, inl n)) =
    same_entries h g (ap entries_of more ∙ entries_other h w (λ e. meta_not_ideal p n.number (sym n.at ∙ e)))
repaired_entered p now h g (inr (w, more, inr i)) =
    subst (Entered (entries_of h)) (sym (ap entries_of more ∙ entries_written h w i.at ∙ ap entries_by i.is)) i.entered

-- an entry of another segment stays
other_entered : (es : List IdealEntry) (p : Partition) (s : Sequence) (o : Partition) (q : ℕ) → HasEntry es o q
    → HasEntry (remove_segment_of es p s) o q ⊎ ((o ≡ p) × (q ≡ s.0))
other_entered es p s o q has = by_test (is_of p s n.0) refl
  where
    n : (e : IdealEntry) × Has es e × (e.partition ≡ o) × (e.sequence.0 ≡ q)
    n = entry_names es o (record { 0 = q }) has

    by_test : (b : Bool) → is_of p s n.0 ≡ b → HasEntry (remove_segment_of es p s) o q ⊎ ((o ≡ p) × (q ≡ s.0))
    by_test true own = let at = is_of-true p s n.0 own in inr (sym n.2 ∙ at.0, sym n.3 ∙ at.1)
    by_test false other =
        inl (names_entry (remove_segment_of es p s) o (record { 0 = q })
        (n.0, filter-Has (λ e. not (is_of p s e)) es n.0 n.1 (ap not other), n.2, n.3))

ended_final : (st : Status) → is_ended st ≡ true → IsFinalStatus st
ended_final InProgress e = absurd (false≢true e)
ended_final (Done commit) e = tt
ended_final Abandoned e = tt

retired_kept : (setup : Setup) (p : Partition) (now : Moment) (keep : ℕ) (h g : List Seen) → setup.retention ≡ Some keep → IsLawfulHistory (starting_of setup) g
    → HasRetired p now keep h g → KeepsOrOld setup now h g
retired_kept setup p now keep h g kept lawful (inl same) = all_kept setup now h g (same_entries h g (ap entries_of same))
retired_kept setup p now keep h g kept lawful (inr (w, more, inr d)) =
    all_kept setup now h g
    (same_entries h g (ap entries_of more ∙ entries_other h w (λ e. meta_not_ideal p (record { 0 = d.segment.sequence.0 }) (sym d.at ∙ e))))
retired_kept setup p now keep h g kept lawful (inr (w, more, inl r)) =
    λ o q within has. by_place o q within (other_entered (entries_of h) p r.segment.sequence o q has)
  where
    new : entries_of g ≡ remove_segment_of (entries_of h) p r.segment.sequence
    new = ap entries_of more ∙ entries_written h w r.at ∙ ap entries_by r.is ∙ r.left

    seen : Has g (listed_write p r.segment)
    seen = subst (λ (f : List Seen). Has f (listed_write p r.segment)) (sym more) (Has-front h (h ++ w ∷ []) (listed_write p r.segment) (front_push h w) r.lowest.seen)

    same_meta : (a b : SegMeta) → node.Meta a ≡ node.Meta b → a ≡ b
    same_meta a b e = cc

    old_one : (o : Partition) (q : ℕ) → o.0 < setup.partitions → o ≡ p → q ≡ r.segment.sequence.0 → (l : Listed) → Has (metadata_of g o) l
        → l.sequence.0 ≡ q → IsOld setup now l
    old_one o q within same at l listed place =
        let here = subst (λ (x : Partition). Has (metadata_of g x) l) same listed in
        let inside = subst (λ (x : Partition). x.0 < setup.partitions) same within in
        let own : r.segment.sequence.0 ≡ l.sequence.0 = sym at ∙ sym place in
        let once = ended_once (starting_of setup) g p lawful inside l (listed_write p r.segment) here
        (record { has = seen; is_of = ap (node_key p) own; final = ended_final r.segment.seen.meta.status r.ended }) in
        let meta : r.segment.seen.meta ≡ l.seen.meta = same_meta r.segment.seen.meta l.seen.meta (ap (λ (x : Seen). x.node) once) in
        let past = ltb-false now.0 (later r.segment.seen.meta.written keep).0 r.old in
        record { keep = keep; kept = kept; old = omega (arith, past, ap (λ (m : SegMeta). (later m.written keep).0) meta) }

    by_place : (o : Partition) (q : ℕ) → o.0 < setup.partitions → HasEntry (remove_segment_of (entries_of h) p r.segment.sequence) o q ⊎ ((o ≡ p) × (q ≡ r.segment.sequence.0))
        → HasEntry (entries_of g) o q ⊎ ((l : Listed) → Has (metadata_of g o) l → IsDoneStatus l.seen.meta.status → l.sequence.0 ≡ q → IsOld setup now l)
    by_place o q within (inl there) = inl (subst (λ (es : List IdealEntry). HasEntry es o q) (sym new) there)
    by_place o q within (inr (same, at)) = inr (λ l listed done place. old_one o q within same at l listed place)

-- ---- an event

module _ (w : State) (x : Next) (s : IsSafeWorld w) (after : IsLawfulHistory (starting_of w.setup) x.0.store.writes) where
  abbrev Kept : Type 0
  Kept = KeepsOrOld w.setup w.moment w.store.writes x.0.store.writes

  entered_kept : Entered (entries_of w.store.writes) (entries_of x.0.store.writes) → Kept
  entered_kept entered = all_kept w.setup w.moment w.store.writes x.0.store.writes entered

  still_kept : x.0.store.writes ≡ w.store.writes → Kept
  still_kept same = entered_kept (same_entries w.store.writes x.0.store.writes (ap entries_of same))

  spared_kept : (cost : Cost) → Spares w cost x.0 → Kept
  spared_kept cost k = by_written k.written
    where
      by_written : (x.0.store.writes ≡ w.store.writes) ⊎ ((j : Instance) × Leaves (bump j) w.store.writes x.0.store.writes) → Kept
      by_written (inl same) = still_kept same
      by_written (inr (j, inl same)) = still_kept same
      by_written (inr (j, inr (free, more))) =
          entered_kept
          (same_entries w.store.writes x.0.store.writes
          (ap entries_of more ∙ entries_other w.store.writes (written_by w.store.writes (bump j)) (λ e. cc)))

  turns_kept : (c : ControllerId) (does : ControllerNode → ControllerNode) (o : Outcome) (cost : Cost) → ControllerDoes w c does o cost x → Kept
  turns_kept c does o cost h = by_node (slice_get w.controllers c.0) h
    where
      by_node : (n : Option ControllerNode) → ControllerDoesAt n w c does o cost x → Kept
      by_node None h = absurd h
      by_node (Some n) is = still_kept (ap (λ (z : Next). z.0.store.writes) is)

  handles_kept : (m : ℕ) (c : ControllerId) (cost : Cost) → Delivers w m c cost x → Kept
  handles_kept m c cost h = by_found (request_at w m) (slice_get w.controllers c.0) h
    where
      by_found : (o : Option Request) (n : Option ControllerNode) → DeliversAt o n w c cost x → Kept
      by_found None n h = absurd h
      by_found (Some q) None h = absurd h
      by_found (Some q) (Some n) (new, what, store, deep, handles, is) =
          let y : Handling = record { controller = new; handled = what } in
          let left = told_request w.store store w.deep deep n.controller q w.moment y handles in
          entered_kept
          (call_entered (starting_of w.setup) w.store s.safe.past.lawful (handle_call n.controller q) x.0.store.writes
          (ap (λ (z : Next). z.0.store.writes) is ∙ handed_writes (after_step w c n new store deep) cost what ∙ ap (λ (t : Told). t.writes) left.store)
          (request_keeps w.store.writes q (turn_of n.controller q)))

  works_kept : (c : ControllerId) (j : ℕ) (cost : Cost) → JobSteps w c j cost x → Kept
  works_kept c j cost h = by_node (slice_get w.controllers c.0) refl h
    where
      by_node : (n : Option ControllerNode) → slice_get w.controllers c.0 ≡ n → JobStepsAt n w c j cost x → Kept
      by_node None there h = absurd h
      by_node (Some n) there (new, step, store, deep, works, is) =
          let y : Working = record { controller = new; step = step } in
          let left = told_work w.store store w.deep deep n.controller j w.moment y works in
          let z = noted_set (after_step w c n new store deep) cost (length w.store.writes) in
          entered_kept
          (call_entered (starting_of w.setup) w.store s.safe.past.lawful (work_call n.controller j w.moment) x.0.store.writes
          (ap (λ (v : Next). v.0.store.writes) is ∙ stepped_writes z cost step step.reply ∙ ap (λ (t : Told). t.writes) left.store)
          (job_keeps w n.controller (s.safe.controllers c.0 n there).over (job_place n.controller.jobs j)))

  repair_remembered : (p : Partition) (o : Option Repairing) → IfSome o (IsRepairOver w.setup (past_of w))
      → repairs.Remembers (starting_of w.setup) w.store.writes (begun w.setup p o).partition (begun w.setup p o).stage
  repair_remembered p None k = tt
  repair_remembered p (Some r) k = k.remembers

  retiring_over : (p : Partition) (o : Option Retirement) → p.0 < w.setup.partitions → (IsNone o → IsSome w.setup.retention)
      → IfSome o (IsRetireOver w.setup (past_of w)) → IsRetireOver w.setup (past_of w) (retiring w.setup p o)
  retiring_over p None within some k = retire_begins_over w.setup (past_of w) p _ within (retention_kept w.setup.retention (some refl))
  retiring_over p (Some r) within some k = k

  keeps_kept : (c : ControllerId) (p : Partition) (chore : Chore) (cost : Cost) → Leaving w cost (way.keeps c p chore) → Keeps w c p chore cost x → Kept
  keeps_kept c p chore cost begins h = by_found (slice_get w.controllers c.0) refl (upkeep_at w c p) refl chore begins.1 h
    where
      by_found : (o : Option ControllerNode) → slice_get w.controllers c.0 ≡ o → (u : Option Upkeep) → upkeep_at w c p ≡ u → (chore : Chore)
          → BeginsRightly chore w c p → KeepsAt o u w c p chore cost x → Kept
      by_found None there u at chore begin h = absurd h
      by_found (Some n) there None at chore begin h = absurd h
      by_found (Some n) there (Some old) at Repair begin (new, store, (did, (after_it, steps, put), tells), is) =
          let r = begun w.setup p old.repair in
          let left = told_repair w.store store r w.moment (record { repair = after_it; step = did }) steps in
          let k = upkeep_there w c p n old s.safe there at in
          entered_kept
          (repaired_entered r.partition w.moment w.store.writes x.0.store.writes
          (subst (HasWritten r.partition w.moment w.store.writes) (sym (ap (λ (z : State). z.store.writes) is ∙ ap (λ (t : Told). t.writes) left.0))
          (repair_writes_for (starting_of w.setup) w.store r w.moment s.safe.past.lawful (repair_remembered p old.repair k.repair))))
      by_found (Some n) there (Some old) at Retire begin (new, store, (did, (after_it, steps, put), tells), is) =
          let r = retiring w.setup p old.retirement in
          let left = told_retire w.store store r w.moment (record { retire = after_it; step = did }) steps in
          let k = upkeep_there w c p n old s.safe there at in
          let over = retiring_over p old.retirement begins.0 (begin old at) k.retirement in
          retired_kept w.setup r.partition w.moment r.keep w.store.writes x.0.store.writes (sym over.keep) after
          (subst (HasRetired r.partition w.moment r.keep w.store.writes) (sym (ap (λ (z : State). z.store.writes) is ∙ ap (λ (t : Told). t.writes) left.0))
          (retire_writes_for (starting_of w.setup) w.store r w.moment s.safe.past.lawful over.within over.remembers))

  goes_kept : (y : Way) (cost : Cost) → IsFree cost y → Leaving w cost y → Goes w y cost x → Kept
  goes_kept (way.turns c does told) cost free left h = turns_kept c does told cost h
  goes_kept (way.handles m c) cost free left h = handles_kept m c cost h
  goes_kept (way.works c j) cost free left h = works_kept c j cost h
  goes_kept (way.keeps c p chore) cost free left h = keeps_kept c p chore cost left h
  goes_kept y cost free left h = spared_kept cost (spares w cost x y tt free left h)

-- ---- a turn

-- one write at most came
abbrev OneMore : List Seen → List Seen → Type 0
OneMore h g = (g ≡ h) ⊎ ((v : Seen) × (g ≡ h ++ v ∷ []))

one_more : (w : State) (g : List Seen) → WroteSo w g → OneMore w.store.writes g
one_more w g (inl same) = inl same
one_more w g (inr (call, inl same, turns)) = inl same
one_more w g (inr (call, inr (free, more), turns)) = inr (written_by w.store.writes call, more)

module _ (w v : State) (safe : IsSafeWorld w) (after : IsSafeWorld v) (setup : v.setup ≡ w.setup) (front : IsFront w.store.writes v.store.writes)
    (more : OneMore w.store.writes v.store.writes) where
  abbrev old : List Seen
  old = w.store.writes

  abbrev new : List Seen
  new = v.store.writes

  lawful_new : IsLawfulHistory (starting_of w.setup) new
  lawful_new = subst (λ (x : Setup). IsLawfulHistory (starting_of x) new) setup after.safe.past.lawful

  module _ (p : Partition) (within : p.0 < w.setup.partitions) (l : Listed) (left : IsLeft new p l) where
    inside : p.0 < v.setup.partitions
    inside = subst (λ (x : Setup). p.0 < x.partitions) (sym setup) within

    followed : l.sequence.0 + 1 < sequences_of new p
    followed = left_followed v.setup (past_of v) p after.safe.setup after.safe.past inside l left

    -- the next one was created before
    was_followed : l.sequence.0 + 1 < sequences_of old p
    was_followed = by_more more (cases_lt (l.sequence.0 + 1) (sequences_of old p))
      where
        reach : ReachesLast new p
        reach = reaches_last v.setup (past_of v) p after.safe.setup after.safe.past inside

        -- the entries are those of before
        by_reach : entries_of new ≡ entries_of old → (sequences_of old p ≤ l.sequence.0 + 1) → (reach.at + 1 ≡ sequences_of new p)
            ⊎ ((reach.at + 2 ≡ sequences_of new p) × IsOpenNow new p (reach.at + 1)) → ⊥
        by_reach same over last = by_last last
          where
            entered : HasEntry (entries_of old) p reach.at
            entered = subst (λ (es : List IdealEntry). HasEntry es p reach.at) same reach.entered

            grounded : AreGrounded old (entries_of old)
            grounded = present_grounded (starting_of w.setup) old safe.safe.past.lawful

            made : IsCreated old p reach.at
            made = entry_created old (entries_of old) p reach.at grounded entered

            at_most : reach.at ≤ l.sequence.0
            at_most =
                let below = created_below w.setup (past_of w) p safe.safe.setup safe.safe.past within reach.at made.0 made.1 made.2 in
                omega (arith, below, over)

            by_last : (reach.at + 1 ≡ sequences_of new p) ⊎ ((reach.at + 2 ≡ sequences_of new p) × IsOpenNow new p (reach.at + 1)) → ⊥
            by_last (inl e) = absurd (omega (arith, e, followed, at_most))
            by_last (inr (e, going)) =
                let own : reach.at ≡ l.sequence.0 = omega (arith, e, followed, at_most) in
                left.none (subst (HasEntry (entries_of new) p) own reach.entered)

        by_more : OneMore old new → (l.sequence.0 + 1 < sequences_of old p) ⊎ (sequences_of old p ≤ l.sequence.0 + 1) → l.sequence.0 + 1 < sequences_of old p
        by_more m (inl lt) = lt
        by_more (inl same) (inr over) = omega (arith, followed, ap (λ (f : List Seen). sequences_of f p) same)
        by_more (inr (x, is)) (inr over) =
            by_ideal x.key (l.sequence.0 + 1 < sequences_of old p)
            (λ at. omega (arith, followed, ap (λ (f : List Seen). sequences_of f p) is, sequences_of-more old x p, ap (past_key p) at))
            (λ other. absurd (by_reach (ap entries_of is ∙ entries_other old x other) over reach.last))

    -- so it was listed before, as it is
    was_listed : Has (metadata_of old p) l
    was_listed =
        let made = (has_chains (starting_of w.setup) old safe.safe.past.lawful p within).created (l.sequence.0 + 1) was_followed in
        let e = created_ended (starting_of w.setup) old p l.sequence.0 safe.safe.past.lawful within (made.0, made.1.has, made.1.is_of, made.1.starts) in
        by_end e.0 e.1 ((has_endings (starting_of w.setup) old safe.safe.past.lawful p l.sequence.0 within).stays e.0 e.1)
      where
        own : (e : Seen) → IsEnding old p l.sequence.0 e → e ≡ listed_write p l
        own e k =
            ended_once (starting_of w.setup) new p lawful_new within l e left.listed
            (record { has = Has-front old new e front k.has; is_of = k.is_of; final = k.final })

        by_end : (e : Seen) → IsEnding old p l.sequence.0 e
            → (last_write old (node_key p l.sequence.0) ≡ Some e) ⊎ IsGoneLast old p l.sequence.0 → Has (metadata_of old p) l
        by_end e k (inl last) =
            let same = own e k in
            let at : last_write old (node_key p l.sequence.0) ≡ Some (listed_write p l) = last ∙ ap (λ (x : Seen). Some x) same in
            let d = done_listed (starting_of w.setup) old p l.sequence safe.safe.past.lawful within (listed_write p l) left.done at in
            let place : d.listed.sequence.0 ≡ l.sequence.0 = ap (λ (x : Sequence). x.0) d.is in
            let writes : listed_write p d.listed ≡ listed_write p l =
            same_Some (listed_write p d.listed) (listed_write p l)
            (sym (listed_value old p d.listed d.has) ∙ ap (λ (q : ℕ). value_of old (node_key p q)) place ∙ ap value_in at) in
            subst (Has (metadata_of old p)) (same_listed p d.listed l place writes) d.has
        by_end e k (inr (x, last, gone)) =
            let has = last_write-Has old (node_key p l.sequence.0) x last in
            let o = nodes_are_in_order (starting_of w.setup) new lawful_new p within in
            let deleted = deleted_over new p l.sequence.0 o (x, Has-front old new x front has.0, has.1, gone) in
            let present : IsPresent new p l.sequence.0 = subst (λ (y : Option Seen). IsSome y) (sym (listed_value new p l left.listed)) refl in
            let high = ((has_chains (starting_of w.setup) new lawful_new p within).present l.sequence.0).0 present in
            absurd (omega (arith, deleted, o.present l.sequence.0 high.0))

    -- it had no entry before, or is old now
    old_by : (now : Moment) → KeepsOrOld w.setup now old new → LeavesOldOnes w → w.moment.0 ≤ now.0 → IsOld w.setup now l
    old_by now kept all on = by_entry (has_entry (entries_of old) p (record { 0 = l.sequence.0 })) refl
      where
        by_kept : HasEntry (entries_of new) p l.sequence.0
            ⊎ ((x : Listed) → Has (metadata_of new p) x → IsDoneStatus x.seen.meta.status → x.sequence.0 ≡ l.sequence.0 → IsOld w.setup now x) → IsOld w.setup now l
        by_kept (inl has) = absurd (left.none has)
        by_kept (inr is) = is l left.listed left.done refl

        by_entry : (b : Bool) → has_entry (entries_of old) p (record { 0 = l.sequence.0 }) ≡ b → IsOld w.setup now l
        by_entry true has = by_kept (kept p l.sequence.0 within has)
        by_entry false none =
            let k = all p within l (record { listed = was_listed; done = left.done; none = λ has. false≢true (sym none ∙ has) }) in
            record { keep = k.keep; kept = k.kept; old = omega (arith, k.old, on) }

turn_leaves : (w : State) (turn : Turn) (new : State) → IsSafeWorld w → LeavesOldOnes w → TurnsTo w turn new → LeavesOldOnes new
turn_leaves w turn new safe all t = λ p within l left.
    let one : Leads w (turn ∷ []) new = (new, t, refl) in
    let after = leads_safe w (turn ∷ []) new safe one in
    let goes = (leads_add w (turn ∷ []) new safe one).goes in
    let inside = subst (λ (x : Setup). p.0 < x.partitions) goes.setup within in
    let k = by_turn turn t after goes.setup in
    let own = old_by w new safe after goes.setup goes.past.history (one_more w new.store.writes (turn_writes w turn new safe t)) p inside l left new.moment
    (kept_later k.0 k.1) all k.0 in
    record { keep = own.keep; kept = ap (λ (x : Setup). x.retention) goes.setup ∙ own.kept; old = own.old }
  where
    kept_later : w.moment.0 ≤ new.moment.0 → KeepsOrOld w.setup w.moment w.store.writes new.store.writes → KeepsOrOld w.setup new.moment w.store.writes new.store.writes
    kept_later on kept p q within has = by_kept (kept p q within has)
      where
        by_kept : HasEntry (entries_of new.store.writes) p q
            ⊎ ((l : Listed) → Has (metadata_of new.store.writes p) l → IsDoneStatus l.seen.meta.status → l.sequence.0 ≡ q → IsOld w.setup w.moment l)
            → HasEntry (entries_of new.store.writes) p q
            ⊎ ((l : Listed) → Has (metadata_of new.store.writes p) l → IsDoneStatus l.seen.meta.status → l.sequence.0 ≡ q → IsOld w.setup new.moment l)
        by_kept (inl there) = inl there
        by_kept (inr old) = inr (λ l listed done place. let k = old l listed done place in record { keep = k.keep; kept = k.kept; old = omega (arith, k.old, on) })

    by_turn : (turn : Turn) → TurnsTo w turn new → IsSafeWorld new → new.setup ≡ w.setup
        → (w.moment.0 ≤ new.moment.0) × KeepsOrOld w.setup w.moment w.store.writes new.store.writes
    by_turn (happens e o) (fits, (cost, due, h)) after setup = (
      (event_goes_on w e new o (cost, due, h)).moment,
      goes_kept w (new, o) safe (subst (λ (x : Setup). IsLawfulHistory (starting_of x) new.store.writes) setup after.safe.past.lawful) (way_of w e) cost
          (is_free w e cost due) (leaving w e cost due) h,
    )
    by_turn passes (cost, due, is) after setup = (
      omega (arith, ap (λ (x : State). x.moment.0) is),
      all_kept w.setup w.moment w.store.writes new.store.writes (same_entries w.store.writes new.store.writes (ap (λ (x : State). entries_of x.store.writes) is)),
    )

pub leads_leave : (from : State) (turns : List Turn) (to : State) → IsSafeWorld from → LeavesOldOnes from → Leads from turns to → LeavesOldOnes to
leads_leave from [] to safe all same = subst LeavesOldOnes (sym same) all
leads_leave from (turn ∷ turns) to safe all (next, t, rest) =
    leads_leave next turns to (leads_safe from (turn ∷ []) next safe (next, t, refl)) (turn_leaves from turn next safe all t) rest

-- nothing is committed in a fresh cluster
start_leaves : (setup : Setup) → LeavesOldOnes (start setup)
start_leaves setup p within l left =
    absurd (start_undone (starting_of setup) (listed_write p l) (listed_has (starting_contents (starting_of setup)) p l left.listed) left.done)

pub runs_leave : (setup : Setup) (turns : List Turn) (w : State) → IsSetup setup → Runs setup turns w → LeavesOldOnes w
runs_leave setup turns w is run = leads_leave (start setup) turns w (runs_are_safe setup [] (start setup) is refl) (start_leaves setup) run
