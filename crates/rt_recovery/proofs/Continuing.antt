-- The steps of a commit's job where nobody else writes and no fault is planned: once it has made its segment Done none of them is refused,
-- and as it ends each partition goes on.
use Rattle.std.proofs.Common.{◌≡◌, ◌&&◌, not, ℕ, ◌+◌, ◌<◌, ◌≤◌, Bool, true, false, cond, List, [], ◌∷◌, ◌++◌, Option, Some, None, Result, Ok, Err, refl, sym, ◌∙◌, ap, subst, arith}
use Rattle.std.proofs.lemmas.Bool.{and_from, and_right, true≢false}
use Rattle.std.proofs.lemmas.Option.{none-some, same_Some}
use Rattle.rt_base.specs.Faults.{fault_of, left_under}
use Rattle.rt_base.specs.declared.header.Header.{Header}
use Rattle.rt_base.specs.declared.numbers.Instance.{Instance}
use Rattle.rt_base.specs.declared.numbers.Moment.{Moment}
use Rattle.rt_base.specs.declared.numbers.Offset.{Offset}
use Rattle.rt_base.specs.declared.numbers.Partition.{Partition}
use Rattle.rt_commit.specs.Assignment.{replicas_in, Assigned}
use Rattle.rt_commit.specs.Changes.{are_online, commit_changes}
use Rattle.rt_commit.specs.IsJob.{IsAt, IsChanging, IsCommitting, IsSetDone}
use Rattle.rt_commit.specs.Job.{after_done, after_get, after_next, after_read, after_set, bad, call_at, checked, commit_of, commits, done_node, ends, goes, ideal_node, is_commit, is_wanted, next_key, next_node, step_at, success, Stepping}
use Rattle.rt_commit.specs.Told.{answer_to, store_after, ToldDeep}
use Rattle.rt_commit.specs.declared.job.JobStage.{JobStage}
use Rattle.rt_commit.specs.declared.job.JobStage.TheVariants as stage
use Rattle.rt_commit.specs.declared.work.Work.{Work}
use Rattle.rt_commit.specs.declared.work.Work.TheVariants as work
use Rattle.rt_commit.proofs.Counting.{replicas_counted}
use Rattle.rt_deep.specs.declared.refused.DeepRefused.{DeepRefused}
use Rattle.rt_deep.specs.declared.refused.DeepRefused.TheVariants as deep
use Rattle.rt_lists.specs.Members.{Has}
use Rattle.rt_meta.specs.Lives.{done_of, first_of}
use Rattle.rt_model.specs.Entries.{entries_by, entries_in, entries_of}
use Rattle.rt_model.specs.History.{last_write, value_of, HasVersion}
use Rattle.rt_model.specs.Ideal.{commit_step_of, has_entry, next_sequence}
use Rattle.rt_model.specs.Lawful.{create_after, set, written_by, IsLawfulHistory, Write}
use Rattle.rt_model.specs.Metadata.{node_key}
use Rattle.rt_model.specs.Starting.{Starting}
use Rattle.rt_model.specs.declared.asked.Asked.{Asked}
use Rattle.rt_model.specs.declared.commit.Commit.{Commit}
use Rattle.rt_model.specs.declared.ideal_state.IdealEntry.{IdealEntry}
use Rattle.rt_model.specs.declared.ideal_state.IdealState.{IdealState}
use Rattle.rt_model.specs.declared.job_step.StepName.TheVariants as name
use Rattle.rt_model.specs.declared.job_step.StepOutcome.TheVariants as outcome
use Rattle.rt_model.specs.declared.node.Key.{Key}
use Rattle.rt_model.specs.declared.node.Key.TheVariants as key
use Rattle.rt_model.specs.declared.node.Node.TheVariants as node
use Rattle.rt_model.specs.declared.node.Seen.{Seen}
use Rattle.rt_model.specs.declared.reply.ReplyStatus.{ReplyStatus}
use Rattle.rt_model.proofs.Histories.{value_of-last, Stands-last}
use Rattle.rt_model.proofs.Lawful.{has_ideal_state, versions_count_writes}
use Rattle.rt_model.proofs.Steps.{by_same}
use Rattle.rt_past.specs.Files.{header_in}
use Rattle.rt_repair.proofs.Standing.{entries_other, entries_written}
use Rattle.rt_store.specs.Answers.{after_by, after_call, answer_by, answer_of, found_in, reading, refusal_of}
use Rattle.rt_store.specs.Calls.{answer_on, told_on}
use Rattle.rt_store.specs.Meaning.{Told}
use Rattle.rt_store.specs.declared.refused.StoreRefused.{StoreRefused}
use Rattle.rt_store.specs.declared.refused.StoreRefused.TheVariants.{Exists, Failed, Memory, NoNode, VersionChanged}
use Rattle.rt_store.proofs.Listing.{value_has}
use Rattle.rt_store.proofs.Seeing.{effect_of, of_effect}
use Rattle.rt_store.proofs.Told.{read_same}
use Rattle.rt_znodes.specs.Znodes.{end_in, meta_in}
use Rattle.rt_calm.proofs.Delivered.{unfaulted}
use Rattle.rt_calm.proofs.Paying.{IsFirst}
use Rattle.rt_recovery.specs.GoingOn.{GoesOnWhole}
use Rattle.rt_recovery.proofs.Continued.{commit_goes_on, commit_spares, done_last, done_stands, next_absent, next_last, other_goes_on, IsDoneLast, IsNextLast}

-- ---- what is true at each stage

module _ (s : Starting) where
  -- each partition goes on
  abbrev pub AllOn : List Seen → Type 0
  AllOn h = (p : Partition) → p.0 < s.partitions → GoesOnWhole h p

  module _ (q : Asked) (h : List Seen) where
    -- each other one
    abbrev pub OthersOn : Type 0
    OthersOn = (p : Partition) → p.0 < s.partitions → (p ≡ q.partition → ⊥) → GoesOnWhole h p

    abbrev WorksAt : Work → Type 0
    WorksAt (work.Commit done) = OthersOn × IsNextLast h q.partition q.sequence
    WorksAt work.Offline = ⊥

    -- before the segment is Done all go on; then the others do, and the job goes on with what it has written
    abbrev pub GoesAt : JobStage → Type 0
    GoesAt (stage.Check from end path) = AllOn h
    GoesAt (stage.Done from commit) = AllOn h
    GoesAt (stage.Next done) = OthersOn × IsDoneLast h q.partition q.sequence
    GoesAt (stage.IdealRead w found) = WorksAt w
    GoesAt (stage.IdealSet w found ideal) = WorksAt w × (value_of h ideal.key ≡ Some ideal)
    GoesAt stage.Ended = Unit {0}

    -- behind a step it goes on so, or has ended
    abbrev pub StepGoes : JobStage → Option ReplyStatus → Type 0
    StepGoes to None = GoesAt to
    StepGoes to (Some reply) = AllOn h

  module _ (q : Asked) (x : Stepping) where
    abbrev Leaves : List Seen → Stepping → Type 0
    Leaves h y = StepGoes q h y.stage y.did.status

    made : (h : List Seen) (y : Stepping) → Some y ≡ Some x → Leaves h y → Leaves h x
    made h y e k = subst (Leaves h) (same_Some y x e) k

    -- ---- check

    get_goes : (h : List Seen) (from : Seen) (end : Offset) (path : List ℕ) (answer : Result (List ℕ) DeepRefused) → AllOn h
        → after_get q from end path answer ≡ Some x → Leaves h x
    get_goes h from end path (Ok bytes) on is = by_header (header_in bytes) is
      where
        by_header : (o : Option Header) → checked q from end path o ≡ Some x → Leaves h x
        by_header None e = made h _ e on
        by_header (Some found) e = by_test (is_wanted q (meta_in from.node).start end found) e
          where
            by_test : (b : Bool) → cond b (goes (stage.Done from (commit_of end path found)) name.Check outcome.Fine) (bad q from end (Some found)) ≡ Some x
                → Leaves h x
            by_test true f = made h _ f on
            by_test false f = made h _ f on
    get_goes h from end path (Err deep.Absent) on is = made h _ is on
    get_goes h from end path (Err (deep.OtherBytes kept offered)) on is = made h _ is on
    get_goes h from end path (Err deep.Failed) on is = made h _ is on
    get_goes h from end path (Err deep.Memory) on is = absurd (none-some x is)

    module _ (t : Told) (none : t.faults.plan ≡ []) (lawful : IsLawfulHistory s t.writes) (within : q.partition.0 < s.partitions) (a : Assigned)
        (some : 1 ≤ a.replication) (now : Moment) where
      abbrev h : List Seen
      h = t.writes

      abbrev p : Partition
      p = q.partition

      -- a call leaves what it leaves without a fault
      unfaulted_writes : (call : Write) → (told_on t (after_call call)).writes ≡ after_call call h
      unfaulted_writes call = ap (λ (plan : List Bool). left_under (fault_of plan) h (after_call call h)) none

      node_apart : (o : Partition) (n : ℕ) → node_key o n ≡ key.Ideal → ⊥
      node_apart o n e = cc

      own_partition : (o : Partition) (m n : ℕ) → node_key p m ≡ node_key o n → o ≡ p
      own_partition o m n e = cc

      -- a write of a node of the partition
      others_on : (w : Seen) (n : ℕ) → w.key ≡ node_key p n → IsLawfulHistory s (h ++ w ∷ []) → OthersOn q h → OthersOn q (h ++ w ∷ [])
      others_on w n is after on o inside other =
          other_goes_on s h w o inside after (λ m e. other (own_partition o n m (sym is ∙ e)))
          (λ e has at. subst (λ (es : List IdealEntry). Has es e) (sym (entries_other h w (λ same. node_apart p n (sym is ∙ same)))) has)
          (on o inside other)

      -- ---- done

      module _ (from : Seen) (commit : Commit) (at : IsCommitting h q from commit.end.0) (on : AllOn h) where
        abbrev done_call : Write
        done_call = set from (done_node from commit now)

        abbrev done_write : Seen
        done_write = written_by h done_call

        done_goes : (o : Option StoreRefused) → refusal_of h done_call ≡ o → IsLawfulHistory s (after_by o h done_write)
            → after_done from commit now (answer_by o done_write.version) ≡ Some x → Leaves (after_by o h done_write) x
        done_goes None free after is =
            let stands = Stands-last h from (versions_count_writes s h lawful) at.read.has (effect_of h done_call free) in
            let last : last_write h (node_key p q.sequence.0) ≡ Some from = ap (last_write h) (sym at.read.of) ∙ stands.0 in
            made (h ++ done_write ∷ []) _ is (
              others_on done_write q.sequence.0 at.read.of after (λ o inside other. on o inside),
              done_last s h p q.sequence within lawful from done_write (done_of (meta_in from.node) commit now) last at.read.consuming at.read.of refl tt
                  (on p within),
            )
        done_goes (Some NoNode) free after is = made h _ is on
        done_goes (Some (Exists found)) free after is = made h _ is on
        done_goes (Some (VersionChanged expected found)) free after is = made h _ is on
        done_goes (Some Failed) free after is = made h _ is on
        done_goes (Some Memory) free after is = absurd (none-some x is)

        done_steps : IsLawfulHistory s (told_on t (after_call done_call)).writes
            → after_done from commit now (answer_on t (answer_of (λ (w : Seen). w.version) done_call)) ≡ Some x → Leaves (told_on t (after_call done_call)).writes x
        done_steps after is =
            let writes = unfaulted_writes done_call in
            let answer = unfaulted Failed t.faults.plan (answer_of (λ (w : Seen). w.version) done_call h) none in
            subst (λ (g : List Seen). Leaves g x) (sym writes)
            (done_goes (refusal_of h done_call) refl (subst (IsLawfulHistory s) writes after) (ap (after_done from commit now) (sym answer) ∙ is))

      -- ---- next

      abbrev created : Result (Unit {0}) StoreRefused
      created = Ok tt

      module _ (done : Seen) (at : IsSetDone h p q.sequence done) (k : GoesAt q h (stage.Next done)) where
        abbrev next_call : Write
        next_call = create_after (next_key q) (next_node a q now done) done

        abbrev next_write : Seen
        next_write = written_by h next_call

        next_free : refusal_of h next_call ≡ None
        next_free =
            let value : value_of h done.key ≡ Some done =
            ap (value_of h) at.of ∙ done_stands s h p q.sequence within lawful k.1 done at.has at.of at.done in
            of_effect h next_call (
              subst (HasVersion done.version) (sym value) refl,
              next_absent s h p q.sequence within lawful k.1,
            )

        next_steps : IsLawfulHistory s (told_on t (after_call next_call)).writes → after_next done (answer_on t (answer_of (λ (w : Seen). tt) next_call)) ≡ Some x
            → Leaves (told_on t (after_call next_call)).writes x
        next_steps after is =
            let writes : (told_on t (after_call next_call)).writes ≡ h ++ next_write ∷ [] =
            unfaulted_writes next_call ∙ ap (λ (o : Option StoreRefused). after_by o h next_write) next_free in
            let answer : answer_on t (answer_of (λ (w : Seen). tt) next_call) ≡ created =
            unfaulted Failed t.faults.plan (answer_of (λ (w : Seen). tt) next_call h) none ∙ ap (λ (o : Option StoreRefused). answer_by o tt) next_free in
            subst (λ (g : List Seen). Leaves g x) (sym writes)
            (made (h ++ next_write ∷ []) _ (ap (after_next done) (sym answer) ∙ is) (
              others_on next_write (q.sequence.0 + 1) refl (subst (IsLawfulHistory s) writes after) k.0,
              next_last s h p q.sequence within lawful k.1 next_write (first_of a.table p (next_sequence q.sequence) (end_in done.node) now) refl refl tt,
            ))

      -- ---- the ideal state is read

      present : (w : Seen) × (i : IdealState) × (value_of h key.Ideal ≡ Some w) × (w.node ≡ node.Ideal i)
      present = has_ideal_state s h lawful

      read_steps : (w : Work) (found : List ℕ) → WorksAt q h w → after_read q w found (answer_on t (reading key.Ideal)) ≡ Some x → Leaves h x
      read_steps (work.Commit done) found k is = by_test (commit_changes es p q.sequence) changes (ap (after_read q (work.Commit done) found) (sym answer) ∙ is)
        where
          es : List IdealEntry
          es = entries_by present.0.node

          answer : answer_on t (reading key.Ideal) ≡ Ok present.0
          answer = unfaulted Failed t.faults.plan (reading key.Ideal h) none ∙ ap found_in present.2

          same : entries_of h ≡ es
          same = ap entries_in (value_of-last h key.Ideal present.0 present.2).0

          changes : commit_changes es p q.sequence ≡ true
          changes =
              subst (λ (fs : List IdealEntry). commit_changes fs p q.sequence ≡ true) same
              (and_from (has_entry (entries_of h) p q.sequence) (not (are_online (entries_of h) p q.sequence && has_entry (entries_of h) p (next_sequence q.sequence)))
              k.1.entered
              (ap not (and_right (are_online (entries_of h) p q.sequence) (has_entry (entries_of h) p (next_sequence q.sequence)) k.1.unentered)))

          by_test : (b : Bool) → b ≡ true
              → cond b (goes (stage.IdealSet (work.Commit done) found present.0) name.IdealRead outcome.Fine)
              (ends name.IdealRead outcome.Same (success (work.Commit done))) ≡ Some x → Leaves h x
          by_test true e f = made h _ f (k, ap (value_of h) (value_has h key.Ideal present.0 present.2).1 ∙ present.2)
          by_test false e f = absurd (true≢false (sym e))
      read_steps work.Offline found k is = absurd k

      -- ---- the ideal state is set

      module _ (done : Seen) (found : List ℕ) (read : Seen) (at : IsChanging h q (work.Commit done) read) (k : WorksAt q h (work.Commit done))
          (stands : value_of h read.key ≡ Some read) where
        abbrev set_call : Write
        set_call = set read (ideal_node a q (work.Commit done) read)

        abbrev set_write : Seen
        set_write = written_by h set_call

        set_free : refusal_of h set_call ≡ None
        set_free = of_effect h set_call (subst (HasVersion read.version) (sym stands) refl)

        entries_read : entries_of h ≡ entries_by read.node
        entries_read =
            ap (λ (i : Key). entries_in (last_write h i)) (sym at.is_ideal) ∙ ap entries_in (value_of-last h read.key read stands).0

        abbrev next : List Instance
        next = replicas_in a p

        step : entries_by set_write.node ≡ commit_step_of (entries_of h) p q.sequence next
        step = ap (λ (es : List IdealEntry). commit_step_of es p q.sequence next) (sym entries_read)

        set_goes : IsLawfulHistory s (h ++ set_write ∷ []) → AllOn (h ++ set_write ∷ [])
        set_goes after o inside =
            by_same o p (GoesOnWhole (h ++ set_write ∷ []) o)
            (λ same.
            subst (GoesOnWhole (h ++ set_write ∷ [])) (sym same)
            (commit_goes_on s h p q.sequence within lawful set_write next at.is_ideal step (omega (arith, replicas_counted a p, some)) after k.1))
            (λ other.
            other_goes_on s h set_write o inside after (λ n e. node_apart o n (sym e ∙ at.is_ideal))
            (λ e has of.
            subst (λ (es : List IdealEntry). Has es e) (sym (entries_written h set_write at.is_ideal ∙ step))
            (commit_spares (entries_of h) p q.sequence next e has (λ own. other (sym of ∙ own))))
            (k.0 o inside other))

        set_steps : IsLawfulHistory s (told_on t (after_call set_call)).writes
            → after_set (work.Commit done) found (answer_on t (answer_of (λ (w : Seen). w.version) set_call)) ≡ Some x → Leaves (told_on t (after_call set_call)).writes x
        set_steps after is =
            let writes : (told_on t (after_call set_call)).writes ≡ h ++ set_write ∷ [] =
            unfaulted_writes set_call ∙ ap (λ (o : Option StoreRefused). after_by o h set_write) set_free in
            let answer : answer_on t (answer_of (λ (w : Seen). w.version) set_call) ≡ Ok set_write.version =
            unfaulted Failed t.faults.plan (answer_of (λ (w : Seen). w.version) set_call h) none
            ∙ ap (λ (o : Option StoreRefused). answer_by o set_write.version) set_free in
            subst (λ (g : List Seen). Leaves g x) (sym writes)
            (made (h ++ set_write ∷ []) _ (ap (after_set (work.Commit done) found) (sym answer) ∙ is) (set_goes (subst (IsLawfulHistory s) writes after)))

      -- ---- a step

      pub stage_goes : (d : ToldDeep) (from : JobStage) → IsAt h q from → GoesAt q h from → IsLawfulHistory s (store_after t (call_at a q now from)).writes
          → step_at q now from (answer_to t d (call_at a q now from)) ≡ Some x → Leaves (store_after t (call_at a q now from)).writes x
      stage_goes d (stage.Check from end path) at k after is = get_goes h from end path _ k is
      stage_goes d (stage.Done from commit) at k after is = done_steps from commit at k after is
      stage_goes d (stage.Next done) at k after is = next_steps done at k after is
      stage_goes d (stage.IdealRead w found) at k after is =
          subst (λ (g : List Seen). Leaves g x) (sym (read_same t)) (read_steps w found k is)
      stage_goes d (stage.IdealSet (work.Commit done) found read) at k after is = set_steps done found read at k.0 k.1 after is
      stage_goes d (stage.IdealSet work.Offline found read) at k after is = absurd k.0
      stage_goes d stage.Ended at k after is = absurd at

-- a commit's job that begins, where all go on
pub first_goes : (s : Starting) (q : Asked) (h : List Seen) (from : JobStage) → IsFirst from → commits from ≡ true → AllOn s h → GoesAt s q h from
first_goes s q h (stage.Check from end path) first commit on = on
first_goes s q h (stage.IdealRead w found) first commit on = absurd (true≢false (sym commit ∙ ap is_commit first))
first_goes s q h (stage.Done from c) first commit on = absurd first
first_goes s q h (stage.Next done) first commit on = absurd first
first_goes s q h (stage.IdealSet w found ideal) first commit on = absurd first
first_goes s q h stage.Ended first commit on = absurd first
