-- A job that ends well leaves fewer writes: a commit takes one of its partition's, and a stop that changes anything a CONSUMING entry.
use Rattle.std.proofs.Common.{◌≡◌, inl, inr, ℕ, ◌+◌, ◌*◌, ◌<◌, ◌≤◌, Bool, true, false, cond, List, [], ◌∷◌, ◌++◌, length, Option, Some, None, Result, Ok, Err, refl, sym, ◌∙◌, ap, subst, arith, nat_lt, slice_get, ◌==◌}
use Rattle.std.proofs.lemmas.Bool.{cond-true, eq-eqb}
use Rattle.std.proofs.lemmas.Option.{none-some, same_Some}
use Rattle.rt_base.specs.Faults.{fault_of}
use Rattle.rt_base.specs.declared.header.Header.{Header}
use Rattle.rt_base.specs.declared.numbers.Moment.{Moment}
use Rattle.rt_base.specs.declared.numbers.Offset.{Offset}
use Rattle.rt_base.specs.declared.numbers.Partition.{Partition}
use Rattle.rt_base.proofs.Planned.{without_fault}
use Rattle.rt_commit.specs.Assignment.{replicas_in, Assigned}
use Rattle.rt_commit.specs.Changes.{commit_changes, offline_changes}
use Rattle.rt_commit.specs.IsJob.{IsAt}
use Rattle.rt_commit.specs.Job.{after_done, after_get, after_next, after_read, after_set, bad, call_at, checked, commit_of, commits, done_node, ends, goes, ideal_node, is_commit, is_wanted, next_key, next_node, step_at, success, Stepping}
use Rattle.rt_commit.specs.Lasting.{IsJobOver}
use Rattle.rt_commit.specs.Told.{answer_to, store_after, ToldDeep}
use Rattle.rt_commit.specs.declared.job.Job.{Job}
use Rattle.rt_commit.specs.declared.job.JobStage.{JobStage}
use Rattle.rt_commit.specs.declared.job.JobStage.TheVariants as stage
use Rattle.rt_commit.specs.declared.work.Work.{Work}
use Rattle.rt_commit.specs.declared.work.Work.TheVariants as work
use Rattle.rt_commit.proofs.Counting.{replicas_counted}
use Rattle.rt_controller.specs.Controller.{Controlling}
use Rattle.rt_controller.specs.Lasting.{IsControllerOver}
use Rattle.rt_controller.specs.Right.{job_at, job_of}
use Rattle.rt_controller.specs.Steps.{Works}
use Rattle.rt_controller.specs.Working.{job_place, settled, with_stage, work_call, work_call_at, work_call_on, Working}
use Rattle.rt_controller.proofs.JobOf.{job_goes}
use Rattle.rt_controller.proofs.Telling.{told_work}
use Rattle.rt_deep.specs.Memory.{means as deep_means}
use Rattle.rt_deep.specs.declared.refused.DeepRefused.{DeepRefused}
use Rattle.rt_deep.specs.declared.refused.DeepRefused.TheVariants as deep
use Rattle.rt_lists.specs.Members.{Has}
use Rattle.rt_lists.proofs.Lists.{All-found}
use Rattle.rt_model.specs.Entries.{entries_by, entries_in, entries_of}
use Rattle.rt_model.specs.History.{last_write, value_of, IsVersioned, Stands}
use Rattle.rt_model.specs.Ideal.{commit_step_of, set_offline_of}
use Rattle.rt_model.specs.Lawful.{create_after, set, written_by, Write}
use Rattle.rt_model.specs.declared.asked.Asked.{Asked}
use Rattle.rt_model.specs.declared.commit.Commit.{Commit}
use Rattle.rt_model.specs.declared.job_step.JobStep.{JobStep}
use Rattle.rt_model.specs.declared.job_step.StepName.TheVariants as name
use Rattle.rt_model.specs.declared.job_step.StepOutcome.TheVariants as outcome
use Rattle.rt_model.specs.declared.node.Key.{Key}
use Rattle.rt_model.specs.declared.node.Key.TheVariants as key
use Rattle.rt_model.specs.declared.node.Node.{Node}
use Rattle.rt_model.specs.declared.node.Seen.{Seen}
use Rattle.rt_model.specs.declared.reply.FailCause.{FailCause}
use Rattle.rt_model.specs.declared.reply.FailCause.TheVariants as cause
use Rattle.rt_model.specs.declared.reply.Reply.{Reply}
use Rattle.rt_model.specs.declared.reply.ReplyStatus.{ReplyStatus}
use Rattle.rt_model.specs.declared.reply.ReplyStatus.TheVariants as status
use Rattle.rt_model.specs.declared.setup.Setup.{Setup}
use Rattle.rt_model.proofs.Histories.{last_write-more, last_write-other, Stands-last}
use Rattle.rt_past.specs.Files.{header_in}
use Rattle.rt_past.specs.Past.{Past}
use Rattle.rt_safety.proofs.SuccessEnds.{step_of}
use Rattle.rt_store.specs.Answers.{after_by, after_call, answer_by, answer_of, change_in, reading, refusal_of}
use Rattle.rt_store.specs.Calls.{answer_on, told_on}
use Rattle.rt_store.specs.Meaning.{Told}
use Rattle.rt_store.specs.Memory.{means}
use Rattle.rt_store.specs.declared.refused.StoreRefused.{StoreRefused}
use Rattle.rt_store.specs.declared.refused.StoreRefused.TheVariants.{Exists, Failed, Memory, NoNode, VersionChanged}
use Rattle.rt_store.proofs.Seeing.{effect_of}
use Rattle.rt_store.proofs.Told.{answered_wrote, called, read_on, read_same}
use Rattle.rt_stream.specs.Log.{messages_of, Log}
use Rattle.rt_znodes.specs.Znodes.{meta_in}
use Rattle.rt_calm.specs.Ahead.{most_ahead_of}
use Rattle.rt_calm.specs.Commits.{commits_by, commits_of, count_at}
use Rattle.rt_calm.specs.Spent.{consuming_in, most_of, most_yet, writes_left, Spends}
use Rattle.rt_calm.proofs.Entries.{commit_consumes, commit_most, offline_consumes, offline_most}
use Rattle.rt_calm.proofs.Spent.{falls_left, falls_yet, still_left, still_yet}

-- ---- what a write changes

count_none : (p : Partition) (k : Key) → count_at p k 0 ≡ 0
count_none p (key.Meta q s) = by_test (q.0 == p.0)
  where
    none_by : Bool → ℕ
    none_by b = cond b 0 0

    by_test : (b : Bool) → none_by b ≡ 0
    by_test true = refl
    by_test false = refl
count_none p key.Ideal = refl
count_none p (key.Boot i) = refl

-- a write of a segment's node leaves the entries
pub meta_entries : (h : List Seen) (w : Seen) (k : Key) → w.key ≡ k → (k ≡ key.Ideal → ⊥) → entries_of (h ++ w ∷ []) ≡ entries_of h
meta_entries h w k of other = ap entries_in (last_write-other h w key.Ideal (λ e. other (sym of ∙ e)))

-- a set that found another version wrote nothing
changed_left : {X : Type 0} (t : Told) (call : Write) (tell : Seen → X) (expected found : ℕ)
    → answer_on t (answer_of tell call) ≡ Err (VersionChanged expected found) → (told_on t (after_call call)).writes ≡ t.writes
changed_left t call tell expected found e =
    let ok = without_fault Failed (fault_of t.faults.plan) (answer_of tell call t.writes) (Err (VersionChanged expected found)) t.writes
    (after_call call t.writes) (told_on t (after_call call)).writes (λ f. cc) (sym e) refl in
    ok.1 ∙ by_refusal (refusal_of t.writes call) ok.0
  where
    by_refusal : (o : Option StoreRefused) → Err (VersionChanged expected found) ≡ answer_by o (tell (written_by t.writes call))
        → after_by o t.writes (written_by t.writes call) ≡ t.writes
    by_refusal None f = absurd (cc)
    by_refusal (Some refused) f = refl

module _ (setup : Setup) (log : Log) (u : List Seen) where
  -- a commit of the partition is taken of what was left, and all that its step of the ideal state adds
  abbrev HasPaid : Partition → List Seen → Type 0
  HasPaid p h =
      (writes_left setup log h + (setup.table.replication + 1) ≤ writes_left setup log u)
      × (most_yet setup log h + setup.table.replication * most_of log p ≤ most_yet setup log u)

  abbrev WorkPays : Asked → List Seen → Work → Type 0
  WorkPays q h (work.Commit done) = HasPaid q.partition h
  WorkPays q h work.Offline = h ≡ u

  -- a stop's set changes what stands
  abbrev WillChange : Asked → List Seen → Seen → Work → Type 0
  WillChange q h ideal (work.Commit done) = Unit {0}
  WillChange q h ideal work.Offline =
      (offline_changes (entries_by ideal.node) q.partition q.sequence q.number.instance ≡ true) × (value_of h ideal.key ≡ Some ideal)

  -- what a job has written by its stage
  abbrev pub Pays : Asked → List Seen → JobStage → Type 0
  Pays q h (stage.Check from end path) = h ≡ u
  Pays q h (stage.Done from commit) = h ≡ u
  Pays q h (stage.Next done) = HasPaid q.partition h
  Pays q h (stage.IdealRead w found) = WorkPays q h w
  Pays q h (stage.IdealSet w found ideal) = WorkPays q h w × WillChange q h ideal w
  Pays q h stage.Ended = Unit {0}

  -- a job has tried in vain to set the ideal state only behind a commit, and a node has changed only before one
  abbrev FailsPaid : Bool → List Seen → FailCause → Type 0
  FailsPaid commit h (cause.IdealChanged versions) = h ≡ u → ⊥
  FailsPaid commit h (cause.VersionChanged expected found) = commit ≡ true
  FailsPaid commit h (cause.WrongState state) = Unit {0}
  FailsPaid commit h (cause.WrongOffset x o) = Unit {0}
  FailsPaid commit h (cause.NotCommitter i) = Unit {0}
  FailsPaid commit h cause.NoSegment = Unit {0}
  FailsPaid commit h cause.StoreFault = Unit {0}
  FailsPaid commit h (cause.BadUpload wanted found) = Unit {0}
  FailsPaid commit h cause.NotReplica = Unit {0}

  abbrev pub StatusPaid : Bool → List Seen → ReplyStatus → Type 0
  StatusPaid commit h (status.Failed because) = FailsPaid commit h because
  StatusPaid commit h status.Hold = Unit {0}
  StatusPaid commit h status.NotLeader = Unit {0}
  StatusPaid commit h (status.CatchUp x) = Unit {0}
  StatusPaid commit h (status.Commit x) = Unit {0}
  StatusPaid commit h (status.Keep seen) = Unit {0}
  StatusPaid commit h status.Discard = Unit {0}
  StatusPaid commit h status.CommitContinue = Unit {0}
  StatusPaid commit h (status.UploadSuccess path) = Unit {0}
  StatusPaid commit h (status.CommitSuccess seen) = Unit {0}
  StatusPaid commit h status.Processed = Unit {0}

  -- it has written nothing, or leaves fewer writes
  abbrev pub EndsPaid : Bool → List Seen → ReplyStatus → Type 0
  EndsPaid commit h s = Spends setup log u h × StatusPaid commit h s

  abbrev StepPays : Asked → Bool → List Seen → JobStage → Option ReplyStatus → Type 0
  StepPays q commit h to None = Pays q h to
  StepPays q commit h to (Some s) = EndsPaid commit h s

  paid_spends : (p : Partition) (h : List Seen) → HasPaid p h → Spends setup log u h
  paid_spends p h paid = inr (omega (arith, paid.0), omega (arith, paid.1))

  paid_written : (p : Partition) (h : List Seen) → HasPaid p h → h ≡ u → ⊥
  paid_written p h paid same = omega (arith, paid.0, ap (writes_left setup log) same)

  work_spends : (q : Asked) (h : List Seen) (w : Work) → WorkPays q h w → Spends setup log u h
  work_spends q h (work.Commit done) paid = paid_spends q.partition h paid
  work_spends q h work.Offline same = inl same

  module _ (q : Asked) (x : Stepping) where
    abbrev Paying : Bool → List Seen → Stepping → Type 0
    Paying commit h y = StepPays q commit h y.stage y.did.status

    made : (commit : Bool) (h : List Seen) (y : Stepping) → Some y ≡ Some x → Paying commit h y → Paying commit h x
    made commit h y e k = subst (Paying commit h) (same_Some y x e) k

    -- ---- check

    get_pays : (h : List Seen) (from : Seen) (end : Offset) (path : List ℕ) (answer : Result (List ℕ) DeepRefused) → h ≡ u
        → after_get q from end path answer ≡ Some x → Paying true h x
    get_pays h from end path (Ok bytes) same is = by_header (header_in bytes) is
      where
        by_header : (o : Option Header) → checked q from end path o ≡ Some x → Paying true h x
        by_header None e = made true h _ e (inl same, tt)
        by_header (Some found) e = by_test (is_wanted q (meta_in from.node).start end found) e
          where
            by_test : (b : Bool) → cond b (goes (stage.Done from (commit_of end path found)) name.Check outcome.Fine) (bad q from end (Some found)) ≡ Some x
                → Paying true h x
            by_test true f = made true h _ f same
            by_test false f = made true h _ f (inl same, tt)
    get_pays h from end path (Err deep.Absent) same is = made true h _ is (inl same, tt)
    get_pays h from end path (Err (deep.OtherBytes kept offered)) same is = made true h _ is (inl same, tt)
    get_pays h from end path (Err deep.Failed) same is = made true h _ is (inl same, tt)
    get_pays h from end path (Err deep.Memory) same is = absurd (none-some x is)

    module _ (t : Told) (a : Assigned) (own : a.replication ≡ setup.table.replication) (within : q.partition.0 < setup.partitions)
        (versions : IsVersioned t.writes) (now : Moment) where
      -- ---- done

      module _ (from : Seen) (commit : Commit) (of : from.key ≡ key.Meta q.partition q.sequence) (same : t.writes ≡ u)
          (few : commits_of (told_on t (after_call (set from (done_node from commit now)))).writes q.partition ≤ length (messages_of log q.partition)) where
        abbrev done_call : Write
        done_call = set from (done_node from commit now)

        done_paid : commits_of (t.writes ++ written_by t.writes done_call ∷ []) q.partition ≤ length (messages_of log q.partition)
            → HasPaid q.partition (t.writes ++ written_by t.writes done_call ∷ [])
        done_paid within_log = (
          omega (
            arith,
            falls_left t.writes one setup log q.partition q.sequence of refl within within_log kept,
            ap (writes_left setup log) same,
          ),
          omega (
            arith,
            falls_yet t.writes one setup log q.partition q.sequence of refl within within_log kept,
            ap (most_yet setup log) same,
          ),
        )
          where
            one : Seen
            one = written_by t.writes done_call

            kept : entries_of (t.writes ++ one ∷ []) ≡ entries_of t.writes
            kept = meta_entries t.writes one (key.Meta q.partition q.sequence) of (λ e. cc)

        -- whatever it is answered
        done_spends : Spends setup log u (told_on t (after_call done_call)).writes
        done_spends =
            called t done_call (λ (h : List Seen). commits_of h q.partition ≤ length (messages_of log q.partition) → Spends setup log u h) (λ less. inl same)
            (λ none less. paid_spends q.partition (t.writes ++ written_by t.writes done_call ∷ []) (done_paid less)) few

        done_pays : (r : Result ℕ StoreRefused) → answer_on t (answer_of (λ (w : Seen). w.version) done_call) ≡ r → after_done from commit now r ≡ Some x
            → Paying true (told_on t (after_call done_call)).writes x
        done_pays (Ok version) given is =
            let wrote = answered_wrote t done_call (λ (w : Seen). w.version) version given in
            made true _ _ is
            (subst (HasPaid q.partition) (sym wrote.writes)
            (done_paid (subst (λ (h : List Seen). commits_of h q.partition ≤ length (messages_of log q.partition)) wrote.writes few)))
        done_pays (Err NoNode) given is = made true _ _ is (done_spends, tt)
        done_pays (Err (Exists found)) given is = made true _ _ is (done_spends, tt)
        done_pays (Err (VersionChanged expected found)) given is = made true _ _ is (done_spends, refl)
        done_pays (Err Failed) given is = made true _ _ is (done_spends, tt)
        done_pays (Err Memory) given is = absurd (none-some x is)

      -- ---- next

      module _ (done : Seen) (paid : HasPaid q.partition t.writes) where
        abbrev next_call : Write
        next_call = create_after (next_key q) (next_node a q now done) done

        next_paid : HasPaid q.partition (told_on t (after_call next_call)).writes
        next_paid = called t next_call (HasPaid q.partition) paid (λ none. paid_then)
          where
            one : Seen
            one = written_by t.writes next_call

            no_commit : (p : Partition) → commits_by p one ≡ 0
            no_commit p = count_none p (next_key q)

            kept : entries_of (t.writes ++ one ∷ []) ≡ entries_of t.writes
            kept = meta_entries t.writes one (next_key q) refl (λ e. cc)

            paid_then : HasPaid q.partition (t.writes ++ one ∷ [])
            paid_then = (
              omega (arith, paid.0, still_left t.writes one setup log no_commit, ap consuming_in kept),
              omega (arith, paid.1, still_yet t.writes one setup log no_commit, ap (most_ahead_of log) kept),
            )

        next_pays : (r : Result (Unit {0}) StoreRefused) → after_next done r ≡ Some x → Paying true (told_on t (after_call next_call)).writes x
        next_pays (Ok made_it) is = made true _ _ is next_paid
        next_pays (Err NoNode) is = made true _ _ is (paid_spends q.partition (told_on t (after_call next_call)).writes next_paid, tt)
        next_pays (Err (Exists found)) is = made true _ _ is next_paid
        next_pays (Err (VersionChanged expected found)) is = made true _ _ is (paid_spends q.partition (told_on t (after_call next_call)).writes next_paid, refl)
        next_pays (Err Failed) is = made true _ _ is (paid_spends q.partition (told_on t (after_call next_call)).writes next_paid, tt)
        next_pays (Err Memory) is = absurd (none-some x is)

      -- ---- the ideal state is read

      read_pays : (w : Work) (found : List ℕ) (r : Result Seen StoreRefused) → WorkPays q t.writes w → answer_on t (reading key.Ideal) ≡ r
          → after_read q w found r ≡ Some x → Paying (is_commit w) t.writes x
      read_pays (work.Commit done) found (Ok ideal) paid given is = by_test (commit_changes (entries_by ideal.node) q.partition q.sequence) is
        where
          by_test : (b : Bool)
              → cond b (goes (stage.IdealSet (work.Commit done) found ideal) name.IdealRead outcome.Fine)
              (ends name.IdealRead outcome.Same (success (work.Commit done))) ≡ Some x → Paying true t.writes x
          by_test true e = made true t.writes _ e (paid, tt)
          by_test false e = made true t.writes _ e (paid_spends q.partition t.writes paid, tt)
      read_pays work.Offline found (Ok ideal) same given is =
          by_test (offline_changes (entries_by ideal.node) q.partition q.sequence q.number.instance) refl is
        where
          stands : value_of t.writes ideal.key ≡ Some ideal
          stands = let on = read_on t key.Ideal ideal given in ap (value_of t.writes) on.1 ∙ on.2

          by_test : (b : Bool) → offline_changes (entries_by ideal.node) q.partition q.sequence q.number.instance ≡ b
              → cond b (goes (stage.IdealSet work.Offline found ideal) name.IdealRead outcome.Fine) (ends name.IdealRead outcome.Same status.Processed) ≡ Some x
              → Paying false t.writes x
          by_test true changed e = made false t.writes _ e (same, (changed, stands))
          by_test false changed e = made false t.writes _ e (inl same, tt)
      read_pays w found (Err NoNode) paid given is = made (is_commit w) t.writes _ is (work_spends q t.writes w paid, tt)
      read_pays w found (Err (Exists version)) paid given is = made (is_commit w) t.writes _ is (work_spends q t.writes w paid, tt)
      read_pays w found (Err (VersionChanged expected version)) paid given is = made (is_commit w) t.writes _ is (work_spends q t.writes w paid, tt)
      read_pays w found (Err Failed) paid given is = made (is_commit w) t.writes _ is (work_spends q t.writes w paid, tt)
      read_pays w found (Err Memory) paid given is = absurd (none-some x is)

      -- ---- the ideal state is set

      module _ (w : Work) (found : List ℕ) (ideal : Seen) (has : Has t.writes ideal) (is_ideal : ideal.key ≡ key.Ideal) where
        abbrev set_call : Write
        set_call = set ideal (ideal_node a q w ideal)

        abbrev new_write : Seen
        new_write = written_by t.writes set_call

        no_commit : (p : Partition) → commits_by p new_write ≡ 0
        no_commit p = ap (λ (k : Key). count_at p k 0) is_ideal

        -- it stood as it was read, and the write is what stands now
        before : Stands t.writes ideal → entries_of t.writes ≡ entries_by ideal.node
        before effect =
            ap (λ (k : Key). entries_in (last_write t.writes k)) (sym is_ideal)
            ∙ ap entries_in (Stands-last t.writes ideal versions has effect).0

        behind : entries_of (t.writes ++ new_write ∷ []) ≡ entries_by (ideal_node a q w ideal)
        behind = ap entries_in (last_write-more t.writes new_write key.Ideal is_ideal)

      set_spends : (w : Work) (found : List ℕ) (ideal : Seen) → Has t.writes ideal → ideal.key ≡ key.Ideal → WorkPays q t.writes w → WillChange q t.writes ideal w
          → Stands t.writes ideal → Spends setup log u (t.writes ++ written_by t.writes (set ideal (ideal_node a q w ideal)) ∷ [])
      set_spends (work.Commit done) found ideal has is_ideal paid change effect = inr (fewer, most)
        where
          w : Work
          w = work.Commit done

          one : Seen
          one = new_write w found ideal has is_ideal

          next : ℕ
          next = length (replicas_in a q.partition)

          replicas : next ≡ setup.table.replication
          replicas = replicas_counted a q.partition ∙ own

          was : entries_of t.writes ≡ entries_by ideal.node
          was = before w found ideal has is_ideal effect

          is : entries_of (t.writes ++ one ∷ []) ≡ commit_step_of (entries_by ideal.node) q.partition q.sequence (replicas_in a q.partition)
          is = behind w found ideal has is_ideal

          fewer : writes_left setup log (t.writes ++ one ∷ []) < writes_left setup log u
          fewer =
              omega (
                arith,
                paid.0,
                still_left t.writes one setup log (no_commit w found ideal has is_ideal),
                ap consuming_in was,
                ap consuming_in is,
                commit_consumes (entries_by ideal.node) q.partition q.sequence (replicas_in a q.partition),
                replicas,
              )

          most : most_yet setup log (t.writes ++ one ∷ []) ≤ most_yet setup log u
          most =
              omega (
                arith,
                paid.1,
                still_yet t.writes one setup log (no_commit w found ideal has is_ideal),
                ap (most_ahead_of log) was,
                ap (most_ahead_of log) is,
                commit_most log (entries_by ideal.node) q.partition q.sequence (replicas_in a q.partition),
                ap (λ (k : ℕ). k * most_of log q.partition) replicas,
              )
      set_spends work.Offline found ideal has is_ideal same change effect = inr (fewer, most)
        where
          one : Seen
          one = new_write work.Offline found ideal has is_ideal

          was : entries_of t.writes ≡ entries_by ideal.node
          was = before work.Offline found ideal has is_ideal effect

          is : entries_of (t.writes ++ one ∷ []) ≡ set_offline_of (entries_by ideal.node) q.partition q.sequence q.number.instance
          is = behind work.Offline found ideal has is_ideal

          fewer : writes_left setup log (t.writes ++ one ∷ []) < writes_left setup log u
          fewer =
              omega (
                arith,
                ap (writes_left setup log) same,
                still_left t.writes one setup log (no_commit work.Offline found ideal has is_ideal),
                ap consuming_in was,
                ap consuming_in is,
                offline_consumes q.partition q.sequence q.number.instance (entries_by ideal.node) change.0,
              )

          most : most_yet setup log (t.writes ++ one ∷ []) ≤ most_yet setup log u
          most =
              omega (
                arith,
                ap (most_yet setup log) same,
                still_yet t.writes one setup log (no_commit work.Offline found ideal has is_ideal),
                ap (most_ahead_of log) was,
                ap (most_ahead_of log) is,
                offline_most log (entries_by ideal.node) q.partition q.sequence q.number.instance,
              )

      module _ (w : Work) (found : List ℕ) (ideal : Seen) (has : Has t.writes ideal) (is_ideal : ideal.key ≡ key.Ideal) (paid : WorkPays q t.writes w)
          (change : WillChange q t.writes ideal w) where
        abbrev call : Write
        call = set ideal (ideal_node a q w ideal)

        -- whatever it is answered
        set_leaves : Spends setup log u (told_on t (after_call call)).writes
        set_leaves =
            called t call (Spends setup log u) (work_spends q t.writes w paid)
            (λ none. set_spends w found ideal has is_ideal paid change (effect_of t.writes call none))

      -- a set from what stands isn't refused
      not_changed : (ideal : Seen) (n : Node) (expected version : ℕ) → value_of t.writes ideal.key ≡ Some ideal
          → answer_on t (answer_of (λ (v : Seen). v.version) (set ideal n)) ≡ Err (VersionChanged expected version) → ⊥
      not_changed ideal n expected version stands given =
          let call = set ideal n in
          let ok = without_fault Failed (fault_of t.faults.plan) (answer_of (λ (v : Seen). v.version) call t.writes) (Err (VersionChanged expected version)) t.writes
          (after_call call t.writes) (told_on t (after_call call)).writes (λ f. cc) (sym given) refl in
          let taken : refusal_of t.writes call ≡ None =
          ap (change_in ideal.version) stands
          ∙ cond-true (ideal.version == ideal.version) None (Some (VersionChanged ideal.version ideal.version)) (eq-eqb ideal.version ideal.version refl) in
          never (refusal_of t.writes call) taken ok.0
        where
          never : (o : Option StoreRefused) → o ≡ None → Err (VersionChanged expected version) ≡ answer_by o (written_by t.writes (set ideal n)).version → ⊥
          never None e f = cc
          never (Some refused) e f = cc

      tried_pays : (w : Work) (found : List ℕ) (ideal : Seen) (expected version : ℕ) → WorkPays q t.writes w → WillChange q t.writes ideal w
          → answer_on t (answer_of (λ (v : Seen). v.version) (set ideal (ideal_node a q w ideal))) ≡ Err (VersionChanged expected version)
          → after_set w found (Err (VersionChanged expected version)) ≡ Some x → Paying (is_commit w) (told_on t (after_call (set ideal (ideal_node a q w ideal)))).writes x
      tried_pays work.Offline found ideal expected version paid change given is =
          absurd (not_changed ideal (ideal_node a q work.Offline ideal) expected version change.1 given)
      tried_pays (work.Commit done) found ideal expected version paid change given is = by_test (nat_lt (length found) 9) is
        where
          w : Work
          w = work.Commit done

          same : (told_on t (after_call (set ideal (ideal_node a q w ideal)))).writes ≡ t.writes
          same = changed_left t (set ideal (ideal_node a q w ideal)) (λ (v : Seen). v.version) expected version given

          still : HasPaid q.partition (told_on t (after_call (set ideal (ideal_node a q w ideal)))).writes
          still = subst (HasPaid q.partition) (sym same) paid

          by_test : (b : Bool)
              → cond b (goes (stage.IdealRead w (found ++ version ∷ [])) name.IdealSet (outcome.Changed expected version))
              (ends name.IdealSet (outcome.Changed expected version) (status.Failed (cause.IdealChanged (found ++ version ∷ [])))) ≡ Some x
              → Paying true (told_on t (after_call (set ideal (ideal_node a q w ideal)))).writes x
          by_test true e = made true _ _ e still
          by_test false e = made true _ _ e (paid_spends q.partition _ still, paid_written q.partition _ still)

      set_pays : (w : Work) (found : List ℕ) (ideal : Seen) (r : Result ℕ StoreRefused) → Has t.writes ideal → ideal.key ≡ key.Ideal → WorkPays q t.writes w
          → WillChange q t.writes ideal w → answer_on t (answer_of (λ (v : Seen). v.version) (set ideal (ideal_node a q w ideal))) ≡ r → after_set w found r ≡ Some x
          → Paying (is_commit w) (told_on t (after_call (set ideal (ideal_node a q w ideal)))).writes x
      set_pays (work.Commit done) found ideal (Ok version) has is_ideal paid change given is =
          made true _ _ is (set_leaves (work.Commit done) found ideal has is_ideal paid change, tt)
      set_pays work.Offline found ideal (Ok version) has is_ideal paid change given is =
          made false _ _ is (set_leaves work.Offline found ideal has is_ideal paid change, tt)
      set_pays w found ideal (Err (VersionChanged expected version)) has is_ideal paid change given is = tried_pays w found ideal expected version paid change given is
      set_pays w found ideal (Err NoNode) has is_ideal paid change given is = made (is_commit w) _ _ is (set_leaves w found ideal has is_ideal paid change, tt)
      set_pays w found ideal (Err (Exists version)) has is_ideal paid change given is = made (is_commit w) _ _ is (set_leaves w found ideal has is_ideal paid change, tt)
      set_pays w found ideal (Err Failed) has is_ideal paid change given is = made (is_commit w) _ _ is (set_leaves w found ideal has is_ideal paid change, tt)
      set_pays w found ideal (Err Memory) has is_ideal paid change given is = absurd (none-some x is)

      -- ---- a step

      stage_pays : (d : ToldDeep) (from : JobStage) → IsAt t.writes q from → Pays q t.writes from
          → commits_of (store_after t (call_at a q now from)).writes q.partition ≤ length (messages_of log q.partition)
          → step_at q now from (answer_to t d (call_at a q now from)) ≡ Some x → Paying (commits from) (store_after t (call_at a q now from)).writes x
      stage_pays d (stage.Check from end path) at paid few is = get_pays t.writes from end path _ paid is
      stage_pays d (stage.Done from commit) at paid few is = done_pays from commit at.read.of paid few _ refl is
      stage_pays d (stage.Next done) at paid few is = next_pays done paid _ is
      stage_pays d (stage.IdealRead w found) at paid few is =
          subst (λ (h : List Seen). Paying (is_commit w) h x) (sym (read_same t)) (read_pays w found _ paid refl is)
      stage_pays d (stage.IdealSet w found ideal) at paid few is = set_pays w found ideal _ at.has at.is_ideal paid.0 paid.1 refl is
      stage_pays d stage.Ended at paid few is = absurd at

-- ---- a controller's job

-- behind a step its job goes on so, or its answer puts off or leaves fewer writes
abbrev pub AfterPays : Setup → Log → List Seen → Asked → Bool → List Seen → Option Job → Option Reply → Type 0
AfterPays setup log u q commit h o None = (k : Job) × (o ≡ Some k) × (k.asked ≡ q) × Pays setup log u q h k.stage
AfterPays setup log u q commit h o (Some r) = EndsPaid setup log u commit h r.status

pub job_pays : (setup : Setup) (past : Past) (log : Log) (u : List Seen) (t v : Told) (d e : ToldDeep) (c new : Controlling) (j : ℕ) (job : Job) (now : Moment) (did : JobStep)
    → past.history ≡ t.writes → IsControllerOver setup past c → IsVersioned t.writes
    → Works (means t) (means v) (deep_means d) (deep_means e) c j now new (Ok did) → job_of c j ≡ Some job
    → ((p : Partition) → p.0 < setup.partitions → commits_of v.writes p ≤ length (messages_of log p)) → Pays setup log u job.asked t.writes job.stage
    → AfterPays setup log u job.asked (commits job.stage) v.writes (job_of new j) did.reply
job_pays setup past log u t v d e c new j job now did same over versions works opened few paid =
    let w : Working = record { controller = new; step = did } in
    let left = told_work t v d e c j now w works in
    let k = step_of c j now (answer_to t d (work_call c j now)) w left.made in
    let lasts = All-found (IsJobOver setup past) c.jobs k.place k.job over.jobs k.there in
    let is : k.job ≡ job = same_Some k.job job (sym (ap (job_at c.jobs) k.found ∙ k.there) ∙ opened) in
    let call : work_call c j now ≡ call_at c.assigned k.job.asked now k.job.stage =
    ap (work_call_on c now) k.found ∙ ap (work_call_at c now) k.there in
    let at = subst (λ (h : List Seen). IsAt h k.job.asked k.job.stage) same lasts.job.at in
    let written : v.writes ≡ (store_after t (call_at c.assigned k.job.asked now k.job.stage)).writes =
    ap (λ (z : Told). z.writes) left.store ∙ ap (λ z. (store_after t z).writes) call in
    let own = ap (λ (a : Assigned). a.replication) over.assigned in
    let paid_there = subst (λ (z : Job). Pays setup log u z.asked t.writes z.stage) (sym is) paid in
    let few_then = subst (λ (h : List Seen). commits_of h k.job.asked.partition ≤ length (messages_of log k.job.asked.partition)) written
    (few k.job.asked.partition lasts.job.within) in
    let pays =
    stage_pays setup log u k.job.asked k.x t c.assigned own lasts.job.within versions now d k.job.stage at paid_there few_then
    (ap (λ z. step_at k.job.asked now k.job.stage (answer_to t d z)) (sym call) ∙ k.made) in
    subst (λ (z : Job). AfterPays setup log u z.asked (commits z.stage) v.writes (job_of new j) did.reply) is
    (subst (λ (z : Working). AfterPays setup log u k.job.asked (commits k.job.stage) v.writes (job_of z.controller j) z.step.reply) (sym k.same)
    (by_status k.place k.job k.x k.found k.there k.x.did.status
    (subst (λ (h : List Seen). StepPays setup log u k.job.asked (commits k.job.stage) h k.x.stage k.x.did.status) (sym written) pays)))
  where
    by_status : (place : ℕ) (g : Job) (x : Stepping) → job_place c.jobs j ≡ Some place → slice_get c.jobs place ≡ Some g → (o : Option ReplyStatus) → StepPays setup log u g.asked (commits g.stage) v.writes x.stage o
        → AfterPays setup log u g.asked (commits g.stage) v.writes (job_of (settled (with_stage c place g x.stage) place g.asked (commits g.stage) x.did o).controller j)
        (settled (with_stage c place g x.stage) place g.asked (commits g.stage) x.did o).step.reply
    by_status place g x found there None pays = (_, job_goes c.jobs j place g found there x.stage, refl, pays)
    by_status place g x found there (Some s) pays = pays

-- a job that begins has written nothing
abbrev pub IsFirst : JobStage → Type 0
IsFirst (stage.Check from end path) = Unit {0}
IsFirst (stage.IdealRead w found) = w ≡ work.Offline
IsFirst (stage.Done from commit) = ⊥
IsFirst (stage.Next done) = ⊥
IsFirst (stage.IdealSet w found ideal) = ⊥
IsFirst stage.Ended = ⊥

pub first_pays : (setup : Setup) (log : Log) (u h : List Seen) (q : Asked) (s : JobStage) → IsFirst s → h ≡ u → Pays setup log u q h s
first_pays setup log u h q (stage.Check from end path) first same = same
first_pays setup log u h q (stage.IdealRead w found) first same = subst (WorkPays setup log u q h) (sym first) same
first_pays setup log u h q (stage.Done from commit) first same = absurd first
first_pays setup log u h q (stage.Next done) first same = absurd first
first_pays setup log u h q (stage.IdealSet w found ideal) first same = absurd first
first_pays setup log u h q stage.Ended first same = absurd first
