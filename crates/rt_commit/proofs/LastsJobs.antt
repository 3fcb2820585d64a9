-- What lasts of a job is kept by each of its steps, and how a step ends it.
use Rattle.std.proofs.Common.{◌≡◌, inl, inr, ℕ, ◌<◌, ◌≤◌, Bool, true, false, cond, List, [], ◌∷◌, ◌++◌, length, Option, Some, None, Result, Ok, Err, nat_lt, refl, sym, ◌∙◌, ap, subst, arith}
use Rattle.std.specs.Prelude.{All}
use Rattle.std.proofs.lemmas.Bool.{ltb-false}
use Rattle.std.proofs.lemmas.List.{length-append}
use Rattle.std.proofs.lemmas.Option.{none-some}
use Rattle.rt_base.specs.declared.numbers.Moment.{Moment}
use Rattle.rt_base.specs.declared.numbers.Offset.{Offset}
use Rattle.rt_base.specs.declared.numbers.Partition.{Partition}
use Rattle.rt_base.specs.declared.numbers.Sequence.{Sequence}
use Rattle.rt_lists.specs.Members.{Has}
use Rattle.rt_lists.proofs.Members.{Has-same}
use Rattle.rt_model.specs.declared.asked.Asked.{Asked}
use Rattle.rt_model.specs.declared.commit.Commit.{Commit}
use Rattle.rt_model.specs.declared.job_step.StepName.{StepName}
use Rattle.rt_model.specs.declared.job_step.StepName.TheVariants as name
use Rattle.rt_model.specs.declared.job_step.StepOutcome.{StepOutcome}
use Rattle.rt_model.specs.declared.job_step.StepOutcome.TheVariants as outcome
use Rattle.rt_model.specs.declared.node.Key.{Key}
use Rattle.rt_model.specs.declared.node.Key.TheVariants as key
use Rattle.rt_model.specs.declared.node.Node.{Node}
use Rattle.rt_model.specs.declared.node.Node.TheVariants as node
use Rattle.rt_model.specs.declared.node.Seen.{Seen}
use Rattle.rt_model.specs.declared.reply.FailCause.TheVariants as cause
use Rattle.rt_model.specs.declared.reply.ReplyStatus.{ReplyStatus}
use Rattle.rt_model.specs.declared.reply.ReplyStatus.TheVariants as status
use Rattle.rt_model.specs.declared.setup.Setup.{Setup}
use Rattle.rt_model.specs.Entries.{entries_by}
use Rattle.rt_model.specs.History.{IsVersioned, value_of}
use Rattle.rt_model.specs.Lawful.{set, create_after, IsLawfulHistory}
use Rattle.rt_model.specs.Metadata.{IsDone, IsDoneStatus}
use Rattle.rt_model.proofs.Lawful.{versions_count_writes}
use Rattle.rt_deep.specs.declared.deep_put.DeepPut.{DeepPut}
use Rattle.rt_deep.specs.declared.refused.DeepRefused.{DeepRefused}
use Rattle.rt_deep.specs.declared.refused.DeepRefused.TheVariants as deep
use Rattle.rt_deep.specs.Calls as of_deep
use Rattle.rt_deep.specs.Files.{file_of}
use Rattle.rt_deep.proofs.Seeing.{get_seen, absent_seen}
use Rattle.rt_deep.proofs.Told.{get_rose}
use Rattle.rt_store.specs.declared.refused.StoreRefused.{StoreRefused}
use Rattle.rt_store.specs.declared.refused.StoreRefused.TheVariants.{NoNode, Exists, VersionChanged, Failed, Memory}
use Rattle.rt_store.specs.Calls.{Reads, SetsFrom, CreatesAfter}
use Rattle.rt_store.specs.Contents.{starting_of}
use Rattle.rt_store.specs.Meaning.{Meaning}
use Rattle.rt_store.proofs.GoingOn.{read_is}
use Rattle.rt_store.proofs.Listing.{value_has}
use Rattle.rt_store.proofs.Refusals.{read_no_node, read_exists, read_changed, set_exists, set_no_node}
use Rattle.rt_store.proofs.Told.{read_rose, write_rose}
use Rattle.rt_segment.specs.Spelling.{header_of}
use Rattle.rt_past.specs.Files.{Stands}
use Rattle.rt_past.specs.IsPast.{IsPast}
use Rattle.rt_past.specs.Past.{Past}
use Rattle.rt_past.specs.Segments.{WasDone}
use Rattle.rt_znodes.specs.Znodes.{meta_in, seen_meta_of}
use Rattle.rt_commit.specs.declared.job.JobStage.TheVariants as stage
use Rattle.rt_commit.specs.declared.job.JobStage.{JobStage}
use Rattle.rt_commit.specs.declared.work.Work.TheVariants as work
use Rattle.rt_commit.specs.declared.work.Work.{Work}
use Rattle.rt_commit.specs.Assignment.{Assigned}
use Rattle.rt_commit.specs.Calls.{Makes, DeepMeaning}
use Rattle.rt_commit.specs.Causes.{Rose}
use Rattle.rt_commit.specs.IsJob.{IsRead, IsSetDone, IsWork, IsAt}
use Rattle.rt_commit.specs.Job.{Stepping, goes, ends, fails, commit_of, bad, checked, after_get, done_node, done_write, after_done, next_key, next_node, after_next, changes, success, after_read, ideal_node, after_set, call_at, step_at, is_commit, commits}
use Rattle.rt_commit.specs.Lasting.{AreTries, IsBacked, WasIdeal, WasNamed}
use Rattle.rt_commit.specs.Laws.{IsTrying}
use Rattle.rt_commit.specs.Right.{HasChanged, StatusSo}
use Rattle.rt_commit.proofs.Changed.{set_changed, set_gone, set_later, next_unchanged, more_tries, found_before, no_tries}
use Rattle.rt_commit.proofs.FailsJobs.{get_other}
use Rattle.rt_commit.proofs.KeepsJobs.{same_step}
use Rattle.rt_commit.proofs.NamedFile.{IsChecked, named_file, put_at, same_bytes}
use Rattle.rt_commit.proofs.WantedHeader.{wanted_header}

-- ---- the Done metadata of a segment

done_at : (h : List Seen) (k : Key) (version : ℕ) (n : Node) (p : Partition) (s : Sequence) → Has h (record { key = k; version = version; node = n })
    → k ≡ key.Meta p s → IsDone n
    → Has h (record { key = key.Meta p s; version = version; node = node.Meta (meta_in n) }) × IsDoneStatus (meta_in n).status
done_at h k version (node.Meta m) p s has e d =
    let P : Key → Type 0 = λ x. Has h (record { key = x; version = version; node = node.Meta m }) in
    (subst P e has, d)
done_at h k version (node.Ideal i) p s has e d = absurd d
done_at h k version node.Boot p s has e d = absurd d
done_at h k version node.Gone p s has e d = absurd d

pub was_done : (h : List Seen) (p : Partition) (s : Sequence) (done : Seen) → IsSetDone h p s done → WasDone h p s (seen_meta_of done)
was_done h p s done k = done_at h done.key done.version done.node p s k.has k.of k.done

-- ---- a step

module _ (setup : Setup) (past : Past) (k : IsPast setup past) (s t : Meaning) (d e : DeepMeaning) (q : Asked) (now : Moment)
    (within : q.partition.0 < setup.partitions) (old : IsLawfulHistory (starting_of setup) s.seen)
    (is_history : t.seen ≡ past.history) (are_files : e.seen ≡ past.files) where
  abbrev rose : Type 0
  rose = Rose s t d e

  -- it goes on with what lasts, or ends so
  abbrev SteppedSo : Bool → Stepping → Option ReplyStatus → Type 0
  SteppedSo commit x None = IsBacked setup past q x.stage
  SteppedSo commit x (Some r) = StatusSo past.history q.partition q.sequence rose commit x.did.step r

  abbrev Steps : Bool → Stepping → Type 0
  Steps commit x = SteppedSo commit x x.did.status

  went : (commit : Bool) (to : JobStage) (n : StepName) (o : StepOutcome) (x : Stepping) → goes to n o ≡ Some x → IsBacked setup past q to → Steps commit x
  went commit to n o x f b = subst (Steps commit) (same_step _ x f) b

  ended : (commit : Bool) (n : StepName) (o : StepOutcome) (r : ReplyStatus) (x : Stepping) → ends n o r ≡ Some x
      → StatusSo past.history q.partition q.sequence rose commit n r → Steps commit x
  ended commit n o r x f b = subst (Steps commit) (same_step _ x f) b

  failed : (commit : Bool) (n : StepName) (x : Stepping) → fails n ≡ Some x → rose → Steps commit x
  failed commit n x f b = ended commit n outcome.Failed (status.Failed cause.StoreFault) x f b

  -- ---- check

  pub check_is : (from : Seen) (end : Offset) (path bytes : List ℕ) (c : IsChecked setup past q (meta_in from.node).start end bytes)
      → after_get q from end path (Ok bytes) ≡ goes (stage.Done from (commit_of end path (header_of c.right.file.segment))) name.Check outcome.Fine
  check_is from end path bytes c =
      let h = header_of c.right.file.segment in
      let fine = goes (stage.Done from (commit_of end path h)) name.Check outcome.Fine in
      ap (checked q from end path) c.read ∙ ap (λ b. cond b fine (bad q from end (Some h))) c.fits

  check_steps : (from : Seen) (end : Offset) (path : List ℕ) (answer : Result (List ℕ) DeepRefused) (x : Stepping)
      → IsRead past.history q.partition q.sequence from → WasNamed past q end path → of_deep.Gets d e path answer
      → after_get q from end path answer ≡ Some x → Steps true x
  check_steps from end path (Ok bytes) x read named c f =
      let file = named_file setup past k q from end path within read named in
      let stands : Stands past.files path bytes = subst (λ (fs : List DeepPut). Stands fs path bytes) are_files (get_seen d e path bytes c) in
      let same = same_bytes past.files path bytes file.0 stands file.1 in
      let here = subst (λ (b : List ℕ). IsChecked setup past q (meta_in from.node).start end b) same file.2 in
      let segment = here.right.file.segment in
      let commit = commit_of end path (header_of segment) in
      went true (stage.Done from commit) name.Check outcome.Fine x (sym (check_is from end path bytes here) ∙ f)
      (record {
        bytes = bytes;
        stands = stands;
        right = here.right;
        header = wanted_header q (meta_in from.node).start end path (header_of segment) here.fits;
      })
  check_steps from end path (Err deep.Absent) x read named c f =
      let file = named_file setup past k q from end path within read named in
      let absent = ap (λ (fs : List DeepPut). file_of fs path) (sym are_files) ∙ absent_seen d e path c in
      absurd (none-some (put_at path file.0) (sym absent ∙ file.1))
  check_steps from end path (Err (deep.OtherBytes kept offered)) x read named c f = absurd (get_other d e path kept offered c)
  check_steps from end path (Err deep.Failed) x read named c f = failed true name.Check x f (inr (get_rose d e path c))
  check_steps from end path (Err deep.Memory) x read named c f = absurd (cc)

  -- ---- done and next

  -- what was read has changed
  node_changed : (from : Seen) (n : Node) (expected found : ℕ) → IsRead past.history q.partition q.sequence from
      → SetsFrom s t from n (Err (VersionChanged expected found)) → HasChanged past.history q.partition q.sequence expected found
  node_changed from n expected found read c =
      let change = set_changed s t from n expected found c in
      let versions = versions_count_writes (starting_of setup) past.history k.lawful in
      record {
        read = from;
        was_read = read;
        is_expected = change.is_expected;
        there = change.there;
        present = ap (λ (h : List Seen). value_of h (key.Meta q.partition q.sequence)) (sym is_history) ∙ ap (value_of t.seen) (sym read.of) ∙ change.value;
        is_found = change.is_found;
        later =
            set_later s t from n expected found (subst IsVersioned (sym is_history) versions) (Has-same past.history t.seen from (sym is_history) read.has) c;
      }

  done_steps : (from : Seen) (commit : Commit) (answer : Result ℕ StoreRefused) (x : Stepping) → IsRead past.history q.partition q.sequence from
      → SetsFrom s t from (done_node from commit now) answer → after_done from commit now answer ≡ Some x → Steps true x
  done_steps from commit (Ok version) x read c f = went true (stage.Next (done_write from commit now version)) name.Done outcome.Fine x f tt
  done_steps from commit (Err NoNode) x read c f =
      ended true name.Done outcome.NoNode (status.Failed cause.NoSegment) x f (
        refl,
        ap (λ (h : List Seen). value_of h (key.Meta q.partition q.sequence)) (sym is_history) ∙ ap (value_of t.seen) (sym read.of)
            ∙ set_gone s t from (done_node from commit now) c,
      )
  done_steps from commit (Err (Exists found)) x read c f = absurd (set_exists s t from (done_node from commit now) found c)
  done_steps from commit (Err (VersionChanged expected found)) x read c f =
      ended true name.Done (outcome.Changed expected found) (status.Failed (cause.VersionChanged expected found)) x f
      (refl, node_changed from (done_node from commit now) expected found read c)
  done_steps from commit (Err Failed) x read c f =
      failed true name.Done x f (inl (write_rose (λ w. w.version) s t (set from (done_node from commit now)) c))
  done_steps from commit (Err Memory) x read c f = absurd (cc)

  set_done : (done : Seen) → IsSetDone past.history q.partition q.sequence done → IsSetDone t.seen q.partition q.sequence done
  set_done done is = subst (λ (h : List Seen). IsSetDone h q.partition q.sequence done) (sym is_history) is

  lawful_now : IsLawfulHistory (starting_of setup) t.seen
  lawful_now = subst (IsLawfulHistory (starting_of setup)) (sym is_history) k.lawful

  next_steps : (a : Assigned) (done : Seen) (answer : Result (Unit {0}) StoreRefused) (x : Stepping)
      → IsSetDone past.history q.partition q.sequence done → CreatesAfter s t (next_key q) (next_node a q now done) done answer
      → after_next done answer ≡ Some x → Steps true x
  next_steps a done (Ok u) x is c f = went true (stage.IdealRead (work.Commit done) []) name.Next outcome.Fine x f (no_tries past.history)
  next_steps a done (Err NoNode) x is c f =
      ended true name.Next outcome.Gone (status.CommitSuccess (seen_meta_of done)) x f (refl, was_done past.history q.partition q.sequence done is)
  next_steps a done (Err (Exists found)) x is c f = went true (stage.IdealRead (work.Commit done) []) name.Next outcome.Exists x f (no_tries past.history)
  next_steps a done (Err (VersionChanged expected found)) x is c f =
      let there = set_done done is in
      absurd
      (next_unchanged (starting_of setup) s t q.partition q.sequence.0 (next_key q) (next_node a q now done) done expected found within lawful_now
      there.has there.of there.done c)
  next_steps a done (Err Failed) x is c f =
      failed true name.Next x f (inl (write_rose (λ w. tt) s t (create_after (next_key q) (next_node a q now done) done) c))
  next_steps a done (Err Memory) x is c f = absurd (cc)

  -- ---- the ideal state

  succeeds : (w : Work) (n : StepName) → IsWork past.history q w → StatusSo past.history q.partition q.sequence rose (is_commit w) n (success w)
  succeeds (work.Commit done) n is = (refl, was_done past.history q.partition q.sequence done is.done)
  succeeds work.Offline n is = refl

  read_steps : (w : Work) (found : List ℕ) (answer : Result Seen StoreRefused) (x : Stepping) → IsWork past.history q w → AreTries past.history found
      → Reads s t key.Ideal answer → after_read q w found answer ≡ Some x → Steps (is_commit w) x
  read_steps w found (Ok ideal) x is tries c f = by_test (changes q w (entries_by ideal.node)) f
    where
      by_test :
          (b : Bool)
          → cond b (goes (stage.IdealSet w found ideal) name.IdealRead outcome.Fine) (ends name.IdealRead outcome.Same (success w)) ≡ Some x
          → Steps (is_commit w) x
      by_test true g =
          let there = ap (λ (h : List Seen). value_of h key.Ideal) (sym is_history) ∙ read_is s t key.Ideal ideal c in
          went (is_commit w) (stage.IdealSet w found ideal) name.IdealRead outcome.Fine x g
          (tries, found_before (starting_of setup) past.history found ideal k.lawful tries there)
      by_test false g = ended (is_commit w) name.IdealRead outcome.Same (success w) x g (succeeds w name.IdealRead is)
  read_steps w found (Err NoNode) x is tries c f = absurd (read_no_node (starting_of setup) s t old c)
  read_steps w found (Err (Exists version)) x is tries c f = absurd (read_exists s t key.Ideal version c)
  read_steps w found (Err (VersionChanged expected version)) x is tries c f = absurd (read_changed s t key.Ideal expected version c)
  read_steps w found (Err Failed) x is tries c f = failed (is_commit w) name.IdealRead x f (inl (read_rose s t key.Ideal c))
  read_steps w found (Err Memory) x is tries c f = absurd (cc)

  -- one version more was found
  tried : (found : List ℕ) (ideal : Seen) (n : Node) (expected version : ℕ) → AreTries past.history found → All (λ v. v ≤ ideal.version) found
      → Has past.history ideal → ideal.key ≡ key.Ideal → SetsFrom s t ideal n (Err (VersionChanged expected version))
      → AreTries past.history (found ++ version ∷ [])
  tried found ideal n expected version tries before has of c =
      let change = set_changed s t ideal n expected version c in
      let value : value_of past.history key.Ideal ≡ Some change.there =
      ap (λ (h : List Seen). value_of h key.Ideal) (sym is_history) ∙ ap (value_of t.seen) (sym of) ∙ change.value in
      let there = value_has past.history key.Ideal change.there value in
      let versions = subst IsVersioned (sym is_history) (versions_count_writes (starting_of setup) past.history k.lawful) in
      let later = set_later s t ideal n expected version versions (Has-same past.history t.seen ideal (sym is_history) has) c in
      let read : WasIdeal past.history ideal.version = (ideal, record { has = has; is_ideal = of }, refl) in
      let now_there : WasIdeal past.history version = (change.there, record { has = there.0; is_ideal = there.1 }, change.is_found) in
      more_tries past.history found ideal.version version tries before read now_there (omega (arith, change.is_expected, later))

  set_steps : (w : Work) (found : List ℕ) (ideal : Seen) (n : Node) (answer : Result ℕ StoreRefused) (x : Stepping) → IsWork past.history q w
      → length found < 10 → AreTries past.history found → All (λ v. v ≤ ideal.version) found → Has past.history ideal → ideal.key ≡ key.Ideal
      → SetsFrom s t ideal n answer → after_set w found answer ≡ Some x → Steps (is_commit w) x
  set_steps w found ideal n (Ok version) x is few tries before has of c f =
      ended (is_commit w) name.IdealSet outcome.Fine (success w) x f (succeeds w name.IdealSet is)
  set_steps w found ideal n (Err NoNode) x is few tries before has of c f = absurd (set_no_node (starting_of setup) s t ideal n old of c)
  set_steps w found ideal n (Err (Exists version)) x is few tries before has of c f = absurd (set_exists s t ideal n version c)
  set_steps w found ideal n (Err (VersionChanged expected version)) x is few tries before has of c f = by_test (nat_lt (length found) 9) refl f
    where
      more : AreTries past.history (found ++ version ∷ [])
      more = tried found ideal n expected version tries before has of c

      by_test :
          (b : Bool) → nat_lt (length found) 9 ≡ b
          → cond b
          (goes (stage.IdealRead w (found ++ version ∷ [])) name.IdealSet (outcome.Changed expected version))
          (ends name.IdealSet (outcome.Changed expected version) (status.Failed (cause.IdealChanged (found ++ version ∷ []))))
          ≡ Some x
          → Steps (is_commit w) x
      by_test true g h = went (is_commit w) (stage.IdealRead w (found ++ version ∷ [])) name.IdealSet (outcome.Changed expected version) x h more
      by_test false g h =
          let ten : length (found ++ version ∷ []) ≡ 10 =
          omega (arith, few, ltb-false (length found) 9 g, length-append found (version ∷ [])) in
          ended (is_commit w) name.IdealSet (outcome.Changed expected version) (status.Failed (cause.IdealChanged (found ++ version ∷ []))) x h
          (refl, ten, more)
  set_steps w found ideal n (Err Failed) x is few tries before has of c f =
      failed (is_commit w) name.IdealSet x f (inl (write_rose (λ w. w.version) s t (set ideal n) c))
  set_steps w found ideal n (Err Memory) x is few tries before has of c f = absurd (cc)

  -- ---- by its stage

  pub step_so : (a : Assigned) (from : JobStage) (x : Stepping) → IsAt past.history q from → IsBacked setup past q from → IsTrying from
      → Makes s t d e (call_at a q now from) (λ answer. step_at q now from answer ≡ Some x) → Steps (commits from) x
  step_so a (stage.Check from end path) x is backed trying (answer, c, same, f) = check_steps from end path answer x is.read backed c f
  step_so a (stage.Done from commit) x is backed trying (answer, c, same, f) = done_steps from commit answer x is.read c f
  step_so a (stage.Next done) x is backed trying (answer, c, same, f) = next_steps a done answer x is c f
  step_so a (stage.IdealRead w found) x is backed trying (answer, c, same, f) = read_steps w found answer x is backed c f
  step_so a (stage.IdealSet w found ideal) x is backed trying (answer, c, same, f) =
      set_steps w found ideal (ideal_node a q w ideal) answer x is.work trying backed.0 backed.1 is.has is.is_ideal c f
  step_so a stage.Ended x is backed trying m = absurd trying
