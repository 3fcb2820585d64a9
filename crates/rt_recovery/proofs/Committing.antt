-- What the job of a commit writes: it makes its segment Done, and leaves the nodes of all other segments, and who is to consume those.
use Rattle.std.proofs.Common.{◌≡◌, ◌⊎◌, inl, inr, ◌==◌, Bool, true, false, cond, List, [], ◌∷◌, ◌++◌, map, ℕ, Some, Ok, refl, sym, ◌∙◌, ap, subst}
use Rattle.std.proofs.lemmas.Bool.{and_parts, eqb-true, false≢true}
use Rattle.std.proofs.lemmas.Option.{none-some, same_Some}
use Rattle.rt_base.specs.declared.numbers.Instance.{Instance}
use Rattle.rt_base.specs.declared.numbers.Moment.{Moment}
use Rattle.rt_base.specs.declared.numbers.Partition.{Partition}
use Rattle.rt_base.specs.declared.numbers.Sequence.{Sequence}
use Rattle.rt_commit.specs.Assignment.{replicas_in, Assigned}
use Rattle.rt_commit.specs.Calls.{Call}
use Rattle.rt_commit.specs.IsJob.{IsAt, IsChanging, IsCommitting, IsSetDone}
use Rattle.rt_commit.specs.Job.{call_at, commits, done_node, ideal_node, next_key, next_node}
use Rattle.rt_commit.specs.Lasting.{IsJobOver}
use Rattle.rt_commit.specs.Told.{answer_to, store_after, ToldDeep}
use Rattle.rt_commit.specs.declared.job.Job.{Job}
use Rattle.rt_commit.specs.declared.job.JobStage.{JobStage}
use Rattle.rt_commit.specs.declared.job.JobStage.TheVariants as stage
use Rattle.rt_commit.specs.declared.work.Work.TheVariants as work
use Rattle.rt_controller.specs.Controller.{Controlling}
use Rattle.rt_controller.specs.Lasting.{IsControllerOver}
use Rattle.rt_controller.specs.Right.{job_at, job_of}
use Rattle.rt_controller.specs.Steps.{Works}
use Rattle.rt_controller.specs.Working.{work_call, work_call_at, work_call_on, Working}
use Rattle.rt_controller.proofs.Telling.{told_work}
use Rattle.rt_deep.specs.Memory.{means as deep_means}
use Rattle.rt_lists.proofs.Lists.{All-found}
use Rattle.rt_lists.proofs.Members.{Has-append_left, Has-push}
use Rattle.rt_model.specs.Entries.{entries_by, entries_in, entries_of}
use Rattle.rt_model.specs.History.{last_write, value_in, value_of, IsVersioned, Stands}
use Rattle.rt_model.specs.Ideal.{commit_step_of, consuming, has_entry, is_before, is_of, is_of_instance, mode_of, next_sequence, turned_online, with_consuming, with_entry}
use Rattle.rt_model.specs.Lawful.{create_after, set, written_by, Write}
use Rattle.rt_model.specs.declared.asked.Asked.{Asked}
use Rattle.rt_model.specs.declared.commit.Commit.{Commit}
use Rattle.rt_model.specs.declared.ideal_state.IdealEntry.{IdealEntry}
use Rattle.rt_model.specs.declared.ideal_state.Mode.{Mode}
use Rattle.rt_model.specs.declared.ideal_state.Mode.TheVariants.{Consuming, Online}
use Rattle.rt_model.specs.declared.job_step.JobStep.{JobStep}
use Rattle.rt_model.specs.declared.node.Key.{Key}
use Rattle.rt_model.specs.declared.node.Key.TheVariants as key
use Rattle.rt_model.specs.declared.node.Seen.{Seen}
use Rattle.rt_model.specs.declared.setup.Setup.{Setup}
use Rattle.rt_model.proofs.Histories.{last_write-more, last_write-other, Stands-last}
use Rattle.rt_past.specs.Past.{Past}
use Rattle.rt_safety.proofs.SuccessEnds.{step_of}
use Rattle.rt_store.specs.Answers.{after_call}
use Rattle.rt_store.specs.Calls.{told_on}
use Rattle.rt_store.specs.Meaning.{Told}
use Rattle.rt_store.specs.Memory.{means}
use Rattle.rt_store.proofs.Seeing.{effect_of}
use Rattle.rt_store.proofs.Told.{called, read_same}
use Rattle.rt_calm.proofs.Paying.{meta_entries}

-- ---- entries of other segments

abbrev pub Consumes : List IdealEntry → Partition → Sequence → Instance → Type 0
Consumes es o s i = mode_of es o s i ≡ Some Consuming

-- the instance's entry is found first, or further on
consumes_cons : (x : IdealEntry) (es fs : List IdealEntry) (o : Partition) (s : Sequence) (i : Instance) → (Consumes es o s i → Consumes fs o s i)
    → Consumes (x ∷ es) o s i → Consumes (x ∷ fs) o s i
consumes_cons x es fs o s i further = by_own (is_of_instance o s i x)
  where
    by_own : (b : Bool) → cond b (Some x.mode) (mode_of es o s i) ≡ Some Consuming → cond b (Some x.mode) (mode_of fs o s i) ≡ Some Consuming
    by_own true e = e
    by_own false e = further e

consumes_more : (x : IdealEntry) (es : List IdealEntry) (o : Partition) (s : Sequence) (i : Instance) → x.mode ≡ Consuming → Consumes es o s i
    → Consumes (x ∷ es) o s i
consumes_more x es o s i is e = by_own (is_of_instance o s i x)
  where
    by_own : (b : Bool) → cond b (Some x.mode) (mode_of es o s i) ≡ Some Consuming
    by_own true = ap (λ (m : Mode). Some m) is
    by_own false = e

consumes_with : (x : IdealEntry) (es : List IdealEntry) (o : Partition) (s : Sequence) (i : Instance) → x.mode ≡ Consuming → Consumes es o s i
    → Consumes (with_entry x es) o s i
consumes_with x [] o s i is e = consumes_more x [] o s i is e
consumes_with x (y ∷ es) o s i is e = by_place (is_before x y) (consumes_with x es o s i is)
  where
    by_place : (b : Bool) → (Consumes es o s i → Consumes (with_entry x es) o s i) → Consumes (cond b (x ∷ y ∷ es) (y ∷ with_entry x es)) o s i
    by_place true further = consumes_more x (y ∷ es) o s i is e
    by_place false further = consumes_cons y es (with_entry x es) o s i further e

consumes_added : (es : List IdealEntry) (p : Partition) (q : Sequence) (is : List Instance) (o : Partition) (s : Sequence) (i : Instance) → Consumes es o s i
    → Consumes (with_consuming es p q is) o s i
consumes_added es p q [] o s i e = e
consumes_added es p q (j ∷ is) o s i e = consumes_with (consuming p q j) (with_consuming es p q is) o s i refl (consumes_added es p q is o s i e)

module _ (p : Partition) (q : Sequence) (o : Partition) (s : Sequence) (i : Instance) (apart : o.0 ≡ p.0 → s.0 ≡ q.0 → ⊥) where
  abbrev map_online : List IdealEntry → List IdealEntry
  map_online es = map (turned_online p q) es

  consumes_online : (es : List IdealEntry) → Consumes es o s i → Consumes (map_online es) o s i
  consumes_online [] e = e
  consumes_online (x ∷ es) e = by_own (is_of p q x) refl (consumes_online es)
    where
      other : is_of p q x ≡ true → is_of o s x ≡ true → ⊥
      other own its =
          let a = and_parts (x.partition.0 == p.0) (x.sequence.0 == q.0) own in
          let b = and_parts (x.partition.0 == o.0) (x.sequence.0 == s.0) its in
          apart (sym (eqb-true x.partition.0 o.0 b.0) ∙ eqb-true x.partition.0 p.0 a.0) (sym (eqb-true x.sequence.0 s.0 b.1) ∙ eqb-true x.sequence.0 q.0 a.1)

      by_own : (b : Bool) → is_of p q x ≡ b → (Consumes es o s i → Consumes (map_online es) o s i)
          → Consumes (cond b (record x { mode = Online }) x ∷ map_online es) o s i
      by_own false is further = consumes_cons x es (map_online es) o s i further e
      by_own true is further = by_found (is_of_instance o s i x) refl e
        where
          by_found : (c : Bool) → is_of_instance o s i x ≡ c → cond c (Some x.mode) (mode_of es o s i) ≡ Some Consuming
              → cond c (Some Online) (mode_of (map_online es) o s i) ≡ Some Consuming
          by_found true its f = absurd (other is (and_parts (is_of o s x) (x.instance.0 == i.0) its).0)
          by_found false its f = further f

  commit_leaves : (es : List IdealEntry) (next : List Instance) → Consumes es o s i → Consumes (commit_step_of es p q next) o s i
  commit_leaves es next e = by_tests (has_entry es p q) (has_entry es p (next_sequence q))
    where
      by_tests : (b c : Bool) → Consumes (cond b (cond c (map_online es) (with_consuming (map_online es) p (next_sequence q) next)) es) o s i
      by_tests true true = consumes_online es e
      by_tests true false = consumes_added (map_online es) p (next_sequence q) next o s i (consumes_online es e)
      by_tests false c = e

-- ---- histories

-- the nodes of other segments are there as before, and who consumes one goes on
pub record LeavesOthers (u h : List Seen) (p : Partition) (q : Sequence) : Type 0 where
  pub nodes : (o : Partition) (s : Sequence) (w : Seen) → (o.0 ≡ p.0 → s.0 ≡ q.0 → ⊥) → value_of u (key.Meta o s) ≡ Some w
      → value_of h (key.Meta o s) ≡ Some w
  pub consumes : (o : Partition) (s : Sequence) (i : Instance) → (o.0 ≡ p.0 → s.0 ≡ q.0 → ⊥) → Consumes (entries_of u) o s i → Consumes (entries_of h) o s i

abbrev pub IsEnded : List Seen → Partition → Sequence → Type 0
IsEnded h p q = (w : Seen) × IsSetDone h p q w

-- nothing was written, or the segment is Done
abbrev pub HasCommitted : List Seen → List Seen → Partition → Sequence → Type 0
HasCommitted u h p q = (h ≡ u) ⊎ (LeavesOthers u h p q × IsEnded h p q)

same_leaves : (h : List Seen) (p : Partition) (q : Sequence) → LeavesOthers h h p q
same_leaves h p q = record { nodes = λ o s w apart e. e; consumes = λ o s i apart e. e }

others_left : (u h : List Seen) (p : Partition) (q : Sequence) → HasCommitted u h p q → LeavesOthers u h p q
others_left u h p q (inl same) = subst (λ (g : List Seen). LeavesOthers u g p q) (sym same) (same_leaves u p q)
others_left u h p q (inr k) = k.0

then_leaves : (u h g : List Seen) (p : Partition) (q : Sequence) → LeavesOthers u h p q → LeavesOthers h g p q → LeavesOthers u g p q
then_leaves u h g p q x y =
    record {
      nodes = λ o s w apart e. y.nodes o s w apart (x.nodes o s w apart e);
      consumes = λ o s i apart e. y.consumes o s i apart (x.consumes o s i apart e);
    }

ended_on : (h : List Seen) (w : Seen) (p : Partition) (q : Sequence) (done : Seen) → IsSetDone h p q done → IsEnded (h ++ w ∷ []) p q
ended_on h w p q done k = (done, record { has = Has-append_left h (w ∷ []) done k.has; of = k.of; done = k.done })

same_of : (p o : Partition) (q s : Sequence) → key.Meta p q ≡ key.Meta o s → (o.0 ≡ p.0) × (s.0 ≡ q.0)
same_of p o q s e = (ap (λ (x : Partition). x.0) (sym (own e)), ap (λ (x : Sequence). x.0) (sym (ordinal e)))
  where
    own : key.Meta p q ≡ key.Meta o s → p ≡ o
    own f = cc

    ordinal : key.Meta p q ≡ key.Meta o s → q ≡ s
    ordinal f = cc

-- ---- a step of the job

module _ (u : List Seen) (t : Told) (a : Assigned) (q : Asked) (now : Moment) (versions : IsVersioned t.writes)
    (so_far : HasCommitted u t.writes q.partition q.sequence) where
  abbrev h : List Seen
  h = t.writes

  abbrev Commits : List Seen → Type 0
  Commits g = HasCommitted u g q.partition q.sequence

  -- one write more
  more : (call : Write) → LeavesOthers h (h ++ written_by h call ∷ []) q.partition q.sequence → IsEnded (h ++ written_by h call ∷ []) q.partition q.sequence
      → Commits (h ++ written_by h call ∷ [])
  more call leaves ended =
      inr (
        then_leaves u h (h ++ written_by h call ∷ []) q.partition q.sequence (others_left u h q.partition q.sequence so_far) leaves,
        ended,
      )

  -- that of another node than those that it leaves
  node_leaves : (w : Seen) (k : Key) → w.key ≡ k → (k ≡ key.Ideal → ⊥)
      → ((o : Partition) (s : Sequence) (x : Seen) → (o.0 ≡ q.partition.0 → s.0 ≡ q.sequence.0 → ⊥) → value_of h (key.Meta o s) ≡ Some x → k ≡ key.Meta o s → ⊥)
      → LeavesOthers h (h ++ w ∷ []) q.partition q.sequence
  node_leaves w k of not_ideal other =
      record {
        nodes = λ o s x apart there.
            ap value_in (last_write-other h w (key.Meta o s) (λ e. other o s x apart there (sym of ∙ e))) ∙ there;
        consumes = λ o s i apart e. ap (λ (es : List IdealEntry). mode_of es o s i) (meta_entries h w k of not_ideal) ∙ e;
      }

  done_commits : (from : Seen) (commit : Commit) → IsCommitting h q from commit.end.0 → Commits (told_on t (after_call (set from (done_node from commit now)))).writes
  done_commits from commit at =
      called t call Commits so_far
      (λ none. more call
      (node_leaves (written_by h call) (key.Meta q.partition q.sequence) at.read.of (λ e. cc)
      (λ o s x apart there same. let own = same_of q.partition o q.sequence s same in apart own.0 own.1))
      (written_by h call, record { has = Has-push h (written_by h call); of = at.read.of; done = tt }))
    where
      call : Write
      call = set from (done_node from commit now)

  next_commits : (done : Seen) → IsSetDone h q.partition q.sequence done → Commits (told_on t (after_call (create_after (next_key q) (next_node a q now done) done))).writes
  next_commits done at =
      called t call Commits so_far
      (λ none. more call
      (node_leaves (written_by h call) (next_key q) refl (λ e. cc)
      (λ o s x apart there same. none-some x (sym (effect_of h call none).1 ∙ ap (value_of h) same ∙ there)))
      (ended_on h (written_by h call) q.partition q.sequence done at))
    where
      call : Write
      call = create_after (next_key q) (next_node a q now done) done

  ideal_commits : (done : Seen) (ideal : Seen) → IsChanging h q (work.Commit done) ideal
      → Commits (told_on t (after_call (set ideal (ideal_node a q (work.Commit done) ideal)))).writes
  ideal_commits done ideal at =
      called t call Commits so_far
      (λ none. more call (leaves (effect_of h call none)) (ended_on h (written_by h call) q.partition q.sequence done at.work.done))
    where
      call : Write
      call = set ideal (ideal_node a q (work.Commit done) ideal)

      one : Seen
      one = written_by h call

      leaves : Stands h ideal → LeavesOthers h (h ++ one ∷ []) q.partition q.sequence
      leaves effect =
          let was : entries_of h ≡ entries_by ideal.node =
          ap (λ (k : Key). entries_in (last_write h k)) (sym at.is_ideal) ∙ ap entries_in (Stands-last h ideal versions at.has effect).0 in
          let is : entries_of (h ++ one ∷ []) ≡ commit_step_of (entries_by ideal.node) q.partition q.sequence (replicas_in a q.partition) =
          ap entries_in (last_write-more h one key.Ideal at.is_ideal) in
          record {
            nodes = λ o s x apart there.
                ap value_in (last_write-other h one (key.Meta o s) (λ e. ideal_not o s (sym at.is_ideal ∙ e))) ∙ there;
            consumes = λ o s i apart e.
                ap (λ (es : List IdealEntry). mode_of es o s i) is
                ∙ commit_leaves q.partition q.sequence o s i apart (entries_by ideal.node) (replicas_in a q.partition)
                (ap (λ (es : List IdealEntry). mode_of es o s i) (sym was) ∙ e);
          }
        where
          ideal_not : (o : Partition) (s : Sequence) → key.Ideal ≡ key.Meta o s → ⊥
          ideal_not o s e = cc

  stage_commits : (from : JobStage) → IsAt h q from → commits from ≡ true → Commits (store_after t (call_at a q now from)).writes
  stage_commits (stage.Check from end path) at commit = so_far
  stage_commits (stage.Done from c) at commit = done_commits from c at
  stage_commits (stage.Next done) at commit = next_commits done at
  stage_commits (stage.IdealRead w found) at commit = subst Commits (sym (read_same t)) so_far
  stage_commits (stage.IdealSet (work.Commit done) found ideal) at commit = ideal_commits done ideal at
  stage_commits (stage.IdealSet work.Offline found ideal) at commit = absurd (false≢true commit)
  stage_commits stage.Ended at commit = absurd at

-- ---- a controller's job

pub job_commits : (setup : Setup) (past : Past) (u : List Seen) (t v : Told) (d e : ToldDeep) (c new : Controlling) (j : ℕ) (job : Job) (now : Moment) (did : JobStep)
    → past.history ≡ t.writes → IsControllerOver setup past c → IsVersioned t.writes
    → Works (means t) (means v) (deep_means d) (deep_means e) c j now new (Ok did) → job_of c j ≡ Some job → commits job.stage ≡ true
    → HasCommitted u t.writes job.asked.partition job.asked.sequence → HasCommitted u v.writes job.asked.partition job.asked.sequence
job_commits setup past u t v d e c new j job now did same over versions works opened commit so_far =
    let w : Working = record { controller = new; step = did } in
    let left = told_work t v d e c j now w works in
    let k = step_of c j now (answer_to t d (work_call c j now)) w left.made in
    let lasts = All-found (IsJobOver setup past) c.jobs k.place k.job over.jobs k.there in
    let is : k.job ≡ job = same_Some k.job job (sym (ap (job_at c.jobs) k.found ∙ k.there) ∙ opened) in
    let call : work_call c j now ≡ call_at c.assigned k.job.asked now k.job.stage =
    ap (work_call_on c now) k.found ∙ ap (work_call_at c now) k.there in
    let at = subst (λ (h : List Seen). IsAt h k.job.asked k.job.stage) same lasts.job.at in
    let written : v.writes ≡ (store_after t (call_at c.assigned k.job.asked now k.job.stage)).writes =
    ap (λ (z : Told). z.writes) left.store ∙ ap (λ (z : Call). (store_after t z).writes) call in
    subst (λ (z : Job). HasCommitted u v.writes z.asked.partition z.asked.sequence) is
    (subst (λ (h : List Seen). HasCommitted u h k.job.asked.partition k.job.asked.sequence) (sym written)
    (stage_commits u t c.assigned k.job.asked now versions
    (subst (λ (z : Job). HasCommitted u t.writes z.asked.partition z.asked.sequence) (sym is) so_far) k.job.stage at (ap (λ (z : Job). commits z.stage) is ∙ commit)))
