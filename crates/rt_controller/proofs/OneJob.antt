-- A COMMITTING machine has one unfinished commit job, and a commit job has its machine.
use Rattle.std.proofs.Common.{◌≡◌, inl, inr, ◌+◌, ◌≤◌, ◌==◌, ◌&&◌, Bool, true, false, List, [], ◌∷◌, Some, refl, sym, ◌∙◌, ap, subst, arith}
use Rattle.std.specs.List.{count_by}
use Rattle.std.proofs.lemmas.Bool.{and_parts, eq-eqb, eqb-true}
use Rattle.std.proofs.lemmas.List.Sums.{sum_by-cons}
use Rattle.std.proofs.lemmas.Option.{none-some, same_Some}
use Rattle.rt_base.specs.declared.numbers.Offset.{Offset}
use Rattle.rt_base.specs.declared.numbers.Partition.{Partition}
use Rattle.rt_base.specs.declared.numbers.Sequence.{Sequence}
use Rattle.rt_lists.specs.Members.{Has}
use Rattle.rt_model.specs.declared.machine_state.MachineState.{MachineState}
use Rattle.rt_model.specs.declared.machine_state.MachineState.TheVariants.{PartialConsuming, Holding, CommitterDecided, CommitterNotified, CommitterUploading, Committing, Committed, Aborted}
use Rattle.rt_model.specs.declared.setup.Setup.{Setup}
use Rattle.rt_model.specs.Completion.{is_at}
use Rattle.rt_model.proofs.Histories.{same_partition, same_sequence}
use Rattle.rt_past.specs.Past.{Past}
use Rattle.rt_commit.specs.declared.job.Job.{Job}
use Rattle.rt_commit.specs.declared.job.JobStage.TheVariants as stage
use Rattle.rt_commit.specs.Job.{commits}
use Rattle.rt_commit.specs.Lasting.{commit_end}
use Rattle.rt_commit.proofs.CommitEnds.{commits_to, end_commits}
use Rattle.rt_controller.specs.declared.segment_machine.SegmentMachine.{SegmentMachine}
use Rattle.rt_controller.specs.Controller.{Controlling, is_of}
use Rattle.rt_controller.specs.Lasting.{IsControllerOver, ArePaired, HaveOneMachine, HasItsMachine, HasOneJob, IsOnlyJob, end_at, ends_at, job_ends_at, machine_end, machine_ends_at}
use Rattle.rt_controller.proofs.Paired.{one_if}
use Rattle.rt_controller.proofs.PairedJobs.{at_some, ends_here, fewer_ends, machine_at}

-- ---- what is counted, and what is counted once

count_cons : {X : Type 0} (p : X → Bool) (x : X) (xs : List X) → count_by p (x ∷ xs) ≡ one_if (p x) + count_by p xs
count_cons p x xs = sum_by-cons (λ y. one_if (p y)) x xs

counted : {X : Type 0} (p : X → Bool) (xs : List X) (x : X) → Has xs x → p x ≡ true → 1 ≤ count_by p xs
counted p [] x h e = absurd h
counted {X = X} p (y ∷ ys) x (inl same) e =
    let P : X → Type 0 = λ z. p z ≡ true in
    omega (arith, count_cons p y ys, ap one_if (subst P (sym same) e))
counted p (y ∷ ys) x (inr h) e = omega (arith, count_cons p y ys, counted p ys x h e)

record Counted {X : Type 0} (p : X → Bool) (xs : List X) : Type 0 where
  item : X
  has : Has xs item
  passes : p item ≡ true

some_by : {X : Type 0} (p : X → Bool) (x : X) (xs : List X) (b : Bool) → p x ≡ b → 1 ≤ count_by p (x ∷ xs) → (1 ≤ count_by p xs → Counted p xs)
    → Counted p (x ∷ xs)
some_by p x xs true e le rest = record { item = x; has = inl refl; passes = e }
some_by p x xs false e le rest =
    let r = rest (omega (arith, le, count_cons p x xs, ap one_if e)) in
    record { item = r.item; has = inr r.has; passes = r.passes }

some_counted : {X : Type 0} (p : X → Bool) (xs : List X) → 1 ≤ count_by p xs → Counted p xs
some_counted p [] le = absurd (omega (arith, le))
some_counted p (x ∷ xs) le = some_by p x xs (p x) refl le (some_counted p xs)

-- nothing else is counted behind one that is, where there is one at most
none_behind : {X : Type 0} (p : X → Bool) (y : X) (ys : List X) (a b : X) → count_by p (y ∷ ys) ≤ 1 → y ≡ a → p a ≡ true → Has ys b → p b ≡ true → ⊥
none_behind {X = X} p y ys a b few same e h f =
    let P : X → Type 0 = λ z. p z ≡ true in
    absurd (omega (arith, few, count_cons p y ys, ap one_if (subst P (sym same) e), counted p ys b h f))

count_one : {X : Type 0} (p : X → Bool) (xs : List X) (a b : X) → count_by p xs ≤ 1 → Has xs a → Has xs b → p a ≡ true → p b ≡ true → a ≡ b
count_one p [] a b few h i e f = absurd h
count_one p (y ∷ ys) a b few (inl g) (inl k) e f = sym g ∙ k
count_one p (y ∷ ys) a b few (inl g) (inr i) e f = absurd (none_behind p y ys a b few g e i f)
count_one p (y ∷ ys) a b few (inr h) (inl k) e f = absurd (none_behind p y ys b a few k f h e)
count_one p (y ∷ ys) a b few (inr h) (inr i) e f = count_one p ys a b (omega (arith, few, count_cons p y ys)) h i e f

-- ---- a machine that has an end is COMMITTING

ends_committing : (s : MachineState) (o x : Offset) → end_at s o ≡ Some x → (s ≡ Committing) × (o ≡ x)
ends_committing PartialConsuming o x e = absurd (none-some x e)
ends_committing Holding o x e = absurd (none-some x e)
ends_committing CommitterDecided o x e = absurd (none-some x e)
ends_committing CommitterNotified o x e = absurd (none-some x e)
ends_committing CommitterUploading o x e = absurd (none-some x e)
ends_committing Committing o x e = (refl, same_Some o x e)
ends_committing Committed o x e = absurd (none-some x e)
ends_committing Aborted o x e = absurd (none-some x e)

-- ---- the two of them

is_its : (m : SegmentMachine) (p : Partition) (s : Sequence) → m.partition ≡ p → m.sequence ≡ s → is_of p s m ≡ true
is_its m p s e f =
    ap (λ (q : Partition). (q.0 == p.0) && (m.sequence.0 == s.0)) e ∙ ap (λ (q : Sequence). (p.0 == p.0) && (q.0 == s.0)) f
    ∙ ap (λ b. b && (s.0 == s.0)) (eq-eqb p.0 p.0 refl) ∙ eq-eqb s.0 s.0 refl

module _ (ms : List SegmentMachine) (js : List Job) (one : HaveOneMachine ms) (paired : ArePaired ms js) where
  pub its_machine_of : (j : Job) → Has js j → commits j.stage ≡ true → HasItsMachine ms j
  its_machine_of j has e =
      let p = j.asked.partition in
      let s = j.asked.sequence in
      let to = commits_to j.stage e in
      let here = counted (job_ends_at p s to.0) js j has (ends_here p s to.0 (commit_end j.stage) to.1) in
      let found = some_counted (machine_ends_at p s to.0) ms (omega (arith, here, paired p s to.0)) in
      let at = machine_at p s to.0 found.item found.passes in
      let is = ends_committing found.item.machine.state found.item.machine.offset to.0 at.end in
      record {
        machine = found.item;
        has = found.has;
        committing = is.0;
        its = record { partition = sym at.partition; sequence = sym at.sequence; end = to.1 ∙ ap Some (sym is.1) };
      }

  -- the segment's machine
  of_segment : (j k : Job) (a : HasItsMachine ms j) (b : HasItsMachine ms k) → k.asked.partition ≡ j.asked.partition
      → k.asked.sequence ≡ j.asked.sequence → b.machine ≡ a.machine
  of_segment j k a b e f =
      let p = a.machine.partition in
      let s = a.machine.sequence in
      let same_p : b.machine.partition ≡ p = sym b.its.partition ∙ e ∙ a.its.partition in
      let same_s : b.machine.sequence ≡ s = sym b.its.sequence ∙ f ∙ a.its.sequence in
      count_one (is_of p s) ms b.machine a.machine (one p s) b.has a.has (is_its b.machine p s same_p same_s)
      (is_its a.machine p s refl refl)

  pub only_job : (j : Job) → Has js j → commits j.stage ≡ true → IsOnlyJob js j
  only_job j has e k there f same_p same_s =
      let p = j.asked.partition in
      let s = j.asked.sequence in
      let a = its_machine_of j has e in
      let b = its_machine_of k there f in
      let x = a.machine.machine.offset in
      let same = of_segment j k a b same_p same_s in
      let end : commit_end k.stage ≡ Some x = b.its.end ∙ ap (λ (m : SegmentMachine). Some m.machine.offset) same in
      let other : job_ends_at p s x k ≡ true =
      ap (λ (q : Partition). ends_at p s x q k.asked.sequence (commit_end k.stage)) same_p
      ∙ ap (λ (q : Sequence). ends_at p s x p q (commit_end k.stage)) same_s ∙ ends_here p s x (commit_end k.stage) end in
      count_one (job_ends_at p s x) js k j (omega (arith, paired p s x, fewer_ends p s x ms, one p s)) there has other
      (ends_here p s x (commit_end j.stage) a.its.end)

  pub its_job_of : (m : SegmentMachine) → Has ms m → m.machine.state ≡ Committing → HasOneJob js m
  its_job_of m has e =
      let p = m.partition in
      let s = m.sequence in
      let x = m.machine.offset in
      let end : machine_end m.machine ≡ Some x = ap (λ t. end_at t x) e in
      let here = counted (machine_ends_at p s x) ms m has (ends_here p s x (machine_end m.machine) end) in
      let found = some_counted (job_ends_at p s x) js (omega (arith, here, paired p s x)) in
      let j = found.item in
      let parts = and_parts ((j.asked.partition.0 == p.0) && (j.asked.sequence.0 == s.0)) (is_at x.0 (commit_end j.stage)) found.passes in
      let of = and_parts (j.asked.partition.0 == p.0) (j.asked.sequence.0 == s.0) parts.0 in
      let to = at_some (commit_end j.stage) x parts.1 in
      record {
        job = j;
        has = found.has;
        its = record {
          partition = same_partition j.asked.partition p (eqb-true j.asked.partition.0 p.0 of.0);
          sequence = same_sequence j.asked.sequence s (eqb-true j.asked.sequence.0 s.0 of.1);
          end = to;
        };
        only = only_job j found.has (end_commits j.stage x to);
      }

pub machine_has_one_job : (setup : Setup) (past : Past) (c : Controlling) (m : SegmentMachine) → IsControllerOver setup past c → Has c.machines m
    → m.machine.state ≡ Committing → HasOneJob c.jobs m
machine_has_one_job setup past c m k has e = its_job_of c.machines c.jobs k.one k.paired m has e

pub job_has_its_machine : (setup : Setup) (past : Past) (c : Controlling) (j : Job) → IsControllerOver setup past c → Has c.jobs j
    → commits j.stage ≡ true → HasItsMachine c.machines j × IsOnlyJob c.jobs j
job_has_its_machine setup past c j k has e =
    (its_machine_of c.machines c.jobs k.one k.paired j has e, only_job c.machines c.jobs k.one k.paired j has e)
