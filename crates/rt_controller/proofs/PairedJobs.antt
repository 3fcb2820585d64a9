-- Each start of a job, and each step of one, keeps COMMITTING machines and commit jobs paired.
use Rattle.std.proofs.Common.{◌≡◌, ℕ, ◌+◌, ◌≤◌, ◌==◌, ◌&&◌, Bool, true, false, List, [], ◌∷◌, ◌++◌, Option, Some, None, refl, sym, ◌∙◌, ap, arith, get_or}
use Rattle.std.specs.Prelude.{slice_get, slice_set}
use Rattle.std.specs.List.{count_by, remove, filter}
use Rattle.std.proofs.lemmas.Bool.{and_parts, false≢true, eq-eqb, eqb-true}
use Rattle.std.proofs.lemmas.List.Quantifiers.{position-Some}
use Rattle.std.proofs.lemmas.List.Sums.{sum_by-le-sum_by}
use Rattle.std.proofs.lemmas.Option.{none-some, slice_get-get_or}
use Rattle.rt_base.specs.declared.numbers.Offset.{Offset}
use Rattle.rt_base.specs.declared.numbers.Partition.{Partition}
use Rattle.rt_base.specs.declared.numbers.Sequence.{Sequence}
use Rattle.rt_model.specs.declared.asked.Asked.{Asked}
use Rattle.rt_model.specs.declared.completion.Ask.{Ask}
use Rattle.rt_model.specs.declared.completion.Ask.TheVariants as ask
use Rattle.rt_model.specs.declared.completion.Reaction.{Reaction}
use Rattle.rt_model.specs.declared.completion.Reaction.TheVariants as reaction
use Rattle.rt_model.specs.declared.machine_state.MachineState.{MachineState}
use Rattle.rt_model.specs.declared.machine_state.MachineState.TheVariants.{PartialConsuming, Holding, CommitterDecided, CommitterNotified, CommitterUploading, Committing, Committed, Aborted}
use Rattle.rt_model.specs.declared.request.Request.{Request}
use Rattle.rt_model.specs.declared.request.RequestKind.{RequestKind}
use Rattle.rt_model.specs.declared.request.RequestKind.TheVariants as kind
use Rattle.rt_model.specs.declared.seg_meta.SeenMeta.{SeenMeta}
use Rattle.rt_model.specs.Completion.{Completion, is_at}
use Rattle.rt_model.specs.Messages.{asked_of}
use Rattle.rt_model.proofs.Histories.{same_partition, same_sequence}
use Rattle.rt_fsm.proofs.Table.{same_offset}
use Rattle.rt_commit.specs.declared.job.Job.{Job}
use Rattle.rt_commit.specs.declared.job.JobStage.TheVariants as stage
use Rattle.rt_commit.specs.declared.job.JobStage.{JobStage}
use Rattle.rt_commit.specs.declared.work.Work.TheVariants as work
use Rattle.rt_commit.specs.Job.{at_stage, commits}
use Rattle.rt_commit.specs.Lasting.{commit_end}
use Rattle.rt_commit.proofs.CommitEnds.{commits_to, commits_none}
use Rattle.rt_controller.specs.declared.segment_machine.SegmentMachine.{SegmentMachine}
use Rattle.rt_controller.specs.Answers.{ask_in, commit_stage, follows, follows_by, named_in, read_write}
use Rattle.rt_controller.specs.Controller.{Controlling, is_committing, is_of, machine_place, without_at, without_machine}
use Rattle.rt_controller.specs.Lasting.{end_at, machine_end, ends_at, job_ends_at, machine_ends_at, HaveOneMachine, ArePaired}
use Rattle.rt_controller.proofs.Paired.{one_if, count_push, count_set, count_remove, remove_set, position_none, one_and, and_no, filter_counts, filter_fewer, Moves}
use Rattle.rt_controller.proofs.Turning.{TurnsTo}

-- ---- a job starts

abbrev pub PairedIn : Controlling → Type 0
PairedIn c = ArePaired c.machines c.jobs

abbrev started : Controlling → Request → JobStage → Job
started c r s = record { number = c.started; asked = asked_of r; stage = s }

still_paired : (ms ns : List SegmentMachine) (js : List Job) (q : Partition) (t : Sequence) (old new : Option Offset) → Moves ms ns q t old new
    → new ≡ old → ArePaired ms js → ArePaired ns js
still_paired ms ns js q t old new m e k p s x =
    let same = ap (λ (o : Option Offset). one_if (ends_at p s x q t o)) e in
    omega (arith, k p s x, m.moves p s x, same)

-- a job that commits nothing
offline_paired : (ms ns : List SegmentMachine) (js : List Job) (j : Job) (q : Partition) (t : Sequence) (old new : Option Offset)
    → Moves ms ns q t old new → new ≡ old → commit_end j.stage ≡ None → ArePaired ms js → ArePaired ns (js ++ j ∷ [])
offline_paired ms ns js j q t old new m e none k p s x =
    let same = ap (λ (o : Option Offset). one_if (ends_at p s x q t o)) e in
    let nothing = ap (λ (o : Option Offset). one_if (ends_at p s x j.asked.partition j.asked.sequence o)) none
    ∙ ap one_if (and_no ((j.asked.partition.0 == p.0) && (j.asked.sequence.0 == s.0))) in
    omega (arith, k p s x, m.moves p s x, same, nothing, count_push (job_ends_at p s x) js j)

-- a commit job of a machine that becomes COMMITTING
commit_paired : (ms ns : List SegmentMachine) (js : List Job) (j : Job) (q : Partition) (t : Sequence) (old new : Option Offset)
    → Moves ms ns q t old new → old ≡ None → new ≡ commit_end j.stage → j.asked.partition ≡ q → j.asked.sequence ≡ t
    → ArePaired ms js → ArePaired ns (js ++ j ∷ [])
commit_paired ms ns js j q t old new m none e f g k p s x =
    let before = ap (λ (o : Option Offset). one_if (ends_at p s x q t o)) none ∙ ap one_if (and_no ((q.0 == p.0) && (t.0 == s.0))) in
    let after = ap (λ (o : Option Offset). one_if (ends_at p s x q t o)) e in
    let first = ap (λ (y : Partition). one_if (ends_at p s x y j.asked.sequence (commit_end j.stage))) f in
    let second = ap (λ (y : Sequence). one_if (ends_at p s x q y (commit_end j.stage))) g in
    omega (arith, k p s x, m.moves p s x, before, after, first, second, count_push (job_ends_at p s x) js j)

abbrev some_ask : Ask → Option Ask
some_ask a = Some a

commit_starts : (c : Controlling) (r : Request) (ns : List SegmentMachine) (seen : SeenMeta) (what : Ask) (end : Offset) (k : RequestKind)
    (old new : Option Offset) → ask_in r.offset k ≡ some_ask what → what ≡ ask.CommitEnd end
    → Moves c.machines ns r.partition r.sequence old new → old ≡ None → new ≡ Some end → PairedIn c
    → PairedIn (follows_by (record c { machines = ns }) r (commit_stage end (named_in r seen k))).controller
commit_starts c r ns seen what end (kind.Consumed reason) old new asks is m none e p = absurd (cc)
commit_starts c r ns seen what end kind.Stopped old new asks is m none e p = absurd (cc)
commit_starts c r ns seen what end kind.CommitStart old new asks is m none e p = absurd (cc)
commit_starts c r ns seen what end (kind.Upload path bytes) old new asks is m none e p = absurd (cc)
commit_starts c r ns seen what end (kind.CommitEnd path) old new asks is m none e p =
    commit_paired c.machines ns c.jobs (started c r (stage.Check (read_write r seen) end path)) r.partition r.sequence old new m none e refl refl p
commit_starts c r ns seen what end (kind.Extend millis) old new asks is m none e p = absurd (cc)

-- what a reaction leads to
pub follows_paired : (c : Controlling) (r : Request) (ns : List SegmentMachine) (seen : SeenMeta) (m n : Completion) (what : Ask) (y : Reaction)
    → ask_in r.offset r.kind ≡ Some what → Moves c.machines ns r.partition r.sequence (machine_end m) (machine_end n)
    → TurnsTo m what n y → PairedIn c → PairedIn (follows (record c { machines = ns }) r seen y).controller
follows_paired c r ns seen m n what (reaction.Answer answer) asks mv t p =
    still_paired c.machines ns c.jobs r.partition r.sequence (machine_end m) (machine_end n) mv t p
follows_paired c r ns seen m n what (reaction.StartCommit end) asks mv t p =
    commit_starts c r ns seen what end r.kind (machine_end m) (machine_end n) asks t.2 mv t.0 t.1 p
follows_paired c r ns seen m n what reaction.StartOffline asks mv t p =
    offline_paired c.machines ns c.jobs (started c r (stage.IdealRead work.Offline [])) r.partition r.sequence (machine_end m) (machine_end n) mv t refl p

-- ---- without the belief

committing_kept : (s : MachineState) (x : Offset) (b : Bool) (y : ℕ) → (b && is_at y (end_at s x)) ≡ true → is_committing s ≡ true
committing_kept PartialConsuming x b y e = absurd (false≢true (sym (and_no b) ∙ e))
committing_kept Holding x b y e = absurd (false≢true (sym (and_no b) ∙ e))
committing_kept CommitterDecided x b y e = absurd (false≢true (sym (and_no b) ∙ e))
committing_kept CommitterNotified x b y e = absurd (false≢true (sym (and_no b) ∙ e))
committing_kept CommitterUploading x b y e = absurd (false≢true (sym (and_no b) ∙ e))
committing_kept Committing x b y e = refl
committing_kept Committed x b y e = absurd (false≢true (sym (and_no b) ∙ e))
committing_kept Aborted x b y e = absurd (false≢true (sym (and_no b) ∙ e))

abbrev pub commits_now : SegmentMachine → Bool
commits_now m = is_committing m.machine.state

pub spared_paired : (ms : List SegmentMachine) (js : List Job) → ArePaired ms js → ArePaired (filter commits_now ms) js
spared_paired ms js k p s x =
    k p s x
    ∙ sym
    (filter_counts (machine_ends_at p s x) commits_now ms
    (λ m e. committing_kept m.machine.state m.machine.offset ((m.partition.0 == p.0) && (m.sequence.0 == s.0)) x.0 e))

pub spared_one : (ms : List SegmentMachine) → HaveOneMachine ms → HaveOneMachine (filter commits_now ms)
spared_one ms one p s = omega (arith, filter_fewer (is_of p s) commits_now ms, one p s)

-- ---- a job goes on

pub goes_paired : (ms : List SegmentMachine) (js : List Job) (place : ℕ) (j : Job) (to : JobStage) → slice_get js place ≡ Some j
    → commit_end to ≡ commit_end j.stage → ArePaired ms js → ArePaired ms (slice_set js place (at_stage j to))
goes_paired ms js place j to at e k p s x =
    let same = ap (λ (o : Option Offset). one_if (ends_at p s x j.asked.partition j.asked.sequence o)) e in
    omega (arith, k p s x, count_set (job_ends_at p s x) js place j (at_stage j to) at, same)

-- ---- a job ends

all_three : (a b c : Bool) → a ≡ true → b ≡ true → c ≡ true → ((a && b) && c) ≡ true
all_three a b c e f g = ap (λ z. (z && b) && c) e ∙ ap (λ z. (true && z) && c) f ∙ g

pub ends_here : (p : Partition) (s : Sequence) (x : Offset) (end : Option Offset) → end ≡ Some x → ends_at p s x p s end ≡ true
ends_here p s x end e =
    ap (λ (o : Option Offset). ends_at p s x p s o) e
    ∙ all_three (p.0 == p.0) (s.0 == s.0) (x.0 == x.0) (eq-eqb p.0 p.0 refl) (eq-eqb s.0 s.0 refl) (eq-eqb x.0 x.0 refl)

-- there is a COMMITTING machine for a commit job
pub machine_there : (ms : List SegmentMachine) (js : List Job) (place : ℕ) (j : Job) (x : Offset) → slice_get js place ≡ Some j
    → commit_end j.stage ≡ Some x → ArePaired ms js → 1 ≤ count_by (machine_ends_at j.asked.partition j.asked.sequence x) ms
machine_there ms js place j x at e k =
    let p = j.asked.partition in
    let s = j.asked.sequence in
    omega (arith, k p s x, count_remove (job_ends_at p s x) js place j at, ap one_if (ends_here p s x (commit_end j.stage) e))

pub place_there : (ms : List SegmentMachine) (p : Partition) (s : Sequence) (place : ℕ) → machine_place ms p s ≡ Some place
    → (m : SegmentMachine) × (slice_get ms place ≡ Some m) × (is_of p s m ≡ true)
place_there [] p s place e = absurd (none-some place e)
place_there (d ∷ ms) p s place e =
    let found = position-Some (is_of p s) (d ∷ ms) place d e in
    (get_or (d ∷ ms) place d, slice_get-get_or (d ∷ ms) place d found.0, found.1)

one_true : (b : Bool) → 1 ≤ one_if b → b ≡ true
one_true true le = refl
one_true false le = absurd (omega (arith, le))

pub fewer_ends : (p : Partition) (s : Sequence) (x : Offset) (ms : List SegmentMachine) → count_by (machine_ends_at p s x) ms ≤ count_by (is_of p s) ms
fewer_ends p s x ms =
    sum_by-le-sum_by (λ (m : SegmentMachine). one_if (machine_ends_at p s x m)) (λ (m : SegmentMachine). one_if (is_of p s m)) ms
    (λ m. one_and (is_of p s m) (is_at x.0 (machine_end m.machine)))

-- and it is the segment's only one
pub only_machine : (ms : List SegmentMachine) (p : Partition) (s : Sequence) (x : Offset) (place : ℕ) (m : SegmentMachine) → slice_get ms place ≡ Some m
    → is_of p s m ≡ true → HaveOneMachine ms → 1 ≤ count_by (machine_ends_at p s x) ms → machine_ends_at p s x m ≡ true
only_machine ms p s x place m at is one some =
    let others = count_remove (is_of p s) ms place m at in
    let here = ap one_if is in
    one_true (machine_ends_at p s x m)
    (omega (arith, others, here, one p s, some, fewer_ends p s x (remove ms place), count_remove (machine_ends_at p s x) ms place m at))

pub at_some : (o : Option Offset) (x : Offset) → is_at x.0 o ≡ true → o ≡ Some x
at_some None x e = absurd (false≢true e)
at_some (Some y) x e = ap Some (same_offset y x e)

pub record IsMachineAt (p : Partition) (s : Sequence) (x : Offset) (m : SegmentMachine) : Type 0 where
  pub partition : m.partition ≡ p
  pub sequence : m.sequence ≡ s
  pub end : machine_end m.machine ≡ Some x

pub machine_at : (p : Partition) (s : Sequence) (x : Offset) (m : SegmentMachine) → machine_ends_at p s x m ≡ true → IsMachineAt p s x m
machine_at p s x m e =
    let parts = and_parts (is_of p s m) (is_at x.0 (machine_end m.machine)) e in
    let of = and_parts (m.partition.0 == p.0) (m.sequence.0 == s.0) parts.0 in
    record {
      partition = same_partition m.partition p (eqb-true m.partition.0 p.0 of.0);
      sequence = same_sequence m.sequence s (eqb-true m.sequence.0 s.0 of.1);
      end = at_some (machine_end m.machine) x parts.1;
    }

same_ends : (p : Partition) (s : Sequence) (x y : Offset) (j : Job) (m : SegmentMachine) → commit_end j.stage ≡ Some y
    → IsMachineAt j.asked.partition j.asked.sequence y m → machine_ends_at p s x m ≡ job_ends_at p s x j
same_ends p s x y j m e k =
    ap (λ (q : Partition). ends_at p s x q m.sequence (machine_end m.machine)) k.partition
    ∙ ap (λ (t : Sequence). ends_at p s x j.asked.partition t (machine_end m.machine)) k.sequence
    ∙ ap (λ (o : Option Offset). ends_at p s x j.asked.partition j.asked.sequence o) (k.end ∙ sym e)

module _ (ms : List SegmentMachine) (js : List Job) (place : ℕ) (j : Job) (to : JobStage) (at : slice_get js place ≡ Some j)
    (one : HaveOneMachine ms) (k : ArePaired ms js) where
  abbrev left : List Job
  left = remove (slice_set js place (at_stage j to)) place

  left_counts : (p : Partition) (s : Sequence) (x : Offset) → count_by (job_ends_at p s x) left + one_if (job_ends_at p s x j) ≡ count_by (job_ends_at p s x) js
  left_counts p s x =
      ap (λ (l : List Job). count_by (job_ends_at p s x) l + one_if (job_ends_at p s x j)) (remove_set js place (at_stage j to))
      ∙ count_remove (job_ends_at p s x) js place j at

  ends_at_place : (y : Offset) (o : Option ℕ) → commit_end j.stage ≡ Some y → machine_place ms j.asked.partition j.asked.sequence ≡ o
      → ArePaired (without_at ms o) left
  ends_at_place y None e found p s x =
      let q = j.asked.partition in
      let t = j.asked.sequence in
      let m = some_machine ms (machine_there ms js place j y at e k) in
      absurd (omega (arith, machine_there ms js place j y at e k, fewer_ends q t y ms, position_none (is_of q t) ms m found))
    where
      some_machine : (ns : List SegmentMachine) → 1 ≤ count_by (machine_ends_at j.asked.partition j.asked.sequence y) ns → SegmentMachine
      some_machine [] le = absurd (omega (arith, le))
      some_machine (m ∷ ns) le = m
  ends_at_place y (Some here) e found p s x =
      let q = j.asked.partition in
      let t = j.asked.sequence in
      let there = place_there ms q t here found in
      let m = there.0 in
      let is = machine_at q t y m (only_machine ms q t y here m there.1 there.2 one (machine_there ms js place j y at e k)) in
      let same = ap one_if (same_ends p s x y j m e is) in
      omega (arith, k p s x, left_counts p s x, count_remove (machine_ends_at p s x) ms here m there.1, same)

  by_commits : (b : Bool) → commits j.stage ≡ b → ArePaired (without_machine ms j.asked b) left
  by_commits true e =
      let to_end = commits_to j.stage e in
      ends_at_place to_end.0 (machine_place ms j.asked.partition j.asked.sequence) to_end.1 refl
  by_commits false e = λ p s x.
      let none = commits_none j.stage e in
      let nothing = ap (λ (o : Option Offset). one_if (ends_at p s x j.asked.partition j.asked.sequence o)) none
      ∙ ap one_if (and_no ((j.asked.partition.0 == p.0) && (j.asked.sequence.0 == s.0))) in
      omega (arith, k p s x, left_counts p s x, nothing)

  pub ends_paired : ArePaired (without_machine ms j.asked (commits j.stage)) left
  ends_paired = by_commits (commits j.stage) refl

one_left : (ms : List SegmentMachine) (o : Option ℕ) (p : Partition) (s : Sequence) → machine_place ms p s ≡ o → HaveOneMachine ms → HaveOneMachine (without_at ms o)
one_left ms None p s found one = one
one_left ms (Some place) p s found one = λ q t.
    let there = place_there ms p s place found in
    omega (arith, one q t, count_remove (is_of q t) ms place there.0 there.1)

pub without_one : (ms : List SegmentMachine) (a : Asked) (b : Bool) → HaveOneMachine ms → HaveOneMachine (without_machine ms a b)
without_one ms a true one = one_left ms (machine_place ms a.partition a.sequence) a.partition a.sequence refl one
without_one ms a false one = one
