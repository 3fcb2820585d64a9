-- What a call leaves as it was, and that it writes one node at most.
use Rattle.std.proofs.Common.{◌≡◌, inl, inr, ◌+◌, ◌≤◌, List, [], ◌∷◌, length, refl, ap, arith}
use Rattle.std.proofs.lemmas.List.{length-append}
use Rattle.rt_base.specs.declared.numbers.Moment.{Moment}
use Rattle.rt_model.specs.declared.asked.Asked.{Asked}
use Rattle.rt_model.specs.declared.node.Seen.{Seen}
use Rattle.rt_model.specs.Lawful.{Write, set, create_after, written_by}
use Rattle.rt_deep.proofs.Told as deep_told
use Rattle.rt_store.specs.Answers.{Leaves, after_call}
use Rattle.rt_store.specs.Calls.{told_on}
use Rattle.rt_store.specs.Meaning.{Told}
use Rattle.rt_store.proofs.Told.{leaves_on, read_same}
use Rattle.rt_commit.specs.declared.job.JobStage.TheVariants as stage
use Rattle.rt_commit.specs.declared.job.JobStage.{JobStage}
use Rattle.rt_commit.specs.Assignment.{Assigned}
use Rattle.rt_commit.specs.Calls.{Call, calls_nothing, puts, gets, reads, sets, creates}
use Rattle.rt_commit.specs.Job.{call_at}
use Rattle.rt_commit.specs.Told.{ToldDeep, deep_after, store_after}

-- ---- what a call leaves

abbrev pub IsRead : Call → Type 0
IsRead calls_nothing = Unit {0}
IsRead (puts path bytes) = Unit {0}
IsRead (gets path) = Unit {0}
IsRead (reads k) = Unit {0}
IsRead (sets from n) = ⊥
IsRead (creates k n prior) = ⊥

pub read_writes : (t : Told) (call : Call) → IsRead call → (store_after t call).writes ≡ t.writes
read_writes t calls_nothing r = refl
read_writes t (puts path bytes) r = refl
read_writes t (gets path) r = refl
read_writes t (reads k) r = read_same t
read_writes t (sets from n) r = absurd r
read_writes t (creates k n prior) r = absurd r

abbrev pub IsKept : Call → Type 0
IsKept calls_nothing = Unit {0}
IsKept (puts path bytes) = ⊥
IsKept (gets path) = Unit {0}
IsKept (reads k) = Unit {0}
IsKept (sets from n) = Unit {0}
IsKept (creates k n prior) = Unit {0}

pub kept_files : (d : ToldDeep) (call : Call) → IsKept call → (deep_after d call).files ≡ d.files
kept_files d calls_nothing k = refl
kept_files d (puts path bytes) k = absurd k
kept_files d (gets path) k = deep_told.get_same d
kept_files d (reads j) k = refl
kept_files d (sets from n) k = refl
kept_files d (creates j n prior) k = refl

pub stage_keeps : (a : Assigned) (q : Asked) (now : Moment) (s : JobStage) → IsKept (call_at a q now s)
stage_keeps a q now (stage.Check from end path) = tt
stage_keeps a q now (stage.Done from commit) = tt
stage_keeps a q now (stage.Next done) = tt
stage_keeps a q now (stage.IdealRead w found) = tt
stage_keeps a q now (stage.IdealSet w found ideal) = tt
stage_keeps a q now stage.Ended = tt

-- a call writes one node at most
few_left : (call : Write) (base now : List Seen) → Leaves call base now → length now ≤ length base + 1
few_left call base now (inl e) = let same = ap (λ (h : List Seen). length h) e in omega (arith, same)
few_left call base now (inr w) =
    let same = ap (λ (h : List Seen). length h) w.1 in
    omega (arith, same, length-append base (written_by base call ∷ []))

pub few_writes : (t : Told) (call : Call) → length (store_after t call).writes ≤ length t.writes + 1
few_writes t calls_nothing = omega arith
few_writes t (puts path bytes) = omega arith
few_writes t (gets path) = omega arith
few_writes t (reads k) = let same = ap (λ (h : List Seen). length h) (read_same t) in omega (arith, same)
few_writes t (sets from n) = few_left (set from n) t.writes (told_on t (after_call (set from n))).writes (leaves_on t (set from n))
few_writes t (creates k n prior) =
    let call = create_after k n prior in
    few_left call t.writes (told_on t (after_call call)).writes (leaves_on t call)
