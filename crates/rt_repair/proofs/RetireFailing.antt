-- A retirement fails only by a fault of its store.
use Rattle.std.proofs.Common.{◌≡◌, ℕ, ◌<◌, List, Option, Some, None, Result, Ok, Err, IfOk, ◌∙◌, ap}
use Rattle.rt_base.specs.declared.numbers.Moment.{Moment}
use Rattle.rt_base.specs.declared.numbers.Sequence.{Sequence}
use Rattle.rt_model.specs.declared.node.Key.TheVariants as key
use Rattle.rt_model.specs.declared.node.Listed.{Listed}
use Rattle.rt_model.specs.declared.node.Node.{Node}
use Rattle.rt_model.specs.declared.node.Seen.{Seen}
use Rattle.rt_model.specs.Lawful.{set, delete, IsLawfulHistory}
use Rattle.rt_model.specs.Starting.{Starting}
use Rattle.rt_store.specs.declared.refused.StoreRefused.{StoreRefused}
use Rattle.rt_store.specs.declared.refused.StoreRefused.TheVariants.{NoNode, Exists, VersionChanged, Failed, Memory}
use Rattle.rt_store.specs.Calls.{Reads, Lists, Writes, WritesVersion}
use Rattle.rt_store.specs.Meaning.{Meaning}
use Rattle.rt_store.proofs.Told.{list_rose, read_rose, write_rose}
use Rattle.rt_repair.specs.declared.read_node.ReadNode.{ReadNode}
use Rattle.rt_repair.specs.declared.retirement.RetireStage.{RetireStage}
use Rattle.rt_repair.specs.declared.retirement.RetireStage.TheVariants.{Listing, Reading, Writing, Ended}
use Rattle.rt_repair.specs.declared.retiring.RetireStep.{RetireStep}
use Rattle.rt_repair.specs.declared.retiring.RetireStep.TheVariants as step
use Rattle.rt_repair.specs.declared.retiring.Retiring.{Retiring}
use Rattle.rt_repair.specs.declared.retiring.Retiring.TheVariants as retiring
use Rattle.rt_repair.specs.IsRetire.{Remembers, IsRetire}
use Rattle.rt_repair.specs.Retirement.{Retirement, delete_write, retiring_at}
use Rattle.rt_repair.specs.RetireSteps.{Stepped, after_list, after_read, removed, deleted, Deletes, Does, StepsAt, Steps}
use Rattle.rt_repair.proofs.MayRepair.{state_read}
use Rattle.rt_store.proofs.Refusals.{list_no_node, list_exists, list_changed, read_no_node, read_exists, read_changed, set_exists, set_no_node, delete_exists}

abbrev Rose : Meaning → Meaning → Type 0
Rose old new = old.faults < new.faults

abbrev told : RetireStep → Option RetireStep
told did = Some did

failed_list :
    (old new : Meaning) (r : Retirement) (x : Stepped) (answer : Result (List Listed) StoreRefused)
    → Lists old new r.partition answer → after_list r answer ≡ Some x → x.step ≡ step.Failed → Rose old new
failed_list old new r x (Ok nodes) c e f = absurd (cc)
failed_list old new r x (Err NoNode) c e f = absurd (list_no_node old new r.partition c)
failed_list old new r x (Err (Exists found)) c e f = absurd (list_exists old new r.partition found c)
failed_list old new r x (Err (VersionChanged expected found)) c e f = absurd (list_changed old new r.partition expected found c)
failed_list old new r x (Err Failed) c e f = list_rose old new r.partition c
failed_list old new r x (Err Memory) c e f = absurd (cc)

failed_read :
    (s : Starting) (old new : Meaning) (r : Retirement) (x : Stepped) (answer : Result Seen StoreRefused)
    → IsLawfulHistory s old.seen → Reads old new key.Ideal answer → after_read r answer ≡ Some x → x.step ≡ step.Failed
    → Rose old new
failed_read s old new r x (Ok ideal) l c e f = absurd (cc)
failed_read s old new r x (Err NoNode) l c e f = absurd (read_no_node s old new l c)
failed_read s old new r x (Err (Exists found)) l c e f = absurd (read_exists old new key.Ideal found c)
failed_read s old new r x (Err (VersionChanged expected found)) l c e f = absurd (read_changed old new key.Ideal expected found c)
failed_read s old new r x (Err Failed) l c e f = read_rose old new key.Ideal c
failed_read s old new r x (Err Memory) l c e f = absurd (cc)

failed_remove :
    (s : Starting) (old new : Meaning) (t : Sequence) (from : Seen) (n : Node) (answer : Result ℕ StoreRefused)
    → IsLawfulHistory s old.seen → from.key ≡ key.Ideal
    → WritesVersion old new (set from n) answer → removed t answer ≡ told step.Failed → Rose old new
failed_remove s old new t from n (Ok version) l at c e = absurd (cc)
failed_remove s old new t from n (Err NoNode) l at c e = absurd (set_no_node s old new from n l at c)
failed_remove s old new t from n (Err (Exists found)) l at c e = absurd (set_exists old new from n found c)
failed_remove s old new t from n (Err (VersionChanged expected found)) l at c e = absurd (cc)
failed_remove s old new t from n (Err Failed) l at c e = write_rose (λ w. w.version) old new (set from n) c
failed_remove s old new t from n (Err Memory) l at c e = absurd (cc)

failed_delete :
    (old new : Meaning) (t : Sequence) (from : Seen) (answer : Result (Unit {0}) StoreRefused)
    → Writes old new (delete from) answer → deleted t answer ≡ told step.Failed → Rose old new
failed_delete old new t from (Ok done) c e = absurd (cc)
failed_delete old new t from (Err NoNode) c e = absurd (cc)
failed_delete old new t from (Err (Exists found)) c e = absurd (delete_exists old new from found c)
failed_delete old new t from (Err (VersionChanged expected found)) c e = absurd (cc)
failed_delete old new t from (Err Failed) c e = write_rose (λ w. tt) old new (delete from) c
failed_delete old new t from (Err Memory) c e = absurd (cc)

nothing_failed : (did : RetireStep) → did ≡ step.Nothing → did ≡ step.Failed → ⊥
nothing_failed did e f = absurd (cc)

failed_deletes :
    (old new : Meaning) (t : Sequence) (lowest : Option ReadNode) (did : RetireStep) → did ≡ step.Failed
    → Deletes old new t (delete_write lowest) did → Rose old new
failed_deletes old new t None did f x = absurd (nothing_failed did x.1 f)
failed_deletes old new t (Some lowest) did f (answer, c, e) = failed_delete old new t lowest.seen answer c (e ∙ ap told f)

failed_does :
    (s : Starting) (old new : Meaning) (r : Retirement) (lowest : Option ReadNode) (ideal : Seen)
    (did : RetireStep) (d : Retiring) → IsLawfulHistory s old.seen → ideal.key ≡ key.Ideal → did ≡ step.Failed
    → Does old new r lowest ideal did d → Rose old new
failed_does s old new r lowest ideal did retiring.Nothing l at f x = absurd (nothing_failed did x.1 f)
failed_does s old new r lowest ideal did (retiring.Remove t) l at f (answer, c, e) =
    failed_remove s old new t ideal _ answer l at c (e ∙ ap told f)
failed_does s old new r lowest ideal did (retiring.Delete t) l at f x = failed_deletes old new t lowest did f x

failed_at :
    (s : Starting) (old new : Meaning) (r : Retirement) (now : Moment) (x : Stepped) (stage : RetireStage)
    → IsLawfulHistory s old.seen → Remembers s old.seen r.partition stage → StepsAt old new r now x stage → x.step ≡ step.Failed
    → Rose old new
failed_at s old new r now x Listing l m (answer, c, e) f = failed_list old new r x answer c e f
failed_at s old new r now x (Reading lowest) l m (answer, c, e) f = failed_read s old new r x answer l c e f
failed_at s old new r now x (Writing lowest ideal) l (h, g, listed, read) (ended, does) f =
    let state = state_read s old.seen h g ideal read in
    failed_does s old new r lowest ideal x.step (retiring_at r now lowest ideal) l state.1.is_ideal f does
failed_at s old new r now x Ended l m steps f = absurd steps

-- what was done failed
abbrev pub FailsBy : {E : Type 0} → Meaning → Meaning → Result RetireStep E → Type 0
FailsBy old new result = IfOk result (λ did. did ≡ step.Failed → old.faults < new.faults)

pub failed_step :
    {E : Type 0} (s : Starting) (old new : Meaning) (r : Retirement) (now : Moment) (after : Retirement)
    (result : Result RetireStep E) → IsRetire s old.seen r → Steps old new r now after result → FailsBy old new result
failed_step s old new r now after (Ok did) i steps =
    failed_at s old new r now (record { retire = after; step = did }) r.stage i.lawful i.remembers steps
failed_step s old new r now after (Err e) i steps = tt
