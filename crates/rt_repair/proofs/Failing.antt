-- A repair fails only by a fault of its store.
use Rattle.std.proofs.Common.{◌≡◌, ℕ, ◌<◌, Bool, true, false, cond, List, Option, Some, None, Result, Ok, Err, IfOk, ◌∙◌, ap}
use Rattle.rt_base.specs.declared.numbers.Moment.{Moment}
use Rattle.rt_base.specs.declared.numbers.Sequence.{Sequence}
use Rattle.rt_base.specs.declared.numbers.Offset.{Offset}
use Rattle.rt_model.specs.declared.decision.Decision.{Decision}
use Rattle.rt_model.specs.declared.decision.Decision.TheVariants as decision
use Rattle.rt_model.specs.declared.node.Key.TheVariants as key
use Rattle.rt_model.specs.declared.node.Listed.{Listed}
use Rattle.rt_model.specs.declared.node.Node.{Node}
use Rattle.rt_model.specs.declared.node.Node.TheVariants as node
use Rattle.rt_model.specs.declared.node.Seen.{Seen}
use Rattle.rt_model.specs.Entries.{entries_by}
use Rattle.rt_model.specs.Ideal.{goes_on}
use Rattle.rt_model.specs.Lawful.{set, IsLawfulHistory}
use Rattle.rt_model.specs.Starting.{Starting}
use Rattle.rt_store.specs.declared.refused.StoreRefused.{StoreRefused}
use Rattle.rt_store.specs.declared.refused.StoreRefused.TheVariants.{NoNode, Exists, VersionChanged, Failed, Memory}
use Rattle.rt_store.specs.Calls.{Reads, Lists, Writes, WritesVersion}
use Rattle.rt_store.specs.Meaning.{Meaning}
use Rattle.rt_store.proofs.Told.{list_rose, read_rose, write_rose}
use Rattle.rt_repair.specs.declared.read_node.ReadNode.{ReadNode}
use Rattle.rt_repair.specs.declared.repair.RepairStage.{RepairStage}
use Rattle.rt_repair.specs.declared.repair.RepairStage.TheVariants.{Listing, Reading, Writing, Ended}
use Rattle.rt_repair.specs.declared.repair_step.RepairStep.{RepairStep}
use Rattle.rt_repair.specs.declared.repair_step.RepairStep.TheVariants as step
use Rattle.rt_repair.specs.IsRepair.{Remembers, IsRepair}
use Rattle.rt_repair.specs.Repairing.{Repairing, create_write, ideal_write, abandon_write, abandon_by, added_entries, decision_at}
use Rattle.rt_repair.specs.RepairSteps.{Stepped, after_list, after_read, created, abandoned, ideal_set, Sets, Does, StepsAt, Steps}
use Rattle.rt_repair.proofs.MayRepair.{state_read}
use Rattle.rt_store.proofs.Refusals.{list_no_node, list_exists, list_changed, read_no_node, read_exists, read_changed, set_exists, set_no_node, create_no_node}

abbrev Rose : Meaning → Meaning → Type 0
Rose old new = old.faults < new.faults

abbrev told : RepairStep → Option RepairStep
told did = Some did

failed_list :
    (old new : Meaning) (r : Repairing) (x : Stepped) (answer : Result (List Listed) StoreRefused)
    → Lists old new r.partition answer → after_list r answer ≡ Some x → x.step ≡ step.Failed → Rose old new
failed_list old new r x (Ok nodes) c e f = absurd (cc)
failed_list old new r x (Err NoNode) c e f = absurd (list_no_node old new r.partition c)
failed_list old new r x (Err (Exists found)) c e f = absurd (list_exists old new r.partition found c)
failed_list old new r x (Err (VersionChanged expected found)) c e f = absurd (list_changed old new r.partition expected found c)
failed_list old new r x (Err Failed) c e f = list_rose old new r.partition c
failed_list old new r x (Err Memory) c e f = absurd (cc)

failed_read :
    (s : Starting) (old new : Meaning) (r : Repairing) (x : Stepped) (answer : Result Seen StoreRefused)
    → IsLawfulHistory s old.seen → Reads old new key.Ideal answer → after_read r answer ≡ Some x → x.step ≡ step.Failed
    → Rose old new
failed_read s old new r x (Ok ideal) l c e f = absurd (cc)
failed_read s old new r x (Err NoNode) l c e f = absurd (read_no_node s old new l c)
failed_read s old new r x (Err (Exists found)) l c e f = absurd (read_exists old new key.Ideal found c)
failed_read s old new r x (Err (VersionChanged expected found)) l c e f = absurd (read_changed old new key.Ideal expected found c)
failed_read s old new r x (Err Failed) l c e f = read_rose old new key.Ideal c
failed_read s old new r x (Err Memory) l c e f = absurd (cc)

failed_create :
    (old new : Meaning) (r : Repairing) (now : Moment) (t : Sequence) (o : Offset) (last : Option ReadNode)
    (answer : Result (Unit {0}) StoreRefused) → Writes old new (create_write r now t o last) answer
    → created t last answer ≡ told step.Failed → Rose old new
failed_create old new r now t o last (Ok done) c e = absurd (cc)
failed_create old new r now t o None (Err NoNode) c e = absurd (create_no_node old new _ _ c)
failed_create old new r now t o (Some n) (Err NoNode) c e = absurd (cc)
failed_create old new r now t o last (Err (Exists found)) c e = absurd (cc)
failed_create old new r now t o last (Err (VersionChanged expected found)) c e = absurd (cc)
failed_create old new r now t o last (Err Failed) c e = write_rose (λ w. tt) old new (create_write r now t o last) c
failed_create old new r now t o last (Err Memory) c e = absurd (cc)

failed_abandon :
    (old new : Meaning) (t : Sequence) (from : Seen) (n : Node) (answer : Result ℕ StoreRefused)
    → WritesVersion old new (set from n) answer → abandoned t answer ≡ told step.Failed → Rose old new
failed_abandon old new t from n (Ok version) c e = absurd (cc)
failed_abandon old new t from n (Err NoNode) c e = absurd (cc)
failed_abandon old new t from n (Err (Exists found)) c e = absurd (set_exists old new from n found c)
failed_abandon old new t from n (Err (VersionChanged expected found)) c e = absurd (cc)
failed_abandon old new t from n (Err Failed) c e = write_rose (λ w. w.version) old new (set from n) c
failed_abandon old new t from n (Err Memory) c e = absurd (cc)

failed_set :
    (s : Starting) (old new : Meaning) (from : Seen) (n : Node) (answer : Result ℕ StoreRefused)
    → IsLawfulHistory s old.seen → from.key ≡ key.Ideal
    → WritesVersion old new (set from n) answer → ideal_set answer ≡ told step.Failed → Rose old new
failed_set s old new from n (Ok version) l at c e = absurd (cc)
failed_set s old new from n (Err NoNode) l at c e = absurd (set_no_node s old new from n l at c)
failed_set s old new from n (Err (Exists found)) l at c e = absurd (set_exists old new from n found c)
failed_set s old new from n (Err (VersionChanged expected found)) l at c e = absurd (cc)
failed_set s old new from n (Err Failed) l at c e = write_rose (λ w. w.version) old new (set from n) c
failed_set s old new from n (Err Memory) l at c e = absurd (cc)

nothing_failed : (did : RepairStep) → did ≡ step.Nothing → did ≡ step.Failed → ⊥
nothing_failed did e f = absurd (cc)

failed_abandon_by :
    (old new : Meaning) (now : Moment) (t : Sequence) (from : Seen) (n : Node) (did : RepairStep) → did ≡ step.Failed
    → Sets old new (abandoned t) (abandon_by now from n) did → Rose old new
failed_abandon_by old new now t from (node.Meta m) did f (answer, c, e) =
    failed_abandon old new t from _ answer c (e ∙ ap told f)
failed_abandon_by old new now t from (node.Ideal i) did f x = absurd (nothing_failed did x.1 f)
failed_abandon_by old new now t from node.Boot did f x = absurd (nothing_failed did x.1 f)
failed_abandon_by old new now t from node.Gone did f x = absurd (nothing_failed did x.1 f)

failed_abandons :
    (old new : Meaning) (now : Moment) (t : Sequence) (last : Option ReadNode) (did : RepairStep) → did ≡ step.Failed
    → Sets old new (abandoned t) (abandon_write now last) did → Rose old new
failed_abandons old new now t None did f x = absurd (nothing_failed did x.1 f)
failed_abandons old new now t (Some last) did f x = failed_abandon_by old new now t last.seen last.seen.node did f x

failed_adds :
    (s : Starting) (old new : Meaning) (r : Repairing) (t : Sequence) (follows : Bool) (ideal : Seen) (did : RepairStep)
    → IsLawfulHistory s old.seen → ideal.key ≡ key.Ideal → did ≡ step.Failed
    → Sets old new ideal_set (ideal_write r t follows ideal) did → Rose old new
failed_adds s old new r t follows ideal did l at f x = by_test (goes_on (entries_by ideal.node) r.partition t.0) x
  where
    by_test :
        (b : Bool)
        → Sets old new ideal_set (cond b (Some (set ideal (node.Ideal (record { entries = added_entries r t follows (entries_by ideal.node) })))) None) did
        → Rose old new
    by_test true (answer, c, e) = failed_set s old new ideal _ answer l at c (e ∙ ap told f)
    by_test false y = absurd (nothing_failed did y.1 f)

failed_does :
    (s : Starting) (old new : Meaning) (r : Repairing) (now : Moment) (last : Option ReadNode) (follows : Bool) (ideal : Seen)
    (did : RepairStep) (d : Decision) → IsLawfulHistory s old.seen → ideal.key ≡ key.Ideal → did ≡ step.Failed
    → Does old new r now last follows ideal did d → Rose old new
failed_does s old new r now last follows ideal did decision.Nothing l at f x = absurd (nothing_failed did x.1 f)
failed_does s old new r now last follows ideal did (decision.Create t o) l at f (answer, c, e) =
    failed_create old new r now t o last answer c (e ∙ ap told f)
failed_does s old new r now last follows ideal did (decision.AddToIdeal t) l at f x =
    failed_adds s old new r t follows ideal did l at f x
failed_does s old new r now last follows ideal did (decision.Abandon t) l at f x =
    failed_abandons old new now t last did f x

failed_at :
    (s : Starting) (old new : Meaning) (r : Repairing) (now : Moment) (x : Stepped) (stage : RepairStage)
    → IsLawfulHistory s old.seen → Remembers s old.seen r.partition stage → StepsAt old new r now x stage → x.step ≡ step.Failed
    → Rose old new
failed_at s old new r now x Listing l m (answer, c, e) f = failed_list old new r x answer c e f
failed_at s old new r now x (Reading last follows) l m (answer, c, e) f = failed_read s old new r x answer l c e f
failed_at s old new r now x (Writing last follows ideal) l (h, g, listed, read) (ended, does) f =
    let state = state_read s old.seen h g ideal read in
    failed_does s old new r now last follows ideal x.step (decision_at r now last ideal) l state.1.is_ideal f does
failed_at s old new r now x Ended l m steps f = absurd steps

-- what was done failed
abbrev pub FailsBy : {E : Type 0} → Meaning → Meaning → Result RepairStep E → Type 0
FailsBy old new result = IfOk result (λ did. did ≡ step.Failed → old.faults < new.faults)

pub failed_step :
    {E : Type 0} (s : Starting) (old new : Meaning) (r : Repairing) (now : Moment) (after : Repairing)
    (result : Result RepairStep E) → IsRepair s old.seen r → Steps old new r now after result → FailsBy old new result
failed_step s old new r now after (Ok did) i steps =
    failed_at s old new r now (record { repair = after; step = did }) r.stage i.lawful i.remembers steps
failed_step s old new r now after (Err e) i steps = tt
