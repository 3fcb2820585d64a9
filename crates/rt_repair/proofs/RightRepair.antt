-- A repair writes what is right, and is right over what was written then.
use Rattle.std.proofs.Common.{◌≡◌, ℕ, ◌-◌, ◌&&◌, nat_lt, not, Bool, cond, List, Option, Some, None, Result, Ok, Err, sym, ◌∙◌, ap, subst}
use Rattle.std.proofs.lemmas.Bool.{cond_both, not-false}
use Rattle.std.proofs.lemmas.Option.{none-some, same_Some}
use Rattle.rt_base.specs.declared.limits.TheConstants.{LAST_NUMBER}
use Rattle.rt_base.specs.declared.numbers.Instance.{Instance}
use Rattle.rt_base.specs.declared.numbers.Moment.{Moment}
use Rattle.rt_base.specs.declared.numbers.Sequence.{Sequence}
use Rattle.rt_names.specs.Minute.{minute_text}
use Rattle.rt_names.specs.Name.{name_of, name_text}
use Rattle.rt_model.specs.declared.decision.Decision.{Decision}
use Rattle.rt_model.specs.declared.decision.Decision.TheVariants as decision
use Rattle.rt_model.specs.declared.ideal_state.IdealEntry.{IdealEntry}
use Rattle.rt_model.specs.declared.ideal_state.IdealState.{IdealState}
use Rattle.rt_model.specs.declared.node.Listed.{Listed}
use Rattle.rt_model.specs.declared.node.Node.{Node}
use Rattle.rt_model.specs.declared.node.Node.TheVariants as node
use Rattle.rt_model.specs.declared.node.Seen.{Seen}
use Rattle.rt_model.specs.declared.setup.Setup.{Setup}
use Rattle.rt_model.specs.declared.status.Status.{Status}
use Rattle.rt_model.specs.declared.status.Status.TheVariants.{InProgress, Done, Abandoned}
use Rattle.rt_model.specs.Entries.{entries_by}
use Rattle.rt_model.specs.Ideal.{has_entry, goes_on, commit_step_of, add_consuming_of, next_sequence}
use Rattle.rt_model.specs.Lawful.{Write, set, written_by}
use Rattle.rt_model.specs.Moments.{later}
use Rattle.rt_model.specs.Repair.{are_offline, decide_open, decide_by, decide_last}
use Rattle.rt_model.specs.Setup.{IsSetup}
use Rattle.rt_assign.specs.Placement.{replicas_of}
use Rattle.rt_store.specs.declared.refused.StoreRefused.{StoreRefused}
use Rattle.rt_store.specs.declared.refused.StoreRefused.TheVariants as refused
use Rattle.rt_store.specs.Answers.{after_call}
use Rattle.rt_store.specs.Calls.{told_on}
use Rattle.rt_store.specs.Contents.{starting_of}
use Rattle.rt_store.specs.Meaning.{Told, Meaning}
use Rattle.rt_store.specs.Memory.{means}
use Rattle.rt_store.proofs.Told.{leaves_on, read_same}
use Rattle.rt_past.specs.IsPast.{IsPast, GrowsRight}
use Rattle.rt_past.specs.Past.{Past, with_history}
use Rattle.rt_past.specs.Segments.{name_at}
use Rattle.rt_past.specs.Writes.{AreRightEntries, IsRightNode, IsRightWrite}
use Rattle.rt_past.proofs.Entries.{commit_right, add_right}
use Rattle.rt_past.proofs.Growth.{grows_same}
use Rattle.rt_past.proofs.Ways.{past_called}
use Rattle.rt_repair.specs.declared.read_node.ReadNode.{ReadNode}
use Rattle.rt_repair.specs.declared.repair.RepairStage.{RepairStage}
use Rattle.rt_repair.specs.declared.repair.RepairStage.TheVariants.{Listing, Reading, Writing, Ended}
use Rattle.rt_repair.specs.declared.repair_step.RepairStep.{RepairStep}
use Rattle.rt_repair.specs.IsRepair.{HasListed, HasIdeal, Remembers, IsRepair}
use Rattle.rt_repair.specs.Lasting.{IsRepairOver, told_past}
use Rattle.rt_repair.specs.ReadNode.{read_node, read_by, last_node, last_follows}
use Rattle.rt_repair.specs.Repairing.{Repairing, goes, decision_at, create_write, abandon_write, ideal_write, added_entries}
use Rattle.rt_repair.specs.RepairSteps.{Stepped, after_list, after_read, with_ideal, abandoned, ideal_set, StepsAt, MaySet, MayDo, MayWriteAt}
use Rattle.rt_repair.specs.Told.{repair_set, repair_done, repair_at, repair_stepped}
use Rattle.rt_repair.proofs.Growing.{repair_ready}
use Rattle.rt_repair.proofs.Keeping.{kept_step}
use Rattle.rt_repair.proofs.LastSegment.{last_segment}
use Rattle.rt_repair.proofs.MayRepair.{IsState, state_read, may_repair}
use Rattle.rt_repair.proofs.Realized.{steps_told}

-- ---- what is written is right

-- a call writes what is right, if it is made
abbrev pub RightCall : Setup → Past → Option Write → Type 0
RightCall setup a None = Unit {0}
RightCall setup a (Some call) = IsRightWrite setup a (written_by a.history call)

abbrev RightDo : Setup → Past → Repairing → Moment → Option ReadNode → Bool → Seen → Decision → Type 0
RightDo setup a r now last follows ideal decision.Nothing = Unit {0}
RightDo setup a r now last follows ideal (decision.Create s start) = RightCall setup a (Some (create_write r now s start last))
RightDo setup a r now last follows ideal (decision.AddToIdeal s) = RightCall setup a (ideal_write r s follows ideal)
RightDo setup a r now last follows ideal (decision.Abandon s) = RightCall setup a (abandon_write now last)

-- the ideal state that was read is right
pub right_state : (setup : Setup) (a : Past) (ideal : Seen) (i : IdealState) → IsPast setup a → IsState a.history ideal i
    → AreRightEntries setup (entries_by ideal.node)
right_state setup a ideal i k state =
    let N : Node → Type 0 = IsRightNode setup a ideal.key in
    let E : List IdealEntry → Type 0 = AreRightEntries setup in
    subst E (sym (ap entries_by state.state)) (subst N state.state (k.writes ideal state.has))

added_right : (setup : Setup) (a : Past) (r : Repairing) (s : Sequence) (follows : Bool) (es : List IdealEntry) → IsRepairOver setup a r
    → AreRightEntries setup es → AreRightEntries setup (added_entries r s follows es)
added_right setup a r s follows es k right =
    let p = r.partition in
    let before : Sequence = record { 0 = s.0 - 1 } in
    let I : List Instance → Type 0 = λ is.
    AreRightEntries setup (cond (follows && nat_lt 0 s.0) (commit_step_of es p before is) (add_consuming_of es p s is)) in
    let is = replicas_of p setup.table.replication setup.servers in
    subst I (sym k.instances)
    (cond_both (follows && nat_lt 0 s.0) (commit_step_of es p before is) (add_consuming_of es p s is) (AreRightEntries setup)
    (λ b. commit_right setup es p before k.within right)
    (λ b. add_right setup es p s k.within right))

right_open : (setup : Setup) (a : Past) (r : Repairing) (now : Moment) (l : Listed) (follows : Bool) (ideal : Seen) (i : IdealState)
    → IsRepairOver setup a r → IsState a.history ideal i → AreRightEntries setup (entries_by ideal.node)
    → RightDo setup a r now (Some (read_node r.partition l)) follows ideal (decide_open r.partition l.sequence (entries_by ideal.node))
right_open setup a r now l follows ideal i k state right =
    let p = r.partition in
    let s = l.sequence in
    let es = entries_by ideal.node in
    let P : Decision → Type 0 = RightDo setup a r now (Some (read_node p l)) follows ideal in
    let rest = cond (are_offline es p s) (decision.Abandon s) decision.Nothing in
    cond_both (not (has_entry es p s)) (decision.AddToIdeal s) rest P
    (λ none.
    cond_both (goes_on es p s.0) (Some (set ideal (node.Ideal (record { entries = added_entries r s follows es })))) None (RightCall setup a)
    (λ on. added_right setup a r s follows es k right)
    (λ off. tt))
    (λ has. cond_both (are_offline es p s) (decision.Abandon s) decision.Nothing P
    (λ off. (ideal, record { has = state.has; is_ideal = state.is_ideal }, not-false (has_entry es p s) has))
    (λ on. tt))

-- a segment that is created has the name of this moment
new_named : (setup : Setup) (a : Past) (r : Repairing) (now : Moment) (s : Sequence) → IsRepairOver setup a r
    → name_text (name_of r.table r.partition.0 s.0 (minute_text now.0)) ≡ name_at setup r.partition s now
new_named setup a r now s k = ap (λ (table : List ℕ). name_text (name_of table r.partition.0 s.0 (minute_text now.0))) k.table

right_by : (setup : Setup) (a : Past) (r : Repairing) (now : Moment) (l : Listed) (follows : Bool) (ideal : Seen) (i : IdealState)
    (status : Status) → IsRepairOver setup a r → IsState a.history ideal i → AreRightEntries setup (entries_by ideal.node)
    → RightDo setup a r now (Some (read_node r.partition l)) follows ideal
    (decide_by r.partition l.sequence (entries_by ideal.node) l.seen.meta status)
right_by setup a r now l follows ideal i InProgress k state right = right_open setup a r now l follows ideal i k state right
right_by setup a r now l follows ideal i (Done commit) k state right = new_named setup a r now (next_sequence l.sequence) k
right_by setup a r now l follows ideal i Abandoned k state right = new_named setup a r now (next_sequence l.sequence) k

right_last : (setup : Setup) (a : Past) (r : Repairing) (now : Moment) (l : Listed) (follows : Bool) (ideal : Seen) (i : IdealState)
    → IsRepairOver setup a r → IsState a.history ideal i → AreRightEntries setup (entries_by ideal.node)
    → RightDo setup a r now (Some (read_node r.partition l)) follows ideal
    (decide_last r.partition (entries_by ideal.node) now r.grace (Some l))
right_last setup a r now l follows ideal i k state right =
    let P : Decision → Type 0 = RightDo setup a r now (Some (read_node r.partition l)) follows ideal in
    let by = decide_by r.partition l.sequence (entries_by ideal.node) l.seen.meta l.seen.meta.status in
    let early = nat_lt now.0 (later l.seen.meta.written r.grace).0 in
    cond_both (not (nat_lt l.sequence.0 LAST_NUMBER)) decision.Nothing (cond early decision.Nothing by) P
    (λ x. tt)
    (λ x. cond_both early decision.Nothing by P (λ y. tt)
    (λ y. right_by setup a r now l follows ideal i l.seen.meta.status k state right))

right_write : (setup : Setup) (a : Past) (r : Repairing) (now : Moment) (last : Option ReadNode) (follows : Bool) (ideal : Seen)
    (h g : List Seen) → IsPast setup a → IsRepairOver setup a r → HasListed (starting_of setup) a.history r.partition last follows h
    → HasIdeal (starting_of setup) a.history h ideal g → RightDo setup a r now last follows ideal (decision_at r now last ideal)
right_write setup a r now last follows ideal h g past k listed read =
    let p = r.partition in
    let l = last_segment (starting_of setup) h p listed.past.lawful k.within in
    let is : last ≡ Some (read_node p l.0) = listed.last ∙ ap (read_by p) l.1.last in
    let state = state_read (starting_of setup) a.history h g ideal read in
    let P : Option ReadNode → Type 0 = λ o. RightDo setup a r now o follows ideal (decision_at r now o ideal) in
    subst P (sym is)
    (right_last setup a r now l.0 follows ideal state.0 k state.1 (right_state setup a ideal state.0 past state.1))

-- ---- the past grows

pub right_same : (setup : Setup) (a : Past) → IsPast setup a → GrowsRight setup a a
right_same setup a k = record { grows = grows_same a; right = k }

pub right_read : (setup : Setup) (past : Past) (t : Told) → IsPast setup (told_past past t)
    → GrowsRight setup (told_past past t) (told_past past (told_on t (λ base. base)))
right_read setup past t k =
    let P : List Seen → Type 0 = λ h. GrowsRight setup (told_past past t) (with_history past h) in
    subst P (sym (read_same t)) (right_same setup (told_past past t) k)

pub right_called : (setup : Setup) (past : Past) (t : Told) (call : Write) → IsPast setup (told_past past t) → MaySet t.writes (Some call)
    → RightCall setup (told_past past t) (Some call) → GrowsRight setup (told_past past t) (told_past past (told_on t (after_call call)))
right_called setup past t call k may right =
    let g = past_called setup (told_past past t) call (told_on t (after_call call)).writes (leaves_on t call) may right k in
    record { grows = g.0; right = g.1 }

right_set : (setup : Setup) (past : Past) (t : Told) (r : Repairing) (tell : Result ℕ StoreRefused → Option RepairStep) (call : Option Write)
    → IsPast setup (told_past past t) → MaySet t.writes call → RightCall setup (told_past past t) call
    → GrowsRight setup (told_past past t) (told_past past (repair_set t r tell call).told)
right_set setup past t r tell None k may right = right_same setup (told_past past t) k
right_set setup past t r tell (Some call) k may right = right_called setup past t call k may right

right_done : (setup : Setup) (past : Past) (t : Told) (r : Repairing) (now : Moment) (last : Option ReadNode) (follows : Bool) (ideal : Seen)
    (d : Decision) → IsPast setup (told_past past t) → MayDo t.writes r now last follows ideal d
    → RightDo setup (told_past past t) r now last follows ideal d
    → GrowsRight setup (told_past past t) (told_past past (repair_done t r now last follows ideal d).told)
right_done setup past t r now last follows ideal decision.Nothing k may right = right_same setup (told_past past t) k
right_done setup past t r now last follows ideal (decision.Create s start) k may right =
    right_called setup past t (create_write r now s start last) k may right
right_done setup past t r now last follows ideal (decision.AddToIdeal s) k may right =
    right_set setup past t r ideal_set (ideal_write r s follows ideal) k may right
right_done setup past t r now last follows ideal (decision.Abandon s) k may right =
    right_set setup past t r (abandoned s) (abandon_write now last) k may right

right_at : (setup : Setup) (past : Past) (t : Told) (r : Repairing) (now : Moment) (stage : RepairStage) → IsPast setup (told_past past t)
    → IsRepairOver setup (told_past past t) r → MayWriteAt t.writes r now stage
    → Remembers (starting_of setup) t.writes r.partition stage
    → GrowsRight setup (told_past past t) (told_past past (repair_at t r now stage).told)
right_at setup past t r now Listing k i may m = right_read setup past t k
right_at setup past t r now (Reading last follows) k i may m = right_read setup past t k
right_at setup past t r now (Writing last follows ideal) k i may (h, g, listed, read) =
    right_done setup past t r now last follows ideal (decision_at r now last ideal) k may
    (right_write setup (told_past past t) r now last follows ideal h g k i listed read)
right_at setup past t r now Ended k i may m = right_same setup (told_past past t) k

pub repair_past : (setup : Setup) (past : Past) (t : Told) (r : Repairing) (now : Moment) → IsSetup setup → IsPast setup (told_past past t)
    → IsRepairOver setup (told_past past t) r
    → GrowsRight setup (told_past past t) (told_past past (repair_stepped t r now).told)
repair_past setup past t r now s k i =
    right_at setup past t r now r.stage k i
    (may_repair (starting_of setup) t.writes r now (repair_ready setup (told_past past t) r s k i)) i.remembers

-- ---- the repair goes on

abbrev GoesTo : Repairing → Repairing → Type 0
GoesTo r after = (stage : RepairStage) × (after ≡ goes r stage)

abbrev gone : Repairing → RepairStage → RepairStep → Stepped
gone r stage did = record { repair = goes r stage; step = did }

goes_to : (r : Repairing) (stage : RepairStage) (did : RepairStep) (x : Stepped) → Some (gone r stage did) ≡ Some x → GoesTo r x.repair
goes_to r stage did x e = (stage, ap (λ (y : Stepped). y.repair) (sym (same_Some (gone r stage did) x e)))

listed_goes : (r : Repairing) (x : Stepped) (answer : Result (List Listed) StoreRefused) → after_list r answer ≡ Some x → GoesTo r x.repair
listed_goes r x (Ok nodes) e = goes_to r (Reading (last_node r.partition nodes) (last_follows nodes)) _ x e
listed_goes r x (Err refused.NoNode) e = goes_to r Ended _ x e
listed_goes r x (Err (refused.Exists found)) e = goes_to r Ended _ x e
listed_goes r x (Err (refused.VersionChanged expected found)) e = goes_to r Ended _ x e
listed_goes r x (Err refused.Failed) e = goes_to r Ended _ x e
listed_goes r x (Err refused.Memory) e = absurd (none-some x e)

read_goes : (r : Repairing) (x : Stepped) (answer : Result Seen StoreRefused) → after_read r answer ≡ Some x → GoesTo r x.repair
read_goes r x (Ok ideal) e = goes_to r (with_ideal r.stage ideal) _ x e
read_goes r x (Err refused.NoNode) e = goes_to r Ended _ x e
read_goes r x (Err (refused.Exists found)) e = goes_to r Ended _ x e
read_goes r x (Err (refused.VersionChanged expected found)) e = goes_to r Ended _ x e
read_goes r x (Err refused.Failed) e = goes_to r Ended _ x e
read_goes r x (Err refused.Memory) e = absurd (none-some x e)

goes_at : (old new : Meaning) (r : Repairing) (now : Moment) (x : Stepped) (stage : RepairStage) → StepsAt old new r now x stage
    → GoesTo r x.repair
goes_at old new r now x Listing (answer, c, e) = listed_goes r x answer e
goes_at old new r now x (Reading last follows) (answer, c, e) = read_goes r x answer e
goes_at old new r now x (Writing last follows ideal) (ended, does) = (Ended, ended)
goes_at old new r now x Ended steps = absurd steps

pub repair_kept : (setup : Setup) (past : Past) (t : Told) (r : Repairing) (now : Moment) (x : Stepped) → IsSetup setup
    → IsPast setup (told_past past t) → IsRepairOver setup (told_past past t) r → (repair_stepped t r now).stepped ≡ Some x
    → IsRepairOver setup (told_past past (repair_stepped t r now).told) x.repair
repair_kept setup past t r now x s k i e =
    let u = (repair_stepped t r now).told in
    let st = starting_of setup in
    let steps = steps_told t r now x r.stage e in
    let did : Result RepairStep (Unit {0}) = Ok x.step in
    let kept = kept_step st (means t) (means u) r now x.repair did (repair_ready setup (told_past past t) r s k i) steps in
    let to = goes_at (means t) (means u) r now x r.stage steps in
    let K : Repairing → Type 0 = IsRepair st u.writes in
    let O : Repairing → Type 0 = IsRepairOver setup (told_past past u) in
    let there = subst K to.1 kept in
    subst O (sym to.1)
    (record { within = i.within; table = i.table; instances = i.instances; grace = i.grace; remembers = there.remembers })
