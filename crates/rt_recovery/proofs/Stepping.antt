-- A step of a repair, where no fault of the store is planned: what it makes of the repair, and of what was written.
use Rattle.std.proofs.Common.{◌≡◌, ◌⊎◌, inl, inr, ℕ, Bool, true, false, cond, List, [], ◌∷◌, ◌++◌, Option, Some, None, Result, Ok, Err, refl, sym, ◌∙◌, ap, subst}
use Rattle.std.proofs.lemmas.Option.{none-some, same_Some}
use Rattle.rt_base.specs.Faults.{answer_under, fault_of}
use Rattle.rt_base.specs.declared.numbers.Moment.{Moment}
use Rattle.rt_base.specs.declared.numbers.Offset.{Offset}
use Rattle.rt_base.specs.declared.numbers.Partition.{Partition}
use Rattle.rt_base.specs.declared.numbers.Sequence.{Sequence}
use Rattle.rt_meta.specs.Lives.{abandoned_of, first_of}
use Rattle.rt_model.specs.Entries.{entries_by, entries_in, entries_of}
use Rattle.rt_model.specs.History.{last_write, value_of}
use Rattle.rt_model.specs.Ideal.{goes_on}
use Rattle.rt_model.specs.Lawful.{set, written_by, IsLawfulHistory, Write}
use Rattle.rt_model.specs.Metadata.{metadata_of}
use Rattle.rt_model.specs.Repair.{last_listed}
use Rattle.rt_model.specs.Starting.{Starting}
use Rattle.rt_model.specs.declared.decision.Decision.{Decision}
use Rattle.rt_model.specs.declared.decision.Decision.TheVariants as decision
use Rattle.rt_model.specs.declared.ideal_state.IdealEntry.{IdealEntry}
use Rattle.rt_model.specs.declared.ideal_state.IdealState.{IdealState}
use Rattle.rt_model.specs.declared.node.Key.TheVariants as key
use Rattle.rt_model.specs.declared.node.Listed.{Listed}
use Rattle.rt_model.specs.declared.node.Node.{Node}
use Rattle.rt_model.specs.declared.node.Node.TheVariants as node
use Rattle.rt_model.specs.declared.node.Seen.{Seen}
use Rattle.rt_model.specs.declared.seg_meta.SegMeta.{SegMeta}
use Rattle.rt_model.proofs.Histories.{Stands-last}
use Rattle.rt_model.proofs.Lawful.{versions_count_writes}
use Rattle.rt_repair.proofs.MayRepair.{state_read}
use Rattle.rt_repair.proofs.Setting.{repair_leaves}
use Rattle.rt_repair.specs.IsRepair.{HasIdeal, HasListed, Remembers}
use Rattle.rt_repair.specs.ReadNode.{last_follows, last_node, read_by, read_node}
use Rattle.rt_repair.specs.RepairSteps.{abandoned, after_list, after_read, created, gone_by, ideal_set, with_ideal, Stepped}
use Rattle.rt_repair.specs.Repairing.{abandon_by, abandon_write, added_entries, create_write, decision_at, goes, ideal_write, Repairing}
use Rattle.rt_repair.specs.Setting.{repair_write, repair_write_at, repair_write_by, writes_after}
use Rattle.rt_repair.specs.Told.{repair_at, repair_done, repair_ended, repair_set, repair_stepped}
use Rattle.rt_repair.specs.declared.read_node.ReadNode.{ReadNode}
use Rattle.rt_repair.specs.declared.repair.RepairStage.{RepairStage}
use Rattle.rt_repair.specs.declared.repair.RepairStage.TheVariants as stage
use Rattle.rt_repair.specs.declared.repair_step.RepairStep.{RepairStep}
use Rattle.rt_repair.specs.declared.repair_step.RepairStep.TheVariants as step
use Rattle.rt_store.specs.Answers.{after_call, answer_of, found_in, listing, reading, refusal_of, Leaves}
use Rattle.rt_store.specs.Calls.{answer_on, told_on}
use Rattle.rt_store.specs.Meaning.{Told}
use Rattle.rt_store.specs.declared.refused.StoreRefused.{StoreRefused}
use Rattle.rt_store.specs.declared.refused.StoreRefused.TheVariants as store
use Rattle.rt_store.proofs.Seeing.{effect_of}
use Rattle.rt_store.proofs.Told.{leaves_on}
use Rattle.rt_heal.proofs.Seeing.{plan_met}
use Rattle.rt_recovery.specs.Mending.{goes_further}
use Rattle.rt_recovery.proofs.Apart.{added_apart, IsApart}
use Rattle.rt_recovery.proofs.Entered.{added_entered, Entered}

-- ---- what a repair goes on to

abbrev pub stepped_to : Repairing → RepairStage → RepairStep → Stepped
stepped_to r at did = record { repair = goes r at; step = did }

-- without a fault a call is answered
pub unfailing : {X : Type 0} (t : Told) (answer : List Seen → Result X StoreRefused) → t.faults.plan ≡ [] → answer_on t answer ≡ answer t.writes
unfailing t answer none = ap (λ (ps : List Bool). answer_under store.Failed (fault_of ps) (answer t.writes)) none

pub lists : (t : Told) (r : Repairing) (now : Moment) → r.stage ≡ stage.Listing → t.faults.plan ≡ []
    → (repair_stepped t r now).stepped
    ≡ Some (stepped_to r (stage.Reading (last_node r.partition (metadata_of t.writes r.partition)) (last_follows (metadata_of t.writes r.partition))) step.Listed)
lists t r now at none =
    ap (λ (s : RepairStage). (repair_at t r now s).stepped) at ∙ ap (after_list r) (unfailing t (listing r.partition) none)

pub reads : (t : Told) (r : Repairing) (now : Moment) (last : Option ReadNode) (follows : Bool) (ideal : Seen) → r.stage ≡ stage.Reading last follows
    → t.faults.plan ≡ [] → value_of t.writes key.Ideal ≡ Some ideal
    → (repair_stepped t r now).stepped ≡ Some (stepped_to r (stage.Writing last follows ideal) step.IdealRead)
reads t r now last follows ideal at none value =
    ap (λ (s : RepairStage). (repair_at t r now s).stepped) at
    ∙ ap (after_read r) (unfailing t (reading key.Ideal) none ∙ ap found_in value)
    ∙ ap (λ (s : RepairStage). Some (stepped_to r (with_ideal s ideal) step.IdealRead)) at

-- ---- what ends it

-- it has ended, and tells no step behind which there is another
pub record HasEnded (r : Repairing) (x : Stepped) : Type 0 where
  pub ended : x.repair ≡ goes r stage.Ended
  pub tells : goes_further x.step ≡ false

abbrev Ends : Option RepairStep → Type 0
Ends o = (did : RepairStep) → o ≡ Some did → goes_further did ≡ false

ends_so : (own : RepairStep) → goes_further own ≡ false → Ends (Some own)
ends_so own e did same = ap goes_further (sym (same_Some own did same)) ∙ e

ends_none : Ends None
ends_none did e = absurd (none-some did e)

ended_by : (r : Repairing) (x : Stepped) (o : Option RepairStep) → Ends o → repair_ended r o ≡ Some x → HasEnded r x
ended_by r x None ends e = absurd (none-some x e)
ended_by r x (Some did) ends e =
    let same = same_Some (stepped_to r stage.Ended did) x e in
    record {
      ended = ap (λ (y : Stepped). y.repair) (sym same);
      tells = ap (λ (y : Stepped). goes_further y.step) (sym same) ∙ ends did refl;
    }

gone_ends : (last : Option ReadNode) → Ends (Some (gone_by last))
gone_ends None = ends_so step.Failed refl
gone_ends (Some l) = ends_so (step.Gone l.sequence) refl

created_ends : (s : Sequence) (last : Option ReadNode) (answer : Result (Unit {0}) StoreRefused) → Ends (created s last answer)
created_ends s last (Ok done) = ends_so (step.Created s) refl
created_ends s last (Err store.NoNode) = gone_ends last
created_ends s last (Err (store.Exists found)) = ends_so (step.Exists s) refl
created_ends s last (Err (store.VersionChanged expected found)) = ends_so (step.Changed expected found) refl
created_ends s last (Err store.Failed) = ends_so step.Failed refl
created_ends s last (Err store.Memory) = ends_none

abandoned_ends : (s : Sequence) (answer : Result ℕ StoreRefused) → Ends (abandoned s answer)
abandoned_ends s (Ok version) = ends_so (step.Abandoned s) refl
abandoned_ends s (Err store.NoNode) = ends_so (step.Gone s) refl
abandoned_ends s (Err (store.Exists found)) = ends_so step.Failed refl
abandoned_ends s (Err (store.VersionChanged expected found)) = ends_so (step.Changed expected found) refl
abandoned_ends s (Err store.Failed) = ends_so step.Failed refl
abandoned_ends s (Err store.Memory) = ends_none

set_ends : (answer : Result ℕ StoreRefused) → Ends (ideal_set answer)
set_ends (Ok version) = ends_so (step.IdealSet version) refl
set_ends (Err store.NoNode) = ends_so step.Failed refl
set_ends (Err (store.Exists found)) = ends_so step.Failed refl
set_ends (Err (store.VersionChanged expected found)) = ends_so (step.Changed expected found) refl
set_ends (Err store.Failed) = ends_so step.Failed refl
set_ends (Err store.Memory) = ends_none

sets_end : (t : Told) (r : Repairing) (x : Stepped) (tell : Result ℕ StoreRefused → Option RepairStep) (call : Option Write)
    → ((answer : Result ℕ StoreRefused) → Ends (tell answer)) → (repair_set t r tell call).stepped ≡ Some x → HasEnded r x
sets_end t r x tell None ends e = ended_by r x (Some step.Nothing) (ends_so step.Nothing refl) e
sets_end t r x tell (Some call) ends e =
    let answer = answer_on t (answer_of (λ w. w.version) call) in ended_by r x (tell answer) (ends answer) e

done_ends : (t : Told) (r : Repairing) (now : Moment) (last : Option ReadNode) (follows : Bool) (ideal : Seen) (d : Decision) (x : Stepped)
    → (repair_done t r now last follows ideal d).stepped ≡ Some x → HasEnded r x
done_ends t r now last follows ideal decision.Nothing x e = ended_by r x (Some step.Nothing) (ends_so step.Nothing refl) e
done_ends t r now last follows ideal (decision.Create s start) x e =
    let answer = answer_on t (answer_of (λ w. tt) (create_write r now s start last)) in
    ended_by r x (created s last answer) (created_ends s last answer) e
done_ends t r now last follows ideal (decision.AddToIdeal s) x e = sets_end t r x ideal_set (ideal_write r s follows ideal) set_ends e
done_ends t r now last follows ideal (decision.Abandon s) x e = sets_end t r x (abandoned s) (abandon_write now last) (abandoned_ends s) e

pub writing_ends : (t : Told) (r : Repairing) (now : Moment) (last : Option ReadNode) (follows : Bool) (ideal : Seen) (x : Stepped)
    → r.stage ≡ stage.Writing last follows ideal → (repair_stepped t r now).stepped ≡ Some x → HasEnded r x
writing_ends t r now last follows ideal x at e =
    done_ends t r now last follows ideal (decision_at r now last ideal) x (sym (ap (λ (s : RepairStage). (repair_at t r now s).stepped) at) ∙ e)

-- ---- no fault is planned

set_plan : (t : Told) (r : Repairing) (tell : Result ℕ StoreRefused → Option RepairStep) (call : Option Write) → t.faults.plan ≡ []
    → (repair_set t r tell call).told.faults.plan ≡ []
set_plan t r tell None none = none
set_plan t r tell (Some call) none = plan_met t.faults none

done_plan : (t : Told) (r : Repairing) (now : Moment) (last : Option ReadNode) (follows : Bool) (ideal : Seen) (d : Decision) → t.faults.plan ≡ []
    → (repair_done t r now last follows ideal d).told.faults.plan ≡ []
done_plan t r now last follows ideal decision.Nothing none = none
done_plan t r now last follows ideal (decision.Create s start) none = plan_met t.faults none
done_plan t r now last follows ideal (decision.AddToIdeal s) none = set_plan t r ideal_set (ideal_write r s follows ideal) none
done_plan t r now last follows ideal (decision.Abandon s) none = set_plan t r (abandoned s) (abandon_write now last) none

pub unplanned_at : (t : Told) (r : Repairing) (now : Moment) (s : RepairStage) → t.faults.plan ≡ [] → (repair_at t r now s).told.faults.plan ≡ []
unplanned_at t r now stage.Listing none = plan_met t.faults none
unplanned_at t r now (stage.Reading last follows) none = plan_met t.faults none
unplanned_at t r now (stage.Writing last follows ideal) none = done_plan t r now last follows ideal (decision_at r now last ideal) none
unplanned_at t r now stage.Ended none = none

-- ---- what is written

-- a node of the partition, at this moment
pub record WritesNode (p : Partition) (now : Moment) (w : Seen) : Type 0 where
  pub number : Sequence
  pub meta : SegMeta
  pub at : w.key ≡ key.Meta p number
  pub is : w.node ≡ node.Meta meta
  pub written : meta.written ≡ now

-- an ideal state with the entries of other partitions as they are, and of each segment that had some
pub record WritesIdeal (p : Partition) (h : List Seen) (w : Seen) : Type 0 where
  pub state : IdealState
  pub at : w.key ≡ key.Ideal
  pub is : w.node ≡ node.Ideal state
  pub apart : IsApart p (entries_of h) state.entries
  pub entered : Entered (entries_of h) state.entries

abbrev pub WritesFor : Partition → Moment → List Seen → Seen → Type 0
WritesFor p now h w = WritesNode p now w ⊎ WritesIdeal p h w

-- nothing, or one such write
abbrev pub HasWritten : Partition → Moment → List Seen → List Seen → Type 0
HasWritten p now h g = (g ≡ h) ⊎ ((w : Seen) × (g ≡ h ++ w ∷ []) × WritesFor p now h w)

-- a call that is carried out
abbrev CallsFor : Partition → Moment → List Seen → Option Write → Type 0
CallsFor p now h None = Unit {0}
CallsFor p now h (Some call) = refusal_of h call ≡ None → WritesFor p now h (written_by h call)

called : (t : Told) (p : Partition) (now : Moment) (call : Option Write) → CallsFor p now t.writes call → HasWritten p now t.writes (writes_after t call)
called t p now None k = inl refl
called t p now (Some call) k = by_leaving (leaves_on t call)
  where
    by_leaving : Leaves call t.writes (told_on t (after_call call)).writes → HasWritten p now t.writes (told_on t (after_call call)).writes
    by_leaving (inl same) = inl same
    by_leaving (inr (free, more)) = inr (written_by t.writes call, more, k free)

module _ (s : Starting) (h : List Seen) (lawful : IsLawfulHistory s h) (r : Repairing) (now : Moment) where
  abbrev p : Partition
  p = r.partition

  creates_for : (at : Sequence) (start : Offset) (last : Option ReadNode) → CallsFor p now h (Some (create_write r now at start last))
  creates_for at start None = λ free. inl (record { number = at; meta = first_of r.table p at start now; at = refl; is = refl; written = refl })
  creates_for at start (Some l) = λ free. inl (record { number = at; meta = first_of r.table p at start now; at = refl; is = refl; written = refl })

  -- the last node that was listed
  abandons_by : (from : Seen) (at : Sequence) → from.key ≡ key.Meta p at → (n : Node) → CallsFor p now h (abandon_by now from n)
  abandons_by from at is (node.Meta m) = λ free. inl (record { number = at; meta = abandoned_of m now; at = is; is = refl; written = refl })
  abandons_by from at is (node.Ideal i) = tt
  abandons_by from at is node.Boot = tt
  abandons_by from at is node.Gone = tt

  some_read : (l n : ReadNode) → Some l ≡ Some n → l ≡ n
  some_read l n e = same_Some l n e

  abandons_for : (last : Option ReadNode) (o : Option Listed) → last ≡ read_by p o → CallsFor p now h (abandon_write now last)
  abandons_for None o e = tt
  abandons_for (Some l) None e = absurd (none-some l (sym e))
  abandons_for (Some l) (Some k) e =
      abandons_by l.seen (record { 0 = k.sequence.0 }) (ap (λ (n : ReadNode). n.seen.key) (some_read l (read_node p k) e)) l.seen.node

  -- the ideal state that was read still stands
  adds_for : (at : Sequence) (follows : Bool) (ideal : Seen) (i : IdealState) (first second : List Seen) → HasIdeal s h first ideal second
      → CallsFor p now h (ideal_write r at follows ideal)
  adds_for at follows ideal i first second read =
      by_test (goes_on (entries_by ideal.node) p at.0)
    where
      es : List IdealEntry
      es = added_entries r at follows (entries_by ideal.node)

      new : IdealState
      new = record { entries = added_entries r at follows (entries_by ideal.node) }

      by_test : (b : Bool)
          → CallsFor p now h (cond b (Some (set ideal (node.Ideal (record { entries = added_entries r at follows (entries_by ideal.node) })))) None)
      by_test false = tt
      by_test true = λ free.
          let state = (state_read s h first second ideal read).1 in
          let stands = effect_of h (set ideal (node.Ideal new)) free in
          let last = Stands-last h ideal (versions_count_writes s h lawful) state.has stands in
          let own : entries_of h ≡ entries_by ideal.node = ap entries_in (ap (last_write h) (sym state.is_ideal) ∙ last.0) in
          inr (record {
            state = new;
            at = state.is_ideal;
            is = refl;
            apart = subst (λ (fs : List IdealEntry). IsApart p fs new.entries) (sym own) (added_apart r at follows (entries_by ideal.node));
            entered = subst (λ (fs : List IdealEntry). Entered fs new.entries) (sym own) (added_entered r at follows (entries_by ideal.node));
          })

  decides_for : (last : Option ReadNode) (follows : Bool) (ideal : Seen) (first second : List Seen) → HasListed s h p last follows first
      → HasIdeal s h first ideal second → (d : Decision) → CallsFor p now h (repair_write_by r now last follows ideal d)
  decides_for last follows ideal first second listed read decision.Nothing = tt
  decides_for last follows ideal first second listed read (decision.Create at start) = creates_for at start last
  decides_for last follows ideal first second listed read (decision.AddToIdeal at) =
      adds_for at follows ideal (state_read s h first second ideal read).0 first second read
  decides_for last follows ideal first second listed read (decision.Abandon at) =
      abandons_for last (last_listed (metadata_of first p)) listed.last

  stage_for : (at : RepairStage) → Remembers s h p at → CallsFor p now h (repair_write_at r now at)
  stage_for stage.Listing k = tt
  stage_for (stage.Reading last follows) k = tt
  stage_for (stage.Writing last follows ideal) (first, second, listed, read) =
      decides_for last follows ideal first second listed read (decision_at r now last ideal)
  stage_for stage.Ended k = tt

-- a step of a repair that remembers what was there
pub repair_writes_for : (s : Starting) (t : Told) (r : Repairing) (now : Moment) → IsLawfulHistory s t.writes → Remembers s t.writes r.partition r.stage
    → HasWritten r.partition now t.writes (repair_stepped t r now).told.writes
repair_writes_for s t r now lawful k =
    subst (HasWritten r.partition now t.writes) (sym (repair_leaves t r now))
    (called t r.partition now (repair_write r now) (stage_for s t.writes lawful r now r.stage k))
