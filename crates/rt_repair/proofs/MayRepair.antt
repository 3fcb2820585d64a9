-- What a repair remembers makes its write lawful.
use Rattle.std.proofs.Common.{◌≡◌, ℕ, ◌+◌, ◌-◌, ◌<◌, ◌&&◌, nat_lt, not, Bool, true, false, cond, List, Option, Some, None, refl, sym, ◌∙◌, ap, subst, arith}
use Rattle.std.proofs.lemmas.Bool.{ltb-true, and_parts, cond_both}
use Rattle.rt_base.specs.declared.limits.TheConstants.{LAST_NUMBER}
use Rattle.rt_base.specs.declared.numbers.Moment.{Moment}
use Rattle.rt_base.specs.declared.numbers.Partition.{Partition}
use Rattle.rt_base.specs.declared.numbers.Sequence.{Sequence}
use Rattle.rt_lists.specs.Members.{Has}
use Rattle.rt_lists.proofs.Members.{Has-front}
use Rattle.rt_model.specs.declared.decision.Decision.{Decision}
use Rattle.rt_model.specs.declared.decision.Decision.TheVariants.{Nothing, AddToIdeal, Abandon}
use Rattle.rt_model.specs.declared.ideal_state.IdealEntry.{IdealEntry}
use Rattle.rt_model.specs.declared.ideal_state.IdealState.{IdealState}
use Rattle.rt_model.specs.declared.node.Key.{Key}
use Rattle.rt_model.specs.declared.node.Key.TheVariants as key
use Rattle.rt_model.specs.declared.node.Listed.{Listed}
use Rattle.rt_model.specs.declared.node.Node.{Node}
use Rattle.rt_model.specs.declared.node.Node.TheVariants as node
use Rattle.rt_model.specs.declared.node.Seen.{Seen}
use Rattle.rt_model.specs.declared.status.Status.{Status}
use Rattle.rt_model.specs.declared.status.Status.TheVariants.{InProgress, Done, Abandoned}
use Rattle.rt_model.specs.Entries.{entries_by}
use Rattle.rt_model.specs.Ideal.{has_entry, goes_on, commit_step_of, add_consuming_of}
use Rattle.rt_model.specs.Lawful.{set, IsIdealStep, commits, adds, Sets, StepsIdeal, IsLawful}
use Rattle.rt_model.specs.Metadata.{metadata_of, listed_write, StartsAfter, IsInProgress, IsCreated, BecameDone}
use Rattle.rt_model.specs.Moments.{later}
use Rattle.rt_model.specs.Order.{AreDistinct}
use Rattle.rt_model.specs.Repair.{are_offline, decide_open, decide_by, decide_last}
use Rattle.rt_model.specs.Starting.{Starting}
use Rattle.rt_model.proofs.Lawful.{has_ideal_state}
use Rattle.rt_model.proofs.Listings.{listed_has}
use Rattle.rt_store.proofs.Listing.{value_has}
use Rattle.rt_repair.specs.declared.read_node.ReadNode.{ReadNode}
use Rattle.rt_repair.specs.declared.repair.RepairStage.{RepairStage}
use Rattle.rt_repair.specs.declared.repair.RepairStage.TheVariants.{Listing, Reading, Writing, Ended}
use Rattle.rt_repair.specs.IsRepair.{HasListed, HasIdeal, Remembers, IsRepair}
use Rattle.rt_repair.specs.ReadNode.{read_node, read_by, follows_by, follows_done}
use Rattle.rt_repair.specs.Repairing.{Repairing, added_entries, ideal_write, decision_at}
use Rattle.rt_repair.specs.RepairSteps.{MaySet, MayDo, MayWriteAt}
use Rattle.rt_repair.proofs.LastSegment.{IsLast, last_segment, before_of}

abbrev sequence_at : ℕ → Sequence
sequence_at n = record { 0 = n }

-- ---- the ideal state that was read

-- a write of the ideal state that was seen
pub record IsState (seen : List Seen) (ideal : Seen) (i : IdealState) : Type 0 where
  pub has : Has seen ideal
  pub is_ideal : ideal.key ≡ key.Ideal
  pub state : ideal.node ≡ node.Ideal i

abbrev some_write : Seen → Option Seen
some_write w = Some w

same_write : (v w : Seen) → some_write v ≡ some_write w → v ≡ w
same_write v w e = cc

pub state_read :
    (s : Starting) (seen h g : List Seen) (ideal : Seen) → HasIdeal s seen h ideal g
    → (i : IdealState) × IsState seen ideal i
state_read s seen h g ideal read =
    let there = has_ideal_state s g read.past.lawful in
    let same : there.0 ≡ ideal = same_write there.0 ideal (sym there.2 ∙ read.value) in
    let has = value_has g key.Ideal ideal read.value in (
      there.1,
      record {
        has = Has-front g seen ideal read.past.front has.0;
        is_ideal = has.1;
        state = ap (λ (w : Seen). w.node) (sym same) ∙ there.3;
      },
    )

-- ---- entries are added

-- the segment before this one is seen Done
abbrev Follows : List Seen → Partition → Sequence → Type 0
Follows seen p s = (t : ℕ) × (t + 1 ≡ s.0) × BecameDone seen p t

adds_lawfully :
    (seen : List Seen) (r : Repairing) (s : Sequence) (follows : Bool) (es fs : List IdealEntry)
    → AreDistinct r.instances → IsCreated seen r.partition s.0 → (follows ≡ true → Follows seen r.partition s)
    → fs ≡ added_entries r s follows es → IsIdealStep seen es fs
adds_lawfully seen r s follows es fs distinct created before e = at_test (follows && nat_lt 0 s.0) refl e
  where
    at_test :
        (b : Bool) → (follows && nat_lt 0 s.0) ≡ b
        → fs ≡ cond b (commit_step_of es r.partition (sequence_at (s.0 - 1)) r.instances) (add_consuming_of es r.partition s r.instances)
        → IsIdealStep seen es fs
    at_test true h d =
        let parts = and_parts follows (nat_lt 0 s.0) h in
        let past : 0 < s.0 = ltb-true 0 s.0 parts.1 in
        let done = before parts.0 in
        let at : done.0 ≡ s.0 - 1 = omega (arith, done.1) in
        let next : s.0 ≡ (s.0 - 1) + 1 = omega (arith, past) in
        let P : ℕ → Type 0 = BecameDone seen r.partition in
        let Q : ℕ → Type 0 = IsCreated seen r.partition in
        commits r.partition (sequence_at (s.0 - 1)) r.instances distinct (subst P at done.2) (subst Q next created) d
    at_test false h d = adds r.partition s r.instances distinct created d

pub sets_lawfully :
    (seen : List Seen) (ideal : Seen) (i : IdealState) (fs : List IdealEntry) → IsState seen ideal i
    → IsIdealStep seen (entries_by ideal.node) fs → IsLawful seen (set ideal (node.Ideal (record { entries = fs })))
sets_lawfully seen ideal i fs state step =
    let at_entries : List IdealEntry → Type 0 = λ es. IsIdealStep seen es fs in
    let at_node : Node → Type 0 = λ n. StepsIdeal seen n (node.Ideal (record { entries = fs })) in
    let at_key : Key → Type 0 = λ k. Sets seen k ideal.node (node.Ideal (record { entries = fs })) in (
      state.has,
      subst at_key (sym state.is_ideal)
          (subst at_node (sym state.state) (subst at_entries (ap entries_by state.state) step)),
    )

may_add :
    (seen : List Seen) (r : Repairing) (s : Sequence) (follows : Bool) (ideal : Seen) (i : IdealState)
    → AreDistinct r.instances → IsCreated seen r.partition s.0 → (follows ≡ true → Follows seen r.partition s)
    → IsState seen ideal i → MaySet seen (ideal_write r s follows ideal)
may_add seen r s follows ideal i distinct created before state =
    let es = entries_by ideal.node in
    cond_both (goes_on es r.partition s.0)
    (Some (set ideal (node.Ideal (record { entries = added_entries r s follows es }))))
    None
    (MaySet seen)
    (λ on. sets_lawfully seen ideal i (added_entries r s follows es) state
    (adds_lawfully seen r s follows es (added_entries r s follows es) distinct created before refl))
    (λ off. tt)

-- ---- the decision

-- what is known of the last segment and of what was read with it
pub record Knows (seen : List Seen) (r : Repairing) (l : Listed) (follows : Bool) (ideal : Seen) : Type 0 where
  pub has : Has seen (listed_write r.partition l)
  pub before : follows ≡ true → Follows seen r.partition l.sequence
  pub distinct : AreDistinct r.instances
  pub state : (i : IdealState) × IsState seen ideal i

abbrev Lawfully : List Seen → Repairing → Moment → Listed → Bool → Seen → Decision → Type 0
Lawfully seen r now l follows ideal d = MayDo seen r now (Some (read_node r.partition l)) follows ideal d

may_open :
    (seen : List Seen) (r : Repairing) (now : Moment) (l : Listed) (follows : Bool) (ideal : Seen) (es : List IdealEntry)
    → Knows seen r l follows ideal → IsInProgress l.seen.meta.status
    → Lawfully seen r now l follows ideal (decide_open r.partition l.sequence es)
may_open seen r now l follows ideal es k starts =
    let P : Decision → Type 0 = Lawfully seen r now l follows ideal in
    let rest = cond (are_offline es r.partition l.sequence) (Abandon l.sequence) Nothing in
    let created : IsCreated seen r.partition l.sequence.0 = (listed_write r.partition l, k.has, refl, starts) in
    cond_both (not (has_entry es r.partition l.sequence)) (AddToIdeal l.sequence) rest P
    (λ a. may_add seen r l.sequence follows ideal k.state.0 k.distinct created k.before k.state.1)
    (λ b. cond_both (are_offline es r.partition l.sequence) (Abandon l.sequence) Nothing P
    (λ c. (k.has, (starts, refl, refl, tt)))
    (λ d. tt))

may_by :
    (seen : List Seen) (r : Repairing) (now : Moment) (l : Listed) (follows : Bool) (ideal : Seen) (es : List IdealEntry)
    (status : Status) → Knows seen r l follows ideal → l.seen.meta.status ≡ status
    → Lawfully seen r now l follows ideal (decide_by r.partition l.sequence es l.seen.meta status)
may_by seen r now l follows ideal es InProgress k e = may_open seen r now l follows ideal es k (subst IsInProgress (sym e) tt)
may_by seen r now l follows ideal es (Done commit) k e =
    let P : Status → Type 0 = λ status. StartsAfter status l.seen.meta.start commit.end in
    (k.has, (refl, refl), (tt, subst P (sym e) refl))
may_by seen r now l follows ideal es Abandoned k e =
    let P : Status → Type 0 = λ status. StartsAfter status l.seen.meta.start l.seen.meta.start in
    (k.has, (refl, refl), (tt, subst P (sym e) refl))

may_decide :
    (seen : List Seen) (r : Repairing) (now : Moment) (l : Listed) (follows : Bool) (ideal : Seen) (es : List IdealEntry)
    → Knows seen r l follows ideal
    → Lawfully seen r now l follows ideal (decide_last r.partition es now r.grace (Some l))
may_decide seen r now l follows ideal es k =
    let P : Decision → Type 0 = Lawfully seen r now l follows ideal in
    let by = decide_by r.partition l.sequence es l.seen.meta l.seen.meta.status in
    let early = nat_lt now.0 (later l.seen.meta.written r.grace).0 in
    cond_both (not (nat_lt l.sequence.0 LAST_NUMBER)) Nothing (cond early Nothing by) P
    (λ a. tt)
    (λ b. cond_both early Nothing by P (λ c. tt)
    (λ d. may_by seen r now l follows ideal es l.seen.meta.status k refl))

-- ---- a repair

known :
    (s : Starting) (seen h g : List Seen) (r : Repairing) (last : Option ReadNode) (follows : Bool) (ideal : Seen) (l : Listed)
    → AreDistinct r.instances → HasListed s seen r.partition last follows h → HasIdeal s seen h ideal g → IsLast h r.partition l
    → Knows seen r l follows ideal
known s seen h g r last follows ideal l distinct listed read is =
    let p = r.partition in
    let at_last : follows ≡ follows_done (metadata_of h p) l.sequence =
    listed.follows ∙ ap (follows_by (metadata_of h p)) is.last in
    record {
      has = Has-front h seen (listed_write p l) listed.past.front is.has;
      before = λ e.
          (let m = before_of (metadata_of h p) l.sequence (sym at_last ∙ e) in
          (m.0.sequence.0, m.2, (listed_write p m.0, Has-front h seen (listed_write p m.0) listed.past.front (listed_has h p m.0 m.1), refl, m.3)));
      distinct = distinct;
      state = state_read s seen h g ideal read;
    }

may_at :
    (s : Starting) (seen : List Seen) (r : Repairing) (now : Moment) (stage : RepairStage) → r.partition.0 < s.partitions
    → AreDistinct r.instances → Remembers s seen r.partition stage → MayWriteAt seen r now stage
may_at s seen r now Listing within distinct m = tt
may_at s seen r now (Reading last follows) within distinct m = tt
may_at s seen r now (Writing last follows ideal) within distinct (h, g, listed, read) =
    let p = r.partition in
    let l = last_segment s h p listed.past.lawful within in
    let is : last ≡ Some (read_node p l.0) = listed.last ∙ ap (read_by p) l.1.last in
    let P : Option ReadNode → Type 0 = λ o. MayDo seen r now o follows ideal (decision_at r now o ideal) in
    subst P (sym is)
    (may_decide seen r now l.0 follows ideal (entries_by ideal.node)
    (known s seen h g r last follows ideal l.0 distinct listed read l.1))
may_at s seen r now Ended within distinct m = tt

pub may_repair :
    (s : Starting) (seen : List Seen) (r : Repairing) (now : Moment) → IsRepair s seen r → MayWriteAt seen r now r.stage
may_repair s seen r now i = may_at s seen r now r.stage i.within i.distinct i.remembers
