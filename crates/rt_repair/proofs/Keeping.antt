-- What a repair and a retirement remember stays so, through each step.
use Rattle.std.proofs.Common.{◌≡◌, ℕ, inl, inr, Bool, List, Option, Some, None, Result, Ok, Err, refl, sym, ◌∙◌, ap, subst}
use Rattle.rt_base.specs.declared.numbers.Moment.{Moment}
use Rattle.rt_base.specs.declared.numbers.Partition.{Partition}
use Rattle.rt_lists.specs.Members.{IsFront}
use Rattle.rt_lists.proofs.Members.{front_same, front_then}
use Rattle.rt_model.specs.declared.decision.Decision.{Decision}
use Rattle.rt_model.specs.declared.decision.Decision.TheVariants as decision
use Rattle.rt_model.specs.declared.node.Key.TheVariants as key
use Rattle.rt_model.specs.declared.node.Listed.{Listed}
use Rattle.rt_model.specs.declared.node.Seen.{Seen}
use Rattle.rt_model.specs.Lawful.{Write, IsLawfulHistory}
use Rattle.rt_model.specs.Starting.{Starting}
use Rattle.rt_store.specs.declared.refused.StoreRefused.{StoreRefused}
use Rattle.rt_store.specs.declared.refused.StoreRefused.TheVariants.{NoNode, Exists, VersionChanged, Failed, Memory}
use Rattle.rt_store.specs.Calls.{Reads, Lists}
use Rattle.rt_store.specs.Meaning.{Meaning}
use Rattle.rt_store.proofs.GoingOn.{GoesOn, goes_same, goes_list, goes_read, goes_write, list_is, read_is}
use Rattle.rt_repair.specs.declared.read_node.ReadNode.{ReadNode}
use Rattle.rt_repair.specs.declared.repair.RepairStage.{RepairStage}
use Rattle.rt_repair.specs.declared.repair.RepairStage.TheVariants.{Listing, Reading, Writing, Ended}
use Rattle.rt_repair.specs.declared.repair_step.RepairStep.{RepairStep}
use Rattle.rt_repair.specs.IsRepair.{IsPast, HasListed, HasIdeal, Remembers, IsRepair}
use Rattle.rt_repair.specs.ReadNode.{last_node, last_follows}
use Rattle.rt_repair.specs.Repairing.{Repairing, goes, create_write, ideal_write, abandon_write, decision_at}
use Rattle.rt_repair.specs.RepairSteps.{Stepped, after_list, after_read, Sets, Does, StepsAt, Steps, RanOut, MaySet, MayDo, MayWriteAt, with_ideal, ideal_set, abandoned}
use Rattle.rt_repair.proofs.MayRepair.{may_repair}

-- ---- what its caller sees

pub goes_ran_out : (s : Starting) (old new : Meaning) → IsLawfulHistory s old.seen → RanOut old new → GoesOn s old new
goes_ran_out s old new l (inl e) = goes_same s old new l e
goes_ran_out s old new l (inr (base, sees, stays)) =
    record {
      front = subst (IsFront old.seen) (sym stays.seen) sees.grows;
      lawful = subst (IsLawfulHistory s) (sym stays.seen) (sees.lawful s l);
    }

-- ---- a repair

pub past_on : (s : Starting) (h : List Seen) (old new : Meaning) → IsPast s h old.seen → GoesOn s old new → IsPast s h new.seen
past_on s h old new p g = record { front = front_then h old.seen new.seen p.front g.front; lawful = p.lawful }

pub listed_on :
    (s : Starting) (h : List Seen) (old new : Meaning) (p : Partition) (last : Option ReadNode) (follows : Bool)
    → HasListed s old.seen p last follows h → GoesOn s old new → HasListed s new.seen p last follows h
listed_on s h old new p last follows k g =
    record { past = past_on s h old new k.past g; last = k.last; follows = k.follows }

pub ideal_on :
    (s : Starting) (h f : List Seen) (old new : Meaning) (ideal : Seen)
    → HasIdeal s old.seen h ideal f → GoesOn s old new → HasIdeal s new.seen h ideal f
ideal_on s h f old new ideal k g =
    record { past = past_on s f old new k.past g; longer = k.longer; value = k.value }

remembers_on :
    (s : Starting) (old new : Meaning) (p : Partition) (stage : RepairStage)
    → Remembers s old.seen p stage → GoesOn s old new → Remembers s new.seen p stage
remembers_on s old new p Listing m g = tt
remembers_on s old new p (Reading last follows) (h, listed) g = (h, listed_on s h old new p last follows listed g)
remembers_on s old new p (Writing last follows ideal) (h, f, listed, read) g =
    (h, f, listed_on s h old new p last follows listed g, ideal_on s h f old new ideal read g)
remembers_on s old new p Ended m g = tt

-- a repair that goes on to another stage
repair_at :
    (s : Starting) (old new : Meaning) (r after : Repairing) (stage : RepairStage) → IsRepair s old.seen r → GoesOn s old new
    → after ≡ goes r stage → Remembers s new.seen r.partition stage → IsRepair s new.seen after
repair_at s old new r after stage i g e m =
    let P : Repairing → Type 0 = IsRepair s new.seen in
    subst P (sym e)
    (record { lawful = g.lawful; within = i.within; named = i.named; distinct = i.distinct; remembers = m })

abbrev some_step : Stepped → Option Stepped
some_step x = Some x

same_step : (x y : Stepped) → some_step x ≡ some_step y → x.repair ≡ y.repair
same_step x y e = cc

kept_list :
    (s : Starting) (old new : Meaning) (r : Repairing) (x : Stepped) (answer : Result (List Listed) StoreRefused)
    → IsRepair s old.seen r → Lists old new r.partition answer → after_list r answer ≡ Some x → IsRepair s new.seen x.repair
kept_list s old new r x (Ok nodes) i c e =
    let g = goes_list s old new r.partition (Ok nodes) i.lawful c in
    let p = r.partition in
    let is = list_is old new p nodes c in
    repair_at s old new r x.repair (Reading (last_node p nodes) (last_follows nodes)) i g (sym (same_step _ x e)) (
      new.seen,
      record {
        past = record { front = front_same new.seen; lawful = g.lawful };
        last = ap (last_node p) is;
        follows = ap last_follows is;
      },
    )
kept_list s old new r x (Err NoNode) i c e =
    repair_at s old new r x.repair Ended i (goes_list s old new r.partition (Err NoNode) i.lawful c) (sym (same_step _ x e)) tt
kept_list s old new r x (Err (Exists found)) i c e =
    repair_at s old new r x.repair Ended i (goes_list s old new r.partition (Err (Exists found)) i.lawful c) (sym (same_step _ x e)) tt
kept_list s old new r x (Err (VersionChanged expected found)) i c e =
    repair_at s old new r x.repair Ended i (goes_list s old new r.partition (Err (VersionChanged expected found)) i.lawful c)
    (sym (same_step _ x e)) tt
kept_list s old new r x (Err Failed) i c e =
    repair_at s old new r x.repair Ended i (goes_list s old new r.partition (Err Failed) i.lawful c) (sym (same_step _ x e)) tt
kept_list s old new r x (Err Memory) i c e = absurd (cc)

kept_read :
    (s : Starting) (old new : Meaning) (r : Repairing) (x : Stepped) (last : Option ReadNode) (follows : Bool)
    (answer : Result Seen StoreRefused) → r.stage ≡ Reading last follows
    → IsRepair s old.seen r → Reads old new key.Ideal answer → after_read r answer ≡ Some x → IsRepair s new.seen x.repair
kept_read s old new r x last follows (Ok ideal) at i c e =
    let g = goes_read s old new key.Ideal (Ok ideal) i.lawful c in
    let P : RepairStage → Type 0 = Remembers s old.seen r.partition in
    let m = subst P at i.remembers in
    repair_at s old new r x.repair (Writing last follows ideal) i g
    (sym (same_step _ x e) ∙ ap (λ stage. goes r (with_ideal stage ideal)) at) (
      m.0,
      new.seen,
      listed_on s m.0 old new r.partition last follows m.1 g,
      record {
        past = record { front = front_same new.seen; lawful = g.lawful };
        longer = front_then m.0 old.seen new.seen m.1.past.front g.front;
        value = read_is old new key.Ideal ideal c;
      },
    )
kept_read s old new r x last follows (Err NoNode) at i c e =
    repair_at s old new r x.repair Ended i (goes_read s old new key.Ideal (Err NoNode) i.lawful c) (sym (same_step _ x e)) tt
kept_read s old new r x last follows (Err (Exists found)) at i c e =
    repair_at s old new r x.repair Ended i (goes_read s old new key.Ideal (Err (Exists found)) i.lawful c) (sym (same_step _ x e)) tt
kept_read s old new r x last follows (Err (VersionChanged expected found)) at i c e =
    repair_at s old new r x.repair Ended i (goes_read s old new key.Ideal (Err (VersionChanged expected found)) i.lawful c)
    (sym (same_step _ x e)) tt
kept_read s old new r x last follows (Err Failed) at i c e =
    repair_at s old new r x.repair Ended i (goes_read s old new key.Ideal (Err Failed) i.lawful c) (sym (same_step _ x e)) tt
kept_read s old new r x last follows (Err Memory) at i c e = absurd (cc)

pub goes_sets :
    (s : Starting) (old new : Meaning) (tell : Result ℕ StoreRefused → Option RepairStep) (call : Option Write) (did : RepairStep)
    → IsLawfulHistory s old.seen → MaySet old.seen call → Sets old new tell call did → GoesOn s old new
goes_sets s old new tell None did l may x = goes_same s old new l x.0
goes_sets s old new tell (Some call) did l may x = goes_write (λ w. w.version) s old new call x.0 l may x.1

goes_does :
    (s : Starting) (old new : Meaning) (r : Repairing) (now : Moment) (last : Option ReadNode) (follows : Bool) (ideal : Seen)
    (did : RepairStep) (d : Decision) → IsLawfulHistory s old.seen → MayDo old.seen r now last follows ideal d
    → Does old new r now last follows ideal did d → GoesOn s old new
goes_does s old new r now last follows ideal did decision.Nothing l may x = goes_same s old new l x.0
goes_does s old new r now last follows ideal did (decision.Create t o) l may x =
    goes_write (λ w. tt) s old new (create_write r now t o last) x.0 l may x.1
goes_does s old new r now last follows ideal did (decision.AddToIdeal t) l may x =
    goes_sets s old new ideal_set (ideal_write r t follows ideal) did l may x
goes_does s old new r now last follows ideal did (decision.Abandon t) l may x =
    goes_sets s old new (abandoned t) (abandon_write now last) did l may x

kept_at :
    (s : Starting) (old new : Meaning) (r : Repairing) (now : Moment) (x : Stepped) (stage : RepairStage) → r.stage ≡ stage
    → IsRepair s old.seen r → StepsAt old new r now x stage → IsRepair s new.seen x.repair
kept_at s old new r now x Listing at i (answer, c, e) = kept_list s old new r x answer i c e
kept_at s old new r now x (Reading last follows) at i (answer, c, e) =
    kept_read s old new r x last follows answer at i c e
kept_at s old new r now x (Writing last follows ideal) at i (ended, does) =
    let P : RepairStage → Type 0 = MayWriteAt old.seen r now in
    let may = subst P at (may_repair s old.seen r now i) in
    repair_at s old new r x.repair Ended i
    (goes_does s old new r now last follows ideal x.step (decision_at r now last ideal) i.lawful may does)
    ended tt
kept_at s old new r now x Ended at i steps = absurd steps

pub kept_step :
    {E : Type 0} (s : Starting) (old new : Meaning) (r : Repairing) (now : Moment) (after : Repairing)
    (result : Result RepairStep E) → IsRepair s old.seen r → Steps old new r now after result → IsRepair s new.seen after
kept_step s old new r now after (Ok did) i steps =
    kept_at s old new r now (record { repair = after; step = did }) r.stage refl i steps
kept_step s old new r now after (Err e) i (same, out) =
    let g = goes_ran_out s old new i.lawful out in
    repair_at s old new r after r.stage i g same (remembers_on s old new r.partition r.stage i.remembers g)
