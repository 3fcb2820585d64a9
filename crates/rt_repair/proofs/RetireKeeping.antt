-- What a retirement remembers stays so, through each step.
use Rattle.std.proofs.Common.{◌≡◌, List, Option, Some, None, Result, Ok, Err, refl, sym, ◌∙◌, ap, subst}
use Rattle.rt_base.specs.declared.numbers.Moment.{Moment}
use Rattle.rt_base.specs.declared.numbers.Partition.{Partition}
use Rattle.rt_base.specs.declared.numbers.Sequence.{Sequence}
use Rattle.rt_lists.proofs.Members.{front_same, front_then}
use Rattle.rt_model.specs.declared.node.Key.TheVariants as key
use Rattle.rt_model.specs.declared.node.Listed.{Listed}
use Rattle.rt_model.specs.declared.node.Seen.{Seen}
use Rattle.rt_model.specs.Lawful.{Write, IsLawfulHistory}
use Rattle.rt_model.specs.Starting.{Starting}
use Rattle.rt_store.specs.declared.refused.StoreRefused.{StoreRefused}
use Rattle.rt_store.specs.declared.refused.StoreRefused.TheVariants.{NoNode, Exists, VersionChanged, Failed, Memory}
use Rattle.rt_store.specs.Calls.{Reads, Lists}
use Rattle.rt_store.specs.Meaning.{Meaning}
use Rattle.rt_repair.specs.declared.read_node.ReadNode.{ReadNode}
use Rattle.rt_repair.specs.declared.retirement.RetireStage.{RetireStage}
use Rattle.rt_repair.specs.declared.retirement.RetireStage.TheVariants.{Listing, Reading, Writing, Ended}
use Rattle.rt_repair.specs.declared.retiring.RetireStep.{RetireStep}
use Rattle.rt_repair.specs.declared.retiring.Retiring.{Retiring}
use Rattle.rt_repair.specs.declared.retiring.Retiring.TheVariants as retiring
use Rattle.rt_repair.specs.IsRetire.{HasListed, Remembers, IsRetire}
use Rattle.rt_repair.specs.ReadNode.{lowest_node}
use Rattle.rt_repair.specs.RepairSteps.{MaySet}
use Rattle.rt_repair.specs.Retirement.{Retirement, goes, remove_write, delete_write, retiring_at}
use Rattle.rt_repair.specs.RetireSteps.{Stepped, after_list, after_read, with_ideal, Deletes, Does, StepsAt, Steps, MayDo, MayWriteAt}
use Rattle.rt_store.proofs.GoingOn.{GoesOn, goes_same, goes_list, goes_read, goes_write, list_is, read_is}
use Rattle.rt_repair.proofs.Keeping.{goes_ran_out, past_on, ideal_on}
use Rattle.rt_repair.proofs.MayRetire.{may_retire}

listed_on :
    (s : Starting) (h : List Seen) (old new : Meaning) (p : Partition) (lowest : Option ReadNode)
    → HasListed s old.seen p lowest h → GoesOn s old new → HasListed s new.seen p lowest h
listed_on s h old new p lowest k g = record { past = past_on s h old new k.past g; lowest = k.lowest }

remembers_on :
    (s : Starting) (old new : Meaning) (p : Partition) (stage : RetireStage)
    → Remembers s old.seen p stage → GoesOn s old new → Remembers s new.seen p stage
remembers_on s old new p Listing m g = tt
remembers_on s old new p (Reading lowest) (h, listed) g = (h, listed_on s h old new p lowest listed g)
remembers_on s old new p (Writing lowest ideal) (h, f, listed, read) g =
    (h, f, listed_on s h old new p lowest listed g, ideal_on s h f old new ideal read g)
remembers_on s old new p Ended m g = tt

-- a retirement that goes on to another stage
retire_at :
    (s : Starting) (old new : Meaning) (r after : Retirement) (stage : RetireStage) → IsRetire s old.seen r → GoesOn s old new
    → after ≡ goes r stage → Remembers s new.seen r.partition stage → IsRetire s new.seen after
retire_at s old new r after stage i g e m =
    let P : Retirement → Type 0 = IsRetire s new.seen in
    subst P (sym e) (record { assigned = i.assigned; lawful = g.lawful; within = i.within; remembers = m })

abbrev some_step : Stepped → Option Stepped
some_step x = Some x

same_step : (x y : Stepped) → some_step x ≡ some_step y → x.retire ≡ y.retire
same_step x y e = cc

kept_list :
    (s : Starting) (old new : Meaning) (r : Retirement) (x : Stepped) (answer : Result (List Listed) StoreRefused)
    → IsRetire s old.seen r → Lists old new r.partition answer → after_list r answer ≡ Some x → IsRetire s new.seen x.retire
kept_list s old new r x (Ok nodes) i c e =
    let g = goes_list s old new r.partition (Ok nodes) i.lawful c in
    let p = r.partition in
    let is = list_is old new p nodes c in
    retire_at s old new r x.retire (Reading (lowest_node p nodes)) i g (sym (same_step _ x e)) (
      new.seen,
      record {
        past = record { front = front_same new.seen; lawful = g.lawful };
        lowest = ap (lowest_node p) is;
      },
    )
kept_list s old new r x (Err NoNode) i c e =
    retire_at s old new r x.retire Ended i (goes_list s old new r.partition (Err NoNode) i.lawful c) (sym (same_step _ x e)) tt
kept_list s old new r x (Err (Exists found)) i c e =
    retire_at s old new r x.retire Ended i (goes_list s old new r.partition (Err (Exists found)) i.lawful c) (sym (same_step _ x e)) tt
kept_list s old new r x (Err (VersionChanged expected found)) i c e =
    retire_at s old new r x.retire Ended i (goes_list s old new r.partition (Err (VersionChanged expected found)) i.lawful c)
    (sym (same_step _ x e)) tt
kept_list s old new r x (Err Failed) i c e =
    retire_at s old new r x.retire Ended i (goes_list s old new r.partition (Err Failed) i.lawful c) (sym (same_step _ x e)) tt
kept_list s old new r x (Err Memory) i c e = absurd (cc)

kept_read :
    (s : Starting) (old new : Meaning) (r : Retirement) (x : Stepped) (lowest : Option ReadNode) (answer : Result Seen StoreRefused)
    → r.stage ≡ Reading lowest
    → IsRetire s old.seen r → Reads old new key.Ideal answer → after_read r answer ≡ Some x → IsRetire s new.seen x.retire
kept_read s old new r x lowest (Ok ideal) at i c e =
    let g = goes_read s old new key.Ideal (Ok ideal) i.lawful c in
    let P : RetireStage → Type 0 = Remembers s old.seen r.partition in
    let m = subst P at i.remembers in
    retire_at s old new r x.retire (Writing lowest ideal) i g
    (sym (same_step _ x e) ∙ ap (λ stage. goes r (with_ideal stage ideal)) at) (
      m.0,
      new.seen,
      listed_on s m.0 old new r.partition lowest m.1 g,
      record {
        past = record { front = front_same new.seen; lawful = g.lawful };
        longer = front_then m.0 old.seen new.seen m.1.past.front g.front;
        value = read_is old new key.Ideal ideal c;
      },
    )
kept_read s old new r x lowest (Err NoNode) at i c e =
    retire_at s old new r x.retire Ended i (goes_read s old new key.Ideal (Err NoNode) i.lawful c) (sym (same_step _ x e)) tt
kept_read s old new r x lowest (Err (Exists found)) at i c e =
    retire_at s old new r x.retire Ended i (goes_read s old new key.Ideal (Err (Exists found)) i.lawful c) (sym (same_step _ x e)) tt
kept_read s old new r x lowest (Err (VersionChanged expected found)) at i c e =
    retire_at s old new r x.retire Ended i (goes_read s old new key.Ideal (Err (VersionChanged expected found)) i.lawful c)
    (sym (same_step _ x e)) tt
kept_read s old new r x lowest (Err Failed) at i c e =
    retire_at s old new r x.retire Ended i (goes_read s old new key.Ideal (Err Failed) i.lawful c) (sym (same_step _ x e)) tt
kept_read s old new r x lowest (Err Memory) at i c e = absurd (cc)

goes_deletes :
    (s : Starting) (old new : Meaning) (t : Sequence) (call : Option Write) (did : RetireStep)
    → IsLawfulHistory s old.seen → MaySet old.seen call → Deletes old new t call did → GoesOn s old new
goes_deletes s old new t None did l may x = goes_same s old new l x.0
goes_deletes s old new t (Some call) did l may x = goes_write (λ w. tt) s old new call x.0 l may x.1

goes_does :
    (s : Starting) (old new : Meaning) (r : Retirement) (lowest : Option ReadNode) (ideal : Seen)
    (did : RetireStep) (d : Retiring) → IsLawfulHistory s old.seen → MayDo old.seen r lowest ideal d
    → Does old new r lowest ideal did d → GoesOn s old new
goes_does s old new r lowest ideal did retiring.Nothing l may x = goes_same s old new l x.0
goes_does s old new r lowest ideal did (retiring.Remove t) l may x =
    goes_write (λ w. w.version) s old new (remove_write r t ideal) x.0 l may x.1
goes_does s old new r lowest ideal did (retiring.Delete t) l may x =
    goes_deletes s old new t (delete_write lowest) did l may x

kept_at :
    (s : Starting) (old new : Meaning) (r : Retirement) (now : Moment) (x : Stepped) (stage : RetireStage) → r.stage ≡ stage
    → IsRetire s old.seen r → StepsAt old new r now x stage → IsRetire s new.seen x.retire
kept_at s old new r now x Listing at i (answer, c, e) = kept_list s old new r x answer i c e
kept_at s old new r now x (Reading lowest) at i (answer, c, e) = kept_read s old new r x lowest answer at i c e
kept_at s old new r now x (Writing lowest ideal) at i (ended, does) =
    let P : RetireStage → Type 0 = MayWriteAt old.seen r now in
    let may = subst P at (may_retire s old.seen r now i) in
    retire_at s old new r x.retire Ended i
    (goes_does s old new r lowest ideal x.step (retiring_at r now lowest ideal) i.lawful may does)
    ended tt
kept_at s old new r now x Ended at i steps = absurd steps

pub kept_step :
    {E : Type 0} (s : Starting) (old new : Meaning) (r : Retirement) (now : Moment) (after : Retirement)
    (result : Result RetireStep E) → IsRetire s old.seen r → Steps old new r now after result → IsRetire s new.seen after
kept_step s old new r now after (Ok did) i steps =
    kept_at s old new r now (record { retire = after; step = did }) r.stage refl i steps
kept_step s old new r now after (Err e) i (same, out) =
    let g = goes_ran_out s old new i.lawful out in
    retire_at s old new r after r.stage i g same (remembers_on s old new r.partition r.stage i.remembers g)
