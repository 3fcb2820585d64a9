-- A retirement writes what is right, and is right over what was written then.
use Rattle.std.proofs.Common.{◌≡◌, List, Option, Some, None, Result, Ok, Err, sym, ap, subst}
use Rattle.std.proofs.lemmas.Option.{none-some, same_Some}
use Rattle.rt_base.specs.declared.numbers.Moment.{Moment}
use Rattle.rt_base.specs.declared.numbers.Sequence.{Sequence}
use Rattle.rt_model.specs.declared.node.Listed.{Listed}
use Rattle.rt_model.specs.declared.node.Seen.{Seen}
use Rattle.rt_model.specs.declared.setup.Setup.{Setup}
use Rattle.rt_model.specs.Entries.{entries_by}
use Rattle.rt_model.specs.Lawful.{delete}
use Rattle.rt_model.specs.Setup.{IsSetup}
use Rattle.rt_store.specs.declared.refused.StoreRefused.{StoreRefused}
use Rattle.rt_store.specs.declared.refused.StoreRefused.TheVariants as refused
use Rattle.rt_store.specs.Contents.{starting_of}
use Rattle.rt_store.specs.Meaning.{Told, Meaning}
use Rattle.rt_store.specs.Memory.{means}
use Rattle.rt_past.specs.IsPast.{IsPast, GrowsRight}
use Rattle.rt_past.specs.Past.{Past}
use Rattle.rt_past.proofs.Entries.{remove_right}
use Rattle.rt_repair.specs.declared.read_node.ReadNode.{ReadNode}
use Rattle.rt_repair.specs.declared.retirement.RetireStage.{RetireStage}
use Rattle.rt_repair.specs.declared.retirement.RetireStage.TheVariants.{Listing, Reading, Writing, Ended}
use Rattle.rt_repair.specs.declared.retiring.RetireStep.{RetireStep}
use Rattle.rt_repair.specs.declared.retiring.Retiring.{Retiring}
use Rattle.rt_repair.specs.declared.retiring.Retiring.TheVariants as retiring
use Rattle.rt_repair.specs.IsRepair.{HasIdeal}
use Rattle.rt_repair.specs.IsRetire.{Remembers, IsRetire}
use Rattle.rt_repair.specs.Lasting.{IsRetireOver, told_past}
use Rattle.rt_repair.specs.ReadNode.{lowest_node}
use Rattle.rt_repair.specs.RepairSteps.{MaySet}
use Rattle.rt_repair.specs.Retirement.{Retirement, goes, retiring_at, remove_write, delete_write}
use Rattle.rt_repair.specs.RetireSteps.{Stepped, after_list, after_read, with_ideal, StepsAt, deleted, MayDo, MayWriteAt}
use Rattle.rt_repair.specs.Told.{retire_deleted, retire_done, retire_at, retire_stepped}
use Rattle.rt_repair.proofs.Growing.{retire_ready}
use Rattle.rt_repair.proofs.MayRepair.{state_read}
use Rattle.rt_repair.proofs.MayRetire.{may_retire}
use Rattle.rt_repair.proofs.Realized.{retire_steps_told}
use Rattle.rt_repair.proofs.RetireKeeping.{kept_step}
use Rattle.rt_repair.proofs.RightRepair.{right_state, right_same, right_read, right_called}

-- ---- the past grows

right_deleted : (setup : Setup) (past : Past) (t : Told) (r : Retirement) (s : Sequence) (lowest : Option ReadNode)
    → IsPast setup (told_past past t) → MaySet t.writes (delete_write lowest)
    → GrowsRight setup (told_past past t) (told_past past (retire_deleted t r (deleted s) (delete_write lowest)).told)
right_deleted setup past t r s None k may = right_same setup (told_past past t) k
right_deleted setup past t r s (Some lowest) k may = right_called setup past t (delete lowest.seen) k may tt

right_done : (setup : Setup) (past : Past) (t : Told) (r : Retirement) (lowest : Option ReadNode) (ideal : Seen) (h g : List Seen)
    (d : Retiring) → IsPast setup (told_past past t) → HasIdeal (starting_of setup) t.writes h ideal g
    → MayDo t.writes r lowest ideal d
    → GrowsRight setup (told_past past t) (told_past past (retire_done t r lowest ideal d).told)
right_done setup past t r lowest ideal h g retiring.Nothing k read may = right_same setup (told_past past t) k
right_done setup past t r lowest ideal h g (retiring.Remove s) k read may =
    let state = state_read (starting_of setup) t.writes h g ideal read in
    right_called setup past t (remove_write r s ideal) k may
    (remove_right setup (entries_by ideal.node) r.partition s (right_state setup (told_past past t) ideal state.0 k state.1))
right_done setup past t r lowest ideal h g (retiring.Delete s) k read may = right_deleted setup past t r s lowest k may

right_at : (setup : Setup) (past : Past) (t : Told) (r : Retirement) (now : Moment) (stage : RetireStage) → IsPast setup (told_past past t)
    → MayWriteAt t.writes r now stage → Remembers (starting_of setup) t.writes r.partition stage
    → GrowsRight setup (told_past past t) (told_past past (retire_at t r now stage).told)
right_at setup past t r now Listing k may m = right_read setup past t k
right_at setup past t r now (Reading lowest) k may m = right_read setup past t k
right_at setup past t r now (Writing lowest ideal) k may (h, g, listed, read) =
    right_done setup past t r lowest ideal h g (retiring_at r now lowest ideal) k read may
right_at setup past t r now Ended k may m = right_same setup (told_past past t) k

pub retire_past : (setup : Setup) (past : Past) (t : Told) (r : Retirement) (now : Moment) → IsSetup setup → IsPast setup (told_past past t)
    → IsRetireOver setup (told_past past t) r
    → GrowsRight setup (told_past past t) (told_past past (retire_stepped t r now).told)
retire_past setup past t r now s k i =
    right_at setup past t r now r.stage k
    (may_retire (starting_of setup) t.writes r now (retire_ready setup (told_past past t) r s k i)) i.remembers

-- ---- the retirement goes on

abbrev GoesTo : Retirement → Retirement → Type 0
GoesTo r after = (stage : RetireStage) × (after ≡ goes r stage)

abbrev gone : Retirement → RetireStage → RetireStep → Stepped
gone r stage did = record { retire = goes r stage; step = did }

goes_to : (r : Retirement) (stage : RetireStage) (did : RetireStep) (x : Stepped) → Some (gone r stage did) ≡ Some x → GoesTo r x.retire
goes_to r stage did x e = (stage, ap (λ (y : Stepped). y.retire) (sym (same_Some (gone r stage did) x e)))

listed_goes : (r : Retirement) (x : Stepped) (answer : Result (List Listed) StoreRefused) → after_list r answer ≡ Some x → GoesTo r x.retire
listed_goes r x (Ok nodes) e = goes_to r (Reading (lowest_node r.partition nodes)) _ x e
listed_goes r x (Err refused.NoNode) e = goes_to r Ended _ x e
listed_goes r x (Err (refused.Exists found)) e = goes_to r Ended _ x e
listed_goes r x (Err (refused.VersionChanged expected found)) e = goes_to r Ended _ x e
listed_goes r x (Err refused.Failed) e = goes_to r Ended _ x e
listed_goes r x (Err refused.Memory) e = absurd (none-some x e)

read_goes : (r : Retirement) (x : Stepped) (answer : Result Seen StoreRefused) → after_read r answer ≡ Some x → GoesTo r x.retire
read_goes r x (Ok ideal) e = goes_to r (with_ideal r.stage ideal) _ x e
read_goes r x (Err refused.NoNode) e = goes_to r Ended _ x e
read_goes r x (Err (refused.Exists found)) e = goes_to r Ended _ x e
read_goes r x (Err (refused.VersionChanged expected found)) e = goes_to r Ended _ x e
read_goes r x (Err refused.Failed) e = goes_to r Ended _ x e
read_goes r x (Err refused.Memory) e = absurd (none-some x e)

goes_at : (old new : Meaning) (r : Retirement) (now : Moment) (x : Stepped) (stage : RetireStage) → StepsAt old new r now x stage
    → GoesTo r x.retire
goes_at old new r now x Listing (answer, c, e) = listed_goes r x answer e
goes_at old new r now x (Reading lowest) (answer, c, e) = read_goes r x answer e
goes_at old new r now x (Writing lowest ideal) (ended, does) = (Ended, ended)
goes_at old new r now x Ended steps = absurd steps

pub retire_kept : (setup : Setup) (past : Past) (t : Told) (r : Retirement) (now : Moment) (x : Stepped) → IsSetup setup
    → IsPast setup (told_past past t) → IsRetireOver setup (told_past past t) r → (retire_stepped t r now).stepped ≡ Some x
    → IsRetireOver setup (told_past past (retire_stepped t r now).told) x.retire
retire_kept setup past t r now x s k i e =
    let u = (retire_stepped t r now).told in
    let st = starting_of setup in
    let steps = retire_steps_told t r now x r.stage e in
    let did : Result RetireStep (Unit {0}) = Ok x.step in
    let kept = kept_step st (means t) (means u) r now x.retire did (retire_ready setup (told_past past t) r s k i) steps in
    let to = goes_at (means t) (means u) r now x r.stage steps in
    let K : Retirement → Type 0 = IsRetire st u.writes in
    let O : Retirement → Type 0 = IsRetireOver setup (told_past past u) in
    let there = subst K to.1 kept in
    subst O (sym to.1) (record { within = i.within; keep = i.keep; remembers = there.remembers })
