-- Retirements of all partitions go on until no segment stands between the two steps of one.
use Rattle.std.specs.Prelude.{◌≡◌, ◌<◌, ◌≤◌, ◌&&◌, ℕ, zero, suc, Bool, true, false, [], List, Some, is_some}
use Rattle.rt_base.specs.declared.numbers.ControllerId.{ControllerId}
use Rattle.rt_base.specs.declared.numbers.Moment.{Moment}
use Rattle.rt_base.specs.declared.numbers.Partition.{Partition}
use Rattle.rt_events.specs.declared.event.Event.TheVariants.{Retain}
use Rattle.rt_events.specs.declared.outcome.Outcome.{Outcome}
use Rattle.rt_events.specs.declared.outcome.Outcome.TheVariants as told
use Rattle.rt_lists.specs.Members.{Has}
use Rattle.rt_macros.specs.Doing.{Act, Choose, EachFrom, Gives, Happens, Then}
use Rattle.rt_model.specs.Entries.{entries_of, HasEntry}
use Rattle.rt_model.specs.Metadata.{metadata_of, IsDoneStatus}
use Rattle.rt_model.specs.Moments.{later}
use Rattle.rt_model.specs.declared.node.Listed.{Listed}
use Rattle.rt_model.specs.declared.node.Seen.{Seen}
use Rattle.rt_model.specs.declared.setup.Setup.{Setup}
use Rattle.rt_repair.specs.declared.retiring.RetireStep.{RetireStep}
use Rattle.rt_repair.specs.declared.retiring.RetireStep.TheVariants as step
use Rattle.rt_state.specs.declared.state.State.{State}
use Rattle.rt_world.specs.Reading.{leader_in}
use Rattle.rt_heal.specs.AtRest.{AreUp}
use Rattle.rt_heal.specs.Mended.{NeedsNoRepair}
use Rattle.rt_heal.specs.Turned.{NoneHalfRetired}
use Rattle.rt_calm.specs.Again.{IsLeading}
use Rattle.rt_recovery.specs.Fresh.{IsFresh}

-- ---- a retirement up to its end

-- what a step tells behind which there is another one
abbrev pub goes_further : RetireStep → Bool
goes_further step.Listed = true
goes_further step.IdealRead = true
goes_further _ = false

abbrev pub is_nothing : RetireStep → Bool
is_nothing step.Nothing = true
is_nothing _ = false

abbrev pub goes_on_by : Outcome → Bool
goes_on_by (told.Retired did) = goes_further did
goes_on_by _ = false

abbrev pub nothing_by : Outcome → Bool
nothing_by (told.Retired did) = is_nothing did
nothing_by _ = false

abbrev pub Goes : Bool → Bool → Act Bool → Act Bool
Goes true nothing further w = further w
Goes false nothing further w = Gives nothing w

-- `retain cC P` for so many steps at most, up to the one that ends the retirement; and whether that one tells `nothing`
abbrev pub RetiresIn : ControllerId → Partition → ℕ → Act Bool
RetiresIn c p zero w = Gives false w
RetiresIn c p (suc steps) w =
    Then (Happens (Retain c p)) (λ outcome. Goes (goes_on_by outcome) (nothing_by outcome) (RetiresIn c p steps)) w

-- ---- a partition

abbrev pub Until : Act Bool → Bool → Act Bool
Until further true w = Gives true w
Until further false w = further w

-- so many retirements at most, up to the first that tells `nothing`
abbrev pub RetiresUntil : ControllerId → Partition → ℕ → Act Bool
RetiresUntil c p zero w = Gives false w
RetiresUntil c p (suc times) w = Then (RetiresIn c p 3) (Until (RetiresUntil c p times)) w

-- what is under way ends first. Without a retention no segment is retired
abbrev pub RetiresOf : ControllerId → ℕ → Partition → Act Bool
RetiresOf c times p w =
    Choose (is_some w.setup.retention) (Then (RetiresIn c p 3) (λ ended. RetiresUntil c p times) w) (Gives true w)

-- it is noted whether each partition came to `nothing`
abbrev pub RetireTurn : ControllerId → ℕ → ℕ → Bool → Act Bool
RetireTurn c times at noted w = Then (RetiresOf c times (record { 0 = at })) (λ nothing. Gives (noted && nothing)) w

-- twice as many as a partition has segments at most, and one: so many are enough for each
abbrev pub retirements_enough : ℕ
retirements_enough = 8589934581

-- all partitions
abbrev pub Retires : ControllerId → ℕ → Act Bool
Retires c times w = EachFrom (RetireTurn c times) 0 w.setup.partitions true w

-- ---- what comes of it

-- a committed segment is listed, and has no entries
pub record IsLeft (h : List Seen) (p : Partition) (l : Listed) : Type 0 where
  pub listed : Has (metadata_of h p) l
  pub done : IsDoneStatus l.seen.meta.status
  pub none : HasEntry (entries_of h) p l.sequence.0 → ⊥

-- it was kept as long as the setup says
pub record IsOld (setup : Setup) (now : Moment) (l : Listed) : Type 0 where
  pub keep : ℕ
  pub kept : setup.retention ≡ Some keep
  pub old : (later l.seen.meta.written keep).0 ≤ now.0

-- so it is only then that segments are left without entries
abbrev pub LeavesOldOnes : State → Type 0
LeavesOldOnes w = (p : Partition) → p.0 < w.setup.partitions → (l : Listed) → IsLeft w.store.writes p l → IsOld w.setup w.moment l

-- no segment is between the two steps of its retirement, and partitions that needed no repair need none. The nodes are as they were, and
-- what was produced and put
pub record HasRetired (w v : State) : Type 0 where
  pub none : (p : Partition) → p.0 < v.setup.partitions → NoneHalfRetired v.store.writes p
  pub needs :
      ((p : Partition) → p.0 < w.setup.partitions → NeedsNoRepair w.setup w.store.writes w.moment p)
      → (p : Partition) → p.0 < v.setup.partitions → NeedsNoRepair v.setup v.store.writes v.moment p
  pub fresh : IsFresh w → IsFresh v
  pub up : AreUp w → AreUp v
  pub leading : IsLeading w → IsLeading v
  pub leader : leader_in v ≡ leader_in w
  pub unplanned : v.store.faults.plan ≡ []
  pub setup : v.setup ≡ w.setup
  pub log : v.log ≡ w.log
  pub deep : v.deep ≡ w.deep
