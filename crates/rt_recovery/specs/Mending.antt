-- The partitions are mended, one after the other: repairs go on until none is needed.
use Rattle.std.specs.Prelude.{◌≡◌, ◌<◌, ◌≤◌, ℕ, zero, suc, Bool, true, false, []}
use Rattle.rt_base.specs.declared.numbers.ControllerId.{ControllerId}
use Rattle.rt_base.specs.declared.numbers.Partition.{Partition}
use Rattle.rt_events.specs.declared.event.Event.TheVariants.{Repair, Tick}
use Rattle.rt_events.specs.declared.outcome.Outcome.{Outcome}
use Rattle.rt_events.specs.declared.outcome.Outcome.TheVariants as told
use Rattle.rt_lists.specs.Members.{Has}
use Rattle.rt_macros.specs.Doing.{Act, EachFrom, Gives, Happens, Passed, Then}
use Rattle.rt_model.specs.declared.node.Node.TheVariants as node
use Rattle.rt_model.specs.declared.node.Seen.{Seen}
use Rattle.rt_model.specs.declared.seg_meta.SegMeta.{SegMeta}
use Rattle.rt_repair.specs.declared.repair_step.RepairStep.{RepairStep}
use Rattle.rt_repair.specs.declared.repair_step.RepairStep.TheVariants as step
use Rattle.rt_state.specs.declared.state.State.{State}
use Rattle.rt_heal.specs.AtRest.{AreUp}
use Rattle.rt_heal.specs.Mended.{NeedsNoRepair}
use Rattle.rt_calm.specs.Again.{IsLeading}
use Rattle.rt_world.specs.Reading.{leader_in}
use Rattle.rt_recovery.specs.Fresh.{IsFresh}

-- ---- a repair up to its end

-- what a step tells behind which there is another one
abbrev pub goes_further : RepairStep → Bool
goes_further step.Listed = true
goes_further step.IdealRead = true
goes_further _ = false

abbrev pub goes_on_by : Outcome → Bool
goes_on_by (told.Repaired did) = goes_further did
goes_on_by _ = false

abbrev pub Goes : Bool → Act (Unit {0}) → Act (Unit {0})
Goes true further w = further w
Goes false further w = Gives tt w

-- `repair cC P` for so many steps at most, up to the one that ends the repair
abbrev pub RepairsIn : ControllerId → Partition → ℕ → Act (Unit {0})
RepairsIn c p zero w = Gives tt w
RepairsIn c p (suc steps) w = Then (Happens (Repair c p)) (λ outcome. Goes (goes_on_by outcome) (RepairsIn c p steps)) w

-- ---- a partition

-- the grace passes, and then comes a repair
abbrev pub RepairTurn : ControllerId → Partition → Act (Unit {0})
RepairTurn c p w = Then (Passed (Tick w.setup.grace)) (λ passed. RepairsIn c p 3) w

abbrev pub RepairTurns : ControllerId → Partition → ℕ → Act (Unit {0})
RepairTurns c p zero w = Gives tt w
RepairTurns c p (suc turns) w = Then (RepairTurn c p) (λ done. RepairTurns c p turns) w

-- one ends what is under way; of those behind it at most three write, and the last one finds nothing to do
abbrev pub MendTurn : ControllerId → ℕ → Unit {0} → Act (Unit {0})
MendTurn c at done w = RepairTurns c (record { 0 = at }) 5 w

-- all partitions
abbrev pub Mends : ControllerId → Act (Unit {0})
Mends c w = EachFrom (MendTurn c) 0 w.setup.partitions tt w

-- ---- what comes of it

-- no segment's node was written later than now
abbrev pub IsWrittenBefore : State → Type 0
IsWrittenBefore w = (v : Seen) (m : SegMeta) → Has w.store.writes v → v.node ≡ node.Meta m → m.written.0 ≤ w.moment.0

-- no partition needs a repair. The nodes are as they were, and what was produced and put
pub record HasMended (w v : State) : Type 0 where
  pub needs : (p : Partition) → p.0 < v.setup.partitions → NeedsNoRepair v.setup v.store.writes v.moment p
  pub fresh : IsFresh w → IsFresh v
  pub up : AreUp w → AreUp v
  pub leading : IsLeading w → IsLeading v
  pub leader : leader_in v ≡ leader_in w
  pub unplanned : v.store.faults.plan ≡ []
  pub setup : v.setup ≡ w.setup
  pub log : v.log ≡ w.log
  pub deep : v.deep ≡ w.deep
  pub before : IsWrittenBefore v
