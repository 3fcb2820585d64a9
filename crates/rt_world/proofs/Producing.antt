-- A message that came to a partition, as its event.
use Rattle.std.proofs.Common.{◌≡◌, ℕ, List, Bool, true, false, Result, Ok, Err, true≢false, ap}
use Rattle.rt_base.specs.declared.numbers.Offset.{Offset}
use Rattle.rt_base.specs.declared.numbers.Partition.{Partition}
use Rattle.rt_events.specs.declared.event.Event.TheVariants.{Produce}
use Rattle.rt_events.specs.declared.outcome.Outcome.{Outcome}
use Rattle.rt_events.specs.declared.refusal.Refusal.{Refusal}
use Rattle.rt_events.specs.declared.refusal.Refusal.TheVariants.{Memory}
use Rattle.rt_state.specs.IsSafeWorld.{IsSafeWorld}
use Rattle.rt_state.specs.Stream.{offset_told}
use Rattle.rt_state.specs.declared.state.State.{State}
use Rattle.rt_world.proofs.Ending.{kept_came}
use Rattle.rt_world.proofs.SafeSteps.{steps_keep}
use Rattle.rt_world.specs.Kept.{Kept}
use Rattle.rt_world.specs.Step.{Steps, StepsKept}

abbrev happened : Result Outcome Refusal → Bool
happened (Ok outcome) = true
happened (Err refusal) = false

abbrev refused : Result Outcome Refusal → Result Offset Refusal
refused (Ok outcome) = Err Memory
refused (Err refusal) = Err refusal

-- memory didn't run out
other_told : (came : Result Offset Refusal) → (came ≡ Err Memory → ⊥) → offset_told came ≡ Err Memory → ⊥
other_told (Ok offset) other e = true≢false (ap happened e)
other_told (Err refusal) other e = other (ap refused e)

pub kept_told : (old : Kept) (partition : Partition) (message : List ℕ) (new : State) (came : Result Offset Refusal) → old.spent ≡ false → (came ≡ Err Memory → ⊥)
    → Steps old.state (Produce partition message) new (offset_told came) → StepsKept old (Produce partition message) (record { state = new; spent = old.spent }) (offset_told came)
kept_told old partition message new came unspent other h = kept_came old (Produce partition message) new (offset_told came) unspent (other_told came other) h

pub told_keep : (old : State) (partition : Partition) (message : List ℕ) (new : State) (came : Result Offset Refusal) → (came ≡ Err Memory → ⊥) → IsSafeWorld old
    → Steps old (Produce partition message) new (offset_told came) → IsSafeWorld new
told_keep old partition message new came other safe h = steps_keep old (Produce partition message) new (offset_told came) (other_told came other) tt safe h
