-- What a step of a rehearsal comes to.
use Rattle.std.proofs.Common.{◌≡◌, ℕ, Some, None, Ok, Err, sym, ap, ◌∙◌}
use Rattle.rt_rebalance.specs.Refused.{number_of}
use Rattle.rt_rebalance.specs.Rehearsed.{Rehearsed, Steps, step}
use Rattle.rt_rebalance.specs.declared.rebalance_refused.RebalanceRefused.{RebalanceRefused}
use Rattle.rt_rebalance.specs.declared.rebalance_refused.RebalanceRefused.TheVariants as refused
use Rattle.rt_events.specs.declared.refusal.Refusal.TheVariants.{Memory}
use Rattle.rt_dryrun.specs.Rehearsing.{Going, StepsGoing, stepped_as, stepped_on}
use Rattle.rt_dryrun.specs.declared.stepped.Stepped.TheVariants as went

abbrev with_rehearsed : Going → Rehearsed → Going
with_rehearsed g r = record g { rehearsed = r }

-- it went on
pub went_on : (old : Going) (next : Rehearsed) (state : ℕ) → Steps old.rehearsed next (Ok state)
    → StepsGoing old (with_rehearsed old next) (Ok (went.At state old.steps))
went_on old next state h =
    (ap (λ n. went.At n old.steps) h.1 ∙ sym (ap (stepped_as old.steps) h.0), sym (ap (stepped_on old) h.0))

-- it was refused, and not for want of memory
refused_so : (old next : Rehearsed) (e : RebalanceRefused) (n : ℕ) → Steps old next (Err e) → number_of e ≡ Some n → (step old ≡ Err e) × (next ≡ old)
refused_so old next (refused.Replicas p s) n h is = h
refused_so old next (refused.Keep p s) n h is = h
refused_so old next (refused.NotLoaded p s i) n h is = h
refused_so old next refused.Ended n h is = h
refused_so old next refused.Memory n h is = absurd (cc)

-- memory ran out
memory_so : (old next : Rehearsed) (e : RebalanceRefused) → Steps old next (Err e) → number_of e ≡ None → next ≡ old
memory_so old next (refused.Replicas p s) h is = absurd (cc)
memory_so old next (refused.Keep p s) h is = absurd (cc)
memory_so old next (refused.NotLoaded p s i) h is = absurd (cc)
memory_so old next refused.Ended h is = absurd (cc)
memory_so old next refused.Memory h is = h

pub ran_out : (old : Going) (next : Rehearsed) (e : RebalanceRefused) → Steps old.rehearsed next (Err e) → number_of e ≡ None
    → StepsGoing old (with_rehearsed old next) (Err Memory)
ran_out old next e h is = ap (with_rehearsed old) (memory_so old.rehearsed next e h is)
