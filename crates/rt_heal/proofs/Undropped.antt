-- At rest no replica of a segment in progress has dropped its rows that is to consume it.
use Rattle.std.proofs.Common.{◌≡◌, ◌<◌, inl, inr, false}
use Rattle.rt_base.specs.declared.numbers.Partition.{Partition}
use Rattle.rt_consumer.specs.Consumer.{state_of}
use Rattle.rt_consumer.specs.Requests.{asks_now}
use Rattle.rt_consumer.specs.declared.phase.Phase.{Phase}
use Rattle.rt_consumer.specs.declared.phase.Phase.TheVariants as phase
use Rattle.rt_model.specs.Entries.{entries_of}
use Rattle.rt_model.specs.declared.ideal_state.Mode.TheVariants.{Consuming}
use Rattle.rt_model.specs.declared.replica_state.ReplicaState.TheVariants as state
use Rattle.rt_state.specs.IsSafe.{past_of}
use Rattle.rt_state.specs.IsSafeWorld.{IsSafeWorld}
use Rattle.rt_state.specs.declared.state.State.{State}
use Rattle.rt_heal.specs.AtRest.{IsAtRest}
use Rattle.rt_heal.specs.Dropped.{AreDroppedOut, IsDropped, IsOut}
use Rattle.rt_heal.specs.Planned.{NoneDropped}
use Rattle.rt_heal.proofs.Asked.{mode_asked}
use Rattle.rt_heal.proofs.Mended.{open_unended}
use Rattle.rt_heal.proofs.Served.{stage_not}

-- one that asks nothing any more isn't waiting for its stop to be processed
dropped_is : (ph : Phase) → state_of ph ≡ state.Discarded → asks_now ph ≡ false → IsDropped ph
dropped_is (phase.Discarded d) e quiet = quiet
dropped_is (phase.Unsealed o) e quiet = absurd (stage_not o.stage e)
dropped_is (phase.Retained kept) e quiet = absurd (cc)
dropped_is (phase.Committed kept) e quiet = absurd (cc)

pub none_dropped : (w : State) → IsSafeWorld w → IsAtRest w → AreDroppedOut w → (p : Partition) → p.0 < w.setup.partitions → NoneDropped w p
none_dropped w s rest out p within l i has going consumes n there dropped =
    by_out
    (out i n there p l.sequence dropped.replica dropped.there
    (dropped_is dropped.replica.phase dropped.dropped ((rest i.0 n there).rests.replicas p l.sequence dropped.replica dropped.there).asked))
  where
    by_out : IsOut w.store.writes p l.sequence i → ⊥
    by_out (inl final) = open_unended w.setup (past_of w) w.moment p s.safe.setup s.safe.past within l has going final
    by_out (inr none) =
        let a = mode_asked (entries_of w.store.writes) p l.sequence i Consuming consumes in
        none a.entry a.there a.partition a.sequence a.instance a.mode
