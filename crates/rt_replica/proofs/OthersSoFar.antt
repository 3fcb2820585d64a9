-- What is held so far of a log at the start, by force and by a stop.
use Rattle.std.proofs.Common.{◌≡◌, ◌-◌, ℕ, Bool, true, false, cond, nat_lt, List, take, drop, Option, Some, None, ap, subst, arith}
use Rattle.rt_base.specs.declared.numbers.Moment.{Moment}
use Rattle.rt_base.specs.declared.numbers.Offset.{Offset}
use Rattle.rt_base.specs.declared.numbers.Partition.{Partition}
use Rattle.rt_base.specs.declared.numbers.Sequence.{Sequence}
use Rattle.rt_schema.specs.declared.schema.Schema.{Schema}
use Rattle.rt_mutable.specs.Consuming.{Consuming}
use Rattle.rt_stream.specs.Log.{Log, messages_of}
use Rattle.rt_model.specs.declared.request.Reason.TheVariants.{Force}
use Rattle.rt_model.specs.declared.seg_meta.SegMeta.{SegMeta}
use Rattle.rt_model.specs.declared.setup.Setup.{Setup}
use Rattle.rt_consumer.specs.declared.phase.Phase.{Phase}
use Rattle.rt_consumer.specs.declared.phase.Phase.TheVariants as phase
use Rattle.rt_consumer.specs.declared.stage.Stage.{Stage}
use Rattle.rt_consumer.specs.declared.stage.Stage.TheVariants.{InitialConsuming, CatchingUp, Holding, ConsumingToOnline, Retaining, Building, Starting, Uploading, Ending}
use Rattle.rt_consumer.specs.declared.consumer.Consumer.{Consumer}
use Rattle.rt_consumer.specs.Consumer.{at, started_of}
use Rattle.rt_consumer.specs.Requests.{forced, forced_at, stopped, stopped_at, stops_at}
use Rattle.rt_replica.specs.Held.{placed_from}
use Rattle.rt_replica.specs.HeldSoFar.{IsHeldSoFar, HoldsInSoFar, HoldsSoFar}

pub started_held : (setup : Setup) (p : Partition) (q : Sequence) (meta : SegMeta) (now : Moment) (log : Log) → IsHeldSoFar log (started_of setup p q meta now)
started_held setup p q meta now log =
    let none : 0 ≡ meta.start.0 - meta.start.0 = omega arith in
    record {
      ordered = omega arith;
      within = omega arith;
      all = ap (λ n. placed_from setup.schema meta.start.0 (take n (drop meta.start.0 (messages_of log p)))) none;
    }

abbrev some : Phase → Option Phase
some p = Some p

none_some : (p : Phase) → None ≡ some p → ⊥
none_some p e = cc

same : (p n : Phase) → some p ≡ some n → p ≡ n
same p n e = cc

module _ (schema : Schema) (ms : List (List ℕ)) (start : Offset) where
  forced_by : (rows : Consuming) (n : Phase) (b : Bool) → cond b (some (at rows (Holding Force))) None ≡ some n → HoldsSoFar schema ms start rows
      → HoldsInSoFar schema ms start n
  forced_by rows n true e h = subst (HoldsInSoFar schema ms start) (same (at rows (Holding Force)) n e) h
  forced_by rows n false e h = absurd (none_some n e)

  forced_at_held : (rows : Consuming) (s : Stage) (n : Phase) → forced_at rows s ≡ some n → HoldsSoFar schema ms start rows → HoldsInSoFar schema ms start n
  forced_at_held rows InitialConsuming n e h = forced_by rows n (nat_lt rows.start.0 rows.end.0) e h
  forced_at_held rows (CatchingUp target reason) n e h = absurd (none_some n e)
  forced_at_held rows (Holding reason) n e h = absurd (none_some n e)
  forced_at_held rows (ConsumingToOnline end done) n e h = absurd (none_some n e)
  forced_at_held rows (Retaining done) n e h = absurd (none_some n e)
  forced_at_held rows (Building reason) n e h = absurd (none_some n e)
  forced_at_held rows (Starting reason built) n e h = absurd (none_some n e)
  forced_at_held rows (Uploading reason built) n e h = absurd (none_some n e)
  forced_at_held rows (Ending reason built path) n e h = absurd (none_some n e)

  forced_in_held : (p n : Phase) → forced p ≡ some n → HoldsInSoFar schema ms start p → HoldsInSoFar schema ms start n
  forced_in_held (phase.Unsealed o) n e h = forced_at_held o.rows o.stage n e h
  forced_in_held (phase.Retained kept) n e h = absurd (none_some n e)
  forced_in_held (phase.Committed kept) n e h = absurd (none_some n e)
  forced_in_held (phase.Discarded d) n e h = absurd (none_some n e)

  stopped_by : (rows : Consuming) (n : Phase) (b : Bool) → cond b (some (stopped_at rows.end)) None ≡ some n → HoldsSoFar schema ms start rows
      → HoldsInSoFar schema ms start n
  stopped_by rows n true e h = subst (HoldsInSoFar schema ms start) (same (stopped_at rows.end) n e) (h.ordered, h.within)
  stopped_by rows n false e h = absurd (none_some n e)

  stopped_in_held : (p n : Phase) → stopped p ≡ some n → HoldsInSoFar schema ms start p → HoldsInSoFar schema ms start n
  stopped_in_held (phase.Unsealed o) n e h = stopped_by o.rows n (stops_at o.stage) e h
  stopped_in_held (phase.Retained kept) n e h = absurd (none_some n e)
  stopped_in_held (phase.Committed kept) n e h = absurd (none_some n e)
  stopped_in_held (phase.Discarded d) n e h = absurd (none_some n e)

pub forced_held : (r : Consumer) (n : Phase) (log : Log) → forced r.phase ≡ Some n → IsHeldSoFar log r → IsHeldSoFar log (record r { phase = n; waited = None })
forced_held r n log e h = forced_in_held r.settings.schema (messages_of log r.partition) r.start r.phase n e h

pub stopped_held : (r : Consumer) (n : Phase) (log : Log) → stopped r.phase ≡ Some n → IsHeldSoFar log r → IsHeldSoFar log (record r { phase = n; waited = None })
stopped_held r n log e h = stopped_in_held r.settings.schema (messages_of log r.partition) r.start r.phase n e h
