-- What the calls of a server need of it.
use Rattle.std.proofs.Common.{◌≡◌, ◌<◌, ◌≤◌, length, ap, sym, subst}
use Rattle.rt_base.specs.declared.numbers.Offset.{Offset}
use Rattle.rt_base.specs.declared.numbers.Partition.{Partition}
use Rattle.rt_base.specs.declared.numbers.Sequence.{Sequence}
use Rattle.rt_consumer.specs.Consumer.{cur}
use Rattle.rt_ground.specs.StoreCalls.{seen_by, shared_meaning}
use Rattle.rt_live_names.specs.Names.{Names}
use Rattle.rt_model.specs.Lawful.{IsLawfulHistory}
use Rattle.rt_model.specs.Starting.{Starting}
use Rattle.rt_model.specs.declared.setup.Setup.{Setup}
use Rattle.rt_past.specs.Segments.{IsBegun}
use Rattle.rt_server.specs.Logs.{HasMessages}
use Rattle.rt_server.specs.Past.{HasHistory, StartsWithItsNode}
use Rattle.rt_server.specs.Table.{Segment, segment_of}
use Rattle.rt_server.proofs.LastingEntries.{at_segment}
use Rattle.rt_server.proofs.OwnPuts.{replica_own}
use Rattle.rt_store.specs.Contents.{starting_of}
use Rattle.rt_stream.specs.Log.{Log, messages_of}
use Rattle.rt_live_server.specs.Acting.{ActingNow, HasTakenTo, IsActing, IsLengthOf}
use Rattle.rt_live_server.proofs.Acts.{view_at}

module _ (n : Names) (s : Starting) (a : ActingNow) (k : IsActing n s a) where
  -- the store's history is lawful
  pub history_needed : HasHistory a.server (shared_meaning s a.fronts.store)
  history_needed =
      subst (λ (x : Setup). IsLawfulHistory (starting_of x) (seen_by s a.fronts.store)) (sym k.part.own.of_setup)
      (subst (λ (x : Starting). IsLawfulHistory (starting_of n.setup) (seen_by x a.fronts.store)) k.starting k.part.view.lawful)

  -- a replica starts where its node was created
  pub start_needed : (p : Partition) (q : Sequence) → StartsWithItsNode a.server (shared_meaning s a.fronts.store) p q
  start_needed p q r found =
      let held = replica_own n.setup (view_at n a) a.server k.part.own p q r found in
      let here : Segment = (p, q) in
      let at = at_segment (λ x y. (x.0 < n.setup.partitions) × IsBegun (view_at n a).history x y r.start) (segment_of r) here held.0 (held.2.partition, held.2.begun) in (
        subst (λ (x : Setup). p.0 < x.partitions) (sym k.part.own.of_setup) at.0,
        subst (λ (x : Starting). IsBegun (seen_by x a.fronts.store) p q r.start) k.starting at.1,
      )

  -- the stream has all that a replica took
  pub messages_needed : (log : Log) (p : Partition) (q : Sequence) (size : Offset) → IsLengthOf log p size → HasTakenTo a.server p q size → HasMessages log a.server.table p q
  messages_needed log p q size is took r found =
      let held = replica_own n.setup (view_at n a) a.server k.part.own p q r found in
      let same : r.partition ≡ p = ap (λ (x : Segment). x.0) held.0 in
      let within : (cur r).0 ≤ length (messages_of log p) = subst (λ (x : Offset). (cur r).0 ≤ x.0) is.1 (took r found) in (
        subst (λ (x : Partition). x.0 < length log) (sym same) is.0,
        subst (λ (x : Partition). (cur r).0 ≤ length (messages_of log x)) (sym same) within,
      )
