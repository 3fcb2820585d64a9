-- What a server has of its own is kept as an entry of its table is put, changed or taken out.
use Rattle.std.proofs.Common.{◌≡◌, Option, Some, None, Result, sym, subst}
use Rattle.rt_base.specs.declared.numbers.Partition.{Partition}
use Rattle.rt_base.specs.declared.numbers.Sequence.{Sequence}
use Rattle.rt_model.specs.declared.setup.Setup.{Setup}
use Rattle.rt_past.specs.Past.{Past}
use Rattle.rt_consumer.specs.declared.consumer.Consumer.{Consumer}
use Rattle.rt_consumer.specs.declared.refused.ReplicaRefused.{ReplicaRefused}
use Rattle.rt_consumer.specs.Consumer.{IsConsumer}
use Rattle.rt_replica.specs.Own.{IsOwnReplica}
use Rattle.rt_entry.specs.declared.entry.Entry.{Entry}
use Rattle.rt_entry.specs.declared.entry.Entry.TheVariants.{Replica}
use Rattle.rt_entry.specs.declared.refused.ServerRefused.{ServerRefused}
use Rattle.rt_entry.specs.Calls.{ReplicaCall}
use Rattle.rt_entry.specs.Entry.{IsEntry}
use Rattle.rt_server.specs.Calls.{ThroughAt}
use Rattle.rt_server.specs.Kept.{IsServer}
use Rattle.rt_server.specs.Lasting.{AreTargets}
use Rattle.rt_server.specs.Own.{IsOwnEntry, IsOwnServer}
use Rattle.rt_server.specs.Table.{Segment, Segments, ServerState, entry_of, put_back, replica_of, segment_of, with_entry, with_table, without}
use Rattle.rt_server.proofs.EachEntry.{Each, add_each, found_each, leave_each, put_each}
use Rattle.rt_server.proofs.Kept.{found_is, replica_found}

module _ (setup : Setup) (view : Past) (s : ServerState) (k : IsOwnServer setup view s) where
  abbrev OwnEntry : Segment → Entry → Type 0
  OwnEntry x e = IsOwnEntry setup view s.numbers.instance s.numbers.incarnation x e

  -- the server with another table
  table_own : (t : Segments) → IsServer s.setup t → AreTargets view.history s.numbers.instance t.targets → Each OwnEntry t.entries
      → IsOwnServer setup view (with_table s t)
  table_own t kept targets entries = record {
    of_setup = k.of_setup;
    kept = kept;
    incarnation = k.incarnation;
    targets = targets;
    entries = entries;
  }

  pub found_own : (p : Partition) (q : Sequence) (e : Entry) → entry_of s.table p q ≡ Some e → OwnEntry (p, q) e
  found_own p q e found = found_each OwnEntry s.table.entries p q e k.entries found

  -- the segment's replica
  pub replica_own : (p : Partition) (q : Sequence) (r : Consumer) → replica_of s.table p q ≡ Some r
      → (segment_of r ≡ (p, q)) × IsConsumer r × IsOwnReplica setup view s.numbers.instance s.numbers.incarnation r
  replica_own p q r found =
      let there = replica_found (entry_of s.table p q) r found in
      let over : OwnEntry (p, q) (Replica r) = found_own p q (Replica r) there in
      let own : IsEntry s.setup (Replica r) = found_is s.setup s.table p q (Replica r) k.kept there in
      (over.0, own.0, over.1)

  pub put_own : (p : Partition) (q : Sequence) (e : Entry) → IsServer s.setup (put_back s.table p q e) → OwnEntry (p, q) e
      → IsOwnServer setup view (with_table s (put_back s.table p q e))
  put_own p q e kept new = table_own (put_back s.table p q e) kept k.targets (put_each OwnEntry s.table.entries p q e k.entries new)

  pub add_own : (p : Partition) (q : Sequence) (e : Entry) → IsServer s.setup (with_entry s.table p q e) → OwnEntry (p, q) e
      → IsOwnServer setup view (with_table s (with_entry s.table p q e))
  add_own p q e kept new = table_own (with_entry s.table p q e) kept k.targets (add_each OwnEntry s.table.entries p q e k.entries new)

  pub leave_own : (p : Partition) (q : Sequence) → IsServer s.setup (without s.table p q) → IsOwnServer setup view (with_table s (without s.table p q))
  leave_own p q kept = table_own (without s.table p q) kept k.targets (leave_each OwnEntry s.table.entries p q k.entries)

  -- what a replica's call keeps of its entry, it keeps of the server
  pub through_own : {X : Type 0} (quiet : Type 0) (call : ReplicaCall X) (t : Segments) (p : Partition) (q : Sequence) (result : Result X ServerRefused) (o : Option Consumer)
      → replica_of s.table p q ≡ o
      → ((r next : Consumer) (answer : Result X ReplicaRefused) → IsConsumer r → OwnEntry (p, q) (Replica r) → call r next answer → OwnEntry (p, q) (Replica next))
      → ThroughAt o quiet call s.table t p q result → IsServer s.setup t → IsOwnServer setup view (with_table s t)
  through_own quiet call t p q result None found keeps h kept = subst (λ u. IsOwnServer setup view (with_table s u)) (sym h.2) k
  through_own quiet call t p q result (Some r) found keeps h kept =
      let is = replica_own p q r found in
      subst (λ u. IsOwnServer setup view (with_table s u)) (sym h.4)
      (put_own p q (Replica h.0) (subst (IsServer s.setup) h.4 kept) (keeps r h.0 h.1 is.1 (is.0, is.2) h.2))
