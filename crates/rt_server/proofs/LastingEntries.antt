-- What lasts of a server lasts of its entries, one by one.
use Rattle.std.proofs.Common.{◌≡◌, Some, sym, ap, subst, ◌∙◌}
use Rattle.rt_base.specs.declared.numbers.Partition.{Partition}
use Rattle.rt_base.specs.declared.numbers.Sequence.{Sequence}
use Rattle.rt_model.specs.declared.setup.Setup.{Setup}
use Rattle.rt_past.specs.Past.{Past}
use Rattle.rt_consumer.specs.declared.consumer.Consumer.{Consumer}
use Rattle.rt_consumer.specs.Consumer.{IsConsumer}
use Rattle.rt_replica.specs.Lasting.{IsReplica}
use Rattle.rt_entry.specs.declared.entry.Entry.{Entry}
use Rattle.rt_entry.specs.declared.entry.Entry.TheVariants.{Replica}
use Rattle.rt_entry.specs.Entry.{IsEntry}
use Rattle.rt_server.specs.Calls.{InTable}
use Rattle.rt_server.specs.Lasting.{IsEntryOver, IsServerOver}
use Rattle.rt_server.specs.Table.{Segment, ServerState, entry_of, replica_of, segment_of, with_table}
use Rattle.rt_server.proofs.EachEntry.{found_each}
use Rattle.rt_server.proofs.Kept.{found_is, replica_found}
use Rattle.rt_server.proofs.LastingAsks.{server_of}

abbrev pub segment : Partition → Sequence → Segment
segment p q = (p, q)

pub at_segment : (P : Partition → Sequence → Type 0) (a b : Segment) → a ≡ b → P a.0 a.1 → P b.0 b.1
at_segment P a b e h = subst (λ (s : Segment). P s.0 s.1) e h

module _ (setup : Setup) (past : Past) (s : ServerState) (k : IsServerOver setup past s) where
  abbrev Over : Segment → Entry → Type 0
  Over x e = IsEntryOver setup past s.numbers.instance s.numbers.incarnation x e

  pub found_over : (p : Partition) (q : Sequence) (e : Entry) → entry_of s.table p q ≡ Some e → Over (segment p q) e
  found_over p q e found = found_each Over s.table.entries p q e k.entries found

  -- the segment's replica
  pub replica_held : (p : Partition) (q : Sequence) (r : Consumer) → replica_of s.table p q ≡ Some r
      → (segment_of r ≡ segment p q) × IsConsumer r × IsReplica setup past s.numbers.instance s.numbers.incarnation r
  replica_held p q r found =
      let there = replica_found (entry_of s.table p q) r found in
      let over : Over (segment p q) (Replica r) = found_over p q (Replica r) there in
      let own : IsEntry s.setup (Replica r) = found_is s.setup s.table p q (Replica r) k.kept there in
      (over.0, own.0, over.1)

-- what lasts is kept, and no number is made
abbrev pub Keeps : Setup → Past → ServerState → ServerState → Type 0
Keeps setup past old new = IsServerOver setup past new × (new.numbers ≡ old.numbers)

-- ---- a server by its parts

pub in_table : (old new : ServerState) → InTable old new → with_table old new.table ≡ new
in_table old new h =
    ap (λ x. server_of x old.numbers new.table) (sym h.0) ∙ ap (λ n. server_of new.setup n new.table) (sym h.1)
