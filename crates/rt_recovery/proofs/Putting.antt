-- A world in which one server's replica has gone on.
use Rattle.std.proofs.Common.{◌≡◌, ℕ, true, List, Some, sym, ◌∙◌, ap, subst}
use Rattle.std.specs.Map.{keys_of}
use Rattle.std.proofs.lemmas.Option.{same_Some}
use Rattle.rt_base.specs.declared.numbers.Partition.{Partition}
use Rattle.rt_base.specs.declared.numbers.Sequence.{Sequence}
use Rattle.rt_consumer.specs.declared.consumer.Consumer.{Consumer}
use Rattle.rt_consumer.specs.declared.phase.Phase.TheVariants as phase
use Rattle.rt_consumer.specs.declared.unsealed.Unsealed.{Unsealed}
use Rattle.rt_entry.specs.declared.entry.Entry.{Entry}
use Rattle.rt_entry.specs.declared.entry.Entry.TheVariants.{Replica}
use Rattle.rt_lists.specs.Members.{Has}
use Rattle.rt_model.specs.Completion.{Completion}
use Rattle.rt_nodes.specs.declared.server_node.ServerNode.{ServerNode}
use Rattle.rt_server.specs.Table.{entry_of, is_segment, put_back, replica_at, segment_cmp, Segment, Segments}
use Rattle.rt_server.proofs.EachEntry.{found_each, put_each, Each}
use Rattle.rt_server.proofs.Kept.{replica_found}
use Rattle.rt_server.proofs.LastingTables.{at, lookup-Has, segment_exact}
use Rattle.rt_server.proofs.Merge.{Ascending}
use Rattle.rt_state.specs.declared.state.State.{State}
use Rattle.rt_heal.proofs.Moving.{found_set}
use Rattle.rt_calm.specs.Again.{awaits}
use Rattle.rt_calm.proofs.Sums.{HasPut}
use Rattle.rt_recovery.specs.ByRows.{IsByRows, IsByRowsAt}
use Rattle.rt_recovery.proofs.Entries.{entry_found, put_stays}
use Rattle.rt_recovery.proofs.Still.{changed_by_rows, entries_by_rows, keeps_awaited, HasAwaited, IsEntryByRows, IsStillAround}

-- a machine waits for a replica
pub record IsAwaited (i : ℕ) (r : Consumer) (m : Completion) : Type 0 where
  pub rows : Unsealed
  pub unsealed : r.phase ≡ phase.Unsealed rows
  pub awaited : awaits (Some m) i rows.stage rows.rows.end ≡ true

module _ (w y : State) (i : ℕ) (n new : ServerNode) (p : Partition) (q : Sequence) (r next : Consumer) (put : HasPut w y i n new p q r next) (k : IsByRows w) where
  abbrev old : List (Segment × Entry)
  old = n.server.table.entries

  found : entry_of n.server.table p q ≡ Some (Replica r)
  found = replica_found (entry_of n.server.table p q) r put.found

  -- what is said of it before
  pub own_stands : IsByRowsAt w i (p, q) r r.phase
  own_stands = found_each (IsEntryByRows w i) old p q (Replica r) (entries_by_rows w k i n put.there) found

  now_has : (x : Segment × Entry) → Has (put_back n.server.table p q (Replica next)).entries x → Has new.server.table.entries x
  now_has x has = subst (λ (t : Segments). Has t.entries x) (sym put.table) has

  -- and so of the world behind it
  pub put_by_rows : IsStillAround w y → Ascending (keys_of old) → IsByRowsAt w i (p, q) next next.phase
      → ((m : Completion) → IsAwaited i r m → IsAwaited i next m) → IsByRows y
  put_by_rows around up stands awaited =
      changed_by_rows w y around i n new put.there put.servers k
      (keeps_awaited i n new p q (λ x other has. now_has x (put_stays p q x other old (Replica next) has)) own)
      (subst (λ (t : Segments). Each (IsEntryByRows w i) t.entries) (sym put.table)
      (put_each (IsEntryByRows w i) old p q (Replica next) (entries_by_rows w k i n put.there) stands))
    where
      own : (m : Completion) → HasAwaited i n (p, q) m → HasAwaited i new (p, q) m
      own m h =
          let same : h.replica ≡ r =
          same_Some h.replica r (sym (ap replica_at (entry_found old (p, q) (Replica h.replica) up h.has)) ∙ put.found) in
          let a = awaited m (record { rows = h.rows; unsealed = ap (λ (x : Consumer). x.phase) (sym same) ∙ h.unsealed; awaited = h.awaited }) in
          record {
            replica = next;
            has =
                now_has (at (p, q) (Replica next))
                (lookup-Has segment_cmp segment_exact (put_back n.server.table p q (Replica next)).entries (p, q) (Replica next)
                (found_set (is_segment p q) old (Replica r) (Replica next) found));
            rows = a.rows;
            unsealed = a.unsealed;
            awaited = a.awaited;
          }
