-- What lies ahead of all replicas, as one of them is put back.
use Rattle.std.proofs.Common.{◌≡◌, ℕ, zero, suc, ◌+◌, ◌<◌, Bool, true, false, cond, List, [], ◌∷◌, Some, sym, ◌∙◌, ap, subst, arith, slice_get}
use Rattle.std.specs.Map.{lookup, set_value}
use Rattle.std.specs.Prelude.{slice_set}
use Rattle.std.proofs.lemmas.Option.{none-some, same_Some}
use Rattle.rt_base.specs.declared.numbers.Partition.{Partition}
use Rattle.rt_base.specs.declared.numbers.Sequence.{Sequence}
use Rattle.rt_consumer.specs.declared.consumer.Consumer.{Consumer}
use Rattle.rt_entry.specs.declared.entry.Entry.{Entry}
use Rattle.rt_entry.specs.declared.entry.Entry.TheVariants.{Replica}
use Rattle.rt_nodes.specs.declared.server_node.ServerNode.{ServerNode}
use Rattle.rt_server.specs.Table.{entry_of, is_segment, put_back, replica_of, Segment, Segments}
use Rattle.rt_server.proofs.Kept.{replica_found}
use Rattle.rt_state.specs.declared.state.State.{State}
use Rattle.rt_stream.specs.Log.{Log}
use Rattle.rt_calm.specs.Ahead.{ahead_entry, ahead_in_world, ahead_of, ahead_servers, ahead_table}

-- a table's sum changes by the entry that is put
table_sum : (log : Log) (is : Segment → Bool) (es : List (Segment × Entry)) (old new : Entry) → lookup is es ≡ Some old
    → ahead_entry log old + ahead_table log (set_value is es new) ≡ ahead_entry log new + ahead_table log es
table_sum log is [] old new found = absurd (none-some old found)
table_sum log is (x ∷ xs) old new found = by_key (is x.0) found (table_sum log is xs old new)
  where
    by_key : (b : Bool) → cond b (Some x.1) (lookup is xs) ≡ Some old
        → (lookup is xs ≡ Some old → ahead_entry log old + ahead_table log (set_value is xs new) ≡ ahead_entry log new + ahead_table log xs)
        → ahead_entry log old + ahead_table log (cond b ((x.0, new) ∷ xs) (x ∷ set_value is xs new)) ≡ ahead_entry log new + (ahead_entry log x.1 + ahead_table log xs)
    by_key true own more = omega (arith, ap (ahead_entry log) (same_Some x.1 old own))
    by_key false other more = omega (arith, more other)

-- and that of all servers by the one of a table
servers_sum : (log : Log) (ns : List ServerNode) (i : ℕ) (old new : ServerNode) → slice_get ns i ≡ Some old
    → ahead_table log old.server.table.entries + ahead_servers log (slice_set ns i new) ≡ ahead_table log new.server.table.entries + ahead_servers log ns
servers_sum log [] i old new there = absurd (none-some old there)
servers_sum log (n ∷ ns) zero old new there = omega (arith, ap (λ (m : ServerNode). ahead_table log m.server.table.entries) (same_Some n old there))
servers_sum log (n ∷ ns) (suc i) old new there = omega (arith, servers_sum log ns i old new there)

-- a server's replica was put back
pub record HasPut (w y : State) (i : ℕ) (n new : ServerNode) (p : Partition) (q : Sequence) (r next : Consumer) : Type 0 where
  pub there : slice_get w.servers i ≡ Some n
  pub found : replica_of n.server.table p q ≡ Some r
  pub table : new.server.table ≡ put_back n.server.table p q (Replica next)
  pub servers : y.servers ≡ slice_set w.servers i new
  pub log : y.log ≡ w.log

module _ (w y : State) (i : ℕ) (n new : ServerNode) (p : Partition) (q : Sequence) (r next : Consumer) (k : HasPut w y i n new p q r next) where
  pub put_sum : ahead_of w.log r + ahead_in_world y ≡ ahead_of w.log next + ahead_in_world w
  put_sum =
      let table : ahead_of w.log r + ahead_table w.log new.server.table.entries ≡ ahead_of w.log next + ahead_table w.log n.server.table.entries =
      subst (λ (u : Segments). ahead_of w.log r + ahead_table w.log u.entries ≡ ahead_of w.log next + ahead_table w.log n.server.table.entries) (sym k.table)
      (table_sum w.log (is_segment p q) n.server.table.entries (Replica r) (Replica next) (replica_found (entry_of n.server.table p q) r k.found)) in
      let world : ahead_in_world y ≡ ahead_servers w.log (slice_set w.servers i new) =
      ap (λ (l : Log). ahead_servers l y.servers) k.log ∙ ap (ahead_servers w.log) k.servers in
      omega (arith, table, world, servers_sum w.log w.servers i n new k.there)

  pub put_falls : ahead_of w.log next < ahead_of w.log r → ahead_in_world y < ahead_in_world w
  put_falls less = omega (arith, less, put_sum)

  pub put_still : ahead_of w.log next ≡ ahead_of w.log r → ahead_in_world y ≡ ahead_in_world w
  put_still same = omega (arith, same, put_sum)
