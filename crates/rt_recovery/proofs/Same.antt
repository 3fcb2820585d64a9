-- Worlds that are the same: as much lies ahead in them, and the same replicas commit.
use Rattle.std.proofs.Common.{◌≡◌, inl, inr, ℕ, zero, suc, ◌+◌, Bool, true, false, cond, List, [], ◌∷◌, length, Option, Some, None, refl, sym, ◌∙◌, ap, subst, arith, slice_get}
use Rattle.std.specs.Map.{lookup, set_value}
use Rattle.std.specs.Prelude.{slice_set}
use Rattle.std.proofs.lemmas.Option.{none-some, same_Some}
use Rattle.rt_base.specs.declared.numbers.Partition.{Partition}
use Rattle.rt_base.specs.declared.numbers.Sequence.{Sequence}
use Rattle.rt_consumer.specs.declared.consumer.Consumer.{Consumer}
use Rattle.rt_consumer.specs.declared.phase.Phase.{Phase}
use Rattle.rt_consumer.specs.declared.phase.Phase.TheVariants as phase
use Rattle.rt_controller.specs.declared.segment_machine.SegmentMachine.{SegmentMachine}
use Rattle.rt_entry.specs.declared.entry.Entry.{Entry}
use Rattle.rt_entry.specs.declared.entry.Entry.TheVariants.{Committed, Replica}
use Rattle.rt_lists.specs.Members.{Has}
use Rattle.rt_model.specs.Completion.{Completion}
use Rattle.rt_model.specs.declared.node.Seen.{Seen}
use Rattle.rt_nodes.specs.declared.server_node.ServerNode.{ServerNode}
use Rattle.rt_server.specs.Table.{entry_of, is_segment, segment_of, Segment, Segments}
use Rattle.rt_server.proofs.Kept.{replica_found}
use Rattle.rt_state.specs.IsSafeWorld.{IsSafeWorld}
use Rattle.rt_state.specs.declared.state.State.{State}
use Rattle.rt_stream.specs.Log.{messages_of, Log}
use Rattle.rt_heal.proofs.Most.{own_segment}
use Rattle.rt_calm.specs.Again.{again_by, again_entry, again_servers, again_table, ahead_still, asked_machines, awaits, machine_of}
use Rattle.rt_calm.specs.Ahead.{ahead_entry, ahead_in, ahead_in_world, ahead_servers, ahead_table}
use Rattle.rt_calm.proofs.Sums.{HasPut}
use Rattle.rt_recovery.specs.Same.{phase_in, phases_by, phases_in, phases_of, IsCommitter, IsSame}

pub same_at : (w v : State) → v ≡ w → IsSame w v
same_at w v is = subst (IsSame w) (sym is) (record { phases = refl; machines = λ s. refl; written = refl })

pub same_then : (w m v : State) → IsSame w m → IsSame m v → IsSame w v
same_then w m v x y =
    record { phases = y.phases ∙ x.phases; machines = λ s. y.machines s ∙ x.machines s; written = y.written ∙ x.written }

-- ---- what lies ahead

abbrev ahead_phase : Log → Segment → Option Phase → ℕ
ahead_phase log s None = 0
ahead_phase log s (Some ph) = ahead_in ph (length (messages_of log s.0))

abbrev ahead_row : Log → List (Segment × Option Phase) → ℕ
ahead_row log [] = 0
ahead_row log (x ∷ xs) = ahead_phase log x.0 x.1 + ahead_row log xs

abbrev ahead_rows : Log → List (List (Segment × Option Phase)) → ℕ
ahead_rows log [] = 0
ahead_rows log (x ∷ xs) = ahead_row log x + ahead_rows log xs

-- each replica is one of the segment under which it stands
abbrev AreOwn : List (Segment × Entry) → Type 0
AreOwn es = (x : Segment × Entry) (r : Consumer) → x.1 ≡ Replica r → Has es x → segment_of r ≡ x.0

ahead_own : (log : Log) (s : Segment) (e : Entry) → ((r : Consumer) → e ≡ Replica r → segment_of r ≡ s) → ahead_entry log e ≡ ahead_phase log s (phase_in e)
ahead_own log s (Replica r) own = ap (λ (x : Segment). ahead_in r.phase (length (messages_of log x.0))) (own r refl)
ahead_own log s (Committed c) own = refl

ahead_in_row : (log : Log) (es : List (Segment × Entry)) → AreOwn es → ahead_table log es ≡ ahead_row log (phases_in es)
ahead_in_row log [] own = refl
ahead_in_row log (e ∷ es) own =
    omega (
      arith,
      ahead_own log e.0 e.1 (λ r is. own e r is (inl refl)),
      ahead_in_row log es (λ x r is has. own x r is (inr has)),
    )

ahead_in_rows : (log : Log) (ns : List ServerNode) → ((i : ℕ) (n : ServerNode) → slice_get ns i ≡ Some n → AreOwn n.server.table.entries)
    → ahead_servers log ns ≡ ahead_rows log (phases_by ns)
ahead_in_rows log [] own = refl
ahead_in_rows log (n ∷ ns) own =
    omega (
      arith,
      ahead_in_row log n.server.table.entries (own zero n refl),
      ahead_in_rows log ns (λ i m there. own (suc i) m there),
    )

-- ---- what may lie ahead again

abbrev again_phase : List Seen → Option Completion → ℕ → Segment → Option Phase → ℕ
again_phase h m i s None = 0
again_phase h m i s (Some ph) = again_by h s m i ph

abbrev again_row : List Seen → (Segment → Option Completion) → ℕ → List (Segment × Option Phase) → ℕ
again_row h machine i [] = 0
again_row h machine i (x ∷ xs) = again_phase h (machine x.0) i x.0 x.1 + again_row h machine i xs

abbrev again_rows : List Seen → (Segment → Option Completion) → ℕ → List (List (Segment × Option Phase)) → ℕ
again_rows h machine i [] = 0
again_rows h machine i (x ∷ xs) = again_row h machine i x + again_rows h machine (suc i) xs

abbrev machines_by : List SegmentMachine → Segment → Option Completion
machines_by ms s = machine_of ms s.0 s.1

again_own : (h : List Seen) (ms : List SegmentMachine) (i : ℕ) (s : Segment) (e : Entry) → again_entry h ms i s e ≡ again_phase h (machine_of ms s.0 s.1) i s (phase_in e)
again_own h ms i s (Replica r) = refl
again_own h ms i s (Committed c) = refl

again_in_row : (h : List Seen) (ms : List SegmentMachine) (i : ℕ) (es : List (Segment × Entry))
    → again_table h ms i es ≡ again_row h (machines_by ms) i (phases_in es)
again_in_row h ms i [] = refl
again_in_row h ms i (e ∷ es) = omega (arith, again_own h ms i e.0 e.1, again_in_row h ms i es)

again_in_rows : (h : List Seen) (ms : List SegmentMachine) (i : ℕ) (ns : List ServerNode)
    → again_servers h ms i ns ≡ again_rows h (machines_by ms) i (phases_by ns)
again_in_rows h ms i [] = refl
again_in_rows h ms i (n ∷ ns) =
    omega (arith, again_in_row h ms i n.server.table.entries, again_in_rows h ms (suc i) ns)

module _ (h : List Seen) (f g : Segment → Option Completion) (alike : (s : Segment) → f s ≡ g s) where
  row_alike : (i : ℕ) (xs : List (Segment × Option Phase)) → again_row h f i xs ≡ again_row h g i xs
  row_alike i [] = refl
  row_alike i (x ∷ xs) =
      omega (arith, ap (λ (m : Option Completion). again_phase h m i x.0 x.1) (alike x.0), row_alike i xs)

  rows_alike : (i : ℕ) (xs : List (List (Segment × Option Phase))) → again_rows h f i xs ≡ again_rows h g i xs
  rows_alike i [] = refl
  rows_alike i (x ∷ xs) = omega (arith, row_alike i x, rows_alike (suc i) xs)

-- ---- as much in worlds that are the same

module _ (w v : State) (safe : IsSafeWorld w) (also : IsSafeWorld v) (log : v.log ≡ w.log) (same : IsSame w v) where
  pub same_ahead : ahead_in_world v ≡ ahead_in_world w
  same_ahead =
      ahead_in_rows v.log v.servers (λ i n there x r is has. own_segment v also i n there x r is has)
      ∙ ap (λ (l : Log). ahead_rows l (phases_of v)) log ∙ ap (ahead_rows w.log) same.phases
      ∙ sym (ahead_in_rows w.log w.servers (λ i n there x r is has. own_segment w safe i n there x r is has))

  pub same_still : ahead_still v ≡ ahead_still w
  same_still =
      let again : again_servers v.store.writes (asked_machines v) 0 v.servers ≡ again_servers w.store.writes (asked_machines w) 0 w.servers =
      ap (λ (h : List Seen). again_servers h (asked_machines v) 0 v.servers) same.written
      ∙ again_in_rows w.store.writes (asked_machines v) 0 v.servers
      ∙ ap (again_rows w.store.writes (machines_by (asked_machines v)) 0) same.phases
      ∙ rows_alike w.store.writes (machines_by (asked_machines v)) (machines_by (asked_machines w)) same.machines 0 (phases_of w)
      ∙ sym (again_in_rows w.store.writes (asked_machines w) 0 w.servers) in
      omega (arith, again, same_ahead)

-- ---- who commits

phases_at : (ns : List ServerNode) (i : ℕ) (n : ServerNode) → slice_get ns i ≡ Some n → slice_get (phases_by ns) i ≡ Some (phases_in n.server.table.entries)
phases_at [] i n there = absurd (none-some n there)
phases_at (m ∷ ms) zero n there = ap (λ (x : ServerNode). Some (phases_in x.server.table.entries)) (same_Some m n there)
phases_at (m ∷ ms) (suc i) n there = phases_at ms i n there

record IsServerWith (ns : List ServerNode) (i : ℕ) (phases : List (Segment × Option Phase)) : Type 0 where
  node : ServerNode
  there : slice_get ns i ≡ Some node
  is : phases_in node.server.table.entries ≡ phases

server_with : (ns : List ServerNode) (i : ℕ) (phases : List (Segment × Option Phase)) → slice_get (phases_by ns) i ≡ Some phases → IsServerWith ns i phases
server_with [] i phases there = absurd (none-some phases there)
server_with (m ∷ ms) zero phases there =
    record { node = m; there = refl; is = same_Some (phases_in m.server.table.entries) phases there }
server_with (m ∷ ms) (suc i) phases there =
    let x = server_with ms i phases there in record { node = x.node; there = x.there; is = x.is }

phase_has : (es : List (Segment × Entry)) (s : Segment) (e : Entry) → Has es (s, e) → Has (phases_in es) (s, phase_in e)
phase_has [] s e has = absurd has
phase_has (x ∷ xs) s e (inl same) = inl (ap (λ (y : Segment × Entry). (y.0, phase_in y.1)) same)
phase_has (x ∷ xs) s e (inr has) = inr (phase_has xs s e has)

record IsReplicaIn (es : List (Segment × Entry)) (s : Segment) (ph : Phase) : Type 0 where
  replica : Consumer
  has : Has es (s, Replica replica)
  stands : replica.phase ≡ ph

replica_in : (es : List (Segment × Entry)) (s : Segment) (ph : Phase) → Has (phases_in es) (s, Some ph) → IsReplicaIn es s ph
replica_in [] s ph has = absurd has
replica_in ((k, Replica r) ∷ xs) s ph (inl same) =
    record {
      replica = r;
      has = inl (ap (λ (y : Segment × Option Phase). (y.0, Replica r)) same);
      stands = same_Some r.phase ph (ap (λ (y : Segment × Option Phase). y.1) same);
    }
replica_in ((k, Committed c) ∷ xs) s ph (inl same) =
    absurd (none-some ph (ap (λ (y : Segment × Option Phase). y.1) same))
replica_in (x ∷ xs) s ph (inr has) =
    let y = replica_in xs s ph has in record { replica = y.replica; has = inr y.has; stands = y.stands }

-- with the same rows
pub same_rows : (w v : State) (i : ℕ) (s : Segment) → IsSame w v → (c : IsCommitter w i s) → (d : IsCommitter v i s) × (d.rows ≡ c.rows)
same_rows w v i s same c =
    let at = phases_at w.servers i c.node c.there in
    let x = server_with v.servers i (phases_in c.node.server.table.entries) (ap (λ rows. slice_get rows i) same.phases ∙ at) in
    let was : Has (phases_in c.node.server.table.entries) (s, Some (phase.Unsealed c.rows)) =
    subst (λ (ph : Phase). Has (phases_in c.node.server.table.entries) (s, Some ph)) c.unsealed
    (phase_has c.node.server.table.entries s (Replica c.replica) c.has) in
    let y = replica_in x.node.server.table.entries s (phase.Unsealed c.rows)
    (subst (λ (row : List (Segment × Option Phase)). Has row (s, Some (phase.Unsealed c.rows))) (sym x.is) was) in (
      record {
        node = x.node;
        there = x.there;
        replica = y.replica;
        has = y.has;
        rows = c.rows;
        unsealed = y.stands;
        awaited = ap (λ (m : Option Completion). awaits m i c.rows.stage c.rows.rows.end) (same.machines s) ∙ c.awaited;
      },
      refl,
    )

pub same_committer : (w v : State) (i : ℕ) (s : Segment) → IsSame w v → IsCommitter w i s → IsCommitter v i s
same_committer w v i s same c = (same_rows w v i s same c).0

-- ---- a replica that is put back in its phase

row_put : (is : Segment → Bool) (es : List (Segment × Entry)) (old new : Entry) → lookup is es ≡ Some old → phase_in new ≡ phase_in old
    → phases_in (set_value is es new) ≡ phases_in es
row_put is [] old new found same = absurd (none-some old found)
row_put is (x ∷ xs) old new found same = by_key (is x.0) found (λ further. row_put is xs old new further same)
  where
    by_key : (b : Bool) → cond b (Some x.1) (lookup is xs) ≡ Some old → (lookup is xs ≡ Some old → phases_in (set_value is xs new) ≡ phases_in xs)
        → phases_in (cond b ((x.0, new) ∷ xs) (x ∷ set_value is xs new)) ≡ phases_in (x ∷ xs)
    by_key true own more =
        ap (λ (o : Option Phase). (x.0, o) ∷ phases_in xs) (same ∙ ap phase_in (sym (same_Some x.1 old own)))
    by_key false other more = ap (λ (rows : List (Segment × Option Phase)). (x.0, phase_in x.1) ∷ rows) (more other)

rows_put : (ns : List ServerNode) (i : ℕ) (old new : ServerNode) → slice_get ns i ≡ Some old
    → phases_in new.server.table.entries ≡ phases_in old.server.table.entries → phases_by (slice_set ns i new) ≡ phases_by ns
rows_put [] i old new there same = absurd (none-some old there)
rows_put (n ∷ ns) zero old new there same =
    ap (λ (row : List (Segment × Option Phase)). row ∷ phases_by ns)
    (same ∙ ap (λ (m : ServerNode). phases_in m.server.table.entries) (sym (same_Some n old there)))
rows_put (n ∷ ns) (suc i) old new there same =
    ap (λ rows. phases_in n.server.table.entries ∷ rows) (rows_put ns i old new there same)

pub put_same : (w y : State) (i : ℕ) (n new : ServerNode) (p : Partition) (q : Sequence) (r next : Consumer) → HasPut w y i n new p q r next
    → next.phase ≡ r.phase → phases_of y ≡ phases_of w
put_same w y i n new p q r next k same =
    ap phases_by k.servers
    ∙ rows_put w.servers i n new k.there
    (ap (λ (t : Segments). phases_in t.entries) k.table
    ∙ row_put (is_segment p q) n.server.table.entries (Replica r) (Replica next) (replica_found (entry_of n.server.table p q) r k.found)
    (ap (λ (ph : Phase). Some ph) same))
