-- What may lie ahead again of all replicas, as the machine of one segment moves and one replica is put back.
use Rattle.std.proofs.Common.{◌≡◌, inl, inr, ℕ, zero, suc, ◌+◌, ◌<◌, ◌≤◌, ◌==◌, ◌&&◌, not, Bool, true, false, cond, List, [], ◌∷◌, Option, Some, refl, sym, ◌∙◌, ap, subst, arith, slice_get}
use Rattle.std.specs.Map.{keys_of, lookup, set_value}
use Rattle.std.specs.Ordering.{is_eq}
use Rattle.std.specs.Prelude.{slice_set}
use Rattle.std.proofs.lemmas.Bool.{and_from, and_parts, eq-eqb, eqb-true, true≢false}
use Rattle.std.proofs.lemmas.Option.{none-some, same_Some}
use Rattle.rt_base.specs.declared.numbers.Instance.{Instance}
use Rattle.rt_base.specs.declared.numbers.Offset.{Offset}
use Rattle.rt_base.specs.declared.numbers.Partition.{Partition}
use Rattle.rt_base.specs.declared.numbers.Sequence.{Sequence}
use Rattle.rt_consumer.specs.declared.consumer.Consumer.{Consumer}
use Rattle.rt_consumer.specs.declared.phase.Phase.{Phase}
use Rattle.rt_consumer.specs.declared.phase.Phase.TheVariants as phase
use Rattle.rt_consumer.specs.declared.stage.Stage.{Stage}
use Rattle.rt_controller.specs.declared.segment_machine.SegmentMachine.{SegmentMachine}
use Rattle.rt_entry.specs.declared.entry.Entry.{Entry}
use Rattle.rt_entry.specs.declared.entry.Entry.TheVariants.{Committed, Replica}
use Rattle.rt_lists.specs.Members.{Has}
use Rattle.rt_model.specs.Completion.{Completion}
use Rattle.rt_model.specs.declared.node.Seen.{Seen}
use Rattle.rt_model.proofs.Histories.{same_partition, same_sequence}
use Rattle.rt_nodes.specs.declared.server_node.ServerNode.{ServerNode}
use Rattle.rt_server.specs.Table.{entry_of, is_segment, put_back, replica_of, Segment, Segments}
use Rattle.rt_server.proofs.Kept.{replica_found}
use Rattle.rt_server.proofs.Merge.{first_below, it_is, itself, later_ascend, Ascending, Below}
use Rattle.rt_calm.specs.Again.{again_by, again_entry, again_servers, again_table, awaits, commits_at, machine_of, steps_if, stray_again}
use Rattle.rt_calm.proofs.Machines.{HasMoved}

-- ---- one replica

steps_less : (a b c : Bool) → (b ≡ true → c ≡ true) → steps_if (a && not c) ≤ steps_if (a && not b)
steps_less true true c more = omega (arith, ap (λ (x : Bool). steps_if (not x)) (more refl))
steps_less true false true more = omega arith
steps_less true false false more = omega arith
steps_less false b c more = omega arith

stray_less : (m n : Option Completion) (j : ℕ) (ph : Phase) → ((stage : Stage) (x : Offset) → awaits m j stage x ≡ true → awaits n j stage x ≡ true)
    → stray_again n j ph ≤ stray_again m j ph
stray_less m n j (phase.Unsealed o) more =
    steps_less (commits_at o.stage) (awaits m j o.stage o.rows.end) (awaits n j o.stage o.rows.end) (more o.stage o.rows.end)
stray_less m n j (phase.Retained kept) more = omega arith
stray_less m n j (phase.Committed kept) more = omega arith
stray_less m n j (phase.Discarded d) more = omega arith

pub same_segment : (p : Partition) (q : Sequence) (s : Segment) → s.0.0 ≡ p.0 → s.1.0 ≡ q.0 → s ≡ (p, q)
same_segment p q (o, r) e f =
    ap (λ (x : Partition). (x, r)) (same_partition o p e) ∙ ap (λ (x : Sequence). (p, x)) (same_sequence r q f)

module _ (h : List Seen) (ms ns : List SegmentMachine) (i : Instance) (p : Partition) (q : Sequence) (k : HasMoved h ms ns i p q) where
  -- of another instance's replica, or one of another segment, no more may lie ahead again
  entry_less : (j : ℕ) (s : Segment) (e : Entry) → (j ≡ i.0 → is_segment p q s ≡ false) → again_entry h ns j s e ≤ again_entry h ms j s e
  entry_less j s (Committed c) apart = omega arith
  entry_less j s (Replica r) apart = by_segment ((s.0.0 == p.0) && (s.1.0 == q.0)) refl
    where
      same : machine_of ns s.0 s.1 ≡ machine_of ms s.0 s.1 → again_entry h ns j s (Replica r) ≤ again_entry h ms j s (Replica r)
      same e = omega (arith, ap (λ (m : Option Completion). again_by h s m j r.phase) e)

      own : again_by h (p, q) k.left j r.phase ≤ again_by h (p, q) k.machine j r.phase → s ≡ (p, q)
          → again_entry h ns j s (Replica r) ≤ again_entry h ms j s (Replica r)
      own le e =
          subst (λ (x : Segment). again_entry h ns j x (Replica r) ≤ again_entry h ms j x (Replica r)) (sym e)
          (subst (λ (m : Option Completion). again_by h (p, q) (machine_of ns p q) j r.phase ≤ again_by h (p, q) m j r.phase) (sym k.turned.before)
          (subst (λ (m : Option Completion). again_by h (p, q) m j r.phase ≤ again_by h (p, q) k.machine j r.phase) (sym k.turned.behind) le))

      by_instance : (b : Bool) → (j == i.0) ≡ b → s ≡ (p, q) → again_entry h ns j s (Replica r) ≤ again_entry h ms j s (Replica r)
      by_instance true e is =
          absurd (true≢false (sym (itself (p, q)) ∙ ap (is_segment p q) (sym is) ∙ apart (eqb-true j i.0 e)))
      by_instance false e is =
          let less = stray_less k.machine k.left j r.phase (λ stage x. k.waits j stage x (λ f. true≢false (sym (eq-eqb j i.0 f) ∙ e))) in
          own (omega (arith, less, k.spent)) is

      by_segment : (b : Bool) → ((s.0.0 == p.0) && (s.1.0 == q.0)) ≡ b → again_entry h ns j s (Replica r) ≤ again_entry h ms j s (Replica r)
      by_segment true e =
          let parts = and_parts (s.0.0 == p.0) (s.1.0 == q.0) e in
          by_instance (j == i.0) refl (same_segment p q s (eqb-true s.0.0 p.0 parts.0) (eqb-true s.1.0 q.0 parts.1))
      by_segment false e =
          same (k.turned.others s.0 s.1
          (λ f g. true≢false (sym (and_from (s.0.0 == p.0) (s.1.0 == q.0) (eq-eqb s.0.0 p.0 f) (eq-eqb s.1.0 q.0 g)) ∙ e)))

  -- ---- a table

  table_less : (j : ℕ) (es : List (Segment × Entry)) → (j ≡ i.0 → (e : Segment × Entry) → Has es e → is_segment p q e.0 ≡ false)
      → again_table h ns j es ≤ again_table h ms j es
  table_less j [] apart = omega arith
  table_less j (e ∷ es) apart =
      omega (arith, entry_less j e.0 e.1 (λ own. apart own e (inl refl)), table_less j es (λ own x has. apart own x (inr has)))

  below_not : (s : Segment) (es : List (Segment × Entry)) (e : Segment × Entry) → Below s (keys_of es) → Has es e → is_segment s.0 s.1 e.0 ≡ false
  below_not s [] e below has = absurd has
  below_not s (x ∷ xs) e below (inl same) = ap (λ (y : Segment × Entry). is_segment s.0 s.1 y.0) (sym same) ∙ ap is_eq below.0
  below_not s (x ∷ xs) e below (inr has) = below_not s xs e below.1 has

  -- one entry is put
  table_put : (es : List (Segment × Entry)) (old new : Entry) → Ascending (keys_of es) → lookup (is_segment p q) es ≡ Some old
      → again_entry h ms i.0 (p, q) old + again_table h ns i.0 (set_value (is_segment p q) es new)
      ≤ again_entry h ns i.0 (p, q) new + again_table h ms i.0 es
  table_put [] old new up found = absurd (none-some old found)
  table_put (x ∷ xs) old new up found =
      by_key (is_segment p q x.0) refl found (λ further. table_put xs old new (later_ascend x.0 (keys_of xs) up) further)
    where
      by_key : (b : Bool) → is_segment p q x.0 ≡ b → cond b (Some x.1) (lookup (is_segment p q) xs) ≡ Some old
          → (lookup (is_segment p q) xs ≡ Some old
          → again_entry h ms i.0 (p, q) old + again_table h ns i.0 (set_value (is_segment p q) xs new) ≤ again_entry h ns i.0 (p, q) new + again_table h ms i.0 xs)
          → again_entry h ms i.0 (p, q) old + again_table h ns i.0 (cond b ((x.0, new) ∷ xs) (x ∷ set_value (is_segment p q) xs new))
          ≤ again_entry h ns i.0 (p, q) new + (again_entry h ms i.0 x.0 x.1 + again_table h ms i.0 xs)
      by_key true own here more =
          let at : x.0 ≡ (p, q) = sym (it_is (p, q) x.0 own) in
          let was = ap (λ (s : Segment). again_entry h ms i.0 s x.1) at ∙ ap (again_entry h ms i.0 (p, q)) (same_Some x.1 old here) in
          let is = ap (λ (s : Segment). again_entry h ns i.0 s new) at in
          let below = subst (λ (s : Segment). Below s (keys_of xs)) at (first_below x.0 (keys_of xs) up) in
          omega (arith, was, is, table_less i.0 xs (λ own e has. below_not (p, q) xs e below has))
      by_key false other there more = omega (arith, more there, entry_less i.0 x.0 x.1 (λ own. other))

  -- ---- servers

  servers_less : (k : ℕ) (vs : List ServerNode) → i.0 < k → again_servers h ns k vs ≤ again_servers h ms k vs
  servers_less k [] past = omega arith
  servers_less k (v ∷ vs) past =
      omega (
        arith,
        table_less k v.server.table.entries (λ own. absurd (omega (arith, own, past))),
        servers_less (suc k) vs (omega (arith, past)),
      )

  -- the instance's server, so many places behind this one, has an entry put
  pub servers_put : (k place : ℕ) (vs : List ServerNode) (old new : ServerNode) (r next : Consumer) → k + place ≡ i.0 → slice_get vs place ≡ Some old
      → Ascending (keys_of old.server.table.entries) → replica_of old.server.table p q ≡ Some r → new.server.table ≡ put_back old.server.table p q (Replica next)
      → again_entry h ms i.0 (p, q) (Replica r) + again_servers h ns k (slice_set vs place new)
      ≤ again_entry h ns i.0 (p, q) (Replica next) + again_servers h ms k vs
  servers_put k place [] old new r next at there up found put = absurd (none-some old there)
  servers_put k zero (v ∷ vs) old new r next at there up found put =
      let own : k ≡ i.0 = omega (arith, at) in
      let same : v ≡ old = same_Some v old there in
      let table = table_put old.server.table.entries (Replica r) (Replica next) up (replica_found (entry_of old.server.table p q) r found) in
      let is = ap (λ (t : Segments). again_table h ns i.0 t.entries) put in
      let was = ap (λ (x : ServerNode). again_table h ms k x.server.table.entries) same ∙ ap (λ (x : ℕ). again_table h ms x old.server.table.entries) own in
      let now = ap (λ (x : ℕ). again_table h ns x new.server.table.entries) own in
      omega (arith, table, is, was, now, servers_less (suc k) vs (omega (arith, own)))
  servers_put k (suc place) (v ∷ vs) old new r next at there up found put =
      let more = servers_put (suc k) place vs old new r next (omega (arith, at)) there up found put in
      omega (arith, more, table_less k v.server.table.entries (λ own. absurd (omega (arith, own, at))))
