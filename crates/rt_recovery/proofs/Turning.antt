-- A world in which a replica and the machine of its segment have gone on, and all else stands as before, or further.
use Rattle.std.proofs.Common.{◌≡◌, ◌⊎◌, inl, inr, ℕ, zero, suc, ◌-◌, Bool, true, false, length, List, [], ◌∷◌, Option, Some, refl, sym, ◌∙◌, ap, subst, arith, slice_get}
use Rattle.std.specs.Map.{keys_of}
use Rattle.std.specs.Prelude.{slice_set}
use Rattle.std.proofs.lemmas.Bool.{cases_eq, true≢false}
use Rattle.std.proofs.lemmas.Option.{same_Some}
use Rattle.rt_base.specs.declared.numbers.Offset.{Offset}
use Rattle.rt_base.specs.declared.numbers.Partition.{Partition}
use Rattle.rt_base.specs.declared.numbers.Sequence.{Sequence}
use Rattle.rt_consumer.specs.declared.consumer.Consumer.{Consumer}
use Rattle.rt_consumer.specs.declared.phase.Phase.{Phase}
use Rattle.rt_consumer.specs.declared.phase.Phase.TheVariants as phase
use Rattle.rt_consumer.specs.declared.stage.Stage.{Stage}
use Rattle.rt_consumer.specs.declared.stage.Stage.TheVariants.{Building, CatchingUp, ConsumingToOnline, Ending, Holding, InitialConsuming, Retaining, Starting, Uploading}
use Rattle.rt_consumer.specs.declared.unsealed.Unsealed.{Unsealed}
use Rattle.rt_entry.specs.declared.entry.Entry.{Entry}
use Rattle.rt_entry.specs.declared.entry.Entry.TheVariants.{Committed, Replica}
use Rattle.rt_lists.specs.Members.{Has}
use Rattle.rt_model.specs.Completion.{is_late, Completion}
use Rattle.rt_model.specs.declared.request.Reason.{Reason}
use Rattle.rt_model.specs.declared.setup.Setup.{Setup}
use Rattle.rt_nodes.specs.declared.server_node.ServerNode.{ServerNode}
use Rattle.rt_safety.proofs.JobsOn.{other_slot, own_slot}
use Rattle.rt_schema.specs.Row.{rows_in}
use Rattle.rt_server.specs.Table.{entry_of, is_segment, put_back, replica_at, replica_of, segment_cmp, Segment, Segments}
use Rattle.rt_server.proofs.EachEntry.{put_each}
use Rattle.rt_server.proofs.Kept.{replica_found}
use Rattle.rt_server.proofs.LastingTables.{at, lookup-Has, segment_exact}
use Rattle.rt_server.proofs.Merge.{it_is, itself, Ascending}
use Rattle.rt_state.specs.IsSafeWorld.{IsSafeWorld}
use Rattle.rt_state.specs.declared.state.State.{State}
use Rattle.rt_stream.specs.Log.{messages_of, Log}
use Rattle.rt_unrefused.proofs.Requested.{replica_put}
use Rattle.rt_calm.specs.Again.{asked_machines, awaits, machine_of}
use Rattle.rt_calm.proofs.Machines.{IsTurned}
use Rattle.rt_calm.proofs.Sharing.{same_segment}
use Rattle.rt_recovery.specs.ByRows.{rows_to, CommitsFor, IsByRows, IsByRowsAt, IsMachineByRows, IsOpen, IsToConsume, Reports, StandsByRows}
use Rattle.rt_recovery.proofs.Entries.{entry_found, put_stays}
use Rattle.rt_recovery.proofs.Still.{IsEntryByRows}

-- ---- one replica

-- what is said of an instance's replica of a segment goes on
pub record GoesOn (w y : State) (i : ℕ) (s : Segment) : Type 0 where
  pub setup : y.setup ≡ w.setup
  pub log : y.log ≡ w.log
  pub moment : y.moment ≡ w.moment
  pub consumes : (IsOpen w s → IsToConsume w i s) → IsOpen y s → IsToConsume y i s
  pub commits : (stage : Stage) (x : Offset) → awaits (machine_of (asked_machines w) s.0 s.1) i stage x ≡ true → IsOpen w s → IsToConsume w i s
      → (awaits (machine_of (asked_machines y) s.0 s.1) i stage x ≡ true) × IsOpen y s × IsToConsume y i s

module _ (w y : State) (setup : y.setup ≡ w.setup) (log : y.log ≡ w.log) (r : Consumer) where
  rows_on : (x : ℕ) → rows_to y r x ≡ rows_to w r x
  rows_on x =
      ap (λ (z : Setup). length (rows_in z.schema (messages_of y.log r.partition) r.start.0 x)) setup
      ∙ ap (λ (l : Log). length (rows_in w.setup.schema (messages_of l r.partition) r.start.0 x)) log

  pub reports_on : (x : Offset) (reason : Reason) → Reports w r x reason → Reports y r x reason
  reports_on x reason h =
      let limit = ap (λ (z : Setup). z.table.rows) setup in
      record {
        by_rows = h.by_rows;
        full = record { full = omega (arith, h.full.full, rows_on x.0, limit); short = omega (arith, h.full.short, rows_on (x.0 - 1), limit) };
      }

module _ (w y : State) (i : ℕ) (s : Segment) (k : GoesOn w y i s) (r : Consumer) where
  commits_on : (o : Unsealed) (reason : Reason) → CommitsFor w i s r o reason → CommitsFor y i s r o reason
  commits_on o reason c =
      let on = k.commits o.stage o.rows.end c.awaited c.opened c.consumes in
      record {
        reports = reports_on w y k.setup k.log r o.rows.end reason c.reports;
        awaited = on.0;
        opened = on.1;
        consumes = on.2;
      }

  stage_on : (o : Unsealed) (stage : Stage) → StandsByRows w i s r o stage → StandsByRows y i s r o stage
  stage_on o InitialConsuming (began, few, asked) = (
    began ∙ sym k.moment,
    omega (arith, few, rows_on w y k.setup k.log r o.rows.end.0, ap (λ (z : Setup). z.table.rows) k.setup),
    k.consumes asked,
  )
  stage_on o (CatchingUp target reason) h = absurd h
  stage_on o (Holding reason) (reports, asked) = (reports_on w y k.setup k.log r o.rows.end reason reports, k.consumes asked)
  stage_on o (Building reason) h = commits_on o reason h
  stage_on o (Starting reason built) h = commits_on o reason h
  stage_on o (Uploading reason built) h = commits_on o reason h
  stage_on o (Ending reason built path) h = commits_on o reason h
  stage_on o (ConsumingToOnline end done) h = tt
  stage_on o (Retaining done) h = tt

  pub stands_on : (ph : Phase) → IsByRowsAt w i s r ph → IsByRowsAt y i s r ph
  stands_on (phase.Unsealed o) h = stage_on o o.stage h
  stands_on (phase.Retained kept) h = tt
  stands_on (phase.Committed kept) h = tt
  stands_on (phase.Discarded d) h = h

-- ---- a world

-- a server's replica was put back, and the machine of its segment was this and is that
pub record HasTurned (w y : State) (i : ℕ) (n new : ServerNode) (p : Partition) (q : Sequence) (r next : Consumer) (m left : Option Completion) : Type 0 where
  pub there : slice_get w.servers i ≡ Some n
  pub found : replica_of n.server.table p q ≡ Some r
  pub servers : y.servers ≡ slice_set w.servers i new
  pub table : new.server.table ≡ put_back n.server.table p q (Replica next)
  pub setup : y.setup ≡ w.setup
  pub log : y.log ≡ w.log
  pub moment : y.moment ≡ w.moment
  pub turned : IsTurned (asked_machines w) (asked_machines y) p q m left

-- what lies elsewhere than one that was put
elsewhere : {X : Type 0} (xs : List X) (i j : ℕ) (new x : X) → (j ≡ i → ⊥) → slice_get (slice_set xs i new) j ≡ Some x → slice_get xs j ≡ Some x
elsewhere [] i j new x apart e = e
elsewhere (y ∷ xs) zero zero new x apart e = absurd (apart refl)
elsewhere (y ∷ xs) zero (suc j) new x apart e = e
elsewhere (y ∷ xs) (suc i) zero new x apart e = e
elsewhere (y ∷ xs) (suc i) (suc j) new x apart e = elsewhere xs i j new x (λ same. apart (ap suc same)) e

-- segments are told apart
pub apart_segments : (p : Partition) (q : Sequence) (s : Segment) → is_segment p q s ≡ false → s.0.0 ≡ p.0 → s.1.0 ≡ q.0 → ⊥
apart_segments p q s other e f =
    true≢false (sym (itself (p, q)) ∙ ap (is_segment p q) (sym (same_segment p q s e f)) ∙ other)

module _ (w y : State) (i : ℕ) (n new : ServerNode) (p : Partition) (q : Sequence) (r next : Consumer) (m left : Option Completion)
    (k : HasTurned w y i n new p q r next m left) (safe : IsSafeWorld y) where
  there_now : slice_get y.servers i ≡ Some new
  there_now = ap (λ (ns : List ServerNode). slice_get ns i) k.servers ∙ own_slot w.servers i n new k.there

  ascending : Ascending (keys_of new.server.table.entries)
  ascending = (safe.safe.servers i new there_now).over.kept.ascending

  own_now : replica_of new.server.table p q ≡ Some next
  own_now = ap (λ (t : Segments). replica_of t p q) k.table ∙ replica_put n.server.table p q r next k.found

  -- what is said of other replicas goes on
  abbrev OthersGoOn : Type 0
  OthersGoOn = (j : ℕ) (v : ServerNode) → slice_get w.servers j ≡ Some v → (s : Segment) (x : Consumer) → Has v.server.table.entries (at s (Replica x))
      → (j ≡ i → is_segment p q s ≡ false) → GoesOn w y j s

  -- a machine other than the one of the segment stays so, and this one if its committer is another
  pub machine_on : (s : Segment) (g : Completion) → (g.winner.0 ≡ i → is_segment p q s ≡ false) → IsMachineByRows w s g → IsMachineByRows y s g
  machine_on s g apart c = by_place (cases_eq g.winner.0 i)
    where
      by_place : (g.winner.0 ≡ i) ⊎ (g.winner.0 ≡ i → ⊥) → IsMachineByRows y s g
      by_place (inl is) =
          let same : c.node ≡ n = same_Some c.node n (sym c.there ∙ ap (slice_get w.servers) is ∙ k.there) in
          record {
            early = ap (is_late g) k.moment ∙ c.early;
            node = new;
            there = ap (slice_get y.servers) is ∙ there_now;
            replica = c.replica;
            has =
                subst (λ (t : Segments). Has t.entries (at s (Replica c.replica))) (sym k.table)
                (put_stays p q (at s (Replica c.replica)) (apart is) n.server.table.entries (Replica next)
                (subst (λ (z : ServerNode). Has z.server.table.entries (at s (Replica c.replica))) same c.has));
            rows = c.rows;
            unsealed = c.unsealed;
            awaited = c.awaited;
          }
      by_place (inr other) =
          record {
            early = ap (is_late g) k.moment ∙ c.early;
            node = c.node;
            there = ap (λ (ns : List ServerNode). slice_get ns g.winner.0) k.servers ∙ other_slot w.servers i g.winner.0 new c.node other c.there;
            replica = c.replica;
            has = c.has;
            rows = c.rows;
            unsealed = c.unsealed;
            awaited = c.awaited;
          }

  -- the replica that was put back is the committer for which it waits
  pub own_committer : (g : Completion) (o : Unsealed) → next.phase ≡ phase.Unsealed o → g.winner.0 ≡ i → is_late g y.moment ≡ false
      → awaits (Some g) i o.stage o.rows.end ≡ true → IsMachineByRows y (p, q) g
  own_committer g o unsealed winner early awaited =
      record {
        early = early;
        node = new;
        there = ap (slice_get y.servers) winner ∙ there_now;
        replica = next;
        has = lookup-Has segment_cmp segment_exact new.server.table.entries (p, q) (Replica next) (replica_found (entry_of new.server.table p q) next own_now);
        rows = o;
        unsealed = unsealed;
        awaited = ap (λ (j : ℕ). awaits (Some g) j o.stage o.rows.end) winner ∙ awaited;
      }

  module _ (before : IsByRows w) (others : OthersGoOn) (own : IsByRowsAt y i (p, q) next next.phase)
      (own_machine : (g : Completion) → left ≡ Some g → IsMachineByRows y (p, q) g) where
    abbrev Elsewhere : Segment → Entry → Type 0
    Elsewhere s e = is_segment p q s ≡ false → IsEntryByRows y i s e

    old_elsewhere : (x : Segment × Entry) → Has n.server.table.entries x → Elsewhere x.0 x.1
    old_elsewhere x has apart = by_entry x.1 refl
      where
        by_entry : (e : Entry) → x.1 ≡ e → IsEntryByRows y i x.0 e
        by_entry (Committed c) is = tt
        by_entry (Replica g) is =
            let there = subst (λ (e : Entry). Has n.server.table.entries (at x.0 e)) is has in
            stands_on w y i x.0 (others i n k.there x.0 g there (λ same. apart)) g g.phase (before.replicas i n k.there x.0 g there)

    new_elsewhere : (x : Segment × Entry) → Has new.server.table.entries x → Elsewhere x.0 x.1
    new_elsewhere =
        subst (λ (t : Segments). (x : Segment × Entry) → Has t.entries x → Elsewhere x.0 x.1) (sym k.table)
        (put_each Elsewhere n.server.table.entries p q (Replica next) old_elsewhere (λ apart. absurd (true≢false (sym (itself (p, q)) ∙ apart))))

    here : (s : Segment) (x : Consumer) → Has new.server.table.entries (at s (Replica x)) → IsByRowsAt y i s x x.phase
    here s x has = by_segment (is_segment p q s) refl
      where
        by_segment : (b : Bool) → is_segment p q s ≡ b → IsByRowsAt y i s x x.phase
        by_segment false apart = new_elsewhere (at s (Replica x)) has apart
        by_segment true is =
            let same : (p, q) ≡ s = it_is (p, q) s is in
            let found : replica_of new.server.table p q ≡ Some x =
            ap replica_at (entry_found new.server.table.entries (p, q) (Replica x) ascending
            (subst (λ (z : Segment). Has new.server.table.entries (at z (Replica x))) (sym same) has)) in
            subst (λ (z : Segment). IsByRowsAt y i z x x.phase) same
            (subst (λ (z : Consumer). IsByRowsAt y i (p, q) z z.phase) (same_Some next x (sym own_now ∙ found)) own)

    pub turned_by_rows : IsByRows y
    turned_by_rows =
        record {
          replicas = λ j v found s x has. by_server j v s x found has (cases_eq j i);
          machines = λ s g is. by_segment s g is (is_segment p q s) refl;
        }
      where
        by_server : (j : ℕ) (v : ServerNode) (s : Segment) (x : Consumer) → slice_get y.servers j ≡ Some v → Has v.server.table.entries (at s (Replica x))
            → (j ≡ i) ⊎ (j ≡ i → ⊥) → IsByRowsAt y j s x x.phase
        by_server j v s x found has (inl is) =
            let same : v ≡ new = same_Some v new (sym found ∙ ap (slice_get y.servers) is ∙ there_now) in
            subst (λ (z : ℕ). IsByRowsAt y z s x x.phase) (sym is)
            (here s x (subst (λ (z : ServerNode). Has z.server.table.entries (at s (Replica x))) same has))
        by_server j v s x found has (inr apart) =
            let there = elsewhere w.servers i j new v apart (ap (λ (ns : List ServerNode). slice_get ns j) (sym k.servers) ∙ found) in
            stands_on w y j s (others j v there s x has (λ is. absurd (apart is))) x x.phase (before.replicas j v there s x has)

        by_segment : (s : Segment) (g : Completion) → machine_of (asked_machines y) s.0 s.1 ≡ Some g → (b : Bool) → is_segment p q s ≡ b → IsMachineByRows y s g
        by_segment s g is true own_it =
            let same : (p, q) ≡ s = it_is (p, q) s own_it in
            subst (λ (z : Segment). IsMachineByRows y z g) same
            (own_machine g (sym k.turned.behind ∙ subst (λ (z : Segment). machine_of (asked_machines y) z.0 z.1 ≡ Some g) (sym same) is))
        by_segment s g is false apart =
            machine_on s g (λ winner. apart) (before.machines s g (sym (k.turned.others s.0 s.1 (apart_segments p q s apart)) ∙ is))
