-- What is said of one replica and of one machine depends on little: it stays as long as that does.
use Rattle.std.proofs.Common.{◌≡◌, ◌⊎◌, inl, inr, ℕ, ◌-◌, Bool, true, false, length, List, Option, Some, refl, sym, ◌∙◌, ap, subst, arith, slice_get}
use Rattle.std.specs.Prelude.{slice_set}
use Rattle.std.proofs.lemmas.Bool.{cases_eq, false≢true}
use Rattle.std.proofs.lemmas.Option.{same_Some}
use Rattle.rt_base.specs.declared.numbers.Offset.{Offset}
use Rattle.rt_base.specs.declared.numbers.Partition.{Partition}
use Rattle.rt_base.specs.declared.numbers.Sequence.{Sequence}
use Rattle.rt_consumer.specs.declared.consumer.Consumer.{Consumer}
use Rattle.rt_consumer.specs.declared.phase.Phase.{Phase}
use Rattle.rt_consumer.specs.declared.phase.Phase.TheVariants as phase
use Rattle.rt_consumer.specs.declared.stage.Stage.{Stage}
use Rattle.rt_consumer.specs.declared.stage.Stage.TheVariants.{Building, CatchingUp, ConsumingToOnline, Ending, Holding, InitialConsuming, Retaining, Starting, Uploading}
use Rattle.rt_consumer.specs.declared.unsealed.Unsealed.{Unsealed}
use Rattle.rt_controller.specs.declared.segment_machine.SegmentMachine.{SegmentMachine}
use Rattle.rt_entry.specs.declared.entry.Entry.{Entry}
use Rattle.rt_entry.specs.declared.entry.Entry.TheVariants.{Committed, Replica}
use Rattle.rt_lists.specs.Members.{Has}
use Rattle.rt_model.specs.Completion.{is_late, Completion}
use Rattle.rt_model.specs.Entries.{entries_of}
use Rattle.rt_model.specs.History.{value_of}
use Rattle.rt_model.specs.Ideal.{mode_of}
use Rattle.rt_model.specs.declared.node.Key.TheVariants as key
use Rattle.rt_model.specs.declared.node.Seen.{Seen}
use Rattle.rt_model.specs.declared.request.Reason.{Reason}
use Rattle.rt_model.specs.declared.setup.Setup.{Setup}
use Rattle.rt_nodes.specs.declared.controller_node.ControllerNode.{ControllerNode}
use Rattle.rt_nodes.specs.declared.server_node.ServerNode.{ServerNode}
use Rattle.rt_safety.proofs.JobsOn.{other_slot, own_slot}
use Rattle.rt_schema.specs.Row.{rows_in}
use Rattle.rt_server.specs.Table.{is_segment, Segment}
use Rattle.rt_server.proofs.EachEntry.{Each}
use Rattle.rt_server.proofs.LastingTables.{at}
use Rattle.rt_server.proofs.Merge.{it_is}
use Rattle.rt_state.specs.Places.{AreAt}
use Rattle.rt_state.specs.declared.state.State.{State}
use Rattle.rt_stream.specs.Log.{messages_of, Log}
use Rattle.rt_world.proofs.Places.{at_set}
use Rattle.rt_world.specs.Reading.{leader_in}
use Rattle.rt_heal.proofs.Seeing.{same_leader}
use Rattle.rt_calm.specs.Again.{asked_machines, awaits, machine_of, machines_by}
use Rattle.rt_recovery.specs.ByRows.{rows_to, CommitsFor, IsByRows, IsByRowsAt, IsFull, IsMachineByRows, IsOpen, IsToConsume, Reports, StandsByRows}

-- ---- what it depends on

-- of a segment its replicas' rows, its machine, its node and who is to consume it, and the moment
pub record IsStill (w y : State) (s : Segment) : Type 0 where
  pub setup : y.setup ≡ w.setup
  pub log : y.log ≡ w.log
  pub moment : y.moment ≡ w.moment
  pub writes : y.store.writes ≡ w.store.writes
  pub machine : machine_of (asked_machines y) s.0 s.1 ≡ machine_of (asked_machines w) s.0 s.1

-- all of a world that it depends on, but for the replicas
pub record IsStillAround (w y : State) : Type 0 where
  pub setup : y.setup ≡ w.setup
  pub log : y.log ≡ w.log
  pub moment : y.moment ≡ w.moment
  pub writes : y.store.writes ≡ w.store.writes
  pub controllers : y.controllers ≡ w.controllers

pub still_machines : (w y : State) → y.controllers ≡ w.controllers → asked_machines y ≡ asked_machines w
still_machines w y same =
    ap (machines_by y.controllers) (same_leader y w same) ∙ ap (λ (cs : List ControllerNode). machines_by cs (leader_in w)) same

pub still_around : (w y : State) → IsStillAround w y → (s : Segment) → IsStill w y s
still_around w y k s =
    record {
      setup = k.setup;
      log = k.log;
      moment = k.moment;
      writes = k.writes;
      machine = ap (λ (ms : List SegmentMachine). machine_of ms s.0 s.1) (still_machines w y k.controllers);
    }

-- a replica that has gone on, from the same start
pub record IsLater (r next : Consumer) : Type 0 where
  pub partition : next.partition ≡ r.partition
  pub start : next.start ≡ r.start
  pub started : next.started ≡ r.started

-- ---- one replica

module _ (w y : State) (s : Segment) (k : IsStill w y s) where
  open_still : IsOpen y s → IsOpen w s
  open_still o =
      record {
        write = o.write;
        there = ap (λ (h : List Seen). value_of h (key.Meta s.0 s.1)) (sym k.writes) ∙ o.there;
        meta = o.meta;
        is = o.is;
        in_progress = o.in_progress;
      }

  open_on : IsOpen w s → IsOpen y s
  open_on o =
      record {
        write = o.write;
        there = ap (λ (h : List Seen). value_of h (key.Meta s.0 s.1)) k.writes ∙ o.there;
        meta = o.meta;
        is = o.is;
        in_progress = o.in_progress;
      }

  consumes_on : (i : ℕ) → IsToConsume w i s → IsToConsume y i s
  consumes_on i c = ap (λ (h : List Seen). mode_of (entries_of h) s.0 s.1 (record { 0 = i })) k.writes ∙ c

  pub asked_on : (i : ℕ) → (IsOpen w s → IsToConsume w i s) → IsOpen y s → IsToConsume y i s
  asked_on i c o = consumes_on i (c (open_still o))

  module _ (r next : Consumer) (later : IsLater r next) where
    pub rows_still : (x : ℕ) → rows_to y next x ≡ rows_to w r x
    rows_still x =
        ap (λ (z : Setup). length (rows_in z.schema (messages_of y.log next.partition) next.start.0 x)) k.setup
        ∙ ap (λ (l : Log). length (rows_in w.setup.schema (messages_of l next.partition) next.start.0 x)) k.log
        ∙ ap (λ (p : Partition). length (rows_in w.setup.schema (messages_of w.log p) next.start.0 x)) later.partition
        ∙ ap (λ (z : Offset). length (rows_in w.setup.schema (messages_of w.log r.partition) z.0 x)) later.start

    full_still : (x : Offset) → IsFull w r x → IsFull y next x
    full_still x f =
        let limit = ap (λ (z : Setup). z.table.rows) k.setup in
        record { full = omega (arith, f.full, rows_still x.0, limit); short = omega (arith, f.short, rows_still (x.0 - 1), limit) }

    pub reports_still : (x : Offset) (reason : Reason) → Reports w r x reason → Reports y next x reason
    reports_still x reason h = record { by_rows = h.by_rows; full = full_still x h.full }

    pub commits_still : (i : ℕ) (o : Unsealed) (reason : Reason) → CommitsFor w i s r o reason → CommitsFor y i s next o reason
    commits_still i o reason c =
        record {
          reports = reports_still o.rows.end reason c.reports;
          awaited = ap (λ (m : Option Completion). awaits m i o.stage o.rows.end) k.machine ∙ c.awaited;
          opened = open_on c.opened;
          consumes = consumes_on i c.consumes;
        }

    stage_still : (i : ℕ) (o : Unsealed) (stage : Stage) → StandsByRows w i s r o stage → StandsByRows y i s next o stage
    stage_still i o InitialConsuming (began, few, asked) = (
      later.started ∙ began ∙ sym k.moment,
      omega (arith, few, rows_still o.rows.end.0, ap (λ (z : Setup). z.table.rows) k.setup),
      asked_on i asked,
    )
    stage_still i o (CatchingUp target reason) h = absurd h
    stage_still i o (Holding reason) (reports, asked) = (reports_still o.rows.end reason reports, asked_on i asked)
    stage_still i o (Building reason) h = commits_still i o reason h
    stage_still i o (Starting reason built) h = commits_still i o reason h
    stage_still i o (Uploading reason built) h = commits_still i o reason h
    stage_still i o (Ending reason built path) h = commits_still i o reason h
    stage_still i o (ConsumingToOnline end done) h = tt
    stage_still i o (Retaining done) h = tt

    -- what is said of it stays
    pub later_still : (i : ℕ) (ph : Phase) → IsByRowsAt w i s r ph → IsByRowsAt y i s next ph
    later_still i (phase.Unsealed o) h = stage_still i o o.stage h
    later_still i (phase.Retained kept) h = tt
    later_still i (phase.Committed kept) h = tt
    later_still i (phase.Discarded d) h = h

  pub stands_still : (i : ℕ) (r : Consumer) (ph : Phase) → IsByRowsAt w i s r ph → IsByRowsAt y i s r ph
  stands_still i r ph h = later_still r r (record { partition = refl; start = refl; started = refl }) i ph h

-- the replica that a machine waits for is a committer of its segment
pub awaited_commits : (w : State) (i : ℕ) (s : Segment) (r : Consumer) (o : Unsealed) (m : Completion) (x : Offset) (stage : Stage) → StandsByRows w i s r o stage
    → awaits (Some m) i stage x ≡ true → (reason : Reason) × CommitsFor w i s r o reason
awaited_commits w i s r o m x (Building reason) h e = (reason, h)
awaited_commits w i s r o m x (Starting reason built) h e = (reason, h)
awaited_commits w i s r o m x (Uploading reason built) h e = (reason, h)
awaited_commits w i s r o m x (Ending reason built path) h e = (reason, h)
awaited_commits w i s r o m x InitialConsuming h e = absurd (false≢true e)
awaited_commits w i s r o m x (CatchingUp target reason) h e = absurd (false≢true e)
awaited_commits w i s r o m x (Holding reason) h e = absurd (false≢true e)
awaited_commits w i s r o m x (ConsumingToOnline end done) h e = absurd (false≢true e)
awaited_commits w i s r o m x (Retaining done) h e = absurd (false≢true e)

-- ---- entries

abbrev pub IsEntryByRows : State → ℕ → Segment → Entry → Type 0
IsEntryByRows w i s (Replica r) = IsByRowsAt w i s r r.phase
IsEntryByRows w i s (Committed c) = Unit {0}

abbrev pub AreEntriesByRows : State → ℕ → ServerNode → Type 0
AreEntriesByRows w i n = Each (IsEntryByRows w i) n.server.table.entries

pub entries_by_rows : (w : State) → IsByRows w → AreAt (AreEntriesByRows w) w.servers
entries_by_rows w k i n there x has = by_entry x.1 refl
  where
    by_entry : (e : Entry) → x.1 ≡ e → IsEntryByRows w i x.0 e
    by_entry (Replica r) is = k.replicas i n there x.0 r (subst (λ (e : Entry). Has n.server.table.entries (at x.0 e)) is has)
    by_entry (Committed c) is = tt

still_entry : (w y : State) → IsStillAround w y → (i : ℕ) (s : Segment) (e : Entry) → IsEntryByRows w i s e → IsEntryByRows y i s e
still_entry w y k i s (Replica r) h = stands_still w y s (still_around w y k s) i r r.phase h
still_entry w y k i s (Committed c) h = tt

-- ---- machines

-- a server has the replica of a segment that a machine waits for
pub record HasAwaited (i : ℕ) (n : ServerNode) (s : Segment) (m : Completion) : Type 0 where
  pub replica : Consumer
  pub has : Has n.server.table.entries (at s (Replica replica))
  pub rows : Unsealed
  pub unsealed : replica.phase ≡ phase.Unsealed rows
  pub awaited : awaits (Some m) i rows.stage rows.rows.end ≡ true

-- where those of other segments stay, and so does the one of this segment
pub keeps_awaited : (i : ℕ) (n new : ServerNode) (p : Partition) (q : Sequence)
    → ((x : Segment × Entry) → is_segment p q x.0 ≡ false → Has n.server.table.entries x → Has new.server.table.entries x)
    → ((m : Completion) → HasAwaited i n (p, q) m → HasAwaited i new (p, q) m) → (s : Segment) (m : Completion) → HasAwaited i n s m → HasAwaited i new s m
keeps_awaited i n new p q others own s m k = by_test (is_segment p q s) refl
  where
    by_test : (b : Bool) → is_segment p q s ≡ b → HasAwaited i new s m
    by_test true is =
        let same = it_is (p, q) s is in
        subst (λ (x : Segment). HasAwaited i new x m) same (own m (subst (λ (x : Segment). HasAwaited i n x m) (sym same) k))
    by_test false is =
        record { replica = k.replica; has = others (at s (Replica k.replica)) is k.has; rows = k.rows; unsealed = k.unsealed; awaited = k.awaited }

-- ---- a world in which one server has changed

module _ (w y : State) (around : IsStillAround w y) (i : ℕ) (n new : ServerNode) (there : slice_get w.servers i ≡ Some n)
    (servers : y.servers ≡ slice_set w.servers i new) (k : IsByRows w) where
  changed_entries : AreEntriesByRows w i new → AreAt (AreEntriesByRows y) y.servers
  changed_entries all j m found x has =
      still_entry w y around j x.0 x.1
      (at_set (AreEntriesByRows w) w.servers i new all (entries_by_rows w k) j m (ap (λ (ns : List ServerNode). slice_get ns j) (sym servers) ∙ found) x has)

  module _ (keeps : (s : Segment) (m : Completion) → HasAwaited i n s m → HasAwaited i new s m) where
    here_machine : (s : Segment) (m : Completion) → IsMachineByRows w s m → m.winner.0 ≡ i → IsMachineByRows y s m
    here_machine s m c is =
        let same : c.node ≡ n = same_Some c.node n (sym c.there ∙ ap (slice_get w.servers) is ∙ there) in
        let now = keeps s m (record {
          replica = c.replica;
          has = subst (λ (z : ServerNode). Has z.server.table.entries (at s (Replica c.replica))) same c.has;
          rows = c.rows;
          unsealed = c.unsealed;
          awaited = ap (λ (x : ℕ). awaits (Some m) x c.rows.stage c.rows.rows.end) (sym is) ∙ c.awaited;
        }) in
        record {
          early = ap (is_late m) around.moment ∙ c.early;
          node = new;
          there = ap (λ (ns : List ServerNode). slice_get ns m.winner.0) servers ∙ ap (slice_get (slice_set w.servers i new)) is ∙ own_slot w.servers i n new there;
          replica = now.replica;
          has = now.has;
          rows = now.rows;
          unsealed = now.unsealed;
          awaited = ap (λ (x : ℕ). awaits (Some m) x now.rows.stage now.rows.rows.end) is ∙ now.awaited;
        }

    other_machine : (s : Segment) (m : Completion) → IsMachineByRows w s m → (m.winner.0 ≡ i → ⊥) → IsMachineByRows y s m
    other_machine s m c apart =
        record {
          early = ap (is_late m) around.moment ∙ c.early;
          node = c.node;
          there = ap (λ (ns : List ServerNode). slice_get ns m.winner.0) servers ∙ other_slot w.servers i m.winner.0 new c.node apart c.there;
          replica = c.replica;
          has = c.has;
          rows = c.rows;
          unsealed = c.unsealed;
          awaited = c.awaited;
        }

    -- so it stays of the world
    pub changed_by_rows : AreEntriesByRows w i new → IsByRows y
    changed_by_rows all =
        record {
          replicas = λ j m found s r has. changed_entries all j m found (at s (Replica r)) has;
          machines = λ s m is. by_place s m (k.machines s m (sym (still_around w y around s).machine ∙ is)) (cases_eq m.winner.0 i);
        }
      where
        by_place : (s : Segment) (m : Completion) → IsMachineByRows w s m → (m.winner.0 ≡ i) ⊎ (m.winner.0 ≡ i → ⊥) → IsMachineByRows y s m
        by_place s m c (inl is) = here_machine s m c is
        by_place s m c (inr apart) = other_machine s m c apart
