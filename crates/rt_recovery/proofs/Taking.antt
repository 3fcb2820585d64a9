-- A batch and a build leave it so that segments end by the row limit alone: a batch that ends a segment ends with the message that fills
-- it up, and not by the time limit, since it began at this moment; and a machine that waits for its committer waits behind its build.
use Rattle.std.proofs.Common.{◌≡◌, ◌⊎◌, inl, inr, ℕ, ◌-◌, ◌<◌, ◌≤◌, nat_lt, Bool, true, false, not, cond, length, List, Option, Some, None, Result, Ok, Err, refl, sym, ◌∙◌, ap, subst, arith, slice_get}
use Rattle.std.specs.Prelude.{nat_le, option_map}
use Rattle.std.proofs.lemmas.Bool.{and_parts, cond_both, false≢true, leb-false, leb-true}
use Rattle.std.proofs.lemmas.Option.{none-some, same_Some}
use Rattle.rt_base.specs.declared.numbers.Instance.{Instance}
use Rattle.rt_base.specs.declared.numbers.Moment.{Moment}
use Rattle.rt_base.specs.declared.numbers.Offset.{Offset}
use Rattle.rt_base.specs.declared.numbers.Partition.{Partition}
use Rattle.rt_base.specs.declared.numbers.Sequence.{Sequence}
use Rattle.rt_consumer.specs.Batch.{asked_at, asked_in, batched, consumed, filled, is_timed_out, messages_from, row_limit, taken, taken_in}
use Rattle.rt_consumer.specs.Consumer.{cur, cur_in, settings_of}
use Rattle.rt_consumer.specs.Requests.{builds_at, builds_in, filed, filed_at, Builds}
use Rattle.rt_consumer.specs.declared.consumer.Consumer.{Consumer}
use Rattle.rt_consumer.specs.declared.phase.Phase.{Phase}
use Rattle.rt_consumer.specs.declared.phase.Phase.TheVariants as phase
use Rattle.rt_consumer.specs.declared.settings.Settings.{Settings}
use Rattle.rt_consumer.specs.declared.stage.Stage.{Stage}
use Rattle.rt_consumer.specs.declared.stage.Stage.TheVariants.{Building, CatchingUp, ConsumingToOnline, Ending, Holding, InitialConsuming, Retaining, Starting, Uploading}
use Rattle.rt_consumer.specs.declared.unsealed.Unsealed.{Unsealed}
use Rattle.rt_events.specs.declared.event.Event.{Event}
use Rattle.rt_events.specs.declared.event.Event.TheVariants.{Build, Consume}
use Rattle.rt_events.specs.declared.outcome.Outcome.{Outcome}
use Rattle.rt_events.specs.declared.refusal.Refusal.{Refusal}
use Rattle.rt_events.specs.declared.refusal.Refusal.TheVariants.{Limit, Memory, NodeDown, NoSuchMessage, NoSuchNode, NothingToDo}
use Rattle.rt_macros.specs.Doing.{after, Attempted, AttemptedBy, Choose, Gives, HappensBy, Reached}
use Rattle.rt_macros.specs.Settling.{may_consume, waits_in, BuildTurn, ConsumeTurn, SegmentAt}
use Rattle.rt_macros.specs.declared.settling.TheConstants.{BATCH}
use Rattle.rt_model.specs.Completion.{Completion}
use Rattle.rt_model.specs.declared.request.Reason.{Reason}
use Rattle.rt_model.specs.declared.request.Reason.TheVariants.{RowLimit, TimeLimit}
use Rattle.rt_mutable.specs.Consuming.{Consuming}
use Rattle.rt_nodes.specs.Replicas.{builds_now, passes, NodeBuilds, NodeConsumes}
use Rattle.rt_nodes.specs.declared.server_node.ServerNode.{ServerNode}
use Rattle.rt_replica.specs.Held.{HoldsRows, IsHeld}
use Rattle.rt_replica.specs.Lasting.{IsReplica}
use Rattle.rt_replica.proofs.Holding.{taken_held}
use Rattle.rt_schema.specs.Row.{rows_in}
use Rattle.rt_segment.specs.Segment.{SealedSegment}
use Rattle.rt_server.specs.Table.{replica_of, Segment}
use Rattle.rt_server.proofs.LastingEntries.{replica_held}
use Rattle.rt_state.specs.Finding.{replica_at, replica_in}
use Rattle.rt_state.specs.IsSafe.{past_of}
use Rattle.rt_state.specs.IsSafeWorld.{IsSafeWorld}
use Rattle.rt_state.specs.Nodes.{ServerDoesAt, ServerFetchesAt}
use Rattle.rt_state.specs.Room.{no_cost}
use Rattle.rt_state.specs.declared.state.State.{State}
use Rattle.rt_store.specs.Meaning.{Told}
use Rattle.rt_stream.specs.Log.{messages_of, Log}
use Rattle.rt_world.specs.Reading.{is_ready_at}
use Rattle.rt_world.specs.Step.{due_of, Steps}
use Rattle.rt_heal.proofs.LessWorld.{builds_made, consumes_made, HasMade}
use Rattle.rt_heal.proofs.Nothing.{fails_test, nothing}
use Rattle.rt_heal.proofs.Quiet.{told_not, told_same}
use Rattle.rt_heal.proofs.Reaching.{held_rows}
use Rattle.rt_calm.specs.Again.{ahead_still, asked_machines, awaits, machine_of}
use Rattle.rt_calm.specs.Ahead.{ahead_in_world}
use Rattle.rt_calm.proofs.Keeping.{can_follow, IsGoing}
use Rattle.rt_calm.proofs.Rounds.{still_put}
use Rattle.rt_calm.proofs.Serving.{attempt_does}
use Rattle.rt_calm.proofs.Standing.{build_falls}
use Rattle.rt_calm.proofs.Straying.{build_stray}
use Rattle.rt_calm.proofs.Sums.{put_falls, HasPut}
use Rattle.rt_recovery.specs.ByRows.{rows_to, IsByRows, IsByRowsAt, IsOpen, IsToConsume, StandsByRows}
use Rattle.rt_recovery.proofs.Full.{filled_short}
use Rattle.rt_recovery.proofs.Putting.{own_stands, put_by_rows, IsAwaited}
use Rattle.rt_recovery.proofs.Still.{reports_still, IsLater, IsStill, IsStillAround}

-- a world is as itself
still_here : (w : State) (s : Segment) → IsStill w w s
still_here w s = record { setup = refl; log = refl; moment = refl; writes = refl; machine = refl }

-- ---- a batch

module _ (w : State) (i : ℕ) (s : Segment) (r : Consumer) (millis : 1 ≤ w.setup.table.millis) (settings : r.settings ≡ settings_of w.setup) where
  abbrev all : List (List ℕ)
  all = messages_of w.log r.partition

  abbrev Holds : Consuming → Type 0
  Holds rows = HoldsRows r.settings.schema all r.start rows

  abbrev taken_rows : Consuming → Stage → ℕ → Consuming
  taken_rows rows stage n = filled r.settings.schema (row_limit r.settings stage) rows (messages_from w.log r.partition rows.end n)

  -- its rows are those of messages
  own_rows : (rows : Consuming) → Holds rows → length rows.rows ≡ rows_to w r rows.end.0
  own_rows rows holds =
      held_rows r.settings.schema all r.start rows holds
      ∙ ap (λ (z : Settings). length (rows_in z.schema all r.start.0 rows.end.0)) settings

  limit : r.settings.rows ≡ w.setup.table.rows
  limit = ap (λ (z : Settings). z.rows) settings

  initial_stands : (next : Consumer) → IsLater r next → (rows : Consuming) (n : ℕ) → Holds rows → Holds (taken_rows rows InitialConsuming n)
      → r.started ≡ w.moment → rows_to w r rows.end.0 < w.setup.table.rows → (IsOpen w s → IsToConsume w i s)
      → (let o = batched r.settings r.started w.moment InitialConsuming (taken_rows rows InitialConsuming n) in StandsByRows w i s next o o.stage)
  initial_stands next later rows n holds now began few asked =
      cond_both (nat_le r.settings.rows (length new.rows)) (Holding RowLimit)
      (cond (is_timed_out r.settings.millis r.started w.moment new.start new.end) (Holding TimeLimit) InitialConsuming) Stands
      (λ full. (
        reports_still w w s (still_here w s) r next later new.end RowLimit (record {
          by_rows = refl;
          full = record {
            full = omega (arith, leb-true r.settings.rows (length new.rows) full, own_rows new now, limit);
            short =
                omega (
                  arith,
                  filled_short r.settings.schema r.settings.rows all r.start rows holds n room (leb-true r.settings.rows (length new.rows) full),
                  ap (λ (z : Settings). length (rows_in z.schema all r.start.0 (new.end.0 - 1))) settings,
                  limit,
                );
          };
        }),
        asked,
      ))
      (λ more.
      cond_both (is_timed_out r.settings.millis r.started w.moment new.start new.end) (Holding TimeLimit) InitialConsuming Stands
      (λ late.
      let parts = and_parts (nat_le r.settings.millis (w.moment.0 - r.started.0)) (nat_lt new.start.0 new.end.0) late in
      absurd (omega (
        arith,
        millis,
        leb-true r.settings.millis (w.moment.0 - r.started.0) parts.0,
        ap (λ (z : Moment). z.0) began,
        ap (λ (z : Settings). z.millis) settings,
      )))
      (λ early. (
        later.started ∙ began,
        omega (arith, leb-false r.settings.rows (length new.rows) more, own_rows new now, limit, same_rows new.end.0),
        asked,
      )))
    where
      new : Consuming
      new = taken_rows rows InitialConsuming n

      Stands : Stage → Type 0
      Stands stage = StandsByRows w i s next (record { rows = new; stage = stage }) stage

      room : length rows.rows < r.settings.rows
      room = omega (arith, few, own_rows rows holds, limit)

      same_rows : (x : ℕ) → rows_to w next x ≡ rows_to w r x
      same_rows x =
          ap (λ (p : Partition). length (rows_in w.setup.schema (messages_of w.log p) next.start.0 x)) later.partition
          ∙ ap (λ (z : Offset). length (rows_in w.setup.schema all z.0 x)) later.start

  stage_stands : (next : Consumer) → IsLater r next → (rows : Consuming) (stage : Stage) (n : ℕ) → asked_at stage rows.end BATCH ≡ Some n → Holds rows
      → Holds (taken_rows rows stage n) → StandsByRows w i s r (record { rows = rows; stage = stage }) stage
      → (let o = batched r.settings r.started w.moment stage (taken_rows rows stage n) in StandsByRows w i s next o o.stage)
  stage_stands next later rows InitialConsuming n asks holds now (began, few, asked) = initial_stands next later rows n holds now began few asked
  stage_stands next later rows (ConsumingToOnline end done) n asks holds now h =
      let new = taken_rows rows (ConsumingToOnline end done) n in
      cond_both (nat_le end.0 new.end.0) (Retaining done) (ConsumingToOnline end done)
      (λ (stage : Stage). StandsByRows w i s next (record { rows = new; stage = stage }) stage) (λ there. tt) (λ ahead. tt)
  stage_stands next later rows (CatchingUp target reason) n asks holds now h = absurd h
  stage_stands next later rows (Holding reason) n asks holds now h = absurd (none-some n asks)
  stage_stands next later rows (Retaining done) n asks holds now h = absurd (none-some n asks)
  stage_stands next later rows (Building reason) n asks holds now h = absurd (none-some n asks)
  stage_stands next later rows (Starting reason built) n asks holds now h = absurd (none-some n asks)
  stage_stands next later rows (Uploading reason built) n asks holds now h = absurd (none-some n asks)
  stage_stands next later rows (Ending reason built path) n asks holds now h = absurd (none-some n asks)

  abbrev taken_of : Phase → ℕ → Consumer
  taken_of ph n = taken_in r ph w.moment (messages_from w.log r.partition (cur_in ph) n)

  phase_stands : (ph : Phase) (n : ℕ) → asked_in ph BATCH ≡ Some n → IsHeld w.log (record r { phase = ph }) → IsHeld w.log (taken_of ph n)
      → IsByRowsAt w i s r ph → IsByRowsAt w i s (taken_of ph n) (taken_of ph n).phase
  phase_stands (phase.Unsealed o) n asks holds now h =
      stage_stands (taken_of (phase.Unsealed o) n) (record { partition = refl; start = refl; started = refl }) o.rows o.stage n asks holds now h
  phase_stands (phase.Retained kept) n asks holds now h = absurd (none-some n asks)
  phase_stands (phase.Committed kept) n asks holds now h = absurd (none-some n asks)
  phase_stands (phase.Discarded d) n asks holds now h = absurd (none-some n asks)

  batch_stands : (next : Consumer) → IsHeld w.log r → consumed r BATCH w.moment w.log ≡ Some next → IsByRowsAt w i s r r.phase → IsByRowsAt w i s next next.phase
  batch_stands next holds e h = by_count (asked_in r.phase BATCH) refl e
    where
      by_count : (o : Option ℕ) → asked_in r.phase BATCH ≡ o
          → option_map (λ n. taken r w.moment (messages_from w.log r.partition (cur r) n)) o ≡ Some next → IsByRowsAt w i s next next.phase
      by_count None asks f = absurd (none-some next f)
      by_count (Some n) asks f =
          subst (λ (x : Consumer). IsByRowsAt w i s x x.phase) (same_Some (taken_of r.phase n) next f)
          (phase_stands r.phase n asks holds (taken_held r w.log n w.moment holds) h)

-- no machine waits for one that takes messages
takes_unawaited : (i : ℕ) (m : Completion) (x y : Offset) (stage : Stage) (max n : ℕ) → asked_at stage y max ≡ Some n → awaits (Some m) i stage x ≡ true → ⊥
takes_unawaited i m x y InitialConsuming max n asks e = false≢true e
takes_unawaited i m x y (CatchingUp target reason) max n asks e = false≢true e
takes_unawaited i m x y (Holding reason) max n asks e = false≢true e
takes_unawaited i m x y (ConsumingToOnline end done) max n asks e = false≢true e
takes_unawaited i m x y (Retaining done) max n asks e = false≢true e
takes_unawaited i m x y (Building reason) max n asks e = none-some n asks
takes_unawaited i m x y (Starting reason built) max n asks e = none-some n asks
takes_unawaited i m x y (Uploading reason built) max n asks e = none-some n asks
takes_unawaited i m x y (Ending reason built path) max n asks e = none-some n asks

batch_unawaited : (i : ℕ) (r next : Consumer) (now : Moment) (log : Log) (max : ℕ) (m : Completion) → consumed r max now log ≡ Some next → IsAwaited i r m → ⊥
batch_unawaited i r next now log max m e k = by_count (asked_in r.phase max) refl e
  where
    by_count : (o : Option ℕ) → asked_in r.phase max ≡ o → option_map (λ n. taken r now (messages_from log r.partition (cur r) n)) o ≡ Some next → ⊥
    by_count None asks f = none-some next f
    by_count (Some n) asks f =
        takes_unawaited i m k.rows.rows.end k.rows.rows.end k.rows.stage max n (ap (λ (ph : Phase). asked_in ph max) (sym k.unsealed) ∙ asks) k.awaited

-- ---- a build

built_awaits : (m : Option Completion) (i : ℕ) (reason : Reason) (file : SealedSegment) (x : Offset) → awaits m i (Starting reason file) x ≡ awaits m i (Building reason) x
built_awaits None i reason file x = refl
built_awaits (Some m) i reason file x = refl

module _ (w : State) (i : ℕ) (s : Segment) (r next : Consumer) (later : IsLater r next) where
  filed_stands : (rows : Consuming) (stage : Stage) (file : SealedSegment) → builds_at stage ≡ true → StandsByRows w i s r (record { rows = rows; stage = stage }) stage
      → IsByRowsAt w i s next (filed_at rows stage file)
  filed_stands rows (Retaining done) file builds h = tt
  filed_stands rows (Building reason) file builds h =
      record {
        reports = reports_still w w s (still_here w s) r next later rows.end reason h.reports;
        awaited = built_awaits (machine_of (asked_machines w) s.0 s.1) i reason file rows.end ∙ h.awaited;
        opened = h.opened;
        consumes = h.consumes;
      }
  filed_stands rows InitialConsuming file builds h = absurd (false≢true builds)
  filed_stands rows (CatchingUp target reason) file builds h = absurd (false≢true builds)
  filed_stands rows (Holding reason) file builds h = absurd (false≢true builds)
  filed_stands rows (ConsumingToOnline end done) file builds h = absurd (false≢true builds)
  filed_stands rows (Starting reason built) file builds h = absurd (false≢true builds)
  filed_stands rows (Uploading reason built) file builds h = absurd (false≢true builds)
  filed_stands rows (Ending reason built path) file builds h = absurd (false≢true builds)

  built_stands : (ph : Phase) (file : SealedSegment) → builds_in ph ≡ true → IsByRowsAt w i s r ph → IsByRowsAt w i s next (filed ph file)
  built_stands (phase.Unsealed o) file builds h = filed_stands o.rows o.stage file builds h
  built_stands (phase.Retained kept) file builds h = tt
  built_stands (phase.Committed kept) file builds h = tt
  built_stands (phase.Discarded d) file builds h = h

build_stands : (w : State) (i : ℕ) (s : Segment) (r next : Consumer) → Builds r next (Ok tt) → IsByRowsAt w i s r r.phase → IsByRowsAt w i s next next.phase
build_stands w i s r next (builds, (file, seals, is)) h =
    subst (λ (x : Consumer). IsByRowsAt w i s x x.phase) (sym is)
    (built_stands w i s r (record r { phase = filed r.phase file; waited = None }) (record { partition = refl; start = refl; started = refl }) r.phase file builds h)

-- a machine waits for it behind its build, too
filed_awaited : (i : ℕ) (m : Completion) (rows : Consuming) (stage : Stage) (file : SealedSegment) → builds_at stage ≡ true → awaits (Some m) i stage rows.end ≡ true
    → (o : Unsealed) × (filed_at rows stage file ≡ phase.Unsealed o) × (awaits (Some m) i o.stage o.rows.end ≡ true)
filed_awaited i m rows (Building reason) file builds e = (record { rows = rows; stage = Starting reason file }, refl, e)
filed_awaited i m rows (Retaining done) file builds e = absurd (false≢true e)
filed_awaited i m rows InitialConsuming file builds e = absurd (false≢true e)
filed_awaited i m rows (CatchingUp target reason) file builds e = absurd (false≢true e)
filed_awaited i m rows (Holding reason) file builds e = absurd (false≢true e)
filed_awaited i m rows (ConsumingToOnline end done) file builds e = absurd (false≢true e)
filed_awaited i m rows (Starting reason built) file builds e = absurd (false≢true builds)
filed_awaited i m rows (Uploading reason built) file builds e = absurd (false≢true builds)
filed_awaited i m rows (Ending reason built path) file builds e = absurd (false≢true builds)

build_awaited : (i : ℕ) (r next : Consumer) (m : Completion) → Builds r next (Ok tt) → IsAwaited i r m → IsAwaited i next m
build_awaited i r next m (builds, (file, seals, is)) k =
    let a = filed_awaited i m k.rows.rows k.rows.stage file (ap builds_in (sym k.unsealed) ∙ builds) k.awaited in
    record {
      rows = a.0;
      unsealed = ap (λ (x : Consumer). x.phase) is ∙ ap (λ (ph : Phase). filed ph file) k.unsealed ∙ a.1;
      awaited = a.2;
    }

-- ---- events

-- the time stands still
consume_moment : (w y : State) (i : Instance) (p : Partition) (q : Sequence) (max : ℕ) (o : Outcome) → Steps w (Consume i p q max) y (Ok o) → y.moment ≡ w.moment
consume_moment w y i p q max o (cost, due, h) = by_node (slice_get w.servers i.0) h
  where
    by_node : (n : Option ServerNode) → ServerFetchesAt n w i (NodeConsumes p q max w.moment) cost (y, o) → y.moment ≡ w.moment
    by_node None h = absurd h
    by_node (Some n) (new, log, step, is) = ap (λ (x : State). x.moment) is

build_moment : (w y : State) (i : Instance) (p : Partition) (q : Sequence) (o : Outcome) → Steps w (Build i p q) y (Ok o) → y.moment ≡ w.moment
build_moment w y i p q o (cost, due, h) = by_node (slice_get w.servers i.0) h
  where
    by_node : (n : Option ServerNode) → ServerDoesAt n w i (NodeBuilds p q) cost (y, o) → y.moment ≡ w.moment
    by_node None h = absurd h
    by_node (Some n) (new, step, is) = ap (λ (x : State). x.moment) is

-- an event that is attempted is refused, for there is nothing to do, or happens
pub attempt_tells : (e : Event) (busy : Bool) (w : State) (v : Reached) (told : Bool) → Attempted e busy w v (Ok told)
    → ((v.world ≡ w) × (told ≡ busy) × (due_of w e ≡ nothing)) ⊎ ((told ≡ true) × ((o : Outcome) × Steps w e v.world (Ok o)))
attempt_tells e busy w v told t = by_told t.between t.told t.last t.came.by t.further t.whole
  where
    by_told : (b : Reached) (r : Result Outcome Refusal) (l : Reached) → HappensBy e w b r → AttemptedBy busy r b.world l (Ok told) → v ≡ after b.turns l
        → ((v.world ≡ w) × (told ≡ busy) × (due_of w e ≡ nothing)) ⊎ ((told ≡ true) × ((o : Outcome) × Steps w e v.world (Ok o)))
    by_told b (Ok o) l by further whole =
        inr (
          told_same told true further.1,
          (o, subst (λ (x : State). Steps w e x (Ok o)) (sym (ap (λ (z : Reached). z.world) whole ∙ ap (λ (z : Reached). z.world) further.0)) by.0),
        )
    by_told b (Err NothingToDo) l by further whole =
        inl (
          ap (λ (z : Reached). z.world) whole ∙ ap (λ (z : Reached). z.world) further.0 ∙ ap (λ (z : Reached). z.world) by.1,
          told_same told busy further.1,
          by.0,
        )
    by_told b (Err NoSuchMessage) l by further whole = absurd (told_not told NoSuchMessage further.1)
    by_told b (Err NoSuchNode) l by further whole = absurd (told_not told NoSuchNode further.1)
    by_told b (Err NodeDown) l by further whole = absurd (told_not told NodeDown further.1)
    by_told b (Err (Limit which)) l by further whole = absurd (told_not told (Limit which) further.1)
    by_told b (Err Memory) l by further whole = absurd (told_not told Memory further.1)

module _ (call : Consumer → Consumer → Type 0) (w y : State) (i : Instance) (p : Partition) (q : Sequence) (safe : IsSafeWorld w) (m : HasMade call w y i p q) where
  made_put : HasPut w y i.0 m.node m.new p q m.replica m.next
  made_put = record { there = m.there; found = m.found; table = m.table; servers = m.servers; log = m.log }

  made_around : y.moment ≡ w.moment → IsStillAround w y
  made_around moment =
      record { setup = m.setup; log = m.log; moment = moment; writes = ap (λ (t : Told). t.writes) m.store; controllers = m.controllers }

  made_of : IsReplica w.setup (past_of w) m.node.server.numbers.instance m.node.server.numbers.incarnation m.replica
  made_of = (replica_held w.setup (past_of w) m.node.server (safe.safe.servers i.0 m.node m.there).over p q m.replica m.found).2

  -- it stays so of the world, where it does of the replica
  made_by_rows : IsByRows w → y.moment ≡ w.moment
      → (IsByRowsAt w i.0 (p, q) m.replica m.replica.phase → IsByRowsAt w i.0 (p, q) m.next m.next.phase)
      → ((c : Completion) → IsAwaited i.0 m.replica c → IsAwaited i.0 m.next c) → IsByRows y
  made_by_rows k moment stands awaited =
      put_by_rows w y i.0 m.node m.new p q m.replica m.next made_put k (made_around moment) (safe.safe.servers i.0 m.node m.there).over.kept.ascending
      (stands (own_stands w y i.0 m.node m.new p q m.replica m.next made_put k)) awaited

pub consume_by_rows : (paused : Bool) (i : Instance) (s : SegmentAt) (busy : Bool) (w : State) (v : Reached) (told : Bool) → IsGoing w → 1 ≤ w.setup.table.millis
    → IsByRows w → ConsumeTurn paused i s busy w v (Ok told) → IsByRows v.world
consume_by_rows paused i s busy w v told g millis k h = by_test (may_consume paused w i s) refl h
  where
    stepped : is_ready_at w i s.0 s.1 ≡ true → (y : State) (o : Outcome) → Steps w (Consume i s.0 s.1 BATCH) y (Ok o) → IsByRows y
    stepped ready y o step =
        let m = consumes_made w y i s.0 s.1 o g.safe (can_follow w g) BATCH (omega arith) ready step in
        let made = made_of _ w y i s.0 s.1 g.safe m in
        made_by_rows _ w y i s.0 s.1 g.safe m k (consume_moment w y i s.0 s.1 BATCH o step)
        (λ stands. batch_stands w i.0 (s.0, s.1) m.replica millis made.settings m.next made.held m.made.0 stands)
        (λ c a. absurd (batch_unawaited i.0 m.replica m.next w.moment w.log BATCH c m.made.0 a))

    by_way : is_ready_at w i s.0 s.1 ≡ true → ((v.world ≡ w) × (told ≡ busy)) ⊎ ((o : Outcome) × Steps w (Consume i s.0 s.1 BATCH) v.world (Ok o)) → IsByRows v.world
    by_way ready (inl same) = subst IsByRows (sym same.0) k
    by_way ready (inr (o, step)) = stepped ready v.world o step

    by_test : (b : Bool) → may_consume paused w i s ≡ b → Choose b (Attempted (Consume i s.0 s.1 BATCH) busy w) (Gives busy w) v (Ok told) → IsByRows v.world
    by_test false e t = subst IsByRows (sym (ap (λ (z : Reached). z.world) t.0)) k
    by_test true e t =
        by_way (and_parts (is_ready_at w i s.0 s.1) (not (waits_in w paused i s.0 s.1)) e).0 (attempt_does (Consume i s.0 s.1 BATCH) busy w v told t)

pub build_by_rows : (i : Instance) (s : SegmentAt) (busy : Bool) (w : State) (v : Reached) (told : Bool) → IsGoing w → IsByRows w
    → BuildTurn i s busy w v (Ok told) → IsByRows v.world
build_by_rows i s busy w v told g k t = by_way (attempt_does (Build i s.0 s.1) busy w v told t)
  where
    by_way : ((v.world ≡ w) × (told ≡ busy)) ⊎ ((o : Outcome) × Steps w (Build i s.0 s.1) v.world (Ok o)) → IsByRows v.world
    by_way (inl same) = subst IsByRows (sym same.0) k
    by_way (inr (o, step)) =
        let m = builds_made w v.world i s.0 s.1 o g.safe (can_follow w g) step in
        made_by_rows _ w v.world i s.0 s.1 g.safe m k (build_moment w v.world i s.0 s.1 o step)
        (λ stands. build_stands w i.0 (s.0, s.1) m.replica m.next m.made stands) (λ c a. build_awaited i.0 m.replica m.next c m.made a)

-- where a build is due it is made, and less lies ahead
pub record HasBuilt (w y : State) (told : Bool) : Type 0 where
  pub busy : told ≡ true
  pub writes : y.store.writes ≡ w.store.writes
  pub ahead : ahead_in_world y < ahead_in_world w
  pub still : ahead_still y < ahead_still w

pub due_builds : (i : Instance) (s : SegmentAt) (busy : Bool) (w : State) (v : Reached) (told : Bool) (n : ServerNode) (r : Consumer) → IsGoing w
    → slice_get w.servers i.0 ≡ Some n → replica_of n.server.table s.0 s.1 ≡ Some r → builds_in r.phase ≡ true → BuildTurn i s busy w v (Ok told)
    → HasBuilt w v.world told
due_builds i s busy w v told n r g there found builds t = by_way (attempt_tells (Build i s.0 s.1) busy w v told t)
  where
    by_way : ((v.world ≡ w) × (told ≡ busy) × (due_of w (Build i s.0 s.1) ≡ nothing)) ⊎ ((told ≡ true) × ((o : Outcome) × Steps w (Build i s.0 s.1) v.world (Ok o)))
        → HasBuilt w v.world told
    by_way (inl (same, e, none)) =
        let here : replica_at w i s.0 s.1 ≡ Some r = ap (λ (x : Option ServerNode). replica_in x s.0 s.1) there ∙ found in
        absurd (false≢true
        (sym (fails_test w i s.0 (passes builds_now (replica_at w i s.0 s.1)) no_cost none) ∙ ap (passes builds_now) here ∙ builds))
    by_way (inr (e, (o, step))) =
        let m = builds_made w v.world i s.0 s.1 o g.safe (can_follow w g) step in
        let put = made_put _ w v.world i s.0 s.1 g.safe m in
        let less = build_falls m.replica m.next w.log m.made in
        let writes = ap (λ (x : Told). x.writes) m.store in
        record {
          busy = e;
          writes = writes;
          ahead = put_falls w v.world i.0 m.node m.new s.0 s.1 m.replica m.next put less;
          still = still_put w v.world g i s.0 s.1 m.node m.new m.replica m.next put m.controllers writes less (λ c. build_stray c i.0 m.replica m.next m.made);
        }
