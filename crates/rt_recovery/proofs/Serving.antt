-- The servers' part of a round leaves it so that segments end by the row limit alone: a replica that is started begins at this moment with
-- no row, where it is to consume a segment in progress; and no committer moves, since it is to consume as long as its segment is in progress.
use Rattle.std.proofs.Common.{◌≡◌, ◌⊎◌, inl, inr, ℕ, zero, suc, ◌+◌, ◌-◌, Bool, true, false, cond, List, [], ◌∷◌, length, take, drop, Option, Some, None, Result, Ok, refl, sym, ◌∙◌, ap, subst, arith, slice_get}
use Rattle.std.specs.List.{filter_map}
use Rattle.std.specs.Map.{lookup}
use Rattle.std.specs.Prelude.{slice_set}
use Rattle.std.proofs.lemmas.Bool.{true≢false}
use Rattle.std.proofs.lemmas.Option.{none-some, same_Some}
use Rattle.rt_base.specs.declared.numbers.Instance.{Instance}
use Rattle.rt_base.specs.declared.numbers.Moment.{Moment}
use Rattle.rt_base.specs.declared.numbers.Partition.{Partition}
use Rattle.rt_base.specs.declared.numbers.Sequence.{Sequence}
use Rattle.rt_consumer.specs.Consumer.{started_of, state_of}
use Rattle.rt_consumer.specs.declared.consumer.Consumer.{Consumer}
use Rattle.rt_consumer.specs.declared.phase.Phase.{Phase}
use Rattle.rt_consumer.specs.declared.phase.Phase.TheVariants as phase
use Rattle.rt_consumer.specs.declared.stage.Stage.{Stage}
use Rattle.rt_consumer.specs.declared.stage.Stage.TheVariants.{Building, CatchingUp, ConsumingToOnline, Ending, Holding, InitialConsuming, Retaining, Starting, Uploading}
use Rattle.rt_consumer.specs.declared.unsealed.Unsealed.{Unsealed}
use Rattle.rt_deep.specs.Meaning.{Told as ToldDeep}
use Rattle.rt_deep.specs.Memory.{means as deep_means}
use Rattle.rt_entry.specs.Entry.{wanting}
use Rattle.rt_entry.specs.Transition.{is_due, is_open, is_open_entry, metadata_in, told}
use Rattle.rt_entry.specs.declared.entry.CommittedSegment.{CommittedSegment}
use Rattle.rt_entry.specs.declared.entry.Entry.{Entry}
use Rattle.rt_entry.specs.declared.entry.Entry.TheVariants.{Committed, Replica}
use Rattle.rt_entry.specs.declared.refused.ServerRefused.{ServerRefused}
use Rattle.rt_events.specs.Fits.{Fits}
use Rattle.rt_events.specs.declared.event.Event.{Event}
use Rattle.rt_events.specs.declared.event.Event.TheVariants.{Download, See, Transit}
use Rattle.rt_events.specs.declared.outcome.Outcome.{Outcome}
use Rattle.rt_events.specs.declared.outcome.Outcome.TheVariants as outcome
use Rattle.rt_lists.specs.Members.{Has}
use Rattle.rt_macros.specs.Doing.{Act, Attempted, Choose, Each as EachOf, EachFrom, Gives, Happens, Passed, Reached, Then}
use Rattle.rt_macros.specs.Settling.{Downloads, DownloadTurn, SegmentAt, ServersTurn, ServerTurn, Transits, TransitsAndDownloads, TransitTurn}
use Rattle.rt_model.specs.Completion.{Completion}
use Rattle.rt_model.specs.Entries.{entries_of}
use Rattle.rt_model.specs.Ideal.{mode_of}
use Rattle.rt_model.specs.Setup.{IsSetup}
use Rattle.rt_model.specs.declared.commit.Commit.{Commit}
use Rattle.rt_model.specs.declared.ideal_state.Mode.{Mode}
use Rattle.rt_model.specs.declared.ideal_state.Mode.TheVariants as mode
use Rattle.rt_model.specs.declared.node.Seen.{Seen}
use Rattle.rt_model.specs.declared.replica_state.ReplicaState.{ReplicaState}
use Rattle.rt_model.specs.declared.seg_meta.SeenMeta.{SeenMeta}
use Rattle.rt_model.specs.declared.seg_meta.SegMeta.{SegMeta}
use Rattle.rt_model.specs.declared.setup.Setup.{Setup}
use Rattle.rt_model.specs.declared.status.Status.{Status}
use Rattle.rt_model.specs.declared.status.Status.TheVariants.{Abandoned, Done, InProgress}
use Rattle.rt_msgs.specs.Numbered.{Numbered}
use Rattle.rt_nodes.proofs.Looks.{transits_looks, unwritten}
use Rattle.rt_nodes.specs.Refused.{outcome_by, OnlyRead}
use Rattle.rt_nodes.specs.Servers.{NodeLoads, NodeMoves, NodeSees}
use Rattle.rt_nodes.specs.declared.server_node.ServerNode.{ServerNode}
use Rattle.rt_safety.proofs.JobsOn.{own_slot}
use Rattle.rt_safety.proofs.Later.{runs_are_safe}
use Rattle.rt_safety.specs.Runs.{Runs, Turn}
use Rattle.rt_schema.specs.Row.{row_of}
use Rattle.rt_server.proofs.EachEntry.{add_each, leave_each, put_each, Each}
use Rattle.rt_server.proofs.LastingTables.{at}
use Rattle.rt_server.proofs.Listed.{lookup_put, targets_tell}
use Rattle.rt_server.proofs.Merge.{itself}
use Rattle.rt_server.proofs.Stepped.{comes_keep, stepped}
use Rattle.rt_server.specs.Calls.{stepped_by, targets_of, Transits as MovesBy, TransitsIf, TransitsTo}
use Rattle.rt_server.specs.Download.{committed_at, DownloadsAt}
use Rattle.rt_server.specs.Table.{entry_of, is_segment, target_of, without, Segment, Segments, ServerState}
use Rattle.rt_server.specs.Transition.{committed, moved_by, moved_to, opened, transit_due, transited, transition}
use Rattle.rt_state.specs.Finding.{is_server_up}
use Rattle.rt_state.specs.IsSafeWorld.{IsSafeWorld}
use Rattle.rt_state.specs.Nodes.{ServerCallsAt, ServerGetsAt}
use Rattle.rt_state.specs.Places.{AreAt}
use Rattle.rt_state.specs.Room.{counted}
use Rattle.rt_state.specs.declared.cost.Cost.{Cost}
use Rattle.rt_state.specs.declared.state.State.{State}
use Rattle.rt_store.specs.Meaning.{Meaning, Told}
use Rattle.rt_store.specs.Memory.{means}
use Rattle.rt_stream.specs.Log.{messages_of}
use Rattle.rt_world.proofs.Places.{at_set}
use Rattle.rt_world.proofs.SafeSteps.{steps_keep}
use Rattle.rt_world.specs.Reading.{due_transits_of, wanted_in}
use Rattle.rt_world.specs.Step.{Steps}
use Rattle.rt_heal.specs.AtRest.{AreUp, IsUp}
use Rattle.rt_heal.proofs.Clearing.{transits_due, IsLessDue}
use Rattle.rt_heal.proofs.GivenUp.{consumable}
use Rattle.rt_heal.proofs.Moving.{event_shut, told_shut}
use Rattle.rt_heal.proofs.Quiet.{then_parts}
use Rattle.rt_heal.proofs.Seeing.{plan_met, see_told, IsHealthy}
use Rattle.rt_calm.proofs.Serving.{attempt_does}
use Rattle.rt_calm.proofs.Settling.{open_consumes, AreConsumable}
use Rattle.rt_recovery.specs.ByRows.{rows_to, IsByRows, IsByRowsAt, StandsByRows}
use Rattle.rt_recovery.proofs.Entries.{add_stays, entry_found, leave_stays, put_stays}
use Rattle.rt_recovery.proofs.Still.{awaited_commits, changed_by_rows, entries_by_rows, keeps_awaited, HasAwaited, IsEntryByRows, IsStillAround}

-- ---- a table behind a transition

module _ (P : Segment → Entry → Type 0) (setup : Setup) (t : Segments) (p : Partition) (q : Sequence) (now : Moment) where
  abbrev started : SegMeta → Entry
  started meta = Replica (started_of setup p q meta now)

  -- what is true of each entry is true behind it, too, where it is of one that was closed, and of one that is new; and entries of other
  -- segments stay
  record HasMoved (u : Segments) : Type 0 where
    each : Each P t.entries → ((e : Entry) → is_open_entry e ≡ false → P (p, q) e)
        → ((meta : SegMeta) → entry_of u p q ≡ Some (started meta) → P (p, q) (started meta)) → Each P u.entries
    stays : (x : Segment × Entry) → is_segment p q x.0 ≡ false → Has t.entries x → Has u.entries x

  same_moved : HasMoved t
  same_moved = record { each = λ all closed new. all; stays = λ x other has. has }

  gone_moved : HasMoved (without t p q)
  gone_moved =
      record {
        each = λ all closed new. leave_each P t.entries p q all;
        stays = λ x other has. leave_stays p q x other t.entries has;
      }

  opened_moved : (seen : SeenMeta) (o : Option Entry) → HasMoved (opened setup t p q now seen o).1
  opened_moved seen None =
      let e = started seen.meta in
      record {
        each =
            λ all closed new.
            add_each P t.entries p q e all
            (new seen.meta (lookup_put t.entries (p, q) (p, q) e ∙ ap (λ (b : Bool). cond b (Some e) (entry_of t p q)) (itself (p, q))));
        stays = λ x other has. add_stays p q x other t.entries e has;
      }
  opened_moved seen (Some e) = same_moved

  committed_moved : (done : SeenMeta) (commit : Commit) (o : Option Entry) → HasMoved (committed t p q done commit.end o).1
  committed_moved done commit None =
      record {
        each = λ all closed new. add_each P t.entries p q (wanting done) all (closed (wanting done) refl);
        stays = λ x other has. add_stays p q x other t.entries (wanting done) has;
      }
  committed_moved done commit (Some e) =
      record {
        each = λ all closed new. put_each P t.entries p q (told e done commit.end) all (closed (told e done commit.end) (told_shut e done commit.end));
        stays = λ x other has. put_stays p q x other t.entries (told e done commit.end) has;
      }

  status_moved : (seen : SeenMeta) (status : Status) → HasMoved (moved_by setup t p q now seen status).1
  status_moved seen InProgress = opened_moved seen (entry_of t p q)
  status_moved seen (Done commit) = committed_moved seen commit (entry_of t p q)
  status_moved seen Abandoned = gone_moved

  to_moved : (seen : Option SeenMeta) → HasMoved (moved_to setup t p q now seen).1
  to_moved None = gone_moved
  to_moved (Some seen) = status_moved seen seen.meta.status

  transition_moved : (m : Mode) (seen : Option SeenMeta) → HasMoved (transition setup t p q now m seen).1
  transition_moved mode.Offline seen = gone_moved
  transition_moved mode.Consuming seen = to_moved seen
  transition_moved mode.Online seen = to_moved seen

module _ (P : Segment → Entry → Type 0) (before after : Meaning) (old new : ServerState) (p : Partition) (q : Sequence) (now : Moment) where
  abbrev Moves : ServerState → Type 0
  Moves s = HasMoved P old.setup old.table p q now s.table

  still_moves : Moves old
  still_moves = same_moved P old.setup old.table p q now

  transits_moved : (result : Result ReplicaState ServerRefused) → MovesBy before after old new p q now result → Moves new
  transits_moved result h = by_due (transit_due old.table p q) h
    where
      by_target : (o : Option Mode) → TransitsTo o before after old new p q now result → Moves new
      by_target None k = subst Moves (sym k.2) (gone_moved P old.setup old.table p q now)
      by_target (Some m) k =
          comes_keep Moves old new (stepped_by old (transited old.setup old.table p q now m k.0)) result still_moves
          (λ x step.
          let moves = stepped old new p q now m (metadata_in k.0) x step in
          subst Moves (sym moves.2) (transition_moved P old.setup old.table p q now m moves.0)) k.2

      by_due : (b : Bool) → TransitsIf b before after old new p q now result → Moves new
      by_due true k = by_target (target_of old.table p q) k
      by_due false k = subst Moves (sym k.2) still_moves

-- one that isn't due comes to nothing
due_moves : (before after : Meaning) (old new : ServerState) (p : Partition) (q : Sequence) (now : Moment) (result : Result ReplicaState ServerRefused) (o : Outcome)
    → MovesBy before after old new p q now result → outcome_by outcome.Stands result ≡ Some o → transit_due old.table p q ≡ true
due_moves before after old new p q now result o h told_it = by_due (transit_due old.table p q) refl h
  where
    by_due : (b : Bool) → transit_due old.table p q ≡ b → TransitsIf b before after old new p q now result → transit_due old.table p q ≡ true
    by_due true is k = is
    by_due false is k = absurd (none-some o (sym (ap (outcome_by outcome.Stands) k.1) ∙ told_it))

-- ---- a world

-- a world in this part of a round
record IsServing (w : State) : Type 0 where
  safe : IsSafeWorld w
  up : AreAt IsUp w.servers
  unplanned : w.store.faults.plan ≡ []
  consumable : AreConsumable w.store.writes
  by_rows : IsByRows w

-- in which a server has seen the present ideal state
record IsMoving (i : ℕ) (w : State) : Type 0 where
  serving : IsServing w
  seen : (n : ServerNode) → slice_get w.servers i ≡ Some n → n.server.table.targets ≡ targets_of n.server.numbers.instance (entries_of w.store.writes)

-- one server's step leads to another one
serves_on : (w y : State) (e : Event) (o : Outcome) (i : ℕ) (n new : ServerNode) → IsServing w → Fits w.setup.schema e → Steps w e y (Ok o)
    → slice_get w.servers i ≡ Some n → y.servers ≡ slice_set w.servers i new → new.up ≡ n.up → y.store.faults.plan ≡ [] → IsStillAround w y → IsByRows y → IsServing y
serves_on w y e o i n new k fits step there servers up unplanned around by_rows =
    record {
      safe = steps_keep w e y (Ok o) (λ h. cc) fits k.safe step;
      up = subst (AreAt IsUp) (sym servers) (at_set IsUp w.servers i new (up ∙ k.up i n there) k.up);
      unplanned = unplanned;
      consumable = subst AreConsumable (sym around.writes) k.consumable;
      by_rows = by_rows;
    }

-- its targets are the present ones, where it has seen them
sees_on : (w y : State) (i : ℕ) (n new : ServerNode) → slice_get w.servers i ≡ Some n → y.servers ≡ slice_set w.servers i new
    → new.server.table.targets ≡ targets_of new.server.numbers.instance (entries_of y.store.writes) → (m : ServerNode) → slice_get y.servers i ≡ Some m
    → m.server.table.targets ≡ targets_of m.server.numbers.instance (entries_of y.store.writes)
sees_on w y i n new there servers seen m found =
    let now : slice_get y.servers i ≡ Some new = ap (λ (ns : List ServerNode). slice_get ns i) servers ∙ own_slot w.servers i n new there in
    subst (λ (z : ServerNode). z.server.table.targets ≡ targets_of z.server.numbers.instance (entries_of y.store.writes)) (same_Some new m (sym now ∙ found)) seen

-- ---- an event

see_moves : (i : Instance) (w y : State) (o : Outcome) → IsServing w → Steps w (See i) y (Ok o) → IsMoving i.0 y
see_moves i w y o k (cost, due, h) = by_node (slice_get w.servers i.0) refl h
  where
    by_node : (x : Option ServerNode) → slice_get w.servers i.0 ≡ x → ServerCallsAt x w i NodeSees cost (y, o) → IsMoving i.0 y
    by_node None there f = absurd f
    by_node (Some n) there f =
        let healthy : IsHealthy w w =
        record {
          safe = k.safe;
          same = refl;
          log = refl;
          written = refl;
          up = k.up;
          unplanned = k.unplanned;
          controllers = refl;
          reached = ([], refl);
        } in
        let seen = see_told w w i n y o healthy there (cost, due, h) in
        let servers : y.servers ≡ slice_set w.servers i.0 seen.new = ap (λ (x : State). x.servers) seen.is in
        let writes : y.store.writes ≡ w.store.writes = ap (λ (x : State). x.store.writes) seen.is ∙ seen.writes in
        let entries : seen.new.server.table.entries ≡ n.server.table.entries = ap (λ (x : ServerState). x.table.entries) seen.server in
        let around : IsStillAround w y =
        record {
          setup = ap (λ (x : State). x.setup) seen.is;
          log = ap (λ (x : State). x.log) seen.is;
          moment = ap (λ (x : State). x.moment) seen.is;
          writes = writes;
          controllers = ap (λ (x : State). x.controllers) seen.is;
        } in
        let by_rows =
        changed_by_rows w y around i.0 n seen.new there servers k.by_rows
        (λ s m a. record {
          replica = a.replica;
          has = subst (λ (es : List (Segment × Entry)). Has es (at s (Replica a.replica))) (sym entries) a.has;
          rows = a.rows;
          unsealed = a.unsealed;
          awaited = a.awaited;
        })
        (subst (Each (IsEntryByRows w i.0)) (sym entries) (entries_by_rows w k.by_rows i.0 n there)) in
        let unplanned = ap (λ (x : State). x.store.faults.plan) seen.is ∙ seen.unplanned in
        record {
          serving = serves_on w y (See i) o i.0 n seen.new k tt (cost, due, h) there servers seen.up unplanned around by_rows;
          seen =
              sees_on w y i.0 n seen.new there servers
              (ap (λ (x : ServerState). x.table.targets) seen.server
              ∙ ap (λ (x : ServerState). targets_of x.numbers.instance (entries_of w.store.writes)) (sym seen.server)
              ∙ ap (λ (g : List Seen). targets_of seen.new.server.numbers.instance (entries_of g)) (sym writes));
        }

-- a store that was only looked at has no fault planned after it, either
look_unplanned : (t u : Told) → OnlyRead t u → t.faults.plan ≡ [] → u.faults.plan ≡ []
look_unplanned t u (inl same) e = ap (λ (x : Told). x.faults.plan) same ∙ e
look_unplanned t u (inr met) e = ap (λ (x : Told). x.faults.plan) met ∙ plan_met t.faults e

-- nothing is said of a replica that is told of a commit, or has it
closed_stage : (w : State) (i : ℕ) (s : Segment) (r : Consumer) (o : Unsealed) (stage : Stage)
    → is_open (state_of (phase.Unsealed (record { rows = o.rows; stage = stage }))) ≡ false → StandsByRows w i s r o stage
closed_stage w i s r o (ConsumingToOnline end done) closed = tt
closed_stage w i s r o (Retaining done) closed = tt
closed_stage w i s r o InitialConsuming closed = absurd (true≢false closed)
closed_stage w i s r o (CatchingUp target reason) closed = absurd (true≢false closed)
closed_stage w i s r o (Holding reason) closed = absurd (true≢false closed)
closed_stage w i s r o (Building reason) closed = absurd (true≢false closed)
closed_stage w i s r o (Starting reason built) closed = absurd (true≢false closed)
closed_stage w i s r o (Uploading reason built) closed = absurd (true≢false closed)
closed_stage w i s r o (Ending reason built path) closed = absurd (true≢false closed)

closed_phase : (w : State) (i : ℕ) (s : Segment) (r : Consumer) (ph : Phase) → is_open (state_of ph) ≡ false → IsByRowsAt w i s r ph
closed_phase w i s r (phase.Unsealed o) closed = closed_stage w i s r o o.stage closed
closed_phase w i s r (phase.Retained kept) closed = tt
closed_phase w i s r (phase.Committed kept) closed = tt
closed_phase w i s r (phase.Discarded d) closed = absurd (true≢false closed)

closed_entry : (w : State) (i : ℕ) (s : Segment) (e : Entry) → is_open_entry e ≡ false → IsEntryByRows w i s e
closed_entry w i s (Replica r) closed = closed_phase w i s r r.phase closed
closed_entry w i s (Committed c) closed = tt

module _ (i : Instance) (s : SegmentAt) (w y : State) (o : Outcome) (k : IsMoving i.0 w) (step : Steps w (Transit i s.0 s.1) y (Ok o))
    (n : ServerNode) (there : slice_get w.servers i.0 ≡ Some n) where
  abbrev p : Partition
  p = s.0

  abbrev q : Sequence
  q = s.1

  abbrev g : IsServing w
  g = k.serving

  -- its targets are those of this instance
  told_mode : target_of n.server.table p q ≡ mode_of (entries_of w.store.writes) p q (record { 0 = i.0 })
  told_mode =
      ap (lookup (is_segment p q)) (k.seen n there)
      ∙ targets_tell n.server.numbers.instance (entries_of w.store.writes) p q
      ∙ ap (λ (x : ℕ). mode_of (entries_of w.store.writes) p q (record { 0 = x })) (g.safe.safe.servers i.0 n there).placed

  -- one that is due is none of a committer
  committer_stays : transit_due n.server.table p q ≡ true → (m : Completion) → HasAwaited i.0 n (p, q) m → ⊥
  committer_stays due m a =
      let stands = subst (IsByRowsAt w i.0 (p, q) a.replica) a.unsealed (g.by_rows.replicas i.0 n there (p, q) a.replica a.has) in
      let commits = awaited_commits w i.0 (p, q) a.replica a.rows m a.rows.rows.end a.rows.stage stands a.awaited in
      let target : target_of n.server.table p q ≡ Some mode.Consuming = told_mode ∙ commits.1.consumes in
      let found = entry_found n.server.table.entries (p, q) (Replica a.replica) (g.safe.safe.servers i.0 n there).over.kept.ascending a.has in
      true≢false
      (sym due ∙ ap (λ (x : Option Entry). is_due (target_of n.server.table p q) x) found
      ∙ ap (λ (x : Option Mode). is_due x (Some (Replica a.replica))) target)

  -- and one that is started has no row, where it is to consume
  starts_by_rows : (meta : SegMeta) → target_of n.server.table p q ≡ Some mode.Consuming
      → IsEntryByRows w i.0 (p, q) (started (IsEntryByRows w i.0) n.server.setup n.server.table p q w.moment meta)
  starts_by_rows meta target =
      let none : rows_to w (started_of n.server.setup p q meta w.moment) meta.start.0 ≡ 0 =
      ap (λ (x : ℕ). length (filter_map (row_of w.setup.schema) (take x (drop meta.start.0 (messages_of w.log p)))))
      (let nothing : meta.start.0 - meta.start.0 ≡ 0 = omega arith in nothing) in
      (refl, omega (arith, none, g.safe.safe.setup.table.rows.0), λ opened. sym told_mode ∙ target)

  moves_by : (cost : Cost) (new : ServerNode) (u : Told) → NodeMoves p q w.moment w.store u n new o
      → y ≡ counted (record w { servers = slice_set w.servers i.0 new; store = u }) cost → IsMoving i.0 y
  moves_by cost new u (result, h, told_it, up) is =
      let ascending = (g.safe.safe.servers i.0 n there).over.kept.ascending in
      let looks = transits_looks w.store u n.server new.server p q w.moment result h in
      let less : IsLessDue n.server new.server = transits_due (means w.store) (means u) n.server new.server p q w.moment ascending result h in
      let due = due_moves (means w.store) (means u) n.server new.server p q w.moment result o h told_it in
      let moved = transits_moved (IsEntryByRows w i.0) (means w.store) (means u) n.server new.server p q w.moment result h in
      let servers : y.servers ≡ slice_set w.servers i.0 new = ap (λ (x : State). x.servers) is in
      let now : slice_get y.servers i.0 ≡ Some new = ap (λ (ns : List ServerNode). slice_get ns i.0) servers ∙ own_slot w.servers i.0 n new there in
      let shut = event_shut w g.safe i n there g.unplanned (k.seen n there) g.consumable p q y o step new now in
      let writes : y.store.writes ≡ w.store.writes = ap (λ (x : State). x.store.writes) is ∙ unwritten w.store u looks in
      let around : IsStillAround w y =
      record {
        setup = ap (λ (x : State). x.setup) is;
        log = ap (λ (x : State). x.log) is;
        moment = ap (λ (x : State). x.moment) is;
        writes = writes;
        controllers = ap (λ (x : State). x.controllers) is;
      } in
      let consumes : (r : Consumer) → is_open (state_of r.phase) ≡ true → entry_of new.server.table p q ≡ Some (Replica r)
      → target_of n.server.table p q ≡ Some mode.Consuming =
      λ r opened found.
      ap (lookup (is_segment p q)) (sym less.targets)
      ∙ open_consumes (target_of new.server.table p q) r opened (ap (is_due (target_of new.server.table p q)) (sym found) ∙ shut) in
      let by_rows =
      changed_by_rows w y around i.0 n new there servers g.by_rows
      (keeps_awaited i.0 n new p q moved.stays (λ m a. absurd (committer_stays due m a)))
      (moved.each (entries_by_rows w g.by_rows i.0 n there) (closed_entry w i.0 (p, q))
      (λ meta found. starts_by_rows meta (consumes (started_of n.server.setup p q meta w.moment) refl found))) in
      let unplanned = ap (λ (x : State). x.store.faults.plan) is ∙ look_unplanned w.store u looks g.unplanned in
      record {
        serving = serves_on w y (Transit i p q) o i.0 n new g tt step there servers up unplanned around by_rows;
        seen =
            sees_on w y i.0 n new there servers
            (less.targets ∙ k.seen n there
            ∙ ap (λ (x : Numbered). targets_of x.instance (entries_of w.store.writes)) (sym less.numbers)
            ∙ ap (λ (f : List Seen). targets_of new.server.numbers.instance (entries_of f)) (sym writes));
      }

transit_moves : (i : Instance) (s : SegmentAt) (w y : State) (o : Outcome) → IsMoving i.0 w → Steps w (Transit i s.0 s.1) y (Ok o) → IsMoving i.0 y
transit_moves i s w y o k (cost, due, h) = by_node (slice_get w.servers i.0) refl h
  where
    by_node : (x : Option ServerNode) → slice_get w.servers i.0 ≡ x → ServerCallsAt x w i (NodeMoves s.0 s.1 w.moment) cost (y, o) → IsMoving i.0 y
    by_node None there f = absurd f
    by_node (Some n) there (new, u, does, is) = moves_by i s w y o k (cost, due, h) n there cost new u does is

module _ (i : Instance) (s : SegmentAt) (w y : State) (o : Outcome) (k : IsServing w) (step : Steps w (Download i s.0 s.1) y (Ok o))
    (n : ServerNode) (there : slice_get w.servers i.0 ≡ Some n) where
  -- what is got is no replica
  none_awaited : (c : CommittedSegment) → committed_at (entry_of n.server.table s.0 s.1) ≡ Some c → (m : Completion) → HasAwaited i.0 n (s.0, s.1) m → ⊥
  none_awaited c is m a =
      let found = entry_found n.server.table.entries (s.0, s.1) (Replica a.replica) (k.safe.safe.servers i.0 n there).over.kept.ascending a.has in
      none-some c (sym (ap committed_at found) ∙ is)

  loads_by : (cost : Cost) (new : ServerNode) (u : ToldDeep) → NodeLoads s.0 s.1 w.deep u n new o
      → y ≡ counted (record w { servers = slice_set w.servers i.0 new; deep = u }) cost → IsServing y
  loads_by cost new u (result, h, within, told_it, up) is = by_committed (committed_at (entry_of n.server.table s.0 s.1)) refl h
    where
      servers : y.servers ≡ slice_set w.servers i.0 new
      servers = ap (λ (x : State). x.servers) is

      around : IsStillAround w y
      around =
          record {
            setup = ap (λ (x : State). x.setup) is;
            log = ap (λ (x : State). x.log) is;
            moment = ap (λ (x : State). x.moment) is;
            writes = ap (λ (x : State). x.store.writes) is;
            controllers = ap (λ (x : State). x.controllers) is;
          }

      by_committed : (x : Option CommittedSegment) → committed_at (entry_of n.server.table s.0 s.1) ≡ x
          → DownloadsAt x (deep_means w.deep) (deep_means u) n.server.setup.schema n.server.table new.server.table s.0 s.1 result → IsServing y
      by_committed None e f = absurd (none-some o (sym (ap (outcome_by outcome.Loaded) f.1) ∙ told_it))
      by_committed (Some c) e (next, loads, put) =
          let old = n.server.table.entries in
          let by_rows =
          changed_by_rows w y around i.0 n new there servers k.by_rows
          (keeps_awaited i.0 n new s.0 s.1
          (λ x other has. subst (λ (t : Segments). Has t.entries x) (sym put) (put_stays s.0 s.1 x other old (Committed next) has))
          (λ m a. absurd (none_awaited c e m a)))
          (subst (λ (t : Segments). Each (IsEntryByRows w i.0) t.entries) (sym put)
          (put_each (IsEntryByRows w i.0) old s.0 s.1 (Committed next) (entries_by_rows w k.by_rows i.0 n there) tt)) in
          serves_on w y (Download i s.0 s.1) o i.0 n new k tt step there servers up (ap (λ (x : State). x.store.faults.plan) is ∙ k.unplanned) around by_rows

download_serves : (i : Instance) (s : SegmentAt) (w y : State) (o : Outcome) → IsServing w → Steps w (Download i s.0 s.1) y (Ok o) → IsServing y
download_serves i s w y o k (cost, due, h) = by_node (slice_get w.servers i.0) refl h
  where
    by_node : (x : Option ServerNode) → slice_get w.servers i.0 ≡ x → ServerGetsAt x w i (NodeLoads s.0 s.1) cost (y, o) → IsServing y
    by_node None there f = absurd f
    by_node (Some n) there (new, u, does, is) = loads_by i s w y o k (cost, due, h) n there cost new u does is

-- ---- acts

-- what they lead to is such a world again
abbrev pub Keeps : (State → Type 0) → Act Bool → Type 0
Keeps I act = (w : State) (v : Reached) (told : Bool) → I w → act w v (Ok told) → I v.world

pub attempt_keeps : (I : State → Type 0) (e : Event) → ((w y : State) (o : Outcome) → I w → Steps w e y (Ok o) → I y) → (busy : Bool) → Keeps I (Attempted e busy)
attempt_keeps I e stepped busy w v told k h = by_way (attempt_does e busy w v told h)
  where
    by_way : ((v.world ≡ w) × (told ≡ busy)) ⊎ ((o : Outcome) × Steps w e v.world (Ok o)) → I v.world
    by_way (inl same) = subst I (sym same.0) k
    by_way (inr (o, step)) = stepped w v.world o k step

pub each_keeps : {X : Type 0} (I : State → Type 0) (act : X → Bool → Act Bool) → ((x : X) (busy : Bool) → Keeps I (act x busy)) → (xs : List X) (busy : Bool)
    → Keeps I (EachOf act xs busy)
each_keeps I act keeps [] busy w v told k h = subst I (sym (ap (λ (z : Reached). z.world) h.0)) k
each_keeps I act keeps (x ∷ xs) busy w v told k h =
    let t = then_parts (act x busy) (EachOf act xs) w v told h in
    subst I (sym (ap (λ (z : Reached). z.world) t.whole))
    (each_keeps I act keeps xs t.told t.between.world t.last told (keeps x busy w t.between t.told k t.came) t.further)

pub from_keeps : (I : State → Type 0) (act : ℕ → Bool → Act Bool) → ((i : ℕ) (busy : Bool) → Keeps I (act i busy)) → (first count : ℕ) (busy : Bool)
    → Keeps I (EachFrom act first count busy)
from_keeps I act keeps first zero busy w v told k h = subst I (sym (ap (λ (z : Reached). z.world) h.0)) k
from_keeps I act keeps first (suc count) busy w v told k h =
    let t = then_parts (act first busy) (EachFrom act (first + 1) count) w v told h in
    subst I (sym (ap (λ (z : Reached). z.world) t.whole))
    (from_keeps I act keeps (first + 1) count t.told t.between.world t.last told (keeps first busy w t.between t.told k t.came) t.further)

server_serves : (n : ℕ) (busy : Bool) → Keeps IsServing (ServerTurn n busy)
server_serves n busy w v told k h = by_up (is_server_up w i) h
  where
    i : Instance
    i = record { 0 = n }

    by_up : (b : Bool) → Choose b (Then (Passed (See i)) (λ done. TransitsAndDownloads i busy) w) (Gives busy w) v (Ok told) → IsServing v.world
    by_up false t = subst IsServing (sym (ap (λ (z : Reached). z.world) t.0)) k
    by_up true f =
        let t = then_parts (Passed (See i)) (λ done. TransitsAndDownloads i busy) w v told f in
        let u = then_parts (Happens (See i)) (λ done. Gives tt) w t.between t.told t.came in
        let d = then_parts (Transits i busy) (Downloads i) t.between.world t.last told t.further in
        let seen : t.between.world ≡ u.between.world = ap (λ (x : Reached). x.world) u.whole ∙ ap (λ (x : Reached). x.world) u.further.0 in
        let first = subst (IsMoving n) (sym seen) (see_moves i w u.between.world u.told k u.came.by.0) in
        let moved =
        each_keeps (IsMoving n) (TransitTurn i)
        (λ s b. attempt_keeps (IsMoving n) (Transit i s.0 s.1) (λ x y o m step. transit_moves i s x y o m step) b) (due_transits_of t.between.world i) busy
        t.between.world d.between d.told first d.came in
        let loaded =
        each_keeps IsServing (DownloadTurn i)
        (λ s b. attempt_keeps IsServing (Download i s.0 s.1) (λ x y o m step. download_serves i s x y o m step) b) (wanted_in d.between.world i) d.told
        d.between.world d.last told moved.serving d.further in
        subst IsServing (sym (ap (λ (x : Reached). x.world) t.whole ∙ ap (λ (x : Reached). x.world) d.whole)) loaded

pub servers_by_rows : (setup : Setup) (turns : List Turn) (w : State) (v : Reached) (told : Bool) → IsSetup setup → Runs setup turns w → AreUp w
    → w.store.faults.plan ≡ [] → IsByRows w → ServersTurn false w v (Ok told) → IsByRows v.world
servers_by_rows setup turns w v told is run up unplanned k h =
    (from_keeps IsServing ServerTurn server_serves 0 w.setup.servers false w v told
    (record {
      safe = runs_are_safe setup turns w is run;
      up = up;
      unplanned = unplanned;
      consumable = λ e has consumes. consumable setup turns w e is run has consumes;
      by_rows = k;
    }) h).by_rows
