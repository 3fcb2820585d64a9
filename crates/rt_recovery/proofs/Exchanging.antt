-- An exchange leaves a world in which segments end by the row limit alone; and where it writes nothing, less lies ahead, or nothing happened,
-- or the replica was told HOLD while a committer of its segment is there.
use Rattle.std.proofs.Common.{◌≡◌, ◌⊎◌, inl, inr, ℕ, ◌<◌, ◌==◌, ◌&&◌, nat_lt, Bool, true, false, cond, List, [], Option, Some, None, Ok, refl, sym, ◌∙◌, ap, subst, slice_get}
use Rattle.std.proofs.lemmas.Bool.{and_from, cond-true, eq-eqb, false≢true, true≢false}
use Rattle.std.proofs.lemmas.Option.{none-some, same_Some}
use Rattle.rt_base.specs.declared.numbers.ControllerId.{ControllerId}
use Rattle.rt_base.specs.declared.numbers.Instance.{Instance}
use Rattle.rt_base.specs.declared.numbers.Offset.{Offset}
use Rattle.rt_base.specs.declared.numbers.Partition.{Partition}
use Rattle.rt_base.specs.declared.numbers.Sequence.{Sequence}
use Rattle.rt_consumer.specs.Consumer.{asks_at, at, cur_in, ends_at}
use Rattle.rt_consumer.specs.Replies.{answered, answered_at, replied as answered_by}
use Rattle.rt_consumer.specs.Requests.{asks_now, kind_at, kind_in, size_in}
use Rattle.rt_consumer.specs.declared.consumer.Consumer.{Consumer}
use Rattle.rt_consumer.specs.declared.phase.Phase.{Phase}
use Rattle.rt_consumer.specs.declared.phase.Phase.TheVariants as phase
use Rattle.rt_consumer.specs.declared.replies.Turn.{Turn}
use Rattle.rt_consumer.specs.declared.replies.Turn.TheVariants.{Goes, Stays}
use Rattle.rt_consumer.specs.declared.stage.Stage.{Stage}
use Rattle.rt_consumer.specs.declared.stage.Stage.TheVariants.{Building, CatchingUp, ConsumingToOnline, Ending, Holding, InitialConsuming, Retaining, Starting, Uploading}
use Rattle.rt_consumer.specs.declared.unsealed.Unsealed.{Unsealed}
use Rattle.rt_consumer.specs.declared.waited.Waited.TheVariants.{Step}
use Rattle.rt_entry.specs.declared.entry.Entry.TheVariants.{Replica}
use Rattle.rt_fsm.proofs.Table.{by_test}
use Rattle.rt_lists.specs.Members.{Has}
use Rattle.rt_macros.specs.Doing.{Reached}
use Rattle.rt_macros.specs.Settling.{ExchangeTurn, SegmentAt}
use Rattle.rt_model.specs.Completion.{goes, has_deadline, is_late, Completion}
use Rattle.rt_model.specs.History.{value_of}
use Rattle.rt_model.specs.declared.machine_state.MachineState.{MachineState}
use Rattle.rt_model.specs.declared.machine_state.MachineState.TheVariants as machine
use Rattle.rt_model.specs.declared.node.Key.TheVariants as key
use Rattle.rt_model.specs.declared.node.Seen.{Seen}
use Rattle.rt_model.specs.declared.reply.FailCause.{FailCause}
use Rattle.rt_model.specs.declared.reply.Reply.{Reply}
use Rattle.rt_model.specs.declared.reply.ReplyStatus.{ReplyStatus}
use Rattle.rt_model.specs.declared.reply.ReplyStatus.TheVariants as status
use Rattle.rt_model.specs.declared.request.Reason.{Reason}
use Rattle.rt_model.specs.declared.request.Reason.TheVariants.{RowLimit}
use Rattle.rt_model.specs.declared.request.Request.{Request}
use Rattle.rt_model.specs.declared.request.RequestKind.{RequestKind}
use Rattle.rt_model.specs.declared.request.RequestKind.TheVariants as kind
use Rattle.rt_model.specs.declared.setup.Setup.{Setup}
use Rattle.rt_msgs.specs.Numbered.{upload_path}
use Rattle.rt_nodes.specs.Requests.{asks_due}
use Rattle.rt_nodes.specs.declared.server_node.ServerNode.{ServerNode}
use Rattle.rt_past.specs.Segments.{IsBegun}
use Rattle.rt_replica.specs.Lasting.{IsReplica}
use Rattle.rt_segment.specs.Segment.{SealedSegment}
use Rattle.rt_segment.specs.Spelling.{file_of}
use Rattle.rt_server.specs.Table.{is_segment, replica_at, replica_of, segment_of, Segment}
use Rattle.rt_server.proofs.LastingTables.{at as segment_at}
use Rattle.rt_server.proofs.Merge.{it_is}
use Rattle.rt_state.specs.Finding.{find_server, replica_at as replica_there, replica_in}
use Rattle.rt_state.specs.IsSafe.{past_of}
use Rattle.rt_state.specs.Requests.{report_by}
use Rattle.rt_state.specs.Room.{dropped, then_due, upload_cost}
use Rattle.rt_state.specs.declared.state.State.{State}
use Rattle.rt_store.specs.Meaning.{Told}
use Rattle.rt_heal.proofs.Nothing.{fails_test}
use Rattle.rt_calm.specs.Again.{ahead_still, asked_machines, awaits, is_notified, is_uploading, machine_of, waits_at, IsLeading}
use Rattle.rt_calm.specs.Off.{IsSuccess}
use Rattle.rt_calm.specs.Waiting.{WaitsFor}
use Rattle.rt_calm.proofs.Answering.{phase_of}
use Rattle.rt_calm.proofs.Awaited.{awaits_parts, waits_or_not, WaitsOn, WaitsOrNot}
use Rattle.rt_calm.proofs.Ending.{FailedOrSuccess}
use Rattle.rt_calm.proofs.Exchanged.{HasAsked, MakesWait}
use Rattle.rt_calm.proofs.Keeping.{IsGoing}
use Rattle.rt_calm.proofs.Rounds.{exchange_requests, HasMade, HasRequested}
use Rattle.rt_calm.proofs.Settling.{IsSettling}
use Rattle.rt_recovery.specs.ByRows.{CommitsFor, IsByRows, IsByRowsAt, IsMachineByRows, IsOpen, IsToConsume, Reports, StandsByRows}
use Rattle.rt_recovery.specs.Same.{IsSame}
use Rattle.rt_recovery.proofs.Committing.{HasCommitted, IsEnded, LeavesOthers}
use Rattle.rt_recovery.proofs.Delivering.{is_continued, is_ended, is_held, is_reported, is_uploaded, IsAnsweredBy, IsEndedBy, IsOver, IsPicked}
use Rattle.rt_recovery.proofs.Entries.{entry_found}
use Rattle.rt_recovery.proofs.Exchanged.{by_rows_then, commits_at, committer_then, handled, has, holds_on, machine_then, on, phase_then, safe_then, stands_then, stood, told_then, turned_world, unwritten, world_then, Exchange}
use Rattle.rt_recovery.proofs.Full.{full_alike}
use Rattle.rt_recovery.proofs.Handling.{IsFinishedTold}
use Rattle.rt_recovery.proofs.Opening.{consumes_same, not_ended, open_before, open_same}
use Rattle.rt_recovery.proofs.Same.{put_same}
use Rattle.rt_recovery.proofs.Still.{awaited_commits}
use Rattle.rt_recovery.proofs.Turning.{apart_segments, machine_on, reports_on, turned_by_rows, GoesOn, HasTurned}

-- ---- machines that wait

notified_is : (s : MachineState) → is_notified s ≡ true → s ≡ machine.CommitterNotified
notified_is machine.CommitterNotified e = refl
notified_is machine.PartialConsuming e = absurd (false≢true e)
notified_is machine.Holding e = absurd (false≢true e)
notified_is machine.CommitterDecided e = absurd (false≢true e)
notified_is machine.CommitterUploading e = absurd (false≢true e)
notified_is machine.Committing e = absurd (false≢true e)
notified_is machine.Committed e = absurd (false≢true e)
notified_is machine.Aborted e = absurd (false≢true e)

uploading_is : (s : MachineState) → is_uploading s ≡ true → s ≡ machine.CommitterUploading
uploading_is machine.CommitterUploading e = refl
uploading_is machine.PartialConsuming e = absurd (false≢true e)
uploading_is machine.Holding e = absurd (false≢true e)
uploading_is machine.CommitterDecided e = absurd (false≢true e)
uploading_is machine.CommitterNotified e = absurd (false≢true e)
uploading_is machine.Committing e = absurd (false≢true e)
uploading_is machine.Committed e = absurd (false≢true e)
uploading_is machine.Aborted e = absurd (false≢true e)

awaiting_waits : (m : Completion) (j : ℕ) (stage : Stage) (x : Offset) → awaits (Some m) j stage x ≡ true → WaitsFor m.state
awaiting_waits m j stage x e = by_way (waits_or_not m.state)
  where
    by_way : WaitsOrNot m.state → WaitsFor m.state
    by_way (inl waits) = waits
    by_way (inr never) = absurd (true≢false (sym (awaits_parts m j stage x e).0 ∙ never stage))

awaits_from : (m : Completion) (j : ℕ) (stage : Stage) (x : Offset) → waits_at stage m.state ≡ true → m.winner.0 ≡ j → m.offset.0 ≡ x.0
    → awaits (Some m) j stage x ≡ true
awaits_from m j stage x waits winner offset =
    and_from (waits_at stage m.state) ((m.winner.0 == j) && (m.offset.0 == x.0)) waits
    (and_from (m.winner.0 == j) (m.offset.0 == x.0) (eq-eqb m.winner.0 j winner) (eq-eqb m.offset.0 x.0 offset))

-- a machine waits for one alone
awaits_one : (m : Completion) (i j : ℕ) (s t : Stage) (x y : Offset) → awaits (Some m) i s x ≡ true → awaits (Some m) j t y ≡ true → j ≡ i
awaits_one m i j s t x y e f = sym (awaits_parts m j t y f).1 ∙ (awaits_parts m i s x e).1

same_unsealed : (a b : Unsealed) → phase.Unsealed a ≡ phase.Unsealed b → a ≡ b
same_unsealed a b e = cc

-- ---- the stages in which a committer asks

abbrev pub IsCommitting : Stage → Type 0
IsCommitting (Starting reason built) = Unit {0}
IsCommitting (Uploading reason built) = Unit {0}
IsCommitting (Ending reason built path) = Unit {0}
IsCommitting InitialConsuming = ⊥
IsCommitting (CatchingUp target reason) = ⊥
IsCommitting (Holding reason) = ⊥
IsCommitting (Building reason) = ⊥
IsCommitting (ConsumingToOnline end done) = ⊥
IsCommitting (Retaining done) = ⊥

-- ---- a request and its answer

module _ (it : Exchange) where
  abbrev w : State
  w = it.from

  abbrev u : State
  u = it.sent

  abbrev i : Instance
  i = it.instance

  abbrev p : Partition
  p = it.partition

  abbrev q : Sequence
  q = it.sequence

  abbrev c : ControllerId
  c = it.controller

  abbrev v : State
  v = it.to.world

  abbrev request : Request
  request = it.fin.its.request

  abbrev asked : HasAsked w u i p q request
  asked = it.fin.asked

  abbrev r : Consumer
  r = asked.replica

  abbrev n : ServerNode
  n = asked.old

  abbrev b : Reached
  b = it.fin.between

  abbrev reply : Reply
  reply = it.fin.answered.answer.reply

  abbrev next : Consumer
  next = answered_by (record r { waited = Some (Step request.number) }) reply

  abbrev new : ServerNode
  new = it.fin.taken.taken.new

  abbrev Turned : Option Completion → Option Completion → Type 0
  Turned m l = HasTurned w v i.0 n new p q r next m l

  abbrev Answered : Option Completion → Option Completion → ReplyStatus → Type 0
  Answered m l s = IsAnsweredBy u c request b it.fin.answer m l s

  -- HOLD is told while the segment has a machine, and the world is the same but for who waits; or another answer
  record IsHeldSo : Type 0 where
    same : IsSame w v
    machine : Completion
    is : machine_of (asked_machines w) p q ≡ Some machine
    asks : (held : Unsealed) → r.phase ≡ phase.Unsealed held → IsCommitting held.stage → ⊥

  record HasComeOut : Type 0 where
    by_rows : IsByRows v
    told : IsHeldSo ⊎ (reply.status ≡ status.Hold → ⊥)

  -- ---- a replica that holds rows

  module _ (held : Unsealed) (stands : r.phase ≡ phase.Unsealed held) where
    end_is : request.offset ≡ held.rows.end
    end_is = asked.offset ∙ ap cur_in stands

    answers_at : (stage : Stage) (s : ReplyStatus) → held.stage ≡ stage → answered r.phase s ≡ answered_at held.rows stage s
    answers_at stage s is = ap (λ (ph : Phase). answered ph s) stands ∙ ap (λ (x : Stage). answered_at held.rows x s) is

    -- the machine's own replica is this one, where its committer is this instance
    its_rows : (g : Completion) (k : IsMachineByRows w (p, q) g) → g.winner.0 ≡ i.0 → held ≡ k.rows
    its_rows g k is =
        same_unsealed held k.rows
        (sym stands
        ∙ ap (λ (x : Consumer). x.phase) (sym (same_Some k.replica r (sym (ap replica_at (entry_found n.server.table.entries (p, q) (Replica k.replica)
        (it.going.safe.safe.servers i.0 n asked.at).over.kept.ascending (subst (λ (z : ServerNode). Has z.server.table.entries (segment_at (p, q) (Replica k.replica))) node k.has))) ∙ asked.found)))
        ∙ k.unsealed)
      where
        node : k.node ≡ n
        node = same_Some k.node n (sym k.there ∙ ap (slice_get w.servers) is ∙ asked.at)

    -- ---- a report

    module _ (reason : Reason) (is : held.stage ≡ Holding reason) (reports : Reports w r held.rows.end reason) (consumes : IsOpen w (p, q) → IsToConsume w i.0 (p, q))
        (asks : request.kind ≡ kind.Consumed reason) where
      kind_is : request.kind ≡ kind.Consumed RowLimit
      kind_is = asks ∙ ap kind.Consumed reports.by_rows

      -- the machine, which waits for another committer, stays
      module _ (g : Completion) (of : machine_of (asked_machines w) p q ≡ Some g) where
        k : IsMachineByRows w (p, q) g
        k = it.by_rows.machines (p, q) g of

        another : g.winner.0 ≡ i.0 → ⊥
        another own =
            true≢false (sym (awaits_parts g g.winner.0 k.rows.stage k.rows.rows.end k.awaited).0
            ∙ ap (λ (x : Stage). waits_at x g.state) (ap (λ (x : Unsealed). x.stage) (sym (its_rows g k own)) ∙ is))

        committer : (why : Reason) × CommitsFor w g.winner.0 (p, q) k.replica k.rows why
        committer =
            awaited_commits w g.winner.0 (p, q) k.replica k.rows g k.rows.rows.end k.rows.stage
            (subst (IsByRowsAt w g.winner.0 (p, q) k.replica) k.unsealed (it.by_rows.replicas g.winner.0 k.node k.there (p, q) k.replica k.has)) k.awaited

        level : g.offset.0 ≡ request.offset.0
        level =
            (awaits_parts g g.winner.0 k.rows.stage k.rows.rows.end k.awaited).2
            ∙ ap (λ (x : Offset). x.0)
            (full_alike w it.going.safe (p, q) g.winner.0 i.0 k.node n k.replica r k.rows.rows.end held.rows.end k.there asked.at k.has (has it) committer.1.reports.full reports.full
            ∙ sym end_is)

        answer : Answered (Some g) (Some g) status.Hold
        answer =
            is_held u c request b it.fin.answer (handled it) g reason (machine_then it (Some g) of) asks
            (awaiting_waits g g.winner.0 k.rows.stage k.rows.rows.end k.awaited) (ap (is_late g) asked.moment ∙ k.early)
            (λ own. another (sym own ∙ it.fin.its.instance)) level

        world : Turned (Some g) (Some g)
        world = world_then it (Some g) (Some g) status.Hold answer

        phase_same : next.phase ≡ r.phase
        phase_same =
            phase_then it status.Hold (Stays (at held.rows (Holding reason))) (told_then it (Some g) (Some g) status.Hold answer) (answers_at (Holding reason) status.Hold is)
            ∙ ap (at held.rows) (sym is) ∙ sym stands

        machines_same : (s : Segment) → machine_of (asked_machines v) s.0 s.1 ≡ machine_of (asked_machines w) s.0 s.1
        machines_same s = by_segment (is_segment p q s) refl
          where
            by_segment : (x : Bool) → is_segment p q s ≡ x → machine_of (asked_machines v) s.0 s.1 ≡ machine_of (asked_machines w) s.0 s.1
            by_segment false other = world.turned.others s.0 s.1 (apart_segments p q s other)
            by_segment true own =
                subst (λ (y : Segment). machine_of (asked_machines v) y.0 y.1 ≡ machine_of (asked_machines w) y.0 y.1) (it_is (p, q) s own)
                (world.turned.behind ∙ sym world.turned.before)

        held_out : HasComeOut
        held_out =
            record {
              by_rows =
                  by_rows_then it (Some g) (Some g) status.Hold answer (λ j stage x apart e. e) (Stays (at held.rows (Holding reason))) (answers_at (Holding reason) status.Hold is)
                  (holds_on it (Some g) (Some g) status.Hold answer held reason reports consumes)
                  (λ x e. subst (IsMachineByRows v (p, q)) (same_Some g x e)
                  (machine_on w v i.0 n new p q r next (Some g) (Some g) world (safe_then it) (p, q) g (λ own. absurd (another own)) k));
              told = inl (record {
                same = record {
                  phases =
                      put_same w v i.0 n new p q r next
                      (record { there = world.there; found = world.found; table = world.table; servers = world.servers; log = world.log }) phase_same;
                  machines = machines_same;
                  written = unwritten it (Some g) (Some g) status.Hold answer;
                };
                machine = g;
                is = of;
                asks = λ x at_x commits. subst IsCommitting (ap (λ (y : Unsealed). y.stage) (same_unsealed x held (sym at_x ∙ stands)) ∙ is) commits;
              });
            }

      -- there is none: the segment is over, or the sender is picked
      module _ (none : machine_of (asked_machines w) p q ≡ None) where
        over_out : IsOver u c request b it.fin.answer → HasComeOut
        over_out (s, finished, answer) =
            record {
              by_rows =
                  by_rows_then it None None s answer (λ j stage x apart e. e) (answered_at held.rows (Holding reason) s) (answers_at (Holding reason) s is)
                  (finished_stands s finished (holds_on it None None s answer held reason reports consumes)) (λ g e. absurd (none-some g e));
              told = inr (λ hold. subst IsFinishedTold (sym (told_then it None None s answer) ∙ hold) finished);
            }
          where
            finished_stands : (s : ReplyStatus) → IsFinishedTold s → IsByRowsAt v i.0 (p, q) r (at held.rows (Holding reason))
                → IsByRowsAt v i.0 (p, q) r (phase_of (answered_at held.rows (Holding reason) s))
            finished_stands (status.Keep seen) so stays =
                by_test (λ (t : Turn). IsByRowsAt v i.0 (p, q) r (phase_of t)) (ends_at held.rows.end seen) _ _ (λ e. tt) (λ e. stays)
            finished_stands status.Discard so stays = refl
            finished_stands (status.Failed cause) so stays = stays
            finished_stands status.Hold so stays = absurd so
            finished_stands status.NotLeader so stays = absurd so
            finished_stands (status.CatchUp x) so stays = absurd so
            finished_stands (status.Commit x) so stays = absurd so
            finished_stands status.CommitContinue so stays = absurd so
            finished_stands (status.UploadSuccess path) so stays = absurd so
            finished_stands (status.CommitSuccess seen) so stays = absurd so
            finished_stands status.Processed so stays = absurd so

        picked_out : IsPicked u c request b it.fin.answer → HasComeOut
        picked_out k =
            record {
              by_rows =
                  by_rows_then it None (Some k.made) (status.Commit request.offset) k.answered (λ j stage x apart e. absurd (false≢true e)) (Goes (at held.rows (Building reason))) turn
                  (commits_at it None (Some k.made) (status.Commit request.offset) k.answered held reason k.made (Building reason) reports opened (consumes opened) refl awaited)
                  (λ g e. subst (IsMachineByRows v (p, q)) (same_Some k.made g e)
                  (committer_then it None (Some k.made) (status.Commit request.offset) k.answered held.rows (Building reason) (Goes (at held.rows (Building reason))) k.made turn refl winner
                  (ap (is_late k.made) (sym asked.moment) ∙ k.early) awaited));
              told = inr (λ hold. not_hold request.offset (sym (told_then it None (Some k.made) (status.Commit request.offset) k.answered) ∙ hold));
            }
          where
            not_hold : (x : Offset) → status.Commit x ≡ status.Hold → ⊥
            not_hold x e = cc

            turn : answered r.phase (status.Commit request.offset) ≡ Goes (at held.rows (Building reason))
            turn =
                answers_at (Holding reason) (status.Commit request.offset) is
                ∙ cond-true (request.offset.0 == held.rows.end.0) (Goes (at held.rows (Building reason))) (Stays (at held.rows (Holding reason)))
                (eq-eqb request.offset.0 held.rows.end.0 (ap (λ (x : Offset). x.0) end_is))

            winner : k.made.winner.0 ≡ i.0
            winner = ap (λ (x : Instance). x.0) k.winner ∙ it.fin.its.instance

            awaited : awaits (Some k.made) i.0 (Building reason) held.rows.end ≡ true
            awaited =
                awaits_from k.made i.0 (Building reason) held.rows.end (ap is_notified k.state) winner
                (ap (λ (x : Offset). x.0) (k.offset ∙ end_is))

            opened : IsOpen w (p, q)
            opened =
                record {
                  write = k.write;
                  there =
                      ap (λ (x : Partition). value_of w.store.writes (key.Meta x q)) (sym it.fin.its.segment.0)
                      ∙ ap (λ (x : Sequence). value_of w.store.writes (key.Meta request.partition x)) (sym it.fin.its.segment.1)
                      ∙ ap (λ (t : Told). value_of t.writes (key.Meta request.partition request.sequence)) (sym asked.store) ∙ k.there;
                  meta = k.meta;
                  is = k.is;
                  in_progress = k.opened;
                }

        reported_out : HasComeOut
        reported_out =
            by_way (is_reported u c request b it.fin.answer (handled it) (machine_then it None none) kind_is)
          where
            by_way : IsPicked u c request b it.fin.answer
                ⊎ IsOver u c request b it.fin.answer → HasComeOut
            by_way (inl k) = picked_out k
            by_way (inr k) = over_out k

      holding_out : HasComeOut
      holding_out = by_machine (machine_of (asked_machines w) p q) refl
        where
          by_machine : (m : Option Completion) → machine_of (asked_machines w) p q ≡ m → HasComeOut
          by_machine None none = reported_out none
          by_machine (Some g) of = held_out g of

    -- ---- a committer

    module _ (reason : Reason) (commits : CommitsFor w i.0 (p, q) r held reason) (g : Completion) (of : machine_of (asked_machines w) p q ≡ Some g) where
      awaited_by : awaits (Some g) i.0 held.stage held.rows.end ≡ true
      awaited_by = ap (λ (m : Option Completion). awaits m i.0 held.stage held.rows.end) (sym of) ∙ commits.awaited

      parts : (waits_at held.stage g.state ≡ true) × (g.winner.0 ≡ i.0) × (g.offset.0 ≡ held.rows.end.0)
      parts = awaits_parts g i.0 held.stage held.rows.end awaited_by

      early : is_late g w.moment ≡ false
      early = (it.by_rows.machines (p, q) g of).early

      early_then : is_late g u.moment ≡ false
      early_then = ap (is_late g) asked.moment ∙ early

      own_winner : g.winner.0 ≡ request.number.instance.0
      own_winner = parts.1 ∙ sym it.fin.its.instance

      own_level : g.offset.0 ≡ request.offset.0
      own_level = parts.2 ∙ ap (λ (x : Offset). x.0) (sym end_is)

      -- no other replica of the segment is awaited
      waits_alone : (l : Option Completion) → WaitsOn i (Some g) l
      waits_alone l j stage x apart e = absurd (apart (awaits_one g i.0 j held.stage stage held.rows.end x awaited_by e))

      starting_out : (built : SealedSegment) → held.stage ≡ Starting reason built → request.kind ≡ kind.CommitStart → HasComeOut
      starting_out built is asks =
          record {
            by_rows =
                by_rows_then it (Some g) (Some next_machine) status.CommitContinue answer (waits_alone (Some next_machine)) (Goes (at held.rows (Uploading reason built)))
                (answers_at (Starting reason built) status.CommitContinue is)
                (commits_at it (Some g) (Some next_machine) status.CommitContinue answer held reason next_machine (Uploading reason built) commits.reports commits.opened commits.consumes refl awaited)
                (λ x e. subst (IsMachineByRows v (p, q)) (same_Some next_machine x e)
                (committer_then it (Some g) (Some next_machine) status.CommitContinue answer held.rows (Uploading reason built) (Goes (at held.rows (Uploading reason built))) next_machine
                (answers_at (Starting reason built) status.CommitContinue is) refl parts.1 late awaited));
            told = inr (λ hold. not_hold (sym (told_then it (Some g) (Some next_machine) status.CommitContinue answer) ∙ hold));
          }
        where
          not_hold : status.CommitContinue ≡ status.Hold → ⊥
          not_hold e = cc

          next_machine : Completion
          next_machine = goes g machine.CommitterUploading

          notified : g.state ≡ machine.CommitterNotified
          notified = notified_is g.state (ap (λ (x : Stage). waits_at x g.state) (sym is) ∙ parts.0)

          answer : Answered (Some g) (Some next_machine) status.CommitContinue
          answer =
              is_continued u c request b it.fin.answer (handled it) g (machine_then it (Some g) of) asks notified early_then
              own_winner own_level

          late : is_late next_machine w.moment ≡ false
          late = sym (ap (λ (x : MachineState). has_deadline x && nat_lt g.deadline.0 w.moment.0) notified) ∙ early

          awaited : awaits (Some next_machine) i.0 (Uploading reason built) held.rows.end ≡ true
          awaited = awaits_from next_machine i.0 (Uploading reason built) held.rows.end refl parts.1 parts.2

      uploading_out : (built : SealedSegment) (path bytes : List ℕ) → held.stage ≡ Uploading reason built → request.kind ≡ kind.Upload path bytes → HasComeOut
      uploading_out built path bytes is asks =
          by_answer (is_uploaded u c request b it.fin.answer (handled it) path bytes (Some g) (machine_then it (Some g) of) asks)
        where
          not_hold : (shown : List ℕ) → status.UploadSuccess shown ≡ status.Hold → ⊥
          not_hold shown e = cc

          awaited : awaits (Some g) i.0 (Uploading reason built) held.rows.end ≡ true
          awaited = ap (λ (x : Stage). awaits (Some g) i.0 x held.rows.end) (sym is) ∙ awaited_by

          by_answer : (shown : List ℕ) × Answered (Some g) (Some g) (status.UploadSuccess shown)
              → HasComeOut
          by_answer (shown, answer) =
              record {
                by_rows =
                    by_rows_then it (Some g) (Some g) (status.UploadSuccess shown) answer (waits_alone (Some g)) (Goes (at held.rows (Ending reason built shown)))
                    (answers_at (Uploading reason built) (status.UploadSuccess shown) is)
                    (commits_at it (Some g) (Some g) (status.UploadSuccess shown) answer held reason g (Ending reason built shown) commits.reports commits.opened commits.consumes refl awaited)
                    (λ x e. subst (IsMachineByRows v (p, q)) (same_Some g x e)
                    (committer_then it (Some g) (Some g) (status.UploadSuccess shown) answer held.rows (Ending reason built shown) (Goes (at held.rows (Ending reason built shown))) g
                    (answers_at (Uploading reason built) (status.UploadSuccess shown) is) refl parts.1 early awaited));
                told = inr (λ hold. not_hold shown (sym (told_then it (Some g) (Some g) (status.UploadSuccess shown) answer) ∙ hold));
              }

      -- the job has ended, whatever it has written
      module _ (built : SealedSegment) (path : List ℕ) (is : held.stage ≡ Ending reason built path) (asks : request.kind ≡ kind.CommitEnd path) where
        ended : IsEndedBy u c request b it.fin.answer (Some g) b.world
        ended =
            is_ended u c request b it.fin.answer (handled it) g path (machine_then it (Some g) of) asks
            (uploading_is g.state (ap (λ (x : Stage). waits_at x g.state) (sym is) ∙ parts.0)) early_then own_winner own_level

        ended_world : Turned (Some g) None
        ended_world = turned_world it (Some g) None ended.moment ended.turned

        committed : HasCommitted w.store.writes v.store.writes p q
        committed =
            subst (λ (h : List Seen). HasCommitted h v.store.writes p q) (ap (λ (t : Told). t.writes) asked.store)
            (subst (λ (h : List Seen). HasCommitted u.store.writes h p q) (sym (ap (λ (t : Told). t.writes) it.fin.taken.taken.store))
            (subst (λ (x : Sequence). HasCommitted u.store.writes b.world.store.writes p x) it.fin.its.segment.1
            (subst (λ (x : Partition). HasCommitted u.store.writes b.world.store.writes x request.sequence) it.fin.its.segment.0 ended.committed)))

        own_within : p.0 < v.setup.partitions
        own_within =
            subst (λ (x : Setup). p.0 < x.partitions) (sym (on it).setup)
            (subst (λ (x : Partition). x.0 < w.setup.partitions) it.fin.its.segment.0 it.fin.within)

        -- a node in progress was so before, and who was to consume it still is
        consumes_then : (j : ℕ) (z : ServerNode) (x : Segment) (y : Consumer) → slice_get w.servers j ≡ Some z → Has z.server.table.entries (segment_at x (Replica y))
            → (IsOpen w x → IsToConsume w j x) → IsOpen v x → IsToConsume v j x
        consumes_then j z x y there held_there consumes opened = by_committed committed
          where
            over : (segment_of y ≡ x) × IsReplica w.setup (past_of w) z.server.numbers.instance z.server.numbers.incarnation y
            over = (it.going.safe.safe.servers j z there).over.entries (segment_at x (Replica y)) held_there

            within : x.0.0 < v.setup.partitions
            within = subst (λ (k : Setup). x.0.0 < k.partitions) (sym (on it).setup) (subst (λ (k : Segment). k.0.0 < w.setup.partitions) over.0 over.1.partition)

            begun : IsBegun w.store.writes x.0 x.1 y.start
            begun = subst (λ (k : Segment). IsBegun w.store.writes k.0 k.1 y.start) over.0 over.1.begun

            by_segment : LeavesOthers w.store.writes v.store.writes p q → IsEnded v.store.writes p q → (k : Bool) → is_segment p q x ≡ k
                → IsToConsume v j x
            by_segment leaves done true own =
                absurd (not_ended v (p, q) (safe_then it) own_within (subst (IsOpen v) (sym (it_is (p, q) x own)) opened) done)
            by_segment leaves done false other =
                leaves.consumes x.0 x.1 (record { 0 = j }) (apart_segments p q x other)
                (consumes (open_before w v x y.start (safe_then it) within (on it).grows begun opened))

            by_committed : HasCommitted w.store.writes v.store.writes p q → IsToConsume v j x
            by_committed (inl same) = consumes_same w v same j x (consumes (open_same v w (sym same) x opened))
            by_committed (inr (leaves, done)) = by_segment leaves done (is_segment p q x) refl

        opens_then : (x : Segment) → is_segment p q x ≡ false → IsOpen w x → IsOpen v x
        opens_then x other opened = by_committed committed
          where
            by_committed : HasCommitted w.store.writes v.store.writes p q → IsOpen v x
            by_committed (inl same) = open_same w v same x opened
            by_committed (inr (leaves, done)) =
                record {
                  write = opened.write;
                  there = leaves.nodes x.0 x.1 opened.write (apart_segments p q x other) opened.there;
                  meta = opened.meta;
                  is = opened.is;
                  in_progress = opened.in_progress;
                }

        others_then : (j : ℕ) (z : ServerNode) → slice_get w.servers j ≡ Some z → (x : Segment) (y : Consumer) → Has z.server.table.entries (segment_at x (Replica y))
            → (j ≡ i.0 → is_segment p q x ≡ false) → GoesOn w v j x
        others_then j z there x y held_there apart =
            record {
              setup = (on it).setup;
              log = (on it).log;
              moment = ended_world.moment;
              consumes = consumes_then j z x y there held_there;
              commits = λ stage end awaited opened consumes. by_segment stage end awaited opened consumes (is_segment p q x) refl;
            }
          where
            by_segment : (stage : Stage) (end : Offset) → awaits (machine_of (asked_machines w) x.0 x.1) j stage end ≡ true → IsOpen w x → IsToConsume w j x
                → (k : Bool) → is_segment p q x ≡ k
                → (awaits (machine_of (asked_machines v) x.0 x.1) j stage end ≡ true) × IsOpen v x × IsToConsume v j x
            by_segment stage end awaited opened consumes true own =
                let same : (p, q) ≡ x = it_is (p, q) x own in
                let its : awaits (Some g) j stage end ≡ true =
                ap (λ (m : Option Completion). awaits m j stage end) (sym of)
                ∙ subst (λ (y : Segment). awaits (machine_of (asked_machines w) y.0 y.1) j stage end ≡ true) (sym same) awaited in
                absurd (true≢false (sym own ∙ apart (awaits_one g i.0 j held.stage stage held.rows.end end awaited_by its)))
            by_segment stage end awaited opened consumes false other =
                let on_it = opens_then x other opened in (
                  ap (λ (m : Option Completion). awaits m j stage end) (ended_world.turned.others x.0 x.1 (apart_segments p q x other)) ∙ awaited,
                  on_it,
                  consumes_then j z x y there held_there (λ was. consumes) on_it,
                )

        ended_stays : IsByRowsAt v i.0 (p, q) r (at held.rows (Holding reason))
        ended_stays = (
          reports_on w v (on it).setup (on it).log r held.rows.end reason commits.reports,
          consumes_then i.0 n (p, q) r asked.at (has it) (λ was. commits.consumes),
        )

        abbrev Stands : ReplyStatus → Type 0
        Stands s = IsByRowsAt v i.0 (p, q) r (phase_of (answered_at held.rows (Ending reason built path) s))

        success_stands : (s : ReplyStatus) → IsSuccess s → Stands s
        success_stands (status.CommitSuccess seen) success =
            by_test (λ (t : Turn). IsByRowsAt v i.0 (p, q) r (phase_of t)) (ends_at held.rows.end seen) _ _ (λ e. tt) (λ e. ended_stays)
        success_stands status.Processed success = ended_stays
        success_stands status.Hold success = absurd success
        success_stands status.NotLeader success = absurd success
        success_stands (status.Failed cause) success = absurd success
        success_stands (status.CatchUp x) success = absurd success
        success_stands (status.Commit x) success = absurd success
        success_stands (status.Keep seen) success = absurd success
        success_stands status.Discard success = absurd success
        success_stands status.CommitContinue success = absurd success
        success_stands (status.UploadSuccess shown) success = absurd success

        ended_stands : (s : ReplyStatus) → FailedOrSuccess s → Stands s
        ended_stands s (inl (cause, e)) = subst Stands (sym e) ended_stays
        ended_stands s (inr success) = success_stands s success

        ended_not_held : FailedOrSuccess reply.status → reply.status ≡ status.Hold → ⊥
        ended_not_held (inl (cause, e)) hold = differ cause (sym e ∙ hold)
          where
            differ : (cause : FailCause) → status.Failed cause ≡ status.Hold → ⊥
            differ cause f = cc
        ended_not_held (inr success) hold = subst IsSuccess hold success

        its_status : FailedOrSuccess reply.status
        its_status = subst FailedOrSuccess it.fin.answered.answer.status ended.status

        ending_out : HasComeOut
        ending_out =
            record {
              by_rows =
                  turned_by_rows w v i.0 n new p q r next (Some g) None ended_world (safe_then it) it.by_rows others_then
                  (stands_then it reply.status (answered_at held.rows (Ending reason built path) reply.status) refl (answers_at (Ending reason built path) reply.status is)
                  (ended_stands reply.status its_status))
                  (λ x e. absurd (none-some x e));
              told = inr (ended_not_held its_status);
            }

    -- ---- a committer's machine is there

    machine_out : (reason : Reason) (commits : CommitsFor w i.0 (p, q) r held reason)
        → ((g : Completion) → machine_of (asked_machines w) p q ≡ Some g → HasComeOut) → HasComeOut
    machine_out reason commits further = by_machine (machine_of (asked_machines w) p q) refl commits.awaited
      where
        by_machine : (m : Option Completion) → machine_of (asked_machines w) p q ≡ m → awaits m i.0 held.stage held.rows.end ≡ true → HasComeOut
        by_machine None none awaited = absurd (false≢true awaited)
        by_machine (Some g) of awaited = further g of

    stage_out : (stage : Stage) → held.stage ≡ stage → kind_at r.name request.number stage ≡ Some request.kind → StandsByRows w i.0 (p, q) r held stage → HasComeOut
    stage_out (Holding reason) is asks (reports, consumes) =
        holding_out reason is reports consumes (sym (same_Some (kind.Consumed reason) request.kind asks))
    stage_out (Starting reason built) is asks h =
        machine_out reason h (λ g of. starting_out reason h g of built is (sym (same_Some kind.CommitStart request.kind asks)))
    stage_out (Uploading reason built) is asks h =
        machine_out reason h (λ g of. uploading_out reason h g of built (upload_path r.name request.number) (file_of built) is
        (sym (same_Some (kind.Upload (upload_path r.name request.number) (file_of built)) request.kind asks)))
    stage_out (Ending reason built path) is asks h =
        machine_out reason h (λ g of. ending_out reason h g of built path is (sym (same_Some (kind.CommitEnd path) request.kind asks)))
    stage_out InitialConsuming is asks h = absurd (none-some request.kind asks)
    stage_out (CatchingUp target reason) is asks h = absurd (none-some request.kind asks)
    stage_out (Building reason) is asks h = absurd (none-some request.kind asks)
    stage_out (ConsumingToOnline end done) is asks h = absurd (none-some request.kind asks)
    stage_out (Retaining done) is asks h = absurd (none-some request.kind asks)

  comes_out : HasComeOut
  comes_out = by_phase r.phase refl asked.kind (stood it)
    where
      by_phase : (ph : Phase) → r.phase ≡ ph → kind_in r.name request.number ph ≡ Some request.kind → IsByRowsAt w i.0 (p, q) r ph → HasComeOut
      by_phase (phase.Unsealed held) is asks h = stage_out held is held.stage refl asks h
      by_phase (phase.Discarded d) is asks h =
          absurd (none-some request.kind (sym (ap (λ (x : Bool). cond x (some_kind kind.Stopped) None) h) ∙ asks))
        where
          some_kind : RequestKind → Option RequestKind
          some_kind k = Some k
      by_phase (phase.Retained kept) is asks h = absurd (none-some request.kind asks)
      by_phase (phase.Committed kept) is asks h = absurd (none-some request.kind asks)

-- ---- an exchange

committing_asks : (stage : Stage) → IsCommitting stage → asks_at stage ≡ true
committing_asks (Starting reason built) commits = refl
committing_asks (Uploading reason built) commits = refl
committing_asks (Ending reason built path) commits = refl
committing_asks InitialConsuming commits = absurd commits
committing_asks (CatchingUp target reason) commits = absurd commits
committing_asks (Holding reason) commits = absurd commits
committing_asks (Building reason) commits = absurd commits
committing_asks (ConsumingToOnline end done) commits = absurd commits
committing_asks (Retaining done) commits = absurd commits

module _ (w : State) (i : Instance) (s : SegmentAt) (v : Reached) (going : IsGoing w) (before : IsByRows w) (leading : IsLeading w) (m : HasMade w i s.0 s.1 v) where
  module _ (unplanned : w.store.faults.plan ≡ []) (fetches : w.deep.faults.plan ≡ []) where
    abbrev exchange : Exchange
    exchange =
        record {
          from = w;
          sent = m.sent;
          instance = i;
          partition = s.0;
          sequence = s.1;
          controller = m.controller;
          outcome = m.outcome;
          to = m.last;
          led = m.led;
          steps = m.steps;
          fin = m.fin;
          going = going;
          by_rows = before;
          leading = leading;
          unplanned = unplanned;
          fetches = fetches;
        }

    made_by_rows : IsByRows v.world
    made_by_rows = subst IsByRows (sym m.world) (comes_out exchange).by_rows

  -- where it wrote nothing, the answer was HOLD or leaves less ahead
  module _ (settling : IsSettling w) (same : v.world.store.writes ≡ w.store.writes) where
    abbrev IsHeld : Type 0
    IsHeld = IsHeldSo (exchange settling.steady.unplanned settling.fetches)

    made_still : (ahead_still v.world < ahead_still w) ⊎ IsHeld
    made_still =
        by_still (m.fin.taken.still settling (ap (λ (x : State). x.store.writes) (sym m.world) ∙ same))
        (comes_out (exchange settling.steady.unplanned settling.fetches)).told
      where
        by_still : MakesWait w m.fin.answered.answer.reply.status ⊎ (ahead_still m.last.world < ahead_still w)
            → IsHeld ⊎ (m.fin.answered.answer.reply.status ≡ status.Hold → ⊥) → (ahead_still v.world < ahead_still w) ⊎ IsHeld
        by_still (inr less) told = inl (subst (λ (x : State). ahead_still x < ahead_still w) (sym m.world) less)
        by_still (inl (inr (away, none))) told = absurd (none leading)
        by_still (inl (inl hold)) (inl held) = inr held
        by_still (inl (inl hold)) (inr never) = absurd (never hold)

module _ (i : Instance) (s : SegmentAt) (busy : Bool) (w : State) (v : Reached) (told : Bool) (going : IsGoing w) (before : IsByRows w) (leading : IsLeading w) where
  pub exchange_by_rows : w.store.faults.plan ≡ [] → w.deep.faults.plan ≡ [] → ExchangeTurn i s busy w v (Ok told) → IsByRows v.world
  exchange_by_rows unplanned fetches h = by_way (exchange_requests i s busy w v told going leading h)
    where
      by_way : HasRequested w i s busy v told → IsByRows v.world
      by_way (inl (same, e, due)) = subst IsByRows (sym same) before
      by_way (inr m) = made_by_rows w i s v going before leading m unplanned fetches

  module _ (settling : IsSettling w) (h : ExchangeTurn i s busy w v (Ok told)) where
    pub exchange_still : v.world.store.writes ≡ w.store.writes
        → (ahead_still v.world < ahead_still w) ⊎ ((told ≡ busy) × (v.world ≡ w))
        ⊎ (IsSame w v.world × ((m : Completion) × (machine_of (asked_machines w) s.0 s.1 ≡ Some m)))
    exchange_still same = by_way (exchange_requests i s busy w v told going leading h)
      where
        Comes : Type 0
        Comes = (ahead_still v.world < ahead_still w) ⊎ ((told ≡ busy) × (v.world ≡ w))
            ⊎ (IsSame w v.world × ((m : Completion) × (machine_of (asked_machines w) s.0 s.1 ≡ Some m)))

        by_made : (m : HasMade w i s.0 s.1 v) → (ahead_still v.world < ahead_still w) ⊎ IsHeld w i s v going before leading m settling same → Comes
        by_made m (inl less) = inl less
        by_made m (inr held) = inr (inr (subst (IsSame w) (sym m.world) held.same, (held.machine, held.is)))

        by_way : HasRequested w i s busy v told → Comes
        by_way (inl (is, e, due)) = inr (inl (e, is))
        by_way (inr m) = by_made m (made_still w i s v going before leading m settling same)

    -- a committer that asks leaves less ahead
    pub exchange_commits : (n : ServerNode) → slice_get w.servers i.0 ≡ Some n → (r : Consumer) → Has n.server.table.entries (s, Replica r) → (o : Unsealed)
        → r.phase ≡ phase.Unsealed o → IsCommitting o.stage → v.world.store.writes ≡ w.store.writes → ahead_still v.world < ahead_still w
    exchange_commits n there r has_it o unsealed commits same = by_way (exchange_requests i s busy w v told going leading h)
      where
        found : replica_of n.server.table s.0 s.1 ≡ Some r
        found = ap replica_at (entry_found n.server.table.entries s (Replica r) (going.safe.safe.servers i.0 n there).over.kept.ascending has_it)

        by_made : (m : HasMade w i s.0 s.1 v) → (ahead_still v.world < ahead_still w) ⊎ IsHeld w i s v going before leading m settling same
            → ahead_still v.world < ahead_still w
        by_made m (inl less) = less
        by_made m (inr held) =
            let node : n ≡ m.fin.asked.old = same_Some n m.fin.asked.old (sym there ∙ m.fin.asked.at) in
            let own : r ≡ m.fin.asked.replica =
            same_Some r m.fin.asked.replica (sym found ∙ ap (λ (x : ServerNode). replica_of x.server.table s.0 s.1) node ∙ m.fin.asked.found) in
            absurd (held.asks o (ap (λ (x : Consumer). x.phase) (sym own) ∙ unsealed) commits)

        by_way : HasRequested w i s busy v told → ahead_still v.world < ahead_still w
        by_way (inr m) = by_made m (made_still w i s v going before leading m settling same)
        by_way (inl (is, e, due)) =
            let at_server : replica_there w i s.0 s.1 ≡ Some r = ap (λ (x : Option ServerNode). replica_in x s.0 s.1) there ∙ found in
            let none : asks_due r ≡ false =
            fails_test w i s.0 (asks_due r) (upload_cost (size_in r.phase))
            (sym (ap (λ (x : Option Consumer). dropped (then_due (find_server w i s.0) (report_by w x))) at_server) ∙ due) in
            absurd (true≢false (sym (ap asks_now unsealed ∙ committing_asks o.stage commits) ∙ none))
