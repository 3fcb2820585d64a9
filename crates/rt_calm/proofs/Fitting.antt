-- What a controller answers fits what it was asked: the offset of a COMMIT and of a KEEP is the one that was reported, that of CATCH_UP lies
-- ahead of it, and each other answer is one to such a request.
use Rattle.std.proofs.Common.{◌≡◌, ◌⊎◌, inl, inr, ℕ, ◌<◌, ◌≤◌, true, false, ◌&&◌, ◌==◌, nat_lt, List, [], ◌∷◌, ◌++◌, map, Option, Some, None, Result, Ok, Err, refl, sym, ◌∙◌, ap, subst, arith, slice_get}
use Rattle.std.specs.List.{Contains}
use Rattle.std.proofs.lemmas.Bool.{cases_lt, eq-eqb, eqb-true, ltb-true, true≢false}
use Rattle.std.proofs.lemmas.Option.{none-some, same_Some}
use Rattle.rt_base.specs.declared.numbers.Instance.{Instance}
use Rattle.rt_base.specs.declared.numbers.Moment.{Moment}
use Rattle.rt_base.specs.declared.numbers.Offset.{Offset}
use Rattle.rt_commit.specs.Assignment.{replicas_in}
use Rattle.rt_commit.specs.Lasting.{commit_end}
use Rattle.rt_commit.specs.Calls.{DeepMeaning, Makes}
use Rattle.rt_commit.specs.declared.job.Job.{Job}
use Rattle.rt_commit.specs.declared.job.JobStage.{JobStage}
use Rattle.rt_consumer.specs.Consumer.{end_in, ends_at, is_at as is_at_end}
use Rattle.rt_controller.specs.Answers.{after_put, ask_in, follows_by, leads_to, named_file, named_in, Handling}
use Rattle.rt_controller.specs.Controller.{added, machine_place, replaced, with_machine, Controlling}
use Rattle.rt_controller.specs.Steps.{Handles}
use Rattle.rt_controller.specs.Requests.{Turn as Rule, not_leading, uploads, not_assigned, past_last, has_machine, has_none, after_read, at_machine, by_node, by_status, call_of, first_state, handled_at, turn_of}
use Rattle.rt_controller.specs.declared.handled.Handled.{Handled}
use Rattle.rt_controller.specs.declared.handled.Handled.TheVariants as handled
use Rattle.rt_controller.specs.declared.segment_machine.SegmentMachine.{SegmentMachine}
use Rattle.rt_controller.specs.declared.starting.NamedFile.{NamedFile}
use Rattle.rt_controller.proofs.KeepsRequests.{its_machine}
use Rattle.rt_controller.proofs.Turns.{told_turn, Tells}
use Rattle.rt_deep.specs.declared.refused.DeepRefused.{DeepRefused}
use Rattle.rt_deep.specs.declared.refused.DeepRefused.TheVariants as deep
use Rattle.rt_fsm.proofs.Notes.{instances, largest_above, noted_some, winner_noted, Noted, SomeOf}
use Rattle.rt_fsm.proofs.Pick.{fresh_instances}
use Rattle.rt_fsm.proofs.Table.{and_true, by_react, by_test, offset_of, same_instance, same_offset}
use Rattle.rt_model.specs.Completion.{catches_up, commit_end_in, commit_start_in, consumed_in, decided, first, gathers, goes, largest_note, loses, noted, picks, react, stopped_in, winner_of, with_note, with_pick, Completion}
use Rattle.rt_model.specs.Finished.{abandoned_row, committed_row, keeps}
use Rattle.rt_model.specs.Messages.{asked_of}
use Rattle.rt_model.specs.declared.commit.Commit.{Commit}
use Rattle.rt_model.specs.declared.completion.Ask.{Ask}
use Rattle.rt_model.specs.declared.completion.Ask.TheVariants as ask
use Rattle.rt_model.specs.declared.completion.Reaction.{Reaction}
use Rattle.rt_model.specs.declared.completion.Reaction.TheVariants as reaction
use Rattle.rt_model.specs.declared.completion.Said.TheVariants as said
use Rattle.rt_model.specs.declared.machine_state.MachineState.{MachineState}
use Rattle.rt_model.specs.declared.machine_state.MachineState.TheVariants as machine
use Rattle.rt_model.specs.declared.node.Node.{Node}
use Rattle.rt_model.specs.declared.node.Node.TheVariants as node
use Rattle.rt_model.specs.declared.node.Seen.{Seen}
use Rattle.rt_model.specs.declared.reply.FailCause.{FailCause}
use Rattle.rt_model.specs.declared.reply.ReplyStatus.{ReplyStatus}
use Rattle.rt_model.specs.declared.reply.ReplyStatus.TheVariants as status
use Rattle.rt_model.specs.declared.reporter.Reporter.{Reporter}
use Rattle.rt_model.specs.declared.request.Reason.{Reason}
use Rattle.rt_model.specs.declared.request.Request.{Request}
use Rattle.rt_model.specs.declared.request.RequestKind.{RequestKind}
use Rattle.rt_model.specs.declared.request.RequestKind.TheVariants as kind
use Rattle.rt_model.specs.declared.seg_meta.SeenMeta.{SeenMeta}
use Rattle.rt_model.specs.declared.status.Status.{Status}
use Rattle.rt_model.specs.declared.status.Status.TheVariants.{InProgress, Done, Abandoned}
use Rattle.rt_lists.specs.Members.{Has}
use Rattle.rt_lists.proofs.Members.{place-Has}
use Rattle.rt_store.specs.Meaning.{Meaning}
use Rattle.rt_store.specs.declared.refused.StoreRefused.{StoreRefused}
use Rattle.rt_store.specs.declared.refused.StoreRefused.TheVariants.{NoNode, Exists, VersionChanged, Failed, Memory}
use Rattle.rt_calm.proofs.Paying.{IsFirst}

-- ---- what fits

abbrev ConsumedTold : Offset → ReplyStatus → Type 0
ConsumedTold x (status.CatchUp t) = x.0 < t.0
ConsumedTold x (status.Commit o) = o ≡ x
ConsumedTold x (status.Keep seen) = ends_at x seen ≡ true
ConsumedTold x status.Discard = Unit {0}
ConsumedTold x status.Hold = Unit {0}
ConsumedTold x status.NotLeader = Unit {0}
ConsumedTold x (status.Failed cause) = Unit {0}
ConsumedTold x status.CommitContinue = ⊥
ConsumedTold x (status.UploadSuccess path) = ⊥
ConsumedTold x (status.CommitSuccess seen) = ⊥
ConsumedTold x status.Processed = ⊥

abbrev StartTold : Offset → ReplyStatus → Type 0
StartTold x status.CommitContinue = Unit {0}
StartTold x (status.Keep seen) = ends_at x seen ≡ true
StartTold x status.Discard = Unit {0}
StartTold x status.Hold = Unit {0}
StartTold x status.NotLeader = Unit {0}
StartTold x (status.Failed cause) = Unit {0}
StartTold x (status.CatchUp t) = ⊥
StartTold x (status.Commit o) = ⊥
StartTold x (status.UploadSuccess path) = ⊥
StartTold x (status.CommitSuccess seen) = ⊥
StartTold x status.Processed = ⊥

abbrev UploadTold : ReplyStatus → Type 0
UploadTold (status.UploadSuccess path) = Unit {0}
UploadTold status.Hold = Unit {0}
UploadTold status.NotLeader = Unit {0}
UploadTold (status.Failed cause) = Unit {0}
UploadTold status.CommitContinue = ⊥
UploadTold (status.Keep seen) = ⊥
UploadTold status.Discard = ⊥
UploadTold (status.CatchUp t) = ⊥
UploadTold (status.Commit o) = ⊥
UploadTold (status.CommitSuccess seen) = ⊥
UploadTold status.Processed = ⊥

abbrev EndTold : Offset → ReplyStatus → Type 0
EndTold x (status.CommitSuccess seen) = ends_at x seen ≡ true
EndTold x (status.Keep seen) = ends_at x seen ≡ true
EndTold x status.Discard = Unit {0}
EndTold x status.Hold = Unit {0}
EndTold x status.NotLeader = Unit {0}
EndTold x (status.Failed cause) = Unit {0}
EndTold x status.CommitContinue = ⊥
EndTold x (status.CatchUp t) = ⊥
EndTold x (status.Commit o) = ⊥
EndTold x (status.UploadSuccess path) = ⊥
EndTold x status.Processed = ⊥

abbrev StopTold : ReplyStatus → Type 0
StopTold status.Processed = Unit {0}
StopTold status.Hold = Unit {0}
StopTold status.NotLeader = Unit {0}
StopTold (status.Failed cause) = Unit {0}
StopTold status.CommitContinue = ⊥
StopTold (status.Keep seen) = ⊥
StopTold status.Discard = ⊥
StopTold (status.CatchUp t) = ⊥
StopTold (status.Commit o) = ⊥
StopTold (status.UploadSuccess path) = ⊥
StopTold (status.CommitSuccess seen) = ⊥

-- an answer to a request of an offset
abbrev pub Fits : Offset → RequestKind → ReplyStatus → Type 0
Fits x (kind.Consumed reason) s = ConsumedTold x s
Fits x kind.CommitStart s = StartTold x s
Fits x (kind.Upload path bytes) s = UploadTold s
Fits x (kind.CommitEnd path) s = EndTold x s
Fits x kind.Stopped s = StopTold s
Fits x (kind.Extend millis) s = Unit {0}

-- a job that starts at it
abbrev pub Starts : Offset → RequestKind → JobStage → Type 0
Starts x (kind.CommitEnd path) s = commit_end s ≡ Some x
Starts x kind.Stopped s = commit_end s ≡ None
Starts x (kind.Extend millis) s = Unit {0}
Starts x (kind.Consumed reason) s = ⊥
Starts x kind.CommitStart s = ⊥
Starts x (kind.Upload path bytes) s = ⊥

-- three answers fit whatever is asked
pub hold_fits : (x : Offset) (k : RequestKind) → Fits x k status.Hold
hold_fits x (kind.Consumed reason) = tt
hold_fits x kind.CommitStart = tt
hold_fits x (kind.Upload path bytes) = tt
hold_fits x (kind.CommitEnd path) = tt
hold_fits x kind.Stopped = tt
hold_fits x (kind.Extend millis) = tt

pub not_leader_fits : (x : Offset) (k : RequestKind) → Fits x k status.NotLeader
not_leader_fits x (kind.Consumed reason) = tt
not_leader_fits x kind.CommitStart = tt
not_leader_fits x (kind.Upload path bytes) = tt
not_leader_fits x (kind.CommitEnd path) = tt
not_leader_fits x kind.Stopped = tt
not_leader_fits x (kind.Extend millis) = tt

pub failed_fits : (x : Offset) (k : RequestKind) (cause : FailCause) → Fits x k (status.Failed cause)
failed_fits x (kind.Consumed reason) cause = tt
failed_fits x kind.CommitStart cause = tt
failed_fits x (kind.Upload path bytes) cause = tt
failed_fits x (kind.CommitEnd path) cause = tt
failed_fits x kind.Stopped cause = tt
failed_fits x (kind.Extend millis) cause = tt

-- ---- a machine's reaction

abbrev ConsumedFits : Offset → Reaction → Type 0
ConsumedFits x (reaction.Answer (said.CatchUp t)) = x.0 < t.0
ConsumedFits x (reaction.Answer (said.Commit o)) = o ≡ x
ConsumedFits x (reaction.Answer said.Hold) = Unit {0}
ConsumedFits x (reaction.Answer (said.Failed cause)) = Unit {0}
ConsumedFits x (reaction.Answer said.CommitContinue) = ⊥
ConsumedFits x (reaction.Answer said.Processed) = ⊥
ConsumedFits x (reaction.StartCommit end) = ⊥
ConsumedFits x reaction.StartOffline = ⊥

abbrev StartFits : Reaction → Type 0
StartFits (reaction.Answer said.CommitContinue) = Unit {0}
StartFits (reaction.Answer said.Hold) = Unit {0}
StartFits (reaction.Answer (said.Failed cause)) = Unit {0}
StartFits (reaction.Answer (said.CatchUp t)) = ⊥
StartFits (reaction.Answer (said.Commit o)) = ⊥
StartFits (reaction.Answer said.Processed) = ⊥
StartFits (reaction.StartCommit end) = ⊥
StartFits reaction.StartOffline = ⊥

abbrev EndFits : Offset → Reaction → Type 0
EndFits x (reaction.StartCommit end) = end ≡ x
EndFits x (reaction.Answer said.Hold) = Unit {0}
EndFits x (reaction.Answer (said.Failed cause)) = Unit {0}
EndFits x (reaction.Answer said.CommitContinue) = ⊥
EndFits x (reaction.Answer (said.CatchUp t)) = ⊥
EndFits x (reaction.Answer (said.Commit o)) = ⊥
EndFits x (reaction.Answer said.Processed) = ⊥
EndFits x reaction.StartOffline = ⊥

abbrev StopFits : Reaction → Type 0
StopFits reaction.StartOffline = Unit {0}
StopFits (reaction.Answer said.Hold) = Unit {0}
StopFits (reaction.Answer (said.Failed cause)) = Unit {0}
StopFits (reaction.Answer said.CommitContinue) = ⊥
StopFits (reaction.Answer (said.CatchUp t)) = ⊥
StopFits (reaction.Answer (said.Commit o)) = ⊥
StopFits (reaction.Answer said.Processed) = ⊥
StopFits (reaction.StartCommit end) = ⊥

abbrev AskFits : Ask → Reaction → Type 0
AskFits (ask.Consumed x reason) y = ConsumedFits x y
AskFits (ask.CommitStart x) y = StartFits y
AskFits (ask.CommitEnd x) y = EndFits x y
AskFits ask.Stopped y = StopFits y
AskFits (ask.Extend millis) y = Unit {0}

module _ (i : Instance) (x : Offset) where
  abbrev Consumes : Reaction × Completion → Type 0
  Consumes y = ConsumedFits x y.0

  catches_fits : (m : Completion) → Consumes (catches_up m x)
  catches_fits m =
      by_test Consumes (nat_lt x.0 m.offset.0) (reaction.Answer (said.CatchUp m.offset), m) (reaction.Answer said.Hold, m)
      (λ below. ltb-true x.0 m.offset.0 below) (λ above. tt)

  -- the sender's own note is what it reports
  noted_own : (r : Reporter) (o : Offset) → (noted i x r).instance ≡ i → (noted i x r).note ≡ Some o → o ≡ x
  noted_own r o =
      by_test (λ q. q.instance ≡ i → q.note ≡ Some o → o ≡ x) (r.instance.0 == i.0) _ r (λ own same at. sym (same_Some x o at))
      (λ other same at. absurd (true≢false (sym (eq-eqb r.instance.0 i.0 (ap (λ (v : Instance). v.0) same)) ∙ other)))

  own_note : (rs : List Reporter) (o : Offset) → SomeOf (Noted i o) (map (noted i x) rs) → o ≡ x
  own_note [] o none = absurd none
  own_note (r ∷ rs) o (inl here) = noted_own r o here.0 here.1
  own_note (r ∷ rs) o (inr later) = own_note rs o later

  module _ (m : Completion) (now : Moment) (beyond : 0 < x.0) (there : Contains (instances m.reporters) i) where
    abbrev noting : List Reporter
    noting = map (noted i x) m.reporters

    abbrev top : Offset
    top = offset_of (largest_note noting)

    own_there : SomeOf (Noted i x) noting
    own_there = noted_some i x m.reporters there

    -- a sender that is picked has the largest note
    pub picked_own : i ≡ winner_of noting i x → top ≡ x
    picked_own is =
        own_note m.reporters top (subst (λ (w : Instance). SomeOf (Noted w top) noting) (sym is) (winner_noted noting i x beyond own_there))

    -- and another one is behind it, or level
    pub behind : (x.0 == top.0) ≡ false → x.0 < top.0
    behind apart = by_order (cases_lt x.0 top.0)
      where
        by_order : (x.0 < top.0) ⊎ (top.0 ≤ x.0) → x.0 < top.0
        by_order (inl lt) = lt
        by_order (inr le) =
            let same : x.0 ≡ top.0 = omega (arith, le, largest_above i x noting own_there) in
            absurd (true≢false (sym (eq-eqb x.0 top.0 same) ∙ apart))

    abbrev n : Completion
    n = with_pick (with_note m i x) i x now

    decided_fits : Consumes (decided n i x)
    decided_fits =
        by_test Consumes (i.0 == n.winner.0) (reaction.Answer (said.Commit n.offset), goes n machine.CommitterNotified) _
        (λ own. picked_own (same_instance i n.winner own))
        (λ other. by_test Consumes (x.0 == n.offset.0) (reaction.Answer said.Hold, goes n machine.CommitterDecided)
        (reaction.Answer (said.CatchUp n.offset), goes n machine.CommitterDecided) (λ level. tt) behind)

    gathers_fits : (r : Reason) → Consumes (gathers (with_note m i x) i x r now)
    gathers_fits r =
        by_test Consumes (picks (with_note m i x) i r now) (decided n i x) (reaction.Answer said.Hold, goes (with_note m i x) machine.Holding)
        (λ picked. decided_fits) (λ early. tt)

    consumed_fits : (s : MachineState) (r : Reason) → Consumes (consumed_in s m i x r now)
    consumed_fits machine.PartialConsuming r = gathers_fits r
    consumed_fits machine.Holding r = gathers_fits r
    consumed_fits machine.CommitterDecided r =
        by_test Consumes (nat_lt m.offset.0 x.0) (reaction.Answer said.Hold, goes m machine.Aborted) _ (λ past. tt)
        (λ within. by_test Consumes ((i.0 == m.winner.0) && (x.0 == m.offset.0)) (reaction.Answer (said.Commit m.offset), goes m machine.CommitterNotified)
        (catches_up m x)
        (λ own. sym (same_offset x m.offset (and_true (i.0 == m.winner.0) (x.0 == m.offset.0) own).1)) (λ other. catches_fits m))
    consumed_fits machine.CommitterNotified r =
        by_test Consumes (nat_lt m.offset.0 x.0) (reaction.Answer said.Hold, goes m machine.Aborted) _ (λ past. tt)
        (λ within. by_test Consumes (i.0 == m.winner.0) _ (catches_up m x)
        (λ own. by_test Consumes (x.0 == m.offset.0) (reaction.Answer (said.Commit m.offset), m) (reaction.Answer said.Hold, goes m machine.Aborted)
        (λ level. sym (same_offset x m.offset level)) (λ apart. tt))
        (λ other. catches_fits m))
    consumed_fits machine.CommitterUploading r =
        by_test Consumes (i.0 == m.winner.0) (reaction.Answer said.Hold, goes m machine.Aborted) (catches_up m x) (λ own. tt) (λ other. catches_fits m)
    consumed_fits machine.Committing r = catches_fits m
    consumed_fits machine.Committed r = tt
    consumed_fits machine.Aborted r = tt

  start_fits : (s : MachineState) (m : Completion) → StartFits (commit_start_in s m i x).0
  start_fits machine.CommitterNotified m =
      by_test (λ (y : Reaction × Completion). StartFits y.0) (i.0 == m.winner.0) _ (reaction.Answer said.Hold, m)
      (λ own. by_test (λ (y : Reaction × Completion). StartFits y.0) (x.0 == m.offset.0)
      (reaction.Answer said.CommitContinue, goes m machine.CommitterUploading) _ (λ level. tt) (λ apart. tt))
      (λ other. tt)
  start_fits machine.PartialConsuming m = tt
  start_fits machine.Holding m = tt
  start_fits machine.CommitterDecided m = tt
  start_fits machine.CommitterUploading m = tt
  start_fits machine.Committing m = tt
  start_fits machine.Committed m = tt
  start_fits machine.Aborted m = tt

  end_fits : (s : MachineState) (m : Completion) → EndFits x (commit_end_in s m i x).0
  end_fits machine.CommitterUploading m =
      by_test (λ (y : Reaction × Completion). EndFits x y.0) (i.0 == m.winner.0) _ _
      (λ own. by_test (λ (y : Reaction × Completion). EndFits x y.0) (x.0 == m.offset.0) (reaction.StartCommit m.offset, goes m machine.Committing) _
      (λ level. sym (same_offset x m.offset level)) (λ apart. tt))
      (λ other. tt)
  end_fits machine.PartialConsuming m = tt
  end_fits machine.Holding m = tt
  end_fits machine.CommitterDecided m = tt
  end_fits machine.CommitterNotified m = tt
  end_fits machine.Committing m = tt
  end_fits machine.Committed m = tt
  end_fits machine.Aborted m = tt

loses_fits : (m : Completion) (i : Instance) → StopFits (loses m i).0
loses_fits m i =
    by_test (λ (y : Reaction × Completion). StopFits y.0) (i.0 == m.winner.0) (reaction.StartOffline, goes m machine.Aborted) (reaction.StartOffline, m) (λ own. tt)
    (λ other. tt)

stop_fits : (s : MachineState) (m : Completion) (i : Instance) → StopFits (stopped_in s m i).0
stop_fits machine.PartialConsuming m i = tt
stop_fits machine.Holding m i = tt
stop_fits machine.CommitterDecided m i = loses_fits m i
stop_fits machine.CommitterNotified m i = loses_fits m i
stop_fits machine.CommitterUploading m i = loses_fits m i
stop_fits machine.Committing m i = tt
stop_fits machine.Committed m i = tt
stop_fits machine.Aborted m i = tt

react_fits : (m : Completion) (i : Instance) (what : Ask) (now : Moment) → Contains (instances m.reporters) i → AskFits what (react m i what now).0
react_fits m i (ask.Consumed x r) now there =
    by_react (λ (y : Reaction × Completion). ConsumedFits x y.0) m i (ask.Consumed x r) now (λ late. tt) (λ y kept. tt)
    (λ early beyond. consumed_fits i x m now (omega (arith, beyond)) there m.state r)
react_fits m i (ask.CommitStart x) now there =
    by_react (λ (y : Reaction × Completion). StartFits y.0) m i (ask.CommitStart x) now (λ late. tt) (λ y kept. tt) (λ early beyond. start_fits i x m.state m)
react_fits m i (ask.CommitEnd x) now there =
    by_react (λ (y : Reaction × Completion). EndFits x y.0) m i (ask.CommitEnd x) now (λ late. tt) (λ y kept. tt) (λ early beyond. end_fits i x m.state m)
react_fits m i ask.Stopped now there =
    by_react (λ (y : Reaction × Completion). StopFits y.0) m i ask.Stopped now (λ late. tt) (λ y kept. tt) (λ early beyond. stop_fits m.state m i)
react_fits m i (ask.Extend millis) now there = tt

-- ---- what a reaction leads to

abbrev IsLed : Offset → RequestKind → Result JobStage ReplyStatus → Type 0
IsLed x k (Ok s) = Starts x k s
IsLed x k (Err s) = Fits x k s

consumed_led : (x : Offset) (reason : Reason) (y : Reaction) → ConsumedFits x y → IsLed x (kind.Consumed reason) (leads_to None y)
consumed_led x reason (reaction.Answer (said.CatchUp t)) fits = fits
consumed_led x reason (reaction.Answer (said.Commit o)) fits = fits
consumed_led x reason (reaction.Answer said.Hold) fits = tt
consumed_led x reason (reaction.Answer (said.Failed cause)) fits = tt
consumed_led x reason (reaction.Answer said.CommitContinue) fits = absurd fits
consumed_led x reason (reaction.Answer said.Processed) fits = absurd fits
consumed_led x reason (reaction.StartCommit end) fits = absurd fits
consumed_led x reason reaction.StartOffline fits = absurd fits

start_led : (x : Offset) (y : Reaction) → StartFits y → IsLed x kind.CommitStart (leads_to None y)
start_led x (reaction.Answer said.CommitContinue) fits = tt
start_led x (reaction.Answer said.Hold) fits = tt
start_led x (reaction.Answer (said.Failed cause)) fits = tt
start_led x (reaction.Answer (said.CatchUp t)) fits = absurd fits
start_led x (reaction.Answer (said.Commit o)) fits = absurd fits
start_led x (reaction.Answer said.Processed) fits = absurd fits
start_led x (reaction.StartCommit end) fits = absurd fits
start_led x reaction.StartOffline fits = absurd fits

end_led : (x : Offset) (path : List ℕ) (file : NamedFile) (y : Reaction) → EndFits x y → IsLed x (kind.CommitEnd path) (leads_to (Some file) y)
end_led x path file (reaction.StartCommit end) fits = ap (λ (o : Offset). Some o) fits
end_led x path file (reaction.Answer said.Hold) fits = tt
end_led x path file (reaction.Answer (said.Failed cause)) fits = tt
end_led x path file (reaction.Answer said.CommitContinue) fits = absurd fits
end_led x path file (reaction.Answer (said.CatchUp t)) fits = absurd fits
end_led x path file (reaction.Answer (said.Commit o)) fits = absurd fits
end_led x path file (reaction.Answer said.Processed) fits = absurd fits
end_led x path file reaction.StartOffline fits = absurd fits

stop_led : (x : Offset) (y : Reaction) → StopFits y → IsLed x kind.Stopped (leads_to None y)
stop_led x reaction.StartOffline fits = refl
stop_led x (reaction.Answer said.Hold) fits = tt
stop_led x (reaction.Answer (said.Failed cause)) fits = tt
stop_led x (reaction.Answer said.CommitContinue) fits = absurd fits
stop_led x (reaction.Answer (said.CatchUp t)) fits = absurd fits
stop_led x (reaction.Answer (said.Commit o)) fits = absurd fits
stop_led x (reaction.Answer said.Processed) fits = absurd fits
stop_led x (reaction.StartCommit end) fits = absurd fits

extend_led : (x : Offset) (millis : ℕ) (o : Result JobStage ReplyStatus) → IsLed x (kind.Extend millis) o
extend_led x millis (Ok s) = tt
extend_led x millis (Err s) = tt

led_fits : (x : Offset) (r : Request) (seen : SeenMeta) (k : RequestKind) (what : Ask) (y : Reaction) → ask_in x k ≡ Some what → AskFits what y
    → IsLed x k (leads_to (named_in r seen k) y)
led_fits x r seen (kind.Consumed reason) what y asks fits =
    consumed_led x reason y (subst (λ (a : Ask). AskFits a y) (sym (same_Some (ask.Consumed x reason) what asks)) fits)
led_fits x r seen kind.CommitStart what y asks fits =
    start_led x y (subst (λ (a : Ask). AskFits a y) (sym (same_Some (ask.CommitStart x) what asks)) fits)
led_fits x r seen (kind.CommitEnd path) what y asks fits =
    end_led x path _ y (subst (λ (a : Ask). AskFits a y) (sym (same_Some (ask.CommitEnd x) what asks)) fits)
led_fits x r seen kind.Stopped what y asks fits = stop_led x y (subst (λ (a : Ask). AskFits a y) (sym (same_Some ask.Stopped what asks)) fits)
led_fits x r seen (kind.Extend millis) what y asks fits = extend_led x millis (leads_to None y)
led_fits x r seen (kind.Upload path bytes) what y asks fits = absurd (none-some what asks)

-- ---- a segment that has ended

keeps_fits : (seen : SeenMeta) (commit : Commit) (x : Offset) → seen.meta.status ≡ Done commit
    → StartTold x (keeps seen commit.end x) × ConsumedTold x (keeps seen commit.end x) × EndTold x (keeps seen commit.end x)
keeps_fits seen commit x done =
    by_test (λ (s : ReplyStatus). StartTold x s × ConsumedTold x s × EndTold x s) (x.0 == commit.end.0) (status.Keep seen) status.Discard
    (λ level. (own level, own level, own level)) (λ apart. (tt, tt, tt))
  where
    own : (x.0 == commit.end.0) ≡ true → ends_at x seen ≡ true
    own level = ap (λ (s : Status). is_at_end x (end_in s)) done ∙ eq-eqb commit.end.0 x.0 (sym (eqb-true x.0 commit.end.0 level))

row_fits : (x : Offset) (k : RequestKind) (what : Ask) (seen : SeenMeta) (commit : Commit) → ask_in x k ≡ Some what → seen.meta.status ≡ Done commit
    → Fits x k (committed_row seen commit.end what)
row_fits x (kind.Consumed reason) what seen commit asks done =
    subst (λ (a : Ask). ConsumedTold x (committed_row seen commit.end a)) (same_Some (ask.Consumed x reason) what asks) (keeps_fits seen commit x done).1
row_fits x kind.CommitStart what seen commit asks done =
    subst (λ (a : Ask). StartTold x (committed_row seen commit.end a)) (same_Some (ask.CommitStart x) what asks) (keeps_fits seen commit x done).0
row_fits x (kind.CommitEnd path) what seen commit asks done =
    subst (λ (a : Ask). EndTold x (committed_row seen commit.end a)) (same_Some (ask.CommitEnd x) what asks) (keeps_fits seen commit x done).2
row_fits x kind.Stopped what seen commit asks done =
    subst (λ (a : Ask). StopTold (committed_row seen commit.end a)) (same_Some ask.Stopped what asks) tt
row_fits x (kind.Extend millis) what seen commit asks done = tt
row_fits x (kind.Upload path bytes) what seen commit asks done = absurd (none-some what asks)

abandoned_fits : (x : Offset) (k : RequestKind) (what : Ask) → ask_in x k ≡ Some what → Fits x k (abandoned_row what)
abandoned_fits x (kind.Consumed reason) what asks = subst (λ (a : Ask). ConsumedTold x (abandoned_row a)) (same_Some (ask.Consumed x reason) what asks) tt
abandoned_fits x kind.CommitStart what asks = subst (λ (a : Ask). StartTold x (abandoned_row a)) (same_Some (ask.CommitStart x) what asks) tt
abandoned_fits x (kind.CommitEnd path) what asks = subst (λ (a : Ask). EndTold x (abandoned_row a)) (same_Some (ask.CommitEnd x) what asks) tt
abandoned_fits x kind.Stopped what asks = subst (λ (a : Ask). StopTold (abandoned_row a)) (same_Some ask.Stopped what asks) tt
abandoned_fits x (kind.Extend millis) what asks = tt
abandoned_fits x (kind.Upload path bytes) what asks = absurd (none-some what asks)

-- a job that a reaction starts is at its first stage
abbrev BeginsFirst : Result JobStage ReplyStatus → Type 0
BeginsFirst (Ok s) = IsFirst s
BeginsFirst (Err s) = Unit {0}

begins_first : (file : Option NamedFile) (y : Reaction) → BeginsFirst (leads_to file y)
begins_first file (reaction.Answer what) = tt
begins_first (Some file) (reaction.StartCommit end) = tt
begins_first None (reaction.StartCommit end) = tt
begins_first file reaction.StartOffline = refl

-- ---- a request

abbrev handling : Handling → Option Handling
handling x = Some x

same_handling : (x y : Handling) → handling x ≡ handling y → x ≡ y
same_handling x y e = cc

-- the job of a number that was started at a request
pub record IsBegun (c : Controlling) (r : Request) (new : Controlling) (n : ℕ) : Type 0 where
  pub job : Job
  pub jobs : new.jobs ≡ c.jobs ++ job ∷ []
  pub number : job.number ≡ n
  pub asked : job.asked ≡ asked_of r
  pub starts : Starts r.offset r.kind job.stage
  pub first : IsFirst job.stage

-- what is handed out fits the request
abbrev pub HandsOut : Controlling → Request → Controlling → Handled → Type 0
HandsOut c r new (handled.Reply y) = Fits r.offset r.kind y.status
HandsOut c r new (handled.Job n) = IsBegun c r new n

module _ (c : Controlling) (r : Request) (now : Moment) where
  abbrev IsRight : Handling → Type 0
  IsRight x = HandsOut c r x.controller x.handled

  made : (y x : Handling) → handling y ≡ handling x → IsRight y → IsRight x
  made y x e k = subst IsRight (same_handling y x e) k

  follows_right : (ms : List SegmentMachine) (o : Result JobStage ReplyStatus) → IsLed r.offset r.kind o → BeginsFirst o
      → IsRight (follows_by (record c { machines = ms }) r o)
  follows_right ms (Ok s) starts first = record {
    job = record { number = c.started; asked = asked_of r; stage = s };
    jobs = refl;
    number = refl;
    asked = refl;
    starts = starts;
    first = first;
  }
  follows_right ms (Err s) fits first = fits

  module _ (what : Ask) (asks : ask_in r.offset r.kind ≡ Some what) where
    reacts_right : (ms : List SegmentMachine) (seen : SeenMeta) (m : Completion) → Contains (instances m.reporters) r.number.instance
        → IsRight (follows_by (record c { machines = ms }) r (leads_to (named_file r seen) (react m r.number.instance what now).0))
    reacts_right ms seen m there =
        follows_right ms (leads_to (named_file r seen) (react m r.number.instance what now).0)
        (led_fits r.offset r seen r.kind what (react m r.number.instance what now).0 asks (react_fits m r.number.instance what now there))
        (begins_first (named_file r seen) (react m r.number.instance what now).0)

    -- a machine of the segment reacts, whose reporters are the segment's replicas
    machine_right : (place : ℕ) (o : Option SegmentMachine) (x : Handling)
        → ((m : SegmentMachine) → o ≡ Some m → Contains (instances m.machine.reporters) r.number.instance)
        → at_machine c r now place what o ≡ Some x → IsRight x
    machine_right place None x there is = absurd (none-some x is)
    machine_right place (Some m) x there is =
        made _ x is
        (reacts_right (replaced c.machines place (with_machine m (react m.machine r.number.instance what now).1)) m.machine.seen m.machine (there m refl))

    status_right : (seen : SeenMeta) (s : Status) → seen.meta.status ≡ s → Contains (replicas_in c.assigned r.partition) r.number.instance
        → IsRight (by_status c r now what seen s)
    status_right seen InProgress e there =
        let n = first seen (replicas_in c.assigned r.partition) (first_state what) now in
        reacts_right (added c.machines (record { partition = r.partition; sequence = r.sequence; machine = (react n r.number.instance what now).1 })) seen n
        (subst (λ (is : List Instance). Contains is r.number.instance) (sym (fresh_instances (replicas_in c.assigned r.partition))) there)
    status_right seen (Done commit) e there = row_fits r.offset r.kind what seen commit asks e
    status_right seen Abandoned e there = abandoned_fits r.offset r.kind what asks

    node_right : (version : ℕ) (n : Node) → Contains (replicas_in c.assigned r.partition) r.number.instance → IsRight (by_node c r now what version n)
    node_right version (node.Meta m) there = status_right (record { version = version; meta = m }) m.status refl there
    node_right version (node.Ideal i) there = failed_fits r.offset r.kind _
    node_right version node.Boot there = failed_fits r.offset r.kind _
    node_right version node.Gone there = failed_fits r.offset r.kind _

    read_right : (answer : Result Seen StoreRefused) (x : Handling) → Contains (replicas_in c.assigned r.partition) r.number.instance
        → after_read c r now what answer ≡ Some x → IsRight x
    read_right (Ok w) x there is = made _ x is (node_right w.version w.node there)
    read_right (Err NoNode) x there is = made _ x is (failed_fits r.offset r.kind _)
    read_right (Err (Exists found)) x there is = made _ x is (failed_fits r.offset r.kind _)
    read_right (Err (VersionChanged expected found)) x there is = made _ x is (failed_fits r.offset r.kind _)
    read_right (Err Failed) x there is = made _ x is (failed_fits r.offset r.kind _)
    read_right (Err Memory) x there is = absurd (none-some x is)

  upload_fits : (path bytes shown : List ℕ) → r.kind ≡ kind.Upload path bytes → Fits r.offset r.kind (status.UploadSuccess shown)
  upload_fits path bytes shown is = subst (λ (k : RequestKind). Fits r.offset k (status.UploadSuccess shown)) (sym is) tt

  put_right : (path bytes : List ℕ) (answer : Result (Unit {0}) DeepRefused) (x : Handling) → r.kind ≡ kind.Upload path bytes
      → after_put c r path answer ≡ Some x → IsRight x
  put_right path bytes (Ok u) x named is = made _ x is (upload_fits path bytes path named)
  put_right path bytes (Err deep.Absent) x named is = made _ x is (failed_fits r.offset r.kind _)
  put_right path bytes (Err (deep.OtherBytes kept offered)) x named is = made _ x is (failed_fits r.offset r.kind _)
  put_right path bytes (Err deep.Failed) x named is = made _ x is (failed_fits r.offset r.kind _)
  put_right path bytes (Err deep.Memory) x named is = absurd (none-some x is)

  module _ (there : (m : SegmentMachine) → Has c.machines m → m.partition ≡ r.partition → Contains (instances m.machine.reporters) r.number.instance)
      (own : Contains (replicas_in c.assigned r.partition) r.number.instance) where
    found_there : (what : Ask) (place : ℕ) → machine_place c.machines r.partition r.sequence ≡ Some place → (m : SegmentMachine)
        → slice_get c.machines place ≡ Some m → Contains (instances m.machine.reporters) r.number.instance
    found_there what place found m at =
        there m (place-Has c.machines place m at) (its_machine c.machines r.partition r.sequence place m found at).0

    pub rule_right : (s t : Meaning) (d e : DeepMeaning) (rule : Rule) (x : Handling) → Tells c r rule
        → Makes s t d e (call_of r rule) (λ answer. handled_at c r now rule answer ≡ Some x) → IsRight x
    rule_right s t d e not_leading x told m = made _ x m.2 (not_leader_fits r.offset r.kind)
    rule_right s t d e (uploads path bytes) x told (answer, put, same, is) = put_right path bytes answer x told is
    rule_right s t d e not_assigned x told m = made _ x m.2 (failed_fits r.offset r.kind _)
    rule_right s t d e past_last x told m = made _ x m.2 (hold_fits r.offset r.kind)
    rule_right s t d e (has_machine place what) x told m =
        machine_right what told.2 place (slice_get c.machines place) x (λ g at. found_there what place told.1 g at) m.2
    rule_right s t d e (has_none what) x told (answer, read, same, is) = read_right what told.2 answer x own is

    -- so is the answer to the request, or the job that it starts
    pub hands_out : (s t : Meaning) (d e : DeepMeaning) (new : Controlling) (given : Handled) → Handles {E = Unit {0}} s t d e c r now new (Ok given)
        → HandsOut c r new given
    hands_out s t d e new given h = rule_right s t d e (turn_of c r) (record { controller = new; handled = given }) (told_turn c r) h
