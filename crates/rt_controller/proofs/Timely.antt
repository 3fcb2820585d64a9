-- A CommitEnd in time starts the commit job of its segment.
use Rattle.std.proofs.Common.{◌≡◌, ℕ, ◌+◌, ◌<◌, false, cond, not, nat_le, List, [], ◌∷◌, ◌++◌, Option, Some, Ok, refl, sym, ◌∙◌, ap, subst}
use Rattle.std.specs.Prelude.{slice_get, slice_set}
use Rattle.std.proofs.lemmas.Bool.{lt-leb}
use Rattle.std.proofs.lemmas.Option.{same_Some}
use Rattle.rt_base.specs.declared.limits.TheConstants.{LAST_NUMBER}
use Rattle.rt_base.specs.declared.numbers.Instance.{Instance}
use Rattle.rt_base.specs.declared.numbers.Moment.{Moment}
use Rattle.rt_base.specs.declared.numbers.Offset.{Offset}
use Rattle.rt_base.specs.declared.numbers.Sequence.{Sequence}
use Rattle.rt_lists.specs.Members.{Has}
use Rattle.rt_lists.proofs.Lists.{All-found}
use Rattle.rt_lists.proofs.Members.{Has-push}
use Rattle.rt_model.specs.declared.completion.Ask.TheVariants as ask
use Rattle.rt_model.specs.declared.completion.Reaction.{Reaction}
use Rattle.rt_model.specs.declared.completion.Reaction.TheVariants as reaction
use Rattle.rt_model.specs.declared.machine_state.MachineState.TheVariants.{Committing}
use Rattle.rt_model.specs.declared.request.Request.{Request}
use Rattle.rt_model.specs.declared.request.RequestKind.{RequestKind}
use Rattle.rt_model.specs.declared.sent.Sent.TheVariants as sent
use Rattle.rt_model.specs.declared.setup.Setup.{Setup}
use Rattle.rt_model.specs.Completion.{Completion, goes, react}
use Rattle.rt_fsm.specs.Laws.{IsAfterPick}
use Rattle.rt_fsm.proofs.Offsets.{starts}
use Rattle.rt_past.specs.IsPast.{IsPast}
use Rattle.rt_past.specs.Past.{Past}
use Rattle.rt_store.specs.Meaning.{Meaning}
use Rattle.rt_commit.specs.Calls.{DeepMeaning}
use Rattle.rt_controller.specs.declared.handled.Handled.{Handled}
use Rattle.rt_controller.specs.declared.segment_machine.SegmentMachine.{SegmentMachine}
use Rattle.rt_controller.specs.Answers.{Handling, follows, follows_by, leads_to, named_in}
use Rattle.rt_controller.specs.Controller.{Controlling, machine_place, replaced, with_machine}
use Rattle.rt_controller.specs.Lasting.{IsControllerOver, IsMachineOver}
use Rattle.rt_controller.specs.Requests.{Turn, not_leading, not_assigned, past_last, has_machine, asked_turn, at_machine, by_place, kind_turn, turn_of}
use Rattle.rt_controller.specs.Right.{IsTimely, commit_job, commit_started, job_of, left_in, left_of}
use Rattle.rt_controller.specs.Steps.{Handles, HandlesAt}
use Rattle.rt_controller.proofs.JobsStay.{found_job}
use Rattle.rt_controller.proofs.KeepsRequests.{its_machine}
use Rattle.rt_controller.proofs.Numbered.{start_numbered}
use Rattle.rt_controller.proofs.Possible.{is_assigned}

module _ (setup : Setup) (past : Past) (k : IsPast setup past) (c : Controlling) (r : Request) (now : Moment) (path : List ℕ) (place : ℕ) (m : SegmentMachine)
    (has : Has past.sent (sent.Request r)) (i : IsControllerOver setup past c) (timely : IsTimely c r now path place m) where
  its : (m.partition ≡ r.partition) × (m.sequence ≡ r.sequence)
  its = its_machine c.machines r.partition r.sequence place m timely.found timely.there

  over : IsMachineOver setup past m
  over = All-found (IsMachineOver setup past) c.machines place m i.machines timely.there

  -- ---- the machine's turn

  small : nat_le LAST_NUMBER r.sequence.0 ≡ false
  small = lt-leb LAST_NUMBER r.sequence.0 (subst (λ (q : Sequence). q.0 < LAST_NUMBER) its.1 over.machine.small)

  asked : asked_turn c r (ask.CommitEnd r.offset) ≡ has_machine place (ask.CommitEnd r.offset)
  asked =
      let what = ask.CommitEnd r.offset in
      let rest = by_place (machine_place c.machines r.partition r.sequence) what in
      ap (λ b. cond (not b) not_assigned (cond (nat_le LAST_NUMBER r.sequence.0) past_last rest))
      (is_assigned setup past c r i.assigned (k.requests r has))
      ∙ ap (λ b. cond b past_last rest) small ∙ ap (λ o. by_place o what) timely.found

  turn : turn_of c r ≡ has_machine place (ask.CommitEnd r.offset)
  turn =
      ap (λ b. cond b (kind_turn c r r.kind) not_leading) timely.leads ∙ ap (kind_turn c r) timely.names ∙ asked

  -- ---- its reaction

  picked : IsAfterPick m.machine.state
  picked = subst IsAfterPick (sym timely.uploading) tt

  reacts : react m.machine r.number.instance (ask.CommitEnd r.offset) now ≡ (reaction.StartCommit m.machine.offset, goes m.machine Committing)
  reacts =
      ap (λ (w : Instance). react m.machine w (ask.CommitEnd r.offset) now) timely.winner
      ∙ ap (λ (x : Offset). react m.machine m.machine.winner (ask.CommitEnd x) now) timely.offset
      ∙ starts m.machine now (over.offsets.offset picked).0 timely.uploading timely.time

  abbrev Reacts : Type 0
  Reacts = Reaction × Completion

  abbrev after : Reacts → Handling
  after y = follows (record c { machines = replaced c.machines place (with_machine m y.1) }) r m.machine.seen y.0

  started : after (reaction.StartCommit m.machine.offset, goes m.machine Committing) ≡ commit_started c r path place m
  started =
      let ns = slice_set c.machines place (with_machine m (goes m.machine Committing)) in
      let P : RequestKind → Handling = λ q. follows_by (record c { machines = ns }) r
      (leads_to (named_in r m.machine.seen q) (reaction.StartCommit m.machine.offset)) in
      ap P timely.names

  abbrev some_handling : Handling → Option Handling
  some_handling x = Some x

  reacted : at_machine c r now place (ask.CommitEnd r.offset) (slice_get c.machines place) ≡ some_handling (commit_started c r path place m)
  reacted =
      ap (at_machine c r now place (ask.CommitEnd r.offset)) timely.there
      ∙ ap (λ (y : Reacts). some_handling (after y)) reacts ∙ ap some_handling started

  -- ---- the request

  pub timely_starts : (s t : Meaning) (d e : DeepMeaning) (new : Controlling) (what : Handled)
      → Handles {E = Unit {0}} s t d e c r now new (Ok what) → record { controller = new; handled = what } ≡ commit_started c r path place m
  timely_starts s t d e new what h =
      let H : Turn → Type 0 = λ x. HandlesAt {E = Unit {0}} s t d e c r now x new (Ok what) in
      let at = subst H turn h in
      same_Some _ _ (sym at.2 ∙ reacted)

  pub timely_job : job_of (commit_started c r path place m).controller c.started ≡ Some (commit_job c r path m)
  timely_job =
      let j = commit_job c r path m in
      found_job (c.jobs ++ j ∷ []) (c.started + 1) c.started j (start_numbered c.jobs c.started j refl i.numbered) (Has-push c.jobs j) refl

  -- it ends within 23 of its steps, since each leaves fewer
  pub timely_left : left_of (commit_started c r path place m).controller c.started ≡ 23
  timely_left = ap left_in timely_job
