-- No deadline is later than the longest time from now on.
use Rattle.std.proofs.Common.{ℕ, ◌+◌, ◌≤◌, ◌==◌, ◌&&◌, nat_lt, arith}
use Rattle.rt_base.specs.declared.numbers.Instance.{Instance}
use Rattle.rt_base.specs.declared.numbers.Moment.{Moment}
use Rattle.rt_base.specs.declared.numbers.Offset.{Offset}
use Rattle.rt_fsm.proofs.Table.{by_react, by_test}
use Rattle.rt_model.specs.Completion.{by_table, catches_up, commit_end_in, commit_start_in, consumed_in, decided, extend_in, gathers, longest_time, loses, picks, react, stopped_in, with_note, with_pick, Completion}
use Rattle.rt_model.specs.declared.completion.Ask.{Ask}
use Rattle.rt_model.specs.declared.completion.Ask.TheVariants as ask
use Rattle.rt_model.specs.declared.completion.Reaction.{Reaction}
use Rattle.rt_model.specs.declared.machine_state.MachineState.{MachineState}
use Rattle.rt_model.specs.declared.machine_state.MachineState.TheVariants as machine
use Rattle.rt_model.specs.declared.request.Reason.{Reason}

module _ (i : Instance) (now : Moment) where
  abbrev EndsInTime : Reaction × Completion → Type 0
  EndsInTime y = y.1.deadline.0 ≤ now.0 + longest_time

  picked_lasts : (n : Completion) (x : Offset) → EndsInTime (decided (with_pick n i x now) i x)
  picked_lasts n x =
      by_test EndsInTime (i.0 == (with_pick n i x now).winner.0) _ _ (λ e. soon)
      (λ e. by_test EndsInTime (x.0 == (with_pick n i x now).offset.0) _ _ (λ f. soon) (λ f. soon))
    where
      soon : (with_pick n i x now).deadline.0 ≤ now.0 + longest_time
      soon = omega (arith)

  gathered_lasts : (n : Completion) (x : Offset) (r : Reason) → n.deadline.0 ≤ now.0 + longest_time → EndsInTime (gathers n i x r now)
  gathered_lasts n x r bound = by_test EndsInTime (picks n i r now) _ _ (λ e. picked_lasts n x) (λ e. bound)

  module _ (m : Completion) (begun : m.made.0 ≤ now.0) (bound : m.deadline.0 ≤ now.0 + longest_time) where
    catches_lasts : (x : Offset) → EndsInTime (catches_up m x)
    catches_lasts x = by_test EndsInTime (nat_lt x.0 m.offset.0) _ _ (λ e. bound) (λ e. bound)

    consumed_lasts : (s : MachineState) (x : Offset) (r : Reason) → EndsInTime (consumed_in s m i x r now)
    consumed_lasts machine.PartialConsuming x r = gathered_lasts (with_note m i x) x r bound
    consumed_lasts machine.Holding x r = gathered_lasts (with_note m i x) x r bound
    consumed_lasts machine.CommitterDecided x r =
        by_test EndsInTime (nat_lt m.offset.0 x.0) _ _ (λ e. bound)
        (λ e. by_test EndsInTime ((i.0 == m.winner.0) && (x.0 == m.offset.0)) _ _ (λ f. bound) (λ f. catches_lasts x))
    consumed_lasts machine.CommitterNotified x r =
        by_test EndsInTime (nat_lt m.offset.0 x.0) _ _ (λ e. bound)
        (λ e. by_test EndsInTime (i.0 == m.winner.0) _ _
        (λ f. by_test EndsInTime (x.0 == m.offset.0) _ _ (λ g. bound) (λ g. bound)) (λ f. catches_lasts x))
    consumed_lasts machine.CommitterUploading x r = by_test EndsInTime (i.0 == m.winner.0) _ _ (λ e. bound) (λ e. catches_lasts x)
    consumed_lasts machine.Committing x r = catches_lasts x
    consumed_lasts machine.Committed x r = bound
    consumed_lasts machine.Aborted x r = bound

    start_lasts : (s : MachineState) (x : Offset) → EndsInTime (commit_start_in s m i x)
    start_lasts machine.CommitterNotified x =
        by_test EndsInTime (i.0 == m.winner.0) _ _ (λ e. by_test EndsInTime (x.0 == m.offset.0) _ _ (λ f. bound) (λ f. bound)) (λ e. bound)
    start_lasts machine.PartialConsuming x = bound
    start_lasts machine.Holding x = bound
    start_lasts machine.CommitterDecided x = bound
    start_lasts machine.CommitterUploading x = bound
    start_lasts machine.Committing x = bound
    start_lasts machine.Committed x = bound
    start_lasts machine.Aborted x = bound

    end_lasts : (s : MachineState) (x : Offset) → EndsInTime (commit_end_in s m i x)
    end_lasts machine.CommitterUploading x =
        by_test EndsInTime (i.0 == m.winner.0) _ _ (λ e. by_test EndsInTime (x.0 == m.offset.0) _ _ (λ f. bound) (λ f. bound)) (λ e. bound)
    end_lasts machine.PartialConsuming x = bound
    end_lasts machine.Holding x = bound
    end_lasts machine.CommitterDecided x = bound
    end_lasts machine.CommitterNotified x = bound
    end_lasts machine.Committing x = bound
    end_lasts machine.Committed x = bound
    end_lasts machine.Aborted x = bound

    loses_lasts : EndsInTime (loses m i)
    loses_lasts = by_test EndsInTime (i.0 == m.winner.0) _ _ (λ e. bound) (λ e. bound)

    stop_lasts : (s : MachineState) → EndsInTime (stopped_in s m i)
    stop_lasts machine.CommitterDecided = loses_lasts
    stop_lasts machine.CommitterNotified = loses_lasts
    stop_lasts machine.CommitterUploading = loses_lasts
    stop_lasts machine.PartialConsuming = bound
    stop_lasts machine.Holding = bound
    stop_lasts machine.Committing = bound
    stop_lasts machine.Committed = bound
    stop_lasts machine.Aborted = bound

    extend_lasts : (s : MachineState) (millis : ℕ) → EndsInTime (extend_in s m i millis now)
    extend_lasts machine.CommitterNotified millis = by_test EndsInTime (i.0 == m.winner.0) _ _ (λ e. omega (arith, begun)) (λ e. bound)
    extend_lasts machine.PartialConsuming millis = bound
    extend_lasts machine.Holding millis = bound
    extend_lasts machine.CommitterDecided millis = bound
    extend_lasts machine.CommitterUploading millis = bound
    extend_lasts machine.Committing millis = bound
    extend_lasts machine.Committed millis = bound
    extend_lasts machine.Aborted millis = bound

    table_lasts : (what : Ask) → EndsInTime (by_table m i what now)
    table_lasts (ask.Consumed x r) = consumed_lasts m.state x r
    table_lasts (ask.CommitStart x) = start_lasts m.state x
    table_lasts (ask.CommitEnd x) = end_lasts m.state x
    table_lasts ask.Stopped = stop_lasts m.state
    table_lasts (ask.Extend millis) = extend_lasts m.state millis

pub react_lasts : (m : Completion) (i : Instance) (what : Ask) (now : Moment) → m.made.0 ≤ now.0 → m.deadline.0 ≤ now.0 + longest_time
    → (react m i what now).1.deadline.0 ≤ now.0 + longest_time
react_lasts m i what now begun bound =
    by_react (EndsInTime i now) m i what now (λ late. bound) (λ x kept. bound) (λ early past. table_lasts i now m begun bound what)
