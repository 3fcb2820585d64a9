-- A commit job starts at the timely CommitEnd of its committer alone.
use Rattle.std.proofs.Common.{◌≡◌, ◌<◌, ℕ, Bool, false, ◌==◌, nat_lt, cond, refl, ap, subst}
use Rattle.rt_base.specs.declared.numbers.Instance.{Instance}
use Rattle.rt_base.specs.declared.numbers.Offset.{Offset}
use Rattle.rt_base.specs.declared.numbers.Moment.{Moment}
use Rattle.rt_model.specs.declared.request.Reason.{Reason}
use Rattle.rt_model.specs.declared.machine_state.MachineState.{MachineState}
use Rattle.rt_model.specs.declared.machine_state.MachineState.TheVariants.{PartialConsuming, Holding, CommitterDecided, CommitterNotified, CommitterUploading, Committing, Committed, Aborted}
use Rattle.rt_model.specs.declared.completion.Ask.{Ask}
use Rattle.rt_model.specs.declared.completion.Ask.TheVariants.{Consumed, CommitStart, CommitEnd, Stopped, Extend}
use Rattle.rt_model.specs.declared.completion.Reaction.{Reaction}
use Rattle.rt_model.specs.declared.completion.Reaction.TheVariants.{Answer, StartOffline}
use Rattle.rt_model.specs.declared.completion.Said.{Said}
use Rattle.rt_model.specs.Completion.{Completion, react, is_late, by_table, asked_offset, consumed_in, commit_start_in, commit_end_in, stopped_in, extend_in, gathers, decided, picks, with_pick, with_note, catches_up, loses, goes}
use Rattle.rt_fsm.specs.Laws.{StartsAlone}
use Rattle.rt_fsm.proofs.Job.{in_time}
use Rattle.rt_fsm.proofs.Table.{by_test, by_react, same_instance, same_offset, IsPastStart}

-- as a record, so that its arguments are found
record Alone (m : Completion) (i : Instance) (ask : Ask) (now : Moment) (y : Reaction × Completion) : Type 0 where
  holds : StartsAlone m i ask now y.0 y.1

module _ (m : Completion) (i : Instance) (ask : Ask) (now : Moment) where
  abbrev Is : Reaction × Completion → Type 0
  Is = Alone m i ask now

  either : (b : Bool) (x y : Reaction × Completion) → Is x → Is y → Is (cond b x y)
  either b x y p q = by_test Is b x y (λ _. p) (λ _. q)

  -- an answer and an offline job start no commit job
  says : (said : Said) (n : Completion) → Is (Answer said, n)
  says said n = record { holds = tt }

  offline : (n : Completion) → Is (StartOffline, n)
  offline n = record { holds = tt }

  catching_up : (k : Completion) (x : Offset) → Is (catches_up k x)
  catching_up k x = either (nat_lt x.0 k.offset.0) _ _ (says _ k) (says _ k)

  deciding : (n : Completion) (x : Offset) → Is (decided n i x)
  deciding n x =
      either (i.0 == n.winner.0) _ _ (says _ (goes n CommitterNotified))
      (either (x.0 == n.offset.0) _ _ (says _ (goes n CommitterDecided)) (says _ (goes n CommitterDecided)))

  gathering : (n : Completion) (x : Offset) (r : Reason) → Is (gathers n i x r now)
  gathering n x r = either (picks n i r now) _ _ (deciding (with_pick n i x now) x) (says _ (goes n Holding))

  losing : Is (loses m i)
  losing = either (i.0 == m.winner.0) _ _ (offline (goes m Aborted)) (offline m)

  consumed : (s : MachineState) (x : Offset) (r : Reason) → Is (consumed_in s m i x r now)
  consumed PartialConsuming x r = gathering (with_note m i x) x r
  consumed Holding x r = gathering (with_note m i x) x r
  consumed CommitterDecided x r =
      either (nat_lt m.offset.0 x.0) _ _ (says _ (goes m Aborted))
      (either _ _ _ (says _ (goes m CommitterNotified)) (catching_up m x))
  consumed CommitterNotified x r =
      either (nat_lt m.offset.0 x.0) _ _ (says _ (goes m Aborted))
      (either (i.0 == m.winner.0) _ _ (either (x.0 == m.offset.0) _ _ (says _ m) (says _ (goes m Aborted))) (catching_up m x))
  consumed CommitterUploading x r = either (i.0 == m.winner.0) _ _ (says _ (goes m Aborted)) (catching_up m x)
  consumed Committing x r = catching_up m x
  consumed Committed x r = says _ m
  consumed Aborted x r = says _ m

  commit_start : (s : MachineState) (x : Offset) → Is (commit_start_in s m i x)
  commit_start PartialConsuming x = says _ m
  commit_start Holding x = says _ m
  commit_start CommitterDecided x = says _ m
  commit_start CommitterNotified x =
      either (i.0 == m.winner.0) _ _ (either (x.0 == m.offset.0) _ _ (says _ (goes m CommitterUploading)) (says _ (goes m Aborted))) (says _ m)
  commit_start CommitterUploading x = says _ m
  commit_start Committing x = says _ m
  commit_start Committed x = says _ m
  commit_start Aborted x = says _ m

  stopped : (s : MachineState) → Is (stopped_in s m i)
  stopped PartialConsuming = offline _
  stopped Holding = offline _
  stopped CommitterDecided = losing
  stopped CommitterNotified = losing
  stopped CommitterUploading = losing
  stopped Committing = offline m
  stopped Committed = says _ m
  stopped Aborted = says _ m

  extend : (s : MachineState) (millis : ℕ) → Is (extend_in s m i millis now)
  extend PartialConsuming millis = says _ m
  extend Holding millis = says _ m
  extend CommitterDecided millis = says _ m
  extend CommitterNotified millis = either (i.0 == m.winner.0) _ _ (says _ _) (says _ m)
  extend CommitterUploading millis = says _ m
  extend Committing millis = says _ m
  extend Committed millis = says _ m
  extend Aborted millis = says _ m

-- the one place in the table
commit_end : (s : MachineState) (m : Completion) (i : Instance) (x : Offset) (now : Moment) → m.state ≡ s → is_late m now ≡ false
    → m.seen.meta.start.0 < x.0 → Alone m i (CommitEnd x) now (commit_end_in s m i x)
commit_end PartialConsuming m i x now e late past = says m i (CommitEnd x) now _ m
commit_end Holding m i x now e late past = says m i (CommitEnd x) now _ m
commit_end CommitterDecided m i x now e late past = says m i (CommitEnd x) now _ m
commit_end CommitterNotified m i x now e late past = says m i (CommitEnd x) now _ m
commit_end CommitterUploading m i x now e late past =
    by_test (Alone m i (CommitEnd x) now) (i.0 == m.winner.0) _ _
    (λ is_winner.
    by_test (Alone m i (CommitEnd x) now) (x.0 == m.offset.0) _ _
    (λ is_at.
    let at = same_offset x m.offset is_at in
    record {
      holds = record {
        uploading = e;
        winner = same_instance i m.winner is_winner;
        offset = refl;
        asks = ap CommitEnd at;
        past = subst (λ (y : Offset). m.seen.meta.start.0 < y.0) at past;
        time = in_time m now e late;
        after = refl;
      };
    })
    (λ _. says m i (CommitEnd x) now _ (goes m Aborted)))
    (λ _. says m i (CommitEnd x) now _ m)
commit_end Committing m i x now e late past = says m i (CommitEnd x) now _ m
commit_end Committed m i x now e late past = says m i (CommitEnd x) now _ m
commit_end Aborted m i x now e late past = says m i (CommitEnd x) now _ m

by_ask : (m : Completion) (i : Instance) (ask : Ask) (now : Moment) → is_late m now ≡ false → IsPastStart m (asked_offset ask)
    → Alone m i ask now (by_table m i ask now)
by_ask m i (Consumed x r) now late past = consumed m i (Consumed x r) now m.state x r
by_ask m i (CommitStart x) now late past = commit_start m i (CommitStart x) now m.state x
by_ask m i (CommitEnd x) now late past = commit_end m.state m i x now refl late past
by_ask m i Stopped now late past = stopped m i Stopped now m.state
by_ask m i (Extend millis) now late past = extend m i (Extend millis) now m.state millis

pub starts_alone : (m : Completion) (i : Instance) (ask : Ask) (now : Moment)
    → StartsAlone m i ask now (react m i ask now).0 (react m i ask now).1
starts_alone m i ask now =
    (by_react (Alone m i ask now) m i ask now (λ _. says m i ask now _ (goes m Aborted)) (λ x kept. says m i ask now _ m) (by_ask m i ask now)).holds
