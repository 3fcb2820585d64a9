-- A machine becomes COMMITTING where its commit job starts, and stays so.
use Rattle.std.proofs.Common.{◌≡◌, ℕ, Bool, true, cond, ◌&&◌, ◌==◌, nat_lt, Some, None, refl, sym, ◌∙◌, ap}
use Rattle.std.proofs.lemmas.Bool.{and_parts}
use Rattle.rt_base.specs.declared.numbers.Instance.{Instance}
use Rattle.rt_base.specs.declared.numbers.Moment.{Moment}
use Rattle.rt_base.specs.declared.numbers.Offset.{Offset}
use Rattle.rt_model.specs.declared.completion.Ask.{Ask}
use Rattle.rt_model.specs.declared.completion.Ask.TheVariants.{Consumed, CommitStart, CommitEnd, Stopped, Extend}
use Rattle.rt_model.specs.declared.completion.Reaction.{Reaction}
use Rattle.rt_model.specs.declared.completion.Reaction.TheVariants.{Answer, StartCommit, StartOffline}
use Rattle.rt_model.specs.declared.completion.Said.{Said}
use Rattle.rt_model.specs.declared.completion.Said.TheVariants as said
use Rattle.rt_model.specs.declared.machine_state.MachineState.{MachineState}
use Rattle.rt_model.specs.declared.machine_state.MachineState.TheVariants.{PartialConsuming, Holding, CommitterDecided, CommitterNotified, CommitterUploading, Committing, Committed, Aborted}
use Rattle.rt_model.specs.declared.reply.FailCause.TheVariants as cause
use Rattle.rt_model.specs.declared.request.Reason.{Reason}
use Rattle.rt_model.specs.Completion.{Completion, react, has_deadline, consumed_in, commit_start_in, commit_end_in, stopped_in, extend_in, gathers, decided, picks, with_pick, with_note, catches_up, loses, goes}
use Rattle.rt_fsm.proofs.Table.{by_test, by_react, same_offset}
use Rattle.rt_controller.specs.Lasting.{end_at, machine_end}

-- where a commit job starts, at a CommitEnd, the machine becomes COMMITTING up to that offset; else what it commits stays
abbrev pub TurnsTo : Completion → Ask → Completion → Reaction → Type 0
TurnsTo m ask n (Answer what) = machine_end n ≡ machine_end m
TurnsTo m ask n (StartCommit x) = (machine_end m ≡ None) × (machine_end n ≡ Some x) × (ask ≡ CommitEnd x)
TurnsTo m ask n StartOffline = machine_end n ≡ machine_end m

pub record Turns (m : Completion) (ask : Ask) (y : Reaction × Completion) : Type 0 where
  pub turns : TurnsTo m ask y.1 y.0

-- ---- a machine that isn't COMMITTING

abbrev IsQuiet : MachineState → Type 0
IsQuiet PartialConsuming = Unit {0}
IsQuiet Holding = Unit {0}
IsQuiet CommitterDecided = Unit {0}
IsQuiet CommitterNotified = Unit {0}
IsQuiet CommitterUploading = Unit {0}
IsQuiet Committing = ⊥
IsQuiet Committed = Unit {0}
IsQuiet Aborted = Unit {0}

quiet_end : (s : MachineState) (x : Offset) → IsQuiet s → end_at s x ≡ None
quiet_end PartialConsuming x q = refl
quiet_end Holding x q = refl
quiet_end CommitterDecided x q = refl
quiet_end CommitterNotified x q = refl
quiet_end CommitterUploading x q = refl
quiet_end Committing x q = absurd q
quiet_end Committed x q = refl
quiet_end Aborted x q = refl

no_end : (m : Completion) (s : MachineState) → m.state ≡ s → IsQuiet s → machine_end m ≡ None
no_end m s e q = ap (λ t. end_at t m.offset) e ∙ quiet_end s m.offset q

late_quiet : (s : MachineState) → has_deadline s ≡ true → IsQuiet s
late_quiet PartialConsuming e = tt
late_quiet Holding e = tt
late_quiet CommitterDecided e = tt
late_quiet CommitterNotified e = tt
late_quiet CommitterUploading e = tt
late_quiet Committing e = absurd (cc)
late_quiet Committed e = tt
late_quiet Aborted e = tt

-- ---- the ways in which it turns

either : (m : Completion) (ask : Ask) (b : Bool) (x y : Reaction × Completion) → Turns m ask x → Turns m ask y → Turns m ask (cond b x y)
either m ask b x y p q = by_test (Turns m ask) b x y (λ _. p) (λ _. q)

stays : (m : Completion) (ask : Ask) (what : Said) → Turns m ask (Answer what, m)
stays m ask what = record { turns = refl }

moves : (m n : Completion) (ask : Ask) (what : Said) → machine_end m ≡ None → machine_end n ≡ None → Turns m ask (Answer what, n)
moves m n ask what e f = record { turns = f ∙ sym e }

catching_up : (m : Completion) (ask : Ask) (x : Offset) → Turns m ask (catches_up m x)
catching_up m ask x = either m ask (nat_lt x.0 m.offset.0) _ _ (stays m ask (said.CatchUp m.offset)) (stays m ask said.Hold)

deciding : (m n : Completion) (ask : Ask) (i : Instance) (x : Offset) → machine_end m ≡ None → Turns m ask (decided n i x)
deciding m n ask i x e =
    either m ask (i.0 == n.winner.0) (Answer (said.Commit n.offset), goes n CommitterNotified) _
    (moves m (goes n CommitterNotified) ask (said.Commit n.offset) e refl)
    (either m ask (x.0 == n.offset.0) (Answer said.Hold, goes n CommitterDecided) (Answer (said.CatchUp n.offset), goes n CommitterDecided)
    (moves m (goes n CommitterDecided) ask said.Hold e refl) (moves m (goes n CommitterDecided) ask (said.CatchUp n.offset) e refl))

gathering : (m n : Completion) (ask : Ask) (i : Instance) (x : Offset) (r : Reason) (now : Moment) → machine_end m ≡ None
    → Turns m ask (gathers n i x r now)
gathering m n ask i x r now e =
    either m ask (picks n i r now) (decided (with_pick n i x now) i x) (Answer said.Hold, goes n Holding)
    (deciding m (with_pick n i x now) ask i x e) (moves m (goes n Holding) ask said.Hold e refl)

aborting : (m : Completion) (ask : Ask) (what : Said) (s : MachineState) → m.state ≡ s → IsQuiet s → Turns m ask (Answer what, goes m Aborted)
aborting m ask what s e q = moves m (goes m Aborted) ask what (no_end m s e q) refl

losing : (m : Completion) (ask : Ask) (i : Instance) (s : MachineState) → m.state ≡ s → IsQuiet s → Turns m ask (loses m i)
losing m ask i s e q =
    either m ask (i.0 == m.winner.0) (StartOffline, goes m Aborted) (StartOffline, m)
    (record { turns = sym (no_end m s e q) }) (record { turns = refl })

wrong : (m : Completion) (ask : Ask) → Turns m ask (Answer (said.Failed (cause.WrongState m.state)), m)
wrong m ask = stays m ask (said.Failed (cause.WrongState m.state))

-- ---- the table

consumed : (s : MachineState) (m : Completion) (i : Instance) (x : Offset) (r : Reason) (now : Moment) → m.state ≡ s
    → Turns m (Consumed x r) (consumed_in s m i x r now)
consumed PartialConsuming m i x r now e = gathering m (with_note m i x) (Consumed x r) i x r now (no_end m PartialConsuming e tt)
consumed Holding m i x r now e = gathering m (with_note m i x) (Consumed x r) i x r now (no_end m Holding e tt)
consumed CommitterDecided m i x r now e =
    either m (Consumed x r) (nat_lt m.offset.0 x.0) _ _ (aborting m (Consumed x r) said.Hold CommitterDecided e tt)
    (either m (Consumed x r) ((i.0 == m.winner.0) && (x.0 == m.offset.0)) _ _
    (moves m (goes m CommitterNotified) (Consumed x r) (said.Commit m.offset) (no_end m CommitterDecided e tt) refl)
    (catching_up m (Consumed x r) x))
consumed CommitterNotified m i x r now e =
    either m (Consumed x r) (nat_lt m.offset.0 x.0) _ _ (aborting m (Consumed x r) said.Hold CommitterNotified e tt)
    (either m (Consumed x r) (i.0 == m.winner.0) _ _
    (either m (Consumed x r) (x.0 == m.offset.0) _ _ (stays m (Consumed x r) (said.Commit m.offset))
    (aborting m (Consumed x r) said.Hold CommitterNotified e tt))
    (catching_up m (Consumed x r) x))
consumed CommitterUploading m i x r now e =
    either m (Consumed x r) (i.0 == m.winner.0) _ _ (aborting m (Consumed x r) said.Hold CommitterUploading e tt)
    (catching_up m (Consumed x r) x)
consumed Committing m i x r now e = catching_up m (Consumed x r) x
consumed Committed m i x r now e = wrong m (Consumed x r)
consumed Aborted m i x r now e = wrong m (Consumed x r)

commit_start : (s : MachineState) (m : Completion) (i : Instance) (x : Offset) → m.state ≡ s → Turns m (CommitStart x) (commit_start_in s m i x)
commit_start PartialConsuming m i x e = stays m (CommitStart x) said.Hold
commit_start Holding m i x e = stays m (CommitStart x) said.Hold
commit_start CommitterDecided m i x e = stays m (CommitStart x) said.Hold
commit_start CommitterNotified m i x e =
    either m (CommitStart x) (i.0 == m.winner.0) _ _
    (either m (CommitStart x) (x.0 == m.offset.0) _ _
    (moves m (goes m CommitterUploading) (CommitStart x) said.CommitContinue (no_end m CommitterNotified e tt) refl)
    (aborting m (CommitStart x) (said.Failed (cause.WrongOffset x m.offset)) CommitterNotified e tt))
    (stays m (CommitStart x) said.Hold)
commit_start CommitterUploading m i x e = stays m (CommitStart x) said.Hold
commit_start Committing m i x e = stays m (CommitStart x) said.Hold
commit_start Committed m i x e = wrong m (CommitStart x)
commit_start Aborted m i x e = wrong m (CommitStart x)

commit_end : (s : MachineState) (m : Completion) (i : Instance) (x : Offset) → m.state ≡ s → Turns m (CommitEnd x) (commit_end_in s m i x)
commit_end PartialConsuming m i x e = wrong m (CommitEnd x)
commit_end Holding m i x e = wrong m (CommitEnd x)
commit_end CommitterDecided m i x e = wrong m (CommitEnd x)
commit_end CommitterNotified m i x e = wrong m (CommitEnd x)
commit_end CommitterUploading m i x e =
    either m (CommitEnd x) (i.0 == m.winner.0) _ _
    (by_test (Turns m (CommitEnd x)) (x.0 == m.offset.0) _ _
    (λ same. record { turns = (no_end m CommitterUploading e tt, refl, ap CommitEnd (same_offset x m.offset same)) })
    (λ _. aborting m (CommitEnd x) (said.Failed (cause.WrongOffset x m.offset)) CommitterUploading e tt))
    (stays m (CommitEnd x) (said.Failed (cause.NotCommitter m.winner)))
commit_end Committing m i x e = wrong m (CommitEnd x)
commit_end Committed m i x e = wrong m (CommitEnd x)
commit_end Aborted m i x e = wrong m (CommitEnd x)

stopped : (s : MachineState) (m : Completion) (i : Instance) → m.state ≡ s → Turns m Stopped (stopped_in s m i)
stopped PartialConsuming m i e = record { turns = refl }
stopped Holding m i e = record { turns = refl }
stopped CommitterDecided m i e = losing m Stopped i CommitterDecided e tt
stopped CommitterNotified m i e = losing m Stopped i CommitterNotified e tt
stopped CommitterUploading m i e = losing m Stopped i CommitterUploading e tt
stopped Committing m i e = record { turns = refl }
stopped Committed m i e = wrong m Stopped
stopped Aborted m i e = wrong m Stopped

extend : (s : MachineState) (m : Completion) (i : Instance) (millis : ℕ) (now : Moment) → Turns m (Extend millis) (extend_in s m i millis now)
extend PartialConsuming m i millis now = wrong m (Extend millis)
extend Holding m i millis now = wrong m (Extend millis)
extend CommitterDecided m i millis now = wrong m (Extend millis)
extend CommitterNotified m i millis now =
    either m (Extend millis) (i.0 == m.winner.0) _ _ (record { turns = refl }) (stays m (Extend millis) (said.Failed (cause.NotCommitter m.winner)))
extend CommitterUploading m i millis now = wrong m (Extend millis)
extend Committing m i millis now = wrong m (Extend millis)
extend Committed m i millis now = wrong m (Extend millis)
extend Aborted m i millis now = wrong m (Extend millis)

late : (m : Completion) (ask : Ask) (now : Moment) → (has_deadline m.state && nat_lt m.deadline.0 now.0) ≡ true
    → Turns m ask (Answer said.Hold, goes m Aborted)
late m ask now e =
    aborting m ask said.Hold m.state refl (late_quiet m.state (and_parts (has_deadline m.state) (nat_lt m.deadline.0 now.0) e).0)

refused : (m : Completion) (ask : Ask) (x kept : Offset) → Turns m ask (Answer (said.Failed (cause.WrongOffset x kept)), m)
refused m ask x kept = stays m ask (said.Failed (cause.WrongOffset x kept))

pub turned : (m : Completion) (i : Instance) (ask : Ask) (now : Moment) → Turns m ask (react m i ask now)
turned m i (Consumed x r) now =
    by_react (Turns m (Consumed x r)) m i (Consumed x r) now (late m (Consumed x r) now) (refused m (Consumed x r))
    (λ _ past. consumed m.state m i x r now refl)
turned m i (CommitStart x) now =
    by_react (Turns m (CommitStart x)) m i (CommitStart x) now (late m (CommitStart x) now) (refused m (CommitStart x))
    (λ _ past. commit_start m.state m i x refl)
turned m i (CommitEnd x) now =
    by_react (Turns m (CommitEnd x)) m i (CommitEnd x) now (late m (CommitEnd x) now) (refused m (CommitEnd x))
    (λ _ past. commit_end m.state m i x refl)
turned m i Stopped now =
    by_react (Turns m Stopped) m i Stopped now (late m Stopped now) (refused m Stopped)
    (λ _ past. stopped m.state m i refl)
turned m i (Extend millis) now =
    by_react (Turns m (Extend millis)) m i (Extend millis) now (late m (Extend millis) now) (refused m (Extend millis))
    (λ _ past. extend m.state m i millis now)
