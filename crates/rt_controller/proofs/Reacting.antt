-- What a machine's reaction shows: it keeps what it read, a commit job is past its start, and its failures are its own.
use Rattle.std.proofs.Common.{◌≡◌, ℕ, ◌<◌, Bool, cond, ◌&&◌, ◌==◌, nat_lt, refl, subst}
use Rattle.rt_base.specs.declared.numbers.Instance.{Instance}
use Rattle.rt_base.specs.declared.numbers.Moment.{Moment}
use Rattle.rt_base.specs.declared.numbers.Offset.{Offset}
use Rattle.rt_model.specs.declared.completion.Ask.{Ask}
use Rattle.rt_model.specs.declared.completion.Ask.TheVariants.{Consumed, CommitStart, CommitEnd, Stopped, Extend}
use Rattle.rt_model.specs.declared.completion.Reaction.{Reaction}
use Rattle.rt_model.specs.declared.completion.Reaction.TheVariants.{Answer, StartCommit, StartOffline}
use Rattle.rt_model.specs.declared.completion.Said.{Said}
use Rattle.rt_model.specs.declared.completion.Said.TheVariants as said
use Rattle.rt_model.specs.declared.machine_state.MachineState.{MachineState}
use Rattle.rt_model.specs.declared.machine_state.MachineState.TheVariants.{PartialConsuming, Holding, CommitterDecided, CommitterNotified, CommitterUploading, Committing, Committed, Aborted}
use Rattle.rt_model.specs.declared.reply.FailCause.{FailCause}
use Rattle.rt_model.specs.declared.reply.FailCause.TheVariants as cause
use Rattle.rt_model.specs.declared.request.Reason.{Reason}
use Rattle.rt_model.specs.Completion.{Completion, react, consumed_in, commit_start_in, commit_end_in, stopped_in, extend_in, gathers, decided, picks, with_pick, with_note, catches_up, loses, goes}
use Rattle.rt_fsm.proofs.Table.{by_test, by_react, same_offset}

-- the causes that a machine gives
abbrev pub IsOwnCause : FailCause → Type 0
IsOwnCause (cause.WrongState s) = Unit {0}
IsOwnCause (cause.WrongOffset x o) = Unit {0}
IsOwnCause (cause.NotCommitter i) = Unit {0}
IsOwnCause cause.NoSegment = ⊥
IsOwnCause (cause.VersionChanged expected found) = ⊥
IsOwnCause cause.StoreFault = ⊥
IsOwnCause (cause.BadUpload wanted found) = ⊥
IsOwnCause (cause.IdealChanged versions) = ⊥
IsOwnCause cause.NotReplica = ⊥

abbrev pub IsOwnSaid : Said → Type 0
IsOwnSaid said.Hold = Unit {0}
IsOwnSaid (said.CatchUp x) = Unit {0}
IsOwnSaid (said.Commit x) = Unit {0}
IsOwnSaid said.CommitContinue = Unit {0}
IsOwnSaid said.Processed = Unit {0}
IsOwnSaid (said.Failed because) = IsOwnCause because

-- an answer is the machine's own, and a commit job ends past the segment's start
abbrev pub IsOwn : Completion → Reaction → Type 0
IsOwn m (Answer what) = IsOwnSaid what
IsOwn m (StartCommit x) = m.seen.meta.start.0 < x.0
IsOwn m StartOffline = Unit {0}

pub record Owns (m : Completion) (y : Reaction × Completion) : Type 0 where
  pub own : IsOwn m y.0
  pub seen : y.1.seen ≡ m.seen

either : (m : Completion) (b : Bool) (x y : Reaction × Completion) → Owns m x → Owns m y → Owns m (cond b x y)
either m b x y p q = by_test (Owns m) b x y (λ _. p) (λ _. q)

says : (m : Completion) (what : Said) (n : Completion) → IsOwnSaid what → n.seen ≡ m.seen → Owns m (Answer what, n)
says m what n own seen = record { own = own; seen = seen }

offline : (m n : Completion) → n.seen ≡ m.seen → Owns m (StartOffline, n)
offline m n seen = record { own = tt; seen = seen }

catching_up : (m : Completion) (x : Offset) → Owns m (catches_up m x)
catching_up m x = either m (nat_lt x.0 m.offset.0) _ _ (says m (said.CatchUp m.offset) m tt refl) (says m said.Hold m tt refl)

deciding : (m n : Completion) (i : Instance) (x : Offset) → n.seen ≡ m.seen → Owns m (decided n i x)
deciding m n i x e =
    either m (i.0 == n.winner.0) (Answer (said.Commit n.offset), goes n CommitterNotified) _
    (says m (said.Commit n.offset) (goes n CommitterNotified) tt e)
    (either m (x.0 == n.offset.0) (Answer said.Hold, goes n CommitterDecided) (Answer (said.CatchUp n.offset), goes n CommitterDecided)
    (says m said.Hold (goes n CommitterDecided) tt e) (says m (said.CatchUp n.offset) (goes n CommitterDecided) tt e))

gathering : (m n : Completion) (i : Instance) (x : Offset) (r : Reason) (now : Moment) → n.seen ≡ m.seen → Owns m (gathers n i x r now)
gathering m n i x r now e =
    either m (picks n i r now) (decided (with_pick n i x now) i x) (Answer said.Hold, goes n Holding)
    (deciding m (with_pick n i x now) i x e) (says m said.Hold (goes n Holding) tt e)

holds : (m : Completion) → Owns m (Answer said.Hold, m)
holds m = says m said.Hold m tt refl

aborting : (m : Completion) → Owns m (Answer said.Hold, goes m Aborted)
aborting m = says m said.Hold (goes m Aborted) tt refl

wrong : (m : Completion) → Owns m (Answer (said.Failed (cause.WrongState m.state)), m)
wrong m = says m (said.Failed (cause.WrongState m.state)) m tt refl

wrongs : (m : Completion) (x : Offset) → Owns m (Answer (said.Failed (cause.WrongOffset x m.offset)), goes m Aborted)
wrongs m x = says m (said.Failed (cause.WrongOffset x m.offset)) (goes m Aborted) tt refl

other : (m : Completion) → Owns m (Answer (said.Failed (cause.NotCommitter m.winner)), m)
other m = says m (said.Failed (cause.NotCommitter m.winner)) m tt refl

consumed : (s : MachineState) (m : Completion) (i : Instance) (x : Offset) (r : Reason) (now : Moment) → Owns m (consumed_in s m i x r now)
consumed PartialConsuming m i x r now = gathering m (with_note m i x) i x r now refl
consumed Holding m i x r now = gathering m (with_note m i x) i x r now refl
consumed CommitterDecided m i x r now =
    either m (nat_lt m.offset.0 x.0) _ _ (aborting m)
    (either m ((i.0 == m.winner.0) && (x.0 == m.offset.0)) _ _
    (says m (said.Commit m.offset) (goes m CommitterNotified) tt refl) (catching_up m x))
consumed CommitterNotified m i x r now =
    either m (nat_lt m.offset.0 x.0) _ _ (aborting m)
    (either m (i.0 == m.winner.0) _ _
    (either m (x.0 == m.offset.0) _ _ (says m (said.Commit m.offset) m tt refl) (aborting m)) (catching_up m x))
consumed CommitterUploading m i x r now = either m (i.0 == m.winner.0) _ _ (aborting m) (catching_up m x)
consumed Committing m i x r now = catching_up m x
consumed Committed m i x r now = wrong m
consumed Aborted m i x r now = wrong m

commit_start : (s : MachineState) (m : Completion) (i : Instance) (x : Offset) → Owns m (commit_start_in s m i x)
commit_start PartialConsuming m i x = holds m
commit_start Holding m i x = holds m
commit_start CommitterDecided m i x = holds m
commit_start CommitterNotified m i x =
    either m (i.0 == m.winner.0) _ _
    (either m (x.0 == m.offset.0) _ _ (says m said.CommitContinue (goes m CommitterUploading) tt refl) (wrongs m x)) (holds m)
commit_start CommitterUploading m i x = holds m
commit_start Committing m i x = holds m
commit_start Committed m i x = wrong m
commit_start Aborted m i x = wrong m

-- a commit job starts at the committer's own offset, which passed the test against the start
commit_end : (s : MachineState) (m : Completion) (i : Instance) (x : Offset) → m.seen.meta.start.0 < x.0 → Owns m (commit_end_in s m i x)
commit_end PartialConsuming m i x past = wrong m
commit_end Holding m i x past = wrong m
commit_end CommitterDecided m i x past = wrong m
commit_end CommitterNotified m i x past = wrong m
commit_end CommitterUploading m i x past =
    either m (i.0 == m.winner.0) _ _
    (by_test (Owns m) (x.0 == m.offset.0) _ _
    (λ e. record { own = subst (λ (o : Offset). m.seen.meta.start.0 < o.0) (same_offset x m.offset e) past; seen = refl })
    (λ _. wrongs m x))
    (other m)
commit_end Committing m i x past = wrong m
commit_end Committed m i x past = wrong m
commit_end Aborted m i x past = wrong m

losing : (m : Completion) (i : Instance) → Owns m (loses m i)
losing m i = either m (i.0 == m.winner.0) _ _ (offline m (goes m Aborted) refl) (offline m m refl)

stopped : (s : MachineState) (m : Completion) (i : Instance) → Owns m (stopped_in s m i)
stopped PartialConsuming m i = offline m _ refl
stopped Holding m i = offline m _ refl
stopped CommitterDecided m i = losing m i
stopped CommitterNotified m i = losing m i
stopped CommitterUploading m i = losing m i
stopped Committing m i = offline m m refl
stopped Committed m i = wrong m
stopped Aborted m i = wrong m

extend : (s : MachineState) (m : Completion) (i : Instance) (millis : ℕ) (now : Moment) → Owns m (extend_in s m i millis now)
extend PartialConsuming m i millis now = wrong m
extend Holding m i millis now = wrong m
extend CommitterDecided m i millis now = wrong m
extend CommitterNotified m i millis now = either m (i.0 == m.winner.0) _ _ (says m said.Processed _ tt refl) (other m)
extend CommitterUploading m i millis now = wrong m
extend Committing m i millis now = wrong m
extend Committed m i millis now = wrong m
extend Aborted m i millis now = wrong m

pub owned : (m : Completion) (i : Instance) (ask : Ask) (now : Moment) → Owns m (react m i ask now)
owned m i (Consumed x r) now =
    by_react (Owns m) m i (Consumed x r) now (λ _. aborting m) (λ y kept. says m (said.Failed (cause.WrongOffset y kept)) m tt refl)
    (λ _ past. consumed m.state m i x r now)
owned m i (CommitStart x) now =
    by_react (Owns m) m i (CommitStart x) now (λ _. aborting m) (λ y kept. says m (said.Failed (cause.WrongOffset y kept)) m tt refl)
    (λ _ past. commit_start m.state m i x)
owned m i (CommitEnd x) now =
    by_react (Owns m) m i (CommitEnd x) now (λ _. aborting m) (λ y kept. says m (said.Failed (cause.WrongOffset y kept)) m tt refl)
    (λ _ past. commit_end m.state m i x past)
owned m i Stopped now =
    by_react (Owns m) m i Stopped now (λ _. aborting m) (λ y kept. says m (said.Failed (cause.WrongOffset y kept)) m tt refl)
    (λ _ past. stopped m.state m i)
owned m i (Extend millis) now =
    by_react (Owns m) m i (Extend millis) now (λ _. aborting m) (λ y kept. says m (said.Failed (cause.WrongOffset y kept)) m tt refl)
    (λ _ past. extend m.state m i millis now)
