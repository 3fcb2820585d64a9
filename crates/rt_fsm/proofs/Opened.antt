-- What a machine makes of a message before a pick: it stays as it is, notes an offset, excludes the sender, or picks.
use Rattle.std.proofs.Common.{◌≡◌, ℕ, ◌<◌, Bool, true, ◌&&◌, nat_lt, refl}
use Rattle.rt_base.specs.declared.numbers.Instance.{Instance}
use Rattle.rt_base.specs.declared.numbers.Offset.{Offset}
use Rattle.rt_base.specs.declared.numbers.Moment.{Moment}
use Rattle.rt_model.specs.declared.request.Reason.{Reason}
use Rattle.rt_model.specs.declared.machine_state.MachineState.{MachineState}
use Rattle.rt_model.specs.declared.machine_state.MachineState.TheVariants.{PartialConsuming, Holding, CommitterDecided, CommitterNotified, CommitterUploading, Committing, Committed, Aborted}
use Rattle.rt_model.specs.declared.reply.FailCause.TheVariants.{WrongState, WrongOffset}
use Rattle.rt_model.specs.declared.completion.Ask.{Ask}
use Rattle.rt_model.specs.declared.completion.Ask.TheVariants.{Consumed, CommitStart, CommitEnd, Stopped, Extend}
use Rattle.rt_model.specs.declared.completion.Said.{Said}
use Rattle.rt_model.specs.declared.completion.Said.TheVariants.{Hold, CatchUp, Commit, CommitContinue, Processed, Failed}
use Rattle.rt_model.specs.declared.completion.Reaction.{Reaction}
use Rattle.rt_model.specs.declared.completion.Reaction.TheVariants.{Answer, StartOffline}
use Rattle.rt_model.specs.Completion.{Completion, IsBeforePick, react, has_deadline, by_table, consumed_in, commit_start_in, commit_end_in, stopped_in, extend_in, asked_offset, goes, decided, picks, with_note, with_pick, without}
use Rattle.rt_fsm.proofs.Table.{by_test, by_react, IsPastStart}

-- an answer that is for nobody in particular
abbrev pub IsSilent : Said → Type 0
IsSilent Hold = Unit {0}
IsSilent (CatchUp x) = ⊥
IsSilent (Commit x) = ⊥
IsSilent CommitContinue = ⊥
IsSilent Processed = ⊥
IsSilent (Failed cause) = Unit {0}

-- what a fact of every reaction before a pick owes
pub record Opens (P : Reaction × Completion → Type 0) (m : Completion) (i : Instance) (ask : Ask) (now : Moment) : Type 0 where
  pub stays : (said : Said) → IsSilent said → P (Answer said, m)
  pub notes : (x : Offset) (r : Reason) → ask ≡ Consumed x r → m.seen.meta.start.0 < x.0 → P (Answer Hold, goes (with_note m i x) Holding)
  pub stops : ask ≡ Stopped → P (StartOffline, without m i)
  pub decides : (x : Offset) (r : Reason) → ask ≡ Consumed x r → m.seen.meta.start.0 < x.0 → P (decided (with_pick (with_note m i x) i x now) i x)

pub not_late : (s : MachineState) (b : Bool) → IsBeforePick s → (has_deadline s && b) ≡ true → ⊥
not_late PartialConsuming b p e = cc
not_late Holding b p e = cc
not_late CommitterDecided b p e = p
not_late CommitterNotified b p e = p
not_late CommitterUploading b p e = p
not_late Committing b p e = p
not_late Committed b p e = p
not_late Aborted b p e = p

consumed : (s : MachineState) (P : Reaction × Completion → Type 0) (m : Completion) (i : Instance) (x : Offset) (r : Reason) (now : Moment)
    → IsBeforePick s → m.seen.meta.start.0 < x.0 → Opens P m i (Consumed x r) now → P (consumed_in s m i x r now)
consumed PartialConsuming P m i x r now p past o = by_test P (picks (with_note m i x) i r now) _ _ (λ _. o.decides x r refl past) (λ _. o.notes x r refl past)
consumed Holding P m i x r now p past o = by_test P (picks (with_note m i x) i r now) _ _ (λ _. o.decides x r refl past) (λ _. o.notes x r refl past)
consumed CommitterDecided P m i x r now p past o = absurd p
consumed CommitterNotified P m i x r now p past o = absurd p
consumed CommitterUploading P m i x r now p past o = absurd p
consumed Committing P m i x r now p past o = absurd p
consumed Committed P m i x r now p past o = absurd p
consumed Aborted P m i x r now p past o = absurd p

commit_start : (s : MachineState) (P : Reaction × Completion → Type 0) (m : Completion) (i : Instance) (x : Offset) (now : Moment)
    → IsBeforePick s → Opens P m i (CommitStart x) now → P (commit_start_in s m i x)
commit_start PartialConsuming P m i x now p o = o.stays Hold tt
commit_start Holding P m i x now p o = o.stays Hold tt
commit_start CommitterDecided P m i x now p o = absurd p
commit_start CommitterNotified P m i x now p o = absurd p
commit_start CommitterUploading P m i x now p o = absurd p
commit_start Committing P m i x now p o = absurd p
commit_start Committed P m i x now p o = absurd p
commit_start Aborted P m i x now p o = absurd p

commit_end : (s : MachineState) (P : Reaction × Completion → Type 0) (m : Completion) (i : Instance) (x : Offset) (now : Moment)
    → IsBeforePick s → Opens P m i (CommitEnd x) now → P (commit_end_in s m i x)
commit_end PartialConsuming P m i x now p o = o.stays (Failed (WrongState m.state)) tt
commit_end Holding P m i x now p o = o.stays (Failed (WrongState m.state)) tt
commit_end CommitterDecided P m i x now p o = absurd p
commit_end CommitterNotified P m i x now p o = absurd p
commit_end CommitterUploading P m i x now p o = absurd p
commit_end Committing P m i x now p o = absurd p
commit_end Committed P m i x now p o = absurd p
commit_end Aborted P m i x now p o = absurd p

stopped : (s : MachineState) (P : Reaction × Completion → Type 0) (m : Completion) (i : Instance) (now : Moment)
    → IsBeforePick s → Opens P m i Stopped now → P (stopped_in s m i)
stopped PartialConsuming P m i now p o = o.stops refl
stopped Holding P m i now p o = o.stops refl
stopped CommitterDecided P m i now p o = absurd p
stopped CommitterNotified P m i now p o = absurd p
stopped CommitterUploading P m i now p o = absurd p
stopped Committing P m i now p o = absurd p
stopped Committed P m i now p o = absurd p
stopped Aborted P m i now p o = absurd p

extend : (s : MachineState) (P : Reaction × Completion → Type 0) (m : Completion) (i : Instance) (millis : ℕ) (now : Moment)
    → IsBeforePick s → Opens P m i (Extend millis) now → P (extend_in s m i millis now)
extend PartialConsuming P m i millis now p o = o.stays (Failed (WrongState m.state)) tt
extend Holding P m i millis now p o = o.stays (Failed (WrongState m.state)) tt
extend CommitterDecided P m i millis now p o = absurd p
extend CommitterNotified P m i millis now p o = absurd p
extend CommitterUploading P m i millis now p o = absurd p
extend Committing P m i millis now p o = absurd p
extend Committed P m i millis now p o = absurd p
extend Aborted P m i millis now p o = absurd p

by_ask : (P : Reaction × Completion → Type 0) (m : Completion) (i : Instance) (ask : Ask) (now : Moment)
    → IsBeforePick m.state → IsPastStart m (asked_offset ask) → Opens P m i ask now → P (by_table m i ask now)
by_ask P m i (Consumed x r) now p past o = consumed m.state P m i x r now p past o
by_ask P m i (CommitStart x) now p past o = commit_start m.state P m i x now p o
by_ask P m i (CommitEnd x) now p past o = commit_end m.state P m i x now p o
by_ask P m i Stopped now p past o = stopped m.state P m i now p o
by_ask P m i (Extend millis) now p past o = extend m.state P m i millis now p o

pub by_opened : (P : Reaction × Completion → Type 0) (m : Completion) (i : Instance) (ask : Ask) (now : Moment)
    → IsBeforePick m.state → Opens P m i ask now → P (react m i ask now)
by_opened P m i ask now p o =
    by_react P m i ask now
    (λ late. absurd (not_late m.state (nat_lt m.deadline.0 now.0) p late))
    (λ x start. o.stays (Failed (WrongOffset x start)) tt)
    (λ _ past. by_ask P m i ask now p past o)
