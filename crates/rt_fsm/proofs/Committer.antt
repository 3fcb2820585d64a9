-- One committer: once picked, it and its offset stay, and nobody else is told to commit.
use Rattle.std.proofs.Common.{◌≡◌, ℕ, Bool, true, false, cond, ◌==◌, ◌&&◌, nat_lt, List, [], ◌∷◌, ◌⊎◌, inl, inr, refl, ap, sym, ◌∙◌, subst, All}
use Rattle.std.proofs.lemmas.List.Elements.{All-nil, All-cons, All-weaker}
use Rattle.rt_base.specs.declared.numbers.Instance.{Instance}
use Rattle.rt_base.specs.declared.numbers.Offset.{Offset}
use Rattle.rt_base.specs.declared.numbers.Moment.{Moment}
use Rattle.rt_model.specs.declared.seg_meta.SeenMeta.{SeenMeta}
use Rattle.rt_model.specs.declared.request.Reason.{Reason}
use Rattle.rt_model.specs.declared.machine_state.MachineState.{MachineState}
use Rattle.rt_model.specs.declared.machine_state.MachineState.TheVariants.{PartialConsuming, Holding, CommitterDecided, CommitterNotified, CommitterUploading, Committing, Committed, Aborted}
use Rattle.rt_model.specs.declared.completion.Ask.{Ask}
use Rattle.rt_model.specs.declared.completion.Ask.TheVariants.{Consumed, CommitStart, CommitEnd, Stopped, Extend}
use Rattle.rt_model.specs.declared.completion.Said.{Said}
use Rattle.rt_model.specs.declared.completion.Said.TheVariants.{Hold, CatchUp, Commit, CommitContinue, Processed, Failed}
use Rattle.rt_model.specs.declared.completion.Reaction.{Reaction}
use Rattle.rt_model.specs.declared.completion.Reaction.TheVariants.{Answer, StartCommit, StartOffline}
use Rattle.rt_model.specs.Completion.{Completion, IsBeforePick, first, react, by_table, consumed_in, commit_start_in, commit_end_in, stopped_in, extend_in, catches_up, loses, goes, decided, with_note, with_pick}
use Rattle.rt_fsm.specs.Life.{Message, Step, step, steps, life}
use Rattle.rt_fsm.specs.Laws.{HasPick, IsAfterPick, SaysFor, ReactsFor, IsFor, HasOneCommitter, NamesTheSame, CommitsAgree}
use Rattle.rt_fsm.proofs.Table.{by_test, by_react, and_true, same_instance, same_offset}
use Rattle.rt_fsm.proofs.Opened.{IsSilent, by_opened}

pub before_or_after : (s : MachineState) → IsBeforePick s ⊎ IsAfterPick s
before_or_after PartialConsuming = inl tt
before_or_after Holding = inl tt
before_or_after CommitterDecided = inr tt
before_or_after CommitterNotified = inr tt
before_or_after CommitterUploading = inr tt
before_or_after Committing = inr tt
before_or_after Committed = inr tt
before_or_after Aborted = inr tt

pub not_both : (s : MachineState) → IsBeforePick s → IsAfterPick s → ⊥
not_both PartialConsuming p q = q
not_both Holding p q = q
not_both CommitterDecided p q = p
not_both CommitterNotified p q = p
not_both CommitterUploading p q = p
not_both Committing p q = p
not_both Committed p q = p
not_both Aborted p q = p

pub picked_after : (s : MachineState) → HasPick s → IsAfterPick s
picked_after PartialConsuming p = p
picked_after Holding p = p
picked_after CommitterDecided p = tt
picked_after CommitterNotified p = tt
picked_after CommitterUploading p = tt
picked_after Committing p = tt
picked_after Committed p = tt
picked_after Aborted p = tt

-- what a machine makes of a message after the pick
pub record Settled (m : Completion) (i : Instance) (ask : Ask) (y : Reaction × Completion) : Type 0 where
  pub reacts : ReactsFor y.0 i ask m.winner m.offset
  pub winner : y.1.winner ≡ m.winner
  pub offset : y.1.offset ≡ m.offset
  pub after : IsAfterPick y.1.state
  pub seen : y.1.seen ≡ m.seen
  pub reporters : y.1.reporters ≡ m.reporters

choice : (m : Completion) (i : Instance) (ask : Ask) (b : Bool) (x y : Reaction × Completion)
    → (b ≡ true → Settled m i ask x) → (b ≡ false → Settled m i ask y) → Settled m i ask (cond b x y)
choice m i ask b x y p q = by_test (Settled m i ask) b x y p q

-- the machine stays as it is, or goes on to a state after the pick
kept : (m : Completion) (i : Instance) (ask : Ask) (r : Reaction) → IsAfterPick m.state → ReactsFor r i ask m.winner m.offset → Settled m i ask (r, m)
kept m i ask r a p = record { reacts = p; winner = refl; offset = refl; after = a; seen = refl; reporters = refl }

moved : (m : Completion) (i : Instance) (ask : Ask) (r : Reaction) (s : MachineState) → IsAfterPick s → ReactsFor r i ask m.winner m.offset → Settled m i ask (r, goes m s)
moved m i ask r s a p = record { reacts = p; winner = refl; offset = refl; after = a; seen = refl; reporters = refl }

catching_up : (m : Completion) (i : Instance) (ask : Ask) (x : Offset) → IsAfterPick m.state → Settled m i ask (catches_up m x)
catching_up m i ask x a = choice m i ask (nat_lt x.0 m.offset.0) _ _ (λ _. kept m i ask (Answer (CatchUp m.offset)) a refl) (λ _. kept m i ask (Answer Hold) a tt)

losing : (m : Completion) (i : Instance) (ask : Ask) → IsAfterPick m.state → Settled m i ask (loses m i)
losing m i ask a = choice m i ask (i.0 == m.winner.0) _ _ (λ _. moved m i ask StartOffline Aborted tt tt) (λ _. kept m i ask StartOffline a tt)

consumed : (s : MachineState) (m : Completion) (i : Instance) (x : Offset) (r : Reason) (now : Moment) → IsAfterPick s → IsAfterPick m.state → Settled m i (Consumed x r) (consumed_in s m i x r now)
consumed PartialConsuming m i x r now a b = absurd a
consumed Holding m i x r now a b = absurd a
consumed CommitterDecided m i x r now a b =
    choice m i (Consumed x r) (nat_lt m.offset.0 x.0) _ _ (λ _. moved m i (Consumed x r) (Answer Hold) Aborted tt tt)
    (λ _. choice m i (Consumed x r) ((i.0 == m.winner.0) && (x.0 == m.offset.0)) _ _
    (λ e. moved m i (Consumed x r) (Answer (Commit m.offset)) CommitterNotified tt (same_instance i m.winner (and_true (i.0 == m.winner.0) (x.0 == m.offset.0) e).0, refl))
    (λ _. catching_up m i (Consumed x r) x b))
consumed CommitterNotified m i x r now a b =
    choice m i (Consumed x r) (nat_lt m.offset.0 x.0) _ _ (λ _. moved m i (Consumed x r) (Answer Hold) Aborted tt tt)
    (λ _. choice m i (Consumed x r) (i.0 == m.winner.0) _ _
    (λ w. choice m i (Consumed x r) (x.0 == m.offset.0) _ _
    (λ _. kept m i (Consumed x r) (Answer (Commit m.offset)) b (same_instance i m.winner w, refl))
    (λ _. moved m i (Consumed x r) (Answer Hold) Aborted tt tt))
    (λ _. catching_up m i (Consumed x r) x b))
consumed CommitterUploading m i x r now a b =
    choice m i (Consumed x r) (i.0 == m.winner.0) _ _ (λ _. moved m i (Consumed x r) (Answer Hold) Aborted tt tt) (λ _. catching_up m i (Consumed x r) x b)
consumed Committing m i x r now a b = catching_up m i (Consumed x r) x b
consumed Committed m i x r now a b = kept m i (Consumed x r) _ b tt
consumed Aborted m i x r now a b = kept m i (Consumed x r) _ b tt

commit_start : (s : MachineState) (m : Completion) (i : Instance) (x : Offset) → IsAfterPick s → IsAfterPick m.state → Settled m i (CommitStart x) (commit_start_in s m i x)
commit_start PartialConsuming m i x a b = absurd a
commit_start Holding m i x a b = absurd a
commit_start CommitterDecided m i x a b = kept m i (CommitStart x) (Answer Hold) b tt
commit_start CommitterNotified m i x a b =
    choice m i (CommitStart x) (i.0 == m.winner.0) _ _
    (λ w. choice m i (CommitStart x) (x.0 == m.offset.0) _ _
    (λ e. moved m i (CommitStart x) (Answer CommitContinue) CommitterUploading tt (same_instance i m.winner w, ap CommitStart (same_offset x m.offset e)))
    (λ _. moved m i (CommitStart x) _ Aborted tt tt))
    (λ _. kept m i (CommitStart x) (Answer Hold) b tt)
commit_start CommitterUploading m i x a b = kept m i (CommitStart x) (Answer Hold) b tt
commit_start Committing m i x a b = kept m i (CommitStart x) (Answer Hold) b tt
commit_start Committed m i x a b = kept m i (CommitStart x) _ b tt
commit_start Aborted m i x a b = kept m i (CommitStart x) _ b tt

commit_end : (s : MachineState) (m : Completion) (i : Instance) (x : Offset) → IsAfterPick s → IsAfterPick m.state → Settled m i (CommitEnd x) (commit_end_in s m i x)
commit_end PartialConsuming m i x a b = absurd a
commit_end Holding m i x a b = absurd a
commit_end CommitterDecided m i x a b = kept m i (CommitEnd x) _ b tt
commit_end CommitterNotified m i x a b = kept m i (CommitEnd x) _ b tt
commit_end CommitterUploading m i x a b =
    choice m i (CommitEnd x) (i.0 == m.winner.0) _ _
    (λ w. choice m i (CommitEnd x) (x.0 == m.offset.0) _ _
    (λ e. moved m i (CommitEnd x) (StartCommit m.offset) Committing tt (same_instance i m.winner w, refl, ap CommitEnd (same_offset x m.offset e)))
    (λ _. moved m i (CommitEnd x) _ Aborted tt tt))
    (λ _. kept m i (CommitEnd x) _ b tt)
commit_end Committing m i x a b = kept m i (CommitEnd x) _ b tt
commit_end Committed m i x a b = kept m i (CommitEnd x) _ b tt
commit_end Aborted m i x a b = kept m i (CommitEnd x) _ b tt

stopped : (s : MachineState) (m : Completion) (i : Instance) → IsAfterPick s → IsAfterPick m.state → Settled m i Stopped (stopped_in s m i)
stopped PartialConsuming m i a b = absurd a
stopped Holding m i a b = absurd a
stopped CommitterDecided m i a b = losing m i Stopped b
stopped CommitterNotified m i a b = losing m i Stopped b
stopped CommitterUploading m i a b = losing m i Stopped b
stopped Committing m i a b = kept m i Stopped StartOffline b tt
stopped Committed m i a b = kept m i Stopped _ b tt
stopped Aborted m i a b = kept m i Stopped _ b tt

extend : (s : MachineState) (m : Completion) (i : Instance) (millis : ℕ) (now : Moment) → IsAfterPick s → IsAfterPick m.state → Settled m i (Extend millis) (extend_in s m i millis now)
extend PartialConsuming m i millis now a b = absurd a
extend Holding m i millis now a b = absurd a
extend CommitterDecided m i millis now a b = kept m i (Extend millis) _ b tt
extend CommitterNotified m i millis now a b =
    choice m i (Extend millis) (i.0 == m.winner.0) _ _
    (λ w. record { reacts = same_instance i m.winner w; winner = refl; offset = refl; after = b; seen = refl; reporters = refl })
    (λ _. kept m i (Extend millis) _ b tt)
extend CommitterUploading m i millis now a b = kept m i (Extend millis) _ b tt
extend Committing m i millis now a b = kept m i (Extend millis) _ b tt
extend Committed m i millis now a b = kept m i (Extend millis) _ b tt
extend Aborted m i millis now a b = kept m i (Extend millis) _ b tt

by_ask : (m : Completion) (i : Instance) (ask : Ask) (now : Moment) → IsAfterPick m.state → Settled m i ask (by_table m i ask now)
by_ask m i (Consumed x r) now a = consumed m.state m i x r now a a
by_ask m i (CommitStart x) now a = commit_start m.state m i x a a
by_ask m i (CommitEnd x) now a = commit_end m.state m i x a a
by_ask m i Stopped now a = stopped m.state m i a a
by_ask m i (Extend millis) now a = extend m.state m i millis now a a

pub settled : (m : Completion) (i : Instance) (ask : Ask) (now : Moment) → IsAfterPick m.state → Settled m i ask (react m i ask now)
settled m i ask now a =
    by_react (Settled m i ask) m i ask now
    (λ _. moved m i ask (Answer Hold) Aborted tt tt)
    (λ x start. kept m i ask _ a tt)
    (λ _ _. by_ask m i ask now a)

-- A life after the pick.

pub after_pick : (m : Completion) (messages : List Message) (w : Instance) (o : Offset) → IsAfterPick m.state → m.winner ≡ w → m.offset ≡ o → All (IsFor w o) (steps m messages)
after_pick m [] w o a e f = All-nil (IsFor w o)
after_pick m (message ∷ messages) w o a e f =
    let here : Settled m message.sender message.ask (react m message.sender message.ask message.now) = settled m message.sender message.ask message.now a in
    let for_w : IsFor w m.offset (step m message) = subst (λ v. IsFor v m.offset (step m message)) e here.reacts in
    All-cons (IsFor w o) (step m message) (steps (step m message).after messages)
    (subst (λ p. IsFor w p (step m message)) f for_w)
    (after_pick (step m message).after messages w o here.after (here.winner ∙ e) (here.offset ∙ f))

-- A life from its beginning.

-- a message before the pick, that isn't the one at which the machine picks
pub record Waits (i : Instance) (ask : Ask) (y : Reaction × Completion) : Type 0 where
  pub before : IsBeforePick y.1.state
  pub silent : (w : Instance) (o : Offset) → ReactsFor y.0 i ask w o

-- the message at which the machine picks
pub record Decides (i : Instance) (ask : Ask) (y : Reaction × Completion) : Type 0 where
  pub after : IsAfterPick y.1.state
  pub reacts : ReactsFor y.0 i ask y.1.winner y.1.offset

silent_for : (said : Said) (i : Instance) (ask : Ask) (w : Instance) (o : Offset) → IsSilent said → SaysFor said i ask w o
silent_for Hold i ask w o p = tt
silent_for (CatchUp x) i ask w o p = absurd p
silent_for (Commit x) i ask w o p = absurd p
silent_for CommitContinue i ask w o p = absurd p
silent_for Processed i ask w o p = absurd p
silent_for (Failed cause) i ask w o p = tt

deciding : (n : Completion) (i : Instance) (x : Offset) (ask : Ask) → Decides i ask (decided n i x)
deciding n i x ask =
    by_test (Decides i ask) (i.0 == n.winner.0) (Answer (Commit n.offset), goes n CommitterNotified) _
    (λ w. record { after = tt; reacts = (same_instance i n.winner w, refl) })
    (λ _. by_test (Decides i ask) (x.0 == n.offset.0) (Answer Hold, goes n CommitterDecided) (Answer (CatchUp n.offset), goes n CommitterDecided)
    (λ _. record { after = tt; reacts = tt })
    (λ _. record { after = tt; reacts = refl }))

opened : (m : Completion) (i : Instance) (ask : Ask) (now : Moment) → IsBeforePick m.state
    → Waits i ask (react m i ask now) ⊎ Decides i ask (react m i ask now)
opened m i ask now p =
    by_opened (λ y. Waits i ask y ⊎ Decides i ask y) m i ask now p (record {
      stays = λ said q. inl (record { before = p; silent = λ w o. silent_for said i ask w o q });
      notes = λ x r e past. inl (record { before = tt; silent = λ w o. tt });
      stops = λ e. inl (record { before = p; silent = λ w o. tt });
      decides = λ x r e past. inr (deciding (with_pick (with_note m i x) i x now) i x ask);
    })

pub from_beginning : (m : Completion) (messages : List Message) → IsBeforePick m.state → HasOneCommitter (steps m messages)
from_beginning m [] p = (m.winner, m.offset, All-nil (IsFor m.winner m.offset))
from_beginning m (message ∷ messages) p =
    elim (opened m message.sender message.ask message.now p) [
      | inl waits ↦
          let later = from_beginning (step m message).after messages waits.before in
          (later.0, later.1, All-cons (IsFor later.0 later.1) (step m message) (steps (step m message).after messages) (waits.silent later.0 later.1) later.2)
      | inr decides ↦
          let w = (step m message).after.winner in
          let o = (step m message).after.offset in
          (w, o, All-cons (IsFor w o) (step m message) (steps (step m message).after messages) decides.reacts (after_pick (step m message).after messages w o decides.after refl refl))
    ]

pub one_committer : (seen : SeenMeta) (replicas : List Instance) (state : MachineState) (made : Moment) (messages : List Message)
    → IsBeforePick state → HasOneCommitter (life seen replicas state made messages)
one_committer seen replicas state made messages p = from_beginning (first seen replicas state made) messages p

-- Two COMMIT answers.

named : (r : Reaction) (i : Instance) (ask : Ask) (w : Instance) (o x : Offset) → ReactsFor r i ask w o → r ≡ Answer (Commit x) → (i ≡ w) × (x ≡ o)
named r i ask w o x p e = subst (λ q. ReactsFor q i ask w o) e p

agree : (w : Instance) (o : Offset) (s t : Step) → IsFor w o s → IsFor w o t → NamesTheSame s.reaction s.message.sender t.reaction t.message.sender
agree w o s t p q = λ x y e f.
    let a = named s.reaction s.message.sender s.message.ask w o x p e in
    let b = named t.reaction t.message.sender t.message.ask w o y q f in
    (a.0 ∙ sym b.0, a.1 ∙ sym b.1)

all_agree : (w : Instance) (o : Offset) (ss : List Step) → All (IsFor w o) ss → CommitsAgree ss
all_agree w o ss p =
    All-weaker (IsFor w o) (λ s. All (λ t. NamesTheSame s.reaction s.message.sender t.reaction t.message.sender) ss)
    (λ s q. All-weaker (IsFor w o) (λ t. NamesTheSame s.reaction s.message.sender t.reaction t.message.sender) (λ t r. agree w o s t q r) ss p)
    ss p

pub commits_agree : (seen : SeenMeta) (replicas : List Instance) (state : MachineState) (made : Moment) (messages : List Message)
    → IsBeforePick state → CommitsAgree (life seen replicas state made messages)
commits_agree seen replicas state made messages p =
    let one = one_committer seen replicas state made messages p in
    all_agree one.0 one.1 (life seen replicas state made messages) one.2
