-- Each COMMIT is for the pick, and the pick is of the largest note.
use Rattle.std.proofs.Common.{◌≡◌, ◌==◌, List, [], ◌∷◌, map, ◌⊎◌, inl, inr, refl, sym, subst, arith}
use Rattle.std.specs.Prelude.{Any, Contains}
use Rattle.std.proofs.lemmas.List.Elements.{All-nil, All-cons, All-head, All-tail, All-weaker}
use Rattle.rt_base.specs.declared.numbers.Instance.{Instance}
use Rattle.rt_base.specs.declared.numbers.Offset.{Offset}
use Rattle.rt_base.specs.declared.numbers.Moment.{Moment}
use Rattle.rt_model.specs.declared.seg_meta.SeenMeta.{SeenMeta}
use Rattle.rt_model.specs.declared.machine_state.MachineState.{MachineState}
use Rattle.rt_model.specs.declared.machine_state.MachineState.TheVariants.{CommitterDecided, CommitterNotified}
use Rattle.rt_model.specs.declared.completion.Ask.{Ask}
use Rattle.rt_model.specs.declared.completion.Said.{Said}
use Rattle.rt_model.specs.declared.completion.Said.TheVariants.{Hold, CatchUp, Commit, CommitContinue, Processed, Failed}
use Rattle.rt_model.specs.declared.completion.Reaction.{Reaction}
use Rattle.rt_model.specs.declared.completion.Reaction.TheVariants.{Answer, StartCommit, StartOffline}
use Rattle.rt_model.specs.Completion.{Completion, IsBeforePick, first, fresh, react, goes, decided, with_note, with_pick}
use Rattle.rt_fsm.specs.Life.{Message, Step, step, steps, life}
use Rattle.rt_fsm.specs.Laws.{HasPick, ReactsFor, IsFor, IsLargestNote, IsPickOf, SaysOfAPick, IsOfAPick, CommitsThePick, ComeFrom}
use Rattle.rt_fsm.proofs.Table.{by_test, same_instance}
use Rattle.rt_fsm.proofs.Opened.{IsSilent, by_opened}
use Rattle.rt_fsm.proofs.Committer.{after_pick, picked_after}
use Rattle.rt_fsm.proofs.Notes.{instances, noted_instances, left_out_instances, noted_some, winner_largest, Any-here, Any-later}

record Waits (m : Completion) (i : Instance) (ask : Ask) (y : Reaction × Completion) : Type 0 where
  before : IsBeforePick y.1.state
  silent : (ss : List Step) → IsOfAPick y.0 i ask ss
  replicas : instances y.1.reporters ≡ instances m.reporters

record Picks (i : Instance) (ask : Ask) (y : Reaction × Completion) : Type 0 where
  after : HasPick y.1.state
  reacts : ReactsFor y.0 i ask y.1.winner y.1.offset
  largest : IsLargestNote y.1.winner y.1.offset y.1.reporters

silent_for : (said : Said) (i : Instance) (ask : Ask) (ss : List Step) → IsSilent said → SaysOfAPick said i ask ss
silent_for Hold i ask ss p = tt
silent_for (CatchUp x) i ask ss p = tt
silent_for (Commit x) i ask ss p = absurd p
silent_for CommitContinue i ask ss p = absurd p
silent_for Processed i ask ss p = tt
silent_for (Failed cause) i ask ss p = tt

deciding : (n : Completion) (i : Instance) (x : Offset) (ask : Ask) → IsLargestNote n.winner n.offset n.reporters → Picks i ask (decided n i x)
deciding n i x ask l =
    by_test (Picks i ask) (i.0 == n.winner.0) (Answer (Commit n.offset), goes n CommitterNotified) _
    (λ w. record { after = tt; reacts = (same_instance i n.winner w, refl); largest = l })
    (λ _. by_test (Picks i ask) (x.0 == n.offset.0) (Answer Hold, goes n CommitterDecided) (Answer (CatchUp n.offset), goes n CommitterDecided)
    (λ _. record { after = tt; reacts = tt; largest = l })
    (λ _. record { after = tt; reacts = refl; largest = l }))

opened : (m : Completion) (i : Instance) (ask : Ask) (now : Moment) → IsBeforePick m.state → Contains (instances m.reporters) i
    → Waits m i ask (react m i ask now) ⊎ Picks i ask (react m i ask now)
opened m i ask now p c =
    by_opened (λ y. Waits m i ask y ⊎ Picks i ask y) m i ask now p (record {
      stays = λ said q. inl (record { before = p; silent = λ ss. silent_for said i ask ss q; replicas = refl });
      notes = λ x r e past. inl (record { before = tt; silent = λ ss. tt; replicas = noted_instances i x m.reporters });
      stops = λ e. inl (record { before = p; silent = λ ss. tt; replicas = left_out_instances i m.reporters });
      decides = λ x r e past. inr (deciding (with_pick (with_note m i x) i x now) i x ask
          (winner_largest (with_note m i x).reporters i x (omega arith) (noted_some i x m.reporters c)));
    })

of_pick : (r : Reaction) (i : Instance) (ask : Ask) (w : Instance) (o : Offset) (ss : List Step) → ReactsFor r i ask w o → Any (IsPickOf w o) ss → IsOfAPick r i ask ss
of_pick (Answer Hold) i ask w o ss p a = tt
of_pick (Answer (CatchUp x)) i ask w o ss p a = tt
of_pick (Answer (Commit x)) i ask w o ss p a = subst (λ v. Any (IsPickOf v x) ss) (sym p.0) (subst (λ q. Any (IsPickOf w q) ss) (sym p.1) a)
of_pick (Answer CommitContinue) i ask w o ss p a = (o, p.1, subst (λ v. Any (IsPickOf v o) ss) (sym p.0) a)
of_pick (Answer Processed) i ask w o ss p a = tt
of_pick (Answer (Failed cause)) i ask w o ss p a = tt
of_pick (StartCommit x) i ask w o ss p a = subst (λ v. Any (IsPickOf v x) ss) (sym p.0) (subst (λ q. Any (IsPickOf w q) ss) (sym p.1) a)
of_pick StartOffline i ask w o ss p a = tt

of_more : (r : Reaction) (i : Instance) (ask : Ask) (s : Step) (ss : List Step) → IsOfAPick r i ask ss → IsOfAPick r i ask (s ∷ ss)
of_more (Answer Hold) i ask s ss p = tt
of_more (Answer (CatchUp x)) i ask s ss p = tt
of_more (Answer (Commit x)) i ask s ss p = Any-later (IsPickOf i x) s ss p
of_more (Answer CommitContinue) i ask s ss p = (p.0, p.1, Any-later (IsPickOf i p.0) s ss p.2)
of_more (Answer Processed) i ask s ss p = tt
of_more (Answer (Failed cause)) i ask s ss p = tt
of_more (StartCommit x) i ask s ss p = Any-later (IsPickOf i x) s ss p
of_more StartOffline i ask s ss p = tt

abbrev IsOf : List Step → Step → Type 0
IsOf ss s = IsOfAPick s.reaction s.message.sender s.message.ask ss

from_beginning : (m : Completion) (messages : List Message) → IsBeforePick m.state → ComeFrom (instances m.reporters) messages → CommitsThePick (steps m messages)
from_beginning m [] p c = All-nil (IsOf [])
from_beginning m (message ∷ messages) p c =
    let here = step m message in
    let rest = steps here.after messages in
    let sent = All-head (λ q. Contains (instances m.reporters) q.sender) message messages c in
    let later_sent = All-tail (λ q. Contains (instances m.reporters) q.sender) message messages c in
    elim (opened m message.sender message.ask message.now p sent) [
      | inl waits ↦
          All-cons (IsOf (here ∷ rest)) here rest (waits.silent (here ∷ rest))
          (All-weaker (IsOf rest) (IsOf (here ∷ rest)) (λ s q. of_more s.reaction s.message.sender s.message.ask here rest q) rest
          (from_beginning here.after messages waits.before (subst (λ is. ComeFrom is messages) (sym waits.replicas) later_sent)))
      | inr picks ↦
          let w = here.after.winner in
          let o = here.after.offset in
          let pick : IsPickOf w o here = record { before = p; after = picks.after; winner = refl; offset = refl; largest = picks.largest } in
          let any : Any (IsPickOf w o) (here ∷ rest) = Any-here (IsPickOf w o) here rest pick in
          All-weaker (IsFor w o) (IsOf (here ∷ rest)) (λ s q. of_pick s.reaction s.message.sender s.message.ask w o (here ∷ rest) q any) (here ∷ rest)
          (All-cons (IsFor w o) here rest picks.reacts
          (after_pick here.after messages w o (picked_after here.after.state picks.after) refl refl))
    ]

pub fresh_instances : (is : List Instance) → instances (map fresh is) ≡ is
fresh_instances [] = refl
fresh_instances (i ∷ is) = let e = fresh_instances is in cc

pub commits_the_pick : (seen : SeenMeta) (replicas : List Instance) (state : MachineState) (made : Moment) (messages : List Message)
    → IsBeforePick state → ComeFrom replicas messages → CommitsThePick (life seen replicas state made messages)
commits_the_pick seen replicas state made messages p c =
    from_beginning (first seen replicas state made) messages p (subst (λ is. ComeFrom is messages) (sym (fresh_instances replicas)) c)
