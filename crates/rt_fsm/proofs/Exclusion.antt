-- A replica that stopped before the pick has no note, and so isn't picked before it consumes again.
use Rattle.std.proofs.Common.{◌≡◌, ◌<◌, ◌≤◌, ℕ, true, ◌==◌, nat_lt, Option, Some, None, List, [], ◌∷◌, map, unwrap_or, inl, inr, refl, ap, sym, ◌∙◌, subst, arith}
use Rattle.std.specs.Prelude.{All}
use Rattle.std.proofs.lemmas.Bool.{eq-eqb}
use Rattle.std.proofs.lemmas.List.Elements.{All-head, All-tail}
use Rattle.rt_base.specs.declared.numbers.Instance.{Instance}
use Rattle.rt_base.specs.declared.numbers.Offset.{Offset}
use Rattle.rt_base.specs.declared.numbers.Moment.{Moment}
use Rattle.rt_model.specs.declared.seg_meta.SeenMeta.{SeenMeta}
use Rattle.rt_model.specs.declared.reporter.Reporter.{Reporter}
use Rattle.rt_model.specs.declared.machine_state.MachineState.{MachineState}
use Rattle.rt_model.specs.declared.machine_state.MachineState.TheVariants.{PartialConsuming, Holding, CommitterDecided, CommitterNotified, CommitterUploading, Committing, Committed, Aborted}
use Rattle.rt_model.specs.declared.completion.Ask.{Ask}
use Rattle.rt_model.specs.declared.completion.Ask.TheVariants.{Consumed, Stopped}
use Rattle.rt_model.specs.declared.completion.Said.TheVariants.{Hold, CatchUp, Commit}
use Rattle.rt_model.specs.declared.completion.Reaction.{Reaction}
use Rattle.rt_model.specs.declared.completion.Reaction.TheVariants.{Answer}
use Rattle.rt_model.specs.Completion.{Completion, IsBeforePick, first, react, is_late, stopped_in, noted, left_out, largest_note, is_at, smallest_at, winner_of, goes, decided, with_note, with_pick, without}
use Rattle.rt_fsm.specs.Life.{Message, step, machine_after}
use Rattle.rt_fsm.specs.Laws.{IsAfterPick, IsNoReport, IsNoReportOf, StaysOut}
use Rattle.rt_fsm.proofs.Table.{by_test, same_instance, instance_of}
use Rattle.rt_fsm.proofs.Opened.{by_opened, not_late}
use Rattle.rt_fsm.proofs.Committer.{Settled, settled, before_or_after, not_both, picked_after}
use Rattle.rt_fsm.proofs.Notes.{SomeOf, IsAt, smallest_is}

-- `i` has no note
abbrev HasNoNote : Instance → List Reporter → Type 0
HasNoNote i [] = Unit {0}
HasNoNote i (r ∷ rs) = (r.instance ≡ i → r.note ≡ None) × HasNoNote i rs

no_note_left_out : (i : Instance) (rs : List Reporter) → HasNoNote i (map (left_out i) rs)
no_note_left_out i [] = tt
no_note_left_out i (r ∷ rs) = (
  by_test (λ q. q.instance ≡ i → q.note ≡ None) (r.instance.0 == i.0) _ r (λ _ _. refl)
      (λ h e. let same : (r.instance.0 == i.0) ≡ true = eq-eqb r.instance.0 i.0 (ap (λ (v : Instance). v.0) e) in cc),
  no_note_left_out i rs,
)

no_note_without : (j i : Instance) (rs : List Reporter) → HasNoNote i rs → HasNoNote i (map (left_out j) rs)
no_note_without j i [] n = tt
no_note_without j i (r ∷ rs) n =
    (by_test (λ q. q.instance ≡ i → q.note ≡ None) (r.instance.0 == j.0) _ r (λ _ _. refl) (λ _. n.0), no_note_without j i rs n.1)

no_note_noted : (j i : Instance) (x : Offset) (rs : List Reporter) → (j ≡ i → ⊥) → HasNoNote i rs → HasNoNote i (map (noted j x) rs)
no_note_noted j i x [] other n = tt
no_note_noted j i x (r ∷ rs) other n = (
  by_test (λ q. q.instance ≡ i → q.note ≡ None) (r.instance.0 == j.0) _ r
      (λ h e. absurd (other (sym (same_instance r.instance j h) ∙ e))) (λ _. n.0),
  no_note_noted j i x rs other n.1,
)

no_note_at : (o : ℕ) (note : Option Offset) → note ≡ None → is_at o note ≡ true → ⊥
no_note_at o None e h = cc
no_note_at o (Some x) e h = cc

-- who has a note isn't `i`
not_noted : (i : Instance) (o n : ℕ) (rs : List Reporter) → HasNoNote i rs → SomeOf (λ r. (r.instance.0 ≡ n) × IsAt o r) rs → n ≡ i.0 → ⊥
not_noted i o n [] none s e = s
not_noted i o n (r ∷ rs) none s e =
    elim s [
      | inl p ↦ no_note_at o r.note (none.0 (ap instance_of (p.0 ∙ e))) p.1
      | inr t ↦ not_noted i o n rs none.1 t e
    ]

unwrap_not : (c : Option ℕ) (d k : ℕ) → (d ≡ k → ⊥) → ((n : ℕ) → c ≡ Some n → n ≡ k → ⊥) → unwrap_or c d ≡ k → ⊥
unwrap_not None d k p q e = p e
unwrap_not (Some n) d k p q e = q n refl e

winner_other : (i j : Instance) (x : Offset) (rs : List Reporter) → (j ≡ i → ⊥) → HasNoNote i rs → winner_of rs j x ≡ i → ⊥
winner_other i j x rs other none =
    by_test (λ w. w ≡ i → ⊥) (x.0 == largest_note rs) j _ (λ _. other)
    (λ _ e. unwrap_not (smallest_at (largest_note rs) rs) j.0 i.0 (λ f. other (ap instance_of f))
    (λ n f g. not_noted i (largest_note rs) n rs none (smallest_is (largest_note rs) rs n f) g)
    (ap (λ (v : Instance). v.0) e))

-- `i` has no note before the pick, and wasn't picked
record IsOut (start : ℕ) (i : Instance) (m : Completion) : Type 0 where
  segment : m.seen.meta.start.0 ≡ start
  before : IsBeforePick m.state → HasNoNote i m.reporters
  after : IsAfterPick m.state → m.winner ≡ i → ⊥

deciding : (start : ℕ) (i : Instance) (n : Completion) (j : Instance) (x : Offset) → n.seen.meta.start.0 ≡ start → (n.winner ≡ i → ⊥) → IsOut start i (decided n j x).1
deciding start i n j x at other =
    by_test (λ (y : Reaction × Completion). IsOut start i y.1) (j.0 == n.winner.0) (Answer (Commit n.offset), goes n CommitterNotified) _
    (λ _. record { segment = at; before = λ p. absurd p; after = λ _. other })
    (λ _. by_test (λ (y : Reaction × Completion). IsOut start i y.1) (x.0 == n.offset.0) (Answer Hold, goes n CommitterDecided) (Answer (CatchUp n.offset), goes n CommitterDecided)
    (λ _. record { segment = at; before = λ p. absurd p; after = λ _. other })
    (λ _. record { segment = at; before = λ p. absurd p; after = λ _. other }))

other_sender : (start : ℕ) (i j : Instance) (ask : Ask) (x : Offset) (r : _) → (j ≡ i → IsNoReport start ask) → ask ≡ Consumed x r → start < x.0 → j ≡ i → ⊥
other_sender start i j ask x r silent e past same =
    let none : x.0 ≤ start = subst (IsNoReport start) e (silent same) in omega arith

kept_out : (start : ℕ) (i : Instance) (m : Completion) (message : Message) → IsNoReportOf start i message → IsOut start i m → IsOut start i (step m message).after
kept_out start i m message silent out =
    elim (before_or_after m.state) [
      | inl p ↦
          by_opened (λ y. IsOut start i y.1) m message.sender message.ask message.now p (record {
            stays = λ said q. out;
            notes = λ x r e past. record {
              segment = out.segment;
              before = λ _. no_note_noted message.sender i x m.reporters (other_sender start i message.sender message.ask x r silent e (omega (arith, past, out.segment))) (out.before p);
              after = λ q. absurd q;
            };
            stops = λ e. record {
              segment = out.segment;
              before = λ _. no_note_without message.sender i m.reporters (out.before p);
              after = λ q. absurd (not_both m.state p q);
            };
            decides = λ x r e past.
                let other = other_sender start i message.sender message.ask x r silent e (omega (arith, past, out.segment)) in
                deciding start i (with_pick (with_note m message.sender x) message.sender x message.now) message.sender x out.segment
                (winner_other i message.sender x (map (noted message.sender x) m.reporters) other
                (no_note_noted message.sender i x m.reporters other (out.before p)));
          })
      | inr q ↦
          let here : Settled m message.sender message.ask (react m message.sender message.ask message.now) = settled m message.sender message.ask message.now q in
          record {
            segment = ap (λ (s : SeenMeta). s.meta.start.0) here.seen ∙ out.segment;
            before = λ b. absurd (not_both (step m message).after.state b here.after);
            after = λ _ e. out.after q (sym here.winner ∙ e);
          }
    ]

out_after : (start : ℕ) (i : Instance) (m : Completion) (messages : List Message) → All (IsNoReportOf start i) messages → IsOut start i m → IsOut start i (machine_after m messages)
out_after start i m [] silent out = out
out_after start i m (message ∷ messages) silent out =
    out_after start i (step m message).after messages (All-tail (IsNoReportOf start i) message messages silent)
    (kept_out start i m message (All-head (IsNoReportOf start i) message messages silent) out)

out_without : (i : Instance) (m : Completion) → IsBeforePick m.state → IsOut m.seen.meta.start.0 i (without m i)
out_without i m p = record {
  segment = refl;
  before = λ _. no_note_left_out i m.reporters;
  after = λ q. absurd (not_both m.state p q);
}

stopped_at : (s : MachineState) (i : Instance) (m : Completion) → IsBeforePick s → IsOut m.seen.meta.start.0 i (without m i) → IsOut m.seen.meta.start.0 i (stopped_in s m i).1
stopped_at PartialConsuming i m p out = out
stopped_at Holding i m p out = out
stopped_at CommitterDecided i m p out = absurd p
stopped_at CommitterNotified i m p out = absurd p
stopped_at CommitterUploading i m p out = absurd p
stopped_at Committing i m p out = absurd p
stopped_at Committed i m p out = absurd p
stopped_at Aborted i m p out = absurd p

out_stopped : (i : Instance) (m : Completion) (now : Moment) → IsBeforePick m.state → IsOut m.seen.meta.start.0 i (react m i Stopped now).1
out_stopped i m now p =
    by_test (λ (y : Reaction × Completion). IsOut m.seen.meta.start.0 i y.1) (is_late m now) _ (stopped_in m.state m i)
    (λ late. absurd (not_late m.state (nat_lt m.deadline.0 now.0) p late))
    (λ _. stopped_at m.state i m p (out_without i m p))

pub stays_out : (seen : SeenMeta) (replicas : List Instance) (state : MachineState) (made : Moment) (messages : List Message)
    (i : Instance) (now : Moment) (later_messages : List Message)
    → StaysOut (machine_after (first seen replicas state made) messages) i now later_messages
stays_out seen replicas state made messages i now later_messages p silent picked e =
    let m = machine_after (first seen replicas state made) messages in
    let n = machine_after (react m i Stopped now).1 later_messages in
    (out_after m.seen.meta.start.0 i (react m i Stopped now).1 later_messages silent (out_stopped i m now p)).after (picked_after n.state picked) e
