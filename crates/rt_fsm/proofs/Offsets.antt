-- The offsets that a machine keeps were reported past the segment's start, and a timely CommitEnd starts the job.
use Rattle.std.proofs.Common.{◌≡◌, ◌<◌, ◌≤◌, ℕ, Bool, true, false, cond, ◌==◌, ◌&&◌, nat_lt, nat_le, Option, Some, None, List, [], ◌∷◌, map, inl, inr, refl, ap, sym, ◌∙◌, subst, arith}
use Rattle.std.specs.Prelude.{All, Contains}
use Rattle.std.proofs.lemmas.Bool.{eq-eqb, lt-leb, le-ltb}
use Rattle.std.proofs.lemmas.List.Elements.{All-head, All-tail, All-weaker, All-map, All-contains}
use Rattle.rt_base.specs.declared.numbers.Instance.{Instance}
use Rattle.rt_base.specs.declared.numbers.Offset.{Offset}
use Rattle.rt_base.specs.declared.numbers.Moment.{Moment}
use Rattle.rt_model.specs.declared.seg_meta.SeenMeta.{SeenMeta}
use Rattle.rt_model.specs.declared.request.Reason.{Reason}
use Rattle.rt_model.specs.declared.reporter.Reporter.{Reporter}
use Rattle.rt_model.specs.declared.machine_state.MachineState.{MachineState}
use Rattle.rt_model.specs.declared.machine_state.MachineState.TheVariants.{CommitterDecided, CommitterNotified, CommitterUploading, Committing}
use Rattle.rt_model.specs.declared.completion.Ask.{Ask}
use Rattle.rt_model.specs.declared.completion.Ask.TheVariants.{Consumed}
use Rattle.rt_model.specs.declared.completion.Said.TheVariants.{Hold, CatchUp, Commit, Failed}
use Rattle.rt_model.specs.declared.reply.FailCause.TheVariants.{WrongOffset}
use Rattle.rt_model.specs.declared.completion.Reaction.{Reaction}
use Rattle.rt_model.specs.declared.completion.Reaction.TheVariants.{Answer, StartCommit}
use Rattle.rt_model.specs.Completion.{Completion, IsBeforePick, first, fresh, react, noted, left_out, goes, decided, with_note, with_pick, is_late, aborts, past_start, commit_end_in, has_deadline, wrong_offset, not_committer}
use Rattle.rt_fsm.specs.Life.{Message, step, machine_after}
use Rattle.rt_fsm.specs.Laws.{IsAfterPick, IsLargestNote, ComeFrom, IsWithin, IsNoteWithin, HasOffsetsWithin, ReportsAtMost, ReportAtMost, StartsItsJob}
use Rattle.rt_fsm.proofs.Table.{by_test}
use Rattle.rt_fsm.proofs.Opened.{by_opened}
use Rattle.rt_fsm.proofs.Committer.{Settled, settled, before_or_after, not_both}
use Rattle.rt_fsm.proofs.Notes.{instances, noted_instances, left_out_instances, noted_some, winner_largest}
use Rattle.rt_fsm.proofs.Pick.{fresh_instances}

abbrev pub NoteHas : (Offset → Type 0) → Option Offset → Type 0
NoteHas P None = Unit {0}
NoteHas P (Some x) = P x

-- each note has P, and the committer's offset; the segment and the replicas stay
pub record Keeps (P : Offset → Type 0) (seen : SeenMeta) (is : List Instance) (m : Completion) : Type 0 where
  pub notes : All (λ r. NoteHas P r.note) m.reporters
  pub offset : IsAfterPick m.state → P m.offset
  pub segment : m.seen ≡ seen
  pub replicas : instances m.reporters ≡ is

noted_has : (P : Offset → Type 0) (i : Instance) (x : Offset) (r : Reporter) → P x → NoteHas P r.note → NoteHas P (noted i x r).note
noted_has P i x r p q = by_test (λ s. NoteHas P s.note) (r.instance.0 == i.0) _ r (λ _. p) (λ _. q)

left_out_has : (P : Offset → Type 0) (i : Instance) (r : Reporter) → NoteHas P r.note → NoteHas P (left_out i r).note
left_out_has P i r q = by_test (λ s. NoteHas P s.note) (r.instance.0 == i.0) _ r (λ _. tt) (λ _. q)

all_noted : (P : Offset → Type 0) (i : Instance) (x : Offset) (rs : List Reporter) → P x → All (λ r. NoteHas P r.note) rs → All (λ r. NoteHas P r.note) (map (noted i x) rs)
all_noted P i x rs p a =
    All-map (λ r. NoteHas P r.note) (noted i x) rs
    (All-weaker (λ r. NoteHas P r.note) (λ r. NoteHas P (noted i x r).note) (λ r q. noted_has P i x r p q) rs a)

all_left_out : (P : Offset → Type 0) (i : Instance) (rs : List Reporter) → All (λ r. NoteHas P r.note) rs → All (λ r. NoteHas P r.note) (map (left_out i) rs)
all_left_out P i rs a =
    All-map (λ r. NoteHas P r.note) (left_out i) rs
    (All-weaker (λ r. NoteHas P r.note) (λ r. NoteHas P (left_out i r).note) (λ r q. left_out_has P i r q) rs a)

-- the largest note has P too
largest_has : (P : Offset → Type 0) (w : Instance) (o : Offset) (rs : List Reporter) → IsLargestNote w o rs → All (λ r. NoteHas P r.note) rs → P o
largest_has P w o rs l a =
    let k = l.noted.0 in
    let r = l.noted.1 in
    let has : NoteHas P r.note = All-contains (λ q. NoteHas P q.note) rs r a (k, l.noted.2, l.noted.3) in
    subst (NoteHas P) l.noted.4.1 has

deciding : (P : Offset → Type 0) (seen : SeenMeta) (is : List Instance) (n : Completion) (i : Instance) (x : Offset)
    → All (λ r. NoteHas P r.note) n.reporters → P n.offset → n.seen ≡ seen → instances n.reporters ≡ is → Keeps P seen is (decided n i x).1
deciding P seen is n i x a p e f =
    by_test (λ (y : Reaction × Completion). Keeps P seen is y.1) (i.0 == n.winner.0) (Answer (Commit n.offset), goes n CommitterNotified) _
    (λ _. record { notes = a; offset = λ _. p; segment = e; replicas = f })
    (λ _. by_test (λ (y : Reaction × Completion). Keeps P seen is y.1) (x.0 == n.offset.0) (Answer Hold, goes n CommitterDecided) (Answer (CatchUp n.offset), goes n CommitterDecided)
    (λ _. record { notes = a; offset = λ _. p; segment = e; replicas = f })
    (λ _. record { notes = a; offset = λ _. p; segment = e; replicas = f }))

pub kept : (P : Offset → Type 0) (seen : SeenMeta) (is : List Instance) (m : Completion) (i : Instance) (ask : Ask) (now : Moment)
    → ((x : Offset) (r : Reason) → ask ≡ Consumed x r → seen.meta.start.0 < x.0 → P x)
    → Contains is i → Keeps P seen is m → Keeps P seen is (react m i ask now).1
kept P seen is m i ask now reports c k =
    elim (before_or_after m.state) [
      | inl p ↦
          let past_of : (x : Offset) → m.seen.meta.start.0 < x.0 → seen.meta.start.0 < x.0 = λ x h. subst (λ s. s.meta.start.0 < x.0) k.segment h in
          by_opened (λ (y : Reaction × Completion). Keeps P seen is y.1) m i ask now p (record {
            stays = λ said q. k;
            notes = λ x r e past. record {
              notes = all_noted P i x m.reporters (reports x r e (past_of x past)) k.notes;
              offset = λ q. absurd q;
              segment = k.segment;
              replicas = noted_instances i x m.reporters ∙ k.replicas;
            };
            stops = λ e. record {
              notes = all_left_out P i m.reporters k.notes;
              offset = λ q. absurd (not_both m.state p q);
              segment = k.segment;
              replicas = left_out_instances i m.reporters ∙ k.replicas;
            };
            decides = λ x r e past.
                let n = with_pick (with_note m i x) i x now in
                let a = all_noted P i x m.reporters (reports x r e (past_of x past)) k.notes in
                let here : Contains (instances m.reporters) i = subst (λ l. Contains l i) (sym k.replicas) c in
                let largest = winner_largest (with_note m i x).reporters i x (omega arith) (noted_some i x m.reporters here) in
                deciding P seen is n i x a (largest_has P n.winner n.offset n.reporters largest a) k.segment (noted_instances i x m.reporters ∙ k.replicas);
          })
      | inr q ↦
          let here : Settled m i ask (react m i ask now) = settled m i ask now q in
          record {
            notes = subst (λ rs. All (λ r. NoteHas P r.note) rs) (sym here.reporters) k.notes;
            offset = λ _. subst P (sym here.offset) (k.offset q);
            segment = here.seen ∙ k.segment;
            replicas = ap instances here.reporters ∙ k.replicas;
          }
    ]

-- a message reports, past the start, only what has P
abbrev ReportsOnly : (Offset → Type 0) → SeenMeta → Message → Type 0
ReportsOnly P seen message = (x : Offset) (r : Reason) → message.ask ≡ Consumed x r → seen.meta.start.0 < x.0 → P x

keeps_after : (P : Offset → Type 0) (seen : SeenMeta) (is : List Instance) (m : Completion) (messages : List Message)
    → All (ReportsOnly P seen) messages → ComeFrom is messages → Keeps P seen is m → Keeps P seen is (machine_after m messages)
keeps_after P seen is m [] reports c k = k
keeps_after P seen is m (message ∷ messages) reports c k =
    keeps_after P seen is (step m message).after messages
    (All-tail (ReportsOnly P seen) message messages reports)
    (All-tail (λ q. Contains is q.sender) message messages c)
    (kept P seen is m message.sender message.ask message.now
    (All-head (ReportsOnly P seen) message messages reports)
    (All-head (λ q. Contains is q.sender) message messages c) k)

none_noted : (P : Offset → Type 0) (is : List Instance) → All (λ r. NoteHas P r.note) (map fresh is)
none_noted P is = All-map (λ r. NoteHas P r.note) fresh is (λ k d l. tt)

pub keeps_first : (P : Offset → Type 0) (seen : SeenMeta) (is : List Instance) (state : MachineState) (made : Moment) → IsBeforePick state → Keeps P seen is (first seen is state made)
keeps_first P seen is state made p = record {
  notes = none_noted P is;
  offset = λ q. absurd (not_both state p q);
  segment = refl;
  replicas = fresh_instances is;
}

-- The offsets.

at_most_when : (limit : ℕ) (x : Offset) (r : Reason) (ask : Ask) → ReportsAtMost limit ask → ask ≡ Consumed x r → x.0 ≤ limit
at_most_when limit x r ask p e = subst (ReportsAtMost limit) e p

note_within : (seen : SeenMeta) (limit : ℕ) (o : Option Offset) → NoteHas (IsWithin seen.meta.start limit) o → IsNoteWithin seen.meta.start limit o
note_within seen limit None p = p
note_within seen limit (Some x) p = p

within : (seen : SeenMeta) (is : List Instance) (limit : ℕ) (m : Completion) → Keeps (IsWithin seen.meta.start limit) seen is m → HasOffsetsWithin limit m
within seen is limit m k = record {
  notes = subst (λ s. All (λ r. IsNoteWithin s.meta.start limit r.note) m.reporters) (sym k.segment)
      (All-weaker (λ r. NoteHas (IsWithin seen.meta.start limit) r.note) (λ r. IsNoteWithin seen.meta.start limit r.note) (λ r q. note_within seen limit r.note q) m.reporters k.notes);
  offset = λ q. subst (λ s. IsWithin s.meta.start limit m.offset) (sym k.segment) (k.offset q);
}

pub offsets_stay_within : (seen : SeenMeta) (replicas : List Instance) (state : MachineState) (made : Moment) (messages : List Message) (limit : ℕ)
    → IsBeforePick state → ComeFrom replicas messages → ReportAtMost limit messages
    → HasOffsetsWithin limit (machine_after (first seen replicas state made) messages)
offsets_stay_within seen replicas state made messages limit p c few =
    let P : Offset → Type 0 = IsWithin seen.meta.start limit in
    within seen replicas limit (machine_after (first seen replicas state made) messages)
    (keeps_after (IsWithin seen.meta.start limit) seen replicas (first seen replicas state made) messages
    (All-weaker (λ message. ReportsAtMost limit message.ask) (ReportsOnly (IsWithin seen.meta.start limit) seen)
    (λ message q. λ x r e past. (past, at_most_when limit x r message.ask q e)) messages few)
    c (keeps_first (IsWithin seen.meta.start limit) seen replicas state made p))

-- One message.

-- a machine's offsets are within the limit, and its segment and its replicas are another one's
pub record StaysWithin (limit : ℕ) (m n : Completion) : Type 0 where
  pub within : HasOffsetsWithin limit n
  pub seen : n.seen ≡ m.seen
  pub replicas : instances n.reporters ≡ instances m.reporters

note_has : (start : Offset) (limit : ℕ) (o : Option Offset) → IsNoteWithin start limit o → NoteHas (IsWithin start limit) o
note_has start limit None p = p
note_has start limit (Some x) p = p

keeps_within : (limit : ℕ) (m : Completion) → HasOffsetsWithin limit m → Keeps (IsWithin m.seen.meta.start limit) m.seen (instances m.reporters) m
keeps_within limit m k = record {
  notes = All-weaker (λ r. IsNoteWithin m.seen.meta.start limit r.note) (λ r. NoteHas (IsWithin m.seen.meta.start limit) r.note)
      (λ r q. note_has m.seen.meta.start limit r.note q) m.reporters k.notes;
  offset = k.offset;
  segment = refl;
  replicas = refl;
}

pub offsets_kept : (limit : ℕ) (m : Completion) (i : Instance) (ask : Ask) (now : Moment) → ReportsAtMost limit ask
    → Contains (instances m.reporters) i → HasOffsetsWithin limit m → StaysWithin limit m (react m i ask now).1
offsets_kept limit m i ask now few c k =
    let P : Offset → Type 0 = IsWithin m.seen.meta.start limit in
    let a : Keeps P m.seen (instances m.reporters) (react m i ask now).1 =
    kept P m.seen (instances m.reporters) m i ask now (λ x r e past. (past, at_most_when limit x r ask few e)) c (keeps_within limit m k) in
    record { within = within m.seen (instances m.reporters) limit (react m i ask now).1 a; seen = a.segment; replicas = a.replicas }

pub first_within : (limit : ℕ) (seen : SeenMeta) (replicas : List Instance) (state : MachineState) (made : Moment) → IsBeforePick state
    → HasOffsetsWithin limit (first seen replicas state made)
first_within limit seen replicas state made p =
    within seen replicas limit (first seen replicas state made) (keeps_first (IsWithin seen.meta.start limit) seen replicas state made p)

-- A timely CommitEnd.

cond_true : {X : Type 0} (b : Bool) (x y : X) → b ≡ true → cond b x y ≡ x
cond_true true x y e = refl
cond_true false x y e = cc

cond_false : {X : Type 0} (b : Bool) (x y : X) → b ≡ false → cond b x y ≡ y
cond_false true x y e = cc
cond_false false x y e = refl

and_false : (a b : Bool) → b ≡ false → (a && b) ≡ false
and_false true b e = e
and_false false b e = refl

taken : (m : Completion) → commit_end_in CommitterUploading m m.winner m.offset ≡ (StartCommit m.offset, goes m Committing)
taken m =
    cond_true (m.winner.0 == m.winner.0) (cond (m.offset.0 == m.offset.0) (StartCommit m.offset, goes m Committing) (wrong_offset m m.offset)) (not_committer m) (eq-eqb m.winner.0 m.winner.0 refl)
    ∙ cond_true (m.offset.0 == m.offset.0) (StartCommit m.offset, goes m Committing) (wrong_offset m m.offset) (eq-eqb m.offset.0 m.offset.0 refl)

pub starts : (m : Completion) (now : Moment) → m.seen.meta.start.0 < m.offset.0 → StartsItsJob m now
starts m now past e time =
    let in_time : is_late m now ≡ false = and_false (has_deadline m.state) (nat_lt m.deadline.0 now.0) (le-ltb m.deadline.0 now.0 time) in
    let above : nat_le m.offset.0 m.seen.meta.start.0 ≡ false = lt-leb m.offset.0 m.seen.meta.start.0 past in
    cond_false (is_late m now) (aborts m Hold) (past_start m (Some m.offset) (commit_end_in m.state m m.winner m.offset)) in_time
    ∙ cond_false (nat_le m.offset.0 m.seen.meta.start.0) (Answer (Failed (WrongOffset m.offset m.seen.meta.start)), m) (commit_end_in m.state m m.winner m.offset) above
    ∙ subst (λ s. commit_end_in s m m.winner m.offset ≡ (StartCommit m.offset, goes m Committing)) (sym e) (taken m)

pub timely_commit_end : (seen : SeenMeta) (replicas : List Instance) (state : MachineState) (made : Moment) (messages : List Message) (now : Moment)
    → IsBeforePick state → ComeFrom replicas messages
    → StartsItsJob (machine_after (first seen replicas state made) messages) now
timely_commit_end seen replicas state made messages now p c e time =
    let P : Offset → Type 0 = λ x. seen.meta.start.0 < x.0 in
    let m = machine_after (first seen replicas state made) messages in
    let k : Keeps P seen replicas m =
    keeps_after P seen replicas (first seen replicas state made) messages (λ k d l. λ x r f past. past) c (keeps_first P seen replicas state made p) in
    let picked : IsAfterPick m.state = subst IsAfterPick (sym e) tt in
    starts m now (subst (λ s. s.meta.start.0 < m.offset.0) (sym k.segment) (k.offset picked)) e time
