-- What goes with what a request is answered at once: an offset that a replica can come to with CATCH_UP, and a segment that has ended
-- with DISCARD, and with PROCESSED to a stop.
use Rattle.std.proofs.Common.{◌≡◌, ℕ, ◌⊎◌, inl, inr, Bool, true, false, cond, List, Option, Some, None, Result, Ok, Err, refl, sym, ◌∙◌, ap, subst, slice_get}
use Rattle.std.specs.Prelude.{◌==◌, All}
use Rattle.std.proofs.lemmas.Option.{same_Some}
use Rattle.rt_base.specs.declared.numbers.Instance.{Instance}
use Rattle.rt_base.specs.declared.numbers.Moment.{Moment}
use Rattle.rt_base.specs.declared.numbers.Offset.{Offset}
use Rattle.rt_base.specs.declared.numbers.Partition.{Partition}
use Rattle.rt_base.specs.declared.numbers.Sequence.{Sequence}
use Rattle.rt_commit.specs.Assignment.{assigned_by, replicas_in}
use Rattle.rt_commit.specs.Told.{answer_to, ToldDeep}
use Rattle.rt_commit.specs.declared.job.JobStage.{JobStage}
use Rattle.rt_controller.specs.Answers.{after_put, ask_in, follows_by, leads_to, named_file, replies, status_of, Handling}
use Rattle.rt_controller.specs.Controller.{added, machine_place, replaced, with_machine, Controlling}
use Rattle.rt_controller.specs.Requests.{Turn as Rule, not_leading, uploads, not_assigned, past_last, has_machine, has_none, after_read, at_machine, by_node, by_status, call_of, first_state, handled_at, turn_of}
use Rattle.rt_controller.specs.declared.handled.Handled.{Handled}
use Rattle.rt_controller.specs.declared.handled.Handled.TheVariants as handled
use Rattle.rt_controller.specs.declared.segment_machine.SegmentMachine.{SegmentMachine}
use Rattle.rt_controller.specs.declared.starting.NamedFile.{NamedFile}
use Rattle.rt_controller.proofs.KeepsRequests.{its_machine, made, All-added, All-replaced}
use Rattle.rt_controller.proofs.Turns.{told_turn, Tells}
use Rattle.rt_deep.specs.declared.refused.DeepRefused.{DeepRefused}
use Rattle.rt_deep.specs.declared.refused.DeepRefused.TheVariants as deep
use Rattle.rt_fsm.specs.Laws.{IsAfterPick, ReactsFor}
use Rattle.rt_fsm.proofs.Committer.{before_or_after, settled}
use Rattle.rt_fsm.proofs.Table.{by_react, by_test}
use Rattle.rt_lists.specs.Members.{Has}
use Rattle.rt_lists.proofs.Lists.{All-found}
use Rattle.rt_model.specs.Completion.{by_table, commit_end_in, commit_start_in, consumed_in, decided, extend_in, first, gathers, goes, loses, picks, react, stopped_in, with_note, with_pick, Completion, IsBeforePick}
use Rattle.rt_model.specs.Finished.{abandoned_row, committed_row}
use Rattle.rt_model.specs.Metadata.{BecameFinal, IsFinal, IsFinalStatus}
use Rattle.rt_model.specs.declared.completion.Ask.{Ask}
use Rattle.rt_model.specs.declared.completion.Ask.TheVariants as ask
use Rattle.rt_model.specs.declared.completion.Reaction.{Reaction}
use Rattle.rt_model.specs.declared.completion.Reaction.TheVariants as reaction
use Rattle.rt_model.specs.declared.completion.Said.{Said}
use Rattle.rt_model.specs.declared.completion.Said.TheVariants as said
use Rattle.rt_model.specs.declared.machine_state.MachineState.{MachineState}
use Rattle.rt_model.specs.declared.machine_state.MachineState.TheVariants as machine
use Rattle.rt_model.specs.declared.node.Key.TheVariants as key
use Rattle.rt_model.specs.declared.node.Node.{Node}
use Rattle.rt_model.specs.declared.node.Node.TheVariants as node
use Rattle.rt_model.specs.declared.node.Seen.{Seen}
use Rattle.rt_model.specs.declared.reply.ReplyStatus.{ReplyStatus}
use Rattle.rt_model.specs.declared.reply.ReplyStatus.TheVariants as status
use Rattle.rt_model.specs.declared.request.Reason.{Reason}
use Rattle.rt_model.specs.declared.request.Request.{Request}
use Rattle.rt_model.specs.declared.request.RequestKind.TheVariants as kind
use Rattle.rt_model.specs.declared.seg_meta.SeenMeta.{SeenMeta}
use Rattle.rt_model.specs.declared.setup.Setup.{Setup}
use Rattle.rt_model.specs.declared.status.Status.{Status}
use Rattle.rt_model.specs.declared.status.Status.TheVariants.{InProgress, Done, Abandoned}
use Rattle.rt_past.specs.Past.{Past}
use Rattle.rt_past.specs.Requests.{IsRequest}
use Rattle.rt_store.specs.Answers.{reading}
use Rattle.rt_store.specs.Calls.{answer_on}
use Rattle.rt_store.specs.Meaning.{Told}
use Rattle.rt_store.specs.declared.refused.StoreRefused.{StoreRefused}
use Rattle.rt_store.specs.declared.refused.StoreRefused.TheVariants.{NoNode, Exists, VersionChanged, Failed, Memory}
use Rattle.rt_store.proofs.Told.{read_on}
use Rattle.rt_heal.specs.Dropped.{GoesWith}
use Rattle.rt_heal.specs.Reachable.{ComesTo}
use Rattle.rt_heal.proofs.Machines.{first_reaches, reacts_reach, MachineReaches}

-- ---- by a status

pub goes_with : (C : Offset → Type 0) (D P : Type 0) (s : ReplyStatus) → ((x : Offset) → s ≡ status.CatchUp x → C x) → (s ≡ status.Discard → D)
    → (s ≡ status.Processed → P) → GoesWith C D P s
goes_with C D P (status.CatchUp x) c d p = c x refl
goes_with C D P status.Discard c d p = d refl
goes_with C D P status.Processed c d p = p refl
goes_with C D P status.Hold c d p = tt
goes_with C D P (status.Commit offset) c d p = tt
goes_with C D P (status.Keep seen) c d p = tt
goes_with C D P status.NotLeader c d p = tt
goes_with C D P status.CommitContinue c d p = tt
goes_with C D P (status.UploadSuccess path) c d p = tt
goes_with C D P (status.CommitSuccess seen) c d p = tt
goes_with C D P (status.Failed cause) c d p = tt

-- what is weaker goes with it too
pub goes_weaker : (C : Offset → Type 0) (D P : Type 0) (B : Offset → Type 0) (E Q : Type 0) (s : ReplyStatus) → ((x : Offset) → C x → B x) → (D → E) → (P → Q)
    → GoesWith C D P s → GoesWith B E Q s
goes_weaker C D P B E Q s f g k h =
    goes_with B E Q s (λ x e. f x (subst (GoesWith C D P) e h)) (λ e. g (subst (GoesWith C D P) e h)) (λ e. k (subst (GoesWith C D P) e h))

-- ---- a machine's answers

abbrev catching : Offset → Reaction
catching x = reaction.Answer (said.CatchUp x)

abbrev processing : Reaction
processing = reaction.Answer said.Processed

-- CATCH_UP names the offset of the machine, for which a committer was picked
abbrev CatchesUp : Reaction × Completion → Type 0
CatchesUp y = (x : Offset) → y.0 ≡ catching x → (x ≡ y.1.offset) × IsAfterPick y.1.state

same_catching : (x o : Offset) → catching o ≡ catching x → x ≡ o
same_catching x o e = cc

decided_catches : (m : Completion) (i : Instance) (x : Offset) → CatchesUp (decided m i x)
decided_catches m i x =
    by_test CatchesUp (i.0 == m.winner.0) _ _ (λ w o e. absurd (cc))
    (λ _. by_test CatchesUp (x.0 == m.offset.0) (reaction.Answer said.Hold, goes m machine.CommitterDecided)
    (reaction.Answer (said.CatchUp m.offset), goes m machine.CommitterDecided) (λ _ o e. absurd (cc)) (λ _ o e. (same_catching o m.offset e, tt)))

gathers_catches : (m : Completion) (i : Instance) (x : Offset) (r : Reason) (now : Moment) → CatchesUp (gathers m i x r now)
gathers_catches m i x r now =
    by_test CatchesUp (picks m i r now) _ _ (λ _. decided_catches (with_pick m i x now) i x) (λ _ o e. absurd (cc))

-- before a pick there are two states
by_before : (P : MachineState → Type 0) → P machine.PartialConsuming → P machine.Holding → (s : MachineState) → IsBeforePick s → P s
by_before P partial holding machine.PartialConsuming before = partial
by_before P partial holding machine.Holding before = holding
by_before P partial holding machine.CommitterDecided before = absurd before
by_before P partial holding machine.CommitterNotified before = absurd before
by_before P partial holding machine.CommitterUploading before = absurd before
by_before P partial holding machine.Committing before = absurd before
by_before P partial holding machine.Committed before = absurd before
by_before P partial holding machine.Aborted before = absurd before

table_catches : (m : Completion) (i : Instance) (what : Ask) (now : Moment) → IsBeforePick m.state → CatchesUp (by_table m i what now)
table_catches m i (ask.Consumed x r) now before =
    by_before (λ s. CatchesUp (consumed_in s m i x r now)) (gathers_catches (with_note m i x) i x r now) (gathers_catches (with_note m i x) i x r now) m.state before
table_catches m i (ask.CommitStart x) now before =
    by_before (λ s. CatchesUp (commit_start_in s m i x)) (λ o e. absurd (cc)) (λ o e. absurd (cc)) m.state before
table_catches m i (ask.CommitEnd x) now before =
    by_before (λ s. CatchesUp (commit_end_in s m i x)) (λ o e. absurd (cc)) (λ o e. absurd (cc)) m.state before
table_catches m i ask.Stopped now before =
    by_before (λ s. CatchesUp (stopped_in s m i)) (λ o e. absurd (cc)) (λ o e. absurd (cc)) m.state before
table_catches m i (ask.Extend millis) now before =
    by_before (λ s. CatchesUp (extend_in s m i millis now)) (λ o e. absurd (cc)) (λ o e. absurd (cc)) m.state before

react_catches : (m : Completion) (i : Instance) (what : Ask) (now : Moment) → CatchesUp (react m i what now)
react_catches m i what now = by_state (before_or_after m.state)
  where
    by_state : IsBeforePick m.state ⊎ IsAfterPick m.state → CatchesUp (react m i what now)
    by_state (inl before) =
        by_react CatchesUp m i what now (λ late x e. absurd (cc)) (λ x kept o e. absurd (cc)) (λ late start. table_catches m i what now before)
    by_state (inr later) =
        let k = settled m i what now later in
        λ x e. (subst (λ (r : Reaction). ReactsFor r i what m.winner m.offset) e k.reacts ∙ sym k.offset, k.after)

-- no stop is processed at once
abbrev IsUnprocessed : Reaction × Completion → Type 0
IsUnprocessed y = y.0 ≡ processing → ⊥

loses_unprocessed : (m : Completion) (i : Instance) → IsUnprocessed (loses m i)
loses_unprocessed m i =
    by_test IsUnprocessed (i.0 == m.winner.0) (reaction.StartOffline, goes m machine.Aborted) (reaction.StartOffline, m) (λ w e. cc) (λ o e. cc)

stop_unprocessed : (s : MachineState) (m : Completion) (i : Instance) → IsUnprocessed (stopped_in s m i)
stop_unprocessed machine.PartialConsuming m i = λ e. cc
stop_unprocessed machine.Holding m i = λ e. cc
stop_unprocessed machine.CommitterDecided m i = loses_unprocessed m i
stop_unprocessed machine.CommitterNotified m i = loses_unprocessed m i
stop_unprocessed machine.CommitterUploading m i = loses_unprocessed m i
stop_unprocessed machine.Committing m i = λ e. cc
stop_unprocessed machine.Committed m i = λ e. cc
stop_unprocessed machine.Aborted m i = λ e. cc

react_unprocessed : (m : Completion) (i : Instance) (now : Moment) → IsUnprocessed (react m i ask.Stopped now)
react_unprocessed m i now =
    by_react IsUnprocessed m i ask.Stopped now (λ late e. cc) (λ x kept e. cc) (λ late start. stop_unprocessed m.state m i)

-- ---- a segment that has ended sends nobody on

row_not : (seen : SeenMeta) (end x : Offset) (what : Ask) → committed_row seen end what ≡ status.CatchUp x → ⊥
row_not seen end x what = by_ask what
  where
    keeps_not : (y : Offset) (b : Bool) → cond b (status.Keep seen) status.Discard ≡ status.CatchUp x → ⊥
    keeps_not y true e = cc
    keeps_not y false e = cc

    by_ask : (a : Ask) → committed_row seen end a ≡ status.CatchUp x → ⊥
    by_ask (ask.Consumed y reason) e = keeps_not y (y.0 == end.0) e
    by_ask (ask.CommitStart y) e = keeps_not y (y.0 == end.0) e
    by_ask (ask.CommitEnd y) e = keeps_not y (y.0 == end.0) e
    by_ask ask.Stopped e = cc
    by_ask (ask.Extend millis) e = cc

abandoned_not : (x : Offset) (what : Ask) → abandoned_row what ≡ status.CatchUp x → ⊥
abandoned_not x (ask.Consumed y reason) e = cc
abandoned_not x (ask.CommitStart y) e = cc
abandoned_not x (ask.CommitEnd y) e = cc
abandoned_not x ask.Stopped e = cc
abandoned_not x (ask.Extend millis) e = cc

abbrev handling : Handling → Option Handling
handling x = Some x

same_handling : (x y : Handling) → handling x ≡ handling y → x ≡ y
same_handling x y e = cc

no_handling : (x : Handling) → handling x ≡ None → ⊥
no_handling x e = absurd (cc)

-- ---- a request

module _ (setup : Setup) (past : Past) (r : Request) (q : IsRequest setup past r) where
  abbrev HasEnded : Type 0
  HasEnded = BecameFinal past.history r.partition r.sequence.0

  abbrev Comes : Offset → Type 0
  Comes = ComesTo setup past r.partition r.sequence

  abbrev pub IsAnswered : ReplyStatus → Type 0
  IsAnswered s = GoesWith Comes HasEnded (r.kind ≡ kind.Stopped → HasEnded) s

  -- so is what is handed out for the request
  abbrev pub IsHandedOut : Handled → Type 0
  IsHandedOut (handled.Reply y) = (y.number ≡ r.number) × IsAnswered y.status
  IsHandedOut (handled.Job number) = Unit {0}

  -- and a replica can come to what the machines keep
  abbrev AllReach : List SegmentMachine → Type 0
  AllReach ms = All (MachineReaches setup past) ms

  abbrev IsRight : Handling → Type 0
  IsRight x = IsHandedOut x.handled × AllReach x.controller.machines

  ended_by : HasEnded → (s : ReplyStatus) → ((x : Offset) → s ≡ status.CatchUp x → ⊥) → IsAnswered s
  ended_by ended s never =
      goes_with Comes HasEnded (r.kind ≡ kind.Stopped → HasEnded) s (λ x e. absurd (never x e)) (λ e. ended) (λ e k. ended)

  -- ---- what a machine's reaction leads to

  abbrev IsLed : Result JobStage ReplyStatus → Type 0
  IsLed (Ok s) = Unit {0}
  IsLed (Err s) = IsAnswered s

  said_answers : (what : Said) → ((x : Offset) → what ≡ said.CatchUp x → Comes x) → (what ≡ said.Processed → r.kind ≡ kind.Stopped → ⊥)
      → IsAnswered (status_of what)
  said_answers (said.CatchUp x) catches never = catches x refl
  said_answers said.Processed catches never = λ k. absurd (never refl k)
  said_answers said.Hold catches never = tt
  said_answers (said.Commit x) catches never = tt
  said_answers said.CommitContinue catches never = tt
  said_answers (said.Failed because) catches never = tt

  led_answers : (file : Option NamedFile) (x : Reaction) → ((o : Offset) → x ≡ catching o → Comes o)
      → (x ≡ processing → r.kind ≡ kind.Stopped → ⊥) → IsLed (leads_to file x)
  led_answers file (reaction.Answer what) catches never =
      said_answers what (λ o e. catches o (ap (λ (s : Said). reaction.Answer s) e)) (λ e. never (ap (λ (s : Said). reaction.Answer s) e))
  led_answers None (reaction.StartCommit end) catches never = tt
  led_answers (Some file) (reaction.StartCommit end) catches never = tt
  led_answers file reaction.StartOffline catches never = tt

  follow_answers : (c : Controlling) (o : Result JobStage ReplyStatus) → AllReach c.machines → IsLed o → IsRight (follows_by c r o)
  follow_answers c (Ok s) all is = (tt, all)
  follow_answers c (Err s) all is = ((refl, is), all)

  -- what was handled so
  answered_so : (y x : Handling) → handling y ≡ handling x → IsRight y → IsRight x
  answered_so y x e own = subst IsRight (same_handling y x e) own

  -- an answer that is given at once
  replies_so : (c : Controlling) (s : ReplyStatus) (x : Handling) → handling (replies c r s) ≡ handling x → AllReach c.machines → IsAnswered s → IsRight x
  replies_so c s x is all so = answered_so (replies c r s) x is ((refl, so), all)

  module _ (comes : Comes r.offset) (c : Controlling) (assigned : c.assigned ≡ assigned_by setup) (all : AllReach c.machines) (now : Moment) where
    module _ (what : Ask) (asks : ask_in r.offset r.kind ≡ Some what) where
      -- a stop asks as one
      stops : r.kind ≡ kind.Stopped → what ≡ ask.Stopped
      stops k = sym (same_Some ask.Stopped what (sym (ap (ask_in r.offset) k) ∙ asks))

      -- a machine of the segment reacts
      reacts_answers : (d : Controlling) (m : SegmentMachine) (seen : SeenMeta) → m.partition ≡ r.partition → m.sequence ≡ r.sequence
          → MachineReaches setup past (with_machine m (react m.machine r.number.instance what now).1) → AllReach d.machines
          → IsRight (follows_by d r (leads_to (named_file r seen) (react m.machine r.number.instance what now).0))
      reacts_answers d m seen at_p at_q k left =
          let y = react m.machine r.number.instance what now in
          follow_answers d (leads_to (named_file r seen) y.0) left
          (led_answers (named_file r seen) y.0
          (λ o e.
          let named = react_catches m.machine r.number.instance what now o e in
          subst (λ (p : Partition). ComesTo setup past p r.sequence o) at_p
          (subst (λ (s : Sequence). ComesTo setup past m.partition s o) at_q
          (subst (λ (x : Offset). ComesTo setup past m.partition m.sequence x) (sym named.0) (k.offset named.1))))
          (λ e stop.
          react_unprocessed m.machine r.number.instance now
          (ap (λ (a : Ask). (react m.machine r.number.instance a now).0) (sym (stops stop)) ∙ e)))

      machine_answers : (place : ℕ) (o : Option SegmentMachine) (x : Handling) → machine_place c.machines r.partition r.sequence ≡ Some place
          → slice_get c.machines place ≡ o → at_machine c r now place what o ≡ Some x → IsRight x
      machine_answers place None x found at is = absurd (no_handling x (sym is))
      machine_answers place (Some m) x found at is =
          let its = its_machine c.machines r.partition r.sequence place m found at in
          let n = with_machine m (react m.machine r.number.instance what now).1 in
          let k = reacts_reach setup past r q comes what now asks m its.0 its.1
          (All-found (MachineReaches setup past) c.machines place m all at) in
          answered_so _ x is
          (reacts_answers (record c { machines = replaced c.machines place n }) m m.machine.seen its.0 its.1 k
          (All-replaced (MachineReaches setup past) c.machines place n all k))

      -- a segment without a machine is in progress, or has ended
      status_answers : (m : SeenMeta) (st : Status) → (IsFinalStatus st → HasEnded) → IsRight (by_status c r now what m st)
      status_answers m InProgress ended =
          let n = made r (first m (replicas_in c.assigned r.partition) (first_state what) now) in
          let y = with_machine n (react n.machine r.number.instance what now).1 in
          let k = reacts_reach setup past r q comes what now asks n refl refl (first_reaches setup past r q comes what now asks c.assigned m assigned) in
          reacts_answers (record c { machines = added c.machines y }) n m refl refl k (All-added (MachineReaches setup past) c.machines y all k)
      status_answers m (Done commit) ended =
          ((refl, ended_by (ended tt) (committed_row m commit.end what) (λ x. row_not m commit.end x what)), all)
      status_answers m Abandoned ended = ((refl, ended_by (ended tt) (abandoned_row what) (λ x. abandoned_not x what)), all)

      node_answers : (version : ℕ) (n : Node) → (IsFinal n → HasEnded) → IsRight (by_node c r now what version n)
      node_answers version (node.Meta meta) ended = status_answers (record { version = version; meta = meta }) meta.status ended
      node_answers version (node.Ideal i) ended = ((refl, tt), all)
      node_answers version node.Boot ended = ((refl, tt), all)
      node_answers version node.Gone ended = ((refl, tt), all)

      read_answers : (t : Told) (answer : Result Seen StoreRefused) (x : Handling) → t.writes ≡ past.history
          → answer_on t (reading (key.Meta r.partition r.sequence)) ≡ answer → after_read c r now what answer ≡ Some x → IsRight x
      read_answers t (Ok w) x same given is =
          let found = read_on t (key.Meta r.partition r.sequence) w given in
          answered_so _ x is
          (node_answers w.version w.node (λ final. (w, subst (λ (h : List Seen). Has h w) same found.0, found.1, final)))
      read_answers t (Err NoNode) x same given is = replies_so c _ x is all tt
      read_answers t (Err (Exists version)) x same given is = replies_so c _ x is all tt
      read_answers t (Err (VersionChanged expected version)) x same given is = replies_so c _ x is all tt
      read_answers t (Err Failed) x same given is = replies_so c _ x is all tt
      read_answers t (Err Memory) x same given is = absurd (no_handling x (sym is))

    put_answers : (path : List ℕ) (answer : Result (Unit {0}) DeepRefused) (x : Handling) → after_put c r path answer ≡ Some x → IsRight x
    put_answers path (Ok u) x is = replies_so c _ x is all tt
    put_answers path (Err deep.Absent) x is = replies_so c _ x is all tt
    put_answers path (Err (deep.OtherBytes kept offered)) x is = replies_so c _ x is all tt
    put_answers path (Err deep.Failed) x is = replies_so c _ x is all tt
    put_answers path (Err deep.Memory) x is = absurd (no_handling x (sym is))

    -- ---- the rule that applies to it

    rule_answers : (t : Told) (d : ToldDeep) (rule : Rule) (x : Handling) → t.writes ≡ past.history → Tells c r rule
        → handled_at c r now rule (answer_to t d (call_of r rule)) ≡ Some x → IsRight x
    rule_answers t d not_leading x same told is = replies_so c _ x is all tt
    rule_answers t d (uploads path bytes) x same told is = put_answers path _ x is
    rule_answers t d not_assigned x same told is = replies_so c _ x is all tt
    rule_answers t d past_last x same told is = replies_so c _ x is all tt
    rule_answers t d (has_machine place what) x same told is =
        machine_answers what told.2 place (slice_get c.machines place) x told.1 refl is
    rule_answers t d (has_none what) x same told is =
        read_answers what told.2 t (answer_on t (reading (key.Meta r.partition r.sequence))) x same refl is

    pub request_answers : (t : Told) (d : ToldDeep) (x : Handling) → t.writes ≡ past.history
        → handled_at c r now (turn_of c r) (answer_to t d (call_of r (turn_of c r))) ≡ Some x → IsRight x
    request_answers t d x same is = rule_answers t d (turn_of c r) x same (told_turn c r) is
