-- What a controller that leads makes of a request, exactly: the segment's machine reacts, or one that is made; or the segment is finished.
use Rattle.std.proofs.Common.{◌≡◌, ◌⊎◌, inl, inr, ℕ, ◌<◌, ◌==◌, not, nat_le, Bool, true, false, cond, List, [], Option, Some, None, Result, Ok, Err, refl, sym, ◌∙◌, ap, subst, arith, slice_get, unwrap_or, bytes_eq}
use Rattle.std.proofs.lemmas.Bool.{cond_both, leb-true, true≢false}
use Rattle.std.proofs.lemmas.Option.{none-some, same_Some}
use Rattle.rt_base.specs.declared.limits.TheConstants.{LAST_NUMBER}
use Rattle.rt_base.specs.declared.numbers.Instance.{Instance}
use Rattle.rt_base.specs.declared.numbers.Moment.{Moment}
use Rattle.rt_base.specs.declared.numbers.Partition.{Partition}
use Rattle.rt_base.specs.declared.numbers.Sequence.{Sequence}
use Rattle.rt_commit.specs.Assignment.{is_replica, replicas_in}
use Rattle.rt_commit.specs.Told.{answer_to, ToldDeep}
use Rattle.rt_commit.specs.declared.job.JobStage.{JobStage}
use Rattle.rt_controller.specs.Answers.{after_put, ask_in, follows_by, leads_to, named_file, Handling}
use Rattle.rt_controller.specs.Controller.{added, machine_place, replaced, with_machine, Controlling}
use Rattle.rt_controller.specs.Lasting.{HaveOneMachine}
use Rattle.rt_controller.specs.Requests.{after_read, asked_turn, at_machine, by_node, by_place, by_status, call_of, first_state, handled_at, has_machine, has_none, kind_turn, not_assigned, not_leading, past_last, turn_of, uploads, Turn as Rule}
use Rattle.rt_controller.specs.Right.{IsPossiblyHandled}
use Rattle.rt_controller.specs.Steps.{Handles}
use Rattle.rt_controller.specs.declared.handled.Handled.{Handled}
use Rattle.rt_controller.specs.declared.handled.Handled.TheVariants as handled
use Rattle.rt_controller.specs.declared.segment_machine.SegmentMachine.{SegmentMachine}
use Rattle.rt_controller.proofs.Telling.{told_request}
use Rattle.rt_controller.proofs.Turns.{told_turn, Tells}
use Rattle.rt_deep.specs.Answers.{compared_in, putting}
use Rattle.rt_deep.specs.Calls.{answer_on as deep_answer}
use Rattle.rt_deep.specs.Files.{file_of}
use Rattle.rt_deep.specs.Memory.{means as deep_means}
use Rattle.rt_deep.specs.declared.deep_put.DeepPut.{DeepPut}
use Rattle.rt_deep.specs.declared.refused.DeepRefused.{DeepRefused}
use Rattle.rt_deep.specs.declared.refused.DeepRefused.TheVariants as deep
use Rattle.rt_fsm.proofs.Table.{by_test}
use Rattle.rt_model.specs.Completion.{first, react, Completion}
use Rattle.rt_model.specs.History.{value_of}
use Rattle.rt_model.specs.declared.completion.Ask.{Ask}
use Rattle.rt_model.specs.declared.completion.Ask.TheVariants as ask
use Rattle.rt_model.specs.declared.node.Key.TheVariants as key
use Rattle.rt_model.specs.declared.node.Node.{Node}
use Rattle.rt_model.specs.declared.node.Node.TheVariants as node
use Rattle.rt_model.specs.declared.node.Seen.{Seen}
use Rattle.rt_model.specs.declared.reply.ReplyStatus.{ReplyStatus}
use Rattle.rt_model.specs.declared.reply.ReplyStatus.TheVariants as status
use Rattle.rt_model.specs.declared.request.Reason.{Reason}
use Rattle.rt_model.specs.declared.request.Request.{Request}
use Rattle.rt_model.specs.declared.request.RequestKind.{RequestKind}
use Rattle.rt_model.specs.declared.request.RequestKind.TheVariants as kind
use Rattle.rt_model.specs.declared.seg_meta.SeenMeta.{SeenMeta}
use Rattle.rt_model.specs.declared.seg_meta.SegMeta.{SegMeta}
use Rattle.rt_model.specs.declared.status.Status.{Status}
use Rattle.rt_model.specs.declared.status.Status.TheVariants.{Abandoned, Done, InProgress}
use Rattle.rt_store.specs.Answers.{found_in, reading}
use Rattle.rt_store.specs.Calls.{answer_on}
use Rattle.rt_store.specs.Meaning.{Told}
use Rattle.rt_store.specs.Memory.{means}
use Rattle.rt_store.specs.declared.refused.StoreRefused.TheVariants.{Failed}
use Rattle.rt_calm.specs.Again.{machine_of}
use Rattle.rt_calm.proofs.Awaited.{unless_ended}
use Rattle.rt_calm.proofs.Delivered.{not_led, unfaulted}
use Rattle.rt_calm.proofs.Machines.{added_turned, replaced_turned, IsTurned}

-- ---- what is given

-- what a reaction leads to is given: an answer, or a job
abbrev pub GivesBy : Result JobStage ReplyStatus → Handled → Type 0
GivesBy (Ok s) (handled.Job j) = Unit {0}
GivesBy (Err s) (handled.Reply y) = y.status ≡ s
GivesBy (Ok s) (handled.Reply y) = ⊥
GivesBy (Err s) (handled.Job j) = ⊥

-- a machine has reacted to what was asked, where the segment's one was this before
pub record HasReacted (ms ns : List SegmentMachine) (r : Request) (now : Moment) (what : Ask) (before : Option Completion) (m : Completion) (given : Handled) : Type 0 where
  pub turned : IsTurned ms ns r.partition r.sequence before (unless_ended (react m r.number.instance what now).1)
  pub gives : GivesBy (leads_to (named_file r m.seen) (react m r.number.instance what now).0) given

-- a report on a segment that isn't in progress is answered so
abbrev pub IsFinishedTold : ReplyStatus → Type 0
IsFinishedTold (status.Keep seen) = Unit {0}
IsFinishedTold status.Discard = Unit {0}
IsFinishedTold (status.Failed cause) = Unit {0}
IsFinishedTold status.Hold = ⊥
IsFinishedTold status.NotLeader = ⊥
IsFinishedTold (status.CatchUp x) = ⊥
IsFinishedTold (status.Commit x) = ⊥
IsFinishedTold status.CommitContinue = ⊥
IsFinishedTold (status.UploadSuccess path) = ⊥
IsFinishedTold (status.CommitSuccess seen) = ⊥
IsFinishedTold status.Processed = ⊥

abbrev pub FinishedSo : Handled → Type 0
FinishedSo (handled.Reply y) = IsFinishedTold y.status
FinishedSo (handled.Job j) = ⊥

abbrev pub UploadedSo : Handled → Type 0
UploadedSo (handled.Reply y) = (path : List ℕ) × (y.status ≡ status.UploadSuccess path)
UploadedSo (handled.Job j) = ⊥

-- a machine was made of the segment's node, which is in progress, and has reacted
pub record HasBegun (h : List Seen) (ms ns : List SegmentMachine) (r : Request) (replicas : List Instance) (now : Moment) (what : Ask) (given : Handled) : Type 0 where
  pub write : Seen
  pub there : value_of h (key.Meta r.partition r.sequence) ≡ Some write
  pub meta : SegMeta
  pub is : write.node ≡ node.Meta meta
  pub opened : meta.status ≡ InProgress
  pub reacted : HasReacted ms ns r now what None (first (record { version = write.version; meta = meta }) replicas (first_state what) now) given

-- ---- rules that don't apply

module _ (c : Controlling) (r : Request) (small : r.sequence.0 < LAST_NUMBER) where
  place_last : (o : Option ℕ) (what : Ask) → by_place o what ≡ past_last → ⊥
  place_last None what e = cc
  place_last (Some place) what e = cc

  asked_last : (what : Ask) → asked_turn c r what ≡ past_last → ⊥
  asked_last what =
      by_test (λ (rule : Rule). rule ≡ past_last → ⊥) (not (is_replica c.assigned r.partition r.number.instance)) not_assigned _ (λ other e. cc)
      (λ own. by_test (λ (rule : Rule). rule ≡ past_last → ⊥) (nat_le LAST_NUMBER r.sequence.0) past_last _
      (λ last e. omega (arith, leb-true LAST_NUMBER r.sequence.0 last, small))
      (λ early. place_last (machine_place c.machines r.partition r.sequence) what))

  kind_last : (k : RequestKind) → kind_turn c r k ≡ past_last → ⊥
  kind_last (kind.Upload path bytes) e = cc
  kind_last (kind.Consumed reason) e = asked_last (ask.Consumed r.offset reason) e
  kind_last kind.Stopped e = asked_last ask.Stopped e
  kind_last kind.CommitStart e = asked_last (ask.CommitStart r.offset) e
  kind_last (kind.CommitEnd path) e = asked_last (ask.CommitEnd r.offset) e
  kind_last (kind.Extend millis) e = asked_last (ask.Extend millis) e

  not_last : turn_of c r ≡ past_last → ⊥
  not_last e = by_leads c.leads e
    where
      by_leads : (b : Bool) → cond b (kind_turn c r r.kind) not_leading ≡ past_last → ⊥
      by_leads true f = kind_last r.kind f
      by_leads false f = cc

-- ---- a request

module _ (t : Told) (d : ToldDeep) (c : Controlling) (r : Request) (now : Moment) (leads : c.leads ≡ true) (small : r.sequence.0 < LAST_NUMBER)
    (one : HaveOneMachine c.machines) where
  abbrev p : Partition
  p = r.partition

  abbrev q : Sequence
  q = r.sequence

  abbrev i : Instance
  i = r.number.instance

  abbrev made_by : Rule → Option Handling
  made_by rule = handled_at c r now rule (answer_to t d (call_of r rule))

  module _ (x : Handling) (possible : IsPossiblyHandled x.handled) where
    -- what can't come of it
    impossible : (y : Handling) → (IsPossiblyHandled y.handled → ⊥) → Some y ≡ Some x → ⊥
    impossible y never e = never (subst (λ (z : Handling). IsPossiblyHandled z.handled) (sym (same_Some y x e)) possible)

    never_led : turn_of c r ≡ not_leading → ⊥
    never_led is = true≢false (sym leads ∙ not_led c r is)

    follows_so : (ms : List SegmentMachine) (o : Result JobStage ReplyStatus) (y : Handling) → y ≡ follows_by (record c { machines = ms }) r o
        → (y.controller.machines ≡ ms) × GivesBy o y.handled
    follows_so ms (Ok s) y is =
        (ap (λ (z : Handling). z.controller.machines) is, subst (λ (z : Handling). GivesBy (Ok s) z.handled) (sym is) tt)
    follows_so ms (Err s) y is =
        (ap (λ (z : Handling). z.controller.machines) is, subst (λ (z : Handling). GivesBy (Err s) z.handled) (sym is) refl)

    reacts : (m : Completion) (before : Option Completion) (what : Ask) (ms : List SegmentMachine) → IsTurned c.machines ms p q before (unless_ended (react m i what now).1)
        → Some (follows_by (record c { machines = ms }) r (leads_to (named_file r m.seen) (react m i what now).0)) ≡ Some x
        → HasReacted c.machines x.controller.machines r now what before m x.handled
    reacts m before what ms turned e =
        let so = follows_so ms (leads_to (named_file r m.seen) (react m i what now).0) x (sym (same_Some _ x e)) in
        record {
          turned = subst (λ (ns : List SegmentMachine). IsTurned c.machines ns p q before (unless_ended (react m i what now).1)) (sym so.0) turned;
          gives = so.1;
        }

    -- ---- the segment has a machine

    at_place : (place : ℕ) (what : Ask) (o : Option SegmentMachine) → machine_place c.machines p q ≡ Some place → slice_get c.machines place ≡ o
        → at_machine c r now place what o ≡ Some x
        → (m : Completion) × (machine_of c.machines p q ≡ Some m) × HasReacted c.machines x.controller.machines r now what (Some m) m x.handled
    at_place place what None there at e = absurd (none-some x e)
    at_place place what (Some g) there at e =
        let y = react g.machine i what now in
        let turned = replaced_turned c.machines p q place g y.1 one there at in
        (g.machine, turned.before, reacts g.machine (Some g.machine) what (replaced c.machines place (with_machine g y.1)) turned e)

    module _ (m : Completion) (has : machine_of c.machines p q ≡ Some m) (what : Ask) (asks : ask_in r.offset r.kind ≡ Some what) where
      abbrev Reacted : Type 0
      Reacted = HasReacted c.machines x.controller.machines r now what (Some m) m x.handled

      own_reacts : (what_else : Ask) → ask_in r.offset r.kind ≡ Some what_else
          → (g : Completion) × (machine_of c.machines p q ≡ Some g) × HasReacted c.machines x.controller.machines r now what_else (Some g) g x.handled → Reacted
      own_reacts what_else asked (g, is, k) =
          subst (λ (a : Ask). HasReacted c.machines x.controller.machines r now a (Some m) m x.handled) (same_Some what_else what (sym asked ∙ asks))
          (subst (λ (n : Completion). HasReacted c.machines x.controller.machines r now what_else (Some n) n x.handled) (same_Some g m (sym is ∙ has)) k)

      machine_rule : (rule : Rule) → turn_of c r ≡ rule → Tells c r rule → made_by rule ≡ Some x → Reacted
      machine_rule not_leading is told e = absurd (never_led is)
      machine_rule (uploads path bytes) is told e = absurd (none-some what (sym (ap (ask_in r.offset) told) ∙ asks))
      machine_rule not_assigned is told e = absurd (impossible _ (λ k. k) e)
      machine_rule past_last is told e = absurd (not_last c r small is)
      machine_rule (has_machine place what_else) is told e =
          own_reacts what_else told.2 (at_place place what_else (slice_get c.machines place) told.1 refl e)
      machine_rule (has_none what_else) is told e =
          absurd (none-some m (sym (added_turned c.machines (record { partition = p; sequence = q; machine = m }) told.1).before ∙ has))

    -- ---- it has none, and a report comes

    module _ (none : machine_of c.machines p q ≡ None) (unplanned : t.faults.plan ≡ []) (reason : Reason) (reports : r.kind ≡ kind.Consumed reason) where
      abbrev h : List Seen
      h = t.writes

      abbrev what : Ask
      what = ask.Consumed r.offset reason

      abbrev Begun : Type 0
      Begun = HasBegun h c.machines x.controller.machines r (replicas_in c.assigned p) now what x.handled
          ⊎ ((x.controller.machines ≡ c.machines) × FinishedSo x.handled)

      finished : (y : Handling) → y.controller.machines ≡ c.machines → FinishedSo y.handled → Some y ≡ Some x → Begun
      finished y machines so e =
          inr (subst (λ (z : Handling). (z.controller.machines ≡ c.machines) × FinishedSo z.handled) (same_Some y x e) (machines, so))

      node_begins : machine_place c.machines p q ≡ None → (w : Seen) (n : Node) → value_of h (key.Meta p q) ≡ Some w → w.node ≡ n
          → Some (by_node c r now what w.version n) ≡ Some x → Begun
      node_begins free w (node.Meta meta) there is e = by_state meta.status refl e
        where
          seen : SeenMeta
          seen = record { version = w.version; meta = meta }

          by_state : (s : Status) → meta.status ≡ s → Some (by_status c r now what seen s) ≡ Some x → Begun
          by_state InProgress opened f =
              let m = first seen (replicas_in c.assigned p) (first_state what) now in
              let y = react m i what now in
              inl (record {
                write = w;
                there = there;
                meta = meta;
                is = is;
                opened = opened;
                reacted =
                    reacts m None what (added c.machines (record { partition = p; sequence = q; machine = y.1 }))
                    (added_turned c.machines (record { partition = p; sequence = q; machine = y.1 }) free) f;
              })
          by_state (Done commit) opened f =
              finished _ refl
              (cond_both (r.offset.0 == commit.end.0) (status.Keep seen) status.Discard IsFinishedTold (λ e. tt) (λ e. tt)) f
          by_state Abandoned opened f = finished _ refl tt f
      node_begins free w (node.Ideal ideal) there is e = finished _ refl tt e
      node_begins free w node.Boot there is e = finished _ refl tt e
      node_begins free w node.Gone there is e = finished _ refl tt e

      value_begins : machine_place c.machines p q ≡ None → (o : Option Seen) → value_of h (key.Meta p q) ≡ o → after_read c r now what (found_in o) ≡ Some x → Begun
      value_begins free None there e = finished _ refl tt e
      value_begins free (Some w) there e = node_begins free w w.node there refl e

      none_rule : (rule : Rule) → turn_of c r ≡ rule → Tells c r rule → made_by rule ≡ Some x → Begun
      none_rule not_leading is told e = absurd (never_led is)
      none_rule (uploads path bytes) is told e = absurd (none-some what (sym (ap (ask_in r.offset) told) ∙ ap (ask_in r.offset) reports))
      none_rule not_assigned is told e = absurd (impossible _ (λ k. k) e)
      none_rule past_last is told e = absurd (not_last c r small is)
      none_rule (has_machine place what_else) is told e =
          let at = at_place place what_else (slice_get c.machines place) told.1 refl e in absurd (none-some at.0 (sym none ∙ at.1))
      none_rule (has_none what_else) is told e =
          let same : what_else ≡ what = same_Some what_else what (sym told.2 ∙ ap (ask_in r.offset) reports) in
          value_begins told.1 (value_of h (key.Meta p q)) refl
          (sym (ap (λ (a : Ask). after_read c r now a (answer_on t (reading (key.Meta p q)))) same
          ∙ ap (after_read c r now what) (unfaulted Failed t.faults.plan (reading (key.Meta p q) h) unplanned)) ∙ e)

    -- ---- an upload

    module _ (fetches : d.faults.plan ≡ []) (path bytes : List ℕ) (puts_it : r.kind ≡ kind.Upload path bytes) where
      abbrev Uploaded : Type 0
      Uploaded = (x.controller.machines ≡ c.machines) × UploadedSo x.handled

      module _ (at_path them : List ℕ) where
        abbrev put : DeepPut
        put = record { path = at_path; bytes = them }

        abbrev IsPut : Result (Unit {0}) DeepRefused → Type 0
        IsPut answer = after_put c r at_path answer ≡ Some x → Uploaded

        was_put : IsPut (Ok tt)
        was_put e =
            subst (λ (z : Handling). (z.controller.machines ≡ c.machines) × UploadedSo z.handled) (same_Some _ x e) (refl, (at_path, refl))

        compared : (kept offered : List ℕ) (b : Bool) → IsPut (cond b (Ok tt) (Err (deep.OtherBytes kept offered)))
        compared kept offered true e = was_put e
        compared kept offered false e = absurd (impossible _ (λ k. k) e)

        file_put : (o : Option DeepPut) → IsPut (unwrap_or (compared_in o them) (Ok tt))
        file_put None e = was_put e
        file_put (Some file) e = compared _ _ (bytes_eq file.bytes them) e

        put_so : IsPut (deep_answer d (putting put))
        put_so e = file_put (file_of d.files at_path) (sym (ap (after_put c r at_path) (unfaulted deep.Failed d.faults.plan (putting put d.files) fetches)) ∙ e)

      asks_nothing : (what : Ask) → ask_in r.offset r.kind ≡ Some what → ⊥
      asks_nothing what asks = none-some what (sym (ap (ask_in r.offset) puts_it) ∙ asks)

      upload_rule : (rule : Rule) → turn_of c r ≡ rule → Tells c r rule → made_by rule ≡ Some x → Uploaded
      upload_rule not_leading is told e = absurd (never_led is)
      upload_rule (uploads at_path them) is told e = put_so at_path them e
      upload_rule not_assigned is told e = absurd (impossible _ (λ k. k) e)
      upload_rule past_last is told e = absurd (not_last c r small is)
      upload_rule (has_machine place what) is told e = absurd (asks_nothing what told.2)
      upload_rule (has_none what) is told e = absurd (asks_nothing what told.2)

  -- ---- as it is handled

  module _ (u : Told) (e : ToldDeep) (new : Controlling) (given : Handled)
      (handles : Handles {E = Unit {0}} (means t) (means u) (deep_means d) (deep_means e) c r now new (Ok given)) (possible : IsPossiblyHandled given) where
    abbrev x : Handling
    x = record { controller = new; handled = given }

    made : made_by (turn_of c r) ≡ Some x
    made = (told_request t u d e c r now x handles).made

    pub machine_reacts : (m : Completion) → machine_of c.machines p q ≡ Some m → (what : Ask) → ask_in r.offset r.kind ≡ Some what
        → HasReacted c.machines new.machines r now what (Some m) m given
    machine_reacts m has what asks = machine_rule x possible m has what asks (turn_of c r) refl (told_turn c r) made

    pub report_begins : machine_of c.machines p q ≡ None → t.faults.plan ≡ [] → (reason : Reason) → r.kind ≡ kind.Consumed reason
        → HasBegun t.writes c.machines new.machines r (replicas_in c.assigned p) now (ask.Consumed r.offset reason) given
        ⊎ ((new.machines ≡ c.machines) × FinishedSo given)
    report_begins none unplanned reason reports = none_rule x possible none unplanned reason reports (turn_of c r) refl (told_turn c r) made

    pub upload_puts : d.faults.plan ≡ [] → (path bytes : List ℕ) → r.kind ≡ kind.Upload path bytes → (new.machines ≡ c.machines) × UploadedSo given
    upload_puts fetches path bytes puts_it = upload_rule x possible fetches path bytes puts_it (turn_of c r) refl (told_turn c r) made
