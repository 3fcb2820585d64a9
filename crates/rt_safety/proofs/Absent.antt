-- FAILED 4 is answered exactly where a segment's node is found to be absent: by a controller that reads it.
use Rattle.std.proofs.Common.{◌≡◌, ℕ, ◌==◌, Bool, true, false, cond, not, nat_le, List, [], ◌∷◌, Option, Some, None, Result, Ok, Err, refl, sym, ◌∙◌, ap, subst}
use Rattle.std.specs.Prelude.{IsSome, slice_get}
use Rattle.std.proofs.lemmas.Bool.{cond_both, false≢true, leb-false, lt-leb}
use Rattle.std.proofs.lemmas.Option.{same_Some}
use Rattle.rt_base.specs.Faults.{answer_under, fault_of}
use Rattle.rt_base.specs.declared.fault.Fault.{Fault}
use Rattle.rt_base.specs.declared.fault.Fault.TheVariants.{Nothing, Lost, Kept}
use Rattle.rt_base.specs.declared.limits.TheConstants.{LAST_NUMBER}
use Rattle.rt_base.specs.declared.numbers.Moment.{Moment}
use Rattle.rt_base.specs.declared.numbers.Offset.{Offset}
use Rattle.rt_model.specs.Chain.{IsLife}
use Rattle.rt_model.specs.Completion.{Completion, first, react}
use Rattle.rt_model.specs.Finished.{keeps, committed_row, abandoned_row}
use Rattle.rt_model.specs.History.{last_of, value_by, value_in, value_of}
use Rattle.rt_model.specs.Metadata.{Ends, IsOpen}
use Rattle.rt_model.specs.declared.completion.Ask.{Ask}
use Rattle.rt_model.specs.declared.completion.Ask.TheVariants as ask
use Rattle.rt_model.specs.declared.completion.Reaction.{Reaction}
use Rattle.rt_model.specs.declared.completion.Reaction.TheVariants as reaction
use Rattle.rt_model.specs.declared.completion.Said.{Said}
use Rattle.rt_model.specs.declared.completion.Said.TheVariants as said
use Rattle.rt_model.specs.declared.node.Key.TheVariants as key
use Rattle.rt_model.specs.declared.node.Node.{Node}
use Rattle.rt_model.specs.declared.node.Node.TheVariants as node
use Rattle.rt_model.specs.declared.node.Seen.{Seen}
use Rattle.rt_model.specs.declared.reply.FailCause.{FailCause}
use Rattle.rt_model.specs.declared.reply.FailCause.TheVariants as cause
use Rattle.rt_model.specs.declared.reply.ReplyStatus.TheVariants as status
use Rattle.rt_model.specs.declared.request.Request.{Request}
use Rattle.rt_model.specs.declared.request.RequestKind.{RequestKind}
use Rattle.rt_model.specs.declared.request.RequestKind.TheVariants as kind
use Rattle.rt_model.specs.declared.seg_meta.SegMeta.{SegMeta}
use Rattle.rt_model.specs.declared.seg_meta.SeenMeta.{SeenMeta}
use Rattle.rt_model.specs.declared.status.Status.{Status}
use Rattle.rt_model.specs.declared.status.Status.TheVariants.{InProgress, Done, Abandoned}
use Rattle.rt_deep.specs.declared.refused.DeepRefused.{DeepRefused}
use Rattle.rt_deep.specs.declared.refused.DeepRefused.TheVariants as deep
use Rattle.rt_store.specs.Answers.{found_in, reading}
use Rattle.rt_store.specs.Calls.{answer_on}
use Rattle.rt_store.specs.Meaning.{Told}
use Rattle.rt_store.specs.declared.refused.StoreRefused.{StoreRefused}
use Rattle.rt_store.specs.declared.refused.StoreRefused.TheVariants.{NoNode, Failed}
use Rattle.rt_commit.specs.Assignment.{is_replica, replicas_in}
use Rattle.rt_controller.specs.Answers.{Handling, after_put, ask_in, commit_stage, fails, follows, follows_by, named_file, status_of}
use Rattle.rt_controller.specs.Requests.{Turn, not_leading, uploads, not_assigned, past_last, has_machine, has_none, after_read, asked_turn, at_machine, by_node, by_place, by_status, call_of, first_state, handled_at, kind_turn, turn_of}
use Rattle.rt_controller.specs.Controller.{Controlling, machine_place}
use Rattle.rt_commit.specs.Told.{ToldDeep, answer_to}
use Rattle.rt_controller.specs.declared.handled.Handled.{Handled}
use Rattle.rt_controller.specs.declared.handled.Handled.TheVariants as handled
use Rattle.rt_controller.specs.declared.segment_machine.SegmentMachine.{SegmentMachine}
use Rattle.rt_controller.specs.declared.starting.NamedFile.{NamedFile}
use Rattle.rt_controller.proofs.Reacting.{IsOwn, IsOwnCause, IsOwnSaid, owned}
use Rattle.rt_safety.specs.Absent.{FindsNone, IsNoSegment, ReadsNode}

-- ---- what stands of a segment is its metadata

abbrev pub IsMeta : Node → Type 0
IsMeta n = (m : SegMeta) × (n ≡ node.Meta m)

open_meta : (n : Node) → IsOpen n → IsMeta n
open_meta (node.Meta m) o = (m, refl)
open_meta (node.Ideal i) o = absurd o
open_meta node.Boot o = absurd o
open_meta node.Gone o = absurd o

end_meta : (a b : Node) → Ends a b → IsMeta b
end_meta (node.Meta a) (node.Meta b) e = (b, refl)
end_meta (node.Meta a) (node.Ideal i) e = absurd e
end_meta (node.Meta a) node.Boot e = absurd e
end_meta (node.Meta a) node.Gone e = absurd e
end_meta (node.Ideal i) b e = absurd e
end_meta node.Boot b e = absurd e
end_meta node.Gone b e = absurd e

abbrev seen : Seen → Option Seen
seen w = Some w

same_value : (v w : Seen) → IsMeta v.node → value_by v.node v ≡ seen w → IsMeta w.node
same_value v w (m, is) e =
    let same : v ≡ w = same_Some v w (sym (ap (λ n. value_by n v) is) ∙ e) in (m, ap (λ (z : Seen). z.node) (sym same) ∙ is)

gone_value : (g w : Seen) → g.node ≡ node.Gone → value_by g.node g ≡ seen w → ⊥
gone_value g w is e = no_value w (sym (ap (λ n. value_by n g) is) ∙ e)
  where
    no_value : (w : Seen) → None ≡ seen w → ⊥
    no_value w e = cc

pub life_is_meta : (ws : List Seen) (w : Seen) → IsLife ws → value_in (last_of ws) ≡ seen w → IsMeta w.node
life_is_meta [] w life e = absurd (cc)
life_is_meta (c ∷ []) w life e = same_value c w (open_meta c.node life) e
life_is_meta (c ∷ d ∷ []) w life e = same_value d w (end_meta c.node d.node life.1) e
life_is_meta (c ∷ d ∷ g ∷ []) w life e = absurd (gone_value g w life.2 e)
life_is_meta (c ∷ d ∷ g ∷ x ∷ ws) w life e = absurd life

-- ---- the rules up to the node

-- what stands at this key, if something does, is metadata
abbrev pub HasMeta : Told → Request → Type 0
HasMeta t r = (w : Seen) → value_of t.writes (key.Meta r.partition r.sequence) ≡ Some w → IsMeta w.node

not_none : (a : Ask) → not_leading ≡ has_none a → ⊥
not_none a e = cc

module _ (c : Controlling) (r : Request) (what : Ask) where
  placed : (a : Ask) (o : Option ℕ) → by_place o a ≡ has_none what → o ≡ None
  placed a None e = refl
  placed a (Some place) e = absurd (cc)

  asked_reads : (a : Ask) → c.leads ≡ true → IsSome (ask_in r.offset r.kind) → asked_turn c r a ≡ has_none what → ReadsNode c r
  asked_reads a leads asks e = by_assigned (is_replica c.assigned r.partition r.number.instance) refl e
    where
      rest : Turn
      rest = by_place (machine_place c.machines r.partition r.sequence) a

      by_last : (b : Bool) → nat_le LAST_NUMBER r.sequence.0 ≡ b → is_replica c.assigned r.partition r.number.instance ≡ true → cond b past_last rest ≡ has_none what
          → ReadsNode c r
      by_last true is assigned e = absurd (cc)
      by_last false is assigned e =
          record {
            leads = leads;
            asks = asks;
            assigned = assigned;
            followed = leb-false LAST_NUMBER r.sequence.0 is;
            alone = placed a (machine_place c.machines r.partition r.sequence) e;
          }

      by_assigned : (b : Bool) → is_replica c.assigned r.partition r.number.instance ≡ b
          → cond (not b) not_assigned (cond (nat_le LAST_NUMBER r.sequence.0) past_last rest) ≡ has_none what → ReadsNode c r
      by_assigned true is e = by_last (nat_le LAST_NUMBER r.sequence.0) refl is e
      by_assigned false is e = absurd (cc)

  kind_reads : (k : RequestKind) → r.kind ≡ k → c.leads ≡ true → kind_turn c r k ≡ has_none what → ReadsNode c r
  kind_reads (kind.Upload path bytes) is leads e = absurd (cc)
  kind_reads (kind.Consumed reason) is leads e = asked_reads _ leads (subst (λ k. IsSome (ask_in r.offset k)) (sym is) refl) e
  kind_reads kind.Stopped is leads e = asked_reads _ leads (subst (λ k. IsSome (ask_in r.offset k)) (sym is) refl) e
  kind_reads kind.CommitStart is leads e = asked_reads _ leads (subst (λ k. IsSome (ask_in r.offset k)) (sym is) refl) e
  kind_reads (kind.CommitEnd path) is leads e = asked_reads _ leads (subst (λ k. IsSome (ask_in r.offset k)) (sym is) refl) e
  kind_reads (kind.Extend millis) is leads e = asked_reads _ leads (subst (λ k. IsSome (ask_in r.offset k)) (sym is) refl) e

  pub turn_reads : turn_of c r ≡ has_none what → ReadsNode c r
  turn_reads e = by_leading c.leads refl e
    where
      by_leading : (b : Bool) → c.leads ≡ b → cond b (kind_turn c r r.kind) not_leading ≡ has_none what → ReadsNode c r
      by_leading true is e = kind_reads r.kind refl is e
      by_leading false is e = absurd (not_none what e)

-- and back
module _ (c : Controlling) (r : Request) (k : ReadsNode c r) where
  asked_none : (a : Ask) → asked_turn c r a ≡ has_none a
  asked_none a =
      let rest : Turn = by_place (machine_place c.machines r.partition r.sequence) a in
      ap (λ b. cond (not b) not_assigned (cond (nat_le LAST_NUMBER r.sequence.0) past_last rest)) k.assigned
      ∙ ap (λ b. cond b past_last rest) (lt-leb LAST_NUMBER r.sequence.0 k.followed) ∙ ap (λ o. by_place o a) k.alone

  kind_none : (n : RequestKind) → IsSome (ask_in r.offset n) → (what : Ask) × (kind_turn c r n ≡ has_none what)
  kind_none (kind.Upload path bytes) asks = absurd (false≢true asks)
  kind_none (kind.Consumed reason) asks = (ask.Consumed r.offset reason, asked_none (ask.Consumed r.offset reason))
  kind_none kind.Stopped asks = (ask.Stopped, asked_none ask.Stopped)
  kind_none kind.CommitStart asks = (ask.CommitStart r.offset, asked_none (ask.CommitStart r.offset))
  kind_none (kind.CommitEnd path) asks = (ask.CommitEnd r.offset, asked_none (ask.CommitEnd r.offset))
  kind_none (kind.Extend millis) asks = (ask.Extend millis, asked_none (ask.Extend millis))

  pub reads_turn : (what : Ask) × (turn_of c r ≡ has_none what)
  reads_turn =
      let x = kind_none r.kind k.asks in (x.0, ap (λ b. cond b (kind_turn c r r.kind) not_leading) k.leads ∙ x.1)

-- ---- no other answer is FAILED 4

abbrev pub IsNone : Handled → Type 0
IsNone (handled.Reply r) = IsNoSegment r.status
IsNone (handled.Job n) = ⊥

abbrev Never : Handling → Type 0
Never x = IsNone x.handled → ⊥

same_cause : (because : FailCause) → IsNoSegment (status.Failed because) → because ≡ cause.NoSegment
same_cause because e = cc

own_said : (what : Said) → IsOwnSaid what → IsNoSegment (status_of what) → ⊥
own_said said.Hold own e = cc
own_said (said.CatchUp x) own e = cc
own_said (said.Commit x) own e = cc
own_said said.CommitContinue own e = cc
own_said said.Processed own e = cc
own_said (said.Failed because) own e = subst IsOwnCause (same_cause because e) own

started_never : (c : Controlling) (r : Request) (end : Offset) (file : Option NamedFile) → Never (follows_by c r (commit_stage end file))
started_never c r end None e = cc
started_never c r end (Some file) e = e

follows_never : (c : Controlling) (r : Request) (seen : SeenMeta) (m : Completion) (y : Reaction) → IsOwn m y → Never (follows c r seen y)
follows_never c r seen m (reaction.Answer what) own = own_said what own
follows_never c r seen m (reaction.StartCommit end) own = started_never c r end (named_file r seen)
follows_never c r seen m reaction.StartOffline own = λ e. e

keeps_never : (seen : SeenMeta) (end x : Offset) → IsNoSegment (keeps seen end x) → ⊥
keeps_never seen end x = cond_both (x.0 == end.0) (status.Keep seen) status.Discard (λ s. IsNoSegment s → ⊥) (λ e h. cc) (λ e h. cc)

row_never : (seen : SeenMeta) (end : Offset) (what : Ask) → IsNoSegment (committed_row seen end what) → ⊥
row_never seen end (ask.Consumed x reason) = keeps_never seen end x
row_never seen end (ask.CommitStart x) = keeps_never seen end x
row_never seen end (ask.CommitEnd x) = keeps_never seen end x
row_never seen end ask.Stopped = λ h. cc
row_never seen end (ask.Extend millis) = λ h. cc

abandoned_never : (what : Ask) → IsNoSegment (abandoned_row what) → ⊥
abandoned_never (ask.Consumed x reason) = λ h. cc
abandoned_never (ask.CommitStart x) = λ h. cc
abandoned_never (ask.CommitEnd x) = λ h. cc
abandoned_never ask.Stopped = λ h. cc
abandoned_never (ask.Extend millis) = λ h. cc

status_never : (c : Controlling) (r : Request) (now : Moment) (what : Ask) (m : SeenMeta) (s : Status) → Never (by_status c r now what m s)
status_never c r now what m InProgress =
    let n = first m (replicas_in c.assigned r.partition) (first_state what) now in
    let y = react n r.number.instance what now in
    follows_never _ r m n y.0 (owned n r.number.instance what now).own
status_never c r now what m (Done commit) = row_never m commit.end what
status_never c r now what m Abandoned = abandoned_never what

-- what is made of a request is this one
given : (x y : Handling) (o : Option Handling) → o ≡ Some x → o ≡ Some y → Never x → Never y
given x y o e f k = subst Never (same_Some x y (sym e ∙ f)) k

-- ---- a node that is read

module _ (t : Told) (c : Controlling) (r : Request) (now : Moment) (what : Ask) (x : Handling) (meta : HasMeta t r) (none : IsNone x.handled) where
  abbrev under : Fault → Result Seen StoreRefused
  under f = answer_under Failed f (reading (key.Meta r.partition r.sequence) t.writes)

  failed_never : after_read c r now what (Err Failed) ≡ Some x → ⊥
  failed_never e = given (fails c r cause.StoreFault) x (after_read c r now what (Err Failed)) refl e (λ h. cc) none

  node_never : (w : Seen) → IsMeta w.node → after_read c r now what (Ok w) ≡ Some x → ⊥
  node_never w (m, is) e =
      given (by_node c r now what w.version w.node) x (after_read c r now what (Ok w)) refl e
      (subst (λ n. Never (by_node c r now what w.version n)) (sym is) (status_never c r now what (record { version = w.version; meta = m }) m.status)) none

  by_value : (o : Option Seen) → value_of t.writes (key.Meta r.partition r.sequence) ≡ o → after_read c r now what (found_in o) ≡ Some x
      → value_of t.writes (key.Meta r.partition r.sequence) ≡ None
  by_value None is e = is
  by_value (Some w) is e = absurd (node_never w (meta w is) e)

  by_fault : (f : Fault) → fault_of t.faults.plan ≡ f → after_read c r now what (under f) ≡ Some x → FindsNone t r.partition r.sequence
  by_fault Nothing is e = record { faultless = is; none = by_value (value_of t.writes (key.Meta r.partition r.sequence)) refl e }
  by_fault Lost is e = absurd (failed_never e)
  by_fault Kept is e = absurd (failed_never e)

  read_none : after_read c r now what (answer_on t (reading (key.Meta r.partition r.sequence))) ≡ Some x → FindsNone t r.partition r.sequence
  read_none e = by_fault (fault_of t.faults.plan) refl e

-- ---- an upload

put_never : (c : Controlling) (r : Request) (path : List ℕ) (answer : Result (Unit {0}) DeepRefused) (x : Handling) → after_put c r path answer ≡ Some x → Never x
put_never c r path (Ok u) x e = given _ x (after_put c r path (Ok u)) refl e (λ h. cc)
put_never c r path (Err deep.Absent) x e = given _ x (after_put c r path (Err deep.Absent)) refl e (λ h. cc)
put_never c r path (Err (deep.OtherBytes kept offered)) x e = given _ x (after_put c r path (Err (deep.OtherBytes kept offered))) refl e (λ h. cc)
put_never c r path (Err deep.Failed) x e = given _ x (after_put c r path (Err deep.Failed)) refl e (λ h. cc)
put_never c r path (Err deep.Memory) x e = absurd (cc)

slot_never : (c : Controlling) (r : Request) (now : Moment) (place : ℕ) (what : Ask) (o : Option SegmentMachine) (x : Handling)
    → at_machine c r now place what o ≡ Some x → Never x
slot_never c r now place what None x e = absurd (cc)
slot_never c r now place what (Some m) x e =
    let y = react m.machine r.number.instance what now in
    given _ x (at_machine c r now place what (Some m)) refl e (follows_never _ r m.machine.seen m.machine y.0 (owned m.machine r.number.instance what now).own)

-- ---- a request

turn_none : (t : Told) (d : ToldDeep) (c : Controlling) (r : Request) (now : Moment) (x : Handling) → HasMeta t r → (turn : Turn) → turn_of c r ≡ turn
    → handled_at c r now turn (answer_to t d (call_of r turn)) ≡ Some x → IsNone x.handled → ReadsNode c r × FindsNone t r.partition r.sequence
turn_none t d c r now x meta not_leading is e none = absurd (given _ x _ refl e (λ h. cc) none)
turn_none t d c r now x meta (uploads path bytes) is e none = absurd (put_never c r path _ x e none)
turn_none t d c r now x meta not_assigned is e none = absurd (given _ x _ refl e (λ h. cc) none)
turn_none t d c r now x meta past_last is e none = absurd (given _ x _ refl e (λ h. cc) none)
turn_none t d c r now x meta (has_machine place what) is e none = absurd (slot_never c r now place what (slice_get c.machines place) x e none)
turn_none t d c r now x meta (has_none what) is e none = (turn_reads c r what is, read_none t c r now what x meta none e)

-- a request that is answered FAILED 4
pub handled_none : (t : Told) (d : ToldDeep) (c : Controlling) (r : Request) (now : Moment) (x : Handling) → HasMeta t r
    → handled_at c r now (turn_of c r) (answer_to t d (call_of r (turn_of c r))) ≡ Some x → IsNone x.handled → ReadsNode c r × FindsNone t r.partition r.sequence
handled_none t d c r now x meta e none = turn_none t d c r now x meta (turn_of c r) refl e none

found_none : (t : Told) (r : Request) → FindsNone t r.partition r.sequence → answer_on t (reading (key.Meta r.partition r.sequence)) ≡ Err NoNode
found_none t r k = ap (λ f. answer_under Failed f (reading (key.Meta r.partition r.sequence) t.writes)) k.faultless ∙ ap found_in k.none

-- one that is to be
pub none_handled : (t : Told) (d : ToldDeep) (c : Controlling) (r : Request) (now : Moment) (x : Handling) → ReadsNode c r → FindsNone t r.partition r.sequence
    → handled_at c r now (turn_of c r) (answer_to t d (call_of r (turn_of c r))) ≡ Some x → x ≡ fails c r cause.NoSegment
none_handled t d c r now x reads finds e =
    let turn = reads_turn c r reads in
    let read = subst (λ (u : Turn). handled_at c r now u (answer_to t d (call_of r u)) ≡ Some x) turn.1 e in
    sym (same_Some (fails c r cause.NoSegment) x (sym (ap (after_read c r now turn.0) (found_none t r finds)) ∙ read))
