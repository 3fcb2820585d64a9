-- A commit job starts at its segment's machine alone.
use Rattle.std.proofs.Common.{◌≡◌, ℕ, ◌+◌, Bool, true, false, cond, List, [], ◌∷◌, ◌++◌, length, Option, Some, None, Result, Ok, Err, refl, sym, ◌∙◌, ap, subst, arith}
use Rattle.std.specs.Prelude.{slice_get}
use Rattle.std.proofs.lemmas.Bool.{false≢true}
use Rattle.std.proofs.lemmas.List.{append_cancel_left, length-append}
use Rattle.std.proofs.lemmas.Option.{same_Some}
use Rattle.rt_base.specs.declared.numbers.Moment.{Moment}
use Rattle.rt_base.specs.declared.numbers.Offset.{Offset}
use Rattle.rt_model.specs.declared.completion.Ask.{Ask}
use Rattle.rt_model.specs.declared.completion.Ask.TheVariants as ask
use Rattle.rt_model.specs.declared.completion.Reaction.{Reaction}
use Rattle.rt_model.specs.declared.completion.Reaction.TheVariants as reaction
use Rattle.rt_model.specs.declared.machine_state.MachineState.TheVariants.{CommitterUploading}
use Rattle.rt_model.specs.declared.node.Node.{Node}
use Rattle.rt_model.specs.declared.node.Node.TheVariants as node
use Rattle.rt_model.specs.declared.node.Seen.{Seen}
use Rattle.rt_model.specs.declared.request.Request.{Request}
use Rattle.rt_model.specs.declared.request.RequestKind.{RequestKind}
use Rattle.rt_model.specs.declared.request.RequestKind.TheVariants as kind
use Rattle.rt_model.specs.declared.seg_meta.SeenMeta.{SeenMeta}
use Rattle.rt_model.specs.declared.status.Status.{Status}
use Rattle.rt_model.specs.declared.status.Status.TheVariants.{InProgress, Done, Abandoned}
use Rattle.rt_model.specs.Completion.{Completion, first, react}
use Rattle.rt_deep.specs.declared.refused.DeepRefused.{DeepRefused}
use Rattle.rt_deep.specs.declared.refused.DeepRefused.TheVariants as deep
use Rattle.rt_store.specs.declared.refused.StoreRefused.{StoreRefused}
use Rattle.rt_store.specs.declared.refused.StoreRefused.TheVariants.{NoNode, Exists, VersionChanged, Failed, Memory}
use Rattle.rt_store.specs.Meaning.{Meaning}
use Rattle.rt_fsm.specs.Laws.{IsItsCommit, StartsAlone}
use Rattle.rt_fsm.proofs.Alone.{starts_alone}
use Rattle.rt_commit.specs.declared.job.Job.{Job}
use Rattle.rt_commit.specs.Assignment.{replicas_in}
use Rattle.rt_commit.specs.Calls.{Makes, DeepMeaning}
use Rattle.rt_commit.specs.Job.{commits}
use Rattle.rt_controller.specs.declared.handled.Handled.{Handled}
use Rattle.rt_controller.specs.declared.segment_machine.SegmentMachine.{SegmentMachine}
use Rattle.rt_controller.specs.Answers.{Handling, after_put, ask_in, follows, follows_by, leads_to, named_in}
use Rattle.rt_controller.specs.Controller.{Controlling, added, machine_place, replaced, with_machine}
use Rattle.rt_controller.specs.Own.{StartsAtMachine, StartsCommit}
use Rattle.rt_controller.specs.Requests.{Turn, not_leading, uploads, not_assigned, past_last, has_machine, has_none, after_read, at_machine, by_node, by_status, call_of, first_state, handled_at, kind_turn, turn_of}
use Rattle.rt_controller.specs.Steps.{Handles}
use Rattle.rt_controller.proofs.Turns.{Tells, told_turn}

-- ---- what starts no commit job

no_more : (js : List Job) (j : Job) → js ≡ js ++ j ∷ [] → ⊥
no_more js j e = omega (arith, ap length e, length-append js (j ∷ []))

same_last : (j k : Job) → j ∷ [] ≡ k ∷ [] → j ≡ k
same_last j k e = cc

last_same : (js : List Job) (j k : Job) → js ++ j ∷ [] ≡ js ++ k ∷ [] → j ≡ k
last_same js j k e = same_last j k (append_cancel_left js (j ∷ []) (k ∷ []) e)

-- the jobs stay
quiet : (c : Controlling) (x y : Handling) → y.controller.jobs ≡ c.jobs → y ≡ x → StartsCommit c x.controller → ⊥
quiet c x y same is k =
    no_more c.jobs k.job (sym same ∙ ap (λ (h : Handling). h.controller.jobs) is ∙ k.jobs)

-- a job starts that turns an instance OFFLINE
offline : (c : Controlling) (x y : Handling) (j : Job) → y.controller.jobs ≡ c.jobs ++ j ∷ [] → commits j.stage ≡ false → y ≡ x
    → StartsCommit c x.controller → ⊥
offline c x y j started never is k =
    let one = last_same c.jobs j k.job (sym started ∙ ap (λ (h : Handling). h.controller.jobs) is ∙ k.jobs) in
    false≢true (sym never ∙ ap (λ (i : Job). commits i.stage) one ∙ k.committing)

abbrev some_ask : Ask → Option Ask
some_ask a = Some a

same_ask : (a b : Ask) → some_ask a ≡ some_ask b → a ≡ b
same_ask a b e = cc

same_end : (x end : Offset) → ask.CommitEnd x ≡ ask.CommitEnd end → x ≡ end
same_end x end e = cc

module _ (c : Controlling) (r : Request) (now : Moment) where
  -- ---- a machine reacts

  -- what its reaction leads to, with these machines
  abbrev after : List SegmentMachine → SeenMeta → RequestKind → Reaction → Handling
  after ns seen k y = follows_by (record c { machines = ns }) r (leads_to (named_in r seen k) y)

  -- it was a CommitEnd up to this offset, at which a commit job starts
  pub record IsCommitEnd (m n : Completion) (ns : List SegmentMachine) (seen : SeenMeta) (x : Handling) : Type 0 where
    path : List ℕ
    commit : IsItsCommit m r.number.instance (ask.CommitEnd r.offset) now m.offset n
    offset : r.offset ≡ m.offset
    names : r.kind ≡ kind.CommitEnd path
    is : after ns seen (kind.CommitEnd path) (reaction.StartCommit m.offset) ≡ x

  by_kind : (m n : Completion) (ns : List SegmentMachine) (seen : SeenMeta) (what : Ask) (x : Handling) (k : RequestKind) → r.kind ≡ k
      → ask_in r.offset k ≡ Some what → IsItsCommit m r.number.instance what now m.offset n
      → after ns seen k (reaction.StartCommit m.offset) ≡ x → StartsCommit c x.controller → IsCommitEnd m n ns seen x
  by_kind m n ns seen what x (kind.Consumed reason) e asks commit is s = absurd (quiet c x _ refl is s)
  by_kind m n ns seen what x kind.Stopped e asks commit is s = absurd (quiet c x _ refl is s)
  by_kind m n ns seen what x kind.CommitStart e asks commit is s = absurd (quiet c x _ refl is s)
  by_kind m n ns seen what x (kind.Upload path bytes) e asks commit is s = absurd (quiet c x _ refl is s)
  by_kind m n ns seen what x (kind.Extend millis) e asks commit is s = absurd (quiet c x _ refl is s)
  by_kind m n ns seen what x (kind.CommitEnd path) e asks commit is s =
      let same = same_ask (ask.CommitEnd r.offset) what asks in
      record {
        path = path;
        commit = subst (λ (a : Ask). IsItsCommit m r.number.instance a now m.offset n) (sym same) commit;
        offset = same_end r.offset m.offset (same ∙ commit.asks);
        names = e;
        is = is;
      }

  by_reaction : (m n : Completion) (ns : List SegmentMachine) (seen : SeenMeta) (what : Ask) (x : Handling) (y : Reaction)
      → ask_in r.offset r.kind ≡ Some what → StartsAlone m r.number.instance what now y n
      → follows (record c { machines = ns }) r seen y ≡ x → StartsCommit c x.controller → IsCommitEnd m n ns seen x
  by_reaction m n ns seen what x (reaction.Answer said) asks alone is s = absurd (quiet c x _ refl is s)
  by_reaction m n ns seen what x (reaction.StartCommit end) asks alone is s =
      let I : Offset → Type 0 = λ o. IsItsCommit m r.number.instance what now o n in
      let A : Offset → Type 0 = λ o. after ns seen r.kind (reaction.StartCommit o) ≡ x in
      by_kind m n ns seen what x r.kind refl asks (subst I alone.offset alone) (subst A alone.offset is) s
  by_reaction m n ns seen what x reaction.StartOffline asks alone is s = absurd (offline c x _ _ refl refl is s)

  -- the segment's machine
  leading : (place : ℕ) (what : Ask) (b : Bool) (turn : Turn) → cond b turn not_leading ≡ has_machine place what → b ≡ true
  leading place what true turn e = refl
  leading place what false turn e = absurd (cc)

  machine_starts : (place : ℕ) (what : Ask) (m : SegmentMachine) (x : Handling) → turn_of c r ≡ has_machine place what
      → machine_place c.machines r.partition r.sequence ≡ Some place → slice_get c.machines place ≡ Some m → ask_in r.offset r.kind ≡ Some what
      → follows (record c { machines = replaced c.machines place (with_machine m (react m.machine r.number.instance what now).1) }) r m.machine.seen
      (react m.machine r.number.instance what now).0 ≡ x
      → StartsCommit c x.controller → StartsAtMachine c r now x
  machine_starts place what m x turn found at asks is s =
      let y = react m.machine r.number.instance what now in
      let ns = replaced c.machines place (with_machine m y.1) in
      let k = by_reaction m.machine y.1 ns m.machine.seen what x y.0 asks (starts_alone m.machine r.number.instance what now) is s in
      let X : Completion → Handling = λ n. after (replaced c.machines place (with_machine m n)) m.machine.seen (kind.CommitEnd k.path)
      (reaction.StartCommit m.machine.offset) in
      record {
        path = k.path;
        place = place;
        machine = m;
        timely = record {
          leads = leading place what c.leads (kind_turn c r r.kind) turn;
          found = found;
          there = at;
          uploading = k.commit.uploading;
          winner = k.commit.winner;
          offset = k.offset;
          names = k.names;
          time = k.commit.time;
        };
        started = sym k.is ∙ ap X k.commit.after;
      }

  slot_starts : (place : ℕ) (what : Ask) (o : Option SegmentMachine) (x : Handling) → turn_of c r ≡ has_machine place what
      → machine_place c.machines r.partition r.sequence ≡ Some place → slice_get c.machines place ≡ o → ask_in r.offset r.kind ≡ Some what
      → at_machine c r now place what o ≡ Some x → StartsCommit c x.controller → StartsAtMachine c r now x
  slot_starts place what None x turn found at asks is s = absurd (cc)
  slot_starts place what (Some m) x turn found at asks is s = machine_starts place what m x turn found at asks (same_Some _ x is) s

  -- ---- a segment without a machine

  not_first : (what : Ask) → first_state what ≡ CommitterUploading → ⊥
  not_first (ask.Consumed x reason) e = cc
  not_first (ask.CommitStart x) e = cc
  not_first (ask.CommitEnd x) e = cc
  not_first ask.Stopped e = cc
  not_first (ask.Extend millis) e = cc

  status_starts : (what : Ask) (seen : SeenMeta) (s : Status) (x : Handling) → ask_in r.offset r.kind ≡ Some what → by_status c r now what seen s ≡ x
      → StartsCommit c x.controller → ⊥
  status_starts what seen InProgress x asks is s =
      let n = first seen (replicas_in c.assigned r.partition) (first_state what) now in
      let y = react n r.number.instance what now in
      let m : SegmentMachine = record { partition = r.partition; sequence = r.sequence; machine = y.1 } in
      let k = by_reaction n y.1 (added c.machines m) seen what x y.0 asks (starts_alone n r.number.instance what now) is s in
      not_first what k.commit.uploading
  status_starts what seen (Done commit) x asks is s = quiet c x _ refl is s
  status_starts what seen Abandoned x asks is s = quiet c x _ refl is s

  node_starts : (what : Ask) (version : ℕ) (n : Node) (x : Handling) → ask_in r.offset r.kind ≡ Some what → by_node c r now what version n ≡ x
      → StartsCommit c x.controller → ⊥
  node_starts what version (node.Meta m) x asks is s = status_starts what (record { version = version; meta = m }) m.status x asks is s
  node_starts what version (node.Ideal i) x asks is s = quiet c x _ refl is s
  node_starts what version node.Boot x asks is s = quiet c x _ refl is s
  node_starts what version node.Gone x asks is s = quiet c x _ refl is s

  read_starts : (what : Ask) (answer : Result Seen StoreRefused) (x : Handling) → ask_in r.offset r.kind ≡ Some what
      → after_read c r now what answer ≡ Some x → StartsCommit c x.controller → ⊥
  read_starts what (Ok w) x asks is s = node_starts what w.version w.node x asks (same_Some _ x is) s
  read_starts what (Err NoNode) x asks is s = quiet c x _ refl (same_Some _ x is) s
  read_starts what (Err (Exists found)) x asks is s = quiet c x _ refl (same_Some _ x is) s
  read_starts what (Err (VersionChanged expected found)) x asks is s = quiet c x _ refl (same_Some _ x is) s
  read_starts what (Err Failed) x asks is s = quiet c x _ refl (same_Some _ x is) s
  read_starts what (Err Memory) x asks is s = absurd (cc)

  put_starts : (path : List ℕ) (answer : Result (Unit {0}) DeepRefused) (x : Handling) → after_put c r path answer ≡ Some x
      → StartsCommit c x.controller → ⊥
  put_starts path (Ok u) x is s = quiet c x _ refl (same_Some _ x is) s
  put_starts path (Err deep.Absent) x is s = quiet c x _ refl (same_Some _ x is) s
  put_starts path (Err (deep.OtherBytes kept offered)) x is s = quiet c x _ refl (same_Some _ x is) s
  put_starts path (Err deep.Failed) x is s = quiet c x _ refl (same_Some _ x is) s
  put_starts path (Err deep.Memory) x is s = absurd (cc)

  -- ---- the first rule that applies

  turn_starts : (s t : Meaning) (d e : DeepMeaning) (turn : Turn) (x : Handling) → turn_of c r ≡ turn → Tells c r turn
      → Makes s t d e (call_of r turn) (λ a. handled_at c r now turn a ≡ Some x) → StartsCommit c x.controller → StartsAtMachine c r now x
  turn_starts s t d e not_leading x is told m k = absurd (quiet c x _ refl (same_Some _ x m.2) k)
  turn_starts s t d e (uploads path bytes) x is told (answer, put, same, f) k = absurd (put_starts path answer x f k)
  turn_starts s t d e not_assigned x is told m k = absurd (quiet c x _ refl (same_Some _ x m.2) k)
  turn_starts s t d e past_last x is told m k = absurd (quiet c x _ refl (same_Some _ x m.2) k)
  turn_starts s t d e (has_machine place what) x is told m k =
      slot_starts place what (slice_get c.machines place) x is told.1 refl told.2 m.2 k
  turn_starts s t d e (has_none what) x is told (answer, read, same, f) k = absurd (read_starts what answer x told.2 f k)

pub starts_at_machine : (s t : Meaning) (d e : DeepMeaning) (c new : Controlling) (r : Request) (now : Moment) (what : Handled)
    → Handles {E = Unit {0}} s t d e c r now new (Ok what) → StartsCommit c new
    → StartsAtMachine c r now (record { controller = new; handled = what })
starts_at_machine s t d e c new r now what h k =
    turn_starts c r now s t d e (turn_of c r) (record { controller = new; handled = what }) refl (told_turn c r) h k
