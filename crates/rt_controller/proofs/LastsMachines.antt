-- What lasts of machines, as they react to requests that were sent.
use Rattle.std.proofs.Common.{◌≡◌, ℕ, ◌≤◌, List, map, length, Some, None, refl, sym, ◌∙◌, ap, subst}
use Rattle.std.specs.List.{Contains}
use Rattle.std.proofs.lemmas.Option.{none-some, same_Some}
use Rattle.rt_base.specs.declared.numbers.Instance.{Instance}
use Rattle.rt_base.specs.declared.numbers.Moment.{Moment}
use Rattle.rt_base.specs.declared.numbers.Offset.{Offset}
use Rattle.rt_base.specs.declared.numbers.Partition.{Partition}
use Rattle.rt_lists.proofs.Lists.{contains_found}
use Rattle.rt_lists.proofs.Members.{Has-place}
use Rattle.rt_model.specs.declared.completion.Ask.{Ask}
use Rattle.rt_model.specs.declared.completion.Ask.TheVariants as ask
use Rattle.rt_model.specs.declared.request.Request.{Request}
use Rattle.rt_model.specs.declared.request.RequestKind.{RequestKind}
use Rattle.rt_model.specs.declared.request.RequestKind.TheVariants as kind
use Rattle.rt_model.specs.declared.seg_meta.SeenMeta.{SeenMeta}
use Rattle.rt_model.specs.declared.setup.Setup.{Setup}
use Rattle.rt_model.specs.Completion.{IsBeforePick, first, react}
use Rattle.rt_assign.specs.Placement.{replicas_of}
use Rattle.rt_stream.specs.Log.{messages_of}
use Rattle.rt_fsm.specs.Laws.{HasOffsetsWithin, ReportsAtMost}
use Rattle.rt_fsm.proofs.Offsets.{offsets_kept, first_within}
use Rattle.rt_fsm.proofs.Pick.{fresh_instances}
use Rattle.rt_past.specs.Past.{Past}
use Rattle.rt_past.specs.Requests.{IsRequest}
use Rattle.rt_past.specs.Segments.{HadEntry}
use Rattle.rt_commit.specs.Assignment.{Assigned, assigned_by, replicas_in}
use Rattle.rt_controller.specs.declared.segment_machine.SegmentMachine.{SegmentMachine}
use Rattle.rt_controller.specs.Answers.{ask_in}
use Rattle.rt_controller.specs.Controller.{with_machine}
use Rattle.rt_controller.specs.Lasting.{IsMachineOver, machine_end}
use Rattle.rt_controller.specs.Requests.{first_state}
use Rattle.rt_controller.proofs.KeepsRequests.{made}

-- what lasts of a machine beside what it read
pub record MachineLasts (setup : Setup) (past : Past) (m : SegmentMachine) : Type 0 where
  pub entered : HadEntry past.history m.partition m.sequence
  pub offsets : HasOffsetsWithin (length (messages_of past.log m.partition)) m.machine
  pub replicas :
      map (λ r. r.instance) m.machine.reporters ≡ replicas_of m.partition setup.table.replication setup.servers

pub lasts_of : (setup : Setup) (past : Past) (m : SegmentMachine) → IsMachineOver setup past m → MachineLasts setup past m
lasts_of setup past m k = record { entered = k.entered; offsets = k.offsets; replicas = k.replicas }

-- a request reports no offset past its own
reports_at_most : (x : Offset) (k : RequestKind) (what : Ask) (limit : ℕ) → x.0 ≤ limit → ask_in x k ≡ Some what → ReportsAtMost limit what
reports_at_most x (kind.Consumed reason) what limit le e = subst (ReportsAtMost limit) (same_Some (ask.Consumed x reason) what e) le
reports_at_most x kind.Stopped what limit le e = subst (ReportsAtMost limit) (same_Some ask.Stopped what e) tt
reports_at_most x kind.CommitStart what limit le e = subst (ReportsAtMost limit) (same_Some (ask.CommitStart x) what e) tt
reports_at_most x (kind.Upload path bytes) what limit le e = absurd (none-some what e)
reports_at_most x (kind.CommitEnd path) what limit le e = subst (ReportsAtMost limit) (same_Some (ask.CommitEnd x) what e) tt
reports_at_most x (kind.Extend millis) what limit le e = subst (ReportsAtMost limit) (same_Some (ask.Extend millis) what e) tt

-- a machine that is made isn't COMMITTING
pub no_first_end : (what : Ask) (seen : SeenMeta) (replicas : List Instance) (now : Moment)
    → machine_end (first seen replicas (first_state what) now) ≡ None
no_first_end (ask.Consumed x reason) seen replicas now = refl
no_first_end (ask.CommitStart x) seen replicas now = refl
no_first_end (ask.CommitEnd x) seen replicas now = refl
no_first_end ask.Stopped seen replicas now = refl
no_first_end (ask.Extend millis) seen replicas now = refl

module _ (setup : Setup) (past : Past) (r : Request) (q : IsRequest setup past r) (what : Ask) (now : Moment)
    (asks : ask_in r.offset r.kind ≡ Some what) where
  -- the sender is one of the segment's replicas
  sender_there : (m : SegmentMachine) → m.partition ≡ r.partition
      → map (λ r. r.instance) m.machine.reporters ≡ replicas_of m.partition setup.table.replication setup.servers
      → Contains (map (λ r. r.instance) m.machine.reporters) r.number.instance
  sender_there m p e =
      let place = Has-place (replicas_of r.partition setup.table.replication setup.servers) r.number.instance q.assigned in
      let there = contains_found (replicas_of r.partition setup.table.replication setup.servers) place.0 r.number.instance place.1 in
      let same = e ∙ ap (λ (x : Partition). replicas_of x setup.table.replication setup.servers) p in
      subst (λ (is : List Instance). Contains is r.number.instance) (sym same) there

  within : (m : SegmentMachine) → m.partition ≡ r.partition → r.offset.0 ≤ length (messages_of past.log m.partition)
  within m p = subst (λ (x : Partition). r.offset.0 ≤ length (messages_of past.log x)) (sym p) q.within

  pub reacts_lasts : (m : SegmentMachine) → m.partition ≡ r.partition → MachineLasts setup past m
      → MachineLasts setup past (with_machine m (react m.machine r.number.instance what now).1)
  reacts_lasts m p k =
      let limit = length (messages_of past.log m.partition) in
      let stay = offsets_kept limit m.machine r.number.instance what now (reports_at_most r.offset r.kind what limit (within m p) asks)
      (sender_there m p k.replicas) k.offsets in
      record { entered = k.entered; offsets = stay.within; replicas = stay.replicas ∙ k.replicas }

  before_pick : (a : Ask) → IsBeforePick (first_state a)
  before_pick (ask.Consumed x reason) = tt
  before_pick (ask.CommitStart x) = tt
  before_pick (ask.CommitEnd x) = tt
  before_pick ask.Stopped = tt
  before_pick (ask.Extend millis) = tt

  -- a machine that is made
  pub first_lasts : (a : Assigned) (seen : SeenMeta) → a ≡ assigned_by setup
      → MachineLasts setup past (made r (first seen (replicas_in a r.partition) (first_state what) now))
  first_lasts a seen e =
      record {
        entered = q.entered;
        offsets = first_within (length (messages_of past.log r.partition)) seen (replicas_in a r.partition) (first_state what) now (before_pick what);
        replicas = fresh_instances (replicas_in a r.partition) ∙ ap (λ (x : Assigned). replicas_in x r.partition) e;
      }
