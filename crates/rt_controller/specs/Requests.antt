-- The first rule that applies to a request, the call that it leads to, and what the controller makes of its answer.
use Rattle.std.specs.Prelude.{ℕ, not, nat_le, if◌then◌else◌, List, slice_get, Option, Some, None, Result, Ok, Err}
use Rattle.rt_base.specs.declared.limits.TheConstants.{LAST_NUMBER}
use Rattle.rt_base.specs.declared.numbers.Moment.{Moment}
use Rattle.rt_model.specs.declared.completion.Ask.{Ask}
use Rattle.rt_model.specs.declared.completion.Ask.TheVariants as ask
use Rattle.rt_model.specs.declared.machine_state.MachineState.{MachineState}
use Rattle.rt_model.specs.declared.machine_state.MachineState.TheVariants.{PartialConsuming, Holding}
use Rattle.rt_model.specs.declared.node.Key.TheVariants as key
use Rattle.rt_model.specs.declared.node.Node.{Node}
use Rattle.rt_model.specs.declared.node.Node.TheVariants as node
use Rattle.rt_model.specs.declared.node.Seen.{Seen}
use Rattle.rt_model.specs.declared.reply.FailCause.TheVariants as cause
use Rattle.rt_model.specs.declared.reply.ReplyStatus.TheVariants as status
use Rattle.rt_model.specs.declared.request.Request.{Request}
use Rattle.rt_model.specs.declared.request.RequestKind.{RequestKind}
use Rattle.rt_model.specs.declared.request.RequestKind.TheVariants as kind
use Rattle.rt_model.specs.declared.seg_meta.SeenMeta.{SeenMeta}
use Rattle.rt_model.specs.declared.status.Status.{Status}
use Rattle.rt_model.specs.declared.status.Status.TheVariants.{InProgress, Done, Abandoned}
use Rattle.rt_model.specs.Completion.{first, react}
use Rattle.rt_model.specs.Finished.{committed_row, abandoned_row}
use Rattle.rt_store.specs.declared.refused.StoreRefused.{StoreRefused}
use Rattle.rt_store.specs.declared.refused.StoreRefused.TheVariants.{NoNode, Exists, VersionChanged, Failed, Memory}
use Rattle.rt_commit.specs.Assignment.{is_replica, replicas_in}
use Rattle.rt_commit.specs.Calls.{Call, calls_nothing, puts, reads, Answer, nothing, put, read}
use Rattle.rt_controller.specs.declared.segment_machine.SegmentMachine.{SegmentMachine}
use Rattle.rt_controller.specs.Answers.{Handling, replies, fails, after_put, follows}
use Rattle.rt_controller.specs.Controller.{Controlling, with_machine, replaced, added, machine_place}

-- ---- a machine reacts

abbrev pub at_machine : Controlling → Request → Moment → ℕ → Ask → Option SegmentMachine → Option Handling
at_machine c r now place what None = None
at_machine c r now place what (Some m) =
    let x = react m.machine r.number.instance what now in
    Some (follows (record c { machines = replaced c.machines place (with_machine m x.1) }) r m.machine.seen x.0)

-- ---- a segment without a machine

-- a machine begins in HOLDING, but in PARTIAL_CONSUMING for a Stopped
abbrev pub first_state : Ask → MachineState
first_state (ask.Consumed x reason) = Holding
first_state (ask.CommitStart x) = Holding
first_state (ask.CommitEnd x) = Holding
first_state ask.Stopped = PartialConsuming
first_state (ask.Extend millis) = Holding

-- a machine is made, and reacts
abbrev pub opens : Controlling → Request → Moment → Ask → SeenMeta → Handling
opens c r now what seen =
    let x = react (first seen (replicas_in c.assigned r.partition) (first_state what) now) r.number.instance what now in
    let m : SegmentMachine = record { partition = r.partition; sequence = r.sequence; machine = x.1 } in
    follows (record c { machines = added c.machines m }) r seen x.0

abbrev pub by_status : Controlling → Request → Moment → Ask → SeenMeta → Status → Handling
by_status c r now what seen InProgress = opens c r now what seen
by_status c r now what seen (Done commit) = replies c r (committed_row seen commit.end what)
by_status c r now what seen Abandoned = replies c r (abandoned_row what)

abbrev pub by_node : Controlling → Request → Moment → Ask → ℕ → Node → Handling
by_node c r now what version (node.Meta meta) =
    by_status c r now what (record { version = version; meta = meta }) meta.status
by_node c r now what version (node.Ideal i) = fails c r cause.NoSegment
by_node c r now what version node.Boot = fails c r cause.NoSegment
by_node c r now what version node.Gone = fails c r cause.NoSegment

abbrev pub after_read : Controlling → Request → Moment → Ask → Result Seen StoreRefused → Option Handling
after_read c r now what (Ok w) = Some (by_node c r now what w.version w.node)
after_read c r now what (Err NoNode) = Some (fails c r cause.NoSegment)
after_read c r now what (Err (Exists found)) = Some (fails c r cause.StoreFault)
after_read c r now what (Err (VersionChanged expected found)) = Some (fails c r cause.StoreFault)
after_read c r now what (Err Failed) = Some (fails c r cause.StoreFault)
after_read c r now what (Err Memory) = None

-- ---- a request

-- the first rule that applies to a request
pub data Turn : Type 0 where
  not_leading : Turn
  uploads : List ℕ → List ℕ → Turn
  not_assigned : Turn
  past_last : Turn
  has_machine : ℕ → Ask → Turn
  has_none : Ask → Turn

abbrev pub by_place : Option ℕ → Ask → Turn
by_place None what = has_none what
by_place (Some place) what = has_machine place what

-- of a request that isn't an upload
abbrev pub asked_turn : Controlling → Request → Ask → Turn
asked_turn c r what =
    if not (is_replica c.assigned r.partition r.number.instance) then not_assigned
    else (if nat_le LAST_NUMBER r.sequence.0 then past_last
    else by_place (machine_place c.machines r.partition r.sequence) what)

abbrev pub kind_turn : Controlling → Request → RequestKind → Turn
kind_turn c r (kind.Upload path bytes) = uploads path bytes
kind_turn c r (kind.Consumed reason) = asked_turn c r (ask.Consumed r.offset reason)
kind_turn c r kind.Stopped = asked_turn c r ask.Stopped
kind_turn c r kind.CommitStart = asked_turn c r (ask.CommitStart r.offset)
kind_turn c r (kind.CommitEnd path) = asked_turn c r (ask.CommitEnd r.offset)
kind_turn c r (kind.Extend millis) = asked_turn c r (ask.Extend millis)

abbrev pub turn_of : Controlling → Request → Turn
turn_of c r = if c.leads then kind_turn c r r.kind else not_leading

-- the one call of a request
abbrev pub call_of : Request → Turn → Call
call_of r not_leading = calls_nothing
call_of r (uploads path bytes) = puts path bytes
call_of r not_assigned = calls_nothing
call_of r past_last = calls_nothing
call_of r (has_machine place what) = calls_nothing
call_of r (has_none what) = reads (key.Meta r.partition r.sequence)

-- what the controller makes of a request, with the answer of its call; none where memory ran out in it
abbrev pub handled_at : Controlling → Request → Moment → Turn → Answer → Option Handling
handled_at c r now not_leading nothing = Some (replies c r status.NotLeader)
handled_at c r now (uploads path bytes) (put answer) = after_put c r path answer
handled_at c r now not_assigned nothing = Some (fails c r cause.NotReplica)
handled_at c r now past_last nothing = Some (replies c r status.Hold)
handled_at c r now (has_machine place what) nothing =
    at_machine c r now place what (slice_get c.machines place)
handled_at c r now (has_none what) (read answer) = after_read c r now what answer
handled_at c r now _ _ = None

abbrev pub handle_call : Controlling → Request → Call
handle_call c r = call_of r (turn_of c r)

abbrev pub handle : Controlling → Request → Moment → Answer → Option Handling
handle c r now answer = handled_at c r now (turn_of c r) answer
