-- What the report of a script tells of commits, by the script and the report alone: what was committed stays until it is gone, which it is from
-- the front on and for good; and an answer that misses nothing of a partition goes without a gap through all that is kept of it.
use Rattle.std.specs.Prelude.{IfSome, ◌≡◌, ◌<◌, ◌≤◌, ◌⊎◌, ◌==◌, ◌&&◌, ◌||◌, not, is_none, ℕ, Bool, true, false, List, [], ◌∷◌, ◌++◌, map, Option, None, Some, if◌then◌else◌}
use Rattle.std.specs.List.{filter}
use Rattle.rt_base.specs.declared.numbers.ControllerId.{ControllerId}
use Rattle.rt_base.specs.declared.numbers.Offset.{Offset}
use Rattle.rt_base.specs.declared.numbers.Partition.{Partition}
use Rattle.rt_base.specs.declared.numbers.Sequence.{Sequence}
use Rattle.rt_base.specs.declared.range.Range.{Range}
use Rattle.rt_events.specs.declared.event.Event.{Event}
use Rattle.rt_events.specs.declared.event.Event.TheVariants as event
use Rattle.rt_events.specs.declared.event.Event.TheVariants.{Consume, CrashController, Deliver, Job, Report, Retain, ShowMeta}
use Rattle.rt_events.specs.declared.outcome.Outcome.{Outcome}
use Rattle.rt_events.specs.declared.outcome.Outcome.TheVariants.{Retired, Sent, Shown, Started, Stepped, Took}
use Rattle.rt_lines.specs.Header.{NumberedLine}
use Rattle.rt_lists.specs.Members.{Has}
use Rattle.rt_model.specs.declared.answer.Answer.{Answer}
use Rattle.rt_model.specs.declared.job_step.JobStep.{JobStep}
use Rattle.rt_model.specs.declared.job_step.StepName.{StepName}
use Rattle.rt_model.specs.declared.job_step.StepName.TheVariants as name
use Rattle.rt_model.specs.declared.node.Node.{Node}
use Rattle.rt_model.specs.declared.node.Node.TheVariants as node
use Rattle.rt_model.specs.declared.node.Seen.{Seen}
use Rattle.rt_model.specs.declared.replica_state.ReplicaState.{ReplicaState}
use Rattle.rt_model.specs.declared.replica_state.ReplicaState.TheVariants as state
use Rattle.rt_model.specs.declared.reply.Reply.{Reply}
use Rattle.rt_model.specs.declared.reply.ReplyStatus.{ReplyStatus}
use Rattle.rt_model.specs.declared.reply.ReplyStatus.TheVariants.{CommitSuccess}
use Rattle.rt_model.specs.declared.request.Request.{Request}
use Rattle.rt_model.specs.declared.request.RequestKind.{RequestKind}
use Rattle.rt_model.specs.declared.request.RequestKind.TheVariants.{CommitEnd}
use Rattle.rt_model.specs.declared.seg_meta.SegMeta.{SegMeta}
use Rattle.rt_model.specs.declared.setup.Setup.{Setup}
use Rattle.rt_model.specs.declared.status.Status.{Status}
use Rattle.rt_model.specs.declared.status.Status.TheVariants.{Done}
use Rattle.rt_play.specs.AnswerTexts.{AreWords, IsWord}
use Rattle.rt_play.specs.Named.{Each, Spares, ranges_at, span}
use Rattle.rt_play.specs.NotedWords.{FitsWords}
use Rattle.rt_repair.specs.declared.retiring.RetireStep.TheVariants.{Deleted}
use Rattle.rt_report.specs.BrokerTexts.{answer_line}
use Rattle.rt_report.specs.MacroTexts.{exchanged_text}
use Rattle.rt_report.specs.Outcome.{outcome_text}
use Rattle.rt_script.specs.Line.{line_in}
use Rattle.rt_script.specs.declared.line.Line.{Line}
use Rattle.rt_script.specs.declared.line.Line.TheVariants as line
use Rattle.rt_script.specs.declared.line.Macro.TheVariants as macro

-- ---- what is noted of the lines above

pub record Segment : Type 0 where
  pub partition : Partition
  pub sequence : Sequence

-- a request, by the number of its message: the segment, and of a commitEnd whose offset is told this offset
pub record Posted : Type 0 where
  pub message : ℕ
  pub segment : Segment
  pub end : Option Offset

-- a job for one, by its controller and its number there
pub record Working : Type 0 where
  pub controller : ControllerId
  pub job : ℕ
  pub segment : Segment
  pub end : Option Offset

-- the requests that may be commitEnds, the jobs that go on for them, and the segments that were told to be committed, and to be deleted
pub record Notes : Type 0 where
  pub requests : List Posted
  pub jobs : List Working
  pub committed : List Segment
  pub deleted : List Segment

abbrev pub no_notes : Notes
no_notes = record { requests = []; jobs = []; committed = []; deleted = [] }

abbrev pub is_commit_end : RequestKind → Bool
is_commit_end (CommitEnd path) = true
is_commit_end other = false

-- a message with such a request opens a job for it
abbrev pub opens : ℕ → ControllerId → ℕ → List Posted → List Working
opens message controller job posted =
    map (λ p. record { controller = controller; job = job; segment = p.segment; end = p.end }) (filter (λ p. p.message == message) posted)

abbrev pub is_job : ControllerId → ℕ → Working → Bool
is_job controller job w = (w.controller.0 == controller.0) && (w.job == job)

abbrev pub is_success_status : ReplyStatus → Bool
is_success_status (CommitSuccess seen) = true
is_success_status other = false

abbrev pub is_success : Option Reply → Bool
is_success None = false
is_success (Some reply) = is_success_status reply.status

abbrev pub is_done_step : StepName → Bool
is_done_step name.Done = true
is_done_step other = false

-- that a job has committed its segment a COMMIT_SUCCESS tells, and a step `done` behind which it goes on
abbrev pub tells_commit : JobStep → Bool
tells_commit done = is_success done.reply || (is_done_step done.step && is_none done.reply)

-- the segments of these jobs that have the number
abbrev pub segments_of : ControllerId → ℕ → List Working → List Segment
segments_of controller job jobs = map (λ w. w.segment) (filter (is_job controller job) jobs)

-- a job that answers its request is at its end
abbrev pub left_open : ControllerId → ℕ → Option Reply → List Working → List Working
left_open controller job None jobs = jobs
left_open controller job (Some reply) jobs = filter (λ w. not (is_job controller job w)) jobs

-- the line of a request names its segment, and its text its message, its kind and its offset
abbrev pub posted_by : Partition → Sequence → ℕ → Request → List Posted → List Posted
posted_by partition sequence message request posted =
    if is_commit_end request.kind
    then record { message = message; segment = record { partition = partition; sequence = sequence }; end = Some request.offset } ∷ posted
    else posted

-- where a replica stands that was told of its segment's commit
abbrev pub knows_commit : ReplicaState → Bool
knows_commit state.ConsumingToOnline = true
knows_commit state.Retaining = true
knows_commit state.Retained = true
knows_commit state.Committed = true
knows_commit other = false

abbrev pub is_done_status : Status → Bool
is_done_status (Done commit) = true
is_done_status other = false

abbrev pub is_done_node : Node → Bool
is_done_node (node.Meta meta) = is_done_status meta.status
is_done_node other = false

abbrev pub shows_done : Option Seen → Bool
shows_done None = false
shows_done (Some seen) = is_done_node seen.node

-- a segment is noted to be committed, where that is told
abbrev pub committed_if : Bool → Partition → Sequence → Notes → Notes
committed_if told p q notes = record notes { committed = if told then record { partition = p; sequence = q } ∷ notes.committed else notes.committed }

-- a `report` line tells a commitEnd, a `deliver` line a job that it opened, a `job` line its steps, a `reply` line where the replica then
-- stands, a `show meta` line a node, and a `retain` line a segment that is deleted. A controller that crashes loses its jobs
abbrev pub event_noted : Event → Outcome → Notes → Notes
event_noted (Report instance p q) (Sent message request) notes = record notes { requests = posted_by p q message request notes.requests }
event_noted (Deliver message controller) (Started job) notes = record notes { jobs = opens message controller job notes.requests ++ notes.jobs }
event_noted (Job controller job) (Stepped done message) notes =
    record notes {
      jobs = left_open controller job done.reply notes.jobs;
      committed = if tells_commit done then segments_of controller job notes.jobs ++ notes.committed else notes.committed;
    }
event_noted (event.Reply message) (Took instance p q stands) notes = committed_if (knows_commit stands) p q notes
event_noted (CrashController controller) outcome notes =
    record notes { jobs = filter (λ w. not (w.controller.0 == controller.0)) notes.jobs }
event_noted (ShowMeta p q) (Shown seen) notes = committed_if (shows_done seen) p q notes
event_noted (Retain controller p) (Retired (Deleted q)) notes =
    record notes { deleted = record { partition = p; sequence = q } ∷ notes.deleted }
event_noted event outcome notes = notes

-- an exchange tells the message of its request, and not of which kind that is
abbrev pub exchange_posted : Partition → Sequence → ℕ → Notes → Notes
exchange_posted p q request notes =
    record notes { requests = record { message = request; segment = record { partition = p; sequence = q }; end = None } ∷ notes.requests }

-- it tells of a commit of its segment by the reply, a COMMIT_SUCCESS, or by where the replica then stands
abbrev pub exchange_noted : Partition → Sequence → ℕ → ReplyStatus → ReplicaState → Notes → Notes
exchange_noted p q request status stands notes = committed_if (is_success_status status || knows_commit stands) p q (exchange_posted p q request notes)

-- ---- what a line tells, by the ranges of the segments and the marks of the partitions

-- the range with which each segment was committed, if it was
abbrev pub Ranges : Type 0
Ranges = Partition → Sequence → Range

-- the mark of each partition: what was committed below it is gone, and what was committed above it is there
abbrev pub Marks : Type 0
Marks = Partition → ℕ

-- metadata that says DONE, over this range, which has an offset
abbrev pub IsDoneOver : Range → SegMeta → Status → Type 0
IsDoneOver range meta (Done commit) = (range.start ≡ meta.start) × (range.end ≡ commit.end) × (range.start.0 < range.end.0)
IsDoneOver range meta other = ⊥

abbrev pub SaysDone : Range → Node → Type 0
SaysDone range (node.Meta meta) = IsDoneOver range meta meta.status
SaysDone range other = ⊥

-- the node that is shown says so, and the range lies above the mark; or none is there, and the range lies below the mark
abbrev pub ShowsDone : Range → ℕ → Option Seen → Type 0
ShowsDone range mark None = range.end.0 ≤ mark
ShowsDone range mark (Some seen) = SaysDone range seen.node × (mark ≤ range.start.0)

-- each segment that was told to be committed lies above the mark, from this one on
abbrev pub StandFrom : Ranges → Marks → Notes → Partition → Sequence → Type 0
StandFrom ranges marks notes p q =
    (s : Segment) → Has notes.committed s → s.partition ≡ p → q.0 ≤ s.sequence.0 → marks p ≤ (ranges s.partition s.sequence).start.0

-- a segment that was told to be committed is shown so, and one that is shown DONE now; and where a node is there, whatever it says, no later
-- segment is gone. A job commits its segment up to the offset of its commitEnd, where that was told
abbrev pub TellsSo : Ranges → Marks → Notes → Event → Outcome → Type 0
TellsSo ranges marks notes (ShowMeta p q) (Shown seen) =
    (Has notes.committed (record { partition = p; sequence = q }) → ShowsDone (ranges p q) (marks p) seen)
    × (shows_done seen ≡ true → ShowsDone (ranges p q) (marks p) seen)
    × IfSome seen (λ node. StandFrom ranges marks notes p q)
TellsSo ranges marks notes (Job c j) (Stepped done message) =
    (w : Working) → tells_commit done ≡ true → Has notes.jobs w → is_job c j w ≡ true
    → IfSome w.end (λ end. (ranges w.segment.partition w.segment.sequence).end ≡ end)
TellsSo ranges marks notes event outcome = Unit {0}

-- nothing is missing of a partition
abbrev pub MissesNothing : Answer → Partition → Type 0
MissesNothing answer p = (s : Option Sequence) → Has answer.missing (p, s) → ⊥

-- what an answer names of a partition goes from the mark on without a gap, through every segment that was told to be committed but those below
-- the mark
pub record GoesThrough (ranges : Ranges) (marks : Marks) (notes : Notes) (p : Partition) (named : List Range) : Type 0 where
  pub to : ℕ
  pub up : marks p ≤ to
  pub one : named ≡ span (marks p) to
  pub all : (s : Segment) → Has notes.committed s → s.partition ≡ p
      → ((ranges s.partition s.sequence).end.0 ≤ marks p)
      ⊎ ((marks p ≤ (ranges s.partition s.sequence).start.0) × ((ranges s.partition s.sequence).end.0 ≤ to))

-- an answer names the whole of a segment that was told to be committed, or nothing of it; it names nothing below the mark, and what it misses
-- isn't gone; and where it misses nothing of a partition it goes through all of it
pub record NamesSo (setup : Setup) (ranges : Ranges) (marks : Marks) (notes : Notes) (answer : Answer) : Type 0 where
  pub whole : (s : Segment) → Has notes.committed s → Each (Spares (ranges s.partition s.sequence)) (ranges_at s.partition answer.ranges)
  pub above : (p : Partition) → p.0 < setup.partitions → Each (λ r. marks p ≤ r.start.0) (ranges_at p answer.ranges)
  pub missed : (p : Partition) (q : Sequence) → Has answer.missing (p, Some q) → StandFrom ranges marks notes p q
  pub through : (p : Partition) → p.0 < setup.partitions → MissesNothing answer p → GoesThrough ranges marks notes p (ranges_at p answer.ranges)

-- ---- a report

-- the text of an event is that of its outcome; but a `consume` may be held, and no more is read of its text
abbrev pub IsTold : Event → List ℕ → Outcome → Type 0
IsTold (Consume instance partition sequence max) text outcome = Unit {0}
IsTold event text outcome = text ≡ outcome_text event outcome

-- a step of a job names a message exactly where it has a reply, so that its text shows whether it has one
abbrev pub IsPaired : Event → Outcome → Type 0
IsPaired (Job controller job) (Stepped done message) = is_none message ≡ is_none done.reply
IsPaired event outcome = Unit {0}

-- an event tells so, and the lines behind it do with what is then noted
pub record EventTells (ranges : Ranges) (marks : Marks) (notes : Notes) (event : Event) (text : List ℕ) (later : Notes → Type 0) : Type 0 where
  pub outcome : Outcome
  pub told : IsTold event text outcome
  pub paired : IsPaired event outcome
  pub words : FitsWords event outcome
  pub so : TellsSo ranges marks notes event outcome
  pub behind : later (event_noted event outcome notes)

pub record QueryTells (setup : Setup) (ranges : Ranges) (marks : Marks) (notes : Notes) (text : List ℕ) (later : Notes → Type 0) : Type 0 where
  pub answer : Answer
  pub told : text ≡ answer_line answer
  pub words : AreWords answer
  pub so : NamesSo setup ranges marks notes answer
  pub behind : later notes

pub record ExchangeTells (notes : Notes) (p : Partition) (q : Sequence) (text : List ℕ) (later : Notes → Type 0) : Type 0 where
  pub request : ℕ
  pub reply : ℕ
  pub status : ReplyStatus
  pub stands : ReplicaState
  pub told : text ≡ exchanged_text request reply status stands
  pub word : IsWord request
  pub behind : later (exchange_noted p q request status stands notes)

-- an `exchange` and a `settle` make steps of no jobs but those that they start, so that the known ones go on
abbrev pub LineTells : Setup → Ranges → Marks → Notes → Option Line → List ℕ → (Notes → Type 0) → Type 0
LineTells setup ranges marks notes (Some (line.Event event)) text later = EventTells ranges marks notes event text later
LineTells setup ranges marks notes (Some (line.Macro (macro.Query query))) text later = QueryTells setup ranges marks notes text later
LineTells setup ranges marks notes (Some (line.Macro (macro.Exchange instance p q controller))) text later = ExchangeTells notes p q text later
LineTells setup ranges marks notes other text later = later notes

-- a segment that was told to be committed, and to be deleted, lies below the mark
abbrev pub AreBelow : Ranges → Marks → Notes → Type 0
AreBelow ranges marks notes =
    (s : Segment) → Has notes.deleted s → Has notes.committed s → (ranges s.partition s.sequence).end.0 ≤ marks s.partition

-- no mark falls, each is 0 in a table without a retention, and what was deleted lies below; with these marks a line tells so
pub record Risen (setup : Setup) (ranges : Ranges) (marks : Marks) (notes : Notes) (tells : Marks → Type 0) : Type 0 where
  pub now : Marks
  pub rise : (p : Partition) → p.0 < setup.partitions → marks p ≤ now p
  pub first : (p : Partition) → p.0 < setup.partitions → setup.retention ≡ None → now p ≡ 0
  pub below : AreBelow ranges now notes
  pub so : tells now

-- so it is of each line that has a text
abbrev pub AllTellSo : Setup → Ranges → Marks → Notes → List NumberedLine → List (List ℕ) → Type 0
AllTellSo setup ranges marks notes lines [] = Unit {0}
AllTellSo setup ranges marks notes [] (text ∷ texts) = ⊥
AllTellSo setup ranges marks notes (line ∷ lines) (text ∷ texts) =
    Risen setup ranges marks notes (λ now. LineTells setup ranges now notes (line_in setup line.1) text (λ more. AllTellSo setup ranges now more lines texts))

-- each segment has one range, as far as it was committed, with which all lines agree; and each partition has its mark at each line
pub record CommitsStay (setup : Setup) (lines : List NumberedLine) (texts : List (List ℕ)) : Type 0 where
  pub ranges : Ranges
  pub all : AllTellSo setup ranges (λ p. 0) no_notes lines texts
