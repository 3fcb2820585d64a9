-- What the report of every script comes with: the run of its lines, in which every world is right.
use Rattle.std.specs.Prelude.{◌≡◌, ℕ, ◌<◌, ◌≤◌, List, [], ◌++◌, All, length, map, IfSome, Some, Result, Ok, Err, slice_get}
use Rattle.rt_base.specs.declared.numbers.ControllerId.{ControllerId}
use Rattle.rt_base.specs.declared.numbers.Instance.{Instance}
use Rattle.rt_base.specs.declared.numbers.Offset.{Offset}
use Rattle.rt_base.specs.declared.numbers.Partition.{Partition}
use Rattle.rt_base.specs.declared.numbers.Sequence.{Sequence}
use Rattle.rt_base.specs.Sink.{SinkMeaning}
use Rattle.rt_base.specs.Source.{SourceMeaning}
use Rattle.rt_consumer.specs.declared.consumer.Consumer.{Consumer}
use Rattle.rt_controller.specs.Right.{IsTimely}
use Rattle.rt_controller.specs.declared.segment_machine.SegmentMachine.{SegmentMachine}
use Rattle.rt_deep.specs.declared.deep_put.DeepPut.{DeepPut}
use Rattle.rt_entry.specs.declared.entry.Entry.{Entry}
use Rattle.rt_entry.specs.declared.served_rows.ServedRows.{ServedRows}
use Rattle.rt_events.specs.declared.event.Event.TheVariants as event
use Rattle.rt_events.specs.declared.outcome.Outcome.{Outcome}
use Rattle.rt_events.specs.declared.outcome.Outcome.TheVariants as told
use Rattle.rt_hybrid.specs.Sides.{IsHybridAnswer}
use Rattle.rt_hybrid.specs.Table.{OfflineTable}
use Rattle.rt_lines.specs.Header.{NumberedLine}
use Rattle.rt_lines.specs.Lines.{script_lines}
use Rattle.rt_lines.specs.declared.play_fault.PlayFault.{PlayFault}
use Rattle.rt_lists.specs.Members.{Has}
use Rattle.rt_macros.specs.Doing.{Reached, reached}
use Rattle.rt_model.specs.Chain.{IsChain}
use Rattle.rt_model.specs.Messages.{asked_of}
use Rattle.rt_model.specs.Metadata.{metadata_of}
use Rattle.rt_model.specs.Plan.{plan_of}
use Rattle.rt_model.specs.Tiled.{IsTiled}
use Rattle.rt_model.specs.declared.answer.Answer.{Answer}
use Rattle.rt_model.specs.declared.asked.Asked.{Asked}
use Rattle.rt_model.specs.declared.commit.Commit.{Commit}
use Rattle.rt_model.specs.declared.piece.Piece.{Piece}
use Rattle.rt_model.specs.declared.query.Query.{Query}
use Rattle.rt_model.specs.declared.reply.Reply.{Reply}
use Rattle.rt_model.specs.declared.request.Request.{Request}
use Rattle.rt_model.specs.declared.seg_meta.SeenMeta.{SeenMeta}
use Rattle.rt_model.specs.declared.sent.Sent.TheVariants as sent
use Rattle.rt_model.specs.declared.setup.Setup.{Setup}
use Rattle.rt_model.specs.declared.status.Status.TheVariants.{Done}
use Rattle.rt_nodes.specs.declared.controller_node.ControllerNode.{ControllerNode}
use Rattle.rt_nodes.specs.declared.server_node.ServerNode.{ServerNode}
use Rattle.rt_past.specs.Files.{IsStored}
use Rattle.rt_past.specs.IsPast.{IsRightUpload}
use Rattle.rt_past.specs.Replies.{IsReply}
use Rattle.rt_past.specs.Requests.{IsRequest}
use Rattle.rt_past.specs.Segments.{WasDone}
use Rattle.rt_play.specs.Beginning.{beginning_of, going_from}
use Rattle.rt_play.specs.Causes.{MissesForCause}
use Rattle.rt_play.specs.Generating.{FrontBy, IsGeneratedFrom, generated_setup}
use Rattle.rt_play.specs.Plays.{PlaysBy, Tells}
use Rattle.rt_play.specs.Report.{FrontRuns, IsReportFrom, Report, end_of, stopped}
use Rattle.rt_play.specs.declared.beginning.Beginning.{Beginning}
use Rattle.rt_play.specs.declared.generating.Generated.{Generated}
use Rattle.rt_play.specs.declared.play_end.PlayEnd.{PlayEnd}
use Rattle.rt_safety.specs.CommitRun.{GoesSo, GoesWithoutCrash, IsOpen, Opens}
use Rattle.rt_safety.specs.GoesOn.{GoesOn}
use Rattle.rt_safety.specs.IsAnswered.{IsAnswered}
use Rattle.rt_safety.specs.IsRightReplica.{IsRightReplica}
use Rattle.rt_safety.specs.Later.{KeepsCommitted}
use Rattle.rt_safety.specs.Runs.{Turn, Leads, Runs}
use Rattle.rt_segment.specs.Segment.{SealedSegment}
use Rattle.rt_server.specs.LastingRows.{AreRightRows, CommittedRows, IsRightCommitted, IsRightCopy, committed_rows}
use Rattle.rt_server.specs.Serving.{serve}
use Rattle.rt_server.specs.Table.{entry_of, file_at}
use Rattle.rt_state.specs.Finding.{replica_at, request_at}
use Rattle.rt_state.specs.IsSafe.{past_of}
use Rattle.rt_state.specs.Servers.{FindsItsFile}
use Rattle.rt_state.specs.declared.state.State.{State}
use Rattle.rt_stream.specs.Log.{messages_of}
use Rattle.rt_upconf.specs.declared.upsert_config.UpsertConfig.{UpsertConfig}
use Rattle.rt_views.specs.Answers.{hybrid_answer, latest_answer}
use Rattle.rt_views.specs.Streamed.{IsLatestAnswer}
use Rattle.rt_views.specs.Views.{routed_of, views_each, views_whole}
use Rattle.rt_views.specs.declared.view.View.{View}
use Rattle.rt_world.specs.Step.{Steps}

-- ---- a world

-- what was committed, put and sent
pub record IsRightPast (w : State) : Type 0 where
  -- each partition has its chain of segments, and its committed ranges tile its offsets, from its mark on
  pub chained : (p : Partition) → p.0 < w.setup.partitions → IsChain w.store.writes p
  pub tiled : (p : Partition) → p.0 < w.setup.partitions → IsTiled w.store.writes p
  -- whatever was ever committed ends within the stream, and its file stands
  pub within : (p : Partition) (q : Sequence) (done : SeenMeta) (commit : Commit) → WasDone w.store.writes p q done → done.meta.status ≡ Done commit
      → commit.end.0 ≤ length (messages_of w.log p)
  pub stored : (p : Partition) (q : Sequence) (done : SeenMeta) (commit : Commit) → WasDone w.store.writes p q done → done.meta.status ≡ Done commit
      → IsStored w.setup (past_of w) p q done.meta.start commit
  -- every file, request and reply is right
  pub files : (f : DeepPut) → Has w.deep.files f → IsRightUpload w.setup (past_of w) f
  pub requests : (q : Request) → Has w.sent (sent.Request q) → IsRequest w.setup (past_of w) q
  pub replies : (r : Reply) → Has w.sent (sent.Reply r) → IsReply (past_of w) r

-- what a server has of a segment are the stream's rows: its replica's up to where it is, those of a committed entry over the range of a
-- commit that was written, those of its file, and what it serves of a piece; and a download meets no other file than its commit names
pub record IsRightServer (w : State) (i : Instance) (n : ServerNode) : Type 0 where
  pub replicas : (p : Partition) (q : Sequence) (r : Consumer) → replica_at w i p q ≡ Some r → IsRightReplica w p q r
  pub rows : (p : Partition) (q : Sequence) (e : Entry) (c : CommittedRows) → entry_of n.server.table p q ≡ Some e → committed_rows e ≡ Some c
      → IsRightCommitted w.setup (past_of w) p q c
  pub copies : (p : Partition) (q : Sequence) (file : SealedSegment) → file_at (entry_of n.server.table p q) ≡ Some file → IsRightCopy w.setup (past_of w) p q file
  pub serves : (piece : Piece) (served : ServedRows) → IfSome piece.end (λ end. piece.start.0 ≤ end.0) → serve n.server.table piece ≡ Ok served
      → AreRightRows w.setup.schema (messages_of w.log piece.partition) piece served
  pub downloads : (p : Partition) (q : Sequence) → FindsItsFile w.deep n.server p q

-- a view has each piece of its partition's plan over the metadata list that the store has
abbrev pub HasItsPlan : State → View → Type 0
HasItsPlan w v = map (λ f. f.piece) v.found ≡ plan_of v.partition (metadata_of w.store.writes v.partition)

-- what is right of a world
pub record IsRight (w : State) : Type 0 where
  pub past : IsRightPast w
  pub servers : (i : Instance) (n : ServerNode) → slice_get w.servers i.0 ≡ Some n → IsRightServer w i n
  -- an answer that is given is right over the stream as it then is
  pub answers : (q : ℕ) (answer : Answer) (next : State) → Steps w (event.Answer q) next (Ok (told.Answered answer)) → IsAnswered w q answer
  -- and so are those over the latest rows, and over rows that were pushed beside the stream
  pub latest : (config : UpsertConfig) (query : Query) → IsLatestAnswer w.setup.schema config w.log query (map routed_of (views_whole w)) (latest_answer w config query)
  pub hybrid : (table : OfflineTable) (query : Query) → table.schema ≡ w.setup.schema
      → IsHybridAnswer table w.log query (map routed_of (views_each w)) (hybrid_answer w table query)
  -- these look at each piece of the plans, where the partition's pieces come from one server, and where each comes from any
  pub whole : All (HasItsPlan w) (views_whole w)
  pub each : All (HasItsPlan w) (views_each w)
  -- a COMMIT_END in time opens its commit job
  pub opens : (m : ℕ) (c : ControllerId) (q : Request) (node : ControllerNode) (path : List ℕ) (place : ℕ) (g : SegmentMachine) (next : State) (outcome : Outcome)
      → request_at w m ≡ Some q → slice_get w.controllers c.0 ≡ Some node → IsTimely node.controller q w.moment path place g
      → Steps w (event.Deliver m c) next (Ok outcome) → Opens next c node.controller.started (asked_of q) q.offset outcome
  -- which goes on along any turns without a crash of its controller, until it ends as a commit ends
  pub ends : (c : ControllerId) (n : ℕ) (a : Asked) (end : Offset) (left : ℕ) (turns : List Turn) (x : State) (r : GoesWithoutCrash c w turns x)
      → IsOpen w c n a end left → GoesSo c n a end left w turns x r

-- ---- a run

-- what a later world keeps of an earlier one: all that was produced, written, put and sent; no partition's mark falls, and a range that
-- was committed stays so until it lies below the mark
pub record Keeps (w v : State) : Type 0 where
  pub goes : GoesOn w v
  pub committed : (p : Partition) → p.0 < w.setup.partitions → KeepsCommitted w.store.writes v.store.writes p

-- these turns lead from the first world of a cluster to this one; each world on the way is right, and keeps what those before it had; and an
-- answer that is given in one of them misses nothing without its cause in the turns before
pub record RunsRightly (setup : Setup) (last : Reached) : Type 0 where
  pub runs : Runs setup last.turns last.world
  pub right : (before after : List Turn) (w : State) → last.turns ≡ before ++ after → Runs setup before w → IsRight w
  pub keeps : (before between after : List Turn) (w v : State) → last.turns ≡ before ++ (between ++ after) → Runs setup before w → Leads w between v → Keeps w v
  pub misses : (before after : List Turn) (w : State) → last.turns ≡ before ++ after → Runs setup before w → MissesForCause setup before w

-- ---- reports

abbrev pub IsRightReportBehind : Result (Beginning × List NumberedLine) PlayFault → Report → Type 0
IsRightReportBehind (Ok x) report = (is : IsReportFrom x.1 (going_from x.0) report) × RunsRightly x.0.setup (end_of is)
IsRightReportBehind (Err why) report = report ≡ stopped why

-- the report of a script, and the run of its lines, up to the end of that at which it stops
abbrev pub IsRightReport : List ℕ → Report → Type 0
IsRightReport input report = IsRightReportBehind (beginning_of (script_lines input)) report

abbrev pub IsRightFrontBehind : Result (Beginning × List NumberedLine) PlayFault → List (List ℕ) → Type 0
IsRightFrontBehind (Ok x) texts = (front : FrontRuns x.1 (going_from x.0) texts) × RunsRightly x.0.setup (reached front.turns front.last.world)
IsRightFrontBehind (Err why) texts = texts ≡ []

-- the first lines of one, and their run
abbrev pub IsRightFront : List ℕ → List (List ℕ) → Type 0
IsRightFront input texts = IsRightFrontBehind (beginning_of (script_lines input)) texts

-- what was read and written of a script, by the answer: a report, or its first lines, of a run in which every world is right
abbrev pub PlaysRightly : SourceMeaning → SourceMeaning → SinkMeaning → SinkMeaning → Result PlayEnd PlayFault → Type 0
PlaysRightly from to old new result = PlaysBy IsRightReport IsRightFront from to old new result

-- ---- generated runs

abbrev pub IsRightGeneratedBy : Generated → Result Setup PlayFault → Report → Type 0
IsRightGeneratedBy asked (Ok setup) report = (is : IsGeneratedFrom asked setup report) × RunsRightly setup is.last
IsRightGeneratedBy asked (Err why) report = report ≡ stopped why

-- the report of a generated run, and that run
abbrev pub IsRightGenerated : Generated → Report → Type 0
IsRightGenerated asked report = IsRightGeneratedBy asked (generated_setup asked) report

-- what is written of it, by the answer
abbrev pub TellsRightly : Generated → SinkMeaning → SinkMeaning → Result PlayEnd PlayFault → Type 0
TellsRightly asked old new result = Tells (IsRightGenerated asked) (FrontBy (IsRightGenerated asked)) old new result
