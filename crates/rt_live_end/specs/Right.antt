-- When an ended cluster is right: over the one history of each of its stores, and over what all its nodes sent.
use Rattle.std.specs.Prelude.{◌≡◌, ◌≤◌, ◌<◌, ◌⊎◌, All, List, length, map, slice_get, Some, None}
use Rattle.std.specs.List.{flat_map}
use Rattle.rt_base.specs.declared.numbers.Partition.{Partition}
use Rattle.rt_base.specs.declared.numbers.Sequence.{Sequence}
use Rattle.rt_broker.specs.Answering.{routed_of}
use Rattle.rt_broker.specs.Asking.{Asking, route_at}
use Rattle.rt_broker.specs.IsAskedBy.{IsRefusedBy}
use Rattle.rt_broker.specs.declared.piece_asked.PieceAsked.{PieceAsked}
use Rattle.rt_broker.specs.declared.piece_given.PieceGiven.{PieceGiven}
use Rattle.rt_broker.specs.declared.piece_got.PieceGot.{PieceGot}
use Rattle.rt_broker.specs.declared.piece_got.PieceGot.TheVariants as got
use Rattle.rt_broker.specs.declared.route.Route.TheVariants.{Planned}
use Rattle.rt_consumer.specs.declared.consumer.Consumer.{Consumer}
use Rattle.rt_deep.specs.declared.deep_put.DeepPut.{DeepPut}
use Rattle.rt_entry.specs.declared.entry.Entry.{Entry}
use Rattle.rt_ground.specs.StreamCalls.{log_of}
use Rattle.rt_lists.specs.Members.{Has, IsFront}
use Rattle.rt_live_names.specs.BrokerPart.{Answered, IsPlanSince}
use Rattle.rt_live_names.specs.ControllerPart.{ControllerPart}
use Rattle.rt_live_names.specs.Fronts.{viewed}
use Rattle.rt_live_names.specs.Names.{Names}
use Rattle.rt_live_names.specs.ServerPart.{ServerPart}
use Rattle.rt_model.specs.Aggregate.{aggregate}
use Rattle.rt_model.specs.Laws.{Begins}
use Rattle.rt_model.specs.Metadata.{IsDeleted, metadata_of}
use Rattle.rt_model.specs.Plan.{piece_of}
use Rattle.rt_model.specs.RightAnswer.{IsRightAnswer}
use Rattle.rt_model.specs.Tiled.{IsTiledTo}
use Rattle.rt_model.specs.declared.commit.Commit.{Commit}
use Rattle.rt_model.specs.declared.node.Listed.{Listed}
use Rattle.rt_model.specs.declared.node.Seen.{Seen}
use Rattle.rt_model.specs.declared.piece.Piece.{Piece}
use Rattle.rt_model.specs.declared.query.Query.{Query}
use Rattle.rt_model.specs.declared.reply.Reply.{Reply}
use Rattle.rt_model.specs.declared.request.Request.{Request}
use Rattle.rt_model.specs.declared.status.Status.TheVariants.{Done}
use Rattle.rt_past.specs.IsPast.{IsRightUpload}
use Rattle.rt_past.specs.Past.{Past}
use Rattle.rt_past.specs.View.{IsSound}
use Rattle.rt_replica.specs.Held.{IsHeld}
use Rattle.rt_server.specs.Given as given
use Rattle.rt_server.specs.LastingRows.{CommittedRows, IsRightCommitted, committed_rows}
use Rattle.rt_server.specs.Table.{entry_of, replica_of}
use Rattle.rt_store.specs.Contents.{starting_of}
use Rattle.rt_stream.specs.Log.{Log, messages_of}
use Rattle.rt_live_end.specs.Ended.{Ended, IsAnswerIn, IsGround, fronts_of, gave_by}
use Rattle.rt_live_end.specs.Ends.{committed_end}
use Rattle.rt_live_end.specs.Input.{all_rows, messages_to}
use Rattle.rt_live_end.specs.Meeting.{HasMet}
use Rattle.rt_live_names.specs.Whole.{IsWhole, whole_ranges}

-- what all servers asked, and what all controllers answered
abbrev pub requests_of : List ServerPart → List Request
requests_of servers = flat_map (λ (a : ServerPart). a.requests) servers

abbrev pub replies_of : List ControllerPart → List Reply
replies_of controllers = flat_map (λ (a : ControllerPart). a.replies) controllers

-- the stream, the store's history and the files as the met caller shows them, and all that was asked and answered
abbrev pub past_of : Names → Ended → Past
past_of n e = viewed n.setup e.met (requests_of e.servers) (replies_of e.controllers)

-- ---- files

-- every file that was put is a right one of the segment of the request that uploaded it, up to that request's offset
abbrev pub AreFilesRight : Names → Ended → Type 0
AreFilesRight n e = (f : DeepPut) → Has (past_of n e).files f → IsRightUpload n.setup (past_of n e) f

-- ---- commits

-- the ranges of a partition's Done writes tile the offsets from 0 up to their greatest end, which lies within the
-- log, and the committed ones are those from the mark on
pub record IsTiledWithin (log : Log) (h : List Seen) (p : Partition) : Type 0 where
  pub tiled : IsTiledTo h p (committed_end h p)
  pub within : committed_end h p ≤ length (messages_of log p)

-- so it is at every moment of the store's history
abbrev pub AreAlwaysTiled : Names → Ended → Type 0
AreAlwaysTiled n e =
    (h : List Seen) (p : Partition) → Begins (starting_of n.setup) h → IsFront h (past_of n e).history
    → p.0 < n.setup.partitions → IsTiledWithin (past_of n e).log h p

-- ---- servers

-- what a server then has of a committed segment are the stream's rows of the range of a commit that was written
abbrev pub AreCommitsRight : Names → Ended → Type 0
AreCommitsRight n e =
    (a : ServerPart) (p : Partition) (q : Sequence) (x : Entry) (c : CommittedRows) → Has e.servers a
    → entry_of a.server.table p q ≡ Some x → committed_rows x ≡ Some c → IsRightCommitted n.setup (past_of n e) p q c

-- and each replica that it then has holds all that it took of the stream
abbrev pub AreReplicasHeld : Names → Ended → Type 0
AreReplicasHeld n e =
    (a : ServerPart) (p : Partition) (q : Sequence) (r : Consumer) → Has e.servers a
    → replica_of a.server.table p q ≡ Some r → IsHeld (past_of n e).log r

-- groups that were given for a piece are those of the query over the stream's rows of the range
abbrev pub IsRightGift : Names → Past → Query → Piece → PieceGot → Type 0
IsRightGift n past query piece (got.Served served) = given.IsRightAnswer n.setup past query piece served
IsRightGift n past query piece got.NotServed = Unit {0}
IsRightGift n past query piece got.Down = Unit {0}

-- a server was asked by a query of the cluster, and what it gave is right
pub record IsGivenRightly (n : Names) (past : Past) (g : PieceGiven) : Type 0 where
  pub query : Query
  pub asked : slice_get n.queries g.query ≡ Some query
  pub right : IsRightGift n past query g.piece g.got

-- so it is of every piece that a server ever gave
abbrev pub ArePiecesRight : Names → Ended → Type 0
ArePiecesRight n e =
    (a : ServerPart) (g : PieceGiven) → Has e.servers a → Has a.given g → IsGivenRightly n (past_of n e) g

-- ---- answers

-- the plan has a piece for each commit that the store had shown before, unless its segment was deleted
abbrev pub HasEveryCommit : List Seen → List Seen → Partition → List PieceAsked → Type 0
HasEveryCommit began history p xs =
    (l : Listed) (commit : Commit) → Has (metadata_of began p) l → l.seen.meta.status ≡ Done commit
    → Has (map (λ (x : PieceAsked). x.piece) xs) (piece_of p l (Some commit.end)) ⊎ IsDeleted history p l.sequence.0

-- the partition was planned, by a metadata list that has all that the store had shown before
pub record IsPlannedSince (began history : List Seen) (a : Asking) (p : Partition) : Type 0 where
  pub pieces : List PieceAsked
  pub route : route_at a p ≡ Some (Planned pieces)
  pub since : IsPlanSince began history p pieces
  pub commits : HasEveryCommit began history p pieces

-- an answer aggregates each row of the ranges that it names once, of the stream. Every partition was planned, and
-- none is missing whole. Where a piece is missing each assigned server was asked for it in this very asking, and gave
-- no rows
pub record IsAnsweredRightly (n : Names) (e : Ended) (x : Answered) : Type 0 where
  pub query : slice_get n.queries x.query ≡ Some x.asked.query
  pub right : IsRightAnswer n.setup.schema (past_of n e).log x.asked.query (routed_of x.asked) x.answer
  pub planned : (p : Partition) → p.0 < n.setup.partitions → IsPlannedSince x.began (past_of n e).history x.asked p
  pub routed : (p : Partition) → Has x.answer.missing (p, None) → ⊥
  pub refused :
      (p : Partition) (s : Sequence) → Has x.answer.missing (p, Some s)
      → IsRefusedBy (gave_by e.servers) x.query x.asking x.asked p s

-- so it is of each, printed or the first to its query
abbrev pub AreAnswersRight : Names → Ended → Type 0
AreAnswersRight n e = (x : Answered) → IsAnswerIn e x → IsAnsweredRightly n e x

-- ---- the input

-- the stream is the input: each partition has its messages, in input order
pub record IsInput (n : Names) (log : Log) : Type 0 where
  pub whole : log ≡ log_of n.setup.partitions n.rows
  pub messages : (p : Partition) → p.0 < n.setup.partitions → messages_of log p ≡ messages_to p n.rows

-- an answer that leaves nothing out aggregates all rows of the input
abbrev pub AreWholeOverInput : Names → Ended → Type 0
AreWholeOverInput n e =
    (x : Answered) → IsAnswerIn e x → IsWhole (whole_ranges n) x.answer
    → x.answer.rows ≡ aggregate x.asked.query (all_rows n.setup.schema (log_of n.setup.partitions n.rows))

-- ---- all of it

-- the one history of each store has each node's own entries once, in their order, and no others; the store's is lawful
pub record IsRight (n : Names) (e : Ended) : Type 0 where
  pub own : All (HasMet e.met) (fronts_of e)
  pub ground : IsGround n e.met
  pub sound : IsSound n.setup (past_of n e)
  pub files : AreFilesRight n e
  pub tiled : AreAlwaysTiled n e
  pub commits : AreCommitsRight n e
  pub replicas : AreReplicasHeld n e
  pub pieces : ArePiecesRight n e
  pub answers : AreAnswersRight n e
  pub input : IsInput n (past_of n e).log
  pub whole : AreWholeOverInput n e
