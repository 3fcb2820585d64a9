-- What a controller can say by itself stays so as more is seen, taken and answered.
use Rattle.std.proofs.Common.{ℕ, List}
use Rattle.std.specs.Prelude.{All}
use Rattle.std.proofs.lemmas.List.Elements.{All-weaker}
use Rattle.rt_base.specs.declared.numbers.Offset.{Offset}
use Rattle.rt_base.specs.declared.numbers.Partition.{Partition}
use Rattle.rt_base.specs.declared.numbers.Sequence.{Sequence}
use Rattle.rt_commit.specs.Lasting.{WasSent}
use Rattle.rt_commit.specs.Own.{HasReadFile, IsOwnMeta, IsOwnNode, IsOwnStatus}
use Rattle.rt_commit.specs.declared.job.Job.{Job}
use Rattle.rt_commit.specs.declared.job.JobStage.{JobStage}
use Rattle.rt_commit.specs.declared.job.JobStage.TheVariants as stage
use Rattle.rt_controller.specs.Own.{AreTaken}
use Rattle.rt_deep.specs.declared.deep_put.DeepPut.{DeepPut}
use Rattle.rt_lists.specs.Members.{Has, IsFront}
use Rattle.rt_live_names.specs.ControllerPart.{IsTaken}
use Rattle.rt_model.specs.declared.asked.Asked.{Asked}
use Rattle.rt_model.specs.declared.node.Key.{Key}
use Rattle.rt_model.specs.declared.node.Key.TheVariants as key
use Rattle.rt_model.specs.declared.node.Node.{Node}
use Rattle.rt_model.specs.declared.node.Node.TheVariants as node
use Rattle.rt_model.specs.declared.node.Seen.{Seen}
use Rattle.rt_model.specs.declared.reply.Reply.{Reply}
use Rattle.rt_model.specs.declared.request.Request.{Request}
use Rattle.rt_model.specs.declared.seg_meta.SegMeta.{SegMeta}
use Rattle.rt_model.specs.declared.sent.Sent.TheVariants as sent
use Rattle.rt_model.specs.declared.status.Status.{Status}
use Rattle.rt_model.specs.declared.status.Status.TheVariants.{Abandoned, Done, InProgress}
use Rattle.rt_past.specs.Past.{Past}
use Rattle.rt_past.specs.Replies.{IsReply}
use Rattle.rt_past.specs.View.{Within}
use Rattle.rt_past.proofs.Growth.{named_grows, reply_within}
use Rattle.rt_znodes.specs.Znodes.{meta_in}
use Rattle.rt_live_controller.specs.Begun.{HasBegun, HasCommitted, HasMeta, HasWritten}

-- ---- files that are named

status_on : (a b : List DeepPut) (p : Partition) (q : Sequence) (m : SegMeta) (st : Status) → IsFront a b → IsOwnStatus a p q m st → IsOwnStatus b p q m st
status_on a b p q m InProgress f k = k
status_on a b p q m (Done commit) f k = named_grows a b p q m.start commit f k
status_on a b p q m Abandoned f k = k

meta_on : (a b : List DeepPut) (k : Key) (m : SegMeta) → IsFront a b → IsOwnMeta a k m → IsOwnMeta b k m
meta_on a b (key.Meta p q) m f own = status_on a b p q m m.status f own
meta_on a b key.Ideal m f own = own
meta_on a b (key.Boot i) m f own = own

pub node_on : (a b : List DeepPut) (k : Key) (n : Node) → IsFront a b → IsOwnNode a k n → IsOwnNode b k n
node_on a b k (node.Meta m) f own = meta_on a b k m f own
node_on a b k (node.Ideal state) f own = own
node_on a b k node.Boot f own = own
node_on a b k node.Gone f own = own

pub read_on : (a b : List DeepPut) (q : Asked) (s : JobStage) → IsFront a b → HasReadFile a q s → HasReadFile b q s
read_on a b q (stage.Check from end path) f k = k
read_on a b q (stage.Done from commit) f k = named_grows a b q.partition q.sequence (meta_in from.node).start commit f k
read_on a b q (stage.Next done) f k = k
read_on a b q (stage.IdealRead w found) f k = k
read_on a b q (stage.IdealSet w found ideal) f k = k
read_on a b q stage.Ended f k = k

-- ---- how commits began

module _ (A B : Partition → Sequence → Offset → List ℕ → Type 0) (on : (p : Partition) (q : Sequence) (end : Offset) (path : List ℕ) → A p q end path → B p q end path) where
  pub begun_weaker : (q : Asked) (s : JobStage) → HasBegun A q s → HasBegun B q s
  begun_weaker q (stage.Check from end path) k = on q.partition q.sequence end path k
  begun_weaker q (stage.Done from commit) k = on q.partition q.sequence commit.end commit.path k
  begun_weaker q (stage.Next done) k = k
  begun_weaker q (stage.IdealRead w found) k = k
  begun_weaker q (stage.IdealSet w found ideal) k = k
  begun_weaker q stage.Ended k = k

  committed_weaker : (p : Partition) (q : Sequence) (st : Status) → HasCommitted A p q st → HasCommitted B p q st
  committed_weaker p q InProgress k = k
  committed_weaker p q (Done commit) k = on p q commit.end commit.path k
  committed_weaker p q Abandoned k = k

  meta_weaker : (k : Key) (m : SegMeta) → HasMeta A k m → HasMeta B k m
  meta_weaker (key.Meta p q) m h = committed_weaker p q m.status h
  meta_weaker key.Ideal m h = h
  meta_weaker (key.Boot i) m h = h

  pub written_weaker : (k : Key) (n : Node) → HasWritten A k n → HasWritten B k n
  written_weaker k (node.Meta m) h = meta_weaker k m h
  written_weaker k (node.Ideal state) h = h
  written_weaker k node.Boot h = h
  written_weaker k node.Gone h = h

-- ---- what was taken

sent_on : (a b : Past) (q : Asked) → Within a b → WasSent a q → WasSent b q
sent_on a b q within k = record { request = k.request; was_sent = within.sent (sent.Request k.request) k.was_sent; answers = k.answers }

taken_on : (rs qs : List Request) (f : DeepPut) → ((r : Request) → Has rs r → Has qs r) → IsTaken rs f → IsTaken qs f
taken_on rs qs f more k = record { request = k.request; taken = more k.request k.taken; uploads = k.uploads }

-- ---- all of it

-- what a controller of these jobs keeps over a view, with what is its own, and by how its commits began
pub record IsLocal (view : Past) (own : List Seen) (files : List DeepPut) (rs : List Request) (ps : List Reply)
    (Was : Partition → Sequence → Offset → List ℕ → Type 0) (jobs : List Job) : Type 0 where
  pub writes : All (λ w. IsOwnNode view.files w.key w.node) own
  pub puts : All (IsTaken rs) files
  pub replies : All (IsReply view) ps
  pub taken : AreTaken view jobs
  pub read : All (λ j. HasReadFile view.files j.asked j.stage) jobs
  pub begun : All (λ j. HasBegun Was j.asked j.stage) jobs
  pub written : All (λ w. HasWritten Was w.key w.node) own

pub local_on : (a b : Past) (writes : List Seen) (files : List DeepPut) (rs qs : List Request) (replies : List Reply)
    (A B : Partition → Sequence → Offset → List ℕ → Type 0) (jobs : List Job)
    → Within a b → ((r : Request) → Has rs r → Has qs r) → ((p : Partition) (q : Sequence) (end : Offset) (path : List ℕ) → A p q end path → B p q end path)
    → IsLocal a writes files rs replies A jobs → IsLocal b writes files qs replies B jobs
local_on a b writes files rs qs replies A B jobs within more on k = record {
  writes = All-weaker (λ (w : Seen). IsOwnNode a.files w.key w.node) (λ w. IsOwnNode b.files w.key w.node)
      (λ w own. node_on a.files b.files w.key w.node within.files own) writes k.writes;
  puts = All-weaker (IsTaken rs) (IsTaken qs) (λ f t. taken_on rs qs f more t) files k.puts;
  replies = All-weaker (IsReply a) (IsReply b) (λ r t. reply_within a b r within t) replies k.replies;
  taken = All-weaker (λ (j : Job). WasSent a j.asked) (λ j. WasSent b j.asked) (λ j t. sent_on a b j.asked within t) jobs k.taken;
  read = All-weaker (λ (j : Job). HasReadFile a.files j.asked j.stage) (λ j. HasReadFile b.files j.asked j.stage)
      (λ j t. read_on a.files b.files j.asked j.stage within.files t) jobs k.read;
  begun = All-weaker (λ (j : Job). HasBegun A j.asked j.stage) (λ j. HasBegun B j.asked j.stage) (λ j t. begun_weaker A B on j.asked j.stage t) jobs k.begun;
  written = All-weaker (λ (w : Seen). HasWritten A w.key w.node) (λ w. HasWritten B w.key w.node) (λ w t. written_weaker A B on w.key w.node t) writes k.written;
}
