-- What is right of a past is right of one that has all of it, as a later one has.
use Rattle.std.proofs.Common.{◌≡◌, ℕ, ◌≤◌, List, ◌++◌, length, sym, ap, ◌∙◌, arith}
use Rattle.std.proofs.lemmas.List.{length-append}
use Rattle.rt_base.specs.declared.numbers.Instance.{Instance}
use Rattle.rt_base.specs.declared.numbers.Offset.{Offset}
use Rattle.rt_base.specs.declared.numbers.Partition.{Partition}
use Rattle.rt_base.specs.declared.numbers.Sequence.{Sequence}
use Rattle.rt_lists.specs.Members.{IsFront}
use Rattle.rt_lists.proofs.Members.{Has-front, front_same, front_then}
use Rattle.rt_schema.specs.declared.schema.Schema.{Schema}
use Rattle.rt_schema.specs.Row.{rows_in}
use Rattle.rt_schema.proofs.Rows.{rows_in_grows}
use Rattle.rt_model.specs.declared.commit.Commit.{Commit}
use Rattle.rt_model.specs.declared.node.Key.{Key}
use Rattle.rt_model.specs.declared.node.Key.TheVariants as key
use Rattle.rt_model.specs.declared.node.Node.{Node}
use Rattle.rt_model.specs.declared.node.Node.TheVariants as node
use Rattle.rt_model.specs.declared.node.Seen.{Seen}
use Rattle.rt_model.specs.declared.reply.Reply.{Reply}
use Rattle.rt_model.specs.declared.reply.ReplyStatus.{ReplyStatus}
use Rattle.rt_model.specs.declared.reply.ReplyStatus.TheVariants as status
use Rattle.rt_model.specs.declared.request.Request.{Request}
use Rattle.rt_model.specs.declared.request.RequestKind.{RequestKind}
use Rattle.rt_model.specs.declared.request.RequestKind.TheVariants as kind
use Rattle.rt_model.specs.declared.request.RequestNumber.{RequestNumber}
use Rattle.rt_model.specs.declared.seg_meta.SegMeta.{SegMeta}
use Rattle.rt_model.specs.declared.seg_meta.SeenMeta.{SeenMeta}
use Rattle.rt_model.specs.declared.sent.Sent.TheVariants as sent
use Rattle.rt_model.specs.declared.setup.Setup.{Setup}
use Rattle.rt_model.specs.declared.status.Status.{Status}
use Rattle.rt_model.specs.declared.status.Status.TheVariants.{InProgress, Done, Abandoned}
use Rattle.rt_model.specs.History.{writes_of, next_version}
use Rattle.rt_model.specs.Metadata.{HasNode}
use Rattle.rt_model.proofs.Histories.{writes_of-append}
use Rattle.rt_stream.specs.Log.{Log, messages_of}
use Rattle.rt_stream.specs.Feed.{Grows as GrowsLog}
use Rattle.rt_stream.proofs.Growth.{log_same, log_then}
use Rattle.rt_deep.specs.declared.deep_put.DeepPut.{DeepPut}
use Rattle.rt_deep.proofs.Files.{file_of-stays}
use Rattle.rt_past.specs.Past.{Past, Grows}
use Rattle.rt_past.specs.Segments.{OpensAt, OpensAs, IsBegun, IsBegunAs, HadEntry, WasMeta, WasOpen, WasDone, IsIncarnation}
use Rattle.rt_past.specs.Files.{IsRightFile, Stands, IsStored}
use Rattle.rt_past.specs.Requests.{IsUploadPath, IsKind, IsRequest}
use Rattle.rt_past.specs.Replies.{IsStatus, IsReply}
use Rattle.rt_past.specs.View.{Within, IsNamed}
use Rattle.rt_past.specs.Writes.{IsRightStatus, IsRightMeta, IsRightNode, IsRightWrite}

-- ---- growth itself

pub grows_same : (a : Past) → Grows a a
grows_same a =
    record { log = log_same a.log; history = front_same a.history; files = front_same a.files; sent = front_same a.sent }

pub grows_then : (a b c : Past) → Grows a b → Grows b c → Grows a c
grows_then a b c f g =
    record {
      log = log_then a.log b.log c.log f.log g.log;
      history = front_then a.history b.history c.history f.history g.history;
      files = front_then a.files b.files c.files f.files g.files;
      sent = front_then a.sent b.sent c.sent f.sent g.sent;
    }

-- ---- a past within another

pub within_grows : (a b : Past) → Grows a b → Within a b
within_grows a b g =
    record { log = g.log; history = g.history; files = g.files; sent = λ m has. Has-front a.sent b.sent m g.sent has }

pub within_then : (a b c : Past) → Within a b → Within b c → Within a c
within_then a b c f g =
    record {
      log = log_then a.log b.log c.log f.log g.log;
      history = front_then a.history b.history c.history f.history g.history;
      files = front_then a.files b.files c.files f.files g.files;
      sent = λ m has. g.sent m (f.sent m has);
    }

-- ---- the log

pub length_grows : (a b : Log) (p : Partition) → GrowsLog a b → length (messages_of a p) ≤ length (messages_of b p)
length_grows a b p g =
    let m = g.messages p in
    let size : length (messages_of b p) ≡ length (messages_of a p ++ m.0) = ap (λ (xs : List (List ℕ)). length xs) m.1 in
    omega (arith, size, length-append (messages_of a p) m.0)

pub rows_grow : (schema : Schema) (a b : Log) (p : Partition) (start end : ℕ) → GrowsLog a b → start ≤ end
    → end ≤ length (messages_of a p) → rows_in schema (messages_of b p) start end ≡ rows_in schema (messages_of a p) start end
rows_grow schema a b p start end g order within =
    let m = g.messages p in
    ap (λ (xs : List (List ℕ)). rows_in schema xs start end) m.1 ∙ rows_in_grows schema (messages_of a p) m.0 start end order within

-- ---- the history

pub node_grows : (h k : List Seen) (p : Partition) (s : ℕ) (P : Node → Type 0) → IsFront h k → HasNode h p s P → HasNode k p s P
node_grows h k p s P g (w, has, of, shows) = (w, Has-front h k w g has, of, shows)

pub begun_grows : (h k : List Seen) (p : Partition) (s : Sequence) (start : Offset) → IsFront h k → IsBegun h p s start → IsBegun k p s start
begun_grows h k p s start g b = node_grows h k p s.0 (OpensAt start) g b

pub begun_as_grows : (h k : List Seen) (p : Partition) (s : Sequence) (name : List ℕ) → IsFront h k → IsBegunAs h p s name → IsBegunAs k p s name
begun_as_grows h k p s name g b = node_grows h k p s.0 (OpensAs name) g b

pub entry_grows : (h k : List Seen) (p : Partition) (s : Sequence) → IsFront h k → HadEntry h p s → HadEntry k p s
entry_grows h k p s g (w, is, has) = (w, record { has = Has-front h k w g is.has; is_ideal = is.is_ideal }, has)

pub meta_grows : (h k : List Seen) (p : Partition) (s : Sequence) (seen : SeenMeta) → IsFront h k → WasMeta h p s seen → WasMeta k p s seen
meta_grows h k p s seen g has = Has-front h k _ g has

pub open_grows : (h k : List Seen) (p : Partition) (s : Sequence) (seen : SeenMeta) → IsFront h k → WasOpen h p s seen → WasOpen k p s seen
open_grows h k p s seen g w = (meta_grows h k p s seen g w.0, w.1)

pub done_grows : (h k : List Seen) (p : Partition) (s : Sequence) (seen : SeenMeta) → IsFront h k → WasDone h p s seen → WasDone k p s seen
done_grows h k p s seen g w = (meta_grows h k p s seen g w.0, w.1)

pub incarnation_grows : (h k : List Seen) (i : Instance) (n : ℕ) → IsFront h k → IsIncarnation h i n → IsIncarnation k i n
incarnation_grows h k i n g lt =
    let more : next_version k (key.Boot i) ≡ length (writes_of h (key.Boot i) ++ writes_of g.0 (key.Boot i)) =
    ap (λ (x : List Seen). next_version x (key.Boot i)) g.1
    ∙ ap (λ (x : List Seen). length x) (writes_of-append h g.0 (key.Boot i)) in
    omega (arith, lt, more, length-append (writes_of h (key.Boot i)) (writes_of g.0 (key.Boot i)))

-- ---- files

pub right_file_within : (setup : Setup) (a b : Past) (p : Partition) (s : Sequence) (start end : Offset) (bytes : List ℕ)
    → Within a b → IsRightFile setup a p s start end bytes → IsRightFile setup b p s start end bytes
right_file_within setup a b p s start end bytes g r =
    let f = r.file in
    record {
      file = record {
        segment = f.segment;
        «sealed» = f.sealed;
        spelled = f.spelled;
        header = f.header;
        within = (f.within.0, omega (arith, f.within.1, length_grows a.log b.log p g.log));
        columns = f.columns;
        rows = f.rows ∙ sym (rows_grow setup.schema a.log b.log p start.0 end.0 g.log (omega (arith, f.within.0)) f.within.1);
      };
      begun = begun_grows a.history b.history p s start g.history r.begun;
      format = r.format;
      indexed = r.indexed;
    }

pub stands_grows : (a b : List DeepPut) (path bytes : List ℕ) → IsFront a b → Stands a path bytes → Stands b path bytes
stands_grows a b path bytes g e = file_of-stays a b path (record { path = path; bytes = bytes }) g e

pub stored_within : (setup : Setup) (a b : Past) (p : Partition) (s : Sequence) (start : Offset) (commit : Commit)
    → Within a b → IsStored setup a p s start commit → IsStored setup b p s start commit
unfolding right_file_within
stored_within setup a b p s start commit g k =
    record {
      bytes = k.bytes;
      stands = stands_grows a.files b.files commit.path k.bytes g.files k.stands;
      right = right_file_within setup a b p s start commit.end k.bytes g k.right;
      header = k.header;
    }

pub named_grows : (a b : List DeepPut) (p : Partition) (s : Sequence) (start : Offset) (commit : Commit) → IsFront a b
    → IsNamed a p s start commit → IsNamed b p s start commit
named_grows a b p s start commit g n =
    record { bytes = n.bytes; stands = stands_grows a b commit.path n.bytes g n.stands; header = n.header }

-- ---- messages

pub upload_path_grows : (h k : List Seen) (p : Partition) (s : Sequence) (number : RequestNumber) (path : List ℕ) → IsFront h k
    → IsUploadPath h p s number path → IsUploadPath k p s number path
upload_path_grows h k p s number path g u =
    record { name = u.name; begun = begun_as_grows h k p s u.name g u.begun; spelled = u.spelled }

kind_within : (setup : Setup) (a b : Past) (q : Request) (start : Offset) (k : RequestKind)
    → Within a b → IsKind setup a q start k → IsKind setup b q start k
kind_within setup a b q start kind.Stopped g k = k
kind_within setup a b q start (kind.Consumed reason) g k = k
kind_within setup a b q start kind.CommitStart g k = k
kind_within setup a b q start (kind.Extend millis) g k = k
kind_within setup a b q start (kind.Upload path bytes) g k = (
  upload_path_grows a.history b.history q.partition q.sequence q.number path g.history k.0,
  right_file_within setup a b q.partition q.sequence start q.offset bytes g k.1,
)
kind_within setup a b q start (kind.CommitEnd path) g (bytes, stands, right) =
    (bytes, stands_grows a.files b.files path bytes g.files stands, right_file_within setup a b q.partition q.sequence start q.offset bytes g right)

pub request_within : (setup : Setup) (a b : Past) (q : Request) → Within a b → IsRequest setup a q → IsRequest setup b q
request_within setup a b q g r =
    record {
      partition = r.partition;
      assigned = r.assigned;
      incarnation = incarnation_grows a.history b.history q.number.instance q.number.incarnation g.history r.incarnation;
      count = r.count;
      entered = entry_grows a.history b.history q.partition q.sequence g.history r.entered;
      start = r.start;
      begun = begun_grows a.history b.history q.partition q.sequence r.start g.history r.begun;
      within = omega (arith, r.within, length_grows a.log b.log q.partition g.log);
      kind = kind_within setup a b q r.start q.kind g r.kind;
    }

status_within : (a b : Past) (q : Request) (s : ReplyStatus) → Within a b → IsStatus a q s → IsStatus b q s
status_within a b q (status.Keep seen) g k = done_grows a.history b.history q.partition q.sequence seen g.history k
status_within a b q (status.CommitSuccess seen) g k = done_grows a.history b.history q.partition q.sequence seen g.history k
status_within a b q (status.UploadSuccess path) g (bytes, of, stands) =
    (bytes, of, stands_grows a.files b.files path bytes g.files stands)
status_within a b q status.Hold g k = tt
status_within a b q (status.CatchUp offset) g k = tt
status_within a b q status.Discard g k = tt
status_within a b q (status.Commit offset) g k = tt
status_within a b q status.NotLeader g k = tt
status_within a b q status.CommitContinue g k = tt
status_within a b q status.Processed g k = tt
status_within a b q (status.Failed cause) g k = tt

pub reply_within : (a b : Past) (r : Reply) → Within a b → IsReply a r → IsReply b r
reply_within a b r g k =
    record {
      request = k.request;
      was_sent = g.sent (sent.Request k.request) k.was_sent;
      answers = k.answers;
      status = status_within a b k.request r.status g k.status;
    }

-- ---- writes

right_status_within : (setup : Setup) (a b : Past) (p : Partition) (s : Sequence) (m : SegMeta) (t : Status)
    → Within a b → IsRightStatus setup a p s m t → IsRightStatus setup b p s m t
right_status_within setup a b p s m InProgress g k = k
right_status_within setup a b p s m (Done commit) g k =
    (entry_grows a.history b.history p s g.history k.0, stored_within setup a b p s m.start commit g k.1)
right_status_within setup a b p s m Abandoned g k = entry_grows a.history b.history p s g.history k

right_meta_within : (setup : Setup) (a b : Past) (k : Key) (m : SegMeta) → Within a b → IsRightMeta setup a k m → IsRightMeta setup b k m
right_meta_within setup a b (key.Meta p s) m g r = right_status_within setup a b p s m m.status g r
right_meta_within setup a b key.Ideal m g r = tt
right_meta_within setup a b (key.Boot i) m g r = tt

right_node_within : (setup : Setup) (a b : Past) (k : Key) (n : Node) → Within a b → IsRightNode setup a k n → IsRightNode setup b k n
right_node_within setup a b k (node.Meta m) g r = right_meta_within setup a b k m g r
right_node_within setup a b k (node.Ideal i) g r = r
right_node_within setup a b k node.Boot g r = tt
right_node_within setup a b k node.Gone g r = tt

pub right_write_within : (setup : Setup) (a b : Past) (w : Seen) → Within a b → IsRightWrite setup a w → IsRightWrite setup b w
right_write_within setup a b w g r = right_node_within setup a b w.key w.node g r

-- ---- as the past grows

pub stored_grows : (setup : Setup) (a b : Past) (p : Partition) (s : Sequence) (start : Offset) (commit : Commit)
    → Grows a b → IsStored setup a p s start commit → IsStored setup b p s start commit
stored_grows setup a b p s start commit g = stored_within setup a b p s start commit (within_grows a b g)

pub request_grows : (setup : Setup) (a b : Past) (q : Request) → Grows a b → IsRequest setup a q → IsRequest setup b q
request_grows setup a b q g = request_within setup a b q (within_grows a b g)

pub reply_grows : (a b : Past) (r : Reply) → Grows a b → IsReply a r → IsReply b r
reply_grows a b r g = reply_within a b r (within_grows a b g)

pub right_write_grows : (setup : Setup) (a b : Past) (w : Seen) → Grows a b → IsRightWrite setup a w → IsRightWrite setup b w
right_write_grows setup a b w g = right_write_within setup a b w (within_grows a b g)
