-- What is true of all that was written, put and sent.
use Rattle.std.specs.Prelude.{◌≡◌, List, [], length, replicate}
use Rattle.rt_base.specs.declared.numbers.Offset.{Offset}
use Rattle.rt_lists.specs.Members.{Has}
use Rattle.rt_model.specs.declared.node.Seen.{Seen}
use Rattle.rt_model.specs.declared.reply.Reply.{Reply}
use Rattle.rt_model.specs.declared.request.Request.{Request}
use Rattle.rt_model.specs.declared.request.RequestKind.TheVariants as kind
use Rattle.rt_model.specs.declared.sent.Sent.{Sent}
use Rattle.rt_model.specs.declared.sent.Sent.TheVariants as sent
use Rattle.rt_model.specs.declared.setup.Setup.{Setup}
use Rattle.rt_model.specs.Lawful.{IsLawfulHistory}
use Rattle.rt_model.specs.Starting.{starting_contents}
use Rattle.rt_deep.specs.declared.deep_put.DeepPut.{DeepPut}
use Rattle.rt_deep.specs.Files.{AreOnce}
use Rattle.rt_store.specs.Contents.{starting_of}
use Rattle.rt_past.specs.Past.{Past, Grows}
use Rattle.rt_past.specs.Files.{IsRightFile}
use Rattle.rt_past.specs.Replies.{IsReply}
use Rattle.rt_past.specs.Requests.{AreUnique, IsRequest}
use Rattle.rt_past.specs.Writes.{IsRightWrite}

-- the file is one that a request uploaded
abbrev pub IsUploaded : List Sent → DeepPut → Type 0
IsUploaded ms f = (q : Request) × Has ms (sent.Request q) × (q.kind ≡ kind.Upload f.path f.bytes)

-- the file is right: one of the segment of the request that uploaded it, up to that request's offset
pub record IsRightUpload (setup : Setup) (past : Past) (f : DeepPut) : Type 0 where
  pub request : Request
  pub was_sent : Has past.sent (sent.Request request)
  pub uploads : request.kind ≡ kind.Upload f.path f.bytes
  pub start : Offset
  pub right : IsRightFile setup past request.partition request.sequence start request.offset f.bytes

pub record IsPast (setup : Setup) (past : Past) : Type 0 where
  pub partitions : length past.log ≡ setup.partitions
  pub lawful : IsLawfulHistory (starting_of setup) past.history
  pub writes : (w : Seen) → Has past.history w → IsRightWrite setup past w
  pub once : AreOnce past.files
  pub files : (f : DeepPut) → Has past.files f → IsUploaded past.sent f
  pub requests : (q : Request) → Has past.sent (sent.Request q) → IsRequest setup past q
  pub replies : (r : Reply) → Has past.sent (sent.Reply r) → IsReply past r
  pub unique : AreUnique past.sent

-- a past has grown to a right one
pub record GrowsRight (setup : Setup) (old new : Past) : Type 0 where
  pub grows : Grows old new
  pub right : IsPast setup new

-- a fresh cluster's: the starting contents of the store, and nothing else
abbrev pub fresh_past : Setup → Past
fresh_past setup =
    record {
      log = replicate setup.partitions [];
      history = starting_contents (starting_of setup);
      files = [];
      sent = [];
    }
