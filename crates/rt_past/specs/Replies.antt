-- Which replies are right.
use Rattle.std.specs.Prelude.{◌≡◌, ℕ, List}
use Rattle.rt_lists.specs.Members.{Has}
use Rattle.rt_model.specs.declared.reply.Reply.{Reply}
use Rattle.rt_model.specs.declared.reply.ReplyStatus.{ReplyStatus}
use Rattle.rt_model.specs.declared.reply.ReplyStatus.TheVariants as status
use Rattle.rt_model.specs.declared.request.Request.{Request}
use Rattle.rt_model.specs.declared.request.RequestKind.TheVariants as kind
use Rattle.rt_model.specs.declared.sent.Sent.TheVariants as sent
use Rattle.rt_model.specs.Messages.{asked_of}
use Rattle.rt_past.specs.Past.{Past}
use Rattle.rt_past.specs.Files.{Stands}
use Rattle.rt_past.specs.Segments.{WasDone}

-- a Done write of the segment goes with KEEP and COMMIT_SUCCESS, and the request's own upload, which stands, with
-- UPLOAD_SUCCESS
abbrev pub IsStatus : Past → Request → ReplyStatus → Type 0
IsStatus past q (status.Keep seen) = WasDone past.history q.partition q.sequence seen
IsStatus past q (status.CommitSuccess seen) = WasDone past.history q.partition q.sequence seen
IsStatus past q (status.UploadSuccess path) =
    (bytes : List ℕ) × (q.kind ≡ kind.Upload path bytes) × Stands past.files path bytes
IsStatus past q status.Hold = Unit {0}
IsStatus past q (status.CatchUp offset) = Unit {0}
IsStatus past q status.Discard = Unit {0}
IsStatus past q (status.Commit offset) = Unit {0}
IsStatus past q status.NotLeader = Unit {0}
IsStatus past q status.CommitContinue = Unit {0}
IsStatus past q status.Processed = Unit {0}
IsStatus past q (status.Failed cause) = Unit {0}

-- an answer to a request that was sent
pub record IsReply (past : Past) (r : Reply) : Type 0 where
  pub request : Request
  pub was_sent : Has past.sent (sent.Request request)
  pub answers : asked_of request ≡ record { number = r.number; partition = r.partition; sequence = r.sequence }
  pub status : IsStatus past request r.status
