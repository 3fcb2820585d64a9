-- What a controller answers to a request: at once, by the answer to an upload, or by what a machine's reaction leads to.
use Rattle.std.specs.Prelude.{ℕ, ◌+◌, List, [], ◌∷◌, ◌++◌, Option, Some, None, Result, Ok, Err}
use Rattle.rt_base.specs.declared.header.Header.{Header}
use Rattle.rt_base.specs.declared.numbers.Offset.{Offset}
use Rattle.rt_model.specs.declared.completion.Ask.{Ask}
use Rattle.rt_model.specs.declared.completion.Ask.TheVariants as ask
use Rattle.rt_model.specs.declared.completion.Reaction.{Reaction}
use Rattle.rt_model.specs.declared.completion.Reaction.TheVariants as reaction
use Rattle.rt_model.specs.declared.completion.Said.{Said}
use Rattle.rt_model.specs.declared.completion.Said.TheVariants as said
use Rattle.rt_model.specs.declared.node.Key.TheVariants as key
use Rattle.rt_model.specs.declared.node.Node.TheVariants as node
use Rattle.rt_model.specs.declared.node.Seen.{Seen}
use Rattle.rt_model.specs.declared.reply.FailCause.{FailCause}
use Rattle.rt_model.specs.declared.reply.FailCause.TheVariants as cause
use Rattle.rt_model.specs.declared.reply.Reply.{Reply}
use Rattle.rt_model.specs.declared.reply.ReplyStatus.{ReplyStatus}
use Rattle.rt_model.specs.declared.reply.ReplyStatus.TheVariants as status
use Rattle.rt_model.specs.declared.request.Request.{Request}
use Rattle.rt_model.specs.declared.request.RequestKind.{RequestKind}
use Rattle.rt_model.specs.declared.request.RequestKind.TheVariants as kind
use Rattle.rt_model.specs.declared.seg_meta.SeenMeta.{SeenMeta}
use Rattle.rt_model.specs.Messages.{asked_of}
use Rattle.rt_deep.specs.declared.refused.DeepRefused.{DeepRefused}
use Rattle.rt_deep.specs.declared.refused.DeepRefused.TheVariants as deep
use Rattle.rt_store.specs.declared.refused.StoreRefused.TheVariants.{Failed, Memory}
use Rattle.rt_commit.specs.declared.job.Job.{Job}
use Rattle.rt_commit.specs.declared.job.JobStage.TheVariants as stage
use Rattle.rt_commit.specs.declared.job.JobStage.{JobStage}
use Rattle.rt_commit.specs.declared.work.Work.TheVariants as of_work
use Rattle.rt_commit.specs.Calls.{Answer, read}
use Rattle.rt_controller.specs.declared.handled.Handled.TheVariants as handled
use Rattle.rt_controller.specs.declared.handled.Handled.{Handled}
use Rattle.rt_controller.specs.declared.starting.NamedFile.{NamedFile}
use Rattle.rt_controller.specs.Controller.{Controlling, reply_to}

-- ---- answers

-- the controller after a request, and what it answered
pub record Handling : Type 0 where
  pub controller : Controlling
  pub handled : Handled

abbrev pub replies : Controlling → Request → ReplyStatus → Handling
replies c r s = record { controller = c; handled = handled.Reply (reply_to (asked_of r) s) }

abbrev pub fails : Controlling → Request → FailCause → Handling
fails c r because = replies c r (status.Failed because)

-- a job is started, which gets the next number
abbrev pub starts : Controlling → Request → JobStage → Handling
starts c r s =
    record {
      controller =
          record c {
            jobs = c.jobs ++ record { number = c.started; asked = asked_of r; stage = s } ∷ [];
            started = c.started + 1;
          };
      handled = handled.Job c.started;
    }

-- ---- an upload

-- the header that an upload claims: from 0 to its offset, no rows, the digest of what stands at its path
abbrev pub claimed : Request → List ℕ → Header
claimed r digest =
    record {
      partition = r.partition;
      sequence = r.sequence;
      range = record { start = record { 0 = 0 }; end = r.offset };
      rows = 0;
      digest = digest;
    }

abbrev pub after_put : Controlling → Request → List ℕ → Result (Unit {0}) DeepRefused → Option Handling
after_put c r path (Ok u) = Some (replies c r (status.UploadSuccess path))
after_put c r path (Err deep.Absent) = Some (fails c r cause.StoreFault)
after_put c r path (Err (deep.OtherBytes kept offered)) = Some (fails c r (cause.BadUpload (claimed r kept) None))
after_put c r path (Err deep.Failed) = Some (fails c r cause.StoreFault)
after_put c r path (Err deep.Memory) = None

-- ---- a machine reacts

-- what a request other than an upload asks of the segment's machine
abbrev pub ask_in : Offset → RequestKind → Option Ask
ask_in x (kind.Consumed reason) = Some (ask.Consumed x reason)
ask_in x kind.Stopped = Some ask.Stopped
ask_in x kind.CommitStart = Some (ask.CommitStart x)
ask_in x (kind.Upload path bytes) = None
ask_in x (kind.CommitEnd path) = Some (ask.CommitEnd x)
ask_in x (kind.Extend millis) = Some (ask.Extend millis)

abbrev pub status_of : Said → ReplyStatus
status_of said.Hold = status.Hold
status_of (said.CatchUp x) = status.CatchUp x
status_of (said.Commit x) = status.Commit x
status_of said.CommitContinue = status.CommitContinue
status_of said.Processed = status.Processed
status_of (said.Failed because) = status.Failed because

-- the write that the machine read
abbrev pub read_write : Request → SeenMeta → Seen
read_write r seen =
    record { key = key.Meta r.partition r.sequence; version = seen.version; node = node.Meta seen.meta }

-- the file that a CommitEnd names, beside the write that the machine read
abbrev pub named_in : Request → SeenMeta → RequestKind → Option NamedFile
named_in r seen (kind.Consumed reason) = None
named_in r seen kind.Stopped = None
named_in r seen kind.CommitStart = None
named_in r seen (kind.Upload path bytes) = None
named_in r seen (kind.CommitEnd path) = Some (record { read = read_write r seen; path = path })
named_in r seen (kind.Extend millis) = None

abbrev pub named_file : Request → SeenMeta → Option NamedFile
named_file r seen = named_in r seen r.kind

-- a commit job starts with the file; no machine starts one at a request that names none
abbrev pub commit_stage : Offset → Option NamedFile → Result JobStage ReplyStatus
commit_stage end (Some file) = Ok (stage.Check file.read end file.path)
commit_stage end None = Err status.Hold

-- what a reaction leads to: a job from this stage on, or an answer
abbrev pub leads_to : Option NamedFile → Reaction → Result JobStage ReplyStatus
leads_to file (reaction.Answer what) = Err (status_of what)
leads_to file (reaction.StartCommit end) = commit_stage end file
leads_to file reaction.StartOffline = Ok (stage.IdealRead of_work.Offline [])

abbrev pub follows_by : Controlling → Request → Result JobStage ReplyStatus → Handling
follows_by c r (Ok s) = starts c r s
follows_by c r (Err s) = replies c r s

-- the segment's machine answers, or starts a job
abbrev pub follows : Controlling → Request → SeenMeta → Reaction → Handling
follows c r seen x = follows_by c r (leads_to (named_file r seen) x)
