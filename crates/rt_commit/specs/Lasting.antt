-- What lasts of a job, with respect to what has grown so far: the store's history, the files and the messages. Each part stays
-- true as these grow.
use Rattle.std.specs.Prelude.{◌≡◌, ℕ, ◌<◌, ◌≤◌, List, map, All, Option, Some, None}
use Rattle.std.specs.List.{AllPairs}
use Rattle.rt_base.specs.declared.numbers.Offset.{Offset}
use Rattle.rt_lists.specs.Members.{Has}
use Rattle.rt_model.specs.declared.asked.Asked.{Asked}
use Rattle.rt_model.specs.declared.node.Seen.{Seen}
use Rattle.rt_model.specs.declared.request.Request.{Request}
use Rattle.rt_model.specs.declared.request.RequestKind.TheVariants as kind
use Rattle.rt_model.specs.declared.sent.Sent.TheVariants as sent
use Rattle.rt_model.specs.declared.setup.Setup.{Setup}
use Rattle.rt_model.specs.Entries.{IsIdealWrite}
use Rattle.rt_model.specs.Messages.{asked_of}
use Rattle.rt_store.specs.Contents.{starting_of}
use Rattle.rt_past.specs.Past.{Past}
use Rattle.rt_past.specs.Files.{IsStored}
use Rattle.rt_znodes.specs.Znodes.{end_in, meta_in}
use Rattle.rt_commit.specs.declared.job.Job.{Job}
use Rattle.rt_commit.specs.declared.job.JobStage.TheVariants as stage
use Rattle.rt_commit.specs.declared.job.JobStage.{JobStage}
use Rattle.rt_commit.specs.declared.work.Work.TheVariants as work
use Rattle.rt_commit.specs.declared.work.Work.{Work}
use Rattle.rt_commit.specs.IsJob.{IsJob}
use Rattle.rt_commit.specs.Laws.{IsTrying}

-- ---- the versions that the sets of a job found

-- the ideal state had this version
abbrev pub WasIdeal : List Seen → ℕ → Type 0
WasIdeal h version = (w : Seen) × IsIdealWrite h w × (w.version ≡ version)

-- a set that found another version in place of the one that the job had just read
pub record Try : Type 0 where
  pub expected : ℕ
  pub found : ℕ

pub record IsTry (h : List Seen) (t : Try) : Type 0 where
  pub expected : WasIdeal h t.expected
  pub found : WasIdeal h t.found
  pub later : t.expected < t.found

-- what a job read after a set that failed is no older than what that set found
abbrev pub AreInOrder : List Try → Type 0
AreInOrder tries = AllPairs (λ t u. t.found ≤ u.expected) tries

-- each of these versions was found in place of another one, which had just been read
pub record AreTries (h : List Seen) (versions : List ℕ) : Type 0 where
  pub tries : List Try
  pub found : map (λ t. t.found) tries ≡ versions
  pub each : All (IsTry h) tries
  pub ordered : AreInOrder tries

-- ---- a job

-- the request that is answered was sent
pub record WasSent (past : Past) (a : Asked) : Type 0 where
  pub request : Request
  pub was_sent : Has past.sent (sent.Request request)
  pub answers : asked_of request ≡ a

-- it was a CommitEnd, up to this offset, which names this path
pub record WasNamed (past : Past) (a : Asked) (end : Offset) (path : List ℕ) : Type 0 where
  pub request : Request
  pub was_sent : Has past.sent (sent.Request request)
  pub answers : asked_of request ≡ a
  pub offset : request.offset ≡ end
  pub names : request.kind ≡ kind.CommitEnd path

-- by its stage: the CommitEnd names the file that is to be checked; one that was checked stands, with the range, the count
-- of rows and the digest that the commit has; and other versions of the ideal state were found where a set failed
abbrev pub IsBacked : Setup → Past → Asked → JobStage → Type 0
IsBacked setup past a (stage.Check from end path) = WasNamed past a end path
IsBacked setup past a (stage.Done from commit) = IsStored setup past a.partition a.sequence (meta_in from.node).start commit
IsBacked setup past a (stage.Next done) = Unit {0}
IsBacked setup past a (stage.IdealRead w found) = AreTries past.history found
IsBacked setup past a (stage.IdealSet w found ideal) =
    AreTries past.history found × All (λ version. version ≤ ideal.version) found
IsBacked setup past a stage.Ended = Unit {0}

-- what it holds was written; its request was sent; and it hasn't ended
pub record IsJobOver (setup : Setup) (past : Past) (j : Job) : Type 0 where
  pub job : IsJob (starting_of setup) past.history j
  pub asked : WasSent past j.asked
  pub backed : IsBacked setup past j.asked j.stage
  pub trying : IsTrying j.stage

-- ---- machines and jobs

-- the offset up to which a job commits its segment, where it does
abbrev pub work_end : Work → Option Offset
work_end (work.Commit done) = Some (end_in done.node)
work_end work.Offline = None

abbrev pub commit_end : JobStage → Option Offset
commit_end (stage.Check from end path) = Some end
commit_end (stage.Done from commit) = Some commit.end
commit_end (stage.Next done) = Some (end_in done.node)
commit_end (stage.IdealRead w found) = work_end w
commit_end (stage.IdealSet w found ideal) = work_end w
commit_end stage.Ended = None
