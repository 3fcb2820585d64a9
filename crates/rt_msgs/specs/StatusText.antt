-- The texts of answers.
use Rattle.std.specs.Prelude.{ℕ, List, ◌++◌, codes}
use Rattle.std.specs.Fmt.{decimal}
use Rattle.rt_model.specs.declared.machine_state.MachineState.{MachineState}
use Rattle.rt_model.specs.declared.machine_state.MachineState.TheVariants.{PartialConsuming, Holding, CommitterDecided, CommitterNotified, CommitterUploading, Committing, Committed, Aborted}
use Rattle.rt_model.specs.declared.reply.FailCause.{FailCause}
use Rattle.rt_model.specs.declared.reply.FailCause.TheVariants.{WrongState, WrongOffset, NotCommitter, NoSegment, VersionChanged, StoreFault, BadUpload, IdealChanged, NotReplica}
use Rattle.rt_model.specs.declared.reply.ReplyStatus.{ReplyStatus}
use Rattle.rt_model.specs.declared.reply.ReplyStatus.TheVariants.{Hold, CatchUp, Keep, Discard, Commit, NotLeader, CommitContinue, UploadSuccess, CommitSuccess, Processed, Failed}

abbrev pub state_text : MachineState → List ℕ
state_text PartialConsuming = codes "PARTIAL_CONSUMING"
state_text Holding = codes "HOLDING"
state_text CommitterDecided = codes "COMMITTER_DECIDED"
state_text CommitterNotified = codes "COMMITTER_NOTIFIED"
state_text CommitterUploading = codes "COMMITTER_UPLOADING"
state_text Committing = codes "COMMITTING"
state_text Committed = codes "COMMITTED"
state_text Aborted = codes "ABORTED"

abbrev pub offsets_text : ℕ → ℕ → List ℕ
offsets_text asked kept = codes "FAILED 2 asked=" ++ (decimal asked ++ (codes " kept=" ++ decimal kept))

abbrev pub versions_text : ℕ → ℕ → List ℕ
versions_text expected found = codes "FAILED 5 expected=" ++ (decimal expected ++ (codes " found=" ++ decimal found))

-- a failure: the number of its cause, and what the first, the second, the third and the fifth cause tell
abbrev pub fail_text : FailCause → List ℕ
fail_text (WrongState state) = codes "FAILED 1 " ++ state_text state
fail_text (WrongOffset asked kept) = offsets_text asked.0 kept.0
fail_text (NotCommitter committer) = codes "FAILED 3 committer=s" ++ decimal committer.0
fail_text NoSegment = codes "FAILED 4"
fail_text (VersionChanged expected found) = versions_text expected found
fail_text StoreFault = codes "FAILED 6"
fail_text (BadUpload wanted found) = codes "FAILED 7"
fail_text (IdealChanged versions) = codes "FAILED 8"
fail_text NotReplica = codes "FAILED 9"

abbrev pub status_text : ReplyStatus → List ℕ
status_text Hold = codes "HOLD"
status_text (CatchUp x) = codes "CATCH_UP " ++ decimal x.0
status_text (Keep seen) = codes "KEEP"
status_text Discard = codes "DISCARD"
status_text (Commit x) = codes "COMMIT " ++ decimal x.0
status_text NotLeader = codes "NOT_LEADER"
status_text CommitContinue = codes "COMMIT_CONTINUE"
status_text (UploadSuccess path) = codes "UPLOAD_SUCCESS"
status_text (CommitSuccess seen) = codes "COMMIT_SUCCESS"
status_text Processed = codes "PROCESSED"
status_text (Failed cause) = fail_text cause
