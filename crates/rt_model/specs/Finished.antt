-- How requests about a segment that is finished are answered: its metadata alone decides, and there is no machine.
use Rattle.std.specs.Prelude.{◌==◌, if◌then◌else◌}
use Rattle.rt_base.specs.declared.numbers.Offset.{Offset}
use Rattle.rt_model.specs.declared.seg_meta.SeenMeta.{SeenMeta}
use Rattle.rt_model.specs.declared.machine_state.MachineState.TheVariants.{Committed, Aborted}
use Rattle.rt_model.specs.declared.completion.Ask.{Ask}
use Rattle.rt_model.specs.declared.completion.Ask.TheVariants.{Consumed, CommitStart, CommitEnd, Stopped, Extend}
use Rattle.rt_model.specs.declared.reply.FailCause.TheVariants.{WrongState}
use Rattle.rt_model.specs.declared.reply.ReplyStatus.{ReplyStatus}
use Rattle.rt_model.specs.declared.reply.ReplyStatus.TheVariants.{Keep, Discard, Processed, Failed}

-- a replica that stands exactly at the committed end keeps its rows, and any other discards them
abbrev pub keeps : SeenMeta → Offset → Offset → ReplyStatus
keeps seen end x = if x.0 == end.0 then Keep seen else Discard

-- the segment was committed up to `end`
abbrev pub committed_row : SeenMeta → Offset → Ask → ReplyStatus
committed_row seen end (Consumed x reason) = keeps seen end x
committed_row seen end (CommitStart x) = keeps seen end x
committed_row seen end (CommitEnd x) = keeps seen end x
committed_row seen end Stopped = Processed
committed_row seen end (Extend millis) = Failed (WrongState Committed)

-- the segment was abandoned
abbrev pub abandoned_row : Ask → ReplyStatus
abandoned_row (Consumed x reason) = Discard
abandoned_row (CommitStart x) = Discard
abandoned_row (CommitEnd x) = Discard
abandoned_row Stopped = Processed
abandoned_row (Extend millis) = Failed (WrongState Aborted)
