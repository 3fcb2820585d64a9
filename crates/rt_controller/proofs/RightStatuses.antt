-- What is answered at once by a machine, and by the metadata of a segment without one, is right.
use Rattle.std.proofs.Common.{◌==◌}
use Rattle.std.proofs.lemmas.Bool.{cond_both}
use Rattle.rt_base.specs.declared.numbers.Offset.{Offset}
use Rattle.rt_model.specs.declared.completion.Ask.{Ask}
use Rattle.rt_model.specs.declared.completion.Ask.TheVariants as ask
use Rattle.rt_model.specs.declared.completion.Said.{Said}
use Rattle.rt_model.specs.declared.completion.Said.TheVariants as said
use Rattle.rt_model.specs.declared.reply.ReplyStatus.TheVariants as status
use Rattle.rt_model.specs.declared.request.Request.{Request}
use Rattle.rt_model.specs.declared.seg_meta.SeenMeta.{SeenMeta}
use Rattle.rt_model.specs.Finished.{keeps, committed_row, abandoned_row}
use Rattle.rt_past.specs.Past.{Past}
use Rattle.rt_past.specs.Replies.{IsStatus}
use Rattle.rt_controller.specs.Answers.{status_of}

module _ (past : Past) (r : Request) where
  pub own_said : (what : Said) → IsStatus past r (status_of what)
  own_said said.Hold = tt
  own_said (said.CatchUp x) = tt
  own_said (said.Commit x) = tt
  own_said said.CommitContinue = tt
  own_said said.Processed = tt
  own_said (said.Failed because) = tt

  keeps_right : (seen : SeenMeta) (end x : Offset) → IsStatus past r (status.Keep seen) → IsStatus past r (keeps seen end x)
  keeps_right seen end x was = cond_both (x.0 == end.0) (status.Keep seen) status.Discard (IsStatus past r) (λ e. was) (λ e. tt)

  pub row_right : (seen : SeenMeta) (end : Offset) (what : Ask) → IsStatus past r (status.Keep seen) → IsStatus past r (committed_row seen end what)
  row_right seen end (ask.Consumed x reason) was = keeps_right seen end x was
  row_right seen end (ask.CommitStart x) was = keeps_right seen end x was
  row_right seen end (ask.CommitEnd x) was = keeps_right seen end x was
  row_right seen end ask.Stopped was = tt
  row_right seen end (ask.Extend millis) was = tt

  pub abandoned_right : (what : Ask) → IsStatus past r (abandoned_row what)
  abandoned_right (ask.Consumed x reason) = tt
  abandoned_right (ask.CommitStart x) = tt
  abandoned_right (ask.CommitEnd x) = tt
  abandoned_right ask.Stopped = tt
  abandoned_right (ask.Extend millis) = tt
