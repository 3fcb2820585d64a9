-- Outcomes whose numbers, as far as the reader's ledger takes them, fit words of 64 bits.
use Rattle.std.specs.Prelude.{Some}
use Rattle.rt_events.specs.declared.event.Event.{Event}
use Rattle.rt_events.specs.declared.event.Event.TheVariants as event
use Rattle.rt_events.specs.declared.outcome.Outcome.{Outcome}
use Rattle.rt_events.specs.declared.outcome.Outcome.TheVariants.{Retired, Sent, Shown, Started, Took}
use Rattle.rt_model.specs.declared.node.Node.{Node}
use Rattle.rt_model.specs.declared.node.Node.TheVariants as node
use Rattle.rt_model.specs.declared.seg_meta.SegMeta.{SegMeta}
use Rattle.rt_model.specs.declared.status.Status.{Status}
use Rattle.rt_model.specs.declared.status.Status.TheVariants.{Done}
use Rattle.rt_play.specs.AnswerTexts.{IsWord}
use Rattle.rt_repair.specs.declared.retiring.RetireStep.TheVariants.{Deleted}

-- where it is DONE, its range fits
abbrev pub IsDoneWord : SegMeta → Status → Type 0
IsDoneWord meta (Done commit) = IsWord meta.start.0 × IsWord commit.end.0
IsDoneWord meta other = Unit {0}

abbrev pub IsNodeWord : Node → Type 0
IsNodeWord (node.Meta meta) = IsDoneWord meta meta.status
IsNodeWord other = Unit {0}

-- of other events, and of other outcomes, no number is taken
abbrev pub FitsWords : Event → Outcome → Type 0
FitsWords (event.Report instance partition sequence) (Sent message request) = IsWord message × IsWord request.offset.0
FitsWords (event.Deliver message controller) (Started job) = IsWord job
FitsWords (event.Reply message) (Took instance partition sequence stands) = IsWord partition.0 × IsWord sequence.0
FitsWords (event.Retain controller partition) (Retired (Deleted sequence)) = IsWord sequence.0
FitsWords (event.ShowMeta partition sequence) (Shown (Some seen)) = IsNodeWord seen.node
FitsWords event outcome = Unit {0}
