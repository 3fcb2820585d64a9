-- What a report tells of nodes: their lives, what a server reads, repairs and retirements.
use Rattle.std.specs.Prelude.{ℕ, List, [], ◌++◌, Option, None, Some, codes, decimal}
use Rattle.rt_base.specs.declared.numbers.Partition.{Partition}
use Rattle.rt_base.specs.declared.numbers.Sequence.{Sequence}
use Rattle.rt_events.specs.declared.event.Event.{Event}
use Rattle.rt_repair.specs.declared.repair_step.RepairStep.{RepairStep}
use Rattle.rt_repair.specs.declared.repair_step.RepairStep.TheVariants as repair
use Rattle.rt_repair.specs.declared.retiring.RetireStep.{RetireStep}
use Rattle.rt_repair.specs.declared.retiring.RetireStep.TheVariants as retire
use Rattle.rt_report.specs.Heads.{told_of, worded_text}
use Rattle.rt_report.specs.MessageTexts.{changed_text}
use Rattle.rt_report.specs.Subject.{partition_of}
use Rattle.rt_report.specs.Words.{command_text}

-- nothing beyond the event's own line
abbrev pub bare_text : Event → List ℕ
bare_text event = told_of event (codes "\n")

abbrev pub incarnation_text : Option ℕ → List ℕ
incarnation_text None = []
incarnation_text (Some incarnation) = codes " " ++ decimal incarnation

abbrev pub up_text : Event → Option ℕ → List ℕ
up_text event incarnation = told_of event (incarnation_text incarnation ++ codes "\n")

abbrev pub saw_text : Event → ℕ → List ℕ
saw_text event version = told_of event (codes " " ++ (decimal version ++ codes "\n"))

abbrev pub failed_text : Event → List ℕ
failed_text event = codes "failed " ++ worded_text (command_text event) event (codes "\n")

-- a word, and a segment
abbrev pub segment_text : List ℕ → Partition → Sequence → List ℕ
segment_text word partition sequence = word ++ (codes " " ++ (decimal partition.0 ++ (codes "/" ++ decimal sequence.0)))

abbrev pub repair_text : Partition → RepairStep → List ℕ
repair_text partition repair.Listed = codes "listed"
repair_text partition repair.IdealRead = codes "idealRead"
repair_text partition (repair.Created sequence) = segment_text (codes "created") partition sequence
repair_text partition (repair.Exists sequence) = segment_text (codes "exists") partition sequence
repair_text partition (repair.Abandoned sequence) = segment_text (codes "abandoned") partition sequence
repair_text partition (repair.IdealSet version) = codes "ideal " ++ decimal version
repair_text partition (repair.Changed expected found) = changed_text expected found
repair_text partition (repair.Gone sequence) = segment_text (codes "gone") partition sequence
repair_text partition repair.Nothing = codes "nothing"
repair_text partition repair.Failed = codes "failed"

abbrev pub repaired_text : Event → RepairStep → List ℕ
repaired_text event step = told_of event (codes " " ++ (repair_text (partition_of event) step ++ codes "\n"))

abbrev pub retire_text : Partition → RetireStep → List ℕ
retire_text partition retire.Listed = codes "listed"
retire_text partition retire.IdealRead = codes "idealRead"
retire_text partition (retire.Removed sequence version) = segment_text (codes "removed") partition sequence ++ (codes " " ++ decimal version)
retire_text partition (retire.Deleted sequence) = segment_text (codes "deleted") partition sequence
retire_text partition (retire.Changed expected found) = changed_text expected found
retire_text partition (retire.Gone sequence) = segment_text (codes "gone") partition sequence
retire_text partition retire.Nothing = codes "nothing"
retire_text partition retire.Failed = codes "failed"

abbrev pub retired_text : Event → RetireStep → List ℕ
retired_text event step = told_of event (codes " " ++ (retire_text (partition_of event) step ++ codes "\n"))
