-- What is printed of a run.
use Rattle.std.specs.Prelude.{ℕ, List, [], ◌++◌, Option, None, Some}
use Rattle.rt_base.specs.declared.numbers.Offset.{Offset}
use Rattle.rt_live_output.specs.Texts.{journal_text, output_text}
use Rattle.rt_live_output.specs.declared.journal.Journal.{Journal}
use Rattle.rt_model.specs.declared.answer.Answer.{Answer}

abbrev pub shown_text : Option Journal → List ℕ
shown_text None = []
shown_text (Some journal) = journal_text journal

-- the answers and the ends, and then the journal, where one is shown
abbrev pub printed : List Answer → List Offset → Option Journal → List ℕ
printed answers ends journal = output_text answers ends ++ shown_text journal
