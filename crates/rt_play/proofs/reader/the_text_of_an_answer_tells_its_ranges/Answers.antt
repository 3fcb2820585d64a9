use Rattle.rt_play.proofs.AnswerTexts.{text_tells}
use Rattle.rt_play.proofs.reader.the_text_of_an_answer_tells_its_ranges.Goals as goal

pub returns : goal.returns
returns c = text_tells
