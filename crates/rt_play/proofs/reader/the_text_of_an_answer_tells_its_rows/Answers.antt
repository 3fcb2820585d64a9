use Rattle.rt_play.proofs.AnswerTexts.{text_tells_rows}
use Rattle.rt_play.proofs.reader.the_text_of_an_answer_tells_its_rows.Goals as goal

pub returns : goal.returns
returns c = text_tells_rows
