use Rattle.rt_play.proofs.OneReading.{one_answer}
use Rattle.rt_play.proofs.reader.the_text_of_an_answer_has_one_reading.Goals as goal

pub returns : goal.returns
returns c = one_answer
