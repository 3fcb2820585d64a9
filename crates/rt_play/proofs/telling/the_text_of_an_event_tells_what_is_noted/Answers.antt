use Rattle.rt_play.proofs.TellingAlike.{alike}
use Rattle.rt_play.proofs.telling.the_text_of_an_event_tells_what_is_noted.Goals as goal

pub returns : goal.returns
returns c = alike
