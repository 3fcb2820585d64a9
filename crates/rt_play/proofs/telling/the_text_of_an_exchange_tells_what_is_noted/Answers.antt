use Rattle.rt_play.proofs.TellingEvents.{exchanges_alike}
use Rattle.rt_play.proofs.telling.the_text_of_an_exchange_tells_what_is_noted.Goals as goal

pub returns : goal.returns
returns c = exchanges_alike
