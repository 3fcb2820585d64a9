use Rattle.rt_front.proofs.Moves.{begins}
use Rattle.rt_front.proofs.blank.Blank.new.Goals as goal

pub of_words-requires : goal.of_words-requires
of_words-requires g c = begins
