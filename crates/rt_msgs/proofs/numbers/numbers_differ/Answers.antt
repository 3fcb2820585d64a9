use Rattle.rt_msgs.proofs.Differing.{drawn_apart, drawn_differ}
use Rattle.rt_msgs.proofs.numbers.numbers_differ.Goals as goal

pub returns : goal.returns
returns c = record { apart = drawn_apart; drawn = drawn_differ }
