use Rattle.rt_past.proofs.Numbers.{next_is_fresh, drawn_next, drawn_other, drawn_reply, drawn_anew}
use Rattle.rt_past.proofs.laws.drawn_numbers_are_fresh.Goals as goal

pub returns : goal.returns
returns c = record { fresh = next_is_fresh; next = drawn_next; other = drawn_other; replies = drawn_reply; anew = drawn_anew }
