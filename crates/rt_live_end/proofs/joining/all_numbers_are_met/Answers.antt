use Rattle.rt_live_end.proofs.Meeting.{first_alone, first_more, first_shown, first_told}
use Rattle.rt_live_end.proofs.joining.all_numbers_are_met.Goals as goal

pub returns : goal.returns
returns c = record { first = first_alone; meets = first_more; told = first_told; shown = first_shown }
