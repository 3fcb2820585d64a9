use Rattle.rt_live_end.proofs.Meeting.{met_in_order, met_itself, met_more, shown_more, told_more}
use Rattle.rt_live_end.proofs.joining.what_was_met_is_known.Goals as goal

pub returns : goal.returns
returns c = record { itself = met_itself; meets = met_more; told = told_more; shown = shown_more; in_order = met_in_order }
