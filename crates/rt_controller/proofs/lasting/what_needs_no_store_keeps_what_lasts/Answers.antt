use Rattle.rt_controller.proofs.Lasts.{begins_over, believes_over, crashes_over}
use Rattle.rt_controller.proofs.lasting.what_needs_no_store_keeps_what_lasts.Goals as goal

pub returns : goal.returns
returns c = record { begins = begins_over; believes = believes_over; crashes = crashes_over }
