use Rattle.rt_controller.proofs.OverRequests.{request_answered, request_kept, request_past}
use Rattle.rt_controller.proofs.lasting.a_request_keeps_the_past_right.Goals as goal

pub returns : goal.returns
returns c = record { past = request_past; controller = request_kept; reply = request_answered }
