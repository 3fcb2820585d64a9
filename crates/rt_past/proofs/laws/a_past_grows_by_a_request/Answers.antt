use Rattle.rt_past.proofs.Ways.{past_requests}
use Rattle.rt_past.proofs.laws.a_past_grows_by_a_request.Goals as goal

pub returns : goal.returns
returns c = past_requests
