use Rattle.rt_stream.proofs.Growth.{log_message, log_same, log_then}
use Rattle.rt_stream.proofs.laws.a_log_only_grows.Goals as goal

pub returns : goal.returns
returns c = record { message = log_message; same = log_same; again = log_then }
