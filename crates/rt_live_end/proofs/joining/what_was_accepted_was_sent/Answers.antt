use Rattle.rt_live_end.proofs.Linking.{reply_sent, request_sent}
use Rattle.rt_live_end.proofs.joining.what_was_accepted_was_sent.Goals as goal

pub returns : goal.returns
returns c = record { requests = request_sent; replies = reply_sent }
