use Rattle.rt_broker.proofs.Lasting.{asked_begins, asked_grows}
use Rattle.rt_broker.proofs.laws.what_was_asked_lasts.Goals as goal

pub returns : goal.returns
returns c = record { begins = asked_begins; grows = asked_grows }
