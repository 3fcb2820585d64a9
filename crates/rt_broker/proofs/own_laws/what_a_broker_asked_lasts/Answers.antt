use Rattle.rt_broker.specs.IsAskedBy.{IsGiven}
use Rattle.rt_broker.proofs.Given.{asked_lasts}
use Rattle.rt_broker.proofs.Lasting.{asking_begins}
use Rattle.rt_broker.proofs.own_laws.what_a_broker_asked_lasts.Goals as goal

pub returns : goal.returns
returns c =
    record { begins = λ setup past given number asked. asking_begins setup past (IsGiven given number asked); grows = asked_lasts }
