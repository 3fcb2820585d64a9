use Rattle.rt_broker.specs.IsAskedBy.{IsGiven}
use Rattle.rt_broker.proofs.Lasting.{asked_noted, asked_routed}
use Rattle.rt_broker.proofs.own_laws.a_broker_notes_what_was_given.Goals as goal

pub returns : goal.returns
returns c =
    record {
      routes = λ setup past given number asked. asked_routed setup past (λ text. IsGiven given number asked);
      notes = λ setup past given number asked. asked_noted setup past (λ text. IsGiven given number asked);
    }
