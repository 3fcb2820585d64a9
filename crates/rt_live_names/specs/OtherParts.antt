-- What the repairer and the producer of a running cluster can say by themselves.
use Rattle.std.specs.Prelude.{◌≡◌, []}
use Rattle.rt_live_names.specs.Fronts.{Fronts, AreOfCaller, own_files, own_messages, own_writes, producer_caller, repairer_caller}
use Rattle.rt_live_names.specs.Names.{Names}
use Rattle.rt_live_names.specs.Quiet.{AreUndone}

-- it commits nothing, puts nothing and appends nothing
pub record IsRepairerPart (n : Names) (f : Fronts) : Type 0 where
  pub caller : AreOfCaller (repairer_caller n.setup) f
  pub undone : AreUndone (own_writes f)
  pub puts : own_files f ≡ []
  pub appends : own_messages f ≡ []

-- all rows were appended, in their order, and it wrote nothing else
pub record IsProducerPart (n : Names) (f : Fronts) : Type 0 where
  pub caller : AreOfCaller producer_caller f
  pub appends : own_messages f ≡ n.rows
  pub writes : own_writes f ≡ []
  pub puts : own_files f ≡ []
