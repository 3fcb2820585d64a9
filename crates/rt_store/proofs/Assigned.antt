-- The starting contents of a cluster within the limits.
use Rattle.std.proofs.Common.{arith}
use Rattle.rt_model.specs.declared.setup.Setup.{Setup}
use Rattle.rt_model.specs.Setup.{IsSetup}
use Rattle.rt_model.specs.Starting.{IsAssigned}
use Rattle.rt_assign.proofs.Ring.{setup_placed, setup_distinct}
use Rattle.rt_store.specs.Contents.{starting_of}

pub setup_assigned : (setup : Setup) → IsSetup setup → IsAssigned (starting_of setup)
setup_assigned setup k =
    record {
      some = λ p lt. omega (arith, (setup_placed setup p k).count, k.some_replicas);
      distinct = λ p lt. setup_distinct setup p k;
    }
