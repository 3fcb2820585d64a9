use Rattle.std.proofs.Common.{ap}
use Rattle.rt_ground.specs.declared.caller.Caller.{Caller}
use Rattle.rt_live_names.specs.Fronts.{fronts}
use Rattle.rt_model.specs.declared.setup.Setup.{Setup}
use Rattle.rt_live_server.proofs.Begins.{began_with}
use Rattle.rt_live_server.proofs.acting.Acting.make.Goals as goal

pub invariant_of-result : goal.invariant_of-result
invariant_of-result g c =
    let r = c.requires in (
      ap (λ (x : Setup). x.partitions) r.same,
      began_with g.K.Cluster.names c.args.number g.J.Naming.names c.args.setup.now g.J.Naming.starting c.in_ok-server.server _ _ r.same r.setup r.starting r.number c.in_ok-server.ensures
          (ap (λ (x : Caller _ _). fronts x.store x.deep x.stream) r.caller) c.in_ok-diary.ensures,
    )
