use Rattle.std.proofs.Common.{ap, sym}
use Rattle.rt_live_join.specs.Left.{fronts_by}
use Rattle.rt_live_join.proofs.others.ended_repairer.Goals as goal

pub returns : goal.returns
returns g c =
    let ended = c.into_ended.result in
    record {
      acts = record { repair = ended.repair; fronts = fronts_by ended.caller; did = ended.diary };
      has = ap fronts_by (sym c.caller_of.ensures);
      mends = c.into_ended.ensures;
    }
