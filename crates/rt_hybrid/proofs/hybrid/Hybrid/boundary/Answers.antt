use Rattle.std.proofs.Common.{◌∙◌, refl, sym, ap}
use Rattle.rt_hybrid.specs.Table.{OfflineTable}
use Rattle.rt_hybrid.proofs.Offline.{nothing_pushed}
use Rattle.rt_hybrid.proofs.hybrid.Hybrid.boundary.Goals as goal

pub returns-in-None-clause-none : goal.returns-in-None-clause-none
returns-in-None-clause-none c =
    (λ _. sym (ap (λ (t : OfflineTable). t.files) c.self.view_is) ∙ nothing_pushed _ _ c.self.invariant c.in-None.is, λ _. refl)
