-- What a caller that was told what there is knows of the ground.
use Rattle.std.proofs.Common.{◌≡◌, ℕ, sym, subst}
use Rattle.rt_ground.specs.Histories.{AreOfCallers}
use Rattle.rt_ground.specs.Lawfulness.{IsLawfulStore}
use Rattle.rt_live_end.specs.Ended.{IsGround}
use Rattle.rt_live_names.specs.Fronts.{Fronts, callers_of}
use Rattle.rt_live_names.specs.Names.{Names}
use Rattle.rt_model.specs.Starting.{Starting}
use Rattle.rt_store.specs.Contents.{starting_of}
use Rattle.rt_live_join.specs.Meeting.{KnowsGround}

pub told_ground : (n : Names) (s : Starting) (callers : ℕ) (new : Fronts) → starting_of n.setup ≡ s
    → callers ≡ callers_of n.setup → KnowsGround s callers new → IsGround n new
told_ground n s callers new starts many knows = record {
  store = (
    subst (λ m. AreOfCallers m new.store.seen) many knows.store.0,
    subst (λ t. IsLawfulStore t new.store.seen) (sym starts) knows.store.1,
  );
  deep = (subst (λ m. AreOfCallers m new.deep.seen) many knows.deep.0, knows.deep.1);
  stream = subst (λ m. AreOfCallers m new.stream.seen) many knows.stream;
}
