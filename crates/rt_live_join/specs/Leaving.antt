-- What all nodes of a cluster have left.
use Rattle.std.specs.Prelude.{◌≡◌}
use Rattle.rt_live_broker.specs.Acting.{IsEndedBroker}
use Rattle.rt_live_controller.specs.Repairing.{IsMending, RepairerActs}
use Rattle.rt_live_names.specs.Fronts.{Fronts}
use Rattle.rt_live_names.specs.Names.{Names}
use Rattle.rt_live_names.specs.OtherParts.{IsProducerPart}
use Rattle.rt_model.specs.Starting.{Starting}
use Rattle.rt_live_join.specs.Left.{fronts_by}
use Rattle.rt_live_join.specs.Parted.{AreControllersLeft, AreServersLeft}
use Rattle.rt_live_join.specs.declared.others.Others.{Others}
use Rattle.rt_live_join.specs.declared.posting.Posting.{Posting}

-- a repairer of these fronts: all that it did can still be said of it
pub record IsRepairerLeft (n : Names) (f : Fronts) : Type 0 where
  pub acts : RepairerActs
  pub has : acts.fronts ≡ f
  pub mends : IsMending n acts

-- the nodes that post
pub record IsPostingLeft {R J : Type 0} (n : Names) (s : Starting) (posting : Posting R J) : Type 0 where
  pub servers : AreServersLeft n s posting.servers
  pub controllers : AreControllersLeft n posting.controllers

-- the nodes that post nothing
pub record AreOthersLeft {R J : Type 0} (n : Names) (others : Others R J) : Type 0 where
  pub producer : IsProducerPart n (fronts_by others.producer)
  pub repairer : IsRepairerLeft n (fronts_by others.repairer)
  pub broker :
      IsEndedBroker n (fronts_by others.broker.caller) others.broker.feeds.items others.broker.mids
      others.broker.answers
