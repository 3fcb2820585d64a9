-- What comes of what the nodes left, once it is put together.
use Rattle.std.specs.Prelude.{◌≡◌, ℕ, Bool, List, [], ◌∷◌, ◌++◌, map}
use Rattle.rt_ground.specs.declared.caller.Caller.{Caller}
use Rattle.rt_model.specs.Starting.{Starting}
use Rattle.rt_model.specs.declared.answer.Answer.{Answer}
use Rattle.rt_live_join.specs.Feeding.{WereGiven}
use Rattle.rt_live_join.specs.Left.{fronts_by}
use Rattle.rt_live_join.specs.Meeting.{KnowsGround, MeetsAndIsTold}
use Rattle.rt_live_join.specs.declared.joined.Joined.{Joined}
use Rattle.rt_live_join.specs.Showing.{Shows}
use Rattle.rt_live_join.specs.declared.others.Others.{Others}
use Rattle.rt_live_join.specs.declared.posting.Posting.{Posting}
use Rattle.rt_live_join.specs.declared.showing.Shown.{Shown}

-- all callers but the producer's, in the order of their numbers
abbrev pub others_of : {R J : Type 0}
    → List (Caller R J) → List (Caller R J) → Caller R J → Caller R J → List (Caller R J)
others_of servers controllers repairer broker = (servers ++ controllers) ++ repairer ∷ broker ∷ []

abbrev pub joined_as : {R J : Type 0} → Caller R J → Shown → List Answer → List Answer → Joined R J
joined_as caller shown mids answers = record {
  caller = caller;
  heard = shown.heard;
  to_controllers = shown.to_controllers;
  to_servers = shown.to_servers;
  mids = mids;
  answers = answers;
}

abbrev pub others_in : {R J : Type 0} → Posting R J → Others R J → List (Caller R J)
others_in posting others =
    others_of posting.servers.callers.items posting.controllers.callers.items others.repairer others.broker.caller

-- the broker's fronts were told, all callers were met, and this can be shown
pub record IsPutTogether {R J : Type 0} (s : Starting) (callers : ℕ) (journal : Bool) (posting : Posting R J)
    (others : Others R J) (joined : Joined R J) : Type 0 where
  pub given : WereGiven posting.servers.own.items others.broker.feeds.items
  pub met :
      MeetsAndIsTold (fronts_by others.producer) (map fronts_by (others_in posting others)) (fronts_by joined.caller)
  pub ground : KnowsGround s callers (fronts_by joined.caller)
  pub shown : Shown
  pub shows :
      Shows journal posting.servers.links.items posting.controllers.links.items posting.controllers.own.items shown
  pub is : joined ≡ joined_as joined.caller shown others.broker.mids others.broker.answers
