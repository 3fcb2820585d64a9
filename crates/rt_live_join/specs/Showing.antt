-- What can be shown of nodes that post, once their queues are gathered.
use Rattle.std.specs.Prelude.{◌≡◌, Bool, List, Option}
use Rattle.rt_link.specs.Ends.{Taking}
use Rattle.rt_live_links.specs.Counted.{queues}
use Rattle.rt_live_links.specs.Gathered.{AreGathered}
use Rattle.rt_live_links.specs.declared.node_links.NodeLinks.{NodeLinks}
use Rattle.rt_live_output.specs.declared.journal.Heard.{Heard}
use Rattle.rt_live_join.specs.Left.{IsShown}
use Rattle.rt_live_join.specs.declared.showing.Shown.{Shown}

pub record Shows (journal : Bool) (servers controllers : List NodeLinks) (kept : List (Option (List Heard)))
    (shown : Shown) : Type 0 where
  -- the inboxes, with the posts to each
  pub of_servers : List Taking
  pub of_controllers : List Taking
  pub back : AreGathered controllers servers of_servers
  pub there : AreGathered servers controllers of_controllers
  pub to_controllers : shown.to_controllers ≡ queues servers controllers
  pub to_servers : shown.to_servers ≡ queues controllers servers
  pub heard : IsShown journal kept shown.heard
