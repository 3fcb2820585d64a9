use Rattle.std.proofs.Common.{◌≡◌, length}
use Rattle.rt_live_broker.specs.Feeds.{AreFeeds}
use Rattle.rt_live_names.specs.Fronts.{server_caller}
use Rattle.rt_live_nodes.specs.Founding.{AreFrom, IsAsked, IsCaller, IsServerPlace}
use Rattle.rt_live_nodes.proofs.seating.seat_servers.Given as goal

-- the first servers have their seats and feeds, and what is left is for the others
abbrev pub invariant-loop-number : goal.invariant-loop-number
invariant-loop-number g l = record {
  callers : AreFrom (IsCaller g.J.Naming.names) (server_caller l.number) l.callers;
  links : AreFrom (IsServerPlace g.K.Cluster.names) l.number l.links;
  asked : AreFrom (IsAsked g.K.Cluster.names) l.number l.asked;
  feeds : AreFeeds g.K.Cluster.names l.feeds.items;
  fed : length l.feeds.items ≡ l.number;
}
