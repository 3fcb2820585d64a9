use Rattle.std.proofs.Common.{map}
use Rattle.rt_peer.proofs.RightPeers.{file_named_by}
use Rattle.rt_peer.proofs.fetching.fetch_file.Goals as goal

pub returns-clause-named : goal.returns-clause-named
returns-clause-named g c =
    file_named_by c.args.wanted c.args.path.now (g.D.DeepStore.meaning c.args.deep.now) (g.D.DeepStore.meaning c.ask_all.new.deep)
    (map g.P.Peer.meaning c.args.peers.now) (map g.P.Peer.meaning c.ask_all.new.peers) c.ask_all.result c.ask_all.ensures
