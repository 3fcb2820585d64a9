use Rattle.std.proofs.Common.{Err, sym, subst, map, arith}
use Rattle.rt_peer.specs.Fetching.{AsksPeers}
use Rattle.rt_peer.proofs.Leading.{ends_found, ends_memory, leads_last}
use Rattle.rt_peer.proofs.fetching.ask_peers.Goals as goal

pub returns-in-Ok-Some : goal.returns-in-Ok-Some
returns-in-Ok-Some g c =
    ends_found g.P.Peer.meaning c.args.wanted c.args.faulted c.args.peers.now c.loop-peer.failed c.loop-peer.peer-index c.loop-peer.peers
    c.peer-item.result c.ask_peer.new.peer c.loop-peer.number c.in-Ok-Some.field-0 c.in-Ok-Some.sealed c.loop-peer.invariant.asked (omega arith)
    c.in-Ok-Some.ensures c.in-Ok-Some.field-0-is c.loop-peer.invariant.counted

pub returns-in-Err-Memory : goal.returns-in-Err-Memory
returns-in-Err-Memory g c =
    ends_memory g.P.Peer.meaning c.args.wanted c.args.faulted c.args.peers.now c.loop-peer.failed c.loop-peer.peer-index c.loop-peer.peers
    c.peer-item.result c.ask_peer.new.peer c.in-Err-Memory.field-0 c.loop-peer.invariant.asked (omega arith)
    c.in-Err-Memory.ensures c.in-Err-Memory.field-0-is

pub returns : goal.returns
returns g c =
    subst (λ e. AsksPeers c.args.wanted c.args.faulted 0 (map g.P.Peer.meaning c.args.peers.now) (map g.P.Peer.meaning c.loop-peer.peers) (Err e))
    (sym c.unfound.ensures)
    (leads_last g.P.Peer.meaning c.args.wanted c.args.faulted c.args.peers.now c.loop-peer.failed c.loop-peer.peer-index c.loop-peer.peers
    c.loop-peer.invariant.asked (omega arith))
