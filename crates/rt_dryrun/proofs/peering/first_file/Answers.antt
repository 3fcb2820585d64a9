use Rattle.std.proofs.Common.{◌∙◌}
use Rattle.rt_peer.specs.declared.peer_refused.PeerRefused.TheVariants.{Nowhere, Faulted}
use Rattle.rt_dryrun.proofs.Fetched.{found_is, none_is}
use Rattle.rt_dryrun.proofs.peering.first_file.Goals as goal

pub returns-in-Ok : goal.returns-in-Ok
returns-in-Ok c =
    found_is c.args.world.now.state c.args.partition c.args.sequence c.args.meta.now c.args.others.now c.make-deep.result c.fetch.new.deep
    c.as_mut_slice.result.now c.fetch.new.peers c.make-deep.ensures (c.as_mut_slice.ensures.value ∙ c.in_ok-peers.ensures) c.requires.done
    c.in-Ok.got c.got_from.result c.got_from.ensures c.in-Ok.ensures.fetches

pub returns-in-Err-Nowhere : goal.returns-in-Err-Nowhere
returns-in-Err-Nowhere c =
    none_is c.args.world.now.state c.args.partition c.args.sequence c.args.meta.now c.args.others.now c.make-deep.result c.fetch.new.deep
    c.as_mut_slice.result.now c.fetch.new.peers c.make-deep.ensures (c.as_mut_slice.ensures.value ∙ c.in_ok-peers.ensures) c.requires.done
    c.in-Err-Nowhere.field-0 Nowhere c.in-Err-Nowhere.field-0-is (λ e. cc) c.in-Err-Nowhere.ensures.fetches

pub returns-in-Err-Faulted : goal.returns-in-Err-Faulted
returns-in-Err-Faulted c =
    none_is c.args.world.now.state c.args.partition c.args.sequence c.args.meta.now c.args.others.now c.make-deep.result c.fetch.new.deep
    c.as_mut_slice.result.now c.fetch.new.peers c.make-deep.ensures (c.as_mut_slice.ensures.value ∙ c.in_ok-peers.ensures) c.requires.done
    c.in-Err-Faulted.field-0 Faulted c.in-Err-Faulted.field-0-is (λ e. cc) c.in-Err-Faulted.ensures.fetches
