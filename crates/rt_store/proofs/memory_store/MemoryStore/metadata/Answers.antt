use Rattle.std.proofs.Common.{◌≡◌, ◌+◌, ◌∙◌, Option, subst}
use Rattle.rt_base.specs.declared.numbers.Sequence.{Sequence}
use Rattle.rt_model.specs.Metadata.{metadata_below}
use Rattle.rt_store.specs.Meaning.{Told}
use Rattle.rt_store.specs.Index.{ArePresent}
use Rattle.rt_store.proofs.Listing.{ListedTo, listed_on, listed_more}
use Rattle.rt_store.proofs.memory_store.MemoryStore.metadata.Goals as goal

pub loop-next-init : goal.loop-next-init
loop-next-init c =
    let present = subst (λ (t : Told). ArePresent t.writes c.self.inside.index.present) c.self.view_is c.self.invariant.1 in
    listed_on c.args.self.now.writes c.self.inside.index.present c.args.partition 0 c.new-nodes.result c.first_node-next.result
    present c.first_node-next.ensures c.new-nodes.ensures

pub loop-next-preserved : goal.loop-next-preserved
loop-next-preserved c =
    let present = subst (λ (t : Told). ArePresent t.writes c.self.inside.index.present) c.self.view_is c.self.invariant.1 in
    let s : Sequence = c.in-Some.sequence in
    let before : c.loop-next.nodes ≡ metadata_below c.args.self.now.writes c.args.partition s.0 =
    subst (λ (o : Option Sequence). ListedTo c.args.self.now.writes c.args.partition c.loop-next.nodes o) c.in-Some.is c.loop-next.invariant in
    let more : c.add_node.new.nodes ≡ metadata_below c.args.self.now.writes c.args.partition (s.0 + 1) =
    c.in_ok-add_node.ensures {u = tt} ∙ listed_more c.args.self.now.writes c.args.partition s.0 c.loop-next.nodes before in
    listed_on c.args.self.now.writes c.self.inside.index.present c.args.partition (s.0 + 1) c.add_node.new.nodes c.node_after-next.result
    present c.node_after-next.ensures more
