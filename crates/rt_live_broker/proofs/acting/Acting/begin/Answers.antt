use Rattle.std.proofs.Common.{◌≡◌, Some, None, ap, length, refl, rules, ◌∙◌}
use Rattle.rt_broker.specs.Asking.{Asking, asking}
use Rattle.rt_front.specs.Histories.{Known}
use Rattle.rt_model.specs.declared.node.Seen.{Seen}
use Rattle.rt_model.specs.declared.query.Query.{Query}
use Rattle.rt_live_broker.specs.Asks.{Opened, opened}
use Rattle.rt_live_broker.proofs.Acts.{begins}
use Rattle.rt_live_broker.proofs.acting.Acting.begin.Goals as goal

pub invariant_of-self : goal.invariant_of-self
invariant_of-self g c =
    let closed : c.self.inside.current ≡ None = search rules in
    let text = c.in_ok-asked.ensures.value ∙ ap (λ (q : Query). asking q c.self.inside.asks.setup) c.in_ok-copied.ensures in
    let begun = c.of.ensures ∙ ap (λ (a : Asking). opened c.args.at c.self.inside.askings a) text in
    begins _ _ _ c.args.at c.self.inside.askings c.told-told.result c.in-Some.query.now c.start.new.slot _ c.note.new.diary c.self.invariant
    closed (c.if-not-is_next.ensures refl) c.in-Some.ensures.some refl (c.told-told.ensures ∙ ap (λ (k : Known Seen). length k.seen) c.front.ensures)
    (c.start.ensures ∙ ap (λ (o : Opened). Some o) begun) refl c.note.ensures
