use Rattle.std.proofs.Common.{◌≡◌, ◌∙◌, List, ◌∷◌, ap, sym, length, arith}
use Rattle.std.specs.Vec.{with_items}
use Rattle.std.specs.Vec.Iter.{into_iter_items}
use Rattle.std.proofs.lemmas.List.{with_items_is}
use Rattle.std.proofs.lemmas.List.Elements.{All-rest, All-weaker}
use Rattle.rt_link.specs.Ends.{Sending}
use Rattle.rt_live_links.specs.Rows.{inboxes_of, onto, onto_all, posts_of, with_last}
use Rattle.rt_live_links.proofs.dealing.deal_all.Goals as goal

pub loop-row-preserved : goal.loop-row-preserved
loop-row-preserved c =
    let at = c.loop-row in
    let nodes = at.nodes.items in
    let row = c.in-Some.row in
    let rest = into_iter_items c.next.new.self in
    let steps : into_iter_items at.row-iterator ≡ row ∷ rest = c.in-Some.ensures.steps.0 in
    let lent = c.deref_mut.ensures.value in
    let new = (with_items at.nodes c.deal.new.nodes).items in
    let back : new ≡ c.deal.new.nodes =
    with_items_is at.nodes c.deal.new.nodes (c.deal.auto.nodes ∙ c.deref_mut.ensures.len) in
    let kept : inboxes_of c.deal.new.nodes ≡ inboxes_of nodes = c.deal.ensures.inboxes ∙ ap inboxes_of lent in
    let dealt : posts_of c.deal.new.nodes ≡ onto with_last (posts_of nodes) row =
    c.in_ok-deal.ensures.posts
    ∙ ap (λ l. onto with_last (posts_of l) c.into_vec.result.items) lent
    ∙ ap (λ r. onto with_last (posts_of nodes) r) c.into_vec.ensures in
    let long : length new ≡ length nodes =
    ap length back ∙ c.deal.auto.nodes ∙ ap length lent in
    record {
      left = omega (arith, at.invariant.left, c.in-Some.ensures.steps.1, ap length steps);
      count = long ∙ at.invariant.count;
      fits = All-weaker (λ (r : List Sending). length r ≡ length nodes) (λ r. length r ≡ length new)
          (λ r e. e ∙ sym long) rest
          (All-rest (λ (r : List Sending). length r ≡ length nodes) row rest _ steps at.invariant.fits);
      inboxes = ap inboxes_of back ∙ kept ∙ at.invariant.inboxes;
      posts = ap (λ l. onto_all with_last (posts_of l) rest) back
          ∙ ap (λ posts. onto_all with_last posts rest) dealt
          ∙ ap (λ rows. onto_all with_last (posts_of nodes) rows) (sym steps)
          ∙ at.invariant.posts;
    }
