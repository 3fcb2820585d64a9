use Rattle.std.proofs.Common.{◌≡◌, ◌<◌, ◌+◌, ◌∙◌, ap, get_or, length, arith}
use Rattle.std.proofs.lemmas.List.{length-set, length_push, map-set}
use Rattle.std.proofs.lemmas.Option.{slice_get-get_or}
use Rattle.rt_live_links.specs.Rows.{onto, posts_of, with_last}
use Rattle.rt_live_links.proofs.Places.{mapped, onto_more, replaced}
use Rattle.rt_live_links.proofs.dealing.deal.Goals as goal

pub loop-post-preserved : goal.loop-post-preserved
loop-post-preserved c =
    let nodes = c.loop-post.nodes in
    let left = c.pop.new.self.items in
    let n = c.len.result in
    let was = get_or nodes n c.index-nodes-len.result in
    let now = c.add.new.self in
    let popped = c.in-Some.ensures.items in
    let place : n ≡ length left = omega (arith, c.len.ensures, c.pop.new.self.ok.0) in
    let one : length c.loop-post.row.items ≡ length left + 1 = ap length popped ∙ length_push left c.in-Some.post in
    let within : n < length nodes = omega (arith, place, one, c.loop-post.invariant.fits) in
    let at = slice_get-get_or nodes n c.index-nodes-len.result within in
    record {
      fits = omega (arith, one, c.loop-post.invariant.fits, length-set nodes n now);
      inboxes = replaced (λ node. node.inbox) nodes n was now at c.add.ensures.inbox ∙ c.loop-post.invariant.inboxes;
      posts = ap (λ posts. onto with_last posts left) (map-set (λ node. node.posts.items) nodes n now)
          ∙ onto_more with_last
          (posts_of nodes) c.loop-post.row.items left n was.posts.items now.posts.items c.in-Some.post popped place
          (mapped (λ node. node.posts.items) nodes n was at) c.in_ok-add.ensures.posts
          ∙ c.loop-post.invariant.posts;
    }

pub returns-in_err-add-clause-inboxes : goal.returns-in_err-add-clause-inboxes
returns-in_err-add-clause-inboxes c =
    let nodes = c.loop-post.nodes in
    let left = c.pop.new.self.items in
    let n = c.len.result in
    let place : n ≡ length left = omega (arith, c.len.ensures, c.pop.new.self.ok.0) in
    let one : length c.loop-post.row.items ≡ length left + 1 =
    ap length c.in-Some.ensures.items ∙ length_push left c.in-Some.post in
    let within : n < length nodes = omega (arith, place, one, c.loop-post.invariant.fits) in
    replaced (λ node. node.inbox) nodes n (get_or nodes n c.index-nodes-len.result) c.add.new.self
    (slice_get-get_or nodes n c.index-nodes-len.result within) c.add.ensures.inbox
    ∙ c.loop-post.invariant.inboxes
