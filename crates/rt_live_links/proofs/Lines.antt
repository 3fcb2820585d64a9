-- Where the links of all inboxes are found.
use Rattle.std.proofs.Common.{◌≡◌, ℕ, zero, suc, ◌+◌, List, [], ◌∷◌, ◌++◌, length, refl, sym, ap, ◌∙◌, arith, Some}
use Rattle.std.proofs.Common.{slice_get}
use Rattle.atomic_table.specs.Seated.{TableId}
use Rattle.rt_lists.proofs.Members.{slice_get-append}
use Rattle.rt_link.specs.Ends.{Sending, sending}
use Rattle.rt_live_links.specs.Linked.{AreLinked, IsNewPost, lines_of}
use Rattle.rt_live_links.specs.declared.all_links.Links.{Links}
use Rattle.rt_live_links.specs.declared.node_links.NodeLinks.{NodeLinks}
use Rattle.rt_live_links.proofs.Places.{mapped, unmapped}

-- what stands at a place of the second list, behind all of the first
behind_all : {X : Type 0} (xs ys : List X) (k n : ℕ) (y : X) → n ≡ length xs + k → slice_get ys k ≡ Some y
    → slice_get (xs ++ ys) n ≡ Some y
behind_all [] ys k n y e at =
    let same : n ≡ k = omega (arith, e) in
    ap (λ i. slice_get ys i) same ∙ at
behind_all (x ∷ xs) ys k zero y e at = absurd (omega (arith, e))
behind_all (x ∷ xs) ys k (suc n) y e at = behind_all xs ys k n y (omega (arith, e)) at

pub server_line : (links : Links) (number : ℕ) (node : NodeLinks) → slice_get links.servers.items number ≡ Some node
    → slice_get (lines_of links) number ≡ Some node.inbox.line
server_line links number node at =
    mapped (λ n. n.inbox.line) (links.servers.items ++ links.controllers.items) number node
    (slice_get-append links.servers.items links.controllers.items number node at)

pub controller_line : (links : Links) (number : ℕ) (node : NodeLinks)
    → slice_get links.controllers.items number ≡ Some node
    → slice_get (lines_of links) (length links.servers.items + number) ≡ Some node.inbox.line
controller_line links number node at =
    mapped (λ n. n.inbox.line) (links.servers.items ++ links.controllers.items)
    (length links.servers.items + number) node
    (behind_all links.servers.items links.controllers.items number (length links.servers.items + number) node refl at)

-- a new post is of the link of the inbox that stands at its place
new_post : (lines : List TableId) (capacity spot number place : ℕ) (others nodes : List NodeLinks) (node : NodeLinks)
    (post : Sending) → AreLinked capacity others nodes
    → ((other : NodeLinks) → slice_get others place ≡ Some other → slice_get lines spot ≡ Some other.inbox.line)
    → slice_get nodes number ≡ Some node → slice_get node.posts.items place ≡ Some post
    → IsNewPost lines capacity spot number post
new_post lines capacity spot number place others nodes node post linked found at there =
    let posts = (linked.each number node at).posts in
    let other = unmapped (λ (o : NodeLinks). sending o.inbox.line capacity number []) others place post
    (ap (λ (l : List Sending). slice_get l place) (sym posts) ∙ there) in
    let line : other.0.inbox.line ≡ post.line = ap (λ (p : Sending). p.line) (sym other.2) in
    record {
      stands = found other.0 other.1 ∙ ap Some line;
      is = other.2 ∙ ap (λ l. sending l capacity number []) line;
    }

pub servers_post : (links : Links) (capacity number place : ℕ) (node : NodeLinks) (post : Sending)
    → AreLinked capacity links.controllers.items links.servers.items
    → slice_get links.servers.items number ≡ Some node → slice_get node.posts.items place ≡ Some post
    → IsNewPost (lines_of links) capacity (length links.servers.items + place) number post
servers_post links capacity number place node post linked at there =
    new_post (lines_of links) capacity
    (length links.servers.items + place) number place links.controllers.items links.servers.items node post linked
    (λ other here. controller_line links place other here) at there

pub controllers_post : (links : Links) (capacity number place : ℕ) (node : NodeLinks) (post : Sending)
    → AreLinked capacity links.servers.items links.controllers.items
    → slice_get links.controllers.items number ≡ Some node → slice_get node.posts.items place ≡ Some post
    → IsNewPost (lines_of links) capacity place number post
controllers_post links capacity number place node post linked at there =
    new_post (lines_of links) capacity place number place links.servers.items links.controllers.items node post linked
    (λ other here. server_line links place other here) at there
