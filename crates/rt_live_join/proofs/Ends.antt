-- What was left can be gathered.
use Rattle.std.proofs.Common.{◌≡◌, ℕ, List, [], length, Some, sym, ap, ◌∙◌, slice_get}
use Rattle.atomic_table.specs.Seated.{TableId}
use Rattle.rt_link.specs.Ends.{Sending, Taking}
use Rattle.rt_live_links.specs.Gathered.{AreEnds}
use Rattle.rt_live_links.specs.declared.node_links.NodeLinks.{NodeLinks}
use Rattle.rt_live_links.proofs.Named.{named_ends}
use Rattle.rt_live_names.specs.Fronts.{controller_line, server_line}
use Rattle.rt_live_names.specs.Names.{Names}
use Rattle.rt_live_server.specs.Seat.{SeatNow}
use Rattle.rt_model.specs.Starting.{Starting}
use Rattle.rt_live_join.specs.Left.{AreEach, ControllerLeft, IsControllerLeft, IsServerLeft}
use Rattle.rt_live_join.specs.Parted.{AreLinksOf, Had, controller_had, server_had}
use Rattle.rt_live_join.proofs.Parting.{many_links, node_at}

-- the inbox of the node of this number gathered no sender yet, and its posts, one to each of the others, have its
-- number and the names of their links
record IsNamed (line : ℕ → TableId) (others number : ℕ) (takes : Taking) (sends : List Sending) : Type 0 where
  pub made : takes.made ≡ others
  pub gathered : takes.gathered ≡ []
  pub posts : length sends ≡ others
  pub named : (place : ℕ) (post : Sending) → slice_get sends place ≡ Some post
      → (post.line ≡ line place) × (post.from ≡ number)

ends_by : {X Y M N : Type 0} (line : ℕ → TableId) (had : N → Had X) (nodes : List N) (links : List NodeLinks)
    (others_had : M → Had Y) (others : List M) (others_links : List NodeLinks) → AreLinksOf had nodes links
    → AreLinksOf others_had others others_links
    → ((place : ℕ) (b : M) → slice_get others place ≡ Some b → (others_had b).inbox.line ≡ line place)
    → ((number : ℕ) (a : N) → slice_get nodes number ≡ Some a
    → IsNamed line (length others) number (had a).inbox (had a).posts)
    → AreEnds others_links links
ends_by line had nodes links others_had others others_links are others_are lines named =
    let many = many_links others_had others others_links others_are in
    named_ends line others_links links
    (λ place other there.
    let b = node_at others_had others others_links others_are place other there in
    ap (λ (i : Taking). i.line) b.2 ∙ lines place b.0 b.1)
    (λ number node at.
    let a = node_at had nodes links are number node at in
    let is = named number a.0 a.1 in
    record {
      made = ap (λ (i : Taking). i.made) a.2 ∙ is.made ∙ sym many;
      gathered = ap (λ (i : Taking). i.gathered) a.2 ∙ is.gathered;
      posts = ap length a.3 ∙ is.posts ∙ sym many;
      named = λ place post here.
          is.named place post (ap (λ (ps : List Sending). slice_get ps place) (sym a.3) ∙ here);
    })

module _ (n : Names) (s : Starting) (servers : List SeatNow) (controllers : List ControllerLeft)
    (each_server : AreEach (IsServerLeft n s) servers) (each_controller : AreEach (IsControllerLeft n) controllers)
    (links_there links_back : List NodeLinks) (of_servers : AreLinksOf server_had servers links_there)
    (of_controllers : AreLinksOf controller_had controllers links_back) where
  abbrev line_to_controller : ℕ → TableId
  line_to_controller k = n.lines (controller_line n.setup k)

  abbrev line_to_server : ℕ → TableId
  line_to_server k = n.lines (server_line k)

  pub server_ends : length controllers ≡ n.setup.controllers → AreEnds links_back links_there
  server_ends many =
      ends_by line_to_controller server_had servers links_there controller_had controllers links_back of_servers
      of_controllers
      (λ place b there.
      let is = each_controller place b there in
      ap (λ (i : Taking). i.line) is.ended.inbox ∙ ap line_to_controller is.number)
      (λ number a at.
      let is = each_server number a at in
      record {
        made = is.ended.seat.made ∙ sym many;
        gathered = is.ended.seat.gathered;
        posts = is.posts ∙ sym many;
        named = λ place post here.
            let named = is.ended.seat.posted.named place post here in (named.0, named.1 ∙ is.number);
      })

  pub controller_ends : length servers ≡ n.setup.servers → AreEnds links_there links_back
  controller_ends many =
      ends_by line_to_server controller_had controllers links_back server_had servers links_there of_controllers
      of_servers
      (λ place b there.
      let is = each_server place b there in is.ended.seat.line ∙ ap line_to_server is.number)
      (λ number a at.
      let is = each_controller number a at in
      record {
        made = ap (λ (i : Taking). i.made) is.ended.inbox ∙ sym many;
        gathered = ap (λ (i : Taking). i.gathered) is.ended.inbox;
        posts = is.posts ∙ sym many;
        named = λ place post here.
            let named = is.ended.posted.named place post here in (named.0, named.1 ∙ is.number);
      })
