-- Nodes that post, taken apart: one more, and what their links say of them.
use Rattle.std.proofs.Common.{◌≡◌, ℕ, ◌+◌, List, [], ◌∷◌, ◌++◌, length, map, Some, sym, ap, ◌∙◌, subst, slice_get}
use Rattle.std.proofs.lemmas.List.{length-map, length_push}
use Rattle.std.proofs.lemmas.Option.{none-some, same_Some}
use Rattle.rt_ground.specs.declared.caller.Caller.{Caller}
use Rattle.rt_link.specs.Ends.{Sending, Taking}
use Rattle.rt_live_links.specs.declared.node_links.NodeLinks.{NodeLinks}
use Rattle.rt_live_join.specs.Left.{fronts_by}
use Rattle.rt_live_join.specs.Parted.{AddsNode, AreLeft, AreLinksOf, Had, HasNone}
use Rattle.rt_live_join.specs.declared.parts.Parts.{Parts}
use Rattle.rt_live_join.proofs.Places.{across, each_more, image_more, images_more}

abbrev inbox_of : NodeLinks → Taking
inbox_of l = l.inbox

abbrev sends_of : NodeLinks → List Sending
sends_of l = l.posts.items

-- ---- one node more

pub record IsTaken {R J X : Type 0} (had : Had X) (caller : Caller R J) (link : NodeLinks) (one : X) : Type 0 where
  pub fronts : fronts_by caller ≡ had.fronts
  pub inbox : link.inbox ≡ had.inbox
  pub posts : link.posts.items ≡ had.posts
  pub own : one ≡ had.own

pub none_left : {R J X N : Type 0} (Is : ℕ → N → Type 0) (had : N → Had X) (parts : Parts R J X) → HasNone parts
    → AreLeft Is had (length parts.links.items) parts
none_left Is had parts none = record {
  nodes = [];
  many = sym (ap length none.links);
  each = λ k a at. absurd (none-some a at);
  are = record {
    callers = ap (map fronts_by) none.callers;
    links = record { inboxes = ap (map inbox_of) none.links; posts = ap (map sends_of) none.links };
    own = none.own;
  };
}

pub left_more : {R J X N : Type 0} (Is : ℕ → N → Type 0) (had : N → Had X) (old new : Parts R J X)
    (caller : Caller R J) (link : NodeLinks) (one : X) (a : N) → AreLeft Is had (length old.links.items) old
    → AddsNode old new caller link one → Is (length old.links.items) a → IsTaken (had a) caller link one
    → AreLeft Is had (length new.links.items) new
left_more {R} {J} {X} {N} Is had old new caller link one a left adds is taken = record {
  nodes = left.nodes ++ a ∷ [];
  many =
      length_push left.nodes a
      ∙ ap (λ m. m + 1) left.many
      ∙ sym (ap length adds.links ∙ length_push old.links.items link);
  each = each_more Is left.nodes a left.each (subst (λ m. Is m a) (sym left.many) is);
  are = record {
    callers =
        images_more fronts_by (λ (b : N). (had b).fronts) old.callers.items new.callers.items left.nodes caller a
        left.are.callers adds.callers taken.fronts;
    links = record {
      inboxes =
          images_more inbox_of (λ (b : N). (had b).inbox) old.links.items new.links.items left.nodes link a
          left.are.links.inboxes adds.links taken.inbox;
      posts =
          images_more sends_of (λ (b : N). (had b).posts) old.links.items new.links.items left.nodes link a
          left.are.links.posts adds.links taken.posts;
    };
    own = image_more (λ (b : N). (had b).own) old.own.items new.own.items left.nodes one a left.are.own adds.own
        taken.own;
  };
}

pub all_left : {R J X N : Type 0} (Is : ℕ → N → Type 0) (had : N → Had X) (old new : ℕ) (parts : Parts R J X)
    → AreLeft Is had old parts → old ≡ new → AreLeft Is had new parts
all_left Is had old new parts left same = subst (λ m. AreLeft Is had m parts) same left

-- ---- nodes and their links

module _ {X N : Type 0} (had : N → Had X) (nodes : List N) (links : List NodeLinks)
    (are : AreLinksOf had nodes links) where
  pub many_links : length links ≡ length nodes
  many_links =
      sym (length-map links inbox_of) ∙ ap length are.inboxes ∙ length-map nodes (λ (b : N). (had b).inbox)

  -- the links of the node at a place, by its inbox
  pub links_at : (k : ℕ) (a : N) → slice_get nodes k ≡ Some a
      → (l : NodeLinks) × (slice_get links k ≡ Some l) × ((had a).inbox ≡ l.inbox)
  links_at k a at = across (λ (b : N). (had b).inbox) inbox_of nodes links (sym are.inboxes) k a at

  -- whose these posts are
  pub poster_at : (k : ℕ) (l : NodeLinks) → slice_get links k ≡ Some l
      → (a : N) × (slice_get nodes k ≡ Some a) × (l.posts.items ≡ (had a).posts)
  poster_at k l at = across sends_of (λ (b : N). (had b).posts) links nodes are.posts k l at

  -- whose these links are
  pub node_at : (k : ℕ) (l : NodeLinks) → slice_get links k ≡ Some l
      → (a : N) × (slice_get nodes k ≡ Some a) × (l.inbox ≡ (had a).inbox) × (l.posts.items ≡ (had a).posts)
  node_at k l at =
      let a = across inbox_of (λ (b : N). (had b).inbox) links nodes are.inboxes k l at in
      let b = poster_at k l at in (
        a.0,
        a.1,
        a.2,
        b.2 ∙ ap (λ (c : N). (had c).posts) (same_Some b.0 a.0 (sym b.1 ∙ a.1)),
      )
