-- The counts of the queues between the nodes, by what these left.
use Rattle.std.proofs.Common.{◌≡◌, ℕ, List, length, map, sym, ◌∙◌, subst}
use Rattle.std.specs.Prelude.{All}
use Rattle.std.proofs.lemmas.List.{length-map}
use Rattle.rt_link.specs.Delivery.{TookOfSenders, of}
use Rattle.rt_link.specs.Ends.{Sending, Taking}
use Rattle.rt_link.specs.declared.rule.Sent.{Sent}
use Rattle.rt_lists.specs.Members.{IsFront}
use Rattle.rt_live_links.specs.Counted.{queues}
use Rattle.rt_live_links.specs.Gathered.{AreEnds, AreGathered}
use Rattle.rt_live_links.specs.Rows.{inboxes_of, posts_of}
use Rattle.rt_live_links.specs.declared.node_links.NodeLinks.{NodeLinks}
use Rattle.rt_live_links.proofs.Counts.{all_counted, is_counted, no_more}
use Rattle.rt_live_links.proofs.Places.{all_found, mapped, unmapped}
use Rattle.rt_live_output.specs.declared.journal.Queue.{Queue}
use Rattle.rt_live_join.specs.Joined.{AreQueues}
use Rattle.rt_live_join.specs.Parted.{AreLinksOf, Had}
use Rattle.rt_live_join.proofs.Taken.{gathered_at}

-- the queues of gathered nodes
gathered_queues : (senders receivers : List NodeLinks) (inboxes : List Taking) → AreEnds receivers senders
    → AreEnds senders receivers → AreGathered senders receivers inboxes
    → AreQueues (posts_of senders) (inboxes_of receivers) (queues senders receivers)
gathered_queues senders receivers inboxes ends others gathered =
    let counts = all_counted senders receivers ends in
    let many : length (posts_of senders) ≡ length senders = length-map senders (λ (l : NodeLinks). l.posts.items) in
    record {
      rows = counts.rows ∙ sym many;
      each_row =
          subst (λ (m : ℕ). All (λ (row : List Queue). length row ≡ m) (queues senders receivers))
          (sym (length-map receivers (λ (l : NodeLinks). l.inbox))) counts.each;
      each = λ from to row counted there here.
          let is = is_counted senders receivers from to row counted there here in
          let got = gathered_at senders receivers inboxes gathered to is.receiver is.receives in
          record {
            posts = is.sender.posts.items;
            post = is.post;
            inbox = is.receiver.inbox;
            sends = mapped (λ (l : NodeLinks). l.posts.items) senders from is.sender is.sends;
            sent = is.posts;
            receives = mapped (λ (l : NodeLinks). l.inbox) receivers to is.receiver is.receives;
            begins =
                subst (λ (taken : List Sent). IsFront (of from taken) is.post.accepted) got.same
                (got.is.fronts from is.sender is.post is.sends is.posts);
            accepted = is.accepted;
            taken = is.taken;
            no_more = no_more senders receivers inboxes from to row counted gathered there here;
          };
      none_else =
          all_found (λ (i : Taking). TookOfSenders (length (posts_of senders)) i.taken) (inboxes_of receivers)
          (λ k i at.
          let l = unmapped (λ (r : NodeLinks). r.inbox) receivers k i at in
          let got = gathered_at senders receivers inboxes gathered k l.0 l.1 in
          let made : got.inbox.made ≡ length (posts_of senders) =
          got.made ∙ (others.each k l.0 l.1).made ∙ sym many in
          subst (λ (t : Taking). TookOfSenders (length (posts_of senders)) t.taken) (sym l.2)
          (subst (λ (taken : List Sent). TookOfSenders (length (posts_of senders)) taken) got.same
          (subst (λ (m : ℕ). TookOfSenders m got.inbox.taken) made got.is.of_senders)));
    }

-- and those of the nodes that had these links
pub queues_between : {X Y M N : Type 0} (had : N → Had X) (nodes : List N) (senders : List NodeLinks)
    (others_had : M → Had Y) (others : List M) (receivers : List NodeLinks) (inboxes : List Taking)
    (counts : List (List Queue)) → AreLinksOf had nodes senders → AreLinksOf others_had others receivers
    → AreEnds receivers senders → AreEnds senders receivers → AreGathered senders receivers inboxes
    → counts ≡ queues senders receivers
    → AreQueues (map (λ a. (had a).posts) nodes) (map (λ b. (others_had b).inbox) others) counts
queues_between had nodes senders others_had others receivers inboxes counts are others_are ends back gathered is =
    subst (λ (sends : List (List Sending)). AreQueues sends (map (λ b. (others_had b).inbox) others) counts) are.posts
    (subst (λ (takes : List Taking). AreQueues (posts_of senders) takes counts) others_are.inboxes
    (subst (λ (c : List (List Queue)). AreQueues (posts_of senders) (inboxes_of receivers) c) (sym is)
    (gathered_queues senders receivers inboxes ends back gathered)))
