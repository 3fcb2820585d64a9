-- The counts of each queue.
use Rattle.std.proofs.Common.{◌≡◌, ℕ, zero, suc, ◌+◌, ◌≤◌, List, [], ◌∷◌, length, refl, sym, ap, ◌∙◌, arith, Some}
use Rattle.std.proofs.Common.{slice_get}
use Rattle.std.proofs.lemmas.List.{length-append}
use Rattle.std.proofs.lemmas.Option.{none-some, same_Some, slice_get_within}
use Rattle.rt_lists.specs.Members.{IsFront}
use Rattle.rt_link.specs.Delivery.{of}
use Rattle.rt_link.specs.Ends.{Sending, Taking}
use Rattle.rt_link.specs.declared.envelope.Envelope.{Envelope}
use Rattle.rt_live_links.specs.Counted.{HasCounts, IsCounted, queue, queues, queues_from, queues_of}
use Rattle.rt_live_links.specs.Gathered.{AreEnds, AreGathered}
use Rattle.rt_live_links.specs.declared.node_links.NodeLinks.{NodeLinks}
use Rattle.rt_live_output.specs.declared.journal.Queue.{Queue}
use Rattle.rt_live_links.proofs.Places.{all_found, stands}

pub record AtRow (number : ℕ) (senders receivers : List NodeLinks) (k : ℕ) (row : List Queue) : Type 0 where
  pub sender : NodeLinks
  pub sends : slice_get senders k ≡ Some sender
  pub is : row ≡ queues_of number sender.posts.items receivers

-- the row of the sender of a number, where the first sender has this one
at_row : (first : ℕ) (senders receivers : List NodeLinks) (k number : ℕ) (row : List Queue) → first + k ≡ number
    → slice_get (queues_from first senders receivers) k ≡ Some row
    → AtRow number senders receivers k row
at_row first [] receivers k number row e at = absurd (none-some row at)
at_row first (sender ∷ senders) receivers zero number row e at =
    record {
      sender = sender;
      sends = refl;
      is = sym (same_Some (queues_of first sender.posts.items receivers) row at)
          ∙ ap (λ n. queues_of n sender.posts.items receivers) (omega (arith, e));
    }
at_row first (sender ∷ senders) receivers (suc k) number row e at =
    let rest = at_row (first + 1) senders receivers k number row (omega (arith, e)) at in
    record { sender = rest.sender; sends = rest.sends; is = rest.is }

pub record AtCounts (sender : ℕ) (posts : List Sending) (receivers : List NodeLinks) (k : ℕ)
    (counts : Queue) : Type 0 where
  pub post : Sending
  pub receiver : NodeLinks
  pub posts_at : slice_get posts k ≡ Some post
  pub receives : slice_get receivers k ≡ Some receiver
  pub is : counts ≡ queue sender post receiver.inbox

at_counts : (sender : ℕ) (posts : List Sending) (receivers : List NodeLinks) (k : ℕ) (counts : Queue)
    → slice_get (queues_of sender posts receivers) k ≡ Some counts
    → AtCounts sender posts receivers k counts
at_counts sender [] receivers k counts at = absurd (none-some counts at)
at_counts sender (post ∷ posts) [] k counts at = absurd (none-some counts at)
at_counts sender (post ∷ posts) (receiver ∷ receivers) zero counts at =
    record {
      post = post;
      receiver = receiver;
      posts_at = refl;
      receives = refl;
      is = sym
          (same_Some (queue sender post receiver.inbox) counts at);
    }
at_counts sender (post ∷ posts) (receiver ∷ receivers) (suc k) counts at =
    let rest = at_counts sender posts receivers k counts at in
    record {
      post = rest.post;
      receiver = rest.receiver;
      posts_at = rest.posts_at;
      receives = rest.receives;
      is = rest.is;
    }

pub is_counted : (senders receivers : List NodeLinks) (from to : ℕ) (row : List Queue) (counts : Queue)
    → slice_get (queues senders receivers) from ≡ Some row
    → slice_get row to ≡ Some counts → IsCounted senders receivers from to counts
is_counted senders receivers from to row counts at there =
    let sends = at_row 0 senders receivers from from row (omega arith) at in
    let gets = at_counts from sends.sender.posts.items receivers to counts
    (ap (λ (l : List Queue). slice_get l to) (sym sends.is) ∙ there) in
    record {
      sender = sends.sender;
      receiver = gets.receiver;
      post = gets.post;
      sends = sends.sends;
      receives = gets.receives;
      posts = gets.posts_at;
      accepted = ap (λ (q : Queue). q.accepted) gets.is;
      taken = ap (λ (q : Queue). q.taken) gets.is;
    }

-- ---- as many as there are queues

many_rows : (number : ℕ) (senders receivers : List NodeLinks)
    → length (queues_from number senders receivers) ≡ length senders
many_rows number [] receivers = refl
many_rows number (sender ∷ senders) receivers = ap suc (many_rows (number + 1) senders receivers)

many_counts : (sender : ℕ) (posts : List Sending) (receivers : List NodeLinks) → length posts ≡ length receivers
    → length (queues_of sender posts receivers) ≡ length receivers
many_counts sender [] [] same = refl
many_counts sender [] (receiver ∷ receivers) same = absurd (omega (arith, same))
many_counts sender (post ∷ posts) [] same = refl
many_counts sender (post ∷ posts) (receiver ∷ receivers) same = ap suc
    (many_counts sender posts receivers (omega (arith, same)))

pub all_counted : (senders receivers : List NodeLinks) → AreEnds receivers senders
    → HasCounts (length senders) (length receivers) (queues senders receivers)
all_counted senders receivers ends =
    record {
      rows = many_rows 0 senders receivers;
      each = all_found (λ (row : List Queue). length row ≡ length receivers) (queues senders receivers)
          (λ k row at.
          let sends = at_row 0 senders receivers k k row (omega arith) at in
          ap length sends.is ∙ many_counts k sends.sender.posts.items receivers
          (ends.each k sends.sender sends.sends).posts);
    }

-- ---- what was taken

front_length : (xs ys : List Envelope) → IsFront xs ys → length xs ≤ length ys
front_length xs ys front = omega (arith, ap length front.1, length-append xs front.0)

pub no_more : (senders receivers : List NodeLinks) (inboxes : List Taking) (from to : ℕ) (row : List Queue)
    (counts : Queue) → AreGathered senders receivers inboxes
    → slice_get (queues senders receivers) from ≡ Some row → slice_get row to ≡ Some counts
    → counts.taken ≤ counts.accepted
no_more senders receivers inboxes from to row counts gathered at there =
    let q = is_counted senders receivers from to row counts at there in
    let inbox = stands inboxes to
    (omega (arith, gathered.count, slice_get_within receivers to q.receiver q.receives)) in
    let got = gathered.each to q.receiver inbox.0 q.receives inbox.1 in
    let same : of from inbox.0.taken
    ≡ of from q.receiver.inbox.taken = ap (λ (i : Taking). of from i.taken) got.accounts in
    let few = front_length (of from inbox.0.taken) q.post.accepted (got.fronts from q.sender q.post q.sends q.posts) in
    omega (arith, few, q.accepted, q.taken, ap length same)
