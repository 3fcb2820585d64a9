use Rattle.std.proofs.Common.{◌≡◌, ◌≤◌, [], map, vec_len, vec_capacity}
use Rattle.std.specs.List.{range_with_len}
use Rattle.rt_link.specs.Ends.{sending, taking}
use Rattle.rt_link.proofs.ends.link.Given as goal

-- the posts so far have the numbers so far
abbrev pub invariant-loop-number : goal.invariant-loop-number
invariant-loop-number l = record {
  inbox : l.inbox ≡ taking l.inbox.line l.capacity l.number [] [];
  posts : l.posts.items ≡ map (λ k. sending l.inbox.line l.capacity k []) (range_with_len 0 l.number);
  count : vec_len l.posts ≡ l.number;
  room : l.senders ≤ vec_capacity l.posts;
}
