use Rattle.std.proofs.Common.{◌≡◌, ◌≤◌, ◌+◌, ◌-◌, ◌++◌, take, length, vec_len, vec_capacity}
use Rattle.rt_stream.specs.Pages.{shifted}
use Rattle.rt_stream.proofs.messages.push_shifted.Given as goal

-- the ends so far stand shifted behind the others, and there is room for the rest
abbrev pub invariant-loop-place : goal.invariant-loop-place
invariant-loop-place l = record {
  ends : l.ends.items ≡ l.initial.ends.items ++ shifted l.start l.base (take l.place-index l.more);
  room : vec_len l.ends + (length l.more - l.place-index) ≤ vec_capacity l.ends;
}
