use Rattle.std.proofs.Common.{◌≡◌, ◌-◌, ◌≤◌, ◌++◌, length, take, drop, get_or}
use Rattle.rt_tokens.specs.Tokens.{content, behind}
use Rattle.rt_tokens.proofs.content.content_at.Given as goal

-- what was read and what stands since then come before what follows; a quote stands before each piece or at its begin
abbrev pub invariant-loop-at : goal.invariant-loop-at
invariant-loop-at l = record {
  begun : (l.start ≤ l.from) × (l.from ≤ l.at) × (l.from ≤ length l.text) × (l.at ≤ length l.text);
  quote : get_or l.text (l.from - 1) 0 ≡ 39;
  read : content (drop l.start l.text) ≡ behind (l.content ++ take (l.at - l.from) (drop l.from l.text)) (l.at - l.start) (content (drop l.at l.text));
}

abbrev pub decreases-loop-at : goal.decreases-loop-at
decreases-loop-at l = length l.bytes - l.at
