use Rattle.std.proofs.Common.{◌≡◌, ◌-◌, ◌≤◌, ◌++◌, length, drop}
use Rattle.rt_tokens.specs.Tokens.{tokens_of, tokens_at}
use Rattle.rt_tokens.proofs.lexer.read.Given as goal

-- the tokens so far and those of what is left are all tokens
abbrev pub invariant-loop-at : goal.invariant-loop-at
invariant-loop-at l = record {
  within : l.at ≤ length l.text;
  read : tokens_of l.text ≡ l.tokens ++ tokens_at 0 l.at (drop l.at l.text);
}

abbrev pub decreases-loop-at : goal.decreases-loop-at
decreases-loop-at l = length l.bytes - l.at
