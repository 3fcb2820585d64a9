use Rattle.std.proofs.Common.{◌≡◌, ◌+◌, drop}
use Rattle.std.specs.List.{prefix_len}
use Rattle.rt_tokens.specs.Tokens.{is_name_byte}
use Rattle.rt_tokens.proofs.lexer.name_length.Given as goal

-- all bytes so far pass
abbrev pub invariant-loop-length : goal.invariant-loop-length
invariant-loop-length l = prefix_len is_name_byte l.bytes ≡ l.length + prefix_len is_name_byte (drop l.length l.bytes)
