use Rattle.std.proofs.Common.{◌≡◌, ◌+◌, drop}
use Rattle.std.specs.List.{prefix_len}
use Rattle.std.specs.Char.{is_ascii_digit}
use Rattle.rt_tokens.proofs.lexer.digits_length.Given as goal

-- all bytes so far pass
abbrev pub invariant-loop-length : goal.invariant-loop-length
invariant-loop-length l = prefix_len is_ascii_digit l.bytes ≡ l.length + prefix_len is_ascii_digit (drop l.length l.bytes)
