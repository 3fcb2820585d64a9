use Rattle.std.proofs.Common.{◌≡◌, ◌++◌, take, map, string_bytes}
use Rattle.std.specs.List.{join_with_byte}
use Rattle.rt_lines.proofs.json.write_array.Given as goal

abbrev pub invariant-loop-place : goal.invariant-loop-place
invariant-loop-place g l = string_bytes l.out ≡ string_bytes l.initial.out ++ join_with_byte 44 (map g.T.Json.text (take l.place l.items))
