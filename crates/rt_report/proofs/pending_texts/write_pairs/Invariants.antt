use Rattle.std.proofs.Common.{◌≡◌, ◌++◌, take, map, string_bytes}
use Rattle.std.specs.List.{join_with_byte}
use Rattle.rt_report.specs.FurtherTexts.{pair_text}
use Rattle.rt_report.proofs.pending_texts.write_pairs.Given as goal

abbrev pub invariant-loop-place : goal.invariant-loop-place
invariant-loop-place l = string_bytes l.out ≡ string_bytes l.initial.out ++ join_with_byte 44 (map pair_text (take l.place l.segments))
