use Rattle.rt_lines.proofs.Arrays.{two_parts}
use Rattle.rt_lines.proofs.answer.write_missing.Goals as goal

pub returns : goal.returns
returns c = two_parts _ _ _ _ _ c.in_ok-push_str.ensures.bytes c.in_ok-write_segments.ensures
