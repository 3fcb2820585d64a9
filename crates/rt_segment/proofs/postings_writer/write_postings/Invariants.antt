use Rattle.std.proofs.Common.{◌≡◌, ◌++◌, take}
use Rattle.std.specs.List.{flat_map}
use Rattle.rt_segment.specs.Spelling.{word}
use Rattle.rt_segment.proofs.Rows.{numbered}
use Rattle.rt_segment.proofs.postings_writer.write_postings.Given as goal

abbrev pub invariant-loop-id : goal.invariant-loop-id
invariant-loop-id l = l.out.items ≡ l.initial.out.items ++ flat_map word (flat_map numbered (take l.id l.postings))
