use Rattle.rt_past.proofs.Lowest.{without_entries}
use Rattle.rt_past.proofs.laws.a_segment_without_entries_is_the_lowest.Goals as goal

pub returns : goal.returns
returns c = without_entries
