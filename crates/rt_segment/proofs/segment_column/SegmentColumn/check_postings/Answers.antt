use Rattle.std.proofs.Common.{ap, arith, length}
use Rattle.rt_postings.specs.Postings.{postings_of}
use Rattle.rt_segment.specs.Column.{count_in}
use Rattle.rt_segment.proofs.Rows.{at_some, length_postings}
use Rattle.rt_segment.proofs.segment_column.SegmentColumn.check_postings.Goals as goal

pub check_postings-requires : goal.check_postings-requires
check_postings-requires c =
    let inside = c.self.inside in
    let are = at_some inside.postings c.in-Some.postings (postings_of inside.ids (count_in inside.dictionary)) c.in-Some.is c.self.invariant.1 in
    omega (arith, ap length are, length_postings inside.ids (count_in inside.dictionary), c.len.ensures)
