use Rattle.std.proofs.Common.{ap, arith, length}
use Rattle.rt_postings.specs.Postings.{postings_of}
use Rattle.rt_segment.specs.Column.{count_in}
use Rattle.rt_segment.proofs.ColumnLaws.{rows_few}
use Rattle.rt_segment.proofs.Rows.{at_some, length_postings, postings_few}
use Rattle.rt_segment.proofs.segment_column.SegmentColumn.write_postings.Goals as goal

pub write_postings-requires-clause-count : goal.write_postings-requires-clause-count
write_postings-requires-clause-count c =
    let inside = c.self.inside in
    let are = at_some inside.postings c.in-Some.postings (postings_of inside.ids (count_in inside.dictionary)) c.in-Some.is c.self.invariant.1 in
    omega (arith, ap length are, length_postings inside.ids (count_in inside.dictionary), c.len.ensures)

pub write_postings-requires-clause-few : goal.write_postings-requires-clause-few
write_postings-requires-clause-few c =
    let inside = c.self.inside in
    let are = at_some inside.postings c.in-Some.postings (postings_of inside.ids (count_in inside.dictionary)) c.in-Some.is c.self.invariant.1 in
    postings_few inside.ids (count_in inside.dictionary) c.in-Some.postings (rows_few inside.ids) c.self.invariant.0.rows are
