use Rattle.rt_scan.specs.Summaries.{IsSummary}
use Rattle.rt_scan.proofs.Chosen.{each_read}
use Rattle.rt_scan.proofs.summarized_segment.SummarizedSegment.scan.Goals as goal

pub told-requires : goal.told-requires
told-requires c =
    let file = c.self.inside.file in
    each_read (IsSummary file) c.self.inside.summaries c.as_slice-summary-items.result.now c.loop-summary.summary-index c.summary-item.result
    c.self.invariant c.as_slice-summary-items.ensures c.loop-summary-test.true c.summary-item.is
