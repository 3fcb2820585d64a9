use Rattle.std.proofs.Common.{◌≤◌, ◌+◌, ◌-◌, ◌%◌, length, take, drop, sym, ◌≡◌, arith}
use Rattle.rt_stream.proofs.Places.{slice_more}
use Rattle.rt_stream.proofs.partition_log.PartitionLog.copied_from.Goals as goal

pub loop-offset-preserved : goal.loop-offset-preserved
loop-offset-preserved c =
    let page = c.page_of-page.result.now in
    let place : c.place_of-place.result ≡ c.loop-offset.offset % 256 = c.place_of-place.ensures in
    let fits : c.place_of-place.result + c.min-taken.result ≤ length page =
    omega (arith, place, c.min-taken.ensures, c.page_of-page.ensures.within, c.len-in-loop-offset.ensures) in
    let rest : drop c.place_of-place.result page
    ≡ take (length page - c.place_of-place.result) (drop c.loop-offset.offset c.args.self.now) =
    rw place c.page_of-page.ensures.rest in
    record {
      begun = omega (arith, c.loop-offset.invariant.begun);
      within = omega (arith, c.loop-offset.invariant.within, c.min-taken.ensures);
      copies = rw (c.in_ok-append_range.ensures.ok, c.loop-offset.invariant.copies)
          (sym (slice_more c.args.self.now page c.args.from c.loop-offset.offset
          c.place_of-place.result c.min-taken.result c.loop-offset.invariant.begun rest fits));
    }
