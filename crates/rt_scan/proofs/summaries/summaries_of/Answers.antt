use Rattle.std.proofs.Common.{◌∷◌, [], ap, arith, length, subst, sym}
use Rattle.std.specs.List.{AllByRecursion}
use Rattle.rt_agg.proofs.Appends.{both_fit}
use Rattle.rt_scan.specs.Summaries.{IsSummary, aggregates_in}
use Rattle.rt_scan.proofs.Summing.{aggregates_more}
use Rattle.rt_scan.proofs.summaries.summaries_of.Goals as goal
use Rattle.rt_scan.proofs.summaries.summaries_of.Goals.{then-aggregates-room+then-is_summarized+in_ok-summary_by+in_ok-push, else-aggregates-room}

pub loop-place-preserved : goal.loop-place-preserved
loop-place-preserved c =
    let is = IsSummary c.args.file.now in
    let before = c.loop-place.summaries in
    elim c.if-aggregates-room.branch [
      | then-aggregates-room+then-is_summarized+in_ok-summary_by+in_ok-push w ↦ (
          let more = w.in_ok-summary_by.field-0 in
          record {
            held = subst (AllByRecursion is) (sym w.summaries-is)
                (subst (AllByRecursion is) (sym w.in_ok-push.ensures.ok) (both_fit is before (more ∷ []) c.loop-place.invariant.held (w.in_ok-summary_by.ensures.summary, tt)));
            room = omega (
              arith,
              ap aggregates_in w.summaries-is,
              aggregates_more before w.push.new.self more w.in_ok-push.ensures.ok,
              ap length w.in_ok-summary_by.ensures.items,
              c.len-aggregates.ensures,
              w.room-is,
              w.if-aggregates-room.true,
              c.loop-place.invariant.room,
            );
          }
          )
      | else-aggregates-room w ↦ record {
        held = subst (AllByRecursion is) (sym w.summaries-is) c.loop-place.invariant.held;
        room = omega (arith, ap aggregates_in w.summaries-is, w.room-is, c.loop-place.invariant.room);
      }
    ]
