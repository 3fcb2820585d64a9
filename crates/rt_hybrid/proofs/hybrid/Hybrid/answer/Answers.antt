use Rattle.std.proofs.Common.{arith}
use Rattle.rt_hybrid.specs.Sides.{is_offline_row, is_realtime_row}
use Rattle.rt_hybrid.specs.Table.{offline_rows}
use Rattle.rt_hybrid.proofs.Merged.{merged_finish}
use Rattle.rt_hybrid.proofs.Offline.{side_few}
use Rattle.rt_hybrid.proofs.hybrid.Hybrid.answer.Goals as goal

pub returns : goal.returns
returns c =
    merged_finish c.args.self.now c.args.query.now c.args.rows.now c.in_ok-groups.groups c.in_ok-realtime.realtime c.merge.new.self c.in_ok-answer.answer
    (c.in_ok-groups.ensures.groups) (c.in_ok-realtime.ensures {u = tt}) c.in_ok-merge.ensures.merges
    (omega (arith, c.requires.few, c.in_ok-groups.ensures.few, side_few c.args.query.now (is_offline_row c.args.self.now) (offline_rows c.args.self.now), side_few c.args.query.now (is_realtime_row c.args.self.now) c.args.rows.now))
    (c.in_ok-answer.ensures {u = tt})
