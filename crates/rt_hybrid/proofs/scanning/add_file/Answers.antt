use Rattle.std.proofs.Common.{◌∙◌, [], sym}
use Rattle.rt_model.specs.Aggregate.{taken}
use Rattle.rt_scan.specs.Filled.{rows_as}
use Rattle.rt_scan.proofs.Skipped.{none_filled_passes}
use Rattle.rt_hybrid.proofs.Gaining.{adds_none, adds_same, merged_adds, none_taken}
use Rattle.rt_hybrid.proofs.scanning.add_file.Goals as goal

pub returns-then-skips : goal.returns-then-skips
returns-then-skips c =
    adds_same c.args.query.now [] (taken c.args.query.now (rows_as c.args.schema.now c.args.file.now)) c.args.groups.now c.args.groups.now
    (sym (none_taken c.args.query.now (rows_as c.args.schema.now c.args.file.now)
    (none_filled_passes c.args.query.now c.args.schema.now c.args.file.now c.rows.ensures.right c.requires.query c.requires.kinds (sym c.skips.ensures ∙ c.if-skips.true))))
    (adds_none c.args.query.now c.args.groups.now)

pub returns : goal.returns
returns c =
    merged_adds c.args.query.now (taken c.args.query.now (rows_as c.args.schema.now c.args.file.now)) c.args.groups.now c.in_ok-more.more c.merge.new.self c.in_ok-merge.ensures.merges
    (c.in_ok-more.ensures {u = tt})
