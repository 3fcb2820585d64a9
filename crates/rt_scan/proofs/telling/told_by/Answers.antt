use Rattle.std.proofs.Common.{◌∙◌, Bool, List, ap, map, subst}
use Rattle.rt_agg.specs.Picking.{Picks}
use Rattle.rt_scan.specs.Summaries.{passes_key}
use Rattle.rt_scan.proofs.Chosen.{picked_hold}
use Rattle.rt_scan.proofs.telling.told_by.Goals as goal

pub returns-in_ok-groups-in-Some : goal.returns-in_ok-groups-in-Some
returns-in_ok-groups-in-Some c =
    let query = c.args.query.now in
    let summary = c.args.summary.now in
    let groups = c.in_ok-groups-in-Some.groups in
    picked_hold c.args.file.now c.args.column.now c.requires.within c.in-Some.test query summary groups c.in_ok-marks-in-Some.marks c.requires.summary c.requires.column c.in-Some.ensures
    (c.in_ok-marks-in-Some.ensures ∙ ap (map (passes_key c.in-Some.test)) c.keys.ensures)
    (subst (λ (marks : List Bool). Picks query marks summary groups) c.as_slice.ensures c.in_ok-groups-in-Some.ensures.picks)
