use Rattle.std.proofs.Common.{◌≡◌, ℕ, sym, ap, subst, ◌∙◌, arith, length, map}
use Rattle.std.specs.Prelude.{IfOk}
use Rattle.std.proofs.lemmas.List.{length-map}
use Rattle.rt_model.specs.Aggregate.{taken}
use Rattle.rt_model.specs.Match.{passes}
use Rattle.rt_agg.specs.Grouped.{Holds}
use Rattle.rt_seek.specs.Table.{rows_by}
use Rattle.rt_scan.proofs.Filters.{length_rows}
use Rattle.rt_scan.proofs.scanning.groups_taken.Goals as goal
use Rattle.rt_scan.proofs.scanning.groups_taken.Goals.{In_ok-set}

-- the set has a mark for each row
count : (g : _) (c : In_ok-set g) → length c.in_ok-set.set ≡ c.args.rows
count g c =
    let rows = rows_by g.C.ScanColumn.values c.args.columns.now c.args.rows in
    ap length (c.in_ok-set.ensures {u = tt}) ∙ length-map rows (passes c.args.query.now.filter) ∙ length_rows g.C.ScanColumn.values c.args.columns.now c.args.rows

pub groups_of-requires-clause-full : goal.groups_of-requires-clause-full
groups_of-requires-clause-full g c k d h = c.requires.full k d h ∙ sym (count g (goal.at.groups_of-requires-clause-full g c).In_ok-set)

pub groups_of-requires-clause-few : goal.groups_of-requires-clause-few
groups_of-requires-clause-few g c = omega (arith, count g (goal.at.groups_of-requires-clause-few g c).In_ok-set)

pub groups_of-requires-clause-taken : goal.groups_of-requires-clause-taken
groups_of-requires-clause-taken g c =
    c.in_ok-set.ensures {u = tt} ∙ ap (λ n. map (passes c.args.query.now.filter) (rows_by g.C.ScanColumn.values c.args.columns.now n)) (sym (count g (goal.at.groups_of-requires-clause-taken g c).In_ok-set))

pub groups_of-requires-clause-fits : goal.groups_of-requires-clause-fits
groups_of-requires-clause-fits g c row h = c.requires.fits row (omega (arith, h, count g (goal.at.groups_of-requires-clause-fits g c).In_ok-set))

pub returns : goal.returns
returns g c =
    subst (λ (n : ℕ). IfOk c.groups_of.result (Holds c.args.query.now (taken c.args.query.now (rows_by g.C.ScanColumn.values c.args.columns.now n)))) (count g (goal.at.returns g c).In_ok-set) c.groups_of.ensures
