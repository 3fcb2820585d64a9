use Rattle.std.proofs.Common.{refl, sym}
use Rattle.rt_entry.proofs.Served.{groups_of_rows}
use Rattle.rt_entry.proofs.serving.serve_rows.Goals as goal

pub returns : goal.returns
returns c = groups_of_rows c.args.query.now c.args.piece c.args.rows.now _ _ (sym (c.in_ok-range.ensures {u = tt})) refl (c.in_ok-groups.ensures {u = tt})
