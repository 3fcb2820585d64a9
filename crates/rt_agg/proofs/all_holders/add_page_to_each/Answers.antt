use Rattle.std.proofs.Common.{arith}
use Rattle.std.proofs.lemmas.Grind.{common_steps}
use Rattle.std.proofs.lemmas.List.Edits.{map_over_more}
use Rattle.rt_agg.specs.ResultHolder.{with_page_in}
use Rattle.rt_agg.proofs.all_holders.add_page_to_each.Goals as goal

pub loop-holder-preserved : goal.loop-holder-preserved
loop-holder-preserved g c = grind (arith, common_steps, map_over_more (with_page_in (g.R.ReadTable.row_of c.args.table.now) c.args.page.now))
