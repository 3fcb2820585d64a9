use Rattle.std.proofs.Common.{sym, ap, ◌∙◌, replicate}
use Rattle.rt_seek.specs.ColumnTest.{passes_test}
use Rattle.rt_seek.proofs.Sets.{ok_then}
use Rattle.rt_seek.proofs.Held.{map_replicate}
use Rattle.rt_seek.proofs.file_column.missing_rows.Goals as goal

pub returns-then-passes : goal.returns-then-passes
returns-then-passes c = ok_then c.all_rows.result _ _ c.all_rows.ensures (λ set e.
    e ∙ ap (replicate c.args.rows) c.if-passes.ensures ∙ sym (map_replicate (passes_test c.args.test.now) c.args.rows c.args.value.now))

pub returns-else-passes : goal.returns-else-passes
returns-else-passes c = ok_then c.empty.result _ _ c.empty.ensures (λ set e.
    e ∙ ap (replicate c.args.rows) c.if-passes.ensures ∙ sym (map_replicate (passes_test c.args.test.now) c.args.rows c.args.value.now))
