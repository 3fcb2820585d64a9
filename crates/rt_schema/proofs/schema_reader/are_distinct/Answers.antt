use Rattle.std.proofs.Common.{◌∙◌, sym, ap, arith}
use Rattle.rt_schema.proofs.Names.{repeated, came_more, distinct_more, has_key}
use Rattle.rt_schema.proofs.schema_reader.are_distinct.Goals as goal

pub returns-then-not-branch : goal.returns-then-not-branch
returns-then-not-branch c =
    repeated c.args.columns.now c.loop-column.column-index c.column-item.result c.as_str.result c.loop-column.names.keys (omega arith) c.column-item.is c.as_str.ensures c.loop-column.invariant.came
    (sym c.in_ok-insert.ensures.added ∙ c.if-not-branch.true)

pub loop-column-preserved : goal.loop-column-preserved
loop-column-preserved c = record {
  came = λ q. ap (λ keys. has_key keys q) c.in_ok-insert.ensures.keys
      ∙ came_more c.args.columns.now c.loop-column.column-index c.column-item.result c.as_str.result c.loop-column.names.keys q (omega arith) c.column-item.is c.as_str.ensures (c.loop-column.invariant.came q);
  distinct = distinct_more c.args.columns.now c.loop-column.column-index c.column-item.result c.as_str.result c.loop-column.names.keys (omega arith) c.column-item.is c.as_str.ensures c.loop-column.invariant.came
      (sym c.in_ok-insert.ensures.added ∙ c.if-not-branch.false) c.loop-column.invariant.distinct;
}
