use Rattle.std.proofs.Common.{◌∙◌, sym, arith}
use Rattle.rt_hybrid.proofs.Places.{place_here, place_more, place_nowhere}
use Rattle.rt_hybrid.proofs.times.place_of.Goals as goal

pub returns-then-is_time_column : goal.returns-then-is_time_column
returns-then-is_time_column c =
    place_here c.args.name.now c.args.columns.now c.loop-column.column-index c.column-item.result c.loop-column.place (omega arith) c.column-item.is
    (sym c.is_time_column.ensures ∙ c.if-is_time_column.true) c.loop-column.invariant.rest

pub loop-column-preserved : goal.loop-column-preserved
loop-column-preserved c = record {
  place = omega (arith, c.loop-column.invariant.place);
  rest = place_more c.args.name.now c.args.columns.now c.loop-column.column-index c.column-item.result c.loop-column.place (omega arith) c.column-item.is
      (sym c.is_time_column.ensures ∙ c.if-is_time_column.false) c.loop-column.invariant.rest;
}

pub returns : goal.returns
returns c = place_nowhere c.args.name.now c.args.columns.now c.loop-column.column-index c.loop-column.place (omega arith) c.loop-column.invariant.rest
