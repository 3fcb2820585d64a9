use Rattle.std.proofs.Common.{◌∙◌, ◌++◌, ◌+◌, sym, ap, option_map, arith, drop}
use Rattle.serde_json.specs.View.{view, members_view}
use Rattle.rt_schema.specs.Value.{cell_of}
use Rattle.rt_schema.specs.Row.{cells_of}
use Rattle.rt_schema.proofs.Members.{cells_more, cells_none, distinct_next, lookup_is_member}
use Rattle.rt_schema.proofs.row_reader.cells.Goals as goal

pub loop-column-preserved : goal.loop-column-preserved
loop-column-preserved c =
    let found = ap (option_map view) c.remove.ensures.value ∙ lookup_is_member c.as_str.result.now c.loop-column.members.entries in
    let cell = sym c.in-Some.is ∙ c.in_ok-value.ensures {u = tt} ∙ ap (cell_of c.column-item.result) found in
    record {
      distinct = (distinct_next c.args.columns.now c.loop-column.column-index c.column-item.result (omega arith) c.column-item.is c.loop-column.invariant.distinct).1;
      rest = cells_more c.args.columns.now c.loop-column.column-index c.column-item.result c.as_str.result.now c.in-Some.value c.loop-column.values _ c.loop-column.members.entries c.remove.new.self.entries
          (omega arith) c.column-item.is c.as_str.ensures c.remove.ensures.entries c.loop-column.invariant.distinct cell c.loop-column.invariant.rest
          ∙ ap (λ done. option_map (λ vs. done ++ vs) (cells_of (drop (c.loop-column.column-index + 1) c.args.columns.now) (members_view c.remove.new.self.entries))) (sym c.in_ok-push-in-Some.ensures.ok);
    }

pub returns-in-None : goal.returns-in-None
returns-in-None c =
    let found = ap (option_map view) c.remove.ensures.value ∙ lookup_is_member c.as_str.result.now c.loop-column.members.entries in
    let cell = sym c.in-None.is ∙ c.in_ok-value.ensures {u = tt} ∙ ap (cell_of c.column-item.result) found in
    sym (ap (option_map (λ vs. record { values = vs })) (cells_none c.args.columns.now c.loop-column.column-index c.column-item.result c.as_str.result.now c.loop-column.values _ c.loop-column.members.entries
    (omega arith) c.column-item.is c.as_str.ensures cell c.loop-column.invariant.rest))
