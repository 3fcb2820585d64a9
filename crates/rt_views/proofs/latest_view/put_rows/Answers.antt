use Rattle.std.proofs.Common.{◌≡◌, ◌∙◌, ◌+◌, ◌<◌, ap, arith, drop, length, map, subst, sym}
use Rattle.rt_schema.specs.Value.{kind_of}
use Rattle.rt_schema.specs.declared.row.Row.{Row}
use Rattle.rt_upsert.specs.Placed.{PlacedRows}
use Rattle.rt_views.specs.Placing.{put_from}
use Rattle.rt_views.proofs.PutRows.{at_few, at_kinds, from_step, from_put, rows_left}
use Rattle.rt_views.proofs.latest_view.put_rows.Goals as goal

pub put_at-requires-clause-kinds : goal.put_at-requires-clause-kinds
put_at-requires-clause-kinds c =
    subst (λ (row : Row). map kind_of row.values ≡ c.args.upsert.now.kinds) (sym c.row-item.is) (c.requires.kinds c.loop-row.row-index c.row-item.result (omega arith)) ∙ sym c.loop-row.invariant.kinds

pub put_at-requires-clause-few : goal.put_at-requires-clause-few
put_at-requires-clause-few c = omega (arith, rows_left c.args.rows.now c.loop-row.row-index c.row-item.result (omega arith) c.row-item.is)

pub loop-row-preserved : goal.loop-row-preserved
loop-row-preserved c =
    let within : c.loop-row.row-index < length c.args.rows.now = omega arith in
    record {
      place = omega arith;
      rest =
          ap (λ (h : PlacedRows). put_from c.args.sequence (c.loop-row.number + 1) h (drop (c.loop-row.row-index + 1) c.args.rows.now)) c.in_ok-put_at.ensures
          ∙ from_step c.args.sequence c.loop-row.number c.loop-row.upsert c.args.rows.now c.loop-row.row-index c.row-item.result within c.row-item.is
          ∙ c.loop-row.invariant.rest;
      kinds = ap (λ (h : PlacedRows). h.kinds) c.in_ok-put_at.ensures ∙ at_kinds c.loop-row.upsert (record { sequence = c.args.sequence; row = c.loop-row.number }) c.row-item.result ∙ c.loop-row.invariant.kinds;
      few = omega (
        arith,
        ap (λ (h : PlacedRows). length h.rows) c.in_ok-put_at.ensures,
        at_few c.loop-row.upsert (record { sequence = c.args.sequence; row = c.loop-row.number }) c.row-item.result,
        rows_left c.args.rows.now c.loop-row.row-index c.row-item.result within c.row-item.is,
      );
    }

pub returns : goal.returns
returns c =
    from_put c.args.sequence c.loop-row.number c.loop-row.upsert c.args.rows.now c.loop-row.row-index (omega (arith, c.loop-row-test.false)) ∙ c.loop-row.invariant.rest
