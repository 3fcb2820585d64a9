use Rattle.std.proofs.Common.{◌∙◌, ◌+◌, ◌<◌, ap, arith, drop, length}
use Rattle.rt_upsert.specs.Placed.{PlacedRows}
use Rattle.rt_views.specs.Placing.{put_all}
use Rattle.rt_views.specs.Views.{rows_if}
use Rattle.rt_views.proofs.PutRows.{all_put, all_step, found_left, from_few, from_kinds}
use Rattle.rt_views.proofs.latest_view.put_all.Goals as goal

pub put_piece-requires-clause-kinds : goal.put_piece-requires-clause-kinds
put_piece-requires-clause-kinds c = c.loop-piece.invariant.kinds ∙ c.requires.kinds

pub put_piece-requires-clause-few : goal.put_piece-requires-clause-few
put_piece-requires-clause-few c = omega (arith, found_left c.args.schema.now c.args.found.now c.loop-piece.piece-index c.piece-item.result (omega arith) c.piece-item.is)

pub loop-piece-preserved : goal.loop-piece-preserved
loop-piece-preserved c =
    let within : c.loop-piece.piece-index < length c.args.found.now = omega arith in
    let rows = rows_if c.args.schema.now c.piece-item.result.rows in
    record {
      rest =
          ap (λ (h : PlacedRows). put_all c.args.schema.now h (drop (c.loop-piece.piece-index + 1) c.args.found.now)) c.in_ok-put_piece.ensures
          ∙ all_step c.args.schema.now c.loop-piece.upsert c.args.found.now c.loop-piece.piece-index c.piece-item.result within c.piece-item.is
          ∙ c.loop-piece.invariant.rest;
      kinds = ap (λ (h : PlacedRows). h.kinds) c.in_ok-put_piece.ensures ∙ from_kinds c.piece-item.result.piece.sequence 0 c.loop-piece.upsert rows ∙ c.loop-piece.invariant.kinds;
      few = omega (
        arith,
        ap (λ (h : PlacedRows). length h.rows) c.in_ok-put_piece.ensures,
        from_few c.piece-item.result.piece.sequence 0 c.loop-piece.upsert rows,
        found_left c.args.schema.now c.args.found.now c.loop-piece.piece-index c.piece-item.result within c.piece-item.is,
      );
    }

pub returns : goal.returns
returns c =
    all_put c.args.schema.now c.loop-piece.upsert c.args.found.now c.loop-piece.piece-index (omega (arith, c.loop-piece-test.false)) ∙ c.loop-piece.invariant.rest
