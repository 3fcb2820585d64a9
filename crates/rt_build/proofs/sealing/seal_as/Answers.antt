use Rattle.std.proofs.Common.{◌≡◌, ◌-◌, ◌<◌, ◌≤◌, true, All, length, map, take, filter, refl, sym, ap, subst, ◌∙◌, arith}
use Rattle.std.proofs.lemmas.Bool.{ltb-true}
use Rattle.std.proofs.lemmas.List.Sums.{count_by-le-length}
use Rattle.std.proofs.lemmas.List.Elements.{All-weaker, filter_passes}
use Rattle.rt_base.specs.declared.numbers.Offset.{Offset}
use Rattle.rt_mutable.specs.Column.{Shape}
use Rattle.rt_mutable.specs.Consuming.{Placed, IsBetween, is_before}
use Rattle.rt_build.specs.Sealing.{IsSealOf}
use Rattle.rt_build.proofs.Sealable.{length_sealed, shapes_sealed, names_sealed, columns_fit, rows_sealed, are_new, rows_between}
use Rattle.rt_build.proofs.sealing.seal_as.Goals as goal
use Rattle.rt_build.proofs.sealing.seal_as.Goals.{After-start}

within : (c : After-start) → c.rows_below-count.result ≤ length c.args.rows.now.rows
within c = omega (arith, c.rows_below-count.ensures.count, count_by-le-length (is_before c.args.end) c.args.rows.now.rows)

-- the rows that are sealed lie below the end
below : (c : After-start) → All (λ (p : Placed). p.offset.0 < c.args.end.0) (take c.rows_below-count.result c.args.rows.now.rows)
below c =
    subst (All (λ (p : Placed). p.offset.0 < c.args.end.0)) (sym c.rows_below-count.ensures.first)
    (All-weaker (λ (p : Placed). is_before c.args.end p ≡ true) (λ (p : Placed). p.offset.0 < c.args.end.0) (λ p h. ltb-true p.offset.0 c.args.end.0 h)
    (filter (is_before c.args.end) c.args.rows.now.rows) (filter_passes (is_before c.args.end) c.args.rows.now.rows))

room : (c : After-start) → c.rows_below-count.result ≤ c.args.end.0 - c.args.rows.now.start.0
room c =
    let right = c.rows_below-count.ensures.right in
    rows_between c.args.rows.now.start c.args.end c.args.rows.now.rows c.rows_below-count.result right.ascending
    (All-weaker (IsBetween c.args.rows.now.start c.args.rows.now.end) (λ (p : Placed). c.args.rows.now.start.0 ≤ p.offset.0) (λ p h. h.0) c.args.rows.now.rows right.between)
    (within c) (below c)

pub make-requires : goal.make-requires
make-requires c =
    let s = c.args.rows.now in
    let right = c.rows_below-count.ensures.right in
    let columns = c.in_ok-columns.columns in
    let sealed = c.in_ok-columns.ensures.columns in
    let count = length_sealed c.rows_below-count.result c.args.indexed.now s.rows 0 s.columns columns sealed in
    let start = ap (λ (o : Offset). o.0) c.start.ensures in
    record {
      format = c.requires.format;
      range = omega (arith, c.requires.past, start);
      rows = (omega (arith, room c, start), omega (arith, within c, right.limited));
      few = (omega (arith, count, right.few.0), omega (arith, count, right.few.1));
      columns = columns_fit c.rows_below-count.result c.args.indexed.now s.rows s.columns columns (within c) right.named c.in_ok-columns.ensures.short sealed;
      distinct = are_new columns (map (λ (shape : Shape). shape.name) s.columns) (names_sealed c.rows_below-count.result c.args.indexed.now s.rows 0 s.columns columns sealed) right.distinct;
    }

pub returns : goal.returns
returns c =
    let s = c.args.rows.now in
    let right = c.rows_below-count.ensures.right in
    let columns = c.in_ok-columns.columns in
    let sealed = c.in_ok-columns.ensures.columns in
    let at = (goal.at.returns c).After-start in
    subst (IsSealOf c.args.format c.args.partition c.args.sequence c.args.end c.args.indexed.now s) (sym c.make.ensures) (record {
      format = refl;
      partition = refl;
      sequence = refl;
      range = ap (λ (o : Offset). record { start = o; end = c.args.end }) c.start.ensures;
      columns = shapes_sealed c.rows_below-count.result c.args.indexed.now s.rows 0 s.columns columns sealed;
      rows = rows_sealed c.rows_below-count.result c.args.indexed.now s.rows s.columns columns (within at) right.fit sealed
          ∙ ap (map (λ (p : Placed). p.row)) c.rows_below-count.ensures.first;
    })
