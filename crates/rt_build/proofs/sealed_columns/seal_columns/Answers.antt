use Rattle.std.proofs.Common.{◌≡◌, ◌+◌, Bool, List, All, take, sym, ap, subst, ◌∙◌, arith}
use Rattle.std.proofs.lemmas.List.{take_all}
use Rattle.std.proofs.lemmas.List.Elements.{All-push}
use Rattle.rt_schema.specs.Schema.{is_among}
use Rattle.rt_mutable.specs.Column.{Filled}
use Rattle.rt_mutable.specs.Consuming.{IsShort, values_at}
use Rattle.rt_segment.specs.Column.{SealedColumn, AreShort}
use Rattle.rt_build.specs.Sealing.{AreColumnsSealed, IsColumnSealed, filled_of}
use Rattle.rt_build.proofs.Sealable.{short_column, filled_at, length_filled, sealed_more}
use Rattle.rt_build.proofs.sealed_columns.seal_columns.Goals as goal

pub seal_column-requires-clause-short : goal.seal_column-requires-clause-short
seal_column-requires-clause-short c =
    subst (All IsShort) (sym c.column-column.ensures.values) (short_column c.args.segment.now c.loop-place.place c.column_count-count.ensures.right)

pub loop-place-preserved : goal.loop-place-preserved
loop-place-preserved c =
    let column = c.column-column.result.now in
    let sealed = c.in_ok-seal_column.field-0 in
    let place : 0 + c.loop-place.place ≡ c.loop-place.place = omega arith in
    let flag = c.is_among-is_indexed.ensures ∙ ap (λ name. is_among name c.args.indexed.now) c.name.ensures in
    record {
      sealed = subst (AreColumnsSealed c.args.rows c.args.indexed.now (take (c.loop-place.place + 1) (filled_of c.args.segment.now))) (sym c.in_ok-push.ensures.items)
          (sealed_more c.args.rows c.args.indexed.now (filled_of c.args.segment.now) c.loop-place.place c.loop-place.columns.items column sealed
          c.loop-place.invariant.sealed
          (filled_at 0 c.args.segment.now.rows c.args.segment.now.columns c.loop-place.place column c.column-column.ensures.shape (c.column-column.ensures.values ∙ ap (λ p. values_at p c.args.segment.now.rows) (sym place)))
          (subst (λ (b : Bool). IsColumnSealed c.args.rows b column sealed) flag c.in_ok-seal_column.ensures.sealed));
      short = subst (All (λ (s : SealedColumn). AreShort s.dictionary)) (sym c.in_ok-push.ensures.items)
          (All-push (λ (s : SealedColumn). AreShort s.dictionary) c.loop-place.columns.items sealed c.loop-place.invariant.short c.in_ok-seal_column.ensures.short);
    }

pub returns-clause-columns : goal.returns-clause-columns
returns-clause-columns c =
    let whole : take c.loop-place.place (filled_of c.args.segment.now) ≡ filled_of c.args.segment.now =
    take_all c.loop-place.place (filled_of c.args.segment.now) (omega (arith, length_filled 0 c.args.segment.now.rows c.args.segment.now.columns, c.column_count-count.ensures.count)) in
    subst (AreColumnsSealed c.args.rows c.args.indexed.now (filled_of c.args.segment.now)) (sym c.of.ensures)
    (subst (λ (fs : List Filled). AreColumnsSealed c.args.rows c.args.indexed.now fs c.loop-place.columns.items) whole c.loop-place.invariant.sealed)
