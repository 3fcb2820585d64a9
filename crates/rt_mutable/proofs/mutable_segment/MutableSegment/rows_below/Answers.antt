use Rattle.std.proofs.Common.{◌<◌, ◌∙◌, List, AllPairs, length, take, filter, count_by, sym, ap, subst, arith}
use Rattle.rt_base.specs.declared.numbers.Offset.{Offset}
use Rattle.rt_mutable.specs.Columns.{rows_from}
use Rattle.rt_mutable.specs.Consuming.{is_before}
use Rattle.rt_mutable.proofs.Rows.{length_rows, offsets_of}
use Rattle.rt_mutable.proofs.Below.{first_rows, count_rows, offsets_ascend}
use Rattle.rt_mutable.proofs.mutable_segment.MutableSegment.rows_below.Goals as goal

pub count_below-requires : goal.count_below-requires
count_below-requires c =
    subst (λ (os : List Offset). AllPairs (λ a b. a.0 < b.0) os) (sym c.deref.ensures.value)
    (offsets_ascend (rows_from 0 c.self.inside.columns c.self.inside.offsets.items) c.self.inside.offsets.items (offsets_of 0 c.self.inside.columns c.self.inside.offsets.items) c.self.invariant.right.ascending)

pub overflow_cast-result : goal.overflow_cast-result
overflow_cast-result c =
    omega (arith, c.count_below.ensures.within, ap length c.deref.ensures.value, length_rows 0 c.self.inside.columns c.self.inside.offsets.items, c.self.invariant.right.limited)

pub returns-clause-count : goal.returns-clause-count
returns-clause-count c =
    count_rows (rows_from 0 c.self.inside.columns c.self.inside.offsets.items) c.deref.result.now (offsets_of 0 c.self.inside.columns c.self.inside.offsets.items ∙ sym c.deref.ensures.value) c.args.offset c.count_below.result c.count_below.ensures.within c.count_below.ensures.split
    ∙ ap (λ s. count_by (is_before c.args.offset) s.rows) c.self.view_is

pub returns-clause-first : goal.returns-clause-first
returns-clause-first c =
    ap (λ s. take c.count_below.result s.rows) (sym c.self.view_is)
    ∙ sym (first_rows (rows_from 0 c.self.inside.columns c.self.inside.offsets.items) c.deref.result.now (offsets_of 0 c.self.inside.columns c.self.inside.offsets.items ∙ sym c.deref.ensures.value) c.args.offset c.count_below.result c.count_below.ensures.within c.count_below.ensures.split)
    ∙ ap (λ s. filter (is_before c.args.offset) s.rows) c.self.view_is
