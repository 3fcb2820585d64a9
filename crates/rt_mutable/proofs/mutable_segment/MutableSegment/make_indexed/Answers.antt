use Rattle.std.proofs.Common.{[], List, map, sym, ap, ◌∙◌, subst}
use Rattle.rt_base.specs.declared.numbers.Offset.{Offset}
use Rattle.rt_mutable.specs.Column.{Filled}
use Rattle.rt_mutable.specs.Columns.{HoldRows, segment_of, empty_column}
use Rattle.rt_mutable.proofs.Made.{empty_is, empty_held}
use Rattle.rt_mutable.proofs.mutable_segment.MutableSegment.make_indexed.Goals as goal

pub invariant_of-result : goal.invariant_of-result
invariant_of-result c =
    let columns = c.in_ok-columns.ensures ∙ ap (map (empty_column c.args.indexed.now)) c.as_slice.ensures in
    subst (λ (os : List Offset). HoldRows c.args.start c.args.start os c.in_ok-columns.columns) (sym c.new.ensures.items)
    (subst (λ (cs : List Filled). HoldRows c.args.start c.args.start [] cs) (sym columns) (empty_held c.args.schema.now c.args.start c.args.indexed.now c.requires.schema))

pub returns : goal.returns
returns c =
    let columns = c.in_ok-columns.ensures ∙ ap (map (empty_column c.args.indexed.now)) c.as_slice.ensures in
    (λ j. segment_of c.args.start c.args.start (c.new.ensures.items j) (columns j)) ∙ empty_is c.args.schema.now.columns c.args.start c.args.indexed.now
