use Rattle.std.proofs.Common.{◌≡◌, ◌≤◌, ◌<◌, ◌++◌, ◌∙◌, List, AllPairs, length, map, take, drop, filter, sym, ap, subst, arith}
use Rattle.std.proofs.lemmas.List.{length-map}
use Rattle.std.specs.List.Sorted.{IsPartitionPoint}
use Rattle.std.specs.Prelude.{nat_lt, true, false}
use Rattle.rt_base.specs.declared.numbers.Offset.{Offset}
use Rattle.rt_mutable.specs.Column.{Filled}
use Rattle.rt_mutable.specs.Columns.{HoldRows, rows_from, segment_of, cut}
use Rattle.rt_mutable.specs.Consuming.{Consuming, is_before}
use Rattle.rt_mutable.proofs.Rows.{offsets_of}
use Rattle.rt_mutable.proofs.Below.{offsets_ascend}
use Rattle.rt_mutable.proofs.Held.{back_whole}
use Rattle.rt_mutable.proofs.Cut.{segment_cut, hold_cut}
use Rattle.rt_mutable.proofs.mutable_segment.MutableSegment.take_back.Goals as goal
use Rattle.rt_mutable.proofs.mutable_segment.MutableSegment.take_back.Goals.{After-truncate}

pub count_below-count-requires : goal.count_below-count-requires
count_below-count-requires c =
    subst (λ (os : List Offset). AllPairs (λ a b. a.0 < b.0) os) (sym c.deref.ensures.value)
    (offsets_ascend (rows_from 0 c.self.inside.columns c.self.inside.offsets.items) c.self.inside.offsets.items (offsets_of 0 c.self.inside.columns c.self.inside.offsets.items) c.self.invariant.right.ascending)

columns_are : (c : After-truncate) → take (length c.self.inside.columns) (c.truncate_all.new.columns ++ drop (length c.truncate_all.new.columns) c.self.inside.columns) ≡ map (cut c.count_below-count.result) c.self.inside.columns
columns_are c =
    let given : c.truncate_all.new.columns ≡ map (cut c.count_below-count.result) c.self.inside.columns =
    c.truncate_all.ensures ∙ ap (map (cut c.count_below-count.result)) c.as_mut_slice.ensures.value in
    back_whole c.self.inside.columns c.truncate_all.new.columns (ap length given ∙ length-map c.self.inside.columns (cut c.count_below-count.result)) ∙ given

within : (c : After-truncate) → c.count_below-count.result ≤ length c.self.inside.offsets.items
within c = omega (arith, c.count_below-count.ensures.within, ap length c.deref.ensures.value)

split : (c : After-truncate) → IsPartitionPoint (λ held. nat_lt held.0 c.args.end.0 ≡ true) (λ held. nat_lt held.0 c.args.end.0 ≡ false) c.self.inside.offsets.items c.count_below-count.result
split c = subst (λ (os : List Offset). IsPartitionPoint (λ held. nat_lt held.0 c.args.end.0 ≡ true) (λ held. nat_lt held.0 c.args.end.0 ≡ false) os c.count_below-count.result) c.deref.ensures.value c.count_below-count.ensures.split

pub invariant_of-self : goal.invariant_of-self
invariant_of-self c =
    let at = goal.at.invariant_of-self c in
    let n = c.count_below-count.result in
    let held = hold_cut c.self.inside.start c.self.inside.end c.self.inside.offsets.items c.self.inside.columns n c.args.end c.self.invariant (within at.After-truncate) (split at.After-truncate)
    (omega (arith, c.requires.after, ap (λ s. s.start.0) c.self.view_is)) in
    subst (λ (cs : List Filled). HoldRows c.self.inside.start c.args.end c.truncate.new.self.items cs) (sym (columns_are at.After-truncate))
    (subst (λ (os : List Offset). HoldRows c.self.inside.start c.args.end os (map (cut n) c.self.inside.columns)) (sym c.truncate.ensures.items) held)

pub returns : goal.returns
returns c =
    let at = goal.at.returns c in
    let n = c.count_below-count.result in
    (λ j. segment_of c.self.inside.start c.args.end (c.truncate.ensures.items j) (columns_are at.After-truncate j))
    ∙ segment_cut c.self.inside.start c.self.inside.end c.self.inside.offsets.items c.self.inside.columns n c.args.end c.self.invariant (within at.After-truncate) (split at.After-truncate)
    ∙ ap {A = Consuming} {B = Consuming} (λ s. record s { rows = filter (is_before c.args.end) s.rows; end = c.args.end }) c.self.view_is
