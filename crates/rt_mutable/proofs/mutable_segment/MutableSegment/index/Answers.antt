use Rattle.std.proofs.Common.{◌≡◌, ◌<◌, ◌∷◌, [], ◌++◌, List, All, Option, Some, IfSome, length, map, take, drop, option_copied, sym, ap, ◌∙◌, subst, arith}
use Rattle.rt_base.specs.declared.numbers.Offset.{Offset}
use Rattle.rt_schema.specs.declared.row.Row.{Row}
use Rattle.rt_mutable.specs.Column.{Shape, Filled}
use Rattle.rt_mutable.specs.Columns.{HoldRows, segment_of, with_values}
use Rattle.rt_mutable.specs.Consuming.{FitsColumns, IsShort, after_message}
use Rattle.rt_mutable.proofs.Rows.{have_room, length_with, length_rows}
use Rattle.rt_mutable.proofs.Held.{kinds_of, back_whole, hold_row, segment_row}
use Rattle.rt_mutable.proofs.mutable_segment.MutableSegment.index.Goals as goal
use Rattle.rt_mutable.proofs.mutable_segment.MutableSegment.index.Goals.{After-as_slice, After-push_reserved as After-push, In_ok-index_values as After-index_values}
use Rattle.std.proofs.Common.{Bor}

transported : (start : Offset) (end end' : Offset) (offsets offsets' : List Offset) (columns columns' : List Filled) → end ≡ end' → offsets ≡ offsets' → columns ≡ columns' → HoldRows start end offsets columns → HoldRows start end' offsets' columns'
transported start end end' offsets offsets' columns columns' e f g h =
    subst (λ cs. HoldRows start end' offsets' cs) g (subst (λ os. HoldRows start end' os columns) f (subst (λ o. HoldRows start o offsets columns) e h))

fits : (c : After-as_slice) → FitsColumns (map (λ column. column.shape) c.self.inside.columns) c.in-Some.row.now
fits c =
    let given = subst (λ (r : Option (Bor Row)). IfSome r (λ row. FitsColumns c.args.self.now.columns row.now)) c.in-Some.is c.requires.fits in
    given ∙ ap (λ s. map (λ (shape : Shape). shape.kind) s.columns) (sym c.self.view_is)

room : (c : After-as_slice) → length c.self.inside.offsets.items < 1000000
room c = omega (arith, c.requires.rows, ap (λ s. length s.rows) c.self.view_is, length_rows 0 c.self.inside.columns c.self.inside.offsets.items)

pub index_values-requires-clause-kinds : goal.index_values-requires-clause-kinds
index_values-requires-clause-kinds c =
    rw (c.as_slice.ensures, c.as_mut_slice.ensures.value) (fits c ∙ kinds_of c.self.inside.columns)

pub index_values-requires-clause-room : goal.index_values-requires-clause-room
index_values-requires-clause-room c =
    subst (λ (cs : List Filled). All (λ column. length column.values < 1000000) cs) (sym c.as_mut_slice.ensures.value)
    (have_room (length c.self.inside.offsets.items) 1000000 c.self.inside.columns c.self.invariant.full (room c))

short : (c : After-as_slice) → All IsShort c.in-Some.row.now.values
short c = subst (λ (r : Option (Bor Row)). IfSome r (λ row. All IsShort row.now.values)) c.in-Some.is c.requires.short

columns_are : (c : After-index_values) → take (length c.self.inside.columns) (c.index_values.new.columns ++ drop (length c.index_values.new.columns) c.self.inside.columns) ≡ with_values c.self.inside.columns c.in-Some.row.now.values
columns_are c =
    let given : c.index_values.new.columns ≡ with_values c.self.inside.columns c.in-Some.row.now.values =
    c.in_ok-index_values.ensures.ok ∙ (λ j. with_values (c.as_mut_slice.ensures.value j) (c.as_slice.ensures j)) in
    back_whole c.self.inside.columns c.index_values.new.columns (ap length given ∙ length_with c.self.inside.columns c.in-Some.row.now.values) ∙ given

offsets_are : (c : After-push) → c.push_reserved.new.self.items ≡ c.self.inside.offsets.items ++ c.self.inside.end ∷ []
offsets_are c = c.push_reserved.ensures.items ∙ ap (λ os. os ++ c.self.inside.end ∷ []) c.in_ok-reserve_row.ensures.items

pub invariant_of-self-2 : goal.invariant_of-self-2
invariant_of-self-2 c =
    let at = goal.at.invariant_of-self-2 c in
    let held = hold_row c.self.inside.start c.self.inside.end c.self.inside.offsets.items c.self.inside.columns c.in-Some.row.now c.self.invariant
    (room at.After-as_slice) (fits at.After-as_slice) (short at.After-as_slice) in
    transported c.self.inside.start _ _ _ _ _ _ (sym c.after-self-inside-2.ensures) (sym (offsets_are at.After-push_reserved)) (sym (columns_are at.In_ok-index_values)) held

pub returns-clause-ok : goal.returns-clause-ok
returns-clause-ok c =
    let at = goal.at.returns-clause-ok c in
    (λ j. segment_of c.self.inside.start (c.after-self-inside-2.ensures j) (offsets_are at.After-push_reserved j) (columns_are at.In_ok-index_values j))
    ∙ segment_row c.self.inside.start c.self.inside.end c.self.inside.offsets.items c.self.inside.columns c.in-Some.row.now c.self.invariant.full (fits at.After-as_slice)
    ∙ ap (λ s. after_message s (Some c.in-Some.row.now)) c.self.view_is
    ∙ ap (λ (r : Option (Bor Row)). after_message c.args.self.now (option_copied r)) (sym c.in-Some.is)
