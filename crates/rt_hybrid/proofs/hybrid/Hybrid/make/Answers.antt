use Rattle.std.proofs.Common.{◌≡◌, ◌∙◌, [], List, None, Some, ap, subst, sym}
use Rattle.rt_schema.specs.declared.schema.Schema.{Schema}
use Rattle.rt_segment.specs.Segment.{SealedSegment}
use Rattle.rt_hybrid.specs.Pushes.{IsOffline}
use Rattle.rt_hybrid.specs.Table.{place_of}
use Rattle.rt_hybrid.proofs.Starting.{start_is}
use Rattle.rt_hybrid.proofs.hybrid.Hybrid.make.Goals as goal

pub invariant_of-result : goal.invariant_of-result
invariant_of-result c =
    let place : place_of c.args.time.now c.args.schema.now.columns ≡ Some c.in-Some.place = ap (place_of c.args.time.now) (sym c.as_slice.ensures) ∙ sym c.place_of.ensures ∙ c.in-Some.is in
    subst (λ (fs : List SealedSegment). IsOffline (record { schema = c.in_ok-copied.field-0; time = c.in-Some.place; files = fs }) None) (sym c.new.ensures)
    (subst (λ (s : Schema). IsOffline (record { schema = s; time = c.in-Some.place; files = [] }) None) (sym (c.in_ok-copied.ensures {u = tt}))
    (start_is c.args.schema.now c.args.time.now c.in-Some.place c.requires place))
