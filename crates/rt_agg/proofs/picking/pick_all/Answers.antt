use Rattle.std.proofs.Common.{◌≡◌, ◌+◌, ◌∙◌, ◌∷◌, [], ap, arith, map, subst, sym}
use Rattle.std.specs.Prelude.{IfErr}
use Rattle.std.specs.List.{AllByRecursion}
use Rattle.std.proofs.lemmas.Result.{err_from_is_err_and}
use Rattle.rt_agg.specs.Picking.{IsAmong, IsPicked}
use Rattle.rt_agg.specs.ResultHolder.{item_of}
use Rattle.rt_agg.specs.Sharing.{AreHeld, spread}
use Rattle.rt_agg.specs.declared.pick_refused.PickRefused.TheVariants.{Untold}
use Rattle.rt_agg.proofs.Appends.{both_fit}
use Rattle.rt_agg.proofs.Spreading.{held_more, items_more}
use Rattle.rt_agg.proofs.Untold.{one_untold}
use Rattle.rt_agg.proofs.picking.pick_all.Goals as goal

pub loop-i-preserved : goal.loop-i-preserved
loop-i-preserved c =
    let held = c.loop-i.held in
    let more = c.in_ok-pick_one.field-0 in
    let picked = IsPicked (spread c.args.others_places.now c.args.others.now) c.args.marks.now in
    record {
      held = subst (AreHeld c.args.items.now c.args.places.now (c.loop-i.i + 1)) (sym (ap (map item_of) c.in_ok-push.ensures.ok ∙ items_more held more))
          (held_more c.args.items.now c.args.places.now c.loop-i.i (map item_of held) (item_of more) c.loop-i.invariant.held c.in_ok-pick_one.ensures.held);
      picked = subst (AllByRecursion picked) (sym c.in_ok-push.ensures.ok) (both_fit picked held (more ∷ []) c.loop-i.invariant.picked (c.in_ok-pick_one.ensures.picked, tt));
    }

pub returns-in_err-pick_one-clause-untold : goal.returns-in_err-pick_one-clause-untold
returns-in_err-pick_one-clause-untold c =
    let others = map item_of (spread c.args.others_places.now c.args.others.now) in
    let refused = err_from_is_err_and c.from_residual.result c.from_residual.ensures.1 in
    subst (λ r. IfErr r (λ e. e ≡ Untold → AllByRecursion (IsAmong others) c.args.items.now → ⊥)) (sym refused.1)
    (λ is. one_untold others c.args.items.now c.loop-i.i c.loop-i-test.true (c.in_err-pick_one.ensures.untold (sym refused.2 ∙ is)))
