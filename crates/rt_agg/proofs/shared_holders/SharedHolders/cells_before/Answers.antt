use Rattle.std.proofs.Common.{◌≡◌, ◌∙◌, List, ap, subst, take}
use Rattle.std.specs.Prelude.{IfOk}
use Rattle.rt_model.specs.declared.answer.Cell.{Cell}
use Rattle.rt_agg.specs.Sharing.{cells_at}
use Rattle.rt_agg.proofs.Spreading.{cells_before}
use Rattle.rt_agg.proofs.shared_holders.SharedHolders.cells_before.Goals as goal

pub returns : goal.returns
returns c =
    let all = c.self.inside in
    let columns = c.args.columns.now in
    let key = c.args.group.now.key.now in
    let number = c.args.group.now.number in
    let now = c.before-places.result.now in
    subst (λ (cs : List Cell). IfOk c.cells_of.result (λ cells. cells ≡ cs))
    ((λ j. cells_at columns key number (c.as_slice-held.ensures j) now)
    ∙ cells_before columns key number all.held c.args.width all.places now c.args.self.now (c.before-places.ensures ∙ ap (take c.args.width) c.as_slice.ensures) c.self.view_is)
    c.cells_of.ensures
