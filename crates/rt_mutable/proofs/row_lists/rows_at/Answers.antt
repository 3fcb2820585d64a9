use Rattle.std.proofs.Common.{[], sym, ap, ◌∙◌}
use Rattle.std.specs.Option.{unwrap_or}
use Rattle.std.proofs.lemmas.Option.{unwrap_or-slice_get}
use Rattle.rt_mutable.proofs.row_lists.rows_at.Goals as goal

pub returns-in-None-get : goal.returns-in-None-get
returns-in-None-get c = rw c.in-Some.is
    (sym (ap (λ o. unwrap_or o []) c.in-None-get.ensures.none) ∙ unwrap_or-slice_get c.args.lists.now c.in-Some.id [])
