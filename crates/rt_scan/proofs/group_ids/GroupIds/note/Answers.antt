use Rattle.std.proofs.Common.{[], ◌∷◌, ◌++◌, ap, subst, sym, ◌∙◌}
use Rattle.rt_scan.specs.GroupIds.{IsAbsent, Met}
use Rattle.rt_scan.proofs.Noted.{inserted, met_of}
use Rattle.rt_scan.proofs.group_ids.GroupIds.note.Goals as goal

pub returns : goal.returns
returns c =
    ap (λ es. met_of es c.self.inside.by_id)
    (c.in_ok-insert.ensures.entries
    ∙ inserted c.args.ids c.args.index c.self.inside.indices.entries (subst (λ (m : Met). IsAbsent m.by_ids c.args.ids) (sym c.self.view_is) c.requires))
    ∙ ap (λ (m : Met). met_of (m.by_ids ++ (c.args.ids, c.args.index) ∷ []) m.by_id) c.self.view_is
