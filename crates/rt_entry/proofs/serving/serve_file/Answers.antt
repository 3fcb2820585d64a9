use Rattle.std.proofs.Common.{◌∙◌, ap, refl, sym}
use Rattle.rt_entry.specs.Serving.{file_range}
use Rattle.rt_entry.proofs.Served.{groups_of_file}
use Rattle.rt_entry.proofs.serving.serve_file.Goals as goal

pub returns : goal.returns
returns c =
    groups_of_file c.args.query.now c.args.piece c.args.file.now _ _ (ap (file_range c.args.piece) (sym c.file-sealed.ensures) ∙ sym (c.in_ok-range.ensures {u = tt}))
    refl (c.in_ok-groups.ensures {u = tt})
