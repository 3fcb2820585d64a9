use Rattle.std.proofs.Common.{◌∙◌, sym}
use Rattle.rt_live.proofs.Sames.{all_same}
use Rattle.rt_live.proofs.telling.are_same.Goals as goal

pub returns : goal.returns
returns c = λ is. all_same c.args.ends.now c.args.lengths.now (sym c.eq.ensures ∙ is)
