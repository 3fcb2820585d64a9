use Rattle.std.proofs.Common.{◌∷◌, [], ◌∙◌, append_assoc}
use Rattle.rt_names.proofs.Cuts.{cut_is_last}
use Rattle.rt_names.proofs.pieces.cut_last.Goals as goal

pub returns-clause-last : goal.returns-clause-last
returns-clause-last c front piece none is = cut_is_last c.args.text.now front piece none (is ∙ append_assoc front (95 ∷ 95 ∷ []) piece) c.rsplit_once.result c.rsplit_once.ensures.cases
