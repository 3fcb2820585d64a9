use Rattle.std.proofs.Common.{◌∙◌, ap, sym}
use Rattle.std.specs.Ordering.{is_eq}
use Rattle.rt_agg.proofs.Tables.{eq_same}
use Rattle.rt_agg.proofs.group_key.GroupKeyPartialEq.eq.Goals as goal

pub returns-in_default : goal.returns-in_default
returns-in_default c = c.is_eq.ensures ∙ ap is_eq c.compare.ensures ∙ sym (eq_same c.args.self.now c.args.other.now)
