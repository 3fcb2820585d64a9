use Rattle.std.proofs.Common.{◌∙◌}
use Rattle.rt_agg.proofs.Tables.{keys_last}
use Rattle.rt_agg.proofs.group_keys.push_indexed.Goals as goal

pub returns-clause-ok : goal.returns-clause-ok
returns-clause-ok c = c.in_ok-insert.ensures.keys ∙ keys_last c.args.keys.now.keys c.args.key c.requires
