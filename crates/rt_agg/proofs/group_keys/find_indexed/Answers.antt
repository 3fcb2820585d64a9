use Rattle.std.proofs.Common.{◌∙◌, Some, ap, sym}
use Rattle.rt_agg.proofs.Tables.{any_same, found_same}
use Rattle.rt_agg.proofs.group_keys.find_indexed.Goals as goal

pub returns-in-Some-clause-some : goal.returns-in-Some-clause-some
returns-in-Some-clause-some c =
    c.in-Some.ensures.stored ∙ ap Some (found_same c.args.key.now c.args.keys.now.keys c.in-Some._key.now (sym c.in-Some.ensures.key))

pub returns-in-None-clause-none : goal.returns-in-None-clause-none
returns-in-None-clause-none c = sym (any_same c.args.key.now c.args.keys.now.keys) ∙ sym c.in-None.ensures.found
