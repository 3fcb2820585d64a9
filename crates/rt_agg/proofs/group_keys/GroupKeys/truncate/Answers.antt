use Rattle.std.proofs.Common.{subst, sym}
use Rattle.std.specs.List.{IsDistinct}
use Rattle.rt_agg.specs.Grouped.{same_key}
use Rattle.rt_agg.specs.GroupKeys.{keys_in}
use Rattle.rt_agg.proofs.Apart.{first_apart}
use Rattle.rt_agg.proofs.group_keys.GroupKeys.truncate.Goals as goal

pub invariant_of-self : goal.invariant_of-self
invariant_of-self c = subst (IsDistinct same_key) (sym c.truncate.ensures) (first_apart c.args.count (keys_in c.self.inside.kept) c.self.invariant)

pub returns-clause-apart : goal.returns-clause-apart
returns-clause-apart c = subst (IsDistinct same_key) (sym c.truncate.ensures) (first_apart c.args.count (keys_in c.self.inside.kept) c.self.invariant)
