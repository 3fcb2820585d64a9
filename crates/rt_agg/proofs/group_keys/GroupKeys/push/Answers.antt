use Rattle.std.proofs.Common.{◌≡◌, List, false, subst, sym}
use Rattle.std.specs.List.{list_any}
use Rattle.rt_schema.specs.declared.value.Value.{Value}
use Rattle.rt_agg.specs.Grouped.{same_key}
use Rattle.rt_agg.specs.GroupKeys.{keys_in}
use Rattle.rt_agg.proofs.Apart.{pushed_apart}
use Rattle.rt_agg.proofs.group_keys.GroupKeys.push.Goals as goal

pub invariant_of-self : goal.invariant_of-self
invariant_of-self c =
    pushed_apart c.push.result (keys_in c.self.inside.kept) (keys_in c.push.new.self) c.args.key c.self.invariant
    (subst (λ (ks : List (List Value)). list_any (same_key c.args.key) ks ≡ false) (sym c.self.view_is) c.requires) c.push.ensures.ok c.push.ensures.err

pub returns-clause-apart : goal.returns-clause-apart
returns-clause-apart c =
    pushed_apart c.push.result (keys_in c.self.inside.kept) (keys_in c.push.new.self) c.args.key c.self.invariant
    (subst (λ (ks : List (List Value)). list_any (same_key c.args.key) ks ≡ false) (sym c.self.view_is) c.requires) c.push.ensures.ok c.push.ensures.err
