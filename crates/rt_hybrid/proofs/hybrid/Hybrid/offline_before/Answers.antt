use Rattle.std.proofs.Common.{◌≡◌, ◌∙◌, All, ap, subst, sym}
use Rattle.std.specs.Int.{w64}
use Rattle.std.proofs.lemmas.Int.{to_z-of_z}
use Rattle.rt_model.specs.Aggregate.{taken}
use Rattle.rt_model.specs.Checked.{IsQuery}
use Rattle.rt_model.specs.declared.query.Query.{Query}
use Rattle.rt_agg.specs.Grouped.{Holds}
use Rattle.rt_hybrid.specs.Pushes.{IsPushed}
use Rattle.rt_hybrid.specs.Table.{OfflineTable, offline_rows}
use Rattle.rt_hybrid.specs.Timed.{timed}
use Rattle.rt_hybrid.proofs.Offline.{asks, holds_side}
use Rattle.rt_hybrid.proofs.hybrid.Hybrid.offline_before.Goals as goal
use Rattle.rt_hybrid.proofs.hybrid.Hybrid.offline_before.Goals.{In_ok-asked}

-- what was asked, with the boundary itself
asked_is : (c : In_ok-asked) → c.in_ok-asked.asked ≡ timed c.args.query.now c.in_ok-time_at.field-0 c.args.boundary
asked_is c = c.in_ok-asked.ensures {u = tt} ∙ ap (timed c.args.query.now c.in_ok-time_at.field-0) (to_z-of_z w64 c.args.boundary c.ranges.boundary)

pub scanned-requires : goal.scanned-requires
scanned-requires c =
    let at = (goal.at.scanned-requires c).In_ok-asked in
    subst (IsQuery c.args.self.now.schema) (sym (asked_is at))
    (asks c.args.self.now c.args.query.now c.in_ok-time_at.field-0 c.args.boundary (c.in_ok-time_at.ensures {u = tt}) c.requires.query)

pub returns-clause-groups : goal.returns-clause-groups
returns-clause-groups c =
    let at = (goal.at.returns-clause-groups c).In_ok-asked in
    holds_side c.args.self.now c.args.query.now c.in_ok-time_at.field-0 c.args.boundary c.in_ok-groups.groups
    (subst (λ (t : OfflineTable). All (IsPushed t.schema) t.files) c.self.view_is c.self.invariant.pushed) (c.in_ok-time_at.ensures {u = tt}) c.requires.boundary
    (subst (λ (q : Query). Holds q (taken q (offline_rows c.args.self.now)) c.in_ok-groups.groups) (asked_is at) c.in_ok-groups.ensures.groups)
