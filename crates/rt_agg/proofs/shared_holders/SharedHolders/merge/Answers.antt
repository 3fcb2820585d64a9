use Rattle.std.proofs.Common.{◌∙◌, map, subst, sym, ap}
use Rattle.std.specs.List.{AllByRecursion}
use Rattle.rt_agg.specs.GroupTable.{all_merged_in}
use Rattle.rt_agg.specs.ResultHolder.{HasStarted, item_of}
use Rattle.rt_agg.specs.Sharing.{IsShared, items_at, spread}
use Rattle.rt_agg.proofs.Holders.{merges_items, merges_started}
use Rattle.rt_agg.proofs.Spreading.{items_shown, same_places, spread_merged}
use Rattle.rt_agg.proofs.shared_holders.SharedHolders.merge.Goals as goal

pub invariant_of-self : goal.invariant_of-self
invariant_of-self c =
    let all = c.self.inside in
    subst (IsShared all.places) (sym (ap (map item_of) c.merge_all.ensures ∙ merges_items c.args.group c.args.from all.held c.others.inside.held)) c.self.invariant

pub returns-clause-merged : goal.returns-clause-merged
returns-clause-merged c alike =
    let all = c.self.inside in
    let others = c.others.inside in
    let step = all_merged_in c.args.group c.args.from in
    let places = same_places all.places others.places all.held others.held c.self.invariant c.others.invariant
    (ap (map item_of) c.self.view_is ∙ alike ∙ sym (ap (map item_of) c.others.view_is)) in
    ap (spread all.places) c.merge_all.ensures ∙ spread_merged c.args.group c.args.from all.places all.held others.held
    ∙ (λ j. step (spread all.places all.held) (spread (places j) others.held)) ∙ (λ j. step (c.self.view_is j) (c.others.view_is j))

pub returns-clause-items : goal.returns-clause-items
returns-clause-items c =
    let all = c.self.inside in
    items_shown all.places c.merge_all.new.holders
    ∙ ap (items_at all.places) (ap (map item_of) c.merge_all.ensures ∙ merges_items c.args.group c.args.from all.held c.others.inside.held)
    ∙ sym (items_shown all.places all.held) ∙ ap (map item_of) c.self.view_is

pub returns-clause-started : goal.returns-clause-started
returns-clause-started c count s =
    let all = c.self.inside in
    let others = c.others.inside in
    subst (AllByRecursion (HasStarted count)) (sym (ap (spread all.places) c.merge_all.ensures ∙ spread_merged c.args.group c.args.from all.places all.held others.held))
    (merges_started c.args.group c.args.from count (spread all.places all.held) (spread all.places others.held) (subst (AllByRecursion (HasStarted count)) (sym c.self.view_is) s))
