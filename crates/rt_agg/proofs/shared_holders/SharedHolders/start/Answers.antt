use Rattle.std.proofs.Common.{◌≡◌, ◌∙◌, map, refl, subst, sym, ap}
use Rattle.std.specs.List.{AllByRecursion}
use Rattle.rt_agg.specs.GroupTable.{StartsSome}
use Rattle.rt_agg.specs.ResultHolder.{HasStarted, started_in}
use Rattle.rt_agg.specs.Sharing.{IsShared, spread}
use Rattle.rt_agg.proofs.Apart.{on_ok_weaker}
use Rattle.rt_agg.proofs.Holders.{some_front, some_items}
use Rattle.rt_agg.proofs.Spreading.{held_started, spread_map, spread_some}
use Rattle.rt_agg.proofs.shared_holders.SharedHolders.start.Goals as goal

pub start_all-requires : goal.start_all-requires
start_all-requires c =
    let all = c.self.inside in
    held_started c.args.group all.places all.held c.self.invariant (subst (AllByRecursion (HasStarted c.args.group)) (sym c.self.view_is) c.requires)

pub invariant_of-self : goal.invariant_of-self
invariant_of-self c =
    let all = c.self.inside in
    let now = c.start_all.new.holders in
    subst (IsShared all.places) (sym (some_items c.args.group all.held now (some_front c.args.group all.held now c.start_all.ensures.some))) c.self.invariant

pub returns-clause-started : goal.returns-clause-started
returns-clause-started c =
    let all = c.self.inside in
    let step = started_in c.args.group in
    on_ok_weaker _ (c.start_all.new.holders ≡ map step all.held) (spread all.places c.start_all.new.holders ≡ map step c.args.self.now)
    (λ done. ap (spread all.places) done ∙ spread_map step refl all.places all.held ∙ ap (map step) c.self.view_is)
    c.start_all.ensures.started

pub returns-clause-some : goal.returns-clause-some
returns-clause-some c =
    let all = c.self.inside in
    let now = c.start_all.new.holders in
    subst (λ hs. StartsSome c.args.group hs (spread all.places now)) c.self.view_is
    (spread_some c.args.group all.places all.held now (some_front c.args.group all.held now c.start_all.ensures.some))
