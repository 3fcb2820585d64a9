use Rattle.std.proofs.Common.{sym}
use Rattle.rt_live_links.proofs.Dealt.{linked, rows_fit}
use Rattle.rt_live_links.proofs.linking.links.Goals as goal

pub deal_all-requires : goal.deal_all-requires
deal_all-requires c =
    rows_fit c.args.capacity c.args.servers c.in_ok-new_controllers.new_controllers.nodes.items _ _
    c.in_ok-new_controllers.ensures.rows (sym c.in_ok-new_servers.ensures.count)

pub deal_all-requires-2 : goal.deal_all-requires-2
deal_all-requires-2 c =
    rows_fit c.args.capacity c.args.controllers c.in_ok-new_servers.new_servers.nodes.items _ _
    c.in_ok-new_servers.ensures.rows (sym c.in_ok-new_controllers.ensures.count)

pub returns-clause-of_servers : goal.returns-clause-of_servers
returns-clause-of_servers c =
    let made = c.in_ok-new_servers.ensures in
    let others = c.in_ok-new_controllers.ensures in
    linked c.args.capacity c.args.servers c.args.controllers _ c.in_ok-deal_all.field-0.items _
    c.in_ok-deal_all-2.field-0.items _ made.count others.count made.nodes
    c.in_ok-deal_all.ensures.inboxes c.in_ok-deal_all.ensures.posts others.rows c.in_ok-deal_all-2.ensures.inboxes

pub returns-clause-of_controllers : goal.returns-clause-of_controllers
returns-clause-of_controllers c =
    let made = c.in_ok-new_controllers.ensures in
    let others = c.in_ok-new_servers.ensures in
    linked c.args.capacity c.args.controllers c.args.servers _ c.in_ok-deal_all-2.field-0.items _
    c.in_ok-deal_all.field-0.items _ made.count others.count made.nodes
    c.in_ok-deal_all-2.ensures.inboxes c.in_ok-deal_all-2.ensures.posts others.rows c.in_ok-deal_all.ensures.inboxes
