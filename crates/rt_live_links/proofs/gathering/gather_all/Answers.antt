use Rattle.std.proofs.Common.{◌∙◌, ap}
use Rattle.rt_live_links.specs.Gathered.{gathering}
use Rattle.rt_live_links.specs.Rows.{onto_all}
use Rattle.rt_live_links.proofs.Ended.{gathered, rows_fit}
use Rattle.rt_live_links.proofs.gathering.gather_all.Goals as goal

pub gather_rows-requires-clause-lines : goal.gather_rows-requires-clause-lines
gather_rows-requires-clause-lines c =
    rows_fit c.args.servers.items c.args.controllers.items _ _ c.requires.controllers
    c.in_ok-of_controllers.ensures.rows c.in_ok-of_servers.ensures.inboxes

pub gather_rows-requires-2-clause-lines : goal.gather_rows-requires-2-clause-lines
gather_rows-requires-2-clause-lines c =
    rows_fit c.args.controllers.items c.args.servers.items _ _ c.requires.servers
    c.in_ok-of_servers.ensures.rows c.in_ok-of_controllers.ensures.inboxes

pub returns-clause-servers : goal.returns-clause-servers
returns-clause-servers c =
    let rows = c.in_ok-of_controllers.of_controllers.rows.items in
    gathered c.args.controllers.items c.args.servers.items c.gather_rows.result.items rows
    c.requires.controllers c.requires.servers c.in_ok-of_controllers.ensures.rows
    (c.gather_rows.ensures.inboxes ∙ ap (λ l. onto_all gathering l rows) c.in_ok-of_servers.ensures.inboxes)
    c.gather_rows.ensures.rightly

pub returns-clause-controllers : goal.returns-clause-controllers
returns-clause-controllers c =
    let rows = c.in_ok-of_servers.of_servers.rows.items in
    gathered c.args.servers.items c.args.controllers.items c.gather_rows-2.result.items rows
    c.requires.servers c.requires.controllers c.in_ok-of_servers.ensures.rows
    (c.gather_rows-2.ensures.inboxes ∙ ap (λ l. onto_all gathering l rows) c.in_ok-of_controllers.ensures.inboxes)
    c.gather_rows-2.ensures.rightly
