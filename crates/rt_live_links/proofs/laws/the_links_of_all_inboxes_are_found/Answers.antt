use Rattle.rt_live_links.proofs.Lines.{controllers_post, servers_post}
use Rattle.rt_live_links.proofs.laws.the_links_of_all_inboxes_are_found.Goals as goal

pub returns-clause-servers_post : goal.returns-clause-servers_post
returns-clause-servers_post c = servers_post

pub returns-clause-controllers_post : goal.returns-clause-controllers_post
returns-clause-controllers_post c = controllers_post
