use Rattle.rt_live_names.proofs.Posting.{posts_more, sends_keeps}
use Rattle.rt_live_names.proofs.laws.a_nodes_posts_accept_what_it_sent.Goals as goal

pub returns-clause-sends : goal.returns-clause-sends
returns-clause-sends c = sends_keeps

pub returns-clause-more : goal.returns-clause-more
returns-clause-more c = posts_more
