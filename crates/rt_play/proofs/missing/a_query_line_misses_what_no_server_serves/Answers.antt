use Rattle.rt_play.proofs.Misses.{query_misses}
use Rattle.rt_play.proofs.missing.a_query_line_misses_what_no_server_serves.Goals as goal

pub returns : goal.returns
returns c = query_misses
