use Rattle.rt_live_end.proofs.Owns.{commit_controllers, file_controllers, stream_is_input}
use Rattle.rt_live_end.proofs.ended.what_stands_is_a_nodes_own.Goals as goal

pub returns : goal.returns
returns c = record {
  commits = λ n e w k has done. let x = commit_controllers n e k w has done in (x.controller, x.node, x.own);
  files = λ n e f k has. let x = file_controllers n e k f has in (x.controller, x.node, x.own);
  messages = stream_is_input;
}
