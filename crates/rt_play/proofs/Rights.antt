-- Every safe world is right, every run keeps what it had, and what its answers miss has its cause.
use Rattle.std.proofs.Common.{◌≡◌, List, Some, slice_get}
use Rattle.std.proofs.lemmas.List.Elements.{All-weaker}
use Rattle.rt_base.specs.declared.numbers.Instance.{Instance}
use Rattle.rt_model.specs.Setup.{IsSetup}
use Rattle.rt_model.specs.declared.setup.Setup.{Setup}
use Rattle.rt_macros.specs.Doing.{Reached}
use Rattle.rt_nodes.specs.declared.server_node.ServerNode.{ServerNode}
use Rattle.rt_play.proofs.Causes.{run_misses}
use Rattle.rt_play.specs.Headline.{HasItsPlan, IsRight, IsRightPast, IsRightServer, Keeps, RunsRightly}
use Rattle.rt_safety.proofs.Answering.{answers_right}
use Rattle.rt_safety.proofs.CommitOpens.{commit_opens}
use Rattle.rt_safety.proofs.CommitRuns.{commit_runs}
use Rattle.rt_safety.proofs.Later.{committed_stays, leads_on, runs_are_safe}
use Rattle.rt_safety.proofs.Worlds.{commit_is_right, copy_is_right, done_is_stored, file_is_right, has_chain, is_tiled, replica_is_right, reply_is_right, request_is_right, served_is_right}
use Rattle.rt_safety.specs.Runs.{Turn, Leads, Runs}
use Rattle.rt_state.proofs.NeedsServers.{finds_its_file}
use Rattle.rt_state.specs.IsSafeWorld.{IsSafeWorld}
use Rattle.rt_state.specs.declared.state.State.{State}
use Rattle.rt_views.proofs.RightViews.{hybrid_right, latest_right, views_each_have_plans, views_whole_have_plans}
use Rattle.rt_views.specs.Streamed.{IsViewOf}
use Rattle.rt_views.specs.Views.{views_each, views_whole}

past_is_right : (w : State) → IsSafeWorld w → IsRightPast w
past_is_right w safe = record {
  chained = λ p within. has_chain w p safe within;
  tiled = λ p within. is_tiled w p safe within;
  within = λ p q done commit was is. (done_is_stored w p q done commit safe was is).right.file.within.1;
  stored = λ p q done commit was is. done_is_stored w p q done commit safe was is;
  files = λ f has. file_is_right w f safe has;
  requests = λ q has. request_is_right w q safe has;
  replies = λ r has. reply_is_right w r safe has;
}

server_is_right : (w : State) → IsSafeWorld w → (i : Instance) (n : ServerNode) → slice_get w.servers i.0 ≡ Some n → IsRightServer w i n
server_is_right w safe i n there = record {
  replicas = λ p q r found. replica_is_right w i p q r safe found;
  rows = λ p q e c found rows. commit_is_right w i n safe there p q e c found rows;
  copies = λ p q file found. copy_is_right w i n safe there p q file found;
  serves = λ piece served order e. served_is_right w i n safe there piece served order e;
  downloads = λ p q. finds_its_file w i p q n safe there;
}

world_is_right : (w : State) → IsSafeWorld w → IsRight w
world_is_right w safe = record {
  past = past_is_right w safe;
  servers = server_is_right w safe;
  answers = λ q answer next steps. answers_right w next q answer safe steps;
  latest = λ config query. latest_right w config query safe;
  hybrid = λ table query same. hybrid_right w table query safe same;
  whole = All-weaker (IsViewOf w) (HasItsPlan w) (λ v k. k.pieces) (views_whole w) (views_whole_have_plans w safe);
  each = All-weaker (IsViewOf w) (HasItsPlan w) (λ v k. k.pieces) (views_each w) (views_each_have_plans w safe);
  opens = λ m c q node path place g next outcome asks at timely steps. commit_opens w m c q node path place g next outcome safe asks at timely steps;
  ends = λ c n a end left turns x r opened. commit_runs c n a end left w turns x r safe opened;
}

keeps_all : (w v : State) (turns : List Turn) → IsSafeWorld w → Leads w turns v → Keeps w v
keeps_all w v turns safe led = record { goes = leads_on w turns v safe led; committed = λ p within. committed_stays w turns v p safe within led }

-- a run of a cluster
pub runs_rightly : (setup : Setup) (last : Reached) → IsSetup setup → Runs setup last.turns last.world → RunsRightly setup last
runs_rightly setup last is runs = record {
  runs = runs;
  right = λ before after w whole run. world_is_right w (runs_are_safe setup before w is run);
  keeps = λ before between after w v whole run led. keeps_all w v between (runs_are_safe setup before w is run) led;
  misses = λ before after w whole run. run_misses setup before w is run;
}
