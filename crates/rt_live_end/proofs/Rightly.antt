-- An ended cluster is right.
use Rattle.std.proofs.Common.{ap, ◌∙◌}
use Rattle.rt_live_names.specs.Names.{Names}
use Rattle.rt_stream.specs.Log.{Log, messages_of}
use Rattle.rt_live_end.specs.Ended.{Ended, IsEnded}
use Rattle.rt_live_end.specs.Right.{AreAlwaysTiled, IsInput, IsRight, past_of}
use Rattle.rt_live_end.proofs.Answering.{answers_right, log_is_input, whole_answers}
use Rattle.rt_live_end.proofs.Giving.{commits_right, gives_rightly, replicas_held}
use Rattle.rt_live_end.proofs.Sound.{ended_sound, files_right}
use Rattle.rt_live_end.proofs.Streaming.{messages_are_the_inputs}
use Rattle.rt_live_end.proofs.Tiling.{tiled_within}

module _ (n : Names) (e : Ended) (k : IsEnded n e) where
  pub always_tiled : AreAlwaysTiled n e
  always_tiled h p begins front inside = tiled_within n.setup (past_of n e) (ended_sound n e k) p inside h begins front

  pub is_input : IsInput n (past_of n e).log
  is_input = record {
    whole = log_is_input n e k;
    messages = λ p inside. ap (λ (l : Log). messages_of l p) (log_is_input n e k) ∙ messages_are_the_inputs n.setup.partitions n.rows p inside;
  }

  pub ended_right : IsRight n e
  ended_right = record {
    own = k.met;
    ground = k.ground;
    sound = ended_sound n e k;
    files = files_right n e k;
    tiled = always_tiled;
    commits = commits_right n e k;
    replicas = replicas_held n e k;
    pieces = gives_rightly n e k;
    answers = answers_right n e k;
    input = is_input;
    whole = whole_answers n e k;
  }
