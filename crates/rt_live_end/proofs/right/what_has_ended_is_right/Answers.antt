use Rattle.rt_live_end.proofs.Answering.{answers_right, whole_answers}
use Rattle.rt_live_end.proofs.Giving.{commits_right, gives_rightly, replicas_held}
use Rattle.rt_live_end.proofs.Rightly.{always_tiled, ended_right, is_input}
use Rattle.rt_live_end.proofs.Sound.{ended_sound, files_right}
use Rattle.rt_live_end.proofs.right.what_has_ended_is_right.Goals as goal

pub returns : goal.returns
returns c = record {
  sound = ended_sound;
  files = files_right;
  tiled = always_tiled;
  commits = commits_right;
  replicas = replicas_held;
  pieces = gives_rightly;
  answers = answers_right;
  input = is_input;
  whole = whole_answers;
  right = ended_right;
}
