use Rattle.rt_past.proofs.Sound.{past_sound}
use Rattle.rt_past.proofs.laws.a_right_past_is_sound.Goals as goal

pub returns : goal.returns
returns c = past_sound
