use Rattle.rt_past.proofs.Sound.{stored_named}
use Rattle.rt_past.proofs.laws.a_stored_file_is_named.Goals as goal

pub returns : goal.returns
returns c = stored_named
