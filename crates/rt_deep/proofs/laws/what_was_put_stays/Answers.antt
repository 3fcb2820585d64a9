use Rattle.rt_deep.proofs.Files.{file_of-stays}
use Rattle.rt_deep.proofs.laws.what_was_put_stays.Goals as goal

pub returns : goal.returns
returns c = file_of-stays
