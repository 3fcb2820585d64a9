use Rattle.rt_deep.proofs.Seeing.{get_once, puts_once}
use Rattle.rt_deep.proofs.laws.a_path_has_one_file.Goals as goal

pub returns : goal.returns
returns c = record { gets = get_once; puts = puts_once }
