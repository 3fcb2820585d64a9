use Rattle.rt_deep.proofs.Told.{leaves_on, grows_on, once_on, get_same}
use Rattle.rt_deep.proofs.told_laws.what_told_calls_leave.Goals as goal

pub returns : goal.returns
returns c = record { leaves = leaves_on; grows = grows_on; once = once_on; gets = get_same }
