use Rattle.rt_store.proofs.Told.{leaves_on, grows_on, lawful_called, read_same}
use Rattle.rt_store.proofs.told_laws.what_told_calls_leave.Goals as goal

pub returns : goal.returns
returns c = record { leaves = leaves_on; grows = grows_on; lawful = lawful_called; reads = read_same }
