use Rattle.rt_model.proofs.Starts.{boot_starts}
use Rattle.rt_model.proofs.laws.every_server_starts_with_its_boot_node.Goals as goal

pub returns : goal.returns
returns c = boot_starts
