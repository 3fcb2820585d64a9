use Rattle.rt_live_nodes.specs.Founding.{names_of}
use Rattle.rt_live.proofs.running.run.Given as goal

abbrev pub ghosts-run_named : goal.ghosts-run_named
ghosts-run_named g a = record { names = names_of a.input a.links a.asked.items }
