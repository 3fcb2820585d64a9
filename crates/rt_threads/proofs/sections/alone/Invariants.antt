use Rattle.rt_store.specs.Contents.{starting_of}
use Rattle.rt_threads.proofs.sections.alone.Given as goal

-- the ground has the names that its blanks have, starts as the setup says, and has so many callers
abbrev pub ghosts-alone : goal.ghosts-alone
ghosts-alone g a = record { names = a.blanks; starting = starting_of a.setup.now; callers = 1 }
