use Rattle.rt_store.specs.Contents.{starting_of}
use Rattle.rt_threads.proofs.sections.apart.Given as goal

-- the ground has the names that its blanks have, starts as the setup says, and has so many callers
abbrev pub ghosts-apart : goal.ghosts-apart
ghosts-apart g a = record { names = a.blanks; starting = starting_of a.setup.now; callers = 3 }
