use Rattle.rt_live_names.specs.Fronts.{callers_of}
use Rattle.rt_store.specs.Contents.{starting_of}
use Rattle.rt_live.proofs.grounding.live_input.Given as goal

abbrev pub ghosts-run_to_text : goal.ghosts-run_to_text
ghosts-run_to_text g a = record { names = a.blanks; starting = starting_of a.input.setup; callers = callers_of a.input.setup }
