-- What the lines of a script do to its pause, and what a paused script holds back.
use Rattle.std.specs.Prelude.{ℕ, true, List, [], ◌∷◌, Option, Some}
use Rattle.rt_desk.specs.Paused.{Allowed, LeadsBy}
use Rattle.rt_lines.specs.Header.{NumberedLine}
use Rattle.rt_lines.specs.declared.play_fault.PlayFault.{PlayFault}
use Rattle.rt_macros.specs.Doing.{Reached}
use Rattle.rt_model.specs.declared.setup.Setup.{Setup}
use Rattle.rt_pause.specs.Paused.{Turn as Pausing, neither, pauses, resumes}
use Rattle.rt_play.specs.Going.{Going}
use Rattle.rt_play.specs.Report.{Runs, Stops, said_at}
use Rattle.rt_safety.specs.Runs.{Turn}
use Rattle.rt_script.specs.Line.{line_in}
use Rattle.rt_script.specs.declared.further.Further.TheVariants as further
use Rattle.rt_script.specs.declared.line.Line.{Line}
use Rattle.rt_script.specs.declared.line.Line.TheVariants as line

-- what a line does to the pause: `pause` begins one, `resume` ends it, and no other line does anything
abbrev pub pausing_of : Option Line → Pausing
pausing_of (Some (line.Further further.Pause)) = pauses
pausing_of (Some (line.Further further.Resume)) = resumes
pausing_of other = neither

-- what each of these lines does
abbrev pub pausings_of : Setup → List NumberedLine → List Pausing
pausings_of setup [] = []
pausings_of setup (line ∷ lines) = pausing_of (line_in setup line.1) ∷ pausings_of setup lines

-- a line that comes next leads on by turns of which none has a replica begin to consume, and so it does where it stops the run
pub record HoldsBack (line : NumberedLine) (g : Going) : Type 0 where
  pub runs : (turns : List Turn) (h : Going) (text : List ℕ) → Runs (said_at g line) g turns h text → LeadsBy (Allowed true) g.world turns h.world
  pub stops : (v : Reached) (why : PlayFault) → Stops line.0 (said_at g line) g v why → LeadsBy (Allowed true) g.world v.turns v.world
