-- A controller's calls over stores that tell everything.
use Rattle.std.specs.Prelude.{ℕ, Option}
use Rattle.rt_base.specs.declared.numbers.Moment.{Moment}
use Rattle.rt_model.specs.declared.request.Request.{Request}
use Rattle.rt_store.specs.Meaning.{Told}
use Rattle.rt_commit.specs.Told.{ToldDeep, answer_to}
use Rattle.rt_controller.specs.Answers.{Handling}
use Rattle.rt_controller.specs.Controller.{Controlling}
use Rattle.rt_controller.specs.Requests.{handle_call, handle}
use Rattle.rt_controller.specs.Working.{Working, work_call, work}

-- a request over stores that tell everything
abbrev pub handled_on : Told → ToldDeep → Controlling → Request → Moment → Option Handling
handled_on t d c r now = handle c r now (answer_to t d (handle_call c r))

-- a step of the job of a number over stores that tell everything
abbrev pub worked_on : Told → ToldDeep → Controlling → ℕ → Moment → Option Working
worked_on t d c n now = work c n now (answer_to t d (work_call c n now))
