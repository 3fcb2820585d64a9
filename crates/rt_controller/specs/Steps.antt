-- What each call of a controller promises, by what the stores mean before it and after it.
use Rattle.std.specs.Prelude.{◌≡◌, ℕ, List, Option, Some, None, Result, Ok, Err, slice_get}
use Rattle.rt_base.specs.declared.numbers.Moment.{Moment}
use Rattle.rt_model.specs.declared.job_step.JobStep.{JobStep}
use Rattle.rt_model.specs.declared.node.Seen.{Seen}
use Rattle.rt_model.specs.declared.request.Request.{Request}
use Rattle.rt_deep.specs.declared.refused.DeepRefused.{DeepRefused}
use Rattle.rt_deep.specs.declared.refused.DeepRefused.TheVariants as deep
use Rattle.rt_store.specs.declared.refused.StoreRefused.{StoreRefused}
use Rattle.rt_store.specs.declared.refused.StoreRefused.TheVariants.{NoNode, Exists, VersionChanged, Failed}
use Rattle.rt_store.specs.declared.refused.StoreRefused.TheVariants as store
use Rattle.rt_store.specs.Meaning.{Meaning}
use Rattle.rt_commit.specs.Calls.{Makes, RanOut, DeepMeaning}
use Rattle.rt_commit.specs.Steps.{MayStepAt}
use Rattle.rt_controller.specs.declared.handled.Handled.{Handled}
use Rattle.rt_controller.specs.declared.handled.JobRefused.TheVariants.{NoJob, Memory}
use Rattle.rt_controller.specs.declared.handled.JobRefused.{JobRefused}
use Rattle.rt_controller.specs.Answers.{Handling}
use Rattle.rt_controller.specs.Controller.{Controlling}
use Rattle.rt_controller.specs.Requests.{Turn, call_of, handled_at, turn_of}
use Rattle.rt_controller.specs.Working.{job_place, work, work_call, work_at, work_call_at}

-- a request: with some answer that its call could give
abbrev pub HandlesAt : {E : Type 0} → Meaning → Meaning → DeepMeaning → DeepMeaning → Controlling → Request → Moment → Turn → Controlling → Result Handled E → Type 0
HandlesAt s t d e c r now turn after (Ok what) =
    Makes s t d e (call_of r turn) (λ answer. handled_at c r now turn answer ≡ Some (record { controller = after; handled = what }))
HandlesAt s t d e c r now turn after (Err refused) = (after ≡ c) × RanOut s t d e

abbrev pub Handles : {E : Type 0} → Meaning → Meaning → DeepMeaning → DeepMeaning → Controlling → Request → Moment → Controlling → Result Handled E → Type 0
Handles s t d e c r now after result = HandlesAt s t d e c r now (turn_of c r) after result

-- a step of the job of a number, exactly where there is one
abbrev pub Works : Meaning → Meaning → DeepMeaning → DeepMeaning → Controlling → ℕ → Moment → Controlling → Result JobStep JobRefused → Type 0
Works s t d e c n now after (Ok step) =
    Makes s t d e (work_call c n now) (λ answer. work c n now answer ≡ Some (record { controller = after; step = step }))
Works s t d e c n now after (Err NoJob) = (job_place c.jobs n ≡ None) × (after ≡ c) × (t ≡ s) × (e ≡ d)
Works s t d e c n now after (Err Memory) = (after ≡ c) × RanOut s t d e

-- ---- parts of it

-- the step of the job at a place
abbrev pub WorksAt : {E : Type 0} → Meaning → Meaning → DeepMeaning → DeepMeaning → Controlling → Moment → ℕ → Controlling → Result JobStep E → Type 0
WorksAt s t d e c now place after (Ok step) =
    Makes s t d e (work_call_at c now (slice_get c.jobs place)) (λ answer.
    work_at c now answer place (slice_get c.jobs place) ≡ Some (record { controller = after; step = step }))
WorksAt s t d e c now place after (Err refused) = (after ≡ c) × RanOut s t d e

-- memory runs out in the call or after a node was read
abbrev pub MayRunOutReading : Result Seen StoreRefused → Type 0
MayRunOutReading (Ok w) = Unit {0}
MayRunOutReading (Err NoNode) = ⊥
MayRunOutReading (Err (Exists found)) = ⊥
MayRunOutReading (Err (VersionChanged expected found)) = ⊥
MayRunOutReading (Err Failed) = ⊥
MayRunOutReading (Err store.Memory) = Unit {0}

abbrev pub Hands : {E : Type 0} → Controlling → Option Handling → Controlling → Result Handled E → Type 0
Hands old given new (Ok what) = given ≡ Some (record { controller = new; handled = what })
Hands old given new (Err refused) = new ≡ old

abbrev pub HandsRead : {E : Type 0} → Result Seen StoreRefused → Controlling → Option Handling → Controlling → Result Handled E → Type 0
HandsRead answer old given new (Ok what) = given ≡ Some (record { controller = new; handled = what })
HandsRead answer old given new (Err refused) = MayRunOutReading answer × (new ≡ old)

-- what the answer to a put tells; a controller that it leaves as it was
abbrev pub Tells : {E : Type 0} → Result (Unit {0}) DeepRefused → Controlling → Option Handling → Result Handled E → Type 0
Tells answer c given (Ok what) = given ≡ Some (record { controller = c; handled = what })
Tells answer c given (Err refused) = answer ≡ Err deep.Memory

abbrev pub MayStepOn : List Seen → Controlling → Moment → Option ℕ → Type 0
MayStepOn seen c now None = Unit {0}
MayStepOn seen c now (Some place) = MayStepAt seen c.assigned now (slice_get c.jobs place)
